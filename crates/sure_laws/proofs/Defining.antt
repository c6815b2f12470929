-- What a write is bound to, and what CREATE asks, which inserts alone; and how statements stand around their work.
use Rattle.std.proofs.Common.{ℕ, Bool, true, false, if◌then◌else◌, is_ok, List, Option, Some, None, Result, Err}
use Rattle.std.specs.Prelude.{not}
use Rattle.tsql_tree.specs.declared.definition.Definition.{Definition}
use Rattle.tsql_tree.specs.declared.definition.Definition.TheVariants.{Table, Procedure, Trigger}
use Rattle.tsql_tree.specs.declared.definition.TableTree.{TableTree}
use Rattle.tsql_tree.specs.declared.statement.Statement.{Statement}
use Rattle.bound_tree.specs.declared.write.Bound.{Bound}
use Rattle.binder.specs.Names.{looked_up}
use Rattle.clause_binder.specs.Scope.{is_long}
use Rattle.table_rows.specs.Definitions.{is_objects}
use Rattle.step_model.specs.declared.manner.Manner.{Manner}
use Rattle.step_model.specs.declared.op.Op.{Op}
use Rattle.step_model.specs.declared.op.Op.TheVariants as ops
use Rattle.step_model.specs.declared.reply.Reply.{Reply}
use Rattle.step_model.specs.declared.reply.Reply.TheVariants as replies
use Rattle.batch_meaning.specs.declared.failure.Failure.{Failure}
use Rattle.batch_meaning.specs.Asking.{◌>>=◌, fails, fails_naming, look_up, marked, takes_back, unless_refused, where_done, with_room}
use Rattle.batch_meaning.specs.Changing.{created, object_present, unknown_table}
use Rattle.batch_meaning.specs.Doing.{Doing, asks, over, ◌then◌}
use Rattle.batch_meaning.specs.Raised.{Around}
use Rattle.batch_meaning.specs.Selecting.{Effect}
use Rattle.batch_meaning.specs.Values.{outside_limits}
use Rattle.batch_meaning.specs.Working.{asks_any, binds, enters, known_by, leaves, own, prepares}
use Rattle.batch_meaning.specs.Writes.{creates, creates_definition, creates_table, inserted, is_odd_procedure, puts_definition, unless_objects, where_table}
use Rattle.statement_paths.proofs.Looking.{look_reads}
use Rattle.statement_paths.proofs.Only.{AnyStep, Only, only_bind, only_naming, only_room}
use Rattle.sound_laws.proofs.Preparing.{prepares_read}
use Rattle.sound_laws.proofs.Statements.{enters_still, leaves_still}
use Rattle.sound_laws.proofs.Steps.{IsStill}
use Rattle.sound_laws.proofs.Trees.{WritesNothing, only_more, only_refused}
use Rattle.sure_laws.proofs.Sures.{Any, IsCalm}
use Rattle.sure_laws.proofs.Trees.{Surely, sures_calm, sures_room, sures_then}
use Rattle.sure_laws.proofs.Changing.{each_bind, reads_sure}

-- ---- one thing behind another

still_calm : (op : Op) → IsStill op → IsCalm op
still_calm (ops.Insert table key row) still = absurd still
still_calm (ops.Replace table key row) still = absurd still
still_calm (ops.Erase table key) still = absurd still
still_calm (ops.Fetch table start stop hold part) still = tt
still_calm ops.Begin still = tt
still_calm ops.Mark still = tt
still_calm (ops.BackTo mark) still = tt
still_calm ops.Relax still = tt
still_calm ops.Commit still = tt
still_calm ops.Rollback still = tt

module _ (manner : Manner) where
  pub surely_still : {A : Type 0} (tree : Doing A) → WritesNothing tree → Surely manner tree
  surely_still tree still before = sures_calm manner before tree (only_more AnyStep IsStill IsCalm still_calm tree still)

  pub surely_then : {A B : Type 0} (tree : Doing A) (go : A → Doing B) → Surely manner tree → ((a : A) → Surely manner (go a)) → Surely manner (tree then go)
  surely_then tree go first second before = sures_then manner Any Any before tree go (first before) (λ a behind any. second a behind)

  pub surely_if : {A : Type 0} (test : Bool) (one other : Doing A) → Surely manner one → Surely manner other → Surely manner (if test then one else other)
  surely_if true one other first second = first
  surely_if false one other first second = second

  pub surely_bind : {A B : Type 0} (tree : Doing (Result A Failure)) (go : A → Doing (Result B Failure)) → Surely manner tree → ((a : A) → Surely manner (go a)) → Surely manner (tree >>= go)
  surely_bind tree go first second before = each_bind manner before tree go (first before) (λ a behind. second a behind)

  pub surely_room : {A : Type 0} (tree : Doing (Result A Failure)) → Surely manner tree → Surely manner (with_room tree)
  surely_room tree sure before = sures_room manner Any before tree (λ failure. tt) (sure before)

  -- in a transaction of its own, or the open one
  pub own_surely : {A : Type 0} (asks_some : Bool) (work : Doing (Result A Failure)) → Surely manner work → Surely manner (own asks_some work)
  unfolding own
  own_surely asks_some work sure = surely_bind (enters asks_some) _ (surely_still (enters asks_some) (enters_still asks_some))
      (λ home. surely_then work _ sure (λ came. surely_then (leaves home (is_ok came)) _ (surely_still (leaves home (is_ok came)) (leaves_still home (is_ok came))) (λ done before. tt)))

  binds_surely : {A : Type 0} (around : Around) (statement : Statement) (go : List TableTree → Bound → Doing (Result A Failure)) → ((shapes : List TableTree) (of : Bound) → Surely manner (go shapes of)) → Surely manner (binds around statement go)
  unfolding binds
  binds_surely around statement go sure = surely_bind (prepares around statement) _ (λ before. reads_sure manner before (prepares around statement) (prepares_read around statement)) (λ made. sure made.0 made.1)

  -- ---- CREATE

  back_calm : (failure : Failure) (reply : Reply) → Only AnyStep IsCalm {A = Result (Unit {0}) Failure} (where_done (over (Err failure)) reply)
  back_calm failure replies.Done = tt
  back_calm failure reply = tt

  inserted_calm : (mark : ℕ) (name : List ℕ) (reply : Reply) → Only AnyStep IsCalm (inserted mark name reply)
  unfolding takes_back
  inserted_calm mark name replies.Done = tt
  inserted_calm mark name replies.Exists = λ enough. (tt, λ reply can. back_calm _ reply)
  inserted_calm mark name replies.Memory = (tt, λ reply can. back_calm _ reply)
  inserted_calm mark name (replies.TimedOut holder held wanted on) = (tt, λ reply can. back_calm _ reply)
  inserted_calm mark name (replies.Victim cycle) = (tt, λ reply can. back_calm _ reply)
  inserted_calm mark name reply = tt

  put_surely : (name text : List ℕ) → Surely manner (creates name text)
  unfolding creates
  put_surely name text before = sures_calm manner before (creates name text) (only_bind AnyStep IsCalm (with_room (asks ops.Mark (unless_refused (marked λ mark. asks (created name text) (inserted mark name))))) _
      (only_room AnyStep IsCalm (asks ops.Mark (unless_refused (marked λ mark. asks (created name text) (inserted mark name))))
      (tt, λ reply can. only_refused IsCalm (marked λ mark. asks (created name text) (inserted mark name)) by_mark reply)) (λ put. tt))
    where
      by_mark : (reply : Reply) → Only AnyStep IsCalm {A = Result (Unit {0}) Failure} (marked (λ mark. asks (created name text) (inserted mark name)) reply)
      by_mark (replies.Marked mark) = (tt, λ reply can. inserted_calm mark name reply)
      by_mark reply = tt

  unless_surely : (name : List ℕ) (tree : Doing (Result Effect Failure)) → Surely manner tree → Surely manner (unless_objects name tree)
  unless_surely name tree sure = surely_if (is_objects name) (fails_naming object_present name) tree (surely_still (fails_naming object_present name) (only_naming AnyStep IsStill Effect object_present name)) sure

  pub creates_surely : (around : Around) (statement : Statement) (name text : List ℕ) → Surely manner (creates_table around statement name text)
  unfolding creates_table
  creates_surely around statement name text = surely_room _ (surely_if (asks_any (known_by around statement) (looked_up statement)) _ _
      (own_surely true (binds around statement λ shapes of. unless_objects name (creates name text)) (binds_surely around statement (λ shapes of. unless_objects name (creates name text)) (λ shapes of. unless_surely name (creates name text) (put_surely name text))))
      (binds_surely around statement (λ shapes of. unless_objects name (own true (creates name text))) (λ shapes of. unless_surely name (own true (creates name text)) (own_surely true (creates name text) (put_surely name text)))))

  outside_surely : (outside : Bool) (name : List ℕ) (tree : Doing (Result Effect Failure)) → Surely manner tree → Surely manner (puts_definition outside name tree)
  outside_surely outside name tree sure = surely_if outside (fails outside_limits) (unless_objects name tree) (λ before. tt) (unless_surely name tree sure)

  pub defines_surely : (of : Definition) (text : List ℕ) → Surely manner (creates_definition of text)
  unfolding creates_definition
  defines_surely (Table table) text = λ before. tt
  defines_surely (Procedure procedure) text = surely_room _ (outside_surely (is_odd_procedure procedure) procedure.name (own true (creates procedure.name text)) (own_surely true (creates procedure.name text) (put_surely procedure.name text)))
  defines_surely (Trigger trigger) text = surely_room _ (own_surely (not (is_objects trigger.table)) _ (surely_bind (look_up trigger.table) _ (λ before. reads_sure manner before (look_up trigger.table) (look_reads trigger.table)) by_found))
    where
      put : Doing (Result Effect Failure)
      put = puts_definition (is_long trigger.name) trigger.name (creates trigger.name text)

      none : Surely manner {A = Result Effect Failure} (fails_naming unknown_table trigger.table)
      none = surely_still (fails_naming unknown_table trigger.table) (only_naming AnyStep IsStill Effect unknown_table trigger.table)

      by_found : (found : Option Definition) → Surely manner (where_table trigger.table put found)
      by_found (Some (Table table)) = surely_if _ put (fails_naming unknown_table trigger.table) (outside_surely (is_long trigger.name) trigger.name (creates trigger.name text) (put_surely trigger.name text)) none
      by_found (Some (Procedure procedure)) = none
      by_found (Some (Trigger other)) = none
      by_found None = none
