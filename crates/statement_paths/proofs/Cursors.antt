-- The statements on cursors: all but OPEN ask nothing, and what OPEN does with what its select is bound to only reads.
use Rattle.std.proofs.Common.{ℕ, ◌==◌, nat_lt, pos, List, [], length, Option, Some, None, Result, Ok, Err}
use Rattle.value_types.specs.declared.sql_type.SqlType.{SqlType}
use Rattle.value_types.specs.declared.value.Value.{Value}
use Rattle.tsql_tree.specs.declared.definition.TableTree.{TableTree}
use Rattle.tsql_tree.specs.declared.query.Select.{Select}
use Rattle.tsql_tree.specs.declared.statement.Statement.{Statement, out-Statement}
use Rattle.bound_tree.specs.declared.query.BoundQuery.{BoundQuery}
use Rattle.bound_tree.specs.declared.write.Bound.{Bound}
use Rattle.bound_tree.specs.declared.write.Bound.TheVariants as bound
use Rattle.step_model.specs.declared.op.Op.{Op}
use Rattle.step_model.specs.Dialog.{IsQuiet}
use Rattle.session_cursors.specs.declared.fault.CursorFault.{CursorFault}
use Rattle.session_cursors.specs.declared.fault.CursorFault.TheVariants.{NoSuch, Present, AlreadyFilled, NotFilled, Memory}
use Rattle.session_cursors.specs.Cursors as list
use Rattle.statement_paths.specs.Asked.{IsFetch}
use Rattle.batch_meaning.specs.declared.failure.Failure.{Failure}
use Rattle.batch_meaning.specs.Raised.{Around}
use Rattle.batch_meaning.specs.Asking.{comes_to, fails, fails_naming, with_room}
use Rattle.batch_meaning.specs.Cursors.{already_there, answered, assigns_row, closes_cursor, declares_cursor, fails_for_cursor, fetches_cursor, fetches_into, fetches_row, fills_with, kinds_of, no_such_cursor, opens_bound, opens_cursor, opens_kept, other_count, removes_cursor, select_statement}
use Rattle.batch_meaning.specs.Databases.{context_tokens, is_database, no_database, tells_context, uses_database, uses_named}
use Rattle.batch_meaning.specs.Doing.{Doing, makes, over, reads}
use Rattle.batch_meaning.specs.Progress.{SessionProgress, SessionStep, size_of, declares, fetches, fills, removes, shuts, tells_fetch, touches}
use Rattle.batch_meaning.specs.Selecting.{Effect, bound_over, no_effect, result_full, sending}
use Rattle.batch_meaning.specs.Transactions.{bound_first}
use Rattle.batch_meaning.specs.Values.{Assigned, assigned_to}
use Rattle.batch_meaning.specs.Working.{answers, within}
use Rattle.statement_paths.proofs.Only.{IsTouch, Only, only_bind, only_comes, only_if, only_mono, only_naming, only_room}
use Rattle.statement_paths.proofs.Still.{Reads}
use Rattle.statement_paths.proofs.Statements.{NoOp}
use Rattle.statement_paths.proofs.Working.{answers_read}
use Rattle.statement_paths.proofs.Works.{IsOwnStep, Owns, fetch_quiet}

-- ---- what asks nothing

-- a step of a statement on cursors
abbrev pub IsCursorStep : SessionStep → Type 0
IsCursorStep (declares name select) = Unit {0}
IsCursorStep (fetches name) = Unit {0}
IsCursorStep (shuts name) = Unit {0}
IsCursorStep (removes name) = Unit {0}
IsCursorStep (tells_fetch status) = Unit {0}
IsCursorStep step = ⊥

abbrev pub Silent : {A : Type 0} → Doing A → Type 0
Silent tree = Only IsCursorStep NoOp tree

module _ (Steps : SessionStep → Type 0) (Ops : Op → Type 0) where
  pub only_first : (statement : Statement) (go : SessionProgress → Doing (Result Effect Failure)) → ((p : SessionProgress) → Only Steps Ops (go p)) → Only Steps Ops (bound_first statement go)
  only_first statement go only =
      only_bind Steps Ops (reads λ p. comes_to (bound_over [] p.vars statement)) (λ of. with_room (reads go)) (λ p. only_comes Steps Ops (bound_over [] p.vars statement)) (λ of. only_room Steps Ops (reads go) only)

  pub only_fault : (A : Type 0) (name : List ℕ) (fault : CursorFault) → Only Steps Ops (fails_for_cursor {A = A} name fault)
  only_fault A name Present = only_naming Steps Ops A already_there name
  only_fault A name NoSuch = only_naming Steps Ops A no_such_cursor name
  only_fault A name AlreadyFilled = tt
  only_fault A name NotFilled = tt
  only_fault A name Memory = tt

  pub only_answered : {A B : Type 0} (name : List ℕ) (go : A → Doing (Result B Failure)) (answer : Result A CursorFault) → ((a : A) → Only Steps Ops (go a)) → Only Steps Ops (answered name go answer)
  only_answered name go (Ok a) only = only a
  only_answered {B = B} name go (Err fault) only = only_fault B name fault

  -- OPEN asks what its select asks
  pub only_opens : (around : Around) (statement : Statement) (name : List ℕ) → ((select : Select) → Only Steps Ops (within around (select_statement statement select) (opens_bound around name))) → Only Steps Ops (opens_cursor around statement name)
  unfolding opens_cursor
  only_opens around statement name only = only_first statement (λ p. answered name (opens_kept around statement name p) (list.query_of name p.cursors)) (λ p.
      only_answered name (opens_kept around statement name p) (list.query_of name p.cursors) (λ select.
      only_answered name (λ done. within around (select_statement statement select) (opens_bound around name)) (list.fill_answer name p.cursors) (λ done. only select)))

  -- one step of its own
  only_step : (statement : Statement) (name : List ℕ) (step : SessionStep) (answer : SessionProgress → Result (Unit {0}) CursorFault) → Steps step → Only Steps Ops (bound_first statement λ p. answered name (λ done. makes step (over (Ok no_effect))) (answer p))
  only_step statement name step answer is = only_first statement (λ p. answered name (λ done. makes step (over (Ok no_effect))) (answer p)) (λ p. only_answered name (λ done. makes step (over (Ok no_effect))) (answer p) (λ done. (is, tt)))

pub declares_silent : (statement : Statement) (name : List ℕ) (select : Select) → Silent (declares_cursor statement name select)
unfolding declares_cursor
declares_silent statement name select = only_step IsCursorStep NoOp statement name (declares name select) (λ p. list.declare_answer name p.cursors) tt

pub closes_silent : (statement : Statement) (name : List ℕ) → Silent (closes_cursor statement name)
unfolding closes_cursor
closes_silent statement name = only_step IsCursorStep NoOp statement name (shuts name) (λ p. list.close_answer name p.cursors) tt

pub removes_silent : (statement : Statement) (name : List ℕ) → Silent (removes_cursor statement name)
unfolding removes_cursor
removes_silent statement name = only_step IsCursorStep NoOp statement name (removes name) (λ p. list.remove_answer name p.cursors) tt

-- USE makes no step
pub uses_silent : (around : Around) (statement : Statement) (name : List ℕ) → Silent (uses_database around statement name)
unfolding uses_database
uses_silent around statement name = only_first IsCursorStep NoOp statement (λ p. uses_named around statement name) (λ p.
    only_if IsCursorStep NoOp (is_database name) (tells_context (context_tokens around.procedure (pos (out-Statement statement).line))) (fails_naming no_database name)
    (λ q. only_if IsCursorStep NoOp (nat_lt q.bytes_left (size_of (context_tokens around.procedure (pos (out-Statement statement).line)))) (fails result_full)
    (over (Ok (sending (context_tokens around.procedure (pos (out-Statement statement).line))))) tt tt)
    (only_naming IsCursorStep NoOp Effect no_database name))

row_silent : (p : SessionProgress) (name : List ℕ) (variables : List (List ℕ)) (row : Option (List Value)) → Silent (fetches_row p name variables row)
row_silent p name variables None = (tt, tt)
row_silent p name variables (Some row) = only_room IsCursorStep NoOp (makes (fetches name) (assigns_row (assigned_to p.vars variables row))) (tt, by_sets (assigned_to p.vars variables row))
  where
    by_sets : (sets : Result (List Assigned) Failure) → Silent (assigns_row sets)
    by_sets (Ok sets) = (tt, tt)
    by_sets (Err failure) = tt

into_silent : (p : SessionProgress) (name : List ℕ) (variables : List (List ℕ)) (kinds : List SqlType) → Silent (fetches_into p name variables kinds)
into_silent p name variables kinds = only_if IsCursorStep NoOp (length variables == length kinds) (answered name (fetches_row p name variables) (list.next_of name p.cursors)) (fails other_count)
    (only_answered IsCursorStep NoOp name (fetches_row p name variables) (list.next_of name p.cursors) (row_silent p name variables)) tt

pub fetches_silent : (statement : Statement) (name : List ℕ) (variables : List (List ℕ)) → Silent (fetches_cursor statement name variables)
unfolding fetches_cursor
fetches_silent statement name variables = only_first IsCursorStep NoOp statement (λ p. answered name (fetches_into p name variables) (list.kinds_of name p.cursors))
    (λ p. only_answered IsCursorStep NoOp name (fetches_into p name variables) (list.kinds_of name p.cursors) (into_silent p name variables))

-- ---- what only reads

-- the statement's end has something to relax, or a cursor is filled
abbrev pub IsLookStep : SessionStep → Type 0
IsLookStep touches = Unit {0}
IsLookStep (fills name kinds rows) = Unit {0}
IsLookStep step = ⊥

-- fetches alone
abbrev pub Looks : {A : Type 0} → Doing A → Type 0
Looks tree = Only IsLookStep IsFetch tree

touch_look : (step : SessionStep) → IsTouch step → IsLookStep step
touch_look touches is = tt
touch_look step is = absurd is

look_own : (step : SessionStep) → IsLookStep step → IsOwnStep step
look_own touches is = tt
look_own (fills name kinds rows) is = tt
look_own step is = absurd is

pub reads_look : {A : Type 0} (tree : Doing A) → Reads tree → Looks tree
reads_look tree only = only_mono IsTouch IsLookStep IsFetch IsFetch touch_look (λ op is. is) tree only

pub looks_own : {A : Type 0} (tree : Doing A) → Looks tree → Owns tree
looks_own tree looks = only_mono IsLookStep IsOwnStep IsFetch IsQuiet look_own fetch_quiet tree looks

module _ (around : Around) (p0 : SessionProgress) (name : List ℕ) where
  fills_look : (shapes : List TableTree) (query : BoundQuery) → Looks (fills_with around name shapes query)
  unfolding fills_with
  fills_look shapes query = only_bind IsLookStep IsFetch (answers around shapes query) _ (reads_look (answers around shapes query) (answers_read around p0 shapes query))
      (λ rows. only_room IsLookStep IsFetch (makes (fills name (kinds_of query) rows) (over (Ok no_effect))) (tt, tt))

  pub opens_look : (shapes : List TableTree) (of : Bound) → Looks (opens_bound around name shapes of)
  opens_look shapes (bound.Query query) = fills_look shapes query
  opens_look shapes (bound.Assign query places) = tt
  opens_look shapes (bound.Write write) = tt
  opens_look shapes bound.Plain = tt
