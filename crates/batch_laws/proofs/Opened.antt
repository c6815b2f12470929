-- In a transaction that is open the work of a statement begins and ends none, so the state of it stays as it was, but for its savepoints.
use Rattle.std.specs.Prelude.{◌||◌, not}
use Rattle.std.proofs.Common.{◌≡◌, ℕ, Bool, true, false, if◌then◌else◌, is_ok, List, [], ◌∷◌, Option, Result, Ok, Err, refl, sym, ap, subst}
use Rattle.tsql_tree.specs.declared.definition.Definition.{Definition}
use Rattle.tsql_tree.specs.declared.definition.Definition.TheVariants.{Table, Procedure, Trigger}
use Rattle.tsql_tree.specs.declared.definition.TableTree.{TableTree}
use Rattle.tsql_tree.specs.declared.statement.DropKind.{DropKind}
use Rattle.tsql_tree.specs.declared.statement.Form.{Form-F}
use Rattle.tsql_tree.specs.declared.statement.Statement.{Statement}
use Rattle.bound_tree.specs.declared.write.Bound.{Bound}
use Rattle.binder.specs.Names.{Layer, form_of, looked_up}
use Rattle.table_rows.specs.Definitions.{is_objects}
use Rattle.step_model.specs.declared.op.Op.{Op}
use Rattle.step_model.specs.declared.op.Op.TheVariants as ops
use Rattle.step_model.specs.declared.reply.Reply.{Reply}
use Rattle.step_model.specs.declared.reply.Reply.TheVariants as replies
use Rattle.step_model.specs.Dialog.{IsQuiet}
use Rattle.step_model.specs.Exchange.{CanReply, Exchange}
use Rattle.step_model.specs.Ranges.{no_memory}
use Rattle.txn_rules.specs.declared.state.TxnState.{TxnState}
use Rattle.txn_rules.specs.Savepoints.{up_to}
use Rattle.clause_binder.specs.Scope.{is_long}
use Rattle.batch_meaning.specs.declared.failure.Failure.{Failure}
use Rattle.batch_meaning.specs.declared.home.Home.{Home}
use Rattle.batch_meaning.specs.declared.home.Home.TheVariants.{Nowhere, Open, Own}
use Rattle.batch_meaning.specs.Changing.{object_present}
use Rattle.batch_meaning.specs.Asking.{◌>>=◌, fails, fails_naming, on_ok, unless_refused, where_begun, where_done, with_room}
use Rattle.batch_meaning.specs.Doing.{Doing, over, reads, makes, defines, asks, room, never, ◌then◌, Held}
use Rattle.batch_meaning.specs.Progress.{SessionProgress, SessionStep, asked, assigns, fills, made, touches}
use Rattle.batch_meaning.specs.Raised.{Around}
use Rattle.batch_meaning.specs.Selecting.{Effect}
use Rattle.batch_meaning.specs.Values.{outside_limits}
use Rattle.batch_meaning.specs.Working.{asks_any, binds, enters, known_by, leaves, own, prepares, relaxes, status_bound, statuses, within, works, works_bound}
use Rattle.batch_meaning.specs.Writes.{change_bound, creates, creates_definition, creates_table, drops, is_odd_list, puts_definition, unless_objects}
use Rattle.statement_paths.specs.Paths.{changes_of, work_for}
use Rattle.statement_paths.proofs.Owned.{nothing_more}
use Rattle.batch_laws.proofs.Named.{dropping_works, trigger_works}
use Rattle.statement_paths.proofs.Working.{status_read}
use Rattle.statement_paths.proofs.Works.{IsOwnStep, Owns, Works, binds_work, change_works, creates_works, prepares_reads, reads_work, unless_works, worked_works, works_own}

-- an operation that neither begins nor ends a transaction
abbrev pub IsInside : Op → Type 0
IsInside ops.Begin = ⊥
IsInside ops.Commit = ⊥
IsInside ops.Rollback = ⊥
IsInside op = Unit {0}

-- a tree that asks only such where a transaction is open
abbrev pub Inside : {A : Type 0} → Doing A → Type 0
Inside (over a) = Unit {0}
Inside (reads look) = (p : SessionProgress) → p.is_open ≡ true → Inside (look p)
Inside (makes step next) = IsOwnStep step × Inside next
Inside (defines entry go) = (found : Option Definition) → Inside (go found)
Inside (asks op go) = IsInside op × ((reply : Reply) → CanReply op reply → Inside (go reply))
Inside (room go) = (enough : Bool) → Inside (go enough)
Inside never = Unit {0}

pub quiet_inside : (op : Op) → IsQuiet op → IsInside op
quiet_inside ops.Begin quiet = quiet
quiet_inside ops.Commit quiet = quiet
quiet_inside ops.Rollback quiet = quiet
quiet_inside op quiet = tt

pub owns_inside : {A : Type 0} (tree : Doing A) → Owns tree → Inside tree
owns_inside (over a) owns = tt
owns_inside (reads look) owns = λ p is. owns_inside (look p) (owns p)
owns_inside (makes step next) owns = (owns.0, owns_inside next owns.1)
owns_inside (defines entry go) owns = λ found. owns_inside (go found) (owns found)
owns_inside (asks op go) owns = (quiet_inside op owns.0, λ reply can. owns_inside (go reply) (owns.1 reply can))
owns_inside (room go) owns = λ enough. owns_inside (go enough) (owns enough)
owns_inside never owns = tt

works_inside : {A : Type 0} (tree : Doing A) → Works tree → Inside tree
works_inside tree works = owns_inside tree (works_own tree works)

inside_then : {A B : Type 0} (tree : Doing A) (go : A → Doing B) → Inside tree → ((a : A) → Inside (go a)) → Inside (tree then go)
unfolding ◌then◌
inside_then (over a) go inside more = more a
inside_then (reads look) go inside more = λ p is. inside_then (look p) go (inside p is) more
inside_then (makes step next) go inside more = (inside.0, inside_then next go inside.1 more)
inside_then (defines entry next) go inside more = λ found. inside_then (next found) go (inside found) more
inside_then (asks op next) go inside more = (inside.0, λ reply can. inside_then (next reply) go (inside.1 reply can) more)
inside_then (room next) go inside more = λ enough. inside_then (next enough) go (inside enough) more
inside_then never go inside more = tt

inside_if : {A : Type 0} (test : Bool) (first other : Doing A) → Inside first → Inside other → Inside (if test then first else other)
inside_if true first other one two = one
inside_if false first other one two = two

inside_bind : {A B : Type 0} (tree : Doing (Result A Failure)) (go : A → Doing (Result B Failure)) → Inside tree → ((a : A) → Inside (go a)) → Inside (tree >>= go)
inside_bind {A = A} {B = B} tree go inside more = inside_then tree (on_ok go) inside by_came
  where
    by_came : (came : Result A Failure) → Inside (on_ok go came)
    by_came (Ok a) = more a
    by_came (Err failure) = tt

inside_room : {A : Type 0} (tree : Doing (Result A Failure)) → Inside tree → Inside (with_room tree)
inside_room tree inside = λ enough. inside_if enough tree (fails no_memory) inside tt

inside_naming : (A : Type 0) (number : ℕ) (name : List ℕ) → Inside (fails_naming {A = A} number name)
inside_naming A number name = λ enough. inside_if enough (over (Err _)) (fails _) tt tt

inside_objects : (name : List ℕ) (tree : Doing (Result Effect Failure)) → Inside tree → Inside (unless_objects name tree)
inside_objects name tree inside = inside_if (is_objects name) (fails_naming object_present name) tree (inside_naming Effect object_present name) inside

-- ---- around the work

relaxes_inside : Inside relaxes
unfolding relaxes
relaxes_inside = λ p is. inside_if p.touched (asks ops.Relax (where_done nothing_more)) nothing_more (tt, by_reply) tt
  where
    by_reply : (reply : Reply) → CanReply ops.Relax reply → Inside (where_done nothing_more reply)
    by_reply replies.Done can = tt
    by_reply reply can = absurd can

module _ {A : Type 0} (work : Doing (Result A Failure)) (inside : Inside work) where
  abbrev behind : Home → Doing (Result A Failure)
  behind home = work then λ came. leaves home (is_ok came) then λ done. over came

  open_inside : Inside (behind Open)
  unfolding leaves
  open_inside = inside_then work (λ came. leaves Open (is_ok came) then λ done. over came) inside (λ came. inside_then relaxes (λ done. over came) relaxes_inside (λ done. tt))

  nowhere_inside : Inside (behind Nowhere)
  unfolding leaves ◌then◌
  nowhere_inside = inside_then work (λ came. leaves Nowhere (is_ok came) then λ done. over came) inside (λ came. tt)

  pub own_inside : (asks_some : Bool) → Inside (own asks_some work)
  unfolding own enters ◌then◌
  own_inside false = nowhere_inside
  own_inside true = λ p is. by_test p.is_open is
    where
      by_test : (test : Bool) → test ≡ true → Inside ((if test then over (Ok Open) else asks ops.Begin (unless_refused (where_begun (over (Ok Own))))) then on_ok behind)
      by_test true is = open_inside
      by_test false is = absurd (let no : false ≡ true = is in cc)

-- ---- every statement that is done with its effect

module _ (around : Around) (p0 : SessionProgress) (statement : Statement) where
  abbrev asks_some : Bool
  asks_some = asks_any (known_by around statement) (looked_up statement)

  within_inside : {A : Type 0} (go : List TableTree → Bound → Doing (Result A Failure)) → ((shapes : List TableTree) (of : Bound) → Works (go shapes of)) → Inside (within around statement go)
  unfolding within
  within_inside go works = inside_room (own asks_some (binds around statement go)) (own_inside (binds around statement go) (works_inside (binds around statement go) (binds_work around statement go works)) asks_some)

  works_of_inside : Inside (works around statement)
  unfolding works
  works_of_inside = within_inside (works_bound around (form_of statement)) (worked_works around p0 (form_of statement))

  pub statuses_inside : Inside (statuses around statement)
  unfolding statuses
  statuses_inside = within_inside (status_bound around) (λ shapes of. reads_work (status_bound around shapes of) (status_read around p0 shapes of))

  pub changes_inside : Inside (changes_of around statement)
  unfolding changes_of within
  changes_inside = within_inside (change_bound around) (change_works around p0)

  creates_inside : (name text : List ℕ) → Inside (creates_table around statement name text)
  unfolding creates_table binds
  creates_inside name text = inside_room _ (inside_if asks_some (own true first) second (own_inside first (works_inside first (binds_work around statement putting (λ shapes of. unless_works name (creates name text) (creates_works name text)))) true) second_inside)
    where
      putting : List TableTree → Bound → Doing (Result Effect Failure)
      putting shapes of = unless_objects name (creates name text)

      first : Doing (Result Effect Failure)
      first = binds around statement putting

      later : List TableTree → Bound → Doing (Result Effect Failure)
      later shapes of = unless_objects name (own true (creates name text))

      second : Doing (Result Effect Failure)
      second = binds around statement later

      second_inside : Inside second
      second_inside = inside_bind (prepares around statement) (λ made. later made.0 made.1) (works_inside (prepares around statement) (reads_work (prepares around statement) (prepares_reads around statement)))
          (λ made. inside_objects name (own true (creates name text)) (own_inside (creates name text) (works_inside (creates name text) (creates_works name text)) true))

  drops_inside : (kind : DropKind) (name : List ℕ) → Inside (drops around statement kind name)
  unfolding drops
  drops_inside kind name = inside_room _ (own_inside _ (works_inside _ (dropping_works around p0 statement kind name)) (asks_any (known_by around statement) (name ∷ [])))

  pub form_inside : (form : Layer) → Inside (work_for around statement form)
  form_inside (Form-F.CreateTable table text) = creates_inside table.name text
  form_inside (Form-F.Drop kind name) = drops_inside kind name
  form_inside form = works_of_inside

pub definition_inside : (of : Definition) (text : List ℕ) → Inside (creates_definition of text)
unfolding creates_definition
definition_inside (Table table) text = tt
definition_inside (Procedure procedure) text = inside_room _ (inside_puts (is_long procedure.name || is_odd_list procedure.parameters) procedure.name (own true (creates procedure.name text)) (own_inside (creates procedure.name text) (works_inside (creates procedure.name text) (creates_works procedure.name text)) true))
  where
    inside_puts : (outside : Bool) (name : List ℕ) (tree : Doing (Result Effect Failure)) → Inside tree → Inside (puts_definition outside name tree)
    inside_puts outside name tree inside = inside_if outside (fails outside_limits) (unless_objects name tree) tt (inside_objects name tree inside)
definition_inside (Trigger trigger) text = inside_room _ (own_inside _ (works_inside _ (trigger_works trigger text)) (not (is_objects trigger.table)))

-- ---- what stays

module _ (txn : TxnState) where
  abbrev IsIn : SessionProgress → Type 0
  IsIn q = (q.is_open ≡ true) × (q.txn ≡ record txn { saves = q.txn.saves })

  in_step : (step : SessionStep) (q : SessionProgress) → IsOwnStep step → IsIn q → IsIn (made step q)
  in_step touches q is now = now
  in_step (assigns place value) q is now = now
  in_step (fills name kinds rows) q is now = now
  in_step step q is now = absurd is

  in_op : (op : Op) (reply : Reply) (q : SessionProgress) → IsInside op → CanReply op reply → IsIn q → IsIn (asked op reply q)
  in_op (ops.BackTo mark) replies.Done q is can now = (now.0, ap (λ (t : TxnState). record t { saves = up_to mark q.txn.saves }) now.1)
  in_op (ops.Fetch table start stop hold part) (replies.Ended place) q is can now = absurd can
  in_op (ops.Insert table key row) (replies.Ended place) q is can now = absurd can
  in_op (ops.Replace table key row) (replies.Ended place) q is can now = absurd can
  in_op (ops.Erase table key) (replies.Ended place) q is can now = absurd can
  in_op ops.Mark (replies.Ended place) q is can now = absurd can
  in_op (ops.BackTo mark) (replies.Ended place) q is can now = absurd can
  in_op ops.Relax (replies.Ended place) q is can now = absurd can
  in_op ops.Begin reply q is can now = absurd is
  in_op ops.Commit reply q is can now = absurd is
  in_op ops.Rollback reply q is can now = absurd is
  in_op op reply q is can now = now

  pub inside_keeps : {A : Type 0} (tree : Doing A) (q new : SessionProgress) (exchanges : List Exchange) (a : A) → Inside tree → Held tree q exchanges a new → IsIn q → IsIn new
  unfolding Held
  inside_keeps (over c) q new exchanges a inside held now = subst IsIn (sym held.2) now
  inside_keeps (reads look) q new exchanges a inside held now = inside_keeps (look q) q new exchanges a (inside q now.0) held now
  inside_keeps (makes step next) q new exchanges a inside held now = inside_keeps next (made step q) new exchanges a inside.1 held (in_step step q inside.0 now)
  inside_keeps (defines entry go) q new exchanges a inside held now = inside_keeps (go held.0) q new exchanges a (inside held.0) held.2 now
  inside_keeps (asks op go) q new [] a inside held now = absurd held
  inside_keeps (asks op go) q new (x ∷ later) a inside held now = inside_keeps (go x.reply) (asked op x.reply q) new later a (inside.1 x.reply held.2) held.3 (in_op op x.reply q inside.0 held.2 now)
  inside_keeps (room go) q new exchanges a inside held now = inside_keeps (go held.0) q new exchanges a (inside held.0) held.1 now
  inside_keeps never q new exchanges a inside held now = absurd held

-- where a transaction was open the same one is
pub stays_in : {A : Type 0} (tree : Doing A) (p new : SessionProgress) (exchanges : List Exchange) (came : A) → Inside tree → p.is_open ≡ true → Held tree p exchanges came new → new.txn ≡ record p.txn { saves = new.txn.saves }
stays_in tree p new exchanges came inside is held = (inside_keeps p.txn tree p new exchanges came inside held (is, refl)).1
