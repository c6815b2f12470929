-- The work of a statement within its transaction makes no step but that it assigns variables and asks for its locks' end, and neither begins
-- nor ends a transaction. So it leaves the session as it was, but for its variables and its savepoints.
use Rattle.std.proofs.Common.{◌≡◌, ℕ, true, List, [], ◌∷◌, length, Option, None, Some, Result, Ok, Err, refl, ap, ◌∙◌}
use Rattle.value_types.specs.Units.{same_units}
use Rattle.tsql_tree.specs.declared.definition.Definition.{Definition}
use Rattle.tsql_tree.specs.declared.definition.Definition.TheVariants.{Table, Procedure, Trigger}
use Rattle.tsql_tree.specs.declared.definition.TableTree.{TableTree}
use Rattle.tsql_tree.specs.declared.statement.DropKind.{DropKind}
use Rattle.tsql_tree.specs.declared.statement.DropKind.TheVariants as drop
use Rattle.tsql_tree.specs.declared.statement.Form.{Form-F}
use Rattle.tsql_tree.specs.declared.statement.Statement.{Statement}
use Rattle.bound_tree.specs.declared.query.BoundQuery.{BoundQuery}
use Rattle.bound_tree.specs.declared.write.Bound.{Bound}
use Rattle.bound_tree.specs.declared.write.Bound.TheVariants as bound
use Rattle.bound_tree.specs.declared.write.BoundWrite.{BoundWrite}
use Rattle.binder.specs.Names.{Layer, looked_up}
use Rattle.table_rows.specs.Definitions.{is_objects, tables_of}
use Rattle.table_rows.specs.Rows.{shape_of}
use Rattle.step_model.specs.declared.change.Planned.{Planned}
use Rattle.step_model.specs.declared.op.Op.{Op}
use Rattle.step_model.specs.declared.op.Op.TheVariants as ops
use Rattle.step_model.specs.declared.reply.Reply.{Reply}
use Rattle.step_model.specs.declared.reply.Reply.TheVariants as replies
use Rattle.step_model.specs.Dialog.{IsQuiet}
use Rattle.step_model.specs.Exchange.{Exchange, CanReply}
use Rattle.dml_exec.specs.declared.refusal.Level.TheVariants.{Serializable}
use Rattle.dml_exec.specs.declared.refusal.Refusal.{Refusal}
use Rattle.dml_exec.specs.declared.written.Written.{Written}
use Rattle.dml_exec.specs.declared.written.Written.TheVariants as written
use Rattle.dml_exec.specs.Planning.{table_written}
use Rattle.dml_exec.specs.Reading.{none_given}
use Rattle.dml_exec.specs.Writing.{attempts}
use Rattle.statement_paths.specs.Asked.{IsFetch}
use Rattle.batch_meaning.specs.declared.failure.Failure.{Failure}
use Rattle.batch_meaning.specs.Raised.{Around}
use Rattle.batch_meaning.specs.Changing.{created, definition_erased, dropped, not_there, object_present, planned_over, told_by, unless_referred, whole}
use Rattle.batch_meaning.specs.Selecting.{Effect, bound_over, no_effect}
use Rattle.batch_meaning.specs.Progress.{SessionProgress, SessionStep, assigns, fills, touches, made, asked}
use Rattle.batch_meaning.specs.Values.{Assigned, rows_assigned}
use Rattle.batch_meaning.specs.Doing.{Doing, over, reads, asks, Held}
use Rattle.batch_meaning.specs.Asking.{fails_naming, with_room, comes_to, unless_refused, looks_up, reads_at, reads_definitions, reads_images, unless_broken, applies, assigns_all, takes_back, where_done, marked}
use Rattle.batch_meaning.specs.Tokens.{done_kind}
use Rattle.batch_meaning.specs.Working.{answers, assigns_rows, binds, computes, given_in, if_it_fits, known_by, prepares, select_bound, selects, selects_into, works_bound}
use Rattle.batch_meaning.specs.Writes.{change_bound, changes, creates, drops_definition, drops_found, drops_table, fired_by, fires_of, inserted, shape_or, unless_objects}
use Rattle.statement_paths.proofs.Only.{IsTouch, Only, held_keeps, only_bind, only_comes, only_gives, only_if, only_mono, only_naming, only_room, says_quiet}
use Rattle.statement_paths.proofs.Still.{Reads}
use Rattle.statement_paths.proofs.Looking.{looks_read, definitions_read}
use Rattle.statement_paths.proofs.Working.{answers_read, at_level_reads, images_read}
use Rattle.statement_paths.proofs.Failing.{computes_read, fits_read, selects_read}

-- a step of such work
abbrev pub IsWorkStep : SessionStep → Type 0
IsWorkStep touches = Unit {0}
IsWorkStep (assigns place value) = Unit {0}
IsWorkStep step = ⊥

abbrev pub Works : {A : Type 0} → Doing A → Type 0
Works tree = Only IsWorkStep IsQuiet tree

touch_work : (step : SessionStep) → IsTouch step → IsWorkStep step
touch_work touches is = tt
touch_work step is = absurd is

pub fetch_quiet : (op : Op) → IsFetch op → IsQuiet op
fetch_quiet (ops.Fetch table start stop hold part) is = tt
fetch_quiet op is = absurd is

pub reads_work : {A : Type 0} (tree : Doing A) → Reads tree → Works tree
reads_work tree fetches = only_mono IsTouch IsWorkStep IsFetch IsQuiet touch_work fetch_quiet tree fetches

-- ---- its parts

broken_works : (came : Result Written Refusal) → Works (unless_broken came)
broken_works (Ok (written.Done mark)) = tt
broken_works (Ok (written.Refused number name)) = tt
broken_works (Err why) = tt

applies_works : (shapes : List TableTree) (planned : List Planned) → Works (applies shapes planned)
unfolding applies
applies_works shapes planned = (tt, only_gives IsWorkStep IsQuiet (attempts shapes planned) (λ attempt. unless_broken attempt.came) (says_quiet IsQuiet (attempts shapes planned) (λ op quiet. quiet)) (λ attempt. broken_works attempt.came))

back_works : (mark : ℕ) (failure : Failure) → Works (takes_back mark failure)
unfolding takes_back
back_works mark failure = (tt, by_reply)
  where
    by_reply : (reply : Reply) → CanReply (ops.BackTo mark) reply → Works {A = Result (Unit {0}) Failure} (where_done (over (Err failure)) reply)
    by_reply replies.Done can = tt
    by_reply reply can = absurd can

inserted_works : (mark : ℕ) (name text : List ℕ) (reply : Reply) → CanReply (created name text) reply → Works (inserted mark name reply)
inserted_works mark name text replies.Done can = tt
inserted_works mark name text replies.Exists can = λ enough. back_works mark _
inserted_works mark name text replies.Memory can = back_works mark _
inserted_works mark name text (replies.TimedOut holder held wanted on) can = back_works mark _
inserted_works mark name text (replies.Victim cycle) can = back_works mark _
inserted_works mark name text reply can = tt

pub creates_works : (name text : List ℕ) → Works (creates name text)
unfolding creates
creates_works name text = only_bind IsWorkStep IsQuiet (with_room put) (λ done. over (Ok no_effect)) (only_room IsWorkStep IsQuiet put (tt, by_reply)) (λ done. tt)
  where
    put : Doing (Result (Unit {0}) Failure)
    put = asks ops.Mark (unless_refused (marked λ mark. asks (created name text) (inserted mark name)))

    by_reply : (reply : Reply) → CanReply ops.Mark reply → Works (unless_refused (marked λ mark. asks (created name text) (inserted mark name)) reply)
    by_reply (replies.Marked mark) can = (tt, inserted_works mark name text)
    by_reply replies.Memory can = tt
    by_reply reply can = absurd can

sets_work : {A : Type 0} (sets : List Assigned) (next : Doing A) → Works next → Works (assigns_all sets next)
unfolding assigns_all
sets_work [] next more = more
sets_work (one ∷ sets) next more = (tt, sets_work sets next more)

rows_work : (count : ℕ) (came : List Assigned × Option Failure) → Works (assigns_rows count came)
rows_work count (sets, None) = tt
rows_work count (sets, Some failure) = sets_work sets (over (Err failure)) tt

-- ---- by its form

module _ (around : Around) (p0 : SessionProgress) where
  into_works : (shapes : List TableTree) (query : BoundQuery) (places : List ℕ) → Works (selects_into around shapes query places)
  unfolding selects_into
  into_works shapes query places = only_bind IsWorkStep IsQuiet (answers around shapes query) _ (reads_work (answers around shapes query) (answers_read around p0 shapes query))
      (λ rows p. only_room IsWorkStep IsQuiet (assigns_rows (length rows) (rows_assigned p.vars places [] rows)) (rows_work (length rows) (rows_assigned p.vars places [] rows)))

  select_works : (shapes : List TableTree) (of : Bound) → Works (select_bound around shapes of)
  select_works shapes (bound.Query query) = reads_work (selects around shapes query) (selects_read around p0 shapes query)
  select_works shapes (bound.Assign query places) = into_works shapes query places
  select_works shapes bound.Plain = tt
  select_works shapes (bound.Write write) = tt

  changes_work : (shape : TableTree) (shapes : List TableTree) (write : BoundWrite) → Works (changes around shape shapes write)
  unfolding changes
  changes_work shape shapes write =
      only_bind IsWorkStep IsQuiet reads_definitions _ (reads_work reads_definitions definitions_read) (λ definitions.
      only_bind IsWorkStep IsQuiet (reads_images (given_in around.fired) (shape ∷ shapes) (bound.Write write)) _ (reads_work (reads_images (given_in around.fired) (shape ∷ shapes) (bound.Write write)) (images_read (given_in around.fired) (shape ∷ shapes) (bound.Write write))) (λ images.
      only_bind IsWorkStep IsQuiet (reads λ p. comes_to (planned_over around p (shape ∷ shapes) write images)) _ (λ p. only_comes IsWorkStep IsQuiet (planned_over around p (shape ∷ shapes) write images)) (λ planned.
      only_bind IsWorkStep IsQuiet (reads λ p. comes_to (Ok (told_by (done_kind around) p.settings.no_count write planned))) _ (λ p. only_comes IsWorkStep IsQuiet (Ok (told_by (done_kind around) p.settings.no_count write planned))) (λ effect.
      only_bind IsWorkStep IsQuiet (if_it_fits effect) _ (reads_work (if_it_fits effect) (fits_read around p0 effect)) (λ fitting.
      only_bind IsWorkStep IsQuiet (comes_to (Ok (fires_of around definitions write))) _ (only_comes IsWorkStep IsQuiet (Ok (fires_of around definitions write))) (λ fires.
      only_bind IsWorkStep IsQuiet (comes_to (Ok (fired_by (shape_or shape (shape_of (table_written write) (shape ∷ shapes))) write images planned))) _ (only_comes IsWorkStep IsQuiet (Ok (fired_by (shape_or shape (shape_of (table_written write) (shape ∷ shapes))) write images planned))) (λ fired.
      only_bind IsWorkStep IsQuiet (with_room (applies (tables_of definitions) planned)) _ (only_room IsWorkStep IsQuiet (applies (tables_of definitions) planned) (applies_works (tables_of definitions) planned)) (λ put. tt))))))))

  pub change_works : (shapes : List TableTree) (of : Bound) → Works (change_bound around shapes of)
  change_works [] of = tt
  change_works (shape ∷ shapes) (bound.Write write) = changes_work shape shapes write
  change_works (shape ∷ shapes) (bound.Query query) = tt
  change_works (shape ∷ shapes) (bound.Assign query places) = tt
  change_works (shape ∷ shapes) bound.Plain = tt

  drops_work : (shape : TableTree) (name : List ℕ) → Works (drops_table around shape name)
  unfolding drops_table
  drops_work shape name =
      only_bind IsWorkStep IsQuiet reads_definitions _ (reads_work reads_definitions definitions_read) (λ definitions.
      only_bind IsWorkStep IsQuiet (comes_to (unless_referred name (tables_of definitions))) _ (only_comes IsWorkStep IsQuiet (unless_referred name (tables_of definitions))) (λ free.
      only_bind IsWorkStep IsQuiet (with_room (reads_at none_given Serializable [] (shape ∷ []) (bound.Write (whole name)))) _
      (only_room IsWorkStep IsQuiet (reads_at none_given Serializable [] (shape ∷ []) (bound.Write (whole name))) (reads_work (reads_at none_given Serializable [] (shape ∷ []) (bound.Write (whole name))) (at_level_reads none_given Serializable [] (shape ∷ []) (bound.Write (whole name))))) (λ images.
      only_bind IsWorkStep IsQuiet (reads λ p. comes_to (dropped around p definitions shape name images)) _ (λ p. only_comes IsWorkStep IsQuiet (dropped around p definitions shape name images)) (λ planned.
      only_bind IsWorkStep IsQuiet (applies [] planned) (λ put. over (Ok no_effect)) (applies_works [] planned) (λ put. tt)))))

  erases_work : (name : List ℕ) → Works (drops_definition around name)
  unfolding drops_definition
  erases_work name = only_bind IsWorkStep IsQuiet (with_room (applies [] (definition_erased name ∷ []))) (λ put. over (Ok no_effect)) (only_room IsWorkStep IsQuiet (applies [] (definition_erased name ∷ [])) (applies_works [] (definition_erased name ∷ []))) (λ put. tt)

  pub drop_works : (kind : DropKind) (name : List ℕ) (found : Option Definition) → Works (drops_found around kind name found)
  drop_works drop.Table name (Some (Table table)) = only_if IsWorkStep IsQuiet (same_units table.name name) (drops_table around table name) (fails_naming not_there name) (drops_work table name) (only_naming IsWorkStep IsQuiet Effect not_there name)
  drop_works drop.Procedure name (Some (Procedure procedure)) = only_if IsWorkStep IsQuiet (same_units procedure.name name) (drops_definition around name) (fails_naming not_there name) (erases_work name) (only_naming IsWorkStep IsQuiet Effect not_there name)
  drop_works drop.Trigger name (Some (Trigger trigger)) = only_if IsWorkStep IsQuiet (same_units trigger.name name) (drops_definition around name) (fails_naming not_there name) (erases_work name) (only_naming IsWorkStep IsQuiet Effect not_there name)
  drop_works kind name found = only_naming IsWorkStep IsQuiet Effect not_there name

  pub worked_works : (form : Layer) (shapes : List TableTree) (of : Bound) → Works (works_bound around form shapes of)
  worked_works (Form-F.Select select) shapes of = select_works shapes of
  worked_works form shapes of = reads_work (computes around form shapes of) (computes_read around p0 form shapes of)

-- ---- bound statements

pub prepares_reads : (around : Around) (statement : Statement) → Reads (prepares around statement)
unfolding prepares
prepares_reads around statement = only_bind IsTouch IsFetch (looks_up (known_by around statement) [] (looked_up statement)) _ (looks_read (known_by around statement) (looked_up statement) []) (λ definitions.
    only_bind IsTouch IsFetch (reads λ p. comes_to (bound_over definitions p.vars statement)) _ (λ p. only_comes IsTouch IsFetch (bound_over definitions p.vars statement)) (λ of. only_comes IsTouch IsFetch (Ok (tables_of definitions, of))))

pub binds_work : {A : Type 0} (around : Around) (statement : Statement) (go : List TableTree → Bound → Doing (Result A Failure)) → ((shapes : List TableTree) (of : Bound) → Works (go shapes of)) → Works (binds around statement go)
unfolding binds
binds_work around statement go more = only_bind IsWorkStep IsQuiet (prepares around statement) (λ made. go made.0 made.1) (reads_work (prepares around statement) (prepares_reads around statement)) (λ made. more made.0 made.1)

pub unless_works : (name : List ℕ) (tree : Doing (Result Effect Failure)) → Works tree → Works (unless_objects name tree)
unless_works name tree more = only_if IsWorkStep IsQuiet (is_objects name) (fails_naming object_present name) tree (only_naming IsWorkStep IsQuiet Effect object_present name) more

-- ---- what it leaves

-- or one that fills a cursor
abbrev pub IsOwnStep : SessionStep → Type 0
IsOwnStep touches = Unit {0}
IsOwnStep (assigns place value) = Unit {0}
IsOwnStep (fills name kinds rows) = Unit {0}
IsOwnStep step = ⊥

-- work that may be done in a transaction of its own
abbrev pub Owns : {A : Type 0} → Doing A → Type 0
Owns tree = Only IsOwnStep IsQuiet tree

work_owns : (step : SessionStep) → IsWorkStep step → IsOwnStep step
work_owns touches is = tt
work_owns (assigns place value) is = tt
work_owns step is = absurd is

pub works_own : {A : Type 0} (tree : Doing A) → Works tree → Owns tree
works_own tree works = only_mono IsWorkStep IsOwnStep IsQuiet IsQuiet work_owns (λ op is. is) tree works

-- all but variables, cursors, savepoints and locks is as it was
abbrev pub Worked : SessionProgress → SessionProgress → Type 0
Worked p q = q ≡ record p { vars = q.vars; cursors = q.cursors; touched = q.touched; txn = q.txn }

-- what a quiet operation leaves
abbrev Quieted : SessionProgress → SessionProgress → Type 0
Quieted q r = r ≡ record q { touched = r.touched; txn = r.txn }

quiet_same : (op : Op) (reply : Reply) (q : SessionProgress) → IsQuiet op → CanReply op reply → Quieted q (asked op reply q)
quiet_same (ops.Fetch table start stop hold part) (replies.Ended place) q quiet can = absurd can
quiet_same (ops.Insert table key row) (replies.Ended place) q quiet can = absurd can
quiet_same (ops.Replace table key row) (replies.Ended place) q quiet can = absurd can
quiet_same (ops.Erase table key) (replies.Ended place) q quiet can = absurd can
quiet_same ops.Mark (replies.Ended place) q quiet can = absurd can
quiet_same (ops.BackTo mark) (replies.Ended place) q quiet can = absurd can
quiet_same ops.Begin reply q quiet can = absurd quiet
quiet_same ops.Relax reply q quiet can = absurd quiet
quiet_same ops.Commit reply q quiet can = absurd quiet
quiet_same ops.Rollback reply q quiet can = absurd quiet
quiet_same op reply q quiet can = refl

module _ (p : SessionProgress) where
  by_step : (step : SessionStep) (q : SessionProgress) → IsOwnStep step → Worked p q → Worked p (made step q)
  by_step touches q work worked = ap (λ (s : SessionProgress). record s { touched = true }) worked
  by_step (assigns place value) q work worked = ap (λ (s : SessionProgress). record s { vars = (made (assigns place value) q).vars }) worked
  by_step (fills name kinds rows) q work worked = ap (λ (s : SessionProgress). record s { cursors = (made (fills name kinds rows) q).cursors }) worked
  by_step step q work worked = absurd work

  by_op : (op : Op) (reply : Reply) (q : SessionProgress) → IsQuiet op → CanReply op reply → Worked p q → Worked p (asked op reply q)
  by_op op reply q quiet can worked = quiet_same op reply q quiet can ∙ ap (λ (s : SessionProgress). record s { touched = (asked op reply q).touched; txn = (asked op reply q).txn }) worked

  pub owns_leave : {A : Type 0} (tree : Doing A) (new : SessionProgress) (exchanges : List Exchange) (a : A) → Owns tree → Held tree p exchanges a new → Worked p new
  owns_leave tree new exchanges a owns held = held_keeps IsOwnStep IsQuiet (Worked p) by_step by_op tree p new exchanges a owns held refl

  pub works_leave : {A : Type 0} (tree : Doing A) (new : SessionProgress) (exchanges : List Exchange) (a : A) → Works tree → Held tree p exchanges a new → Worked p new
  works_leave tree new exchanges a works held = owns_leave tree new exchanges a (works_own tree works) held
