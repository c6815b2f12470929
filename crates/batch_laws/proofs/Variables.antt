-- A statement that succeeds assigns nothing before it tells its effect, so its variables are as they were until then.
use Rattle.std.proofs.Common.{◌≡◌, ℕ, ℤ, Bool, true, List, [], ◌∷◌, length, Option, None, Some, Result, Ok, Err, refl, ap, ◌∙◌, false, if◌then◌else◌, is_ok, sym, subst}
use Rattle.value_types.specs.Units.{same_units}
use Rattle.tsql_tree.specs.declared.definition.Definition.{Definition}
use Rattle.tsql_tree.specs.declared.definition.Definition.TheVariants.{Table, Procedure, Trigger}
use Rattle.tsql_tree.specs.declared.definition.TableTree.{TableTree}
use Rattle.tsql_tree.specs.declared.statement.DropKind.{DropKind}
use Rattle.tsql_tree.specs.declared.statement.DropKind.TheVariants as drop
use Rattle.tsql_tree.specs.declared.statement.Form.{Form-F}
use Rattle.tsql_tree.specs.declared.statement.Statement.{Statement}
use Rattle.bound_tree.specs.declared.query.BoundQuery.{BoundQuery}
use Rattle.bound_tree.specs.declared.write.Bound.{Bound}
use Rattle.bound_tree.specs.declared.write.Bound.TheVariants as bound
use Rattle.bound_tree.specs.declared.write.BoundWrite.{BoundWrite}
use Rattle.binder.specs.Names.{Layer, looked_up, form_of}
use Rattle.table_rows.specs.Definitions.{is_objects, tables_of}
use Rattle.table_rows.specs.Rows.{shape_of}
use Rattle.step_model.specs.declared.change.Planned.{Planned}
use Rattle.step_model.specs.declared.op.Op.TheVariants as ops
use Rattle.step_model.specs.declared.reply.Reply.{Reply}
use Rattle.step_model.specs.declared.reply.Reply.TheVariants as replies
use Rattle.step_model.specs.Exchange.{Exchange, CanReply}
use Rattle.step_model.specs.Ranges.{Rows}
use Rattle.dml_exec.specs.declared.refusal.Level.TheVariants.{Serializable}
use Rattle.dml_exec.specs.declared.refusal.Refusal.{Refusal}
use Rattle.dml_exec.specs.declared.written.Written.{Written}
use Rattle.dml_exec.specs.declared.written.Written.TheVariants as written
use Rattle.dml_exec.specs.Planning.{table_written}
use Rattle.dml_exec.specs.Reading.{none_given}
use Rattle.dml_exec.specs.Writing.{attempts}
use Rattle.statement_paths.specs.Asked.{IsFetch}
use Rattle.batch_meaning.specs.declared.failure.Failure.{Failure}
use Rattle.batch_meaning.specs.declared.home.Home.{Home}
use Rattle.batch_meaning.specs.Raised.{Around}
use Rattle.batch_meaning.specs.Changing.{created, definition_erased, dropped, not_there, object_present, planned_over, told_by, unless_referred, whole}
use Rattle.batch_meaning.specs.Selecting.{Effect, bound_over, no_effect}
use Rattle.batch_meaning.specs.Progress.{SessionProgress, SessionStep, assigned, assigns, made, touches}
use Rattle.batch_meaning.specs.Tokens.{done_kind}
use Rattle.batch_meaning.specs.Values.{Assigned, rows_assigned}
use Rattle.batch_meaning.specs.Doing.{Doing, over, reads, asks, Held, ◌then◌}
use Rattle.batch_meaning.specs.Asking.{◌>>=◌, fails_naming, finds_by, with_room, comes_to, unless_refused, reads_at, reads_definitions, reads_images, unless_broken, applies, assigns_all, takes_back, where_done, marked}
use Rattle.batch_meaning.specs.Working.{answers, asks_any, assigns_rows, binds, computes, enters, given_in, if_it_fits, known_by, leaves, own, prepares, select_bound, selects, selects_into, status_bound, statuses, within, works, works_bound}
use Rattle.batch_meaning.specs.Writes.{Written as WrittenSo, change_bound, changes, creates, creates_table, drops, drops_definition, drops_found, drops_table, fired_by, fires_of, inserted, shape_or, unless_objects}
use Rattle.statement_paths.specs.Paths.{changes_of, work_for, work_of}
use Rattle.statement_paths.proofs.Only.{AnyOp, IsTouch, Only, held_keeps, only_bind, only_comes, only_gives, only_if, only_mono, only_naming, only_room, says_quiet}
use Rattle.statement_paths.proofs.Still.{Reads}
use Rattle.statement_paths.proofs.Apart.{bind_apart, held_apart, room_apart}
use Rattle.statement_paths.proofs.Looking.{definitions_read, finds_read}
use Rattle.statement_paths.proofs.Working.{answers_read, at_level_reads, images_read, status_read}
use Rattle.statement_paths.proofs.Failing.{computes_read, fits_read, selects_read}
use Rattle.statement_paths.proofs.Works.{prepares_reads}
use Rattle.batch_laws.specs.Committing.{assigned_all}
use Rattle.batch_laws.proofs.Named.{dropping}
use Rattle.batch_laws.proofs.Idle.{enters_make, leaves_make}

-- a tree that assigns nothing
abbrev pub Still : {A : Type 0} → Doing A → Type 0
Still tree = Only IsTouch AnyOp tree

pub reads_still : {A : Type 0} (tree : Doing A) → Reads tree → Still tree
reads_still tree fetches = only_mono IsTouch IsTouch IsFetch AnyOp (λ step is. is) (λ op is. tt) tree fetches

-- ---- the parts of writes

broken_still : (came : Result Written Refusal) → Still (unless_broken came)
broken_still (Ok (written.Done mark)) = tt
broken_still (Ok (written.Refused number name)) = tt
broken_still (Err why) = tt

applies_still : (shapes : List TableTree) (planned : List Planned) → Still (applies shapes planned)
unfolding applies
applies_still shapes planned = (tt, only_gives IsTouch AnyOp (attempts shapes planned) (λ attempt. unless_broken attempt.came) (says_quiet AnyOp (attempts shapes planned) (λ op quiet. tt)) (λ attempt. broken_still attempt.came))

back_still : (mark : ℕ) (failure : Failure) → Still (takes_back mark failure)
unfolding takes_back
back_still mark failure = (tt, by_reply)
  where
    by_reply : (reply : Reply) → CanReply (ops.BackTo mark) reply → Still {A = Result (Unit {0}) Failure} (where_done (over (Err failure)) reply)
    by_reply replies.Done can = tt
    by_reply reply can = absurd can

inserted_still : (mark : ℕ) (name text : List ℕ) (reply : Reply) → CanReply (created name text) reply → Still (inserted mark name reply)
inserted_still mark name text replies.Done can = tt
inserted_still mark name text replies.Exists can = λ enough. back_still mark _
inserted_still mark name text replies.Memory can = back_still mark _
inserted_still mark name text (replies.TimedOut holder held wanted on) can = back_still mark _
inserted_still mark name text (replies.Victim cycle) can = back_still mark _
inserted_still mark name text reply can = tt

pub creates_still : (name text : List ℕ) → Still (creates name text)
unfolding creates
creates_still name text = only_bind IsTouch AnyOp (with_room put) (λ done. over (Ok no_effect)) (only_room IsTouch AnyOp put (tt, by_reply)) (λ done. tt)
  where
    put : Doing (Result (Unit {0}) Failure)
    put = asks ops.Mark (unless_refused (marked λ mark. asks (created name text) (inserted mark name)))

    by_reply : (reply : Reply) → CanReply ops.Mark reply → Still (unless_refused (marked λ mark. asks (created name text) (inserted mark name)) reply)
    by_reply (replies.Marked mark) can = (tt, inserted_still mark name text)
    by_reply replies.Memory can = tt
    by_reply reply can = absurd can

module _ (around : Around) (p0 : SessionProgress) where
  changes_still : (shape : TableTree) (shapes : List TableTree) (write : BoundWrite) → Still (changes around shape shapes write)
  unfolding changes
  changes_still shape shapes write =
      only_bind IsTouch AnyOp reads_definitions _ (reads_still reads_definitions definitions_read) (λ definitions.
      only_bind IsTouch AnyOp (reads_images (given_in around.fired) (shape ∷ shapes) (bound.Write write)) _ (reads_still (reads_images (given_in around.fired) (shape ∷ shapes) (bound.Write write)) (images_read (given_in around.fired) (shape ∷ shapes) (bound.Write write))) (λ images.
      only_bind IsTouch AnyOp (reads λ p. comes_to (planned_over around p (shape ∷ shapes) write images)) _ (λ p. only_comes IsTouch AnyOp (planned_over around p (shape ∷ shapes) write images)) (λ planned.
      only_bind IsTouch AnyOp (reads λ p. comes_to (Ok (told_by (done_kind around) p.settings.no_count write planned))) _ (λ p. only_comes IsTouch AnyOp (Ok (told_by (done_kind around) p.settings.no_count write planned))) (λ effect.
      only_bind IsTouch AnyOp (if_it_fits effect) _ (reads_still (if_it_fits effect) (fits_read around p0 effect)) (λ fitting.
      only_bind IsTouch AnyOp (comes_to (Ok (fires_of around definitions write))) _ (only_comes IsTouch AnyOp (Ok (fires_of around definitions write))) (λ fires.
      only_bind IsTouch AnyOp (comes_to (Ok (fired_by (shape_or shape (shape_of (table_written write) (shape ∷ shapes))) write images planned))) _ (only_comes IsTouch AnyOp (Ok (fired_by (shape_or shape (shape_of (table_written write) (shape ∷ shapes))) write images planned))) (λ fired.
      only_bind IsTouch AnyOp (with_room (applies (tables_of definitions) planned)) _ (only_room IsTouch AnyOp (applies (tables_of definitions) planned) (applies_still (tables_of definitions) planned)) (λ mark. tt))))))))

  change_still : (shapes : List TableTree) (of : Bound) → Still (change_bound around shapes of)
  change_still [] of = tt
  change_still (shape ∷ shapes) (bound.Write write) = changes_still shape shapes write
  change_still (shape ∷ shapes) (bound.Query query) = tt
  change_still (shape ∷ shapes) (bound.Assign query places) = tt
  change_still (shape ∷ shapes) bound.Plain = tt

  table_still : (shape : TableTree) (name : List ℕ) → Still (drops_table around shape name)
  unfolding drops_table
  table_still shape name =
      only_bind IsTouch AnyOp reads_definitions _ (reads_still reads_definitions definitions_read) (λ definitions.
      only_bind IsTouch AnyOp (comes_to (unless_referred name (tables_of definitions))) _ (only_comes IsTouch AnyOp (unless_referred name (tables_of definitions))) (λ free.
      only_bind IsTouch AnyOp (with_room (reads_at none_given Serializable [] (shape ∷ []) (bound.Write (whole name)))) _
      (only_room IsTouch AnyOp (reads_at none_given Serializable [] (shape ∷ []) (bound.Write (whole name))) (reads_still (reads_at none_given Serializable [] (shape ∷ []) (bound.Write (whole name))) (at_level_reads none_given Serializable [] (shape ∷ []) (bound.Write (whole name))))) (λ images.
      only_bind IsTouch AnyOp (reads λ p. comes_to (dropped around p definitions shape name images)) _ (λ p. only_comes IsTouch AnyOp (dropped around p definitions shape name images)) (λ planned.
      only_bind IsTouch AnyOp (applies [] planned) (λ put. over (Ok no_effect)) (applies_still [] planned) (λ put. tt)))))

  erases_still : (name : List ℕ) → Still (drops_definition around name)
  unfolding drops_definition
  erases_still name = only_bind IsTouch AnyOp (with_room (applies [] (definition_erased name ∷ []))) (λ put. over (Ok no_effect)) (only_room IsTouch AnyOp (applies [] (definition_erased name ∷ [])) (applies_still [] (definition_erased name ∷ []))) (λ put. tt)

  there_still : (name : List ℕ) (test : Bool) (tree : Doing (Result Effect Failure)) → Still tree → Still (if test then tree else fails_naming not_there name)
  there_still name test tree still = only_if IsTouch AnyOp test tree (fails_naming not_there name) still (only_naming IsTouch AnyOp Effect not_there name)

  drop_still : (kind : DropKind) (name : List ℕ) (found : Option Definition) → Still (drops_found around kind name found)
  drop_still drop.Table name (Some (Table table)) = there_still name (same_units table.name name) (drops_table around table name) (table_still table name)
  drop_still drop.Procedure name (Some (Procedure procedure)) = there_still name (same_units procedure.name name) (drops_definition around name) (erases_still name)
  drop_still drop.Trigger name (Some (Trigger trigger)) = there_still name (same_units trigger.name name) (drops_definition around name) (erases_still name)
  drop_still kind name found = only_naming IsTouch AnyOp Effect not_there name

  dropping_still : (statement : Statement) (kind : DropKind) (name : List ℕ) → Still (dropping around statement kind name)
  dropping_still statement kind name =
      only_bind IsTouch AnyOp (finds_by (known_by around statement name) name) _ (reads_still (finds_by (known_by around statement name) name) (finds_read (known_by around statement name) name)) (λ found.
      only_bind IsTouch AnyOp (reads λ p. comes_to (bound_over [] p.vars statement)) _ (λ p. only_comes IsTouch AnyOp (bound_over [] p.vars statement)) (λ of. drop_still kind name found))

-- ---- the variables

-- where it comes to a result they are as they were
abbrev Stay : {A : Type 0} → Doing (Result A Failure) → Type 0
Stay {A = A} tree = (p new : SessionProgress) (exchanges : List Exchange) (a : A) → Held tree p exchanges (Ok a) new → new.vars ≡ p.vars

vars_step : (p : SessionProgress) (step : SessionStep) (q : SessionProgress) → IsTouch step → q.vars ≡ p.vars → (made step q).vars ≡ p.vars
vars_step p touches q is same = same
vars_step p step q is same = absurd is

pub still_vars : {A : Type 0} (tree : Doing A) (p new : SessionProgress) (exchanges : List Exchange) (a : A) → Still tree → Held tree p exchanges a new → new.vars ≡ p.vars
still_vars tree p new exchanges a still held = held_keeps IsTouch AnyOp (λ (q : SessionProgress). q.vars ≡ p.vars) (vars_step p) (λ op reply q is can same. same) tree p new exchanges a still held refl

still_stay : {A : Type 0} (tree : Doing (Result A Failure)) → Still tree → Stay tree
still_stay tree still p new exchanges a held = still_vars tree p new exchanges (Ok a) still held

bind_stay : {A B : Type 0} (tree : Doing (Result A Failure)) (go : A → Doing (Result B Failure)) → Still tree → ((a : A) → Stay (go a)) → Stay (tree >>= go)
bind_stay tree go still more p new exchanges b held =
    let on = bind_apart tree go p new exchanges b held in more on.2 on.3 new on.1 b on.6 ∙ still_vars tree p on.3 on.0 (Ok on.2) still on.5

-- and what is done behind its work assigns nothing
home_stay : {A : Type 0} (work : Doing (Result A Failure)) → Stay work → (home : Home) → Stay (work then λ came. leaves home (is_ok came) then λ done. over came)
unfolding Held
home_stay {A = A} work stay home p new exchanges a held =
    let on = held_apart work (λ came. leaves home (is_ok came) then λ done. over came) p new exchanges (Ok a) held in
    let last = held_apart (leaves home (is_ok on.came)) (λ done. over on.came) on.mid new on.back (Ok a) on.rest in
    ap (λ (q : SessionProgress). q.vars) last.rest.2 ∙ still_vars (leaves home (is_ok on.came)) on.mid last.mid last.front last.came (leaves_make IsTouch home (is_ok on.came)) last.held
    ∙ stay p on.mid on.front a (subst (λ (r : Result A Failure). Held work p on.front r on.mid) (sym last.rest.1) on.held)

own_stay : {A : Type 0} (asks_some : Bool) (work : Doing (Result A Failure)) → Stay work → Stay (own asks_some work)
unfolding own
own_stay asks_some work stay = bind_stay (enters asks_some) (λ home. work then λ came. leaves home (is_ok came) then λ done. over came) (enters_make IsTouch asks_some) (home_stay work stay)

room_stay : {A : Type 0} (tree : Doing (Result A Failure)) → Stay tree → Stay (with_room tree)
room_stay tree stay p new exchanges a held = stay p new exchanges a (room_apart tree p new exchanges a held)

binds_stay : {A : Type 0} (around : Around) (statement : Statement) (go : List TableTree → Bound → Doing (Result A Failure)) → ((shapes : List TableTree) (of : Bound) → Stay (go shapes of)) → Stay (binds around statement go)
unfolding binds
binds_stay around statement go more = bind_stay (prepares around statement) (λ made. go made.0 made.1) (reads_still (prepares around statement) (prepares_reads around statement)) (λ made. more made.0 made.1)

within_stay : {A : Type 0} (around : Around) (statement : Statement) (go : List TableTree → Bound → Doing (Result A Failure)) → ((shapes : List TableTree) (of : Bound) → Stay (go shapes of)) → Stay (within around statement go)
unfolding within
within_stay around statement go more = room_stay (own (asks_any (known_by around statement) (looked_up statement)) (binds around statement go)) (own_stay (asks_any (known_by around statement) (looked_up statement)) (binds around statement go) (binds_stay around statement go more))

-- ---- rows that assign

sets_never : (sets : List Assigned) (failure : Failure) (p new : SessionProgress) (exchanges : List Exchange) (effect : Effect) → Held {A = Result Effect Failure} (assigns_all sets (over (Err failure))) p exchanges (Ok effect) new → ⊥
unfolding assigns_all Held
sets_never [] failure p new exchanges effect held = let no : Ok effect ≡ Err failure = held.1 in absurd (cc)
sets_never (one ∷ sets) failure p new exchanges effect held = sets_never sets failure (made (assigns one.0 one.1) p) new exchanges effect held

rows_stay : (count : ℕ) (came : List Assigned × Option Failure) → Stay (assigns_rows count came)
unfolding Held
rows_stay count (sets, None) p new exchanges effect held = ap (λ (q : SessionProgress). q.vars) held.2
rows_stay count (sets, Some failure) p new exchanges effect held = absurd (sets_never sets failure p new exchanges effect held)

-- ---- by its form

module _ (around : Around) (p0 : SessionProgress) where
  assigning_stay : (query : BoundQuery) (places : List ℕ) (rows : Rows) → Stay (reads λ p. with_room (assigns_rows (length rows) (rows_assigned p.vars places [] rows)))
  unfolding Held
  assigning_stay query places rows p new exchanges effect held =
      room_stay (assigns_rows (length rows) (rows_assigned p.vars places [] rows)) (rows_stay (length rows) (rows_assigned p.vars places [] rows)) p new exchanges effect held

  into_stay : (shapes : List TableTree) (query : BoundQuery) (places : List ℕ) → Stay (selects_into around shapes query places)
  unfolding selects_into
  into_stay shapes query places = bind_stay (answers around shapes query) _ (reads_still (answers around shapes query) (answers_read around p0 shapes query)) (assigning_stay query places)

  select_stay : (shapes : List TableTree) (of : Bound) → Stay (select_bound around shapes of)
  select_stay shapes (bound.Query query) = still_stay (selects around shapes query) (reads_still (selects around shapes query) (selects_read around p0 shapes query))
  select_stay shapes (bound.Assign query places) = into_stay shapes query places
  select_stay shapes bound.Plain = still_stay (select_bound around shapes bound.Plain) tt
  select_stay shapes (bound.Write write) = still_stay (select_bound around shapes (bound.Write write)) tt

  worked_stay : (form : Layer) (shapes : List TableTree) (of : Bound) → Stay (works_bound around form shapes of)
  worked_stay (Form-F.Select select) shapes of = select_stay shapes of
  worked_stay form shapes of = still_stay (computes around form shapes of) (reads_still (computes around form shapes of) (computes_read around p0 form shapes of))

  works_stay : (statement : Statement) → Stay (works around statement)
  unfolding works
  works_stay statement = within_stay around statement (works_bound around (form_of statement)) (worked_stay (form_of statement))

  statuses_stay : (statement : Statement) → Stay (statuses around statement)
  unfolding statuses
  statuses_stay statement = within_stay around statement (status_bound around) (λ shapes of. still_stay (status_bound around shapes of) (reads_still (status_bound around shapes of) (status_read around p0 shapes of)))

  changes_stay : (statement : Statement) → Stay (changes_of around statement)
  unfolding changes_of
  changes_stay statement = room_stay (own (asks_any (known_by around statement) (looked_up statement)) (binds around statement (change_bound around)))
      (own_stay (asks_any (known_by around statement) (looked_up statement)) (binds around statement (change_bound around)) (binds_stay around statement (change_bound around) (λ shapes of. still_stay (change_bound around shapes of) (change_still around p0 shapes of))))

  drops_stay : (statement : Statement) (kind : DropKind) (name : List ℕ) → Stay (drops around statement kind name)
  unfolding drops
  drops_stay statement kind name = room_stay _ (own_stay (asks_any (known_by around statement) (name ∷ [])) (dropping around statement kind name) (still_stay (dropping around statement kind name) (dropping_still around p0 statement kind name)))

if_stay : {A : Type 0} (test : Bool) (first other : Doing (Result A Failure)) → Stay first → Stay other → Stay (if test then first else other)
if_stay true first other one two = one
if_stay false first other one two = two

unless_stay : (name : List ℕ) (tree : Doing (Result Effect Failure)) → Stay tree → Stay (unless_objects name tree)
unless_stay name tree stay = if_stay (is_objects name) (fails_naming object_present name) tree (still_stay {A = Effect} (fails_naming object_present name) (only_naming IsTouch AnyOp Effect object_present name)) stay

table_stay : (around : Around) (statement : Statement) (name text : List ℕ) → Stay (creates_table around statement name text)
unfolding creates_table
table_stay around statement name text =
    room_stay (if asks_any (known_by around statement) (looked_up statement) then own true (binds around statement putting) else binds around statement later)
    (if_stay (asks_any (known_by around statement) (looked_up statement)) (own true (binds around statement putting)) (binds around statement later)
    (own_stay true (binds around statement putting) (binds_stay around statement putting (λ shapes of. unless_stay name (creates name text) (still_stay (creates name text) (creates_still name text)))))
    (binds_stay around statement later (λ shapes of. unless_stay name (own true (creates name text)) (own_stay true (creates name text) (still_stay (creates name text) (creates_still name text))))))
  where
    putting : List TableTree → Bound → Doing (Result Effect Failure)
    putting shapes of = unless_objects name (creates name text)

    later : List TableTree → Bound → Doing (Result Effect Failure)
    later shapes of = unless_objects name (own true (creates name text))

form_stay : (around : Around) (p0 : SessionProgress) (statement : Statement) (form : Layer) → Stay (work_for around statement form)
form_stay around p0 statement (Form-F.CreateTable table text) = table_stay around statement table.name text
form_stay around p0 statement (Form-F.Drop kind name) = drops_stay around p0 statement kind name
form_stay around p0 statement form = works_stay around p0 statement

pub status_vars : (around : Around) (statement : Statement) (p new : SessionProgress) (exchanges : List Exchange) (status : ℤ) → Held (statuses around statement) p exchanges (Ok status) new → new.vars ≡ p.vars
status_vars around statement p new exchanges status held = statuses_stay around p statement p new exchanges status held

pub change_vars : (around : Around) (statement : Statement) (p new : SessionProgress) (exchanges : List Exchange) (done : WrittenSo) → Held (changes_of around statement) p exchanges (Ok done) new → new.vars ≡ p.vars
change_vars around statement p new exchanges done held = changes_stay around p statement p new exchanges done held

pub work_vars : (around : Around) (statement : Statement) (p new : SessionProgress) (exchanges : List Exchange) (effect : Effect) → Held (work_of around statement) p exchanges (Ok effect) new → new.vars ≡ p.vars
work_vars around statement p new exchanges effect held = form_stay around p (statement) (form_of statement) p new exchanges effect held

-- what is assigned behind it is assigned to them
pub assigned_same : (sets : List Assigned) (p q : SessionProgress) → q.vars ≡ p.vars → (assigned_all sets q).vars ≡ (assigned_all sets p).vars
assigned_same [] p q same = same
assigned_same (one ∷ sets) p q same = assigned_same sets (made (assigns one.0 one.1) p) (made (assigns one.0 one.1) q) (ap (λ vars. assigned one.0 one.1 vars) same)
