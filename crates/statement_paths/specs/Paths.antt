-- Own: what the work of a statement that succeeded has asked within its transaction, part by part: it looked its names up; it read, and
-- wrote what it planned on what was read. The meanings of statements are trees; here stands one way through them, so that each part can
-- be read against a database. Of a write it is the way up to where its triggers run, with those that it fires, and with what they see. The
-- session is given as it stood where the work began: its manner, its level, its variables and the values that expressions read of it.
use Rattle.std.specs.Prelude.{◌≡◌, ◌≢◌, ◌⊎◌, ◌||◌, ℕ, ℤ, Bool, true, false, List, [], ◌∷◌, ◌++◌, length, Option, None, Some, Result, Ok, Err}
use Rattle.std.specs.List.{AllByRecursion, flat_map}
use Rattle.value_types.specs.declared.value.Value.{Value}
use Rattle.tsql_tree.specs.declared.definition.Definition.{Definition}
use Rattle.tsql_tree.specs.declared.definition.Definition.TheVariants.{Table, Procedure, Trigger}
use Rattle.tsql_tree.specs.declared.definition.TableTree.{TableTree}
use Rattle.tsql_tree.specs.declared.statement.Argument.{Argument}
use Rattle.tsql_tree.specs.declared.statement.DropKind.{DropKind}
use Rattle.tsql_tree.specs.declared.statement.DropKind.TheVariants as drop
use Rattle.tsql_tree.specs.declared.statement.Form.{Form-F}
use Rattle.tsql_tree.specs.declared.statement.Statement.{Statement}
use Rattle.bound_tree.specs.declared.query.BoundQuery.{BoundQuery}
use Rattle.bound_tree.specs.declared.write.Bound.{Bound}
use Rattle.bound_tree.specs.declared.write.Bound.TheVariants as bound
use Rattle.bound_tree.specs.declared.write.BoundWrite.{BoundWrite}
use Rattle.binder.specs.Names.{Layer, form_of, looked_up}
use Rattle.table_rows.specs.Definitions.{IsDefinitionIn, defined_name, is_objects, objects_name, object_key, row_of, tables_of}
use Rattle.table_rows.specs.Rows.{rows_table, shape_of}
use Rattle.clause_binder.specs.Scope.{is_long}
use Rattle.step_model.specs.declared.change.Deed.TheVariants.{Insert}
use Rattle.step_model.specs.declared.change.Planned.{Planned}
use Rattle.step_model.specs.declared.manner.Manner.{Manner}
use Rattle.step_model.specs.declared.op.Op.{Op}
use Rattle.step_model.specs.declared.op.Op.TheVariants as ops
use Rattle.step_model.specs.declared.range.Start.{Start}
use Rattle.step_model.specs.declared.range.Start.TheVariants.{First}
use Rattle.step_model.specs.declared.reply.Reply.{Reply}
use Rattle.step_model.specs.declared.reply.Reply.TheVariants.{Began, Row, Gone, End, Done, Marked, Ended, Memory}
use Rattle.step_model.specs.Dialog.{Held}
use Rattle.step_model.specs.Exchange.{Exchange, CanReply}
use Rattle.step_model.specs.Own.{planned_by}
use Rattle.step_model.specs.Ranges.{Rows}
use Rattle.constraint_check.specs.Reads.{reads_for}
use Rattle.dml_exec.specs.declared.refusal.Level.{Level}
use Rattle.dml_exec.specs.declared.refusal.Level.TheVariants.{Serializable}
use Rattle.dml_exec.specs.declared.written.Written.TheVariants as written
use Rattle.dml_exec.specs.Planning.{as_found, table_written}
use Rattle.dml_exec.specs.Reading.{GivenRows, behind_gone, images_of, none_given}
use Rattle.dml_exec.specs.Writing.{asks_keys, checks_all, writes, writes_all}
use Rattle.statement_paths.specs.Asked.{AskOnly, IsFetch}
use Rattle.batch_meaning.specs.declared.failure.Failure.{Failure}
use Rattle.batch_meaning.specs.declared.home.Home.{Home}
use Rattle.batch_meaning.specs.declared.home.Home.TheVariants as home
use Rattle.batch_meaning.specs.declared.stop.Stop.{Stop}
use Rattle.batch_meaning.specs.declared.stop.Stop.TheVariants.{Failed, Left}
use Rattle.batch_meaning.specs.Asking.{KnownNames, definition_fetch, is_table, objects_fetch, with_found, with_room}
use Rattle.batch_meaning.specs.Calls.{Call, call_over}
use Rattle.batch_meaning.specs.Changing.{created, definition_erased, dropped, planned_over, told_by, unless_referred, whole}
use Rattle.batch_meaning.specs.Doing.{Doing}
use Rattle.batch_meaning.specs.Progress.{SessionProgress, values_of}
use Rattle.batch_meaning.specs.Raised.{Around, around_batch}
use Rattle.batch_meaning.specs.Selecting.{Effect, answer_in, bound_over, made_of, no_effect, result_of}
use Rattle.batch_meaning.specs.Tokens.{done_kind}
use Rattle.batch_meaning.specs.Values.{first_row, rows_assigned, status_of}
use Rattle.batch_meaning.specs.Working.{asks_any, binds, given_in, known_by, own, works}
use Rattle.batch_meaning.specs.Writes.{Written, change_bound, creates_table, drops, fired_by, fires_of, is_odd_list, shape_or}

-- ---- exchanges

-- an operation, asked in this manner and replied so
abbrev pub replied : Manner → Op → Reply → Exchange
replied manner op reply = record { op = op; manner = manner; reply = reply }

-- an operation was asked in this manner, with a reply that it may have
abbrev pub IsAsked : Manner → Op → Exchange → Type 0
IsAsked manner op exchange = (exchange.op ≡ op) × (exchange.manner ≡ manner) × CanReply op exchange.reply

-- none of them is a commit
abbrev pub NoneCommits : List Exchange → Type 0
NoneCommits exchanges = AllByRecursion (λ exchange. exchange.op ≢ ops.Commit) exchanges

-- ---- what is defined

-- what the reply to the fetch of a name's key says: what the row there defines, or nothing
abbrev pub IsFound : Reply → Option Definition → Type 0
IsFound (Row key row at) found = IsDefinitionIn (key, row) found
IsFound (Gone key at) found = found ≡ None
IsFound (End at) found = found ≡ None
IsFound reply found = ⊥

-- a name was looked up, and this found; of `objects` nothing is asked
abbrev pub IsLookedUp : Manner → Bool → List ℕ → List Exchange → Option Definition → Type 0
IsLookedUp manner true name exchanges found = (exchanges ≡ []) × (found ≡ None)
IsLookedUp manner false name exchanges found = (exchange : Exchange) × (exchanges ≡ exchange ∷ []) × IsAsked manner (definition_fetch name) exchange × IsFound exchange.reply found

-- what it is known to stand for was found, and nothing was asked; else it was looked up
abbrev pub IsFoundBy : Manner → Option (Option Definition) → List ℕ → List Exchange → Option Definition → Type 0
IsFoundBy manner None name exchanges found = IsLookedUp manner (is_objects name) name exchanges found
IsFoundBy manner (Some known) name exchanges found = (exchanges ≡ []) × (found ≡ known)

-- Names were looked up one after another, behind these definitions, up to the first that is no table's.
abbrev pub AreLookedUp : Manner → KnownNames → List Definition → List (List ℕ) → List Exchange → List Definition → Type 0
AreLookedUp manner known_names so_far [] exchanges definitions = (exchanges ≡ []) × (definitions ≡ so_far)
AreLookedUp manner known_names so_far (name ∷ names) exchanges definitions =
    (found : Option Definition) × (first later : List Exchange) × (exchanges ≡ first ++ later) × IsFoundBy manner (known_names name) name first found
    × (((is_table found ≡ true) × AreLookedUp manner known_names (with_found so_far found) names later definitions) ⊎ ((is_table found ≡ false) × (later ≡ []) × (definitions ≡ so_far)))

-- what a fetch of `objects` adds to the definitions so far, by its reply; it goes on behind a key, and ends at the end
abbrev pub AddsBy : (Start → List Definition → Type 0) → (List Definition → Type 0) → List Definition → Reply → Type 0
AddsBy GoesOn Ends so_far (Row key row at) = (found : Option Definition) × IsDefinitionIn (key, row) found × GoesOn (behind_gone 1 key) (with_found so_far found)
AddsBy GoesOn Ends so_far (Gone key at) = GoesOn (behind_gone 1 key) so_far
AddsBy GoesOn Ends so_far (End at) = Ends so_far
AddsBy GoesOn Ends so_far reply = ⊥

-- All of `objects` was read from there on, behind these definitions.
abbrev pub AreDefined : Manner → Start → List Definition → List Exchange → List Definition → Type 0
AreDefined manner start so_far [] all = ⊥
AreDefined manner start so_far (exchange ∷ later) all = IsAsked manner (objects_fetch start) exchange
    × AddsBy (λ on more. AreDefined manner on more later all) (λ more. (later ≡ []) × (all ≡ more)) so_far exchange.reply

-- ---- what is read

-- Tables were read at a level for what is bound, with these values of variables, but for those whose rows are given; where there are none,
-- nothing was.
abbrev pub AreRead : Manner → GivenRows → Level → List Value → List TableTree → Bound → List Exchange → List Rows → Type 0
AreRead manner given level vars [] of exchanges images = (exchanges ≡ []) × (images ≡ [])
AreRead manner given level vars (shape ∷ shapes) of exchanges images = Held manner (images_of given (shape ∷ shapes) level vars of) exchanges (Ok images)

-- ---- what is written

-- the writes that these exchanges made
abbrev pub done_of : List Exchange → List Planned
done_of exchanges = flat_map (λ exchange. planned_by exchange.op exchange.reply) exchanges

-- Changes were planned. The index rows that go or are replaced were asked for; then, behind a mark, the changes were made as those were
-- found, and the checks of the plan passed. These of the changes were done.
pub record AreApplied (manner : Manner) (shapes : List TableTree) (plan planned : List Planned) (exchanges : List Exchange) : Type 0 where
  pub found : List Bool
  pub asked : List Exchange
  pub mark : ℕ
  pub put : List Exchange
  pub checked : List Exchange
  pub parts : exchanges ≡ asked ++ replied manner ops.Mark (Marked mark) ∷ (put ++ checked)
  pub asks : Held manner (asks_keys plan []) asked (Ok found)
  pub puts : Held manner (writes_all shapes (as_found plan found)) put (Ok tt)
  pub makes : planned ≡ done_of put
  pub checks : Held manner (checks_all shapes (reads_for plan shapes)) checked (Ok tt)
  pub whole : Held manner (writes shapes plan) exchanges (Ok (written.Done mark))

-- a definition is put into `objects`
abbrev pub definition_put : List ℕ → List ℕ → Planned
definition_put name text = record { table = rows_table objects_name; key = object_key name; deed = Insert (row_of name text) }

-- ---- what each statement does within its transaction

module _ (around : Around) (p : SessionProgress) where
  -- A query reads its tables, and is answered.
  pub record IsAnswered (shapes : List TableTree) (query : BoundQuery) (rows : Rows) (exchanges : List Exchange) : Type 0 where
    pub images : List Rows
    pub reads : AreRead p.settings.manner (given_in around.fired) p.settings.level (values_of p.vars) shapes (bound.Query query) exchanges images
    pub answers : answer_in around p query images ≡ Ok rows

  -- The answer of a SELECT is sent.
  pub record IsSelected (shapes : List TableTree) (query : BoundQuery) (planned : List Planned) (effect : Effect) (exchanges : List Exchange) : Type 0 where
    pub rows : Rows
    pub answered : IsAnswered shapes query rows exchanges
    pub results : result_of (done_kind around) p.settings.no_count query rows ≡ Ok effect
    pub plans : planned ≡ []

  -- Or each of its rows assigns variables, in turn.
  pub record AreAssigned (shapes : List TableTree) (query : BoundQuery) (places : List ℕ) (planned : List Planned) (effect : Effect) (exchanges : List Exchange) : Type 0 where
    pub rows : Rows
    pub answered : IsAnswered shapes query rows exchanges
    pub assigns : rows_assigned p.vars places [] rows ≡ (effect.sets, None)
    pub counts : effect.rows ≡ length rows
    pub silent : effect.tokens ≡ []
    pub plans : planned ≡ []

  abbrev pub IsSelect : List TableTree → Bound → List Planned → Effect → List Exchange → Type 0
  IsSelect shapes (bound.Query query) planned effect exchanges = IsSelected shapes query planned effect exchanges
  IsSelect shapes (bound.Assign query places) planned effect exchanges = AreAssigned shapes query places planned effect exchanges
  IsSelect shapes bound.Plain planned effect exchanges = ⊥
  IsSelect shapes (bound.Write write) planned effect exchanges = ⊥

  -- The values of expressions are the answer of a query; where there are none, nothing was read.
  abbrev pub AreValues : List TableTree → Bound → Rows → List Exchange → Type 0
  AreValues shapes (bound.Query query) rows exchanges = IsAnswered shapes query rows exchanges
  AreValues shapes bound.Plain rows exchanges = (rows ≡ []) × (exchanges ≡ [])
  AreValues shapes (bound.Write write) rows exchanges = ⊥
  AreValues shapes (bound.Assign query places) rows exchanges = ⊥

  -- DECLARE and SET make something of them.
  pub record IsComputed (form : Layer) (shapes : List TableTree) (of : Bound) (planned : List Planned) (effect : Effect) (exchanges : List Exchange) : Type 0 where
    pub rows : Rows
    pub values : AreValues shapes of rows exchanges
    pub makes : made_of form p.vars (first_row rows) ≡ Ok effect
    pub plans : planned ≡ []

  -- RETURN makes a status of them.
  pub record IsStatus (shapes : List TableTree) (of : Bound) (status : ℤ) (exchanges : List Exchange) : Type 0 where
    pub rows : Rows
    pub values : AreValues shapes of rows exchanges
    pub makes : status_of (first_row rows) ≡ Ok status

  -- A write reads all definitions, and its tables; it plans on these, and the plan is put, as index rows are found, and checked. The triggers
  -- that it fires are those of these definitions, and what they see is the plan.
  pub record IsWritten (shape : TableTree) (shapes : List TableTree) (write : BoundWrite) (planned : List Planned) (done : Written) (exchanges : List Exchange) : Type 0 where
    pub definitions : List Definition
    pub images : List Rows
    pub defined : List Exchange
    pub read : List Exchange
    pub applied : List Exchange
    pub parts : exchanges ≡ defined ++ (read ++ applied)
    pub defines : AreDefined p.settings.manner First [] defined definitions
    pub reads : Held p.settings.manner (images_of (given_in around.fired) (shape ∷ shapes) p.settings.level (values_of p.vars) (bound.Write write)) read (Ok images)
    pub plan : List Planned
    pub plans : planned_over around p (shape ∷ shapes) write images ≡ Ok plan
    pub applies : AreApplied p.settings.manner (tables_of definitions) plan planned applied
    pub marks : done.mark ≡ applies.mark
    pub tells : done.effect ≡ told_by (done_kind around) p.settings.no_count write plan
    pub fires : done.fires ≡ fires_of around definitions write
    pub sees : done.fired ≡ fired_by (shape_or shape (shape_of (table_written write) (shape ∷ shapes))) write images plan

  abbrev pub IsChange : List TableTree → Bound → List Planned → Written → List Exchange → Type 0
  IsChange [] of planned done exchanges = ⊥
  IsChange (shape ∷ shapes) (bound.Write write) planned done exchanges = IsWritten shape shapes write planned done exchanges
  IsChange (shape ∷ shapes) (bound.Query query) planned done exchanges = ⊥
  IsChange (shape ∷ shapes) (bound.Assign query places) planned done exchanges = ⊥
  IsChange (shape ∷ shapes) bound.Plain planned done exchanges = ⊥

  -- One that fires no trigger is done with its effect.
  abbrev pub IsChangeAlone : List TableTree → Bound → List Planned → Effect → List Exchange → Type 0
  IsChangeAlone shapes of planned effect exchanges = (done : Written) × IsChange shapes of planned done exchanges × (done.fires ≡ []) × (effect ≡ done.effect)

  -- CREATE puts a definition, at whose key no row stands, behind a mark.
  pub record IsCreated (name text : List ℕ) (planned : List Planned) (effect : Effect) (exchanges : List Exchange) : Type 0 where
    pub mark : ℕ
    pub parts : exchanges ≡ replied p.settings.manner ops.Mark (Marked mark) ∷ replied p.settings.manner (created name text) Done ∷ []
    pub another : is_objects name ≡ false
    pub plans : planned ≡ definition_put name text ∷ []
    pub tells : effect ≡ no_effect

  -- by its form, and what it is bound to
  abbrev pub IsWorked : Layer → List TableTree → Bound → List Planned → Effect → List Exchange → Type 0
  IsWorked (Form-F.Select select) shapes of planned effect exchanges = IsSelect shapes of planned effect exchanges
  IsWorked (Form-F.Insert table columns rows) shapes of planned effect exchanges = IsChangeAlone shapes of planned effect exchanges
  IsWorked (Form-F.Update table sets filter) shapes of planned effect exchanges = IsChangeAlone shapes of planned effect exchanges
  IsWorked (Form-F.Delete table filter) shapes of planned effect exchanges = IsChangeAlone shapes of planned effect exchanges
  IsWorked (Form-F.CreateTable table text) shapes of planned effect exchanges = IsCreated table.name text planned effect exchanges
  IsWorked form shapes of planned effect exchanges = IsComputed form shapes of planned effect exchanges

  -- ---- DROP

  -- DROP TABLE reads all definitions, of which no other refers to the table, and its rows; these are erased, and its triggers, and its definition.
  pub record IsTableDropped (shape : TableTree) (name : List ℕ) (planned : List Planned) (effect : Effect) (exchanges : List Exchange) : Type 0 where
    pub definitions : List Definition
    pub images : List Rows
    pub defined : List Exchange
    pub read : List Exchange
    pub applied : List Exchange
    pub parts : exchanges ≡ defined ++ (read ++ applied)
    pub defines : AreDefined p.settings.manner First [] defined definitions
    pub free : unless_referred name (tables_of definitions) ≡ Ok tt
    pub reads : Held p.settings.manner (images_of none_given (shape ∷ []) Serializable [] (bound.Write (whole name))) read (Ok images)
    pub plan : List Planned
    pub plans : dropped around p definitions shape name images ≡ Ok plan
    pub applies : AreApplied p.settings.manner [] plan planned applied
    pub tells : effect ≡ no_effect

  -- DROP of a procedure or trigger erases its definition.
  pub record IsDefinitionDropped (name : List ℕ) (planned : List Planned) (effect : Effect) (exchanges : List Exchange) : Type 0 where
    pub plans : planned ≡ definition_erased name ∷ []
    pub applies : AreApplied p.settings.manner [] (definition_erased name ∷ []) planned exchanges
    pub tells : effect ≡ no_effect

  -- what was found is of its kind, and of this name
  abbrev pub IsDrop : DropKind → List ℕ → Option Definition → List Planned → Effect → List Exchange → Type 0
  IsDrop drop.Table name (Some (Table table)) planned effect exchanges = (table.name ≡ name) × IsTableDropped table name planned effect exchanges
  IsDrop drop.Procedure name (Some (Procedure procedure)) planned effect exchanges = (procedure.name ≡ name) × IsDefinitionDropped name planned effect exchanges
  IsDrop drop.Trigger name (Some (Trigger trigger)) planned effect exchanges = (trigger.name ≡ name) × IsDefinitionDropped name planned effect exchanges
  IsDrop kind name found planned effect exchanges = ⊥

  -- ---- the work of a statement

  -- Names were looked up, over what was found it was bound, and by that it did its work.
  pub record IsBound (statement : Statement) (Works : List TableTree → Bound → List Exchange → Type 0) (exchanges : List Exchange) : Type 0 where
    pub definitions : List Definition
    pub of : Bound
    pub looked : List Exchange
    pub worked : List Exchange
    pub parts : exchanges ≡ looked ++ worked
    pub looks : AreLookedUp p.settings.manner (known_by around statement) [] (looked_up statement) looked definitions
    pub binds : bound_over definitions p.vars statement ≡ Ok of
    pub works : Works (tables_of definitions) of worked

  -- One name was looked up, and the statement was bound over nothing; by what was found it did its work.
  pub record IsNamed (statement : Statement) (name : List ℕ) (Works : Option Definition → List Exchange → Type 0) (exchanges : List Exchange) : Type 0 where
    pub found : Option Definition
    pub of : Bound
    pub looked : List Exchange
    pub worked : List Exchange
    pub parts : exchanges ≡ looked ++ worked
    pub looks : IsFoundBy p.settings.manner (known_by around statement name) name looked found
    pub binds : bound_over [] p.vars statement ≡ Ok of
    pub works : Works found worked

  abbrev pub IsDoneAs : Layer → Statement → List Planned → Effect → List Exchange → Type 0
  IsDoneAs (Form-F.Drop kind name) statement planned effect exchanges = IsNamed statement name (λ found worked. IsDrop kind name found planned effect worked) exchanges
  IsDoneAs form statement planned effect exchanges = IsBound statement (λ shapes of worked. IsWorked form shapes of planned effect worked) exchanges

  abbrev pub IsDone : Statement → List Planned → Effect → List Exchange → Type 0
  IsDone statement planned effect exchanges = IsDoneAs (form_of statement) statement planned effect exchanges

  -- A write, up to where its triggers run.
  abbrev pub IsChanged : Statement → List Planned → Written → List Exchange → Type 0
  IsChanged statement planned done exchanges = IsBound statement (λ shapes of worked. IsChange shapes of planned done worked) exchanges

  -- RETURN
  abbrev pub IsReturned : Statement → ℤ → List Exchange → Type 0
  IsReturned statement status exchanges = IsBound statement (λ shapes of worked. IsStatus shapes of status worked) exchanges

  -- EXEC, up to where its procedure runs: what was found is called, with values for its parameters.
  abbrev pub IsCalled : Statement → Option (List ℕ) → List ℕ → List Argument → Call → List Exchange → Type 0
  IsCalled statement status name arguments call exchanges = IsNamed statement name (λ found worked. (worked ≡ []) × (call_over around status name arguments p.vars found ≡ Ok call)) exchanges

-- ---- CREATE PROCEDURE and CREATE TRIGGER

-- outside the limits of definitions
abbrev pub is_outside : Definition → Bool
is_outside (Table table) = true
is_outside (Procedure procedure) = is_long procedure.name || is_odd_list procedure.parameters
is_outside (Trigger trigger) = is_long trigger.name

-- a trigger's table was found; a procedure names none
abbrev pub IsFoundFor : Manner → Definition → List Exchange → Type 0
IsFoundFor manner (Table table) exchanges = ⊥
IsFoundFor manner (Procedure procedure) exchanges = exchanges ≡ []
IsFoundFor manner (Trigger trigger) exchanges = (is_objects trigger.table ≡ false) × ((table : TableTree) × (table.name ≡ trigger.table) × IsLookedUp manner false trigger.table exchanges (Some (Table table)))

-- Its table was looked up, if it is a trigger, and its definition was put.
pub record IsPut (p : SessionProgress) (of : Definition) (text : List ℕ) (planned : List Planned) (exchanges : List Exchange) : Type 0 where
  pub looked : List Exchange
  pub worked : List Exchange
  pub parts : exchanges ≡ looked ++ worked
  pub looks : IsFoundFor p.settings.manner of looked
  pub inside : is_outside of ≡ false
  pub works : IsCreated around_batch p (defined_name of) text planned no_effect worked

-- ---- what failed

-- a fetch or a write, which goes on
abbrev pub IsForward : Op → Type 0
IsForward (ops.Fetch table start stop hold part) = Unit {0}
IsForward (ops.Insert table key row) = Unit {0}
IsForward (ops.Replace table key row) = Unit {0}
IsForward (ops.Erase table key) = Unit {0}
IsForward op = ⊥

-- Behind a mark something was asked, and taken back to it.
pub record IsTakenBack (manner : Manner) (exchanges : List Exchange) : Type 0 where
  pub mark : ℕ
  pub between : List Exchange
  pub parts : exchanges ≡ replied manner ops.Mark (Marked mark) ∷ (between ++ replied manner (ops.BackTo mark) Done ∷ [])
  pub forward : AskOnly IsForward between

-- nothing was asked that writes, or it was taken back; or memory was wanting for the mark
abbrev pub IsUndone : Manner → List Exchange → Type 0
IsUndone manner exchanges = (exchanges ≡ []) ⊎ ((exchanges ≡ replied manner ops.Mark Memory ∷ []) ⊎ IsTakenBack manner exchanges)

-- It read, and what it wrote behind that is undone.
pub record IsFailed (manner : Manner) (exchanges : List Exchange) : Type 0 where
  pub read : List Exchange
  pub undone : List Exchange
  pub parts : exchanges ≡ read ++ undone
  pub reads : AskOnly IsFetch read
  pub undoes : IsUndone manner undone

-- ---- the end of a statement

-- the locks of the statement ended, where it had any
abbrev pub IsRelaxed : Manner → List Exchange → Type 0
IsRelaxed manner exchanges = (exchanges ≡ []) ⊎ (exchanges ≡ replied manner ops.Relax Done ∷ [])

-- how a transaction of its own ends: it is committed where the statement succeeded, and else rolled back
abbrev pub end_of : Bool → Op
end_of true = ops.Commit
end_of false = ops.Rollback

-- What is asked around the work of a statement, by whether it asks anything, whether a transaction is open, and whether it succeeded: nothing;
-- or the end of its locks, in the open transaction; or that, in one of its own, which is begun for it and ends with it.
abbrev pub IsAround : Bool → Bool → Bool → Manner → List Exchange → List Exchange → Type 0
IsAround false is_open succeeded manner worked exchanges = exchanges ≡ worked
IsAround true true succeeded manner worked exchanges = (relaxed : List Exchange) × (exchanges ≡ worked ++ relaxed) × IsRelaxed manner relaxed
IsAround true false succeeded manner worked exchanges =
    (relaxed : List Exchange) × (place : ℕ) × (exchanges ≡ (replied manner ops.Begin Began ∷ (worked ++ relaxed)) ++ replied manner (end_of succeeded) (Ended place) ∷ []) × IsRelaxed manner relaxed

-- where it begins: in the open one, or in one of its own
abbrev pub IsEntered : Bool → Manner → List Exchange → Home → Type 0
IsEntered true manner exchanges came = (exchanges ≡ []) × (came ≡ home.Open)
IsEntered false manner exchanges came = (exchanges ≡ replied manner ops.Begin Began ∷ []) × (came ≡ home.Own)

-- ---- the whole of a statement that is done with its effect

-- whether it asks anything: CREATE TABLE does, and others where the first name is looked up
abbrev pub asks_for : Around → Statement → Layer → Bool
asks_for around statement (Form-F.CreateTable table text) = true
asks_for around statement (Form-F.Drop kind name) = asks_any (known_by around statement) (name ∷ [])
asks_for around statement form = asks_any (known_by around statement) (looked_up statement)

abbrev pub asks_of : Around → Statement → Bool
asks_of around statement = asks_for around statement (form_of statement)

-- what it does; INSERT, UPDATE and DELETE go on to their triggers
abbrev pub work_for : Around → Statement → Layer → Doing (Result Effect Failure)
work_for around statement (Form-F.CreateTable table text) = creates_table around statement table.name text
work_for around statement (Form-F.Drop kind name) = drops around statement kind name
work_for around statement form = works around statement

abbrev pub work_of : Around → Statement → Doing (Result Effect Failure)
work_of around statement = work_for around statement (form_of statement)

-- It succeeded.
abbrev pub HasDone : Around → SessionProgress → Statement → List Planned → Effect → List Exchange → Type 0
HasDone around p statement planned effect exchanges =
    (worked : List Exchange) × IsDone around p statement planned effect worked × IsAround (asks_of around statement) p.is_open true p.settings.manner worked exchanges

-- It failed, by whether it asks anything: nothing was asked; or no transaction could be begun; or its work failed.
abbrev pub HasFailedIn : Bool → SessionProgress → List Exchange → Type 0
HasFailedIn asks_some p exchanges = (exchanges ≡ []) ⊎ ((exchanges ≡ replied p.settings.manner ops.Begin Memory ∷ [])
    ⊎ ((worked : List Exchange) × IsFailed p.settings.manner worked × IsAround asks_some p.is_open false p.settings.manner worked exchanges))

abbrev pub HasFailed : Around → SessionProgress → Statement → List Exchange → Type 0
HasFailed around p statement exchanges = HasFailedIn (asks_of around statement) p exchanges

-- RETURN made a status.
abbrev pub HasReturned : Around → SessionProgress → Statement → ℤ → List Exchange → Type 0
HasReturned around p statement status exchanges =
    (worked : List Exchange) × IsReturned around p statement status worked × IsAround (asks_any (known_by around statement) (looked_up statement)) p.is_open true p.settings.manner worked exchanges

-- EXEC found what it calls.
abbrev pub HasCalled : Around → SessionProgress → Statement → Option (List ℕ) → List ℕ → List Argument → Call → List Exchange → Type 0
HasCalled around p statement status name arguments call exchanges =
    (worked : List Exchange) × IsCalled around p statement status name arguments call worked × IsAround (asks_any (known_by around statement) (name ∷ [])) p.is_open true p.settings.manner worked exchanges

-- A definition was put, or that failed.
abbrev pub HasPut : SessionProgress → Definition → List ℕ → List Planned → List Exchange → Type 0
HasPut p of text planned exchanges = (worked : List Exchange) × IsPut p of text planned worked × IsAround true p.is_open true p.settings.manner worked exchanges

abbrev pub HasPutFailed : SessionProgress → List Exchange → Type 0
HasPutFailed p exchanges = HasFailedIn true p exchanges

-- ---- a write

abbrev pub is_write : Layer → Bool
is_write (Form-F.Insert table columns rows) = true
is_write (Form-F.Update table sets filter) = true
is_write (Form-F.Delete table filter) = true
is_write form = false

-- what it does without its triggers
unfoldable pub changes_of : Around → Statement → Doing (Result Written Failure)
changes_of around statement = with_room (own (asks_any (known_by around statement) (looked_up statement)) (binds around statement (change_bound around)))

-- So it succeeded.
abbrev pub HasChanged : Around → SessionProgress → Statement → List Planned → Written → List Exchange → Type 0
HasChanged around p statement planned done exchanges =
    (worked : List Exchange) × IsChanged around p statement planned done worked × IsAround (asks_of around statement) p.is_open true p.settings.manner worked exchanges

-- It fired no trigger: it succeeded, or failed.
abbrev pub IsUnfired : Around → SessionProgress → Statement → Result Effect Stop → List Exchange → Type 0
IsUnfired around p statement (Ok effect) exchanges = (planned : List Planned) × HasDone around p statement planned effect exchanges
IsUnfired around p statement (Err (Failed failure)) exchanges = HasFailed around p statement exchanges
IsUnfired around p statement (Err (Left exit)) exchanges = ⊥

-- It came to where its triggers run, in the open transaction, or in one of its own that was begun for it.
pub record HasWritten (around : Around) (p : SessionProgress) (statement : Statement) (planned : List Planned) (done : Written) (came : Home) (exchanges : List Exchange) : Type 0 where
  pub entered : List Exchange
  pub worked : List Exchange
  pub parts : exchanges ≡ entered ++ worked
  pub asks : asks_of around statement ≡ true
  pub enters : IsEntered p.is_open p.settings.manner entered came
  pub changes : IsChanged around p statement planned done worked

-- It fires some. There the session is as it was, but that its transaction is open and has locks to be relaxed; and this goes on.
pub record IsFired (around : Around) (p : SessionProgress) (statement : Statement) (Goes : Home → Written → SessionProgress → List Exchange → Type 0) (exchanges : List Exchange) : Type 0 where
  pub planned : List Planned
  pub done : Written
  pub came : Home
  pub mid : SessionProgress
  pub front : List Exchange
  pub behind : List Exchange
  pub parts : exchanges ≡ front ++ behind
  pub writes : HasWritten around p statement planned done came front
  pub some : done.fires ≢ []
  pub still : mid ≡ record p { is_open = true; touched = mid.touched }
  pub goes : Goes came done mid behind
