-- Own: what a statement does within a transaction that changes something: INSERT, UPDATE and DELETE up to where their triggers run, DROP, and
-- what CREATE puts into `objects`.
use Rattle.std.specs.Prelude.{◌||◌, ℕ, filter, filter_map, slice_get, nat_lt, not, Bool, true, false, if◌then◌else◌, List, [], ◌∷◌, length, Option, None, Some, Result, Ok}
use Rattle.std.specs.List.{list_any}
use Rattle.value_types.specs.Units.{same_units}
use Rattle.tsql_tree.specs.declared.definition.Definition.{Definition}
use Rattle.tsql_tree.specs.declared.definition.Definition.TheVariants.{Table, Procedure, Trigger}
use Rattle.tsql_tree.specs.declared.definition.ProcedureTree.{ProcedureTree}
use Rattle.tsql_tree.specs.declared.definition.Parameter.{Parameter}
use Rattle.tsql_tree.specs.declared.definition.TableTree.{TableTree}
use Rattle.tsql_tree.specs.declared.definition.TriggerTree.{TriggerTree}
use Rattle.tsql_tree.specs.declared.statement.DropKind.{DropKind}
use Rattle.tsql_tree.specs.declared.statement.DropKind.TheVariants as drop
use Rattle.tsql_tree.specs.declared.statement.Statement.{Statement}
use Rattle.tsql_tree.specs.Places.{key_places}
use Rattle.bound_tree.specs.declared.write.Bound.{Bound}
use Rattle.bound_tree.specs.declared.write.Bound.TheVariants as bound
use Rattle.bound_tree.specs.declared.write.BoundWrite.{BoundWrite}
use Rattle.typed_nodes.specs.Nodes.{is_kind}
use Rattle.clause_binder.specs.Scope.{is_long, max_variables}
use Rattle.binder.specs.Names.{looked_up}
use Rattle.call_rules.specs.Triggers as seen
use Rattle.table_rows.specs.Definitions.{is_objects, tables_of}
use Rattle.table_rows.specs.Rows.{shape_of}
use Rattle.step_model.specs.declared.change.Planned.{Planned}
use Rattle.step_model.specs.declared.op.Op.TheVariants as ops
use Rattle.step_model.specs.declared.reply.Reply.{Reply}
use Rattle.step_model.specs.declared.reply.Reply.TheVariants as replies
use Rattle.step_model.specs.Ranges.{Rows, no_memory, lock_timeout, deadlock}
use Rattle.dml_exec.specs.declared.refusal.Level.TheVariants as level
use Rattle.dml_exec.specs.Planning.{table_written}
use Rattle.dml_exec.specs.Reading.{none_given}
use Rattle.batch_meaning.specs.declared.failure.Failure.{Failure}
use Rattle.batch_meaning.specs.Raised.{Around, Fired}
use Rattle.batch_meaning.specs.Failures.{plain, naming}
use Rattle.batch_meaning.specs.Tokens.{done_kind}
use Rattle.batch_meaning.specs.Doing.{Doing, over, reads, asks, room, never}
use Rattle.batch_meaning.specs.Values.{outside_limits}
use Rattle.batch_meaning.specs.Selecting.{Effect, bound_over, no_effect, not_bound_so}
use Rattle.batch_meaning.specs.Changing.{created, definition_erased, dropped, event_of, not_there, object_present, planned_over, target_rows, told_by, unknown_table, unless_referred, whole}
use Rattle.batch_meaning.specs.Asking.{◌>>=◌, applies, comes_to, fails, fails_naming, finds_by, look_up, marked, reads_at, reads_definitions, reads_images, takes_back, unless_refused, with_room}
use Rattle.batch_meaning.specs.Working.{asks_any, binds, given_in, if_it_fits, known_by, own}

-- ---- INSERT, UPDATE and DELETE

-- What a write has done: what it tells, its statement's mark, the triggers that it fires, in the order of their names, and what they see.
pub record Written : Type 0 where
  pub effect : Effect
  pub mark : ℕ
  pub fires : List TriggerTree
  pub fired : Fired

-- the shape of the table that is written; where it is not among the shapes, nothing is planned
abbrev pub shape_or : TableTree → Option TableTree → TableTree
shape_or other None = other
shape_or other (Some shape) = shape

-- what its triggers see of it
abbrev pub fired_by : TableTree → BoundWrite → List Rows → List Planned → Fired
fired_by shape write rows planned = record {
  shape = shape;
  deleted = seen.deleted (key_places (Some shape)) (target_rows write rows) planned;
  inserted = seen.inserted planned;
}

abbrev pub trigger_in : Option Definition → Option TriggerTree
trigger_in None = None
trigger_in (Some (Table table)) = None
trigger_in (Some (Procedure procedure)) = None
trigger_in (Some (Trigger trigger)) = Some trigger

module _ (around : Around) where
  -- a trigger is not fired by its own statements
  abbrev pub is_within : TriggerTree → Option Fired → Bool
  is_within trigger None = false
  is_within trigger (Some fired) = same_units trigger.name around.procedure

  abbrev pub is_fired : TriggerTree → Bool
  is_fired trigger = not (is_within trigger around.fired)

  -- the triggers that a write fires, in the order of their names
  abbrev pub fires_of : List Definition → BoundWrite → List TriggerTree
  fires_of definitions write =
      filter is_fired (filter_map (λ place. trigger_in (slice_get definitions place)) (seen.triggers_for (table_written write).object (event_of write) definitions))

  -- The definitions are read, and the tables of a write; what it changes is planned, and asked where it can be told. What its triggers see is
  -- there before anything is changed, so that behind the changes they want no memory for it.
  unfoldable pub changes : TableTree → List TableTree → BoundWrite → Doing (Result Written Failure)
  changes shape shapes write = do
    definitions ← reads_definitions
    images ← reads_images (given_in around.fired) (shape ∷ shapes) (bound.Write write)
    planned ← (reads λ p. comes_to (planned_over around p (shape ∷ shapes) write images))
    effect ← (reads λ p. comes_to (Ok (told_by (done_kind around) p.settings.no_count write planned)))
    fitting ← if_it_fits effect
    fires ← comes_to (Ok (fires_of definitions write))
    fired ← comes_to (Ok (fired_by (shape_or shape (shape_of (table_written write) (shape ∷ shapes))) write images planned))
    mark ← with_room (applies (tables_of definitions) planned)
    over (Ok (record { effect = fitting; mark = mark; fires = fires; fired = fired }))

  abbrev pub change_bound : List TableTree → Bound → Doing (Result Written Failure)
  change_bound [] of = fails not_bound_so
  change_bound (shape ∷ shapes) (bound.Write write) = changes shape shapes write
  change_bound shapes (bound.Query query) = fails not_bound_so
  change_bound shapes (bound.Assign query places) = fails not_bound_so
  change_bound shapes bound.Plain = fails not_bound_so

  -- ---- DROP

  -- A table that is there: the definitions are read, of which no other may refer to it; then its rows, which are erased with its triggers and its
  -- definition.
  unfoldable pub drops_table : TableTree → List ℕ → Doing (Result Effect Failure)
  drops_table shape name = do
    definitions ← reads_definitions
    free ← comes_to (unless_referred name (tables_of definitions))
    images ← with_room (reads_at none_given level.Serializable [] (shape ∷ []) (bound.Write (whole name)))
    planned ← (reads λ p. comes_to (dropped around p definitions shape name images))
    put ← applies [] planned
    over (Ok no_effect)

  -- a procedure or trigger that is there: its definition is erased
  unfoldable pub drops_definition : List ℕ → Doing (Result Effect Failure)
  drops_definition name = with_room (applies [] (definition_erased name ∷ [])) >>= λ put. over (Ok no_effect)

  -- what was found under the name has that name, and is of the kind
  abbrev pub drops_found : DropKind → List ℕ → Option Definition → Doing (Result Effect Failure)
  drops_found drop.Table name (Some (Table table)) = if same_units table.name name then drops_table table name else fails_naming not_there name
  drops_found drop.Procedure name (Some (Procedure procedure)) = if same_units procedure.name name then drops_definition name else fails_naming not_there name
  drops_found drop.Trigger name (Some (Trigger trigger)) = if same_units trigger.name name then drops_definition name else fails_naming not_there name
  drops_found kind name found = fails_naming not_there name

  unfoldable pub drops : Statement → DropKind → List ℕ → Doing (Result Effect Failure)
  drops statement kind name = with_room (own (asks_any (known_by around statement) (name ∷ [])) (do
    found ← finds_by (known_by around statement name) name
    of ← (reads λ p. comes_to (bound_over [] p.vars statement))
    drops_found kind name found))

-- ---- what CREATE puts into `objects`

-- what the insertion of a definition comes to; an object of that name is an error that names it
abbrev pub inserted : ℕ → List ℕ → Reply → Doing (Result (Unit {0}) Failure)
inserted mark name replies.Done = over (Ok tt)
inserted mark name replies.Exists = room λ enough. takes_back mark (if enough then naming object_present name else plain no_memory)
inserted mark name replies.Memory = takes_back mark (plain no_memory)
inserted mark name (replies.TimedOut holder held wanted on) = takes_back mark (plain lock_timeout)
inserted mark name (replies.Victim cycle) = takes_back mark (plain deadlock)
inserted mark name reply = never

-- a definition is put there
unfoldable pub creates : List ℕ → List ℕ → Doing (Result Effect Failure)
creates name text = with_room (asks ops.Mark (unless_refused (marked λ mark. asks (created name text) (inserted mark name)))) >>= λ put. over (Ok no_effect)

-- `objects` is an object, which is none of a batch
abbrev pub unless_objects : {A : Type 0} → List ℕ → Doing (Result A Failure) → Doing (Result A Failure)
unless_objects name tree = if is_objects name then fails_naming object_present name else tree

-- CREATE TABLE is bound first, with the parents that it names; where there are none, nothing is asked before the insertion
unfoldable pub creates_table : Around → Statement → List ℕ → List ℕ → Doing (Result Effect Failure)
creates_table around statement name text = with_room (if asks_any (known_by around statement) (looked_up statement)
    then own true (binds around statement λ shapes of. unless_objects name (creates name text))
    else binds around statement λ shapes of. unless_objects name (own true (creates name text)))

-- ---- CREATE PROCEDURE and CREATE TRIGGER

-- a parameter whose name is too long, or which is a text of a size that there is not
abbrev pub is_odd_parameter : Parameter → Bool
is_odd_parameter parameter = is_long parameter.name || not (is_kind parameter.kind)

-- more parameters than a procedure may have variables
abbrev pub is_odd_list : List Parameter → Bool
is_odd_list parameters = nat_lt max_variables (length parameters) || list_any is_odd_parameter parameters

-- a procedure whose name is too long, or whose parameters are odd
abbrev pub is_odd_procedure : ProcedureTree → Bool
is_odd_procedure procedure = is_long procedure.name || is_odd_list procedure.parameters

abbrev pub unless_outside : Bool → Doing (Result Effect Failure) → Doing (Result Effect Failure)
unless_outside outside tree = if outside then fails outside_limits else tree

-- a definition that is within the limits, and does not have the name of `objects`
abbrev pub puts_definition : Bool → List ℕ → Doing (Result Effect Failure) → Doing (Result Effect Failure)
puts_definition outside name tree = unless_outside outside (unless_objects name tree)

-- a trigger's table is there
abbrev pub where_table : List ℕ → Doing (Result Effect Failure) → Option Definition → Doing (Result Effect Failure)
where_table name tree (Some (Table table)) = if same_units table.name name then tree else fails_naming unknown_table name
where_table name tree found = fails_naming unknown_table name

-- A procedure names nothing that is looked up. A trigger's table is, which stands in the way of nothing else; what its statements name is looked up when they
-- are run. A table is created by a statement of a batch.
unfoldable pub creates_definition : Definition → List ℕ → Doing (Result Effect Failure)
creates_definition (Table table) text = fails not_bound_so
creates_definition (Procedure procedure) text =
    with_room (puts_definition (is_odd_procedure procedure) procedure.name (own true (creates procedure.name text)))
creates_definition (Trigger trigger) text = with_room (own (not (is_objects trigger.table)) (look_up trigger.table >>= where_table trigger.table
    (puts_definition (is_long trigger.name) trigger.name (creates trigger.name text))))
