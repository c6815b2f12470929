-- Own: what a write comes to, apart from what is asked for it: its changes, and how many rows it tells. And what CREATE and DROP change: a
-- definition is a row of `objects`.
use Rattle.std.specs.Prelude.{ℕ, ◌-◌, ◌&&◌, Bool, not, if◌then◌else◌, List, [], ◌∷◌, ◌++◌, filter_map, get_or, length, map, Option, Some, None, Result, Ok, Err}
use Rattle.std.specs.List.{list_any}
use Rattle.value_types.specs.Units.{same_units}
use Rattle.tsql_tree.specs.declared.definition.Definition.{Definition}
use Rattle.tsql_tree.specs.declared.definition.Definition.TheVariants.{Trigger}
use Rattle.tsql_tree.specs.declared.definition.Event.{Event}
use Rattle.tsql_tree.specs.declared.definition.Event.TheVariants as event
use Rattle.tsql_tree.specs.declared.definition.TableTree.{TableTree}
use Rattle.bound_tree.specs.declared.expr.BoundTest.{BoundTest}
use Rattle.bound_tree.specs.declared.write.BoundWrite.{BoundWrite}
use Rattle.bound_tree.specs.declared.write.BoundWrite.TheVariants as write
use Rattle.binder.specs.Statements.{bind_checks}
use Rattle.scalar_eval.specs.declared.fault.EvalFault.TheVariants.{Number, Named, Memory}
use Rattle.table_rows.specs.Definitions.{objects_name, object_key, row_of}
use Rattle.table_rows.specs.Rows.{rows_table, shape_of}
use Rattle.step_model.specs.declared.change.Planned.{Planned}
use Rattle.step_model.specs.declared.op.Op.{Op}
use Rattle.step_model.specs.declared.op.Op.TheVariants.{Insert}
use Rattle.step_model.specs.Ranges.{Rows, no_memory}
use Rattle.dml_exec.specs.Planning.{Plan, Chg, erased_at, rows_told, table_written}
use Rattle.tds_tokens.specs.declared.token.DoneKind.{DoneKind}
use Rattle.tds_tokens.specs.Numbers.{command_insert, command_delete, command_update}
use Rattle.batch_meaning.specs.declared.failure.Failure.{Failure}
use Rattle.batch_meaning.specs.Raised.{Around}
use Rattle.batch_meaning.specs.Failures.{plain, naming}
use Rattle.batch_meaning.specs.Progress.{SessionProgress, system_in, values_of}
use Rattle.batch_meaning.specs.Selecting.{Effect, bound_as}
use Rattle.batch_meaning.specs.Tokens.{statement_done}

-- ---- INSERT, UPDATE and DELETE

abbrev pub unknown_table : ℕ
unknown_table = 208

-- the changes, or why there are none
abbrev pub planned_as : Plan → Result (List Planned) Failure
planned_as (Ok changes) = Ok changes
planned_as (Err (Number number)) = Err (record { number = number; name = None })
planned_as (Err (Named number name)) = Err (record { number = number; name = Some name })
planned_as (Err Memory) = Err (plain no_memory)

module _ (around : Around) (p : SessionProgress) where
  -- by what the table's CHECKs are bound to
  abbrev pub planned_with : TableTree → BoundWrite → List Rows → Result (List BoundTest) Failure → Result (List Planned) Failure
  planned_with shape of images (Ok checks) = planned_as (Chg (values_of p.vars) (system_in around p) shape checks of images)
  planned_with shape of images (Err failure) = Err failure

  -- by the shape of the table that is written, which is there where the write is bound
  abbrev pub planned_in : Option TableTree → BoundWrite → List Rows → Result (List Planned) Failure
  planned_in None of images = Err (plain unknown_table)
  planned_in (Some shape) of images = planned_with shape of images (bound_as (bind_checks shape))

  -- the changes of a write on these images, by the shapes of the tables that it names
  abbrev pub planned_over : List TableTree → BoundWrite → List Rows → Result (List Planned) Failure
  planned_over shapes of images = planned_in (shape_of (table_written of) shapes) of images

-- the command that the DONE of a write names
abbrev pub write_command : BoundWrite → ℕ
write_command (write.Insert table places given) = command_insert
write_command (write.Update table sets filter inner) = command_update
write_command (write.Delete table filter inner) = command_delete

-- what a write tells: how many rows
abbrev pub told_by : DoneKind → Bool → BoundWrite → List Planned → Effect
told_by kind no_count of changes = record { sets = []; rows = rows_told of changes; tokens = statement_done kind no_count (write_command of) (rows_told of changes) ∷ [] }

-- the event that a write is
abbrev pub event_of : BoundWrite → Event
event_of (write.Insert table places given) = event.Insert
event_of (write.Update table sets filter inner) = event.Update
event_of (write.Delete table filter inner) = event.Delete

-- the rows that a write's target had when it was read; an INSERT reads none of it
abbrev pub target_rows : BoundWrite → List Rows → Rows
target_rows (write.Insert table places given) images = []
target_rows (write.Update table sets filter inner) images = get_or images (length images - 1) []
target_rows (write.Delete table filter inner) images = get_or images (length images - 1) []

-- ---- CREATE

abbrev pub object_present : ℕ
object_present = 2714

-- a definition is a row of `objects`
abbrev pub created : List ℕ → List ℕ → Op
created name text = Insert (rows_table objects_name) (object_key name) (row_of name text)

-- ---- DROP

-- nothing of that kind and name is there
abbrev pub not_there : ℕ
not_there = 3701

-- a FOREIGN KEY of another table refers to it
abbrev pub is_parent : ℕ
is_parent = 3726

abbrev pub refers : List ℕ → TableTree → Bool
refers name table = list_any (λ foreign. same_units foreign.parent name) table.foreigns

-- another table refers to it
abbrev pub is_referred : List ℕ → List TableTree → Bool
is_referred name tables = list_any (λ table. not (same_units table.name name) && refers name table) tables

abbrev pub unless_referred : List ℕ → List TableTree → Result (Unit {0}) Failure
unless_referred name tables = if is_referred name tables then Err (naming is_parent name) else Ok tt

-- all rows of a table are erased, as by a DELETE
abbrev pub whole : List ℕ → BoundWrite
whole name = write.Delete (rows_table name) None []

-- a definition is erased
abbrev pub definition_erased : List ℕ → Planned
definition_erased name = erased_at (rows_table objects_name) (object_key name)

-- the names of the triggers of a table, which go with it
abbrev pub trigger_of : List ℕ → Definition → Option (List ℕ)
trigger_of table (Trigger trigger) = if same_units trigger.table table then Some trigger.name else None
trigger_of table other = None

abbrev pub triggers_of : List ℕ → List Definition → List (List ℕ)
triggers_of table definitions = filter_map (trigger_of table) definitions

-- and behind its rows its triggers, and its own definition
abbrev pub with_definitions : List Definition → List ℕ → List Planned → List Planned
with_definitions definitions name changes = changes ++ (map definition_erased (triggers_of name definitions) ++ definition_erased name ∷ [])

abbrev pub dropped_as : List Definition → List ℕ → Result (List Planned) Failure → Result (List Planned) Failure
dropped_as definitions name (Ok changes) = Ok (with_definitions definitions name changes)
dropped_as definitions name (Err failure) = Err failure

abbrev pub dropped : Around → SessionProgress → List Definition → TableTree → List ℕ → List Rows → Result (List Planned) Failure
dropped around p definitions shape name images = dropped_as definitions name (planned_as (Chg (values_of p.vars) (system_in around p) shape [] (whole name) images))
