-- Own: what one fetch of `objects` makes of the definitions that were read so far.
use Rattle.std.specs.Prelude.{◌≡◌, List, Option, None, Some, Result, Ok, Err}
use Rattle.value_types.specs.declared.value.Value.{Value}
use Rattle.tsql_tree.specs.declared.definition.Definition.{Definition}
use Rattle.table_rows.specs.Definitions.{objects_name, IsDefinitionIn}
use Rattle.table_rows.specs.Rows.{rows_table}
use Rattle.lock_modes.specs.declared.KeyPart.TheVariants.{S}
use Rattle.step_model.specs.declared.op.Hold.TheVariants as hold
use Rattle.step_model.specs.declared.op.Op.{Op}
use Rattle.step_model.specs.declared.op.Op.TheVariants.{Fetch}
use Rattle.step_model.specs.declared.range.Stop.TheVariants.{Last}
use Rattle.step_model.specs.Ranges.{no_memory}
use Rattle.dml_exec.specs.Reading.{behind_gone, from}
use Rattle.batch_meaning.specs.Asking.{with_found}
use Rattle.batch_meaning.specs.declared.failure.Failure.{Failure}
use Rattle.batch_meaning.specs.Failures.{plain}

-- the fetch of what is behind a key
abbrev pub fetch_behind : Op → List Value → Op
fetch_behind fetch key = from (behind_gone 1 key) fetch

-- a fetch with its range held
abbrev pub IsFetch : Op → Type 0
IsFetch (Fetch table start stop hold.Range S) = Unit {0}
IsFetch op = ⊥

-- a fetch of `objects`, from some key on
abbrev pub ReadsObjects : Op → Type 0
ReadsObjects (Fetch table start Last hold.Range S) = table ≡ rows_table objects_name
ReadsObjects op = ⊥

-- what a row at a key makes of the definitions so far: the key to go on from, or memory was wanting
abbrev pub IsKeyDefined : List Value → List Value → List Definition → Result (Option (List Value)) Failure → List Definition → Type 0
IsKeyDefined key row old (Ok (Some last)) new = (last ≡ key) × (found : Option Definition) × IsDefinitionIn (key, row) found × (new ≡ with_found old found)
IsKeyDefined key row old (Ok None) new = ⊥
IsKeyDefined key row old (Err failure) new = failure ≡ plain no_memory
