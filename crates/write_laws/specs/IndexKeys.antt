-- Own: the laws of index rows that are asked for before anything is changed. What was told of a key is so at the transaction's place, and
-- where all were there the changes are those that were planned.
use Rattle.std.specs.Prelude.{◌≡◌, Bool, List, [], ◌++◌, length, map, is_some, Ok}
use Rattle.std.specs.List.{AllByRecursion}
use Rattle.value_types.specs.declared.value.Value.{Value}
use Rattle.tsql_tree.specs.declared.definition.TableTree.{TableTree}
use Rattle.step_model.specs.declared.change.Planned.{Planned}
use Rattle.step_model.specs.declared.manner.Manner.{Manner}
use Rattle.step_model.specs.Database.{Database}
use Rattle.step_model.specs.Dialog.{Held}
use Rattle.step_model.specs.Exchange.{Exchange}
use Rattle.step_model.specs.Fits.{ranges_hold}
use Rattle.step_model.specs.Log.{Commit as Logged}
use Rattle.index_laws.specs.Parts.{RowChange}
use Rattle.dml_exec.specs.Planning.{as_found, asked_of}
use Rattle.dml_exec.specs.Writing.{asks_keys}
use Rattle.write_laws.specs.Indexing.{CanChange, IsReady, StandsThere, all_deeds}
use Rattle.write_laws.specs.Reads.{KeysHave, at_place}

-- whether rows stand at the keys that are asked
abbrev pub stood_at : Database → List Planned → List Bool
stood_at db changes = map (λ change. is_some (db change.table change.key)) (asked_of changes)

-- what was told of them is so, where all keys of their parts are as long as they
abbrev pub KeysTold : Type 0
KeysTold = (log : List Logged) (mine before part later : List Exchange) (manner : Manner) (changes : List Planned) (found : List Bool) → mine ≡ before ++ (part ++ later) → ranges_hold log mine
    → Held manner (asks_keys changes []) part (Ok found) → AllByRecursion (λ change. KeysHave (length change.key) (at_place log before later) change.table) (asked_of changes) → found ≡ stood_at (at_place log before later) changes

-- where a row stands at each the changes are those that were planned
abbrev pub FoundAll : Type 0
FoundAll = (db : Database) (changes : List Planned) → AllByRecursion (StandsThere db) (asked_of changes) → as_found changes (stood_at db changes) ≡ changes

-- of rows of a table that can change all that is asked of their index rows stands, and their keys are as long as those of their parts
abbrev pub AskedStand : Type 0
AskedStand = (db : Database) (shape : TableTree) (equal : List Value → List Value → Bool) (changes : List RowChange) → IsReady db shape equal → CanChange db shape changes
    → AllByRecursion (λ change. StandsThere db change × KeysHave (length change.key) db change.table) (asked_of (all_deeds shape equal changes))
