-- Own: what a statement does to one part, at each key: a row that goes is erased; one whose key stays is replaced at the key where it stands, and all
-- else is inserted. Of the table's own part these are the changes of a write, of an index part those of its index rows.
use Rattle.std.specs.Prelude.{◌≡◌, Bool, List, [], ◌∷◌, ◌++◌, map, Option, None, Some, if◌then◌else◌}
use Rattle.std.specs.List.{flat_map, zip}
use Rattle.value_types.specs.declared.table_name.TableName.{TableName}
use Rattle.step_model.specs.declared.change.Deed.TheVariants.{Erase, Insert, Replace}
use Rattle.step_model.specs.declared.change.Planned.{Planned}
use Rattle.step_model.specs.Own.{change_of}
use Rattle.index_laws.specs.Parts.{OfRow, Row, RowChange, same}
use Rattle.index_laws.specs.Moves.{planned_by}

-- rows that come, rows that go, and rows as they were beside what they are set to
abbrev pub rows_added : List Row → List RowChange
rows_added rows = map (λ row. record { old = None; new = Some row }) rows

abbrev pub rows_gone : List Row → List RowChange
rows_gone rows = map (λ row. record { old = Some row; new = None }) rows

abbrev pub rows_set : List Row → List Row → List RowChange
rows_set olds news = map (λ pair. record { old = Some pair.0; new = Some pair.1 }) (zip olds news)

module _ (table : TableName) (key_of kept : OfRow) (skips : Row → Row → Bool) where
  abbrev pub erases : Row → Planned
  erases row = record { table = table; key = key_of row; deed = Erase }

  abbrev pub inserts : Row → Planned
  inserts row = record { table = table; key = key_of row; deed = Insert (kept row) }

  abbrev pub replaces : Row → Row → Planned
  replaces old new = record { table = table; key = key_of old; deed = Replace (kept new) }

  abbrev pub erases_if : Bool → Row → List Planned
  erases_if stays old = if stays then [] else erases old ∷ []

  abbrev pub rewrites_if : Bool → Row → Row → List Planned
  rewrites_if stays old new = if stays then replaces old new ∷ [] else inserts new ∷ []

  abbrev pub deeds_erased : Option Row → Option Row → List Planned
  deeds_erased None new = []
  deeds_erased (Some old) None = erases old ∷ []
  deeds_erased (Some old) (Some new) = erases_if (same (key_of new) (key_of old)) old

  abbrev pub deeds_written : Option Row → Option Row → List Planned
  deeds_written old None = []
  deeds_written None (Some new) = inserts new ∷ []
  deeds_written (Some old) (Some new) = if skips old new then [] else rewrites_if (same (key_of new) (key_of old)) old new

  abbrev pub deeds_by : List RowChange → List Planned
  deeds_by changes = flat_map (λ change. deeds_erased change.old change.new) changes ++ flat_map (λ change. deeds_written change.old change.new) changes

-- They are those changes.
abbrev pub DeedsAre : Type 0
DeedsAre = (table : TableName) (key_of kept : OfRow) (skips : Row → Row → Bool) (changes : List RowChange) → map change_of (deeds_by table key_of kept skips changes) ≡ planned_by table key_of kept skips changes
