-- Own: a table with its index parts, whose rows have the values of a constraint's columns and then those of the key. A statement
-- changes its rows, and then part by part their index rows; each part that was exact is exact behind it. And where what is read of a
-- part for UNIQUE, or for rows that refer, finds no row that is wrong, none of all rows of the table is.
use Rattle.std.specs.Prelude.{◌≡◌, ℕ, Bool, true, false, List, ◌∷◌, ◌++◌, map, get_or, Some}
use Rattle.std.specs.List.{AllByRecursion, flat_map}
use Rattle.std.specs.Ordering.{is_eq, nat_cmp}
use Rattle.value_types.specs.declared.table_name.TableName.{TableName}
use Rattle.value_types.specs.declared.value.Value.{Value}
use Rattle.value_types.specs.declared.value.Value.TheVariants.{Null}
use Rattle.step_model.specs.declared.change.Change.{Change}
use Rattle.step_model.specs.declared.range.Start.TheVariants.{At}
use Rattle.step_model.specs.declared.range.Stop.TheVariants.{Within}
use Rattle.step_model.specs.Database.{Database, With, is_within}
use Rattle.index_laws.specs.Parts.{IsExact, IsOld, OfRow, OneKey, Part, Row, RowChange, same}
use Rattle.index_laws.specs.Moves.{planned_by}
use Rattle.index_laws.specs.Laws.{FreshRows, OldsOne, erasures_of, itself, never}

-- the values at places of a row
abbrev pub values_at : List ℕ → Row → List Value
values_at places row = map (λ place. get_or row place Null) places

-- an index part of a table: its number, and the places of its constraint's columns
pub record IndexPart : Type 0 where
  pub number : ℕ
  pub places : List ℕ

abbrev pub part_table : List ℕ → ℕ → TableName
part_table name number = record { object = name; part = number }

-- of a table whose key has columns at these places
abbrev pub index_of : List ℕ → IndexPart → OfRow
index_of key part row = values_at (part.places ++ key) row

module _ (name : List ℕ) (key : List ℕ) (equal : List Value → List Value → Bool) where
  abbrev pub part_changes : List RowChange → IndexPart → List Change
  part_changes changes part = planned_by (part_table name part.number) (index_of key part) (index_of key part) (λ old new. equal (index_of key part new) (index_of key part old)) changes

  abbrev pub row_changes : List RowChange → List Change
  row_changes changes = planned_by (part_table name 0) (values_at key) itself never changes

  -- the rows, and then part by part
  abbrev pub statement_changes : List IndexPart → List RowChange → List Change
  statement_changes parts changes = row_changes changes ++ flat_map (part_changes changes) parts

-- another number
abbrev pub IsOther : ℕ → ℕ → Type 0
IsOther number other = is_eq (nat_cmp other number) ≡ false

-- Each part stays exact, whose number is none of the others'.
abbrev pub PartsKept : Type 0
PartsKept = (db : Database) (name key : List ℕ) (equal : List Value → List Value → Bool) (front back : List IndexPart) (part : IndexPart) (changes : List RowChange)
    → ((a b : List Value) → equal a b ≡ true → a ≡ b) → ((table : TableName) → OneKey (db table)) → IsOther part.number 0 → AllByRecursion (λ other. IsOther part.number other.number) (front ++ back)
    → AllByRecursion (λ other. IsOther 0 other.number) (front ++ part ∷ back)
    → ((at row : List Value) → db (part_table name 0) at ≡ Some row → same (values_at key row) at ≡ true) → ((row : Row) → IsOld row changes → db (part_table name 0) (values_at key row) ≡ Some row)
    → OldsOne (values_at key) changes → FreshRows (part_table name 0) (values_at key) (With db (erasures_of (part_table name 0) (values_at key) changes)) changes
    → IsExact (index_of key part) (db (part_table name 0)) (db (part_table name part.number))
    → IsExact (index_of key part) (With db (statement_changes name key equal (front ++ part ∷ back) changes) (part_table name 0)) (With db (statement_changes name key equal (front ++ part ∷ back) changes) (part_table name part.number))

-- ---- what is read of a part

-- the rows that stand from these values on, up to them, are one
abbrev pub OneStands : Part → List Value → Type 0
OneStands index values = (x y row other : List Value) → index x ≡ Some row → index y ≡ Some other → is_within (At values) (Within values) x ≡ true → is_within (At values) (Within values) y ≡ true → same x y ≡ true

-- or there are none
abbrev pub NoneStands : Part → List Value → Type 0
NoneStands index values = (x row : List Value) → index x ≡ Some row → is_within (At values) (Within values) x ≡ true → ⊥

-- So UNIQUE and rows that refer may be read of the part.
abbrev pub UniqueRead : Type 0
UniqueRead = (key : List ℕ) (part : IndexPart) (rows index : Part) (values : List Value) → IsExact (index_of key part) rows index → ((at row : List Value) → rows at ≡ Some row → same (values_at key row) at ≡ true) → OneStands index values
    → (at other row also : List Value) → rows at ≡ Some row → rows other ≡ Some also → same (values_at part.places row) values ≡ true → same (values_at part.places also) values ≡ true → same at other ≡ true

abbrev pub ParentRead : Type 0
ParentRead = (key : List ℕ) (part : IndexPart) (rows index : Part) (values : List Value) → IsExact (index_of key part) rows index → NoneStands index values
    → (at row : List Value) → rows at ≡ Some row → same (values_at part.places row) values ≡ true → ⊥
