-- Own: what every database keeps of the tables that are given. It is said of the whole map at once; the code checks the
-- rows of one statement. That each row of `objects` is a definition, and that each other row is of a table that one
-- defines, is said where definitions are looked up.
use Rattle.std.specs.Prelude.{◌≡◌, ◌||◌, Bool, false, IsTrue, IsSome, List, [], ◌∷◌, Some, None, Ok, Err}
use Rattle.std.specs.List.{AllByRecursion, list_any}
use Rattle.std.specs.Ordering.{eq_by_cmp}
use Rattle.value_types.specs.declared.value.Value.{Value}
use Rattle.value_types.specs.Order.{key_cmp}
use Rattle.tsql_tree.specs.declared.definition.CheckTree.{CheckTree}
use Rattle.tsql_tree.specs.declared.definition.ForeignTree.{ForeignTree}
use Rattle.tsql_tree.specs.declared.definition.KeyTree.{KeyTree}
use Rattle.tsql_tree.specs.declared.definition.TableTree.{TableTree}
use Rattle.bound_tree.specs.declared.expr.BoundTest.{BoundTest}
use Rattle.bound_tree.specs.declared.truth.Truth.{Truth}
use Rattle.bound_tree.specs.Meaning.{is_null, truth}
use Rattle.bound_tree.specs.Outcomes.{Outcome}
use Rattle.bound_tree.specs.Truths.{is_false}
use Rattle.step_model.specs.Database.{Database}
use Rattle.table_rows.specs.Rows.{places_of, row_fits, rows_table, values_at}
use Rattle.constraint_check.specs.Local.{null_in, row_setting}

-- ---- a row alone

-- a CHECK that has no value is not false
abbrev pub comes_false : Outcome Truth → Bool
comes_false (Ok says) = is_false says
comes_false (Err number) = false

-- one of the CHECKs, each with what it is bound to, is false
abbrev pub has_false : List CheckTree → List BoundTest → List Value → Bool
has_false [] tests row = false
has_false (check ∷ checks) [] row = false
has_false (check ∷ checks) (test ∷ tests) row = comes_false (truth (row_setting row) test) || has_false checks tests row

-- ---- a table's rows

-- a row of the table stands at the key
abbrev pub Stands : Database → TableTree → List Value → List Value → Type 0
Stands db shape key row = db (rows_table shape.name) key ≡ Some row

-- no two rows have the same values there
abbrev pub IsUnique : Database → TableTree → KeyTree → Type 0
IsUnique db shape unique = (key other row and_row : List Value) → Stands db shape key row → Stands db shape other and_row
    → IsTrue (eq_by_cmp key_cmp (values_at (places_of shape unique.columns) row) (values_at (places_of shape unique.columns) and_row)) → IsTrue (eq_by_cmp key_cmp key other)

-- each row without a NULL there has its parent
abbrev pub HasParents : Database → TableTree → ForeignTree → Type 0
HasParents db shape foreign = (key row : List Value) → Stands db shape key row → list_any is_null (values_at (places_of shape foreign.columns) row) ≡ false
    → IsSome (db (rows_table foreign.parent) (values_at (places_of shape foreign.columns) row))

-- What the database keeps of a table, whose CHECKs are bound to these tests.
pub record IsKept (db : Database) (shape : TableTree) (tests : List BoundTest) : Type 0 where
  pub fits : (key row : List Value) → Stands db shape key row → IsTrue (row_fits shape 0 key row)
  pub no_null : (key row : List Value) → Stands db shape key row → null_in shape row ≡ None
  pub no_false : (key row : List Value) → Stands db shape key row → has_false shape.checks tests row ≡ false
  pub unique : AllByRecursion (IsUnique db shape) shape.uniques
  pub parents : AllByRecursion (HasParents db shape) shape.foreigns

-- ---- tables

-- the tables that are given keep their constraints
abbrev pub AreKept : Database → (TableTree → List BoundTest) → List TableTree → Type 0
AreKept db tests shapes = AllByRecursion (λ shape. IsKept db shape (tests shape)) shapes
