-- Rows that fit a table are of the types of its columns.
use Rattle.std.proofs.Common.{◌≡◌, refl, sym, subst, true, false, List, [], ◌∷◌, length, Option, IsTrue, All}
use Rattle.std.proofs.lemmas.Bool.{and_parts, le-leb, leb-true}
use Rattle.std.proofs.lemmas.List.Elements.{All-head, All-tail}
use Rattle.std.specs.Ordering.{eq_by_cmp}
use Rattle.value_types.specs.declared.sql_type.SqlType.{SqlType}
use Rattle.value_types.specs.declared.sql_type.SqlType.TheVariants.{TinyInt, SmallInt, Int, BigInt, Bit as BitType, NText}
use Rattle.value_types.specs.declared.value.Value.{Value}
use Rattle.value_types.specs.declared.value.Value.TheVariants.{Null, Whole, Bit, Text}
use Rattle.value_types.specs.Order.{key_cmp}
use Rattle.value_types.specs.Types.{IsOf}
use Rattle.tsql_tree.specs.declared.definition.ColumnTree.{ColumnTree}
use Rattle.tsql_tree.specs.declared.definition.TableTree.{TableTree}
use Rattle.clause_binder.specs.Scope.{columns_of}
use Rattle.query_laws.specs.Columns.{kinds}
use Rattle.query_laws.specs.Laws.{AreExactly, RowsOf}
use Rattle.table_rows.specs.Rows.{has_columns, is_value_of, key_of}
use Rattle.catalog_rows.specs.Laws.{ImageTyped, RowTyped, ValueOfType}

no_value : {A : Type 0} → IsTrue false → A
no_value h = absurd (let no_row : false ≡ true = h in cc)

value_typed : (kind : SqlType) (value : Value) → IsTrue (is_value_of kind value) → IsOf kind value
value_typed kind Null h = tt
value_typed kind (Whole number) h = h
value_typed BitType (Bit bit) h = tt
value_typed TinyInt (Bit bit) h = no_value h
value_typed SmallInt (Bit bit) h = no_value h
value_typed Int (Bit bit) h = no_value h
value_typed BigInt (Bit bit) h = no_value h
value_typed (NText size) (Bit bit) h = no_value h
value_typed (NText size) (Text units) h = leb-true (length units) size h
value_typed BitType (Text units) h = no_value h
value_typed TinyInt (Text units) h = no_value h
value_typed SmallInt (Text units) h = no_value h
value_typed Int (Text units) h = no_value h
value_typed BigInt (Text units) h = no_value h

value_tested : (kind : SqlType) (value : Value) → IsOf kind value → IsTrue (is_value_of kind value)
value_tested kind Null h = refl
value_tested kind (Whole number) h = h
value_tested BitType (Bit bit) h = refl
value_tested TinyInt (Bit bit) h = absurd h
value_tested SmallInt (Bit bit) h = absurd h
value_tested Int (Bit bit) h = absurd h
value_tested BigInt (Bit bit) h = absurd h
value_tested (NText size) (Bit bit) h = absurd h
value_tested (NText size) (Text units) h = le-leb (length units) size h
value_tested BitType (Text units) h = absurd h
value_tested TinyInt (Text units) h = absurd h
value_tested SmallInt (Text units) h = absurd h
value_tested Int (Text units) h = absurd h
value_tested BigInt (Text units) h = absurd h

pub value_of_type : ValueOfType
value_of_type kind value = (value_typed kind value, value_tested kind value)

columns_typed : (columns : List ColumnTree) (row : List Value) → IsTrue (has_columns columns row) → AreExactly (kinds columns) row
columns_typed [] [] h = tt
columns_typed [] (value ∷ row) h = no_value h
columns_typed (column ∷ columns) [] h = no_value h
columns_typed (column ∷ columns) (value ∷ row) h =
    let parts = and_parts (is_value_of column.kind value) (has_columns columns row) h in
    (value_typed column.kind value parts.0, columns_typed columns row parts.1)

pub row_typed : RowTyped
row_typed shape key row h = columns_typed shape.columns row (and_parts (has_columns shape.columns row) (eq_by_cmp key_cmp (key_of shape row) key) h).0

rows_typed : (columns : List ColumnTree) (rows : List (List Value)) → All (λ row. IsTrue (has_columns columns row)) rows → RowsOf (kinds columns) rows
rows_typed columns [] all = tt
rows_typed columns (row ∷ rows) all =
    (columns_typed columns row (All-head (λ (row : List Value). IsTrue (has_columns columns row)) row rows all), rows_typed columns rows (All-tail (λ (row : List Value). IsTrue (has_columns columns row)) row rows all))

pub image_typed : ImageTyped
image_typed definitions table shape rows is all =
    subst (λ (of : Option TableTree). RowsOf (kinds (columns_of of)) rows) (sym is) (rows_typed shape.columns rows all)
