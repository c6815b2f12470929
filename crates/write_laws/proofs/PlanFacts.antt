-- Worked writes, over CREATE TABLE t (k INT PRIMARY KEY, n NVARCHAR(3)).
use Rattle.std.proofs.Common.{◌≡◌, ℕ, false, refl, pos, List, [], ◌∷◌, None, Ok}
use Rattle.std.specs.Prelude.{codes}
use Rattle.value_types.specs.declared.sql_type.SqlType.TheVariants.{Int, NText}
use Rattle.value_types.specs.declared.table_name.TableName.{TableName}
use Rattle.value_types.specs.declared.value.Value.{Value}
use Rattle.value_types.specs.declared.value.Value.TheVariants.{Null, Whole}
use Rattle.tsql_tree.specs.declared.definition.TableTree.{TableTree}
use Rattle.bound_tree.specs.declared.write.BoundWrite.{BoundWrite}
use Rattle.bound_tree.specs.declared.write.BoundWrite.TheVariants.{Update}
use Rattle.step_model.specs.declared.change.Deed.TheVariants.{Replace}
use Rattle.table_rows.specs.Rows.{has_columns, index_columns}
use Rattle.dml_exec.specs.Filling.{Row, filled, null_row}
use Rattle.dml_exec.specs.Planning.{Chg}
use Rattle.write_laws.specs.Planning.{rows_before}

abbrev t : TableTree
t = record {
  name = codes "t";
  columns = record { name = codes "k"; kind = Int; required = false } ∷ record { name = codes "n"; kind = NText 3; required = false } ∷ [];
  key = record { name = codes "PK_t"; columns = codes "k" ∷ [] } ∷ [];
  uniques = [];
  checks = [];
  foreigns = [];
}

abbrev table : TableName
table = record { object = codes "t"; part = 0 }

abbrev number : ℕ → Value
number n = Whole (pos n)

-- a value for a place where no column is is not stored
beyond : filled t.columns ((0, Ok (number 1)) ∷ (7, Ok (number 2)) ∷ []) (null_row t.columns) ≡ Ok (number 1 ∷ Null ∷ [])
beyond = refl

-- an UPDATE that sets nothing
abbrev same : BoundWrite
same = Update table [] None []

-- without inner queries its target's image is the first; what stands behind it is not read
first_image : (image other : List Row) → rows_before same (image ∷ other ∷ []) ≡ image
first_image image other = refl

-- a row that lacks a column would be written as it was: so the rows of the target must have theirs
abbrev short : Row
short = number 1 ∷ []

lacks : has_columns t.columns short ≡ false
lacks = refl

stays_short : Chg [] [] t [] same ((short ∷ []) ∷ []) ≡ Ok (record { table = table; key = number 1 ∷ []; deed = Replace short } ∷ [])
unfolding index_columns
stays_short = refl
