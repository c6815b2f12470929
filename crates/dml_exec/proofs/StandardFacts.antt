-- Worked rows of the definitions, over CREATE TABLE t (k INT PRIMARY KEY, n NVARCHAR(3), b TINYINT NOT NULL).
use Rattle.std.proofs.Common.{◌≡◌, ℕ, Bool, true, false, refl, pos, List, [], ◌∷◌, Some, None, Ok, Err}
use Rattle.std.specs.Prelude.{codes}
use Rattle.value_types.specs.declared.sql_type.SqlType.{SqlType}
use Rattle.value_types.specs.declared.sql_type.SqlType.TheVariants.{Int, NText, TinyInt, BigInt}
use Rattle.value_types.specs.declared.table_name.TableName.{TableName}
use Rattle.value_types.specs.declared.value.Value.{Value}
use Rattle.value_types.specs.declared.value.Value.TheVariants.{Null, Whole, Text, Bit}
use Rattle.convert_rules.specs.Reading.{digits_in}
use Rattle.tsql_tree.specs.declared.definition.ColumnTree.{ColumnTree}
use Rattle.tsql_tree.specs.declared.definition.TableTree.{TableTree}
use Rattle.tsql_tree.specs.Places.{key_places}
use Rattle.scalar_eval.specs.declared.fault.EvalFault.TheVariants.{Number, Named}
use Rattle.step_model.specs.declared.range.Start.TheVariants.{First, At}
use Rattle.step_model.specs.declared.range.Stop.TheVariants.{Last, Within}
use Rattle.step_model.specs.declared.change.Deed.{Deed}
use Rattle.step_model.specs.declared.change.Deed.TheVariants.{Erase, Replace, Insert}
use Rattle.step_model.specs.declared.change.Planned.{Planned}
use Rattle.table_rows.specs.Rows.{index_columns}
use Rattle.dml_exec.specs.declared.rewritten.Rewritten.TheVariants.{Inserted, Set, Erased}
use Rattle.dml_exec.specs.Filling.{Row, filled, null_row, stored}
use Rattle.dml_exec.specs.Planning.{changes_of, checked, has_key}
use Rattle.dml_exec.specs.Reading.{is_one_key, target_read}

abbrev column : List ℕ → SqlType → Bool → ColumnTree
column name kind required = record { name = name; kind = kind; required = required }

abbrev t : TableTree
t = record {
  name = codes "t";
  columns = column (codes "k") Int false ∷ column (codes "n") (NText 3) false ∷ column (codes "b") TinyInt true ∷ [];
  key = record { name = codes "PK_t"; columns = codes "k" ∷ [] } ∷ [];
  uniques = [];
  checks = [];
  foreigns = [];
}

abbrev table : TableName
table = record { object = codes "t"; part = 0 }

abbrev number : ℕ → Value
number n = Whole (pos n)

abbrev row : ℕ → List ℕ → Row
row k n = number k ∷ Text n ∷ number 1 ∷ []

abbrev change : ℕ → Deed → Planned
change k deed = record { table = table; key = number k ∷ []; deed = deed }

abbrev a : List ℕ
a = codes "a"

-- ---- what is stored

-- a number that a text reads as, a bit as a number
text_as_number : stored Int (Text (codes " 12 ")) ≡ Ok (number 12)
unfolding digits_in
text_as_number = refl

bit_as_number : stored TinyInt (Bit true) ≡ Ok (number 1)
bit_as_number = refl

-- a text that is too long is refused, and not cut
too_long : stored (NText 3) (Text (codes "abcd")) ≡ Err (pos 49006)
too_long = refl

outside_tiny : stored TinyInt (number 300) ≡ Err (pos 220)
outside_tiny = refl

outside_int : stored Int (number 2147483648) ≡ Err (pos 8115)
outside_int = refl

no_number : stored Int (Text a) ≡ Err (pos 245)
unfolding digits_in
no_number = refl

no_big_number : stored BigInt (Text a) ≡ Err (pos 8114)
unfolding digits_in
no_big_number = refl

text_outside : stored TinyInt (Text (codes "300")) ≡ Err (pos 244)
unfolding digits_in
text_outside = refl

-- NULL is stored as it is: NOT NULL is checked behind all rows
null_stored : stored TinyInt Null ≡ Ok Null
null_stored = refl

-- ---- a row

-- INSERT t (n, k): a column that is not given is NULL
in_order : filled t.columns ((1, Ok (Text a)) ∷ (0, Ok (number 7)) ∷ []) (null_row t.columns) ≡ Ok (number 7 ∷ Text a ∷ Null ∷ [])
in_order = refl

-- each value is stored before the next is evaluated: a text that is too long comes before a division by zero behind it
stored_first : filled t.columns ((1, Ok (Text (codes "abcd"))) ∷ (0, Err (pos 8134)) ∷ []) (null_row t.columns) ≡ Err (pos 49006)
stored_first = refl

evaluated_first : filled t.columns ((0, Err (pos 8134)) ∷ (1, Ok (Text (codes "abcd"))) ∷ []) (null_row t.columns) ≡ Err (pos 8134)
evaluated_first = refl

-- what UPDATE does not set stays
not_set : filled t.columns ((2, Ok (Text (codes "9"))) ∷ []) (row 1 a) ≡ Ok (number 1 ∷ Text a ∷ number 9 ∷ [])
unfolding digits_in
not_set = refl

-- ---- changes

inserted : changes_of table (key_places (Some t)) (Inserted (row 1 a ∷ row 2 a ∷ row 1 a ∷ [])) ≡ change 1 (Insert (row 1 a)) ∷ change 2 (Insert (row 2 a)) ∷ change 1 (Insert (row 1 a)) ∷ []
inserted = refl

erased : changes_of table (key_places (Some t)) (Erased (row 1 a ∷ row 2 a ∷ [])) ≡ change 1 Erase ∷ change 2 Erase ∷ []
erased = refl

-- a row whose key stays is replaced
replaced : changes_of table (key_places (Some t)) (Set (row 1 a ∷ []) (row 1 (codes "b") ∷ [])) ≡ change 1 (Replace (row 1 (codes "b"))) ∷ []
replaced = refl

-- two rows exchange keys: both are erased first
swapped : changes_of table (key_places (Some t)) (Set (row 1 a ∷ row 2 a ∷ []) (row 2 a ∷ row 1 a ∷ [])) ≡ change 1 Erase ∷ change 2 Erase ∷ change 2 (Insert (row 2 a)) ∷ change 1 (Insert (row 1 a)) ∷ []
swapped = refl

-- of several rows the erasures come first, and then each row in its place
one_moves : changes_of table (key_places (Some t)) (Set (row 1 a ∷ row 2 a ∷ []) (row 1 (codes "b") ∷ row 3 a ∷ [])) ≡ change 2 Erase ∷ change 1 (Replace (row 1 (codes "b"))) ∷ change 3 (Insert (row 3 a)) ∷ []
one_moves = refl

-- keys that differ in spaces at their end are one key
spaces_stay : changes_of table (1 ∷ []) (Set (row 1 a ∷ []) (row 1 (codes "a ") ∷ [])) ≡ record { table = table; key = Text a ∷ []; deed = Replace (row 1 (codes "a ")) } ∷ []
spaces_stay = refl

-- ---- the whole

abbrev without_b : Row
without_b = number 1 ∷ Text a ∷ Null ∷ []

abbrev without_k : Row
without_k = Null ∷ Text a ∷ Null ∷ []

-- the first row with a NULL, and its first column that takes none
null_refused : checked table t [] (Ok (Inserted (row 1 a ∷ without_b ∷ without_k ∷ []))) ≡ Err (Named (pos 515) (codes "b"))
null_refused = refl

null_key : checked table t [] (Ok (Inserted (without_k ∷ without_b ∷ []))) ≡ Err (Named (pos 515) (codes "k"))
null_key = refl

-- a NULL in a row that goes is none of the statement's
null_erased : checked table t [] (Ok (Erased (without_b ∷ []))) ≡ Ok (change 1 Erase ∷ [])
unfolding index_columns
null_erased = refl

-- an error of the rows comes before
error_first : checked table t [] (Err (pos 220)) ≡ Err (Number (pos 220))
error_first = refl

keyless : has_key [] ≡ false
keyless = refl

-- ---- ranges

-- a target without WHERE is read whole, whatever the variables are
whole_target : target_read (number 1 ∷ []) (t ∷ []) table None ≡ (record { table = table; start = First; stop = Last }, true)
whole_target = refl

-- k = 1 AND k <= 1 of a key of one column, and of a front of a longer one
whole_key : is_one_key 1 (At (number 1 ∷ [])) (Within (number 1 ∷ [])) ≡ true
whole_key = refl

front : is_one_key 2 (At (number 1 ∷ [])) (Within (number 1 ∷ [])) ≡ false
front = refl

-- from one key to another, and to keys that differ in spaces at their end
two_keys : is_one_key 1 (At (number 1 ∷ [])) (Within (number 2 ∷ [])) ≡ false
two_keys = refl

tied_keys : is_one_key 1 (At (Text a ∷ [])) (Within (Text (codes "a ") ∷ [])) ≡ true
tied_keys = refl
