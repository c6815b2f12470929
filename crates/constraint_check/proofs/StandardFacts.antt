-- Worked rows of the rules, over a table with a constraint of each kind, which refers to itself:
-- CREATE TABLE t (k INT PRIMARY KEY, n NVARCHAR(9) UNIQUE, p INT REFERENCES t, c INT NOT NULL).
use Rattle.std.proofs.Common.{◌≡◌, refl, ℕ, pos, Bool, true, false, List, [], ◌∷◌, Some, None}
use Rattle.std.specs.Prelude.{codes}
use Rattle.value_types.specs.declared.sql_type.SqlType.{SqlType}
use Rattle.value_types.specs.declared.sql_type.SqlType.TheVariants.{Int, NText}
use Rattle.value_types.specs.declared.value.Value.{Value}
use Rattle.value_types.specs.declared.value.Value.TheVariants.{Null, Whole, Text}
use Rattle.tsql_tree.specs.declared.definition.ColumnTree.{ColumnTree}
use Rattle.tsql_tree.specs.declared.definition.TableTree.{TableTree}
use Rattle.step_model.specs.declared.change.Deed.{Deed}
use Rattle.step_model.specs.declared.change.Deed.TheVariants.{Erase, Replace, Insert}
use Rattle.step_model.specs.declared.change.Planned.{Planned}
use Rattle.step_model.specs.declared.range.Start.TheVariants.{At}
use Rattle.step_model.specs.declared.range.Stop.TheVariants.{Within}
use Rattle.scalar_eval.specs.declared.fault.EvalFault.TheVariants.{Named}
use Rattle.constraint_check.specs.declared.check_read.Check.TheVariants.{Unique, Child, Parent}
use Rattle.constraint_check.specs.declared.check_read.CheckRead.{CheckRead}
use Rattle.constraint_check.specs.Local.{null_fault}
use Rattle.table_rows.specs.Rows.{index_part, rows_table}
use Rattle.constraint_check.specs.Meant.{reads_meant}
use Rattle.constraint_check.specs.Reads.{all_rows, reads_for}
use Rattle.constraint_check.specs.Judged.{judge}

-- ---- the table, its rows, and changes

abbrev column : List ℕ → SqlType → Bool → ColumnTree
column name kind required = record { name = name; kind = kind; required = required }

abbrev t : TableTree
t = record {
  name = codes "t";
  columns = column (codes "k") Int false ∷ column (codes "n") (NText 9) false ∷ column (codes "p") Int false ∷ column (codes "c") Int true ∷ [];
  key = record { name = codes "PK_t"; columns = codes "k" ∷ [] } ∷ [];
  uniques = record { name = codes "UQ_t_1"; columns = codes "n" ∷ [] } ∷ [];
  checks = [];
  foreigns = record { name = codes "FK_t_1"; columns = codes "p" ∷ []; parent = codes "t"; parent_columns = [] } ∷ [];
}

abbrev number : ℕ → Value
number n = Whole (pos n)

abbrev row : ℕ → List ℕ → Value → List Value
row k n p = number k ∷ Text n ∷ p ∷ number 9 ∷ []

abbrev change : ℕ → Deed → Planned
change k deed = record { table = rows_table (codes "t"); key = number k ∷ []; deed = deed }

abbrev a : List ℕ
a = codes "a"

-- ---- what is read

-- in the part of the UNIQUE, which is the first
abbrev unique : List ℕ → CheckRead
unique n = record {
  check = Unique;
  range = record { table = index_part t 1; start = At (Text n ∷ []); stop = Within (Text n ∷ []) };
  columns = 0 ∷ [];
  wanted = Text n ∷ [];
  name = codes "UQ_t_1";
}

abbrev child : ℕ → CheckRead
child p = record {
  check = Child;
  range = record { table = rows_table (codes "t"); start = At (number p ∷ []); stop = Within (number p ∷ []) };
  columns = 0 ∷ [];
  wanted = number p ∷ [];
  name = codes "FK_t_1";
}

-- in the part of the FOREIGN KEY, behind that
abbrev parent : ℕ → CheckRead
parent k = record {
  check = Parent;
  range = record { table = index_part t 2; start = At (number k ∷ []); stop = Within (number k ∷ []) };
  columns = 0 ∷ [];
  wanted = number k ∷ [];
  name = codes "FK_t_1";
}

-- a row that is inserted has its UNIQUE; with a NULL it has no parent
inserted_alone : reads_for (change 1 (Insert (row 1 a Null)) ∷ []) (t ∷ []) ≡ unique a ∷ []
inserted_alone = refl

inserted_child : reads_for (change 2 (Insert (row 2 a (number 1))) ∷ []) (t ∷ []) ≡ unique a ∷ child 1 ∷ []
inserted_child = refl

-- so has one that is replaced
replaced : reads_for (change 2 (Replace (row 2 a (number 1))) ∷ []) (t ∷ []) ≡ unique a ∷ child 1 ∷ []
replaced = refl

-- of two rows all UNIQUE come first
two_rows : reads_for (change 1 (Insert (row 1 a (number 2))) ∷ change 2 (Insert (row 2 a (number 1))) ∷ []) (t ∷ []) ≡ unique a ∷ unique a ∷ child 2 ∷ child 1 ∷ []
two_rows = refl

-- a row that is gone may have been a parent
erased : reads_for (change 1 Erase ∷ []) (t ∷ []) ≡ parent 1 ∷ []
erased = refl

-- a key that is inserted again is not gone: two rows change keys
swapped : reads_for (change 1 Erase ∷ change 2 Erase ∷ change 2 (Insert (row 2 a Null)) ∷ change 1 (Insert (row 1 a Null)) ∷ []) (t ∷ []) ≡ unique a ∷ unique a ∷ []
swapped = refl

-- a key that moves is gone
moved : reads_for (change 1 Erase ∷ change 3 (Insert (row 3 a Null)) ∷ []) (t ∷ []) ≡ unique a ∷ parent 1 ∷ []
moved = refl

-- a table without a shape, as `objects`, asks nothing
without_shape : reads_for (change 1 Erase ∷ change 3 (Insert (row 3 a Null)) ∷ []) [] ≡ []
without_shape = refl

-- what the checks say is of all rows
unique_of_all : reads_meant (change 1 (Insert (row 1 a Null)) ∷ []) (t ∷ []) ≡ record { check = Unique; range = all_rows (codes "t"); columns = 1 ∷ []; wanted = Text a ∷ []; name = codes "UQ_t_1" } ∷ []
unique_of_all = refl

parent_of_all : reads_meant (change 1 Erase ∷ []) (t ∷ []) ≡ record { check = Parent; range = all_rows (codes "t"); columns = 2 ∷ []; wanted = number 1 ∷ []; name = codes "FK_t_1" } ∷ []
parent_of_all = refl

-- ---- what the rows say

-- the index row of one with this value and key
abbrev index : Value → ℕ → List Value
index value k = value ∷ number k ∷ []

-- the row itself alone is no duplicate, another one with spaces at its end is
alone : judge (unique a) (index (Text a) 1 ∷ index (Text (codes "b")) 2 ∷ []) ≡ None
alone = refl

twice : judge (unique a) (index (Text a) 1 ∷ index (Text (codes "a ")) 2 ∷ []) ≡ Some (pos 2627)
twice = refl

-- two NULLs are one value to UNIQUE
two_nulls : judge (record (unique a) { wanted = Null ∷ [] }) (index Null 1 ∷ index Null 2 ∷ []) ≡ Some (pos 2627)
two_nulls = refl

orphan : judge (child 1) [] ≡ Some (pos 547)
orphan = refl

with_parent : judge (child 1) (row 1 a Null ∷ []) ≡ None
with_parent = refl

left_behind : judge (parent 1) (index (number 1) 2 ∷ []) ≡ Some (pos 547)
left_behind = refl

none_left : judge (parent 1) (index Null 2 ∷ index (number 2) 3 ∷ []) ≡ None
none_left = refl

-- ---- NULLs

-- the columns of the PRIMARY KEY take none, though NOT NULL does not stand
null_key : null_fault t (Null ∷ Null ∷ Null ∷ Null ∷ []) ≡ Some (Named (pos 515) (codes "k"))
null_key = refl

null_required : null_fault t (number 1 ∷ Null ∷ Null ∷ Null ∷ []) ≡ Some (Named (pos 515) (codes "c"))
null_required = refl

no_null : null_fault t (row 1 a Null) ≡ None
no_null = refl
