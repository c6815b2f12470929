-- Transact-SQL reference, "CREATE TABLE": when rows that are read break a constraint. NULLs are equal here, and so are texts
-- that differ in the spaces at their ends alone.
use Rattle.std.specs.Prelude.{ℕ, ℤ, pos, Bool, nat_le, if◌then◌else◌, List, length, filter, Option, Some, None}
use Rattle.std.specs.Ordering.{eq_by_cmp}
use Rattle.value_types.specs.declared.value.Value.{Value}
use Rattle.value_types.specs.Order.{key_cmp}
use Rattle.table_rows.specs.Rows.{values_at}
use Rattle.constraint_check.specs.declared.check_read.Check.{Check}
use Rattle.constraint_check.specs.declared.check_read.Check.TheVariants.{Unique, Child, Parent}
use Rattle.constraint_check.specs.declared.check_read.CheckRead.{CheckRead}
use Rattle.constraint_check.specs.Local.{conflict}

-- a duplicate key
abbrev pub duplicate : ℤ
duplicate = pos 2627

-- the row has the values that are asked for
abbrev pub agrees : CheckRead → List Value → Bool
agrees read row = eq_by_cmp key_cmp (values_at read.columns row) read.wanted

-- how many rows do
abbrev pub agreeing : CheckRead → List (List Value) → ℕ
agreeing read image = length (filter (agrees read) image)

abbrev pub error_where : Bool → ℤ → Option ℤ
error_where broken number = if broken then Some number else None

-- by how many rows agree: of UNIQUE not two, of a row's parent not none, of a parent's rows not one
abbrev pub judged : Check → ℕ → Option ℤ
judged Unique count = error_where (nat_le 2 count) duplicate
judged Child count = error_where (nat_le count 0) conflict
judged Parent count = error_where (nat_le 1 count) conflict

-- the error that the rows that were read give
abbrev pub judge : CheckRead → List (List Value) → Option ℤ
judge read image = judged read.check (agreeing read image)
