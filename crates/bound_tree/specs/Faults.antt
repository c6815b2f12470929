-- Transact-SQL reference, "Database engine events and errors": the errors that an expression or a test can
-- give. A text too long for a column is none of them, since expressions cut.
use Rattle.std.specs.Prelude.{ℤ, pos, Bool, List, [], ◌∷◌}
use Rattle.std.specs.Ordering.{int_eq}
use Rattle.std.specs.List.{list_any}

-- a number outside TINYINT or SMALLINT; one in a text outside them, and outside INT; a text that is no
-- number; more rows than one; a text that is no BIGINT; a result outside its type; a divisor of zero
abbrev pub faults : List ℤ
faults = pos 220 ∷ pos 244 ∷ pos 248 ∷ pos 245 ∷ pos 512 ∷ pos 8114 ∷ pos 8115 ∷ pos 8134 ∷ []

abbrev pub is_fault : ℤ → Bool
is_fault number = list_any (int_eq number) faults
