-- Why keys of one table that have a row have as many values: a key that another one begins is passed over; and where a range goes on
-- behind a key without a row.
use Rattle.std.proofs.Common.{◌≡◌, false, true, List, [], ◌∷◌, refl, pos}
use Rattle.value_types.specs.declared.value.Value.{Value}
use Rattle.value_types.specs.declared.value.Value.TheVariants.{Whole}
use Rattle.step_model.specs.declared.range.Start.TheVariants.{At, Past}
use Rattle.step_model.specs.declared.range.Stop.TheVariants.{Within}
use Rattle.step_model.specs.Database.{allows, is_within}
use Rattle.dml_exec.specs.Reading.{behind_gone}

abbrev short : List Value
short = Whole (pos 1) ∷ []

abbrev long : List Value
long = Whole (pos 1) ∷ Whole (pos 2) ∷ []

-- A table with rows at both keys is read as if it had the first alone: behind that the fetch goes on past both,
passed_over : allows (Past short) long ≡ false
passed_over = refl

-- and a range of the one key has both.
both_within : is_within (At short) (Within short) long ≡ true
both_within = refl

-- Behind a short key without a row, in a table of longer keys, it isn't: the fetch goes on from the lowest key that begins with it,
not_passed : allows (behind_gone 2 short) long ≡ true
not_passed = refl

-- and so that key is not met again.
not_again : allows (behind_gone 2 short) short ≡ false
not_again = refl
