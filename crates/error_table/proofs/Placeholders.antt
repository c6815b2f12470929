-- The placeholder in a text.
use Rattle.std.proofs.Common.{◌≡◌, ℕ, Bool, false, List, length, None, arith}
use Rattle.std.proofs.lemmas.List.Folds.{list_any_none}
use Rattle.std.proofs.lemmas.List.Sums.{fails_before_first}
use Rattle.std.specs.List.{position_or_len, list_any}
use Rattle.error_table.specs.Text.{is_open, parts_of}

-- where the first element that passes would stand behind the last one, none passes
none_passes : {A : Type 0} (passes : A → Bool) (elements : List A) → position_or_len passes elements ≡ length elements → list_any passes elements ≡ false
none_passes passes elements past = list_any_none passes elements (λ k d within. fails_before_first passes elements k d (omega (arith, past, within)))

-- a text in which nothing opens a placeholder has no parts
pub no_parts : (text : List ℕ) → position_or_len is_open text ≡ length text → parts_of text ≡ None
no_parts text past = let none : list_any is_open text ≡ false = none_passes is_open text past in rw none
