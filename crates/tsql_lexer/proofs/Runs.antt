-- The longest run of units at the front of a text that pass a test.
use Rattle.std.proofs.Common.{◌≡◌, ℕ, ◌<◌, ◌≤◌, Bool, true, List, length, take, ap, ◌∙◌, arith}
use Rattle.std.specs.List.{prefix_len, list_all}
use Rattle.std.proofs.lemmas.List.{get_or-take}
use Rattle.std.proofs.lemmas.List.Folds.{length-prefix_len}
use Rattle.std.proofs.lemmas.List.Sums.{prefix_len_passes, prefix_len-le-length, list_all-from_AllPass}

pub run_within : (test : ℕ → Bool) (units : List ℕ) → prefix_len test units ≤ length units
run_within test units = prefix_len-le-length test units

pub run_passes : (test : ℕ → Bool) (units : List ℕ) → list_all test (take (prefix_len test units) units) ≡ true
run_passes test units = list_all-from_AllPass test (take (prefix_len test units) units)
    (λ k d within.
    let before : k < prefix_len test units = omega (arith, length-prefix_len test units) in
    ap test (get_or-take (prefix_len test units) units k d before) ∙ prefix_len_passes test units k d before)
