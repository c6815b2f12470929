-- Prepared statements: what stands at a place, and how many units are left behind those that were looked at.
use Rattle.std.proofs.Common.{◌≡◌, ℕ, ◌+◌, ◌-◌, ◌<◌, ◌≤◌, Bool, true, false, nat_le, nat_lt, le-leb, leb-true, leb-false, ltb-true, ltb-false, ℤ, if◌then◌else◌, List, [], ◌∷◌, ◌++◌, drop, get_or, length, Option, Some, None, refl, sym, ap, subst, ◌∙◌, arith}
use Rattle.std.specs.Prelude.{remove, slice_get, sum_by}
use Rattle.std.specs.Option.{option_and_then}
use Rattle.std.proofs.lemmas.Bool.{lt-leb}
use Rattle.std.proofs.lemmas.List.{drop_all, drop_more}
use Rattle.std.proofs.lemmas.List.Quantifiers.{position-Some}
use Rattle.std.proofs.lemmas.Option.{slice_get_read}
use Rattle.std.proofs.lemmas.List.Sums.{sum_by-cons}
use Rattle.batch_meaning.specs.declared.prepared.PreparedStatement.{PreparedStatement}
use Rattle.batch_meaning.specs.Drivers.{KeptStatements, are_many, is_of, kept_under, place_of, shed, units_in, used_by, with_last, without, without_at}

-- ---- what stands at a place

-- so many handles were given, and these statements are kept
abbrev pub of_parts : ℕ → List PreparedStatement → KeptStatements
of_parts given kept = record { given = given; kept = kept }

found_in : (handle : ℤ) (p : KeptStatements) (place : ℕ) (one : PreparedStatement) → one ≡ get_or p.kept place one → place_of handle p ≡ Some place → kept_under handle p ≡ Some one
found_in handle p place one at is =
    ap (option_and_then (slice_get p.kept)) is ∙ slice_get_read p.kept (length p.kept) place one refl (position-Some (is_of handle) p.kept place one is).0 at

-- it is what is kept under the handle
pub found_at : (handle : ℤ) (p : KeptStatements) (given : ℕ) (kept : List PreparedStatement) (place : ℕ) (one : PreparedStatement) → of_parts given kept ≡ p → one ≡ get_or kept place one
    → place_of handle p ≡ Some place → Some one ≡ kept_under handle p
found_at handle p given kept place one seen at is =
    subst (λ (q : KeptStatements). place_of handle q ≡ Some place → Some one ≡ kept_under handle q) seen (λ placed. sym (found_in handle (of_parts given kept) place one at placed)) is

pub none_found : (handle : ℤ) (p : KeptStatements) → place_of handle p ≡ None → None ≡ kept_under handle p
none_found handle p is = sym (ap (option_and_then (slice_get p.kept)) is)

used_in : (handle : ℤ) (p : KeptStatements) (place : ℕ) (one : PreparedStatement) → one ≡ get_or p.kept place one → place_of handle p ≡ Some place
    → used_by handle p (kept_under handle p) ≡ of_parts p.given (remove p.kept place ++ one ∷ [])
used_in handle p place one at is = ap (used_by handle p) (found_in handle p place one at is) ∙ ap (λ (q : KeptStatements). with_last q one) (ap (without_at p) is)

-- what was at the place of a handle is the last
pub used_at : (handle : ℤ) (p : KeptStatements) (given : ℕ) (kept new : List PreparedStatement) (place : ℕ) (one : PreparedStatement) → of_parts given kept ≡ p → one ≡ get_or kept place one
    → place_of handle p ≡ Some place → new ≡ remove kept place ++ one ∷ [] → of_parts given new ≡ used_by handle p (kept_under handle p)
used_at handle p given kept new place one seen at is same =
    subst (λ (q : KeptStatements). place_of handle q ≡ Some place → of_parts given new ≡ used_by handle q (kept_under handle q)) seen
    (λ placed. ap (of_parts given) same ∙ sym (used_in handle (of_parts given kept) place one at placed)) is

pub none_used : (handle : ℤ) (p : KeptStatements) → place_of handle p ≡ None → p ≡ used_by handle p (kept_under handle p)
none_used handle p is = sym (ap (λ (place : Option ℕ). used_by handle p (option_and_then (slice_get p.kept) place)) is)

-- and is gone
pub dropped_at : (handle : ℤ) (p : KeptStatements) (given : ℕ) (kept new : List PreparedStatement) (place : ℕ) → of_parts given kept ≡ p → place_of handle p ≡ Some place → new ≡ remove kept place
    → of_parts given new ≡ without handle p
dropped_at handle p given kept new place seen is same =
    subst (λ (q : KeptStatements). place_of handle q ≡ Some place → of_parts given new ≡ without handle q) seen
    (λ placed. ap (of_parts given) same ∙ sym (ap (without_at (of_parts given kept)) placed)) is

pub none_dropped : (handle : ℤ) (p : KeptStatements) → place_of handle p ≡ None → p ≡ without handle p
none_dropped handle p is = sym (ap (without_at p) is)

-- ---- units

-- the sum is at most what is left, where that of the rest is at most what is left behind the first
some_left : (left size rest : ℕ) → nat_lt left size ≡ false → nat_le rest (left - size) ≡ nat_le (size + rest) left
some_left left size rest fits = by_rest (nat_le rest (left - size)) refl
  where
    enough : size ≤ left
    enough = ltb-false left size fits

    by_rest : (b : Bool) → nat_le rest (left - size) ≡ b → b ≡ nat_le (size + rest) left
    by_rest true is = let within : rest ≤ left - size = leb-true rest (left - size) is in sym (le-leb (size + rest) left (omega (arith, within, enough)))
    by_rest false is = let above : left - size < rest = leb-false rest (left - size) is in sym (lt-leb (size + rest) left (omega (arith, above, enough)))

none_left : (left size rest : ℕ) → nat_lt left size ≡ true → false ≡ nat_le (size + rest) left
none_left left size rest past = let above : left < size = ltb-true left size past in sym (lt-leb (size + rest) left (omega (arith, above)))

module _ (kept : List PreparedStatement) (at left most : ℕ) (goes : nat_le (sum_by units_in (drop at kept)) left ≡ nat_le (sum_by units_in kept) most) where
  from_next : (one : PreparedStatement) → at < length kept → one ≡ get_or kept at one → nat_le (units_in one + sum_by units_in (drop (at + 1) kept)) left ≡ nat_le (sum_by units_in kept) most
  from_next one within is =
      ap (λ (n : ℕ). nat_le n left) (sym (sum_by-cons units_in one (drop (at + 1) kept)) ∙ ap (sum_by units_in) (sym (drop_more kept at one within ∙ ap (λ (x : PreparedStatement). x ∷ drop (at + 1) kept) (sym is)))) ∙ goes

  pub fits_on : (one : PreparedStatement) (rest : ℕ) → at < length kept → one ≡ get_or kept at one → Some rest ≡ (if nat_lt left (units_in one) then None else Some (left - units_in one))
      → nat_le (sum_by units_in (drop (at + 1) kept)) rest ≡ nat_le (sum_by units_in kept) most
  fits_on one rest within is found = by_test (nat_lt left (units_in one)) refl found
    where
      by_test : (b : Bool) → nat_lt left (units_in one) ≡ b → Some rest ≡ (if b then None else Some (left - units_in one)) → nat_le (sum_by units_in (drop (at + 1) kept)) rest ≡ nat_le (sum_by units_in kept) most
      by_test true so same = absurd cc
      by_test false so same =
          let same_rest : rest ≡ left - units_in one = cc in
          ap (λ (n : ℕ). nat_le (sum_by units_in (drop (at + 1) kept)) n) same_rest ∙ some_left left (units_in one) (sum_by units_in (drop (at + 1) kept)) so ∙ from_next one within is

  pub fits_no_more : (one : PreparedStatement) → at < length kept → one ≡ get_or kept at one → None ≡ (if nat_lt left (units_in one) then None else Some (left - units_in one)) → false ≡ nat_le (sum_by units_in kept) most
  fits_no_more one within is found = by_test (nat_lt left (units_in one)) refl found
    where
      by_test : (b : Bool) → nat_lt left (units_in one) ≡ b → None ≡ (if b then None else Some (left - units_in one)) → false ≡ nat_le (sum_by units_in kept) most
      by_test true so same = none_left left (units_in one) (sum_by units_in (drop (at + 1) kept)) so ∙ from_next one within is
      by_test false so same = absurd cc

  pub fits_all : length kept ≤ at → true ≡ nat_le (sum_by units_in kept) most
  fits_all past = sym (le-leb 0 left (omega arith)) ∙ ap (λ (xs : List PreparedStatement). nat_le (sum_by units_in xs) left) (sym (drop_all at kept past)) ∙ goes

-- ---- what goes

-- the first goes, and then the others where they are many; or none does
pub sheds : (kept : List PreparedStatement) → are_many kept ≡ true → shed (remove kept 0) ≡ shed kept
unfolding shed
sheds [] is = absurd (let never : false ≡ true = is in cc)
sheds (one ∷ rest) is = rw is refl

pub sheds_none : (kept : List PreparedStatement) → are_many kept ≡ false → kept ≡ shed kept
unfolding shed
sheds_none [] is = refl
sheds_none (one ∷ rest) is = rw is refl
