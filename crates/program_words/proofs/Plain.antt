-- A number that a text spells, by what std's parser of numbers makes of the text.
use Rattle.std.proofs.Common.{◌≡◌, ◌∙◌, ◌<◌, ◌≤◌, ◌^◌, ◌&&◌, ◌==◌, ℕ, Bool, cond, not, true, false, refl, sym, ap, subst, arith, List, [], ◌∷◌, length, Some, None, true≢false, nat_lt, nat_le, lt-ltb, le-leb, ltb-true, leb-true}
use Rattle.std.specs.Prelude.{slice_index}
use Rattle.std.specs.List.{list_all}
use Rattle.std.specs.Char.{digit_value}
use Rattle.std.specs.Str.Parse.{AllDigits, IsNumeral, digits_value, without_leading_plus}
use Rattle.std.proofs.lemmas.Bool.{eqb-true}
use Rattle.clap.specs.ValueTests.{is_numeral}
use Rattle.clap.proofs.WalkLemmas.{both}
use Rattle.program_words.specs.Numbers.{is_plain_number, number_in}

digits_test : (ds : List ℕ) → AllDigits 10 ds → list_all (λ d. nat_lt (digit_value d) 10) ds ≡ true
digits_test [] h = refl
digits_test (d ∷ ds) h = rw (lt-ltb (digit_value d) 10 h.0) (digits_test ds h.1)

digits_are : (ds : List ℕ) → list_all (λ d. nat_lt (digit_value d) 10) ds ≡ true → AllDigits 10 ds
digits_are [] e = tt
digits_are (d ∷ ds) e =
    let parts = both _ _ e in
    (ltb-true _ _ parts.0, digits_are ds parts.1)

pub numeral_test : (ds : List ℕ) → IsNumeral 10 ds → is_numeral ds ≡ true
numeral_test ds h = rw (lt-ltb 0 (length ds) h.0) (digits_test ds h.1)

pub numeral_is : (ds : List ℕ) → is_numeral ds ≡ true → IsNumeral 10 ds
numeral_is ds e =
    let parts = both _ _ e in
    (ltb-true _ _ parts.0, digits_are ds parts.1)

-- the text begins with neither `+` nor 0
abbrev pub begins_plain : List ℕ → Bool
begins_plain text = not (slice_index text 0 == 43) && not (slice_index text 0 == 48)

pub not_true : (b : Bool) → not b ≡ true → b ≡ false
not_true false e = refl
not_true true e = absurd (true≢false (sym e))

no_plus : (text : List ℕ) → (slice_index text 0 == 43) ≡ false → without_leading_plus text ≡ text
no_plus text e = rw e refl

pub numeral_no_plus : (text : List ℕ) → is_numeral text ≡ true → (slice_index text 0 == 43) ≡ false
numeral_no_plus [] e = refl
numeral_no_plus (d ∷ ds) e = go (d == 43) refl
  where
    go : (b : Bool) → (d == 43) ≡ b → (d == 43) ≡ false
    go false t = t
    go true t =
        let is : d ≡ 43 = eqb-true _ _ t in
        let digits : list_all (λ c. nat_lt (digit_value c) 10) (d ∷ ds) ≡ true = (both (nat_lt 0 (length (d ∷ ds))) _ e).1 in
        let first : nat_lt (digit_value d) 10 ≡ true = (both (nat_lt (digit_value d) 10) _ digits).0 in
        let bad : false ≡ true = rw is at first in
        absurd (true≢false (sym bad))

-- what the test of a plain number says
abbrev pub test_of : ℕ → List ℕ → Bool
test_of most text = is_plain_number text && nat_le (digits_value 10 text) most

pub by_test : (most : ℕ) (text : List ℕ) (b : Bool) → test_of most text ≡ b → number_in most text ≡ cond b (Some (digits_value 10 text)) None
unfolding number_in
by_test most text b e = rw e refl

-- it is in form and within the bound
pub number_taken : (most n : ℕ) (text : List ℕ) → IsNumeral 10 (without_leading_plus text) → n ≡ digits_value 10 (without_leading_plus text)
    → begins_plain text ≡ true → n ≤ most → Some n ≡ number_in most text
number_taken most n text numeral is plain below =
    let parts = both _ _ plain in
    let same = no_plus text (not_true _ parts.0) in
    let value : n ≡ digits_value 10 text = is ∙ ap (digits_value 10) same in
    let numeral_is_true : is_numeral text ≡ true = numeral_test text (subst (IsNumeral 10) same numeral) in
    let small : nat_le (digits_value 10 text) most ≡ true = le-leb _ _ (omega (arith, value)) in
    let passes : test_of most text ≡ true = rw (numeral_is_true, parts.1, small) refl in
    ap (λ m. Some m) value ∙ sym (by_test most text true passes)

-- what a number that is in form says of the text
pub record InForm (most : ℕ) (text : List ℕ) : Type 0 where
  pub numeral : IsNumeral 10 text
  pub first : (slice_index text 0 == 48) ≡ false
  pub no_plus : (slice_index text 0 == 43) ≡ false
  pub below : digits_value 10 text ≤ most

pub test_means : (most : ℕ) (text : List ℕ) → test_of most text ≡ true → InForm most text
test_means most text e =
    let outer = both _ _ e in
    let inner = both _ _ outer.0 in
    record {
      numeral = numeral_is text inner.0;
      first = not_true _ inner.1;
      no_plus = numeral_no_plus text inner.0;
      below = leb-true _ _ outer.1;
    }

refused_by : (most : ℕ) (text : List ℕ) → (InForm most text → ⊥) → None ≡ number_in most text
refused_by most text never = go (test_of most text) refl
  where
    go : (b : Bool) → test_of most text ≡ b → None ≡ number_in most text
    go false e = sym (by_test most text false e)
    go true e = absurd (never (test_means most text e))

pub number_too_great : (most n : ℕ) (text : List ℕ) → n ≡ digits_value 10 (without_leading_plus text) → begins_plain text ≡ true → most < n → None ≡ number_in most text
number_too_great most n text is plain above =
    refused_by most text (λ f. let value : n ≡ digits_value 10 text = is ∙ ap (digits_value 10) (no_plus text f.no_plus) in absurd (omega (arith, value, f.below)))

pub number_not_plain : (most : ℕ) (text : List ℕ) → begins_plain text ≡ false → None ≡ number_in most text
number_not_plain most text plain =
    refused_by most text (λ f. let bad : true ≡ false = rw (f.first, f.no_plus) at plain in true≢false bad)

pub no_number : (most : ℕ) (text : List ℕ) → most < 2 ^ 32
    → (IsNumeral 10 (without_leading_plus text) × (digits_value 10 (without_leading_plus text) < 2 ^ 32) → ⊥) → None ≡ number_in most text
no_number most text fits never =
    refused_by most text (λ f. let same = no_plus text f.no_plus in never (rw same f.numeral, rw same (omega (arith, f.below))))
