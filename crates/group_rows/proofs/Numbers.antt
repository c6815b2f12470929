-- Numbers added one after another, and their average.
use Rattle.std.proofs.Common.{◌≡◌, ℕ, ◌+◌, ◌*◌, ◌<◌, ◌≤◌, ◌≢◌, ℤ, pos, ◌+ℤ◌, ◌≤ℤ◌, neg_ℤ, List, [], ◌∷◌, ◌++◌, length, get_or, take, fold, Option, None, Some, refl, sym, ap, ◌∙◌, arith, append-nil}
use Rattle.std.specs.List.{cons_option}
use Rattle.std.proofs.lemmas.Int.{ints}
use Rattle.std.proofs.lemmas.List.{length_push, take_more}
use Rattle.std.proofs.lemmas.List.Elements.{filter_map-append}
use Rattle.value_types.specs.declared.value.Value.{Value}
use Rattle.value_types.specs.declared.value.Value.TheVariants.{Null, Whole, Bit, Text}
use Rattle.bound_tree.specs.Numbers.{number_of}
use Rattle.group_rows.specs.Totals.{numbers_of, sum_of}

numbers_of-push : (values : List Value) (value : Value) → numbers_of (values ++ value ∷ []) ≡ numbers_of values ++ cons_option (number_of value) []
numbers_of-push values value = filter_map-append number_of values (value ∷ [])

numbers_of-more : (values : List Value) (i : ℕ) (value : Value) (found : Option ℤ) → i < length values → value ≡ get_or values i value → number_of value ≡ found → numbers_of (take (i + 1) values) ≡ numbers_of (take i values) ++ cons_option found []
numbers_of-more values i value found below is number =
    ap numbers_of (take_more values i value below ∙ ap (λ v. take i values ++ v ∷ []) (sym is))
    ∙ numbers_of-push (take i values) value
    ∙ ap (λ o. numbers_of (take i values) ++ cons_option o []) number

fold-push : (start : ℤ) (numbers : List ℤ) (number : ℤ) → fold ◌+ℤ◌ start (numbers ++ number ∷ []) ≡ fold ◌+ℤ◌ start numbers +ℤ number
fold-push start [] number = refl
fold-push start (x ∷ xs) number = fold-push (start +ℤ x) xs number

pub sum_of-push : (numbers : List ℤ) (number : ℤ) → sum_of (numbers ++ number ∷ []) ≡ sum_of numbers +ℤ number
sum_of-push numbers number = fold-push (pos 0) numbers number

-- ---- so far

-- The total and the count of the numbers among values; each number is one of 64 bits.
pub record Summed (values : List Value) (most : ℕ) (total : ℤ) (count : ℕ) : Type 0 where
  pub total_is : total ≡ sum_of (numbers_of values)
  pub count_is : count ≡ length (numbers_of values)
  pub few : count ≤ most
  pub low : neg_ℤ (pos (9223372036854775808 * most)) ≤ℤ total
  pub high : total ≤ℤ pos (9223372036854775808 * most)

pub Summed-none : Summed [] 0 (pos 0) 0
Summed-none = record { total_is = refl; count_is = refl; few = omega arith; low = omega (arith, ints); high = omega (arith, ints) }

pub Summed-number : (values : List Value) (i : ℕ) (value : Value) (number total : ℤ) (count : ℕ) → i < length values → value ≡ get_or values i value → number_of value ≡ Some number → neg_ℤ (pos 9223372036854775808) ≤ℤ number → number ≤ℤ pos 9223372036854775808 → Summed (take i values) i total count → Summed (take (i + 1) values) (i + 1) (total +ℤ number) (count + 1)
Summed-number values i value number total count below is found low high so_far =
    let more = numbers_of-more values i value (Some number) below is found in
    record {
      total_is = ap (λ t. t +ℤ number) so_far.total_is ∙ sym (sum_of-push (numbers_of (take i values)) number) ∙ ap sum_of (sym more);
      count_is = ap (λ n. n + 1) so_far.count_is ∙ sym (length_push (numbers_of (take i values)) number) ∙ ap length (sym more);
      few = omega (arith, so_far.few);
      low = omega (arith, ints, so_far.low);
      high = omega (arith, ints, so_far.high);
    }

pub Summed-other : (values : List Value) (i : ℕ) (value : Value) (total : ℤ) (count : ℕ) → i < length values → value ≡ get_or values i value → number_of value ≡ None → Summed (take i values) i total count → Summed (take (i + 1) values) (i + 1) total count
Summed-other values i value total count below is found so_far =
    let more = numbers_of-more values i value None below is found ∙ append-nil (numbers_of (take i values)) in
    record {
      total_is = so_far.total_is ∙ ap sum_of (sym more);
      count_is = so_far.count_is ∙ ap length (sym more);
      few = omega (arith, so_far.few);
      low = omega (arith, ints, so_far.low);
      high = omega (arith, ints, so_far.high);
    }

-- a value that is no whole number is no number
pub no_number : (value : Value) → ((number : ℤ) → value ≢ Whole number) → number_of value ≡ None
no_number Null other = refl
no_number (Whole number) other = absurd (other number refl)
no_number (Bit bit) other = refl
no_number (Text units) other = refl
