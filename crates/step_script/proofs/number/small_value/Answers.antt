use Rattle.std.proofs.Common.{◌≡◌, ◌*◌, ◌+◌, ◌-◌, ◌<◌, ◌≤◌, ℕ, nat_le, true, false, Some, None, List, get_or, drop, length, refl, sym, ap, ◌∙◌, arith}
use Rattle.std.proofs.lemmas.List.{drop_all}
use Rattle.convert_rules.specs.Reading.{value_behind, digits_value, zero_digit}
use Rattle.convert_rules.proofs.Digits.{value_behind-le, digit_at}
use Rattle.step_script.specs.Partial.{small_value}
use Rattle.step_script.proofs.number.small_value.Goals as goal

too_great : (digits : List ℕ) → 18446744073709551615 < digits_value digits → small_value digits ≡ None
unfolding small_value
too_great digits above =
    let over : nat_le (digits_value digits) 18446744073709551615 ≡ false = grind arith in
    rw over refl

small_enough : (digits : List ℕ) → digits_value digits ≤ 18446744073709551615 → small_value digits ≡ Some (digits_value digits)
unfolding small_value
small_enough digits within =
    let below : nat_le (digits_value digits) 18446744073709551615 ≡ true = grind arith in
    rw below refl

pub returns-then-value-digit : goal.returns-then-value-digit
returns-then-value-digit c =
    let digits = c.args.digits.now in
    let at = c.loop-byte.byte-index in
    let digit = get_or digits at 0 - zero_digit in
    let whole : value_behind c.loop-byte.value (drop at digits) ≡ digits_value digits = c.loop-byte.invariant in
    let next = digit_at digits at c.loop-byte.value c.loop-byte-test.true in
    let more = value_behind-le (10 * c.loop-byte.value + digit) (drop (at + 1) digits) in
    sym (too_great digits (omega (arith, whole, next, more, c.from-digit.ensures, c.saturating_sub.ensures)))

pub returns : goal.returns
returns c =
    let digits = c.args.digits.now in
    let whole : value_behind c.loop-byte.value (drop c.loop-byte.byte-index digits) ≡ digits_value digits = c.loop-byte.invariant in
    let same : c.loop-byte.value ≡ digits_value digits = sym (ap (value_behind c.loop-byte.value) (drop_all c.loop-byte.byte-index digits (omega arith))) ∙ whole in
    ap (λ (n : ℕ). Some n) same ∙ sym (small_enough digits (omega (arith, same)))
