use Rattle.std.proofs.Common.{◌≡◌, ◌*◌, ◌+◌, ◌-◌, ℕ, Some, get_or, drop, sym, ap, ◌∙◌, arith}
use Rattle.std.proofs.lemmas.List.{drop_all}
use Rattle.convert_rules.specs.Reading.{value_behind, digits_value, zero_digit}
use Rattle.convert_rules.proofs.Digits.{value_behind-le, digit_at, too_great, small_enough}
use Rattle.convert_rules.proofs.reading.magnitude_of.Goals as goal

pub returns-then-value : goal.returns-then-value
returns-then-value c =
    let digits = c.args.digits.now in
    let at = c.loop-digit.digit-index in
    let whole : value_behind c.loop-digit.value (drop at digits) ≡ digits_value digits = c.loop-digit.invariant.whole in
    let next = digit_at digits at c.loop-digit.value c.loop-digit-test.true in
    let more = value_behind-le (10 * c.loop-digit.value + (get_or digits at 0 - zero_digit)) (drop (at + 1) digits) in
    sym (too_great digits (omega (arith, whole, next, more)))

pub returns : goal.returns
returns c =
    let digits = c.args.digits.now in
    let whole : value_behind c.loop-digit.value (drop c.loop-digit.digit-index digits) ≡ digits_value digits = c.loop-digit.invariant.whole in
    let same : c.loop-digit.value ≡ digits_value digits = sym (ap (value_behind c.loop-digit.value) (drop_all c.loop-digit.digit-index digits (omega arith))) ∙ whole in
    ap (λ (n : ℕ). Some n) same ∙ sym (small_enough digits (omega (arith, same, c.loop-digit.invariant.below)))

pub returns-then-value-gt-MAGNITUDE_LIMIT : goal.returns-then-value-gt-MAGNITUDE_LIMIT
returns-then-value-gt-MAGNITUDE_LIMIT c =
    let digits = c.args.digits.now in
    let at = c.loop-digit.digit-index in
    let digit = get_or digits at 0 - zero_digit in
    let whole : value_behind c.loop-digit.value (drop at digits) ≡ digits_value digits = c.loop-digit.invariant.whole in
    let next = digit_at digits at c.loop-digit.value c.loop-digit-test.true in
    let more = value_behind-le (10 * c.loop-digit.value + digit) (drop (at + 1) digits) in
    sym (too_great digits (omega (arith, whole, next, more, c.from.ensures, c.saturating_sub.ensures)))
