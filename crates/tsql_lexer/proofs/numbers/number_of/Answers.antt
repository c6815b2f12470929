use Rattle.std.proofs.Common.{◌≡◌, ◌≤◌, ◌*◌, ◌+◌, ◌-◌, ℕ, ℤ, pos, w64, to_z, Some, get_or, drop, sym, ap, ◌∙◌, arith}
use Rattle.std.proofs.lemmas.Int.{to_z_pos}
use Rattle.std.proofs.lemmas.List.{drop_all}
use Rattle.tsql_lexer.specs.Numbers.{value_behind, number_value, number_limit}
use Rattle.tsql_lexer.proofs.Digits.{value_behind-le, digit_at, too_big, fits}
use Rattle.tsql_lexer.proofs.numbers.number_of.Goals as goal

-- a number below 2^63 read as a signed one is itself
to_some : (value : ℕ) → value ≤ number_limit → Some (to_z w64 value) ≡ Some (pos value)
to_some value below = ap (λ (z : ℤ). Some z) (to_z_pos w64 value (omega arith))

pub returns-then-value : goal.returns-then-value
returns-then-value c =
    let digits = c.args.digits.now in
    let at = c.loop-digit.digit-index in
    let whole : value_behind c.loop-digit.value (drop at digits) ≡ number_value digits = c.loop-digit.invariant.whole in
    let next = digit_at digits at c.loop-digit.value c.loop-digit-test.true in
    let more = value_behind-le (10 * c.loop-digit.value + (get_or digits at 0 - 0x30)) (drop (at + 1) digits) in
    sym (too_big digits (omega (arith, whole, next, more)))

pub returns-then-value-gt-NUMBER_LIMIT : goal.returns-then-value-gt-NUMBER_LIMIT
returns-then-value-gt-NUMBER_LIMIT c =
    let digits = c.args.digits.now in
    let at = c.loop-digit.digit-index in
    let digit = get_or digits at 0 - 0x30 in
    let whole : value_behind c.loop-digit.value (drop at digits) ≡ number_value digits = c.loop-digit.invariant.whole in
    let next = digit_at digits at c.loop-digit.value c.loop-digit-test.true in
    let more = value_behind-le (10 * c.loop-digit.value + digit) (drop (at + 1) digits) in
    sym (too_big digits (omega (arith, whole, next, more, c.from.ensures)))

pub returns : goal.returns
returns c =
    let digits = c.args.digits.now in
    let whole : value_behind c.loop-digit.value (drop c.loop-digit.digit-index digits) ≡ number_value digits = c.loop-digit.invariant.whole in
    let same : c.loop-digit.value ≡ number_value digits = sym (ap (value_behind c.loop-digit.value) (drop_all c.loop-digit.digit-index digits (omega arith))) ∙ whole in
    to_some c.loop-digit.value (omega arith) ∙ ap (λ (n : ℕ). Some (pos n)) same ∙ sym (fits digits (omega (arith, same, c.loop-digit.invariant.below)))
