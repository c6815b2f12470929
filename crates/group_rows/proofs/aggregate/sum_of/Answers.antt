use Rattle.std.proofs.Common.{◌≡◌, ◌≤ℤ◌, ◌+ℤ◌, neg_ℤ, pos, ap, ◌∙◌, arith, rules}
use Rattle.std.proofs.lemmas.Int.{ints, to_z-of_z}
use mir.Syntax.{w64, w128}
use mir.Val.{SFits, to_z}
use Rattle.bound_tree.specs.Numbers.{number_of}
use Rattle.group_rows.proofs.Numbers.{Summed-number, Summed-other, no_number}
use Rattle.group_rows.proofs.aggregate.sum_of.Goals as goal
use Rattle.group_rows.proofs.aggregate.sum_of.Goals.{in-Whole, in_default}

pub loop-value-preserved : goal.loop-value-preserved
loop-value-preserved c =
    elim c.match-value.branch [
      | in-Whole w ↦
          let fits : SFits w64 w.in-Whole.number = search rules in
          let number : w.from-total.result ≡ w.in-Whole.number = w.from-total.ensures ∙ to_z-of_z w64 w.in-Whole.number fits in
          let low : neg_ℤ (pos 9223372036854775808) ≤ℤ w.in-Whole.number = omega (arith, ints, fits) in
          let high : w.in-Whole.number ≤ℤ pos 9223372036854775808 = omega (arith, ints, fits) in
          let total : to_z w128 c.match-value.total-bits ≡ to_z w128 c.loop-value.total-bits +ℤ w.in-Whole.number = omega (arith, ints) in
          rw (total, w.count-is) (Summed-number c.args.values.now c.loop-value.value-index c.value-item.result w.in-Whole.number _ _ c.loop-value-test.true c.value-item.is (ap number_of w.in-Whole.is) low high c.loop-value.invariant)
      | in_default w ↦
          rw (w.total-is, w.count-is) (Summed-other c.args.values.now c.loop-value.value-index c.value-item.result _ _ c.loop-value-test.true c.value-item.is (no_number c.value-item.result w.in_default.not-Whole) c.loop-value.invariant)
    ]
