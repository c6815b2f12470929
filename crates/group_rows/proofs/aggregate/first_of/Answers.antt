use Rattle.std.proofs.Common.{None, Some, ap, ◌∙◌}
use Rattle.std.specs.Option.{option_map}
use Rattle.std.proofs.lemmas.Result.{IfOk-weaker}
use Rattle.group_rows.proofs.Least.{FirstOf-all, FirstOf-more, first_of-some, first_of-none}
use Rattle.group_rows.proofs.aggregate.first_of.Goals as goal

pub loop-value-preserved : goal.loop-value-preserved
loop-value-preserved c =
    rw c.first_with-first.ensures
    (FirstOf-more c.args.down c.args.values.now c.loop-value.value-index c.value-item.result _ c.loop-value-test.true c.value-item.is c.loop-value.invariant)

pub returns-in-Some : goal.returns-in-Some
returns-in-Some c =
    let found = FirstOf-all c.args.down c.args.values.now c.loop-value.value-index _ (Some c.in-Some.value.now) c.loop-value-test.false (ap (option_map (λ f. f.now)) c.in-Some.is) c.loop-value.invariant in
    IfOk-weaker c.copy.result _ _ (λ x copied. copied ∙ first_of-some c.args.down c.args.values.now c.in-Some.value.now found) c.copy.ensures

pub returns-in-None : goal.returns-in-None
returns-in-None c =
    first_of-none c.args.down c.args.values.now
    (FirstOf-all c.args.down c.args.values.now c.loop-value.value-index _ None c.loop-value-test.false (ap (option_map (λ f. f.now)) c.in-None.is) c.loop-value.invariant)
