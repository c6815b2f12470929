use Rattle.call_rules.proofs.Outcomes.{values_done}
use Rattle.call_rules.proofs.arguments.values_taken.Goals as goal

pub returns : goal.returns
returns c = values_done c.args.vars.now c.loop-argument.rest.now c.loop-argument.values.items c.args.arguments.now c.loop-argument.argument-index _ c.loop-argument-test.false c.loop-argument.invariant
