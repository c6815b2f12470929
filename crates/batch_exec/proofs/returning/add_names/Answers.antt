use Rattle.call_rules.specs.declared.arguments.Output.{Output}
use Rattle.batch_exec.proofs.Called.{mapped_all, mapped_more}
use Rattle.batch_exec.proofs.returning.add_names.Goals as goal

pub loop-output-preserved : goal.loop-output-preserved
loop-output-preserved c = mapped_more (λ (output : Output). output.variable) _ _ _ _ _ _ c.output-item.is c.loop-output-test.true c.in_ok-add_name.ensures c.loop-output.invariant

pub returns : goal.returns
returns c = mapped_all (λ (output : Output). output.variable) _ _ _ _ c.loop-output-test.false c.loop-output.invariant
