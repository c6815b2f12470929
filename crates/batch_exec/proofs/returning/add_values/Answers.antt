use Rattle.batch_meaning.specs.Calls.{output_value}
use Rattle.batch_exec.proofs.Called.{mapped_all, mapped_more}
use Rattle.batch_exec.proofs.returning.add_values.Goals as goal

pub loop-output-preserved : goal.loop-output-preserved
loop-output-preserved c = mapped_more (output_value c.args.inner.now) _ _ _ _ _ _ c.output-item.is c.loop-output-test.true c.in_ok-add_value.ensures c.loop-output.invariant

pub returns : goal.returns
returns c = mapped_all (output_value c.args.inner.now) _ _ _ _ c.loop-output-test.false c.loop-output.invariant
