use Rattle.std.proofs.Common.{◌∙◌}
use Rattle.batch_exec.proofs.Parameters.{arguments_all, arguments_more}
use Rattle.batch_exec.proofs.rpc.arguments_from.Goals as goal

pub loop-place-preserved : goal.loop-place-preserved
loop-place-preserved c = arguments_more _ _ _ _ _ _ _ c.loop-place-test.true c.index-parameters-place.is c.in_ok-add_argument.ensures c.loop-place.invariant

pub returns : goal.returns
returns c = c.from_vec.ensures ∙ arguments_all _ _ _ _ _ c.loop-place-test.false c.loop-place.invariant
