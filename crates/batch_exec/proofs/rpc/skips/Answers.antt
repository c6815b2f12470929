use Rattle.std.proofs.Common.{sym}
use Rattle.batch_exec.proofs.Parameters.{skips_here, skips_none, skips_on}
use Rattle.batch_exec.proofs.rpc.skips.Goals as goal

pub returns-then-is_displaced : goal.returns-then-is_displaced
returns-then-is_displaced c = skips_here _ _ _ c.loop-parameter.invariant _ c.loop-parameter-test.true c.parameter-item.is (sym c.if-is_displaced.ensures)

pub loop-parameter-preserved : goal.loop-parameter-preserved
loop-parameter-preserved c = skips_on _ _ _ c.loop-parameter.invariant _ c.loop-parameter-test.true c.parameter-item.is (sym c.if-is_displaced.ensures)

pub returns : goal.returns
returns c = skips_none _ _ _ c.loop-parameter.invariant c.loop-parameter-test.false
