use Rattle.std.proofs.Common.{◌≡◌, false, drop}
use Rattle.batch_meaning.specs.Rpc.{skips}
use Rattle.batch_exec.proofs.rpc.skips.Given as goal

-- those that are left decide
abbrev pub invariant-loop-parameter : goal.invariant-loop-parameter
invariant-loop-parameter l = skips l.behind (drop l.parameter-index l.parameters) ≡ skips false l.parameters
