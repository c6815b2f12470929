use Rattle.std.proofs.Common.{◌≡◌, ◌++◌, drop, length, map}
use Rattle.std.specs.List.{enumerate_from}
use Rattle.batch_meaning.specs.Rpc.{rpc_var}
use Rattle.batch_exec.proofs.rpc.vars_for.Given as goal

-- those so far, and those of the parameters that are left
abbrev pub invariant-loop-parameter : goal.invariant-loop-parameter
invariant-loop-parameter l = record {
  goes : l.vars ++ map rpc_var (enumerate_from l.parameter-index (drop l.parameter-index l.parameters)) ≡ map rpc_var (enumerate_from 0 l.parameters);
  many : length l.vars ≡ l.parameter-index;
}
