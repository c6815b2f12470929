use Rattle.std.proofs.Common.{◌≡◌, ◌++◌, drop}
use Rattle.std.specs.List.{enumerate_from}
use Rattle.session_state.specs.Sendable.{IsFit}
use Rattle.batch_exec.specs.Running.{values_told}
use Rattle.batch_exec.proofs.rpc.values_told.Given as goal

-- those so far, and those of the parameters that are left
abbrev pub invariant-loop-place : goal.invariant-loop-place
invariant-loop-place l = record {
  goes : l.tokens.items ++ values_told l.vars (enumerate_from l.place (drop l.place l.parameters)) ≡ values_told l.vars (enumerate_from 0 l.parameters);
  fit : IsFit l.tokens.items;
}
