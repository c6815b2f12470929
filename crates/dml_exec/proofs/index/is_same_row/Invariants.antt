use Rattle.std.proofs.Common.{◌≡◌, drop}
use Rattle.dml_exec.specs.Planning.{is_same_row}
use Rattle.dml_exec.proofs.index.is_same_row.Given as goal

-- the values that are left decide
abbrev pub invariant-loop-value : goal.invariant-loop-value
invariant-loop-value l = is_same_row (drop l.value-index l.a) l.rest ≡ is_same_row l.a l.b
