use Rattle.std.proofs.Common.{◌≡◌, ◌++◌, drop, length}
use Rattle.dml_exec.proofs.ranges.with_null.Given as goal

-- what is copied, and what is left, is the key
abbrev pub invariant-loop-value : goal.invariant-loop-value
invariant-loop-value l = record {
  all : l.longer.items ++ drop l.value-index l.values ≡ l.values;
  many : length l.longer.items ≡ l.value-index;
}
