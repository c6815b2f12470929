use Rattle.std.proofs.Common.{◌≡◌, ◌++◌, drop}
use Rattle.scalar_eval.specs.Scopes.{values_of}
use Rattle.dml_exec.specs.Reading.{inner_reads}
use Rattle.dml_exec.proofs.images.add_inner.Given as goal

-- what is there, and those of the queries that are left, are all
abbrev pub invariant-loop-of : goal.invariant-loop-of
invariant-loop-of l = l.reads.items ++ inner_reads (values_of l.vars) (drop l.of-index l.inner) ≡ l.initial.reads.items ++ inner_reads (values_of l.vars) l.inner
