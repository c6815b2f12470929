use Rattle.std.proofs.Common.{◌≡◌, ◌++◌, map}
use Rattle.scalar_eval.specs.Scopes.{values_of}
use Rattle.dml_exec.specs.Reading.{query_reads, shared}
use Rattle.dml_exec.proofs.images.add_query.Given as goal

-- what is there, and those that are left, are all
abbrev pub invariant-loop-range : goal.invariant-loop-range
invariant-loop-range l = l.reads.items ++ map shared l.range-iterator.rest.items ≡ l.initial.reads.items ++ query_reads (values_of l.vars) l.query
