use Rattle.std.proofs.Common.{◌≡◌, drop}
use Rattle.clause_binder.specs.Scope as spec
use Rattle.clause_binder.proofs.tables.table_of.Given as goal

abbrev pub invariant-loop-of : goal.invariant-loop-of
invariant-loop-of l = spec.table_of l.name (drop l.of-index l.definitions) ≡ spec.table_of l.name l.definitions
