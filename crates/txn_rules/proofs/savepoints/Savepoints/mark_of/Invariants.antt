use Rattle.std.proofs.Common.{◌≡◌, drop}
use Rattle.txn_rules.specs.Savepoints.{mark_behind, mark_of}
use Rattle.txn_rules.proofs.savepoints.Savepoints.mark_of.Given as goal

-- the mark so far, and the savepoints that are left
abbrev pub invariant-loop-savepoint : goal.invariant-loop-savepoint
invariant-loop-savepoint l = mark_behind l.mark l.name (drop l.savepoint-index l.self) ≡ mark_of l.name l.self
