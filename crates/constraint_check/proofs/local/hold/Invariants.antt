use Rattle.std.proofs.Common.{◌≡◌, drop}
use Rattle.constraint_check.specs.Local.{broken_among}
use Rattle.constraint_check.proofs.local.hold.Given as goal

-- the CHECKs that are left decide
abbrev pub invariant-loop-check : goal.invariant-loop-check
invariant-loop-check l = broken_among (drop l.check-index l.checks) l.rest l.scope.row.now ≡ broken_among l.checks l.tests l.scope.row.now
