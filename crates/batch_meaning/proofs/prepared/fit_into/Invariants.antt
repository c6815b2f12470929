use Rattle.std.proofs.Common.{◌≡◌, drop, nat_le}
use Rattle.std.specs.Prelude.{sum_by}
use Rattle.batch_meaning.specs.Drivers.{units_in}
use Rattle.batch_meaning.proofs.prepared.fit_into.Given as goal

-- whether the others have no more than is left is whether all have no more
abbrev pub invariant-loop-one : goal.invariant-loop-one
invariant-loop-one l = nat_le (sum_by units_in (drop l.one-index l.kept)) l.left ≡ nat_le (sum_by units_in l.kept) l.most
