use Rattle.std.proofs.Common.{◌≡◌, length}
use Rattle.binder.specs.Tables as spec
use Rattle.binder.proofs.create_table.kinds_agree.Given as goal

abbrev pub invariant-loop-names : goal.invariant-loop-names
invariant-loop-names l = spec.kinds_agree l.columns l.names l.others l.key ≡ spec.kinds_agree l.columns l.initial.names l.others l.initial.key

abbrev pub decreases-loop-names : goal.decreases-loop-names
decreases-loop-names l = length l.names
