use Rattle.std.proofs.Common.{◌≡◌}
use Rattle.tests_desk.proofs.in_turn.add_ones.Given as goal

abbrev pub invariant-loop-added : goal.invariant-loop-added
invariant-loop-added g l = l.seat.desk ≡ l.fn.desk.desk
