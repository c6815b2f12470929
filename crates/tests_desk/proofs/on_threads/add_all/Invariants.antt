use Rattle.std.proofs.Common.{◌≡◌}
use Rattle.tests_desk.proofs.on_threads.add_all.Given as goal

abbrev pub invariant-loop-call : goal.invariant-loop-call
invariant-loop-call g l = l.seat.desk ≡ l.fn.desk.desk
