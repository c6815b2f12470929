use Rattle.std.proofs.Common.{◌≡◌}
use Rattle.turn_desk.specs.Moves.{IsSame}
use Rattle.turn_desk.proofs.turns.take.Given as goal

abbrev pub invariant-loop : goal.invariant-loop
invariant-loop g l = IsSame l.initial.token l.token × (l.token.me ≡ l.initial.token.me)
