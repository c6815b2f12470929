use Rattle.std.proofs.Common.{true, ◌∙◌}
use Rattle.batch_meaning.specs.Calls.{finds_call}
use Rattle.batch_meaning.proofs.Composed.{does_room}
use Rattle.statement_exec.proofs.Parts.{does_own, does_own_not, left_open}
use Rattle.batch_exec.proofs.Called.{calls_left}
use Rattle.batch_exec.proofs.calls.find_call.Goals as goal

pub returns-in_err-home-clause-does : goal.returns-in_err-home-clause-does
unfolding finds_call
returns-in_err-home-clause-does g c = does_room true (does_own_not _ _ _ c.from_residual.ensures.0 c.from_residual.ensures.1 (rw c.asks_named-asks.ensures at c.in_err-home.ensures.does))

pub returns-clause-does : goal.returns-clause-does
unfolding finds_call
returns-clause-does g c = does_room true (does_own _ _ (rw c.asks_named-asks.ensures at c.in_ok-home.ensures.does) c.call_in-came.ensures.does (rw c.is_ok.ensures.value at c.leave.ensures.does))

pub call_in-came-requires : goal.call_in-came-requires
call_in-came-requires g c = record { ready = c.in_ok-home.ensures.ready; begun = rw c.asks_named-asks.ensures at c.in_ok-home.ensures.begun }

pub leave-requires : goal.leave-requires
leave-requires g c = record { ready = c.call_in-came.ensures.ready; begun = λ some. c.call_in-came.ensures.kept ∙ left_open _ _ _ c.in_ok-home.ensures.begun c.in_ok-home.ensures.nowhere some }

pub returns-in_err-home-clause-left : goal.returns-in_err-home-clause-left
returns-in_err-home-clause-left g c = calls_left _ _ _ _ _ (returns-in_err-home-clause-does g c)

pub returns-clause-left : goal.returns-clause-left
returns-clause-left g c = calls_left _ _ _ _ _ (returns-clause-does g c)
