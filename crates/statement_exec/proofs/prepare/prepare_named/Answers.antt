use Rattle.std.proofs.Common.{◌∙◌, refl}
use Rattle.batch_meaning.proofs.Composed.{does_bind, does_fail, does_over, does_then}
use Rattle.statement_exec.proofs.Parts.{left_open}
use Rattle.statement_exec.specs.Prepared.{prepares_named}
use Rattle.statement_exec.proofs.prepare.prepare_named.Goals as goal

pub returns-in_err-home-clause-does : goal.returns-in_err-home-clause-does
unfolding prepares_named
returns-in_err-home-clause-does g c = does_fail _ _ _ c.from_residual.ensures.0 c.from_residual.ensures.1 (rw c.asks_any.ensures at c.in_err-home.ensures.does)

pub returns-in-Ok-clause-does : goal.returns-in-Ok-clause-does
unfolding prepares_named
returns-in-Ok-clause-does g c = does_bind _ _ (rw c.asks_any.ensures at c.in_ok-home.ensures.does) (does_then _ _ c.in-Ok.ensures.does (does_over refl))

pub returns-in-Err-clause-does : goal.returns-in-Err-clause-does
unfolding prepares_named
returns-in-Err-clause-does g c = does_bind _ _ (rw c.asks_any.ensures at c.in_ok-home.ensures.does) (does_then _ _ c.in-Err.ensures.does (does_then _ _ c.leave.ensures.does (does_over refl)))

pub prepare-requires : goal.prepare-requires
prepare-requires g c = record { ready = c.in_ok-home.ensures.ready; begun = rw c.asks_any.ensures at c.in_ok-home.ensures.begun; names = c.requires.names }

pub leave-requires : goal.leave-requires
leave-requires g c = record { ready = c.in-Err.ensures.ready; begun = λ some. c.in-Err.ensures.kept ∙ left_open _ _ _ c.in_ok-home.ensures.begun c.in_ok-home.ensures.nowhere some }
