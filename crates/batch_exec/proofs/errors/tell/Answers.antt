use Rattle.std.proofs.Common.{refl}
use Rattle.batch_meaning.proofs.Composed.{does_makes, does_out}
use Rattle.batch_exec.proofs.errors.tell.Goals as goal

pub returns-in_err-tokens-clause-does : goal.returns-in_err-tokens-clause-does
returns-in_err-tokens-clause-does g c = does_out _ c.from_residual.ensures.0 refl

pub returns-in_err-send-clause-does : goal.returns-in_err-send-clause-does
returns-in_err-send-clause-does g c = does_out _ c.from_residual-in_err-send.ensures.0 c.in_err-send.ensures.kept

pub returns-clause-does : goal.returns-clause-does
returns-clause-does g c = does_makes (rw c.in_ok-tokens.ensures at c.in_ok-send.ensures.sent) c.end_by.ensures.does
