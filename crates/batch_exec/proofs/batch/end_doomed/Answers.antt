use Rattle.std.proofs.Common.{refl}
use Rattle.batch_meaning.proofs.Composed.{does_leave, does_makes, does_out, does_over, does_then}
use Rattle.batch_exec.proofs.batch.end_doomed.Goals as goal

pub returns-in_err-raised-clause-does : goal.returns-in_err-raised-clause-does
returns-in_err-raised-clause-does g c = does_out _ c.from_residual.ensures.0 refl

pub returns-in_err-tokens-clause-does : goal.returns-in_err-tokens-clause-does
returns-in_err-tokens-clause-does g c = does_out _ c.from_residual-in_err-tokens.ensures.0 refl

pub returns-in_err-send-clause-does : goal.returns-in_err-send-clause-does
returns-in_err-send-clause-does g c = does_out _ c.from_residual-in_err-send.ensures.0 c.in_err-send.ensures.kept

pub returns-in_err-roll_back_told-clause-does : goal.returns-in_err-roll_back_told-clause-does
returns-in_err-roll_back_told-clause-does g c = does_makes (rw (c.in_ok-tokens.ensures, c.get.ensures, c.in_ok-raised.ensures, c.plain.ensures) at c.in_ok-send.ensures.sent) (does_leave _ _ _ c.from_residual-in_err-roll_back_told.ensures.0 c.in_err-roll_back_told.ensures.does)

pub returns-in_err-end-clause-does : goal.returns-in_err-end-clause-does
returns-in_err-end-clause-does g c = does_makes (rw (c.in_ok-tokens.ensures, c.get.ensures, c.in_ok-raised.ensures, c.plain.ensures) at c.in_ok-send.ensures.sent) (does_then _ _ c.in_ok-roll_back_told.ensures.does (does_out _ c.from_residual-in_err-end.ensures.0 refl))

pub returns-in_err-send-2-clause-does : goal.returns-in_err-send-2-clause-does
returns-in_err-send-2-clause-does g c = does_makes (rw (c.in_ok-tokens.ensures, c.get.ensures, c.in_ok-raised.ensures, c.plain.ensures) at c.in_ok-send.ensures.sent) (does_then _ _ c.in_ok-roll_back_told.ensures.does (does_out _ c.from_residual-in_err-send-2.ensures.0 c.in_err-send-2.ensures.kept))

pub returns-clause-does : goal.returns-clause-does
returns-clause-does g c = does_makes (rw (c.in_ok-tokens.ensures, c.get.ensures, c.in_ok-raised.ensures, c.plain.ensures) at c.in_ok-send.ensures.sent) (does_then _ _ c.in_ok-roll_back_told.ensures.does (does_makes (rw c.in_ok-end.ensures at c.in_ok-send-2.ensures.sent) (does_over refl)))
