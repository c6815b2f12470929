use Rattle.std.proofs.Common.{refl, sym}
use Rattle.batch_meaning.proofs.Composed.{does_no, does_out, does_yes}
use Rattle.session_state.proofs.Stepping.{does_stepped}
use Rattle.batch_exec.proofs.simple.raise_or_tell.Goals as goal

pub returns-then-not-is_message-clause-does : goal.returns-then-not-is_message-clause-does
returns-then-not-is_message-clause-does g c = does_no _ _ _ (sym (rw c.get.ensures at c.if-not-is_message.ensures)) c.raise_counted.ensures.does

pub returns-in_err-tokens-clause-does : goal.returns-in_err-tokens-clause-does
returns-in_err-tokens-clause-does g c = does_out _ c.from_residual.ensures.0 refl

pub returns-clause-does : goal.returns-clause-does
returns-clause-does g c = does_yes _ _ _ (sym (rw c.get.ensures at c.if-not-is_message.ensures)) (does_stepped (rw (c.sending.ensures, c.in_ok-tokens.ensures, c.get-2.ensures) at c.succeed.ensures.came))
