use Rattle.std.proofs.Common.{None, ap, ◌∙◌}
use Rattle.batch_meaning.specs.Progress.{SessionProgress}
use Rattle.batch_exec.proofs.Begun.{begun_failed, begun_left, begun_on, outermost_left}
use Rattle.batch_exec.proofs.unseen.begin_told.Goals as goal

pub returns-in_err-send_effect-in-Ok-clause-does : goal.returns-in_err-send_effect-in-Ok-clause-does
returns-in_err-send_effect-in-Ok-clause-does g c = λ fails next. begun_left fails next _ _ c.from_residual.ensures.0 c.in_err-send_effect-in-Ok.ensures.kept c.in-Ok.ensures.does

pub returns-in_ok-send_effect-in-Ok-clause-does : goal.returns-in_ok-send_effect-in-Ok-clause-does
returns-in_ok-send_effect-in-Ok-clause-does g c = λ fails next. begun_on fails next _ c.in-Ok.ensures.does c.in_ok-send_effect-in-Ok.ensures.sent

pub returns-in-Err-clause-does : goal.returns-in-Err-clause-does
returns-in-Err-clause-does g c = λ fails next. begun_failed fails next _ c.in-Err.ensures.does

pub returns-in_err-send_effect-in-Ok-clause-left : goal.returns-in_err-send_effect-in-Ok-clause-left
returns-in_err-send_effect-in-Ok-clause-left g c = ap (λ (x : SessionProgress). x.statements_left) c.in_err-send_effect-in-Ok.ensures.kept ∙ outermost_left None _ c.in-Ok.ensures.does

pub returns-in_ok-send_effect-in-Ok-clause-left : goal.returns-in_ok-send_effect-in-Ok-clause-left
returns-in_ok-send_effect-in-Ok-clause-left g c = ap (λ (x : SessionProgress). x.statements_left) c.in_ok-send_effect-in-Ok.ensures.sent ∙ outermost_left None _ c.in-Ok.ensures.does

pub returns-in-Err-clause-left : goal.returns-in-Err-clause-left
returns-in-Err-clause-left g c = outermost_left None _ c.in-Err.ensures.does
