use Rattle.std.proofs.Common.{sym, subst}
use Rattle.session_state.specs.Sendable.{IsFit}
use Rattle.session_state.proofs.Fitting.{fit_both}
use Rattle.batch_exec.proofs.Parameters.{is_told, not_told}
use Rattle.batch_exec.proofs.rpc.add_value.Goals as goal

pub returns-then-not-parameter-clause-told : goal.returns-then-not-parameter-clause-told
returns-then-not-parameter-clause-told c = not_told c.args.vars.now _ _ c.args.parameter.now c.if-not-parameter.true

pub returns-clause-told : goal.returns-clause-told
returns-clause-told c = is_told c.args.vars.now _ _ _ _ c.args.parameter.now c.if-not-parameter.false c.in_ok-token.ensures.told c.in_ok-push.ensures.items

pub returns-clause-fit : goal.returns-clause-fit
returns-clause-fit c = λ fit. subst IsFit (sym c.in_ok-push.ensures.items) (fit_both _ _ fit c.in_ok-token.ensures.fit)
