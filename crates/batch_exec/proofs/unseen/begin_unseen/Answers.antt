use Rattle.batch_meaning.proofs.Composed.{leads_to}
use Rattle.batch_exec.proofs.Begun.{leads_both, on_left, seen_on, unseen_on}
use Rattle.batch_meaning.specs.Meaning.{fails_for}
use Rattle.batch_exec.proofs.unseen.begin_unseen.Goals as goal

pub returns-then-not-is_unseen-clause-does : goal.returns-then-not-is_unseen-clause-does
returns-then-not-is_unseen-clause-does g c = λ next. seen_on _ _ next c.if-not-is_unseen.ensures

pub returns-in_err-begin_told-clause-does : goal.returns-in_err-begin_told-clause-does
returns-in_err-begin_told-clause-does g c = λ next. on_left next _ c.from_residual.ensures.0
    (leads_to (unseen_on _ (fails_for c.args.around.now c.args.statement.now) next c.if-not-is_unseen.ensures) (c.in_err-begin_told.ensures.does (fails_for c.args.around.now c.args.statement.now) next))

pub returns-in_err-exit-in-Some-clause-does : goal.returns-in_err-exit-in-Some-clause-does
returns-in_err-exit-in-Some-clause-does g c = λ next. on_left next _ c.from_residual-in_err-exit-in-Some.ensures.0
    (leads_to (unseen_on _ (fails_for c.args.around.now c.args.statement.now) next c.if-not-is_unseen.ensures)
    (leads_to (rw c.in-Some.is at c.in_ok-begin_told.ensures.does (fails_for c.args.around.now c.args.statement.now) next) c.in_err-exit-in-Some.ensures.does))

pub returns-in-None-clause-does : goal.returns-in-None-clause-does
returns-in-None-clause-does g c = λ next. leads_both (unseen_on _ (fails_for c.args.around.now c.args.statement.now) next c.if-not-is_unseen.ensures)
    (rw c.in-None.is at c.in_ok-begin_told.ensures.does (fails_for c.args.around.now c.args.statement.now) next)

pub returns-in_ok-exit-in-Some-clause-does : goal.returns-in_ok-exit-in-Some-clause-does
returns-in_ok-exit-in-Some-clause-does g c = λ next.
    leads_to (unseen_on _ (fails_for c.args.around.now c.args.statement.now) next c.if-not-is_unseen.ensures)
    (leads_to (rw c.in-Some.is at c.in_ok-begin_told.ensures.does (fails_for c.args.around.now c.args.statement.now) next) c.in_ok-exit-in-Some.ensures.does)
