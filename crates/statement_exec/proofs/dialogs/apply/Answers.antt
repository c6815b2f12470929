use Rattle.std.proofs.Common.{ap}
use Rattle.batch_meaning.specs.Progress.{SessionProgress}
use Rattle.statement_exec.proofs.Holding.{applied_live, does_applies, ready_applied, ready_touched}
use Rattle.statement_exec.proofs.dialogs.apply.Goals as goal

pub returns-clause-does : goal.returns-clause-does
returns-clause-does g c = does_applies _ _ c.touch.ensures (rw c.settings.ensures at c.attempt_write-attempt.ensures.asks) c.unless_broken.ensures (rw c.taken_back.ensures at c.cut_to.ensures)

pub returns-clause-ready : goal.returns-clause-ready
returns-clause-ready g c = ready_applied _ _ (ready_touched c.touch.ensures c.requires.ready) (ap (λ (p : SessionProgress). p.touched) c.touch.ensures) (rw c.settings.ensures at c.attempt_write-attempt.ensures.asks) (rw c.taken_back.ensures at c.cut_to.ensures)

pub returns-clause-live : goal.returns-clause-live
returns-clause-live g c = applied_live _ _ _ c.attempt_write-attempt.ensures.asks c.unless_broken.ensures
