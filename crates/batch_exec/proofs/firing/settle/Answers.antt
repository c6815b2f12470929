use Rattle.std.proofs.Common.{refl, sym}
use Rattle.batch_meaning.proofs.Composed.{does_no, does_over, does_yes}
use Rattle.batch_exec.proofs.Fired.{mark_live}
use Rattle.batch_exec.proofs.firing.settle.Goals as goal

pub returns-then-not-stands-clause-does : goal.returns-then-not-stands-clause-does
returns-then-not-stands-clause-does g c = does_no _ _ _ (sym c.if-not-stands.ensures.stands) (does_over refl)

pub returns-then-succeeded-clause-does : goal.returns-then-succeeded-clause-does
returns-then-succeeded-clause-does g c = does_yes _ _ _ (sym c.if-not-stands.ensures.stands) (rw c.if-succeeded.true c.leave.ensures.does)

pub returns-then-has_mark-clause-does : goal.returns-then-has_mark-clause-does
returns-then-has_mark-clause-does g c = does_yes _ _ _ (sym c.if-not-stands.ensures.stands) (rw (c.if-succeeded.false, sym c.if-has_mark.ensures) c.undo.ensures.does)

pub returns-else-has_mark-clause-does : goal.returns-else-has_mark-clause-does
returns-else-has_mark-clause-does g c = does_yes _ _ _ (sym c.if-not-stands.ensures.stands) (rw (c.if-succeeded.false, sym c.if-has_mark.ensures) c.undone.ensures.does)

pub leave-requires-clause-begun : goal.leave-requires-clause-begun
leave-requires-clause-begun g c = λ some. c.if-not-stands.ensures.begun refl

pub undo-requires-clause-begun : goal.undo-requires-clause-begun
undo-requires-clause-begun g c = c.if-not-stands.ensures.begun refl

pub undone-requires-clause-begun : goal.undone-requires-clause-begun
undone-requires-clause-begun g c = c.if-not-stands.ensures.begun refl

pub undo-requires-clause-live : goal.undo-requires-clause-live
undo-requires-clause-live g c = mark_live c.args.mark _ c.args.session.now.txn.saves c.requires.ready.live (sym c.if-has_mark.ensures)
