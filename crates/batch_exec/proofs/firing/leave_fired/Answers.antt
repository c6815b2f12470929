use Rattle.std.proofs.Common.{refl, ap, ◌∙◌}
use Rattle.batch_meaning.specs.Firing.{leaves_fired}
use Rattle.batch_meaning.specs.Progress.{SessionProgress}
use Rattle.batch_meaning.proofs.Composed.{does_makes, does_over, does_reads, does_then}
use Rattle.batch_exec.proofs.Fired.{ready_fired, settles_left}
use Rattle.batch_exec.proofs.firing.leave_fired.Goals as goal

pub returns-clause-does : goal.returns-clause-does
unfolding leaves_fired
returns-clause-does g c = does_reads (does_then _ _ c.settle.ensures.does (does_makes c.end_firing.ensures (does_over refl)))

pub returns-clause-ready : goal.returns-clause-ready
returns-clause-ready g c = ready_fired c.args.mark c.args.stood _ _ c.settle.ensures.ready c.end_firing.ensures

pub returns-clause-left : goal.returns-clause-left
returns-clause-left g c = ap (λ (p : SessionProgress). p.statements_left) c.end_firing.ensures ∙ settles_left c.args.session.now.stands c.args.home c.args.mark c.args.succeeded c.args.session.now c.settle.ensures.does
