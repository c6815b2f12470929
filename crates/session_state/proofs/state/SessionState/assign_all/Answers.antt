use Rattle.std.proofs.Common.{sym, ap, ◌∙◌, subst}
use Rattle.batch_meaning.specs.Progress.{SessionProgress, assigns, made}
use Rattle.session_state.specs.Parts.{SetsFit}
use Rattle.session_state.proofs.Assigning.{sets_stay}
use Rattle.session_state.proofs.Stepping.{assigned_more}
use Rattle.session_state.proofs.state.SessionState.assign_all.Goals as goal

pub loop-place-preserved : goal.loop-place-preserved
loop-place-preserved c = record {
  same = c.assign.ensures ∙ ap (made (assigns c.in-Some.place c.in-Some.value)) c.loop-place.invariant.same ∙ sym (assigned_more c.loop-place.yielded (c.in-Some.place, c.in-Some.value) c.args.self.now);
  fits = subst (λ (p : SessionProgress). SetsFit p.vars c.args.sets.items) (sym c.assign.ensures) (sets_stay _ _ _ _ c.loop-place.invariant.fits);
}
