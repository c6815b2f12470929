use Rattle.std.proofs.Common.{sym, ap, ◌∙◌, subst, Some}
use Rattle.step_model.specs.State.{is_open}
use Rattle.step_model.specs.Claims.{Passes, with_claim, locks_for}
use Rattle.history_laws.specs.Sane.{Sane}
use Rattle.engine_core.proofs.Showing.{granted_shown, open_shown}
use Rattle.engine_core.proofs.Keeps.{well_kept, then_ok}
use Rattle.engine_core.proofs.parts.Parts.keep.Goals as goal

pub invariant_of-self : goal.invariant_of-self
invariant_of-self c =
    let parts = well_kept c.self.inside.rows c.args.session c.self.inside.locks c.keep.new.locks c.self.inside.active.items c.self.inside.log.items c.args.claim.now c.keep.result c.self.invariant.idle c.self.invariant.held
    (sym (open_shown c.self.inside.rows c.self.inside.locks c.self.inside.active.items c.self.inside.log.items c.args.session) ∙ ap (is_open c.args.session) c.self.view_is ∙ c.requires.begun)
    (subst Sane (sym c.self.view_is) c.requires.sane)
    (subst (Passes c.args.session (Some c.args.claim.now)) (sym c.self.view_is) c.requires.passes)
    c.keep.ensures.ok c.keep.ensures.err in
    record { distinct = c.self.invariant.distinct; numbered = c.self.invariant.numbered; idle = parts.0; held = parts.1; reached = c.self.invariant.reached; room = c.self.invariant.room }

pub returns-clause-ok : goal.returns-clause-ok
returns-clause-ok c = then_ok c.keep.result
    (λ changes. granted_shown c.self.inside.rows c.args.session (locks_for (Some c.args.claim.now)) c.self.inside.locks c.keep.new.locks c.self.inside.active.items c.self.inside.log.items changes
    ∙ ap (with_claim c.args.session (Some c.args.claim.now)) c.self.view_is)
    c.keep.ensures.ok
