use Rattle.std.proofs.Common.{◌≡◌, ◌≤◌, List, refl, sym, ap, ◌∙◌, subst, true, rules, arith}
use Rattle.step_model.specs.State.{Engine, Saved, saved_of}
use Rattle.step_model.specs.Moves.{after_back}
use Rattle.std.proofs.Common.{◌==◌}
use Rattle.std.specs.List.{list_any}
use Rattle.engine_core.specs.Transactions.{Opened, is_active, levels_in, cut_marks, with_opened, AreDistinct, AreNumbered}
use Rattle.engine_core.specs.Shown.{shown}
use Rattle.engine_core.specs.WellFormed.{IsIdle}
use Rattle.std.specs.Vec.{with_items}
use Rattle.engine_core.proofs.Sessions.{distinct_changed, numbered_changed, wrote_all, same_length}
use Rattle.engine_core.proofs.Showing.{begun_shown}
use Rattle.engine_core.proofs.Marking.{numbered_cut, live_saved, idle_changed, reached_changed, held_back, back_shown}
use Rattle.engine_core.proofs.parts.Parts.back_to.Goals as goal

pub cut-requires-clause-begun : goal.cut-requires-clause-begun
cut-requires-clause-begun c =
    ap (is_active c.args.session) c.deref_mut.ensures.value
    ∙ begun_shown c.self.inside.rows c.self.inside.locks c.self.inside.active.items c.self.inside.log.items c.args.self.now c.self.view_is c.args.session true c.requires.begun

pub invariant_of-self : goal.invariant_of-self
invariant_of-self c =
    let active = c.self.inside.active.items in
    let is : (with_items c.self.inside.active c.cut.new.active).items ≡ with_opened c.args.session (cut_marks c.args.mark) active = wrote_all c.self.inside.active c.cut.new.active _ (c.cut.ensures ∙ ap (with_opened c.args.session (cut_marks c.args.mark)) c.deref_mut.ensures.value) (same_length c.args.session (cut_marks c.args.mark) active) in
    record {
      distinct = subst AreDistinct (sym is) (distinct_changed c.args.session (cut_marks c.args.mark) (λ t. refl) active c.self.invariant.distinct);
      numbered = subst AreNumbered (sym is) (numbered_changed c.args.session (cut_marks c.args.mark) (λ t. refl) (numbered_cut c.args.mark) active c.self.invariant.numbered);
      idle = subst (IsIdle c.self.inside.locks) (sym is) (idle_changed c.args.session (cut_marks c.args.mark) (λ t. refl) c.self.inside.locks active c.self.invariant.idle);
      held = held_back c.args.session c.args.mark c.self.inside.rows c.self.inside.locks c.back_to.new.self c.back_to.ensures.entries c.back_to.ensures.makers c.self.invariant.held;
      reached = λ who level above. c.back_to.ensures.below who level (reached_changed c.args.session (cut_marks c.args.mark) (λ t. refl) c.self.inside.rows (λ t. omega arith) active c.self.invariant.reached who level (subst (λ (ts : List Opened). levels_in who ts ≤ level) is above));
      room = search rules;
    }

pub returns-clause-new : goal.returns-clause-new
returns-clause-new c =
    let active = c.self.inside.active.items in
    let is : (with_items c.self.inside.active c.cut.new.active).items ≡ with_opened c.args.session (cut_marks c.args.mark) active = wrote_all c.self.inside.active c.cut.new.active _ (c.cut.ensures ∙ ap (with_opened c.args.session (cut_marks c.args.mark)) c.deref_mut.ensures.value) (same_length c.args.session (cut_marks c.args.mark) active) in
    ap (λ (ts : List Opened). shown c.back_to.new.self c.self.inside.locks ts c.self.inside.log.items) is
    ∙ back_shown c.args.session c.args.mark c.self.inside.rows c.self.inside.locks c.back_to.new.self c.back_to.ensures.entries active c.self.inside.log.items
    (subst (λ (e : Engine). list_any (λ (s : Saved). s.mark == c.args.mark) (saved_of c.args.session e) ≡ true) (sym c.self.view_is) (live_saved c.args.mark (saved_of c.args.session c.args.self.now) ∙ c.requires.live)) c.back_to.ensures.past
    ∙ ap (after_back c.args.session c.args.mark) c.self.view_is
