use Rattle.std.proofs.Common.{◌≡◌, ℕ, ◌+◌, List, refl, sym, ap, ◌∙◌, subst, true, rules, arith}
use Rattle.step_model.specs.declared.reply.Reply.TheVariants.{Marked}
use Rattle.step_model.specs.State.{made_by}
use Rattle.step_model.specs.Moves.{after_mark}
use Rattle.engine_core.specs.Transactions.{Opened, is_active, made_in, levels_in, add_mark, with_opened, AreDistinct, AreNumbered}
use Rattle.engine_core.specs.Shown.{shown}
use Rattle.engine_core.specs.WellFormed.{IsIdle, IsReached}
use Rattle.std.specs.Vec.{with_items}
use Rattle.engine_core.proofs.Sessions.{distinct_changed, wrote_all, same_length}
use Rattle.engine_core.proofs.Showing.{begun_shown, made_shown}
use Rattle.engine_core.proofs.Past.{levels_active}
use Rattle.engine_core.proofs.Marking.{numbered_marked, idle_changed, reached_marked, mark_shown}
use Rattle.engine_core.proofs.parts.Parts.mark.Goals as goal

pub mark-requires-clause-begun : goal.mark-requires-clause-begun
mark-requires-clause-begun c =
    ap (is_active c.args.session) c.deref_mut.ensures.value
    ∙ begun_shown c.self.inside.rows c.self.inside.locks c.self.inside.active.items c.self.inside.log.items c.args.self.now c.self.view_is c.args.session true c.requires.begun

pub invariant_of-self : goal.invariant_of-self
invariant_of-self c =
    let same : (with_items c.self.inside.active c.mark.new.active).items ≡ c.self.inside.active.items = wrote_all c.self.inside.active c.mark.new.active c.self.inside.active.items (c.in_err-mark.ensures.err ∙ c.deref_mut.ensures.value) refl in
    record {
      distinct = subst AreDistinct (sym same) c.self.invariant.distinct;
      numbered = subst AreNumbered (sym same) c.self.invariant.numbered;
      idle = subst (IsIdle c.self.inside.locks) (sym same) c.self.invariant.idle;
      held = c.self.invariant.held;
      reached = subst (IsReached c.self.inside.rows) (sym same) c.self.invariant.reached;
      room = search rules;
    }

pub invariant_of-self-2 : goal.invariant_of-self-2
invariant_of-self-2 c =
    let active = c.self.inside.active.items in
    let next : c.in_ok-mark.mark ≡ made_in c.args.session active + 1 = c.in_ok-mark.ensures.next ∙ ap (λ (ts : List Opened). made_in c.args.session ts + 1) c.deref_mut.ensures.value in
    let is : (with_items c.self.inside.active c.mark.new.active).items ≡ with_opened c.args.session (add_mark c.in_ok-mark.mark) active = wrote_all c.self.inside.active c.mark.new.active _ (c.in_ok-mark.ensures.kept ∙ ap (with_opened c.args.session (add_mark c.in_ok-mark.mark)) c.deref_mut.ensures.value) (same_length c.args.session (add_mark c.in_ok-mark.mark) active) in
    record {
      distinct = subst AreDistinct (sym is) (distinct_changed c.args.session (add_mark c.in_ok-mark.mark) (λ t. refl) active c.self.invariant.distinct);
      numbered = subst AreNumbered (sym is) (numbered_marked c.args.session active c.self.invariant.distinct c.self.invariant.numbered c.in_ok-mark.mark next);
      idle = subst (IsIdle c.self.inside.locks) (sym is) (idle_changed c.args.session (add_mark c.in_ok-mark.mark) (λ t. refl) c.self.inside.locks active c.self.invariant.idle);
      held = c.self.invariant.held;
      reached = subst (IsReached c.self.inside.rows) (sym is) (reached_marked c.self.inside.rows c.args.session active c.in_ok-mark.mark next c.self.invariant.reached);
      room = search rules;
    }

pub returns-clause-reply : goal.returns-clause-reply
returns-clause-reply c =
    ap Marked (c.in_ok-mark.ensures.next ∙ ap (λ (ts : List Opened). made_in c.args.session ts + 1) c.deref_mut.ensures.value
    ∙ ap (λ (n : ℕ). n + 1) (sym (made_shown c.self.inside.rows c.self.inside.locks c.self.inside.active.items c.self.inside.log.items c.args.session) ∙ ap (made_by c.args.session) c.self.view_is))

pub returns-clause-ok : goal.returns-clause-ok
returns-clause-ok c =
    let active = c.self.inside.active.items in
    let next : c.in_ok-mark.mark ≡ made_in c.args.session active + 1 = c.in_ok-mark.ensures.next ∙ ap (λ (ts : List Opened). made_in c.args.session ts + 1) c.deref_mut.ensures.value in
    let is : (with_items c.self.inside.active c.mark.new.active).items ≡ with_opened c.args.session (add_mark c.in_ok-mark.mark) active = wrote_all c.self.inside.active c.mark.new.active _ (c.in_ok-mark.ensures.kept ∙ ap (with_opened c.args.session (add_mark c.in_ok-mark.mark)) c.deref_mut.ensures.value) (same_length c.args.session (add_mark c.in_ok-mark.mark) active) in
    let begun = begun_shown c.self.inside.rows c.self.inside.locks active c.self.inside.log.items c.args.self.now c.self.view_is c.args.session true c.requires.begun in
    let level : levels_in c.args.session active ≡ c.in_ok-mark.mark = levels_active c.args.session active begun ∙ sym next in
    ap (λ (ts : List Opened). shown c.self.inside.rows c.self.inside.locks ts c.self.inside.log.items) is
    ∙ mark_shown c.self.inside.rows c.self.inside.locks c.args.session active c.self.inside.log.items c.in_ok-mark.mark next
    (c.law_pending_now.ensures c.args.session c.in_ok-mark.mark (c.self.invariant.reached c.args.session c.in_ok-mark.mark (omega (arith, level))))
    ∙ ap (after_mark c.args.session) c.self.view_is
