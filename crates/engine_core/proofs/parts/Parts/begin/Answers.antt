use Rattle.std.proofs.Common.{◌≡◌, ap, ◌∙◌, sym, subst, false, List, ◌∷◌, rules}
use Rattle.step_model.specs.Moves.{after_begin}
use Rattle.engine_core.specs.Transactions.{Opened, AreDistinct, AreNumbered, is_active}
use Rattle.engine_core.specs.Shown.{shown}
use Rattle.engine_core.specs.WellFormed.{IsIdle, IsReached}
use Rattle.engine_core.proofs.Showing.{begun_shown}
use Rattle.engine_core.proofs.Begins.{fresh, idle_begun, reached_begun, begin_shown}
use Rattle.engine_core.proofs.parts.Parts.begin.Goals as goal

pub invariant_of-self-in_err-insert : goal.invariant_of-self-in_err-insert
invariant_of-self-in_err-insert c = record {
  distinct = subst AreDistinct (sym c.in_err-insert.ensures.items) c.self.invariant.distinct;
  numbered = subst AreNumbered (sym c.in_err-insert.ensures.items) c.self.invariant.numbered;
  idle = subst (IsIdle c.self.inside.locks) (sym c.in_err-insert.ensures.items) c.self.invariant.idle;
  held = c.self.invariant.held;
  reached = subst (IsReached c.self.inside.rows) (sym c.in_err-insert.ensures.items) c.self.invariant.reached;
  room = search rules;
}

pub invariant_of-self-2 : goal.invariant_of-self-2
invariant_of-self-2 c =
    let closed : is_active c.args.session c.self.inside.active.items ≡ false = begun_shown c.self.inside.rows c.self.inside.locks c.self.inside.active.items c.self.inside.log.items c.args.self.now c.self.view_is c.args.session false c.requires.closed in
    let items : c.insert.new.self.items ≡ fresh c.args.session ∷ c.self.inside.active.items = c.in_ok-insert.ensures.items ∙ ap (λ (t : Opened). t ∷ c.self.inside.active.items) c.new-transaction.ensures in
    record {
      distinct = subst AreDistinct (sym items) (closed, c.self.invariant.distinct);
      numbered = subst AreNumbered (sym items) (tt, c.self.invariant.numbered);
      idle = subst (IsIdle c.self.inside.locks) (sym items) (idle_begun c.self.inside.rows c.self.inside.locks c.self.inside.active.items c.args.session closed c.self.invariant.idle);
      held = c.self.invariant.held;
      reached = subst (IsReached c.self.inside.rows) (sym items) (reached_begun c.self.inside.rows c.self.inside.locks c.self.inside.active.items c.args.session closed c.self.invariant.reached);
      room = search rules;
    }

pub returns-clause-ok : goal.returns-clause-ok
returns-clause-ok c =
    let closed : is_active c.args.session c.self.inside.active.items ≡ false = begun_shown c.self.inside.rows c.self.inside.locks c.self.inside.active.items c.self.inside.log.items c.args.self.now c.self.view_is c.args.session false c.requires.closed in
    let items : c.insert.new.self.items ≡ fresh c.args.session ∷ c.self.inside.active.items = c.in_ok-insert.ensures.items ∙ ap (λ (t : Opened). t ∷ c.self.inside.active.items) c.new-transaction.ensures in
    ap (λ (ts : List Opened). shown c.self.inside.rows c.self.inside.locks ts c.reserve.new.self.items) items
    ∙ ap (shown c.self.inside.rows c.self.inside.locks (fresh c.args.session ∷ c.self.inside.active.items)) c.in_ok-reserve.ensures.items
    ∙ begin_shown c.self.inside.rows c.self.inside.locks c.self.inside.active.items c.args.session closed c.self.inside.log.items c.self.invariant.idle
    ∙ ap (after_begin c.args.session) c.self.view_is
