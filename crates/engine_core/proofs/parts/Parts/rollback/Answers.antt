use Rattle.std.proofs.Common.{◌==◌, not, List, ap, sym, subst, ◌∙◌, arith, true}
use Rattle.step_model.specs.State.{Engine}
use Rattle.step_model.specs.Moves.{drop_pending, after_end}
use Rattle.engine_core.specs.Transactions.{Opened, AreDistinct, AreNumbered}
use Rattle.engine_core.specs.Shown.{shown}
use Rattle.engine_core.specs.WellFormed.{IsIdle, IsReached}
use Rattle.engine_core.proofs.Sessions.{distinct_filter}
use Rattle.engine_core.proofs.Showing.{begun_shown}
use Rattle.engine_core.proofs.Ending.{drop_ends, numbered_left, idle_ended, reached_ended, held_ended, end_shown}
use Rattle.engine_core.proofs.parts.Parts.rollback.Goals as goal

pub close-requires : goal.close-requires
close-requires c = record { begun = begun_shown c.self.inside.rows c.self.inside.locks c.self.inside.active.items c.self.inside.log.items c.args.self.now c.self.view_is c.args.session true c.requires.begun }

pub invariant_of-self : goal.invariant_of-self
invariant_of-self c =
    let active = c.self.inside.active.items in
    record {
      distinct = subst AreDistinct (sym c.close.ensures.closed) (distinct_filter (λ t. not (t.session == c.args.session)) active c.self.invariant.distinct);
      numbered = subst AreNumbered (sym c.close.ensures.closed) (numbered_left c.args.session active c.self.invariant.numbered);
      idle = subst (IsIdle c.release.new.self) (sym c.close.ensures.closed) (idle_ended c.self.inside.rows c.drop_pending.new.self c.self.inside.locks c.release.new.self active c.args.session c.self.invariant.idle c.release.ensures);
      held = held_ended c.self.inside.rows c.self.inside.locks active c.self.inside.log.items c.self.invariant.idle c.args.session (drop_pending c.args.session) (drop_ends c.args.session) c.drop_pending.new.self c.release.new.self c.release.ensures
          c.drop_pending.ensures.makers c.drop_pending.ensures.entries c.self.invariant.held;
      reached = subst (IsReached c.drop_pending.new.self) (sym c.close.ensures.closed) (reached_ended c.self.inside.rows c.drop_pending.new.self c.self.inside.locks c.release.new.self active c.args.session c.self.invariant.reached c.drop_pending.ensures.others c.drop_pending.ensures.below);
      room = omega (arith, c.self.invariant.room, c.close.ensures.fewer);
    }

pub returns-clause-new : goal.returns-clause-new
returns-clause-new c =
    let active = c.self.inside.active.items in
    let log = c.self.inside.log.items in
    ap (λ (ts : List Opened). shown c.drop_pending.new.self c.release.new.self ts log) c.close.ensures.closed
    ∙ end_shown c.self.inside.rows c.self.inside.locks active log c.self.invariant.idle c.args.session (drop_pending c.args.session) (drop_ends c.args.session) c.drop_pending.new.self c.release.new.self c.release.ensures
    c.args.self.now c.self.view_is c.requires.sane c.self.invariant.held c.drop_pending.ensures.entries c.drop_pending.ensures.others log
    ∙ ap (λ (e : Engine). after_end c.args.session (drop_pending c.args.session) e.log c.args.self.now) c.self.view_is
