use Rattle.std.proofs.Common.{◌==◌, not, List, ap, sym, subst, ◌∙◌, arith, true}
use Rattle.step_model.specs.Entries.{changes_by}
use Rattle.step_model.specs.State.{Engine}
use Rattle.step_model.specs.Moves.{settle, log_with, after_end}
use Rattle.row_store.specs.Rows.{entries_of}
use Rattle.engine_core.specs.Transactions.{Opened, without_opened, AreDistinct, AreNumbered}
use Rattle.engine_core.specs.Shown.{shown}
use Rattle.engine_core.specs.WellFormed.{IsIdle, IsReached}
use Rattle.engine_core.proofs.Sessions.{distinct_filter}
use Rattle.engine_core.proofs.Showing.{begun_shown}
use Rattle.engine_core.proofs.Ending.{settle_ends, numbered_left, idle_ended, reached_ended, held_ended, end_shown}
use Rattle.engine_core.proofs.parts.Parts.commit.Goals as goal

pub close-requires : goal.close-requires
close-requires c = record { begun = begun_shown c.self.inside.rows c.self.inside.locks c.self.inside.active.items c.self.inside.log.items c.args.self.now c.self.view_is c.args.session true c.requires.begun }

pub add_commit-requires : goal.add_commit-requires
add_commit-requires c = omega (arith, c.self.invariant.room, c.close.ensures.fewer)

pub invariant_of-self : goal.invariant_of-self
invariant_of-self c =
    let active = c.self.inside.active.items in
    record {
      distinct = subst AreDistinct (sym c.close.ensures.closed) (distinct_filter (λ t. not (t.session == c.args.session)) active c.self.invariant.distinct);
      numbered = subst AreNumbered (sym c.close.ensures.closed) (numbered_left c.args.session active c.self.invariant.numbered);
      idle = subst (IsIdle c.release.new.self) (sym c.close.ensures.closed) (idle_ended c.self.inside.rows c.settle-changes.new.self c.self.inside.locks c.release.new.self active c.args.session c.self.invariant.idle c.release.ensures);
      held = held_ended c.self.inside.rows c.self.inside.locks active c.self.inside.log.items c.self.invariant.idle c.args.session (settle c.args.session) (settle_ends c.args.session) c.settle-changes.new.self c.release.new.self c.release.ensures
          c.settle-changes.ensures.makers c.settle-changes.ensures.entries c.self.invariant.held;
      reached = subst (IsReached c.settle-changes.new.self) (sym c.close.ensures.closed) (reached_ended c.self.inside.rows c.settle-changes.new.self c.self.inside.locks c.release.new.self active c.args.session c.self.invariant.reached c.settle-changes.ensures.others c.settle-changes.ensures.below);
      room = omega (arith, c.self.invariant.room, c.close.ensures.fewer, c.add_commit.ensures.room, c.add_commit.ensures.capacity);
    }

pub returns-clause-new : goal.returns-clause-new
returns-clause-new c =
    let active = c.self.inside.active.items in
    let entries = entries_of c.self.inside.rows in
    let log = c.self.inside.log.items in
    ap (λ (ts : List Opened). shown c.settle-changes.new.self c.release.new.self ts c.add_commit.new.log.items) c.close.ensures.closed
    ∙ ap (shown c.settle-changes.new.self c.release.new.self (without_opened c.args.session active)) (c.add_commit.ensures.log ∙ ap (log_with log c.args.session) c.settle-changes.ensures.changes)
    ∙ end_shown c.self.inside.rows c.self.inside.locks active log c.self.invariant.idle c.args.session (settle c.args.session) (settle_ends c.args.session) c.settle-changes.new.self c.release.new.self c.release.ensures
    c.args.self.now c.self.view_is c.requires.sane c.self.invariant.held c.settle-changes.ensures.entries c.settle-changes.ensures.others (log_with log c.args.session (changes_by c.args.session entries))
    ∙ ap (λ (e : Engine). after_end c.args.session (settle c.args.session) (log_with e.log c.args.session (changes_by c.args.session e.entries)) c.args.self.now) c.self.view_is
