use Rattle.std.proofs.Common.{sym, ap, ◌∙◌, filter}
use Rattle.step_model.specs.Locks.{Lock, is_whole}
use Rattle.step_model.specs.State.{is_open}
use Rattle.step_model.specs.Moves.{after_relax}
use Rattle.engine_core.proofs.Showing.{open_shown, changes_shown, idle_changes}
use Rattle.engine_core.proofs.Keeps.{held_relaxed}
use Rattle.row_store.specs.Rows.{entries_of}
use Rattle.engine_core.proofs.parts.Parts.relax.Goals as goal

pub invariant_of-self : goal.invariant_of-self
invariant_of-self c = record {
  distinct = c.self.invariant.distinct;
  numbered = c.self.invariant.numbered;
  idle = idle_changes (filter (λ (lock : Lock). is_whole lock.span)) c.args.session c.self.inside.locks c.relax.new.self c.self.inside.active.items
      (sym (open_shown c.self.inside.rows c.self.inside.locks c.self.inside.active.items c.self.inside.log.items c.args.session) ∙ ap (is_open c.args.session) c.self.view_is ∙ c.requires.begun)
      c.relax.ensures c.self.invariant.idle;
  held = held_relaxed c.self.inside.rows c.args.session c.self.inside.locks c.relax.new.self c.relax.ensures (entries_of c.self.inside.rows) c.self.invariant.held;
  reached = c.self.invariant.reached;
  room = c.self.invariant.room;
}

pub returns-clause-new : goal.returns-clause-new
returns-clause-new c =
    changes_shown c.self.inside.rows c.args.session (filter (λ (lock : Lock). is_whole lock.span)) c.self.inside.locks c.relax.new.self c.self.inside.active.items c.self.inside.log.items c.relax.ensures
    ∙ ap (after_relax c.args.session) c.self.view_is
