use Rattle.std.proofs.Common.{◌==◌, ◌&&◌, drop, sym, ap, ◌∙◌, ◌+◌}
use Rattle.lock_modes.specs.declared.Pair.{Pair}
use Rattle.lock_modes.specs.Modes.{none}
use Rattle.step_model.specs.Locks.{Lock, has_lock}
use Rattle.lock_table.specs.declared.index.Index.{Index}
use Rattle.lock_table.specs.BySession.{is_of, same_span, changed_if}
use Rattle.lock_table.specs.Places.{pair_found}
use Rattle.lock_table.proofs.Lists.{forget_then, forget_else}
use Rattle.lock_table.proofs.index.Index.forget.Goals as goal
use Rattle.lock_table.proofs.index.Index.forget.Goals.{then-is_of, else-is_of}

pub loop-lock-preserved : goal.loop-lock-preserved
loop-lock-preserved c of at who =
    let left = λ (p : Pair). changed_if (same_span c.args.span of && (has_lock (is_of c.args.span) at (drop (c.loop-lock.lock-index + 1) c.args.locks.now) && who == c.args.session)) (λ old. none) p in
    elim c.if-is_of.branch [
      | then-is_of w ↦
          ap (λ (index : Index). left (pair_found index of at who)) w.self-is
          ∙ ap left (w.set.ensures of at who)
          ∙ forget_then c.args.span (same_span c.args.span of) (who == c.args.session) at c.lock.inside.on c.args.locks.now c.loop-lock.lock-index c.lock-item.result (pair_found c.loop-lock.self of at who) c.loop-lock-test.true c.lock-item.is
          (ap (λ (lock : Lock). lock.on) c.lock.view_is) (sym c.is_of.ensures ∙ w.if-is_of.true)
          ∙ c.loop-lock.invariant of at who
      | else-is_of w ↦
          ap (λ (index : Index). left (pair_found index of at who)) w.self-is
          ∙ forget_else c.args.span (same_span c.args.span of) (who == c.args.session) at c.args.locks.now c.loop-lock.lock-index c.lock-item.result (pair_found c.loop-lock.self of at who) c.loop-lock-test.true c.lock-item.is (sym c.is_of.ensures ∙ w.if-is_of.false)
          ∙ c.loop-lock.invariant of at who
    ]
