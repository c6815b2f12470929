use Rattle.std.proofs.Common.{◌≡◌, ◌==◌, ◌&&◌, ℕ, drop}
use Rattle.lock_modes.specs.Modes.{none}
use Rattle.step_model.specs.declared.resource.Resource.{Resource}
use Rattle.step_model.specs.declared.resource.Span.{Span}
use Rattle.step_model.specs.Locks.{has_lock}
use Rattle.lock_table.specs.BySession.{is_of, same_span, changed_if}
use Rattle.lock_table.specs.Places.{pair_found}
use Rattle.lock_table.proofs.index.Index.forget.Given as goal

-- what is left to take away from what there is
abbrev pub invariant-loop-lock : goal.invariant-loop-lock
invariant-loop-lock l = (of : Span) (at : Resource) (who : ℕ)
    → changed_if (same_span l.span of && (has_lock (is_of l.span) at (drop l.lock-index l.locks) && who == l.session)) (λ old. none) (pair_found l.self of at who)
    ≡ changed_if (same_span l.span of && (has_lock (is_of l.span) at l.locks && who == l.session)) (λ old. none) (pair_found l.initial.self of at who)
