-- Own: what is outside a limit is noted while a statement is bound, and refused in the end, where nothing else is.
use Rattle.std.specs.Prelude.{ℤ, pos, Bool, ◌||◌, nat_lt, if◌then◌else◌, Ok}
use Rattle.bound_tree.specs.declared.write.Bound.{Bound}
use Rattle.typed_nodes.specs.Refusals.{Outcome, unnamed}
use Rattle.clause_binder.specs.Scope.{max_inner}
use Rattle.clause_binder.specs.declared.progress.Progress.{Progress}
use Rattle.binder.specs.declared.made.Made.{Made}

-- outside the limits
abbrev pub outside_limits : ℤ
outside_limits = pos 49007

-- what is made, unless something is outside a limit
abbrev pub within_limits : {A : Type 0} → Bool → A → Outcome A
within_limits beyond a = if beyond then unnamed outside_limits else Ok a

-- more inner queries than a statement may have are outside, too
abbrev pub is_beyond : Progress → Bool
is_beyond done = done.beyond || nat_lt max_inner done.count

abbrev pub made_of : Bound → Progress → Made
made_of bound done = record { bound = bound; beyond = is_beyond done }
