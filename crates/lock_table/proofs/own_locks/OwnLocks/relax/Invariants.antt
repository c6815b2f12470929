use Rattle.std.proofs.lemmas.List.Filters.{FiltersInPlace}
use Rattle.step_model.specs.Locks.{Lock, is_whole}
use Rattle.lock_table.proofs.own_locks.OwnLocks.relax.Given as goal

abbrev pub invariant-loop-place : goal.invariant-loop-place
invariant-loop-place l = FiltersInPlace (λ (lock : Lock). is_whole lock.span) l.initial.self-inside.locks.items l.self-inside.locks.items l.kept l.place
