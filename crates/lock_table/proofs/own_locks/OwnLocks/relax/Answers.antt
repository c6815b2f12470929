use Rattle.std.proofs.Common.{refl, sym, ◌∙◌, arith}
use Rattle.std.proofs.lemmas.List.Filters.{FiltersInPlace-all, FiltersInPlace-more_swap, FiltersInPlace-more_no}
use Rattle.lock_table.proofs.Fronts.{front_stays, begins_gathered}
use Rattle.lock_table.proofs.own_locks.OwnLocks.relax.Goals as goal
use Rattle.lock_table.proofs.own_locks.OwnLocks.relax.Goals.{then-is_whole, else-is_whole}

pub loop-place-init : goal.loop-place-init
loop-place-init c = record {
  front = front_stays c.self.inside.whole_count c.self.inside.locks.items c.self.invariant;
  rest = refl;
  behind = omega arith;
  within = c.self.invariant.within;
  long = refl;
}

pub loop-place-preserved : goal.loop-place-preserved
loop-place-preserved c = elim c.if-is_whole.branch [
  | then-is_whole w ↦ rw (w.self-inside-is, w.kept-is) (FiltersInPlace-more_swap c.loop-place.invariant (omega arith) (sym c.is_whole.ensures ∙ w.if-is_whole.true) c.index.ensures w.swap.ensures.by_index)
  | else-is_whole w ↦ rw (w.self-inside-is, w.kept-is) (FiltersInPlace-more_no c.loop-place.invariant (omega arith) (sym c.is_whole.ensures ∙ w.if-is_whole.false) c.index.ensures)
]

pub invariant_of-self : goal.invariant_of-self
invariant_of-self c = rw c.truncate.ensures.items
    (begins_gathered c.loop-place.kept c.self.inside.locks.items c.loop-place.self-inside.locks.items (omega arith)
    (FiltersInPlace-all c.loop-place.invariant (omega arith)))
