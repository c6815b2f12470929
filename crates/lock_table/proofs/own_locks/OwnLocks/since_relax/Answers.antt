use Rattle.std.proofs.Common.{filter, ap, ◌∙◌}
use Rattle.std.proofs.lemmas.List.{take_rest}
use Rattle.step_model.specs.declared.resource.Span.TheVariants.{Statement}
use Rattle.lock_table.specs.BySession.{is_of}
use Rattle.lock_table.proofs.Fronts.{brief_behind}
use Rattle.lock_table.proofs.own_locks.OwnLocks.since_relax.Goals as goal

pub returns : goal.returns
returns c = rw (← c.self.view_is, c.deref.ensures.value)
    (ap (filter (is_of Statement)) (take_rest c.self.inside.locks.items c.self.inside.whole_count) ∙ brief_behind c.self.inside.whole_count c.self.inside.locks.items c.self.invariant)
