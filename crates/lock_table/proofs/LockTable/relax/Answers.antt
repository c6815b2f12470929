use Rattle.std.proofs.Common.{◌<◌, List, [], length, set, filter, sym, ap, ◌∙◌, subst, arith}
use Rattle.std.proofs.lemmas.List.{get_or_default}
use Rattle.step_model.specs.declared.resource.Span.TheVariants.{Statement}
use Rattle.step_model.specs.Locks.{Lock, is_whole}
use Rattle.lock_table.specs.BySession.{list_of, is_of}
use Rattle.lock_table.specs.Places.{AreOfLists}
use Rattle.lock_table.proofs.Lists.{relaxed, forgets_same, lists_changed}
use Rattle.lock_table.proofs.LockTable.relax.Goals as goal

pub invariant_of-self : goal.invariant_of-self
invariant_of-self c =
    let within : c.args.session < length c.self.inside.by_session = omega (arith, c.self.invariant.long, c.has_list.ensures.within c.if-has_list.true) in
    let own = get_or_default c.self.inside.by_session c.args.session c.index-self-session.result [] within in
    subst (λ (ls : List Lock). AreOfLists (set c.self.inside.by_session c.args.session ls) c.forget.new.self) (sym (c.relax.ensures ∙ ap (λ (ls : List Lock). filter (λ lock. is_whole lock.span) ls) own))
    (relaxed c.self.inside.by_session c.self.inside.index c.forget.new.self c.args.session within c.self.invariant
    (forgets_same c.args.session c.since_relax.result.now (list_of c.args.session c.self.inside.by_session) Statement c.self.inside.index c.forget.new.self
    (c.since_relax.ensures ∙ ap (filter (is_of Statement)) own) c.forget.ensures))

pub returns-then-has_list : goal.returns-then-has_list
returns-then-has_list c =
    let within : c.args.session < length c.self.inside.by_session = omega (arith, c.self.invariant.long, c.has_list.ensures.within c.if-has_list.true) in
    let own = get_or_default c.self.inside.by_session c.args.session c.index-self-session.result [] within in
    rw (← c.self.view_is)
    (lists_changed c.self.inside.by_session c.args.session c.relax.new.self (filter (λ lock. is_whole lock.span)) within (c.relax.ensures ∙ ap (λ (ls : List Lock). filter (λ lock. is_whole lock.span) ls) own))
