use Rattle.std.proofs.Common.{◌≡◌, ◌<◌, List, [], ◌∷◌, ◌++◌, length, get_or, ap, ◌∙◌, arith}
use Rattle.std.proofs.lemmas.List.{get_or_default}
use Rattle.std.proofs.lemmas.Result.{on_ok_weaker, on_err_weaker}
use Rattle.step_model.specs.declared.resource.Resource.{Resource}
use Rattle.step_model.specs.Locks.{Lock}
use Rattle.lock_table.specs.BySession.{list_of}
use Rattle.lock_table.proofs.Lists.{granted_or_kept, lists_changed, lists_kept}
use Rattle.lock_table.proofs.LockTable.grant.Goals as goal

in_range : (c : goal.After-add_lock) → c.args.session < length c.self.inside.by_session
in_range c = omega (arith, c.self.invariant.long, c.requires.session.1)

-- the list that was lent is the session's
own_list : (c : goal.After-add_lock) → get_or c.self.inside.by_session c.args.session c.index-self-session.result ≡ list_of c.args.session c.self.inside.by_session
own_list c = get_or_default c.self.inside.by_session c.args.session c.index-self-session.result [] (in_range c)

pub invariant_of-self : goal.invariant_of-self
invariant_of-self c =
    granted_or_kept c.add_lock.result c.self.inside.by_session c.self.inside.index c.add_lock.new.index c.args.session
    (record { on = c.in_ok-copy.field-0; pair = c.args.pair; span = c.args.span }) (get_or c.self.inside.by_session c.args.session c.index-self-session.result) c.add_lock.new.own (in_range c) c.self.invariant (own_list c)
    c.add_lock.ensures.own c.add_lock.ensures.index c.add_lock.ensures.err_own c.add_lock.ensures.err_index

pub returns-clause-ok : goal.returns-clause-ok
returns-clause-ok c =
    on_ok_weaker c.add_lock.result
    (λ is. rw (← c.self.view_is)
    (lists_changed c.self.inside.by_session c.args.session c.add_lock.new.own (λ locks. locks ++ record { on = c.args.on.now; pair = c.args.pair; span = c.args.span } ∷ []) (in_range c)
    (is
    ∙ ap (λ (ls : List Lock). ls ++ record { on = c.in_ok-copy.field-0; pair = c.args.pair; span = c.args.span } ∷ []) (own_list c)
    ∙ ap (λ (on : Resource). list_of c.args.session c.self.inside.by_session ++ record { on = on; pair = c.args.pair; span = c.args.span } ∷ []) c.in_ok-copy.ensures)))
    c.add_lock.ensures.own

pub returns-clause-err : goal.returns-clause-err
returns-clause-err c =
    on_err_weaker c.add_lock.result
    (λ is. rw (← c.self.view_is) (lists_kept c.self.inside.by_session c.args.session c.add_lock.new.own (in_range c) (is ∙ own_list c)))
    c.add_lock.ensures.err_own
