use Rattle.std.proofs.Common.{◌∷◌, [], ◌++◌, List, sym, ap, ◌∙◌, subst}
use Rattle.lock_modes.specs.declared.Pair.{Pair}
use Rattle.step_model.specs.Locks.{Lock}
use Rattle.lock_table.specs.Table.{all_but_last}
use Rattle.lock_table.specs.Places.{Changes, HasPairsOf}
use Rattle.lock_table.proofs.Lists.{taken_back, may_take_back}
use Rattle.lock_table.proofs.take_back.Goals as goal

pub set-requires-clause-may : goal.set-requires-clause-may
set-requires-clause-may c is =
    let lock : Lock = record { on = c.lock.inside.on; pair = c.lock.inside.pair; span = c.lock.inside.span } in
    let had : HasPairsOf c.args.session (c.pop.new.self ++ lock ∷ []) c.args.index.now =
    subst (λ (ls : List Lock). HasPairsOf c.args.session ls c.args.index.now) (c.in-Some.ensures.latest ∙ ap (λ (l : Lock). c.pop.new.self ++ l ∷ []) (sym c.lock.view_is)) c.requires.pairs in
    c.pair_on-left.ensures ∙ may_take_back c.args.session c.pop.new.self lock c.args.index.now had is

pub returns-in-Some-clause-pairs : goal.returns-in-Some-clause-pairs
returns-in-Some-clause-pairs c =
    let lock : Lock = record { on = c.lock.inside.on; pair = c.lock.inside.pair; span = c.lock.inside.span } in
    let had : HasPairsOf c.args.session (c.pop.new.self ++ lock ∷ []) c.args.index.now =
    subst (λ (ls : List Lock). HasPairsOf c.args.session ls c.args.index.now) (c.in-Some.ensures.latest ∙ ap (λ (l : Lock). c.pop.new.self ++ l ∷ []) (sym c.lock.view_is)) c.requires.pairs in
    taken_back c.args.session c.pop.new.self lock c.args.index.now c.set.new.self had
    (subst (λ (left : Pair). Changes lock.span lock.on c.args.session (λ p. left) c.args.index.now c.set.new.self) c.pair_on-left.ensures c.set.ensures)

pub returns-in_default-clause-pairs : goal.returns-in_default-clause-pairs
returns-in_default-clause-pairs c =
    let none = c.in_default.ensures.none in
    subst (λ (ls : List Lock). HasPairsOf c.args.session ls c.args.index.now) (sym (c.pop.ensures.rest ∙ ap all_but_last none))
    (subst (λ (ls : List Lock). HasPairsOf c.args.session ls c.args.index.now) none c.requires.pairs)
