use Rattle.std.proofs.Common.{◌<◌, [], length, ap, ◌∙◌, arith}
use Rattle.std.proofs.lemmas.List.{get_or_default}
use Rattle.lock_table.specs.Table.{all_but_last}
use Rattle.lock_table.proofs.Lists.{relisted, lists_changed}
use Rattle.lock_table.proofs.LockTable.withdraw.Goals as goal

pub invariant_of-self : goal.invariant_of-self
invariant_of-self c =
    let within : c.args.session < length c.self.inside.by_session = omega (arith, c.self.invariant.long, c.has_list.ensures.within c.if-has_list.true) in
    relisted c.self.inside.by_session c.self.inside.index c.take_back.new.index c.args.session c.take_back.new.own within c.self.invariant c.take_back.ensures.pairs c.take_back.ensures.others

pub returns-then-has_list : goal.returns-then-has_list
returns-then-has_list c =
    let within : c.args.session < length c.self.inside.by_session = omega (arith, c.self.invariant.long, c.has_list.ensures.within c.if-has_list.true) in
    let own = get_or_default c.self.inside.by_session c.args.session c.index-self-session.result [] within in
    rw (← c.self.view_is) (lists_changed c.self.inside.by_session c.args.session c.take_back.new.own all_but_last within (c.take_back.ensures.own ∙ ap all_but_last own))
