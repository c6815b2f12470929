use Rattle.std.proofs.Common.{[], ltb-false, ◌∙◌, arith}
use Rattle.std.proofs.lemmas.List.{get_or_past}
use Rattle.lock_table.proofs.Numbers.{of_lists}
use Rattle.lock_table.proofs.LockTable.has_list.Goals as goal

pub returns-clause-past : goal.returns-clause-past
returns-clause-past c past = rw (← c.self.view_is)
    (of_lists c.args.session c.self.inside.by_session ∙ get_or_past c.self.inside.by_session c.args.session [] (omega (arith, c.self.invariant.long, ltb-false c.args.session 65 past)))
