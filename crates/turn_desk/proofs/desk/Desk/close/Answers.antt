use Rattle.std.proofs.Common.{◌≡◌, length, sym, ap, ◌∙◌}
use Rattle.std.proofs.lemmas.List.{length-map}
use Rattle.turn_desk.specs.Views.{past_of_seat, count_of}
use Rattle.turn_desk.proofs.Closing.{agrees_all, knows_others}
use Rattle.turn_desk.proofs.desk.Desk.close.Goals as goal

pub take_machine-requires : goal.take_machine-requires
take_machine-requires g c =
    let joined = c.join_seats-token.ensures in
    let seats = c.args.seats.items in
    let all : count_of c.join_seats-token.result.me.0 ≡ c.self.inside.table.shared.key.seats =
    ap length joined.pasts ∙ (length-map seats past_of_seat ∙ (c.requires.all ∙ (sym (ap (λ d. d.seats) c.self.view_is) ∙ c.self.invariant.1))) in
    record { table = (joined.table.0, c.self.invariant.0); all = (joined.table.2, all) }

pub returns-clause-seats : goal.returns-clause-seats
returns-clause-seats g c =
    let M = g.M.Machine in
    agrees_all M.story M.knows M.within c.take_machine.result c.self.inside.table.shared.key.seats c.join_seats-token.result.me.0 c.args.seats.items c.join_seats-token.ensures.pasts c.take_machine.ensures

pub returns-clause-others : goal.returns-clause-others
returns-clause-others g c =
    let M = g.M.Machine in
    knows_others M.story M.knows M.within c.take_machine.result c.self.inside.table.shared.key.seats c.join_seats-token.result.me.0 c.args.seats.items c.join_seats-token.ensures.pasts c.take_machine.ensures
