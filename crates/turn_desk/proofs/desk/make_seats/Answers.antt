use Rattle.std.proofs.Common.{rules, ap}
use Rattle.turn_desk.proofs.Seating.{splits_from}
use Rattle.turn_desk.proofs.desk.make_seats.Goals as goal

pub split_seat-token-requires : goal.split_seat-token-requires
split_seat-token-requires g c =
    let M = g.M.Machine in
    let laws = g.met.M.Machine in
    let key = c.args.table.now.key in
    let machine = key.machine.value in (
      search rules,
      search rules,
      splits_from M.story M.knows M.within (M.story machine) key.seats _ c.loop-i.i c.loop-i.maker.me.0 (ap (λ x. x.0) c.loop-i.invariant.1) (search rules)
          (λ k. laws.steps_within machine k _ (laws.no_steps machine k c.requires.opening)),
    )
