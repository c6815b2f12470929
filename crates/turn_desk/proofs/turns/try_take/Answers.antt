use Rattle.std.proofs.Common.{rules, ap}
use Rattle.turn_desk.specs.Views.{past_of}
use Rattle.turn_desk.proofs.Turning.{tries_from}
use Rattle.turn_desk.proofs.turns.try_take.Goals as goal

pub compare_exchange-requires : goal.compare_exchange-requires
compare_exchange-requires g c =
    let M = g.M.Machine in
    let key = c.args.table.now.key in
    let me = c.args.token.now.me in (
      search rules,
      search rules,
      tries_from M.story M.knows M.within (M.story key.machine.value) key.seats _ _ c.args.number me (past_of me.0) (ap (λ m. m.0) c.requires.live) c.requires.number.0,
    )
