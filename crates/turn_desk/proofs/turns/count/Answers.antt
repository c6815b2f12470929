use Rattle.std.proofs.Common.{rules}
use Rattle.turn_desk.specs.Views.{past_of}
use Rattle.turn_desk.proofs.Turning.{counts_from}
use Rattle.turn_desk.proofs.turns.count.Goals as goal

pub fetch_add-requires : goal.fetch_add-requires
fetch_add-requires g c =
    let M = g.M.Machine in
    let laws = g.met.M.Machine in
    let key = c.args.table.now.key in
    let me = c.args.token.now.me in
    let p = past_of me.0 in
    let step = c.requires.step in
    let call = c.args.call.now in
    let reply = c.args.reply.now in
    let after = c.args.after.now in
    let known = laws.own_steps step.0 after p.number p.steps call reply step.2 step.3 step.4 in (
      search rules,
      search rules,
      counts_from M.story M.knows M.within (M.story key.machine.value) key.seats _ _ me p step.0 call reply after g.N.News.news step.1 c.requires.news
          (laws.story_grows step.0 after p.number call reply step.4)
          known
          (λ n steps other k. laws.other_steps step.0 after p.number p.steps call reply n steps step.2 step.3 step.4 other k)
          (laws.steps_within after p.number _ known),
    )
