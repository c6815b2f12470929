use Rattle.engine_core.proofs.Showing.{no_foe_shown, foe_shown}
use Rattle.engine_core.proofs.parts.Parts.passed.Goals as goal

pub returns-in-None-clause-passes : goal.returns-in-None-clause-passes
returns-in-None-clause-passes c = rw (← c.self.view_is, ← c.on.ensures, ← c.pair.ensures)
    (no_foe_shown c.self.inside.rows c.self.inside.locks c.self.inside.active.items c.self.inside.log.items c.self.invariant.idle c.args.session _ _ (c.foe.ensures.free c.in-None.is))

pub returns-in-Some-clause-foe : goal.returns-in-Some-clause-foe
returns-in-Some-clause-foe c =
    let foe = foe_shown c.self.inside.rows c.self.inside.locks c.self.inside.active.items c.self.inside.log.items c.self.invariant.idle c.args.session c.args.claim.on c.args.claim.pair _ _ (rw (← c.on.ensures, ← c.pair.ensures) c.in-Some.ensures.foe) in
    rw (← c.self.view_is) foe
