use Rattle.std.proofs.Common.{take, drop, ap, ◌∙◌}
use Rattle.tds_login.specs.Prelogin.{option_at, options_of}
use Rattle.tds_login.proofs.Options.{resumed, resumed_first, resumed_more, options_more}
use Rattle.tds_login.proofs.prelogin.read_prelogin.Goals as goal

pub loop-rest-init : goal.loop-rest-init
loop-rest-init c = resumed_first c.args.payload.now

pub loop-rest-preserved : goal.loop-rest-preserved
loop-rest-preserved c =
    let rest = c.loop-rest.rest.now in
    rw (c.look_at-seen.ensures, c.split_at.ensures.front, c.split_at.ensures.back)
    (c.loop-rest.invariant
    ∙ ap (resumed c.args.payload.now c.loop-rest.seen) (options_more rest c.if-rest.false c.if-rest-lt-OPTION_LEN.false)
    ∙ resumed_more c.args.payload.now c.loop-rest.seen (option_at (take 5 rest)) (options_of (drop 5 rest)))
