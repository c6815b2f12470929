use Rattle.std.proofs.Common.{rules, ◌≡◌, true}
use Rattle.step_model.specs.Fits.{is_wait}
use Rattle.shared_port.proofs.Waits.{waited_more, waited_ready}
use Rattle.shared_port.proofs.port.ask_until.Goals as goal

pub act-reply-requires-clause-ready : goal.act-reply-requires-clause-ready
act-reply-requires-clause-ready g c = waited_ready c.args.seat.now c.loop.seat c.args.call.now c.loop.invariant c.requires.ready

pub loop-preserved : goal.loop-preserved
loop-preserved g c =
    let wait : is_wait c.act-reply.result ≡ true = search rules in
    waited_more c.args.seat.now c.loop.seat c.act-reply.new.seat c.args.call.now c.act-reply.result c.loop.invariant c.act-reply.ensures.acts wait
