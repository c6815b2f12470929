use Rattle.std.proofs.Common.{refl, arith, ◌∙◌}
use Rattle.session_server.proofs.Served.{nothing_served, served_more, spoke}
use Rattle.session_server.proofs.Sizes.{first_sized}
use Rattle.session_server.proofs.serving.serve_messages.Goals as goal

pub loop-end-init : goal.loop-end-init
loop-end-init g c = record {
  served = rw c.new-reader.ensures (rw c.first-state.ensures (nothing_served c.args.config.now g.L.Source.left g.L.Source.given c.args.line.now (g.P.Port.past c.args.port.now) (g.L.Sink.written c.args.line.now) c.args.spid c.requires.first));
  ready = c.requires.ready;
  sized = rw c.first-state.ensures (first_sized c.args.config.now);
  reads = refl;
  writes = refl;
  held = refl;
  within = rw c.new-reader.ensures (omega arith);
}

pub loop-end-preserved : goal.loop-end-preserved
loop-end-preserved g c = record {
  served = served_more c.loop-end.invariant.served c.in-Ok.ensures.turned;
  ready = c.in-Ok.ensures.ready;
  sized = c.in-Ok.ensures.sized;
  reads = c.in-Ok.ensures.no_read_fault (λ is. let never : ⊥ = cc in never) ∙ c.loop-end.invariant.reads;
  writes = c.in-Ok.ensures.no_write_fault (λ is. let never : ⊥ = cc in never) ∙ c.loop-end.invariant.writes;
  held = c.in-Ok.ensures.held ∙ c.loop-end.invariant.held;
  within = c.in-Ok.ensures.within.1;
}

pub returns-in-Err-clause-spoke : goal.returns-in-Err-clause-spoke
returns-in-Err-clause-spoke g c = spoke c.loop-end.invariant.served c.in-Err.ensures.ended
