use Rattle.std.proofs.Common.{sym, ap}
use Rattle.transfer_load.proofs.OnlyServing.{only_first}
use Rattle.transfer_load.proofs.ServedBytes.{bytes_served}
use Rattle.transfer_load.proofs.command.serve_bytes.Goals as goal

pub returns-in_default : goal.returns-in_default
returns-in_default g c = record {
  served = tt;
  full = c.serve_first.ensures.full 64 c.requires.full;
  only = only_first c.args.config.now _ _ _ _ c.serve_first.result c.args.house.now c.serve_first.new.self c.serve_first.ensures.desk c.serve_first.ensures.served;
}

pub returns-in-Closed-clause-only : goal.returns-in-Closed-clause-only
returns-in-Closed-clause-only g c = only_first c.args.config.now _ _ _ _ c.serve_first.result c.args.house.now c.serve_first.new.self c.serve_first.ensures.desk c.serve_first.ensures.served

pub returns-in-Closed-clause-served : goal.returns-in-Closed-clause-served
returns-in-Closed-clause-served g c =
    let line = c.serve_first.new.line in
    bytes_served c.args.config.now c.args.bytes.items c.into_bytes.result.items c.new-2.result line.source (ap (λ s. s.left) c.new-2.ensures, ap (λ s. s.given) c.new-2.ensures) c.new-4.result.written line.sink.written c.serve_first.result
    c.args.house.now.seats c.serve_first.new.self.seats (ap (λ s. s.written) c.new-4.ensures) (sym c.into_bytes.ensures) c.in-Closed.is c.serve_first.ensures.served
