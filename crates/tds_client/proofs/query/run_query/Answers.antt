use Rattle.outside_io.specs.Bytes.{Takes}
use Rattle.tds_client.proofs.Completed.{complete}
use Rattle.tds_client.proofs.Ways.{run_ended, run_told}
use Rattle.tds_client.proofs.query.run_query.Goals as goal

pub returns-in-Ok-clause-query : goal.returns-in-Ok-clause-query
returns-in-Ok-clause-query g c =
    run_told c.args.login.now c.args.text.now (Takes g.L.Source.left g.L.Source.given c.args.line.now c.take_turns.new.line) (g.L.Source.left c.take_turns.new.line) (g.L.Sink.written c.args.line.now) (g.L.Sink.written c.take_turns.new.line)
    c.in-Ok.told.tokens.items c.in-Ok.told.refused (g.O.Sink.written c.args.out.now) (g.O.Sink.written c.print_told.new.out) c.print_told.result c.in-Ok.ensures.told c.print_told.ensures.printed

pub returns-in-Ok-clause-complete : goal.returns-in-Ok-clause-complete
returns-in-Ok-clause-complete g c =
    complete c.args.login.now c.args.text.now g.L.Source.left g.L.Source.given c.args.line.now c.take_turns.new.line (g.L.Sink.written c.args.line.now) (g.L.Sink.written c.take_turns.new.line) (g.O.Sink.written c.args.out.now) (g.O.Sink.written c.print_told.new.out) c.print_told.result
    (run_told c.args.login.now c.args.text.now (Takes g.L.Source.left g.L.Source.given c.args.line.now c.take_turns.new.line) (g.L.Source.left c.take_turns.new.line) (g.L.Sink.written c.args.line.now) (g.L.Sink.written c.take_turns.new.line)
    c.in-Ok.told.tokens.items c.in-Ok.told.refused (g.O.Sink.written c.args.out.now) (g.O.Sink.written c.print_told.new.out) c.print_told.result c.in-Ok.ensures.told c.print_told.ensures.printed)

pub returns-in-Err-clause-query : goal.returns-in-Err-clause-query
returns-in-Err-clause-query g c =
    run_ended c.args.login.now c.args.text.now (Takes g.L.Source.left g.L.Source.given c.args.line.now c.take_turns.new.line) (g.L.Source.left c.take_turns.new.line) (g.L.Sink.written c.args.line.now) (g.L.Sink.written c.take_turns.new.line)
    (g.O.Sink.written c.args.out.now) c.in-Err.end c.in-Err.ensures.ended

pub returns-in-Err-clause-complete : goal.returns-in-Err-clause-complete
returns-in-Err-clause-complete g c =
    complete c.args.login.now c.args.text.now g.L.Source.left g.L.Source.given c.args.line.now c.take_turns.new.line (g.L.Sink.written c.args.line.now) (g.L.Sink.written c.take_turns.new.line) (g.O.Sink.written c.args.out.now) (g.O.Sink.written c.args.out.now) c.in-Err.end
    (run_ended c.args.login.now c.args.text.now (Takes g.L.Source.left g.L.Source.given c.args.line.now c.take_turns.new.line) (g.L.Source.left c.take_turns.new.line) (g.L.Sink.written c.args.line.now) (g.L.Sink.written c.take_turns.new.line)
    (g.O.Sink.written c.args.out.now) c.in-Err.end c.in-Err.ensures.ended)
