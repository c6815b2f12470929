use Rattle.outside_io.specs.Bytes.{Takes}
use Rattle.tds_client.proofs.OneTurn.{of_other_kind, replied, stopped}
use Rattle.tds_client.proofs.exchange.receive.Goals as goal

pub returns-in-Err-clause-missed : goal.returns-in-Err-clause-missed
returns-in-Err-clause-missed g c =
    stopped c.args.turn c.args.reader.now (Takes g.L.Source.left g.L.Source.given c.args.line.now c.next_message.new.line) (g.L.Source.left c.next_message.new.line) c.in-Err.ensures.next.0 c.in-Err.ensures.next.1
    c.in-Err.fault c.in-Err.ensures.next.3 c.in-Err.ensures.ended c.end_of_message.result c.end_of_message.ensures.value

pub returns-then-reply-ne-TABULAR_RESULT-clause-missed : goal.returns-then-reply-ne-TABULAR_RESULT-clause-missed
returns-then-reply-ne-TABULAR_RESULT-clause-missed g c =
    of_other_kind c.args.turn c.args.reader.now (Takes g.L.Source.left g.L.Source.given c.args.line.now c.next_message.new.line) (g.L.Source.left c.next_message.new.line) c.in-Ok.ensures.next.0 c.in-Ok.ensures.next.1
    c.in-Ok.reply c.in-Ok.ensures.next.3 c.if-reply-ne-TABULAR_RESULT.true c.number.result c.number.ensures

pub returns-clause-replied : goal.returns-clause-replied
returns-clause-replied g c =
    replied c.args.reader.now c.next_message.new.reader (Takes g.L.Source.left g.L.Source.given c.args.line.now c.next_message.new.line) c.in-Ok.ensures.next.0 c.in-Ok.ensures.next.1 c.in-Ok.reply c.in-Ok.ensures.next.2 c.in-Ok.ensures.next.3
    c.if-reply-ne-TABULAR_RESULT.false
