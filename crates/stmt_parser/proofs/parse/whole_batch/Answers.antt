use Rattle.stmt_parser.proofs.Whole.{batch_given, batch_never}
use Rattle.stmt_parser.proofs.parse.whole_batch.Goals as goal

pub unreachable-requires : goal.unreachable-requires
unreachable-requires c =
    batch_never c.args.text.now c.args.lexing.now.lexemes.items c.as_slice-lexemes.result.now c.args.lexing.now.flaw c.end_of.result c.new.result c.read_batch.result _ c.in-Err-Refused.field-0
    c.requires.lexed c.requires.stands c.as_slice-lexemes.ensures.value c.new.ensures c.end_of.ensures c.read_batch.ensures c.in-Err-Refused.is c.in-Err-Refused.field-0-is

pub returns-in-Ok : goal.returns-in-Ok
returns-in-Ok c =
    batch_given c.args.text.now c.args.lexing.now.lexemes.items c.as_slice-lexemes.result.now c.args.lexing.now.flaw c.end_of.result c.new.result c.read_batch.result _ c.in-Ok.batch
    c.requires.lexed c.requires.stands c.as_slice-lexemes.ensures.value c.new.ensures c.end_of.ensures c.read_batch.ensures c.in-Ok.is
