use Rattle.stmt_parser.proofs.Whole.{definition_given, definition_never}
use Rattle.stmt_parser.proofs.parse.whole_definition.Goals as goal

pub unreachable-requires : goal.unreachable-requires
unreachable-requires c =
    definition_never c.args.text.now c.args.lexing.now.lexemes.items c.as_slice-lexemes.result.now c.args.lexing.now.flaw c.new.result c.read_definition.result _ c.in-Err-Refused.field-0
    c.requires.lexed c.requires.stands c.as_slice-lexemes.ensures.value c.new.ensures c.read_definition.ensures c.in-Err-Refused.is c.in-Err-Refused.field-0-is

pub returns-in-Ok : goal.returns-in-Ok
returns-in-Ok c =
    definition_given c.args.text.now c.args.lexing.now.lexemes.items c.as_slice-lexemes.result.now c.args.lexing.now.flaw c.new.result c.read_definition.result _ c.in-Ok.definition
    c.requires.lexed c.requires.stands c.as_slice-lexemes.ensures.value c.new.ensures c.read_definition.ensures c.in-Ok.is
