use Rattle.std.proofs.Common.{Some, None}
use Rattle.stmt_parser.proofs.Verdicts.{flaw_given, reads_given}
use Rattle.stmt_parser.proofs.judge.judge_whole.Goals as goal

pub unread-requires-clause-stops : goal.unread-requires-clause-stops
unread-requires-clause-stops c =
    flaw_given c.args.rule c.args.text.now c.args.lexing.now.lexemes.items c.args.lexing.now.flaw c.in-Some-default._flaw c.args.fault c.count_of.result c.requires.lexed c.in-Some-default.is-0 c.count_of.ensures c.requires.reads

pub wrong-requires-clause-stands : goal.wrong-requires-clause-stands
wrong-requires-clause-stands c =
    reads_given c.args.rule c.args.text.now c.args.lexing.now.lexemes.items c.args.lexing.now.flaw c.args.fault (Some (c.in-None-Some.fault, c.in-None-Some.at)) c.requires.lexed c.in-None-Some.is-0 c.in-None-Some.is-1 c.requires.reads

pub returns-in-None-None-clause-stands : goal.returns-in-None-None-clause-stands
returns-in-None-None-clause-stands c =
    reads_given c.args.rule c.args.text.now c.args.lexing.now.lexemes.items c.args.lexing.now.flaw c.args.fault None c.requires.lexed c.in-None-None.is-0 c.in-None-None.is-1 c.requires.reads
