use Rattle.std.proofs.Common.{rules}
use Rattle.stmt_parser.proofs.Verdicts.{stops_given}
use Rattle.stmt_parser.proofs.judge.judge.Goals as goal

pub unread-requires-clause-stops : goal.unread-requires-clause-stops
unread-requires-clause-stops c = search (rules, stops_given c.args.rule c.args.text.now c.args.lexing.now.lexemes.items c.args.lexing.now.flaw c.in-Stops.at c.requires.lexed c.requires.ends)
