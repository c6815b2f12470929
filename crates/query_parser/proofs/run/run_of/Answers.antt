use Rattle.std.specs.Prelude.{false}
use Rattle.std.proofs.Common.{sym, subst}
use Rattle.tsql_grammar.specs.Noted.{start}
use Rattle.tsql_grammar.specs.Terminals.{terminals}
use Rattle.tsql_recognizer.specs.Verdict.{IsVerdict}
use Rattle.tsql_recognizer.specs.declared.recognizer.Verdict.{Verdict}
use Rattle.query_parser.specs.declared.run.Run.{Run}
use Rattle.query_parser.specs.Parsed.{IsRun}
use Rattle.query_parser.proofs.Runs.{run_whole}
use Rattle.query_parser.proofs.run.run_of.Goals as goal

pub returns-in-Reads : goal.returns-in-Reads
returns-in-Reads c =
    let text = c.args.lexemes.now in
    subst (λ (found : Run). IsRun c.args.rule text found) (sym c.run_with.ensures)
    (run_whole c.args.rule text c.in-Reads.fault
    (subst (λ (v : Verdict). IsVerdict c.args.rule (terminals text) (start false) v) c.in-Reads.is c.in_ok-fault.ensures))
