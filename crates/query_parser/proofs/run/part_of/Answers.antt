use Rattle.std.specs.Prelude.{false, take}
use Rattle.std.proofs.Common.{sym, subst}
use Rattle.std.proofs.lemmas.List.{length-take-le}
use Rattle.tsql_grammar.specs.Noted.{start}
use Rattle.tsql_grammar.specs.Terminals.{terminals}
use Rattle.tsql_recognizer.specs.Verdict.{IsVerdict}
use Rattle.tsql_recognizer.specs.declared.recognizer.Verdict.{Verdict}
use Rattle.query_parser.specs.declared.run.Run.{Run}
use Rattle.query_parser.specs.Parsed.{IsRun}
use Rattle.query_parser.proofs.Runs.{run_part, run_none, within_run}
use Rattle.query_parser.proofs.run.part_of.Goals as goal

pub slice_bounds-recognize-end : goal.slice_bounds-recognize-end
slice_bounds-recognize-end c = sym (length-take-le c.args.taken c.args.lexemes.now (within_run c.args.rule c.args.lexemes.now c.args.taken c.requires))

pub returns-in-Reads : goal.returns-in-Reads
returns-in-Reads c =
    let text = c.args.lexemes.now in
    subst (λ (found : Run). IsRun c.args.rule text found) (sym c.run_with.ensures)
    (run_part c.args.rule text c.args.taken c.in-Reads.fault c.requires
    (subst (λ (v : Verdict). IsVerdict c.args.rule (terminals (take c.args.taken text)) (start false) v) c.in-Reads.is c.in_ok-fault.ensures))

pub returns-in-Stops : goal.returns-in-Stops
returns-in-Stops c =
    let text = c.args.lexemes.now in
    run_none c.args.rule text c.args.taken c.in-Stops.field-0 c.requires
    (subst (λ (v : Verdict). IsVerdict c.args.rule (terminals (take c.args.taken text)) (start false) v) c.in-Stops.is c.in_ok-fault.ensures)
