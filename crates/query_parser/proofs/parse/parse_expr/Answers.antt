use Rattle.std.specs.Prelude.{drop}
use Rattle.std.proofs.Common.{subst}
use Rattle.tsql_grammar.specs.declared.rule.Rule.TheVariants as r
use Rattle.query_parser.specs.declared.run.Run.{Run}
use Rattle.query_parser.specs.declared.run.Run.TheVariants as run
use Rattle.query_parser.specs.Parsed.{IsRun}
use Rattle.query_parser.proofs.Runs.{run_within, refused}
use Rattle.query_parser.proofs.parse.parse_expr.Goals as goal

pub lexemes_of_run-requires-clause-run_within : goal.lexemes_of_run-requires-clause-run_within
lexemes_of_run-requires-clause-run_within c =
    let text = drop c.args.at c.args.lexemes.now in
    run_within r.Expr text c.in-Reads.taken (subst (λ (found : Run). IsRun r.Expr text found) c.in-Reads.is c.in_ok-taken.ensures)

pub returns-in-TooDeep : goal.returns-in-TooDeep
returns-in-TooDeep c =
    let text = drop c.args.at c.args.lexemes.now in
    refused r.Expr c.args.lexemes.now c.args.at (run.TooDeep c.in-TooDeep.field-0 c.in-TooDeep.place) c.too_deep.result
    (subst (λ (found : Run). IsRun r.Expr text found) c.in-TooDeep.is c.in_ok-taken.ensures) (c.too_deep.ensures c.in-TooDeep.field-0)
