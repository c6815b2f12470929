use Rattle.std.specs.Prelude.{List}
use Rattle.std.proofs.Common.{◌∙◌, ap, sym}
use Rattle.tsql_grammar.specs.declared.rule.Rule.TheVariants as r
use Rattle.tsql_grammar.specs.Terminals.{Terminal}
use Rattle.lexeme_reader.specs.Reading.{read}
use Rattle.query_parser.proofs.Whole.{reads_as}
use Rattle.query_parser.proofs.parse.whole_select.Goals as goal

pub returns-in-Ok : goal.returns-in-Ok
returns-in-Ok c =
    reads_as r.Select c.args.run.now c.requires c.in-Ok.select c.read_select.new.lexemes
    (ap (λ (w : List Terminal). read r.Select w) (sym c.new.ensures) ∙ c.in-Ok.ensures)
