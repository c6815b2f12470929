use Rattle.std.specs.Prelude.{suc}
use Rattle.tsql_grammar.specs.declared.rule.Rule.TheVariants as r
use Rattle.tsql_recognizer.proofs.Counted.{at_number, is_zero, is_suc}
use Rattle.tsql_recognizer.proofs.counts.tested.Goals as goal

pub returns-in-None : goal.returns-in-None
returns-in-None c = at_number (λ n. r.Tested n) c.args.count 0 (is_zero c.args.count c.in-None.ensures) _ _ _ _ c.push_chosen.ensures

pub returns-in-Some : goal.returns-in-Some
returns-in-Some c =
    let less = c.in-Some.ensures in
    at_number (λ n. r.Tested n) c.args.count (suc c.in-Some.less) (is_suc c.args.count c.in-Some.less less.0 less.1) _ _ _ _ c.push_chosen-in-Some.ensures
