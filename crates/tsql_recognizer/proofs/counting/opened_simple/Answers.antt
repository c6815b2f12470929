use Rattle.std.specs.Prelude.{[], ◌∷◌}
use Rattle.tsql_grammar.specs.declared.rule.Rule.TheVariants as r
use Rattle.grammar_laws.specs.Grammar.Symbol.{rule}
use Rattle.tsql_recognizer.specs.Stack.{expected, shown}
use Rattle.tsql_recognizer.proofs.Leading.{puts_within}
use Rattle.tsql_recognizer.proofs.counting.opened_simple.Goals as goal

pub returns-in_ok-push_rule-in-Some : goal.returns-in_ok-push_rule-in-Some
returns-in_ok-push_rule-in-Some c =
    puts_within c.args.kind (r.Opened c.args.count) r.SimplePrimary (shown c.in-Some.production) (rule (r.Operand c.args.more) ∷ []) (expected c.args.stack.now.items)
    (expected c.push_rule.new.stack.items) _ c.put.result c.requires c.in-Some.ensures c.in_ok-push_rule-in-Some.ensures c.put.ensures
