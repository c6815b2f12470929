use Rattle.std.proofs.Common.{ap, ◌∙◌}
use Rattle.tsql_grammar.specs.declared.kind.Kind.TheVariants as k
use Rattle.tsql_recognizer.specs.Stack.{expected}
use Rattle.tsql_recognizer.proofs.Counted.{is_suc}
use Rattle.tsql_recognizer.proofs.CountingSteps.{compared_close}
use Rattle.tsql_recognizer.proofs.counting.compared_before.Goals as goal

pub returns-in_ok-push_rule-in-Sign-Close : goal.returns-in_ok-push_rule-in-Sign-Close
returns-in_ok-push_rule-in-Sign-Close c =
    let less = c.in-Some.ensures in
    compared_close c.args.kind (expected c.args.stack.now.items) (expected c.push_rule.new.stack.items)
    (c.in-Sign-Close.is ∙ ap k.Sign (rw c.in-Sign-Close.is at c.in-Sign-Close.field-0-is))
    c.args.count c.in-Some.less (is_suc c.args.count c.in-Some.less less.0 less.1) c.in_ok-push_rule-in-Sign-Close.ensures
