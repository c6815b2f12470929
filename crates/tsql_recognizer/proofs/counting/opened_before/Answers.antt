use Rattle.std.proofs.Common.{ap, ◌∙◌, arith}
use Rattle.tsql_grammar.specs.declared.kind.Kind.TheVariants as k
use Rattle.tsql_recognizer.specs.Stack.{expected}
use Rattle.tsql_recognizer.proofs.CountingSteps.{opened_open}
use Rattle.tsql_recognizer.proofs.counting.opened_before.Goals as goal

pub returns-in_ok-push_rule-in-Sign-Open : goal.returns-in_ok-push_rule-in-Sign-Open
returns-in_ok-push_rule-in-Sign-Open c =
    let sum = c.in-Some.ensures in
    opened_open c.args.kind (expected c.args.stack.now.items) (expected c.push_rule.new.stack.items)
    (c.in-Sign-Open.is ∙ ap k.Sign (rw c.in-Sign-Open.is at c.in-Sign-Open.field-0-is))
    c.args.count c.in-Some.more (omega (arith, sum.0, sum.1)) c.in_ok-push_rule-in-Sign-Open.ensures
