use Rattle.std.proofs.Common.{sym, ◌∙◌}
use Rattle.tsql_recognizer.specs.Stack.{expected}
use Rattle.tsql_recognizer.proofs.CountingSteps.{compared_alone}
use Rattle.tsql_recognizer.proofs.counting.compared_alone.Goals as goal

pub returns : goal.returns
returns c = compared_alone c.args.kind (expected c.args.stack.now.items) (expected c.push_rule.new.stack.items) c.args.count c.requires
    (sym c.may_begin.ensures ∙ c.if-not-may_begin.false) c.in_ok-push_rule.ensures
