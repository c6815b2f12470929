use Rattle.std.proofs.Common.{sym, ◌∙◌}
use Rattle.tsql_recognizer.specs.Stack.{expected}
use Rattle.tsql_recognizer.proofs.CountingSteps.{operand_joined}
use Rattle.tsql_recognizer.proofs.counting.operand_joined.Goals as goal

pub returns : goal.returns
returns c = operand_joined c.args.kind (expected c.args.stack.now.items) (expected c.push_all.new.stack.items) c.args.count
    (sym c.joins.ensures ∙ c.if-not-joins.false) c.in_ok-push_all.ensures
