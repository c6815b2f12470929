use Rattle.std.specs.Prelude.{[], refl}
use Rattle.tsql_recognizer.specs.declared.step.Step.TheVariants as step
use Rattle.tsql_recognizer.specs.Stack.{expected, shown}
use Rattle.tsql_recognizer.proofs.Leading.{develops_above, puts_develop}
use Rattle.tsql_recognizer.proofs.common.plain_before.Goals as goal

pub returns-then-falls_away : goal.returns-then-falls_away
returns-then-falls_away c =
    let old = expected c.args.stack.now.items in
    develops_above c.args.kind c.args.rule step.Opens [] old old (c.falls_away.ensures c.if-falls_away.true) refl

pub returns-in-Some : goal.returns-in-Some
returns-in-Some c = puts_develop c.args.kind c.args.rule (shown c.in-Some.production) (expected c.args.stack.now.items) _ c.put.result c.in-Some.ensures c.put.ensures
