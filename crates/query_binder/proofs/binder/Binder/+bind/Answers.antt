use Rattle.std.proofs.Common.{◌∙◌, List, rules, subst, sym}
use Rattle.bound_tree.specs.declared.query.BoundOrder.{BoundOrder}
use Rattle.typed_nodes.specs.Refusals.{Outcome, Fails}
use Rattle.clause_binder.specs.declared.progress.Progress.{Progress}
use Rattle.clause_binder.specs.Answers.{GivesOn}
use Rattle.clause_binder.specs.Bind as spec
use Rattle.clause_binder.specs.Progress as part
use Rattle.bound_tree.specs.declared.expr.CompareOp.{CompareOp}
use Rattle.tsql_tree.specs.declared.query.Test.{Between, Compare}
use Rattle.typed_nodes.specs.declared.test.TypedTest.{TypedTest}
use Rattle.typed_nodes.specs.Tests as tests
use Rattle.query_binder.proofs.TestNodes.{between, compared}
use Rattle.query_binder.proofs.Steps.{failed_key, next_item, next_join, next_key, order_is}
use Rattle.query_binder.proofs.binder.Binder.+bind.Goals as goal

pub bind_test-returns-in_ok-a-in-Compare : goal.bind_test-returns-in_ok-a-in-Compare
bind_test-returns-in_ok-a-in-Compare t c =
    let given = subst (λ (op : CompareOp). GivesOn c.bind_compare.result (part.and_then (spec.expr_of c.args.self.now.definitions.now c.args.self.now.vars.now c.get-in-Compare-2.result.now).read.bind
    (λ y. part.pure (tests.compare_test op c.in_ok-a-in-Compare.a y)) c.args.at.now c.bind_expr.new.done) c.bind_compare.new.done) c.compare_op.ensures c.bind_compare.ensures in
    subst (λ (o : Outcome (TypedTest × Progress)). GivesOn c.bind_compare.result o c.bind_compare.new.done)
    (sym (compared c.args.self.now.definitions.now c.args.self.now.vars.now c.args.of.now c.get-in-Compare.result.now c.get-in-Compare-2.result.now c.in-Compare.sign c.args.at.now c.args.done.now
    c.bind_expr.new.done c.in_ok-a-in-Compare.a (c.in-Compare.is ∙ (λ j. Compare (sym c.get-in-Compare.ensures j) c.in-Compare.sign (sym c.get-in-Compare-2.ensures j))) c.in_ok-a-in-Compare.ensures))
    given

pub bind_test-returns-in_ok-low-in-Between : goal.bind_test-returns-in_ok-low-in-Between
bind_test-returns-in_ok-low-in-Between t c =
    subst (λ (o : Outcome (TypedTest × Progress)). GivesOn c.bind_between.result o c.bind_between.new.done)
    (sym (between c.args.self.now.definitions.now c.args.self.now.vars.now c.args.of.now c.get-in-Between.result.now c.get-in-Between-2.result.now c.get-in-Between-3.result.now c.in-Between.negated c.args.at.now c.args.done.now
    c.bind_expr-in-Between.new.done c.bind_expr-in-Between-2.new.done c.in_ok-a-in-Between.a c.in_ok-low-in-Between.low
    (c.in-Between.is ∙ (λ j. Between (sym c.get-in-Between.ensures j) c.in-Between.negated (sym c.get-in-Between-2.ensures j) (sym c.get-in-Between-3.ensures j)))
    c.in_ok-a-in-Between.ensures c.in_ok-low-in-Between.ensures))
    c.bind_between.ensures

pub bind_items-loop-item-preserved : goal.bind_items-loop-item-preserved
bind_items-loop-item-preserved t c =
    next_item c.args.self.now.vars.now (spec.item_of c.args.self.now.definitions.now c.args.self.now.vars.now) c.args.items.now c.loop-item.item-index
    c.item-item.result c.item-item.result c.loop-item.named c.in_ok-named.named c.args.at.now c.loop-item.done c.bind_item.new.done
    c.loop-item-test.true c.item-item.is c.in_ok-named.ensures
    ∙ c.loop-item.invariant

pub bind_order-loop-by-preserved : goal.bind_order-loop-by-preserved
bind_order-loop-by-preserved t c =
    next_key c.args.distinct c.args.items.now (spec.order_of c.args.self.now.definitions.now c.args.self.now.vars.now) c.args.order.now c.loop-by.by-index
    c.by-item.result c.by-item.result _ _ c.loop-by.bound c.push.new.self c.in_ok-key.key c.args.at.now c.loop-by.done c.bind_key.new.done
    c.loop-by-test.true c.by-item.is (order_is c.args.self.now.definitions.now c.args.self.now.vars.now c.by-item.result) c.in_ok-key.ensures c.in_ok-push.ensures.ok
    ∙ c.loop-by.invariant

pub bind_order-returns-in_err-key : goal.bind_order-returns-in_err-key
bind_order-returns-in_err-key t c =
    let failed = subst (λ (o : Outcome (List BoundOrder × Progress)). Fails c.in_err-key.field-0.0 o) c.loop-by.invariant
    (failed_key c.args.distinct c.args.items.now (spec.order_of c.args.self.now.definitions.now c.args.self.now.vars.now) c.args.order.now c.loop-by.by-index
    c.by-item.result c.by-item.result _ _ c.loop-by.bound c.in_err-key.field-0.0 c.args.at.now c.loop-by.done
    c.loop-by-test.true c.by-item.is (order_is c.args.self.now.definitions.now c.args.self.now.vars.now c.by-item.result) c.in_err-key.ensures) in
    search (rules, failed)

pub bind_joins-loop-join-preserved : goal.bind_joins-loop-join-preserved
bind_joins-loop-join-preserved t c =
    next_join c.args.self.now.definitions.now (spec.join_of c.args.self.now.definitions.now c.args.self.now.vars.now) c.args.joins.now c.loop-join.join-index
    c.join-item.result c.join-item.result c.loop-join.tables c.in_ok-tables.tables c.loop-join.done c.bind_join.new.done
    c.loop-join-test.true c.join-item.is c.in_ok-tables.ensures
    ∙ c.loop-join.invariant
