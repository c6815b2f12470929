use Rattle.std.proofs.Common.{◌≡◌, take}
use Rattle.tsql_tree.proofs.copy.+copy.Given as goal

abbrev pub invariant-copy_items-loop-item : goal.invariant-copy_items-loop-item
invariant-copy_items-loop-item l = l.copies ≡ take l.item-index l.items

abbrev pub invariant-copy_joins-loop-join : goal.invariant-copy_joins-loop-join
invariant-copy_joins-loop-join l = l.copies ≡ take l.join-index l.joins

abbrev pub invariant-copy_order-loop-item : goal.invariant-copy_order-loop-item
invariant-copy_order-loop-item l = l.copies ≡ take l.item-index l.order

abbrev pub invariant-copy_exprs-loop-expr : goal.invariant-copy_exprs-loop-expr
invariant-copy_exprs-loop-expr l = l.copies ≡ take l.expr-index l.exprs

abbrev pub invariant-copy_arms-loop-arm : goal.invariant-copy_arms-loop-arm
invariant-copy_arms-loop-arm l = l.copies ≡ take l.arm-index l.arms

abbrev pub invariant-copy_factors-loop-factor : goal.invariant-copy_factors-loop-factor
invariant-copy_factors-loop-factor l = l.copies ≡ take l.factor-index l.factors

abbrev pub invariant-copy_terms-loop-term : goal.invariant-copy_terms-loop-term
invariant-copy_terms-loop-term l = l.copies ≡ take l.term-index l.terms

abbrev pub invariant-copy_tests-loop-test : goal.invariant-copy_tests-loop-test
invariant-copy_tests-loop-test l = l.copies ≡ take l.test-index l.tests
