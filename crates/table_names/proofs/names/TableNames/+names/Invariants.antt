use Rattle.std.proofs.Common.{◌≡◌, map, drop}
use Rattle.table_names.specs.Contents as spec
use Rattle.table_names.proofs.names.TableNames.+names.Given as goal

abbrev pub invariant-note_expr-loop-factor : goal.invariant-note_expr-loop-factor
invariant-note_expr-loop-factor l =
    spec.distinct_onto l.self (spec.all_of (map spec.in_factor (drop l.factor-index l.factors))) ≡ spec.distinct_onto l.initial.self (spec.all_of (map spec.in_factor l.factors))

abbrev pub invariant-note_expr-loop-term : goal.invariant-note_expr-loop-term
invariant-note_expr-loop-term l =
    spec.distinct_onto l.self (spec.all_of (map spec.in_term (drop l.term-index l.terms))) ≡ spec.distinct_onto l.initial.self (spec.all_of (map spec.in_term l.terms))

abbrev pub invariant-note_test-loop-test : goal.invariant-note_test-loop-test
invariant-note_test-loop-test l =
    spec.distinct_onto l.self (spec.all_of (map spec.in_test (drop l.test-index l.rest))) ≡ spec.distinct_onto l.initial.self (spec.all_of (map spec.in_test l.rest))

abbrev pub invariant-note_test-loop-test-2 : goal.invariant-note_test-loop-test-2
invariant-note_test-loop-test-2 l =
    spec.distinct_onto l.self (spec.all_of (map spec.in_test (drop l.test-index l.rest))) ≡ spec.distinct_onto l.initial.self (spec.all_of (map spec.in_test l.rest))

abbrev pub invariant-note_select-loop-item : goal.invariant-note_select-loop-item
invariant-note_select-loop-item l =
    spec.distinct_onto l.self (spec.all_of (map spec.in_item (drop l.item-index l.items))) ≡ spec.distinct_onto l.initial.self (spec.all_of (map spec.in_item l.items))

abbrev pub invariant-note_select-loop-key : goal.invariant-note_select-loop-key
invariant-note_select-loop-key l =
    spec.distinct_onto l.self (spec.all_of (map spec.in_order (drop l.key-index l.order))) ≡ spec.distinct_onto l.initial.self (spec.all_of (map spec.in_order l.order))

abbrev pub invariant-note_from-loop-join : goal.invariant-note_from-loop-join
invariant-note_from-loop-join l =
    spec.distinct_onto l.self (spec.all_of (map spec.in_join (drop l.join-index l.joins))) ≡ spec.distinct_onto l.initial.self (spec.all_of (map spec.in_join l.joins))

abbrev pub invariant-note_exprs-loop-item : goal.invariant-note_exprs-loop-item
invariant-note_exprs-loop-item l =
    spec.distinct_onto l.self (spec.all_of (map spec.in_expr (drop l.item-index l.items))) ≡ spec.distinct_onto l.initial.self (spec.all_of (map spec.in_expr l.items))

abbrev pub invariant-note_arms-loop-arm : goal.invariant-note_arms-loop-arm
invariant-note_arms-loop-arm l =
    spec.distinct_onto l.self (spec.all_of (map spec.in_arm (drop l.arm-index l.arms))) ≡ spec.distinct_onto l.initial.self (spec.all_of (map spec.in_arm l.arms))
