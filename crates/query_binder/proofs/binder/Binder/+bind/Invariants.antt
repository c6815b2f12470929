use Rattle.std.proofs.Common.{◌≡◌, [], map, drop}
use Rattle.clause_binder.specs.Bind as spec
use Rattle.clause_binder.specs.Progress as part
use Rattle.clause_binder.specs.Clauses as clause
use Rattle.query_binder.proofs.binder.Binder.+bind.Given as goal

abbrev pub invariant-bind_each-loop-item : goal.invariant-bind_each-loop-item
invariant-bind_each-loop-item l =
    part.each_onto l.bound.items (map part.bind_of (map spec.read_of (map (spec.expr_of l.self.definitions.now l.self.vars.now) (drop l.item-index l.items)))) l.at l.done
    ≡ part.each_onto [] (map part.bind_of (map spec.read_of (map (spec.expr_of l.self.definitions.now l.self.vars.now) (l.items)))) l.at l.initial.done

abbrev pub invariant-bind_arms-loop-arm : goal.invariant-bind_arms-loop-arm
invariant-bind_arms-loop-arm l =
    part.each_onto l.bound.items (map part.bind_of (map (spec.arm_of l.self.definitions.now l.self.vars.now) (drop l.arm-index l.arms))) l.at l.done
    ≡ part.each_onto [] (map part.bind_of (map (spec.arm_of l.self.definitions.now l.self.vars.now) (l.arms))) l.at l.initial.done

abbrev pub invariant-bind_tests-loop-test : goal.invariant-bind_tests-loop-test
invariant-bind_tests-loop-test l =
    part.each_onto l.bound.items (map part.bind_of (map (spec.test_of l.self.definitions.now l.self.vars.now) (drop l.test-index l.tests))) l.at l.done
    ≡ part.each_onto [] (map part.bind_of (map (spec.test_of l.self.definitions.now l.self.vars.now) (l.tests))) l.at l.initial.done

abbrev pub invariant-bind_factors-loop-factor : goal.invariant-bind_factors-loop-factor
invariant-bind_factors-loop-factor l =
    spec.chain_onto l.before (map (spec.factor_of l.self.definitions.now l.self.vars.now) (drop l.factor-index l.factors)) l.at l.done
    ≡ spec.chain_onto l.initial.before (map (spec.factor_of l.self.definitions.now l.self.vars.now) l.factors) l.at l.initial.done

abbrev pub invariant-bind_terms-loop-term : goal.invariant-bind_terms-loop-term
invariant-bind_terms-loop-term l =
    spec.chain_onto l.before (map (spec.term_of l.self.definitions.now l.self.vars.now) (drop l.term-index l.terms)) l.at l.done
    ≡ spec.chain_onto l.initial.before (map (spec.term_of l.self.definitions.now l.self.vars.now) l.terms) l.at l.initial.done

abbrev pub invariant-bind_groups-loop-group : goal.invariant-bind_groups-loop-group
invariant-bind_groups-loop-group l =
    clause.groups_onto l.bound (map (spec.expr_of l.self.definitions.now l.self.vars.now) (drop l.group-index l.groups)) l.at l.done
    ≡ clause.groups_onto [] (map (spec.expr_of l.self.definitions.now l.self.vars.now) l.groups) l.at l.initial.done

abbrev pub invariant-bind_items-loop-item : goal.invariant-bind_items-loop-item
invariant-bind_items-loop-item l =
    clause.items_onto l.self.vars.now l.named (map (spec.item_of l.self.definitions.now l.self.vars.now) (drop l.item-index l.items)) l.at l.done
    ≡ clause.items_onto l.self.vars.now clause.no_items (map (spec.item_of l.self.definitions.now l.self.vars.now) l.items) l.at l.initial.done

abbrev pub invariant-bind_order-loop-by : goal.invariant-bind_order-loop-by
invariant-bind_order-loop-by l =
    clause.order_onto l.distinct l.items l.bound (map (spec.order_of l.self.definitions.now l.self.vars.now) (drop l.by-index l.order)) l.at l.done
    ≡ clause.order_onto l.distinct l.items [] (map (spec.order_of l.self.definitions.now l.self.vars.now) l.order) l.at l.initial.done

abbrev pub invariant-bind_joins-loop-join : goal.invariant-bind_joins-loop-join
invariant-bind_joins-loop-join l =
    clause.joins_onto l.self.definitions.now l.tables (map (spec.join_of l.self.definitions.now l.self.vars.now) (drop l.join-index l.joins)) l.done
    ≡ clause.joins_onto l.self.definitions.now l.initial.tables (map (spec.join_of l.self.definitions.now l.self.vars.now) l.joins) l.initial.done
