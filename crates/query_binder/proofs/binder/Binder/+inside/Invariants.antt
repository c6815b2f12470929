use Rattle.std.proofs.Common.{◌≡◌, map, drop}
use Rattle.clause_binder.specs.Bind as spec
use Rattle.clause_binder.specs.Progress as part
use Rattle.query_binder.proofs.binder.Binder.+inside.Given as goal

abbrev pub invariant-in_exprs-loop-item : goal.invariant-in_exprs-loop-item
invariant-in_exprs-loop-item l =
    part.all_onto l.done (map part.inside_of (map spec.read_of (map (spec.expr_of l.self.definitions.now l.self.vars.now) (drop l.item-index l.items))))
    ≡ part.all_onto l.initial.done (map part.inside_of (map spec.read_of (map (spec.expr_of l.self.definitions.now l.self.vars.now) (l.items))))

abbrev pub invariant-in_test-loop-test : goal.invariant-in_test-loop-test
invariant-in_test-loop-test l =
    part.all_onto l.done (map part.inside_of (map (spec.test_of l.self.definitions.now l.self.vars.now) (drop l.test-index l.rest)))
    ≡ part.all_onto l.initial.done (map part.inside_of (map (spec.test_of l.self.definitions.now l.self.vars.now) (l.rest)))

abbrev pub invariant-in_test-loop-test-2 : goal.invariant-in_test-loop-test-2
invariant-in_test-loop-test-2 l =
    part.all_onto l.done (map part.inside_of (map (spec.test_of l.self.definitions.now l.self.vars.now) (drop l.test-index l.rest)))
    ≡ part.all_onto l.initial.done (map part.inside_of (map (spec.test_of l.self.definitions.now l.self.vars.now) (l.rest)))

abbrev pub invariant-in_arms-loop-arm : goal.invariant-in_arms-loop-arm
invariant-in_arms-loop-arm l =
    part.all_onto l.done (map part.inside_of (map (spec.arm_of l.self.definitions.now l.self.vars.now) (drop l.arm-index l.arms)))
    ≡ part.all_onto l.initial.done (map part.inside_of (map (spec.arm_of l.self.definitions.now l.self.vars.now) (l.arms)))

abbrev pub invariant-in_factors-loop-factor : goal.invariant-in_factors-loop-factor
invariant-in_factors-loop-factor l =
    part.all_onto l.done (map spec.term_inside (map (spec.factor_of l.self.definitions.now l.self.vars.now) (drop l.factor-index l.factors)))
    ≡ part.all_onto l.initial.done (map spec.term_inside (map (spec.factor_of l.self.definitions.now l.self.vars.now) (l.factors)))

abbrev pub invariant-in_terms-loop-term : goal.invariant-in_terms-loop-term
invariant-in_terms-loop-term l =
    part.all_onto l.done (map spec.term_inside (map (spec.term_of l.self.definitions.now l.self.vars.now) (drop l.term-index l.terms)))
    ≡ part.all_onto l.initial.done (map spec.term_inside (map (spec.term_of l.self.definitions.now l.self.vars.now) (l.terms)))
