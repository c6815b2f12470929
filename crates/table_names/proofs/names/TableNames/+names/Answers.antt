use Rattle.std.proofs.Common.{◌≡◌, map, rules}
use Rattle.tsql_tree.specs.declared.query.Expr.{the_lemmas}
use Rattle.table_names.specs.Contents as spec
use Rattle.table_names.proofs.Noted.{distinct_append, noted_all, noted_more}
use Rattle.table_names.proofs.names.TableNames.+names.Goals as goal

pub note_arms-loop-arm-preserved : goal.note_arms-loop-arm-preserved
note_arms-loop-arm-preserved t c =
    let noted : c.note_expr.new.self ≡ spec.distinct_onto c.loop-arm.self (spec.in_arm c.arm-item.result) = search (rules, the_lemmas, distinct_append) in
    noted_more spec.in_arm c.args.arms.now c.loop-arm.arm-index c.arm-item.result _ _ _ c.loop-arm-test.true c.arm-item.is noted c.loop-arm.invariant

pub note_expr-loop-factor-preserved : goal.note_expr-loop-factor-preserved
note_expr-loop-factor-preserved t c =
    let noted : c.note_expr-in-loop-factor.new.self ≡ spec.distinct_onto c.loop-factor.self (spec.in_factor c.factor-item.result) = search (rules, the_lemmas, distinct_append) in
    noted_more spec.in_factor c.as_slice-factors.result.now c.loop-factor.factor-index c.factor-item.result _ _ _ c.loop-factor-test.true c.factor-item.is noted c.loop-factor.invariant

pub note_expr-loop-term-preserved : goal.note_expr-loop-term-preserved
note_expr-loop-term-preserved t c =
    let noted : c.note_expr-in-loop-term.new.self ≡ spec.distinct_onto c.loop-term.self (spec.in_term c.term-item.result) = search (rules, the_lemmas, distinct_append) in
    noted_more spec.in_term c.as_slice-terms.result.now c.loop-term.term-index c.term-item.result _ _ _ c.loop-term-test.true c.term-item.is noted c.loop-term.invariant

pub note_expr-returns-in-Some : goal.note_expr-returns-in-Some
note_expr-returns-in-Some t c = search (rules, the_lemmas, distinct_append)

pub note_expr-returns-in_ok-note_expr-in-IsNull : goal.note_expr-returns-in_ok-note_expr-in-IsNull
note_expr-returns-in_ok-note_expr-in-IsNull t c = search (rules, the_lemmas, distinct_append)

pub note_expr-returns-in_ok-note_expr-in-NullIf : goal.note_expr-returns-in_ok-note_expr-in-NullIf
note_expr-returns-in_ok-note_expr-in-NullIf t c = search (rules, the_lemmas, distinct_append)

pub note_expr-returns-after-loop-factor : goal.note_expr-returns-after-loop-factor
note_expr-returns-after-loop-factor t c =
    let all : c.loop-factor.self ≡ spec.distinct_onto c.note_expr-in-Product.new.self (spec.all_of (map spec.in_factor c.as_slice-factors.result.now)) = noted_all spec.in_factor c.as_slice-factors.result.now c.loop-factor.factor-index _ _ c.loop-factor-test.false c.loop-factor.invariant in
    search (rules, the_lemmas, distinct_append, all)

pub note_expr-returns-after-loop-term : goal.note_expr-returns-after-loop-term
note_expr-returns-after-loop-term t c =
    let all : c.loop-term.self ≡ spec.distinct_onto c.note_expr-in-Sum.new.self (spec.all_of (map spec.in_term c.as_slice-terms.result.now)) = noted_all spec.in_term c.as_slice-terms.result.now c.loop-term.term-index _ _ c.loop-term-test.false c.loop-term.invariant in
    search (rules, the_lemmas, distinct_append, all)

pub note_exprs-loop-item-preserved : goal.note_exprs-loop-item-preserved
note_exprs-loop-item-preserved t c =
    let noted : c.note_expr.new.self ≡ spec.distinct_onto c.loop-item.self (spec.in_expr c.item-item.result) = search (rules, the_lemmas, distinct_append) in
    noted_more spec.in_expr c.args.items.now c.loop-item.item-index c.item-item.result _ _ _ c.loop-item-test.true c.item-item.is noted c.loop-item.invariant

pub note_from-loop-join-preserved : goal.note_from-loop-join-preserved
note_from-loop-join-preserved t c =
    let noted : c.note_join.new.self ≡ spec.distinct_onto c.loop-join.self (spec.in_join c.join-item.result) = search (rules, the_lemmas, distinct_append) in
    noted_more spec.in_join c.as_slice-joins.result.now c.loop-join.join-index c.join-item.result _ _ _ c.loop-join-test.true c.join-item.is noted c.loop-join.invariant

pub note_from-returns-after-loop-join : goal.note_from-returns-after-loop-join
note_from-returns-after-loop-join t c =
    let all : c.loop-join.self ≡ spec.distinct_onto c.note.new.self (spec.all_of (map spec.in_join c.as_slice-joins.result.now)) = noted_all spec.in_join c.as_slice-joins.result.now c.loop-join.join-index _ _ c.loop-join-test.false c.loop-join.invariant in
    search (rules, the_lemmas, distinct_append, all)

pub note_select-loop-item-preserved : goal.note_select-loop-item-preserved
note_select-loop-item-preserved t c =
    let noted : c.note_item.new.self ≡ spec.distinct_onto c.loop-item.self (spec.in_item c.item-item.result) = search (rules, the_lemmas, distinct_append) in
    noted_more spec.in_item c.as_slice-items.result.now c.loop-item.item-index c.item-item.result _ _ _ c.loop-item-test.true c.item-item.is noted c.loop-item.invariant

pub note_select-loop-key-preserved : goal.note_select-loop-key-preserved
note_select-loop-key-preserved t c =
    let noted : c.note_expr.new.self ≡ spec.distinct_onto c.loop-key.self (spec.in_order c.key-item.result) = search (rules, the_lemmas, distinct_append) in
    noted_more spec.in_order c.as_slice-order.result.now c.loop-key.key-index c.key-item.result _ _ _ c.loop-key-test.true c.key-item.is noted c.loop-key.invariant

pub note_select-returns : goal.note_select-returns
note_select-returns t c =
    let items = noted_all spec.in_item c.as_slice-items.result.now c.loop-item.item-index _ _ c.loop-item-test.false c.loop-item.invariant in
    let order = noted_all spec.in_order c.as_slice-order.result.now c.loop-key.key-index _ _ c.loop-key-test.false c.loop-key.invariant in
    search (rules, the_lemmas, distinct_append, items, order)

pub note_test-loop-test-preserved : goal.note_test-loop-test-preserved
note_test-loop-test-preserved t c =
    let noted : c.note_test-in-loop-test.new.self ≡ spec.distinct_onto c.loop-test.self (spec.in_test c.test-item.result) = search (rules, the_lemmas, distinct_append) in
    noted_more spec.in_test c.as_slice-rest.result.now c.loop-test.test-index c.test-item.result _ _ _ c.loop-test-test.true c.test-item.is noted c.loop-test.invariant

pub note_test-loop-test-2-preserved : goal.note_test-loop-test-2-preserved
note_test-loop-test-2-preserved t c =
    let noted : c.note_test-in-loop-test-2.new.self ≡ spec.distinct_onto c.loop-test-2.self (spec.in_test c.test-item-in-loop-test-2.result) = search (rules, the_lemmas, distinct_append) in
    noted_more spec.in_test c.as_slice-rest-in-Or.result.now c.loop-test-2.test-index c.test-item-in-loop-test-2.result _ _ _ c.loop-test-2-test.true c.test-item-in-loop-test-2.is noted c.loop-test-2.invariant

pub note_test-returns-in_ok-note_expr-in-Compare : goal.note_test-returns-in_ok-note_expr-in-Compare
note_test-returns-in_ok-note_expr-in-Compare t c = search (rules, the_lemmas, distinct_append)

pub note_test-returns-in_ok-note_expr-in-Between-2 : goal.note_test-returns-in_ok-note_expr-in-Between-2
note_test-returns-in_ok-note_expr-in-Between-2 t c = search (rules, the_lemmas, distinct_append)

pub note_test-returns-in_ok-note_expr-in-InQuery : goal.note_test-returns-in_ok-note_expr-in-InQuery
note_test-returns-in_ok-note_expr-in-InQuery t c = search (rules, the_lemmas, distinct_append)

pub note_test-returns-in_ok-note_expr-in-InList : goal.note_test-returns-in_ok-note_expr-in-InList
note_test-returns-in_ok-note_expr-in-InList t c = search (rules, the_lemmas, distinct_append)

pub note_test-returns-after-loop-test : goal.note_test-returns-after-loop-test
note_test-returns-after-loop-test t c =
    let all : c.loop-test.self ≡ spec.distinct_onto c.note_test-in-And.new.self (spec.all_of (map spec.in_test c.as_slice-rest.result.now)) = noted_all spec.in_test c.as_slice-rest.result.now c.loop-test.test-index _ _ c.loop-test-test.false c.loop-test.invariant in
    search (rules, the_lemmas, distinct_append, all)

pub note_test-returns-after-loop-test-2 : goal.note_test-returns-after-loop-test-2
note_test-returns-after-loop-test-2 t c =
    let all : c.loop-test-2.self ≡ spec.distinct_onto c.note_test-in-Or.new.self (spec.all_of (map spec.in_test c.as_slice-rest-in-Or.result.now)) = noted_all spec.in_test c.as_slice-rest-in-Or.result.now c.loop-test-2.test-index _ _ c.loop-test-2-test.false c.loop-test-2.invariant in
    search (rules, the_lemmas, distinct_append, all)
