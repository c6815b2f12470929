-- What is well formed over the types of a row alone gives the same over any two settings of one row, by
-- induction over the tree.
use Rattle.std.proofs.Common.{◌≡◌, refl, sym, ap, ◌∙◌, subst, ℕ, Ok, List, [], ◌∷◌, map, Bool, true, false, ◌&&◌, IsTrue, Option, Some, None, if◌then◌else◌}
use Rattle.std.specs.List.{list_all}
use Rattle.value_types.specs.declared.value.Value.{Value}
use Rattle.value_types.specs.declared.sql_type.SqlType.{SqlType}
use Rattle.value_types.specs.declared.sql_type.SqlType.TheVariants.{Int}
use Rattle.convert_rules.specs.Conversion.{is_text}
use Rattle.bound_tree.specs.declared.truth.Truth.{Truth}
use Rattle.bound_tree.specs.declared.expr.InfixOp.{InfixOp}
use Rattle.bound_tree.specs.declared.expr.BoundExpr.{BoundExpr}
use Rattle.bound_tree.specs.declared.expr.BoundTest.{BoundTest}
use Rattle.bound_tree.specs.declared.expr.BoundArm.{BoundArm}
use Rattle.bound_tree.specs.declared.expr.BoundSide.{BoundSide}
use Rattle.bound_tree.specs.declared.expr.BoundExpr.TheOpen.{BoundExpr-F, BoundTest-F, BoundArm-F, BoundSide-F}
use Rattle.bound_tree.specs.declared.expr.BoundExpr.TheFolds.{ind-BoundExpr, ind-BoundTest, map-BoundExpr, map-BoundTest, fold-roll-BoundExpr, fold-roll-BoundTest, fold-roll-BoundArm, fold-roll-BoundSide}
use Rattle.bound_tree.specs.declared.expr.BoundExpr.TheViews.{roll-BoundExpr, roll-BoundTest, roll-BoundArm, roll-BoundSide}
use Rattle.bound_tree.specs.Outcomes.{Outcome, after}
use Rattle.bound_tree.specs.Numbers as numbers
use Rattle.bound_tree.specs.Texts as texts
use Rattle.bound_tree.specs.Conversions.{conversion}
use Rattle.bound_tree.specs.Comparisons.{compared, both, either}
use Rattle.bound_tree.specs.Truths.{not, truth_of}
use Rattle.bound_tree.specs.Setting.{Setting, value_at}
use Rattle.bound_tree.specs.Meaning as meaning
use Rattle.bound_tree.specs.Meaning.{ArmOutcome, SideOutcome}
use Rattle.bound_tree.specs.Typed as form
use Rattle.bound_tree.specs.Typed.{ArmFound, Found, unformed, lone_null, typed, SideFound, is_as, is_found, row_types}
use Rattle.bound_tree.proofs.Kept.{and_left, and_right}

-- ---- what is found of a node is found of its parts

as_found : (f : Found) (kind : SqlType) → IsTrue (is_as f kind) → IsTrue (is_found f)
as_found unformed kind h = h
as_found lone_null kind h = refl
as_found (typed of) kind h = refl

where_holds : (holds : Bool) (kind : SqlType) → IsTrue (is_found (form.found_where holds kind)) → IsTrue holds
where_holds true kind h = refl
where_holds false kind h = h

negated_found : (f : Found) → IsTrue (is_found (form.negated f)) → IsTrue (is_found f)
negated_found unformed h = h
negated_found lone_null h = refl
negated_found (typed kind) h = refl

or_int_found : (f : Found) → IsTrue (is_found (form.or_int f)) → IsTrue (is_found f)
or_int_found unformed h = h
or_int_found lone_null h = refl
or_int_found (typed kind) h = refl

left_found : (f g : Found) → IsTrue (is_found (form.common f g)) → IsTrue (is_found f)
left_found unformed g h = h
left_found lone_null g h = refl
left_found (typed kind) g h = refl

right_found : (f g : Found) → IsTrue (is_found (form.common f g)) → IsTrue (is_found g)
right_found unformed g h = cc
right_found lone_null g h = h
right_found (typed a) unformed h = h
right_found (typed a) lone_null h = refl
right_found (typed a) (typed b) h = refl

text_found : (f : Found) → IsTrue (form.is_as_text f) → IsTrue (is_found f)
text_found unformed h = h
text_found lone_null h = refl
text_found (typed kind) h = refl

side_formed : (kind : SqlType) (side : SideFound) → IsTrue (form.is_side kind side) → IsTrue (is_found side.1)
side_formed kind side h = by_found side.1 (and_right _ _ h)
  where
    by_found : (f : Found) → IsTrue (form.is_like f side.0) → IsTrue (is_found f)
    by_found unformed h = h
    by_found lone_null h = refl
    by_found (typed of) h = refl

-- texts that are joined
joined_found : (f g : Found) (kind : SqlType) → IsTrue (form.joins (form.found_size (form.beside f g)) (form.found_size (form.beside g f)) kind) → IsTrue (is_found f && is_found g)
joined_found unformed g kind h = cc
joined_found lone_null unformed kind h = cc
joined_found lone_null lone_null kind h = refl
joined_found lone_null (typed b) kind h = refl
joined_found (typed a) unformed kind h = by_size (form.found_size (typed a)) h
  where
    by_size : (n : Option ℕ) → IsTrue (form.joins n None kind) → IsTrue (is_found (typed a) && is_found unformed)
    by_size None h = cc
    by_size (Some n) h = cc
joined_found (typed a) lone_null kind h = refl
joined_found (typed a) (typed b) kind h = refl

infix_found : (op : InfixOp) (kind : SqlType) (f g : Found) → IsTrue (form.infix_fits op kind f g) → IsTrue (is_found f && is_found g)
infix_found op kind f g = by_test (is_text kind)
  where
    both_found : (f g : Found) → IsTrue (is_found (form.common f g)) → IsTrue (is_found f && is_found g)
    both_found unformed g h = h
    both_found lone_null g h = h
    both_found (typed a) unformed h = h
    both_found (typed a) lone_null h = refl
    both_found (typed a) (typed b) h = refl

    by_test : (is : Bool) → IsTrue (if is then form.is_add op && form.joins (form.found_size (form.beside f g)) (form.found_size (form.beside g f)) kind else form.is_whole kind && is_as (form.or_int (form.common f g)) kind)
        → IsTrue (is_found f && is_found g)
    by_test true h = joined_found f g kind (and_right _ _ h)
    by_test false h = both_found f g (or_int_found _ (as_found _ kind (and_right _ _ h)))

-- ---- trees

module _ (kinds : List SqlType) (a b : Setting) (same : a.row ≡ b.row) where
  abbrev types : form.SettingTypes
  types = row_types kinds

  abbrev P : BoundExpr → Type 0
  P e = IsTrue (is_found (form.found_of types e)) → meaning.value a e ≡ meaning.value b e

  abbrev T : BoundTest → Type 0
  T t = IsTrue (form.is_formed_test types t) → meaning.truth a t ≡ meaning.truth b t

  abbrev Q : BoundArm → Type 0
  Q arm = IsTrue ((form.arm_found types arm).0) → IsTrue (is_found ((form.arm_found types arm).1)) → meaning.arm_of a arm ≡ meaning.arm_of b arm

  abbrev S : BoundSide → Type 0
  S side = IsTrue (is_found ((form.side_found types side).1)) → meaning.side_of a side ≡ meaning.side_of b side

  abbrev ExprBelow : Type 0
  ExprBelow = BoundExpr-F ((e : BoundExpr) × P e) ((t : BoundTest) × T t) ((a : BoundArm) × Q a) ((s : BoundSide) × S s)

  abbrev TestBelow : Type 0
  TestBelow = BoundTest-F ((e : BoundExpr) × P e) ((t : BoundTest) × T t) ((a : BoundArm) × Q a) ((s : BoundSide) × S s)

  abbrev exprs_below : ExprBelow → BoundExpr-F BoundExpr BoundTest BoundArm BoundSide
  exprs_below = map-BoundExpr _ _ _ _ BoundExpr BoundTest BoundArm BoundSide (λ e. e.0) (λ e. e.0) (λ e. e.0) (λ e. e.0)

  abbrev tests_below : TestBelow → BoundTest-F BoundExpr BoundTest BoundArm BoundSide
  tests_below = map-BoundTest _ _ _ _ BoundExpr BoundTest BoundArm BoundSide (λ e. e.0) (λ e. e.0) (λ e. e.0) (λ e. e.0)

  abbrev expr_outcomes : Setting → BoundExpr-F BoundExpr BoundTest BoundArm BoundSide → BoundExpr-F (Outcome Value) (Outcome Truth) ArmOutcome SideOutcome
  expr_outcomes s = map-BoundExpr _ _ _ _ (Outcome Value) (Outcome Truth) ArmOutcome SideOutcome (meaning.value s) (meaning.truth s) (meaning.arm_of s) (meaning.side_of s)

  abbrev test_outcomes : Setting → BoundTest-F BoundExpr BoundTest BoundArm BoundSide → BoundTest-F (Outcome Value) (Outcome Truth) ArmOutcome SideOutcome
  test_outcomes s = map-BoundTest _ _ _ _ (Outcome Value) (Outcome Truth) ArmOutcome SideOutcome (meaning.value s) (meaning.truth s) (meaning.arm_of s) (meaning.side_of s)

  abbrev expr_found : BoundExpr-F BoundExpr BoundTest BoundArm BoundSide → BoundExpr-F Found Bool ArmFound SideFound
  expr_found = map-BoundExpr _ _ _ _ Found Bool ArmFound SideFound (form.found_of types) (form.is_formed_test types) (form.arm_found types) (form.side_found types)

  abbrev test_found : BoundTest-F BoundExpr BoundTest BoundArm BoundSide → BoundTest-F Found Bool ArmFound SideFound
  test_found = map-BoundTest _ _ _ _ Found Bool ArmFound SideFound (form.found_of types) (form.is_formed_test types) (form.arm_found types) (form.side_found types)

  items_alike : (items : List ((e : BoundExpr) × P e)) → IsTrue (is_found (form.common_of (map (form.found_of types) (map (λ p. p.0) items))))
      → map (meaning.value a) (map (λ p. p.0) items) ≡ map (meaning.value b) (map (λ p. p.0) items)
  items_alike [] h = refl
  items_alike (p ∷ rest) h =
      let first = p.1 (left_found _ _ h) in
      let behind = items_alike rest (right_found _ _ h) in
      ap (λ x. x ∷ map (meaning.value a) (map (λ p. p.0) rest)) first ∙ ap (λ xs. meaning.value b p.0 ∷ xs) behind

  arm_of_found : (holds : Bool) (f g : Found) → IsTrue (is_found (if holds then form.common f g else unformed)) → IsTrue holds × IsTrue (is_found f) × IsTrue (is_found g)
  arm_of_found true f g h = (refl, left_found f g h, right_found f g h)
  arm_of_found false f g h = cc

  arms_alike : (arms : List ((a : BoundArm) × Q a)) (g : Found) → IsTrue (is_found (form.arms_found (map (form.arm_found types) (map (λ p. p.0) arms)) g))
      → (map (meaning.arm_of a) (map (λ p. p.0) arms) ≡ map (meaning.arm_of b) (map (λ p. p.0) arms)) × IsTrue (is_found g)
  arms_alike [] g h = (refl, h)
  arms_alike (p ∷ rest) g h =
      let is = arm_of_found ((form.arm_found types p.0).0) _ _ h in
      let behind = arms_alike rest g is.2 in
      (ap (λ x. x ∷ map (meaning.arm_of a) (map (λ p. p.0) rest)) (p.1 is.0 is.1) ∙ ap (λ xs. meaning.arm_of b p.0 ∷ xs) behind.0, behind.1)

  sides_alike : (kind : SqlType) (sides : List ((s : BoundSide) × S s)) → IsTrue (list_all (form.is_side kind) (map (form.side_found types) (map (λ p. p.0) sides)))
      → map (meaning.side_of a) (map (λ p. p.0) sides) ≡ map (meaning.side_of b) (map (λ p. p.0) sides)
  sides_alike kind [] h = refl
  sides_alike kind (p ∷ rest) h =
      let first = p.1 (side_formed kind _ (and_left _ _ h)) in
      let behind = sides_alike kind rest (and_right _ _ h) in
      ap (λ x. x ∷ map (meaning.side_of a) (map (λ p. p.0) rest)) first ∙ ap (λ xs. meaning.side_of b p.0 ∷ xs) behind

  expr_alike : (y : ExprBelow) → IsTrue (is_found (form.expr_step types (expr_found (exprs_below y))))
      → meaning.expr_step a (expr_outcomes a (exprs_below y)) ≡ meaning.expr_step b (expr_outcomes b (exprs_below y))
  expr_alike (BoundExpr-F.Constant x) h = refl
  expr_alike (BoundExpr-F.Cell place) h = ap (λ row. Ok (value_at row place)) same
  expr_alike (BoundExpr-F.Variable place) h = cc
  expr_alike (BoundExpr-F.System of) h = cc
  expr_alike (BoundExpr-F.Negate kind x) h = ap (λ o. numbers.value_outcome (numbers.negation_of kind (numbers.number_outcome o))) (x.1 (negated_found _ (as_found _ kind (where_holds _ kind h))))
  expr_alike (BoundExpr-F.Infix op kind x y) h =
      let found = infix_found op kind _ _ (where_holds _ kind h) in
      ap (λ o. meaning.infix_of op kind o (meaning.value a y.0)) (x.1 (and_left _ _ found)) ∙ ap (meaning.infix_of op kind (meaning.value b x.0)) (y.1 (and_right _ _ found))
  expr_alike (BoundExpr-F.Convert from to x) h = ap (λ o. after o (conversion from to)) (x.1 (as_found _ from (where_holds _ to h)))
  expr_alike (BoundExpr-F.Case arms other) h =
      let found = arms_alike arms (form.found_of types other.0) (or_int_found _ h) in
      ap (λ o. after (meaning.chosen o) (λ x. meaning.or_else x (meaning.value a other.0))) found.0
      ∙ ap (λ o. after (meaning.chosen (map (meaning.arm_of b) (map (λ p. p.0) arms))) (λ x. meaning.or_else x o)) (other.1 found.1)
  expr_alike (BoundExpr-F.Coalesce items) h = ap meaning.first_known (items_alike items (or_int_found _ h))
  expr_alike (BoundExpr-F.NullIf kind x side) h =
      let holds = where_holds _ kind h in
      ap (λ o. meaning.null_if kind o (meaning.side_of a side.0)) (x.1 (as_found _ kind (and_left _ _ holds)))
      ∙ ap (meaning.null_if kind (meaning.value b x.0)) (side.1 (side_formed kind _ (and_right _ _ holds)))
  expr_alike (BoundExpr-F.Length x) h = ap (λ o. numbers.value_outcome (after o texts.length_of)) (x.1 (text_found _ (where_holds _ Int h)))
  expr_alike (BoundExpr-F.Scalar place) h = cc

  test_alike : (y : TestBelow) → IsTrue (form.test_step types (test_found (tests_below y)))
      → meaning.test_step a (test_outcomes a (tests_below y)) ≡ meaning.test_step b (test_outcomes b (tests_below y))
  test_alike (BoundTest-F.Compare op x y) h =
      ap (λ o. compared op o (meaning.value a y.0)) (x.1 (left_found _ _ h)) ∙ ap (compared op (meaning.value b x.0)) (y.1 (right_found _ _ h))
  test_alike (BoundTest-F.IsNull x) h = ap (λ o. after o (λ x. Ok (truth_of (meaning.is_null x)))) (x.1 h)
  test_alike (BoundTest-F.Between kind x low high) h =
      let sides = and_right _ _ h in
      ap (λ o. meaning.between kind o (meaning.side_of a low.0) (meaning.side_of a high.0)) (x.1 (as_found _ kind (and_left _ _ h)))
      ∙ ap (λ o. meaning.between kind (meaning.value b x.0) o (meaning.side_of a high.0)) (low.1 (side_formed kind _ (and_left _ _ sides)))
      ∙ ap (meaning.between kind (meaning.value b x.0) (meaning.side_of b low.0)) (high.1 (side_formed kind _ (and_right _ _ sides)))
  test_alike (BoundTest-F.InList kind x sides) h =
      ap (λ o. meaning.in_list kind o (map (meaning.side_of a) (map (λ p. p.0) sides))) (x.1 (as_found _ kind (and_left _ _ h)))
      ∙ ap (meaning.in_list kind (meaning.value b x.0)) (sides_alike kind sides (and_right _ _ h))
  test_alike (BoundTest-F.InQuery kind x other place) h = let none : false ≡ true = and_right (is_as (form.found_of types x.0) kind) false h in cc
  test_alike (BoundTest-F.Exists place) h = cc
  test_alike (BoundTest-F.And x y) h =
      ap (λ o. both o (meaning.truth a y.0)) (x.1 (and_left _ _ h)) ∙ ap (both (meaning.truth b x.0)) (y.1 (and_right _ _ h))
  test_alike (BoundTest-F.Or x y) h =
      ap (λ o. either o (meaning.truth a y.0)) (x.1 (and_left _ _ h)) ∙ ap (either (meaning.truth b x.0)) (y.1 (and_right _ _ h))
  test_alike (BoundTest-F.Not x) h = ap (λ o. after o (λ x. Ok (not x))) (x.1 h)

  expr_of : (s : Setting) (z : BoundExpr-F BoundExpr BoundTest BoundArm BoundSide) → meaning.value s (roll-BoundExpr z) ≡ meaning.expr_step s (expr_outcomes s z)
  expr_of s z = fold-roll-BoundExpr (Outcome Value) (Outcome Truth) ArmOutcome SideOutcome (meaning.expr_step s) (meaning.test_step s) (meaning.arm_step s) (meaning.side_step s) z

  test_of : (s : Setting) (z : BoundTest-F BoundExpr BoundTest BoundArm BoundSide) → meaning.truth s (roll-BoundTest z) ≡ meaning.test_step s (test_outcomes s z)
  test_of s z = fold-roll-BoundTest (Outcome Value) (Outcome Truth) ArmOutcome SideOutcome (meaning.expr_step s) (meaning.test_step s) (meaning.arm_step s) (meaning.side_step s) z

  expr_layer : (y : ExprBelow) → P (roll-BoundExpr (exprs_below y))
  expr_layer y h =
      let step = fold-roll-BoundExpr Found Bool ArmFound SideFound (form.expr_step types) (form.test_step types) (form.arm_step types) (form.side_step types) (exprs_below y) in
      expr_of a (exprs_below y) ∙ expr_alike y (subst (λ f. IsTrue (is_found f)) step h) ∙ sym (expr_of b (exprs_below y))

  test_layer : (y : TestBelow) → T (roll-BoundTest (tests_below y))
  test_layer y h =
      let step = fold-roll-BoundTest Found Bool ArmFound SideFound (form.expr_step types) (form.test_step types) (form.arm_step types) (form.side_step types) (tests_below y) in
      test_of a (tests_below y) ∙ test_alike y (subst IsTrue step h) ∙ sym (test_of b (tests_below y))

  arm_layer : (t : BoundTest) (e : BoundExpr) → T t → P e → Q (roll-BoundArm (record { test = t; gives = e }))
  arm_layer t e p q h k =
      let z : BoundArm-F BoundExpr BoundTest BoundArm BoundSide = record { test = t; gives = e } in
      let found = fold-roll-BoundArm Found Bool ArmFound SideFound (form.expr_step types) (form.test_step types) (form.arm_step types) (form.side_step types) z in
      let first = p (subst (λ f. IsTrue f.0) found h) in
      let second = q (subst (λ f. IsTrue (is_found f.1)) found k) in
      arm_of a ∙ ap (λ o. (o, meaning.value a e)) first ∙ ap (λ o. (meaning.truth b t, o)) second ∙ sym (arm_of b)
    where
      arm_of : (s : Setting) → meaning.arm_of s (roll-BoundArm (record { test = t; gives = e })) ≡ (meaning.truth s t, meaning.value s e)
      arm_of s = fold-roll-BoundArm (Outcome Value) (Outcome Truth) ArmOutcome SideOutcome (meaning.expr_step s) (meaning.test_step s) (meaning.arm_step s) (meaning.side_step s) (record { test = t; gives = e })

  side_layer : (kind : SqlType) (e : BoundExpr) → P e → S (roll-BoundSide (record { pair = kind; expr = e }))
  side_layer kind e q h =
      let z : BoundSide-F BoundExpr BoundTest BoundArm BoundSide = record { pair = kind; expr = e } in
      let found = fold-roll-BoundSide Found Bool ArmFound SideFound (form.expr_step types) (form.test_step types) (form.arm_step types) (form.side_step types) z in
      side_of a ∙ ap (λ o. (kind, o)) (q (subst (λ f. IsTrue (is_found f.1)) found h)) ∙ sym (side_of b)
    where
      side_of : (s : Setting) → meaning.side_of s (roll-BoundSide (record { pair = kind; expr = e })) ≡ (kind, meaning.value s e)
      side_of s = fold-roll-BoundSide (Outcome Value) (Outcome Truth) ArmOutcome SideOutcome (meaning.expr_step s) (meaning.test_step s) (meaning.arm_step s) (meaning.side_step s) (record { pair = kind; expr = e })

  value_alike : (e : BoundExpr) → P e
  value_alike = ind-BoundExpr P T Q S
      (λ x y is. subst (λ z. P (roll-BoundExpr z)) is (expr_layer y))
      (λ x y is. subst (λ z. T (roll-BoundTest z)) is (test_layer y))
      (λ x y is. subst (λ z. Q (roll-BoundArm z)) is (arm_layer y.test.0 y.gives.0 y.test.1 y.gives.1))
      (λ x y is. subst (λ z. S (roll-BoundSide z)) is (side_layer y.pair y.expr.0 y.expr.1))

  pub truth_alike : (t : BoundTest) → T t
  truth_alike = ind-BoundTest P T Q S
      (λ x y is. subst (λ z. P (roll-BoundExpr z)) is (expr_layer y))
      (λ x y is. subst (λ z. T (roll-BoundTest z)) is (test_layer y))
      (λ x y is. subst (λ z. Q (roll-BoundArm z)) is (arm_layer y.test.0 y.gives.0 y.test.1 y.gives.1))
      (λ x y is. subst (λ z. S (roll-BoundSide z)) is (side_layer y.pair y.expr.0 y.expr.1))

  pub formed_alike : (e : BoundExpr) (kind : SqlType) → IsTrue (form.is_formed types e kind) → meaning.value a e ≡ meaning.value b e
  formed_alike e kind h = value_alike e (as_found _ kind h)
