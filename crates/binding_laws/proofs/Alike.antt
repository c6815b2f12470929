-- Over two lists of what may be read that have one row, the same is found of a node where it is of its parts.
use Rattle.std.proofs.Common.{◌≡◌, refl, sym, ap, ◌∙◌, subst, ℕ, zero, suc, List, [], ◌∷◌, map, length, ℤ, Bool, true, false, ◌&&◌, nat_le, slice_get, Option, Some, None, Ok, Err, if◌then◌else◌}
use Rattle.std.specs.List.{list_all}
use Rattle.value_types.specs.declared.sql_type.SqlType.{SqlType}
use Rattle.value_types.specs.declared.sql_type.SqlType.TheVariants.{Int, Bit as BitType}
use Rattle.value_types.specs.declared.value.Value.{Value}
use Rattle.value_types.specs.declared.value.Value.TheVariants.{Null, Whole, Text}
use Rattle.bound_tree.specs.declared.expr.InfixOp.{InfixOp}
use Rattle.bound_tree.specs.declared.expr.CompareOp.{CompareOp}
use Rattle.bound_tree.specs.declared.expr.BoundExpr.{BoundExpr}
use Rattle.bound_tree.specs.declared.expr.BoundExpr.TheVariants as bound
use Rattle.bound_tree.specs.declared.expr.BoundExpr.TheFolds.{fold-roll-BoundArm, fold-roll-BoundSide}
use Rattle.bound_tree.specs.declared.expr.BoundSide.{BoundSide}
use Rattle.bound_tree.specs.declared.expr.BoundTest.{BoundTest}
use Rattle.bound_tree.specs.declared.expr.BoundTest.TheVariants as test
use Rattle.bound_tree.specs.Typed as form
use Rattle.bound_tree.specs.Typed.{ArmFound, Found, SettingTypes, SideFound, arm_found, arms_found, common, common_of, found_at, found_of, found_where, infix_fits, is_as, is_as_text, is_found, is_formed_test, is_side, negated, or_int as found_or_int, side_found}
use Rattle.typed_nodes.specs.declared.facts.Facts.{Facts}
use Rattle.typed_nodes.specs.declared.expr.TypedArm.{TypedArm}
use Rattle.typed_nodes.specs.declared.expr.TypedExpr.{TypedExpr}
use Rattle.typed_nodes.specs.declared.test.Junction.{Junction}
use Rattle.typed_nodes.specs.declared.test.Junction.TheVariants.{And, Or}
use Rattle.typed_nodes.specs.declared.test.TypedTest.{TypedTest}
use Rattle.typed_nodes.specs.Facts.{alone, beside, deeper, highest_of, max_depth, no_facts, or_int, outside}
use Rattle.typed_nodes.specs.Nodes as node
use Rattle.typed_nodes.specs.Nodes.{arm_to, arms_facts_onto, as_number, converted, converted_from, facts_onto, infix_kind, is_bit, is_null_kind, is_within, kept, negative_kind, negative_to, pair_kind, side_kind, side_of, text_from}
use Rattle.typed_nodes.specs.Refusals.{Outcome, after}
use Rattle.typed_nodes.specs.Tests as tests
use Rattle.query_laws.specs.Laws.{AllOf}
use Rattle.query_laws.proofs.FormedNodes.{found_constant, found_cell, found_negate, found_infix, found_conversion, found_case, found_coalesce, found_null_if, found_length, test_compare, test_is_null, test_between, test_in_list, test_and, test_or, test_not}

arm_roll : (types : SettingTypes) (t : BoundTest) (e : BoundExpr) → arm_found types (record { test = t; gives = e }) ≡ (is_formed_test types t, found_of types e)
arm_roll types t e = fold-roll-BoundArm Found Bool ArmFound SideFound (form.expr_step types) (form.test_step types) (form.arm_step types) (form.side_step types) (record { test = t; gives = e })

side_roll : (types : SettingTypes) (pair : SqlType) (e : BoundExpr) → side_found types (record { pair = pair; expr = e }) ≡ (pair, found_of types e)
side_roll types pair e = fold-roll-BoundSide Found Bool ArmFound SideFound (form.expr_step types) (form.test_step types) (form.arm_step types) (form.side_step types) (record { pair = pair; expr = e })

module _ (one two : SettingTypes) where
  -- ---- trees

  abbrev Same : BoundExpr → Type 0
  Same e = found_of one e ≡ found_of two e

  abbrev pub SameTest : BoundTest → Type 0
  SameTest t = is_formed_test one t ≡ is_formed_test two t

  same_where : (b : Bool) (e d : BoundExpr) → Same e → Same d → Same (if b then e else d)
  same_where true e d h g = h
  same_where false e d h g = g

  -- one of the two, by whatever test
  same_one : (b : Bool) (e d x : BoundExpr) → x ≡ (if b then e else d) → Same e → Same d → Same x
  same_one b e d x is h g = subst Same (sym is) (same_where b e d h g)

  constant_same : (x : Value) → Same (bound.Constant x)
  constant_same x = found_constant one x ∙ sym (found_constant two x)

  cell_same : (place : ℕ) → one.row ≡ two.row → Same (bound.Cell place)
  cell_same place same = found_cell one place ∙ ap (λ row. found_at (slice_get row place)) same ∙ sym (found_cell two place)

  kept_same : (depth : ℕ) (e : BoundExpr) → Same e → Same (kept depth e)
  kept_same depth e h = same_where (nat_le depth max_depth) e node.null h (constant_same Null)

  convert_same : (from to : SqlType) (e : BoundExpr) → Same e → Same (bound.Convert from to e)
  convert_same from to e h = found_conversion one from to e ∙ ap (λ f. found_where (is_as f from) to) h ∙ sym (found_conversion two from to e)

  from_same : (from : Option SqlType) (to : SqlType) (e : BoundExpr) → Same e → Same (converted_from from to e)
  from_same None to e h = h
  from_same (Some from) to e h = same_where (is_within from to) e (bound.Convert from to e) h (convert_same from to e h)

  -- ---- expressions

  abbrev pub AlikeExpr : TypedExpr → Type 0
  AlikeExpr a = Same a.expr

  abbrev pub AlikeOutcome : Outcome TypedExpr → Type 0
  AlikeOutcome (Ok a) = AlikeExpr a
  AlikeOutcome (Err refusal) = Unit {0}

  pub alike_where : (b : Bool) (a c : TypedExpr) → AlikeExpr a → AlikeExpr c → AlikeExpr (if b then a else c)
  alike_where true a c h g = h
  alike_where false a c h g = g

  -- one of the two, by whatever test
  pub alike_one : (b : Bool) (a c x : TypedExpr) → x ≡ (if b then a else c) → AlikeExpr a → AlikeExpr c → AlikeExpr x
  alike_one b a c x is h g = subst AlikeExpr (sym is) (alike_where b a c h g)

  pub alike_after : {A : Type 0} (o : Outcome A) (next : A → Outcome TypedExpr) → ((x : A) → AlikeOutcome (next x)) → AlikeOutcome (after o next)
  alike_after (Ok x) next h = h x
  alike_after (Err refusal) next h = tt

  node_alike : (parts : Facts) (kind : SqlType) (e : BoundExpr) → Same e → AlikeExpr (node.node parts kind e)
  node_alike parts kind e h = kept_same (deeper parts.depth) e h

  pub null_alike : (facts : Facts) → AlikeExpr (node.with_facts facts node.null)
  null_alike facts = kept_same facts.depth node.null (constant_same Null)

  pub cell_alike : (facts : Facts) (place : ℕ) → one.row ≡ two.row → AlikeExpr (node.with_facts facts (bound.Cell place))
  cell_alike facts place same = kept_same facts.depth (bound.Cell place) (cell_same place same)

  pub number_alike : (n : ℤ) → AlikeExpr (node.number_expr n)
  number_alike n = kept_same 1 (bound.Constant (Whole n)) (constant_same (Whole n))

  pub text_alike : (units : List ℕ) → AlikeExpr (node.text_expr units)
  text_alike units = alike_one _ (node.leaf (node.text_kind (length units)) (bound.Constant (Text units))) (node.with_facts (outside (alone (Some (node.text_kind (length units))))) node.null) (node.text_expr units) refl
      (kept_same 1 (bound.Constant (Text units)) (constant_same (Text units))) (null_alike (outside (alone (Some (node.text_kind (length units))))))

  pub cast_alike : (to : SqlType) (a : TypedExpr) → AlikeExpr a → AlikeExpr (node.cast_expr to a)
  cast_alike to a h = kept_same _ (bound.Convert (or_int a.facts.kind) to a.expr) (convert_same (or_int a.facts.kind) to a.expr h)

  as_number_alike : (a : TypedExpr) → AlikeExpr a → AlikeExpr (as_number a)
  as_number_alike a h = alike_where (is_bit a.facts.kind) _ a (convert_same BitType Int a.expr h) h

  converted_same : (to : SqlType) (a : TypedExpr) → AlikeExpr a → Same (converted to a)
  converted_same to a h = from_same a.facts.kind to a.expr h

  pub infix_alike : (op : InfixOp) (a b : TypedExpr) → AlikeExpr a → AlikeExpr b → AlikeOutcome (node.infix_expr op a b)
  infix_alike op a b h g = of_numbers (as_number a) (as_number b) (as_number_alike a h) (as_number_alike b g)
    where
      of_numbers : (x y : TypedExpr) → AlikeExpr x → AlikeExpr y → AlikeOutcome (node.infix_of_numbers op x y)
      of_numbers x y h g = to_kind (or_int (highest_of x.facts.kind y.facts.kind))
        where
          to_kind : (to : SqlType) → AlikeOutcome (node.infix_to op to x y)
          to_kind to = alike_after (infix_kind op to x.facts.kind y.facts.kind) _ (λ kind. node_alike (beside x.facts y.facts) kind (bound.Infix op kind (converted to x) (converted to y))
              (found_infix one op kind (converted to x) (converted to y)
              ∙ ap (λ f. found_where (infix_fits op kind f (found_of one (converted to y))) kind) (converted_same to x h)
              ∙ ap (λ f. found_where (infix_fits op kind (found_of two (converted to x)) f) kind) (converted_same to y g)
              ∙ sym (found_infix two op kind (converted to x) (converted to y))))

  pub negative_alike : (a : TypedExpr) → AlikeExpr a → AlikeOutcome (node.negative_expr a)
  negative_alike a h = of_number (as_number a) (as_number_alike a h)
    where
      of_number : (x : TypedExpr) → AlikeExpr x → AlikeOutcome (node.negative_of_number x)
      of_number x h = to_kind (negative_kind (or_int x.facts.kind))
        where
          to_kind : (to : Option SqlType) → AlikeOutcome (negative_to to x)
          to_kind None = tt
          to_kind (Some kind) = node_alike x.facts kind (bound.Negate kind x.expr) (found_negate one kind x.expr ∙ ap (λ f. found_where (is_as (negated f) kind) kind) h ∙ sym (found_negate two kind x.expr))

  pub length_alike : (a : TypedExpr) → AlikeExpr a → AlikeExpr (node.length_expr a)
  length_alike a h = node_alike a.facts Int (bound.Length (text_from a.facts.kind a.expr))
      (found_length one (text_from a.facts.kind a.expr) ∙ ap (λ f. found_where (is_as_text f) Int) (of_kind a.facts.kind) ∙ sym (found_length two (text_from a.facts.kind a.expr)))
    where
      of_kind : (kind : Option SqlType) → Same (text_from kind a.expr)
      of_kind None = h
      of_kind (Some kind) = same_one _ a.expr (bound.Convert kind node.digits_kind a.expr) (text_from (Some kind) a.expr) refl h (convert_same kind node.digits_kind a.expr h)

  coalesce_same : (items : List BoundExpr) → map (found_of one) items ≡ map (found_of two) items → Same (bound.Coalesce items)
  coalesce_same items h = found_coalesce one items ∙ ap (λ fs. found_or_int (common_of fs)) h ∙ sym (found_coalesce two items)

  converted_all : (to : SqlType) (items : List TypedExpr) → AllOf AlikeExpr items → map (found_of one) (map (converted to) items) ≡ map (found_of two) (map (converted to) items)
  converted_all to [] h = refl
  converted_all to (a ∷ rest) h = ap (λ f. f ∷ map (found_of one) (map (converted to) rest)) (converted_same to a h.0) ∙ ap (λ fs. found_of two (converted to a) ∷ fs) (converted_all to rest h.1)

  pub is_null_alike : (a b : TypedExpr) → AlikeExpr a → AlikeExpr b → AlikeExpr (node.is_null_expr a b)
  is_null_alike a b h g = to_kind (is_null_kind a.facts.kind b.facts.kind)
    where
      to_kind : (to : SqlType) → AlikeExpr (node.is_null_to to a b)
      to_kind to = node_alike (beside a.facts b.facts) to (bound.Coalesce (converted to a ∷ converted to b ∷ [])) (coalesce_same (converted to a ∷ converted to b ∷ []) (converted_all to (a ∷ b ∷ []) (h, (g, tt))))

  pub coalesce_alike : (items : List TypedExpr) → AllOf AlikeExpr items → AlikeExpr (node.coalesce_expr items)
  coalesce_alike items h = of_parts (facts_onto no_facts items)
    where
      of_parts : (parts : Facts) → AlikeExpr (node.coalesce_to parts items)
      of_parts parts = node_alike parts (or_int parts.kind) (bound.Coalesce (map (converted (or_int parts.kind)) items)) (coalesce_same (map (converted (or_int parts.kind)) items) (converted_all (or_int parts.kind) items h))

  side_same : (first : Option SqlType) (a : TypedExpr) → AlikeExpr a → side_found one (side_of first a) ≡ side_found two (side_of first a)
  side_same first a h = let pair = pair_kind first a.facts.kind in
      side_roll one pair (converted pair a) ∙ ap (λ f. (pair, f)) (converted_same pair a h) ∙ sym (side_roll two pair (converted pair a))

  pub null_if_alike : (a b : TypedExpr) → AlikeExpr a → AlikeExpr b → AlikeExpr (node.null_if_expr a b)
  null_if_alike a b h g = node_alike (beside a.facts b.facts) kind (bound.NullIf kind a.expr side)
      (found_null_if one kind a.expr side
      ∙ ap (λ f. found_where (is_as f kind && is_side kind (side_found one side)) kind) h
      ∙ ap (λ f. found_where (is_as (found_of two a.expr) kind && is_side kind f) kind) (side_same a.facts.kind b g)
      ∙ sym (found_null_if two kind a.expr side))
    where
      kind : SqlType
      kind = is_null_kind a.facts.kind b.facts.kind

      side : BoundSide
      side = side_of a.facts.kind b

  -- ---- CASE

  abbrev pub AlikeTest : TypedTest → Type 0
  AlikeTest a = SameTest a.test

  abbrev pub AlikeArm : TypedArm → Type 0
  AlikeArm arm = AlikeTest arm.test × AlikeExpr arm.gives

  arms_same : (to : SqlType) (arms : List TypedArm) → AllOf AlikeArm arms → map (arm_found one) (map (arm_to to) arms) ≡ map (arm_found two) (map (arm_to to) arms)
  arms_same to [] h = refl
  arms_same to (arm ∷ rest) h =
      ap (λ f. f ∷ map (arm_found one) (map (arm_to to) rest)) (arm_roll one arm.test.test (converted to arm.gives) ∙ ap (λ t. (t, found_of one (converted to arm.gives))) h.0.0 ∙ ap (λ f. (is_formed_test two arm.test.test, f)) (converted_same to arm.gives h.0.1)
      ∙ sym (arm_roll two arm.test.test (converted to arm.gives)))
      ∙ ap (λ fs. arm_found two (arm_to to arm) ∷ fs) (arms_same to rest h.1)

  pub case_alike : (arms : List TypedArm) (other : TypedExpr) → AllOf AlikeArm arms → AlikeExpr other → AlikeExpr (node.case_expr arms other)
  case_alike arms other h g = of_parts (beside (arms_facts_onto no_facts arms) other.facts)
    where
      of_parts : (parts : Facts) → AlikeExpr (node.case_to parts arms other)
      of_parts parts = let to = or_int parts.kind in
          node_alike parts to (bound.Case (map (arm_to to) arms) (converted to other))
          (found_case one (map (arm_to to) arms) (converted to other)
          ∙ ap (λ fs. found_or_int (arms_found fs (found_of one (converted to other)))) (arms_same to arms h)
          ∙ ap (λ f. found_or_int (arms_found (map (arm_found two) (map (arm_to to) arms)) f)) (converted_same to other g)
          ∙ sym (found_case two (map (arm_to to) arms) (converted to other)))

  -- ---- tests

  is_null_same : (e : BoundExpr) → Same e → SameTest (test.IsNull e)
  is_null_same e h = test_is_null one e ∙ ap is_found h ∙ sym (test_is_null two e)

  pub test_alike : (parts : Facts) (t : BoundTest) → SameTest t → AlikeTest (tests.test_node parts t)
  test_alike parts t h = by_depth (nat_le (deeper parts.depth) max_depth)
    where
      by_depth : (b : Bool) → SameTest (if b then t else test.IsNull node.null)
      by_depth true = h
      by_depth false = is_null_same node.null (constant_same Null)

  pub null_test_alike : (facts : Facts) → AlikeTest (tests.test_node facts (test.IsNull node.null))
  null_test_alike facts = test_alike facts (test.IsNull node.null) (is_null_same node.null (constant_same Null))

  pub negated_alike : (negative : Bool) (a : TypedTest) → AlikeTest a → AlikeTest (tests.negated_where negative a)
  negated_alike true a h = test_alike a.facts (test.Not a.test) (test_not one a.test ∙ h ∙ sym (test_not two a.test))
  negated_alike false a h = h

  pub compare_alike : (op : CompareOp) (a b : TypedExpr) → AlikeExpr a → AlikeExpr b → AlikeTest (tests.compare_test op a b)
  compare_alike op a b h g = to_kind (pair_kind a.facts.kind b.facts.kind)
    where
      to_kind : (to : SqlType) → AlikeTest (tests.compare_to op to a b)
      to_kind to = test_alike (beside a.facts b.facts) (test.Compare op (converted to a) (converted to b))
          (test_compare one op (converted to a) (converted to b)
          ∙ ap (λ f. is_found (common f (found_of one (converted to b)))) (converted_same to a h)
          ∙ ap (λ f. is_found (common (found_of two (converted to a)) f)) (converted_same to b g)
          ∙ sym (test_compare two op (converted to a) (converted to b)))

  pub is_null_test_alike : (a : TypedExpr) → AlikeExpr a → AlikeTest (tests.is_null_test a)
  is_null_test_alike a h = test_alike a.facts (test.IsNull a.expr) (is_null_same a.expr h)

  pub between_alike : (a low high : TypedExpr) → AlikeExpr a → AlikeExpr low → AlikeExpr high → AlikeTest (tests.between_test a low high)
  between_alike a low high h g f = test_alike (beside a.facts (beside low.facts high.facts)) (test.Between kind a.expr (side_of a.facts.kind low) (side_of a.facts.kind high))
      (test_between one kind a.expr (side_of a.facts.kind low) (side_of a.facts.kind high)
      ∙ ap (λ x. is_as x kind && (is_side kind (side_found one (side_of a.facts.kind low)) && is_side kind (side_found one (side_of a.facts.kind high)))) h
      ∙ ap (λ x. is_as (found_of two a.expr) kind && (is_side kind x && is_side kind (side_found one (side_of a.facts.kind high)))) (side_same a.facts.kind low g)
      ∙ ap (λ x. is_as (found_of two a.expr) kind && (is_side kind (side_found two (side_of a.facts.kind low)) && is_side kind x)) (side_same a.facts.kind high f)
      ∙ sym (test_between two kind a.expr (side_of a.facts.kind low) (side_of a.facts.kind high)))
    where
      kind : SqlType
      kind = side_kind a.facts.kind

  sides_same : (first : Option SqlType) (items : List TypedExpr) → AllOf AlikeExpr items → map (side_found one) (map (side_of first) items) ≡ map (side_found two) (map (side_of first) items)
  sides_same first [] h = refl
  sides_same first (a ∷ rest) h = ap (λ f. f ∷ map (side_found one) (map (side_of first) rest)) (side_same first a h.0) ∙ ap (λ fs. side_found two (side_of first a) ∷ fs) (sides_same first rest h.1)

  pub in_list_alike : (a : TypedExpr) (items : List TypedExpr) → AlikeExpr a → AllOf AlikeExpr items → AlikeTest (tests.in_list_test a items)
  in_list_alike a items h g = test_alike (facts_onto a.facts items) (test.InList kind a.expr sides)
      (test_in_list one kind a.expr sides
      ∙ ap (λ x. is_as x kind && list_all (is_side kind) (map (side_found one) sides)) h
      ∙ ap (λ xs. is_as (found_of two a.expr) kind && list_all (is_side kind) xs) (sides_same a.facts.kind items g)
      ∙ sym (test_in_list two kind a.expr sides))
    where
      kind : SqlType
      kind = side_kind a.facts.kind

      sides : List BoundSide
      sides = map (side_of a.facts.kind) items

  joined_alike : (by : Junction) (a b : TypedTest) → AlikeTest a → AlikeTest b → AlikeTest (tests.joined_test by a b)
  joined_alike And a b h g = test_alike (beside a.facts b.facts) (test.And a.test b.test)
      (test_and one a.test b.test ∙ ap (λ x. x && is_formed_test one b.test) h ∙ ap (λ x. is_formed_test two a.test && x) g ∙ sym (test_and two a.test b.test))
  joined_alike Or a b h g = test_alike (beside a.facts b.facts) (test.Or a.test b.test)
      (test_or one a.test b.test ∙ ap (λ x. x && is_formed_test one b.test) h ∙ ap (λ x. is_formed_test two a.test && x) g ∙ sym (test_or two a.test b.test))

  twos_alike : (by : Junction) (all : List TypedTest) → AllOf AlikeTest all → AllOf AlikeTest (tests.joined_twos by all)
  twos_alike by [] h = tt
  twos_alike by (a ∷ []) h = h
  twos_alike by (a ∷ b ∷ rest) h = (joined_alike by a b h.0 h.1.0, twos_alike by rest h.1.1)

  rounds_alike : (by : Junction) (rounds : ℕ) (first : TypedTest) (rest : List TypedTest) → AlikeTest first → AllOf AlikeTest rest → AlikeTest (tests.joined_rounds by rounds first rest)
  rounds_alike by zero first rest h g = h
  rounds_alike by (suc rounds) first [] h g = h
  rounds_alike by (suc rounds) first (second ∷ rest) h g = rounds_alike by rounds (tests.joined_test by first second) (tests.joined_twos by rest) (joined_alike by first second h g.0) (twos_alike by rest g.1)

  pub all_joined_alike : (by : Junction) (first : TypedTest) (rest : List TypedTest) → AlikeTest first → AllOf AlikeTest rest → AlikeTest (tests.all_joined by first rest)
  all_joined_alike by first rest h g = rounds_alike by (length rest) first rest h g
