-- A test that is true makes each of its column tests true, by induction over the tree.
use Rattle.std.proofs.Common.{◌≡◌, refl, sym, ap, ◌∙◌, subst, ℕ, ◌+◌, ◌-◌, ◌≤◌, ◌<◌, ℤ, All, List, [], ◌∷◌, ◌++◌, map, take, length, Bool, true, false, ◌&&◌, ◌||◌, IsTrue, nat_eq, nat_le, unwrap_or, Option, Some, None, Ok, Err, if◌then◌else◌, arith}
use Rattle.std.specs.List.{filter, list_all, list_any}
use Rattle.std.specs.Ordering.{ordering_reverse}
use Rattle.std.specs.declared.cmp.Ordering.{Ordering}
use Rattle.std.specs.declared.cmp.Ordering.TheVariants as order
use Rattle.std.specs.Option.{option_map}
use Rattle.std.proofs.lemmas.Bool.{leb-true, eqb-true}
use Rattle.std.proofs.lemmas.List.Elements.{All-head, All-tail}
use Rattle.std.proofs.lemmas.List.{get_or-append_right, get_or_append_left, take_all}
use Rattle.value_types.specs.declared.value.Value.{Value}
use Rattle.value_types.specs.declared.value.Value.TheVariants.{Null, Whole, Bit, Text}
use Rattle.value_types.specs.declared.sql_type.SqlType.{SqlType}
use Rattle.value_types.specs.declared.sql_type.SqlType.TheVariants.{TinyInt, SmallInt, Int, BigInt, Bit as BitType, NText}
use Rattle.value_types.specs.OrderLaws.{value_order_total}
use Rattle.value_types.specs.Types.{IsOf, is_in_range}
use Rattle.convert_rules.specs.declared.fault.ConvertFault.TheVariants.{Overflow}
use Rattle.bound_tree.specs.declared.truth.Truth.{Truth}
use Rattle.bound_tree.specs.declared.truth.Truth.TheVariants.{False, Unknown, True}
use Rattle.bound_tree.specs.declared.expr.CompareOp.{CompareOp}
use Rattle.bound_tree.specs.declared.expr.CompareOp.TheVariants.{Equal, NotEqual, Less, LessEqual, Greater, GreaterEqual}
use Rattle.bound_tree.specs.declared.expr.BoundExpr.{BoundExpr}
use Rattle.bound_tree.specs.declared.expr.BoundTest.{BoundTest}
use Rattle.bound_tree.specs.declared.expr.BoundArm.{BoundArm}
use Rattle.bound_tree.specs.declared.expr.BoundSide.{BoundSide}
use Rattle.bound_tree.specs.declared.expr.BoundExpr.TheOpen.{BoundExpr-F, BoundTest-F, BoundSide-F}
use Rattle.bound_tree.specs.declared.expr.BoundExpr.TheFolds.{fold-BoundArm, fold-BoundSide, ind-BoundTest, map-BoundExpr, map-BoundTest, fold-roll-BoundExpr, fold-roll-BoundTest, fold-roll-BoundSide}
use Rattle.bound_tree.specs.declared.expr.BoundExpr.TheViews.{roll-BoundExpr, roll-BoundTest, roll-BoundSide}
use Rattle.bound_tree.specs.Kinds.{are_alike, rank, text_size}
use Rattle.bound_tree.specs.Truths.{is_true, truth_of}
use Rattle.bound_tree.specs.Outcomes.{Outcome, after}
use Rattle.bound_tree.specs.Conversions.{brought, cast_outcome, conversion}
use Rattle.bound_tree.specs.Comparisons.{allows, any_of, both, compared, order_of, order_truth}
use Rattle.bound_tree.specs.Setting.{Setting, value_at}
use Rattle.bound_tree.specs.Meaning as meaning
use Rattle.bound_tree.specs.Meaning.{ArmOutcome, SideOutcome, with_side}
use Rattle.bound_tree.specs.Typed as form
use Rattle.bound_tree.specs.Typed.{ArmFound, Fits, Found, unformed, lone_null, typed, GivesOf, SettingTypes, SideFound, is_as, is_found, is_whole}
use Rattle.bound_tree.proofs.Kept.{and_left, and_right, and_true}
use Rattle.bound_tree.proofs.Sound.{typed_law}
use Rattle.join_rows.specs.Joined.{Row}
use Rattle.query_eval.specs.KeyTests as keys
use Rattle.query_eval.specs.declared.key_tests.ColumnTest.{ColumnTest}
use Rattle.query_eval.specs.KeyTests.{TestSide, column, literal, variable, no_side, compare_tests, is_as_it_is, is_of_key_test, is_one_sort, is_widened, meets, mirror_of, pair_tests, side_tests}

-- ---- sides exchanged

allows_mirrored : (op : CompareOp) (o : Ordering) → allows (mirror_of op) (ordering_reverse o) ≡ allows op o
allows_mirrored Equal order.Less = refl
allows_mirrored Equal order.Equal = refl
allows_mirrored Equal order.Greater = refl
allows_mirrored NotEqual order.Less = refl
allows_mirrored NotEqual order.Equal = refl
allows_mirrored NotEqual order.Greater = refl
allows_mirrored Less order.Less = refl
allows_mirrored Less order.Equal = refl
allows_mirrored Less order.Greater = refl
allows_mirrored LessEqual order.Less = refl
allows_mirrored LessEqual order.Equal = refl
allows_mirrored LessEqual order.Greater = refl
allows_mirrored Greater order.Less = refl
allows_mirrored Greater order.Equal = refl
allows_mirrored Greater order.Greater = refl
allows_mirrored GreaterEqual order.Less = refl
allows_mirrored GreaterEqual order.Equal = refl
allows_mirrored GreaterEqual order.Greater = refl

order_reversed : (x y : Value) → order_of y x ≡ option_map ordering_reverse (order_of x y)
order_reversed Null Null = refl
order_reversed Null (Whole b) = refl
order_reversed Null (Bit b) = refl
order_reversed Null (Text b) = refl
order_reversed (Whole a) Null = refl
order_reversed (Whole a) (Whole b) = ap Some (value_order_total.antisymm (Whole b) (Whole a))
order_reversed (Whole a) (Bit b) = refl
order_reversed (Whole a) (Text b) = refl
order_reversed (Bit a) Null = refl
order_reversed (Bit a) (Whole b) = refl
order_reversed (Bit a) (Bit b) = ap Some (value_order_total.antisymm (Bit b) (Bit a))
order_reversed (Bit a) (Text b) = refl
order_reversed (Text a) Null = refl
order_reversed (Text a) (Whole b) = refl
order_reversed (Text a) (Bit b) = refl
order_reversed (Text a) (Text b) = ap Some (value_order_total.antisymm (Text b) (Text a))

truth_mirrored : (op : CompareOp) (x y : Value) → order_truth (mirror_of op) (order_of y x) ≡ order_truth op (order_of x y)
truth_mirrored op x y = ap (order_truth (mirror_of op)) (order_reversed x y) ∙ by_order (order_of x y)
  where
    by_order : (o : Option Ordering) → order_truth (mirror_of op) (option_map ordering_reverse o) ≡ order_truth op o
    by_order None = refl
    by_order (Some o) = ap truth_of (allows_mirrored op o)

-- ---- what a conversion that changes no value gives

-- a number as one of another type
number_kept : (from to : SqlType) (number : ℤ) (y : Value) → is_whole to ≡ true → conversion from to (Whole number) ≡ Ok y → y ≡ Whole number
number_kept from TinyInt number y whole h = in_range (is_in_range TinyInt number) h
  where
    in_range : (b : Bool) → cast_outcome from TinyInt (if b then Ok (Whole number) else Err Overflow) ≡ Ok y → y ≡ Whole number
    in_range true h = cc
    in_range false h = cc
number_kept from SmallInt number y whole h = in_range (is_in_range SmallInt number) h
  where
    in_range : (b : Bool) → cast_outcome from SmallInt (if b then Ok (Whole number) else Err Overflow) ≡ Ok y → y ≡ Whole number
    in_range true h = cc
    in_range false h = cc
number_kept from Int number y whole h = in_range (is_in_range Int number) h
  where
    in_range : (b : Bool) → cast_outcome from Int (if b then Ok (Whole number) else Err Overflow) ≡ Ok y → y ≡ Whole number
    in_range true h = cc
    in_range false h = cc
number_kept from BigInt number y whole h = in_range (is_in_range BigInt number) h
  where
    in_range : (b : Bool) → cast_outcome from BigInt (if b then Ok (Whole number) else Err Overflow) ≡ Ok y → y ≡ Whole number
    in_range true h = cc
    in_range false h = cc
number_kept from BitType number y whole h = cc
number_kept from (NText size) number y whole h = cc

whole_of : (kind : SqlType) (number : ℤ) → IsOf kind (Whole number) → is_whole kind ≡ true
whole_of TinyInt number is = refl
whole_of SmallInt number is = refl
whole_of Int number is = refl
whole_of BigInt number is = refl
whole_of BitType number is = cc
whole_of (NText size) number is = cc

whole_alike : (from to : SqlType) → are_alike from to ≡ true → is_whole from ≡ true → is_whole to ≡ true
whole_alike from to alike whole = subst (λ r. nat_le 2 r ≡ true) (eqb-true (rank from) (rank to) alike) whole

-- of types of whole numbers
whole_kept : (from to : SqlType) (x y : Value) → is_whole from ≡ true → is_whole to ≡ true → IsOf from x → conversion from to x ≡ Ok y → y ≡ x
whole_kept from to Null y a b is h = cc
whole_kept from to (Whole number) y a b is h = number_kept from to number y b h
whole_kept TinyInt to (Bit bit) y a b is h = absurd is
whole_kept SmallInt to (Bit bit) y a b is h = absurd is
whole_kept Int to (Bit bit) y a b is h = absurd is
whole_kept BigInt to (Bit bit) y a b is h = absurd is
whole_kept BitType to (Bit bit) y a b is h = cc
whole_kept (NText size) to (Bit bit) y a b is h = absurd is
whole_kept TinyInt to (Text units) y a b is h = absurd is
whole_kept SmallInt to (Text units) y a b is h = absurd is
whole_kept Int to (Text units) y a b is h = absurd is
whole_kept BigInt to (Text units) y a b is h = absurd is
whole_kept BitType to (Text units) y a b is h = absurd is
whole_kept (NText size) to (Text units) y a b is h = cc

-- of one type, or of a text's and one of a text that is no shorter
bit_kept : (to : SqlType) (bit : Bool) (y : Value) → are_alike BitType to ≡ true → conversion BitType to (Bit bit) ≡ Ok y → y ≡ Bit bit
bit_kept BitType true y alike h = cc
bit_kept BitType false y alike h = cc
bit_kept TinyInt bit y alike h = cc
bit_kept SmallInt bit y alike h = cc
bit_kept Int bit y alike h = cc
bit_kept BigInt bit y alike h = cc
bit_kept (NText size) bit y alike h = cc

text_kept : (size : ℕ) (to : SqlType) (units : List ℕ) (y : Value) → are_alike (NText size) to ≡ true → nat_le size (unwrap_or (text_size to) 0) ≡ true
    → length units ≤ size → conversion (NText size) to (Text units) ≡ Ok y → y ≡ Text units
text_kept size (NText more) units y alike longer is h =
    let whole : take more units ≡ units = take_all more units (omega (arith, leb-true size more longer, is)) in
    cc
text_kept size BitType units y alike longer is h = cc
text_kept size TinyInt units y alike longer is h = cc
text_kept size SmallInt units y alike longer is h = cc
text_kept size Int units y alike longer is h = cc
text_kept size BigInt units y alike longer is h = cc

alike_kept : (from to : SqlType) (x y : Value) → are_alike from to ≡ true → nat_le (unwrap_or (text_size from) 0) (unwrap_or (text_size to) 0) ≡ true
    → IsOf from x → conversion from to x ≡ Ok y → y ≡ x
alike_kept from to Null y alike longer is h = cc
alike_kept from to (Whole number) y alike longer is h = number_kept from to number y (whole_alike from to alike (whole_of from number is)) h
alike_kept BitType to (Bit bit) y alike longer is h = bit_kept to bit y alike h
alike_kept TinyInt to (Bit bit) y alike longer is h = absurd is
alike_kept SmallInt to (Bit bit) y alike longer is h = absurd is
alike_kept Int to (Bit bit) y alike longer is h = absurd is
alike_kept BigInt to (Bit bit) y alike longer is h = absurd is
alike_kept (NText size) to (Bit bit) y alike longer is h = absurd is
alike_kept (NText size) to (Text units) y alike longer is h = text_kept size to units y alike longer is h
alike_kept TinyInt to (Text units) y alike longer is h = absurd is
alike_kept SmallInt to (Text units) y alike longer is h = absurd is
alike_kept Int to (Text units) y alike longer is h = absurd is
alike_kept BigInt to (Text units) y alike longer is h = absurd is
alike_kept BitType to (Text units) y alike longer is h = absurd is

widened_kept : (from to : SqlType) (x y : Value) → is_widened from to ≡ true → IsOf from x → conversion from to x ≡ Ok y → y ≡ x
widened_kept from to x y widened is h = by_whole (is_whole from && is_whole to) refl (and_left _ _ widened)
  where
    by_whole : (b : Bool) → is_whole from && is_whole to ≡ b → b || are_alike from to ≡ true → y ≡ x
    by_whole true e sort = whole_kept from to x y (and_left _ _ e) (and_right _ _ e) is h
    by_whole false e sort = alike_kept from to x y sort (and_right _ _ (and_right _ _ widened)) is h

-- a first side as one of a pair's type
brought_kept : (from to : SqlType) (x y : Value) → is_one_sort from to ≡ true → IsOf from x → brought from to x ≡ Ok y → y ≡ x
brought_kept from to x y sort is h = by_alike (are_alike from to) sort h
  where
    by_alike : (b : Bool) → is_whole from && is_whole to || b ≡ true → (if b then Ok x else conversion from to x) ≡ Ok y → y ≡ x
    by_alike true sort h = cc
    by_alike false sort h = by_whole (is_whole from && is_whole to) refl sort
      where
        by_whole : (b : Bool) → is_whole from && is_whole to ≡ b → b || false ≡ true → y ≡ x
        by_whole true e sort = whole_kept from to x y (and_left _ _ e) (and_right _ _ e) is h
        by_whole false e sort = cc

-- ---- what a side stands for

-- the value that is given is the column's, the constant's or the variable's
abbrev pub Stands : Row → Outcome Value → TestSide → Type 0
Stands row (Err number) side = Unit {0}
Stands row (Ok x) (column place) = x ≡ value_at row place
Stands row (Ok x) (literal value) = x ≡ value
Stands row (Ok x) (variable value) = x ≡ value
Stands row (Ok x) no_side = Unit {0}

abbrev pub Meet : Row → List ColumnTest → Type 0
Meet row tests = IsTrue (list_all (meets row) tests)

both_hold : (p q : Bool) → IsTrue p → IsTrue q → IsTrue (p && q)
both_hold true q h k = k
both_hold false q h k = h

module _ (row : Row) where
  none_stands : (a : Outcome Value) → Stands row a no_side
  none_stands (Ok x) = tt
  none_stands (Err number) = tt

  converted_stands : (from to : SqlType) (a : Outcome Value) (side : TestSide) → is_widened from to ≡ true → GivesOf from a → Stands row a side → Stands row (after a (conversion from to)) side
  converted_stands from to (Err number) side widened is stands = tt
  converted_stands from to (Ok x) side widened is stands = by_outcome (conversion from to x) refl
    where
      by_outcome : (o : Outcome Value) → conversion from to x ≡ o → Stands row o side
      by_outcome (Err number) e = tt
      by_outcome (Ok y) e = subst (λ z. Stands row (Ok z) side) (sym (widened_kept from to x y widened is e)) stands

  meet_both : (some more : List ColumnTest) → Meet row some → Meet row more → Meet row (some ++ more)
  meet_both [] more a b = b
  meet_both (test ∷ some) more a b = both_hold (meets row test) (list_all (meets row) (some ++ more)) (and_left _ _ a) (meet_both some more (and_right _ _ a) b)

  -- ---- comparisons that are true

  one_met : (op : CompareOp) (x y : Value) (place : ℕ) (value : Value) → x ≡ value_at row place → y ≡ value → order_truth op (order_of x y) ≡ True
      → Meet row (record { column = place; op = op; value = value } ∷ [])
  one_met op x y place value is_cell is_value holds = and_true _ (ap is_true (ap (order_truth op) (ap (λ a. order_of a value) (sym is_cell) ∙ ap (order_of x) (sym is_value)) ∙ holds))

  side_met : (op : CompareOp) (x y : Value) (a b : TestSide) → Stands row (Ok x) a → Stands row (Ok y) b → order_truth op (order_of x y) ≡ True → Meet row (side_tests op a b)
  side_met op x y (column place) (literal value) s r h = one_met op x y place value s r h
  side_met op x y (column place) (variable value) s r h = one_met op x y place value s r h
  side_met op x y (column place) (column other) s r h = refl
  side_met op x y (column place) no_side s r h = refl
  side_met op x y (literal value) (column place) s r h = one_met (mirror_of op) y x place value r s (truth_mirrored op x y ∙ h)
  side_met op x y (literal value) (literal other) s r h = refl
  side_met op x y (literal value) (variable other) s r h = refl
  side_met op x y (literal value) no_side s r h = refl
  side_met op x y (variable value) (column place) s r h = one_met (mirror_of op) y x place value r s (truth_mirrored op x y ∙ h)
  side_met op x y (variable value) (literal other) s r h = refl
  side_met op x y (variable value) (variable other) s r h = refl
  side_met op x y (variable value) no_side s r h = refl
  side_met op x y no_side b s r h = refl

  compare_met : (op : CompareOp) (a b : Outcome Value) (s r : TestSide) → Stands row a s → Stands row b r → compared op a b ≡ Ok True → Meet row (compare_tests op s r)
  compare_met op (Err number) b s r a_is b_is h = cc
  compare_met op (Ok x) (Err number) s r a_is b_is h = cc
  compare_met op (Ok x) (Ok y) s r a_is b_is h = by_op (is_of_key_test op)
    where
      by_op : (b : Bool) → Meet row (if b then side_tests op s r else [])
      by_op true = side_met op x y s r a_is b_is cc
      by_op false = refl

  -- of a pair whose first side is brought to the pair's type
  as_it_is : (a : TestSide) (kind pair : SqlType) (x y : Value) → is_as_it_is a kind pair ≡ true → IsOf kind x → Stands row (Ok x) a → brought kind pair x ≡ Ok y → y ≡ x
  as_it_is (column place) kind pair x y sort is s h = brought_kept kind pair x y sort is h
  as_it_is (variable value) kind pair x y sort is s h = brought_kept kind pair x y sort is h
  as_it_is no_side kind pair x y sort is s h = brought_kept kind pair x y sort is h
  as_it_is (literal (Whole number)) kind pair x y sort is s h = brought_kept kind pair x y sort is h
  as_it_is (literal (Bit bit)) kind pair x y sort is s h = brought_kept kind pair x y sort is h
  as_it_is (literal (Text units)) kind pair x y sort is s h = brought_kept kind pair x y sort is h
  as_it_is (literal Null) kind pair x y sort is s h = null_kept (subst (λ z. brought kind pair z ≡ Ok y) s h) ∙ sym s
    where
      null_kept : brought kind pair Null ≡ Ok y → y ≡ Null
      null_kept h = by_alike (are_alike kind pair) h
        where
          by_alike : (b : Bool) → (if b then Ok Null else conversion kind pair Null) ≡ Ok y → y ≡ Null
          by_alike true h = cc
          by_alike false h = cc

  pair_met : (op : CompareOp) (kind : SqlType) (x : Value) (side : SideOutcome) (a : TestSide) (b : SqlType × TestSide)
      → IsOf kind x → Stands row (Ok x) a → b.0 ≡ side.0 → Stands row side.1 b.1 → with_side op kind x side ≡ Ok True → Meet row (pair_tests op kind a b)
  pair_met op kind x side a b is s pair r h = by_test (is_as_it_is a kind b.0) refl
    where
      by_values : is_as_it_is a kind b.0 ≡ true → (o p : Outcome Value) → brought kind side.0 x ≡ o → Stands row p b.1 → compared op o p ≡ Ok True → Meet row (side_tests op a b.1)
      by_values sort (Err number) p e r h = cc
      by_values sort (Ok y) (Err number) e r h = cc
      by_values sort (Ok y) (Ok z) e r h =
          let same : y ≡ x = as_it_is a kind b.0 x y sort is s (ap (λ k. brought kind k x) pair ∙ e) in
          side_met op y z a b.1 (subst (λ v. Stands row (Ok v) a) (sym same) s) r cc

      by_test : (t : Bool) → is_as_it_is a kind b.0 ≡ t → Meet row (if t then side_tests op a b.1 else [])
      by_test true sort = by_values sort (brought kind side.0 x) side.1 refl r h
      by_test false sort = refl

-- ---- tests that are true

both_true : (p q : Outcome Truth) → both p q ≡ Ok True → (p ≡ Ok True) × (q ≡ Ok True)
both_true (Err number) q h = (cc, cc)
both_true (Ok False) q h = (cc, cc)
both_true (Ok Unknown) (Err number) h = (cc, cc)
both_true (Ok Unknown) (Ok False) h = (cc, cc)
both_true (Ok Unknown) (Ok Unknown) h = (cc, cc)
both_true (Ok Unknown) (Ok True) h = (cc, cc)
both_true (Ok True) (Err number) h = (cc, cc)
both_true (Ok True) (Ok truth) h = (refl, h)

only_true : (p : Outcome Truth) → any_of (p ∷ []) ≡ Ok True → p ≡ Ok True
only_true (Err number) h = h
only_true (Ok truth) h = h

as_found : (f : Found) (kind : SqlType) → IsTrue (is_as f kind) → IsTrue (is_found f)
as_found unformed kind h = h
as_found lone_null kind h = refl
as_found (typed of) kind h = refl

like_found : (f : Found) (kind : SqlType) → IsTrue (form.is_like f kind) → IsTrue (is_found f)
like_found unformed kind h = h
like_found lone_null kind h = refl
like_found (typed of) kind h = refl

where_holds : (holds : Bool) (kind : SqlType) → IsTrue (is_found (form.found_where holds kind)) → IsTrue holds
where_holds true kind h = refl
where_holds false kind h = h

left_found : (f g : Found) → IsTrue (is_found (form.common f g)) → IsTrue (is_found f)
left_found unformed g h = h
left_found lone_null g h = refl
left_found (typed kind) g h = refl

right_found : (f g : Found) → IsTrue (is_found (form.common f g)) → IsTrue (is_found g)
right_found unformed g h = cc
right_found lone_null g h = h
right_found (typed a) unformed h = h
right_found (typed a) lone_null h = refl
right_found (typed a) (typed b) h = refl

-- ---- trees

module _ (types : SettingTypes) (setting : Setting) (fits : Fits types setting) where
  abbrev row : Row
  row = setting.row

  abbrev pair_of : BoundSide → SqlType × TestSide
  pair_of = fold-BoundSide TestSide (List ColumnTest) (Unit {0}) (SqlType × TestSide) (keys.expr_step setting.vars) (keys.test_step setting.vars) (keys.arm_step setting.vars) (keys.pair_step setting.vars)

  abbrev P : BoundExpr → Type 0
  P e = IsTrue (is_found (form.found_of types e)) → Stands row (meaning.value setting e) (keys.side_of setting.vars e)

  abbrev T : BoundTest → Type 0
  T t = IsTrue (form.is_formed_test types t) → meaning.truth setting t ≡ Ok True → Meet row (keys.column_tests setting.vars t)

  abbrev Q : BoundArm → Type 0
  Q arm = Unit {0}

  abbrev S : BoundSide → Type 0
  S side = ((pair_of side).0 ≡ (meaning.side_of setting side).0)
      × (IsTrue (is_found ((form.side_found types side).1)) → Stands row ((meaning.side_of setting side).1) ((pair_of side).1))

  abbrev ExprBelow : Type 0
  ExprBelow = BoundExpr-F ((e : BoundExpr) × P e) ((t : BoundTest) × T t) ((a : BoundArm) × Q a) ((s : BoundSide) × S s)

  abbrev TestBelow : Type 0
  TestBelow = BoundTest-F ((e : BoundExpr) × P e) ((t : BoundTest) × T t) ((a : BoundArm) × Q a) ((s : BoundSide) × S s)

  abbrev exprs_below : ExprBelow → BoundExpr-F BoundExpr BoundTest BoundArm BoundSide
  exprs_below = map-BoundExpr _ _ _ _ BoundExpr BoundTest BoundArm BoundSide (λ e. e.0) (λ e. e.0) (λ e. e.0) (λ e. e.0)

  abbrev tests_below : TestBelow → BoundTest-F BoundExpr BoundTest BoundArm BoundSide
  tests_below = map-BoundTest _ _ _ _ BoundExpr BoundTest BoundArm BoundSide (λ e. e.0) (λ e. e.0) (λ e. e.0) (λ e. e.0)

  abbrev expr_outcomes : BoundExpr-F BoundExpr BoundTest BoundArm BoundSide → BoundExpr-F (Outcome Value) (Outcome Truth) ArmOutcome SideOutcome
  expr_outcomes = map-BoundExpr _ _ _ _ (Outcome Value) (Outcome Truth) ArmOutcome SideOutcome (meaning.value setting) (meaning.truth setting) (meaning.arm_of setting) (meaning.side_of setting)

  abbrev test_outcomes : BoundTest-F BoundExpr BoundTest BoundArm BoundSide → BoundTest-F (Outcome Value) (Outcome Truth) ArmOutcome SideOutcome
  test_outcomes = map-BoundTest _ _ _ _ (Outcome Value) (Outcome Truth) ArmOutcome SideOutcome (meaning.value setting) (meaning.truth setting) (meaning.arm_of setting) (meaning.side_of setting)

  abbrev expr_found : BoundExpr-F BoundExpr BoundTest BoundArm BoundSide → BoundExpr-F Found Bool ArmFound SideFound
  expr_found = map-BoundExpr _ _ _ _ Found Bool ArmFound SideFound (form.found_of types) (form.is_formed_test types) (form.arm_found types) (form.side_found types)

  abbrev test_found : BoundTest-F BoundExpr BoundTest BoundArm BoundSide → BoundTest-F Found Bool ArmFound SideFound
  test_found = map-BoundTest _ _ _ _ Found Bool ArmFound SideFound (form.found_of types) (form.is_formed_test types) (form.arm_found types) (form.side_found types)

  abbrev unit_of : BoundArm → Unit {0}
  unit_of = fold-BoundArm TestSide (List ColumnTest) (Unit {0}) (SqlType × TestSide) (keys.expr_step setting.vars) (keys.test_step setting.vars) (keys.arm_step setting.vars) (keys.pair_step setting.vars)

  abbrev expr_sides : BoundExpr-F BoundExpr BoundTest BoundArm BoundSide → BoundExpr-F TestSide (List ColumnTest) (Unit {0}) (SqlType × TestSide)
  expr_sides = map-BoundExpr _ _ _ _ TestSide (List ColumnTest) (Unit {0}) (SqlType × TestSide) (keys.side_of setting.vars) (keys.column_tests setting.vars) unit_of pair_of

  abbrev test_sides : BoundTest-F BoundExpr BoundTest BoundArm BoundSide → BoundTest-F TestSide (List ColumnTest) (Unit {0}) (SqlType × TestSide)
  test_sides = map-BoundTest _ _ _ _ TestSide (List ColumnTest) (Unit {0}) (SqlType × TestSide) (keys.side_of setting.vars) (keys.column_tests setting.vars) unit_of pair_of

  abbrev outcome_of : ExprBelow → Outcome Value
  outcome_of y = meaning.expr_step setting (expr_outcomes (exprs_below y))

  expr_stands : (y : ExprBelow) → IsTrue (is_found (form.expr_step types (expr_found (exprs_below y))))
      → Stands row (outcome_of y) (keys.expr_step setting.vars (expr_sides (exprs_below y)))
  expr_stands (BoundExpr-F.Constant x) h = refl
  expr_stands (BoundExpr-F.Cell place) h = refl
  expr_stands (BoundExpr-F.Variable place) h = refl
  expr_stands (BoundExpr-F.System of) h = none_stands row (outcome_of (BoundExpr-F.System of))
  expr_stands (BoundExpr-F.Negate kind x) h = none_stands row (outcome_of (BoundExpr-F.Negate kind x))
  expr_stands (BoundExpr-F.Infix op kind x y) h = none_stands row (outcome_of (BoundExpr-F.Infix op kind x y))
  expr_stands (BoundExpr-F.Case arms other) h = none_stands row (outcome_of (BoundExpr-F.Case arms other))
  expr_stands (BoundExpr-F.Coalesce items) h = none_stands row (outcome_of (BoundExpr-F.Coalesce items))
  expr_stands (BoundExpr-F.NullIf kind x side) h = none_stands row (outcome_of (BoundExpr-F.NullIf kind x side))
  expr_stands (BoundExpr-F.Length x) h = none_stands row (outcome_of (BoundExpr-F.Length x))
  expr_stands (BoundExpr-F.Scalar place) h = none_stands row (outcome_of (BoundExpr-F.Scalar place))
  expr_stands (BoundExpr-F.Convert from to x) h = by_widened (is_widened from to) refl
    where
      formed : IsTrue (is_as (form.found_of types x.0) from)
      formed = where_holds _ to h

      by_widened : (b : Bool) → is_widened from to ≡ b → Stands row (after (meaning.value setting x.0) (conversion from to)) (if b then keys.side_of setting.vars x.0 else no_side)
      by_widened true widened = converted_stands row from to _ _ widened (typed_law types setting fits x.0 from formed) (x.1 (as_found _ from formed))
      by_widened false widened = none_stands row (after (meaning.value setting x.0) (conversion from to))

  -- BETWEEN and IN, whose first side is of a type
  between_met : (kind : SqlType) (a : Outcome Value) (s : TestSide) (low high : (side : BoundSide) × S side) → GivesOf kind a → Stands row a s
      → IsTrue (form.is_side kind (form.side_found types low.0)) → IsTrue (form.is_side kind (form.side_found types high.0))
      → meaning.between kind a (meaning.side_of setting low.0) (meaning.side_of setting high.0) ≡ Ok True
      → Meet row (pair_tests GreaterEqual kind s (pair_of low.0) ++ pair_tests LessEqual kind s (pair_of high.0))
  between_met kind (Err number) s low high is stands l h k = cc
  between_met kind (Ok x) s low high is stands l h k =
      let holds = both_true _ _ k in
      meet_both row _ _
      (pair_met row GreaterEqual kind x (meaning.side_of setting low.0) s (pair_of low.0) is stands low.1.0 (low.1.1 (like_found _ _ (and_right _ _ l))) holds.0)
      (pair_met row LessEqual kind x (meaning.side_of setting high.0) s (pair_of high.0) is stands high.1.0 (high.1.1 (like_found _ _ (and_right _ _ h))) holds.1)

  in_met : (kind : SqlType) (a : Outcome Value) (s : TestSide) (side : (side : BoundSide) × S side) → GivesOf kind a → Stands row a s
      → IsTrue (form.is_side kind (form.side_found types side.0))
      → meaning.in_list kind a (meaning.side_of setting side.0 ∷ []) ≡ Ok True
      → Meet row (pair_tests Equal kind s (pair_of side.0))
  in_met kind (Err number) s side is stands l k = cc
  in_met kind (Ok x) s side is stands l k =
      pair_met row Equal kind x (meaning.side_of setting side.0) s (pair_of side.0) is stands side.1.0 (side.1.1 (like_found _ _ (and_right _ _ l))) (only_true _ k)

  test_met : (y : TestBelow) → IsTrue (form.test_step types (test_found (tests_below y))) → meaning.test_step setting (test_outcomes (tests_below y)) ≡ Ok True
      → Meet row (keys.test_step setting.vars (test_sides (tests_below y)))
  test_met (BoundTest-F.Compare op x y) h k = compare_met row op _ _ _ _ (x.1 (left_found _ _ h)) (y.1 (right_found _ _ h)) k
  test_met (BoundTest-F.IsNull x) h k = refl
  test_met (BoundTest-F.Between kind x low high) h k =
      let formed = and_left _ _ h in
      let sides = and_right _ _ h in
      between_met kind _ _ low high (typed_law types setting fits x.0 kind formed) (x.1 (as_found _ kind formed)) (and_left _ _ sides) (and_right _ _ sides) k
  test_met (BoundTest-F.InList kind x []) h k = refl
  test_met (BoundTest-F.InList kind x (side ∷ [])) h k =
      let formed = and_left _ _ h in
      in_met kind _ _ side (typed_law types setting fits x.0 kind formed) (x.1 (as_found _ kind formed)) (and_left _ _ (and_right _ _ h)) k
  test_met (BoundTest-F.InList kind x (side ∷ other ∷ rest)) h k = refl
  test_met (BoundTest-F.InQuery kind x other place) h k = refl
  test_met (BoundTest-F.Exists place) h k = refl
  test_met (BoundTest-F.And x y) h k =
      let holds = both_true _ _ k in
      meet_both row _ _ (x.1 (and_left _ _ h) holds.0) (y.1 (and_right _ _ h) holds.1)
  test_met (BoundTest-F.Or x y) h k = refl
  test_met (BoundTest-F.Not x) h k = refl

  expr_layer : (y : ExprBelow) → P (roll-BoundExpr (exprs_below y))
  expr_layer y h =
      let z = exprs_below y in
      let found = fold-roll-BoundExpr Found Bool ArmFound SideFound (form.expr_step types) (form.test_step types) (form.arm_step types) (form.side_step types) z in
      let given = fold-roll-BoundExpr (Outcome Value) (Outcome Truth) ArmOutcome SideOutcome (meaning.expr_step setting) (meaning.test_step setting) (meaning.arm_step setting) (meaning.side_step setting) z in
      let side = fold-roll-BoundExpr TestSide (List ColumnTest) (Unit {0}) (SqlType × TestSide) (keys.expr_step setting.vars) (keys.test_step setting.vars) (keys.arm_step setting.vars) (keys.pair_step setting.vars) z in
      subst (λ o. Stands row o (keys.side_of setting.vars (roll-BoundExpr z))) (sym given)
      (subst (Stands row (meaning.expr_step setting (expr_outcomes z))) (sym side) (expr_stands y (subst (λ f. IsTrue (is_found f)) found h)))

  test_layer : (y : TestBelow) → T (roll-BoundTest (tests_below y))
  test_layer y h k =
      let z = tests_below y in
      let found = fold-roll-BoundTest Found Bool ArmFound SideFound (form.expr_step types) (form.test_step types) (form.arm_step types) (form.side_step types) z in
      let given = fold-roll-BoundTest (Outcome Value) (Outcome Truth) ArmOutcome SideOutcome (meaning.expr_step setting) (meaning.test_step setting) (meaning.arm_step setting) (meaning.side_step setting) z in
      let tests = fold-roll-BoundTest TestSide (List ColumnTest) (Unit {0}) (SqlType × TestSide) (keys.expr_step setting.vars) (keys.test_step setting.vars) (keys.arm_step setting.vars) (keys.pair_step setting.vars) z in
      subst (Meet row) (sym tests) (test_met y (subst IsTrue found h) (sym given ∙ k))

  side_layer : (kind : SqlType) (e : BoundExpr) → P e → S (roll-BoundSide (record { pair = kind; expr = e }))
  side_layer kind e p =
      let z : BoundSide-F BoundExpr BoundTest BoundArm BoundSide = record { pair = kind; expr = e } in
      let found = fold-roll-BoundSide Found Bool ArmFound SideFound (form.expr_step types) (form.test_step types) (form.arm_step types) (form.side_step types) z in
      let given : meaning.side_of setting (roll-BoundSide z) ≡ (kind, meaning.value setting e) = fold-roll-BoundSide (Outcome Value) (Outcome Truth) ArmOutcome SideOutcome (meaning.expr_step setting) (meaning.test_step setting) (meaning.arm_step setting) (meaning.side_step setting) z in
      let side : pair_of (roll-BoundSide z) ≡ (kind, keys.side_of setting.vars e) = fold-roll-BoundSide TestSide (List ColumnTest) (Unit {0}) (SqlType × TestSide) (keys.expr_step setting.vars) (keys.test_step setting.vars) (keys.arm_step setting.vars) (keys.pair_step setting.vars) z in (
        ap (λ s. s.0) side ∙ sym (ap (λ s. s.0) given),
        λ h. subst (λ o. Stands row o.1 ((pair_of (roll-BoundSide z)).1)) (sym given)
            (subst (λ s. Stands row (meaning.value setting e) s.1) (sym side) (p (subst (λ f. IsTrue (is_found f.1)) found h))),
      )

  -- a row of which a test is true meets each of the test's column tests
  pub true_meets : (t : BoundTest) → T t
  true_meets = ind-BoundTest P T Q S
      (λ x y is. subst (λ z. P (roll-BoundExpr z)) is (expr_layer y))
      (λ x y is. subst (λ z. T (roll-BoundTest z)) is (test_layer y))
      (λ x y is. tt)
      (λ x y is. subst (λ z. S (roll-BoundSide z)) is (side_layer y.pair y.expr.0 y.expr.1))

-- ---- the row of a reference

module _ (before row behind : Row) where
  -- a place among all the columns is one of the reference's own
  abbrev IsOwn : ℕ → Type 0
  IsOwn place = (length before ≤ place) × (place - length before < length row)

  -- a column of the key, counted among all, is within the row
  key_place : (key : List ℕ) (place : ℕ) → All (λ own. own < length row) key → list_any (λ own. nat_eq place (length before + own)) key ≡ true → IsOwn place
  key_place [] place within is = cc
  key_place (own ∷ key) place within is = by_first (key_place key place (All-tail (λ own. own < length row) own key within)) (nat_eq place (length before + own)) refl is
    where
      by_first : (list_any (λ own. nat_eq place (length before + own)) key ≡ true → IsOwn place) → (b : Bool) → nat_eq place (length before + own) ≡ b → b || list_any (λ own. nat_eq place (length before + own)) key ≡ true → IsOwn place
      by_first behind true e is =
          let same : place ≡ length before + own = eqb-true place (length before + own) e in
          (omega (arith, same), omega (arith, same, All-head (λ own. own < length row) own key within))
      by_first behind false e is = behind is

  own_value : (place : ℕ) → length before ≤ place → place - length before < length row → value_at (before ++ (row ++ behind)) place ≡ value_at row (place - length before)
  own_value place past within =
      get_or-append_right before (row ++ behind) (length before) place Null refl past ∙ get_or_append_left row behind Null (place - length before) within

  -- a test of a column of the key is met by the row as it is by the whole
  pub own_met : (key : List ℕ) → All (λ own. own < length row) key → (tests : List ColumnTest) → Meet (before ++ (row ++ behind)) tests → Meet row (keys.key_tests key (length before) tests)
  own_met key within [] met = refl
  own_met key within (test ∷ tests) met = by_key (own_met key within tests (and_right _ _ met)) (keys.is_of_key key (length before) test) refl
    where
      by_key : Meet row (keys.key_tests key (length before) tests) → (b : Bool) → keys.is_of_key key (length before) test ≡ b
          → Meet row (map (keys.own_test (length before)) (if b then test ∷ filter (keys.is_of_key key (length before)) tests else filter (keys.is_of_key key (length before)) tests))
      by_key others false e = others
      by_key others true e =
          let is = key_place key test.column within e in
          let same : meets (before ++ (row ++ behind)) test ≡ meets row (keys.own_test (length before) test) =
          ap (λ x. is_true (order_truth test.op (order_of x test.value))) (own_value test.column is.0 is.1) in
          subst (λ b. IsTrue (b && list_all (meets row) (keys.key_tests key (length before) tests))) same (both_hold _ _ (and_left _ _ met) others)
