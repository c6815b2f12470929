-- Which errors there are: each outcome of a tree is a value or one of the eight, by induction over the tree.
use Rattle.std.proofs.Common.{◌≡◌, refl, sym, subst, ℕ, List, [], ◌∷◌, map, Bool, true, false, IsTrue, Option, Some, None, Result, Ok, Err, if◌then◌else◌, ℤ, pos, nat_le, length, ◌+ℤ◌, ◌-ℤ◌, ◌*ℤ◌, int_div, int_rem, neg_ℤ}
use Rattle.std.specs.Prelude.{codes}
use Rattle.std.specs.Fmt.{signed_decimal}
use Rattle.std.specs.Ordering.{int_eq}
use Rattle.value_types.specs.declared.value.Value.{Value}
use Rattle.value_types.specs.declared.value.Value.TheVariants.{Null, Whole, Bit, Text}
use Rattle.value_types.specs.declared.sql_type.SqlType.{SqlType}
use Rattle.value_types.specs.declared.sql_type.SqlType.TheVariants.{TinyInt, SmallInt, Int, BigInt, Bit as BitType, NText}
use Rattle.value_types.specs.Types.{is_in_range}
use Rattle.convert_rules.specs.declared.fault.ConvertFault.{ConvertFault}
use Rattle.convert_rules.specs.declared.fault.ConvertFault.TheVariants.{Overflow, NotANumber, TooLong, Memory}
use Rattle.convert_rules.specs.Reading.{number_in}
use Rattle.convert_rules.specs.Errors.{no_number, number_outside, text_outside}
use Rattle.convert_rules.specs.Conversion as rule
use Rattle.convert_rules.specs.Conversion.{cast_of, is_text}
use Rattle.bound_tree.specs.declared.truth.Truth.{Truth}
use Rattle.bound_tree.specs.declared.truth.Truth.TheVariants as truth
use Rattle.bound_tree.specs.declared.expr.InfixOp.{InfixOp}
use Rattle.bound_tree.specs.declared.expr.InfixOp.TheVariants.{Add, Subtract, Multiply, Divide, Remainder}
use Rattle.bound_tree.specs.declared.expr.CompareOp.{CompareOp}
use Rattle.bound_tree.specs.declared.expr.CompareOp.TheVariants.{Equal, LessEqual, GreaterEqual}
use Rattle.bound_tree.specs.declared.expr.BoundExpr.{BoundExpr}
use Rattle.bound_tree.specs.declared.expr.BoundTest.{BoundTest}
use Rattle.bound_tree.specs.declared.expr.BoundArm.{BoundArm}
use Rattle.bound_tree.specs.declared.expr.BoundSide.{BoundSide}
use Rattle.bound_tree.specs.declared.expr.BoundExpr.TheOpen.{BoundExpr-F, BoundTest-F, BoundArm-F, BoundSide-F}
use Rattle.bound_tree.specs.declared.expr.BoundExpr.TheFolds.{ind-BoundExpr, ind-BoundTest, map-BoundExpr, map-BoundTest, fold-roll-BoundExpr, fold-roll-BoundTest, fold-roll-BoundArm, fold-roll-BoundSide}
use Rattle.bound_tree.specs.declared.expr.BoundExpr.TheViews.{roll-BoundExpr, roll-BoundTest, roll-BoundArm, roll-BoundSide}
use Rattle.bound_tree.specs.Truths.{is_false, is_true}
use Rattle.bound_tree.specs.Kinds.{are_alike}
use Rattle.bound_tree.specs.Outcomes.{Outcome, after}
use Rattle.bound_tree.specs.Numbers as numbers
use Rattle.bound_tree.specs.Texts as texts
use Rattle.bound_tree.specs.Conversions.{brought, cast_outcome, conversion}
use Rattle.bound_tree.specs.Comparisons.{any_onto, both, compared, or_then}
use Rattle.bound_tree.specs.Setting.{Setting, rows_at, scalar_of}
use Rattle.bound_tree.specs.Meaning as meaning
use Rattle.bound_tree.specs.Meaning.{ArmOutcome, SideOutcome, is_null}
use Rattle.bound_tree.specs.Faults.{is_fault}

-- a value, or one of the errors
abbrev pub Raises : {A : Type 0} → Outcome A → Type 0
Raises (Ok x) = Unit {0}
Raises (Err number) = IsTrue (is_fault number)

pub raised : {A : Type 0} (a : Outcome A) → Raises a → (number : ℤ) → a ≡ Err number → IsTrue (is_fault number)
raised (Ok x) h number e = cc
raised (Err n) h number e = let same : n ≡ number = cc in subst (λ k. IsTrue (is_fault k)) same h

after_raises : {A B : Type 0} (a : Outcome A) (next : A → Outcome B) → Raises a → ((x : A) → Raises (next x)) → Raises (after a next)
after_raises (Ok x) next h k = k x
after_raises (Err n) next h k = h

choice_raises : {A : Type 0} (test : Bool) (a b : Outcome A) → Raises a → Raises b → Raises (if test then a else b)
choice_raises true a b h k = h
choice_raises false a b h k = k

-- ---- numbers

fitted_raises : (kind : SqlType) (number : ℤ) → Raises (numbers.fitted kind number)
fitted_raises kind number = choice_raises (is_in_range kind number) _ _ tt refl

computed_raises : (op : InfixOp) (kind : SqlType) (a b : ℤ) → Raises (numbers.computed op kind a b)
computed_raises Add kind a b = fitted_raises kind (a +ℤ b)
computed_raises Subtract kind a b = fitted_raises kind (a -ℤ b)
computed_raises Multiply kind a b = fitted_raises kind (a *ℤ b)
computed_raises Divide kind a b = choice_raises (int_eq b (pos 0)) _ _ refl (fitted_raises kind (int_div a b))
computed_raises Remainder kind a b = choice_raises (int_eq b (pos 0)) _ _ refl (fitted_raises kind (int_rem a b))

arithmetic_raises : (op : InfixOp) (kind : SqlType) (a b : Option ℤ) → Raises (numbers.arithmetic op kind a b)
arithmetic_raises op kind None b = tt
arithmetic_raises op kind (Some a) None = tt
arithmetic_raises op kind (Some a) (Some b) = computed_raises op kind a b

negation_raises : (kind : SqlType) (a : Option ℤ) → Raises (numbers.negation kind a)
negation_raises kind None = tt
negation_raises kind (Some a) = fitted_raises kind (neg_ℤ a)

length_raises : (x : Value) → Raises (texts.length_of x)
length_raises Null = tt
length_raises (Whole n) = tt
length_raises (Bit b) = tt
length_raises (Text u) = fitted_raises Int (pos (texts.count_units u))

number_raises : (a : Outcome Value) → Raises a → Raises (numbers.number_outcome a)
number_raises a h = after_raises a _ h (λ x. tt)

value_raises : (a : Outcome (Option ℤ)) → Raises a → Raises (numbers.value_outcome a)
value_raises a h = after_raises a _ h (λ x. tt)

infix_raises : (op : InfixOp) (kind : SqlType) (a b : Outcome Value) → Raises a → Raises b → Raises (meaning.infix_of op kind a b)
infix_raises op kind a b h k = choice_raises (is_text kind) _ _
    (after_raises a _ h (λ x. after_raises b _ k (λ y. tt)))
    (value_raises _ (after_raises (numbers.number_outcome a) _ (number_raises a h) (λ x. after_raises (numbers.number_outcome b) _ (number_raises b k) (λ y. arithmetic_raises op kind x y))))

-- ---- conversions

-- a fault of the table of conversions that CAST can have
abbrev CastFault : Result Value ConvertFault → Type 0
CastFault (Ok x) = Unit {0}
CastFault (Err Overflow) = Unit {0}
CastFault (Err NotANumber) = Unit {0}
CastFault (Err TooLong) = ⊥
CastFault (Err Memory) = ⊥

whole_faults : (kind : SqlType) (number : ℤ) → CastFault (rule.whole_in kind number)
whole_faults kind number = by_test (is_in_range kind number)
  where
    by_test : (b : Bool) → CastFault (if b then Ok (Whole number) else Err Overflow)
    by_test true = tt
    by_test false = tt

from_whole_faults : (to : SqlType) (number : ℤ) → CastFault (rule.from_whole to number)
from_whole_faults TinyInt number = whole_faults TinyInt number
from_whole_faults SmallInt number = whole_faults SmallInt number
from_whole_faults Int number = whole_faults Int number
from_whole_faults BigInt number = whole_faults BigInt number
from_whole_faults BitType number = tt
from_whole_faults (NText size) number = by_test (nat_le (length (signed_decimal number)) size)
  where
    by_test : (b : Bool) → CastFault (if b then Ok (Text (signed_decimal number)) else Err Overflow)
    by_test true = tt
    by_test false = tt

read_whole_faults : (kind : SqlType) (read : Option ℤ) → CastFault (rule.read_whole kind read)
read_whole_faults kind None = tt
read_whole_faults kind (Some number) = whole_faults kind number

bit_faults : (units : List ℕ) → CastFault (rule.bit_in units)
bit_faults units = by_test (rule.says (codes "true") units) (rule.says (codes "false") units)
  where
    read : (number : Option ℤ) → CastFault (rule.read_bit number)
    read None = tt
    read (Some number) = tt

    by_test : (a b : Bool) → CastFault (if a then Ok (Bit true) else if b then Ok (Bit false) else rule.read_bit (number_in units))
    by_test true b = tt
    by_test false true = tt
    by_test false false = read (number_in units)

from_text_faults : (to : SqlType) (units : List ℕ) → CastFault (rule.text_cut to units)
from_text_faults TinyInt units = read_whole_faults TinyInt (number_in units)
from_text_faults SmallInt units = read_whole_faults SmallInt (number_in units)
from_text_faults Int units = read_whole_faults Int (number_in units)
from_text_faults BigInt units = read_whole_faults BigInt (number_in units)
from_text_faults BitType units = bit_faults units
from_text_faults (NText size) units = tt

cast_faults : (value : Value) (to : SqlType) → CastFault (cast_of value to)
cast_faults Null to = tt
cast_faults (Whole number) to = from_whole_faults to number
cast_faults (Bit bit) to = from_whole_faults to (rule.bit_number bit)
cast_faults (Text units) to = from_text_faults to units

number_outside_raises : (to : SqlType) → IsTrue (is_fault (number_outside to))
number_outside_raises TinyInt = refl
number_outside_raises SmallInt = refl
number_outside_raises Int = refl
number_outside_raises BigInt = refl
number_outside_raises BitType = refl
number_outside_raises (NText size) = refl

text_outside_raises : (to : SqlType) → IsTrue (is_fault (text_outside to))
text_outside_raises TinyInt = refl
text_outside_raises SmallInt = refl
text_outside_raises Int = refl
text_outside_raises BigInt = refl
text_outside_raises BitType = refl
text_outside_raises (NText size) = refl

no_number_raises : (to : SqlType) → IsTrue (is_fault (no_number to))
no_number_raises TinyInt = refl
no_number_raises SmallInt = refl
no_number_raises Int = refl
no_number_raises BigInt = refl
no_number_raises BitType = refl
no_number_raises (NText size) = refl

cast_raises : (from to : SqlType) (cast : Result Value ConvertFault) → CastFault cast → Raises (cast_outcome from to cast)
cast_raises from to (Ok value) h = tt
cast_raises from to (Err NotANumber) h = no_number_raises to
cast_raises from to (Err Overflow) h = by_test (is_text from)
  where
    by_test : (b : Bool) → IsTrue (is_fault (if b then text_outside to else number_outside to))
    by_test true = text_outside_raises to
    by_test false = number_outside_raises to
cast_raises from to (Err TooLong) h = absurd h
cast_raises from to (Err Memory) h = absurd h

conversion_raises : (from to : SqlType) (x : Value) → Raises (conversion from to x)
conversion_raises from to x = cast_raises from to (cast_of x to) (cast_faults x to)

brought_raises : (from to : SqlType) (x : Value) → Raises (brought from to x)
brought_raises from to x = choice_raises (are_alike from to) _ _ tt (conversion_raises from to x)

-- ---- comparisons

compared_raises : (op : CompareOp) (a b : Outcome Value) → Raises a → Raises b → Raises (compared op a b)
compared_raises op a b h k = after_raises a _ h (λ x. after_raises b _ k (λ y. tt))

side_raises : (op : CompareOp) (kind : SqlType) (x : Value) (side : SideOutcome) → Raises side.1 → Raises (meaning.with_side op kind x side)
side_raises op kind x side h = compared_raises op _ _ (brought_raises kind side.0 x) h

both_raises : (a b : Outcome Truth) → Raises a → Raises b → Raises (both a b)
both_raises a b h k = after_raises a _ h (λ x. choice_raises (is_false x) _ _ tt (after_raises b _ k (λ y. tt)))

or_then_raises : (x : Truth) (b : Outcome Truth) → Raises b → Raises (or_then x b)
or_then_raises x b k = choice_raises (is_true x) _ _ tt (after_raises b _ k (λ y. tt))

row_raises : (kind other : SqlType) (x : Value) (row : List Value) → Raises (meaning.equals_row kind other x row)
row_raises kind other x row = compared_raises Equal _ _ (brought_raises kind _ x) (brought_raises other _ _)

rows_raise : (kind other : SqlType) (x : Value) (so_far : Truth) (rows : List (List Value)) → Raises (any_onto so_far (map (meaning.equals_row kind other x) rows))
rows_raise kind other x so_far [] = tt
rows_raise kind other x so_far (row ∷ rest) = after_raises _ _ (or_then_raises so_far _ (row_raises kind other x row)) (λ t. rows_raise kind other x t rest)

scalar_raises : (rows : List (List Value)) → Raises (scalar_of rows)
scalar_raises [] = tt
scalar_raises (row ∷ []) = tt
scalar_raises (row ∷ other ∷ rest) = refl

-- ---- trees

module _ (setting : Setting) where
  abbrev P : BoundExpr → Type 0
  P e = Raises (meaning.value setting e)

  abbrev T : BoundTest → Type 0
  T t = Raises (meaning.truth setting t)

  abbrev Q : BoundArm → Type 0
  Q a = Raises ((meaning.arm_of setting a).0) × Raises ((meaning.arm_of setting a).1)

  abbrev S : BoundSide → Type 0
  S s = Raises ((meaning.side_of setting s).1)

  abbrev exprs_below : BoundExpr-F ((e : BoundExpr) × P e) ((t : BoundTest) × T t) ((a : BoundArm) × Q a) ((s : BoundSide) × S s) → BoundExpr-F BoundExpr BoundTest BoundArm BoundSide
  exprs_below = map-BoundExpr _ _ _ _ BoundExpr BoundTest BoundArm BoundSide (λ e. e.0) (λ e. e.0) (λ e. e.0) (λ e. e.0)

  abbrev tests_below : BoundTest-F ((e : BoundExpr) × P e) ((t : BoundTest) × T t) ((a : BoundArm) × Q a) ((s : BoundSide) × S s) → BoundTest-F BoundExpr BoundTest BoundArm BoundSide
  tests_below = map-BoundTest _ _ _ _ BoundExpr BoundTest BoundArm BoundSide (λ e. e.0) (λ e. e.0) (λ e. e.0) (λ e. e.0)

  abbrev expr_outcomes : BoundExpr-F BoundExpr BoundTest BoundArm BoundSide → BoundExpr-F (Outcome Value) (Outcome Truth) ArmOutcome SideOutcome
  expr_outcomes = map-BoundExpr _ _ _ _ (Outcome Value) (Outcome Truth) ArmOutcome SideOutcome (meaning.value setting) (meaning.truth setting) (meaning.arm_of setting) (meaning.side_of setting)

  abbrev test_outcomes : BoundTest-F BoundExpr BoundTest BoundArm BoundSide → BoundTest-F (Outcome Value) (Outcome Truth) ArmOutcome SideOutcome
  test_outcomes = map-BoundTest _ _ _ _ (Outcome Value) (Outcome Truth) ArmOutcome SideOutcome (meaning.value setting) (meaning.truth setting) (meaning.arm_of setting) (meaning.side_of setting)

  items_raise : (items : List ((e : BoundExpr) × P e)) → Raises (meaning.first_known (map (meaning.value setting) (map (λ p. p.0) items)))
  items_raise [] = tt
  items_raise (p ∷ rest) = after_raises _ _ p.1 (λ x. choice_raises (is_null x) _ _ (items_raise rest) tt)

  arms_raise : (arms : List ((a : BoundArm) × Q a)) → Raises (meaning.chosen (map (meaning.arm_of setting) (map (λ p. p.0) arms)))
  arms_raise [] = tt
  arms_raise (p ∷ rest) = after_raises _ _ p.1.0 (λ t. choice_raises (is_true t) _ _ (after_raises _ _ p.1.1 (λ x. tt)) (arms_raise rest))

  sides_raise : (kind : SqlType) (x : Value) (so_far : Truth) (sides : List ((s : BoundSide) × S s)) → Raises (any_onto so_far (map (meaning.equals_side kind x) (map (meaning.side_of setting) (map (λ p. p.0) sides))))
  sides_raise kind x so_far [] = tt
  sides_raise kind x so_far (p ∷ rest) = after_raises _ _ (or_then_raises so_far _ (side_raises Equal kind x _ p.1)) (λ t. sides_raise kind x t rest)

  or_else_raises : (x : Option Value) (other : Outcome Value) → Raises other → Raises (meaning.or_else x other)
  or_else_raises None other h = h
  or_else_raises (Some x) other h = tt

  expr_raises : (y : BoundExpr-F ((e : BoundExpr) × P e) ((t : BoundTest) × T t) ((a : BoundArm) × Q a) ((s : BoundSide) × S s)) → Raises (meaning.expr_step setting (expr_outcomes (exprs_below y)))
  expr_raises (BoundExpr-F.Constant x) = tt
  expr_raises (BoundExpr-F.Cell place) = tt
  expr_raises (BoundExpr-F.Variable place) = tt
  expr_raises (BoundExpr-F.System of) = tt
  expr_raises (BoundExpr-F.Negate kind a) = value_raises _ (after_raises _ _ (number_raises _ a.1) (negation_raises kind))
  expr_raises (BoundExpr-F.Infix op kind a b) = infix_raises op kind _ _ a.1 b.1
  expr_raises (BoundExpr-F.Convert from to a) = after_raises _ _ a.1 (conversion_raises from to)
  expr_raises (BoundExpr-F.Case arms other) = after_raises _ _ (arms_raise arms) (λ x. or_else_raises x _ other.1)
  expr_raises (BoundExpr-F.Coalesce items) = items_raise items
  expr_raises (BoundExpr-F.NullIf kind a side) = after_raises _ _ a.1 (λ x. after_raises _ _ (side_raises Equal kind x _ side.1) (λ t. tt))
  expr_raises (BoundExpr-F.Length a) = value_raises _ (after_raises _ _ a.1 length_raises)
  expr_raises (BoundExpr-F.Scalar place) = scalar_raises (rows_at setting.inner place)

  test_raises : (y : BoundTest-F ((e : BoundExpr) × P e) ((t : BoundTest) × T t) ((a : BoundArm) × Q a) ((s : BoundSide) × S s)) → Raises (meaning.test_step setting (test_outcomes (tests_below y)))
  test_raises (BoundTest-F.Compare op a b) = compared_raises op _ _ a.1 b.1
  test_raises (BoundTest-F.IsNull a) = after_raises _ _ a.1 (λ x. tt)
  test_raises (BoundTest-F.Between kind a low high) = after_raises _ _ a.1 (λ x. both_raises _ _ (side_raises GreaterEqual kind x _ low.1) (side_raises LessEqual kind x _ high.1))
  test_raises (BoundTest-F.InList kind a sides) = after_raises _ _ a.1 (λ x. sides_raise kind x truth.False sides)
  test_raises (BoundTest-F.InQuery kind a other place) = after_raises _ _ a.1 (λ x. rows_raise kind other x truth.False (rows_at setting.inner place))
  test_raises (BoundTest-F.Exists place) = tt
  test_raises (BoundTest-F.And a b) = both_raises _ _ a.1 b.1
  test_raises (BoundTest-F.Or a b) = after_raises _ _ a.1 (λ x. or_then_raises x _ b.1)
  test_raises (BoundTest-F.Not a) = after_raises _ _ a.1 (λ x. tt)

  expr_layer : (y : BoundExpr-F ((e : BoundExpr) × P e) ((t : BoundTest) × T t) ((a : BoundArm) × Q a) ((s : BoundSide) × S s)) → P (roll-BoundExpr (exprs_below y))
  expr_layer y = subst Raises (sym (fold-roll-BoundExpr (Outcome Value) (Outcome Truth) ArmOutcome SideOutcome (meaning.expr_step setting) (meaning.test_step setting) (meaning.arm_step setting) (meaning.side_step setting) (exprs_below y))) (expr_raises y)

  test_layer : (y : BoundTest-F ((e : BoundExpr) × P e) ((t : BoundTest) × T t) ((a : BoundArm) × Q a) ((s : BoundSide) × S s)) → T (roll-BoundTest (tests_below y))
  test_layer y = subst Raises (sym (fold-roll-BoundTest (Outcome Value) (Outcome Truth) ArmOutcome SideOutcome (meaning.expr_step setting) (meaning.test_step setting) (meaning.arm_step setting) (meaning.side_step setting) (tests_below y))) (test_raises y)

  arm_layer : (t : BoundTest) (e : BoundExpr) → T t → P e → Q (roll-BoundArm (record { test = t; gives = e }))
  arm_layer t e h k =
      let z : BoundArm-F BoundExpr BoundTest BoundArm BoundSide = record { test = t; gives = e } in
      let R : ArmOutcome → Type 0 = λ a. Raises a.0 × Raises a.1 in
      subst R (sym (fold-roll-BoundArm (Outcome Value) (Outcome Truth) ArmOutcome SideOutcome (meaning.expr_step setting) (meaning.test_step setting) (meaning.arm_step setting) (meaning.side_step setting) z)) (h, k)

  side_layer : (kind : SqlType) (e : BoundExpr) → P e → S (roll-BoundSide (record { pair = kind; expr = e }))
  side_layer kind e h =
      let z : BoundSide-F BoundExpr BoundTest BoundArm BoundSide = record { pair = kind; expr = e } in
      let R : SideOutcome → Type 0 = λ a. Raises a.1 in
      subst R (sym (fold-roll-BoundSide (Outcome Value) (Outcome Truth) ArmOutcome SideOutcome (meaning.expr_step setting) (meaning.test_step setting) (meaning.arm_step setting) (meaning.side_step setting) z)) h

  pub value_faults : (e : BoundExpr) → P e
  value_faults = ind-BoundExpr P T Q S
      (λ x y is. subst (λ z. P (roll-BoundExpr z)) is (expr_layer y))
      (λ x y is. subst (λ z. T (roll-BoundTest z)) is (test_layer y))
      (λ x y is. subst (λ z. Q (roll-BoundArm z)) is (arm_layer y.test.0 y.gives.0 y.test.1 y.gives.1))
      (λ x y is. subst (λ z. S (roll-BoundSide z)) is (side_layer y.pair y.expr.0 y.expr.1))

  pub truth_faults : (t : BoundTest) → T t
  truth_faults = ind-BoundTest P T Q S
      (λ x y is. subst (λ z. P (roll-BoundExpr z)) is (expr_layer y))
      (λ x y is. subst (λ z. T (roll-BoundTest z)) is (test_layer y))
      (λ x y is. subst (λ z. Q (roll-BoundArm z)) is (arm_layer y.test.0 y.gives.0 y.test.1 y.gives.1))
      (λ x y is. subst (λ z. S (roll-BoundSide z)) is (side_layer y.pair y.expr.0 y.expr.1))
