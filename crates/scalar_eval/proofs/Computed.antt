-- Numbers of which no value is made: what computes a number gives one or NULL, and compares as it.
use Rattle.std.proofs.Common.{◌≡◌, refl, sym, ◌∙◌, subst, Bool, true, false, not, ◌||◌, ℤ, Option, Some, None, Ok, Err, if◌then◌else◌}
use Rattle.value_types.specs.declared.value.Value.{Value}
use Rattle.value_types.specs.declared.value.Value.TheVariants.{Null, Whole, Bit, Text}
use Rattle.convert_rules.specs.Conversion.{is_text}
use Rattle.bound_tree.specs.declared.truth.Truth.{Truth}
use Rattle.bound_tree.specs.declared.expr.CompareOp.{CompareOp}
use Rattle.bound_tree.specs.declared.expr.BoundExpr.{BoundExpr}
use Rattle.bound_tree.specs.declared.expr.BoundTest.{BoundTest}
use Rattle.bound_tree.specs.declared.expr.BoundArm.{BoundArm}
use Rattle.bound_tree.specs.declared.expr.BoundSide.{BoundSide}
use Rattle.bound_tree.specs.declared.expr.BoundExpr.TheOpen.{BoundExpr-F}
use Rattle.bound_tree.specs.declared.expr.BoundExpr.TheViews.{out-BoundExpr}
use Rattle.bound_tree.specs.declared.expr.BoundExpr.TheFolds.{fold_out-BoundExpr, map-BoundExpr}
use Rattle.bound_tree.specs.Outcomes.{Outcome}
use Rattle.bound_tree.specs.Numbers as numbers
use Rattle.bound_tree.specs.Numbers.{number_of, number_outcome, value_of, value_outcome}
use Rattle.bound_tree.specs.Texts as texts
use Rattle.bound_tree.specs.Comparisons.{compared, order_of, order_truth}
use Rattle.bound_tree.specs.Setting.{Setting}
use Rattle.bound_tree.specs.Meaning as meaning
use Rattle.bound_tree.specs.Meaning.{ArmOutcome, SideOutcome}
use Rattle.scalar_eval.specs.Operands.{GivesNumber, computes, is_computation}

-- ---- what computes a number

-- what comes of a computation is a number or NULL
gives_number : (outcome : Outcome (Option ℤ)) → GivesNumber (value_outcome outcome)
gives_number (Ok None) = refl
gives_number (Ok (Some number)) = refl
gives_number (Err number) = tt

module _ (setting : Setting) where
  abbrev Node : Type 0
  Node = BoundExpr-F BoundExpr BoundTest BoundArm BoundSide

  abbrev outcomes : Node → BoundExpr-F (Outcome Value) (Outcome Truth) ArmOutcome SideOutcome
  outcomes = map-BoundExpr _ _ _ _ (Outcome Value) (Outcome Truth) ArmOutcome SideOutcome (meaning.value setting) (meaning.truth setting) (meaning.arm_of setting) (meaning.side_of setting)

  by_node : (node : Node) → is_computation node ≡ true → GivesNumber (meaning.expr_step setting (outcomes node))
  by_node (BoundExpr-F.Constant x) h = cc
  by_node (BoundExpr-F.Cell place) h = cc
  by_node (BoundExpr-F.Variable place) h = cc
  by_node (BoundExpr-F.System of) h = cc
  by_node (BoundExpr-F.Negate kind a) h = gives_number (numbers.negation_of kind (number_outcome (meaning.value setting a)))
  by_node (BoundExpr-F.Infix op kind a b) h = by_test (is_text kind) h
    where
      by_test : (is : Bool) → not is ≡ true → GivesNumber (if is then texts.joined_of (meaning.value setting a) (meaning.value setting b)
          else value_outcome (numbers.arithmetic_of op kind (number_outcome (meaning.value setting a)) (number_outcome (meaning.value setting b))))
      by_test true h = cc
      by_test false h = gives_number (numbers.arithmetic_of op kind (number_outcome (meaning.value setting a)) (number_outcome (meaning.value setting b)))
  by_node (BoundExpr-F.Convert from to a) h = cc
  by_node (BoundExpr-F.Case arms other) h = cc
  by_node (BoundExpr-F.Coalesce items) h = cc
  by_node (BoundExpr-F.NullIf kind a side) h = cc
  by_node (BoundExpr-F.Length a) h = cc
  by_node (BoundExpr-F.Scalar place) h = cc

  pub number_computed : (expr : BoundExpr) → computes expr ≡ true → GivesNumber (meaning.value setting expr)
  number_computed expr h =
      let unfolded = fold_out-BoundExpr (Outcome Value) (Outcome Truth) ArmOutcome SideOutcome (meaning.expr_step setting) (meaning.test_step setting) (meaning.arm_step setting) (meaning.side_step setting) expr in
      subst GivesNumber (sym unfolded) (by_node (out-BoundExpr expr) h)

-- ---- outcomes by their numbers

-- the value of a number that was computed
pub value_of_number : (a : Outcome Value) (x : Option ℤ) → GivesNumber a → number_outcome a ≡ Ok x → a ≡ Ok (value_of x)
value_of_number (Ok v) x is told = λ j. Ok (value_is v x is told j)
  where
    value_is : (v : Value) (x : Option ℤ) → value_of (number_of v) ≡ v → number_outcome (Ok v) ≡ Ok x → v ≡ value_of x
    value_is v x is told = cc
value_of_number (Err n) x is told = cc

-- values compare as their numbers do, where one of them is a number or NULL
order_left : (a b : Value) → value_of (number_of a) ≡ a → order_of a b ≡ order_of (value_of (number_of a)) (value_of (number_of b))
order_left Null Null is = refl
order_left Null (Whole m) is = refl
order_left Null (Bit m) is = refl
order_left Null (Text m) is = refl
order_left (Whole n) Null is = refl
order_left (Whole n) (Whole m) is = refl
order_left (Whole n) (Bit m) is = refl
order_left (Whole n) (Text m) is = refl
order_left (Bit n) b is = cc
order_left (Text n) b is = cc

order_right : (a b : Value) → value_of (number_of b) ≡ b → order_of a b ≡ order_of (value_of (number_of a)) (value_of (number_of b))
order_right Null Null is = refl
order_right (Whole n) Null is = refl
order_right (Bit n) Null is = refl
order_right (Text n) Null is = refl
order_right Null (Whole m) is = refl
order_right (Whole n) (Whole m) is = refl
order_right (Bit n) (Whole m) is = refl
order_right (Text n) (Whole m) is = refl
order_right a (Bit m) is = cc
order_right a (Text m) is = cc

pub numbers_compared : (setting : Setting) (op : CompareOp) (a b : BoundExpr) (x y : Option ℤ) → (computes a || computes b) ≡ true
    → number_outcome (meaning.value setting a) ≡ Ok x → number_outcome (meaning.value setting b) ≡ Ok y
    → compared op (meaning.value setting a) (meaning.value setting b) ≡ Ok (order_truth op (order_of (value_of x) (value_of y)))
numbers_compared setting op a b x y one first second = by_side (computes a) (computes b) refl refl one
  where
    left : (v w : Outcome Value) → GivesNumber v → number_outcome v ≡ Ok x → number_outcome w ≡ Ok y → compared op v w ≡ Ok (order_truth op (order_of (value_of x) (value_of y)))
    left (Ok v) (Ok w) is first second = λ j. Ok (order_truth op ((order_left v w is ∙ both_are) j))
      where
        both_are : order_of (value_of (number_of v)) (value_of (number_of w)) ≡ order_of (value_of x) (value_of y)
        both_are = cc
    left (Ok v) (Err n) is first second = cc
    left (Err n) w is first second = cc

    right : (v w : Outcome Value) → GivesNumber w → number_outcome v ≡ Ok x → number_outcome w ≡ Ok y → compared op v w ≡ Ok (order_truth op (order_of (value_of x) (value_of y)))
    right (Ok v) (Ok w) is first second = λ j. Ok (order_truth op ((order_right v w is ∙ both_are) j))
      where
        both_are : order_of (value_of (number_of v)) (value_of (number_of w)) ≡ order_of (value_of x) (value_of y)
        both_are = cc
    right (Ok v) (Err n) is first second = cc
    right (Err n) w is first second = cc

    by_side : (p q : Bool) → computes a ≡ p → computes b ≡ q → (p || q) ≡ true → compared op (meaning.value setting a) (meaning.value setting b) ≡ Ok (order_truth op (order_of (value_of x) (value_of y)))
    by_side true q is other h = left _ _ (number_computed setting a is) first second
    by_side false true is other h = right _ _ (number_computed setting b other) first second
    by_side false false is other h = cc
