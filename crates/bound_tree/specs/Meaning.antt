-- Transact-SQL reference, "Expressions" and "Search condition": what an expression gives, and what a test
-- says. Operands are taken from the left and the first error stands; CASE evaluates the arms up to the
-- first true one, AND and OR their right side only where the left doesn't decide. Each type of tree has
-- one function over its node, in which each part is replaced by what came of it; what is not evaluated
-- is not looked at there.
use Rattle.std.specs.Prelude.{Bool, true, false, if◌then◌else◌, List, [], ◌∷◌, map, Option, Some, None, Ok}
use Rattle.value_types.specs.declared.sql_type.SqlType.{SqlType}
use Rattle.value_types.specs.declared.value.Value.{Value}
use Rattle.value_types.specs.declared.value.Value.TheVariants.{Null, Whole, Bit, Text}
use Rattle.convert_rules.specs.Conversion.{is_text}
use Rattle.bound_tree.specs.declared.expr.InfixOp.{InfixOp}
use Rattle.bound_tree.specs.declared.expr.CompareOp.{CompareOp}
use Rattle.bound_tree.specs.declared.expr.CompareOp.TheVariants.{Equal, LessEqual, GreaterEqual}
use Rattle.bound_tree.specs.declared.expr.BoundExpr.{BoundExpr}
use Rattle.bound_tree.specs.declared.expr.BoundTest.{BoundTest}
use Rattle.bound_tree.specs.declared.expr.BoundArm.{BoundArm}
use Rattle.bound_tree.specs.declared.expr.BoundSide.{BoundSide}
use Rattle.bound_tree.specs.declared.expr.BoundExpr.TheOpen.{BoundExpr-F, BoundTest-F, BoundArm-F, BoundSide-F}
use Rattle.bound_tree.specs.declared.expr.BoundExpr.TheFolds.{fold-BoundExpr, fold-BoundTest, fold-BoundArm, fold-BoundSide}
use Rattle.bound_tree.specs.declared.truth.Truth.{Truth}
use Rattle.bound_tree.specs.Truths.{is_true, not, truth_of}
use Rattle.bound_tree.specs.Kinds.{higher}
use Rattle.bound_tree.specs.Outcomes.{Outcome, after}
use Rattle.bound_tree.specs.Numbers.{arithmetic_of, negation_of, number_outcome, value_outcome}
use Rattle.bound_tree.specs.Texts.{joined_of, length_of}
use Rattle.bound_tree.specs.Conversions.{brought, conversion}
use Rattle.bound_tree.specs.Comparisons.{any_of, both, compared, either}
use Rattle.bound_tree.specs.Setting.{Setting, only_of, rows_at, scalar_of, system_place, value_at}

abbrev pub is_null : Value → Bool
is_null Null = true
is_null (Whole number) = false
is_null (Bit bit) = false
is_null (Text units) = false

-- what comes of an arm: what its test says, and what it gives
abbrev pub ArmOutcome : Type 0
ArmOutcome = Outcome Truth × Outcome Value

-- what comes of the other side of a comparison: the type in which the pair is compared, and its value
abbrev pub SideOutcome : Type 0
SideOutcome = SqlType × Outcome Value

-- arithmetic, or two texts joined
abbrev pub infix_of : InfixOp → SqlType → Outcome Value → Outcome Value → Outcome Value
infix_of op kind a b = if is_text kind then joined_of a b
    else value_outcome (arithmetic_of op kind (number_outcome a) (number_outcome b))

-- the first that isn't NULL; the ones behind it are not evaluated
abbrev pub first_known : List (Outcome Value) → Outcome Value
first_known [] = Ok Null
first_known (a ∷ rest) = after a (λ x. if is_null x then first_known rest else Ok x)

-- what the first arm gives whose test is true, where there is one
abbrev pub chosen : List ArmOutcome → Outcome (Option Value)
chosen [] = Ok None
chosen (arm ∷ rest) = after arm.0 (λ test. if is_true test then after arm.1 (λ x. Ok (Some x)) else chosen rest)

abbrev pub or_else : Option Value → Outcome Value → Outcome Value
or_else None other = other
or_else (Some x) other = Ok x

-- how a value, which is of this type, compares with the other side
abbrev pub with_side : CompareOp → SqlType → Value → SideOutcome → Outcome Truth
with_side op kind x side = compared op (brought kind side.0 x) side.1

abbrev pub equals_side : SqlType → Value → SideOutcome → Outcome Truth
equals_side kind x side = with_side Equal kind x side

abbrev pub null_if : SqlType → Outcome Value → SideOutcome → Outcome Value
null_if kind a side = after a (λ x. after (equals_side kind x side) (λ equal. Ok (if is_true equal then Null else x)))

abbrev pub between : SqlType → Outcome Value → SideOutcome → SideOutcome → Outcome Truth
between kind a low high = after a (λ x. both (with_side GreaterEqual kind x low) (with_side LessEqual kind x high))

abbrev pub in_list : SqlType → Outcome Value → List SideOutcome → Outcome Truth
in_list kind a sides = after a (λ x. any_of (map (equals_side kind x) sides))

-- the value, which is of this type, equals the one of a row, which is of another
abbrev pub equals_row : SqlType → SqlType → Value → List Value → Outcome Truth
equals_row kind other x row = let pair = higher kind other in compared Equal (brought kind pair x) (brought other pair (only_of row))

abbrev pub in_rows : SqlType → Outcome Value → SqlType → List (List Value) → Outcome Truth
in_rows kind a other rows = after a (λ x. any_of (map (equals_row kind other x) rows))

abbrev pub has_rows : List (List Value) → Bool
has_rows [] = false
has_rows (row ∷ rest) = true

module _ (setting : Setting) where
  abbrev pub expr_step : BoundExpr-F (Outcome Value) (Outcome Truth) ArmOutcome SideOutcome → Outcome Value
  expr_step (BoundExpr-F.Constant x) = Ok x
  expr_step (BoundExpr-F.Cell place) = Ok (value_at setting.row place)
  expr_step (BoundExpr-F.Variable place) = Ok (value_at setting.vars place)
  expr_step (BoundExpr-F.System of) = Ok (value_at setting.system (system_place of))
  expr_step (BoundExpr-F.Negate kind a) = value_outcome (negation_of kind (number_outcome a))
  expr_step (BoundExpr-F.Infix op kind a b) = infix_of op kind a b
  expr_step (BoundExpr-F.Convert from to a) = after a (conversion from to)
  expr_step (BoundExpr-F.Case arms other) = after (chosen arms) (λ x. or_else x other)
  expr_step (BoundExpr-F.Coalesce items) = first_known items
  expr_step (BoundExpr-F.NullIf kind a side) = null_if kind a side
  expr_step (BoundExpr-F.Length a) = value_outcome (after a length_of)
  expr_step (BoundExpr-F.Scalar place) = scalar_of (rows_at setting.inner place)

  abbrev pub test_step : BoundTest-F (Outcome Value) (Outcome Truth) ArmOutcome SideOutcome → Outcome Truth
  test_step (BoundTest-F.Compare op a b) = compared op a b
  test_step (BoundTest-F.IsNull a) = after a (λ x. Ok (truth_of (is_null x)))
  test_step (BoundTest-F.Between kind a low high) = between kind a low high
  test_step (BoundTest-F.InList kind a sides) = in_list kind a sides
  test_step (BoundTest-F.InQuery kind a other place) = in_rows kind a other (rows_at setting.inner place)
  test_step (BoundTest-F.Exists place) = Ok (truth_of (has_rows (rows_at setting.inner place)))
  test_step (BoundTest-F.And a b) = both a b
  test_step (BoundTest-F.Or a b) = either a b
  test_step (BoundTest-F.Not a) = after a (λ x. Ok (not x))

  abbrev pub arm_step : BoundArm-F (Outcome Value) (Outcome Truth) ArmOutcome SideOutcome → ArmOutcome
  arm_step arm = (arm.test, arm.gives)

  abbrev pub side_step : BoundSide-F (Outcome Value) (Outcome Truth) ArmOutcome SideOutcome → SideOutcome
  side_step side = (side.pair, side.expr)

  -- what an expression gives
  abbrev pub value : BoundExpr → Outcome Value
  value = fold-BoundExpr (Outcome Value) (Outcome Truth) ArmOutcome SideOutcome expr_step test_step arm_step side_step

  -- what a test says
  abbrev pub truth : BoundTest → Outcome Truth
  truth = fold-BoundTest (Outcome Value) (Outcome Truth) ArmOutcome SideOutcome expr_step test_step arm_step side_step

  -- what comes of an arm, and of the other side of a comparison
  abbrev pub arm_of : BoundArm → ArmOutcome
  arm_of = fold-BoundArm (Outcome Value) (Outcome Truth) ArmOutcome SideOutcome expr_step test_step arm_step side_step

  abbrev pub side_of : BoundSide → SideOutcome
  side_of = fold-BoundSide (Outcome Value) (Outcome Truth) ArmOutcome SideOutcome expr_step test_step arm_step side_step
