-- Own: values lent and made, and numbers of which no value is made. Private contracts alone cite this.
use Rattle.std.specs.Prelude.{◌≡◌, Bool, true, false, not, Result, Ok, Err}
use Rattle.value_types.specs.declared.value.Value.{Value}
use Rattle.convert_rules.specs.Conversion.{is_text}
use Rattle.bound_tree.specs.declared.expr.BoundExpr.{BoundExpr}
use Rattle.bound_tree.specs.declared.expr.BoundTest.{BoundTest}
use Rattle.bound_tree.specs.declared.expr.BoundArm.{BoundArm}
use Rattle.bound_tree.specs.declared.expr.BoundSide.{BoundSide}
use Rattle.bound_tree.specs.declared.expr.BoundExpr.TheOpen.{BoundExpr-F}
use Rattle.bound_tree.specs.declared.expr.BoundExpr.TheViews.{out-BoundExpr}
use Rattle.bound_tree.specs.Outcomes.{Outcome}
use Rattle.bound_tree.specs.Numbers.{number_of, value_of}
use Rattle.scalar_eval.specs.declared.fault.Stop.{Stop}
use Rattle.scalar_eval.specs.declared.fault.Stop.TheVariants as stop
use Rattle.scalar_eval.specs.declared.operand.Operand.{Operand}
use Rattle.scalar_eval.specs.declared.operand.Operand.TheVariants.{Lent, Made}

abbrev pub operand_value : Operand → Value
operand_value (Lent value) = value.now
operand_value (Made value) = value

-- the operand is this outcome, if memory is not wanting
abbrev pub FindsOperand : Result Operand Stop → Outcome Value → Type 0
FindsOperand (Ok x) outcome = outcome ≡ Ok (operand_value x)
FindsOperand (Err (stop.Number number)) outcome = outcome ≡ Err number
FindsOperand (Err stop.Memory) outcome = Unit {0}

-- a value that comes of it is a number or NULL
abbrev pub GivesNumber : Outcome Value → Type 0
GivesNumber (Ok x) = value_of (number_of x) ≡ x
GivesNumber (Err number) = Unit {0}

-- the expression computes a whole number
abbrev pub is_computation : BoundExpr-F BoundExpr BoundTest BoundArm BoundSide → Bool
is_computation (BoundExpr-F.Negate kind a) = true
is_computation (BoundExpr-F.Infix op kind a b) = not (is_text kind)
is_computation other = false

abbrev pub computes : BoundExpr → Bool
computes expr = is_computation (out-BoundExpr expr)
