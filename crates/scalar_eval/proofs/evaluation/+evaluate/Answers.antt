use Rattle.std.proofs.Common.{◌≡◌, rules, true, ◌||◌, Ok}
use Rattle.bound_tree.specs.declared.expr.BoundExpr.{the_lemmas}
use Rattle.bound_tree.specs.Numbers.{number_outcome}
use Rattle.bound_tree.specs.Meaning as meaning
use Rattle.scalar_eval.specs.Operands.{computes}
use Rattle.scalar_eval.specs.Scopes.{setting_of}
use Rattle.scalar_eval.proofs.Computed.{number_computed, numbers_compared, value_of_number}
use Rattle.scalar_eval.proofs.evaluation.+evaluate.Goals as goal

pub operand-returns-then-is_computed : goal.operand-returns-then-is_computed
operand-returns-then-is_computed depth c =
    let setting = setting_of c.args.scope.now in
    let is : computes c.args.expr.now ≡ true = search rules in
    let told : number_outcome (meaning.value setting c.args.expr.now) ≡ Ok c.in_ok-computed.field-0 = search rules in
    search (rules, value_of_number (meaning.value setting c.args.expr.now) c.in_ok-computed.field-0 (number_computed setting c.args.expr.now is) told)

pub truth-returns-in_ok-y-in-Compare : goal.truth-returns-in_ok-y-in-Compare
truth-returns-in_ok-y-in-Compare depth c =
    let setting = setting_of c.args.scope.now in
    let a = c.get-in-Compare.result.now in
    let b = c.get-in-Compare-2.result.now in
    let one : (computes a || computes b) ≡ true = search rules in
    let first : number_outcome (meaning.value setting a) ≡ Ok c.in_ok-x-in-Compare.x = search rules in
    let second : number_outcome (meaning.value setting b) ≡ Ok c.in_ok-y-in-Compare.y = search rules in
    search (rules, the_lemmas, numbers_compared setting c.in-Compare.op a b c.in_ok-x-in-Compare.x c.in_ok-y-in-Compare.y one first second)
