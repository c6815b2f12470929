use Rattle.std.proofs.Common.{◌≡◌, ◌≤◌, List, Some, arith, rules, subst, sym}
use mir.Syntax.{w32}
use mir.Val.{SFits}
use Rattle.value_types.specs.declared.value.Value.{Value}
use Rattle.bound_tree.specs.Typed.{AreOf}
use Rattle.batch_meaning.specs.Raised.{error_values}
use Rattle.session_state.specs.Parts.{error_kinds}
use Rattle.session_state.proofs.Casting.{errors_typed}
use Rattle.session_state.proofs.system.values_of.Goals as goal

pub returns-clause-typed : goal.returns-clause-typed
returns-clause-typed c =
    let is : c.in_ok-vec.field-0.items ≡ error_values (Some c.args.raised.now) = search rules in
    let number : SFits w32 c.args.raised.now.number = search rules in
    let line : SFits w32 c.args.raised.now.line = search rules in
    let class : c.args.raised.now.class ≤ 255 = omega arith in
    let state : c.args.raised.now.state ≤ 255 = omega arith in
    subst (λ (l : List Value). AreOf error_kinds l) (sym is) (errors_typed c.args.raised.now number class state line c.in_ok-procedure.ensures.short)
