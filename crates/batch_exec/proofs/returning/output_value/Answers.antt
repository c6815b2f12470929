use Rattle.std.proofs.Common.{◌≡◌, ℕ, ◌<◌, arith, length, sym, subst}
use Rattle.std.specs.Prelude.{IfOk}
use Rattle.value_types.specs.declared.value.Value.{Value}
use Rattle.session_vars.specs.Variables.{StandsAt}
use Rattle.batch_meaning.specs.Calls.{output_value}
use Rattle.batch_exec.proofs.Called.{value_there}
use Rattle.batch_exec.proofs.returning.output_value.Goals as goal

pub returns-then-output-from : goal.returns-then-output-from
returns-then-output-from c =
    let within : c.args.output.now.place < length c.args.inner.now = omega (arith, c.if-output-from.true, c.from.ensures, c.count.ensures) in
    let there : c.get.result.now ≡ output_value c.args.inner.now c.args.output.now =
    value_there c.args.inner.now c.args.output.now.place c.get.result.now within (λ variable stands. c.get.ensures variable (subst (λ (n : ℕ). StandsAt n variable c.args.inner.now) (sym c.narrow.ensures) stands)) in
    subst (λ (v : Value). IfOk c.copy.result (λ value. value ≡ v)) there c.copy.ensures
