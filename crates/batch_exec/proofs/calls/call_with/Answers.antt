use Rattle.std.proofs.Common.{◌≡◌, to_z, of_z, inl, Ok, Err, refl, rules, subst}
use Rattle.std.specs.Int.{w32}
use Rattle.value_types.specs.declared.value.Value.{Value}
use Rattle.call_rules.specs.declared.fault.CallFault.{CallFault}
use Rattle.call_rules.specs.Arguments.{GivesItems, argument_values}
use Rattle.batch_exec.proofs.Called.{values_typed}
use Rattle.batch_exec.proofs.calls.call_with.Goals as goal

pub returns-in-Ok-clause-came : goal.returns-in-Ok-clause-came
returns-in-Ok-clause-came c =
    let is : argument_values c.args.vars.now c.args.procedure.parameters c.args.arguments.now ≡ Ok c.in-Ok.values.items = rw c.as_slice.ensures at c.in-Ok.ensures in
    rw is (inl refl)

pub returns-in-Err-Number-clause-came : goal.returns-in-Err-Number-clause-came
returns-in-Err-Number-clause-came c =
    let same : to_z w32 (of_z w32 c.in-Err-Number.number) ≡ c.in-Err-Number.number = search rules in
    let is : argument_values c.args.vars.now c.args.procedure.parameters c.args.arguments.now ≡ Err c.in-Err-Number.number =
    subst (λ (fault : CallFault). GivesItems {A = Value} (Err fault) (argument_values c.args.vars.now c.args.procedure.parameters c.args.arguments.now)) c.in-Err-Number.field-0-is (rw c.as_slice.ensures at c.in-Err-Number.ensures) in
    rw (is, same) (inl refl)

pub returns-in-Ok-clause-typed : goal.returns-in-Ok-clause-typed
returns-in-Ok-clause-typed c = values_typed c.args.vars.now _ c.args.arguments.now _ (rw c.as_slice.ensures at c.in-Ok.ensures)
