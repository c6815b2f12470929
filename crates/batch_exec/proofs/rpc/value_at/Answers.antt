use Rattle.std.proofs.Common.{◌≡◌, ◌<◌, arith, get_or, length, refl}
use Rattle.value_types.specs.Types.{IsOf}
use Rattle.value_types.specs.declared.value.Value.{Value}
use Rattle.value_types.specs.declared.value.Value.TheVariants.{Null}
use Rattle.batch_meaning.specs.Progress.{values_of}
use Rattle.batch_exec.proofs.Called.{value_there}
use Rattle.batch_exec.proofs.Parameters.{copy_has, typed_there}
use Rattle.batch_exec.proofs.rpc.value_at.Goals as goal

pub returns-clause-there : goal.returns-clause-there
returns-clause-there c =
    let within : c.args.place < length c.args.vars.now = omega (arith, c.count.ensures) in
    copy_has (λ (v : Value). v ≡ get_or (values_of c.args.vars.now) c.args.place Null) c.get.result.now c.copy.result (value_there c.args.vars.now c.args.place c.get.result.now within c.get.ensures) c.copy.ensures

pub returns-clause-typed : goal.returns-clause-typed
returns-clause-typed c =
    let within : c.args.place < length c.args.vars.now = omega (arith, c.count.ensures) in
    let same : c.kind.result ≡ c.args.kind = c.if-not-is_same.ensures refl in
    copy_has (λ (v : Value). IsOf c.args.kind v) c.get.result.now c.copy.result (rw (← same) (typed_there c.args.vars.now c.args.place c.kind.result c.get.result.now c.law_typed.ensures within c.kind.ensures c.get.ensures)) c.copy.ensures
