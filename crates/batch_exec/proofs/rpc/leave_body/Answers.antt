use Rattle.std.proofs.Common.{◌≡◌, to_z, of_z, rules}
use Rattle.std.specs.Int.{w32}
use Rattle.batch_exec.proofs.Requests.{leaves_ended, leaves_returned}
use Rattle.batch_exec.proofs.rpc.leave_body.Goals as goal

pub returns-in-Some-clause-does : goal.returns-in-Some-clause-does
returns-in-Some-clause-does g c = λ values.
    let same : to_z w32 (of_z w32 c.in-Some.status) ≡ c.in-Some.status = search rules in
    leaves_returned _ _ _ _ c.args.exit.now _ c.in-Some.ensures (rw same at c.give_call_back.ensures.does values)

pub returns-in-None-clause-does : goal.returns-in-None-clause-does
returns-in-None-clause-does g c = λ values. leaves_ended _ _ _ _ c.args.exit.now c.in-None.ensures c.tell_rows.ensures
