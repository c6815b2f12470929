use Rattle.std.proofs.Common.{◌≡◌, to_z, of_z, rules}
use Rattle.std.specs.Int.{w32}
use Rattle.batch_meaning.specs.Rpc.{gives_call_back}
use Rattle.batch_meaning.proofs.Composed.{does_then}
use Rattle.statement_exec.proofs.Parts.{does_read}
use Rattle.batch_exec.proofs.Called.{does_assigned, ready_assigned}
use Rattle.batch_exec.proofs.rpc.give_call_back.Goals as goal

pub returns-in-Ok-clause-does : goal.returns-in-Ok-clause-does
unfolding gives_call_back
returns-in-Ok-clause-does g c = λ values.
    let same : to_z w32 (of_z w32 c.args.status) ≡ c.args.status = search rules in
    does_then _ _ (does_read _ _ (rw (c.vars.ensures.vars, c.requires.given) at c.in-Ok.ensures.came values)) (does_assigned _ _ c.assign_all.ensures (rw same at c.end_exec.ensures.does))

pub returns-in-Err-clause-does : goal.returns-in-Err-clause-does
unfolding gives_call_back
returns-in-Err-clause-does g c = λ values.
    does_then _ _ (does_read _ _ (rw (c.vars.ensures.vars, c.requires.given) at c.in-Err.ensures.came values)) c.fail_call.ensures.does

pub end_exec-requires-clause-ready : goal.end_exec-requires-clause-ready
end_exec-requires-clause-ready g c = ready_assigned c.in-Ok.sets.items c.args.session.now c.assign_all.new.self c.requires.ready c.assign_all.ensures
