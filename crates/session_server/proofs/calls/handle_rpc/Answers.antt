use Rattle.std.proofs.Common.{rules, ◌≡◌, [], Ok, Err, inl, refl}
use Rattle.step_model.proofs.Pasts.{goes_nowhere}
use Rattle.rpc_requests.proofs.SpelledAgain.{parameters_fit}
use Rattle.rpc_requests.specs.declared.fault.RpcFault.TheVariants.{Bad}
use Rattle.rpc_requests.specs.Reading.{rpc_of}
use Rattle.session_server.specs.Talk.{handle_rpc}
use Rattle.session_server.proofs.Handled.{may_want_rpc, unread_handled}
use Rattle.session_server.proofs.calls.handle_rpc.Goals as goal

pub respond_to_call-requires-clause-fits : goal.respond_to_call-requires-clause-fits
respond_to_call-requires-clause-fits g c = rw c.in_ok-call-in-Ok.ensures (parameters_fit c.args.payload.now c.in-Ok.call c.in-Ok.ensures.found)

pub returns-in_err-call-in-Ok-clause-handled : goal.returns-in_err-call-in-Ok-clause-handled
returns-in_err-call-in-Ok-clause-handled g c = unread_handled _ c.args.spid (handle_rpc c.args.connected.now (rpc_of c.args.payload.now)) (may_want_rpc c.args.connected.now c.args.payload.now) _ c.from_residual.result _ c.from_residual.ensures.0

pub returns-in_ok-call-in-Ok-clause-handled : goal.returns-in_ok-call-in-Ok-clause-handled
returns-in_ok-call-in-Ok-clause-handled g c =
    let read : rpc_of c.args.payload.now ≡ Ok c.in-Ok.call = c.in-Ok.ensures.exact in
    rw read (rw c.in_ok-call-in-Ok.ensures at c.respond_to_call.ensures.handled)

pub returns-in-Err-Bad-clause-handled : goal.returns-in-Err-Bad-clause-handled
returns-in-Err-Bad-clause-handled g c =
    let refused : rpc_of c.args.payload.now ≡ Err (Bad c.in-Err-Bad.at c.in-Err-Bad.kind) = rw c.in-Err-Bad.field-0-is at c.in-Err-Bad.ensures.exact in
    (search (rules, refused), goes_nowhere _, refl)

pub returns-in-Err-Memory-clause-handled : goal.returns-in-Err-Memory-clause-handled
returns-in-Err-Memory-clause-handled g c = (may_want_rpc c.args.connected.now c.args.payload.now, record { exchanges = []; past = goes_nowhere _; left = inl (refl, refl) })
