use Rattle.std.proofs.Common.{◌≡◌, [], Err, inl, refl, ap}
use Rattle.step_model.proofs.Pasts.{goes_nowhere}
use Rattle.rpc_requests.specs.declared.fault.RpcFault.TheVariants.{Bad}
use Rattle.rpc_requests.specs.Drivers.{driver_call_of}
use Rattle.session_server.specs.Talk.{handle_driver_call}
use Rattle.session_server.proofs.Handled.{answered_as, handled_as, is_taken, may_want_driver_call, unread_handled}
use Rattle.session_server.proofs.calls.handle_driver_call.Goals as goal

pub returns-in_err-call-in-Ok-clause-handled : goal.returns-in_err-call-in-Ok-clause-handled
returns-in_err-call-in-Ok-clause-handled g c = unread_handled _ c.args.spid (handle_driver_call c.args.connected.now (driver_call_of c.args.payload.now)) (may_want_driver_call c.args.connected.now c.args.payload.now) _ c.from_residual.result _ c.from_residual.ensures.0

pub returns-in_ok-call-in-Ok-clause-handled : goal.returns-in_ok-call-in-Ok-clause-handled
returns-in_ok-call-in-Ok-clause-handled g c =
    handled_as c.args.spid (g.P.Port.past c.args.port.now) _ _ _ c.args.session.now _ c.respond_to_call.result _
    (is_taken c.args.connected.now (driver_call_of c.args.payload.now) c.in-Ok.call c.in_ok-call-in-Ok.call _ c.in-Ok.ensures.exact c.in_ok-call-in-Ok.ensures.taken) c.respond_to_call.ensures.handled

pub returns-in-Err-Bad-clause-handled : goal.returns-in-Err-Bad-clause-handled
returns-in-Err-Bad-clause-handled g c =
    let refused : driver_call_of c.args.payload.now ≡ Err (Bad c.in-Err-Bad.at c.in-Err-Bad.kind) = rw c.in-Err-Bad.field-0-is at c.in-Err-Bad.ensures.exact in
    answered_as c.args.spid (g.P.Port.past c.args.port.now) _ _ c.args.session.now c.refuse_call.result _ (ap (handle_driver_call c.args.connected.now) refused) c.refuse_call.ensures.answered

pub returns-in-Err-Memory-clause-handled : goal.returns-in-Err-Memory-clause-handled
returns-in-Err-Memory-clause-handled g c = (may_want_driver_call c.args.connected.now c.args.payload.now, record { exchanges = []; past = goes_nowhere _; left = inl (refl, refl) })
