use Rattle.std.proofs.Common.{◌≡◌, true, [], Ok, Err, is_ok, inl, refl, ap}
use Rattle.step_model.proofs.Pasts.{goes_nowhere}
use Rattle.transaction_requests.specs.declared.fault.TransactionFault.TheVariants.{Bad}
use Rattle.transaction_requests.specs.Text.{managed}
use Rattle.session_server.specs.Talk.{handle_request}
use Rattle.session_server.proofs.Handled.{answered_as, may_want_request}
use Rattle.session_server.proofs.requests.handle_request.Goals as goal

pub returns-in-Ok-clause-handled : goal.returns-in-Ok-clause-handled
returns-in-Ok-clause-handled g c =
    let read : managed c.args.payload.now ≡ Ok c.in-Ok.text = c.in-Ok.ensures in
    rw read c.respond_to_text.ensures.handled

pub returns-in-Err-Bad-clause-handled : goal.returns-in-Err-Bad-clause-handled
returns-in-Err-Bad-clause-handled g c =
    let refused : managed c.args.payload.now ≡ Err (Bad c.in-Err-Bad.at c.in-Err-Bad.kind) = rw c.in-Err-Bad.field-0-is at c.in-Err-Bad.ensures in
    answered_as c.args.spid (g.P.Port.past c.args.port.now) _ _ c.args.session.now c.refuse_request.result _ (ap (handle_request c.args.connected.now) refused) c.refuse_request.ensures.answered

pub returns-in-Err-Memory-clause-handled : goal.returns-in-Err-Memory-clause-handled
returns-in-Err-Memory-clause-handled g c =
    let read : is_ok (managed c.args.payload.now) ≡ true = rw c.in-Err-Memory.field-0-is at c.in-Err-Memory.ensures in
    (may_want_request c.args.connected.now (managed c.args.payload.now) read, record { exchanges = []; past = goes_nowhere _; left = inl (refl, refl) })
