use Rattle.session_server.specs.Talk.{runs}
use Rattle.value_types.specs.Units.{units_of}
use Rattle.session_server.proofs.Handled.{unread_handled}
use Rattle.session_server.proofs.batches.respond_to_batch.Goals as goal

pub returns-in_err-units-clause-handled : goal.returns-in_err-units-clause-handled
returns-in_err-units-clause-handled g c = unread_handled _ c.args.spid (runs c.args.connected.now (units_of c.args.text.now)) tt _ c.from_residual.result _ c.from_residual.ensures.0

pub returns-clause-handled : goal.returns-clause-handled
returns-clause-handled g c = rw (← c.in_ok-units.ensures) c.respond_to_text.ensures.handled
