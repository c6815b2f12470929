use Rattle.std.proofs.Common.{true, false, refl, sym, Ok, subst, Err, ap}
use Rattle.lock_modes.specs.declared.KeyPart.TheVariants.{S}
use Rattle.value_types.specs.declared.table_name.TableName.{TableName}
use Rattle.value_types.specs.declared.key.Key.{Key}
use Rattle.step_model.specs.declared.op.Hold.TheVariants.{Range}
use Rattle.step_model.specs.declared.op.Op.TheVariants.{Fetch}
use Rattle.step_model.specs.declared.range.Start.TheVariants.{At}
use Rattle.step_model.specs.declared.range.Stop.TheVariants.{Within}
use Rattle.batch_meaning.specs.Doing.{Did, asks}
use Rattle.batch_meaning.specs.Asking.{unless_refused, known, look_up}
use Rattle.batch_meaning.proofs.Composed.{does_over, does_room, does_yes, does_no}
use Rattle.statement_exec.proofs.Parts.{does_made}
use Rattle.statement_exec.proofs.look_up.look_up.Goals as goal

pub returns-then-is_objects-clause-does : goal.returns-then-is_objects-clause-does
unfolding look_up
returns-then-is_objects-clause-does g c = does_yes _ _ _ (sym c.if-is_objects.ensures) (does_over refl)

pub returns-in-Ok-clause-does : goal.returns-in-Ok-clause-does
unfolding look_up
returns-in-Ok-clause-does g c = does_no _ _ _ (sym c.if-is_objects.ensures) (does_room true (subst (λ (t : TableName × Key × Key). Did (g.P.Port.past c.args.port.now) (g.P.Port.past c.find.new.port) (asks (Fetch t.0 (At t.1) (Within t.2) Range S) (unless_refused known)) c.args.session.now (Ok c.find.result) c.find.new.session) c.in-Ok.ensures c.find.ensures.does))

pub returns-in-Err-clause-does : goal.returns-in-Err-clause-does
unfolding look_up
returns-in-Err-clause-does g c = does_no _ _ _ (sym c.if-is_objects.ensures) (does_room false (does_made (ap Err c.plain.ensures)))
