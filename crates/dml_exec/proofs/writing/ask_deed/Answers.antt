use Rattle.std.proofs.Common.{refl, subst}
use Rattle.value_types.specs.declared.table_name.TableName.{TableName}
use Rattle.value_types.specs.declared.value.Value.{Value}
use Rattle.std.proofs.Common.{List}
use Rattle.step_model.specs.declared.op.Op.TheVariants.{Erase}
use Rattle.step_model.specs.Dialog.{Asks, over, tries}
use Rattle.dml_exec.proofs.Held.{asks_over, asks_tried}
use Rattle.dml_exec.proofs.Writes.{deed_untried}
use Rattle.dml_exec.proofs.writing.ask_deed.Goals as goal

pub returns-in-Erase-clause-asks : goal.returns-in-Erase-clause-asks
returns-in-Erase-clause-asks g c =
    rw c.in-Erase.is
    (subst (λ (p : TableName × List Value). Asks (g.P.Port.past c.args.port.now) (g.P.Port.past c.ask.new.self) c.args.manner (tries (Erase p.0 p.1) tt over) c.ask.result) c.in-Ok.ensures
    (asks_tried tt over _ c.ask.ensures.past c.ask.ensures.reply (asks_over refl)))

pub returns-in-Err-clause-asks : goal.returns-in-Err-clause-asks
returns-in-Err-clause-asks g c = deed_untried _ _ _
