use Rattle.std.proofs.Common.{refl, subst}
use Rattle.step_model.specs.declared.op.Op.TheVariants.{Insert}
use Rattle.step_model.specs.Dialog.{Asks, over, tries}
use Rattle.dml_exec.specs.Filling.{Row as Values}
use Rattle.dml_exec.proofs.Held.{asks_over, asks_tried, asks_untried}
use Rattle.dml_exec.proofs.writing.ask_insert.Goals as goal

pub returns-in-Ok-clause-asks : goal.returns-in-Ok-clause-asks
returns-in-Ok-clause-asks g c =
    subst (λ (row : Values). Asks (g.P.Port.past c.args.port.now) (g.P.Port.past c.ask.new.self) c.args.manner (tries (Insert c.args.table c.args.key row) tt over) c.ask.result) c.in-Ok.ensures
    (asks_tried tt over _ c.ask.ensures.past c.ask.ensures.reply (asks_over refl))

pub returns-in-Err-clause-asks : goal.returns-in-Err-clause-asks
returns-in-Err-clause-asks g c = asks_untried _ tt over (asks_over refl)
