use Rattle.std.proofs.Common.{◌≡◌, List, Option, None, Some, refl, sym, ap, ◌∙◌}
use Rattle.step_model.specs.declared.edge.Edge.{Edge}
use Rattle.step_model.specs.declared.op.Op.{Op}
use Rattle.step_model.specs.declared.op.Op.TheVariants.{Rollback}
use Rattle.step_model.specs.declared.reply.Reply.TheVariants.{Victim, Memory}
use Rattle.step_model.specs.Exchange.{MayLackMemory}
use Rattle.step_model.specs.State.{victim_of}
use Rattle.step_model.specs.Moves.{without_victim}
use Rattle.step_model.specs.Step.{told_first}
use Rattle.engine_core.proofs.Stepping.{heard_step}
use Rattle.engine_core.proofs.parts.Parts.starve.Goals as goal

-- who fell is told so before any operation for which memory may be wanting
told_always : (op : Op) (victim : Option (List Edge)) → MayLackMemory op → victim ≡ told_first op victim
told_always Rollback victim free = absurd free
told_always op victim free = refl

pub returns-in-Some : goal.returns-in-Some
returns-in-Some c =
    heard_step c.args.session c.args.self.now c.take_victim.new.self c.args.op.now.value c.args.manner (Victim c.in-Some.cycle) (Some c.in-Some.cycle)
    (sym c.in-Some.is ∙ c.take_victim.ensures.mark ∙ ap (victim_of c.args.session) c.end_wait.ensures ∙ told_always c.args.op.now.value _ c.requires.free)
    (refl, c.take_victim.ensures.new ∙ ap (without_victim c.args.session) c.end_wait.ensures)

pub returns-in-None : goal.returns-in-None
returns-in-None c =
    heard_step c.args.session c.args.self.now c.take_victim.new.self c.args.op.now.value c.args.manner Memory None
    (sym c.in-None.is ∙ c.take_victim.ensures.mark ∙ ap (victim_of c.args.session) c.end_wait.ensures ∙ told_always c.args.op.now.value _ c.requires.free)
    (c.requires.free, c.take_victim.ensures.none c.in-None.is ∙ c.end_wait.ensures)
