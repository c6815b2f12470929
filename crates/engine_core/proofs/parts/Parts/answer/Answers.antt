use Rattle.std.proofs.Common.{◌≡◌, None, Some, refl, sym, ap, ◌∙◌, subst}
use Rattle.step_model.specs.declared.reply.Reply.TheVariants.{Victim, Memory}
use Rattle.step_model.specs.State.{Engine, victim_of}
use Rattle.step_model.specs.Moves.{without_wait, without_victim}
use Rattle.step_model.specs.Step.{StepFrom, told_first}
use Rattle.engine_core.proofs.Stepping.{calmed, calm_sane, calm_may, heard_step}
use Rattle.engine_core.proofs.parts.Parts.answer.Goals as goal

-- the session waits no more, and was told nothing
unheard : (c : goal.After-step-arg-1) → c.hears.new.self ≡ without_wait c.args.session c.args.self.now
unheard c = c.hears.ensures.kept c.in-None.is ∙ c.end_wait.ensures

pub step-requires-clause-may : goal.step-requires-clause-may
step-requires-clause-may c = rw (unheard c) (calm_may c.args.session c.args.self.now c.args.op.now c.args.manner c.requires.may)

pub step-requires-clause-sane : goal.step-requires-clause-sane
step-requires-clause-sane c = rw (unheard c) (calm_sane c.args.session c.args.self.now c.requires.sane)

pub step-requires-clause-calm : goal.step-requires-clause-calm
step-requires-clause-calm c = rw (unheard c) (calmed c.args.session c.args.self.now)

pub returns-in-Some : goal.returns-in-Some
returns-in-Some c =
    heard_step c.args.session c.args.self.now c.hears.new.self c.args.op.now c.args.manner (Victim c.in-Some.cycle) (Some c.in-Some.cycle)
    (sym c.in-Some.is ∙ c.hears.ensures.told ∙ ap (λ (engine : Engine). told_first c.args.op.now (victim_of c.args.session engine)) c.end_wait.ensures)
    (refl, c.in-Some.ensures.taken ∙ ap (without_victim c.args.session) c.end_wait.ensures)

pub returns-in-Ok : goal.returns-in-Ok
returns-in-Ok c =
    heard_step c.args.session c.args.self.now c.step.new.self c.args.op.now c.args.manner c.in-Ok.reply None
    (sym c.in-None.is ∙ c.hears.ensures.told ∙ ap (λ (engine : Engine). told_first c.args.op.now (victim_of c.args.session engine)) c.end_wait.ensures)
    (subst (λ (mid : Engine). StepFrom mid c.args.session c.args.op.now c.args.manner c.in-Ok.reply c.step.new.self) (c.hears.ensures.kept c.in-None.is ∙ c.end_wait.ensures) c.in-Ok.ensures.step)

pub returns-in-Err : goal.returns-in-Err
returns-in-Err c =
    heard_step c.args.session c.args.self.now c.step.new.self c.args.op.now c.args.manner Memory None
    (sym c.in-None.is ∙ c.hears.ensures.told ∙ ap (λ (engine : Engine). told_first c.args.op.now (victim_of c.args.session engine)) c.end_wait.ensures)
    (c.in-Err.ensures.free, c.in-Err.ensures.err ∙ c.hears.ensures.kept c.in-None.is ∙ c.end_wait.ensures)
