use Rattle.std.proofs.Common.{◌≡◌, w8, to_z, of_z, ap, ◌∙◌, subst, rules}
use Rattle.step_model.specs.State.{Engine, StandingWait}
use Rattle.step_model.specs.Moves.{with_wait, without_wait}
use Rattle.step_model.specs.Deadlocks.{wait_for}
use Rattle.engine_core.specs.Breaking.{after_falls, AreFalls, Rests, after_left}
use Rattle.engine_core.proofs.Refused.{wait_ended, waits_or_falls}
use Rattle.engine_core.proofs.parts.Parts.refuse.Goals as goal

pub returns-in-Ok-clause-step : goal.returns-in-Ok-clause-step
returns-in-Ok-clause-step c = λ op is.
    let session = c.args.session in
    let others = c.in-Ok.breaks.others in
    let own = c.in-Ok.breaks.own in
    let priority : to_z w8 (of_z w8 c.args.manner.priority) ≡ c.args.manner.priority = search rules in
    let start : c.begin_wait.new.self ≡ with_wait session (wait_for c.args.foe.claim c.args.manner.priority) c.args.self.now = c.begin_wait.ensures ∙ ap (λ (wait : StandingWait). with_wait session wait c.args.self.now) (c.wait.ensures ∙ ap (wait_for c.args.foe.claim) priority) in
    let end : c.left.new.self ≡ after_left session own (after_falls others (with_wait session (wait_for c.args.foe.claim c.args.manner.priority) c.args.self.now)) = c.left.ensures.new ∙ ap (after_left session own) (c.fall_all.ensures ∙ ap (after_falls others) start) in
    rw (c.left.ensures.reply, end)
    (waits_or_falls c.args.self.now session c.args.foe.claim c.args.foe.holder c.args.foe.held c.requires.foe c.args.manner op is c.in-Forever.is others own
    (subst (λ (engine : Engine). AreFalls session engine others) start c.in-Ok.ensures.others)
    (subst (λ (engine : Engine). Rests session (after_falls others engine) own) start c.in-Ok.ensures.rests))

pub returns-in-Err-clause-err : goal.returns-in-Err-clause-err
returns-in-Err-clause-err c = c.end_wait.ensures ∙ ap (without_wait c.args.session) c.begin_wait.ensures ∙ wait_ended c.args.session c.wait.result c.args.self.now ∙ c.requires.calm
