use Rattle.steps_command.proofs.Ends.{answered_well}
use Rattle.steps_command.specs.Play.{Stage, first_manners}
use Rattle.std.proofs.Common.{◌∙◌}
use Rattle.steps_command.proofs.command.run_steps.Goals as goal

pub returns-in-Ok-write_whole-clause-complete : goal.returns-in-Ok-write_whole-clause-complete
returns-in-Ok-write_whole-clause-complete g c = λ reads writes.
    let took = c.in-Ok.ensures.took in
    let played = c.play_script-end.ensures in
    let first : Stage = record { engine = g.E.ScriptEngine.state c.args.engine.now; manners = first_manners } in
    answered_well first (g.S.Source.left c.args.input.now) took.0 c.as_slice.result.now (g.S.Source.left c.read_script.new.source) played.0 c.play_script-end.result c.status_of.result took.1.from_left took.2.1 (c.as_slice.ensures.value ∙ took.2.0) played.2 c.status_of.ensures
