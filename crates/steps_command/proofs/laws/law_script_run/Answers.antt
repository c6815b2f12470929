use Rattle.steps_command.proofs.Runs.{is_run}
use Rattle.steps_command.proofs.laws.law_script_run.Goals as goal

pub returns : goal.returns
returns c = λ old number lines printed end plays. is_run lines old number printed end plays
