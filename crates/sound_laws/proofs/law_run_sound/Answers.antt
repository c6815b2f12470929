use Rattle.sound_laws.proofs.Runs.{run_sound}
use Rattle.sound_laws.proofs.law_run_sound.Goals as goal

pub returns : goal.returns
returns c = run_sound
