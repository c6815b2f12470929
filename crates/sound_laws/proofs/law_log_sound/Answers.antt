use Rattle.sound_laws.proofs.Logs.{log_sound, whole_log_sound}
use Rattle.sound_laws.proofs.law_log_sound.Goals as goal

pub returns-clause-from : goal.returns-clause-from
returns-clause-from c = log_sound

pub returns-clause-whole : goal.returns-clause-whole
returns-clause-whole c = whole_log_sound
