use Rattle.connection_laws.proofs.Sound.{history_sound}
use Rattle.connection_laws.proofs.law_history_sound.Goals as goal

pub returns : goal.returns
returns c = history_sound
