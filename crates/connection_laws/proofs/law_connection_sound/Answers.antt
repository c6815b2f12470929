use Rattle.connection_laws.proofs.Sound.{connection_sound}
use Rattle.connection_laws.proofs.law_connection_sound.Goals as goal

pub returns : goal.returns
returns c = connection_sound
