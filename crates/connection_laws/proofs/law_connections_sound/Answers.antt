use Rattle.connection_laws.proofs.Sound.{connections_sound}
use Rattle.connection_laws.proofs.law_connections_sound.Goals as goal

pub returns : goal.returns
returns c = connections_sound
