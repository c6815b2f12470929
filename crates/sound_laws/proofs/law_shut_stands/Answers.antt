use Rattle.sound_laws.proofs.Serving.{shut_stands}
use Rattle.sound_laws.proofs.law_shut_stands.Goals as goal

pub returns : goal.returns
returns c = shut_stands
