use Rattle.sound_laws.proofs.Meanings.{statement_sound}
use Rattle.sound_laws.proofs.law_statement_sound.Goals as goal

pub returns : goal.returns
returns c = statement_sound
