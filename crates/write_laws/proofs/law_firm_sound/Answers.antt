use Rattle.write_laws.proofs.Whole.{firm_sound}
use Rattle.write_laws.proofs.law_firm_sound.Goals as goal

pub returns : goal.returns
returns c = firm_sound
