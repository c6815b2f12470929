use Rattle.program_words.proofs.Written.{spelled_asked, spelled_taken}
use Rattle.program_words.proofs.laws.law_spelled.Goals as goal

pub returns : goal.returns
returns c = λ words command spells. (spelled_taken words command spells, spelled_asked words command spells)
