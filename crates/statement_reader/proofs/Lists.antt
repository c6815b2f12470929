-- A list that is read member by member.
use Rattle.std.specs.Prelude.{◌≡◌, List, []}
use Rattle.lexeme_reader.specs.Reading.{Outcome, front}
use Rattle.lexeme_reader.proofs.Front.{front_begin}

pub begins : {A : Type 0} (o : Outcome (List A)) → front [] o ≡ o
begins o = front_begin o
