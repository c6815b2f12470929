use Rattle.text_laws.proofs.Bodies.{defined_text}
use Rattle.text_laws.proofs.law_defined_text.Goals as goal

pub returns : goal.returns
returns c = defined_text
