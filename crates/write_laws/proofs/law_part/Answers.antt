use Rattle.write_laws.proofs.Parts.{answers, fetches_leave}
use Rattle.write_laws.proofs.law_part.Goals as goal

pub returns-clause-answers : goal.returns-clause-answers
returns-clause-answers c = answers

pub returns-clause-leaves : goal.returns-clause-leaves
returns-clause-leaves c = fetches_leave
