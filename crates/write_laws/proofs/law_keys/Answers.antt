use Rattle.write_laws.proofs.Parts.{one_place, one_state}
use Rattle.write_laws.proofs.law_keys.Goals as goal

pub returns-clause-places : goal.returns-clause-places
returns-clause-places c = one_place

pub returns-clause-states : goal.returns-clause-states
returns-clause-states c = one_state
