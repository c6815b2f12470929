use Rattle.write_laws.proofs.Rewrites.{changes_are_deeds, planned_of, taken_apart, taken_told}
use Rattle.write_laws.proofs.Taken.{plan_taken}
use Rattle.write_laws.proofs.law_rewrites.Goals as goal

pub returns-clause-deeds : goal.returns-clause-deeds
returns-clause-deeds c = changes_are_deeds

pub returns-clause-planned : goal.returns-clause-planned
returns-clause-planned c = planned_of

pub returns-clause-told : goal.returns-clause-told
returns-clause-told c = taken_told

pub returns-clause-apart : goal.returns-clause-apart
returns-clause-apart c = taken_apart

pub returns-clause-taken : goal.returns-clause-taken
returns-clause-taken c = plan_taken
