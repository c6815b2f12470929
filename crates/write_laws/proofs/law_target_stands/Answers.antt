use Rattle.write_laws.proofs.TargetStands.{target_stands, told_stands}
use Rattle.write_laws.proofs.law_target_stands.Goals as goal

pub returns-clause-one : goal.returns-clause-one
returns-clause-one c = target_stands

pub returns-clause-told : goal.returns-clause-told
returns-clause-told c = told_stands
