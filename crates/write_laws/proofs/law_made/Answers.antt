use Rattle.write_laws.proofs.Made.{free_fresh, made_leave, taken_stand, writes_make}
use Rattle.write_laws.proofs.law_made.Goals as goal

pub returns-clause-made : goal.returns-clause-made
returns-clause-made c = writes_make

pub returns-clause-leave : goal.returns-clause-leave
returns-clause-leave c = made_leave

pub returns-clause-fresh : goal.returns-clause-fresh
returns-clause-fresh c = free_fresh

pub returns-clause-stand : goal.returns-clause-stand
returns-clause-stand c = taken_stand
