use Rattle.std.proofs.Common.{refl}
use Rattle.session_state.proofs.Stepping.{assigned_only, stepped_assigned, stepped_made, stepped_over}
use Rattle.statement_exec.proofs.query.assign_or_stop.Goals as goal

pub returns-in-None-clause-came : goal.returns-in-None-clause-came
returns-in-None-clause-came c = rw (c.in-None.is, c.none.ensures) (stepped_made refl)

pub returns-in-Some-clause-came : goal.returns-in-Some-clause-came
returns-in-Some-clause-came c = rw c.in-Some.is (stepped_assigned _ _ c.assign_all.ensures (stepped_over refl))

pub returns-in-Some-clause-only : goal.returns-in-Some-clause-only
returns-in-Some-clause-only c = rw c.assign_all.ensures (assigned_only c.args.sets.items c.args.session.now)
