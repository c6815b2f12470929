use Rattle.statement_exec.proofs.query.select_bound.Goals as goal

pub returns-in-Query-clause-does : goal.returns-in-Query-clause-does
returns-in-Query-clause-does g c = rw c.in-Query.is c.select.ensures.does

pub returns-in-Assign-clause-does : goal.returns-in-Assign-clause-does
returns-in-Assign-clause-does g c = rw c.in-Assign.is (rw c.as_slice.ensures at c.select_into.ensures.does)
