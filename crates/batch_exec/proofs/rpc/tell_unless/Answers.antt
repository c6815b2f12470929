use Rattle.batch_exec.proofs.rpc.tell_unless.Goals as goal

pub returns-in-Refused-clause-does : goal.returns-in-Refused-clause-does
returns-in-Refused-clause-does g c = rw c.in-Refused.is (rw c.in-Refused.is at c.run_text.ensures.does)

pub returns-in-Statements-clause-does : goal.returns-in-Statements-clause-does
returns-in-Statements-clause-does g c = rw c.in-Statements.is c.tell_well.ensures.does

pub returns-in-Defines-clause-does : goal.returns-in-Defines-clause-does
returns-in-Defines-clause-does g c = rw c.in-Defines.is c.tell_well-in-Defines.ensures.does
