use Rattle.batch_exec.proofs.rpc.fail_unread.Goals as goal

pub returns-clause-does : goal.returns-clause-does
returns-clause-does g c = rw c.letting_go.ensures (rw c.plain.ensures at c.fail_call-came.ensures.does)
