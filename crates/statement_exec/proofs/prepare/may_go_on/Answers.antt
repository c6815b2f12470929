use Rattle.std.proofs.Common.{sym}
use Rattle.statement_exec.proofs.Preparing.{not_asked}
use Rattle.statement_exec.proofs.prepare.may_go_on.Goals as goal

pub returns-then-in_transaction : goal.returns-then-in_transaction
returns-then-in_transaction c = λ may asks. sym c.if-in_transaction.ensures

pub returns : goal.returns
returns c = λ may asks. not_asked _ _ _ (rw c.fired.ensures at c.asks_bound.ensures) may asks
