use Rattle.std.proofs.Common.{◌≡◌, to_z, of_z, true, false, Ok, Err, ap, refl, rules, sym, ◌∙◌}
use Rattle.std.specs.Int.{w32}
use Rattle.batch_meaning.specs.Transactions.{commits_transaction}
use Rattle.batch_meaning.proofs.Composed.{does_makes, does_over, does_yes}
use Rattle.statement_exec.proofs.Parts.{does_made}
use Rattle.batch_exec.proofs.TxnSteps.{commits_on}
use Rattle.batch_exec.proofs.transactions.commit_transaction.Goals as goal

pub returns-then-is_maybe_long-clause-does : goal.returns-then-is_maybe_long-clause-does
unfolding commits_transaction
returns-then-is_maybe_long-clause-does g c = does_yes _ _ _ (sym c.if-is_maybe_long.ensures) (does_made (ap Err c.plain.ensures))

pub returns-in-Ok-true-clause-does : goal.returns-in-Ok-true-clause-does
returns-in-Ok-true-clause-does g c =
    commits_on _ (Ok true) (sym c.if-is_maybe_long.ensures) (sym c.commit_answer.ensures ∙ c.in-Ok-true.is ∙ ap Ok c.in-Ok-true.field-0-test) c.commit_outermost.ensures.does

pub returns-in-Ok-false-clause-does : goal.returns-in-Ok-false-clause-does
returns-in-Ok-false-clause-does g c =
    commits_on _ (Ok false) (sym c.if-is_maybe_long.ensures) (sym c.commit_answer.ensures ∙ c.in-Ok-false.is ∙ ap Ok c.in-Ok-false.field-0-test) (does_makes c.close_one.ensures (does_made (ap Ok c.none.ensures)))

pub returns-in-Err-clause-does : goal.returns-in-Err-clause-does
returns-in-Err-clause-does g c =
    let same : to_z w32 (of_z w32 c.in-Err.number) ≡ c.in-Err.number = search rules in
    commits_on _ (Err c.in-Err.number) (sym c.if-is_maybe_long.ensures) (sym c.commit_answer.ensures ∙ c.in-Err.is) (rw same (does_over refl))
