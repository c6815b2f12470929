use Rattle.std.proofs.Common.{Ok, Err, ap, sym, ◌∙◌}
use Rattle.batch_meaning.specs.Selecting.{sending}
use Rattle.batch_meaning.specs.Transactions.{rolls_back_whole}
use Rattle.batch_meaning.proofs.Composed.{does_asks, does_no, does_reads, does_yes}
use Rattle.statement_exec.proofs.Parts.{does_made}
use Rattle.batch_exec.proofs.transactions.roll_back_whole.Goals as goal

pub returns-then-is_rollback_full-clause-does : goal.returns-then-is_rollback_full-clause-does
unfolding rolls_back_whole
returns-then-is_rollback_full-clause-does g c = does_reads (does_yes _ _ _ (sym c.if-is_rollback_full.ensures) (does_made (ap Err c.plain.ensures)))

pub returns-clause-does : goal.returns-clause-does
unfolding rolls_back_whole
returns-clause-does g c = does_reads (does_no _ _ _ (sym c.if-is_rollback_full.ensures) (does_asks c.roll_back-tokens.ensures.asked.1 (does_made (ap Ok (c.sending.ensures ∙ ap sending c.roll_back-tokens.ensures.tokens)))))
