use Rattle.std.proofs.Common.{Ok, Err, ap, sym, ◌∙◌}
use Rattle.batch_meaning.specs.Selecting.{sending}
use Rattle.batch_meaning.proofs.Composed.{does_asks, does_no, does_reads, does_yes}
use Rattle.statement_exec.proofs.Parts.{does_made}
use Rattle.batch_exec.proofs.transactions.commit_outermost.Goals as goal

pub returns-then-is_commit_full-clause-does : goal.returns-then-is_commit_full-clause-does
returns-then-is_commit_full-clause-does g c = does_reads (does_yes _ _ _ (sym c.if-is_commit_full.ensures) (does_made (ap Err c.plain.ensures)))

pub returns-clause-does : goal.returns-clause-does
returns-clause-does g c = does_reads (does_no _ _ _ (sym c.if-is_commit_full.ensures) (does_asks c.commit-tokens.ensures.asked.1 (does_made (ap Ok (c.sending.ensures ∙ ap sending c.commit-tokens.ensures.tokens)))))
