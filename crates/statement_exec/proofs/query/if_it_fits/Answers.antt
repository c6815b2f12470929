use Rattle.std.proofs.Common.{refl, sym, Err, ap}
use Rattle.batch_meaning.specs.Working.{if_it_fits}
use Rattle.session_state.proofs.Stepping.{stepped_made, stepped_no, stepped_reads, stepped_yes}
use Rattle.statement_exec.proofs.query.if_it_fits.Goals as goal

pub returns-then-is_full-clause-came : goal.returns-then-is_full-clause-came
unfolding if_it_fits
returns-then-is_full-clause-came c = stepped_reads (stepped_yes _ _ _ (sym (rw c.tokens.ensures at c.if-is_full.ensures)) (stepped_made (ap Err c.plain.ensures)))

pub returns-else-is_full-clause-came : goal.returns-else-is_full-clause-came
unfolding if_it_fits
returns-else-is_full-clause-came c = stepped_reads (stepped_no _ _ _ (sym (rw c.tokens.ensures at c.if-is_full.ensures)) (stepped_made refl))
