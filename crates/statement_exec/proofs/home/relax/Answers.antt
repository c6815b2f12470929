use Rattle.std.proofs.Common.{refl, sym}
use Rattle.batch_meaning.specs.Working.{relaxes}
use Rattle.batch_meaning.proofs.Composed.{does_over, does_reads, does_yes, does_no, does_asks}
use Rattle.statement_exec.proofs.home.relax.Goals as goal

pub returns-in-Done-clause-does : goal.returns-in-Done-clause-does
unfolding relaxes
returns-in-Done-clause-does g c = does_reads (does_yes _ _ _ (sym c.if-is_touched.ensures) (does_asks c.in-Done.ensures.asked (does_over refl)))

pub returns-else-is_touched-clause-does : goal.returns-else-is_touched-clause-does
unfolding relaxes
returns-else-is_touched-clause-does g c = does_reads (does_no _ _ _ (sym c.if-is_touched.ensures) (does_over refl))
