use Rattle.std.proofs.Common.{ap, sym, ◌∙◌}
use Rattle.batch_meaning.specs.Writes.{Written as HasDone}
use Rattle.statement_exec.proofs.Beginning.{did_none, none_leaves}
use Rattle.statement_exec.proofs.Firing.{written_done, written_fires}
use Rattle.statement_exec.proofs.changing.done_or_fires.Goals as goal

pub returns-then-is_empty-clause-does : goal.returns-then-is_empty-clause-does
returns-then-is_empty-clause-does g c = λ one around. written_done one around _ c.args.written c.args.written.fires (rw (c.as_slice.ensures, ap (λ (w : HasDone). w.fires) c.written.view_is) at c.if-is_empty.ensures) c.effect_of.ensures c.leave.ensures.does

pub returns-then-is_empty-clause-left : goal.returns-then-is_empty-clause-left
returns-then-is_empty-clause-left g c = did_none _ (none_leaves _ _) c.leave.ensures.does

pub returns-else-is_empty-clause-does : goal.returns-else-is_empty-clause-does
returns-else-is_empty-clause-does g c = λ one around. written_fires one around c.args.home c.args.written c.args.written.fires (rw (c.as_slice.ensures, ap (λ (w : HasDone). w.fires) c.written.view_is) at c.if-is_empty.ensures)

pub returns-else-is_empty-clause-may : goal.returns-else-is_empty-clause-may
returns-else-is_empty-clause-may g c = (sym c.requires.ready.agree ∙ c.requires.begun, c.requires.live)
