use Rattle.statement_exec.proofs.Forms.{does_computed, is_Select}
use Rattle.statement_exec.proofs.working.work_bound.Goals as goal

pub select_bound-requires-clause-select : goal.select_bound-requires-clause-select
select_bound-requires-clause-select g c = rw (is_Select _ _ c.in-Select.is) tt

pub returns-in-Select-clause-does : goal.returns-in-Select-clause-does
returns-in-Select-clause-does g c = rw (is_Select _ _ c.in-Select.is) c.select_bound.ensures.does

pub returns-in_default-clause-does : goal.returns-in_default-clause-does
returns-in_default-clause-does g c = does_computed _ _ _ _ c.in_default.not-Select c.compute.ensures.does
