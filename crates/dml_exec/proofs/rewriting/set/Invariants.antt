use Rattle.std.proofs.Common.{◌≡◌, drop}
use Rattle.scalar_eval.specs.Scopes.{inner_rows, values_of}
use Rattle.query_eval.specs.Phases.{each}
use Rattle.query_eval.proofs.Each.{each_onto}
use Rattle.dml_exec.specs.Planning.{row_set}
use Rattle.dml_exec.proofs.rewriting.set.Given as goal

-- the rows so far, and those that are left to be set, are all rows
abbrev pub invariant-loop-row : goal.invariant-loop-row
invariant-loop-row l = each_onto (row_set (values_of l.source.vars.now) l.source.system.now l.source.shape.now (inner_rows l.inner) l.sets) l.news.items (drop l.row-index l.olds)
    ≡ each (row_set (values_of l.source.vars.now) l.source.system.now l.source.shape.now (inner_rows l.inner) l.sets) l.olds
