use Rattle.std.proofs.Common.{◌≡◌, drop}
use Rattle.scalar_eval.specs.Scopes.{setting_of}
use Rattle.query_eval.specs.Phases.{each}
use Rattle.query_eval.proofs.Each.{each_onto}
use Rattle.dml_exec.specs.Filling.{filled, null_row}
use Rattle.dml_exec.specs.Planning.{values_given}
use Rattle.dml_exec.proofs.rewriting.valued_in.Given as goal

-- the rows so far, and those that are left to be made, are all rows
abbrev pub invariant-loop-exprs : goal.invariant-loop-exprs
invariant-loop-exprs l = each_onto (λ exprs. filled l.columns (values_given (setting_of l.scope) l.places exprs) (null_row l.columns)) l.rows.items (drop l.exprs-index l.values)
    ≡ each (λ exprs. filled l.columns (values_given (setting_of l.scope) l.places exprs) (null_row l.columns)) l.values
