-- Own: what the rows of an answer say, where they are given without names and types.
use Rattle.std.specs.Prelude.{◌≡◌, List, map, Result, Ok, Err}
use Rattle.std.specs.declared.vec.Vec.{Vec}
use Rattle.std.specs.declared.alloc.Global.{Global}
use Rattle.value_types.specs.declared.row.Row.{Row}
use Rattle.value_types.specs.declared.table_name.TableName.{TableName}
use Rattle.bound_tree.specs.declared.query.BoundQuery.{BoundQuery}
use Rattle.bound_tree.specs.Outcomes.{Outcome}
use Rattle.scalar_eval.specs.declared.fault.EvalFault.{EvalFault}
use Rattle.scalar_eval.specs.declared.fault.EvalFault.TheVariants.{Number, Named, Memory}
use Rattle.query_eval.specs.Ans.{references_of}

-- the rows are this outcome, if memory is not wanting; a number has no name here
abbrev pub GivesRows : Result (Vec Row Global) EvalFault → Outcome (List Row) → Type 0
GivesRows (Ok rows) outcome = outcome ≡ Ok rows.items
GivesRows (Err (Number number)) outcome = outcome ≡ Err number
GivesRows (Err (Named number name)) outcome = ⊥
GivesRows (Err Memory) outcome = Unit {0}

-- the tables that are read for a query, in the order of its images
abbrev pub tables_read : BoundQuery → List TableName
tables_read query = map (λ ref. ref.table) (references_of query)
