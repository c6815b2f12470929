use Rattle.std.proofs.Common.{◌≡◌, ◌++◌, drop}
use Rattle.std.specs.List.{flat_map}
use Rattle.table_rows.specs.Rows.{places_of, values_at}
use Rattle.constraint_check.specs.Reads as spec
use Rattle.constraint_check.proofs.reads.child_reads.Given as goal

-- the reads so far, and those of what is left, are all
abbrev pub invariant-loop-foreign : goal.invariant-loop-foreign
invariant-loop-foreign l = l.reads.items ++ flat_map (λ foreign. spec.child_where l.shapes foreign (values_at (places_of l.shape foreign.columns) l.row)) (drop l.foreign-index l.shape.foreigns) ≡ l.initial.reads.items ++ flat_map (λ foreign. spec.child_where l.shapes foreign (values_at (places_of l.shape foreign.columns) l.row)) l.shape.foreigns
