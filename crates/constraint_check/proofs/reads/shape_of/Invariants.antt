use Rattle.std.proofs.Common.{◌≡◌, drop}
use Rattle.table_rows.specs.Rows.{shape_of}
use Rattle.constraint_check.proofs.reads.shape_of.Given as goal

-- the shapes that are left decide
abbrev pub invariant-loop-shape : goal.invariant-loop-shape
invariant-loop-shape l = shape_of l.table (drop l.shape-index l.shapes) ≡ shape_of l.table l.shapes
