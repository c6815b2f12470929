use Rattle.std.proofs.Common.{◌≡◌, drop}
use Rattle.table_rows.specs.Rows.{part_shape}
use Rattle.dml_exec.proofs.ranges.part_shape.Given as goal

-- the shapes that are left decide
abbrev pub invariant-loop-shape : goal.invariant-loop-shape
invariant-loop-shape l = part_shape l.table (drop l.shape-index l.shapes) ≡ part_shape l.table l.shapes
