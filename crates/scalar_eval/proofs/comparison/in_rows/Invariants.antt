use Rattle.std.proofs.Common.{◌≡◌, map, drop}
use Rattle.bound_tree.specs.Comparisons as spec
use Rattle.bound_tree.specs.Meaning as meaning
use Rattle.scalar_eval.proofs.comparison.in_rows.Given as goal

abbrev pub invariant-loop-row : goal.invariant-loop-row
invariant-loop-row l =
    let equals = meaning.equals_row l.kind l.other l.value in
    spec.any_onto l.so_far (map equals (drop l.row-index l.rows)) ≡ spec.any_of (map equals l.rows)
