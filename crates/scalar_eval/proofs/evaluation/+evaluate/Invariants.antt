use Rattle.std.proofs.Common.{◌≡◌, map, drop}
use Rattle.bound_tree.specs.Comparisons as spec
use Rattle.bound_tree.specs.Meaning as meaning
use Rattle.scalar_eval.specs.Scopes.{setting_of}
use Rattle.scalar_eval.proofs.evaluation.+evaluate.Given as goal

abbrev pub invariant-first_known-loop-item : goal.invariant-first_known-loop-item
invariant-first_known-loop-item l =
    let value = meaning.value (setting_of l.scope) in
    meaning.first_known (map value (drop l.item-index l.items)) ≡ meaning.first_known (map value l.items)

abbrev pub invariant-chosen-loop-arm : goal.invariant-chosen-loop-arm
invariant-chosen-loop-arm l =
    let arm = meaning.arm_of (setting_of l.scope) in
    meaning.chosen (map arm (drop l.arm-index l.arms)) ≡ meaning.chosen (map arm l.arms)

abbrev pub invariant-in_sides-loop-side : goal.invariant-in_sides-loop-side
invariant-in_sides-loop-side l =
    let equals = meaning.equals_side l.kind l.value in
    let side = meaning.side_of (setting_of l.scope) in
    spec.any_onto l.so_far (map equals (map side (drop l.side-index l.sides))) ≡ spec.any_of (map equals (map side l.sides))
