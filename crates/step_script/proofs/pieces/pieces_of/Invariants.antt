use Rattle.std.proofs.Common.{◌≡◌, ◌++◌, length, map, suc}
use Rattle.std.specs.Prelude.{option_map}
use Rattle.std.specs.Option.{option_map_or}
use Rattle.step_script.specs.Pieces.{pieces, pieces_behind}
use Rattle.step_script.proofs.pieces.pieces_of.Given as goal

-- the pieces so far stand in front of those that are left
abbrev pub invariant-loop-left : goal.invariant-loop-left
invariant-loop-left l = map (λ piece. piece.now) l.all.items ++ pieces_behind l.mark (option_map (λ text. text.now) l.left) ≡ pieces l.mark l.text

abbrev pub decreases-loop-left : goal.decreases-loop-left
decreases-loop-left l = option_map_or (λ text. suc (length text.now)) l.left 0
