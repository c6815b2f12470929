use Rattle.std.proofs.Common.{◌≡◌, ◌+◌, ◌≤◌, ◌++◌, length, take, drop, ap, sym, ◌∙◌, arith, List, ℕ, length-drop}
use Rattle.std.proofs.lemmas.Grind.{common_steps}
use Rattle.transfer_load.specs.Connections.{InputState}
use Rattle.outside_io.proofs.Pieces.{leaves, gives}
use Rattle.transfer_load.proofs.connection.BatchSourceSource.read.Goals as goal

pub returns-clause-gives : goal.returns-clause-gives
returns-clause-gives c =
    let bytes = c.self.inside.bytes.items in
    let rest = drop c.min-n.result c.args.into.now in
    let left_is : c.split_at.result.1.now ≡ drop c.self.inside.at bytes = c.split_at.ensures.back ∙ ap (drop c.self.inside.at) c.deref.ensures.value in
    let room : c.min-n.result + c.self.inside.at ≤ length bytes = omega (arith, length-drop c.self.inside.at bytes, ap length left_is, c.self.invariant.0) in
    let is : c.copy_from_slice.new.self ≡ take c.min-n.result (drop c.self.inside.at bytes) = grind (arith, common_steps, left_is) in
    record {
      from_left = ap (λ (s : InputState). s.left) (sym c.self.view_is) ∙ leaves bytes c.copy_from_slice.new.self rest c.self.inside.at c.min-n.result room is;
      to_given = gives bytes c.copy_from_slice.new.self rest c.self.inside.at c.min-n.result room is ∙ ap (λ (s : List ℕ). s ++ take c.min-n.result (c.copy_from_slice.new.self ++ rest)) (ap (λ (s : InputState). s.given) c.self.view_is);
    }
