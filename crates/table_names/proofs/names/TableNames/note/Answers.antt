use Rattle.std.proofs.Common.{◌≡◌, ℕ, List, [], ◌∷◌, ◌++◌, ap, sym, ◌∙◌}
use Rattle.table_names.specs.Contents.{is_among}
use Rattle.table_names.proofs.Noted.{seen_more}
use Rattle.table_names.proofs.names.TableNames.note.Goals as goal

pub invariant_of-self-2 : goal.invariant_of-self-2
invariant_of-self-2 c name =
    let names = c.self.inside.names.items in
    let pushed : c.push.new.self.items ≡ names ++ c.in_ok-key.key ∷ [] = c.in_ok-push.ensures.items ∙ ap (λ (ns : List (List ℕ)). ns ++ c.in_ok-copy.copy ∷ []) c.in_ok-reserve.ensures.items
    ∙ ap (λ (n : List ℕ). names ++ n ∷ []) (c.in_ok-copy.ensures ∙ sym c.in_ok-key.ensures) in
    seen_more c.self.inside.seen c.insert.new.self c.in_ok-key.key names c.self.invariant c.in_ok-insert.ensures.updates.0 name
    ∙ ap (is_among name) (sym pushed)
