-- Which command six words are.
use Rattle.std.proofs.Common.{◌≡◌, ℕ, ◌<◌, ◌≤◌, List, [], ◌∷◌, length, map, get_or, refl, arith, Bor}
use Rattle.std.specs.Prelude.{option_map}
use Rattle.step_script.specs.Lines.{command_in, fetch_in}
use Rattle.step_script.specs.declared.line.Line.TheVariants.{Ask}

pub six_words : (session : ℕ) (words : List (Bor (List ℕ))) (other : Bor (List ℕ)) → 6 ≤ length words → length words < 7
    → command_in session (map (λ word. word.now) words)
    ≡ option_map (Ask session) (fetch_in (get_or words 0 other).now (get_or words 1 other).now (get_or words 2 other).now (get_or words 3 other).now (get_or words 4 other).now (get_or words 5 other).now)
unfolding command_in
six_words session (a ∷ b ∷ c ∷ d ∷ e ∷ f ∷ []) other least most = refl
six_words session [] other least most = absurd (omega arith)
six_words session (a ∷ []) other least most = absurd (omega arith)
six_words session (a ∷ b ∷ []) other least most = absurd (omega arith)
six_words session (a ∷ b ∷ c ∷ []) other least most = absurd (omega arith)
six_words session (a ∷ b ∷ c ∷ d ∷ []) other least most = absurd (omega arith)
six_words session (a ∷ b ∷ c ∷ d ∷ e ∷ []) other least most = absurd (omega arith)
six_words session (a ∷ b ∷ c ∷ d ∷ e ∷ f ∷ g ∷ words) other least most = absurd (omega arith)
