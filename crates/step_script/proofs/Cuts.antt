-- Where a text is cut.
use Rattle.std.proofs.Common.{◌≡◌, ℕ, suc, ◌+◌, ◌-◌, ◌<◌, ◌≤◌, Bool, true, false, List, [], ◌∷◌, length, take, drop, Option, Some, None, refl, sym, ap, ◌∙◌, arith}
use Rattle.std.specs.Prelude.{not, ◌==◌, cond, if◌then◌else◌}
use Rattle.std.specs.List.{prefix_len}
use Rattle.std.proofs.Math.Seq.{take-length}
use Rattle.step_script.specs.Pieces.{pieces, onto, pieces_behind}

abbrev others : ℕ → ℕ → Bool
others mark byte = not (byte == mark)

abbrev rest_of : List ℕ → Option (List ℕ)
rest_of [] = None
rest_of (byte ∷ rest) = Some rest

step : (mark byte : ℕ) (rest : List ℕ) (same : Bool) → pieces mark rest ≡ take (prefix_len (others mark) rest) rest ∷ pieces_behind mark (rest_of (drop (prefix_len (others mark) rest) rest))
    → (if same then [] ∷ pieces mark rest else onto byte (pieces mark rest))
    ≡ take (cond (not same) (1 + prefix_len (others mark) rest) 0) (byte ∷ rest) ∷ pieces_behind mark (rest_of (drop (cond (not same) (1 + prefix_len (others mark) rest) 0) (byte ∷ rest)))
step mark byte rest true behind = refl
step mark byte rest false behind =
    let one : 1 + prefix_len (others mark) rest ≡ suc (prefix_len (others mark) rest) = omega arith in
    rw one (rw behind refl)

-- the first piece ends in front of the first mark
cut : (mark : ℕ) (text : List ℕ) → pieces mark text ≡ take (prefix_len (others mark) text) text ∷ pieces_behind mark (rest_of (drop (prefix_len (others mark) text) text))
cut mark [] = refl
cut mark (byte ∷ rest) = step mark byte rest (byte == mark) (cut mark rest)

behind_end : (mark : ℕ) (behind : List ℕ) → length behind < 1 → pieces_behind mark (rest_of behind) ≡ []
behind_end mark [] short = refl
behind_end mark (byte ∷ rest) short = absurd (omega arith)

behind_mark : (mark : ℕ) (behind : List ℕ) → 1 ≤ length behind → pieces_behind mark (rest_of behind) ≡ pieces mark (take (length behind - 1) (drop 1 behind))
behind_mark mark [] long = absurd (omega arith)
behind_mark mark (byte ∷ rest) long =
    let all : take (length (byte ∷ rest) - 1) rest ≡ rest = ap (λ (n : ℕ). take n rest) (omega arith) ∙ take-length rest in
    ap (pieces mark) (sym all)

pub cut_at_end : (mark at : ℕ) (text piece behind : List ℕ) → at ≡ prefix_len (others mark) text → piece ≡ take at text → behind ≡ drop at text → length behind < 1 → pieces mark text ≡ piece ∷ []
cut_at_end mark at text piece behind place front back short =
    let whole : pieces mark text ≡ take at text ∷ pieces_behind mark (rest_of (drop at text)) = rw place (cut mark text) in
    let none : pieces_behind mark (rest_of (drop at text)) ≡ [] = behind_end mark (drop at text) (rw (sym back) short) in
    whole ∙ (rw none (rw front refl))

pub cut_at_mark : (mark at : ℕ) (text piece behind : List ℕ) → at ≡ prefix_len (others mark) text → piece ≡ take at text → behind ≡ drop at text → 1 ≤ length behind
    → pieces mark text ≡ piece ∷ pieces mark (take (length behind - 1) (drop 1 behind))
cut_at_mark mark at text piece behind place front back long =
    let whole : pieces mark text ≡ take at text ∷ pieces_behind mark (rest_of (drop at text)) = rw place (cut mark text) in
    let more : pieces_behind mark (rest_of behind) ≡ pieces mark (take (length behind - 1) (drop 1 behind)) = behind_mark mark behind long in
    whole ∙ (rw (sym back) (rw more (rw front refl)))
