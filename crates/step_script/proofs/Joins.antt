-- Texts are cut into their pieces, and into no others.
use Rattle.std.proofs.Common.{◌≡◌, ◌≢◌, ℕ, Bool, true, false, List, [], ◌∷◌, ◌++◌, refl, sym, ap, ap₂, ◌∙◌, arith}
use Rattle.std.specs.Prelude.{◌==◌, ◌&&◌, not, if◌then◌else◌}
use Rattle.std.specs.List.{list_all}
use Rattle.step_script.specs.Pieces.{pieces, onto, joined, lacks, IsCut}

same_byte : (a b : ℕ) → (a == b) ≡ true → a ≡ b
same_byte a b is = grind arith

byte_is : (a : ℕ) → (a == a) ≡ true
byte_is a = grind arith

-- ---- the pieces are a cut

onto_some : (byte : ℕ) (behind : List (List ℕ)) → onto byte behind ≢ []
onto_some byte [] is = cc
onto_some byte (piece ∷ others) is = cc

some_step : (byte mark : ℕ) (behind : List (List ℕ)) (same : Bool) → (if same then [] ∷ behind else onto byte behind) ≢ []
some_step byte mark behind true is = cc
some_step byte mark behind false is = onto_some byte behind is

some : (mark : ℕ) (text : List ℕ) → pieces mark text ≢ []
some mark [] is = cc
some mark (byte ∷ rest) is = some_step byte mark (pieces mark rest) (byte == mark) is

joined_onto : (mark byte : ℕ) (piece : List ℕ) (others : List (List ℕ)) → joined mark ((byte ∷ piece) ∷ others) ≡ byte ∷ joined mark (piece ∷ others)
joined_onto mark byte piece [] = refl
joined_onto mark byte piece (next ∷ others) = refl

whole_step : (mark byte : ℕ) (rest : List ℕ) (behind : List (List ℕ)) (same : Bool) → (same ≡ true → byte ≡ mark) → behind ≢ [] → joined mark behind ≡ rest
    → joined mark (if same then [] ∷ behind else onto byte behind) ≡ byte ∷ rest
whole_step mark byte rest [] same is none whole = absurd (none refl)
whole_step mark byte rest (piece ∷ others) true is none whole = ap₂ (λ (b : ℕ) (bytes : List ℕ). b ∷ bytes) (sym (is refl)) whole
whole_step mark byte rest (piece ∷ others) false is none whole = joined_onto mark byte piece others ∙ ap (λ (bytes : List ℕ). byte ∷ bytes) whole

whole : (mark : ℕ) (text : List ℕ) → joined mark (pieces mark text) ≡ text
whole mark [] = refl
whole mark (byte ∷ rest) = whole_step mark byte rest (pieces mark rest) (byte == mark) (same_byte byte mark) (some mark rest) (whole mark rest)

clean_onto : (mark byte : ℕ) (behind : List (List ℕ)) → (byte == mark) ≡ false → list_all (lacks mark) behind ≡ true → list_all (lacks mark) (onto byte behind) ≡ true
clean_onto mark byte [] other clean = rw other refl
clean_onto mark byte (piece ∷ others) other clean = rw other clean

clean_step : (mark byte : ℕ) (behind : List (List ℕ)) (same : Bool) → (byte == mark) ≡ same → list_all (lacks mark) behind ≡ true
    → list_all (lacks mark) (if same then [] ∷ behind else onto byte behind) ≡ true
clean_step mark byte behind true is clean = clean
clean_step mark byte behind false is clean = clean_onto mark byte behind is clean

clean : (mark : ℕ) (text : List ℕ) → list_all (lacks mark) (pieces mark text) ≡ true
clean mark [] = refl
clean mark (byte ∷ rest) = clean_step mark byte (pieces mark rest) (byte == mark) refl (clean mark rest)

pub is_cut : (mark : ℕ) (text : List ℕ) → IsCut mark text (pieces mark text)
is_cut mark text = (whole mark text, clean mark text, some mark text)

-- ---- there is no other

both : (a b : Bool) → (a && b) ≡ true → (a ≡ true) × (b ≡ true)
both true b is = (refl, is)
both false b is = absurd cc

other_byte : (same : Bool) → not same ≡ true → same ≡ false
other_byte true is = absurd cc
other_byte false is = refl

-- a piece that the byte ends
pub piece_front : (mark : ℕ) (piece rest : List ℕ) → lacks mark piece ≡ true → pieces mark (piece ++ mark ∷ rest) ≡ piece ∷ pieces mark rest
piece_front mark [] rest lack = rw (byte_is mark) refl
piece_front mark (byte ∷ piece) rest lack =
    let parts = both (not (byte == mark)) (lacks mark piece) lack in
    rw (other_byte (byte == mark) parts.0) (ap (onto byte) (piece_front mark piece rest parts.1))

piece_alone : (mark : ℕ) (piece : List ℕ) → lacks mark piece ≡ true → pieces mark piece ≡ piece ∷ []
piece_alone mark [] lack = refl
piece_alone mark (byte ∷ piece) lack =
    let parts = both (not (byte == mark)) (lacks mark piece) lack in
    rw (other_byte (byte == mark) parts.0) (ap (onto byte) (piece_alone mark piece parts.1))

found : (mark : ℕ) (all : List (List ℕ)) → list_all (lacks mark) all ≡ true → all ≢ [] → pieces mark (joined mark all) ≡ all
found mark [] lack none = absurd (none refl)
found mark (piece ∷ []) lack none = piece_alone mark piece (both (lacks mark piece) true lack).0
found mark (piece ∷ next ∷ others) lack none =
    let parts = both (lacks mark piece) (list_all (lacks mark) (next ∷ others)) lack in
    piece_front mark piece (joined mark (next ∷ others)) parts.0 ∙ ap (λ (behind : List (List ℕ)). piece ∷ behind) (found mark (next ∷ others) parts.1 (λ is. cc))

pub only_cut : (mark : ℕ) (text : List ℕ) (all : List (List ℕ)) → IsCut mark text all → all ≡ pieces mark text
only_cut mark text all cut = sym (ap (pieces mark) (sym cut.0) ∙ found mark all cut.1 cut.2)
