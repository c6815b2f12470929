-- Own: a text cut into pieces by a byte: a script into its lines, a line into its words.
use Rattle.std.specs.Prelude.{◌≡◌, ◌≢◌, ℕ, ◌==◌, Bool, true, not, if◌then◌else◌, List, [], ◌∷◌, ◌++◌, Option, Some, None}
use Rattle.std.specs.List.{list_all}

abbrev pub onto : ℕ → List (List ℕ) → List (List ℕ)
onto byte [] = (byte ∷ []) ∷ []
onto byte (piece ∷ others) = (byte ∷ piece) ∷ others

-- the pieces into which a byte cuts a text, one more than it stands there
abbrev pub pieces : ℕ → List ℕ → List (List ℕ)
pieces mark [] = [] ∷ []
pieces mark (byte ∷ rest) = if byte == mark then [] ∷ pieces mark rest else onto byte (pieces mark rest)

-- those of what stands behind a piece
abbrev pub pieces_behind : ℕ → Option (List ℕ) → List (List ℕ)
pieces_behind mark None = []
pieces_behind mark (Some text) = pieces mark text

-- ---- what pieces are, said without the way in which they are found

-- pieces with this byte between them
abbrev pub joined : ℕ → List (List ℕ) → List ℕ
joined mark [] = []
joined mark (piece ∷ []) = piece
joined mark (piece ∷ next ∷ others) = piece ++ mark ∷ joined mark (next ∷ others)

-- a piece in which the byte doesn't stand
abbrev pub lacks : ℕ → List ℕ → Bool
lacks mark piece = list_all (λ byte. not (byte == mark)) piece

-- some pieces that lack the byte and, with it between them, are the text
abbrev pub IsCut : ℕ → List ℕ → List (List ℕ) → Type 0
IsCut mark text all = (joined mark all ≡ text) × (list_all (lacks mark) all ≡ true) × (all ≢ [])
