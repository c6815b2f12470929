-- Transact-SQL reference, "Constants" and "Database identifiers": what stands between quotes, where the
-- closing quote that is meant for the value is doubled. The code takes the units one by one.
use Rattle.std.specs.Prelude.{ℕ, ◌+◌, ◌==◌, Bool, true, false, if◌then◌else◌, List, [], ◌∷◌, Option, None, Some}
use Rattle.std.specs.List.{flat_map}

-- the value with each closing quote doubled
abbrev pub doubled : ℕ → List ℕ → List ℕ
doubled close value = flat_map (λ unit. if unit == close then unit ∷ unit ∷ [] else unit ∷ []) value

-- one unit more in front of a value, and so many more units of text
abbrev pub longer : ℕ → ℕ → Option (List ℕ × ℕ) → Option (List ℕ × ℕ)
longer unit count None = None
longer unit count (Some read) = Some (unit ∷ read.0, count + read.1)

-- what a unit begins, where it closes or doesn't, and the next one does or doesn't
abbrev pub enclosed_by : Bool → Bool → ℕ → Option (List ℕ × ℕ) → Option (List ℕ × ℕ) → Option (List ℕ × ℕ)
enclosed_by false next_closes unit behind_two behind_one = longer unit 1 behind_one
enclosed_by true true unit behind_two behind_one = longer unit 2 behind_two
enclosed_by true false unit behind_two behind_one = Some ([], 1)

-- the value behind an opening quote, and how many units it takes with its closing quote, if it has one
unfoldable pub enclosed : ℕ → List ℕ → Option (List ℕ × ℕ)
enclosed close [] = None
enclosed close (unit ∷ []) = if unit == close then Some ([], 1) else None
enclosed close (unit ∷ next ∷ units) = enclosed_by (unit == close) (next == close) unit (enclosed close units) (enclosed close (next ∷ units))
