-- Own: rows by their places in a list. Private contracts alone cite this.
use Rattle.std.specs.Prelude.{ℕ, List, [], map, get_or}
use Rattle.join_rows.specs.Joined.{Row}

-- the row at a place; one without columns where there is none
abbrev pub row_at : List Row → ℕ → Row
row_at rows place = get_or rows place []

abbrev pub rows_at_places : List Row → List ℕ → List Row
rows_at_places rows places = map (row_at rows) places
