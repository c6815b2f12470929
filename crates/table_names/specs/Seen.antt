-- Own: a set of names, as the list of which it says what is among it.
use Rattle.std.specs.Prelude.{◌≡◌, ℕ, List}
use Rattle.std.specs.Ordering.{nat_cmp}
use Rattle.std.specs.Cmp.Lexicographic.{slice_cmp}
use Rattle.std.specs.BTreeSet.{BTreeSet, contains}
use Rattle.table_names.specs.Contents.{is_among}

-- the set has the names of the list
abbrev pub AreSeen : BTreeSet (List ℕ) → List (List ℕ) → Type 0
AreSeen set names = (name : List ℕ) → contains (slice_cmp nat_cmp) set name ≡ is_among name names
