-- Own: the notes of the code, as what the grammar notes of a text. The code keeps the declared names
-- as a set, the grammar as a list.
use Rattle.std.specs.Prelude.{◌≡◌, ℕ, List}
use Rattle.std.proofs.Common.{Bor}
use Rattle.std.specs.Ordering.{nat_cmp}
use Rattle.std.specs.Cmp.Lexicographic.{slice_cmp}
use Rattle.std.specs.BTreeSet.{BTreeSet, contains}
use Rattle.tsql_grammar.specs.Noted.{Noted, has_name}
use Rattle.tsql_recognizer.specs.declared.notes.Notes.{Notes}

-- what the grammar notes, where these names are declared
abbrev pub seen : Notes → List (List ℕ) → Noted
seen notes names = record {
  judges = notes.judges;
  place = notes.place;
  last = notes.last.now;
  depth = notes.depth;
  declared = names;
  fault = notes.fault;
}

-- the set has the names of the list
abbrev pub HasNames : BTreeSet (Bor (List ℕ)) → List (List ℕ) → Type 0
HasNames set names = (name : Bor (List ℕ)) → contains (λ x y. slice_cmp nat_cmp x.now y.now) set name ≡ has_name names name.now

-- What was noted goes on so, whichever list the set of names stands for.
abbrev pub Goes : (Noted → Noted → Type 0) → Notes → Notes → Type 0
Goes P old new = (names : List (List ℕ)) → HasNames old.declared names
    → (more : List (List ℕ)) × HasNames new.declared more × P (seen old names) (seen new more)
