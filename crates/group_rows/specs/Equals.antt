-- Transact-SQL reference, "GROUP BY" and "SELECT clause: DISTINCT": rows that are equal, the first of each,
-- and the classes of equal rows. NULLs are equal here, and so are texts that differ in the spaces at their
-- ends alone. The code goes over the rows once, with an ordered map; here equals are looked for.
use Rattle.std.specs.Prelude.{ℕ, ◌+◌, Bool, not, if◌then◌else◌, List, [], ◌∷◌, map}
use Rattle.std.specs.List.{filter}
use Rattle.std.specs.Ordering.{eq_by_cmp}
use Rattle.value_types.specs.declared.value.Value.{Value}
use Rattle.value_types.specs.Order.{key_cmp}

-- no column tells the two rows apart
abbrev pub same_row : List Value → List Value → Bool
same_row = eq_by_cmp key_cmp

module _ {X : Type 0} (same : X → X → Bool) where
  -- those that equal none before them
  abbrev pub firsts : List X → List X
  firsts [] = []
  firsts (x ∷ rest) = x ∷ filter (λ other. not (same x other)) (firsts rest)

  -- the places of those that equal x, counted from a place on
  abbrev pub places_from : ℕ → X → List X → List ℕ
  places_from place x [] = []
  places_from place x (other ∷ rest) =
      if same x other then place ∷ places_from (place + 1) x rest else places_from (place + 1) x rest

  -- the classes of equals, in the order of their firsts, each as the places of its members
  abbrev pub classes : List X → List (List ℕ)
  classes xs = map (λ x. places_from 0 x xs) (firsts xs)
