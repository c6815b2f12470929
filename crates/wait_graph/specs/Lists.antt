-- Own, for private contracts alone: given edges, and those that conflict in lists by their holders. A session's list is found by its number,
-- and may have other sessions' edges too.
use Rattle.std.specs.Prelude.{◌≡◌, ◌<◌, ◌%◌, ℕ, List, [], length, map, slice_index_or}
use Rattle.std.specs.List.{AllByRecursion, Contains}
use Rattle.std.specs.Borrow.{Bor}
use Rattle.std.specs.Global.{Vec}
use Rattle.step_model.specs.declared.edge.Edge.{Edge}
use Rattle.step_model.specs.Cycles.{Conflicts}

-- these edges are all among those
abbrev pub AreAmong : List Edge → List Edge → Type 0
AreAmong some all = AllByRecursion (Contains all) some

-- how many lists there are
abbrev pub lists : ℕ
lists = 64

-- the edges of each list
abbrev pub shown : List (Vec (Bor Edge)) → List (List Edge)
shown made = map (λ list. map (λ edge. edge.now) list.items) made

-- a list of these edges
abbrev pub at_list : ℕ → List (List Edge) → List Edge
at_list place made = slice_index_or made place []

-- each list has given edges that conflict, and each of them stands in its holder's
pub record AreListed (all : List Edge) (made : List (List Edge)) : Type 0 where
  pub count : length made ≡ lists
  pub given : (place : ℕ) → place < lists → AllByRecursion (λ edge. Contains all edge) (at_list place made)
  pub conflict : (place : ℕ) → place < lists → AllByRecursion Conflicts (at_list place made)
  pub listed : (edge : Edge) → Contains all edge → Conflicts edge → Contains (at_list (edge.holder % lists) made) edge
