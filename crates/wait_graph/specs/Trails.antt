-- Own, for private contracts alone: sessions that wait for one session, directly or behind others, and the
-- edges by which they do. The search adds them one by one; here the latest stands first.
use Rattle.std.specs.Prelude.{◌≡◌, ◌⊎◌, ℕ, ◌==◌, false, List, [], ◌∷◌, ◌++◌, map, reverse, slice_index, if◌then◌else◌, IsTrue}
use Rattle.std.specs.List.{Contains}
use Rattle.step_model.specs.declared.edge.Edge.{Edge}
use Rattle.step_model.specs.Cycles.{Conflicts, is_waiter}

-- the session for which they wait, and the edges by which they do, the latest first
pub record Trail : Type 0 where
  pub session : ℕ
  pub edges : List Edge

-- the session itself, or one that waits for it
abbrev pub Known : ℕ → ℕ → List Edge → Type 0
Known who session edges = (who ≡ session) ⊎ IsTrue (is_waiter who edges)

abbrev pub IsBehind : ℕ → Trail → Type 0
IsBehind who trail = Known who trail.session trail.edges

-- each edge is of another waiter, and its holder is the session or one of the waiters before
abbrev pub IsTrail : ℕ → List Edge → Type 0
IsTrail session [] = Unit {0}
IsTrail session (edge ∷ edges) = Conflicts edge × Known edge.holder session edges × (is_waiter edge.waiter edges ≡ false) × IsTrail session edges

-- with an edge more, unless its waiter waits already
abbrev pub with_step : Edge → Trail → Trail
with_step edge trail = if is_waiter edge.waiter trail.edges then trail else record trail { edges = edge ∷ trail.edges }

-- the waiter of the edge that was added at a place
abbrev pub waiter_at : ℕ → List Edge → ℕ
waiter_at place edges = slice_index (map (λ edge. edge.waiter) (reverse edges)) place

-- the edges from a session's on, each the one of the session that stood in the way of the last
abbrev pub back_from : ℕ → List Edge → List Edge
back_from who [] = []
back_from who (edge ∷ edges) = if edge.waiter == who then edge ∷ back_from edge.holder edges else back_from who edges

-- ---- for the search

-- all that wait for a session by given edges wait by these
abbrev pub HasWaiters : List Edge → ℕ → List Edge → Type 0
HasWaiters all holder edges = (edge : Edge) → Contains all edge → Conflicts edge → edge.holder ≡ holder → IsTrue (is_waiter edge.waiter edges)

-- edges were added in front
pub record Grows (old new : Trail) : Type 0 where
  pub session : new.session ≡ old.session
  pub more : List Edge
  pub edges : new.edges ≡ more ++ old.edges
