-- Own: the locks of all sessions. A table is any list of locks with their sessions, and every clause speaks of
-- one session's locks in it, in the order of their grants: so the code may find them as it likes.
use Rattle.std.specs.Prelude.{◌≡◌, ◌≢◌, ◌<◌, ◌==◌, ℕ, true, false, List, [], ◌∷◌, if◌then◌else◌, slice_index_or}
use Rattle.lock_modes.specs.declared.Pair.{Pair}
use Rattle.lock_modes.specs.Agreement.{pairs_agree}
use Rattle.lock_modes.specs.Modes.{none}
use Rattle.step_model.specs.declared.resource.Resource.{Resource}
use Rattle.step_model.specs.Locks.{Lock, pair_on}

-- a lock, and whose it is
pub record SessionLock : Type 0 where
  pub session : ℕ
  pub lock : Lock

-- the locks of one session
abbrev pub of_session : ℕ → List SessionLock → List Lock
of_session session [] = []
of_session session (first ∷ others) = if first.session == session then first.lock ∷ of_session session others else of_session session others

-- a session's locks have changed so, and no other's
abbrev pub ChangesLocks : ℕ → (List Lock → List Lock) → List SessionLock → List SessionLock → Type 0
ChangesLocks session f old new = (who : ℕ) → of_session who new ≡ (if who == session then f (of_session who old) else of_session who old)

-- no session's have
abbrev pub KeepsLocks : List SessionLock → List SessionLock → Type 0
KeepsLocks old new = (who : ℕ) → of_session who new ≡ of_session who old

-- no other session's pair stands in the way
abbrev pub NoFoeIn : ℕ → Resource → Pair → List SessionLock → Type 0
NoFoeIn session on asked table = (other : ℕ) → other ≢ session → pairs_agree (pair_on on (of_session other table)) asked ≡ true

-- this session's does, and that of none with a lower number
abbrev pub IsFoeIn : ℕ → Resource → Pair → List SessionLock → ℕ → Pair → Type 0
IsFoeIn session on asked table holder pair = (holder ≢ session) × (pair ≡ pair_on on (of_session holder table)) × (pairs_agree pair asked ≡ false)
    × ((lower : ℕ) → lower < holder → lower ≢ session → pairs_agree (pair_on on (of_session lower table)) asked ≡ true)

-- all but the latest
abbrev pub all_but_last : List Lock → List Lock
all_but_last [] = []
all_but_last (lock ∷ []) = []
all_but_last (lock ∷ (next ∷ others)) = lock ∷ all_but_last (next ∷ others)

-- ---- one resource

-- of pairs by the numbers of their sessions, the session's; a number without one has no lock
abbrev pub pair_at : ℕ → List Pair → Pair
pair_at session pairs = slice_index_or pairs session none

-- they are the pairs of all sessions on a resource
abbrev pub ArePairsOn : Resource → List SessionLock → List Pair → Type 0
ArePairsOn on table pairs = (session : ℕ) → pair_at session pairs ≡ pair_on on (of_session session table)
