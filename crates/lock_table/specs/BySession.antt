-- Own: what is kept by the numbers of sessions: the list of each, with how it begins, and on one resource the pair of each.
use Rattle.std.specs.Prelude.{◌≡◌, ◌≢◌, ◌<◌, ◌≤◌, ◌==◌, ◌+◌, not, ℕ, Bool, true, false, List, [], ◌∷◌, ◌++◌, map, length, take, slice_index_or, if◌then◌else◌}
use Rattle.std.specs.List.{All}
use Rattle.lock_modes.specs.declared.Pair.{Pair}
use Rattle.lock_modes.specs.Agreement.{pairs_agree}
use Rattle.step_model.specs.declared.resource.Span.{Span}
use Rattle.step_model.specs.declared.resource.Span.TheVariants.{Statement, Transaction}
use Rattle.step_model.specs.Locks.{Lock, is_whole}
use Rattle.lock_table.specs.Table.{SessionLock, pair_at}

-- how many numbers there are up to the last session's, with 0, which is no session's
abbrev pub numbers : ℕ
numbers = 65

-- ---- the sessions' lists

-- a session's list; a number without one has no locks
abbrev pub list_of : ℕ → List (List Lock) → List Lock
list_of session lists = slice_index_or lists session []

abbrev pub with_session : ℕ → List Lock → List SessionLock
with_session session locks = map (λ lock. record { session = session; lock = lock }) locks

-- the locks of the lists, the first of which is the session's of this number
abbrev pub all_from : ℕ → List (List Lock) → List SessionLock
all_from session [] = []
all_from session (locks ∷ lists) = with_session session locks ++ all_from (session + 1) lists

-- the lock is kept so long
abbrev pub is_of : Span → Lock → Bool
is_of Statement lock = not (is_whole lock.span)
is_of Transaction lock = is_whole lock.span

abbrev pub same_span : Span → Span → Bool
same_span Statement Statement = true
same_span Transaction Transaction = true
same_span Statement Transaction = false
same_span Transaction Statement = false

-- the first n of the locks are kept to the transaction's end
pub record BeginsWhole (n : ℕ) (locks : List Lock) : Type 0 where
  pub within : n ≤ length locks
  pub front : All (λ lock. is_whole lock.span ≡ true) (take n locks)

-- ---- changes of pairs

-- changed where the test says so
abbrev pub changed_if : Bool → (Pair → Pair) → Pair → Pair
changed_if here f old = if here then f old else old

-- only the session's is changed
abbrev pub ChangesPair : ℕ → (Pair → Pair) → List Pair → List Pair → Type 0
ChangesPair session f old new = (who : ℕ) → pair_at who new ≡ changed_if (who == session) f (pair_at who old)

-- ---- who stands in the way

-- of pairs by session: this session's does not agree, and those of lower others do
abbrev pub IsFoeAmong : ℕ → Pair → List Pair → ℕ → Pair → Type 0
IsFoeAmong session asked pairs holder pair = (holder ≢ session) × (pair ≡ pair_at holder pairs) × (pairs_agree pair asked ≡ false)
    × ((lower : ℕ) → lower < holder → lower ≢ session → pairs_agree (pair_at lower pairs) asked ≡ true)
