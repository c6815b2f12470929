-- Own: what the statements on cursors make of their session. DECLARE, FETCH, CLOSE and DEALLOCATE ask nothing; OPEN only reads, as its select does,
-- and what it asks where it succeeds is in `statement_paths`.
use Rattle.std.specs.Prelude.{◌≡◌, ◌⊎◌, ℕ, pos, negsuc, List, [], Option, None, Some, Result, Ok, Err}
use Rattle.value_types.specs.declared.value.Value.{Value}
use Rattle.tsql_tree.specs.declared.query.Select.{Select}
use Rattle.tsql_tree.specs.declared.statement.Statement.{Statement}
use Rattle.step_model.specs.Exchange.{Exchange}
use Rattle.step_model.specs.Own.{Progress as Stand}
use Rattle.session_cursors.specs.declared.fault.CursorFault.{CursorFault}
use Rattle.session_cursors.specs.Cursors.{close_answer, declare_answer, next_of, remove_answer}
use Rattle.batch_meaning.specs.declared.failure.Failure.{Failure}
use Rattle.batch_meaning.specs.Cursors.{closes_cursor, declares_cursor, fetches_cursor, opens_cursor, removes_cursor}
use Rattle.batch_meaning.specs.Doing.{Doing, Held}
use Rattle.batch_meaning.specs.Progress.{SessionProgress, SessionStep, declares, fetches, made, removes, shuts, tells_fetch}
use Rattle.batch_meaning.specs.Raised.{Around}
use Rattle.batch_meaning.specs.Selecting.{Effect, no_effect}
use Rattle.batch_meaning.specs.Values.{Assigned, assigned_to}
use Rattle.batch_laws.specs.Committing.{Agrees, Leaves}

module _ (p : SessionProgress) where
  -- by what is answered of the cursor: this step alone is made, or nothing
  abbrev pub Steps : SessionStep → Result (Unit {0}) CursorFault → Result Effect Failure → SessionProgress → Type 0
  Steps step (Ok done) (Ok effect) new = (effect ≡ no_effect) × (new ≡ made step p)
  Steps step (Err fault) (Ok effect) new = ⊥
  Steps step answer (Err failure) new = new ≡ p

  -- FETCH, by the row that comes next: behind the last one @@FETCH_STATUS is -1; the values of a row are to be assigned, and it is 0. One that failed
  -- has fetched a row only where a value of that can't be assigned; else the row is the next as before.
  abbrev pub Fetches : List ℕ → List (List ℕ) → Result (Option (List Value)) CursorFault → Result Effect Failure → SessionProgress → Type 0
  Fetches name variables (Ok None) (Ok effect) new = (effect ≡ no_effect) × (new ≡ made (tells_fetch (negsuc 0)) p)
  Fetches name variables (Ok (Some row)) (Ok effect) new =
      (sets : List Assigned) × (assigned_to p.vars variables row ≡ Ok sets) × (effect ≡ record { sets = sets; rows = 1; tokens = [] }) × (new ≡ made (tells_fetch (pos 0)) (made (fetches name) p))
  Fetches name variables (Err fault) (Ok effect) new = ⊥
  Fetches name variables (Ok (Some row)) (Err failure) new = (new ≡ p) ⊎ ((assigned_to p.vars variables row ≡ Err failure) × (new ≡ made (fetches name) p))
  Fetches name variables (Ok None) (Err failure) new = new ≡ p
  Fetches name variables (Err fault) (Err failure) new = new ≡ p

-- ---- the laws

-- what asks nothing, and makes this of its session
abbrev pub Moves : (SessionProgress → Result Effect Failure → SessionProgress → Type 0) → Doing (Result Effect Failure) → Type 0
Moves Makes tree = (old new : SessionProgress) (exchanges : List Exchange) (came : Result Effect Failure) → Held tree old exchanges came new → (exchanges ≡ []) × Makes old came new

abbrev pub DeclareMoves : Type 0
DeclareMoves = (statement : Statement) (name : List ℕ) (select : Select) → Moves (λ old. Steps old (declares name select) (declare_answer name old.cursors)) (declares_cursor statement name select)

abbrev pub FetchMoves : Type 0
FetchMoves = (statement : Statement) (name : List ℕ) (variables : List (List ℕ)) → Moves (λ old. Fetches old name variables (next_of name old.cursors)) (fetches_cursor statement name variables)

abbrev pub CloseMoves : Type 0
CloseMoves = (statement : Statement) (name : List ℕ) → Moves (λ old. Steps old (shuts name) (close_answer name old.cursors)) (closes_cursor statement name)

abbrev pub RemoveMoves : Type 0
RemoveMoves = (statement : Statement) (name : List ℕ) → Moves (λ old. Steps old (removes name) (remove_answer name old.cursors)) (removes_cursor statement name)

-- of the session only the cursors are others behind OPEN, where it succeeded; and what the port's replies make of it
abbrev pub OpenKeeps : SessionProgress → Result Effect Failure → SessionProgress → Type 0
OpenKeeps old (Ok effect) new = new ≡ record old { cursors = new.cursors; is_open = new.is_open; is_own = new.is_own; stands = new.stands; touched = new.touched; txn = new.txn }
OpenKeeps old (Err failure) new = new ≡ record old { is_open = new.is_open; is_own = new.is_own; stands = new.stands; touched = new.touched; txn = new.txn }

abbrev pub OpenMoves : Type 0
OpenMoves = (around : Around) (statement : Statement) (name : List ℕ) (old new : SessionProgress) (exchanges : List Exchange) (came : Result Effect Failure) → Held (opens_cursor around statement name) old exchanges came new → OpenKeeps old came new

-- it leaves its transaction as it was, whatever it came to
abbrev pub OpenLeaves : Type 0
OpenLeaves = (around : Around) (statement : Statement) (name : List ℕ) (old new : SessionProgress) (exchanges : List Exchange) (came : Result Effect Failure) (before : Stand) → Agrees old.is_open before
    → Held (opens_cursor around statement name) old exchanges came new → Leaves old.is_open old.is_open before exchanges []
