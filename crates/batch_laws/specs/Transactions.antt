-- Own: what BEGIN TRANSACTION, COMMIT, ROLLBACK and SAVE TRANSACTION have asked, what they tell, and what they make of their session; and what that
-- leaves and commits.
use Rattle.std.specs.Prelude.{◌≡◌, ◌≢◌, ◌⊎◌, ℕ, ℤ, pos, Bool, true, false, if◌then◌else◌, List, [], ◌∷◌, Option, None, Some, Result, Ok, Err}
use Rattle.tsql_tree.specs.declared.statement.Statement.{Statement}
use Rattle.step_model.specs.declared.op.Op.TheVariants as ops
use Rattle.step_model.specs.declared.reply.Reply.TheVariants as replies
use Rattle.step_model.specs.Exchange.{Exchange}
use Rattle.step_model.specs.Fits.{commit_of, commits_from}
use Rattle.step_model.specs.Net.{Net}
use Rattle.step_model.specs.Own.{Progress as Stand, none_open, own_at, progress_from}
use Rattle.step_model.specs.Ranges.{no_memory}
use Rattle.txn_rules.specs.declared.state.BackKind.{BackKind}
use Rattle.txn_rules.specs.declared.state.BackKind.TheVariants.{Mark, Whole}
use Rattle.txn_rules.specs.declared.state.TxnState.{TxnState}
use Rattle.txn_rules.specs.State.{commit_answer, is_closed, rollback_answer, save_refusal}
use Rattle.batch_meaning.specs.declared.failure.Failure.{Failure}
use Rattle.batch_meaning.specs.Doing.{Held}
use Rattle.batch_meaning.specs.Progress.{SessionProgress, asked, closes_one, made, opens, saves}
use Rattle.batch_meaning.specs.Selecting.{Effect, no_effect, sending}
use Rattle.batch_meaning.specs.Tokens.{transaction_begun, transaction_committed, transaction_rolled_back}
use Rattle.batch_meaning.specs.Transactions.{begins_transaction, commits_transaction, next_serial, nothing_open, rolls_back_transaction, saves_transaction, unless_own}
use Rattle.statement_paths.specs.Paths.{replied}
use Rattle.batch_laws.specs.Committing.{Agrees}

module _ (p : SessionProgress) where
  -- nothing was asked, and nothing changed
  abbrev pub IsRefused : List Exchange → SessionProgress → Type 0
  IsRefused exchanges new = (exchanges ≡ []) × (new ≡ p)

  -- so it is where a transaction is not ended; memory was not wanting for that
  abbrev pub IsDenied : Failure → List Exchange → SessionProgress → Type 0
  IsDenied failure exchanges new = IsRefused exchanges new × (failure.number ≢ pos no_memory)

  -- BEGIN TRANSACTION, by whether a transaction is open: an inner one is counted, the outermost begun at the port
  abbrev pub Begins : Option (List ℕ) → Bool → Result Effect Failure → List Exchange → SessionProgress → Type 0
  Begins name true (Ok effect) exchanges new = (exchanges ≡ []) × (effect ≡ no_effect) × (new ≡ made (opens name) p)
  Begins name false (Ok effect) exchanges new = (exchanges ≡ replied p.settings.manner ops.Begin replies.Began ∷ []) × (effect ≡ sending (transaction_begun (next_serial p.txn) ∷ [])) × (new ≡ made (opens name) (asked ops.Begin replies.Began p))
  Begins name is_open (Err failure) exchanges new = IsRefused exchanges new ⊎ ((is_open ≡ false) × (exchanges ≡ replied p.settings.manner ops.Begin replies.Memory ∷ []) × (new ≡ asked ops.Begin replies.Memory p))

  -- COMMIT, by its answer: the outermost commits, which is told unless the transaction is a statement's own, and an inner one is counted
  abbrev pub Closes : Result Bool ℤ → Result Effect Failure → List Exchange → SessionProgress → Type 0
  Closes (Ok true) (Ok effect) exchanges new = (effect ≡ sending (unless_own p.is_own (transaction_committed p.txn.serial))) × ((place : ℕ) × (exchanges ≡ replied p.settings.manner ops.Commit (replies.Ended place) ∷ []) × (new ≡ asked ops.Commit (replies.Ended place) p))
  Closes (Ok false) (Ok effect) exchanges new = (exchanges ≡ []) × (effect ≡ no_effect) × (new ≡ made closes_one p)
  Closes (Err number) (Ok effect) exchanges new = ⊥
  Closes answer (Err failure) exchanges new = IsDenied failure exchanges new

  -- ROLLBACK, by its answer: the whole of a transaction, or what is behind a mark
  abbrev pub RollsBack : Result BackKind ℤ → Result Effect Failure → List Exchange → SessionProgress → Type 0
  RollsBack (Ok Whole) (Ok effect) exchanges new = (effect ≡ sending (unless_own p.is_own (transaction_rolled_back p.txn.serial))) × ((place : ℕ) × (exchanges ≡ replied p.settings.manner ops.Rollback (replies.Ended place) ∷ []) × (new ≡ asked ops.Rollback (replies.Ended place) p))
  RollsBack (Ok (Mark mark)) (Ok effect) exchanges new = (exchanges ≡ replied p.settings.manner (ops.BackTo mark) replies.Done ∷ []) × (effect ≡ no_effect) × (new ≡ asked (ops.BackTo mark) replies.Done p)
  RollsBack (Err number) (Ok effect) exchanges new = ⊥
  RollsBack (Ok Whole) (Err failure) exchanges new = IsDenied failure exchanges new
  RollsBack (Ok (Mark mark)) (Err failure) exchanges new = IsDenied failure exchanges new
  RollsBack (Err number) (Err failure) exchanges new = IsRefused exchanges new

  -- SAVE TRANSACTION, unless it is refused: a mark is set and named; where memory is wanting it may be set without a name
  abbrev pub Saves : List ℕ → Option ℤ → Result Effect Failure → List Exchange → SessionProgress → Type 0
  Saves name None (Ok effect) exchanges new = (effect ≡ no_effect) × ((mark : ℕ) × (exchanges ≡ replied p.settings.manner ops.Mark (replies.Marked mark) ∷ []) × (new ≡ made (saves name mark) (asked ops.Mark (replies.Marked mark) p)))
  Saves name (Some number) (Ok effect) exchanges new = ⊥
  Saves name refusal (Err failure) exchanges new = IsRefused exchanges new ⊎ (((exchanges ≡ replied p.settings.manner ops.Mark replies.Memory ∷ []) × (new ≡ asked ops.Mark replies.Memory p))
      ⊎ ((mark : ℕ) × (exchanges ≡ replied p.settings.manner ops.Mark (replies.Marked mark) ∷ []) × (new ≡ asked ops.Mark (replies.Marked mark) p)))

-- what ROLLBACK goes back to
abbrev pub back_for : Option (List ℕ) → TxnState → Result BackKind ℤ
back_for None txn = if is_closed txn then Err (pos nothing_open) else Ok Whole
back_for (Some name) txn = rollback_answer name txn

-- ---- what they leave

-- nothing is committed, and the transaction has what it had
abbrev pub LeavesAll : Stand → List Exchange → Type 0
LeavesAll before exchanges = ((progress_from before exchanges).own ≡ before.own) × (commits_from before exchanges ≡ [])

-- COMMIT: all that the transaction has written is one commit, where that changes anything; or nothing is committed yet
abbrev pub CommitsBy : Result Bool ℤ → Result Effect Failure → Stand → List Exchange → Type 0
CommitsBy (Ok true) (Ok effect) before exchanges = (progress_from before exchanges ≡ none_open) × (commits_from before exchanges ≡ commit_of (Net before.own))
CommitsBy answer came before exchanges = (progress_from before exchanges ≡ before) × (commits_from before exchanges ≡ [])

-- ROLLBACK: nothing is committed; no transaction is left, or one that has what it had at the mark
abbrev pub LeavesBack : Result BackKind ℤ → Result Effect Failure → Stand → List Exchange → Type 0
LeavesBack (Ok Whole) (Ok effect) before exchanges = (progress_from before exchanges ≡ none_open) × (commits_from before exchanges ≡ [])
LeavesBack (Ok (Mark mark)) (Ok effect) before exchanges =
    ((progress_from before exchanges).own ≡ own_at mark before.marks) × ((progress_from before exchanges).is_open ≡ before.is_open) × (commits_from before exchanges ≡ [])
LeavesBack answer came before exchanges = (progress_from before exchanges ≡ before) × (commits_from before exchanges ≡ [])

-- ---- the laws

abbrev pub BeginLeaves : Type 0
BeginLeaves = (statement : Statement) (name : Option (List ℕ)) (old new : SessionProgress) (exchanges : List Exchange) (came : Result Effect Failure) (before : Stand) → Agrees old.is_open before
    → Held (begins_transaction statement name) old exchanges came new → Begins old name old.is_open came exchanges new × LeavesAll before exchanges

abbrev pub CommitLeaves : Type 0
CommitLeaves = (name : Option (List ℕ)) (old new : SessionProgress) (exchanges : List Exchange) (came : Result Effect Failure) (before : Stand)
    → Held (commits_transaction name) old exchanges came new → Closes old (commit_answer old.txn) came exchanges new × CommitsBy (commit_answer old.txn) came before exchanges

abbrev pub RollbackLeaves : Type 0
RollbackLeaves = (name : Option (List ℕ)) (old new : SessionProgress) (exchanges : List Exchange) (came : Result Effect Failure) (before : Stand)
    → Held (rolls_back_transaction name) old exchanges came new → RollsBack old (back_for name old.txn) came exchanges new × LeavesBack (back_for name old.txn) came before exchanges

abbrev pub SaveLeaves : Type 0
SaveLeaves = (statement : Statement) (name : List ℕ) (old new : SessionProgress) (exchanges : List Exchange) (came : Result Effect Failure) (before : Stand)
    → Held (saves_transaction statement name) old exchanges came new → Saves old name (save_refusal old.txn) came exchanges new × LeavesAll before exchanges
