-- Transact-SQL reference, "BEGIN TRANSACTION", "COMMIT TRANSACTION", "ROLLBACK TRANSACTION" and "SAVE TRANSACTION": what such a statement asks, and what it
-- tells. Each of them names nothing that is looked up. A transaction is ended without memory: what COMMIT and ROLLBACK want of it was taken as that began.
use Rattle.std.specs.Prelude.{ℕ, ℤ, ◌+◌, min, not, Bool, true, false, nat_le, if◌then◌else◌, List, [], ◌∷◌, Option, None, Some, Result, Ok, Err}
use Rattle.tsql_tree.specs.declared.statement.Statement.{Statement}
use Rattle.binder.specs.Statements.{is_maybe_long}
use Rattle.step_model.specs.declared.op.Op.TheVariants as ops
use Rattle.txn_rules.specs.declared.state.BackKind.{BackKind}
use Rattle.txn_rules.specs.declared.state.BackKind.TheVariants.{Mark, Whole}
use Rattle.txn_rules.specs.declared.state.TxnState.{TxnState}
use Rattle.txn_rules.specs.State.{commit_answer, count_limit, is_closed, rollback_answer, save_refusal, serial_limit}
use Rattle.tds_tokens.specs.declared.token.Token.{Token}
use Rattle.batch_meaning.specs.declared.failure.Failure.{Failure}
use Rattle.batch_meaning.specs.Settings.{outside_profile}
use Rattle.batch_meaning.specs.Tokens.{transaction_begun, transaction_committed, transaction_rolled_back}
use Rattle.batch_meaning.specs.Progress.{SessionProgress, closes_one, opens, saves}
use Rattle.batch_meaning.specs.Doing.{Doing, over, reads, makes, asks, ◌then◌}
use Rattle.batch_meaning.specs.Selecting.{Effect, bound_over, no_effect, sending}
use Rattle.batch_meaning.specs.Values.{outside_limits}
use Rattle.batch_meaning.specs.Asking.{◌>>=◌, comes_to, fails, if_bytes_left, marked, unless_refused, where_begun, where_done, where_ended, with_room}

-- ---- the numbers of its errors

-- there is nothing to roll back
abbrev pub nothing_open : ℕ
nothing_open = 3903

-- an error of this number
abbrev pub fails_with : {A : Type 0} → ℤ → Doing (Result A Failure)
fails_with number = over (Err (record { number = number; name = None }))

-- the serial number of the next transaction
abbrev pub next_serial : TxnState → ℕ
next_serial txn = min (txn.serial + 1) serial_limit

-- ---- BEGIN TRANSACTION

-- the outermost is begun at the port; an inner one is counted alone
unfoldable pub begins_outermost : Option (List ℕ) → ℕ → Doing (Result Effect Failure)
begins_outermost name serial = if_bytes_left (transaction_begun serial ∷ [])
    (with_room (asks ops.Begin (unless_refused (where_begun (makes (opens name) (over (Ok (sending (transaction_begun serial ∷ [])))))))))

abbrev pub begins_over : Option (List ℕ) → SessionProgress → Doing (Result Effect Failure)
begins_over name p = if not p.is_open then begins_outermost name (next_serial p.txn)
    else if nat_le count_limit p.txn.count then fails outside_profile
    else makes (opens name) (over (Ok no_effect))

-- ---- COMMIT

-- the end of a transaction is told where it was begun by BEGIN; that of a statement's own is not
abbrev pub unless_own : Bool → Token → List Token
unless_own true token = []
unless_own false token = token ∷ []

abbrev pub commits_by : SessionProgress → Result Bool ℤ → Doing (Result Effect Failure)
commits_by p (Err number) = fails_with number
commits_by p (Ok false) = makes closes_one (over (Ok no_effect))
commits_by p (Ok true) = if_bytes_left (unless_own p.is_own (transaction_committed p.txn.serial))
    (asks ops.Commit (where_ended (over (Ok (sending (unless_own p.is_own (transaction_committed p.txn.serial)))))))

-- ---- ROLLBACK

unfoldable pub rolls_back_whole : SessionProgress → Doing (Result Effect Failure)
rolls_back_whole p = if_bytes_left (unless_own p.is_own (transaction_rolled_back p.txn.serial))
    (asks ops.Rollback (where_ended (over (Ok (sending (unless_own p.is_own (transaction_rolled_back p.txn.serial)))))))

-- an error that names the transaction or savepoint
abbrev pub fails_of : {A : Type 0} → ℤ → List ℕ → Doing (Result A Failure)
fails_of number name = with_room (over (Err (record { number = number; name = Some name })))

abbrev pub goes_back : List ℕ → SessionProgress → Result BackKind ℤ → Doing (Result Effect Failure)
goes_back name p (Err number) = fails_of number name
goes_back name p (Ok Whole) = rolls_back_whole p
goes_back name p (Ok (Mark mark)) = asks (ops.BackTo mark) (where_done (over (Ok no_effect)))

abbrev pub rolls_back_to : Option (List ℕ) → SessionProgress → Doing (Result Effect Failure)
rolls_back_to None p = if is_closed p.txn then fails nothing_open else rolls_back_whole p
rolls_back_to (Some name) p = goes_back name p (rollback_answer name p.txn)

-- ---- SAVE TRANSACTION

abbrev pub saves_unless : List ℕ → Option ℤ → Doing (Result Effect Failure)
saves_unless name (Some number) = fails_with number
saves_unless name None = with_room (asks ops.Mark (unless_refused (marked λ mark. with_room (makes (saves name mark) (over (Ok no_effect))))))

-- ---- statements

-- bound, and then by how far the session has come
abbrev pub bound_first : Statement → (SessionProgress → Doing (Result Effect Failure)) → Doing (Result Effect Failure)
bound_first statement go = do
  of ← (reads λ p. comes_to (bound_over [] p.vars statement))
  with_room (reads go)

-- one that ends a transaction: only its name is looked at first
abbrev pub named_first : Option (List ℕ) → (SessionProgress → Doing (Result Effect Failure)) → Doing (Result Effect Failure)
named_first name go = if is_maybe_long name then fails outside_limits else reads go

unfoldable pub begins_transaction : Statement → Option (List ℕ) → Doing (Result Effect Failure)
begins_transaction statement name = bound_first statement (begins_over name)

unfoldable pub commits_transaction : Option (List ℕ) → Doing (Result Effect Failure)
commits_transaction name = named_first name λ p. commits_by p (commit_answer p.txn)

unfoldable pub rolls_back_transaction : Option (List ℕ) → Doing (Result Effect Failure)
rolls_back_transaction name = named_first name (rolls_back_to name)

unfoldable pub saves_transaction : Statement → List ℕ → Doing (Result Effect Failure)
saves_transaction statement name = bound_first statement λ p. saves_unless name (save_refusal p.txn)
