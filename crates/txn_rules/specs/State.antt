-- Transact-SQL reference, "BEGIN TRANSACTION", "COMMIT TRANSACTION", "SAVE TRANSACTION", "ROLLBACK
-- TRANSACTION" and "XACT_STATE": what these statements make of a session's state of transactions, and the
-- errors that refuse them. A state is one record here; the code changes its fields.
use Rattle.std.specs.Prelude.{ℕ, ◌+◌, ◌-◌, min, ℤ, pos, negsuc, Bool, false, ◌==◌, if◌then◌else◌, List, [], ◌∷◌, ◌++◌, Option, Some, None, Result, Ok, Err}
use Rattle.value_types.specs.Units.{same_units}
use Rattle.txn_rules.specs.declared.state.BackKind.{BackKind}
use Rattle.txn_rules.specs.declared.state.BackKind.TheVariants.{Mark, Whole}
use Rattle.txn_rules.specs.declared.state.TxnState.{TxnState}
use Rattle.txn_rules.specs.Savepoints.{mark_of, up_to, without}

-- the most transactions that can be open in one another
abbrev pub count_limit : ℕ
count_limit = 2147483647

-- the greatest serial number, at which it stays
abbrev pub serial_limit : ℕ
serial_limit = 18446744073709551615

-- no transaction is open, none has been, and none has a name
abbrev pub no_transaction : TxnState
no_transaction = record { count = 0; doomed = false; serial = 0; name = None; saves = [] }

-- no transaction is open
abbrev pub is_closed : TxnState → Bool
is_closed state = state.count == 0

-- BEGIN: the outermost counts one serial number more and gives its name; an inner one is counted alone
abbrev pub after_begin : Option (List ℕ) → TxnState → TxnState
after_begin name state =
    if is_closed state then record state { count = 1; serial = min (state.serial + 1) serial_limit; name = name }
    else record state { count = state.count + 1 }

-- the end of the transaction, with its doom, its name and its savepoints
abbrev pub after_end : TxnState → TxnState
after_end state = record state { count = 0; doomed = false; name = None; saves = [] }

-- COMMIT: whether it is the outermost, or the error that refuses it
abbrev pub commit_answer : TxnState → Result Bool ℤ
commit_answer state =
    if is_closed state then Err (pos 3902)
    else if state.doomed then Err (pos 3930)
    else Ok (state.count == 1)

-- and the state behind it
abbrev pub after_commit : TxnState → TxnState
after_commit state =
    if is_closed state then state
    else if state.doomed then state
    else if state.count == 1 then after_end state
    else record state { count = state.count - 1 }

-- SAVE: the error that refuses it
abbrev pub save_refusal : TxnState → Option ℤ
save_refusal state =
    if is_closed state then Some (pos 49005)
    else if state.doomed then Some (pos 3930)
    else None

-- and the state behind it
abbrev pub after_save : List ℕ → ℕ → TxnState → TxnState
after_save name mark state = record state { saves = state.saves ++ record { name = name; mark = mark } ∷ [] }

-- the transaction has this name
abbrev pub is_called : List ℕ → Option (List ℕ) → Bool
is_called name None = false
is_called name (Some called) = same_units called name

-- ROLLBACK to a name that no savepoint has: that of the outermost transaction, if it has it
abbrev pub whole_answer : List ℕ → TxnState → Result BackKind ℤ
whole_answer name state = if is_called name state.name then Ok Whole else Err (pos 6401)

-- ROLLBACK to a name: the latest savepoint of that name comes first, and in a doomed transaction none is
-- gone back to
abbrev pub back_to : List ℕ → TxnState → Option ℕ → Result BackKind ℤ
back_to name state None = whole_answer name state
back_to name state (Some mark) = if state.doomed then Err (pos 3931) else Ok (Mark mark)

abbrev pub rollback_answer : List ℕ → TxnState → Result BackKind ℤ
rollback_answer name state = if is_closed state then Err (pos 3903) else back_to name state (mark_of name state.saves)

-- a return to a mark
abbrev pub after_cut : ℕ → TxnState → TxnState
after_cut mark state = record state { saves = up_to mark state.saves }

-- While triggers run, the mark of their statement stands among the savepoints, without a name. A transaction that is the statement's own
-- counts from then on as one that was begun, without a number.
abbrev pub after_fire : ℕ → TxnState → TxnState
after_fire mark state = after_save [] mark (if is_closed state then record state { count = 1 } else state)

-- behind them, where that transaction stands; another has marks of its own
abbrev pub after_fired : ℕ → TxnState → TxnState
after_fired mark state = record state { saves = without mark state.saves }

-- XACT_STATE(): 1 where a transaction is open, -1 where it is doomed, 0 where none is
abbrev pub xact_state : TxnState → ℤ
xact_state state = if is_closed state then pos 0 else if state.doomed then negsuc 0 else pos 1
