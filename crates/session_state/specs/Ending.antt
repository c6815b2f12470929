-- Own: what a session keeps from where BEGIN TRANSACTION has begun a transaction to where that ends.
use Rattle.std.specs.Prelude.{◌≡◌, ℕ, Bool, false, if◌then◌else◌, Option, Some}
use Rattle.txn_rules.specs.declared.state.TxnState.{TxnState}
use Rattle.txn_rules.specs.State.{after_end, is_closed}
use Rattle.batch_meaning.specs.Progress.{SessionProgress}
use Rattle.batch_meaning.specs.Transactions.{next_serial}

-- the number of the transaction that is open behind a BEGIN
abbrev pub begun_serial : TxnState → ℕ
begun_serial txn = if is_closed txn then next_serial txn else txn.serial

-- what is told at its end is there, unless it is a statement's own
abbrev pub KeepsEndings : TxnState → Bool → Option ℕ → Type 0
KeepsEndings txn is_own endings = is_closed txn ≡ false → is_own ≡ false → endings ≡ Some txn.serial

-- where it has ended
abbrev pub ended_all : SessionProgress → SessionProgress
ended_all p = record p { is_open = false; is_own = false; stands = false; touched = false; txn = after_end p.txn }
