-- Own: `StatementCauses`, `BatchCauses`, `CallCauses` and `AssignedFails`. A client is told ERROR 1205 only where the engine has replied Victim, and ERROR 1222 only where it has
-- replied TimedOut. Whatever else a statement fails by has another number.
use Rattle.std.specs.Prelude.{◌≡◌, ◌≢◌, ℕ, ℤ, pos, Bool, true, false, List, ◌++◌, Option, None, Some, Err}
use Rattle.std.specs.List.{AllByRecursion}
use Rattle.value_types.specs.declared.value.Value.{Value}
use Rattle.session_vars.specs.declared.Variable.{Variable}
use Rattle.tsql_tree.specs.declared.statement.Statement.{Statement}
use Rattle.step_model.specs.declared.reply.Reply.{Reply}
use Rattle.step_model.specs.declared.reply.Reply.TheVariants.{TimedOut, Victim}
use Rattle.step_model.specs.Exchange.{Exchange}
use Rattle.step_model.specs.Ranges.{deadlock, lock_timeout, no_memory}
use Rattle.tds_tokens.specs.declared.token.Token.{Token}
use Rattle.tds_tokens.specs.declared.token.Token.TheVariants.{Error}
use Rattle.batch_meaning.specs.Rpc.{ReadsFor, rpc}
use Rattle.batch_meaning.specs.declared.errand.Errand.{Errand}
use Rattle.batch_meaning.specs.declared.exit.Exit.{Exit}
use Rattle.batch_meaning.specs.declared.exit.Exit.TheVariants.{Raise, RaiseUp}
use Rattle.batch_meaning.specs.declared.failure.Failure.{Failure}
use Rattle.batch_meaning.specs.declared.form.ReadText.{ReadText}
use Rattle.batch_meaning.specs.declared.raised.Raised.{Raised}
use Rattle.batch_meaning.specs.Doing.{Held}
use Rattle.batch_meaning.specs.Meaning.{batch, mean_of}
use Rattle.batch_meaning.specs.Progress.{SessionProgress}
use Rattle.batch_meaning.specs.Raised.{Around}
use Rattle.batch_meaning.specs.Statements.{ReadsAs}
use Rattle.batch_meaning.specs.Values.{assigned_to}

-- ---- errors of locks

-- the session fell as the victim of a deadlock; or a lock of another session stood in its way, and it does not wait
pub data LockError : Type 0 where
  Deadlock : LockError
  LockTimeout : LockError

-- the number by which a client is told it; it is not taken from what the law judges
abbrev pub number_of : LockError → ℕ
number_of Deadlock = deadlock
number_of LockTimeout = lock_timeout

-- the reply that is its cause
abbrev pub is_answer : LockError → Reply → Bool
is_answer Deadlock (Victim cycle) = true
is_answer LockTimeout (TimedOut holder held wanted on) = true
is_answer error reply = false

-- no reply of the exchanges is
abbrev pub NeverAnswered : LockError → List Exchange → Type 0
NeverAnswered error exchanges = AllByRecursion (λ x. is_answer error x.reply ≡ false) exchanges

-- ---- what is told

-- a number is not the error's
abbrev pub IsOther : LockError → ℤ → Type 0
IsOther error number = number ≢ pos (number_of error)

-- a token is no ERROR of its number
abbrev pub TellsOther : LockError → Token → Type 0
TellsOther error (Error told) = IsOther error told.number
TellsOther error token = Unit {0}

-- none of the tokens is one
abbrev pub TellsNone : LockError → List Token → Type 0
TellsNone error tokens = AllByRecursion (TellsOther error) tokens

-- an error that is on its way is another
abbrev pub LeavesOther : LockError → Exit → Type 0
LeavesOther error (Raise raised) = IsOther error raised.number
LeavesOther error (RaiseUp raised) = IsOther error raised.number
LeavesOther error exit = Unit {0}

-- so is the one of the CATCH around, which THROW raises again
abbrev pub CaughtOther : LockError → Option Raised → Type 0
CaughtOther error None = Unit {0}
CaughtOther error (Some raised) = IsOther error raised.number

-- ---- the laws

-- A statement to which the engine has never replied so sends no token that tells it, and raises another error, if any. Of statements in the
-- CATCH of that error nothing is said, and of those that they call: there THROW raises it again.
abbrev pub StatementCauses : Type 0
StatementCauses = (error : LockError) (levels : ℕ) (around : Around) (statement : Statement) (old new : SessionProgress)
    (exchanges : List Exchange) (exit : Exit) → CaughtOther error around.caught → NeverAnswered error exchanges
    → Held (mean_of levels statement around) old exchanges exit new
    → LeavesOther error exit × ((sent : List Token) × (new.tokens ≡ old.tokens ++ sent) × TellsNone error sent)

-- A batch, as its text is read, to which the engine has never replied so sends no token that tells it.
abbrev pub BatchCauses : Type 0
BatchCauses = (error : LockError) (text : List ℕ) (read : ReadText) (old new : SessionProgress) (exchanges : List Exchange)
    → ReadsAs text read → NeverAnswered error exchanges → Held (batch read) old exchanges tt new → TellsNone error new.tokens

-- A call by RPC, as its text is read, to which the engine has never replied so sends no token that tells it.
abbrev pub CallCauses : Type 0
CallCauses = (error : LockError) (call : Errand) (read : ReadText) (old new : SessionProgress) (exchanges : List Exchange)
    → ReadsFor call.text read → NeverAnswered error exchanges → Held (rpc call read) old exchanges tt new → TellsNone error new.tokens

-- ---- assignments

-- A value that can't be assigned is no want of memory. So a FETCH that is told that has not moved (`law_cursors` of `batch_laws`).
abbrev pub AssignedFails : Type 0
AssignedFails = (vars : List Variable) (names : List (List ℕ)) (values : List Value) (failure : Failure)
    → assigned_to vars names values ≡ Err failure → failure.number ≢ pos no_memory
