-- Own: between two statements a transaction is open exactly where BEGIN TRANSACTION has opened one, whatever statements they are; and behind a batch
-- or a call by RPC that was done none is doomed.
use Rattle.std.specs.Prelude.{◌≡◌, ℕ, true, false, List}
use Rattle.tsql_tree.specs.declared.statement.Statement.{Statement}
use Rattle.step_model.specs.Exchange.{Exchange}
use Rattle.txn_rules.specs.State.{is_closed}
use Rattle.batch_meaning.specs.declared.errand.Errand.{Errand}
use Rattle.batch_meaning.specs.declared.exit.Exit.{Exit}
use Rattle.batch_meaning.specs.declared.form.ReadText.{ReadText}
use Rattle.batch_meaning.specs.Doing.{Held}
use Rattle.batch_meaning.specs.Meaning.{batch, mean_of}
use Rattle.batch_meaning.specs.Progress.{IsSettled, SessionProgress}
use Rattle.batch_meaning.specs.Raised.{Around}
use Rattle.batch_meaning.specs.Rpc.{rpc}
use Rattle.batch_laws.specs.Committing.{HasNoneOpen}

-- so it is, and none is doomed where none is open
abbrev pub IsSteady : SessionProgress → Type 0
IsSteady p = IsSettled p × (is_closed p.txn ≡ true → p.txn.doomed ≡ false)

-- each statement leaves it so, with all that stands in it, and however it ends
abbrev pub StatementSettles : Type 0
StatementSettles = (levels : ℕ) (around : Around) (statement : Statement) (old new : SessionProgress) (exchanges : List Exchange) (exit : Exit) → IsSteady old → Held (mean_of levels statement around) old exchanges exit new → IsSteady new

-- so does each batch, and it dooms none
abbrev pub BatchSettles : Type 0
BatchSettles = (read : ReadText) (old new : SessionProgress) (exchanges : List Exchange) → IsSteady old → Held (batch read) old exchanges tt new → IsSteady new × (new.txn.doomed ≡ false)

-- so does each call by RPC
abbrev pub CallSettles : Type 0
CallSettles = (call : Errand) (read : ReadText) (old new : SessionProgress) (exchanges : List Exchange) → IsSteady old → Held (rpc call read) old exchanges tt new → IsSteady new × (new.txn.doomed ≡ false)

-- where none is open then, BEGIN TRANSACTION has opened none
abbrev pub SteadyIdle : Type 0
SteadyIdle = (p : SessionProgress) → IsSteady p → p.is_open ≡ false → HasNoneOpen p
