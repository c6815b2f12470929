-- Own: what a state of the engine knows of a session's exchanges: the invariant as one session sees it.
use Rattle.std.specs.Prelude.{◌≡◌, ℕ, List, [], Some, is_none}
use Rattle.std.specs.List.{AllZip}
use Rattle.value_types.specs.declared.table_name.TableName.{TableName}
use Rattle.value_types.specs.declared.value.Value.{Value}
use Rattle.step_model.specs.declared.change.Planned.{Planned}
use Rattle.step_model.specs.declared.manner.Manner.{Manner}
use Rattle.step_model.specs.declared.op.Op.{Op}
use Rattle.step_model.specs.declared.resource.Span.{Span}
use Rattle.step_model.specs.Entries.{Entry, pending_of, change_at, committed_at}
use Rattle.step_model.specs.Exchange.{Exchange, IsSession, MayAsk}
use Rattle.step_model.specs.Fits.{Fits, without_waits}
use Rattle.step_model.specs.Own.{MarkedAt, progress_of, standing_at, last_at, first_at, is_insert}
use Rattle.step_model.specs.State.{Engine, Saved, is_open, saved_of}
use Rattle.history_laws.specs.Guarded.{Guarded}
use Rattle.history_laws.specs.Relies.{Relies, Steady}
use Rattle.history_laws.specs.Quiet.{Quiet, IsHalted, EndsInWait}
use Rattle.history_laws.specs.Sane.{Sane}

-- the first write of a key is an insertion just where no row is committed there
abbrev pub FirstsFit : List Entry → List Planned → Type 0
FirstsFit entries own = (t : TableName) (x : List Value) (planned : Planned) → first_at own t x ≡ Some planned → is_insert planned.deed ≡ is_none (committed_at entries t x)

-- a live mark of the engine, and one read off the exchanges: the same number and the same changes
pub record SameMark (entries : List Entry) (saved : Saved) (marked : MarkedAt) : Type 0 where
  pub mark : saved.mark ≡ marked.mark
  pub own : (t : TableName) (x : List Value) → change_at saved.pending t x ≡ last_at marked.own t x
  pub first : FirstsFit entries marked.own

-- What the engine has of the session is what its exchanges say: whether a transaction is open, its changes and
-- its marks. The keys on which they rely are guarded, and no commit has changed one since it was fetched.
pub record Tied (engine : Engine) (session : ℕ) (mine : List Exchange) : Type 0 where
  pub is_open : is_open session engine ≡ (progress_of mine).is_open
  pub own : (t : TableName) (x : List Value) → change_at (pending_of session engine.entries) t x ≡ last_at (progress_of mine).own t x
  pub first : FirstsFit engine.entries (progress_of mine).own
  pub marks : AllZip (SameMark engine.entries) (saved_of session engine) (progress_of mine).marks
  pub relied : (span : Span) (t : TableName) (x : List Value) → Relies mine span t x → Guarded span session t x engine
  pub steady : Steady engine.log mine

-- the state is sane, the session's exchanges fit its log, and they are tied to it
pub record Accords (engine : Engine) (session : ℕ) (steps : List Exchange) : Type 0 where
  pub sane : Sane engine
  pub fits : Fits session [] engine.log (without_waits steps)
  pub tied : Tied engine session (without_waits steps)

-- beside that no waits are a cycle; and only who was told to wait waits, or is marked as a victim
pub record Knows (engine : Engine) (session : ℕ) (steps : List Exchange) : Type 0 where
  pub accords : Accords engine session steps
  pub quiet : Quiet engine
  pub halted : IsHalted session engine → EndsInWait steps

-- a session may ask an operation, as far as it can tell by its number and its own exchanges
abbrev pub Ready : ℕ → List Exchange → Op → Manner → Type 0
Ready session steps op manner = IsSession session × MayAsk (standing_at (progress_of (without_waits steps))) op manner
