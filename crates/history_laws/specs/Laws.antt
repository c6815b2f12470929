-- Own: the laws of the engine's steps, for all states and all sessions. Each public function of this crate says
-- one of them.
use Rattle.std.specs.Prelude.{false, ◌≡◌, ◌≢◌, ◌⊎◌, ◌≤◌, ℕ, List, [], ◌∷◌, ◌++◌, length, None, Some}
use Rattle.std.specs.List.{AllByRecursion}
use Rattle.value_types.specs.declared.table_name.TableName.{TableName}
use Rattle.value_types.specs.declared.value.Value.{Value}
use Rattle.step_model.specs.declared.edge.Edge.{Edge}
use Rattle.step_model.specs.declared.manner.Manner.{Manner}
use Rattle.step_model.specs.declared.op.Op.{Op}
use Rattle.step_model.specs.declared.reply.Reply.{Reply}
use Rattle.step_model.specs.declared.reply.Reply.TheVariants.{Missing, Victim}
use Rattle.step_model.specs.declared.resource.Span.{Span}
use Rattle.step_model.specs.Log.{Commit as Logged}
use Rattle.step_model.specs.Exchange.{Exchange, AsksLock, CanReply}
use Rattle.step_model.specs.Own.{progress_of, none_open}
use Rattle.step_model.specs.Fits.{Fits, all_numbers, is_wait, without_waits}
use Rattle.step_model.specs.State.{Engine, victim_of}
use Rattle.step_model.specs.Moves.{with_wait, without_wait}
use Rattle.step_model.specs.Claims.{Claim, claim_of}
use Rattle.step_model.specs.Deadlocks.{IsEdge, wait_for}
use Rattle.step_model.specs.Step.{Step}
use Rattle.step_model.specs.Runs.{MayStep, Asked, Run, opening, mine_of}
use Rattle.history_laws.specs.Knows.{Knows, Ready}
use Rattle.history_laws.specs.Quiet.{Quiet}
use Rattle.history_laws.specs.Sure.{Sure, WritesTo}

-- a step that the session may make
pub record Makes (old : Engine) (session : ℕ) (exchange : Exchange) (new : Engine) : Type 0 where
  pub may : MayStep old session exchange.op exchange.manner
  pub step : Step old session exchange.op exchange.manner exchange.reply new

-- before any step, every session is known with no exchanges
abbrev pub OpeningKnows : Type 0
OpeningKnows = (session : ℕ) → Knows opening session []

-- a step's log begins with the one before it, whether it may be asked or not
abbrev pub StoryGrows : Type 0
StoryGrows = (old new : Engine) (session : ℕ) (exchange : Exchange) → Step old session exchange.op exchange.manner exchange.reply new
    → (later : List Logged) × (new.log ≡ old.log ++ later)

-- what a session may ask by its own exchanges it may ask the engine, and after the step it is known with the
-- exchange more
abbrev pub OwnStep : Type 0
OwnStep = (old : Engine) (session : ℕ) (steps : List Exchange) (op : Op) (manner : Manner) → Knows old session steps → Ready session steps op manner
    → MayStep old session op manner
    × ((reply : Reply) (new : Engine) → Step old session op manner reply new → Knows new session (steps ++ record { op = op; manner = manner; reply = reply } ∷ []))

-- a step of one session keeps what is known of every other
abbrev pub OtherStep : Type 0
OtherStep = (old new : Engine) (session other : ℕ) (steps : List Exchange) (exchange : Exchange) → other ≢ session
    → Knows old other steps → Makes old session exchange new → Knows new other steps

-- in every run of any sessions, each session's exchanges fit the one log
abbrev pub RunsFit : Type 0
RunsFit = (asked : List Asked) (engine : Engine) → Run opening asked engine → (session : ℕ) → Fits session [] engine.log (without_waits (mine_of session asked))

-- after every run no edges of standing waits are a cycle, and who is marked as a victim was in its cycle
abbrev pub RunsQuiet : Type 0
RunsQuiet = (asked : List Asked) (engine : Engine) → Run opening asked engine → Quiet engine

-- a session was about to wait for what its operation asks to lock, and each of these edges stood
abbrev pub Stood : ℕ → Engine → Op → Manner → List Edge → Type 0
Stood session old op manner cycle = (claim : Claim) × (claim_of (without_wait session old) op ≡ Some claim)
    × AllByRecursion (IsEdge (with_wait session (wait_for claim manner.priority) (without_wait session old))) cycle

-- who is marked as a victim by a step is marked with a cycle whose edges stood, and so is the cycle that is told
abbrev pub MarksStand : Type 0
MarksStand = (old new : Engine) (session : ℕ) (exchange : Exchange) → Step old session exchange.op exchange.manner exchange.reply new
    → ((who : ℕ) (cycle : List Edge) → victim_of who new ≡ Some cycle
    → (victim_of who old ≡ Some cycle) ⊎ Stood session old exchange.op exchange.manner cycle)
    × ((cycle : List Edge) → exchange.reply ≡ Victim cycle
    → (victim_of session old ≡ Some cycle) ⊎ Stood session old exchange.op exchange.manner cycle)

-- from a moment on at which the session had no transaction open, its exchanges fit what the log has grown by
abbrev pub SinceFits : Type 0
SinceFits = (begin log : List Logged) (session : ℕ) (before mine : List Exchange) → (later : List Logged) × (log ≡ begin ++ later)
    → Fits session [] begin before → Fits session [] log (before ++ mine) → progress_of before ≡ none_open
    → AllByRecursion (λ number. length begin ≤ number) (all_numbers mine) → Fits session begin log mine

-- A step that does not tell to wait gives a reply that may come to its operation through a port, where no mark as
-- a victim meets an operation that asks for no lock: at a port, which asks again what has to wait, none does.
abbrev pub StepReplies : Type 0
StepReplies = (old new : Engine) (session : ℕ) (exchange : Exchange) → (victim_of session old ≡ None) ⊎ AsksLock exchange.op → Step old session exchange.op exchange.manner exchange.reply new
    → is_wait exchange.reply ≡ false → CanReply exchange.op exchange.reply

-- where a row is sure, a write of it is not answered by Missing
abbrev pub SureStays : Type 0
SureStays = (old new : Engine) (session : ℕ) (steps : List Exchange) (op : Op) (manner : Manner) (span : Span) (t : TableName) (x : List Value)
    → Knows old session steps → Sure (without_waits steps) span t x → WritesTo op t x → Step old session op manner Missing new → ⊥
