-- Own: the law of runs. Sessions step one after another, as they come; each of them asks what connections ask, one behind another.
-- A connection runs batches and calls by RPC, from a progress where nothing is open; a transaction may go on from one to the next. The last of them may be
-- left in the middle, for want of memory, or since its client is gone; and behind them what is open is rolled back.
use Rattle.std.specs.Prelude.{◌≡◌, ℕ, false, List, [], ◌∷◌, ◌++◌, take, Option, Some, None}
use Rattle.std.specs.List.{AllByRecursion, flat_map}
use Rattle.std.specs.Option.{ForSome}
use Rattle.step_model.specs.Exchange.{Exchange}
use Rattle.step_model.specs.Fits.{without_waits}
use Rattle.step_model.specs.Log.{State}
use Rattle.step_model.specs.Runs.{Asked, Run, mine_of, opening}
use Rattle.step_model.specs.State.{Engine}
use Rattle.batch_meaning.specs.declared.errand.Errand.{Errand}
use Rattle.batch_meaning.specs.declared.errand.Way.{Way}
use Rattle.batch_meaning.specs.declared.errand.Way.TheVariants as way
use Rattle.batch_meaning.specs.declared.form.ReadText.{ReadText}
use Rattle.batch_meaning.specs.Doing.{Doing, Held, Left}
use Rattle.batch_meaning.specs.Meaning.{batch, rolls_back_open}
use Rattle.batch_meaning.specs.Progress.{SessionProgress}
use Rattle.batch_meaning.specs.Rpc.{rpc}
use Rattle.sound_laws.specs.Stands.{Intact}
use Rattle.text_laws.specs.Laws.{CallReadsBack, TextReadsBack}

-- ---- what is run

-- a batch, or a call by RPC, with what its text is read as
pub data Task : Type 0 where
  Runs : ReadText → Task
  Calls : Errand → ReadText → Task

-- what it does
abbrev pub tree_of : Task → Doing (Unit {0})
tree_of (Runs read) = batch read
tree_of (Calls call read) = rpc call read

-- of what is read for a call the text of each CREATE TABLE reads as its table: of a batch, or of the body of a procedure
abbrev pub ErrandReadsBack : Way → ReadText → Type 0
ErrandReadsBack way.RunsBatch read = TextReadsBack read
ErrandReadsBack other read = CallReadsBack read

-- the text of each CREATE TABLE that it runs reads as its table
abbrev pub TaskReadsBack : Task → Type 0
TaskReadsBack (Runs read) = TextReadsBack read
TaskReadsBack (Calls call read) = ErrandReadsBack call.way read

-- ---- a connection

-- these exchanges are all that batches and calls ask, one behind another, each from where the one before it has come to
abbrev pub AreDone : List Task → SessionProgress → List Exchange → SessionProgress → Type 0
AreDone [] old exchanges new = (exchanges ≡ []) × (new ≡ old)
AreDone (one ∷ others) old exchanges new = (mid : SessionProgress) × (first later : List Exchange) × (exchanges ≡ first ++ later) × Held (tree_of one) old first tt mid × AreDone others mid later new

-- they are a front of what one more asks, if there is one
abbrev pub IsCut : Option Task → SessionProgress → List Exchange → SessionProgress → Type 0
IsCut None old exchanges new = (exchanges ≡ []) × (new ≡ old)
IsCut (Some one) old exchanges new = Left (tree_of one) old exchanges new

-- These exchanges are what a connection has asked so far, from a progress where nothing is open, as the first one is: batches and calls that
-- were done, and then one that was left, or none.
pub record IsServed (exchanges : List Exchange) (new : SessionProgress) : Type 0 where
  pub old : SessionProgress
  pub closed : old.is_open ≡ false
  pub tasks : List Task
  pub last : Option Task
  pub done : List Exchange
  pub left : List Exchange
  pub mid : SessionProgress
  pub parts : exchanges ≡ done ++ left
  pub are_done : AreDone tasks old done mid
  pub was_left : IsCut last mid left new
  -- the text of each CREATE TABLE reads as its table
  pub back : AllByRecursion TaskReadsBack tasks
  pub last_back : ForSome last TaskReadsBack

-- behind them what was open is rolled back, as it is where a connection ends
pub record IsWhole (part : List Exchange) : Type 0 where
  pub served : List Exchange
  pub rolled : List Exchange
  pub mid : SessionProgress
  pub new : SessionProgress
  pub parts : part ≡ served ++ rolled
  pub asked : IsServed served mid
  pub end : Held rolls_back_open mid rolled tt new

-- ---- a session

-- A session's exchanges are those of connections, one behind another; that of the last may not have ended.
pub record AreServed (mine : List Exchange) : Type 0 where
  pub parts : List (List Exchange)
  pub last : List Exchange
  pub now : SessionProgress
  pub split : mine ≡ flat_map (λ part. part) parts ++ last
  pub whole : AllByRecursion IsWhole parts
  pub ends : IsServed last now

-- ---- a run

-- so it is of each session
abbrev pub ServeTasks : List Asked → Type 0
ServeTasks asked = (session : ℕ) → AreServed (without_waits (mine_of session asked))

-- Then every database that the first commits of the log leave is intact.
abbrev pub RunSound : Type 0
RunSound = (asked : List Asked) (engine : Engine) → Run opening asked engine → ServeTasks asked → (place : ℕ) → Intact (State (take place engine.log))
