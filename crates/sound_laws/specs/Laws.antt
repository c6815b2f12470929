-- Own: the laws. What a statement, a batch or a call by RPC asks keeps what stands, and each of its commits keeps an intact database intact; such a one is
-- sound; and so is each database that the log's commits leave.
use Rattle.std.specs.Prelude.{◌≡◌, ◌⊎◌, ℕ, ◌≤◌, ◌<◌, false, List, ◌∷◌, ◌++◌, length, take}
use Rattle.tsql_tree.specs.declared.statement.Statement.{Statement}
use Rattle.step_model.specs.declared.op.Op.TheVariants.{Commit}
use Rattle.step_model.specs.declared.reply.Reply.TheVariants.{Ended}
use Rattle.step_model.specs.Database.{Database}
use Rattle.step_model.specs.Exchange.{Exchange}
use Rattle.step_model.specs.Fits.{committed_by}
use Rattle.step_model.specs.Log.{Commit as Logged, State}
use Rattle.step_model.specs.Own.{progress_of}
use Rattle.batch_meaning.specs.declared.errand.Errand.{Errand}
use Rattle.batch_meaning.specs.declared.form.ReadText.{ReadText}
use Rattle.batch_meaning.specs.Meaning.{batch, mean_of, rolls_back_open}
use Rattle.batch_meaning.specs.Doing.{Held, Left}
use Rattle.batch_meaning.specs.Progress.{SessionProgress}
use Rattle.batch_meaning.specs.Raised.{Around}
use Rattle.batch_meaning.specs.Rpc.{rpc}
pub use Rattle.write_laws.specs.Indexed.{Sound}
use Rattle.sound_laws.specs.Stands.{Carries, Intact, Stands}
use Rattle.text_laws.specs.Laws.{Everywhere, ReadsBack, TextReadsBack}
use Rattle.sound_laws.specs.Tied.{Tied}
use Rattle.sound_laws.specs.Runs.{ErrandReadsBack, IsServed, Task, tree_of}

-- ---- databases

-- an intact database is sound
abbrev pub IntactSound : Type 0
IntactSound = (db : Database) → Intact db → Sound db

-- ---- what stands

-- where no transaction is open, it stands
abbrev pub ShutStands : Type 0
ShutStands = (session : ℕ) (begin log : List Logged) (mine before later : List Exchange) → Tied session begin log mine → mine ≡ before ++ later → (progress_of before).is_open ≡ false → Stands log before later

-- what a statement asks keeps it, with all that stands in the statement
abbrev pub StatementSound : Type 0
StatementSound = (levels : ℕ) (statement : Statement) (around : Around) → Everywhere ReadsBack statement → Carries (mean_of levels statement around)

-- so does what a batch asks
abbrev pub BatchSound : Type 0
BatchSound = (read : ReadText) → TextReadsBack read → Carries (batch read)

-- and what a call by RPC asks
abbrev pub CallSound : Type 0
CallSound = (call : Errand) (read : ReadText) → ErrandReadsBack call.way read → Carries (rpc call read)

-- behind either session and port agree on whether a transaction is open, if they did before it
abbrev pub TaskAgrees : Type 0
TaskAgrees = (one : Task) (old new : SessionProgress) (before part : List Exchange) → old.is_open ≡ (progress_of before).is_open → Held (tree_of one) old part tt new ⊎ Left (tree_of one) old part new
    → new.is_open ≡ (progress_of (before ++ part)).is_open

-- and the rollback of what it left open keeps what stands
abbrev pub RollbackSound : Type 0
RollbackSound = Carries rolls_back_open

-- ---- the log

-- The commit at this place is one of those that a connection of some session has asked, which began where no transaction was open.
pub record IsOfBatch (log : List Logged) (place : ℕ) : Type 0 where
  pub session : ℕ
  pub begin : List Logged
  pub mine : List Exchange
  pub tied : Tied session begin log mine
  -- these exchanges of the session are what the connection has asked
  pub before : List Exchange
  pub part : List Exchange
  pub later : List Exchange
  pub now : SessionProgress
  pub split : mine ≡ before ++ (part ++ later)
  pub shut : (progress_of before).is_open ≡ false
  pub served : IsServed part now
  -- and this one of them is the commit
  pub front : List Exchange
  pub behind : List Exchange
  pub exchange : Exchange
  pub among : part ≡ front ++ exchange ∷ behind
  pub commits : exchange.op ≡ Commit
  pub ended : exchange.reply ≡ Ended place
  pub one : length (committed_by exchange.op exchange.reply (progress_of (before ++ front))) ≡ 1

-- Where each commit from here on is one that a connection has asked, each database is intact if the first is.
abbrev pub LogSound : Type 0
LogSound = (log : List Logged) (first : ℕ) → Intact (State (take first log)) → ((place : ℕ) → first ≤ place → place < length log → IsOfBatch log place)
    → (place : ℕ) → first ≤ place → place ≤ length log → Intact (State (take place log))

-- So it is where all commits are, since the first database has no rows.
abbrev pub WholeLogSound : Type 0
WholeLogSound = (log : List Logged) → ((place : ℕ) → place < length log → IsOfBatch log place) → (place : ℕ) → place ≤ length log → Intact (State (take place log))
