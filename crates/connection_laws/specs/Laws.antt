-- Own: the laws of connections. A connection asks what its messages mean; here it is said that these are batches and calls by
-- RPC, and what follows of it for the log of commits.
use Rattle.std.specs.Prelude.{◌≡◌, ℕ, List, [], take}
use Rattle.std.specs.List.{AllByRecursion, flat_map}
use Rattle.tds_login.specs.declared.config.Config.{Config}
use Rattle.tds_packets.specs.declared.message.Message.{Message}
use Rattle.tds_packets.specs.Stream.{Splits}
use Rattle.step_model.specs.Exchange.{Exchange}
use Rattle.step_model.specs.Fits.{Fits, without_waits}
use Rattle.step_model.specs.Log.{Commit as Logged, State}
use Rattle.step_model.specs.Runs.{Asked, Run, mine_of, opening}
use Rattle.step_model.specs.State.{Engine}
use Rattle.engine_core.specs.Solo.{asked_by}
use Rattle.session_server.specs.Conversation.{IsAsked}
use Rattle.session_server.specs.Ends.{Cause}
use Rattle.session_server.specs.Response.{Response}
use Rattle.session_server.specs.Talk.{Request}
use Rattle.sound_laws.specs.Runs.{AreServed}
pub use Rattle.sound_laws.specs.Stands.{CommitsKeep, Intact}
pub use Rattle.sound_laws.specs.Laws.{Sound}
use Rattle.sound_laws.specs.Tied.{Tied}
use Rattle.connection_laws.specs.Tasks.{AsksTasks, tasks_of}

-- These exchanges are what one connection has asked for the messages that it took, until it ended.
pub record IsConnection (exchanges : List Exchange) : Type 0 where
  pub config : Config
  pub taken : List ℕ
  pub messages : List Message
  pub rest : List ℕ
  pub requests : List Request
  pub responses : List Response
  pub cause : Cause
  pub split : Splits taken messages rest
  pub asked : IsAsked config messages requests exchanges responses cause

-- They are those of the batches and calls of its requests, one behind another, and at the end those of one that was left, if one was. A
-- transaction may go over them; what is open at the end is rolled back.
abbrev pub ConnectionAsks : Type 0
ConnectionAsks = (exchanges : List Exchange) (connection : IsConnection exchanges) → AsksTasks connection.cause (tasks_of connection.requests) exchanges

-- So they have the form that the laws of soundness ask for.
abbrev pub ConnectionServed : Type 0
ConnectionServed = (exchanges : List Exchange) → IsConnection exchanges → AreServed exchanges

-- These are those of connections, one behind another; of none where a session has asked nothing.
pub record AreConnections (mine : List Exchange) : Type 0 where
  pub each : List (List Exchange)
  pub split : mine ≡ flat_map (λ exchanges. exchanges) each
  pub connections : AllByRecursion IsConnection each

-- Each commit among those of a session keeps its database intact.
abbrev pub ConnectionsKeep : Type 0
ConnectionsKeep = (session : ℕ) (begin log : List Logged) (mine : List Exchange) → Tied session begin log mine → AreConnections mine → CommitsKeep log [] mine

-- Where the exchanges of each session fit one log, each of them asked where it may come, and are those of connections, every database that the
-- first commits of the log leave is intact.
abbrev pub HistorySound : Type 0
HistorySound = (log : List Logged) (mine : ℕ → List Exchange) → ((session : ℕ) → Tied session [] log (mine session)) → ((session : ℕ) → Fits session [] log (mine session))
    → ((session : ℕ) → AreConnections (mine session)) → (place : ℕ) → Intact (State (take place log))

-- Where each session has served connections, every database that the first commits of the log leave is intact.
abbrev pub ConnectionsSound : Type 0
ConnectionsSound = (asked : List Asked) (engine : Engine) → Run opening asked engine → ((session : ℕ) → AreConnections (without_waits (mine_of session asked)))
    → (place : ℕ) → Intact (State (take place engine.log))

-- So it is where one session has served one, and no other has stepped.
abbrev pub ConnectionSound : Type 0
ConnectionSound = (session : ℕ) (exchanges : List Exchange) (engine : Engine) → IsConnection exchanges → Run opening (asked_by session exchanges) engine
    → (place : ℕ) → Intact (State (take place engine.log))
