-- Own: what a seat of the engine's desk has served. It is said of the seat before and after a connection, with all that others did
-- beside it; the code asks the desk step by step, and may be told to wait.
use Rattle.std.specs.Prelude.{◌≡◌, ℕ, ◌≤◌, List, [], ◌∷◌, length, drop, Option, Some}
use Rattle.tds_login.specs.declared.config.Config.{Config}
use Rattle.step_model.specs.Exchange.{Exchange}
use Rattle.step_model.specs.Fits.{Fits, changes_of_session, commits_of}
use Rattle.engine_core.specs.Machine.{FitsSteps}
use Rattle.shared_port.specs.Asked.{EngineSeat}
use Rattle.shared_port.specs.SharedPort.{IsIdle, Since, shared_past}
use Rattle.session_server.specs.declared.end.End.{End}
use Rattle.session_server.specs.declared.end.End.TheVariants.{Memory}
use Rattle.session_server.specs.Conversation.{Conversation}
use Rattle.connection_laws.specs.Laws.{CommitsKeep}
use Rattle.connection_laws.specs.Laws.{AreConnections, IsConnection}

-- What a seat has done since an entry at which no transaction was open. Its steps since, without those that were told to wait, are
-- these exchanges. They fit the log, which has gone on from the one at entry; the commits of the session in what has come to
-- the log since are those that they asked, each once, in order; each of these keeps its database intact; and no transaction is
-- open.
pub record Stretch (old new : EngineSeat) (exchanges : List Exchange) : Type 0 where
  pub since : Since old new exchanges
  -- all that it ever did fits the log too, and each operation was asked where it may come
  pub within : FitsSteps new.log new.number new.steps
  pub fits : Fits old.number old.log new.log exchanges
  pub commits : changes_of_session old.number (drop (length old.log) new.log) ≡ commits_of exchanges
  pub keeps : CommitsKeep new.log [] exchanges
  pub idle : IsIdle new

-- A seat has served one connection by this configuration. `gave` says which bytes came from the source, in which `left` are left.
pub record ServedConnection (config : Config) (gave : List ℕ → Type 0) (left sink_before sink_after : Option (List ℕ)) (old new : EngineSeat) (end : End) : Type 0 where
  -- what was taken, asked and written, and why it ended
  pub conversation : Conversation config old.number gave left (shared_past (Some old) old) (shared_past (Some old) new) sink_before sink_after end
  pub stretch : Stretch old new conversation.means.exchanges
  -- memory was wanting only after a whole header was taken
  pub memory : end ≡ Memory → 8 ≤ length conversation.heard.taken

-- ---- connections one behind another

-- one connection of a seat: where the seat stood before and behind it, and why it ended
pub record Course : Type 0 where
  pub old : EngineSeat
  pub new : EngineSeat
  pub end : End

-- the exchanges since are those of a connection
pub record IsCourse (course : Course) : Type 0 where
  pub exchanges : List Exchange
  pub connection : IsConnection exchanges
  pub stretch : Stretch course.old course.new exchanges

-- from one moment of a seat to another, these were its connections, and it made no other step
abbrev pub Follow : EngineSeat → List Course → EngineSeat → Type 0
Follow old [] new = new ≡ old
Follow old (course ∷ courses) new = (course.old ≡ old) × IsCourse course × Follow course.new courses new

-- a seat that has made no step
abbrev pub new_seat : EngineSeat → EngineSeat
new_seat seat = record { desk = seat.desk; number = seat.number; steps = []; log = [] }

-- all that a seat has done were connections
abbrev pub HasServed : EngineSeat → Type 0
HasServed seat = (courses : List Course) × Follow (new_seat seat) courses seat

-- What it has done in connections one behind another, from a moment at which it had no transaction open, is one stretch.
abbrev pub FollowStretch : EngineSeat → Type 0
FollowStretch seat = (old : EngineSeat) (courses : List Course) → IsIdle old → Follow old courses seat → (exchanges : List Exchange) × Stretch old seat exchanges × AreConnections exchanges
