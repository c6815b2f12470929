-- Own: the statuses of the program, and what its commands do. It is said of the whole run: of the words, the bytes that go in and
-- out, the seats of the house and the connections of the hall; the code calls one layer after another.
use Rattle.std.specs.Prelude.{◌≡◌, ℕ, ◌<◌, ◌⊎◌, ◌||◌, nat_lt, Bool, true, false, List, [], ◌++◌, length, take, drop, Option, Some, IfSome, IsTrue, if◌then◌else◌, codes}
use Rattle.std.specs.Fmt.{decimal}
use Rattle.std.specs.Io.KnownBytes.{Appends}
use Rattle.tds_login.specs.declared.config.Config.{Config}
use Rattle.tds_login.specs.declared.config.Entry.{Entry}
use Rattle.tds_login.specs.declared.config.Entry.TheVariants.{Login, Bare}
use Rattle.tds_packets.specs.declared.message.Message.{Message}
use Rattle.tds_packets.specs.Stream.{Splits}
use Rattle.tds_packets.specs.Reading.{byte_limit}
use Rattle.step_model.specs.Runs.{opening}
use Rattle.outside_io.specs.Bytes.{HasRisen}
use Rattle.steps_command.specs.Command.{IsCutOff}
use Rattle.steps_command.specs.Play.{Stage, first_manners}
use Rattle.session_server.specs.declared.end.End.{End}
use Rattle.session_server.specs.declared.end.End.TheVariants.{Closed, Cut, BadHeader, TooLong, OutOfPlace, BadPrelogin, LoginRefused, BadBatch, BadRpc, BadTransaction, Spent, ReadFault, WriteFault, Memory}
use Rattle.session_server.specs.Conversation.{IsUnended}
use Rattle.shared_port.specs.Asked.{EngineSeat}
use Rattle.seat_server.specs.declared.tally.Tally.{Tally}
use Rattle.seat_server.specs.Served.{Course, ServedConnection}
use Rattle.seat_server.specs.Workers.{AllFollow, AllWorked, HallNumbers, RisesBy, Tallied}
use Rattle.seat_server.specs.House.{ServesFirst}
use Rattle.transfer_load.specs.Load.{Loaded}

-- how many seats the program's house has
abbrev pub house_seats : ℕ
house_seats = 64

-- ---- configurations

-- a client logs in as this user with this password, or is logged in from the beginning; what drivers send is served, or not
abbrev pub entry_of : Bool → Entry
entry_of true = Bare
entry_of false = Login

abbrev pub config_of : List ℕ → List ℕ → Bool → Bool → Config
config_of user password bare drivers = record { user = user; password = password; entry = entry_of bare; drivers = drivers }

-- ---- what is printed

-- A text was written whole, and the status is the one that was meant. Or a front of it was: writing failed, or memory was wanting.
abbrev pub Prints : Option (List ℕ) → Option (List ℕ) → List ℕ → ℕ → ℕ → ℕ → Type 0
Prints before after text done wanting status = ((status ≡ done) × Appends before after text)
    ⊎ (((status ≡ 4) ⊎ (status ≡ wanting)) × IsCutOff before after text)

-- ---- `pipe`

-- the status at the end of a connection
abbrev pub status_of : End → ℕ
status_of Closed = 0
status_of ReadFault = 3
status_of WriteFault = 4
status_of (Cut at) = 5
status_of (BadHeader at) = 5
status_of (TooLong at) = 5
status_of (OutOfPlace at kind) = 5
status_of (BadRpc at why) = 5
status_of (BadTransaction at why) = 5
status_of (BadPrelogin fault) = 5
status_of (LoginRefused number) = 5
status_of (BadBatch fault) = 5
status_of Spent = 5
status_of Memory = 6

-- The first of the seats served one connection by this configuration, and the others nothing. `gave` says which bytes came from the
-- source, in which `left` are left.
pub record Piped (config : Config) (gave : List ℕ → Type 0) (left sink_before sink_after : Option (List ℕ)) (olds news : List EngineSeat) (status : ℕ) : Type 0 where
  pub end : End
  pub status_is : status ≡ status_of end
  pub served : ServesFirst (λ old new. ServedConnection config gave left sink_before sink_after old new end) olds news

-- Where the source told its bytes, and they are fewer than 2^40 and whole messages of which none ends
-- the talk, as a refused login does: all were answered, or memory was wanting.
abbrev pub EndsWell : Config → Option (List ℕ) → ℕ → Type 0
EndsWell config told status = IfSome told (λ bytes. length bytes < byte_limit → (messages : List Message) → Splits bytes messages [] → IsUnended config messages → (status ≡ 0) ⊎ (status ≡ 6))

-- ---- `listen`

-- how many connections were served
abbrev pub served_text : ℕ → List ℕ
served_text served = codes "served " ++ decimal served ++ codes "\n"

-- a door failed; or else memory was wanting, before the workers began or for a connection
abbrev pub tally_status : Tally → ℕ
tally_status tally = if nat_lt 0 tally.failed then 7 else if tally.memory || nat_lt 0 tally.starved then 6 else 0

-- where memory is wanting for what is printed
abbrev pub unprinted_status : Tally → ℕ
unprinted_status tally = if nat_lt 0 tally.failed then 7 else 6

module _ {D L : Type 0} (may_close : D → Bool) (left given : L → Option (List ℕ)) (read_faults : L → ℕ) (written : L → Option (List ℕ)) (write_faults : L → ℕ) where
  -- The hall began once, at this port. The first of the seats served its connections, so many workers beside one another, and the others
  -- nothing; then it was printed how many connections that were. Doors closed only where there is one that may.
  pub record HallServed (config : Config) (port workers : ℕ) (rounds : Option ℕ) (told_old told_new : Option (List L)) (before after : HallNumbers) (sink_before sink_after : Option (List ℕ)) (olds news : List EngineSeat) (status : ℕ) : Type 0 where
    pub tally : Tally
    pub begun : RisesBy before.begun after.begun 1
    pub at_port : after.at_port ≡ Some port
    pub worked : AllWorked left given read_faults written write_faults config rounds (take workers olds) (take workers news) told_old told_new tally
    pub others : drop workers news ≡ drop workers olds
    pub tallied : Tallied rounds workers before after tally
    pub closes : 0 < tally.closed → (door : D) × IsTrue (may_close door)
    pub printed : Prints sink_before sink_after (served_text tally.connections) (tally_status tally) (unprinted_status tally) status

-- the hall could not begin: it counted a fault and nothing else, nothing was served, and nothing printed
pub record NotBegun (before after : HallNumbers) (sink_before sink_after : Option (List ℕ)) (olds news : List EngineSeat) (status : ℕ) : Type 0 where
  pub status_is : status ≡ 7
  pub fault : HasRisen before.faults after.faults
  pub numbers : after ≡ record before { faults = after.faults }
  pub unprinted : sink_after ≡ sink_before
  pub unserved : news ≡ olds

module _ {D L : Type 0} (may_close : D → Bool) (left given : L → Option (List ℕ)) (read_faults : L → ℕ) (written : L → Option (List ℕ)) (write_faults : L → ℕ) where
  -- `listen` by this configuration: the hall was served, or could not begin
  abbrev pub Listened : Config → ℕ → ℕ → Option ℕ → Option (List L) → Option (List L) → HallNumbers → HallNumbers → Option (List ℕ) → Option (List ℕ) → List EngineSeat → List EngineSeat → ℕ → Type 0
  Listened config port workers rounds told_old told_new before after sink_before sink_after olds news status =
      HallServed may_close left given read_faults written write_faults config port workers rounds told_old told_new before after sink_before sink_after olds news status
      ⊎ ((told_new ≡ told_old) × NotBegun before after sink_before sink_after olds news status)

-- Where rounds are given, nothing fails, and no door may close: as many connections were served, and that was printed; or memory was
-- wanting.
abbrev pub ServesAll : Option ℕ → Option (List ℕ) → Option (List ℕ) → ℕ → Type 0
ServesAll rounds sink_before sink_after status = IfSome rounds (λ all. ((status ≡ 0) × Appends sink_before sink_after (served_text all)) ⊎ (status ≡ 6))

-- ---- `load`

-- A load was run by so many of the first seats, and printed; or memory was wanting for it, and nothing was printed: what these seats did were
-- connections, and the others did nothing.
abbrev pub PrintsLoad : ℕ → ℕ → Option (List ℕ) → Option (List ℕ) → List EngineSeat → List EngineSeat → ℕ → Type 0
PrintsLoad workers transfers sink_before sink_after olds news status =
    ((printed : List ℕ) × Loaded workers transfers olds news printed × Prints sink_before sink_after printed 0 6 status)
    ⊎ ((status ≡ 6) × (sink_after ≡ sink_before) × ((each : List (List Course)) × AllFollow olds each news × (drop workers news ≡ drop workers olds)))

-- ---- `steps`

-- an engine before any step, and the manners in which sessions ask at first
abbrev pub first_stage : Stage
first_stage = record { engine = opening; manners = first_manners }
