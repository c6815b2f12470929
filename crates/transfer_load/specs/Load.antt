-- Own: what a load does. It is said of the seats of a house before and behind it, and of the replies that came; the code serves one
-- connection, then those of the workers at once, and then one more.
use Rattle.std.specs.Prelude.{◌≡◌, ℕ, ◌+◌, ◌*◌, List, [], ◌∷◌, false, length, take, drop, Some}
use Rattle.std.specs.List.{AllByRecursion}
use Rattle.outside_io.specs.Bytes.{Takes}
use Rattle.outside_io.specs.Memory.{SourceState, told_given, told_left}
use Rattle.tds_login.specs.declared.config.Config.{Config}
use Rattle.tds_login.specs.declared.config.Entry.TheVariants.{Bare}
use Rattle.tds_tokens.specs.declared.token.Token.{Token}
use Rattle.session_server.specs.declared.end.End.TheVariants.{Closed}
use Rattle.shared_port.specs.Asked.{EngineSeat}
use Rattle.seat_server.specs.declared.tally.Tally.{Tally}
use Rattle.seat_server.specs.Served.{Course, ServedConnection}
use Rattle.seat_server.specs.Workers.{AllFollow, AllWorked, all_courses}
use Rattle.seat_server.specs.House.{HouseState, ServesFirst}
use Rattle.transfer_load.specs.Batches.{batches_bytes, closing_texts, opening_texts}
use Rattle.transfer_load.specs.Replies.{AreReplies, number_in, refused_in, summary_text, transfers_in}
use Rattle.transfer_load.specs.Connections.{AreDone, Connection, all_replies, line_given, line_left, line_written, read_faults, write_faults}

-- a seat has served one connection in memory, of these bytes, until the client closed it, and has written those
pub record ServesBytes (config : Config) (bytes written : List ℕ) (old new : EngineSeat) : Type 0 where
  pub first : SourceState
  pub last : SourceState
  pub source : (first.left ≡ bytes) × (first.given ≡ [])
  pub served : ServedConnection config (Takes told_left told_given first last) (told_left last) (Some []) (Some written) old new Closed

-- all that the first so many seats of a house did were connections, the others did nothing, and it has the same desk
pub record OnlyServes (many : ℕ) (old new : HouseState) : Type 0 where
  pub desk : new.desk ≡ old.desk
  pub each : List (List Course)
  pub follow : AllFollow old.seats each new.seats
  pub others : drop many new.seats ≡ drop many old.seats

-- So many seats have served the connections of so many workers, one each in their order: these were the replies to the first worker's
-- batches, to the second's, and so on. Each client closed its connection at the end; the other seats did nothing.
pub record Transferred (config : Config) (workers transfers : ℕ) (olds news : List EngineSeat) (each : List (List (List Token))) : Type 0 where
  pub tally : Tally
  pub connections : List Connection
  pub served : AllWorked line_left line_given read_faults line_written write_faults config (Some workers) (take workers olds) (take workers news) (Some []) (Some connections) tally
  pub one : AllByRecursion (λ courses. length courses ≡ 1) served.each
  pub closed : AllByRecursion (λ course. course.end ≡ Closed) (all_courses served.each)
  pub others : drop workers news ≡ drop workers olds
  pub many : length connections ≡ workers
  pub done : AreDone transfers 0 connections each

-- What a load did, and prints: the first seat has made the accounts; then the workers have transferred; then the first seat has added up.
-- Every transfer has a reply.
pub record Loaded (workers transfers : ℕ) (olds news : List EngineSeat) (printed : List ℕ) : Type 0 where
  pub config : Config
  pub bare : config.entry ≡ Bare
  pub plain : config.drivers ≡ false
  pub opened : List EngineSeat
  pub opening_written : List ℕ
  pub opening : ServesFirst (ServesBytes config (batches_bytes opening_texts) opening_written) olds opened
  pub worked : List EngineSeat
  pub each : List (List (List Token))
  pub transferred : Transferred config workers transfers opened worked each
  pub closing_written : List ℕ
  pub closing : ServesFirst (ServesBytes config (batches_bytes closing_texts) closing_written) worked news
  pub reply : List Token
  pub replied : AreReplies closing_written (reply ∷ [])
  pub all : transfers_in (all_replies each) + refused_in (all_replies each) ≡ workers * transfers
  pub printed_is : printed ≡ summary_text (transfers_in (all_replies each)) (refused_in (all_replies each)) (number_in reply)
