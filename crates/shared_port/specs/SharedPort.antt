-- Own: what a port over a desk tells of its past. It is read off the steps of its seat; the code keeps no list.
use Rattle.std.specs.Prelude.{◌≡◌, ◌⊎◌, ◌≤◌, false, List, [], ◌++◌, length, Option, None, Some}
use Rattle.std.specs.List.{AllByRecursion}
use mathlib.Core.List.{IsPrefix}
use Rattle.step_model.specs.declared.reply.Reply.{Reply}
use Rattle.step_model.specs.Exchange.{Exchange, Standing}
use Rattle.step_model.specs.Fits.{Fits, all_numbers}
use Rattle.step_model.specs.Own.{none_open, progress_of, standing_at}
use Rattle.step_model.specs.Port.{PortPast}
use Rattle.history_laws.specs.Quiet.{EndsInWait}
use Rattle.history_laws.specs.Sure.{Sure}
use Rattle.engine_core.specs.Machine.{Ask, exchanges_of, mine_in}
use Rattle.shared_port.specs.Asked.{EngineSeat}

-- where its session stands: whether a transaction is open, and the live marks in that
abbrev pub seat_standing : EngineSeat → Standing
seat_standing seat = standing_at (progress_of (mine_in seat.steps))

-- no transaction of it is open
abbrev pub IsIdle : EngineSeat → Type 0
IsIdle seat = progress_of (mine_in seat.steps) ≡ none_open

-- it has none open, or its last step wasn't told to wait: so it waits for nobody, and is nobody's victim
abbrev pub IsAtRest : EngineSeat → Type 0
IsAtRest seat = IsIdle seat ⊎ (EndsInWait (exchanges_of seat.steps) → ⊥)

-- What a seat has done since an entry: its steps since then, of which these exchanges were not told to wait. Its
-- log goes on from the one at the entry, which agrees with the steps before; and no number that it was told since
-- is below that log's length.
pub record Since (entry seat : EngineSeat) (exchanges : List Exchange) : Type 0 where
  pub desk : seat.desk ≡ entry.desk
  pub number : seat.number ≡ entry.number
  pub before : Fits entry.number [] entry.log (mine_in entry.steps)
  pub later : List (Ask × Reply)
  pub steps : seat.steps ≡ entry.steps ++ later
  pub mine : mine_in later ≡ exchanges
  pub log : IsPrefix entry.log seat.log
  pub numbers : AllByRecursion (λ number. length entry.log ≤ number) (all_numbers exchanges)
  -- where no transaction was open at the entry and none is now, nothing is left of any
  pub idle : IsIdle entry → (seat_standing seat).is_open ≡ false → IsIdle seat

-- the same of an entry that may be given
abbrev pub SinceEntry : Option EngineSeat → EngineSeat → List Exchange → Type 0
SinceEntry None seat exchanges = Unit {0}
SinceEntry (Some entry) seat exchanges = Since entry seat exchanges

-- what is behind the port: its session is the seat's number, and it tells all exchanges of the seat's steps
abbrev pub shared_past : Option EngineSeat → EngineSeat → PortPast
shared_past entry seat = record {
  session = seat.number;
  standing = seat_standing seat;
  sure = Sure (mine_in seat.steps);
  told = Some (mine_in seat.steps);
  led_by = SinceEntry entry seat;
}

-- from an entry with no transaction open, what the seat has done since fits what the log has grown by
abbrev pub FitsSince : EngineSeat → EngineSeat → Type 0
FitsSince entry seat = (exchanges : List Exchange) → IsIdle entry → Since entry seat exchanges → Fits seat.number entry.log seat.log exchanges
