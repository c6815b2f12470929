-- Own: a house, which is a desk with its seats.
use Rattle.std.specs.Prelude.{◌≡◌, ℕ, ◌+◌, ◌<◌, ◌≤◌, List, [], ◌∷◌, length, map, slice_index_or}
use Rattle.std.specs.List.{All}
use mathlib.Core.List.{IsPrefix}
use Rattle.atomic_table.specs.Seated.{TableId}
use Rattle.step_model.specs.Log.{Commit as Logged}
use Rattle.step_model.specs.State.{Engine}
use Rattle.history_laws.specs.Knows.{Knows}
use Rattle.turn_desk.specs.Seats.{DeskState}
use Rattle.engine_core.specs.Machine.{exchanges_of}
use Rattle.shared_port.specs.Asked.{EngineSeat}
use Rattle.shared_port.specs.SharedPort.{IsIdle}
use Rattle.seat_server.specs.Served.{HasServed}

-- these are seats of this desk, 64 at most, and all that they have done were connections
pub record AreHosted (desk : TableId) (seats : List EngineSeat) : Type 0 where
  pub few : length seats ≤ 64
  pub at_desk : All (λ seat. seat.desk ≡ desk) seats
  pub served : All HasServed seats

-- they have the same numbers, place by place
abbrev pub SameNumbers : List EngineSeat → List EngineSeat → Type 0
SameNumbers olds news = map (λ seat. seat.number) news ≡ map (λ seat. seat.number) olds

-- a house: its desk, and the seats that it holds
pub record HouseState : Type 0 where
  pub desk : DeskState Logged
  pub seats : List EngineSeat

-- it holds all seats of its desk, so many, in the order of their numbers, and none has a transaction open
pub record IsFull (many : ℕ) (house : HouseState) : Type 0 where
  pub desk_many : house.desk.seats ≡ many
  pub all : length house.seats ≡ many
  pub numbers : (k : ℕ) (d : EngineSeat) → k < many → (slice_index_or house.seats k d).number ≡ k + 1
  pub idle : All IsIdle house.seats

-- the engine knows what the seat has done, and its log goes on from the seat's
abbrev pub KnowsSeat : Engine → EngineSeat → Type 0
KnowsSeat engine seat = Knows engine seat.number (exchanges_of seat.steps) × IsPrefix seat.log engine.log

-- the first of these seats did so, and the others nothing
abbrev pub ServesFirst : (EngineSeat → EngineSeat → Type 0) → List EngineSeat → List EngineSeat → Type 0
ServesFirst does [] news = ⊥
ServesFirst does (old ∷ olds) [] = ⊥
ServesFirst does (old ∷ olds) (new ∷ news) = does old new × (news ≡ olds)
