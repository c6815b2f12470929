-- Own: the hall of the workers, and their doors, as clauses see them. Each door has one connection.
use Rattle.std.specs.Prelude.{ℕ, Bool, List, [], ◌∷◌, Option, None, Some}
use Rattle.transfer_load.specs.Connections.{Connection}

-- whether a door's connection is still to come, whether it is out, whether the door has answered that none will come any more, and its
-- connection, where that is finished
pub record DoorState : Type 0 where
  pub waits : Bool
  pub is_out : Bool
  pub has_closed : Bool
  pub finished : List Connection

abbrev pub door_told : DoorState → Option (List Connection)
door_told door = Some door.finished

-- a connection that may be there, as a list
abbrev pub connections_of : {C : Type 0} → Option C → List C
connections_of None = []
connections_of (Some connection) = connection ∷ []

-- the connections that came back, where they are told; how many; how many doors have answered that none will come any more, how many were
-- made, and how many came back; how often it has begun, and at which port last
pub record HallState : Type 0 where
  pub told : Option (List Connection)
  pub finished : ℕ
  pub closed : ℕ
  pub made : ℕ
  pub back : ℕ
  pub begun : ℕ
  pub at_port : Option ℕ
