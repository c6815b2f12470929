use Rattle.std.proofs.Common.{◌≡◌, ◌≢◌, List, take, sym, ap, subst}
use Rattle.std.specs.List.{All}
use Rattle.step_model.specs.Log.{State}
use Rattle.shared_port.specs.Asked.{EngineSeat}
use Rattle.connection_laws.proofs.Sound.{intact_sound}
use Rattle.seat_server.specs.House.{KnowsSeat}
use Rattle.seat_server.proofs.Housing.{all_intact, knows_seats}
use Rattle.seat_server.proofs.house.House.close.Goals as goal

pub returns-clause-seats : goal.returns-clause-seats
returns-clause-seats c =
    let same : c.self.inside.seats.items ≡ c.args.self.seats = ap (λ house. house.seats) c.self.view_is in
    subst (All (KnowsSeat c.close.result)) same (knows_seats c.close.result c.self.inside.seats.items c.close.ensures.seats)

pub returns-clause-others : goal.returns-clause-others
returns-clause-others c =
    let same : c.self.inside.seats.items ≡ c.args.self.seats = ap (λ house. house.seats) c.self.view_is in
    λ number none. (c.close.ensures.others number (subst (λ (seats : List EngineSeat). All (λ seat. seat.number ≢ number) seats) (sym same) none)).0

pub returns-clause-sound : goal.returns-clause-sound
returns-clause-sound c =
    λ place. intact_sound (State (take place c.close.result.log)) (all_intact c.close.result c.self.inside.seats.items c.close.ensures.seats c.self.invariant.1.served c.close.ensures.others place)

pub returns-clause-intact : goal.returns-clause-intact
returns-clause-intact c = λ place. all_intact c.close.result c.self.inside.seats.items c.close.ensures.seats c.self.invariant.1.served c.close.ensures.others place
