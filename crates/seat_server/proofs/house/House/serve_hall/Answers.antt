use Rattle.seat_server.proofs.Housing.{full_more}
use Rattle.seat_server.proofs.house.House.serve_hall.Goals as goal

pub returns-clause-full : goal.returns-clause-full
returns-clause-full g c = full_more c.self.inside.desk c.self.inside.seats.items c.serve_by_many.new.seats.items c.args.self.now c.self.view_is c.serve_by_many.ensures.numbers c.serve_by_many.ensures.hosted
