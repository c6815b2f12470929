use Rattle.std.specs.Prelude.{Some}
use Rattle.seat_server.proofs.connection.serve_connection.Given as goal

abbrev pub ghosts-serve_seat : goal.ghosts-serve_seat
ghosts-serve_seat g a = record { entry = Some a.seat }
