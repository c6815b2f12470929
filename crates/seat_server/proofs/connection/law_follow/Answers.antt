use Rattle.seat_server.proofs.Stretches.{one_stretch}
use Rattle.seat_server.proofs.connection.law_follow.Goals as goal

pub returns : goal.returns
returns c = λ old courses idle follow. one_stretch old c.args.seat.now courses c.law_within.ensures idle follow
