use Rattle.std.proofs.Common.{sym}
use Rattle.tds_login.proofs.Refusals.{served}
use Rattle.tds_login.proofs.login.read_login.Goals as goal

pub login_in-requires : goal.login_in-requires
login_in-requires c = served c.args.payload.now (sym c.in-None.ensures)
