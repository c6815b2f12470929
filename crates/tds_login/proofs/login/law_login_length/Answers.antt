use Rattle.tds_login.proofs.Behind.{behind_same}
use Rattle.tds_login.proofs.login.law_login_length.Goals as goal

pub returns : goal.returns
returns c = behind_same c.args.login.now c.args.rest.now
