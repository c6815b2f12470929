use Rattle.batch_exec.proofs.Parameters.{told_fits}
use Rattle.batch_exec.proofs.rpc.return_value.Goals as goal

pub returns-clause-fit : goal.returns-clause-fit
returns-clause-fit c = rw c.in_ok-name.ensures (told_fits c.args.place c.args.parameter.now _ c.requires.fits c.in_ok-value.ensures.typed)
