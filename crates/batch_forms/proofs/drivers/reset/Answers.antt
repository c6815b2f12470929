use Rattle.batch_forms.proofs.Taken.{reset_is}
use Rattle.batch_forms.proofs.drivers.reset.Goals as goal

pub returns : goal.returns
returns c = reset_is _ _ c.args.prepared.now c.args.parameters.items c.in_ok-text.text c.in_ok-text.ensures c.drop_all.ensures c.system_errand.ensures
