use Rattle.batch_forms.proofs.Taken.{prepares_is}
use Rattle.batch_forms.proofs.drivers.prepare.Goals as goal

pub returns : goal.returns
returns c = prepares_is _ _ c.args.prepared.now c.args.runs c.next_handle-handle.result c.args.parameters.items c.in_ok-source.source (rw c.as_slice.ensures.value at c.in_ok-source.ensures) c.next_handle-handle.ensures c.prepared_by.ensures
