use Rattle.std.proofs.Common.{◌∙◌, ap₂}
use Rattle.transfer_load.specs.Batches.{transfer_text}
use Rattle.transfer_load.proofs.Sent.{transfer_sent}
use Rattle.transfer_load.proofs.batches.worker_bytes.Goals as goal

pub loop-transfer-preserved : goal.loop-transfer-preserved
loop-transfer-preserved c = transfer_sent c.loop-transfer.transfer c.args.worker _ _ _ c.loop-transfer.invariant
    (c.as_str.ensures.value ∙ c.in_ok-transfer_text.ensures ∙ ap₂ transfer_text c.payer-from.ensures c.payee-to.ensures) c.in_ok-put_batch.ensures
