use Rattle.std.proofs.Common.{ap, ◌∙◌}
use Rattle.transfer_load.specs.Batches.{create_text, insert_text}
use Rattle.transfer_load.proofs.Sent.{two_sent}
use Rattle.transfer_load.proofs.batches.opening_bytes.Goals as goal

pub returns : goal.returns
returns c = c.into_bytes.ensures ∙ two_sent create_text insert_text _ _ _ _ (ap (λ s. s.written) c.new-sink.ensures) c.in_ok-put_batch.ensures (c.as_str.ensures.value ∙ c.in_ok-insert_text.ensures) c.in_ok-put_batch-2.ensures
