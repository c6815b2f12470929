use Rattle.std.proofs.Common.{◌≡◌}
use Rattle.transfer_load.specs.Batches.{batches_bytes, worker_texts}
use Rattle.transfer_load.proofs.batches.worker_bytes.Given as goal

-- the batches so far were sent
abbrev pub invariant-loop-transfer : goal.invariant-loop-transfer
invariant-loop-transfer l = l.sink.written ≡ batches_bytes (worker_texts l.transfer l.worker)
