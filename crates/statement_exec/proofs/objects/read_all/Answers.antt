use Rattle.std.proofs.Common.{arith}
use Rattle.statement_exec.proofs.ObjectsReading.{reading_begun, reading_next, reading_ended, reading_failed, reading_limited, reads_objects}
use Rattle.statement_exec.proofs.objects.read_all.Goals as goal

pub loop-left-init : goal.loop-left-init
loop-left-init g c = record { ready = c.requires.ready; begun = c.requires.begun; reading = rw (c.new-definitions.ensures.items, c.requires.table) (reading_begun _ _) }

pub read_next-requires : goal.read_next-requires
read_next-requires g c = record { ready = c.loop-left.invariant.ready; begun = c.loop-left.invariant.begun; range = reads_objects c.loop-left.invariant.reading.fetches }

pub returns-clause-does : goal.returns-clause-does
returns-clause-does g c = rw c.plain.ensures (reading_limited c.loop-left.invariant.reading (omega (arith, c.loop-left-test.false)))

pub returns-in_err-key-clause-does : goal.returns-in_err-key-clause-does
returns-in_err-key-clause-does g c = reading_failed c.loop-left.left _ c.from_residual.ensures.0 c.from_residual.ensures.1 c.loop-left-test.true c.loop-left.invariant.reading c.in_err-key.ensures.does

pub returns-in-None-clause-does : goal.returns-in-None-clause-does
returns-in-None-clause-does g c = reading_ended c.loop-left.left c.loop-left-test.true c.loop-left.invariant.reading (rw c.in-None.is at c.in_ok-key.ensures.does)

pub loop-left-preserved : goal.loop-left-preserved
loop-left-preserved g c = record {
  ready = c.in_ok-key.ensures.ready;
  begun = c.in_ok-key.ensures.begun;
  reading = rw c.behind-fetch.ensures (reading_next c.loop-left.left c.loop-left-test.true c.loop-left.invariant.reading (rw c.in-Some.is at c.in_ok-key.ensures.does));
}
