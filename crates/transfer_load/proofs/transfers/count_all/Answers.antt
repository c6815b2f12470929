use Rattle.std.proofs.Common.{[], ◌∷◌, ◌++◌, arith}
use Rattle.transfer_load.proofs.DoneConnections.{done_next, refused_counted, transfers_counted}
use Rattle.transfer_load.proofs.transfers.count_all.Goals as goal

pub loop-connection-preserved : goal.loop-connection-preserved
loop-connection-preserved c =
    let before = c.loop-connection.invariant.done in
    let here = c.in_ok-counts.ensures in record {
      place = omega (arith, c.loop-connection.invariant.place);
      few = omega (arith, c.loop-connection.invariant.few, here.4, c.requires.transfers);
      all = omega (arith, c.loop-connection.invariant.all, here.4);
      done = (
        before.0 ++ here.0 ∷ [],
        done_next c.args.transfers c.args.connections.now c.loop-connection.connection-index c.loop-connection.worker before.0 c.connection-item.result here.0 c.loop-connection-test.true c.loop-connection.invariant.place c.connection-item.is before.1 here.1,
        omega (arith, before.2, here.2, transfers_counted before.0 here.0),
        omega (arith, before.3, here.3, refused_counted before.0 here.0),
      );
    }
