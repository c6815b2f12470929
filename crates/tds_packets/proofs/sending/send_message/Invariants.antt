use Rattle.std.proofs.Common.{◌≡◌}
use Rattle.std.specs.List.{flat_map}
use Rattle.std.specs.Io.KnownBytes.{Appends}
use Rattle.outside_io.specs.Bytes.{StaysHidden}
use Rattle.tds_packets.specs.Packets.{count_up, packet_at}
use Rattle.tds_packets.proofs.sending.send_message.Given as goal

-- the packets before packet k were written
abbrev pub invariant-loop-k : goal.invariant-loop-k
invariant-loop-k g l = record {
  sent : Appends (g.K.Sink.written l.initial.sink) (g.K.Sink.written l.sink) (flat_map (packet_at l.kind l.spid l.size l.payload) (count_up l.k));
  no_fault : g.K.Sink.faults l.sink ≡ g.K.Sink.faults l.initial.sink;
  beside : g.K.Sink.beside l.sink ≡ g.K.Sink.beside l.initial.sink;
  quiet : StaysHidden (g.K.Sink.faults l.initial.sink) (g.K.Sink.written l.initial.sink) (g.K.Sink.written l.sink);
}
