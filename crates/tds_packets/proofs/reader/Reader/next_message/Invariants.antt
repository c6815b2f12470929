use Rattle.std.proofs.Common.{◌≡◌, ◌+◌, ◌-◌, ◌≤◌, ℕ, List, length}
use Rattle.outside_io.specs.Bytes.{Takes}
use Rattle.tds_packets.specs.Stream.{bytes_of, payload_limit}
use Rattle.tds_packets.specs.Reading.{byte_limit}
use Rattle.tds_packets.proofs.MessageDraft.{IsDraft}
use Rattle.tds_packets.proofs.reader.Reader.next_message.Given as goal

-- the packets so far end no message, and were taken from its beginning on
abbrev pub invariant-packets : goal.invariant-packets
invariant-packets g l = record {
  draft : (earlier : List (List ℕ)) × IsDraft earlier l.begun l.payload.items × Takes g.S.Source.left g.S.Source.given l.initial.source l.source (bytes_of earlier) × (l.self ≡ l.initial.self + length (bytes_of earlier));
  room : length l.payload.items ≤ payload_limit;
  limit : l.self ≤ byte_limit;
  no_fault : g.S.Source.faults l.source ≡ g.S.Source.faults l.initial.source;
  beside : g.S.Source.beside l.source ≡ g.S.Source.beside l.initial.source;
}

abbrev pub decreases-packets : goal.decreases-packets
decreases-packets g l = byte_limit - l.self
