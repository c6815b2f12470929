use Rattle.std.proofs.Common.{◌≡◌, ◌+◌, ◌-◌, ◌≤◌, length, take}
use Rattle.outside_io.specs.Bytes.{Takes}
use Rattle.tds_packets.specs.Reading.{byte_limit}
use Rattle.tds_packets.proofs.reader.Reader.fill.Given as goal

-- the bytes filled in are those that were taken
abbrev pub invariant-loop-filled : goal.invariant-loop-filled
invariant-loop-filled g l = record {
  within : l.filled ≤ length l.into;
  took : Takes g.S.Source.left g.S.Source.given l.initial.source l.source (take l.filled l.into);
  taken : l.self-inside.taken ≡ l.initial.self-inside.taken + l.filled;
  limit : l.self-inside.taken ≤ byte_limit;
  no_fault : g.S.Source.faults l.source ≡ g.S.Source.faults l.initial.source;
  beside : g.S.Source.beside l.source ≡ g.S.Source.beside l.initial.source;
}

abbrev pub decreases-loop-filled : goal.decreases-loop-filled
decreases-loop-filled g l = length l.into - l.filled
