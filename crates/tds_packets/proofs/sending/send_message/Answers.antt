use Rattle.std.proofs.Common.{◌≡◌, ◌+◌, ◌-◌, ◌/◌, ◌<◌, ◌≤◌, ◌++◌, ℕ, List, [], length, arith, ap, ◌∙◌, subst, sym}
use Rattle.std.specs.List.{flat_map}
use Rattle.std.specs.Io.KnownBytes.{Appends}
use Rattle.std.proofs.KnownBytes.{Appends-nil, Appends-trans}
use Rattle.std.proofs.lemmas.Result.{err_from_is_err_and}
use Rattle.tds_packets.specs.Packets.{count_up, packet_at, packet_count, IsPartSent}
use Rattle.tds_packets.proofs.Packed.{packet_length, front_sent, part_sent, packets-suc}
use Rattle.tds_packets.proofs.sending.send_message.Goals as goal

-- the loop's end is the count of the packets
below_count : (size from total k len : ℕ) → from ≡ size → total ≡ len - 1 → k < total / (from - 8) + 1 → k < packet_count (size - 8) len
below_count size from total k len is sum below = subst (λ (n : ℕ). k < n / (size - 8) + 1) sum (subst (λ (n : ℕ). k < total / (n - 8) + 1) is below)

-- the buffer that is written is packet k
packet_written : (kind spid size from k : ℕ) (payload bytes items cleared : List ℕ) → 512 ≤ size → from ≡ size → cleared ≡ [] → items ≡ cleared ++ packet_at kind spid (from - 8 + 8) payload k → bytes ≡ items
    → bytes ≡ packet_at kind spid size payload k
packet_written kind spid size from k payload bytes items cleared least is none filled same =
    let room : from - 8 + 8 ≡ size = omega arith in
    same ∙ filled ∙ ap (λ (s : List ℕ). s ++ packet_at kind spid (from - 8 + 8) payload k) none ∙ ap (λ (n : ℕ). packet_at kind spid n payload k) room

pub returns-in_err-packet-clause-part : goal.returns-in_err-packet-clause-part
returns-in_err-packet-clause-part g c =
    let p = err_from_is_err_and c.from_residual.result c.from_residual.ensures.1 in
    let f = packet_at c.args.kind c.args.spid c.args.size c.args.payload.now in
    rw (p.1, p.2)
    (front_sent f 0 (packet_count (c.args.size - 8) (length c.args.payload.now)) _ _ (omega arith) (packet_length c.args.kind c.args.spid c.args.size c.args.payload.now 0) (Appends-nil (g.K.Sink.written c.args.sink.now)))

pub returns-in_err-put_packet-clause-part : goal.returns-in_err-put_packet-clause-part
returns-in_err-put_packet-clause-part g c =
    let p = err_from_is_err_and c.from_residual-in_err-put_packet.result c.from_residual-in_err-put_packet.ensures.1 in
    let below = below_count c.args.size c.from-room.result c.saturating_sub.result c.loop-k.k (length c.args.payload.now) c.from-room.ensures c.saturating_sub.ensures c.loop-k-test.true in
    rw (p.1, p.2)
    (front_sent (packet_at c.args.kind c.args.spid c.args.size c.args.payload.now) c.loop-k.k (packet_count (c.args.size - 8) (length c.args.payload.now)) _ _ below (packet_length c.args.kind c.args.spid c.args.size c.args.payload.now c.loop-k.k) c.loop-k.invariant.sent)

pub returns-in_err-write_whole-clause-part : goal.returns-in_err-write_whole-clause-part
returns-in_err-write_whole-clause-part g c =
    let p = err_from_is_err_and c.from_residual-in_err-write_whole.result c.from_residual-in_err-write_whole.ensures.1 in
    let below = below_count c.args.size c.from-room.result c.saturating_sub.result c.loop-k.k (length c.args.payload.now) c.from-room.ensures c.saturating_sub.ensures c.loop-k-test.true in
    let bytes = packet_written c.args.kind c.args.spid c.args.size c.from-room.result c.loop-k.k c.args.payload.now c.deref.result.now c.put_packet.new.packet.items c.clear.new.self.items
    c.requires.least c.from-room.ensures c.clear.ensures.items c.in_ok-put_packet.ensures c.deref.ensures.value in
    let fault = c.in_err-write_whole.field-0.0 in
    let part = subst (λ (s : List ℕ). IsPartSent (g.K.Sink.written c.loop-k.sink) (g.K.Sink.written c.write_whole.new.sink) s fault) bytes c.in_err-write_whole.ensures.part in
    rw (p.1, p.2)
    (part_sent (packet_at c.args.kind c.args.spid c.args.size c.args.payload.now) c.loop-k.k (packet_count (c.args.size - 8) (length c.args.payload.now)) _ (g.K.Sink.written c.loop-k.sink) _ fault below
    c.loop-k.invariant.sent part)

pub loop-k-preserved : goal.loop-k-preserved
loop-k-preserved g c =
    let bytes = packet_written c.args.kind c.args.spid c.args.size c.from-room.result c.loop-k.k c.args.payload.now c.deref.result.now c.put_packet.new.packet.items c.clear.new.self.items
    c.requires.least c.from-room.ensures c.clear.ensures.items c.in_ok-put_packet.ensures c.deref.ensures.value in
    let f = packet_at c.args.kind c.args.spid c.args.size c.args.payload.now in
    let sent = subst (λ (s : List ℕ). Appends (g.K.Sink.written c.loop-k.sink) (g.K.Sink.written c.write_whole.new.sink) s) bytes c.in_ok-write_whole.ensures.sent in
    record {
      sent = subst (λ (s : List ℕ). Appends (g.K.Sink.written c.args.sink.now) (g.K.Sink.written c.write_whole.new.sink) s) (sym (packets-suc f c.loop-k.k))
          (Appends-trans _ (g.K.Sink.written c.loop-k.sink) _ (flat_map f (count_up c.loop-k.k)) (f c.loop-k.k) c.loop-k.invariant.sent sent);
      no_fault = c.in_ok-write_whole.ensures.no_fault (λ is. let never : ⊥ = cc in never) ∙ c.loop-k.invariant.no_fault;
      beside = c.write_whole.ensures.beside ∙ c.loop-k.invariant.beside;
      quiet = λ some none. c.in_ok-write_whole.ensures.quiet (omega (arith, c.loop-k.invariant.no_fault, some)) (c.loop-k.invariant.quiet some none);
    }
