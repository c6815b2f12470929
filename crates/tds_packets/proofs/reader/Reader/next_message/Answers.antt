use Rattle.std.proofs.Common.{◌+◌, List, ℕ, [], ◌∷◌, ◌++◌, length, None, arith, ap, ◌∙◌, sym, subst, refl}
use Rattle.std.proofs.lemmas.Result.{err_from_is_err_and}
use Rattle.outside_io.specs.Bytes.{Takes}
use Rattle.tds_packets.specs.Stream.{bytes_of}
use Rattle.tds_packets.proofs.Taken.{Takes-nil, took_both}
use Rattle.tds_packets.proofs.MessageDraft.{IsDraft, no_packet, more_room, one_more, message_ends, bytes_of-more, draft_stops}
use Rattle.tds_packets.proofs.reader.Reader.next_message.Goals as goal

pub packets-init : goal.packets-init
packets-init g c = record {
  draft = ([], subst (IsDraft [] None) (sym c.new-payload.ensures.items) no_packet, Takes-nil g.S.Source.left g.S.Source.given c.args.source.now, omega arith);
  room = omega (arith, ap length c.new-payload.ensures.items);
  limit = omega (arith, c.self.invariant, c.self.view_is);
  no_fault = refl;
  beside = refl;
}

pub returns-in_err-packet-clause-next : goal.returns-in_err-packet-clause-next
returns-in_err-packet-clause-next g c =
    let p = err_from_is_err_and c.from_residual.result c.from_residual.ensures.1 in
    let draft = c.packets.invariant.draft in
    let told = c.in_err-packet.ensures.next in
    let moved = took_both g.S.Source.left g.S.Source.given c.args.source.now c.packets.source c.next_packet.new.source c.args.self.now c.packets.self c.next_packet.new.self (bytes_of draft.0) told.0
    draft.2 told.1 draft.3 told.2 in
    rw (p.1, p.2) (
      bytes_of draft.0 ++ told.0,
      moved.0,
      moved.1,
      draft_stops draft.0 c.packets.begun c.packets.payload.items c.args.self.now told.0 draft.1 c.packets.self c.in_err-packet.field-0.0 draft.3 told.3,
    )

pub returns-then-packet-clause-next : goal.returns-then-packet-clause-next
returns-then-packet-clause-next g c =
    let draft = c.packets.invariant.draft in
    let told = c.in_ok-packet.ensures.next in
    let moved = took_both g.S.Source.left g.S.Source.given c.args.source.now c.packets.source c.next_packet.new.source c.args.self.now c.packets.self c.next_packet.new.self (bytes_of draft.0) told.0
    draft.2 told.1 draft.3 told.2 in (
      bytes_of draft.0 ++ told.0,
      moved.0,
      moved.1,
      message_ends draft.0 c.packets.begun c.packets.payload.items told.0 c.next_packet.new.payload.items c.in_ok-packet.packet draft.1 told.3.0 told.3.1 told.3.2 c.args.self.now c.self.inside.taken c.from.result
          c.self.view_is c.from.ensures c.if-packet.true,
    )

pub packets-preserved : goal.packets-preserved
packets-preserved g c =
    let draft = c.packets.invariant.draft in
    let told = c.in_ok-packet.ensures.next in
    let new = c.next_packet.new.payload.items in
    let moved = took_both g.S.Source.left g.S.Source.given c.args.source.now c.packets.source c.next_packet.new.source c.args.self.now c.packets.self c.next_packet.new.self (bytes_of draft.0) told.0
    draft.2 told.1 draft.3 told.2 in
    let more = sym (bytes_of-more draft.0 told.0) in
    record {
      draft = (
        draft.0 ++ told.0 ∷ [],
        one_more draft.0 c.packets.begun c.packets.payload.items told.0 new c.in_ok-packet.packet draft.1 told.3.0 told.3.1 told.3.2 c.if-packet.false,
        subst (λ (s : List ℕ). Takes g.S.Source.left g.S.Source.given c.args.source.now c.next_packet.new.source s) more moved.0,
        moved.1 ∙ ap (λ (s : List ℕ). c.args.self.now + length s) more,
      );
      room = more_room draft.0 c.packets.begun c.packets.payload.items told.0 new c.in_ok-packet.packet draft.1 told.3.0 told.3.1 told.3.2;
      limit = c.next_packet.ensures.within;
      beside = c.next_packet.ensures.beside ∙ c.packets.invariant.beside;
      no_fault = c.in_ok-packet.ensures.no_fault (λ is. let never : ⊥ = cc in never) ∙ c.packets.invariant.no_fault;
    }
