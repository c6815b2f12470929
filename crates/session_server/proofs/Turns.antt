-- One message more, from how it was handled and sent.
use Rattle.std.proofs.Common.{◌≡◌, ℕ, ◌+◌, List, [], length, Option, Result, Ok, Err, IfErr, inl, inr, refl, sym, subst}
use Rattle.std.specs.Prelude.{OnOk}
use Rattle.std.specs.Result.{IsErr, IsErrAnd}
use Rattle.std.specs.Io.KnownBytes.{Appends, IsAtEnd}
use Rattle.tds_login.specs.declared.config.Config.{Config}
use Rattle.tds_packets.specs.Header.{tabular_result}
use Rattle.tds_packets.specs.Packets.{Packets, IsPartSent}
use Rattle.tds_packets.specs.declared.message.Message.{Message}
use Rattle.tds_packets.specs.declared.fault.MessageFault.{MessageFault}
use Rattle.tds_packets.specs.declared.fault.MessageFault.TheVariants as reading
use Rattle.tds_packets.specs.declared.fault.SendFault.{SendFault}
use Rattle.tds_packets.specs.Stream.{IsMessage}
use Rattle.tds_packets.specs.Reading.{StopsBy, IsEnd}
use Rattle.step_model.specs.Port.{PortPast, GoesOn}
use Rattle.step_model.proofs.Pasts.{goes_nowhere}
use Rattle.session_server.specs.declared.end.End.{End}
use Rattle.session_server.specs.declared.end.End.TheVariants.{Memory}
use Rattle.session_server.specs.declared.message.Handling.TheVariants.{Responds}
use Rattle.session_server.specs.declared.prepared.PreparedResponse.{PreparedResponse}
use Rattle.session_server.specs.declared.message.ServerState.{ServerState}
use Rattle.batch_meaning.specs.Progress.{SessionProgress}
use Rattle.session_server.specs.Talk.{Handling, ends, handle}
use Rattle.session_server.specs.Conversation.{Emptied}
use Rattle.session_server.specs.Ends.{no_message, by_message, unsent, unmade, end_of_message, end_of_sending}
use Rattle.session_server.specs.Parts.{IsHandled, IsSized, GoesOnIn, MayWant, Leaves, Turned, Ended}
use Rattle.session_server.proofs.Lined.{appends_none}

-- the bytes that were prepared
abbrev pub bytes_of : PreparedResponse → List ℕ
bytes_of prepared = Packets tabular_result prepared.channel.spid prepared.channel.packet_size prepared.payload.items

emptied_by : (left : Option (List ℕ)) (fault : MessageFault) → (IsEnd {T = Message} (Err fault) → IsAtEnd left) → Emptied left (no_message fault)
emptied_by left reading.Closed end = end tt
emptied_by left (reading.Cut place) end = end tt
emptied_by left (reading.BadHeader place) end = tt
emptied_by left (reading.TooLong place) end = tt
emptied_by left reading.ReadFault end = tt
emptied_by left reading.Memory end = tt
emptied_by left reading.Spent end = tt

-- where the connection goes on, packets have a size that they may have
pub handled_sized : (spid : ℕ) (before after : PortPast) (handling : Handling) (p q : SessionProgress) (prepared : PreparedResponse) (next : Result (Unit {0}) End) (stands : ServerState) → IsHandled spid before after handling p (Ok (Responds prepared next)) q stands → OnOk next (IsSized stands)
handled_sized spid before after handling p q prepared next stands handled = by_next next handled.3
  where
    by_next : (goes : Result (Unit {0}) End) → GoesOnIn handling goes stands → OnOk goes (IsSized stands)
    by_next (Err end) goes_on = tt
    by_next (Ok on) goes_on = goes_on.1

module _ (config : Config) (spid at : ℕ) (state : ServerState) (took : List ℕ → Type 0) (emptied_left : Option (List ℕ)) where
  -- no message came
  pub ended_stopped : (past : PortPast) {old new : Option (List ℕ)} → new ≡ old → (p : SessionProgress) (result : Result (Unit {0}) End) (fault : MessageFault) → IsErr result → IsErrAnd result (λ end. end ≡ end_of_message fault) → (bytes : List ℕ) → took bytes → StopsBy at bytes fault → (IsEnd {T = Message} (Err fault) → IsAtEnd emptied_left)
      → IfErr result (Ended config spid at state took emptied_left past past old new p p)
  ended_stopped past unwritten p (Ok on) fault err same bytes taken stops end = tt
  ended_stopped past unwritten p (Err made) fault err same bytes taken stops end = record {
    bytes = bytes;
    cause = no_message fault;
    taken = taken;
    end_is = same;
    how = (stops, goes_nowhere past, refl, appends_none unwritten);
    emptied = emptied_by emptied_left fault end;
  }

  -- there was no memory for its response
  pub ended_unmade : {before after : PortPast} {old new : Option (List ℕ)} → new ≡ old → {p q : SessionProgress} (result : Result (Unit {0}) End) → IsErr result → IsErrAnd result (λ end. end ≡ Memory) → (bytes : List ℕ) → took bytes → (message : Message) → IsMessage at bytes message → MayWant (handle config state message) × Leaves before after (handle config state message) p q
      → IfErr result (Ended config spid at state took emptied_left before after old new p q)
  ended_unmade unwritten (Ok on) err same bytes taken message is handled = tt
  ended_unmade unwritten (Err made) err same bytes taken message is handled = record {
    bytes = bytes;
    cause = unmade;
    taken = taken;
    end_is = same;
    how = (message, is, handled.0, handled.1, appends_none unwritten);
    emptied = tt;
  }

  -- it ended the connection by itself
  pub ended_alone : {before after : PortPast} {old new : Option (List ℕ)} → new ≡ old → {p q : SessionProgress} (bytes : List ℕ) → took bytes → (message : Message) → IsMessage at bytes message → {end : End} → (handle config state message ≡ ends end) × GoesOn before after [] × (q ≡ p)
      → Ended config spid at state took emptied_left before after old new p q end
  ended_alone unwritten bytes taken message is {end = end} handled = record {
    bytes = bytes;
    cause = by_message end;
    taken = taken;
    end_is = refl;
    how = (message, is, inl (handled.0, handled.1, handled.2, appends_none unwritten));
    emptied = tt;
  }

  module _ {before after : PortPast} {p q : SessionProgress} {old mid : Option (List ℕ)} (new : Option (List ℕ)) (unwritten : mid ≡ old) (bytes : List ℕ) (taken : took bytes) (message : Message) (is : IsMessage at bytes message) {prepared : PreparedResponse} (next : Result (Unit {0}) End) (stands : ServerState) (handled : IsHandled spid before after (handle config state message) p (Ok (Responds prepared next)) q stands) where
    -- what is written behind it is written behind what stood before
    sent_behind : Appends mid new (bytes_of prepared) → Appends old new (bytes_of prepared)
    sent_behind sent = subst (λ (at : Option (List ℕ)). Appends at new (bytes_of prepared)) unwritten sent

    -- its response could not be sent
    pub ended_unsent : (result : Result (Unit {0}) End) (fault : SendFault) → IsErr result → IsErrAnd result (λ end. end ≡ end_of_sending fault) → IsPartSent mid new (bytes_of prepared) fault → IfErr result (Ended config spid at state took emptied_left before after old new p q)
    ended_unsent (Ok on) fault err same part = tt
    ended_unsent (Err made) fault err same part = record {
      bytes = bytes;
      cause = unsent fault;
      taken = taken;
      end_is = same;
      how = (message, is, handled.0, handled.1, subst (λ (b : List ℕ). IsPartSent old new b fault) handled.2.bytes (subst (λ (at : Option (List ℕ)). IsPartSent at new (bytes_of prepared) fault) unwritten part));
      emptied = tt;
    }

    -- it was sent, and the connection ends
    pub ended_behind : Appends mid new (bytes_of prepared) → IfErr next (Ended config spid at state took emptied_left before after old new p q)
    ended_behind sent = by_next next handled
      where
        by_next : (goes : Result (Unit {0}) End) → IsHandled spid before after (handle config state message) p (Ok (Responds prepared goes)) q stands → IfErr goes (Ended config spid at state took emptied_left before after old new p q)
        by_next (Ok on) h = tt
        by_next (Err end) h = record {
          bytes = bytes;
          cause = by_message end;
          taken = taken;
          end_is = refl;
          how = (message, is, inr (h.0, h.1, sym h.3, subst (Appends old new) h.2.bytes (sent_behind sent)));
          emptied = tt;
        }

    -- or goes on
    pub turned : (count : ℕ) → count ≡ at + length bytes → Appends mid new (bytes_of prepared) → OnOk next (Turned config spid at state took before after old new p q count stands)
    turned count counted sent = by_next next handled
      where
        by_next : (goes : Result (Unit {0}) End) → IsHandled spid before after (handle config state message) p (Ok (Responds prepared goes)) q stands → OnOk goes (Turned config spid at state took before after old new p q count stands)
        by_next (Err end) h = tt
        by_next (Ok on) h = record {
          bytes = bytes;
          message = message;
          response = h.0;
          taken = taken;
          is = is;
          counted = counted;
          goes_on = sym h.3.0;
          answers = h.1;
          written = subst (Appends old new) h.2.bytes (sent_behind sent);
        }
