-- What a message and the reply to it have brought, by how each part went.
use Rattle.std.proofs.Common.{◌≡◌, ◌≢◌, ℕ, ◌+◌, List, [], length, Option, Result, Ok, Err, IfErr, IfOk, IsOk, inl, inr, refl, sym, ap, subst, ◌∙◌}
use Rattle.std.specs.Prelude.{OnOk}
use Rattle.std.specs.Global.{Vec}
use Rattle.std.specs.Result.{IsErrAnd}
use Rattle.std.specs.Io.KnownBytes.{Appends, IsAtEnd}
use Rattle.std.proofs.KnownBytes.{Appends-nil}
use Rattle.outside_io.specs.Bytes.{Takes}
use Rattle.tds_packets.specs.declared.message.Message.{Message}
use Rattle.tds_packets.specs.declared.fault.MessageFault.{MessageFault}
use Rattle.tds_packets.specs.declared.fault.SendFault.{SendFault}
use Rattle.tds_packets.specs.Header.{tabular_result}
use Rattle.tds_packets.specs.Packets.{IsPartSent}
use Rattle.tds_packets.specs.Stream.{IsMessage}
use Rattle.tds_packets.specs.Reading.{StopsBy, IsEnd}
use Rattle.tds_tokens.specs.declared.fault.TokenFault.{TokenFault}
use Rattle.tds_tokens.specs.declared.fault.TokenFault.TheVariants as faults
use Rattle.tds_tokens.specs.declared.token.Token.{Token}
use Rattle.tds_tokens.specs.Answer.{IsFaultOf}
use Rattle.tds_tokens.specs.Ranges.{AreTokens}
use Rattle.tds_tokens.specs.Spelling.{TokenBytes}
use Rattle.tds_client.specs.declared.end.ClientEnd.{ClientEnd}
use Rattle.tds_client.specs.declared.end.ClientEnd.TheVariants.{Kind, Memory}
use Rattle.tds_client.specs.declared.turn.Turn.{Turn}
use Rattle.tds_client.specs.declared.turn.Turn.TheVariants as turns
use Rattle.tds_client.specs.Replies.{Carries, Greets, IsBadReply, RejectsPayload, greeting_of, number_of}
use Rattle.tds_client.specs.Ends.{unmade, unsent, no_reply, by_reply, unread, end_of_message, end_of_sending, end_of_tokens}
use Rattle.tds_client.specs.Parts.{Answered, EndsInTurn, IsMissed, IsUnread, Missed, Replied}
use Rattle.tds_client.proofs.Lined.{part_sent, takes_behind}

-- an end that is handed on
pub ended_as : {A : Type 0} (P : ClientEnd → Type 0) (result : Result A ClientEnd) (end : ClientEnd) → IsErrAnd result (λ made. made ≡ end) → P end → IfErr result P
ended_as P (Ok a) end same so = tt
ended_as P (Err made) end same so = subst P (sym same) so

-- ---- a reply is read

-- no message came
pub stopped : (turn : Turn) (at : ℕ) (gave : List ℕ → Type 0) (left : Option (List ℕ)) (bytes : List ℕ) → gave bytes → (fault : MessageFault) → StopsBy at bytes fault → (IsEnd {T = Message} (Err fault) → IsAtEnd left) → (end : ClientEnd) → end ≡ end_of_message turn fault → Missed turn at gave left end
stopped turn at gave left bytes taken fault stops emptied end is = record { bytes = bytes; from_source = taken; missed = inl (fault, is, stops, emptied) }

-- one came that is none of a server's
pub of_other_kind : (turn : Turn) (at : ℕ) (gave : List ℕ → Type 0) (left : Option (List ℕ)) (bytes : List ℕ) → gave bytes → (reply : Message) → IsMessage at bytes reply → reply.kind ≢ tabular_result → (number : ℕ) → number ≡ number_of turn → Missed turn at gave left (Kind number reply.kind)
of_other_kind turn at gave left bytes taken reply is other number same = record {
  bytes = bytes;
  from_source = taken;
  missed = inr (reply, is, record { other = other; end_is = ap (λ (n : ℕ). Kind n reply.kind) same });
}

-- a server's came
pub replied : (at count : ℕ) (gave : List ℕ → Type 0) (bytes : List ℕ) → gave bytes → (reply : Message) → count ≡ at + length bytes → IsMessage at bytes reply → reply.kind ≡ tabular_result → Replied at count gave reply
replied at count gave bytes taken reply counted is kind = record { bytes = bytes; from_source = taken; is = is; counted = counted; kind = kind }

-- ---- a message is sent

-- there was no memory to make it
pub unmade_ends : {A : Type 0} (turn : Turn) (message : List ℕ) (at : ℕ) (gave : List ℕ → Type 0) (left sink : Option (List ℕ)) (result : Result A ClientEnd) → IsErrAnd result (λ end. end ≡ Memory) → gave [] → IfErr result (EndsInTurn turn message at gave left sink sink)
unmade_ends turn message at gave left sink (Ok a) same none = tt
unmade_ends turn message at gave left sink (Err end) same none = (unmade, record { bytes = []; from_source = none; came = refl; sent = Appends-nil sink }, same)

-- it could not be sent
pub unsent_ends : {A : Type 0} (turn : Turn) (message : List ℕ) (at : ℕ) (gave : List ℕ → Type 0) (left before after : Option (List ℕ)) (result : Result A ClientEnd) (fault : SendFault) → IsErrAnd result (λ end. end ≡ end_of_sending fault) → gave [] → IsPartSent before after message fault → IfErr result (EndsInTurn turn message at gave left before after)
unsent_ends turn message at gave left before after (Ok a) fault same none part = tt
unsent_ends turn message at gave left before after (Err end) fault same none part =
    (unsent fault, record { bytes = []; from_source = none; came = refl; sent = part_sent before after message fault part }, same)

-- it was sent whole, and then the reply was read
module _ {S : Type 0} (left given : S → Option (List ℕ)) (old mid new : S) (same_left : left mid ≡ left old) (same_given : given mid ≡ given old) (message : List ℕ) (at : ℕ) (before middle after : Option (List ℕ)) (all_sent : Appends before middle message) (still : after ≡ middle) where
  whole : Appends before after message
  whole = subst (λ (now : Option (List ℕ)). Appends before now message) (sym still) all_sent

  pub answered : (count : ℕ) (result : Result Message ClientEnd) → IfOk result (Replied at count (Takes left given mid new)) → IfOk result (Answered message at count (Takes left given old new) before after)
  answered count (Err end) came = tt
  answered count (Ok reply) came = record {
    replied = record { bytes = came.bytes; from_source = takes_behind left given old mid new same_left same_given came.from_source; is = came.is; counted = came.counted; kind = came.kind };
    sent = whole;
  }

  missed_by : (turn : Turn) (end : ClientEnd) (bytes : List ℕ) → Takes left given mid new bytes → IsMissed turn at bytes (left new) end → EndsInTurn turn message at (Takes left given old new) (left new) before after end
  missed_by turn end bytes taken (inl none) =
      (no_reply none.0, record { bytes = bytes; from_source = takes_behind left given old mid new same_left same_given taken; came = (none.2, none.3); sent = whole }, none.1)
  missed_by turn end bytes taken (inr other) =
      (by_reply end, record { bytes = bytes; from_source = takes_behind left given old mid new same_left same_given taken; came = (other.0, other.1, inl other.2); sent = whole }, refl)

  pub missed_ends : (turn : Turn) (result : Result Message ClientEnd) → IfErr result (Missed turn at (Takes left given mid new) (left new)) → IfErr result (EndsInTurn turn message at (Takes left given old new) (left new) before after)
  missed_ends turn (Ok reply) missed = tt
  missed_ends turn (Err end) missed = missed_by turn end missed.bytes missed.from_source missed.missed

-- ---- a reply is judged

module _ (message : List ℕ) (at count : ℕ) (gave : List ℕ → Type 0) (before after : Option (List ℕ)) (reply : Message) (had : Answered message at count gave before after reply) (payload : List ℕ) (same : payload ≡ reply.payload) where
  -- its tokens were read
  pub carried : (result : Result (Vec Token) ClientEnd) → IfOk result (λ tokens. AreTokens [] tokens.items × (TokenBytes tokens.items ≡ payload)) → IfOk result (λ tokens. (r : Message) × Answered message at count gave before after r × Carries r tokens.items)
  carried (Err end) read = tt
  carried (Ok made) read = (reply, had, record { kind = had.replied.kind; are = read.0; spelled = read.1 ∙ same })

  rejected : (turn : Turn) → turn ≢ turns.Prelogin → (end : ClientEnd) → IsBadReply turn payload end → RejectsPayload turn reply.payload end
  rejected turns.Prelogin other end bad = absurd (other refl)
  rejected turns.Login other end bad = subst (λ (s : List ℕ). IsBadReply turns.Login s end) same bad
  rejected turns.Batch other end bad = subst (λ (s : List ℕ). IsBadReply turns.Batch s end) same bad

  unread_by : (left : Option (List ℕ)) (turn : Turn) → turn ≢ turns.Prelogin → (end : ClientEnd) → IsUnread turn payload end → EndsInTurn turn message at gave left before after end
  unread_by left turn other end is = by_fault is.0 is.1 is.2
    where
      by_fault : (fault : TokenFault) → end ≡ end_of_tokens turn fault → IsFaultOf payload fault → EndsInTurn turn message at gave left before after end
      by_fault faults.Memory same_end fault = (unread, record { bytes = had.replied.bytes; from_source = had.replied.from_source; came = (reply, had.replied.is, had.replied.kind); sent = had.sent }, same_end)
      by_fault (faults.Bad place) same_end bad =
          (by_reply end, record { bytes = had.replied.bytes; from_source = had.replied.from_source; came = (reply, had.replied.is, inr (record { kind = had.replied.kind; rejects = rejected turn other end (place, same_end, bad) })); sent = had.sent }, refl)

  -- there were none, or memory was wanting
  pub unread_ends : (left : Option (List ℕ)) (turn : Turn) → turn ≢ turns.Prelogin → (result : Result (Vec Token) ClientEnd) → IfErr result (IsUnread turn payload) → IfErr result (EndsInTurn turn message at gave left before after)
  unread_ends left turn other (Ok made) unreads = tt
  unread_ends left turn other (Err end) unreads = unread_by left turn other end unreads

  -- it is that to a PRELOGIN, and lets the client go on
  pub greeted : (result : Result (Unit {0}) ClientEnd) → result ≡ greeting_of payload → OnOk result ((r : Message) × Answered message at count gave before after r × Greets r)
  greeted (Err end) judged = tt
  greeted (Ok on) judged = (reply, had, record { kind = had.replied.kind; greets = subst (λ (r : Result (Unit {0}) ClientEnd). IsOk r) (judged ∙ ap greeting_of same) refl })

  -- or ends it
  pub greeting_ends : (left : Option (List ℕ)) (result : Result (Unit {0}) ClientEnd) → result ≡ greeting_of payload → IfErr result (EndsInTurn turns.Prelogin message at gave left before after)
  greeting_ends left (Ok on) judged = tt
  greeting_ends left (Err end) judged =
      (by_reply end, record { bytes = had.replied.bytes; from_source = had.replied.from_source; came = (reply, had.replied.is, inr (record { kind = had.replied.kind; rejects = ap greeting_of (sym same) ∙ sym judged })); sent = had.sent }, refl)
