-- What a client has said and heard before a turn, and what is known at each end.
use Rattle.std.proofs.Common.{◌≡◌, ℕ, ◌+◌, ◌-◌, List, [], ◌∷◌, ◌++◌, length, Option, None, Some, Ok, Err, true, false, inl, inr, refl, sym, ap, subst, ◌∙◌, arith, length-append, zero-add}
use Rattle.std.specs.Prelude.{ℤ, is_some, option_map}
use Rattle.std.specs.Io.KnownBytes.{Appends}
use Rattle.std.proofs.KnownBytes.{Appends-nil, Appends-trans}
use Rattle.outside_io.specs.Bytes.{Takes}
use Rattle.tds_packets.specs.declared.message.Message.{Message}
use Rattle.tds_packets.specs.Stream.{IsMessage, Joins}
use Rattle.tds_packets.proofs.Taken.{Takes-nil, Takes-trans}
use Rattle.tds_packets.proofs.Joined.{Joins-append, Joins-message}
use Rattle.tds_tokens.specs.declared.token.Token.{Token}
use Rattle.tds_client.specs.declared.login.ClientLogin.{ClientLogin}
use Rattle.tds_client.specs.declared.end.ClientEnd.{ClientEnd}
use Rattle.tds_client.specs.declared.end.ClientEnd.TheVariants.{Memory, Refused}
use Rattle.tds_client.specs.declared.turn.Turn.{Turn}
use Rattle.tds_client.specs.declared.turn.Turn.TheVariants as turns
use Rattle.tds_client.specs.Sending.{login_payload, message_at, packets_at, prelogin_payload, sent_before}
use Rattle.tds_client.specs.Printing.{Print}
use Rattle.tds_client.specs.Replies.{Carries, Greets, last_end, refusal_in}
use Rattle.tds_client.specs.Query.{Comes, IsUnprinted, LetOn, Outcome, QueryRun, TookTurns}
use Rattle.tds_client.specs.Parts.{Answered, EndsInTurn, HasEnded, IsPrinted, IsTold, TookTurn, told_end}
use Rattle.tds_client.proofs.Lined.{hides_none, sent_behind}

-- the messages in front of a turn were sent, and the replies to them let the client go on
pub record Before {S : Type 0} (login : ClientLogin) (left given : S → Option (List ℕ)) (first now : S) (old new : Option (List ℕ)) (turn : Turn) (at : ℕ) : Type 0 where
  pub bytes : List ℕ
  pub replies : List Message
  pub took : Takes left given first now bytes
  pub joined : Joins 0 bytes replies []
  pub let_on : LetOn turn replies
  pub counted : at ≡ length bytes
  pub sent : Appends old new (sent_before login turn)

pub begins : {S : Type 0} (login : ClientLogin) (left given : S → Option (List ℕ)) (line : S) (sink : Option (List ℕ)) (at : ℕ) → at ≡ 0 → Before login left given line line sink sink turns.Prelogin at
unfolding Joins
begins login left given line sink at none = record {
  bytes = [];
  replies = [];
  took = Takes-nil left given line;
  joined = refl;
  let_on = refl;
  counted = none;
  sent = Appends-nil sink;
}

-- what came of the replies is known
module _ {S : Type 0} {login : ClientLogin} {left given : S → Option (List ℕ)} {first now : S} {old mid : Option (List ℕ)} {turn : Turn} {at : ℕ} (before : Before login left given first now old mid turn at) where
  all_taken : (next : S) (bytes : List ℕ) → Takes left given now next bytes → Takes left given first next (before.bytes ++ bytes)
  all_taken next bytes took = Takes-trans left given first now next before.bytes bytes before.took took

  place_of : (bytes : List ℕ) → length (before.bytes ++ bytes) - length bytes ≡ at
  place_of bytes = omega (arith, before.counted, length-append before.bytes bytes)

  joined_more : (bytes : List ℕ) (reply : Message) → IsMessage at bytes reply → Joins 0 (before.bytes ++ bytes) (before.replies ++ reply ∷ []) []
  joined_more bytes reply is = Joins-message 0 before.bytes bytes before.replies reply before.joined (subst (λ (n : ℕ). IsMessage n bytes reply) (before.counted ∙ sym (zero-add (length before.bytes))) is)

  counted_more : (bytes : List ℕ) (count : ℕ) → count ≡ at + length bytes → count ≡ length (before.bytes ++ bytes)
  counted_more bytes count counted = omega (arith, counted, before.counted, length-append before.bytes bytes)

  pub turns_taken : (text : List ℕ) (next : S) (new : Option (List ℕ)) (outcome : Outcome) → TookTurn turn (message_at login text turn) at (Takes left given now next) (left next) mid new outcome → TookTurns login text (Takes left given first next) (left next) old new turn outcome
  turns_taken text next new outcome took = record {
    taken = before.bytes ++ took.bytes;
    replies = before.replies;
    rest = took.bytes;
    from_source = all_taken next took.bytes took.from_source;
    joined = Joins-append 0 before.bytes took.bytes before.replies [] before.joined;
    let_on = before.let_on;
    came = subst (λ (n : ℕ). Comes turn n took.bytes (left next) outcome) (sym (place_of took.bytes)) took.came;
    sent = sent_behind (sent_before login turn) (message_at login text turn) old mid new outcome before.sent took.sent;
  }

  -- the client has ended
  pub has_ended : (text : List ℕ) (next : S) (new : Option (List ℕ)) (end : ClientEnd) → EndsInTurn turn (message_at login text turn) at (Takes left given now next) (left next) mid new end → HasEnded login text (Takes left given first next) (left next) old new end
  has_ended text next new end ends = (turn, ends.0, turns_taken text next new (Err ends.0) ends.1, ends.2)

  -- the reply's tokens are the last
  tells : (text : List ℕ) (next : S) (new : Option (List ℕ)) (count : ℕ) (tokens : List Token) → ((reply : Message) × Answered (message_at login text turn) at count (Takes left given now next) mid new reply × Carries reply tokens)
      → TookTurns login text (Takes left given first next) (left next) old new turn (Ok tokens)
  tells text next new count tokens answered = turns_taken text next new (Ok tokens) (record {
    bytes = answered.1.replied.bytes;
    from_source = answered.1.replied.from_source;
    came = (answered.0, answered.1.replied.is, answered.2);
    sent = answered.1.sent;
  })

-- ---- the turns

-- the reply to a PRELOGIN lets the client go on
pub comes_to_login : {S : Type 0} {login : ClientLogin} {left given : S → Option (List ℕ)} {first now : S} {old mid : Option (List ℕ)} {at : ℕ} → Before login left given first now old mid turns.Prelogin at → (next : S) (new : Option (List ℕ)) (count : ℕ)
    → ((reply : Message) × Answered (packets_at turns.Prelogin prelogin_payload) at count (Takes left given now next) mid new reply × Greets reply)
    → Before login left given first next old new turns.Login count
comes_to_login {old = old} {mid = mid} before next new count answered =
    let replied = answered.1.replied in
    record {
      bytes = before.bytes ++ replied.bytes;
      replies = before.replies ++ answered.0 ∷ [];
      took = all_taken before next replied.bytes replied.from_source;
      joined = joined_more before replied.bytes answered.0 replied.is;
      let_on = (answered.0, ap (λ (rs : List Message). rs ++ answered.0 ∷ []) before.let_on, answered.2);
      counted = counted_more before replied.bytes count replied.counted;
      sent = Appends-trans old mid new [] (packets_at turns.Prelogin prelogin_payload) before.sent answered.1.sent;
    }

-- that to a LOGIN7 does
pub comes_to_batch : {S : Type 0} {login : ClientLogin} {left given : S → Option (List ℕ)} {first now : S} {old mid : Option (List ℕ)} {at : ℕ} → Before login left given first now old mid turns.Login at → (next : S) (new : Option (List ℕ)) (count : ℕ) (tokens : List Token)
    → ((reply : Message) × Answered (packets_at turns.Login (login_payload login)) at count (Takes left given now next) mid new reply × Carries reply tokens) → refusal_in tokens ≡ None
    → Before login left given first next old new turns.Batch count
comes_to_batch {login = login} {old = old} {mid = mid} before next new count tokens answered granted =
    let replied = answered.1.replied in
    record {
      bytes = before.bytes ++ replied.bytes;
      replies = before.replies ++ answered.0 ∷ [];
      took = all_taken before next replied.bytes replied.from_source;
      joined = joined_more before replied.bytes answered.0 replied.is;
      let_on = (before.let_on.0, answered.0, ap (λ (rs : List Message). rs ++ answered.0 ∷ []) before.let_on.1, before.let_on.2, (tokens, answered.2, granted));
      counted = counted_more before replied.bytes count replied.counted;
      sent = Appends-trans old mid new (packets_at turns.Prelogin prelogin_payload) (packets_at turns.Login (login_payload login)) before.sent answered.1.sent;
    }

-- no refusal
pub none_refused : (refused : Option ℤ) → is_some refused ≡ false → refused ≡ None
none_refused None none = refl
none_refused (Some number) none = absurd (let never : ⊥ = cc in never)

-- the end of a client that is refused
refusal_ends : (tokens : List Token) (refused : Option ℤ) → refused ≡ refusal_in tokens → is_some refused ≡ true → last_end turns.Login tokens ≡ Some (told_end refused)
refusal_ends tokens None is some = absurd (let never : ⊥ = cc in never)
refusal_ends tokens (Some number) is some = ap (λ (o : Option ℤ). option_map Refused o) (sym is)

-- that to a LOGIN7 refuses it
pub is_refused : {S : Type 0} {login : ClientLogin} {left given : S → Option (List ℕ)} {first now : S} {old mid : Option (List ℕ)} {at : ℕ} (text : List ℕ) → Before login left given first now old mid turns.Login at → (next : S) (new : Option (List ℕ)) (count : ℕ) (tokens : List Token)
    → ((reply : Message) × Answered (packets_at turns.Login (login_payload login)) at count (Takes left given now next) mid new reply × Carries reply tokens) → (refused : Option ℤ) → refused ≡ refusal_in tokens → is_some refused ≡ true
    → IsTold login text (Takes left given first next) (left next) old new tokens refused
is_refused text before next new count tokens answered refused is some =
    (turns.Login, tells before text next new count tokens answered, refusal_ends tokens refused is some)

-- that to the batch is the last
pub is_answered : {S : Type 0} {login : ClientLogin} {left given : S → Option (List ℕ)} {first now : S} {old mid : Option (List ℕ)} {at : ℕ} (text : List ℕ) → Before login left given first now old mid turns.Batch at → (next : S) (new : Option (List ℕ)) (count : ℕ) (tokens : List Token)
    → ((reply : Message) × Answered (message_at login text turns.Batch) at count (Takes left given now next) mid new reply × Carries reply tokens) → (refused : Option ℤ) → refused ≡ None
    → IsTold login text (Takes left given first next) (left next) old new tokens refused
is_answered text before next new count tokens answered refused none =
    (turns.Batch, tells before text next new count tokens answered, sym (ap (λ (o : Option ℤ). Some (told_end o)) none))

-- ---- what is printed

-- nothing, since there was no memory
pub printed_none : (tokens : List Token) (refused : Option ℤ) (sink : Option (List ℕ)) → IsPrinted tokens refused sink sink Memory
printed_none tokens refused sink = inr (inr refl, ([], refl, hides_none sink))

-- all
pub printed_all : (tokens : List Token) (refused : Option ℤ) (before after : Option (List ℕ)) (end : ClientEnd) (bytes : List ℕ) → bytes ≡ Print tokens → end ≡ told_end refused → Appends before after bytes → IsPrinted tokens refused before after end
printed_all tokens refused before after end bytes are is written = inl (is, subst (λ (s : List ℕ). Appends before after s) are written)

-- a front
pub printed_front : (tokens : List Token) (refused : Option ℤ) (before after : Option (List ℕ)) (end : ClientEnd) (bytes : List ℕ) → bytes ≡ Print tokens → IsUnprinted before after bytes end → IsPrinted tokens refused before after end
printed_front tokens refused before after end bytes are cut = inr (subst (λ (s : List ℕ). IsUnprinted before after s end) are cut)

-- ---- the whole

module _ (login : ClientLogin) (text : List ℕ) (gave : List ℕ → Type 0) (left before after : Option (List ℕ)) where
  -- the tokens of a last reply were printed
  pub run_told : (tokens : List Token) (refused : Option ℤ) (out_before out_after : Option (List ℕ)) (end : ClientEnd) → IsTold login text gave left before after tokens refused → IsPrinted tokens refused out_before out_after end
      → QueryRun login text gave left before after out_before out_after end
  run_told tokens refused out_before out_after end told printed = record { turn = told.0; outcome = Ok tokens; heard = told.1; printed = (told_end refused, told.2, printed) }

  -- there was nothing to print
  pub run_ended : (out : Option (List ℕ)) (end : ClientEnd) → HasEnded login text gave left before after end → QueryRun login text gave left before after out out end
  run_ended out end ended = record { turn = ended.0; outcome = Err ended.1; heard = ended.2; printed = (ended.3, refl) }
