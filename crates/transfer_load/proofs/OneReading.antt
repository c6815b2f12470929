-- Bytes are one list of replies at most, and the bytes of responses are the replies of their tokens.
use Rattle.std.proofs.Common.{◌≡◌, ℕ, ◌+◌, ◌-◌, List, [], ◌∷◌, length, refl, sym, ap, ap₂, ◌∙◌, subst}
use Rattle.std.specs.List.{AllZip}
use Rattle.tds_packets.specs.declared.message.Message.{Message}
use Rattle.tds_packets.specs.declared.fault.MessageFault.TheVariants.{Closed}
use Rattle.tds_packets.specs.Header.{tabular_result}
use Rattle.tds_packets.specs.Packets.{Packets}
use Rattle.tds_packets.specs.Stream.{IsMessage, Joins}
use Rattle.tds_packets.proofs.Ends.{Stops-nil}
use Rattle.tds_packets.proofs.Joined.{one_join}
use Rattle.tds_packets.proofs.PacketLaws.{one_message_sent}
use Rattle.tds_tokens.specs.declared.token.Token.{Token}
use Rattle.tds_tokens.specs.Spelling.{TokenBytes}
use Rattle.tds_tokens.proofs.Streams.{stream_alone}
use Rattle.session_server.specs.Response.{Response, options, tabular}
use Rattle.session_server.specs.Talk.{Bytes, response_bytes}
use Rattle.transfer_load.specs.Replies.{AreReplies, Carries}
use Rattle.transfer_load.specs.Responses.{Tells}

same_carried : (messages : List Message) (replies others : List (List Token)) → AllZip Carries messages replies → AllZip Carries messages others → replies ≡ others
same_carried [] [] [] first second = refl
same_carried [] [] (o ∷ others) first second = absurd second
same_carried [] (r ∷ replies) others first second = absurd first
same_carried (m ∷ messages) [] others first second = absurd first
same_carried (m ∷ messages) (r ∷ replies) [] first second = absurd second
same_carried (m ∷ messages) (r ∷ replies) (o ∷ others) first second =
    ap₂ (λ (x : List Token) (xs : List (List Token)). x ∷ xs) (stream_alone r o first.0.are second.0.are (first.0.spelled ∙ sym second.0.spelled)) (same_carried messages replies others first.1 second.1)

pub one_reading : (bytes : List ℕ) (replies others : List (List Token)) → AreReplies bytes replies → AreReplies bytes others → replies ≡ others
one_reading bytes replies others first second =
    let same = one_join 0 (length bytes - length {A = ℕ} []) (length bytes - length {A = ℕ} []) bytes first.messages second.messages [] [] first.split.joined first.split.partial second.split.joined second.split.partial in
    same_carried second.messages replies others (subst (λ (messages : List Message). AllZip Carries messages replies) same.0 first.each) second.each

-- the messages of replies, the first of which begins at this offset
messages_of : ℕ → ℕ → List Response → List (List Token) → List Message
messages_of spid at [] replies = []
messages_of spid at (r ∷ responses) [] = []
messages_of spid at (r ∷ responses) (tokens ∷ replies) = record { kind = tabular_result; at = at; payload = TokenBytes tokens } ∷ messages_of spid (at + length (response_bytes spid r)) responses replies

responses_join : (spid at : ℕ) (responses : List Response) (replies : List (List Token)) → AllZip Tells responses replies → Joins at (Bytes spid responses) (messages_of spid at responses replies) []
unfolding Joins messages_of
responses_join spid at [] [] tell = refl
responses_join spid at [] (tokens ∷ replies) tell = absurd tell
responses_join spid at (r ∷ responses) [] tell = absurd tell
responses_join spid at (options ∷ responses) (tokens ∷ replies) tell = absurd tell.0
responses_join spid at (tabular size told ∷ responses) (tokens ∷ replies) tell =
    let is : TokenBytes told ≡ TokenBytes tokens = ap TokenBytes tell.0.0 in
    let sent = subst (λ (s : List ℕ). IsMessage at (Packets tabular_result spid size s) (record { kind = tabular_result; at = at; payload = TokenBytes tokens })) (sym is) (one_message_sent tabular_result spid size (TokenBytes tokens) tell.0.1.0 tell.0.1.1 at refl tell.0.3) in
    (response_bytes spid (tabular size told), Bytes spid responses, refl, sent, responses_join spid (at + length (response_bytes spid (tabular size told))) responses replies tell.1)

all_carry : (spid at : ℕ) (responses : List Response) (replies : List (List Token)) → AllZip Tells responses replies → AllZip Carries (messages_of spid at responses replies) replies
unfolding messages_of
all_carry spid at [] [] tell = tt
all_carry spid at [] (tokens ∷ replies) tell = absurd tell
all_carry spid at (r ∷ responses) [] tell = absurd tell
all_carry spid at (options ∷ responses) (tokens ∷ replies) tell = absurd tell.0
all_carry spid at (tabular size told ∷ responses) (tokens ∷ replies) tell = (record { are = tell.0.2; spelled = refl }, all_carry spid (at + length (response_bytes spid (tabular size told))) responses replies tell.1)

pub responses_read : (spid : ℕ) (responses : List Response) (replies : List (List Token)) → AllZip Tells responses replies → AreReplies (Bytes spid responses) replies
responses_read spid responses replies tell = record {
  messages = messages_of spid 0 responses replies;
  split = record { joined = responses_join spid 0 responses replies tell; partial = (Closed, Stops-nil _) };
  each = all_carry spid 0 responses replies tell;
}
