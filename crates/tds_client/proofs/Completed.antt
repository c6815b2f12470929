-- Where three replies are there, of which the first two let the client go on, the third is printed.
use Rattle.std.proofs.Common.{◌≡◌, ℕ, ◌+◌, ◌-◌, ◌<◌, ◌≤◌, List, [], ◌∷◌, ◌++◌, length, Option, None, Some, Result, Ok, Err, IsOk, true, false, inl, inr, ◌⊎◌, refl, sym, ap, subst, ◌∙◌, arith, length-append, append-nil}
use Rattle.std.specs.Prelude.{ℤ, option_map}
use Rattle.std.specs.Option.{unwrap_or}
use Rattle.std.specs.Io.KnownBytes.{Appends, Consumes, IsAtEnd}
use Rattle.outside_io.specs.Bytes.{Takes}
use Rattle.tds_packets.specs.declared.message.Message.{Message}
use Rattle.tds_packets.specs.declared.fault.MessageFault.{MessageFault}
use Rattle.tds_packets.specs.declared.fault.MessageFault.TheVariants as reading
use Rattle.tds_packets.specs.declared.fault.SendFault.TheVariants as sending
use Rattle.tds_packets.specs.Header.{tabular_result}
use Rattle.tds_packets.specs.Stream.{IsMessage, Joins}
use Rattle.tds_packets.specs.Reading.{StopsBy, IsEnd, IsNoRefusal, OnCut, byte_limit}
use Rattle.tds_packets.proofs.Joined.{left_whole, not_stopped, one_message}
use Rattle.tds_packets.proofs.Ends.{refuses_none}
use Rattle.tds_tokens.specs.declared.token.Token.{Token}
use Rattle.tds_tokens.proofs.Streams.{not_bad, stream_alone}
use Rattle.tds_client.specs.declared.login.ClientLogin.{ClientLogin}
use Rattle.tds_client.specs.declared.end.ClientEnd.{ClientEnd}
use Rattle.tds_client.specs.declared.end.ClientEnd.TheVariants.{Done, Refused, ReadFault, WriteFault, PrintFault, Memory}
use Rattle.tds_client.specs.declared.turn.Turn.{Turn}
use Rattle.tds_client.specs.declared.turn.Turn.TheVariants as turns
use Rattle.tds_client.specs.Printing.{Print}
use Rattle.tds_client.specs.Replies.{Carries, Grants, Greets, IsOfOtherKind, IsRejected, RejectsPayload, greeting_of, refusal_in}
use Rattle.tds_client.specs.Ends.{unmade, unsent, no_reply, by_reply, unread, end_of_message}
use Rattle.tds_client.specs.Query.{Comes, Completes, IsUnprinted, LetOn, Outcome, Prints, QueryRun, Rejects}

-- ---- the reply that is awaited in a turn

abbrev awaited : Turn → Message → Message → Message → Message
awaited turns.Prelogin first second third = first
awaited turns.Login first second third = second
awaited turns.Batch first second third = third

-- it is what it has to be
abbrev IsRight : Turn → Message → Type 0
IsRight turns.Prelogin reply = Greets reply
IsRight turns.Login reply = Grants reply
IsRight turns.Batch reply = (tokens : List Token) × Carries reply tokens

abbrev behind_first : List Message → List Message
behind_first [] = []
behind_first (message ∷ messages) = messages

-- it stands behind those by which the client came to the turn
next_awaited : (turn : Turn) (first second third : Message) (replies later : List Message) → LetOn turn replies → first ∷ second ∷ third ∷ [] ≡ replies ++ later → (more : List Message) × (later ≡ awaited turn first second third ∷ more)
next_awaited turns.Prelogin first second third replies later let_on is = (second ∷ third ∷ [], sym (is ∙ ap (λ (rs : List Message). rs ++ later) let_on))
next_awaited turns.Login first second third replies later let_on is = (third ∷ [], ap behind_first (sym (is ∙ ap (λ (rs : List Message). rs ++ later) let_on.1)))
next_awaited turns.Batch first second third replies later let_on is = ([], ap (λ (ms : List Message). behind_first (behind_first ms)) (sym (is ∙ ap (λ (rs : List Message). rs ++ later) let_on.2)))

right_awaited : (turn : Turn) (first second third : Message) → Greets first → Grants second → (tokens : List Token) → Carries third tokens → IsRight turn (awaited turn first second third)
right_awaited turns.Prelogin first second third greets grants tokens carries = greets
right_awaited turns.Login first second third greets grants tokens carries = grants
right_awaited turns.Batch first second third greets grants tokens carries = (tokens, carries)

kind_right : (turn : Turn) (reply : Message) → IsRight turn reply → reply.kind ≡ tabular_result
kind_right turns.Prelogin reply right = right.kind
kind_right turns.Login reply right = right.1.kind
kind_right turns.Batch reply right = right.1.kind

-- ---- what a reply with its payload comes to

rejects_none : (turn : Turn) (awaits reply : Message) → reply.payload ≡ awaits.payload → IsRight turn awaits → (end : ClientEnd) → RejectsPayload turn reply.payload end → ⊥
rejects_none turns.Prelogin awaits reply same right end rejects =
    let greets : false ≡ true = subst (λ (r : Result (Unit {0}) ClientEnd). IsOk r) (sym (ap greeting_of same) ∙ rejects) right.greets in
    let never : ⊥ = cc in never
rejects_none turns.Login awaits reply same right end rejects = not_bad reply.payload rejects.0 right.0 rejects.2 right.1.are (right.1.spelled ∙ sym same)
rejects_none turns.Batch awaits reply same right end rejects = not_bad reply.payload rejects.0 right.0 rejects.2 right.1.are (right.1.spelled ∙ sym same)

fault_well : (end : ClientEnd) → (end ≡ PrintFault) ⊎ (end ≡ Memory) → (end ≡ PrintFault → ⊥) → (end ≡ Done) ⊎ (end ≡ Memory)
fault_well end (inl fault) not_print = absurd (not_print fault)
fault_well end (inr memory) not_print = inr memory

printed_well : (last end : ClientEnd) (before after : Option (List ℕ)) (bytes : List ℕ) → last ≡ Done → ((end ≡ last) × Appends before after bytes) ⊎ IsUnprinted before after bytes end → (end ≡ PrintFault → ⊥)
    → (end ≡ Done) ⊎ (end ≡ Memory)
printed_well last end before after bytes done (inl all) not_print = inl (all.0 ∙ done)
printed_well last end before after bytes done (inr cut) not_print = fault_well end cut.0 not_print

told_well : (turn : Turn) (awaits reply : Message) → reply.payload ≡ awaits.payload → IsRight turn awaits → (tokens : List Token) → Carries reply tokens → (before after : Option (List ℕ)) (end : ClientEnd) → Prints turn before after (Ok tokens) end → (end ≡ PrintFault → ⊥)
    → (end ≡ Done) ⊎ (end ≡ Memory)
told_well turns.Prelogin awaits reply same right tokens carries before after end prints not_print = absurd (let none : None ≡ Some prints.0 = prints.1 in let never : ⊥ = cc in never)
told_well turns.Login awaits reply same right tokens carries before after end prints not_print =
    let alone = stream_alone tokens right.0 carries.are right.1.are (carries.spelled ∙ same ∙ sym right.1.spelled) in
    let none : None ≡ Some prints.0 = sym (ap (λ (ts : List Token). option_map Refused (refusal_in ts)) alone ∙ ap (λ (o : Option ℤ). option_map Refused o) right.2) ∙ prints.1 in
    absurd (let never : ⊥ = cc in never)
told_well turns.Batch awaits reply same right tokens carries before after end prints not_print =
    printed_well prints.0 end before after (Print tokens) (ap (λ (o : Option ClientEnd). unwrap_or o Done) (sym prints.1)) prints.2 not_print

-- a message at another place
moved : (at to : ℕ) (bytes : List ℕ) (message : Message) → IsMessage at bytes message → IsMessage to bytes (record { kind = message.kind; at = to; payload = message.payload })
moved at to bytes message is = record {
  earlier = is.earlier;
  last = is.last;
  joined = is.joined;
  known = is.known;
  before = is.before;
  packet = is.packet;
  ends = is.ends;
  payload = is.payload;
  limit = is.limit;
  place = refl;
}

-- what is behind the replies is no longer than all
rest_within : (at : ℕ) (bytes : List ℕ) (messages : List Message) (rest : List ℕ) → Joins at bytes messages rest → length rest ≤ length bytes
unfolding Joins
rest_within at bytes [] rest joined = omega (arith, ap length joined)
rest_within at bytes (message ∷ messages) rest joined = omega (arith, ap length joined.2, length-append joined.0 joined.1, rest_within (at + length joined.0) joined.1 messages rest joined.4)

-- nothing is left where the source ended within a reply
on_cut : (fault : MessageFault) (back : List ℕ) → (IsEnd {T = Message} (Err fault) → IsAtEnd (Some back)) → OnCut fault (back ≡ [])
on_cut (reading.Cut place) back emptied = emptied tt
on_cut reading.Closed back emptied = tt
on_cut (reading.BadHeader place) back emptied = tt
on_cut (reading.TooLong place) back emptied = tt
on_cut reading.ReadFault back emptied = tt
on_cut reading.Memory back emptied = tt
on_cut reading.Spent back emptied = tt

module _ (taken back : List ℕ) (messages replies : List Message) (rest : List ℕ) (short : length (taken ++ back) < byte_limit) (whole : Joins 0 (taken ++ back) messages []) (joined : Joins 0 taken replies rest) (turn : Turn) (awaits : Message) (more : List Message) (place : ℕ) (next : Joins place (rest ++ back) (awaits ∷ more) []) (right : IsRight turn awaits) where
  abbrev count : ℕ
  count = length taken - length rest

  refused_none : (fault : MessageFault) → StopsBy count rest fault → (IsEnd {T = Message} (Err fault) → IsAtEnd (Some back)) → IsNoRefusal fault
  refused_none fault stops emptied = refuses_none taken back messages replies rest fault whole joined stops (on_cut fault back emptied)

  not_closed : StopsBy count rest reading.Closed → back ≡ [] → ⊥
  unfolding Joins
  not_closed stops none = not_stopped place count next.0 next.1 rest awaits reading.Closed next.3 (sym (append-nil rest) ∙ ap (λ (s : List ℕ). rest ++ s) (sym none) ∙ next.2) stops.0

  -- no reply came
  stopped_well : (fault : MessageFault) (end : ClientEnd) → end ≡ end_of_message turn fault → StopsBy count rest fault → (IsEnd {T = Message} (Err fault) → IsAtEnd (Some back)) → (end ≡ ReadFault → ⊥) → (end ≡ Done) ⊎ (end ≡ Memory)
  stopped_well reading.Closed end is stops emptied not_read = absurd (not_closed stops (emptied tt))
  stopped_well reading.Memory end is stops emptied not_read = inr is
  stopped_well reading.ReadFault end is stops emptied not_read = absurd (not_read is)
  stopped_well reading.Spent end is stops emptied not_read = absurd (let never : ⊥ = omega (arith, stops.1, short, rest_within 0 taken replies rest joined, length-append taken back) in never)
  stopped_well (reading.Cut at) end is stops emptied not_read = absurd (refused_none (reading.Cut at) stops emptied)
  stopped_well (reading.BadHeader at) end is stops emptied not_read = absurd (refused_none (reading.BadHeader at) stops emptied)
  stopped_well (reading.TooLong at) end is stops emptied not_read = absurd (refused_none (reading.TooLong at) stops emptied)

  -- a reply that came is the one that is awaited
  same_reply : (reply : Message) → IsMessage count rest reply → reply ≡ record { kind = awaits.kind; at = count; payload = awaits.payload }
  unfolding Joins
  same_reply reply is = (one_message count rest next.0 back next.1 reply (record { kind = awaits.kind; at = count; payload = awaits.payload }) is (moved place count next.0 awaits next.3) next.2).2

  rejected_none : (end : ClientEnd) → Rejects turn count rest end → ⊥
  rejected_none end rejects = by_way rejects.2
    where
      by_way : IsOfOtherKind turn rejects.0 end ⊎ IsRejected turn rejects.0 end → ⊥
      by_way (inl other) = other.other (ap (λ (m : Message). m.kind) (same_reply rejects.0 rejects.1) ∙ kind_right turn awaits right)
      by_way (inr rejected) = rejects_none turn awaits rejects.0 (ap (λ (m : Message). m.payload) (same_reply rejects.0 rejects.1)) right end rejected.rejects

  ended_well : (before after : Option (List ℕ)) (outcome : Outcome) (end : ClientEnd) → Comes turn count rest (Some back) outcome → Prints turn before after outcome end → (end ≡ ReadFault → ⊥) → (end ≡ WriteFault → ⊥) → (end ≡ PrintFault → ⊥) → (end ≡ Done) ⊎ (end ≡ Memory)
  ended_well before after (Ok tokens) end came prints not_read not_write not_print =
      told_well turn awaits came.0 (ap (λ (m : Message). m.payload) (same_reply came.0 came.1)) right tokens came.2 before after end prints not_print
  ended_well before after (Err unmade) end came prints not_read not_write not_print = inr prints.0
  ended_well before after (Err (unsent sending.WriteFault)) end came prints not_read not_write not_print = absurd (not_write prints.0)
  ended_well before after (Err (unsent sending.Memory)) end came prints not_read not_write not_print = inr prints.0
  ended_well before after (Err (no_reply fault)) end came prints not_read not_write not_print = stopped_well fault end prints.0 came.0 came.1 not_read
  ended_well before after (Err (by_reply rejected)) end came prints not_read not_write not_print = absurd (rejected_none rejected came)
  ended_well before after (Err unread) end came prints not_read not_write not_print = inr prints.0

pub complete : {S : Type 0} (login : ClientLogin) (text : List ℕ) (left given : S → Option (List ℕ)) (first next : S) (sink_before sink_after out_before out_after : Option (List ℕ)) (end : ClientEnd) → QueryRun login text (Takes left given first next) (left next) sink_before sink_after out_before out_after end
    → (end ≡ ReadFault → ⊥) → (end ≡ WriteFault → ⊥) → (end ≡ PrintFault → ⊥) → Completes (left first) end
complete login text left given first next sink_before sink_after out_before out_after end run not_read not_write not_print =
    by_told (left first) (left next) run.heard.from_source.from_left run.heard.came
  where
    by_told : (told after : Option (List ℕ)) → Consumes told after run.heard.taken → Comes run.turn (length run.heard.taken - length run.heard.rest) run.heard.rest after run.outcome → Completes told end
    by_told None after took came = tt
    by_told (Some bytes) None took came = absurd took
    by_told (Some bytes) (Some back) took came = λ short one two three split greets grants tokens carries.
        let whole : Joins 0 (run.heard.taken ++ back) (one ∷ two ∷ three ∷ []) [] = subst (λ (s : List ℕ). Joins 0 s (one ∷ two ∷ three ∷ []) []) took split.joined in
        let later = left_whole 0 run.heard.taken back (one ∷ two ∷ three ∷ []) run.heard.replies run.heard.rest whole run.heard.joined in
        let awaits = next_awaited run.turn one two three run.heard.replies later.1 run.heard.let_on later.2 in
        ended_well run.heard.taken back (one ∷ two ∷ three ∷ []) run.heard.replies run.heard.rest (subst (λ (s : List ℕ). length s < byte_limit) took short) whole run.heard.joined
        run.turn (awaited run.turn one two three) awaits.0 later.0 (subst (λ (ms : List Message). Joins later.0 (run.heard.rest ++ back) ms []) awaits.1 later.3) (right_awaited run.turn one two three greets grants tokens carries)
        out_before out_after run.outcome end came run.printed not_read not_write not_print
