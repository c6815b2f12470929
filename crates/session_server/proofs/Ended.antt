-- The conversation that a connection was, and that it is complete.
use Rattle.std.proofs.Common.{◌≡◌, ℕ, ◌+◌, ◌-◌, ◌<◌, ◌≤◌, true, false, List, [], ◌∷◌, ◌++◌, length, Option, None, Some, Ok, is_ok, refl, sym, ap, subst, ◌∙◌, arith, length-append, inl, inr}
use Rattle.std.specs.Prelude.{◌⊎◌}
use Rattle.std.specs.Io.KnownBytes.{Consumes}
use Rattle.outside_io.specs.Bytes.{Takes}
use Rattle.tds_login.specs.declared.config.Config.{Config}
use Rattle.tds_packets.specs.declared.message.Message.{Message}
use Rattle.tds_packets.specs.declared.fault.MessageFault.{MessageFault}
use Rattle.tds_packets.specs.declared.fault.MessageFault.TheVariants as reading
use Rattle.tds_packets.specs.declared.fault.SendFault.TheVariants as sending
use Rattle.tds_packets.specs.Stream.{Joins}
use Rattle.tds_packets.specs.Reading.{StopsBy, OnCut, byte_limit}
use Rattle.tds_packets.proofs.Joined.{left_whole}
use Rattle.tds_packets.proofs.Ends.{refuses_none}
use Rattle.step_model.specs.Port.{PortPast}
use Rattle.step_model.proofs.Pasts.{goes_further}
use Rattle.session_server.specs.declared.end.End.{End}
use Rattle.session_server.specs.declared.end.End.TheVariants.{Closed, Memory, ReadFault, WriteFault}
use Rattle.batch_meaning.specs.Progress.{SessionProgress, first_progress}
use Rattle.batch_meaning.specs.Doing.{Doing, Did}
use Rattle.batch_meaning.specs.Meaning.{rolls_back_open}
use Rattle.session_server.specs.Response.{Response}
use Rattle.session_server.specs.Talk.{Request}
use Rattle.session_server.specs.Conversation.{IsUnended, Caused, Emptied, closed, Means, Heard, Conversation, Completes, spid_of}
use Rattle.session_server.specs.Ends.{Cause, no_message, by_message, unsent, unmade, end_of, end_of_message}
use Rattle.session_server.specs.Parts.{IsAskedSoFar, Spoke}
use Rattle.batch_meaning.proofs.Composed.{does_over, does_then}
use Rattle.session_server.proofs.Walks.{front_unended}

-- ---- the closing rollback

module _ {before mid after : PortPast} {new last : SessionProgress} (end : Did mid after rolls_back_open new (Ok tt) last) where
  closes : {talk : Doing (List Response)} {responses : List Response} → Did before mid talk first_progress (Ok responses) new → Did before after (closed talk) first_progress (Ok responses) last
  closes does = does_then _ _ does (does_then _ _ end (does_over refl))

  means_by : (config : Config) (messages : List Message) (requests : List Request) (responses : List Response) (cause : Cause) → IsAskedSoFar config before mid messages requests responses new cause → Means config before after messages responses cause
  means_by config messages requests responses (no_message fault) asked = let whole = closes asked.1 in record { requests = requests; exchanges = whole.exchanges; past = whole.past; asked = (asked.0, last, whole.came) }
  means_by config messages requests responses (by_message made) asked = let whole = closes asked.1 in record { requests = requests; exchanges = whole.exchanges; past = whole.past; asked = (asked.0, last, whole.came) }
  means_by config messages requests responses (unsent fault) asked = let whole = closes asked.1 in record { requests = requests; exchanges = whole.exchanges; past = whole.past; asked = (asked.0, last, whole.came) }
  means_by config messages requests responses unmade asked =
      record {
        requests = requests;
        exchanges = (asked.first ++ asked.second) ++ end.exchanges;
        past = goes_further before mid after (asked.first ++ asked.second) end.exchanges asked.past end.past;
        asked = record {
          front = asked.front;
          last = asked.last;
          state = asked.state;
          whole = asked.whole;
          stands = asked.stands;
          are = asked.are;
          first = asked.first;
          second = asked.second;
          third = end.exchanges;
          parts = refl;
          talked = asked.talked;
          abandoned = new;
          new = last;
          talk = asked.talk;
          left = asked.left;
          end = end.came;
        };
      }

  pub conversation_of : {config : Config} {session : ℕ} {gave : List ℕ → Type 0} {left sink_before sink_after : Option (List ℕ)} {made : End} → Spoke config (spid_of session) gave left before mid sink_before sink_after new made → Conversation config session gave left before after sink_before sink_after made
  conversation_of {config = config} spoke = record { heard = spoke.heard; means = means_by config spoke.heard.messages spoke.requests spoke.heard.responses spoke.heard.cause spoke.asked }

-- ---- completeness

-- nothing is left where the source ended within a message
on_cut : (fault : MessageFault) (back : List ℕ) → Emptied (Some back) (no_message fault) → OnCut fault (back ≡ [])
on_cut (reading.Cut place) back emptied = emptied
on_cut fault back emptied = tt

-- what is behind the messages is no longer than all
pub rest_within : (at : ℕ) (bytes : List ℕ) (messages : List Message) (rest : List ℕ) → Joins at bytes messages rest → length rest ≤ length bytes
unfolding Joins
rest_within at bytes [] rest joined = omega (arith, ap length joined)
rest_within at bytes (message ∷ messages) rest joined = omega (arith, ap length joined.2, length-append joined.0 joined.1, rest_within (at + length joined.0) joined.1 messages rest joined.4)

module _ (config : Config) (taken back : List ℕ) (whole_messages messages : List Message) (rest : List ℕ) (short : length (taken ++ back) < byte_limit) (whole : Joins 0 (taken ++ back) whole_messages []) (joined : Joins 0 taken messages rest) where
  -- no message came
  stopped_well : (fault : MessageFault) (end : End) → end ≡ end_of_message fault → StopsBy (length taken - length rest) rest fault → Emptied (Some back) (no_message fault) → (end ≡ ReadFault → ⊥) → (end ≡ Closed) ⊎ (end ≡ Memory)
  stopped_well reading.Closed end is stops emptied none = inl is
  stopped_well reading.Memory end is stops emptied none = inr is
  stopped_well reading.ReadFault end is stops emptied none = absurd (none is)
  stopped_well reading.Spent end is stops emptied none = absurd (let no : ⊥ = omega (arith, stops.1, short, rest_within 0 taken messages rest joined, length-append taken back) in no)
  stopped_well (reading.Cut place) end is stops emptied none = absurd (refuses_none taken back whole_messages messages rest (reading.Cut place) whole joined stops (on_cut (reading.Cut place) back emptied))
  stopped_well (reading.BadHeader place) end is stops emptied none = absurd (refuses_none taken back whole_messages messages rest (reading.BadHeader place) whole joined stops tt)
  stopped_well (reading.TooLong place) end is stops emptied none = absurd (refuses_none taken back whole_messages messages rest (reading.TooLong place) whole joined stops tt)

  ended_well : IsUnended config whole_messages → (cause : Cause) (end : End) → end ≡ end_of cause → Caused config messages (length taken - length rest) rest cause → Emptied (Some back) cause → (end ≡ ReadFault → ⊥) → (end ≡ WriteFault → ⊥) → (end ≡ Closed) ⊎ (end ≡ Memory)
  ended_well unended (no_message fault) end is caused emptied not_read not_written = stopped_well fault end is caused.1 emptied not_read
  ended_well unended (by_message made) end is caused emptied not_read not_written =
      let left = left_whole 0 taken back whole_messages messages rest whole joined in
      let none : IsUnended config messages = front_unended config messages left.1 (subst (IsUnended config) left.2 unended) in
      absurd (let no : true ≡ false = sym none ∙ ap is_ok caused.0.ended in cc)
  ended_well unended (unsent sending.WriteFault) end is caused emptied not_read not_written = absurd (not_written is)
  ended_well unended (unsent sending.Memory) end is caused emptied not_read not_written = inr is
  ended_well unended unmade end is caused emptied not_read not_written = inr is

pub complete : {S : Type 0} {config : Config} {spid : ℕ} (left given : S → Option (List ℕ)) (first next : S) {sink_before sink_after : Option (List ℕ)} {end : End} → Heard config spid (Takes left given first next) (left next) sink_before sink_after end → (end ≡ ReadFault → ⊥) → (end ≡ WriteFault → ⊥) → Completes config (left first) end
complete {config = config} left given first next {end = end} heard not_read not_written = by_told (left first) (left next) heard.from_source.from_left heard.emptied
  where
    by_told : (told after : Option (List ℕ)) → Consumes told after heard.taken → Emptied after heard.cause → Completes config told end
    by_told None after took emptied = tt
    by_told (Some bytes) None took emptied = absurd took
    by_told (Some bytes) (Some back) took emptied = λ short messages split unended.
        ended_well config heard.taken back messages heard.messages heard.rest (subst (λ (s : List ℕ). length s < byte_limit) took short) (subst (λ (s : List ℕ). Joins 0 s messages []) took split.joined) heard.split.joined
        unended heard.cause end heard.end_is heard.caused emptied not_read not_written
