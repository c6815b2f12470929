-- Memory was wanting in a conversation only after a whole header.
use Rattle.std.proofs.Common.{◌≡◌, ℕ, ◌+◌, ◌-◌, ◌≤◌, List, [], ◌∷◌, ◌++◌, length, Option, refl, sym, ap, ◌∙◌, subst, arith, length-append}
use Rattle.tds_login.specs.declared.config.Config.{Config}
use Rattle.tds_packets.specs.declared.message.Message.{Message}
use Rattle.tds_packets.specs.declared.fault.MessageFault.{MessageFault}
use Rattle.tds_packets.specs.declared.fault.MessageFault.TheVariants as reading
use Rattle.tds_packets.specs.Reading.{StopsBy}
use Rattle.tds_packets.specs.Stream.{Joins}
use Rattle.tds_packets.proofs.Joined.{message_length}
use Rattle.step_model.specs.Exchange.{Exchange}
use Rattle.step_model.specs.Port.{PortPast}
use Rattle.batch_meaning.specs.Doing.{Held, ◌then◌}
use Rattle.batch_meaning.specs.Meaning.{rolls_back_open}
use Rattle.batch_meaning.specs.Progress.{SessionProgress, first_progress}
use Rattle.session_server.specs.declared.end.End.{End}
use Rattle.session_server.specs.declared.end.End.TheVariants as ends
use Rattle.session_server.specs.Conversation.{Caused, Conversation, IsAsked, Wrote, closed}
use Rattle.session_server.specs.Ends.{Cause, by_message, end_of, end_of_message, no_message, unmade, unsent}
use Rattle.session_server.specs.Response.{Response}
use Rattle.session_server.specs.Talk.{AreRequests, Request, talk_of, walk_of}

-- where messages were taken, or the rest is long enough, a whole header was
joined_long : (at : ℕ) (bytes : List ℕ) (message : Message) (messages : List Message) (rest : List ℕ) → Joins at bytes (message ∷ messages) rest → 8 ≤ length bytes
unfolding Joins
joined_long at bytes message messages rest joined = omega (arith, ap length joined.2, length-append joined.0 joined.1, message_length at joined.0 message joined.3)

-- what is left behind messages is not longer than all
joined_rest : (at : ℕ) (bytes : List ℕ) (messages : List Message) (rest : List ℕ) → Joins at bytes messages rest → length rest ≤ length bytes
unfolding Joins
joined_rest at bytes [] rest joined = omega (arith, ap length joined)
joined_rest at bytes (message ∷ messages) rest joined = omega (arith, ap length joined.2, length-append joined.0 joined.1, joined_rest (at + length joined.0) joined.1 messages rest joined.4)

-- something stands in front
front_some : {A : Type 0} (front : List A) (last : A) (all : List A) → all ≡ front ++ last ∷ [] → all ≡ [] → ⊥
front_some front last all whole none = let no : ⊥ = omega (arith, ap length whole, ap length none, length-append front (last ∷ [])) in no

-- without a message nothing is answered
nothing_answered : (config : Config) (requests : List Request) (exchanges : List Exchange) (responses : List Response) (new : SessionProgress) → AreRequests (walk_of config []).handled requests → Held (closed (talk_of requests)) first_progress exchanges responses new
    → responses ≡ []
unfolding Held ◌then◌ walk_of talk_of rolls_back_open
nothing_answered config [] exchanges responses new are held = held.1
nothing_answered config (request ∷ requests) exchanges responses new are held = let no : ⊥ = omega (arith, ap length are.handlings) in absurd no

-- the fault of reading for which memory is wanting
memory_fault : (fault : MessageFault) → end_of_message fault ≡ ends.Memory → fault ≡ reading.Memory
memory_fault reading.Memory is = refl
memory_fault reading.Closed is = absurd cc
memory_fault (reading.Cut at) is = absurd cc
memory_fault (reading.BadHeader at) is = absurd cc
memory_fault (reading.TooLong at) is = absurd cc
memory_fault reading.ReadFault is = absurd cc
memory_fault reading.Spent is = absurd cc

module _ (config : Config) (spid : ℕ) (sink_before sink_after : Option (List ℕ)) (bytes rest : List ℕ) (requests : List Request) (exchanges : List Exchange) (responses : List Response) where
  -- memory was wanting, and no message was taken
  wanted_first : (cause : Cause) → end_of cause ≡ ends.Memory → Joins 0 bytes [] rest → IsAsked config [] requests exchanges responses cause → Caused config [] (length bytes - length rest) rest cause → Wrote spid sink_before sink_after responses cause → 8 ≤ length bytes
  wanted_first (no_message fault) memory joined asked caused wrote =
      let stops : StopsBy (length bytes - length rest) rest reading.Memory = subst (StopsBy (length bytes - length rest) rest) (memory_fault fault memory) caused.1 in
      omega (arith, stops.1, joined_rest 0 bytes [] rest joined)
  wanted_first (by_message made) memory joined asked caused wrote = absurd (front_some caused.0.front caused.0.last [] caused.0.whole refl)
  wanted_first (unsent fault) memory joined asked caused wrote = absurd (front_some wrote.front wrote.last responses wrote.whole (nothing_answered config requests exchanges responses asked.1 asked.0 asked.2))
  wanted_first unmade memory joined asked caused wrote = absurd (front_some asked.front asked.last [] asked.whole refl)

  wanted : (end : End) (messages : List Message) (cause : Cause) → end ≡ end_of cause → Joins 0 bytes messages rest → IsAsked config messages requests exchanges responses cause → Caused config messages (length bytes - length rest) rest cause
      → Wrote spid sink_before sink_after responses cause → end ≡ ends.Memory → 8 ≤ length bytes
  wanted end (message ∷ messages) cause end_is joined asked caused wrote memory = joined_long 0 bytes message messages rest joined
  wanted end [] cause end_is joined asked caused wrote memory = wanted_first cause (sym end_is ∙ memory) joined asked caused wrote

-- ---- a conversation

module _ (config : Config) (session : ℕ) (gave : List ℕ → Type 0) (left : Option (List ℕ)) (before after : PortPast) (sink_before sink_after : Option (List ℕ)) (end : End) (conversation : Conversation config session gave left before after sink_before sink_after end) where
  -- memory was wanting only after a whole header was taken
  pub memory_wanted : end ≡ ends.Memory → 8 ≤ length conversation.heard.taken
  memory_wanted memory =
      let heard = conversation.heard in
      let means = conversation.means in
      wanted config (50 + session) sink_before sink_after heard.taken heard.rest means.requests means.exchanges heard.responses end heard.messages heard.cause heard.end_is heard.split.joined means.asked heard.caused heard.written memory
