-- Where a client that is logged in sent nothing but batches, and all were taken, its connection was closed, but for want of memory and faults.
use Rattle.std.proofs.Common.{◌≡◌, ℕ, ◌-◌, ◌<◌, true, false, List, [], length, sym, ap, ◌∙◌, subst, arith}
use Rattle.std.specs.Prelude.{Option, is_ok}
use Rattle.std.specs.List.{AllByRecursion}
use Rattle.tds_packets.specs.declared.message.Message.{Message}
use Rattle.tds_packets.specs.declared.fault.MessageFault.{MessageFault}
use Rattle.tds_packets.specs.declared.fault.MessageFault.TheVariants as reading
use Rattle.tds_packets.specs.declared.fault.SendFault.TheVariants as sending
use Rattle.tds_packets.specs.Stream.{Joins, Stops}
use Rattle.tds_packets.specs.Reading.{byte_limit}
use Rattle.tds_packets.proofs.Ends.{Stops-nil, one_end}
use Rattle.tds_packets.proofs.Joined.{one_join}
use Rattle.tds_login.specs.declared.config.Config.{Config}
use Rattle.tds_login.specs.declared.config.Entry.TheVariants.{Bare}
use Rattle.session_server.specs.declared.end.End.{End}
use Rattle.session_server.specs.declared.end.End.TheVariants.{Closed, Memory, ReadFault, WriteFault}
use Rattle.session_server.specs.Conversation.{Caused, Heard, IsUnended}
use Rattle.session_server.specs.Ends.{Cause, by_message, end_of, no_message, unmade, unsent}
use Rattle.transfer_load.specs.Batches.{IsShort, batches_bytes, batches_messages}
use Rattle.transfer_load.proofs.Messages.{batches_join, batches_unended}

-- an end that is none of these three
pub record IsNoFault (end : End) : Type 0 where
  pub read : end ≡ ReadFault → ⊥
  pub write : end ≡ WriteFault → ⊥
  pub memory : end ≡ Memory → ⊥

stopped : (at : ℕ) (fault : MessageFault) → Stops at [] fault → fault ≡ reading.Closed
stopped at fault stops = one_end at [] fault reading.Closed stops (Stops-nil at)

by_cause : (config : Config) (messages : List Message) (at : ℕ) (end : End) (cause : Cause) → IsUnended config messages → at < byte_limit → IsNoFault end → end ≡ end_of cause → Caused config messages at [] cause → end ≡ Closed
by_cause config messages at end (no_message reading.Closed) unended few well is caused = is
by_cause config messages at end (no_message (reading.Cut place)) unended few well is caused = let never : ⊥ = cc (stopped at (reading.Cut place) caused.1.0) in absurd never
by_cause config messages at end (no_message (reading.BadHeader place)) unended few well is caused = let never : ⊥ = cc (stopped at (reading.BadHeader place) caused.1.0) in absurd never
by_cause config messages at end (no_message (reading.TooLong place)) unended few well is caused = let never : ⊥ = cc (stopped at (reading.TooLong place) caused.1.0) in absurd never
by_cause config messages at end (no_message reading.ReadFault) unended few well is caused = absurd (well.read is)
by_cause config messages at end (no_message reading.Memory) unended few well is caused = absurd (well.memory is)
by_cause config messages at end (no_message reading.Spent) unended few well is caused = let never : ⊥ = omega (arith, caused.1.1) in absurd never
by_cause config messages at end (by_message other) unended few well is caused = let never : false ≡ true = sym (ap is_ok caused.0.ended) ∙ unended in let no_way : ⊥ = cc (never) in absurd no_way
by_cause config messages at end (unsent sending.WriteFault) unended few well is caused = absurd (well.write is)
by_cause config messages at end (unsent sending.Memory) unended few well is caused = absurd (well.memory is)
by_cause config messages at end unmade unended few well is caused = absurd (well.memory is)

pub closed_end : (config : Config) (spid : ℕ) (gave : List ℕ → Type 0) (left before after : Option (List ℕ)) (end : End) (heard : Heard config spid gave left before after end) (texts : List (List ℕ))
    → config.entry ≡ Bare → AllByRecursion IsShort texts → heard.taken ≡ batches_bytes texts → length heard.taken < byte_limit → IsNoFault end → end ≡ Closed
closed_end config spid gave left before after end heard texts bare short is few well =
    let bytes = heard.taken in
    let joined = subst (λ (s : List ℕ). Joins 0 s (batches_messages 0 texts) []) (sym is) (batches_join 0 texts short) in
    let same = one_join 0 (length bytes - length heard.rest) (length bytes) bytes heard.messages (batches_messages 0 texts) heard.rest [] heard.split.joined heard.split.partial joined (reading.Closed, Stops-nil (length bytes)) in
    let caused : Caused config heard.messages (length bytes) [] heard.cause =
    subst (λ (n : ℕ). Caused config heard.messages n [] heard.cause) (let all : length bytes - length {A = ℕ} [] ≡ length bytes = omega arith in all) (subst (λ (s : List ℕ). Caused config heard.messages (length bytes - length s) s heard.cause) same.1 heard.caused) in
    by_cause config heard.messages (length bytes) end heard.cause (subst (IsUnended config) (sym same.0) (batches_unended config texts bare)) few well heard.end_is caused
