-- What one side of a line is behind what went through the other, and what its bytes are behind a part of them.
use Rattle.std.proofs.Common.{◌≡◌, ℕ, List, [], Option, None, Some, Ok, Err, sym, subst, append-nil}
use Rattle.std.specs.Io.KnownBytes.{Appends, Consumes}
use Rattle.std.proofs.KnownBytes.{Appends-nil, Appends-trans, Consumes-nil}
use Rattle.outside_io.specs.Bytes.{Takes, AppendsOrHides}
use Rattle.tds_packets.proofs.Sent.{AppendsOrHides-after}
use Rattle.tds_packets.specs.Packets.{IsPartSent}
use Rattle.tds_packets.specs.declared.fault.SendFault.{SendFault}
use Rattle.tds_packets.specs.declared.fault.SendFault.TheVariants as sending
use Rattle.tds_client.specs.Ends.{unmade, unsent, no_reply, by_reply, unread}
use Rattle.tds_client.specs.Query.{Outcome, Sends}

-- what is taken behind what was sent
pub takes_behind : {S : Type 0} (left given : S → Option (List ℕ)) (old mid new : S) {bytes : List ℕ} → left mid ≡ left old → given mid ≡ given old → Takes left given mid new bytes → Takes left given old new bytes
takes_behind left given old mid new {bytes} same_left same_given took = record {
  from_left = subst (λ (at : Option (List ℕ)). Consumes at (left new) bytes) same_left took.from_left;
  to_given = subst (λ (at : Option (List ℕ)). Appends at (given new) bytes) same_given took.to_given;
}

-- nothing was taken
pub takes_none : {S : Type 0} (left given : S → Option (List ℕ)) (old new : S) → left new ≡ left old → given new ≡ given old → Takes left given old new []
takes_none left given old new same_left same_given = record {
  from_left = subst (λ (at : Option (List ℕ)). Consumes (left old) at []) (sym same_left) (Consumes-nil (left old));
  to_given = subst (λ (at : Option (List ℕ)). Appends (given old) at []) (sym same_given) (Appends-nil (given old));
}

-- nothing was written, where a sink tells as much as before
pub hides_none : (a : Option (List ℕ)) → AppendsOrHides a a []
hides_none None = tt
hides_none (Some x) = sym (append-nil x)

-- a message of which a part was sent
pub part_sent : (before after : Option (List ℕ)) (message : List ℕ) (fault : SendFault) → IsPartSent before after message fault → Sends [] message before after (Err (unsent fault))
part_sent before after message sending.WriteFault part = part
part_sent before after message sending.Memory part = part

-- what was sent in front, and what was sent of a message
pub sent_behind : (front message : List ℕ) (old mid new : Option (List ℕ)) (outcome : Outcome) → Appends old mid front → Sends [] message mid new outcome → Sends front message old new outcome
sent_behind front message old mid new (Ok tokens) first more = Appends-trans old mid new front message first more
sent_behind front message old mid new (Err unmade) first more = subst (λ (s : List ℕ). Appends old new s) (append-nil front) (Appends-trans old mid new front [] first more)
sent_behind front message old mid new (Err (unsent sending.WriteFault)) first more = (more.0, more.1, AppendsOrHides-after old mid new front more.0 first more.2)
sent_behind front message old mid new (Err (unsent sending.Memory)) first more = (more.0, more.1, Appends-trans old mid new front more.0 first more.2)
sent_behind front message old mid new (Err (no_reply fault)) first more = Appends-trans old mid new front message first more
sent_behind front message old mid new (Err (by_reply end)) first more = Appends-trans old mid new front message first more
sent_behind front message old mid new (Err unread) first more = Appends-trans old mid new front message first more
