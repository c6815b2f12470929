-- Own: what one query took from its source, sent and printed, and how it ended. The whole of the bytes is spoken of; the
-- code goes message by message.
use Rattle.std.specs.Prelude.{◌≡◌, ℕ, ◌-◌, ◌<◌, ◌⊎◌, List, [], ◌∷◌, ◌++◌, length, Option, Some, IfSome, Result, Ok, Err}
use Rattle.std.specs.Io.{StartsWith}
use Rattle.std.specs.Io.KnownBytes.{Appends, IsAtEnd}
use Rattle.outside_io.specs.Bytes.{IsProperFront, AppendsOrHides}
use Rattle.tds_packets.specs.declared.message.Message.{Message}
use Rattle.tds_packets.specs.declared.fault.SendFault.{SendFault}
use Rattle.tds_packets.specs.declared.fault.SendFault.TheVariants as sending
use Rattle.tds_packets.specs.Header.{tabular_result}
use Rattle.tds_packets.specs.Stream.{IsMessage, Joins, Splits}
use Rattle.tds_packets.specs.Reading.{StopsBy, IsEnd, byte_limit}
use Rattle.tds_tokens.specs.declared.token.Token.{Token}
use Rattle.tds_client.specs.declared.login.ClientLogin.{ClientLogin}
use Rattle.tds_client.specs.declared.end.ClientEnd.{ClientEnd}
use Rattle.tds_client.specs.declared.end.ClientEnd.TheVariants.{Done, PrintFault, Memory}
use Rattle.tds_client.specs.declared.turn.Turn.{Turn}
use Rattle.tds_client.specs.declared.turn.Turn.TheVariants as turns
use Rattle.tds_client.specs.Sending.{message_at, sent_before}
use Rattle.tds_client.specs.Printing.{Print}
use Rattle.tds_client.specs.Replies.{Greets, Carries, Grants, IsOfOtherKind, IsRejected, last_end}
use Rattle.tds_client.specs.Ends.{Cause, unmade, unsent, no_reply, by_reply, unread, end_of}

-- what came of the replies: the tokens of the last one, which are printed, or why there are none
abbrev pub Outcome : Type 0
Outcome = Result (List Token) Cause

-- ---- what was taken

-- the replies in front of a turn, by which the client came to it
abbrev pub LetOn : Turn → List Message → Type 0
LetOn turns.Prelogin replies = replies ≡ []
LetOn turns.Login replies = (first : Message) × (replies ≡ first ∷ []) × Greets first
LetOn turns.Batch replies = (first : Message) × (second : Message) × (replies ≡ first ∷ second ∷ []) × Greets first × Grants second

-- the bytes are a reply that ends the client in its turn
abbrev pub Rejects : Turn → ℕ → List ℕ → ClientEnd → Type 0
Rejects turn at bytes end = (reply : Message) × IsMessage at bytes reply × (IsOfOtherKind turn reply end ⊎ IsRejected turn reply end)

-- What came of a turn, for which these bytes were taken from offset `at` on, behind which `left` are left.
abbrev pub Comes : Turn → ℕ → List ℕ → Option (List ℕ) → Outcome → Type 0
Comes turn at bytes left (Ok tokens) = (reply : Message) × IsMessage at bytes reply × Carries reply tokens
Comes turn at bytes left (Err unmade) = bytes ≡ []
Comes turn at bytes left (Err (unsent fault)) = bytes ≡ []
Comes turn at bytes left (Err (no_reply fault)) = StopsBy at bytes fault × (IsEnd {T = Message} (Err fault) → IsAtEnd left)
Comes turn at bytes left (Err (by_reply end)) = Rejects turn at bytes end
Comes turn at bytes left (Err unread) = (reply : Message) × IsMessage at bytes reply × (reply.kind ≡ tabular_result)

-- ---- what was sent

-- a sink has these bytes more; after a fault of its own it may tell its bytes no longer
abbrev pub HasMore : SendFault → Option (List ℕ) → Option (List ℕ) → List ℕ → Type 0
HasMore sending.WriteFault before after bytes = AppendsOrHides before after bytes
HasMore sending.Memory before after bytes = Appends before after bytes

-- Of a turn whose message is this, behind those in front of it: the message is sent whole, unless there was no memory to
-- make it, or it could not be sent.
abbrev pub Sends : List ℕ → List ℕ → Option (List ℕ) → Option (List ℕ) → Outcome → Type 0
Sends front message before after (Err unmade) = Appends before after front
Sends front message before after (Err (unsent fault)) = (part : List ℕ) × IsProperFront message part × HasMore fault before after (front ++ part)
Sends front message before after (Err (no_reply fault)) = Appends before after (front ++ message)
Sends front message before after (Err (by_reply end)) = Appends before after (front ++ message)
Sends front message before after (Err unread) = Appends before after (front ++ message)
Sends front message before after (Ok tokens) = Appends before after (front ++ message)

-- ---- what was printed

-- a front of the bytes was written, or all; after a fault the sink may tell its bytes no longer
abbrev pub WritesFront : Option (List ℕ) → Option (List ℕ) → List ℕ → Type 0
WritesFront before after bytes = (part : List ℕ) × StartsWith bytes part × AppendsOrHides before after part

-- that was so, and the client ends for it
abbrev pub IsUnprinted : Option (List ℕ) → Option (List ℕ) → List ℕ → ClientEnd → Type 0
IsUnprinted before after bytes end = ((end ≡ PrintFault) ⊎ (end ≡ Memory)) × WritesFront before after bytes

-- The tokens of the last reply are printed, and the end is theirs; or printing failed, or memory was wanting for it. Without
-- such tokens nothing is printed.
abbrev pub Prints : Turn → Option (List ℕ) → Option (List ℕ) → Outcome → ClientEnd → Type 0
Prints turn before after (Ok tokens) end = (last : ClientEnd) × (last_end turn tokens ≡ Some last)
    × (((end ≡ last) × Appends before after (Print tokens)) ⊎ IsUnprinted before after (Print tokens) end)
Prints turn before after (Err cause) end = (end ≡ end_of turn cause) × (after ≡ before)

-- ---- the whole

-- What was said and heard up to the last turn. `gave` says which bytes came from the source, in which `left` are left.
pub record TookTurns (login : ClientLogin) (text : List ℕ) (gave : List ℕ → Type 0) (left before after : Option (List ℕ)) (turn : Turn) (outcome : Outcome) : Type 0 where
  pub taken : List ℕ
  pub replies : List Message
  pub rest : List ℕ
  pub from_source : gave taken
  pub joined : Joins 0 taken replies rest
  pub let_on : LetOn turn replies
  pub came : Comes turn (length taken - length rest) rest left outcome
  pub sent : Sends (sent_before login turn) (message_at login text turn) before after outcome

-- And what was printed of it.
pub record QueryRun (login : ClientLogin) (text : List ℕ) (gave : List ℕ → Type 0) (left sink_before sink_after out_before out_after : Option (List ℕ)) (end : ClientEnd) : Type 0 where
  pub turn : Turn
  pub outcome : Outcome
  pub heard : TookTurns login text gave left sink_before sink_after turn outcome
  pub printed : Prints turn out_before out_after outcome end

-- Where the source told its bytes, and they are fewer than 2^40 and three replies, of which the first two let the client go
-- on and the third carries tokens: these were printed, or memory was wanting.
abbrev pub Completes : Option (List ℕ) → ClientEnd → Type 0
Completes told end = IfSome told (λ bytes. length bytes < byte_limit → (first second third : Message) → Splits bytes (first ∷ second ∷ third ∷ []) []
    → Greets first → Grants second → (tokens : List Token) → Carries third tokens → (end ≡ Done) ⊎ (end ≡ Memory))
