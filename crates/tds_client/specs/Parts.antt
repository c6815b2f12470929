-- Own: what one message and the reply to it have brought. Private contracts alone cite this.
use Rattle.std.specs.Prelude.{◌≡◌, ℕ, ℤ, ◌+◌, ◌⊎◌, List, [], length, Option, None, Some, Ok, Err}
use Rattle.std.specs.Io.KnownBytes.{Appends, IsAtEnd}
use Rattle.outside_io.specs.declared.sink.SinkFault.{SinkFault}
use Rattle.outside_io.specs.declared.sink.SinkFault.TheVariants as sinks
use Rattle.tds_packets.specs.declared.message.Message.{Message}
use Rattle.tds_packets.specs.declared.fault.MessageFault.{MessageFault}
use Rattle.tds_packets.specs.Header.{tabular_result}
use Rattle.tds_packets.specs.Stream.{IsMessage}
use Rattle.tds_packets.specs.Reading.{StopsBy, IsEnd}
use Rattle.tds_tokens.specs.declared.fault.TokenFault.{TokenFault}
use Rattle.tds_tokens.specs.declared.token.Token.{Token}
use Rattle.tds_tokens.specs.Answer.{IsFaultOf}
use Rattle.tds_client.specs.declared.login.ClientLogin.{ClientLogin}
use Rattle.tds_client.specs.declared.end.ClientEnd.{ClientEnd}
use Rattle.tds_client.specs.declared.end.ClientEnd.TheVariants.{Done, Refused, PrintFault, Memory}
use Rattle.tds_client.specs.declared.turn.Turn.{Turn}
use Rattle.tds_client.specs.Replies.{IsOfOtherKind, last_end}
use Rattle.tds_client.specs.Printing.{Print}
use Rattle.tds_client.specs.Ends.{Cause, end_of, end_of_message, end_of_tokens}
use Rattle.tds_client.specs.Query.{Outcome, Comes, Sends, TookTurns, IsUnprinted}

-- Of the bytes taken from offset `at` on: they are a server's reply; `count` counts the bytes taken so far.
pub record Replied (at count : ℕ) (gave : List ℕ → Type 0) (reply : Message) : Type 0 where
  pub bytes : List ℕ
  pub from_source : gave bytes
  pub is : IsMessage at bytes reply
  pub counted : count ≡ at + length bytes
  pub kind : reply.kind ≡ tabular_result

-- no message came, or one that is none of a server's
abbrev pub IsMissed : Turn → ℕ → List ℕ → Option (List ℕ) → ClientEnd → Type 0
IsMissed turn at bytes left end =
    ((fault : MessageFault) × (end ≡ end_of_message turn fault) × StopsBy at bytes fault × (IsEnd {T = Message} (Err fault) → IsAtEnd left))
    ⊎ ((reply : Message) × IsMessage at bytes reply × IsOfOtherKind turn reply end)

-- no reply was had
pub record Missed (turn : Turn) (at : ℕ) (gave : List ℕ → Type 0) (left : Option (List ℕ)) (end : ClientEnd) : Type 0 where
  pub bytes : List ℕ
  pub from_source : gave bytes
  pub missed : IsMissed turn at bytes left end

-- a message was sent, and a reply to it came
pub record Answered (message : List ℕ) (at count : ℕ) (gave : List ℕ → Type 0) (before after : Option (List ℕ)) (reply : Message) : Type 0 where
  pub replied : Replied at count gave reply
  pub sent : Appends before after message

-- what came of a turn with this message
pub record TookTurn (turn : Turn) (message : List ℕ) (at : ℕ) (gave : List ℕ → Type 0) (left before after : Option (List ℕ)) (outcome : Outcome) : Type 0 where
  pub bytes : List ℕ
  pub from_source : gave bytes
  pub came : Comes turn at bytes left outcome
  pub sent : Sends [] message before after outcome

-- it ended the client so
abbrev pub EndsInTurn : Turn → List ℕ → ℕ → (List ℕ → Type 0) → Option (List ℕ) → Option (List ℕ) → Option (List ℕ) → ClientEnd → Type 0
EndsInTurn turn message at gave left before after end =
    (cause : Cause) × TookTurn turn message at gave left before after (Err cause) × (end ≡ end_of turn cause)

-- the end of a client that could not print
abbrev pub end_of_printing : SinkFault → ClientEnd
end_of_printing sinks.Failed = PrintFault
end_of_printing sinks.Memory = Memory

-- ---- all turns

-- the end of a client whose login is refused by an ERROR of this number, or that has its answer
abbrev pub told_end : Option ℤ → ClientEnd
told_end None = Done
told_end (Some number) = Refused number

-- the last reply carries these tokens, and the end is known
abbrev pub IsTold : ClientLogin → List ℕ → (List ℕ → Type 0) → Option (List ℕ) → Option (List ℕ) → Option (List ℕ) → List Token → Option ℤ → Type 0
IsTold login text gave left before after tokens refused =
    (turn : Turn) × TookTurns login text gave left before after turn (Ok tokens) × (last_end turn tokens ≡ Some (told_end refused))

-- the client has ended in a turn
abbrev pub HasEnded : ClientLogin → List ℕ → (List ℕ → Type 0) → Option (List ℕ) → Option (List ℕ) → Option (List ℕ) → ClientEnd → Type 0
HasEnded login text gave left before after end =
    (turn : Turn) × (cause : Cause) × TookTurns login text gave left before after turn (Err cause) × (end ≡ end_of turn cause)

-- the tokens of a last reply are printed, and the end is theirs; or a front of them is
abbrev pub IsPrinted : List Token → Option ℤ → Option (List ℕ) → Option (List ℕ) → ClientEnd → Type 0
IsPrinted tokens refused before after end = ((end ≡ told_end refused) × Appends before after (Print tokens))
    ⊎ IsUnprinted before after (Print tokens) end

-- the payload of a reply is no tokens, or there was no memory to read them
abbrev pub IsUnread : Turn → List ℕ → ClientEnd → Type 0
IsUnread turn payload end = (fault : TokenFault) × (end ≡ end_of_tokens turn fault) × IsFaultOf payload fault
