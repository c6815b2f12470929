-- Own: what the private parts of a connection give. No public clause cites this file.
use Rattle.std.specs.Prelude.{◌≡◌, ◌⊎◌, ℕ, ◌+◌, List, [], ◌∷◌, ◌++◌, length, Option, Result, Ok, Err}
use Rattle.value_types.specs.declared.memory.Memory.{Memory}
use Rattle.tds_packets.specs.Header.{tabular_result}
use Rattle.tds_packets.specs.Packets.{Packets, IsPacketSize, IsPartSent}
use Rattle.tds_tokens.specs.declared.token.DoneKind.TheVariants.{Done}
use Rattle.tds_tokens.specs.declared.token.Token.{Token}
use Rattle.tds_tokens.specs.declared.token.Token.TheVariants.{Finished}
use Rattle.step_model.specs.Exchange.{Exchange}
use Rattle.step_model.specs.Port.{PortPast, GoesOn}
use Rattle.session_server.specs.declared.message.Handling.{Handling as MadeHandling}
use Rattle.session_server.specs.declared.message.Handling.TheVariants.{Responds, Ends}
use Rattle.session_server.specs.declared.prepared.PreparedResponse.{PreparedResponse}
use Rattle.session_server.specs.declared.message.ServerState.{ServerState}
use Rattle.session_server.specs.declared.message.ServerState.TheVariants.{LoggedIn}
use Rattle.batch_meaning.specs.Progress.{SessionProgress, first_progress}
use Rattle.batch_meaning.specs.Doing.{Held, Did}
use Rattle.session_server.specs.Response.{Response}
use Rattle.session_server.specs.Talk.{Handling, responds, refuses, ends, next_of, handle, walk_of, Request, IsReadAs, AreRequests, response_to, talk_of, response_bytes}
use Rattle.session_server.specs.Conversation.{IsAbandoned, Emptied, Heard}
use Rattle.batch_meaning.specs.declared.form.ReadText.{ReadText}
use Rattle.session_server.specs.Ends.{Cause, no_message, by_message, unsent, unmade, end_of}
use Rattle.session_server.specs.declared.end.End.{End}
use Rattle.session_server.specs.declared.end.End.TheVariants.{BadRpc}
use Rattle.std.specs.Io.KnownBytes.{Appends}
use Rattle.tds_login.specs.declared.config.Config.{Config}
use Rattle.tds_packets.specs.declared.message.Message.{Message}
use Rattle.tds_packets.specs.Stream.{IsMessage}
use Rattle.tds_packets.specs.Reading.{StopsBy}

-- ---- a message

-- the packets that are sent in a state have a size that packets may have; before the login it is a fixed one
abbrev pub IsSized : ServerState → Type 0
IsSized (LoggedIn connected) = IsPacketSize connected.packet_size
IsSized state = Unit {0}

-- the packets that were prepared are the bytes of the response to a session of this SPID
pub record Bears (spid : ℕ) (response : Response) (prepared : PreparedResponse) : Type 0 where
  pub bytes : Packets tabular_result prepared.channel.spid prepared.channel.packet_size prepared.payload.items ≡ response_bytes spid response
  pub sized : IsPacketSize prepared.channel.packet_size

-- a DONE
abbrev pub IsDone : Token → Type 0
IsDone token = (status command rows : ℕ) × (token ≡ Finished Done status command rows)

-- something is answered
abbrev pub HasResponse : Handling → Type 0
HasResponse (ends end) = ⊥
HasResponse handling = Unit {0}

-- behind a response the connection goes on in this state, or has its end
abbrev pub GoesOnIn : Handling → Result (Unit {0}) End → ServerState → Type 0
GoesOnIn handling (Ok on) state = (Ok state ≡ next_of handling) × IsSized state
GoesOnIn handling (Err end) state = Err end ≡ next_of handling

-- memory may be wanting: for a response, or while a call is read, also one that can't be
abbrev pub MayWant : Handling → Type 0
MayWant (ends (BadRpc _ _)) = Unit {0}
MayWant handling = HasResponse handling

-- its response was made, with what its text is read as
pub record Answers (before after : PortPast) (handling : Handling) (old : SessionProgress) (response : Response) (new : SessionProgress) : Type 0 where
  pub read_as : ReadText
  pub are : IsReadAs handling read_as
  pub has : HasResponse handling
  pub does : Did before after (response_to handling read_as) old (Ok response) new

-- what was done for it was left
pub record Leaves (before after : PortPast) (handling : Handling) (old new : SessionProgress) : Type 0 where
  pub exchanges : List Exchange
  pub past : GoesOn before after exchanges
  pub left : IsAbandoned handling old exchanges new

-- the message was handled so, the session has come so far, and the connection stands in this state; or memory was wanting
abbrev pub IsHandled : ℕ → PortPast → PortPast → Handling → SessionProgress → Result MadeHandling Memory → SessionProgress → ServerState → Type 0
IsHandled spid before after handling old (Ok (Responds prepared next)) new state =
    (response : Response) × Answers before after handling old response new × Bears spid response prepared × GoesOnIn handling next state
IsHandled spid before after handling old (Ok (Ends end)) new state = (handling ≡ ends end) × GoesOn before after [] × (new ≡ old)
IsHandled spid before after handling old (Err memory) new state = MayWant handling × Leaves before after handling old new

-- nothing is asked for this response
abbrev pub Says : Handling → Response → Type 0
Says (responds own next) response = own ≡ response
Says (refuses own number) response = own ≡ response
Says handling response = ⊥

-- a message for which nothing is asked was handled so
abbrev pub IsUnasked : ℕ → Handling → Result MadeHandling Memory → ServerState → Type 0
IsUnasked spid handling (Ok (Responds prepared next)) state =
    (response : Response) × (Says handling response) × Bears spid response prepared × GoesOnIn handling next state
IsUnasked spid handling (Ok (Ends end)) state = handling ≡ ends end
IsUnasked spid handling (Err memory) state = HasResponse handling

-- how a message that is handled so ends the connection: by itself, or behind a response
abbrev pub EndsBy : ℕ → PortPast → PortPast → Option (List ℕ) → Option (List ℕ) → SessionProgress → SessionProgress → Handling → End → Type 0
EndsBy spid before after sink_before sink_after old new handling end = ((handling ≡ ends end) × GoesOn before after [] × (new ≡ old) × Appends sink_before sink_after [])
    ⊎ ((response : Response) × Answers before after handling old response new × (next_of handling ≡ Err end) × Appends sink_before sink_after (response_bytes spid response))

-- ---- one message more

-- Of one message that was taken from offset `at` on and handled in this state: its response was made, and
-- the packets were sent; `after` counts the bytes taken so far.
pub record Turned (config : Config) (spid at : ℕ) (state : ServerState) (took : List ℕ → Type 0) (before after : PortPast) (sink_before sink_after : Option (List ℕ)) (old new : SessionProgress) (count : ℕ) (next : ServerState) : Type 0 where
  pub bytes : List ℕ
  pub message : Message
  pub response : Response
  pub taken : took bytes
  pub is : IsMessage at bytes message
  pub counted : count ≡ at + length bytes
  pub goes_on : next_of (handle config state message) ≡ Ok next
  pub answers : Answers before after (handle config state message) old response new
  pub written : Appends sink_before sink_after (response_bytes spid response)

-- what was done for the last message, and written
abbrev pub EndsTurn : Config → ℕ → ℕ → ServerState → PortPast → PortPast → Option (List ℕ) → Option (List ℕ) → SessionProgress → SessionProgress → List ℕ → Cause → Type 0
EndsTurn config spid at state before after sink_before sink_after old new bytes (no_message fault) = StopsBy at bytes fault × GoesOn before after [] × (new ≡ old) × Appends sink_before sink_after []
EndsTurn config spid at state before after sink_before sink_after old new bytes (by_message end) = (message : Message) × IsMessage at bytes message × EndsBy spid before after sink_before sink_after old new (handle config state message) end
EndsTurn config spid at state before after sink_before sink_after old new bytes (unsent fault) = (message : Message) × IsMessage at bytes message
    × (response : Response) × Answers before after (handle config state message) old response new × IsPartSent sink_before sink_after (response_bytes spid response) fault
EndsTurn config spid at state before after sink_before sink_after old new bytes unmade = (message : Message) × IsMessage at bytes message × MayWant (handle config state message)
    × Leaves before after (handle config state message) old new × Appends sink_before sink_after []

-- The connection ended at bytes that were taken from offset `at` on.
pub record Ended (config : Config) (spid at : ℕ) (state : ServerState) (took : List ℕ → Type 0) (left : Option (List ℕ)) (before after : PortPast) (sink_before sink_after : Option (List ℕ)) (old new : SessionProgress) (end : End) : Type 0 where
  pub bytes : List ℕ
  pub cause : Cause
  pub taken : took bytes
  pub end_is : end ≡ end_of cause
  pub how : EndsTurn config spid at state before after sink_before sink_after old new bytes cause
  pub emptied : Emptied left cause

-- ---- all messages

-- all messages but the last have responses, and what is done for the last was left
pub record Abandoned (config : Config) (before after : PortPast) (messages : List Message) (requests : List Request) (responses : List Response) (new : SessionProgress) : Type 0 where
  pub front : List Message
  pub last : Message
  pub state : ServerState
  pub whole : messages ≡ front ++ last ∷ []
  pub stands : (walk_of config front).stands ≡ Ok state
  pub are : AreRequests (walk_of config front).handled requests
  pub first : List Exchange
  pub second : List Exchange
  pub talked : SessionProgress
  pub past : GoesOn before after (first ++ second)
  pub talk : Held (talk_of requests) first_progress first responses talked
  pub left : IsAbandoned (handle config state last) talked second new

-- what was asked for these messages before the connection's end, and how far the session has come
abbrev pub IsAskedSoFar : Config → PortPast → PortPast → List Message → List Request → List Response → SessionProgress → Cause → Type 0
IsAskedSoFar config before after messages requests responses new unmade = Abandoned config before after messages requests responses new
IsAskedSoFar config before after messages requests responses new cause = AreRequests (walk_of config messages).handled requests × Did before after (talk_of requests) first_progress (Ok responses) new

-- All messages until the connection's end.
pub record Spoke (config : Config) (spid : ℕ) (gave : List ℕ → Type 0) (left : Option (List ℕ)) (before after : PortPast) (sink_before sink_after : Option (List ℕ)) (new : SessionProgress) (end : End) : Type 0 where
  pub heard : Heard config spid gave left sink_before sink_after end
  pub requests : List Request
  pub asked : IsAskedSoFar config before after heard.messages requests heard.responses new heard.cause
