-- Own: what one connection did: which messages it took from its source, what it asked of its port and
-- wrote for them, and why it ended. The whole of the bytes and of the exchanges is spoken of; the
-- code goes message by message.
use Rattle.std.specs.Prelude.{◌≡◌, ℕ, ℤ, ◌+◌, ◌-◌, ◌<◌, ◌≤◌, ◌⊎◌, true, is_ok, List, [], ◌∷◌, ◌++◌, length, Option, Ok, Err, IfSome}
use Rattle.std.specs.Io.KnownBytes.{Appends, IsAtEnd}
use Rattle.outside_io.specs.Bytes.{HasRisen}
use Rattle.tds_login.specs.declared.config.Config.{Config}
use Rattle.rpc_requests.specs.declared.fault.RpcKind.{RpcKind}
use Rattle.tds_packets.specs.declared.message.Message.{Message}
use Rattle.tds_packets.specs.declared.fault.MessageFault.TheVariants as faults
use Rattle.tds_packets.specs.declared.fault.SendFault.{SendFault}
use Rattle.tds_packets.specs.Stream.{Splits}
use Rattle.tds_packets.specs.Reading.{StopsBy, byte_limit}
use Rattle.tds_packets.specs.Packets.{IsPartSent}
use Rattle.step_model.specs.Exchange.{Exchange}
use Rattle.step_model.specs.Port.{PortPast, GoesOn}
use Rattle.session_server.specs.declared.end.End.{End}
use Rattle.session_server.specs.declared.end.End.TheVariants.{BadRpc, Closed, LoginRefused, Memory}
use Rattle.session_server.specs.declared.message.ServerState.{ServerState}
use Rattle.batch_meaning.specs.Progress.{SessionProgress, first_progress}
use Rattle.batch_meaning.specs.declared.form.ReadText.{ReadText}
use Rattle.batch_meaning.specs.Doing.{Doing, over, ◌then◌, Held, Left}
use Rattle.batch_meaning.specs.Meaning.{rolls_back_open}
use Rattle.session_server.specs.Response.{Response}
use Rattle.session_server.specs.Talk.{Handling, handle, walk_of, Request, IsReadAs, AreRequests, response_to, talk_of, response_bytes, Bytes}
use Rattle.session_server.specs.Ends.{Cause, no_message, by_message, unsent, unmade, end_of}

-- the SPID of a session
abbrev pub spid_of : ℕ → ℕ
spid_of session = 50 + session

-- ---- why it ended

-- no message ends the connection
abbrev pub IsUnended : Config → List Message → Type 0
IsUnended config messages = is_ok (walk_of config messages).stands ≡ true

-- the last message that was taken ends the connection, and none before it does
pub record EndsAtLast (config : Config) (messages : List Message) (end : End) : Type 0 where
  pub front : List Message
  pub last : Message
  pub whole : messages ≡ front ++ last ∷ []
  pub unended : IsUnended config front
  pub ended : (walk_of config messages).stands ≡ Err end

-- each message has a response: none ends the connection, or a login that is refused does, by the last
abbrev pub IsAnswered : Config → List Message → Type 0
IsAnswered config messages = IsUnended config messages ⊎ ((number : ℤ) × EndsAtLast config messages (LoginRefused number))

-- or the last is a call that can't be read: memory may be wanting while it is
abbrev pub IsUnmade : Config → List Message → Type 0
IsUnmade config messages = IsAnswered config messages ⊎ ((at : ℕ) × (kind : RpcKind) × EndsAtLast config messages (BadRpc at kind))

-- Why the connection ended, where these messages were taken and then `rest`, which begins at offset
-- `at`. Behind a message that ended it, or whose response was not sent, nothing was taken.
abbrev pub Caused : Config → List Message → ℕ → List ℕ → Cause → Type 0
Caused config messages at rest (no_message fault) = IsUnended config messages × StopsBy at rest fault
Caused config messages at rest (by_message end) = EndsAtLast config messages end × (rest ≡ [])
Caused config messages at rest (unsent fault) = IsAnswered config messages × (rest ≡ [])
Caused config messages at rest unmade = IsUnmade config messages × (rest ≡ [])

-- where the source has ended, nothing is left in it
abbrev pub Emptied : Option (List ℕ) → Cause → Type 0
Emptied left (no_message faults.Closed) = IsAtEnd left
Emptied left (no_message (faults.Cut place)) = IsAtEnd left
Emptied left cause = Unit {0}

-- ---- what was written

-- all responses but the last were written whole, and of the last one a front, where sending stopped so
pub record IsPartWritten (spid : ℕ) (old new : Option (List ℕ)) (responses : List Response) (fault : SendFault) : Type 0 where
  pub front : List Response
  pub last : Response
  pub mid : Option (List ℕ)
  pub whole : responses ≡ front ++ last ∷ []
  pub written : Appends old mid (Bytes spid front)
  pub part : IsPartSent mid new (response_bytes spid last) fault

-- the sink, which told `old` and tells `new`, has all responses, or could not be sent the last one whole
abbrev pub Wrote : ℕ → Option (List ℕ) → Option (List ℕ) → List Response → Cause → Type 0
Wrote spid old new responses (unsent fault) = IsPartWritten spid old new responses fault
Wrote spid old new responses cause = Appends old new (Bytes spid responses)

-- ---- what was asked

-- behind the last message a transaction that is open is rolled back
abbrev pub closed : Doing (List Response) → Doing (List Response)
closed talk = talk then λ responses. rolls_back_open then λ _. over responses

-- What was done for the last message where memory was wanting for its response: nothing yet, or a front of what
-- is done for it.
abbrev pub IsAbandoned : Handling → SessionProgress → List Exchange → SessionProgress → Type 0
IsAbandoned handling old exchanges new = ((exchanges ≡ []) × (new ≡ old))
    ⊎ ((read_as : ReadText) × IsReadAs handling read_as × Left (response_to handling read_as) old exchanges new)

-- The responses to all messages but the last were made, which are these requests, and what is done for the last
-- was left; then a transaction that was open was rolled back.
pub record Abandons (config : Config) (messages : List Message) (requests : List Request) (exchanges : List Exchange) (responses : List Response) : Type 0 where
  pub front : List Message
  pub last : Message
  pub state : ServerState
  pub whole : messages ≡ front ++ last ∷ []
  pub stands : (walk_of config front).stands ≡ Ok state
  pub are : AreRequests (walk_of config front).handled requests
  -- what was asked for those, for the last, and behind it
  pub first : List Exchange
  pub second : List Exchange
  pub third : List Exchange
  pub parts : exchanges ≡ (first ++ second) ++ third
  pub talked : SessionProgress
  pub abandoned : SessionProgress
  pub new : SessionProgress
  pub talk : Held (talk_of requests) first_progress first responses talked
  pub left : IsAbandoned (handle config state last) talked second abandoned
  pub end : Held rolls_back_open abandoned third tt new

-- what was asked for these messages, as requests, and the responses that came of it
abbrev pub IsAsked : Config → List Message → List Request → List Exchange → List Response → Cause → Type 0
IsAsked config messages requests exchanges responses unmade = Abandons config messages requests exchanges responses
IsAsked config messages requests exchanges responses cause = AreRequests (walk_of config messages).handled requests
    × (new : SessionProgress) × Held (closed (talk_of requests)) first_progress exchanges responses new

-- Between two moments of the port its exchanges are what was asked for these messages, of which the texts
-- read as these requests say.
pub record Means (config : Config) (before after : PortPast) (messages : List Message) (responses : List Response) (cause : Cause) : Type 0 where
  pub requests : List Request
  pub exchanges : List Exchange
  pub past : GoesOn before after exchanges
  pub asked : IsAsked config messages requests exchanges responses cause

-- ---- the whole

-- What was heard and said in a connection with this SPID, by this configuration. `gave` says which bytes
-- came from its source, in which `left` are left.
pub record Heard (config : Config) (spid : ℕ) (gave : List ℕ → Type 0) (left sink_before sink_after : Option (List ℕ)) (end : End) : Type 0 where
  pub taken : List ℕ
  pub messages : List Message
  pub rest : List ℕ
  pub responses : List Response
  pub cause : Cause
  pub from_source : gave taken
  pub split : Splits taken messages rest
  pub written : Wrote spid sink_before sink_after responses cause
  pub caused : Caused config messages (length taken - length rest) rest cause
  pub end_is : end ≡ end_of cause
  pub emptied : Emptied left cause

-- And what was asked of its port for it.
pub record Conversation (config : Config) (session : ℕ) (gave : List ℕ → Type 0) (left : Option (List ℕ)) (port_before port_after : PortPast) (sink_before sink_after : Option (List ℕ)) (end : End) : Type 0 where
  pub heard : Heard config (spid_of session) gave left sink_before sink_after end
  pub means : Means config port_before port_after heard.messages heard.responses heard.cause

-- A count of faults, before and after: it has risen where the fault was answered, and stands still where
-- it wasn't; it never falls.
pub record CountsFault (old new : ℕ) (fails : Type 0) : Type 0 where
  pub risen : fails → HasRisen old new
  pub still : (fails → ⊥) → new ≡ old
  pub counted : old ≤ new

-- Where the source told its bytes, and they are fewer than 2^40 and whole messages of which none ends
-- the talk, as a refused login does: the connection was closed, or memory was wanting. What was written
-- then, and that nothing is left where it was closed, the conversation says.
abbrev pub Completes : Config → Option (List ℕ) → End → Type 0
Completes config told end = IfSome told (λ bytes. length bytes < byte_limit → (messages : List Message) → Splits bytes messages [] → IsUnended config messages → (end ≡ Closed) ⊎ (end ≡ Memory))
