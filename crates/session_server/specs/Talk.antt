-- [MS-TDS] 2.2.1 and 3.3.5: what is answered to the messages of a client, by where the connection stands: a
-- response, until one ends the connection, and the bytes of these. How a message is handled, and where it
-- leads, the message says alone; what is done for one that runs a batch or a call is said of what its
-- text reads as. Responses depend on what the port answers, so the talk is what a session does; the code
-- handles one message after another.
use Rattle.std.specs.Prelude.{◌≡◌, ℕ, ℤ, pos, All, map, Bool, ◌-◌, ◌%◌, ◌==◌, ◌&&◌, ◌||◌, true, false, nat_lt, if◌then◌else◌, List, [], ◌∷◌, ◌++◌, fold, length, drop, Option, None, Some, Result, Ok, Err}
use Rattle.std.specs.List.{flat_map}
use Rattle.byteorder.specs.Endian.{little_number}
use Rattle.value_types.specs.Units.{units_of}
use Rattle.tds_packets.specs.declared.message.Message.{Message}
use Rattle.rpc_requests.specs.declared.call.DriverCall.{DriverCall}
use Rattle.rpc_requests.specs.declared.call.RpcCall.{RpcCall}
use Rattle.rpc_requests.specs.declared.fault.RpcFault.{RpcFault}
use Rattle.rpc_requests.specs.declared.fault.RpcFault.TheVariants as rpc_fault
use Rattle.rpc_requests.specs.declared.fault.RpcKind.{RpcKind}
use Rattle.rpc_requests.specs.declared.fault.RpcKind.TheVariants as rpc_kind
use Rattle.rpc_requests.specs.Drivers.{driver_call_of}
use Rattle.rpc_requests.specs.Reading.{rpc_of}
use Rattle.transaction_requests.specs.declared.fault.TransactionFault.{TransactionFault}
use Rattle.transaction_requests.specs.declared.fault.TransactionFault.TheVariants as transaction_fault
use Rattle.transaction_requests.specs.declared.fault.TransactionKind.{TransactionKind}
use Rattle.transaction_requests.specs.declared.fault.TransactionKind.TheVariants as transaction_kind
use Rattle.transaction_requests.specs.Text.{managed}
use Rattle.tds_packets.specs.Header.{sql_batch, rpc as rpc_request, tabular_result, attention, transaction_manager, login7, prelogin}
use Rattle.tds_packets.specs.Packets.{Packets, default_size}
use Rattle.tds_tokens.specs.declared.token.Token.{Token}
use Rattle.tds_tokens.specs.Spelling.{TokenBytes}
use Rattle.tds_login.specs.declared.config.Config.{Config}
use Rattle.tds_login.specs.declared.config.Entry.{Entry}
use Rattle.tds_login.specs.declared.config.Entry.TheVariants.{Login, Bare}
use Rattle.tds_login.specs.declared.login.Login.{Login as LoginRecord}
use Rattle.tds_login.specs.declared.login.LoginFault.{LoginFault}
use Rattle.tds_login.specs.declared.prelogin.Prelogin.{Prelogin}
use Rattle.tds_login.specs.declared.prelogin.PreloginFault.{PreloginFault}
use Rattle.tds_login.specs.Prelogin.{prelogin_of, prelogin_reply}
use Rattle.tds_login.specs.Login.{login_of}
use Rattle.tds_login.specs.Verdict.{judge_login, login_reply}
use Rattle.session_server.specs.declared.end.BatchFault.{BatchFault}
use Rattle.session_server.specs.declared.end.BatchFault.TheVariants.{HeadersShort, HeadersTotal, OddText}
use Rattle.session_server.specs.declared.end.End.{End}
use Rattle.session_server.specs.declared.end.End.TheVariants.{OutOfPlace, BadPrelogin, LoginRefused, BadBatch, BadRpc, BadTransaction, Memory}
use Rattle.session_server.specs.declared.message.Connected.{Connected}
use Rattle.session_server.specs.declared.message.ServerState.{ServerState}
use Rattle.session_server.specs.declared.message.ServerState.TheVariants.{Initial, LoginReady, LoggedIn}
use Rattle.batch_meaning.specs.declared.errand.Errand.{Errand}
use Rattle.batch_meaning.specs.declared.form.ReadText.{ReadText}
use Rattle.batch_meaning.specs.declared.form.ReadText.TheVariants.{Statements}
use Rattle.batch_meaning.specs.Statements.{ReadsAs}
use Rattle.batch_meaning.specs.Doing.{Doing, over, reads, never, ◌then◌}
use Rattle.batch_meaning.specs.Drivers.{KeptStatements, Taken, none_kept, taken}
use Rattle.batch_meaning.specs.Meaning.{batch}
use Rattle.batch_meaning.specs.Tokens.{batch_done, rpc_done}
use Rattle.batch_meaning.specs.Rpc.{ReadsFor, plain_errand, rpc}
use Rattle.session_server.specs.Response.{Response, options, tabular, attention_tokens, refusal_tokens, call_unserved, text_too_long, request_unserved, unserved, ended_once}

-- ---- one message

-- what a connection is, once it is logged in with packets of a size: no statement is prepared
abbrev pub connected_with : Config → ℕ → Connected
connected_with config size = record { packet_size = size; drivers = config.drivers; prepared = none_kept }

-- what it is where these statements are prepared
abbrev pub keeping : Connected → KeptStatements → Connected
keeping connected kept = record connected { prepared = kept }

-- where a connection begins: before a login, or logged in
abbrev pub first_in : Config → Entry → ServerState
first_in config Login = Initial
first_in config Bare = LoggedIn (connected_with config default_size)

abbrev pub first_state : Config → ServerState
first_state config = first_in config config.entry

-- How a message is handled: by a response, behind which the connection goes on in a state; by running the
-- batch of a text, or a call, behind which a connection that is logged in is so; by a response that refuses the login with
-- an error's number, and ends the connection; or by its end alone.
pub data Handling : Type 0 where
  responds : Response → ServerState → Handling
  runs : Connected → List ℕ → Handling
  calls : Connected → Errand → Handling
  refuses : Response → ℤ → Handling
  ends : End → Handling

-- where the connection stands behind a message that is handled so, or its end
abbrev pub next_of : Handling → Result ServerState End
next_of (responds response next) = Ok next
next_of (runs connected text) = Ok (LoggedIn connected)
next_of (calls connected call) = Ok (LoggedIn connected)
next_of (refuses response number) = Err (LoginRefused number)
next_of (ends end) = Err end

-- ---- PRELOGIN and LOGIN7

-- every PRELOGIN that can be read is answered alike
abbrev pub handle_prelogin : Result Prelogin PreloginFault → Handling
handle_prelogin (Ok read) = responds options LoginReady
handle_prelogin (Err fault) = ends (BadPrelogin fault)

-- a login is refused by the error of this number
abbrev pub refuse : ℤ → Handling
refuse number = refuses (tabular default_size (refusal_tokens number)) number

-- a login is granted with a packet size, which counts from the next message on
abbrev pub handle_verdict : Config → Result ℕ ℤ → Handling
handle_verdict config (Ok size) = responds (tabular default_size (login_reply size)) (LoggedIn (connected_with config size))
handle_verdict config (Err number) = refuse number

-- the number of the error where a LOGIN7 can't be read (own)
abbrev pub unreadable_login : ℤ
unreadable_login = pos 49010

abbrev pub handle_login : Config → Result LoginRecord LoginFault → Handling
handle_login config (Ok login) = handle_verdict config (judge_login login config)
handle_login config (Err fault) = refuse unreadable_login

-- ---- batches, calls, attentions and transaction manager requests

-- by tokens for which nothing is asked
abbrev pub tells : Connected → List Token → Handling
tells connected tokens = responds (tabular connected.packet_size tokens) (LoggedIn connected)

-- the length of ALL_HEADERS, which counts itself ([MS-TDS] 2.2.5.3)
abbrev pub headers_length : List ℕ → ℕ
headers_length payload = little_number 4 payload

-- what is wrong with the payload of a batch: its headers first, then its text
abbrev pub batch_fault : List ℕ → Option BatchFault
batch_fault payload =
    if nat_lt (length payload) 4 then Some HeadersShort
    else if nat_lt (headers_length payload) 4 || nat_lt (length payload) (headers_length payload) then Some HeadersTotal
    else if (length payload - headers_length payload) % 2 == 1 then Some OddText
    else None

-- the text of a batch: what follows its headers ([MS-TDS] 2.2.6.7)
abbrev pub text_of : List ℕ → List ℕ
text_of payload = units_of (drop (headers_length payload) payload)

abbrev pub handle_batch : Connected → List ℕ → Option BatchFault → Handling
handle_batch connected payload None = runs connected (text_of payload)
handle_batch connected payload (Some fault) = ends (BadBatch fault)

-- a call is run; the first field that is refused ends the connection
abbrev pub handle_rpc : Connected → Result RpcCall RpcFault → Handling
handle_rpc connected (Ok call) = calls connected (plain_errand call)
handle_rpc connected (Err (rpc_fault.Bad at kind)) = ends (BadRpc at kind)
handle_rpc connected (Err rpc_fault.Memory) = ends Memory

-- where drivers are served (own), it is a call, of which something is not served
abbrev pub is_unserved_call : RpcKind → Bool
is_unserved_call rpc_kind.Headers = false
is_unserved_call rpc_kind.Cut = false
is_unserved_call other = true

-- the number of the error for that
abbrev pub unserved_by : RpcKind → ℕ
unserved_by rpc_kind.Long = text_too_long
unserved_by other = call_unserved

-- what is no call at all ends the connection, and what is not served of one is refused
abbrev pub refuse_call : Connected → ℕ → RpcKind → Handling
refuse_call connected at kind =
    if is_unserved_call kind then tells connected (unserved (unserved_by kind) at (rpc_done true)) else ends (BadRpc at kind)

-- the errand of a call is run, and what is prepared behind it the connection keeps
abbrev pub call_taken : Connected → Taken → Handling
call_taken connected of = calls (keeping connected of.1) of.0

abbrev pub handle_driver_call : Connected → Result DriverCall RpcFault → Handling
handle_driver_call connected (Ok call) = call_taken connected (taken connected.prepared call)
handle_driver_call connected (Err (rpc_fault.Bad at kind)) = refuse_call connected at kind
handle_driver_call connected (Err rpc_fault.Memory) = ends Memory

-- where drivers are served, a call is read as they spell it
abbrev pub handle_call : Connected → List ℕ → Handling
handle_call connected payload =
    if connected.drivers then handle_driver_call connected (driver_call_of payload) else handle_rpc connected (rpc_of payload)

-- an attention is acknowledged
abbrev pub handle_attention : Connected → Handling
handle_attention connected = tells connected attention_tokens

-- it is a transaction manager request, of which something is not served
abbrev pub is_unserved_request : TransactionKind → Bool
is_unserved_request transaction_kind.Headers = false
is_unserved_request transaction_kind.Cut = false
is_unserved_request other = true

-- what is no request at all ends the connection, and what is not served of one is refused (own)
abbrev pub refuse_request : Connected → ℕ → TransactionKind → Handling
refuse_request connected at kind = if is_unserved_request kind then tells connected (unserved request_unserved at (batch_done true))
    else ends (BadTransaction at kind)

-- a transaction manager request is the batch of its text
abbrev pub handle_request : Connected → Result (List ℕ) TransactionFault → Handling
handle_request connected (Ok text) = runs connected text
handle_request connected (Err (transaction_fault.Bad at kind)) = refuse_request connected at kind
handle_request connected (Err transaction_fault.Memory) = ends Memory

-- ---- all kinds of messages

-- on a connection that is logged in
abbrev pub handle_logged : Connected → Message → Handling
handle_logged connected message =
    if message.kind == sql_batch then handle_batch connected message.payload (batch_fault message.payload)
    else if message.kind == rpc_request then handle_call connected message.payload
    else if message.kind == attention then handle_attention connected
    else if message.kind == transaction_manager && connected.drivers then handle_request connected (managed message.payload)
    else ends (OutOfPlace message.at message.kind)

-- By the type of its packets ([MS-TDS] 2.2.3.1.1). A message of another type, or of one that has no place
-- there, ends the connection.
abbrev pub handle : Config → ServerState → Message → Handling
handle config Initial message =
    if message.kind == prelogin then handle_prelogin (prelogin_of message.payload)
    else if message.kind == login7 then handle_login config (login_of message.payload)
    else ends (OutOfPlace message.at message.kind)
handle config LoginReady message =
    if message.kind == login7 then handle_login config (login_of message.payload)
    else ends (OutOfPlace message.at message.kind)
handle config (LoggedIn connected) message = handle_logged connected message

-- ---- all messages

-- how messages were handled so far, those that have a response, and where the connection stands behind them all,
-- or why it has ended there
pub record Walk : Type 0 where
  pub handled : List Handling
  pub stands : Result ServerState End

abbrev pub first_walk : Config → Walk
first_walk config = record { handled = []; stands = Ok (first_state config) }

-- one that ends the connection by itself has none
abbrev pub with_handling : List Handling → Handling → List Handling
with_handling handled (ends end) = handled
with_handling handled handling = handled ++ handling ∷ []

-- the walk behind a message that is handled so
abbrev pub walk_on : Walk → Handling → Walk
walk_on walk handling = record { handled = with_handling walk.handled handling; stands = next_of handling }

-- behind its end nothing is handled
abbrev pub walk_by : Config → Walk → Result ServerState End → Message → Walk
walk_by config walk (Ok state) message = walk_on walk (handle config state message)
walk_by config walk (Err end) message = walk

abbrev pub with_message : Config → Walk → Message → Walk
with_message config walk message = walk_by config walk walk.stands message

-- The messages in order: how each is handled, and where they leave the connection.
unfoldable pub walk_of : Config → List Message → Walk
walk_of config messages = fold (with_message config) (first_walk config) messages

-- ---- what is done for them

-- how a message is handled, with what the text of the batch that it runs is read as, or the text that is read for its call
pub record Request : Type 0 where
  pub handling : Handling
  pub read_as : ReadText

-- where there is no text it is a batch of no statements
abbrev pub IsReadAs : Handling → ReadText → Type 0
IsReadAs (runs connected text) read_as = ReadsAs text read_as
IsReadAs (calls connected call) read_as = ReadsFor call.text read_as
IsReadAs handling read_as = read_as ≡ Statements []

abbrev pub IsRequest : Request → Type 0
IsRequest request = IsReadAs request.handling request.read_as

abbrev pub handling_in : Request → Handling
handling_in request = request.handling

-- the requests are those of messages that are handled so
pub record AreRequests (handled : List Handling) (requests : List Request) : Type 0 where
  pub handlings : map handling_in requests ≡ handled
  pub are : All IsRequest requests

-- the tokens of a batch; where drivers are served it has one DONE at its end
abbrev pub batch_tokens : Connected → List Token → List Token
batch_tokens connected tokens = if connected.drivers then ended_once tokens else tokens

-- the batch that a text is read as, its tokens in packets
unfoldable pub batch_response : Connected → ReadText → Doing Response
batch_response connected read_as = batch read_as then λ _. reads λ p. over (tabular connected.packet_size (batch_tokens connected p.tokens))

-- so that of a call
unfoldable pub rpc_response : Connected → Errand → ReadText → Doing Response
rpc_response connected call read_as = rpc call read_as then λ _. reads λ p. over (tabular connected.packet_size p.tokens)

-- the response to a message that is handled so, and whose text is read so
abbrev pub response_to : Handling → ReadText → Doing Response
response_to (responds response next) read_as = over response
response_to (runs connected text) read_as = batch_response connected read_as
response_to (calls connected call) read_as = rpc_response connected call read_as
response_to (refuses response number) read_as = over response
response_to (ends end) read_as = never

-- one response more
abbrev pub talk_more : Doing (List Response) → Doing Response → Doing (List Response)
talk_more talk tree = talk then λ earlier. tree then λ response. over (earlier ++ response ∷ [])

abbrev pub with_request : Doing (List Response) → Request → Doing (List Response)
with_request talk request = talk_more talk (response_to request.handling request.read_as)

-- The responses to requests, in order.
unfoldable pub talk_of : List Request → Doing (List Response)
talk_of requests = fold with_request (over []) requests

-- ---- bytes

-- the SPID of the answer to a PRELOGIN, which is the same for all sessions
abbrev pub prelogin_spid : ℕ
prelogin_spid = 51

-- the bytes of a response to a session of this SPID: packets of a tabular result
abbrev pub response_bytes : ℕ → Response → List ℕ
response_bytes spid options = Packets tabular_result prelogin_spid default_size prelogin_reply
response_bytes spid (tabular size tokens) = Packets tabular_result spid size (TokenBytes tokens)

-- the bytes of all responses
abbrev pub Bytes : ℕ → List Response → List ℕ
Bytes spid responses = flat_map (response_bytes spid) responses
