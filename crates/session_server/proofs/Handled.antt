-- How one message is handled, from what its parts do.
use Rattle.std.proofs.Common.{◌≡◌, ℕ, Bool, true, false, if◌then◌else◌, List, [], length, Result, Ok, Err, is_ok, inl, inr, refl, sym, subst, ap, ◌∙◌}
use Rattle.value_types.specs.declared.memory.Memory.{Memory}
use Rattle.step_model.specs.Port.{PortPast}
use Rattle.step_model.proofs.Pasts.{goes_nowhere}
use Rattle.tds_packets.specs.Header.{tabular_result}
use Rattle.tds_packets.specs.Packets.{Packets, IsPacketSize}
use Rattle.tds_tokens.specs.declared.token.Token.{Token}
use Rattle.tds_tokens.specs.Spelling.{TokenBytes}
use Rattle.session_server.specs.declared.message.Handling.{Handling as MadeHandling}
use Rattle.session_server.specs.declared.message.Handling.TheVariants.{Responds, Ends}
use Rattle.session_server.specs.declared.prepared.PreparedResponse.{PreparedResponse}
use Rattle.session_server.specs.declared.prepared.Channel.{Channel}
use Rattle.batch_meaning.specs.Progress.{SessionProgress}
use Rattle.session_server.specs.Parts.{Bears, Answers, HasResponse, MayWant, Says, IsHandled, IsUnasked}
use Rattle.session_server.specs.Response.{Response, tabular, unserved}
use Rattle.std.specs.Result.{IsErr}
use Rattle.tds_login.specs.declared.config.Config.{Config}
use Rattle.tds_login.specs.Prelogin.{prelogin_of}
use Rattle.tds_login.specs.Login.{login_of}
use Rattle.tds_packets.specs.declared.message.Message.{Message}
use Rattle.session_server.specs.declared.end.End.TheVariants.{BadRpc}
use Rattle.session_server.specs.declared.message.Connected.{Connected}
use Rattle.session_server.specs.declared.message.ServerState.{ServerState}
use Rattle.session_server.specs.declared.message.ServerState.TheVariants.{Initial, LoginReady}
use Rattle.batch_meaning.specs.declared.form.ReadText.{ReadText}
use Rattle.batch_meaning.specs.declared.form.ReadText.TheVariants.{Statements}
use Rattle.batch_meaning.specs.Doing.{Did}
use Rattle.batch_meaning.specs.Tokens.{rpc_done}
use Rattle.session_server.specs.Talk.{Handling, responds, runs, calls, refuses, ends, IsReadAs, call_taken, handle, handle_attention, handle_driver_call, handle_logged, handle_login, handle_prelogin, handle_request, handle_rpc, is_unserved_call, keeping, refuse_call, response_to, tells, unserved_by}
use Rattle.batch_meaning.specs.Drivers.{KeptStatements, Taken, taken}
use Rattle.batch_meaning.specs.declared.errand.Errand.{Errand}
use Rattle.rpc_requests.specs.declared.call.DriverCall.{DriverCall}
use Rattle.rpc_requests.specs.declared.call.RpcCall.{RpcCall}
use Rattle.rpc_requests.specs.declared.fault.RpcFault.{RpcFault}
use Rattle.rpc_requests.specs.declared.fault.RpcKind.{RpcKind}
use Rattle.transaction_requests.specs.declared.fault.TransactionFault.{TransactionFault}
use Rattle.rpc_requests.specs.Drivers.{driver_call_of, whole_driver_call}
use Rattle.rpc_requests.specs.Reading.{placed, rpc_of, whole_call}
use Rattle.batch_meaning.proofs.Composed.{does_over}

-- what was prepared of tokens
pub bears_tokens : (spid size : ℕ) (tokens : List Token) (prepared : PreparedResponse) → prepared.channel ≡ record { spid = spid; packet_size = size } → prepared.payload.items ≡ TokenBytes tokens → IsPacketSize size → Bears spid (tabular size tokens) prepared
bears_tokens spid size tokens prepared by carries sized = record {
  bytes = ap (λ (c : Channel). Packets tabular_result c.spid c.packet_size prepared.payload.items) by ∙ ap (Packets tabular_result spid size) carries;
  sized = subst IsPacketSize (sym (ap (λ (c : Channel). c.packet_size) by)) sized;
}

says_answers : (past : PortPast) (handling : Handling) (p : SessionProgress) (response : Response) → Says handling response → Answers past past handling p response p
says_answers past (responds own next) p response is = record { read_as = Statements []; are = refl; has = tt; does = rw (← is) (does_over refl) }
says_answers past (refuses own number) p response is = record { read_as = Statements []; are = refl; has = tt; does = rw (← is) (does_over refl) }
says_answers past (runs connected text) p response is = absurd is
says_answers past (calls connected call) p response is = absurd is
says_answers past (ends end) p response is = absurd is

-- what has a response may want memory
wants : (handling : Handling) → HasResponse handling → MayWant handling
wants (responds response next) has = tt
wants (runs connected text) has = tt
wants (calls connected call) has = tt
wants (refuses response number) has = tt
wants (ends end) has = absurd has

-- a message for which nothing is asked
pub answered_handled : (spid : ℕ) (past : PortPast) (handling : Handling) (p : SessionProgress) (result : Result MadeHandling Memory) (state : ServerState) → IsUnasked spid handling result state → IsHandled spid past past handling p result p state
answered_handled spid past handling p (Ok (Responds prepared next)) state answered = (answered.0, says_answers past handling p answered.0 answered.1, answered.2, answered.3)
answered_handled spid past handling p (Ok (Ends end)) state answered = (answered, goes_nowhere past, refl)
answered_handled spid past handling p (Err memory) state answered = (wants handling answered, record { exchanges = []; past = goes_nowhere past; left = inl (refl, refl) })

-- by the kind of message that it is
pub answered_as : (spid : ℕ) (past : PortPast) (placed handling : Handling) (p : SessionProgress) (result : Result MadeHandling Memory) (state : ServerState) → placed ≡ handling → IsUnasked spid handling result state → IsHandled spid past past placed p result p state
answered_as spid past placed handling p result state is answered = rw is (answered_handled spid past handling p result state answered)

pub unasked_as : (spid : ℕ) (placed handling : Handling) (result : Result MadeHandling Memory) (state : ServerState) → placed ≡ handling → IsUnasked spid handling result state → IsUnasked spid placed result state
unasked_as spid placed handling result state is answered = rw is answered

pub handled_as : (spid : ℕ) (before after : PortPast) (placed handling : Handling) (p q : SessionProgress) (result : Result MadeHandling Memory) (state : ServerState) → placed ≡ handling → IsHandled spid before after handling p result q state → IsHandled spid before after placed p result q state
handled_as spid before after placed handling p q result state is handled = rw is handled

module _ (config : Config) (message : Message) (payload : List ℕ) (is_payload : payload ≡ message.payload) where
  pub at_prelogin : message.kind ≡ 18 → handle config Initial message ≡ handle_prelogin (prelogin_of payload)
  at_prelogin is = rw is_payload (rw is refl)

  pub at_login : message.kind ≡ 16 → handle config Initial message ≡ handle_login config (login_of payload)
  at_login is = rw is_payload (rw is refl)

  pub at_ready_login : message.kind ≡ 16 → handle config LoginReady message ≡ handle_login config (login_of payload)
  at_ready_login is = rw is_payload (rw is refl)

pub at_attention : (connected : Connected) (message : Message) → message.kind ≡ 6 → handle_logged connected message ≡ handle_attention connected
at_attention connected message is = rw is refl

-- ---- a batch, and a call

-- memory was wanting, before its text was read
pub unread_handled : (past : PortPast) (spid : ℕ) (handling : Handling) → MayWant handling → (p : SessionProgress) (result : Result MadeHandling Memory) (state : ServerState) → IsErr result → IsHandled spid past past handling p result p state
unread_handled past spid handling may p (Ok made) state err = absurd (let no : false ≡ true = err in cc)
unread_handled past spid handling may p (Err wanting) state err = (may, record { exchanges = []; past = goes_nowhere past; left = inl (refl, refl) })

-- or behind that
pub left_handled : {before after : PortPast} (spid : ℕ) (handling : Handling) → MayWant handling → (read_as : ReadText) {p q : SessionProgress} {memory : Memory} (result : Result MadeHandling Memory) (state : ServerState) → IsErr result → IsReadAs handling read_as
    → Did before after (response_to handling read_as) p (Err memory) q → IsHandled spid before after handling p result q state
left_handled spid handling may read_as (Ok made) state err read does = absurd (let no : false ≡ true = err in cc)
left_handled spid handling may read_as (Err wanting) state err read does = (may, record { exchanges = does.exchanges; past = does.past; left = inr (read_as, read, does.came) })

-- A call is read, or refused, whatever a refusal is: that type is the reader's own.
by_read : {C R : Type 0} (told : Result C R → Result C RpcFault) (P : Result C RpcFault → Type 0) → ((call : C) → P (told (Ok call))) → ((refusal : R) → P (told (Err refusal))) → (read : Result C R) → P (told read)
by_read told P called refused (Ok call) = called call
by_read told P called refused (Err refusal) = refused refusal

-- while a call is read, memory may be wanting whatever it is
pub may_want_rpc : (connected : Connected) (payload : List ℕ) → MayWant (handle_rpc connected (rpc_of payload))
unfolding rpc_of
may_want_rpc connected payload = by_read (placed (length payload)) (λ (read : Result RpcCall RpcFault). MayWant (handle_rpc connected read)) (λ call. tt) (λ refusal. tt) (whole_call payload)

-- a call of which a field is refused is answered, or ends the connection
may_want_bad : (connected : Connected) (at : ℕ) (kind : RpcKind) → MayWant (refuse_call connected at kind)
may_want_bad connected at kind = by_kind (is_unserved_call kind)
  where
    by_kind : (unserved_one : Bool) → MayWant (if unserved_one then tells connected (unserved (unserved_by kind) at (rpc_done true)) else ends (BadRpc at kind))
    by_kind true = tt
    by_kind false = tt

-- the same as a driver spells it
pub may_want_driver_call : (connected : Connected) (payload : List ℕ) → MayWant (handle_driver_call connected (driver_call_of payload))
unfolding driver_call_of
may_want_driver_call connected payload =
    by_read (placed (length payload)) (λ (read : Result DriverCall RpcFault). MayWant (handle_driver_call connected read)) (λ call. tt) (λ refusal. may_want_bad connected _ _) (whole_driver_call payload)

-- what a call asks for that was read, and what is kept behind it
pub is_taken : (connected : Connected) (read : Result DriverCall RpcFault) (call : DriverCall) (errand : Errand) (kept : KeptStatements) → read ≡ Ok call → ◌≡◌ {A = Taken} (errand, kept) (taken connected.prepared call)
    → handle_driver_call connected read ≡ calls (keeping connected kept) errand
is_taken connected read call errand kept is takes = ap (handle_driver_call connected) is ∙ ap (call_taken connected) (sym takes)

-- while a request is put into a text, memory is wanting only for one that has a text
pub may_want_request : (connected : Connected) (read : Result (List ℕ) TransactionFault) → is_ok read ≡ true → MayWant (handle_request connected read)
may_want_request connected (Ok text) is = tt
may_want_request connected (Err fault) is = absurd (let no : false ≡ true = is in cc)
