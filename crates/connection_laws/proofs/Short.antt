-- The payload of a message has a limit, so the text of a batch is short, and so is that of a call, and of each statement that is kept for later
-- calls; and what its CREATE TABLEs keep reads back.
use Rattle.std.proofs.Common.{◌≡◌, ◌⊎◌, inl, inr, ℕ, ◌+◌, ◌≤◌, ◌==◌, ◌&&◌, Bool, true, false, if◌then◌else◌, List, [], ◌∷◌, ◌++◌, fold, map, length, drop, Option, None, Some, Result, Ok, Err, refl, sym, ap, subst, arith, length-drop}
use Rattle.std.specs.Prelude.{ℤ}
use Rattle.std.specs.List.{All, AllByRecursion}
use Rattle.std.proofs.lemmas.List.Elements.{All-head, All-tail}
use Rattle.value_types.specs.Units.{units_of}
use Rattle.table_rows.specs.Definitions.{longest_text}
use Rattle.tds_packets.specs.declared.message.Message.{Message}
use Rattle.tds_packets.specs.Header.{sql_batch, rpc as rpc_request, attention, transaction_manager, login7, prelogin}
use Rattle.tds_packets.specs.Packets.{default_size}
use Rattle.tds_packets.specs.Stream.{Joins, payload_limit}
use Rattle.tds_login.specs.declared.config.Config.{Config}
use Rattle.tds_login.specs.declared.config.Entry.{Entry}
use Rattle.tds_login.specs.declared.config.Entry.TheVariants.{Login as AsksLogin, Bare}
use Rattle.tds_login.specs.declared.login.Login.{Login}
use Rattle.tds_login.specs.declared.login.LoginFault.{LoginFault}
use Rattle.tds_login.specs.declared.prelogin.Prelogin.{Prelogin}
use Rattle.tds_login.specs.declared.prelogin.PreloginFault.{PreloginFault}
use Rattle.tds_login.specs.Prelogin.{prelogin_of}
use Rattle.tds_login.specs.Login.{login_of}
use Rattle.tds_login.specs.Verdict.{judge_login}
use Rattle.rpc_requests.specs.declared.call.DriverCall.{DriverCall}
use Rattle.rpc_requests.specs.declared.call.RpcCall.{RpcCall}
use Rattle.rpc_requests.specs.declared.fault.RpcFault.{RpcFault}
use Rattle.rpc_requests.specs.declared.fault.RpcFault.TheVariants as rpc_fault
use Rattle.rpc_requests.specs.declared.fault.RpcKind.{RpcKind}
use Rattle.rpc_requests.specs.Drivers.{driver_call_of}
use Rattle.rpc_requests.specs.Reading.{rpc_of}
use Rattle.transaction_requests.specs.declared.fault.TransactionFault.{TransactionFault}
use Rattle.transaction_requests.specs.declared.fault.TransactionFault.TheVariants as transaction_fault
use Rattle.transaction_requests.specs.declared.fault.TransactionKind.{TransactionKind}
use Rattle.transaction_requests.specs.Text.{managed}
use Rattle.transaction_requests.proofs.Sizes.{managed_few}
use Rattle.batch_meaning.specs.Drivers.{KeptStatements, none_kept, taken}
use Rattle.batch_meaning.specs.Rpc.{ReadsFor}
use Rattle.batch_meaning.specs.declared.errand.Way.{Way}
use Rattle.batch_meaning.specs.declared.errand.Way.TheVariants as way
use Rattle.batch_meaning.specs.declared.form.ReadText.{ReadText}
use Rattle.session_server.specs.declared.end.BatchFault.{BatchFault}
use Rattle.session_server.specs.declared.end.End.{End}
use Rattle.session_server.specs.Talk.{Handling, responds, runs, calls, refuses, ends, connected_with, keeping, first_in, next_of, handle_prelogin, handle_verdict, handle_login, handle_rpc, refuse_call, handle_driver_call, handle_call, refuse_request, handle_request, headers_length, is_unserved_call, is_unserved_request, batch_fault, text_of, handle_batch, handle_logged, handle, Walk, with_handling, walk_on, walk_by, with_message, first_walk, walk_of, Request, IsReadAs, IsRequest, handling_in, AreRequests}
use Rattle.sound_laws.specs.Runs.{ErrandReadsBack, Task, TaskReadsBack}
use Rattle.text_laws.specs.Laws.{CallReadsBack, TextReadsBack}
use Rattle.text_laws.proofs.Served.{served_call, served_text}
use Rattle.connection_laws.proofs.Sizes.{IsShortText, call_short}
use Rattle.connection_laws.proofs.Taken.{AreShortKept, taken_short}
use Rattle.connection_laws.specs.Tasks.{tasks_of, with_task}

-- ---- one message

units_short : (bytes : List ℕ) → length (units_of bytes) ≤ length bytes
units_short [] = omega arith
units_short (low ∷ []) = omega arith
units_short (low ∷ high ∷ bytes) = omega (arith, units_short bytes)

text_short : (payload : List ℕ) → length payload ≤ payload_limit → length (text_of payload) ≤ longest_text
text_short payload limit = omega (arith, units_short (drop (headers_length payload) payload), length-drop (headers_length payload) payload)

-- so is that of a transaction manager request
request_short : (payload text : List ℕ) → length payload ≤ payload_limit → managed payload ≡ Ok text → length text ≤ longest_text
request_short payload text limit is = omega (arith, managed_few payload text is)

-- the text of a batch that is run is short, or that of a call
abbrev pub IsShort : Handling → Type 0
IsShort (runs connected text) = length text ≤ longest_text
IsShort (calls connected call) = IsShortText call.text
IsShort handling = Unit {0}

-- The connection is logged in with packets of a size, and each statement that it keeps is short. The type of its states is the code's
-- own, so each is told here by what leads to it.
pub record IsLoggedIn (config : Config) (walk : Walk) : Type 0 where
  pub size : ℕ
  pub kept : KeptStatements
  pub at : walk.stands ≡ next_of (runs (keeping (connected_with config size) kept) [])
  pub short : AreShortKept kept

-- The connection stands where it begins before a login, behind a PRELOGIN, or logged in; or it has ended.
abbrev pub IsReached : Config → Walk → Type 0
IsReached config walk =
    (walk.stands ≡ Ok (first_in config AsksLogin))
    ⊎ (((read : Prelogin) × (walk.stands ≡ next_of (handle_prelogin (Ok read))))
    ⊎ (IsLoggedIn config walk
    ⊎ ((end : End) × (walk.stands ≡ Err end))))

module _ (config : Config) (walk : Walk) where
  -- the text is short, and the connection goes on to one of its states
  abbrev pub Goes : Handling → Type 0
  Goes handling = IsShort handling × IsReached config (walk_on walk handling)

  goes_if : (test : Bool) (first other : Handling) → Goes first → Goes other → Goes (if test then first else other)
  goes_if true first other one two = one
  goes_if false first other one two = two

  ends_goes : (end : End) → Goes (ends end)
  ends_goes end = (tt, inr (inr (inr (end, refl))))

  prelogin_goes : (read : Result Prelogin PreloginFault) → Goes (handle_prelogin read)
  prelogin_goes (Ok read) = (tt, inr (inl (read, refl)))
  prelogin_goes (Err fault) = (tt, inr (inr (inr (_, refl))))

  verdict_goes : (verdict : Result ℕ ℤ) → Goes (handle_verdict config verdict)
  verdict_goes (Ok size) = (tt, inr (inr (inl (record { size = size; kept = none_kept; at = refl; short = tt }))))
  verdict_goes (Err number) = (tt, inr (inr (inr (_, refl))))

  login_goes : (read : Result Login LoginFault) → Goes (handle_login config read)
  login_goes (Ok login) = verdict_goes (judge_login login config)
  login_goes (Err fault) = (tt, inr (inr (inr (_, refl))))

  module _ (size : ℕ) (kept : KeptStatements) (short : AreShortKept kept) where
    batch_goes : (payload : List ℕ) → length payload ≤ payload_limit → (fault : Option BatchFault) → Goes (handle_batch (keeping (connected_with config size) kept) payload fault)
    batch_goes payload limit None = (text_short payload limit, inr (inr (inl (record { size = size; kept = kept; at = refl; short = short }))))
    batch_goes payload limit (Some fault) = ends_goes _

    rpc_goes : (payload : List ℕ) → length payload ≤ payload_limit → Goes (handle_rpc (keeping (connected_with config size) kept) (rpc_of payload))
    rpc_goes payload limit = by_read (rpc_of payload) refl
      where
        by_read : (read : Result RpcCall RpcFault) → rpc_of payload ≡ read → Goes (handle_rpc (keeping (connected_with config size) kept) read)
        by_read (Ok call) is = (call_short payload call limit is, inr (inr (inl (record { size = size; kept = kept; at = refl; short = short }))))
        by_read (Err (rpc_fault.Bad at _)) is = ends_goes _
        by_read (Err rpc_fault.Memory) is = ends_goes _

    call_refused : (at : ℕ) (kind : RpcKind) → Goes (refuse_call (keeping (connected_with config size) kept) at kind)
    call_refused at kind = goes_if (is_unserved_call kind) _ _ (tt, inr (inr (inl (record { size = size; kept = kept; at = refl; short = short })))) (ends_goes _)

    -- what is kept behind a call of a driver is short, too
    driver_goes : (payload : List ℕ) → length payload ≤ payload_limit → Goes (handle_driver_call (keeping (connected_with config size) kept) (driver_call_of payload))
    driver_goes payload limit = by_read (driver_call_of payload) refl
      where
        by_read : (read : Result DriverCall RpcFault) → driver_call_of payload ≡ read → Goes (handle_driver_call (keeping (connected_with config size) kept) read)
        by_read (Ok call) is =
            let so = taken_short payload call kept limit is short in
            (so.0, inr (inr (inl (record { size = size; kept = (taken kept call).1; at = refl; short = so.1 }))))
        by_read (Err (rpc_fault.Bad at kind)) is = call_refused at kind
        by_read (Err rpc_fault.Memory) is = ends_goes _

    call_goes : (payload : List ℕ) → length payload ≤ payload_limit → Goes (handle_call (keeping (connected_with config size) kept) payload)
    call_goes payload limit = goes_if config.drivers _ _ (driver_goes payload limit) (rpc_goes payload limit)

    request_refused : (at : ℕ) (kind : TransactionKind) → Goes (refuse_request (keeping (connected_with config size) kept) at kind)
    request_refused at kind = goes_if (is_unserved_request kind) _ _ (tt, inr (inr (inl (record { size = size; kept = kept; at = refl; short = short })))) (ends_goes _)

    request_goes : (payload : List ℕ) → length payload ≤ payload_limit → Goes (handle_request (keeping (connected_with config size) kept) (managed payload))
    request_goes payload limit = by_read (managed payload) refl
      where
        by_read : (read : Result (List ℕ) TransactionFault) → managed payload ≡ read → Goes (handle_request (keeping (connected_with config size) kept) read)
        by_read (Ok text) is = (request_short payload text limit is, inr (inr (inl (record { size = size; kept = kept; at = refl; short = short }))))
        by_read (Err (transaction_fault.Bad at kind)) is = request_refused at kind
        by_read (Err transaction_fault.Memory) is = ends_goes _

    logged_goes : (message : Message) → length message.payload ≤ payload_limit → Goes (handle_logged (keeping (connected_with config size) kept) message)
    logged_goes message limit =
        goes_if (message.kind == sql_batch) _ _ (batch_goes message.payload limit (batch_fault message.payload))
        (goes_if (message.kind == rpc_request) _ _ (call_goes message.payload limit)
        (goes_if (message.kind == attention) _ _ (tt, inr (inr (inl (record { size = size; kept = kept; at = refl; short = short }))))
        (goes_if (message.kind == transaction_manager && config.drivers) _ _ (request_goes message.payload limit) (ends_goes _))))

-- the payload of a message is within its limit
abbrev pub IsLimited : Message → Type 0
IsLimited message = length message.payload ≤ payload_limit

-- by where the connection stands
abbrev pub GoesBy : {S : Type 0} → Config → Walk → (S → Handling) → Result S End → Type 0
GoesBy config walk handled (Ok state) = Goes config walk (handled state)
GoesBy config walk handled (Err end) = Unit {0}

-- a message is handled so, wherever the connection stands
pub handled_goes : (config : Config) (walk : Walk) (message : Message) → IsLimited message → IsReached config walk → GoesBy config walk (λ state. handle config state message) walk.stands
handled_goes config walk message limit (inl first) = subst (GoesBy config walk (λ state. handle config state message)) (sym first)
    (goes_if config walk (message.kind == prelogin) _ _ (prelogin_goes config walk (prelogin_of message.payload)) (goes_if config walk (message.kind == login7) _ _ (login_goes config walk (login_of message.payload)) (ends_goes config walk _)))
handled_goes config walk message limit (inr (inl (read, ready))) = subst (GoesBy config walk (λ state. handle config state message)) (sym ready)
    (goes_if config walk (message.kind == login7) _ _ (login_goes config walk (login_of message.payload)) (ends_goes config walk _))
handled_goes config walk message limit (inr (inr (inl so))) = subst (GoesBy config walk (λ state. handle config state message)) (sym so.at) (logged_goes config walk so.size so.kept so.short message limit)
handled_goes config walk message limit (inr (inr (inr (end, ended)))) = subst (GoesBy config walk (λ state. handle config state message)) (sym ended) tt

-- where it goes on from a state, the text is short
pub last_short : {S : Type 0} (config : Config) (walk : Walk) (handled : S → Handling) (stands : Result S End) (state : S) → stands ≡ Ok state → GoesBy config walk handled stands → IsShort (handled state)
last_short config walk handled stands state is goes = (subst (GoesBy config walk handled) is goes).0

-- ---- all messages

pub all_limited : (at : ℕ) (bytes : List ℕ) (messages : List Message) (rest : List ℕ) → Joins at bytes messages rest → AllByRecursion IsLimited messages
unfolding Joins
all_limited at bytes [] rest joined = tt
all_limited at bytes (message ∷ messages) rest joined = (joined.3.limit, all_limited (at + length joined.0) joined.1 messages rest joined.4)

abbrev pub AreShort : List Handling → Type 0
AreShort handled = AllByRecursion IsShort handled

short_append : (handled : List Handling) (handling : Handling) → AreShort handled → IsShort handling → AreShort (handled ++ handling ∷ [])
short_append [] handling all one = (one, tt)
short_append (first ∷ handled) handling all one = (all.0, short_append handled handling all.1 one)

short_with : (handled : List Handling) (handling : Handling) → AreShort handled → IsShort handling → AreShort (with_handling handled handling)
short_with handled (responds response next) all one = short_append handled (responds response next) all one
short_with handled (runs connected text) all one = short_append handled (runs connected text) all one
short_with handled (calls connected call) all one = short_append handled (calls connected call) all one
short_with handled (refuses response number) all one = short_append handled (refuses response number) all one
short_with handled (ends end) all one = all

module _ (config : Config) where
  -- all texts so far are short
  pub record IsShortWalk (walk : Walk) : Type 0 where
    pub short : AreShort walk.handled
    pub reached : IsReached config walk

  -- one message more
  message_short : {S : Type 0} (walk : Walk) (handled : S → Handling) (on : Result S End → Walk) → ((state : S) → on (Ok state) ≡ walk_on walk (handled state)) → ((end : End) → on (Err end) ≡ walk)
      → IsShortWalk walk → (stands : Result S End) → GoesBy config walk handled stands → IsShortWalk (on stands)
  message_short walk handled on goes stays so (Ok state) is = subst IsShortWalk (sym (goes state)) (record { short = short_with walk.handled (handled state) so.short is.0; reached = is.1 })
  message_short walk handled on goes stays so (Err end) is = subst IsShortWalk (sym (stays end)) so

  messages_short : (messages : List Message) (walk : Walk) → AllByRecursion IsLimited messages → IsShortWalk walk → IsShortWalk (fold (with_message config) walk messages)
  messages_short [] walk limits so = so
  messages_short (message ∷ messages) walk limits so = messages_short messages (with_message config walk message) limits.1
      (message_short walk (λ state. handle config state message) (λ stands. walk_by config walk stands message) (λ state. refl) (λ end. refl) so walk.stands (handled_goes config walk message limits.0 so.reached))

  pub first_reached : (entry : Entry) → config.entry ≡ entry → IsReached config (first_walk config)
  first_reached AsksLogin is = inl (ap (λ entry. Ok (first_in config entry)) is)
  first_reached Bare is = inr (inr (inl (record { size = default_size; kept = none_kept; at = ap (λ entry. Ok (first_in config entry)) is; short = tt })))

  pub walk_short : (messages : List Message) → AllByRecursion IsLimited messages → IsShortWalk (walk_of config messages)
  unfolding walk_of
  walk_short messages limits = messages_short messages (first_walk config) limits (record { short = tt; reached = first_reached config.entry refl })

-- ---- requests

-- what is run reads back
abbrev pub HandledBack : Handling → ReadText → Type 0
HandledBack (runs connected text) read_as = TextReadsBack read_as
HandledBack (calls connected call) read_as = ErrandReadsBack call.way read_as
HandledBack handling read_as = Unit {0}

ran_back : (text : Option (List ℕ)) (read_as : ReadText) → IsShortText text → ReadsFor text read_as → TextReadsBack read_as
ran_back None read_as short none = subst TextReadsBack (sym none) tt
ran_back (Some text) read_as short reads = served_text text read_as reads short

called_back : (text : Option (List ℕ)) (read_as : ReadText) → IsShortText text → ReadsFor text read_as → CallReadsBack read_as
called_back None read_as short none = subst CallReadsBack (sym none) tt
called_back (Some text) read_as short reads = served_call text read_as reads short

errand_back : (of : Way) (text : Option (List ℕ)) (read_as : ReadText) → IsShortText text → ReadsFor text read_as → ErrandReadsBack of read_as
errand_back way.RunsBatch text read_as short reads = ran_back text read_as short reads
errand_back (way.LooksUp name) text read_as short reads = called_back text read_as short reads
errand_back (way.RunsRead own) text read_as short reads = called_back text read_as short reads
errand_back way.Tells text read_as short reads = called_back text read_as short reads
errand_back way.Unmatched text read_as short reads = called_back text read_as short reads
errand_back (way.Unknown handle) text read_as short reads = called_back text read_as short reads

pub text_back : (handling : Handling) (read_as : ReadText) → IsShort handling → IsReadAs handling read_as → HandledBack handling read_as
text_back (runs connected text) read_as short reads = served_text text read_as reads short
text_back (calls connected call) read_as short reads = errand_back call.way call.text read_as short reads
text_back (responds response next) read_as short none = tt
text_back (refuses response number) read_as short none = tt
text_back (ends end) read_as short none = tt

with_back : (handling : Handling) (read_as : ReadText) (others : List Task) → HandledBack handling read_as → AllByRecursion TaskReadsBack others → AllByRecursion TaskReadsBack (with_task handling read_as others)
with_back (runs connected text) read_as others one back = (one, back)
with_back (calls connected call) read_as others one back = (one, back)
with_back (responds response next) read_as others one back = back
with_back (refuses response number) read_as others one back = back
with_back (ends end) read_as others one back = back

each_back : (requests : List Request) → AreShort (map handling_in requests) → All IsRequest requests → AllByRecursion TaskReadsBack (tasks_of requests)
each_back [] short are = tt
each_back (request ∷ requests) short are =
    with_back request.handling request.read_as (tasks_of requests) (text_back request.handling request.read_as short.0 (All-head IsRequest request requests are)) (each_back requests short.1 (All-tail IsRequest request requests are))

-- the batches and calls of requests that were handled so
pub tasks_back : (handled : List Handling) (requests : List Request) → AreShort handled → AreRequests handled requests → AllByRecursion TaskReadsBack (tasks_of requests)
tasks_back handled requests short are = each_back requests (subst AreShort (sym are.handlings) short) are.are
