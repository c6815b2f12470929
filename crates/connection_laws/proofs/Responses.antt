-- What holds of each response of a connection, by its own stretch of what the connection has asked: some facts of the responses that are the same for all, and of those of
-- batches and calls what these have asked makes of them.
use Rattle.std.proofs.Common.{◌≡◌, inl, inr, ℕ, ℤ, pos, ◌==◌, ◌&&◌, Bool, true, false, if◌then◌else◌, List, [], ◌∷◌, ◌++◌, fold, map, Option, None, Some, Result, Ok, Err, refl, sym, ap, ◌∙◌, subst, append_assoc, append-nil}
use Rattle.std.specs.List.{All, AllByRecursion, flat_map}
use Rattle.std.proofs.lemmas.List.Elements.{All-head, All-tail}
use Rattle.tds_packets.specs.declared.message.Message.{Message}
use Rattle.tds_packets.specs.Packets.{default_size}
use Rattle.tds_packets.specs.Header.{sql_batch, rpc as rpc_request, attention, transaction_manager, login7, prelogin}
use Rattle.tds_login.specs.declared.config.Config.{Config}
use Rattle.tds_login.specs.declared.login.Login.{Login}
use Rattle.tds_login.specs.declared.login.LoginFault.{LoginFault}
use Rattle.tds_login.specs.declared.prelogin.Prelogin.{Prelogin}
use Rattle.tds_login.specs.declared.prelogin.PreloginFault.{PreloginFault}
use Rattle.tds_login.specs.Prelogin.{prelogin_of}
use Rattle.tds_login.specs.Login.{login_of}
use Rattle.tds_login.specs.Verdict.{has_credentials, is_known, judge_login, login_failed, login_reply, size_for, unknown_database}
use Rattle.step_model.specs.Exchange.{Exchange}
use Rattle.rpc_requests.specs.declared.call.DriverCall.{DriverCall}
use Rattle.rpc_requests.specs.declared.call.RpcCall.{RpcCall}
use Rattle.rpc_requests.specs.declared.fault.RpcFault.{RpcFault}
use Rattle.rpc_requests.specs.declared.fault.RpcFault.TheVariants as rpc_fault
use Rattle.rpc_requests.specs.declared.fault.RpcKind.{RpcKind}
use Rattle.rpc_requests.specs.declared.fault.RpcKind.TheVariants as rpc_kind
use Rattle.rpc_requests.specs.Drivers.{driver_call_of}
use Rattle.rpc_requests.specs.Reading.{rpc_of}
use Rattle.transaction_requests.specs.declared.fault.TransactionFault.{TransactionFault}
use Rattle.transaction_requests.specs.declared.fault.TransactionFault.TheVariants as transaction_fault
use Rattle.transaction_requests.specs.declared.fault.TransactionKind.{TransactionKind}
use Rattle.transaction_requests.specs.Text.{managed}
use Rattle.batch_meaning.specs.declared.form.ReadText.{ReadText}
use Rattle.batch_meaning.specs.Drivers.{KeptStatements}
use Rattle.batch_meaning.specs.Doing.{Doing, over, ◌then◌, Held}
use Rattle.batch_meaning.specs.Meaning.{rolls_back_open}
use Rattle.batch_meaning.specs.Progress.{SessionProgress, first_progress}
use Rattle.batch_meaning.specs.Tokens.{batch_done, rpc_done}
use Rattle.sound_laws.proofs.Bringing.{held_apart}
use Rattle.cause_laws.proofs.Usual.{IsUsual}
use Rattle.cause_laws.proofs.Clean.{all_both}
use Rattle.ample_laws.specs.Ample.{Ample}
use Rattle.ample_laws.proofs.Amply.{RunApart, ample_apart}
use Rattle.session_server.specs.declared.end.BatchFault.{BatchFault}
use Rattle.session_server.specs.declared.end.End.{End}
use Rattle.session_server.specs.Conversation.{Abandons, IsAsked, closed}
use Rattle.session_server.specs.Ends.{Cause, no_message, by_message, unsent, unmade}
use Rattle.session_server.specs.Response.{Response, attention_tokens, options, refusal_tokens, request_unserved, tabular, unserved}
use Rattle.session_server.specs.Talk.{AreRequests, Handling, IsReadAs, IsRequest, Request, Walk, batch_fault, calls, connected_with, ends, first_walk, handle, handle_batch, handle_call, handle_driver_call, handle_logged, handle_login, handle_prelogin, handle_request, handle_rpc, handle_verdict, handling_in, is_unserved_call, is_unserved_request, keeping, refuse_call, refuse_request, refuses, responds, response_to, runs, talk_of, unserved_by, walk_by, walk_of, walk_on, with_handling, with_message, with_request}
use Rattle.sound_laws.proofs.Looked.{all_left}
use Rattle.connection_laws.proofs.Short.{GoesBy, IsLimited, IsReached, first_reached, handled_goes}

-- a stretch more
pub flat_more : (parts : List (List Exchange)) (part : List Exchange) → flat_map (λ part. part) (parts ++ part ∷ []) ≡ flat_map (λ part. part) parts ++ part
flat_more [] part = append-nil part
flat_more (front ∷ parts) part = ap (λ (rest : List Exchange). front ++ rest) (flat_more parts part) ∙ sym (append_assoc front (flat_map (λ part. part) parts) part)

-- ---- how messages are handled

-- facts of the responses that are the same for all
pub record AllFine (Fine : Response → Type 0) : Type 0 where
  pub prelogin : Fine options
  pub grants : (size : ℕ) → Fine (tabular default_size (login_reply size))
  pub refuses : (number : ℤ) → IsUsual number → Fine (tabular default_size (refusal_tokens number))
  pub attends : (size : ℕ) → Fine (tabular size attention_tokens)
  pub unserved_call : (size number at : ℕ) → IsUsual (pos number) → Fine (tabular size (unserved number at (rpc_done true)))
  pub unserved_request : (size at : ℕ) → Fine (tabular size (unserved request_unserved at (batch_done true)))

-- the number by which what is not served of a call is refused
unserved_usual : (kind : RpcKind) → IsUsual (pos (unserved_by kind))
unserved_usual rpc_kind.Headers = refl
unserved_usual rpc_kind.Cut = refl
unserved_usual rpc_kind.Procedure = refl
unserved_usual rpc_kind.Kind = refl
unserved_usual rpc_kind.Value = refl
unserved_usual rpc_kind.Trailing = refl
unserved_usual rpc_kind.Long = refl

module _ (Fine : Response → Type 0) (all_fine : AllFine Fine) where
  -- so it is of a response that is none of a batch or a call
  abbrev pub HandlesFine : Handling → Type 0
  HandlesFine (responds response next) = Fine response
  HandlesFine (refuses response number) = Fine response
  HandlesFine handling = Unit {0}

  fine_if : (test : Bool) (first other : Handling) → HandlesFine first → HandlesFine other → HandlesFine (if test then first else other)
  fine_if true first other one two = one
  fine_if false first other one two = two

  prelogin_fine : (read : Result Prelogin PreloginFault) → HandlesFine (handle_prelogin read)
  prelogin_fine (Ok read) = all_fine.prelogin
  prelogin_fine (Err fault) = tt

  -- by the verdict on a login
  verdict_fine : (login : Login) (config : Config) → HandlesFine (handle_verdict config (judge_login login config))
  unfolding judge_login
  verdict_fine login config = by_tests (has_credentials login config) (is_known login.database)
    where
      by_tests : (a b : Bool) → HandlesFine (handle_verdict config (if a then if b then Ok (size_for login.packet_size) else Err unknown_database else Err login_failed))
      by_tests true true = all_fine.grants (size_for login.packet_size)
      by_tests true false = all_fine.refuses (pos 49011) refl
      by_tests false b = all_fine.refuses (pos 18456) refl

  login_fine : (config : Config) (read : Result Login LoginFault) → HandlesFine (handle_login config read)
  login_fine config (Ok login) = verdict_fine login config
  login_fine config (Err fault) = all_fine.refuses (pos 49010) refl

  -- on a connection that is logged in
  module _ (config : Config) (size : ℕ) (kept : KeptStatements) where
    batch_fine : (payload : List ℕ) (fault : Option BatchFault) → HandlesFine (handle_batch (keeping (connected_with config size) kept) payload fault)
    batch_fine payload None = tt
    batch_fine payload (Some fault) = tt

    rpc_fine : (read : Result RpcCall RpcFault) → HandlesFine (handle_rpc (keeping (connected_with config size) kept) read)
    rpc_fine (Ok call) = tt
    rpc_fine (Err (rpc_fault.Bad at _)) = tt
    rpc_fine (Err rpc_fault.Memory) = tt

    call_refused : (at : ℕ) (kind : RpcKind) → HandlesFine (refuse_call (keeping (connected_with config size) kept) at kind)
    call_refused at kind = fine_if (is_unserved_call kind) _ _ (all_fine.unserved_call size (unserved_by kind) at (unserved_usual kind)) tt

    driver_fine : (read : Result DriverCall RpcFault) → HandlesFine (handle_driver_call (keeping (connected_with config size) kept) read)
    driver_fine (Ok call) = tt
    driver_fine (Err (rpc_fault.Bad at kind)) = call_refused at kind
    driver_fine (Err rpc_fault.Memory) = tt

    call_fine : (payload : List ℕ) → HandlesFine (handle_call (keeping (connected_with config size) kept) payload)
    call_fine payload = fine_if config.drivers _ _ (driver_fine (driver_call_of payload)) (rpc_fine (rpc_of payload))

    request_refused : (at : ℕ) (kind : TransactionKind) → HandlesFine (refuse_request (keeping (connected_with config size) kept) at kind)
    request_refused at kind = fine_if (is_unserved_request kind) _ _ (all_fine.unserved_request size at) tt

    request_fine : (read : Result (List ℕ) TransactionFault) → HandlesFine (handle_request (keeping (connected_with config size) kept) read)
    request_fine (Ok text) = tt
    request_fine (Err (transaction_fault.Bad at kind)) = request_refused at kind
    request_fine (Err transaction_fault.Memory) = tt

    logged_fine : (message : Message) → HandlesFine (handle_logged (keeping (connected_with config size) kept) message)
    logged_fine message =
        fine_if (message.kind == sql_batch) _ _ (batch_fine message.payload (batch_fault message.payload))
        (fine_if (message.kind == rpc_request) _ _ (call_fine message.payload)
        (fine_if (message.kind == attention) _ _ (all_fine.attends size)
        (fine_if (message.kind == transaction_manager && config.drivers) _ _ (request_fine (managed message.payload)) tt)))

  -- by where the connection stands
  abbrev FineBy : {S : Type 0} → (S → Handling) → Result S End → Type 0
  FineBy handled (Ok state) = HandlesFine (handled state)
  FineBy handled (Err end) = Unit {0}

  handled_fine : (config : Config) (walk : Walk) (message : Message) → IsReached config walk → FineBy (λ state. handle config state message) walk.stands
  handled_fine config walk message (inl first) = subst (FineBy (λ state. handle config state message)) (sym first)
      (fine_if (message.kind == prelogin) _ _ (prelogin_fine (prelogin_of message.payload)) (fine_if (message.kind == login7) _ _ (login_fine config (login_of message.payload)) tt))
  handled_fine config walk message (inr (inl (read, ready))) = subst (FineBy (λ state. handle config state message)) (sym ready) (fine_if (message.kind == login7) _ _ (login_fine config (login_of message.payload)) tt)
  handled_fine config walk message (inr (inr (inl so))) = subst (FineBy (λ state. handle config state message)) (sym so.at) (logged_fine config so.size so.kept message)
  handled_fine config walk message (inr (inr (inr (end, ended)))) = subst (FineBy (λ state. handle config state message)) (sym ended) tt

  -- ---- all messages

  abbrev pub AreFine : List Handling → Type 0
  AreFine handled = AllByRecursion HandlesFine handled

  fine_with : (handled : List Handling) (handling : Handling) → AreFine handled → HandlesFine handling → AreFine (with_handling handled handling)
  fine_with handled (responds response next) all one = all_both HandlesFine handled (responds response next ∷ []) all (one, tt)
  fine_with handled (runs connected text) all one = all_both HandlesFine handled (runs connected text ∷ []) all (one, tt)
  fine_with handled (calls connected call) all one = all_both HandlesFine handled (calls connected call ∷ []) all (one, tt)
  fine_with handled (refuses response number) all one = all_both HandlesFine handled (refuses response number ∷ []) all (one, tt)
  fine_with handled (ends end) all one = all

  module _ (config : Config) where
    record IsFineWalk (walk : Walk) : Type 0 where
      pub fine : AreFine walk.handled
      pub reached : IsReached config walk

    -- one message more
    message_fine : {S : Type 0} (walk : Walk) (handled : S → Handling) (on : Result S End → Walk) → ((state : S) → on (Ok state) ≡ walk_on walk (handled state)) → ((end : End) → on (Err end) ≡ walk)
        → IsFineWalk walk → (stands : Result S End) → GoesBy config walk handled stands → FineBy handled stands → IsFineWalk (on stands)
    message_fine walk handled on goes stays so (Ok state) is other = subst IsFineWalk (sym (goes state)) (record { fine = fine_with walk.handled (handled state) so.fine other; reached = is.1 })
    message_fine walk handled on goes stays so (Err end) is other = subst IsFineWalk (sym (stays end)) so

    messages_fine : (messages : List Message) (walk : Walk) → AllByRecursion IsLimited messages → IsFineWalk walk → IsFineWalk (fold (with_message config) walk messages)
    messages_fine [] walk limits so = so
    messages_fine (message ∷ messages) walk limits so = messages_fine messages (with_message config walk message) limits.1
        (message_fine walk (λ state. handle config state message) (λ stands. walk_by config walk stands message) (λ state. refl) (λ end. refl) so walk.stands (handled_goes config walk message limits.0 so.reached) (handled_fine config walk message so.reached))

    pub walk_fine : (messages : List Message) → AllByRecursion IsLimited messages → AreFine (walk_of config messages).handled
    unfolding walk_of
    walk_fine messages limits = (messages_fine messages (first_walk config) limits (record { fine = tt; reached = first_reached config config.entry refl })).fine

-- ---- responses

-- these responses by these parts
abbrev pub AreGood : (List Exchange → Response → Type 0) → List (List Exchange) → List Response → Type 0
AreGood Good [] [] = Unit {0}
AreGood Good (part ∷ parts) (response ∷ responses) = Good part response × AreGood Good parts responses
AreGood Good parts responses = ⊥

-- a run of a tree, of which a first part and the rest are runs: what was done, or what was done amply
pub record Runs (Run : (A : Type 0) → Doing A → SessionProgress → List Exchange → A → SessionProgress → Type 0) : Type 1 where
  pub is_over : (A : Type 0) (a came : A) (p new : SessionProgress) (exchanges : List Exchange) → Run A (over a) p exchanges came new → (exchanges ≡ []) × (came ≡ a) × (new ≡ p)
  pub apart : (A B : Type 0) (tree : Doing A) (go : A → Doing B) (p new : SessionProgress) (exchanges : List Exchange) (b : B)
      → Run B (tree then go) p exchanges b new → RunApart exchanges (λ front came mid. Run A tree p front came mid) (λ came mid back. Run B (go came) mid back b new)

abbrev pub HeldRun : (A : Type 0) → Doing A → SessionProgress → List Exchange → A → SessionProgress → Type 0
HeldRun A tree p exchanges a new = Held tree p exchanges a new

abbrev pub AmpleRun : (A : Type 0) → Doing A → SessionProgress → List Exchange → A → SessionProgress → Type 0
AmpleRun A tree p exchanges a new = Ample tree p exchanges a new

pub held_runs : Runs HeldRun
unfolding Held
held_runs = record {
  is_over = λ A a came p new exchanges held. held;
  apart = λ A B tree go p new exchanges b held.
      let on = held_apart tree go p new exchanges b held in record { front = on.front; back = on.back; came = on.came; mid = on.mid; parts = on.parts; first = on.held; rest = on.rest };
}

pub ample_runs : Runs AmpleRun
unfolding Ample
ample_runs = record {
  is_over = λ A a came p new exchanges ample. ample;
  apart = λ A B tree go p new exchanges b ample. ample_apart tree go p new exchanges b ample;
}

module _ (Run : (A : Type 0) → Doing A → SessionProgress → List Exchange → A → SessionProgress → Type 0) (runs_are : Runs Run) (Good : List Exchange → Response → Type 0) where
  -- the responses of a talk, each by a stretch of what it has asked
  pub record IsParted (exchanges : List Exchange) (responses : List Response) : Type 0 where
    pub parts : List (List Exchange)
    pub whole : exchanges ≡ flat_map (λ part. part) parts
    pub good : AreGood Good parts responses

  abbrev pub TalksWell : Doing (List Response) → Type 0
  TalksWell talk = (p new : SessionProgress) (exchanges : List Exchange) (responses : List Response) → Run (List Response) talk p exchanges responses new → IsParted exchanges responses

  -- one response more
  good_more : (parts : List (List Exchange)) (responses : List Response) (part : List Exchange) (response : Response) → AreGood Good parts responses → Good part response → AreGood Good (parts ++ part ∷ []) (responses ++ response ∷ [])
  good_more [] [] part response all one = (one, tt)
  good_more [] (first ∷ responses) part response all one = absurd all
  good_more (front ∷ parts) [] part response all one = absurd all
  good_more (front ∷ parts) (first ∷ responses) part response all one = (all.0, good_more parts responses part response all.1 one)

  module _ (Handles : Handling → Type 0) (good : (handling : Handling) (read_as : ReadText) (p new : SessionProgress) (exchanges : List Exchange) (response : Response) → Handles handling → IsReadAs handling read_as
      → Run Response (response_to handling read_as) p exchanges response new → Good exchanges response) where
    with_good : (talk : Doing (List Response)) (request : Request) → TalksWell talk → Handles request.handling → IsRequest request → TalksWell (with_request talk request)
    with_good talk request talks fine is p new exchanges responses run =
        let tree = response_to request.handling request.read_as in
        let one = runs_are.apart (List Response) (List Response) talk (λ earlier. tree then λ response. over (earlier ++ response ∷ [])) p new exchanges responses run in
        let two = runs_are.apart Response (List Response) tree (λ response. over (one.came ++ response ∷ [])) one.mid new one.back responses one.rest in
        let earlier = talks p one.mid one.front one.came one.first in
        let end = runs_are.is_over (List Response) (one.came ++ two.came ∷ []) responses two.mid new two.back two.rest in
        let back : one.back ≡ two.front = two.parts ∙ ap (λ (rest : List Exchange). two.front ++ rest) end.0 ∙ append-nil two.front in
        record {
          parts = earlier.parts ++ two.front ∷ [];
          whole = one.parts ∙ ap (λ (front : List Exchange). front ++ one.back) earlier.whole ∙ ap (λ (rest : List Exchange). flat_map (λ part. part) earlier.parts ++ rest) back ∙ sym (flat_more earlier.parts two.front);
          good = subst (AreGood Good (earlier.parts ++ two.front ∷ [])) (sym end.1) (good_more earlier.parts one.came two.front two.came earlier.good
              (good request.handling request.read_as one.mid two.mid two.front two.came fine is two.first));
        }

    all_good : (requests : List Request) (talk : Doing (List Response)) → TalksWell talk → AllByRecursion Handles (map handling_in requests) → All IsRequest requests → TalksWell (fold with_request talk requests)
    all_good [] talk talks fine are = talks
    all_good (request ∷ requests) talk talks fine are = all_good requests (with_request talk request) (with_good talk request talks fine.0 (All-head IsRequest request requests are)) fine.1 (All-tail IsRequest request requests are)

    pub talk_good : (handled : List Handling) (requests : List Request) → AllByRecursion Handles handled → AreRequests handled requests → TalksWell (talk_of requests)
    unfolding talk_of
    talk_good handled requests fine are = all_good requests (over []) nothing (subst (AllByRecursion Handles) (sym are.handlings) fine) are.are
      where
        nothing : TalksWell (over [])
        nothing p new exchanges responses run =
            let end = runs_are.is_over (List Response) [] responses p new exchanges run in
            record { parts = []; whole = end.0; good = subst (AreGood Good []) (sym end.1) tt }

-- ---- connections

-- these are a front of the exchanges, one behind another
pub record HasGood (Good : List Exchange → Response → Type 0) (exchanges : List Exchange) (responses : List Response) : Type 0 where
  pub parts : List (List Exchange)
  pub behind : List Exchange
  pub whole : exchanges ≡ flat_map (λ part. part) parts ++ behind
  pub good : AreGood Good parts responses

module _ (Fine : Response → Type 0) (all_fine : AllFine Fine) (Good : List Exchange → Response → Type 0)
    (config : Config) (messages : List Message) (requests : List Request) (exchanges : List Exchange) (responses : List Response) (limits : AllByRecursion IsLimited messages) where
  abbrev pub MakesGood : ((A : Type 0) → Doing A → SessionProgress → List Exchange → A → SessionProgress → Type 0) → Type 0
  MakesGood Run = (handling : Handling) (read_as : ReadText) (p new : SessionProgress) (part : List Exchange) (response : Response) → HandlesFine Fine all_fine handling → IsReadAs handling read_as
      → Run Response (response_to handling read_as) p part response new → Good part response

  pub closed_good : (Run : (A : Type 0) → Doing A → SessionProgress → List Exchange → A → SessionProgress → Type 0) → Runs Run → MakesGood Run → (new : SessionProgress) → AreRequests (walk_of config messages).handled requests
      → Run (List Response) (closed (talk_of requests)) first_progress exchanges responses new → HasGood Good exchanges responses
  closed_good Run runs_are good new are run =
      let one = runs_are.apart (List Response) (List Response) (talk_of requests) (λ came. rolls_back_open then λ _. over came) first_progress new exchanges responses run in
      let two = runs_are.apart (Unit {0}) (List Response) rolls_back_open (λ _. over one.came) one.mid new one.back responses one.rest in
      let end = runs_are.is_over (List Response) one.came responses two.mid new two.back two.rest in
      let talked = talk_good Run runs_are Good (HandlesFine Fine all_fine) good (walk_of config messages).handled requests (walk_fine Fine all_fine config messages limits) are first_progress one.mid one.front one.came one.first in
      record {
        parts = talked.parts;
        behind = one.back;
        whole = one.parts ∙ ap (λ (front : List Exchange). front ++ one.back) talked.whole;
        good = subst (AreGood Good talked.parts) (sym end.1) talked.good;
      }

  abandoned_good : MakesGood HeldRun → Abandons config messages requests exchanges responses → HasGood Good exchanges responses
  abandoned_good good a =
      let each : AllByRecursion IsLimited (a.front ++ a.last ∷ []) = subst (AllByRecursion IsLimited) a.whole limits in
      let talked = talk_good HeldRun held_runs Good (HandlesFine Fine all_fine) good (walk_of config a.front).handled requests (walk_fine Fine all_fine config a.front (all_left IsLimited a.front (a.last ∷ []) each)) a.are first_progress a.talked a.first responses a.talk in
      record {
        parts = talked.parts;
        behind = a.second ++ a.third;
        whole = a.parts ∙ append_assoc a.first a.second a.third ∙ ap (λ (front : List Exchange). front ++ (a.second ++ a.third)) talked.whole;
        good = talked.good;
      }

  pub asked_good : MakesGood HeldRun → (cause : Cause) → IsAsked config messages requests exchanges responses cause → HasGood Good exchanges responses
  asked_good good unmade asked = abandoned_good good asked
  asked_good good (no_message fault) asked = closed_good HeldRun held_runs good asked.1 asked.0 asked.2
  asked_good good (by_message end) asked = closed_good HeldRun held_runs good asked.1 asked.0 asked.2
  asked_good good (unsent fault) asked = closed_good HeldRun held_runs good asked.1 asked.0 asked.2
