-- What a connection has done between two messages, and what it has done at its end.
use Rattle.std.proofs.Common.{◌≡◌, ℕ, ◌-◌, List, [], ◌∷◌, ◌++◌, length, Option, Ok, Err, is_ok, refl, sym, ap, subst, ◌∙◌, arith, length-append, zero-add, append-nil, inl, inr}
use Rattle.std.specs.Io.KnownBytes.{Appends}
use Rattle.std.proofs.lemmas.List.Elements.{All-nil}
use Rattle.std.proofs.KnownBytes.{Appends-nil, Appends-trans}
use Rattle.outside_io.specs.Bytes.{Takes}
use Rattle.tds_login.specs.declared.config.Config.{Config}
use Rattle.tds_packets.proofs.Taken.{Takes-nil, Takes-trans}
use Rattle.tds_packets.proofs.Joined.{Joins-append, Joins-message}
use Rattle.tds_packets.proofs.Ends.{Stops-nil, StopsBy-partial}
use Rattle.tds_packets.specs.declared.message.Message.{Message}
use Rattle.tds_packets.specs.declared.fault.MessageFault.{MessageFault}
use Rattle.tds_packets.specs.declared.fault.MessageFault.TheVariants as reading
use Rattle.tds_packets.specs.Stream.{IsMessage, IsPartial, Joins, Splits}
use Rattle.tds_packets.specs.Reading.{StopsBy}
use Rattle.step_model.specs.Port.{PortPast, GoesOn}
use Rattle.step_model.proofs.Pasts.{goes_further}
use Rattle.session_server.specs.declared.end.End.{End}
use Rattle.session_server.specs.declared.end.End.TheVariants.{LoginRefused}
use Rattle.session_server.specs.declared.end.End.TheVariants as why
use Rattle.session_server.specs.declared.message.ServerState.{ServerState}
use Rattle.batch_meaning.specs.Progress.{SessionProgress, first_progress}
use Rattle.batch_meaning.specs.Doing.{Doing, Did}
use Rattle.session_server.specs.Conversation.{IsUnended, EndsAtLast, IsAnswered, IsUnmade, Emptied}
use Rattle.session_server.specs.Ends.{Cause, no_message, by_message, unsent, unmade, end_of}
use Rattle.session_server.specs.Parts.{HasResponse, MayWant, Answers, EndsBy, Turned, EndsTurn, Ended, Spoke}
use Rattle.session_server.specs.Response.{Response}
use Rattle.session_server.specs.Talk.{Handling, responds, runs, calls, refuses, ends, next_of, first_state, handle, Walk, with_handling, walk_on, walk_of, Request, IsReadAs, IsRequest, AreRequests, talk_of, response_bytes, Bytes}
use Rattle.batch_meaning.specs.declared.form.ReadText.{ReadText}
use Rattle.batch_meaning.proofs.Composed.{does_over}
use Rattle.session_server.proofs.Walks.{walk_more, requests_more, talk_with_request, handled_more, does_more, bytes_more}

-- whole messages were taken, each has a response, and the connection stands in this state
pub record Served {S : Type 0} (config : Config) (left given : S → Option (List ℕ)) (first now : S) (before mid : PortPast) (old new : Option (List ℕ)) (spid count : ℕ) (state : ServerState) (progress : SessionProgress) : Type 0 where
  pub bytes : List ℕ
  pub messages : List Message
  pub requests : List Request
  pub responses : List Response
  pub took : Takes left given first now bytes
  pub joined : Joins 0 bytes messages []
  pub are : AreRequests (walk_of config messages).handled requests
  pub does : Did before mid (talk_of requests) first_progress (Ok responses) progress
  pub written : Appends old new (Bytes spid responses)
  pub stands : (walk_of config messages).stands ≡ Ok state
  pub counted : count ≡ length bytes

pub nothing_served : {S : Type 0} (config : Config) (left given : S → Option (List ℕ)) (source : S) (past : PortPast) (sink : Option (List ℕ)) (spid : ℕ) {progress : SessionProgress} → progress ≡ first_progress → Served config left given source source past past sink sink spid 0 (first_state config) progress
unfolding Joins walk_of talk_of
nothing_served config left given source past sink spid same = record {
  bytes = [];
  messages = [];
  requests = [];
  responses = [];
  took = Takes-nil left given source;
  joined = refl;
  are = record { handlings = refl; are = All-nil IsRequest };
  does = does_over same;
  written = Appends-nil sink;
  stands = refl;
  counted = refl;
}

-- nothing was done behind it
does_still : {before mid after : PortPast} {A : Type 0} {tree : Doing A} {p q new : SessionProgress} {a : A} → Did before mid tree p (Ok a) q → GoesOn mid after [] → new ≡ q → Did before after tree p (Ok a) new
does_still {before = before} {mid = mid} {after = after} {tree = tree} {p = p} {a = a} first still same =
    subst (λ (x : SessionProgress). Did before after tree p (Ok a) x) (sym same) (record {
      exchanges = first.exchanges;
      past = subst (GoesOn before after) (append-nil first.exchanges) (goes_further before mid after first.exchanges [] first.past still);
      came = first.came;
    })

module _ {S : Type 0} {config : Config} {left given : S → Option (List ℕ)} {first now : S} {before mid : PortPast} {old sink : Option (List ℕ)} {spid count : ℕ} {state : ServerState} {progress : SessionProgress} (served : Served config left given first now before mid old sink spid count state progress) where
  all_taken : {next : S} (bytes : List ℕ) → Takes left given now next bytes → Takes left given first next (served.bytes ++ bytes)
  all_taken {next = next} bytes took = Takes-trans left given first now next served.bytes bytes served.took took

  joined_more : (bytes : List ℕ) (message : Message) → IsMessage count bytes message → Joins 0 (served.bytes ++ bytes) (served.messages ++ message ∷ []) []
  joined_more bytes message is = Joins-message 0 served.bytes bytes served.messages message served.joined (subst (λ (at : ℕ). IsMessage at bytes message) (served.counted ∙ sym (zero-add (length served.bytes))) is)

  pub unended : IsUnended config served.messages
  unended = ap is_ok served.stands

  -- the walk with one message more
  walk_with : (message : Message) → walk_of config (served.messages ++ message ∷ []) ≡ walk_on (walk_of config served.messages) (handle config state message)
  walk_with message = walk_more config served.messages message state served.stands

  -- the requests with one more
  abbrev requests_with : ReadText → Message → List Request
  requests_with read_as message = served.requests ++ record { handling = handle config state message; read_as = read_as } ∷ []

  are_with : (message : Message) (read_as : ReadText) → HasResponse (handle config state message) → IsReadAs (handle config state message) read_as
      → AreRequests (walk_of config (served.messages ++ message ∷ [])).handled (requests_with read_as message)
  are_with message read_as has are =
      subst (λ (l : List Handling). AreRequests l (requests_with read_as message))
      (sym (ap (λ (w : Walk). w.handled) (walk_with message) ∙ handled_more (walk_of config served.messages).handled (handle config state message) has))
      (requests_more (walk_of config served.messages).handled served.requests (handle config state message) read_as served.are are)

  -- what was asked for a message that has a response
  talk_with : {after : PortPast} (message : Message) {more : SessionProgress} {response : Response} → (answers : Answers mid after (handle config state message) progress response more)
      → Did before after (talk_of (requests_with answers.read_as message)) first_progress (Ok (served.responses ++ response ∷ [])) more
  talk_with message answers =
      rw (talk_with_request served.requests (record { handling = handle config state message; read_as = answers.read_as })) (does_more served.does answers.does)

  -- one message more, behind which the connection goes on
  pub served_more : {next : S} {after : PortPast} {new : Option (List ℕ)} {more : SessionProgress} {total : ℕ} {to : ServerState} → Turned config spid count state (Takes left given now next) mid after sink new progress more total to → Served config left given first next before after old new spid total to more
  served_more {new = new} turned =
      record {
        bytes = served.bytes ++ turned.bytes;
        messages = served.messages ++ turned.message ∷ [];
        requests = requests_with turned.answers.read_as turned.message;
        responses = served.responses ++ turned.response ∷ [];
        took = all_taken turned.bytes turned.taken;
        joined = joined_more turned.bytes turned.message turned.is;
        are = are_with turned.message turned.answers.read_as turned.answers.has turned.answers.are;
        does = talk_with turned.message turned.answers;
        written = subst (Appends old new) (sym (bytes_more spid served.responses turned.response)) (Appends-trans old sink new (Bytes spid served.responses) (response_bytes spid turned.response) served.written turned.written);
        stands = ap (λ w. w.stands) (walk_with turned.message) ∙ turned.goes_on;
        counted = omega (arith, turned.counted, served.counted, length-append served.bytes turned.bytes);
      }

  -- ---- the end

  place_of : (bytes : List ℕ) → length (served.bytes ++ bytes) - length bytes ≡ count
  place_of bytes = omega (arith, served.counted, length-append served.bytes bytes)

  -- no whole message begins at the bytes
  split_partial : (bytes : List ℕ) (fault : MessageFault) → StopsBy count bytes fault → Splits (served.bytes ++ bytes) served.messages bytes
  split_partial bytes fault stops = record {
    joined = Joins-append 0 served.bytes bytes served.messages [] served.joined;
    partial = subst (λ (at : ℕ). IsPartial at bytes) (sym (place_of bytes)) (StopsBy-partial count bytes fault stops);
  }

  -- all messages are whole
  split_whole : (bytes : List ℕ) (message : Message) → IsMessage count bytes message → Splits (served.bytes ++ bytes) (served.messages ++ message ∷ []) []
  split_whole bytes message is = record {
    joined = joined_more bytes message is;
    partial = (reading.Closed, Stops-nil (length (served.bytes ++ bytes) - 0));
  }

  -- a message more ends the connection
  ends_at : (message : Message) (end : End) → next_of (handle config state message) ≡ Err end → EndsAtLast config (served.messages ++ message ∷ []) end
  ends_at message end ended = record {
    front = served.messages;
    last = message;
    whole = refl;
    unended = unended;
    ended = ap (λ w. w.stands) (walk_with message) ∙ ended;
  }

  -- a message that has a response
  answered : (message : Message) (handling : Handling) → handle config state message ≡ handling → HasResponse handling → IsAnswered config (served.messages ++ message ∷ [])
  answered message (responds response to) is has = inl (ap (λ w. is_ok w.stands) (walk_with message) ∙ ap (λ h. is_ok (next_of h)) is)
  answered message (runs connected text) is has = inl (ap (λ w. is_ok w.stands) (walk_with message) ∙ ap (λ h. is_ok (next_of h)) is)
  answered message (calls connected call) is has = inl (ap (λ w. is_ok w.stands) (walk_with message) ∙ ap (λ h. is_ok (next_of h)) is)
  answered message (refuses response number) is has = inr (number, ends_at message (LoginRefused number) (ap next_of is))
  answered message (ends end) is has = absurd has

  -- one for which memory may be wanting
  wanted : (message : Message) (handling : Handling) → handle config state message ≡ handling → MayWant handling → IsUnmade config (served.messages ++ message ∷ [])
  wanted message (responds response to) is may = inl (answered message (responds response to) is tt)
  wanted message (runs connected text) is may = inl (answered message (runs connected text) is tt)
  wanted message (calls connected call) is may = inl (answered message (calls connected call) is tt)
  wanted message (refuses response number) is may = inl (answered message (refuses response number) is tt)
  wanted message (ends (why.BadRpc at kind)) is may = inr (at, kind, ends_at message (why.BadRpc at kind) (ap next_of is))
  wanted message (ends why.Closed) is may = absurd may
  wanted message (ends (why.Cut at)) is may = absurd may
  wanted message (ends (why.BadHeader at)) is may = absurd may
  wanted message (ends (why.TooLong at)) is may = absurd may
  wanted message (ends (why.OutOfPlace at kind)) is may = absurd may
  wanted message (ends (why.BadPrelogin fault)) is may = absurd may
  wanted message (ends (why.LoginRefused number)) is may = absurd may
  wanted message (ends (why.BadBatch fault)) is may = absurd may
  wanted message (ends (why.BadTransaction at kind)) is may = absurd may
  wanted message (ends why.Spent) is may = absurd may
  wanted message (ends why.ReadFault) is may = absurd may
  wanted message (ends why.WriteFault) is may = absurd may
  wanted message (ends why.Memory) is may = absurd may

  written_more : (new : Option (List ℕ)) (response : Response) → Appends sink new (response_bytes spid response) → Appends old new (Bytes spid (served.responses ++ response ∷ []))
  written_more new response written = subst (Appends old new) (sym (bytes_more spid served.responses response)) (Appends-trans old sink new (Bytes spid served.responses) (response_bytes spid response) served.written written)

  written_still : (new : Option (List ℕ)) → Appends sink new [] → Appends old new (Bytes spid served.responses)
  written_still new written = subst (Appends old new) (append-nil (Bytes spid served.responses)) (Appends-trans old sink new (Bytes spid served.responses) [] served.written written)

  -- by a message that ends the connection
  ended_by : {next : S} {after : PortPast} (new : Option (List ℕ)) {more : SessionProgress} (bytes : List ℕ) → Takes left given now next bytes → (message : Message) → IsMessage count bytes message → (made end : End) → EndsBy spid mid after sink new progress more (handle config state message) made → end ≡ made → Emptied (left next) (by_message made)
      → Spoke config spid (Takes left given first next) (left next) before after old new more end
  ended_by new bytes took message is made end (inl how) same emptied = record {
    heard = record {
      taken = served.bytes ++ bytes;
      messages = served.messages ++ message ∷ [];
      rest = [];
      responses = served.responses;
      cause = by_message made;
      from_source = all_taken bytes took;
      split = split_whole bytes message is;
      written = written_still new how.3;
      caused = (ends_at message made (ap next_of how.0), refl);
      end_is = same;
      emptied = emptied;
    };
    requests = served.requests;
    asked = (
      subst (λ (l : List Handling). AreRequests l served.requests) (sym (ap (λ (w : Walk). w.handled) (walk_with message) ∙ ap (with_handling (walk_of config served.messages).handled) how.0)) served.are,
      does_still served.does how.1 how.2,
    );
  }
  ended_by new bytes took message is made end (inr how) same emptied = record {
    heard = record {
      taken = served.bytes ++ bytes;
      messages = served.messages ++ message ∷ [];
      rest = [];
      responses = served.responses ++ how.0 ∷ [];
      cause = by_message made;
      from_source = all_taken bytes took;
      split = split_whole bytes message is;
      written = written_more new how.0 how.3;
      caused = (ends_at message made how.2, refl);
      end_is = same;
      emptied = emptied;
    };
    requests = requests_with how.1.read_as message;
    asked = (are_with message how.1.read_as how.1.has how.1.are, talk_with message how.1);
  }

  spoke_by : {next : S} {after : PortPast} (new : Option (List ℕ)) {more : SessionProgress} (bytes : List ℕ) → Takes left given now next bytes → (cause : Cause) (end : End) → EndsTurn config spid count state mid after sink new progress more bytes cause → end ≡ end_of cause → Emptied (left next) cause
      → Spoke config spid (Takes left given first next) (left next) before after old new more end
  spoke_by new bytes took (no_message fault) end how same emptied = record {
    heard = record {
      taken = served.bytes ++ bytes;
      messages = served.messages;
      rest = bytes;
      responses = served.responses;
      cause = no_message fault;
      from_source = all_taken bytes took;
      split = split_partial bytes fault how.0;
      written = written_still new how.3;
      caused = (unended, subst (λ (at : ℕ). StopsBy at bytes fault) (sym (place_of bytes)) how.0);
      end_is = same;
      emptied = emptied;
    };
    requests = served.requests;
    asked = (served.are, does_still served.does how.1 how.2);
  }
  spoke_by new bytes took (by_message made) end how same emptied = ended_by new bytes took how.0 how.1 made end how.2 same emptied
  spoke_by new bytes took (unsent fault) end how same emptied = record {
    heard = record {
      taken = served.bytes ++ bytes;
      messages = served.messages ++ how.0 ∷ [];
      rest = [];
      responses = served.responses ++ how.2 ∷ [];
      cause = unsent fault;
      from_source = all_taken bytes took;
      split = split_whole bytes how.0 how.1;
      written = record { front = served.responses; last = how.2; mid = sink; whole = refl; written = served.written; part = how.4 };
      caused = (answered how.0 (handle config state how.0) refl how.3.has, refl);
      end_is = same;
      emptied = emptied;
    };
    requests = requests_with how.3.read_as how.0;
    asked = (are_with how.0 how.3.read_as how.3.has how.3.are, talk_with how.0 how.3);
  }
  spoke_by {after = after} new bytes took unmade end how same emptied = record {
    heard = record {
      taken = served.bytes ++ bytes;
      messages = served.messages ++ how.0 ∷ [];
      rest = [];
      responses = served.responses;
      cause = unmade;
      from_source = all_taken bytes took;
      split = split_whole bytes how.0 how.1;
      written = written_still new how.4;
      caused = (wanted how.0 (handle config state how.0) refl how.2, refl);
      end_is = same;
      emptied = emptied;
    };
    requests = served.requests;
    asked = record {
      front = served.messages;
      last = how.0;
      state = state;
      whole = refl;
      stands = served.stands;
      are = served.are;
      first = served.does.exchanges;
      second = how.3.exchanges;
      talked = progress;
      past = goes_further before mid after served.does.exchanges how.3.exchanges served.does.past how.3.past;
      talk = served.does.came;
      left = how.3.left;
    };
  }

  -- the connection's end
  pub spoke : {next : S} {after : PortPast} {new : Option (List ℕ)} {more : SessionProgress} {end : End} → Ended config spid count state (Takes left given now next) (left next) mid after sink new progress more end → Spoke config spid (Takes left given first next) (left next) before after old new more end
  spoke {new = new} {end = end} ended = spoke_by new ended.bytes ended.taken ended.cause end ended.how ended.end_is ended.emptied
