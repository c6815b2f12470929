-- The messages in order, and one message more.
use Rattle.std.proofs.Common.{◌≡◌, ℕ, true, List, [], ◌∷◌, ◌++◌, fold, Result, Ok, Err, is_ok, refl, sym, ap, ◌∙◌, append-nil, append_assoc}
use Rattle.std.proofs.lemmas.List.{map-append}
use Rattle.std.proofs.lemmas.List.Elements.{All-append, All-cons, All-nil}
use Rattle.std.proofs.lemmas.List.Sums.{fold-append}
use Rattle.tds_login.specs.declared.config.Config.{Config}
use Rattle.tds_packets.specs.declared.message.Message.{Message}
use Rattle.step_model.specs.Port.{PortPast}
use Rattle.session_server.specs.declared.end.End.{End}
use Rattle.session_server.specs.declared.message.ServerState.{ServerState}
use Rattle.batch_meaning.specs.Progress.{SessionProgress}
use Rattle.batch_meaning.specs.declared.form.ReadText.{ReadText}
use Rattle.batch_meaning.specs.Doing.{Doing, over, Did}
use Rattle.session_server.specs.Response.{Response}
use Rattle.session_server.specs.Talk.{Handling, responds, runs, calls, refuses, ends, handle, Walk, with_handling, walk_on, walk_by, with_message, first_walk, walk_of, Request, IsReadAs, IsRequest, handling_in, AreRequests, talk_more, with_request, talk_of, response_bytes, Bytes}
use Rattle.session_server.specs.Conversation.{IsUnended}
use Rattle.session_server.specs.Parts.{HasResponse}
use Rattle.batch_meaning.proofs.Composed.{does_over, does_then}

module _ (config : Config) where
  -- where the connection goes on, one message more is handled
  pub walk_more : (messages : List Message) (message : Message) (state : ServerState) → (walk_of config messages).stands ≡ Ok state → walk_of config (messages ++ message ∷ []) ≡ walk_on (walk_of config messages) (handle config state message)
  unfolding walk_of
  walk_more messages message state stands =
      fold-append (with_message config) (first_walk config) messages (message ∷ [])
      ∙ ap (λ (s : Result ServerState End). walk_by config (fold (with_message config) (first_walk config) messages) s message) stands

  -- behind an end nothing changes
  stopped : (walk : Walk) (end : End) (later : List Message) → walk.stands ≡ Err end → fold (with_message config) walk later ≡ walk
  stopped walk end [] ended = refl
  stopped walk end (message ∷ later) ended =
      let still : with_message config walk message ≡ walk = ap (λ (s : Result ServerState End). walk_by config walk s message) ended in
      ap (λ (w : Walk). fold (with_message config) w later) still ∙ stopped walk end later ended

  -- messages of which none ends the connection have no part that ends it
  pub front_unended : (messages later : List Message) → IsUnended config (messages ++ later) → IsUnended config messages
  unfolding walk_of
  front_unended messages later unended = by_stands (walk_of config messages).stands refl
    where
      by_stands : (stands : Result ServerState End) → (fold (with_message config) (first_walk config) messages).stands ≡ stands → is_ok (fold (with_message config) (first_walk config) messages).stands ≡ true
      by_stands (Ok state) is = ap is_ok is
      by_stands (Err end) is =
          let whole = fold-append (with_message config) (first_walk config) messages later ∙ stopped (fold (with_message config) (first_walk config) messages) end later is in
          sym (ap (λ (w : Walk). is_ok w.stands) whole) ∙ unended

-- ---- requests

-- one request more
pub requests_more : (handled : List Handling) (requests : List Request) (handling : Handling) (read_as : ReadText) → AreRequests handled requests → IsReadAs handling read_as
    → AreRequests (handled ++ handling ∷ []) (requests ++ record { handling = handling; read_as = read_as } ∷ [])
requests_more handled requests handling read_as were are = record {
  handlings = map-append handling_in requests (record { handling = handling; read_as = read_as } ∷ []) ∙ ap (λ (l : List Handling). l ++ handling ∷ []) were.handlings;
  are = All-append IsRequest requests (record { handling = handling; read_as = read_as } ∷ []) were.are (All-cons IsRequest (record { handling = handling; read_as = read_as }) [] are (All-nil IsRequest));
}

pub talk_with_request : (requests : List Request) (request : Request) → talk_of (requests ++ request ∷ []) ≡ with_request (talk_of requests) request
unfolding talk_of
talk_with_request requests request = fold-append with_request (over []) requests (request ∷ [])

-- a message that has a response
pub handled_more : (handled : List Handling) (handling : Handling) → HasResponse handling → with_handling handled handling ≡ handled ++ handling ∷ []
handled_more handled (responds response next) has = refl
handled_more handled (runs connected text) has = refl
handled_more handled (calls connected call) has = refl
handled_more handled (refuses response number) has = refl
handled_more handled (ends end) has = absurd has

-- the talk with one response more
pub does_more : {before mid after : PortPast} {talk : Doing (List Response)} {tree : Doing Response} {p q new : SessionProgress} {responses : List Response} {response : Response}
    → Did before mid talk p (Ok responses) q → Did mid after tree q (Ok response) new → Did before after (talk_more talk tree) p (Ok (responses ++ response ∷ [])) new
does_more first second = does_then _ _ first (does_then _ _ second (does_over refl))

pub bytes_more : (spid : ℕ) (responses : List Response) (response : Response) → Bytes spid (responses ++ response ∷ []) ≡ Bytes spid responses ++ response_bytes spid response
bytes_more spid [] response = append-nil (response_bytes spid response)
bytes_more spid (first ∷ responses) response =
    ap (λ (s : List ℕ). response_bytes spid first ++ s) (bytes_more spid responses response) ∙ sym (append_assoc (response_bytes spid first) (Bytes spid responses) (response_bytes spid response))
