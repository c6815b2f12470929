-- The responses of a connection in turn: each is what its request comes to by its own stretch of the exchanges.
use Rattle.std.proofs.Common.{◌≡◌, List, [], ◌∷◌, ◌++◌, fold, map, refl, sym, ap, ◌∙◌, subst, append-nil, append_assoc}
use Rattle.std.specs.List.{All, AllByRecursion, flat_map}
use Rattle.tds_packets.specs.declared.message.Message.{Message}
use Rattle.tds_login.specs.declared.config.Config.{Config}
use Rattle.step_model.specs.Exchange.{Exchange}
use Rattle.batch_meaning.specs.Doing.{Doing, over, ◌then◌, Held}
use Rattle.batch_meaning.specs.Meaning.{rolls_back_open}
use Rattle.batch_meaning.specs.Progress.{SessionProgress, first_progress}
use Rattle.sound_laws.proofs.Bringing.{held_apart}
use Rattle.sound_laws.proofs.Looked.{all_left}
use Rattle.session_server.specs.Conversation.{Abandons, IsAsked, closed}
use Rattle.session_server.specs.Ends.{Cause, no_message, by_message, unsent, unmade}
use Rattle.session_server.specs.Response.{Response}
use Rattle.session_server.specs.Talk.{AreRequests, IsRequest, Request, handling_in, response_to, talk_of, walk_of, with_request}
use Rattle.connection_laws.specs.Causes.{Answers, InTurn}
use Rattle.connection_laws.proofs.Responses.{AllFine, HandlesFine, walk_fine}
use Rattle.connection_laws.proofs.Short.{IsLimited}
use Rattle.connection_laws.proofs.Talks.{more_apart}

-- ---- talks

-- what was asked for a talk, and behind it the responses to more requests in turn
pub record Turned (talk : Doing (List Response)) (requests : List Request) (p new : SessionProgress) (exchanges : List Exchange) (responses : List Response) : Type 0 where
  pub front : List Exchange
  pub earlier : List Response
  pub mid : SessionProgress
  pub talked : Held talk p front earlier mid
  pub parts : List (List Exchange)
  pub later : List Response
  pub whole : exchanges ≡ front ++ flat_map (λ part. part) parts
  pub all : responses ≡ earlier ++ later
  pub in_turn : InTurn Answers requests mid parts later new

turned : (requests : List Request) (talk : Doing (List Response)) (p new : SessionProgress) (exchanges : List Exchange) (responses : List Response) → Held (fold with_request talk requests) p exchanges responses new → Turned talk requests p new exchanges responses
turned [] talk p new exchanges responses held = record {
  front = exchanges;
  earlier = responses;
  mid = new;
  talked = held;
  parts = [];
  later = [];
  whole = sym (append-nil exchanges);
  all = sym (append-nil responses);
  in_turn = refl;
}
turned (request ∷ others) talk p new exchanges responses held =
    let on = turned others (with_request talk request) p new exchanges responses held in
    let more = more_apart talk (response_to request.handling request.read_as) p on.mid on.front on.earlier on.talked in
    let rest : List Exchange = flat_map (λ part. part) on.parts in
    record {
      front = more.front;
      earlier = more.earlier;
      mid = more.mid;
      talked = more.talked;
      parts = more.back ∷ on.parts;
      later = more.response ∷ on.later;
      whole = on.whole ∙ ap (λ (l : List Exchange). l ++ rest) more.parts ∙ append_assoc more.front more.back rest;
      all = on.all ∙ ap (λ (l : List Response). l ++ on.later) more.one ∙ append_assoc more.earlier (more.response ∷ []) on.later;
      in_turn = (on.mid, more.responded, on.in_turn);
    }

-- the whole of a talk
pub record TalkTurns (requests : List Request) (new : SessionProgress) (exchanges : List Exchange) (responses : List Response) : Type 0 where
  pub parts : List (List Exchange)
  pub whole : exchanges ≡ flat_map (λ part. part) parts
  pub in_turn : InTurn Answers requests first_progress parts responses new

talk_turns : (requests : List Request) (new : SessionProgress) (exchanges : List Exchange) (responses : List Response) → Held (talk_of requests) first_progress exchanges responses new → TalkTurns requests new exchanges responses
unfolding talk_of Held
talk_turns requests new exchanges responses held =
    let on = turned requests (over []) first_progress new exchanges responses held in
    let all : responses ≡ on.later = on.all ∙ ap (λ (l : List Response). l ++ on.later) on.talked.1 in
    record {
      parts = on.parts;
      whole = on.whole ∙ ap (λ (l : List Exchange). l ++ flat_map (λ part. part) on.parts) on.talked.0;
      in_turn = subst (λ (l : List Response). InTurn Answers requests first_progress on.parts l new) (sym all)
          (subst (λ (q : SessionProgress). InTurn Answers requests q on.parts on.later new) on.talked.2 on.in_turn);
    }

-- ---- connections

module _ (Fine : Response → Type 0) (all_fine : AllFine Fine) (config : Config) (messages : List Message) (requests : List Request) (exchanges : List Exchange) (responses : List Response) (limits : AllByRecursion IsLimited messages) where
  -- these are a front of the exchanges, one behind another; and how the requests are handled
  pub record Turns : Type 0 where
    pub parts : List (List Exchange)
    pub behind : List Exchange
    pub talked : SessionProgress
    pub whole : exchanges ≡ flat_map (λ part. part) parts ++ behind
    pub in_turn : InTurn Answers requests first_progress parts responses talked
    pub fine : AllByRecursion (HandlesFine Fine all_fine) (map handling_in requests)
    pub are : All IsRequest requests

  fine_by : (front : List Message) → AllByRecursion IsLimited front → AreRequests (walk_of config front).handled requests → AllByRecursion (HandlesFine Fine all_fine) (map handling_in requests)
  fine_by front each are = subst (AllByRecursion (HandlesFine Fine all_fine)) (sym are.handlings) (walk_fine Fine all_fine config front each)

  closed_turns : (new : SessionProgress) → AreRequests (walk_of config messages).handled requests → Held (closed (talk_of requests)) first_progress exchanges responses new → Turns
  unfolding Held
  closed_turns new are held =
      let one = held_apart (talk_of requests) (λ came. rolls_back_open then λ _. over came) first_progress new exchanges responses held in
      let two = held_apart rolls_back_open (λ _. over one.came) one.mid new one.back responses one.rest in
      let turns = talk_turns requests one.mid one.front one.came one.held in
      record {
        parts = turns.parts;
        behind = one.back;
        talked = one.mid;
        whole = one.parts ∙ ap (λ (l : List Exchange). l ++ one.back) turns.whole;
        in_turn = subst (λ (l : List Response). InTurn Answers requests first_progress turns.parts l one.mid) (sym two.rest.1) turns.in_turn;
        fine = fine_by messages limits are;
        are = are.are;
      }

  abandoned_turns : Abandons config messages requests exchanges responses → Turns
  abandoned_turns a =
      let each : AllByRecursion IsLimited (a.front ++ a.last ∷ []) = subst (AllByRecursion IsLimited) a.whole limits in
      let turns = talk_turns requests a.talked a.first responses a.talk in
      record {
        parts = turns.parts;
        behind = a.second ++ a.third;
        talked = a.talked;
        whole = a.parts ∙ append_assoc a.first a.second a.third ∙ ap (λ (l : List Exchange). l ++ (a.second ++ a.third)) turns.whole;
        in_turn = turns.in_turn;
        fine = fine_by a.front (all_left IsLimited a.front (a.last ∷ []) each) a.are;
        are = a.are.are;
      }

  pub asked_turns : (cause : Cause) → IsAsked config messages requests exchanges responses cause → Turns
  asked_turns unmade asked = abandoned_turns asked
  asked_turns (no_message fault) asked = closed_turns asked.1 asked.0 asked.2
  asked_turns (by_message end) asked = closed_turns asked.1 asked.0 asked.2
  asked_turns (unsent fault) asked = closed_turns asked.1 asked.0 asked.2
