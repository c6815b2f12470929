-- A talk is taken apart: the batches and calls of its requests were done, one behind another.
use Rattle.std.proofs.Common.{◌≡◌, List, [], ◌∷◌, ◌++◌, fold, refl, sym, ap, ◌∙◌, subst, append-nil, append_assoc}
use Rattle.step_model.specs.Exchange.{Exchange}
use Rattle.batch_meaning.specs.declared.form.ReadText.{ReadText}
use Rattle.batch_meaning.specs.Doing.{Doing, over, reads, ◌then◌, Held}
use Rattle.batch_meaning.specs.Meaning.{batch}
use Rattle.batch_meaning.specs.Progress.{SessionProgress, first_progress}
use Rattle.batch_meaning.specs.Rpc.{rpc}
use Rattle.sound_laws.proofs.Bringing.{held_apart}
use Rattle.session_server.specs.Response.{Response}
use Rattle.session_server.specs.Talk.{Handling, responds, runs, calls, refuses, ends, batch_response, rpc_response, response_to, talk_more, with_request, Request, talk_of}
use Rattle.sound_laws.specs.Runs.{AreDone, Task}
use Rattle.connection_laws.specs.Tasks.{tasks_of, with_task}

-- where nothing is asked behind a tree, the exchanges are the tree's
pub held_whole : {A : Type 0} (tree : Doing A) (p mid new : SessionProgress) (exchanges front back : List Exchange) (a : A) → Held tree p front a mid → exchanges ≡ front ++ back → back ≡ [] → new ≡ mid → Held tree p exchanges a new
held_whole tree p mid new exchanges front back a held parts none same =
    subst (λ (q : SessionProgress). Held tree p exchanges a q) (sym same)
    (subst (λ (l : List Exchange). Held tree p l a mid) (sym (parts ∙ ap (λ (l : List Exchange). front ++ l) none ∙ append-nil front)) held)

-- ---- one request

-- the response to a batch or a call is made of where that has come to
abbrev pub responds_by : (SessionProgress → Response) → Unit {0} → Doing Response
responds_by make nothing = reads λ p. over (make p)

-- what was asked for the response is what the batch or the call asks
tree_done : (tree : Doing (Unit {0})) (make : SessionProgress → Response) (old new : SessionProgress) (exchanges : List Exchange) (response : Response) → Held (tree then responds_by make) old exchanges response new → Held tree old exchanges tt new
unfolding Held
tree_done tree make old new exchanges response held =
    let on = held_apart tree (responds_by make) old new exchanges response held in
    held_whole tree old on.mid new exchanges on.front on.back tt on.held on.parts on.rest.0 on.rest.2

module _ (others : List Task) (old mid new : SessionProgress) (first later : List Exchange) (response : Response) (done : AreDone others mid later new) where
  -- a request that runs nothing asks nothing
  still_done : first ≡ [] → mid ≡ old → AreDone others old (first ++ later) new
  still_done none same = subst (λ (l : List Exchange). AreDone others old (l ++ later) new) (sym none) (subst (λ (q : SessionProgress). AreDone others q later new) same done)

  request_done : (handling : Handling) (read_as : ReadText) → Held (response_to handling read_as) old first response mid → AreDone (with_task handling read_as others) old (first ++ later) new
  unfolding Held batch_response rpc_response
  request_done (responds answer next) read_as held = still_done held.0 held.2
  request_done (runs connected text) read_as held = (mid, first, later, refl, tree_done (batch read_as) _ old mid first response held, done)
  request_done (calls connected call) read_as held = (mid, first, later, refl, tree_done (rpc call read_as) _ old mid first response held, done)
  request_done (refuses answer number) read_as held = still_done held.0 held.2
  request_done (ends end) read_as held = absurd held

-- ---- all requests

-- a talk with one response more: what was asked for the talk, and for the response
pub record More (talk : Doing (List Response)) (tree : Doing Response) (p new : SessionProgress) (exchanges : List Exchange) (responses : List Response) : Type 0 where
  pub front : List Exchange
  pub back : List Exchange
  pub earlier : List Response
  pub response : Response
  pub mid : SessionProgress
  pub parts : exchanges ≡ front ++ back
  pub one : responses ≡ earlier ++ response ∷ []
  pub talked : Held talk p front earlier mid
  pub responded : Held tree mid back response new

pub more_apart : (talk : Doing (List Response)) (tree : Doing Response) (p new : SessionProgress) (exchanges : List Exchange) (responses : List Response) → Held (talk_more talk tree) p exchanges responses new → More talk tree p new exchanges responses
unfolding Held
more_apart talk tree p new exchanges responses held =
    let one = held_apart talk (λ earlier. tree then λ response. over (earlier ++ response ∷ [])) p new exchanges responses held in
    let two = held_apart tree (λ response. over (one.came ++ response ∷ [])) one.mid new one.back responses one.rest in
    record {
      front = one.front;
      back = one.back;
      earlier = one.came;
      response = two.came;
      mid = one.mid;
      parts = one.parts;
      one = two.rest.1;
      talked = one.held;
      responded = held_whole tree one.mid two.mid new one.back two.front two.back two.came two.held two.parts two.rest.0 two.rest.2;
    }

-- what was asked for a talk, and behind it the batches and calls of more requests
pub record Behind (talk : Doing (List Response)) (requests : List Request) (p new : SessionProgress) (exchanges : List Exchange) : Type 0 where
  pub front : List Exchange
  pub back : List Exchange
  pub earlier : List Response
  pub mid : SessionProgress
  pub parts : exchanges ≡ front ++ back
  pub talked : Held talk p front earlier mid
  pub done : AreDone (tasks_of requests) mid back new

behind : (requests : List Request) (talk : Doing (List Response)) (p new : SessionProgress) (exchanges : List Exchange) (responses : List Response) → Held (fold with_request talk requests) p exchanges responses new → Behind talk requests p new exchanges
behind [] talk p new exchanges responses held = record {
  front = exchanges;
  back = [];
  earlier = responses;
  mid = new;
  parts = sym (append-nil exchanges);
  talked = held;
  done = (refl, refl);
}
behind (request ∷ others) talk p new exchanges responses held =
    let on = behind others (with_request talk request) p new exchanges responses held in
    let more = more_apart talk (response_to request.handling request.read_as) p on.mid on.front on.earlier on.talked in
    record {
      front = more.front;
      back = more.back ++ on.back;
      earlier = more.earlier;
      mid = more.mid;
      parts = on.parts ∙ ap (λ (l : List Exchange). l ++ on.back) more.parts ∙ append_assoc more.front more.back on.back;
      talked = more.talked;
      done = request_done (tasks_of others) more.mid on.mid new more.back on.back more.response on.done request.handling request.read_as more.responded;
    }

-- What was asked for the responses to requests is what their batches and calls ask.
pub talk_done : (requests : List Request) (new : SessionProgress) (exchanges : List Exchange) (responses : List Response) → Held (talk_of requests) first_progress exchanges responses new → AreDone (tasks_of requests) first_progress exchanges new
unfolding talk_of Held
talk_done requests new exchanges responses held =
    let on = behind requests (over []) first_progress new exchanges responses held in
    subst (λ (q : SessionProgress). AreDone (tasks_of requests) q exchanges new) on.talked.2
    (subst (λ (l : List Exchange). AreDone (tasks_of requests) on.mid l new) (sym (on.parts ∙ ap (λ (l : List Exchange). l ++ on.back) on.talked.0)) on.done)
