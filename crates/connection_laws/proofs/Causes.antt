-- Each response of a connection is that of a batch or a call, by its own exchanges, or has no token that tells an error of a lock. Each such token of it has its cause in one statement.
use Rattle.std.proofs.Common.{◌≡◌, pos, false, refl, List, [], ◌∷◌, ◌++◌, map, sym, subst}
use Rattle.std.specs.List.{All, AllByRecursion}
use Rattle.std.proofs.lemmas.List.Elements.{All-head, All-tail}
use Rattle.tds_tokens.specs.declared.token.Token.{Token}
use Rattle.tds_tokens.specs.declared.notice.Notice.{Notice}
use Rattle.tds_tokens.specs.declared.token.Token.TheVariants.{Error, Finished}
use Rattle.step_model.specs.Exchange.{Exchange}
use Rattle.batch_meaning.specs.declared.form.ReadText.{ReadText}
use Rattle.batch_meaning.specs.Doing.{Doing, Held, over, reads, ◌then◌}
use Rattle.batch_meaning.specs.Meaning.{batch}
use Rattle.batch_meaning.specs.Progress.{SessionProgress, first_progress}
use Rattle.batch_meaning.specs.Rpc.{rpc}
use Rattle.sound_laws.proofs.Bringing.{held_apart}
use Rattle.cause_laws.specs.Causes.{LockError, NeverAnswered, TellsNone, TellsOther, is_answer, number_of}
use Rattle.cause_laws.specs.Statements.{AllCaused, Answered, HasCause, Sends}
use Rattle.cause_laws.proofs.Batches.{batch_tells, call_tells}
use Rattle.cause_laws.proofs.Causes.{batch_causes, call_causes}
use Rattle.cause_laws.proofs.Clean.{all_front}
use Rattle.cause_laws.proofs.Locks.{lock_usual}
use Rattle.cause_laws.proofs.Passing.{finds_front}
use Rattle.session_server.specs.Response.{Response, options, tabular, unfollowed}
use Rattle.session_server.specs.Talk.{Handling, IsReadAs, IsRequest, Request, batch_response, batch_tokens, calls, ends, handling_in, refuses, responds, response_to, rpc_response, runs}
use Rattle.connection_laws.specs.Causes.{Answers, ConnectionCauses, InTurn, IsCaused, ResponseCaused, ResponseTellsNone}
use Rattle.connection_laws.proofs.Short.{all_limited}
use Rattle.connection_laws.proofs.Once.{once_if, once_place}
use Rattle.connection_laws.proofs.InTurn.{asked_turns}
use Rattle.connection_laws.proofs.Responses.{AllFine, HandlesFine}

module _ (error : LockError) where
  abbrev TellsNoneBy : List Exchange → Response → Type 0
  TellsNoneBy part response = NeverAnswered error part → ResponseTellsNone error response

  all_other : AllFine (ResponseTellsNone error)
  all_other = record {
    prelogin = tt;
    grants = λ size. (tt, (tt, (tt, (tt, (tt, tt)))));
    refuses = λ number usual. (lock_usual error number usual, (tt, tt));
    attends = λ size. (tt, tt);
    unserved_call = λ size number at usual. (lock_usual error (pos number) usual, (tt, tt));
    unserved_request = λ size at. (lock_usual error (pos 49014) refl, (tt, tt));
  }

  -- a DONE tells no error
  unfollowed_other : (token : Token) → TellsOther error token → TellsOther error (unfollowed token)
  unfollowed_other (Finished kind status command rows) other = tt
  unfollowed_other token other = other

  response_other : (handling : Handling) (read_as : ReadText) (p new : SessionProgress) (exchanges : List Exchange) (response : Response) → HandlesFine (ResponseTellsNone error) all_other handling → IsReadAs handling read_as
      → Held (response_to handling read_as) p exchanges response new → TellsNoneBy exchanges response
  unfolding batch_response rpc_response Held
  response_other (responds answer next) read_as p new exchanges response other is held none = subst (ResponseTellsNone error) (sym held.1) other
  response_other (runs connected text) read_as p new exchanges response other is held none =
      let on = held_apart (batch read_as) _ p new exchanges response held in
      let front : NeverAnswered error on.front = all_front (λ (x : Exchange). is_answer error x.reply ≡ false) on.front on.back (subst (NeverAnswered error) on.parts none) in
      subst (ResponseTellsNone error) (sym on.rest.1) (once_if (TellsOther error) unfollowed_other _ on.mid.tokens (batch_causes error text read_as p on.mid on.front is front on.held))
  response_other (calls connected call) read_as p new exchanges response other is held none =
      let on = held_apart (rpc call read_as) _ p new exchanges response held in
      let front : NeverAnswered error on.front = all_front (λ (x : Exchange). is_answer error x.reply ≡ false) on.front on.back (subst (NeverAnswered error) on.parts none) in
      subst (ResponseTellsNone error) (sym on.rest.1) (call_causes error call read_as p on.mid on.front is front on.held)
  response_other (refuses answer number) read_as p new exchanges response other is held none = subst (ResponseTellsNone error) (sym held.1) other
  response_other (ends end) read_as p new exchanges response other is held none = absurd held

  -- ---- by statement

  -- an ERROR among tokens that tell none is not there
  told_none : (tokens front behind : List Token) (told : Notice) → TellsNone error tokens → tokens ≡ front ++ Error told ∷ behind → told.number ≡ pos (number_of error) → ⊥
  told_none tokens front behind told none is ours = all_behind front (subst (TellsNone error) is none) ours
    where
      all_behind : (front : List Token) → TellsNone error (front ++ Error told ∷ behind) → told.number ≡ pos (number_of error) → ⊥
      all_behind [] none = none.0
      all_behind (token ∷ front) none = all_behind front none.1

  -- what was found in a batch or a call is found in the response that is made behind it
  caused_front : (tree : Doing (Unit {0})) (go : Unit {0} → Doing Response) (p mid new : SessionProgress) (front back : List Exchange) (response : Response) (tokens : List Token) → Held (go tt) mid back response new
      → AllCaused error tokens tree p front tt mid → AllCaused error tokens (tree then go) p (front ++ back) response new
  caused_front tree go p mid new front back response tokens more all before behind told is ours =
      let found : HasCause error before told tree p front tt mid = all before behind told is ours in
      (found.0, finds_front go mid new back tt response more (Sends before told) found.0 (Answered error) tree p front found.1)

  none_caused : (handling : Handling) (read_as : ReadText) (p new : SessionProgress) (part : List Exchange) (response : Response) → ResponseTellsNone error response → ResponseCaused error (record { handling = handling; read_as = read_as }) p part response new
  none_caused handling read_as p new part options none = tt
  none_caused handling read_as p new part (tabular size tokens) none = λ front behind told is ours. absurd (told_none tokens front behind told none is ours)

  response_caused : (handling : Handling) (read_as : ReadText) (p new : SessionProgress) (part : List Exchange) (response : Response) → HandlesFine (ResponseTellsNone error) all_other handling → IsReadAs handling read_as
      → Held (response_to handling read_as) p part response new → ResponseCaused error (record { handling = handling; read_as = read_as }) p part response new
  unfolding batch_response rpc_response Held
  response_caused (responds answer next) read_as p new part response other is held = none_caused (responds answer next) read_as p new part response (subst (ResponseTellsNone error) (sym held.1) other)
  response_caused (runs connected text) read_as p new part response other is held =
      let on = held_apart (batch read_as) _ p new part response held in
      subst (λ (l : List Exchange). ResponseCaused error (record { handling = runs connected text; read_as = read_as }) p l response new) (sym on.parts)
      (by_response on.mid on.front on.back on.rest (batch_tells error text read_as p on.mid on.front is on.held))
    where
      by_response : (mid : SessionProgress) (front back : List Exchange) → Held (reads λ q. over (tabular connected.packet_size (batch_tokens connected q.tokens))) mid back response new
          → AllCaused error mid.tokens (batch read_as) p front tt mid → ResponseCaused error (record { handling = runs connected text; read_as = read_as }) p (front ++ back) response new
      by_response mid front back rest all = subst (λ (r : Response). ResponseCaused error (record { handling = runs connected text; read_as = read_as }) p (front ++ back) r new) (sym rest.1)
          (λ before behind told is ours. caused_front (batch read_as) (λ _. reads λ q. over (tabular connected.packet_size (batch_tokens connected q.tokens))) p mid new front back (tabular connected.packet_size (batch_tokens connected mid.tokens)) mid.tokens
          (rest.0, refl, rest.2) all before (once_place connected.drivers mid.tokens before behind told is).0 told (once_place connected.drivers mid.tokens before behind told is).1 ours)
  response_caused (calls connected call) read_as p new part response other is held =
      let on = held_apart (rpc call read_as) _ p new part response held in
      subst (λ (l : List Exchange). ResponseCaused error (record { handling = calls connected call; read_as = read_as }) p l response new) (sym on.parts)
      (by_response on.mid on.front on.back on.rest (call_tells error call read_as p on.mid on.front is on.held))
    where
      by_response : (mid : SessionProgress) (front back : List Exchange) → Held (reads λ q. over (tabular connected.packet_size q.tokens)) mid back response new
          → AllCaused error mid.tokens (rpc call read_as) p front tt mid → ResponseCaused error (record { handling = calls connected call; read_as = read_as }) p (front ++ back) response new
      by_response mid front back rest all = subst (λ (r : Response). ResponseCaused error (record { handling = calls connected call; read_as = read_as }) p (front ++ back) r new) (sym rest.1)
          (caused_front (rpc call read_as) (λ _. reads λ q. over (tabular connected.packet_size q.tokens)) p mid new front back (tabular connected.packet_size mid.tokens) mid.tokens (rest.0, refl, rest.2) all)
  response_caused (refuses answer number) read_as p new part response other is held = none_caused (refuses answer number) read_as p new part response (subst (ResponseTellsNone error) (sym held.1) other)
  response_caused (ends end) read_as p new part response other is held = absurd held

  -- ---- each of them in turn

  are_caused : (requests : List Request) (p new : SessionProgress) (parts : List (List Exchange)) (responses : List Response) → AllByRecursion (HandlesFine (ResponseTellsNone error) all_other) (map handling_in requests) → All IsRequest requests
      → InTurn Answers requests p parts responses new → InTurn (IsCaused error) requests p parts responses new
  are_caused [] p new [] [] fine are turns = turns
  are_caused [] p new [] (response ∷ responses) fine are turns = absurd turns
  are_caused [] p new (part ∷ parts) responses fine are turns = absurd turns
  are_caused (request ∷ requests) p new [] responses fine are turns = absurd turns
  are_caused (request ∷ requests) p new (part ∷ parts) [] fine are turns = absurd turns
  are_caused (request ∷ requests) p new (part ∷ parts) (response ∷ responses) fine are turns = (
    turns.0,
    record {
      answers = turns.1;
      none = response_other request.handling request.read_as p turns.0 part response fine.0 (All-head IsRequest request requests are) turns.1;
      each = response_caused request.handling request.read_as p turns.0 part response fine.0 (All-head IsRequest request requests are) turns.1;
    },
    are_caused requests turns.0 new parts responses fine.1 (All-tail IsRequest request requests are) turns.2,
  )

pub connection_causes : ConnectionCauses
connection_causes error exchanges c =
    let has = asked_turns (ResponseTellsNone error) (all_other error) c.config c.messages c.requests exchanges c.responses (all_limited 0 c.taken c.messages c.rest c.split.joined) c.cause c.asked in
    record {
      parts = has.parts;
      behind = has.behind;
      talked = has.talked;
      whole = has.whole;
      in_turn = are_caused error c.requests first_progress has.talked has.parts c.responses has.fine has.are has.in_turn;
    }
