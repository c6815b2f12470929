-- Each response of a connection tells 49002 only where, by its own exchanges, a result was more than its limit.
use Rattle.std.proofs.Common.{refl, pos, List, [], ◌∷◌, map, sym, subst}
use Rattle.std.specs.List.{All, AllByRecursion}
use Rattle.std.proofs.lemmas.List.Elements.{All-head, All-tail}
use Rattle.tds_tokens.specs.declared.token.Token.{Token}
use Rattle.tds_tokens.specs.declared.token.Token.TheVariants.{Finished}
use Rattle.step_model.specs.Exchange.{Exchange}
use Rattle.batch_meaning.specs.declared.form.ReadText.{ReadText}
use Rattle.batch_meaning.specs.Progress.{SessionProgress, first_progress}
use Rattle.cause_laws.proofs.Usual.{no_filling}
use Rattle.ample_laws.specs.Small.{Small}
use Rattle.ample_laws.specs.Telling.{ErrorIs, IsNotPast}
use Rattle.ample_laws.proofs.Small.{same_le, small_batch_then, small_call_then}
use Rattle.session_server.specs.Response.{Response, unfollowed}
use Rattle.session_server.specs.Talk.{Handling, IsReadAs, IsRequest, Request, batch_response, calls, ends, handling_in, refuses, responds, response_to, rpc_response, runs}
use Rattle.connection_laws.specs.Ample.{ConnectionSmall, IsSmall, ResponseIsWithin}
use Rattle.connection_laws.specs.Causes.{Answers, InTurn}
use Rattle.connection_laws.proofs.Short.{all_limited}
use Rattle.connection_laws.proofs.Once.{once_if}
use Rattle.connection_laws.proofs.InTurn.{asked_turns}
use Rattle.connection_laws.proofs.Responses.{AllFine, HandlesFine}

all_within : AllFine ResponseIsWithin
all_within = record {
  prelogin = tt;
  grants = λ size. (tt, (tt, (tt, (tt, (tt, tt)))));
  refuses = λ number usual. (no_filling number usual, (tt, tt));
  attends = λ size. (tt, tt);
  unserved_call = λ size number at usual. (no_filling (pos number) usual, (tt, tt));
  unserved_request = λ size at. (no_filling (pos 49014) refl, (tt, tt));
}

-- a DONE tells no error
unfollowed_within : (token : Token) → ErrorIs IsNotPast token → ErrorIs IsNotPast (unfollowed token)
unfollowed_within (Finished kind status command rows) such = tt
unfollowed_within token such = such

response_within : (handling : Handling) (read_as : ReadText) (p new : SessionProgress) (exchanges : List Exchange) (response : Response) → HandlesFine ResponseIsWithin all_within handling → IsReadAs handling read_as
    → Small (response_to handling read_as) p exchanges response new → ResponseIsWithin response
unfolding batch_response rpc_response Small
response_within (responds answer next) read_as p new exchanges response fine is small = subst ResponseIsWithin (sym small.1) fine
response_within (runs connected text) read_as p new exchanges response fine is small =
    small_batch_then (ResponseIsWithin response) text read_as _ p new exchanges response is
    (λ q later only rest. subst ResponseIsWithin (sym (rest.1 q.bytes_left (same_le q.bytes_left)).1) (once_if (ErrorIs IsNotPast) unfollowed_within _ q.tokens only)) small
response_within (calls connected call) read_as p new exchanges response fine is small =
    small_call_then (ResponseIsWithin response) call read_as _ p new exchanges response is (λ q later only rest. subst ResponseIsWithin (sym (rest.1 q.bytes_left (same_le q.bytes_left)).1) only) small
response_within (refuses answer number) read_as p new exchanges response fine is small = subst ResponseIsWithin (sym small.1) fine
response_within (ends end) read_as p new exchanges response fine is small = absurd small

-- so each of them in turn
are_small : (requests : List Request) (p new : SessionProgress) (parts : List (List Exchange)) (responses : List Response) → AllByRecursion (HandlesFine ResponseIsWithin all_within) (map handling_in requests) → All IsRequest requests
    → InTurn Answers requests p parts responses new → InTurn IsSmall requests p parts responses new
are_small [] p new [] [] fine are turns = turns
are_small [] p new [] (response ∷ responses) fine are turns = absurd turns
are_small [] p new (part ∷ parts) responses fine are turns = absurd turns
are_small (request ∷ requests) p new [] responses fine are turns = absurd turns
are_small (request ∷ requests) p new (part ∷ parts) [] fine are turns = absurd turns
are_small (request ∷ requests) p new (part ∷ parts) (response ∷ responses) fine are turns = (
  turns.0,
  (turns.1, response_within request.handling request.read_as p turns.0 part response fine.0 (All-head IsRequest request requests are)),
  are_small requests turns.0 new parts responses fine.1 (All-tail IsRequest request requests are) turns.2,
)

pub connection_small : ConnectionSmall
connection_small exchanges c =
    let has = asked_turns ResponseIsWithin all_within c.config c.messages c.requests exchanges c.responses (all_limited 0 c.taken c.messages c.rest c.split.joined) c.cause c.asked in
    record {
      parts = has.parts;
      behind = has.behind;
      talked = has.talked;
      whole = has.whole;
      small = are_small c.requests first_progress has.talked has.parts c.responses has.fine has.are has.in_turn;
    }
