-- Each response of a connection is whole; and where memory was never wanting, each tells an error that stands for a refusal only where its own exchanges have one.
use Rattle.std.proofs.Common.{◌≡◌, refl, ℕ, pos, Bool, true, false, List, [], ◌∷◌, sym, subst}
use Rattle.std.specs.List.{AllByRecursion}
use Rattle.tds_tokens.specs.declared.token.Token.{Token}
use Rattle.tds_tokens.specs.declared.token.Token.TheVariants.{Finished}
use Rattle.step_model.specs.Exchange.{Exchange}
use Rattle.batch_meaning.specs.declared.form.ReadText.{ReadText}
use Rattle.batch_meaning.specs.Doing.{Held}
use Rattle.batch_meaning.specs.Meaning.{batch}
use Rattle.batch_meaning.specs.Progress.{SessionProgress}
use Rattle.batch_meaning.specs.Rpc.{rpc}
use Rattle.batch_meaning.specs.Tokens.{batch_done, rpc_done}
use Rattle.sound_laws.proofs.Bringing.{held_apart}
use Rattle.cause_laws.proofs.Clean.{all_front}
use Rattle.ample_laws.specs.Ample.{Ample, NoneRefused, is_refusal}
use Rattle.ample_laws.specs.Telling.{EndsWith, ErrorIs, IsNoRefusal}
use Rattle.ample_laws.proofs.Amply.{ample_apart}
use Rattle.ample_laws.proofs.Ends.{batches_end, calls_end}
use Rattle.ample_laws.proofs.Refusals.{ample_batches, ample_calls, usual_none}
use Rattle.session_server.specs.Response.{Response, unfollowed}
use Rattle.session_server.specs.Talk.{Handling, IsReadAs, batch_response, calls, ends, refuses, responds, response_to, rpc_response, runs}
use Rattle.connection_laws.specs.Ample.{AreAmple, AreWhole, ConnectionAmple, ConnectionEnds, IsEnd, ResponseEnds, ResponseRefusesNone}
use Rattle.connection_laws.proofs.Short.{all_limited}
use Rattle.connection_laws.proofs.Once.{once_if, once_whole, whole_behind, whole_last}
use Rattle.connection_laws.proofs.Responses.{AllFine, AmpleRun, AreGood, HandlesFine, ample_runs, asked_good, closed_good}

-- ---- whole responses

-- a status by which nothing follows
none_follows : ◌≡◌ {A = ℕ} 0 1 → ⊥
none_follows is = absurd (let no : 0 ≡ 1 = is in cc)

final_ends : (failed : Bool) → IsEnd (batch_done failed)
final_ends true = none_follows
final_ends false = none_follows

call_ends : (failed : Bool) → IsEnd (rpc_done failed)
call_ends true = none_follows
call_ends false = none_follows

are_whole : (last : Bool → Token) (tokens : List Token) → ((failed : Bool) → IsEnd (last failed)) → EndsWith last tokens → AreWhole tokens
are_whole last tokens is_end told = record { front = told.front; last = last told.failed; whole = told.whole; more = told.more; end = is_end told.failed }

all_end : AllFine ResponseEnds
all_end = record {
  prelogin = tt;
  grants = λ size. whole_behind _ _ tt (whole_behind _ _ tt (whole_behind _ _ tt (whole_behind _ _ tt (whole_last _ none_follows))));
  refuses = λ number usual. whole_behind _ _ tt (whole_last _ none_follows);
  attends = λ size. whole_last _ none_follows;
  unserved_call = λ size number at usual. whole_behind _ _ tt (whole_last _ none_follows);
  unserved_request = λ size at. whole_behind _ _ tt (whole_last _ none_follows);
}

abbrev EndsBy : List Exchange → Response → Type 0
EndsBy part response = ResponseEnds response

response_ends : (handling : Handling) (read_as : ReadText) (p new : SessionProgress) (exchanges : List Exchange) (response : Response) → HandlesFine ResponseEnds all_end handling → IsReadAs handling read_as
    → Held (response_to handling read_as) p exchanges response new → EndsBy exchanges response
unfolding batch_response rpc_response Held
response_ends (responds answer next) read_as p new exchanges response fine is held = subst ResponseEnds (sym held.1) fine
response_ends (runs connected text) read_as p new exchanges response fine is held =
    let on = held_apart (batch read_as) _ p new exchanges response held in
    subst ResponseEnds (sym on.rest.1) (once_whole _ on.mid.tokens (are_whole batch_done on.mid.tokens final_ends (batches_end text read_as p on.mid on.front is on.held)))
response_ends (calls connected call) read_as p new exchanges response fine is held =
    let on = held_apart (rpc call read_as) _ p new exchanges response held in
    subst ResponseEnds (sym on.rest.1) (are_whole rpc_done on.mid.tokens call_ends (calls_end call read_as p on.mid on.front is on.held))
response_ends (refuses answer number) read_as p new exchanges response fine is held = subst ResponseEnds (sym held.1) fine
response_ends (ends end) read_as p new exchanges response fine is held = absurd held

all_ends : (parts : List (List Exchange)) (responses : List Response) → AreGood EndsBy parts responses → AllByRecursion ResponseEnds responses
all_ends [] [] good = tt
all_ends [] (response ∷ responses) good = absurd good
all_ends (part ∷ parts) [] good = absurd good
all_ends (part ∷ parts) (response ∷ responses) good = (good.0, all_ends parts responses good.1)

pub connection_ends : ConnectionEnds
connection_ends exchanges c =
    let has = asked_good ResponseEnds all_end EndsBy c.config c.messages c.requests exchanges c.responses (all_limited 0 c.taken c.messages c.rest c.split.joined) response_ends c.cause c.asked in
    all_ends has.parts c.responses has.good

-- ---- where memory was never wanting

abbrev RefusesNoneBy : List Exchange → Response → Type 0
RefusesNoneBy part response = NoneRefused part → ResponseRefusesNone response

all_refuse_none : AllFine ResponseRefusesNone
all_refuse_none = record {
  prelogin = tt;
  grants = λ size. (tt, (tt, (tt, (tt, (tt, tt)))));
  refuses = λ number usual. (usual_none number usual, (tt, tt));
  attends = λ size. (tt, tt);
  unserved_call = λ size number at usual. (usual_none (pos number) usual, (tt, tt));
  unserved_request = λ size at. (usual_none (pos 49014) refl, (tt, tt));
}

-- a DONE tells no error
unfollowed_none : (token : Token) → ErrorIs IsNoRefusal token → ErrorIs IsNoRefusal (unfollowed token)
unfollowed_none (Finished kind status command rows) such = tt
unfollowed_none token such = such

response_ample : (handling : Handling) (read_as : ReadText) (p new : SessionProgress) (exchanges : List Exchange) (response : Response) → HandlesFine ResponseRefusesNone all_refuse_none handling → IsReadAs handling read_as
    → Ample (response_to handling read_as) p exchanges response new → RefusesNoneBy exchanges response
unfolding batch_response rpc_response Ample
response_ample (responds answer next) read_as p new exchanges response fine is ample none = subst ResponseRefusesNone (sym ample.1) fine
response_ample (runs connected text) read_as p new exchanges response fine is ample none =
    let on = ample_apart (batch read_as) _ p new exchanges response ample in
    let front : NoneRefused on.front = all_front (λ (x : Exchange). is_refusal x.reply ≡ false) on.front on.back (subst NoneRefused on.parts none) in
    subst ResponseRefusesNone (sym on.rest.1) (once_if (ErrorIs IsNoRefusal) unfollowed_none _ on.mid.tokens (ample_batches text read_as p on.mid on.front is front on.first))
response_ample (calls connected call) read_as p new exchanges response fine is ample none =
    let on = ample_apart (rpc call read_as) _ p new exchanges response ample in
    let front : NoneRefused on.front = all_front (λ (x : Exchange). is_refusal x.reply ≡ false) on.front on.back (subst NoneRefused on.parts none) in
    subst ResponseRefusesNone (sym on.rest.1) (ample_calls call read_as p on.mid on.front is front on.first)
response_ample (refuses answer number) read_as p new exchanges response fine is ample none = subst ResponseRefusesNone (sym ample.1) fine
response_ample (ends end) read_as p new exchanges response fine is ample none = absurd ample

are_ample : (parts : List (List Exchange)) (responses : List Response) → AreGood RefusesNoneBy parts responses → AreAmple parts responses
are_ample [] [] good = tt
are_ample [] (response ∷ responses) good = absurd good
are_ample (part ∷ parts) [] good = absurd good
are_ample (part ∷ parts) (response ∷ responses) good = (good.0, are_ample parts responses good.1)

pub connection_ample : ConnectionAmple
connection_ample exchanges c =
    let has = closed_good ResponseRefusesNone all_refuse_none RefusesNoneBy c.config c.messages c.requests exchanges c.responses (all_limited 0 c.taken c.messages c.rest c.split.joined) AmpleRun ample_runs response_ample c.new c.are c.asked in
    record { parts = has.parts; behind = has.behind; whole = has.whole; ample = are_ample has.parts c.responses has.good }
