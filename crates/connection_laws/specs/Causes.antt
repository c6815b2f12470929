-- Own: `ConnectionCauses`. Each response of a connection is what its message comes to by its own stretch of what the connection has asked, one
-- behind another. It tells ERROR 1205 only where the engine has replied Victim in that, and ERROR 1222 only where it has replied TimedOut; and each of these that it tells
-- has its cause in the exchanges of one statement: of the one that sent it, or of the one whose error a THROW has thrown again.
use Rattle.std.specs.Prelude.{◌≡◌, List, [], ◌∷◌, ◌++◌}
use Rattle.std.specs.List.{flat_map}
use Rattle.step_model.specs.Exchange.{Exchange}
use Rattle.batch_meaning.specs.Doing.{Held}
use Rattle.batch_meaning.specs.Progress.{SessionProgress, first_progress}
use Rattle.cause_laws.specs.Causes.{LockError, NeverAnswered, TellsNone}
use Rattle.cause_laws.specs.Statements.{AllCaused}
use Rattle.session_server.specs.Response.{Response, options, tabular}
use Rattle.session_server.specs.Talk.{Request, response_to}
use Rattle.connection_laws.specs.Laws.{IsConnection}

-- ---- one response

-- what is said of a request, of the progress and the exchanges by which it is answered, of its response, and of the progress behind that
abbrev pub Answer : Type 1
Answer = Request → SessionProgress → List Exchange → Response → SessionProgress → Type 0

-- The response is what the request comes to.
abbrev pub Answers : Answer
Answers request p part response new = Held (response_to request.handling request.read_as) p part response new

-- None of the tokens of a response tells the error; options are no tokens.
abbrev pub ResponseTellsNone : LockError → Response → Type 0
ResponseTellsNone error options = Unit {0}
ResponseTellsNone error (tabular size tokens) = TellsNone error tokens

-- Each token that tells it has its cause, by the statements that ran for the response.
abbrev pub ResponseCaused : LockError → Answer
ResponseCaused error request p part options new = Unit {0}
ResponseCaused error request p part (tabular size tokens) new =
    AllCaused error tokens (response_to request.handling request.read_as) p part (tabular size tokens) new

-- So it is of a response; and where no reply in its stretch is the error's cause it does not tell it.
pub record IsCaused (error : LockError) (request : Request) (p : SessionProgress) (part : List Exchange) (response : Response) (new : SessionProgress) : Type 0 where
  pub answers : Answers request p part response new
  pub none : NeverAnswered error part → ResponseTellsNone error response
  pub each : ResponseCaused error request p part response new

-- ---- one behind another

-- It is so of each of these requests, by its stretch, from where the one before has come to.
abbrev pub InTurn : Answer → List Request → SessionProgress → List (List Exchange) → List Response → SessionProgress → Type 0
InTurn Such [] p [] [] new = new ≡ p
InTurn Such [] p [] (response ∷ responses) new = ⊥
InTurn Such [] p (part ∷ parts) responses new = ⊥
InTurn Such (request ∷ requests) p [] responses new = ⊥
InTurn Such (request ∷ requests) p (part ∷ parts) [] new = ⊥
InTurn Such (request ∷ requests) p (part ∷ parts) (response ∷ responses) new =
    (mid : SessionProgress) × Such request p part response mid × InTurn Such requests mid parts responses new

-- These stretches are a front of the exchanges, one behind another, and what was asked for the responses.
pub record HasCauses (error : LockError) (requests : List Request) (exchanges : List Exchange) (responses : List Response) : Type 0 where
  pub parts : List (List Exchange)
  pub behind : List Exchange
  pub talked : SessionProgress
  pub whole : exchanges ≡ flat_map (λ part. part) parts ++ behind
  pub in_turn : InTurn (IsCaused error) requests first_progress parts responses talked

-- so it is in each connection
abbrev pub ConnectionCauses : Type 0
ConnectionCauses = (error : LockError) (exchanges : List Exchange) (connection : IsConnection exchanges)
    → HasCauses error connection.requests exchanges connection.responses
