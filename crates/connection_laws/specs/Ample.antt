-- Own: `ConnectionEnds`, `ConnectionAmple` and `ConnectionSmall`. Each response of a connection is whole. Where memory was never wanting, each has its own stretch of what
-- the connection has asked, one behind another, and tells ERROR 701, 1205 or 1222 only where the engine has refused an operation in that. And it tells ERROR
-- 49002 only where, by its own stretch, a result was more than its limit.
use Rattle.std.specs.Prelude.{◌≡◌, ℕ, List, [], ◌∷◌, ◌++◌}
use Rattle.std.specs.List.{AllByRecursion, flat_map}
use Rattle.tds_login.specs.declared.config.Config.{Config}
use Rattle.tds_packets.specs.declared.message.Message.{Message}
use Rattle.tds_packets.specs.Stream.{Splits}
use Rattle.tds_tokens.specs.declared.token.Token.{Token}
use Rattle.tds_tokens.specs.declared.token.Token.TheVariants.{Finished}
use Rattle.step_model.specs.Exchange.{Exchange}
use Rattle.batch_meaning.specs.Progress.{SessionProgress, first_progress}
use Rattle.ample_laws.specs.Ample.{Ample, NoneRefused}
use Rattle.ample_laws.specs.Small.{Small}
use Rattle.ample_laws.specs.Telling.{IsNoRefusal, IsNotPast, MoreFollows, SaysMore, TellsOnly}
use Rattle.session_server.specs.Conversation.{closed}
use Rattle.session_server.specs.Response.{Response, options, tabular}
use Rattle.session_server.specs.Talk.{AreRequests, Request, response_to, talk_of, walk_of}
use Rattle.connection_laws.specs.Causes.{Answer, Answers, InTurn}
use Rattle.connection_laws.specs.Laws.{IsConnection}

-- ---- whole responses

-- a token is a DONE behind which nothing follows
abbrev pub IsEnd : Token → Type 0
IsEnd (Finished kind status command rows) = SaysMore status → ⊥
IsEnd token = ⊥

-- tokens end with the one DONE that is the end
pub record AreWhole (tokens : List Token) : Type 0 where
  pub front : List Token
  pub last : Token
  pub whole : tokens ≡ front ++ last ∷ []
  pub more : AllByRecursion MoreFollows front
  pub end : IsEnd last

-- so do those of a response; options are no tokens
abbrev pub ResponseEnds : Response → Type 0
ResponseEnds options = Unit {0}
ResponseEnds (tabular size tokens) = AreWhole tokens

-- so it is in each connection
abbrev pub ConnectionEnds : Type 0
ConnectionEnds = (exchanges : List Exchange) (connection : IsConnection exchanges) → AllByRecursion ResponseEnds connection.responses

-- ---- where memory was never wanting

-- These exchanges are what one connection has asked for the messages that it took, and there was room wherever that was asked; so each of these has its response.
pub record IsAmple (exchanges : List Exchange) : Type 0 where
  pub config : Config
  pub taken : List ℕ
  pub messages : List Message
  pub rest : List ℕ
  pub requests : List Request
  pub responses : List Response
  pub new : SessionProgress
  pub split : Splits taken messages rest
  pub are : AreRequests (walk_of config messages).handled requests
  pub asked : Ample (closed (talk_of requests)) first_progress exchanges responses new

-- None of the tokens of a response tells an error that stands for a refusal.
abbrev pub ResponseRefusesNone : Response → Type 0
ResponseRefusesNone options = Unit {0}
ResponseRefusesNone (tabular size tokens) = TellsOnly IsNoRefusal tokens

-- there is a stretch for each response, and where none of its replies is a refusal the response tells none
abbrev pub AreAmple : List (List Exchange) → List Response → Type 0
AreAmple [] [] = Unit {0}
AreAmple (part ∷ parts) (response ∷ responses) = (NoneRefused part → ResponseRefusesNone response) × AreAmple parts responses
AreAmple parts responses = ⊥

-- these are a front of the exchanges, one behind another
pub record HasAmple (exchanges : List Exchange) (responses : List Response) : Type 0 where
  pub parts : List (List Exchange)
  pub behind : List Exchange
  pub whole : exchanges ≡ flat_map (λ part. part) parts ++ behind
  pub ample : AreAmple parts responses

-- so it is in each such connection
abbrev pub ConnectionAmple : Type 0
ConnectionAmple = (exchanges : List Exchange) (connection : IsAmple exchanges) → HasAmple exchanges connection.responses

-- ---- where no result was more than its limit

-- None of the tokens of a response tells 49002.
abbrev pub ResponseIsWithin : Response → Type 0
ResponseIsWithin options = Unit {0}
ResponseIsWithin (tabular size tokens) = TellsOnly IsNotPast tokens

-- The response is what its request comes to by its stretch; and where nothing in that was more than its limit, it does not tell 49002.
abbrev pub IsSmall : Answer
IsSmall request p part response new = Answers request p part response new
    × (Small (response_to request.handling request.read_as) p part response new → ResponseIsWithin response)

-- these are a front of the exchanges, one behind another
pub record HasSmall (requests : List Request) (exchanges : List Exchange) (responses : List Response) : Type 0 where
  pub parts : List (List Exchange)
  pub behind : List Exchange
  pub talked : SessionProgress
  pub whole : exchanges ≡ flat_map (λ part. part) parts ++ behind
  pub small : InTurn IsSmall requests first_progress parts responses talked

-- so it is in each connection
abbrev pub ConnectionSmall : Type 0
ConnectionSmall = (exchanges : List Exchange) (connection : IsConnection exchanges) → HasSmall connection.requests exchanges connection.responses
