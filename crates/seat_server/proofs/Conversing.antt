-- What a conversation says of its exchanges.
use Rattle.std.proofs.Common.{ℕ, List, Option}
use Rattle.tds_login.specs.declared.config.Config.{Config}
use Rattle.step_model.specs.Port.{PortPast}
use Rattle.session_server.specs.declared.end.End.{End}
use Rattle.session_server.specs.Conversation.{Conversation}
use Rattle.connection_laws.specs.Laws.{IsConnection}

module _ (config : Config) (session : ℕ) (gave : List ℕ → Type 0) (left : Option (List ℕ)) (before after : PortPast) (sink_before sink_after : Option (List ℕ)) (end : End) (conversation : Conversation config session gave left before after sink_before sink_after end) where
  -- its exchanges are those of a connection
  pub is_connection : IsConnection conversation.means.exchanges
  is_connection = record {
    config = config;
    taken = conversation.heard.taken;
    messages = conversation.heard.messages;
    rest = conversation.heard.rest;
    requests = conversation.means.requests;
    responses = conversation.heard.responses;
    cause = conversation.heard.cause;
    split = conversation.heard.split;
    asked = conversation.means.asked;
  }
