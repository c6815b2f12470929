-- Own: how the replies that bytes are stand to the responses that a conversation made.
use Rattle.std.specs.Prelude.{◌≡◌, ◌≤◌, List, [], length}
use Rattle.tds_packets.specs.Packets.{IsPacketSize}
use Rattle.tds_packets.specs.Stream.{payload_limit}
use Rattle.tds_tokens.specs.declared.token.Token.{Token}
use Rattle.tds_tokens.specs.Ranges.{AreTokens}
use Rattle.tds_tokens.specs.Spelling.{TokenBytes}
use Rattle.session_server.specs.Response.{Response, options, tabular}

-- The response is these tokens, which there are, in packets of a size that packets may have. As many bytes as a message may carry are enough
-- for them.
abbrev pub Tells : Response → List Token → Type 0
Tells options tokens = ⊥
Tells (tabular size told) tokens = (told ≡ tokens) × IsPacketSize size × AreTokens [] tokens × (length (TokenBytes tokens) ≤ payload_limit)
