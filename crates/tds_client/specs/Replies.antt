-- [MS-TDS] 3.2.5: what a client makes of a server's replies: the reply to a PRELOGIN, to a LOGIN7 and to a batch. Each is
-- said of the whole reply; the code judges it as it comes.
use Rattle.std.specs.Prelude.{◌≡◌, ◌≢◌, ℕ, ℤ, pos, ◌==◌, ◌||◌, Bool, true, false, if◌then◌else◌, List, [], ◌∷◌, Option, None, Some, Result, Ok, Err, IsOk}
use Rattle.std.specs.List.{list_any}
use Rattle.std.specs.Option.{option_map, option_or, unwrap_or}
use Rattle.tds_packets.specs.declared.message.Message.{Message}
use Rattle.tds_packets.specs.Header.{tabular_result}
use Rattle.tds_tokens.specs.declared.token.Token.{Token}
use Rattle.tds_tokens.specs.declared.token.Token.TheVariants.{LoginAck, Error, Info, EnvText, EnvBytes, Columns, Row, ReturnStatus, ReturnValue, Finished}
use Rattle.tds_tokens.specs.Ranges.{AreTokens}
use Rattle.tds_tokens.specs.Spelling.{TokenBytes}
use Rattle.tds_tokens.specs.Answer.{IsBadAt}
use Rattle.tds_login.specs.declared.prelogin.Prelogin.{Prelogin}
use Rattle.tds_login.specs.declared.prelogin.PreloginFault.{PreloginFault}
use Rattle.tds_login.specs.Prelogin.{prelogin_of, encrypt_not_sup}
use Rattle.tds_client.specs.declared.end.ClientEnd.{ClientEnd}
use Rattle.tds_client.specs.declared.end.ClientEnd.TheVariants.{Done, Encrypted, Refused, Kind, BadPrelogin, BadReply}
use Rattle.tds_client.specs.declared.turn.Turn.{Turn}
use Rattle.tds_client.specs.declared.turn.Turn.TheVariants as turns

-- the number of a reply, by what it answers
abbrev pub number_of : Turn → ℕ
number_of turns.Prelogin = 1
number_of turns.Login = 2
number_of turns.Batch = 3

-- ---- the reply to a PRELOGIN

-- ENCRYPT_OFF: encryption is available but off (2.2.6.5)
abbrev pub encrypt_off : ℕ
encrypt_off = 0x00

-- what is sent behind the login is not encrypted
abbrev pub is_plain : ℕ → Bool
is_plain encryption = encryption == encrypt_off || encryption == encrypt_not_sup

-- the server asks for no encryption; else the client ends
abbrev pub without_encryption : Option ℕ → Result (Unit {0}) ClientEnd
without_encryption None = Ok tt
without_encryption (Some value) = if is_plain value then Ok tt else Err (Encrypted value)

-- the same, where the payload says something as a PRELOGIN
abbrev pub greeting_by : Result Prelogin PreloginFault → Result (Unit {0}) ClientEnd
greeting_by (Ok said) = without_encryption said.encryption
greeting_by (Err fault) = Err (BadPrelogin fault)

-- whether the client goes on behind a first reply of this payload, or its end
unfoldable pub greeting_of : List ℕ → Result (Unit {0}) ClientEnd
greeting_of payload = greeting_by (prelogin_of payload)

-- the reply lets the client go on
pub record Greets (reply : Message) : Type 0 where
  pub kind : reply.kind ≡ tabular_result
  pub greets : IsOk (greeting_of reply.payload)

-- ---- replies of tokens

-- the reply carries these tokens; there is one such list at most
pub record Carries (reply : Message) (tokens : List Token) : Type 0 where
  pub kind : reply.kind ≡ tabular_result
  pub are : AreTokens [] tokens
  pub spelled : TokenBytes tokens ≡ reply.payload

-- LOGINACK
abbrev pub is_login_ack : Token → Bool
is_login_ack (LoginAck version program release) = true
is_login_ack (Error notice) = false
is_login_ack (Info notice) = false
is_login_ack (EnvText kind fresh former) = false
is_login_ack (EnvBytes kind fresh former) = false
is_login_ack (Columns described) = false
is_login_ack (Row values) = false
is_login_ack (ReturnStatus status) = false
is_login_ack (ReturnValue ordinal name kind value) = false
is_login_ack (Finished kind status command rows) = false

-- the login is granted
abbrev pub is_granted : List Token → Bool
is_granted tokens = list_any is_login_ack tokens

-- the number of an ERROR
abbrev pub error_number : Token → Option ℤ
error_number (Error notice) = Some notice.number
error_number (LoginAck version program release) = None
error_number (Info notice) = None
error_number (EnvText kind fresh former) = None
error_number (EnvBytes kind fresh former) = None
error_number (Columns described) = None
error_number (Row values) = None
error_number (ReturnStatus status) = None
error_number (ReturnValue ordinal name kind value) = None
error_number (Finished kind status command rows) = None

-- that of the first
abbrev pub first_error : List Token → Option ℤ
first_error [] = None
first_error (token ∷ tokens) = option_or (error_number token) (first_error tokens)

-- where the login is not granted, the number of the first ERROR, or 0
abbrev pub refusal_in : List Token → Option ℤ
refusal_in tokens = if is_granted tokens then None else Some (unwrap_or (first_error tokens) (pos 0))

-- the end of a client that prints these tokens, where it prints them: a login's that is not granted, and the batch's
abbrev pub last_end : Turn → List Token → Option ClientEnd
last_end turns.Prelogin tokens = None
last_end turns.Login tokens = option_map Refused (refusal_in tokens)
last_end turns.Batch tokens = Some Done

-- the reply to a LOGIN7 lets the client go on
abbrev pub Grants : Message → Type 0
Grants reply = (tokens : List Token) × Carries reply tokens × (refusal_in tokens ≡ None)

-- ---- replies that end a client

-- no token stands at a place of the payload
abbrev pub IsBadReply : Turn → List ℕ → ClientEnd → Type 0
IsBadReply turn payload end = (at : ℕ) × (end ≡ BadReply (number_of turn) at) × IsBadAt payload at

-- the payload ends the client so
abbrev pub RejectsPayload : Turn → List ℕ → ClientEnd → Type 0
RejectsPayload turns.Prelogin payload end = greeting_of payload ≡ Err end
RejectsPayload turns.Login payload end = IsBadReply turns.Login payload end
RejectsPayload turns.Batch payload end = IsBadReply turns.Batch payload end

-- the reply is none of a server's
pub record IsOfOtherKind (turn : Turn) (reply : Message) (end : ClientEnd) : Type 0 where
  pub other : reply.kind ≢ tabular_result
  pub end_is : end ≡ Kind (number_of turn) reply.kind

-- the reply is a server's, and its payload ends the client
pub record IsRejected (turn : Turn) (reply : Message) (end : ClientEnd) : Type 0 where
  pub kind : reply.kind ≡ tabular_result
  pub rejects : RejectsPayload turn reply.payload end
