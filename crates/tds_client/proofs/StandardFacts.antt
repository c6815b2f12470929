-- The definitions at what a client is known to send, at replies that a server is known to send, and at a value of every kind.
use Rattle.std.proofs.Common.{◌≡◌, List, [], ◌∷◌, None, Some, Ok, Err, true, false, pos, negsuc, refl}
use Rattle.std.specs.Prelude.{codes}
use Rattle.std.specs.Fmt.{digits}
use Rattle.std.specs.Char.{encode_utf8}
use Rattle.std.specs.Char.Utf16.{utf16_chars}
use Rattle.value_types.specs.declared.sql_type.SqlType.TheVariants.{Int, NText}
use Rattle.value_types.specs.declared.value.Value.TheVariants.{Null, Whole, Bit, Text}
use Rattle.tds_tokens.specs.declared.token.DoneKind.TheVariants.{Done as DoneToken, Proc}
use Rattle.tds_tokens.specs.declared.token.Token.{Token}
use Rattle.tds_tokens.specs.declared.token.Token.TheVariants.{LoginAck, Error, Info, EnvText, Columns, Row, ReturnStatus, ReturnValue, Finished}
use Rattle.tds_login.specs.Login.{fields, login_of}
use Rattle.tds_login.specs.Prelogin.{prelogin_of, prelogin_reply}
use Rattle.tds_client.specs.declared.login.ClientLogin.{ClientLogin}
use Rattle.tds_client.specs.declared.end.ClientEnd.TheVariants.{Done, Encrypted, Refused, BadPrelogin}
use Rattle.tds_login.specs.declared.prelogin.PreloginFault.TheVariants.{NoEnd}
use Rattle.tds_client.specs.declared.turn.Turn.TheVariants as turns
use Rattle.tds_client.specs.Sending.{batch_payload, login_back, login_front, login_payload, login_places, message_at, prelogin_payload, three_empty}
use Rattle.tds_client.specs.Printing.{Print, count_text, error_head, error_text, token_text, utf8_of, value_text}
use Rattle.tds_client.specs.Replies.{greeting_of, last_end}

-- ---- what is sent

abbrev pub sa : ClientLogin
sa = record { user = codes "sa"; password = codes "A" }

-- the PRELOGIN, 26 bytes
pub prelogin_sent : message_at sa [] turns.Prelogin ≡
    0x12 ∷ 0x01 ∷ 0x00 ∷ 0x1A ∷ 0x00 ∷ 0x00 ∷ 0x01 ∷ 0x00 ∷ 0x00 ∷ 0x00 ∷ 0x0B ∷ 0x00 ∷ 0x06 ∷ 0x01 ∷ 0x00 ∷ 0x11
    ∷ 0x00 ∷ 0x01 ∷ 0xFF ∷ 0x00 ∷ 0x00 ∷ 0x00 ∷ 0x00 ∷ 0x00 ∷ 0x00 ∷ 0x02 ∷ []
unfolding prelogin_payload
prelogin_sent = refl

-- the login of `sa` with the password `A`, 108 bytes
pub login_sent : message_at sa [] turns.Login ≡
    0x10 ∷ 0x01 ∷ 0x00 ∷ 0x6C ∷ 0x00 ∷ 0x00 ∷ 0x01 ∷ 0x00
    ∷ 0x64 ∷ 0x00 ∷ 0x00 ∷ 0x00 ∷ 0x04 ∷ 0x00 ∷ 0x00 ∷ 0x74 ∷ 0x00 ∷ 0x10 ∷ 0x00 ∷ 0x00 ∷ 0x00 ∷ 0x00 ∷ 0x00 ∷ 0x00
    ∷ 0x00 ∷ 0x00 ∷ 0x00 ∷ 0x00 ∷ 0x00 ∷ 0x00 ∷ 0x00 ∷ 0x00
    ∷ 0x00 ∷ 0x00 ∷ 0x00 ∷ 0x00 ∷ 0x00 ∷ 0x00 ∷ 0x00 ∷ 0x00 ∷ 0x09 ∷ 0x04 ∷ 0x00 ∷ 0x00
    ∷ 0x5E ∷ 0x00 ∷ 0x00 ∷ 0x00 ∷ 0x5E ∷ 0x00 ∷ 0x02 ∷ 0x00 ∷ 0x62 ∷ 0x00 ∷ 0x01 ∷ 0x00
    ∷ 0x64 ∷ 0x00 ∷ 0x00 ∷ 0x00 ∷ 0x64 ∷ 0x00 ∷ 0x00 ∷ 0x00 ∷ 0x64 ∷ 0x00 ∷ 0x00 ∷ 0x00
    ∷ 0x64 ∷ 0x00 ∷ 0x00 ∷ 0x00 ∷ 0x64 ∷ 0x00 ∷ 0x00 ∷ 0x00 ∷ 0x64 ∷ 0x00 ∷ 0x00 ∷ 0x00
    ∷ 0x00 ∷ 0x00 ∷ 0x00 ∷ 0x00 ∷ 0x00 ∷ 0x00
    ∷ 0x64 ∷ 0x00 ∷ 0x00 ∷ 0x00 ∷ 0x64 ∷ 0x00 ∷ 0x00 ∷ 0x00 ∷ 0x64 ∷ 0x00 ∷ 0x00 ∷ 0x00
    ∷ 0x00 ∷ 0x00 ∷ 0x00 ∷ 0x00
    ∷ 0x73 ∷ 0x00 ∷ 0x61 ∷ 0x00 ∷ 0xB1 ∷ 0xA5 ∷ []
unfolding login_payload login_front login_places login_back three_empty
login_sent = refl

-- the batch `SELECT 1`, 46 bytes
pub batch_sent : message_at sa (codes "SELECT 1") turns.Batch ≡
    0x01 ∷ 0x01 ∷ 0x00 ∷ 0x2E ∷ 0x00 ∷ 0x00 ∷ 0x01 ∷ 0x00 ∷ 0x16 ∷ 0x00 ∷ 0x00 ∷ 0x00 ∷ 0x12 ∷ 0x00 ∷ 0x00 ∷ 0x00
    ∷ 0x02 ∷ 0x00 ∷ 0x00 ∷ 0x00 ∷ 0x00 ∷ 0x00 ∷ 0x00 ∷ 0x00 ∷ 0x00 ∷ 0x00 ∷ 0x01 ∷ 0x00 ∷ 0x00 ∷ 0x00
    ∷ 0x53 ∷ 0x00 ∷ 0x45 ∷ 0x00 ∷ 0x4C ∷ 0x00 ∷ 0x45 ∷ 0x00 ∷ 0x43 ∷ 0x00 ∷ 0x54 ∷ 0x00 ∷ 0x20 ∷ 0x00 ∷ 0x31 ∷ 0x00 ∷ []
unfolding batch_payload
batch_sent = refl

-- a server reads the PRELOGIN and the login as what they are
pub prelogin_read : prelogin_of prelogin_payload ≡ Ok (record { encryption = Some 2 })
unfolding prelogin_payload prelogin_of
prelogin_read = refl

pub login_read : login_of (login_payload sa) ≡ Ok (record { version = 0x74000004; packet_size = 4096; user = codes "sa"; password = codes "A"; database = [] })
unfolding login_payload login_front login_places login_back three_empty login_of fields
login_read = refl

-- ---- replies

-- the server's reply to a PRELOGIN lets a client go on
pub reply_greets : greeting_of prelogin_reply ≡ Ok tt
unfolding greeting_of prelogin_of
reply_greets = refl

-- one without ENCRYPTION too, one that asks for encryption does not, and neither does one that does not end
pub silent_greets : greeting_of (0xFF ∷ []) ≡ Ok tt
unfolding greeting_of prelogin_of
silent_greets = refl

pub encrypted_ends : greeting_of (0x01 ∷ 0x00 ∷ 0x06 ∷ 0x00 ∷ 0x01 ∷ 0xFF ∷ 0x01 ∷ []) ≡ Err (Encrypted 1)
unfolding greeting_of prelogin_of
encrypted_ends = refl

pub endless_ends : greeting_of [] ≡ Err (BadPrelogin NoEnd)
unfolding greeting_of prelogin_of
endless_ends = refl

-- a wrong password
abbrev pub wrong_password : List Token
wrong_password =
    Error (record { number = pos 18456; state = 1; class = 14; text = codes "Login failed."; procedure = []; line = pos 1 })
    ∷ Finished DoneToken 2 0 0
    ∷ []

pub refused_ends : last_end turns.Login wrong_password ≡ Some (Refused (pos 18456))
refused_ends = refl

pub refusal_printed : Print wrong_password ≡ codes "error 18456, class 14, line 1: Login failed.\n"
unfolding token_text count_text error_text error_head digits encode_utf8 utf16_chars
refusal_printed = refl

-- no LOGINACK and no ERROR, and a login that is granted
pub nothing_ends : last_end turns.Login [] ≡ Some (Refused (pos 0))
nothing_ends = refl

pub granted_ends : last_end turns.Login (LoginAck 0x74000004 (codes "tsqld") 0x0F000000 ∷ []) ≡ None
granted_ends = refl

pub answered_ends : last_end turns.Batch wrong_password ≡ Some Done
answered_ends = refl

-- ---- what is printed

-- `SELECT 1 AS a, N'x' AS b`
pub select_printed : Print
    (Columns (record { kind = Int; name = codes "a" } ∷ record { kind = NText 1; name = codes "b" } ∷ [])
    ∷ Row (Whole (pos 1) ∷ Text (codes "x") ∷ [])
    ∷ Finished DoneToken 0x11 0xC1 1
    ∷ Finished DoneToken 0 0 0
    ∷ []) ≡ codes "a|b\n1|x\n(1 rows)\n"
unfolding token_text count_text value_text digits encode_utf8 utf16_chars
select_printed = refl

-- `SELECT 1/0; PRINT N'on'`
pub divide_printed : Print
    (Error (record { number = pos 8134; state = 1; class = 16; text = codes "Divide by zero error encountered."; procedure = []; line = pos 1 })
    ∷ Finished DoneToken 3 0xC1 0
    ∷ Info (record { number = pos 0; state = 1; class = 0; text = codes "on"; procedure = []; line = pos 1 })
    ∷ Finished DoneToken 0 0 0
    ∷ []) ≡ codes "error 8134, class 16, line 1: Divide by zero error encountered.\non\n"
unfolding token_text error_text error_head count_text digits encode_utf8 utf16_chars
divide_printed = refl

-- a value of every kind, a status, an OUTPUT parameter, and an ENVCHANGE, which is not printed
pub every_printed : Print
    (Row (Null ∷ Whole (negsuc 0) ∷ Bit true ∷ Bit false ∷ Text [] ∷ [])
    ∷ Row []
    ∷ ReturnStatus (negsuc 3)
    ∷ ReturnValue 2 (codes "@n") Int (Whole (pos 1))
    ∷ EnvText 1 (codes "main") []
    ∷ Finished Proc 0 0 0
    ∷ []) ≡ codes "NULL|-1|1|0|\n\nreturn -4\n@n = 1\n"
unfolding token_text count_text value_text digits encode_utf8 utf16_chars
every_printed = refl

-- U+20AC; a pair of surrogates, U+1F600; and a surrogate that has no partner
pub euro_utf8 : utf8_of (0x20AC ∷ []) ≡ 0xE2 ∷ 0x82 ∷ 0xAC ∷ []
unfolding encode_utf8 utf16_chars
euro_utf8 = refl

pub pair_utf8 : utf8_of (0xD83D ∷ 0xDE00 ∷ []) ≡ 0xF0 ∷ 0x9F ∷ 0x98 ∷ 0x80 ∷ []
unfolding encode_utf8 utf16_chars
pair_utf8 = refl

pub lone_utf8 : utf8_of (0xD83D ∷ 0x41 ∷ []) ≡ 0xEF ∷ 0xBF ∷ 0xBD ∷ 0x41 ∷ []
unfolding encode_utf8 utf16_chars
lone_utf8 = refl
