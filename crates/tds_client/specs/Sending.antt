-- [MS-TDS] 2.2.6.5, 2.2.6.4 and 2.2.6.7: what a client sends for one batch: a PRELOGIN, a LOGIN7 and the batch's text, each
-- a message. Each payload is said field by field in the order of the standard's table; the code appends to a buffer.
use Rattle.std.specs.Prelude.{ℕ, ◌+◌, ◌*◌, ◌/◌, ◌%◌, ◌≤◌, List, [], ◌∷◌, ◌++◌, length, map, bit_xor}
use Rattle.std.specs.Int.{w16, w32, to_le_bytes}
use Rattle.value_types.specs.Units.{le_bytes_of}
use Rattle.tds_packets.specs.Header.{prelogin, login7, sql_batch}
use Rattle.tds_packets.specs.Packets.{Packets, default_size}
use Rattle.tds_login.specs.Login.{fixed_length, served_version}
use Rattle.tds_login.specs.Prelogin.{option_bytes, version_token, encryption_token, terminator, encrypt_not_sup}
use Rattle.tds_client.specs.declared.login.ClientLogin.{ClientLogin}
use Rattle.tds_client.specs.declared.turn.Turn.{Turn}
use Rattle.tds_client.specs.declared.turn.Turn.TheVariants as turns

-- ---- PRELOGIN

-- two options and the terminator, 11 bytes, and behind them the values: VERSION 0, ENCRYPTION not supported
unfoldable pub prelogin_payload : List ℕ
prelogin_payload =
    option_bytes (record { token = version_token; offset = 11; length = 6 })
    ++ option_bytes (record { token = encryption_token; offset = 17; length = 1 })
    ++ terminator ∷ 0 ∷ 0 ∷ 0 ∷ 0 ∷ 0 ∷ 0 ∷ encrypt_not_sup ∷ []

-- ---- LOGIN7

-- the most units that a user and a password have (2.2.6.4)
abbrev pub name_limit : ℕ
name_limit = 128

-- a login that fits
pub record FitsLogin (login : ClientLogin) : Type 0 where
  pub user : length login.user ≤ name_limit
  pub password : length login.password ≤ name_limit

-- where the password begins: behind the fixed part and the user
abbrev pub password_start : ClientLogin → ℕ
password_start login = fixed_length + 2 * length login.user

-- where the login ends
abbrev pub login_end : ClientLogin → ℕ
login_end login = password_start login + 2 * length login.password

-- Length, TDSVersion, PacketSize; ClientProgVer, ClientPID and ConnectionID 0; no flags; time zone 0; LCID 0x0409
unfoldable pub login_front : ℕ → List ℕ
login_front end =
    to_le_bytes w32 end ++ to_le_bytes w32 served_version ++ to_le_bytes w32 default_size
    ++ 0 ∷ 0 ∷ 0 ∷ 0 ∷ 0 ∷ 0 ∷ 0 ∷ 0 ∷ 0 ∷ 0 ∷ 0 ∷ 0
    ∷ 0 ∷ 0 ∷ 0 ∷ 0
    ∷ 0 ∷ 0 ∷ 0 ∷ 0
    ∷ 0x09 ∷ 0x04 ∷ 0 ∷ 0 ∷ []

-- where a field begins, and how many characters it has
abbrev pub place_bytes : ℕ → ℕ → List ℕ
place_bytes start count = to_le_bytes w16 start ++ to_le_bytes w16 count

-- three fields that are empty
unfoldable pub three_empty : ℕ → List ℕ
three_empty start = place_bytes start 0 ++ place_bytes start 0 ++ place_bytes start 0

-- HostName, UserName and Password, of so many units; AppName, ServerName, Extension, CltIntName, Language and Database
unfoldable pub login_places : ℕ → ℕ → ℕ → ℕ → List ℕ
login_places user start password end =
    place_bytes fixed_length 0 ++ place_bytes fixed_length user ++ place_bytes start password
    ++ three_empty end ++ three_empty end

-- ClientID 0; SSPI, AtchDBFile and ChangePassword; the long length of SSPI
unfoldable pub login_back : ℕ → List ℕ
login_back end = (0 ∷ 0 ∷ 0 ∷ 0 ∷ 0 ∷ 0 ∷ []) ++ three_empty end ++ 0 ∷ 0 ∷ 0 ∷ 0 ∷ []

-- a byte of a password as it is sent: its nibbles swapped, and then each bit of 0xA5 turned round
abbrev pub password_byte : ℕ → ℕ
password_byte byte = bit_xor ((byte % 16) * 16 + byte / 16) 0xA5

-- a password as it is sent
abbrev pub password_bytes : List ℕ → List ℕ
password_bytes units = map {A = ℕ} {B = ℕ} password_byte (le_bytes_of units)

-- TDS 7.4, packets of 4096 bytes, this user and password, and nothing else
unfoldable pub login_payload : ClientLogin → List ℕ
login_payload login =
    login_front (login_end login)
    ++ login_places (length login.user) (password_start login) (length login.password) (login_end login)
    ++ login_back (login_end login)
    ++ le_bytes_of login.user
    ++ password_bytes login.password

-- ---- the batch

-- the most units of a text (own)
abbrev pub text_limit : ℕ
text_limit = 500000

-- ALL_HEADERS with a transaction descriptor (2.2.5.3)
abbrev pub all_headers : List ℕ
all_headers = 0x16 ∷ 0 ∷ 0 ∷ 0 ∷ 0x12 ∷ 0 ∷ 0 ∷ 0 ∷ 0x02 ∷ 0 ∷ 0 ∷ 0 ∷ 0 ∷ 0 ∷ 0 ∷ 0 ∷ 0 ∷ 0 ∷ 1 ∷ 0 ∷ 0 ∷ 0 ∷ []

-- the headers and the text
unfoldable pub batch_payload : List ℕ → List ℕ
batch_payload text = all_headers ++ le_bytes_of text

-- ---- the three messages

-- the type of a message's packets
abbrev pub kind_at : Turn → ℕ
kind_at turns.Prelogin = prelogin
kind_at turns.Login = login7
kind_at turns.Batch = sql_batch

-- the packets that carry a payload; a client's have SPID 0
abbrev pub packets_at : Turn → List ℕ → List ℕ
packets_at turn payload = Packets (kind_at turn) 0 default_size payload

-- what a message carries
abbrev pub payload_at : ClientLogin → List ℕ → Turn → List ℕ
payload_at login text turns.Prelogin = prelogin_payload
payload_at login text turns.Login = login_payload login
payload_at login text turns.Batch = batch_payload text

-- the bytes of a message
abbrev pub message_at : ClientLogin → List ℕ → Turn → List ℕ
message_at login text turn = packets_at turn (payload_at login text turn)

-- the bytes of the messages in front of it
abbrev pub sent_before : ClientLogin → Turn → List ℕ
sent_before login turns.Prelogin = []
sent_before login turns.Login = packets_at turns.Prelogin prelogin_payload
sent_before login turns.Batch = packets_at turns.Prelogin prelogin_payload ++ packets_at turns.Login (login_payload login)

-- all that a client sends for this text
abbrev pub ClientBytes : ClientLogin → List ℕ → List ℕ
ClientBytes login text = sent_before login turns.Batch ++ message_at login text turns.Batch
