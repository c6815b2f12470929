-- [MS-TDS] 2.2.6.4: LOGIN7. Each field is said by where it stands in the whole payload, as the standard's
-- table has it, and `login_of` gives the refusal or the login at once. The code first looks for a refusal,
-- over the same table of fields, and only then reads user, password and database, each by its own place;
-- for an empty one it cuts nothing out of the payload.
use Rattle.std.specs.Prelude.{ℕ, ◌+◌, ◌*◌, ◌/◌, ◌%◌, ◌==◌, ◌&&◌, ◌||◌, not, Bool, nat_lt, if◌then◌else◌, List, [], ◌∷◌, length, take, drop, map, bit_xor, Option, None, Some, Result, Ok, Err}
use Rattle.std.specs.List.{find}
use Rattle.byteorder.specs.Endian.{little_number}
use Rattle.value_types.specs.Units.{units_of}
use Rattle.tds_login.specs.declared.login.Field.{Field}
use Rattle.tds_login.specs.declared.login.Login.{Login}
use Rattle.tds_login.specs.declared.login.LoginFault.{LoginFault}
use Rattle.tds_login.specs.declared.login.LoginFault.TheVariants.{Short, Length, Version, Range}

-- ---- the fixed part

-- how many bytes it has
abbrev pub fixed_length : ℕ
fixed_length = 94

-- a number of four bytes, the lowest first
abbrev pub long_at : List ℕ → ℕ → ℕ
long_at payload offset = little_number 4 (drop offset payload)

-- a number of two bytes, the lower first
abbrev pub short_at : List ℕ → ℕ → ℕ
short_at payload offset = little_number 2 (drop offset payload)

-- Length: how many bytes the login has
abbrev pub login_length : List ℕ → ℕ
login_length payload = long_at payload 0

-- TDSVersion
abbrev pub tds_version : List ℕ → ℕ
tds_version payload = long_at payload 4

-- PacketSize: the size of packets that the client asks for
abbrev pub packet_size : List ℕ → ℕ
packet_size payload = long_at payload 8

-- the version that is served: TDS 7.4
abbrev pub served_version : ℕ
served_version = 0x74000004

-- ---- the variable part

-- where UserName stands: its offset, and behind that its count
abbrev pub user_place : ℕ
user_place = 40

-- where Password stands
abbrev pub password_place : ℕ
password_place = 44

-- where Database stands
abbrev pub database_place : ℕ
database_place = 68

-- the fields, each by its number, where its offset and behind that its count stand, and how many bytes it
-- counts as one: HostName, UserName, Password, AppName, ServerName, Extension, CltIntName, Language,
-- Database, SSPI, AtchDBFile, ChangePassword; characters of two bytes, but for Extension and SSPI
unfoldable pub fields : List Field
fields =
    record { number = 0; place = 36; unit = 2 }
    ∷ record { number = 1; place = user_place; unit = 2 }
    ∷ record { number = 2; place = password_place; unit = 2 }
    ∷ record { number = 3; place = 48; unit = 2 }
    ∷ record { number = 4; place = 52; unit = 2 }
    ∷ record { number = 5; place = 56; unit = 1 }
    ∷ record { number = 6; place = 60; unit = 2 }
    ∷ record { number = 7; place = 64; unit = 2 }
    ∷ record { number = 8; place = database_place; unit = 2 }
    ∷ record { number = 9; place = 78; unit = 1 }
    ∷ record { number = 10; place = 82; unit = 2 }
    ∷ record { number = 11; place = 86; unit = 2 }
    ∷ []

-- how many bytes a field has
abbrev pub bytes_of_field : List ℕ → Field → ℕ
bytes_of_field payload field = field.unit * short_at payload (field.place + 2)

-- a field that has something, and passes the Length field
abbrev pub is_outside : List ℕ → Field → Bool
is_outside payload field = not (short_at payload (field.place + 2) == 0) && nat_lt (login_length payload) (short_at payload field.place + bytes_of_field payload field)

-- the bytes of a field of characters, by where its offset and count stand
abbrev pub field_bytes : List ℕ → ℕ → List ℕ
field_bytes payload place = take (2 * short_at payload (place + 2)) (drop (short_at payload place) payload)

-- a byte of a password, which is sent with its nibbles swapped and then each bit of 0xA5 turned round
abbrev pub plain_byte : ℕ → ℕ
plain_byte byte = let turned = bit_xor byte 0xA5 in (turned % 16) * 16 + turned / 16

-- the units of a password, by its bytes as they are sent
abbrev pub password_units : List ℕ → List ℕ
password_units bytes = units_of (map {A = ℕ} {B = ℕ} plain_byte bytes)

-- ---- what a payload says

-- its fields, where none is outside
abbrev pub login_by : List ℕ → Option Field → Result Login LoginFault
login_by payload (Some field) = Err (Range field.number)
login_by payload None = Ok (record {
  version = tds_version payload;
  packet_size = packet_size payload;
  user = units_of (field_bytes payload user_place);
  password = password_units (field_bytes payload password_place);
  database = units_of (field_bytes payload database_place);
})

-- what a payload says as a LOGIN7, or the first refusal
unfoldable pub login_of : List ℕ → Result Login LoginFault
login_of payload =
    if nat_lt (length payload) fixed_length then Err Short
    else if nat_lt (login_length payload) fixed_length || nat_lt (length payload) (login_length payload) then Err Length
    else if not (tds_version payload == served_version) then Err Version
    else login_by payload (find (is_outside payload) fields)
