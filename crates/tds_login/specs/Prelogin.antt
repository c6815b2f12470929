-- [MS-TDS] 2.2.6.5: PRELOGIN. The options are read out of the whole payload, each with its place; the
-- code walks over them without a list.
use Rattle.std.specs.Prelude.{ℕ, Bool, ◌+◌, ◌==◌, ◌&&◌, nat_le, nat_lt, if◌then◌else◌, List, [], ◌∷◌, ◌++◌, length, slice_index, Option, None, Some, Result, Ok, Err}
use Rattle.std.specs.List.{find}
use Rattle.std.specs.Int.{w16, to_be_bytes}
use Rattle.byteorder.specs.Endian.{big_from}
use Rattle.tds_login.specs.declared.prelogin.Prelogin.{Prelogin}
use Rattle.tds_login.specs.declared.prelogin.PreloginFault.{PreloginFault}
use Rattle.tds_login.specs.declared.prelogin.PreloginFault.TheVariants.{NoEnd, Range}

-- an option: its token, and where its value stands in the payload
pub record PreloginOption : Type 0 where
  pub token : ℕ
  pub offset : ℕ
  pub length : ℕ

-- ---- the tokens of options

-- VERSION
abbrev pub version_token : ℕ
version_token = 0x00

-- ENCRYPTION
abbrev pub encryption_token : ℕ
encryption_token = 0x01

-- INSTOPT
abbrev pub instopt_token : ℕ
instopt_token = 0x02

-- THREADID
abbrev pub threadid_token : ℕ
threadid_token = 0x03

-- MARS
abbrev pub mars_token : ℕ
mars_token = 0x04

-- TERMINATOR, which ends the options
abbrev pub terminator : ℕ
terminator = 0xFF

-- ---- the options of a payload

-- the option that five bytes are: its token, and two numbers of two bytes, the higher first
abbrev pub option_at : List ℕ → PreloginOption
option_at bytes = record { token = slice_index bytes 0; offset = big_from 1 2 bytes; length = big_from 3 2 bytes }

-- an option before others
abbrev pub with_option : PreloginOption → Option (List PreloginOption) → Option (List PreloginOption)
with_option option None = None
with_option option (Some options) = Some (option ∷ options)

-- the options up to the terminator, five bytes each, or none where it is missing
abbrev pub options_of : List ℕ → Option (List PreloginOption)
options_of [] = None
options_of (token ∷ []) = if token == terminator then Some [] else None
options_of (token ∷ a ∷ []) = if token == terminator then Some [] else None
options_of (token ∷ a ∷ b ∷ []) = if token == terminator then Some [] else None
options_of (token ∷ a ∷ b ∷ c ∷ []) = if token == terminator then Some [] else None
options_of (token ∷ a ∷ b ∷ c ∷ d ∷ rest) = if token == terminator then Some []
    else with_option (option_at (token ∷ a ∷ b ∷ c ∷ d ∷ [])) (options_of rest)

-- the option's value passes the payload
abbrev pub is_outside : List ℕ → PreloginOption → Bool
is_outside payload option = nat_lt (length payload) (option.offset + option.length)

-- the option is an ENCRYPTION that has a value
abbrev pub has_encryption : PreloginOption → Bool
has_encryption option = option.token == encryption_token && nat_le 1 option.length

-- the first byte of an option's value, where there is an option
abbrev pub value_in : List ℕ → Option PreloginOption → Option ℕ
value_in payload None = None
value_in payload (Some option) = Some (slice_index payload option.offset)

-- the value of the first ENCRYPTION that has one
abbrev pub encryption_in : List ℕ → List PreloginOption → Option ℕ
encryption_in payload options = value_in payload (find has_encryption options)

-- what the options say, unless one is outside the payload, which refuses it
abbrev pub prelogin_unless : List ℕ → List PreloginOption → Option PreloginOption → Result Prelogin PreloginFault
prelogin_unless payload options None = Ok (record { encryption = encryption_in payload options })
prelogin_unless payload options (Some option) = Err (Range option.token)

-- what the options say, where the list of them is ended
abbrev pub prelogin_by : List ℕ → Option (List PreloginOption) → Result Prelogin PreloginFault
prelogin_by payload None = Err NoEnd
prelogin_by payload (Some options) = prelogin_unless payload options (find (is_outside payload) options)

-- what a payload says as a PRELOGIN: its end is looked for first, and then the options' places
unfoldable pub prelogin_of : List ℕ → Result Prelogin PreloginFault
prelogin_of payload = prelogin_by payload (options_of payload)

-- ---- the reply

-- the bytes of an option
abbrev pub option_bytes : PreloginOption → List ℕ
option_bytes option = option.token ∷ to_be_bytes w16 option.offset ++ to_be_bytes w16 option.length

-- ENCRYPT_NOT_SUP: encryption is not supported
abbrev pub encrypt_not_sup : ℕ
encrypt_not_sup = 0x02

-- The reply to every PRELOGIN: VERSION 15.0.0.0, ENCRYPTION not supported, INSTOPT 0, THREADID empty, MARS
-- off (own; 2.2.6.5): five options and the terminator, 26 bytes, and behind them the values.
abbrev pub prelogin_reply : List ℕ
prelogin_reply =
    option_bytes (record { token = version_token; offset = 26; length = 6 })
    ++ option_bytes (record { token = encryption_token; offset = 32; length = 1 })
    ++ option_bytes (record { token = instopt_token; offset = 33; length = 1 })
    ++ option_bytes (record { token = threadid_token; offset = 34; length = 0 })
    ++ option_bytes (record { token = mars_token; offset = 34; length = 1 })
    ++ terminator ∷ 15 ∷ 0 ∷ 0 ∷ 0 ∷ 0 ∷ 0 ∷ encrypt_not_sup ∷ 0 ∷ 0 ∷ []
