-- [MS-TDS] 2.2.1 and 2.2.7: the replies that a server's bytes are, and the numbers that are read off them. It is said of the
-- whole list of replies; the code reads one after another.
use Rattle.std.specs.Prelude.{◌≡◌, ℕ, ℤ, Bool, true, false, not, List, [], ◌∷◌, ◌++◌, length, filter, Option, None, Some, codes}
use Rattle.std.specs.List.{AllZip, list_any}
use Rattle.std.specs.Option.{option_or}
use Rattle.std.specs.Fmt.{decimal, signed_decimal}
use Rattle.value_types.specs.declared.value.Value.{Value}
use Rattle.value_types.specs.declared.value.Value.TheVariants.{Null, Whole, Bit, Text}
use Rattle.tds_packets.specs.declared.message.Message.{Message}
use Rattle.tds_packets.specs.Stream.{Splits}
use Rattle.tds_tokens.specs.declared.token.Token.{Token}
use Rattle.tds_tokens.specs.declared.token.Token.TheVariants.{LoginAck, Error, Info, EnvText, EnvBytes, Columns, Row, ReturnStatus, ReturnValue, Finished}
use Rattle.tds_tokens.specs.Ranges.{AreTokens}
use Rattle.tds_tokens.specs.Spelling.{TokenBytes}

-- ---- replies

-- the message carries these tokens
pub record Carries (message : Message) (tokens : List Token) : Type 0 where
  pub are : AreTokens [] tokens
  pub spelled : TokenBytes tokens ≡ message.payload

-- The bytes are messages that carry these tokens, and nothing else. There is one such list for some bytes at most.
pub record AreReplies (bytes : List ℕ) (replies : List (List Token)) : Type 0 where
  pub messages : List Message
  pub split : Splits bytes messages []
  pub each : AllZip Carries messages replies

-- ---- transfers

abbrev pub is_error : Token → Bool
is_error (Error notice) = true
is_error (LoginAck version program release) = false
is_error (Info notice) = false
is_error (EnvText kind fresh former) = false
is_error (EnvBytes kind fresh former) = false
is_error (Columns described) = false
is_error (Row values) = false
is_error (ReturnStatus status) = false
is_error (ReturnValue ordinal name kind value) = false
is_error (Finished kind status command rows) = false

-- a reply to a transfer that was refused has an ERROR
abbrev pub is_refused : List Token → Bool
is_refused tokens = list_any is_error tokens

abbrev pub refused_in : List (List Token) → ℕ
refused_in replies = length (filter is_refused replies)

abbrev pub transfers_in : List (List Token) → ℕ
transfers_in replies = length (filter (λ tokens. not (is_refused tokens)) replies)

-- ---- a total

abbrev pub whole_in : Value → Option ℤ
whole_in (Whole number) = Some number
whole_in Null = None
whole_in (Bit bit) = None
whole_in (Text units) = None

-- the first value, where it is a number
abbrev pub first_number : List Value → Option ℤ
first_number [] = None
first_number (value ∷ values) = whole_in value

abbrev pub row_number : Token → Option ℤ
row_number (Row values) = first_number values
row_number (LoginAck version program release) = None
row_number (Error notice) = None
row_number (Info notice) = None
row_number (EnvText kind fresh former) = None
row_number (EnvBytes kind fresh former) = None
row_number (Columns described) = None
row_number (ReturnStatus status) = None
row_number (ReturnValue ordinal name kind value) = None
row_number (Finished kind status command rows) = None

-- the number of a reply: that of the first row which has one
abbrev pub number_in : List Token → Option ℤ
number_in [] = None
number_in (token ∷ tokens) = option_or (row_number token) (number_in tokens)

-- ---- the summary

abbrev pub number_text : Option ℤ → List ℕ
number_text None = codes "none"
number_text (Some number) = signed_decimal number

-- what is printed of these numbers
unfoldable pub summary_text : ℕ → ℕ → Option ℤ → List ℕ
summary_text transfers refused total =
    codes "transfers " ++ decimal transfers ++ codes "\nrefused " ++ decimal refused ++ codes "\ntotal " ++ number_text total ++ codes "\n"
