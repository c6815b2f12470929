-- Own: what the tokens of a reply are printed as, a line for each that says something. The code writes one line after another.
use Rattle.std.specs.Prelude.{ℕ, ◌/◌, ◌%◌, ◌==◌, true, false, if◌then◌else◌, List, [], ◌∷◌, ◌++◌, map, codes}
use Rattle.std.specs.List.{flat_map}
use Rattle.std.specs.Fmt.{decimal, signed_decimal}
use Rattle.std.specs.Str.{encode_utf8_all}
use Rattle.std.specs.Char.Utf16.{utf16_lossy_chars}
use Rattle.value_types.specs.declared.value.Value.{Value}
use Rattle.value_types.specs.declared.value.Value.TheVariants.{Null, Whole, Bit, Text}
use Rattle.tds_tokens.specs.declared.notice.Notice.{Notice}
use Rattle.tds_tokens.specs.declared.columns.ColumnInfo.{ColumnInfo}
use Rattle.tds_tokens.specs.declared.token.Token.{Token}
use Rattle.tds_tokens.specs.declared.token.Token.TheVariants.{LoginAck, Error, Info, EnvText, EnvBytes, Columns, Row, ReturnStatus, ReturnValue, Finished}
use Rattle.tds_tokens.specs.Numbers.{done_count}

-- a text in UTF-8, with U+FFFD, which is EF BF BD, for a surrogate that has no partner
abbrev pub utf8_of : List ℕ → List ℕ
utf8_of units = encode_utf8_all (utf16_lossy_chars units)

-- a value
unfoldable pub value_text : Value → List ℕ
value_text Null = codes "NULL"
value_text (Whole number) = signed_decimal number
value_text (Bit false) = codes "0"
value_text (Bit true) = codes "1"
value_text (Text units) = utf8_of units

-- the name of a column
abbrev pub name_text : ColumnInfo → List ℕ
name_text column = utf8_of column.name

-- texts, each behind a bar
abbrev pub behind_bars : List (List ℕ) → List ℕ
behind_bars [] = []
behind_bars (text ∷ texts) = codes "|" ++ text ++ behind_bars texts

-- texts, joined by bars
abbrev pub joined : List (List ℕ) → List ℕ
joined [] = []
joined (text ∷ texts) = text ++ behind_bars texts

-- the count of rows, where the DONE's status says that it is valid
unfoldable pub count_text : ℕ → ℕ → List ℕ
count_text status rows = if status / done_count % 2 == 1 then codes "(" ++ decimal rows ++ codes " rows)\n" else []

-- the number, the class and the line of an error
unfoldable pub error_head : Notice → List ℕ
error_head notice =
    codes "error " ++ signed_decimal notice.number ++ codes ", class " ++ decimal notice.class
    ++ codes ", line " ++ signed_decimal notice.line

-- an error
unfoldable pub error_text : Notice → List ℕ
error_text notice = error_head notice ++ codes ": " ++ utf8_of notice.text ++ codes "\n"

-- a token
unfoldable pub token_text : Token → List ℕ
token_text (Columns described) = joined (map name_text described) ++ codes "\n"
token_text (Row values) = joined (map value_text values) ++ codes "\n"
token_text (Finished kind status command rows) = count_text status rows
token_text (Error notice) = error_text notice
token_text (Info notice) = utf8_of notice.text ++ codes "\n"
token_text (ReturnStatus status) = codes "return " ++ signed_decimal status ++ codes "\n"
token_text (ReturnValue ordinal name kind value) = utf8_of name ++ codes " = " ++ value_text value ++ codes "\n"
token_text (LoginAck version program release) = []
token_text (EnvText kind fresh former) = []
token_text (EnvBytes kind fresh former) = []

-- the tokens of a reply
abbrev pub Print : List Token → List ℕ
Print tokens = flat_map token_text tokens
