-- Own: what can be sent: tokens that have bytes.
use Rattle.std.specs.Prelude.{Bool, List}
use Rattle.value_types.specs.declared.value.Value.{Value}
use Rattle.tds_tokens.specs.declared.columns.ColumnInfo.{ColumnInfo}
use Rattle.tds_tokens.specs.declared.token.DoneKind.{DoneKind}
use Rattle.tds_tokens.specs.declared.token.Token.{Token}
use Rattle.tds_tokens.specs.Fit.{FitTokens}
use Rattle.batch_meaning.specs.Tokens.{result_tokens}

-- the tokens have bytes, whatever columns were described before them
abbrev pub IsFit : List Token → Type 0
IsFit tokens = (columns : List ColumnInfo) → FitTokens columns tokens

-- so have those of a result of these columns and rows
abbrev pub IsResult : DoneKind → Bool → List ColumnInfo → List (List Value) → Type 0
IsResult kind no_count columns rows = IsFit (result_tokens kind no_count columns rows)
