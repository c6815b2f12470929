-- The bytes of rows where the columns or the values end.
use Rattle.std.proofs.Common.{◌≡◌, List, [], ◌∷◌, length, refl, arith}
use Rattle.value_types.specs.declared.value.Value.{Value}
use Rattle.tds_tokens.specs.declared.columns.ColumnInfo.{ColumnInfo}
use Rattle.tds_tokens.specs.Spelling.{row_bytes}

pub row_bytes-no_columns : (columns : List ColumnInfo) (values : List Value) → length columns ≡ 0 → row_bytes columns values ≡ []
row_bytes-no_columns [] values none = refl
row_bytes-no_columns (column ∷ columns) values none = absurd (omega arith)

pub row_bytes-no_values : (columns : List ColumnInfo) (values : List Value) → length values ≡ 0 → row_bytes columns values ≡ []
row_bytes-no_values [] values none = refl
row_bytes-no_values (column ∷ columns) [] none = refl
row_bytes-no_values (column ∷ columns) (value ∷ values) none = absurd (omega arith)
