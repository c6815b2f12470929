-- The bytes of a known response.
use Rattle.std.proofs.Common.{◌≡◌, List, [], ◌∷◌, pos, refl}
use Rattle.tds_tokens.specs.Spelling.{tokens_bytes}
use Rattle.tds_tokens.specs.declared.token.DoneKind.TheVariants.{Done}
use Rattle.tds_tokens.specs.declared.token.Token.{Token}
use Rattle.tds_tokens.specs.declared.token.Token.TheVariants.{Columns, Row, Finished}
use Rattle.value_types.specs.declared.sql_type.SqlType.TheVariants.{Int}
use Rattle.value_types.specs.declared.value.Value.TheVariants.{Whole}
use Rattle.session_server.specs.Response.{tabular}
use Rattle.session_server.specs.Talk.{response_bytes}

-- what SELECT 1 sends: a column, a row and its DONE, and the batch's DONE
abbrev select_tokens : List Token
select_tokens = Columns (record { kind = Int; name = [] } ∷ []) ∷ Row (Whole (pos 1) ∷ []) ∷ Finished Done 0x11 0xC1 1 ∷ Finished Done 0 0 0 ∷ []

-- its 52 bytes
select_bytes : response_bytes 51 (tabular 4096 select_tokens) ≡
    0x04 ∷ 0x01 ∷ 0x00 ∷ 0x34 ∷ 0x00 ∷ 0x33 ∷ 0x01 ∷ 0x00 ∷ 0x81 ∷ 0x01 ∷ 0x00 ∷ 0x00 ∷ 0x00 ∷ 0x00 ∷ 0x00 ∷ 0x01
    ∷ 0x00 ∷ 0x26 ∷ 0x04 ∷ 0x00 ∷ 0xD1 ∷ 0x04 ∷ 0x01 ∷ 0x00 ∷ 0x00 ∷ 0x00 ∷ 0xFD ∷ 0x11 ∷ 0x00 ∷ 0xC1 ∷ 0x00 ∷ 0x01
    ∷ 0x00 ∷ 0x00 ∷ 0x00 ∷ 0x00 ∷ 0x00 ∷ 0x00 ∷ 0x00 ∷ 0xFD ∷ 0x00 ∷ 0x00 ∷ 0x00 ∷ 0x00 ∷ 0x00 ∷ 0x00 ∷ 0x00 ∷ 0x00
    ∷ 0x00 ∷ 0x00 ∷ 0x00 ∷ 0x00 ∷ []
unfolding tokens_bytes
select_bytes = refl
