use Rattle.std.proofs.Common.{◌≡◌, [], inl, inr, length, ap, arith}
use Rattle.tds_tokens.specs.Spelling.{row_bytes}
use Rattle.tds_tokens.proofs.RowEnds.{row_bytes-no_columns, row_bytes-no_values}
use Rattle.tds_tokens.proofs.sizes.row_size.Goals as goal

pub returns : goal.returns
returns c =
    let columns = c.loop-column.column-iterator.a.rest.now in
    let values = c.loop-column.column-iterator.b.rest.now in
    let none : row_bytes columns values ≡ [] =
    elim c.in-None.ensures.steps [
      | inl ended ↦ row_bytes-no_columns columns values ended.1.0
      | inr ended ↦ row_bytes-no_values columns values ended.1.0
    ] in
    omega (arith, ap length none)
