use Rattle.std.proofs.Common.{arith, length}
use Rattle.std.proofs.lemmas.List.{at_drop_all}
use Rattle.std.specs.List.{flat_map}
use Rattle.tds_tokens.specs.Spelling.{column_bytes}
use Rattle.tds_tokens.proofs.sizes.columns_size.Goals as goal

pub returns : goal.returns
returns c =
    omega (arith, at_drop_all (λ columns. length (flat_map column_bytes columns)) c.args.columns.now c.loop-column.column-index (omega arith))
