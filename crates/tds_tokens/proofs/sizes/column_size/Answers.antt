use Rattle.std.proofs.Common.{arith}
use Rattle.tds_tokens.proofs.Lengths.{length-column_bytes}
use Rattle.tds_tokens.proofs.sizes.column_size.Goals as goal

pub returns : goal.returns
returns c = omega (arith, length-column_bytes c.args.column.now)
