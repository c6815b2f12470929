use Rattle.std.proofs.Common.{arith, length, length-append, ap}
use Rattle.tds_tokens.specs.Spelling.{b_varchar, type_info}
use Rattle.tds_tokens.proofs.Lengths.{length-le_bytes_of}
use Rattle.tds_tokens.proofs.writing.put_column.Goals as goal

pub put_b_varchar-requires-clause-room : goal.put_b_varchar-requires-clause-room
put_b_varchar-requires-clause-room c =
    let column = c.args.column.now in
    omega (arith, length-append (type_info column.kind) (b_varchar column.name), length-le_bytes_of column.name, ap length c.as_slice.ensures)
