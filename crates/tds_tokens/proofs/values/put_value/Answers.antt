use Rattle.std.proofs.Common.{length, ap, arith}
use Rattle.tds_tokens.proofs.Lengths.{length-text}
use Rattle.tds_tokens.proofs.values.put_value.Goals as goal

pub put_text-requires-clause-room : goal.put_text-requires-clause-room
put_text-requires-clause-room c =
    let fits = rw c.in-Text.is at c.requires.fits in
    let room = rw c.in-Text.is at c.requires.room in
    omega (arith, room, length-text c.args.kind c.in-Text.units fits, ap length c.as_slice.ensures)
