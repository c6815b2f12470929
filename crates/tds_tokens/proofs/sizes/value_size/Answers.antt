use Rattle.std.proofs.Common.{arith}
use Rattle.tds_tokens.proofs.Lengths.{length-le_bytes_of}
use Rattle.tds_tokens.proofs.sizes.value_size.Goals as goal

pub returns-in-NText-Text : goal.returns-in-NText-Text
returns-in-NText-Text c =
    rw (c.in-NText-Text.is-0, c.in-NText-Text.is-1) (omega (arith, length-le_bytes_of c.in-NText-Text.units))
