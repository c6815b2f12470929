use Rattle.std.proofs.Common.{arith}
use Rattle.std.proofs.lemmas.List.Sums.{prefix_len-le-length}
use Rattle.convert_rules.specs.Reading.{is_digit}
use Rattle.convert_rules.proofs.reading.digits_in.Goals as goal

pub split_at-requires : goal.split_at-requires
split_at-requires c = omega (arith, prefix_len-le-length is_digit c.args.units.now)
