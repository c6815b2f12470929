use Rattle.std.proofs.Common.{arith}
use Rattle.std.proofs.lemmas.List.Sums.{prefix_len-le-length}
use Rattle.convert_rules.specs.Reading.{is_space}
use Rattle.convert_rules.proofs.reading.read_number.Goals as goal

pub split_at-requires : goal.split_at-requires
split_at-requires c = omega (arith, prefix_len-le-length is_space c.args.text.now)
