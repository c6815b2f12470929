use Rattle.std.proofs.Common.{arith}
use Rattle.tsql_lexer.specs.Classes.{is_digit}
use Rattle.tsql_lexer.proofs.Runs.{run_within, run_passes}
use Rattle.tsql_lexer.proofs.piece.number_piece.Goals as goal

pub split_at-requires : goal.split_at-requires
split_at-requires c = omega (arith, run_within is_digit c.args.text.now)

pub number_of-requires : goal.number_of-requires
number_of-requires c = rw (c.split_at.ensures.front, c.count_digits-size.ensures) (run_passes is_digit c.args.text.now)
