use Rattle.std.proofs.Common.{◌==◌, not, arith}
use Rattle.std.proofs.lemmas.List.Sums.{prefix_len-le-length}
use Rattle.step_script.proofs.Cuts.{cut_at_end, cut_at_mark}
use Rattle.step_script.proofs.pieces.cut.Goals as goal

pub split_at-requires : goal.split_at-requires
split_at-requires c = omega (arith, c.count_others.ensures, prefix_len-le-length (λ byte. not (byte == c.args.mark)) c.args.text.now)

pub returns-in-empty-clause-pieces : goal.returns-in-empty-clause-pieces
returns-in-empty-clause-pieces c = cut_at_end c.args.mark c.count_others.result c.args.text.now c.split_at.result.0.now c.split_at.result.1.now c.count_others.ensures c.split_at.ensures.front c.split_at.ensures.back c.in-empty.len_below

pub returns-in-len1-up-clause-pieces : goal.returns-in-len1-up-clause-pieces
returns-in-len1-up-clause-pieces c = cut_at_mark c.args.mark c.count_others.result c.args.text.now c.split_at.result.0.now c.split_at.result.1.now c.count_others.ensures c.split_at.ensures.front c.split_at.ensures.back c.in-len1-up.len_at_least
