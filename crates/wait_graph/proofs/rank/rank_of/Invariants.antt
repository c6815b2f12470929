use Rattle.std.proofs.Common.{◌≡◌, drop}
use Rattle.step_model.specs.Victims.{rank_of}
use Rattle.wait_graph.proofs.rank.rank_of.Given as goal

abbrev pub invariant-loop-rank : goal.invariant-loop-rank
invariant-loop-rank l = rank_of l.session (drop l.rank-index l.ranks) ≡ rank_of l.session l.ranks
