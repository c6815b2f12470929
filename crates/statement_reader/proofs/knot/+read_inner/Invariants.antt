use Rattle.statement_reader.proofs.knot.+read_inner.Given as goal

abbrev pub decreases-read_inner : goal.decreases-read_inner
decreases-read_inner l = l.depth
