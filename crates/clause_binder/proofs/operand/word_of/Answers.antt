use Rattle.clause_binder.proofs.AggregateWords.{avg_units, count_units, max_units, min_units, sum_units}
use Rattle.clause_binder.proofs.operand.word_of.Goals as goal

pub returns-in-Count : goal.returns-in-Count
returns-in-Count c = rw c.in-Count.is count_units

pub returns-in-Sum : goal.returns-in-Sum
returns-in-Sum c = rw c.in-Sum.is sum_units

pub returns-in-Avg : goal.returns-in-Avg
returns-in-Avg c = rw c.in-Avg.is avg_units

pub returns-in-Min : goal.returns-in-Min
returns-in-Min c = rw c.in-Min.is min_units

pub returns-in-Max : goal.returns-in-Max
returns-in-Max c = rw c.in-Max.is max_units
