use Rattle.group_rows.specs.Ordered.{by_key}
use Rattle.group_rows.proofs.Keys.{by_key_ranks}
use Rattle.group_rows.proofs.Sorting.{sorted_in_order, stable_in_order}
use Rattle.group_rows.proofs.laws.law_in_order.Goals as goal

pub returns : goal.returns
returns c = record {
  sorted = λ downs pairs. sorted_in_order (by_key downs) (by_key_ranks downs) pairs;
  stable = λ downs pairs. stable_in_order (by_key downs) (by_key_ranks downs) pairs;
}
