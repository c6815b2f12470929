use Rattle.std.proofs.Common.{rules}
use Rattle.std.proofs.lemmas.List.{append_assoc, take_all}
use Rattle.query_eval.proofs.TablesRead.{next_inner, one_more, tables_are}
use Rattle.query_eval.proofs.references.+references.Goals as goal

pub loop-inner-preserved : goal.loop-inner-preserved
loop-inner-preserved t c = one_more _ _ _ c.in_ok-add_tables.ensures c.loop-inner.invariant (next_inner _ _ _ c.inner-item.is c.loop-inner-test.true)

pub returns : goal.returns
returns t c = search (rules, tables_are, append_assoc, take_all)
