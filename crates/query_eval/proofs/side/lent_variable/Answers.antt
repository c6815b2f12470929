use Rattle.std.proofs.Common.{◌<◌, sym, subst}
use Rattle.scalar_eval.proofs.Reading.{value_of_variable}
use Rattle.query_eval.proofs.side.lent_variable.Goals as goal

pub returns-then-place-count : goal.returns-then-place-count
returns-then-place-count c = sym (value_of_variable c.args.vars.now c.args.place c.get.result.now (subst (λ n. c.args.place < n) c.count.ensures c.if-place-count.true) c.get.ensures)
