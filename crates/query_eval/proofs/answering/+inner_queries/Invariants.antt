use Rattle.std.proofs.Common.{◌≡◌, map, drop}
use Rattle.scalar_eval.specs.Scopes.{values_of, inner_rows}
use Rattle.query_eval.specs.Ans as spec
use Rattle.query_eval.specs.Found.{stock_of}
use Rattle.query_eval.proofs.Inner.{inner_onto}
use Rattle.query_eval.proofs.answering.+inner_queries.Given as goal

abbrev pub invariant-inner_tables-loop-inner : goal.invariant-inner_tables-loop-inner
invariant-inner_tables-loop-inner l =
    let answers = spec.inner_answer (values_of l.source.vars.now) l.source.system.now in
    let images = l.source.images.now in
    inner_onto (inner_rows l.tables.items) (map answers (drop l.inner-index l.inners)) (stock_of images l.left)
    ≡ spec.inner_rows (map answers l.inners) (stock_of images l.fn.left)
