use Rattle.bound_tree.specs.declared.query.BoundQuery.{out-BoundQuery}
use Rattle.scalar_eval.specs.Scopes.{inner_rows, values_of}
use Rattle.query_eval.specs.Found.{stock_of}
use Rattle.query_eval.proofs.Inner.{found_rest, own_joined}
use Rattle.query_eval.proofs.answering.own_rows.Goals as goal

pub returns : goal.returns
returns c =
    let images = c.args.source.now.images.now in
    rw (own_joined (values_of c.args.source.now.vars.now) c.args.source.now.system.now (inner_rows c.args.inner.now) (out-BoundQuery c.args.query.now)
    (stock_of images c.args.left.now) (stock_of images c.joined_refs.new.left) c.in_ok-joined.joined.items
    (rw (c.as_slice.ensures.value, c.in_ok-tests.ensures, c.as_slice-refs.ensures) at c.in_ok-joined.ensures))
    (found_rest (values_of c.args.source.now.vars.now) c.args.source.now.system.now (stock_of images c.joined_refs.new.left) c.rows_given.result _ c.rows_given.ensures)
