use Rattle.std.proofs.Common.{length, ◌∙◌, rules}
use Rattle.std.proofs.lemmas.Slice.Zip.{zip_end}
use Rattle.value_types.proofs.KeyOrder.{by_length}
use Rattle.group_rows.proofs.order.row_order.Goals as goal

pub returns : goal.returns
returns c =
    let whole = zip_end c.args.a.now c.args.b.now c.loop-x.yielded c.into_iter-x-iterator.result c.loop-x.x-iterator c.next.new.self c.next.result (search rules) (search rules) c.loop-x.yielded_by c.in-None.is c.next.ensures.steps in
    c.cmp.ensures ∙ by_length c.args.a.now c.args.b.now (length c.loop-x.yielded) whole c.loop-x.invariant
