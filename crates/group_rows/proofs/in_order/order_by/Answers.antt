use Rattle.std.proofs.Common.{false, refl, sym}
use Rattle.group_rows.proofs.Keys.{column-decides, column-ties}
use Rattle.group_rows.proofs.in_order.order_by.Goals as goal

pub returns-then-is_ne : goal.returns-then-is_ne
returns-then-is_ne c =
    column-decides c.args.downs.now c.loop-place.place false c.args.a.now c.args.b.now c.loop-place-test.true c.loop-place.invariant c.directed-order.result (rw (c.directed-order.ensures, c.order_at.ensures, c.as_slice.ensures, c.as_slice-in-loop-place.ensures) refl) (sym c.if-is_ne.ensures)

pub loop-place-preserved : goal.loop-place-preserved
loop-place-preserved c =
    column-ties c.args.downs.now c.loop-place.place false c.args.a.now c.args.b.now c.loop-place-test.true c.loop-place.invariant c.directed-order.result (rw (c.directed-order.ensures, c.order_at.ensures, c.as_slice.ensures, c.as_slice-in-loop-place.ensures) refl) (sym c.if-is_ne.ensures)
