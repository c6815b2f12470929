use Rattle.std.proofs.Common.{◌≡◌, []}
use Rattle.turn_desk.specs.declared.view.View.TheVariants.{NumberMaker}
use Rattle.turn_desk.specs.Seats.{AreSeatsOf}
use Rattle.turn_desk.proofs.desk.make_seats.Given as goal

abbrev pub invariant-loop-i : goal.invariant-loop-i
invariant-loop-i g l =
    let base = g.M.Machine.story l.fn.table.key.machine.value in
    (l.maker.table_id ≡ l.fn.table.table_id) × (l.maker.me ≡ (NumberMaker l.i base, [])) × AreSeatsOf l.fn.table.table_id l.i base l.made.items
