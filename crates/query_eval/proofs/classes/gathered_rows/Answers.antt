use Rattle.query_eval.specs.Found.{setting_at}
use Rattle.query_eval.proofs.Places.{rows_by_classes}
use Rattle.query_eval.proofs.classes.gathered_rows.Goals as goal

pub returns : goal.returns
returns c =
    rw (rows_by_classes (setting_at c.args.context.now) c.args.rows.now c.args.width c.args.groups.now c.args.sums.now c.as_slice.result.now c.in_ok-found.found.items c.as_slice.ensures.value c.in_ok-found.ensures)
    c.rows_of_classes.ensures
