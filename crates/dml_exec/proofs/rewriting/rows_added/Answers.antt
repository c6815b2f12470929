use Rattle.dml_exec.proofs.Updated.{added_values}
use Rattle.dml_exec.proofs.rewriting.rows_added.Goals as goal

pub returns-in_ok-answers-in-Values : goal.returns-in_ok-answers-in-Values
returns-in_ok-answers-in-Values c =
    rw c.in-Values.is
    (rw (added_values _ _ c.args.source.now.shape.now c.in-Values.inner c.args.source.now.images.now _ _ (rw c.as_slice.ensures at c.in_ok-answers-in-Values.ensures) c.args.places.now c.in-Values.values)
    (rw (c.as_slice-in-Values.ensures, c.as_slice-in-Values-2.ensures) at c.valued.ensures))
