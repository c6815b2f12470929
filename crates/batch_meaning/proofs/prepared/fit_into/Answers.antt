use Rattle.batch_meaning.proofs.Kept.{fits_all, fits_no_more, fits_on}
use Rattle.batch_meaning.proofs.prepared.fit_into.Goals as goal

pub loop-one-preserved : goal.loop-one-preserved
loop-one-preserved c = fits_on _ _ _ _ c.loop-one.invariant _ _ c.loop-one-test.true c.one-item.is (rw c.in-Some.is at c.left_behind.ensures)

pub returns-in-None : goal.returns-in-None
returns-in-None c = fits_no_more _ _ _ _ c.loop-one.invariant _ c.loop-one-test.true c.one-item.is (rw c.in-None.is at c.left_behind.ensures)

pub returns : goal.returns
returns c = fits_all _ _ _ _ c.loop-one.invariant c.loop-one-test.false
