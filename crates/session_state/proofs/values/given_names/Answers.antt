use Rattle.session_state.proofs.Assigning.{given_more}
use Rattle.session_state.proofs.values.given_names.Goals as goal

pub loop-of-preserved : goal.loop-of-preserved
loop-of-preserved c = given_more _ _ _ _ _ c.of-item.is c.loop-of-test.true c.in_ok-add_given.ensures c.loop-of.invariant
