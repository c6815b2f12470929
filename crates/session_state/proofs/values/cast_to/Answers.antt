use Rattle.session_state.proofs.Casting.{cast_typed}
use Rattle.session_state.proofs.values.cast_to.Goals as goal

pub returns-in-Ok-clause-typed : goal.returns-in-Ok-clause-typed
returns-in-Ok-clause-typed c = cast_typed _ _ _ c.in-Ok.ensures.value
