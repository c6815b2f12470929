use Rattle.std.proofs.Common.{◌≡◌, take}
use Rattle.batch_meaning.specs.Values.{given_names}
use Rattle.session_state.proofs.values.given_names.Given as goal

abbrev pub invariant-loop-of : goal.invariant-loop-of
invariant-loop-of l = l.names.items ≡ given_names (take l.of-index l.declarations)
