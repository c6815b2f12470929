use Rattle.session_state.proofs.Assigning.{NamesGo}
use Rattle.session_state.proofs.values.places_of.Given as goal

-- the names that are left lead to the whole
abbrev pub invariant-loop-name : goal.invariant-loop-name
invariant-loop-name l = NamesGo l.vars l.names l.name-index l.places
