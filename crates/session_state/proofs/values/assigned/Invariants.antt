use Rattle.std.proofs.Common.{◌-◌, length}
use Rattle.session_state.specs.Parts.{SetsFit}
use Rattle.session_state.proofs.Assigning.{Goes}
use Rattle.session_state.proofs.values.assigned.Given as goal

-- what is left leads to the whole
abbrev pub invariant-loop-at : goal.invariant-loop-at
invariant-loop-at l = record {
  same : Goes l.vars l.places l.values l.at l.sets.items;
  fits : SetsFit l.vars l.sets.items;
}

abbrev pub decreases-loop-at : goal.decreases-loop-at
decreases-loop-at l = length l.places - l.at
