use Rattle.session_state.specs.Parts.{SetsFit}
use Rattle.session_state.proofs.Assigning.{RowsGo}
use Rattle.session_state.proofs.values.rows_assigned.Given as goal

-- the rows that are left lead to the whole
abbrev pub invariant-loop-row : goal.invariant-loop-row
invariant-loop-row l = record {
  same : RowsGo l.vars l.places l.rows l.row-index l.sets.items;
  fits : SetsFit l.vars l.sets.items;
}
