use Rattle.std.proofs.Common.{◌≡◌}
use Rattle.session_state.specs.Parts.{SetsFit, assigned_all}
use Rattle.session_state.proofs.state.SessionState.assign_all.Given as goal

-- what was yielded is assigned, and all that is to be fits
abbrev pub invariant-loop-place : goal.invariant-loop-place
invariant-loop-place l = record {
  same : l.self ≡ assigned_all l.yielded l.fn.self;
  fits : SetsFit l.self.vars l.fn.sets.items;
}
