use Rattle.std.proofs.Common.{◌≡◌, map}
use Rattle.wait_graph.specs.Trails.{back_from}
use Rattle.wait_graph.proofs.Steps.{back_end}
use Rattle.wait_graph.proofs.trail.Trail.back.Given as goal

abbrev pub invariant-loop-step : goal.invariant-loop-step
invariant-loop-step l = record {
  edges : l.edges.items ≡ back_from l.self-inside.session (map (λ step. step.now.now) l.yielded);
  wanted : l.wanted ≡ back_end l.self-inside.session (map (λ step. step.now.now) l.yielded);
}
