use Rattle.std.proofs.Common.{◌≡◌, ◌++◌, string_bytes, drop}
use Rattle.step_script.specs.Printed.{edges_text}
use Rattle.step_script.proofs.print.edges_text.Given as goal

-- what is written so far stands in front of what is left
abbrev pub invariant-loop-edge : goal.invariant-loop-edge
invariant-loop-edge l = string_bytes l.text ++ edges_text (drop l.edge-index l.edges) ≡ edges_text l.edges
