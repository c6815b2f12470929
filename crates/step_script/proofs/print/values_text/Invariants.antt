use Rattle.std.proofs.Common.{◌≡◌, ◌++◌, string_bytes, drop}
use Rattle.step_script.specs.Printed.{values_text}
use Rattle.step_script.proofs.print.values_text.Given as goal

-- what is written so far stands in front of what is left
abbrev pub invariant-loop-value : goal.invariant-loop-value
invariant-loop-value l = string_bytes l.text ++ values_text (drop l.value-index l.values) ≡ values_text l.values
