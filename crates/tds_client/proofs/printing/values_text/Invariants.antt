use Rattle.std.proofs.Common.{◌≡◌, ◌++◌, drop, string_bytes}
use Rattle.std.specs.Prelude.{map}
use Rattle.tds_client.specs.Printing.{behind_bars, value_text}
use Rattle.tds_client.proofs.printing.values_text.Given as goal

-- what is written so far stands in front of what is left
abbrev pub invariant-loop-value : goal.invariant-loop-value
invariant-loop-value l = string_bytes l.text ++ behind_bars (map value_text (drop l.value-index l.others)) ≡ string_bytes l.initial.text ++ behind_bars (map value_text l.others)
