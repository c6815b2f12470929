use Rattle.std.proofs.Common.{◌≡◌, ◌++◌, drop, string_bytes}
use Rattle.std.specs.Prelude.{map}
use Rattle.tds_client.specs.Printing.{behind_bars, name_text}
use Rattle.tds_client.proofs.printing.names_text.Given as goal

-- what is written so far stands in front of what is left
abbrev pub invariant-loop-column : goal.invariant-loop-column
invariant-loop-column l = string_bytes l.text ++ behind_bars (map name_text (drop l.column-index l.others)) ≡ string_bytes l.initial.text ++ behind_bars (map name_text l.others)
