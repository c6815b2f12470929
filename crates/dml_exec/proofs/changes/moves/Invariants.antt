use Rattle.std.proofs.Common.{◌≡◌, ◌++◌, drop}
use Rattle.std.specs.List.{flat_map, zip}
use Rattle.dml_exec.specs.Planning.{moved}
use Rattle.dml_exec.proofs.changes.moves.Given as goal

-- those of the rows so far, and of those that are left
abbrev pub invariant-loop-new : goal.invariant-loop-new
invariant-loop-new l = l.changes.items ++ flat_map (moved l.table l.key) (zip l.rest (drop l.new-index l.news)) ≡ flat_map (moved l.table l.key) (zip l.olds l.news)
