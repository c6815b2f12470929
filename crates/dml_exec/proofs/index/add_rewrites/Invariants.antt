use Rattle.std.proofs.Common.{◌≡◌, ◌++◌, drop}
use Rattle.std.specs.List.{flat_map, zip}
use Rattle.dml_exec.specs.Indexes.{rewritten_of}
use Rattle.dml_exec.proofs.index.add_rewrites.Given as goal

-- what is there, and those of the rows that are left, are all
abbrev pub invariant-loop-new : goal.invariant-loop-new
invariant-loop-new l = l.changes.items ++ flat_map (rewritten_of l.table l.places) (zip l.rest (drop l.new-index l.news)) ≡ l.initial.changes.items ++ flat_map (rewritten_of l.table l.places) (zip l.olds l.news)
