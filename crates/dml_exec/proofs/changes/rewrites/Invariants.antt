use Rattle.std.proofs.Common.{◌≡◌, ◌++◌, map}
use Rattle.std.specs.List.{flat_map, zip}
use Rattle.dml_exec.specs.Planning.{moved, rewrite}
use Rattle.dml_exec.proofs.changes.rewrites.Given as goal

-- those of the rows so far, and of those that are left
abbrev pub invariant-loop-new : goal.invariant-loop-new
invariant-loop-new l = l.changes.items ++ map (rewrite l.table l.key) (zip l.rest l.new-iterator.rest.items)
    ≡ flat_map (moved l.table l.key) (zip l.olds l.fn.news.items) ++ map (rewrite l.table l.key) (zip l.olds l.fn.news.items)
