use Rattle.std.proofs.Common.{◌≡◌, ◌++◌, drop, map}
use Rattle.std.specs.Prelude.{filter}
use Rattle.call_rules.specs.Triggers.{is_taken, keyed}
use Rattle.call_rules.proofs.images.deleted.Given as goal

-- the rows so far, and those of the rows that are left
abbrev pub invariant-loop-row : goal.invariant-loop-row
invariant-loop-row l = l.taken.items ++ filter (is_taken l.changes) (map (keyed l.key) (drop l.row-index l.rows)) ≡ filter (is_taken l.changes) (map (keyed l.key) l.rows)
