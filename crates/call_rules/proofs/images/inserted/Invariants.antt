use Rattle.std.proofs.Common.{◌≡◌, ◌++◌, drop}
use Rattle.std.specs.Prelude.{filter_map}
use Rattle.call_rules.specs.Triggers.{put_at}
use Rattle.call_rules.proofs.images.inserted.Given as goal

-- the rows so far, and those of the changes that are left
abbrev pub invariant-loop-change : goal.invariant-loop-change
invariant-loop-change l = l.put.items ++ filter_map put_at (drop l.change-index l.changes) ≡ filter_map put_at l.changes
