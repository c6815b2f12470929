use Rattle.std.proofs.Common.{◌≡◌, ◌-◌, ◌+◌, ℕ, List, length}
use Rattle.outside_io.specs.Bytes.{Takes}
use Rattle.steps_command.specs.Script.{script_limit}
use Rattle.steps_command.proofs.reading.read_script.Given as goal

-- the bytes so far are those that were taken
abbrev pub invariant-loop-piece : goal.invariant-loop-piece
invariant-loop-piece g l = record {
  took : Takes g.S.Source.left g.S.Source.given l.initial.source l.source l.script.items;
  no_fault : g.S.Source.faults l.source ≡ g.S.Source.faults l.initial.source;
}

abbrev pub decreases-loop-piece : goal.decreases-loop-piece
decreases-loop-piece g l = script_limit + 1 - length l.script.items
