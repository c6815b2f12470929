use Rattle.std.proofs.Common.{◌≡◌, ◌+◌, ◌≤◌, ◌++◌, ℕ, List, length}
use Rattle.step_script.specs.Pieces.{pieces}
use Rattle.steps_command.specs.Script.{lines_of, newline, script_limit}
use Rattle.steps_command.specs.Play.{first_manners}
use Rattle.steps_command.proofs.Leads.{Leads}
use Rattle.steps_command.proofs.play.play_lines.Given as goal

-- what the lines that are left come to, all lines come to
abbrev pub invariant-loop-behind : goal.invariant-loop-behind
invariant-loop-behind g l = record {
  few : l.number + length l.left ≤ script_limit + 1;
  printed : (before : List ℕ) × (l.out.items ≡ l.initial.out.items ++ before)
      × Leads (record { engine = g.E.ScriptEngine.state l.initial.engine; manners = first_manners }) (lines_of l.passes (pieces newline l.text))
      (record { engine = g.E.ScriptEngine.state l.engine; manners = l.manners }) l.number (lines_of l.passes (pieces newline l.left)) before;
}

abbrev pub decreases-loop-behind : goal.decreases-loop-behind
decreases-loop-behind g l = length l.left
