-- Own: what one line more did. Private contracts alone cite this.
use Rattle.std.specs.Prelude.{◌≡◌, ℕ, List, Option, Some, Result, Ok, Err}
use Rattle.step_script.specs.declared.line.Line.{Line}
use Rattle.steps_command.specs.declared.play.Stop.{Stop}
use Rattle.steps_command.specs.Play.{Stage, Answers, StopsAt}

-- the line was answered, or the script stopped at it
abbrev pub Played : Stage → ℕ → Option Line → List ℕ → Stage → Result (Unit {0}) Stop → Type 0
Played old number told printed new (Ok done) = (line : Line) × (told ≡ Some line) × Answers old line printed new
Played old number told printed new (Err stop) = StopsAt number told printed (Err stop)
