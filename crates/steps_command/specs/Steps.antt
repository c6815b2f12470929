-- Own: the steps of a script are a run of the engine, and what its lines print is told by the replies of that run.
use Rattle.std.specs.Prelude.{◌≡◌, ℕ, ◌+◌, ◌⊎◌, List, [], ◌∷◌, ◌++◌, codes, Option, Some, None, Result, IsOk}
use Rattle.step_model.specs.declared.manner.Manner.{Manner}
use Rattle.step_model.specs.declared.op.Op.{Op}
use Rattle.step_model.specs.declared.reply.Reply.{Reply}
use Rattle.step_model.specs.State.{Engine}
use Rattle.step_model.specs.Runs.{Asked, Run}
use Rattle.step_script.specs.declared.line.Line.{Line}
use Rattle.step_script.specs.declared.line.Line.TheVariants.{Ask, Patience, Priority}
use Rattle.step_script.specs.Printed.{line_text, printed_of}
use Rattle.steps_command.specs.declared.play.Stop.{Stop}
use Rattle.steps_command.specs.Play.{Stage, StopsAt}

-- a step of a session
abbrev pub step_of : ℕ → Op → Manner → Reply → Asked
step_of session op manner reply = record { session = session; exchange = record { op = op; manner = manner; reply = reply } }

-- the steps of one line, and what it prints: one step and its reply, or none
abbrev pub Says : Line → List Asked → List ℕ → Type 0
Says (Ask session op) steps printed =
    ((manner : Manner) × (reply : Reply) × (steps ≡ step_of session op manner reply ∷ []) × (printed ≡ printed_of session reply))
    ⊎ ((steps ≡ []) × (printed ≡ line_text session (codes "not now")))
Says (Patience session patience) steps printed = (steps ≡ []) × (printed ≡ line_text session (codes "done"))
Says (Priority session priority) steps printed = (steps ≡ []) × (printed ≡ line_text session (codes "done"))

-- the steps of lines, and what they print
abbrev pub Tells : ℕ → List (Option Line) → List Asked → List ℕ → Result (Unit {0}) Stop → Type 0
Tells number [] steps printed end = (steps ≡ []) × (printed ≡ []) × IsOk end
Tells number (told ∷ lines) steps printed end = ((steps ≡ []) × StopsAt number told printed end)
    ⊎ ((line : Line) × (own : List Asked) × (others : List Asked) × (said : List ℕ) × (rest : List ℕ) × (told ≡ Some line) × Says line own said
    × (steps ≡ own ++ others) × (printed ≡ said ++ rest) × Tells (number + 1) lines others rest end)

-- they are the steps of a run from here on
abbrev pub IsRun : Stage → ℕ → List (Option Line) → List ℕ → Result (Unit {0}) Stop → Type 0
IsRun old number lines printed end = (steps : List Asked) × (new : Engine) × Run old.engine steps new × Tells number lines steps printed end
