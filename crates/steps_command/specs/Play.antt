-- Own: what the lines of a script do, one after another, over an engine of many sessions, and what they print.
-- An operation is asked where it may be asked; else the engine is left alone.
use Rattle.std.specs.Prelude.{◌≡◌, ◌≢◌, ℕ, ◌+◌, ◌⊎◌, ℤ, pos, List, [], ◌∷◌, ◌++◌, replicate, slice_index_or, slice_set, codes, Option, Some, None, Result, Ok, Err, IsOk}
use Rattle.std.specs.Fmt.{decimal}
use Rattle.step_model.specs.declared.manner.Manner.{Manner}
use Rattle.step_model.specs.declared.manner.Patience.TheVariants.{Forever}
use Rattle.step_model.specs.declared.op.Op.{Op}
use Rattle.step_model.specs.declared.reply.Reply.{Reply}
use Rattle.step_model.specs.declared.reply.Reply.TheVariants.{Memory as NoMemory}
use Rattle.step_model.specs.Exchange.{last_session}
use Rattle.step_model.specs.State.{Engine}
use Rattle.step_model.specs.Step.{Step}
use Rattle.step_model.specs.Runs.{MayStep}
use Rattle.step_script.specs.declared.line.Line.{Line}
use Rattle.step_script.specs.declared.line.Line.TheVariants.{Ask, Patience, Priority}
use Rattle.step_script.specs.Printed.{line_text, printed_of}
use Rattle.steps_command.specs.declared.play.Stop.{Stop}
use Rattle.steps_command.specs.declared.play.Stop.TheVariants.{BadLine, Memory}

-- where a script stands: the engine, and the manner in which each session asks, from session 0, which is none
pub record Stage : Type 0 where
  pub engine : Engine
  pub manners : List Manner

-- a session begins with patience `forever` and priority 0
abbrev pub first_manner : Manner
first_manner = record { patience = Forever; priority = pos 0 }

abbrev pub first_manners : List Manner
first_manners = replicate (last_session + 1) first_manner

-- the manner of a session
abbrev pub manner_of : ℕ → List Manner → Manner
manner_of session manners = slice_index_or manners session first_manner

-- ---- one line

-- An operation is asked, and the engine's reply is printed; or it is one that may not be asked.
abbrev pub Asks : Engine → ℕ → Op → Manner → List ℕ → Engine → Type 0
Asks old session op manner printed new =
    ((reply : Reply) × MayStep old session op manner × Step old session op manner reply new × (reply ≢ NoMemory) × (printed ≡ printed_of session reply))
    ⊎ ((MayStep old session op manner → ⊥) × (new ≡ old) × (printed ≡ line_text session (codes "not now")))

-- what a line does and prints
abbrev pub Answers : Stage → Line → List ℕ → Stage → Type 0
Answers old (Ask session op) printed new = Asks old.engine session op (manner_of session old.manners) printed new.engine × (new.manners ≡ old.manners)
Answers old (Patience session patience) printed new = (printed ≡ line_text session (codes "done"))
    × (new ≡ record old { manners = slice_set old.manners session (record (manner_of session old.manners) { patience = patience }) })
Answers old (Priority session priority) printed new = (printed ≡ line_text session (codes "done"))
    × (new ≡ record old { manners = slice_set old.manners session (record (manner_of session old.manners) { priority = priority }) })

-- ---- a script

-- the line of a script that is none
abbrev pub bad_line : ℕ → List ℕ
bad_line number = codes "bad line " ++ decimal number ++ codes "\n"

-- the script stops at a line: it is none, or memory was wanting
abbrev pub StopsAt : ℕ → Option Line → List ℕ → Result (Unit {0}) Stop → Type 0
StopsAt number told printed end = ((end ≡ Err Memory) × (printed ≡ [])) ⊎ ((end ≡ Err BadLine) × (told ≡ None) × (printed ≡ bad_line number))

-- What lines do and print, the first of which has this number in its script, and whether all are answered.
abbrev pub Plays : Stage → ℕ → List (Option Line) → List ℕ → Result (Unit {0}) Stop → Type 0
Plays old number [] printed end = (printed ≡ []) × IsOk end
Plays old number (told ∷ lines) printed end = StopsAt number told printed end
    ⊎ ((line : Line) × (said : List ℕ) × (rest : List ℕ) × (mid : Stage) × (told ≡ Some line) × Answers old line said mid × (printed ≡ said ++ rest) × Plays mid (number + 1) lines rest end)
