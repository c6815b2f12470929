-- Own: the command `steps`: which bytes it takes and writes, and with which status it ends.
use Rattle.std.specs.Prelude.{◌≡◌, ℕ, ◌<◌, ◌≤◌, ◌⊎◌, List, [], ◌∷◌, length, Option, IsSome, IfSome, Result, Ok, Err}
use Rattle.std.specs.Io.KnownBytes.{Appends, IsAtEnd}
use Rattle.outside_io.specs.Bytes.{IsProperFront, AppendsOrHides}
use Rattle.step_script.specs.declared.line.Line.{Line}
use Rattle.steps_command.specs.declared.play.Stop.{Stop}
use Rattle.steps_command.specs.declared.play.Stop.TheVariants.{BadLine, Memory}
use Rattle.steps_command.specs.Script.{script_limit, script_lines}
use Rattle.steps_command.specs.Play.{Stage, Plays}

-- ---- statuses

abbrev pub read_fault : ℕ
read_fault = 3

abbrev pub write_fault : ℕ
write_fault = 4

abbrev pub no_memory : ℕ
no_memory = 6

-- all lines are answered; or one is none, or memory was wanting
abbrev pub status_of : Result (Unit {0}) Stop → ℕ
status_of (Ok done) = 0
status_of (Err BadLine) = 5
status_of (Err Memory) = no_memory

-- ---- bytes

-- the input is read to its end, or past the limit
abbrev pub IsWhole : Option (List ℕ) → List ℕ → Type 0
IsWhole left taken = IsAtEnd left ⊎ (script_limit < length taken)

-- a front of the bytes was written, and not all; after a fault the sink may tell its bytes no longer
abbrev pub IsCutOff : Option (List ℕ) → Option (List ℕ) → List ℕ → Type 0
IsCutOff before after bytes = (part : List ℕ) × IsProperFront bytes part × AppendsOrHides before after part

-- what is printed is written; or writing failed, or memory was wanting for it
abbrev pub Writes : Option (List ℕ) → Option (List ℕ) → List ℕ → Result (Unit {0}) Stop → ℕ → Type 0
Writes before after printed end status = ((status ≡ status_of end) × Appends before after printed)
    ⊎ (((status ≡ write_fault) ⊎ (status ≡ no_memory)) × IsCutOff before after printed)

-- ---- the command

-- the input is not read whole, or memory was wanting, and nothing is written
abbrev pub IsUnread : Option (List ℕ) → Option (List ℕ) → ℕ → Type 0
IsUnread before after status = ((status ≡ read_fault) ⊎ (status ≡ no_memory)) × (after ≡ before)

-- the lines of the bytes taken are answered from a stage on, and what they print is written
abbrev pub IsPlayed : Stage → List ℕ → Option (List ℕ) → Option (List ℕ) → Option (List ℕ) → ℕ → Type 0
IsPlayed first taken left before after status = IsWhole left taken
    × ((printed : List ℕ) × (end : Result (Unit {0}) Stop) × Plays first 1 (script_lines taken) printed end × Writes before after printed end status)

-- What the command does that took these bytes, behind which these are left.
abbrev pub Steps : Stage → List ℕ → Option (List ℕ) → Option (List ℕ) → Option (List ℕ) → ℕ → Type 0
Steps first taken left before after status = IsUnread before after status ⊎ IsPlayed first taken left before after status

-- every line is one
abbrev pub AllRead : List (Option Line) → Type 0
AllRead [] = Unit {0}
AllRead (told ∷ lines) = IsSome told × AllRead lines

-- Where the source told its bytes, they are within the limit, and every line is one: all were answered, or memory
-- was wanting.
abbrev pub EndsWell : Option (List ℕ) → ℕ → Type 0
EndsWell told status = IfSome told (λ bytes. length bytes ≤ script_limit → AllRead (script_lines bytes) → (status ≡ 0) ⊎ (status ≡ no_memory))
