-- Own: the lines of a script. They end with byte 0x0A, which the last may lack. A script has at most 1,048,576
-- bytes: the line in which it passes that is no line, and nothing behind is read.
use Rattle.std.specs.Prelude.{◌≡◌, ℕ, ◌<◌, nat_lt, Bool, true, false, if◌then◌else◌, List, [], ◌∷◌, length, take, Option, Some, None}
use Rattle.step_script.specs.declared.line.Line.{Line}
use Rattle.step_script.specs.Pieces.{pieces}
use Rattle.step_script.specs.Lines.{line_in}

-- the most bytes of a script
abbrev pub script_limit : ℕ
script_limit = 1048576

abbrev pub newline : ℕ
newline = 0x0A

-- what stands behind the last byte 0x0A: nothing, or a line; or the line in which the limit is passed
abbrev pub last_lines : Bool → List ℕ → List (Option Line)
last_lines true text = None ∷ []
last_lines false [] = []
last_lines false (byte ∷ text) = line_in (byte ∷ text) ∷ []

-- the lines of pieces, each as what it spells, if it spells a line
abbrev pub lines_of : Bool → List (List ℕ) → List (Option Line)
lines_of passes [] = []
lines_of passes (text ∷ []) = last_lines passes text
lines_of passes (text ∷ next ∷ texts) = line_in text ∷ lines_of passes (next ∷ texts)

-- the lines of a script
unfoldable pub script_lines : List ℕ → List (Option Line)
script_lines input = lines_of (nat_lt script_limit (length input)) (pieces newline (take script_limit input))
