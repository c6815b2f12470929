-- Own: the lines of a script: `session command`, with one space between words. Every text spells at most one
-- line, which is given here; words and numbers are of any length.
use Rattle.std.specs.Prelude.{◌≡◌, ℕ, ◌==◌, ◌&&◌, nat_eq, nat_le, ℤ, Bool, if◌then◌else◌, List, [], ◌∷◌, length, take, drop, codes, Option, Some, None, option_map, option_and_then, Result, Ok, Err}
use Rattle.std.specs.List.{list_all}
use Rattle.std.specs.Cmp.Lexicographic.{pointwise}
use Rattle.lock_modes.specs.declared.KeyPart.{KeyPart}
use Rattle.lock_modes.specs.declared.KeyPart.TheVariants.{S, U}
use Rattle.value_types.specs.declared.table_name.TableName.{TableName}
use Rattle.value_types.specs.declared.value.Value.{Value}
use Rattle.value_types.specs.declared.value.Value.TheVariants.{Whole}
use Rattle.step_model.specs.declared.manner.Patience.{Patience}
use Rattle.step_model.specs.declared.manner.Patience.TheVariants.{Refuse, Forever}
use Rattle.step_model.specs.declared.op.Hold.{Hold}
use Rattle.step_model.specs.declared.op.Hold.TheVariants.{Row as RowAlone, Range}
use Rattle.step_model.specs.declared.op.Op.{Op}
use Rattle.step_model.specs.declared.op.Op.TheVariants.{Begin, Fetch, Insert, Replace, Erase, Mark, BackTo, Relax, Commit, Rollback}
use Rattle.step_model.specs.declared.range.Start.{Start}
use Rattle.step_model.specs.declared.range.Start.TheVariants.{First, At, Past}
use Rattle.step_model.specs.declared.range.Stop.{Stop}
use Rattle.step_model.specs.declared.range.Stop.TheVariants.{Last, Within}
use Rattle.step_script.specs.declared.line.Line.{Line}
use Rattle.step_script.specs.declared.line.Line.TheVariants.{Ask, Patience as SetPatience, Priority}
use Rattle.step_script.specs.declared.line.LineFault.{LineFault}
use Rattle.step_script.specs.declared.line.LineFault.TheVariants.{Bad, Memory}
use Rattle.step_script.specs.Numbers.{session_in, mark_in, long_in, priority_in}
use Rattle.step_script.specs.Pieces.{pieces}

-- ---- words

-- a word is this one
abbrev pub is : List ℕ → List ℕ → Bool
is text word = pointwise nat_eq word text

-- a word begins with this
abbrev pub begins : List ℕ → List ℕ → Bool
begins front word = is front (take (length front) word)

-- ---- what the words of a command say

-- a to z
abbrev pub is_letter : ℕ → Bool
is_letter byte = nat_le 0x61 byte && nat_le byte 0x7A

-- a table: one to eight letters
unfoldable pub table_in : List ℕ → Option TableName
table_in word = if nat_le 1 (length word) && nat_le (length word) 8 && list_all is_letter word then Some (record { object = word; part = 0 }) else None

-- the key that is a number, and the row of a key and a number
abbrev pub key_of : ℤ → List Value
key_of key = Whole key ∷ []

abbrev pub row_of : ℤ → ℤ → List Value
row_of key value = Whole key ∷ Whole value ∷ []

unfoldable pub key_in : List ℕ → Option (List Value)
key_in word = option_map key_of (long_in word)

-- `first`, `at:K` or `past:K`
unfoldable pub start_in : List ℕ → Option Start
start_in word =
    if is (codes "first") word then Some First
    else if begins (codes "at:") word then option_map At (key_in (drop 3 word))
    else if begins (codes "past:") word then option_map Past (key_in (drop 5 word))
    else None

-- `last` or `to:K`
unfoldable pub stop_in : List ℕ → Option Stop
stop_in word =
    if is (codes "last") word then Some Last
    else if begins (codes "to:") word then option_map Within (key_in (drop 3 word))
    else None

-- `row` or `range`
unfoldable pub hold_in : List ℕ → Option Hold
hold_in word = if is (codes "row") word then Some RowAlone else if is (codes "range") word then Some Range else None

-- `S` or `U`
unfoldable pub part_in : List ℕ → Option KeyPart
part_in word = if is (codes "S") word then Some S else if is (codes "U") word then Some U else None

-- `none` or `forever`
unfoldable pub patience_in : List ℕ → Option Patience
patience_in word = if is (codes "none") word then Some Refuse else if is (codes "forever") word then Some Forever else None

-- ---- operations of what words say

abbrev pub erase_of : Option TableName → Option (List Value) → Option Op
erase_of (Some table) (Some key) = Some (Erase table key)
erase_of table key = None

abbrev pub insert_of : Option TableName → Option ℤ → Option ℤ → Option Op
insert_of (Some table) (Some key) (Some value) = Some (Insert table (key_of key) (row_of key value))
insert_of table key value = None

abbrev pub replace_of : Option TableName → Option ℤ → Option ℤ → Option Op
replace_of (Some table) (Some key) (Some value) = Some (Replace table (key_of key) (row_of key value))
replace_of table key value = None

abbrev pub fetch_of : Option TableName → Option Start → Option Stop → Option Hold → Option KeyPart → Option Op
fetch_of (Some table) (Some start) (Some stop) (Some hold) (Some part) = Some (Fetch table start stop hold part)
fetch_of table start stop hold part = None

-- ---- commands, by the number of their words

-- `begin`, `mark`, `relax`, `commit`, `rollback`
unfoldable pub bare_in : List ℕ → Option Op
bare_in verb =
    if is (codes "begin") verb then Some Begin
    else if is (codes "mark") verb then Some Mark
    else if is (codes "relax") verb then Some Relax
    else if is (codes "commit") verb then Some Commit
    else if is (codes "rollback") verb then Some Rollback
    else None

-- `back M`, `patience none`, `patience forever`, `priority P`
unfoldable pub setting_in : ℕ → List ℕ → List ℕ → Option Line
setting_in session verb word =
    if is (codes "back") verb then option_map (λ mark. Ask session (BackTo mark)) (mark_in word)
    else if is (codes "patience") verb then option_map (SetPatience session) (patience_in word)
    else if is (codes "priority") verb then option_map (Priority session) (priority_in word)
    else None

-- `erase T K`
unfoldable pub erase_in : List ℕ → List ℕ → List ℕ → Option Op
erase_in verb table key = if is (codes "erase") verb then erase_of (table_in table) (key_in key) else None

-- `insert T K V`, `replace T K V`
unfoldable pub write_in : List ℕ → List ℕ → List ℕ → List ℕ → Option Op
write_in verb table key value =
    if is (codes "insert") verb then insert_of (table_in table) (long_in key) (long_in value)
    else if is (codes "replace") verb then replace_of (table_in table) (long_in key) (long_in value)
    else None

-- `fetch T START STOP HOLD PART`
unfoldable pub fetch_in : List ℕ → List ℕ → List ℕ → List ℕ → List ℕ → List ℕ → Option Op
fetch_in verb table start stop hold part =
    if is (codes "fetch") verb then fetch_of (table_in table) (start_in start) (stop_in stop) (hold_in hold) (part_in part) else None

-- a command of a session
unfoldable pub command_in : ℕ → List (List ℕ) → Option Line
command_in session (verb ∷ []) = option_map (Ask session) (bare_in verb)
command_in session (verb ∷ word ∷ []) = setting_in session verb word
command_in session (verb ∷ table ∷ key ∷ []) = option_map (Ask session) (erase_in verb table key)
command_in session (verb ∷ table ∷ key ∷ value ∷ []) = option_map (Ask session) (write_in verb table key value)
command_in session (verb ∷ table ∷ start ∷ stop ∷ hold ∷ part ∷ []) = option_map (Ask session) (fetch_in verb table start stop hold part)
command_in session words = None

-- ---- lines

abbrev pub space : ℕ
space = 0x20

-- the line that words spell: a session and its command
unfoldable pub line_of : List (List ℕ) → Option Line
line_of [] = None
line_of (session ∷ command) = option_and_then (λ number. command_in number command) (session_in session)

-- the line that a text spells, if it spells one
unfoldable pub line_in : List ℕ → Option Line
line_in text = line_of (pieces space text)

-- ---- readers

-- a reader gives what there is, or that there is none, unless memory was wanting
abbrev pub Reads : {A : Type 0} → Result A LineFault → Option A → Type 0
Reads (Ok a) told = told ≡ Some a
Reads (Err Bad) told = told ≡ None
Reads (Err Memory) told = Unit {0}
