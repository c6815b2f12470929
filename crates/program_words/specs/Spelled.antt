-- Own: how a command is written: its name, and behind it what is given, in any order and none twice.
use Rattle.std.specs.Prelude.{◌≡◌, ◌&&◌, ◌==◌, Bool, true, false, not, List, [], ◌∷◌, ◌++◌, Some, is_some, find, option_map, codes}
use Rattle.std.specs.List.{list_all, list_any}
use Rattle.std.specs.Str.{bytes_eq}
use Rattle.clap.specs.Walk.{Text}
use Rattle.program_words.specs.declared.command.ProgramCommand.{ProgramCommand}
use Rattle.program_words.specs.Numbers.{number_in}
use Rattle.clap.specs.Takes.{takes}
use Rattle.program_words.specs.Options.{program}
use Rattle.program_words.specs.Asked.{Values, asked, command_in, named}

-- ---- names

pub data Called : Type 0 where
  pipe : Called
  listen : Called
  steps : Called
  load : Called

abbrev pub call : Called → Text
call pipe = codes "pipe"
call listen = codes "listen"
call steps = codes "steps"
call load = codes "load"

pub data Name : Type 0 where
  user : Name
  password : Name
  bare : Name
  drivers : Name
  port : Name
  workers : Name
  rounds : Name
  transfers : Name

abbrev pub text_of : Name → Text
text_of user = codes "user"
text_of password = codes "password"
text_of bare = codes "bare"
text_of drivers = codes "drivers"
text_of port = codes "port"
text_of workers = codes "workers"
text_of rounds = codes "rounds"
text_of transfers = codes "transfers"

-- ---- one thing that is given

pub data Use : Type 0 where
  -- `--name value`
  apart : Name → Text → Use
  -- `--name=value`
  joined : Name → Text → Use
  -- `--name`
  flag : Name → Use
  -- N
  placed : Name → Text → Use

-- `--name`
abbrev pub long : Text → Text
long name = 45 ∷ 45 ∷ name

abbrev pub written : Use → List Text
written (apart name value) = long (text_of name) ∷ value ∷ []
written (joined name value) = (long (text_of name) ++ 61 ∷ value) ∷ []
written (flag name) = long (text_of name) ∷ []
written (placed name value) = value ∷ []

abbrev pub name_of : Use → Name
name_of (apart name value) = name
name_of (joined name value) = name
name_of (flag name) = name
name_of (placed name value) = name

abbrev pub value_of : Use → Text
value_of (apart name value) = value
value_of (joined name value) = value
value_of (flag name) = codes "true"
value_of (placed name value) = value

-- a word that is no option: it is empty or `-`, or doesn't begin with `-`
abbrev pub stands_alone : Text → Bool
stands_alone [] = true
stands_alone (x ∷ []) = true
stands_alone (x ∷ y ∷ rest) = not (x == 45)

-- a number is in form and in its range; any text is a user or a password
abbrev pub is_in_form : Name → Text → Bool
is_in_form port value = is_some (number_in 65535 value)
is_in_form workers value = is_some (number_in 64 value)
is_in_form rounds value = is_some (number_in 1000000000 value)
is_in_form transfers value = is_some (number_in 10000 value)
is_in_form name value = true

-- the options with a value that a command has
abbrev pub has_option : Called → Name → Bool
has_option pipe user = true
has_option pipe password = true
has_option listen port = true
has_option listen workers = true
has_option listen rounds = true
has_option listen user = true
has_option listen password = true
has_option load workers = true
has_option called name = false

-- the flags that it has
abbrev pub has_flag : Called → Name → Bool
has_flag pipe bare = true
has_flag pipe drivers = true
has_flag listen drivers = true
has_flag called name = false

-- what may stand behind a command's name
abbrev pub may_stand : Called → Use → Bool
may_stand called (apart name value) = has_option called name && (stands_alone value && is_in_form name value)
may_stand called (joined name value) = has_option called name && is_in_form name value
may_stand called (flag name) = has_flag called name
may_stand load (placed transfers value) = stands_alone value && is_in_form transfers value
may_stand called given = false

-- ---- a command

abbrev pub all_written : List Use → List Text
all_written [] = []
all_written (first ∷ rest) = written first ++ all_written rest

abbrev pub has_name : Text → Use → Bool
has_name name given = bytes_eq (text_of (name_of given)) name

-- nothing is given twice
abbrev pub are_distinct : List Use → Bool
are_distinct [] = true
are_distinct (first ∷ rest) = not (list_any (has_name (text_of (name_of first))) rest) && are_distinct rest

-- the values that are given
abbrev pub given_by : List Use → Values
given_by uses name = option_map value_of (find (has_name name) uses)

-- the words write this command
pub record Spells (words : List Text) (command : ProgramCommand) : Type 0 where
  pub called : Called
  pub uses : List Use
  pub are : words ≡ call called ∷ all_written uses
  pub stand : list_all (may_stand called) uses ≡ true
  pub distinct : are_distinct uses ≡ true
  pub means : command_in (call called) (given_by uses) ≡ Some command

-- words that write a command are taken by `clap`, and ask for it
abbrev pub SpelledAsked : Type 0
SpelledAsked = (words : List Text) (command : ProgramCommand) → Spells words command → (takes program (named words) ≡ true) × (asked words ≡ Some command)
