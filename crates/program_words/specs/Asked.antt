-- Own: the command that words ask for, by what `clap` finds in them, and what reading them gives. The words are
-- those behind the program's name, each as its UTF-8 bytes.
use Rattle.std.specs.Prelude.{◌≡◌, ◌≢◌, ◌≤◌, ◌⊎◌, IfSome, ℕ, Bool, true, false, List, [], ◌∷◌, Option, Some, None, Result, Ok, Err, if◌then◌else◌, unwrap_or, option_and_then, option_map, codes, ⊤}
use Rattle.std.specs.List.{AllByRecursion}
use Rattle.std.specs.Option.{option_map_or}
use Rattle.std.specs.Str.{bytes_eq}
use Rattle.value_types.specs.Units.{utf16_of}
use Rattle.clap.specs.Walk.{Row, Text, first_of}
use Rattle.clap.specs.Simple.{subcommand_of}
use Rattle.clap.specs.Takes.{takes}
use Rattle.clap.specs.ValueTests.{accepts}
use Rattle.clap.specs.Kinds.{IsAmong, Kinds}
use Rattle.clap.specs.Faults.{fault_of}
use Rattle.clap.specs.declared.error.kind.ErrorKind.{ErrorKind}
use Rattle.clap.specs.declared.error.kind.ErrorKind.TheVariants.{DisplayHelp, DisplayVersion, OutOfMemory}
use Rattle.program_words.specs.declared.command.ProgramCommand.{ProgramCommand}
use Rattle.program_words.specs.declared.command.ProgramCommand.TheVariants as commands
use Rattle.program_words.specs.declared.fault.WordsFault.{WordsFault}
use Rattle.program_words.specs.declared.fault.WordsFault.TheVariants as faults
use Rattle.program_words.specs.Numbers.{is_plain_number, number_in}
use Rattle.program_words.specs.Options.{program, up_to}

-- ---- by the values that are given

-- the value of each option that is given, by the option's name
abbrev pub Values : Type 0
Values = Text → Option Text

-- a text that is given, or else this one
abbrev pub text_or : Text → Option Text → List ℕ
text_or default given = utf16_of (unwrap_or given default)

-- the same of a number; there is none where it is out of form, or neither is there
abbrev pub number_or : Option ℕ → ℕ → Option Text → Option ℕ
number_or default most given = option_map_or (number_in most) given default

-- a flag that is given
abbrev pub is_on : Option Text → Bool
is_on None = false
is_on (Some value) = bytes_eq value (codes "true")

abbrev pub user_in : Values → List ℕ
user_in values = text_or (codes "sa") (values (codes "user"))

abbrev pub password_in : Values → List ℕ
password_in values = text_or (codes "A") (values (codes "password"))

abbrev pub port_in : Values → Option ℕ
port_in values = number_or None 65535 (values (codes "port"))

abbrev pub workers_in : Values → Option ℕ
workers_in values = number_or (Some 4) 64 (values (codes "workers"))

abbrev pub transfers_in : Values → Option ℕ
transfers_in values = number_or None 10000 (values (codes "transfers"))

-- the number of rounds, where one is given
abbrev pub rounds_in : Values → Option (Option ℕ)
rounds_in values = option_map_or (λ text. option_map (λ n. Some n) (number_in 1000000000 text)) (values (codes "rounds")) (Some None)

abbrev pub drivers_in : Values → Bool
drivers_in values = is_on (values (codes "drivers"))

abbrev pub pipe_in : Values → ProgramCommand
pipe_in values = commands.Pipe (user_in values) (password_in values) (is_on (values (codes "bare"))) (drivers_in values)

abbrev pub listen_in : Values → Option ProgramCommand
listen_in values =
    option_and_then (λ port. option_and_then (λ workers. option_map (λ rounds.
    commands.Listen port workers rounds (user_in values) (password_in values) (drivers_in values))
    (rounds_in values)) (workers_in values)) (port_in values)

abbrev pub load_in : Values → Option ProgramCommand
load_in values =
    option_and_then (λ transfers. option_map (commands.Load transfers) (workers_in values)) (transfers_in values)

-- the command of this name, where its numbers are in form
abbrev pub command_in : Text → Values → Option ProgramCommand
command_in name values =
    if bytes_eq name (codes "pipe") then Some (pipe_in values)
    else (if bytes_eq name (codes "listen") then listen_in values
    else (if bytes_eq name (codes "steps") then Some commands.Steps
    else (if bytes_eq name (codes "load") then load_in values
    else None)))

-- the values that `clap` found
abbrev pub values_of : List Row → Values
values_of rows id = first_of id rows

abbrev pub asked_of : Option (Text × List Row) → Option ProgramCommand
asked_of None = None
asked_of (Some found) = command_in found.0 (values_of found.1)

-- ---- by the words

-- the words with the program's name before them
abbrev pub named : List Text → List Text
named words = codes "tsqld" ∷ words

-- the command that they ask for
abbrev pub asked : List Text → Option ProgramCommand
asked words = asked_of (subcommand_of program (named words))

-- why `clap` doesn't take them
abbrev pub faults_of : List Text → Kinds
faults_of words = fault_of program (named words)

-- the kinds of fault by which a text is asked for
abbrev pub IsText : ErrorKind → Type 0
IsText kind = (kind ≡ DisplayHelp) ⊎ (kind ≡ DisplayVersion)

-- help or the version is asked for, and there is no other fault
abbrev pub AsksForTextAlone : List Text → Type 0
AsksForTextAlone words = (faults_of words ≢ []) × AllByRecursion IsText (faults_of words)

-- There is a fault by which no text is asked for; or there is none at all, and no command is asked for.
abbrev pub IsAmiss : List Text → Type 0
IsAmiss words = ((kind : ErrorKind) × IsAmong kind (faults_of words) × (IsText kind → ⊥))
    ⊎ ((faults_of words ≡ []) × (asked words ≡ None))

-- `clap` finds a command in the words, and takes a number that has a sign or begins with 0
pub record HasOddNumber (words : List Text) : Type 0 where
  pub name : Text
  pub rows : List Row
  pub found : subcommand_of program (named words) ≡ Some (name, rows)
  pub none : asked words ≡ None
  -- the option, and the most that it takes
  pub option : Text
  pub most : ℕ
  pub number : Text
  pub given : values_of rows option ≡ Some number
  pub taken : accepts false (up_to most) number ≡ true
  pub odd : is_plain_number number ≡ false

-- What reading the words gives. Help and the version are shown where they are asked for, which `clap` counts among
-- the words that it doesn't take. A command is what `clap` and the forms of numbers make of the words. They are
-- refused only where they are amiss, and `clap` doesn't take them, or a number that it takes has a sign or begins
-- with 0.
abbrev pub Answers : List Text → Result ProgramCommand WordsFault → Type 0
Answers words (Ok (commands.Show text)) = (takes program (named words) ≡ false) × (IsAmong DisplayHelp (faults_of words) ⊎ IsAmong DisplayVersion (faults_of words))
Answers words (Ok command) = (faults_of words ≡ []) × (asked words ≡ Some command)
Answers words (Err faults.Refused) = IsAmiss words × ((takes program (named words) ≡ false) ⊎ HasOddNumber words)
Answers words (Err faults.Memory) = ⊤

-- the numbers of a command are in their ranges
abbrev pub IsInRange : ProgramCommand → Type 0
IsInRange (commands.Listen port workers rounds user password drivers) =
    (1 ≤ port) × (port ≤ 65535) × (1 ≤ workers) × (workers ≤ 64) × IfSome rounds (λ n. (1 ≤ n) × (n ≤ 1000000000))
IsInRange (commands.Load transfers workers) = (1 ≤ transfers) × (transfers ≤ 10000) × (1 ≤ workers) × (workers ≤ 64)
IsInRange command = ⊤

-- ---- what its parts give

-- the command, unless memory was wanting for it
abbrev pub Reads : Option ProgramCommand → Result ProgramCommand WordsFault → Type 0
Reads meant (Ok (commands.Show text)) = ⊥
Reads meant (Ok command) = meant ≡ Some command
Reads meant (Err faults.Refused) = meant ≡ None
Reads meant (Err faults.Memory) = ⊤

-- the same of a part of it, which takes no memory
abbrev pub Finds : {A : Type 0} → Option A → Result A WordsFault → Type 0
Finds meant (Ok part) = meant ≡ Some part
Finds meant (Err faults.Refused) = meant ≡ None
Finds meant (Err faults.Memory) = ⊥

-- an error of `clap`'s answered
abbrev pub AnswersError : ErrorKind → Result ProgramCommand WordsFault → Type 0
AnswersError kind (Ok (commands.Show text)) = IsText kind
AnswersError kind (Ok command) = ⊥
AnswersError kind (Err faults.Refused) = (kind ≡ OutOfMemory → ⊥) × (IsText kind → ⊥)
AnswersError kind (Err faults.Memory) = ⊤
