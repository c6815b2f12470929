-- Own: which words ask for a command of the program. The command of clap that reads them, and what it makes of them, are those of
-- `program_words`.
use Rattle.std.specs.Prelude.{◌≡◌, ◌≢◌, ◌⊎◌, ℕ, true, false, List, [], None, Some, string_bytes}
use Rattle.clap.specs.Walk.{Text}
use Rattle.clap.specs.Takes.{takes}
use Rattle.clap.specs.Kinds.{IsAmong}
use Rattle.clap.specs.declared.error.kind.ErrorKind.TheVariants.{DisplayHelp, DisplayVersion}
use Rattle.program_words.specs.declared.command.ProgramCommand.{ProgramCommand}
use Rattle.program_words.specs.declared.command.ProgramCommand.TheVariants.{Show}
use Rattle.program_words.specs.Asked.{HasOddNumber, IsAmiss, asked, faults_of, named}
use Rattle.program_words.specs.Options.{program}

-- clap takes the words, or finds no fault in them, two definitions that no law of clap's ties; and what it finds in them is this command. So
-- it is of all words that write one (`Spells` of `program_words`), and of all that are not `IsNoCommand`.
abbrev pub AsksFor : List Text → ProgramCommand → Type 0
AsksFor words command = ((takes program (named words) ≡ true) ⊎ (faults_of words ≡ [])) × (asked words ≡ Some command)

-- clap finds a fault in them, or they ask for no command
abbrev pub IsNoCommand : List Text → Type 0
IsNoCommand words = (faults_of words ≢ []) ⊎ (asked words ≡ None)

-- They are no command, and not only since they ask for help or the version; by clap's own definition they are not taken, or a number among
-- them has a sign or begins with 0.
abbrev pub IsRefused : List Text → Type 0
IsRefused words = IsAmiss words × ((takes program (named words) ≡ false) ⊎ HasOddNumber words)

-- they ask for help, or for the version
abbrev pub AsksForText : List Text → Type 0
AsksForText words = IsAmong DisplayHelp (faults_of words) ⊎ IsAmong DisplayVersion (faults_of words)

-- of the text that a command shows
abbrev pub IfText : ProgramCommand → (List ℕ → Type 0) → Type 0
IfText (Show text) P = P (string_bytes text)
IfText command P = Unit {0}
