-- What the commands did, as the program tells it.
use Rattle.std.proofs.Common.{◌≡◌, ℕ, true, false, List, [], ◌∷◌, Option, None, Some, Result, Ok, Err, inl, inr, sym, ap, subst, ◌∙◌}
use Rattle.std.specs.Prelude.{◌⊎◌, ◌≤◌, ◌-◌, ◌^◌, IfOk, string_bytes}
use Rattle.std.specs.Result.{is_err}
use Rattle.std.specs.List.{AllByRecursion}
use Rattle.clap.specs.Kinds.{IsAmong, Kinds}
use Rattle.clap.specs.Walk.{Text}
use Rattle.clap.specs.declared.error.kind.ErrorKind.{ErrorKind}
use Rattle.clap.specs.declared.error.kind.ErrorKind.TheVariants.{DisplayHelp, DisplayVersion}
use Rattle.tds_login.specs.declared.config.Config.{Config}
use Rattle.outside_io.specs.Bytes.{HasRisen}
use Rattle.session_server.specs.declared.end.End.{End}
use Rattle.session_server.specs.declared.end.End.TheVariants as ends
use Rattle.session_server.specs.Conversation.{Completes}
use Rattle.program_words.specs.declared.command.ProgramCommand.{ProgramCommand}
use Rattle.program_words.specs.declared.command.ProgramCommand.TheVariants.{Pipe, Listen, Steps, Load, Show}
use Rattle.program_words.specs.Asked.{Answers, AsksForTextAlone, IsText, asked, faults_of}
use Rattle.seat_server.specs.declared.tally.Tally.{Tally}
use Rattle.seat_server.specs.Workers.{HallNumbers, RisesBy, Tallied}
use Rattle.tsqld.specs.Asking.{AsksFor, AsksForText, IfText, IsNoCommand, IsRefused}
use Rattle.tsqld.specs.Program.{EndsWell, status_of}

-- ---- `pipe`

-- what holds of a source and a sink holds of those that they are
pub of_same : {A B : Type 0} (P : A → B → Type 0) (a x : A) (b y : B) → x ≡ a → y ≡ b → P a b → P x y
of_same P a x b y same other holds = subst (λ (v : _). P x v) (sym other) (subst (λ (u : _). P u b) (sym same) holds)

-- a connection that was closed, or wanted memory
well_status : (end : End) → (end ≡ ends.Closed) ⊎ (end ≡ ends.Memory) → (status_of end ≡ 0) ⊎ (status_of end ≡ 6)
well_status end (inl closed) = inl (ap status_of closed)
well_status end (inr wanting) = inr (ap status_of wanting)

pub ends_well : (config : Config) (told : Option (List ℕ)) (end : End) (status : ℕ) → status ≡ status_of end → Completes config told end → EndsWell config told status
ends_well config None end status is well = tt
ends_well config (Some bytes) end status is well = λ short messages split in_place. subst (λ (s : ℕ). (s ≡ 0) ⊎ (s ≡ 6)) (sym is) (well_status end (well short messages split in_place))

-- ---- `listen`

-- what holds where it came well, as it did
pub where_ok : {A E P : Type 0} (result : Result A E) → is_err result ≡ false → IfOk result (λ _. P) → P
where_ok (Ok a) well holds = holds
where_ok (Err failure) well holds = absurd (let no : true ≡ false = well in cc)

-- counts from these numbers on, where they are the same
pub tallied_from : (rounds : Option ℕ) (workers : ℕ) (before mid after : HallNumbers) (tally : Tally) → mid.faults ≡ before.faults → mid.finished ≡ before.finished → mid.failed ≡ before.failed → mid.closed ≡ before.closed
    → mid.made ≡ before.made → mid.back ≡ before.back → Tallied rounds workers mid after tally → Tallied rounds workers before after tally
tallied_from rounds workers before mid after tally faults finished failed closed made back tallied = record {
  faulty = λ some. subst (λ (n : ℕ). HasRisen n after.faults) faults (tallied.faulty some);
  counted = λ few. subst (λ (n : ℕ). n ≤ after.faults) faults (tallied.counted (subst (λ (n : ℕ). n ≤ 2 ^ 64 - 1) (sym faults) few));
  faultless = λ few none. tallied.faultless (subst (λ (n : ℕ). n ≤ 2 ^ 64 - 1) (sym faults) few) none ∙ faults;
  finished = subst (λ (n : ℕ). RisesBy n after.finished tally.connections) finished tallied.finished;
  failed = subst (λ (n : ℕ). RisesBy n after.failed tally.failed) failed tallied.failed;
  closed = subst (λ (n : ℕ). RisesBy n after.closed tally.closed) closed tallied.closed;
  doors = tallied.doors;
  made = subst (λ (n : ℕ). RisesBy n after.made tallied.doors) made tallied.made;
  back = subst (λ (n : ℕ). RisesBy n after.back tallied.doors) back tallied.back;
  each = tallied.each;
  bounded = tallied.bounded;
  none = tallied.none;
  least = tallied.least;
  whole = tallied.whole;
  ended = tallied.ended;
}

-- ---- words

some_same : (x y : ProgramCommand) → Some x ≡ Some y → x ≡ y
some_same x y is = cc

-- no text is asked for where there is no fault
none_among : (words : List Text) → faults_of words ≡ [] → IsAmong DisplayHelp (faults_of words) ⊎ IsAmong DisplayVersion (faults_of words) → ⊥
none_among words clean (inl help) = subst (IsAmong DisplayHelp) clean help
none_among words clean (inr version) = subst (IsAmong DisplayVersion) clean version

-- they ask for the command that was read
pub as_read : (words : List Text) (command other : ProgramCommand) → Answers words (Ok command) → AsksFor words other → command ≡ other
as_read words (Show text) other answers asks = absurd (elim asks.0 [
  | inl taken ↦ (let differ : true ≡ false = sym taken ∙ answers.0 in cc)
  | inr clean ↦ none_among words clean answers.1
])
as_read words (Pipe user password bare drivers) other answers asks = some_same (Pipe user password bare drivers) other (sym answers.1 ∙ asks.1)
as_read words (Listen port workers rounds user password drivers) other answers asks = some_same (Listen port workers rounds user password drivers) other (sym answers.1 ∙ asks.1)
as_read words Steps other answers asks = some_same Steps other (sym answers.1 ∙ asks.1)
as_read words (Load transfers workers) other answers asks = some_same (Load transfers workers) other (sym answers.1 ∙ asks.1)

none_some : (x : ProgramCommand) (asked : Option ProgramCommand) → asked ≡ Some x → asked ≡ None → ⊥
none_some x asked is missing = let differ : Some x ≡ None = sym is ∙ missing in cc

-- words that are no command are read as one that shows a text, if as any
module _ (words : List Text) (P : List ℕ → Type 0) where
  unread : (command : ProgramCommand) → faults_of words ≡ [] → asked words ≡ Some command → IsNoCommand words → ⊥
  unread command clean asks (inl faulty) = faulty clean
  unread command clean asks (inr missing) = none_some command (asked words) asks missing

  pub only_shown : (command : ProgramCommand) → Answers words (Ok command) → IsNoCommand words → IfText command P → (text : List ℕ) × P text × AsksForText words
  only_shown (Show text) answers other shows = (string_bytes text, shows, answers.1)
  only_shown (Pipe user password bare drivers) answers other shows = absurd (unread (Pipe user password bare drivers) answers.0 answers.1 other)
  only_shown (Listen port workers rounds user password drivers) answers other shows = absurd (unread (Listen port workers rounds user password drivers) answers.0 answers.1 other)
  only_shown Steps answers other shows = absurd (unread Steps answers.0 answers.1 other)
  only_shown (Load transfers workers) answers other shows = absurd (unread (Load transfers workers) answers.0 answers.1 other)

-- words that are refused ask for no command
pub unasked : (words : List Text) (command : ProgramCommand) → IsRefused words → AsksFor words command → ⊥
unasked words command (amiss, inr odd) asks = none_some command (asked words) asks.1 odd.none
unasked words command (inr none, inl untaken) asks = none_some command (asked words) asks.1 none.1
unasked words command (inl fault, inl untaken) asks = elim asks.0 [
  | inl taken ↦ (let differ : true ≡ false = sym taken ∙ untaken in cc)
  | inr clean ↦ subst (IsAmong fault.0) clean fault.1
]

-- words that ask for help or the version alone are not refused
all_among : (kinds : Kinds) (kind : ErrorKind) → IsAmong kind kinds → AllByRecursion IsText kinds → IsText kind
all_among [] kind is all = absurd is
all_among (first ∷ rest) kind (inl same) all = subst IsText (sym same) all.0
all_among (first ∷ rest) kind (inr later) all = all_among rest kind later all.1

pub shown_unrefused : (words : List Text) → AsksForTextAlone words → IsRefused words → ⊥
shown_unrefused words alone (inl fault, others) = fault.2 (all_among (faults_of words) fault.0 fault.1 alone.1)
shown_unrefused words alone (inr none, others) = alone.0 none.0
