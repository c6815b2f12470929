-- What reading gives, by what `clap`'s parse gives.
use Rattle.std.proofs.Common.{◌≡◌, ◌∙◌, ◌⊎◌, inl, inr, Bool, true, false, refl, sym, ap, subst, List, [], Option, Result, Ok, Err, true≢false}
use Rattle.clap.specs.Walk.{Row, Text}
use Rattle.clap.specs.Simple.{subcommand_of}
use Rattle.clap.specs.Takes.{takes}
use Rattle.clap.specs.Kinds.{IsAmong}
use Rattle.clap.specs.declared.error.kind.ErrorKind.{ErrorKind}
use Rattle.clap.specs.declared.error.kind.ErrorKind.TheVariants.{DisplayHelp, DisplayVersion, OutOfMemory}
use Rattle.program_words.specs.declared.command.ProgramCommand.{ProgramCommand}
use Rattle.program_words.specs.declared.command.ProgramCommand.TheVariants as commands
use Rattle.program_words.specs.declared.fault.WordsFault.{WordsFault}
use Rattle.program_words.specs.declared.fault.WordsFault.TheVariants as faults
use Rattle.program_words.specs.Options.{program}
use Rattle.program_words.specs.Asked.{Answers, AnswersError, HasOddNumber, Reads, asked_of, faults_of, named}
use Rattle.program_words.proofs.Odd.{odd_number_found}

-- the matches read
pub matches_answer : (words : List Text) (found : Option (Text × List Row)) (r : Result ProgramCommand WordsFault) → found ≡ subcommand_of program (named words)
    → faults_of words ≡ [] → Reads (asked_of found) r → Answers words r
matches_answer words found (Ok (commands.Show text)) is none reads = absurd reads
matches_answer words found (Ok (commands.Pipe user password bare drivers)) is none reads = (none, sym (ap asked_of is) ∙ reads)
matches_answer words found (Ok (commands.Listen port workers rounds user password drivers)) is none reads = (none, sym (ap asked_of is) ∙ reads)
matches_answer words found (Ok commands.Steps) is none reads = (none, sym (ap asked_of is) ∙ reads)
matches_answer words found (Ok (commands.Load transfers workers)) is none reads = (none, sym (ap asked_of is) ∙ reads)
matches_answer words found (Err faults.Refused) is none reads = (inr (none, sym (ap asked_of is) ∙ reads), go (takes program (named words)) refl)
  where
    go : (b : Bool) → takes program (named words) ≡ b → (takes program (named words) ≡ false) ⊎ HasOddNumber words
    go false e = inl e
    go true e = inr (odd_number_found words e (sym (ap asked_of is) ∙ reads))
matches_answer words found (Err faults.Memory) is none reads = tt

abbrev is_memory : ErrorKind → Bool
is_memory OutOfMemory = true
is_memory _ = false

-- an error that is no want of memory comes only where `clap` doesn't take the words
no_memory : (words : List Text) (kind : ErrorKind) → (takes program (named words) ≡ true → kind ≡ OutOfMemory) → (kind ≡ OutOfMemory → ⊥) → takes program (named words) ≡ false
no_memory words kind passes other = go (takes program (named words)) refl
  where
    go : (b : Bool) → takes program (named words) ≡ b → takes program (named words) ≡ false
    go false e = e
    go true e = absurd (other (passes e))

-- an error answered
pub error_answers : (words : List Text) (kind : ErrorKind) (r : Result ProgramCommand WordsFault) → (takes program (named words) ≡ true → kind ≡ OutOfMemory)
    → (kind ≡ OutOfMemory) ⊎ IsAmong kind (faults_of words) → AnswersError kind r → Answers words r
error_answers words kind (Ok (commands.Show text)) passes has answers =
    (no_memory words kind passes not_memory, among answers has)
  where
    not_memory : kind ≡ OutOfMemory → ⊥
    not_memory memory = elim answers [
      | inl help ↦ true≢false (ap is_memory (sym memory ∙ help))
      | inr version ↦ true≢false (ap is_memory (sym memory ∙ version))
    ]

    among : (kind ≡ DisplayHelp) ⊎ (kind ≡ DisplayVersion) → (kind ≡ OutOfMemory) ⊎ IsAmong kind (faults_of words)
        → IsAmong DisplayHelp (faults_of words) ⊎ IsAmong DisplayVersion (faults_of words)
    among asks (inl memory) = absurd (not_memory memory)
    among (inl help) (inr is) = inl (subst (λ k. IsAmong k (faults_of words)) help is)
    among (inr version) (inr is) = inr (subst (λ k. IsAmong k (faults_of words)) version is)
error_answers words kind (Ok (commands.Pipe user password bare drivers)) passes has answers = absurd answers
error_answers words kind (Ok (commands.Listen port workers rounds user password drivers)) passes has answers = absurd answers
error_answers words kind (Ok commands.Steps) passes has answers = absurd answers
error_answers words kind (Ok (commands.Load transfers workers)) passes has answers = absurd answers
error_answers words kind (Err faults.Refused) passes has answers = (inl (kind, among has, answers.1), inl (no_memory words kind passes answers.0))
  where
    among : (kind ≡ OutOfMemory) ⊎ IsAmong kind (faults_of words) → IsAmong kind (faults_of words)
    among (inl memory) = absurd (answers.0 memory)
    among (inr is) = is
error_answers words kind (Err faults.Memory) passes has answers = tt
