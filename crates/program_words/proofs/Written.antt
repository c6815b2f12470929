-- A command that the words write is taken, and asked for.
use Rattle.std.proofs.Common.{◌≡◌, ◌∙◌, ◌⊎◌, inl, inr, ◌&&◌, Bool, true, false, refl, sym, ap, List, [], ◌∷◌, ◌++◌, Some, None, Result, Ok, Err, true≢false}
use Rattle.std.specs.Option.{is_some}
use Rattle.std.specs.List.{fold, list_all}
use Rattle.clap.specs.Walk.{Text, Walk, finished, nothing_held, rows_after, walk, walked}
use Rattle.clap.specs.Simple.{App, built, entered, names_of, subcommand_of}
use Rattle.clap.specs.Walk.{Names}
use Rattle.clap.specs.Takes.{default_passes, entered_passes, is_valid, level_passes, settle_passes, takes, turn_passes, walk_passes}
use Rattle.clap.proofs.WalkLemmas.{walk_stopped}
use Rattle.program_words.specs.declared.command.ProgramCommand.{ProgramCommand}
use Rattle.program_words.specs.declared.command.ProgramCommand.TheVariants as commands
use Rattle.program_words.specs.declared.fault.WordsFault.{WordsFault}
use Rattle.program_words.specs.declared.fault.WordsFault.TheVariants as faults
use Rattle.program_words.specs.Options.{program}
use Rattle.program_words.specs.Asked.{Answers, asked, asked_of, named}
use Rattle.program_words.specs.Spelled.{Called, Spells, all_written, call}
use Rattle.program_words.specs.Spelled.{pipe, listen, steps, load}
use Rattle.program_words.proofs.Ranges.{inject, none≢some}
use Rattle.program_words.proofs.Steps.{state}
use Rattle.program_words.proofs.Leaves.{leaf}
use Rattle.program_words.proofs.Ends.{level_command, level_true}

-- ---- the walk over a command's name

abbrev above : App
above = built program

abbrev names : Names
names = names_of above

abbrev start : Walk
start = state [] None 1

abbrev stopped : Called → List Text → Walk
stopped called words = record start { stopped = Some (call called, words) }

first_word : (called : Called) → walked above.top.rules names start (call called) ≡ stopped called []
unfolding walked
first_word pipe = refl
first_word listen = refl
first_word steps = refl
first_word load = refl

first_turn : (called : Called) → turn_passes above.top names start (call called) ≡ true
first_turn pipe = refl
first_turn listen = refl
first_turn steps = refl
first_turn load = refl

module _ (called : Called) where
  walk_is : (words : List Text) → walk above.top.rules names nothing_held (call called ∷ words) ≡ stopped called words
  walk_is words =
      ap (λ w. fold (walked above.top.rules names) w words) (first_word called) ∙ sym (walk_stopped above.top.rules names start (call called) [] words)

  -- behind the name, words are left to the subcommand
  rest_passes : (seen words : List Text) → walk_passes above.top names (stopped called seen) words ≡ true
  unfolding walk_passes walked
  rest_passes seen [] = refl
  rest_passes seen (x ∷ xs) = rest_passes (seen ++ x ∷ []) xs

  all_pass : (words : List Text) → walk_passes above.top names start (call called ∷ words) ≡ true
  unfolding walk_passes
  all_pass words =
      ap (λ b. b && walk_passes above.top names (walked above.top.rules names start (call called)) words) (first_turn called)
      ∙ (ap (λ w. walk_passes above.top names w words) (first_word called) ∙ rest_passes [] words)

-- what is checked where the walk stands at `w`
abbrev checks : List Text → Walk → Bool
checks words w =
    entered_passes above w.stopped && (walk_passes above.top names start words && (settle_passes above.top.rules above.top.args_override_self w.held
    && (list_all default_passes above.top.rules && is_valid above.top (finished above.top.rules w.held) (is_some (entered above w.stopped)))))

checks_true : (called : Called) (words : List Text) → level_passes (leaf called) [] nothing_held words false ≡ true
    → walk_passes above.top names start (call called ∷ words) ≡ true → checks (call called ∷ words) (stopped called words) ≡ true
checks_true pipe words level pass = rw (level, pass) refl
checks_true listen words level pass = rw (level, pass) refl
checks_true steps words level pass = rw (level, pass) refl
checks_true load words level pass = rw (level, pass) refl

taken : (called : Called) (words : List Text) → level_passes (leaf called) [] nothing_held words false ≡ true → takes program (named (call called ∷ words)) ≡ true
taken called words level = ap (checks (call called ∷ words)) (walk_is called words) ∙ checks_true called words level (all_pass called words)

entered_is : (called : Called) (words : List Text) → entered above (Some (call called, words)) ≡ Some (call called, rows_after (leaf called).rules [] words)
entered_is pipe words = refl
entered_is listen words = refl
entered_is steps words = refl
entered_is load words = refl

found : (called : Called) (words : List Text) → subcommand_of program (named (call called ∷ words)) ≡ Some (call called, rows_after (leaf called).rules [] words)
found called words = ap (λ w. entered above w.stopped) (walk_is called words) ∙ entered_is called words

-- ---- a command that the words write

pub spelled_taken : (words : List Text) (c : ProgramCommand) → Spells words c → takes program (named words) ≡ true
spelled_taken words c s =
    ap (λ ws. takes program (named ws)) s.are ∙ taken s.called (all_written s.uses) (level_true s.called s.uses c s.stand s.distinct s.means)

pub spelled_asked : (words : List Text) (c : ProgramCommand) → Spells words c → asked words ≡ Some c
spelled_asked words c s =
    ap asked s.are ∙ (ap asked_of (found s.called (all_written s.uses)) ∙ level_command s.called s.uses c s.stand s.distinct s.means)

-- reading gives it, unless memory was wanting
pub spelled_read : (words : List Text) (c : ProgramCommand) (r : Result ProgramCommand WordsFault) → Answers words r → Spells words c → (r ≡ Ok c) ⊎ (r ≡ Err faults.Memory)
spelled_read words c r answers s = go r answers (spelled_taken words c s) (spelled_asked words c s)
  where
    this : (d : ProgramCommand) → asked words ≡ Some d → asked words ≡ Some c → ◌≡◌ {A = Result ProgramCommand WordsFault} (Ok d) (Ok c)
    this d is other = ap (λ x. Ok x) (inject d c (sym is ∙ other))

    go : (r : Result ProgramCommand WordsFault) → Answers words r → takes program (named words) ≡ true → asked words ≡ Some c → (r ≡ Ok c) ⊎ (r ≡ Err faults.Memory)
    go (Ok (commands.Show text)) shown takes_it asks = absurd (true≢false (sym takes_it ∙ shown.0))
    go (Ok (commands.Pipe user password bare drivers)) is takes_it asks = inl (this (commands.Pipe user password bare drivers) is.1 asks)
    go (Ok (commands.Listen port workers rounds user password drivers)) is takes_it asks = inl (this (commands.Listen port workers rounds user password drivers) is.1 asks)
    go (Ok commands.Steps) is takes_it asks = inl (this commands.Steps is.1 asks)
    go (Ok (commands.Load transfers workers)) is takes_it asks = inl (this (commands.Load transfers workers) is.1 asks)
    go (Err faults.Refused) (amiss, inl refused) takes_it asks = absurd (true≢false (sym takes_it ∙ refused))
    go (Err faults.Refused) (amiss, inr number) takes_it asks = absurd (none≢some c (sym number.none ∙ asks))
    go (Err faults.Memory) is takes_it asks = inr refl
