-- Where nothing fails, all lines are answered.
use Rattle.std.proofs.Common.{◌≡◌, ◌≢◌, ℕ, ◌<◌, ◌≤◌, ◌+◌, List, [], ◌∷◌, ◌++◌, length, Option, Some, None, Result, Ok, Err, inl, inr, refl, sym, ap, subst, ◌∙◌, arith, append-nil, length-append}
use Rattle.std.specs.Prelude.{◌⊎◌, IsSome, IsOk}
use Rattle.std.specs.Io.KnownBytes.{Consumes, IsAtEnd}
use Rattle.step_script.specs.declared.line.Line.{Line}
use Rattle.steps_command.specs.declared.play.Stop.{Stop}
use Rattle.steps_command.specs.declared.play.Stop.TheVariants.{BadLine, Memory}
use Rattle.steps_command.specs.Script.{script_limit, script_lines}
use Rattle.steps_command.specs.Play.{Stage, Plays, StopsAt}
use Rattle.steps_command.specs.Command.{AllRead, EndsWell, IsWhole, no_memory, status_of}

ok_status : (end : Result (Unit {0}) Stop) → IsOk end → status_of end ≡ 0
ok_status (Ok done) is = refl
ok_status (Err stop) is = absurd cc

none_read : IsSome {T = Line} None → ⊥
none_read is = cc

-- lines that are all lines are answered, or memory was wanting
read_status : (lines : List (Option Line)) (old : Stage) (number : ℕ) (printed : List ℕ) (end : Result (Unit {0}) Stop) → Plays old number lines printed end → AllRead lines → (status_of end ≡ 0) ⊎ (status_of end ≡ no_memory)
read_status [] old number printed end plays read = inl (ok_status end plays.1)
read_status (told ∷ lines) old number printed end (inl (inl wanting)) read = inr (ap status_of wanting.0)
read_status (None ∷ lines) old number printed end (inl (inr bad)) read = absurd (none_read read.0)
read_status (Some line ∷ lines) old number printed end (inl (inr bad)) read = absurd (cc bad.1)
read_status (told ∷ lines) old number printed end (inr (line, said, rest, mid, is, answers, whole, plays)) read = read_status lines mid (number + 1) rest end plays read.1

-- all bytes were taken, where the source told that they are within the limit
all_taken : (bytes taken : List ℕ) (left : Option (List ℕ)) → Consumes (Some bytes) left taken → length bytes ≤ script_limit → IsWhole left taken → taken ≡ bytes
all_taken bytes taken None consumes few whole = absurd consumes
all_taken bytes taken (Some rest) consumes few (inl none) = sym (consumes ∙ ap (λ (more : List ℕ). taken ++ more) none ∙ append-nil taken)
all_taken bytes taken (Some rest) consumes few (inr past) = absurd (omega (arith, few, past, ap length consumes, length-append taken rest))

-- what is taken and answered
pub answered_well : (first : Stage) (told : Option (List ℕ)) (taken script : List ℕ) (left : Option (List ℕ)) (printed : List ℕ) (end : Result (Unit {0}) Stop) (status : ℕ) → Consumes told left taken → IsWhole left taken
    → script ≡ taken → Plays first 1 (script_lines script) printed end → status ≡ status_of end → EndsWell told status
answered_well first None taken script left printed end status consumes whole same plays is = tt
answered_well first (Some bytes) taken script left printed end status consumes whole same plays is = λ few read.
    let all = same ∙ all_taken bytes taken left consumes few whole in
    let answered = read_status (script_lines script) first 1 printed end plays (subst (λ (text : List ℕ). AllRead (script_lines text)) (sym all) read) in
    subst (λ (n : ℕ). (n ≡ 0) ⊎ (n ≡ no_memory)) (sym is) answered
