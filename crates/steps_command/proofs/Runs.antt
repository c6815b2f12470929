-- The steps of a script are a run.
use Rattle.std.proofs.Common.{◌≡◌, ℕ, ◌+◌, List, [], ◌∷◌, ◌++◌, Option, Some, None, Result, inl, inr, refl, sym, ap, subst}
use Rattle.step_model.specs.State.{Engine}
use Rattle.step_model.specs.Runs.{Asked, Run}
use Rattle.step_script.specs.declared.line.Line.{Line}
use Rattle.step_script.specs.declared.line.Line.TheVariants.{Ask, Patience, Priority}
use Rattle.steps_command.specs.declared.play.Stop.{Stop}
use Rattle.steps_command.specs.Play.{Stage, Answers, Plays, manner_of}
use Rattle.steps_command.specs.Steps.{Says, Tells, IsRun, step_of}

-- steps of one line, and those behind
own_steps : (line : Line) (old mid : Stage) (said : List ℕ) (others : List Asked) (new : Engine) → Answers old line said mid → Run mid.engine others new
    → (own : List Asked) × Says line own said × Run old.engine (own ++ others) new
own_steps (Ask session op) old mid said others new (inl asked, manners) run =
    (step_of session op (manner_of session old.manners) asked.0 ∷ [], inl (manner_of session old.manners, asked.0, refl, asked.4), (mid.engine, asked.1, asked.2, run))
own_steps (Ask session op) old mid said others new (inr refused, manners) run =
    ([], inr (refl, refused.2), subst (λ (engine : Engine). Run engine others new) refused.1 run)
own_steps (Patience session patience) old mid said others new (text, is) run =
    ([], (refl, text), subst (λ (engine : Engine). Run engine others new) (ap (λ (stage : Stage). stage.engine) is) run)
own_steps (Priority session priority) old mid said others new (text, is) run =
    ([], (refl, text), subst (λ (engine : Engine). Run engine others new) (ap (λ (stage : Stage). stage.engine) is) run)

pub is_run : (lines : List (Option Line)) (old : Stage) (number : ℕ) (printed : List ℕ) (end : Result (Unit {0}) Stop) → Plays old number lines printed end → IsRun old number lines printed end
is_run [] old number printed end plays = ([], old.engine, refl, (refl, plays.0, plays.1))
is_run (told ∷ lines) old number printed end (inl stops) = ([], old.engine, refl, inl (refl, stops))
is_run (told ∷ lines) old number printed end (inr (line, said, rest, mid, is, answers, whole, plays)) =
    let later = is_run lines mid (number + 1) rest end plays in
    let own = own_steps line old mid said later.0 later.1 answers later.2 in
    (own.0 ++ later.0, later.1, own.2, inr (line, own.0, later.0, said, rest, is, own.1, refl, whole, later.3))
