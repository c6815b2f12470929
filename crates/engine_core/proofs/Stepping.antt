-- A step of the parts as one of the model.
use Rattle.std.proofs.Common.{◌≡◌, ℕ, ◌==◌, Bool, true, false, if◌then◌else◌, List, [], ◌∷◌, Option, refl, sym, ap, ◌∙◌, subst}
use Rattle.step_model.specs.declared.edge.Edge.{Edge}
use Rattle.step_model.specs.declared.manner.Manner.{Manner}
use Rattle.step_model.specs.declared.op.Op.{Op}
use Rattle.step_model.specs.declared.reply.Reply.{Reply}
use Rattle.step_model.specs.Exchange.{Standing, MayAsk}
use Rattle.step_model.specs.Runs.{MayStep}
use Rattle.step_model.specs.State.{Engine, Transaction, victim_of}
use Rattle.step_model.specs.Moves.{with_session_in, without_wait, drop_wait}
use Rattle.step_model.specs.Step.{Step, Hears, told_first}
use Rattle.history_laws.specs.Sane.{Sane}
use Rattle.history_laws.proofs.OneMove.{sane_shift}
use Rattle.history_laws.proofs.StepMoves.{calm_standing, wait_shift}
use Rattle.history_laws.proofs.Waiting.{calm_mark}

twice : (session : ℕ) (ts : List Transaction) → with_session_in session drop_wait (with_session_in session drop_wait ts) ≡ with_session_in session drop_wait ts
twice session [] = refl
twice session (t ∷ ts) = by_test (t.session == session) refl (twice session ts)
  where
    by_test : (b : Bool) → (t.session == session) ≡ b → with_session_in session drop_wait (with_session_in session drop_wait ts) ≡ with_session_in session drop_wait ts
        → with_session_in session drop_wait ((if b then drop_wait t else t) ∷ with_session_in session drop_wait ts) ≡ (if b then drop_wait t else t) ∷ with_session_in session drop_wait ts
    by_test true is rest = rw is (ap (λ (us : List Transaction). drop_wait t ∷ us) rest)
    by_test false is rest = rw is (ap (λ (us : List Transaction). t ∷ us) rest)

module _ (session : ℕ) (old : Engine) where
  -- a session waits no more when its wait has ended
  pub calmed : without_wait session (without_wait session old) ≡ without_wait session old
  calmed = ap (λ (ts : List Transaction). record old { active = ts }) (twice session old.active)

  pub calm_sane : Sane old → Sane (without_wait session old)
  calm_sane sane = sane_shift session drop_wait wait_shift old sane

  pub calm_may : (op : Op) (manner : Manner) → MayStep old session op manner → MayStep (without_wait session old) session op manner
  calm_may op manner may = (may.0, subst (λ (standing : Standing). MayAsk standing op manner) (sym (calm_standing session old)) may.1)

  -- what it hears is a step
  pub heard_step : (new : Engine) (op : Op) (manner : Manner) (reply : Reply) (told : Option (List Edge)) → told ≡ told_first op (victim_of session (without_wait session old))
      → Hears told (without_wait session old) session op manner reply new → Step old session op manner reply new
  heard_step new op manner reply told is hears =
      subst (λ (o : Option (List Edge)). Hears o (without_wait session old) session op manner reply new) (is ∙ ap (told_first op) (calm_mark session old)) hears
