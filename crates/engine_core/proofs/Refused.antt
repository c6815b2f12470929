-- A claim that does not pass: a time-out, or a wait whose cycles are broken.
use Rattle.std.proofs.Common.{◌≡◌, ℕ, ◌==◌, Bool, true, false, if◌then◌else◌, List, [], ◌∷◌, map, Option, None, Some, Result, Ok, Err, IfOk, refl, ap}
use Rattle.lock_modes.specs.declared.Pair.{Pair}
use Rattle.step_model.specs.declared.edge.Edge.{Edge}
use Rattle.step_model.specs.declared.manner.Manner.{Manner}
use Rattle.step_model.specs.declared.manner.Patience.TheVariants.{Refuse, Forever}
use Rattle.step_model.specs.declared.op.Op.{Op}
use Rattle.step_model.specs.declared.reply.Reply.{Reply}
use Rattle.step_model.specs.declared.reply.Reply.TheVariants.{TimedOut}
use Rattle.value_types.specs.declared.memory.Memory.{Memory}
use Rattle.step_model.specs.State.{Engine, StandingWait, Transaction}
use Rattle.step_model.specs.Moves.{with_session_in, with_wait, without_wait, drop_wait, set_wait, after_fall}
use Rattle.step_model.specs.Claims.{Claim, IsFoe, claim_of}
use Rattle.step_model.specs.Deadlocks.{Breaks, wait_for}
use Rattle.step_model.specs.Step.{StepFrom}
use Rattle.engine_core.specs.declared.breaks.Fall.{Fall}
use Rattle.engine_core.specs.Breaking.{after_falls, AreFalls, Rests, reply_left, after_left}

-- ---- waits

-- a wait that ends is gone
ended_in : (session : ℕ) (wait : StandingWait) (ts : List Transaction) → with_session_in session drop_wait (with_session_in session (set_wait wait) ts) ≡ with_session_in session drop_wait ts
ended_in session wait [] = refl
ended_in session wait (t ∷ ts) = by_test (t.session == session) refl (ended_in session wait ts)
  where
    by_test : (b : Bool) → (t.session == session) ≡ b → with_session_in session drop_wait (with_session_in session (set_wait wait) ts) ≡ with_session_in session drop_wait ts
        → with_session_in session drop_wait ((if b then set_wait wait t else t) ∷ with_session_in session (set_wait wait) ts) ≡ (if b then drop_wait t else t) ∷ with_session_in session drop_wait ts
    by_test true is rest = rw is (ap (λ (us : List Transaction). drop_wait t ∷ us) rest)
    by_test false is rest = rw is (ap (λ (us : List Transaction). t ∷ us) rest)

pub wait_ended : (session : ℕ) (wait : StandingWait) (engine : Engine) → without_wait session (with_wait session wait engine) ≡ without_wait session engine
wait_ended session wait engine = ap (λ (ts : List Transaction). record engine { active = ts }) (ended_in session wait engine.active)

-- ---- cycles

abbrev cycles : List Fall → List (List Edge)
cycles falls = map (λ (fall : Fall). fall.cycle) falls

breaks_all : (session : ℕ) (falls : List Fall) (engine : Engine) → AreFalls session engine falls → Breaks session engine (cycles falls) (after_falls falls engine)
breaks_all session [] engine all = refl
breaks_all session (fall ∷ falls) engine all = (fall.session, all.0, all.1, breaks_all session falls (after_fall fall.session fall.cycle engine) all.2)

-- ---- steps

module _ (mid : Engine) (session : ℕ) (claim : Claim) (holder : ℕ) (held : Pair) (foe : IsFoe session claim.on claim.pair mid holder held) (manner : Manner) (op : Op) (is : claim_of mid op ≡ Some claim) where
  pub times_out : manner.patience ≡ Refuse → StepFrom mid session op manner (TimedOut holder held claim.pair claim.on) mid
  times_out patient = (rw is (patient, refl, refl, foe), refl)

  pub waits_or_falls : manner.patience ≡ Forever → (falls : List Fall) (own : Option (List Edge)) → AreFalls session (with_wait session (wait_for claim manner.priority) mid) falls
      → Rests session (after_falls falls (with_wait session (wait_for claim manner.priority) mid)) own
      → StepFrom mid session op manner (reply_left holder own) (after_left session own (after_falls falls (with_wait session (wait_for claim manner.priority) mid)))
  waits_or_falls patient falls None all rests =
      rw is (patient, (held, foe), record { broken = cycles falls; breaks = breaks_all session falls (with_wait session (wait_for claim manner.priority) mid) all; free = rests })
  waits_or_falls patient falls (Some cycle) all rests =
      rw is (
        patient,
        record {
          broken = cycles falls;
          last = after_falls falls (with_wait session (wait_for claim manner.priority) mid);
          breaks = breaks_all session falls (with_wait session (wait_for claim manner.priority) mid) all;
          falls = rests;
          left = refl;
        },
      )

-- what is told of whatever operation asks the claim
pub refused_step : (mid : Engine) (session : ℕ) (claim : Claim) (manner : Manner) (new : Engine) (op : Op) (result : Result Reply Memory) → IfOk result (λ reply. (any : Op) → claim_of mid any ≡ Some claim → StepFrom mid session any manner reply new)
    → claim_of mid op ≡ Some claim → IfOk result (λ reply. StepFrom mid session op manner reply new)
refused_step mid session claim manner new op (Ok reply) says is = says op is
refused_step mid session claim manner new op (Err memory) says is = tt
