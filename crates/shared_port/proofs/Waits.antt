-- One asking: steps that are told to wait, and where the seat's session stands among them.
use Rattle.std.proofs.Common.{◌≡◌, ◌⊎◌, inl, inr, ℕ, true, false, List, [], ◌∷◌, ◌++◌, map, Option, None, Some, is_some, refl, sym, ap, ◌∙◌, subst, append-nil, append_assoc}
use Rattle.std.specs.List.{AllByRecursion}
use Rattle.std.proofs.lemmas.List.{map-append}
use mathlib.Core.List.{IsPrefix}
use Rattle.step_model.specs.declared.edge.Edge.{Edge}
use Rattle.step_model.specs.declared.manner.Manner.{Manner}
use Rattle.step_model.specs.declared.op.Op.{Op}
use Rattle.step_model.specs.declared.reply.Reply.{Reply}
use Rattle.step_model.specs.declared.reply.Reply.TheVariants.{Wait, Victim}
use Rattle.step_model.specs.Claims.{claim_of}
use Rattle.step_model.specs.Exchange.{Exchange, AsksLock, MayAsk, IsSession}
use Rattle.step_model.specs.Fits.{is_wait}
use Rattle.step_model.specs.Moves.{without_wait}
use Rattle.step_model.specs.Own.{Progress, progress_of, standing_at}
use Rattle.step_model.specs.State.{Engine, Transaction, is_open, transaction_in, victim_in, victim_of}
use Rattle.step_model.specs.Step.{Step, Hears, told_first}
use Rattle.history_laws.specs.Knows.{Knows, Ready}
use Rattle.history_laws.specs.Quiet.{EndsInWait}
use Rattle.history_laws.proofs.Replies.{waits_asks}
use Rattle.engine_core.specs.Machine.{Ask, exchanges_of, mine_in}
use Rattle.engine_core.specs.MachineLaws.{story_grows}
use Rattle.shared_port.specs.Asked.{EngineSeat, ActsOnce, HasWaited}
use Rattle.shared_port.specs.SharedPort.{IsAtRest}
use Rattle.shared_port.proofs.Mine.{mine_append, mine_waits}

-- ---- steps that are told to wait

pub prefix_trans : {A : Type 0} (a b c : List A) → IsPrefix a b → IsPrefix b c → IsPrefix a c
prefix_trans a b c x y = (x.0 ++ y.0, sym (append_assoc a x.0 y.0) ∙ ap (λ l. l ++ y.0) x.1 ∙ y.1)

-- the log of a seat goes on with each act
pub acts_grow : (old new : EngineSeat) (call : Ask) (reply : Reply) → ActsOnce old call reply new → IsPrefix old.log new.log
acts_grow old new call reply acts =
    subst (IsPrefix old.log) (sym acts.log)
    (prefix_trans old.log acts.before.log acts.after.log acts.agrees.1 (story_grows acts.before acts.after old.number call reply acts.moves))

-- who is told to wait has asked for a lock
wait_asks : (old new : Engine) (session : ℕ) (op : Op) (manner : Manner) (reply : Reply) → is_wait reply ≡ true → Step old session op manner reply new → AsksLock op
wait_asks old new session op manner (Wait holder) is step = by_told (told_first op (victim_of session old)) step
  where
    by_told : (told : Option (List Edge)) → Hears told (without_wait session old) session op manner (Wait holder) new → AsksLock op
    by_told None step = waits_asks (without_wait session old) new session op manner holder (claim_of (without_wait session old) op) refl step
    by_told (Some cycle) step = absurd (let h : is_wait (Wait holder) ≡ is_wait (Victim cycle) = ap is_wait step.0 in cc)
wait_asks old new session op manner reply is step = cc

-- before the first step nothing was waited for
pub waited_none : (seat : EngineSeat) (call : Ask) → HasWaited seat call seat
waited_none seat call = record {
  desk = refl;
  number = refl;
  waits = [];
  all_wait = tt;
  steps = sym (append-nil seat.steps);
  log = ([], append-nil seat.log);
  asks = inl refl;
}

-- one more step is told to wait
pub waited_more : (old mid new : EngineSeat) (call : Ask) (reply : Reply) → HasWaited old call mid → ActsOnce mid call reply new → is_wait reply ≡ true → HasWaited old call new
waited_more old mid new call reply waited acts is = record {
  desk = acts.desk ∙ waited.desk;
  number = acts.number ∙ waited.number;
  waits = waited.waits ++ reply ∷ [];
  all_wait = all_more waited.waits waited.all_wait;
  steps = acts.steps ∙ ap (λ (l : List (Ask × Reply)). l ++ (call, reply) ∷ []) waited.steps
      ∙ append_assoc old.steps (map (λ reply. (call, reply)) waited.waits) ((call, reply) ∷ [])
      ∙ ap (λ (l : List (Ask × Reply)). old.steps ++ l) (sym (map-append (λ reply. (call, reply)) waited.waits (reply ∷ [])));
  log = prefix_trans old.log mid.log new.log waited.log (acts_grow mid new call reply acts);
  asks = inr (wait_asks acts.before acts.after mid.number call.op call.manner reply is acts.moves);
}
  where
    all_more : (waits : List Reply) → AllByRecursion (λ reply. is_wait reply ≡ true) waits → AllByRecursion (λ reply. is_wait reply ≡ true) (waits ++ reply ∷ [])
    all_more [] all = (is, tt)
    all_more (x ∷ waits) all = (all.0, all_more waits all.1)

-- ---- who is marked as a victim

-- whose transaction isn't open is not
closed_unmarked : (session : ℕ) (engine : Engine) → is_open session engine ≡ false → victim_of session engine ≡ None
closed_unmarked session engine is = by_case (transaction_in session engine.active) is
  where
    by_case : (o : Option Transaction) → is_some o ≡ false → victim_in o ≡ None
    by_case None is = refl
    by_case (Some transaction) is = cc

-- nor is one whose last step was not told to wait
unmarked : (session : ℕ) (engine : Engine) (steps : List Exchange) → Knows engine session steps → (EndsInWait steps → ⊥) → victim_of session engine ≡ None
unmarked session engine steps knows passes = by_mark (victim_of session engine) refl
  where
    by_mark : (o : Option (List Edge)) → victim_of session engine ≡ o → o ≡ None
    by_mark None is = refl
    by_mark (Some cycle) is = absurd (passes (knows.halted (inr (rw is refl))))

-- ---- what such steps leave as it is

module _ (old mid : EngineSeat) (call : Ask) (waited : HasWaited old call mid) where
  -- the exchanges that count
  pub waited_mine : mine_in mid.steps ≡ mine_in old.steps
  waited_mine =
      ap mine_in waited.steps ∙ mine_append old.steps (map (λ reply. (call, reply)) waited.waits)
      ∙ ap (λ (es : List Exchange). mine_in old.steps ++ es) (mine_waits call waited.waits waited.all_wait) ∙ append-nil (mine_in old.steps)

  -- so the same may be asked again
  pub waited_ready : Ready old.number (exchanges_of old.steps) call.op call.manner → Ready mid.number (exchanges_of mid.steps) call.op call.manner
  waited_ready ready = (
    subst IsSession (sym waited.number) ready.0,
    subst (λ (mine : List Exchange). MayAsk (standing_at (progress_of mine)) call.op call.manner) (sym waited_mine) ready.1,
  )

  -- who was at rest before it asked, and is marked as a victim now, has asked for a lock
  pub waited_hears : IsAtRest old → (engine : Engine) → Knows engine mid.number (exchanges_of mid.steps) → (victim_of mid.number engine ≡ None) ⊎ AsksLock call.op
  waited_hears rests engine knows = by_rest rests waited.asks
    where
      by_rest : IsAtRest old → (waited.waits ≡ []) ⊎ AsksLock call.op → (victim_of mid.number engine ≡ None) ⊎ AsksLock call.op
      by_rest rests (inr asks) = inr asks
      by_rest (inl idle) (inl none) =
          inl (closed_unmarked mid.number engine (knows.accords.tied.is_open ∙ ap (λ (mine : List Exchange). (progress_of mine).is_open) waited_mine ∙ ap (λ (p : Progress). p.is_open) idle))
      by_rest (inr passes) (inl none) =
          inl (unmarked mid.number engine (exchanges_of mid.steps) knows (subst (λ (steps : List (Ask × Reply)). EndsInWait (exchanges_of steps) → ⊥) (sym same_steps) passes))
        where
          same_steps : mid.steps ≡ old.steps
          same_steps = waited.steps ∙ ap (λ (waits : List Reply). old.steps ++ map (λ reply. (call, reply)) waits) none ∙ append-nil old.steps
