-- The cycle with which a victim is marked, or of which it is told, stood when it was found.
use Rattle.std.proofs.Common.{◌≡◌, ◌≢◌, ◌⊎◌, inl, inr, ℕ, true, false, List, [], ◌∷◌, Option, None, Some, refl, sym, ap, subst, ◌∙◌}
use Rattle.std.specs.List.{AllByRecursion}
use Rattle.std.specs.Option.{option_map}
use Rattle.step_model.specs.declared.edge.Edge.{Edge}
use Rattle.step_model.specs.declared.manner.Manner.{Manner}
use Rattle.step_model.specs.declared.op.Op.{Op}
use Rattle.step_model.specs.declared.op.Op.TheVariants.{Rollback}
use Rattle.step_model.specs.declared.reply.Reply.{Reply}
use Rattle.step_model.specs.declared.reply.Reply.TheVariants.{Began, Row, Gone, End as Over, Done, Exists, Missing, Marked, Ended, Wait, TimedOut, Victim, Memory}
use Rattle.step_model.specs.Claims.{Claim, claim_of}
use Rattle.step_model.specs.Locks.{pair_on}
use Rattle.step_model.specs.Moves.{without_wait, with_wait, set_wait, after_fall, mark_victim, without_victim, drop_victim}
use Rattle.step_model.specs.State.{Engine, StandingWait, Transaction, transaction_in, victim_in, victim_of}
use Rattle.step_model.specs.Step.{Step, StepFrom, Does, Waits, FallsAt, Hears, told_first}
use Rattle.step_model.specs.Deadlocks.{IsEdge, Breaks, wait_for}
use Rattle.history_laws.specs.Laws.{Stood}
use Rattle.history_laws.proofs.Changes.{all_weaker}
use Rattle.history_laws.proofs.Told.{is_rollback, told_is, untold}
use Rattle.history_laws.proofs.Sessions.{same_or_not, changed_own, changed_other, closed_own}
use Rattle.history_laws.proofs.Waiting.{IsHeard, Broken, broken_all, broken_one, beside_does, calm_mark, calm_others}

-- where fewer wait for the same and the locks are the same, an edge was there before
edge_stood : (session : ℕ) (old new : Engine) → Broken session old new → (edge : Edge) → IsEdge new edge → IsEdge old edge
edge_stood session old new broken edge is = record {
  wait = is.wait;
  waits = broken.waits edge.waiter is.wait is.waits;
  on = is.on;
  asked = is.asked;
  held = is.held ∙ ap (pair_on is.wait.on) (broken.locks edge.holder);
  conflicts = is.conflicts;
}

-- who is marked after others have fallen was marked, or with a cycle that stood
break_marks : (session : ℕ) (old new : Engine) (broken : List (List Edge)) → Breaks session old broken new → (who : ℕ) (cycle : List Edge) → victim_of who new ≡ Some cycle
    → (victim_of who old ≡ Some cycle) ⊎ AllByRecursion (IsEdge old) cycle
break_marks session old new [] is who cycle mark = inl (ap (victim_of who) (sym is) ∙ mark)
break_marks session old new (fallen ∷ more) breaks who cycle mark = by_rest (break_marks session (after_fall breaks.0 fallen old) new more breaks.3 who cycle mark)
  where
    with_cycle : (o : Option Transaction) → victim_in (option_map (mark_victim fallen) o) ≡ Some cycle → cycle ≡ fallen
    with_cycle None is = cc
    with_cycle (Some t) is = cc

    by_who : (who ≡ breaks.0) ⊎ (who ≢ breaks.0) → victim_of who (after_fall breaks.0 fallen old) ≡ Some cycle → (victim_of who old ≡ Some cycle) ⊎ AllByRecursion (IsEdge old) cycle
    by_who (inl same) is =
        let own : victim_of breaks.0 (after_fall breaks.0 fallen old) ≡ Some cycle = ap (λ (n : ℕ). victim_of n (after_fall breaks.0 fallen old)) (sym same) ∙ is in
        let which : cycle ≡ fallen = with_cycle (transaction_in breaks.0 old.active) (sym (ap victim_in (changed_own breaks.0 (mark_victim fallen) (λ t. refl) old.active)) ∙ own) in
        inr (subst (AllByRecursion (IsEdge old)) (sym which) breaks.1.closes.among)
    by_who (inr differ) is = inl (sym (ap victim_in (changed_other breaks.0 (mark_victim fallen) (λ t. refl) who differ old.active)) ∙ is)

    by_rest : (victim_of who (after_fall breaks.0 fallen old) ≡ Some cycle) ⊎ AllByRecursion (IsEdge (after_fall breaks.0 fallen old)) cycle → (victim_of who old ≡ Some cycle) ⊎ AllByRecursion (IsEdge old) cycle
    by_rest (inl is) = by_who (same_or_not who breaks.0) is
    by_rest (inr stood) = inr (all_weaker (IsEdge (after_fall breaks.0 fallen old)) (IsEdge old) (edge_stood session old (after_fall breaks.0 fallen old) (broken_one session breaks.0 fallen old breaks.2 breaks.1)) cycle stood)

module _ (session : ℕ) (old : Engine) where
  -- before the session waits its own mark and the others' are the old ones
  mark_before : (who : ℕ) (cycle : List Edge) → victim_of who (without_wait session old) ≡ Some cycle → victim_of who old ≡ Some cycle
  mark_before who cycle is = by_who (same_or_not who session)
    where
      by_who : (who ≡ session) ⊎ (who ≢ session) → victim_of who old ≡ Some cycle
      by_who (inl same) = ap (λ (n : ℕ). victim_of n old) same ∙ sym (calm_mark session old) ∙ ap (λ (n : ℕ). victim_of n (without_wait session old)) (sym same) ∙ is
      by_who (inr differ) = sym (ap victim_in (calm_others session old who differ)) ∙ is

  mark_waiting : (wait : StandingWait) (who : ℕ) (cycle : List Edge) → victim_of who (with_wait session wait (without_wait session old)) ≡ Some cycle → victim_of who old ≡ Some cycle
  mark_waiting wait who cycle is = by_who (same_or_not who session)
    where
      by_case : (o : Option Transaction) → victim_in (option_map (set_wait wait) o) ≡ victim_in o
      by_case None = refl
      by_case (Some t) = refl

      by_who : (who ≡ session) ⊎ (who ≢ session) → victim_of who old ≡ Some cycle
      by_who (inl same) =
          mark_before who cycle
          (ap (λ (n : ℕ). victim_of n (without_wait session old)) same ∙ sym (ap victim_in (changed_own session (set_wait wait) (λ t. refl) (without_wait session old).active) ∙ by_case (transaction_in session (without_wait session old).active))
          ∙ ap (λ (n : ℕ). victim_of n (with_wait session wait (without_wait session old))) (sym same) ∙ is)
      by_who (inr differ) = mark_before who cycle (sym (ap victim_in (changed_other session (set_wait wait) (λ t. refl) who differ (without_wait session old).active)) ∙ is)

  -- the marks behind a session that would wait
  broken_stood : (op : Op) (manner : Manner) (claim : Claim) (broken : List (List Edge)) (last : Engine) → claim_of (without_wait session old) op ≡ Some claim
      → Breaks session (with_wait session (wait_for claim manner.priority) (without_wait session old)) broken last
      → (who : ℕ) (cycle : List Edge) → victim_of who last ≡ Some cycle → (victim_of who old ≡ Some cycle) ⊎ Stood session old op manner cycle
  broken_stood op manner claim broken last asked breaks who cycle mark =
      by_mark (break_marks session (with_wait session (wait_for claim manner.priority) (without_wait session old)) last broken breaks who cycle mark)
    where
      by_mark : (victim_of who (with_wait session (wait_for claim manner.priority) (without_wait session old)) ≡ Some cycle)
          ⊎ AllByRecursion (IsEdge (with_wait session (wait_for claim manner.priority) (without_wait session old))) cycle → (victim_of who old ≡ Some cycle) ⊎ Stood session old op manner cycle
      by_mark (inl is) = inl (mark_waiting (wait_for claim manner.priority) who cycle is)
      by_mark (inr stood) = inr (claim, asked, stood)

  waits_stood : (new : Engine) (op : Op) (claim : Option Claim) (manner : Manner) (holder : ℕ) → claim_of (without_wait session old) op ≡ claim → Waits session claim (without_wait session old) manner holder new → (who : ℕ) (cycle : List Edge) → victim_of who new ≡ Some cycle
      → (victim_of who old ≡ Some cycle) ⊎ Stood session old op manner cycle
  waits_stood new op None manner holder asked waits who cycle mark = absurd waits
  waits_stood new op (Some claim) manner holder asked waits who cycle mark = broken_stood op manner claim waits.2.broken new asked waits.2.breaks who cycle mark

  calm_last : (last : Engine) (who : ℕ) (cycle : List Edge) → victim_of who (without_wait session last) ≡ Some cycle → victim_of who last ≡ Some cycle
  calm_last last who cycle is = by_who (same_or_not who session)
    where
      by_who : (who ≡ session) ⊎ (who ≢ session) → victim_of who last ≡ Some cycle
      by_who (inl same) = ap (λ (n : ℕ). victim_of n last) same ∙ sym (calm_mark session last) ∙ ap (λ (n : ℕ). victim_of n (without_wait session last)) (sym same) ∙ is
      by_who (inr differ) = sym (ap victim_in (calm_others session last who differ)) ∙ is

  falls_stood : (new : Engine) (op : Op) (claim : Option Claim) (manner : Manner) (told : List Edge) → claim_of (without_wait session old) op ≡ claim → FallsAt session claim (without_wait session old) manner told new → (who : ℕ) (cycle : List Edge) → victim_of who new ≡ Some cycle
      → (victim_of who old ≡ Some cycle) ⊎ Stood session old op manner cycle
  falls_stood new op None manner told asked falls who cycle mark = absurd falls
  falls_stood new op (Some claim) manner told asked falls who cycle mark =
      broken_stood op manner claim falls.1.broken falls.1.last asked falls.1.breaks who cycle (calm_last falls.1.last who cycle (ap (victim_of who) (sym falls.1.left) ∙ mark))

  -- the cycle that is told at once
  fell_stood : (new : Engine) (op : Op) (claim : Option Claim) (manner : Manner) (told : List Edge) → claim_of (without_wait session old) op ≡ claim → FallsAt session claim (without_wait session old) manner told new
      → Stood session old op manner told
  fell_stood new op None manner told asked falls = absurd falls
  fell_stood new op (Some claim) manner told asked falls = (
    claim,
    asked,
    all_weaker (IsEdge falls.1.last) (IsEdge (with_wait session (wait_for claim manner.priority) (without_wait session old)))
        (edge_stood session (with_wait session (wait_for claim manner.priority) (without_wait session old)) falls.1.last
        (broken_all session (with_wait session (wait_for claim manner.priority) (without_wait session old)) falls.1.last falls.1.broken falls.1.breaks)) told falls.1.falls.closes.among,
  )

  told_gone : (new : Engine) → new ≡ without_victim session (without_wait session old) → (who : ℕ) (cycle : List Edge) → victim_of who new ≡ Some cycle → victim_of who old ≡ Some cycle
  told_gone new is who cycle mark = by_who (same_or_not who session) (ap (victim_of who) (sym is) ∙ mark)
    where
      by_case : (o : Option Transaction) → victim_in (option_map drop_victim o) ≡ None
      by_case None = refl
      by_case (Some t) = refl

      by_who : (who ≡ session) ⊎ (who ≢ session) → victim_of who (without_victim session (without_wait session old)) ≡ Some cycle → victim_of who old ≡ Some cycle
      by_who (inl same) is = absurd (let h : None ≡ Some cycle = sym (ap victim_in (changed_own session drop_victim (λ t. refl) (without_wait session old).active) ∙ by_case (transaction_in session (without_wait session old).active)) ∙ ap (λ (n : ℕ). victim_of n (without_victim session (without_wait session old))) (sym same) ∙ is in cc)
      by_who (inr differ) is = mark_before who cycle (sym (ap victim_in (changed_other session drop_victim (λ t. refl) who differ (without_wait session old).active)) ∙ is)

  -- an operation that passes marks nobody
  does_stood : (new : Engine) (op : Op) (manner : Manner) (reply : Reply) → IsHeard session op (without_wait session old) → Does (without_wait session old) session op reply new → (who : ℕ) (cycle : List Edge) → victim_of who new ≡ Some cycle
      → (victim_of who old ≡ Some cycle) ⊎ Stood session old op manner cycle
  does_stood new op manner reply heard does who cycle mark = inl (by_who (same_or_not who session))
    where
      unmarked : (op : Op) → IsHeard session op (without_wait session old) → Does (without_wait session old) session op reply new → victim_of session new ≡ None
      unmarked Rollback heard does = ap (λ (e : Engine). victim_of session e) does.1 ∙ ap victim_in (closed_own session (without_wait session old).active)
      unmarked op (inr none) does = (beside_does session (without_wait session old) new op reply does).mark none
      unmarked op (inl rollback) does = let h : false ≡ true = rollback in cc

      by_who : (who ≡ session) ⊎ (who ≢ session) → victim_of who old ≡ Some cycle
      by_who (inl same) = absurd (let h : None ≡ Some cycle = sym (unmarked op heard does) ∙ ap (λ (n : ℕ). victim_of n new) (sym same) ∙ mark in cc)
      by_who (inr differ) = mark_before who cycle (sym (ap victim_in ((beside_does session (without_wait session old) new op reply does).others who differ)) ∙ mark)

  from_stands : (new : Engine) (op : Op) (manner : Manner) (reply : Reply) → IsHeard session op (without_wait session old) → StepFrom (without_wait session old) session op manner reply new → (who : ℕ) (cycle : List Edge) → victim_of who new ≡ Some cycle
      → (victim_of who old ≡ Some cycle) ⊎ Stood session old op manner cycle
  from_stands new op manner Memory heard step who cycle mark = inl (mark_before who cycle (ap (victim_of who) (sym step.1) ∙ mark))
  from_stands new op manner (TimedOut holder held asked on) heard step who cycle mark = inl (mark_before who cycle (ap (victim_of who) (sym step.1) ∙ mark))
  from_stands new op manner (Wait holder) heard step who cycle mark = waits_stood new op (claim_of (without_wait session old) op) manner holder refl step who cycle mark
  from_stands new op manner (Victim told) heard step who cycle mark = falls_stood new op (claim_of (without_wait session old) op) manner told refl step who cycle mark
  from_stands new op manner Began heard step who cycle mark = does_stood new op manner Began heard step.1 who cycle mark
  from_stands new op manner (Row key row at) heard step who cycle mark = does_stood new op manner (Row key row at) heard step.1 who cycle mark
  from_stands new op manner (Gone key at) heard step who cycle mark = does_stood new op manner (Gone key at) heard step.1 who cycle mark
  from_stands new op manner (Over at) heard step who cycle mark = does_stood new op manner (Over at) heard step.1 who cycle mark
  from_stands new op manner Done heard step who cycle mark = does_stood new op manner Done heard step.1 who cycle mark
  from_stands new op manner Exists heard step who cycle mark = does_stood new op manner Exists heard step.1 who cycle mark
  from_stands new op manner Missing heard step who cycle mark = does_stood new op manner Missing heard step.1 who cycle mark
  from_stands new op manner (Marked number) heard step who cycle mark = does_stood new op manner (Marked number) heard step.1 who cycle mark
  from_stands new op manner (Ended place) heard step who cycle mark = does_stood new op manner (Ended place) heard step.1 who cycle mark

  hears_stand : (new : Engine) (op : Op) (manner : Manner) (reply : Reply) (told : Option (List Edge)) → told_first op (victim_of session old) ≡ told → Hears told (without_wait session old) session op manner reply new
      → (who : ℕ) (cycle : List Edge) → victim_of who new ≡ Some cycle → (victim_of who old ≡ Some cycle) ⊎ Stood session old op manner cycle
  hears_stand new op manner reply None is step who cycle mark = from_stands new op manner reply (calm_heard (untold op (victim_of session old) is)) step who cycle mark
    where
      calm_heard : (is_rollback op ≡ true) ⊎ (victim_of session old ≡ None) → IsHeard session op (without_wait session old)
      calm_heard (inl rollback) = inl rollback
      calm_heard (inr none) = inr (calm_mark session old ∙ none)
  hears_stand new op manner reply (Some told) is step who cycle mark = inl (told_gone new step.1 who cycle mark)

  pub marks_stand : (new : Engine) (op : Op) (manner : Manner) (reply : Reply) → Step old session op manner reply new → (who : ℕ) (cycle : List Edge) → victim_of who new ≡ Some cycle
      → (victim_of who old ≡ Some cycle) ⊎ Stood session old op manner cycle
  marks_stand new op manner reply step who cycle mark = hears_stand new op manner reply (told_first op (victim_of session old)) refl step who cycle mark

  -- the cycle that is told was the session's mark, or stood
  from_told : (new : Engine) (op : Op) (manner : Manner) (reply : Reply) → StepFrom (without_wait session old) session op manner reply new → (cycle : List Edge) → reply ≡ Victim cycle → Stood session old op manner cycle
  from_told new op manner (Victim told) step cycle is =
      let same : told ≡ cycle = cc in
      subst (Stood session old op manner) same (fell_stood new op (claim_of (without_wait session old) op) manner told refl step)
  from_told new op manner reply step cycle is = cc

  hears_told : (new : Engine) (op : Op) (manner : Manner) (reply : Reply) (told : Option (List Edge)) → told_first op (victim_of session old) ≡ told → Hears told (without_wait session old) session op manner reply new
      → (cycle : List Edge) → reply ≡ Victim cycle → (victim_of session old ≡ Some cycle) ⊎ Stood session old op manner cycle
  hears_told new op manner reply None is step cycle told = inr (from_told new op manner reply step cycle told)
  hears_told new op manner reply (Some mark) is step cycle told =
      let same : mark ≡ cycle = (let h : Victim mark ≡ Victim cycle = sym step.0 ∙ told in cc) in
      inl (told_is op (victim_of session old) mark is ∙ ap (λ (es : List Edge). Some es) same)

  pub told_stood : (new : Engine) (op : Op) (manner : Manner) (reply : Reply) → Step old session op manner reply new → (cycle : List Edge) → reply ≡ Victim cycle → (victim_of session old ≡ Some cycle) ⊎ Stood session old op manner cycle
  told_stood new op manner reply step cycle is = hears_told new op manner reply (told_first op (victim_of session old)) refl step cycle is
