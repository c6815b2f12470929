-- What is kept for the end of a transaction stays with it.
use Rattle.std.proofs.Common.{◌≡◌, ℕ, ◌==◌, ◌||◌, Bool, true, false, List, [], Option, Some, refl, sym, ap, ◌∙◌, subst, if◌then◌else◌}
use Rattle.std.specs.Prelude.{◌+◌, ◌-◌, min}
use Rattle.txn_rules.specs.declared.state.TxnState.{TxnState}
use Rattle.txn_rules.specs.State.{after_begin, after_commit, after_end, after_fire, after_save, is_closed, serial_limit}
use Rattle.batch_meaning.specs.Transactions.{next_serial}
use Rattle.session_state.specs.Ending.{KeepsEndings, begun_serial}

module _ (old new : TxnState) (is_own : Bool) (endings : Option ℕ) where
  -- where it has ended there is none
  pub ended_keeps : new ≡ after_end old → KeepsEndings new is_own endings
  ended_keeps is counted own = absurd (let no : true ≡ false = sym (ap is_closed is) ∙ counted in cc)

  -- neither count nor number is another
  pub same_keeps : new.count ≡ old.count → new.serial ≡ old.serial → KeepsEndings old is_own endings → KeepsEndings new is_own endings
  same_keeps count serial keeps counted own = keeps (ap (λ (n : ℕ). n == 0) (sym count) ∙ counted) own ∙ ap Some (sym serial)

  -- COMMIT of an inner one
  pub closed_keeps : new ≡ after_commit old → KeepsEndings old is_own endings → KeepsEndings new is_own endings
  closed_keeps is keeps = by_closed (is_closed old) refl is
    where
      same : new ≡ old → KeepsEndings new is_own endings
      same is = subst (λ (t : TxnState). KeepsEndings t is_own endings) (sym is) keeps

      by_count : (last : Bool) → is_closed old ≡ false → new ≡ (if last then after_end old else record old { count = old.count - 1 }) → KeepsEndings new is_own endings
      by_count true begun is = ended_keeps is
      by_count false begun is = λ counted own. keeps begun own ∙ ap Some (sym (ap (λ (t : TxnState). t.serial) is))

      by_doom : (doomed : Bool) → is_closed old ≡ false → new ≡ (if doomed then old else if old.count == 1 then after_end old else record old { count = old.count - 1 }) → KeepsEndings new is_own endings
      by_doom true begun is = same is
      by_doom false begun is = by_count (old.count == 1) begun is

      by_closed : (closed : Bool) → is_closed old ≡ closed → new ≡ (if closed then old else if old.doomed then old else if old.count == 1 then after_end old else record old { count = old.count - 1 }) → KeepsEndings new is_own endings
      by_closed true shut is = same is
      by_closed false begun is = by_doom old.doomed begun is

-- triggers begin: a transaction that is the statement's own keeps nothing
pub fired_keeps : (mark : ℕ) (old new : TxnState) (is_own : Bool) (endings : Option ℕ) → new ≡ after_fire mark old → KeepsEndings old is_own endings → KeepsEndings new (is_own || is_closed old) endings
fired_keeps mark old new is_own endings is keeps = by_closed (is_closed old) refl is
  where
    no_own : (own : Bool) → (own || true) ≡ false → ⊥
    no_own true same = let no : true ≡ false = same in cc
    no_own false same = let no : true ≡ false = same in cc

    still_own : (own : Bool) → (own || false) ≡ false → own ≡ false
    still_own true same = same
    still_own false same = refl

    by_closed : (closed : Bool) → is_closed old ≡ closed → new ≡ after_save [] mark (if closed then record old { count = 1 } else old) → KeepsEndings new (is_own || closed) endings
    by_closed true shut is counted own = absurd (no_own is_own own)
    by_closed false begun is counted own = keeps begun (still_own is_own own) ∙ ap Some (sym (ap (λ (t : TxnState). t.serial) is))

-- BEGIN
begun_same : (name : Option (List ℕ)) (txn : TxnState) → (after_begin name txn).serial ≡ begun_serial txn
begun_same name txn = by_closed (is_closed txn)
  where
    by_closed : (closed : Bool) → (if closed then record txn { count = 1; serial = min (txn.serial + 1) serial_limit; name = name } else record txn { count = txn.count + 1 }).serial ≡ (if closed then next_serial txn else txn.serial)
    by_closed true = refl
    by_closed false = refl

pub begun_keeps : (name : Option (List ℕ)) (old new : TxnState) (is_own : Bool) (serial : ℕ) → new ≡ after_begin name old → serial ≡ begun_serial old → KeepsEndings new is_own (Some serial)
begun_keeps name old new is_own serial is number counted own = ap Some (number ∙ sym (begun_same name old) ∙ ap (λ (t : TxnState). t.serial) (sym is))
