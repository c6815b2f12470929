-- What begins a transaction unseen, and what begins none.
use Rattle.std.proofs.Common.{◌≡◌, ◌&&◌, not, Bool, true, false, if◌then◌else◌, List, ◌++◌, None, Result, refl, ap}
use Rattle.binder.specs.Names.{Layer}
use Rattle.step_model.specs.Exchange.{Exchange}
use Rattle.batch_meaning.specs.declared.exit.Exit.{Exit}
use Rattle.batch_meaning.specs.declared.failure.Failure.{Failure}
use Rattle.batch_meaning.specs.Asking.{with_room}
use Rattle.batch_meaning.specs.Doing.{Doing, Held, Left}
use Rattle.batch_meaning.specs.Meaning.{begins_first, begun_unseen, behind_unseen}
use Rattle.batch_meaning.specs.Progress.{SessionProgress}
use Rattle.batch_meaning.specs.Selecting.{Effect}
use Rattle.batch_meaning.specs.Transactions.{begins_outermost, next_serial}
use Rattle.batch_meaning.specs.Unseen.{begins_unseen, is_unseen, wants_begin}
use Rattle.statement_paths.proofs.Apart.{held_apart}
use Rattle.batch_laws.specs.Transactions.{Begins}
use Rattle.batch_laws.proofs.Transactions.{outermost_held}

-- ---- where none is

-- where the option is off
pub unwanted_off : (p : SessionProgress) → p.settings.implicit ≡ false → wants_begin p ≡ false
unwanted_off p off = ap (λ (b : Bool). b && not p.is_open) off

pub unseen_off : (p : SessionProgress) (form : Layer) → p.settings.implicit ≡ false → is_unseen p form ≡ false
unseen_off p form off = ap (λ (b : Bool). (b && not p.is_open) && begins_unseen form) off

-- in an open transaction none is
pub unwanted_open : (p : SessionProgress) → p.is_open ≡ true → wants_begin p ≡ false
unwanted_open p is = by_tests p.settings.implicit p.is_open is
  where
    by_tests : (implicit is_open : Bool) → is_open ≡ true → (implicit && not is_open) ≡ false
    by_tests false is_open is = refl
    by_tests true true is = refl
    by_tests true false is = absurd (let no : false ≡ true = is in cc)

pub unseen_open : (p : SessionProgress) (form : Layer) → p.is_open ≡ true → is_unseen p form ≡ false
unseen_open p form is = ap (λ (b : Bool). b && begins_unseen form) (unwanted_open p is)

-- ---- what comes

module _ (wants : SessionProgress → Bool) (fails : Failure → Doing Exit) (next : Doing Exit) (p new : SessionProgress) (exchanges : List Exchange) where
  module _ (exit : Exit) where
    -- without one
    pub seen_held : wants p ≡ false → Held (begun_unseen wants fails next) p exchanges exit new → Held next p exchanges exit new
    unfolding begun_unseen Held
    seen_held seen held = by_test (wants p) seen held
      where
        by_test : (unseen : Bool) → unseen ≡ false → Held (if unseen then begins_first fails next p else next) p exchanges exit new → Held next p exchanges exit new
        by_test true is was = absurd (let no : true ≡ false = is in cc)
        by_test false is was = was

    pub held_seen : wants p ≡ false → Held next p exchanges exit new → Held (begun_unseen wants fails next) p exchanges exit new
    unfolding begun_unseen Held
    held_seen seen held = by_test (wants p) seen
      where
        by_test : (unseen : Bool) → unseen ≡ false → Held (if unseen then begins_first fails next p else next) p exchanges exit new
        by_test true is = absurd (let no : true ≡ false = is in cc)
        by_test false is = held

    -- behind one
    pub unseen_held : wants p ≡ true → Held (begun_unseen wants fails next) p exchanges exit new
        → (front back : List Exchange) × (begun : SessionProgress) × (came : Result Effect Failure) × (exchanges ≡ front ++ back) × Begins p None false came front begun × Held (behind_unseen fails next came) begun back exit new
    unfolding begun_unseen Held
    unseen_held unseen held = by_test (wants p) unseen held
      where
        by_test : (unseen : Bool) → unseen ≡ true → Held (if unseen then begins_first fails next p else next) p exchanges exit new
            → (front back : List Exchange) × (begun : SessionProgress) × (came : Result Effect Failure) × (exchanges ≡ front ++ back) × Begins p None false came front begun × Held (behind_unseen fails next came) begun back exit new
        by_test false is was = absurd (let no : false ≡ true = is in cc)
        by_test true is was =
            let on = held_apart (with_room (begins_outermost None (next_serial p.txn))) (λ came. behind_unseen fails next came) p new exchanges exit was in
            (on.front, on.back, on.mid, on.came, on.parts, outermost_held p on.mid on.front on.came None on.held, on.rest)

  -- of one that was left
  pub seen_left : wants p ≡ false → Left (begun_unseen wants fails next) p exchanges new → Left next p exchanges new
  unfolding begun_unseen Left
  seen_left seen left = by_test (wants p) seen left
    where
      by_test : (unseen : Bool) → unseen ≡ false → Left (if unseen then begins_first fails next p else next) p exchanges new → Left next p exchanges new
      by_test true is was = absurd (let no : true ≡ false = is in cc)
      by_test false is was = was
