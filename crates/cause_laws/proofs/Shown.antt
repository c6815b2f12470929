-- What was done shows the cause of each error of a lock that it tells or leaves on its way: a statement whose own exchanges have it, or a THROW in the CATCH of one that was there before.
-- It goes along one tree behind another.
use Rattle.std.proofs.Common.{◌≡◌, ◌⊎◌, inl, inr, refl, sym, ap, ◌∙◌, subst, ℕ, ℤ, pos, List, [], ◌∷◌, ◌++◌, Option, Some, append-nil, append_assoc}
use Rattle.std.specs.List.{AllByRecursion}
use Rattle.step_model.specs.Exchange.{Exchange}
use Rattle.tds_tokens.specs.declared.token.Token.{Token}
use Rattle.tds_tokens.specs.declared.token.Token.TheVariants.{Error}
use Rattle.batch_meaning.specs.declared.exit.Exit.{Exit}
use Rattle.batch_meaning.specs.declared.exit.Exit.TheVariants.{Raise, RaiseUp}
use Rattle.batch_meaning.specs.declared.raised.Raised.{Raised}
use Rattle.batch_meaning.specs.Doing.{Doing, makes, over, reads, ◌then◌, Held}
use Rattle.batch_meaning.specs.Progress.{SessionProgress, SessionStep}
use Rattle.statement_paths.proofs.Apart.{held_apart}
use Rattle.statement_paths.proofs.Only.{AnyStep, held_asks}
use Rattle.cause_laws.specs.Causes.{LockError, NeverAnswered, number_of}
use Rattle.cause_laws.specs.Statements.{Answered, Finds, Leaves, Raises, Sends, Throws}
use Rattle.cause_laws.proofs.UsualValues.{Anything}
use Rattle.cause_laws.proofs.Watch.{Guard, LeavesBy, TellsBy}
use Rattle.cause_laws.proofs.Clean.{Clean, held_clean}
use Rattle.cause_laws.proofs.Locks.{lock_watch}
use Rattle.cause_laws.proofs.Passing.{finds_behind, finds_front, finds_on, more_times}
use Rattle.cause_laws.proofs.Silent.{IsSilent, Silent, held_silent}
use Rattle.cause_laws.proofs.Unlocked.{IsUnlocked, Unlocked, never_answered}

-- ---- tokens with what stands before them

-- of each of these, with those before it, this holds
abbrev pub AllFrom : (List Token → Token → Type 0) → List Token → List Token → Type 0
AllFrom Such front [] = Unit {0}
AllFrom Such front (token ∷ tokens) = Such front token × AllFrom Such (front ++ token ∷ []) tokens

all_map : (Such Other : List Token → Token → Type 0) → ((front : List Token) (token : Token) → Such front token → Other front token) → (front tokens : List Token) → AllFrom Such front tokens → AllFrom Other front tokens
all_map Such Other each front [] all = tt
all_map Such Other each front (token ∷ tokens) all = (each front token all.0, all_map Such Other each (front ++ token ∷ []) tokens all.1)

all_both : (Such : List Token → Token → Type 0) (front one two : List Token) → AllFrom Such front one → AllFrom Such (front ++ one) two → AllFrom Such front (one ++ two)
all_both Such front [] two first second = subst (λ (l : List Token). AllFrom Such l two) (append-nil front) second
all_both Such front (token ∷ one) two first second =
    (first.0, all_both Such (front ++ token ∷ []) one two first.1 (subst (λ (l : List Token). AllFrom Such l two) (sym (append_assoc front (token ∷ []) one)) second))

pub all_at : (Such : List Token → Token → Type 0) (front before after : List Token) (token : Token) → AllFrom Such front (before ++ token ∷ after) → Such (front ++ before) token
all_at Such front [] after token all = subst (λ (l : List Token). Such l token) (sym (append-nil front)) all.0
all_at Such front (one ∷ before) after token all = subst (λ (l : List Token). Such l token) (append_assoc front (one ∷ []) before) (all_at Such (front ++ one ∷ []) before after token all.1)

pub all_each : (Such : List Token → Token → Type 0) (front tokens : List Token) → ((before after : List Token) (token : Token) → tokens ≡ before ++ token ∷ after → Such (front ++ before) token) → AllFrom Such front tokens
all_each Such front [] each = tt
all_each Such front (token ∷ tokens) each = (
  subst (λ (l : List Token). Such l token) (append-nil front) (each [] tokens token refl),
  all_each Such (front ++ token ∷ []) tokens (λ before after one is. subst (λ (l : List Token). Such l one) (sym (append_assoc front (token ∷ []) before)) (each (token ∷ before) after one (ap (λ (l : List Token). token ∷ l) is))),
)

-- ---- what a part comes to

-- which error it leaves on its way, and what holds of it
pub record View (A : Type 0) : Type 1 where
  pub Way : A → Raised → Type 0
  pub Fine : A → Type 0

-- it leaves none
abbrev pub plainly : {A : Type 0} → (A → Type 0) → View A
plainly P = record { Way = λ a raised. ⊥; Fine = P }

abbrev pub exits : View Exit
exits = record { Way = λ exit raised. Leaves raised exit; Fine = Anything }

module _ (error : LockError) where
  abbrev pub Ours : ℤ → Type 0
  Ours number = number ≡ pos (number_of error)

  -- a statement was found with the cause, or a THROW in the CATCH of the error around
  abbrev pub Found : Option Raised → (SessionProgress → Exit → SessionProgress → Type 0) → {A : Type 0} → Doing A → SessionProgress → List Exchange → A → SessionProgress → Type 0
  Found caught End tree p exchanges a new = (times : ℕ) × (Finds times (Answered error) End a new tree p exchanges
      ⊎ ((raised : Raised) × (caught ≡ Some raised) × Ours raised.number × Finds times (Throws raised) End a new tree p exchanges))

  -- of each ERROR of its number
  abbrev pub Told : Option Raised → {A : Type 0} → Doing A → SessionProgress → List Exchange → A → SessionProgress → List Token → Token → Type 0
  Told caught tree p exchanges a new front (Error told) = Ours told.number → Found caught (Sends front told) tree p exchanges a new
  Told caught tree p exchanges a new front token = Unit {0}

  -- so it is of all that was sent, and of what is left on its way, unless that came from before
  pub record Shown {A : Type 0} (caught : Option Raised) (Before : Raised → Type 0) (view : View A) (tree : Doing A) (p : SessionProgress) (exchanges : List Exchange) (a : A) (new : SessionProgress) : Type 0 where
    pub sent : List Token
    pub tokens : new.tokens ≡ p.tokens ++ sent
    pub told : AllFrom (Told caught tree p exchanges a new) p.tokens sent
    pub fine : view.Fine a
    pub left : (raised : Raised) → view.Way a raised → Ours raised.number → Found caught (Raises raised) tree p exchanges a new ⊎ Before raised

  abbrev pub Shows : {A : Type 0} → Option Raised → (Raised → Type 0) → View A → Doing A → Type 0
  Shows {A = A} caught Before view tree = (p new : SessionProgress) (exchanges : List Exchange) (a : A) → Held tree p exchanges a new → Shown caught Before view tree p exchanges a new

  -- ---- one tree behind another

  module _ {A B : Type 0} (tree : Doing A) (go : A → Doing B) (p mid new : SessionProgress) (front back : List Exchange) (a : A) (b : B) (one : Held tree p front a mid) (two : Held (go a) mid back b new) where
    abbrev pub FoundBoth : Option Raised → (SessionProgress → Exit → SessionProgress → Type 0) → Type 0
    FoundBoth caught End = Found caught End (tree then go) p (front ++ back) b new

    found_front : (caught : Option Raised) (End : SessionProgress → Exit → SessionProgress → Type 0) → Found caught End tree p front a mid → FoundBoth caught End
    found_front caught End (times, inl is) = (times, inl (finds_front go mid new back a b two End times (Answered error) tree p front is))
    found_front caught End (times, inr (raised, same, ours, is)) = (times, inr (raised, same, ours, finds_front go mid new back a b two End times (Throws raised) tree p front is))

    pub found_behind : (caught : Option Raised) (End : SessionProgress → Exit → SessionProgress → Type 0) → Found caught End (go a) mid back b new → FoundBoth caught End
    found_behind caught End (times, inl is) = (times, inl (finds_behind times (Answered error) End tree go p mid new front back a b one is))
    found_behind caught End (times, inr (raised, same, ours, is)) = (times, inr (raised, same, ours, finds_behind times (Throws raised) End tree go p mid new front back a b one is))

    -- the second in the CATCH of what the first has left on its way
    pub found_caught : (caught : Option Raised) (raised : Raised) → (Ours raised.number → Found caught (Raises raised) tree p front a mid) → (End : SessionProgress → Exit → SessionProgress → Type 0) → Found (Some raised) End (go a) mid back b new → FoundBoth caught End
    found_caught caught raised left End (times, inl is) = (times, inl (finds_behind times (Answered error) End tree go p mid new front back a b one is))
    found_caught caught raised left End (times, inr (thrown, same, ours, is)) = by_left (left (subst (λ (r : Raised). Ours r.number) equal ours))
      where
        equal : thrown ≡ raised
        equal = let so : Some raised ≡ Some thrown = same in cc

        again : Finds times (Throws raised) End b new (go a) mid back
        again = subst (λ (r : Raised). Finds times (Throws r) End b new (go a) mid back) equal is

        by_left : Found caught (Raises raised) tree p front a mid → FoundBoth caught End
        by_left (first, inl was) = (more_times go mid new back a b two raised End times again first, inl (finds_on go mid new back a b two raised End times again first (Answered error) tree p front was))
        by_left (first, inr (other, so, ours, was)) = (more_times go mid new back a b two raised End times again first, inr (other, so, ours, finds_on go mid new back a b two raised End times again first (Throws other) tree p front was))

    module _ (caught inner : Option Raised) (Before Between : Raised → Type 0) (first : View A) (second : View B) (behind : (End : SessionProgress → Exit → SessionProgress → Type 0) → Found inner End (go a) mid back b new → FoundBoth caught End) where
      told_front : (before : List Token) (token : Token) → Told caught tree p front a mid before token → Told caught (tree then go) p (front ++ back) b new before token
      told_front before (Error told) is = λ ours. found_front caught (Sends before told) (is ours)
      told_front before token is = tt

      told_behind : (before : List Token) (token : Token) → Told inner (go a) mid back b new before token → Told caught (tree then go) p (front ++ back) b new before token
      told_behind before (Error told) is = λ ours. behind (Sends before told) (is ours)
      told_behind before token is = tt

      pub shown_both : ((raised : Raised) → Between raised → Ours raised.number → Found caught (Raises raised) tree p front a mid ⊎ Before raised)
          → Shown caught Before first tree p front a mid → Shown inner Between second (go a) mid back b new → Shown caught Before second (tree then go) p (front ++ back) b new
      shown_both carried s1 s2 = record {
        sent = s1.sent ++ s2.sent;
        tokens = s2.tokens ∙ ap (λ (l : List Token). l ++ s2.sent) s1.tokens ∙ append_assoc p.tokens s1.sent s2.sent;
        told = all_both _ p.tokens s1.sent s2.sent (all_map _ _ told_front p.tokens s1.sent s1.told)
            (subst (λ (l : List Token). AllFrom (Told caught (tree then go) p (front ++ back) b new) l s2.sent) s1.tokens (all_map _ _ told_behind mid.tokens s2.sent s2.told));
        fine = s2.fine;
        left = λ raised way ours. by_left raised ours (s2.left raised way ours);
      }
        where
          by_carried : (raised : Raised) → Found caught (Raises raised) tree p front a mid ⊎ Before raised → FoundBoth caught (Raises raised) ⊎ Before raised
          by_carried raised (inl found) = inl (found_front caught (Raises raised) found)
          by_carried raised (inr before) = inr before

          by_left : (raised : Raised) → Ours raised.number → Found inner (Raises raised) (go a) mid back b new ⊎ Between raised → FoundBoth caught (Raises raised) ⊎ Before raised
          by_left raised ours (inl found) = inl (behind (Raises raised) found)
          by_left raised ours (inr between) = by_carried raised (carried raised between ours)

  -- what the first has left on its way may be left behind the second, too
  abbrev pub Carried : {A : Type 0} → View A → A → (Raised → Type 0) → Raised → Type 0
  Carried first a Before raised = first.Way a raised ⊎ Before raised

  module _ (caught : Option Raised) (Before : Raised → Type 0) where
    pub shown_then : {A B : Type 0} (first : View A) (second : View B) (tree : Doing A) (go : A → Doing B) (p mid new : SessionProgress) (front back : List Exchange) (a : A) (b : B) → Held tree p front a mid → Held (go a) mid back b new
        → Shown caught Before first tree p front a mid → Shown caught (Carried first a Before) second (go a) mid back b new → Shown caught Before second (tree then go) p (front ++ back) b new
    shown_then first second tree go p mid new front back a b one two s1 s2 =
        shown_both tree go p mid new front back a b one two caught caught Before (Carried first a Before) first second (found_behind tree go p mid new front back a b one two caught) by_carried s1 s2
      where
        by_carried : (raised : Raised) → Carried first a Before raised → Ours raised.number → Found caught (Raises raised) tree p front a mid ⊎ Before raised
        by_carried raised (inl way) ours = s1.left raised way ours
        by_carried raised (inr before) ours = inr before

    pub shows_then : {A B : Type 0} (first : View A) (second : View B) (tree : Doing A) (go : A → Doing B) → Shows caught Before first tree → ((a : A) → first.Fine a → Shows caught (Carried first a Before) second (go a)) → Shows caught Before second (tree then go)
    shows_then first second tree go one two p new exchanges b held =
        let on = held_apart tree go p new exchanges b held in
        let s1 = one p on.mid on.front on.came on.held in
        subst (λ (l : List Exchange). Shown caught Before second (tree then go) p l b new) (sym on.parts)
        (shown_then first second tree go p on.mid new on.front on.back on.came b on.held on.rest s1 (two on.came s1.fine on.mid new on.back b on.rest))

    -- ---- parts

    pub shows_silent : {A : Type 0} (P : A → Type 0) (tree : Doing A) → Silent P tree → Shows caught Before (plainly P) tree
    shows_silent P tree silent p new exchanges a held =
        let was = held_silent P tree p new exchanges a silent held in
        record { sent = []; tokens = was.1 ∙ sym (append-nil p.tokens); told = tt; fine = was.0; left = λ raised way ours. absurd way }

    pub shows_over : {A : Type 0} (view : View A) (a : A) → view.Fine a → ((raised : Raised) → view.Way a raised → Before raised) → Shows caught Before view (over a)
    unfolding Held
    shows_over view a fine before p new exchanges b held = record {
      sent = [];
      tokens = ap (λ (q : SessionProgress). q.tokens) held.2 ∙ sym (append-nil p.tokens);
      told = tt;
      fine = subst view.Fine (sym held.1) fine;
      left = λ raised way ours. inr (before raised (subst (λ x. view.Way x raised) held.1 way));
    }

    -- what tells no error of a lock, where none is replied
    abbrev pub at_zero : Guard
    at_zero = record { watch = lock_watch error; left = 0 }

    pub shown_clean : {A : Type 0} (P : A → Type 0) (view : View A) (left : ℕ) (tree about : Doing A) → ((a : A) → P a → view.Fine a) → ((a : A) → P a → (raised : Raised) → view.Way a raised → Ours raised.number → ⊥) → Clean (record { watch = lock_watch error; left = left }) P tree
        → (p new : SessionProgress) (exchanges : List Exchange) (a : A) → Held tree p exchanges a new → NeverAnswered error exchanges → Shown caught Before view about p exchanges a new
    shown_clean P view left tree about fine none clean p new exchanges a held never =
        let came = held_clean (lock_watch error) P left tree p new exchanges a (λ enough. tt) (λ few q look. tt) clean never held in
        record { sent = came.1.0; tokens = came.1.1; told = all_other p.tokens came.1.0 came.1.2; fine = fine a came.0; left = λ raised way ours. absurd (none a came.0 raised way ours) }
      where
        by_token : (front : List Token) (token : Token) → TellsBy (lock_watch error) token → Told caught about p exchanges a new front token
        by_token front (Error told) other = λ ours. absurd (other ours)
        by_token front token other = tt

        all_other : (front tokens : List Token) → AllByRecursion (TellsBy (lock_watch error)) tokens → AllFrom (Told caught about p exchanges a new) front tokens
        all_other front [] all = tt
        all_other front (token ∷ tokens) all = (by_token front token all.0, all_other (front ++ token ∷ []) tokens all.1)

    pub shows_clean : {A : Type 0} (P : A → Type 0) (view : View A) (tree : Doing A) → ((a : A) → P a → view.Fine a) → ((a : A) → P a → (raised : Raised) → view.Way a raised → Ours raised.number → ⊥) → Clean at_zero P tree → Unlocked tree → Shows caught Before view tree
    shows_clean P view tree fine none clean unlocked p new exchanges a held =
        shown_clean P view 0 tree tree fine none clean p new exchanges a held (never_answered error exchanges (held_asks AnyStep IsUnlocked tree p new exchanges a unlocked held))

    none_ours : (exit : Exit) → LeavesBy (lock_watch error) exit → (raised : Raised) → Leaves raised exit → Ours raised.number → ⊥
    none_ours (Raise one) other raised same ours = other (ap (λ (r : Raised). r.number) same ∙ ours)
    none_ours (RaiseUp one) other raised same ours = other (ap (λ (r : Raised). r.number) same ∙ ours)
    none_ours exit other raised same ours = absurd same

    -- the end of a statement
    pub shows_end : (tree : Doing Exit) → Clean at_zero (LeavesBy (lock_watch error)) tree → Unlocked tree → Shows caught Before exits tree
    shows_end tree clean unlocked = shows_clean (LeavesBy (lock_watch error)) exits tree (λ exit other. tt) none_ours clean unlocked

    pub shown_end : (left : ℕ) (tree about : Doing Exit) → Clean (record { watch = lock_watch error; left = left }) (LeavesBy (lock_watch error)) tree → (p new : SessionProgress) (exchanges : List Exchange) (exit : Exit) → Held tree p exchanges exit new → NeverAnswered error exchanges → Shown caught Before exits about p exchanges exit new
    shown_end left tree about clean = shown_clean (LeavesBy (lock_watch error)) exits left tree about (λ exit other. tt) none_ours clean

  -- ---- from less

  pub shows_more : {A : Type 0} (caught : Option Raised) (Before More : Raised → Type 0) (view : View A) (tree : Doing A) → ((raised : Raised) → Before raised → More raised) → Shows caught Before view tree → Shows caught More view tree
  shows_more caught Before More view tree more shows p new exchanges a held =
      let s = shows p new exchanges a held in record { sent = s.sent; tokens = s.tokens; told = s.told; fine = s.fine; left = λ raised way ours. by_left raised (s.left raised way ours) }
    where
      by_left : (raised : Raised) → Found caught (Raises raised) tree p exchanges a new ⊎ Before raised → Found caught (Raises raised) tree p exchanges a new ⊎ More raised
      by_left raised (inl found) = inl found
      by_left raised (inr before) = inr (more raised before)

  module _ (caught : Option Raised) (Before : Raised → Type 0) {A : Type 0} (view : View A) where
    pub shows_reads : (look : SessionProgress → Doing A) → ((q : SessionProgress) → Shows caught Before view (look q)) → Shows caught Before view (reads look)
    unfolding ◌then◌
    shows_reads look shows = shows_then caught Before (plainly {A = SessionProgress} Anything) view (reads λ p. over p) look (shows_silent caught Before {A = SessionProgress} Anything (reads λ p. over p) (λ p. tt))
        (λ q any. shows_more caught Before (Carried (plainly {A = SessionProgress} Anything) q Before) view (look q) (λ raised before. inr before) (shows q))

    pub shows_makes : (step : SessionStep) (next : Doing A) → IsSilent step → Shows caught Before view next → Shows caught Before view (makes step next)
    unfolding ◌then◌
    shows_makes step next silent shows = shows_then caught Before (plainly {A = Unit {0}} Anything) view (makes step (over tt)) (λ done. next) (shows_silent caught Before {A = Unit {0}} Anything (makes step (over tt)) (silent, tt))
        (λ done any. shows_more caught Before (Carried (plainly {A = Unit {0}} Anything) done Before) view next (λ raised before. inr before) shows)
