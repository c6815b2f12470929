-- The open transactions: the one of a session, a change of it, and its end.
use Rattle.std.proofs.Common.{◌≡◌, ℕ, zero, suc, ◌+◌, ◌<◌, ◌≤◌, ◌==◌, ◌||◌, not, Bool, true, false, if◌then◌else◌, List, [], ◌∷◌, Option, None, Some, is_some, take, length, get_or, set, filter, refl, sym, ap, subst, ◌∙◌, eqb-true, eq-eqb, arith}
use Rattle.std.specs.List.{AllByRecursion}
use Rattle.std.specs.Prelude.{Vec}
use Rattle.std.specs.Vec.{with_items}
use Rattle.std.proofs.lemmas.List.{get_or_default, with_items_is, length-map}
use Rattle.history_laws.proofs.Basics.{neither}
use Rattle.engine_core.specs.Transactions.{Opened, opened_in, is_active, made_of, made_in, marks_of, marks_in, mark_of, mark_in, with_opened, drop_victim, without_opened, AreDistinct, AreNumbered}

-- ---- the transaction of a session

pub active_found : (session : ℕ) (ts : List Opened) → is_some (opened_in session ts) ≡ is_active session ts
active_found session [] = refl
active_found session (x ∷ ts) = by_test (x.session == session) (active_found session ts)
  where
    by_test : (b : Bool) → is_some (opened_in session ts) ≡ is_active session ts → is_some (if b then Some x else opened_in session ts) ≡ b || is_active session ts
    by_test true rest = refl
    by_test false rest = rest

-- the first of a session is the one that is found
opened_at : (session : ℕ) (ts : List Opened) (i : ℕ) (t : Opened) → i < length ts → t ≡ get_or ts i t → (t.session == session) ≡ true → is_active session (take i ts) ≡ false → opened_in session ts ≡ Some t
opened_at session [] i t within is here none = absurd (omega (arith, within))
opened_at session (x ∷ ts) zero t within is here none = rw (rw is at here) (ap (λ (u : Opened). Some u) (sym is))
opened_at session (x ∷ ts) (suc i) t within is here none =
    let parts = neither (x.session == session) (is_active session (take i ts)) none in
    rw parts.0 (opened_at session ts i t (omega (arith, within)) is here parts.1)

opened_none : (session : ℕ) (ts : List Opened) (i : ℕ) → length ts ≤ i → is_active session (take i ts) ≡ false → opened_in session ts ≡ None
opened_none session [] i past none = refl
opened_none session (x ∷ ts) zero past none = absurd (omega (arith, past))
opened_none session (x ∷ ts) (suc i) past none =
    let parts = neither (x.session == session) (is_active session (take i ts)) none in
    rw parts.0 (opened_none session ts i (omega (arith, past)) parts.1)

pub made_at : (session : ℕ) (ts : List Opened) (i : ℕ) (t : Opened) → i < length ts → t ≡ get_or ts i t → t.session ≡ session → is_active session (take i ts) ≡ false → t.made ≡ made_in session ts
made_at session ts i t within is here none = ap made_of (sym (opened_at session ts i t within is (eq-eqb _ _ here) none))

pub made_none : (session : ℕ) (ts : List Opened) (i : ℕ) → length ts ≤ i → is_active session (take i ts) ≡ false → 0 ≡ made_in session ts
made_none session ts i past none = ap made_of (sym (opened_none session ts i past none))

pub marks_at : (session : ℕ) (ts : List Opened) (i : ℕ) (t : Opened) → i < length ts → t ≡ get_or ts i t → t.session ≡ session → is_active session (take i ts) ≡ false → t.marks ≡ marks_in session ts
marks_at session ts i t within is here none = ap marks_of (sym (opened_at session ts i t within is (eq-eqb _ _ here) none))

pub marks_none : (session : ℕ) (ts : List Opened) (i : ℕ) → length ts ≤ i → is_active session (take i ts) ≡ false → [] ≡ marks_in session ts
marks_none session ts i past none = ap marks_of (sym (opened_none session ts i past none))

-- ---- a change of it

-- a change changes no transaction of other sessions
unchanged : (session : ℕ) (f : Opened → Opened) (ts : List Opened) → is_active session ts ≡ false → with_opened session f ts ≡ ts
unchanged session f [] none = refl
unchanged session f (x ∷ ts) none =
    let parts = neither (x.session == session) (is_active session ts) none in
    rw parts.0 (ap (λ (us : List Opened). x ∷ us) (unchanged session f ts parts.1))

-- it is made in the one transaction of its session
changed_at : (session : ℕ) (f : Opened → Opened) (ts : List Opened) (i : ℕ) (t : Opened) → AreDistinct ts → i < length ts → t ≡ get_or ts i t → (t.session == session) ≡ true → is_active session (take i ts) ≡ false → set ts i (f t) ≡ with_opened session f ts
changed_at session f [] i t distinct within is here none = absurd (omega (arith, within))
changed_at session f (x ∷ ts) zero t distinct within is here none =
    let same : x.session ≡ session = eqb-true x.session session (rw is at here) in
    rw (rw is at here) (ap (λ (u : Opened). f u ∷ ts) is ∙ ap (λ (us : List Opened). f x ∷ us) (sym (unchanged session f ts (rw same at distinct.0))))
changed_at session f (x ∷ ts) (suc i) t distinct within is here none =
    let parts = neither (x.session == session) (is_active session (take i ts)) none in
    rw parts.0 (ap (λ (us : List Opened). x ∷ us) (changed_at session f ts i t distinct.1 (omega (arith, within)) is here parts.1))

-- the transaction that a walk through an unchanged list reaches at its session is the one of that session
module _ (session : ℕ) (now ts : List Opened) (i : ℕ) (d : Opened) (same : now ≡ ts) (within : i < length ts) (here : (get_or now i d).session ≡ session) (none : is_active session (take i now) ≡ false) where
  read : get_or now i d ≡ get_or ts i (get_or now i d)
  read = ap (λ (us : List Opened). get_or us i d) same ∙ get_or_default ts i d (get_or now i d) within

  pub made_reached : (get_or now i d).made ≡ made_in session ts
  made_reached = made_at session ts i (get_or now i d) within read here (rw same at none)

  pub mark_reached : (get_or now i d).victim ≡ mark_in session ts
  mark_reached = ap mark_of (sym (opened_at session ts i (get_or now i d) within read (eq-eqb _ _ here) (rw same at none)))

  pub changed_reached : (f : Opened → Opened) (t : Opened) → AreDistinct ts → t ≡ f (get_or now i d) → set now i t ≡ with_opened session f ts
  changed_reached f t distinct is =
      ap (λ (us : List Opened). set us i t) same
      ∙ ap (set ts i) is
      ∙ changed_at session f ts i (get_or now i d) distinct within read (eq-eqb _ _ here) (rw same at none)

-- a walk that reaches no transaction of the session leaves all as it is
none_opened : (session : ℕ) (ts : List Opened) (i : ℕ) → length ts ≤ i → is_active session (take i ts) ≡ false → is_active session ts ≡ false
none_opened session ts i past none = sym (active_found session ts) ∙ ap is_some (opened_none session ts i past none)

pub changed_none : (session : ℕ) (f : Opened → Opened) (now ts : List Opened) (i : ℕ) → now ≡ ts → length ts ≤ i → is_active session (take i now) ≡ false → now ≡ with_opened session f ts
changed_none session f now ts i same past none =
    same ∙ sym (unchanged session f ts (none_opened session ts i past (subst (λ (us : List Opened). is_active session (take i us) ≡ false) same none)))

pub mark_none : (session : ℕ) (ts : List Opened) (i : ℕ) → length ts ≤ i → is_active session (take i ts) ≡ false → None ≡ mark_in session ts
mark_none session ts i past none = ap mark_of (sym (opened_none session ts i past none))

-- without a mark there is none to take
pub unmarked_same : (session : ℕ) (ts : List Opened) → AreDistinct ts → mark_in session ts ≡ None → with_opened session drop_victim ts ≡ ts
unmarked_same session [] distinct none = refl
unmarked_same session (x ∷ ts) distinct none = by_test (x.session == session) refl none (unmarked_same session ts distinct.1)
  where
    by_test : (b : Bool) → (x.session == session) ≡ b → mark_of (if b then Some x else opened_in session ts) ≡ None → (mark_in session ts ≡ None → with_opened session drop_victim ts ≡ ts) → (if b then drop_victim x else x) ∷ with_opened session drop_victim ts ≡ x ∷ ts
    by_test true is unmarked rest =
        let rest : with_opened session drop_victim ts ≡ ts = unchanged session drop_victim ts (rw (eqb-true x.session session is) at distinct.0) in
        λ i. record x { victim = sym unmarked i } ∷ rest i
    by_test false is unmarked rest = ap (λ (us : List Opened). x ∷ us) (rest unmarked)

-- ---- what is open after a change

pub same_length : (session : ℕ) (f : Opened → Opened) (ts : List Opened) → length (with_opened session f ts) ≡ length ts
same_length session f ts = length-map ts (λ opened. if opened.session == session then f opened else opened)

-- a vector over which a list of its length is written
pub wrote_all : {A X : Type 0} (v : Vec A X) (ws xs : List A) → ws ≡ xs → length xs ≡ length v.items → (with_items v ws).items ≡ xs
wrote_all v ws xs is same = with_items_is v ws (ap length is ∙ same ∙ sym v.ok.0) ∙ is

module _ (session : ℕ) (f : Opened → Opened) (keeps : (t : Opened) → (f t).session ≡ t.session) where
  pub active_changed : (who : ℕ) (ts : List Opened) → is_active who (with_opened session f ts) ≡ is_active who ts
  active_changed who [] = refl
  active_changed who (x ∷ ts) = by_test (x.session == session) (active_changed who ts)
    where
      by_test : (b : Bool) → is_active who (with_opened session f ts) ≡ is_active who ts → ((if b then f x else x).session == who) || is_active who (with_opened session f ts) ≡ (x.session == who) || is_active who ts
      by_test true rest = rw (keeps x, rest) refl
      by_test false rest = rw rest refl

  pub distinct_changed : (ts : List Opened) → AreDistinct ts → AreDistinct (with_opened session f ts)
  distinct_changed [] distinct = tt
  distinct_changed (x ∷ ts) distinct = by_test (x.session == session) (active_changed x.session ts ∙ distinct.0) (distinct_changed ts distinct.1)
    where
      by_test : (b : Bool) → is_active x.session (with_opened session f ts) ≡ false → AreDistinct (with_opened session f ts) → AreDistinct ((if b then f x else x) ∷ with_opened session f ts)
      by_test true other rest = (rw (keeps x) other, rest)
      by_test false other rest = (other, rest)

  pub numbered_changed : ((t : Opened) → AllByRecursion (λ mark. mark ≤ t.made) t.marks → AllByRecursion (λ mark. mark ≤ (f t).made) (f t).marks) → (ts : List Opened) → AreNumbered ts → AreNumbered (with_opened session f ts)
  numbered_changed stays [] all = tt
  numbered_changed stays (x ∷ ts) all = by_test (x.session == session) (numbered_changed stays ts all.1)
    where
      by_test : (b : Bool) → AreNumbered (with_opened session f ts) → AreNumbered ((if b then f x else x) ∷ with_opened session f ts)
      by_test true rest = (stays x all.0, rest)
      by_test false rest = (all.0, rest)

-- ---- the end of one

-- what is not open stays so where some end
not_opened : (other : ℕ) (p : Opened → Bool) (ts : List Opened) → is_active other ts ≡ false → is_active other (filter p ts) ≡ false
not_opened other p [] none = refl
not_opened other p (x ∷ ts) none =
    let parts = neither (x.session == other) (is_active other ts) none in
    by_test (p x) parts.0 (not_opened other p ts parts.1)
  where
    by_test : (b : Bool) → (x.session == other) ≡ false → is_active other (filter p ts) ≡ false → is_active other (if b then x ∷ filter p ts else filter p ts) ≡ false
    by_test true differs rest = rw differs rest
    by_test false differs rest = rest

pub distinct_filter : (p : Opened → Bool) (ts : List Opened) → AreDistinct ts → AreDistinct (filter p ts)
distinct_filter p [] distinct = tt
distinct_filter p (x ∷ ts) distinct = by_test (p x) (not_opened x.session p ts distinct.0) (distinct_filter p ts distinct.1)
  where
    by_test : (b : Bool) → is_active x.session (filter p ts) ≡ false → AreDistinct (filter p ts) → AreDistinct (if b then x ∷ filter p ts else filter p ts)
    by_test true other rest = (other, rest)
    by_test false other rest = rest

-- the session that ended is open no more, and each other is as before
pub opened_left : (session who : ℕ) (ts : List Opened) → opened_in who (without_opened session ts) ≡ (if who == session then None else opened_in who ts)
opened_left session who [] = by_test (who == session)
  where
    by_test : (b : Bool) → ◌≡◌ {A = Option Opened} None (if b then None else None)
    by_test true = refl
    by_test false = refl
opened_left session who (x ∷ ts) = by_tests (x.session == session) refl (x.session == who) refl (who == session) refl (opened_left session who ts)
  where
    by_tests : (a : Bool) → (x.session == session) ≡ a → (b : Bool) → (x.session == who) ≡ b → (c : Bool) → (who == session) ≡ c
        → opened_in who (without_opened session ts) ≡ (if c then None else opened_in who ts)
        → opened_in who (if not a then x ∷ without_opened session ts else without_opened session ts) ≡ (if c then None else (if b then Some x else opened_in who ts))
    by_tests true is true also true third rest = rest
    by_tests true is true also false third rest = let no : true ≡ false = sym is ∙ ap (λ (n : ℕ). n == session) (eqb-true x.session who also) ∙ third in cc
    by_tests true is false also true third rest = rest
    by_tests true is false also false third rest = rest
    by_tests false is true also true third rest = let no : false ≡ true = sym is ∙ ap (λ (n : ℕ). n == session) (eqb-true x.session who also) ∙ third in cc
    by_tests false is true also false third rest = rw also refl
    by_tests false is false also true third rest = rw also rest
    by_tests false is false also false third rest = rw also rest

pub active_left : (session who : ℕ) (ts : List Opened) → is_active who (without_opened session ts) ≡ (if who == session then false else is_active who ts)
active_left session who ts = sym (active_found who (without_opened session ts)) ∙ ap is_some (opened_left session who ts) ∙ by_test (who == session) (active_found who ts)
  where
    by_test : (c : Bool) → is_some (opened_in who ts) ≡ is_active who ts → is_some (if c then None else opened_in who ts) ≡ (if c then false else is_active who ts)
    by_test true is = refl
    by_test false is = is

no_more : (p : Opened → Bool) (ts : List Opened) → length (filter p ts) ≤ length ts
no_more p [] = omega arith
no_more p (x ∷ ts) = by_test (p x) (no_more p ts)
  where
    by_test : (b : Bool) → length (filter p ts) ≤ length ts → length (if b then x ∷ filter p ts else filter p ts) ≤ length (x ∷ ts)
    by_test true rest = omega (arith, rest)
    by_test false rest = omega (arith, rest)

-- the end of a transaction that was open leaves one fewer
pub fewer : (session : ℕ) (ts : List Opened) → is_active session ts ≡ true → length (without_opened session ts) + 1 ≤ length ts
fewer session [] there = absurd (let no : false ≡ true = there in cc)
fewer session (x ∷ ts) there = by_test (x.session == session) there (no_more (λ t. not (t.session == session)) ts) (fewer session ts)
  where
    by_test : (b : Bool) → b || is_active session ts ≡ true → length (without_opened session ts) ≤ length ts → (is_active session ts ≡ true → length (without_opened session ts) + 1 ≤ length ts) → length (if not b then x ∷ without_opened session ts else without_opened session ts) + 1 ≤ length (x ∷ ts)
    by_test true there all rest = omega (arith, all)
    by_test false there all rest = let one = rest there in omega (arith, one)
