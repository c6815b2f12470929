-- What is kept by numbers: the lists of the sessions as one list, and pairs of which none is there.
use Rattle.std.proofs.Common.{◌≡◌, ◌<◌, ◌≤◌, ℕ, zero, suc, ◌+◌, ◌-◌, ◌==◌, Bool, true, false, if◌then◌else◌, List, [], ◌∷◌, ◌++◌, length, take, replicate, refl, sym, ap, ◌∙◌, subst, append-nil, eqb-true, eq-eqb, ltb, ltb-true, ltb-false, arith}
use Rattle.std.proofs.lemmas.List.{get_or-replicate, get_or_past, length-replicate}
use Rattle.lock_modes.specs.declared.Pair.{Pair}
use Rattle.lock_modes.specs.Join.{join_pairs}
use Rattle.lock_modes.specs.Modes.{none}
use Rattle.step_model.specs.Locks.{Lock}
use Rattle.lock_table.specs.Table.{SessionLock, of_session, pair_at, all_but_last}
use Rattle.lock_table.specs.BySession.{list_of, with_session, all_from, changed_if, ChangesPair}

-- ---- numbers

-- a number is below a bound or not
pub below_or_past : (Q : Type 0) (k n : ℕ) → (k < n → Q) → (n ≤ k → Q) → Q
below_or_past Q k n below past = by_test (ltb k n) refl
  where
    by_test : (b : Bool) → ltb k n ≡ b → Q
    by_test true is = below (ltb-true k n is)
    by_test false is = past (ltb-false k n is)

-- what holds below a bound and at it
pub one_more : (P : ℕ → Type 0) (n : ℕ) → ((k : ℕ) → k < n → P k) → P n → (k : ℕ) → k < n + 1 → P k
one_more P n all here k below = by_test (k == n) refl
  where
    by_test : (b : Bool) → (k == n) ≡ b → P k
    by_test true is = let same : k ≡ n = eqb-true k n is in rw same here
    by_test false is = all k (grind (arith, below, is))

-- ---- pairs

-- no lock at any number
pub none_of : (session : ℕ) (n : ℕ) → pair_at session (replicate n none) ≡ none
none_of session n = below_or_past (pair_at session (replicate n none) ≡ none) session n
    (λ below. get_or-replicate n session none none below)
    (λ past. get_or_past (replicate n none) session none (rw length-replicate past))

-- none where none is below the length
pub none_at_all : (pairs : List Pair) → ((k : ℕ) → k < length pairs → pair_at k pairs ≡ none) → (who : ℕ) → pair_at who pairs ≡ none
none_at_all pairs all who = below_or_past (pair_at who pairs ≡ none) who (length pairs) (all who) (λ past. get_or_past pairs who none past)

-- the pairs of one number more are joined to others
pub joined_more : (n : ℕ) (start now new others : List Pair) (pair : Pair) → pair ≡ pair_at n others → ChangesPair n (λ old. join_pairs old pair) now new
    → ((who : ℕ) → who < n → pair_at who now ≡ join_pairs (pair_at who start) (pair_at who others)) → ((who : ℕ) → n ≤ who → pair_at who now ≡ pair_at who start)
    → (who : ℕ) → who < n + 1 → pair_at who new ≡ join_pairs (pair_at who start) (pair_at who others)
joined_more n start now new others pair is changes done left who below = changes who ∙ by_test (who == n) refl
  where
    by_test : (b : Bool) → (who == n) ≡ b → changed_if b (λ old. join_pairs old pair) (pair_at who now) ≡ join_pairs (pair_at who start) (pair_at who others)
    by_test true same =
        let here : who ≡ n = eqb-true who n same in
        ap (λ (p : Pair). join_pairs p pair) (left who (omega (arith, here)))
        ∙ ap (join_pairs (pair_at who start)) (is ∙ ap (λ (k : ℕ). pair_at k others) (sym here))
    by_test false apart = done who (grind (arith, below, apart))

pub others_stay : (n : ℕ) (start now new : List Pair) (pair : Pair) → ChangesPair n (λ old. join_pairs old pair) now new → ((who : ℕ) → n ≤ who → pair_at who now ≡ pair_at who start)
    → (who : ℕ) → n + 1 ≤ who → pair_at who new ≡ pair_at who start
others_stay n start now new pair changes left who past =
    let apart : (who == n) ≡ false = grind (arith, past) in
    changes who ∙ rw apart (left who (omega (arith, past)))

-- ---- the sessions' lists as one

of_both : (who : ℕ) (front back : List SessionLock) → of_session who (front ++ back) ≡ of_session who front ++ of_session who back
of_both who [] back = refl
of_both who (x ∷ front) back = by_test (x.session == who) (of_both who front back)
  where
    by_test : (b : Bool) → of_session who (front ++ back) ≡ of_session who front ++ of_session who back
        → (if b then x.lock ∷ of_session who (front ++ back) else of_session who (front ++ back)) ≡ (if b then x.lock ∷ of_session who front else of_session who front) ++ of_session who back
    by_test true rest = ap (λ (ls : List Lock). x.lock ∷ ls) rest
    by_test false rest = rest

of_one : (who session : ℕ) (b : Bool) → (session == who) ≡ b → (ls : List Lock) → of_session who (with_session session ls) ≡ (if b then ls else [])
of_one who session true is [] = refl
of_one who session false is [] = refl
of_one who session true is (l ∷ ls) = rw is (ap (λ (ms : List Lock). l ∷ ms) (of_one who session true is ls))
of_one who session false is (l ∷ ls) = rw is (of_one who session false is ls)

-- below the first number there is none
of_below : (who first : ℕ) (lists : List (List Lock)) → who < first → of_session who (all_from first lists) ≡ []
of_below who first [] below = refl
of_below who first (ls ∷ lists) below =
    let apart : (first == who) ≡ false = grind (arith, below) in
    of_both who (with_session first ls) (all_from (first + 1) lists)
    ∙ ap (λ (ms : List Lock). ms ++ of_session who (all_from (first + 1) lists)) (of_one who first false apart ls)
    ∙ of_below who (first + 1) lists (omega (arith, below))

of_from : (k first : ℕ) (lists : List (List Lock)) → of_session (first + k) (all_from first lists) ≡ list_of k lists
of_from k first [] = refl
of_from zero first (ls ∷ lists) =
    let same : first + 0 ≡ first = omega arith in
    let here : (first == first) ≡ true = eq-eqb first first refl in
    rw same
    (of_both first (with_session first ls) (all_from (first + 1) lists)
    ∙ ap (λ (ms : List Lock). ms ++ of_session first (all_from (first + 1) lists)) (of_one first first true here ls)
    ∙ ap (λ (ms : List Lock). ls ++ ms) (of_below first (first + 1) lists (omega arith))
    ∙ append-nil ls)
of_from (suc k) first (ls ∷ lists) =
    let apart : (first == (first + suc k)) ≡ false = grind arith in
    let next : first + 1 + k ≡ first + suc k = omega arith in
    of_both (first + suc k) (with_session first ls) (all_from (first + 1) lists)
    ∙ ap (λ (ms : List Lock). ms ++ of_session (first + suc k) (all_from (first + 1) lists)) (of_one (first + suc k) first false apart ls)
    ∙ subst (λ (n : ℕ). of_session n (all_from (first + 1) lists) ≡ list_of k lists) next (of_from k (first + 1) lists)

-- a session's locks among all are its list
pub of_lists : (who : ℕ) (lists : List (List Lock)) → of_session who (all_from 0 lists) ≡ list_of who lists
of_lists who lists =
    let same : 0 + who ≡ who = omega arith in
    subst (λ (n : ℕ). of_session n (all_from 0 lists) ≡ list_of who lists) same (of_from who 0 lists)

-- ---- the latest lock

pub all_but_push : (ls : List Lock) (l : Lock) → all_but_last (ls ++ l ∷ []) ≡ ls
all_but_push [] l = refl
all_but_push (a ∷ []) l = refl
all_but_push (a ∷ (b ∷ ls)) l = ap (λ (ms : List Lock). a ∷ ms) (all_but_push (b ∷ ls) l)

pub all_but_take : (ls : List Lock) → take (length ls - 1) ls ≡ all_but_last ls
all_but_take [] = refl
all_but_take (a ∷ []) = refl
all_but_take (a ∷ (b ∷ ls)) =
    let more : length (a ∷ (b ∷ ls)) - 1 ≡ suc (length (b ∷ ls) - 1) = omega arith in
    rw more (ap (λ (ms : List Lock). a ∷ ms) (all_but_take (b ∷ ls)))
