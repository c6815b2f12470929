-- The way back along a trail: from the session's own edge on it is a cycle.
use Rattle.std.proofs.Common.{arith, ◌≡◌, ◌≢◌, inl, inr, ℕ, ◌≤◌, ◌==◌, ◌||◌, Bool, true, false, List, [], ◌∷◌, length, map, refl, sym, ap, ◌∙◌, subst, eqb-true, eq-eqb, if◌then◌else◌}
use Rattle.std.specs.List.{AllByRecursion, Contains, IsDistinct, list_any}
use Rattle.std.specs.Cmp.{nat_eq_equiv}
use Rattle.std.specs.Prelude.{nat_eq}
use Rattle.std.proofs.lemmas.List.{length-map}
use Rattle.std.proofs.lemmas.Map.Made.{length-le_from_is_member}
use Rattle.std.proofs.lemmas.List.Folds.{list_any_at}
use Rattle.step_model.specs.declared.edge.Edge.{Edge}
use Rattle.step_model.specs.Cycles.{Conflicts, Leads, WaitersDiffer, is_waiter, IsCycleAt}
use Rattle.wait_graph.specs.Lists.{AreAmong}
use Rattle.wait_graph.specs.Trails.{Known, IsTrail, back_from}

or_false : (a b : Bool) → (a || b) ≡ false → (a ≡ false) × (b ≡ false)
or_false false b is = (refl, is)
or_false true b is = absurd (let h : true ≡ false = is in cc)

apart : (a b : ℕ) → (a == b) ≡ false → a ≢ b
apart a b is same = let h : true ≡ false = sym (eq-eqb a b same) ∙ is in cc

turned : (a b : ℕ) → (a == b) ≡ false → (b == a) ≡ false
turned a b is = by_test (b == a) refl
  where
    by_test : (t : Bool) → (b == a) ≡ t → t ≡ false
    by_test true same = absurd (apart a b is (sym (eqb-true b a same)))
    by_test false same = refl

-- who is none of the waiters differs from each
all_apart : (who : ℕ) (edges : List Edge) → is_waiter who edges ≡ false → AllByRecursion (λ edge. who ≢ edge.waiter) edges
all_apart who [] none = tt
all_apart who (edge ∷ edges) none =
    let parts = or_false (who == edge.waiter) (is_waiter who edges) none in
    (apart who edge.waiter parts.0, all_apart who edges parts.1)

-- ---- what holds of a trail's edges holds on the way back

pub back_all : (P : Edge → Type 0) (who : ℕ) (edges : List Edge) → AllByRecursion P edges → AllByRecursion P (back_from who edges)
back_all P who [] all = tt
back_all P who (edge ∷ edges) all = by_test (edge.waiter == who) (back_all P edge.holder edges all.1) (back_all P who edges all.1)
  where
    by_test : (b : Bool) → AllByRecursion P (back_from edge.holder edges) → AllByRecursion P (back_from who edges) → AllByRecursion P (if b then edge ∷ back_from edge.holder edges else back_from who edges)
    by_test true here past = (all.0, here)
    by_test false here past = past

all_conflict : (session : ℕ) (edges : List Edge) → IsTrail session edges → AllByRecursion Conflicts edges
all_conflict session [] trail = tt
all_conflict session (edge ∷ edges) trail = (trail.0, all_conflict session edges trail.3)

back_differ : (session who : ℕ) (edges : List Edge) → IsTrail session edges → WaitersDiffer (back_from who edges)
back_differ session who [] trail = tt
back_differ session who (edge ∷ edges) trail = by_test (edge.waiter == who) (back_differ session edge.holder edges trail.3) (back_differ session who edges trail.3)
  where
    by_test : (b : Bool) → WaitersDiffer (back_from edge.holder edges) → WaitersDiffer (back_from who edges) → WaitersDiffer (if b then edge ∷ back_from edge.holder edges else back_from who edges)
    by_test true here past = (back_all (λ other. edge.waiter ≢ other.waiter) edge.holder edges (all_apart edge.waiter edges trail.2), here)
    by_test false here past = past

-- ---- the way back leads to the session

known_before : (session who : ℕ) (edge : Edge) (edges : List Edge) → (edge.waiter == who) ≡ false → Known who session (edge ∷ edges) → Known who session edges
known_before session who edge edges differs (inl same) = inl same
known_before session who edge edges differs (inr waits) = inr (subst (λ (b : Bool). (b || is_waiter who edges) ≡ true) (turned edge.waiter who differs) waits)

back_leads : (session who : ℕ) (edges : List Edge) → IsTrail session edges → is_waiter session edges ≡ false → Known who session edges → Leads who (back_from who edges) session
back_leads session who [] trail none (inl same) = same
back_leads session who [] trail none (inr waits) = absurd (let h : false ≡ true = waits in cc)
back_leads session who (edge ∷ edges) trail none known =
    by_test (edge.waiter == who) refl (back_leads session edge.holder edges trail.3 (or_false (session == edge.waiter) (is_waiter session edges) none).1 trail.1)
    (back_leads session who edges trail.3 (or_false (session == edge.waiter) (is_waiter session edges) none).1)
  where
    by_test : (b : Bool) → (edge.waiter == who) ≡ b → Leads edge.holder (back_from edge.holder edges) session → (Known who session edges → Leads who (back_from who edges) session) → Leads who (if b then edge ∷ back_from edge.holder edges else back_from who edges) session
    by_test true is here past = (eqb-true edge.waiter who is, here)
    by_test false is here past = past (known_before session who edge edges is known)

-- a way that begins with the session's edge and comes back
abbrev Returns : ℕ → List Edge → Type 0
Returns session [] = ⊥
Returns session (edge ∷ edges) = (edge.waiter ≡ session) × Leads edge.holder edges session

back_returns : (session : ℕ) (edges : List Edge) → IsTrail session edges → is_waiter session edges ≡ true → Returns session (back_from session edges)
back_returns session [] trail waits = absurd (let h : false ≡ true = waits in cc)
back_returns session (edge ∷ edges) trail waits = by_test (edge.waiter == session) refl (back_returns session edges trail.3)
  where
    by_test : (b : Bool) → (edge.waiter == session) ≡ b → (is_waiter session edges ≡ true → Returns session (back_from session edges)) → Returns session (if b then edge ∷ back_from edge.holder edges else back_from session edges)
    by_test true is rest =
        let same : edge.waiter ≡ session = eqb-true edge.waiter session is in
        (same, back_leads session edge.holder edges trail.3 (subst (λ (n : ℕ). is_waiter n edges ≡ false) same trail.2) trail.1)
    by_test false is rest = rest (subst (λ (b : Bool). (b || is_waiter session edges) ≡ true) (turned edge.waiter session is) waits)

-- ---- so it is a cycle, or the session does not wait

cycle_of : (all : List Edge) (session : ℕ) (edges : List Edge) → Returns session edges → AllByRecursion Conflicts edges → WaitersDiffer edges → AreAmong edges all → IsCycleAt (Contains all) session edges
cycle_of all session [] returns conflict differ among = absurd returns
cycle_of all session (edge ∷ edges) returns conflict differ among =
    record { closed = (conflict, differ, subst (Leads edge.holder edges) (sym returns.0) returns.1); begins = returns.0; among = among }

pub back_cycle : (all : List Edge) (session : ℕ) (edges : List Edge) → IsTrail session edges → AreAmong edges all → is_waiter session edges ≡ true → IsCycleAt (Contains all) session (back_from session edges)
back_cycle all session edges trail among waits =
    cycle_of all session (back_from session edges) (back_returns session edges trail waits) (back_all Conflicts session edges (all_conflict session edges trail)) (back_differ session session edges trail) (back_all (Contains all) session edges among)

pub back_some : (session : ℕ) (edges : List Edge) → is_waiter session edges ≡ true → back_from session edges ≢ []
back_some session [] waits = absurd (let h : false ≡ true = waits in cc)
back_some session (edge ∷ edges) waits = by_test (edge.waiter == session) refl (back_some session edges)
  where
    by_test : (b : Bool) → (edge.waiter == session) ≡ b → (is_waiter session edges ≡ true → back_from session edges ≢ []) → (if b then edge ∷ back_from edge.holder edges else back_from session edges) ≢ []
    by_test true is rest = λ none. cc
    by_test false is rest = rest (subst (λ (b : Bool). (b || is_waiter session edges) ≡ true) (turned edge.waiter session is) waits)

pub back_none : (session : ℕ) (edges : List Edge) → is_waiter session edges ≡ false → back_from session edges ≡ []
back_none session [] none = refl
back_none session (edge ∷ edges) none = by_test (edge.waiter == session) refl (back_none session edges)
  where
    parts : ((session == edge.waiter) ≡ false) × (is_waiter session edges ≡ false)
    parts = or_false (session == edge.waiter) (is_waiter session edges) none

    by_test : (b : Bool) → (edge.waiter == session) ≡ b → (is_waiter session edges ≡ false → back_from session edges ≡ []) → (if b then edge ∷ back_from edge.holder edges else back_from session edges) ≡ []
    by_test true is rest = absurd (apart session edge.waiter parts.0 (sym (eqb-true edge.waiter session is)))
    by_test false is rest = rest parts.1

-- ---- a trail is no longer than the edges that it is made of

among_waits : (who : ℕ) (edges all : List Edge) → AreAmong edges all → is_waiter who edges ≡ true → is_waiter who all ≡ true
among_waits who [] all among waits = absurd (let h : false ≡ true = waits in cc)
among_waits who (edge ∷ edges) all among waits = by_test (who == edge.waiter) refl waits (among_waits who edges all among.1)
  where
    by_test : (b : Bool) → (who == edge.waiter) ≡ b → (b || is_waiter who edges) ≡ true → (is_waiter who edges ≡ true → is_waiter who all ≡ true) → is_waiter who all ≡ true
    by_test true is there rest =
        list_any_at (λ other. who == other.waiter) all among.0.0 edge among.0.1 (subst (λ (e : Edge). (who == e.waiter) ≡ true) (sym among.0.2) is)
    by_test false is there rest = rest there

member_waits : (who : ℕ) (edges : List Edge) → list_any (nat_eq who) (map (λ edge. edge.waiter) edges) ≡ is_waiter who edges
member_waits who [] = refl
member_waits who (edge ∷ edges) = ap (λ (b : Bool). who == edge.waiter || b) (member_waits who edges)

none_equal : (who : ℕ) (edges : List Edge) → is_waiter who edges ≡ false → AllByRecursion (λ other. nat_eq who other ≡ false) (map (λ edge. edge.waiter) edges)
none_equal who [] none = tt
none_equal who (edge ∷ edges) none =
    let parts = or_false (who == edge.waiter) (is_waiter who edges) none in
    (parts.0, none_equal who edges parts.1)

distinct : (session : ℕ) (edges : List Edge) → IsTrail session edges → IsDistinct nat_eq (map (λ edge. edge.waiter) edges)
unfolding IsDistinct
distinct session [] trail = tt
distinct session (edge ∷ edges) trail = (none_equal edge.waiter edges trail.2, distinct session edges trail.3)

pub trail_few : (all : List Edge) (session : ℕ) (edges : List Edge) → IsTrail session edges → AreAmong edges all → length edges ≤ length all
trail_few all session edges trail among =
    let h : length (map (λ (edge : Edge). edge.waiter) edges) ≤ length (map (λ (edge : Edge). edge.waiter) all) =
    length-le_from_is_member nat_eq_equiv (map (λ (edge : Edge). edge.waiter) edges) (map (λ (edge : Edge). edge.waiter) all) (distinct session edges trail)
    (λ who there. member_waits who all ∙ among_waits who edges all among (sym (member_waits who edges) ∙ there)) in
    grind (arith, h, length-map edges (λ (edge : Edge). edge.waiter), length-map all (λ (edge : Edge). edge.waiter))
