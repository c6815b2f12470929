-- Which of two sessions falls before the other, and the one that falls before all that were looked at.
use Rattle.std.proofs.Common.{arith, ◌≡◌, ◌≢◌, ◌⊎◌, inl, inr, ℕ, ◌+◌, ◌<◌, ◌≤◌, ◌==◌, Bool, true, false, List, [], ◌∷◌, Some, length, get_or, IsTrue, refl, sym, ap, ◌∙◌, subst, eqb-true, eq-eqb, if◌then◌else◌, below_more}
use Rattle.std.proofs.lemmas.List.{get_or_default}
use Rattle.std.proofs.lemmas.List.Folds.{Any-from_list_any, list_any_at}
use Rattle.step_model.specs.declared.edge.Edge.{Edge}
use Rattle.step_model.specs.declared.rank.Rank.{Rank}
use Rattle.step_model.specs.Cycles.{is_waiter}
use Rattle.step_model.specs.Victims.{rank_of, FallsBefore, IsVictim}

-- a rank that is found is the session's
pub rank_session : (session : ℕ) (ranks : List Rank) (rank : Rank) → rank_of session ranks ≡ Some rank → rank.session ≡ session
rank_session session [] rank is = cc
rank_session session (first ∷ ranks) rank is = by_test (first.session == session) refl is (rank_session session ranks rank)
  where
    by_test : (b : Bool) → (first.session == session) ≡ b → (if b then Some first else rank_of session ranks) ≡ Some rank → (rank_of session ranks ≡ Some rank → rank.session ≡ session) → rank.session ≡ session
    by_test true here found rest = let same : first ≡ rank = cc in ap (λ (r : Rank). r.session) (sym same) ∙ eqb-true first.session session here
    by_test false here found rest = rest found

pub falls_trans : (a b c : Rank) → FallsBefore a b → FallsBefore b c → FallsBefore a c
falls_trans a b c one two = grind arith

-- of two sessions one falls before the other
pub falls_else : (a b : Rank) → a.session ≢ b.session → (FallsBefore a b → ⊥) → FallsBefore b a
falls_else a b differ none = grind arith

-- the edge is of the session of this rank, or of one that falls after it
abbrev pub IsAfter : List Rank → Rank → Edge → Type 0
IsAfter ranks first edge = (edge.waiter ≡ first.session) ⊎ ((other : Rank) → rank_of edge.waiter ranks ≡ Some other → FallsBefore first other)

-- what is after one is after those that fall before it
pub after_sooner : (ranks : List Rank) (first sooner : Rank) (edge : Edge) → rank_of first.session ranks ≡ Some first → FallsBefore sooner first → IsAfter ranks first edge → IsAfter ranks sooner edge
after_sooner ranks first sooner edge known falls (inl same) =
    inr (λ other is. let h : first ≡ other = (let e : Some first ≡ Some other = sym known ∙ ap (λ (n : ℕ). rank_of n ranks) (sym same) ∙ is in cc) in subst (FallsBefore sooner) h falls)
after_sooner ranks first sooner edge known falls (inr all) = inr (λ other is. falls_trans sooner first other falls (all other is))

-- an edge whose rank does not fall before one is after that
pub after_itself : (ranks : List Rank) (first rank : Rank) (edge : Edge) → rank_of edge.waiter ranks ≡ Some rank → (FallsBefore rank first → ⊥) → IsAfter ranks first edge
after_itself ranks first rank edge known none = by_test (edge.waiter == first.session) refl
  where
    session : rank.session ≡ edge.waiter
    session = rank_session edge.waiter ranks rank known

    by_test : (b : Bool) → (edge.waiter == first.session) ≡ b → IsAfter ranks first edge
    by_test true is = inl (eqb-true edge.waiter first.session is)
    by_test false is = inr (λ other found.
        let h : rank ≡ other = (let e : Some rank ≡ Some other = sym known ∙ found in cc) in
        subst (FallsBefore first) h (falls_else rank first (λ same. grind (arith, is, session, same)) none))

-- ---- the first of the edges up to a place

-- a rank that is its session's, of a session that waits; and none of the edges before the place falls before it
pub record First (edges : List Edge) (ranks : List Rank) (first : Rank) (place : ℕ) : Type 0 where
  pub known : rank_of first.session ranks ≡ Some first
  pub waits : IsTrue (is_waiter first.session edges)
  pub before : (k : ℕ) (d : Edge) → k < place → IsAfter ranks first (get_or edges k d)

-- the session of an edge's rank waits
waits_at : (edges : List Edge) (ranks : List Rank) (k : ℕ) (edge : Edge) (rank : Rank) → k < length edges → edge ≡ get_or edges k edge → rank_of edge.waiter ranks ≡ Some rank → IsTrue (is_waiter rank.session edges)
waits_at edges ranks k edge rank below at known =
    list_any_at (λ other. rank.session == other.waiter) edges k edge below (subst (λ (e : Edge). (rank.session == e.waiter) ≡ true) at (eq-eqb rank.session edge.waiter (rank_session edge.waiter ranks rank known)))

-- what is found of a session is found of its rank's
known_itself : (session : ℕ) (ranks : List Rank) (rank : Rank) → rank_of session ranks ≡ Some rank → rank_of rank.session ranks ≡ Some rank
known_itself session ranks rank known = subst (λ (n : ℕ). rank_of n ranks ≡ Some rank) (sym (rank_session session ranks rank known)) known

pub some_below : (edges : List Edge) → edges ≢ [] → 0 < length edges
some_below [] some = absurd (some refl)
some_below (edge ∷ edges) some = omega arith

-- at first any edge's
pub first_any : (edges : List Edge) (ranks : List Rank) (k : ℕ) (edge : Edge) (rank : Rank) → k < length edges → edge ≡ get_or edges k edge → rank_of edge.waiter ranks ≡ Some rank → First edges ranks rank 0
first_any edges ranks k edge rank below at known =
    record { known = known_itself edge.waiter ranks rank known; waits = waits_at edges ranks k edge rank below at known; before = λ j d none. absurd (omega (arith, none)) }

-- an edge whose rank falls before it takes its place
pub first_sooner : (edges : List Edge) (ranks : List Rank) (first : Rank) (k : ℕ) (edge : Edge) (rank : Rank) → k < length edges → edge ≡ get_or edges k edge → rank_of edge.waiter ranks ≡ Some rank → FallsBefore rank first
    → First edges ranks first k → First edges ranks rank (k + 1)
first_sooner edges ranks first k edge rank below at known falls so_far = record {
  known = known_itself edge.waiter ranks rank known;
  waits = waits_at edges ranks k edge rank below at known;
  before = λ j d less. below_more (λ j. (d : Edge) → IsAfter ranks rank (get_or edges j d)) k
      (λ j less d. after_sooner ranks first rank (get_or edges j d) so_far.known falls (so_far.before j d less))
      (λ d. inl (ap (λ (e : Edge). e.waiter) (get_or_default edges k d edge below ∙ sym at) ∙ sym (rank_session edge.waiter ranks rank known))) j less d;
}

-- any other leaves it
pub first_stays : (edges : List Edge) (ranks : List Rank) (first : Rank) (k : ℕ) (edge : Edge) (rank : Rank) → k < length edges → edge ≡ get_or edges k edge → rank_of edge.waiter ranks ≡ Some rank → (FallsBefore rank first → ⊥)
    → First edges ranks first k → First edges ranks first (k + 1)
first_stays edges ranks first k edge rank below at known none so_far = record {
  known = so_far.known;
  waits = so_far.waits;
  before = λ j d less. below_more (λ j. (d : Edge) → IsAfter ranks first (get_or edges j d)) k
      (λ j less d. so_far.before j d less)
      (λ d. subst (IsAfter ranks first) (at ∙ get_or_default edges k edge d below) (after_itself ranks first rank edge known none)) j less d;
}

-- the first of all is the victim
pub victim_found : (edges : List Edge) (ranks : List Rank) (first : Rank) (place : ℕ) → length edges ≤ place → First edges ranks first place → IsVictim edges ranks first.session
victim_found edges ranks first place past so_far = record {
  waits = so_far.waits;
  first = λ other there differ a b a_is b_is. by_any other differ a b a_is b_is (Any-from_list_any (λ edge. other == edge.waiter) edges there);
}
  where
    by_after : (other : ℕ) (edge : Edge) → other ≢ first.session → (a b : Rank) → rank_of first.session ranks ≡ Some a → rank_of other ranks ≡ Some b → (other == edge.waiter) ≡ true → IsAfter ranks first edge → FallsBefore a b
    by_after other edge differ a b a_is b_is is (inl same) = absurd (differ (eqb-true other edge.waiter is ∙ same))
    by_after other edge differ a b a_is b_is is (inr all) =
        let h : first ≡ a = (let e : Some first ≡ Some a = sym so_far.known ∙ a_is in cc) in
        subst (λ (r : Rank). FallsBefore r b) h (all b (subst (λ (n : ℕ). rank_of n ranks ≡ Some b) (eqb-true other edge.waiter is) b_is))

    by_any : (other : ℕ) → other ≢ first.session → (a b : Rank) → rank_of first.session ranks ≡ Some a → rank_of other ranks ≡ Some b → (k : ℕ) × (x : Edge) × (k < length edges) × (get_or edges k x ≡ x) × ((other == x.waiter) ≡ true) → FallsBefore a b
    by_any other differ a b a_is b_is any =
        by_after other (get_or edges any.0 any.1) differ a b a_is b_is (subst (λ (x : Edge). (other == x.waiter) ≡ true) (sym any.3) any.4) (so_far.before any.0 any.1 (omega (arith, any.2, past)))
