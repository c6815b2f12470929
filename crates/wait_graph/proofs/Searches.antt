-- The search: what was followed so far, and what it says in the end.
use Rattle.std.proofs.Common.{arith, ◌≡◌, ◌≢◌, inl, inr, ℕ, ◌+◌, ◌<◌, ◌≤◌, ◌==◌, ◌||◌, Bool, true, false, List, [], ◌∷◌, ◌++◌, length, map, reverse, get_or, refl, sym, ap, ◌∙◌, subst, eqb-true, eq-eqb, below_more, length-append}
use Rattle.std.specs.Global.{Vec}
use Rattle.std.specs.Prelude.{Contains, Option, None, Some, IfSome}
use Rattle.std.proofs.lemmas.List.{length-map, length-reverse, map-append, reverse-append}
use Rattle.std.proofs.Math.ListN.{get_or-append}
use Rattle.std.proofs.Math.Seq.{get_or-append_seam}
use Rattle.step_model.specs.declared.edge.Edge.{Edge}
use Rattle.step_model.specs.Cycles.{is_waiter, IsCycleAt, HasNoCycle}
use Rattle.wait_graph.specs.Lists.{AreAmong}
use Rattle.wait_graph.specs.Trails.{Trail, Known, IsTrail, Grows, HasWaiters, waiter_at, back_from}
use Rattle.wait_graph.proofs.Trails.{back_cycle, back_none, back_some, trail_few}
use Rattle.wait_graph.proofs.Backward.{none_through}
use Rattle.wait_graph.proofs.Follows.{grows_waits}

-- all that wait for the session are on the trail, and all that wait for those that were found before a place
pub record Searches (all : List Edge) (session place : ℕ) (trail : Trail) : Type 0 where
  pub of_session : trail.session ≡ session
  pub among : AreAmong trail.edges all
  pub first : HasWaiters all session trail.edges
  pub done : (k : ℕ) → k < place → HasWaiters all (waiter_at k trail.edges) trail.edges
  pub within : place ≤ length trail.edges

-- ---- places in a trail that grows

waiters_split : (more edges : List Edge) → map (λ (edge : Edge). edge.waiter) (reverse (more ++ edges)) ≡ map (λ (edge : Edge). edge.waiter) (reverse edges) ++ map (λ (edge : Edge). edge.waiter) (reverse more)
waiters_split more edges = ap (map (λ (edge : Edge). edge.waiter)) (reverse-append more edges) ∙ map-append (λ (edge : Edge). edge.waiter) (reverse edges) (reverse more)

waiters_count : (edges : List Edge) → length (map (λ (edge : Edge). edge.waiter) (reverse edges)) ≡ length edges
waiters_count edges = rw (length-map, length-reverse) refl

-- who was found at a place stays there
waiter_stays : (k : ℕ) (old new : Trail) → Grows old new → k < length old.edges → waiter_at k new.edges ≡ waiter_at k old.edges
waiter_stays k old new grows below =
    ap (λ (es : List Edge). waiter_at k es) grows.edges ∙ ap (λ (ns : List ℕ). get_or ns k 0) (waiters_split grows.more old.edges)
    ∙ get_or-append (map (λ (edge : Edge). edge.waiter) (reverse old.edges)) (map (λ (edge : Edge). edge.waiter) (reverse grows.more)) 0 k (rw waiters_count below)

waiters_stay : (all : List Edge) (holder : ℕ) (old new : Trail) → Grows old new → HasWaiters all holder old.edges → HasWaiters all holder new.edges
waiters_stay all holder old new grows has edge there conflicts same = grows_waits edge.waiter old new grows (has edge there conflicts same)

longer : (old new : Trail) → Grows old new → length old.edges ≤ length new.edges
longer old new grows = rw (grows.edges, length-append) (omega arith)

-- ---- the search goes on

pub searches_first : (all : List Edge) (session : ℕ) (old new : Trail) → old.session ≡ session → Grows old new → AreAmong new.edges all → HasWaiters all session new.edges → Searches all session 0 new
searches_first all session old new is grows among first = record { of_session = grows.session ∙ is; among = among; first = first; done = λ k none. absurd (omega (arith, none)); within = omega arith }

pub searches_more : (all : List Edge) (session place holder : ℕ) (old new : Trail) → place < length old.edges → holder ≡ waiter_at place old.edges → Grows old new → AreAmong new.edges all → HasWaiters all holder new.edges → Searches all session place old → Searches all session (place + 1) new
searches_more all session place holder old new below is grows among has so_far = record {
  of_session = grows.session ∙ so_far.of_session;
  among = among;
  first = waiters_stay all session old new grows so_far.first;
  done = below_more (λ k. HasWaiters all (waiter_at k new.edges) new.edges) place
      (λ k less. subst (λ (n : ℕ). HasWaiters all n new.edges) (sym (waiter_stays k old new grows (omega (arith, less, below)))) (waiters_stay all (waiter_at k old.edges) old new grows (so_far.done k less)))
      (subst (λ (n : ℕ). HasWaiters all n new.edges) (is ∙ sym (waiter_stays place old new grows below)) has);
  within = let more = longer old new grows in omega (arith, more, below);
}

-- ---- the search ends

-- the last of a list
last_at : (ns : List ℕ) (n place : ℕ) → length ns ≡ place → get_or (ns ++ n ∷ []) place 0 ≡ n
last_at ns n place is = subst (λ (k : ℕ). get_or (ns ++ n ∷ []) k 0 ≡ n) is (get_or-append_seam ns n [] 0)

-- who waits was found at a place
found_at : (who : ℕ) (edges : List Edge) → is_waiter who edges ≡ true → (k : ℕ) × (k < length edges) × (waiter_at k edges ≡ who)
found_at who [] waits = absurd (let h : false ≡ true = waits in cc)
found_at who (edge ∷ edges) waits = by_test (who == edge.waiter) refl waits (found_at who edges)
  where
    split : map (λ (edge : Edge). edge.waiter) (reverse (edge ∷ edges)) ≡ map (λ (edge : Edge). edge.waiter) (reverse edges) ++ edge.waiter ∷ []
    split = waiters_split (edge ∷ []) edges

    by_test : (b : Bool) → (who == edge.waiter) ≡ b → (b || is_waiter who edges) ≡ true → (is_waiter who edges ≡ true → (k : ℕ) × (k < length edges) × (waiter_at k edges ≡ who)) → (k : ℕ) × (k < length (edge ∷ edges)) × (waiter_at k (edge ∷ edges) ≡ who)
    by_test true is there rest = (length edges, omega arith, ap (λ (ns : List ℕ). get_or ns (length edges) 0) split ∙ last_at (map (λ (edge : Edge). edge.waiter) (reverse edges)) edge.waiter (length edges) (waiters_count edges) ∙ sym (eqb-true who edge.waiter is))
    by_test false is there rest =
        let found = rest there in
        (found.0, (let less : found.0 < length edges = found.1 in omega arith), ap (λ (ns : List ℕ). get_or ns found.0 0) split ∙ get_or-append (map (λ (edge : Edge). edge.waiter) (reverse edges)) (edge.waiter ∷ []) 0 found.0 (rw waiters_count found.1) ∙ found.2)

-- who was found at a place waits
pub waiter_waits : (place : ℕ) (edges : List Edge) → place < length edges → is_waiter (waiter_at place edges) edges ≡ true
waiter_waits place [] below = absurd (omega (arith, below))
waiter_waits place (edge ∷ edges) below = by_test (place == length edges) refl (waiter_waits place edges)
  where
    split : map (λ (edge : Edge). edge.waiter) (reverse (edge ∷ edges)) ≡ map (λ (edge : Edge). edge.waiter) (reverse edges) ++ edge.waiter ∷ []
    split = waiters_split (edge ∷ []) edges

    or_behind : (a b : Bool) → b ≡ true → (a || b) ≡ true
    or_behind true b is = refl
    or_behind false b is = is

    by_test : (b : Bool) → (place == length edges) ≡ b → (place < length edges → is_waiter (waiter_at place edges) edges ≡ true) → is_waiter (waiter_at place (edge ∷ edges)) (edge ∷ edges) ≡ true
    by_test true is rest =
        let here : waiter_at place (edge ∷ edges) ≡ edge.waiter = (ap (λ (ns : List ℕ). get_or ns place 0) split ∙ last_at (map (λ (edge : Edge). edge.waiter) (reverse edges)) edge.waiter place (waiters_count edges ∙ sym (eqb-true place (length edges) is))) in
        ap (λ (b : Bool). b || is_waiter (waiter_at place (edge ∷ edges)) edges) (eq-eqb (waiter_at place (edge ∷ edges)) edge.waiter here)
    by_test false is rest =
        let less : place < length edges = grind (arith, below, is) in
        let there : waiter_at place (edge ∷ edges) ≡ waiter_at place edges = (ap (λ (ns : List ℕ). get_or ns place 0) split ∙ get_or-append (map (λ (edge : Edge). edge.waiter) (reverse edges)) (edge.waiter ∷ []) 0 place (rw waiters_count less)) in
        or_behind (waiter_at place (edge ∷ edges) == edge.waiter) (is_waiter (waiter_at place (edge ∷ edges)) edges) (subst (λ (n : ℕ). is_waiter n edges ≡ true) (sym there) (rest less))

closed : (all : List Edge) (session place : ℕ) (trail : Trail) → length trail.edges ≤ place → Searches all session place trail → (who : ℕ) → Known who session trail.edges → HasWaiters all who trail.edges
closed all session place trail past so_far who (inl same) = subst (λ (n : ℕ). HasWaiters all n trail.edges) (sym same) so_far.first
closed all session place trail past so_far who (inr waits) =
    let found = found_at who trail.edges waits in
    subst (λ (n : ℕ). HasWaiters all n trail.edges) found.2 (so_far.done found.0 (omega (arith, found.1, past)))

-- at the end nothing that is not on the trail waits for what is
pub nothing_back : (all : List Edge) (session place : ℕ) (trail : Trail) → length trail.edges ≤ place → Searches all session place trail → back_from trail.session trail.edges ≡ [] → HasNoCycle (Contains all) session
nothing_back all session place trail past so_far none = none_through all session trail.edges (closed all session place trail past so_far) (by_test (is_waiter session trail.edges) refl)
  where
    by_test : (b : Bool) → is_waiter session trail.edges ≡ b → b ≡ false
    by_test true waits = absurd (back_some session trail.edges waits (ap (λ (n : ℕ). back_from n trail.edges) (sym so_far.of_session) ∙ none))
    by_test false waits = refl

-- what comes back is a cycle
something_back : (all : List Edge) (session place : ℕ) (trail : Trail) → IsTrail trail.session trail.edges → Searches all session place trail → back_from trail.session trail.edges ≢ [] → IsCycleAt (Contains all) session (back_from trail.session trail.edges)
something_back all session place trail is so_far some = by_test (is_waiter trail.session trail.edges) refl
  where
    by_test : (b : Bool) → is_waiter trail.session trail.edges ≡ b → IsCycleAt (Contains all) session (back_from trail.session trail.edges)
    by_test true waits = subst (λ (n : ℕ). IsCycleAt (Contains all) n (back_from trail.session trail.edges)) so_far.of_session (back_cycle all trail.session trail.edges is so_far.among waits)
    by_test false none = absurd (some (back_none trail.session trail.edges none))

-- said of the edges that are handed out, if there are any
pub cycle_handed : (all : List Edge) (session place : ℕ) (trail : Trail) (back : List Edge) (handed : Option (Vec Edge)) → IsTrail trail.session trail.edges → Searches all session place trail → back ≡ back_from trail.session trail.edges
    → IfSome handed (λ kept. (kept.items ≡ back) × (back ≢ [])) → IfSome handed (λ cycle. IsCycleAt (Contains all) session cycle.items)
cycle_handed all session place trail back None is so_far same some = some
cycle_handed all session place trail back (Some kept) is so_far same some =
    subst (IsCycleAt (Contains all) session) (sym (some.0 ∙ same)) (something_back all session place trail is so_far (λ none. some.1 (same ∙ none)))

-- a trail is no longer than the edges
pub few : (all : List Edge) (session place : ℕ) (trail : Trail) → IsTrail trail.session trail.edges → Searches all session place trail → length trail.edges ≤ length all
few all session place trail is so_far = trail_few all trail.session trail.edges is so_far.among
