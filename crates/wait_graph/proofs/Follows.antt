-- A trail with the edges of all that wait for a session.
use Rattle.std.proofs.Common.{arith, ◌≡◌, ◌≢◌, inl, inr, ℕ, ◌+◌, ◌<◌, ◌≤◌, ◌==◌, ◌||◌, Bool, true, false, List, [], ◌∷◌, ◌++◌, length, map, get_or, ◌%◌, refl, sym, ap, ◌∙◌, subst, append_assoc, eq-eqb, if◌then◌else◌, below_more}
use Rattle.std.specs.Borrow.{Bor}
use Rattle.std.specs.Global.{Vec}
use Rattle.std.specs.List.{AllByRecursion, Contains}
use Rattle.std.proofs.lemmas.List.{get_or-map, length-map, get_or_default}
use Rattle.std.proofs.lemmas.List.Elements.{All-contains, All-from_recursion}
use Rattle.step_model.specs.declared.edge.Edge.{Edge}
use Rattle.step_model.specs.Cycles.{is_waiter}
use Rattle.wait_graph.specs.Lists.{AreAmong}
use Rattle.wait_graph.specs.Lists.{AreListed, lists, at_list, shown}
use Rattle.wait_graph.proofs.Listed.{list_at}
use Rattle.wait_graph.specs.Trails.{Trail, IsBehind, with_step, Grows, HasWaiters}

-- ---- a trail that has grown

pub grows_none : (trail : Trail) → Grows trail trail
grows_none trail = record { session = refl; more = []; edges = refl }

pub grows_more : (a b c : Trail) → Grows a b → Grows b c → Grows a c
grows_more a b c one two = record {
  session = two.session ∙ one.session;
  more = two.more ++ one.more;
  edges = two.edges ∙ ap (λ (es : List Edge). two.more ++ es) one.edges ∙ sym (append_assoc two.more one.more a.edges);
}

or_true : (a b : Bool) → b ≡ true → (a || b) ≡ true
or_true true b is = refl
or_true false b is = is

waits_behind : (who : ℕ) (more edges : List Edge) → is_waiter who edges ≡ true → is_waiter who (more ++ edges) ≡ true
waits_behind who [] edges waits = waits
waits_behind who (edge ∷ more) edges waits = or_true (who == edge.waiter) (is_waiter who (more ++ edges)) (waits_behind who more edges waits)

pub grows_waits : (who : ℕ) (old new : Trail) → Grows old new → is_waiter who old.edges ≡ true → is_waiter who new.edges ≡ true
grows_waits who old new grows waits = rw grows.edges (waits_behind who grows.more old.edges waits)

pub grows_behind : (who : ℕ) (old new : Trail) → Grows old new → IsBehind who old → IsBehind who new
grows_behind who old new grows (inl same) = inl (same ∙ sym grows.session)
grows_behind who old new grows (inr waits) = inr (grows_waits who old new grows waits)

-- ---- an edge more

step_grows : (edge : Edge) (trail : Trail) → Grows trail (with_step edge trail)
step_grows edge trail = by_test (is_waiter edge.waiter trail.edges)
  where
    by_test : (b : Bool) → Grows trail (if b then trail else record trail { edges = edge ∷ trail.edges })
    by_test true = grows_none trail
    by_test false = record { session = refl; more = edge ∷ []; edges = refl }

step_waits : (edge : Edge) (trail : Trail) → is_waiter edge.waiter (with_step edge trail).edges ≡ true
step_waits edge trail = by_test (is_waiter edge.waiter trail.edges) refl
  where
    by_test : (b : Bool) → is_waiter edge.waiter trail.edges ≡ b → is_waiter edge.waiter (if b then trail else record trail { edges = edge ∷ trail.edges }).edges ≡ true
    by_test true waits = waits
    by_test false none = ap (λ (b : Bool). b || is_waiter edge.waiter trail.edges) (eq-eqb edge.waiter edge.waiter refl)

step_among : (all : List Edge) (edge : Edge) (trail : Trail) → Contains all edge → AreAmong trail.edges all → AreAmong (with_step edge trail).edges all
step_among all edge trail there among = by_test (is_waiter edge.waiter trail.edges)
  where
    by_test : (b : Bool) → AreAmong (if b then trail else record trail { edges = edge ∷ trail.edges }).edges all
    by_test true = among
    by_test false = (there, among)

-- ---- the edges of a list so far

-- the edges up to a place that wait for the session are followed
pub record Follows (items : List (Bor Edge)) (holder place : ℕ) (old new : Trail) : Type 0 where
  pub grows : Grows old new
  pub among : (all : List Edge) → AllByRecursion (Contains all) (map (λ (edge : Bor Edge). edge.now) items) → AreAmong old.edges all → AreAmong new.edges all
  pub waiters : (k : ℕ) (d : Bor Edge) → k < place → (get_or items k d).now.holder ≡ holder → is_waiter (get_or items k d).now.waiter new.edges ≡ true

pub follows_none : (items : List (Bor Edge)) (holder : ℕ) (trail : Trail) → Follows items holder 0 trail trail
follows_none items holder trail = record { grows = grows_none trail; among = λ all given among. among; waiters = λ k d none. absurd (omega (arith, none)) }

contained : (items : List (Bor Edge)) (place : ℕ) (item : Bor Edge) → place < length items → item ≡ get_or items place item → Contains (map (λ (edge : Bor Edge). edge.now) items) item.now
contained items place item below is =
    (place, rw length-map below, get_or-map (λ (edge : Bor Edge). edge.now) items place item item.now below ∙ ap (λ (edge : Bor Edge). edge.now) (sym is))

-- what holds of all holds of the one at a place
pub item_of_all : (P : Edge → Type 0) (items : List (Bor Edge)) (place : ℕ) (item : Bor Edge) → place < length items → item ≡ get_or items place item → AllByRecursion P (map (λ (edge : Bor Edge). edge.now) items) → P item.now
item_of_all P items place item below is all =
    All-contains P (map (λ (edge : Bor Edge). edge.now) items) item.now (All-from_recursion P (map (λ (edge : Bor Edge). edge.now) items) all) (contained items place item below is)

-- one that waits for the session is followed
pub follows_one : (items : List (Bor Edge)) (holder place : ℕ) (item : Bor Edge) (old mid new : Trail) → place < length items → item ≡ get_or items place item → new ≡ with_step item.now mid → Follows items holder place old mid → Follows items holder (place + 1) old new
follows_one items holder place item old mid new below is made so_far = subst (Follows items holder (place + 1) old) (sym made) (record {
  grows = grows_more old mid (with_step item.now mid) so_far.grows (step_grows item.now mid);
  among = λ all given among. step_among all item.now mid (item_of_all (Contains all) items place item below is given) (so_far.among all given among);
  waiters = λ k d less. below_more (λ k. (d : Bor Edge) → (get_or items k d).now.holder ≡ holder → is_waiter (get_or items k d).now.waiter (with_step item.now mid).edges ≡ true) place
      (λ k less d same. grows_waits (get_or items k d).now.waiter mid (with_step item.now mid) (step_grows item.now mid) (so_far.waiters k d less same))
      (λ d same. subst (λ (e : Bor Edge). is_waiter e.now.waiter (with_step item.now mid).edges ≡ true) (is ∙ get_or_default items place item d below) (step_waits item.now mid)) k less d;
})

-- any other is passed
pub follows_other : (items : List (Bor Edge)) (holder place : ℕ) (item : Bor Edge) (old mid : Trail) → place < length items → item ≡ get_or items place item → item.now.holder ≢ holder → Follows items holder place old mid → Follows items holder (place + 1) old mid
follows_other items holder place item old mid below is differs so_far = record {
  grows = so_far.grows;
  among = so_far.among;
  waiters = λ k d less. below_more (λ k. (d : Bor Edge) → (get_or items k d).now.holder ≡ holder → is_waiter (get_or items k d).now.waiter mid.edges ≡ true) place
      (λ k less d same. so_far.waiters k d less same)
      (λ d same. absurd (differs (subst (λ (e : Bor Edge). e.now.holder ≡ holder) (sym (is ∙ get_or_default items place item d below)) same))) k less d;
}

-- then all that wait for it by given edges wait by the trail's
pub followed : (all : List Edge) (made : List (List Edge)) (items : List (Bor Edge)) (holder place : ℕ) (old new : Trail) → AreListed all made → at_list (holder % lists) made ≡ map (λ (edge : Bor Edge). edge.now) items → length items ≤ place
    → Follows items holder place old new → HasWaiters all holder new.edges
followed all made items holder place old new are list past so_far edge there conflicts same =
    by_items items past so_far.waiters (subst (λ (es : List Edge). Contains es edge) list (subst (λ (n : ℕ). Contains (at_list (n % lists) made) edge) same (are.listed edge there conflicts)))
  where
    by_items : (items : List (Bor Edge)) → length items ≤ place → ((k : ℕ) (d : Bor Edge) → k < place → (get_or items k d).now.holder ≡ holder → is_waiter (get_or items k d).now.waiter new.edges ≡ true)
        → Contains (map (λ (edge : Bor Edge). edge.now) items) edge → is_waiter edge.waiter new.edges ≡ true
    by_items [] past waiters found = absurd (omega (arith, found.1))
    by_items (first ∷ items) past waiters found =
        let below : found.0 < length (first ∷ items) = rw length-map at found.1 in
        let is : (get_or (first ∷ items) found.0 first).now ≡ edge = sym (get_or-map (λ (edge : Bor Edge). edge.now) (first ∷ items) found.0 first edge below) ∙ found.2 in
        subst (λ (e : Edge). is_waiter e.waiter new.edges ≡ true) is (waiters found.0 first (omega (arith, below, past)) (ap (λ (e : Edge). e.holder) is ∙ same))

-- the list of a session is the one whose edges are looked at
pub list_looked : (all : List Edge) (waiting : List (Vec (Bor Edge))) (holder place : ℕ) (list : Vec (Bor Edge)) (items : List (Bor Edge)) → AreListed all (shown waiting) → place ≡ holder % lists → place < lists → list ≡ get_or waiting place list → items ≡ list.items
    → at_list (holder % lists) (shown waiting) ≡ map (λ (edge : Bor Edge). edge.now) items
list_looked all waiting holder place list items are at within is same =
    ap (λ (n : ℕ). at_list n (shown waiting)) (sym at) ∙ list_at waiting place list (rw are.count within) is ∙ ap (map (λ (edge : Bor Edge). edge.now)) (sym same)

-- so what holds of all in that list holds of the edge at a place
pub item_of_list : (P : Edge → Type 0) (all : List Edge) (waiting : List (Vec (Bor Edge))) (holder place : ℕ) (list : Vec (Bor Edge)) (items : List (Bor Edge)) (k : ℕ) (item : Bor Edge) → AreListed all (shown waiting) → place ≡ holder % lists → place < lists
    → list ≡ get_or waiting place list → items ≡ list.items → k < length items → item ≡ get_or items k item → ((place : ℕ) → place < lists → AllByRecursion P (at_list place (shown waiting))) → P item.now
item_of_list P all waiting holder place list items k item are at within is same below there each =
    item_of_all P items k item below there (subst (AllByRecursion P) (list_looked all waiting holder place list items are at within is same) (each (holder % lists) (subst (λ (n : ℕ). n < lists) at within)))
