-- Edges in lists: none in empty ones; one edge more, in its list or left out.
use Rattle.std.proofs.Common.{arith, ◌≡◌, ◌≢◌, ◌⊎◌, inl, inr, ℕ, ◌+◌, ◌<◌, ◌%◌, Bool, true, false, List, [], ◌∷◌, ◌++◌, length, map, take, set, get_or, replicate, refl, sym, ap, ◌∙◌, subst, ◌==◌, eqb-true, eq-eqb, length-set, get_or-set_same, get_or-set_other}
use Rattle.std.specs.List.{AllByRecursion, Contains}
use Rattle.std.proofs.lemmas.List.{get_or-replicate, length-replicate, map-append, map-set, get_or-map, length-map, take_more, replicate-append-replicate}
use Rattle.std.proofs.lemmas.List.Elements.{Contains-append_left, Contains-push, Contains-push_cases}
use Rattle.step_model.specs.declared.edge.Edge.{Edge}
use Rattle.step_model.specs.Cycles.{Conflicts}
use Rattle.wait_graph.specs.Lists.{AreListed, lists, at_list, shown}
use Rattle.std.specs.Borrow.{Bor}
use Rattle.std.specs.Global.{Vec}

-- ---- all of a list

pub all_push : (P : Edge → Type 0) (edges : List Edge) (edge : Edge) → AllByRecursion P edges → P edge → AllByRecursion P (edges ++ edge ∷ [])
all_push P [] edge all here = (here, tt)
all_push P (first ∷ edges) edge all here = (all.0, all_push P edges edge all.1 here)

pub all_weaker : (P Q : Edge → Type 0) → ((edge : Edge) → P edge → Q edge) → (edges : List Edge) → AllByRecursion P edges → AllByRecursion Q edges
all_weaker P Q weaker [] all = tt
all_weaker P Q weaker (edge ∷ edges) all = (weaker edge all.0, all_weaker P Q weaker edges all.1)

-- ---- empty lists

-- nothing stands in them
pub none_listed : (made : List (List Edge)) → made ≡ replicate lists [] → AreListed [] made
none_listed made is = subst (AreListed []) (sym is) (record {
  count = length-replicate {A = List Edge} lists [];
  given = λ place below. subst (AllByRecursion (Contains {X = Edge} [])) (sym (get_or-replicate lists place [] [] below)) tt;
  conflict = λ place below. subst (AllByRecursion Conflicts) (sym (get_or-replicate lists place [] [] below)) tt;
  listed = λ edge none. absurd (omega (arith, none.1));
})

-- ---- one edge more

same_or_not : (a b : ℕ) → (a ≡ b) ⊎ (a ≢ b)
same_or_not a b = by_test (a == b) refl
  where
    by_test : (t : Bool) → (a == b) ≡ t → (a ≡ b) ⊎ (a ≢ b)
    by_test true is = inl (eqb-true a b is)
    by_test false is = inr (λ same. let h : true ≡ false = sym (eq-eqb a b same) ∙ is in cc)

-- it conflicts, and goes into its list
one_listed : (some : List Edge) (edge : Edge) (made : List (List Edge)) (place : ℕ) → Conflicts edge → place ≡ edge.holder % lists → place < lists → AreListed some made
    → AreListed (some ++ edge ∷ []) (set made place (at_list place made ++ edge ∷ []))
one_listed some edge made place conflicts at within are = record {
  count = length-set made place (at_list place made ++ edge ∷ []) ∙ are.count;
  given = λ k below. in_each (λ e. Contains (some ++ edge ∷ []) e) k (all_weaker (Contains some) (Contains (some ++ edge ∷ [])) (λ e there. Contains-append_left some (edge ∷ []) e there) (at_list k made) (are.given k below)) (Contains-push some edge);
  conflict = λ k below. in_each Conflicts k (are.conflict k below) conflicts;
  listed = λ e there conflict. by_edge e conflict (Contains-push_cases some edge e there);
}
  where
    new : List (List Edge)
    new = set made place (at_list place made ++ edge ∷ [])

    inside : place < length made
    inside = rw are.count within

    here : at_list place (set made place (at_list place made ++ edge ∷ [])) ≡ at_list place made ++ edge ∷ []
    here = get_or-set_same made place (at_list place made ++ edge ∷ []) [] inside

    elsewhere : (k : ℕ) → k ≢ place → at_list k (set made place (at_list place made ++ edge ∷ [])) ≡ at_list k made
    elsewhere k differ = get_or-set_other made place k (at_list place made ++ edge ∷ []) [] differ

    in_each : (P : Edge → Type 0) (k : ℕ) → AllByRecursion P (at_list k made) → P edge → AllByRecursion P (at_list k (set made place (at_list place made ++ edge ∷ [])))
    in_each P k all last = by_place (same_or_not k place)
      where
        by_place : (k ≡ place) ⊎ (k ≢ place) → AllByRecursion P (at_list k (set made place (at_list place made ++ edge ∷ [])))
        by_place (inl same) = subst (λ (n : ℕ). AllByRecursion P (at_list n (set made place (at_list place made ++ edge ∷ [])))) (sym same) (subst (AllByRecursion P) (sym here) (all_push P (at_list place made) edge (subst (λ (n : ℕ). AllByRecursion P (at_list n made)) same all) last))
        by_place (inr differ) = subst (AllByRecursion P) (sym (elsewhere k differ)) all

    kept : (e : Edge) (k : ℕ) → Contains (at_list k made) e → Contains (at_list k (set made place (at_list place made ++ edge ∷ []))) e
    kept e k there = by_place (same_or_not k place)
      where
        by_place : (k ≡ place) ⊎ (k ≢ place) → Contains (at_list k (set made place (at_list place made ++ edge ∷ []))) e
        by_place (inl same) = subst (λ (n : ℕ). Contains (at_list n (set made place (at_list place made ++ edge ∷ []))) e) (sym same)
            (subst (λ (es : List Edge). Contains es e) (sym here) (Contains-append_left (at_list place made) (edge ∷ []) e (subst (λ (n : ℕ). Contains (at_list n made) e) same there)))
        by_place (inr differ) = subst (λ (es : List Edge). Contains es e) (sym (elsewhere k differ)) there

    by_edge : (e : Edge) → Conflicts e → Contains some e ⊎ (edge ≡ e) → Contains (at_list (e.holder % lists) (set made place (at_list place made ++ edge ∷ []))) e
    by_edge e conflict (inl there) = kept e (e.holder % lists) (are.listed e there conflict)
    by_edge e conflict (inr same) =
        subst (λ (x : Edge). Contains (at_list (x.holder % lists) (set made place (at_list place made ++ edge ∷ []))) x) same
        (subst (λ (n : ℕ). Contains (at_list n (set made place (at_list place made ++ edge ∷ []))) edge) at (subst (λ (es : List Edge). Contains es edge) (sym here) (Contains-push (at_list place made) edge)))

-- it does not conflict, and is left out
one_passed : (some : List Edge) (edge : Edge) (made : List (List Edge)) → (Conflicts edge → ⊥) → AreListed some made → AreListed (some ++ edge ∷ []) made
one_passed some edge made none are = record {
  count = are.count;
  given = λ k below. all_weaker (Contains some) (Contains (some ++ edge ∷ [])) (λ e there. Contains-append_left some (edge ∷ []) e there) (at_list k made) (are.given k below);
  conflict = are.conflict;
  listed = λ e there conflict. by_edge e conflict (Contains-push_cases some edge e there);
}
  where
    by_edge : (e : Edge) → Conflicts e → Contains some e ⊎ (edge ≡ e) → Contains (at_list (e.holder % lists) made) e
    by_edge e conflict (inl there) = are.listed e there conflict
    by_edge e conflict (inr same) = absurd (none (subst Conflicts (sym same) conflict))

-- ---- the edge at a place behind those before it

next_at : (edges : List Edge) (i : ℕ) (edge : Edge) → i < length edges → edge ≡ get_or edges i edge → take (i + 1) edges ≡ take i edges ++ edge ∷ []
next_at edges i edge below is = take_more edges i edge below ∙ ap (λ (e : Edge). take i edges ++ e ∷ []) (sym is)

pub next_listed : (edges : List Edge) (i : ℕ) (edge : Edge) (made : List (List Edge)) (place : ℕ) → i < length edges → edge ≡ get_or edges i edge → Conflicts edge → place ≡ edge.holder % lists → place < lists → AreListed (take i edges) made
    → AreListed (take (i + 1) edges) (set made place (at_list place made ++ edge ∷ []))
next_listed edges i edge made place below is conflicts at within are =
    subst (λ (es : List Edge). AreListed es (set made place (at_list place made ++ edge ∷ []))) (sym (next_at edges i edge below is)) (one_listed (take i edges) edge made place conflicts at within are)

pub next_passed : (edges : List Edge) (i : ℕ) (edge : Edge) (made : List (List Edge)) → i < length edges → edge ≡ get_or edges i edge → (Conflicts edge → ⊥) → AreListed (take i edges) made → AreListed (take (i + 1) edges) made
next_passed edges i edge made below is none are = subst (λ (es : List Edge). AreListed es made) (sym (next_at edges i edge below is)) (one_passed (take i edges) edge made none are)

-- ---- as they are kept

-- the list at a place
pub list_at : (items : List (Vec (Bor Edge))) (place : ℕ) (list : Vec (Bor Edge)) → place < length (shown items) → list ≡ get_or items place list → at_list place (shown items) ≡ map (λ (edge : Bor Edge). edge.now) list.items
list_at items place list within at =
    get_or-map (λ (list : Vec (Bor Edge)). map (λ (edge : Bor Edge). edge.now) list.items) items place list [] (rw length-map at within) ∙ ap (λ (list : Vec (Bor Edge)). map (λ (edge : Bor Edge). edge.now) list.items) (sym at)

-- an edge more in the list at a place
pub shown_push : (items : List (Vec (Bor Edge))) (place : ℕ) (list new : Vec (Bor Edge)) (edge : Bor Edge) → place < length (shown items) → list ≡ get_or items place list → new.items ≡ list.items ++ edge ∷ []
    → shown (set items place new) ≡ set (shown items) place (at_list place (shown items) ++ edge.now ∷ [])
shown_push items place list new edge within at pushed =
    map-set (λ (list : Vec (Bor Edge)). map (λ (edge : Bor Edge). edge.now) list.items) items place new ∙ ap (λ (es : List Edge). set (shown items) place es) (
    ap (map (λ (edge : Bor Edge). edge.now)) pushed ∙ map-append (λ (edge : Bor Edge). edge.now) list.items (edge ∷ []) ∙ ap (λ (es : List Edge). es ++ edge.now ∷ []) (sym (list_at items place list within at)))

-- one list more, an empty one
pub shown_more : (items : List (Vec (Bor Edge))) (n : ℕ) (list : Vec (Bor Edge)) → shown items ≡ replicate n [] → list.items ≡ [] → shown (items ++ list ∷ []) ≡ replicate (n + 1) []
shown_more items n list is none =
    map-append (λ (list : Vec (Bor Edge)). map (λ (edge : Bor Edge). edge.now) list.items) items (list ∷ []) ∙ ap (λ (ls : List (List Edge)). ls ++ map (λ (edge : Bor Edge). edge.now) list.items ∷ []) is
    ∙ ap (λ (es : List (Bor Edge)). replicate n [] ++ map (λ (edge : Bor Edge). edge.now) es ∷ []) none ∙ replicate-append-replicate n 1 []
