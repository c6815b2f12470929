-- Names of tables, each once.
use Rattle.std.proofs.Common.{◌≡◌, ℕ, ◌+◌, ◌<◌, ◌≤◌, Bool, true, false, List, [], ◌∷◌, ◌++◌, map, length, drop, get_or, refl, ap, sym, ◌∙◌, cond}
use Rattle.std.specs.Prelude.{if◌then◌else◌, ◌||◌}
use Rattle.std.specs.Ordering.{nat_cmp, is_eq}
use Rattle.std.specs.Cmp.Lexicographic.{slice_cmp, texts_ties}
use Rattle.std.specs.BTreeSet.{BTreeSet, contains}
use Rattle.std.proofs.lemmas.List.{at_drop_more, at_drop_all}
use Rattle.std.proofs.lemmas.Slice.Eq.{bytes_eq-Decides}
use Rattle.value_types.specs.Units.{same_units}
use Rattle.table_names.specs.Contents.{Names, all_of, distinct_onto, is_among}
use Rattle.table_names.specs.Seen.{AreSeen}

-- what is noted one behind the other
pub distinct_append : (done a b : List (List ℕ)) → distinct_onto done (a ++ b) ≡ distinct_onto (distinct_onto done a) b
distinct_append done [] b = refl
distinct_append done (name ∷ a) b = distinct_append (if is_among name done then done else done ++ name ∷ []) a b

same_turned : (a b : List ℕ) → same_units a b ≡ same_units b a
same_turned a b = by_test (same_units a b) (same_units b a) refl refl
  where
    by_test : (x y : Bool) → same_units a b ≡ x → same_units b a ≡ y → x ≡ y
    by_test true true e f = refl
    by_test false false e f = refl
    by_test true false e f = sym ((bytes_eq-Decides b a).1 (sym ((bytes_eq-Decides a b).0 e))) ∙ f
    by_test false true e f = sym e ∙ (bytes_eq-Decides a b).1 (sym ((bytes_eq-Decides b a).0 f))

among_push : (q name : List ℕ) (names : List (List ℕ)) → is_among q (names ++ name ∷ []) ≡ (same_units q name || is_among q names)
among_push q name [] = refl
among_push q name (x ∷ names) = ap (λ (b : Bool). same_units q x || b) (among_push q name names) ∙ turned (same_units q x) (same_units q name)
  where
    turned : (a b : Bool) → (a || (b || is_among q names)) ≡ (b || (a || is_among q names))
    turned true true = refl
    turned true false = refl
    turned false true = refl
    turned false false = refl

-- the set with one name more has the list with it
pub seen_more : (old new : BTreeSet (List ℕ)) (name : List ℕ) (names : List (List ℕ)) → AreSeen old names
    → ((q : List ℕ) → contains (slice_cmp nat_cmp) new q ≡ cond (is_eq (slice_cmp nat_cmp name q)) true (contains (slice_cmp nat_cmp) old q))
    → AreSeen new (names ++ name ∷ [])
seen_more old new name names are updates q =
    updates q ∙ by_test (is_eq (slice_cmp nat_cmp name q)) (same_units q name) (sym (texts_ties name q) ∙ same_turned name q) (are q) ∙ sym (among_push q name names)
  where
    by_test : (a b : Bool) → a ≡ b → contains (slice_cmp nat_cmp) old q ≡ is_among q names → cond a true (contains (slice_cmp nat_cmp) old q) ≡ (b || is_among q names)
    by_test true true e f = refl
    by_test false false e f = f
    by_test true false e f = absurd (cc)
    by_test false true e f = absurd (cc)

-- a name that is there, and one that is new
pub noted_again : (name : List ℕ) (names : List (List ℕ)) → is_among name names ≡ true → names ≡ distinct_onto names (name ∷ [])
noted_again name names e = rw e refl

pub noted_new : (name : List ℕ) (names : List (List ℕ)) → is_among name names ≡ false → names ++ name ∷ [] ≡ distinct_onto names (name ∷ [])
noted_new name names e = rw e refl

-- one part more of a list is noted
pub noted_more : {A : Type 0} (f : A → Names) (xs : List A) (i : ℕ) (x : A) (before now whole : Names) → i < length xs → x ≡ get_or xs i x
    → now ≡ distinct_onto before (f x) → distinct_onto before (all_of (map f (drop i xs))) ≡ whole → distinct_onto now (all_of (map f (drop (i + 1) xs))) ≡ whole
noted_more f xs i x before now whole within is noted left =
    let rest = all_of (map f (drop (i + 1) xs)) in
    let more : distinct_onto before (all_of (map f (drop i xs))) ≡ distinct_onto before (f (get_or xs i x) ++ rest)
    = at_drop_more (λ ys. distinct_onto before (all_of (map f ys))) xs i x within in
    ap (λ (n : Names). distinct_onto n rest) noted
    ∙ sym (distinct_append before (f x) rest)
    ∙ ap (λ y. distinct_onto before (f y ++ rest)) is
    ∙ sym more
    ∙ left

-- all parts of a list are noted
pub noted_all : {A : Type 0} (f : A → Names) (xs : List A) (i : ℕ) (now whole : Names) → length xs ≤ i
    → distinct_onto now (all_of (map f (drop i xs))) ≡ whole → now ≡ whole
noted_all f xs i now whole past left =
    let ends : distinct_onto now (all_of (map f (drop i xs))) ≡ now = at_drop_all (λ ys. distinct_onto now (all_of (map f ys))) xs i past in
    sym ends ∙ left
