-- Equals in a list: what one more at the end changes.
use Rattle.std.proofs.Common.{◌≡◌, ℕ, suc, ◌+◌, ◌<◌, Bool, true, false, not, ◌||◌, cond, List, [], ◌∷◌, ◌++◌, length, map, set, get_or, take, Option, Some, None, option_map, refl, sym, ◌∙◌, ap, subst, arith, append-nil, length-append}
use Rattle.std.specs.Cmp.{IsEquivalence, eq_by_cmp_equiv, on_total}
use Rattle.std.specs.Global.{Vec}
use Rattle.std.specs.List.{filter, items_where_true, list_any, zip, AllByRecursion}
use Rattle.std.proofs.lemmas.List.{get_or-map, length-map, length-take-le, map-set, map_push, take_more}
use Rattle.std.proofs.lemmas.List.Elements.{filter-append}
use Rattle.value_types.specs.declared.value.Value.{Value}
use Rattle.value_types.specs.OrderLaws.{key_cmp_total}
use Rattle.group_rows.specs.declared.keyed.Keyed.{Keyed}
use Rattle.group_rows.specs.Equals.{same_row, firsts, places_from, classes}

module _ {X : Type 0} (same : X → X → Bool) (laws : IsEquivalence same) where
  -- ---- one more

  abbrev unless : Bool → X → List X
  unless true y = []
  unless false y = y ∷ []

  filter-unless : (s b : Bool) (p : X → Bool) (y : X) → p y ≡ not s → filter p (unless b y) ≡ unless (s || b) y
  filter-unless true true p y is = refl
  filter-unless false true p y is = refl
  filter-unless true false p y is = ap (λ t. cond t (y ∷ []) []) is
  filter-unless false false p y is = ap (λ t. cond t (y ∷ []) []) is

  pub firsts-push : (xs : List X) (y : X) → firsts same (xs ++ y ∷ []) ≡ firsts same xs ++ unless (list_any (same y) xs) y
  firsts-push [] y = refl
  firsts-push (x ∷ xs) y =
      ap (λ l. x ∷ filter (λ other. not (same x other)) l) (firsts-push xs y)
      ∙ ap (λ l. x ∷ l) (filter-append (λ other. not (same x other)) (firsts same xs) (unless (list_any (same y) xs) y))
      ∙ ap (λ l. x ∷ (filter (λ other. not (same x other)) (firsts same xs) ++ l)) (filter-unless (same y x) (list_any (same y) xs) (λ other. not (same x other)) y (ap not (laws.symm x y)))

  -- ---- what is among the firsts

  or-same : (a b c : Bool) → (a ≡ false → b ≡ c) → a || b ≡ a || c
  or-same true b c h = refl
  or-same false b c h = h refl

  -- dropping the equals of one to which it is not equal
  any-kept : (k x : X) → same k x ≡ false → (xs : List X) → list_any (same k) (filter (λ other. not (same x other)) xs) ≡ list_any (same k) xs
  any-kept k x apart [] = refl
  any-kept k x apart (y ∷ ys) =
      let rest = any-kept k x apart ys in
      elim (same x y) as (λ s. same x y ≡ s → list_any (same k) (cond (not s) (y ∷ filter (λ other. not (same x other)) ys) (filter (λ other. not (same x other)) ys)) ≡ same k y || list_any (same k) ys) [
        | true ↦ λ is. rest ∙ ap (λ t. t || list_any (same k) ys) (sym apart ∙ laws.symm k x ∙ laws.congr x y k is ∙ laws.symm y k)
        | false ↦ λ is. ap (λ t. same k y || t) rest
      ] refl

  pub any-firsts : (k : X) (xs : List X) → list_any (same k) (firsts same xs) ≡ list_any (same k) xs
  any-firsts k [] = refl
  any-firsts k (x ∷ xs) = or-same (same k x) _ _ (λ apart. any-kept k x apart (firsts same xs) ∙ any-firsts k xs)

  -- ---- one more behind some, and behind others that have the same firsts

  pub firsts-again : (xs : List X) (y : X) → list_any (same y) xs ≡ true → firsts same xs ≡ firsts same (xs ++ y ∷ [])
  firsts-again xs y again = sym (firsts-push xs y ∙ ap (λ b. firsts same xs ++ unless b y) again ∙ append-nil (firsts same xs))

  pub firsts-more : (xs ys : List X) (y : X) → firsts same xs ≡ firsts same ys → firsts same (xs ++ y ∷ []) ≡ firsts same (ys ++ y ∷ [])
  firsts-more xs ys y alike =
      firsts-push xs y
      ∙ ap (λ l. l ++ unless (list_any (same y) xs) y) alike
      ∙ ap (λ b. firsts same ys ++ unless b y) (sym (any-firsts y xs) ∙ ap (list_any (same y)) alike ∙ any-firsts y ys)
      ∙ sym (firsts-push ys y)

  -- ---- no two of them are equal

  abbrev pub Apart : List X → Type 0
  Apart [] = Unit {0}
  Apart (x ∷ xs) = AllByRecursion (λ y. same x y ≡ false) xs × Apart xs

  passes : (x : X) (xs : List X) → AllByRecursion (λ y. same x y ≡ false) (filter (λ other. not (same x other)) xs)
  passes x [] = tt
  passes x (y ∷ ys) =
      elim (same x y) as (λ s. same x y ≡ s → AllByRecursion (λ z. same x z ≡ false) (cond (not s) (y ∷ filter (λ other. not (same x other)) ys) (filter (λ other. not (same x other)) ys))) [
        | true ↦ λ is. passes x ys
        | false ↦ λ is. (is, passes x ys)
      ] refl

  all-kept : (P : X → Type 0) (p : X → Bool) (xs : List X) → AllByRecursion P xs → AllByRecursion P (filter p xs)
  all-kept P p [] all = tt
  all-kept P p (y ∷ ys) all =
      elim (p y) as (λ s. AllByRecursion P (cond s (y ∷ filter p ys) (filter p ys))) [
        | true ↦ (all.0, all-kept P p ys all.1)
        | false ↦ all-kept P p ys all.1
      ]

  apart-kept : (p : X → Bool) (xs : List X) → Apart xs → Apart (filter p xs)
  apart-kept p [] apart = tt
  apart-kept p (y ∷ ys) apart =
      elim (p y) as (λ s. Apart (cond s (y ∷ filter p ys) (filter p ys))) [
        | true ↦ (all-kept (λ z. same y z ≡ false) p ys apart.0, apart-kept p ys apart.1)
        | false ↦ apart-kept p ys apart.1
      ]

  pub apart-firsts : (xs : List X) → Apart (firsts same xs)
  apart-firsts [] = tt
  apart-firsts (x ∷ xs) = (passes x (firsts same xs), apart-kept (λ other. not (same x other)) (firsts same xs) (apart-firsts xs))

  -- ---- the place of an equal

  abbrev pub place_of : X → List X → Option ℕ
  place_of k [] = None
  place_of k (x ∷ xs) = cond (same k x) (Some 0) (option_map suc (place_of k xs))

  -- ---- places

  abbrev pub place_if : Bool → ℕ → List ℕ
  place_if true place = place ∷ []
  place_if false place = []

  pub places-push : (from : ℕ) (x : X) (xs : List X) (y : X) → places_from same from x (xs ++ y ∷ []) ≡ places_from same from x xs ++ place_if (same x y) (from + length xs)
  places-push from x [] y =
      elim (same x y) as (λ s. cond s (from ∷ []) [] ≡ place_if s (from + 0)) [ true ↦ ap (λ n. n ∷ []) (omega arith) | false ↦ refl ]
  places-push from x (z ∷ zs) y =
      let rest = places-push (from + 1) x zs y ∙ ap (λ n. places_from same (from + 1) x zs ++ place_if (same x y) n) (omega arith) in
      elim (same x z) as (λ s. cond s (from ∷ places_from same (from + 1) x (zs ++ y ∷ [])) (places_from same (from + 1) x (zs ++ y ∷ [])) ≡ cond s (from ∷ places_from same (from + 1) x zs) (places_from same (from + 1) x zs) ++ place_if (same x y) (from + length (z ∷ zs))) [
        | true ↦ ap (λ l. from ∷ l) rest
        | false ↦ rest
      ]

  pub places-none : (from : ℕ) (x : X) (xs : List X) → list_any (same x) xs ≡ false → places_from same from x xs ≡ []
  places-none from x [] none = refl
  places-none from x (y ∷ ys) none =
      elim (same x y) as (λ s. s || list_any (same x) ys ≡ false → cond s (from ∷ places_from same (from + 1) x ys) (places_from same (from + 1) x ys) ≡ []) [
        | true ↦ λ is. absurd (cc)
        | false ↦ λ is. places-none (from + 1) x ys is
      ] none

  -- ---- a class that grows, and a class that is new

  place-below : (k : X) (xs : List X) (n : ℕ) → place_of k xs ≡ Some n → n < length xs
  place-below k [] n is = absurd (cc)
  place-below k (x ∷ xs) n is =
      elim (same k x) as (λ s. cond s (Some 0) (option_map suc (place_of k xs)) ≡ Some n → n < length (x ∷ xs)) [
        | true ↦ λ at. let zero_is : 0 ≡ n = cc in omega arith
        | false ↦ λ at. elim (place_of k xs) as (λ o. place_of k xs ≡ o → option_map suc o ≡ Some n → n < length (x ∷ xs)) [
          | None ↦ λ o i. absurd (cc)
          | Some m ↦ λ o i. let next : suc m ≡ n = cc in let below = place-below k xs m o in omega arith
        ] refl at
      ] is

  -- those that are not equal to it keep their classes
  map-apart : (g h : X → List ℕ) (k : X) (place : ℕ) → ((x : X) → h x ≡ g x ++ place_if (same x k) place) → (xs : List X) → AllByRecursion (λ y. same y k ≡ false) xs → map h xs ≡ map g xs
  map-apart g h k place grows [] apart = refl
  map-apart g h k place grows (x ∷ xs) apart =
      let here : h x ≡ g x = grows x ∙ ap (λ s. g x ++ place_if s place) apart.0 ∙ append-nil (g x) in
      cc (here, map-apart g h k place grows xs apart.1)

  equals-apart : (k x : X) → same k x ≡ true → (xs : List X) → AllByRecursion (λ y. same x y ≡ false) xs → AllByRecursion (λ y. same y k ≡ false) xs
  equals-apart k x is [] apart = tt
  equals-apart k x is (y ∷ ys) apart = (laws.symm y k ∙ laws.congr k x y is ∙ apart.0, equals-apart k x is ys apart.1)

  grown : (g h : X → List ℕ) (k : X) (place : ℕ) → ((x : X) → h x ≡ g x ++ place_if (same x k) place) → (xs : List X) → Apart xs → (n : ℕ) → place_of k xs ≡ Some n → map h xs ≡ set (map g xs) n (get_or (map g xs) n [] ++ place ∷ [])
  grown g h k place grows [] apart n is = absurd (cc)
  grown g h k place grows (x ∷ xs) apart n is =
      elim (same k x) as (λ s. same k x ≡ s → cond s (Some 0) (option_map suc (place_of k xs)) ≡ Some n → map h (x ∷ xs) ≡ set (map g (x ∷ xs)) n (get_or (map g (x ∷ xs)) n [] ++ place ∷ [])) [
        | true ↦ λ eq at.
            let here : h x ≡ g x ++ place ∷ [] = grows x ∙ ap (λ s. g x ++ place_if s place) (laws.symm x k ∙ eq) in
            let rest : map h xs ≡ map g xs = map-apart g h k place grows xs (equals-apart k x eq xs apart.0) in
            let zero_is : 0 ≡ n = cc in
            subst (λ m. map h (x ∷ xs) ≡ set (map g (x ∷ xs)) m (get_or (map g (x ∷ xs)) m [] ++ place ∷ [])) zero_is (cc (here, rest))
        | false ↦ λ eq at.
            elim (place_of k xs) as (λ o. place_of k xs ≡ o → option_map suc o ≡ Some n → map h (x ∷ xs) ≡ set (map g (x ∷ xs)) n (get_or (map g (x ∷ xs)) n [] ++ place ∷ [])) [
              | None ↦ λ o i. absurd (cc)
              | Some m ↦ λ o i.
                  let next : suc m ≡ n = cc in
                  let here : h x ≡ g x = grows x ∙ ap (λ s. g x ++ place_if s place) (laws.symm x k ∙ eq) ∙ append-nil (g x) in
                  let rest = grown g h k place grows xs apart.1 m o in
                  subst (λ j. map h (x ∷ xs) ≡ set (map g (x ∷ xs)) j (get_or (map g (x ∷ xs)) j [] ++ place ∷ [])) next (cc (here, rest))
            ] refl at
      ] refl is

  none-any : (k : X) (xs : List X) → place_of k xs ≡ None → list_any (same k) xs ≡ false
  none-any k [] is = refl
  none-any k (x ∷ xs) is =
      elim (same k x) as (λ s. cond s (Some 0) (option_map suc (place_of k xs)) ≡ None → s || list_any (same k) xs ≡ false) [
        | true ↦ λ at. absurd (cc)
        | false ↦ λ at. elim (place_of k xs) as (λ o. place_of k xs ≡ o → option_map suc o ≡ None → list_any (same k) xs ≡ false) [
          | None ↦ λ o i. none-any k xs o
          | Some m ↦ λ o i. absurd (cc)
        ] refl at
      ] is

  any-apart : (k : X) (xs : List X) → list_any (same k) xs ≡ false → AllByRecursion (λ y. same y k ≡ false) xs
  any-apart k [] none = tt
  any-apart k (x ∷ xs) none =
      elim (same k x) as (λ s. same k x ≡ s → s || list_any (same k) xs ≡ false → AllByRecursion (λ y. same y k ≡ false) (x ∷ xs)) [
        | true ↦ λ eq is. absurd (cc)
        | false ↦ λ eq is. (laws.symm x k ∙ eq, any-apart k xs is)
      ] refl none

  some-any : (k : X) (xs : List X) (n : ℕ) → place_of k xs ≡ Some n → list_any (same k) xs ≡ true
  some-any k [] n is = absurd (cc)
  some-any k (x ∷ xs) n is =
      elim (same k x) as (λ s. cond s (Some 0) (option_map suc (place_of k xs)) ≡ Some n → s || list_any (same k) xs ≡ true) [
        | true ↦ λ at. refl
        | false ↦ λ at. elim (place_of k xs) as (λ o. place_of k xs ≡ o → option_map suc o ≡ Some n → list_any (same k) xs ≡ true) [
          | None ↦ λ o i. absurd (cc)
          | Some m ↦ λ o i. some-any k xs m o
        ] refl at
      ] is

  -- one more behind the others is found there, by what equals it and none of them
  place-new : (q k : X) (xs : List X) → list_any (same q) xs ≡ false → same q k ≡ true → place_of q (xs ++ k ∷ []) ≡ Some (length xs)
  place-new q k [] none is = ap (λ s. cond s (Some 0) None) is
  place-new q k (x ∷ xs) none is =
      elim (same q x) as (λ s. s || list_any (same q) xs ≡ false → cond s (Some 0) (option_map suc (place_of q (xs ++ k ∷ []))) ≡ Some (suc (length xs))) [
        | true ↦ λ at. absurd (cc)
        | false ↦ λ at. ap (option_map suc) (place-new q k xs at is)
      ] none

  place-old : (q k : X) (xs : List X) → same q k ≡ false → place_of q (xs ++ k ∷ []) ≡ place_of q xs
  place-old q k [] is = ap (λ s. cond s (Some 0) None) is
  place-old q k (x ∷ xs) is = ap (λ o. cond (same q x) (Some 0) (option_map suc o)) (place-old q k xs is)

  any-alike : (q k : X) (xs : List X) → same q k ≡ true → list_any (same q) xs ≡ list_any (same k) xs
  any-alike q k [] is = refl
  any-alike q k (x ∷ xs) is = cc (laws.congr q k x is, any-alike q k xs is)

  pub place-push : (q k : X) (xs : List X) → list_any (same k) xs ≡ false → place_of q (xs ++ k ∷ []) ≡ cond (same k q) (Some (length xs)) (place_of q xs)
  place-push q k xs none =
      elim (same k q) as (λ s. same k q ≡ s → place_of q (xs ++ k ∷ []) ≡ cond s (Some (length xs)) (place_of q xs)) [
        | true ↦ λ is. place-new q k xs (any-alike q k xs (laws.symm q k ∙ is) ∙ none) (laws.symm q k ∙ is)
        | false ↦ λ is. place-old q k xs (laws.symm q k ∙ is)
      ] refl

  -- ---- the classes so far, and where the class of each is found

  pub record Gathered {Q : Type 0} (view : Q → X) (xs : List X) (found : List (List ℕ)) (find : Q → Option ℕ) : Type 0 where
    pub classes_are : found ≡ classes same xs
    pub finds : (q : Q) → find q ≡ place_of (view q) (firsts same xs)

  length-classes : (xs : List X) → length (classes same xs) ≡ length (firsts same xs)
  length-classes xs = length-map (firsts same xs) (λ x. places_from same 0 x xs)

  pub Gathered-below : {Q : Type 0} (view : Q → X) (xs : List X) (found : List (List ℕ)) (find : Q → Option ℕ) (key : Q) (n : ℕ) → Gathered view xs found find → find key ≡ Some n → n < length found
  Gathered-below view xs found find key n so_far at =
      let below = place-below (view key) (firsts same xs) n (sym (so_far.finds key) ∙ at) in
      let long = ap length so_far.classes_are ∙ length-classes xs in
      omega arith

  -- one more, of a class that is there
  pub Gathered-old : {Q : Type 0} (view : Q → X) (xs : List X) (found : List (List ℕ)) (find : Q → Option ℕ) (key : Q) (n : ℕ) → Gathered view xs found find → find key ≡ Some n → Gathered view (xs ++ view key ∷ []) (set found n (get_or found n [] ++ length xs ∷ [])) find
  Gathered-old view xs found find key n so_far at =
      let k = view key in
      let here : place_of k (firsts same xs) ≡ Some n = sym (so_far.finds key) ∙ at in
      let some : list_any (same k) xs ≡ true = sym (any-firsts k xs) ∙ some-any k (firsts same xs) n here in
      let firsts_are : firsts same (xs ++ k ∷ []) ≡ firsts same xs = firsts-push xs k ∙ ap (λ b. firsts same xs ++ unless b k) some ∙ append-nil (firsts same xs) in
      record {
        classes_are = ap (λ l. set l n (get_or l n [] ++ length xs ∷ [])) so_far.classes_are
            ∙ sym (grown (λ x. places_from same 0 x xs) (λ x. places_from same 0 x (xs ++ k ∷ [])) k (length xs) (λ x. places-push 0 x xs k ∙ ap (λ m. places_from same 0 x xs ++ place_if (same x k) m) (omega arith)) (firsts same xs) (apart-firsts xs) n here)
            ∙ ap (λ l. map (λ x. places_from same 0 x (xs ++ k ∷ [])) l) (sym firsts_are);
        finds = λ q. so_far.finds q ∙ ap (place_of (view q)) (sym firsts_are);
      }

  -- one more, of a class that is new
  pub Gathered-new : {Q : Type 0} (view : Q → X) (xs : List X) (found : List (List ℕ)) (find later : Q → Option ℕ) (key : Q) → Gathered view xs found find → find key ≡ None → ((q : Q) → later q ≡ cond (same (view key) (view q)) (Some (length found)) (find q)) → Gathered view (xs ++ view key ∷ []) (found ++ (length xs ∷ []) ∷ []) later
  Gathered-new view xs found find later key so_far at adds =
      let k = view key in
      let none : list_any (same k) (firsts same xs) ≡ false = none-any k (firsts same xs) (sym (so_far.finds key) ∙ at) in
      let none_before : list_any (same k) xs ≡ false = sym (any-firsts k xs) ∙ none in
      let firsts_are : firsts same (xs ++ k ∷ []) ≡ firsts same xs ++ k ∷ [] = firsts-push xs k ∙ ap (λ b. firsts same xs ++ unless b k) none_before in
      let grows : (x : X) → places_from same 0 x (xs ++ k ∷ []) ≡ places_from same 0 x xs ++ place_if (same x k) (length xs) = λ x. places-push 0 x xs k ∙ ap (λ m. places_from same 0 x xs ++ place_if (same x k) m) (omega arith) in
      let own : places_from same 0 k (xs ++ k ∷ []) ≡ length xs ∷ [] = grows k ∙ ap (λ l. l ++ place_if (same k k) (length xs)) (places-none 0 k xs none_before) ∙ ap (λ s. place_if s (length xs)) (laws.refl k) in
      record {
        classes_are =
            ap (λ l. l ++ (length xs ∷ []) ∷ []) (so_far.classes_are ∙ sym (map-apart (λ x. places_from same 0 x xs) (λ x. places_from same 0 x (xs ++ k ∷ [])) k (length xs) grows (firsts same xs) (any-apart k (firsts same xs) none)))
            ∙ ap (λ p. map (λ x. places_from same 0 x (xs ++ k ∷ [])) (firsts same xs) ++ p ∷ []) (sym own)
            ∙ sym (map_push (λ x. places_from same 0 x (xs ++ k ∷ [])) (firsts same xs) k)
            ∙ ap (λ l. map (λ x. places_from same 0 x (xs ++ k ∷ [])) l) (sym firsts_are);
        finds = λ q. adds q ∙ ap (λ o. cond (same k (view q)) (Some (length found)) o) (so_far.finds q)
            ∙ ap (λ m. cond (same k (view q)) (Some m) (place_of (view q) (firsts same xs))) (ap length so_far.classes_are ∙ length-classes xs)
            ∙ sym (place-push (view q) k (firsts same xs) none)
            ∙ ap (place_of (view q)) (sym firsts_are);
      }

  -- ---- the firsts so far, and which were seen

  pub record Kept {Q : Type 0} (view : Q → X) (xs : List X) (flags : List Bool) (seen : Q → Bool) : Type 0 where
    pub long : length flags ≡ length xs
    pub firsts_are : items_where_true flags xs ≡ firsts same xs
    pub sees : (q : Q) → seen q ≡ list_any (same (view q)) xs

  pub Kept-none : {Q : Type 0} (view : Q → X) (seen : Q → Bool) → ((q : Q) → seen q ≡ false) → Kept view [] [] seen
  Kept-none view seen none = record { long = refl; firsts_are = refl; sees = none }

  where_true-push : (flags : List Bool) (xs : List X) (b : Bool) (x : X) → length flags ≡ length xs → items_where_true (flags ++ not b ∷ []) (xs ++ x ∷ []) ≡ items_where_true flags xs ++ unless b x
  where_true-push [] [] true x long = refl
  where_true-push [] [] false x long = refl
  where_true-push [] (y ∷ ys) b x long = absurd (omega arith)
  where_true-push (f ∷ flags) [] b x long = absurd (omega arith)
  where_true-push (true ∷ flags) (y ∷ ys) b x long = ap (λ l. y ∷ l) (where_true-push flags ys b x (omega arith))
  where_true-push (false ∷ flags) (y ∷ ys) b x long = where_true-push flags ys b x (omega arith)

  any-push : (q k : X) (xs : List X) → list_any (same q) (xs ++ k ∷ []) ≡ cond (same q k) true (list_any (same q) xs)
  any-push q k [] = elim (same q k) as (λ s. s || false ≡ cond s true false) [ true ↦ refl | false ↦ refl ]
  any-push q k (x ∷ xs) =
      ap (λ t. same q x || t) (any-push q k xs)
      ∙ (elim (same q x) as (λ s. s || cond (same q k) true (list_any (same q) xs) ≡ cond (same q k) true (s || list_any (same q) xs)) [
        | true ↦ (elim (same q k) as (λ s. true ≡ cond s true true) [ true ↦ refl | false ↦ refl ])
        | false ↦ refl
      ])

  any-told : (s t : X → Bool) → ((x : X) → s x ≡ t x) → (xs : List X) → list_any s xs ≡ list_any t xs
  any-told s t says [] = refl
  any-told s t says (x ∷ xs) = ap (λ b. b || list_any s xs) (says x) ∙ ap (λ b. t x || b) (any-told s t says xs)

  -- one more, that is compared as the key is
  pub Kept-alike : {Q : Type 0} (view : Q → X) (xs : List X) (flags : List Bool) (seen later : Q → Bool) (key : Q) (k : X) (added : Bool) → ((x : X) → same k x ≡ same (view key) x) → Kept view xs flags seen → added ≡ not (seen key) → ((q : Q) → later q ≡ cond (same (view key) (view q)) true (seen q)) → Kept view (xs ++ k ∷ []) (flags ++ added ∷ []) later
  Kept-alike view xs flags seen later key k added alike so_far adds changes = record {
    long = length-append flags (added ∷ []) ∙ ap (λ n. n + 1) so_far.long ∙ sym (length-append xs (k ∷ []));
    firsts_are = ap (λ b. items_where_true (flags ++ b ∷ []) (xs ++ k ∷ [])) (adds ∙ ap not (so_far.sees key ∙ sym (any-told (same k) (same (view key)) alike xs)))
        ∙ where_true-push flags xs (list_any (same k) xs) k so_far.long
        ∙ ap (λ l. l ++ unless (list_any (same k) xs) k) so_far.firsts_are
        ∙ sym (firsts-push xs k);
    sees = λ q. changes q
        ∙ ap (λ t. cond (same (view key) (view q)) true t) (so_far.sees q)
        ∙ ap (λ s. cond s true (list_any (same (view q)) xs)) (sym (alike (view q)) ∙ laws.symm k (view q))
        ∙ sym (any-push (view q) k xs);
  }

  pub Kept-more : {Q : Type 0} (view : Q → X) (xs : List X) (flags : List Bool) (seen later : Q → Bool) (key : Q) (added : Bool) → Kept view xs flags seen → added ≡ not (seen key) → ((q : Q) → later q ≡ cond (same (view key) (view q)) true (seen q)) → Kept view (xs ++ view key ∷ []) (flags ++ added ∷ []) later
  Kept-more view xs flags seen later key added so_far adds changes = Kept-alike view xs flags seen later key (view key) added (λ x. refl) so_far adds changes

-- ---- rows

pub same_row_laws : IsEquivalence same_row
same_row_laws = eq_by_cmp_equiv key_cmp_total

-- the row of a key of the map
abbrev pub row_of : Keyed → List Value
row_of key = key.row.now

-- ---- at the next place of a list

next_row : (rows : List (List Value)) (i : ℕ) (row : List Value) (key : Keyed) → i < length rows → row ≡ get_or rows i row → row_of key ≡ row → take (i + 1) rows ≡ take i rows ++ row_of key ∷ []
next_row rows i row key below is of = take_more rows i row below ∙ ap (λ r. take i rows ++ r ∷ []) (sym is ∙ sym of)

pub Kept-next : (rows : List (List Value)) (i : ℕ) (row : List Value) (flags : List Bool) (seen later : Keyed → Bool) (key : Keyed) (added : Bool) → i < length rows → row ≡ get_or rows i row → row_of key ≡ row → Kept same_row same_row_laws row_of (take i rows) flags seen → added ≡ not (seen key) → ((q : Keyed) → later q ≡ cond (same_row (row_of key) (row_of q)) true (seen q)) → Kept same_row same_row_laws row_of (take (i + 1) rows) (flags ++ added ∷ []) later
Kept-next rows i row flags seen later key added below is of so_far adds changes =
    subst (λ l. Kept same_row same_row_laws row_of l (flags ++ added ∷ []) later) (sym (next_row rows i row key below is of))
    (Kept-more same_row same_row_laws row_of (take i rows) flags seen later key added so_far adds changes)

-- the second row of a pair tells pairs apart
abbrev pub same_second : List Value × List Value → List Value × List Value → Bool
same_second a b = same_row a.1 b.1

pub same_second_laws : IsEquivalence same_second
same_second_laws = eq_by_cmp_equiv (on_total (λ (pair : List Value × List Value). pair.1) key_cmp_total)

abbrev pub pair_of : Keyed → List Value × List Value
pair_of key = ([], row_of key)

pub Kept-next_pair : (pairs : List (List Value × List Value)) (i : ℕ) (pair : List Value × List Value) (flags : List Bool) (seen later : Keyed → Bool) (key : Keyed) (added : Bool) → i < length pairs → pair ≡ get_or pairs i pair → row_of key ≡ pair.1 → Kept same_second same_second_laws pair_of (take i pairs) flags seen → added ≡ not (seen key) → ((q : Keyed) → later q ≡ cond (same_row (row_of key) (row_of q)) true (seen q)) → Kept same_second same_second_laws pair_of (take (i + 1) pairs) (flags ++ added ∷ []) later
Kept-next_pair pairs i pair flags seen later key added below is of so_far adds changes =
    subst (λ l. Kept same_second same_second_laws pair_of l (flags ++ added ∷ []) later) (sym (take_more pairs i pair below ∙ ap (λ r. take i pairs ++ r ∷ []) (sym is)))
    (Kept-alike same_second same_second_laws pair_of (take i pairs) flags seen later key pair added (λ x. ap (λ r. same_row r x.1) (sym of)) so_far adds changes)

pub Gathered-next_old : (rows : List (List Value)) (i : ℕ) (row : List Value) (found : List (List ℕ)) (find : Keyed → Option ℕ) (key : Keyed) (n : ℕ) → i < length rows → row ≡ get_or rows i row → row_of key ≡ row → Gathered same_row same_row_laws row_of (take i rows) found find → find key ≡ Some n → Gathered same_row same_row_laws row_of (take (i + 1) rows) (set found n (get_or found n [] ++ i ∷ [])) find
Gathered-next_old rows i row found find key n below is of so_far at =
    subst (λ l. Gathered same_row same_row_laws row_of l (set found n (get_or found n [] ++ i ∷ [])) find) (sym (next_row rows i row key below is of))
    (subst (λ m. Gathered same_row same_row_laws row_of (take i rows ++ row_of key ∷ []) (set found n (get_or found n [] ++ m ∷ [])) find) (length-take-le i rows (omega arith))
    (Gathered-old same_row same_row_laws row_of (take i rows) found find key n so_far at))

pub Gathered-next_new : (rows : List (List Value)) (i : ℕ) (row : List Value) (found : List (List ℕ)) (find later : Keyed → Option ℕ) (key : Keyed) → i < length rows → row ≡ get_or rows i row → row_of key ≡ row → Gathered same_row same_row_laws row_of (take i rows) found find → find key ≡ None → ((q : Keyed) → later q ≡ cond (same_row (row_of key) (row_of q)) (Some (length found)) (find q)) → Gathered same_row same_row_laws row_of (take (i + 1) rows) (found ++ (i ∷ []) ∷ []) later
Gathered-next_new rows i row found find later key below is of so_far at adds =
    subst (λ l. Gathered same_row same_row_laws row_of l (found ++ (i ∷ []) ∷ []) later) (sym (next_row rows i row key below is of))
    (subst (λ m. Gathered same_row same_row_laws row_of (take i rows ++ row_of key ∷ []) (found ++ (m ∷ []) ∷ []) later) (length-take-le i rows (omega arith))
    (Gathered-new same_row same_row_laws row_of (take i rows) found find later key so_far at adds))

-- ---- classes as vectors

pub grown_items : (found : List (Vec ℕ)) (n : ℕ) (was grown_class : Vec ℕ) (place : ℕ) → n < length found → was ≡ get_or found n was → grown_class.items ≡ was.items ++ place ∷ [] → map (λ class. class.items) (set found n grown_class) ≡ set (map (λ class. class.items) found) n (get_or (map (λ class. class.items) found) n [] ++ place ∷ [])
grown_items found n was grown_class place below is grows =
    map-set (λ class. class.items) found n grown_class
    ∙ ap (set (map (λ class. class.items) found) n) (grows ∙ ap (λ l. l ++ place ∷ []) (ap (λ class. class.items) is ∙ sym (get_or-map (λ class. class.items) found n was [] below)))

-- ---- what is kept

pub rows_kept_are : {X : Type 0} (xs : List X) (flags : List Bool) → map (λ (pair : X × Bool). pair.0) (filter (λ (pair : X × Bool). pair.1) (zip xs flags)) ≡ items_where_true flags xs
rows_kept_are [] [] = refl
rows_kept_are [] (f ∷ flags) = refl
rows_kept_are (x ∷ xs) [] = refl
rows_kept_are (x ∷ xs) (true ∷ flags) = ap (λ l. x ∷ l) (rows_kept_are xs flags)
rows_kept_are (x ∷ xs) (false ∷ flags) = rows_kept_are xs flags
