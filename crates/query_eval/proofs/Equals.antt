-- The first of equals, by what stands for them.
use Rattle.std.proofs.Common.{◌≡◌, refl, ap, ◌∙◌, Bool, true, false, not, cond, List, [], ◌∷◌, map}
use Rattle.std.specs.List.{filter}
use Rattle.std.specs.Ordering.{is_eq, ordering_then}
use Rattle.std.specs.declared.cmp.Ordering.{Ordering}
use Rattle.std.specs.declared.cmp.Ordering.TheVariants as order
use Rattle.value_types.specs.declared.value.Value.{Value}
use Rattle.value_types.specs.Order.{value_order}
use Rattle.bound_tree.specs.Setting.{only_of}
use Rattle.join_rows.specs.Joined.{Row}
use Rattle.group_rows.specs.Equals.{firsts, same_row}
use Rattle.query_eval.specs.Phases.{same_value}

pub map_both : {A B C : Type 0} (g : B → C) (f : A → B) (xs : List A) → map g (map f xs) ≡ map (λ x. g (f x)) xs
map_both g f [] = refl
map_both g f (x ∷ xs) = ap (λ l. g (f x) ∷ l) (map_both g f xs)

-- ---- by what stands for them

module _ {X Q : Type 0} (same : X → X → Bool) (view : Q → X) where
  abbrev alike : Q → Q → Bool
  alike a b = same (view a) (view b)

  filter_view : (test : X → Bool) (qs : List Q) → filter test (map view qs) ≡ map view (filter (λ q. test (view q)) qs)
  filter_view test [] = refl
  filter_view test (q ∷ qs) =
      elim (test (view q)) as (λ b. cond b (view q ∷ filter test (map view qs)) (filter test (map view qs)) ≡ map view (cond b (q ∷ filter (λ r. test (view r)) qs) (filter (λ r. test (view r)) qs))) [
        | true ↦ ap (λ l. view q ∷ l) (filter_view test qs)
        | false ↦ filter_view test qs
      ]

  firsts_view : (qs : List Q) → firsts same (map view qs) ≡ map view (firsts alike qs)
  firsts_view [] = refl
  firsts_view (q ∷ qs) =
      ap (λ l. view q ∷ filter (λ other. not (same (view q) other)) l) (firsts_view qs)
      ∙ ap (λ l. view q ∷ l) (filter_view (λ other. not (same (view q) other)) (firsts alike qs))

-- ---- by a test that says the same

filter_same : {X : Type 0} (p q : X → Bool) → ((x : X) → p x ≡ q x) → (xs : List X) → filter p xs ≡ filter q xs
filter_same p q says [] = refl
filter_same p q says (x ∷ xs) = ap (λ b. cond b (x ∷ filter p xs) (filter p xs)) (says x) ∙ ap (λ l. cond (q x) (x ∷ l) l) (filter_same p q says xs)

firsts_same : {X : Type 0} (s t : X → X → Bool) → ((a b : X) → s a b ≡ t a b) → (xs : List X) → firsts s xs ≡ firsts t xs
firsts_same s t says [] = refl
firsts_same s t says (x ∷ xs) =
    ap (λ l. x ∷ filter (λ other. not (s x other)) l) (firsts_same s t says xs)
    ∙ ap (λ l. x ∷ l) (filter_same (λ other. not (s x other)) (λ other. not (t x other)) (λ other. ap not (says x other)) (firsts t xs))

-- ---- values as rows

one_row : (a b : Value) → same_row (a ∷ []) (b ∷ []) ≡ same_value a b
one_row a b = by_order (value_order a b)
  where
    by_order : (o : Ordering) → is_eq (ordering_then o order.Equal) ≡ is_eq o
    by_order order.Less = refl
    by_order order.Equal = refl
    by_order order.Greater = refl

map_one : (values : List Value) → map only_of (map (λ value. value ∷ []) values) ≡ values
map_one [] = refl
map_one (v ∷ values) = ap (λ l. v ∷ l) (map_one values)

pub distinct_values_are : (values : List Value) → map only_of (firsts same_row (map (λ value. value ∷ []) values)) ≡ firsts same_value values
distinct_values_are values =
    let one : Value → Row = λ value. value ∷ [] in
    ap (map only_of) (firsts_view same_row one values) ∙ map_one (firsts (alike same_row one) values) ∙ firsts_same (alike same_row one) same_value one_row values
