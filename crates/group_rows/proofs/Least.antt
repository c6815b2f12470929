-- The first of values before which none comes, and what one value more makes of it.
use Rattle.std.proofs.Common.{◌≡◌, ℕ, ◌+◌, ◌<◌, ◌≤◌, Bool, true, false, not, ◌&&◌, cond, List, [], ◌∷◌, ◌++◌, length, get_or, take, Option, None, Some, refl, sym, ap, ◌∙◌, subst, append-nil, append_assoc}
use Rattle.std.specs.Cmp.{IsStrictWeakOrder}
use Rattle.std.specs.List.{filter, list_all, AllByRecursion}
use Rattle.std.proofs.lemmas.List.{take_all, take_more}
use Rattle.std.proofs.lemmas.List.Elements.{filter-append}
use Rattle.value_types.specs.declared.value.Value.{Value}
use Rattle.value_types.specs.declared.value.Value.TheVariants.{Null}
use Rattle.bound_tree.specs.Meaning.{is_null}
use Rattle.group_rows.specs.Steps.{first_with}
use Rattle.group_rows.specs.Totals.{comes_before, first_of, known}
use Rattle.group_rows.proofs.Keys.{comes_before_ranks}

module _ {X : Type 0} (lt : X → X → Bool) (laws : IsStrictWeakOrder lt) where
  -- b comes before all that stand before it, and none comes before it
  pub record IsFirst (xs : List X) (b : X) : Type 0 where
    pub before : List X
    pub behind : List X
    pub are : xs ≡ before ++ b ∷ behind
    pub above : AllByRecursion (λ x. lt b x ≡ true) before
    pub least : AllByRecursion (λ x. lt x b ≡ false) xs

  abbrev none_before : List X → X → Bool
  none_before xs x = list_all (λ other. not (lt other x)) xs

  all-none : (xs : List X) (b : X) → AllByRecursion (λ x. lt x b ≡ false) xs → none_before xs b ≡ true
  all-none [] b least = refl
  all-none (x ∷ xs) b least = ap (λ t. not t && none_before xs b) least.0 ∙ all-none xs b least.1

  and-false : (t : Bool) → t && false ≡ false
  and-false true = refl
  and-false false = refl

  some-before : (before behind : List X) (b x : X) → lt b x ≡ true → none_before (before ++ b ∷ behind) x ≡ false
  some-before [] behind b x less = ap (λ t. not t && none_before behind x) less
  some-before (y ∷ before) behind b x less = ap (λ t. not (lt y x) && t) (some-before before behind b x less) ∙ and-false (not (lt y x))

  -- those before it have it before them
  none_kept : (front before behind : List X) (b : X) → AllByRecursion (λ x. lt b x ≡ true) front → filter (none_before (before ++ b ∷ behind)) front ≡ []
  none_kept [] before behind b above = refl
  none_kept (x ∷ front) before behind b above =
      ap (λ t. cond t (x ∷ filter (none_before (before ++ b ∷ behind)) front) (filter (none_before (before ++ b ∷ behind)) front)) (some-before before behind b x above.0)
      ∙ none_kept front before behind b above.1

  pub first-is : (xs : List X) (b d : X) → IsFirst xs b → get_or (filter (none_before xs) xs) 0 d ≡ b
  first-is xs b d first =
      let whole = first.before ++ b ∷ first.behind in
      ap (λ l. get_or (filter (none_before l) l) 0 d) first.are
      ∙ ap (λ l. get_or l 0 d) (filter-append (none_before whole) first.before (b ∷ first.behind))
      ∙ ap (λ l. get_or (l ++ filter (none_before whole) (b ∷ first.behind)) 0 d) (none_kept first.before first.before first.behind b first.above)
      ∙ ap (λ t. get_or (cond t (b ∷ filter (none_before whole) first.behind) (filter (none_before whole) first.behind)) 0 d) (all-none whole b (subst (AllByRecursion (λ x. lt x b ≡ false)) first.are first.least))

  not_itself : (x : X) → lt x x ≡ false
  not_itself x = elim (lt x x) as (λ t. lt x x ≡ t → t ≡ false) [ true ↦ λ is. sym is ∙ laws.one_way x x is | false ↦ λ is. refl ] refl

  pub IsFirst-one : (x : X) → IsFirst (x ∷ []) x
  IsFirst-one x = record { before = []; behind = []; are = refl; above = tt; least = (not_itself x, tt) }

  all-push : (P : X → Type 0) (xs : List X) (y : X) → AllByRecursion P xs → P y → AllByRecursion P (xs ++ y ∷ [])
  all-push P [] y all here = (here, tt)
  all-push P (x ∷ xs) y all here = (all.0, all-push P xs y all.1 here)

  -- what comes before b comes before all before which b doesn't come after
  above-all : (xs : List X) (b y : X) → lt y b ≡ true → AllByRecursion (λ x. lt x b ≡ false) xs → AllByRecursion (λ x. lt y x ≡ true) xs
  above-all [] b y less least = tt
  above-all (x ∷ xs) b y less least = (
    elim (lt y x) as (λ t. lt y x ≡ t → t ≡ true) [ true ↦ λ is. refl | false ↦ λ is. absurd (let other = laws.chain y x b is least.0 in cc) ] refl,
    above-all xs b y less least.1,
  )

  below-all : (xs : List X) (y : X) → AllByRecursion (λ x. lt y x ≡ true) xs → AllByRecursion (λ x. lt x y ≡ false) xs
  below-all [] y above = tt
  below-all (x ∷ xs) y above = (laws.one_way y x above.0, below-all xs y above.1)

  pub IsFirst-new : (xs : List X) (b y : X) → IsFirst xs b → lt y b ≡ true → IsFirst (xs ++ y ∷ []) y
  IsFirst-new xs b y first less =
      let above = above-all xs b y less first.least in
      record { before = xs; behind = []; are = refl; above = above; least = all-push (λ x. lt x y ≡ false) xs y (below-all xs y above) (not_itself y) }

  pub IsFirst-old : (xs : List X) (b y : X) → IsFirst xs b → lt y b ≡ false → IsFirst (xs ++ y ∷ []) b
  IsFirst-old xs b y first not_less = record {
    before = first.before;
    behind = first.behind ++ y ∷ [];
    are = ap (λ l. l ++ y ∷ []) first.are ∙ append_assoc first.before (b ∷ first.behind) (y ∷ []);
    above = first.above;
    least = all-push (λ x. lt x b ≡ false) xs y first.least not_less;
  }

-- ---- values

-- what was found of values so far: nothing where none is known, else their first
abbrev pub FirstOf : Bool → List Value → Option Value → Type 0
FirstOf down values None = known values ≡ []
FirstOf down values (Some first) = IsFirst (comes_before down) (comes_before_ranks down) (known values) first

known-push : (values : List Value) (value : Value) → known (values ++ value ∷ []) ≡ known values ++ cond (not (is_null value)) (value ∷ []) []
known-push values value = filter-append (λ v. not (is_null v)) values (value ∷ [])

module _ (down : Bool) (values : List Value) (value : Value) where
  skipped : is_null value ≡ true → known (values ++ value ∷ []) ≡ known values
  skipped is = known-push values value ∙ ap (λ t. known values ++ cond (not t) (value ∷ []) []) is ∙ append-nil (known values)

  taken : is_null value ≡ false → known (values ++ value ∷ []) ≡ known values ++ value ∷ []
  taken is = known-push values value ∙ ap (λ t. known values ++ cond (not t) (value ∷ []) []) is

  -- one value more
  pub FirstOf-push : (found : Option Value) → FirstOf down values found → FirstOf down (values ++ value ∷ []) (first_with down found value)
  FirstOf-push None none =
      elim (is_null value) as (λ t. is_null value ≡ t → FirstOf down (values ++ value ∷ []) (cond t None (Some value))) [
        | true ↦ λ is. skipped is ∙ none
        | false ↦ λ is. subst (λ l. IsFirst (comes_before down) (comes_before_ranks down) l value) (sym (taken is ∙ ap (λ l. l ++ value ∷ []) none)) (IsFirst-one (comes_before down) (comes_before_ranks down) value)
      ] refl
  FirstOf-push (Some first) is_first =
      elim (is_null value) as (λ t. is_null value ≡ t → FirstOf down (values ++ value ∷ []) (cond t (Some first) (cond (comes_before down value first) (Some value) (Some first)))) [
        | true ↦ λ is. subst (λ l. IsFirst (comes_before down) (comes_before_ranks down) l first) (sym (skipped is)) is_first
        | false ↦ λ is. elim (comes_before down value first) as (λ t. comes_before down value first ≡ t → FirstOf down (values ++ value ∷ []) (cond t (Some value) (Some first))) [
          | true ↦ λ less. subst (λ l. IsFirst (comes_before down) (comes_before_ranks down) l value) (sym (taken is)) (IsFirst-new (comes_before down) (comes_before_ranks down) (known values) first value is_first less)
          | false ↦ λ less. subst (λ l. IsFirst (comes_before down) (comes_before_ranks down) l first) (sym (taken is)) (IsFirst-old (comes_before down) (comes_before_ranks down) (known values) first value is_first less)
        ] refl
      ] refl

-- at the next place of a list
pub FirstOf-more : (down : Bool) (values : List Value) (i : ℕ) (value : Value) (found : Option Value) → i < length values → value ≡ get_or values i value → FirstOf down (take i values) found → FirstOf down (take (i + 1) values) (first_with down found value)
FirstOf-more down values i value found below is so_far =
    subst (λ l. FirstOf down l (first_with down found value)) (sym (take_more values i value below ∙ ap (λ v. take i values ++ v ∷ []) (sym is)))
    (FirstOf-push down (take i values) value found so_far)

pub first_of-some : (down : Bool) (values : List Value) (first : Value) → FirstOf down values (Some first) → first ≡ first_of down (known values)
first_of-some down values first is_first = sym (first-is (comes_before down) (comes_before_ranks down) (known values) first Null is_first)

pub first_of-none : (down : Bool) (values : List Value) → FirstOf down values None → Null ≡ first_of down (known values)
first_of-none down values none = sym (ap (first_of down) none)

-- all of them
pub FirstOf-all : (down : Bool) (values : List Value) (i : ℕ) (was found : Option Value) → length values ≤ i → was ≡ found → FirstOf down (take i values) was → FirstOf down values found
FirstOf-all down values i was found whole is so_far =
    subst (FirstOf down values) is (subst (λ l. FirstOf down l was) (take_all i values whole) so_far)
