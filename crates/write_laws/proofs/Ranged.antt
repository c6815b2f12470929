-- What is read of a range is what stands in it of all that is read of the table: the rows of the range, each with its key, are those of the
-- table whose keys stand in it, but for keys that compare equal.
use Rattle.std.proofs.Common.{◌≡◌, inl, inr, Bool, true, false, ◌&&◌, ◌||◌, cond, List, [], ◌∷◌, map, filter, Some, is_some, refl, sym, ap, ◌∙◌}
use Rattle.std.specs.List.{AllByRecursion, list_any}
use Rattle.std.specs.List.Sorted.{IsStrictlySortedBy}
use Rattle.std.specs.Cmp.{Equal-is, alike_right, tied_back}
use Rattle.std.specs.Ordering.{is_eq, is_gt, ordering_reverse}
use Rattle.std.specs.declared.cmp.Ordering.{Ordering}
use Rattle.std.specs.declared.cmp.Ordering.TheVariants.{Less, Equal, Greater}
use Rattle.std.proofs.lemmas.List.Elements.{All-from_recursion, recursion_from_All}
use Rattle.value_types.specs.declared.table_name.TableName.{TableName}
use Rattle.value_types.specs.declared.value.Value.{Value}
use Rattle.value_types.specs.Order.{key_cmp}
use Rattle.value_types.specs.OrderLaws.{key_cmp_total}
use Rattle.tsql_tree.specs.declared.definition.TableTree.{TableTree}
use Rattle.tsql_tree.specs.Places.{key_places}
use Rattle.step_model.specs.declared.range.Start.{Start}
use Rattle.step_model.specs.declared.range.Start.TheVariants.{First as FromFirst}
use Rattle.step_model.specs.declared.range.Stop.{Stop}
use Rattle.step_model.specs.declared.range.Stop.TheVariants.{Last}
use Rattle.step_model.specs.Database.{Database, In, allows, includes, is_within}
use Rattle.step_model.specs.Ranges.{Keeps, Rows}
use Rattle.table_rows.specs.Rows.{has_columns, key_of, same_key}
use Rattle.constraint_check.specs.Laws.{KeysAreOne}
use Rattle.constraint_check.proofs.Lists.{Among, all_more, among_any, among_both, among_more, from_among}
use Rattle.history_laws.proofs.Basics.{both}
use Rattle.history_laws.proofs.Within.{allows_tied, ends_before}
use Rattle.range_plan.specs.Laws.{stands_in}
use Rattle.dml_exec.specs.Reading.{fits}
use Rattle.write_laws.specs.Reading.{RangeOfWhole}
use Rattle.write_laws.proofs.Entries.{Entry, Inside}

-- ---- keys that tie stand in the same ranges

includes_tied : (stop : Stop) (a b : List Value) → key_cmp a b ≡ Equal → includes stop a ≡ includes stop b
includes_tied stop a b tied = by_test (includes stop a) refl (includes stop b) refl
  where
    by_test : (s : Bool) → includes stop a ≡ s → (t : Bool) → includes stop b ≡ t → s ≡ t
    by_test true inside true also = refl
    by_test true inside false out = absurd (let no : false ≡ true = sym (ends_before stop b a (ap is_gt (tied_back key_cmp_total a b tied)) out) ∙ inside in cc)
    by_test false out true inside = absurd (let no : false ≡ true = sym (ends_before stop a b (ap is_gt tied) out) ∙ inside in cc)
    by_test false out false also = refl

within_tied : (start : Start) (stop : Stop) (a b : List Value) → key_cmp a b ≡ Equal → is_within start stop a ≡ is_within start stop b
within_tied start stop a b tied = ap (λ (t : Bool). t && includes stop a) (allows_tied start a b tied) ∙ ap (λ (t : Bool). allows start b && t) (includes_tied stop a b tied)

-- ---- two lists in strict order, of which each element ties with one of the other, tie one by one

abbrev Sorted : List Entry → Type 0
Sorted xs = IsStrictlySortedBy (λ at other. key_cmp at.0 other.0) xs

abbrev IsBelow : Entry → List Entry → Type 0
IsBelow x xs = AllByRecursion (λ (at : Entry). key_cmp x.0 at.0 ≡ Less) xs

abbrev TiesIn : List Entry → Entry → Type 0
TiesIn xs x = Among (λ (at : Entry). key_cmp x.0 at.0 ≡ Equal) xs

abbrev AllTied : List Entry → List Entry → Type 0
AllTied [] [] = Unit {0}
AllTied [] (y ∷ ys) = ⊥
AllTied (x ∷ xs) [] = ⊥
AllTied (x ∷ xs) (y ∷ ys) = (key_cmp x.0 y.0 ≡ Equal) × AllTied xs ys

-- what ties with one that is above another is above it, too
above_too : (x y : Entry) (ys : List Entry) → IsBelow y ys → TiesIn ys x → key_cmp y.0 x.0 ≡ Less
above_too x y ys below ties =
    from_among (λ (at : Entry). (key_cmp y.0 at.0 ≡ Less) × (key_cmp x.0 at.0 ≡ Equal)) (key_cmp y.0 x.0 ≡ Less) (λ at facts. alike_right key_cmp_total x.0 at.0 y.0 facts.1 ∙ facts.0) ys
    (among_both (λ (at : Entry). key_cmp y.0 at.0 ≡ Less) (λ (at : Entry). key_cmp x.0 at.0 ≡ Equal) ys below ties)

firsts_tie : (x y : Entry) (xs ys : List Entry) → IsBelow x xs → IsBelow y ys → TiesIn (y ∷ ys) x → TiesIn (x ∷ xs) y → key_cmp x.0 y.0 ≡ Equal
firsts_tie x y xs ys below_x below_y (inl here) of_y = here
firsts_tie x y xs ys below_x below_y (inr later) (inl here) = tied_back key_cmp_total y.0 x.0 here
firsts_tie x y xs ys below_x below_y (inr later) (inr other) =
    let one : key_cmp y.0 x.0 ≡ Less = above_too x y ys below_y later in
    let two : key_cmp x.0 y.0 ≡ Less = above_too y x xs below_x other in
    absurd (let no : Less ≡ Greater = sym two ∙ key_cmp_total.antisymm x.0 y.0 ∙ ap ordering_reverse one in cc)

-- behind the first the others tie with others
others_tie : (x y : Entry) (xs ys : List Entry) → key_cmp x.0 y.0 ≡ Equal → IsBelow x xs → AllByRecursion (TiesIn (y ∷ ys)) xs → AllByRecursion (TiesIn ys) xs
others_tie x y [] ys tied below ties = tt
others_tie x y (z ∷ xs) ys tied below ties = (by_place ties.0, others_tie x y xs ys tied below.1 ties.1)
  where
    by_place : TiesIn (y ∷ ys) z → TiesIn ys z
    by_place (inl here) = absurd (let no : Less ≡ Equal = sym below.0 ∙ alike_right key_cmp_total z.0 y.0 x.0 here ∙ tied in cc)
    by_place (inr there) = there

tie_one_by_one : (xs ys : List Entry) → Sorted xs → Sorted ys → AllByRecursion (TiesIn ys) xs → AllByRecursion (TiesIn xs) ys → AllTied xs ys
unfolding IsStrictlySortedBy
tie_one_by_one [] [] sorted_x sorted_y of_x of_y = tt
tie_one_by_one [] (y ∷ ys) sorted_x sorted_y of_x of_y = absurd of_y.0
tie_one_by_one (x ∷ xs) [] sorted_x sorted_y of_x of_y = absurd of_x.0
tie_one_by_one (x ∷ xs) (y ∷ ys) sorted_x sorted_y of_x of_y =
    let tied = firsts_tie x y xs ys sorted_x.0 sorted_y.0 of_x.0 of_y.0 in
    (tied, tie_one_by_one xs ys sorted_x.1 sorted_y.1 (others_tie x y xs ys tied sorted_x.0 of_x.1) (others_tie y x ys xs (tied_back key_cmp_total x.0 y.0 tied) sorted_y.0 of_y.1))

-- ---- the rows of a range

module _ (db : Database) (table : TableName) (one : KeysAreOne db) (shape : TableTree) where
  abbrev keeps : Keeps
  keeps = fits (Some shape) 0

  abbrev kept_rows : List Entry → Rows
  kept_rows entries = map (λ (at : Entry). at.1) (filter keeps entries)

  abbrev Stand : List Entry → Type 0
  Stand entries = AllByRecursion (λ (at : Entry). db table at.0 ≡ Some at.1) entries

  -- of keys that tie the one is a row's own where the other is
  kept_tied : (a b row : List Value) → key_cmp a b ≡ Equal → keeps (a, row) ≡ keeps (b, row)
  kept_tied a b row tied = ap (λ (o : Ordering). has_columns shape.columns row && is_eq o) (alike_right key_cmp_total a b (key_of shape row) tied)

  -- entries that tie one by one have the same rows
  rows_tied : (xs ys : List Entry) → AllTied xs ys → Stand xs → Stand ys → kept_rows xs ≡ kept_rows ys
  rows_tied [] [] tied stand also = refl
  rows_tied [] (y ∷ ys) tied stand also = absurd tied
  rows_tied (x ∷ xs) [] tied stand also = absurd tied
  rows_tied (x ∷ xs) (y ∷ ys) tied stand also =
      let row : x.1 ≡ y.1 = (let rows : Some x.1 ≡ Some y.1 = sym stand.0 ∙ one table x.0 y.0 (ap is_eq tied.0) ∙ also.0 in cc) in
      let same : keeps x ≡ keeps y = kept_tied x.0 y.0 x.1 tied.0 ∙ ap (λ (r : List Value). keeps (y.0, r)) row in
      ap (λ (b : Bool). map (λ (at : Entry). at.1) (cond b (x ∷ filter keeps xs) (filter keeps xs))) same ∙ by_kept (keeps y) row (rows_tied xs ys tied.1 stand.1 also.1)
    where
      by_kept : (b : Bool) → x.1 ≡ y.1 → kept_rows xs ≡ kept_rows ys
          → map (λ (at : Entry). at.1) (cond b (x ∷ filter keeps xs) (filter keeps xs)) ≡ map (λ (at : Entry). at.1) (cond b (y ∷ filter keeps ys) (filter keeps ys))
      by_kept true row rest = ap (λ (r : List Value). r ∷ kept_rows xs) row ∙ ap (λ (rows : Rows). y.1 ∷ rows) rest
      by_kept false row rest = rest

  module _ (start : Start) (stop : Stop) where
    -- each entry of the range ties with one of a list that has the range's
    ties_in : (xs ys : List Entry) → AllByRecursion (Inside db table start stop) xs → In db table start stop ys → AllByRecursion (TiesIn ys) xs
    ties_in xs ys inside is =
        all_more (Inside db table start stop) (TiesIn ys) (λ x at. among_more (λ (other : Entry). is_eq (key_cmp x.0 other.0) ≡ true) (λ (other : Entry). key_cmp x.0 other.0 ≡ Equal) (λ other tie. (Equal-is (key_cmp x.0 other.0)).0 tie) ys
        (among_any (λ (other : Entry). is_eq (key_cmp x.0 other.0)) ys (is.whole x.0 at.0 (ap is_some at.1)))) xs inside

    inside_of : (xs : List Entry) → In db table start stop xs → AllByRecursion (Inside db table start stop) xs
    inside_of xs is = recursion_from_All (Inside db table start stop) xs is.rows_of_range

    stand_of : (xs : List Entry) → AllByRecursion (Inside db table start stop) xs → Stand xs
    stand_of xs inside = all_more (Inside db table start stop) (λ (at : Entry). db table at.0 ≡ Some at.1) (λ at facts. facts.1) xs inside

    -- two lists of the range have the same rows
    rows_one : (xs ys : List Entry) → In db table start stop xs → In db table start stop ys → kept_rows xs ≡ kept_rows ys
    rows_one xs ys is also =
        let inside_x = inside_of xs is in
        let inside_y = inside_of ys also in
        rows_tied xs ys (tie_one_by_one xs ys is.sorted also.sorted (ties_in xs ys inside_x also) (ties_in ys xs inside_y is)) (stand_of xs inside_x) (stand_of ys inside_y)

    -- ---- of all rows of the table those of the range

    abbrev is_inside : Entry → Bool
    is_inside at = is_within start stop at.0

    below_kept : (x : Entry) (xs : List Entry) → IsBelow x xs → IsBelow x (filter is_inside xs)
    below_kept x [] below = tt
    below_kept x (y ∷ xs) below = by_test (is_inside y) (below_kept x xs below.1)
      where
        by_test : (b : Bool) → IsBelow x (filter is_inside xs) → IsBelow x (cond b (y ∷ filter is_inside xs) (filter is_inside xs))
        by_test true rest = (below.0, rest)
        by_test false rest = rest

    sorted_kept : (xs : List Entry) → Sorted xs → Sorted (filter is_inside xs)
    unfolding IsStrictlySortedBy
    sorted_kept [] sorted = tt
    sorted_kept (x ∷ xs) sorted = by_test (is_inside x) (below_kept x xs sorted.0) (sorted_kept xs sorted.1)
      where
        by_test : (b : Bool) → IsBelow x (filter is_inside xs) → Sorted (filter is_inside xs) → Sorted (cond b (x ∷ filter is_inside xs) (filter is_inside xs))
        by_test true below rest = (below, rest)
        by_test false below rest = rest

    inside_kept : (xs : List Entry) → Stand xs → AllByRecursion (Inside db table start stop) (filter is_inside xs)
    inside_kept [] stand = tt
    inside_kept (x ∷ xs) stand = by_test (is_inside x) refl (inside_kept xs stand.1)
      where
        by_test : (b : Bool) → is_inside x ≡ b → AllByRecursion (Inside db table start stop) (filter is_inside xs) → AllByRecursion (Inside db table start stop) (cond b (x ∷ filter is_inside xs) (filter is_inside xs))
        by_test true is rest = ((is, stand.0), rest)
        by_test false is rest = rest

    -- a key of the range that ties with one of them ties with one that is kept
    found_kept : (key : List Value) (xs : List Entry) → is_within start stop key ≡ true → list_any (λ (at : Entry). is_eq (key_cmp key at.0)) xs ≡ true → list_any (λ (at : Entry). is_eq (key_cmp key at.0)) (filter is_inside xs) ≡ true
    found_kept key [] within found = found
    found_kept key (x ∷ xs) within found = by_tests (is_eq (key_cmp key x.0)) refl (is_inside x) refl found (found_kept key xs within)
      where
        Found : List Entry → Type 0
        Found entries = list_any (λ (at : Entry). is_eq (key_cmp key at.0)) entries ≡ true

        by_tests : (t : Bool) → is_eq (key_cmp key x.0) ≡ t → (b : Bool) → is_inside x ≡ b → (t || list_any (λ (at : Entry). is_eq (key_cmp key at.0)) xs) ≡ true → (Found xs → Found (filter is_inside xs))
            → Found (cond b (x ∷ filter is_inside xs) (filter is_inside xs))
        by_tests true ties true is found rest = ap (λ (t : Bool). t || list_any (λ (at : Entry). is_eq (key_cmp key at.0)) (filter is_inside xs)) ties
        by_tests true ties false is found rest = absurd (let no : false ≡ true = sym is ∙ sym (within_tied start stop key x.0 ((Equal-is (key_cmp key x.0)).0 ties)) ∙ within in cc)
        by_tests false ties true is found rest = ap (λ (t : Bool). t || list_any (λ (at : Entry). is_eq (key_cmp key at.0)) (filter is_inside xs)) ties ∙ rest found
        by_tests false ties false is found rest = rest found

    in_kept : (xs : List Entry) → In db table FromFirst Last xs → In db table start stop (filter is_inside xs)
    in_kept xs is = record {
      sorted = sorted_kept xs is.sorted;
      rows_of_range = All-from_recursion (Inside db table start stop) (filter is_inside xs)
          (inside_kept xs (all_more (Inside db table FromFirst Last) (λ (at : Entry). db table at.0 ≡ Some at.1) (λ at facts. facts.1) xs (recursion_from_All (Inside db table FromFirst Last) xs is.rows_of_range)));
      whole = λ key within some. found_kept key xs within (is.whole key refl some);
    }

    -- a row that is kept stands at its own key
    own_inside : (x : Entry) → keeps x ≡ true → is_within start stop (key_of shape x.1) ≡ is_inside x
    own_inside x kept = within_tied start stop (key_of shape x.1) x.0 ((Equal-is (key_cmp (key_of shape x.1) x.0)).0 (both (has_columns shape.columns x.1) (same_key (key_of shape x.1) x.0) kept).1)

    abbrev stands : List Value → Bool
    stands row = is_within start stop (key_of shape row)

    kept_inside : (xs : List Entry) → kept_rows (filter is_inside xs) ≡ filter stands (kept_rows xs)
    kept_inside [] = refl
    kept_inside (x ∷ xs) = by_tests (keeps x) refl (is_inside x) refl (kept_inside xs)
      where
        by_tests : (k : Bool) → keeps x ≡ k → (b : Bool) → is_inside x ≡ b → kept_rows (filter is_inside xs) ≡ filter stands (kept_rows xs)
            → kept_rows (cond b (x ∷ filter is_inside xs) (filter is_inside xs)) ≡ filter stands (map (λ (at : Entry). at.1) (cond k (x ∷ filter keeps xs) (filter keeps xs)))
        by_tests true kept true is rest =
            ap (λ (t : Bool). map (λ (at : Entry). at.1) (cond t (x ∷ filter keeps (filter is_inside xs)) (filter keeps (filter is_inside xs)))) kept
            ∙ ap (λ (rows : Rows). x.1 ∷ rows) rest
            ∙ ap (λ (t : Bool). cond t (x.1 ∷ filter stands (kept_rows xs)) (filter stands (kept_rows xs))) (sym (own_inside x kept ∙ is))
        by_tests true kept false is rest = rest ∙ ap (λ (t : Bool). cond t (x.1 ∷ filter stands (kept_rows xs)) (filter stands (kept_rows xs))) (sym (own_inside x kept ∙ is))
        by_tests false kept true is rest = ap (λ (t : Bool). map (λ (at : Entry). at.1) (cond t (x ∷ filter keeps (filter is_inside xs)) (filter keeps (filter is_inside xs)))) kept ∙ rest
        by_tests false kept false is rest = rest

pub range_of_whole : RangeOfWhole
range_of_whole db shape range rows all one (xs, is, read) (ys, also, whole) =
    read
    ∙ rows_one db range.table one shape range.start range.stop xs (filter (λ (at : Entry). is_within range.start range.stop at.0) ys) is (in_kept db range.table one shape range.start range.stop ys also)
    ∙ kept_inside db range.table one shape range.start range.stop ys
    ∙ ap (λ (rows : Rows). filter (stands_in range (key_places (Some shape))) rows) (sym whole)
