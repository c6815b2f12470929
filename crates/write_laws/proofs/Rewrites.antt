-- A write as rows that change.
use Rattle.std.proofs.Common.{◌≡◌, refl, sym, ap, ◌∙◌, subst, inl, inr, ℕ, Bool, true, false, List, [], ◌∷◌, ◌++◌, length, map, filter, zip, Option, Some, None, Ok, if◌then◌else◌, cond, append-nil}
use Rattle.std.proofs.lemmas.Bool.{and_parts}
use Rattle.std.specs.List.{AllByRecursion, flat_map, items_where_true, list_all}
use Rattle.std.specs.List.Sorted.{IsStrictlySortedBy}
use Rattle.std.specs.Ordering.{is_eq}
use Rattle.std.specs.declared.cmp.Ordering.TheVariants.{Less}
use Rattle.lock_modes.specs.declared.KeyPart.{KeyPart}
use Rattle.value_types.specs.declared.table_name.TableName.{TableName}
use Rattle.value_types.specs.declared.value.Value.{Value}
use Rattle.value_types.specs.Order.{key_cmp}
use Rattle.tsql_tree.specs.declared.definition.TableTree.{TableTree}
use Rattle.tsql_tree.specs.Places.{key_places}
use Rattle.bound_tree.specs.declared.expr.BoundTest.{BoundTest}
use Rattle.bound_tree.specs.declared.query.InnerQuery.{InnerQuery}
use Rattle.bound_tree.specs.declared.write.BoundSet.{BoundSet}
use Rattle.bound_tree.specs.declared.write.BoundWrite.{BoundWrite}
use Rattle.bound_tree.specs.declared.write.BoundWrite.TheVariants as write
use Rattle.bound_tree.specs.Meaning.{truth}
use Rattle.bound_tree.specs.Outcomes.{Outcome, after}
use Rattle.bound_tree.specs.Truths.{is_true}
use Rattle.query_eval.specs.Joining.{image_of}
use Rattle.query_eval.specs.KeyTests.{key_tests, meets, where_tests}
use Rattle.query_eval.specs.Phases.{each, rows_where}
use Rattle.query_eval.specs.Targets.{inner_answers, rows_meant, setting_over}
use Rattle.query_eval.proofs.Images.{by_last, by_steps}
use Rattle.query_laws.specs.Laws.{AllOf}
use Rattle.query_laws.proofs.Lists.{each_gives}
use Rattle.step_model.specs.declared.change.Deed.TheVariants.{Replace}
use Rattle.step_model.specs.declared.change.Planned.{Planned}
use Rattle.step_model.specs.declared.op.Hold.{Hold}
use Rattle.step_model.specs.declared.range.KeyRange.{KeyRange}
use Rattle.step_model.specs.Exchange.{Exchange}
use Rattle.index_laws.specs.Deeds.{deeds_erased, deeds_written, rewrites_if, rows_added, rows_gone, rows_set}
use Rattle.index_laws.specs.Laws.{OldsApart, itself, never}
use Rattle.index_laws.specs.Parts.{NoneOld, RowChange}
use Rattle.table_rows.specs.Rows.{has_columns, key_of, same_key, values_at}
use Rattle.constraint_check.proofs.Behind.{same_back, same_on}
use Rattle.dml_exec.specs.declared.rewritten.Rewritten.{Rewritten}
use Rattle.dml_exec.specs.declared.rewritten.Rewritten.TheVariants.{Inserted, Set, Erased}
use Rattle.dml_exec.specs.Filling.{Row}
use Rattle.dml_exec.specs.Planning.{erasure, insertion, moved, rewrite, rewritten, row_set, rows_added as added, stays}
use Rattle.dml_exec.specs.Reading.{fits}
use Rattle.write_laws.specs.Rewrites.{AreApart, ArePaired, AreSome, ChangesAreDeeds, IsTaken, PlannedOf, TakenApart, TakenTold, rows_offered, rows_taken}
use Rattle.write_laws.specs.Told.{ToldThere}
use Rattle.write_laws.proofs.Plans.{made_of}
use Rattle.write_laws.proofs.Targets.{target_left}

-- ---- what is done at each key

module _ (table : TableName) (key : List ℕ) where
  abbrev erased_by : RowChange → List Planned
  erased_by change = deeds_erased table (values_at key) itself never change.old change.new

  abbrev written_by : RowChange → List Planned
  written_by change = deeds_written table (values_at key) itself never change.old change.new

  added_erases : (rows : List Row) → flat_map erased_by (rows_added rows) ≡ []
  added_erases [] = refl
  added_erases (row ∷ rows) = added_erases rows

  added_writes : (rows : List Row) → flat_map written_by (rows_added rows) ≡ map (insertion table key) rows
  added_writes [] = refl
  added_writes (row ∷ rows) = ap (λ (list : List Planned). insertion table key row ∷ list) (added_writes rows)

  gone_erases : (rows : List Row) → flat_map erased_by (rows_gone rows) ≡ map (erasure table key) rows
  gone_erases [] = refl
  gone_erases (row ∷ rows) = ap (λ (list : List Planned). erasure table key row ∷ list) (gone_erases rows)

  gone_writes : (rows : List Row) → flat_map written_by (rows_gone rows) ≡ []
  gone_writes [] = refl
  gone_writes (row ∷ rows) = gone_writes rows

  abbrev Pair : Type 0
  Pair = Row × Row

  abbrev as_change : Pair → RowChange
  as_change pair = record { old = Some pair.0; new = Some pair.1 }

  set_erases : (pairs : List Pair) → flat_map erased_by (map as_change pairs) ≡ flat_map (moved table key) pairs
  set_erases [] = refl
  set_erases (pair ∷ pairs) = ap (λ (list : List Planned). moved table key pair ++ list) (set_erases pairs)

  abbrev replacement : Pair → Planned
  replacement pair = record { table = table; key = values_at key pair.0; deed = Replace pair.1 }

  set_writes : (pairs : List Pair) → flat_map written_by (map as_change pairs) ≡ map (rewrite table key) pairs
  set_writes [] = refl
  set_writes (pair ∷ pairs) = by_stays (stays table key pair) (set_writes pairs)
    where
      by_stays : (b : Bool) → flat_map written_by (map as_change pairs) ≡ map (rewrite table key) pairs
          → rewrites_if table (values_at key) itself never b pair.0 pair.1 ++ flat_map written_by (map as_change pairs) ≡ (if b then replacement pair else insertion table key pair.1) ∷ map (rewrite table key) pairs
      by_stays true rest = ap (λ (list : List Planned). replacement pair ∷ list) rest
      by_stays false rest = ap (λ (list : List Planned). insertion table key pair.1 ∷ list) rest

  -- erasures, and then what is written
  in_turn : (first second one other : List Planned) → first ≡ one → second ≡ other → one ++ other ≡ first ++ second
  in_turn first second one other is also = sym (ap (λ (list : List Planned). list ++ second) is ∙ ap (λ (list : List Planned). one ++ list) also)

pub changes_are_deeds : ChangesAreDeeds
changes_are_deeds table key (Inserted rows) = in_turn table key (flat_map (erased_by table key) (rows_added rows)) (flat_map (written_by table key) (rows_added rows)) [] (map (insertion table key) rows) (added_erases table key rows) (added_writes table key rows)
changes_are_deeds table key (Set olds news) =
    in_turn table key (flat_map (erased_by table key) (rows_set olds news)) (flat_map (written_by table key) (rows_set olds news)) (flat_map (moved table key) (zip olds news)) (map (rewrite table key) (zip olds news))
    (set_erases table key (zip olds news)) (set_writes table key (zip olds news))
changes_are_deeds table key (Erased rows) =
    sym (append-nil (map (erasure table key) rows))
    ∙ in_turn table key (flat_map (erased_by table key) (rows_gone rows)) (flat_map (written_by table key) (rows_gone rows)) (map (erasure table key) rows) [] (gone_erases table key rows) (gone_writes table key rows)

-- ---- some of a list

pub some_itself : {A : Type 0} (all : List A) → AreSome all all
some_itself [] = tt
some_itself (x ∷ all) = inl (refl, some_itself all)

some_more : {A : Type 0} (y : A) (some all : List A) → AreSome some all → AreSome some (y ∷ all)
some_more y [] all is = tt
some_more y (x ∷ some) all is = inr is

some_of_some : {A : Type 0} (few some all : List A) → AreSome few some → AreSome some all → AreSome few all
some_of_some [] some all is also = tt
some_of_some (x ∷ few) [] all is also = absurd is
some_of_some (x ∷ few) (y ∷ some) [] is also = absurd also
some_of_some (x ∷ few) (y ∷ some) (z ∷ all) is (inr later) = inr (some_of_some (x ∷ few) (y ∷ some) all is later)
some_of_some (x ∷ few) (y ∷ some) (z ∷ all) (inl here) (inl also) = inl (here.0 ∙ also.0, some_of_some few some all here.1 also.1)
some_of_some (x ∷ few) (y ∷ some) (z ∷ all) (inr there) (inl also) = inr (some_of_some (x ∷ few) some all there also.1)

some_filter : {A : Type 0} (test : A → Bool) (all : List A) → AreSome (filter test all) all
some_filter test [] = tt
some_filter {A} test (x ∷ all) = by_test (test x) (some_filter test all)
  where
    by_test : (b : Bool) → AreSome (filter test all) all → AreSome (cond b (x ∷ filter test all) (filter test all)) (x ∷ all)
    by_test true rest = inl (refl, rest)
    by_test false rest = some_more x (filter test all) all rest

some_where : {A : Type 0} (flags : List Bool) (all : List A) → AreSome (items_where_true flags all) all
some_where [] all = tt
some_where (b ∷ flags) [] = tt
some_where (true ∷ flags) (x ∷ all) = inl (refl, some_where flags all)
some_where (false ∷ flags) (x ∷ all) = some_more x (items_where_true flags all) all (some_where flags all)

-- what is so of all is so of some
all_of_some : {A : Type 0} (P : A → Type 0) (some all : List A) → AreSome some all → AllByRecursion P all → AllByRecursion P some
all_of_some P [] all is holds = tt
all_of_some P (x ∷ some) [] is holds = absurd is
all_of_some P (x ∷ some) (y ∷ all) (inl here) holds = (subst P (sym here.0) holds.0, all_of_some P some all here.1 holds.1)
all_of_some P (x ∷ some) (y ∷ all) (inr later) holds = all_of_some P (x ∷ some) all later holds.1

-- some of what is made of a list are made of some of it
picked : {A B : Type 0} (f : A → B) (some : List B) (all : List A) → AreSome some (map f all) → (few : List A) × (some ≡ map f few) × AreSome few all
picked f [] all is = ([], refl, tt)
picked f (y ∷ some) [] is = absurd is
picked {A} {B} f (y ∷ some) (x ∷ all) (inl here) = let rest = picked f some all here.1 in (x ∷ rest.0, ap (λ (z : B). z ∷ some) here.0 ∙ ap (λ (zs : List B). f x ∷ zs) rest.1, inl (refl, rest.2))
picked {A} {B} f (y ∷ some) (x ∷ all) (inr later) = let rest = picked f (y ∷ some) all later in (rest.0, rest.1, some_more x rest.0 all rest.2)

-- ---- the rows that are meant

nothing_asked : {A : Type 0} (make : A → Outcome Row) (xs : List A) → AllOf (λ x. (row : Row) → make x ≡ Ok row → Unit {0}) xs
nothing_asked make [] = tt
nothing_asked make (x ∷ xs) = ((λ row made. tt), nothing_asked make xs)

module _ (vars system : List Value) where
  where_some : (tables : List (List Row)) (test : Option BoundTest) (image olds : List Row) → rows_where (setting_over vars system tables) test image ≡ Ok olds → AreSome olds image
  where_some tables None image olds e = by_last (λ (some : List Row). AreSome some image) image (some_itself image) olds e
  where_some tables (Some test) image olds e =
      by_steps (λ (some : List Row). AreSome some image) (each (λ row. truth (setting_over vars system tables row) test) image) (λ truths. Ok (items_where_true (map is_true truths) image))
      (λ truths are. by_last (λ (some : List Row). AreSome some image) (items_where_true (map is_true truths) image) (some_where (map is_true truths) image)) olds e

  meant_some : (tables : List (List Row)) (key : List ℕ) (test : Option BoundTest) (image olds : List Row) → rows_meant vars system tables key test image ≡ Ok olds → AreSome olds image
  meant_some tables key test image olds e =
      let tests : Row → Bool = λ row. list_all (meets row) (key_tests key 0 (where_tests vars test)) in
      some_of_some olds (filter tests image) image (where_some tables test (filter tests image) olds e) (some_filter tests image)

  module _ (shape : TableTree) where
    abbrev Takes : BoundWrite → List (List Row) → Rewritten → Type 0
    Takes of images rows = ArePaired rows × AreSome (rows_taken rows) (rows_offered of images)

    abbrev Meaning : List InnerQuery → List (List Row) → Option BoundTest → List (List Row) × List (List Row) → Outcome (List Row)
    Meaning inner images test answers = rows_meant vars system answers.0 (key_places (Some shape)) test (image_of answers.1)

    target_some : (inner : List InnerQuery) (images : List (List Row)) (test : Option BoundTest) (answers : List (List Row) × List (List Row)) (olds : List Row) → inner_answers vars system inner images ≡ Ok answers
        → Meaning inner images test answers ≡ Ok olds → AreSome olds (rows_offered (write.Delete (record { object = []; part = 0 }) test inner) images)
    target_some inner images test answers olds is are =
        subst (λ (image : List Row). AreSome olds image) (target_left vars system inner images answers is) (meant_some answers.0 (key_places (Some shape)) test (image_of answers.1) olds are)

    as_many : (answers : List (List Row) × List (List Row)) (sets : List BoundSet) (olds news : List Row) → each (row_set vars system shape answers.0 sets) olds ≡ Ok news → length news ≡ length olds
    as_many answers sets olds news come = (each_gives (row_set vars system shape answers.0 sets) (λ row. Unit {0}) olds news come (nothing_asked (row_set vars system shape answers.0 sets) olds)).1

    taken : (of : BoundWrite) (images : List (List Row)) (came : Rewritten) → rewritten vars system shape of images ≡ Ok came → Takes of images came
    taken (write.Insert table places given) images came e =
        by_steps (Takes (write.Insert table places given) images) (added vars system shape places given images) (λ rows. Ok (Inserted rows)) (λ rows is. by_last (Takes (write.Insert table places given) images) (Inserted rows) (tt, tt)) came e
    taken (write.Update table sets test inner) images came e =
        by_steps (Takes (write.Update table sets test inner) images) (inner_answers vars system inner images)
        (λ answers. after (Meaning inner images test answers) (λ olds. after (each (row_set vars system shape answers.0 sets) olds) (λ news. Ok (Set olds news))))
        (λ answers is. by_steps (Takes (write.Update table sets test inner) images) (Meaning inner images test answers) (λ olds. after (each (row_set vars system shape answers.0 sets) olds) (λ news. Ok (Set olds news)))
        (λ olds are. by_steps (Takes (write.Update table sets test inner) images) (each (row_set vars system shape answers.0 sets) olds) (λ news. Ok (Set olds news))
        (λ news come. by_last (Takes (write.Update table sets test inner) images) (Set olds news) (as_many answers sets olds news come, target_some inner images test answers olds is are)))) came e
    taken (write.Delete table test inner) images came e =
        by_steps (Takes (write.Delete table test inner) images) (inner_answers vars system inner images) (λ answers. after (Meaning inner images test answers) (λ olds. Ok (Erased olds)))
        (λ answers is. by_steps (Takes (write.Delete table test inner) images) (Meaning inner images test answers) (λ olds. Ok (Erased olds))
        (λ olds are. by_last (Takes (write.Delete table test inner) images) (Erased olds) (tt, target_some inner images test answers olds is are))) came e

pub planned_of : PlannedOf
planned_of vars system shape checks of images planned e =
    let made = made_of vars system shape checks of images planned e in
    let takes = taken vars system shape of images made.0 made.1 in
    record { rows = made.0; changes = made.2; paired = takes.0; some = takes.1 }

-- ---- how they were told

abbrev Entry : Type 0
Entry = List Value × List Value

abbrev Sorted : List Entry → Type 0
Sorted entries = IsStrictlySortedBy (λ (at other : Entry). key_cmp at.0 other.0) entries

sorted_some : (some all : List Entry) → AreSome some all → Sorted all → Sorted some
unfolding IsStrictlySortedBy
sorted_some [] all is sorted = tt
sorted_some (x ∷ some) [] is sorted = absurd is
sorted_some (x ∷ some) (y ∷ all) (inl here) sorted =
    (subst (λ (z : Entry). AllByRecursion (λ (w : Entry). key_cmp z.0 w.0 ≡ Less) some) (sym here.0) (all_of_some (λ (w : Entry). key_cmp y.0 w.0 ≡ Less) some all here.1 sorted.0), sorted_some some all here.1 sorted.1)
sorted_some (x ∷ some) (y ∷ all) (inr later) sorted = sorted_some (x ∷ some) all later sorted.1

kept_fit : {A : Type 0} (test : A → Bool) (all : List A) → AllByRecursion (λ x. test x ≡ true) (filter test all)
kept_fit test [] = tt
kept_fit {A} test (x ∷ all) = by_test (test x) refl (kept_fit test all)
  where
    by_test : (b : Bool) → test x ≡ b → AllByRecursion (λ y. test y ≡ true) (filter test all) → AllByRecursion (λ y. test y ≡ true) (cond b (x ∷ filter test all) (filter test all))
    by_test true is rest = (is, rest)
    by_test false is rest = rest

module _ (shape : TableTree) where
  abbrev Fits : Entry → Type 0
  Fits at = fits (Some shape) 0 at ≡ true

  own_key : (at : Entry) → Fits at → same_key (key_of shape at.1) at.0 ≡ true
  own_key at fit = (and_parts (has_columns shape.columns at.1) (same_key (key_of shape at.1) at.0) fit).1

  away : (at other : Entry) → Fits at → Fits other → key_cmp at.0 other.0 ≡ Less → same_key (key_of shape other.1) (key_of shape at.1) ≡ false
  away at other fit fit_other below = by_test (same_key (key_of shape other.1) (key_of shape at.1)) refl
    where
      by_test : (b : Bool) → same_key (key_of shape other.1) (key_of shape at.1) ≡ b → b ≡ false
      by_test false is = refl
      by_test true is =
          let meets : same_key at.0 other.0 ≡ true =
          same_on at.0 (key_of shape at.1) other.0 (same_back (key_of shape at.1) at.0 (own_key at fit))
          (same_on (key_of shape at.1) (key_of shape other.1) other.0 (same_back (key_of shape other.1) (key_of shape at.1) is) (own_key other fit_other)) in
          let no : false ≡ true = sym (ap is_eq below) ∙ meets in cc

  all_away : (at : Entry) → Fits at → (entries : List Entry) → AllByRecursion (λ (other : Entry). key_cmp at.0 other.0 ≡ Less) entries → AllByRecursion Fits entries
      → AllByRecursion (λ (other : Row). same_key (key_of shape other) (key_of shape at.1) ≡ false) (map (λ (other : Entry). other.1) entries)
  all_away at fit [] below fit_others = tt
  all_away at fit (other ∷ entries) below fit_others = (away at other fit fit_others.0 below.0, all_away at fit entries below.1 fit_others.1)

  are_apart : (entries : List Entry) → Sorted entries → AllByRecursion Fits entries → AreApart shape (map (λ (at : Entry). at.1) entries)
  unfolding IsStrictlySortedBy
  are_apart [] sorted fit = tt
  are_apart (at ∷ entries) sorted fit = (all_away at fit.0 entries sorted.0 fit.1, are_apart entries sorted.1 fit.1)

  module _ (part : List Exchange) (range : KeyRange) (hold : Hold) (lock : KeyPart) where
    are_taken : (entries : List Entry) → AllByRecursion (ToldThere part range hold lock) entries → AllByRecursion Fits entries → AllByRecursion (IsTaken part range hold lock shape) (map (λ (at : Entry). at.1) entries)
    are_taken [] told fit = tt
    are_taken (at ∷ entries) told fit = ((at, refl, own_key at fit.0, told.0.1), are_taken entries told.1 fit.1)

pub taken_told : TakenTold
taken_told part range hold lock shape image rows told some =
    let kept : List Entry = filter (fits (Some shape) 0) told.0 in
    let few = picked (λ (at : Entry). at.1) rows kept (subst (λ (image : List Row). AreSome rows image) told.3 some) in
    let among : AreSome few.0 told.0 = some_of_some few.0 kept told.0 few.2 (some_filter (fits (Some shape) 0) told.0) in
    let sorted : Sorted few.0 = sorted_some few.0 told.0 among told.1 in
    let fit : AllByRecursion (Fits shape) few.0 = all_of_some (Fits shape) few.0 kept few.2 (kept_fit (fits (Some shape) 0) told.0) in
    subst (λ (rows : List Row). AllByRecursion (IsTaken part range hold lock shape) rows × AreApart shape rows) (sym few.1)
    (are_taken shape part range hold lock few.0 (all_of_some (ToldThere part range hold lock) few.0 told.0 among told.2) fit, are_apart shape few.0 sorted fit)

-- ---- no two at one key

module _ (shape : TableTree) where
  abbrev Away : Row → Row → Type 0
  Away row other = same_key (key_of shape other) (key_of shape row) ≡ false

  apart_key : (row old : Row) → Away row old → same_key (key_of shape old) (key_of shape row) ≡ true → ⊥
  apart_key row old away at = absurd (let no : false ≡ true = sym away ∙ at in cc)

  -- of rows that go
  none_gone : (row : Row) (rows : List Row) → AllByRecursion (Away row) rows → NoneOld (key_of shape) (rows_gone rows) (key_of shape row)
  none_gone row [] all old none at = none
  none_gone row (other ∷ rows) all old (inl here) at = let same : other ≡ old = cc in apart_key row old (subst (Away row) same all.0) at
  none_gone row (other ∷ rows) all old (inr later) at = none_gone row rows all.1 old later at

  gone_apart : (rows : List Row) → AreApart shape rows → OldsApart (key_of shape) (rows_gone rows)
  gone_apart [] apart = tt
  gone_apart (row ∷ rows) apart =
      ((λ old is. let same : row ≡ old = cc in subst (λ (r : Row). NoneOld (key_of shape) (rows_gone rows) (key_of shape r)) same (none_gone row rows apart.0)), gone_apart rows apart.1)

  -- of rows that are set
  none_set : (row : Row) (olds news : List Row) → AllByRecursion (Away row) olds → NoneOld (key_of shape) (rows_set olds news) (key_of shape row)
  none_set row [] news all old none at = none
  none_set row (other ∷ olds) [] all old none at = none
  none_set row (other ∷ olds) (new ∷ news) all old (inl here) at = let same : other ≡ old = cc in apart_key row old (subst (Away row) same all.0) at
  none_set row (other ∷ olds) (new ∷ news) all old (inr later) at = none_set row olds news all.1 old later at

  set_apart : (olds news : List Row) → AreApart shape olds → OldsApart (key_of shape) (rows_set olds news)
  set_apart [] news apart = tt
  set_apart (row ∷ olds) [] apart = tt
  set_apart (row ∷ olds) (new ∷ news) apart =
      ((λ old is. let same : row ≡ old = cc in subst (λ (r : Row). NoneOld (key_of shape) (rows_set olds news) (key_of shape r)) same (none_set row olds news apart.0)), set_apart olds news apart.1)

  -- and of those that come
  added_apart : (rows : List Row) → OldsApart (key_of shape) (rows_added rows)
  added_apart [] = tt
  added_apart (row ∷ rows) = ((λ old is. absurd (let no : None ≡ Some old = is in cc)), added_apart rows)

pub taken_apart : TakenApart
taken_apart shape (Inserted rows) apart = added_apart shape rows
taken_apart shape (Set olds news) apart = set_apart shape olds news apart
taken_apart shape (Erased rows) apart = gone_apart shape rows apart
