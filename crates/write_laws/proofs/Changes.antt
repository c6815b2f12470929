-- The changes of rows that have their columns are right by themselves.
use Rattle.std.proofs.Common.{◌≡◌, refl, sym, ap, ◌∙◌, subst, ℕ, Bool, true, false, if◌then◌else◌, cond, List, [], ◌∷◌, ◌++◌, length, map, filter, zip, arith, Option, Some, None, append-nil}
use Rattle.std.proofs.lemmas.Bool.{and_from}
use Rattle.std.specs.Prelude.{IsTrue, filter_map}
use Rattle.std.specs.Cmp.{tied_itself}
use Rattle.std.specs.List.{AllByRecursion, flat_map}
use Rattle.std.specs.Option.{ForSome}
use Rattle.std.specs.Ordering.{is_eq}
use Rattle.value_types.specs.declared.table_name.TableName.{TableName}
use Rattle.value_types.specs.declared.value.Value.{Value}
use Rattle.value_types.specs.OrderLaws.{key_cmp_total}
use Rattle.tsql_tree.specs.declared.definition.TableTree.{TableTree}
use Rattle.tsql_tree.specs.Places.{key_places}
use Rattle.bound_tree.specs.declared.expr.BoundTest.{BoundTest}
use Rattle.step_model.specs.declared.change.Deed.TheVariants.{Replace}
use Rattle.step_model.specs.declared.change.Planned.{Planned}
use Rattle.step_model.specs.Own.{row_of}
use Rattle.table_rows.specs.Rows.{has_columns, row_fits, rows_table, same_key, values_at}
use Rattle.constraint_check.specs.Local.{first_local}
use Rattle.constraint_check.specs.Reads.{is_erase}
use Rattle.query_laws.specs.Laws.{AllOf}
use Rattle.query_laws.proofs.Lists.{all_zip}
use Rattle.dml_exec.specs.declared.rewritten.Rewritten.{Rewritten}
use Rattle.dml_exec.specs.declared.rewritten.Rewritten.TheVariants.{Inserted, Set, Erased}
use Rattle.dml_exec.specs.Filling.{Row}
use Rattle.dml_exec.specs.Planning.{changes_of, erasure, insertion, moved, new_rows, rewrite, stays}
use Rattle.write_laws.specs.Planning.{IsRight}

-- ---- lists

pub all_both : {A : Type 0} (P : A → Type 0) (xs ys : List A) → AllByRecursion P xs → AllByRecursion P ys → AllByRecursion P (xs ++ ys)
all_both P [] ys h g = g
all_both P (x ∷ xs) ys h g = (h.0, all_both P xs ys h.1 g)

-- of each that is made of one
all_made : {A B : Type 0} (Q : A → Type 0) (P : B → Type 0) (f : A → B) → ((x : A) → Q x → P (f x)) → (xs : List A) → AllOf Q xs → AllByRecursion P (map f xs)
all_made Q P f makes [] all = tt
all_made Q P f makes (x ∷ xs) all = (makes x all.0, all_made Q P f makes xs all.1)

all_any : {A B : Type 0} (P : B → Type 0) (f : A → B) → ((x : A) → P (f x)) → (xs : List A) → AllByRecursion P (map f xs)
all_any P f makes [] = tt
all_any P f makes (x ∷ xs) = (makes x, all_any P f makes xs)

-- of each that is made of several
all_several : {A B : Type 0} (P : B → Type 0) (f : A → List B) → ((x : A) → AllByRecursion P (f x)) → (xs : List A) → AllByRecursion P (flat_map f xs)
all_several P f makes [] = tt
all_several P f makes (x ∷ xs) = all_both P (f x) (flat_map f xs) (makes x) (all_several P f makes xs)

pub all_kept : {A : Type 0} (p : A → Bool) (xs : List A) → AllByRecursion (λ x. p x ≡ true) xs → filter p xs ≡ xs
all_kept p [] all = refl
all_kept p (x ∷ xs) all = rw (all.0, all_kept p xs all.1) refl

pub none_kept : {A : Type 0} (p : A → Bool) (xs : List A) → AllByRecursion (λ x. p x ≡ false) xs → filter p xs ≡ []
none_kept p [] all = refl
none_kept p (x ∷ xs) all = rw (all.0, none_kept p xs all.1) refl

pub kept_both : {A : Type 0} (p : A → Bool) (xs ys : List A) → filter p (xs ++ ys) ≡ filter p xs ++ filter p ys
kept_both p [] ys = refl
kept_both {A} p (x ∷ xs) ys = by_test (p x) (kept_both p xs ys)
  where
    by_test : (b : Bool) → filter p (xs ++ ys) ≡ filter p xs ++ filter p ys → cond b (x ∷ filter p (xs ++ ys)) (filter p (xs ++ ys)) ≡ cond b (x ∷ filter p xs) (filter p xs) ++ filter p ys
    by_test true rest = ap (λ (list : List A). x ∷ list) rest
    by_test false rest = rest

seconds : {A B : Type 0} (xs : List A) (ys : List B) → length ys ≡ length xs → map (λ pair. pair.1) (zip xs ys) ≡ ys
seconds [] [] same = refl
seconds [] (y ∷ ys) same = absurd (omega (arith, same))
seconds (x ∷ xs) [] same = absurd (omega (arith, same))
seconds (x ∷ xs) (y ∷ ys) same = ap (λ rest. y ∷ rest) (seconds xs ys (omega (arith, same)))

-- ---- rows

-- the row has the table's columns
abbrev pub HasColumns : TableTree → Row → Type 0
HasColumns shape row = has_columns shape.columns row ≡ true

-- the rows that a write leaves have; those that are set are as many as they were
abbrev pub AreNew : TableTree → Rewritten → Type 0
AreNew shape (Inserted rows) = AllOf (HasColumns shape) rows
AreNew shape (Set olds news) = AllOf (HasColumns shape) news × (length news ≡ length olds)
AreNew shape (Erased rows) = Unit {0}

-- ---- changes

module _ (shape : TableTree) (checks : List BoundTest) (table : TableName) (named : table ≡ rows_table shape.name) where
  abbrev key : List ℕ
  key = key_places (Some shape)

  abbrev IsOfTable : Planned → Type 0
  IsOfTable change = change.table ≡ rows_table shape.name

  abbrev FitsThere : Planned → Type 0
  FitsThere change = ForSome (row_of change.deed) (λ row. IsTrue (row_fits shape 0 change.key row))

  abbrev left_row : Planned → Option Row
  left_row change = row_of change.deed

  -- ---- one change

  fits_there : (row at : List Value) → row_fits shape 0 at row ≡ true → ForSome (Some row) (λ left. IsTrue (row_fits shape 0 at left))
  fits_there row at fits left is = let same : row ≡ left = cc in subst (λ (r : Row). IsTrue (row_fits shape 0 at r)) same fits

  insertion_fits : (row : Row) → HasColumns shape row → FitsThere (insertion table key row)
  insertion_fits row has = fits_there row (values_at key row) (and_from (has_columns shape.columns row) (same_key (values_at key row) (values_at key row)) has (ap is_eq (tied_itself key_cmp_total (values_at key row))))

  abbrev Pair : Type 0
  Pair = Row × Row

  abbrev replacement : Pair → Planned
  replacement pair = record { table = table; key = values_at key pair.0; deed = Replace pair.1 }

  -- what is true of both ways to write a row that is set
  rewrite_either : (P : Planned → Type 0) (pair : Pair) → (stays table key pair ≡ true → P (replacement pair)) → P (insertion table key pair.1) → P (rewrite table key pair)
  rewrite_either P pair staying going = by_test (stays table key pair) refl
    where
      by_test : (b : Bool) → stays table key pair ≡ b → P (if b then replacement pair else insertion table key pair.1)
      by_test true is = staying is
      by_test false is = going

  rewrite_fits : (pair : Pair) → HasColumns shape pair.1 → FitsThere (rewrite table key pair)
  rewrite_fits pair has =
      rewrite_either FitsThere pair (λ is. fits_there pair.1 (values_at key pair.0) (and_from (has_columns shape.columns pair.1) (same_key (values_at key pair.1) (values_at key pair.0)) has is)) (insertion_fits pair.1 has)

  moved_all : (P : Planned → Type 0) → ((row : Row) → P (erasure table key row)) → (pair : Pair) → AllByRecursion P (moved table key pair)
  moved_all P erases pair = by_test (stays table key pair)
    where
      by_test : (b : Bool) → AllByRecursion P (if b then [] else erasure table key pair.0 ∷ [])
      by_test true = tt
      by_test false = (erases pair.0, tt)

  -- ---- all changes

  rows_inserted : (rows : List Row) → filter_map left_row (map (insertion table key) rows) ≡ rows
  rows_inserted [] = refl
  rows_inserted (row ∷ rows) = ap (λ rest. row ∷ rest) (rows_inserted rows)

  rows_rewritten : (pairs : List Pair) → filter_map left_row (map (rewrite table key) pairs) ≡ map (λ pair. pair.1) pairs
  rows_rewritten [] = refl
  rows_rewritten (pair ∷ pairs) =
      rewrite_either (λ change. filter_map left_row (change ∷ map (rewrite table key) pairs) ≡ pair.1 ∷ map (λ pair. pair.1) pairs) pair
      (λ is. ap (λ rest. pair.1 ∷ rest) (rows_rewritten pairs)) (ap (λ rest. pair.1 ∷ rest) (rows_rewritten pairs))

  pub changes_right : (rows : Rewritten) → AreNew shape rows → first_local (new_rows rows) shape checks ≡ None → IsRight shape checks (changes_of table key rows)
  changes_right (Inserted rows) kept alone = (
    [],
    map (insertion table key) rows,
    refl,
    record {
      of_table = all_any IsOfTable (insertion table key) (λ row. named) rows;
      erases = tt;
      writes = all_any (λ change. is_erase change.deed ≡ false) (insertion table key) (λ row. refl) rows;
      fit = all_made (HasColumns shape) FitsThere (insertion table key) insertion_fits rows kept;
      alone = ap (λ left. first_local left shape checks) (rows_inserted rows) ∙ alone;
    },
  )
  changes_right (Set olds news) kept alone = (
    flat_map (moved table key) (zip olds news),
    map (rewrite table key) (zip olds news),
    refl,
    record {
      of_table = all_both IsOfTable (flat_map (moved table key) (zip olds news)) (map (rewrite table key) (zip olds news))
          (all_several IsOfTable (moved table key) (moved_all IsOfTable (λ row. named)) (zip olds news))
          (all_any IsOfTable (rewrite table key) (λ pair. rewrite_either IsOfTable pair (λ is. named) named) (zip olds news));
      erases = all_several (λ change. is_erase change.deed ≡ true) (moved table key) (moved_all (λ change. is_erase change.deed ≡ true) (λ row. refl)) (zip olds news);
      writes = all_any (λ change. is_erase change.deed ≡ false) (rewrite table key) (λ pair. rewrite_either (λ change. is_erase change.deed ≡ false) pair (λ is. refl) refl) (zip olds news);
      fit = all_made (λ pair. HasColumns shape pair.1) FitsThere (rewrite table key) rewrite_fits (zip olds news) (all_zip (HasColumns shape) olds news kept.0);
      alone = ap (λ left. first_local left shape checks) (rows_rewritten (zip olds news) ∙ seconds olds news kept.1) ∙ alone;
    },
  )
  changes_right (Erased rows) kept alone = (
    map (erasure table key) rows,
    [],
    sym (append-nil (map (erasure table key) rows)),
    record {
      of_table = all_both IsOfTable (map (erasure table key) rows) [] (all_any IsOfTable (erasure table key) (λ row. named) rows) tt;
      erases = all_any (λ change. is_erase change.deed ≡ true) (erasure table key) (λ row. refl) rows;
      writes = tt;
      fit = tt;
      alone = alone;
    },
  )
