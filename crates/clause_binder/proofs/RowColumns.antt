-- The column at a place of a row: the columns of tables one after another.
use Rattle.std.proofs.Common.{◌≡◌, ℕ, zero, suc, ◌+◌, ◌-◌, ◌<◌, ◌≤◌, List, [], ◌∷◌, ◌++◌, length, get_or, drop, Some, None, refl, sym, arith, add-one, drop-cons}
use Rattle.std.specs.Prelude.{slice_get}
use Rattle.std.proofs.lemmas.Option.{none-some}
use Rattle.tsql_tree.specs.declared.definition.ColumnTree.{ColumnTree}
use Rattle.clause_binder.specs.Scope.{TableSource, columns_in}

-- what is in the first part of a list
in_first : {A : Type 0} (xs ys : List A) (i : ℕ) (x : A) → slice_get xs i ≡ Some x → slice_get (xs ++ ys) i ≡ Some x
in_first [] ys i x is = absurd (none-some x is)
in_first (a ∷ xs) ys zero x is = is
in_first (a ∷ xs) ys (suc i) x is = in_first xs ys i x is

-- what is behind it
in_second : {A : Type 0} (xs ys : List A) (i : ℕ) → slice_get xs i ≡ None → slice_get (xs ++ ys) i ≡ slice_get ys (i - length xs)
in_second [] ys i is = let e : i - 0 ≡ i = omega arith in rw e refl
in_second (a ∷ xs) ys zero is = absurd (none-some a (sym is))
in_second (a ∷ xs) ys (suc i) is =
    let e : suc i - suc (length xs) ≡ i - length xs = omega arith in
    rw e (in_second xs ys i is)

pub is_past : {A : Type 0} (xs : List A) (i : ℕ) → slice_get xs i ≡ None → length xs ≤ i
is_past [] i is = omega arith
is_past (a ∷ xs) zero is = absurd (none-some a (sym is))
is_past (a ∷ xs) (suc i) is = let past : length xs ≤ i = is_past xs i is in omega arith

pub found_here : (sources : List TableSource) (i : ℕ) (d source : TableSource) (place : ℕ) (x : ColumnTree) → i < length sources
    → source ≡ get_or sources i d → slice_get source.columns place ≡ Some x → slice_get (columns_in (drop i sources)) place ≡ Some x
found_here sources i d source place x within is found =
    rw (drop-cons sources i d) (rw (← is) (in_first source.columns (columns_in (drop (suc i) sources)) place x found))

pub found_behind : (sources : List TableSource) (i : ℕ) (d source : TableSource) (place : ℕ) → i < length sources
    → source ≡ get_or sources i d → slice_get source.columns place ≡ None
    → slice_get (columns_in (drop (i + 1) sources)) (place - length source.columns) ≡ slice_get (columns_in (drop i sources)) place
found_behind sources i d source place within is none =
    rw add-one (rw (drop-cons sources i d) (rw (← is) (sym (in_second source.columns (columns_in (drop (suc i) sources)) place none))))
