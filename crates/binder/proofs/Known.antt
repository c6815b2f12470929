-- Names of columns, one after another, up to the first that is none.
use Rattle.std.proofs.Common.{◌≡◌, ℕ, ◌+◌, ◌<◌, List, ◌∷◌, length, get_or, drop, true, false, Err, refl, add-one, drop-cons}
use Rattle.tsql_tree.specs.declared.definition.ColumnTree.{ColumnTree}
use Rattle.clause_binder.specs.Scope.{invalid_column}
use Rattle.binder.specs.Tables.{all_columns, has_column}

-- the next name
next : (names : List (List ℕ)) (i : ℕ) (d name : List ℕ) → i < length names → name ≡ get_or names i d → drop i names ≡ name ∷ drop (i + 1) names
next names i d name within is = rw add-one (rw (drop-cons names i d) (rw (← is) refl))

pub known_more : (columns : List ColumnTree) (names : List (List ℕ)) (i : ℕ) (d name : List ℕ) → i < length names → name ≡ get_or names i d → has_column columns name ≡ true
    → all_columns columns (drop (i + 1) names) ≡ all_columns columns (drop i names)
known_more columns names i d name within is known = rw (next names i d name within is) (rw known refl)

pub first_unknown : (columns : List ColumnTree) (names : List (List ℕ)) (i : ℕ) (d name : List ℕ) → i < length names → name ≡ get_or names i d → has_column columns name ≡ false
    → all_columns columns (drop i names) ≡ Err (invalid_column, name)
first_unknown columns names i d name within is unknown = rw (next names i d name within is) (rw unknown refl)
