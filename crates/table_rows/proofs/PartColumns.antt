-- The columns of index parts by their places: those of each UNIQUE, and behind them those of each FOREIGN KEY.
use Rattle.std.proofs.Common.{◌≡◌, sym, ap, ◌∙◌, ℕ, zero, suc, ◌-◌, List, [], ◌∷◌, ◌++◌, length, map, slice_get, Some, None, arith}
use Rattle.std.specs.Option.{option_map}
use Rattle.std.proofs.lemmas.Option.{slice_get-map}
use Rattle.tsql_tree.specs.declared.definition.ForeignTree.{ForeignTree}
use Rattle.tsql_tree.specs.declared.definition.KeyTree.{KeyTree}
use Rattle.tsql_tree.specs.declared.definition.TableTree.{TableTree}
use Rattle.table_rows.specs.Rows.{index_columns}

-- what one of the first list gives stands there in front of the second
at_front : {A B : Type 0} (f : A → B) (xs : List A) (ys : List B) (place : ℕ) (y : B) → option_map f (slice_get xs place) ≡ Some y → Some y ≡ slice_get (map f xs ++ ys) place
at_front f [] ys place y is = absurd (let no : None ≡ Some y = is in cc)
at_front f (x ∷ xs) ys zero y is = sym is
at_front f (x ∷ xs) ys (suc place) y is = at_front f xs ys place y is

-- and behind the first list the second begins
at_behind : {A B : Type 0} (f : A → B) (xs : List A) (ys : List B) (place : ℕ) → option_map f (slice_get xs place) ≡ None → slice_get ys (place - length xs) ≡ slice_get (map f xs ++ ys) place
at_behind f [] ys place is = ap (slice_get ys) (omega arith)
at_behind f (x ∷ xs) ys zero is = absurd (let no : Some (f x) ≡ None = is in cc)
at_behind f (x ∷ xs) ys (suc place) is = ap (slice_get ys) (omega arith) ∙ at_behind f xs ys place is

module _ (shape : TableTree) (place : ℕ) where
  pub unique_part : (names : List (List ℕ)) → option_map (λ (unique : KeyTree). unique.columns) (slice_get shape.uniques place) ≡ Some names → Some names ≡ slice_get (index_columns shape) place
  unfolding index_columns
  unique_part names is = at_front (λ (unique : KeyTree). unique.columns) shape.uniques (map (λ (foreign : ForeignTree). foreign.columns) shape.foreigns) place names is

  pub foreign_part : option_map (λ (unique : KeyTree). unique.columns) (slice_get shape.uniques place) ≡ None
      → option_map (λ (foreign : ForeignTree). foreign.columns) (slice_get shape.foreigns (place - length shape.uniques)) ≡ slice_get (index_columns shape) place
  unfolding index_columns
  foreign_part none =
      sym (slice_get-map (λ (foreign : ForeignTree). foreign.columns) shape.foreigns (place - length shape.uniques))
      ∙ at_behind (λ (unique : KeyTree). unique.columns) shape.uniques (map (λ (foreign : ForeignTree). foreign.columns) shape.foreigns) place none
