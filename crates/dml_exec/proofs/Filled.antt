-- A row that is filled: what is left to be given, onto the row so far, gives what the whole gives.
use Rattle.std.proofs.Common.{◌≡◌, sym, ap, ◌∙◌, ℕ, ◌+◌, ◌-◌, ◌<◌, ◌≤◌, List, ◌∷◌, length, map, take, drop, get_or, Ok}
use Rattle.std.proofs.lemmas.List.{drop_more}
use Rattle.std.specs.List.{zip}
use Rattle.value_types.specs.declared.value.Value.{Value}
use Rattle.tsql_tree.specs.declared.definition.ColumnTree.{ColumnTree}
use Rattle.bound_tree.specs.Outcomes.{Outcome, after}
use Rattle.dml_exec.specs.declared.fault.Stop.{Stop}
use Rattle.dml_exec.specs.Filling.{Row, Given, filled, with_given}
use Rattle.dml_exec.proofs.Each.{FindsFault, fault_first, fault_same}
use Rattle.dml_exec.proofs.Pairs.{rest_is, none_of, zip_nil}

module _ (columns : List ColumnTree) {A : Type 0} (f : A → Outcome Value) (places : List ℕ) (xs : List A) (row : Row) (whole : Outcome Row) (i : ℕ)
    (so_far : filled columns (zip (drop i places) (map f xs)) row ≡ whole) where
  -- no value is left
  pub pair_none : length xs < 1 → whole ≡ Ok row
  pair_none short = sym so_far ∙ ap (λ (ys : List A). filled columns (zip (drop i places) (map f ys)) row) (none_of xs short) ∙ ap (λ (zs : List Given). filled columns zs row) (zip_nil (drop i places))

  module _ (x : A) (below : i < length places) (some : 1 ≤ length xs) (is : x ≡ get_or xs 0 x) where
    abbrev given : Given
    given = (get_or places i 0, f x)

    abbrev rest : List Given
    rest = zip (drop (i + 1) places) (map f (take (length xs - 1) (drop 1 xs)))

    here : filled columns (given ∷ rest) row ≡ whole
    here =
        sym (ap (λ (ps : List ℕ). filled columns (zip ps (map f xs)) row) (drop_more places i 0 below)
        ∙ ap (λ (ys : List A). filled columns (zip (get_or places i 0 ∷ drop (i + 1) places) (map f ys)) row) (rest_is xs x some is))
        ∙ so_far

    -- the next value is stored
    pub pair_more : (more : Row) → with_given columns given row ≡ Ok more → filled columns rest more ≡ whole
    pair_more more gives = sym (ap (λ (o : Outcome Row). after o (λ next. filled columns rest next)) gives) ∙ here

    -- it has a fault
    pub pair_fault : (stop : Stop) → FindsFault stop (with_given columns given row) → FindsFault stop whole
    pair_fault stop gives = fault_same stop (filled columns (given ∷ rest) row) whole here (fault_first stop (with_given columns given row) (λ next. filled columns rest next) gives)
