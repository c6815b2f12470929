-- Which tables of a query are fetched, by those of its inner queries.
use Rattle.std.proofs.Common.{◌≡◌, Bool, true, false, List, [], ◌∷◌, map, refl, sym, ap, ◌∙◌}
use Rattle.std.specs.Prelude.{◌||◌}
use Rattle.std.specs.List.{list_any}
use Rattle.std.proofs.lemmas.List.Folds.{list_any-append}
use Rattle.value_types.specs.declared.table_name.TableName.{TableName}
use Rattle.bound_tree.specs.declared.query.BoundQuery.{BoundQuery, out-BoundQuery}
use Rattle.bound_tree.specs.declared.query.InnerQuery.{InnerQuery, out-InnerQuery}
use Rattle.bound_tree.specs.declared.query.Reference.{Reference}
use Rattle.query_eval.specs.Given.{tables_read}
use Rattle.query_eval.proofs.TablesRead as query
use Rattle.dml_exec.specs.Reading.{inner_tables}

module _ (test : TableName → Bool) where
  abbrev Any : List TableName → Bool
  Any tables = list_any test tables

  any_refs : (refs : List Reference) → Any (map (λ ref. ref.table) refs) ≡ list_any (λ ref. test ref.table) refs
  any_refs [] = refl
  any_refs (ref ∷ refs) = ap (λ b. test ref.table || b) (any_refs refs)

  any_inner : (inner : List InnerQuery) → Any (query.inner_tables inner) ≡ Any (inner_tables inner)
  any_inner [] = refl
  any_inner (of ∷ rest) =
      list_any-append test (tables_read (out-InnerQuery of).query) (query.inner_tables rest)
      ∙ ap (λ b. Any (tables_read (out-InnerQuery of).query) || b) (any_inner rest)
      ∙ sym (list_any-append test (tables_read (out-InnerQuery of).query) (inner_tables rest))

  -- one of its inner queries', or of its own
  pub any_of_query : (of : BoundQuery) → Any (tables_read of) ≡ (Any (inner_tables (out-BoundQuery of).inner) || list_any (λ ref. test ref.table) (out-BoundQuery of).refs)
  any_of_query of =
      ap Any (query.tables_are of)
      ∙ list_any-append test (query.inner_tables (out-BoundQuery of).inner) (map (λ ref. ref.table) (out-BoundQuery of).refs)
      ∙ ap (λ b. b || Any (map (λ ref. ref.table) (out-BoundQuery of).refs)) (any_inner (out-BoundQuery of).inner)
      ∙ ap (λ b. Any (inner_tables (out-BoundQuery of).inner) || b) (any_refs (out-BoundQuery of).refs)

  module _ (of : BoundQuery) (inner : List InnerQuery) (within : Bool) (is_within : within ≡ Any (inner_tables inner)) (are_inner : inner ≡ (out-BoundQuery of).inner) where
    parts : Any (tables_read of) ≡ (within || list_any (λ ref. test ref.table) (out-BoundQuery of).refs)
    parts = any_of_query of ∙ ap (λ b. b || list_any (λ ref. test ref.table) (out-BoundQuery of).refs) (ap (λ (l : List InnerQuery). Any (inner_tables l)) (sym are_inner) ∙ sym is_within)

    -- where one of its inner queries' is, and where none is
    pub within_is : within ≡ true → within ≡ Any (tables_read of)
    within_is some = some ∙ sym (parts ∙ ap (λ b. b || list_any (λ ref. test ref.table) (out-BoundQuery of).refs) some)

    pub own_is : (refs : List Reference) (own : Bool) → within ≡ false → own ≡ list_any (λ ref. test ref.table) refs → refs ≡ (out-BoundQuery of).refs → own ≡ Any (tables_read of)
    own_is refs own none is are_own =
        is ∙ ap (λ (l : List Reference). list_any (λ ref. test ref.table) l) are_own ∙ sym (parts ∙ ap (λ b. b || list_any (λ ref. test ref.table) (out-BoundQuery of).refs) none)
