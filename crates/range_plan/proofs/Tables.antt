-- The tables of the ranges of a query are those of its references, by induction over the query.
use Rattle.std.proofs.Common.{◌≡◌, refl, sym, ap, ◌∙◌, subst, ℕ, List, [], ◌∷◌, ◌++◌, map, Bool}
use Rattle.std.specs.Prelude.{◌+◌}
use Rattle.std.specs.List.{flat_map}
use Rattle.std.proofs.lemmas.List.{map-append}
use Rattle.value_types.specs.declared.table_name.TableName.{TableName}
use Rattle.value_types.specs.declared.value.Value.{Value}
use Rattle.bound_tree.specs.declared.query.BoundQuery.{BoundQuery}
use Rattle.bound_tree.specs.declared.query.BoundQuery.TheOpen.{BoundQuery-F, InnerQuery-F}
use Rattle.bound_tree.specs.declared.query.BoundQuery.TheFolds.{fold-InnerQuery, ind-BoundQuery, map-BoundQuery, fold-roll-BoundQuery, fold-roll-InnerQuery}
use Rattle.bound_tree.specs.declared.query.BoundQuery.TheViews.{roll-BoundQuery, roll-InnerQuery}
use Rattle.bound_tree.specs.declared.query.InnerQuery.{InnerQuery}
use Rattle.bound_tree.specs.declared.query.JoinKind.{JoinKind}
use Rattle.bound_tree.specs.declared.query.JoinKind.TheVariants.{Inner, Left, Cross}
use Rattle.bound_tree.specs.declared.query.Reference.{Reference}
use Rattle.step_model.specs.declared.range.KeyRange.{KeyRange}
use Rattle.query_eval.specs.declared.key_tests.ColumnTest.{ColumnTest}
use Rattle.query_eval.specs.KeyTests.{where_tests}
use Rattle.query_eval.specs.Ans.{references_of}
use Rattle.query_eval.specs.Given.{tables_read}
use Rattle.range_plan.specs.OnRanges.{inner_ranges, range_joined, ranges_among, ranges_behind, ranges_of, ranges_of_inner, ranges_step}

abbrev tables : List KeyRange → List TableName
tables ranges = map (λ range. range.table) ranges

abbrev own_tables : List Reference → List TableName
own_tables refs = map (λ ref. ref.table) refs

-- ---- of references

joined_table : (tests : List ColumnTest) (first : ℕ) (ref : Reference) (kind : JoinKind) → (range_joined tests first ref kind).table ≡ ref.table
joined_table tests first ref Inner = refl
joined_table tests first ref Left = refl
joined_table tests first ref Cross = refl

behind_tables : (tests : List ColumnTest) (refs : List Reference) (first : ℕ) → tables (ranges_behind tests first refs) ≡ own_tables refs
behind_tables tests [] first = refl
behind_tables tests (ref ∷ refs) first =
    ap (λ (t : TableName). t ∷ tables (ranges_behind tests (first + ref.width) refs)) (joined_table tests first ref ref.join)
    ∙ ap (λ (l : List TableName). ref.table ∷ l) (behind_tables tests refs (first + ref.width))

among_tables : (tests : List ColumnTest) (refs : List Reference) → tables (ranges_among tests refs) ≡ own_tables refs
among_tables tests [] = refl
among_tables tests (ref ∷ refs) = ap (λ (l : List TableName). ref.table ∷ l) (behind_tables tests refs ref.width)

-- ---- of queries

module _ (vars : List Value) where
  abbrev inner_references : InnerQuery → List Reference
  inner_references = fold-InnerQuery (List Reference) (List Reference) (λ query. flat_map (λ refs. refs) query.inner ++ query.refs) (λ inner. inner.query)

  abbrev P : BoundQuery → Type 0
  P query = tables (ranges_of vars query) ≡ own_tables (references_of query)

  abbrev I : InnerQuery → Type 0
  I inner = tables (inner_ranges vars inner) ≡ own_tables (inner_references inner)

  abbrev Below : Type 0
  Below = (i : InnerQuery) × I i

  abbrev ranges_within : List Below → List KeyRange
  ranges_within inners = flat_map (λ ranges. ranges) (map (inner_ranges vars) (map (λ i. i.0) inners))

  abbrev references_within : List Below → List Reference
  references_within inners = flat_map (λ refs. refs) (map inner_references (map (λ i. i.0) inners))

  within_tables : (inners : List Below) → tables (ranges_within inners) ≡ own_tables (references_within inners)
  within_tables [] = refl
  within_tables (inner ∷ inners) =
      map-append (λ range. range.table) (inner_ranges vars inner.0) (ranges_within inners)
      ∙ ap (λ (l : List TableName). l ++ tables (ranges_within inners)) inner.1
      ∙ ap (λ (l : List TableName). own_tables (inner_references inner.0) ++ l) (within_tables inners)
      ∙ sym (map-append (λ ref. ref.table) (inner_references inner.0) (references_within inners))

  abbrev QueryBelow : Type 0
  QueryBelow = BoundQuery-F ((q : BoundQuery) × P q) Below

  abbrev queries_below : QueryBelow → BoundQuery-F BoundQuery InnerQuery
  queries_below = map-BoundQuery _ _ BoundQuery InnerQuery (λ q. q.0) (λ i. i.0)

  query_layer : (y : QueryBelow) → P (roll-BoundQuery (queries_below y))
  query_layer y =
      let z = queries_below y in
      let tests = where_tests vars y.filter in
      let ranges = fold-roll-BoundQuery (List KeyRange) (List KeyRange) (ranges_step vars) ranges_of_inner z in
      let references = fold-roll-BoundQuery (List Reference) (List Reference) (λ query. flat_map (λ refs. refs) query.inner ++ query.refs) (λ inner. inner.query) z in
      ap (λ (l : List KeyRange). tables l) ranges
      ∙ map-append (λ range. range.table) (ranges_within y.inner) (ranges_among tests y.refs)
      ∙ ap (λ (l : List TableName). l ++ tables (ranges_among tests y.refs)) (within_tables y.inner)
      ∙ ap (λ (l : List TableName). own_tables (references_within y.inner) ++ l) (among_tables tests y.refs)
      ∙ sym (map-append (λ ref. ref.table) (references_within y.inner) y.refs)
      ∙ ap (λ (l : List Reference). own_tables l) (sym references)

  inner_layer : (query : BoundQuery) (single : Bool) → P query → I (roll-InnerQuery (record { query = query; single = single }))
  inner_layer query single p =
      let i : InnerQuery-F BoundQuery InnerQuery = record { query = query; single = single } in
      ap (λ (l : List KeyRange). tables l) (fold-roll-InnerQuery (List KeyRange) (List KeyRange) (ranges_step vars) ranges_of_inner i)
      ∙ p
      ∙ ap (λ (l : List Reference). own_tables l) (sym (fold-roll-InnerQuery (List Reference) (List Reference) (λ query. flat_map (λ refs. refs) query.inner ++ query.refs) (λ inner. inner.query) i))

  pub query_tables : (query : BoundQuery) → tables (ranges_of vars query) ≡ tables_read query
  query_tables = ind-BoundQuery P I
      (λ x y is. subst (λ z. P (roll-BoundQuery z)) is (query_layer y))
      (λ x y is. subst (λ z. I (roll-InnerQuery z)) is (inner_layer y.query.0 y.single y.query.1))
