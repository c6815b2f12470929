-- The references of a query, by those of its inner queries.
use Rattle.std.proofs.Common.{◌≡◌, ℕ, ◌+◌, ◌<◌, List, [], ◌∷◌, ◌++◌, map, length, get_or, take, refl, sym, ap, ◌∙◌}
use Rattle.std.proofs.lemmas.List.{map-append, append-nil, append_assoc, take_more}
use Rattle.std.specs.List.{flat_map}
use Rattle.value_types.specs.declared.table_name.TableName.{TableName}
use Rattle.bound_tree.specs.declared.query.BoundQuery.{BoundQuery, out-BoundQuery}
use Rattle.bound_tree.specs.declared.query.BoundQuery.TheFolds.{fold-InnerQuery, fold_out-BoundQuery, fold_out-InnerQuery}
use Rattle.bound_tree.specs.declared.query.InnerQuery.{InnerQuery, out-InnerQuery}
use Rattle.bound_tree.specs.declared.query.Reference.{Reference}
use Rattle.query_eval.specs.Ans.{references_of}
use Rattle.query_eval.specs.Given.{tables_read}

-- the tables of inner queries
abbrev pub inner_tables : List InnerQuery → List TableName
inner_tables [] = []
inner_tables (inner ∷ rest) = tables_read (out-InnerQuery inner).query ++ inner_tables rest

abbrev own_tables : List Reference → List TableName
own_tables refs = map (λ ref. ref.table) refs

abbrev inner_references : InnerQuery → List Reference
inner_references = fold-InnerQuery (List Reference) (List Reference) (λ query. flat_map (λ refs. refs) query.inner ++ query.refs) (λ inner. inner.query)

of_inner : (inner : InnerQuery) → inner_references inner ≡ references_of (out-InnerQuery inner).query
of_inner inner = fold_out-InnerQuery _ _ _ _ inner

of_inners : (inners : List InnerQuery) → own_tables (flat_map (λ refs. refs) (map inner_references inners)) ≡ inner_tables inners
of_inners [] = refl
of_inners (inner ∷ rest) =
    map-append (λ ref. ref.table) (inner_references inner) (flat_map (λ refs. refs) (map inner_references rest))
    ∙ ap (λ (l : List Reference). own_tables l ++ own_tables (flat_map (λ refs. refs) (map inner_references rest))) (of_inner inner)
    ∙ ap (λ (l : List TableName). tables_read (out-InnerQuery inner).query ++ l) (of_inners rest)

-- its inner queries' tables, and then its own
pub tables_are : (query : BoundQuery) → tables_read query ≡ inner_tables (out-BoundQuery query).inner ++ own_tables (out-BoundQuery query).refs
tables_are query =
    ap own_tables (fold_out-BoundQuery _ _ _ _ query)
    ∙ map-append (λ ref. ref.table) (flat_map (λ refs. refs) (map inner_references (out-BoundQuery query).inner)) (out-BoundQuery query).refs
    ∙ ap (λ (l : List TableName). l ++ own_tables (out-BoundQuery query).refs) (of_inners (out-BoundQuery query).inner)

pub inner_append : (one two : List InnerQuery) → inner_tables (one ++ two) ≡ inner_tables one ++ inner_tables two
inner_append [] two = refl
inner_append (inner ∷ rest) two = ap (λ (l : List TableName). tables_read (out-InnerQuery inner).query ++ l) (inner_append rest two) ∙ sym (append_assoc (tables_read (out-InnerQuery inner).query) (inner_tables rest) (inner_tables two))

-- one inner query more
pub next_inner : (inners : List InnerQuery) (i : ℕ) (inner : InnerQuery) → inner ≡ get_or inners i inner → i < length inners → inner_tables (take (i + 1) inners) ≡ inner_tables (take i inners) ++ tables_read (out-InnerQuery inner).query
next_inner inners i inner is within =
    ap inner_tables (take_more inners i inner within ∙ ap (λ (x : InnerQuery). take i inners ++ x ∷ []) (sym is))
    ∙ inner_append (take i inners) (inner ∷ []) ∙ ap (λ (l : List TableName). inner_tables (take i inners) ++ l) (append-nil (tables_read (out-InnerQuery inner).query))

-- what was added behind what was there before it
pub one_more : {new now all : List TableName} (old mid own : List TableName) → new ≡ now ++ own → now ≡ old ++ mid → all ≡ mid ++ own → new ≡ old ++ all
one_more old mid own added so_far whole =
    added ∙ ap (λ (l : List TableName). l ++ own) so_far ∙ append_assoc old mid own ∙ ap (λ (l : List TableName). old ++ l) (sym whole)
