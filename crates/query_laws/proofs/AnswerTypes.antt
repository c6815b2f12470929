-- What a well-formed query answers, on rows of its tables, has a value for each item, of the item's type.
use Rattle.std.proofs.lemmas.Bool.{and_from, le-leb, and_parts, eqb-true, leb-true}
use Rattle.std.proofs.lemmas.List.{append_assoc, append-nil, length-append}
use Rattle.std.proofs.Common.{◌≡◌, ◌⊎◌, inl, inr, refl, sym, ap, ◌∙◌, subst, ℕ, zero, suc, ◌+◌, ◌≤◌, ◌<◌, ◌/◌, nat_le, neg_ℤ, div-le_self, List, [], ◌∷◌, ◌++◌, map, take, drop, replicate, length, get_or, filter, zip, flat_map, All, ℤ, pos, negsuc, Bool, true, false, ◌&&◌, not, Option, Some, None, option_map, Ok, Err, arith, if◌then◌else◌, int_le, int_div, nat_eq}
use Rattle.std.specs.List.{list_all, items_where_true}
use Rattle.value_types.specs.declared.sql_type.SqlType.{SqlType}
use Rattle.value_types.specs.declared.sql_type.SqlType.TheVariants.{TinyInt, SmallInt, Int, BigInt, Bit as BitType, NText}
use Rattle.value_types.specs.declared.table_name.TableName.{TableName}
use Rattle.value_types.specs.declared.value.Value.{Value}
use Rattle.value_types.specs.declared.value.Value.TheVariants.{Null, Whole}
use Rattle.value_types.specs.Types.{IsOf, is_in_range}
use Rattle.bound_tree.specs.declared.expr.BoundExpr.{BoundExpr}
use Rattle.bound_tree.specs.declared.expr.BoundTest.{BoundTest}
use Rattle.bound_tree.specs.declared.truth.Truth.{Truth}
use Rattle.bound_tree.specs.declared.query.JoinKind.{JoinKind}
use Rattle.bound_tree.specs.declared.query.JoinKind.TheVariants.{Inner, Left, Cross}
use Rattle.bound_tree.specs.declared.query.Item.{Item}
use Rattle.bound_tree.specs.declared.query.Sum.{Sum}
use Rattle.bound_tree.specs.declared.query.SumKind.{SumKind}
use Rattle.bound_tree.specs.declared.query.SumKind.TheVariants.{CountRows, Count, Sum as Total, Avg, Min, Max}
use Rattle.bound_tree.specs.declared.query.Reference.{Reference}
use Rattle.bound_tree.specs.Truths.{is_true}
use Rattle.bound_tree.specs.Outcomes.{Outcome, after, overflow}
use Rattle.bound_tree.specs.Numbers.{value_outcome}
use Rattle.bound_tree.specs.Setting.{Setting, value_at}
use Rattle.bound_tree.specs.Meaning.{is_null, truth, value}
use Rattle.bound_tree.specs.Typed.{AreOf, Fits, Found, GivesOf, SettingTypes, TablesOf, found_of, is_as, lone_null, system_kinds, typed, unformed}
use Rattle.bound_tree.proofs.Kept.{fitted_kept, same_is}
use Rattle.bound_tree.proofs.Sound.{typed_law}
use Rattle.join_rows.specs.Joined.{Join, Row, given, joined, joined_rows}
use Rattle.join_rows.specs.Joined as pairing
use Rattle.group_rows.specs.Equals.{classes, firsts, same_row}
use Rattle.group_rows.specs.Ordered.{by_key, in_order, ordered}
use Rattle.group_rows.specs.Totals.{averaged, comes_before, first_of, known, numbers_of, sum_of, summed, total, whole}
use Rattle.bound_tree.specs.declared.query.BoundOrder.{BoundOrder}
use Rattle.query_eval.specs.Phases.{in_order_of, order_value, rows_given, class_row, class_rows, classes_of, distinct_if, each, operands_of, rows_where, same_value, sum_value, top_of, with_items}
use Rattle.std.specs.Prelude.{sum_by, fold}
use Rattle.bound_tree.specs.declared.query.BoundQuery.TheOpen.{BoundQuery-F, InnerQuery-F}
use Rattle.bound_tree.specs.declared.query.BoundQuery.TheFolds.{ind-BoundQuery, map-BoundQuery, fold-roll-BoundQuery, fold-roll-InnerQuery}
use Rattle.bound_tree.specs.declared.query.BoundQuery.TheViews.{roll-BoundQuery, roll-InnerQuery}
use Rattle.query_laws.specs.Formed as form
use Rattle.query_eval.specs.declared.key_tests.ColumnTest.{ColumnTest}
use Rattle.query_eval.specs.KeyTests.{key_tests, meets, rows_read, where_tests}
use Rattle.query_eval.specs.Joining.{Stock, image_of, images_behind, join_more, join_of, joined_refs, on_truth, truths_tried}
use Rattle.bound_tree.specs.declared.query.BoundQuery.{BoundQuery}
use Rattle.bound_tree.specs.declared.query.InnerQuery.{InnerQuery}
use Rattle.query_eval.specs.Ans.{Ans, Answers, answer_of, images_after, inner_answer, inner_rows, inner_step, own_rows, pair_limit, query_step, references_of, rows_allowed}
use Rattle.query_eval.proofs.Images.{after_both, by_last, by_steps, inner_images_left, inner_references}
use Rattle.query_laws.specs.Formed.{is_formed_where, is_formed_group, is_formed_order, QueryFound, are_formed_clauses, inner_found, query_found, are_formed_refs, row_kinds, class_kinds, items_kinds, extreme_found, is_formed_item, is_formed_sum, sum_found, total_found, types_over}
use Rattle.query_laws.specs.Laws.{AllOf, AreExactly, ImagesOf, RowsOf}
use Rattle.query_laws.proofs.Lists.{all_at, all_filter, all_firsts, all_in_order, all_of_both, all_of_each, all_of_map, all_take, all_where, all_zip, classes_below, each_gives}

-- ---- rows of types

pub exactly_are : (kinds : List SqlType) (xs : List Value) → AreExactly kinds xs → AreOf kinds xs
exactly_are [] xs h = tt
exactly_are (kind ∷ kinds) [] h = absurd h
exactly_are (kind ∷ kinds) (x ∷ xs) h = (h.0, exactly_are kinds xs h.1)

pub exactly_both : (kinds more : List SqlType) (xs ys : List Value) → AreExactly kinds xs → AreExactly more ys → AreExactly (kinds ++ more) (xs ++ ys)
exactly_both [] more [] ys h g = g
exactly_both [] more (x ∷ xs) ys h g = absurd h
exactly_both (kind ∷ kinds) more [] ys h g = absurd h
exactly_both (kind ∷ kinds) more (x ∷ xs) ys h g = (h.0, exactly_both kinds more xs ys h.1 g)

pub exactly_nulls : (kinds : List SqlType) → AreExactly kinds (replicate (length kinds) Null)
exactly_nulls [] = tt
exactly_nulls (kind ∷ kinds) = (tt, exactly_nulls kinds)

-- ---- aggregates

null_of : (kind : SqlType) → IsOf kind Null
null_of kind = tt

known_of : (to : SqlType) (values : List Value) → AllOf (IsOf to) values → AllOf (IsOf to) (known values)
known_of to values h = all_filter (IsOf to) (λ value. not (is_null value)) values h

first_is_of : (to : SqlType) (down : Bool) (values : List Value) → AllOf (IsOf to) values → IsOf to (first_of down values)
first_is_of to down values h = of_list (filter (λ value. list_all (λ other. not (comes_before down other value)) values) values)
    (all_filter (IsOf to) (λ value. list_all (λ other. not (comes_before down other value)) values) values h)
  where
    of_list : (found : List Value) → AllOf (IsOf to) found → IsOf to (value_at found 0)
    of_list [] g = tt
    of_list (x ∷ rest) g = g.0

-- an average is between its sum and zero
below_quotient : (greatest a count : ℕ) → nat_le a greatest ≡ true → nat_le (a / suc count) greatest ≡ true
below_quotient greatest a count h = le-leb _ _ (omega (arith, div-le_self a (suc count), leb-true a greatest h))

negative_quotient : (least greatest q a : ℕ) → q ≤ suc a → a ≤ least → (int_le (negsuc least) (neg_ℤ (pos q)) && int_le (neg_ℤ (pos q)) (pos greatest)) ≡ true
negative_quotient least greatest zero a le below = le-leb 0 greatest (omega arith)
negative_quotient least greatest (suc q) a le below = and_from _ _ (le-leb q least (omega (arith, le, below))) refl

between_div : (least greatest : ℕ) (n : ℤ) (count : ℕ) → (int_le (negsuc least) n && int_le n (pos greatest)) ≡ true → (int_le (negsuc least) (int_div n (pos (suc count))) && int_le (int_div n (pos (suc count))) (pos greatest)) ≡ true
between_div least greatest (pos a) count h = below_quotient greatest a count h
between_div least greatest (negsuc a) count h = negative_quotient least greatest (suc a / suc count) a (div-le_self (suc a) (suc count)) (leb-true a least (and_parts _ _ h).0)

-- a total is an INT or a BIGINT
total_to : (found : Found) (to : SqlType) → is_as (total_found found) to ≡ true → (to ≡ Int) ⊎ (to ≡ BigInt)
total_to unformed to h = cc
total_to lone_null to h = inl (sym (same_is Int to h))
total_to (typed TinyInt) to h = inl (sym (same_is Int to h))
total_to (typed SmallInt) to h = inl (sym (same_is Int to h))
total_to (typed Int) to h = inl (sym (same_is Int to h))
total_to (typed BigInt) to h = inr (sym (same_is BigInt to h))
total_to (typed BitType) to h = cc
total_to (typed (NText size)) to h = cc

-- the least and the greatest are of their operand's type
extreme_to : (found : Found) (to : SqlType) → is_as (extreme_found found) to ≡ true → is_as found to ≡ true
extreme_to unformed to h = h
extreme_to lone_null to h = refl
extreme_to (typed TinyInt) to h = h
extreme_to (typed SmallInt) to h = h
extreme_to (typed Int) to h = h
extreme_to (typed BigInt) to h = h
extreme_to (typed BitType) to h = cc
extreme_to (typed (NText size)) to h = h

summed_kept : (to : SqlType) (numbers : List ℤ) → GivesOf to (summed to numbers)
summed_kept to numbers = by_count (nat_eq (length numbers) 0)
  where
    by_count : (b : Bool) → GivesOf to (if b then Ok Null else whole to (sum_of numbers))
    by_count true = tt
    by_count false = fitted_kept to (sum_of numbers)

divided_kept : (to : SqlType) (n : ℤ) (count : ℕ) → (to ≡ Int) ⊎ (to ≡ BigInt) → GivesOf to (after (whole to n) (λ total. Ok (Whole (int_div n (pos (suc count))))))
divided_kept to n count (inl e) = subst (λ k. GivesOf k (after (whole k n) (λ total. Ok (Whole (int_div n (pos (suc count))))))) (sym e) (by_range (is_in_range Int n) refl)
  where
    by_range : (b : Bool) → is_in_range Int n ≡ b → GivesOf Int (after (value_outcome (if b then Ok (Some n) else Err overflow)) (λ total. Ok (Whole (int_div n (pos (suc count))))))
    by_range true h = between_div 2147483647 2147483647 n count h
    by_range false h = tt
divided_kept to n count (inr e) = subst (λ k. GivesOf k (after (whole k n) (λ total. Ok (Whole (int_div n (pos (suc count))))))) (sym e) (by_range (is_in_range BigInt n) refl)
  where
    by_range : (b : Bool) → is_in_range BigInt n ≡ b → GivesOf BigInt (after (value_outcome (if b then Ok (Some n) else Err overflow)) (λ total. Ok (Whole (int_div n (pos (suc count))))))
    by_range true h = between_div 9223372036854775807 9223372036854775807 n count h
    by_range false h = tt

averaged_kept : (to : SqlType) (numbers : List ℤ) → (to ≡ Int) ⊎ (to ≡ BigInt) → GivesOf to (averaged to numbers)
averaged_kept to [] h = tt
averaged_kept to (n ∷ rest) h = by_count (nat_eq (suc (length rest)) 0)
  where
    by_count : (b : Bool) → GivesOf to (if b then Ok Null else after (whole to (sum_of (n ∷ rest))) (λ total. Ok (Whole (int_div (sum_of (n ∷ rest)) (pos (suc (length rest)))))))
    by_count true = tt
    by_count false = divided_kept to (sum_of (n ∷ rest)) (length rest) h

-- what an aggregate makes of values that its operand gave is of its type
pub total_kept : (kind : SumKind) (found : Found) (to : SqlType) (values : List Value) → is_as (sum_found kind (Some found)) to ≡ true → (is_as found to ≡ true → AllOf (IsOf to) values) → GivesOf to (total kind to values)
total_kept CountRows found to values h g = cc
total_kept Count found to values h g = fitted_kept to (pos (length (known values)))
total_kept Total found to values h g = summed_kept to (numbers_of values)
total_kept Avg found to values h g = averaged_kept to (numbers_of values) (total_to found to h)
total_kept Min found to values h g = first_is_of to false (known values) (known_of to values (g (extreme_to found to h)))
total_kept Max found to values h g = first_is_of to true (known values) (known_of to values (g (extreme_to found to h)))

-- ---- joins

-- the pairs of a row with rows of other types
beside_rows : (kinds more : List SqlType) (row : Row) (right : List Row) → AreExactly kinds row → RowsOf more right → RowsOf (kinds ++ more) (pairing.beside right row)
beside_rows kinds more row [] h g = tt
beside_rows kinds more row (other ∷ right) h g = (exactly_both kinds more row other h g.0, beside_rows kinds more row right h g.1)

given_rows : (kind : JoinKind) (kinds more : List SqlType) (row : Row) (kept : List Row) → AreExactly kinds row → RowsOf (kinds ++ more) kept → RowsOf (kinds ++ more) (given kind (length more) row kept)
given_rows Inner kinds more row kept h g = g
given_rows Cross kinds more row kept h g = g
given_rows Left kinds more row [] h g = (exactly_both kinds more row (replicate (length more) Null) h (exactly_nulls more), tt)
given_rows Left kinds more row (pair ∷ kept) h g = g

pub joined_kept : (kind : JoinKind) (kinds more : List SqlType) (left right : List Row) (truths : List Truth) → RowsOf kinds left → RowsOf more right → RowsOf (kinds ++ more) (joined_rows kind (length more) left right truths)
joined_kept kind kinds more [] right truths h g = tt
joined_kept kind kinds more (row ∷ left) right truths h g = all_of_both (AreExactly (kinds ++ more)) (given kind (length more) row (items_where_true (map is_true (take (length right) truths)) (pairing.beside right row))) (joined_rows kind (length more) left right (drop (length right) truths))
    (given_rows kind kinds more row (items_where_true (map is_true (take (length right) truths)) (pairing.beside right row)) h.0 (all_where (AreExactly (kinds ++ more)) (map is_true (take (length right) truths)) (pairing.beside right row) (beside_rows kinds more row right h.0 g)))
    (joined_kept kind kinds more left right (drop (length right) truths) h.1 g)

-- the clauses of a well-formed query are
clause_sums : (tables : TableName → List SqlType) (kinds_of_vars : List SqlType) (rows classes : SettingTypes) (query : BoundQuery-F QueryFound QueryFound) → are_formed_clauses tables kinds_of_vars rows classes query ≡ true → list_all (is_formed_sum rows) query.sums ≡ true
clause_sums tables kinds_of_vars rows classes query h = (and_parts (is_formed_where rows query.filter && list_all (is_formed_group rows) query.groups) (list_all (is_formed_sum rows) query.sums)
    (and_parts ((is_formed_where rows query.filter && list_all (is_formed_group rows) query.groups) && list_all (is_formed_sum rows) query.sums)
    ((is_formed_where classes query.having && list_all (is_formed_item classes) query.items) && list_all (is_formed_order classes (length query.items)) query.order) h).0).1

clause_items : (tables : TableName → List SqlType) (kinds_of_vars : List SqlType) (rows classes : SettingTypes) (query : BoundQuery-F QueryFound QueryFound) → are_formed_clauses tables kinds_of_vars rows classes query ≡ true → list_all (is_formed_item classes) query.items ≡ true
clause_items tables kinds_of_vars rows classes query h = (and_parts (is_formed_where classes query.having) (list_all (is_formed_item classes) query.items)
    (and_parts (is_formed_where classes query.having && list_all (is_formed_item classes) query.items) (list_all (is_formed_order classes (length query.items)) query.order)
    (and_parts ((is_formed_where rows query.filter && list_all (is_formed_group rows) query.groups) && list_all (is_formed_sum rows) query.sums)
    ((is_formed_where classes query.having && list_all (is_formed_item classes) query.items) && list_all (is_formed_order classes (length query.items)) query.order) h).1).0).1

-- a reference is as wide as its table
wide_refs : (tables : TableName → List SqlType) (kinds_of_vars : List SqlType) (all : List (List SqlType)) (before : List SqlType) (refs : List Reference) → are_formed_refs tables kinds_of_vars all before refs ≡ true → AllOf (λ ref. ref.width ≡ length (tables ref.table)) refs
wide_refs tables kinds_of_vars all before [] h = tt
wide_refs tables kinds_of_vars all before (ref ∷ refs) h = (eqb-true ref.width (length (tables ref.table)) (and_parts _ _ (and_parts _ _ (and_parts _ _ h).0).0).0, wide_refs tables kinds_of_vars all (before ++ tables ref.table) refs (and_parts _ _ h).1)

-- ---- phases

-- what may be read beside a row
module _ (tables : TableName → List SqlType) (kinds_of_vars : List SqlType) (inner_kinds : List (List SqlType)) (vars system : List Value) (inner : List (List Row))
    (are_vars : AreOf kinds_of_vars vars) (are_system : AreOf system_kinds system) (are_inner : TablesOf inner_kinds inner) where
  abbrev pub setting_at : Row → Setting
  setting_at row = record { row = row; vars = vars; system = system; inner = inner }

  abbrev types : List SqlType → SettingTypes
  types kinds = types_over tables kinds_of_vars kinds inner_kinds

  fits : (kinds : List SqlType) (row : Row) → AreExactly kinds row → Fits (types kinds) (setting_at row)
  fits kinds row h = record { row = exactly_are kinds row h; vars = are_vars; system = are_system; inner = are_inner }

  -- a value of a well-formed expression is of its type
  value_is : (kinds : List SqlType) (row : Row) (expr : BoundExpr) (kind : SqlType) (x : Value) → AreExactly kinds row → is_as (found_of (types kinds) expr) kind ≡ true → value (setting_at row) expr ≡ Ok x → IsOf kind x
  value_is kinds row expr kind x h f e = subst (GivesOf kind) e (typed_law (types kinds) (setting_at row) (fits kinds row h) expr kind f)

  -- WHERE and HAVING leave rows out
  pub where_kept : (kinds : List SqlType) (test : Option BoundTest) (rows kept : List Row) → RowsOf kinds rows → rows_where setting_at test rows ≡ Ok kept → RowsOf kinds kept
  where_kept kinds None rows kept h e = let same : rows ≡ kept = cc in subst (RowsOf kinds) same h
  where_kept kinds (Some test) rows kept h e = of_truths (each (λ row. truth (setting_at row) test) rows) e
    where
      of_truths : (o : Outcome (List Truth)) → after o (λ truths. Ok (items_where_true (map is_true truths) rows)) ≡ Ok kept → RowsOf kinds kept
      of_truths (Ok truths) e = let same : items_where_true (map is_true truths) rows ≡ kept = cc in subst (RowsOf kinds) same (all_where (AreExactly kinds) (map is_true truths) rows h)
      of_truths (Err n) e = cc

  -- the operands of an aggregate
  operands_kept : (kinds : List SqlType) (of : BoundExpr) (to : SqlType) (rows : List Row) (values : List Value) → RowsOf kinds rows → is_as (found_of (types kinds) of) to ≡ true → each (λ row. value (setting_at row) of) rows ≡ Ok values → AllOf (IsOf to) values
  operands_kept kinds of to rows values h f e = (each_gives (λ row. value (setting_at row) of) (IsOf to) rows values e
      (all_of_each (AreExactly kinds) (λ row. (x : Value) → value (setting_at row) of ≡ Ok x → IsOf to x) rows (λ row exact x d. value_is kinds row of to x exact f d) h)).0

  distinct_values : (to : SqlType) (distinct : Bool) (values : List Value) → AllOf (IsOf to) values → AllOf (IsOf to) (if distinct then firsts same_value values else values)
  distinct_values to true values h = all_firsts (IsOf to) same_value values h
  distinct_values to false values h = h

  sum_kept : (kinds : List SqlType) (sum : Sum) (rows : List Row) (x : Value) → RowsOf kinds rows → is_formed_sum (types kinds) sum ≡ true → sum_value setting_at rows sum ≡ Ok x → IsOf sum.to x
  sum_kept kinds sum rows x h f e = of_operand sum.kind sum.of f e
    where
      of_values : (kind : SumKind) (of : BoundExpr) (o : Outcome (List Value)) → each (λ row. value (setting_at row) of) rows ≡ o → is_as (sum_found kind (Some (found_of (types kinds) of))) sum.to ≡ true
          → after o (λ values. total kind sum.to (if sum.distinct then firsts same_value values else values)) ≡ Ok x → IsOf sum.to x
      of_values kind of (Ok values) d f e = subst (GivesOf sum.to) e (total_kept kind (found_of (types kinds) of) sum.to (if sum.distinct then firsts same_value values else values) f
          (λ as_to. distinct_values sum.to sum.distinct values (operands_kept kinds of sum.to rows values h as_to d)))
      of_values kind of (Err n) d f e = cc

      none_counted : (kind : SumKind) (values : List Value) → is_as (sum_found kind None) sum.to ≡ true → GivesOf sum.to (total kind sum.to values)
      none_counted CountRows values f = fitted_kept sum.to (pos (length values))
      none_counted Count values f = cc
      none_counted Total values f = cc
      none_counted Avg values f = cc
      none_counted Min values f = cc
      none_counted Max values f = cc

      of_operand : (kind : SumKind) (of : Option BoundExpr) → is_as (sum_found kind (option_map (found_of (types kinds)) of)) sum.to ≡ true
          → after (operands_of setting_at of rows) (λ values. total kind sum.to (if sum.distinct then firsts same_value values else values)) ≡ Ok x → IsOf sum.to x
      of_operand kind (Some of) f e = of_values kind of (each (λ row. value (setting_at row) of) rows) refl f e
      of_operand kind None f e = subst (GivesOf sum.to) e (none_counted kind (if sum.distinct then firsts same_value (map (λ row. Null) rows) else map (λ row. Null) rows) f)

  -- the rows of classes are rows
  class_members : (kinds : List SqlType) (rows : List Row) (class : List ℕ) → RowsOf kinds rows → AllOf (λ p. p < length rows) class → RowsOf kinds (map (λ place. get_or rows place []) class)
  class_members kinds rows [] h g = tt
  class_members kinds rows (place ∷ class) h g = (all_at (AreExactly kinds) rows h place [] g.0, class_members kinds rows class h g.1)

  classes_kept : (kinds : List SqlType) (groups : List BoundExpr) (rows : List Row) (found : List (List Row)) → RowsOf kinds rows → classes_of setting_at groups rows ≡ Ok found → AllOf (RowsOf kinds) found
  classes_kept kinds [] rows found h e = let same : (rows ∷ []) ≡ found = cc in subst (AllOf (RowsOf kinds)) same (h, tt)
  classes_kept kinds (expr ∷ exprs) rows found h e = of_keys (each (λ row. each (value (setting_at row)) (expr ∷ exprs)) rows) refl e
    where
      all_classes : (n : ℕ) → n ≡ length rows → (cs : List (List ℕ)) → AllOf (λ class. AllOf (λ p. p < n) class) cs → AllOf (RowsOf kinds) (map (map (λ place. get_or rows place [])) cs)
      all_classes n same [] g = tt
      all_classes n same (class ∷ cs) g = (class_members kinds rows class h (subst (λ m. AllOf (λ p. p < m) class) same g.0), all_classes n same cs g.1)

      as_many : (keys : List (List Value)) → each (λ row. each (value (setting_at row)) (expr ∷ exprs)) rows ≡ Ok keys → length keys ≡ length rows
      as_many keys d = (each_gives (λ row. each (value (setting_at row)) (expr ∷ exprs)) (λ key. Unit {0}) rows keys d (nothing_asked rows)).1
        where
          nothing_asked : (xs : List Row) → AllOf (λ x. (y : List Value) → each (value (setting_at x)) (expr ∷ exprs) ≡ Ok y → Unit {0}) xs
          nothing_asked [] = tt
          nothing_asked (x ∷ xs) = ((λ y e. tt), nothing_asked xs)

      of_keys : (o : Outcome (List (List Value))) → each (λ row. each (value (setting_at row)) (expr ∷ exprs)) rows ≡ o → after o (λ keys. Ok (map (map (λ place. get_or rows place [])) (classes same_row keys))) ≡ Ok found → AllOf (RowsOf kinds) found
      of_keys (Ok keys) d e = let same : map (map (λ place. get_or rows place [])) (classes same_row keys) ≡ found = cc in
          subst (AllOf (RowsOf kinds)) same (all_classes (length keys) (as_many keys d) (classes same_row keys) (classes_below same_row keys))
      of_keys (Err n) d e = cc

  abbrev sums_kinds : List Sum → List SqlType
  sums_kinds sums = map (λ sum. sum.to) sums

  totals_kept : (kinds : List SqlType) (sums : List Sum) (rows : List Row) (totals : List Value) → RowsOf kinds rows → list_all (is_formed_sum (types kinds)) sums ≡ true → each (sum_value setting_at rows) sums ≡ Ok totals → AreExactly (sums_kinds sums) totals
  totals_kept kinds [] rows totals h f e = let same : [] ≡ totals = cc in subst (AreExactly []) same tt
  totals_kept kinds (sum ∷ sums) rows totals h f e = of_first (sum_value setting_at rows sum) refl (each (sum_value setting_at rows) sums) e (λ zs d. totals_kept kinds sums rows zs h (and_parts _ _ f).1 d) refl
    where
      of_first : (o : Outcome Value) → sum_value setting_at rows sum ≡ o → (rest : Outcome (List Value)) → after o (λ y. after rest (λ zs. Ok (y ∷ zs))) ≡ Ok totals
          → ((zs : List Value) → each (sum_value setting_at rows) sums ≡ Ok zs → AreExactly (sums_kinds sums) zs) → each (sum_value setting_at rows) sums ≡ rest → AreExactly (sums_kinds (sum ∷ sums)) totals
      of_first (Ok y) d (Ok zs) e again c = let same : (y ∷ zs) ≡ totals = cc in subst (AreExactly (sums_kinds (sum ∷ sums))) same (sum_kept kinds sum rows y h (and_parts _ _ f).0 d, again zs c)
      of_first (Ok y) d (Err n) e again c = cc
      of_first (Err n) d rest e again c = cc

  -- a class as a row
  class_kept : (kinds : List SqlType) (width : ℕ) (sums : List Sum) (rows : List Row) (row : Row) → width ≡ length kinds → RowsOf kinds rows → list_all (is_formed_sum (types kinds)) sums ≡ true → class_row setting_at width sums rows ≡ Ok row → AreExactly (kinds ++ sums_kinds sums) row
  class_kept kinds width sums rows row w h f e = of_totals (each (sum_value setting_at rows) sums) refl e
    where
      first_row : (rows : List Row) → RowsOf kinds rows → AreExactly kinds (get_or rows 0 (replicate width Null))
      first_row [] h = subst (λ n. AreExactly kinds (replicate n Null)) (sym w) (exactly_nulls kinds)
      first_row (x ∷ xs) h = h.0

      of_totals : (o : Outcome (List Value)) → each (sum_value setting_at rows) sums ≡ o → after o (λ totals. Ok (get_or rows 0 (replicate width Null) ++ totals)) ≡ Ok row → AreExactly (kinds ++ sums_kinds sums) row
      of_totals (Ok totals) d e = let same : get_or rows 0 (replicate width Null) ++ totals ≡ row = cc in
          subst (AreExactly (kinds ++ sums_kinds sums)) same (exactly_both kinds (sums_kinds sums) (get_or rows 0 (replicate width Null)) totals (first_row rows h) (totals_kept kinds sums rows totals h f d))
      of_totals (Err n) d e = cc

  abbrev pub class_kinds_of : Bool → List SqlType → List Sum → List SqlType
  class_kinds_of grouped kinds sums = class_kinds tables kinds_of_vars grouped kinds sums

  class_rows_kept : (grouped : Bool) (kinds : List SqlType) (width : ℕ) (groups : List BoundExpr) (sums : List Sum) (rows found : List Row) → width ≡ length kinds → RowsOf kinds rows → list_all (is_formed_sum (types kinds)) sums ≡ true
      → class_rows setting_at grouped width groups sums rows ≡ Ok found → RowsOf (class_kinds_of grouped kinds sums) found
  class_rows_kept false kinds width groups sums rows found w h f e = let same : rows ≡ found = cc in subst (RowsOf kinds) same h
  class_rows_kept true kinds width groups sums rows found w h f e = of_classes (classes_of setting_at groups rows) refl e
    where
      of_classes : (o : Outcome (List (List Row))) → classes_of setting_at groups rows ≡ o → after o (λ classes. each (class_row setting_at width sums) classes) ≡ Ok found → RowsOf (kinds ++ sums_kinds sums) found
      of_classes (Ok cs) d e = (each_gives (class_row setting_at width sums) (AreExactly (kinds ++ sums_kinds sums)) cs found e
          (all_of_each (RowsOf kinds) (λ class. (row : Row) → class_row setting_at width sums class ≡ Ok row → AreExactly (kinds ++ sums_kinds sums) row) cs (λ class g row c. class_kept kinds width sums class row w g f c) (classes_kept kinds groups rows cs h d))).0
      of_classes (Err n) d e = cc

  -- what the items give for a row
  items_kept : (kinds : List SqlType) (items : List Item) (row : Row) (values : List Value) → AreExactly kinds row → list_all (is_formed_item (types kinds)) items ≡ true → each (λ item. value (setting_at row) item.expr) items ≡ Ok values → AreExactly (items_kinds items) values
  items_kept kinds [] row values h f e = let same : [] ≡ values = cc in subst (AreExactly []) same tt
  items_kept kinds (item ∷ items) row values h f e = of_first (value (setting_at row) item.expr) refl (each (λ item. value (setting_at row) item.expr) items) e (λ zs d. items_kept kinds items row zs h (and_parts _ _ f).1 d) refl
    where
      of_first : (o : Outcome Value) → value (setting_at row) item.expr ≡ o → (rest : Outcome (List Value)) → after o (λ y. after rest (λ zs. Ok (y ∷ zs))) ≡ Ok values
          → ((zs : List Value) → each (λ item. value (setting_at row) item.expr) items ≡ Ok zs → AreExactly (items_kinds items) zs) → each (λ item. value (setting_at row) item.expr) items ≡ rest → AreExactly (items_kinds (item ∷ items)) values
      of_first (Ok y) d (Ok zs) e again c = let same : (y ∷ zs) ≡ values = cc in subst (AreExactly (items_kinds (item ∷ items))) same (value_is kinds row item.expr item.kind y h (and_parts _ _ f).0 d, again zs c)
      of_first (Ok y) d (Err n) e again c = cc
      of_first (Err n) d rest e again c = cc

  abbrev PairsOf : List SqlType → List (Row × Row) → Type 0
  PairsOf kinds pairs = AllOf (λ pair. AreExactly kinds pair.1) pairs

  with_items_kept : (kinds : List SqlType) (distinct : Bool) (items : List Item) (rows : List Row) (pairs : List (Row × Row)) → RowsOf kinds rows → list_all (is_formed_item (types kinds)) items ≡ true → with_items setting_at distinct items rows ≡ Ok pairs → PairsOf (items_kinds items) pairs
  with_items_kept kinds distinct items rows pairs h f e = of_values (each (λ row. each (λ item. value (setting_at row) item.expr) items) rows) refl e
    where
      distinct_kept : (d : Bool) (ps : List (Row × Row)) → PairsOf (items_kinds items) ps → PairsOf (items_kinds items) (distinct_if d ps)
      distinct_kept true ps g = all_firsts (λ pair. AreExactly (items_kinds items) pair.1) (λ a b. same_row a.1 b.1) ps g
      distinct_kept false ps g = g

      of_values : (o : Outcome (List (List Value))) → each (λ row. each (λ item. value (setting_at row) item.expr) items) rows ≡ o → after o (λ values. Ok (distinct_if distinct (zip rows values))) ≡ Ok pairs → PairsOf (items_kinds items) pairs
      of_values (Ok values) d e = let same : distinct_if distinct (zip rows values) ≡ pairs = cc in subst (PairsOf (items_kinds items)) same (distinct_kept distinct (zip rows values) (all_zip (AreExactly (items_kinds items)) rows values
          (each_gives (λ row. each (λ item. value (setting_at row) item.expr) items) (AreExactly (items_kinds items)) rows values d
          (all_of_each (AreExactly kinds) (λ row. (xs : List Value) → each (λ item. value (setting_at row) item.expr) items ≡ Ok xs → AreExactly (items_kinds items) xs) rows (λ row exact xs c. items_kept kinds items row xs exact f c) h)).0))
      of_values (Err n) d e = cc

  in_order_kept : (kinds : List SqlType) (order : List BoundOrder) (pairs : List (Row × Row)) (rows : List Row) → PairsOf kinds pairs → in_order_of setting_at order pairs ≡ Ok rows → RowsOf kinds rows
  in_order_kept kinds order pairs rows h e = of_keys (each (λ pair. each (λ by. order_value setting_at pair by.key) order) pairs) e
    where
      ordered_kept : (keys : List (List Value)) → RowsOf kinds (ordered (map (λ pair. pair.1) pairs) keys (map (λ by. by.descending) order))
      ordered_kept keys = all_of_map (λ pair. pair.1) (AreExactly kinds) (in_order (by_key (map (λ by. by.descending) order)) (zip keys (map (λ pair. pair.1) pairs)))
          (all_in_order (λ pair. AreExactly kinds pair.1) (by_key (map (λ by. by.descending) order)) (zip keys (map (λ pair. pair.1) pairs)) (all_zip (AreExactly kinds) keys (map (λ pair. pair.1) pairs) (all_of_map (λ pair. pair.1) (AreExactly kinds) pairs h)))

      of_keys : (o : Outcome (List (List Value))) → after o (λ keys. Ok (ordered (map (λ pair. pair.1) pairs) keys (map (λ by. by.descending) order))) ≡ Ok rows → RowsOf kinds rows
      of_keys (Ok keys) e = let same : ordered (map (λ pair. pair.1) pairs) keys (map (λ by. by.descending) order) ≡ rows = cc in subst (RowsOf kinds) same (ordered_kept keys)
      of_keys (Err n) e = cc

  top_kept : (kinds : List SqlType) (top : Option ℕ) (rows : List Row) → RowsOf kinds rows → RowsOf kinds (top_of top rows)
  top_kept kinds None rows h = h
  top_kept kinds (Some n) rows h = all_take (AreExactly kinds) n rows h

  -- ---- references

  abbrev FitImages : List Reference → List (List Row) → Type 0
  FitImages refs images = ImagesOf tables refs images

  read_kept : (kinds : List SqlType) (key : List ℕ) (first : ℕ) (tests : List ColumnTest) (kind : JoinKind) (image : List Row) → RowsOf kinds image → RowsOf kinds (rows_read key first tests kind image)
  read_kept kinds key first tests Left image h = h
  read_kept kinds key first tests Inner image h = all_filter (AreExactly kinds) (λ row. list_all (meets row) (key_tests key first tests)) image h
  read_kept kinds key first tests Cross image h = all_filter (AreExactly kinds) (λ row. list_all (meets row) (key_tests key first tests)) image h

  abbrev AreWide : List Reference → Type 0
  AreWide refs = AllOf (λ ref. ref.width ≡ length (tables ref.table)) refs

  abbrev refs_kinds : List Reference → List SqlType
  refs_kinds refs = row_kinds tables kinds_of_vars refs

  join_of_kept : (kinds : List SqlType) (ref : Reference) (left right : List Row) (says : Row → Outcome Truth) (budget : ℕ) (more : List Row × ℕ) → ref.width ≡ length (tables ref.table) → RowsOf kinds left → RowsOf (tables ref.table) right
      → join_of (record { kind = ref.join; width = ref.width; left = left; right = right }) says budget ≡ Ok more → RowsOf (kinds ++ tables ref.table) more.0
  join_of_kept kinds ref left right says budget more w h g e = by_steps (λ z. RowsOf (kinds ++ tables ref.table) z.0) (truths_tried (map says (pairing.pairs left right)) budget) (λ truths. Ok (joined join truths.0, truths.1))
      (λ truths is. by_last (λ z. RowsOf (kinds ++ tables ref.table) z.0) (joined join truths.0, truths.1)
      (subst (λ n. RowsOf (kinds ++ tables ref.table) (joined_rows ref.join n left right truths.0)) (sym w) (joined_kept ref.join kinds (tables ref.table) left right truths.0 h g))) more e
    where
      join : Join
      join = record { kind = ref.join; width = ref.width; left = left; right = right }

  more_kept : (tests : List ColumnTest) (refs : List Reference) (width : ℕ) (kinds : List SqlType) (rows : List Row) (stock : Stock) (z : List Row × Stock) → AreWide refs → FitImages refs stock.images → RowsOf kinds rows
      → join_more setting_at tests width rows refs stock ≡ Ok z → RowsOf (kinds ++ refs_kinds refs) z.0
  more_kept tests [] width kinds rows stock z w f h e = by_last (λ z. RowsOf (kinds ++ []) z.0) (rows, stock) (subst (λ k. RowsOf k rows) (sym (append-nil kinds)) h) z e
  more_kept tests (ref ∷ refs) width kinds rows stock z w f h e =
      by_steps (λ z. RowsOf (kinds ++ refs_kinds (ref ∷ refs)) z.0) (join_of join (on_truth setting_at ref.join ref.on) stock.budget)
      (λ more. join_more setting_at tests (width + ref.width) more.0 refs (record { images = images_behind stock.images; budget = more.1 }))
      (λ more is z e. subst (λ k. RowsOf k z.0) (append_assoc kinds (tables ref.table) (refs_kinds refs)) (more_kept tests refs (width + ref.width) (kinds ++ tables ref.table) more.0 (record { images = images_behind stock.images; budget = more.1 }) z w.1 f.1
      (join_of_kept kinds ref rows (rows_read ref.key width tests ref.join (image_of stock.images)) (on_truth setting_at ref.join ref.on) stock.budget more w.0 h (read_kept (tables ref.table) ref.key width tests ref.join (image_of stock.images) f.0) is) e)) z e
    where
      join : Join
      join = record { kind = ref.join; width = ref.width; left = rows; right = rows_read ref.key width tests ref.join (image_of stock.images) }

  joined_refs_kept : (tests : List ColumnTest) (refs : List Reference) (stock : Stock) (z : List Row × Stock) → AreWide refs → FitImages refs stock.images → joined_refs setting_at tests refs stock ≡ Ok z → RowsOf (refs_kinds refs) z.0
  joined_refs_kept tests [] stock z w f e = by_last (λ z. RowsOf [] z.0) ([] ∷ [], stock) (tt, tt) z e
  joined_refs_kept tests (ref ∷ refs) stock z w f e = more_kept tests refs ref.width (tables ref.table) (rows_read ref.key 0 tests Cross (image_of stock.images)) (record stock { images = images_behind stock.images }) z w.1 f.1
      (read_kept (tables ref.table) ref.key 0 tests Cross (image_of stock.images) f.0) e

  width_kinds : (refs : List Reference) (n : ℕ) → AreWide refs → fold (λ a ref. a + ref.width) n refs ≡ n + length (refs_kinds refs)
  width_kinds [] n w = omega arith
  width_kinds (ref ∷ refs) n w = let rest : fold (λ a ref. a + ref.width) (n + ref.width) refs ≡ n + ref.width + length (refs_kinds refs) = width_kinds refs (n + ref.width) w.1 in
      let both : length (tables ref.table ++ refs_kinds refs) ≡ length (tables ref.table) + length (refs_kinds refs) = length-append (tables ref.table) (refs_kinds refs) in
      let own : ref.width ≡ length (tables ref.table) = w.0 in omega (arith, rest, both, own)

  -- what comes of the joined rows
  given_kept : {A B : Type 0} (query : BoundQuery-F A B) (joined rows : List Row) → AreWide query.refs → RowsOf (refs_kinds query.refs) joined → list_all (is_formed_sum (types (refs_kinds query.refs))) query.sums ≡ true
      → list_all (is_formed_item (types (class_kinds_of query.grouped (refs_kinds query.refs) query.sums))) query.items ≡ true → rows_given setting_at query joined ≡ Ok rows → RowsOf (items_kinds query.items) rows
  given_kept query joined rows w h s i e =
      by_steps (RowsOf kinds) (rows_where setting_at query.filter joined) after_where (λ found is z e.
      by_steps (RowsOf kinds) (class_rows setting_at query.grouped width query.groups query.sums found) after_classes (λ classes are z e.
      by_steps (RowsOf kinds) (rows_where setting_at query.having classes) after_having (λ kept was z e.
      by_steps (RowsOf kinds) (with_items setting_at query.distinct query.items kept) after_items (λ pairs with z e.
      by_steps (RowsOf kinds) (in_order_of setting_at query.order pairs) (λ in_order. Ok (top_of query.top in_order)) (λ in_order ordered_so. by_last (RowsOf kinds) (top_of query.top in_order)
      (top_kept kinds query.top in_order (in_order_kept kinds query.order pairs in_order
      (with_items_kept of_class query.distinct query.items kept pairs
      (where_kept of_class query.having classes kept
      (class_rows_kept query.grouped (refs_kinds query.refs) width query.groups query.sums found classes same_width (where_kept (refs_kinds query.refs) query.filter joined found h is) s are) was) i with) ordered_so))) z e) z e) z e) z e) rows e
    where
      kinds : List SqlType
      kinds = items_kinds query.items

      of_class : List SqlType
      of_class = class_kinds_of query.grouped (refs_kinds query.refs) query.sums

      width : ℕ
      width = sum_by (λ ref. ref.width) query.refs

      same_width : sum_by (λ ref. ref.width) query.refs ≡ length (refs_kinds query.refs)
      same_width = width_kinds query.refs 0 w ∙ no_more (length (refs_kinds query.refs))
        where
          no_more : (n : ℕ) → 0 + n ≡ n
          no_more n = omega arith

      after_items : List (Row × Row) → Outcome (List Row)
      after_items pairs = after (in_order_of setting_at query.order pairs) (λ in_order. Ok (top_of query.top in_order))

      after_having : List Row → Outcome (List Row)
      after_having kept = after (with_items setting_at query.distinct query.items kept) after_items

      after_classes : List Row → Outcome (List Row)
      after_classes classes = after (rows_where setting_at query.having classes) after_having

      after_where : List Row → Outcome (List Row)
      after_where found = after (class_rows setting_at query.grouped width query.groups query.sums found) after_classes

-- ---- queries

module _ (tables : TableName → List SqlType) (kinds_of_vars : List SqlType) (vars system : List Value) (are_vars : AreOf kinds_of_vars vars) (are_system : AreOf system_kinds system) where
  abbrev found_query : BoundQuery → QueryFound
  found_query = query_found tables kinds_of_vars

  abbrev found_inner : InnerQuery → QueryFound
  found_inner = inner_found tables kinds_of_vars

  abbrev FitAll : List Reference → List (List Row) → Type 0
  FitAll refs images = ImagesOf tables refs images

  fit_parts : (refs more : List Reference) (images : List (List Row)) → FitAll (refs ++ more) images → FitAll refs images × FitAll more (images_after refs images)
  fit_parts [] more images h = (tt, h)
  fit_parts (ref ∷ refs) more images h = let rest : FitAll refs (images_behind images) × FitAll more (images_after refs (images_behind images)) = fit_parts refs more (images_behind images) h.1 in ((h.0, rest.0), rest.1)

  abbrev P : BoundQuery → Type 0
  P query = (stock : Stock) (z : List Row × Stock) → (found_query query).0 ≡ true → FitAll (references_of query) stock.images → answer_of vars system query stock ≡ Ok z → RowsOf (found_query query).1 z.0

  abbrev I : InnerQuery → Type 0
  I inner = (stock : Stock) (z : List Row × Stock) → (found_inner inner).0 ≡ true → FitAll (inner_references vars system inner) stock.images → inner_answer vars system inner stock ≡ Ok z → RowsOf (found_inner inner).1 z.0

  all_places : (P : Row → Type 0) (rows : List Row) → AllOf P rows → All P rows
  all_places P rows h i d below = all_at P rows h i d below

  abbrev Inners : Type 0
  Inners = List ((i : InnerQuery) × I i)

  abbrev trees : Inners → List InnerQuery
  trees inners = map (λ i. i.0) inners

  -- the images behind those of inner queries
  all_inner_left : (inners : List InnerQuery) (stock : Stock) (z : List (List Row) × Stock) → inner_rows (map (inner_answer vars system) inners) stock ≡ Ok z → z.1.images ≡ images_after (flat_map (λ refs. refs) (map (inner_references vars system) inners)) stock.images
  all_inner_left [] stock z e = by_last (λ z. z.1.images ≡ stock.images) ([], stock) refl z e
  all_inner_left (inner ∷ inners) stock z e =
      by_steps C (inner_answer vars system inner stock) (λ answer. after (inner_rows (map (inner_answer vars system) inners) answer.1) (λ others. Ok (answer.0 ∷ others.0, others.1)))
      (λ answer is. by_steps C (inner_rows (map (inner_answer vars system) inners) answer.1) (λ others. Ok (answer.0 ∷ others.0, others.1))
      (λ others are. by_last C (answer.0 ∷ others.0, others.1) (all_inner_left inners answer.1 others are ∙ ap (images_after rest) (inner_images_left vars system inner stock answer is) ∙ sym (after_both own rest stock.images)))) z e
    where
      own : List Reference
      own = inner_references vars system inner

      rest : List Reference
      rest = flat_map (λ refs. refs) (map (inner_references vars system) inners)

      C : List (List Row) × Stock → Type 0
      C z = z.1.images ≡ images_after (own ++ rest) stock.images

  inner_kept : (inners : Inners) (stock : Stock) (z : List (List Row) × Stock) → list_all (λ q. q.0) (map found_inner (trees inners)) ≡ true
      → FitAll (flat_map (λ refs. refs) (map (inner_references vars system) (trees inners))) stock.images → inner_rows (map (inner_answer vars system) (trees inners)) stock ≡ Ok z
      → TablesOf (map (λ q. q.1) (map found_inner (trees inners))) z.0
  inner_kept [] stock z f h e = by_last (λ z. TablesOf [] z.0) ([], stock) tt z e
  inner_kept (inner ∷ inners) stock z f h e =
      by_steps C (inner_answer vars system inner.0 stock) (λ answer. after (inner_rows (map (inner_answer vars system) (trees inners)) answer.1) (λ others. Ok (answer.0 ∷ others.0, others.1)))
      (λ answer is. by_steps C (inner_rows (map (inner_answer vars system) (trees inners)) answer.1) (λ others. Ok (answer.0 ∷ others.0, others.1))
      (λ others are. by_last C (answer.0 ∷ others.0, others.1) (
        all_places (AreOf (found_inner inner.0).1) answer.0 (all_of_each (AreExactly (found_inner inner.0).1) (AreOf (found_inner inner.0).1) answer.0 (λ row x. exactly_are (found_inner inner.0).1 row x) (inner.1 stock answer (and_parts _ _ f).0 parts.0 is)),
        inner_kept inners answer.1 others (and_parts _ _ f).1 (subst (FitAll rest) (sym (inner_left inner.0 stock answer is)) parts.1) are,
      ))) z e
    where
      rest : List Reference
      rest = flat_map (λ refs. refs) (map (inner_references vars system) (trees inners))

      C : List (List Row) × Stock → Type 0
      C z = TablesOf (map (λ q. q.1) (map found_inner (trees (inner ∷ inners)))) z.0

      parts : FitAll (inner_references vars system inner.0) stock.images × FitAll rest (images_after (inner_references vars system inner.0) stock.images)
      parts = fit_parts (inner_references vars system inner.0) rest stock.images h

      inner_left : (i : InnerQuery) (stock : Stock) (z : List Row × Stock) → inner_answer vars system i stock ≡ Ok z → z.1.images ≡ images_after (inner_references vars system i) stock.images
      inner_left i stock z e = inner_images_left vars system i stock z e

  abbrev QueryBelow : Type 0
  QueryBelow = BoundQuery-F ((q : BoundQuery) × P q) ((i : InnerQuery) × I i)

  abbrev queries_below : QueryBelow → BoundQuery-F BoundQuery InnerQuery
  queries_below = map-BoundQuery _ _ BoundQuery InnerQuery (λ q. q.0) (λ i. i.0)

  abbrev answers_below : BoundQuery-F BoundQuery InnerQuery → BoundQuery-F Answers Answers
  answers_below = map-BoundQuery _ _ Answers Answers (answer_of vars system) (inner_answer vars system)

  abbrev found_below : BoundQuery-F BoundQuery InnerQuery → BoundQuery-F QueryFound QueryFound
  found_below = map-BoundQuery _ _ QueryFound QueryFound found_query found_inner

  abbrev inner_kinds_of : QueryBelow → List (List SqlType)
  inner_kinds_of y = map (λ q. q.1) (map found_inner (trees y.inner))

  query_kept : (y : QueryBelow) (stock : Stock) (z : List Row × Stock) → (form.query_step tables kinds_of_vars (found_below (queries_below y))).0 ≡ true
      → FitAll (flat_map (λ refs. refs) (map (inner_references vars system) (trees y.inner)) ++ y.refs) stock.images → query_step vars system (answers_below (queries_below y)) stock ≡ Ok z → RowsOf (items_kinds y.items) z.0
  query_kept y stock z f h e =
      by_steps C (inner_rows (map (inner_answer vars system) (trees y.inner)) stock) (λ inner. own_rows vars system inner.0 (answers_below (queries_below y)) inner.1)
      (λ inner is z e. by_steps C (joined_refs (setting_with inner.0) (where_tests vars y.filter) y.refs inner.1) (λ joined. after (rows_given (setting_with inner.0) (answers_below (queries_below y)) joined.0) (λ rows. Ok (rows, joined.1)))
      (λ joined are. by_steps C (rows_given (setting_with inner.0) (answers_below (queries_below y)) joined.0) (λ rows. Ok (rows, joined.1))
      (λ rows given. by_last C (rows, joined.1)
      (given_kept tables kinds_of_vars (inner_kinds_of y) vars system inner.0 are_vars are_system (inner_are inner is) (answers_below (queries_below y)) joined.0 rows wide
      (joined_refs_kept tables kinds_of_vars (inner_kinds_of y) vars system inner.0 are_vars are_system (inner_are inner is) (where_tests vars y.filter) y.refs inner.1 joined wide (fit_same y.refs inner.1.images (subst (FitAll y.refs) (sym (inners_left inner is)) parts.1)) are)
      sums items given)))
      z e) z e
    where
      C : List Row × Stock → Type 0
      C z = RowsOf (items_kinds y.items) z.0

      setting_with : List (List Row) → Row → Setting
      setting_with inner row = record { row = row; vars = vars; system = system; inner = inner }

      inners : List Reference
      inners = flat_map (λ refs. refs) (map (inner_references vars system) (trees y.inner))

      parts : FitAll inners stock.images × FitAll y.refs (images_after inners stock.images)
      parts = fit_parts inners y.refs stock.images h

      refs_formed : (list_all (λ q. q.0) (map found_inner (trees y.inner)) ≡ true) × (are_formed_refs tables kinds_of_vars (inner_kinds_of y) [] y.refs ≡ true)
      refs_formed = and_parts _ _ (and_parts _ _ f).0

      wide : AllOf (λ ref. ref.width ≡ length (tables ref.table)) y.refs
      wide = wide_refs tables kinds_of_vars (inner_kinds_of y) [] y.refs refs_formed.1

      clauses : are_formed_clauses tables kinds_of_vars (types_over tables kinds_of_vars (row_kinds tables kinds_of_vars y.refs) (inner_kinds_of y)) (types_over tables kinds_of_vars (class_kinds tables kinds_of_vars y.grouped (row_kinds tables kinds_of_vars y.refs) y.sums) (inner_kinds_of y)) (found_below (queries_below y)) ≡ true
      clauses = (and_parts (list_all (λ q. q.0) (map found_inner (trees y.inner)) && are_formed_refs tables kinds_of_vars (inner_kinds_of y) [] y.refs)
          (are_formed_clauses tables kinds_of_vars (types_over tables kinds_of_vars (row_kinds tables kinds_of_vars y.refs) (inner_kinds_of y)) (types_over tables kinds_of_vars (class_kinds tables kinds_of_vars y.grouped (row_kinds tables kinds_of_vars y.refs) y.sums) (inner_kinds_of y)) (found_below (queries_below y))) f).1

      sums : list_all (is_formed_sum (types_over tables kinds_of_vars (row_kinds tables kinds_of_vars y.refs) (inner_kinds_of y))) y.sums ≡ true
      sums = clause_sums tables kinds_of_vars (types_over tables kinds_of_vars (row_kinds tables kinds_of_vars y.refs) (inner_kinds_of y)) (types_over tables kinds_of_vars (class_kinds tables kinds_of_vars y.grouped (row_kinds tables kinds_of_vars y.refs) y.sums) (inner_kinds_of y)) (found_below (queries_below y)) clauses

      items : list_all (is_formed_item (types_over tables kinds_of_vars (class_kinds tables kinds_of_vars y.grouped (row_kinds tables kinds_of_vars y.refs) y.sums) (inner_kinds_of y))) y.items ≡ true
      items = clause_items tables kinds_of_vars (types_over tables kinds_of_vars (row_kinds tables kinds_of_vars y.refs) (inner_kinds_of y)) (types_over tables kinds_of_vars (class_kinds tables kinds_of_vars y.grouped (row_kinds tables kinds_of_vars y.refs) y.sums) (inner_kinds_of y)) (found_below (queries_below y)) clauses

      inner_are : (inner : List (List Row) × Stock) → inner_rows (map (inner_answer vars system) (trees y.inner)) stock ≡ Ok inner → TablesOf (inner_kinds_of y) inner.0
      inner_are inner is = inner_kept y.inner stock inner refs_formed.0 parts.0 is

      inners_left : (inner : List (List Row) × Stock) → inner_rows (map (inner_answer vars system) (trees y.inner)) stock ≡ Ok inner → inner.1.images ≡ images_after inners stock.images
      inners_left inner is = all_inner_left (trees y.inner) stock inner is

      fit_same : (refs : List Reference) (images : List (List Row)) → FitAll refs images → FitAll refs images
      fit_same refs images h = h

  query_layer : (y : QueryBelow) → P (roll-BoundQuery (queries_below y))
  query_layer y stock z f h e =
      let answers = fold-roll-BoundQuery Answers Answers (query_step vars system) inner_step (queries_below y) in
      let references = fold-roll-BoundQuery (List Reference) (List Reference) (λ query. flat_map (λ refs. refs) query.inner ++ query.refs) (λ inner. inner.query) (queries_below y) in
      let found = fold-roll-BoundQuery QueryFound QueryFound (form.query_step tables kinds_of_vars) (form.inner_step tables kinds_of_vars) (queries_below y) in
      subst (λ kinds. RowsOf kinds z.0) (sym (ap (λ q. q.1) found))
      (query_kept y stock z (sym (ap (λ q. q.0) found) ∙ f) (subst (λ refs. FitAll refs stock.images) references h) (sym (ap (λ f. f stock) answers) ∙ e))

  allowed_kept : (kinds : List SqlType) (single : Bool) (rows allowed : List Row) → RowsOf kinds rows → rows_allowed single rows ≡ Ok allowed → RowsOf kinds allowed
  allowed_kept kinds true [] allowed h e = let same : [] ≡ allowed = cc in subst (RowsOf kinds) same h
  allowed_kept kinds true (row ∷ []) allowed h e = let same : (row ∷ []) ≡ allowed = cc in subst (RowsOf kinds) same h
  allowed_kept kinds true (row ∷ other ∷ rest) allowed h e = cc
  allowed_kept kinds false rows allowed h e = let same : rows ≡ allowed = cc in subst (RowsOf kinds) same h

  inner_layer : (query : BoundQuery) (single : Bool) → P query → I (roll-InnerQuery (record { query = query; single = single }))
  inner_layer query single p stock z f h e =
      let i : InnerQuery-F BoundQuery InnerQuery = record { query = query; single = single } in
      let answers = fold-roll-InnerQuery Answers Answers (query_step vars system) inner_step i in
      let references = fold-roll-InnerQuery (List Reference) (List Reference) (λ query. flat_map (λ refs. refs) query.inner ++ query.refs) (λ inner. inner.query) i in
      let found = fold-roll-InnerQuery QueryFound QueryFound (form.query_step tables kinds_of_vars) (form.inner_step tables kinds_of_vars) i in
      let C : List Row × Stock → Type 0 = λ z. RowsOf (found_query query).1 z.0 in
      subst (λ kinds. RowsOf kinds z.0) (sym (ap (λ q. q.1) found))
      (by_steps C (answer_of vars system query stock) (λ answer. after (rows_allowed single answer.0) (λ rows. Ok (rows, answer.1)))
      (λ answer is. by_steps C (rows_allowed single answer.0) (λ rows. Ok (rows, answer.1)) (λ rows allowed. by_last C (rows, answer.1)
      (allowed_kept (found_query query).1 single answer.0 rows (p stock answer (sym (ap (λ q. q.0) found) ∙ f) (subst (λ refs. FitAll refs stock.images) references h) is) allowed)))
      z (sym (ap (λ f. f stock) answers) ∙ e))

  -- the rows that a well-formed query answers are of its items' types
  pub answer_types : (query : BoundQuery) → P query
  answer_types = ind-BoundQuery P I
      (λ x y is. subst (λ z. P (roll-BoundQuery z)) is (query_layer y))
      (λ x y is. subst (λ z. I (roll-InnerQuery z)) is (inner_layer y.query.0 y.single y.query.1))

  pub ans_types : (query : BoundQuery) (images : List (List Row)) (rows : List Row) → (found_query query).0 ≡ true → FitAll (references_of query) images → Ans vars system query images ≡ Ok rows → RowsOf (found_query query).1 rows
  ans_types query images rows f h e = by_steps (RowsOf (found_query query).1) (answer_of vars system query (record { images = images; budget = pair_limit })) (λ answer. Ok answer.0)
      (λ answer is. by_last (RowsOf (found_query query).1) answer.0 (answer_types query (record { images = images; budget = pair_limit }) answer f h is)) rows e
