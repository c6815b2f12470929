-- Which numbers are none of an error of a lock, of memory or of the limit of statements: each that a conversion, an expression or a test gives, and so each that a
-- query answers with.
use Rattle.std.proofs.Common.{◌≡◌, refl, sym, ap, ◌∙◌, subst, ℕ, zero, suc, ◌+◌, ℤ, pos, List, [], ◌∷◌, ◌++◌, map, get_or, Bool, true, false, Option, Some, None, Result, Ok, Err, if◌then◌else◌}
use Rattle.std.specs.Prelude.{◌≢◌, ◌||◌, sum_by, replicate, nat_eq, length, int_div}
use Rattle.std.specs.List.{AllByRecursion, items_where_true}
use Rattle.std.specs.Ordering.{int_eq}
use Rattle.std.proofs.lemmas.Bool.Decides.{Decides-int_eq}
use Rattle.value_types.specs.declared.sql_type.SqlType.{SqlType}
use Rattle.value_types.specs.declared.value.Value.{Value}
use Rattle.value_types.specs.declared.value.Value.TheVariants.{Null, Whole}
use Rattle.value_types.specs.declared.sql_type.SqlType.TheVariants.{TinyInt, SmallInt, Int, BigInt, Bit as BitType, NText}
use Rattle.value_types.specs.Types.{is_in_range}
use Rattle.convert_rules.specs.declared.fault.ConvertFault.{ConvertFault}
use Rattle.convert_rules.specs.declared.fault.ConvertFault.TheVariants.{Overflow, NotANumber, TooLong, Memory}
use Rattle.convert_rules.specs.Conversion.{cast_of, is_text}
use Rattle.convert_rules.specs.Errors.{error_of, no_number, number_outside, text_outside}
use Rattle.bound_tree.specs.Conversions.{cast_outcome, conversion, error_outcome}
use Rattle.bound_tree.specs.declared.expr.BoundExpr.{BoundExpr}
use Rattle.bound_tree.specs.declared.expr.BoundTest.{BoundTest}
use Rattle.bound_tree.specs.declared.truth.Truth.{Truth}
use Rattle.bound_tree.specs.declared.query.BoundOrder.{BoundOrder}
use Rattle.bound_tree.specs.declared.query.BoundQuery.{BoundQuery}
use Rattle.bound_tree.specs.declared.query.BoundQuery.TheOpen.{BoundQuery-F, InnerQuery-F}
use Rattle.bound_tree.specs.declared.query.BoundQuery.TheFolds.{ind-BoundQuery, ind-InnerQuery, map-BoundQuery, fold-roll-BoundQuery, fold-roll-InnerQuery}
use Rattle.bound_tree.specs.declared.query.BoundQuery.TheViews.{roll-BoundQuery, roll-InnerQuery}
use Rattle.bound_tree.specs.declared.query.InnerQuery.{InnerQuery}
use Rattle.bound_tree.specs.declared.query.Item.{Item}
use Rattle.bound_tree.specs.declared.query.JoinKind.{JoinKind}
use Rattle.bound_tree.specs.declared.query.JoinKind.TheVariants.{Inner, Left, Cross}
use Rattle.bound_tree.specs.declared.query.OrderKey.{OrderKey}
use Rattle.bound_tree.specs.declared.query.OrderKey.TheVariants as key
use Rattle.bound_tree.specs.declared.query.Reference.{Reference}
use Rattle.bound_tree.specs.declared.query.Sum.{Sum}
use Rattle.bound_tree.specs.declared.query.SumKind.{SumKind}
use Rattle.bound_tree.specs.declared.query.SumKind.TheVariants.{CountRows, Count, Sum as Total, Avg, Min, Max}
use Rattle.bound_tree.specs.Truths.{is_true}
use Rattle.bound_tree.specs.Faults.{is_fault}
use Rattle.bound_tree.specs.Outcomes.{Outcome, after, overflow}
use Rattle.bound_tree.specs.Numbers.{value_outcome}
use Rattle.bound_tree.specs.Setting.{Setting}
use Rattle.bound_tree.specs.Meaning.{truth, value}
use Rattle.bound_tree.proofs.Raised as tree
use Rattle.bound_tree.proofs.Raised.{Raises}
use Rattle.step_model.specs.Ranges.{deadlock, lock_timeout, no_memory}
use Rattle.batch_meaning.specs.Meaning.{statements_spent}
use Rattle.batch_meaning.specs.Selecting.{result_full}
use Rattle.join_rows.specs.Joined.{Join, Row, joined, pairs}
use Rattle.group_rows.specs.Equals.{classes, firsts, same_row}
use Rattle.group_rows.specs.Totals.{known, numbers_of, sum_of, total, whole}
use Rattle.query_eval.specs.declared.key_tests.ColumnTest.{ColumnTest}
use Rattle.query_eval.specs.KeyTests.{rows_read, where_tests}
use Rattle.query_eval.specs.Joining.{FromStock, Stock, image_of, images_behind, join_more, join_of, joined_refs, on_truth, truths_tried}
use Rattle.query_eval.specs.Phases.{class_row, class_rows, classes_of, each, in_order_of, operands_of, order_value, rows_given, rows_where, same_value, sum_value, top_of, with_items}
use Rattle.query_eval.specs.Ans.{Ans, Answers, answer_of, inner_answer, inner_rows, inner_step, own_rows, pair_limit, query_step, rows_allowed}

-- ---- numbers

-- the number of an error of a lock, of want of memory, of a batch without a statement left, or of the result limit
abbrev pub is_watched : ℤ → Bool
is_watched number = int_eq number (pos deadlock) || (int_eq number (pos lock_timeout) || (int_eq number (pos no_memory) || (int_eq number (pos statements_spent) || int_eq number (pos result_full))))

abbrev pub IsUsual : ℤ → Type 0
IsUsual number = is_watched number ≡ false

neither : (a b : Bool) → (a || b) ≡ false → (a ≡ false) × (b ≡ false)
neither true b is = absurd (let no : true ≡ false = is in cc)
neither false b is = (refl, is)

pub differs : (a b : ℤ) → int_eq a b ≡ false → a ≢ b
differs a b test same = let no : true ≡ false = sym ((Decides-int_eq a b).1 same) ∙ test in absurd (cc)

-- a usual number is none of them
module _ (number : ℤ) (usual : IsUsual number) where
  no_first : (int_eq number (pos 1205) ≡ false) × ((int_eq number (pos 1222) || (int_eq number (pos 701) || (int_eq number (pos 49001) || int_eq number (pos 49002)))) ≡ false)
  no_first = neither (int_eq number (pos 1205)) (int_eq number (pos 1222) || (int_eq number (pos 701) || (int_eq number (pos 49001) || int_eq number (pos 49002)))) usual

  no_second : (int_eq number (pos 1222) ≡ false) × ((int_eq number (pos 701) || (int_eq number (pos 49001) || int_eq number (pos 49002))) ≡ false)
  no_second = neither (int_eq number (pos 1222)) (int_eq number (pos 701) || (int_eq number (pos 49001) || int_eq number (pos 49002))) no_first.1

  no_third : (int_eq number (pos 701) ≡ false) × ((int_eq number (pos 49001) || int_eq number (pos 49002)) ≡ false)
  no_third = neither (int_eq number (pos 701)) (int_eq number (pos 49001) || int_eq number (pos 49002)) no_second.1

  no_fourth : (int_eq number (pos 49001) ≡ false) × (int_eq number (pos 49002) ≡ false)
  no_fourth = neither (int_eq number (pos 49001)) (int_eq number (pos 49002)) no_third.1

  pub no_deadlock : number ≢ pos deadlock
  no_deadlock = differs number (pos 1205) no_first.0

  pub no_timeout : number ≢ pos lock_timeout
  no_timeout = differs number (pos 1222) no_second.0

  pub no_want : number ≢ pos no_memory
  no_want = differs number (pos 701) no_third.0

  pub no_spending : number ≢ pos statements_spent
  no_spending = differs number (pos 49001) no_fourth.0

  pub no_filling : number ≢ pos result_full
  no_filling = differs number (pos 49002) no_fourth.1

-- a test that none of them passes
pub usual_by : (test : ℤ → Bool) (number : ℤ) → test (pos 1205) ≡ false → test (pos 1222) ≡ false → test (pos 701) ≡ false → test (pos 49001) ≡ false → test (pos 49002) ≡ false → test number ≡ true → IsUsual number
usual_by test number one two three four five passes =
    by_tests (int_eq number (pos 1205)) (int_eq number (pos 1222)) (int_eq number (pos 701)) (int_eq number (pos 49001)) (int_eq number (pos 49002)) refl refl refl refl refl
  where
    apart : (from : ℤ) → test from ≡ false → int_eq number from ≡ true → ⊥
    apart from fails same = let no : true ≡ false = sym passes ∙ ap test ((Decides-int_eq number from).0 same) ∙ fails in absurd (cc)

    by_tests : (a b c d e : Bool) → int_eq number (pos 1205) ≡ a → int_eq number (pos 1222) ≡ b → int_eq number (pos 701) ≡ c → int_eq number (pos 49001) ≡ d → int_eq number (pos 49002) ≡ e → (a || (b || (c || (d || e)))) ≡ false
    by_tests true b c d e is1 is2 is3 is4 is5 = absurd (apart (pos 1205) one is1)
    by_tests false true c d e is1 is2 is3 is4 is5 = absurd (apart (pos 1222) two is2)
    by_tests false false true d e is1 is2 is3 is4 is5 = absurd (apart (pos 701) three is3)
    by_tests false false false true e is1 is2 is3 is4 is5 = absurd (apart (pos 49001) four is4)
    by_tests false false false false true is1 is2 is3 is4 is5 = absurd (apart (pos 49002) five is5)
    by_tests false false false false false is1 is2 is3 is4 is5 = refl

-- ---- outcomes

-- a value, or a usual number
abbrev pub Usual : {A : Type 0} → Outcome A → Type 0
Usual (Ok a) = Unit {0}
Usual (Err number) = IsUsual number

usual_raised : {A : Type 0} (outcome : Outcome A) → Raises outcome → Usual outcome
usual_raised (Ok a) raises = tt
usual_raised (Err number) raises = usual_by is_fault number refl refl refl refl refl raises

pub usual_after : {A B : Type 0} (outcome : Outcome A) (next : A → Outcome B) → Usual outcome → ((a : A) → Usual (next a)) → Usual (after outcome next)
usual_after (Ok a) next usual more = more a
usual_after (Err number) next usual more = usual

usual_if : {A : Type 0} (test : Bool) (first other : Outcome A) → Usual first → Usual other → Usual (if test then first else other)
usual_if true first other one two = one
usual_if false first other one two = two

pub usual_each : {A B : Type 0} (f : A → Outcome B) (xs : List A) → ((a : A) → Usual (f a)) → Usual (each f xs)
usual_each f [] usual = tt
usual_each f (x ∷ xs) usual = usual_after (f x) (λ y. after (each f xs) (λ ys. Ok (y ∷ ys))) (usual x) (λ y. usual_after (each f xs) (λ ys. Ok (y ∷ ys)) (usual_each f xs usual) (λ ys. tt))

-- ---- conversions

abbrev pub UsualIf : Option ℤ → Type 0
UsualIf None = Unit {0}
UsualIf (Some number) = IsUsual number

usual_number : (to : SqlType) → IsUsual (number_outside to)
usual_number TinyInt = refl
usual_number SmallInt = refl
usual_number Int = refl
usual_number BigInt = refl
usual_number BitType = refl
usual_number (NText size) = refl

usual_text : (to : SqlType) → IsUsual (text_outside to)
usual_text TinyInt = refl
usual_text SmallInt = refl
usual_text Int = refl
usual_text BigInt = refl
usual_text BitType = refl
usual_text (NText size) = refl

usual_unread : (to : SqlType) → IsUsual (no_number to)
usual_unread TinyInt = refl
usual_unread SmallInt = refl
usual_unread Int = refl
usual_unread BigInt = refl
usual_unread BitType = refl
usual_unread (NText size) = refl

pub usual_error : (fault : ConvertFault) (from to : SqlType) → UsualIf (error_of fault from to)
usual_error Overflow from to = by_text (is_text from)
  where
    by_text : (b : Bool) → IsUsual (if b then text_outside to else number_outside to)
    by_text true = usual_text to
    by_text false = usual_number to
usual_error NotANumber from to = usual_unread to
usual_error TooLong from to = refl
usual_error Memory from to = tt

pub usual_outcome : (number : Option ℤ) → UsualIf number → Usual (error_outcome number)
usual_outcome None usual = tt
usual_outcome (Some number) usual = usual

pub usual_conversion : (from to : SqlType) (of : Value) → Usual (conversion from to of)
usual_conversion from to of = by_cast (cast_of of to)
  where
    by_cast : (cast : Result Value ConvertFault) → Usual (cast_outcome from to cast)
    by_cast (Ok made) = tt
    by_cast (Err fault) = usual_outcome (error_of fault from to) (usual_error fault from to)

-- ---- expressions and tests

pub usual_value : (setting : Setting) (expr : BoundExpr) → Usual (value setting expr)
usual_value setting expr = usual_raised (value setting expr) (tree.value_faults setting expr)

pub usual_truth : (setting : Setting) (test : BoundTest) → Usual (truth setting test)
usual_truth setting test = usual_raised (truth setting test) (tree.truth_faults setting test)

-- ---- aggregates

usual_whole : (to : SqlType) (number : ℤ) → Usual (whole to number)
usual_whole to number = by_range (is_in_range to number)
  where
    by_range : (b : Bool) → Usual (value_outcome (if b then Ok (Some number) else Err overflow))
    by_range true = tt
    by_range false = refl

usual_total : (kind : SumKind) (to : SqlType) (values : List Value) → Usual (total kind to values)
usual_total CountRows to values = usual_whole to (pos (length values))
usual_total Count to values = usual_whole to (pos (length (known values)))
usual_total Total to values = usual_if (nat_eq (length (numbers_of values)) 0) (Ok Null) (whole to (sum_of (numbers_of values))) tt (usual_whole to (sum_of (numbers_of values)))
usual_total Avg to values = usual_if (nat_eq (length (numbers_of values)) 0) (Ok Null) _ tt (usual_after (whole to (sum_of (numbers_of values))) (λ sum. Ok (Whole (int_div (sum_of (numbers_of values)) (pos (length (numbers_of values)))))) (usual_whole to (sum_of (numbers_of values))) (λ sum. tt))
usual_total Min to values = tt
usual_total Max to values = tt

-- ---- the phases of a query

module _ (setting_at : Row → Setting) where
  pub usual_where : (test : Option BoundTest) (rows : List Row) → Usual (rows_where setting_at test rows)
  usual_where None rows = tt
  usual_where (Some test) rows = usual_after (each (λ row. truth (setting_at row) test) rows) (λ found. Ok (items_where_true (map is_true found) rows)) (usual_each (λ row. truth (setting_at row) test) rows (λ row. usual_truth (setting_at row) test)) (λ found. tt)

  usual_classes : (exprs : List BoundExpr) (rows : List Row) → Usual (classes_of setting_at exprs rows)
  usual_classes [] rows = tt
  usual_classes (expr ∷ exprs) rows = usual_after (each (λ row. each (value (setting_at row)) (expr ∷ exprs)) rows) (λ keys. Ok (map (map (λ place. get_or rows place [])) (classes same_row keys)))
      (usual_each (λ row. each (value (setting_at row)) (expr ∷ exprs)) rows (λ row. usual_each (value (setting_at row)) (expr ∷ exprs) (λ one. usual_value (setting_at row) one))) (λ keys. tt)

  usual_operands : (of : Option BoundExpr) (rows : List Row) → Usual (operands_of setting_at of rows)
  usual_operands None rows = tt
  usual_operands (Some expr) rows = usual_each (λ row. value (setting_at row) expr) rows (λ row. usual_value (setting_at row) expr)

  usual_sum : (rows : List Row) (sum : Sum) → Usual (sum_value setting_at rows sum)
  usual_sum rows sum = usual_after (operands_of setting_at sum.of rows) (λ values. total sum.kind sum.to (if sum.distinct then firsts same_value values else values)) (usual_operands sum.of rows) (λ values. usual_total sum.kind sum.to (if sum.distinct then firsts same_value values else values))

  usual_class : (width : ℕ) (sums : List Sum) (rows : List Row) → Usual (class_row setting_at width sums rows)
  usual_class width sums rows = usual_after (each (sum_value setting_at rows) sums) (λ totals. Ok (get_or rows 0 (replicate width Null) ++ totals)) (usual_each (sum_value setting_at rows) sums (usual_sum rows)) (λ totals. tt)

  usual_grouped : (grouped : Bool) (width : ℕ) (groups : List BoundExpr) (sums : List Sum) (rows : List Row) → Usual (class_rows setting_at grouped width groups sums rows)
  usual_grouped false width groups sums rows = tt
  usual_grouped true width groups sums rows = usual_after (classes_of setting_at groups rows) (λ found. each (class_row setting_at width sums) found) (usual_classes groups rows) (λ found. usual_each (class_row setting_at width sums) found (usual_class width sums))

  usual_items : (distinct : Bool) (items : List Item) (rows : List Row) → Usual (with_items setting_at distinct items rows)
  usual_items distinct items rows = usual_after (each (λ row. each (λ item. value (setting_at row) item.expr) items) rows) _
      (usual_each (λ row. each (λ item. value (setting_at row) item.expr) items) rows (λ row. usual_each (λ item. value (setting_at row) item.expr) items (λ item. usual_value (setting_at row) item.expr))) (λ values. tt)

  usual_key : (pair : Row × Row) (by : OrderKey) → Usual (order_value setting_at pair by)
  usual_key pair (key.Item place) = tt
  usual_key pair (key.Expr expr) = usual_value (setting_at pair.0) expr

  usual_order : (order : List BoundOrder) (pairs : List (Row × Row)) → Usual (in_order_of setting_at order pairs)
  usual_order order pairs = usual_after (each (λ pair. each (λ by. order_value setting_at pair by.key) order) pairs) _
      (usual_each (λ pair. each (λ by. order_value setting_at pair by.key) order) pairs (λ pair. usual_each (λ by. order_value setting_at pair by.key) order (λ by. usual_key pair by.key))) (λ keys. tt)

  usual_given : {A B : Type 0} (query : BoundQuery-F A B) (joined : List Row) → Usual (rows_given setting_at query joined)
  usual_given query joined =
      usual_after (rows_where setting_at query.filter joined) _ (usual_where query.filter joined) (λ found.
      usual_after (class_rows setting_at query.grouped (sum_by (λ ref. ref.width) query.refs) query.groups query.sums found) _ (usual_grouped query.grouped (sum_by (λ ref. ref.width) query.refs) query.groups query.sums found) (λ rows.
      usual_after (rows_where setting_at query.having rows) _ (usual_where query.having rows) (λ kept.
      usual_after (with_items setting_at query.distinct query.items kept) _ (usual_items query.distinct query.items kept) (λ pairs.
      usual_after (in_order_of setting_at query.order pairs) (λ in_order. Ok (top_of query.top in_order)) (usual_order query.order pairs) (λ in_order. tt)))))

  -- ---- joins

  usual_tried : (test : Row → Outcome Truth) (rows : List Row) (budget : ℕ) → ((row : Row) → Usual (test row)) → Usual (truths_tried (map test rows) budget)
  usual_tried test [] budget usual = tt
  usual_tried test (row ∷ rows) zero usual = refl
  usual_tried test (row ∷ rows) (suc budget) usual = usual_after (test row) _ (usual row) (λ says. usual_after (truths_tried (map test rows) budget) (λ others. Ok (says ∷ others.0, others.1)) (usual_tried test rows budget usual) (λ others. tt))

  usual_on : (kind : JoinKind) (on : Option BoundTest) (pair : Row) → Usual (on_truth setting_at kind on pair)
  usual_on Cross on pair = tt
  usual_on Inner None pair = tt
  usual_on Left None pair = tt
  usual_on Inner (Some test) pair = usual_truth (setting_at pair) test
  usual_on Left (Some test) pair = usual_truth (setting_at pair) test

  usual_join : (join : Join) (kind : JoinKind) (on : Option BoundTest) (budget : ℕ) → Usual (join_of join (on_truth setting_at kind on) budget)
  usual_join join kind on budget = usual_after (truths_tried (map (on_truth setting_at kind on) (pairs join.left join.right)) budget) (λ found. Ok (joined join found.0, found.1)) (usual_tried (on_truth setting_at kind on) (pairs join.left join.right) budget (usual_on kind on)) (λ found. tt)

  usual_more : (tests : List ColumnTest) (width : ℕ) (rows : List Row) (refs : List Reference) (stock : Stock) → Usual (join_more setting_at tests width rows refs stock)
  usual_more tests width rows [] stock = tt
  usual_more tests width rows (ref ∷ refs) stock = usual_after (join_of (join_with ref) (on_truth setting_at ref.join ref.on) stock.budget) _ (usual_join (join_with ref) ref.join ref.on stock.budget)
      (λ more. usual_more tests (width + ref.width) more.0 refs (record { images = images_behind stock.images; budget = more.1 }))
    where
      join_with : Reference → Join
      join_with of = record { kind = of.join; width = of.width; left = rows; right = rows_read of.key width tests of.join (image_of stock.images) }

  usual_joined : (tests : List ColumnTest) (refs : List Reference) (stock : Stock) → Usual (joined_refs setting_at tests refs stock)
  usual_joined tests [] stock = tt
  usual_joined tests (ref ∷ refs) stock = usual_more tests ref.width (rows_read ref.key 0 tests Cross (image_of stock.images)) refs (record stock { images = images_behind stock.images })

-- ---- queries

abbrev pub UsualFrom : {A : Type 0} → FromStock A → Type 0
UsualFrom from = (stock : Stock) → Usual (from stock)

pub usual_inner_rows : {A : Type 0} (answer : A → Answers) (inner : List A) → AllByRecursion (λ one. UsualFrom (answer one)) inner → (stock : Stock) → Usual (inner_rows (map answer inner) stock)
usual_inner_rows answer [] all stock = tt
usual_inner_rows answer (one ∷ inner) all stock = usual_after (answer one stock) _ (all.0 stock) (λ rows. usual_after (inner_rows (map answer inner) rows.1) (λ others. Ok (rows.0 ∷ others.0, others.1)) (usual_inner_rows answer inner all.1 rows.1) (λ others. tt))

usual_allowed : (single : Bool) (rows : List Row) → Usual (rows_allowed single rows)
usual_allowed true [] = tt
usual_allowed true (row ∷ []) = tt
usual_allowed true (row ∷ other ∷ rest) = refl
usual_allowed false rows = tt

module _ (vars system : List Value) where
  abbrev UsualQuery : BoundQuery → Type 0
  UsualQuery query = UsualFrom (answer_of vars system query)

  abbrev UsualInner : InnerQuery → Type 0
  UsualInner inner = UsualFrom (inner_answer vars system inner)

  abbrev QueryBelow : Type 0
  QueryBelow = BoundQuery-F ((q : BoundQuery) × UsualQuery q) ((i : InnerQuery) × UsualInner i)

  abbrev queries_below : QueryBelow → BoundQuery-F BoundQuery InnerQuery
  queries_below = map-BoundQuery _ _ BoundQuery InnerQuery (λ q. q.0) (λ i. i.0)

  abbrev answers_below : BoundQuery-F BoundQuery InnerQuery → BoundQuery-F Answers Answers
  answers_below = map-BoundQuery _ _ Answers Answers (answer_of vars system) (inner_answer vars system)

  all_below : (inner : List ((i : InnerQuery) × UsualInner i)) → AllByRecursion (λ one. UsualFrom (inner_answer vars system one)) (map (λ i. i.0) inner)
  all_below [] = tt
  all_below (one ∷ inner) = (one.1, all_below inner)

  usual_own : {A B : Type 0} (inner : List (List Row)) (query : BoundQuery-F A B) (stock : Stock) → Usual (own_rows vars system inner query stock)
  usual_own inner query stock = usual_after (joined_refs setting_with (where_tests vars query.filter) query.refs stock) _ (usual_joined setting_with (where_tests vars query.filter) query.refs stock)
      (λ found. usual_after (rows_given setting_with query found.0) (λ rows. Ok (rows, found.1)) (usual_given setting_with query found.0) (λ rows. tt))
    where
      setting_with : Row → Setting
      setting_with row = record { row = row; vars = vars; system = system; inner = inner }

  query_layer : (y : QueryBelow) → UsualQuery (roll-BoundQuery (queries_below y))
  query_layer y stock = subst (λ (answers : Answers). Usual (answers stock)) (sym (fold-roll-BoundQuery Answers Answers (query_step vars system) inner_step (queries_below y)))
      (usual_after (inner_rows (map (inner_answer vars system) (map (λ i. i.0) y.inner)) stock) _ (usual_inner_rows (inner_answer vars system) (map (λ i. i.0) y.inner) (all_below y.inner) stock) (λ inner. usual_own inner.0 (answers_below (queries_below y)) inner.1))

  inner_layer : (query : BoundQuery) (single : Bool) → UsualQuery query → UsualInner (roll-InnerQuery (record { query = query; single = single }))
  inner_layer query single usual stock =
      let i : InnerQuery-F BoundQuery InnerQuery = record { query = query; single = single } in
      subst (λ (answers : Answers). Usual (answers stock)) (sym (fold-roll-InnerQuery Answers Answers (query_step vars system) inner_step i))
      (usual_after (answer_of vars system query stock) _ (usual stock) (λ answer. usual_after (rows_allowed single answer.0) (λ rows. Ok (rows, answer.1)) (usual_allowed single answer.0) (λ rows. tt)))

  usual_query : (query : BoundQuery) → UsualQuery query
  usual_query = ind-BoundQuery UsualQuery UsualInner (λ x y is. subst (λ z. UsualQuery (roll-BoundQuery z)) is (query_layer y)) (λ x y is. subst (λ z. UsualInner (roll-InnerQuery z)) is (inner_layer y.query.0 y.single y.query.1))

  pub usual_inner : (inner : InnerQuery) → UsualInner inner
  usual_inner = ind-InnerQuery UsualQuery UsualInner (λ x y is. subst (λ z. UsualQuery (roll-BoundQuery z)) is (query_layer y)) (λ x y is. subst (λ z. UsualInner (roll-InnerQuery z)) is (inner_layer y.query.0 y.single y.query.1))

  -- what a query answers on images
  pub usual_answer : (query : BoundQuery) (images : List (List Row)) → Usual (Ans vars system query images)
  usual_answer query images = usual_after (answer_of vars system query (record { images = images; budget = pair_limit })) (λ answer. Ok answer.0) (usual_query query (record { images = images; budget = pair_limit })) (λ answer. tt)
