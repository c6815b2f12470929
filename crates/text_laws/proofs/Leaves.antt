-- Which nodes of a tree leave the row, by their parts; and of what is made of parts as a table is read.
use Rattle.std.specs.Prelude.{◌≡◌, ℕ, zero, suc, Bool, true, false, ◌||◌, List, [], ◌∷◌, ◌++◌, map, option_map, Option, Some, None, refl}
use Rattle.std.proofs.Common.{sym, ◌∙◌}
use Rattle.value_types.specs.declared.sql_type.SqlType.{SqlType}
use Rattle.tsql_tree.specs.declared.definition.CheckTree.{CheckTree}
use Rattle.tsql_tree.specs.declared.query.AddSign.{AddSign}
use Rattle.tsql_tree.specs.declared.query.Aggregate.{Aggregate}
use Rattle.tsql_tree.specs.declared.query.Arm.{Arm, roll-Arm}
use Rattle.tsql_tree.specs.declared.query.CompareSign.{CompareSign}
use Rattle.tsql_tree.specs.declared.query.Expr.{Expr, the_lemmas}
use Rattle.tsql_tree.specs.declared.query.Expr.TheVariants as expr
use Rattle.tsql_tree.specs.declared.query.Factor.{Factor, roll-Factor}
use Rattle.tsql_tree.specs.declared.query.MultiplySign.{MultiplySign}
use Rattle.tsql_tree.specs.declared.query.Select.{Select}
use Rattle.tsql_tree.specs.declared.query.Term.{Term, roll-Term}
use Rattle.tsql_tree.specs.declared.query.Test.{Test}
use Rattle.tsql_tree.specs.declared.query.Test.TheVariants as test
use Rattle.tsql_grammar.specs.Trees.{with_signs, product, sum, all_of, any_of, with_nots, Draft, add_check}
use Rattle.text_laws.specs.Rows.{some_of, maybe_so, expr_leaves, test_leaves, arm_leaves, factor_leaves, term_leaves, table_leaves}
use Rattle.text_laws.proofs.RowAlone.{none_two, none_first, none_second}

-- ---- nodes

pub is_leaving : (b : Bool) → b ≡ true → b ≡ false → ⊥
is_leaving b e f = cc

pub variable_leaves : (name : List ℕ) → expr_leaves (expr.Variable name) ≡ true
variable_leaves name = search the_lemmas

pub query_leaves : (select : Select) → expr_leaves (expr.Query select) ≡ true
query_leaves select = search the_lemmas

pub parens_leaves : (a : Expr) → expr_leaves (expr.Parens a) ≡ expr_leaves a
parens_leaves a = search the_lemmas

pub case_is : (arms : List Arm) (other : Option Expr) → expr_leaves (expr.Case arms other) ≡ (some_of (map arm_leaves arms) || maybe_so (option_map expr_leaves other))
case_is arms None = search the_lemmas
case_is arms (Some other) = search the_lemmas

pub cast_is : (a : Expr) (kind : SqlType) → expr_leaves (expr.Cast a kind) ≡ expr_leaves a
cast_is a kind = search the_lemmas

pub is_null_is : (a b : Expr) → expr_leaves (expr.IsNull a b) ≡ (expr_leaves a || expr_leaves b)
is_null_is a b = search the_lemmas

pub null_if_is : (a b : Expr) → expr_leaves (expr.NullIf a b) ≡ (expr_leaves a || expr_leaves b)
null_if_is a b = search the_lemmas

pub coalesce_is : (items : List Expr) → expr_leaves (expr.Coalesce items) ≡ some_of (map expr_leaves items)
coalesce_is items = search the_lemmas

pub length_is : (a : Expr) → expr_leaves (expr.Length a) ≡ expr_leaves a
length_is a = search the_lemmas

pub aggregate_is : (of : Aggregate) (distinct : Bool) (a : Expr) → expr_leaves (expr.Aggregate of distinct a) ≡ expr_leaves a
aggregate_is of distinct a = search the_lemmas

signed_is : (signs : List AddSign) (a : Expr) → expr_leaves (expr.Signed signs a) ≡ expr_leaves a
signed_is signs a = search the_lemmas

product_is : (first : Expr) (factors : List Factor) → expr_leaves (expr.Product first factors) ≡ (expr_leaves first || some_of (map factor_leaves factors))
product_is first factors = search the_lemmas

sum_is : (first : Expr) (terms : List Term) → expr_leaves (expr.Sum first terms) ≡ (expr_leaves first || some_of (map term_leaves terms))
sum_is first terms = search the_lemmas

test_parens_is : (a : Test) → test_leaves (test.Parens a) ≡ test_leaves a
test_parens_is a = search the_lemmas

pub exists_leaves : (select : Select) → test_leaves (test.Exists select) ≡ true
exists_leaves select = search the_lemmas

pub compare_is : (a : Expr) (sign : CompareSign) (b : Expr) → test_leaves (test.Compare a sign b) ≡ (expr_leaves a || expr_leaves b)
compare_is a sign b = search the_lemmas

pub is_null_test_is : (a : Expr) (negated : Bool) → test_leaves (test.IsNull a negated) ≡ expr_leaves a
is_null_test_is a negated = search the_lemmas

pub between_is : (a : Expr) (negated : Bool) (low high : Expr) → test_leaves (test.Between a negated low high) ≡ (expr_leaves a || (expr_leaves low || expr_leaves high))
between_is a negated low high = search the_lemmas

pub in_query_leaves : (a : Expr) (negated : Bool) (select : Select) → test_leaves (test.InQuery a negated select) ≡ true
in_query_leaves a negated select = search the_lemmas

pub in_list_is : (a : Expr) (negated : Bool) (items : List Expr) → test_leaves (test.InList a negated items) ≡ (expr_leaves a || some_of (map expr_leaves items))
in_list_is a negated items = search the_lemmas

not_is : (n : ℕ) (a : Test) → test_leaves (test.Not n a) ≡ test_leaves a
not_is n a = search the_lemmas

and_is : (first : Test) (rest : List Test) → test_leaves (test.And first rest) ≡ (test_leaves first || some_of (map test_leaves rest))
and_is first rest = search the_lemmas

or_is : (first : Test) (rest : List Test) → test_leaves (test.Or first rest) ≡ (test_leaves first || some_of (map test_leaves rest))
or_is first rest = search the_lemmas

pub arm_is : (of : Test) (gives : Expr) → arm_leaves (roll-Arm (record { test = of; gives = gives })) ≡ (test_leaves of || expr_leaves gives)
arm_is of gives = search the_lemmas

pub factor_is : (sign : MultiplySign) (operand : Expr) → factor_leaves (roll-Factor (record { sign = sign; operand = operand })) ≡ expr_leaves operand
factor_is sign operand = search the_lemmas

pub term_is : (sign : AddSign) (operand : Expr) → term_leaves (roll-Term (record { sign = sign; operand = operand })) ≡ expr_leaves operand
term_is sign operand = search the_lemmas

-- ---- what is made of parts leaves no row where none of them does

pub both_of : (whole a b : Bool) → whole ≡ (a || b) → whole ≡ false → (a ≡ false) × (b ≡ false)
both_of whole a b is e = let f : (a || b) ≡ false = sym is ∙ e in (none_first a b f, none_second a b f)

pub sum_parts : (first : Expr) (terms : List Term) → expr_leaves (sum first terms) ≡ false → (expr_leaves first ≡ false) × (some_of (map term_leaves terms) ≡ false)
sum_parts first [] e = (e, refl)
sum_parts first (second ∷ more) e = both_of _ (expr_leaves first) (some_of (map term_leaves (second ∷ more))) (sum_is first (second ∷ more)) e

pub product_parts : (first : Expr) (factors : List Factor) → expr_leaves (product first factors) ≡ false → (expr_leaves first ≡ false) × (some_of (map factor_leaves factors) ≡ false)
product_parts first [] e = (e, refl)
product_parts first (second ∷ more) e = both_of _ (expr_leaves first) (some_of (map factor_leaves (second ∷ more))) (product_is first (second ∷ more)) e

pub signs_part : (signs : List AddSign) (operand : Expr) → expr_leaves (with_signs signs operand) ≡ false → expr_leaves operand ≡ false
signs_part [] operand e = e
signs_part (sign ∷ more) operand e = sym (signed_is (sign ∷ more) operand) ∙ e

pub all_parts : (first : Test) (rest : List Test) → test_leaves (all_of first rest) ≡ false → (test_leaves first ≡ false) × (some_of (map test_leaves rest) ≡ false)
all_parts first [] e = (e, refl)
all_parts first (second ∷ more) e = both_of _ (test_leaves first) (some_of (map test_leaves (second ∷ more))) (and_is first (second ∷ more)) e

pub any_parts : (first : Test) (rest : List Test) → test_leaves (any_of first rest) ≡ false → (test_leaves first ≡ false) × (some_of (map test_leaves rest) ≡ false)
any_parts first [] e = (e, refl)
any_parts first (second ∷ more) e = both_of _ (test_leaves first) (some_of (map test_leaves (second ∷ more))) (or_is first (second ∷ more)) e

pub nots_part : (n : ℕ) (inner : Test) → test_leaves (with_nots n inner) ≡ false → test_leaves inner ≡ false
nots_part zero inner e = e
nots_part (suc n) inner e = sym (not_is (suc n) inner) ∙ e

-- a test in parentheses, whose first part was read before it was known for one
pub record Enclosed (first : Test) (rest others : List Test) : Type 0 where
  pub front : test_leaves first ≡ false
  pub ands : some_of (map test_leaves rest) ≡ false
  pub ors : some_of (map test_leaves others) ≡ false

pub enclosed : (first : Test) (ands ors : List Test) → test_leaves (test.Parens (any_of (all_of first ands) ors)) ≡ false → Enclosed first ands ors
enclosed first ands ors e =
    let any = any_parts (all_of first ands) ors (sym (test_parens_is (any_of (all_of first ands) ors)) ∙ e) in
    let all = all_parts first ands any.0 in
    record { front = all.0; ands = all.1; ors = any.1 }

abbrev pub draft_leaves : Draft → Bool
draft_leaves d = table_leaves d.table

some_behind : (xs : List CheckTree) (one : CheckTree) → some_of (map (λ (check : CheckTree). test_leaves check.test) (xs ++ one ∷ [])) ≡ false
    → (some_of (map (λ (check : CheckTree). test_leaves check.test) xs) ≡ false) × (test_leaves one.test ≡ false)
some_behind [] one e = (refl, none_first (test_leaves one.test) false e)
some_behind (x ∷ xs) one e =
    let rest = some_behind xs one (none_second (test_leaves x.test) _ e) in
    (none_two (test_leaves x.test) _ (none_first (test_leaves x.test) _ e) rest.0, rest.1)

pub check_parts : (of : Test) (name : Option (List ℕ)) (d : Draft) → draft_leaves (add_check of name d) ≡ false → (draft_leaves d ≡ false) × (test_leaves of ≡ false)
check_parts of name d e = some_behind d.table.checks _ e
