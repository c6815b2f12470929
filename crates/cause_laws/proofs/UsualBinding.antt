-- Whatever is bound one after another is refused by usual numbers alone: names, inner queries, aggregates, and the clauses of a select.
use Rattle.std.proofs.Common.{refl, ℕ, List, [], ◌∷◌, ◌++◌, Option, Some, None, Bool, true, false, Ok, Err, ℤ}
use Rattle.std.specs.Prelude.{not, length, if◌then◌else◌}
use Rattle.std.specs.List.{AllByRecursion}
use Rattle.value_types.specs.declared.sql_type.SqlType.{SqlType}
use Rattle.value_types.specs.declared.sql_type.SqlType.TheVariants.{TinyInt, SmallInt, Int, BigInt, Bit as BitType, NText}
use Rattle.convert_rules.specs.Conversion.{is_text}
use Rattle.session_vars.specs.declared.Variable.{Variable}
use Rattle.session_vars.specs.Variables.{place_of}
use Rattle.tsql_tree.specs.declared.definition.ColumnTree.{ColumnTree}
use Rattle.tsql_tree.specs.declared.definition.Definition.{Definition}
use Rattle.tsql_tree.specs.declared.query.Aggregate.{Aggregate}
use Rattle.tsql_tree.specs.declared.query.Aggregate.TheVariants as aggregates
use Rattle.tsql_tree.specs.declared.query.AddSign.{AddSign}
use Rattle.tsql_tree.specs.declared.query.AddSign.TheVariants.{Plus, Minus}
use Rattle.bound_tree.specs.declared.expr.BoundExpr.{BoundExpr}
use Rattle.bound_tree.specs.declared.expr.BoundTest.{BoundTest}
use Rattle.bound_tree.specs.declared.expr.InfixOp.{InfixOp}
use Rattle.bound_tree.specs.declared.query.BoundOrder.{BoundOrder}
use Rattle.bound_tree.specs.declared.query.Item.{Item}
use Rattle.bound_tree.specs.Typed.{is_add}
use Rattle.typed_nodes.specs.declared.expr.TypedExpr.{TypedExpr}
use Rattle.typed_nodes.specs.declared.facts.Facts.{Facts}
use Rattle.typed_nodes.specs.declared.test.TypedTest.{TypedTest}
use Rattle.typed_nodes.specs.Refusals.{Outcome, after}
use Rattle.typed_nodes.specs.Facts.{highest_of, or_int}
use Rattle.typed_nodes.specs.Nodes as node
use Rattle.clause_binder.specs.declared.from.JoinedTables.{JoinedTables}
use Rattle.clause_binder.specs.declared.named.NamedItems.{NamedItems}
use Rattle.clause_binder.specs.declared.operand.Selected.{Selected}
use Rattle.clause_binder.specs.declared.progress.Progress.{Progress}
use Rattle.clause_binder.specs.declared.scope.Matches.{Matches}
use Rattle.clause_binder.specs.declared.scope.Matches.TheVariants as matches
use Rattle.clause_binder.specs.declared.shape.Shape.{Shape}
use Rattle.clause_binder.specs.declared.shape.Shape.TheVariants as shape
use Rattle.clause_binder.specs.Scope.{TableSource, are_beyond, behind, found_from, is_long, is_meant, the_one}
use Rattle.clause_binder.specs.Progress.{Binding, Context, Read, and_then, begin_at, beyond_where, each_onto, given, is_deep, plain, pure}
use Rattle.clause_binder.specs.Operands as operand
use Rattle.clause_binder.specs.Clauses as clause
use Rattle.clause_binder.specs.Clauses.{ExprRead, FromRead, ItemRead, JoinRead, OrderRead, SelectRead, assigned, star, star_of, valued}
use Rattle.clause_binder.specs.Bind as bind
use Rattle.cause_laws.proofs.Usual.{IsUsual}

-- ---- outcomes

-- something that is bound, or a usual number
abbrev pub Bounds : {A : Type 0} → Outcome A → Type 0
Bounds (Ok a) = Unit {0}
Bounds (Err refusal) = IsUsual refusal.0

abbrev pub Binds : {A : Type 0} → Binding A → Type 0
Binds bind = (at : Context) (done : Progress) → Bounds (bind at done)

pub bounds_after : {A B : Type 0} (outcome : Outcome A) (next : A → Outcome B) → Bounds outcome → ((a : A) → Bounds (next a)) → Bounds (after outcome next)
bounds_after (Ok a) next bounds more = more a
bounds_after (Err refusal) next bounds more = bounds

pub bounds_if : {A : Type 0} (test : Bool) (first other : Outcome A) → Bounds first → Bounds other → Bounds (if test then first else other)
bounds_if true first other one two = one
bounds_if false first other one two = two

pub binds_pure : {A : Type 0} (a : A) → Binds (pure a)
binds_pure a at done = tt

pub binds_then : {A B : Type 0} (first : Binding A) (next : A → Binding B) → Binds first → ((a : A) → Binds (next a)) → Binds (and_then first next)
binds_then first next binds more at done = bounds_after (first at done) (λ r. next r.0 at r.1) (binds at done) (λ r. more r.0 at r.1)

pub binds_given : {A : Type 0} (outcome : Context → Outcome A) → ((at : Context) → Bounds (outcome at)) → Binds (λ at. given (outcome at) at)
binds_given outcome bounds at done = bounds_after (outcome at) (λ a. Ok (a, done)) (bounds at) (λ a. tt)

pub binds_each : {A : Type 0} (before : List A) (bindings : List (Binding A)) → AllByRecursion (λ (one : Binding A). Binds one) bindings → Binds (each_onto before bindings)
binds_each before [] all = binds_pure before
binds_each before (one ∷ rest) all = binds_then one (λ a. each_onto (before ++ a ∷ []) rest) all.0 (λ a. binds_each (before ++ a ∷ []) rest all.1)

-- ---- nodes

bounds_infix : (op : InfixOp) (a b : TypedExpr) → Bounds (node.infix_expr op a b)
bounds_infix op a b = bounds_after (node.infix_kind op (or_int (highest_of (node.as_number a).facts.kind (node.as_number b).facts.kind)) (node.as_number a).facts.kind (node.as_number b).facts.kind) _
    (by_kind (or_int (highest_of (node.as_number a).facts.kind (node.as_number b).facts.kind)) (node.as_number a).facts.kind (node.as_number b).facts.kind) (λ kind. tt)
  where
    by_kind : (higher : SqlType) (x y : Option SqlType) → Bounds (node.infix_kind op higher x y)
    by_kind higher x y = bounds_if (is_text higher) _ (Ok higher) (bounds_if (is_add op) (Ok (node.joined_kind x y)) _ tt refl) tt

bounds_negative : (a : TypedExpr) → Bounds (node.negative_expr a)
bounds_negative a = by_kind (node.negative_kind (or_int (node.as_number a).facts.kind))
  where
    by_kind : (kind : Option SqlType) → Bounds (node.negative_to kind (node.as_number a))
    by_kind None = refl
    by_kind (Some kind) = tt

-- ---- columns and variables

bounds_column : (qualifier : Option (List ℕ)) (name : List ℕ) (at : Context) → Bounds (operand.column_in qualifier name at)
bounds_column qualifier name at = bounds_after (the_one name found) _ (by_found found) (λ one. tt)
  where
    found : Matches
    found = found_from qualifier name 0 at.sources matches.Nothing

    by_found : (found : Matches) → Bounds (the_one name found)
    by_found matches.Nothing = refl
    by_found (matches.One one) = tt
    by_found matches.Several = refl

pub bounds_variable : (vars : List Variable) (name : List ℕ) → Bounds (operand.variable_of vars name)
bounds_variable vars name = by_place (place_of name vars)
  where
    by_place : (place : Option ℕ) → Bounds (operand.variable_from vars name place)
    by_place None = refl
    by_place (Some place) = tt

pub binds_column : (qualifier : Option (List ℕ)) (name : List ℕ) → Binds (operand.column qualifier name)
binds_column qualifier name = binds_given (operand.column_in qualifier name) (bounds_column qualifier name)

pub binds_variable : (vars : List Variable) (name : List ℕ) → Binds (operand.variable vars name)
binds_variable vars name = binds_given (λ at. operand.variable_in vars at name) (λ at. bounds_if at.row_alone (Ok (operand.left_out None)) (operand.variable_of vars name) tt (bounds_variable vars name))

-- ---- inner queries

bounds_only : (items : List Item) → Bounds (operand.only_kind items)
bounds_only [] = tt
bounds_only (item ∷ []) = tt
bounds_only (item ∷ other ∷ rest) = refl

pub binds_scalar : (select : Outcome Selected) → Bounds select → Binds (operand.scalar select)
binds_scalar select bounds at done = bounds_if at.row_alone (Ok (operand.left_out None, done)) (after select (λ s. operand.scalar_with s done)) tt
    (bounds_after select (λ s. operand.scalar_with s done) bounds (λ s. bounds_after (operand.only_kind (operand.items_of s.query)) (operand.scalar_from s done) (bounds_only (operand.items_of s.query)) (λ kind. tt)))

pub binds_exists : (select : Outcome Selected) → Bounds select → Binds (operand.exists select)
binds_exists select bounds at done = bounds_if at.row_alone (Ok (operand.test_left_out, done)) (after select (λ s. Ok (operand.exists_from s done))) tt (bounds_after select (λ s. Ok (operand.exists_from s done)) bounds (λ s. tt))

pub binds_in_query : (select : Outcome Selected) (a : TypedExpr) → Bounds select → Binds (operand.in_query select a)
binds_in_query select a bounds at done = bounds_if at.row_alone (Ok (operand.test_left_out, done)) (after select (λ s. operand.in_query_with a s done)) tt
    (bounds_after select (λ s. operand.in_query_with a s done) bounds (λ s. bounds_after (operand.only_kind (operand.items_of s.query)) (operand.in_query_from a s done) (bounds_only (operand.items_of s.query)) (λ kind. tt)))

-- ---- aggregates

bounds_total : (kind : SqlType) → Bounds (operand.total_kind kind)
bounds_total TinyInt = tt
bounds_total SmallInt = tt
bounds_total Int = tt
bounds_total BigInt = tt
bounds_total BitType = refl
bounds_total (NText size) = refl

bounds_extreme : (kind : SqlType) → Bounds (operand.extreme_kind kind)
bounds_extreme TinyInt = tt
bounds_extreme SmallInt = tt
bounds_extreme Int = tt
bounds_extreme BigInt = tt
bounds_extreme BitType = refl
bounds_extreme (NText size) = tt

bounds_kind : (agg : Aggregate) (kind : SqlType) → Bounds (operand.aggregate_kind agg kind)
bounds_kind aggregates.Count kind = tt
bounds_kind aggregates.Sum kind = bounds_total kind
bounds_kind aggregates.Avg kind = bounds_total kind
bounds_kind aggregates.Min kind = bounds_extreme kind
bounds_kind aggregates.Max kind = bounds_extreme kind

pub binds_aggregate : (agg : Aggregate) (distinct : Bool) (a : Binding TypedExpr) → Binds a → Binds (operand.aggregate agg distinct a)
binds_aggregate agg distinct a binds at done = by_from at.sums_from
  where
    by_from : (from : Option ℕ) → Bounds (operand.aggregate_from from agg distinct a at done)
    by_from None = refl
    by_from (Some from) = bounds_after (a (operand.within_sum at) done) (λ r. operand.sum_with agg distinct from r.0 r.1) (binds (operand.within_sum at) done)
        (λ r. bounds_after (operand.aggregate_kind agg (or_int r.0.facts.kind)) (operand.sum_of agg distinct from r.0 r.1) (bounds_kind agg (or_int r.0.facts.kind)) (λ to. tt))

pub binds_count : Binds operand.count_rows
binds_count at done = by_from at.sums_from
  where
    by_from : (from : Option ℕ) → Bounds (operand.count_rows_from from done)
    by_from None = refl
    by_from (Some from) = tt

-- ---- expressions

pub binds_settled : (a : Binding TypedExpr) → Binds a → Binds (bind.settle a)
binds_settled a binds at done = bounds_after (a at done) (λ r. Ok (clause.settled at.groups r.0, r.1)) (binds at done) (λ r. tt)

bounds_signs : (groups : List BoundExpr) (a : TypedExpr) (signs : List AddSign) → Bounds (bind.signed_onto groups a signs)
bounds_signs groups a [] = tt
bounds_signs groups a (sign ∷ rest) = bounds_after (bind.signed_by groups sign a) (λ x. bind.signed_onto groups x rest) (by_sign sign) (λ x. bounds_signs groups x rest)
  where
    by_sign : (sign : AddSign) → Bounds (bind.signed_by groups sign a)
    by_sign Plus = tt
    by_sign Minus = bounds_after (node.negative_expr a) (λ x. Ok (clause.settled groups x)) (bounds_negative a) (λ x. tt)

pub binds_signed : (signs : List AddSign) (of : Shape) (a : Binding TypedExpr) → Binds a → Binds (bind.signed_from signs of a)
binds_signed signs (shape.Number n) a binds = binds_pure (bind.literal (bind.signed_number signs n))
binds_signed signs shape.Null a binds = binds_pure (bind.signed_null signs)
binds_signed signs shape.Name a binds = binds_then a (bind.signed_node signs) binds (λ x. binds_given (λ at. bind.signed_onto at.groups x signs) (λ at. bounds_signs at.groups x signs))
binds_signed signs shape.Node a binds = binds_then a (bind.signed_node signs) binds (λ x. binds_given (λ at. bind.signed_onto at.groups x signs) (λ at. bounds_signs at.groups x signs))

pub binds_chain : (before : TypedExpr) (rest : List bind.TermRead) → AllByRecursion (λ (a : bind.TermRead). Binds a.read.bind) rest → Binds (bind.chain_onto before rest)
binds_chain before [] all = binds_pure before
binds_chain before (a ∷ rest) all = binds_then (bind.joined_to before a) (λ x. bind.chain_onto x rest)
    (binds_settled (and_then a.read.bind (λ x. given (node.infix_expr a.op before x))) (binds_then a.read.bind (λ x. given (node.infix_expr a.op before x)) all.0 (λ x. binds_given (λ at. node.infix_expr a.op before x) (λ at. bounds_infix a.op before x))))
    (λ x. binds_chain x rest all.1)

-- ---- clauses

abbrev pub BindsTest : Option (Read TypedTest) → Type 0
BindsTest None = Unit {0}
BindsTest (Some of) = Binds of.bind

abbrev pub BindsItem : ItemRead → Type 0
BindsItem star = Unit {0}
BindsItem (star_of name) = Unit {0}
BindsItem (assigned name a) = Binds a.read.bind
BindsItem (valued a alias) = Binds a.read.bind

abbrev pub BindsJoin : JoinRead → Type 0
BindsJoin join = BindsTest join.on

abbrev pub BindsFrom : Option FromRead → Type 0
BindsFrom None = Unit {0}
BindsFrom (Some from) = AllByRecursion BindsJoin from.joins

-- the parts of a select
pub record BindsParts (select : SelectRead) : Type 0 where
  pub items : AllByRecursion BindsItem select.items
  pub from : BindsFrom select.from
  pub filter : BindsTest select.filter
  pub groups : AllByRecursion (λ (a : ExprRead). Binds a.read.bind) select.groups
  pub having : BindsTest select.having
  pub order : AllByRecursion (λ (o : OrderRead). Binds o.expr.read.bind) select.order

binds_filter : (of : Option (Read TypedTest)) → BindsTest of → Binds (clause.filter_of of)
binds_filter None binds = λ at done. tt
binds_filter (Some of) binds = λ at done. bounds_after (clause.whole_test of.bind at done) (λ r. Ok (Some r.0, r.1))
    (bounds_after (of.bind at done) (λ r. Ok (clause.noted_test r.0 r.1)) (binds at done) (λ r. tt)) (λ r. tt)

binds_looked : (facts : Facts) → Binds (clause.looked_at facts)
binds_looked facts at done = bounds_after (clause.grouped_or_refused facts at) (λ ok. Ok (ok, beyond_where (is_deep facts) done)) (by_from at.sums_from facts.loose) (λ ok. tt)
  where
    by_from : (from loose : Option ℕ) → Bounds (clause.grouped_from from loose at.sources)
    by_from None loose = tt
    by_from (Some from) None = tt
    by_from (Some from) (Some place) = refl

binds_groups : (before : List BoundExpr) (groups : List ExprRead) → AllByRecursion (λ (a : ExprRead). Binds a.read.bind) groups → Binds (clause.groups_onto before groups)
binds_groups before [] all = binds_pure before
binds_groups before (a ∷ rest) all = binds_then (clause.whole a.read.bind) (λ x. clause.groups_onto (before ++ x ∷ []) rest)
    (λ at done. bounds_after (a.read.bind at done) (λ r. Ok (clause.noted r.0 r.1)) (all.0 at done) (λ r. tt)) (λ x. binds_groups (before ++ x ∷ []) rest all.1)

binds_having : (of : Option (Read TypedTest)) → BindsTest of → Binds (clause.having_of of)
binds_having None binds = binds_pure {A = Option BoundTest} None
binds_having (Some of) binds = binds_then (and_then of.bind clause.whole_having) (λ test. pure (Some test))
    (binds_then of.bind clause.whole_having binds (λ a at done. bounds_after (clause.looked_at a.facts at done) (λ r. Ok (a.test, r.1)) (binds_looked a.facts at done) (λ r. tt)))
    (λ test. binds_pure (Some test))

-- ---- items

binds_value : (name : List ℕ) (alias : Option (List ℕ)) (before : NamedItems) (a : TypedExpr) → Binds (clause.value_item name alias before a)
binds_value name alias before a at done = bounds_after (clause.looked_at a.facts at done) (λ r. Ok (clause.with_item before (clause.item_of name a) alias, beyond_where (is_long name) r.1)) (binds_looked a.facts at done) (λ r. tt)

binds_columns : (columns : List ColumnTree) (place : ℕ) (before : NamedItems) → Binds (clause.column_items place columns before)
binds_columns [] place before = λ at done. tt
binds_columns (column ∷ rest) place before = λ at done. bounds_if (clause.is_full before) (Ok (before, done)) (after (clause.value_item column.name None before (clause.grouped_cell at.groups place column) at done) (λ r. clause.column_items (behind place 1) rest r.0 at r.1)) tt
    (bounds_after (clause.value_item column.name None before (clause.grouped_cell at.groups place column) at done) (λ r. clause.column_items (behind place 1) rest r.0 at r.1)
    (binds_value column.name None before (clause.grouped_cell at.groups place column) at done) (λ r. binds_columns rest (behind place 1) r.0 at r.1))

binds_table : (qualifier : Option (List ℕ)) (place : ℕ) (source : TableSource) (before : NamedItems) → Binds (clause.table_items qualifier place source before)
binds_table qualifier place source before at done = bounds_if (is_meant qualifier source.name) (clause.column_items place source.columns before at done) (Ok (before, done)) (binds_columns source.columns place before at done) tt

binds_sources : (sources : List TableSource) (qualifier : Option (List ℕ)) (place : ℕ) (before : NamedItems) → Binds (clause.source_items qualifier place sources before)
binds_sources [] qualifier place before = λ at done. tt
binds_sources (source ∷ rest) qualifier place before = λ at done. bounds_if (clause.is_full before) (Ok (before, done)) (after (clause.table_items qualifier place source before at done) (λ r. clause.source_items qualifier (behind place (length source.columns)) rest r.0 at r.1)) tt
    (bounds_after (clause.table_items qualifier place source before at done) (λ r. clause.source_items qualifier (behind place (length source.columns)) rest r.0 at r.1)
    (binds_table qualifier place source before at done) (λ r. binds_sources rest qualifier (behind place (length source.columns)) r.0 at r.1))

binds_stars : (qualifier : Option (List ℕ)) (before : NamedItems) → Binds (clause.star_items qualifier before)
binds_stars qualifier before at done = binds_sources at.sources qualifier 0 before at (beyond_where (not (clause.is_source qualifier at.sources)) done)

binds_item : (vars : List Variable) (of : ItemRead) (before : NamedItems) → BindsItem of → Binds (clause.item vars of before)
binds_item vars star before binds = binds_stars None before
binds_item vars (star_of name) before binds = binds_stars (Some name) before
binds_item vars (assigned name a) before binds = λ at done. bounds_after (clause.assigned_onto vars name before done) (λ r. and_then a.read.bind (clause.value_item [] None r.0) at r.1)
    (bounds_after (operand.variable_of vars name) (λ variable. Ok (clause.with_place before (clause.place_or variable.expr), beyond_where (is_deep variable.facts) done)) (bounds_variable vars name) (λ x. tt))
    (λ r. binds_then a.read.bind (clause.value_item [] None r.0) binds (λ x. binds_value [] None r.0 x) at r.1)
binds_item vars (valued a alias) before binds = λ at done. binds_then a.read.bind (clause.value_item (clause.name_or alias a.called) alias before) binds (λ x. binds_value (clause.name_or alias a.called) alias before x) at (beyond_where (clause.is_long_alias alias) done)

binds_items : (vars : List Variable) (items : List ItemRead) (before : NamedItems) → AllByRecursion BindsItem items → Binds (clause.items_onto vars before items)
binds_items vars [] before all = binds_pure before
binds_items vars (a ∷ rest) before all = binds_then (clause.item vars a before) (λ x. clause.items_onto vars x rest) (binds_item vars a before all.0) (λ x. binds_items vars rest x all.1)

-- ---- ORDER BY

binds_key : (distinct : Bool) (items : NamedItems) (a : ExprRead) → Binds a.read.bind → Binds (clause.key_of distinct items a)
binds_key distinct items a binds = by_number (clause.number_of a.shape)
  where
    by_expr : Binds (and_then a.read.bind (clause.expr_key distinct items))
    by_expr = binds_then a.read.bind (clause.expr_key distinct items) binds (λ x at done. bounds_after (clause.looked_at x.facts at done) (λ r. Ok (clause.key_by distinct items x.expr r.1)) (binds_looked x.facts at done) (λ r. tt))

    by_name : (place : Option ℕ) → Binds (clause.named_or place (and_then a.read.bind (clause.expr_key distinct items)))
    by_name None = by_expr
    by_name (Some place) = binds_pure (clause.item_key place)

    by_number : (number : Option ℤ) → Binds (clause.numbered_or number (length items.items) (clause.named_or (clause.named_place a.shape a.called items) (and_then a.read.bind (clause.expr_key distinct items))))
    by_number None = by_name (clause.named_place a.shape a.called items)
    by_number (Some n) = λ at done. tt

binds_order : (distinct : Bool) (items : NamedItems) (order : List OrderRead) (before : List BoundOrder) → AllByRecursion (λ (o : OrderRead). Binds o.expr.read.bind) order → Binds (clause.order_onto distinct items before order)
binds_order distinct items [] before all = binds_pure before
binds_order distinct items (a ∷ rest) before all = binds_then (clause.key_of distinct items a.expr) (λ key. clause.order_onto distinct items (before ++ clause.ordered_by a key ∷ []) rest)
    (binds_key distinct items a.expr all.0) (λ key. binds_order distinct items rest (before ++ clause.ordered_by a key ∷ []) all.1)

-- ---- selects

module _ (definitions : List Definition) where
  bounds_join : (before : JoinedTables) (join : JoinRead) (done : Progress) → BindsJoin join → Bounds (clause.join_onto definitions before join done)
  bounds_join before join done binds = bounds_after (clause.filter_of join.on (plain (clause.with_source definitions before join.of).sources) done) _ (binds_filter join.on binds (plain (clause.with_source definitions before join.of).sources) done) (λ r. tt)

  bounds_joins : (joins : List JoinRead) (before : JoinedTables) (done : Progress) → AllByRecursion BindsJoin joins → Bounds (clause.joins_onto definitions before joins done)
  bounds_joins [] before done all = tt
  bounds_joins (join ∷ rest) before done all = bounds_after (clause.join_onto definitions before join done) (λ r. clause.joins_onto definitions r.0 rest r.1) (bounds_join before join done all.0) (λ r. bounds_joins rest r.0 r.1 all.1)

  bounds_from : (from : Option FromRead) (done : Progress) → BindsFrom from → Bounds (clause.from_of definitions from done)
  bounds_from None done binds = tt
  bounds_from (Some from) done binds = bounds_joins from.joins (clause.first_table definitions from.first) (beyond_where (clause.is_long_ref from.first) done) binds

bounds_grouped : (select : SelectRead) (grouped : Bool) (sources : List TableSource) (filter : Option BoundTest) (done : Progress) → BindsParts select → Bounds (clause.grouped_of select grouped sources filter done)
bounds_grouped select grouped sources filter done parts = bounds_after (clause.groups_onto [] select.groups (plain sources) done) _ (binds_groups [] select.groups parts.groups (plain sources) done)
    (λ groups. bounds_after (clause.having_of select.having (clause.class_context grouped sources groups.0) groups.1) _ (binds_having select.having parts.having (clause.class_context grouped sources groups.0) groups.1) (λ having. tt))

bounds_front : (select : SelectRead) (grouped : Bool) (sources : List TableSource) (done : Progress) → BindsParts select → Bounds (clause.front_of select grouped sources done)
bounds_front select grouped sources done parts = bounds_after (clause.filter_of select.filter (plain sources) done) (λ filter. clause.grouped_of select grouped sources filter.0 filter.1) (binds_filter select.filter parts.filter (plain sources) done)
    (λ filter. bounds_grouped select grouped sources filter.0 filter.1 parts)

bounds_back : (vars : List Variable) (select : SelectRead) (at : Context) (done : Progress) → BindsParts select → Bounds (clause.back_of vars select at done)
bounds_back vars select at done parts = bounds_after (clause.items_onto vars clause.no_items select.items at (clause.set_aside done)) _ (binds_items vars select.items clause.no_items parts.items at (clause.set_aside done))
    (λ items. bounds_after (clause.order_onto select.distinct items.0 [] select.order at (clause.taken_up done.first done.inner items.1)) _ (binds_order select.distinct items.0 select.order [] parts.order at (clause.taken_up done.first done.inner items.1)) (λ order. tt))

pub bounds_select : (definitions : List Definition) (vars : List Variable) (select : SelectRead) → BindsParts select → Bounds (clause.select_of definitions vars select)
bounds_select definitions vars select parts = bounds_after (clause.from_of definitions select.from (begin_at (clause.in_items select.items).inners)) (λ from. clause.select_over definitions vars select from.0 from.1) (bounds_from definitions select.from (begin_at (clause.in_items select.items).inners) parts.from)
    (λ from. bounds_after (clause.front_of select (clause.is_grouped select) from.0.sources (beyond_where (are_beyond from.0.sources) from.1)) _ (bounds_front select (clause.is_grouped select) from.0.sources (beyond_where (are_beyond from.0.sources) from.1) parts)
    (λ front. bounds_after (clause.back_of vars select (clause.class_context (clause.is_grouped select) from.0.sources front.0.groups) front.1) _ (bounds_back vars select (clause.class_context (clause.is_grouped select) from.0.sources front.0.groups) front.1 parts) (λ back. tt)))
