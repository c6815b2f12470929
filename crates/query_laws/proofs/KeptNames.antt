-- What is bound one after another reads tables of given names alone: in what names, inner queries, aggregates and clauses
-- are bound to.
use Rattle.std.proofs.Common.{◌≡◌, refl, sym, subst, ℕ, List, [], ◌∷◌, ◌++◌, map, Option, Some, None, Bool, true, false, Ok, Err, ℤ}
use Rattle.std.specs.Prelude.{not, length, if◌then◌else◌}
use Rattle.std.specs.List.{flat_map}
use Rattle.session_vars.specs.declared.Variable.{Variable}
use Rattle.tsql_tree.specs.declared.definition.ColumnTree.{ColumnTree}
use Rattle.tsql_tree.specs.declared.definition.Definition.{Definition}
use Rattle.tsql_tree.specs.declared.query.Aggregate.{Aggregate}
use Rattle.tsql_tree.specs.declared.query.AddSign.{AddSign}
use Rattle.bound_tree.specs.declared.expr.BoundExpr.{BoundExpr}
use Rattle.bound_tree.specs.declared.expr.BoundTest.{BoundTest}
use Rattle.bound_tree.specs.declared.query.BoundOrder.{BoundOrder}
use Rattle.bound_tree.specs.declared.query.BoundQuery.{BoundQuery}
use Rattle.bound_tree.specs.declared.query.BoundQuery.TheOpen.{BoundQuery-F}
use Rattle.bound_tree.specs.declared.query.BoundQuery.TheFolds.{fold-InnerQuery, fold-roll-BoundQuery, fold-roll-InnerQuery}
use Rattle.bound_tree.specs.declared.query.BoundQuery.TheViews.{roll-BoundQuery, roll-InnerQuery}
use Rattle.bound_tree.specs.declared.query.InnerQuery.{InnerQuery}
use Rattle.bound_tree.specs.declared.query.Reference.{Reference}
use Rattle.typed_nodes.specs.declared.expr.TypedExpr.{TypedExpr}
use Rattle.typed_nodes.specs.declared.facts.Facts.{Facts}
use Rattle.typed_nodes.specs.declared.test.TypedTest.{TypedTest}
use Rattle.typed_nodes.specs.Refusals.{Outcome, after}
use Rattle.typed_nodes.specs.Facts.{or_int}
use Rattle.typed_nodes.specs.Nodes as node
use Rattle.table_names.specs.Contents.{Names, is_among}
use Rattle.clause_binder.specs.declared.back.BackClauses.{BackClauses}
use Rattle.clause_binder.specs.declared.from.JoinedTables.{JoinedTables}
use Rattle.clause_binder.specs.declared.front.FrontClauses.{FrontClauses}
use Rattle.clause_binder.specs.declared.named.NamedItems.{NamedItems}
use Rattle.clause_binder.specs.declared.operand.Selected.{Selected}
use Rattle.clause_binder.specs.declared.progress.Progress.{Progress}
use Rattle.clause_binder.specs.declared.shape.Shape.{Shape}
use Rattle.clause_binder.specs.declared.shape.Shape.TheVariants as shape
use Rattle.clause_binder.specs.Scope.{TableSource, are_beyond, behind, is_long, is_meant}
use Rattle.clause_binder.specs.Progress.{Binding, Context, Read, and_then, begin_at, beyond_where, each_onto, given, is_deep, plain, pure}
use Rattle.clause_binder.specs.Operands as operand
use Rattle.clause_binder.specs.Clauses as clause
use Rattle.clause_binder.specs.Clauses.{ExprRead, FromRead, ItemRead, JoinRead, OrderRead, SelectRead, assigned, star, star_of, valued}
use Rattle.clause_binder.specs.Bind as bind
use Rattle.query_eval.specs.Ans.{references_of}
use Rattle.query_laws.specs.Laws.{AllOf}
use Rattle.query_laws.specs.Named.{IsNamed}
use Rattle.query_laws.proofs.Lists.{all_of_both}

-- the references of an inner query
abbrev pub inner_refs : InnerQuery → List Reference
inner_refs = fold-InnerQuery (List Reference) (List Reference) (λ query. flat_map (λ refs. refs) query.inner ++ query.refs) (λ inner. inner.query)

module _ (names : Names) where
  abbrev pub AreNamed : List Reference → Type 0
  AreNamed refs = AllOf (IsNamed names) refs

  abbrev pub InnerNamed : List InnerQuery → Type 0
  InnerNamed inner = AllOf (λ q. AreNamed (inner_refs q)) inner

  -- what is gathered reads these tables alone, if what was gathered before does
  abbrev pub Kept : {A : Type 0} → Progress → Outcome (A × Progress) → Type 0
  Kept done (Ok r) = InnerNamed done.inner → InnerNamed r.1.inner
  Kept done (Err refusal) = Unit {0}

  abbrev pub Keeps : {A : Type 0} → Binding A → Type 0
  Keeps bind = (at : Context) (done : Progress) → Kept done (bind at done)

  abbrev pub SelectNamed : Outcome Selected → Type 0
  SelectNamed (Ok select) = AreNamed (references_of select.query)
  SelectNamed (Err refusal) = Unit {0}

  -- ---- one after another

  kept_after : {A B : Type 0} (done : Progress) (o : Outcome (A × Progress)) (next : A × Progress → Outcome (B × Progress)) → Kept done o → ((r : A × Progress) → Kept r.1 (next r)) → Kept done (after o next)
  kept_after {A = A} {B = B} done (Ok r) next h g = onto (next r) (g r)
    where
      onto : (o : Outcome (B × Progress)) → Kept r.1 o → Kept done o
      onto (Ok s) k = λ n. k (h n)
      onto (Err refusal) k = tt
  kept_after done (Err refusal) next h g = tt

  kept_with : {A B : Type 0} (done : Progress) (o : Outcome A) (next : A → Outcome (B × Progress)) → ((x : A) → Kept done (next x)) → Kept done (after o next)
  kept_with done (Ok x) next h = h x
  kept_with done (Err refusal) next h = tt

  kept_if : {A : Type 0} (b : Bool) (done : Progress) (o p : Outcome (A × Progress)) → Kept done o → Kept done p → Kept done (if b then o else p)
  kept_if true done o p h g = h
  kept_if false done o p h g = g

  kept_beyond : {A : Type 0} (b : Bool) (done : Progress) (o : Outcome (A × Progress)) → Kept (beyond_where b done) o → Kept done o
  kept_beyond b done (Ok r) h = h
  kept_beyond b done (Err refusal) h = tt

  pub keeps_pure : {A : Type 0} (x : A) → Keeps (pure x)
  keeps_pure x at done n = n

  pub keeps_then : {A B : Type 0} (a : Binding A) (next : A → Binding B) → Keeps a → ((x : A) → Keeps (next x)) → Keeps (and_then a next)
  keeps_then a next h g at done = kept_after done (a at done) (λ r. next r.0 at r.1) (h at done) (λ r. g r.0 at r.1)

  pub keeps_given : {A : Type 0} (outcome : Context → Outcome A) → Keeps (λ at. given (outcome at) at)
  keeps_given outcome at done = kept_with done (outcome at) (λ x. Ok (x, done)) (λ x n. n)

  pub keeps_each : {A : Type 0} (before : List A) (binds : List (Binding A)) → AllOf (λ (b : Binding A). Keeps b) binds → Keeps (each_onto before binds)
  keeps_each before [] h = keeps_pure before
  keeps_each before (a ∷ rest) h = keeps_then a (λ x. each_onto (before ++ x ∷ []) rest) h.0 (λ x. keeps_each (before ++ x ∷ []) rest h.1)

  -- ---- inner queries

  inner_is : (s : Selected) (single : Bool) → inner_refs (roll-InnerQuery (record { query = s.query; single = single })) ≡ references_of s.query
  inner_is s single = fold-roll-InnerQuery (List Reference) (List Reference) (λ query. flat_map (λ refs. refs) query.inner ++ query.refs) (λ inner. inner.query) (record { query = s.query; single = single })

  inner_kept : (s : Selected) (single : Bool) (done : Progress) → AreNamed (references_of s.query) → InnerNamed done.inner → InnerNamed (operand.with_inner s single done).inner
  inner_kept s single done h n = all_of_both (λ q. AreNamed (inner_refs q)) done.inner (roll-InnerQuery (record { query = s.query; single = single }) ∷ []) n (subst AreNamed (sym (inner_is s single)) h, tt)

  of_select : {B : Type 0} (done : Progress) (o : Outcome Selected) (next : Selected → Outcome (B × Progress)) → SelectNamed o → ((s : Selected) → AreNamed (references_of s.query) → Kept done (next s)) → Kept done (after o next)
  of_select done (Ok s) next h g = g s h
  of_select done (Err refusal) next h g = tt

  pub scalar_keeps : (o : Outcome Selected) → SelectNamed o → Keeps (operand.scalar o)
  scalar_keeps o h at done = kept_if at.row_alone done (Ok (operand.left_out None, done)) (after o (λ s. operand.scalar_with s done)) (λ n. n)
      (of_select done o (λ s. operand.scalar_with s done) h (λ s g. kept_with done (operand.only_kind (operand.items_of s.query)) (operand.scalar_from s done) (λ kind n. inner_kept s true done g n)))

  pub exists_keeps : (o : Outcome Selected) → SelectNamed o → Keeps (operand.exists o)
  exists_keeps o h at done = kept_if at.row_alone done (Ok (operand.test_left_out, done)) (after o (λ s. Ok (operand.exists_from s done))) (λ n. n)
      (of_select done o (λ s. Ok (operand.exists_from s done)) h (λ s g n. inner_kept s false done g n))

  pub in_query_keeps : (o : Outcome Selected) (a : TypedExpr) → SelectNamed o → Keeps (operand.in_query o a)
  in_query_keeps o a h at done = kept_if at.row_alone done (Ok (operand.test_left_out, done)) (after o (λ s. operand.in_query_with a s done)) (λ n. n)
      (of_select done o (λ s. operand.in_query_with a s done) h (λ s g. kept_with done (operand.only_kind (operand.items_of s.query)) (operand.in_query_from a s done) (λ kind n. inner_kept s false done g n)))

  -- ---- aggregates

  pub aggregate_keeps : (agg : Aggregate) (distinct : Bool) (a : Binding TypedExpr) → Keeps a → Keeps (operand.aggregate agg distinct a)
  aggregate_keeps agg distinct a h at done = of_from at.sums_from
    where
      of_from : (from : Option ℕ) → Kept done (operand.aggregate_from from agg distinct a at done)
      of_from None = tt
      of_from (Some from) = kept_after done (a (operand.within_sum at) done) (λ r. operand.sum_with agg distinct from r.0 r.1) (h (operand.within_sum at) done)
          (λ r. kept_with r.1 (operand.aggregate_kind agg (or_int r.0.facts.kind)) (operand.sum_of agg distinct from r.0 r.1) (λ to n. n))

  pub count_keeps : Keeps operand.count_rows
  count_keeps at done = of_from at.sums_from
    where
      of_from : (from : Option ℕ) → Kept done (operand.count_rows_from from done)
      of_from None = tt
      of_from (Some from) = λ n. n

  -- ---- expressions

  pub settle_keeps : (a : Binding TypedExpr) → Keeps a → Keeps (bind.settle a)
  settle_keeps a h at done = kept_after done (a at done) (λ r. Ok (clause.settled at.groups r.0, r.1)) (h at done) (λ r n. n)

  pub signed_keeps : (signs : List AddSign) (of : Shape) (a : Binding TypedExpr) → Keeps a → Keeps (bind.signed_from signs of a)
  signed_keeps signs (shape.Number n) a h = keeps_pure (bind.literal (bind.signed_number signs n))
  signed_keeps signs shape.Null a h = keeps_pure (bind.signed_null signs)
  signed_keeps signs shape.Name a h = keeps_then a (bind.signed_node signs) h (λ x at done. kept_with done (bind.signed_onto at.groups x signs) (λ y. Ok (y, done)) (λ y n. n))
  signed_keeps signs shape.Node a h = keeps_then a (bind.signed_node signs) h (λ x at done. kept_with done (bind.signed_onto at.groups x signs) (λ y. Ok (y, done)) (λ y n. n))

  pub chain_keeps : (before : TypedExpr) (rest : List bind.TermRead) → AllOf (λ (a : bind.TermRead). Keeps a.read.bind) rest → Keeps (bind.chain_onto before rest)
  chain_keeps before [] h = keeps_pure before
  chain_keeps before (a ∷ rest) h = keeps_then (bind.joined_to before a) (λ x. bind.chain_onto x rest)
      (settle_keeps (and_then a.read.bind (λ x. given (node.infix_expr a.op before x)))
      (keeps_then a.read.bind (λ x. given (node.infix_expr a.op before x)) h.0 (λ x at done. kept_with done (node.infix_expr a.op before x) (λ y. Ok (y, done)) (λ y n. n))))
      (λ x. chain_keeps x rest h.1)

  -- ---- clauses

  abbrev pub KeptTest : Option (Read TypedTest) → Type 0
  KeptTest None = Unit {0}
  KeptTest (Some of) = Keeps of.bind

  abbrev pub KeptItem : ItemRead → Type 0
  KeptItem star = Unit {0}
  KeptItem (star_of name) = Unit {0}
  KeptItem (assigned name a) = Keeps a.read.bind
  KeptItem (valued a alias) = Keeps a.read.bind

  abbrev pub KeptJoin : JoinRead → Type 0
  KeptJoin join = (is_among join.of.name names ≡ true) × KeptTest join.on

  abbrev pub KeptFrom : Option FromRead → Type 0
  KeptFrom None = Unit {0}
  KeptFrom (Some from) = (is_among from.first.name names ≡ true) × AllOf KeptJoin from.joins

  -- the parts of a select read these tables alone
  pub record KeptParts (select : SelectRead) : Type 0 where
    pub items : AllOf KeptItem select.items
    pub from : KeptFrom select.from
    pub filter : KeptTest select.filter
    pub groups : AllOf (λ (a : ExprRead). Keeps a.read.bind) select.groups
    pub having : KeptTest select.having
    pub order : AllOf (λ (o : OrderRead). Keeps o.expr.read.bind) select.order

  filter_keeps : (of : Option (Read TypedTest)) → KeptTest of → Keeps (clause.filter_of of)
  filter_keeps None h = λ at done n. n
  filter_keeps (Some of) h = λ at done. kept_after done (clause.whole_test of.bind at done) (λ r. Ok (Some r.0, r.1))
      (kept_after done (of.bind at done) (λ r. Ok (clause.noted_test r.0 r.1)) (h at done) (λ r n. n)) (λ r n. n)

  looked_keeps : (facts : Facts) → Keeps (clause.looked_at facts)
  looked_keeps facts at done = kept_with done (clause.grouped_or_refused facts at) (λ ok. Ok (ok, beyond_where (is_deep facts) done)) (λ x n. n)

  groups_keep : (before : List BoundExpr) (groups : List ExprRead) → AllOf (λ (a : ExprRead). Keeps a.read.bind) groups → Keeps (clause.groups_onto before groups)
  groups_keep before [] h = keeps_pure before
  groups_keep before (a ∷ rest) h = keeps_then (clause.whole a.read.bind) (λ x. clause.groups_onto (before ++ x ∷ []) rest)
      (λ at done. kept_after done (a.read.bind at done) (λ r. Ok (clause.noted r.0 r.1)) (h.0 at done) (λ r n. n))
      (λ x. groups_keep (before ++ x ∷ []) rest h.1)

  having_keeps : (of : Option (Read TypedTest)) → KeptTest of → Keeps (clause.having_of of)
  having_keeps None h = keeps_pure {A = Option BoundTest} None
  having_keeps (Some of) h = keeps_then (and_then of.bind clause.whole_having) (λ test. pure (Some test))
      (keeps_then of.bind clause.whole_having h (λ a at done. kept_after done (clause.looked_at a.facts at done) (λ r. Ok (a.test, r.1)) (looked_keeps a.facts at done) (λ r n. n)))
      (λ test. keeps_pure (Some test))

  -- ---- items

  value_keeps : (name : List ℕ) (alias : Option (List ℕ)) (before : NamedItems) (a : TypedExpr) → Keeps (clause.value_item name alias before a)
  value_keeps name alias before a at done = kept_after done (clause.looked_at a.facts at done) (λ r. Ok (clause.with_item before (clause.item_of name a) alias, beyond_where (is_long name) r.1))
      (looked_keeps a.facts at done) (λ r n. n)

  columns_keep : (columns : List ColumnTree) (place : ℕ) (before : NamedItems) → Keeps (clause.column_items place columns before)
  columns_keep [] place before = λ at done n. n
  columns_keep (column ∷ rest) place before = λ at done. kept_if (clause.is_full before) done (Ok (before, done))
      (after (clause.value_item column.name None before (clause.grouped_cell at.groups place column) at done) (λ r. clause.column_items (behind place 1) rest r.0 at r.1)) (λ n. n)
      (kept_after done (clause.value_item column.name None before (clause.grouped_cell at.groups place column) at done) (λ r. clause.column_items (behind place 1) rest r.0 at r.1)
      (value_keeps column.name None before (clause.grouped_cell at.groups place column) at done) (λ r. columns_keep rest (behind place 1) r.0 at r.1))

  table_keeps : (qualifier : Option (List ℕ)) (place : ℕ) (source : TableSource) (before : NamedItems) → Keeps (clause.table_items qualifier place source before)
  table_keeps qualifier place source before at done = kept_if (is_meant qualifier source.name) done (clause.column_items place source.columns before at done) (Ok (before, done))
      (columns_keep source.columns place before at done) (λ n. n)

  sources_keep : (sources : List TableSource) (qualifier : Option (List ℕ)) (place : ℕ) (before : NamedItems) → Keeps (clause.source_items qualifier place sources before)
  sources_keep [] qualifier place before = λ at done n. n
  sources_keep (source ∷ rest) qualifier place before = λ at done. kept_if (clause.is_full before) done (Ok (before, done))
      (after (clause.table_items qualifier place source before at done) (λ r. clause.source_items qualifier (behind place (length source.columns)) rest r.0 at r.1)) (λ n. n)
      (kept_after done (clause.table_items qualifier place source before at done) (λ r. clause.source_items qualifier (behind place (length source.columns)) rest r.0 at r.1)
      (table_keeps qualifier place source before at done) (λ r. sources_keep rest qualifier (behind place (length source.columns)) r.0 at r.1))

  stars_keep : (qualifier : Option (List ℕ)) (before : NamedItems) → Keeps (clause.star_items qualifier before)
  stars_keep qualifier before at done = kept_beyond (not (clause.is_source qualifier at.sources)) done (clause.star_items qualifier before at done)
      (sources_keep at.sources qualifier 0 before at (beyond_where (not (clause.is_source qualifier at.sources)) done))

  item_keeps : (vars : List Variable) (of : ItemRead) (before : NamedItems) → KeptItem of → Keeps (clause.item vars of before)
  item_keeps vars star before h = stars_keep None before
  item_keeps vars (star_of name) before h = stars_keep (Some name) before
  item_keeps vars (assigned name a) before h = λ at done. kept_after done (clause.assigned_onto vars name before done) (λ r. and_then a.read.bind (clause.value_item [] None r.0) at r.1)
      (kept_with done (operand.variable_of vars name) (λ variable. Ok (clause.with_place before (clause.place_or variable.expr), beyond_where (is_deep variable.facts) done)) (λ x n. n))
      (λ r. keeps_then a.read.bind (clause.value_item [] None r.0) h (λ x. value_keeps [] None r.0 x) at r.1)
  item_keeps vars (valued a alias) before h = λ at done. kept_beyond (clause.is_long_alias alias) done (clause.item vars (valued a alias) before at done)
      (keeps_then a.read.bind (clause.value_item (clause.name_or alias a.called) alias before) h (λ x. value_keeps (clause.name_or alias a.called) alias before x) at (beyond_where (clause.is_long_alias alias) done))

  items_keep : (vars : List Variable) (items : List ItemRead) (before : NamedItems) → AllOf KeptItem items → Keeps (clause.items_onto vars before items)
  items_keep vars [] before h = keeps_pure before
  items_keep vars (a ∷ rest) before h = keeps_then (clause.item vars a before) (λ x. clause.items_onto vars x rest) (item_keeps vars a before h.0) (λ x. items_keep vars rest x h.1)

  -- ---- ORDER BY

  at_keeps : (place : Option ℕ) (done : Progress) → InnerNamed done.inner → InnerNamed (clause.key_at place done).1.inner
  at_keeps None done n = n
  at_keeps (Some place) done n = n

  by_keeps : (distinct : Bool) (items : NamedItems) (a : BoundExpr) (done : Progress) → InnerNamed done.inner → InnerNamed (clause.key_by distinct items a done).1.inner
  by_keeps true items a done n = at_keeps (clause.item_place a items.items) done n
  by_keeps false items a done n = n

  key_keeps : (distinct : Bool) (items : NamedItems) (a : ExprRead) → Keeps a.read.bind → Keeps (clause.key_of distinct items a)
  key_keeps distinct items a h = of_number (clause.number_of a.shape)
    where
      expr_keeps : Keeps (and_then a.read.bind (clause.expr_key distinct items))
      expr_keeps = keeps_then a.read.bind (clause.expr_key distinct items) h (λ x at done. kept_after done (clause.looked_at x.facts at done) (λ r. Ok (clause.key_by distinct items x.expr r.1))
          (looked_keeps x.facts at done) (λ r n. by_keeps distinct items x.expr r.1 n))

      of_name : (place : Option ℕ) → Keeps (clause.named_or place (and_then a.read.bind (clause.expr_key distinct items)))
      of_name None = expr_keeps
      of_name (Some place) = keeps_pure (clause.item_key place)

      of_number : (number : Option ℤ) → Keeps (clause.numbered_or number (length items.items) (clause.named_or (clause.named_place a.shape a.called items) (and_then a.read.bind (clause.expr_key distinct items))))
      of_number None = of_name (clause.named_place a.shape a.called items)
      of_number (Some n) = λ at done m. at_keeps (clause.numbered_place n (length items.items)) done m

  order_keeps : (distinct : Bool) (items : NamedItems) (order : List OrderRead) (before : List BoundOrder) → AllOf (λ (o : OrderRead). Keeps o.expr.read.bind) order → Keeps (clause.order_onto distinct items before order)
  order_keeps distinct items [] before h = keeps_pure before
  order_keeps distinct items (a ∷ rest) before h = keeps_then (clause.key_of distinct items a.expr) (λ key. clause.order_onto distinct items (before ++ clause.ordered_by a key ∷ []) rest)
      (key_keeps distinct items a.expr h.0) (λ key. order_keeps distinct items rest (before ++ clause.ordered_by a key ∷ []) h.1)

  -- ---- FROM

  -- the tables that are read have these names too
  abbrev Joined : Progress → Outcome (JoinedTables × Progress) → Type 0
  Joined done (Ok r) = (InnerNamed done.inner → InnerNamed r.1.inner) × AreNamed r.0.refs
  Joined done (Err refusal) = Unit {0}

  module _ (definitions : List Definition) where
    join_keeps : (before : JoinedTables) (join : JoinRead) (done : Progress) → KeptJoin join → AreNamed before.refs → Joined done (clause.join_onto definitions before join done)
    join_keeps before join done h n = of_on (clause.filter_of join.on (plain (clause.with_source definitions before join.of).sources) done) (filter_keeps join.on h.1 (plain (clause.with_source definitions before join.of).sources) done)
      where
        of_on : (o : Outcome (Option BoundTest × Progress)) → Kept done o → Joined done (after o (λ r. clause.table_read definitions (clause.with_source definitions before join.of) join.of join.kind r.0 r.1))
        of_on (Ok r) k = (k, all_of_both (IsNamed names) before.refs (clause.reference definitions join.of join.kind r.0 ∷ []) n ((h.0, refl), tt))
        of_on (Err refusal) k = tt

    joins_keep : (joins : List JoinRead) (before : JoinedTables) (done : Progress) → AllOf KeptJoin joins → AreNamed before.refs → Joined done (clause.joins_onto definitions before joins done)
    joins_keep [] before done h n = (λ m. m, n)
    joins_keep (join ∷ rest) before done h n = of_join (clause.join_onto definitions before join done) (join_keeps before join done h.0 n) (λ r m. joins_keep rest r.0 r.1 h.1 m)
      where
        of_rest : (r : JoinedTables × Progress) (o : Outcome (JoinedTables × Progress)) → (InnerNamed done.inner → InnerNamed r.1.inner) → Joined r.1 o → Joined done o
        of_rest r (Ok s) k g = (λ m. g.0 (k m), g.1)
        of_rest r (Err refusal) k g = tt

        of_join : (o : Outcome (JoinedTables × Progress)) → Joined done o → ((r : JoinedTables × Progress) → AreNamed r.0.refs → Joined r.1 (clause.joins_onto definitions r.0 rest r.1)) → Joined done (after o (λ r. clause.joins_onto definitions r.0 rest r.1))
        of_join (Ok r) k g = of_rest r (clause.joins_onto definitions r.0 rest r.1) k.0 (g r k.1)
        of_join (Err refusal) k g = tt

    from_keeps : (from : Option FromRead) (first : ℕ) → KeptFrom from → Joined (begin_at first) (clause.from_of definitions from (begin_at first))
    from_keeps None first h = (λ n. n, tt)
    from_keeps (Some from) first h = of_joins (clause.joins_onto definitions (clause.first_table definitions from.first) from.joins (beyond_where (clause.is_long_ref from.first) (begin_at first)))
        (joins_keep from.joins (clause.first_table definitions from.first) (beyond_where (clause.is_long_ref from.first) (begin_at first)) h.1 ((h.0, refl), tt))
      where
        of_joins : (o : Outcome (JoinedTables × Progress)) → Joined (beyond_where (clause.is_long_ref from.first) (begin_at first)) o → Joined (begin_at first) o
        of_joins (Ok r) k = k
        of_joins (Err refusal) k = tt

  -- ---- selects

  grouped_keeps : (select : SelectRead) (grouped : Bool) (sources : List TableSource) (filter : Option BoundTest) (done : Progress) → KeptParts select → Kept done (clause.grouped_of select grouped sources filter done)
  grouped_keeps select grouped sources filter done h = kept_after done (clause.groups_onto [] select.groups (plain sources) done)
      (λ groups. after (clause.having_of select.having (clause.class_context grouped sources groups.0) groups.1) (λ having. Ok (record { filter = filter; groups = groups.0; having = having.0 }, having.1)))
      (groups_keep [] select.groups h.groups (plain sources) done)
      (λ groups. kept_after groups.1 (clause.having_of select.having (clause.class_context grouped sources groups.0) groups.1) (λ having. Ok (record { filter = filter; groups = groups.0; having = having.0 }, having.1))
      (having_keeps select.having h.having (clause.class_context grouped sources groups.0) groups.1) (λ having n. n))

  front_keeps : (select : SelectRead) (grouped : Bool) (sources : List TableSource) (done : Progress) → KeptParts select → Kept done (clause.front_of select grouped sources done)
  front_keeps select grouped sources done h = kept_after done (clause.filter_of select.filter (plain sources) done) (λ filter. clause.grouped_of select grouped sources filter.0 filter.1)
      (filter_keeps select.filter h.filter (plain sources) done) (λ filter. grouped_keeps select grouped sources filter.0 filter.1 h)

  abbrev KeptBack : Progress → Outcome BackClauses → Type 0
  KeptBack done (Ok back) = InnerNamed done.inner → InnerNamed back.done.inner
  KeptBack done (Err refusal) = Unit {0}

  back_keeps : (vars : List Variable) (select : SelectRead) (at : Context) (done : Progress) → KeptParts select → KeptBack done (clause.back_of vars select at done)
  back_keeps vars select at done h = of_items (clause.items_onto vars clause.no_items select.items at (clause.set_aside done)) (items_keep vars select.items clause.no_items h.items at (clause.set_aside done))
    where
      of_order : (items : NamedItems × Progress) (o : Outcome (List BoundOrder × Progress)) → InnerNamed items.1.inner → Kept (clause.taken_up done.first done.inner items.1) o
          → KeptBack done (after o (λ order. Ok (record { items = items.0; order = order.0; done = clause.behind_inner items.1.inner order.1 })))
      of_order items (Ok order) k g = λ n. all_of_both (λ q. AreNamed (inner_refs q)) items.1.inner order.1.inner k (g n)
      of_order items (Err refusal) k g = tt

      of_items : (o : Outcome (NamedItems × Progress)) → Kept (clause.set_aside done) o → KeptBack done (after o (λ items.
          after (clause.order_onto select.distinct items.0 [] select.order at (clause.taken_up done.first done.inner items.1)) (λ order.
          Ok (record { items = items.0; order = order.0; done = clause.behind_inner items.1.inner order.1 }))))
      of_items (Ok items) k = of_order items (clause.order_onto select.distinct items.0 [] select.order at (clause.taken_up done.first done.inner items.1)) (k tt)
          (order_keeps select.distinct items.0 select.order [] h.order at (clause.taken_up done.first done.inner items.1))
      of_items (Err refusal) k = tt

  all_inner : (inner : List InnerQuery) → InnerNamed inner → AreNamed (flat_map (λ refs. refs) (map inner_refs inner))
  all_inner [] h = tt
  all_inner (q ∷ rest) h = all_of_both (IsNamed names) (inner_refs q) (flat_map (λ refs. refs) (map inner_refs rest)) h.0 (all_inner rest h.1)

  query_named : (body : BoundQuery-F BoundQuery InnerQuery) → InnerNamed body.inner → AreNamed body.refs → AreNamed (references_of (roll-BoundQuery body))
  query_named body h g = subst AreNamed (sym (fold-roll-BoundQuery (List Reference) (List Reference) (λ query. flat_map (λ refs. refs) query.inner ++ query.refs) (λ inner. inner.query) body))
      (all_of_both (IsNamed names) (flat_map (λ refs. refs) (map inner_refs body.inner)) body.refs (all_inner body.inner h) g)

  pub select_named : (definitions : List Definition) (vars : List Variable) (select : SelectRead) → KeptParts select → SelectNamed (clause.select_of definitions vars select)
  select_named definitions vars select h = of_from (clause.from_of definitions select.from (begin_at (clause.in_items select.items).inners)) (from_keeps definitions select.from (clause.in_items select.items).inners h.from)
    where
      of_back : (from : JoinedTables × Progress) (front : FrontClauses × Progress) (o : Outcome BackClauses) → AreNamed from.0.refs → InnerNamed front.1.inner → KeptBack front.1 o
          → SelectNamed (after o (λ back. Ok (clause.query_from select (clause.is_grouped select) from.0.refs front.0 back)))
      of_back from front (Ok back) r n k = query_named _ (k n) r
      of_back from front (Err refusal) r n k = tt

      of_front : (from : JoinedTables × Progress) (o : Outcome (FrontClauses × Progress)) → AreNamed from.0.refs → InnerNamed from.1.inner → Kept (beyond_where (are_beyond from.0.sources) from.1) o
          → SelectNamed (after o (λ front. after (clause.back_of vars select (clause.class_context (clause.is_grouped select) from.0.sources front.0.groups) front.1) (λ back. Ok (clause.query_from select (clause.is_grouped select) from.0.refs front.0 back))))
      of_front from (Ok front) r n k = of_back from front (clause.back_of vars select (clause.class_context (clause.is_grouped select) from.0.sources front.0.groups) front.1) r (k n)
          (back_keeps vars select (clause.class_context (clause.is_grouped select) from.0.sources front.0.groups) front.1 h)
      of_front from (Err refusal) r n k = tt

      of_from : (o : Outcome (JoinedTables × Progress)) → Joined (begin_at (clause.in_items select.items).inners) o → SelectNamed (after o (λ from. clause.select_over definitions vars select from.0 from.1))
      of_from (Ok from) k = of_front from (clause.front_of select (clause.is_grouped select) from.0.sources (beyond_where (are_beyond from.0.sources) from.1)) k.1 (k.0 tt)
          (front_keeps select (clause.is_grouped select) from.0.sources (beyond_where (are_beyond from.0.sources) from.1) h)
      of_from (Err refusal) k = tt
