-- The places that items are assigned to, and that binding never takes back that something is outside a limit.
use Rattle.std.proofs.Common.{◌≡◌, ◌∙◌, refl, sym, ap, subst, ℕ, suc, ◌+◌, ◌<◌, ◌≤◌, ◌⊎◌, inl, inr, List, [], ◌∷◌, ◌++◌, map, length, get_or, Option, Some, None, Bool, true, false, Ok, Err, ℤ, arith, rules}
use Rattle.std.specs.Prelude.{not, ◌||◌, ◌&&◌, nat_le, if◌then◌else◌, slice_get}
use Rattle.std.specs.List.{list_all}
use Rattle.std.proofs.lemmas.Bool.{or_parts, and_parts}
use Rattle.std.proofs.lemmas.List.{length-append}
use Rattle.std.proofs.lemmas.List.Quantifiers.{position-Some}
use Rattle.std.proofs.lemmas.Option.{slice_get_cases}
use Rattle.value_types.specs.Units.{same_units}
use Rattle.value_types.specs.declared.sql_type.SqlType.{SqlType}
use Rattle.value_types.specs.declared.sql_type.SqlType.TheVariants.{Int}
use Rattle.session_vars.specs.declared.Variable.{Variable}
use Rattle.session_vars.specs.Variables.{fresh, place_of}
use Rattle.tsql_tree.specs.declared.definition.ColumnTree.{ColumnTree}
use Rattle.tsql_tree.specs.declared.definition.Definition.{Definition}
use Rattle.tsql_tree.specs.declared.query.Expr.{Expr, the_lemmas}
use Rattle.tsql_tree.specs.declared.query.Expr.TheOpen.{Item-F}
use Rattle.tsql_tree.specs.declared.query.Expr.TheFolds.{fold_out-Item, fold_out-OrderItem, map-Item}
use Rattle.tsql_tree.specs.declared.query.Arm.{Arm}
use Rattle.tsql_tree.specs.declared.query.Factor.{Factor}
use Rattle.tsql_tree.specs.declared.query.FromClause.{FromClause}
use Rattle.tsql_tree.specs.declared.query.Item.{Item, out-Item}
use Rattle.tsql_tree.specs.declared.query.Join.{Join}
use Rattle.tsql_tree.specs.declared.query.OrderItem.{OrderItem, out-OrderItem}
use Rattle.tsql_tree.specs.declared.query.Select.{Select, out-Select}
use Rattle.tsql_tree.specs.declared.query.Term.{Term}
use Rattle.tsql_tree.specs.declared.query.Test.{Test}
use Rattle.bound_tree.specs.declared.expr.BoundExpr.{BoundExpr}
use Rattle.bound_tree.specs.declared.expr.BoundExpr.TheVariants as bound
use Rattle.bound_tree.specs.declared.query.BoundOrder.{BoundOrder}
use Rattle.bound_tree.specs.declared.query.BoundQuery.{BoundQuery, out-roll-BoundQuery, roll-BoundQuery}
use Rattle.bound_tree.specs.declared.query.BoundQuery.TheOpen.{BoundQuery-F}
use Rattle.bound_tree.specs.declared.query.InnerQuery.{InnerQuery}
use Rattle.bound_tree.specs.declared.query.Reference.{Reference}
use Rattle.typed_nodes.specs.declared.expr.TypedArm.{TypedArm}
use Rattle.typed_nodes.specs.declared.expr.TypedExpr.{TypedExpr}
use Rattle.typed_nodes.specs.declared.facts.Facts.{Facts}
use Rattle.typed_nodes.specs.declared.test.TypedTest.{TypedTest}
use Rattle.typed_nodes.specs.Nodes.{is_kind, leaf}
use Rattle.typed_nodes.specs.Refusals.{Outcome, after}
use Rattle.clause_binder.specs.declared.back.BackClauses.{BackClauses}
use Rattle.clause_binder.specs.declared.from.JoinedTables.{JoinedTables}
use Rattle.clause_binder.specs.declared.front.FrontClauses.{FrontClauses}
use Rattle.clause_binder.specs.declared.named.NamedItems.{NamedItems}
use Rattle.clause_binder.specs.declared.operand.Selected.{Selected}
use Rattle.clause_binder.specs.declared.progress.Progress.{Progress}
use Rattle.clause_binder.specs.Scope.{TableSource, are_beyond, behind, is_long, is_meant, max_variables}
use Rattle.clause_binder.specs.Progress.{Binding, Context, Read, and_then, begin_at, beyond_where, is_deep}
use Rattle.clause_binder.specs.Operands as operand
use Rattle.clause_binder.specs.Clauses as clause
use Rattle.clause_binder.specs.Clauses.{ExprRead, FromRead, ItemRead, JoinRead, OrderRead, SelectRead}
use Rattle.clause_binder.specs.Bind.{TermRead, expr_of, item_of, join_of, test_of, arm_of, factor_of, from_of, order_of, query_of, term_of, expr_step, item_step, join_step, test_step, arm_step, factor_step, from_step, order_step, select_step, term_step, select_read}
use Rattle.query_laws.specs.Laws.{AllOf}
use Rattle.query_laws.specs.Placed.{PlacesFound, all_assign, assigns}
use Rattle.query_laws.proofs.Lists.{all_of_both}
use Rattle.query_laws.proofs.Reading.{Bound}
use Rattle.query_laws.proofs.BoundOperands.{FormedAt}
use Rattle.query_laws.proofs.BoundTrees.{expr_bound}

query_items : (body : BoundQuery-F BoundQuery InnerQuery) → operand.items_of (roll-BoundQuery body) ≡ body.items
query_items body = ap (λ q. q.items) (out-roll-BoundQuery body)

-- ---- what is outside a limit stays so

abbrev Calm : {A : Type 0} → Progress → Outcome (A × Progress) → Type 0
Calm done (Ok r) = r.1.beyond ≡ false → done.beyond ≡ false
Calm done (Err refusal) = Unit {0}

abbrev Calms : {A : Type 0} → Binding A → Type 0
Calms bind = (at : Context) (done : Progress) → Calm done (bind at done)

calm_after : {A B : Type 0} (done : Progress) (o : Outcome (A × Progress)) (next : A × Progress → Outcome (B × Progress)) → Calm done o → ((r : A × Progress) → Calm r.1 (next r)) → Calm done (after o next)
calm_after {A = A} {B = B} done (Ok r) next h g = onto (next r) (g r)
  where
    onto : (o : Outcome (B × Progress)) → Calm r.1 o → Calm done o
    onto (Ok s) k = λ n. h (k n)
    onto (Err refusal) k = tt
calm_after done (Err refusal) next h g = tt

calm_then : {A B : Type 0} (a : Binding A) (next : A → Binding B) → Calms a → ((x : A) → Calms (next x)) → Calms (and_then a next)
calm_then a next h g at done = calm_after done (a at done) (λ r. next r.0 at r.1) (h at done) (λ r. g r.0 at r.1)

-- something more may be outside
calm_noted : (b : Bool) (done : Progress) → (beyond_where b done).beyond ≡ false → done.beyond ≡ false
calm_noted b done e = (or_parts done.beyond b e).0

looked_calm : (facts : Facts) → Calms (clause.looked_at facts)
looked_calm facts at done = of_outcome (clause.grouped_or_refused facts at)
  where
    of_outcome : (o : Outcome (Unit {0})) → Calm done (after o (λ ok. Ok (ok, beyond_where (is_deep facts) done)))
    of_outcome (Ok ok) = calm_noted (is_deep facts) done
    of_outcome (Err refusal) = tt

-- ---- the items so far

-- the same variables
abbrev Same : NamedItems → Progress → Outcome (NamedItems × Progress) → Type 0
Same before done (Ok r) = (r.1.beyond ≡ false → done.beyond ≡ false) × (r.0.places ≡ before.places)
Same before done (Err refusal) = Unit {0}

same_after : (before : NamedItems) (done : Progress) (o : Outcome (NamedItems × Progress)) (next : NamedItems × Progress → Outcome (NamedItems × Progress)) → Same before done o → ((r : NamedItems × Progress) → Same r.0 r.1 (next r)) → Same before done (after o next)
same_after before done (Ok r) next h g = onto (next r) (g r)
  where
    onto : (o : Outcome (NamedItems × Progress)) → Same r.0 r.1 o → Same before done o
    onto (Ok s) k = (λ n. h.0 (k.0 n), k.1 ∙ h.1)
    onto (Err refusal) k = tt
same_after before done (Err refusal) next h g = tt

same_if : (b : Bool) (before : NamedItems) (done : Progress) (o p : Outcome (NamedItems × Progress)) → Same before done o → Same before done p → Same before done (if b then o else p)
same_if true before done o p h g = h
same_if false before done o p h g = g

value_same : (name : List ℕ) (alias : Option (List ℕ)) (before : NamedItems) (a : TypedExpr) (at : Context) (done : Progress) → Same before done (clause.value_item name alias before a at done)
value_same name alias before a at done = of_looked (clause.looked_at a.facts at done) (looked_calm a.facts at done)
  where
    of_looked : (o : Outcome ((Unit {0}) × Progress)) → Calm done o → Same before done (after o (λ r. Ok (clause.with_item before (clause.item_of name a) alias, beyond_where (is_long name) r.1)))
    of_looked (Ok r) k = (λ n. k (calm_noted (is_long name) r.1 n), refl)
    of_looked (Err refusal) k = tt

columns_same : (columns : List ColumnTree) (place : ℕ) (before : NamedItems) (at : Context) (done : Progress) → Same before done (clause.column_items place columns before at done)
columns_same [] place before at done = (λ n. n, refl)
columns_same (column ∷ rest) place before at done = same_if (clause.is_full before) before done (Ok (before, done))
    (after (clause.value_item column.name None before (clause.grouped_cell at.groups place column) at done) (λ r. clause.column_items (behind place 1) rest r.0 at r.1)) (λ n. n, refl)
    (same_after before done (clause.value_item column.name None before (clause.grouped_cell at.groups place column) at done) (λ r. clause.column_items (behind place 1) rest r.0 at r.1)
    (value_same column.name None before (clause.grouped_cell at.groups place column) at done) (λ r. columns_same rest (behind place 1) r.0 at r.1))

table_same : (qualifier : Option (List ℕ)) (place : ℕ) (source : TableSource) (before : NamedItems) (at : Context) (done : Progress) → Same before done (clause.table_items qualifier place source before at done)
table_same qualifier place source before at done = same_if (is_meant qualifier source.name) before done (clause.column_items place source.columns before at done) (Ok (before, done))
    (columns_same source.columns place before at done) (λ n. n, refl)

sources_same : (sources : List TableSource) (qualifier : Option (List ℕ)) (place : ℕ) (before : NamedItems) (at : Context) (done : Progress) → Same before done (clause.source_items qualifier place sources before at done)
sources_same [] qualifier place before at done = (λ n. n, refl)
sources_same (source ∷ rest) qualifier place before at done = same_if (clause.is_full before) before done (Ok (before, done))
    (after (clause.table_items qualifier place source before at done) (λ r. clause.source_items qualifier (behind place (length source.columns)) rest r.0 at r.1)) (λ n. n, refl)
    (same_after before done (clause.table_items qualifier place source before at done) (λ r. clause.source_items qualifier (behind place (length source.columns)) rest r.0 at r.1)
    (table_same qualifier place source before at done) (λ r. sources_same rest qualifier (behind place (length source.columns)) r.0 at r.1))

stars_same : (qualifier : Option (List ℕ)) (before : NamedItems) (at : Context) (done : Progress) → Same before done (clause.star_items qualifier before at done)
stars_same qualifier before at done = of_sources (clause.star_items qualifier before at done)
    (sources_same at.sources qualifier 0 before at (beyond_where (not (clause.is_source qualifier at.sources)) done))
  where
    of_sources : (o : Outcome (NamedItems × Progress)) → Same before (beyond_where (not (clause.is_source qualifier at.sources)) done) o → Same before done o
    of_sources (Ok r) k = (λ n. calm_noted (not (clause.is_source qualifier at.sources)) done (k.0 n), k.1)
    of_sources (Err refusal) k = tt

module _ (definitions : List Definition) (vars : List Variable) where
  abbrev Below : NamedItems → Type 0
  Below named = AllOf (λ place. place < length vars) named.places

  -- a variable that is not outside a limit has the place of one that there is
  kind_below : (name : List ℕ) (place : ℕ) (kind : SqlType) (v : TypedExpr) → place < length vars → operand.variable_of_kind name place kind ≡ v → is_deep v.facts ≡ false → clause.place_or v.expr < length vars
  kind_below name place kind v below is near = subst (λ (w : TypedExpr). is_deep w.facts ≡ false → clause.place_or w.expr < length vars) is (by_test ((is_long name || nat_le max_variables place) || not (is_kind kind))) near
    where
      by_test : (b : Bool) → is_deep (if b then operand.left_out (Some kind) else leaf kind (bound.Variable place)).facts ≡ false → clause.place_or (if b then operand.left_out (Some kind) else leaf kind (bound.Variable place)).expr < length vars
      by_test true near = absurd (cc)
      by_test false near = below

  variable_below : (name : List ℕ) (v : TypedExpr) → operand.variable_of vars name ≡ Ok v → is_deep v.facts ≡ false → clause.place_or v.expr < length vars
  variable_below name v e near = of_place (place_of name vars) refl e
    where
      of_row : (place : ℕ) → place < length vars → ((x : Variable) × (place < length vars) × (slice_get vars place ≡ Some x) × (get_or vars place x ≡ x)) ⊎ ((length vars ≤ place) × (slice_get vars place ≡ None))
          → operand.variable_at vars name place (slice_get vars place) ≡ v → clause.place_or v.expr < length vars
      of_row place below (inl found) is = kind_below name place found.0.kind v below (subst (λ (row : Option Variable). operand.variable_at vars name place row ≡ v) found.2 is) near
      of_row place below (inr past) is = absurd (omega arith)

      of_place : (place : Option ℕ) → place_of name vars ≡ place → operand.variable_from vars name place ≡ Ok v → clause.place_or v.expr < length vars
      of_place None at is = absurd (cc)
      of_place (Some place) at is = let row : operand.variable_at vars name place (slice_get vars place) ≡ v = cc in
          of_row place (position-Some (λ (x : Variable). same_units name x.name) vars place (fresh name Int) at).0 (slice_get_cases vars place).1 row

  -- an item is assigned to a variable that there is, if it is assigned
  abbrev Fits : Bool → NamedItems → Progress → Outcome (NamedItems × Progress) → Type 0
  Fits told before done (Ok r) = r.1.beyond ≡ false → (done.beyond ≡ false) × (Below before → Below r.0) × (told ≡ true → length before.places ≡ length before.items → length r.0.places ≡ length r.0.items)
  Fits told before done (Err refusal) = Unit {0}

  of_same : (before : NamedItems) (done : Progress) (o : Outcome (NamedItems × Progress)) → Same before done o → Fits false before done o
  of_same before done (Ok r) k = λ n. (k.0 n, λ below. subst (λ places. AllOf (λ place. place < length vars) places) (sym k.1) below, λ e. absurd (cc))
  of_same before done (Err refusal) k = tt

  expr_calm : (e : Expr) → Calms (expr_of definitions vars e).read.bind
  expr_calm e at done = of_bound ((expr_of definitions vars e).read.bind at done) ((expr_bound definitions vars e).reads at done)
    where
      of_bound : (o : Outcome (TypedExpr × Progress)) → Bound definitions vars (FormedAt definitions vars) (expr_of definitions vars e).read.inside at done o → Calm done o
      of_bound (Ok r) b = λ n. (b n).0.calm
      of_bound (Err refusal) b = tt

  -- one item more, assigned to what is there
  abbrev Made : NamedItems → Progress → Outcome (NamedItems × Progress) → Type 0
  Made before done (Ok r) = (r.1.beyond ≡ false → done.beyond ≡ false) × (r.0.places ≡ before.places) × (length r.0.items ≡ suc (length before.items))
  Made before done (Err refusal) = Unit {0}

  value_made : (name : List ℕ) (alias : Option (List ℕ)) (before : NamedItems) (a : TypedExpr) (at : Context) (done : Progress) → Made before done (clause.value_item name alias before a at done)
  value_made name alias before a at done = of_looked (clause.looked_at a.facts at done) (looked_calm a.facts at done)
    where
      of_looked : (o : Outcome ((Unit {0}) × Progress)) → Calm done o → Made before done (after o (λ r. Ok (clause.with_item before (clause.item_of name a) alias, beyond_where (is_long name) r.1)))
      of_looked (Ok r) k = (λ n. k (calm_noted (is_long name) r.1 n), refl, let more : length (before.items ++ clause.item_of name a ∷ []) ≡ length before.items + 1 = length-append before.items (clause.item_of name a ∷ []) in omega (arith, more))
      of_looked (Err refusal) k = tt

  abbrev reads_of : Item-F Expr Item Join Test Arm Factor FromClause OrderItem Select Term → Item-F ExprRead ItemRead JoinRead (Read TypedTest) (Read TypedArm) TermRead FromRead OrderRead (Outcome Selected) TermRead
  reads_of = map-Item _ _ _ _ _ _ _ _ _ _ ExprRead ItemRead JoinRead (Read TypedTest) (Read TypedArm) TermRead FromRead OrderRead (Outcome Selected) TermRead (expr_of definitions vars) (item_of definitions vars) (join_of definitions vars) (test_of definitions vars) (arm_of definitions vars) (factor_of definitions vars) (from_of definitions vars) (order_of definitions vars) (query_of definitions vars) (term_of definitions vars)

  item_fits : (y : Item-F Expr Item Join Test Arm Factor FromClause OrderItem Select Term) (before : NamedItems) (at : Context) (done : Progress) → Fits (assigns y) before done (clause.item vars (item_step definitions vars (reads_of y)) before at done)
  item_fits Item-F.All before at done = of_same before done (clause.star_items None before at done) (stars_same None before at done)
  item_fits (Item-F.AllOf name) before at done = of_same before done (clause.star_items (Some name) before at done) (stars_same (Some name) before at done)
  item_fits (Item-F.Value e alias) before at done = of_expr ((expr_of definitions vars e).read.bind at (beyond_where (clause.is_long_alias alias) done)) (expr_calm e at (beyond_where (clause.is_long_alias alias) done))
    where
      of_value : (r : TypedExpr × Progress) (o : Outcome (NamedItems × Progress)) → (r.1.beyond ≡ false → (beyond_where (clause.is_long_alias alias) done).beyond ≡ false) → Made before r.1 o → Fits false before done o
      of_value r (Ok s) k m = λ n. (calm_noted (clause.is_long_alias alias) done (k (m.0 n)), λ below. subst (λ places. AllOf (λ place. place < length vars) places) (sym m.1) below, λ e. absurd (cc))
      of_value r (Err refusal) k m = tt

      of_expr : (o : Outcome (TypedExpr × Progress)) → Calm (beyond_where (clause.is_long_alias alias) done) o → Fits false before done (after o (λ r. clause.value_item (clause.name_or alias (expr_of definitions vars e).called) alias before r.0 at r.1))
      of_expr (Ok r) k = of_value r (clause.value_item (clause.name_or alias (expr_of definitions vars e).called) alias before r.0 at r.1) k (value_made (clause.name_or alias (expr_of definitions vars e).called) alias before r.0 at r.1)
      of_expr (Err refusal) k = tt
  item_fits (Item-F.Assign name e) before at done = of_variable (operand.variable_of vars name) refl
    where
      of_value : (v : TypedExpr) (r : TypedExpr × Progress) (o : Outcome (NamedItems × Progress)) → operand.variable_of vars name ≡ Ok v → (r.1.beyond ≡ false → (beyond_where (is_deep v.facts) done).beyond ≡ false) → Made (clause.with_place before (clause.place_or v.expr)) r.1 o → Fits true before done o
      of_value v r (Ok s) is k m = λ n.
          let both : (done.beyond ≡ false) × (is_deep v.facts ≡ false) = or_parts done.beyond (is_deep v.facts) (k (m.0 n)) in
          let counted : length (before.places ++ clause.place_or v.expr ∷ []) ≡ length before.places + 1 = length-append before.places (clause.place_or v.expr ∷ []) in
          let placed : length s.0.places ≡ length (before.places ++ clause.place_or v.expr ∷ []) = ap length m.1 in (
            both.0,
            λ below. subst (λ places. AllOf (λ place. place < length vars) places) (sym m.1) (all_of_both (λ place. place < length vars) before.places (clause.place_or v.expr ∷ []) below (variable_below name v is both.1, tt)),
            λ e same. omega (arith, counted, placed, m.2, same),
          )
      of_value v r (Err refusal) is k m = tt

      of_expr : (v : TypedExpr) → operand.variable_of vars name ≡ Ok v → (o : Outcome (TypedExpr × Progress)) → Calm (beyond_where (is_deep v.facts) done) o
          → Fits true before done (after o (λ r. clause.value_item [] None (clause.with_place before (clause.place_or v.expr)) r.0 at r.1))
      of_expr v is (Ok r) k = of_value v r (clause.value_item [] None (clause.with_place before (clause.place_or v.expr)) r.0 at r.1) is k (value_made [] None (clause.with_place before (clause.place_or v.expr)) r.0 at r.1)
      of_expr v is (Err refusal) k = tt

      of_variable : (o : Outcome TypedExpr) → operand.variable_of vars name ≡ o → Fits true before done (after {A = NamedItems × Progress} (after o (λ variable. Ok (clause.with_place before (clause.place_or variable.expr), beyond_where (is_deep variable.facts) done)))
          (λ r. and_then (expr_of definitions vars e).read.bind (clause.value_item [] None r.0) at r.1))
      of_variable (Ok v) is = of_expr v is ((expr_of definitions vars e).read.bind at (beyond_where (is_deep v.facts) done)) (expr_calm e at (beyond_where (is_deep v.facts) done))
      of_variable (Err refusal) is = tt

  item_is : (x : Item) → item_of definitions vars x ≡ item_step definitions vars (reads_of (out-Item x))
  item_is x = fold_out-Item ExprRead ItemRead JoinRead (Read TypedTest) (Read TypedArm) TermRead FromRead OrderRead (Outcome Selected) TermRead (expr_step definitions vars) (item_step definitions vars) (join_step definitions vars) (test_step definitions vars) (arm_step definitions vars) (factor_step definitions vars) (from_step definitions vars) (order_step definitions vars) (select_step definitions vars) (term_step definitions vars) x

  fits_after : (b c : Bool) (before : NamedItems) (done : Progress) (o : Outcome (NamedItems × Progress)) (next : NamedItems × Progress → Outcome (NamedItems × Progress)) → Fits b before done o → ((r : NamedItems × Progress) → Fits c r.0 r.1 (next r)) → Fits (b && c) before done (after o next)
  fits_after b c before done (Ok r) next h g = onto (next r) (g r)
    where
      onto : (o : Outcome (NamedItems × Progress)) → Fits c r.0 r.1 o → Fits (b && c) before done o
      onto (Ok s) k = λ n. let later = k n in let first = h later.0 in (first.0, λ below. later.1 (first.1 below), λ e same. let both : (b ≡ true) × (c ≡ true) = and_parts b c e in later.2 both.1 (first.2 both.0 same))
      onto (Err refusal) k = tt
  fits_after b c before done (Err refusal) next h g = tt

  items_fit : (items : List Item) (before : NamedItems) (at : Context) (done : Progress) → Fits (list_all (λ item. assigns (out-Item item)) items) before done (clause.items_onto vars before (map (item_of definitions vars) items) at done)
  items_fit [] before at done = λ n. (n, λ below. below, λ e same. same)
  items_fit (x ∷ rest) before at done = fits_after (assigns (out-Item x)) (list_all (λ item. assigns (out-Item item)) rest) before done (clause.item vars (item_of definitions vars x) before at done) (λ r. clause.items_onto vars r.0 (map (item_of definitions vars) rest) at r.1)
      (subst (λ (of : ItemRead). Fits (assigns (out-Item x)) before done (clause.item vars of before at done)) (sym (item_is x)) (item_fits (out-Item x) before at done))
      (λ r. items_fit rest r.0 at r.1)

  -- ---- ORDER BY

  at_calm : (place : Option ℕ) (done : Progress) → (clause.key_at place done).1.beyond ≡ false → done.beyond ≡ false
  at_calm None done n = calm_noted true done n
  at_calm (Some place) done n = n

  by_calm : (distinct : Bool) (items : NamedItems) (a : BoundExpr) (done : Progress) → (clause.key_by distinct items a done).1.beyond ≡ false → done.beyond ≡ false
  by_calm true items a done n = at_calm (clause.item_place a items.items) done n
  by_calm false items a done n = n

  key_calm : (distinct : Bool) (items : NamedItems) (a : ExprRead) → Calms a.read.bind → Calms (clause.key_of distinct items a)
  key_calm distinct items a h = of_number (clause.number_of a.shape)
    where
      by_expr : Calms (and_then a.read.bind (clause.expr_key distinct items))
      by_expr = calm_then a.read.bind (clause.expr_key distinct items) h (λ x at done. calm_after done (clause.looked_at x.facts at done) (λ r. Ok (clause.key_by distinct items x.expr r.1))
          (looked_calm x.facts at done) (λ r n. by_calm distinct items x.expr r.1 n))

      of_name : (place : Option ℕ) → Calms (clause.named_or place (and_then a.read.bind (clause.expr_key distinct items)))
      of_name None = by_expr
      of_name (Some place) = λ at done n. n

      of_number : (number : Option ℤ) → Calms (clause.numbered_or number (length items.items) (clause.named_or (clause.named_place a.shape a.called items) (and_then a.read.bind (clause.expr_key distinct items))))
      of_number None = of_name (clause.named_place a.shape a.called items)
      of_number (Some n) = λ at done m. at_calm (clause.numbered_place n (length items.items)) done m

  order_is : (x : OrderItem) → order_of definitions vars x ≡ record { expr = expr_of definitions vars (out-OrderItem x).expr; descending = (out-OrderItem x).descending }
  order_is x = fold_out-OrderItem ExprRead ItemRead JoinRead (Read TypedTest) (Read TypedArm) TermRead FromRead OrderRead (Outcome Selected) TermRead (expr_step definitions vars) (item_step definitions vars) (join_step definitions vars) (test_step definitions vars) (arm_step definitions vars) (factor_step definitions vars) (from_step definitions vars) (order_step definitions vars) (select_step definitions vars) (term_step definitions vars) x

  order_calm : (distinct : Bool) (items : NamedItems) (order : List OrderItem) (before : List BoundOrder) → Calms (clause.order_onto distinct items before (map (order_of definitions vars) order))
  order_calm distinct items [] before = λ at done n. n
  order_calm distinct items (x ∷ rest) before = calm_then (clause.key_of distinct items (order_of definitions vars x).expr) (λ key. clause.order_onto distinct items (before ++ clause.ordered_by (order_of definitions vars x) key ∷ []) (map (order_of definitions vars) rest))
      (key_calm distinct items (order_of definitions vars x).expr (subst (λ (of : OrderRead). Calms of.expr.read.bind) (sym (order_is x)) (expr_calm (out-OrderItem x).expr)))
      (λ key. order_calm distinct items rest (before ++ clause.ordered_by (order_of definitions vars x) key ∷ []))

  -- ---- the law

  abbrev Found : Bool → Outcome Selected → Type 0
  Found all (Ok s) = s.beyond ≡ false → AllOf (λ place. place < length vars) s.places × (all ≡ true → length s.places ≡ length (operand.items_of s.query))
  Found all (Err refusal) = Unit {0}

  query_is : (x : Select) → query_of definitions vars x ≡ clause.select_of definitions vars (select_read definitions vars x)
  query_is x = search (rules, the_lemmas)

  select_found : (x : Select) → Found (all_assign x) (clause.select_of definitions vars (select_read definitions vars x))
  select_found x = of_from (clause.from_of definitions select.from (begin_at (clause.in_items select.items).inners))
    where
      select : SelectRead
      select = select_read definitions vars x

      query : List Reference → FrontClauses → BackClauses → Outcome Selected
      query refs front back = Ok (clause.query_from select (clause.is_grouped select) refs front back)

      of_order : (at : Context) (done : Progress) (refs : List Reference) (front : FrontClauses) (items : NamedItems × Progress) (o : Outcome (List BoundOrder × Progress)) → Fits (all_assign x) clause.no_items (clause.set_aside done) (Ok items) → Calm (clause.taken_up done.first done.inner items.1) o
          → Found (all_assign x) (after (after o (λ order. Ok (record { items = items.0; order = order.0; done = clause.behind_inner items.1.inner order.1 }))) (query refs front))
      of_order at done refs front items (Ok order) k g = λ n.
          let calm : order.1.beyond ≡ false = (or_parts order.1.beyond (clause.is_many select items.0 (clause.behind_inner items.1.inner order.1)) n).0 in
          let placed = k (g calm) in (placed.1 tt, λ e. placed.2 e refl ∙ ap length (sym (query_items _)))
      of_order at done refs front items (Err refusal) k g = tt

      of_items : (at : Context) (done : Progress) (refs : List Reference) (front : FrontClauses) (o : Outcome (NamedItems × Progress)) → Fits (all_assign x) clause.no_items (clause.set_aside done) o
          → Found (all_assign x) (after (after o (λ items. after (clause.order_onto select.distinct items.0 [] select.order at (clause.taken_up done.first done.inner items.1)) (λ order.
          Ok (record { items = items.0; order = order.0; done = clause.behind_inner items.1.inner order.1 })))) (query refs front))
      of_items at done refs front (Ok items) k = of_order at done refs front items (clause.order_onto select.distinct items.0 [] select.order at (clause.taken_up done.first done.inner items.1)) k
          (order_calm select.distinct items.0 (out-Select x).order [] at (clause.taken_up done.first done.inner items.1))
      of_items at done refs front (Err refusal) k = tt

      of_front : (tables : JoinedTables) (o : Outcome (FrontClauses × Progress)) → Found (all_assign x) (after o (λ front. after (clause.back_of vars select (clause.class_context (clause.is_grouped select) tables.sources front.0.groups) front.1) (query tables.refs front.0)))
      of_front tables (Ok front) = of_items (clause.class_context (clause.is_grouped select) tables.sources front.0.groups) front.1 tables.refs front.0
          (clause.items_onto vars clause.no_items select.items (clause.class_context (clause.is_grouped select) tables.sources front.0.groups) (clause.set_aside front.1))
          (items_fit (out-Select x).items clause.no_items (clause.class_context (clause.is_grouped select) tables.sources front.0.groups) (clause.set_aside front.1))
      of_front tables (Err refusal) = tt

      of_from : (o : Outcome (JoinedTables × Progress)) → Found (all_assign x) (after o (λ from. clause.select_over definitions vars select from.0 from.1))
      of_from (Ok from) = of_front from.0 (clause.front_of select (clause.is_grouped select) from.0.sources (beyond_where (are_beyond from.0.sources) from.1))
      of_from (Err refusal) = tt

pub places_found : PlacesFound
places_found definitions vars x selected e = let found : Found definitions vars (all_assign x) (Ok selected) = subst (Found definitions vars (all_assign x)) (sym (query_is definitions vars x) ∙ e) (select_found definitions vars x) in found
