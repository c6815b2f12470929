-- What is made of a statement is well formed, unless something is outside a limit: selects, and what the expressions of a
-- statement are the items of.
use Rattle.std.proofs.lemmas.Bool.{and_from, lt-ltb, or_parts, ltb-false}
use Rattle.std.proofs.lemmas.List.{append-nil}
use Rattle.std.proofs.Common.{◌≡◌, refl, sym, ap, ◌∙◌, subst, ◌≤◌, ◌<◌, List, [], ◌∷◌, ◌++◌, map, length, pos, Bool, true, false, ◌&&◌, ◌==◌, nat_lt, None, Ok, Err, if◌then◌else◌}
use Rattle.std.specs.List.{list_all}
use Rattle.value_types.specs.declared.sql_type.SqlType.{SqlType}
use Rattle.session_vars.specs.declared.Variable.{Variable}
use Rattle.tsql_tree.specs.declared.definition.Definition.{Definition}
use Rattle.tsql_tree.specs.declared.query.Expr.{Expr}
use Rattle.tsql_tree.specs.declared.query.Select.{Select}
use Rattle.tsql_tree.specs.declared.query.Test.{Test}
use Rattle.bound_tree.specs.declared.query.BoundQuery.{BoundQuery}
use Rattle.bound_tree.specs.declared.query.BoundQuery.TheOpen.{BoundQuery-F}
use Rattle.bound_tree.specs.declared.query.BoundQuery.TheFolds.{fold-roll-BoundQuery}
use Rattle.bound_tree.specs.declared.query.InnerQuery.{InnerQuery}
use Rattle.bound_tree.specs.declared.query.Item.{Item}
use Rattle.bound_tree.specs.declared.write.Bound.TheVariants as bound
use Rattle.bound_tree.specs.Typed.{found_of}
use Rattle.typed_nodes.specs.declared.expr.TypedExpr.{TypedExpr}
use Rattle.typed_nodes.specs.declared.test.TypedTest.{TypedTest}
use Rattle.typed_nodes.specs.Nodes.{number_expr}
use Rattle.typed_nodes.specs.Refusals.{Outcome, after}
use Rattle.clause_binder.specs.declared.inside.Inside.{Inside}
use Rattle.clause_binder.specs.declared.operand.Selected.{Selected}
use Rattle.clause_binder.specs.declared.progress.Progress.{Progress}
use Rattle.clause_binder.specs.Progress.{Binding, Context, Read, begin_at, beyond_where, bind_of, each_onto, each_read, is_deep, plain}
use Rattle.clause_binder.specs.Clauses.{item_of}
use Rattle.clause_binder.specs.Scope.{TableSource, max_inner}
use Rattle.clause_binder.specs.Bind.{expr_of, query_of, test_of}
use Rattle.binder.specs.declared.made.Made.{Made}
use Rattle.binder.specs.Limits.{is_beyond}
use Rattle.binder.specs.Statements.{select_made}
use Rattle.binder.specs.Values.{one_or_zero, query_of_items, test_query, values_made, values_onto, values_query, with_value}
use Rattle.query_laws.specs.Columns.{tables_in, variable_kinds}
use Rattle.query_laws.specs.Formed.{QueryFound, inner_found, inner_step, is_formed_item, is_formed_query, query_step, types_over}
use Rattle.query_laws.specs.Laws.{AllOf}
use Rattle.query_laws.specs.Parts.{AreSound, inner_kinds}
use Rattle.query_laws.proofs.FoundKinds.{as_or_int}
use Rattle.query_laws.proofs.FormedNodes.{case_formed, map_map, number_formed}
use Rattle.query_laws.proofs.Lists.{all_of_each}
use Rattle.query_laws.proofs.Reading.{Binds, Bound, Grows, IsFormedInner, Reads, ReadsAs, cells}
use Rattle.query_laws.proofs.BoundSums.{reads_noted}
use Rattle.query_laws.proofs.BoundNodes.{AllAt, each_binds}
use Rattle.query_laws.proofs.BoundOperands.{FormedTestAt, GoodSelect}
use Rattle.query_laws.proofs.BoundTrees.{query_bound, test_bound}
use Rattle.query_laws.proofs.KeptPlaces.{places_found}
use Rattle.binding_laws.specs.Formed.{is_formed_bound, is_formed_inner, types_of}
use Rattle.binding_laws.proofs.Lists.{all_mapped, all_true}
use Rattle.binding_laws.proofs.Parts.{PassesAt, all_passing, expr_binds, lasts_passing, noted_binds, reads_of}

module _ (definitions : List Definition) (vars : List Variable) where
  abbrev pub GoodMade : Outcome Made → Type 0
  GoodMade (Ok made) = made.beyond ≡ false → is_formed_bound definitions vars made.bound ≡ true
  GoodMade (Err refusal) = Unit {0}

  -- ---- selects

  pub select_good : (select : Select) → GoodMade (after (query_of definitions vars select) (λ s. Ok (select_made s)))
  select_good select = of_select (query_of definitions vars select) refl (query_bound definitions vars select)
    where
      by_assigns : (b : Bool) (s : Selected) → is_formed_query (tables_in definitions) (variable_kinds vars) s.query ≡ true → list_all (λ place. nat_lt place (length vars)) s.places ≡ true
          → is_formed_bound definitions vars (if b then bound.Assign s.query s.places else bound.Query s.query) ≡ true
      by_assigns true s h g = and_from _ _ h g
      by_assigns false s h g = h

      of_select : (o : Outcome Selected) → query_of definitions vars select ≡ o → GoodSelect definitions vars o → GoodMade (after o (λ s. Ok (select_made s)))
      of_select (Ok s) e h = λ calm. by_assigns s.assigns s (h calm).0
          (all_true (λ place. nat_lt place (length vars)) s.places (all_of_each (λ place. place < length vars) (λ place. nat_lt place (length vars) ≡ true) s.places (λ place below. lt-ltb place (length vars) below) (places_found definitions vars select s e calm).0))
      of_select (Err refusal) e h = tt

  -- ---- where nothing was bound before

  -- what was gathered of inner queries is well formed, and may be read
  pub record Ends (sources : List TableSource) (new : Progress) : Type 0 where
    pub formed : list_all (is_formed_inner definitions vars) new.inner ≡ true
    pub reads : (row : List SqlType) → row ≡ cells sources → AreSound sources → Reads definitions vars (plain sources) new (types_of definitions vars row new.inner)

  pub ends_of : (sources : List TableSource) (inside : Inside) (b : Bool) (new : Progress) → Grows definitions vars (plain sources) inside (beyond_where b (begin_at 0)) new → Ends sources new
  ends_of sources inside b new g = record {
    formed = all_true (is_formed_inner definitions vars) new.inner (subst (AllOf (IsFormedInner definitions vars)) (sym g.inner) g.inner_formed);
    reads = λ row same sound. reads_of definitions vars (plain sources) new row new.inner refl same sound ([], [], sym g.first, sym (append-nil (inner_kinds definitions vars new.inner)));
  }

  pub is_calm : (done : Progress) → is_beyond done ≡ false → (done.beyond ≡ false) × (done.count ≤ max_inner)
  is_calm done e = let both : (done.beyond ≡ false) × (nat_lt max_inner done.count ≡ false) = or_parts done.beyond (nat_lt max_inner done.count) e in (both.0, ltb-false max_inner done.count both.1)

  -- ---- values

  inners_found : (inner : List InnerQuery) → list_all (is_formed_inner definitions vars) inner ≡ list_all (λ (q : QueryFound). q.0) (map (inner_found (tables_in definitions) (variable_kinds vars)) inner)
  inners_found [] = refl
  inners_found (q ∷ rest) = ap (λ b. is_formed_inner definitions vars q && b) (inners_found rest)

  -- a query over no table
  items_formed : (items : List Item) (inner : List InnerQuery) → list_all (is_formed_inner definitions vars) inner ≡ true → list_all (is_formed_item (types_of definitions vars [] inner)) items ≡ true → is_formed_query (tables_in definitions) (variable_kinds vars) (query_of_items items inner) ≡ true
  items_formed items inner h g = ap (λ (q : QueryFound). q.0) (fold-roll-BoundQuery QueryFound QueryFound (query_step (tables_in definitions) (variable_kinds vars)) (inner_step (tables_in definitions) (variable_kinds vars)) z)
      ∙ and_from _ _ (and_from _ _ (sym (inners_found inner) ∙ h) refl)
      (and_from _ _ refl (and_from _ _ (subst (λ (kinds : List (List SqlType)). list_all (is_formed_item (types_over (tables_in definitions) (variable_kinds vars) [] kinds)) items ≡ true)
      (sym (map_map (λ (q : QueryFound). q.1) (inner_found (tables_in definitions) (variable_kinds vars)) inner)) g) refl))
    where
      z : BoundQuery-F BoundQuery InnerQuery
      z = record { refs = []; filter = None; grouped = false; groups = []; sums = []; having = None; items = items; order = []; distinct = false; top = None; inner = inner }

  made_good : (inside : Inside) (items : List Item) (done : Progress) → (done.beyond ≡ false → Grows definitions vars (plain []) inside (begin_at 0) done × PassesAt definitions vars (λ types items. list_all (is_formed_item types) items) (plain []) done items)
      → GoodMade (Ok (values_made items done))
  made_good inside items done h calm = by_items (length items == 0)
    where
      got : Grows definitions vars (plain []) inside (begin_at 0) done × PassesAt definitions vars (λ types items. list_all (is_formed_item types) items) (plain []) done items
      got = h (is_calm done calm).0

      ends : Ends [] done
      ends = ends_of [] inside false done got.0

      by_items : (b : Bool) → is_formed_bound definitions vars (if b then bound.Plain else bound.Query (query_of_items items done.inner)) ≡ true
      by_items true = refl
      by_items false = items_formed items done.inner ends.formed (got.1 (types_of definitions vars [] done.inner) (ends.reads [] refl tt))

  -- an expression as an item that has no name
  abbrev value_bind : Expr → Binding Item
  value_bind expr at done = after ((expr_of definitions vars expr).read.bind at done) (λ a. Ok (item_of [] a.0, beyond_where (is_deep a.0.facts) a.1))

  abbrev value_read : Expr → Read Item
  value_read expr = record { inside = (expr_of definitions vars expr).read.inside; bind = value_bind expr }

  values_is : (exprs : List Expr) (before : List Item) (at : Context) (done : Progress) → values_onto definitions vars before exprs at done ≡ each_onto before (map bind_of (map value_read exprs)) at done
  values_is [] before at done = refl
  values_is (expr ∷ rest) before at done = of_expr ((expr_of definitions vars expr).read.bind at done) (λ a. values_is rest (before ++ item_of [] a.0 ∷ []) at (beyond_where (is_deep a.0.facts) a.1))
    where
      of_expr : (o : Outcome (TypedExpr × Progress)) → ((a : TypedExpr × Progress) → values_onto definitions vars (before ++ item_of [] a.0 ∷ []) rest at (beyond_where (is_deep a.0.facts) a.1)
          ≡ each_onto (before ++ item_of [] a.0 ∷ []) (map bind_of (map value_read rest)) at (beyond_where (is_deep a.0.facts) a.1)) → after {A = List Item × Progress} (after o (λ a. Ok (with_value before a.0 a.1))) (λ r. values_onto definitions vars r.0 rest at r.1)
          ≡ after {A = Item × Progress} (after o (λ a. Ok (item_of [] a.0, beyond_where (is_deep a.0.facts) a.1))) (λ r. each_onto (before ++ r.0 ∷ []) (map bind_of (map value_read rest)) at r.1)
      of_expr (Ok a) again = again a
      of_expr (Err refusal) again = refl

  value_binds : (expr : Expr) → ReadsAs definitions vars (PassesAt definitions vars is_formed_item) (value_read expr)
  value_binds expr = expr_binds definitions vars (PassesAt definitions vars is_formed_item) (item_of []) expr (λ at done a le h types r. as_or_int a.facts.kind (found_of types a.expr) (h types r le).0)

  pub values_good : (exprs : List Expr) → GoodMade (values_query definitions vars exprs)
  values_good exprs = of_values (values_onto definitions vars [] exprs (plain []) (begin_at 0)) (subst (Bound definitions vars (AllAt definitions vars (PassesAt definitions vars is_formed_item)) (each_read (map value_read exprs)).inside (plain []) (begin_at 0)) (sym (values_is exprs [] (plain []) (begin_at 0)))
      (each_binds definitions vars (PassesAt definitions vars is_formed_item) (map value_read exprs) (lasts_passing definitions vars is_formed_item)
      (all_mapped value_read (λ (a : Read Item). ReadsAs definitions vars (PassesAt definitions vars is_formed_item) a) value_binds exprs) (plain []) (begin_at 0)))
    where
      of_values : (o : Outcome (List Item × Progress)) → Bound definitions vars (AllAt definitions vars (PassesAt definitions vars is_formed_item)) (each_read (map value_read exprs)).inside (plain []) (begin_at 0) o → GoodMade (after o (λ r. Ok (values_made r.0 r.1)))
      of_values (Ok r) h = made_good (each_read (map value_read exprs)).inside r.0 r.1 (λ calm. ((h calm).0, all_passing definitions vars is_formed_item (plain []) r.1 r.0 (h calm).1))
      of_values (Err refusal) h = tt

  -- a test is 1 or 0
  one_binds : (test : Test) → Binds definitions vars (PassesAt definitions vars is_formed_item) (test_of definitions vars test).inside (λ at done. after ((test_of definitions vars test).bind at done) (λ a. Ok (item_of [] (one_or_zero a.0), beyond_where (is_deep (one_or_zero a.0).facts) a.1)))
  one_binds test = noted_binds definitions vars (FormedTestAt definitions vars) (PassesAt definitions vars is_formed_item) (λ a. (one_or_zero a).facts) (λ a. item_of [] (one_or_zero a)) (test_of definitions vars test).inside (test_of definitions vars test).bind (test_bound definitions vars test)
      (λ at b done a h types r. h types (reads_noted definitions vars at b done types r))
      (λ at done a le h types r. as_or_int (one_or_zero a).facts.kind (found_of types (one_or_zero a).expr)
      (case_formed types (record { test = a; gives = number_expr (pos 1) } ∷ []) (number_expr (pos 0)) ((h types r, number_formed types (pos 1) refl), tt) (number_formed types (pos 0) refl) le).0)

  pub test_good : (test : Test) → GoodMade (test_query definitions vars test)
  test_good test = of_test ((test_of definitions vars test).bind (plain []) (begin_at 0)) (one_binds test (plain []) (begin_at 0))
    where
      of_test : (o : Outcome (TypedTest × Progress)) → Bound definitions vars (PassesAt definitions vars is_formed_item) (test_of definitions vars test).inside (plain []) (begin_at 0) (after o (λ a. Ok (item_of [] (one_or_zero a.0), beyond_where (is_deep (one_or_zero a.0).facts) a.1)))
          → GoodMade (after {A = List Item × Progress} (after o (λ a. Ok (with_value [] (one_or_zero a.0) a.1))) (λ r. Ok (values_made r.0 r.1)))
      of_test (Ok a) h = made_good (test_of definitions vars test).inside (item_of [] (one_or_zero a.0) ∷ []) (beyond_where (is_deep (one_or_zero a.0).facts) a.1) (λ calm. ((h calm).0, λ types r. and_from _ _ ((h calm).1 types r) refl))
      of_test (Err refusal) h = tt
