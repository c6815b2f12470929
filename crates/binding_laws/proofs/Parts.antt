-- What expressions and tests by themselves are bound to passes what is asked of it over whatever may be read by then, and so
-- does a list of such.
use Rattle.std.proofs.lemmas.Bool.{and_from, or_parts, ltb-false}
use Rattle.std.proofs.lemmas.List.{append-nil}
use Rattle.std.proofs.Common.{◌≡◌, inl, inr, refl, sym, ap, ◌∙◌, subst, ℕ, ◌≤◌, List, [], ◌∷◌, Bool, true, false, Option, Some, None, option_map, Ok, Err}
use Rattle.std.specs.List.{list_all}
use Rattle.value_types.specs.declared.sql_type.SqlType.{SqlType}
use Rattle.session_vars.specs.declared.Variable.{Variable}
use Rattle.tsql_tree.specs.declared.definition.Definition.{Definition}
use Rattle.tsql_tree.specs.declared.query.Expr.{Expr}
use Rattle.tsql_tree.specs.declared.query.Test.{Test}
use Rattle.bound_tree.specs.declared.expr.BoundExpr.{BoundExpr}
use Rattle.bound_tree.specs.declared.query.InnerQuery.{InnerQuery}
use Rattle.bound_tree.specs.Typed.{Found, SettingTypes, found_of, is_formed_test, is_found}
use Rattle.typed_nodes.specs.declared.facts.Facts.{Facts}
use Rattle.typed_nodes.specs.declared.expr.TypedExpr.{TypedExpr}
use Rattle.typed_nodes.specs.declared.test.TypedTest.{TypedTest}
use Rattle.typed_nodes.specs.Facts.{max_depth}
use Rattle.typed_nodes.specs.Refusals.{Outcome, after}
use Rattle.clause_binder.specs.declared.inside.Inside.{Inside}
use Rattle.clause_binder.specs.declared.progress.Progress.{Progress}
use Rattle.clause_binder.specs.Progress.{Binding, Context, beyond_where, is_deep, plain}
use Rattle.clause_binder.specs.Bind.{expr_of, test_of}
use Rattle.binder.specs.Writes.{test_whole, value_of, where_of}
use Rattle.query_laws.specs.Parts.{AreSound, inner_kinds}
use Rattle.query_laws.proofs.FoundKinds.{HasKind}
use Rattle.query_laws.proofs.Reading.{Binds, Bound, Lasts, Reads, ReadsInner, ReadsRow, cells, reads_before}
use Rattle.query_laws.proofs.BoundOperands.{FormedAt, FormedTestAt}
use Rattle.query_laws.proofs.BoundSums.{grows_noted, reads_noted}
use Rattle.query_laws.proofs.BoundNodes.{AllAt}
use Rattle.query_laws.proofs.BoundClauses.{WhereAt, filter_binds, where_inside}
use Rattle.query_laws.proofs.BoundTrees.{expr_bound, test_bound}
use Rattle.binding_laws.specs.Formed.{types_of}

-- a value is well formed
abbrev pub is_formed_value : SettingTypes → BoundExpr → Bool
is_formed_value types expr = is_found (found_of types expr)

found_known : (kind : Option SqlType) (found : Found) → HasKind kind found → is_found found ≡ true
found_known None found e = ap is_found e
found_known (Some kind) found (inl e) = ap is_found e
found_known (Some kind) found (inr e) = ap is_found e.0

module _ (definitions : List Definition) (vars : List Variable) where
  -- it passes over whatever may be read
  abbrev pub PassesAt : {A : Type 0} → (SettingTypes → A → Bool) → Context → Progress → A → Type 0
  PassesAt test at done x = (types : SettingTypes) → Reads definitions vars at done types → test types x ≡ true

  pub lasts_passing : {A : Type 0} (test : SettingTypes → A → Bool) → Lasts definitions vars (PassesAt test)
  lasts_passing test at inside mid new x g h types r = h types (reads_before definitions vars g r)

  pub all_passing : {A : Type 0} (test : SettingTypes → A → Bool) (at : Context) (done : Progress) (xs : List A) → AllAt definitions vars (PassesAt test) at done xs → PassesAt (λ types xs. list_all (test types) xs) at done xs
  all_passing test at done [] h types r = refl
  all_passing test at done (x ∷ xs) h types r = and_from _ _ (h.0 types r) (all_passing test at done xs h.1 types r)

  -- more is known of what is bound
  pub bound_so : {A : Type 0} (P Q : Context → Progress → A → Type 0) (inside : Inside) (at : Context) (done : Progress) (o : Outcome (A × Progress))
      → ((r : A × Progress) → o ≡ Ok r → P at r.1 r.0 → Q at r.1 r.0) → Bound definitions vars P inside at done o → Bound definitions vars Q inside at done o
  bound_so P Q inside at done (Ok r) f h = λ calm. ((h calm).0, f r refl (h calm).1)
  bound_so P Q inside at done (Err refusal) f h = tt

  -- what is made of a part that is not too deep
  pub noted_binds : {A B : Type 0} (P : Context → Progress → A → Type 0) (Q : Context → Progress → B → Type 0) (facts : A → Facts) (make : A → B) (inside : Inside) (bind : Binding A) → Binds definitions vars P inside bind
      → ((at : Context) (b : Bool) (done : Progress) (x : A) → P at done x → P at (beyond_where b done) x)
      → ((at : Context) (done : Progress) (x : A) → (facts x).depth ≤ max_depth → P at done x → Q at done (make x))
      → Binds definitions vars Q inside (λ at done. after (bind at done) (λ r. Ok (make r.0, beyond_where (is_deep (facts r.0)) r.1)))
  noted_binds {A = A} P Q facts make inside bind h noted f at done = of_part (bind at done) (h at done)
    where
      of_part : (o : Outcome (A × Progress)) → Bound definitions vars P inside at done o → Bound definitions vars Q inside at done (after o (λ r. Ok (make r.0, beyond_where (is_deep (facts r.0)) r.1)))
      of_part (Ok r) o = λ calm. let both : (r.1.beyond ≡ false) × (is_deep (facts r.0) ≡ false) = or_parts r.1.beyond (is_deep (facts r.0)) calm in (
        grows_noted definitions vars at inside done r.1 (is_deep (facts r.0)) (o both.0).0,
        f at (beyond_where (is_deep (facts r.0)) r.1) r.0 (ltb-false max_depth (facts r.0).depth both.1) (noted at (is_deep (facts r.0)) r.1 r.0 (o both.0).1),
      )
      of_part (Err refusal) o = tt

  pub expr_binds : {B : Type 0} (Q : Context → Progress → B → Type 0) (make : TypedExpr → B) (expr : Expr) → ((at : Context) (done : Progress) (a : TypedExpr) → a.facts.depth ≤ max_depth → FormedAt definitions vars at done a → Q at done (make a))
      → Binds definitions vars Q (expr_of definitions vars expr).read.inside (λ at done. after ((expr_of definitions vars expr).read.bind at done) (λ r. Ok (make r.0, beyond_where (is_deep r.0.facts) r.1)))
  expr_binds Q make expr f = noted_binds (FormedAt definitions vars) Q (λ a. a.facts) make (expr_of definitions vars expr).read.inside (expr_of definitions vars expr).read.bind (expr_bound definitions vars expr).reads
      (λ at b done x h types r. h types (reads_noted definitions vars at b done types r)) f

  pub test_binds : {B : Type 0} (Q : Context → Progress → B → Type 0) (make : TypedTest → B) (test : Test) → ((at : Context) (done : Progress) (a : TypedTest) → a.facts.depth ≤ max_depth → FormedTestAt definitions vars at done a → Q at done (make a))
      → Binds definitions vars Q (test_of definitions vars test).inside (λ at done. after ((test_of definitions vars test).bind at done) (λ r. Ok (make r.0, beyond_where (is_deep r.0.facts) r.1)))
  test_binds Q make test f = noted_binds (FormedTestAt definitions vars) Q (λ a. a.facts) make (test_of definitions vars test).inside (test_of definitions vars test).bind (test_bound definitions vars test)
      (λ at b done x h types r. h types (reads_noted definitions vars at b done types r)) f

  -- ---- values, tests and WHERE

  pub value_binds : (expr : Expr) → Binds definitions vars (PassesAt is_formed_value) (expr_of definitions vars expr).read.inside (value_of definitions vars expr)
  value_binds expr = expr_binds (PassesAt is_formed_value) (λ a. a.expr) expr (λ at done a le h types r. found_known a.facts.kind (found_of types a.expr) (h types r le).0)

  pub whole_binds : (test : Test) → Binds definitions vars (PassesAt is_formed_test) (test_of definitions vars test).inside (test_whole definitions vars test)
  whole_binds test = test_binds (PassesAt is_formed_test) (λ a. a.test) test (λ at done a le h types r. (h types r).1 le)

  pub where_binds : (filter : Option Test) → Binds definitions vars (WhereAt definitions vars) (where_inside definitions vars (option_map (test_of definitions vars) filter)) (where_of definitions vars filter)
  where_binds None = filter_binds definitions vars None tt
  where_binds (Some test) = filter_binds definitions vars (Some (test_of definitions vars test)) (test_bound definitions vars test)

  -- ---- what may be read in the end

  pub reads_of : (at : Context) (done : Progress) (row : List SqlType) (inner : List InnerQuery) → at.sums_from ≡ None → row ≡ cells at.sources → AreSound at.sources → ReadsInner definitions vars done.first done.inner (inner_kinds definitions vars inner)
      → Reads definitions vars at done (types_of definitions vars row inner)
  reads_of at done row inner plain same sound h = record {
    row = subst (λ (from : Option ℕ). ReadsRow definitions vars from at.sources done.sums row) (sym plain) ([], (same ∙ sym (append-nil (cells at.sources))));
    variables = refl;
    session = refl;
    sound = sound;
    inner = h;
  }
