-- The clauses of a select are bound to what is well formed over the rows that they see.
use Rattle.std.proofs.lemmas.Bool.{and_from, and_parts, or_parts, eq-eqb, lt-ltb, leb-true, ltb-true, ltb-false}
use Rattle.std.proofs.lemmas.List.{append_assoc, append-nil, map-append, length-append, length-map}
use Rattle.std.proofs.Common.{◌≡◌, inl, inr, refl, sym, ap, subst, ℕ, zero, suc, ◌+◌, ◌≤◌, ◌<◌, min, List, [], ◌∷◌, ◌++◌, map, length, take, slice_get, position, filter_map, ℤ, pos, negsuc, Bool, true, false, ◌&&◌, ◌||◌, not, nat_le, nat_lt, Option, Some, None, Ok, Err, arith, if◌then◌else◌}
use Rattle.std.specs.List.{list_all, cons_option, position_or_len}
use Rattle.value_types.specs.Units.{same_units}
use Rattle.value_types.specs.declared.sql_type.SqlType.{SqlType}
use Rattle.session_vars.specs.declared.Variable.{Variable}
use Rattle.tsql_tree.specs.declared.definition.ColumnTree.{ColumnTree}
use Rattle.tsql_tree.specs.declared.definition.Definition.{Definition}
use Rattle.tsql_tree.specs.declared.definition.KeyTree.{KeyTree}
use Rattle.tsql_tree.specs.declared.definition.TableTree.{TableTree}
use Rattle.tsql_tree.specs.declared.query.TableRef.{TableRef}
use Rattle.tsql_tree.specs.Places.{places_of, key_places, max_place, nameable, place_in}
use Rattle.bound_tree.specs.declared.expr.BoundExpr.{BoundExpr}
use Rattle.bound_tree.specs.declared.expr.BoundTest.{BoundTest}
use Rattle.bound_tree.specs.declared.query.BoundOrder.{BoundOrder}
use Rattle.bound_tree.specs.declared.query.Item.{Item}
use Rattle.bound_tree.specs.declared.query.JoinKind.{JoinKind}
use Rattle.bound_tree.specs.declared.query.OrderKey.{OrderKey}
use Rattle.bound_tree.specs.declared.query.OrderKey.TheVariants as key
use Rattle.bound_tree.specs.declared.query.Reference.{Reference}
use Rattle.bound_tree.specs.Typed.{SettingTypes, Found, found_of, is_found, is_formed_test}
use Rattle.typed_nodes.specs.declared.facts.Facts.{Facts}
use Rattle.typed_nodes.specs.declared.expr.TypedExpr.{TypedExpr}
use Rattle.typed_nodes.specs.declared.test.TypedTest.{TypedTest}
use Rattle.typed_nodes.specs.Facts.{max_depth}
use Rattle.typed_nodes.specs.Refusals.{Outcome, after}
use Rattle.clause_binder.specs.declared.from.JoinedTables.{JoinedTables}
use Rattle.clause_binder.specs.declared.inside.Inside.{Inside}
use Rattle.clause_binder.specs.declared.named.NamedItems.{NamedItems}
use Rattle.clause_binder.specs.declared.progress.Progress.{Progress}
use Rattle.clause_binder.specs.declared.shape.Shape.{Shape}
use Rattle.clause_binder.specs.declared.shape.Shape.TheVariants as shape
use Rattle.clause_binder.specs.Same.{same_expr}
use Rattle.clause_binder.specs.Scope.{is_long, max_name, TableSource, behind, columns_in, columns_of, is_meant, max_columns, source_of, table_of, has_name}
use Rattle.clause_binder.specs.Progress.{Binding, Context, Read, all_onto, and_then, beyond_where, both, is_deep, nothing, plain}
use Rattle.clause_binder.specs.Operands.{cell, variable_of}
use Rattle.clause_binder.specs.Clauses.{ExprRead, ItemRead, JoinRead, OrderRead, alias_place, assigned, column_items, expr_key, filter_of, grouped_cell, grouped_or_refused, groups_onto, having_of, is_full, is_long_alias, is_long_ref, is_source, item, item_inside, item_key, item_of, item_place, items_onto, join_onto, key_at, key_by, key_of, looked_at, name_or, named_or, named_place, number_of, numbered_or, numbered_place, order_inside, order_onto, ordered_by, place_or, reference, source_items, star, star_items, star_of, table_items, table_read, value_item, valued, whole, whole_having, with_item, with_place, with_reference, with_source}
use Rattle.query_laws.specs.Formed.{are_formed_refs, is_formed_group, is_formed_item, is_formed_key, is_formed_order, is_formed_where, is_wide, row_kinds, types_over}
use Rattle.query_laws.proofs.FoundKinds.{IsReal, real_or_int, HasKind, as_or_int, trans}
use Rattle.query_laws.specs.Laws.{AllOf, IsFit}
use Rattle.query_laws.proofs.Lists.{all_of_both, all_of_each}
use Rattle.query_laws.specs.Columns.{kinds, tables_in, variable_kinds}
use Rattle.query_laws.specs.Parts.{AreSound}
use Rattle.query_laws.proofs.Reading.{Binds, Bound, Grows, Reads, ReadsInner, cells, grows_not, grows_then, inner_grown, reads_before}
use Rattle.query_laws.proofs.BoundOperands.{FormedAt, FormedTestAt, cell_formed, at_middle}
use Rattle.query_laws.proofs.BoundSums.{grows_noted, reads_noted}
use Rattle.query_laws.proofs.BoundNodes.{GoodExpr, GoodTest, ShapeOk, settled_formed}

-- ---- places

pub place_below : {A : Type 0} (test : A → Bool) (xs : List A) (place : ℕ) → position test xs ≡ Some place → place < length xs
place_below test xs place = by_test (nat_lt (position_or_len test xs) (length xs)) refl
  where
    by_test : (b : Bool) → nat_lt (position_or_len test xs) (length xs) ≡ b → (if b then Some (position_or_len test xs) else None) ≡ Some place → place < length xs
    by_test true e d = let same : position_or_len test xs ≡ place = cc in subst (λ p. p < length xs) same (ltb-true (position_or_len test xs) (length xs) e)
    by_test false e d = cc

named_below : (columns : List ColumnTree) (name : List ℕ) (place : ℕ) → place_in columns name ≡ Some place → (place < length columns) × (place ≤ max_place)
named_below columns name place = of_position (position (λ column. same_units name column.name) columns) refl
  where
    of_position : (found : Option ℕ) → position (λ column. same_units name column.name) columns ≡ found → nameable found ≡ Some place → (place < length columns) × (place ≤ max_place)
    of_position None e d = cc
    of_position (Some other) e d = by_test (nat_le other max_place) refl d
      where
        by_test : (b : Bool) → nat_le other max_place ≡ b → (if b then Some other else None) ≡ Some place → (place < length columns) × (place ≤ max_place)
        by_test true f d = let same : other ≡ place = cc in subst (λ p. (p < length columns) × (p ≤ max_place)) same (place_below (λ column. same_units name column.name) columns other e, leb-true other max_place f)
        by_test false f d = cc

-- a key's columns are those of its table
keys_below : (columns : List ColumnTree) (width : ℕ) → length columns ≤ width → (keys : List KeyTree) → list_all (λ place. nat_lt place width) (places_of columns keys) ≡ true
keys_below columns width le [] = refl
keys_below columns width le (key ∷ rest) = each key.columns
  where
    each : (names : List (List ℕ)) → list_all (λ place. nat_lt place width) (filter_map (place_in columns) names) ≡ true
    each [] = refl
    each (name ∷ rest) = of_place (place_in columns name) refl (each rest)
      where
        of_place : (found : Option ℕ) → place_in columns name ≡ found → list_all (λ place. nat_lt place width) (filter_map (place_in columns) rest) ≡ true
            → list_all (λ place. nat_lt place width) (cons_option found (filter_map (place_in columns) rest)) ≡ true
        of_place None e h = h
        of_place (Some place) e h = let below : place < length columns = (named_below columns name place e).0 in and_from _ _ (lt-ltb place width (omega (arith, below, le))) h

module _ (definitions : List Definition) (vars : List Variable) where
  abbrev F : Context → Progress → TypedExpr → Type 0
  F = FormedAt definitions vars

  abbrev T : Context → Progress → TypedTest → Type 0
  T = FormedTestAt definitions vars

  -- ---- what is noted behind a part

  -- it is made behind what was gathered, and something may be noted
  abbrev Noted : {A : Type 0} → (Context → Progress → A → Type 0) → Context → Progress → Outcome (A × Progress) → Type 0
  Noted P at mid (Ok r) = (b : Bool) × (r.1 ≡ beyond_where b mid) × (r.1.beyond ≡ false → P at r.1 r.0)
  Noted P at mid (Err refusal) = Unit {0}

  noted_last : {A : Type 0} (P : Context → Progress → A → Type 0) (inside : Inside) (at : Context) (done mid : Progress) (second : Outcome (A × Progress)) → Noted P at mid second → (mid.beyond ≡ false → Grows definitions vars at inside done mid) → Bound definitions vars P inside at done second
  noted_last P inside at done mid (Ok s) n g = λ calm. let at_mid : mid.beyond ≡ false = (or_parts mid.beyond n.0 (subst (λ p. p.beyond ≡ false) n.1 calm)).0 in
      (subst (Grows definitions vars at inside done) (sym n.1) (grows_noted definitions vars at inside done mid n.0 (g at_mid)), n.2 calm)
  noted_last P inside at done mid (Err refusal) n g = tt

  binds_noted : {A B : Type 0} (P : Context → Progress → A → Type 0) (Q : Context → Progress → B → Type 0) (inside : Inside) (at : Context) (done : Progress) (bind : Binding A) (next : A → Binding B) → Binds definitions vars P inside bind
      → ((x : A) (mid : Progress) → (mid.beyond ≡ false → Grows definitions vars at inside done mid × P at mid x) → Noted Q at mid (next x at mid)) → Bound definitions vars Q inside at done (and_then bind next at done)
  binds_noted {A = A} P Q inside at done bind next h made = of_first (bind at done) (h at done)
    where
      of_first : (first : Outcome (A × Progress)) → Bound definitions vars P inside at done first → Bound definitions vars Q inside at done (after first (λ r. next r.0 at r.1))
      of_first (Ok r) first = noted_last Q inside at done r.1 (next r.0 at r.1) (made r.0 r.1 first) (λ calm. (first calm).0)
      of_first (Err refusal) first = tt

  -- what was noted before a part
  grows_since : (at : Context) (inside : Inside) (b : Bool) (done new : Progress) → Grows definitions vars at inside (beyond_where b done) new → Grows definitions vars at inside done new
  grows_since at inside b done new g = record {
    calm = (or_parts done.beyond b g.calm).0;
    first = g.first;
    more_inner = g.more_inner;
    inner = g.inner;
    inner_formed = g.inner_formed;
    inner_count = g.inner_count;
    counted = g.counted;
    more_sums = g.more_sums;
    sums = g.sums;
    sums_formed = g.sums_formed;
    sums_none = g.sums_none;
    sums_only = g.sums_only;
  }

  bound_since : {A : Type 0} (P : Context → Progress → A → Type 0) (at : Context) (inside : Inside) (b : Bool) (done : Progress) (o : Outcome (A × Progress)) → Bound definitions vars P inside at (beyond_where b done) o → Bound definitions vars P inside at done o
  bound_since P at inside b done (Ok r) h = λ calm. (grows_since at inside b done r.1 (h calm).0, (h calm).1)
  bound_since P at inside b done (Err refusal) h = tt

  -- ---- WHERE and ON

  abbrev pub WhereAt : Context → Progress → Option BoundTest → Type 0
  WhereAt at done test = (types : SettingTypes) → Reads definitions vars at done types → is_formed_where types test ≡ true

  abbrev TestAt : Context → Progress → BoundTest → Type 0
  TestAt at done test = (types : SettingTypes) → Reads definitions vars at done types → is_formed_test types test ≡ true

  abbrev pub GoodWhere : Option (Read TypedTest) → Type 0
  GoodWhere None = Unit {0}
  GoodWhere (Some of) = GoodTest definitions vars of

  abbrev pub where_inside : Option (Read TypedTest) → Inside
  where_inside None = nothing
  where_inside (Some of) = of.inside

  pub filter_binds : (of : Option (Read TypedTest)) → GoodWhere of → Binds definitions vars WhereAt (where_inside of) (filter_of of)
  filter_binds None h at done = λ calm. (grows_not definitions vars at done calm, λ types r. refl)
  filter_binds (Some of) h at done = of_test (of.bind at done) (h at done)
    where
      of_test : (o : Outcome (TypedTest × Progress)) → Bound definitions vars T of.inside at done o
          → Bound definitions vars WhereAt of.inside at done (after {A = BoundTest × Progress} (after o (λ r. Ok (r.0.test, beyond_where (is_deep r.0.facts) r.1))) (λ r. Ok (Some r.0, r.1)))
      of_test (Ok r) o = λ calm. let both : (r.1.beyond ≡ false) × (is_deep r.0.facts ≡ false) = or_parts r.1.beyond (is_deep r.0.facts) calm in (
        grows_noted definitions vars at of.inside done r.1 (is_deep r.0.facts) (o both.0).0,
        λ types read. ((o both.0).1 types (reads_noted definitions vars at (is_deep r.0.facts) r.1 types read)).1 (ltb-false max_depth r.0.facts.depth both.1),
      )
      of_test (Err refusal) o = tt

  -- ---- GROUP BY

  abbrev GroupAt : Context → Progress → BoundExpr → Type 0
  GroupAt at done expr = (types : SettingTypes) → Reads definitions vars at done types → is_formed_group types expr ≡ true

  abbrev pub GroupsAt : Context → Progress → List BoundExpr → Type 0
  GroupsAt at done exprs = AllOf (GroupAt at done) exprs

  found_known : (kind : Option SqlType) (found : Found) → HasKind kind found → is_found found ≡ true
  found_known None found e = ap is_found e
  found_known (Some kind) found (inl e) = ap is_found e
  found_known (Some kind) found (inr e) = ap is_found e.0

  whole_binds : (a : ExprRead) → GoodExpr definitions vars a → Binds definitions vars GroupAt a.read.inside (whole a.read.bind)
  whole_binds a h at done = of_expr (a.read.bind at done) (h.reads at done)
    where
      of_expr : (o : Outcome (TypedExpr × Progress)) → Bound definitions vars F a.read.inside at done o → Bound definitions vars GroupAt a.read.inside at done (after o (λ r. Ok (r.0.expr, beyond_where (is_deep r.0.facts) r.1)))
      of_expr (Ok r) o = λ calm. let both : (r.1.beyond ≡ false) × (is_deep r.0.facts ≡ false) = or_parts r.1.beyond (is_deep r.0.facts) calm in (
        grows_noted definitions vars at a.read.inside done r.1 (is_deep r.0.facts) (o both.0).0,
        λ types read. found_known r.0.facts.kind (found_of types r.0.expr) ((o both.0).1 types (reads_noted definitions vars at (is_deep r.0.facts) r.1 types read) (ltb-false max_depth r.0.facts.depth both.1)).0,
      )
      of_expr (Err refusal) o = tt

  group_inside : ExprRead → Inside
  group_inside a = a.read.inside

  pub groups_from : (rest : List ExprRead) (before_inside : Inside) (at : Context) (done mid : Progress) (before : List BoundExpr) → AllOf (GoodExpr definitions vars) rest → (mid.beyond ≡ false → Grows definitions vars at before_inside done mid × GroupsAt at mid before)
      → Bound definitions vars GroupsAt (all_onto before_inside (map (λ a. a.read.inside) rest)) at done (groups_onto before rest at mid)
  groups_from [] before_inside at done mid before h g = g
  groups_from (a ∷ rest) before_inside at done mid before h g =
      of_first (λ r was. groups_from rest (both before_inside a.read.inside) at done r.1 (before ++ r.0 ∷ []) h.1 was) (whole a.read.bind at mid) (whole_binds a h.0 at mid)
    where
      of_first : ((r : BoundExpr × Progress) → (r.1.beyond ≡ false → Grows definitions vars at (both before_inside a.read.inside) done r.1 × GroupsAt at r.1 (before ++ r.0 ∷ []))
          → Bound definitions vars GroupsAt (all_onto (both before_inside a.read.inside) (map (λ a. a.read.inside) rest)) at done (groups_onto (before ++ r.0 ∷ []) rest at r.1))
          → (first : Outcome (BoundExpr × Progress)) → Bound definitions vars GroupAt a.read.inside at mid first
          → Bound definitions vars GroupsAt (all_onto (both before_inside a.read.inside) (map (λ a. a.read.inside) rest)) at done (after first (λ r. groups_onto (before ++ r.0 ∷ []) rest at r.1))
      of_first again (Ok r) first = again r (λ calm.
          let got : Grows definitions vars at a.read.inside mid r.1 × GroupAt at r.1 r.0 = first calm in
          let was : Grows definitions vars at before_inside done mid × GroupsAt at mid before = g got.0.calm in (
            grows_then definitions vars was.0 got.0,
            all_of_both (GroupAt at r.1) before (r.0 ∷ [])
                (all_of_each (GroupAt at mid) (GroupAt at r.1) before (λ x p types read. p types (reads_before definitions vars got.0 read)) was.1) (got.1, tt),
          ))
      of_first again (Err refusal) first = tt

  -- ---- what is looked at behind what it is bound to

  looked_noted : {A : Type 0} (P : Context → Progress → A → Type 0) (facts : Facts) (at : Context) (mid : Progress) (x : A)
      → (mid.beyond ≡ false → facts.depth ≤ max_depth → P at (beyond_where (is_deep facts) mid) x) → Noted P at mid (after (looked_at facts at mid) (λ r. Ok (x, r.1)))
  looked_noted P facts at mid x h = of_outcome (grouped_or_refused facts at)
    where
      of_outcome : (o : Outcome (Unit {0})) → Noted P at mid (after {A = Unit {0} × Progress} (after o (λ ok. Ok (ok, beyond_where (is_deep facts) mid))) (λ r. Ok (x, r.1)))
      of_outcome (Ok ok) = (is_deep facts, refl, λ calm. let both : (mid.beyond ≡ false) × (is_deep facts ≡ false) = or_parts mid.beyond (is_deep facts) calm in h both.0 (ltb-false max_depth facts.depth both.1))
      of_outcome (Err refusal) = tt

  or_both : (a b c : Bool) → ((a || b) || c) ≡ (a || (b || c))
  or_both true b c = refl
  or_both false b c = refl

  noted_twice : (b c : Bool) (mid : Progress) → beyond_where c (beyond_where b mid) ≡ beyond_where (b || c) mid
  noted_twice b c mid = ap (λ beyond. record mid { beyond = beyond }) (or_both mid.beyond b c)

  -- ---- HAVING

  pub having_binds : (of : Option (Read TypedTest)) → GoodWhere of → Binds definitions vars WhereAt (where_inside of) (having_of of)
  having_binds None h at done = λ calm. (grows_not definitions vars at done calm, λ types r. refl)
  having_binds (Some of) h at done = of_test (and_then of.bind whole_having at done) (binds_noted T TestAt of.inside at done of.bind whole_having h (λ x mid g. looked_noted TestAt x.facts at mid x.test
      (λ calm le types r. ((g calm).1 types (reads_noted definitions vars at (is_deep x.facts) mid types r)).1 le)))
    where
      of_test : (o : Outcome (BoundTest × Progress)) → Bound definitions vars TestAt of.inside at done o → Bound definitions vars WhereAt of.inside at done (after o (λ r. Ok (Some r.0, r.1)))
      of_test (Ok r) o = o
      of_test (Err refusal) o = tt

  -- ---- FROM

  abbrev pub JoinedAt : Progress → JoinedTables → Type 0
  JoinedAt done tables = (row_kinds (tables_in definitions) (variable_kinds vars) tables.refs ≡ cells tables.sources)
      × ((inner : List (List SqlType)) → ReadsInner definitions vars done.first done.inner inner → AreSound tables.sources → are_formed_refs (tables_in definitions) (variable_kinds vars) inner [] tables.refs ≡ true)

  refs_both : (inner : List (List SqlType)) (before : List SqlType) (refs : List Reference) (one : Reference)
      → are_formed_refs (tables_in definitions) (variable_kinds vars) inner before refs ≡ true
      → (is_wide (tables_in definitions) (variable_kinds vars) one && is_formed_where (types_over (tables_in definitions) (variable_kinds vars) ((before ++ row_kinds (tables_in definitions) (variable_kinds vars) refs) ++ tables_in definitions one.table) inner) one.on) ≡ true
      → are_formed_refs (tables_in definitions) (variable_kinds vars) inner before (refs ++ one ∷ []) ≡ true
  refs_both inner before [] one h g = and_from _ _ (subst (λ row. (is_wide (tables_in definitions) (variable_kinds vars) one && is_formed_where (types_over (tables_in definitions) (variable_kinds vars) (row ++ tables_in definitions one.table) inner) one.on) ≡ true) (append-nil before) g) refl
  refs_both inner before (ref ∷ refs) one h g = and_from _ _ (and_parts _ _ h).0 (refs_both inner (before ++ tables_in definitions ref.table) refs one (and_parts _ _ h).1
      (subst (λ row. (is_wide (tables_in definitions) (variable_kinds vars) one && is_formed_where (types_over (tables_in definitions) (variable_kinds vars) (row ++ tables_in definitions one.table) inner) one.on) ≡ true)
      (sym (append_assoc before (tables_in definitions ref.table) (row_kinds (tables_in definitions) (variable_kinds vars) refs))) g))

  -- a reference is as wide as its table, and its key is of its columns
  wide : (of : TableRef) (kind : JoinKind) (on : Option BoundTest) → length (source_of definitions of).columns ≤ max_place → is_wide (tables_in definitions) (variable_kinds vars) (reference definitions of kind on) ≡ true
  wide of kind on le = and_from _ _ (eq-eqb _ _ same) (keys (table_of of.name definitions) le)
    where
      size : length (kinds (columns_of (table_of of.name definitions))) ≡ length (columns_of (table_of of.name definitions))
      size = length-map (columns_of (table_of of.name definitions)) (λ column. column.kind)

      same : min max_place (length (columns_of (table_of of.name definitions))) ≡ length (kinds (columns_of (table_of of.name definitions)))
      same = omega (arith, size, le)

      keys : (table : Option TableTree) → length (columns_of table) ≤ max_place → list_all (λ place. nat_lt place (min max_place (length (columns_of table)))) (key_places table) ≡ true
      keys None le = refl
      keys (Some table) le = keys_below table.columns (min max_place (length table.columns)) (omega (arith, le)) table.key

  refs_kinds : (refs : List Reference) (one : Reference) → row_kinds (tables_in definitions) (variable_kinds vars) (refs ++ one ∷ []) ≡ row_kinds (tables_in definitions) (variable_kinds vars) refs ++ tables_in definitions one.table
  refs_kinds [] one = append-nil (tables_in definitions one.table)
  refs_kinds (ref ∷ refs) one = trans (ap (λ x. tables_in definitions ref.table ++ x) (refs_kinds refs one)) (sym (append_assoc (tables_in definitions ref.table) (row_kinds (tables_in definitions) (variable_kinds vars) refs) (tables_in definitions one.table)))

  pub cells_kinds : (sources : List TableSource) (one : TableSource) → cells (sources ++ one ∷ []) ≡ cells sources ++ kinds one.columns
  cells_kinds [] one = ap kinds (append-nil one.columns)
  cells_kinds (source ∷ rest) one = trans (map-append (λ column. column.kind) source.columns (columns_in (rest ++ one ∷ [])))
      (trans (ap (λ x. kinds source.columns ++ x) (cells_kinds rest one)) (trans (sym (append_assoc (kinds source.columns) (cells rest) (kinds one.columns)))
      (ap (λ x. x ++ kinds one.columns) (sym (map-append (λ column. column.kind) source.columns (columns_in rest))))))

  -- a table is read under a test that sees it and those before it
  pub table_joined : (before : JoinedTables) (of : TableRef) (kind : JoinKind) (on : Option BoundTest) (done : Progress) → JoinedAt done before → WhereAt (plain (with_source definitions before of).sources) done on
      → JoinedAt done (with_reference (with_source definitions before of) (reference definitions of kind on))
  table_joined before of kind on done h g = (
    trans (refs_kinds before.refs (reference definitions of kind on)) (trans (ap (λ x. x ++ tables_in definitions (reference definitions of kind on).table) h.0) (sym (cells_kinds before.sources (source_of definitions of)))),
    λ inner reads sound. let parts : AreSound before.sources × (length (source_of definitions of).columns ≤ max_columns) = sound_parts before.sources sound in
        refs_both inner [] before.refs (reference definitions of kind on) (h.1 inner reads parts.0) (and_from _ _ (wide of kind on (omega (arith, parts.1))) (g (types inner) (read inner sound reads))),
  )
    where
      sound_parts : (sources : List TableSource) → AreSound (sources ++ source_of definitions of ∷ []) → AreSound sources × (length (source_of definitions of).columns ≤ max_columns)
      sound_parts [] n = (tt, n.0.0)
      sound_parts (source ∷ rest) n = let more : AreSound rest × (length (source_of definitions of).columns ≤ max_columns) = sound_parts rest n.1 in ((n.0, more.0), more.1)

      types : List (List SqlType) → SettingTypes
      types inner = types_over (tables_in definitions) (variable_kinds vars) (row_kinds (tables_in definitions) (variable_kinds vars) before.refs ++ tables_in definitions (reference definitions of kind on).table) inner

      read : (inner : List (List SqlType)) → AreSound (with_source definitions before of).sources → ReadsInner definitions vars done.first done.inner inner → Reads definitions vars (plain (with_source definitions before of).sources) done (types inner)
      read inner sound reads = record {
        row = ([], trans (ap (λ x. x ++ tables_in definitions (reference definitions of kind on).table) h.0) (trans (sym (cells_kinds before.sources (source_of definitions of))) (sym (append-nil (cells (before.sources ++ source_of definitions of ∷ []))))));
        variables = refl;
        session = refl;
        sound = sound;
        inner = reads;
      }

  abbrev pub GoodJoin : JoinRead → Type 0
  GoodJoin join = GoodWhere join.on

  abbrev pub join_inside : JoinRead → Inside
  join_inside join = where_inside join.on

  -- what was gathered is what a table reads later too
  pub joined_later : {at : Context} {inside : Inside} {mid new : Progress} (tables : JoinedTables) → Grows definitions vars at inside mid new → JoinedAt mid tables → JoinedAt new tables
  joined_later {mid = mid} {new = new} tables g h = (
    h.0,
    λ inner reads sound. h.1 inner (inner_grown definitions vars mid.first mid.inner g.more_inner inner
        (subst (λ first. ReadsInner definitions vars first (mid.inner ++ g.more_inner) inner) g.first (subst (λ all. ReadsInner definitions vars new.first all inner) g.inner reads))) sound,
  )

  -- a place at which no aggregate stands
  abbrev pub JoinBound : JoinRead → Context → Progress → Outcome (JoinedTables × Progress) → Type 0
  JoinBound join at done (Ok r) = r.1.beyond ≡ false → Grows definitions vars at (join_inside join) done r.1 × JoinedAt r.1 r.0
  JoinBound join at done (Err refusal) = Unit {0}

  pub join_bound : (before : JoinedTables) (join : JoinRead) (done : Progress) → GoodJoin join → (done.beyond ≡ false → JoinedAt done before) → JoinBound join (plain (with_source definitions before join.of).sources) done (join_onto definitions before join done)
  join_bound before join done h g = of_test (filter_of join.on at done) (filter_binds join.on h at done)
    where
      at : Context
      at = plain (with_source definitions before join.of).sources

      of_test : (o : Outcome (Option BoundTest × Progress)) → Bound definitions vars WhereAt (where_inside join.on) at done o → JoinBound join at done (after o (λ r. table_read definitions (with_source definitions before join.of) join.of join.kind r.0 r.1))
      of_test (Ok r) o = λ calm. let mid : r.1.beyond ≡ false = (or_parts r.1.beyond (is_long_ref join.of) calm).0 in
          let got : Grows definitions vars at (where_inside join.on) done r.1 × WhereAt at r.1 r.0 = o mid in (
            grows_noted definitions vars at (where_inside join.on) done r.1 (is_long_ref join.of) got.0,
            joined_noted r.1 (is_long_ref join.of) (with_reference (with_source definitions before join.of) (reference definitions join.of join.kind r.0)) (table_joined before join.of join.kind r.0 r.1 (joined_later before got.0 (g got.0.calm)) got.1),
          )
        where
          joined_noted : (mid : Progress) (b : Bool) (tables : JoinedTables) → JoinedAt mid tables → JoinedAt (beyond_where b mid) tables
          joined_noted mid b tables h = h
      of_test (Err refusal) o = tt

  -- ---- items

  abbrev ItemAt : Context → Progress → Item → Type 0
  ItemAt at done item = (types : SettingTypes) → Reads definitions vars at done types → (is_formed_item types item ≡ true) × IsFit item

  abbrev pub ItemsAt : Context → Progress → NamedItems → Type 0
  ItemsAt at done named = (length named.aliases ≡ length named.items) × AllOf (ItemAt at done) named.items

  items_later : (at : Context) (inside : Inside) (mid new : Progress) (named : NamedItems) → Grows definitions vars at inside mid new → ItemsAt at mid named → ItemsAt at new named
  items_later at inside mid new named g h = (h.0, all_of_each (ItemAt at mid) (ItemAt at new) named.items (λ x p types r. p types (reads_before definitions vars g r)) h.1)

  items_noted : (at : Context) (b : Bool) (mid : Progress) (named : NamedItems) → ItemsAt at mid named → ItemsAt at (beyond_where b mid) named
  items_noted at b mid named h = (h.0, all_of_each (ItemAt at mid) (ItemAt at (beyond_where b mid)) named.items (λ x p types r. p types (reads_noted definitions vars at b mid types r)) h.1)

  item_formed : (types : SettingTypes) (name : List ℕ) (a : TypedExpr) → HasKind a.facts.kind (found_of types a.expr) × IsReal a.facts.kind → length name ≤ max_name → (is_formed_item types (item_of name a) ≡ true) × IsFit (item_of name a)
  item_formed types name a h n = (as_or_int a.facts.kind (found_of types a.expr) h.0, (real_or_int a.facts.kind h.1, n))

  -- an item behind what its expression is bound to
  value_noted : (name : List ℕ) (alias : Option (List ℕ)) (before : NamedItems) (a : TypedExpr) (at : Context) (mid : Progress) → (mid.beyond ≡ false → ItemsAt at mid before) → (mid.beyond ≡ false → F at mid a) → Noted ItemsAt at mid (value_item name alias before a at mid)
  value_noted name alias before a at mid h g = of_outcome (grouped_or_refused a.facts at)
    where
      deep : Bool
      deep = is_deep a.facts

      new : Progress
      new = beyond_where (is_long name) (beyond_where (is_deep a.facts) mid)

      fit : new.beyond ≡ false → ItemsAt at new (with_item before (item_of name a) alias)
      fit calm =
          let outer : ((beyond_where (is_deep a.facts) mid).beyond ≡ false) × (is_long name ≡ false) = or_parts (beyond_where (is_deep a.facts) mid).beyond (is_long name) calm in
          let both : (mid.beyond ≡ false) × (is_deep a.facts ≡ false) = or_parts mid.beyond (is_deep a.facts) outer.0 in
          let was : ItemsAt at new before = items_noted at (is_long name) (beyond_where (is_deep a.facts) mid) before (items_noted at (is_deep a.facts) mid before (h both.0)) in
          let l : length (before.aliases ++ alias ∷ []) ≡ length before.aliases + 1 = length-append before.aliases (alias ∷ []) in
          let k : length (before.items ++ item_of name a ∷ []) ≡ length before.items + 1 = length-append before.items (item_of name a ∷ []) in
          let e : length before.aliases ≡ length before.items = was.0 in (
            omega (arith, l, k, e),
            all_of_both (ItemAt at new) before.items (item_of name a ∷ []) was.1
                ((λ types r. item_formed types name a (g both.0 types (reads_noted definitions vars at (is_deep a.facts) mid types (reads_noted definitions vars at (is_long name) (beyond_where (is_deep a.facts) mid) types r)) (ltb-false max_depth a.facts.depth both.1)) (ltb-false max_name (length name) outer.1)), tt),
          )

      of_outcome : (o : Outcome (Unit {0})) → Noted ItemsAt at mid (after {A = Unit {0} × Progress} (after o (λ ok. Ok (ok, beyond_where (is_deep a.facts) mid))) (λ r. Ok (with_item before (item_of name a) alias, beyond_where (is_long name) r.1)))
      of_outcome (Ok ok) = (is_deep a.facts || is_long name, noted_twice (is_deep a.facts) (is_long name) mid, fit)
      of_outcome (Err refusal) = tt

  -- the columns of a table, each a cell
  columns_bound : (columns : List ColumnTree) (pre post : List SqlType) (place : ℕ) (before : NamedItems) (at : Context) (done mid : Progress) → place ≡ min (suc max_place) (length pre) → cells at.sources ≡ pre ++ (kinds columns ++ post)
      → (mid.beyond ≡ false → Grows definitions vars at nothing done mid × ItemsAt at mid before) → Bound definitions vars ItemsAt nothing at done (column_items place columns before at mid)
  columns_bound [] pre post place before at done mid p e h = h
  columns_bound (column ∷ rest) pre post place before at done mid p e h =
      by_full (is_full before) (value_item column.name None before (grouped_cell at.groups place column) at mid) (value_noted column.name None before (grouped_cell at.groups place column) at mid (λ calm. (h calm).1) (λ calm. cell_here))
      (λ r g. columns_bound rest (pre ++ column.kind ∷ []) post (behind place 1) r.0 at done r.1 next (trans e (sym (append_assoc pre (column.kind ∷ []) (kinds rest ++ post)))) g)
    where
      next : behind place 1 ≡ min (suc max_place) (length (pre ++ column.kind ∷ []))
      next = let l : length (pre ++ column.kind ∷ []) ≡ length pre + 1 = length-append pre (column.kind ∷ []) in omega (arith, p, l)

      here : place ≤ max_place → slice_get (cells at.sources) place ≡ Some column.kind
      here le = let same : place ≡ length pre = omega (arith, p, le) in
          subst (λ xs. slice_get xs place ≡ Some column.kind) (sym e) (subst (λ i. slice_get (pre ++ (column.kind ∷ (kinds rest ++ post))) i ≡ Some column.kind) (sym same) (at_middle pre column.kind (kinds rest ++ post)))

      cell_here : F at mid (grouped_cell at.groups place column)
      cell_here types r = settled_formed definitions vars types at.groups (cell (record { place = place; kind = column.kind })) (cell_formed definitions vars at mid (record { place = place; kind = column.kind }) here types r)

      of_item : (o : Outcome (NamedItems × Progress)) → Noted ItemsAt at mid o → ((r : NamedItems × Progress) → (r.1.beyond ≡ false → Grows definitions vars at nothing done r.1 × ItemsAt at r.1 r.0) → Bound definitions vars ItemsAt nothing at done (column_items (behind place 1) rest r.0 at r.1))
          → Bound definitions vars ItemsAt nothing at done (after o (λ r. column_items (behind place 1) rest r.0 at r.1))
      of_item (Ok r) n again = again r (noted_last ItemsAt nothing at done mid (Ok r) n (λ calm. (h calm).0))
      of_item (Err refusal) n again = tt

      by_full : (full : Bool) (o : Outcome (NamedItems × Progress)) → Noted ItemsAt at mid o → ((r : NamedItems × Progress) → (r.1.beyond ≡ false → Grows definitions vars at nothing done r.1 × ItemsAt at r.1 r.0) → Bound definitions vars ItemsAt nothing at done (column_items (behind place 1) rest r.0 at r.1))
          → Bound definitions vars ItemsAt nothing at done (if full then Ok (before, mid) else after o (λ r. column_items (behind place 1) rest r.0 at r.1))
      by_full true o n again = h
      by_full false o n again = of_item o n again

  -- those of all tables that are meant
  sources_bound : (sources : List TableSource) (qualifier : Option (List ℕ)) (pre : List SqlType) (place : ℕ) (before : NamedItems) (at : Context) (done mid : Progress) → place ≡ min (suc max_place) (length pre) → cells at.sources ≡ pre ++ cells sources
      → (mid.beyond ≡ false → Grows definitions vars at nothing done mid × ItemsAt at mid before) → Bound definitions vars ItemsAt nothing at done (source_items qualifier place sources before at mid)
  sources_bound [] qualifier pre place before at done mid p e h = h
  sources_bound (source ∷ rest) qualifier pre place before at done mid p e h =
      by_full (is_full before) (λ r g. sources_bound rest qualifier (pre ++ kinds source.columns) (behind place (length source.columns)) r.0 at done r.1 next (trans split (sym (append_assoc pre (kinds source.columns) (cells rest)))) g)
    where
      split : cells at.sources ≡ pre ++ (kinds source.columns ++ cells rest)
      split = trans e (ap (λ x. pre ++ x) (map-append (λ column. column.kind) source.columns (columns_in rest)))

      next : behind place (length source.columns) ≡ min (suc max_place) (length (pre ++ kinds source.columns))
      next = let l : length (pre ++ kinds source.columns) ≡ length pre + length (kinds source.columns) = length-append pre (kinds source.columns) in
          let k : length (kinds source.columns) ≡ length source.columns = length-map source.columns (λ column. column.kind) in omega (arith, p, l, k)

      Again : Type 0
      Again = (r : NamedItems × Progress) → (r.1.beyond ≡ false → Grows definitions vars at nothing done r.1 × ItemsAt at r.1 r.0) → Bound definitions vars ItemsAt nothing at done (source_items qualifier (behind place (length source.columns)) rest r.0 at r.1)

      table : Bound definitions vars ItemsAt nothing at done (table_items qualifier place source before at mid)
      table = by_name (is_meant qualifier source.name)
        where
          by_name : (b : Bool) → Bound definitions vars ItemsAt nothing at done (if b then column_items place source.columns before at mid else Ok (before, mid))
          by_name true = columns_bound source.columns pre (cells rest) place before at done mid p split h
          by_name false = h

      of_table : (o : Outcome (NamedItems × Progress)) → Bound definitions vars ItemsAt nothing at done o → Again → Bound definitions vars ItemsAt nothing at done (after o (λ r. source_items qualifier (behind place (length source.columns)) rest r.0 at r.1))
      of_table (Ok r) o again = again r o
      of_table (Err refusal) o again = tt

      by_full : (full : Bool) → Again → Bound definitions vars ItemsAt nothing at done (if full then Ok (before, mid) else after (table_items qualifier place source before at mid) (λ r. source_items qualifier (behind place (length source.columns)) rest r.0 at r.1))
      by_full true again = h
      by_full false again = of_table (table_items qualifier place source before at mid) table again

  star_bound : (qualifier : Option (List ℕ)) (before : NamedItems) (at : Context) (done : Progress) → (done.beyond ≡ false → ItemsAt at done before) → Bound definitions vars ItemsAt nothing at done (star_items qualifier before at done)
  star_bound qualifier before at done h = sources_bound at.sources qualifier [] 0 before at done (beyond_where (not (is_source qualifier at.sources)) done) refl refl
      (λ calm. let was : done.beyond ≡ false = (or_parts done.beyond (not (is_source qualifier at.sources)) calm).0 in
      (grows_noted definitions vars at nothing done done (not (is_source qualifier at.sources)) (grows_not definitions vars at done was), items_noted at (not (is_source qualifier at.sources)) done before (h was)))

  abbrev pub GoodItem : ItemRead → Type 0
  GoodItem star = Unit {0}
  GoodItem (star_of name) = Unit {0}
  GoodItem (assigned name a) = GoodExpr definitions vars a
  GoodItem (valued a alias) = GoodExpr definitions vars a

  value_bound : (name : List ℕ) (alias : Option (List ℕ)) (before : NamedItems) (a : ExprRead) (at : Context) (done : Progress) → GoodExpr definitions vars a → (done.beyond ≡ false → ItemsAt at done before)
      → Bound definitions vars ItemsAt a.read.inside at done (and_then a.read.bind (value_item name alias before) at done)
  value_bound name alias before a at done h g = binds_noted F ItemsAt a.read.inside at done a.read.bind (value_item name alias before) h.reads
      (λ x mid got. value_noted name alias before x at mid (λ calm. items_later at a.read.inside done mid before (got calm).0 (g (got calm).0.calm)) (λ calm. (got calm).1))

  item_bound : (of : ItemRead) (before : NamedItems) (at : Context) (done : Progress) → GoodItem of → (done.beyond ≡ false → ItemsAt at done before) → Bound definitions vars ItemsAt (item_inside of) at done (item vars of before at done)
  item_bound star before at done h g = star_bound None before at done g
  item_bound (star_of name) before at done h g = star_bound (Some name) before at done g
  item_bound (valued a alias) before at done h g = bound_since ItemsAt at a.read.inside (is_long_alias alias) done (and_then a.read.bind (value_item (name_or alias a.called) alias before) at (beyond_where (is_long_alias alias) done))
      (value_bound (name_or alias a.called) alias before a at (beyond_where (is_long_alias alias) done) h (λ calm. items_noted at (is_long_alias alias) done before (g (or_parts done.beyond (is_long_alias alias) calm).0)))
  item_bound (assigned name a) before at done h g = of_variable (variable_of vars name)
    where
      of_variable : (o : Outcome TypedExpr) → Bound definitions vars ItemsAt a.read.inside at done (after {A = NamedItems × Progress} (after o (λ variable. Ok (with_place before (place_or variable.expr), beyond_where (is_deep variable.facts) done))) (λ r. and_then a.read.bind (value_item [] None r.0) at r.1))
      of_variable (Ok variable) = bound_since ItemsAt at a.read.inside (is_deep variable.facts) done (and_then a.read.bind (value_item [] None (with_place before (place_or variable.expr))) at (beyond_where (is_deep variable.facts) done))
          (value_bound [] None (with_place before (place_or variable.expr)) a at (beyond_where (is_deep variable.facts) done) h (λ calm. items_noted at (is_deep variable.facts) done before (g (or_parts done.beyond (is_deep variable.facts) calm).0)))
      of_variable (Err refusal) = tt

  pub items_from : (rest : List ItemRead) (before_inside : Inside) (at : Context) (done mid : Progress) (before : NamedItems) → AllOf GoodItem rest → (mid.beyond ≡ false → Grows definitions vars at before_inside done mid × ItemsAt at mid before)
      → Bound definitions vars ItemsAt (all_onto before_inside (map item_inside rest)) at done (items_onto vars before rest at mid)
  items_from [] before_inside at done mid before h g = g
  items_from (a ∷ rest) before_inside at done mid before h g =
      of_first (λ r was. items_from rest (both before_inside (item_inside a)) at done r.1 r.0 h.1 was) (item vars a before at mid) (item_bound a before at mid h.0 (λ calm. (g calm).1))
    where
      of_first : ((r : NamedItems × Progress) → (r.1.beyond ≡ false → Grows definitions vars at (both before_inside (item_inside a)) done r.1 × ItemsAt at r.1 r.0) → Bound definitions vars ItemsAt (all_onto (both before_inside (item_inside a)) (map item_inside rest)) at done (items_onto vars r.0 rest at r.1))
          → (first : Outcome (NamedItems × Progress)) → Bound definitions vars ItemsAt (item_inside a) at mid first → Bound definitions vars ItemsAt (all_onto (both before_inside (item_inside a)) (map item_inside rest)) at done (after first (λ r. items_onto vars r.0 rest at r.1))
      of_first again (Ok r) first = again r (λ calm. let got : Grows definitions vars at (item_inside a) mid r.1 × ItemsAt at r.1 r.0 = first calm in (grows_then definitions vars (g got.0.calm).0 got.0, got.1))
      of_first again (Err refusal) first = tt

  -- ---- ORDER BY

  abbrev KeyAt : ℕ → Context → Progress → OrderKey → Type 0
  KeyAt count at done by = (types : SettingTypes) → Reads definitions vars at done types → is_formed_key types count by ≡ true

  abbrev OrderAt : ℕ → Context → Progress → BoundOrder → Type 0
  OrderAt count at done by = (types : SettingTypes) → Reads definitions vars at done types → is_formed_order types count by ≡ true

  abbrev pub OrdersAt : ℕ → Context → Progress → List BoundOrder → Type 0
  OrdersAt count at done order = AllOf (OrderAt count at done) order

  key_placed : (count : ℕ) (at : Context) (done : Progress) (place : ℕ) → place < count → KeyAt count at done (item_key place)
  key_placed count at done place below types r = lt-ltb (min place max_place) count (omega (arith, below))

  -- the item that is meant, where there is one
  key_noted : (count : ℕ) (at : Context) (mid : Progress) (found : Option ℕ) → ((place : ℕ) → found ≡ Some place → place < count) → (key_at found mid).1.beyond ≡ false → KeyAt count at (key_at found mid).1 (key_at found mid).0
  key_noted count at mid None h calm = absurd (no_calm mid.beyond calm)
    where
      no_calm : (b : Bool) → (b || true) ≡ false → ⊥
      no_calm true e = cc
      no_calm false e = cc
  key_noted count at mid (Some place) h calm = key_placed count at mid place (h place refl)

  take_length : {A : Type 0} (n : ℕ) (xs : List A) → length (take n xs) ≤ length xs
  take_length zero xs = omega arith
  take_length (suc n) [] = omega arith
  take_length (suc n) (x ∷ xs) = let h : length (take n xs) ≤ length xs = take_length n xs in omega (arith, h)

  numbered_below : (n : ℤ) (count place : ℕ) → numbered_place n count ≡ Some place → place < count
  numbered_below (pos zero) count place = λ e. cc
  numbered_below (negsuc n) count place = λ e. cc
  numbered_below (pos (suc at)) count place = by_test (nat_lt at count) refl
    where
      by_test : (b : Bool) → nat_lt at count ≡ b → (if b then Some at else None) ≡ Some place → place < count
      by_test true e d = let same : at ≡ place = cc in subst (λ p. p < count) same (ltb-true at count e)
      by_test false e d = cc

  alias_below : (name : Option (List ℕ)) (aliases : List (Option (List ℕ))) (place : ℕ) → alias_place name aliases ≡ Some place → place < length aliases
  alias_below None aliases place e = cc
  alias_below (Some name) aliases place e = place_below (has_name name) aliases place e

  named_below_count : (of : Shape) (called : Option (List ℕ)) (items : NamedItems) (place : ℕ) → length items.aliases ≡ length items.items → named_place of called items ≡ Some place → place < length items.items
  named_below_count shape.Name called items place l e = let h : place < length items.aliases = alias_below called items.aliases place e in omega (arith, h, l)
  named_below_count (shape.Number n) called items place l e = cc
  named_below_count shape.Null called items place l e = cc
  named_below_count shape.Node called items place l e = cc

  -- a key behind what its expression is bound to
  expr_noted : (distinct : Bool) (items : NamedItems) (a : TypedExpr) (at : Context) (mid : Progress) → (mid.beyond ≡ false → F at mid a) → Noted (KeyAt (length items.items)) at mid (expr_key distinct items a at mid)
  expr_noted distinct items a at mid h = of_outcome (grouped_or_refused a.facts at)
    where
      P : Context → Progress → OrderKey → Type 0
      P = KeyAt (length items.items)

      of_key : (d : Bool) → Noted P at mid (Ok (if d then key_at (item_place a.expr items.items) (beyond_where (is_deep a.facts) mid) else (key.Expr a.expr, beyond_where (is_deep a.facts) mid)))
      of_key false = (
        is_deep a.facts,
        refl,
        λ calm types r. let both : (mid.beyond ≡ false) × (is_deep a.facts ≡ false) = or_parts mid.beyond (is_deep a.facts) calm in
            found_known a.facts.kind (found_of types a.expr) (h both.0 types (reads_noted definitions vars at (is_deep a.facts) mid types r) (ltb-false max_depth a.facts.depth both.1)).0,
      )
      of_key true = of_place (item_place a.expr items.items) refl
        where
          below : (place : ℕ) → item_place a.expr items.items ≡ Some place → place < length items.items
          below place e = let p : place < length (take max_columns items.items) = place_below (λ item. same_expr a.expr item.expr) (take max_columns items.items) place e in
              let t : length (take max_columns items.items) ≤ length items.items = take_length max_columns items.items in omega (arith, p, t)

          of_place : (found : Option ℕ) → item_place a.expr items.items ≡ found → Noted P at mid (Ok (key_at found (beyond_where (is_deep a.facts) mid)))
          of_place None e = (true, twice (is_deep a.facts), λ calm. key_noted (length items.items) at (beyond_where (is_deep a.facts) mid) None (λ place f. cc) calm)
            where
              or_true : (b c : Bool) → ((b || c) || true) ≡ (b || true)
              or_true true c = refl
              or_true false true = refl
              or_true false false = refl

              twice : (b : Bool) → beyond_where true (beyond_where b mid) ≡ beyond_where true mid
              twice b = ap (λ beyond. record mid { beyond = beyond }) (or_true mid.beyond b)
          of_place (Some place) e = (is_deep a.facts, refl, λ calm. key_placed (length items.items) at (beyond_where (is_deep a.facts) mid) place (below place e))

      of_outcome : (o : Outcome (Unit {0})) → Noted P at mid (after {A = Unit {0} × Progress} (after o (λ ok. Ok (ok, beyond_where (is_deep a.facts) mid))) (λ r. Ok (key_by distinct items a.expr r.1)))
      of_outcome (Ok ok) = of_key distinct
      of_outcome (Err refusal) = tt

  key_bound : (distinct : Bool) (items : NamedItems) (a : ExprRead) (at : Context) (done : Progress) → GoodExpr definitions vars a → (done.beyond ≡ false → length items.aliases ≡ length items.items) → Bound definitions vars (KeyAt (length items.items)) a.read.inside at done (key_of distinct items a at done)
  key_bound distinct items a at done h l = by_shape a.shape h.shaped
    where
      P : Context → Progress → OrderKey → Type 0
      P = KeyAt (length items.items)

      of_expr : Bound definitions vars P a.read.inside at done (and_then a.read.bind (expr_key distinct items) at done)
      of_expr = binds_noted F P a.read.inside at done a.read.bind (expr_key distinct items) h.reads (λ x mid got. expr_noted distinct items x at mid (λ calm. (got calm).1))

      of_number : (n : ℤ) → a.read.inside ≡ nothing → Bound definitions vars P a.read.inside at done (Ok (key_at (numbered_place n (length items.items)) done))
      of_number n e = subst (λ inside. Bound definitions vars P inside at done (Ok (key_at (numbered_place n (length items.items)) done))) (sym e) (of_found (numbered_place n (length items.items)) (λ place f. numbered_below n (length items.items) place f))
        where
          of_found : (found : Option ℕ) → ((place : ℕ) → found ≡ Some place → place < length items.items) → Bound definitions vars P nothing at done (Ok (key_at found done))
          of_found None below = λ calm. absurd (no_calm done.beyond calm)
            where
              no_calm : (b : Bool) → (b || true) ≡ false → ⊥
              no_calm true e = cc
              no_calm false e = cc
          of_found (Some place) below = λ calm. (grows_not definitions vars at done calm, key_placed (length items.items) at done place (below place refl))

      of_name : (found : Option ℕ) → (done.beyond ≡ false → (place : ℕ) → found ≡ Some place → place < length items.items) → a.read.inside ≡ nothing → Bound definitions vars P a.read.inside at done (named_or found (and_then a.read.bind (expr_key distinct items)) at done)
      of_name None below e = of_expr
      of_name (Some place) below e = subst (λ inside. Bound definitions vars P inside at done (Ok (item_key place, done))) (sym e) (λ calm. (grows_not definitions vars at done calm, key_placed (length items.items) at done place (below calm place refl)))

      by_shape : (of : Shape) → ShapeOk definitions vars of a.read.inside
          → Bound definitions vars P a.read.inside at done (numbered_or (number_of of) (length items.items) (named_or (named_place of a.called items) (and_then a.read.bind (expr_key distinct items))) at done)
      by_shape (shape.Number n) e = of_number n e
      by_shape shape.Null e = of_expr
      by_shape shape.Name e = of_name (alias_place a.called items.aliases) (λ calm place f. let b : place < length items.aliases = alias_below a.called items.aliases place f in let k : length items.aliases ≡ length items.items = l calm in omega (arith, b, k)) e
      by_shape shape.Node e = of_expr

  pub orders_from : (distinct : Bool) (items : NamedItems) (rest : List OrderRead) (before_inside : Inside) (at : Context) (done mid : Progress) (before : List BoundOrder) → AllOf (λ by. GoodExpr definitions vars by.expr) rest → (mid.beyond ≡ false → length items.aliases ≡ length items.items)
      → (mid.beyond ≡ false → Grows definitions vars at before_inside done mid × OrdersAt (length items.items) at mid before) → Bound definitions vars (OrdersAt (length items.items)) (all_onto before_inside (map order_inside rest)) at done (order_onto distinct items before rest at mid)
  orders_from distinct items [] before_inside at done mid before h l g = g
  orders_from distinct items (a ∷ rest) before_inside at done mid before h l g =
      of_first (λ r k was. orders_from distinct items rest (both before_inside (order_inside a)) at done r.1 (before ++ ordered_by a r.0 ∷ []) h.1 k was) (key_of distinct items a.expr at mid) (key_bound distinct items a.expr at mid h.0 l)
    where
      P : Context → Progress → BoundOrder → Type 0
      P = OrderAt (length items.items)

      of_first : ((r : OrderKey × Progress) → (r.1.beyond ≡ false → length items.aliases ≡ length items.items) → (r.1.beyond ≡ false → Grows definitions vars at (both before_inside (order_inside a)) done r.1 × OrdersAt (length items.items) at r.1 (before ++ ordered_by a r.0 ∷ []))
          → Bound definitions vars (OrdersAt (length items.items)) (all_onto (both before_inside (order_inside a)) (map order_inside rest)) at done (order_onto distinct items (before ++ ordered_by a r.0 ∷ []) rest at r.1))
          → (first : Outcome (OrderKey × Progress)) → Bound definitions vars (KeyAt (length items.items)) (order_inside a) at mid first
          → Bound definitions vars (OrdersAt (length items.items)) (all_onto (both before_inside (order_inside a)) (map order_inside rest)) at done (after first (λ r. order_onto distinct items (before ++ ordered_by a r.0 ∷ []) rest at r.1))
      of_first again (Ok r) first = again r (λ calm. l (first calm).0.calm) (λ calm.
          let got : Grows definitions vars at (order_inside a) mid r.1 × KeyAt (length items.items) at r.1 r.0 = first calm in
          let was : Grows definitions vars at before_inside done mid × OrdersAt (length items.items) at mid before = g got.0.calm in (
            grows_then definitions vars was.0 got.0,
            all_of_both (OrderAt (length items.items) at r.1) before (ordered_by a r.0 ∷ [])
                (all_of_each (OrderAt (length items.items) at mid) (OrderAt (length items.items) at r.1) before (λ x p types read. p types (reads_before definitions vars got.0 read)) was.1) (got.1, tt),
          ))
      of_first again (Err refusal) first = tt
