-- A select is bound to a well-formed query.
use Rattle.std.proofs.lemmas.Bool.{and_from, or_parts, ltb-false}
use Rattle.std.proofs.lemmas.List.{append_assoc, append-nil, map-append, length-append, length-map}
use Rattle.std.proofs.Common.{◌≡◌, ◌⊎◌, inl, inr, refl, sym, ap, subst, ℕ, suc, ◌+◌, ◌≤◌, ◌<◌, min, List, [], ◌∷◌, ◌++◌, map, length, Bool, true, false, ◌&&◌, ◌||◌, ◌==◌, not, nat_lt, Option, Some, None, Ok, Err, arith, if◌then◌else◌}
use Rattle.std.specs.List.{list_all, list_any}
use Rattle.value_types.specs.declared.sql_type.SqlType.{SqlType}
use Rattle.session_vars.specs.declared.Variable.{Variable}
use Rattle.tsql_tree.specs.declared.definition.Definition.{Definition}
use Rattle.bound_tree.specs.declared.expr.BoundExpr.{BoundExpr}
use Rattle.bound_tree.specs.declared.expr.BoundTest.{BoundTest}
use Rattle.bound_tree.specs.declared.query.BoundOrder.{BoundOrder}
use Rattle.bound_tree.specs.declared.query.BoundQuery.{BoundQuery, roll-BoundQuery, out-roll-BoundQuery}
use Rattle.bound_tree.specs.declared.query.BoundQuery.TheOpen.{BoundQuery-F}
use Rattle.bound_tree.specs.declared.query.BoundQuery.TheFolds.{fold-roll-BoundQuery, map-BoundQuery}
use Rattle.bound_tree.specs.declared.query.InnerQuery.{InnerQuery}
use Rattle.bound_tree.specs.declared.query.JoinKind.TheVariants as joined
use Rattle.bound_tree.specs.declared.query.Sum.{Sum}
use Rattle.bound_tree.specs.Typed.{SettingTypes}
use Rattle.typed_nodes.specs.Refusals.{Outcome, after}
use Rattle.clause_binder.specs.declared.back.BackClauses.{BackClauses}
use Rattle.clause_binder.specs.declared.from.JoinedTables.{JoinedTables}
use Rattle.clause_binder.specs.declared.front.FrontClauses.{FrontClauses}
use Rattle.clause_binder.specs.declared.inside.Inside.{Inside}
use Rattle.clause_binder.specs.declared.named.NamedItems.{NamedItems}
use Rattle.clause_binder.specs.declared.progress.Progress.{Progress}
use Rattle.tsql_tree.specs.Places.{max_place}
use Rattle.clause_binder.specs.Scope.{is_long, is_odd_column, is_odd_source, max_name, max_sums, TableSource, are_beyond, has_twice, max_columns, max_inner, max_references}
use Rattle.clause_binder.specs.Progress.{Context, all_onto, begin_at, beyond_where, nothing, plain}
use Rattle.clause_binder.specs.Operands.{items_of, within_sum}
use Rattle.clause_binder.specs.Clauses.{FromRead, JoinRead, SelectRead, back_of, behind_inner, class_context, filter_of, first_table, from_of, front_of, groups_onto, has_limit, having_of, in_items, in_order, is_grouped, is_long_ref, is_many, items_onto, join_onto, joins_onto, no_items, no_tables, order_onto, query_from, select_of, select_over, set_aside, taken_up, top_of, with_source}
use Rattle.query_laws.specs.Formed.{QueryFound, are_formed_clauses, are_formed_refs, class_kinds, inner_found, inner_step, is_formed_group, is_formed_item, is_formed_order, is_formed_sum, is_formed_where, items_kinds, query_found, query_step, row_kinds, types_over}
use Rattle.query_laws.proofs.FoundKinds.{trans}
use Rattle.tsql_tree.specs.declared.definition.ColumnTree.{ColumnTree}
use Rattle.typed_nodes.specs.Nodes.{is_kind}
use Rattle.query_laws.specs.Laws.{AllOf, IsFit}
use Rattle.query_laws.proofs.Lists.{all_of_both, all_of_each}
use Rattle.query_laws.proofs.FormedNodes.{map_map}
use Rattle.query_laws.specs.Columns.{tables_in, variable_kinds}
use Rattle.query_laws.specs.Parts.{AreSound, IsSound, inner_kinds}
use Rattle.query_laws.proofs.Reading.{Bound, Grows, IsFormedInner, IsFormedSum, Reads, ReadsInner, ReadsRow, cells, grows_not, inner_grown, reads_back, sum_kinds}
use Rattle.query_laws.proofs.BoundOperands.{GoodSelect, GoodSelected}
use Rattle.query_laws.proofs.BoundNodes.{GoodExpr}
use Rattle.query_laws.proofs.BoundClauses.{GoodItem, GoodJoin, JoinBound, join_inside, where_inside, GoodWhere, GroupsAt, ItemsAt, JoinedAt, OrdersAt, WhereAt, filter_binds, groups_from, having_binds, items_from, join_bound, orders_from, table_joined}

module _ (definitions : List Definition) (vars : List Variable) where
  -- ---- what is gathered by the clauses one after another

  -- an aggregate over rows of these tables
  abbrev SumOver : List TableSource → Progress → Sum → Type 0
  SumOver sources done sum = (types : SettingTypes) → Reads definitions vars (plain sources) done types → is_formed_sum types sum ≡ true

  pub record Gathers (sources : List TableSource) (done new : Progress) : Type 0 where
    pub calm : done.beyond ≡ false
    pub first : new.first ≡ done.first
    pub more_inner : List InnerQuery
    pub inner : new.inner ≡ done.inner ++ more_inner
    pub inner_formed : AllOf (IsFormedInner definitions vars) more_inner
    pub counted : (done.count + length more_inner ≤ new.count) ⊎ (max_inner < new.count)
    pub more_sums : List Sum
    pub sums : new.sums ≡ done.sums ++ more_sums
    pub sums_formed : AllOf (SumOver sources new) more_sums

  -- of a clause at which the rows are those of the tables, or their classes
  pub gathers_of : (at : Context) (inside : Inside) (done new : Progress) → within_sum at ≡ plain at.sources → Grows definitions vars at inside done new → Gathers at.sources done new
  gathers_of at inside done new e g = record {
    calm = g.calm;
    first = g.first;
    more_inner = g.more_inner;
    inner = g.inner;
    inner_formed = g.inner_formed;
    counted = g.counted;
    more_sums = g.more_sums;
    sums = g.sums;
    sums_formed = all_of_each (IsFormedSum definitions vars at new) (SumOver at.sources new) g.more_sums (λ sum h types r. h types (subst (λ a. Reads definitions vars a new types) (sym e) r)) g.sums_formed;
  }

  -- of a clause at which no aggregate may stand, whatever its tables
  gathers_plain : (sources : List TableSource) (at : Context) (inside : Inside) (done new : Progress) → at.sums_from ≡ None → Grows definitions vars at inside done new → Gathers sources done new
  gathers_plain sources at inside done new e g = record {
    calm = g.calm;
    first = g.first;
    more_inner = g.more_inner;
    inner = g.inner;
    inner_formed = g.inner_formed;
    counted = g.counted;
    more_sums = [];
    sums = trans g.sums (ap (λ x. done.sums ++ x) (g.sums_only e));
    sums_formed = tt;
  }

  counted_on : (a b c m n : ℕ) → (a + m ≤ b) ⊎ (max_inner < b) → (b + n ≤ c) ⊎ (max_inner < c) → (a + (m + n) ≤ c) ⊎ (max_inner < c)
  counted_on a b c m n h (inr y) = inr y
  counted_on a b c m n (inl x) (inl y) = inl (omega (arith, x, y))
  counted_on a b c m n (inr x) (inl y) = inr (omega (arith, x, y))

  gathers_then : {sources : List TableSource} {done mid new : Progress} → Gathers sources done mid → Gathers sources mid new → Gathers sources done new
  gathers_then {sources = sources} {done = done} {mid = mid} {new = new} g h = record {
    calm = g.calm;
    first = trans h.first g.first;
    more_inner = g.more_inner ++ h.more_inner;
    inner = trans h.inner (trans (ap (λ x. x ++ h.more_inner) g.inner) (append_assoc done.inner g.more_inner h.more_inner));
    inner_formed = all_of_both (IsFormedInner definitions vars) g.more_inner h.more_inner g.inner_formed h.inner_formed;
    counted = subst (λ n. (done.count + n ≤ new.count) ⊎ (max_inner < new.count)) (sym (length-append g.more_inner h.more_inner)) (counted_on done.count mid.count new.count (length g.more_inner) (length h.more_inner) g.counted h.counted);
    more_sums = g.more_sums ++ h.more_sums;
    sums = trans h.sums (trans (ap (λ x. x ++ h.more_sums) g.sums) (append_assoc done.sums g.more_sums h.more_sums));
    sums_formed = all_of_both (SumOver sources new) g.more_sums h.more_sums (all_of_each (SumOver sources mid) (SumOver sources new) g.more_sums
        (λ sum f types r. f types (reads_back definitions vars (plain sources) mid new h.more_inner h.more_sums types h.first h.inner h.sums r)) g.sums_formed) h.sums_formed;
  }

  gathers_not : (sources : List TableSource) (done : Progress) → done.beyond ≡ false → Gathers sources done done
  gathers_not sources done calm = gathers_plain sources (plain sources) nothing done done refl (grows_not definitions vars (plain sources) done calm)

  gathers_noted : (sources : List TableSource) (done new : Progress) (b : Bool) → Gathers sources done new → Gathers sources done (beyond_where b new)
  gathers_noted sources done new b g = record {
    calm = g.calm;
    first = g.first;
    more_inner = g.more_inner;
    inner = g.inner;
    inner_formed = g.inner_formed;
    counted = g.counted;
    more_sums = g.more_sums;
    sums = g.sums;
    sums_formed = all_of_each (SumOver sources new) (SumOver sources (beyond_where b new)) g.more_sums (λ sum f types r. f types (record { row = r.row; variables = r.variables; session = r.session; sound = r.sound; inner = r.inner })) g.sums_formed;
  }

  -- ---- FROM

  abbrev pub GoodFrom : Option FromRead → Type 0
  GoodFrom None = Unit {0}
  GoodFrom (Some from) = AllOf (GoodJoin definitions vars) from.joins

  -- behind a FROM: no aggregate was gathered
  abbrev FromBound : Progress → Outcome (JoinedTables × Progress) → Type 0
  FromBound done (Ok r) = r.1.beyond ≡ false → ((sources : List TableSource) → Gathers sources done r.1) × (r.1.sums ≡ done.sums) × JoinedAt definitions vars r.1 r.0
  FromBound done (Err refusal) = Unit {0}

  joins_bound : (rest : List JoinRead) (before : JoinedTables) (done mid : Progress) → AllOf (GoodJoin definitions vars) rest
      → (mid.beyond ≡ false → ((sources : List TableSource) → Gathers sources done mid) × (mid.sums ≡ done.sums) × JoinedAt definitions vars mid before) → FromBound done (joins_onto definitions before rest mid)
  joins_bound [] before done mid h g = g
  joins_bound (join ∷ rest) before done mid h g = of_join (join_onto definitions before join mid) (join_bound definitions vars before join mid h.0 (λ calm. (g calm).2)) (λ r was. joins_bound rest r.0 done r.1 h.1 was)
    where
      at : Context
      at = plain (with_source definitions before join.of).sources

      of_join : (o : Outcome (JoinedTables × Progress)) → JoinBound definitions vars join at mid o
          → ((r : JoinedTables × Progress) → (r.1.beyond ≡ false → ((sources : List TableSource) → Gathers sources done r.1) × (r.1.sums ≡ done.sums) × JoinedAt definitions vars r.1 r.0) → FromBound done (joins_onto definitions r.0 rest r.1))
          → FromBound done (after o (λ r. joins_onto definitions r.0 rest r.1))
      of_join (Ok r) o again = again r (λ calm. let got : Grows definitions vars at (join_inside definitions vars join) mid r.1 × JoinedAt definitions vars r.1 r.0 = o calm in
          let was : ((sources : List TableSource) → Gathers sources done mid) × (mid.sums ≡ done.sums) × JoinedAt definitions vars mid before = g got.0.calm in (
            (λ sources. gathers_then (was.0 sources) (gathers_plain sources at (join_inside definitions vars join) mid r.1 refl got.0)),
            trans got.0.sums (trans (ap (λ x. mid.sums ++ x) (got.0.sums_only refl)) (trans (append-nil mid.sums) was.1)),
            got.1,
          ))
      of_join (Err refusal) o again = tt

  no_tables_joined : (done : Progress) → JoinedAt definitions vars done no_tables
  no_tables_joined done = (refl, λ inner reads sound. refl)

  from_bound : (from : Option FromRead) (done : Progress) → GoodFrom from → FromBound done (from_of definitions from done)
  from_bound None done h = λ calm. ((λ sources. gathers_not sources done calm), refl, no_tables_joined done)
  from_bound (Some from) done h = joins_bound from.joins (first_table definitions from.first) done (beyond_where (is_long_ref from.first) done) h (λ calm.
      let was : done.beyond ≡ false = (or_parts done.beyond (is_long_ref from.first) calm).0 in (
        (λ sources. gathers_noted sources done done (is_long_ref from.first) (gathers_not sources done was)),
        refl,
        table_joined definitions vars no_tables from.first joined.Cross None (beyond_where (is_long_ref from.first) done) (no_tables_joined (beyond_where (is_long_ref from.first) done)) (λ types r. refl),
      ))

  -- ---- WHERE, GROUP BY and HAVING

  where_later : (at : Context) (sources : List TableSource) (mid new : Progress) (test : Option BoundTest) → Gathers sources mid new → WhereAt definitions vars at mid test → WhereAt definitions vars at new test
  where_later at sources mid new test g h types r = h types (reads_back definitions vars at mid new g.more_inner g.more_sums types g.first g.inner g.sums r)

  groups_later : (at : Context) (sources : List TableSource) (mid new : Progress) (groups : List BoundExpr) → Gathers sources mid new → GroupsAt definitions vars at mid groups → GroupsAt definitions vars at new groups
  groups_later at sources mid new groups g h = all_of_each (λ expr. (types : SettingTypes) → Reads definitions vars at mid types → is_formed_group types expr ≡ true) (λ expr. (types : SettingTypes) → Reads definitions vars at new types → is_formed_group types expr ≡ true)
      groups (λ x p types r. p types (reads_back definitions vars at mid new g.more_inner g.more_sums types g.first g.inner g.sums r)) h

  record FrontGood (grouped : Bool) (sources : List TableSource) (done new : Progress) (front : FrontClauses) : Type 0 where
    pub gathers : Gathers sources done new
    pub filter : WhereAt definitions vars (plain sources) new front.filter
    pub groups : GroupsAt definitions vars (plain sources) new front.groups
    pub having : WhereAt definitions vars (class_context grouped sources front.groups) new front.having

  abbrev FrontBound : Bool → List TableSource → Progress → Outcome (FrontClauses × Progress) → Type 0
  FrontBound grouped sources done (Ok r) = r.1.beyond ≡ false → FrontGood grouped sources done r.1 r.0
  FrontBound grouped sources done (Err refusal) = Unit {0}

  class_plain : (grouped : Bool) (sources : List TableSource) (groups : List BoundExpr) → within_sum (class_context grouped sources groups) ≡ plain (class_context grouped sources groups).sources
  class_plain grouped sources groups = refl

  front_bound : (select : SelectRead) (grouped : Bool) (sources : List TableSource) (done : Progress) → GoodWhere definitions vars select.filter → AllOf (GoodExpr definitions vars) select.groups → GoodWhere definitions vars select.having
      → FrontBound grouped sources done (front_of select grouped sources done)
  front_bound select grouped sources done h g f = of_filter (filter_of select.filter (plain sources) done) (filter_binds definitions vars select.filter h (plain sources) done)
    where
      of_having : (filter : Option BoundTest × Progress) (groups : List BoundExpr × Progress) (o : Outcome (Option BoundTest × Progress))
          → (filter.1.beyond ≡ false → Gathers sources done filter.1 × WhereAt definitions vars (plain sources) filter.1 filter.0) → (groups.1.beyond ≡ false → Gathers sources filter.1 groups.1 × GroupsAt definitions vars (plain sources) groups.1 groups.0)
          → Bound definitions vars (WhereAt definitions vars) (where_inside definitions vars select.having) (class_context grouped sources groups.0) groups.1 o
          → FrontBound grouped sources done (after o (λ having. Ok (record { filter = filter.0; groups = groups.0; having = having.0 }, having.1)))
      of_having filter groups (Ok having) p q o = λ calm.
          let third : Grows definitions vars (class_context grouped sources groups.0) (where_inside definitions vars select.having) groups.1 having.1 × WhereAt definitions vars (class_context grouped sources groups.0) having.1 having.0 = o calm in
          let three : Gathers sources groups.1 having.1 = gathers_of (class_context grouped sources groups.0) (where_inside definitions vars select.having) groups.1 having.1 (class_plain grouped sources groups.0) third.0 in
          let second : Gathers sources filter.1 groups.1 × GroupsAt definitions vars (plain sources) groups.1 groups.0 = q three.calm in
          let first : Gathers sources done filter.1 × WhereAt definitions vars (plain sources) filter.1 filter.0 = p second.0.calm in
          record {
            gathers = gathers_then first.0 (gathers_then second.0 three);
            filter = where_later (plain sources) sources filter.1 having.1 filter.0 (gathers_then second.0 three) first.1;
            groups = groups_later (plain sources) sources groups.1 having.1 groups.0 three second.1;
            having = third.1;
          }
      of_having filter groups (Err refusal) p q o = tt

      of_groups : (filter : Option BoundTest × Progress) (o : Outcome (List BoundExpr × Progress)) → (filter.1.beyond ≡ false → Gathers sources done filter.1 × WhereAt definitions vars (plain sources) filter.1 filter.0)
          → Bound definitions vars (GroupsAt definitions vars) (all_onto nothing (map (λ a. a.read.inside) select.groups)) (plain sources) filter.1 o
          → FrontBound grouped sources done (after o (λ groups. after (having_of select.having (class_context grouped sources groups.0) groups.1) (λ having. Ok (record { filter = filter.0; groups = groups.0; having = having.0 }, having.1))))
      of_groups filter (Ok groups) p o = of_having filter groups (having_of select.having (class_context grouped sources groups.0) groups.1) p
          (λ calm. (gathers_plain sources (plain sources) (all_onto nothing (map (λ a. a.read.inside) select.groups)) filter.1 groups.1 refl (o calm).0, (o calm).1)) (having_binds definitions vars select.having f (class_context grouped sources groups.0) groups.1)
      of_groups filter (Err refusal) p o = tt

      of_filter : (o : Outcome (Option BoundTest × Progress)) → Bound definitions vars (WhereAt definitions vars) (where_inside definitions vars select.filter) (plain sources) done o
          → FrontBound grouped sources done (after o (λ filter. after (groups_onto [] select.groups (plain sources) filter.1) (λ groups. after (having_of select.having (class_context grouped sources groups.0) groups.1) (λ having. Ok (record { filter = filter.0; groups = groups.0; having = having.0 }, having.1)))))
      of_filter (Ok filter) o = of_groups filter (groups_onto [] select.groups (plain sources) filter.1) (λ calm. (gathers_plain sources (plain sources) (where_inside definitions vars select.filter) done filter.1 refl (o calm).0, (o calm).1))
          (groups_from definitions vars select.groups nothing (plain sources) filter.1 filter.1 [] g (λ calm. (grows_not definitions vars (plain sources) filter.1 calm, tt)))
      of_filter (Err refusal) o = tt

  -- ---- items and ORDER BY

  record BackGood (select : SelectRead) (at : Context) (done : Progress) (back : BackClauses) : Type 0 where
    -- behind the items, and behind ORDER BY
    pub items_end : Progress
    pub order_end : Progress
    pub all : back.done ≡ behind_inner items_end.inner order_end
    pub items_grow : Grows definitions vars at (in_items select.items) (set_aside done) items_end
    pub items : ItemsAt definitions vars at items_end back.items
    pub order_grows : Grows definitions vars at (in_order select.order) (taken_up done.first done.inner items_end) order_end
    pub order : OrdersAt definitions vars (length back.items.items) at order_end back.order

  abbrev BackBound : SelectRead → Context → Progress → Outcome BackClauses → Type 0
  BackBound select at done (Ok back) = back.done.beyond ≡ false → BackGood select at done back
  BackBound select at done (Err refusal) = Unit {0}

  back_bound : (select : SelectRead) (at : Context) (done : Progress) → AllOf (GoodItem definitions vars) select.items → AllOf (λ by. GoodExpr definitions vars by.expr) select.order → BackBound select at done (back_of vars select at done)
  back_bound select at done h g = of_items (items_onto vars no_items select.items at (set_aside done)) (items_from definitions vars select.items nothing at (set_aside done) (set_aside done) no_items h (λ calm. (grows_not definitions vars at (set_aside done) calm, (refl, tt))))
    where
      of_order : (items : NamedItems × Progress) (o : Outcome (List BoundOrder × Progress)) → (items.1.beyond ≡ false → Grows definitions vars at (in_items select.items) (set_aside done) items.1 × ItemsAt definitions vars at items.1 items.0)
          → Bound definitions vars (OrdersAt definitions vars (length items.0.items)) (in_order select.order) at (taken_up done.first done.inner items.1) o
          → BackBound select at done (after o (λ order. Ok (record { items = items.0; order = order.0; done = behind_inner items.1.inner order.1 })))
      of_order items (Ok order) p q = λ calm. record {
        items_end = items.1;
        order_end = order.1;
        all = refl;
        items_grow = (p (q calm).0.calm).0;
        items = (p (q calm).0.calm).1;
        order_grows = (q calm).0;
        order = (q calm).1;
      }
      of_order items (Err refusal) p q = tt

      of_items : (o : Outcome (NamedItems × Progress)) → Bound definitions vars (ItemsAt definitions vars) (in_items select.items) at (set_aside done) o
          → BackBound select at done (after o (λ items. after (order_onto select.distinct items.0 [] select.order at (taken_up done.first done.inner items.1)) (λ order. Ok (record { items = items.0; order = order.0; done = behind_inner items.1.inner order.1 }))))
      of_items (Ok items) o = of_order items (order_onto select.distinct items.0 [] select.order at (taken_up done.first done.inner items.1)) o
          (orders_from definitions vars select.distinct items.0 select.order nothing at (taken_up done.first done.inner items.1) (taken_up done.first done.inner items.1) [] g (λ calm. (o calm).1.0)
          (λ calm. (grows_not definitions vars at (taken_up done.first done.inner items.1) calm, tt)))
      of_items (Err refusal) o = tt

  -- ---- a select

  abbrev Z : Type 0
  Z = BoundQuery-F BoundQuery InnerQuery

  query_roll : (z : Z) → query_found (tables_in definitions) (variable_kinds vars) (roll-BoundQuery z)
      ≡ query_step (tables_in definitions) (variable_kinds vars) (map-BoundQuery BoundQuery InnerQuery QueryFound QueryFound (query_found (tables_in definitions) (variable_kinds vars)) (inner_found (tables_in definitions) (variable_kinds vars)) z)
  query_roll z = fold-roll-BoundQuery QueryFound QueryFound (query_step (tables_in definitions) (variable_kinds vars)) (inner_step (tables_in definitions) (variable_kinds vars)) z

  -- what is true of each is true of all
  all_true : {A : Type 0} (test : A → Bool) (xs : List A) → AllOf (λ x. test x ≡ true) xs → list_all test xs ≡ true
  all_true test [] h = refl
  all_true test (x ∷ xs) h = and_from _ _ h.0 (all_true test xs h.1)

  all_inner : (inner : List InnerQuery) → AllOf (IsFormedInner definitions vars) inner → list_all (λ q. q.0) (map (inner_found (tables_in definitions) (variable_kinds vars)) inner) ≡ true
  all_inner [] h = refl
  all_inner (q ∷ rest) h = and_from _ _ h.0 (all_inner rest h.1)

  -- a table that may be read is sound
  sound_source : (source : TableSource) → is_odd_source source ≡ false → (length source.columns ≤ max_columns) × AllOf IsSound source.columns
  sound_source source e = let parts : (nat_lt max_columns (length source.columns) ≡ false) × (list_any is_odd_column source.columns ≡ false) = or_parts _ _ e in
      (ltb-false max_columns (length source.columns) parts.0, each source.columns parts.1)
    where
      is_one : (k : Bool) → not k ≡ false → k ≡ true
      is_one true d = refl
      is_one false d = cc

      each : (columns : List ColumnTree) → list_any is_odd_column columns ≡ false → AllOf IsSound columns
      each [] e = tt
      each (column ∷ rest) e = let parts : (is_odd_column column ≡ false) × (list_any is_odd_column rest ≡ false) = or_parts _ _ e in
          let both : (is_long column.name ≡ false) × (not (is_kind column.kind) ≡ false) = or_parts (is_long column.name) (not (is_kind column.kind)) parts.0 in
          ((is_one (is_kind column.kind) both.1, ltb-false max_name (length column.name) both.0), each rest parts.1)

  all_sound : (sources : List TableSource) → are_beyond sources ≡ false → AreSound sources
  all_sound sources = by_count (nat_lt max_references (length sources))
    where
      each : (sources : List TableSource) → list_any is_odd_source sources ≡ false → AreSound sources
      each [] e = tt
      each (source ∷ rest) e = let parts : (is_odd_source source ≡ false) × (list_any is_odd_source rest ≡ false) = or_parts _ _ e in (sound_source source parts.0, each rest parts.1)

      by_count : (many : Bool) → (if many then true else (list_any is_odd_source sources || has_twice sources)) ≡ false → AreSound sources
      by_count true e = cc
      by_count false e = each sources (or_parts _ _ e).0

  abbrev class_of : Bool → List SqlType → List Sum → List SqlType
  class_of grouped row sums = class_kinds (tables_in definitions) (variable_kinds vars) grouped row sums

  abbrev types_at : List SqlType → List (List SqlType) → SettingTypes
  types_at row inner = types_over (tables_in definitions) (variable_kinds vars) row inner

  reads_over : (at : Context) (done : Progress) (row : List SqlType) (inner : List (List SqlType)) → ReadsRow definitions vars at.sums_from at.sources done.sums row → AreSound at.sources → ReadsInner definitions vars done.first done.inner inner → Reads definitions vars at done (types_at row inner)
  reads_over at done row inner r s i = record { row = r; variables = refl; session = refl; sound = s; inner = i }

  plain_row : (sources : List TableSource) (row : List SqlType) → row ≡ cells sources → (more : List SqlType) × (row ≡ cells sources ++ more)
  plain_row sources row e = ([], trans e (sym (append-nil (cells sources))))

  -- the row of a class has the cells of the tables and all the aggregates
  class_row : (grouped : Bool) (sources : List TableSource) (groups : List BoundExpr) (row : List SqlType) (sums more all : List Sum) → row ≡ cells sources → all ≡ sums ++ more → ReadsRow definitions vars (class_context grouped sources groups).sums_from sources sums (class_of grouped row all)
  class_row true sources groups row sums more all e a = (refl, (sum_kinds more, trans (ap (λ x. x ++ sum_kinds all) e) (ap (λ x. cells sources ++ x) (trans (ap sum_kinds a) (map-append (λ sum. sum.to) sums more)))))
  class_row false sources groups row sums more all e a = plain_row sources row e

  few_inner : (m n f i o : ℕ) → f ≡ min (suc max_place) m → (n + m ≤ i) ⊎ (max_inner < i) → ((k : ℕ) × ((i + k ≤ o) ⊎ (max_inner < o))) → o ≤ max_inner → m ≡ f
  few_inner m n f i o e (inl x) (k, inl y) le = omega (arith, e, x, y, le)
  few_inner m n f i o e (inl x) (k, inr y) le = absurd (omega (arith, y, le))
  few_inner m n f i o e (inr x) (k, inl y) le = absurd (omega (arith, x, y, le))
  few_inner m n f i o e (inr x) (k, inr y) le = absurd (omega (arith, y, le))

  kinds_split : (a b : List InnerQuery) → inner_kinds definitions vars (a ++ b) ≡ inner_kinds definitions vars a ++ inner_kinds definitions vars b
  kinds_split a b = map-append (λ q. (inner_found (tables_in definitions) (variable_kinds vars) q).1) a b

  -- what is true over what is read at a time
  sums_true : (at : Context) (done : Progress) (types : SettingTypes) (sums : List Sum) → AllOf (λ sum. (types : SettingTypes) → Reads definitions vars at done types → is_formed_sum types sum ≡ true) sums → Reads definitions vars at done types → AllOf (λ sum. is_formed_sum types sum ≡ true) sums
  sums_true at done types sums h r = all_of_each (λ sum. (types : SettingTypes) → Reads definitions vars at done types → is_formed_sum types sum ≡ true) (λ sum. is_formed_sum types sum ≡ true) sums (λ sum f. f types r) h

  -- the clauses of a select are well formed over the rows and classes that they see
  abbrev ClausesGood : SelectRead → JoinedTables → FrontClauses → BackClauses → Progress → Progress → Type 0
  ClausesGood select from front back items_end order_end = (list_all (λ q. q.0) (map (inner_found (tables_in definitions) (variable_kinds vars)) (items_end.inner ++ order_end.inner)) ≡ true)
      × (are_formed_refs (tables_in definitions) (variable_kinds vars) (inner_kinds definitions vars (items_end.inner ++ order_end.inner)) [] from.refs ≡ true)
      × (is_formed_where (types_at (row_kinds (tables_in definitions) (variable_kinds vars) from.refs) (inner_kinds definitions vars (items_end.inner ++ order_end.inner))) front.filter ≡ true)
      × (list_all (is_formed_group (types_at (row_kinds (tables_in definitions) (variable_kinds vars) from.refs) (inner_kinds definitions vars (items_end.inner ++ order_end.inner)))) front.groups ≡ true)
      × (list_all (is_formed_sum (types_at (row_kinds (tables_in definitions) (variable_kinds vars) from.refs) (inner_kinds definitions vars (items_end.inner ++ order_end.inner)))) order_end.sums ≡ true)
      × (is_formed_where (types_at (class_of (is_grouped select) (row_kinds (tables_in definitions) (variable_kinds vars) from.refs) order_end.sums) (inner_kinds definitions vars (items_end.inner ++ order_end.inner))) front.having ≡ true)
      × (list_all (is_formed_item (types_at (class_of (is_grouped select) (row_kinds (tables_in definitions) (variable_kinds vars) from.refs) order_end.sums) (inner_kinds definitions vars (items_end.inner ++ order_end.inner)))) back.items.items ≡ true)
      × (list_all (is_formed_order (types_at (class_of (is_grouped select) (row_kinds (tables_in definitions) (variable_kinds vars) from.refs) order_end.sums) (inner_kinds definitions vars (items_end.inner ++ order_end.inner))) (length back.items.items)) back.order ≡ true)
      × AllOf IsFit back.items.items

  clauses_formed : (select : SelectRead) (from : JoinedTables) (over : Progress) (front : FrontClauses) (done : Progress) (back : BackClauses) (items_end order_end : Progress)
      → JoinedAt definitions vars over from → AreSound from.sources → Gathers from.sources (begin_at (in_items select.items).inners) over → FrontGood (is_grouped select) from.sources over done front
      → Grows definitions vars (class_context (is_grouped select) from.sources front.groups) (in_items select.items) (set_aside done) items_end → ItemsAt definitions vars (class_context (is_grouped select) from.sources front.groups) items_end back.items
      → Grows definitions vars (class_context (is_grouped select) from.sources front.groups) (in_order select.order) (taken_up done.first done.inner items_end) order_end
      → OrdersAt definitions vars (length back.items.items) (class_context (is_grouped select) from.sources front.groups) order_end back.order → order_end.count ≤ max_inner
      → ClausesGood select from front back items_end order_end
  clauses_formed select from over front done back di de joined sound began fg gi items go order few = (
    all_inner (di.inner ++ de.inner) (all_of_both (IsFormedInner definitions vars) di.inner de.inner items_inner order_inner),
    joined.1 T (inner_grown definitions vars over.first over.inner fg.gathers.more_inner T (subst (λ first. ReadsInner definitions vars first (over.inner ++ fg.gathers.more_inner) T) fg.gathers.first (subst (λ all. ReadsInner definitions vars done.first all T) fg.gathers.inner at_done))) sound,
    fg.filter rows rows_done,
    all_true (is_formed_group rows) front.groups (all_of_each (λ expr. (types : SettingTypes) → Reads definitions vars (plain from.sources) done types → is_formed_group types expr ≡ true) (λ expr. is_formed_group rows expr ≡ true) front.groups (λ expr f. f rows rows_done) fg.groups),
    subst (λ sums. list_all (is_formed_sum rows) sums ≡ true) (sym de_sums) (all_true (is_formed_sum rows) (done.sums ++ (gi.more_sums ++ go.more_sums)) (all_of_both (λ sum. is_formed_sum rows sum ≡ true) done.sums (gi.more_sums ++ go.more_sums) done_sums
        (all_of_both (λ sum. is_formed_sum rows sum ≡ true) gi.more_sums go.more_sums (sums_true (plain from.sources) di rows gi.more_sums gi.sums_formed rows_di) (sums_true (plain from.sources) de rows go.more_sums go.sums_formed rows_de)))),
    fg.having classes (reads_over at done (class_of grouped R de.sums) T (class_row grouped from.sources front.groups R done.sums (gi.more_sums ++ go.more_sums) de.sums joined.0 de_sums) sound at_done),
    all_true (is_formed_item classes) back.items.items (all_of_each (λ item. (types : SettingTypes) → Reads definitions vars at di types → (is_formed_item types item ≡ true) × IsFit item) (λ item. is_formed_item classes item ≡ true) back.items.items (λ item f. (f classes classes_di).0) items.1),
    all_true (is_formed_order classes (length back.items.items)) back.order (all_of_each (λ by. (types : SettingTypes) → Reads definitions vars at de types → is_formed_order types (length back.items.items) by ≡ true) (λ by. is_formed_order classes (length back.items.items) by ≡ true) back.order (λ by f. f classes (reads_over at de (class_of grouped R de.sums) T (class_row grouped from.sources front.groups R de.sums [] de.sums joined.0 (sym (append-nil de.sums))) sound at_de)) order),
    all_of_each (λ item. (types : SettingTypes) → Reads definitions vars at di types → (is_formed_item types item ≡ true) × IsFit item) IsFit back.items.items (λ item f. (f classes classes_di).1) items.1,
  )
    where
      grouped : Bool
      grouped = is_grouped select

      at : Context
      at = class_context (is_grouped select) from.sources front.groups

      T : List (List SqlType)
      T = inner_kinds definitions vars (di.inner ++ de.inner)

      R : List SqlType
      R = row_kinds (tables_in definitions) (variable_kinds vars) from.refs

      rows : SettingTypes
      rows = types_at R T

      classes : SettingTypes
      classes = types_at (class_of grouped R de.sums) T

      gf : Gathers from.sources (begin_at (in_items select.items).inners) done
      gf = gathers_then began fg.gathers

      di_first : di.first ≡ 0
      di_first = gi.first

      de_first : de.first ≡ (in_items select.items).inners
      de_first = trans go.first gf.first

      di_inner : di.inner ≡ gi.more_inner
      di_inner = gi.inner

      de_inner : de.inner ≡ done.inner ++ go.more_inner
      de_inner = go.inner

      done_inner : done.inner ≡ gf.more_inner
      done_inner = gf.inner

      de_sums : de.sums ≡ done.sums ++ (gi.more_sums ++ go.more_sums)
      de_sums = trans go.sums (trans (ap (λ x. x ++ go.more_sums) gi.sums) (append_assoc done.sums gi.more_sums go.more_sums))

      size : length (inner_kinds definitions vars di.inner) ≡ (in_items select.items).inners
      size = trans (length-map di.inner (λ q. (inner_found (tables_in definitions) (variable_kinds vars) q).1)) (trans (ap length di_inner)
          (few_inner (length gi.more_inner) done.count (in_items select.items).inners di.count de.count (gi.inner_count refl) gi.counted (length go.more_inner, go.counted) few))

      split : T ≡ inner_kinds definitions vars di.inner ++ inner_kinds definitions vars de.inner
      split = kinds_split di.inner de.inner

      at_done : ReadsInner definitions vars done.first done.inner T
      at_done = (
        inner_kinds definitions vars di.inner,
        inner_kinds definitions vars go.more_inner,
        trans size (sym gf.first),
        trans split (ap (λ x. inner_kinds definitions vars di.inner ++ x) (trans (ap (inner_kinds definitions vars) de_inner) (kinds_split done.inner go.more_inner))),
      )

      at_di : ReadsInner definitions vars di.first di.inner T
      at_di = ([], inner_kinds definitions vars de.inner, sym di_first, split)

      at_de : ReadsInner definitions vars de.first de.inner T
      at_de = (inner_kinds definitions vars di.inner, [], trans size (sym de_first), trans split (ap (λ x. inner_kinds definitions vars di.inner ++ x) (sym (append-nil (inner_kinds definitions vars de.inner)))))

      classes_di : Reads definitions vars at di classes
      classes_di = reads_over at di (class_of grouped R de.sums) T (class_row grouped from.sources front.groups R di.sums go.more_sums de.sums joined.0 go.sums) sound at_di

      rows_done : Reads definitions vars (plain from.sources) done rows
      rows_done = reads_over (plain from.sources) done R T (plain_row from.sources R joined.0) sound at_done

      rows_di : Reads definitions vars (plain from.sources) di rows
      rows_di = reads_over (plain from.sources) di R T (plain_row from.sources R joined.0) sound at_di

      rows_de : Reads definitions vars (plain from.sources) de rows
      rows_de = reads_over (plain from.sources) de R T (plain_row from.sources R joined.0) sound at_de

      items_inner : AllOf (IsFormedInner definitions vars) di.inner
      items_inner = subst (AllOf (IsFormedInner definitions vars)) (sym di_inner) gi.inner_formed

      order_inner : AllOf (IsFormedInner definitions vars) de.inner
      order_inner = subst (AllOf (IsFormedInner definitions vars)) (sym de_inner) (all_of_both (IsFormedInner definitions vars) done.inner go.more_inner (subst (AllOf (IsFormedInner definitions vars)) (sym done_inner) gf.inner_formed) go.inner_formed)

      done_sums : AllOf (λ sum. is_formed_sum rows sum ≡ true) done.sums
      done_sums = subst (AllOf (λ sum. is_formed_sum rows sum ≡ true)) (sym gf.sums) (sums_true (plain from.sources) done rows gf.more_sums gf.sums_formed rows_done)

  -- the parts of a query that is well formed make it so
  query_formed : (z : Z) → list_all (λ q. q.0) (map (inner_found (tables_in definitions) (variable_kinds vars)) z.inner) ≡ true → are_formed_refs (tables_in definitions) (variable_kinds vars) (inner_kinds definitions vars z.inner) [] z.refs ≡ true
      → (is_formed_where (types_at (row_kinds (tables_in definitions) (variable_kinds vars) z.refs) (inner_kinds definitions vars z.inner)) z.filter ≡ true)
      → (list_all (is_formed_group (types_at (row_kinds (tables_in definitions) (variable_kinds vars) z.refs) (inner_kinds definitions vars z.inner))) z.groups ≡ true)
      → (list_all (is_formed_sum (types_at (row_kinds (tables_in definitions) (variable_kinds vars) z.refs) (inner_kinds definitions vars z.inner))) z.sums ≡ true)
      → (is_formed_where (types_at (class_of z.grouped (row_kinds (tables_in definitions) (variable_kinds vars) z.refs) z.sums) (inner_kinds definitions vars z.inner)) z.having ≡ true)
      → (list_all (is_formed_item (types_at (class_of z.grouped (row_kinds (tables_in definitions) (variable_kinds vars) z.refs) z.sums) (inner_kinds definitions vars z.inner))) z.items ≡ true)
      → (list_all (is_formed_order (types_at (class_of z.grouped (row_kinds (tables_in definitions) (variable_kinds vars) z.refs) z.sums) (inner_kinds definitions vars z.inner)) (length z.items)) z.order ≡ true)
      → (query_found (tables_in definitions) (variable_kinds vars) (roll-BoundQuery z)).0 ≡ true
  query_formed z a b c d e f g h = trans (ap (λ q. q.0) (query_roll z)) (subst (λ inner. ((list_all (λ q. q.0) (map (inner_found (tables_in definitions) (variable_kinds vars)) z.inner) && are_formed_refs (tables_in definitions) (variable_kinds vars) inner [] z.refs)
      && are_formed_clauses (tables_in definitions) (variable_kinds vars) (types_at (row_kinds (tables_in definitions) (variable_kinds vars) z.refs) inner) (types_at (class_of z.grouped (row_kinds (tables_in definitions) (variable_kinds vars) z.refs) z.sums) inner)
      (map-BoundQuery BoundQuery InnerQuery QueryFound QueryFound (query_found (tables_in definitions) (variable_kinds vars)) (inner_found (tables_in definitions) (variable_kinds vars)) z)) ≡ true)
      (sym (map_map (λ q. q.1) (inner_found (tables_in definitions) (variable_kinds vars)) z.inner))
      (and_from _ _ (and_from _ _ a b) (and_from _ _ (and_from _ _ (and_from _ _ c d) e) (and_from _ _ (and_from _ _ f g) h))))

  items_found : (z : Z) → (query_found (tables_in definitions) (variable_kinds vars) (roll-BoundQuery z)).1 ≡ items_kinds (items_of (roll-BoundQuery z))
  items_found z = trans (ap (λ q. q.1) (query_roll z)) (sym (ap (λ q. items_kinds q.items) (out-roll-BoundQuery z)))

  -- each part of what a select is read as is bound to what is well formed
  pub record GoodRead (select : SelectRead) : Type 0 where
    pub items : AllOf (GoodItem definitions vars) select.items
    pub from : GoodFrom select.from
    pub filter : GoodWhere definitions vars select.filter
    pub groups : AllOf (GoodExpr definitions vars) select.groups
    pub having : GoodWhere definitions vars select.having
    pub order : AllOf (λ by. GoodExpr definitions vars by.expr) select.order

  module _ (select : SelectRead) (good : GoodRead select) where
    -- what comes behind FROM, behind the clauses up to HAVING, and behind all
    selected_good : (from : JoinedTables × Progress) (front : FrontClauses × Progress) (back : BackClauses)
        → (from.1.beyond ≡ false → ((sources : List TableSource) → Gathers sources (begin_at (in_items select.items).inners) from.1) × (from.1.sums ≡ (begin_at (in_items select.items).inners).sums) × JoinedAt definitions vars from.1 from.0)
        → (front.1.beyond ≡ false → FrontGood (is_grouped select) from.0.sources (beyond_where (are_beyond from.0.sources) from.1) front.1 front.0)
        → (back.done.beyond ≡ false → BackGood select (class_context (is_grouped select) from.0.sources front.0.groups) front.1 back)
        → GoodSelected definitions vars (query_from select (is_grouped select) from.0.refs front.0 back)
    selected_good from front back p q r calm =
        (subst (λ d. (query_found (tables_in definitions) (variable_kinds vars) (roll-BoundQuery (query_at d))).0 ≡ true) (sym got.all) formed, items_found (query_at back.done), subst (AllOf IsFit) (sym (ap (λ q. q.items) (out-roll-BoundQuery (query_at back.done)))) clauses.8, few_items)
      where
        grouped : Bool
        grouped = is_grouped select

        query_at : Progress → Z
        query_at d = record {
          refs = from.0.refs;
          filter = front.0.filter;
          grouped = is_grouped select;
          groups = front.0.groups;
          sums = d.sums;
          having = front.0.having;
          items = back.items.items;
          order = back.order;
          distinct = select.distinct;
          top = top_of select.top;
          inner = d.inner;
        }

        both_calm : (back.done.beyond ≡ false) × (is_many select back.items back.done ≡ false)
        both_calm = or_parts back.done.beyond (is_many select back.items back.done) calm

        got : BackGood select (class_context (is_grouped select) from.0.sources front.0.groups) front.1 back
        got = r both_calm.0

        di : Progress
        di = got.items_end

        de : Progress
        de = got.order_end

        front_good : FrontGood (is_grouped select) from.0.sources (beyond_where (are_beyond from.0.sources) from.1) front.1 front.0
        front_good = q got.items_grow.calm

        from_calm : (from.1.beyond ≡ false) × (are_beyond from.0.sources ≡ false)
        from_calm = or_parts from.1.beyond (are_beyond from.0.sources) front_good.gathers.calm

        few : de.count ≤ max_inner
        few = subst (λ d. d.count ≤ max_inner) got.all (ltb-false max_inner back.done.count (or_parts _ (nat_lt max_inner back.done.count) both_calm.1).1)

        few_items : back.items.assigns ≡ false → length (items_of (roll-BoundQuery (query_at back.done))) ≤ max_columns
        few_items e = subst (λ items. length items ≤ max_columns) (sym (ap (λ q. q.items) (out-roll-BoundQuery (query_at back.done)))) (ltb-false max_columns (length back.items.items)
            (limited (subst (λ b. ((not b || (select.distinct || not (length select.order == 0))) && nat_lt max_columns (length back.items.items)) ≡ false) e
            (or_parts (has_limit select back.items && nat_lt max_columns (length back.items.items)) (nat_lt max_sums (length back.done.sums))
            (or_parts ((has_limit select back.items && nat_lt max_columns (length back.items.items)) || nat_lt max_sums (length back.done.sums)) (nat_lt max_inner back.done.count) both_calm.1).0).0)))
          where
            limited : ((true || (select.distinct || not (length select.order == 0))) && nat_lt max_columns (length back.items.items)) ≡ false → nat_lt max_columns (length back.items.items) ≡ false
            limited h = h

        clauses : ClausesGood select from.0 front.0 back di de
        clauses = clauses_formed select from.0 (beyond_where (are_beyond from.0.sources) from.1) front.0 front.1 back di de (p from_calm.0).2 (all_sound from.0.sources from_calm.1)
            (gathers_noted from.0.sources (begin_at (in_items select.items).inners) from.1 (are_beyond from.0.sources) ((p from_calm.0).0 from.0.sources)) front_good got.items_grow got.items got.order_grows got.order few

        formed : (query_found (tables_in definitions) (variable_kinds vars) (roll-BoundQuery (query_at (behind_inner di.inner de)))).0 ≡ true
        formed = query_formed (query_at (behind_inner di.inner de)) clauses.0 clauses.1 clauses.2 clauses.3 clauses.4 clauses.5 clauses.6 clauses.7

    after_back : (from : JoinedTables × Progress) (front : FrontClauses × Progress) (o : Outcome BackClauses)
        → (from.1.beyond ≡ false → ((sources : List TableSource) → Gathers sources (begin_at (in_items select.items).inners) from.1) × (from.1.sums ≡ (begin_at (in_items select.items).inners).sums) × JoinedAt definitions vars from.1 from.0)
        → (front.1.beyond ≡ false → FrontGood (is_grouped select) from.0.sources (beyond_where (are_beyond from.0.sources) from.1) front.1 front.0)
        → BackBound select (class_context (is_grouped select) from.0.sources front.0.groups) front.1 o
        → GoodSelect definitions vars (after o (λ back. Ok (query_from select (is_grouped select) from.0.refs front.0 back)))
    after_back from front (Ok back) p q r = selected_good from front back p q r
    after_back from front (Err refusal) p q r = tt

    after_front : (from : JoinedTables × Progress) (o : Outcome (FrontClauses × Progress))
        → (from.1.beyond ≡ false → ((sources : List TableSource) → Gathers sources (begin_at (in_items select.items).inners) from.1) × (from.1.sums ≡ (begin_at (in_items select.items).inners).sums) × JoinedAt definitions vars from.1 from.0)
        → FrontBound (is_grouped select) from.0.sources (beyond_where (are_beyond from.0.sources) from.1) o
        → GoodSelect definitions vars (after o (λ front. after (back_of vars select (class_context (is_grouped select) from.0.sources front.0.groups) front.1) (λ back. Ok (query_from select (is_grouped select) from.0.refs front.0 back))))
    after_front from (Ok front) p q = after_back from front (back_of vars select (class_context (is_grouped select) from.0.sources front.0.groups) front.1) p q
        (back_bound select (class_context (is_grouped select) from.0.sources front.0.groups) front.1 good.items good.order)
    after_front from (Err refusal) p q = tt

    after_from : (o : Outcome (JoinedTables × Progress)) → FromBound (begin_at (in_items select.items).inners) o → GoodSelect definitions vars (after o (λ from. select_over definitions vars select from.0 from.1))
    after_from (Ok from) p = after_front from (front_of select (is_grouped select) from.0.sources (beyond_where (are_beyond from.0.sources) from.1)) p
        (front_bound select (is_grouped select) from.0.sources (beyond_where (are_beyond from.0.sources) from.1) good.filter good.groups good.having)
    after_from (Err refusal) p = tt

    -- a select is bound to a well-formed query, unless something is outside a limit
    pub select_good : GoodSelect definitions vars (select_of definitions vars select)
    select_good = after_from (from_of definitions select.from (begin_at (in_items select.items).inners)) (from_bound select.from (begin_at (in_items select.items).inners) good.from)
