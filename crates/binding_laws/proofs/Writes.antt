-- Writes are bound to what is well formed over a row of their table, if it is sound.
use Rattle.std.proofs.lemmas.Bool.{and_from, and_parts, eq-eqb, eqb-true, lt-ltb, or_parts}
use Rattle.std.proofs.lemmas.List.{append-nil, length-map, map-append}
use Rattle.std.proofs.Common.{◌≡◌, ◌⊎◌, inl, inr, refl, sym, ap, ◌∙◌, subst, ℕ, zero, suc, ◌+◌, min, ◌≤◌, ◌<◌, List, [], ◌∷◌, ◌++◌, map, length, position, Bool, true, false, ◌||◌, nat_eq, nat_le, nat_lt, option_map, Option, Some, None, Ok, Err, arith, if◌then◌else◌}
use Rattle.std.specs.List.{list_all}
use Rattle.value_types.specs.Units.{same_units}
use Rattle.session_vars.specs.declared.Variable.{Variable}
use Rattle.tsql_tree.specs.declared.definition.ColumnTree.{ColumnTree}
use Rattle.tsql_tree.specs.declared.definition.Definition.{Definition}
use Rattle.tsql_tree.specs.declared.definition.Definition.TheVariants.{Table, Procedure, Trigger}
use Rattle.tsql_tree.specs.declared.definition.TableTree.{TableTree}
use Rattle.tsql_tree.specs.declared.query.Expr.{Expr}
use Rattle.tsql_tree.specs.declared.query.Test.{Test}
use Rattle.tsql_tree.specs.declared.statement.Assignment.{Assignment}
use Rattle.tsql_tree.specs.declared.statement.InsertRows.{InsertRows}
use Rattle.tsql_tree.specs.declared.statement.InsertRows.TheVariants.{Values, Query}
use Rattle.tsql_tree.specs.Places.{max_place, nameable}
use Rattle.bound_tree.specs.declared.expr.BoundExpr.{BoundExpr}
use Rattle.bound_tree.specs.declared.expr.BoundTest.{BoundTest}
use Rattle.bound_tree.specs.declared.query.InnerQuery.{InnerQuery}
use Rattle.bound_tree.specs.declared.write.Bound.TheVariants as bound
use Rattle.bound_tree.specs.declared.write.BoundRows.TheVariants as rows
use Rattle.bound_tree.specs.declared.write.BoundSet.{BoundSet}
use Rattle.bound_tree.specs.declared.write.BoundWrite.TheVariants as write
use Rattle.bound_tree.specs.Typed.{SettingTypes}
use Rattle.typed_nodes.specs.Refusals.{Outcome, after, unnamed}
use Rattle.clause_binder.specs.declared.inside.Inside.{Inside}
use Rattle.clause_binder.specs.declared.operand.Selected.{Selected}
use Rattle.clause_binder.specs.declared.progress.Progress.{Progress}
use Rattle.clause_binder.specs.Progress.{Context, Read, all_onto, begin_at, beyond_where, bind_of, both, each_onto, each_read, inside_of, nothing, plain}
use Rattle.clause_binder.specs.Operands.{items_of}
use Rattle.clause_binder.specs.Clauses.{set_aside}
use Rattle.clause_binder.specs.Scope.{TableSource, as_table, columns_of, max_columns, max_inner, or_first, table_of}
use Rattle.clause_binder.specs.Bind.{expr_of, query_of, test_of}
use Rattle.binder.specs.Writes.{all_places, column_place, delete, delete_made, first_places, given_places, inners_onto, insert, insert_rows, insert_selected, insert_values, is_repeated, is_set_twice, items_counted, place_or_refusal, places_onto, row_onto, rows_onto, set_of, sets_onto, target, update, update_made, value_of, values_inserted, where_of, whole_table, wrong_count}
use Rattle.query_laws.specs.Columns.{kinds, tables_in, variable_kinds}
use Rattle.query_laws.specs.Formed.{inner_found}
use Rattle.query_laws.specs.Laws.{AllOf}
use Rattle.query_laws.specs.Parts.{AreSound, IsSound, inner_kinds}
use Rattle.query_laws.proofs.Lists.{all_of_both, all_of_each}
use Rattle.query_laws.proofs.Reading.{Bound, Grows, IsFormedInner, Lasts, Reads, ReadsAs, cells, reads_before}
use Rattle.query_laws.proofs.BoundClauses.{WhereAt, place_below, where_inside}
use Rattle.query_laws.proofs.BoundNodes.{AllAt, each_binds}
use Rattle.query_laws.proofs.BoundOperands.{GoodSelect}
use Rattle.query_laws.proofs.BoundTrees.{query_bound}
use Rattle.binding_laws.specs.Formed.{is_formed_inner, is_formed_row, is_formed_set, types_of}
use Rattle.binding_laws.specs.Laws.{IsSoundDefinition}
use Rattle.binding_laws.proofs.Lists.{after_same, all_mapped, all_true, each_long}
use Rattle.binding_laws.proofs.Made.{Ends, GoodMade, ends_of, is_calm}
use Rattle.binding_laws.proofs.Parts.{PassesAt, all_passing, bound_so, is_formed_value, lasts_passing, reads_of, value_binds, where_binds}

-- ---- columns

abbrev AreColumns : List ColumnTree → Type 0
AreColumns columns = (length columns ≤ max_columns) × AllOf IsSound columns

-- the columns of a table that is defined, of which there are none where none is
table_columns : (definitions : List Definition) (name : List ℕ) → AllOf IsSoundDefinition definitions → AreColumns (columns_of (table_of name definitions))
table_columns [] name h = (omega arith, tt)
table_columns (of ∷ rest) name h = or_rest (as_table name of) (first of h.0) (table_columns rest name h.1)
  where
    first : (of : Definition) → IsSoundDefinition of → AreColumns (columns_of (as_table name of))
    first (Table table) sound = by_name (same_units name table.name)
      where
        by_name : (b : Bool) → AreColumns (columns_of (if b then Some table else None))
        by_name true = sound.0
        by_name false = (omega arith, tt)
    first (Procedure procedure) sound = (omega arith, tt)
    first (Trigger trigger) sound = (omega arith, tt)

    or_rest : (found : Option TableTree) → AreColumns (columns_of found) → AreColumns (columns_of (table_of name rest)) → AreColumns (columns_of (or_first found (table_of name rest)))
    or_rest None h g = g
    or_rest (Some table) h g = h

-- a column that is named is there
column_below : (columns : List ColumnTree) (name : List ℕ) (place : ℕ) → column_place columns name ≡ Ok place → place < length columns
column_below columns name place = of_position (position (λ column. same_units name column.name) columns) refl
  where
    of_position : (found : Option ℕ) → position (λ column. same_units name column.name) columns ≡ found → place_or_refusal name (nameable found) ≡ Ok place → place < length columns
    of_position None e d = cc
    of_position (Some other) e d = by_test (nat_le other max_place) d
      where
        by_test : (b : Bool) → place_or_refusal name (if b then Some other else None) ≡ Ok place → place < length columns
        by_test true d = let same : other ≡ place = cc in subst (λ p. p < length columns) same (place_below (λ column. same_units name column.name) columns other e)
        by_test false d = cc

places_below : (columns : List ColumnTree) (names : List (List ℕ)) (before places : List ℕ) → AllOf (λ place. place < length columns) before → places_onto columns before names ≡ Ok places → AllOf (λ place. place < length columns) places
places_below columns [] before places h e = let same : before ≡ places = cc in subst (AllOf (λ place. place < length columns)) same h
places_below columns (name ∷ rest) before places h e = of_place (column_place columns name) refl (λ place below. places_below columns rest (before ++ place ∷ []) places (all_of_both (λ place. place < length columns) before (place ∷ []) h (below, tt))) e
  where
    of_place : (o : Outcome ℕ) → column_place columns name ≡ o → ((place : ℕ) → place < length columns → places_onto columns (before ++ place ∷ []) rest ≡ Ok places → AllOf (λ place. place < length columns) places) → after o (λ place. places_onto columns (before ++ place ∷ []) rest) ≡ Ok places → AllOf (λ place. place < length columns) places
    of_place (Ok place) d again e = again place (column_below columns name place d) e
    of_place (Err refusal) d again e = cc

firsts_below : (count width : ℕ) → count ≤ width → AllOf (λ place. place < width) (first_places count)
firsts_below zero width le = tt
firsts_below (suc count) width le = all_of_both (λ place. place < width) (first_places count) (count ∷ []) (firsts_below count width (omega (arith, le))) (omega (arith, le), tt)

given_below : (columns : List ColumnTree) (names : List (List ℕ)) (places : List ℕ) → given_places columns names ≡ Ok places → AllOf (λ place. place < length columns) places
given_below columns [] places e = let same : all_places columns ≡ places = cc in subst (AllOf (λ place. place < length columns)) same (firsts_below (min max_place (length columns)) (length columns) (omega arith))
given_below columns (name ∷ rest) places e = places_below columns (name ∷ rest) [] places tt e

module _ (definitions : List Definition) (vars : List Variable) where
  -- ---- what a write reads

  target_cells : (table : List ℕ) → tables_in definitions (whole_table table) ≡ cells (target definitions vars table ∷ [])
  target_cells table = ap kinds (sym (append-nil (columns_of (table_of table definitions))))

  target_width : (table : List ℕ) → length (tables_in definitions (whole_table table)) ≡ length (columns_of (table_of table definitions))
  target_width table = length-map (columns_of (table_of table definitions)) (λ column. column.kind)

  target_sound : (table : List ℕ) → AllOf IsSoundDefinition definitions → AreSound (target definitions vars table ∷ [])
  target_sound table h = (table_columns definitions table h, tt)

  -- ---- DELETE

  pub delete_good : (table : List ℕ) (filter : Option Test) → AllOf IsSoundDefinition definitions → GoodMade definitions vars (delete definitions vars table filter)
  delete_good table filter sound = of_where (where_of definitions vars filter (plain (target definitions vars table ∷ [])) (begin_at 0)) (where_binds definitions vars filter (plain (target definitions vars table ∷ [])) (begin_at 0))
    where
      inside : Inside
      inside = where_inside definitions vars (option_map (test_of definitions vars) filter)

      of_where : (o : Outcome (Option BoundTest × Progress)) → Bound definitions vars (WhereAt definitions vars) inside (plain (target definitions vars table ∷ [])) (begin_at 0) o → GoodMade definitions vars (after o (λ test. Ok (delete_made table test.0 test.1)))
      of_where (Ok test) h = λ calm.
          let got = h (is_calm definitions vars test.1 calm).0 in
          let ends : Ends definitions vars (target definitions vars table ∷ []) test.1 = ends_of definitions vars (target definitions vars table ∷ []) inside false test.1 got.0 in
          and_from _ _ ends.formed (got.1 (types_of definitions vars (tables_in definitions (whole_table table)) test.1.inner) (ends.reads (tables_in definitions (whole_table table)) (target_cells table) (target_sound table sound)))
      of_where (Err refusal) h = tt

  -- ---- values

  abbrev value_read : Expr → Read BoundExpr
  value_read expr = record { inside = (expr_of definitions vars expr).read.inside; bind = value_of definitions vars expr }

  row_is : (row : List Expr) (before : List BoundExpr) (at : Context) (done : Progress) → row_onto definitions vars before row at done ≡ each_onto before (map bind_of (map value_read row)) at done
  row_is [] before at done = refl
  row_is (expr ∷ rest) before at done = after_same (value_of definitions vars expr at done) (λ r. row_onto definitions vars (before ++ r.0 ∷ []) rest at r.1) (λ r. each_onto (before ++ r.0 ∷ []) (map bind_of (map value_read rest)) at r.1)
      (λ r. row_is rest (before ++ r.0 ∷ []) at r.1)

  abbrev row_read : List Expr → Read (List BoundExpr)
  row_read row = record { inside = (each_read (map value_read row)).inside; bind = row_onto definitions vars [] row }

  row_binds : (width : ℕ) (row : List Expr) → length row ≡ width → ReadsAs definitions vars (PassesAt definitions vars (is_formed_row width)) (row_read row)
  row_binds width row wide at done = subst (Bound definitions vars (PassesAt definitions vars (is_formed_row width)) (row_read row).inside at done) (sym (row_is row [] at done))
      (bound_so definitions vars (AllAt definitions vars (PassesAt definitions vars is_formed_value)) (PassesAt definitions vars (is_formed_row width)) (row_read row).inside at done (each_onto [] (map bind_of (map value_read row)) at done)
      (λ r e h types read. and_from _ _ (eq-eqb _ _ (as_wide r (each_long (map bind_of (map value_read row)) [] at done r e))) (all_passing definitions vars is_formed_value at r.1 r.0 h types read))
      (each_binds definitions vars (PassesAt definitions vars is_formed_value) (map value_read row) (lasts_passing definitions vars is_formed_value)
      (all_mapped value_read (λ (a : Read BoundExpr). ReadsAs definitions vars (PassesAt definitions vars is_formed_value) a) (value_binds definitions vars) row) at done))
    where
      as_wide : (r : List BoundExpr × Progress) → length r.0 ≡ 0 + length (map bind_of (map value_read row)) → length r.0 ≡ width
      as_wide r e = let l : length (map bind_of (map value_read row)) ≡ length (map value_read row) = length-map (map value_read row) bind_of in
          let k : length (map value_read row) ≡ length row = length-map row value_read in omega (arith, e, l, k, wide)

  rows_is : (rows : List (List Expr)) (before : List (List BoundExpr)) (at : Context) (done : Progress) → rows_onto definitions vars before rows at done ≡ each_onto before (map bind_of (map row_read rows)) at done
  rows_is [] before at done = refl
  rows_is (row ∷ rest) before at done = after_same (row_onto definitions vars [] row at done) (λ r. rows_onto definitions vars (before ++ r.0 ∷ []) rest at r.1) (λ r. each_onto (before ++ r.0 ∷ []) (map bind_of (map row_read rest)) at r.1)
      (λ r. rows_is rest (before ++ r.0 ∷ []) at r.1)

  rows_bind : (width : ℕ) (rows : List (List Expr)) → list_all (λ row. nat_eq (length row) width) rows ≡ true → AllOf (λ (a : Read (List BoundExpr)). ReadsAs definitions vars (PassesAt definitions vars (is_formed_row width)) a) (map row_read rows)
  rows_bind width [] e = tt
  rows_bind width (row ∷ rest) e = let both : (nat_eq (length row) width ≡ true) × (list_all (λ row. nat_eq (length row) width) rest ≡ true) = and_parts _ _ e in (row_binds width row (eqb-true _ _ both.0), rows_bind width rest both.1)

  -- ---- INSERT

  columns_true : (table : List ℕ) (places : List ℕ) → AllOf (λ place. place < length (columns_of (table_of table definitions))) places → list_all (λ place. nat_lt place (length (tables_in definitions (whole_table table)))) places ≡ true
  columns_true table places h = all_true (λ place. nat_lt place (length (tables_in definitions (whole_table table)))) places
      (all_of_each (λ place. place < length (columns_of (table_of table definitions))) (λ place. nat_lt place (length (tables_in definitions (whole_table table))) ≡ true) places
      (λ place below. lt-ltb place (length (tables_in definitions (whole_table table))) (subst (λ width. place < width) (sym (target_width table)) below)) h)

  values_good : (table : List ℕ) (places : List ℕ) (twice : Bool) (values : List (List Expr)) → AllOf (λ place. place < length (columns_of (table_of table definitions))) places → GoodMade definitions vars (insert_values definitions vars table places twice values)
  values_good table places twice values below = by_width (list_all (λ row. nat_eq (length row) (length places)) values) refl
    where
      inside : Inside
      inside = (each_read (map row_read values)).inside

      of_rows : (o : Outcome (List (List BoundExpr) × Progress)) → Bound definitions vars (AllAt definitions vars (PassesAt definitions vars (is_formed_row (length places)))) inside (plain []) (beyond_where twice (begin_at 0)) o
          → GoodMade definitions vars (after o (λ r. Ok (values_inserted table places r.0 r.1)))
      of_rows (Ok r) h = λ calm.
          let got = h (is_calm definitions vars r.1 calm).0 in
          let ends : Ends definitions vars [] r.1 = ends_of definitions vars [] inside twice r.1 got.0 in
          and_from _ _ (columns_true table places below) (and_from _ _ ends.formed (all_passing definitions vars (is_formed_row (length places)) (plain []) r.1 r.0 got.1 (types_of definitions vars [] r.1.inner) (ends.reads [] refl tt)))
      of_rows (Err refusal) h = tt

      by_width : (b : Bool) → list_all (λ row. nat_eq (length row) (length places)) values ≡ b
          → GoodMade definitions vars (if b then after (rows_onto definitions vars [] values (plain []) (beyond_where twice (begin_at 0))) (λ r. Ok (values_inserted table places r.0 r.1)) else unnamed wrong_count)
      by_width true e = of_rows (rows_onto definitions vars [] values (plain []) (beyond_where twice (begin_at 0)))
          (subst (Bound definitions vars (AllAt definitions vars (PassesAt definitions vars (is_formed_row (length places)))) inside (plain []) (beyond_where twice (begin_at 0))) (sym (rows_is values [] (plain []) (beyond_where twice (begin_at 0))))
          (each_binds definitions vars (PassesAt definitions vars (is_formed_row (length places))) (map row_read values) (lasts_passing definitions vars (is_formed_row (length places))) (rows_bind (length places) values e) (plain []) (beyond_where twice (begin_at 0))))
      by_width false e = tt

  -- where there are no more items than an answer has, as many are counted as there are
  as_many : (m n : ℕ) → m ≤ max_columns → items_counted m ≡ items_counted n → m ≡ n
  as_many m n le e = omega (arith, le, e)

  query_good : (table : List ℕ) (places : List ℕ) (twice : Bool) (o : Outcome Selected) → GoodSelect definitions vars o → AllOf (λ place. place < length (columns_of (table_of table definitions))) places → GoodMade definitions vars (after o (insert_selected table places twice))
  query_good table places twice (Err refusal) h below = tt
  query_good table places twice (Ok s) h below = by_count (nat_eq (items_counted (length (items_of s.query))) (items_counted (length places))) refl
    where
      by_count : (b : Bool) → nat_eq (items_counted (length (items_of s.query))) (items_counted (length places)) ≡ b
          → GoodMade definitions vars (if b then Ok (record { bound = bound.Write (write.Insert (whole_table table) places (rows.Query s.query)); beyond = (s.beyond || s.assigns) || twice }) else unnamed wrong_count)
      by_count true e = λ calm.
          let outer : ((s.beyond || s.assigns) ≡ false) × (twice ≡ false) = or_parts (s.beyond || s.assigns) twice calm in
          let inner : (s.beyond ≡ false) × (s.assigns ≡ false) = or_parts s.beyond s.assigns outer.0 in
          let good = h inner.0 in
          and_from _ _ (columns_true table places below) (and_from _ _ good.0 (eq-eqb _ _ (as_many (length (items_of s.query)) (length places) (good.3 inner.1) (eqb-true _ _ e))))
      by_count false e = tt

  pub insert_good : (table : List ℕ) (columns : List (List ℕ)) (given : InsertRows) → GoodMade definitions vars (insert definitions vars table columns given)
  insert_good table columns given = of_places (given_places (columns_of (table_of table definitions)) columns) refl
    where
      of_given : (given : InsertRows) (places : List ℕ) → AllOf (λ place. place < length (columns_of (table_of table definitions))) places → GoodMade definitions vars (insert_rows definitions vars table places (is_repeated columns) given)
      of_given (Values values) places below = values_good table places (is_repeated columns) values below
      of_given (Query select) places below = query_good table places (is_repeated columns) (query_of definitions vars select) (query_bound definitions vars select) below

      of_places : (o : Outcome (List ℕ)) → given_places (columns_of (table_of table definitions)) columns ≡ o → GoodMade definitions vars (after o (λ places. insert_rows definitions vars table places (is_repeated columns) given))
      of_places (Ok places) e = of_given given places (given_below (columns_of (table_of table definitions)) columns places e)
      of_places (Err refusal) e = tt

  -- ---- UPDATE

  -- a column that is there, and a value
  abbrev SetAt : List ColumnTree → Context → Progress → BoundSet → Type 0
  SetAt columns at done set = (set.place < length columns) × PassesAt definitions vars (λ types (set : BoundSet). is_formed_value types set.expr) at done set

  lasts_set : (columns : List ColumnTree) → Lasts definitions vars (SetAt columns)
  lasts_set columns at inside mid new set g h = (h.0, λ types r. h.1 types (reads_before definitions vars g r))

  abbrev set_read : List ColumnTree → Assignment → Read BoundSet
  set_read columns set = record { inside = (expr_of definitions vars set.value).read.inside; bind = set_of definitions vars columns set }

  set_binds : (columns : List ColumnTree) (set : Assignment) → ReadsAs definitions vars (SetAt columns) (set_read columns set)
  set_binds columns set at done = of_place (column_place columns set.name) refl
    where
      inside : Inside
      inside = (expr_of definitions vars set.value).read.inside

      of_value : (place : ℕ) → place < length columns → (o : Outcome (BoundExpr × Progress)) → Bound definitions vars (PassesAt definitions vars is_formed_value) inside at done o → Bound definitions vars (SetAt columns) inside at done (after o (λ r. Ok (record { place = place; expr = r.0 }, r.1)))
      of_value place below (Ok r) h = λ calm. ((h calm).0, (below, (h calm).1))
      of_value place below (Err refusal) h = tt

      of_place : (o : Outcome ℕ) → column_place columns set.name ≡ o → Bound definitions vars (SetAt columns) inside at done (after o (λ place. after (value_of definitions vars set.value at done) (λ r. Ok (record { place = place; expr = r.0 }, r.1))))
      of_place (Ok place) e = of_value place (column_below columns set.name place e) (value_of definitions vars set.value at done) (value_binds definitions vars set.value at done)
      of_place (Err refusal) e = tt

  sets_is : (columns : List ColumnTree) (sets : List Assignment) (before : List BoundSet) (at : Context) (done : Progress) → sets_onto definitions vars columns before sets at done ≡ each_onto before (map bind_of (map (set_read columns) sets)) at done
  sets_is columns [] before at done = refl
  sets_is columns (set ∷ rest) before at done = after_same (set_of definitions vars columns set at done) (λ r. sets_onto definitions vars columns (before ++ r.0 ∷ []) rest at r.1) (λ r. each_onto (before ++ r.0 ∷ []) (map bind_of (map (set_read columns) rest)) at r.1)
      (λ r. sets_is columns rest (before ++ r.0 ∷ []) at r.1)

  -- as many inner queries are counted before WHERE as stand in what is set
  sets_inside : (columns : List ColumnTree) (sets : List Assignment) (before : Inside) → (all_onto before (map inside_of (map (set_read columns) sets))).inners ≡ inners_onto definitions vars before.inners sets
  sets_inside columns [] before = refl
  sets_inside columns (set ∷ rest) before = sets_inside columns rest (both before (expr_of definitions vars set.value).read.inside)

  few : (m n f i : ℕ) → f ≡ min (suc max_place) m → (n + m ≤ i) ⊎ (max_inner < i) → i ≤ max_inner → m ≡ f
  few m n f i e (inl x) le = omega (arith, e, x, le)
  few m n f i e (inr x) le = absurd (omega (arith, x, le))

  kinds_split : (a b : List InnerQuery) → inner_kinds definitions vars (a ++ b) ≡ inner_kinds definitions vars a ++ inner_kinds definitions vars b
  kinds_split a b = map-append (λ q. (inner_found (tables_in definitions) (variable_kinds vars) q).1) a b

  set_true : (table : List ℕ) (at : Context) (done : Progress) (types : SettingTypes) (sets : List BoundSet) → types.row ≡ tables_in definitions (whole_table table) → AllAt definitions vars (SetAt (columns_of (table_of table definitions))) at done sets → Reads definitions vars at done types → list_all (is_formed_set types) sets ≡ true
  set_true table at done types sets same h r = all_true (is_formed_set types) sets (all_of_each (SetAt (columns_of (table_of table definitions)) at done) (λ set. is_formed_set types set ≡ true) sets
      (λ set g. and_from _ _ (lt-ltb set.place (length types.row) (subst (λ width. set.place < width) (sym (ap length same ∙ target_width table)) g.0)) (g.1 types r)) h)

  module _ (table : List ℕ) (sets : List Assignment) (filter : Option Test) (sound : AllOf IsSoundDefinition definitions) where
    abbrev source : TableSource
    source = target definitions vars table

    abbrev at : Context
    at = plain (target definitions vars table ∷ [])

    abbrev in_where : Inside
    in_where = where_inside definitions vars (option_map (test_of definitions vars) filter)

    abbrev in_sets : Inside
    in_sets = (each_read (map (set_read source.columns) sets)).inside

    updated : (test : Option BoundTest × Progress) (set : List BoundSet × Progress) → (test.1.beyond ≡ false → Grows definitions vars at in_where (begin_at (inners_onto definitions vars 0 sets)) test.1 × WhereAt definitions vars at test.1 test.0)
        → (set.1.beyond ≡ false → Grows definitions vars at in_sets (set_aside test.1) set.1 × AllAt definitions vars (SetAt source.columns) at set.1 set.0)
        → GoodMade definitions vars (Ok (update_made table set.0 test.0 test.1.inner (beyond_where (is_set_twice sets) set.1)))
    updated test set p q calm = and_from _ _
        (all_true (is_formed_inner definitions vars) (set.1.inner ++ test.1.inner) (all_of_both (IsFormedInner definitions vars) set.1.inner test.1.inner (subst (AllOf (IsFormedInner definitions vars)) (sym gs.0.inner) gs.0.inner_formed) (subst (AllOf (IsFormedInner definitions vars)) (sym gw.0.inner) gw.0.inner_formed)))
        (and_from _ _ (set_true table at set.1 types set.0 refl gs.1 reads_sets) (gw.1 types reads_where))
      where
        types : SettingTypes
        types = types_of definitions vars (tables_in definitions (whole_table table)) (set.1.inner ++ test.1.inner)

        calm_sets : ((set.1.beyond || is_set_twice sets) ≡ false) × (set.1.count ≤ max_inner)
        calm_sets = is_calm definitions vars (beyond_where (is_set_twice sets) set.1) calm

        gs : Grows definitions vars at in_sets (set_aside test.1) set.1 × AllAt definitions vars (SetAt source.columns) at set.1 set.0
        gs = q (or_parts set.1.beyond (is_set_twice sets) calm_sets.0).0

        gw : Grows definitions vars at in_where (begin_at (inners_onto definitions vars 0 sets)) test.1 × WhereAt definitions vars at test.1 test.0
        gw = p gs.0.calm

        size : length (inner_kinds definitions vars set.1.inner) ≡ inners_onto definitions vars 0 sets
        size = length-map set.1.inner (λ q. (inner_found (tables_in definitions) (variable_kinds vars) q).1) ∙ (ap length gs.0.inner ∙ few (length gs.0.more_inner) test.1.count (inners_onto definitions vars 0 sets) set.1.count (sym (sets_inside source.columns sets nothing) ∙ gs.0.inner_count refl) gs.0.counted calm_sets.1)

        reads_sets : Reads definitions vars at set.1 types
        reads_sets = reads_of definitions vars at set.1 (tables_in definitions (whole_table table)) (set.1.inner ++ test.1.inner) refl (target_cells table) (target_sound table sound)
            ([], inner_kinds definitions vars test.1.inner, sym gs.0.first, kinds_split set.1.inner test.1.inner)

        reads_where : Reads definitions vars at test.1 types
        reads_where = reads_of definitions vars at test.1 (tables_in definitions (whole_table table)) (set.1.inner ++ test.1.inner) refl (target_cells table) (target_sound table sound)
            (inner_kinds definitions vars set.1.inner, [], size ∙ sym gw.0.first, kinds_split set.1.inner test.1.inner ∙ ap (λ x. inner_kinds definitions vars set.1.inner ++ x) (sym (append-nil (inner_kinds definitions vars test.1.inner))))

    of_sets : (test : Option BoundTest × Progress) (o : Outcome (List BoundSet × Progress)) → (test.1.beyond ≡ false → Grows definitions vars at in_where (begin_at (inners_onto definitions vars 0 sets)) test.1 × WhereAt definitions vars at test.1 test.0)
        → Bound definitions vars (AllAt definitions vars (SetAt source.columns)) in_sets at (set_aside test.1) o → GoodMade definitions vars (after o (λ set. Ok (update_made table set.0 test.0 test.1.inner (beyond_where (is_set_twice sets) set.1))))
    of_sets test (Ok set) p q = updated test set p q
    of_sets test (Err refusal) p q = tt

    of_where : (o : Outcome (Option BoundTest × Progress)) → Bound definitions vars (WhereAt definitions vars) in_where at (begin_at (inners_onto definitions vars 0 sets)) o
        → GoodMade definitions vars (after o (λ test. after (sets_onto definitions vars source.columns [] sets at (set_aside test.1)) (λ set. Ok (update_made table set.0 test.0 test.1.inner (beyond_where (is_set_twice sets) set.1)))))
    of_where (Ok test) p = of_sets test (sets_onto definitions vars source.columns [] sets at (set_aside test.1)) p
        (subst (Bound definitions vars (AllAt definitions vars (SetAt source.columns)) in_sets at (set_aside test.1)) (sym (sets_is source.columns sets [] at (set_aside test.1)))
        (each_binds definitions vars (SetAt source.columns) (map (set_read source.columns) sets) (lasts_set source.columns)
        (all_mapped (set_read source.columns) (λ (a : Read BoundSet). ReadsAs definitions vars (SetAt source.columns) a) (set_binds source.columns) sets) at (set_aside test.1)))
    of_where (Err refusal) p = tt

    pub update_good : GoodMade definitions vars (update definitions vars table sets filter)
    update_good = of_where (where_of definitions vars filter at (begin_at (inners_onto definitions vars 0 sets))) (where_binds definitions vars filter at (begin_at (inners_onto definitions vars 0 sets)))
