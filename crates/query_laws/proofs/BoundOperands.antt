-- Columns, variables, values of the session, inner queries and aggregates are bound to what is well formed where they stand.
use Rattle.std.proofs.lemmas.Bool.{and_from, or_parts, leb-true, leb-false}
use Rattle.std.proofs.lemmas.List.{append_assoc, append-nil, map-append, length-append, length-map}
use Rattle.std.proofs.Common.{◌≡◌, ◌⊎◌, inl, inr, refl, sym, ap, subst, ℕ, zero, suc, ◌+◌, ◌≤◌, ◌<◌, min, List, [], ◌∷◌, ◌++◌, map, length, slice_get, Bool, true, false, ◌||◌, not, nat_le, ◌==◌, is_some, option_map, Option, Some, None, Ok, Err, arith, if◌then◌else◌}
use Rattle.value_types.specs.Units.{same_units}
use Rattle.value_types.specs.declared.sql_type.SqlType.{SqlType}
use Rattle.value_types.specs.declared.sql_type.SqlType.TheVariants.{Int, NText, TinyInt}
use Rattle.session_vars.specs.declared.Variable.{Variable}
use Rattle.session_vars.specs.Variables.{place_of}
use Rattle.tsql_tree.specs.declared.definition.ColumnTree.{ColumnTree}
use Rattle.tsql_tree.specs.declared.definition.Definition.{Definition}
use Rattle.bound_tree.specs.declared.expr.BoundExpr.{BoundExpr}
use Rattle.bound_tree.specs.declared.expr.BoundExpr.TheVariants as bound
use Rattle.bound_tree.specs.Typed.{SettingTypes, found_at, found_of, typed}
use Rattle.typed_nodes.specs.declared.expr.TypedExpr.{TypedExpr}
use Rattle.typed_nodes.specs.declared.test.TypedTest.{TypedTest}
use Rattle.typed_nodes.specs.Facts.{alone}
use Rattle.typed_nodes.specs.Nodes.{leaf, null}
use Rattle.typed_nodes.specs.Refusals.{Outcome, after}
use Rattle.clause_binder.specs.declared.scope.Found.{Found as Place}
use Rattle.clause_binder.specs.declared.scope.Matches.{Matches}
use Rattle.clause_binder.specs.declared.scope.Matches.TheVariants as matches
use Rattle.clause_binder.specs.declared.progress.Progress.{Progress}
use Rattle.clause_binder.specs.Progress.{Context, nothing}
use Rattle.tsql_tree.specs.Places.{max_place}
use Rattle.clause_binder.specs.Scope.{TableSource, behind, column_of, columns_in, found_at as match_at, found_from, found_in, found_of as match_of, found_too, is_meant, the_one, width_of, width_onto}
use Rattle.clause_binder.specs.Operands.{cell, left_out, placed}
use Rattle.tsql_tree.specs.declared.query.SystemWord.{SystemWord}
use Rattle.tsql_tree.specs.declared.query.SystemWord.TheVariants as word
use Rattle.bound_tree.specs.declared.query.BoundQuery.TheFolds.{fold-roll-InnerQuery}
use Rattle.bound_tree.specs.declared.query.InnerQuery.{InnerQuery, roll-InnerQuery}
use Rattle.bound_tree.specs.declared.query.Item.{Item}
use Rattle.bound_tree.specs.declared.expr.BoundTest.TheVariants as test
use Rattle.bound_tree.specs.Typed.{column_kind, is_column, system_kinds}
use Rattle.bound_tree.specs.Setting.{system_place}
use Rattle.bound_tree.specs.declared.system.SystemValue.{SystemValue}
use Rattle.bound_tree.specs.declared.system.SystemValue.TheVariants as system
use Rattle.typed_nodes.specs.Facts.{no_facts, outside}
use Rattle.typed_nodes.specs.Nodes.{is_kind, number_expr, side_kind, text_expr}
use Rattle.typed_nodes.specs.Tests.{in_query_test, test_node}
use Rattle.clause_binder.specs.declared.operand.Selected.{Selected}
use Rattle.clause_binder.specs.Progress.{an_inner_query}
use Rattle.clause_binder.specs.Server.{database_name, most_digits, name_size, schema_name, server_name, server_text, user_name, version_size, version_text}
use Rattle.clause_binder.specs.Scope.{is_long, max_columns, max_inner, max_variables}
use Rattle.clause_binder.specs.Operands.{column, column_in, exists, exists_from, in_query, in_query_from, in_query_with, inner_place, items_of, only_kind, scalar, scalar_from, scalar_with, session_value, system_expr, system_kind, system_node, test_left_out, test_placed, variable, variable_at, variable_from, variable_in, variable_of, variable_of_kind, with_inner}
use Rattle.query_laws.specs.Formed.{QueryFound, inner_found, inner_step, items_kinds, query_found, query_step}
use Rattle.query_laws.proofs.FoundKinds.{as_side, same_self, trans}
use Rattle.query_laws.specs.Laws.{AllOf, IsFit}
use Rattle.query_laws.proofs.Lists.{all_of_both}
use Rattle.query_laws.proofs.FormedNodes.{IsFormed, IsFormedTest, cast_formed, found_cell, found_scalar, found_system, found_variable, leaf_formed, number_formed, outside_formed, test_exists, test_formed, test_in_query, text_formed}
use Rattle.query_laws.specs.Columns.{tables_in, kinds, variable_kinds}
use Rattle.query_laws.specs.Parts.{AreSound, IsSound, inner_kinds}
use Rattle.query_laws.proofs.Reading.{Binds, Bound, Grows, Lasts, Leads, Reads, ReadsInner, ReadsRow, binds_given, cells, grows_not, reads_before, sum_kinds}

-- ---- places in lists

pub at_middle : {A : Type 0} (xs : List A) (y : A) (ys : List A) → slice_get (xs ++ (y ∷ ys)) (length xs) ≡ Some y
at_middle [] y ys = refl
at_middle (x ∷ xs) y ys = at_middle xs y ys

pub at_front : {A : Type 0} (xs ys : List A) (place : ℕ) (x : A) → slice_get xs place ≡ Some x → slice_get (xs ++ ys) place ≡ Some x
at_front [] ys place x e = cc
at_front (y ∷ xs) ys zero x e = e
at_front (y ∷ xs) ys (suc place) x e = at_front xs ys place x e

pub at_map : {A B : Type 0} (f : A → B) (xs : List A) (place : ℕ) (x : A) → slice_get xs place ≡ Some x → slice_get (map f xs) place ≡ Some (f x)
at_map f [] place x e = cc
at_map f (y ∷ xs) zero x e = ap (option_map f) e
at_map f (y ∷ xs) (suc place) x e = at_map f xs place x e

-- ---- columns

-- a column that was found is one of the cells, with its type
abbrev IsCell : List SqlType → Matches → Type 0
IsCell all matches.Nothing = Unit {0}
IsCell all (matches.One found) = found.place ≤ max_place → slice_get all found.place ≡ Some found.kind
IsCell all matches.Several = Unit {0}

too_found : (all : List SqlType) (before : Matches) (found : Place) → (found.place ≤ max_place → slice_get all found.place ≡ Some found.kind) → IsCell all (found_too before found)
too_found all matches.Nothing found h = h
too_found all (matches.One first) found h = tt
too_found all matches.Several found h = tt

one_found : (all : List SqlType) (name : List ℕ) (place : ℕ) (column : ColumnTree) (before : Matches) → (place ≤ max_place → slice_get all place ≡ Some column.kind) → IsCell all before → IsCell all (match_at name place column before)
one_found all name place column before h g = by_name (same_units name column.name)
  where
    by_name : (b : Bool) → IsCell all (if b then found_too before (record { place = place; kind = column.kind }) else before)
    by_name true = too_found all before (record { place = place; kind = column.kind }) h
    by_name false = g

all_found : (all pre post : List SqlType) (name : List ℕ) (place : ℕ) (columns : List ColumnTree) (before : Matches) → place ≡ min (suc max_place) (length pre) → all ≡ pre ++ (kinds columns ++ post)
    → IsCell all before → IsCell all (found_in name place columns before)
all_found all pre post name place [] before p e g = g
all_found all pre post name place (column ∷ rest) before p e g = all_found all (pre ++ column.kind ∷ []) post name (behind place 1) rest (match_at name place column before) next
    (trans e (sym (append_assoc pre (column.kind ∷ []) (kinds rest ++ post)))) (one_found all name place column before here g)
  where
    next : behind place 1 ≡ min (suc max_place) (length (pre ++ column.kind ∷ []))
    next = let l : length (pre ++ column.kind ∷ []) ≡ length pre + 1 = length-append pre (column.kind ∷ []) in omega (arith, p, l)

    here : place ≤ max_place → slice_get all place ≡ Some column.kind
    here le = let same : place ≡ length pre = omega (arith, p, le) in
        subst (λ xs. slice_get xs place ≡ Some column.kind) (sym e) (subst (λ i. slice_get (pre ++ (column.kind ∷ (kinds rest ++ post))) i ≡ Some column.kind) (sym same) (at_middle pre column.kind (kinds rest ++ post)))

kinds_both : (a b : List ColumnTree) → kinds (a ++ b) ≡ kinds a ++ kinds b
kinds_both a b = map-append (λ column. column.kind) a b

from_found : (all pre : List SqlType) (qualifier : Option (List ℕ)) (name : List ℕ) (place : ℕ) (sources : List TableSource) (before : Matches) → place ≡ min (suc max_place) (length pre) → all ≡ pre ++ cells sources
    → IsCell all before → IsCell all (found_from qualifier name place sources before)
from_found all pre qualifier name place [] before p e g = g
from_found all pre qualifier name place (source ∷ rest) before p e g = from_found all (pre ++ kinds source.columns) qualifier name (behind place (length source.columns)) rest (match_of qualifier name place source before) next
    (trans split (sym (append_assoc pre (kinds source.columns) (cells rest)))) (by_name (is_meant qualifier source.name))
  where
    split : all ≡ pre ++ (kinds source.columns ++ cells rest)
    split = trans e (ap (λ x. pre ++ x) (kinds_both source.columns (columns_in rest)))

    next : behind place (length source.columns) ≡ min (suc max_place) (length (pre ++ kinds source.columns))
    next = let l : length (pre ++ kinds source.columns) ≡ length pre + length (kinds source.columns) = length-append pre (kinds source.columns) in
        let k : length (kinds source.columns) ≡ length source.columns = length-map source.columns (λ column. column.kind) in omega (arith, p, l, k)

    by_name : (b : Bool) → IsCell all (if b then found_in name place source.columns before else before)
    by_name true = all_found all pre (cells rest) name place source.columns before p split g
    by_name false = g

pub column_found : (qualifier : Option (List ℕ)) (name : List ℕ) (sources : List TableSource) (found : Place) → column_of qualifier name sources ≡ Ok found → found.place ≤ max_place → slice_get (cells sources) found.place ≡ Some found.kind
column_found qualifier name sources found e = by_match (found_from qualifier name 0 sources matches.Nothing) (from_found (cells sources) [] qualifier name 0 sources matches.Nothing refl refl tt) e
  where
    by_match : (m : Matches) → IsCell (cells sources) m → the_one name m ≡ Ok found → found.place ≤ max_place → slice_get (cells sources) found.place ≡ Some found.kind
    by_match matches.Nothing h e = cc
    by_match (matches.One one) h e = let same : one ≡ found = cc in subst (λ f. f.place ≤ max_place → slice_get (cells sources) f.place ≡ Some f.kind) same h
    by_match matches.Several h e = cc

-- the width of tables is how many cells they have
pub width_cells : (sources : List TableSource) → width_of sources ≡ min (suc max_place) (length (cells sources))
width_cells sources = onto [] 0 sources refl
  where
    onto : (pre : List SqlType) (place : ℕ) (sources : List TableSource) → place ≡ min (suc max_place) (length pre) → width_onto place sources ≡ min (suc max_place) (length (pre ++ cells sources))
    onto pre place [] p = trans p (ap (λ xs. min (suc max_place) (length xs)) (sym (append-nil pre)))
    onto pre place (source ∷ rest) p = trans (onto (pre ++ kinds source.columns) (behind place (length source.columns)) rest next)
        (ap (λ xs. min (suc max_place) (length xs)) (trans (append_assoc pre (kinds source.columns) (cells rest)) (ap (λ x. pre ++ x) (sym (kinds_both source.columns (columns_in rest))))))
      where
        next : behind place (length source.columns) ≡ min (suc max_place) (length (pre ++ kinds source.columns))
        next = let l : length (pre ++ kinds source.columns) ≡ length pre + length (kinds source.columns) = length-append pre (kinds source.columns) in
            let k : length (kinds source.columns) ≡ length source.columns = length-map source.columns (λ column. column.kind) in omega (arith, p, l, k)

-- ---- types of columns

columns_sound : (sources : List TableSource) → AreSound sources → AllOf IsSound (columns_in sources)
columns_sound [] h = tt
columns_sound (source ∷ rest) h = all_of_both IsSound source.columns (columns_in rest) h.0.1 (columns_sound rest h.1)

kind_sound : (columns : List ColumnTree) (place : ℕ) (kind : SqlType) → AllOf IsSound columns → slice_get (kinds columns) place ≡ Some kind → is_kind kind ≡ true
kind_sound [] place kind h e = cc
kind_sound (column ∷ rest) zero kind h e = let same : column.kind ≡ kind = cc in subst (λ k. is_kind k ≡ true) same h.0.0
kind_sound (column ∷ rest) (suc place) kind h e = kind_sound rest place kind h.1 e

-- ---- names

module _ (definitions : List Definition) (vars : List Variable) where
  -- well formed over whatever it may read
  abbrev pub FormedAt : Context → Progress → TypedExpr → Type 0
  FormedAt at done a = (types : SettingTypes) → Reads definitions vars at done types → IsFormed types a

  abbrev pub FormedTestAt : Context → Progress → TypedTest → Type 0
  FormedTestAt at done a = (types : SettingTypes) → Reads definitions vars at done types → IsFormedTest types a

  pub lasts_formed : Lasts definitions vars FormedAt
  lasts_formed at inside mid new x g h types r = h types (reads_before definitions vars g r)

  pub lasts_formed_test : Lasts definitions vars FormedTestAt
  lasts_formed_test at inside mid new x g h types r = h types (reads_before definitions vars g r)

  -- what is outside a limit
  pub left_out_formed : (at : Context) (done : Progress) (kind : Option SqlType) → FormedAt at done (left_out kind)
  left_out_formed at done kind types r = outside_formed types (alone kind) null

  pub placed_formed : (types : SettingTypes) (place : ℕ) (kind : SqlType) (make : ℕ → BoundExpr) → (place ≤ max_place → found_of types (make place) ≡ typed kind) → is_kind kind ≡ true → IsFormed types (placed place kind make)
  placed_formed types place kind make h real = by_test (nat_le place max_place) refl
    where
      by_test : (b : Bool) → nat_le place max_place ≡ b → IsFormed types (if b then leaf kind (make place) else left_out (Some kind))
      by_test true e = leaf_formed types kind (make place) (h (leb-true place max_place e)) real
      by_test false e = outside_formed types (alone (Some kind)) null

  -- the cells of the tables come first
  pub row_front : (from : Option ℕ) (sources : List TableSource) (done : Progress) (row : List SqlType) → ReadsRow definitions vars from sources done.sums row → (more : List SqlType) × (row ≡ cells sources ++ more)
  row_front None sources done row h = h
  row_front (Some from) sources done row h = (sum_kinds done.sums ++ h.1.0, h.1.1)

  pub cell_formed : (at : Context) (done : Progress) (found : Place) → (found.place ≤ max_place → slice_get (cells at.sources) found.place ≡ Some found.kind) → FormedAt at done (cell found)
  cell_formed at done found h types r = by_place (nat_le found.place max_place) refl
    where
      front : (more : List SqlType) × (types.row ≡ cells at.sources ++ more)
      front = row_front at.sums_from at.sources done types.row r.row

      here : found.place ≤ max_place → found_of types (bound.Cell found.place) ≡ typed found.kind
      here le = trans (found_cell types found.place) (ap found_at (trans (ap (λ row. slice_get row found.place) front.1) (at_front (cells at.sources) front.0 found.place found.kind (h le))))

      by_place : (b : Bool) → nat_le found.place max_place ≡ b → IsFormed types (if b then leaf found.kind (bound.Cell found.place) else left_out (Some found.kind))
      by_place true e = let le : found.place ≤ max_place = leb-true found.place max_place e in leaf_formed types found.kind (bound.Cell found.place) (here le) (kind_sound (columns_in at.sources) found.place found.kind (columns_sound at.sources r.sound) (h le))
      by_place false e = outside_formed types (alone (Some found.kind)) null

  pub column_binds : (qualifier : Option (List ℕ)) (name : List ℕ) → Binds definitions vars FormedAt nothing (column qualifier name)
  column_binds qualifier name = binds_given definitions vars FormedAt (column_in qualifier name) (λ at done x. of_found at done x (column_of qualifier name at.sources) refl)
    where
      of_found : (at : Context) (done : Progress) (x : TypedExpr) (found : Outcome Place) → column_of qualifier name at.sources ≡ found → after found (λ f. Ok (cell f)) ≡ Ok x → FormedAt at done x
      of_found at done x (Ok found) e d = let same : cell found ≡ x = cc in subst (FormedAt at done) same (cell_formed at done found (column_found qualifier name at.sources found e))
      of_found at done x (Err refusal) e d = cc

  kind_formed : (at : Context) (done : Progress) (name : List ℕ) (place : ℕ) (variable : Variable) → slice_get vars place ≡ Some variable → FormedAt at done (variable_of_kind name place variable.kind)
  kind_formed at done name place variable e types r = by_test ((is_long name || nat_le max_variables place) || not (is_kind variable.kind)) refl
    where
      is_one : (k : Bool) → not k ≡ false → k ≡ true
      is_one true d = refl
      is_one false d = cc

      by_test : (b : Bool) → ((is_long name || nat_le max_variables place) || not (is_kind variable.kind)) ≡ b → IsFormed types (if b then left_out (Some variable.kind) else leaf variable.kind (bound.Variable place))
      by_test true d = outside_formed types (alone (Some variable.kind)) null
      by_test false d = leaf_formed types variable.kind (bound.Variable place) (trans (found_variable types place) (ap found_at (trans (ap (λ xs. slice_get xs place) r.variables) (at_map (λ of. of.kind) vars place variable e))))
          (is_one (is_kind variable.kind) (or_parts (is_long name || nat_le max_variables place) (not (is_kind variable.kind)) d).1)

  variable_at_formed : (at : Context) (done : Progress) (name : List ℕ) (place : ℕ) → FormedAt at done (variable_at vars name place (slice_get vars place))
  variable_at_formed at done name place = of_found (slice_get vars place) refl
    where
      of_found : (found : Option Variable) → slice_get vars place ≡ found → FormedAt at done (variable_at vars name place found)
      of_found None e = left_out_formed at done None
      of_found (Some variable) e = kind_formed at done name place variable e

  pub variable_formed : (at : Context) (done : Progress) (name : List ℕ) (x : TypedExpr) → variable_of vars name ≡ Ok x → FormedAt at done x
  variable_formed at done name x = of_place (place_of name vars)
    where
      of_place : (place : Option ℕ) → variable_from vars name place ≡ Ok x → FormedAt at done x
      of_place None e = cc
      of_place (Some place) e = let same : variable_at vars name place (slice_get vars place) ≡ x = cc in subst (FormedAt at done) same (variable_at_formed at done name place)

  pub variable_binds : (name : List ℕ) → Binds definitions vars FormedAt nothing (variable vars name)
  variable_binds name = binds_given definitions vars FormedAt (λ at. variable_in vars at name) (λ at done x. by_row at done x at.row_alone)
    where
      by_row : (at : Context) (done : Progress) (x : TypedExpr) (b : Bool) → (if b then Ok (left_out None) else variable_of vars name) ≡ Ok x → FormedAt at done x
      by_row at done x true e = let same : left_out None ≡ x = cc in subst (FormedAt at done) same (left_out_formed at done None)
      by_row at done x false e = variable_formed at done name x e

  system_found : (of : SystemValue) → slice_get system_kinds (system_place of) ≡ Some (system_kind of)
  system_found system.TranCount = refl
  system_found system.Error = refl
  system_found system.RowCount = refl
  system_found system.FetchStatus = refl
  system_found system.XactState = refl
  system_found system.ErrorNumber = refl
  system_found system.ErrorSeverity = refl
  system_found system.ErrorState = refl
  system_found system.ErrorLine = refl
  system_found system.ErrorMessage = refl
  system_found system.ErrorProcedure = refl

  system_real : (of : SystemValue) → is_kind (system_kind of) ≡ true
  system_real system.TranCount = refl
  system_real system.Error = refl
  system_real system.RowCount = refl
  system_real system.FetchStatus = refl
  system_real system.XactState = refl
  system_real system.ErrorNumber = refl
  system_real system.ErrorSeverity = refl
  system_real system.ErrorState = refl
  system_real system.ErrorLine = refl
  system_real system.ErrorMessage = refl
  system_real system.ErrorProcedure = refl

  session_formed : (at : Context) (done : Progress) (of : SystemValue) → FormedAt at done (session_value of)
  session_formed at done of types r = leaf_formed types (system_kind of) (bound.System of)
      (trans (found_system types of) (ap found_at (trans (ap (λ xs. slice_get xs (system_place of)) r.session) (system_found of)))) (system_real of)

  server_text_formed : (at : Context) (done : Progress) (size : ℕ) (text : List ℕ) → FormedAt at done (server_text size text)
  server_text_formed at done size text types r = cast_formed types (NText size) (text_expr text) (text_formed types text)

  system_formed : (at : Context) (done : Progress) (word : SystemWord) → FormedAt at done (system_node word)
  system_formed at done word.TranCount = session_formed at done system.TranCount
  system_formed at done word.Error = session_formed at done system.Error
  system_formed at done word.RowCount = session_formed at done system.RowCount
  system_formed at done word.FetchStatus = session_formed at done system.FetchStatus
  system_formed at done word.XactState = session_formed at done system.XactState
  system_formed at done word.ErrorNumber = session_formed at done system.ErrorNumber
  system_formed at done word.ErrorSeverity = session_formed at done system.ErrorSeverity
  system_formed at done word.ErrorState = session_formed at done system.ErrorState
  system_formed at done word.ErrorLine = session_formed at done system.ErrorLine
  system_formed at done word.ErrorMessage = session_formed at done system.ErrorMessage
  system_formed at done word.ErrorProcedure = session_formed at done system.ErrorProcedure
  system_formed at done word.Version = server_text_formed at done version_size version_text
  system_formed at done word.ServerName = server_text_formed at done name_size server_name
  system_formed at done word.MaxPrecision = λ types r. cast_formed types TinyInt (number_expr most_digits) (number_formed types most_digits refl)
  system_formed at done word.SchemaName = server_text_formed at done name_size schema_name
  system_formed at done word.DatabaseName = server_text_formed at done name_size database_name
  system_formed at done word.UserName = server_text_formed at done name_size user_name

  pub system_binds : (word : SystemWord) → Binds definitions vars FormedAt nothing (system_expr word)
  system_binds word at done calm = (grows_not definitions vars at done calm, by_row at.row_alone)
    where
      by_row : (b : Bool) → FormedAt at done (if b then left_out (system_node word).facts.kind else system_node word)
      by_row true = left_out_formed at done (system_node word).facts.kind
      by_row false = system_formed at done word

  -- ---- inner queries

  -- what a select is bound to is a well-formed query, whose rows have its items, which can be sent, unless something is outside a limit
  abbrev pub GoodSelected : Selected → Type 0
  GoodSelected s = s.beyond ≡ false → ((query_found (tables_in definitions) (variable_kinds vars) s.query).0 ≡ true) × ((query_found (tables_in definitions) (variable_kinds vars) s.query).1 ≡ items_kinds (items_of s.query)) × AllOf IsFit (items_of s.query) × (s.assigns ≡ false → length (items_of s.query) ≤ max_columns)

  abbrev pub GoodSelect : Outcome Selected → Type 0
  GoodSelect (Ok s) = GoodSelected s
  GoodSelect (Err refusal) = Unit {0}

  abbrev inner_of : Selected → Bool → InnerQuery
  inner_of s single = roll-InnerQuery (record { query = s.query; single = single })

  inner_is : (s : Selected) (single : Bool) → inner_found (tables_in definitions) (variable_kinds vars) (inner_of s single) ≡ query_found (tables_in definitions) (variable_kinds vars) s.query
  inner_is s single = fold-roll-InnerQuery QueryFound QueryFound (query_step (tables_in definitions) (variable_kinds vars)) (inner_step (tables_in definitions) (variable_kinds vars)) (record { query = s.query; single = single })

  -- nothing is outside a limit of what it is made of
  calm_inner : (s : Selected) (single : Bool) (done : Progress) → (with_inner s single done).beyond ≡ false → (done.beyond ≡ false) × (s.beyond ≡ false) × (length (items_of s.query) == 0 ≡ false)
  calm_inner s single done e =
      let outer : (((done.beyond || s.beyond) || s.assigns) ≡ false) × (length (items_of s.query) == 0 ≡ false) = or_parts _ _ e in
      let both : ((done.beyond || s.beyond) ≡ false) × (s.assigns ≡ false) = or_parts _ _ outer.0 in
      let one : (done.beyond ≡ false) × (s.beyond ≡ false) = or_parts _ _ both.0 in
      (one.0, one.1, outer.1)

  pub grows_inner : (s : Selected) (single : Bool) (at : Context) (done : Progress) → GoodSelected s → (with_inner s single done).beyond ≡ false → Grows definitions vars at an_inner_query done (with_inner s single done)
  grows_inner s single at done h calm = record {
    calm = (calm_inner s single done calm).0;
    first = refl;
    more_inner = inner_of s single ∷ [];
    inner = refl;
    inner_formed = (trans (ap (λ f. f.0) (inner_is s single)) (h (calm_inner s single done calm).1).0, tt);
    inner_count = λ e. refl;
    counted = counted;
    more_sums = [];
    sums = sym (append-nil done.sums);
    sums_formed = tt;
    sums_none = λ e. refl;
    sums_only = λ e. refl;
  }
    where
      counted : (done.count + 1 ≤ min (suc max_inner) (done.count + suc s.count)) ⊎ (max_inner < min (suc max_inner) (done.count + suc s.count))
      counted = by_size (nat_le (done.count + suc s.count) max_inner) refl
        where
          by_size : (b : Bool) → nat_le (done.count + suc s.count) max_inner ≡ b → (done.count + 1 ≤ min (suc max_inner) (done.count + suc s.count)) ⊎ (max_inner < min (suc max_inner) (done.count + suc s.count))
          by_size true e = inl (omega (arith, leb-true (done.count + suc s.count) max_inner e))
          by_size false e = inr (omega (arith, leb-false (done.count + suc s.count) max_inner e))

  -- a row alone reads no inner query
  grows_alone : (at : Context) (done : Progress) → at.row_alone ≡ true → done.beyond ≡ false → Grows definitions vars at an_inner_query done done
  grows_alone at done alone calm = record {
    calm = calm;
    first = refl;
    more_inner = [];
    inner = sym (append-nil done.inner);
    inner_formed = tt;
    inner_count = λ e. cc;
    counted = inl (omega arith);
    more_sums = [];
    sums = sym (append-nil done.sums);
    sums_formed = tt;
    sums_none = λ e. refl;
    sums_only = λ e. refl;
  }

  -- an inner query that was gathered stands at its place
  inner_at : (first : ℕ) (inner : List InnerQuery) (one : InnerQuery) (all : List (List SqlType)) → ReadsInner definitions vars first (inner ++ one ∷ []) all → slice_get all (first + length inner) ≡ Some ((inner_found (tables_in definitions) (variable_kinds vars) one).1)
  inner_at first inner one all h = subst (λ xs. slice_get xs (first + length inner) ≡ Some ((inner_found (tables_in definitions) (variable_kinds vars) one).1)) (sym split)
      (subst (λ i. slice_get ((h.0 ++ inner_kinds definitions vars inner) ++ ((inner_found (tables_in definitions) (variable_kinds vars) one).1 ∷ h.1)) i ≡ Some ((inner_found (tables_in definitions) (variable_kinds vars) one).1)) size
      (at_middle (h.0 ++ inner_kinds definitions vars inner) ((inner_found (tables_in definitions) (variable_kinds vars) one).1) h.1))
    where
      split : all ≡ (h.0 ++ inner_kinds definitions vars inner) ++ ((inner_found (tables_in definitions) (variable_kinds vars) one).1 ∷ h.1)
      split = trans h.3 (trans (ap (λ x. h.0 ++ x) (trans (ap (λ x. x ++ h.1) (map-append (λ q. (inner_found (tables_in definitions) (variable_kinds vars) q).1) inner (one ∷ [])))
          (append_assoc (inner_kinds definitions vars inner) ((inner_found (tables_in definitions) (variable_kinds vars) one).1 ∷ []) h.1)))
          (sym (append_assoc h.0 (inner_kinds definitions vars inner) ((inner_found (tables_in definitions) (variable_kinds vars) one).1 ∷ h.1))))

      size : length (h.0 ++ inner_kinds definitions vars inner) ≡ first + length inner
      size = let l : length (h.0 ++ inner_kinds definitions vars inner) ≡ length h.0 + length (inner_kinds definitions vars inner) = length-append h.0 (inner_kinds definitions vars inner) in
          let k : length (inner_kinds definitions vars inner) ≡ length inner = length-map inner (λ q. (inner_found (tables_in definitions) (variable_kinds vars) q).1) in
          let f : length h.0 ≡ first = h.2 in omega (arith, l, k, f)

  -- the columns of the inner query that was gathered last
  last_inner : (s : Selected) (single : Bool) (at : Context) (done : Progress) (types : SettingTypes) → GoodSelected s → s.beyond ≡ false → Reads definitions vars at (with_inner s single done) types → inner_place done ≤ max_place
      → slice_get types.inner (inner_place done) ≡ Some (items_kinds (items_of s.query))
  last_inner s single at done types h calm r le =
      let place : inner_place done ≡ done.first + length done.inner = omega (arith, le) in
      subst (λ i. slice_get types.inner i ≡ Some (items_kinds (items_of s.query))) (sym place)
      (trans (inner_at done.first done.inner (inner_of s single) types.inner r.inner) (ap Some (trans (ap (λ f. f.1) (inner_is s single)) (h calm).1)))

  -- its one column
  only_real : (items : List Item) (kind : SqlType) → only_kind items ≡ Ok kind → AllOf IsFit items → is_kind kind ≡ true
  only_real [] kind e h = let same : Int ≡ kind = cc in subst (λ k. is_kind k ≡ true) same refl
  only_real (item ∷ []) kind e h = let same : item.kind ≡ kind = cc in subst (λ k. is_kind k ≡ true) same h.0.0
  only_real (item ∷ other ∷ rest) kind e h = cc

  only_column : (items : List Item) (kind : SqlType) → only_kind items ≡ Ok kind → length items == 0 ≡ false → column_kind (Some (items_kinds items)) ≡ Some kind
  only_column [] kind e n = cc
  only_column (item ∷ []) kind e n = let same : item.kind ≡ kind = cc in ap Some same
  only_column (item ∷ other ∷ rest) kind e n = cc

  pub scalar_binds : (select : Outcome Selected) → GoodSelect select → Binds definitions vars FormedAt an_inner_query (scalar select)
  scalar_binds select h at done = by_row at.row_alone refl
    where
      of_kind : (s : Selected) (kind : Outcome SqlType) → only_kind (items_of s.query) ≡ kind → GoodSelected s → Bound definitions vars FormedAt an_inner_query at done (after kind (scalar_from s done))
      of_kind s (Err refusal) e h = tt
      of_kind s (Ok kind) e h = λ calm. (
        grows_inner s true at done h calm,
        λ types r. placed_formed types (inner_place done) kind bound.Scalar (λ le. trans (found_scalar types (inner_place done))
            (ap found_at (trans (ap column_kind (last_inner s true at done types h (calm_inner s true done calm).1 r le)) (only_column (items_of s.query) kind e (calm_inner s true done calm).2)))) (only_real (items_of s.query) kind e (h (calm_inner s true done calm).1).2),
      )

      of_select : (o : Outcome Selected) → GoodSelect o → Bound definitions vars FormedAt an_inner_query at done (after o (λ s. scalar_with s done))
      of_select (Ok s) h = of_kind s (only_kind (items_of s.query)) refl h
      of_select (Err refusal) h = tt

      by_row : (b : Bool) → at.row_alone ≡ b → Bound definitions vars FormedAt an_inner_query at done (if b then Ok (left_out None, done) else after select (λ s. scalar_with s done))
      by_row true e = λ calm. (grows_alone at done e calm, left_out_formed at done None)
      by_row false e = of_select select h

  test_left_out_formed : (at : Context) (done : Progress) → FormedTestAt at done test_left_out
  test_left_out_formed at done types r = test_formed types (outside no_facts) (test.IsNull null) (λ le. absurd (omega (arith, le)))

  test_placed_formed : (types : SettingTypes) (place : ℕ) (of : TypedTest) → (place ≤ max_place → IsFormedTest types of) → IsFormedTest types (test_placed place of)
  test_placed_formed types place of h = by_test (nat_le place max_place) refl
    where
      by_test : (b : Bool) → nat_le place max_place ≡ b → IsFormedTest types (if b then of else test_left_out)
      by_test true e = h (leb-true place max_place e)
      by_test false e = test_formed types (outside no_facts) (test.IsNull null) (λ le. absurd (omega (arith, le)))

  pub exists_binds : (select : Outcome Selected) → GoodSelect select → Binds definitions vars FormedTestAt an_inner_query (exists select)
  exists_binds select h at done = by_row at.row_alone refl
    where
      of_select : (o : Outcome Selected) → GoodSelect o → Bound definitions vars FormedTestAt an_inner_query at done (after o (λ s. Ok (exists_from s done)))
      of_select (Ok s) h = λ calm. (
        grows_inner s false at done h calm,
        λ types r. test_placed_formed types (inner_place done) (test_node no_facts (test.Exists (inner_place done)))
            (λ le. test_formed types no_facts (test.Exists (inner_place done)) (λ d. trans (test_exists types (inner_place done)) (ap is_some (last_inner s false at done types h (calm_inner s false done calm).1 r le)))),
      )
      of_select (Err refusal) h = tt

      by_row : (b : Bool) → at.row_alone ≡ b → Bound definitions vars FormedTestAt an_inner_query at done (if b then Ok (test_left_out, done) else after select (λ s. Ok (exists_from s done)))
      by_row true e = λ calm. (grows_alone at done e calm, test_left_out_formed at done)
      by_row false e = of_select select h

  pub in_query_leads : (select : Outcome Selected) → GoodSelect select → Leads definitions vars FormedAt FormedTestAt an_inner_query (in_query select)
  in_query_leads select h a at done g = by_row at.row_alone refl
    where
      of_kind : (s : Selected) (kind : Outcome SqlType) → only_kind (items_of s.query) ≡ kind → GoodSelected s → Bound definitions vars FormedTestAt an_inner_query at done (after kind (in_query_from a s done))
      of_kind s (Err refusal) e h = tt
      of_kind s (Ok kind) e h = λ calm. (
        grows_inner s false at done h calm,
        λ types r. test_placed_formed types (inner_place done) (in_query_test a kind (inner_place done))
            (λ le. test_formed types a.facts (test.InQuery (side_kind a.facts.kind) a.expr kind (inner_place done)) (λ d. trans (test_in_query types (side_kind a.facts.kind) a.expr kind (inner_place done))
            (and_from _ _ (as_side a.facts.kind (found_of types a.expr) (g (calm_inner s false done calm).0 types (reads_before definitions vars (grows_inner s false at done h calm) r) d).0)
            (trans (ap (is_column kind) (trans (ap column_kind (last_inner s false at done types h (calm_inner s false done calm).1 r le)) (only_column (items_of s.query) kind e (calm_inner s false done calm).2))) (same_self kind))))),
      )

      of_select : (o : Outcome Selected) → GoodSelect o → Bound definitions vars FormedTestAt an_inner_query at done (after o (λ s. in_query_with a s done))
      of_select (Ok s) h = of_kind s (only_kind (items_of s.query)) refl h
      of_select (Err refusal) h = tt

      by_row : (b : Bool) → at.row_alone ≡ b → Bound definitions vars FormedTestAt an_inner_query at done (if b then Ok (test_left_out, done) else after select (λ s. in_query_with a s done))
      by_row true e = λ calm. (grows_alone at done e calm, test_left_out_formed at done)
      by_row false e = of_select select h
