-- The tokens of what a SELECT answers have bytes: its values are of the types of its columns.
use Rattle.std.proofs.Common.{inl, inr, ◌≡◌, ℕ, pos, negsuc, ◌^◌, ◌<◌, ◌≤◌, ◌||◌, Bool, true, false, List, [], ◌∷◌, ◌++◌, length, map, Option, None, Some, Ok, Err, refl, sym, subst, nat_eq, ◌∙◌, arith, All, suc, ap, T, if◌then◌else◌}
use Rattle.std.specs.Prelude.{nat_le}
use Rattle.std.proofs.lemmas.Bool.{leb-true, le-leb, and_parts}
use Rattle.std.proofs.lemmas.List.Elements.{All-cons, All-nil}
use Rattle.value_types.specs.declared.sql_type.SqlType.{SqlType}
use Rattle.value_types.specs.declared.sql_type.SqlType.TheVariants.{TinyInt, SmallInt, Int, BigInt, Bit as BitType, NText}
use Rattle.value_types.specs.Types.{IsOf}
use Rattle.session_vars.specs.Variables.{HasItsType}
use Rattle.session_vars.specs.declared.Variable.{Variable}
use Rattle.bound_tree.specs.Typed.{AreOf, system_kinds}
use Rattle.tsql_tree.specs.declared.definition.Definition.{Definition}
use Rattle.tsql_tree.specs.declared.definition.Definition.TheVariants.{Table, Procedure, Trigger}
use Rattle.tsql_tree.specs.declared.query.Select.{Select}
use Rattle.tsql_tree.specs.declared.statement.Form.{Form-F}
use Rattle.tsql_tree.specs.declared.statement.Statement.{Statement}
use Rattle.bound_tree.specs.declared.query.BoundQuery.{BoundQuery}
use Rattle.bound_tree.specs.declared.query.Item.{Item}
use Rattle.bound_tree.specs.declared.query.Reference.{Reference}
use Rattle.bound_tree.specs.declared.write.Bound.{Bound}
use Rattle.bound_tree.specs.declared.write.Bound.TheVariants as bound
use Rattle.value_types.specs.declared.table_name.TableName.{TableName}
use Rattle.value_types.specs.Units.{same_units}
use Rattle.tsql_tree.specs.declared.definition.TableTree.{TableTree}
use Rattle.clause_binder.specs.Scope.{or_first, table_of}
use Rattle.table_rows.specs.Definitions.{tables_of}
use Rattle.table_rows.specs.Rows.{is_value_of, shape_of}
use Rattle.std.specs.Cmp.Lexicographic.{pointwise}
use Rattle.std.specs.Prelude.{IsTrue}
use Rattle.catalog_rows.proofs.Fitting.{image_typed, value_of_type}
use Rattle.typed_nodes.specs.Nodes.{is_kind}
use Rattle.typed_nodes.specs.Refusals.{Outcome, after}
use Rattle.clause_binder.specs.declared.operand.Selected.{Selected}
use Rattle.clause_binder.specs.Bind.{query_of}
use Rattle.clause_binder.specs.Operands.{items_of}
use Rattle.query_eval.specs.Ans.{Ans, references_of}
use Rattle.query_eval.specs.Given.{tables_read}
use Rattle.query_laws.specs.Columns.{tables_in}
use Rattle.query_laws.specs.Formed.{items_kinds}
use Rattle.query_laws.specs.Laws.{AllOf, AreExactly, ImagesOf, IsFit as IsNamed, RowsOf}
use Rattle.query_laws.proofs.Laws.{select_formed, select_typed}
use Rattle.binder.specs.Limits.{within_limits}
use Rattle.binder.specs.Names.{Layer, form_of}
use Rattle.binder.specs.Statements.{bind_form, select_made}
use Rattle.step_model.specs.Ranges.{Rows}
use Rattle.value_types.specs.declared.value.Value.{Value}
use Rattle.value_types.specs.declared.value.Value.TheVariants.{Null, Whole, Bit, Text}
use Rattle.tds_tokens.specs.declared.columns.ColumnInfo.{ColumnInfo}
use Rattle.tds_tokens.specs.Numbers.{command_select}
use Rattle.tds_tokens.specs.declared.token.DoneKind.{DoneKind}
use Rattle.tds_tokens.specs.declared.token.Token.{Token}
use Rattle.tds_tokens.specs.Fit.{FitsType, FitsKind, FitsColumns, FitTokens}
use Rattle.batch_meaning.specs.Progress.{SessionProgress, system_in, values_of}
use Rattle.batch_meaning.specs.Raised.{Around}
use Rattle.batch_meaning.specs.Selecting.{bound_as, bound_over, columns_of}
use Rattle.session_state.specs.Sendable.{IsFit, IsResult}
use Rattle.statement_exec.specs.Selected.{AreKept, ImagesFit, IsAnswer, IsBoundOver, IsReadAnswer, IsSelect, IsSelectForm, are_typed}
use Rattle.batch_meaning.specs.Tokens.{row_tokens, result_tokens, statement_done}
use Rattle.session_state.proofs.Fitting.{told_fit}

-- ---- values

pub value_fits : (kind : SqlType) (value : Value) → is_kind kind ≡ true → IsOf kind value → FitsType kind value
value_fits kind Null real of = tt
value_fits TinyInt (Whole (pos n)) real of = let most : n ≤ 255 = leb-true n 255 (and_parts (nat_le 0 n) (nat_le n 255) of).1 in (record { le = subst T (sym (le-leb 0 n (omega arith))) tt }, record { le = subst T (sym (le-leb n 255 most)) tt })
value_fits TinyInt (Whole (negsuc n)) real of = absurd cc
value_fits SmallInt (Whole (pos n)) real of = let most : n ≤ 32767 = leb-true n 32767 of in record { sfits = omega arith }
value_fits SmallInt (Whole (negsuc n)) real of = let most : n ≤ 32767 = leb-true n 32767 (and_parts (nat_le n 32767) true of).0 in record { sfits = omega arith }
value_fits Int (Whole (pos n)) real of = let most : n ≤ 2147483647 = leb-true n 2147483647 of in record { sfits = omega arith }
value_fits Int (Whole (negsuc n)) real of = let most : n ≤ 2147483647 = leb-true n 2147483647 (and_parts (nat_le n 2147483647) true of).0 in record { sfits = omega arith }
value_fits BigInt (Whole (pos n)) real of = let most : n ≤ 9223372036854775807 = leb-true n 9223372036854775807 of in record { sfits = omega arith }
value_fits BigInt (Whole (negsuc n)) real of = let most : n ≤ 9223372036854775807 = leb-true n 9223372036854775807 (and_parts (nat_le n 9223372036854775807) true of).0 in record { sfits = omega arith }
value_fits BitType (Bit bit) real of = tt
value_fits (NText size) (Text units) real of =
    let small : size ≤ 4000 = leb-true size 4000 (and_parts (nat_le 1 size) (nat_le size 4000) real).1 in (of, omega (arith, small, of))
value_fits BitType (Whole number) real of = absurd cc
value_fits (NText size) (Whole number) real of = absurd cc
value_fits kind value real of = absurd of

pub kind_fits : (kind : SqlType) → is_kind kind ≡ true → FitsKind kind
kind_fits (NText size) real = let small : size ≤ 4000 = leb-true size 4000 (and_parts (nat_le 1 size) (nat_le size 4000) real).1 in omega (arith, small)
kind_fits kind real = tt

-- ---- results

abbrev column_of : Item → ColumnInfo
column_of item = record { kind = item.kind; name = item.name }

abbrev FitsColumn : ColumnInfo → Type 0
FitsColumn column = FitsKind column.kind × (length column.name < 2 ^ 8)

columns_fit : (items : List Item) → AllOf IsNamed items → All FitsColumn (map column_of items)
columns_fit [] fit = All-nil FitsColumn
columns_fit (item ∷ items) fit = All-cons FitsColumn (column_of item) (map column_of items) (kind_fits item.kind fit.0.0, (let short : length item.name ≤ 128 = fit.0.1 in omega (arith, short))) (columns_fit items fit.1)

row_fits : (items : List Item) (row : List Value) → AllOf IsNamed items → AreExactly (items_kinds items) row → FitsColumns (map column_of items) row
row_fits [] [] fit are = tt
row_fits [] (value ∷ values) fit are = absurd are
row_fits (item ∷ items) [] fit are = absurd are
row_fits (item ∷ items) (value ∷ values) fit are = (value_fits item.kind value fit.0.0 are.0, row_fits items values fit.1 are.1)

rows_fit : (items : List Item) (rows : List (List Value)) (behind : List Token) → AllOf IsNamed items → RowsOf (items_kinds items) rows → FitTokens (map column_of items) behind → FitTokens (map column_of items) (row_tokens rows ++ behind)
unfolding FitTokens
rows_fit items [] behind fit are fits = fits
rows_fit items (row ∷ rows) behind fit are fits = (row_fits items row fit are.0, rows_fit items rows behind fit are.1 fits)

columns_many : (items : List Item) → length (map column_of items) ≡ length items
columns_many [] = refl
columns_many (item ∷ items) = ap suc (columns_many items)

-- a result whose rows are of its items' types
result_fits : (kind : DoneKind) (no_count : Bool) (items : List Item) (rows : List (List Value)) → AllOf IsNamed items → length items ≤ 64 → RowsOf (items_kinds items) rows → IsFit (result_tokens kind no_count (map column_of items) rows)
unfolding FitTokens
result_fits kind no_count items rows fit few are = λ columns.
    ((let same : length (map column_of items) ≡ length items = columns_many items in omega (arith, same, few), columns_fit items fit), rows_fit items rows (statement_done kind no_count command_select (length rows) ∷ []) fit are (told_fit kind no_count command_select (length rows) (map column_of items)))

-- ---- rows that were looked at

no_value : {A : Type 0} → IsTrue false → A
no_value h = absurd (let no : false ≡ true = h in cc)

row_typed : (items : List Item) (row : List Value) → IsTrue (pointwise (λ item value. is_value_of item.kind value) items row) → AreExactly (items_kinds items) row
row_typed [] [] h = tt
row_typed [] (value ∷ row) h = no_value h
row_typed (item ∷ items) [] h = no_value h
row_typed (item ∷ items) (value ∷ row) h =
    let parts = and_parts (is_value_of item.kind value) (pointwise (λ item value. is_value_of item.kind value) items row) h in
    ((value_of_type item.kind value).0 parts.0, row_typed items row parts.1)

rows_typed : (items : List Item) (rows : Rows) → IsTrue (are_typed items rows) → RowsOf (items_kinds items) rows
rows_typed items [] h = tt
rows_typed items (row ∷ rows) h =
    let parts = and_parts (pointwise (λ item value. is_value_of item.kind value) items row) (are_typed items rows) h in
    (row_typed items row parts.0, rows_typed items rows parts.1)

-- ---- what a SELECT is bound to

-- what was made of it, where nothing is outside a limit
made_query : (beyond outside assigns : Bool) (q : BoundQuery) (places : List ℕ) (query : BoundQuery)
    → bound_as (within_limits (beyond || outside) (if assigns then bound.Assign q places else bound.Query q)) ≡ Ok (bound.Query query) → (beyond ≡ false) × (assigns ≡ false) × (q ≡ query)
made_query true outside assigns q places query is = absurd cc
made_query false true assigns q places query is = absurd cc
made_query false false true q places query is = absurd cc
made_query false false false q places query is = (refl, refl, (let same : q ≡ query = cc in same))

-- the select of a statement, and what it is bound to
pub record BoundSelect (definitions : List Definition) (vars : List Variable) (query : BoundQuery) : Type 0 where
  pub select : Select
  pub selected : Selected
  pub is : query_of definitions vars select ≡ Ok selected
  pub within : selected.beyond ≡ false
  pub plain : selected.assigns ≡ false
  pub same : selected.query ≡ query

behind_select : (definitions : List Definition) (vars : List Variable) (select : Select) (query : BoundQuery) (outcome : Outcome Selected) → query_of definitions vars select ≡ outcome
    → bound_as (after (after outcome (λ s. Ok (select_made s))) (λ made. within_limits (made.beyond || false) made.bound)) ≡ Ok (bound.Query query) → BoundSelect definitions vars query
behind_select definitions vars select query (Ok s) of is =
    let parts = made_query s.beyond false s.assigns s.query s.places query is in
    record { select = select; selected = s; is = of; within = parts.0; plain = parts.1; same = parts.2 }
behind_select definitions vars select query (Err refusal) of is = absurd cc

behind_tables : (definitions : List Definition) (vars : List Variable) (select : Select) (query : BoundQuery) (known : Outcome (Unit {0}))
    → bound_as (after known (λ known. after (after (query_of definitions vars select) (λ s. Ok (select_made s))) (λ made. within_limits (made.beyond || false) made.bound))) ≡ Ok (bound.Query query) → BoundSelect definitions vars query
behind_tables definitions vars select query (Ok known) is = behind_select definitions vars select query (query_of definitions vars select) refl is
behind_tables definitions vars select query (Err refusal) is = absurd cc

by_form : (definitions : List Definition) (vars : List Variable) (query : BoundQuery) (form : Layer) → IsSelectForm form → bound_as (bind_form definitions vars form) ≡ Ok (bound.Query query) → BoundSelect definitions vars query
by_form definitions vars query (Form-F.Select select) selects is = behind_tables definitions vars select query _ is
by_form definitions vars query form selects is = absurd selects

pub bound_select : (definitions : List Definition) (vars : List Variable) (statement : Statement) (query : BoundQuery) → IsSelect statement → bound_over definitions vars statement ≡ Ok (bound.Query query) → BoundSelect definitions vars query
bound_select definitions vars statement query selects is = by_form definitions vars query (form_of statement) selects is

-- ---- what it answers

-- a table by its name, among definitions and among their tables
no_part : (table : TableName) (shapes : List TableTree) → nat_eq table.part 0 ≡ false → shape_of table shapes ≡ None
no_part table [] other = refl
no_part table (shape ∷ shapes) other = rw other (no_part table shapes other)

first_named : (here : Bool) (first : TableTree) (later named : Option TableTree) (shape : TableTree) → (later ≡ Some shape → named ≡ Some shape)
    → (if here then Some first else later) ≡ Some shape → or_first (if here then Some first else None) named ≡ Some shape
first_named true first later named shape goes is = is
first_named false first later named shape goes is = goes is

rows_named : (definitions : List Definition) (table : TableName) (shape : TableTree) → nat_eq table.part 0 ≡ true → shape_of table (tables_of definitions) ≡ Some shape → table_of table.object definitions ≡ Some shape
rows_named [] table shape own is = absurd cc
rows_named (Table first ∷ definitions) table shape own is =
    first_named (same_units table.object first.name) first (shape_of table (tables_of definitions)) (table_of table.object definitions) shape (rows_named definitions table shape own) (rw own at is)
rows_named (Procedure procedure ∷ definitions) table shape own is = rows_named definitions table shape own is
rows_named (Trigger trigger ∷ definitions) table shape own is = rows_named definitions table shape own is

table_named : (definitions : List Definition) (table : TableName) (shape : TableTree) → shape_of table (tables_of definitions) ≡ Some shape → table_of table.object definitions ≡ Some shape
table_named definitions table shape is = by_part (nat_eq table.part 0) refl
  where
    by_part : (own : Bool) → nat_eq table.part 0 ≡ own → table_of table.object definitions ≡ Some shape
    by_part true own = rows_named definitions table shape own is
    by_part false own = absurd (let none : shape_of table (tables_of definitions) ≡ None = no_part table (tables_of definitions) own in cc)

-- rows that were kept are of their table's types
kept_typed : (definitions : List Definition) (table : TableName) (rows : Rows) → AreKept (shape_of table (tables_of definitions)) rows → RowsOf (tables_in definitions table) rows
kept_typed definitions table rows are = by_shape (shape_of table (tables_of definitions)) refl are
  where
    by_shape : (shape : Option TableTree) → shape_of table (tables_of definitions) ≡ shape → AreKept shape rows → RowsOf (tables_in definitions table) rows
    by_shape None is kept = subst (λ (r : Rows). RowsOf (tables_in definitions table) r) (sym kept) tt
    by_shape (Some shape) is kept = image_typed definitions table shape rows (table_named definitions table shape is) kept

-- the images of its references are those of the tables that are read
images_typed : (definitions : List Definition) (refs : List Reference) (images : List Rows) → ImagesFit (tables_of definitions) (map (λ ref. ref.table) refs) images → ImagesOf (tables_in definitions) refs images
images_typed definitions [] images fit = tt
images_typed definitions (ref ∷ refs) [] fit = absurd fit
images_typed definitions (ref ∷ refs) (rows ∷ images) fit = (kept_typed definitions ref.table rows fit.0, images_typed definitions refs images fit.1)

no_images : (tables : TableName → List SqlType) (refs : List Reference) → ImagesOf tables refs []
no_images tables [] = tt
no_images tables (ref ∷ refs) = (tt, no_images tables refs)

query_typed : (definitions : List Definition) (vars : List Variable) (system : List Value) (query : BoundQuery) (images : List Rows) (rows : List (List Value)) → All HasItsType vars → AreOf system_kinds system
    → BoundSelect definitions vars query → ImagesOf (tables_in definitions) (references_of query) images → Ans (values_of vars) system query images ≡ Ok rows → RowsOf (items_kinds (items_of query)) rows
query_typed definitions vars system query images rows vars_typed system_typed b typed_images answers =
    let same : b.selected.query ≡ query = b.same in
    let typed = select_typed definitions vars b.select b.selected b.is b.within vars_typed system system_typed images rows
    (subst (λ (q : BoundQuery). ImagesOf (tables_in definitions) (references_of q) images) (sym same) typed_images)
    (subst (λ (q : BoundQuery). Ans (values_of vars) system q images ≡ Ok rows) (sym same) answers) in
    subst (λ (q : BoundQuery). RowsOf (items_kinds (items_of q)) rows) same typed

query_fits : (kind : DoneKind) (no_count : Bool) (definitions : List Definition) (vars : List Variable) (query : BoundQuery) (rows : List (List Value)) → BoundSelect definitions vars query → RowsOf (items_kinds (items_of query)) rows → IsResult kind no_count (columns_of query) rows
query_fits kind no_count definitions vars query rows b typed =
    let formed = select_formed definitions vars b.select b.selected b.is b.within in
    let same : b.selected.query ≡ query = b.same in
    subst (λ (q : BoundQuery). IsResult kind no_count (columns_of q) rows) same
    (result_fits kind no_count (items_of b.selected.query) rows formed.1 (formed.2 b.plain) (subst (λ (q : BoundQuery). RowsOf (items_kinds (items_of q)) rows) (sym same) typed))

module _ (around : Around) (p : SessionProgress) (vars : List Variable) (shapes : List TableTree) (statement : Statement) (of : Bound) (query : BoundQuery) (rows : Rows) where
  answer_bound : (over : IsBoundOver shapes vars statement of) → p.vars ≡ vars → IsSelect statement → of ≡ bound.Query query → BoundSelect over.0 p.vars query
  answer_bound over same selects is =
      let bound_to : bound_over over.0 p.vars statement ≡ Ok (bound.Query query) = subst (λ (v : List Variable). bound_over over.0 v statement ≡ Ok (bound.Query query)) (sym same) (over.2 ∙ ap Ok is) in
      bound_select over.0 p.vars statement query selects bound_to

  -- its rows are of its items' types, where its images fit
  read_typed : IsBoundOver shapes vars statement of → p.vars ≡ vars → IsSelect statement → of ≡ bound.Query query → IsReadAnswer around p shapes query rows → RowsOf (items_kinds (items_of query)) rows
  read_typed over same selects is answer = by_shapes shapes refl
    where
      definitions : List Definition
      definitions = over.0

      typed_on : ImagesOf (tables_in definitions) (references_of query) answer.images → RowsOf (items_kinds (items_of query)) rows
      typed_on typed = query_typed definitions p.vars (system_in around p) query answer.images rows answer.vars answer.system (answer_bound over same selects is) typed answer.answers

      by_shapes : (given : List TableTree) → shapes ≡ given → RowsOf (items_kinds (items_of query)) rows
      by_shapes [] none = typed_on (subst (λ (images : List Rows). ImagesOf (tables_in definitions) (references_of query) images) (sym (answer.none none)) (no_images (tables_in definitions) (references_of query)))
      by_shapes (shape ∷ others) some = typed_on (images_typed definitions (references_of query) answer.images (subst (λ (s : List TableTree). ImagesFit s (tables_read query) answer.images) over.1 (answer.fit (λ (none : shapes ≡ []). let no : shape ∷ others ≡ [] = sym some ∙ none in absurd cc))))

  -- or where they were looked at
  pub answer_typed : IsBoundOver shapes vars statement of → p.vars ≡ vars → IsSelect statement → of ≡ bound.Query query → IsAnswer around p shapes query rows → RowsOf (items_kinds (items_of query)) rows
  answer_typed over same selects is (inl read) = read_typed over same selects is read
  answer_typed over same selects is (inr typed) = rows_typed (items_of query) rows typed

-- so they can be sent
pub answer_fits : (kind : DoneKind) (no_count : Bool) (around : Around) (p : SessionProgress) (vars : List Variable) (shapes : List TableTree) (statement : Statement) (of : Bound) (query : BoundQuery) (rows : Rows)
    → IsBoundOver shapes vars statement of → p.vars ≡ vars → IsSelect statement → of ≡ bound.Query query → IsAnswer around p shapes query rows → IsResult kind no_count (columns_of query) rows
answer_fits kind no_count around p vars shapes statement of query rows over same selects is answer =
    query_fits kind no_count over.0 p.vars query rows (answer_bound around p vars shapes statement of query rows over same selects is) (answer_typed around p vars shapes statement of query rows over same selects is answer)
