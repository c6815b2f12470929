-- A table whose CREATE TABLE is bound is sound: what is not is outside a limit.
use Rattle.std.proofs.lemmas.Bool.{or_parts, ltb-false}
use Rattle.std.proofs.Common.{◌≡◌, refl, sym, subst, ℕ, List, [], ◌∷◌, Bool, true, false, ◌||◌, not, nat_lt, length, Ok, Err}
use Rattle.std.specs.List.{list_any}
use Rattle.session_vars.specs.declared.Variable.{Variable}
use Rattle.tsql_tree.specs.declared.definition.ColumnTree.{ColumnTree}
use Rattle.tsql_tree.specs.declared.definition.Definition.{Definition}
use Rattle.tsql_tree.specs.declared.definition.TableTree.{TableTree}
use Rattle.tsql_tree.specs.declared.statement.Form.{Form-F}
use Rattle.bound_tree.specs.declared.write.Bound.{Bound}
use Rattle.typed_nodes.specs.Nodes.{is_kind}
use Rattle.typed_nodes.specs.Refusals.{Outcome, after}
use Rattle.clause_binder.specs.Scope.{is_long, max_columns, max_name}
use Rattle.table_names.specs.Contents.{distinct_onto}
use Rattle.binder.specs.Limits.{is_beyond, within_limits}
use Rattle.binder.specs.Names.{all_tables, table_names}
use Rattle.binder.specs.Statements.{bind_form, names_outside, plain_made}
use Rattle.binder.specs.Tables.{all_foreigns, all_keys, are_odd_columns, are_odd_keys, are_odd_names, checks_of, column_names, constraint_names, create_table, is_odd_column, is_odd_foreign, is_odd_table}
use Rattle.binder.specs.Writes.{is_repeated}
use Rattle.query_laws.specs.Laws.{AllOf}
use Rattle.query_laws.specs.Parts.{IsSound}
use Rattle.binding_laws.specs.Laws.{IsSoundTable, TableCreated}

is_true : (b : Bool) → not b ≡ false → b ≡ true
is_true true e = refl
is_true false e = cc

-- none of the columns is odd, so each is sound
all_sound : (columns : List ColumnTree) → list_any is_odd_column columns ≡ false → AllOf IsSound columns
all_sound [] e = tt
all_sound (column ∷ rest) e =
    let each : (is_odd_column column ≡ false) × (list_any is_odd_column rest ≡ false) = or_parts (is_odd_column column) (list_any is_odd_column rest) e in
    let parts : (is_long column.name ≡ false) × (not (is_kind column.kind) ≡ false) = or_parts (is_long column.name) (not (is_kind column.kind)) each.0 in
    ((is_true (is_kind column.kind) parts.1, ltb-false max_name (length column.name) parts.0), all_sound rest each.1)

module _ (definitions : List Definition) (table : TableTree) where
  sound_where : is_odd_table definitions table ≡ false → IsSoundTable table
  sound_where e =
      let outer : ((is_long table.name || are_odd_columns table.columns) ≡ false) × (((are_odd_names (constraint_names table) || are_odd_keys table) || list_any (is_odd_foreign definitions table) table.foreigns) ≡ false) = or_parts _ _ e in
      let inner : (is_long table.name ≡ false) × (are_odd_columns table.columns ≡ false) = or_parts _ _ outer.0 in
      let few : (nat_lt max_columns (length table.columns) ≡ false) × ((list_any is_odd_column table.columns || is_repeated (column_names table.columns)) ≡ false) = or_parts _ _ inner.1 in
      let each : (list_any is_odd_column table.columns ≡ false) × (is_repeated (column_names table.columns) ≡ false) = or_parts _ _ few.1 in
      ((ltb-false max_columns (length table.columns) few.0, all_sound table.columns each.0), tt)

  -- nothing is outside a limit of what is sound alone
  abbrev Tells : Outcome Bool → Type 0
  Tells (Ok beyond) = beyond ≡ false → IsSoundTable table
  Tells (Err refusal) = Unit {0}

  tells_after : {A : Type 0} (o : Outcome A) (next : A → Outcome Bool) → ((x : A) → Tells (next x)) → Tells (after o next)
  tells_after (Ok x) next h = h x
  tells_after (Err refusal) next h = tt

  table_tells : Tells (create_table definitions table)
  table_tells = tells_after (all_keys table.columns table.key) _ (λ keys. tells_after (all_keys table.columns table.uniques) _ (λ uniques. tells_after (checks_of table) _ (λ checks. tells_after (all_foreigns definitions table table.foreigns) _
      (λ foreigns e. sound_where (or_parts (is_beyond checks.1) (is_odd_table definitions table) e).1))))

  module _ (vars : List Variable) (text : List ℕ) where
    abbrev Bounds : Outcome Bound → Type 0
    Bounds (Ok bound) = IsSoundTable table
    Bounds (Err refusal) = Unit {0}

    within : (beyond other : Bool) → (beyond ≡ false → IsSoundTable table) → Bounds (within_limits (beyond || other) (plain_made beyond).bound)
    within true other h = tt
    within false true h = tt
    within false false h = h refl

    form_bounds : Bounds (bind_form definitions vars (Form-F.CreateTable table text))
    form_bounds = of_tables (all_tables definitions (distinct_onto [] (table_names (Form-F.CreateTable table text))))
      where
        of_table : (o : Outcome Bool) → Tells o → Bounds (after (after o (λ beyond. Ok (plain_made beyond))) (λ made. within_limits (made.beyond || names_outside vars (Form-F.CreateTable table text)) made.bound))
        of_table (Ok beyond) h = within beyond (names_outside vars (Form-F.CreateTable table text)) h
        of_table (Err refusal) h = tt

        of_tables : (o : Outcome (Unit {0})) → Bounds (after o (λ known. after (after (create_table definitions table) (λ beyond. Ok (plain_made beyond))) (λ made. within_limits (made.beyond || names_outside vars (Form-F.CreateTable table text)) made.bound)))
        of_tables (Ok known) = of_table (create_table definitions table) table_tells
        of_tables (Err refusal) = tt

pub table_created : TableCreated
table_created definitions vars statement table text bound is e =
    subst (Bounds definitions table vars text) e (subst (λ form. Bounds definitions table vars text (bind_form definitions vars form)) (sym is) (form_bounds definitions table vars text))
