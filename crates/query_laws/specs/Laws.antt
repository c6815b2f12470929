-- The laws: what a select is bound to is well formed, and what a well-formed query answers is of its items' types; so
-- what a select answers is.
use Rattle.std.specs.Prelude.{◌≡◌, ◌≤◌, length, true, false, IsTrue, List, [], ◌∷◌, All, Ok}
use Rattle.value_types.specs.declared.sql_type.SqlType.{SqlType}
use Rattle.value_types.specs.declared.table_name.TableName.{TableName}
use Rattle.value_types.specs.declared.value.Value.{Value}
use Rattle.value_types.specs.Types.{IsOf}
use Rattle.session_vars.specs.declared.Variable.{Variable}
use Rattle.session_vars.specs.Variables.{HasItsType}
use Rattle.tsql_tree.specs.declared.definition.Definition.{Definition}
use Rattle.tsql_tree.specs.declared.query.Select.{Select}
use Rattle.bound_tree.specs.declared.query.BoundQuery.{BoundQuery}
use Rattle.bound_tree.specs.declared.query.Item.{Item}
use Rattle.typed_nodes.specs.Nodes.{is_kind}
use Rattle.clause_binder.specs.Scope.{max_columns, max_name}
use Rattle.clause_binder.specs.Operands.{items_of}
use Rattle.bound_tree.specs.declared.query.Reference.{Reference}
use Rattle.bound_tree.specs.Typed.{AreOf, system_kinds}
use Rattle.join_rows.specs.Joined.{Row}
use Rattle.scalar_eval.specs.Scopes.{values_of}
use Rattle.clause_binder.specs.declared.operand.Selected.{Selected}
use Rattle.clause_binder.specs.Bind.{query_of}
use Rattle.query_eval.specs.Joining.{image_of, images_behind}
use Rattle.query_eval.specs.Ans.{Ans, references_of}
use Rattle.query_laws.specs.Formed.{is_formed_query, items_kinds}
use Rattle.query_laws.specs.Columns.{tables_in, variable_kinds}

-- ---- binding

-- each of a list
abbrev pub AllOf : {A : Type 0} → (A → Type 0) → List A → Type 0
AllOf P [] = Unit {0}
AllOf P (x ∷ rest) = P x × AllOf P rest

-- the item has a type that there is, and a name that is not too long
abbrev pub IsFit : Item → Type 0
IsFit item = (is_kind item.kind ≡ true) × (length item.name ≤ max_name)

-- Unless something is outside a limit, for which the statement is refused. What is assigned to variables is no
-- answer, so it has no limit of columns.
abbrev pub SelectFormed : Type 0
SelectFormed = (definitions : List Definition) (vars : List Variable) (select : Select) (selected : Selected) → query_of definitions vars select ≡ Ok selected → selected.beyond ≡ false
    → IsTrue (is_formed_query (tables_in definitions) (variable_kinds vars) selected.query) × AllOf IsFit (items_of selected.query) × (selected.assigns ≡ false → length (items_of selected.query) ≤ max_columns)

-- ---- answers

-- a value for each type, of it, and no more
abbrev pub AreExactly : List SqlType → List Value → Type 0
AreExactly [] [] = Unit {0}
AreExactly [] (x ∷ xs) = ⊥
AreExactly (kind ∷ kinds) [] = ⊥
AreExactly (kind ∷ kinds) (x ∷ xs) = IsOf kind x × AreExactly kinds xs

abbrev pub RowsOf : List SqlType → List Row → Type 0
RowsOf kinds rows = AllOf (AreExactly kinds) rows

-- an image for each reference, with rows of its table
abbrev pub ImagesOf : (TableName → List SqlType) → List Reference → List (List Row) → Type 0
ImagesOf tables [] images = Unit {0}
ImagesOf tables (ref ∷ refs) images = RowsOf (tables ref.table) (image_of images) × ImagesOf tables refs (images_behind images)

-- the rows have a value for each item, of the item's type
abbrev pub AnswerTyped : Type 0
AnswerTyped = (tables : TableName → List SqlType) (kinds_of_vars : List SqlType) (vars system : List Value) → AreOf kinds_of_vars vars → AreOf system_kinds system
    → (query : BoundQuery) (images : List (List Row)) (rows : List Row) → IsTrue (is_formed_query tables kinds_of_vars query) → ImagesOf tables (references_of query) images
    → Ans vars system query images ≡ Ok rows → RowsOf (items_kinds (items_of query)) rows

-- so have those of what a select is bound to, over the definitions and the variables that it was bound over
abbrev pub SelectTyped : Type 0
SelectTyped = (definitions : List Definition) (vars : List Variable) (select : Select) (selected : Selected) → query_of definitions vars select ≡ Ok selected → selected.beyond ≡ false
    → All HasItsType vars → (system : List Value) → AreOf system_kinds system → (images : List (List Row)) (rows : List Row) → ImagesOf (tables_in definitions) (references_of selected.query) images
    → Ans (values_of vars) system selected.query images ≡ Ok rows → RowsOf (items_kinds (items_of selected.query)) rows
