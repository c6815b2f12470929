-- The law of names: each table that a bound select reads, in its inner queries too, is one that its text names. So where
-- all names of a text are those of tables, no reference is to a table that isn't there.
use Rattle.std.specs.Prelude.{◌≡◌, ℕ, true, List, is_some, Ok}
use Rattle.session_vars.specs.declared.Variable.{Variable}
use Rattle.tsql_tree.specs.declared.definition.Definition.{Definition}
use Rattle.tsql_tree.specs.declared.query.Select.{Select}
use Rattle.bound_tree.specs.declared.query.Reference.{Reference}
use Rattle.table_names.specs.Contents.{in_select, is_among}
use Rattle.clause_binder.specs.declared.operand.Selected.{Selected}
use Rattle.clause_binder.specs.Bind.{query_of}
use Rattle.clause_binder.specs.Scope.{table_of}
use Rattle.query_eval.specs.Ans.{references_of}
use Rattle.query_laws.specs.Laws.{AllOf}

-- a table itself, of one of the names
abbrev pub IsNamed : List (List ℕ) → Reference → Type 0
IsNamed names ref = (is_among ref.table.object names ≡ true) × (ref.table.part ≡ 0)

abbrev pub IsDefined : List Definition → List ℕ → Type 0
IsDefined definitions name = is_some (table_of name definitions) ≡ true

-- each reference is to a table that the select names; and where all that it names are defined, to one that is defined
abbrev pub TablesNamed : Type 0
TablesNamed = (definitions : List Definition) (vars : List Variable) (select : Select) (selected : Selected) → query_of definitions vars select ≡ Ok selected
    → AllOf (IsNamed (in_select select)) (references_of selected.query)
    × (AllOf (IsDefined definitions) (in_select select) → AllOf (λ ref. IsDefined definitions ref.table.object) (references_of selected.query))
