-- Transact-SQL reference, "CREATE TABLE": what is refused. A constraint's columns are the table's; a FOREIGN KEY refers to its
-- parent's PRIMARY KEY, in its order and by columns of the same types. The constraints come by kind, PRIMARY KEY,
-- UNIQUE, CHECK and FOREIGN KEY, each kind in the order of the text (own); limits come last.
use Rattle.std.specs.Prelude.{ℕ, Bool, true, false, ◌&&◌, ◌||◌, ◌==◌, not, nat_eq, nat_lt, if◌then◌else◌, List, [], ◌∷◌, ◌++◌, length, map, Option, Some, None, Ok, Err}
use Rattle.std.specs.List.{list_any}
use Rattle.std.specs.Cmp.Lexicographic.{pointwise}
use Rattle.value_types.specs.Units.{same_units}
use Rattle.value_types.specs.declared.sql_type.SqlType.{SqlType}
use Rattle.session_vars.specs.declared.Variable.{Variable}
use Rattle.tsql_tree.specs.declared.definition.CheckTree.{CheckTree}
use Rattle.tsql_tree.specs.declared.definition.ColumnTree.{ColumnTree}
use Rattle.tsql_tree.specs.declared.definition.Definition.{Definition}
use Rattle.tsql_tree.specs.declared.definition.ForeignTree.{ForeignTree}
use Rattle.tsql_tree.specs.declared.definition.KeyTree.{KeyTree}
use Rattle.tsql_tree.specs.declared.definition.TableTree.{TableTree}
use Rattle.bound_tree.specs.declared.expr.BoundTest.{BoundTest}
use Rattle.bound_tree.specs.Kinds.{same_kind}
use Rattle.typed_nodes.specs.Nodes.{is_kind}
use Rattle.typed_nodes.specs.Refusals.{Outcome, after}
use Rattle.clause_binder.specs.declared.progress.Progress.{Progress}
use Rattle.clause_binder.specs.Scope.{columns_of, invalid_column, is_long, max_columns, table_of}
use Rattle.clause_binder.specs.Progress.{Binding, Context, and_then, begin_at, pure}
use Rattle.binder.specs.Limits.{is_beyond}
use Rattle.binder.specs.Writes.{is_repeated, test_whole}

-- ---- CHECK

-- a CHECK names nothing but the columns of its row
abbrev pub row_context : TableTree → Context
row_context table = record {
  sources = record { name = table.name; columns = table.columns } ∷ [];
  groups = [];
  sums_from = None;
  row_alone = true;
}

-- CHECKs, behind others
abbrev pub checks_onto : List Definition → List Variable → List BoundTest → List CheckTree → Binding (List BoundTest)
checks_onto definitions vars before [] = pure before
checks_onto definitions vars before (check ∷ rest) = and_then (test_whole definitions vars check.test)
    (λ a. checks_onto definitions vars (before ++ a ∷ []) rest)

-- a table's CHECKs, and whether one is outside a limit
abbrev pub checks_of : TableTree → Outcome (List BoundTest × Progress)
checks_of table = checks_onto [] [] [] table.checks (row_context table) (begin_at 0)

-- ---- columns of constraints

-- each of the names is a column's, else the first that is none is refused
abbrev pub has_column : List ColumnTree → List ℕ → Bool
has_column columns name = list_any (λ column. same_units name column.name) columns

abbrev pub all_columns : List ColumnTree → List (List ℕ) → Outcome (Unit {0})
all_columns columns [] = Ok tt
all_columns columns (name ∷ rest) = if has_column columns name then all_columns columns rest else Err (invalid_column, name)

abbrev pub all_keys : List ColumnTree → List KeyTree → Outcome (Unit {0})
all_keys columns [] = Ok tt
all_keys columns (key ∷ rest) = after (all_columns columns key.columns) (λ known. all_keys columns rest)

-- a table may be its own parent
abbrev pub parent_of : List Definition → TableTree → ForeignTree → Option TableTree
parent_of definitions table foreign = if same_units foreign.parent table.name then Some table else table_of foreign.parent definitions

-- the columns that refer, then those that are referred to
abbrev pub foreign_columns : List Definition → TableTree → ForeignTree → Outcome (Unit {0})
foreign_columns definitions table foreign = after (all_columns table.columns foreign.columns)
    (λ known. all_columns (columns_of (parent_of definitions table foreign)) foreign.parent_columns)

abbrev pub all_foreigns : List Definition → TableTree → List ForeignTree → Outcome (Unit {0})
all_foreigns definitions table [] = Ok tt
all_foreigns definitions table (foreign ∷ rest) = after (foreign_columns definitions table foreign) (λ known. all_foreigns definitions table rest)

-- ---- FOREIGN KEY

-- the columns of the first key: a table that stands has one
abbrev pub first_columns : List KeyTree → List (List ℕ)
first_columns [] = []
first_columns (key ∷ rest) = key.columns

abbrev pub key_columns : Option TableTree → List (List ℕ)
key_columns None = []
key_columns (Some table) = first_columns table.key

-- none are written, or those of the key in its order
abbrev pub is_key : List (List ℕ) → List (List ℕ) → Bool
is_key names key = (length names == 0) || pointwise same_units names key

abbrev pub kind_named : List ColumnTree → List ℕ → Option SqlType
kind_named [] name = None
kind_named (column ∷ rest) name = if same_units name column.name then Some column.kind else kind_named rest name

abbrev pub same_found : Option SqlType → Option SqlType → Bool
same_found (Some a) (Some b) = same_kind a b
same_found (Some a) None = false
same_found None b = false

-- as many columns, each of the type of the one at its place
abbrev pub kinds_agree : List ColumnTree → List (List ℕ) → List ColumnTree → List (List ℕ) → Bool
kinds_agree columns names others key = pointwise (λ a b. same_found (kind_named columns a) (kind_named others b)) names key

abbrev pub refers_to : Option TableTree → TableTree → ForeignTree → Bool
refers_to parent table foreign = is_key foreign.parent_columns (key_columns parent)
    && kinds_agree table.columns foreign.columns (columns_of parent) (key_columns parent)

-- ---- limits

abbrev pub max_constraints : ℕ
max_constraints = 64

-- columns of a PRIMARY KEY or a UNIQUE
abbrev pub max_key : ℕ
max_key = 4

abbrev pub column_names : List ColumnTree → List (List ℕ)
column_names columns = map (λ column. column.name) columns

abbrev pub constraint_names : TableTree → List (List ℕ)
constraint_names table = map (λ key. key.name) table.key ++ (map (λ key. key.name) table.uniques
    ++ (map (λ check. check.name) table.checks ++ map (λ foreign. foreign.name) table.foreigns))

abbrev pub is_odd_column : ColumnTree → Bool
is_odd_column column = is_long column.name || not (is_kind column.kind)

abbrev pub are_odd_columns : List ColumnTree → Bool
are_odd_columns columns = nat_lt max_columns (length columns) || (list_any is_odd_column columns || is_repeated (column_names columns))

-- so many names, of which one is too long or stands twice
abbrev pub are_odd_names : List (List ℕ) → Bool
are_odd_names names = nat_lt max_constraints (length names) || (list_any is_long names || is_repeated names)

abbrev pub is_odd_key : KeyTree → Bool
is_odd_key key = nat_lt max_key (length key.columns) || is_repeated key.columns

-- exactly one PRIMARY KEY
abbrev pub are_odd_keys : TableTree → Bool
are_odd_keys table = not (nat_eq (length table.key) 1) || (list_any is_odd_key table.key || list_any is_odd_key table.uniques)

abbrev pub is_odd_foreign : List Definition → TableTree → ForeignTree → Bool
is_odd_foreign definitions table foreign = not (refers_to (parent_of definitions table foreign) table foreign) || is_repeated foreign.columns

-- columns and constraints, their names and types, and the keys that are referred to
abbrev pub is_odd_table : List Definition → TableTree → Bool
is_odd_table definitions table = (is_long table.name || are_odd_columns table.columns)
    || ((are_odd_names (constraint_names table) || are_odd_keys table) || list_any (is_odd_foreign definitions table) table.foreigns)

-- ---- CREATE TABLE

-- whether something is outside a limit, where nothing else is refused
abbrev pub create_table : List Definition → TableTree → Outcome Bool
create_table definitions table =
    after (all_keys table.columns table.key) (λ keys.
    after (all_keys table.columns table.uniques) (λ uniques.
    after (checks_of table) (λ checks.
    after (all_foreigns definitions table table.foreigns) (λ foreigns.
    Ok (is_beyond checks.1 || is_odd_table definitions table)))))
