-- Transact-SQL reference, "FROM" and "Column name": what a name may mean. The tables of a FROM stand from left
-- to right, and so do their columns in a row. A name means the one column that has it, of the one table where a
-- table is named. Names are compared unit by unit.
use Rattle.std.specs.Prelude.{ℕ, suc, ◌+◌, ℤ, pos, Bool, true, false, ◌||◌, not, min, nat_lt, if◌then◌else◌, List, [], ◌∷◌, length, Option, Some, None, Ok, Err}
use Rattle.std.specs.List.{list_any, flat_map}
use Rattle.value_types.specs.Units.{same_units}
use Rattle.tsql_tree.specs.declared.definition.ColumnTree.{ColumnTree}
use Rattle.tsql_tree.specs.declared.definition.TableTree.{TableTree}
use Rattle.tsql_tree.specs.Places.{max_place}
use Rattle.tsql_tree.specs.declared.definition.Definition.{Definition}
use Rattle.tsql_tree.specs.declared.definition.Definition.TheVariants.{Table, Procedure, Trigger}
use Rattle.tsql_tree.specs.declared.query.TableRef.{TableRef}
use Rattle.typed_nodes.specs.Nodes.{is_kind}
use Rattle.typed_nodes.specs.Refusals.{Outcome}
use Rattle.clause_binder.specs.declared.scope.Found.{Found}
use Rattle.clause_binder.specs.declared.scope.Matches.{Matches}
use Rattle.clause_binder.specs.declared.scope.Matches.TheVariants as matches

-- ---- numbers of errors

abbrev pub invalid_column : ℤ
invalid_column = pos 207

abbrev pub invalid_object : ℤ
invalid_object = pos 208

abbrev pub ambiguous_column : ℤ
ambiguous_column = pos 209

abbrev pub undeclared_variable : ℤ
undeclared_variable = pos 137

abbrev pub syntax_error : ℤ
syntax_error = pos 102

abbrev pub several_items : ℤ
several_items = pos 116

abbrev pub not_grouped : ℤ
not_grouped = pos 8120

-- ---- limits (own)

-- units of a name
abbrev pub max_name : ℕ
max_name = 128

abbrev pub max_variables : ℕ
max_variables = 10000

abbrev pub max_references : ℕ
max_references = 8

abbrev pub max_columns : ℕ
max_columns = 64

abbrev pub max_sums : ℕ
max_sums = 10000

abbrev pub max_inner : ℕ
max_inner = 10000

abbrev pub is_long : List ℕ → Bool
is_long name = nat_lt max_name (length name)

-- ---- definitions

abbrev pub as_table : List ℕ → Definition → Option TableTree
as_table name (Table of) = if same_units name of.name then Some of else None
as_table name (Procedure of) = None
as_table name (Trigger of) = None

abbrev pub or_first : Option TableTree → Option TableTree → Option TableTree
or_first None b = b
or_first (Some a) b = Some a

-- the first table of that name
abbrev pub table_of : List ℕ → List Definition → Option TableTree
table_of name [] = None
table_of name (of ∷ rest) = or_first (as_table name of) (table_of name rest)

-- ---- sources

-- a table that is read: the name that it has in the query, and its columns
pub record TableSource : Type 0 where
  pub name : List ℕ
  pub columns : List ColumnTree

-- the name that is given, or its own
abbrev pub alias_or : Option (List ℕ) → List ℕ → List ℕ
alias_or None name = name
alias_or (Some alias) name = alias

abbrev pub alias_of : TableRef → List ℕ
alias_of of = alias_or of.alias of.name

abbrev pub columns_of : Option TableTree → List ColumnTree
columns_of None = []
columns_of (Some table) = table.columns

-- what is not defined has no columns; its name was refused before
abbrev pub source_of : List Definition → TableRef → TableSource
source_of definitions of = record { name = alias_of of; columns = columns_of (table_of of.name definitions) }

-- the place so far behind another
abbrev pub behind : ℕ → ℕ → ℕ
behind place count = min (suc max_place) (place + count)

abbrev pub width_onto : ℕ → List TableSource → ℕ
width_onto before [] = before
width_onto before (source ∷ rest) = width_onto (behind before (length source.columns)) rest

abbrev pub width_of : List TableSource → ℕ
width_of sources = width_onto 0 sources

-- ---- columns

-- a further column that is found
abbrev pub found_too : Matches → Found → Matches
found_too matches.Nothing found = matches.One found
found_too (matches.One first) found = matches.Several
found_too matches.Several found = matches.Several

abbrev pub found_at : List ℕ → ℕ → ColumnTree → Matches → Matches
found_at name place column before = if same_units name column.name then found_too before (record { place = place; kind = column.kind }) else before

-- what is found of the name in a table too, whose columns are counted from a place on
abbrev pub found_in : List ℕ → ℕ → List ColumnTree → Matches → Matches
found_in name place [] before = before
found_in name place (column ∷ rest) before = found_in name (behind place 1) rest (found_at name place column before)

abbrev pub is_meant : Option (List ℕ) → List ℕ → Bool
is_meant None source = true
is_meant (Some qualifier) source = same_units qualifier source

abbrev pub found_of : Option (List ℕ) → List ℕ → ℕ → TableSource → Matches → Matches
found_of qualifier name place source before = if is_meant qualifier source.name then found_in name place source.columns before else before

-- what is found of the name in all tables
abbrev pub found_from : Option (List ℕ) → List ℕ → ℕ → List TableSource → Matches → Matches
found_from qualifier name place [] before = before
found_from qualifier name place (source ∷ rest) before = found_from qualifier name (behind place (length source.columns)) rest
    (found_of qualifier name place source before)

-- exactly one is meant
abbrev pub the_one : List ℕ → Matches → Outcome Found
the_one name matches.Nothing = Err (invalid_column, name)
the_one name (matches.One found) = Ok found
the_one name matches.Several = Err (ambiguous_column, name)

abbrev pub column_of : Option (List ℕ) → List ℕ → List TableSource → Outcome Found
column_of qualifier name sources = the_one name (found_from qualifier name 0 sources matches.Nothing)

-- ---- aliases

-- whether an item has that alias
abbrev pub has_name : List ℕ → Option (List ℕ) → Bool
has_name name None = false
has_name name (Some alias) = same_units name alias

-- ---- rows of a FROM

abbrev pub columns_in : List TableSource → List ColumnTree
columns_in sources = flat_map (λ source. source.columns) sources

-- the name of the column at a place
abbrev pub name_at : Option ColumnTree → List ℕ
name_at None = []
name_at (Some column) = column.name

-- two tables of one name
abbrev pub has_twice : List TableSource → Bool
has_twice [] = false
has_twice (source ∷ rest) = list_any (λ other. same_units source.name other.name) rest || has_twice rest

-- a column that no table may have
abbrev pub is_odd_column : ColumnTree → Bool
is_odd_column column = is_long column.name || not (is_kind column.kind)

-- a table of more columns than an answer may have, or with one that no table may have
abbrev pub is_odd_source : TableSource → Bool
is_odd_source source = nat_lt max_columns (length source.columns) || list_any is_odd_column source.columns

-- more tables than a query may read, one that no table may be, or two of one name
abbrev pub are_beyond : List TableSource → Bool
are_beyond sources = if nat_lt max_references (length sources) then true else (list_any is_odd_source sources || has_twice sources)
