-- Transact-SQL reference (expressions, search conditions, CREATE TABLE), own names of constraints:
-- how the trees of a production's parts make its tree, where that is more than one constructor.
use Rattle.std.specs.Prelude.{ℕ, zero, suc, ◌-◌, Bool, false, List, [], ◌∷◌, ◌++◌, take, drop, Option, Some, None, codes, decimal}
use Rattle.tsql_tree.specs.declared.query.Expr.{Expr}
use Rattle.tsql_tree.specs.declared.query.Expr.TheVariants as expr
use Rattle.tsql_tree.specs.declared.query.Factor.{Factor}
use Rattle.tsql_tree.specs.declared.query.Term.{Term}
use Rattle.tsql_tree.specs.declared.query.Test.{Test}
use Rattle.tsql_tree.specs.declared.query.Test.TheVariants as test
use Rattle.tsql_tree.specs.declared.query.AddSign.{AddSign}
use Rattle.tsql_tree.specs.declared.statement.Statement.{Statement, roll-Statement}
use Rattle.tsql_tree.specs.declared.statement.Form.{Form}
use Rattle.tsql_tree.specs.declared.definition.TableTree.{TableTree}
use Rattle.tsql_tree.specs.declared.definition.ColumnTree.{ColumnTree}
use Rattle.tsql_tree.specs.declared.definition.KeyTree.{KeyTree}
use Rattle.tsql_tree.specs.declared.definition.CheckTree.{CheckTree}
use Rattle.tsql_tree.specs.declared.definition.ForeignTree.{ForeignTree}
use Rattle.tsql_grammar.specs.Terminals.{Terminal, line}

-- signs before an operand; an operand without any is itself
abbrev pub with_signs : List AddSign → Expr → Expr
with_signs [] operand = operand
with_signs (sign ∷ more) operand = expr.Signed (sign ∷ more) operand

-- operands joined from the left; a chain of one is that one
abbrev pub product : Expr → List Factor → Expr
product first [] = first
product first (second ∷ more) = expr.Product first (second ∷ more)

abbrev pub sum : Expr → List Term → Expr
sum first [] = first
sum first (second ∷ more) = expr.Sum first (second ∷ more)

-- tests joined by AND, and by OR; a chain of one is that one
abbrev pub all_of : Test → List Test → Test
all_of first [] = first
all_of first (second ∷ more) = test.And first (second ∷ more)

abbrev pub any_of : Test → List Test → Test
any_of first [] = first
any_of first (second ∷ more) = test.Or first (second ∷ more)

-- so many NOTs before a test
abbrev pub with_nots : ℕ → Test → Test
with_nots zero inner = inner
with_nots (suc n) inner = test.Not (suc n) inner

-- a statement begins at the line of its first lexeme
abbrev pub statement : Terminal → Form → Statement
statement first form = roll-Statement (record { line = line first; form = form })

-- the units of a text from a place to another
abbrev pub slice : List ℕ → ℕ → ℕ → List ℕ
slice text from to = take (to - from) (drop from text)

-- A table while its elements are read, and how many of its constraints had no name so far.
pub record Draft : Type 0 where
  pub table : TableTree
  pub uniques : ℕ
  pub checks : ℕ
  pub foreigns : ℕ

-- the draft of a table without elements
abbrev pub empty_draft : List ℕ → Draft
empty_draft name = record {
  table = record { name = name; columns = []; key = []; uniques = []; checks = []; foreigns = [] };
  uniques = 0;
  checks = 0;
  foreigns = 0;
}

-- the name that is written, or the one that is given: a prefix, the table, and a number
abbrev pub given_name : List ℕ → List ℕ → ℕ → List ℕ
given_name prefix table n = prefix ++ table ++ codes "_" ++ decimal (suc n)

abbrev pub named : Option (List ℕ) → List ℕ → List ℕ
named None given = given
named (Some name) given = name

abbrev pub counted : Option (List ℕ) → ℕ → ℕ
counted None n = suc n
counted (Some name) n = n

abbrev pub add_column : ColumnTree → Draft → Draft
add_column column d = record d { table = record d.table { columns = d.table.columns ++ column ∷ [] } }

abbrev pub add_key : List (List ℕ) → Option (List ℕ) → Draft → Draft
add_key columns name d =
    let key : KeyTree = record { name = named name (codes "PK_" ++ d.table.name); columns = columns } in
    record d { table = record d.table { key = d.table.key ++ key ∷ [] } }

abbrev pub add_unique : List (List ℕ) → Option (List ℕ) → Draft → Draft
add_unique columns name d =
    let unique : KeyTree = record { name = named name (given_name (codes "UQ_") d.table.name d.uniques); columns = columns } in
    record d { table = record d.table { uniques = d.table.uniques ++ unique ∷ [] }; uniques = counted name d.uniques }

abbrev pub add_check : Test → Option (List ℕ) → Draft → Draft
add_check of name d =
    let check : CheckTree = record { name = named name (given_name (codes "CK_") d.table.name d.checks); test = of } in
    record d { table = record d.table { checks = d.table.checks ++ check ∷ [] }; checks = counted name d.checks }

abbrev pub add_foreign : List (List ℕ) → List ℕ → List (List ℕ) → Option (List ℕ) → Draft → Draft
add_foreign columns parent parent_columns name d =
    let foreign : ForeignTree = record { name = named name (given_name (codes "FK_") d.table.name d.foreigns); columns = columns; parent = parent; parent_columns = parent_columns } in
    record d { table = record d.table { foreigns = d.table.foreigns ++ foreign ∷ [] }; foreigns = counted name d.foreigns }

-- What follows the type of a column: whether NOT NULL stands, and the constraints of the column.
pub record Traits : Type 0 where
  pub required : Bool
  pub add : List ℕ → Draft → Draft

abbrev pub no_traits : Traits
no_traits = record { required = false; add = λ column d. d }

-- a constraint before the traits behind it
abbrev pub constrained : (List ℕ → Draft → Draft) → Traits → Traits
constrained first rest = record { required = rest.required; add = λ column d. rest.add column (first column d) }
