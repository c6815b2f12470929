-- The law of assignments: a select's items are assigned to variables that there are, each item to one where all are
-- assigned, as a text has it.
use Rattle.std.specs.Prelude.{◌≡◌, ◌<◌, Bool, true, false, List, length, Ok}
use Rattle.std.specs.List.{list_all}
use Rattle.session_vars.specs.declared.Variable.{Variable}
use Rattle.tsql_tree.specs.declared.definition.Definition.{Definition}
use Rattle.tsql_tree.specs.declared.query.Expr.{Expr}
use Rattle.tsql_tree.specs.declared.query.Expr.TheOpen.{Item-F}
use Rattle.tsql_tree.specs.declared.query.Arm.{Arm}
use Rattle.tsql_tree.specs.declared.query.Factor.{Factor}
use Rattle.tsql_tree.specs.declared.query.FromClause.{FromClause}
use Rattle.tsql_tree.specs.declared.query.Item.{Item, out-Item}
use Rattle.tsql_tree.specs.declared.query.Join.{Join}
use Rattle.tsql_tree.specs.declared.query.OrderItem.{OrderItem}
use Rattle.tsql_tree.specs.declared.query.Select.{Select, out-Select}
use Rattle.tsql_tree.specs.declared.query.Term.{Term}
use Rattle.tsql_tree.specs.declared.query.Test.{Test}
use Rattle.clause_binder.specs.declared.operand.Selected.{Selected}
use Rattle.clause_binder.specs.Operands.{items_of}
use Rattle.clause_binder.specs.Bind.{query_of}
use Rattle.query_laws.specs.Laws.{AllOf}

abbrev pub assigns : Item-F Expr Item Join Test Arm Factor FromClause OrderItem Select Term → Bool
assigns Item-F.All = false
assigns (Item-F.AllOf name) = false
assigns (Item-F.Assign name a) = true
assigns (Item-F.Value a alias) = false

abbrev pub all_assign : Select → Bool
all_assign select = list_all (λ item. assigns (out-Item item)) (out-Select select).items

-- unless something is outside a limit
abbrev pub PlacesFound : Type 0
PlacesFound = (definitions : List Definition) (vars : List Variable) (select : Select) (selected : Selected) → query_of definitions vars select ≡ Ok selected → selected.beyond ≡ false
    → AllOf (λ place. place < length vars) selected.places × (all_assign select ≡ true → length selected.places ≡ length (items_of selected.query))
