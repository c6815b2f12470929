-- Own: what private contracts say of DROP.
use Rattle.std.specs.Prelude.{◌&&◌, ℕ, not, Bool, false, List, [], Option, Some, Result}
use Rattle.value_types.specs.Units.{same_units}
use Rattle.tsql_tree.specs.declared.definition.Definition.{Definition}
use Rattle.tsql_tree.specs.declared.definition.Definition.TheVariants.{Table, Procedure, Trigger}
use Rattle.tsql_tree.specs.declared.statement.DropKind.{DropKind}
use Rattle.tsql_tree.specs.declared.statement.DropKind.TheVariants as drop
use Rattle.tsql_tree.specs.declared.statement.Statement.{Statement}
use Rattle.batch_meaning.specs.declared.failure.Failure.{Failure}
use Rattle.batch_meaning.specs.Raised.{Around}
use Rattle.batch_meaning.specs.Changing.{refers}
use Rattle.batch_meaning.specs.Doing.{Doing, reads}
use Rattle.batch_meaning.specs.Selecting.{Effect, bound_over}
use Rattle.batch_meaning.specs.Asking.{◌>>=◌, comes_to, finds_by}
use Rattle.batch_meaning.specs.Working.{known_by}
use Rattle.batch_meaning.specs.Writes.{drops_found}

-- what DROP asks behind the look-up
abbrev pub drops_bound : Around → Statement → DropKind → List ℕ → Option Definition → Doing (Result Effect Failure)
drops_bound around statement kind name found = do
  of ← (reads λ p. comes_to (bound_over [] p.vars statement))
  drops_found around kind name found

-- and within its transaction
abbrev pub drops_in : Around → Statement → DropKind → List ℕ → Doing (Result Effect Failure)
drops_in around statement kind name = do
  found ← finds_by (known_by around statement name) name
  drops_bound around statement kind name found

-- what was found has this name, and is of the kind
abbrev pub is_found : DropKind → List ℕ → Option Definition → Bool
is_found drop.Table name (Some (Table table)) = same_units table.name name
is_found drop.Procedure name (Some (Procedure procedure)) = same_units procedure.name name
is_found drop.Trigger name (Some (Trigger trigger)) = same_units trigger.name name
is_found kind name found = false

-- a definition is another table that refers to that of this name
abbrev pub refers_from : List ℕ → Definition → Bool
refers_from name (Table table) = not (same_units table.name name) && refers name table
refers_from name (Procedure procedure) = false
refers_from name (Trigger trigger) = false
