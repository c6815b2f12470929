-- The work of DROP and EXEC, which look one name up, and of CREATE TRIGGER, which looks its table up: within their transaction.
use Rattle.std.proofs.Common.{ℕ, List, [], Option, None, Some, Result}
use Rattle.tsql_tree.specs.declared.definition.Definition.{Definition}
use Rattle.tsql_tree.specs.declared.definition.Definition.TheVariants.{Table, Procedure, Trigger}
use Rattle.tsql_tree.specs.declared.definition.TriggerTree.{TriggerTree}
use Rattle.tsql_tree.specs.declared.statement.Argument.{Argument}
use Rattle.tsql_tree.specs.declared.statement.DropKind.{DropKind}
use Rattle.tsql_tree.specs.declared.statement.Statement.{Statement}
use Rattle.value_types.specs.Units.{same_units}
use Rattle.table_rows.specs.Definitions.{is_objects}
use Rattle.clause_binder.specs.Scope.{is_long}
use Rattle.step_model.specs.declared.op.Op.{Op}
use Rattle.step_model.specs.Dialog.{IsQuiet}
use Rattle.statement_paths.specs.Asked.{IsFetch}
use Rattle.batch_meaning.specs.declared.failure.Failure.{Failure}
use Rattle.batch_meaning.specs.Asking.{◌>>=◌, comes_to, fails, fails_naming, finds_by, look_up}
use Rattle.batch_meaning.specs.Calls.{Call, call_over}
use Rattle.batch_meaning.specs.Changing.{object_present, unknown_table}
use Rattle.batch_meaning.specs.Doing.{Doing, reads}
use Rattle.batch_meaning.specs.Progress.{SessionProgress, SessionStep}
use Rattle.batch_meaning.specs.Raised.{Around}
use Rattle.batch_meaning.specs.Selecting.{Effect, bound_over}
use Rattle.batch_meaning.specs.Values.{outside_limits}
use Rattle.batch_meaning.specs.Working.{known_by}
use Rattle.batch_meaning.specs.Writes.{creates, drops_found, puts_definition, unless_objects, where_table}
use Rattle.statement_paths.proofs.Only.{IsTouch, Only, only_bind, only_comes, only_if, only_naming}
use Rattle.statement_paths.proofs.Still.{Reads}
use Rattle.statement_paths.proofs.Looking.{finds_read, look_reads}
use Rattle.statement_paths.proofs.Works.{IsWorkStep, Works, creates_works, drop_works, reads_work}

-- what a DROP of this name does
abbrev pub dropping : Around → Statement → DropKind → List ℕ → Doing (Result Effect Failure)
dropping around statement kind name = do
  found ← finds_by (known_by around statement name) name
  of ← (reads λ p. comes_to (bound_over [] p.vars statement))
  drops_found around kind name found

pub dropping_works : (around : Around) (p0 : SessionProgress) (statement : Statement) (kind : DropKind) (name : List ℕ) → Works (dropping around statement kind name)
dropping_works around p0 statement kind name =
    only_bind IsWorkStep IsQuiet (finds_by (known_by around statement name) name) _ (reads_work (finds_by (known_by around statement name) name) (finds_read (known_by around statement name) name)) (λ found.
    only_bind IsWorkStep IsQuiet (reads λ p. comes_to (bound_over [] p.vars statement)) _ (λ p. only_comes IsWorkStep IsQuiet (bound_over [] p.vars statement)) (λ of. drop_works around p0 kind name found))

-- what an EXEC of this name finds
abbrev pub calling : Around → Statement → Option (List ℕ) → List ℕ → List Argument → Doing (Result Call Failure)
calling around statement status name arguments = do
  found ← finds_by (known_by around statement name) name
  of ← (reads λ p. comes_to (bound_over [] p.vars statement))
  reads λ p. comes_to (call_over around status name arguments p.vars found)

pub calling_reads : (around : Around) (statement : Statement) (status : Option (List ℕ)) (name : List ℕ) (arguments : List Argument) → Reads (calling around statement status name arguments)
calling_reads around statement status name arguments =
    only_bind IsTouch IsFetch (finds_by (known_by around statement name) name) _ (finds_read (known_by around statement name) name) (λ found.
    only_bind IsTouch IsFetch (reads λ p. comes_to (bound_over [] p.vars statement)) _ (λ p. only_comes IsTouch IsFetch (bound_over [] p.vars statement)) (λ of p. only_comes IsTouch IsFetch (call_over around status name arguments p.vars found)))

-- what CREATE TRIGGER does
abbrev pub putting_trigger : TriggerTree → List ℕ → Doing (Result Effect Failure)
putting_trigger trigger text = look_up trigger.table >>= where_table trigger.table (puts_definition (is_long trigger.name) trigger.name (creates trigger.name text))

pub trigger_only : (Steps : SessionStep → Type 0) (Ops : Op → Type 0) (trigger : TriggerTree) (text : List ℕ) → Only Steps Ops (look_up trigger.table) → Only Steps Ops (creates trigger.name text) → Only Steps Ops (putting_trigger trigger text)
trigger_only Steps Ops trigger text looks creates_so = only_bind Steps Ops (look_up trigger.table) (where_table trigger.table put) looks by_found
  where
    put : Doing (Result Effect Failure)
    put = puts_definition (is_long trigger.name) trigger.name (creates trigger.name text)

    put_only : Only Steps Ops put
    put_only = only_if Steps Ops (is_long trigger.name) (fails outside_limits) (unless_objects trigger.name (creates trigger.name text)) tt
        (only_if Steps Ops (is_objects trigger.name) (fails_naming object_present trigger.name) (creates trigger.name text) (only_naming Steps Ops Effect object_present trigger.name) creates_so)

    none_only : Only Steps Ops {A = Result Effect Failure} (fails_naming unknown_table trigger.table)
    none_only = only_naming Steps Ops Effect unknown_table trigger.table

    by_found : (found : Option Definition) → Only Steps Ops (where_table trigger.table put found)
    by_found None = none_only
    by_found (Some (Table table)) = only_if Steps Ops (same_units table.name trigger.table) put (fails_naming unknown_table trigger.table) put_only none_only
    by_found (Some (Procedure procedure)) = none_only
    by_found (Some (Trigger other)) = none_only

pub trigger_works : (trigger : TriggerTree) (text : List ℕ) → Works (putting_trigger trigger text)
trigger_works trigger text = trigger_only IsWorkStep IsQuiet trigger text (reads_work (look_up trigger.table) (look_reads trigger.table)) (creates_works trigger.name text)
