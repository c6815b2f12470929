-- Own: what private contracts say of statements on transactions, of forms, and of loops.
use Rattle.std.specs.Prelude.{◌≡◌, ◌⊎◌, ◌≤◌, ℕ, ℤ, pos, Bool, nat_lt, List, [], ◌∷◌, Option, None, Some, Result, Ok, Err, filter, if◌then◌else◌, map}
use Rattle.std.specs.List.{enumerate_from}
use Rattle.value_types.specs.declared.memory.Memory.{Memory}
use Rattle.value_types.specs.declared.value.Value.{Value}
use Rattle.session_vars.specs.Variables.{HasItsType}
use Rattle.session_vars.specs.declared.Variable.{Variable}
use Rattle.tds_tokens.specs.declared.token.Token.{Token}
use Rattle.rpc_requests.specs.declared.call.RpcParameter.{RpcParameter}
use Rattle.tsql_tree.specs.declared.definition.Definition.{Definition}
use Rattle.tsql_tree.specs.declared.definition.Definition.TheVariants.{Table, Procedure, Trigger}
use Rattle.tsql_tree.specs.declared.definition.Parameter.{Parameter}
use Rattle.tsql_tree.specs.declared.definition.ProcedureTree.{ProcedureTree}
use Rattle.tsql_tree.specs.declared.statement.Argument.{Argument}
use Rattle.tsql_tree.specs.declared.statement.Statement.{Statement}
use Rattle.tsql_tree.specs.declared.statement.Form.{Form-F}
use Rattle.bound_tree.specs.declared.write.Bound.{Bound}
use Rattle.error_table.specs.declared.action.Action.{Action}
use Rattle.binder.specs.Names.{Layer, form_of}
use Rattle.step_model.specs.Port.{PortPast}
use Rattle.step_model.specs.Ranges.{no_memory}
use Rattle.batch_meaning.specs.declared.errand.Way.{Way}
use Rattle.batch_meaning.specs.declared.errand.Way.TheVariants as way
use Rattle.batch_meaning.specs.declared.exit.Exit.{Exit}
use Rattle.batch_meaning.specs.declared.exit.Exit.TheVariants.{End, Raise, RaiseUp, Return}
use Rattle.batch_meaning.specs.declared.failure.Failure.{Failure}
use Rattle.batch_meaning.specs.declared.raised.Raised.{Raised}
use Rattle.batch_meaning.specs.Failures.{plain}
use Rattle.batch_meaning.specs.Raised.{Around}
use Rattle.batch_meaning.specs.Selecting.{Effect, bound_over, result_full}
use Rattle.batch_meaning.specs.Progress.{SessionProgress, made, sends, size_of, tells_error, tells_rows}
use Rattle.batch_meaning.specs.Doing.{Did, Doing, Leads, makes, reads}
use Rattle.batch_meaning.specs.Asking.{◌>>=◌, comes_to, finds_by}
use Rattle.batch_meaning.specs.Working.{known_by, works}
use Rattle.batch_meaning.specs.Writes.{creates_table, drops}
use Rattle.batch_meaning.specs.Calls.{Call, call_over, parameter_var}
use Rattle.batch_meaning.specs.Cursors.{closes_cursor, declares_cursor, fetches_cursor, opens_cursor, removes_cursor}
use Rattle.batch_meaning.specs.Databases.{uses_database}
use Rattle.batch_meaning.specs.Transactions.{begins_transaction, commits_transaction, rolls_back_transaction, saves_transaction}
use Rattle.batch_meaning.specs.Meaning.{begins_first, decides, mean_of, turns, uneven_end}
use Rattle.batch_meaning.specs.Rpc.{Placed, is_given, is_output, return_value, rpc_argument}

-- ---- transactions

-- an error of this number that names this, or memory was wanting for it
abbrev pub IsNumbered : ℤ → List ℕ → Failure → Type 0
IsNumbered number name failure = (failure ≡ record { number = number; name = Some name }) ⊎ (failure ≡ plain no_memory)

-- tokens that the batch may still send, or why not
abbrev pub IsAffordable : SessionProgress → Result (List Token) Memory → Result (List Token) Failure → Type 0
IsAffordable p (Ok tokens) result = result ≡ (if nat_lt p.bytes_left (size_of tokens) then Err (plain result_full) else Ok tokens)
IsAffordable p (Err memory) result = result ≡ Err (plain no_memory)

-- ---- forms of statements

-- a WHILE of this body
abbrev pub IsWhile : Statement → Layer → Type 0
IsWhile body (Form-F.While test held) = held ≡ body
IsWhile body form = ⊥

-- one that holds no statements, and runs none of a procedure or trigger
abbrev pub IsSimple : Layer → Type 0
IsSimple (Form-F.If test so otherwise) = ⊥
IsSimple (Form-F.While test body) = ⊥
IsSimple (Form-F.Block body) = ⊥
IsSimple (Form-F.TryCatch body handler) = ⊥
IsSimple (Form-F.Insert table columns rows) = ⊥
IsSimple (Form-F.Update table sets filter) = ⊥
IsSimple (Form-F.Delete table filter) = ⊥
IsSimple (Form-F.Execute status name arguments) = ⊥
IsSimple form = Unit {0}

-- what a statement does that is done with its effect
abbrev pub effects : Around → Statement → Layer → Doing (Result Effect Failure)
effects around statement (Form-F.BeginTransaction name) = begins_transaction statement name
effects around statement (Form-F.Commit name) = commits_transaction name
effects around statement (Form-F.Rollback name) = rolls_back_transaction name
effects around statement (Form-F.Save name) = saves_transaction statement name
effects around statement (Form-F.CreateTable table text) = creates_table around statement table.name text
effects around statement (Form-F.Drop kind name) = drops around statement kind name
effects around statement (Form-F.DeclareCursor name select) = declares_cursor statement name select
effects around statement (Form-F.OpenCursor name) = opens_cursor around statement name
effects around statement (Form-F.Fetch name variables) = fetches_cursor statement name variables
effects around statement (Form-F.CloseCursor name) = closes_cursor statement name
effects around statement (Form-F.Deallocate name) = removes_cursor statement name
effects around statement (Form-F.Use name) = uses_database around statement name
effects around statement form = works around statement

-- ---- calls

-- what was found under a name, if it is a procedure
abbrev pub procedure_in : Option Definition → Option ProcedureTree
procedure_in None = None
procedure_in (Some (Table table)) = None
procedure_in (Some (Procedure procedure)) = Some procedure
procedure_in (Some (Trigger trigger)) = None

-- each value is one of its parameter's type
abbrev pub AreTyped : List Parameter → List Value → Type 0
AreTyped [] values = Unit {0}
AreTyped (parameter ∷ parameters) [] = Unit {0}
AreTyped (parameter ∷ parameters) (value ∷ values) = HasItsType (parameter_var parameter value) × AreTyped parameters values

module _ (around : Around) (statement : Statement) (status : Option (List ℕ)) (name : List ℕ) (arguments : List Argument) where
  -- what it calls, where it is bound so
  abbrev pub call_by : SessionProgress → Option Definition → Result Bound Failure → Result Call Failure
  call_by p found (Ok of) = call_over around status name arguments p.vars found
  call_by p found (Err failure) = Err failure

  -- bound over what was found under its name
  unfoldable pub call_bound : SessionProgress → Option Definition → Result Call Failure
  call_bound p found = call_by p found (bound_over [] p.vars statement)

  -- looked up, and bound
  abbrev pub call_found : Doing (Result Call Failure)
  call_found = do
    found ← finds_by (known_by around statement name) name
    of ← (reads λ p. comes_to (bound_over [] p.vars statement))
    reads λ p. comes_to (call_over around status name arguments p.vars found)

-- the status with which a procedure returned, or how its call is left
abbrev pub returned_with : Exit → Result ℤ Exit
returned_with (Raise raised) = Err (Raise raised)
returned_with (RaiseUp raised) = Err (Raise raised)
returned_with End = Err End
returned_with (Return status) = Ok status
returned_with exit = Ok (pos 0)

-- what is sent behind a procedure that ended with another count of transactions, and what its error ends
abbrev pub tells_uneven : List Token → Bool → Action → Raised → Doing Exit
tells_uneven tokens caught action raised = makes (tells_rows 0) (makes (tells_error raised.number) (makes (sends tokens) (uneven_end caught action raised)))

-- ---- what is sent

-- the progress behind tokens that are sent, if there are any
abbrev pub sent_some : List Token → SessionProgress → SessionProgress
sent_some [] p = p
sent_some (token ∷ tokens) p = made (sends (token ∷ tokens)) p

-- ---- what begins a transaction unseen

-- what was to be done came to its end, or this is left of it
abbrev pub LeadsOn : PortPast → PortPast → Doing Exit → Doing Exit → SessionProgress → Result (Option Exit) Memory → SessionProgress → Type 0
LeadsOn before after whole rest old (Ok (Some exit)) new = Did before after whole old (Ok exit) new
LeadsOn before after whole rest old (Ok None) new = Leads before after whole old rest new
LeadsOn before after whole rest old (Err memory) new = Did before after whole old (Err memory) new

-- behind that BEGIN this is left, or this, where it failed; or memory was wanting to tell it
abbrev pub LeadsBehind : PortPast → PortPast → (Failure → Doing Exit) → Doing Exit → SessionProgress → Result (Option Failure) Memory → SessionProgress → Type 0
LeadsBehind before after fails next old (Ok None) new = Leads before after (begins_first fails next old) old next new
LeadsBehind before after fails next old (Ok (Some failure)) new = Leads before after (begins_first fails next old) old (fails failure) new
LeadsBehind before after fails next old (Err memory) new = Did before after (begins_first fails next old) old (Err memory) new

-- ---- loops

-- a WHILE whose test comes next; so many statements may be open in one another
abbrev pub turning : ℕ → Statement → Statement → Around → Doing Exit
turning levels s body around = decides around s (turns (λ inner at. mean_of levels inner at) around s body)

-- what was to be done came to an end of the WHILE, or it has begun again
abbrev pub Loops : PortPast → PortPast → Doing Exit → Statement → Statement → Around → SessionProgress → Result (Option Exit) Memory → SessionProgress → Type 0
Loops before after tree s body around old (Ok (Some exit)) new = Did before after tree old (Ok exit) new
Loops before after tree s body around old (Ok None) new = (levels : ℕ) × (new.statements_left ≤ levels) × Leads before after tree old (turning levels s body around) new
Loops before after tree s body around old (Err memory) new = Did before after tree old (Err memory) new

-- ---- calls by RPC

-- the status with which a procedure returned, if it did
abbrev pub status_of : Exit → Option ℤ
status_of (Raise raised) = None
status_of (RaiseUp raised) = None
status_of End = None
status_of (Return status) = Some status
status_of exit = Some (pos 0)

-- the arguments of an EXEC
abbrev pub arguments_of : Layer → List Argument
arguments_of (Form-F.Execute status name arguments) = arguments
arguments_of form = []

abbrev pub arguments_in : Statement → List Argument
arguments_in statement = arguments_of (form_of statement)

-- how many parameters stand in front of those of what is run
abbrev pub own_in : Way → ℕ
own_in (way.RunsRead own) = own
own_in other = 0

-- of parameters beside their places
abbrev pub arguments_of_placed : List Placed → List Argument
arguments_of_placed placed = map rpc_argument (filter is_given placed)

-- of which the first stands at this place
abbrev pub arguments_from : ℕ → List RpcParameter → List Argument
arguments_from first parameters = arguments_of_placed (enumerate_from first parameters)

-- what is told of OUTPUT parameters
abbrev pub values_told : List Variable → List Placed → List Token
values_told vars placed = map (return_value vars) (filter is_output placed)
