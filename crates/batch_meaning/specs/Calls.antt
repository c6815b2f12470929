-- Transact-SQL reference, "EXECUTE" and "RETURN": what a call runs and with which variables, and what it gives back. A call is bound like any
-- statement; its own transaction, if it has one, ends before the procedure begins.
use Rattle.std.specs.Prelude.{ℕ, ℤ, nat_le, ◌&&◌, Bool, if◌then◌else◌, List, [], ◌∷◌, ◌++◌, get_or, is_some, map, Option, Some, None, Result, Ok, Err}
use Rattle.std.specs.List.{list_all}
use Rattle.value_types.specs.declared.value.Value.{Value}
use Rattle.value_types.specs.declared.value.Value.TheVariants.{Null, Whole}
use Rattle.tsql_tree.specs.declared.definition.Definition.{Definition}
use Rattle.tsql_tree.specs.declared.definition.Definition.TheVariants.{Table, Procedure, Trigger}
use Rattle.tsql_tree.specs.declared.definition.Parameter.{Parameter}
use Rattle.tsql_tree.specs.declared.definition.ProcedureTree.{ProcedureTree}
use Rattle.tsql_tree.specs.declared.statement.Argument.{Argument}
use Rattle.tsql_tree.specs.declared.statement.Statement.{Statement}
use Rattle.session_vars.specs.declared.Variable.{Variable}
use Rattle.session_vars.specs.Variables.{place_of}
use Rattle.call_rules.specs.declared.arguments.Output.{Output}
use Rattle.call_rules.specs.Arguments.{are_declared, argument_values, outputs_of}
use Rattle.batch_meaning.specs.declared.failure.Failure.{Failure}
use Rattle.batch_meaning.specs.Raised.{Around}
use Rattle.batch_meaning.specs.Failures.{plain, naming}
use Rattle.batch_meaning.specs.Statements.{vars_behind}
use Rattle.batch_meaning.specs.Progress.{values_of}
use Rattle.batch_meaning.specs.Doing.{Doing, reads, ◌then◌}
use Rattle.batch_meaning.specs.Values.{Assigned, assigned_to, outside_limits}
use Rattle.batch_meaning.specs.Selecting.{bound_over}
use Rattle.batch_meaning.specs.Asking.{◌>>=◌, comes_to, finds_by, with_room}
use Rattle.batch_meaning.specs.Working.{asks_any, known_by, own}

-- ---- the numbers of its errors

abbrev pub no_procedure : ℕ
no_procedure = 2812

abbrev pub too_deep : ℕ
too_deep = 217

-- a procedure ended with another count of transactions than it began with
abbrev pub uneven : ℕ
uneven = 266

-- how deep procedures and triggers may stand in one another
abbrev pub depth_limit : ℕ
depth_limit = 32

-- ---- what is called

-- a procedure, and the values of its parameters
pub record Call : Type 0 where
  pub procedure : ProcedureTree
  pub values : List Value

abbrev pub call_with : ProcedureTree → Result (List Value) ℤ → Result Call Failure
call_with procedure (Ok values) = Ok (record { procedure = procedure; values = values })
call_with procedure (Err number) = Err (record { number = number; name = None })

-- what was found under the name is a procedure, one more may begin, and the arguments are its
abbrev pub call_of : Around → List ℕ → List Argument → List Variable → Option Definition → Result Call Failure
call_of around name arguments vars (Some (Procedure procedure)) = if nat_le depth_limit around.depth then Err (plain too_deep)
    else call_with procedure (argument_values vars procedure.parameters arguments)
call_of around name arguments vars (Some (Table table)) = Err (naming no_procedure name)
call_of around name arguments vars (Some (Trigger trigger)) = Err (naming no_procedure name)
call_of around name arguments vars None = Err (naming no_procedure name)

-- the variable in front of its name, if there is one
abbrev pub status_names : Option (List ℕ) → List (List ℕ)
status_names None = []
status_names (Some name) = name ∷ []

-- a variable that it names and that does not stand is outside the limits
abbrev pub are_standing : Option (List ℕ) → List Argument → List Variable → Bool
are_standing status arguments vars = list_all (λ name. is_some (place_of name vars)) (status_names status) && are_declared vars arguments

abbrev pub call_over : Around → Option (List ℕ) → List ℕ → List Argument → List Variable → Option Definition → Result Call Failure
call_over around status name arguments vars found =
    if are_standing status arguments vars then call_of around name arguments vars found else Err (plain outside_limits)

-- it is looked up, and the call is bound
unfoldable pub finds_call : Around → Statement → Option (List ℕ) → List ℕ → List Argument → Doing (Result Call Failure)
finds_call around statement status name arguments = with_room (own (asks_any (known_by around statement) (name ∷ [])) (do
  found ← finds_by (known_by around statement name) name
  of ← (reads λ p. comes_to (bound_over [] p.vars statement))
  reads λ p. comes_to (call_over around status name arguments p.vars found)))

-- ---- its variables

abbrev pub parameter_var : Parameter → Value → Variable
parameter_var parameter value = record { name = parameter.name; kind = parameter.kind; value = value }

abbrev pub parameter_vars : List Parameter → List Value → List Variable
parameter_vars [] values = []
parameter_vars (parameter ∷ parameters) [] = []
parameter_vars (parameter ∷ parameters) (value ∷ values) = parameter_var parameter value ∷ parameter_vars parameters values

-- its parameters, and behind them what its statements declare
abbrev pub call_vars : Call → List Variable
call_vars call = vars_behind (parameter_vars call.procedure.parameters call.values) call.procedure.body

-- ---- what it gives back

-- the value of each variable that it gives back to
abbrev pub status_values : Option (List ℕ) → ℤ → List Value
status_values None status = []
status_values (Some name) status = Whole status ∷ []

abbrev pub output_value : List Variable → Output → Value
output_value inner output = get_or (values_of inner) output.place Null

-- The status goes to the variable in front of the procedure's name; then each OUTPUT parameter's value, in the order of the parameters, to its
-- argument's.
abbrev pub given_back : List Variable → Option (List ℕ) → List Argument → Call → ℤ → List Variable → Result (List Assigned) Failure
given_back vars status arguments call number inner = assigned_to vars
    (status_names status ++ map (λ output. output.variable) (outputs_of call.procedure.parameters arguments))
    (status_values status number ++ map (output_value inner) (outputs_of call.procedure.parameters arguments))
