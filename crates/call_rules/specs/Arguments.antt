-- Transact-SQL reference, "EXECUTE" and "CREATE PROCEDURE": which argument of a call is for which parameter, the values that the
-- parameters take, and the variables that are written back. An argument with a name is for the parameter of that name; one without is
-- for the parameter at its own place among the arguments. Each parameter has one argument and no more (own: no parameter has a
-- default). Here each parameter looks for its arguments; the code goes over the arguments once, and finds names in an ordered map.
use Rattle.std.specs.Prelude.{◌≡◌, ℕ, ◌+◌, ◌++◌, ◌==◌, ℤ, pos, Bool, true, false, not, ◌&&◌, ◌||◌, nat_lt, if◌then◌else◌, is_some, List, [], ◌∷◌, length, map, position, slice_get, Option, Some, None, Result, Ok, Err}
use Rattle.std.specs.List.{enumerate_from, list_all}
use Rattle.std.specs.declared.vec.Vec.{Vec}
use Rattle.std.specs.declared.alloc.Global.{Global}
use Rattle.value_types.specs.Units.{same_units}
use Rattle.value_types.specs.declared.sql_type.SqlType.{SqlType}
use Rattle.value_types.specs.declared.value.Value.{Value}
use Rattle.value_types.specs.declared.value.Value.TheVariants.{Null}
use Rattle.value_types.specs.Types.{type_of}
use Rattle.session_vars.specs.declared.Variable.{Variable}
use Rattle.session_vars.specs.Variables.{place_of}
use Rattle.tsql_tree.specs.declared.definition.Parameter.{Parameter}
use Rattle.tsql_tree.specs.declared.statement.Argument.{Argument}
use Rattle.tsql_tree.specs.declared.statement.ArgumentValue.{ArgumentValue}
use Rattle.tsql_tree.specs.declared.statement.ArgumentValue.TheVariants as value
use Rattle.bound_tree.specs.Conversions.{conversion}
use Rattle.bound_tree.specs.Outcomes.{Outcome, after}
use Rattle.call_rules.specs.declared.arguments.Output.{Output}
use Rattle.call_rules.specs.declared.fault.CallFault.{CallFault}
use Rattle.call_rules.specs.declared.fault.CallFault.TheVariants.{Number, Memory}

-- the arguments are not those of the procedure
abbrev pub no_match : ℤ
no_match = pos 49012

-- ---- whose an argument is

-- an argument beside its place among the arguments
abbrev pub Placed : Type 0
Placed = ℕ × Argument

module _ (parameters : List Parameter) where
  -- the place of the parameter that an argument is for, by the argument's place and its name
  abbrev pub place_for : ℕ → Option (List ℕ) → Option ℕ
  place_for place None = if nat_lt place (length parameters) then Some place else None
  place_for place (Some name) = position (λ parameter. same_units parameter.name name) parameters

  abbrev pub is_at : ℕ → Option ℕ → Bool
  is_at place None = false
  is_at place (Some other) = other == place

  -- the arguments that are for the parameter at a place
  abbrev pub arguments_for : ℕ → List Placed → List Argument
  arguments_for place [] = []
  arguments_for place (placed ∷ rest) = if is_at place (place_for placed.0 placed.1.name) then placed.1 ∷ arguments_for place rest else arguments_for place rest

-- ---- which arguments match

abbrev pub is_variable : ArgumentValue → Bool
is_variable (value.Constant constant) = false
is_variable (value.Variable name) = true

-- the argument is for this parameter; OUTPUT stands only on a variable, and for a parameter that is OUTPUT
abbrev pub may_be_for : Argument → Option Parameter → Bool
may_be_for argument None = false
may_be_for argument (Some parameter) = not argument.output || (parameter.output && is_variable argument.value)

abbrev pub parameter_at : List Parameter → Option ℕ → Option Parameter
parameter_at parameters None = None
parameter_at parameters (Some place) = slice_get parameters place

abbrev pub is_allowed : List Parameter → Placed → Bool
is_allowed parameters placed = may_be_for placed.1 (parameter_at parameters (place_for parameters placed.0 placed.1.name))

-- the argument, where there is just one
abbrev pub only_one : List Argument → Option Argument
only_one [] = None
only_one (argument ∷ []) = Some argument
only_one (argument ∷ other ∷ rest) = None

abbrev pub joined_to : Argument → Option (List Argument) → Option (List Argument)
joined_to argument None = None
joined_to argument (Some arguments) = Some (argument ∷ arguments)

abbrev pub in_front : Option Argument → Option (List Argument) → Option (List Argument)
in_front None arguments = None
in_front (Some argument) arguments = joined_to argument arguments

-- all of them, where each is there
abbrev pub all_there : List (Option Argument) → Option (List Argument)
all_there [] = Some []
all_there (argument ∷ rest) = in_front argument (all_there rest)

-- each parameter beside its place: its argument, where it has just one
abbrev pub argument_of : List Parameter → List Placed → ℕ × Parameter → Option Argument
argument_of parameters placed parameter = only_one (arguments_for parameters parameter.0 placed)

-- The arguments in the order of the parameters that they are for; none where they don't match: where a parameter has no argument, or
-- two, an argument is for none, or OUTPUT stands where it may not.
abbrev pub matched : List Parameter → List Argument → Option (List Argument)
matched parameters arguments = let placed = enumerate_from 0 arguments in
    if list_all (is_allowed parameters) placed then all_there (map (argument_of parameters placed) (enumerate_from 0 parameters)) else None

-- ---- the values that the parameters take

-- the value at a place among the variables; who calls makes sure that there is one
abbrev pub value_in : Option Variable → Value
value_in None = Null
value_in (Some variable) = variable.value

abbrev pub variable_at : List Variable → Option ℕ → Option Variable
variable_at vars None = None
variable_at vars (Some place) = slice_get vars place

-- the value of an argument
abbrev pub value_of : List Variable → ArgumentValue → Value
value_of vars (value.Constant constant) = constant
value_of vars (value.Variable name) = value_in (variable_at vars (place_of name vars))

-- as a parameter takes it: converted as by an assignment, which cuts a text that is too long
abbrev pub taken_by : SqlType → Value → Outcome Value
taken_by kind of = conversion (type_of of) kind of

-- the values of these arguments as these parameters take them, or the number of the first that can't be converted
abbrev pub values_taken : List Variable → List Parameter → List Argument → Outcome (List Value)
values_taken vars [] arguments = Ok []
values_taken vars (parameter ∷ parameters) [] = Ok []
values_taken vars (parameter ∷ parameters) (argument ∷ arguments) =
    after (taken_by parameter.kind (value_of vars argument.value)) (λ first. after (values_taken vars parameters arguments) (λ rest. Ok (first ∷ rest)))

abbrev pub taken_where : List Variable → List Parameter → Option (List Argument) → Outcome (List Value)
taken_where vars parameters None = Err no_match
taken_where vars parameters (Some arguments) = values_taken vars parameters arguments

-- The values of the parameters in their order, or the number of the error.
abbrev pub argument_values : List Variable → List Parameter → List Argument → Outcome (List Value)
argument_values vars parameters arguments = taken_where vars parameters (matched parameters arguments)

-- ---- the variables that are written back

-- the parameter at this place is written to the variable
abbrev pub written_to : ℕ → ArgumentValue → List Output
written_to place (value.Constant constant) = []
written_to place (value.Variable name) = record { place = place; variable = name } ∷ []

abbrev pub written_back : ℕ → List Argument → List Output
written_back place [] = []
written_back place (argument ∷ rest) = (if argument.output then written_to place argument.value else []) ++ written_back (place + 1) rest

abbrev pub written_where : Option (List Argument) → List Output
written_where None = []
written_where (Some arguments) = written_back 0 arguments

-- The parameters that are written back to variables of the caller, in the order of the parameters; none where arguments don't match.
abbrev pub outputs_of : List Parameter → List Argument → List Output
outputs_of parameters arguments = written_where (matched parameters arguments)

-- ---- what the caller sees to

-- the variable stands, or the argument names none
abbrev pub is_declared : List Variable → ArgumentValue → Bool
is_declared vars (value.Constant constant) = true
is_declared vars (value.Variable name) = is_some (place_of name vars)

abbrev pub are_declared : List Variable → List Argument → Bool
are_declared vars arguments = list_all (λ argument. is_declared vars argument.value) arguments

-- ---- answers

-- the answer is this outcome, if memory is not wanting
abbrev pub Gives : {A : Type 0} → Result A CallFault → Outcome A → Type 0
Gives (Ok x) outcome = outcome ≡ Ok x
Gives (Err (Number number)) outcome = outcome ≡ Err number
Gives (Err Memory) outcome = Unit {0}

-- the same of what is in a vector
abbrev pub GivesItems : {A : Type 0} → Result (Vec A Global) CallFault → Outcome (List A) → Type 0
GivesItems (Ok x) outcome = outcome ≡ Ok x.items
GivesItems (Err (Number number)) outcome = outcome ≡ Err number
GivesItems (Err Memory) outcome = Unit {0}
