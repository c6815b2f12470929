-- [MS-TDS] 2.2.6.6 and Transact-SQL reference, "EXECUTE" and "sp_executesql": what a call by RPC means. It is an EXEC that is a batch by itself, whose
-- variables are the parameters of the request: the procedure is called with them, and they take what it gives back. What it sends
-- tells them too, and ends with DONEPROC in the place of DONE; an error of the EXEC ends the call. The procedure is one that was created, or, for
-- sp_executesql, one that is read from the request and kept nowhere. Which it is the call's errand says, with the parameters and the text to be read;
-- and other errands, which run a batch or nothing.
use Rattle.std.specs.Prelude.{◌≡◌, ℕ, ℤ, pos, ◌==◌, ◌&&◌, not, Bool, true, false, nat_lt, if◌then◌else◌, List, [], ◌∷◌, ◌++◌, length, map, filter, drop, get_or, codes, Option, None, Some, Result, Ok, Err}
use Rattle.std.specs.List.{enumerate_from}
use Rattle.std.specs.Option.{option_map, option_and_then}
use Rattle.value_types.specs.Units.{same_units}
use Rattle.value_types.specs.declared.value.Value.{Value}
use Rattle.value_types.specs.declared.value.Value.TheVariants.{Null, Text}
use Rattle.tsql_tree.specs.declared.definition.Definition.TheVariants.{Procedure}
use Rattle.tsql_tree.specs.declared.definition.ProcedureTree.{ProcedureTree}
use Rattle.tsql_tree.specs.declared.statement.Argument.{Argument}
use Rattle.tsql_tree.specs.declared.statement.ArgumentValue.TheVariants as argument
use Rattle.tsql_tree.specs.declared.statement.Form.{Form-F, roll-Form}
use Rattle.tsql_tree.specs.declared.statement.Statement.{Statement, roll-Statement}
use Rattle.clause_binder.specs.Scope.{max_variables}
use Rattle.error_table.specs.declared.action.Action.{Action}
use Rattle.error_table.specs.declared.action.Action.TheVariants as action
use Rattle.tds_tokens.specs.declared.token.Token.{Token}
use Rattle.tds_tokens.specs.declared.token.Token.TheVariants.{ReturnStatus, ReturnValue}
use Rattle.rpc_requests.specs.declared.call.RpcCall.{RpcCall}
use Rattle.rpc_requests.specs.declared.call.RpcParameter.{RpcParameter}
use Rattle.rpc_requests.specs.declared.call.RpcTarget.{RpcTarget}
use Rattle.rpc_requests.specs.declared.call.RpcTarget.TheVariants.{Named, ExecuteSql}
use Rattle.session_vars.specs.declared.Variable.{Variable}
use Rattle.call_rules.specs.Arguments.{no_match}
use Rattle.batch_meaning.specs.declared.errand.Errand.{Errand}
use Rattle.batch_meaning.specs.declared.errand.Way.{Way}
use Rattle.batch_meaning.specs.declared.errand.Way.TheVariants as way
use Rattle.batch_meaning.specs.declared.exit.Exit.{Exit}
use Rattle.batch_meaning.specs.declared.exit.Exit.TheVariants.{On, Return, Raise, RaiseUp, End}
use Rattle.batch_meaning.specs.declared.failure.Failure.{Failure}
use Rattle.batch_meaning.specs.declared.form.ReadText.{ReadText}
use Rattle.batch_meaning.specs.declared.form.ReadText.TheVariants as text
use Rattle.batch_meaning.specs.declared.raised.Raised.{Raised}
use Rattle.batch_meaning.specs.Failures.{plain}
use Rattle.batch_meaning.specs.Raised.{around_batch, action_in, error_token, in_body, raised_at}
use Rattle.batch_meaning.specs.Statements.{ReadsAs}
use Rattle.batch_meaning.specs.Tokens.{rpc_done}
use Rattle.batch_meaning.specs.Progress.{SessionProgress, begins, counts, sends, size_of, statement_limit, tells_error, tells_rows, values_of}
use Rattle.batch_meaning.specs.Doing.{Doing, over, reads, makes, ◌then◌}
use Rattle.batch_meaning.specs.Selecting.{bound_over, result_full}
use Rattle.batch_meaning.specs.Values.{outside_limits}
use Rattle.batch_meaning.specs.Writes.{is_odd_procedure}
use Rattle.batch_meaning.specs.Asking.{◌>>=◌, assigns_all, comes_to, fails_naming, with_room}
use Rattle.batch_meaning.specs.Calls.{Call, call_over, call_vars, finds_call, given_back, no_procedure, uneven}
use Rattle.batch_meaning.specs.Meaning.{Meaning, ended_by, is_even, mean_of, rolls_back_doomed, runs_body, runs_text, tells_end, uneven_with}

-- ---- the text that is read for it

-- sp_executesql, by its number or its name
abbrev pub is_sql : RpcTarget → Bool
is_sql ExecuteSql = true
is_sql (Named name) = same_units name (codes "sp_executesql")

abbrev pub text_value : Value → Option (List ℕ)
text_value (Text units) = Some units
text_value other = None

-- the text that a parameter gives, if it is given and is one
abbrev pub text_in : RpcParameter → Option (List ℕ)
text_in parameter = if parameter.missing then None else text_value parameter.value

-- a statement as the body of a procedure, and declarations as its parameters
abbrev pub sql_text : List ℕ → List ℕ → List ℕ
sql_text declarations statement = codes "CREATE PROCEDURE [sp_executesql] " ++ declarations ++ codes " AS " ++ statement

-- Of sp_executesql the first parameter is the statement, and the second, if there is one, its declarations, whatever their names are.
abbrev pub sql_in : List RpcParameter → Option (List ℕ)
sql_in [] = None
sql_in (statement ∷ []) = option_map (sql_text []) (text_in statement)
sql_in (statement ∷ declarations ∷ others) = option_and_then (λ declared. option_map (sql_text declared) (text_in statement)) (text_in declarations)

-- a definition that has nothing but this name, behind which the line ends
abbrev pub naming_text : List ℕ → List ℕ
naming_text name = codes "CREATE PROCEDURE " ++ name ++ codes "\nAS"

abbrev pub name_of : RpcTarget → List ℕ
name_of ExecuteSql = codes "sp_executesql"
name_of (Named name) = name

-- The text of a definition, which is read for a call: that of its procedure, or one that shows whether the name is an object's. There is none
-- where sp_executesql isn't given a statement.
abbrev pub rpc_text : RpcCall → Option (List ℕ)
rpc_text call = if is_sql call.target then sql_in call.parameters else Some (naming_text (name_of call.target))

-- What is read for an errand: where it has no text, one of no statements is read in its place.
abbrev pub ReadsFor : Option (List ℕ) → ReadText → Type 0
ReadsFor None read = read ≡ text.Statements []
ReadsFor (Some units) read = ReadsAs units read

-- the procedure that the text defines
abbrev pub defined_in : ReadText → Option ProcedureTree
defined_in (text.Defines line (Procedure procedure) units) = Some procedure
defined_in other = None

-- its name, where it has no parameter and no statement
abbrev pub bare_name : ProcedureTree → Option (List ℕ)
bare_name procedure = if length procedure.parameters == 0 && length procedure.body == 0 then Some procedure.name else None

abbrev pub object_in : ReadText → Option (List ℕ)
object_in read = option_and_then bare_name (defined_in read)

-- ---- how it is run

-- how its procedure is found: of sp_executesql two parameters are not those of what is read
abbrev pub plain_way : RpcTarget → Way
plain_way target = if is_sql target then way.RunsRead 2 else way.LooksUp (name_of target)

-- A call as it is run.
abbrev pub plain_errand : RpcCall → Errand
plain_errand call = record { way = plain_way call.target; parameters = call.parameters; text = rpc_text call }

-- the parameters of what is run
abbrev pub passed_by : {A : Type 0} → Way → List A → List A
passed_by (way.LooksUp name) parameters = parameters
passed_by (way.RunsRead own) parameters = drop own parameters
passed_by other parameters = []

-- ---- its variables and its arguments

-- a parameter beside its place in the request, from 0
abbrev pub Placed : Type 0
Placed = ℕ × RpcParameter

abbrev pub placed_in : Errand → List Placed
placed_in call = enumerate_from 0 call.parameters

-- no text can name a variable by the one unit that is its place
abbrev pub variable_at : ℕ → List ℕ
variable_at place = place ∷ []

abbrev pub rpc_var : Placed → Variable
rpc_var placed = record { name = variable_at placed.0; kind = placed.1.kind; value = placed.1.value }

abbrev pub is_too_many : Errand → Bool
is_too_many call = nat_lt max_variables (length call.parameters)

-- A variable for each parameter, of its type and with its value. Of more than a batch may name there are none.
abbrev pub rpc_vars : Errand → List Variable
rpc_vars call = if is_too_many call then [] else map rpc_var (placed_in call)

-- an argument without a name stands by its place
abbrev pub name_given : List ℕ → Option (List ℕ)
name_given [] = None
name_given (unit ∷ units) = Some (unit ∷ units)

abbrev pub rpc_argument : Placed → Argument
rpc_argument placed = record { name = name_given placed.1.name; value = argument.Variable (variable_at placed.0); output = placed.1.output }

-- one that is to take its default is not given
abbrev pub is_given : Placed → Bool
is_given placed = not placed.1.missing

-- The variables of those that are given to what is run are its arguments, in their order.
abbrev pub rpc_arguments : Errand → List Argument
rpc_arguments call = map rpc_argument (filter is_given (passed_by call.way (placed_in call)))

-- one without a name is given behind one that is not: no EXEC has it at its place
abbrev pub skips : Bool → List RpcParameter → Bool
skips behind [] = false
skips behind (parameter ∷ rest) = if parameter.missing then skips true rest else if behind && length parameter.name == 0 then true else skips behind rest

abbrev pub skips_place : Errand → Bool
skips_place call = skips false (passed_by call.way call.parameters)

-- the EXEC of a procedure with these, at line 1
abbrev pub rpc_statement : List ℕ → List Argument → Statement
rpc_statement name arguments = roll-Statement (record { line = 1; form = roll-Form (Form-F.Execute None name arguments) })

-- ---- its errors

-- the arguments are not those of the procedure
abbrev pub mismatch : Failure
mismatch = record { number = no_match; name = None }

-- what an error of the EXEC ends: the call, and the transaction where it ends that
abbrev pub ending : Action → Action
ending action.BatchAndTransaction = action.BatchAndTransaction
ending other = action.Batch

-- one of more bytes than the call may still send is one that says so
abbrev pub error_or_full : SessionProgress → Raised → Raised
error_or_full p raised = if nat_lt p.bytes_left (size_of (error_token raised ∷ [])) then raised_at (pos 1) (plain result_full) else raised

-- it is told, and nothing more of the EXEC; no TRY stands around
abbrev pub strikes_call : Bool → Raised → Doing Exit
strikes_call xact_abort raised =
    makes (tells_error raised.number) (makes (sends (error_token raised ∷ [])) (ended_by (ending (action_in around_batch xact_abort raised))))

unfoldable pub fails_call : Failure → Doing Exit
fails_call failure = makes (tells_rows 0) (reads λ p. strikes_call p.settings.xact_abort (error_or_full p (raised_at (pos 1) failure)))

-- the EXEC goes on by what it came to
abbrev pub goes_on_with : {A : Type 0} → (A → Doing Exit) → Result A Failure → Doing Exit
goes_on_with go (Ok a) = go a
goes_on_with go (Err failure) = fails_call failure

-- ---- what it gives back

-- RETURNVALUE ([MS-TDS] 2.2.7.19): place, name and type of an OUTPUT parameter, and the value that its variable has, which of one that isn't given is what was sent
abbrev pub return_value : List Variable → Placed → Token
return_value vars placed = ReturnValue placed.0 placed.1.name placed.1.kind (get_or (values_of vars) placed.0 Null)

abbrev pub is_output : Placed → Bool
is_output placed = placed.1.output

abbrev pub return_values : Errand → List Variable → List Token
return_values call vars = map (return_value vars) (filter is_output (placed_in call))

-- of a procedure that has returned: RETURNSTATUS, and what each OUTPUT parameter is
abbrev pub returned : Errand → List Variable → ℤ → List Token
returned call vars status = ReturnStatus status ∷ return_values call vars

-- they fit into what the call may still send
abbrev pub where_call_fits : List Token → Doing Exit → Doing Exit
where_call_fits tokens next = reads λ p. if nat_lt p.bytes_left (size_of tokens) then fails_call (plain result_full) else next

abbrev pub tells_returned : ℤ → List Token → Doing Exit → Doing Exit
tells_returned error tokens next = where_call_fits tokens (makes (tells_rows 0) (makes (tells_error error) (makes (sends tokens) next)))

-- with another count of transactions than before: an error in front of it
abbrev pub returns_uneven : List Token → Raised → Action → Doing Exit
returns_uneven tokens raised action = tells_returned raised.number (uneven_with false action tokens raised) (ended_by action)

abbrev pub returns_by : ℕ → List Token → Raised → Doing Exit
returns_by count tokens raised = reads λ p. if is_even p count then tells_returned (pos 0) tokens (over On)
    else returns_uneven tokens raised (action_in around_batch p.settings.xact_abort raised)

unfoldable pub ends_exec : Errand → ℕ → ℤ → Doing Exit
ends_exec call count status = reads λ p. returns_by count (returned call p.vars status) (raised_at (pos 1) (plain uneven))

-- what the procedure gives back is assigned first
unfoldable pub gives_call_back : Errand → Call → ℕ → List Variable → ℤ → Doing Exit
gives_call_back call of count inner status = (reads λ p. comes_to (given_back p.vars None (rpc_arguments call) of status inner)) then λ came.
    goes_on_with (λ sets. assigns_all sets (ends_exec call count status)) came

-- by how its body was left; an error that nothing in it caught has ended the call
abbrev pub leaves_body : Errand → Call → ℕ → List Variable → Exit → Doing Exit
leaves_body call of count inner (Raise raised) = makes (tells_rows 0) (over End)
leaves_body call of count inner (RaiseUp raised) = makes (tells_rows 0) (over End)
leaves_body call of count inner End = makes (tells_rows 0) (over End)
leaves_body call of count inner (Return status) = gives_call_back call of count inner status
leaves_body call of count inner exit = gives_call_back call of count inner (pos 0)

-- ---- where no procedure is run

-- it is told that all went well, as of a procedure that has returned 0
abbrev pub tells_well : Errand → Doing Exit
tells_well call = reads λ p. tells_returned (pos 0) (returned call p.vars (pos 0)) (over On)

-- where the text reads
abbrev pub tells_unless : Errand → ReadText → Doing Exit
tells_unless call (text.Refused line code near) = runs_text (text.Refused line code near)
tells_unless call read = tells_well call

-- behind a batch that has come to its end
abbrev pub behind_batch : Errand → Exit → Doing Exit
behind_batch call On = tells_well call
behind_batch call exit = over exit

-- nothing is kept under a handle
abbrev pub no_statement : ℕ
no_statement = 8179

-- ---- its end

unfoldable pub ends_rpc_doomed : Doing (Unit {0})
ends_rpc_doomed = rolls_back_doomed (rpc_done true)

-- as a batch ends, with DONEPROC
unfoldable pub ends_rpc : Exit → Doing (Unit {0})
ends_rpc exit = tells_end rpc_done ends_rpc_doomed exit

-- ---- the call

-- a procedure that is not looked up is bound as one that was
unfoldable pub binds_call : Statement → List Argument → ProcedureTree → Doing (Result Call Failure)
binds_call statement arguments procedure = with_room (do
  of ← (reads λ p. comes_to (bound_over [] p.vars statement))
  reads λ p. comes_to (call_over around_batch None procedure.name arguments p.vars (Some (Procedure procedure))))

-- and is held to the limits of one that is created
abbrev pub binds_within : Statement → List Argument → ProcedureTree → Doing (Result Call Failure)
binds_within statement arguments procedure = if is_odd_procedure procedure then over (Err (plain outside_limits)) else binds_call statement arguments procedure

-- the procedure of a name is looked up and bound as by an EXEC, where that is an object's
abbrev pub finds_named : Errand → List ℕ → Option (List ℕ) → Doing (Result Call Failure)
finds_named call name None = fails_naming no_procedure name
finds_named call name (Some object) = finds_call around_batch (rpc_statement object (rpc_arguments call)) None object (rpc_arguments call)

-- that of sp_executesql is what was read
abbrev pub finds_read : Errand → Option ProcedureTree → Doing (Result Call Failure)
finds_read call None = over (Err mismatch)
finds_read call (Some procedure) = binds_within (rpc_statement procedure.name (rpc_arguments call)) (rpc_arguments call) procedure

-- by the meaning of the statements of its procedure
module _ (one : Statement → Meaning) where
  unfoldable pub runs_exec : Errand → Call → Doing Exit
  runs_exec call of = reads λ p.
      runs_body one (call_vars of) (λ settings. settings) of.procedure.body (in_body of.procedure.name None around_batch) then λ came.
      leaves_body call of p.txn.count came.1 came.0

  abbrev pub execs : Errand → Doing (Result Call Failure) → Doing Exit
  execs call finds = finds then λ found. goes_on_with (runs_exec call) found

  -- a text of sp_executesql that is refused is so as that of a batch
  abbrev pub runs_sql : Errand → ReadText → Doing Exit
  runs_sql call (text.Refused line code near) = runs_text (text.Refused line code near)
  runs_sql call read = execs call (finds_read call (defined_in read))

  abbrev pub runs_way : Errand → ReadText → Way → Doing Exit
  runs_way call read (way.LooksUp name) = execs call (finds_named call name (object_in read))
  runs_way call read (way.RunsRead own) = runs_sql call read
  runs_way call read way.RunsBatch = runs_text read then behind_batch call
  runs_way call read way.Tells = tells_unless call read
  runs_way call read way.Unmatched = fails_call mismatch
  runs_way call read (way.Unknown handle) = execs call (fails_naming no_statement handle)

  unfoldable pub runs_rpc : Errand → ReadText → Doing Exit
  runs_rpc call read = if is_too_many call then fails_call (plain outside_limits)
      else if skips_place call then fails_call mismatch
      else runs_way call read call.way

-- A call, whose text is read so: an EXEC, which counts as a statement that begins, and its end.
unfoldable pub rpc : Errand → ReadText → Doing (Unit {0})
rpc call read = makes (begins (rpc_vars call)) (makes counts (runs_rpc (λ inner at. mean_of statement_limit inner at) call read then ends_rpc))
