-- Own: what a statement is bound to, and what a query comes to, apart from what is asked for it.
use Rattle.std.specs.Prelude.{ℕ, ℤ, Bool, nat_le, if◌then◌else◌, List, [], ◌∷◌, length, map, Some, None, Result, Ok, Err}
use Rattle.value_types.specs.declared.value.Value.{Value}
use Rattle.tsql_tree.specs.declared.definition.Definition.{Definition}
use Rattle.tsql_tree.specs.declared.statement.Form.{Form-F}
use Rattle.tsql_tree.specs.declared.statement.Statement.{Statement}
use Rattle.binder.specs.Names.{Layer}
use Rattle.session_vars.specs.declared.Variable.{Variable}
use Rattle.bound_tree.specs.declared.query.BoundQuery.{BoundQuery, out-BoundQuery}
use Rattle.bound_tree.specs.declared.write.Bound.{Bound}
use Rattle.bound_tree.specs.Outcomes as value
use Rattle.typed_nodes.specs.Refusals.{Outcome}
use Rattle.binder.specs.Statements.{bind}
use Rattle.query_eval.specs.Ans.{Ans}
use Rattle.step_model.specs.Ranges.{Rows}
use Rattle.tds_tokens.specs.declared.columns.ColumnInfo.{ColumnInfo}
use Rattle.tds_tokens.specs.declared.token.DoneKind.{DoneKind}
use Rattle.tds_tokens.specs.declared.token.Token.{Token}
use Rattle.batch_meaning.specs.declared.failure.Failure.{Failure}
use Rattle.batch_meaning.specs.declared.raised.Raised.{Raised}
use Rattle.batch_meaning.specs.Raised.{Around, info_token}
use Rattle.batch_meaning.specs.Failures.{plain}
use Rattle.batch_meaning.specs.Progress.{SessionProgress, system_in, values_of}
use Rattle.batch_meaning.specs.Tokens.{result_tokens}
use Rattle.batch_meaning.specs.Values.{◌>>=◌, Assigned, assigned_to, given_names, is_message, printed, raiserror_of, throw_of}

-- ---- the numbers of its errors

abbrev pub result_full : ℕ
result_full = 49002

-- what binding does not give of a statement
abbrev pub not_bound_so : ℕ
not_bound_so = 49007

-- ---- binding

-- what the binder refuses is an error with the name that it gives
abbrev pub bound_as : {A : Type 0} → Outcome A → Result A Failure
bound_as (Ok of) = Ok of
bound_as (Err refusal) = Err (record { number = refusal.0; name = Some refusal.1 })

-- what a statement is bound to over these definitions and variables
abbrev pub bound_over : List Definition → List Variable → Statement → Result Bound Failure
bound_over definitions vars statement = bound_as (bind definitions vars statement)

-- ---- the answer

-- what a query answers on images, with the variables and the values of the session as they are
abbrev pub answer_as : value.Outcome Rows → Result Rows Failure
answer_as (Ok rows) = Ok rows
answer_as (Err number) = Err (record { number = number; name = None })

abbrev pub answer_in : Around → SessionProgress → BoundQuery → List Rows → Result Rows Failure
answer_in around p query images = answer_as (Ans (values_of p.vars) (system_in around p) query images)

-- how many rows a result has at most
abbrev pub row_limit : ℕ
row_limit = 1000000

-- the columns of a query's answer
abbrev pub columns_of : BoundQuery → List ColumnInfo
columns_of query = map (λ item. record { kind = item.kind; name = item.name }) (out-BoundQuery query).items

-- what a statement comes to where it succeeds: the variables that it assigns, one after another, how many rows it counts, and what it sends
pub record Effect : Type 0 where
  pub sets : List Assigned
  pub rows : ℕ
  pub tokens : List Token

-- nothing
abbrev pub no_effect : Effect
no_effect = record { sets = []; rows = 0; tokens = [] }

abbrev pub sending : List Token → Effect
sending tokens = record no_effect { tokens = tokens }

abbrev pub assigning : List Assigned → Effect
assigning sets = record no_effect { sets = sets }

-- rows that are not too many for a result are sent
abbrev pub result_of : DoneKind → Bool → BoundQuery → Rows → Result Effect Failure
result_of kind no_count query rows =
    if nat_le (length rows) row_limit then Ok (record { sets = []; rows = length rows; tokens = result_tokens kind no_count (columns_of query) rows }) else Err (plain result_full)

-- ---- the values of expressions

abbrev pub assigning_to : List Variable → List (List ℕ) → List Value → Result Effect Failure
assigning_to vars names values = assigned_to vars names values >>= λ sets. Ok (assigning sets)

-- what DECLARE and SET make of them
abbrev pub made_of : Layer → List Variable → List Value → Result Effect Failure
made_of (Form-F.Declare declarations) vars values = assigning_to vars (given_names declarations) values
made_of (Form-F.SetVariable name value) vars values = assigning_to vars (name ∷ []) values
made_of form vars values = Err (plain not_bound_so)

-- what PRINT, RAISERROR and THROW make of them
abbrev pub raised_by : Layer → List ℕ → ℤ → List Value → Result Raised Failure
raised_by (Form-F.Print value) procedure line values = printed procedure line values
raised_by (Form-F.RaiseError text class state) procedure line values = raiserror_of procedure line values
raised_by (Form-F.Throw number text state) procedure line values = throw_of procedure line values
raised_by form procedure line values = Err (plain not_bound_so)

-- what is no error is sent
abbrev pub messages : Raised → List Token
messages raised = if is_message raised then info_token raised ∷ [] else []
