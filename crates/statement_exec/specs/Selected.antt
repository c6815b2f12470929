-- Own: what a statement is bound to, the rows that were read for it, and what it asks.
use Rattle.std.specs.Prelude.{◌≡◌, ◌⊎◌, ◌==◌, ℕ, Bool, true, false, All, IsTrue, List, [], ◌∷◌, Option, None, Some, Result, Ok, Err}
use Rattle.std.specs.List.{list_all, list_any}
use Rattle.std.specs.Cmp.Lexicographic.{pointwise}
use Rattle.value_types.specs.declared.table_name.TableName.{TableName}
use Rattle.value_types.specs.declared.value.Value.{Value}
use Rattle.tsql_tree.specs.declared.definition.Definition.{Definition}
use Rattle.tsql_tree.specs.declared.definition.TableTree.{TableTree}
use Rattle.tsql_tree.specs.declared.statement.Statement.{Statement}
use Rattle.session_vars.specs.declared.Variable.{Variable}
use Rattle.session_vars.specs.Variables.{HasItsType}
use Rattle.bound_tree.specs.declared.query.BoundQuery.{BoundQuery}
use Rattle.bound_tree.specs.declared.query.Item.{Item}
use Rattle.bound_tree.specs.declared.write.Bound.{Bound}
use Rattle.bound_tree.specs.declared.write.Bound.TheVariants as bound
use Rattle.bound_tree.specs.Typed.{AreOf, system_kinds}
use Rattle.tsql_tree.specs.declared.statement.Form.{Form-F}
use Rattle.clause_binder.specs.Operands.{items_of}
use Rattle.binder.specs.Names.{Layer, form_of}
use Rattle.query_eval.specs.Ans.{Ans}
use Rattle.query_eval.specs.Given.{tables_read}
use Rattle.table_rows.specs.Definitions.{IsDefinitionIn, tables_of}
use Rattle.table_rows.specs.Rows.{has_columns, is_value_of, shape_of}
use Rattle.step_model.specs.declared.op.Op.{Op}
use Rattle.step_model.specs.declared.op.Op.TheVariants.{Insert}
use Rattle.step_model.specs.Port.{PortPast}
use Rattle.step_model.specs.Ranges.{Rows, no_memory}
use Rattle.dml_exec.specs.declared.refusal.Refusal.{Refusal}
use Rattle.dml_exec.specs.declared.written.Attempt.{Attempt}
use Rattle.dml_exec.specs.declared.written.Written.{Written}
use Rattle.dml_exec.specs.declared.written.Written.TheVariants as written
use Rattle.dml_exec.specs.Reading.{GivenRows, fetches_any}
use Rattle.batch_meaning.specs.declared.failure.Failure.{Failure}
use Rattle.batch_meaning.specs.Failures.{plain}
use Rattle.batch_meaning.specs.Raised.{Around}
use Rattle.batch_meaning.specs.Selecting.{bound_over}
use Rattle.batch_meaning.specs.Progress.{SessionProgress, made, system_in, touches, values_of}

-- the row with its key defines this, or memory was wanting
abbrev pub IsDefined : List Value × List Value → Result (Option Definition) Failure → Type 0
IsDefined entry (Ok found) = IsDefinitionIn entry found
IsDefined entry (Err failure) = failure ≡ plain no_memory

-- ---- what is read

abbrev pub IsSelectForm : Layer → Type 0
IsSelectForm (Form-F.Select select) = Unit {0}
IsSelectForm form = ⊥

-- the statement is bound to this over definitions of which these are the tables, and these variables
abbrev pub IsBoundOver : List TableTree → List Variable → Statement → Bound → Type 0
IsBoundOver shapes vars statement of = (definitions : List Definition) × (shapes ≡ tables_of definitions) × (bound_over definitions vars statement ≡ Ok of)

-- the statement is bound over no definitions, or fails as that does
abbrev pub BoundSo : Result Bound Failure → Result (Unit {0}) Failure → Type 0
BoundSo (Ok of) result = (result ≡ Ok tt) ⊎ (result ≡ Err (plain no_memory))
BoundSo (Err failure) result = (result ≡ Err failure) ⊎ (result ≡ Err (plain no_memory))

abbrev pub IsBoundFirst : SessionProgress → Statement → Result (Unit {0}) Failure → Type 0
IsBoundFirst p statement result = BoundSo (bound_over [] p.vars statement) result

-- each of the rows has the columns of a table of this shape; of no shape there is none
abbrev pub AreKept : Option TableTree → Rows → Type 0
AreKept None rows = rows ≡ []
AreKept (Some shape) rows = All (λ row. IsTrue (has_columns shape.columns row)) rows

-- each image has rows of its table
abbrev pub ImagesFit : List TableTree → List TableName → List Rows → Type 0
ImagesFit shapes [] [] = Unit {0}
ImagesFit shapes [] (rows ∷ images) = ⊥
ImagesFit shapes (table ∷ tables) [] = ⊥
ImagesFit shapes (table ∷ tables) (rows ∷ images) = AreKept (shape_of table shapes) rows × ImagesFit shapes tables images

-- the statement is bound to this query, which is answered or assigned
abbrev pub IsOfQuery : BoundQuery → Bound → Type 0
IsOfQuery query (bound.Query of) = of ≡ query
IsOfQuery query (bound.Assign of places) = of ≡ query
IsOfQuery query of = ⊥

-- the query answers this on images that fit, with variables and values of the session that are of their types
pub record IsReadAnswer (around : Around) (p : SessionProgress) (shapes : List TableTree) (query : BoundQuery) (rows : Rows) : Type 0 where
  pub images : List Rows
  pub fit : (shapes ≡ [] → ⊥) → ImagesFit shapes (tables_read query) images
  pub none : shapes ≡ [] → images ≡ []
  pub vars : All HasItsType p.vars
  pub system : AreOf system_kinds (system_in around p)
  pub answers : Ans (values_of p.vars) (system_in around p) query images ≡ Ok rows

-- each row has a value for each item, NULL or of the item's type, and no more
abbrev pub are_typed : List Item → Rows → Bool
are_typed items rows = list_all (λ row. pointwise (λ item value. is_value_of item.kind value) items row) rows

-- in a trigger, where tables may be given, its rows are of its items' types; elsewhere they are since the images fit
abbrev pub IsAnswer : Around → SessionProgress → List TableTree → BoundQuery → Rows → Type 0
IsAnswer around p shapes query rows = IsReadAnswer around p shapes query rows ⊎ IsTrue (are_typed (items_of query) rows)

-- a query that a SELECT is bound to
abbrev pub IsSelect : Statement → Type 0
IsSelect statement = IsSelectForm (form_of statement)

-- ---- what is asked

-- a mark is live
abbrev pub IsLive : ℕ → PortPast → Type 0
IsLive mark past = IsTrue (list_any (λ live. live == mark) past.standing.marks)

-- a row is put
abbrev pub IsInsertion : Op → Type 0
IsInsertion (Insert table key row) = Unit {0}
IsInsertion op = ⊥

-- something is asked for what a statement is bound to: a table is fetched, or one is written
abbrev pub asks_bound : GivenRows → Bound → Bool
asks_bound given (bound.Write write) = true
asks_bound given (bound.Query query) = fetches_any given (bound.Query query)
asks_bound given (bound.Assign query places) = fetches_any given (bound.Assign query places)
asks_bound given bound.Plain = false

-- where something is fetched, the statement's end has to relax it
abbrev pub touched_if : Bool → SessionProgress → SessionProgress
touched_if true p = made touches p
touched_if false p = p

-- ---- writes that are taken back

-- the mark to which changes were taken back, if they were
abbrev pub mark_back : Option ℕ → Result Written Refusal → Option ℕ
mark_back mark (Ok (written.Done made)) = None
mark_back mark (Ok (written.Refused number name)) = mark
mark_back mark (Err refusal) = mark

abbrev pub taken_back : Attempt → Option ℕ
taken_back attempt = mark_back attempt.mark attempt.came
