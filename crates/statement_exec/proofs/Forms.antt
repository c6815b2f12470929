-- The forms of statements, opened.
use Rattle.std.proofs.Common.{◌≡◌, ◌≢◌, ℕ, List, Option, Result, refl, sym, ap, ◌∙◌, subst}
use Rattle.value_types.specs.declared.memory.Memory.{Memory}
use Rattle.tsql_tree.specs.declared.definition.TableTree.{TableTree}
use Rattle.tsql_tree.specs.declared.option.SessionOption.{SessionOption}
use Rattle.tsql_tree.specs.declared.query.Expr.{Expr}
use Rattle.tsql_tree.specs.declared.query.Test.{Test}
use Rattle.tsql_tree.specs.declared.query.Select.{Select}
use Rattle.tsql_tree.specs.declared.statement.Argument.{Argument}
use Rattle.tsql_tree.specs.declared.statement.Assignment.{Assignment}
use Rattle.tsql_tree.specs.declared.statement.DropKind.{DropKind}
use Rattle.tsql_tree.specs.declared.statement.InsertRows.{InsertRows}
use Rattle.tsql_tree.specs.declared.statement.Statement.{Statement}
use Rattle.tsql_tree.specs.declared.statement.Form.{Form as TreeForm, Form-F, out-Form, roll-Form, out-roll-Form, roll-out-Form}
use Rattle.tsql_tree.specs.declared.statement.Form.TheVariants as tree
use Rattle.binder.specs.Names.{Layer}
use Rattle.step_model.specs.Port.{PortPast}
use Rattle.batch_meaning.specs.Raised.{Around}
use Rattle.batch_meaning.specs.Progress.{SessionProgress}
use Rattle.batch_meaning.specs.Doing.{Doing, Did}
use Rattle.bound_tree.specs.declared.write.Bound.{Bound}
use Rattle.batch_meaning.specs.declared.failure.Failure.{Failure}
use Rattle.batch_meaning.specs.Selecting.{Effect}
use Rattle.batch_meaning.specs.Working.{computes, works_bound}

module _ (form : TreeForm) where
  pub is_If : (test : Test) (so : Statement) (otherwise : Option Statement) → form ≡ tree.If test so otherwise → out-Form form ≡ Form-F.If test so otherwise
  is_If test so otherwise is = ap out-Form (is ∙ sym (tree.rolls-If test so otherwise)) ∙ out-roll-Form (Form-F.If test so otherwise)

  pub is_While : (test : Test) (body : Statement) → form ≡ tree.While test body → out-Form form ≡ Form-F.While test body
  is_While test body is = ap out-Form (is ∙ sym (tree.rolls-While test body)) ∙ out-roll-Form (Form-F.While test body)

  pub is_Block : (body : List Statement) → form ≡ tree.Block body → out-Form form ≡ Form-F.Block body
  is_Block body is = ap out-Form (is ∙ sym (tree.rolls-Block body)) ∙ out-roll-Form (Form-F.Block body)

  pub is_TryCatch : (body handler : List Statement) → form ≡ tree.TryCatch body handler → out-Form form ≡ Form-F.TryCatch body handler
  is_TryCatch body handler is = ap out-Form (is ∙ sym (tree.rolls-TryCatch body handler)) ∙ out-roll-Form (Form-F.TryCatch body handler)

  pub is_Print : (value : Expr) → form ≡ tree.Print value → out-Form form ≡ Form-F.Print value
  is_Print value is = ap out-Form (is ∙ sym (tree.rolls-Print value)) ∙ out-roll-Form (Form-F.Print value)

  pub is_RaiseError : (value class state : Expr) → form ≡ tree.RaiseError value class state → out-Form form ≡ Form-F.RaiseError value class state
  is_RaiseError value class state is = ap out-Form (is ∙ sym (tree.rolls-RaiseError value class state)) ∙ out-roll-Form (Form-F.RaiseError value class state)

  pub is_Throw : (number value state : Expr) → form ≡ tree.Throw number value state → out-Form form ≡ Form-F.Throw number value state
  is_Throw number value state is = ap out-Form (is ∙ sym (tree.rolls-Throw number value state)) ∙ out-roll-Form (Form-F.Throw number value state)

  pub is_Return : (value : Option Expr) → form ≡ tree.Return value → out-Form form ≡ Form-F.Return value
  is_Return value is = ap out-Form (is ∙ sym (tree.rolls-Return value)) ∙ out-roll-Form (Form-F.Return value)

  pub is_SetOption : (option : SessionOption) → form ≡ tree.SetOption option → out-Form form ≡ Form-F.SetOption option
  is_SetOption option is = ap out-Form (is ∙ sym (tree.rolls-SetOption option)) ∙ out-roll-Form (Form-F.SetOption option)

  pub is_BeginTransaction : (name : Option (List ℕ)) → form ≡ tree.BeginTransaction name → out-Form form ≡ Form-F.BeginTransaction name
  is_BeginTransaction name is = ap out-Form (is ∙ sym (tree.rolls-BeginTransaction name)) ∙ out-roll-Form (Form-F.BeginTransaction name)

  pub is_Commit : (name : Option (List ℕ)) → form ≡ tree.Commit name → out-Form form ≡ Form-F.Commit name
  is_Commit name is = ap out-Form (is ∙ sym (tree.rolls-Commit name)) ∙ out-roll-Form (Form-F.Commit name)

  pub is_Rollback : (name : Option (List ℕ)) → form ≡ tree.Rollback name → out-Form form ≡ Form-F.Rollback name
  is_Rollback name is = ap out-Form (is ∙ sym (tree.rolls-Rollback name)) ∙ out-roll-Form (Form-F.Rollback name)

  pub is_Save : (name : List ℕ) → form ≡ tree.Save name → out-Form form ≡ Form-F.Save name
  is_Save name is = ap out-Form (is ∙ sym (tree.rolls-Save name)) ∙ out-roll-Form (Form-F.Save name)

  pub is_CreateTable : (table : TableTree) (text : List ℕ) → form ≡ tree.CreateTable table text → out-Form form ≡ Form-F.CreateTable table text
  is_CreateTable table text is = ap out-Form (is ∙ sym (tree.rolls-CreateTable table text)) ∙ out-roll-Form (Form-F.CreateTable table text)

  pub is_DeclareCursor : (name : List ℕ) (select : Select) → form ≡ tree.DeclareCursor name select → out-Form form ≡ Form-F.DeclareCursor name select
  is_DeclareCursor name select is = ap out-Form (is ∙ sym (tree.rolls-DeclareCursor name select)) ∙ out-roll-Form (Form-F.DeclareCursor name select)

  pub is_OpenCursor : (name : List ℕ) → form ≡ tree.OpenCursor name → out-Form form ≡ Form-F.OpenCursor name
  is_OpenCursor name is = ap out-Form (is ∙ sym (tree.rolls-OpenCursor name)) ∙ out-roll-Form (Form-F.OpenCursor name)

  pub is_Fetch : (name : List ℕ) (variables : List (List ℕ)) → form ≡ tree.Fetch name variables → out-Form form ≡ Form-F.Fetch name variables
  is_Fetch name variables is = ap out-Form (is ∙ sym (tree.rolls-Fetch name variables)) ∙ out-roll-Form (Form-F.Fetch name variables)

  pub is_CloseCursor : (name : List ℕ) → form ≡ tree.CloseCursor name → out-Form form ≡ Form-F.CloseCursor name
  is_CloseCursor name is = ap out-Form (is ∙ sym (tree.rolls-CloseCursor name)) ∙ out-roll-Form (Form-F.CloseCursor name)

  pub is_Deallocate : (name : List ℕ) → form ≡ tree.Deallocate name → out-Form form ≡ Form-F.Deallocate name
  is_Deallocate name is = ap out-Form (is ∙ sym (tree.rolls-Deallocate name)) ∙ out-roll-Form (Form-F.Deallocate name)

  pub is_Use : (name : List ℕ) → form ≡ tree.Use name → out-Form form ≡ Form-F.Use name
  is_Use name is = ap out-Form (is ∙ sym (tree.rolls-Use name)) ∙ out-roll-Form (Form-F.Use name)

  pub is_Execute : (status : Option (List ℕ)) (name : List ℕ) (arguments : List Argument) → form ≡ tree.Execute status name arguments → out-Form form ≡ Form-F.Execute status name arguments
  is_Execute status name arguments is = ap out-Form (is ∙ sym (tree.rolls-Execute status name arguments)) ∙ out-roll-Form (Form-F.Execute status name arguments)

  pub is_Select : (select : Select) → form ≡ tree.Select select → out-Form form ≡ Form-F.Select select
  is_Select select is = ap out-Form (is ∙ sym (tree.rolls-Select select)) ∙ out-roll-Form (Form-F.Select select)

  pub is_Insert : (table : List ℕ) (columns : List (List ℕ)) (rows : InsertRows) → form ≡ tree.Insert table columns rows → out-Form form ≡ Form-F.Insert table columns rows
  is_Insert table columns rows is = ap out-Form (is ∙ sym (tree.rolls-Insert table columns rows)) ∙ out-roll-Form (Form-F.Insert table columns rows)

  pub is_Update : (table : List ℕ) (sets : List Assignment) (filter : Option Test) → form ≡ tree.Update table sets filter → out-Form form ≡ Form-F.Update table sets filter
  is_Update table sets filter is = ap out-Form (is ∙ sym (tree.rolls-Update table sets filter)) ∙ out-roll-Form (Form-F.Update table sets filter)

  pub is_Delete : (table : List ℕ) (filter : Option Test) → form ≡ tree.Delete table filter → out-Form form ≡ Form-F.Delete table filter
  is_Delete table filter is = ap out-Form (is ∙ sym (tree.rolls-Delete table filter)) ∙ out-roll-Form (Form-F.Delete table filter)

  pub is_Drop : (kind : DropKind) (name : List ℕ) → form ≡ tree.Drop kind name → out-Form form ≡ Form-F.Drop kind name
  is_Drop kind name is = ap out-Form (is ∙ sym (tree.rolls-Drop kind name)) ∙ out-roll-Form (Form-F.Drop kind name)

  pub is_Break : form ≡ tree.Break → out-Form form ≡ Form-F.Break
  is_Break is = ap out-Form (is ∙ sym tree.rolls-Break) ∙ out-roll-Form Form-F.Break

  pub is_Continue : form ≡ tree.Continue → out-Form form ≡ Form-F.Continue
  is_Continue is = ap out-Form (is ∙ sym tree.rolls-Continue) ∙ out-roll-Form Form-F.Continue

  pub is_ThrowAgain : form ≡ tree.ThrowAgain → out-Form form ≡ Form-F.ThrowAgain
  is_ThrowAgain is = ap out-Form (is ∙ sym tree.rolls-ThrowAgain) ∙ out-roll-Form Form-F.ThrowAgain

  -- a form of such a node
  pub rolled : (node : Layer) (made : TreeForm) → out-Form form ≡ node → roll-Form node ≡ made → form ≡ made
  rolled node made is rolls = sym (roll-out-Form form) ∙ ap roll-Form is ∙ rolls

-- it is done with what is made of the values of expressions: it is no SELECT
computed_node : (form : TreeForm) (node : Layer) (around : Around) (shapes : List TableTree) (of : Bound) → ((select : Select) → form ≢ tree.Select select) → out-Form form ≡ node → works_bound around node shapes of ≡ computes around node shapes of
computed_node form (Form-F.Select select) around shapes of other is = absurd (other select (rolled form (Form-F.Select select) (tree.Select select) is (tree.rolls-Select select)))
computed_node form node around shapes of other is = refl

pub does_computed : {before after : PortPast} (around : Around) (form : TreeForm) (shapes : List TableTree) (of : Bound) {p new : SessionProgress} {result : Result (Result Effect Failure) Memory} → ((select : Select) → form ≢ tree.Select select)
    → Did before after (computes around (out-Form form) shapes of) p result new → Did before after (works_bound around (out-Form form) shapes of) p result new
does_computed {before = before} {after = after} around form shapes of {p = p} {new = new} {result = result} other did =
    subst (λ (tree : Doing (Result Effect Failure)). Did before after tree p result new) (sym (computed_node form (out-Form form) around shapes of other refl)) did
