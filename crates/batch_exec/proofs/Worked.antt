-- What a statement means by its form, where it is done with its effect.
use Rattle.std.proofs.Common.{◌≡◌, ◌≢◌, ℕ, List, [], Option, Result, Ok, Err, refl, sym, subst}
use Rattle.std.specs.Prelude.{IfOk}
use Rattle.session_vars.specs.declared.Variable.{Variable}
use Rattle.value_types.specs.declared.memory.Memory.{Memory}
use Rattle.tsql_tree.specs.declared.definition.TableTree.{TableTree}
use Rattle.tsql_tree.specs.declared.option.SessionOption.{SessionOption}
use Rattle.tsql_tree.specs.declared.query.Expr.{Expr}
use Rattle.tsql_tree.specs.declared.query.Select.{Select}
use Rattle.tsql_tree.specs.declared.statement.DropKind.{DropKind}
use Rattle.tsql_tree.specs.declared.statement.Statement.{Statement}
use Rattle.tsql_tree.specs.declared.statement.Form.{Form as TreeForm, Form-F, out-Form}
use Rattle.tsql_tree.specs.declared.statement.Form.TheVariants as tree
use Rattle.binder.specs.Names.{Layer, form_of}
use Rattle.step_model.specs.Port.{PortPast}
use Rattle.batch_meaning.specs.declared.exit.Exit.{Exit}
use Rattle.batch_meaning.specs.declared.exit.Exit.TheVariants.{On}
use Rattle.batch_meaning.specs.Raised.{Around}
use Rattle.batch_meaning.specs.Progress.{SessionProgress}
use Rattle.batch_meaning.specs.Doing.{Doing, Did}
use Rattle.batch_meaning.specs.Meaning.{Meaning, does, mean_form}
use Rattle.batch_meaning.specs.Working.{works}
use Rattle.batch_meaning.specs.declared.failure.Failure.{Failure}
use Rattle.batch_meaning.specs.Selecting.{Effect}
use Rattle.batch_meaning.specs.Values.{Assigned}
use Rattle.session_state.specs.Parts.{SetsFit}
use Rattle.session_state.proofs.Assigning.{none_fit}
use Rattle.batch_exec.specs.Running.{IsSimple, effects}
use Rattle.statement_exec.proofs.Forms.{rolled}

-- ---- done with its effect

-- it is none of these forms, which are done otherwise
abbrev pub IsOther : TreeForm → Type 0
IsOther form = (form ≢ tree.Break)
    × (form ≢ tree.Continue)
    × ((value : Expr) → form ≢ tree.Print value)
    × ((value : Expr) (class : Expr) (state : Expr) → form ≢ tree.RaiseError value class state)
    × ((number : Expr) (value : Expr) (state : Expr) → form ≢ tree.Throw number value state)
    × (form ≢ tree.ThrowAgain)
    × ((option : SessionOption) → form ≢ tree.SetOption option)
    × ((value : Option Expr) → form ≢ tree.Return value)

-- nor one of these, of which each has a way of its own
abbrev pub IsWorked : TreeForm → Type 0
IsWorked form = ((name : Option (List ℕ)) → form ≢ tree.BeginTransaction name)
    × ((name : Option (List ℕ)) → form ≢ tree.Commit name)
    × ((name : Option (List ℕ)) → form ≢ tree.Rollback name)
    × ((name : List ℕ) → form ≢ tree.Save name)
    × ((kind : DropKind) (name : List ℕ) → form ≢ tree.Drop kind name)
    × ((table : TableTree) (text : List ℕ) → form ≢ tree.CreateTable table text)
    × ((name : List ℕ) (select : Select) → form ≢ tree.DeclareCursor name select)
    × ((name : List ℕ) → form ≢ tree.OpenCursor name)
    × ((name : List ℕ) (variables : List (List ℕ)) → form ≢ tree.Fetch name variables)
    × ((name : List ℕ) → form ≢ tree.CloseCursor name)
    × ((name : List ℕ) → form ≢ tree.Deallocate name)
    × ((name : List ℕ) → form ≢ tree.Use name)

effects_node : (form : TreeForm) (node : Layer) (one : Statement → Meaning) (around : Around) (s : Statement) → IsSimple node → IsOther form → out-Form form ≡ node → mean_form one around s node ≡ does around s On (effects around s node)
unfolding mean_form
effects_node form (Form-F.If test so otherwise) one around s simple other is = absurd simple
effects_node form (Form-F.While test body) one around s simple other is = absurd simple
effects_node form (Form-F.Block body) one around s simple other is = absurd simple
effects_node form (Form-F.TryCatch body handler) one around s simple other is = absurd simple
effects_node form (Form-F.Insert table columns rows) one around s simple other is = absurd simple
effects_node form (Form-F.Update table sets filter) one around s simple other is = absurd simple
effects_node form (Form-F.Delete table filter) one around s simple other is = absurd simple
effects_node form (Form-F.Execute status name arguments) one around s simple other is = absurd simple
effects_node form Form-F.Break one around s simple other is = absurd (other.0 (rolled form Form-F.Break tree.Break is tree.rolls-Break))
effects_node form Form-F.Continue one around s simple other is = absurd (other.1 (rolled form Form-F.Continue tree.Continue is tree.rolls-Continue))
effects_node form (Form-F.Print value) one around s simple other is = absurd (other.2 value (rolled form (Form-F.Print value) (tree.Print value) is (tree.rolls-Print value)))
effects_node form (Form-F.RaiseError value class state) one around s simple other is = absurd (other.3 value class state (rolled form (Form-F.RaiseError value class state) (tree.RaiseError value class state) is (tree.rolls-RaiseError value class state)))
effects_node form (Form-F.Throw number value state) one around s simple other is = absurd (other.4 number value state (rolled form (Form-F.Throw number value state) (tree.Throw number value state) is (tree.rolls-Throw number value state)))
effects_node form Form-F.ThrowAgain one around s simple other is = absurd (other.5 (rolled form Form-F.ThrowAgain tree.ThrowAgain is tree.rolls-ThrowAgain))
effects_node form (Form-F.SetOption option) one around s simple other is = absurd (other.6 option (rolled form (Form-F.SetOption option) (tree.SetOption option) is (tree.rolls-SetOption option)))
effects_node form (Form-F.Return value) one around s simple other is = absurd (other.7 value (rolled form (Form-F.Return value) (tree.Return value) is (tree.rolls-Return value)))
effects_node form node one around s simple other is = refl

pub does_effects : {before after : PortPast} (one : Statement → Meaning) (around : Around) (s : Statement) (form : TreeForm) {p new : SessionProgress} {result : Result Exit Memory} → out-Form form ≡ form_of s → IsSimple (form_of s) → IsOther form
    → Did before after (does around s On (effects around s (form_of s))) p result new → Did before after (mean_form one around s (form_of s)) p result new
does_effects {before = before} {after = after} one around s form {p = p} {new = new} {result = result} is simple other did =
    subst (λ (tree : Doing Exit). Did before after tree p result new) (sym (effects_node form (form_of s) one around s simple other is)) did

-- what assigns nothing fits
pub none_sets : (vars : List Variable) (result : Result Effect Failure) → IfOk result (λ (e : Effect). e.sets ≡ []) → IfOk result (λ (e : Effect). SetsFit vars e.sets)
none_sets vars (Ok effect) none = subst (λ (sets : List Assigned). SetsFit vars sets) (sym none) (none_fit vars)
none_sets vars (Err failure) none = tt

worked_node : (form : TreeForm) (node : Layer) (around : Around) (s : Statement) → IsWorked form → out-Form form ≡ node → effects around s node ≡ works around s
worked_node form (Form-F.BeginTransaction name) around s other is = absurd (other.0 name (rolled form (Form-F.BeginTransaction name) (tree.BeginTransaction name) is (tree.rolls-BeginTransaction name)))
worked_node form (Form-F.Commit name) around s other is = absurd (other.1 name (rolled form (Form-F.Commit name) (tree.Commit name) is (tree.rolls-Commit name)))
worked_node form (Form-F.Rollback name) around s other is = absurd (other.2 name (rolled form (Form-F.Rollback name) (tree.Rollback name) is (tree.rolls-Rollback name)))
worked_node form (Form-F.Save name) around s other is = absurd (other.3 name (rolled form (Form-F.Save name) (tree.Save name) is (tree.rolls-Save name)))
worked_node form (Form-F.Drop kind name) around s other is = absurd (other.4 kind name (rolled form (Form-F.Drop kind name) (tree.Drop kind name) is (tree.rolls-Drop kind name)))
worked_node form (Form-F.CreateTable table text) around s other is = absurd (other.5 table text (rolled form (Form-F.CreateTable table text) (tree.CreateTable table text) is (tree.rolls-CreateTable table text)))
worked_node form (Form-F.DeclareCursor name select) around s other is = absurd (other.6 name select (rolled form (Form-F.DeclareCursor name select) (tree.DeclareCursor name select) is (tree.rolls-DeclareCursor name select)))
worked_node form (Form-F.OpenCursor name) around s other is = absurd (other.7 name (rolled form (Form-F.OpenCursor name) (tree.OpenCursor name) is (tree.rolls-OpenCursor name)))
worked_node form (Form-F.Fetch name variables) around s other is = absurd (other.8 name variables (rolled form (Form-F.Fetch name variables) (tree.Fetch name variables) is (tree.rolls-Fetch name variables)))
worked_node form (Form-F.CloseCursor name) around s other is = absurd (other.9 name (rolled form (Form-F.CloseCursor name) (tree.CloseCursor name) is (tree.rolls-CloseCursor name)))
worked_node form (Form-F.Deallocate name) around s other is = absurd (other.10 name (rolled form (Form-F.Deallocate name) (tree.Deallocate name) is (tree.rolls-Deallocate name)))
worked_node form (Form-F.Use name) around s other is = absurd (other.11 name (rolled form (Form-F.Use name) (tree.Use name) is (tree.rolls-Use name)))
worked_node form node around s other is = refl

pub does_worked : {before after : PortPast} (around : Around) (s : Statement) (form : TreeForm) {p new : SessionProgress} {result : Result (Result Effect Failure) Memory} → out-Form form ≡ form_of s → IsWorked form
    → Did before after (works around s) p result new → Did before after (effects around s (form_of s)) p result new
does_worked {before = before} {after = after} around s form {p = p} {new = new} {result = result} is other did =
    subst (λ (tree : Doing (Result Effect Failure)). Did before after tree p result new) (sym (worked_node form (form_of s) around s other is)) did

-- by its form
pub does_effect : {before after : PortPast} (around : Around) (s : Statement) (node : Layer) {p new : SessionProgress} {result : Result (Result Effect Failure) Memory} → form_of s ≡ node
    → Did before after (effects around s node) p result new → Did before after (effects around s (form_of s)) p result new
does_effect {before = before} {after = after} around s node {p = p} {new = new} {result = result} is did = subst (λ (n : Layer). Did before after (effects around s n) p result new) (sym is) did

-- by its form
pub does_form : {before after : PortPast} (one : Statement → Meaning) (around : Around) (s : Statement) (node : Layer) {p new : SessionProgress} {result : Result Exit Memory} → form_of s ≡ node
    → Did before after (mean_form one around s node) p result new → Did before after (mean_form one around s (form_of s)) p result new
does_form {before = before} {after = after} one around s node {p = p} {new = new} {result = result} is did = subst (λ (n : Layer). Did before after (mean_form one around s n) p result new) (sym is) did
