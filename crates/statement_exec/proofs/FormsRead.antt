-- By which forms of a statement a name is only read.
use Rattle.std.proofs.Common.{◌≡◌, ◌≢◌, ℕ, true, List, Option, refl}
use Rattle.tsql_tree.specs.declared.definition.TableTree.{TableTree}
use Rattle.tsql_tree.specs.declared.query.Test.{Test}
use Rattle.tsql_tree.specs.declared.statement.Argument.{Argument}
use Rattle.tsql_tree.specs.declared.statement.Assignment.{Assignment}
use Rattle.tsql_tree.specs.declared.statement.DropKind.{DropKind}
use Rattle.tsql_tree.specs.declared.statement.InsertRows.{InsertRows}
use Rattle.tsql_tree.specs.declared.statement.Form.{Form as TreeForm, Form-F, out-Form}
use Rattle.tsql_tree.specs.declared.statement.Form.TheVariants as tree
use Rattle.binder.specs.Names.{Layer}
use Rattle.batch_meaning.specs.Working.{is_read_by}
use Rattle.statement_exec.proofs.Forms.{rolled}

-- a form that writes no table, drops, runs and refers to nothing
module _ (form : TreeForm) (name : List ℕ) (no_insert : (table : List ℕ) (columns : List (List ℕ)) (rows : InsertRows) → form ≢ tree.Insert table columns rows)
    (no_update : (table : List ℕ) (sets : List Assignment) (filter : Option Test) → form ≢ tree.Update table sets filter) (no_delete : (table : List ℕ) (filter : Option Test) → form ≢ tree.Delete table filter)
    (no_table : (table : TableTree) (text : List ℕ) → form ≢ tree.CreateTable table text) (no_drop : (kind : DropKind) (dropped : List ℕ) → form ≢ tree.Drop kind dropped)
    (no_call : (status : Option (List ℕ)) (procedure : List ℕ) (arguments : List Argument) → form ≢ tree.Execute status procedure arguments) where
  reads_node : (node : Layer) → out-Form form ≡ node → true ≡ is_read_by node name
  reads_node (Form-F.Insert table columns rows) is = absurd (no_insert table columns rows (rolled form (Form-F.Insert table columns rows) (tree.Insert table columns rows) is (tree.rolls-Insert table columns rows)))
  reads_node (Form-F.Update table sets filter) is = absurd (no_update table sets filter (rolled form (Form-F.Update table sets filter) (tree.Update table sets filter) is (tree.rolls-Update table sets filter)))
  reads_node (Form-F.Delete table filter) is = absurd (no_delete table filter (rolled form (Form-F.Delete table filter) (tree.Delete table filter) is (tree.rolls-Delete table filter)))
  reads_node (Form-F.CreateTable table text) is = absurd (no_table table text (rolled form (Form-F.CreateTable table text) (tree.CreateTable table text) is (tree.rolls-CreateTable table text)))
  reads_node (Form-F.Drop kind dropped) is = absurd (no_drop kind dropped (rolled form (Form-F.Drop kind dropped) (tree.Drop kind dropped) is (tree.rolls-Drop kind dropped)))
  reads_node (Form-F.Execute status procedure arguments) is = absurd (no_call status procedure arguments (rolled form (Form-F.Execute status procedure arguments) (tree.Execute status procedure arguments) is (tree.rolls-Execute status procedure arguments)))
  reads_node node is = refl

  pub reads_other : true ≡ is_read_by (out-Form form) name
  reads_other = reads_node (out-Form form) refl
