-- Own: what of a definition does not depend on where its text stands: all but the lines of its statements, and the text that a CREATE TABLE
-- among them keeps, which is cut from the text around it.
use Rattle.std.specs.Prelude.{◌≡◌, [], map}
use Rattle.tsql_tree.specs.declared.definition.Definition.{Definition}
use Rattle.tsql_tree.specs.declared.definition.Definition.TheVariants.{Procedure, Trigger}
use Rattle.tsql_tree.specs.declared.definition.ProcedureTree.{ProcedureTree}
use Rattle.tsql_tree.specs.declared.definition.TriggerTree.{TriggerTree}
use Rattle.tsql_tree.specs.declared.statement.Form.{Form, Form-F, fold-Form, roll-Form}
use Rattle.tsql_tree.specs.declared.statement.Form.TheVariants as form
use Rattle.tsql_tree.specs.declared.statement.Statement.{Statement, Statement-F, fold-Statement, roll-Statement}

-- ---- statements

abbrev pub placeless_layer : Form-F Form Statement → Form
placeless_layer (Form-F.CreateTable table kept) = form.CreateTable table []
placeless_layer form = roll-Form form

abbrev pub lineless : Statement-F Form Statement → Statement
lineless statement = roll-Statement (record { line = 0; form = statement.form })

abbrev pub placeless_form : Form → Form
placeless_form = fold-Form Form Statement placeless_layer lineless

abbrev pub placeless : Statement → Statement
placeless = fold-Statement Form Statement placeless_layer lineless

-- ---- definitions

pub record AreLikeProcedures (one other : ProcedureTree) : Type 0 where
  pub name : one.name ≡ other.name
  pub parameters : one.parameters ≡ other.parameters
  pub body : map placeless one.body ≡ map placeless other.body

pub record AreLikeTriggers (one other : TriggerTree) : Type 0 where
  pub name : one.name ≡ other.name
  pub table : one.table ≡ other.table
  pub events : one.events ≡ other.events
  pub body : map placeless one.body ≡ map placeless other.body

-- both are procedures or triggers, which differ in places alone
abbrev pub AreLike : Definition → Definition → Type 0
AreLike (Procedure one) (Procedure other) = AreLikeProcedures one other
AreLike (Trigger one) (Trigger other) = AreLikeTriggers one other
AreLike one other = ⊥
