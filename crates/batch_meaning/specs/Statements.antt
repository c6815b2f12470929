-- Own: what a text is read as: statements, or the definition of a procedure or trigger, or it is refused. And the variables that a
-- batch, a procedure or a trigger declares, in the order of the text.
use Rattle.std.specs.Prelude.{◌≡◌, ℕ, pos, if◌then◌else◌, List, [], ◌∷◌, ◌++◌, length, map, nat_lt, Option, Some, None, Result, Ok, Err}
use Rattle.tsql_tree.specs.declared.statement.Batch.{Batch}
use Rattle.tsql_tree.specs.declared.statement.Batch.TheVariants.{Body, Definition}
use Rattle.tsql_tree.specs.declared.statement.Declaration.{Declaration}
use Rattle.tsql_tree.specs.declared.statement.Form.{Form-F}
use Rattle.tsql_tree.specs.declared.statement.Statement.{Statement, Statement-F, fold-Statement}
use Rattle.session_vars.specs.declared.Variable.{Variable}
use Rattle.session_vars.specs.Variables.{count_limit, fresh}
use Rattle.tsql_grammar.specs.declared.fault.ParseFault.{ParseFault}
use Rattle.tsql_grammar.specs.declared.fault.ParseFault.TheVariants as fault
use Rattle.tsql_grammar.specs.Parsed.{BatchOf}
use Rattle.batch_meaning.specs.declared.form.ReadText.{ReadText}
use Rattle.batch_meaning.specs.declared.form.ReadText.TheVariants as text

-- ---- variables

-- what is declared behind variables; beyond the limit nothing is
abbrev pub Declaring : Type 0
Declaring = List Variable → List Variable

-- a variable that is declared has no value at first
abbrev pub declares_one : Declaration → Declaring
declares_one of vars = if nat_lt (length vars) count_limit then vars ++ fresh of.name of.kind ∷ [] else vars

abbrev pub declares_all : List Declaration → Declaring
declares_all [] vars = vars
declares_all (of ∷ rest) vars = declares_all rest (declares_one of vars)

-- one after another
abbrev pub in_turn : List Declaring → Declaring
in_turn [] vars = vars
in_turn (one ∷ rest) vars = in_turn rest (one vars)

abbrev pub if_there : Option Declaring → Declaring
if_there None vars = vars
if_there (Some one) vars = one vars

-- of a form, by what stands in it
abbrev pub vars_form : Form-F Declaring Declaring → Declaring
vars_form (Form-F.Declare declarations) vars = declares_all declarations vars
vars_form (Form-F.If test so otherwise) vars = if_there otherwise (so vars)
vars_form (Form-F.While test body) vars = body vars
vars_form (Form-F.Block body) vars = in_turn body vars
vars_form (Form-F.TryCatch body handler) vars = in_turn handler (in_turn body vars)
vars_form form vars = vars

abbrev pub vars_statement : Statement-F Declaring Declaring → Declaring
vars_statement statement = statement.form

abbrev pub vars_in : Statement → Declaring
vars_in = fold-Statement Declaring Declaring vars_form vars_statement

-- the variables that statements declare behind these
abbrev pub vars_behind : List Variable → List Statement → List Variable
vars_behind vars statements = in_turn (map vars_in statements) vars

-- the variables of a batch, all of which stand from its beginning, also those of a DECLARE that is never reached
abbrev pub vars_of : List Statement → List Variable
vars_of statements = vars_behind [] statements

-- ---- texts

abbrev pub text_of : Batch → ReadText
text_of (Body statements) = text.Statements statements
text_of (Definition line of units) = text.Defines (pos line) of units

-- what parsing gave; a text that is refused tells why
abbrev pub IsRead : Result Batch ParseFault → ReadText → Type 0
IsRead (Ok batch) read = read ≡ text_of batch
IsRead (Err (fault.Refused number line near)) read = (code : ℕ) × (number ≡ pos code) × (read ≡ text.Refused (pos line) code near)
IsRead (Err fault.Memory) read = ⊥

-- The text is read as this.
abbrev pub ReadsAs : List ℕ → ReadText → Type 0
ReadsAs units read = (outcome : Result Batch ParseFault) × BatchOf units outcome × IsRead outcome read
