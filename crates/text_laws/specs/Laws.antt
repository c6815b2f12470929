-- Own: the laws of texts: what CREATE TABLE keeps of the text around it is, alone, the text of that table, wherever it stands in a batch or in
-- the body of a procedure or trigger; and what CREATE PROCEDURE and CREATE TRIGGER keep is, alone, the text of such a definition.
use Rattle.std.specs.Prelude.{◌≡◌, ℕ, zero, suc, ◌≤◌, Bool, true, false, ◌||◌, ◌&&◌, List, ◌∷◌, ◌++◌, map, length, None, Ok}
use Rattle.std.specs.List.{AllByRecursion}
use Rattle.std.specs.Option.{ForSome}
use Rattle.tsql_lexer.specs.declared.lexeme.Spanned.{Spanned}
use Rattle.tsql_lexer.specs.Reading.{lexing_of}
use Rattle.tsql_tree.specs.declared.definition.Definition.{Definition}
use Rattle.tsql_tree.specs.declared.definition.Definition.TheVariants.{Table, Procedure, Trigger}
use Rattle.tsql_tree.specs.declared.statement.Batch.TheVariants as batch
use Rattle.tsql_tree.specs.declared.statement.Batch.TheVariants.{Body}
use Rattle.tsql_tree.specs.declared.statement.Form.{Form-F}
use Rattle.tsql_tree.specs.declared.statement.Statement.{Statement, Statement-F, fold-Statement}
use Rattle.tsql_grammar.specs.Trees.{slice}
use Rattle.tsql_grammar.specs.Parsed.{lexemes_of, BatchOf, DefinitionOf}
use Rattle.session_vars.specs.declared.Variable.{Variable}
use Rattle.bound_tree.specs.declared.write.Bound.{Bound}
use Rattle.binder.specs.Names.{Layer, form_of}
use Rattle.table_rows.specs.Definitions.{longest_text, defined_name, Defines}
use Rattle.batch_meaning.specs.declared.form.ReadText.{ReadText}
use Rattle.batch_meaning.specs.declared.form.ReadText.TheVariants as text
use Rattle.batch_meaning.specs.Selecting.{bound_over}
use Rattle.batch_meaning.specs.Statements.{ReadsAs}
use Rattle.text_laws.specs.Slices.{moved_by, end_behind}
use Rattle.text_laws.specs.Rows.{some_of, maybe_so, table_leaves}
use Rattle.text_laws.specs.Placeless.{AreLike}

-- a slice from a lexeme to a lexeme has the lexemes between
abbrev pub SliceLexes : Type 0
SliceLexes = (text : List ℕ) (front more back : List Spanned) (first : Spanned) → lexemes_of text ≡ front ++ (first ∷ (more ++ back))
    → lexing_of (slice text first.start (end_behind first.end more)) ≡ (map (moved_by first) (first ∷ more), None)

-- ---- statements, and what stands in them

-- each statement that a form holds
abbrev pub EachIn : (Statement → Type 0) → Layer → Type 0
EachIn P (Form-F.If test so otherwise) = P so × ForSome otherwise P
EachIn P (Form-F.While test body) = P body
EachIn P (Form-F.Block body) = AllByRecursion P body
EachIn P (Form-F.TryCatch body handler) = AllByRecursion P body × AllByRecursion P handler
EachIn P form = Unit {0}

-- a statement, and what stands in it down to so many levels
abbrev pub Within : ℕ → (Statement → Type 0) → Statement → Type 0
Within zero P statement = Unit {0}
Within (suc levels) P statement = P statement × EachIn (λ inner. Within levels P inner) (form_of statement)

-- at whatever level it stands
abbrev pub Everywhere : (Statement → Type 0) → Statement → Type 0
Everywhere P statement = (levels : ℕ) → Within levels P statement

-- ---- variables

-- whether a form declares a variable, by whether what stands in it does
abbrev pub declares_form : Form-F Bool Bool → Bool
declares_form (Form-F.Declare declarations) = true
declares_form (Form-F.If test so otherwise) = so || maybe_so otherwise
declares_form (Form-F.While test body) = body
declares_form (Form-F.Block body) = some_of body
declares_form (Form-F.TryCatch body handler) = some_of body || some_of handler
declares_form form = false

abbrev pub declares_statement : Statement-F Bool Bool → Bool
declares_statement statement = statement.form

-- a statement declares a variable, at whatever level
abbrev pub declares : Statement → Bool
declares = fold-Statement Bool Bool declares_form declares_statement

-- one of a batch does
abbrev pub are_declared : List Statement → Bool
are_declared statements = some_of (map declares statements)

-- ---- what a CREATE TABLE keeps

-- Of so many units at most, it is the text of the definition of that table, unless variables are declared in the batch and the table
-- leaves its row: such a CHECK reads in the batch, where the variable that it names is declared, and not alone.
abbrev pub KeptReadsAs : ℕ → Bool → Layer → Type 0
KeptReadsAs most declared (Form-F.CreateTable table kept) = (length kept ≤ most) × ((declared && table_leaves table) ≡ false → DefinitionOf kept (Ok (Table table)))
KeptReadsAs most declared form = Unit {0}

abbrev pub KeptReads : ℕ → Bool → Statement → Type 0
KeptReads most declared statement = KeptReadsAs most declared (form_of statement)

-- it defines the table
abbrev pub KeptDefinesAs : Bool → Layer → Type 0
KeptDefinesAs declared (Form-F.CreateTable table kept) = (declared && table_leaves table) ≡ false → Defines table.name kept (Table table)
KeptDefinesAs declared form = Unit {0}

abbrev pub KeptDefines : Bool → Statement → Type 0
KeptDefines declared statement = KeptDefinesAs declared (form_of statement)

-- where a text reads as a batch, what each CREATE TABLE keeps of it reads, alone, as that table
abbrev pub CreatedReads : Type 0
CreatedReads = (text : List ℕ) (statements : List Statement) → BatchOf text (Ok (Body statements)) → AllByRecursion (Everywhere (KeptReads (length text) (are_declared statements))) statements

-- and so it defines that table, where the text is not too long
abbrev pub CreatedText : Type 0
CreatedText = (text : List ℕ) (statements : List Statement) → BatchOf text (Ok (Body statements)) → length text ≤ longest_text → AllByRecursion (Everywhere (KeptDefines (are_declared statements))) statements

-- ---- what is bound

-- a CREATE TABLE that is bound leaves no row
abbrev pub StaysAs : Statement → Layer → Type 0
StaysAs statement (Form-F.CreateTable table kept) = (definitions : List Definition) (vars : List Variable) (of : Bound) → bound_over definitions vars statement ≡ Ok of → table_leaves table ≡ false
StaysAs statement form = Unit {0}

abbrev pub CreatedStays : Type 0
CreatedStays = (statement : Statement) → StaysAs statement (form_of statement)

-- ---- what a text is read as

-- the text that a CREATE TABLE keeps reads as its table, over whatever definitions and variables it is bound
abbrev pub ReadsBackAs : Statement → Layer → Type 0
ReadsBackAs statement (Form-F.CreateTable table text) = (definitions : List Definition) (vars : List Variable) (of : Bound) → bound_over definitions vars statement ≡ Ok of → Defines table.name text (Table table)
ReadsBackAs statement form = Unit {0}

abbrev pub ReadsBack : Statement → Type 0
ReadsBack statement = ReadsBackAs statement (form_of statement)

-- so it is of all statements of a body
abbrev pub BodyReadsBack : Definition → Type 0
BodyReadsBack (Table table) = Unit {0}
BodyReadsBack (Procedure procedure) = AllByRecursion (Everywhere ReadsBack) procedure.body
BodyReadsBack (Trigger trigger) = AllByRecursion (Everywhere ReadsBack) trigger.body

-- of what a text defines
abbrev pub DefinedText : Type 0
DefinedText = (name text : List ℕ) (definition : Definition) → Defines name text definition → BodyReadsBack definition

-- and of what a text that is read as a batch defines
abbrev pub DefinedBatch : Type 0
DefinedBatch = (text : List ℕ) (line : ℕ) (definition : Definition) (kept : List ℕ) → BatchOf text (Ok (batch.Definition line definition kept)) → length text ≤ longest_text → BodyReadsBack definition

-- what CREATE PROCEDURE or CREATE TRIGGER keeps defines the same, but for places: its lines count from its own first line
abbrev pub KeepsDefinition : Definition → List ℕ → Type 0
KeepsDefinition of kept = (own : Definition) × Defines (defined_name of) kept own × AreLike of own

-- so it is of all that a text is read as
abbrev pub TextReadsBack : ReadText → Type 0
TextReadsBack (text.Statements statements) = AllByRecursion (Everywhere ReadsBack) statements
TextReadsBack (text.Defines line of kept) = KeepsDefinition of kept
TextReadsBack (text.Refused line code near) = Unit {0}

-- a text that is not too long is read as what reads back
abbrev pub ServedText : Type 0
ServedText = (units : List ℕ) (read : ReadText) → ReadsAs units read → length units ≤ longest_text → TextReadsBack read

-- So it is of what a text is read as for a call by RPC, which runs what the text defines itself.
abbrev pub CallReadsBack : ReadText → Type 0
CallReadsBack (text.Statements statements) = Unit {0}
CallReadsBack (text.Defines line of kept) = BodyReadsBack of
CallReadsBack (text.Refused line code near) = Unit {0}

abbrev pub ServedCall : Type 0
ServedCall = (units : List ℕ) (read : ReadText) → ReadsAs units read → length units ≤ longest_text → CallReadsBack read
