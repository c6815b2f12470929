-- Transact-SQL reference, statement by statement: what is read of statements that hold others, and of
-- batches and definitions. Each is a part of a production.
use Rattle.std.specs.Prelude.{ℕ, Bool, List, ◌∷◌, Some, None, if◌then◌else◌}
use Rattle.tsql_tree.specs.declared.definition.Definition.{Definition}
use Rattle.tsql_tree.specs.declared.definition.Definition.TheVariants as definition
use Rattle.tsql_tree.specs.declared.statement.Batch.{Batch}
use Rattle.tsql_tree.specs.declared.statement.Batch.TheVariants as batch
use Rattle.tsql_tree.specs.declared.statement.Form.{Form}
use Rattle.tsql_tree.specs.declared.statement.Form.TheVariants as form
use Rattle.tsql_tree.specs.declared.statement.Statement.{Statement, roll-Statement}
use Rattle.tsql_grammar.specs.declared.kind.Kind.TheVariants as k
use Rattle.tsql_grammar.specs.declared.kind.Reserved.{Reserved}
use Rattle.tsql_grammar.specs.declared.kind.Reserved.TheVariants as word
use Rattle.tsql_grammar.specs.declared.kind.Word.TheVariants as v
use Rattle.tsql_grammar.specs.declared.rule.Around.{Around}
use Rattle.tsql_grammar.specs.declared.rule.Class.TheVariants as c
use Rattle.tsql_grammar.specs.declared.rule.Rule.TheVariants as r
use Rattle.tsql_grammar.specs.Lookahead.{first_classes}
use Rattle.tsql_grammar.specs.Productions.{outside, within_while, within_catch}
use Rattle.tsql_grammar.specs.Terminals.{Terminal}
use Rattle.tsql_grammar.specs.Trees.{slice, statement}
use Rattle.lexeme_reader.specs.Reading.{Outcome, read, read_in, expect, sees_any, ◌>>=◌}
use Rattle.statement_parts.specs.Forms.{select_form, insert_form, update_form, delete_form, print_form, raise_error_form, return_form}
use Rattle.statement_words.specs.Forms.{drop_form, commit_form, rollback_form, save_form, open_cursor_form, fetch_form, close_cursor_form, deallocate_form, use_form}
use Rattle.statement_words.specs.Signatures.{events_from}

-- ---- statements

-- whether a statement may begin with the next lexeme, by what stands around it
unfoldable pub begins_statement : Around → List Terminal → Bool
begins_statement a w = sees_any (first_classes (r.Statement a)) w

unfoldable pub begins_in_while : List Terminal → Bool
begins_in_while w = begins_statement (within_while outside) w

unfoldable pub begins_outside : List Terminal → Bool
begins_outside w = begins_statement outside w

-- whether one may that is no CREATE TABLE, outside a WHILE
unfoldable pub begins_other_statement : List Terminal → Bool
begins_other_statement w = sees_any (first_classes (r.OtherStatement outside)) w

-- CREATE TABLE behind CREATE, which stands at a line and has so many units of the text before it
abbrev pub create_table_from : List ℕ → ℕ → ℕ → List Terminal → Outcome Statement
create_table_from text line start w = do
  table ← read r.Table w
  Some (roll-Statement (record { line = line; form = form.CreateTable table.0.0 (slice text start table.0.1) }), table.1)

abbrev pub if_form : List ℕ → Around → List Terminal → Outcome Form
if_form text a w = do
  test ← read r.Test w
  does ← read_in text (r.Statement a) test.1
  other ← read_in text (r.Else a) does.1
  Some (form.If test.0 does.0 other.0, other.1)

abbrev pub while_form : List ℕ → Around → List Terminal → Outcome Form
while_form text a w = do
  test ← read r.Test w
  does ← read_in text (r.Statement (within_while a)) test.1
  Some (form.While test.0 does.0, does.1)

-- BEGIN TRY behind these words
abbrev pub try_form : List ℕ → Around → List Terminal → Outcome Form
try_form text a w = do
  tried ← read_in text (r.Body a) w
  word_ ← expect (c.One (k.Reserved word.End)) tried.1
  word_ ← expect (c.One (k.Word v.Try)) word_.1
  skipped ← read r.OptionalSemicolon word_.1
  word_ ← expect (c.One (k.Reserved word.Begin)) skipped.1
  word_ ← expect (c.One (k.Word v.Catch)) word_.1
  caught ← read_in text (r.Body (within_catch a)) word_.1
  word_ ← expect (c.One (k.Reserved word.End)) caught.1
  last ← expect (c.One (k.Word v.Catch)) word_.1
  Some (form.TryCatch tried.0 caught.0, last.1)

-- BEGIN .. END behind BEGIN
abbrev pub block_form : List ℕ → Around → List Terminal → Outcome Form
block_form text a w = do
  skipped ← read r.Semicolons w
  first ← read_in text (r.Statement a) skipped.1
  body ← read_in text (r.Body a) first.1
  last ← expect (c.One (k.Reserved word.End)) body.1
  Some (form.Block (first.0 ∷ body.0), last.1)

-- what is read behind the first word of a statement that is no CREATE TABLE
abbrev pub form_from : List ℕ → Around → Reserved → List Terminal → Outcome Form
form_from text a word.Select w = select_form w
form_from text a word.Insert w = insert_form w
form_from text a word.Update w = update_form w
form_from text a word.Delete w = delete_form w
form_from text a word.Drop w = drop_form w
form_from text a word.If w = if_form text a w
form_from text a word.While w = while_form text a w
form_from text a word.Begin w = read_in text (r.AfterBegin a) w
form_from text a word.Print w = print_form w
form_from text a word.RaiseError w = raise_error_form w
form_from text a word.Return w = return_form w
form_from text a word.Throw w = read (r.ThrowArguments a) w
form_from text a word.Declare w = read r.AfterDeclare w
form_from text a word.Set w = read r.AfterSet w
form_from text a word.Commit w = commit_form w
form_from text a word.Rollback w = rollback_form w
form_from text a word.Save w = save_form w
form_from text a word.Open w = open_cursor_form w
form_from text a word.Fetch w = fetch_form w
form_from text a word.Close w = close_cursor_form w
form_from text a word.Deallocate w = deallocate_form w
form_from text a word.Use w = use_form w
form_from text a word.Execute w = read r.AfterExecute w
form_from text a word.Break w = if a.in_while then Some (form.Break, w) else None
form_from text a word.Continue w = if a.in_while then Some (form.Continue, w) else None
form_from text a _ w = None

-- a statement of a form, with its first word
abbrev pub formed : List ℕ → Around → Reserved → List Terminal → Outcome Statement
formed text a b w = do
  first ← expect (c.One (k.Reserved b)) w
  form ← form_from text a b first.1
  Some (statement first.0 form.0, form.1)

-- ---- batches and definitions

abbrev pub procedure_from : List ℕ → List Terminal → Outcome Definition
procedure_from text w = do
  word_ ← expect (c.One (k.Reserved word.Procedure)) w
  name ← read r.Object word_.1
  parameters ← read r.Params name.1
  word_ ← expect (c.One (k.Reserved word.As)) parameters.1
  body ← read_in text (r.Body outside) word_.1
  Some (definition.Procedure (record { name = name.0; parameters = parameters.0; body = body.0 }), body.1)

abbrev pub trigger_from : List ℕ → List Terminal → Outcome Definition
trigger_from text w = do
  word_ ← expect (c.One (k.Reserved word.Trigger)) w
  name ← read r.Object word_.1
  word_ ← expect (c.One (k.Reserved word.On)) name.1
  table ← read r.Object word_.1
  time ← read r.TriggerTime table.1
  events ← events_from time.1
  word_ ← expect (c.One (k.Reserved word.As)) events.1
  body ← read_in text (r.Body outside) word_.1
  Some (definition.Trigger (record { name = name.0; table = table.0; events = events.0; body = body.0 }), body.1)

-- the text of one definition behind CREATE
abbrev pub definition_from : List ℕ → List Terminal → Outcome Definition
definition_from text w =
    if sees_any (first_classes r.Procedure) w then procedure_from text w else
    (if sees_any (first_classes r.Trigger) w then trigger_from text w else
    (do table ← read r.Table w; Some (definition.Table table.0.0, table.1)))

-- a procedure or a trigger that is a batch, and its text
abbrev pub defined : List ℕ → ℕ → ℕ → ℕ → Outcome Definition → Outcome Batch
defined text line start ends outcome = outcome >>= λ x. Some (batch.Definition line x.0 (slice text start ends), x.1)

-- a statement and those that follow it
abbrev pub behind_from : List ℕ → Statement → List Terminal → Outcome (List Statement)
behind_from text first w = do
  body ← read_in text (r.Body outside) w
  Some (first ∷ body.0, body.1)

-- A batch behind the CREATE that it begins with, which stands at a line and has so many units of the text
-- before it. The last lexeme of the batch ends at a place.
abbrev pub first_created : List ℕ → ℕ → ℕ → ℕ → List Terminal → Outcome Batch
first_created text line start ends w =
    if sees_any (first_classes r.Procedure) w then defined text line start ends (procedure_from text w) else
    (if sees_any (first_classes r.Trigger) w then defined text line start ends (trigger_from text w) else
    (do first ← create_table_from text line start w; body ← behind_from text first.0 first.1; Some (batch.Body body.0, body.1)))
