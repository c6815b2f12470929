-- Transact-SQL reference, statement by statement: what is read behind the first word of a statement
-- that holds expressions, and no other statement. Each is a production of the grammar without that word.
use Rattle.std.specs.Prelude.{ℕ, List, ◌∷◌, Some}
use Rattle.tsql_lexer.specs.declared.lexeme.Sign.TheVariants as s
use Rattle.tsql_tree.specs.declared.statement.Form.{Form}
use Rattle.tsql_tree.specs.declared.statement.Form.TheVariants as form
use Rattle.tsql_grammar.specs.declared.kind.Kind.TheVariants as k
use Rattle.tsql_grammar.specs.declared.kind.Reserved.TheVariants as word
use Rattle.tsql_grammar.specs.declared.rule.Class.TheVariants as c
use Rattle.tsql_grammar.specs.declared.rule.Rule.TheVariants as r
use Rattle.tsql_grammar.specs.Terminals.{Terminal, units}
use Rattle.lexeme_reader.specs.Reading.{Outcome, read, expect, ◌>>=◌}

abbrev pub select_form : List Terminal → Outcome Form
select_form w = do
  select ← read r.Select w
  Some (form.Select select.0, select.1)

abbrev pub insert_form : List Terminal → Outcome Form
insert_form w = do
  into ← read r.Into w
  table ← read r.Object into.1
  after ← read r.AfterInsertTable table.1
  Some (after.0 table.0, after.1)

abbrev pub update_form : List Terminal → Outcome Form
update_form w = do
  table ← read r.Object w
  word_ ← expect (c.One (k.Reserved word.Set)) table.1
  first ← read r.Assignment word_.1
  more ← read r.MoreAssignments first.1
  filter ← read r.Where more.1
  Some (form.Update table.0 (first.0 ∷ more.0) filter.0, filter.1)

abbrev pub delete_form : List Terminal → Outcome Form
delete_form w = do
  from ← read r.DeleteFrom w
  table ← read r.Object from.1
  filter ← read r.Where table.1
  Some (form.Delete table.0 filter.0, filter.1)

abbrev pub print_form : List Terminal → Outcome Form
print_form w = do
  text ← read r.Expr w
  Some (form.Print text.0, text.1)

abbrev pub raise_error_form : List Terminal → Outcome Form
raise_error_form w = do
  open_ ← expect (c.One (k.Sign s.Open)) w
  text ← read r.Expr open_.1
  comma ← expect (c.One (k.Sign s.Comma)) text.1
  severity ← read r.Expr comma.1
  comma ← expect (c.One (k.Sign s.Comma)) severity.1
  state ← read r.Expr comma.1
  last ← expect (c.One (k.Sign s.Close)) state.1
  Some (form.RaiseError text.0 severity.0 state.0, last.1)

abbrev pub return_form : List Terminal → Outcome Form
return_form w = do
  value ← read r.OptionalExpr w
  Some (form.Return value.0, value.1)

abbrev pub throw_form : List Terminal → Outcome Form
throw_form w = do
  number ← read r.Expr w
  comma ← expect (c.One (k.Sign s.Comma)) number.1
  text ← read r.Expr comma.1
  comma ← expect (c.One (k.Sign s.Comma)) text.1
  state ← read r.Expr comma.1
  Some (form.Throw number.0 text.0 state.0, state.1)

abbrev pub declare_cursor_form : List Terminal → Outcome Form
declare_cursor_form w = do
  name ← expect c.Name w
  word_ ← expect (c.One (k.Reserved word.Cursor)) name.1
  scope ← read r.CursorScope word_.1
  static ← read r.CursorStatic scope.1
  read_only ← read r.CursorReadOnly static.1
  word_ ← expect (c.One (k.Reserved word.For)) read_only.1
  word_ ← expect (c.One (k.Reserved word.Select)) word_.1
  select ← read r.Select word_.1
  Some (form.DeclareCursor (units name.0) select.0, select.1)

abbrev pub declare_form : List Terminal → Outcome Form
declare_form w = do
  first ← read r.Declaration w
  more ← read r.MoreDeclarations first.1
  Some (form.Declare (first.0 ∷ more.0), more.1)

abbrev pub set_variable_form : List ℕ → List Terminal → Outcome Form
set_variable_form name w = do
  sign ← expect (c.One (k.Sign s.Equal)) w
  value ← read r.Expr sign.1
  Some (form.SetVariable name value.0, value.1)
