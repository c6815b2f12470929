-- Transact-SQL reference, statement by statement: what is read behind the first word of a statement
-- that holds no expression. Each is a production of the grammar without that word.
use Rattle.std.specs.Prelude.{List, [], ◌∷◌, Some, None}
use Rattle.tsql_tree.specs.declared.option.FixedOption.{FixedOption}
use Rattle.tsql_tree.specs.declared.option.SessionOption.TheVariants as option
use Rattle.tsql_tree.specs.declared.statement.Form.{Form}
use Rattle.tsql_tree.specs.declared.statement.Form.TheVariants as form
use Rattle.tsql_grammar.specs.declared.kind.Kind.TheVariants as k
use Rattle.tsql_grammar.specs.declared.kind.Reserved.TheVariants as word
use Rattle.tsql_grammar.specs.declared.kind.Word.TheVariants as v
use Rattle.tsql_grammar.specs.declared.rule.Class.TheVariants as c
use Rattle.tsql_grammar.specs.declared.rule.Rule.TheVariants as r
use Rattle.tsql_grammar.specs.Kinds.{fixed_options}
use Rattle.tsql_grammar.specs.Terminals.{Terminal, units}
use Rattle.tsql_grammar.specs.Words.{is_date_order, is_language}
use Rattle.lexeme_reader.specs.Reading.{Outcome, read, expect, ◌>>=◌, when}

abbrev pub drop_form : List Terminal → Outcome Form
drop_form w = do
  kind ← read r.DropKind w
  name ← read r.Object kind.1
  Some (form.Drop kind.0 name.0, name.1)

abbrev pub begin_form : List Terminal → Outcome Form
begin_form w = do
  word_ ← read r.TransactionWord w
  name ← read r.OptionalName word_.1
  Some (form.BeginTransaction name.0, name.1)

abbrev pub commit_form : List Terminal → Outcome Form
commit_form w = do
  name ← read r.TransactionEnd w
  Some (form.Commit name.0, name.1)

abbrev pub rollback_form : List Terminal → Outcome Form
rollback_form w = do
  name ← read r.TransactionEnd w
  Some (form.Rollback name.0, name.1)

abbrev pub save_form : List Terminal → Outcome Form
save_form w = do
  word_ ← read r.TransactionWord w
  name ← expect c.Name word_.1
  Some (form.Save (units name.0), name.1)

abbrev pub open_cursor_form : List Terminal → Outcome Form
open_cursor_form w = do
  name ← expect c.Name w
  Some (form.OpenCursor (units name.0), name.1)

abbrev pub fetch_form : List Terminal → Outcome Form
fetch_form w = do
  next ← read r.Next w
  word_ ← expect (c.One (k.Reserved word.From)) next.1
  name ← expect c.Name word_.1
  word_ ← expect (c.One (k.Reserved word.Into)) name.1
  variables ← read r.Variables word_.1
  Some (form.Fetch (units name.0) variables.0, variables.1)

abbrev pub close_cursor_form : List Terminal → Outcome Form
close_cursor_form w = do
  name ← expect c.Name w
  Some (form.CloseCursor (units name.0), name.1)

abbrev pub deallocate_form : List Terminal → Outcome Form
deallocate_form w = do
  name ← expect c.Name w
  Some (form.Deallocate (units name.0), name.1)

abbrev pub use_form : List Terminal → Outcome Form
use_form w = do
  name ← expect c.Name w
  Some (form.Use (units name.0), name.1)

-- an option whose known settings change nothing: this one, or one of these
abbrev pub known_option_form : FixedOption → List Terminal → Outcome Form
known_option_form a w = do
  word_ ← expect (c.One (k.Fixed a)) w
  on ← read r.OnOff word_.1
  Some (form.SetOption (option.Fixed a on.0), on.1)

abbrev pub known_option_forms : List FixedOption → List Terminal → Outcome Form
known_option_forms [] w = None
known_option_forms (a ∷ []) w = known_option_form a w
known_option_forms (a ∷ b ∷ more) w = when (expect (c.One (k.Fixed a)) w) (λ x. do on ← read r.OnOff x.1; Some (form.SetOption (option.Fixed a on.0), on.1)) (known_option_forms (b ∷ more) w)

unfoldable pub fixed_option_form : List Terminal → Outcome Form
fixed_option_form w = known_option_forms fixed_options w

-- those with a number or a name, whose known settings change nothing, and these
abbrev pub named_option_form : List Terminal → Outcome Form
named_option_form w =
    when (expect (c.One (k.Word v.DateFirst)) w) (λ x. do n ← read r.SignedNumber x.1; Some (form.SetOption (option.DateFirst n.0), n.1))
    (when (expect (c.One (k.Word v.RowCount)) w) (λ x. do n ← read r.SignedNumber x.1; Some (form.SetOption (option.RowCount n.0), n.1))
    (when (expect (c.One (k.Word v.DateFormat)) w) (λ x. do name ← read r.OptionName x.1; Some (form.SetOption (option.DateFormat (is_date_order name.0)), name.1))
    (when (expect (c.One (k.Word v.Language)) w) (λ x. do name ← read r.OptionName x.1; Some (form.SetOption (option.Language (is_language name.0)), name.1))
    (fixed_option_form w))))

-- the other options of SET that are no switches, and these
abbrev pub other_option_form : List Terminal → Outcome Form
other_option_form w =
    when (expect (c.One (k.Reserved word.Transaction)) w)
    (λ x. do y ← expect (c.One (k.Word v.Isolation)) x.1; z ← expect (c.One (k.Word v.Level)) y.1; level ← read r.Level z.1; Some (form.SetOption (option.Isolation level.0), level.1))
    (when (expect (c.One (k.Word v.LockTimeout)) w) (λ x. do n ← read r.SignedNumber x.1; Some (form.SetOption (option.LockTimeout n.0), n.1))
    (when (expect (c.One (k.Word v.TextSize)) w) (λ x. do n ← read r.SignedNumber x.1; Some (form.SetOption (option.TextSize n.0), n.1))
    (when (expect (c.One (k.Word v.DeadlockPriority)) w) (λ x. do priority ← read r.Priority x.1; Some (form.SetOption (option.DeadlockPriority priority.0), priority.1))
    (named_option_form w))))
