-- Transact-SQL reference, "TRY...CATCH", "RAISERROR", "THROW" and the functions of an error: what an error is when it is raised, what a
-- client is told of it, what stands around a statement, and which TRY catches it. [MS-TDS] 2.2.7.10: ERROR, 2.2.7.13: INFO.
use Rattle.std.specs.Prelude.{ℕ, ℤ, pos, ◌+◌, ◌||◌, Bool, true, false, List, [], ◌∷◌, take, Option, Some, None, codes}
use Rattle.value_types.specs.declared.value.Value.{Value}
use Rattle.value_types.specs.declared.value.Value.TheVariants.{Null, Whole, Text}
use Rattle.tsql_tree.specs.declared.definition.TableTree.{TableTree}
use Rattle.step_model.specs.Ranges.{Rows}
use Rattle.error_table.specs.declared.action.Action.{Action}
use Rattle.error_table.specs.declared.action.Caught.{Caught}
use Rattle.error_table.specs.declared.action.Caught.TheVariants.{Yes, LevelUp, No}
use Rattle.error_table.specs.declared.action.RaisedBy.TheVariants.{Engine, Throw}
use Rattle.error_table.specs.Act.{action_of, base_caught}
use Rattle.error_table.specs.Table.{ErrorLine, row_of}
use Rattle.error_table.specs.Text.{text_with}
use Rattle.tds_tokens.specs.Numbers.{text_limit}
use Rattle.tds_tokens.specs.declared.token.Token.{Token}
use Rattle.tds_tokens.specs.declared.token.Token.TheVariants.{Error, Info}
use Rattle.batch_meaning.specs.declared.failure.Failure.{Failure}
use Rattle.batch_meaning.specs.declared.raised.Raised.{Raised}

-- ---- errors of the server

-- the class of an error, and of one that the table does not have
abbrev pub class_of : Option ErrorLine → ℕ
class_of (Some line) = line.class
class_of None = 16

-- its text with a name in its place; what the table does not have is not built yet
abbrev pub message_of : Option ErrorLine → List ℕ → List ℕ
message_of (Some line) name = text_with line.text name
message_of None name = codes "Not built."

abbrev pub named : Option (List ℕ) → List ℕ
named None = []
named (Some name) = name

-- why a statement of a procedure or trigger, or of a batch, failed at a line, as it is raised
abbrev pub raised_in : List ℕ → ℤ → Failure → Raised
raised_in procedure line failure = record {
  number = failure.number;
  class = class_of (row_of failure.number);
  state = 1;
  text = message_of (row_of failure.number) (named failure.name);
  procedure = procedure;
  line = line;
  by = Engine;
}

-- the same of a batch
abbrev pub raised_at : ℤ → Failure → Raised
raised_at line failure = raised_in [] line failure

-- an error that THROW raises again is its own
abbrev pub again : Raised → Raised
again raised = record raised { by = Throw }

-- ---- what is told

-- ERROR; at most 2,000 units of its text are sent
abbrev pub error_token : Raised → Token
error_token raised = Error (record { number = raised.number; state = raised.state; class = raised.class; text = take text_limit raised.text; procedure = raised.procedure; line = raised.line })

-- INFO, for what is no error
abbrev pub info_token : Raised → Token
info_token raised = Info (record { number = raised.number; state = raised.state; class = raised.class; text = take text_limit raised.text; procedure = raised.procedure; line = raised.line })

-- ERROR_MESSAGE() is a text of the greatest length
abbrev pub longest : ℕ
longest = 4000

-- the name of the procedure or trigger, or NULL of a batch
abbrev pub procedure_value : List ℕ → Value
procedure_value [] = Null
procedure_value (unit ∷ units) = Text (unit ∷ units)

-- the values of ERROR_NUMBER, ERROR_SEVERITY, ERROR_STATE, ERROR_LINE, ERROR_MESSAGE and ERROR_PROCEDURE
abbrev pub error_values : Option Raised → List Value
error_values None = Null ∷ Null ∷ Null ∷ Null ∷ Null ∷ Null ∷ []
error_values (Some raised) =
    Whole raised.number ∷ Whole (pos raised.class) ∷ Whole (pos raised.state) ∷ Whole raised.line ∷ Text (take longest raised.text) ∷ procedure_value raised.procedure ∷ []

-- ---- where it is caught

-- what a trigger sees: the shape of its table, and the rows that its statement took away and put there
pub record Fired : Type 0 where
  pub shape : TableTree
  pub deleted : Rows
  pub inserted : Rows

-- What stands around a statement: whether a TRY of its own batch, procedure or trigger does, and one around what called or fired that; the
-- error of the innermost CATCH, if one does; the procedure or trigger itself, which has no name in a batch; how deep it is; and what
-- a trigger sees.
pub record Around : Type 0 where
  pub tries : Bool
  pub tries_outside : Bool
  pub caught : Option Raised
  pub procedure : List ℕ
  pub depth : ℕ
  pub fired : Option Fired

-- around a batch there is nothing
abbrev pub around_batch : Around
around_batch = record { tries = false; tries_outside = false; caught = None; procedure = []; depth = 0; fired = None }

-- in a TRY, and in the CATCH of an error, which is left as its TRY was
abbrev pub in_try : Around → Around
in_try around = record around { tries = true }

abbrev pub in_catch : Raised → Around → Around
in_catch raised around = record around { caught = Some raised }

-- a TRY stands around
abbrev pub in_some_try : Around → Bool
in_some_try around = around.tries || around.tries_outside

-- in a procedure or trigger of this name that a statement calls or fires; the error of a CATCH around is that of a CATCH there, too
abbrev pub in_body : List ℕ → Option Fired → Around → Around
in_body name fired around = record {
  tries = false;
  tries_outside = in_some_try around;
  caught = around.caught;
  procedure = name;
  depth = around.depth + 1;
  fired = fired;
}

-- whether there is a TRY around that catches; what is caught only one level up is caught by no TRY of its own batch, procedure or trigger
abbrev pub catches : Around → Caught → Bool
catches around Yes = in_some_try around
catches around LevelUp = around.tries_outside
catches around No = false

-- a TRY around catches it
abbrev pub is_caught_in : Around → Raised → Bool
is_caught_in around raised = catches around (base_caught raised.number raised.by)

-- what it ends
abbrev pub action_in : Around → Bool → Raised → Action
action_in around xact_abort raised = action_of raised.number raised.by xact_abort (is_caught_in around raised)
