-- Act: what an error ends (own, after the Transact-SQL reference: SET XACT_ABORT, TRY...CATCH,
-- RAISERROR and THROW), by its number, by who raised it, by whether XACT_ABORT is ON, and by whether
-- a TRY stands around; for an error that is caught only one level up, a TRY of an outer procedure
-- or batch. The rules stand here one by one; the code asks first whether XACT_ABORT counts.
use Rattle.std.specs.Prelude.{ℤ, Bool, true, false, if◌then◌else◌, Option, None, Some}
use Rattle.error_table.specs.declared.action.Action.{Action}
use Rattle.error_table.specs.declared.action.Action.TheVariants.{Statement, Batch, BatchAndTransaction, Doom}
use Rattle.error_table.specs.declared.action.Caught.{Caught}
use Rattle.error_table.specs.declared.action.Caught.TheVariants.{Yes, LevelUp, No}
use Rattle.error_table.specs.declared.action.RaisedBy.{RaisedBy}
use Rattle.error_table.specs.declared.action.RaisedBy.TheVariants.{Engine, Raiserror, Throw}
use Rattle.error_table.specs.Table.{ErrorLine, row_of}

-- ---- outside TRY, where XACT_ABORT is OFF

-- what the table says; an error of the server that the table does not have ends the batch
abbrev pub line_action : Option ErrorLine → Action
line_action (Some line) = line.action
line_action None = Batch

-- an error of the server ends what the table says, RAISERROR the statement, THROW the batch,
-- whatever the number
abbrev pub base_action : ℤ → RaisedBy → Action
base_action number Engine = line_action (row_of number)
base_action number Raiserror = Statement
base_action number Throw = Batch

-- ---- which TRY catches it

-- what the table says; an error of the server that the table does not have is caught by every TRY
abbrev pub line_caught : Option ErrorLine → Caught
line_caught (Some line) = line.caught
line_caught None = Yes

-- an error of the server is caught as the table says, what RAISERROR or THROW raises by every TRY,
-- whatever the number
abbrev pub base_caught : ℤ → RaisedBy → Caught
base_caught number Engine = line_caught (row_of number)
base_caught number Raiserror = Yes
base_caught number Throw = Yes

-- a TRY around catches all errors but those that none catches
abbrev pub is_caught : Caught → Bool → Bool
is_caught Yes in_try = in_try
is_caught LevelUp in_try = in_try
is_caught No in_try = false

-- ---- the rules

-- outside TRY the action stays; but where XACT_ABORT is ON, an error that ends the statement or the
-- batch ends batch and transaction, RAISERROR excepted
abbrev pub outside_try : Action → RaisedBy → Bool → Action
outside_try action by false = action
outside_try action Raiserror true = action
outside_try Statement by true = BatchAndTransaction
outside_try Batch by true = BatchAndTransaction
outside_try action by true = action

-- inside TRY an error that would end the transaction dooms it; every other one ends the statement,
-- but where XACT_ABORT is ON it dooms the transaction, RAISERROR excepted
abbrev pub inside_try : Action → RaisedBy → Bool → Action
inside_try BatchAndTransaction by xact_abort = Doom
inside_try action by false = Statement
inside_try action Raiserror true = Statement
inside_try action by true = Doom

-- an error that is caught ends what it ends inside TRY; one that no TRY catches is sent where it
-- arises, and ends what it ends outside
abbrev pub action_of : ℤ → RaisedBy → Bool → Bool → Action
action_of number by xact_abort in_try =
    if is_caught (base_caught number by) in_try
    then inside_try (base_action number by) by xact_abort
    else outside_try (base_action number by) by xact_abort
