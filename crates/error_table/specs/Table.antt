-- The table of errors (own; the numbers below 49000 are those that SQL Server has for such errors):
-- a line for each error, in the order of the numbers, and the line of a number. The code has the same
-- table as an array of rows, and takes the first row with the number.
use Rattle.std.specs.Prelude.{ℕ, ℤ, pos, List, [], ◌∷◌, Option, find, codes}
use Rattle.std.specs.Ordering.{int_eq}
use Rattle.error_table.specs.declared.action.Action.{Action}
use Rattle.error_table.specs.declared.action.Action.TheVariants.{Statement as S, Batch as B, BatchAndTransaction as T}
use Rattle.error_table.specs.declared.action.Caught.{Caught}
use Rattle.error_table.specs.declared.action.Caught.TheVariants.{Yes as Y, LevelUp as L, No as N}
use Rattle.error_table.specs.declared.row.ErrorRow.{ErrorRow}

-- a line of the table; a text is in ASCII, with {name} or {near} as the placeholder of a name or lexeme
pub record ErrorLine : Type 0 where
  pub number : ℤ
  pub class : ℕ
  pub action : Action
  pub caught : Caught
  pub text : List ℕ

-- the line with these columns
abbrev pub line : ℕ → ℕ → Action → Caught → List ℕ → ErrorLine
line number class action caught text = record { number = pos number; class = class; action = action; caught = caught; text = text }

-- the table: number; class; action outside TRY where XACT_ABORT is OFF, S that the statement ends,
-- B the batch, T the batch and the transaction; caught, Y by every TRY around, L only by a TRY of an
-- outer procedure or batch, N by none; and text
unfoldable pub error_lines : List ErrorLine
error_lines =
    line 102 15 B L (codes "Incorrect syntax near '{near}'.")
    ∷ line 116 16 B L (codes "Only one item is allowed in this subquery.")
    ∷ line 137 15 B L (codes "Must declare the scalar variable \"{name}\".")
    ∷ line 207 16 B L (codes "Invalid column name '{name}'.")
    ∷ line 208 16 B L (codes "Invalid object name '{name}'.")
    ∷ line 209 16 B L (codes "Ambiguous column name '{name}'.")
    ∷ line 213 16 B L (codes "Column name or number of supplied values does not match table definition.")
    ∷ line 217 16 T Y (codes "Maximum nesting level exceeded (limit 32).")
    ∷ line 220 16 S Y (codes "Arithmetic overflow error for a small integer type.")
    ∷ line 244 16 T Y (codes "The number in the text is outside a small integer type.")
    ∷ line 245 16 T Y (codes "Conversion failed when converting text to a number.")
    ∷ line 248 16 T Y (codes "The number in the text is outside the type INT.")
    ∷ line 266 16 S Y (codes "Transaction count after EXECUTE differs from the count before.")
    ∷ line 512 16 S Y (codes "Subquery returned more than 1 value.")
    ∷ line 515 16 S Y (codes "Cannot insert the value NULL into column '{name}'.")
    ∷ line 547 16 S Y (codes "The statement conflicted with the constraint '{name}'.")
    ∷ line 701 17 S Y (codes "There is insufficient memory to run this statement.")
    ∷ line 911 16 B Y (codes "Database '{name}' does not exist.")
    ∷ line 1205 13 T Y (codes "The transaction was chosen as the deadlock victim.")
    ∷ line 1222 16 S Y (codes "Lock request time out period exceeded.")
    ∷ line 2627 14 S Y (codes "Violation of constraint '{name}'. Duplicate key.")
    ∷ line 2714 16 B Y (codes "There is already an object named '{name}'.")
    ∷ line 2812 16 S Y (codes "Could not find stored procedure '{name}'.")
    ∷ line 3609 16 B Y (codes "The transaction ended in the trigger. The batch has been aborted.")
    ∷ line 3616 16 T Y (codes "An error was raised during trigger execution.")
    ∷ line 3701 11 S Y (codes "Cannot drop '{name}', because it does not exist.")
    ∷ line 3726 16 S Y (codes "Cannot drop '{name}', because a foreign key refers to it.")
    ∷ line 3902 16 S Y (codes "COMMIT has no corresponding BEGIN TRANSACTION.")
    ∷ line 3903 16 S Y (codes "ROLLBACK has no corresponding BEGIN TRANSACTION.")
    ∷ line 3930 16 T Y (codes "The transaction cannot be committed and allows no write.")
    ∷ line 3931 16 T Y (codes "The transaction cannot be rolled back to a savepoint.")
    ∷ line 3998 16 T N (codes "Uncommittable transaction is detected at the end of the batch.")
    ∷ line 6401 16 S Y (codes "No transaction or savepoint named '{name}' was found.")
    ∷ line 8016 16 B N (codes "The remote procedure call is not served at byte {name}.")
    ∷ line 8114 16 T Y (codes "Conversion failed when converting text to BIGINT.")
    ∷ line 8115 16 S Y (codes "Arithmetic overflow error.")
    ∷ line 8120 16 B L (codes "Column '{name}' is neither aggregated nor grouped.")
    ∷ line 8134 16 S Y (codes "Divide by zero error encountered.")
    ∷ line 8179 16 S Y (codes "Could not find prepared statement with handle {name}.")
    ∷ line 16905 16 S Y (codes "The cursor is already open.")
    ∷ line 16915 16 S Y (codes "A cursor with the name '{name}' already exists.")
    ∷ line 16916 16 S Y (codes "A cursor with the name '{name}' does not exist.")
    ∷ line 16917 16 S Y (codes "Cursor is not open.")
    ∷ line 18456 14 B N (codes "Login failed.")
    ∷ line 49001 16 T N (codes "Statement limit of the batch reached.")
    ∷ line 49002 16 T N (codes "Result limit reached.")
    ∷ line 49003 16 S Y (codes "Join limit reached.")
    ∷ line 49004 16 S Y (codes "Option or argument is outside the profile.")
    ∷ line 49005 16 S Y (codes "SAVE TRANSACTION needs an open transaction.")
    ∷ line 49006 16 S Y (codes "Text is too long.")
    ∷ line 49007 16 B L (codes "Definition or statement is outside the limits.")
    ∷ line 49008 16 B L (codes "Operand type is not allowed here.")
    ∷ line 49009 15 B L (codes "Nesting is too deep.")
    ∷ line 49010 16 B N (codes "Login message cannot be read.")
    ∷ line 49011 16 B N (codes "Unknown database.")
    ∷ line 49012 16 S Y (codes "Arguments do not match the procedure.")
    ∷ line 49013 15 B L (codes "Variable '{name}' is declared twice.")
    ∷ line 49014 16 B N (codes "The transaction request is not served at byte {name}.")
    ∷ []

-- the first of some lines with this number
abbrev pub line_among : List ErrorLine → ℤ → Option ErrorLine
line_among lines number = find (λ line. int_eq line.number number) lines

-- the table's line with this number; None exactly where it has no such line
unfoldable pub row_of : ℤ → Option ErrorLine
row_of number = line_among error_lines number

-- the line that a row of the code is
abbrev pub line_of : ErrorRow → ErrorLine
line_of row = record { number = row.number; class = row.class; action = row.action; caught = row.caught; text = row.text.now }
