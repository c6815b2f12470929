-- Own: what private contracts say of a statement on a cursor: what is answered of it, or why it is refused.
use Rattle.std.specs.Prelude.{◌≡◌, ◌⊎◌, ◌==◌, Bool, true, false, ℕ, length, List, Result, Ok, Err}
use Rattle.value_types.specs.declared.sql_type.SqlType.{SqlType}
use Rattle.tsql_tree.specs.declared.query.Select.{Select}
use Rattle.tsql_tree.specs.declared.statement.Statement.{Statement}
use Rattle.session_cursors.specs.declared.cursor.Cursor.{Cursor}
use Rattle.session_cursors.specs.declared.fault.CursorFault.{CursorFault}
use Rattle.session_cursors.specs.declared.fault.CursorFault.TheVariants.{NoSuch, Present, AlreadyFilled, NotFilled}
use Rattle.session_cursors.specs.declared.fault.CursorFault.TheVariants.{Memory as CursorMemory}
use Rattle.session_cursors.specs.Cursors as list
use Rattle.step_model.specs.Ranges.{no_memory}
use Rattle.batch_meaning.specs.declared.failure.Failure.{Failure}
use Rattle.batch_meaning.specs.Failures.{plain}
use Rattle.batch_meaning.specs.Asking.{with_room}
use Rattle.batch_meaning.specs.Cursors.{already_open, already_there, assigns_row, no_such_cursor, not_open, other_count, select_statement}
use Rattle.batch_meaning.specs.Doing.{makes}
use Rattle.batch_meaning.specs.Progress.{SessionProgress, fetches}
use Rattle.batch_meaning.specs.Selecting.{Effect}
use Rattle.batch_meaning.specs.Values.{Assigned}
use Rattle.session_state.specs.Parts.{IsNamed, IsOrMemory, Stepped}

-- why a statement on the cursor of this name is refused, as its error
abbrev pub IsRefused : List ℕ → CursorFault → Failure → Type 0
IsRefused name Present failure = IsNamed already_there name failure
IsRefused name NoSuch failure = IsNamed no_such_cursor name failure
IsRefused name AlreadyFilled failure = failure ≡ plain already_open
IsRefused name NotFilled failure = failure ≡ plain not_open
IsRefused name CursorMemory failure = failure ≡ plain no_memory

-- what is answered of it, or memory was wanting; or why it is refused
abbrev pub IsOfCursor : {A : Type 0} → List ℕ → Result A CursorFault → Result A Failure → Type 0
IsOfCursor name (Ok meant) (Ok given) = given ≡ meant
IsOfCursor name (Ok meant) (Err failure) = failure ≡ plain no_memory
IsOfCursor name (Err fault) (Ok given) = ⊥
IsOfCursor name (Err fault) (Err failure) = IsRefused name fault failure ⊎ (failure ≡ plain no_memory)

-- the select of one that is not open, as a statement at the line of this one
abbrev pub kept_as : Statement → Result Select CursorFault → Result (Unit {0}) CursorFault → Result Statement CursorFault
kept_as statement (Err fault) filled = Err fault
kept_as statement (Ok select) (Err fault) = Err fault
kept_as statement (Ok select) (Ok done) = Ok (select_statement statement select)

abbrev pub IsKept : Statement → List ℕ → List (Cursor Select) → Result Statement Failure → Type 0
IsKept statement name cursors result = IsOfCursor name (kept_as statement (list.query_of name cursors) (list.fill_answer name cursors)) result

-- one that is open has so many columns
abbrev pub counted_as : Bool → Result (Unit {0}) Failure
counted_as true = Ok tt
counted_as false = Err (plain other_count)

abbrev pub IsCounted : List ℕ → ℕ → Result (List SqlType) CursorFault → Result (Unit {0}) Failure → Type 0
IsCounted name count (Ok kinds) result = result ≡ counted_as (count == length kinds)
IsCounted name count (Err fault) (Ok done) = ⊥
IsCounted name count (Err fault) (Err failure) = IsRefused name fault failure

-- the row that comes next is passed by what it assigns, which this is, unless memory was wanting
abbrev pub Passes : List ℕ → Result (List Assigned) Failure → SessionProgress → Result Effect Failure → SessionProgress → Type 0
Passes name sets old result new = (meant : Result (List Assigned) Failure) → IsOrMemory meant sets → Stepped (with_room (makes (fetches name) (assigns_row meant))) old (Ok result) new
