-- Transact-SQL reference, "DECLARE CURSOR", "OPEN", "FETCH", "CLOSE" and "DEALLOCATE": what these statements make of the cursors of a
-- connection, and the faults that refuse them. The cursors are the list of them in the order of their declaration. A name means the
-- first cursor that has it, unit by unit and in the same case (own); since a name is declared once, there is no other. A statement that is refused leaves the list as it is. The code
-- looks for the place of a name, and changes what stands there.
use Rattle.std.specs.Prelude.{ℕ, Bool, if◌then◌else◌, List, [], ◌∷◌, ◌++◌, All, drop, find, position, option_map, slice_get, Option, Some, None, Result, Ok, Err}
use Rattle.value_types.specs.Units.{same_units}
use Rattle.value_types.specs.declared.sql_type.SqlType.{SqlType}
use Rattle.value_types.specs.declared.value.Value.{Value}
use Rattle.session_cursors.specs.declared.cursor.Cursor.{Cursor}
use Rattle.session_cursors.specs.declared.fault.CursorFault.{CursorFault}
use Rattle.session_cursors.specs.declared.fault.CursorFault.TheVariants.{NoSuch, Present, AlreadyFilled, NotFilled}
use Rattle.session_cursors.specs.Answers.{AnswerLeft, HasKinds}

-- the rows that are still to come are of the types of their columns
abbrev pub AreOfKinds : Option AnswerLeft → Type 0
AreOfKinds None = Unit {0}
AreOfKinds (Some answer) = All (HasKinds answer.kinds) answer.rows

abbrev pub HasItsKinds : {Q : Type 0} → Cursor Q → Type 0
HasItsKinds cursor = AreOfKinds cursor.answer

-- ---- an open cursor

-- OPEN: all rows are still to come; what is open keeps its own
abbrev pub unless_open : AnswerLeft → Option AnswerLeft → Option AnswerLeft
unless_open answer None = Some answer
unless_open answer (Some left) = Some left

abbrev pub fill_on : Option AnswerLeft → Result (Unit {0}) CursorFault
fill_on None = Ok tt
fill_on (Some left) = Err AlreadyFilled

-- what an open cursor gives
abbrev pub given_by : {A : Type 0} → (AnswerLeft → A) → Option AnswerLeft → Result A CursorFault
given_by give None = Err NotFilled
given_by give (Some left) = Ok (give left)

abbrev pub first_row : AnswerLeft → Option (List Value)
first_row left = slice_get left.rows 0

-- FETCH: the first of the rows that are still to come is not any more
abbrev pub behind_first : AnswerLeft → AnswerLeft
behind_first left = record left { rows = drop 1 left.rows }

module _ {Q : Type 0} where
  abbrev pub opened : List SqlType → List (List Value) → Cursor Q → Cursor Q
  opened kinds rows cursor = record cursor { answer = unless_open (record { kinds = kinds; rows = rows }) cursor.answer }

  abbrev pub advanced : Cursor Q → Cursor Q
  advanced cursor = record cursor { answer = option_map behind_first cursor.answer }

  abbrev pub shut : Cursor Q → Cursor Q
  shut cursor = record cursor { answer = None }

  -- ---- names

  abbrev pub is_named : List ℕ → Cursor Q → Bool
  is_named name cursor = same_units cursor.name name

  -- the cursor of this name
  abbrev pub cursor_of : List ℕ → List (Cursor Q) → Option (Cursor Q)
  cursor_of name cursors = find (is_named name) cursors

  -- and its place
  abbrev pub place_of : List ℕ → List (Cursor Q) → Option ℕ
  place_of name cursors = position (is_named name) cursors

  -- the cursors, with what the one of this name becomes
  abbrev pub with_cursor : (Cursor Q → Cursor Q) → List ℕ → List (Cursor Q) → List (Cursor Q)
  with_cursor becomes name [] = []
  with_cursor becomes name (cursor ∷ rest) = if is_named name cursor then becomes cursor ∷ rest else cursor ∷ with_cursor becomes name rest

  -- what the cursor gives, if there is one
  abbrev pub given_in : {A : Type 0} → (Cursor Q → Result A CursorFault) → Option (Cursor Q) → Result A CursorFault
  given_in give None = Err NoSuch
  given_in give (Some cursor) = give cursor

  -- ---- DECLARE: a cursor behind the others, which is not open

  abbrev pub fresh : List ℕ → Q → Cursor Q
  fresh name query = record { name = name; query = query; answer = None }

  abbrev pub declared : List ℕ → Q → List (Cursor Q) → List (Cursor Q)
  declared name query cursors = cursors ++ fresh name query ∷ []

  abbrev pub unless_present : Option (Cursor Q) → Result (Unit {0}) CursorFault
  unless_present None = Ok tt
  unless_present (Some cursor) = Err Present

  abbrev pub declare_answer : List ℕ → List (Cursor Q) → Result (Unit {0}) CursorFault
  declare_answer name cursors = unless_present (cursor_of name cursors)

  -- ---- the query that a cursor was declared for, and the types of the columns of an open one

  abbrev pub query_of : List ℕ → List (Cursor Q) → Result Q CursorFault
  query_of name cursors = given_in (λ cursor. Ok cursor.query) (cursor_of name cursors)

  abbrev pub kinds_of : List ℕ → List (Cursor Q) → Result (List SqlType) CursorFault
  kinds_of name cursors = given_in (λ cursor. given_by (λ left. left.kinds) cursor.answer) (cursor_of name cursors)

  -- ---- OPEN: the answer of the query

  abbrev pub fill_answer : List ℕ → List (Cursor Q) → Result (Unit {0}) CursorFault
  fill_answer name cursors = given_in (λ cursor. fill_on cursor.answer) (cursor_of name cursors)

  abbrev pub filled : List ℕ → List SqlType → List (List Value) → List (Cursor Q) → List (Cursor Q)
  filled name kinds rows cursors = with_cursor (opened kinds rows) name cursors

  -- ---- FETCH: the next row, or none past the last

  abbrev pub next_of : List ℕ → List (Cursor Q) → Result (Option (List Value)) CursorFault
  next_of name cursors = given_in (λ cursor. given_by first_row cursor.answer) (cursor_of name cursors)

  abbrev pub fetched : List ℕ → List (Cursor Q) → List (Cursor Q)
  fetched name cursors = with_cursor advanced name cursors

  -- ---- CLOSE: the cursor is as it was declared

  abbrev pub close_answer : List ℕ → List (Cursor Q) → Result (Unit {0}) CursorFault
  close_answer name cursors = given_in (λ cursor. given_by (λ left. tt) cursor.answer) (cursor_of name cursors)

  abbrev pub closed : List ℕ → List (Cursor Q) → List (Cursor Q)
  closed name cursors = with_cursor shut name cursors

  -- ---- DEALLOCATE: the others, in their order

  abbrev pub remove_answer : List ℕ → List (Cursor Q) → Result (Unit {0}) CursorFault
  remove_answer name cursors = given_in (λ cursor. Ok tt) (cursor_of name cursors)

  abbrev pub removed : List ℕ → List (Cursor Q) → List (Cursor Q)
  removed name [] = []
  removed name (cursor ∷ rest) = if is_named name cursor then rest else cursor ∷ removed name rest
