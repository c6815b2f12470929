-- Transact-SQL reference, "SET @local_variable", "DECLARE", "SELECT @local_variable", "PRINT", "RETURN", "RAISERROR" and "THROW": what
-- such a statement makes of the values of its expressions, apart from what is asked for them.
use Rattle.std.specs.Prelude.{int_le, ℕ, ℤ, pos, ◌&&◌, Bool, false, if◌then◌else◌, List, [], ◌∷◌, ◌++◌, filter_map, is_some, slice_get, negsuc, nat_le, Option, Some, None, Result, Ok, Err, get_or}
use Rattle.std.specs.Ordering.{int_eq}
use Rattle.value_types.specs.declared.sql_type.SqlType.{SqlType}
use Rattle.value_types.specs.declared.sql_type.SqlType.TheVariants.{Int, NText}
use Rattle.value_types.specs.declared.value.Value.{Value}
use Rattle.value_types.specs.declared.value.Value.TheVariants.{Null, Whole, Text}
use Rattle.value_types.specs.Types.{text_limit, type_of}
use Rattle.convert_rules.specs.declared.fault.ConvertFault.{ConvertFault}
use Rattle.convert_rules.specs.Conversion.{cast_of}
use Rattle.convert_rules.specs.Errors.{error_of}
use Rattle.session_vars.specs.declared.Variable.{Variable}
use Rattle.session_vars.specs.Variables.{place_of}
use Rattle.tsql_tree.specs.declared.statement.Declaration.{Declaration}
use Rattle.error_table.specs.declared.action.RaisedBy.TheVariants.{Raiserror, Throw}
use Rattle.step_model.specs.Ranges.{Rows, no_memory}
use Rattle.batch_meaning.specs.declared.failure.Failure.{Failure}
use Rattle.batch_meaning.specs.declared.raised.Raised.{Raised}
use Rattle.batch_meaning.specs.Failures.{plain}
use Rattle.batch_meaning.specs.Settings.{outside_profile}

-- a variable beyond those that can stand
abbrev pub outside_limits : ℕ
outside_limits = 49007

-- ---- conversions

abbrev pub failed_as : Option ℤ → Result Value Failure
failed_as None = Err (plain no_memory)
failed_as (Some number) = Err (record { number = number; name = None })

abbrev pub cast_as : Value → SqlType → Result Value ConvertFault → Result Value Failure
cast_as value to (Ok result) = Ok result
cast_as value to (Err fault) = failed_as (error_of fault (type_of value) to)

-- a value as one of this type; a text is cut to it
abbrev pub cast_to : SqlType → Value → Result Value Failure
cast_to to value = cast_as value to (cast_of value to)

infixl 10 ◌>>=◌
abbrev pub ◌>>=◌ : {A B : Type 0} → Result A Failure → (A → Result B Failure) → Result B Failure
(Ok a) >>= go = go a
(Err failure) >>= go = Err failure

-- ---- assignments

-- a variable's place, and the value that it takes
abbrev pub Assigned : Type 0
Assigned = ℕ × Value

abbrev pub kind_or : Option Variable → SqlType
kind_or None = Int
kind_or (Some variable) = variable.kind

-- by what a row comes to: the rest behind it, or why it can't be assigned, with what stays
abbrev pub assigned_next : (List Assigned → List Assigned × Option Failure) → List Assigned → Result (List Assigned) Failure → List Assigned × Option Failure
assigned_next next so_far (Ok last) = next last
assigned_next next so_far (Err failure) = (so_far, Some failure)

-- a variable that does not stand is outside the limits
abbrev pub standing : Option ℕ → Result ℕ Failure
standing None = Err (plain outside_limits)
standing (Some place) = Ok place

module _ (vars : List Variable) where
  -- the value as the variable at the place takes it
  abbrev pub assigned_at : ℕ → Value → Result Assigned Failure
  assigned_at place value = do
    cast ← cast_to (kind_or (slice_get vars place)) value
    Ok (place, cast)

  -- one after another, behind these
  abbrev pub assigned_onto : List Assigned → List ℕ → List Value → Result (List Assigned) Failure
  assigned_onto so_far [] values = Ok so_far
  assigned_onto so_far (place ∷ places) [] = Ok so_far
  assigned_onto so_far (place ∷ places) (value ∷ values) = assigned_at place value >>= λ one. assigned_onto (so_far ++ one ∷ []) places values

  -- Each row of an answer in turn: what stays is what the last assigns, and without rows nothing is. The first row that can't be
  -- assigned ends it, with its error; what the row before it assigned stays.
  abbrev pub rows_assigned : List ℕ → List Assigned → Rows → List Assigned × Option Failure
  rows_assigned places so_far [] = (so_far, None)
  rows_assigned places so_far (row ∷ rest) = assigned_next (λ last. rows_assigned places last rest) so_far (assigned_onto [] places row)

  -- the places of the variables of these names
  abbrev pub places_onto : List ℕ → List (List ℕ) → Result (List ℕ) Failure
  places_onto so_far [] = Ok so_far
  places_onto so_far (name ∷ names) = standing (place_of name vars) >>= λ place. places_onto (so_far ++ place ∷ []) names

  -- what is assigned to the variables of these names
  abbrev pub assigned_to : List (List ℕ) → List Value → Result (List Assigned) Failure
  assigned_to names values = places_onto [] names >>= λ places. assigned_onto [] places values

-- the variables that a DECLARE gives a value
abbrev pub given_name : Declaration → Option (List ℕ)
given_name of = if is_some of.initial then Some of.name else None

abbrev pub given_names : List Declaration → List (List ℕ)
given_names declarations = filter_map given_name declarations

-- ---- tests

-- a test's value is 1 where it is true
abbrev pub is_one : Value → Bool
is_one (Whole number) = int_eq number (pos 1)
is_one value = false

abbrev pub first_of : List Value → Value
first_of values = get_or values 0 Null

-- the values of a statement's expressions are the first row of an answer, or none
abbrev pub first_row : Rows → List Value
first_row rows = get_or rows 0 []

-- RETURN: an INT; 0 where it has no value, or NULL
abbrev pub whole_or_zero : Value → ℤ
whole_or_zero (Whole number) = number
whole_or_zero value = pos 0

abbrev pub status_of : List Value → Result ℤ Failure
status_of values = cast_to Int (first_of values) >>= λ value. Ok (whole_or_zero value)

-- ---- messages

-- the longest text
abbrev pub any_text : SqlType
any_text = NText text_limit

-- a text, which is empty where the value is NULL
abbrev pub text_or_empty : Value → List ℕ
text_or_empty (Text units) = units
text_or_empty value = []

abbrev pub text_in : Value → Result (List ℕ) Failure
text_in value = do
  text ← cast_to any_text value
  Ok (text_or_empty text)

-- a whole number between these, which is not NULL
abbrev pub number_in : ℤ → ℤ → Value → Result ℤ Failure
number_in least most (Whole number) = if int_le least number && int_le number most then Ok number else Err (plain outside_profile)
number_in least most value = Err (plain outside_profile)

-- a number is taken as it is, and another value as an INT
abbrev pub whole_of : Value → Result Value Failure
whole_of (Whole number) = Ok (Whole number)
whole_of value = cast_to Int value

abbrev pub number_between : ℤ → ℤ → Value → Result ℤ Failure
number_between least most value = whole_of value >>= number_in least most

-- as a natural number
abbrev pub natural : ℤ → ℕ
natural (pos n) = n
natural (negsuc n) = 0

-- PRINT: a message of number and class 0
abbrev pub printed : List ℕ → ℤ → List Value → Result Raised Failure
printed procedure line values = do
  text ← text_in (first_of values)
  Ok (record { number = pos 0; class = 0; state = 1; text = text; procedure = procedure; line = line; by = Raiserror })

-- the number of what RAISERROR raises
abbrev pub raiserror_number : ℤ
raiserror_number = pos 50000

-- the greatest class of RAISERROR, the greatest state, and the greatest INT
abbrev pub greatest_class : ℤ
greatest_class = pos 18

abbrev pub greatest_state : ℤ
greatest_state = pos 255

abbrev pub greatest_number : ℤ
greatest_number = pos 2147483647

-- RAISERROR: its text, its class and its state, in this order
abbrev pub raiserror_of : List ℕ → ℤ → List Value → Result Raised Failure
raiserror_of procedure line values = do
  text ← text_in (get_or values 0 Null)
  class ← number_between (pos 0) greatest_class (get_or values 1 Null)
  state ← number_between (pos 0) greatest_state (get_or values 2 Null)
  Ok (record { number = raiserror_number; class = natural class; state = natural state; text = text; procedure = procedure; line = line; by = Raiserror })

-- the class of what THROW raises, and its least number
abbrev pub throw_class : ℕ
throw_class = 16

abbrev pub least_number : ℤ
least_number = pos 50000

-- THROW: its number, its text and its state, in this order
abbrev pub throw_of : List ℕ → ℤ → List Value → Result Raised Failure
throw_of procedure line values = do
  number ← number_between least_number greatest_number (get_or values 0 Null)
  text ← text_in (get_or values 1 Null)
  state ← number_between (pos 0) greatest_state (get_or values 2 Null)
  Ok (record { number = number; class = throw_class; state = natural state; text = text; procedure = procedure; line = line; by = Throw })

-- what is no error: a client is told it, and the batch goes on
abbrev pub is_message : Raised → Bool
is_message raised = nat_le raised.class 10
