-- Transact-SQL reference, "DECLARE @local_variable": the variables of a batch, procedure or trigger, as
-- the list of their names, types and values in the order in which they were declared. A name is the same
-- as another only unit by unit, in the same case (own). The code looks a name up in a table of hashes.
use Rattle.std.specs.Prelude.{◌≡◌, ℕ, List, Option, Some, position, slice_get}
use Rattle.value_types.specs.Units.{same_units}
use Rattle.value_types.specs.declared.sql_type.SqlType.{SqlType}
use Rattle.value_types.specs.declared.value.Value.{Value}
use Rattle.value_types.specs.declared.value.Value.TheVariants.{Null}
use Rattle.value_types.specs.Types.{IsOf}
use Rattle.session_vars.specs.declared.Variable.{Variable}

-- the most variables that there can be
abbrev pub count_limit : ℕ
count_limit = 65535

-- a variable of this name and type that has no value yet
abbrev pub fresh : List ℕ → SqlType → Variable
fresh name kind = record { name = name; kind = kind; value = Null }

-- the variable stands at this place
abbrev pub StandsAt : ℕ → Variable → List Variable → Type 0
StandsAt place variable variables = slice_get variables place ≡ Some variable

-- the variable is NULL or has a value of its type
abbrev pub HasItsType : Variable → Type 0
HasItsType variable = IsOf variable.kind variable.value

-- the value is one of the type of the variable at this place
abbrev pub FitsAt : ℕ → Value → List Variable → Type 0
FitsAt place value variables = (variable : Variable) → StandsAt place variable variables → IsOf variable.kind value

-- the place of the variable of this name
abbrev pub place_of : List ℕ → List Variable → Option ℕ
place_of name variables = position (λ variable. same_units name variable.name) variables
