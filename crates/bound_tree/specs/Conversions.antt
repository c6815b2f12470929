-- Transact-SQL reference, "CAST and CONVERT" and "Data type conversion": a value of one type as one of
-- another within an expression, as by CAST, which cuts a text that is too long.
use Rattle.std.specs.Prelude.{ℤ, if◌then◌else◌, Option, Some, None, Result, Ok, Err}
use Rattle.value_types.specs.declared.sql_type.SqlType.{SqlType}
use Rattle.value_types.specs.declared.value.Value.{Value}
use Rattle.value_types.specs.declared.value.Value.TheVariants.{Null}
use Rattle.convert_rules.specs.declared.fault.ConvertFault.{ConvertFault}
use Rattle.convert_rules.specs.Conversion.{cast_of}
use Rattle.convert_rules.specs.Errors.{error_of}
use Rattle.bound_tree.specs.Kinds.{are_alike}
use Rattle.bound_tree.specs.Outcomes.{Outcome}

-- the error of this number; the one fault without a number, want of memory, is not in the table of
-- conversions
abbrev pub error_outcome : Option ℤ → Outcome Value
error_outcome None = Ok Null
error_outcome (Some number) = Err number

-- what the table of conversions gives, with its fault as the error of its number
abbrev pub cast_outcome : SqlType → SqlType → Result Value ConvertFault → Outcome Value
cast_outcome from to (Ok value) = Ok value
cast_outcome from to (Err fault) = error_outcome (error_of fault from to)

-- the value as one of the type `to`. The type `from` says which error there is.
abbrev pub conversion : SqlType → SqlType → Value → Outcome Value
conversion from to value = cast_outcome from to (cast_of value to)

-- the value as one of the type in which a pair is compared: a text beside a text stays as it is, whatever
-- their sizes
abbrev pub brought : SqlType → SqlType → Value → Outcome Value
brought from to value = if are_alike from to then Ok value else conversion from to value
