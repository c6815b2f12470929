-- Transact-SQL reference, "+ (String concatenation)" and "LEN": texts joined, and their length without
-- the spaces at their end.
use Rattle.std.specs.Prelude.{ℕ, ◌-◌, ℤ, pos, List, ◌++◌, length, take, Option, None, Ok}
use Rattle.std.specs.List.{suffix_len}
use Rattle.value_types.specs.declared.sql_type.SqlType.TheVariants.{Int}
use Rattle.value_types.specs.declared.value.Value.{Value}
use Rattle.value_types.specs.declared.value.Value.TheVariants.{Null, Whole, Bit, Text}
use Rattle.value_types.specs.Types.{text_limit}
use Rattle.convert_rules.specs.Reading.{is_space}
use Rattle.bound_tree.specs.Outcomes.{Outcome, after}
use Rattle.bound_tree.specs.Numbers.{fitted}

-- two texts joined, and cut where they are too long; of NULL comes NULL
abbrev pub joined : Value → Value → Value
joined (Text a) (Text b) = Text (take text_limit (a ++ b))
joined a b = Null

abbrev pub joined_of : Outcome Value → Outcome Value → Outcome Value
joined_of a b = after a (λ x. after b (λ y. Ok (joined x y)))

-- how many units there are, without the spaces at the end
abbrev pub count_units : List ℕ → ℕ
count_units units = length units - suffix_len is_space units

-- LEN of a text, as a number of type INT; no text has more units than an INT can say
abbrev pub length_of : Value → Outcome (Option ℤ)
length_of Null = Ok None
length_of (Whole number) = Ok None
length_of (Bit bit) = Ok None
length_of (Text units) = fitted Int (pos (count_units units))
