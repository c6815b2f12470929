-- Own: what comes of an evaluation, if memory is not wanting: a value, or the number of the first error.
use Rattle.std.specs.Prelude.{ℤ, pos, Result, Ok, Err}

abbrev pub Outcome : Type 0 → Type 0
Outcome A = Result A ℤ

-- one after another: the first error stands
abbrev pub after : {A B : Type 0} → Outcome A → (A → Outcome B) → Outcome B
after (Ok x) next = next x
after (Err number) next = Err number

-- ---- numbers of errors

-- a result is outside its type
abbrev pub overflow : ℤ
overflow = pos 8115

-- a divisor is zero
abbrev pub zero_divisor : ℤ
zero_divisor = pos 8134

-- an inner query gave more than one row where one value is wanted
abbrev pub several_rows : ℤ
several_rows = pos 512
