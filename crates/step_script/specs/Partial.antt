-- Own: numbers of words as far as they fit 64 bits. Private contracts alone cite this.
use Rattle.std.specs.Prelude.{ℕ, List, Option, Some}
use Rattle.convert_rules.specs.Reading.{digits_value}
use Rattle.step_script.specs.Numbers.{only, is_mark}

-- the number of digits, if it has 64 bits
unfoldable pub small_value : List ℕ → Option ℕ
small_value digits = only is_mark (Some (digits_value digits))
