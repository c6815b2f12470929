-- Own: what one value more makes of the first of those before it. Private contracts alone cite this.
use Rattle.std.specs.Prelude.{Bool, if◌then◌else◌, Option, None, Some}
use Rattle.value_types.specs.declared.value.Value.{Value}
use Rattle.bound_tree.specs.Meaning.{is_null}
use Rattle.group_rows.specs.Totals.{comes_before}

abbrev pub first_with : Bool → Option Value → Value → Option Value
first_with down None value = if is_null value then None else Some value
first_with down (Some first) value =
    if is_null value then Some first else if comes_before down value first then Some value else Some first
