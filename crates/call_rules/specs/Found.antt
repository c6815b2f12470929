-- Own: what the code knows between two steps. Private contracts alone cite this.
use Rattle.std.specs.Prelude.{◌≡◌, ℕ, ℤ, List, Option, Some, None, map, option_map, position}
use Rattle.std.proofs.Common.{Bor}
use Rattle.std.specs.Ordering.{nat_cmp}
use Rattle.std.specs.Cmp.Lexicographic.{slice_cmp}
use Rattle.std.specs.BTreeMap.{BTreeMap, get}
use Rattle.std.specs.BTreeSet.{BTreeSet, contains}
use Rattle.std.specs.List.{list_any}
use Rattle.value_types.specs.Units.{same_units}
use Rattle.value_types.specs.declared.value.Value.{Value}
use Rattle.value_types.specs.Order.{key_cmp}
use Rattle.tsql_tree.specs.declared.definition.Parameter.{Parameter}
use Rattle.tsql_tree.specs.declared.statement.Argument.{Argument}
use Rattle.step_model.specs.declared.change.Planned.{Planned}
use Rattle.call_rules.specs.declared.fault.CallFault.{CallFault}
use Rattle.call_rules.specs.declared.fault.CallFault.TheVariants.{Number, Memory}
use Rattle.call_rules.specs.Triggers.{takes_at}

-- the map has the place of the first parameter of each name
abbrev pub ArePlaces : BTreeMap (List ℕ) ℕ → List Parameter → Type 0
ArePlaces places parameters = (name : List ℕ) → get (slice_cmp nat_cmp) places name ≡ position (λ parameter. same_units parameter.name name) parameters

-- arguments that are lent
abbrev pub lent : List (Bor Argument) → List Argument
lent arguments = map (λ argument. argument.now) arguments

abbrev pub lent_slots : List (Option (Bor Argument)) → List (Option Argument)
lent_slots slots = map (option_map (λ argument. argument.now)) slots

-- the number that a fault of a conversion is; want of memory has none
abbrev pub refused_by : Option ℤ → CallFault
refused_by None = Memory
refused_by (Some number) = Number number

-- the set has the keys of the rows that changes take away
abbrev pub AreTaken : BTreeSet (List Value) → List Planned → Type 0
AreTaken keys changes = (key : List Value) → contains key_cmp keys key ≡ list_any (takes_at key) changes
