-- Transact-SQL reference, "CREATE TRIGGER" and "Use the inserted and deleted tables": the triggers that a statement fires, in the order of
-- their names (own), and the rows that they see: those that the statement took away, and those that it put. A row that is replaced is
-- one of each. Changes of index parts are none of them. Both are in the order of the table's key. The code finds the keys in an ordered set.
use Rattle.std.specs.Prelude.{ℕ, Bool, true, false, ◌&&◌, if◌then◌else◌, List, [], ◌∷◌, map, filter, filter_map, Option, Some, None, option_map}
use Rattle.std.specs.List.{enumerate_from, list_any}
use Rattle.std.specs.Ordering.{eq_by_cmp}
use Rattle.value_types.specs.Units.{same_units}
use Rattle.value_types.specs.declared.value.Value.{Value}
use Rattle.value_types.specs.declared.value.Value.TheVariants.{Text}
use Rattle.value_types.specs.Order.{key_cmp}
use Rattle.tsql_tree.specs.declared.definition.Definition.{Definition}
use Rattle.tsql_tree.specs.declared.definition.Definition.TheVariants.{Table, Procedure, Trigger}
use Rattle.tsql_tree.specs.declared.definition.Event.{Event}
use Rattle.tsql_tree.specs.declared.definition.Event.TheVariants.{Insert, Update, Delete}
use Rattle.tsql_tree.specs.declared.definition.TriggerTree.{TriggerTree}
use Rattle.bound_tree.specs.Setting.{value_at}
use Rattle.group_rows.specs.Ordered.{in_order}
use Rattle.step_model.specs.declared.change.Deed.{Deed}
use Rattle.step_model.specs.declared.change.Deed.TheVariants as deed
use Rattle.step_model.specs.declared.change.Planned.{Planned}
use Rattle.step_model.specs.Own.{is_own, row_of}

-- ---- the order of keys

-- what stands beside keys, in the order of the keys; where keys tie, as they stood
abbrev pub in_key_order : {X : Type 0} → List (List Value × X) → List X
in_key_order pairs = map (λ pair. pair.1) (in_order (λ a b. key_cmp a.0 b.0) pairs)

-- ---- which triggers are fired

abbrev pub is_event : Event → Event → Bool
is_event Insert Insert = true
is_event Insert Update = false
is_event Insert Delete = false
is_event Update Insert = false
is_event Update Update = true
is_event Update Delete = false
is_event Delete Insert = false
is_event Delete Update = false
is_event Delete Delete = true

-- the trigger is on this table, for this event
abbrev pub is_fired : List ℕ → Event → TriggerTree → Bool
is_fired table event trigger = same_units trigger.table table && list_any (is_event event) trigger.events

-- a definition at its place, as a trigger that is fired, beside its name as the key of a row
abbrev pub fired_as : List ℕ → Event → ℕ × Definition → Option (List Value × ℕ)
fired_as table event (place, Table of) = None
fired_as table event (place, Procedure of) = None
fired_as table event (place, Trigger of) = if is_fired table event of then Some (Text of.name ∷ [], place) else None

-- The places of the triggers on the table that the event fires, in the order of their names.
abbrev pub triggers_for : List ℕ → Event → List Definition → List ℕ
triggers_for table event definitions = in_key_order (filter_map (fired_as table event) (enumerate_from 0 definitions))

-- ---- the rows that triggers see

-- what stood at the key stands there no more
abbrev pub takes_away : Deed → Bool
takes_away deed.Erase = true
takes_away (deed.Replace row) = true
takes_away (deed.Insert row) = false

-- an own row of the table
abbrev pub takes_own : Planned → Bool
takes_own change = is_own change && takes_away change.deed

-- keys that compare equal are one key
abbrev pub takes_at : List Value → Planned → Bool
takes_at key change = takes_own change && eq_by_cmp key_cmp change.key key

abbrev pub is_taken : List Planned → List Value × List Value → Bool
is_taken changes row = list_any (takes_at row.0) changes

-- a row beside its key, the values at these places
abbrev pub keyed : List ℕ → List Value → List Value × List Value
keyed places row = (map (value_at row) places, row)

-- The rows of a table, whose key has the columns of these places, that changes take away: those at the keys that are erased or replaced.
abbrev pub deleted : List ℕ → List (List Value) → List Planned → List (List Value)
deleted places rows changes = in_key_order (filter (is_taken changes) (map (keyed places) rows))

-- the own row of the table that is put
abbrev pub own_put : Planned → Option (List Value)
own_put change = if is_own change then row_of change.deed else None

-- beside its key
abbrev pub put_at : Planned → Option (List Value × List Value)
put_at change = option_map (λ row. (change.key, row)) (own_put change)

-- The rows that changes put: those that are replaced or inserted.
abbrev pub inserted : List Planned → List (List Value)
inserted changes = in_key_order (filter_map put_at changes)
