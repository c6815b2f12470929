use Rattle.std.proofs.Common.{◌≡◌, ◌∙◌, List, length, filter_map, ap, arith}
use Rattle.std.specs.Vec.{with_items}
use Rattle.std.proofs.lemmas.List.{with_items_is}
use Rattle.tsql_tree.specs.declared.definition.Definition.{Definition}
use Rattle.call_rules.specs.Triggers.{triggers_for}
use Rattle.table_rows.specs.Definitions.{tables_of}
use Rattle.statement_exec.specs.Slots.{AreSlots, table_left}
use Rattle.statement_exec.proofs.Slots.{fires_at, slots_all, slots_tables}
use Rattle.statement_exec.proofs.fired.parted.Goals as goal

-- The slots stand for the definitions, before triggers are taken and behind that; so the tables that are left are those of the definitions.
pub returns : goal.returns
returns c =
    let definitions = c.args.definitions.items in
    let at_first : AreSlots c.deref_mut.result.now definitions = rw (c.deref_mut.ensures.value, c.in_ok-slots.ensures) (slots_all definitions) in
    let kept : (with_items c.in_ok-slots.slots c.take_fired.new.slots).items ≡ c.take_fired.new.slots = with_items_is c.in_ok-slots.slots c.take_fired.new.slots (omega (arith, c.take_fired.auto.slots, c.in_ok-slots.slots.ok.0, ap length c.deref_mut.ensures.value)) in
    let tables : c.from_vec.result ≡ tables_of definitions = c.from_vec.ensures ∙ c.in_ok-tables.ensures ∙ ap (filter_map table_left) kept ∙ slots_tables c.take_fired.new.slots definitions (c.in_ok-fires.ensures.slots definitions at_first) in
    let fires : c.from_vec-2.result ≡ fires_at c.args.around.now definitions (triggers_for c.args.table.now c.args.event definitions) =
    c.from_vec-2.ensures ∙ c.in_ok-fires.ensures.fires definitions at_first
    ∙ ap (fires_at c.args.around.now definitions) (c.as_slice-2.ensures.value ∙ c.in_ok-places.ensures ∙ ap (λ (all : List Definition). triggers_for c.args.table.now c.args.event all) c.as_slice.ensures.value) in
    λ i. (tables i, fires i)
