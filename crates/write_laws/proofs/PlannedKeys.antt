-- The keys of what a write plans for its table's own rows.
use Rattle.std.proofs.Common.{◌≡◌, length, Option, Some, sym, ap, subst, ◌∙◌}
use Rattle.std.specs.List.{AllByRecursion}
use Rattle.value_types.specs.declared.table_name.TableName.{TableName}
use Rattle.tsql_tree.specs.declared.definition.TableTree.{TableTree}
use Rattle.tsql_tree.specs.Places.{key_places}
use Rattle.step_model.specs.declared.change.Planned.{Planned}
use Rattle.table_rows.specs.Rows.{rows_table, shape_of}
use Rattle.constraint_check.proofs.Lists.{all_more}
use Rattle.dml_exec.specs.Planning.{changes_of, table_written}
use Rattle.write_laws.specs.Reading.{PlannedKeys}
use Rattle.write_laws.specs.Once.{KeyFits}
use Rattle.write_laws.proofs.OwnPlans.{own_made}
use Rattle.write_laws.proofs.Planned.{shape_named}
use Rattle.write_laws.proofs.Plans.{keys_long, made_of}

pub planned_keys : PlannedKeys
planned_keys vars system shapes shape checks of images planned known is =
    let made = made_of vars system shape checks of images planned is in
    subst (AllByRecursion (KeyFits shapes)) (sym (own_made (table_written of) shape planned made.0 named made.2))
    (all_more IsLong (KeyFits shapes) fits (changes_of (rows_table shape.name) (key_places (Some shape)) made.0) (keys_long (rows_table shape.name) (key_places (Some shape)) made.0))
  where
    named : table_written of ≡ rows_table shape.name
    named = shape_named (table_written of) shapes shape known

    IsLong : Planned → Type 0
    IsLong change = (change.table ≡ rows_table shape.name) × (length change.key ≡ length (key_places (Some shape)))

    fits : (change : Planned) → IsLong change → KeyFits shapes change
    fits change long = long.1 ∙ ap (λ (o : Option TableTree). length (key_places o)) (sym known) ∙ ap (λ (t : TableName). length (key_places (shape_of t shapes))) (named ∙ sym long.0)
