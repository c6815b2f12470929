-- Own: what the checks of a statement say of all rows of tables: of UNIQUE and of rows that refer, what is to be found out of index parts
-- where these are exact; of a row's parent, what is read.
use Rattle.std.specs.Prelude.{if◌then◌else◌, List, [], ◌++◌, map, filter}
use Rattle.std.specs.List.{flat_map}
use Rattle.value_types.specs.Units.{same_units}
use Rattle.value_types.specs.declared.table_name.TableName.{TableName}
use Rattle.value_types.specs.declared.value.Value.{Value}
use Rattle.tsql_tree.specs.declared.definition.ForeignTree.{ForeignTree}
use Rattle.tsql_tree.specs.declared.definition.KeyTree.{KeyTree}
use Rattle.tsql_tree.specs.declared.definition.TableTree.{TableTree}
use Rattle.step_model.specs.declared.change.Planned.{Planned}
use Rattle.table_rows.specs.Rows.{places_of, values_at}
use Rattle.constraint_check.specs.declared.check_read.Check.TheVariants.{Unique, Parent}
use Rattle.constraint_check.specs.declared.check_read.CheckRead.{CheckRead}
use Rattle.constraint_check.specs.Reads.{all_rows, child_reads, is_gone, of_row}

-- UNIQUE, of a row that is written
abbrev pub unique_meant : TableTree → List Value → KeyTree → CheckRead
unique_meant shape row key = let places = places_of shape key.columns in
    record { check = Unique; range = all_rows shape.name; columns = places; wanted = values_at places row; name = key.name }

abbrev pub uniques_meant : TableTree → List Value → List CheckRead
uniques_meant shape row = map (unique_meant shape row) shape.uniques

-- FOREIGN KEYs that refer to a row that is gone
abbrev pub parent_meant : List Value → TableTree → ForeignTree → CheckRead
parent_meant key child foreign = record {
  check = Parent;
  range = all_rows child.name;
  columns = places_of child foreign.columns;
  wanted = key;
  name = foreign.name;
}

abbrev pub parents_meant_of : TableName → List Value → TableTree → List CheckRead
parents_meant_of table key child = map (parent_meant key child) (filter (λ foreign. same_units foreign.parent table.object) child.foreigns)

abbrev pub parents_meant : List TableTree → TableName → List Value → List CheckRead
parents_meant shapes table key = flat_map (parents_meant_of table key) shapes

abbrev pub key_meant : List TableTree → List Planned → Planned → List CheckRead
key_meant shapes changes change = if is_gone changes change then parents_meant shapes change.table change.key else []

-- of the changes of a statement, in the order of `reads_for`
abbrev pub reads_meant : List Planned → List TableTree → List CheckRead
reads_meant changes shapes =
    flat_map (of_row uniques_meant shapes) changes
    ++ (flat_map (of_row (child_reads shapes) shapes) changes
    ++ flat_map (key_meant shapes changes) changes)
