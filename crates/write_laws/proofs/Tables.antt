-- What is read for changes is of parts whose rows fit.
use Rattle.std.proofs.Common.{◌≡◌, ℕ, suc, Bool, true, false, if◌then◌else◌, nat_eq, List, [], ◌∷◌, ◌++◌, map, Option, None, Some, IsTrue, refl, sym, subst}
use Rattle.std.specs.Prelude.{IsSome}
use Rattle.std.specs.List.{AllByRecursion, flat_map, list_any}
use Rattle.std.proofs.lemmas.Bool.{eqb-true}
use Rattle.value_types.specs.Units.{same_units}
use Rattle.value_types.specs.declared.table_name.TableName.{TableName}
use Rattle.value_types.specs.declared.value.Value.{Value}
use Rattle.tsql_tree.specs.declared.definition.ForeignTree.{ForeignTree}
use Rattle.tsql_tree.specs.declared.definition.KeyTree.{KeyTree}
use Rattle.tsql_tree.specs.declared.definition.TableTree.{TableTree}
use Rattle.bound_tree.specs.Meaning.{is_null}
use Rattle.step_model.specs.declared.change.Planned.{Planned}
use Rattle.step_model.specs.declared.range.KeyRange.{KeyRange}
use Rattle.step_model.specs.declared.range.Start.TheVariants.{First, At}
use Rattle.step_model.specs.declared.range.Stop.TheVariants.{Last, Within}
use Rattle.step_model.specs.Database.{Database}
use Rattle.step_model.specs.Own.{row_of}
use Rattle.index_laws.proofs.Found.{same_back}
use Rattle.table_rows.specs.Rows.{has_columns, index_part, index_places, is_shape_of, key_of, part_shape, places_of, row_fits, rows_table, same_key, shape_of, values_at}
use Rattle.table_rows.proofs.Columns.{index_row_fits}
use Rattle.constraint_check.specs.declared.check_read.CheckRead.{CheckRead}
use Rattle.constraint_check.specs.Reads.{all_rows, child_read, child_reads, child_where, first_foreign, index_rows, is_gone, is_key, of_both, of_key, of_row, parent_read, parent_reads, parent_reads_from, parent_reads_of, reads_for, row_at, unique_reads, unique_reads_from}
use Rattle.constraint_check.proofs.Behind.{name_is}
use Rattle.constraint_check.proofs.Lists.{all_more, all_two}
use Rattle.history_laws.proofs.Basics.{both}
use Rattle.history_laws.proofs.Splits.{all_both}
use Rattle.dml_exec.specs.Reading.{fits}
use Rattle.write_laws.specs.Checking.{ArePartsFrom, CanCheck, HasParts, IsPart}
use Rattle.write_laws.specs.Reading.{ReadsReady}
use Rattle.write_laws.specs.Reads.{AllFit, HasParent, RowsFit}

-- ---- shapes by their names

abbrev IsThere : List TableTree → TableName → Type 0
IsThere shapes table = IsSome (shape_of table shapes)

-- a fact of all of them is one of the one of a name
of_shape : (P : TableTree → Type 0) (table : TableName) (shapes : List TableTree) (shape : TableTree) → shape_of table shapes ≡ Some shape → AllByRecursion P shapes → P shape
of_shape P table [] shape is all = absurd (let no : None ≡ Some shape = is in cc)
of_shape P table (first ∷ shapes) shape is all = by_test (is_shape_of table first) is (λ is. of_shape P table shapes shape is all.1)
  where
    by_test : (b : Bool) → (if b then Some first else shape_of table shapes) ≡ Some shape → (shape_of table shapes ≡ Some shape → P shape) → P shape
    by_test true is rest = let same : first ≡ shape = cc in subst P same all.0
    by_test false is rest = rest is

named_by : (object : List ℕ) (part : ℕ) (name : List ℕ) → object ≡ name → part ≡ 0 → record { object = object; part = part } ≡ rows_table name
named_by object part name same none = λ i. record { object = same i; part = none i }

shape_named : (table : TableName) (shapes : List TableTree) (shape : TableTree) → shape_of table shapes ≡ Some shape → table ≡ rows_table shape.name
shape_named table [] shape is = absurd (let no : None ≡ Some shape = is in cc)
shape_named table (first ∷ shapes) shape is = by_test (is_shape_of table first) refl is (shape_named table shapes shape)
  where
    by_test : (b : Bool) → is_shape_of table first ≡ b → (if b then Some first else shape_of table shapes) ≡ Some shape → (shape_of table shapes ≡ Some shape → table ≡ rows_table shape.name) → table ≡ rows_table shape.name
    by_test true named is rest =
        let parts = both (nat_eq table.part 0) (same_units table.object first.name) named in
        let same : first ≡ shape = cc in
        subst (λ (of : TableTree). table ≡ rows_table of.name) same (named_by table.object table.part first.name (name_is table.object first.name parts.1) (eqb-true table.part 0 parts.0))
    by_test false named is rest = rest is

-- so all rows of a table that is there fit its shape
fit_there : (db : Database) (shapes : List TableTree) → AllByRecursion (RowsFit db) shapes → (table : TableName) → IsThere shapes table → AllFit db shapes table
fit_there db shapes fit table there key row is = by_shape (shape_of table shapes) refl there
  where
    by_shape : (o : Option TableTree) → shape_of table shapes ≡ o → IsSome o → IsTrue (fits (part_shape table shapes) table.part (key, row))
    by_shape None none there = absurd (let no : false ≡ true = there in cc)
    by_shape (Some shape) shaped there =
        let named : table ≡ rows_table shape.name = shape_named table shapes shape shaped in
        let known : shape_of (rows_table shape.name) shapes ≡ Some shape = subst (λ (t : TableName). shape_of t shapes ≡ Some shape) named shaped in
        subst (λ (t : TableName). IsTrue (fits (part_shape t shapes) t.part (key, row))) (sym named)
        (subst (λ (o : Option TableTree). IsTrue (fits o 0 (key, row))) (sym known) (of_shape (RowsFit db) table shapes shape shaped fit key row (subst (λ (t : TableName). db t key ≡ Some row) named is)))

-- ---- lists

pub all_flat_of : {A B : Type 0} (P : B → Type 0) (f : A → List B) (xs : List A) → AllByRecursion (λ x. AllByRecursion P (f x)) xs → AllByRecursion P (flat_map f xs)
all_flat_of P f [] all = tt
all_flat_of P f (x ∷ xs) all = all_both P (f x) (flat_map f xs) all.0 (all_flat_of P f xs all.1)

pub all_map_of : {A B : Type 0} (P : B → Type 0) (f : A → B) (xs : List A) → ((x : A) → P (f x)) → AllByRecursion P (map f xs)
all_map_of P f [] all = tt
all_map_of P f (x ∷ xs) all = (all x, all_map_of P f xs all)

pub all_each : {A : Type 0} (P : A → Type 0) (xs : List A) → ((x : A) → P x) → AllByRecursion P xs
all_each P [] all = tt
all_each P (x ∷ xs) all = (all x, all_each P xs all)

-- ---- the reads

-- what is read of such a table fits
abbrev RangeFits : Database → List TableTree → KeyRange → Type 0
RangeFits db shapes range = AllFit db shapes range.table

-- the rows that are read of an index part are rows of it
of_part : (db : Database) (shapes : List TableTree) (shape : TableTree) (part : ℕ) (values : List Value) → AllFit db shapes (index_part shape part) → AllFit db shapes (index_rows shape part values).table
of_part db shapes shape part values fit = by_test (is_key values)
  where
    by_test : (b : Bool)
        → RangeFits db shapes (if b then (record { table = index_part shape part; start = At values; stop = Within values }) else (record { table = index_part shape part; start = First; stop = Last }))
    by_test true = fit
    by_test false = fit

-- of one of the tables, whose rows fit
module _ (db : Database) (shapes : List TableTree) (shape : TableTree) (known : shape_of (rows_table shape.name) shapes ≡ Some shape) (fit : RowsFit db shape) where
  abbrev IsFit : CheckRead → Type 0
  IsFit read = AllFit db shapes read.range.table

  -- each row of an index part is the index row of one that fits
  part_fits : (part : ℕ) (columns : List (List ℕ)) → IsPart db shape part columns → AllFit db shapes (index_part shape part)
  part_fits part columns has key row is =
      let places : List ℕ = index_places shape columns in
      let from = has.1.stands key row is in
      let own = both (has_columns shape.columns from.1) (same_key (key_of shape from.1) from.0) (fit from.0 from.1 from.2) in
      subst (λ (o : Option TableTree). IsTrue (fits o part (key, row))) (sym known)
      (subst (λ (r : List Value). IsTrue (row_fits shape part key r)) (sym from.3) (index_row_fits shape part places key from.1 has.0 own.0 (same_back key (values_at places from.1) from.4)))

  uniques_fit : (row : List Value) (part : ℕ) (keys : List KeyTree) → ArePartsFrom db shape (λ (key : KeyTree). key.columns) part keys → AllByRecursion IsFit (unique_reads_from shape row part keys)
  uniques_fit row part [] has = tt
  uniques_fit row part (key ∷ keys) has = (of_part db shapes shape part (values_at (places_of shape key.columns) row) (part_fits part key.columns has.0), uniques_fit row (suc part) keys has.1)

  parents_fit : (table : TableName) (gone : List Value) (part : ℕ) (foreigns : List ForeignTree) → ArePartsFrom db shape (λ (foreign : ForeignTree). foreign.columns) part foreigns → AllByRecursion IsFit (parent_reads_from table gone shape part foreigns)
  parents_fit table gone part [] has = tt
  parents_fit table gone part (foreign ∷ foreigns) has = by_test (same_units foreign.parent table.object) (parents_fit table gone (suc part) foreigns has.1)
    where
      by_test : (b : Bool) → AllByRecursion IsFit (parent_reads_from table gone shape (suc part) foreigns)
          → AllByRecursion IsFit (if b then parent_read gone shape part foreign ∷ parent_reads_from table gone shape (suc part) foreigns else parent_reads_from table gone shape (suc part) foreigns)
      by_test true rest = (of_part db shapes shape part gone (part_fits part foreign.columns has.0), rest)
      by_test false rest = rest

module _ (db : Database) (shapes : List TableTree) (can : CanCheck db shapes) where
  abbrev IsGoodRead : CheckRead → Type 0
  IsGoodRead read = AllFit db shapes read.range.table

  -- one of the tables: the first of its name, whose rows fit, with its parts
  abbrev IsGood : TableTree → Type 0
  IsGood of = (shape_of (rows_table of.name) shapes ≡ Some of) × (RowsFit db of × HasParts db of)

  all_shapes : AllByRecursion IsGood shapes
  all_shapes =
      all_two (λ of. shape_of (rows_table of.name) shapes ≡ Some of) (λ of. RowsFit db of × HasParts db of) IsGood (λ of known has. (known, has)) shapes can.each
      (all_two (RowsFit db) (HasParts db) (λ of. RowsFit db of × HasParts db of) (λ of fit parts. (fit, parts)) shapes can.rows can.parts)

  -- the shape of a table and a row, where there are both
  of_good : (reads : TableTree → List Value → List CheckRead) → ((shape : TableTree) (table : TableName) → shape_of table shapes ≡ Some shape → (row : List Value) → AllByRecursion IsGoodRead (reads shape row))
      → (change : Planned) → AllByRecursion IsGoodRead (of_row reads shapes change)
  of_good reads good change = by_both (shape_of change.table shapes) refl (row_of change.deed)
    where
      by_both : (o : Option TableTree) → shape_of change.table shapes ≡ o → (row : Option (List Value)) → AllByRecursion IsGoodRead (of_both reads o row)
      by_both None is row = tt
      by_both (Some shape) is None = tt
      by_both (Some shape) is (Some row) = good shape change.table is row

  unique_good : (shape : TableTree) (table : TableName) → shape_of table shapes ≡ Some shape → (row : List Value) → AllByRecursion IsGoodRead (unique_reads shape row)
  unique_good shape table is row = let has = of_shape IsGood table shapes shape is all_shapes in uniques_fit db shapes shape has.0 has.1.0 row 1 shape.uniques has.1.1.uniques

  row_good : (name : List ℕ) (values : List Value) → AllFit db shapes (rows_table name) → AllFit db shapes (row_at name values).table
  row_good name values fit = by_test (is_key values)
    where
      by_test : (b : Bool) → AllFit db shapes (if b then (record { table = rows_table name; start = At values; stop = Within values }) else all_rows name).table
      by_test true = fit
      by_test false = fit

  where_good : (foreign : ForeignTree) (values : List Value) → AllFit db shapes (rows_table foreign.parent) → AllByRecursion IsGoodRead (child_where shapes foreign values)
  where_good foreign values fit = by_test (list_any is_null values)
    where
      by_test : (b : Bool) → AllByRecursion IsGoodRead (if b then [] else child_read shapes foreign values ∷ [])
      by_test true = tt
      by_test false = (row_good foreign.parent values fit, tt)

  child_good : (shape : TableTree) (table : TableName) → shape_of table shapes ≡ Some shape → (row : List Value) → AllByRecursion IsGoodRead (child_reads shapes shape row)
  child_good shape table is row =
      all_flat_of IsGoodRead (λ foreign. child_where shapes foreign (values_at (places_of shape foreign.columns) row)) shape.foreigns
      (all_more (HasParent shapes shape) (λ foreign. AllByRecursion IsGoodRead (child_where shapes foreign (values_at (places_of shape foreign.columns) row)))
      (λ foreign has. where_good foreign (values_at (places_of shape foreign.columns) row) (fit_there db shapes can.rows (rows_table foreign.parent) has.0)) shape.foreigns
      (of_shape (λ of. AllByRecursion (HasParent shapes of) of.foreigns) table shapes shape is can.parents))

  key_good : (changes : List Planned) (change : Planned) → AllByRecursion IsGoodRead (of_key shapes changes change)
  key_good changes change = by_test (is_gone changes change)
    where
      by_test : (b : Bool) → AllByRecursion IsGoodRead (if b then parent_reads shapes change.table change.key else [])
      by_test true =
          all_flat_of IsGoodRead (parent_reads_of change.table change.key) shapes
          (all_more IsGood (λ child. AllByRecursion IsGoodRead (parent_reads_of change.table change.key child))
          (λ child has. parents_fit db shapes child has.0 has.1.0 change.table change.key (first_foreign child) child.foreigns has.1.1.foreigns) shapes all_shapes)
      by_test false = tt

  pub all_good : (changes : List Planned) → AllByRecursion IsGoodRead (reads_for changes shapes)
  all_good changes =
      all_both IsGoodRead (flat_map (of_row unique_reads shapes) changes) (flat_map (of_row (child_reads shapes) shapes) changes ++ flat_map (of_key shapes changes) changes)
      (all_flat_of IsGoodRead (of_row unique_reads shapes) changes (all_each (λ change. AllByRecursion IsGoodRead (of_row unique_reads shapes change)) changes (of_good unique_reads unique_good)))
      (all_both IsGoodRead (flat_map (of_row (child_reads shapes) shapes) changes) (flat_map (of_key shapes changes) changes)
      (all_flat_of IsGoodRead (of_row (child_reads shapes) shapes) changes (all_each (λ change. AllByRecursion IsGoodRead (of_row (child_reads shapes) shapes change)) changes (of_good (child_reads shapes) child_good)))
      (all_flat_of IsGoodRead (of_key shapes changes) changes (all_each (λ change. AllByRecursion IsGoodRead (of_key shapes changes change)) changes (key_good changes))))

pub reads_ready : ReadsReady
reads_ready db shapes changes can = all_good db shapes can changes
