-- Index parts where definitions come and go.
use Rattle.std.proofs.Common.{◌≡◌, refl, sym, ap, ◌∙◌, subst, ◌⊎◌, inl, inr, ℕ, zero, suc, Bool, true, false, ◌&&◌, ◌||◌, nat_eq, List, [], ◌∷◌, map, filter, Option, Some, None, IsSome, if◌then◌else◌, cond, arith}
use Rattle.std.proofs.lemmas.Bool.{eqb-true}
use Rattle.std.proofs.lemmas.List.{map-append}
use Rattle.std.specs.List.{AllByRecursion, list_any}
use Rattle.std.specs.Ordering.{is_eq}
use Rattle.value_types.specs.Units.{same_units}
use Rattle.value_types.specs.declared.table_name.TableName.{TableName}
use Rattle.value_types.specs.declared.value.Value.{Value}
use Rattle.value_types.specs.Order.{table_cmp}
use Rattle.tsql_tree.specs.declared.definition.Definition.TheVariants.{Table}
use Rattle.tsql_tree.specs.declared.definition.TableTree.{TableTree}
use Rattle.step_model.specs.declared.change.Change.{Change}
use Rattle.step_model.specs.declared.change.Deed.{Deed}
use Rattle.step_model.specs.declared.change.Deed.TheVariants.{Erase, Replace, Insert}
use Rattle.step_model.specs.declared.change.Planned.{Planned}
use Rattle.step_model.specs.Database.{Database, With, is_at, with_change}
use Rattle.step_model.specs.Own.{change_of, is_own, row_of}
use Rattle.step_model.proofs.Databases.{With-append}
use Rattle.index_laws.specs.Parts.{Among, IsExact, OfRow, Part}
use Rattle.index_laws.proofs.Behind.{gives}
use Rattle.table_rows.specs.Definitions.{IsDefinitionOf, is_objects, object_key, objects_name}
use Rattle.table_rows.specs.Rows.{index_part, part_places, rows_table, values_at}
use Rattle.constraint_check.specs.Laws.{behind}
use Rattle.constraint_check.specs.Reads.{is_erase}
use Rattle.constraint_check.proofs.Behind.{name_is, same, same_itself}
use Rattle.batch_meaning.specs.Changing.{definition_erased}
use Rattle.statement_paths.specs.Paths.{definition_put}
use Rattle.write_laws.specs.IndexKept.{AreEmptied, IndexedCreated, IndexedDropped, IndexedEmpty, IndexedErased, IndexedPut, OwnBehind}
use Rattle.write_laws.specs.Indexed.{Indexed, own_rows}
use Rattle.write_laws.specs.Keeping.{IsCreated, with_definition}
use Rattle.write_laws.specs.Sound.{Firm, IsKnown, IsTableOf}
use Rattle.write_laws.proofs.Created as created
use Rattle.write_laws.proofs.Defined.{defined_by, names_apart, not_objects, not_same, one_name}
use Rattle.write_laws.proofs.Elsewhere.{is_table, objects_apart, parts_equal, table_is, table_name, tables_apart, untouched}
use Rattle.write_laws.proofs.Erased as erased
use Rattle.write_laws.proofs.Puts as puts

-- ---- tables and parts

-- a part that is none of the own rows is none of the own rows of any table
pub part_apart : (name : List ℕ) (table : TableName) → nat_eq table.part 0 ≡ false → is_table name table ≡ false
part_apart name table other = by_test (is_table name table) refl
  where
    by_test : (b : Bool) → is_table name table ≡ b → b ≡ false
    by_test true is = let no : false ≡ true = sym other ∙ ap (λ (t : TableName). nat_eq t.part 0) (table_is name table is) in cc
    by_test false is = refl

-- an index part is none of the own rows
pub not_own : (shape : TableTree) (part : ℕ) (places : List ℕ) → part_places shape part ≡ Some places → nat_eq part 0 ≡ false
not_own shape zero places is = absurd (let no : None ≡ Some places = is in cc)
not_own shape (suc part) places is = by_test (nat_eq (suc part) 0) refl
  where
    by_test : (b : Bool) → nat_eq (suc part) 0 ≡ b → b ≡ false
    by_test true first = let none : suc part ≡ 0 = eqb-true (suc part) 0 first in absurd (omega (arith, none))
    by_test false first = refl

-- ---- own rows behind changes

-- tables with own rows are others than parts
pub parts_apart : (table other : TableName) (b : Bool) → nat_eq table.part 0 ≡ b → nat_eq other.part 0 ≡ (if b then false else true) → is_eq (table_cmp table other) ≡ false
parts_apart table other b is not = by_test (is_eq (table_cmp table other)) refl
  where
    clash : (b : Bool) → b ≡ (if b then false else true) → ⊥
    clash true is = cc
    clash false is = cc

    by_test : (same : Bool) → is_eq (table_cmp table other) ≡ same → same ≡ false
    by_test true at = absurd (clash b (sym is ∙ ap (λ (n : ℕ). nat_eq n 0) (parts_equal table other at) ∙ not))
    by_test false at = refl

module _ (db : Database) (change : Planned) where
  own_more : is_own change ≡ true → (table : TableName) (key : List Value) → own_rows (with_change db (change_of change)) table key ≡ with_change (own_rows db) (change_of change) table key
  own_more own table key = by_part (nat_eq table.part 0) refl
    where
      by_part : (b : Bool) → nat_eq table.part 0 ≡ b → (if b then with_change db (change_of change) table key else None) ≡ (if is_at (change_of change) table key then row_of change.deed else (if b then db table key else None))
      by_part true is = refl
      by_part false is = sym (ap (λ (b : Bool). if b && same change.key key then row_of change.deed else None) (parts_apart change.table table true own is))

  own_same : is_own change ≡ false → (table : TableName) (key : List Value) → own_rows (with_change db (change_of change)) table key ≡ own_rows db table key
  own_same other table key = by_part (nat_eq table.part 0) refl
    where
      by_part : (b : Bool) → nat_eq table.part 0 ≡ b → (if b then with_change db (change_of change) table key else None) ≡ (if b then db table key else None)
      by_part true is = ap (λ (b : Bool). if b && same change.key key then row_of change.deed else db table key) (parts_apart change.table table false other is)
      by_part false is = refl

pub own_behind : OwnBehind
own_behind db [] = refl
own_behind db (change ∷ changes) = own_behind (with_change db (change_of change)) changes ∙ by_test (is_own change) refl
  where
    by_test : (b : Bool) → is_own change ≡ b → behind (own_rows (with_change db (change_of change))) (filter is_own changes) ≡ behind (own_rows db) (cond b (change ∷ filter is_own changes) (filter is_own changes))
    by_test true own = ap (λ (d : Database). behind d (filter is_own changes)) (λ i table key. own_more db change own table key i)
    by_test false other = ap (λ (d : Database). behind d (filter is_own changes)) (λ i table key. own_same db change other table key i)

-- ---- parts that are as they were

-- of rows and a part that are the same
pub exact_too : (index_row : OfRow) (rows index rows_too index_too : Part) → ((key : List Value) → rows_too key ≡ rows key) → ((key : List Value) → index_too key ≡ index key) → IsExact index_row rows index → IsExact index_row rows_too index_too
exact_too index_row rows index rows_too index_too same_rows same_index exact = record {
  stands = λ x row is. let there = exact.stands x row (sym (same_index x) ∙ is) in (there.0, there.1, same_rows there.0 ∙ there.2, there.3, there.4);
  whole = λ key base is. same_index (index_row base) ∙ exact.whole key base (sym (same_rows key) ∙ is);
}

-- where no rows are
exact_none : (index_row : OfRow) (rows index : Part) → ((key : List Value) → rows key ≡ None) → ((key : List Value) → index key ≡ None) → IsExact index_row rows index
exact_none index_row rows index no_rows no_index = record {
  stands = λ x row is. absurd (let no : None ≡ Some row = sym (no_index x) ∙ is in cc);
  whole = λ key base is. absurd (let no : None ≡ Some base = sym (no_rows key) ∙ is in cc);
}

module _ (db after : Database) (firm : Firm (own_rows db)) (indexed : Indexed db) (there : (table : TableName) → is_table objects_name table ≡ false → (key : List Value) → after table key ≡ db table key) where
  -- a table that is defined is another than `objects`
  apart : (shape : TableTree) → IsTableOf db shape → same_units objects_name shape.name ≡ false
  apart shape is = names_apart objects_name shape.name (λ same. not_same shape.name objects_name (not_objects (own_rows db) firm shape.name (Table shape) is) (sym same))

  -- of a table that was
  exact_stays : (shape : TableTree) (part : ℕ) (places : List ℕ) → IsTableOf db shape → part_places shape part ≡ Some places → IsExact (values_at places) (after (rows_table shape.name)) (after (index_part shape part))
  exact_stays shape part places is of_part =
      exact_too (values_at places) (db (rows_table shape.name)) (db (index_part shape part)) (after (rows_table shape.name)) (after (index_part shape part))
      (there (rows_table shape.name) (tables_apart objects_name shape.name (apart shape is))) (there (index_part shape part) (objects_apart (rows_table objects_name) (index_part shape part) (apart shape is)))
      (indexed.exact shape part places is of_part)

  -- and of what stands in a part
  parts_stay : ((shape : TableTree) → IsTableOf db shape → IsTableOf after shape) → (table : TableName) (key row : List Value) → after table key ≡ Some row → nat_eq table.part 0 ≡ false
      → (shape : TableTree) × IsTableOf after shape × (table.object ≡ shape.name) × IsSome (part_places shape table.part)
  parts_stay stays table key row stands other =
      let was = indexed.parts table key row (sym (there table (part_apart objects_name table other) key) ∙ stands) other in
      (was.0, stays was.0 was.1, was.2, was.3)

  -- where the same tables are defined
  indexed_too : ((shape : TableTree) → IsTableOf after shape → IsTableOf db shape) → ((shape : TableTree) → IsTableOf db shape → IsTableOf after shape) → Indexed after
  indexed_too was stays = record { exact = λ shape part places now of_part. exact_stays shape part places (was shape now) of_part; parts = parts_stay stays }

-- ---- definitions that come and go

pub indexed_empty : IndexedEmpty
indexed_empty = record {
  exact = λ shape part places is of_part. absurd (let no : None ≡ Some is.0 = is.1 in cc);
  parts = λ table key row is other. absurd (let no : None ≡ Some row = is in cc);
}

put_there : (db : Database) (name text : List ℕ) (table : TableName) → is_table objects_name table ≡ false → (key : List Value) → behind db (definition_put name text ∷ []) table key ≡ db table key
put_there db name text table apart key = untouched objects_name table apart (definition_put name text ∷ []) (refl, tt) db key

erased_there : (db : Database) (name : List ℕ) (table : TableName) → is_table objects_name table ≡ false → (key : List Value) → behind db (definition_erased name ∷ []) table key ≡ db table key
erased_there db name table apart key = untouched objects_name table apart (definition_erased name ∷ []) (refl, tt) db key

pub indexed_put : IndexedPut
indexed_put db name text definition firm indexed made =
    indexed_too db (behind db (definition_put name text ∷ [])) firm indexed (put_there db name text) (puts.was_table (own_rows db) name text definition firm made)
    (λ shape. puts.stays (own_rows db) name text definition firm made shape.name (Table shape))

pub indexed_erased : IndexedErased
indexed_erased db name firm indexed none =
    indexed_too db (behind db (definition_erased name ∷ [])) firm indexed (erased_there db name) (λ shape. erased.was (own_rows db) name shape.name (Table shape)) (erased.stays (own_rows db) name none)

module _ (db : Database) (name text : List ℕ) (table : TableTree) (firm : Firm (own_rows db)) (indexed : Indexed db) (made : IsCreated (own_rows db) name text table) where
  abbrev after : Database
  after = behind db (definition_put name text ∷ [])

  -- the new table was not defined
  undefined : (shape : TableTree) → IsTableOf db shape → table.name ≡ shape.name → ⊥
  undefined shape is named =
      let free : None ≡ Some is.0 = sym made.free ∙ ap (λ (n : List ℕ). db (rows_table objects_name) (object_key n)) (sym made.defines.named ∙ named) ∙ is.1 in cc

  -- so nothing stands in it, nor in any part of it
  no_rows : (key : List Value) → db (rows_table table.name) key ≡ None
  no_rows key = by_row (db (rows_table table.name) key) refl
    where
      by_known : {A : Type 0} → IsKnown (own_rows db) (rows_table table.name) → A
      by_known (inl own) = absurd (not_same table.name objects_name (subst (λ (n : List ℕ). is_objects n ≡ false) (sym made.defines.named) made.other) (table_name table.name objects_name own))
      by_known (inr known) = absurd (undefined known.0 known.1 (table_name table.name known.0.name known.2))

      by_row : (o : Option (List Value)) → db (rows_table table.name) key ≡ o → o ≡ None
      by_row None is = refl
      by_row (Some row) is = by_known (firm.known (rows_table table.name) key row is)

  no_index : (part : ℕ) → nat_eq part 0 ≡ false → (key : List Value) → db (index_part table part) key ≡ None
  no_index part other key = by_row (db (index_part table part) key) refl
    where
      by_row : (o : Option (List Value)) → db (index_part table part) key ≡ o → o ≡ None
      by_row None is = refl
      by_row (Some row) is = let was = indexed.parts (index_part table part) key row is other in absurd (undefined was.0 was.1 was.2)

  other_name : same_units objects_name table.name ≡ false
  other_name = names_apart objects_name table.name (λ same. not_same table.name objects_name (subst (λ (n : List ℕ). is_objects n ≡ false) (sym made.defines.named) made.other) (sym same))

  exact_now : (shape : TableTree) (part : ℕ) (places : List ℕ) → IsTableOf after shape → part_places shape part ≡ Some places → IsExact (values_at places) (after (rows_table shape.name)) (after (index_part shape part))
  exact_now shape part places now of_part = elim (created.was_table (own_rows db) name text table firm made shape now) [
    | inl new ↦ subst (λ (of : TableTree). IsExact (values_at places) (after (rows_table of.name)) (after (index_part of part))) (sym new)
        (exact_none (values_at places) (after (rows_table table.name)) (after (index_part table part))
        (λ key. put_there db name text (rows_table table.name) (tables_apart objects_name table.name other_name) key ∙ no_rows key)
        (λ key. put_there db name text (index_part table part) (objects_apart (rows_table objects_name) (index_part table part) other_name) key ∙ no_index part (not_own shape part places of_part) key))
    | inr before ↦ exact_stays db after firm indexed (put_there db name text) shape part places before of_part
  ]

pub indexed_created : IndexedCreated
indexed_created db name text table firm indexed made = record {
  exact = exact_now db name text table firm indexed made;
  parts = parts_stay db (behind db (definition_put name text ∷ [])) firm indexed (put_there db name text) (λ shape. created.stays (own_rows db) name text table firm made shape.name (Table shape));
}

-- ---- DROP TABLE

-- what another object has stays behind changes of all parts of one
pub parts_elsewhere : (name : List ℕ) (table : TableName) → same_units name table.object ≡ false → (changes : List Planned) → AllByRecursion (λ change. change.table.object ≡ name) changes → (db : Database) (key : List Value)
    → behind db changes table key ≡ db table key
parts_elsewhere name table apart [] of db key = refl
parts_elsewhere name table apart (change ∷ changes) of db key =
    parts_elsewhere name table apart changes of.1 (with_change db (change_of change)) key
    ∙ ap (λ (b : Bool). if b && same change.key key then row_of change.deed else db table key) (objects_apart change.table table (ap (λ (n : List ℕ). same_units n table.object) of.0 ∙ apart))

-- erasures leave no row
rowless : (deed : Deed) → is_erase deed ≡ true → row_of deed ≡ None
rowless Erase is = refl
rowless (Replace row) is = cc
rowless (Insert row) is = cc

module _ (table : TableName) (key : List Value) where
  abbrev IsAt : Change → Type 0
  IsAt change = is_at change table key ≡ true

  all_rowless : (changes : List Planned) → AllByRecursion (λ change. is_erase change.deed ≡ true) changes → AllByRecursion (λ (change : Change). IsAt change → change.row ≡ None) (map change_of changes)
  all_rowless [] erases = tt
  all_rowless (change ∷ changes) erases = ((λ at. rowless change.deed erases.0), all_rowless changes erases.1)

  some_at : (changes : List Planned) → list_any (λ change. is_at (change_of change) table key) changes ≡ true → Among IsAt (map change_of changes)
  some_at [] any = absurd (let no : false ≡ true = any in cc)
  some_at (change ∷ changes) any = by_test (is_at (change_of change) table key) refl any (some_at changes)
    where
      by_test : (b : Bool) → is_at (change_of change) table key ≡ b → (b || list_any (λ change. is_at (change_of change) table key) changes) ≡ true
          → (list_any (λ change. is_at (change_of change) table key) changes ≡ true → Among IsAt (map change_of changes)) → Among IsAt (map change_of (change ∷ changes))
      by_test true at any rest = inl at
      by_test false other any rest = inr (rest any)

module _ (db : Database) (shape : TableTree) (changes : List Planned) (firm : Firm (own_rows db)) (indexed : Indexed db) (emptied : AreEmptied db shape changes) where
  abbrev mid : Database
  mid = behind db changes

  abbrev dropped : Database
  dropped = behind db (with_definition shape.name changes)

  split : (table : TableName) (key : List Value) → dropped table key ≡ behind mid (definition_erased shape.name ∷ []) table key
  split table key =
      ap (λ (list : List Change). With db list table key) (map-append change_of changes (definition_erased shape.name ∷ []))
      ∙ (λ i. With-append db (map change_of changes) (change_of (definition_erased shape.name) ∷ []) i table key)

  -- nothing is left in any part of the table
  gone : (table : TableName) (key : List Value) → table.object ≡ shape.name → mid table key ≡ None
  gone table key named = gives table key None (map change_of changes) db (all_rowless table key changes emptied.erases) (by_row (db table key) refl)
    where
      by_row : (o : Option (List Value)) → db table key ≡ o → (db table key ≡ None) ⊎ Among (λ (change : Change). is_at change table key ≡ true) (map change_of changes)
      by_row None is = inl is
      by_row (Some row) is = inr (some_at table key changes (emptied.whole table key named (subst (λ (o : Option (List Value)). IsSome o) (sym is) refl)))

  -- `objects` has what it had, but for the definition
  not_objects_name : same_units shape.name objects_name ≡ false
  not_objects_name = names_apart shape.name objects_name (not_same shape.name objects_name (not_objects (own_rows db) firm shape.name (Table shape) emptied.defined))

  objects_stay : (key : List Value) → mid (rows_table objects_name) key ≡ db (rows_table objects_name) key
  objects_stay key = parts_elsewhere shape.name (rows_table objects_name) not_objects_name changes emptied.of_parts db key

  was : (of : TableTree) → IsTableOf dropped of → IsTableOf db of × (of.name ≡ shape.name → ⊥)
  was of now =
      let last : IsTableOf (behind mid (definition_erased shape.name ∷ [])) of = defined_by dropped (behind mid (definition_erased shape.name ∷ [])) of.name (Table of) (sym (split (rows_table objects_name) (object_key of.name))) now in (
        defined_by mid db of.name (Table of) (sym (objects_stay (object_key of.name))) (erased.was mid shape.name of.name (Table of) last),
        λ named. let no : None ≡ Some last.0 =
            sym (erased.at_name mid shape.name (object_key of.name) (ap (λ (n : List ℕ). same (object_key shape.name) (object_key n)) named ∙ same_itself (object_key shape.name))) ∙ last.1 in cc,
      )

  stays : (of : TableTree) → IsTableOf db of → (of.name ≡ shape.name → ⊥) → IsTableOf dropped of
  stays of before other = by_test (same (object_key shape.name) (object_key of.name)) refl
    where
      by_test : (b : Bool) → same (object_key shape.name) (object_key of.name) ≡ b → IsTableOf dropped of
      by_test true at =
          let own : IsTableOf db shape = emptied.defined in
          let both : Some own.0 ≡ Some before.0 = sym own.1 ∙ firm.one_key (rows_table objects_name) (object_key shape.name) (object_key of.name) at ∙ before.1 in
          let rows : own.0 ≡ before.0 = cc in
          absurd (other (one_name own.0 of.name shape.name (Table of) (Table shape) (subst (λ (row : List Value). IsDefinitionOf of.name row (Some (Table of))) (sym rows) before.2) own.2))
      by_test false apart =
          defined_by db dropped of.name (Table of) (split (rows_table objects_name) (object_key of.name) ∙ erased.at_other mid shape.name (object_key of.name) apart ∙ objects_stay (object_key of.name)) before

  -- what is of another object, and none of `objects`, stays
  stays_there : (table : TableName) → is_table objects_name table ≡ false → same_units shape.name table.object ≡ false → (key : List Value) → dropped table key ≡ db table key
  stays_there table apart other key = split table key ∙ erased_there mid shape.name table apart key ∙ parts_elsewhere shape.name table other changes emptied.of_parts db key

  all_exact : (of : TableTree) (part : ℕ) (places : List ℕ) → IsTableOf dropped of → part_places of part ≡ Some places → IsExact (values_at places) (dropped (rows_table of.name)) (dropped (index_part of part))
  all_exact of part places now of_part =
      let before = was of now in
      let other : same_units shape.name of.name ≡ false = names_apart shape.name of.name (λ same. before.1 (sym same)) in
      let away : same_units objects_name of.name ≡ false = names_apart objects_name of.name (λ same. not_same of.name objects_name (not_objects (own_rows db) firm of.name (Table of) before.0) (sym same)) in
      exact_too (values_at places) (db (rows_table of.name)) (db (index_part of part)) (dropped (rows_table of.name)) (dropped (index_part of part))
      (stays_there (rows_table of.name) (tables_apart objects_name of.name away) other) (stays_there (index_part of part) (objects_apart (rows_table objects_name) (index_part of part) away) other)
      (indexed.exact of part places before.0 of_part)

  all_parts : (table : TableName) (key row : List Value) → dropped table key ≡ Some row → nat_eq table.part 0 ≡ false → (of : TableTree) × IsTableOf dropped of × (table.object ≡ of.name) × IsSome (part_places of table.part)
  all_parts table key row stands part = by_name (same_units shape.name table.object) refl
    where
      apart : is_table objects_name table ≡ false
      apart = part_apart objects_name table part

      by_name : (b : Bool) → same_units shape.name table.object ≡ b → (of : TableTree) × IsTableOf dropped of × (table.object ≡ of.name) × IsSome (part_places of table.part)
      by_name true is =
          absurd (let no : None ≡ Some row = sym (gone table key (sym (name_is shape.name table.object is))) ∙ sym (erased_there mid shape.name table apart key) ∙ sym (split table key) ∙ stands in cc)
      by_name false other =
          let before = indexed.parts table key row (sym (stays_there table apart other key) ∙ stands) part in
          (before.0, stays before.0 before.1 (λ named. not_same shape.name table.object other (sym (before.2 ∙ named))), before.2, before.3)

pub indexed_dropped : IndexedDropped
indexed_dropped db shape changes firm indexed emptied = record { exact = all_exact db shape changes firm indexed emptied; parts = all_parts db shape changes firm indexed emptied }
