-- Changes that pass all checks keep the constraints of all tables.
use Rattle.std.proofs.Common.{◌≡◌, refl, sym, ap, ◌∙◌, subst, ◌⊎◌, inl, inr, ℕ, Bool, true, false, nat_eq, not, ◌&&◌, ◌||◌, List, [], ◌∷◌, ◌++◌, map, filter, filter_map, Option, Some, None, IsSome, IsTrue, is_some, if◌then◌else◌, Ok, Err}
use Rattle.std.proofs.lemmas.Bool.{and_parts, and_from}
use Rattle.std.proofs.lemmas.List.{map-append}
use Rattle.std.specs.List.{AllByRecursion, cons_option, flat_map}
use Rattle.std.specs.Option.{ForSome, option_map, option_or}
use Rattle.value_types.specs.Units.{same_units}
use Rattle.value_types.specs.declared.value.Value.{Value}
use Rattle.tsql_tree.specs.declared.definition.CheckTree.{CheckTree}
use Rattle.tsql_tree.specs.declared.definition.ForeignTree.{ForeignTree}
use Rattle.tsql_tree.specs.declared.definition.KeyTree.{KeyTree}
use Rattle.tsql_tree.specs.declared.definition.TableTree.{TableTree}
use Rattle.tsql_tree.specs.Places.{key_places}
use Rattle.bound_tree.specs.declared.expr.BoundTest.{BoundTest}
use Rattle.bound_tree.specs.declared.truth.Truth.{Truth}
use Rattle.bound_tree.specs.declared.truth.Truth.TheVariants.{False, Unknown, True}
use Rattle.bound_tree.specs.Meaning.{truth}
use Rattle.bound_tree.specs.Outcomes.{Outcome}
use Rattle.value_types.specs.declared.table_name.TableName.{TableName}
use Rattle.step_model.specs.declared.change.Deed.{Deed}
use Rattle.step_model.specs.declared.change.Deed.TheVariants.{Erase, Replace, Insert}
use Rattle.step_model.specs.declared.change.Planned.{Planned}
use Rattle.step_model.specs.declared.change.Change.{Change}
use Rattle.step_model.specs.declared.range.Start.TheVariants.{At}
use Rattle.step_model.specs.declared.range.Stop.TheVariants.{Within}
use Rattle.step_model.specs.Database.{Database, With, is_at}
use Rattle.step_model.proofs.Databases.{With-append}
use Rattle.step_model.specs.Own.{change_of, is_insert, is_own, row_of}
use Rattle.table_rows.specs.Rows.{has_columns, key_of, places_of, row_fits, rows_table, shape_of, values_at}
use Rattle.constraint_check.specs.declared.check_read.CheckRead.{CheckRead}
use Rattle.constraint_check.specs.Local.{broken_among, check_fault, first_given, null_fault, null_in, row_setting}
use Rattle.constraint_check.specs.Meant.{key_meant, parent_meant, parents_meant, parents_meant_of, unique_meant, uniques_meant}
use Rattle.constraint_check.specs.Reads.{all_rows, child_read, child_reads, child_where, is_again, is_erase, is_gone, of_both, of_row, is_key, row_at}
use Rattle.constraint_check.specs.Judged.{agrees}
use Rattle.constraint_check.specs.Integrity.{AreKept, HasParents, IsKept, IsUnique, Stands, comes_false, has_false}
use Rattle.constraint_check.specs.Laws.{Checked, CheckedKept, KeysAreOne, Passes, behind}
use Rattle.constraint_check.proofs.Lists.{Among, among_any, among_split, all_filter, all_flat, all_given, all_left, all_more, all_map, all_right, among_both, among_more, from_among, all_two}
use Rattle.constraint_check.proofs.Behind.{at_is, elsewhere, erased_at, name_is, name_itself, origin, stays, written_stands, one_behind, same, same_back, same_itself, same_on}

-- ---- what the first error says

or_none : {B : Type 0} (a b : Option B) → option_or a b ≡ None → (a ≡ None) × (b ≡ None)
or_none None b h = (refl, h)
or_none (Some y) b h = absurd (let both : true ≡ false = ap is_some h in cc)

given_none : {A B : Type 0} (f : A → Option B) (xs : List A) → first_given f xs ≡ None → AllByRecursion (λ x. f x ≡ None) xs
given_none f [] h = tt
given_none f (x ∷ xs) h = let parts = or_none (f x) (first_given f xs) h in (parts.0, given_none f xs parts.1)

map_none : {A B : Type 0} (f : A → B) (o : Option A) → option_map f o ≡ None → o ≡ None
map_none f None h = refl
map_none f (Some x) h = absurd (let both : true ≡ false = ap is_some h in cc)

not_false : (name : List ℕ) (outcome : Outcome Truth) → check_fault name outcome ≡ None → comes_false outcome ≡ false
not_false name (Ok False) h = absurd (let both : true ≡ false = ap is_some h in cc)
not_false name (Ok Unknown) h = refl
not_false name (Ok True) h = refl
not_false name (Err number) h = absurd (let both : true ≡ false = ap is_some h in cc)

or_false : (a b : Bool) → a ≡ false → b ≡ false → (a || b) ≡ false
or_false true b h g = h
or_false false b h g = g

unbroken : (checks : List CheckTree) (tests : List BoundTest) (row : List Value) → broken_among checks tests row ≡ None → has_false checks tests row ≡ false
unbroken [] tests row h = refl
unbroken (check ∷ checks) [] row h = refl
unbroken (check ∷ checks) (test ∷ tests) row h =
    let parts = or_none (check_fault check.name (truth (row_setting row) test)) (broken_among checks tests row) h in
    or_false (comes_false (truth (row_setting row) test)) (has_false checks tests row) (not_false check.name (truth (row_setting row) test) parts.0) (unbroken checks tests row parts.1)

-- a fact of all rows that changes write, of such a row
of_written : (P : List Value → Type 0) (row : List Value) (changes : List Planned) → AllByRecursion P (filter_map (λ change. row_of change.deed) changes) → Among (λ (change : Planned). row_of change.deed ≡ Some row) changes → P row
of_written P row (change ∷ changes) all (inl is) = (subst (λ (o : Option (List Value)). AllByRecursion P (cons_option o (filter_map (λ change. row_of change.deed) changes))) is all).0
of_written P row (change ∷ changes) all (inr later) = of_written P row changes (rest (row_of change.deed) all) later
  where
    rest : (o : Option (List Value)) → AllByRecursion P (cons_option o (filter_map (λ change. row_of change.deed) changes)) → AllByRecursion P (filter_map (λ change. row_of change.deed) changes)
    rest None all = all
    rest (Some x) all = all.1
of_written P row [] all none = absurd none

-- ---- what passes

-- UNIQUE: two rows with the values of a row that was read for are one
unique_at : (db : Database) (shape : TableTree) (own : List Value) (unique : KeyTree) → Passes db (unique_meant shape own unique) → (key other row and_row : List Value) → Stands db shape key row → Stands db shape other and_row
    → agrees (unique_meant shape own unique) row ≡ true → agrees (unique_meant shape own unique) and_row ≡ true → same key other ≡ true
unique_at db shape own unique passes key other row and_row stands also agree and_agree = passes key other row and_row (refl, stands, agree) (refl, also, and_agree)

-- a parent's rows: none has the values of a key that is gone
parent_left : (db : Database) (gone : List Value) (child : TableTree) (foreign : ForeignTree) → Passes db (parent_meant gone child foreign) → (key row : List Value) → Stands db child key row
    → same (values_at (places_of child foreign.columns) row) gone ≡ true → ⊥
parent_left db gone child foreign passes key row stands agree = passes key row (refl, stands, agree)

row_at_table : (name : List ℕ) (values : List Value) → (row_at name values).table ≡ rows_table name
row_at_table name values = by_test (is_key values)
  where
    by_test : (b : Bool) → (if b then (record { table = rows_table name; start = At values; stop = Within values }) else all_rows name).table ≡ rows_table name
    by_test true = refl
    by_test false = refl

-- ---- shapes by their names

shape_named : (name : List ℕ) (shapes : List TableTree) (shape : TableTree) → shape_of (rows_table name) shapes ≡ Some shape → same_units name shape.name ≡ true
shape_named name [] shape is = absurd (let both : false ≡ true = ap is_some is in cc)
shape_named name (first ∷ rest) shape is = by_test (same_units name first.name) refl is (shape_named name rest shape)
  where
    by_test : (b : Bool) → same_units name first.name ≡ b → (if b then Some first else shape_of (rows_table name) rest) ≡ Some shape → (shape_of (rows_table name) rest ≡ Some shape → same_units name shape.name ≡ true) → same_units name shape.name ≡ true
    by_test true named is further = subst (λ (o : Option TableTree). same_units name (name_in o) ≡ true) is named
      where
        name_in : Option TableTree → List ℕ
        name_in None = []
        name_in (Some of) = of.name
    by_test false other is further = further is

of_shape : (P : TableTree → Type 0) (name : List ℕ) (shapes : List TableTree) (shape : TableTree) → shape_of (rows_table name) shapes ≡ Some shape → AllByRecursion P shapes → P shape
of_shape P name [] shape is all = absurd (let both : false ≡ true = ap is_some is in cc)
of_shape P name (first ∷ rest) shape is all = by_test (same_units name first.name) is (λ is. of_shape P name rest shape is all.1)
  where
    by_test : (b : Bool) → (if b then Some first else shape_of (rows_table name) rest) ≡ Some shape → (shape_of (rows_table name) rest ≡ Some shape → P shape) → P shape
    by_test true is further = subst (λ (o : Option TableTree). P_in o) is all.0
      where
        P_in : Option TableTree → Type 0
        P_in None = Unit {0}
        P_in (Some of) = P of
    by_test false is further = further is

-- ---- changes, and what is read for them

of_row_is : (reads : TableTree → List Value → List CheckRead) (shapes : List TableTree) (shape : TableTree) (change : Planned) (row : List Value) → change.table ≡ rows_table shape.name
    → shape_of (rows_table shape.name) shapes ≡ Some shape → row_of change.deed ≡ Some row → of_row reads shapes change ≡ reads shape row
of_row_is reads shapes shape change row table known is =
    ap (λ (t : TableName). of_both reads (shape_of t shapes) (row_of change.deed)) table
    ∙ ap (λ (o : Option TableTree). of_both reads o (row_of change.deed)) known
    ∙ ap (λ (o : Option (List Value)). of_both reads (Some shape) o) is

erase_none : (deed : Deed) → is_erase deed ≡ true → row_of deed ≡ None
erase_none Erase h = refl
erase_none (Replace row) h = absurd (let both : false ≡ true = h in cc)
erase_none (Insert row) h = absurd (let both : false ≡ true = h in cc)

erase_no_insert : (deed : Deed) → is_erase deed ≡ true → is_insert deed ≡ false
erase_no_insert Erase h = refl
erase_no_insert (Replace row) h = refl
erase_no_insert (Insert row) h = absurd (let both : false ≡ true = h in cc)

-- a row that a change writes is one of those behind the erasures
behind_erasures : (P : Planned → Type 0) (row : List Value) (erased written : List Planned) → AllByRecursion (λ change. is_erase change.deed ≡ true) erased
    → Among (λ change. P change × (row_of change.deed ≡ Some row)) (erased ++ written) → Among (λ change. P change × (row_of change.deed ≡ Some row)) written
behind_erasures P row [] written erases among = among
behind_erasures P row (change ∷ erased) written erases (inl here) = absurd (let both : None ≡ Some row = sym (erase_none change.deed erases.0) ∙ here.1 in let apart : false ≡ true = ap is_some both in cc)
behind_erasures P row (change ∷ erased) written erases (inr later) = behind_erasures P row erased written erases.1 later

module _ (db : Database) (tests : TableTree → List BoundTest) (shapes : List TableTree) (shape : TableTree) (erased written : List Planned) (kept : AreKept db tests shapes) (checked : Checked db tests shapes shape erased written) where
  abbrev changes : List Planned
  changes = erased ++ written

  abbrev after : Database
  after = behind db changes

  one : KeysAreOne after
  one = one_behind changes db checked.one_key

  -- the row of a change that writes
  abbrev Wrote : List Value → Type 0
  Wrote row = Among (λ (change : Planned). row_of change.deed ≡ Some row) written

  abbrev WroteAt : List Value → List Value → Type 0
  WroteAt key row = Among (λ (change : Planned). (same change.key key ≡ true) × (row_of change.deed ≡ Some row)) written

  wrote : (key row : List Value) → WroteAt key row → Wrote row
  wrote key row among = among_more (λ (change : Planned). (same change.key key ≡ true) × (row_of change.deed ≡ Some row)) (λ change. row_of change.deed ≡ Some row) (λ change h. h.1) written among

  -- a row of the table stood before, or is written
  comes : (key row : List Value) → Stands after shape key row → Stands db shape key row ⊎ WroteAt key row
  comes key row stands = elim (origin shape.name changes checked.of_table db key row stands) [
    | inl before ↦ inl before
    | inr later ↦ inr (behind_erasures (λ change. same change.key key ≡ true) row erased written checked.erases later)
  ]

  -- of another table it stood before
  other_row : (of : TableTree) → same_units shape.name of.name ≡ false → (key row : List Value) → Stands after of key row → Stands db of key row
  other_row of apart key row stands = sym (elsewhere shape.name of.name apart changes checked.of_table db key) ∙ stands

  own_kept : IsKept db shape (tests shape)
  own_kept = of_shape (λ of. IsKept db of (tests of)) shape.name shapes shape checked.known kept

  -- the table of its name
  same_shape : (of : TableTree) → shape_of (rows_table of.name) shapes ≡ Some of → same_units shape.name of.name ≡ true → shape ≡ of
  same_shape of named is =
      let name : shape.name ≡ of.name = name_is shape.name of.name is in
      ap shape_in (sym checked.known ∙ ap (λ (n : List ℕ). shape_of (rows_table n) shapes) name ∙ named)
    where
      shape_in : Option TableTree → TableTree
      shape_in None = shape
      shape_in (Some of) = of

  -- ---- rows alone

  written_fits : (key row : List Value) → WroteAt key row → IsTrue (row_fits shape 0 key row)
  written_fits key row among =
      from_among (λ (change : Planned). ForSome (row_of change.deed) (λ row. IsTrue (row_fits shape 0 change.key row)) × ((same change.key key ≡ true) × (row_of change.deed ≡ Some row))) (IsTrue (row_fits shape 0 key row)) step written
      (among_both (λ (change : Planned). ForSome (row_of change.deed) (λ row. IsTrue (row_fits shape 0 change.key row))) (λ change. (same change.key key ≡ true) × (row_of change.deed ≡ Some row)) written checked.fit among)
    where
      step : (change : Planned) → ForSome (row_of change.deed) (λ row. IsTrue (row_fits shape 0 change.key row)) × ((same change.key key ≡ true) × (row_of change.deed ≡ Some row)) → IsTrue (row_fits shape 0 key row)
      step change h =
          let fits = and_parts (has_columns shape.columns row) (same (key_of shape row) change.key) (h.0 row h.1.1) in
          and_from (has_columns shape.columns row) (same (key_of shape row) key) fits.0 (same_on (key_of shape row) change.key key fits.1 h.1.0)

  own_fits : (key row : List Value) → Stands after shape key row → IsTrue (row_fits shape 0 key row)
  own_fits key row stands = elim (comes key row stands) [
    | inl before ↦ own_kept.fits key row before
    | inr later ↦ written_fits key row later
  ]

  alone_parts : (first_given (null_fault shape) (filter_map (λ (change : Planned). row_of change.deed) written) ≡ None) × (first_given (broken_among shape.checks (tests shape)) (filter_map (λ (change : Planned). row_of change.deed) written) ≡ None)
  alone_parts = or_none _ _ checked.alone

  written_no_null : (row : List Value) → Wrote row → null_in shape row ≡ None
  written_no_null row among = map_none _ (null_in shape row) (of_written (λ row. null_fault shape row ≡ None) row written (given_none (null_fault shape) _ alone_parts.0) among)

  written_no_false : (row : List Value) → Wrote row → has_false shape.checks (tests shape) row ≡ false
  written_no_false row among = unbroken shape.checks (tests shape) row (of_written (λ row. broken_among shape.checks (tests shape) row ≡ None) row written (given_none (broken_among shape.checks (tests shape)) _ alone_parts.1) among)

  own_no_null : (key row : List Value) → Stands after shape key row → null_in shape row ≡ None
  own_no_null key row stands = elim (comes key row stands) [
    | inl before ↦ own_kept.no_null key row before
    | inr later ↦ written_no_null row (wrote key row later)
  ]

  own_no_false : (key row : List Value) → Stands after shape key row → has_false shape.checks (tests shape) row ≡ false
  own_no_false key row stands = elim (comes key row stands) [
    | inl before ↦ own_kept.no_false key row before
    | inr later ↦ written_no_false row (wrote key row later)
  ]

  -- ---- what was read

  of_written_table : AllByRecursion (λ (change : Planned). change.table ≡ rows_table shape.name) written
  of_written_table = all_right (λ (change : Planned). change.table ≡ rows_table shape.name) erased written checked.of_table

  uniques_pass : AllByRecursion (λ (change : Planned). AllByRecursion (Passes after) (of_row uniques_meant shapes change)) written
  uniques_pass =
      all_right _ erased written
      (all_flat (Passes after) (of_row uniques_meant shapes) changes (all_left (Passes after) (flat_map (of_row uniques_meant shapes) changes) _ checked.passes))

  children_pass : AllByRecursion (λ (change : Planned). AllByRecursion (Passes after) (of_row (child_reads shapes) shapes change)) written
  children_pass =
      all_right _ erased written
      (all_flat (Passes after) (of_row (child_reads shapes) shapes) changes (all_left (Passes after) (flat_map (of_row (child_reads shapes) shapes) changes) _ (all_right (Passes after) (flat_map (of_row uniques_meant shapes) changes) _ checked.passes)))

  parents_pass : AllByRecursion (λ (change : Planned). AllByRecursion (Passes after) (key_meant shapes changes change)) erased
  parents_pass =
      all_left _ erased written
      (all_flat (Passes after) (key_meant shapes changes) changes (all_right (Passes after) (flat_map (of_row (child_reads shapes) shapes) changes) _ (all_right (Passes after) (flat_map (of_row uniques_meant shapes) changes) _ checked.passes)))

  -- of a row that is written
  row_passes : (reads : TableTree → List Value → List CheckRead) → AllByRecursion (λ (change : Planned). AllByRecursion (Passes after) (of_row reads shapes change)) written → (row : List Value) → Wrote row → AllByRecursion (Passes after) (reads shape row)
  row_passes reads all row among =
      from_among (λ (change : Planned). AllByRecursion (Passes after) (of_row reads shapes change) × ((change.table ≡ rows_table shape.name) × (row_of change.deed ≡ Some row))) (AllByRecursion (Passes after) (reads shape row))
      (λ change h. subst (λ (list : List CheckRead). AllByRecursion (Passes after) list) (of_row_is reads shapes shape change row h.1.0 checked.known h.1.1) h.0) written
      (among_both (λ (change : Planned). AllByRecursion (Passes after) (of_row reads shapes change)) (λ change. (change.table ≡ rows_table shape.name) × (row_of change.deed ≡ Some row)) written all
      (among_both (λ (change : Planned). change.table ≡ rows_table shape.name) (λ change. row_of change.deed ≡ Some row) written of_written_table among))

  abbrev Written : Type 0
  Written = (row : List Value) × Wrote row

  -- ---- UNIQUE

  own_unique : AllByRecursion (IsUnique after shape) shape.uniques
  own_unique =
      all_two (IsUnique db shape) (λ unique. (own : Written) → Passes after (unique_meant shape own.0 unique)) (IsUnique after shape) step shape.uniques own_kept.unique
      (all_given (λ (own : Written) unique. Passes after (unique_meant shape own.0 unique)) shape.uniques (λ own. all_map (Passes after) (unique_meant shape own.0) shape.uniques (row_passes uniques_meant uniques_pass own.0 own.1)))
    where
      step : (unique : KeyTree) → IsUnique db shape unique → ((own : Written) → Passes after (unique_meant shape own.0 unique)) → IsUnique after shape unique
      step unique before passes key other row and_row stands also agree =
          let values : List Value → List Value = λ row. values_at (places_of shape unique.columns) row in
          elim (comes key row stands) [
            | inr first ↦ unique_at after shape row unique (passes (row, wrote key row first)) key other row and_row stands also (same_itself (values row)) (same_back (values row) (values and_row) agree)
            | inl stood ↦ elim (comes other and_row also) [
              | inr second ↦ unique_at after shape and_row unique (passes (and_row, wrote other and_row second)) key other row and_row stands also agree (same_itself (values and_row))
              | inl too ↦ before key other row and_row stood too agree
            ]
          ]

  -- ---- FOREIGN KEY

  -- the rows of every table fit
  all_fit : AllByRecursion (λ (of : TableTree). (key row : List Value) → Stands after of key row → IsTrue (row_fits of 0 key row)) shapes
  all_fit = all_two (λ of. IsKept db of (tests of)) (λ of. shape_of (rows_table of.name) shapes ≡ Some of) (λ of. (key row : List Value) → Stands after of key row → IsTrue (row_fits of 0 key row)) step shapes kept checked.one_name
    where
      step : (of : TableTree) → IsKept db of (tests of) → shape_of (rows_table of.name) shapes ≡ Some of → (key row : List Value) → Stands after of key row → IsTrue (row_fits of 0 key row)
      step of was named = by_test (same_units shape.name of.name) refl
        where
          by_test : (b : Bool) → same_units shape.name of.name ≡ b → (key row : List Value) → Stands after of key row → IsTrue (row_fits of 0 key row)
          by_test true is = subst (λ (of : TableTree). (key row : List Value) → Stands after of key row → IsTrue (row_fits of 0 key row)) (same_shape of named is) own_fits
          by_test false apart = λ key row stands. was.fits key row (other_row of apart key row stands)

  -- a row that was read for a row that is written is its parent
  child_has : (foreign : ForeignTree) (values : List Value) → IsSome (shape_of (rows_table foreign.parent) shapes) → Passes after (child_read shapes foreign values) → IsSome (after (rows_table foreign.parent) values)
  child_has foreign values known passes = by_shape (shape_of (rows_table foreign.parent) shapes) refl known
    where
      by_shape : (o : Option TableTree) → shape_of (rows_table foreign.parent) shapes ≡ o → IsSome o → IsSome (after (rows_table foreign.parent) values)
      by_shape None is some = absurd (let both : false ≡ true = some in cc)
      by_shape (Some parent) is some =
          step (passes.0, passes.1) (subst (λ (t : TableName). after t passes.0 ≡ Some passes.1) (row_at_table foreign.parent values) passes.2.1, passes.2.2)
        where
          step : (at : List Value × List Value) → (after (rows_table foreign.parent) at.0 ≡ Some at.1) × (agrees (child_read shapes foreign values) at.1 ≡ true) → IsSome (after (rows_table foreign.parent) values)
          step at h =
              let name : foreign.parent ≡ parent.name = name_is foreign.parent parent.name (shape_named foreign.parent shapes parent is) in
              let fits = of_shape (λ of. (key row : List Value) → Stands after of key row → IsTrue (row_fits of 0 key row)) foreign.parent shapes parent is all_fit at.0 at.1 (subst (λ (n : List ℕ). after (rows_table n) at.0 ≡ Some at.1) name h.0) in
              let own : same (key_of parent at.1) at.0 ≡ true = (and_parts (has_columns parent.columns at.1) (same (key_of parent at.1) at.0) fits).1 in
              let wanted : same (key_of parent at.1) values ≡ true = subst (λ (o : Option TableTree). same (values_at (key_places o) at.1) values ≡ true) is h.1 in
              let at_values : same at.0 values ≡ true = same_on at.0 (key_of parent at.1) values (same_back (key_of parent at.1) at.0 own) wanted in
              subst (λ (o : Option (List Value)). IsSome o) (one (rows_table foreign.parent) at.0 values at_values) (subst (λ (o : Option (List Value)). IsSome o) (sym h.0) refl)

  -- ---- FOREIGN KEYs to a row that is gone

  -- a key that is erased and not inserted again
  abbrev Gone : Type 0
  Gone = (key : List Value) × AllByRecursion (Passes after) (parents_meant shapes (rows_table shape.name) key)

  split : (table : TableName) (key : List Value) → after table key ≡ behind (behind db erased) written table key
  split table key = ap (λ (list : List Change). With db list table key) (map-append change_of erased written) ∙ (λ i. With-append db (map change_of erased) (map change_of written) i table key)

  -- where a row stood and none does, its key is gone
  is_gone_key : (key : List Value) → IsSome (db (rows_table shape.name) key) → after (rows_table shape.name) key ≡ None → (gone : Gone) × (same gone.0 key ≡ true)
  is_gone_key key some none =
      from_among (λ (change : Planned). ((change.table ≡ rows_table shape.name) × (is_erase change.deed ≡ true)) × (AllByRecursion (Passes after) (key_meant shapes changes change) × (same change.key key ≡ true))) ((gone : Gone) × (same gone.0 key ≡ true)) step erased
      (among_both (λ (change : Planned). (change.table ≡ rows_table shape.name) × (is_erase change.deed ≡ true)) (λ change. AllByRecursion (Passes after) (key_meant shapes changes change) × (same change.key key ≡ true)) erased
      (all_two (λ (change : Planned). change.table ≡ rows_table shape.name) (λ change. is_erase change.deed ≡ true) (λ change. (change.table ≡ rows_table shape.name) × (is_erase change.deed ≡ true)) (λ change a b. (a, b)) erased of_erased checked.erases)
      (among_both (λ (change : Planned). AllByRecursion (Passes after) (key_meant shapes changes change)) (λ change. same change.key key ≡ true) erased parents_pass (erased_at shape.name erased of_erased db key some behind_erased)))
    where
      of_erased : AllByRecursion (λ (change : Planned). change.table ≡ rows_table shape.name) erased
      of_erased = all_left (λ (change : Planned). change.table ≡ rows_table shape.name) erased written checked.of_table

      no_row : {A : Type 0} → IsSome (after (rows_table shape.name) key) → A
      no_row stands = absurd (let both : false ≡ true = sym (ap is_some none) ∙ stands in cc)

      behind_erased : behind db erased (rows_table shape.name) key ≡ None
      behind_erased = by_option (behind db erased (rows_table shape.name) key) refl
        where
          by_option : (o : Option (List Value)) → behind db erased (rows_table shape.name) key ≡ o → o ≡ None
          by_option None is = refl
          by_option (Some row) is = no_row (subst (λ (o : Option (List Value)). IsSome o) (sym (split (rows_table shape.name) key)) (stays shape.name written of_written_table checked.writes (behind db erased) key (subst (λ (o : Option (List Value)). IsSome o) (sym is) refl)))

      -- nothing is written there
      unwritten : Among (λ (change : Planned). same change.key key ≡ true) written → ⊥
      unwritten among = no_row (subst (λ (o : Option (List Value)). IsSome o) (sym (split (rows_table shape.name) key)) (written_stands shape.name written of_written_table checked.writes (behind db erased) key among))

      not_again : (change : Planned) → change.table ≡ rows_table shape.name → same change.key key ≡ true → is_again changes change ≡ false
      not_again change table at = by_test (is_again changes change) refl
        where
          erased_none : (erased : List Planned) → AllByRecursion (λ (change : Planned). is_erase change.deed ≡ true) erased → Among (λ (other : Planned). (is_insert other.deed && is_at (change_of other) change.table change.key) ≡ true) erased → ⊥
          erased_none [] erases none = none
          erased_none (other ∷ rest) erases (inl here) = let both : false ≡ true = sym (erase_no_insert other.deed erases.0) ∙ (and_parts (is_insert other.deed) (is_at (change_of other) change.table change.key) here).0 in absurd (cc)
          erased_none (other ∷ rest) erases (inr later) = erased_none rest erases.1 later

          at_key : (other : Planned) → (other.table ≡ rows_table shape.name) × ((is_insert other.deed && is_at (change_of other) change.table change.key) ≡ true) → same other.key key ≡ true
          at_key other h =
              let there : is_at (change_of other) change.table change.key ≡ true = (and_parts (is_insert other.deed) (is_at (change_of other) change.table change.key) h.1).1 in
              let own : same other.key change.key ≡ true = sym (at_is shape.name other change.key h.0) ∙ subst (λ (t : TableName). is_at (change_of other) t change.key ≡ true) table there in
              same_on other.key change.key key own at

          by_test : (b : Bool) → is_again changes change ≡ b → b ≡ false
          by_test false is = refl
          by_test true is = elim (among_split (λ (other : Planned). (is_insert other.deed && is_at (change_of other) change.table change.key) ≡ true) erased written (among_any (λ (other : Planned). is_insert other.deed && is_at (change_of other) change.table change.key) changes is)) [
            | inl early ↦ absurd (erased_none erased checked.erases early)
            | inr later ↦ absurd (unwritten (among_more (λ (other : Planned). (other.table ≡ rows_table shape.name) × ((is_insert other.deed && is_at (change_of other) change.table change.key) ≡ true)) (λ other. same other.key key ≡ true) at_key written (among_both (λ (other : Planned). other.table ≡ rows_table shape.name) (λ other. (is_insert other.deed && is_at (change_of other) change.table change.key) ≡ true) written of_written_table later)))
          ]

      step : (change : Planned) → ((change.table ≡ rows_table shape.name) × (is_erase change.deed ≡ true)) × (AllByRecursion (Passes after) (key_meant shapes changes change) × (same change.key key ≡ true)) → (gone : Gone) × (same gone.0 key ≡ true)
      step change h =
          let own : is_own change ≡ true = ap (λ (t : TableName). nat_eq t.part 0) h.0.0 in
          let left : (is_erase change.deed && not (is_again changes change)) ≡ true = and_from (is_erase change.deed) (not (is_again changes change)) h.0.1 (ap not (not_again change h.0.0 h.1.1)) in
          let gone : is_gone changes change ≡ true = and_from (is_own change) (is_erase change.deed && not (is_again changes change)) own left in
          let reads : AllByRecursion (Passes after) (parents_meant shapes change.table change.key) = subst (λ (b : Bool). AllByRecursion (Passes after) (if b then parents_meant shapes change.table change.key else [])) gone h.1.0 in
          ((change.key, subst (λ (t : TableName). AllByRecursion (Passes after) (parents_meant shapes t change.key)) h.0.0 reads), h.1.1)

  -- what is read for each key that is gone, of each table and each of its FOREIGN KEYs
  abbrev LeftBy : TableTree → ForeignTree → Type 0
  LeftBy child foreign = (gone : Gone) → same_units foreign.parent shape.name ≡ true → Passes after (parent_meant gone.0 child foreign)

  left_by : AllByRecursion (λ (child : TableTree). AllByRecursion (LeftBy child) child.foreigns) shapes
  left_by =
      all_more (λ (child : TableTree). (gone : Gone) → AllByRecursion (λ foreign. same_units foreign.parent shape.name ≡ true → Passes after (parent_meant gone.0 child foreign)) child.foreigns) (λ child. AllByRecursion (LeftBy child) child.foreigns)
      (λ child reads. all_given (λ (gone : Gone) foreign. same_units foreign.parent shape.name ≡ true → Passes after (parent_meant gone.0 child foreign)) child.foreigns reads) shapes
      (all_given (λ (gone : Gone) (child : TableTree). AllByRecursion (λ foreign. same_units foreign.parent shape.name ≡ true → Passes after (parent_meant gone.0 child foreign)) child.foreigns) shapes (λ gone.
      all_more (λ (child : TableTree). AllByRecursion (Passes after) (parents_meant_of (rows_table shape.name) gone.0 child)) (λ child. AllByRecursion (λ foreign. same_units foreign.parent shape.name ≡ true → Passes after (parent_meant gone.0 child foreign)) child.foreigns)
      (λ child reads. all_filter (λ foreign. Passes after (parent_meant gone.0 child foreign)) (λ foreign. same_units foreign.parent shape.name) child.foreigns (all_map (Passes after) (parent_meant gone.0 child) (filter (λ foreign. same_units foreign.parent shape.name) child.foreigns) reads)) shapes
      (all_flat (Passes after) (parents_meant_of (rows_table shape.name) gone.0) shapes gone.1)))

  -- a parent that stood still stands, if a row refers to it
  parent_stays : (child : TableTree) (foreign : ForeignTree) → LeftBy child foreign → (key row : List Value) → Stands after child key row
      → IsSome (db (rows_table foreign.parent) (values_at (places_of child foreign.columns) row)) → IsSome (after (rows_table foreign.parent) (values_at (places_of child foreign.columns) row))
  parent_stays child foreign left key row stands stood = by_test (same_units shape.name foreign.parent) refl
    where
      by_option : foreign.parent ≡ shape.name → (o : Option (List Value)) → after (rows_table shape.name) (values_at (places_of child foreign.columns) row) ≡ o → IsSome o
      by_option name (Some parent) is = refl
      by_option name None is =
          let gone = is_gone_key (values_at (places_of child foreign.columns) row) (subst (λ (n : List ℕ). IsSome (db (rows_table n) (values_at (places_of child foreign.columns) row))) name stood) is in
          let named : same_units foreign.parent shape.name ≡ true = subst (λ (n : List ℕ). same_units n shape.name ≡ true) (sym name) (name_itself shape.name) in
          absurd (parent_left after gone.0.0 child foreign (left gone.0 named) key row stands (same_back gone.0.0 (values_at (places_of child foreign.columns) row) gone.1))

      by_test : (b : Bool) → same_units shape.name foreign.parent ≡ b → IsSome (after (rows_table foreign.parent) (values_at (places_of child foreign.columns) row))
      by_test false apart = subst (λ (o : Option (List Value)). IsSome o) (sym (elsewhere shape.name foreign.parent apart changes checked.of_table db (values_at (places_of child foreign.columns) row))) stood
      by_test true is =
          let name : foreign.parent ≡ shape.name = sym (name_is shape.name foreign.parent is) in
          subst (λ (n : List ℕ). IsSome (after (rows_table n) (values_at (places_of child foreign.columns) row))) (sym name) (by_option name (after (rows_table shape.name) (values_at (places_of child foreign.columns) row)) refl)

  -- ---- all tables

  own_parents : AllByRecursion (LeftBy shape) shape.foreigns → AllByRecursion (HasParents after shape) shape.foreigns
  own_parents left =
      all_two (λ foreign. LeftBy shape foreign × HasParents db shape foreign) (λ foreign. IsSome (shape_of (rows_table foreign.parent) shapes) × ((own : Written) → AllByRecursion (Passes after) (child_where shapes foreign (values_at (places_of shape foreign.columns) own.0)))) (HasParents after shape) step shape.foreigns
      (all_two (LeftBy shape) (HasParents db shape) (λ foreign. LeftBy shape foreign × HasParents db shape foreign) (λ foreign a b. (a, b)) shape.foreigns left own_kept.parents)
      (all_two (λ (foreign : ForeignTree). IsSome (shape_of (rows_table foreign.parent) shapes)) (λ foreign. (own : Written) → AllByRecursion (Passes after) (child_where shapes foreign (values_at (places_of shape foreign.columns) own.0)))
      (λ foreign. IsSome (shape_of (rows_table foreign.parent) shapes) × ((own : Written) → AllByRecursion (Passes after) (child_where shapes foreign (values_at (places_of shape foreign.columns) own.0)))) (λ foreign a b. (a, b)) shape.foreigns checked.parents_known
      (all_given (λ (own : Written) (foreign : ForeignTree). AllByRecursion (Passes after) (child_where shapes foreign (values_at (places_of shape foreign.columns) own.0))) shape.foreigns
      (λ own. all_flat (Passes after) (λ foreign. child_where shapes foreign (values_at (places_of shape foreign.columns) own.0)) shape.foreigns (row_passes (child_reads shapes) children_pass own.0 own.1))))
    where
      step : (foreign : ForeignTree) → LeftBy shape foreign × HasParents db shape foreign → IsSome (shape_of (rows_table foreign.parent) shapes) × ((own : Written) → AllByRecursion (Passes after) (child_where shapes foreign (values_at (places_of shape foreign.columns) own.0))) → HasParents after shape foreign
      step foreign a b key row stands known = elim (comes key row stands) [
        | inl before ↦ parent_stays shape foreign a.0 key row stands (a.1 key row before known)
        | inr later ↦ child_has foreign (values_at (places_of shape foreign.columns) row) b.0
            (subst (λ (b : Bool). AllByRecursion (Passes after) (if b then [] else child_read shapes foreign (values_at (places_of shape foreign.columns) row) ∷ [])) known (b.1 (row, wrote key row later))).0
      ]

  own_after : AllByRecursion (LeftBy shape) shape.foreigns → IsKept after shape (tests shape)
  own_after left = record { fits = own_fits; no_null = own_no_null; no_false = own_no_false; unique = own_unique; parents = own_parents left }

  other_after : (of : TableTree) → same_units shape.name of.name ≡ false → IsKept db of (tests of) → AllByRecursion (LeftBy of) of.foreigns → IsKept after of (tests of)
  other_after of apart was left = record {
    fits = λ key row stands. was.fits key row (other_row of apart key row stands);
    no_null = λ key row stands. was.no_null key row (other_row of apart key row stands);
    no_false = λ key row stands. was.no_false key row (other_row of apart key row stands);
    unique = all_more (IsUnique db of) (IsUnique after of) (λ unique before key other row and_row stands also agree. before key other row and_row (other_row of apart key row stands) (other_row of apart other and_row also) agree) of.uniques was.unique;
    parents = all_two (LeftBy of) (HasParents db of) (HasParents after of) (λ foreign left before key row stands known. parent_stays of foreign left key row stands (before key row (other_row of apart key row stands) known)) of.foreigns left was.parents;
  }

  all_after : AreKept after tests shapes
  all_after =
      all_two (λ of. IsKept db of (tests of) × (shape_of (rows_table of.name) shapes ≡ Some of)) (λ of. AllByRecursion (LeftBy of) of.foreigns) (λ of. IsKept after of (tests of)) step shapes
      (all_two (λ of. IsKept db of (tests of)) (λ of. shape_of (rows_table of.name) shapes ≡ Some of) (λ of. IsKept db of (tests of) × (shape_of (rows_table of.name) shapes ≡ Some of)) (λ of a b. (a, b)) shapes kept checked.one_name) left_by
    where
      step : (of : TableTree) → IsKept db of (tests of) × (shape_of (rows_table of.name) shapes ≡ Some of) → AllByRecursion (LeftBy of) of.foreigns → IsKept after of (tests of)
      step of was left = by_test (same_units shape.name of.name) refl
        where
          by_test : (b : Bool) → same_units shape.name of.name ≡ b → IsKept after of (tests of)
          by_test true is = subst (λ (of : TableTree). AllByRecursion (LeftBy of) of.foreigns → IsKept after of (tests of)) (same_shape of was.1 is) own_after left
          by_test false apart = other_after of apart was.0 left

pub checked_kept : CheckedKept
checked_kept db tests shapes shape erased written kept checked = all_after db tests shapes shape erased written kept checked
