-- What passes of exact index parts passes of all rows.
use Rattle.std.proofs.Common.{◌≡◌, refl, sym, ap, ◌∙◌, ℕ, zero, suc, ◌+◌, Bool, true, false, if◌then◌else◌, IsTrue, List, [], ◌∷◌, ◌++◌, length, map, filter, slice_get, Option, Some, None, append-nil, append_assoc, arith}
use Rattle.std.specs.List.{AllByRecursion, flat_map}
use Rattle.std.proofs.lemmas.Bool.{and_parts}
use Rattle.std.proofs.lemmas.List.{length-append, length-map}
use Rattle.std.specs.Option.{option_map}
use Rattle.value_types.specs.Units.{same_units}
use Rattle.value_types.specs.declared.table_name.TableName.{TableName}
use Rattle.value_types.specs.declared.value.Value.{Value}
use Rattle.tsql_tree.specs.declared.definition.ForeignTree.{ForeignTree}
use Rattle.tsql_tree.specs.declared.definition.KeyTree.{KeyTree}
use Rattle.tsql_tree.specs.declared.definition.TableTree.{TableTree}
use Rattle.tsql_tree.specs.Places.{key_places}
use Rattle.bound_tree.specs.Setting.{value_at}
use Rattle.step_model.specs.declared.change.Planned.{Planned}
use Rattle.step_model.specs.declared.range.KeyRange.{KeyRange}
use Rattle.step_model.specs.declared.range.Start.TheVariants.{First, At}
use Rattle.step_model.specs.declared.range.Stop.TheVariants.{Last, Within}
use Rattle.step_model.specs.Database.{Database, is_within}
use Rattle.step_model.specs.Own.{row_of}
use Rattle.index_laws.specs.Parts.{IsExact, same}
use Rattle.index_laws.specs.Whole.{IndexPart}
use Rattle.index_laws.proofs.Found.{same_back, same_on}
use Rattle.index_laws.proofs.Whole.{index_within, tells}
use Rattle.table_rows.specs.Rows.{has_columns, index_columns, index_part, index_places, key_of, part_places, places_of, rows_table, same_key, shape_of, values_at}
use Rattle.constraint_check.specs.declared.check_read.CheckRead.{CheckRead}
use Rattle.constraint_check.specs.Laws.{Agrees, Passes}
use Rattle.constraint_check.specs.Meant.{key_meant, parent_meant, parents_meant, parents_meant_of, unique_meant, uniques_meant}
use Rattle.constraint_check.specs.Reads.{child_reads, first_foreign, first_places, index_rows, is_gone, is_key, of_both, of_key, of_row, parent_read, parent_reads, parent_reads_from, parent_reads_of, unique_read, unique_reads, unique_reads_from}
use Rattle.constraint_check.proofs.Lists.{all_left, all_right}
use Rattle.write_laws.specs.Checking.{ArePartsFrom, HasParts, PartsPass}
use Rattle.write_laws.specs.Indexed.{Indexed}
use Rattle.write_laws.specs.Reads.{RowsFit}
use Rattle.write_laws.specs.Sound.{IsTableOf}
use Rattle.write_laws.proofs.Changes.{all_both}
use Rattle.write_laws.proofs.Indexing.{got_at}
use Rattle.write_laws.proofs.Written.{of_found}

-- ---- lists

-- what is so of what one function gives is so of what another does
all_over : {A B : Type 0} (P : B → Type 0) (f g : A → List B) → ((x : A) → AllByRecursion P (f x) → AllByRecursion P (g x)) → (xs : List A) → AllByRecursion P (flat_map f xs) → AllByRecursion P (flat_map g xs)
all_over P f g one [] all = tt
all_over P f g one (x ∷ xs) all = all_both P (g x) (flat_map g xs) (one x (all_left P (f x) (flat_map f xs) all)) (all_over P f g one xs (all_right P (f x) (flat_map f xs) all))

-- ---- places

-- so many places, from this one on
abbrev places_from : ℕ → ℕ → List ℕ
places_from place zero = []
places_from place (suc count) = place ∷ places_from (suc place) count

from_last : (place count : ℕ) → places_from place (suc count) ≡ places_from place count ++ (place + count) ∷ []
from_last place zero = let same : place ≡ place + 0 = omega arith in ap (λ (n : ℕ). n ∷ []) same
from_last place (suc count) =
    let next : suc place + count ≡ place + suc count = omega arith in
    ap (λ (list : List ℕ). place ∷ list) (from_last (suc place) count ∙ ap (λ (n : ℕ). places_from (suc place) count ++ n ∷ []) next)

first_from : (count : ℕ) → first_places count ≡ places_from 0 count
first_from zero = refl
first_from (suc count) =
    let same : count ≡ 0 + count = omega arith in
    ap (λ (list : List ℕ). list ++ count ∷ []) (first_from count) ∙ ap (λ (n : ℕ). places_from 0 count ++ n ∷ []) same ∙ sym (from_last 0 count)

one_on : (value : Value) (row : List Value) (place count : ℕ) → values_at (places_from (suc place) count) (value ∷ row) ≡ values_at (places_from place count) row
one_on value row place zero = refl
one_on value row place (suc count) = ap (λ (l : List Value). value_at row place ∷ l) (one_on value row (suc place) count)

values_first : (places key : List ℕ) (row : List Value) → values_at (places_from 0 (length places)) (values_at (places ++ key) row) ≡ values_at places row
values_first [] key row = refl
values_first (place ∷ places) key row = ap (λ (l : List Value). value_at row place ∷ l) (one_on (value_at row place) (values_at (places ++ key) row) 0 (length places) ∙ values_first places key row)

-- the first values of an index row are those of its columns
columns_first : (places key : List ℕ) (row : List Value) → values_at (first_places (length places)) (values_at (places ++ key) row) ≡ values_at places row
columns_first places key row = ap (λ (at : List ℕ). values_at at (values_at (places ++ key) row)) (first_from (length places)) ∙ values_first places key row

-- ---- one table

module _ (db : Database) (shape : TableTree) (fit : RowsFit db shape) where
  -- a row stands at its own key
  own : (at row : List Value) → db (rows_table shape.name) at ≡ Some row → same (key_of shape row) at ≡ true
  own at row stands = (and_parts (has_columns shape.columns row) (same_key (key_of shape row) at) (fit at row stands)).1

  abbrev Range : Bool → ℕ → List Value → KeyRange
  Range b part values = if b then (record { table = index_part shape part; start = At values; stop = Within values }) else (record { table = index_part shape part; start = First; stop = Last })

  abbrev StandsIn : KeyRange → List Value → Type 0
  StandsIn range x = IsTrue (is_within range.start range.stop x) × (db range.table x ≡ Some x)

  in_range : (b : Bool) (part : ℕ) (values x : List Value) → is_within (At values) (Within values) x ≡ true → db (index_part shape part) x ≡ Some x → StandsIn (Range b part values) x
  in_range true part values x within stands = (within, stands)
  in_range false part values x within stands = (refl, stands)

  module _ (part : ℕ) (columns : List (List ℕ)) (exact : IsExact (values_at (index_places shape columns)) (db (rows_table shape.name)) (db (index_part shape part))) where
    abbrev places : List ℕ
    places = places_of shape columns

    abbrev index_row : List Value → List Value
    index_row row = values_at (index_places shape columns) row

    abbrev numbered : IndexPart
    numbered = record { number = part; places = places }

    -- a row with these values has its index row among those that are read
    index_stands : (values at row : List Value) → db (rows_table shape.name) at ≡ Some row → same (values_at places row) values ≡ true → StandsIn (index_rows shape part values) (index_row row)
    index_stands values at row stands has = in_range (is_key values) part values (index_row row) (index_within (key_places (Some shape)) numbered row values has) (exact.whole at row stands)

    -- which has them, too
    index_has : (values row : List Value) → same (values_at places row) values ≡ true → same (values_at (first_places (length places)) (index_row row)) values ≡ true
    index_has values row has = ap (λ (l : List Value). same l values) (columns_first places (key_places (Some shape)) row) ∙ has

  unique_one : (row : List Value) (part : ℕ) (key : KeyTree) → IsExact (values_at (index_places shape key.columns)) (db (rows_table shape.name)) (db (index_part shape part)) → Passes db (unique_read shape row part key) → Passes db (unique_meant shape row key)
  unique_one row part key exact passes at other base also one two =
      let wanted : List Value = values_at (places_of shape key.columns) row in
      let alike = passes (index_row part key.columns exact base) (index_row part key.columns exact also) (index_row part key.columns exact base) (index_row part key.columns exact also) (agrees at base one) (agrees other also two) in
      same_on at (key_of shape base) other (same_back (key_of shape base) at (own at base one.1))
      (same_on (key_of shape base) (key_of shape also) other (tells (key_places (Some shape)) (numbered part key.columns exact) base also alike) (own other also two.1))
    where
      agrees : (at base : List Value) → Agrees db (unique_meant shape row key) at base → Agrees db (unique_read shape row part key) (values_at (index_places shape key.columns) base) (values_at (index_places shape key.columns) base)
      agrees at base one =
          let wanted : List Value = values_at (places_of shape key.columns) row in
          let stands = index_stands part key.columns exact wanted at base one.1 one.2 in
          (stands.0, stands.1, index_has part key.columns exact wanted base one.2)

  parent_one : (key : List Value) (part : ℕ) (foreign : ForeignTree) → IsExact (values_at (index_places shape foreign.columns)) (db (rows_table shape.name)) (db (index_part shape part)) → Passes db (parent_read key shape part foreign) → Passes db (parent_meant key shape foreign)
  parent_one key part foreign exact none at row one =
      let stands = index_stands part foreign.columns exact key at row one.1 one.2 in
      none (values_at (index_places shape foreign.columns) row) (values_at (index_places shape foreign.columns) row) (stands.0, stands.1, index_has part foreign.columns exact key row one.2)

  uniques_pass : (row : List Value) (part : ℕ) (keys : List KeyTree) → ArePartsFrom db shape (λ (key : KeyTree). key.columns) part keys → AllByRecursion (Passes db) (unique_reads_from shape row part keys) → AllByRecursion (Passes db) (map (unique_meant shape row) keys)
  uniques_pass row part [] exact all = tt
  uniques_pass row part (key ∷ keys) exact all = (unique_one row part key exact.0.1 all.0, uniques_pass row (suc part) keys exact.1 all.1)

  parents_pass : (table : TableName) (key : List Value) (part : ℕ) (foreigns : List ForeignTree) → ArePartsFrom db shape (λ (foreign : ForeignTree). foreign.columns) part foreigns → AllByRecursion (Passes db) (parent_reads_from table key shape part foreigns)
      → AllByRecursion (Passes db) (map (parent_meant key shape) (filter (λ foreign. same_units foreign.parent table.object) foreigns))
  parents_pass table key part [] exact all = tt
  parents_pass table key part (foreign ∷ foreigns) exact all = by_test (same_units foreign.parent table.object) (parents_pass table key (suc part) foreigns exact.1) all
    where
      by_test : (b : Bool)
          → (AllByRecursion (Passes db) (parent_reads_from table key shape (suc part) foreigns) → AllByRecursion (Passes db) (map (parent_meant key shape) (filter (λ foreign. same_units foreign.parent table.object) foreigns)))
          → AllByRecursion (Passes db) (if b then parent_read key shape part foreign ∷ parent_reads_from table key shape (suc part) foreigns else parent_reads_from table key shape (suc part) foreigns)
          → AllByRecursion (Passes db) (map (parent_meant key shape) (if b then foreign ∷ filter (λ foreign. same_units foreign.parent table.object) foreigns else filter (λ foreign. same_units foreign.parent table.object) foreigns))
      by_test true rest all = (parent_one key part foreign exact.0.1 all.0, rest all.1)
      by_test false rest all = rest all

-- ---- all tables

module _ (db : Database) where
  all_pass : (table : TableName) (key : List Value) (shapes : List TableTree) → AllByRecursion (RowsFit db) shapes → AllByRecursion (HasParts db) shapes → AllByRecursion (Passes db) (parent_reads shapes table key)
      → AllByRecursion (Passes db) (parents_meant shapes table key)
  all_pass table key [] fit parts all = tt
  all_pass table key (shape ∷ shapes) fit parts all =
      all_both (Passes db) (parents_meant_of table key shape) (parents_meant shapes table key)
      (parents_pass db shape fit.0 table key (first_foreign shape) shape.foreigns parts.0.foreigns (all_left (Passes db) (parent_reads_of table key shape) (parent_reads shapes table key) all))
      (all_pass table key shapes fit.1 parts.1 (all_right (Passes db) (parent_reads_of table key shape) (parent_reads shapes table key) all))

  module _ (shapes : List TableTree) (fit : AllByRecursion (RowsFit db) shapes) (parts : AllByRecursion (HasParts db) shapes) where
    row_passes : (change : Planned) → AllByRecursion (Passes db) (of_row unique_reads shapes change) → AllByRecursion (Passes db) (of_row uniques_meant shapes change)
    row_passes change all = by_both (shape_of change.table shapes) refl (row_of change.deed) all
      where
        by_both : (o : Option TableTree) → shape_of change.table shapes ≡ o → (row : Option (List Value)) → AllByRecursion (Passes db) (of_both unique_reads o row) → AllByRecursion (Passes db) (of_both uniques_meant o row)
        by_both None is row all = tt
        by_both (Some shape) is None all = tt
        by_both (Some shape) is (Some row) all = uniques_pass db shape (of_found (RowsFit db) change.table shapes shape is fit) row 1 shape.uniques (of_found (HasParts db) change.table shapes shape is parts).uniques all

    key_passes : (changes : List Planned) (change : Planned) → AllByRecursion (Passes db) (of_key shapes changes change) → AllByRecursion (Passes db) (key_meant shapes changes change)
    key_passes changes change all = by_test (is_gone changes change) all
      where
        by_test : (b : Bool) → AllByRecursion (Passes db) (if b then parent_reads shapes change.table change.key else []) → AllByRecursion (Passes db) (if b then parents_meant shapes change.table change.key else [])
        by_test true all = all_pass change.table change.key shapes fit parts all
        by_test false all = tt

pub parts_pass : PartsPass
parts_pass db shapes changes can all =
    let P : CheckRead → Type 0 = Passes db in
    let uniques : List CheckRead = flat_map (of_row unique_reads shapes) changes in
    let children : List CheckRead = flat_map (of_row (child_reads shapes) shapes) changes in
    let parents : List CheckRead = flat_map (of_key shapes changes) changes in
    let behind = all_right P uniques (children ++ parents) all in
    all_both P (flat_map (of_row uniques_meant shapes) changes) (children ++ flat_map (key_meant shapes changes) changes)
    (all_over P (of_row unique_reads shapes) (of_row uniques_meant shapes) (row_passes db shapes can.rows can.parts) changes (all_left P uniques (children ++ parents) all))
    (all_both P children (flat_map (key_meant shapes changes) changes) (all_left P children parents behind)
    (all_over P (of_key shapes changes) (key_meant shapes changes) (key_passes db shapes can.rows can.parts changes) changes (all_right P children parents behind)))

-- ---- where each constraint has a part

module _ (db : Database) (shape : TableTree) (indexed : Indexed db) (defined : IsTableOf db shape) where
  placed_from : {A : Type 0} (columns : A → List (List ℕ)) (xs : List A) (front back : List (List (List ℕ))) (i : ℕ) → index_columns shape ≡ front ++ (map columns xs ++ back) → i ≡ length front → ArePartsFrom db shape columns (suc i) xs
  placed_from columns [] front back i is at = tt
  placed_from columns (x ∷ xs) front back i is at =
      let placed : part_places shape (suc i) ≡ Some (index_places shape (columns x)) = ap (option_map (index_places shape)) (ap (λ (list : List (List (List ℕ))). slice_get list i) is ∙ got_at front (columns x) (map columns xs ++ back) i at) in (
        (placed, indexed.exact shape (suc i) (index_places shape (columns x)) defined placed),
        placed_from columns xs (front ++ columns x ∷ []) back (suc i) (is ∙ sym (append_assoc front (columns x ∷ []) (map columns xs ++ back))) (simp length-append (omega (arith, at))),
      )

  -- the parts of an indexed database are such
  pub has_parts : HasParts db shape
  unfolding index_columns
  has_parts =
      let uniques : List (List (List ℕ)) = map (λ (unique : KeyTree). unique.columns) shape.uniques in
      let foreigns : List (List (List ℕ)) = map (λ (foreign : ForeignTree). foreign.columns) shape.foreigns in
      record {
        uniques = placed_from (λ (unique : KeyTree). unique.columns) shape.uniques [] foreigns 0 refl refl;
        foreigns = placed_from (λ (foreign : ForeignTree). foreign.columns) shape.foreigns uniques [] (length shape.uniques)
            (ap (λ (list : List (List (List ℕ))). uniques ++ list) (sym (append-nil foreigns))) (sym (length-map shape.uniques (λ (unique : KeyTree). unique.columns)));
      }
