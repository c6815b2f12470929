-- Index parts where rows of a table change.
use Rattle.std.proofs.Common.{◌≡◌, refl, sym, ap, ◌∙◌, subst, inl, inr, ℕ, zero, suc, ◌+◌, ◌<◌, Bool, true, false, not, ◌&&◌, nat_eq, if◌then◌else◌, List, [], ◌∷◌, ◌++◌, length, map, slice_get, Option, Some, None, IsSome, arith, append_assoc}
use Rattle.std.proofs.lemmas.Bool.{and_parts}
use Rattle.std.proofs.lemmas.List.{length-append, length-map, map-append}
use Rattle.std.specs.List.{AllByRecursion, flat_map}
use Rattle.std.specs.Option.{option_map}
use Rattle.std.specs.Ordering.{is_eq, nat_cmp}
use Rattle.value_types.specs.Units.{same_units}
use Rattle.value_types.specs.declared.table_name.TableName.{TableName}
use Rattle.value_types.specs.declared.value.Value.{Value}
use Rattle.value_types.specs.Order.{table_cmp}
use Rattle.tsql_tree.specs.declared.definition.Definition.TheVariants.{Table}
use Rattle.tsql_tree.specs.declared.definition.TableTree.{TableTree}
use Rattle.tsql_tree.specs.Places.{key_places}
use Rattle.bound_tree.specs.Setting.{value_at}
use Rattle.step_model.specs.declared.change.Change.{Change}
use Rattle.step_model.specs.declared.change.Planned.{Planned}
use Rattle.step_model.specs.Database.{Database, With, with_change}
use Rattle.step_model.specs.Own.{change_of, is_insert, is_own}
use Rattle.index_laws.specs.Deeds.{deeds_by, deeds_erased, deeds_written, erases, erases_if, inserts as inserts_row, replaces, rewrites_if}
use Rattle.index_laws.specs.Laws.{FreshIn, FreshOne, IsElsewhere, MayIndex, itself, never}
use Rattle.index_laws.specs.Moves.{planned_by, rewritten_if, written_by}
use Rattle.index_laws.specs.Parts.{IsExact, IsOld, OfRow, RowChange, same}
use Rattle.index_laws.specs.Whole.{IndexPart, IsOther, index_of, part_changes, part_table, row_changes, statement_changes}
use Rattle.index_laws.proofs.Behind.{IsErasure, IsWriting, all_both, all_erase, all_more, all_write, erasures, writings}
use Rattle.index_laws.proofs.Deeds.{deeds_are}
use Rattle.index_laws.proofs.Fresh.{fresh_may}
use Rattle.index_laws.proofs.PartFresh.{olds_one, part_fresh}
use Rattle.index_laws.proofs.Whole.{parts_kept, tells}
use Rattle.table_rows.specs.Definitions.{object_key, objects_name}
use Rattle.table_rows.specs.Rows.{has_columns, index_columns, index_part, index_places, key_of, part_places, places_of, rows_table, values_at}
use Rattle.constraint_check.specs.Laws.{behind}
use Rattle.constraint_check.proofs.Behind.{name_is}
use Rattle.constraint_check.proofs.Lists.{all_map, all_two}
use Rattle.dml_exec.specs.Filling.{Row}
use Rattle.dml_exec.specs.Planning.{index_deeds, part_deeds, parts_from, parts_of, row_in}
use Rattle.write_laws.specs.Indexed.{Indexed, own_rows}
use Rattle.write_laws.specs.Indexing.{CanChange, IndexFree, IndexStands, IndexedWritten, IsReady, StandsThere, all_deeds, row_deeds}
use Rattle.write_laws.specs.Made.{ComeFree, IfSo, inserts, inserts_into_part}
use Rattle.write_laws.specs.Reads.{KeysHave}
use Rattle.write_laws.specs.Sound.{IsTableOf}
use Rattle.write_laws.proofs.Defined.{defined_by, names_apart, not_objects, not_same, one_table}
use Rattle.write_laws.proofs.Elsewhere.{objects_apart, one_number, parts_equal}
use Rattle.write_laws.proofs.Indexed.{exact_too}
use Rattle.write_laws.proofs.KeySizes.{of_row, same_long}
use Rattle.write_laws.proofs.Made.{all_erased, erases_of, free_both, writes_of}

-- ---- numbers of parts

other_number : (a b : ℕ) → (a ≡ b → ⊥) → is_eq (nat_cmp a b) ≡ false
other_number a b apart = by_test (is_eq (nat_cmp a b)) refl
  where
    by_test : (same : Bool) → is_eq (nat_cmp a b) ≡ same → same ≡ false
    by_test true is = absurd (apart (one_number a b is))
    by_test false is = refl

-- parts of a table with two numbers are two
numbers_apart : (table other : TableName) → (table.part ≡ other.part → ⊥) → is_eq (table_cmp table other) ≡ false
numbers_apart table other apart = by_test (is_eq (table_cmp table other)) refl
  where
    by_test : (same : Bool) → is_eq (table_cmp table other) ≡ same → same ≡ false
    by_test true is = absurd (apart (parts_equal table other is))
    by_test false is = refl

pub numbers_above : (shape : TableTree) (columns : List (List (List ℕ))) (low number : ℕ) → low < number → AllByRecursion (λ (part : IndexPart). low < part.number) (parts_from shape number columns)
numbers_above shape [] low number above = tt
numbers_above shape (names ∷ columns) low number above = (above, numbers_above shape columns low (suc number) (omega (arith, above)))

-- the part of a constraint among all parts
pub record IsAmong (shape : TableTree) (number : ℕ) (names : List (List ℕ)) (all : List IndexPart) : Type 0 where
  pub front : List IndexPart
  pub back : List IndexPart
  pub split : all ≡ front ++ (record { number = number; places = places_of shape names }) ∷ back
  pub below : AllByRecursion (λ (part : IndexPart). part.number < number) front
  pub above : AllByRecursion (λ (part : IndexPart). number < part.number) back

pub part_among : (shape : TableTree) (columns : List (List (List ℕ))) (first i number : ℕ) (names : List (List ℕ)) → number ≡ first + i → slice_get columns i ≡ Some names → IsAmong shape number names (parts_from shape first columns)
part_among shape [] first i number names at is = absurd (let no : None ≡ Some names = is in cc)
part_among shape (one ∷ columns) first zero number names at is =
    let same : one ≡ names = cc in
    let here : first ≡ number = omega (arith, at) in
    record {
      front = [];
      back = parts_from shape (suc first) columns;
      split = ap (λ (n : ℕ). (record { number = n; places = places_of shape one }) ∷ parts_from shape (suc first) columns) here
          ∙ ap (λ (of : List (List ℕ)). (record { number = number; places = places_of shape of }) ∷ parts_from shape (suc first) columns) same;
      below = tt;
      above = numbers_above shape columns number (suc first) (omega (arith, here));
    }
part_among shape (one ∷ columns) first (suc i) number names at is =
    let on = part_among shape columns (suc first) i number names (omega (arith, at)) is in
    record {
      front = (record { number = first; places = places_of shape one }) ∷ on.front;
      back = on.back;
      split = ap (λ (rest : List IndexPart). (record { number = first; places = places_of shape one }) ∷ rest) on.split;
      below = (omega (arith, at), on.below);
      above = on.above;
    }

-- each part has its places
abbrev IsPlaced : TableTree → IndexPart → Type 0
IsPlaced shape part = part_places shape part.number ≡ Some (part.places ++ key_places (Some shape))

pub got_at : {A : Type 0} (front : List A) (x : A) (back : List A) (i : ℕ) → i ≡ length front → slice_get (front ++ x ∷ back) i ≡ Some x
got_at [] x back zero is = refl
got_at [] x back (suc i) is = absurd (omega (arith, is))
got_at (y ∷ front) x back zero is = absurd (omega (arith, is))
got_at (y ∷ front) x back (suc i) is = got_at front x back i (omega (arith, is))

parts_placed : (shape : TableTree) (columns front : List (List (List ℕ))) (i : ℕ) → index_columns shape ≡ front ++ columns → i ≡ length front → AllByRecursion (IsPlaced shape) (parts_from shape (suc i) columns)
parts_placed shape [] front i all is = tt
parts_placed shape (names ∷ columns) front i all is = (
  ap (option_map (index_places shape)) (ap (λ (list : List (List (List ℕ))). slice_get list i) all ∙ got_at front names columns i is),
  parts_placed shape columns (front ++ names ∷ []) (suc i) (all ∙ sym (append_assoc front (names ∷ []) columns)) (simp length-append (omega (arith, is))),
)

all_placed : (shape : TableTree) → AllByRecursion (IsPlaced shape) (parts_of shape)
all_placed shape = parts_placed shape (index_columns shape) [] 0 refl refl

-- ---- what is done, as it is seen at each key

module _ (shape : TableTree) (equal : List Value → List Value → Bool) (changes : List RowChange) where
  abbrev key : List ℕ
  key = key_places (Some shape)

  abbrev unmoved : IndexPart → Row → Row → Bool
  unmoved part old new = equal (row_in shape part new) (row_in shape part old)

  parts_seen : (parts : List IndexPart) → map change_of (flat_map (part_deeds shape equal changes) parts) ≡ flat_map (part_changes shape.name key equal changes) parts
  parts_seen [] = refl
  parts_seen (part ∷ parts) =
      map-append change_of (part_deeds shape equal changes part) (flat_map (part_deeds shape equal changes) parts)
      ∙ ap (λ (list : List Change). list ++ map change_of (flat_map (part_deeds shape equal changes) parts)) (deeds_are (part_table shape.name part.number) (row_in shape part) (row_in shape part) (unmoved part) changes)
      ∙ ap (λ (list : List Change). part_changes shape.name key equal changes part ++ list) (parts_seen parts)

  all_seen : map change_of (all_deeds shape equal changes) ≡ statement_changes shape.name key equal (parts_of shape) changes
  all_seen =
      map-append change_of (row_deeds shape changes) (index_deeds shape equal changes)
      ∙ ap (λ (list : List Change). list ++ map change_of (index_deeds shape equal changes)) (deeds_are (rows_table shape.name) (key_of shape) itself never changes)
      ∙ ap (λ (list : List Change). row_changes shape.name key equal changes ++ list) (parts_seen (parts_of shape))

-- ---- changes elsewhere

pub away : (table : TableName) (changes : List Change) (db : Database) (at : List Value) → AllByRecursion (IsElsewhere table) changes → With db changes table at ≡ db table at
away table [] db at all = refl
away table (change ∷ changes) db at all =
    away table changes (with_change db change) at all.1 ∙ ap (λ (b : Bool). if b && same change.key at then change.row else db table at) all.0

planned_there : (table : TableName) (key_of kept : OfRow) (skips : Row → Row → Bool) (changes : List RowChange) → AllByRecursion (λ (change : Change). change.table ≡ table) (planned_by table key_of kept skips changes)
planned_there table key_of kept skips changes =
    all_both (λ (change : Change). change.table ≡ table) (erasures table key_of kept skips changes) (writings table key_of kept skips changes)
    (all_more (IsErasure table key_of kept skips changes) (λ (change : Change). change.table ≡ table) (erasures table key_of kept skips changes) (λ change e. ap (λ (c : Change). c.table) e.5) (all_erase table key_of kept skips changes))
    (all_more (IsWriting table key_of kept skips changes) (λ (change : Change). change.table ≡ table) (writings table key_of kept skips changes) (λ change w. ap (λ (c : Change). c.table) w.6) (all_write table key_of kept skips changes))

planned_away : (own table : TableName) (key_of kept : OfRow) (skips : Row → Row → Bool) (changes : List RowChange) → is_eq (table_cmp own table) ≡ false → AllByRecursion (IsElsewhere table) (planned_by own key_of kept skips changes)
planned_away own table key_of kept skips changes apart =
    all_more (λ (change : Change). change.table ≡ own) (IsElsewhere table) (planned_by own key_of kept skips changes) (λ change is. ap (λ (t : TableName). is_eq (table_cmp t table)) is ∙ apart) (planned_there own key_of kept skips changes)

module _ (name key : List ℕ) (equal : List Value → List Value → Bool) (changes : List RowChange) (table : TableName) where
  parts_away : (parts : List IndexPart) → AllByRecursion (λ (part : IndexPart). is_eq (table_cmp (part_table name part.number) table) ≡ false) parts → AllByRecursion (IsElsewhere table) (flat_map (part_changes name key equal changes) parts)
  parts_away [] apart = tt
  parts_away (part ∷ parts) apart =
      all_both (IsElsewhere table) (part_changes name key equal changes part) (flat_map (part_changes name key equal changes) parts)
      (planned_away (part_table name part.number) table (index_of key part) (index_of key part) (λ old new. equal (index_of key part new) (index_of key part old)) changes apart.0) (parts_away parts apart.1)

  pub statement_away : (parts : List IndexPart) → is_eq (table_cmp (part_table name 0) table) ≡ false → AllByRecursion (λ (part : IndexPart). is_eq (table_cmp (part_table name part.number) table) ≡ false) parts
      → AllByRecursion (IsElsewhere table) (statement_changes name key equal parts changes)
  statement_away parts rows apart =
      all_both (IsElsewhere table) (row_changes name key equal changes) (flat_map (part_changes name key equal changes) parts) (planned_away (part_table name 0) table (values_at key) itself never changes rows) (parts_away parts apart)

each_part : (P : IndexPart → Type 0) → ((part : IndexPart) → P part) → (parts : List IndexPart) → AllByRecursion P parts
each_part P is [] = tt
each_part P is (part ∷ parts) = (is part, each_part P is parts)

-- ---- exact parts

module _ (db : Database) (shape : TableTree) (equal : List Value → List Value → Bool) (changes : List RowChange) (ready : IsReady db shape equal) (can : CanChange db shape changes) where
  abbrev places : List ℕ
  places = key_places (Some shape)

  abbrev list : List Change
  list = statement_changes shape.name places equal (parts_of shape) changes

  abbrev after : Database
  after = With db list

  abbrev rows : TableName
  rows = rows_table shape.name

  own_keys : (at row : List Value) → db rows at ≡ Some row → same (key_of shape row) at ≡ true
  own_keys at row stands = (and_parts (has_columns shape.columns row) (same (key_of shape row) at) ((ready.firm.kept shape ready.defined).2.fits at row stands)).1

  -- a table of another name, and what stands in a part that there is not, is as it was
  other_stays : (table : TableName) → same_units shape.name table.object ≡ false → (at : List Value) → after table at ≡ db table at
  other_stays table apart at =
      away table list db at
      (statement_away shape.name places equal changes table (parts_of shape) (objects_apart (part_table shape.name 0) table apart)
      (each_part (λ (part : IndexPart). is_eq (table_cmp (part_table shape.name part.number) table) ≡ false) (λ part. objects_apart (part_table shape.name part.number) table apart) (parts_of shape)))

  not_objects_name : same_units shape.name objects_name ≡ false
  not_objects_name = names_apart shape.name objects_name (not_same shape.name objects_name (not_objects (own_rows db) ready.firm shape.name (Table shape) ready.defined))

  objects_stay : (at : List Value) → after (rows_table objects_name) at ≡ db (rows_table objects_name) at
  objects_stay at = other_stays (rows_table objects_name) not_objects_name at

  was : (of : TableTree) → IsTableOf after of → IsTableOf db of
  was of now = defined_by after db of.name (Table of) (sym (objects_stay (object_key of.name))) now

  stays : (of : TableTree) → IsTableOf db of → IsTableOf after of
  stays of before = defined_by db after of.name (Table of) (objects_stay (object_key of.name)) before

  -- each part of the table itself
  own_exact : (i : ℕ) (names : List (List ℕ)) → slice_get (index_columns shape) i ≡ Some names → IsExact (values_at (index_places shape names)) (db rows) (db (index_part shape (suc i)))
      → IsExact (values_at (index_places shape names)) (after rows) (after (index_part shape (suc i)))
  own_exact i names is exact =
      let among = part_among shape (index_columns shape) 1 i (suc i) names (omega arith) is in
      let part : IndexPart = record { number = suc i; places = places_of shape names } in
      let others : AllByRecursion (λ (other : IndexPart). IsOther (suc i) other.number) (among.front ++ among.back) =
      all_both (λ (other : IndexPart). IsOther (suc i) other.number) among.front among.back
      (all_more (λ (other : IndexPart). other.number < suc i) (λ (other : IndexPart). IsOther (suc i) other.number) among.front (λ other below. other_number other.number (suc i) (λ same. absurd (omega (arith, below, same)))) among.below)
      (all_more (λ (other : IndexPart). suc i < other.number) (λ (other : IndexPart). IsOther (suc i) other.number) among.back (λ other above. other_number other.number (suc i) (λ same. absurd (omega (arith, above, same)))) among.above) in
      let numbered : AllByRecursion (λ (other : IndexPart). IsOther 0 other.number) (among.front ++ part ∷ among.back) =
      subst (λ (parts : List IndexPart). AllByRecursion (λ (other : IndexPart). IsOther 0 other.number) parts) among.split
      (all_more (λ (other : IndexPart). 0 < other.number) (λ (other : IndexPart). IsOther 0 other.number) (parts_of shape) (λ other above. other_number other.number 0 (λ same. absurd (omega (arith, above, same)))) (numbers_above shape (index_columns shape) 0 1 (omega arith))) in
      subst (λ (parts : List IndexPart). IsExact (row_in shape part) (With db (statement_changes shape.name places equal parts changes) (part_table shape.name 0)) (With db (statement_changes shape.name places equal parts changes) (part_table shape.name (suc i)))) (sym among.split)
      (parts_kept db shape.name places equal among.front among.back part changes ready.decides (λ table at other same. ready.one_key table at other same) (other_number 0 (suc i) (λ same. absurd (omega (arith, same)))) others numbered own_keys can.stood
      (olds_one (key_of shape) changes can.apart) can.fresh exact)

  placed : (number : ℕ) (of : List ℕ) → part_places shape number ≡ Some of → IsExact (values_at of) (db rows) (db (index_part shape number)) → IsExact (values_at of) (after rows) (after (index_part shape number))
  placed zero of is exact = absurd (let no : None ≡ Some of = is in cc)
  placed (suc i) of is exact = by_names (slice_get (index_columns shape) i) refl is exact
    where
      by_names : (o : Option (List (List ℕ))) → slice_get (index_columns shape) i ≡ o → option_map (index_places shape) o ≡ Some of → IsExact (values_at of) (db rows) (db (index_part shape (suc i))) → IsExact (values_at of) (after rows) (after (index_part shape (suc i)))
      by_names None got is exact = absurd (let no : None ≡ Some of = is in cc)
      by_names (Some names) got is exact =
          let same : index_places shape names ≡ of = cc in
          subst (λ (of : List ℕ). IsExact (values_at of) (after rows) (after (index_part shape (suc i)))) same
          (own_exact i names got (subst (λ (of : List ℕ). IsExact (values_at of) (db rows) (db (index_part shape (suc i)))) (sym same) exact))

  all_exact : (of : TableTree) (number : ℕ) (at : List ℕ) → IsTableOf after of → part_places of number ≡ Some at → IsExact (values_at at) (after (rows_table of.name)) (after (index_part of number))
  all_exact of number at now is = by_name (same_units shape.name of.name) refl
    where
      before : IsTableOf db of
      before = was of now

      by_name : (b : Bool) → same_units shape.name of.name ≡ b → IsExact (values_at at) (after (rows_table of.name)) (after (index_part of number))
      by_name true named =
          let same : shape ≡ of = one_table db shape of ready.defined before (name_is shape.name of.name named) in
          subst (λ (of : TableTree). IsExact (values_at at) (after (rows_table of.name)) (after (index_part of number))) same
          (placed number at (subst (λ (of : TableTree). part_places of number ≡ Some at) (sym same) is) (ready.indexed.exact shape number at ready.defined (subst (λ (of : TableTree). part_places of number ≡ Some at) (sym same) is)))
      by_name false apart =
          exact_too (values_at at) (db (rows_table of.name)) (db (index_part of number)) (after (rows_table of.name)) (after (index_part of number)) (other_stays (rows_table of.name) apart) (other_stays (index_part of number) apart)
          (ready.indexed.exact of number at before is)

  -- ---- and nothing stands in another part

  none_placed : (number : ℕ) → part_places shape number ≡ None → AllByRecursion (λ (part : IndexPart). part.number ≡ number → ⊥) (parts_of shape)
  none_placed number none =
      all_more (IsPlaced shape) (λ (part : IndexPart). part.number ≡ number → ⊥) (parts_of shape)
      (λ part is same. absurd (let no : None ≡ Some (part.places ++ places) = sym none ∙ ap (part_places shape) (sym same) ∙ is in cc)) (all_placed shape)

  part_stays : (table : TableName) → nat_eq table.part 0 ≡ false → part_places shape table.part ≡ None → (at : List Value) → after table at ≡ db table at
  part_stays table other none at =
      away table list db at
      (statement_away shape.name places equal changes table (parts_of shape) (numbers_apart (part_table shape.name 0) table (λ same. absurd (let no : false ≡ true = sym other ∙ ap (λ (n : ℕ). nat_eq n 0) (sym same) in cc)))
      (all_more (λ (part : IndexPart). part.number ≡ table.part → ⊥) (λ (part : IndexPart). is_eq (table_cmp (part_table shape.name part.number) table) ≡ false) (parts_of shape) (λ part apart. numbers_apart (part_table shape.name part.number) table apart) (none_placed table.part none)))

  abbrev Known : TableName → Type 0
  Known table = (of : TableTree) × IsTableOf after of × (table.object ≡ of.name) × IsSome (part_places of table.part)

  stood_known : (table : TableName) (at row : List Value) → db table at ≡ Some row → nat_eq table.part 0 ≡ false → Known table
  stood_known table at row stood other = let before = ready.indexed.parts table at row stood other in (before.0, stays before.0 before.1, before.2, before.3)

  all_parts : (table : TableName) (at row : List Value) → after table at ≡ Some row → nat_eq table.part 0 ≡ false → Known table
  all_parts table at row stands other = by_name (same_units shape.name table.object) refl
    where
      by_places : shape.name ≡ table.object → (o : Option (List ℕ)) → part_places shape table.part ≡ o → Known table
      by_places named (Some of) is = (shape, stays shape ready.defined, sym named, subst (λ (o : Option (List ℕ)). IsSome o) (sym is) refl)
      by_places named None is = stood_known table at row (sym (part_stays table other is at) ∙ stands) other

      by_name : (b : Bool) → same_units shape.name table.object ≡ b → Known table
      by_name true named = by_places (name_is shape.name table.object named) (part_places shape table.part) refl
      by_name false apart = stood_known table at row (sym (other_stays table apart at) ∙ stands) other

pub indexed_written : IndexedWritten
indexed_written db shape equal changes ready can =
    subst (λ (list : List Change). Indexed (With db list)) (sym (all_seen shape equal changes)) (record { exact = all_exact db shape equal changes ready can; parts = all_parts db shape equal changes ready can })

-- ---- what is done in one part

pub deeds_there : (table : TableName) (key_of kept : OfRow) (skips : Row → Row → Bool) (changes : List RowChange) → AllByRecursion (λ (change : Planned). change.table ≡ table) (deeds_by table key_of kept skips changes)
deeds_there table key_of kept skips changes =
    all_map (λ (change : Change). change.table ≡ table) change_of (deeds_by table key_of kept skips changes)
    (subst (λ (list : List Change). AllByRecursion (λ (change : Change). change.table ≡ table) list) (sym (deeds_are table key_of kept skips changes)) (planned_there table key_of kept skips changes))

-- changes of own rows insert into no part
pub own_free : (changes : List Planned) (db : Database) → AllByRecursion (λ change. is_own change ≡ true) changes → ComeFree inserts_into_part db changes
own_free [] db own = tt
own_free (change ∷ changes) db own =
    (subst (λ (b : Bool). IfSo (not b && is_insert change.deed) (db change.table change.key ≡ None)) (sym own.0) tt, own_free changes (with_change db (change_of change)) own.1)

-- what is so of each insertion is so of those into parts
less_free : (changes : List Planned) (db : Database) → ComeFree inserts db changes → ComeFree inserts_into_part db changes
less_free [] db free = tt
less_free (change ∷ changes) db free = (by_own (is_own change) (is_insert change.deed) free.0, less_free changes (with_change db (change_of change)) free.1)
  where
    by_own : (own insert : Bool) → IfSo insert (db change.table change.key ≡ None) → IfSo (not own && insert) (db change.table change.key ≡ None)
    by_own true insert free = tt
    by_own false insert free = free

module _ (table : TableName) (key_of kept : OfRow) (skips : Row → Row → Bool) where
  -- erasures insert nothing
  erases_free : (changes : List RowChange) (db : Database) → ComeFree inserts db (flat_map (erases_of table key_of kept skips) changes)
  erases_free [] db = tt
  erases_free (change ∷ changes) db = by_rows change.old change.new (erases_free changes)
    where
      Rest : Type 0
      Rest = (next : Database) → ComeFree inserts next (flat_map (erases_of table key_of kept skips) changes)

      by_stays : (old : Row) (b : Bool) → Rest → ComeFree inserts db (erases_if table key_of kept skips b old ++ flat_map (erases_of table key_of kept skips) changes)
      by_stays old true rest = rest db
      by_stays old false rest = (tt, rest (with_change db (change_of (erases table key_of kept skips old))))

      by_rows : (old new : Option Row) → Rest → ComeFree inserts db (deeds_erased table key_of kept skips old new ++ flat_map (erases_of table key_of kept skips) changes)
      by_rows None new rest = rest db
      by_rows (Some old) None rest = (tt, rest (with_change db (change_of (erases table key_of kept skips old))))
      by_rows (Some old) (Some new) rest = by_stays old (same (key_of new) (key_of old)) rest

  -- insertions that are fresh come to free keys
  writes_free : (changes : List RowChange) (db : Database) → FreshIn table key_of kept skips db changes → ComeFree inserts db (flat_map (writes_of table key_of kept skips) changes)
  writes_free [] db fresh = tt
  writes_free (change ∷ changes) db fresh = by_rows change.old change.new fresh.0 fresh.1 (writes_free changes)
    where
      Rest : Type 0
      Rest = (next : Database) → FreshIn table key_of kept skips next changes → ComeFree inserts next (flat_map (writes_of table key_of kept skips) changes)

      by_stays : (old new : Row) (b : Bool) → same (key_of new) (key_of old) ≡ b → FreshOne key_of (db table) (Some old) (Some new) → FreshIn table key_of kept skips (With db (rewritten_if table key_of kept skips b old new)) changes → Rest
          → ComeFree inserts db (rewrites_if table key_of kept skips b old new ++ flat_map (writes_of table key_of kept skips) changes)
      by_stays old new true stays one more rest = (tt, rest (with_change db (change_of (replaces table key_of kept skips old new))) more)
      by_stays old new false moves one more rest = (one moves, rest (with_change db (change_of (inserts_row table key_of kept skips new))) more)

      by_skip : (old new : Row) (b : Bool) → FreshOne key_of (db table) (Some old) (Some new)
          → FreshIn table key_of kept skips (With db (if b then [] else rewritten_if table key_of kept skips (same (key_of new) (key_of old)) old new)) changes → Rest
          → ComeFree inserts db ((if b then [] else rewrites_if table key_of kept skips (same (key_of new) (key_of old)) old new) ++ flat_map (writes_of table key_of kept skips) changes)
      by_skip old new true one more rest = rest db more
      by_skip old new false one more rest = by_stays old new (same (key_of new) (key_of old)) refl one more rest

      by_rows : (old new : Option Row) → FreshOne key_of (db table) old new → FreshIn table key_of kept skips (With db (written_by table key_of kept skips old new)) changes → Rest
          → ComeFree inserts db (deeds_written table key_of kept skips old new ++ flat_map (writes_of table key_of kept skips) changes)
      by_rows None None one more rest = rest db more
      by_rows (Some old) None one more rest = rest db more
      by_rows None (Some new) one more rest = (one, rest (with_change db (change_of (inserts_row table key_of kept skips new))) more)
      by_rows (Some old) (Some new) one more rest = by_skip old new (skips old new) one more rest

  -- a fact of each change: of those that take a row that stood, and of insertions
  module _ (Good : Planned → Type 0) (comes : (row : Row) → Good (inserts_row table key_of kept skips row)) where
    abbrev Takes : List RowChange → Type 0
    Takes changes = (old : Row) → IsOld old changes → Good (erases table key_of kept skips old) × ((new : Row) → Good (replaces table key_of kept skips old new))

    erases_good : (changes : List RowChange) → Takes changes → AllByRecursion Good (flat_map (erases_of table key_of kept skips) changes)
    erases_good [] takes = tt
    erases_good (change ∷ changes) takes =
        all_both Good (erases_of table key_of kept skips change) (flat_map (erases_of table key_of kept skips) changes) (by_rows change.old change.new (λ old is. (takes old (inl is)).0)) (erases_good changes (λ old later. takes old (inr later)))
      where
        by_stays : (old : Row) (b : Bool) → Good (erases table key_of kept skips old) → AllByRecursion Good (erases_if table key_of kept skips b old)
        by_stays old true good = tt
        by_stays old false good = (good, tt)

        by_rows : (old new : Option Row) → ((row : Row) → old ≡ Some row → Good (erases table key_of kept skips row)) → AllByRecursion Good (deeds_erased table key_of kept skips old new)
        by_rows None new good = tt
        by_rows (Some old) None good = (good old refl, tt)
        by_rows (Some old) (Some new) good = by_stays old (same (key_of new) (key_of old)) (good old refl)

    writes_good : (changes : List RowChange) → Takes changes → AllByRecursion Good (flat_map (writes_of table key_of kept skips) changes)
    writes_good [] takes = tt
    writes_good (change ∷ changes) takes =
        all_both Good (writes_of table key_of kept skips change) (flat_map (writes_of table key_of kept skips) changes) (by_rows change.old change.new (λ old is. (takes old (inl is)).1)) (writes_good changes (λ old later. takes old (inr later)))
      where
        by_stays : (old new : Row) (b : Bool) → Good (replaces table key_of kept skips old new) → AllByRecursion Good (rewrites_if table key_of kept skips b old new)
        by_stays old new true good = (good, tt)
        by_stays old new false good = (comes new, tt)

        by_skip : (old new : Row) (b : Bool) → Good (replaces table key_of kept skips old new) → AllByRecursion Good (if b then [] else rewrites_if table key_of kept skips (same (key_of new) (key_of old)) old new)
        by_skip old new true good = tt
        by_skip old new false good = by_stays old new (same (key_of new) (key_of old)) good

        by_rows : (old new : Option Row) → ((row : Row) → old ≡ Some row → (new : Row) → Good (replaces table key_of kept skips row new)) → AllByRecursion Good (deeds_written table key_of kept skips old new)
        by_rows None None good = tt
        by_rows (Some old) None good = tt
        by_rows None (Some new) good = (comes new, tt)
        by_rows (Some old) (Some new) good = by_skip old new (skips old new) (good old refl new)

    deeds_good : (changes : List RowChange) → Takes changes → AllByRecursion Good (deeds_by table key_of kept skips changes)
    deeds_good changes takes = all_both Good (flat_map (erases_of table key_of kept skips) changes) (flat_map (writes_of table key_of kept skips) changes) (erases_good changes takes) (writes_good changes takes)

-- ---- insertions into parts, and what stands there

module _ (db : Database) (shape : TableTree) (equal : List Value → List Value → Bool) (changes : List RowChange) (ready : IsReady db shape equal) (can : CanChange db shape changes) where
  abbrev own_places : List ℕ
  own_places = key_places (Some shape)

  abbrev own_table : TableName
  own_table = rows_table shape.name

  abbrev table_of : IndexPart → TableName
  table_of part = part_table shape.name part.number

  abbrev IsExactIn : IndexPart → Type 0
  IsExactIn part = IsExact (row_in shape part) (db own_table) (db (table_of part))

  parts_exact : AllByRecursion IsExactIn (parts_of shape)
  parts_exact = all_more (IsPlaced shape) IsExactIn (parts_of shape) (λ part is. ready.indexed.exact shape part.number (part.places ++ own_places) ready.defined is) (all_placed shape)

  keys_own : (at row : List Value) → db own_table at ≡ Some row → same (key_of shape row) at ≡ true
  keys_own at row stands = (and_parts (has_columns shape.columns row) (same (key_of shape row) at) ((ready.firm.kept shape ready.defined).2.fits at row stands)).1

  module _ (part : IndexPart) (exact : IsExactIn part) where
    abbrev row_of : OfRow
    row_of = row_in shape part

    abbrev passed : Row → Row → Bool
    passed old new = equal (row_of new) (row_of old)

    may_index : MayIndex (key_of shape) row_of changes (db own_table)
    may_index = (fresh_may db own_table (key_of shape) row_of changes (λ at other same. ready.one_key own_table at other same) keys_own (tells own_places part) can.stood (olds_one (key_of shape) changes can.apart) can.fresh).1

    part_free : (earlier : Database) → ((x : List Value) → earlier (table_of part) x ≡ db (table_of part) x) → ComeFree inserts_into_part earlier (part_deeds shape equal changes part)
    part_free earlier still =
        let erased : List Planned = flat_map (erases_of (table_of part) row_of row_of passed) changes in
        let written : List Planned = flat_map (writes_of (table_of part) row_of row_of passed) changes in
        let fresh : FreshIn (table_of part) row_of row_of passed (behind earlier erased) changes =
        subst (λ (list : List Change). FreshIn (table_of part) row_of row_of passed (With earlier list) changes) (sym (all_erased (table_of part) row_of row_of passed changes))
        (part_fresh db own_table (table_of part) (key_of shape) row_of passed changes earlier may_index exact can.apart can.fresh still) in
        less_free (erased ++ written) earlier
        (free_both inserts erased written earlier (erases_free (table_of part) row_of row_of passed changes earlier) (writes_free (table_of part) row_of row_of passed changes (behind earlier erased) fresh))

    -- ---- what stands

    abbrev IsGood : Planned → Type 0
    IsGood change = (inserts change ≡ false → StandsThere db change) × KeysHave (length change.key) db change.table

    long_row : (row : Row) → length (row_of row) ≡ length (part.places ++ own_places)
    long_row row = length-map (part.places ++ own_places) (value_at row)

    keys_long : (row : Row) → KeysHave (length (row_of row)) db (table_of part)
    keys_long row x some = of_row (length x ≡ length (row_of row)) (db (table_of part) x) (λ y stands. let there = exact.stands x y stands in same_long x (row_of there.1) there.4 ∙ long_row there.1 ∙ sym (long_row row)) some

    stands_in : (old : Row) → IsOld old changes → IsSome (db (table_of part) (row_of old))
    stands_in old is = subst (λ (o : Option (List Value)). IsSome o) (sym (exact.whole (key_of shape old) old (can.stood old is))) refl

    part_stands : AllByRecursion IsGood (part_deeds shape equal changes part)
    part_stands =
        deeds_good (table_of part) row_of row_of passed IsGood (λ row. ((λ no. absurd (let not_so : true ≡ false = no in cc)), keys_long row)) changes
        (λ old is. (((λ erased. stands_in old is), keys_long old), λ new. ((λ replaced. stands_in old is), keys_long old)))

  all_stand : (parts : List IndexPart) → AllByRecursion IsExactIn parts → AllByRecursion (λ change. (inserts change ≡ false → StandsThere db change) × KeysHave (length change.key) db change.table) (flat_map (part_deeds shape equal changes) parts)
  all_stand [] exact = tt
  all_stand (part ∷ parts) exact = all_both _ (part_deeds shape equal changes part) (flat_map (part_deeds shape equal changes) parts) (part_stands part exact.0) (all_stand parts exact.1)

  -- a part that is as it was in front of its changes
  abbrev IsStill : Database → IndexPart → Type 0
  IsStill earlier part = (x : List Value) → earlier (table_of part) x ≡ db (table_of part) x

  still_on : (earlier : Database) (part other : IndexPart) → part.number < other.number → IsStill earlier other → IsStill (behind earlier (part_deeds shape equal changes part)) other
  still_on earlier part other above still x =
      away (table_of other) (map change_of (part_deeds shape equal changes part)) earlier x
      (subst (λ (list : List Change). AllByRecursion (IsElsewhere (table_of other)) list) (sym (deeds_are (table_of part) (row_in shape part) (row_in shape part) (λ old new. equal (row_in shape part new) (row_in shape part old)) changes))
      (planned_away (table_of part) (table_of other) (row_in shape part) (row_in shape part) (λ old new. equal (row_in shape part new) (row_in shape part old)) changes (numbers_apart (table_of part) (table_of other) (λ same. absurd (omega (arith, above, same))))))
      ∙ still x

  parts_free : (columns : List (List (List ℕ))) (number : ℕ) (earlier : Database) → AllByRecursion IsExactIn (parts_from shape number columns) → AllByRecursion (IsStill earlier) (parts_from shape number columns)
      → ComeFree inserts_into_part earlier (flat_map (part_deeds shape equal changes) (parts_from shape number columns))
  parts_free [] number earlier exact still = tt
  parts_free (names ∷ columns) number earlier exact still =
      let part : IndexPart = record { number = number; places = places_of shape names } in
      free_both inserts_into_part (part_deeds shape equal changes part) (flat_map (part_deeds shape equal changes) (parts_from shape (suc number) columns)) earlier (part_free part exact.0 earlier still.0)
      (parts_free columns (suc number) (behind earlier (part_deeds shape equal changes part)) exact.1
      (all_two (IsStill earlier) (λ (other : IndexPart). number < other.number) (IsStill (behind earlier (part_deeds shape equal changes part))) (λ other was above. still_on earlier part other above was) (parts_from shape (suc number) columns)
      still.1 (numbers_above shape columns number (suc number) (omega arith))))

  pub rows_own : AllByRecursion (λ change. is_own change ≡ true) (row_deeds shape changes)
  rows_own = all_more (λ (change : Planned). change.table ≡ own_table) (λ change. is_own change ≡ true) (row_deeds shape changes) (λ change is. ap (λ (t : TableName). nat_eq t.part 0) is) (deeds_there own_table (key_of shape) itself never changes)

  still_behind : (part : IndexPart) → 0 < part.number → IsStill (behind db (row_deeds shape changes)) part
  still_behind part above x =
      away (table_of part) (map change_of (row_deeds shape changes)) db x
      (subst (λ (list : List Change). AllByRecursion (IsElsewhere (table_of part)) list) (sym (deeds_are own_table (key_of shape) itself never changes))
      (planned_away own_table (table_of part) (key_of shape) itself never changes (numbers_apart own_table (table_of part) (λ same. absurd (omega (arith, above, same))))))

pub index_free : IndexFree
index_free db shape equal changes ready can =
    free_both inserts_into_part (row_deeds shape changes) (index_deeds shape equal changes) db (own_free (row_deeds shape changes) db (rows_own db shape equal changes ready can))
    (parts_free db shape equal changes ready can (index_columns shape) 1 (behind db (row_deeds shape changes)) (parts_exact db shape equal changes ready can)
    (all_more (λ (part : IndexPart). 0 < part.number) (IsStill db shape equal changes ready can (behind db (row_deeds shape changes))) (parts_of shape) (still_behind db shape equal changes ready can) (numbers_above shape (index_columns shape) 0 1 (omega arith))))

pub index_stands : IndexStands
index_stands db shape equal changes ready can = all_stand db shape equal changes ready can (parts_of shape) (parts_exact db shape equal changes ready can)
