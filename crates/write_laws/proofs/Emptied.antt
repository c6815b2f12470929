-- Where all rows of a table go with their index rows, nothing is left in its parts.
use Rattle.std.proofs.Common.{◌≡◌, refl, sym, ap, ◌∙◌, subst, inl, inr, ℕ, zero, suc, Bool, true, false, ◌&&◌, ◌||◌, List, [], ◌∷◌, ◌++◌, map, slice_get, Option, Some, None, IsSome, append-nil, arith}
use Rattle.std.proofs.lemmas.Bool.{and_parts}
use Rattle.std.proofs.lemmas.Grind.{flat_map-append}
use Rattle.std.specs.Cmp.{tied_itself}
use Rattle.std.specs.List.{AllByRecursion, flat_map, list_any}
use Rattle.std.specs.declared.cmp.Ordering.{Ordering}
use Rattle.std.specs.Option.{option_map}
use Rattle.std.specs.Ordering.{is_eq}
use Rattle.value_types.specs.declared.table_name.TableName.{TableName}
use Rattle.value_types.specs.declared.value.Value.{Value}
use Rattle.value_types.specs.OrderLaws.{table_cmp_total}
use Rattle.tsql_tree.specs.declared.definition.TableTree.{TableTree}
use Rattle.step_model.specs.declared.change.Planned.{Planned}
use Rattle.step_model.specs.Database.{Database, is_at}
use Rattle.step_model.specs.Own.{change_of}
use Rattle.index_laws.specs.Deeds.{deeds_by, deeds_erased, deeds_written, erases, rows_gone}
use Rattle.index_laws.specs.Laws.{itself, never}
use Rattle.index_laws.specs.Parts.{Among, OfRow, RowChange, same}
use Rattle.index_laws.specs.Whole.{IndexPart, part_table}
use Rattle.index_laws.proofs.Found.{same_back}
use Rattle.table_rows.specs.Rows.{has_columns, index_columns, index_places, key_of, part_places, places_of, rows_table}
use Rattle.table_rows.proofs.IndexRows.{not_first}
use Rattle.constraint_check.specs.Reads.{is_erase}
use Rattle.constraint_check.proofs.Lists.{all_more}
use Rattle.dml_exec.specs.Filling.{Row}
use Rattle.dml_exec.specs.Planning.{index_deeds, part_deeds, parts_of, row_in}
use Rattle.write_laws.specs.Indexing.{GoneEmptied, IsReady, all_deeds, row_deeds}
use Rattle.write_laws.proofs.Changes.{all_both}
use Rattle.write_laws.proofs.Defined.{one_table}
use Rattle.write_laws.proofs.Indexing.{deeds_there, part_among}
use Rattle.write_laws.proofs.Tables.{all_each, all_flat_of, all_map_of}

-- ---- one of a list

or_true : (b : Bool) → (b || true) ≡ true
or_true true = refl
or_true false = refl

any_one : {A : Type 0} (P : A → Type 0) (p : A → Bool) → ((x : A) → P x → p x ≡ true) → (xs : List A) → Among P xs → list_any p xs ≡ true
any_one P p on [] none = absurd none
any_one P p on (x ∷ xs) (inl here) = ap (λ (b : Bool). b || list_any p xs) (on x here)
any_one P p on (x ∷ xs) (inr later) = ap (λ (b : Bool). p x || b) (any_one P p on xs later) ∙ or_true (p x)

any_left : {A : Type 0} (p : A → Bool) (xs ys : List A) → list_any p xs ≡ true → list_any p (xs ++ ys) ≡ true
any_left p [] ys any = absurd (let no : false ≡ true = any in cc)
any_left p (x ∷ xs) ys any = by_test (p x) any (any_left p xs ys)
  where
    by_test : (b : Bool) → (b || list_any p xs) ≡ true → (list_any p xs ≡ true → list_any p (xs ++ ys) ≡ true) → (b || list_any p (xs ++ ys)) ≡ true
    by_test true any rest = refl
    by_test false any rest = rest any

any_right : {A : Type 0} (p : A → Bool) (xs ys : List A) → list_any p ys ≡ true → list_any p (xs ++ ys) ≡ true
any_right p [] ys any = any
any_right p (x ∷ xs) ys any = ap (λ (b : Bool). p x || b) (any_right p xs ys any) ∙ or_true (p x)

any_mapped : {A B : Type 0} (p : B → Bool) (f : A → B) (xs : List A) → list_any p (map f xs) ≡ list_any (λ x. p (f x)) xs
any_mapped p f [] = refl
any_mapped p f (x ∷ xs) = ap (λ (b : Bool). p (f x) || b) (any_mapped p f xs)

-- ---- rows that go, of one part

module _ (table : TableName) (key_of kept : OfRow) (skips : Row → Row → Bool) where
  gone_erased : (rows : List Row) → flat_map (λ (change : RowChange). deeds_erased table key_of kept skips change.old change.new) (rows_gone rows) ≡ map (erases table key_of kept skips) rows
  gone_erased [] = refl
  gone_erased (row ∷ rows) = ap (λ (l : List Planned). erases table key_of kept skips row ∷ l) (gone_erased rows)

  gone_written : (rows : List Row) → flat_map (λ (change : RowChange). deeds_written table key_of kept skips change.old change.new) (rows_gone rows) ≡ []
  gone_written [] = refl
  gone_written (row ∷ rows) = gone_written rows

  -- they are erased
  gone_deeds : (rows : List Row) → deeds_by table key_of kept skips (rows_gone rows) ≡ map (erases table key_of kept skips) rows
  gone_deeds rows =
      ap (λ (l : List Planned). flat_map (λ (change : RowChange). deeds_erased table key_of kept skips change.old change.new) (rows_gone rows) ++ l) (gone_written rows)
      ∙ append-nil (flat_map (λ (change : RowChange). deeds_erased table key_of kept skips change.old change.new) (rows_gone rows))
      ∙ gone_erased rows

  all_erase : (rows : List Row) → AllByRecursion (λ change. is_erase change.deed ≡ true) (deeds_by table key_of kept skips (rows_gone rows))
  all_erase rows =
      subst (λ (l : List Planned). AllByRecursion (λ change. is_erase change.deed ≡ true) l) (sym (gone_deeds rows))
      (all_map_of (λ (change : Planned). is_erase change.deed ≡ true) (erases table key_of kept skips) rows (λ row. refl))

  -- each at its key
  erased_at : (at : List Value) (rows : List Row) → Among (λ row. same (key_of row) at ≡ true) rows → list_any (λ change. is_at (change_of change) table at) (deeds_by table key_of kept skips (rows_gone rows)) ≡ true
  erased_at at rows among =
      ap (list_any (λ (change : Planned). is_at (change_of change) table at)) (gone_deeds rows)
      ∙ any_mapped (λ (change : Planned). is_at (change_of change) table at) (erases table key_of kept skips) rows
      ∙ any_one (λ (row : Row). same (key_of row) at ≡ true) (λ (row : Row). is_at (change_of (erases table key_of kept skips row)) table at)
      (λ row is. ap (λ (o : Ordering). is_eq o && same (key_of row) at) (tied_itself table_cmp_total table) ∙ is) rows among

-- ---- all parts

among_more : {A : Type 0} (P Q : A → Type 0) → ((x : A) → P x → Q x) → (xs : List A) → Among P xs → Among Q xs
among_more P Q on [] none = none
among_more P Q on (x ∷ xs) (inl here) = inl (on x here)
among_more P Q on (x ∷ xs) (inr later) = inr (among_more P Q on xs later)

module _ (db : Database) (shape : TableTree) (equal : List Value → List Value → Bool) (rows : List Row) (ready : IsReady db shape equal) (whole : (key base : List Value) → db (rows_table shape.name) key ≡ Some base → Among (λ row. row ≡ base) rows) where
  abbrev changes : List RowChange
  changes = rows_gone rows

  abbrev own_table : TableName
  own_table = rows_table shape.name

  abbrev Skips : IndexPart → Row → Row → Bool
  Skips part old new = equal (row_in shape part new) (row_in shape part old)

  abbrev OfObject : Planned → Type 0
  OfObject change = change.table.object ≡ shape.name

  abbrev Erases : Planned → Type 0
  Erases change = is_erase change.deed ≡ true

  of_table : (table : TableName) → table.object ≡ shape.name → (list : List Planned) → AllByRecursion (λ (change : Planned). change.table ≡ table) list → AllByRecursion OfObject list
  of_table table named list all = all_more (λ (change : Planned). change.table ≡ table) OfObject (λ change is. ap (λ (t : TableName). t.object) is ∙ named) list all

  all_of : AllByRecursion OfObject (all_deeds shape equal changes)
  all_of =
      all_both OfObject (row_deeds shape changes) (index_deeds shape equal changes) (of_table own_table refl (row_deeds shape changes) (deeds_there own_table (key_of shape) itself never changes))
      (all_flat_of OfObject (part_deeds shape equal changes) (parts_of shape) (all_each (λ (part : IndexPart). AllByRecursion OfObject (part_deeds shape equal changes part)) (parts_of shape)
      (λ part. of_table (part_table shape.name part.number) refl (part_deeds shape equal changes part) (deeds_there (part_table shape.name part.number) (row_in shape part) (row_in shape part) (Skips part) changes))))

  all_erased : AllByRecursion Erases (all_deeds shape equal changes)
  all_erased =
      all_both Erases (row_deeds shape changes) (index_deeds shape equal changes) (all_erase own_table (key_of shape) itself never rows)
      (all_flat_of Erases (part_deeds shape equal changes) (parts_of shape) (all_each (λ (part : IndexPart). AllByRecursion Erases (part_deeds shape equal changes part)) (parts_of shape)
      (λ part. all_erase (part_table shape.name part.number) (row_in shape part) (row_in shape part) (Skips part) rows)))

  abbrev IsErased : TableName → List Value → Type 0
  IsErased table at = list_any (λ change. is_at (change_of change) table at) (all_deeds shape equal changes) ≡ true

  -- a row is erased at its own key
  row_erased : (at base : List Value) → db own_table at ≡ Some base → IsErased own_table at
  row_erased at base stands =
      any_left (λ (change : Planned). is_at (change_of change) own_table at) (row_deeds shape changes) (index_deeds shape equal changes)
      (erased_at own_table (key_of shape) itself never at rows (among_more (λ (row : Row). row ≡ base) (λ (row : Row). same (key_of shape row) at ≡ true) (λ row is. ap (λ (r : Row). same (key_of shape r) at) is ∙ own) rows (whole at base stands)))
    where
      own : same (key_of shape base) at ≡ true
      own = (and_parts (has_columns shape.columns base) (same (key_of shape base) at) ((ready.firm.kept shape ready.defined).2.fits at base stands)).1

  -- and an index row in its part
  index_erased : (i : ℕ) (names : List (List ℕ)) (at row : List Value) → slice_get (index_columns shape) i ≡ Some names → db (part_table shape.name (suc i)) at ≡ Some row → IsErased (part_table shape.name (suc i)) at
  index_erased i names at row is stands =
      let among = part_among shape (index_columns shape) 1 i (suc i) names (omega arith) is in
      let table : TableName = part_table shape.name (suc i) in
      let part : IndexPart = record { number = suc i; places = places_of shape names } in
      let test : Planned → Bool = λ change. is_at (change_of change) table at in
      let exact = ready.indexed.exact shape (suc i) (index_places shape names) ready.defined (ap (option_map (index_places shape)) is) in
      let there = exact.stands at row stands in
      let found : Among (λ (row : Row). same (row_in shape part row) at ≡ true) rows =
      among_more (λ (row : Row). row ≡ there.1) (λ (row : Row). same (row_in shape part row) at ≡ true) (λ row is. ap (λ (r : Row). same (row_in shape part r) at) is ∙ same_back at (row_in shape part there.1) there.4) rows (whole there.0 there.1 there.2) in
      let deeds : List Planned = flat_map (part_deeds shape equal changes) among.front in
      let mine : list_any test (part_deeds shape equal changes part) ≡ true = erased_at table (row_in shape part) (row_in shape part) (Skips part) at rows found in
      let all : list_any test (index_deeds shape equal changes) ≡ true =
      ap (λ (parts : List IndexPart). list_any test (flat_map (part_deeds shape equal changes) parts)) among.split
      ∙ ap (list_any test) (flat_map-append (part_deeds shape equal changes) among.front (part ∷ among.back))
      ∙ any_right test deeds (part_deeds shape equal changes part ++ flat_map (part_deeds shape equal changes) among.back) (any_left test (part_deeds shape equal changes part) (flat_map (part_deeds shape equal changes) among.back) mine) in
      any_right test (row_deeds shape changes) (index_deeds shape equal changes) all

  by_number : (number : ℕ) (at row : List Value) → db (part_table shape.name number) at ≡ Some row → IsErased (part_table shape.name number) at
  by_number zero at row stands = row_erased at row stands
  by_number (suc i) at row stands =
      let known = ready.indexed.parts (part_table shape.name (suc i)) at row stands (not_first (suc i) (omega arith)) in
      let itself : shape ≡ known.0 = one_table db shape known.0 ready.defined known.1 known.2 in
      by_names (slice_get (index_columns shape) i) refl (subst (λ (of : TableTree). IsSome (part_places of (suc i))) (sym itself) known.3)
    where
      by_names : (o : Option (List (List ℕ))) → slice_get (index_columns shape) i ≡ o → IsSome (option_map (index_places shape) o) → IsErased (part_table shape.name (suc i)) at
      by_names None is some = absurd (let no : false ≡ true = some in cc)
      by_names (Some names) is some = index_erased i names at row is stands

  all_gone : (table : TableName) (at : List Value) → table.object ≡ shape.name → IsSome (db table at) → IsErased table at
  all_gone table at named some = by_row (db table at) refl some
    where
      there : part_table shape.name table.part ≡ table
      there = λ i. record { object = sym named i; part = table.part }

      by_row : (o : Option (List Value)) → db table at ≡ o → IsSome o → IsErased table at
      by_row None is some = absurd (let no : false ≡ true = some in cc)
      by_row (Some row) is some = subst (λ (t : TableName). IsErased t at) there (by_number table.part at row (ap (λ (t : TableName). db t at) there ∙ is))

pub gone_emptied : GoneEmptied
gone_emptied db shape equal rows ready whole = record {
  defined = ready.defined;
  of_parts = all_of db shape equal rows ready whole;
  erases = all_erased db shape equal rows ready whole;
  whole = all_gone db shape equal rows ready whole;
}
