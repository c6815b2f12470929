-- The changes of index parts: part by part, and in each by the rows as they were and as they are to be.
use Rattle.std.proofs.Common.{◌≡◌, refl, sym, ap, ◌∙◌, subst, ℕ, zero, suc, ◌+◌, ◌≤◌, nat_le, Bool, true, false, ◌&&◌, List, [], ◌∷◌, ◌++◌, map, drop, zip, slice_get, Some, None, Result, Ok, Err, append-nil, append_assoc, length, arith}
use Rattle.std.proofs.lemmas.Bool.{and_parts, leb-true}
use Rattle.std.specs.List.{flat_map, list_all}
use Rattle.std.specs.Prelude.{IfOk}
use Rattle.value_types.specs.declared.table_name.TableName.{TableName}
use Rattle.value_types.specs.Order.{key_limit}
use Rattle.tsql_tree.specs.declared.definition.TableTree.{TableTree}
use Rattle.tsql_tree.specs.Places.{key_places}
use Rattle.step_model.specs.declared.change.Planned.{Planned}
use Rattle.index_laws.specs.Deeds.{rows_added, rows_gone, rows_set}
use Rattle.index_laws.specs.Parts.{RowChange}
use Rattle.index_laws.specs.Whole.{IndexPart}
use Rattle.table_rows.specs.Rows.{index_columns, index_places, places_of}
use Rattle.dml_exec.specs.declared.rewritten.Rewritten.{Rewritten}
use Rattle.dml_exec.specs.declared.rewritten.Rewritten.TheVariants.{Inserted, Set, Erased}
use Rattle.dml_exec.specs.Filling.{Row}
use Rattle.dml_exec.specs.Indexes.{deeds_of, erased_of, rewritten_of, written_of}
use Rattle.dml_exec.specs.Planning.{erasure, has_key, has_keys, index_deeds, is_same_row, moved, part_deeds, parts_from, row_changes_of}

-- ---- a list from a place on

pub from_here : {A : Type 0} (xs : List A) (i : ℕ) (x : A) → slice_get xs i ≡ Some x → drop i xs ≡ x ∷ drop (suc i) xs
from_here [] i x is = absurd (let no : None ≡ Some x = is in cc)
from_here {A} (y ∷ xs) zero x is = let same : y ≡ x = cc in ap (λ (z : A). z ∷ xs) same
from_here (y ∷ xs) (suc i) x is = from_here xs i x is

pub none_here : {A : Type 0} (xs : List A) (i : ℕ) → slice_get xs i ≡ None → drop i xs ≡ []
none_here [] zero is = refl
none_here [] (suc i) is = refl
none_here (y ∷ xs) zero is = absurd (let no : Some y ≡ None = is in cc)
none_here (y ∷ xs) (suc i) is = none_here xs i is

one_more : (n : ℕ) → n + 1 ≡ suc n
one_more n = omega arith

-- ---- keys

-- they are of some values, and of no more than a key has
pub key_bounds : (places : List ℕ) → has_key places ≡ true → (1 ≤ length places) × (length places ≤ key_limit)
key_bounds places keyed =
    let both = and_parts (nat_le 1 (length places)) (nat_le (length places) key_limit) keyed in
    (leb-true 1 (length places) both.0, leb-true (length places) key_limit both.1)

module _ (shape : TableTree) where
  abbrev IsKey : List (List ℕ) → Bool
  IsKey names = has_key (index_places shape names)

  abbrev columns : List (List (List ℕ))
  columns = index_columns shape

  module _ (place : ℕ) (left : list_all IsKey (drop place columns) ≡ list_all IsKey columns) where
    pub keys_end : slice_get columns place ≡ None → true ≡ list_all IsKey columns
    keys_end none = sym (ap (list_all IsKey) (none_here columns place none)) ∙ left

    module _ (names : List (List ℕ)) (is : slice_get columns place ≡ Some names) where
      from_names : list_all IsKey (drop place columns) ≡ (IsKey names && list_all IsKey (drop (suc place) columns))
      from_names = ap (list_all IsKey) (from_here columns place names is)

      pub keys_next : IsKey names ≡ true → list_all IsKey (drop (place + 1) columns) ≡ list_all IsKey columns
      keys_next keyed =
          ap (λ (n : ℕ). list_all IsKey (drop n columns)) (one_more place)
          ∙ sym (from_names ∙ ap (λ (b : Bool). b && list_all IsKey (drop (suc place) columns)) keyed) ∙ left

      pub keys_fail : IsKey names ≡ false → false ≡ list_all IsKey columns
      keys_fail keyless = sym (from_names ∙ ap (λ (b : Bool). b && list_all IsKey (drop (suc place) columns)) keyless) ∙ left

  -- those of each part are some where all are
  all_at : (list : List (List (List ℕ))) (place : ℕ) (names : List (List ℕ)) → list_all IsKey list ≡ true → slice_get list place ≡ Some names → IsKey names ≡ true
  all_at [] place names all is = absurd (let no : None ≡ Some names = is in cc)
  all_at (first ∷ rest) zero names all is = let same : first ≡ names = cc in subst (λ (of : List (List ℕ)). IsKey of ≡ true) same (and_parts (IsKey first) (list_all IsKey rest) all).0
  all_at (first ∷ rest) (suc place) names all is = all_at rest place names (and_parts (IsKey first) (list_all IsKey rest) all).1 is

  pub own_keyed : has_keys shape ≡ true → has_key (key_places (Some shape)) ≡ true
  own_keyed keyed = (and_parts (has_key (key_places (Some shape))) (list_all IsKey columns) keyed).0

  pub part_keyed : (place : ℕ) (names : List (List ℕ)) → has_keys shape ≡ true → slice_get columns place ≡ Some names → has_key (index_places shape names) ≡ true
  part_keyed place names keyed is = all_at columns place names (and_parts (has_key (key_places (Some shape))) (list_all IsKey columns) keyed).1 is

-- ---- one part

module _ (table : TableName) (places : List ℕ) where
  added_erases : (rows : List Row) → flat_map (erased_of table places) (rows_added rows) ≡ []
  added_erases [] = refl
  added_erases (row ∷ rows) = added_erases rows

  pub added_deeds : (rows : List Row) → flat_map (written_of table places) (rows_added rows) ≡ deeds_of table places (rows_added rows)
  added_deeds rows = ap (λ (list : List Planned). list ++ flat_map (written_of table places) (rows_added rows)) (sym (added_erases rows))

  abbrev Pair : Type 0
  Pair = Row × Row

  abbrev as_change : Pair → RowChange
  as_change pair = record { old = Some pair.0; new = Some pair.1 }

  set_erases : (pairs : List Pair) → flat_map (moved table places) pairs ≡ flat_map (erased_of table places) (map as_change pairs)
  set_erases [] = refl
  set_erases (pair ∷ pairs) = ap (λ (list : List Planned). moved table places pair ++ list) (set_erases pairs)

  set_writes : (pairs : List Pair) → flat_map (rewritten_of table places) pairs ≡ flat_map (written_of table places) (map as_change pairs)
  set_writes [] = refl
  set_writes (pair ∷ pairs) = ap (λ (list : List Planned). rewritten_of table places pair ++ list) (set_writes pairs)

  pub set_deeds : (olds news : List Row) → flat_map (moved table places) (zip olds news) ++ flat_map (rewritten_of table places) (zip olds news) ≡ deeds_of table places (rows_set olds news)
  set_deeds olds news =
      ap (λ (list : List Planned). list ++ flat_map (rewritten_of table places) (zip olds news)) (set_erases (zip olds news))
      ∙ ap (λ (list : List Planned). flat_map (erased_of table places) (map as_change (zip olds news)) ++ list) (set_writes (zip olds news))

  gone_erases : (rows : List Row) → map (erasure table places) rows ≡ flat_map (erased_of table places) (rows_gone rows)
  gone_erases [] = refl
  gone_erases (row ∷ rows) = ap (λ (list : List Planned). erasure table places row ∷ list) (gone_erases rows)

  gone_writes : (rows : List Row) → flat_map (written_of table places) (rows_gone rows) ≡ []
  gone_writes [] = refl
  gone_writes (row ∷ rows) = gone_writes rows

  pub gone_deeds : (rows : List Row) → map (erasure table places) rows ≡ deeds_of table places (rows_gone rows)
  gone_deeds rows =
      gone_erases rows
      ∙ sym (append-nil (flat_map (erased_of table places) (rows_gone rows)))
      ∙ ap (λ (list : List Planned). flat_map (erased_of table places) (rows_gone rows) ++ list) (sym (gone_writes rows))

-- where it did not fail more is so
pub if_more : {A E : Type 0} {P Q : A → Type 0} (result : Result A E) → ((x : A) → P x → Q x) → IfOk result P → IfOk result Q
if_more (Ok x) more is = more x is
if_more (Err e) more is = tt

-- changes behind others, by how rows are rewritten
module _ (table : TableName) (places : List ℕ) where
  pub added_all : (added : List Row) (rows : Rewritten) (old new : List Planned) → rows ≡ Inserted added → new ≡ old ++ flat_map (written_of table places) (rows_added added) → new ≡ old ++ deeds_of table places (row_changes_of rows)
  added_all added rows old new is all =
      all ∙ ap (λ (list : List Planned). old ++ list) (added_deeds table places added) ∙ ap (λ (of : Rewritten). old ++ deeds_of table places (row_changes_of of)) (sym is)

  pub set_all : (olds news : List Row) (rows : Rewritten) (old erased mid new : List Planned) → rows ≡ Set olds news → erased ≡ flat_map (moved table places) (zip olds news) → mid ≡ old ++ erased
      → new ≡ mid ++ flat_map (rewritten_of table places) (zip olds news) → new ≡ old ++ deeds_of table places (row_changes_of rows)
  set_all olds news rows old erased mid new is gone behind all =
      let writes : List Planned = flat_map (rewritten_of table places) (zip olds news) in
      all
      ∙ ap (λ (list : List Planned). list ++ writes) (behind ∙ ap (λ (list : List Planned). old ++ list) gone)
      ∙ append_assoc old (flat_map (moved table places) (zip olds news)) writes
      ∙ ap (λ (list : List Planned). old ++ list) (set_deeds table places olds news)
      ∙ ap (λ (of : Rewritten). old ++ deeds_of table places (row_changes_of of)) (sym is)

  pub gone_all : (gone : List Row) (rows : Rewritten) (old new : List Planned) → rows ≡ Erased gone → new ≡ old ++ map (erasure table places) gone → new ≡ old ++ deeds_of table places (row_changes_of rows)
  gone_all gone rows old new is all =
      all ∙ ap (λ (list : List Planned). old ++ list) (gone_deeds table places gone) ∙ ap (λ (of : Rewritten). old ++ deeds_of table places (row_changes_of of)) (sym is)

-- ---- part by part

module _ (shape : TableTree) (changes : List RowChange) (place : ℕ) (done : List Planned) where
  abbrev deeds : IndexPart → List Planned
  deeds = part_deeds shape is_same_row changes

  abbrev left : List IndexPart
  left = parts_from shape (suc place) (drop place (index_columns shape))

  module _ (so_far : done ++ flat_map deeds left ≡ index_deeds shape is_same_row changes) where
    pub parts_end : slice_get (index_columns shape) place ≡ None → done ≡ index_deeds shape is_same_row changes
    parts_end none =
        sym (append-nil done)
        ∙ ap (λ (list : List (List (List ℕ))). done ++ flat_map deeds (parts_from shape (suc place) list)) (sym (none_here (index_columns shape) place none))
        ∙ so_far

    pub parts_next : (names : List (List ℕ)) (table : TableName) (places : List ℕ) (more : List Planned) → slice_get (index_columns shape) place ≡ Some names → table ≡ record { object = shape.name; part = place + 1 } → places ≡ index_places shape names
        → more ≡ done ++ deeds_of table places changes → more ++ flat_map deeds (parts_from shape (suc (place + 1)) (drop (place + 1) (index_columns shape))) ≡ index_deeds shape is_same_row changes
    parts_next names table places more is named are new =
        let part : IndexPart = record { number = suc place; places = places_of shape names } in
        let rest : List IndexPart = parts_from shape (suc (suc place)) (drop (suc place) (index_columns shape)) in
        let table_is : table ≡ record { object = shape.name; part = suc place } = named ∙ ap (λ (n : ℕ). record { object = shape.name; part = n }) (one_more place) in
        ap (λ (n : ℕ). more ++ flat_map deeds (parts_from shape (suc n) (drop n (index_columns shape)))) (one_more place)
        ∙ ap (λ (list : List Planned). list ++ flat_map deeds rest) (new ∙ ap (λ (t : TableName). done ++ deeds_of t places changes) table_is ∙ ap (λ (at : List ℕ). done ++ deeds_of (record { object = shape.name; part = suc place }) at changes) are)
        ∙ append_assoc done (deeds part) (flat_map deeds rest)
        ∙ ap (λ (list : List (List (List ℕ))). done ++ flat_map deeds (parts_from shape (suc place) list)) (sym (from_here (index_columns shape) place names is))
        ∙ so_far
