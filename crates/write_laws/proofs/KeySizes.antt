-- How long the keys of a firm database are.
use Rattle.std.proofs.Common.{◌≡◌, refl, sym, ◌∙◌, ℕ, Bool, true, false, nat_eq, if◌then◌else◌, List, length, filter_map, slice_get, Option, Some, None, IsSome, IsTrue}
use Rattle.std.proofs.lemmas.Bool.{and_parts}
use Rattle.std.proofs.lemmas.List.{length-map}
use Rattle.std.specs.Cmp.{Equal-is}
use Rattle.value_types.specs.declared.value.Value.{Value}
use Rattle.value_types.specs.Order.{key_cmp}
use Rattle.tsql_tree.specs.declared.definition.TableTree.{TableTree}
use Rattle.tsql_tree.specs.Places.{key_places}
use Rattle.bound_tree.specs.Setting.{value_at}
use Rattle.table_rows.specs.Definitions.{object_key, objects_name}
use Rattle.table_rows.specs.Rows.{has_columns, index_fits, key_of, own_fits, part_places, row_fits, rows_table, same_key}
use Rattle.table_rows.proofs.Columns.{index_long}
use Rattle.dml_exec.specs.Reading.{fits, index_width, key_width, places_width}
use Rattle.write_laws.proofs.Keys.{tied_long}
use Rattle.write_laws.specs.Keeping.{KeysSized}

pub same_long : (a b : List Value) → same_key a b ≡ true → length a ≡ length b
same_long a b is = tied_long a b ((Equal-is (key_cmp a b)).0 is)

-- a row that fits stands at a key of so many values
pub fits_long : (shape : TableTree) (key row : List Value) → row_fits shape 0 key row ≡ true → length key ≡ length (key_places (Some shape))
fits_long shape key row fits =
    let own = and_parts (has_columns shape.columns row) (same_key (key_of shape row) key) fits in
    sym (same_long (key_of shape row) key own.1) ∙ length-map (key_places (Some shape)) (value_at row)

-- and one that fits a part at a key of as many values as those of the part have
pub fits_wide : (o : Option TableTree) (part : ℕ) (key row : List Value) → IsTrue (fits o part (key, row)) → length key ≡ key_width o part
fits_wide None part key row fit = absurd (let no : false ≡ true = fit in cc)
fits_wide (Some shape) part key row fit = by_part (nat_eq part 0) refl fit
  where
    by_places : (o : Option (List ℕ)) → part_places shape part ≡ o → IsTrue (index_fits shape o key row) → length key ≡ places_width o
    by_places None is fit = absurd (let no : false ≡ true = fit in cc)
    by_places (Some places) is fit =
        sym (same_long row key (and_parts (has_columns (filter_map (slice_get shape.columns) places) row) (same_key row key) fit).1) ∙ index_long shape part places key row is fit

    by_part : (b : Bool) → nat_eq part 0 ≡ b → IsTrue (if b then own_fits shape key row else index_fits shape (part_places shape part) key row)
        → length key ≡ (if b then length (key_places (Some shape)) else index_width (Some shape) part)
    by_part true is fit = fits_long shape key row fit
    by_part false is fit = by_places (part_places shape part) refl fit

-- what is so of each row is so of a key with one
pub of_row : (P : Type 0) (o : Option (List Value)) → ((row : List Value) → o ≡ Some row → P) → IsSome o → P
of_row P None so some = absurd (let both : false ≡ true = some in cc)
of_row P (Some row) so some = so row refl

pub keys_sized : KeysSized
keys_sized db firm = (
  λ key some. of_row (length key ≡ 1) (db (rows_table objects_name) key) (λ row stands. let one = firm.definitions key row stands in sym (same_long (object_key one.name) key one.at)) some,
  λ shape is key some. of_row (length key ≡ length (key_places (Some shape))) (db (rows_table shape.name) key) (λ row stands. fits_long shape key row ((firm.kept shape is).2.fits key row stands)) some,
)
