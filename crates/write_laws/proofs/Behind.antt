-- Rows behind changes that are right by themselves fit, where all did.
use Rattle.std.proofs.Common.{◌≡◌, refl, sym, ap, ◌∙◌, subst, inl, inr, Bool, true, false, List, ◌++◌, Some}
use Rattle.std.proofs.lemmas.Bool.{and_from, and_parts}
use Rattle.std.specs.Prelude.{IsTrue}
use Rattle.std.specs.List.{AllByRecursion}
use Rattle.std.specs.Option.{ForSome}
use Rattle.value_types.specs.Units.{same_units}
use Rattle.tsql_tree.specs.declared.definition.TableTree.{TableTree}
use Rattle.bound_tree.specs.declared.expr.BoundTest.{BoundTest}
use Rattle.step_model.specs.declared.change.Deed.{Deed}
use Rattle.step_model.specs.declared.change.Deed.TheVariants.{Erase, Replace, Insert}
use Rattle.step_model.specs.declared.change.Planned.{Planned}
use Rattle.step_model.specs.Database.{Database}
use Rattle.step_model.specs.Own.{row_of}
use Rattle.table_rows.specs.Rows.{has_columns, key_of, row_fits, rows_table, shape_of}
use Rattle.constraint_check.specs.Laws.{behind}
use Rattle.constraint_check.specs.Reads.{is_erase}
use Rattle.constraint_check.proofs.Behind.{elsewhere, name_is, origin, same, same_on}
use Rattle.constraint_check.proofs.Lists.{all_more, all_two, among_both, from_among}
use Rattle.write_laws.specs.Planning.{AreOneEach, AreRight, RowsFit}
use Rattle.write_laws.proofs.Changes.{all_both}

-- the row of a change fits at its key, if there is one
abbrev FitsAt : TableTree → Planned → Type 0
FitsAt shape change = ForSome (row_of change.deed) (λ row. IsTrue (row_fits shape 0 change.key row))

erased_fits : (shape : TableTree) (change : Planned) → is_erase change.deed ≡ true → FitsAt shape change
erased_fits shape change = by_deed change.deed
  where
    by_deed : (deed : Deed) → is_erase deed ≡ true → ForSome (row_of deed) (λ row. IsTrue (row_fits shape 0 change.key row))
    by_deed Erase erases row is = cc
    by_deed (Replace left) erases row is = cc
    by_deed (Insert left) erases row is = cc

module _ (db : Database) (shape : TableTree) (changes : List Planned) (of_table : AllByRecursion (λ change. change.table ≡ rows_table shape.name) changes) (fit : AllByRecursion (FitsAt shape) changes) where
  abbrev after : Database
  after = behind db changes

  -- a row of the table stood before, or is that of a change
  own_fits : RowsFit db shape → RowsFit after shape
  own_fits before key row stands = elim (origin shape.name changes of_table db key row stands) [
    | inl stood ↦ before key row stood
    | inr later ↦ from_among (λ (change : Planned). FitsAt shape change × ((same change.key key ≡ true) × (row_of change.deed ≡ Some row))) (IsTrue (row_fits shape 0 key row)) written changes
        (among_both (FitsAt shape) (λ change. (same change.key key ≡ true) × (row_of change.deed ≡ Some row)) changes fit later)
  ]
    where
      written : (change : Planned) → FitsAt shape change × ((same change.key key ≡ true) × (row_of change.deed ≡ Some row)) → IsTrue (row_fits shape 0 key row)
      written change h =
          let fits = and_parts (has_columns shape.columns row) (same (key_of shape row) change.key) (h.0 row h.1.1) in
          and_from (has_columns shape.columns row) (same (key_of shape row) key) fits.0 (same_on (key_of shape row) change.key key fits.1 h.1.0)

  -- of another table it stood before
  other_fits : (of : TableTree) → same_units shape.name of.name ≡ false → RowsFit db of → RowsFit after of
  other_fits of apart before key row stands = before key row (sym (elsewhere shape.name of.name apart changes of_table db key) ∙ stands)

  module _ (shapes : List TableTree) (known : shape_of (rows_table shape.name) shapes ≡ Some shape) where
    -- the table of its name
    same_shape : (of : TableTree) → shape_of (rows_table of.name) shapes ≡ Some of → same_units shape.name of.name ≡ true → shape ≡ of
    same_shape of named is =
        let both : Some shape ≡ Some of = sym known ∙ ap (λ (n : List _). shape_of (rows_table n) shapes) (name_is shape.name of.name is) ∙ named in
        cc

    fits_of : (of : TableTree) → RowsFit db of → shape_of (rows_table of.name) shapes ≡ Some of → RowsFit after of
    fits_of of before named = by_test (same_units shape.name of.name) refl
      where
        by_test : (b : Bool) → same_units shape.name of.name ≡ b → RowsFit after of
        by_test true is = let itself : shape ≡ of = same_shape of named is in subst (RowsFit after) itself (own_fits (subst (RowsFit db) (sym itself) before))
        by_test false apart = other_fits of apart before

    all_fit : AllByRecursion (RowsFit db) shapes → AreOneEach shapes → AllByRecursion (RowsFit after) shapes
    all_fit before one = all_two (RowsFit db) (λ of. shape_of (rows_table of.name) shapes ≡ Some of) (RowsFit after) fits_of shapes before one

-- the rows of all tables behind changes that are right by themselves
pub fits_behind : (db : Database) (shapes : List TableTree) (shape : TableTree) (checks : List BoundTest) (erased written : List Planned) → AreRight shape checks erased written
    → AllByRecursion (RowsFit db) shapes → AreOneEach shapes → shape_of (rows_table shape.name) shapes ≡ Some shape → AllByRecursion (RowsFit (behind db (erased ++ written))) shapes
fits_behind db shapes shape checks erased written right before one known =
    all_fit db shape (erased ++ written) right.of_table
    (all_both (FitsAt shape) erased written (all_more (λ change. is_erase change.deed ≡ true) (FitsAt shape) (erased_fits shape) erased right.erases) right.fit) shapes known before one
