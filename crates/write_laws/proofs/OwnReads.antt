-- What checks say of changes they say of those of own rows.
use Rattle.std.proofs.Common.{◌≡◌, refl, sym, ap, ◌∙◌, Bool, true, false, not, ◌&&◌, ◌||◌, nat_eq, if◌then◌else◌, cond, List, [], ◌∷◌, ◌++◌, Option, None, Some}
use Rattle.std.specs.List.{flat_map, list_any}
use Rattle.value_types.specs.Units.{same_units}
use Rattle.value_types.specs.declared.table_name.TableName.{TableName}
use Rattle.value_types.specs.declared.value.Value.{Value}
use Rattle.tsql_tree.specs.declared.definition.TableTree.{TableTree}
use Rattle.step_model.specs.declared.change.Planned.{Planned}
use Rattle.step_model.specs.Database.{is_at}
use Rattle.step_model.specs.Own.{change_of, is_insert, is_own, own_changes, row_of}
use Rattle.constraint_check.specs.declared.check_read.CheckRead.{CheckRead}
use Rattle.table_rows.specs.Rows.{shape_of}
use Rattle.constraint_check.specs.Meant.{key_meant, parents_meant, reads_meant, uniques_meant}
use Rattle.constraint_check.specs.Reads.{child_reads, is_again, is_erase, is_gone, of_both, of_row}
use Rattle.constraint_check.proofs.Behind.{same}
use Rattle.write_laws.proofs.Indexed.{parts_apart}

-- ---- lists

-- what is nothing of others is made of own changes alone
flat_own : (f : Planned → List CheckRead) → ((change : Planned) → is_own change ≡ false → f change ≡ []) → (changes : List Planned) → flat_map f (own_changes changes) ≡ flat_map f changes
flat_own f none [] = refl
flat_own f none (change ∷ changes) = by_test (is_own change) refl (flat_own f none changes)
  where
    by_test : (b : Bool) → is_own change ≡ b → flat_map f (own_changes changes) ≡ flat_map f changes → flat_map f (cond b (change ∷ own_changes changes) (own_changes changes)) ≡ f change ++ flat_map f changes
    by_test true is rest = ap (λ (list : List CheckRead). f change ++ list) rest
    by_test false is rest = rest ∙ ap (λ (list : List CheckRead). list ++ flat_map f changes) (sym (none change is))

flat_alike : (f g : Planned → List CheckRead) → ((change : Planned) → f change ≡ g change) → (changes : List Planned) → flat_map f changes ≡ flat_map g changes
flat_alike f g alike [] = refl
flat_alike f g alike (change ∷ changes) = ap (λ (list : List CheckRead). list ++ flat_map f changes) (alike change) ∙ ap (λ (list : List CheckRead). g change ++ list) (flat_alike f g alike changes)

any_own : (test : Planned → Bool) → ((change : Planned) → is_own change ≡ false → test change ≡ false) → (changes : List Planned) → list_any test (own_changes changes) ≡ list_any test changes
any_own test none [] = refl
any_own test none (change ∷ changes) = by_test (is_own change) refl (any_own test none changes)
  where
    by_test : (b : Bool) → is_own change ≡ b → list_any test (own_changes changes) ≡ list_any test changes → list_any test (cond b (change ∷ own_changes changes) (own_changes changes)) ≡ (test change || list_any test changes)
    by_test true is rest = ap (λ (b : Bool). test change || b) rest
    by_test false is rest = rest ∙ ap (λ (b : Bool). b || list_any test changes) (sym (none change is))

-- ---- rows that are written

no_shape : (table : TableName) (shapes : List TableTree) → nat_eq table.part 0 ≡ false → shape_of table shapes ≡ None
no_shape table [] other = refl
no_shape table (shape ∷ rest) other = ap (λ (b : Bool). if b && same_units table.object shape.name then Some shape else shape_of table rest) other ∙ no_shape table rest other

module _ (shapes : List TableTree) where
  no_row : (reads : TableTree → List Value → List CheckRead) (change : Planned) → is_own change ≡ false → of_row reads shapes change ≡ []
  no_row reads change other = ap (λ (o : Option TableTree). of_both reads o (row_of change.deed)) (no_shape change.table shapes other)

  -- ---- keys that are gone

  no_key : (changes : List Planned) (change : Planned) → is_own change ≡ false → key_meant shapes changes change ≡ []
  no_key changes change other = ap (λ (b : Bool). if b && (is_erase change.deed && not (is_again changes change)) then parents_meant shapes change.table change.key else []) other

  again_same : (changes : List Planned) (change : Planned) → is_own change ≡ true → is_again (own_changes changes) change ≡ is_again changes change
  again_same changes change own = any_own (λ other. is_insert other.deed && is_at (change_of other) change.table change.key) elsewhere changes
    where
      by_insert : (insert : Bool) → (insert && false) ≡ false
      by_insert true = refl
      by_insert false = refl

      elsewhere : (other : Planned) → is_own other ≡ false → (is_insert other.deed && is_at (change_of other) change.table change.key) ≡ false
      elsewhere other is =
          ap (λ (b : Bool). is_insert other.deed && (b && same other.key change.key)) (parts_apart other.table change.table false is own) ∙ by_insert (is_insert other.deed)

  gone_same : (changes : List Planned) (change : Planned) → is_gone (own_changes changes) change ≡ is_gone changes change
  gone_same changes change = by_test (is_own change) refl
    where
      by_test : (b : Bool) → is_own change ≡ b → (b && (is_erase change.deed && not (is_again (own_changes changes) change))) ≡ (b && (is_erase change.deed && not (is_again changes change)))
      by_test true own = ap (λ (again : Bool). is_erase change.deed && not again) (again_same changes change own)
      by_test false other = refl

  key_same : (changes : List Planned) (change : Planned) → key_meant shapes (own_changes changes) change ≡ key_meant shapes changes change
  key_same changes change = ap (λ (b : Bool). if b then parents_meant shapes change.table change.key else []) (gone_same changes change)

  -- ---- all

  pub reads_same : (changes : List Planned) → reads_meant (own_changes changes) shapes ≡ reads_meant changes shapes
  reads_same changes =
      let own : List Planned = own_changes changes in
      let uniques : List CheckRead = flat_map (of_row uniques_meant shapes) changes in
      let children : List CheckRead = flat_map (of_row (child_reads shapes) shapes) changes in
      ap (λ (list : List CheckRead). list ++ (flat_map (of_row (child_reads shapes) shapes) own ++ flat_map (key_meant shapes own) own)) (flat_own (of_row uniques_meant shapes) (no_row uniques_meant) changes)
      ∙ ap (λ (list : List CheckRead). uniques ++ (list ++ flat_map (key_meant shapes own) own)) (flat_own (of_row (child_reads shapes) shapes) (no_row (child_reads shapes)) changes)
      ∙ ap (λ (list : List CheckRead). uniques ++ (children ++ list)) (flat_alike (key_meant shapes own) (key_meant shapes changes) (key_same changes) own ∙ flat_own (key_meant shapes changes) (no_key changes) changes)
