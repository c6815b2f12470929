-- What writes come to, at one key.
use Rattle.std.proofs.Common.{◌≡◌, Bool, true, false, not, if◌then◌else◌, List, [], ◌∷◌, Option, None, Some, is_some, refl, sym, ap, ◌∙◌}
use Rattle.std.specs.List.Sorted.{IsStrictlySortedBy}
use Rattle.value_types.specs.declared.table_name.TableName.{TableName}
use Rattle.value_types.specs.declared.value.Value.{Value}
use Rattle.step_model.specs.declared.change.Change.{Change}
use Rattle.step_model.specs.Database.{Database, is_at, With, with_change}
use Rattle.step_model.specs.Entries.{change_at}
use Rattle.step_model.specs.Net.{change_cmp, last_changes, is_kept, Net}
use Rattle.step_model.specs.Own.{inserts_first, inserts_in, last_at}
use Rattle.history_laws.proofs.Basics.{find_passes, neither}
use Rattle.history_laws.proofs.Changes.{change_tied, none_at}
use Rattle.history_laws.proofs.Databases.{With-none}
use Rattle.history_laws.proofs.OwnChanges.{row_or, first_tied, last_changes_at, Net-at, Net-sorted, With-own}
use Rattle.write_laws.specs.Reading.{NetLeaves}

-- where changes are in order, one at most is at a key
With-at : (db : Database) (changes : List Change) → IsStrictlySortedBy change_cmp changes → (t : TableName) (x : List Value) → With db changes t x ≡ row_or (change_at changes t x) (db t x)
unfolding IsStrictlySortedBy
With-at db [] sorted t x = refl
With-at db (c ∷ changes) sorted t x = by_test (is_at c t x) refl (With-at (with_change db c) changes sorted.1 t x)
  where
    by_test : (b : Bool) → is_at c t x ≡ b → With (with_change db c) changes t x ≡ row_or (change_at changes t x) (with_change db c t x)
        → With (with_change db c) changes t x ≡ row_or (if b then Some c else change_at changes t x) (db t x)
    by_test true is rest = With-none (with_change db c) changes t x (change_tied c changes t x is ∙ none_at c changes sorted.0) ∙ ap (λ (b : Bool). if b then c.row else db t x) is
    by_test false is rest = rest ∙ ap (λ (b : Bool). row_or (change_at changes t x) (if b then c.row else db t x)) is

abbrev kept_of : (Change → Bool) → Option Change → Option Change
kept_of keep None = None
kept_of keep (Some c) = if keep c then Some c else None

no_row : (o : Option (List Value)) → is_some o ≡ false → o ≡ None
no_row None is = refl
no_row (Some row) is = absurd (let no : true ≡ false = is in cc)

pub net_leaves : NetLeaves
net_leaves db own t x fresh =
    With-at db (Net own) (Net-sorted own) t x ∙ ap (λ (o : Option Change). row_or o (db t x)) (Net-at own t x) ∙ by_last (last_at own t x) refl ∙ sym (With-own db own t x)
  where
    by_kept : (c : Change) → last_at own t x ≡ Some c → (b : Bool) → is_kept own c ≡ b → row_or (if b then Some c else None) (db t x) ≡ c.row
    by_kept c last true is = refl
    by_kept c last false is =
        let parts = neither (is_some c.row) (not (inserts_first own c.table c.key)) is in
        let there : is_at c t x ≡ true = find_passes (λ change. is_at change t x) (last_changes own) c (last_changes_at own t x ∙ last) in
        let first : inserts_first own c.table c.key ≡ inserts_first own t x = ap inserts_in (first_tied own c t x there) in
        fresh (sym first ∙ inserted (inserts_first own c.table c.key) parts.1) ∙ sym (no_row c.row parts.0)
      where
        inserted : (b : Bool) → not b ≡ false → b ≡ true
        inserted true is = refl
        inserted false is = absurd (let no : true ≡ false = is in cc)

    by_last : (o : Option Change) → last_at own t x ≡ o → row_or (kept_of (is_kept own) o) (db t x) ≡ row_or o (db t x)
    by_last None last = refl
    by_last (Some c) last = by_kept c last (is_kept own c) refl
