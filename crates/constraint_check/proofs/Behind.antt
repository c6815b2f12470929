-- The rows of a database behind changes of one table: where each comes from, and which are gone.
use Rattle.std.proofs.Common.{◌≡◌, refl, sym, ap, ◌∙◌, subst, ◌⊎◌, inl, inr, ℕ, Bool, true, false, ◌&&◌, List, [], ◌∷◌, Option, Some, None, IsSome, is_some, if◌then◌else◌}
use Rattle.std.specs.Cmp.{IsEquivalence, eq_by_cmp_equiv}
use Rattle.std.specs.Cmp.Lexicographic.{bytes_decides, slice_cmp, texts_ties}
use Rattle.std.specs.List.{AllByRecursion}
use Rattle.std.specs.Ordering.{eq_by_cmp, is_eq, nat_cmp}
use Rattle.value_types.specs.Units.{same_units}
use Rattle.value_types.specs.declared.table_name.TableName.{TableName}
use Rattle.value_types.specs.declared.value.Value.{Value}
use Rattle.value_types.specs.Order.{key_cmp, table_cmp}
use Rattle.value_types.specs.OrderLaws.{key_cmp_total}
use Rattle.step_model.specs.declared.change.Change.{Change}
use Rattle.step_model.specs.declared.change.Deed.{Deed}
use Rattle.step_model.specs.declared.change.Deed.TheVariants.{Erase, Replace, Insert}
use Rattle.step_model.specs.declared.change.Planned.{Planned}
use Rattle.step_model.specs.Database.{Database, is_at, with_change}
use Rattle.step_model.specs.Own.{change_of, row_of}
use Rattle.table_rows.specs.Rows.{rows_table}
use Rattle.constraint_check.specs.Reads.{is_erase}
use Rattle.constraint_check.specs.Laws.{KeysAreOne, behind}
use Rattle.constraint_check.proofs.Lists.{Among}
use Rattle.constraint_check.proofs.Spots.{is_eq-then}

-- ---- keys

abbrev pub same : List Value → List Value → Bool
same = eq_by_cmp key_cmp

key_laws : IsEquivalence same
key_laws = eq_by_cmp_equiv key_cmp_total

pub same_itself : (a : List Value) → same a a ≡ true
same_itself a = key_laws.refl a

pub same_back : (a b : List Value) → same a b ≡ true → same b a ≡ true
same_back a b h = key_laws.symm b a ∙ h

pub same_on : (a b c : List Value) → same a b ≡ true → same b c ≡ true → same a c ≡ true
same_on a b c h g = key_laws.congr a b c h ∙ g

-- ---- names

and_true : (b : Bool) → (b && true) ≡ b
and_true true = refl
and_true false = refl

table_is : (a b : List ℕ) → is_eq (table_cmp (rows_table a) (rows_table b)) ≡ same_units a b
table_is a b = is_eq-then (slice_cmp nat_cmp a b) (nat_cmp 0 0) ∙ and_true (is_eq (slice_cmp nat_cmp a b)) ∙ sym (texts_ties a b)

pub name_is : (a b : List ℕ) → same_units a b ≡ true → a ≡ b
name_is a b = (bytes_decides a b).0

pub name_itself : (a : List ℕ) → same_units a a ≡ true
name_itself a = (bytes_decides a a).1 refl

-- ---- changes of one table

module _ (name : List ℕ) where
  abbrev pub OfTable : List Planned → Type 0
  OfTable changes = AllByRecursion (λ change. change.table ≡ rows_table name) changes

  pub at_is : (change : Planned) (key : List Value) → change.table ≡ rows_table name → is_at (change_of change) (rows_table name) key ≡ same change.key key
  at_is change key is =
      ap (λ (t : TableName). is_eq (table_cmp t (rows_table name)) && same change.key key) is
      ∙ ap (λ (b : Bool). b && same change.key key) (table_is name name ∙ name_itself name)

  not_at : (change : Planned) (other : List ℕ) (key : List Value) → change.table ≡ rows_table name → same_units name other ≡ false → is_at (change_of change) (rows_table other) key ≡ false
  not_at change other key is apart =
      ap (λ (t : TableName). is_eq (table_cmp t (rows_table other)) && same change.key key) is
      ∙ ap (λ (b : Bool). b && same change.key key) (table_is name other ∙ apart)

  -- one change more
  here : (db : Database) (change : Planned) (key : List Value) → change.table ≡ rows_table name
      → with_change db (change_of change) (rows_table name) key ≡ (if same change.key key then row_of change.deed else db (rows_table name) key)
  here db change key is = ap (λ (b : Bool). if b then row_of change.deed else db (rows_table name) key) (at_is change key is)

  -- other tables stay
  pub elsewhere : (other : List ℕ) → same_units name other ≡ false → (changes : List Planned) → OfTable changes → (db : Database) (key : List Value) → behind db changes (rows_table other) key ≡ db (rows_table other) key
  elsewhere other apart [] of db key = refl
  elsewhere other apart (change ∷ changes) of db key =
      elsewhere other apart changes of.1 (with_change db (change_of change)) key
      ∙ ap (λ (b : Bool). if b then row_of change.deed else db (rows_table other) key) (not_at change other key of.0 apart)

  -- a row that stands stood before, or is that of a change
  pub origin : (changes : List Planned) → OfTable changes → (db : Database) (key row : List Value) → behind db changes (rows_table name) key ≡ Some row
      → (db (rows_table name) key ≡ Some row) ⊎ Among (λ change. (same change.key key ≡ true) × (row_of change.deed ≡ Some row)) changes
  origin [] of db key row is = inl is
  origin (change ∷ changes) of db key row is = elim (origin changes of.1 (with_change db (change_of change)) key row is) [
    | inl before ↦ by_test (same change.key key) refl (sym (here db change key of.0) ∙ before)
    | inr later ↦ inr (inr later)
  ]
    where
      by_test : (b : Bool) → same change.key key ≡ b → (if b then row_of change.deed else db (rows_table name) key) ≡ Some row
          → (db (rows_table name) key ≡ Some row) ⊎ Among (λ change. (same change.key key ≡ true) × (row_of change.deed ≡ Some row)) (change ∷ changes)
      by_test true at is = inr (inl (at, is))
      by_test false apart is = inl is

  written_is : (deed : Deed) → is_erase deed ≡ false → IsSome (row_of deed)
  written_is Erase h = absurd (let both : true ≡ false = h in cc)
  written_is (Replace row) h = refl
  written_is (Insert row) h = refl

  abbrev pub Writes : List Planned → Type 0
  Writes changes = AllByRecursion (λ change. is_erase change.deed ≡ false) changes

  -- what is written takes no row away
  pub stays : (changes : List Planned) → OfTable changes → Writes changes → (db : Database) (key : List Value) → IsSome (db (rows_table name) key) → IsSome (behind db changes (rows_table name) key)
  stays [] of writes db key some = some
  stays (change ∷ changes) of writes db key some =
      stays changes of.1 writes.1 (with_change db (change_of change)) key (subst (λ (o : Option (List Value)). IsSome o) (sym (here db change key of.0)) (by_test (same change.key key)))
    where
      by_test : (b : Bool) → IsSome (if b then row_of change.deed else db (rows_table name) key)
      by_test true = written_is change.deed writes.0
      by_test false = some

  -- and where something is written a row stands
  pub written_stands : (changes : List Planned) → OfTable changes → Writes changes → (db : Database) (key : List Value) → Among (λ change. same change.key key ≡ true) changes → IsSome (behind db changes (rows_table name) key)
  written_stands [] of writes db key none = absurd none
  written_stands (change ∷ changes) of writes db key (inl at) =
      stays changes of.1 writes.1 (with_change db (change_of change)) key
      (subst (λ (o : Option (List Value)). IsSome o) (sym (here db change key of.0)) (subst (λ (b : Bool). IsSome (if b then row_of change.deed else db (rows_table name) key)) (sym at) (written_is change.deed writes.0)))
  written_stands (change ∷ changes) of writes db key (inr later) = written_stands changes of.1 writes.1 (with_change db (change_of change)) key later

  -- a row that stood and stands no more was erased
  pub erased_at : (changes : List Planned) → OfTable changes → (db : Database) (key : List Value) → IsSome (db (rows_table name) key) → behind db changes (rows_table name) key ≡ None → Among (λ change. same change.key key ≡ true) changes
  erased_at [] of db key some none = absurd (let both : false ≡ true = sym (ap is_some none) ∙ some in cc)
  erased_at (change ∷ changes) of db key some none = by_test (same change.key key) refl (erased_at changes of.1 (with_change db (change_of change)) key)
    where
      by_test : (b : Bool) → same change.key key ≡ b → (IsSome (with_change db (change_of change) (rows_table name) key) → behind (with_change db (change_of change)) changes (rows_table name) key ≡ None → Among (λ change. same change.key key ≡ true) changes)
          → Among (λ change. same change.key key ≡ true) (change ∷ changes)
      by_test true at rest = inl at
      by_test false apart rest =
          let still : with_change db (change_of change) (rows_table name) key ≡ db (rows_table name) key = here db change key of.0 ∙ ap (λ (b : Bool). if b then row_of change.deed else db (rows_table name) key) apart in
          inr (rest (subst (λ (o : Option (List Value)). IsSome o) (sym still) some) none)

-- ---- keys stay one

pub one_with : (db : Database) → KeysAreOne db → (change : Change) → KeysAreOne (with_change db change)
one_with db one change table key other is =
    let at : same change.key key ≡ same change.key other = key_laws.symm change.key key ∙ key_laws.congr key other change.key is ∙ key_laws.symm other change.key in
    λ i. if is_eq (table_cmp change.table table) && at i then change.row else one table key other is i

pub one_behind : (changes : List Planned) (db : Database) → KeysAreOne db → KeysAreOne (behind db changes)
one_behind [] db one = one
one_behind (change ∷ changes) db one = one_behind changes (with_change db (change_of change)) (one_with db one (change_of change))
