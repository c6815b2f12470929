-- Changes of one table leave the others as they are; and what a table keeps is told by its own rows and those that it
-- refers to.
use Rattle.std.proofs.Common.{◌≡◌, refl, sym, ap, ◌∙◌, subst, ℕ, Bool, true, false, ◌&&◌, List, [], ◌∷◌, Option, IsSome, if◌then◌else◌}
use Rattle.std.proofs.lemmas.Bool.{and_parts}
use Rattle.std.proofs.lemmas.Cmp.{ranked}
use Rattle.std.specs.declared.cmp.Ordering.TheVariants.{Equal}
use Rattle.std.specs.Cmp.{Equal-is}
use Rattle.std.specs.Cmp.Lexicographic.{bytes_decides, slice_cmp, texts_ties}
use Rattle.std.specs.List.{AllByRecursion}
use Rattle.std.specs.Ordering.{is_eq, nat_cmp}
use Rattle.value_types.specs.Units.{same_units}
use Rattle.value_types.specs.declared.table_name.TableName.{TableName}
use Rattle.value_types.specs.declared.value.Value.{Value}
use Rattle.value_types.specs.Order.{table_cmp}
use Rattle.tsql_tree.specs.declared.definition.ForeignTree.{ForeignTree}
use Rattle.tsql_tree.specs.declared.definition.KeyTree.{KeyTree}
use Rattle.tsql_tree.specs.declared.definition.TableTree.{TableTree}
use Rattle.bound_tree.specs.declared.expr.BoundTest.{BoundTest}
use Rattle.step_model.specs.declared.change.Planned.{Planned}
use Rattle.step_model.specs.Database.{Database, with_change}
use Rattle.step_model.specs.Own.{change_of, row_of}
use Rattle.constraint_check.specs.Integrity.{HasParents, IsKept, IsUnique, Stands}
use Rattle.constraint_check.specs.Laws.{behind}
use Rattle.table_rows.specs.Rows.{rows_table}
use Rattle.constraint_check.proofs.Behind.{same}
use Rattle.constraint_check.proofs.Lists.{all_more, all_two}
use Rattle.constraint_check.proofs.Spots.{is_eq-then}

-- ---- tables

abbrev pub is_table : List ℕ → TableName → Bool
is_table name table = is_eq (table_cmp (rows_table name) table)

-- tables compare equal by their names and parts
equal_parts : (table other : TableName) → is_eq (table_cmp table other) ≡ (same_units table.object other.object && is_eq (nat_cmp table.part other.part))
equal_parts table other = is_eq-then (slice_cmp nat_cmp table.object other.object) (nat_cmp table.part other.part) ∙ ap (λ (b : Bool). b && is_eq (nat_cmp table.part other.part)) (sym (texts_ties table.object other.object))

table_parts : (name : List ℕ) (table : TableName) → is_table name table ≡ (same_units name table.object && is_eq (nat_cmp 0 table.part))
table_parts name table = equal_parts (rows_table name) table

-- parts of another name are other ones
pub objects_apart : (table other : TableName) → same_units table.object other.object ≡ false → is_eq (table_cmp table other) ≡ false
objects_apart table other apart = equal_parts table other ∙ ap (λ (b : Bool). b && is_eq (nat_cmp table.part other.part)) apart

pub one_number : (a b : ℕ) → is_eq (nat_cmp a b) ≡ true → a ≡ b
one_number a b is = ranked a b Equal (sym ((Equal-is (nat_cmp a b)).0 is))

first_part : (part : ℕ) → is_eq (nat_cmp 0 part) ≡ true → part ≡ 0
first_part part is = sym (one_number 0 part is)

-- tables that compare equal are of one part
pub parts_equal : (table other : TableName) → is_eq (table_cmp table other) ≡ true → table.part ≡ other.part
parts_equal table other is =
    one_number table.part other.part (and_parts (same_units table.object other.object) (is_eq (nat_cmp table.part other.part)) (sym (equal_parts table other) ∙ is)).1

named_by : (object : List ℕ) (part : ℕ) (name : List ℕ) → object ≡ name → part ≡ 0 → (record { object = object; part = part }) ≡ rows_table name
named_by object part name same whole = ap (λ (n : ℕ). record { object = object; part = n }) whole ∙ ap rows_table same

pub table_is : (name : List ℕ) (table : TableName) → is_table name table ≡ true → table ≡ rows_table name
table_is name table is =
    let parts = and_parts (same_units name table.object) (is_eq (nat_cmp 0 table.part)) (sym (table_parts name table) ∙ is) in
    named_by table.object table.part name (sym ((bytes_decides name table.object).0 parts.0)) (first_part table.part parts.1)

pub tables_apart : (name other : List ℕ) → same_units name other ≡ false → is_table name (rows_table other) ≡ false
tables_apart name other apart = table_parts name (rows_table other) ∙ ap (λ (b : Bool). b && true) apart

pub table_itself : (name : List ℕ) → is_table name (rows_table name) ≡ true
table_itself name = table_parts name (rows_table name) ∙ ap (λ (b : Bool). b && true) ((bytes_decides name name).1 refl)

pub table_name : (a b : List ℕ) → rows_table a ≡ rows_table b → a ≡ b
table_name a b same = ap (λ (table : TableName). table.object) same

-- ---- changes of one table

-- another table stays
pub untouched : (name : List ℕ) (table : TableName) → is_table name table ≡ false → (changes : List Planned) → AllByRecursion (λ change. change.table ≡ rows_table name) changes
    → (db : Database) (key : List Value) → behind db changes table key ≡ db table key
untouched name table apart [] of db key = refl
untouched name table apart (change ∷ changes) of db key =
    untouched name table apart changes of.1 (with_change db (change_of change)) key
    ∙ ap (λ (b : Bool). if b && same change.key key then row_of change.deed else db table key) (ap (λ (t : TableName). is_eq (table_cmp t table)) of.0 ∙ apart)

-- ---- what a table keeps

module _ (db other : Database) where
  -- the table's rows are the same in both
  abbrev pub SameRows : List ℕ → Type 0
  SameRows name = (key : List Value) → other (rows_table name) key ≡ db (rows_table name) key

  module _ (shape : TableTree) (tests : List BoundTest) (own : SameRows shape.name) where
    back : (key row : List Value) → Stands other shape key row → Stands db shape key row
    back key row stands = sym (own key) ∙ stands

    unique_too : (unique : KeyTree) → IsUnique db shape unique → IsUnique other shape unique
    unique_too unique is key and_key row and_row a b agree = is key and_key row and_row (back key row a) (back and_key and_row b) agree

    parents_too : (foreign : ForeignTree) → HasParents db shape foreign → SameRows foreign.parent → HasParents other shape foreign
    parents_too foreign has parent key row stands given = subst (λ (o : Option (List Value)). IsSome o) (sym (parent _)) (has key row (back key row stands) given)

    -- it keeps the same, if those that it refers to have the same rows, too
    pub kept_too : AllByRecursion (λ foreign. SameRows foreign.parent) shape.foreigns → IsKept db shape tests → IsKept other shape tests
    kept_too parents kept = record {
      fits = λ key row stands. kept.fits key row (back key row stands);
      no_null = λ key row stands. kept.no_null key row (back key row stands);
      no_false = λ key row stands. kept.no_false key row (back key row stands);
      unique = all_more (IsUnique db shape) (IsUnique other shape) unique_too shape.uniques kept.unique;
      parents = all_two (HasParents db shape) (λ foreign. SameRows foreign.parent) (HasParents other shape) parents_too shape.foreigns kept.parents parents;
    }

pub all_each : {A : Type 0} (P : A → Type 0) → ((x : A) → P x) → (xs : List A) → AllByRecursion P xs
all_each P is [] = tt
all_each P is (x ∷ xs) = (is x, all_each P is xs)

-- a table without rows keeps all
pub kept_empty : (db : Database) (shape : TableTree) (tests : List BoundTest) → ((key row : List Value) → Stands db shape key row → ⊥) → IsKept db shape tests
kept_empty db shape tests none = record {
  fits = λ key row stands. absurd (none key row stands);
  no_null = λ key row stands. absurd (none key row stands);
  no_false = λ key row stands. absurd (none key row stands);
  unique = all_each (IsUnique db shape) (λ unique key other row and_row stands also agree. absurd (none key row stands)) shape.uniques;
  parents = all_each (HasParents db shape) (λ foreign key row stands given. absurd (none key row stands)) shape.foreigns;
}
