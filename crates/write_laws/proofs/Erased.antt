-- DROP of a procedure or trigger: one name less is defined, and each table stays.
use Rattle.std.proofs.Common.{◌≡◌, refl, sym, ap, ◌∙◌, subst, inl, inr, ℕ, Bool, true, false, ◌&&◌, List, [], ◌∷◌, map, Some, None, if◌then◌else◌}
use Rattle.std.specs.List.{AllByRecursion}
use Rattle.value_types.specs.declared.table_name.TableName.{TableName}
use Rattle.value_types.specs.declared.value.Value.{Value}
use Rattle.tsql_tree.specs.declared.definition.Definition.{Definition}
use Rattle.tsql_tree.specs.declared.definition.Definition.TheVariants.{Table, Trigger}
use Rattle.tsql_tree.specs.declared.definition.ForeignTree.{ForeignTree}
use Rattle.tsql_tree.specs.declared.definition.TableTree.{TableTree}
use Rattle.tsql_tree.specs.declared.definition.TriggerTree.{TriggerTree}
use Rattle.step_model.specs.declared.change.Planned.{Planned}
use Rattle.step_model.specs.Database.{Database}
use Rattle.step_model.specs.Own.{is_own}
use Rattle.table_rows.specs.Definitions.{IsDefinitionOf, is_objects, object_key, objects_name}
use Rattle.table_rows.specs.Rows.{rows_table}
use Rattle.constraint_check.specs.Laws.{behind}
use Rattle.constraint_check.proofs.Behind.{one_behind, same}
use Rattle.constraint_check.proofs.Lists.{all_more}
use Rattle.batch_meaning.specs.Changing.{definition_erased}
use Rattle.write_laws.specs.Keeping.{FirmErased, IsNoTable}
use Rattle.write_laws.specs.Sound.{DefinesOne, HasParentTable, HasParentTables, HasTable, IsDefined, IsKnown, IsTableOf, Keeps, Firm}
use Rattle.write_laws.proofs.Defined.{defined_by, names_apart, not_objects, not_same, one_name, one_thing, table_there}
use Rattle.write_laws.proofs.Elsewhere.{SameRows, is_table, kept_too, table_is, table_itself, tables_apart, untouched}

-- at the key of what is defined as something else no table stands
pub no_table : (db : Database) (firm : Firm db) (name : List ℕ) (definition : Definition) → IsDefined db name definition → ((shape : TableTree) → definition ≡ Table shape → ⊥) → IsNoTable db name
no_table db firm name definition is other shape table = by_test (same (object_key name) (object_key shape.name)) refl
  where
    by_test : (b : Bool) → same (object_key name) (object_key shape.name) ≡ b → b ≡ false
    by_test true at =
        let both : Some is.0 ≡ Some table.0 = sym is.1 ∙ firm.one_key (rows_table objects_name) (object_key name) (object_key shape.name) at ∙ table.1 in
        let rows : is.0 ≡ table.0 = cc in
        let own : IsDefinitionOf name table.0 (Some definition) = subst (λ (row : List Value). IsDefinitionOf name row (Some definition)) rows is.2 in
        let names : shape.name ≡ name = one_name table.0 shape.name name (Table shape) definition table.2 own in
        absurd (other shape (one_thing table.0 name definition (Table shape) own (subst (λ (n : List ℕ). IsDefinitionOf n table.0 (Some (Table shape))) names table.2)))
    by_test false apart = refl

module _ (db : Database) (name : List ℕ) where
  abbrev pub after : Database
  after = behind db (definition_erased name ∷ [])

  -- ---- rows

  here : (key : List Value) → after (rows_table objects_name) key ≡ (if same (object_key name) key then None else db (rows_table objects_name) key)
  here key = ap (λ (b : Bool). if b && same (object_key name) key then None else db (rows_table objects_name) key) (table_itself objects_name)

  pub at_name : (key : List Value) → same (object_key name) key ≡ true → after (rows_table objects_name) key ≡ None
  at_name key at = here key ∙ ap (λ (b : Bool). if b then None else db (rows_table objects_name) key) at

  pub at_other : (key : List Value) → same (object_key name) key ≡ false → after (rows_table objects_name) key ≡ db (rows_table objects_name) key
  at_other key apart = here key ∙ ap (λ (b : Bool). if b then None else db (rows_table objects_name) key) apart

  there : (of : TableName) → is_table objects_name of ≡ false → (key : List Value) → after of key ≡ db of key
  there of apart key = untouched objects_name of apart (definition_erased name ∷ []) (refl, tt) db key

  same_there : (of : List ℕ) → is_objects of ≡ false → SameRows db after of
  same_there of other key = there (rows_table of) (tables_apart objects_name of (names_apart objects_name of (λ is. not_same of objects_name other (sym is)))) key

  -- ---- what is defined

  pub was : (of : List ℕ) (definition : Definition) → IsDefined after of definition → IsDefined db of definition
  was of definition now = by_test (same (object_key name) (object_key of)) refl
    where
      by_test : (b : Bool) → same (object_key name) (object_key of) ≡ b → IsDefined db of definition
      by_test true at = let both : None ≡ Some now.0 = sym (at_name (object_key of) at) ∙ now.1 in cc
      by_test false apart = defined_by after db of definition (sym (at_other (object_key of) apart)) now

  module _ (none : IsNoTable db name) where
    pub stays : (shape : TableTree) → IsTableOf db shape → IsTableOf after shape
    stays shape before = defined_by db after shape.name (Table shape) (at_other (object_key shape.name) (none shape before)) before

    has_stays : (of : List ℕ) → HasTable db of → HasTable after of
    has_stays of has = table_there db after stays of has

    -- ---- the parts of `Firm`

    module _ (firm : Firm db) where
      all_definitions : (key row : List Value) → after (rows_table objects_name) key ≡ Some row → DefinesOne key row
      all_definitions key row stands = by_test (same (object_key name) key) refl
        where
          by_test : (b : Bool) → same (object_key name) key ≡ b → DefinesOne key row
          by_test true at = let both : None ≡ Some row = sym (at_name key at) ∙ stands in cc
          by_test false apart = firm.definitions key row (sym (at_other key apart) ∙ stands)

      known_stays : (of : TableName) → IsKnown db of → IsKnown after of
      known_stays of (inl own) = inl own
      known_stays of (inr known) = inr (known.0, stays known.0 known.1, known.2)

      all_known : (of : TableName) (key row : List Value) → after of key ≡ Some row → IsKnown after of
      all_known of key row stands = by_test (is_table objects_name of) refl
        where
          by_test : (b : Bool) → is_table objects_name of ≡ b → IsKnown after of
          by_test true own = inl (table_is objects_name of own)
          by_test false apart = known_stays of (firm.known of key row (sym (there of apart key) ∙ stands))

      all_keep : (of : TableTree) → IsTableOf after of → Keeps after of
      all_keep of now =
          let before = was of.name (Table of) now in
          let keeps = firm.kept of before in (
            keeps.0,
            keeps.1,
            kept_too db after of keeps.0 (same_there of.name (not_objects db firm of.name (Table of) before))
                (all_more (HasParentTable db of) (λ foreign. SameRows db after foreign.parent) parent_same of.foreigns (firm.parents of before)) keeps.2,
          )
        where
          parent_same : (foreign : ForeignTree) → HasParentTable db of foreign → SameRows db after foreign.parent
          parent_same foreign has = same_there foreign.parent (subst (λ (n : List ℕ). is_objects n ≡ false) has.2.0 (not_objects db firm has.0.name (Table has.0) has.1))

      all_parents : (of : TableTree) → IsTableOf after of → HasParentTables after of
      all_parents of now = all_more (HasParentTable db of) (HasParentTable after of) (λ foreign has. (has.0, stays has.0 has.1, has.2)) of.foreigns (firm.parents of (was of.name (Table of) now))

      all_triggers : (of : List ℕ) (trigger : TriggerTree) → IsDefined after of (Trigger trigger) → HasTable after trigger.table
      all_triggers of trigger now = has_stays trigger.table (firm.triggers of trigger (was of (Trigger trigger) now))

pub firm_erased : FirmErased
firm_erased db name firm none = record {
  one_key = one_behind (definition_erased name ∷ []) db firm.one_key;
  definitions = all_definitions db name none firm;
  known = all_known db name none firm;
  few = λ of now. firm.few of (was db name of.name (Table of) now);
  kept = all_keep db name none firm;
  parents = all_parents db name none firm;
  triggers = all_triggers db name none firm;
}

-- ---- several

abbrev pub erased_all : List (List ℕ) → List Planned
erased_all names = map definition_erased names

pub all_of_objects : (names : List (List ℕ)) → AllByRecursion (λ change. change.table ≡ rows_table objects_name) (erased_all names)
all_of_objects [] = tt
all_of_objects (name ∷ names) = (refl, all_of_objects names)

pub erased_own : (names : List (List ℕ)) → AllByRecursion (λ change. is_own change ≡ true) (erased_all names)
erased_own [] = tt
erased_own (name ∷ names) = (refl, erased_own names)

pub was_all : (names : List (List ℕ)) (db : Database) (of : List ℕ) (definition : Definition) → IsDefined (behind db (erased_all names)) of definition → IsDefined db of definition
was_all [] db of definition now = now
was_all (name ∷ names) db of definition now = was db name of definition (was_all names (after db name) of definition now)

-- none of them is a table's
abbrev pub AreNoTables : Database → List (List ℕ) → Type 0
AreNoTables db names = AllByRecursion (IsNoTable db) names

pub still_none : (db : Database) (name : List ℕ) (names : List (List ℕ)) → AreNoTables db names → AreNoTables (after db name) names
still_none db name names all = all_more (IsNoTable db) (IsNoTable (after db name)) (λ other none shape now. none shape (was db name shape.name (Table shape) now)) names all

pub stay_all : (names : List (List ℕ)) (db : Database) → AreNoTables db names → (shape : TableTree) → IsTableOf db shape → IsTableOf (behind db (erased_all names)) shape
stay_all [] db none shape before = before
stay_all (name ∷ names) db none shape before = stay_all names (after db name) (still_none db name names none.1) shape (stays db name none.0 shape before)

pub firm_all : (names : List (List ℕ)) (db : Database) → Firm db → AreNoTables db names → Firm (behind db (erased_all names))
firm_all [] db firm none = firm
firm_all (name ∷ names) db firm none = firm_all names (after db name) (firm_erased db name firm none.0) (still_none db name names none.1)
