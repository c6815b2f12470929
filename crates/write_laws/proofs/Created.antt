-- CREATE TABLE: one name more is defined, of which no row is there.
use Rattle.std.proofs.Common.{◌≡◌, refl, sym, ap, ◌∙◌, subst, ◌⊎◌, inl, inr, ℕ, Bool, true, false, ◌&&◌, List, [], ◌∷◌, length, ◌≤◌, Some, None, if◌then◌else◌}
use Rattle.value_types.specs.declared.table_name.TableName.{TableName}
use Rattle.value_types.specs.declared.value.Value.{Value}
use Rattle.tsql_tree.specs.declared.definition.Definition.{Definition}
use Rattle.tsql_tree.specs.declared.definition.Definition.TheVariants.{Table, Trigger}
use Rattle.tsql_tree.specs.declared.definition.ForeignTree.{ForeignTree}
use Rattle.tsql_tree.specs.declared.definition.TableTree.{TableTree}
use Rattle.tsql_tree.specs.declared.definition.TriggerTree.{TriggerTree}
use Rattle.step_model.specs.Database.{Database}
use Rattle.table_rows.specs.Definitions.{Defines, IsDefinitionOf, is_objects, object_key, objects_name, row_of}
use Rattle.table_rows.specs.Rows.{rows_table}
use Rattle.clause_binder.specs.Scope.{max_columns}
use Rattle.constraint_check.specs.Integrity.{Stands}
use Rattle.constraint_check.specs.Laws.{behind}
use Rattle.constraint_check.proofs.Behind.{one_behind, same, same_itself}
use Rattle.constraint_check.proofs.Lists.{all_more}
use Rattle.statement_paths.specs.Paths.{definition_put}
use Rattle.write_laws.specs.Keeping.{IsCreated, FirmCreated, UntriggeredCreated}
use Rattle.write_laws.specs.Sound.{DefinesOne, HasParentTable, HasParentTables, HasTable, IsDefined, IsKnown, IsTableOf, Keeps, RefersTo, Firm}
use Rattle.write_laws.proofs.Defined.{defined_by, names_apart, not_objects, not_same, one_name, one_thing, table_there}
use Rattle.write_laws.proofs.Elsewhere.{SameRows, is_table, kept_empty, kept_too, table_is, table_itself, table_name, tables_apart, untouched}

module _ (db : Database) (name text : List ℕ) (table : TableTree) where
  abbrev after : Database
  after = behind db (definition_put name text ∷ [])

  -- ---- the rows of `objects`

  here : (key : List Value) → after (rows_table objects_name) key ≡ (if same (object_key name) key then Some (row_of name text) else db (rows_table objects_name) key)
  here key = ap (λ (b : Bool). if b && same (object_key name) key then Some (row_of name text) else db (rows_table objects_name) key) (table_itself objects_name)

  at_name : (key : List Value) → same (object_key name) key ≡ true → after (rows_table objects_name) key ≡ Some (row_of name text)
  at_name key at = here key ∙ ap (λ (b : Bool). if b then Some (row_of name text) else db (rows_table objects_name) key) at

  at_other : (key : List Value) → same (object_key name) key ≡ false → after (rows_table objects_name) key ≡ db (rows_table objects_name) key
  at_other key apart = here key ∙ ap (λ (b : Bool). if b then Some (row_of name text) else db (rows_table objects_name) key) apart

  module _ (defines : Defines name text (Table table)) where
    own_row : IsDefinitionOf name (row_of name text) (Some (Table table))
    own_row = (text, refl, defines)

    -- what is defined was, but for the new table
    was : (of : List ℕ) (definition : Definition) → IsDefined after of definition → (definition ≡ Table table) ⊎ IsDefined db of definition
    was of definition now = by_test (same (object_key name) (object_key of)) refl
      where
        by_test : (b : Bool) → same (object_key name) (object_key of) ≡ b → (definition ≡ Table table) ⊎ IsDefined db of definition
        by_test true at =
            let both : Some (row_of name text) ≡ Some now.0 = sym (at_name (object_key of) at) ∙ now.1 in
            let rows : row_of name text ≡ now.0 = cc in
            let own : IsDefinitionOf name now.0 (Some (Table table)) = subst (λ (row : List Value). IsDefinitionOf name row (Some (Table table))) rows own_row in
            let names : of ≡ name = one_name now.0 of name definition (Table table) now.2 own in
            inl (one_thing now.0 name definition (Table table) (subst (λ (n : List ℕ). IsDefinitionOf n now.0 (Some definition)) names now.2) own)
        by_test false apart = inr (defined_by after db of definition (sym (at_other (object_key of) apart)) now)

  module _ (firm : Firm db) (made : IsCreated db name text table) where
    -- ---- rows

    -- of other tables
    there : (of : TableName) → is_table objects_name of ≡ false → (key : List Value) → after of key ≡ db of key
    there of apart key = untouched objects_name of apart (definition_put name text ∷ []) (refl, tt) db key

    same_there : (of : List ℕ) → is_objects of ≡ false → SameRows db after of
    same_there of other key = there (rows_table of) (tables_apart objects_name of (names_apart objects_name of (λ is. not_same of objects_name other (sym is)))) key

    -- ---- what is defined

    -- the new table
    created : IsTableOf after table
    created = subst (λ (n : List ℕ). IsDefined after n (Table table)) (sym made.defines.named) (row_of name text, at_name (object_key name) (same_itself (object_key name)), (own_row made.defines))

    -- what was stays
    pub stays : (of : List ℕ) (definition : Definition) → IsDefined db of definition → IsDefined after of definition
    stays of definition before = by_test (same (object_key name) (object_key of)) refl
      where
        by_test : (b : Bool) → same (object_key name) (object_key of) ≡ b → IsDefined after of definition
        by_test true at = let both : None ≡ Some before.0 = sym made.free ∙ firm.one_key (rows_table objects_name) (object_key name) (object_key of) at ∙ before.1 in cc
        by_test false apart = defined_by db after of definition (at_other (object_key of) apart) before

    -- of tables
    pub was_table : (of : TableTree) → IsTableOf after of → (of ≡ table) ⊎ IsTableOf db of
    was_table of now = elim (was made.defines of.name (Table of) now) [
      | inl new ↦ inl (let both : Table of ≡ Table table = new in cc)
      | inr before ↦ inr before
    ]

    has_stays : (of : List ℕ) → HasTable db of → HasTable after of
    has_stays of has = table_there db after (λ shape is. stays shape.name (Table shape) is) of has

    -- ---- the parts of `Firm`

    all_definitions : (key row : List Value) → after (rows_table objects_name) key ≡ Some row → DefinesOne key row
    all_definitions key row stands = by_test (same (object_key name) key) refl
      where
        by_test : (b : Bool) → same (object_key name) key ≡ b → DefinesOne key row
        by_test true at =
            let both : Some (row_of name text) ≡ Some row = sym (at_name key at) ∙ stands in
            let rows : row_of name text ≡ row = cc in
            record { name = name; definition = Table table; at = at; other = made.other; defines = subst (λ (row : List Value). IsDefinitionOf name row (Some (Table table))) rows (own_row made.defines) }
        by_test false apart = firm.definitions key row (sym (at_other key apart) ∙ stands)

    known_stays : (of : TableName) → IsKnown db of → IsKnown after of
    known_stays of (inl own) = inl own
    known_stays of (inr known) = inr (known.0, stays known.0.name (Table known.0) known.1, known.2)

    all_known : (of : TableName) (key row : List Value) → after of key ≡ Some row → IsKnown after of
    all_known of key row stands = by_test (is_table objects_name of) refl
      where
        by_test : (b : Bool) → is_table objects_name of ≡ b → IsKnown after of
        by_test true own = inl (table_is objects_name of own)
        by_test false apart = known_stays of (firm.known of key row (sym (there of apart key) ∙ stands))

    all_few : (of : TableTree) → IsTableOf after of → length of.columns ≤ max_columns
    all_few of now = elim (was_table of now) [
      | inl new ↦ subst (λ (t : TableTree). length t.columns ≤ max_columns) (sym new) made.stands.few
      | inr before ↦ firm.few of before
    ]

    -- the new table has no rows
    no_rows : (key row : List Value) → db (rows_table name) key ≡ Some row → ⊥
    no_rows key row stands = elim (firm.known (rows_table name) key row stands) [
      | inl own ↦ not_same name objects_name made.other (table_name name objects_name own)
      | inr known ↦ none known.0 known.1 (table_name name known.0.name known.2)
    ]
      where
        none : (shape : TableTree) → IsTableOf db shape → name ≡ shape.name → ⊥
        none shape is named = let both : None ≡ Some is.0 = sym made.free ∙ ap (λ (n : List ℕ). db (rows_table objects_name) (object_key n)) named ∙ is.1 in cc

    new_empty : (key row : List Value) → Stands after table key row → ⊥
    new_empty key row stands =
        no_rows key row (sym (same_there name made.other key) ∙ ap (λ (n : List ℕ). after (rows_table n) key) (sym made.defines.named) ∙ stands)

    new_keeps : Keeps after table
    new_keeps = (made.stands.bound.0, made.stands.bound.1, kept_empty after table made.stands.bound.0 new_empty)

    old_keeps : (of : TableTree) → IsTableOf db of → Keeps after of
    old_keeps of before =
        let keeps = firm.kept of before in (
          keeps.0,
          keeps.1,
          kept_too db after of keeps.0 (same_there of.name (not_objects db firm of.name (Table of) before))
              (all_more (HasParentTable db of) (λ foreign. SameRows db after foreign.parent) parent_same of.foreigns (firm.parents of before)) keeps.2,
        )
      where
        parent_same : (foreign : ForeignTree) → HasParentTable db of foreign → SameRows db after foreign.parent
        parent_same foreign has = same_there foreign.parent (subst (λ (n : List ℕ). is_objects n ≡ false) has.2.0 (not_objects db firm has.0.name (Table has.0) has.1))

    all_keep : (of : TableTree) → IsTableOf after of → Keeps after of
    all_keep of now = elim (was_table of now) [
      | inl new ↦ subst (Keeps after) (sym new) new_keeps
      | inr before ↦ old_keeps of before
    ]

    parent_stays : (of : TableTree) (foreign : ForeignTree) → HasParentTable db of foreign → HasParentTable after of foreign
    parent_stays of foreign has = (has.0, stays has.0.name (Table has.0) has.1, has.2)

    new_parents : HasParentTables after table
    new_parents = all_more (λ foreign. RefersTo table foreign table ⊎ HasParentTable db table foreign) (HasParentTable after table) parent table.foreigns made.stands.parents
      where
        parent : (foreign : ForeignTree) → RefersTo table foreign table ⊎ HasParentTable db table foreign → HasParentTable after table foreign
        parent foreign (inl own) = (table, created, own)
        parent foreign (inr has) = parent_stays table foreign has

    all_parents : (of : TableTree) → IsTableOf after of → HasParentTables after of
    all_parents of now = elim (was_table of now) [
      | inl new ↦ subst (HasParentTables after) (sym new) new_parents
      | inr before ↦ all_more (HasParentTable db of) (HasParentTable after of) (parent_stays of) of.foreigns (firm.parents of before)
    ]

    all_triggers : (of : List ℕ) (trigger : TriggerTree) → IsDefined after of (Trigger trigger) → HasTable after trigger.table
    all_triggers of trigger now = elim (was made.defines of (Trigger trigger) now) [
      | inl new ↦ (let both : Trigger trigger ≡ Table table = new in cc)
      | inr before ↦ has_stays trigger.table (firm.triggers of trigger before)
    ]

pub firm_created : FirmCreated
firm_created db name text table firm made = record {
  one_key = one_behind (definition_put name text ∷ []) db firm.one_key;
  definitions = all_definitions db name text table firm made;
  known = all_known db name text table firm made;
  few = all_few db name text table firm made;
  kept = all_keep db name text table firm made;
  parents = all_parents db name text table firm made;
  triggers = all_triggers db name text table firm made;
}

pub untriggered_created : UntriggeredCreated
untriggered_created db name text table defines none of trigger now = elim (was db name text table defines of (Trigger trigger) now) [
  | inl new ↦ (let both : Trigger trigger ≡ Table table = new in cc)
  | inr before ↦ none of trigger before
]
