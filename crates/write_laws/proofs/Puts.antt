-- CREATE PROCEDURE and CREATE TRIGGER: one name more is defined, and no table.
use Rattle.std.proofs.Common.{◌≡◌, refl, sym, ap, ◌∙◌, subst, ◌⊎◌, inl, inr, ℕ, Bool, true, false, ◌&&◌, List, [], ◌∷◌, Some, None, if◌then◌else◌}
use Rattle.value_types.specs.declared.table_name.TableName.{TableName}
use Rattle.value_types.specs.declared.value.Value.{Value}
use Rattle.tsql_tree.specs.declared.definition.Definition.{Definition}
use Rattle.tsql_tree.specs.declared.definition.Definition.TheVariants.{Table, Trigger}
use Rattle.tsql_tree.specs.declared.definition.ForeignTree.{ForeignTree}
use Rattle.tsql_tree.specs.declared.definition.TableTree.{TableTree}
use Rattle.tsql_tree.specs.declared.definition.TriggerTree.{TriggerTree}
use Rattle.step_model.specs.Database.{Database}
use Rattle.table_rows.specs.Definitions.{IsDefinitionOf, is_objects, object_key, objects_name, row_of}
use Rattle.table_rows.specs.Rows.{rows_table}
use Rattle.constraint_check.specs.Laws.{behind}
use Rattle.constraint_check.proofs.Behind.{one_behind, same}
use Rattle.constraint_check.proofs.Lists.{all_more}
use Rattle.statement_paths.specs.Paths.{definition_put}
use Rattle.write_laws.specs.Keeping.{CanBeDefined, FirmPut, IsPut}
use Rattle.write_laws.specs.Sound.{DefinesOne, HasParentTable, HasParentTables, HasTable, IsDefined, IsKnown, IsTableOf, Keeps, Firm}
use Rattle.write_laws.proofs.Defined.{defined_by, names_apart, not_objects, not_same, one_name, one_thing, table_there}
use Rattle.write_laws.proofs.Elsewhere.{SameRows, is_table, kept_too, table_is, table_itself, tables_apart, untouched}

module _ (db : Database) (name text : List ℕ) (put : Definition) (firm : Firm db) (made : IsPut db name text put) where
  abbrev after : Database
  after = behind db (definition_put name text ∷ [])

  -- ---- rows

  here : (key : List Value) → after (rows_table objects_name) key ≡ (if same (object_key name) key then Some (row_of name text) else db (rows_table objects_name) key)
  here key = ap (λ (b : Bool). if b && same (object_key name) key then Some (row_of name text) else db (rows_table objects_name) key) (table_itself objects_name)

  at_name : (key : List Value) → same (object_key name) key ≡ true → after (rows_table objects_name) key ≡ Some (row_of name text)
  at_name key at = here key ∙ ap (λ (b : Bool). if b then Some (row_of name text) else db (rows_table objects_name) key) at

  at_other : (key : List Value) → same (object_key name) key ≡ false → after (rows_table objects_name) key ≡ db (rows_table objects_name) key
  at_other key apart = here key ∙ ap (λ (b : Bool). if b then Some (row_of name text) else db (rows_table objects_name) key) apart

  there : (of : TableName) → is_table objects_name of ≡ false → (key : List Value) → after of key ≡ db of key
  there of apart key = untouched objects_name of apart (definition_put name text ∷ []) (refl, tt) db key

  same_there : (of : List ℕ) → is_objects of ≡ false → SameRows db after of
  same_there of other key = there (rows_table of) (tables_apart objects_name of (names_apart objects_name of (λ is. not_same of objects_name other (sym is)))) key

  -- ---- what is defined

  own_row : IsDefinitionOf name (row_of name text) (Some put)
  own_row = (text, refl, made.defines)

  was : (of : List ℕ) (definition : Definition) → IsDefined after of definition → (definition ≡ put) ⊎ IsDefined db of definition
  was of definition now = by_test (same (object_key name) (object_key of)) refl
    where
      by_test : (b : Bool) → same (object_key name) (object_key of) ≡ b → (definition ≡ put) ⊎ IsDefined db of definition
      by_test true at =
          let both : Some (row_of name text) ≡ Some now.0 = sym (at_name (object_key of) at) ∙ now.1 in
          let rows : row_of name text ≡ now.0 = cc in
          let own : IsDefinitionOf name now.0 (Some put) = subst (λ (row : List Value). IsDefinitionOf name row (Some put)) rows own_row in
          let names : of ≡ name = one_name now.0 of name definition put now.2 own in
          inl (one_thing now.0 name definition put (subst (λ (n : List ℕ). IsDefinitionOf n now.0 (Some definition)) names now.2) own)
      by_test false apart = inr (defined_by after db of definition (sym (at_other (object_key of) apart)) now)

  pub was_table : (of : TableTree) → IsTableOf after of → IsTableOf db of
  was_table of now = elim (was of.name (Table of) now) [
    | inl new ↦ absurd (subst (CanBeDefined db) (sym new) made.can)
    | inr before ↦ before
  ]

  pub stays : (of : List ℕ) (definition : Definition) → IsDefined db of definition → IsDefined after of definition
  stays of definition before = by_test (same (object_key name) (object_key of)) refl
    where
      by_test : (b : Bool) → same (object_key name) (object_key of) ≡ b → IsDefined after of definition
      by_test true at = let both : None ≡ Some before.0 = sym made.free ∙ firm.one_key (rows_table objects_name) (object_key name) (object_key of) at ∙ before.1 in cc
      by_test false apart = defined_by db after of definition (at_other (object_key of) apart) before

  has_stays : (of : List ℕ) → HasTable db of → HasTable after of
  has_stays of has = table_there db after (λ shape is. stays shape.name (Table shape) is) of has

  -- ---- the parts of `Firm`

  all_definitions : (key row : List Value) → after (rows_table objects_name) key ≡ Some row → DefinesOne key row
  all_definitions key row stands = by_test (same (object_key name) key) refl
    where
      by_test : (b : Bool) → same (object_key name) key ≡ b → DefinesOne key row
      by_test true at =
          let both : Some (row_of name text) ≡ Some row = sym (at_name key at) ∙ stands in
          let rows : row_of name text ≡ row = cc in
          record { name = name; definition = put; at = at; other = made.other; defines = subst (λ (row : List Value). IsDefinitionOf name row (Some put)) rows own_row }
      by_test false apart = firm.definitions key row (sym (at_other key apart) ∙ stands)

  known_stays : (of : TableName) → IsKnown db of → IsKnown after of
  known_stays of (inl own) = inl own
  known_stays of (inr known) = inr (known.0, stays known.0.name (Table known.0) known.1, known.2)

  all_known : (of : TableName) (key row : List Value) → after of key ≡ Some row → IsKnown after of
  all_known of key row stands = by_test (is_table objects_name of) refl
    where
      by_test : (b : Bool) → is_table objects_name of ≡ b → IsKnown after of
      by_test true own = inl (table_is objects_name of own)
      by_test false apart = known_stays of (firm.known of key row (sym (there of apart key) ∙ stands))

  all_keep : (of : TableTree) → IsTableOf after of → Keeps after of
  all_keep of now =
      let before = was_table of now in
      let keeps = firm.kept of before in (
        keeps.0,
        keeps.1,
        kept_too db after of keeps.0 (same_there of.name (not_objects db firm of.name (Table of) before))
            (all_more (HasParentTable db of) (λ foreign. SameRows db after foreign.parent) parent_same of.foreigns (firm.parents of before)) keeps.2,
      )
    where
      parent_same : (foreign : ForeignTree) → HasParentTable db of foreign → SameRows db after foreign.parent
      parent_same foreign has = same_there foreign.parent (subst (λ (n : List ℕ). is_objects n ≡ false) has.2.0 (not_objects db firm has.0.name (Table has.0) has.1))

  all_parents : (of : TableTree) → IsTableOf after of → HasParentTables after of
  all_parents of now = all_more (HasParentTable db of) (HasParentTable after of) (λ foreign has. (has.0, stays has.0.name (Table has.0) has.1, has.2)) of.foreigns (firm.parents of (was_table of now))

  all_triggers : (of : List ℕ) (trigger : TriggerTree) → IsDefined after of (Trigger trigger) → HasTable after trigger.table
  all_triggers of trigger now = elim (was of (Trigger trigger) now) [
    | inl new ↦ has_stays trigger.table (subst (CanBeDefined db) (sym new) made.can)
    | inr before ↦ has_stays trigger.table (firm.triggers of trigger before)
  ]

pub firm_put : FirmPut
firm_put db name text put firm made = record {
  one_key = one_behind (definition_put name text ∷ []) db firm.one_key;
  definitions = all_definitions db name text put firm made;
  known = all_known db name text put firm made;
  few = λ of now. firm.few of (was_table db name text put firm made of now);
  kept = all_keep db name text put firm made;
  parents = all_parents db name text put firm made;
  triggers = all_triggers db name text put firm made;
}
