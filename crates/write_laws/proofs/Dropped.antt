-- DROP TABLE: one name less is defined, of which no row is left, and to which nothing refers.
use Rattle.std.proofs.Common.{◌≡◌, refl, sym, ap, ◌∙◌, subst, inl, inr, ℕ, Bool, true, false, not, ◌&&◌, ◌||◌, List, [], ◌∷◌, map, Option, Some, None, IsSome, if◌then◌else◌}
use Rattle.std.proofs.lemmas.List.{map-append}
use Rattle.std.specs.List.{AllByRecursion, list_any}
use Rattle.value_types.specs.Units.{same_units}
use Rattle.value_types.specs.declared.table_name.TableName.{TableName}
use Rattle.value_types.specs.declared.value.Value.{Value}
use Rattle.tsql_tree.specs.declared.definition.Definition.{Definition}
use Rattle.tsql_tree.specs.declared.definition.Definition.TheVariants.{Table, Trigger}
use Rattle.tsql_tree.specs.declared.definition.ForeignTree.{ForeignTree}
use Rattle.tsql_tree.specs.declared.definition.TableTree.{TableTree}
use Rattle.tsql_tree.specs.declared.definition.TriggerTree.{TriggerTree}
use Rattle.step_model.specs.declared.change.Change.{Change}
use Rattle.step_model.specs.declared.change.Deed.{Deed}
use Rattle.step_model.specs.declared.change.Deed.TheVariants.{Erase, Replace, Insert}
use Rattle.step_model.specs.declared.change.Planned.{Planned}
use Rattle.step_model.specs.Database.{Database, With, with_change}
use Rattle.step_model.specs.Own.{change_of, row_of}
use Rattle.step_model.proofs.Databases.{With-append}
use Rattle.table_rows.specs.Definitions.{IsDefinitionOf, is_objects, object_key, objects_name}
use Rattle.table_rows.specs.Rows.{rows_table}
use Rattle.constraint_check.specs.Laws.{behind}
use Rattle.constraint_check.specs.Reads.{is_erase}
use Rattle.constraint_check.proofs.Behind.{at_is, one_behind, same, same_itself}
use Rattle.constraint_check.proofs.Lists.{Among, all_more, all_two, among_any}
use Rattle.dml_exec.specs.Planning.{erased_at}
use Rattle.batch_meaning.specs.Changing.{refers}
use Rattle.write_laws.specs.Keeping.{AreErased, AreTables, FirmDropped, UntriggeredDropped, with_definition}
use Rattle.write_laws.specs.Sound.{DefinesOne, HasParentTable, HasParentTables, HasTable, IsDefined, IsKnown, IsTableOf, Keeps, Firm}
use Rattle.write_laws.proofs.Defined.{defined_by, names_apart, not_objects, not_same, one_name}
use Rattle.write_laws.proofs.Elsewhere.{SameRows, is_table, kept_too, table_is, table_itself, tables_apart, untouched}
use Rattle.write_laws.proofs.Written.{of_found}

-- ---- lists

pub none_any : {A : Type 0} (p : A → Bool) (xs : List A) → list_any p xs ≡ false → AllByRecursion (λ x. p x ≡ false) xs
none_any p [] none = tt
none_any p (x ∷ xs) none = by_test (p x) refl none (none_any p xs)
  where
    by_test : (b : Bool) → p x ≡ b → (b || list_any p xs) ≡ false → (list_any p xs ≡ false → AllByRecursion (λ x. p x ≡ false) xs) → (p x ≡ false) × AllByRecursion (λ x. p x ≡ false) xs
    by_test true is none rest = cc
    by_test false is none rest = (is, rest none)

-- ---- rows that are erased

erase_none : (deed : Deed) → is_erase deed ≡ true → row_of deed ≡ None
erase_none Erase is = refl
erase_none (Replace row) is = cc
erase_none (Insert row) is = cc

module _ (name : List ℕ) where
  abbrev pub Of : List Planned → Type 0
  Of changes = AllByRecursion (λ change. change.table ≡ rows_table name) changes

  abbrev pub Erases : List Planned → Type 0
  Erases changes = AllByRecursion (λ change. is_erase change.deed ≡ true) changes

  step : (change : Planned) (db : Database) (key : List Value) (b : Bool) → change.table ≡ rows_table name → same change.key key ≡ b
      → with_change db (change_of change) (rows_table name) key ≡ (if b then row_of change.deed else db (rows_table name) key)
  step change db key b of is = ap (λ (b : Bool). if b then row_of change.deed else db (rows_table name) key) (at_is name change key of ∙ is)

  -- where none is none comes
  none_still : (changes : List Planned) → Of changes → Erases changes → (db : Database) (key : List Value) → db (rows_table name) key ≡ None → behind db changes (rows_table name) key ≡ None
  none_still [] of erases db key none = none
  none_still (change ∷ changes) of erases db key none = none_still changes of.1 erases.1 (with_change db (change_of change)) key (by_test (same change.key key) refl)
    where
      by_test : (b : Bool) → same change.key key ≡ b → with_change db (change_of change) (rows_table name) key ≡ None
      by_test true at = step change db key true of.0 at ∙ erase_none change.deed erases.0
      by_test false apart = step change db key false of.0 apart ∙ none

  -- where one is erased none is
  pub none_left : (changes : List Planned) → Of changes → Erases changes → (db : Database) (key : List Value) → Among (λ change. same change.key key ≡ true) changes → behind db changes (rows_table name) key ≡ None
  none_left [] of erases db key none = absurd none
  none_left (change ∷ changes) of erases db key (inl at) = none_still changes of.1 erases.1 (with_change db (change_of change)) key (step change db key true of.0 at ∙ erase_none change.deed erases.0)
  none_left (change ∷ changes) of erases db key (inr later) = none_left changes of.1 erases.1 (with_change db (change_of change)) key later

module _ (db : Database) (shape : TableTree) (changes : List Planned) (firm : Firm db) (is : IsTableOf db shape) (of_table : AllByRecursion (λ change. change.table ≡ rows_table shape.name) changes) where
  abbrev name : List ℕ
  name = shape.name

  abbrev mid : Database
  mid = behind db changes

  abbrev last : Planned
  last = erased_at (rows_table objects_name) (object_key name)

  abbrev after : Database
  after = behind db (with_definition name changes)

  -- ---- rows

  split : (of : TableName) (key : List Value) → after of key ≡ behind mid (last ∷ []) of key
  split of key = ap (λ (list : List Change). With db list of key) (map-append change_of changes (last ∷ [])) ∙ (λ i. With-append db (map change_of changes) (change_of last ∷ []) i of key)

  -- of `objects`
  here : (key : List Value) → after (rows_table objects_name) key ≡ (if same (object_key name) key then None else db (rows_table objects_name) key)
  here key =
      split (rows_table objects_name) key
      ∙ ap (λ (b : Bool). if b && same (object_key name) key then None else mid (rows_table objects_name) key) (table_itself objects_name)
      ∙ ap (λ (o : Option (List Value)). if same (object_key name) key then None else o)
      (untouched name (rows_table objects_name) (tables_apart name objects_name (not_objects db firm name (Table shape) is)) changes of_table db key)

  at_name : (key : List Value) → same (object_key name) key ≡ true → after (rows_table objects_name) key ≡ None
  at_name key at = here key ∙ ap (λ (b : Bool). if b then None else db (rows_table objects_name) key) at

  at_other : (key : List Value) → same (object_key name) key ≡ false → after (rows_table objects_name) key ≡ db (rows_table objects_name) key
  at_other key apart = here key ∙ ap (λ (b : Bool). if b then None else db (rows_table objects_name) key) apart

  -- ---- what is defined

  pub was : (of : List ℕ) (definition : Definition) → IsDefined after of definition → IsDefined db of definition × (of ≡ name → ⊥)
  was of definition now = by_test (same (object_key name) (object_key of)) refl
    where
      by_test : (b : Bool) → same (object_key name) (object_key of) ≡ b → IsDefined db of definition × (of ≡ name → ⊥)
      by_test true at = let both : None ≡ Some now.0 = sym (at_name (object_key of) at) ∙ now.1 in cc
      by_test false apart = (
        defined_by after db of definition (sym (at_other (object_key of) apart)) now,
        λ named. let both : false ≡ true = sym apart ∙ ap (λ (n : List ℕ). same (object_key name) (object_key n)) named ∙ same_itself (object_key name) in cc,
      )

  module _ (tables : List TableTree) (given : AreTables db tables) (erased : AreErased db tables shape changes) where
    -- of the table
    there : (of : TableName) → is_table objects_name of ≡ false → (key : List Value) → after of key ≡ mid of key
    there of apart key = split of key ∙ untouched objects_name of apart (last ∷ []) (refl, tt) mid key

    gone : (key : List Value) → mid (rows_table name) key ≡ None
    gone key = by_row (db (rows_table name) key) refl
      where
        by_row : (o : Option (List Value)) → db (rows_table name) key ≡ o → mid (rows_table name) key ≡ None
        by_row None none = none_still name changes of_table erased.erases db key none
        by_row (Some row) stands =
            none_left name changes of_table erased.erases db key
            (among_any (λ change. same change.key key) changes (erased.whole key (subst (λ (o : Option (List Value)). IsSome o) (sym stands) refl)))

    -- of others
    other_there : (of : TableName) → is_table objects_name of ≡ false → is_table name of ≡ false → (key : List Value) → after of key ≡ db of key
    other_there of apart other key = there of apart key ∙ untouched name of other changes of_table db key

    same_there : (of : List ℕ) → is_objects of ≡ false → (of ≡ name → ⊥) → SameRows db after of
    same_there of apart other key =
        other_there (rows_table of) (tables_apart objects_name of (names_apart objects_name of (λ is. not_same of objects_name apart (sym is))))
        (tables_apart name of (names_apart name of (λ is. other (sym is)))) key

    stays : (of : List ℕ) (definition : Definition) → IsDefined db of definition → (of ≡ name → ⊥) → IsDefined after of definition
    stays of definition before other = by_test (same (object_key name) (object_key of)) refl
      where
        by_test : (b : Bool) → same (object_key name) (object_key of) ≡ b → IsDefined after of definition
        by_test true at =
            let own = is in
            let both : Some own.0 ≡ Some before.0 = sym own.1 ∙ firm.one_key (rows_table objects_name) (object_key name) (object_key of) at ∙ before.1 in
            let rows : own.0 ≡ before.0 = cc in
            absurd (other (one_name own.0 of name definition (Table shape) (subst (λ (row : List Value). IsDefinitionOf of row (Some definition)) (sym rows) before.2) own.2))
        by_test false apart = defined_by db after of definition (at_other (object_key of) apart) before

    has_stays : (of : List ℕ) → HasTable db of → (of ≡ name → ⊥) → HasTable after of
    has_stays of has other = (has.0, stays has.0.name (Table has.0) has.1 (λ is. other (sym has.2 ∙ is)), has.2)

    -- ---- nothing refers to it

    unreferring : (of : TableTree) → IsTableOf db of → (of.name ≡ name → ⊥) → AllByRecursion (λ foreign. foreign.parent ≡ name → ⊥) of.foreigns
    unreferring of before other =
        all_more (λ foreign. same_units foreign.parent name ≡ false) (λ foreign. foreign.parent ≡ name → ⊥) (λ foreign. not_same foreign.parent name) of.foreigns (none_any (λ foreign. same_units foreign.parent name) of.foreigns refers_not)
      where
        by_name : (b : Bool) → same_units of.name name ≡ b → (not b && refers name of) ≡ false → refers name of ≡ false
        by_name true is none = let both : false ≡ true = sym (names_apart of.name name other) ∙ is in cc
        by_name false apart none = none

        refers_not : refers name of ≡ false
        refers_not =
            by_name (same_units of.name name) refl
            (of_found (λ table. (not (same_units table.name name) && refers name table) ≡ false) (rows_table of.name) tables of (given.found of before) (none_any (λ table. not (same_units table.name name) && refers name table) tables erased.unreferred))

    -- ---- the parts of `Firm`

    all_definitions : (key row : List Value) → after (rows_table objects_name) key ≡ Some row → DefinesOne key row
    all_definitions key row stands = by_test (same (object_key name) key) refl
      where
        by_test : (b : Bool) → same (object_key name) key ≡ b → DefinesOne key row
        by_test true at = let both : None ≡ Some row = sym (at_name key at) ∙ stands in cc
        by_test false apart = firm.definitions key row (sym (at_other key apart) ∙ stands)

    all_known : (of : TableName) (key row : List Value) → after of key ≡ Some row → IsKnown after of
    all_known of key row stands = by_test (is_table objects_name of) refl
      where
        known_stays : is_table name of ≡ false → IsKnown db of → IsKnown after of
        known_stays other (inl own) = inl own
        known_stays other (inr known) = inr (known.0, stays known.0.name (Table known.0) known.1 apart, known.2)
          where
            apart : known.0.name ≡ name → ⊥
            apart is = let both : false ≡ true = sym other ∙ ap (is_table name) (known.2 ∙ ap rows_table is) ∙ table_itself name in cc

        by_name : (b : Bool) → is_table name of ≡ b → is_table objects_name of ≡ false → IsKnown after of
        by_name true own apart = let both : None ≡ Some row = sym (gone key) ∙ ap (λ (t : TableName). mid t key) (sym (table_is name of own)) ∙ sym (there of apart key) ∙ stands in cc
        by_name false other apart = known_stays other (firm.known of key row (sym (other_there of apart other key) ∙ stands))

        by_test : (b : Bool) → is_table objects_name of ≡ b → IsKnown after of
        by_test true own = inl (table_is objects_name of own)
        by_test false apart = by_name (is_table name of) refl apart

    all_keep : (of : TableTree) → IsTableOf after of → Keeps after of
    all_keep of now =
        let before = was of.name (Table of) now in
        let keeps = firm.kept of before.0 in (
          keeps.0,
          keeps.1,
          kept_too db after of keeps.0 (same_there of.name (not_objects db firm of.name (Table of) before.0) before.1)
              (all_two (HasParentTable db of) (λ foreign. foreign.parent ≡ name → ⊥) (λ foreign. SameRows db after foreign.parent) parent_same of.foreigns (firm.parents of before.0) (unreferring of before.0 before.1)) keeps.2,
        )
      where
        parent_same : (foreign : ForeignTree) → HasParentTable db of foreign → (foreign.parent ≡ name → ⊥) → SameRows db after foreign.parent
        parent_same foreign has other = same_there foreign.parent (subst (λ (n : List ℕ). is_objects n ≡ false) has.2.0 (not_objects db firm has.0.name (Table has.0) has.1)) other

    all_parents : (of : TableTree) → IsTableOf after of → HasParentTables after of
    all_parents of now =
        let before = was of.name (Table of) now in
        all_two (HasParentTable db of) (λ foreign. foreign.parent ≡ name → ⊥) (HasParentTable after of) parent_stays of.foreigns (firm.parents of before.0) (unreferring of before.0 before.1)
      where
        parent_stays : (foreign : ForeignTree) → HasParentTable db of foreign → (foreign.parent ≡ name → ⊥) → HasParentTable after of foreign
        parent_stays foreign has other = (has.0, stays has.0.name (Table has.0) has.1 (λ is. other (sym has.2.0 ∙ is)), has.2)

    all_triggers : (of : List ℕ) (trigger : TriggerTree) → IsDefined after of (Trigger trigger) → HasTable after trigger.table
    all_triggers of trigger now =
        let before = was of (Trigger trigger) now in
        has_stays trigger.table (firm.triggers of trigger before.0) (erased.unfired of trigger before.0)

pub firm_dropped : FirmDropped
firm_dropped db tables shape changes firm given erased = record {
  one_key = one_behind (with_definition shape.name changes) db firm.one_key;
  definitions = all_definitions db shape changes firm erased.defined erased.of_table tables given erased;
  known = all_known db shape changes firm erased.defined erased.of_table tables given erased;
  few = λ of now. firm.few of (was db shape changes firm erased.defined erased.of_table of.name (Table of) now).0;
  kept = all_keep db shape changes firm erased.defined erased.of_table tables given erased;
  parents = all_parents db shape changes firm erased.defined erased.of_table tables given erased;
  triggers = all_triggers db shape changes firm erased.defined erased.of_table tables given erased;
}

pub untriggered_dropped : UntriggeredDropped
untriggered_dropped db shape changes firm is of_table none name trigger now = none name trigger (was db shape changes firm is of_table name (Trigger trigger) now).0
