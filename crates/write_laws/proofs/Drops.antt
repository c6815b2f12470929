-- What DROP TABLE plans keeps a database firm.
use Rattle.std.proofs.Common.{◌≡◌, refl, sym, ap, ◌∙◌, subst, inl, inr, ℕ, Bool, true, false, ◌||◌, ◌&&◌, if◌then◌else◌, List, [], ◌∷◌, ◌++◌, map, Option, Some, None, IsSome, Result, Ok, Err}
use Rattle.std.proofs.lemmas.Bool.{and_parts}
use Rattle.std.proofs.lemmas.List.Elements.{recursion_from_All}
use Rattle.std.specs.List.{AllByRecursion, cons_option, list_any}
use Rattle.std.specs.Prelude.{IsTrue}
use Rattle.std.specs.Cmp.Lexicographic.{bytes_decides}
use Rattle.std.specs.Ordering.{is_eq}
use Rattle.std.proofs.lemmas.List.{map-append}
use Rattle.value_types.specs.declared.table_name.TableName.{TableName}
use Rattle.value_types.specs.declared.value.Value.{Value}
use Rattle.value_types.specs.Order.{table_cmp}
use Rattle.value_types.specs.Units.{same_units}
use Rattle.tsql_tree.specs.declared.definition.Definition.{Definition}
use Rattle.tsql_tree.specs.declared.definition.Definition.TheVariants.{Table, Procedure, Trigger}
use Rattle.tsql_tree.specs.declared.definition.TableTree.{TableTree}
use Rattle.tsql_tree.specs.declared.definition.TriggerTree.{TriggerTree}
use Rattle.tsql_tree.specs.Places.{key_places}
use Rattle.step_model.specs.declared.change.Planned.{Planned}
use Rattle.step_model.specs.Database.{Database, With, with_change}
use Rattle.step_model.specs.Own.{change_of, is_own, own_changes, row_of}
use Rattle.step_model.proofs.Databases.{With-append}
use Rattle.table_rows.specs.Definitions.{defined_name, object_key, objects_name, tables_of}
use Rattle.table_rows.specs.Rows.{has_columns, key_of, rows_table, same_key}
use Rattle.constraint_check.specs.Laws.{behind}
use Rattle.constraint_check.specs.Reads.{is_erase}
use Rattle.constraint_check.proofs.Behind.{same, same_back, same_itself, same_on}
use Rattle.constraint_check.proofs.Lists.{Among, all_more, among_any, among_both}
use Rattle.dml_exec.specs.declared.rewritten.Rewritten.TheVariants.{Erased}
use Rattle.dml_exec.specs.Filling.{Row}
use Rattle.dml_exec.specs.Planning.{Chg, all_changes, erasure, rewritten}
use Rattle.dml_exec.specs.Reading.{fits}
use Rattle.batch_meaning.specs.declared.failure.Failure.{Failure}
use Rattle.batch_meaning.specs.Changing.{definition_erased, dropped_as, is_parent, is_referred, planned_as, triggers_of, whole, with_definitions}
use Rattle.batch_meaning.specs.Failures.{naming}
use Rattle.batch_meaning.specs.Progress.{SessionProgress, system_in, values_of}
use Rattle.batch_meaning.specs.Raised.{Around}
use Rattle.write_laws.specs.Sound.{Firm, IsDefined, IsTableOf}
use Rattle.write_laws.specs.Keeping.{AreDefinitions, AreErased, AreTables, IsAmong, with_definition}
use Rattle.write_laws.specs.Plans.{IsDropPlanned, FirmDropPlanned}
use Rattle.write_laws.proofs.Changes.{all_both, all_kept, kept_both}
use Rattle.write_laws.proofs.Defined.{names_apart, not_objects, not_same}
use Rattle.write_laws.proofs.Dropped.{firm_dropped, none_left}
use Rattle.write_laws.proofs.Elsewhere.{all_each, is_table, table_is, tables_apart, untouched}
use Rattle.write_laws.proofs.Erased.{AreNoTables, all_of_objects, erased_all, erased_own, firm_all, no_table, stay_all, was_all}
use Rattle.write_laws.proofs.OwnPlans.{own_of_plan}
use Rattle.write_laws.proofs.Plans.{as_planned, made_of}

-- ---- lists

any_here : {A : Type 0} (p : A → Bool) (xs : List A) → Among (λ x. p x ≡ true) xs → list_any p xs ≡ true
any_here p [] none = absurd none
any_here p (x ∷ xs) (inl here) = ap (λ (b : Bool). b || list_any p xs) here
any_here p (x ∷ xs) (inr later) = by_test (p x) (any_here p xs later)
  where
    by_test : (b : Bool) → list_any p xs ≡ true → (b || list_any p xs) ≡ true
    by_test true any = refl
    by_test false any = any

any_map : {A B : Type 0} (p : B → Bool) (f : A → B) (xs : List A) → list_any p (map f xs) ≡ list_any (λ x. p (f x)) xs
any_map p f [] = refl
any_map p f (x ∷ xs) = ap (λ (b : Bool). p (f x) || b) (any_map p f xs)

-- ---- the plan

-- without a test all rows of the image are meant
all_meant : (vars system : List Value) (shape : TableTree) (rows : List Row) → rewritten vars system shape (whole shape.name) (rows ∷ []) ≡ Ok (Erased rows)
all_meant vars system shape rows = ap (λ (list : List Row). Ok (Erased list)) (all_kept (λ row. true) rows (all_each (λ row. true ≡ true) (λ row. refl) rows))

abbrev erasures : TableTree → List Row → List Planned
erasures shape rows = map (erasure (rows_table shape.name) (key_places (Some shape))) rows

-- with those of their index rows
abbrev pub all_gone : TableTree → List Row → List Planned
all_gone shape rows = all_changes (rows_table shape.name) shape (Erased rows)

drop_plan : (vars system : List Value) (shape : TableTree) (rows : List Row) (changes : List Planned) → Chg vars system shape [] (whole shape.name) (rows ∷ []) ≡ Ok changes → changes ≡ all_gone shape rows
drop_plan vars system shape rows changes e =
    let made = made_of vars system shape [] (whole shape.name) (rows ∷ []) changes e in
    let both : Ok made.0 ≡ Ok (Erased rows) = sym made.1 ∙ all_meant vars system shape rows in
    let came : made.0 ≡ Erased rows = cc in
    made.2 ∙ ap (all_changes (rows_table shape.name) shape) came

dropped_is : (definitions : List Definition) (shape : TableTree) (rows : List Row) (planned : List Planned) (outcome : Result (List Planned) Failure) → ((changes : List Planned) → outcome ≡ Ok changes → changes ≡ all_gone shape rows)
    → dropped_as definitions shape.name outcome ≡ Ok planned → planned ≡ with_definitions definitions shape.name (all_gone shape rows)
dropped_is definitions shape rows planned (Ok changes) so e = let same : with_definitions definitions shape.name changes ≡ planned = cc in sym same ∙ ap (with_definitions definitions shape.name) (so changes refl)
dropped_is definitions shape rows planned (Err failure) so e = cc

abbrev unless : List ℕ → Bool → Result (Unit {0}) Failure
unless name b = if b then Err (naming is_parent name) else Ok tt

not_referred : (b : Bool) (name : List ℕ) → unless name b ≡ Ok tt → b ≡ false
not_referred true name e = cc
not_referred false name e = refl

module _ (around : Around) (p : SessionProgress) (db : Database) (definitions : List Definition) (shape : TableTree) (rows : List Row) (planned : List Planned) (firm : Firm db) (is : IsDropPlanned around p db definitions shape rows planned) where
  pub plan : planned ≡ with_definitions definitions shape.name (all_gone shape rows)
  plan = dropped_is definitions shape rows planned (planned_as (Chg (values_of p.vars) (system_in around p) shape [] (whole shape.name) (rows ∷ []))) (λ changes e. drop_plan (values_of p.vars) (system_in around p) shape rows changes (as_planned _ changes e)) is.plans

  -- of which these are of own rows
  own_plan : own_changes planned ≡ with_definitions definitions shape.name (erasures shape rows)
  own_plan =
      let behind_rows : List Planned = erased_all (triggers_of shape.name definitions) ++ definition_erased shape.name ∷ [] in
      ap own_changes plan
      ∙ kept_both is_own (all_gone shape rows) behind_rows
      ∙ ap (λ (list : List Planned). list ++ own_changes behind_rows) (own_of_plan shape (Erased rows))
      ∙ ap (λ (list : List Planned). erasures shape rows ++ list)
      (all_kept is_own behind_rows (all_both (λ change. is_own change ≡ true) (erased_all (triggers_of shape.name definitions)) (definition_erased shape.name ∷ []) (erased_own (triggers_of shape.name definitions)) (refl, tt)))

  of_table : AllByRecursion (λ change. change.table ≡ rows_table shape.name) (erasures shape rows)
  of_table = all_made rows
    where
      all_made : (rows : List Row) → AllByRecursion (λ change. change.table ≡ rows_table shape.name) (erasures shape rows)
      all_made [] = tt
      all_made (row ∷ rows) = (refl, all_made rows)

  erase : (rows : List Row) → AllByRecursion (λ change. is_erase change.deed ≡ true) (erasures shape rows)
  erase [] = tt
  erase (row ∷ rows) = (refl, erase rows)

  abbrev Entry : Type 0
  Entry = List Value × List Value

  abbrev entries : List Entry
  entries = is.read.0

  stand : AllByRecursion (λ (at : Entry). IsTrue true × (db (rows_table shape.name) at.0 ≡ Some at.1)) entries
  stand = recursion_from_All (λ (at : Entry). IsTrue true × (db (rows_table shape.name) at.0 ≡ Some at.1)) entries is.read.1.rows_of_range

  -- each row that is read fits
  fit : (at : Entry) → IsTrue true × (db (rows_table shape.name) at.0 ≡ Some at.1) → fits (Some shape) 0 at ≡ true
  fit at h = (firm.kept shape is.defined).2.fits at.0 at.1 h.1

  all_fit : (list : List Entry) → AllByRecursion (λ (at : Entry). IsTrue true × (db (rows_table shape.name) at.0 ≡ Some at.1)) list → AllByRecursion (λ at. fits (Some shape) 0 at ≡ true) list
  all_fit [] all = tt
  all_fit (at ∷ list) all = (fit at all.0, all_fit list all.1)

  rows_are : rows ≡ map (λ (at : Entry). at.1) entries
  rows_are = is.read.2 ∙ ap (map (λ (at : Entry). at.1)) (all_kept (fits (Some shape) 0) entries (all_fit entries stand))

  -- each row that stands is one that was read
  pub read_among : (key base : List Value) → db (rows_table shape.name) key ≡ Some base → Among (λ row. row ≡ base) rows
  read_among key base there =
      subst (Among (λ (row : Row). row ≡ base)) (sym rows_are)
      (of_entries entries
      (among_both (λ (at : Entry). IsTrue true × (db (rows_table shape.name) at.0 ≡ Some at.1)) (λ (at : Entry). same_key key at.0 ≡ true) entries stand
      (among_any (λ (at : Entry). same_key key at.0) entries (is.read.1.whole key refl (subst (λ (o : Option (List Value)). IsSome o) (sym there) refl)))))
    where
      one : (at : Entry) → db (rows_table shape.name) at.0 ≡ Some at.1 → same_key key at.0 ≡ true → at.1 ≡ base
      one at stands alike = let both : Some at.1 ≡ Some base = sym stands ∙ sym (firm.one_key (rows_table shape.name) key at.0 alike) ∙ there in cc

      of_entries : (list : List Entry) → Among (λ (at : Entry). (IsTrue true × (db (rows_table shape.name) at.0 ≡ Some at.1)) × (same_key key at.0 ≡ true)) list → Among (λ (row : Row). row ≡ base) (map (λ (at : Entry). at.1) list)
      of_entries [] none = none
      of_entries (at ∷ list) (inl here) = inl (one at here.0.1 here.1)
      of_entries (at ∷ list) (inr later) = inr (of_entries list later)

  -- and is erased at its own key
  own_key : (key : List Value) (at : Entry) → (fits (Some shape) 0 at ≡ true) × (same_key key at.0 ≡ true) → same_key (key_of shape at.1) key ≡ true
  own_key key at h =
      let own = and_parts (has_columns shape.columns at.1) (same_key (key_of shape at.1) at.0) h.0 in
      same_on (key_of shape at.1) at.0 key own.1 (same_back key at.0 h.1)

  erased_rows : (key : List Value) → IsSome (db (rows_table shape.name) key) → IsTrue (list_any (λ (change : Planned). same_key change.key key) (erasures shape rows))
  erased_rows key some =
      let test : Row → Bool = λ row. same_key (key_of shape row) key in
      let among = among_both (λ at. fits (Some shape) 0 at ≡ true) (λ (at : Entry). same_key key at.0 ≡ true) entries (all_fit entries stand) (among_any (λ (at : Entry). same_key key at.0) entries (is.read.1.whole key refl some)) in
      any_map (λ (change : Planned). same_key change.key key) (erasure (rows_table shape.name) (key_places (Some shape))) rows
      ∙ ap (list_any test) rows_are
      ∙ any_map test (λ (at : Entry). at.1) entries
      ∙ any_here (λ (at : Entry). test at.1) entries (among_keyed entries among)
    where
      among_keyed : (list : List Entry) → Among (λ at. (fits (Some shape) 0 at ≡ true) × (same_key key at.0 ≡ true)) list → Among (λ at. same_key (key_of shape at.1) key ≡ true) list
      among_keyed [] none = none
      among_keyed (at ∷ list) (inl here) = inl (own_key key at here)
      among_keyed (at ∷ list) (inr later) = inr (among_keyed list later)

  -- ---- where its triggers are erased first

  abbrev fired : List (List ℕ)
  fired = triggers_of shape.name definitions

  abbrev left : Database
  left = behind db (erased_all fired)

  module _ (given : AreDefinitions db definitions) where
    trigger_alone : (trigger : TriggerTree) (of : TableTree) → Trigger trigger ≡ Table of → ⊥
    trigger_alone trigger of is = cc

    no_tables : AreNoTables db fired
    no_tables = all_none definitions given.defined
      where
        all_none : (list : List Definition) → AllByRecursion (λ definition. IsDefined db (defined_name definition) definition) list → AreNoTables db (triggers_of shape.name list)
        all_none [] all = tt
        all_none (Table of ∷ rest) all = all_none rest all.1
        all_none (Procedure of ∷ rest) all = all_none rest all.1
        all_none (Trigger of ∷ rest) all = by_test (same_units of.table shape.name) (all_none rest all.1)
          where
            by_test : (b : Bool) → AreNoTables db (triggers_of shape.name rest) → AreNoTables db (cons_option (if b then Some of.name else None) (triggers_of shape.name rest))
            by_test true others = (no_table db firm of.name (Trigger of) all.0 (trigger_alone of), others)
            by_test false others = others

    is_there : IsTableOf left shape
    is_there = stay_all fired db no_tables shape is.defined

    tables_left : AreTables left (tables_of definitions)
    tables_left = record {
      defined = all_more (IsTableOf db) (IsTableOf left) (λ of before. stay_all fired db no_tables of before) (tables_of definitions) given.tables.defined;
      found = λ of now. given.tables.found of (was_all fired db of.name (Table of) now);
    }

    rows_left : (key : List Value) → left (rows_table shape.name) key ≡ db (rows_table shape.name) key
    rows_left key = untouched objects_name (rows_table shape.name)
        (tables_apart objects_name shape.name (names_apart objects_name shape.name (λ same. not_same shape.name objects_name (not_objects db firm shape.name (Table shape) is.defined) (sym same))))
        (erased_all fired) (all_of_objects fired) db key

    -- a trigger of the table is among those that are erased
    among_fired : (trigger : TriggerTree) → trigger.table ≡ shape.name → (list : List Definition) → IsAmong (Trigger trigger) list → Among (λ change. same change.key (object_key trigger.name) ≡ true) (erased_all (triggers_of shape.name list))
    among_fired trigger on [] none = absurd none
    among_fired trigger on (Table of ∷ rest) (inl here) = absurd (trigger_alone trigger of (sym here))
    among_fired trigger on (Table of ∷ rest) (inr later) = among_fired trigger on rest later
    among_fired trigger on (Procedure of ∷ rest) (inl here) = absurd (let no : Procedure of ≡ Trigger trigger = here in cc)
    among_fired trigger on (Procedure of ∷ rest) (inr later) = among_fired trigger on rest later
    among_fired trigger on (Trigger of ∷ rest) (inl here) =
        let same_trigger : of ≡ trigger = cc in
        let fires : same_units of.table shape.name ≡ true = (bytes_decides of.table shape.name).1 (ap (λ (t : TriggerTree). t.table) same_trigger ∙ on) in
        by_test (same_units of.table shape.name) fires (ap (λ (t : TriggerTree). t.name) same_trigger)
      where
        by_test : (b : Bool) → b ≡ true → of.name ≡ trigger.name
            → Among (λ change. same change.key (object_key trigger.name) ≡ true) (erased_all (cons_option (if b then Some of.name else None) (triggers_of shape.name rest)))
        by_test true fires names = inl (ap (λ (n : List ℕ). same (object_key n) (object_key trigger.name)) names ∙ same_itself (object_key trigger.name))
        by_test false fires names = cc
    among_fired trigger on (Trigger of ∷ rest) (inr later) = by_test (same_units of.table shape.name) (among_fired trigger on rest later)
      where
        by_test : (b : Bool) → Among (λ change. same change.key (object_key trigger.name) ≡ true) (erased_all (triggers_of shape.name rest))
            → Among (λ change. same change.key (object_key trigger.name) ≡ true) (erased_all (cons_option (if b then Some of.name else None) (triggers_of shape.name rest)))
        by_test true others = inr others
        by_test false others = others

    all_erase : (names : List (List ℕ)) → AllByRecursion (λ change. is_erase change.deed ≡ true) (erased_all names)
    all_erase [] = tt
    all_erase (name ∷ names) = (refl, all_erase names)

    unfired : (name : List ℕ) (trigger : TriggerTree) → IsDefined left name (Trigger trigger) → trigger.table ≡ shape.name → ⊥
    unfired name trigger now on =
        let before = was_all fired db name (Trigger trigger) now in
        let named : trigger.name ≡ name = before.2.2.named in
        let gone : left (rows_table objects_name) (object_key trigger.name) ≡ None =
        none_left objects_name (erased_all fired) (all_of_objects fired) (all_erase fired) db (object_key trigger.name) (among_fired trigger on definitions (given.found name (Trigger trigger) before)) in
        let both : None ≡ Some now.0 = sym gone ∙ ap (λ (n : List ℕ). left (rows_table objects_name) (object_key n)) named ∙ now.1 in
        cc

    pub erased : AreErased left (tables_of definitions) shape (erasures shape rows)
    erased = record {
      defined = is_there;
      of_table = of_table;
      erases = erase rows;
      whole = λ key some. erased_rows key (subst (λ (o : Option (List Value)). IsSome o) (rows_left key) some);
      unreferred = not_referred (is_referred shape.name (tables_of definitions)) shape.name is.unreferred;
      unfired = unfired;
    }

    firm_left : Firm left
    firm_left = firm_all fired db firm no_tables

    pub firm_first : Firm (behind left (with_definition shape.name (erasures shape rows)))
    firm_first = firm_dropped left (tables_of definitions) shape (erasures shape rows) firm_left tables_left erased

    -- ---- in whichever order

    apart : (of : TableName) → is_table objects_name of ≡ true → is_table shape.name of ≡ false
    apart of own = ap (is_table shape.name) (table_is objects_name of own) ∙ tables_apart shape.name objects_name (not_objects db firm shape.name (Table shape) is.defined)

    -- of a table whose rows are the same the same changes make the same
    agree : (changes : List Planned) (one other : Database) (of : TableName) → ((key : List Value) → one of key ≡ other of key) → (key : List Value) → behind one changes of key ≡ behind other changes of key
    agree [] one other of same_rows key = same_rows key
    agree (change ∷ changes) one other of same_rows key = agree changes (with_change one (change_of change)) (with_change other (change_of change)) of
        (λ key. ap (λ (o : Option (List Value)). if is_eq (table_cmp change.table of) && same change.key key then row_of change.deed else o) (same_rows key)) key

    swapped : (of : TableName) (key : List Value) → behind (behind db (erasures shape rows)) (erased_all fired) of key ≡ behind left (erasures shape rows) of key
    swapped of key = by_test (is_table objects_name of) refl
      where
        by_test : (b : Bool) → is_table objects_name of ≡ b → behind (behind db (erasures shape rows)) (erased_all fired) of key ≡ behind left (erasures shape rows) of key
        by_test true own =
            agree (erased_all fired) (behind db (erasures shape rows)) db of (untouched shape.name of (apart of own) (erasures shape rows) of_table db) key
            ∙ sym (untouched shape.name of (apart of own) (erasures shape rows) of_table left key)
        by_test false other =
            untouched objects_name of other (erased_all fired) (all_of_objects fired) (behind db (erasures shape rows)) key
            ∙ sym (agree (erasures shape rows) left db of (untouched objects_name of other (erased_all fired) (all_of_objects fired) db) key)

    both_of : (d : Database) (xs ys : List Planned) → behind d (xs ++ ys) ≡ behind (behind d xs) ys
    both_of d xs ys = ap (With d) (map-append change_of xs ys) ∙ With-append d (map change_of xs) (map change_of ys)

    pub in_order : behind left (with_definition shape.name (erasures shape rows)) ≡ behind db (with_definitions definitions shape.name (erasures shape rows))
    in_order =
        both_of left (erasures shape rows) (definition_erased shape.name ∷ [])
        ∙ ap (λ (d : Database). behind d (definition_erased shape.name ∷ [])) (λ i of key. sym (swapped of key) i)
        ∙ sym (both_of (behind db (erasures shape rows)) (erased_all fired) (definition_erased shape.name ∷ []))
        ∙ sym (both_of db (erasures shape rows) (erased_all fired ++ definition_erased shape.name ∷ []))

pub firm_drop_planned : FirmDropPlanned
firm_drop_planned around p db definitions shape rows planned firm given is =
    subst (λ (list : List Planned). Firm (behind db list)) (sym (own_plan around p db definitions shape rows planned firm is))
    (subst Firm (in_order around p db definitions shape rows planned firm is given) (firm_first around p db definitions shape rows planned firm is given))
