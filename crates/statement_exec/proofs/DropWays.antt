-- What DROP does by what was found, and what refers to a table.
use Rattle.std.proofs.Common.{◌≡◌, ℕ, ◌+◌, ◌<◌, ◌≤◌, ◌||◌, not, ◌&&◌, Bool, true, false, if◌then◌else◌, List, [], ◌∷◌, ◌++◌, filter_map, get_or, length, map, option_to_list, take, Option, Some, None, Result, Ok, Err, IfOk, inl, inr, refl, sym, ap, ◌∙◌, subst, append_assoc}
use Rattle.std.proofs.lemmas.List.{map-append, take_all, take_more}
use Rattle.std.proofs.lemmas.List.Elements.{filter_map-append}
use Rattle.std.specs.List.{list_any}
use Rattle.value_types.specs.Units.{same_units}
use Rattle.value_types.specs.declared.value.Value.{Value}
use Rattle.tsql_tree.specs.declared.definition.Definition.{Definition}
use Rattle.tsql_tree.specs.declared.definition.Definition.TheVariants.{Table, Procedure, Trigger}
use Rattle.tsql_tree.specs.declared.definition.ProcedureTree.{ProcedureTree}
use Rattle.tsql_tree.specs.declared.definition.TableTree.{TableTree}
use Rattle.tsql_tree.specs.declared.definition.TriggerTree.{TriggerTree}
use Rattle.tsql_tree.specs.declared.statement.DropKind.{DropKind}
use Rattle.tsql_tree.specs.declared.statement.DropKind.TheVariants as drop
use Rattle.bound_tree.specs.declared.write.Bound.TheVariants as bound
use Rattle.table_rows.specs.Definitions.{tables_of}
use Rattle.value_types.specs.declared.memory.Memory.{Memory}
use Rattle.step_model.specs.declared.change.Planned.{Planned}
use Rattle.step_model.specs.Port.{PortPast}
use Rattle.step_model.specs.Ranges.{Rows, no_memory}
use Rattle.dml_exec.specs.declared.refusal.Level.{Level}
use Rattle.dml_exec.specs.Reading.{GivenRows, images_of}
use Rattle.batch_meaning.specs.declared.failure.Failure.{Failure}
use Rattle.batch_meaning.specs.Failures.{plain}
use Rattle.batch_meaning.specs.Raised.{Around}
use Rattle.batch_meaning.specs.Changing.{definition_erased, is_parent, is_referred, not_there, refers, trigger_of, unless_referred, whole, with_definitions}
use Rattle.session_state.specs.Parts.{IsNamed, IsOrMemory}
use Rattle.batch_meaning.specs.Doing.{Did, Doing}
use Rattle.batch_meaning.specs.Progress.{SessionProgress}
use Rattle.batch_meaning.specs.Selecting.{Effect}
use Rattle.batch_meaning.specs.Asking.{fails_naming, reads_at, reads_definitions}
use Rattle.batch_meaning.specs.Writes.{drops_definition, drops_found, drops_table}
use Rattle.batch_meaning.proofs.Composed.{does_fail, does_over, does_room}
use Rattle.statement_exec.specs.Dropped.{is_found, refers_from}

pub found_none : (kind : DropKind) (name : List ℕ) → false ≡ is_found kind name None
found_none drop.Table name = refl
found_none drop.Procedure name = refl
found_none drop.Trigger name = refl

-- nothing of that name and kind was found
unnamed : (same : Bool) (tree other : Doing (Result Effect Failure)) → same ≡ false → (if same then tree else other) ≡ other
unnamed true tree other no_name = absurd (let not_so : true ≡ false = no_name in cc)
unnamed false tree other no_name = refl

pub drops_none : (around : Around) (kind : DropKind) (name : List ℕ) (found : Option Definition) → is_found kind name found ≡ false → drops_found around kind name found ≡ fails_naming not_there name
drops_none around drop.Table name (Some (Table table)) none = unnamed (same_units table.name name) _ _ none
drops_none around drop.Table name (Some (Procedure procedure)) none = refl
drops_none around drop.Table name (Some (Trigger trigger)) none = refl
drops_none around drop.Table name None none = refl
drops_none around drop.Procedure name (Some (Table table)) none = refl
drops_none around drop.Procedure name (Some (Procedure procedure)) none = unnamed (same_units procedure.name name) _ _ none
drops_none around drop.Procedure name (Some (Trigger trigger)) none = refl
drops_none around drop.Procedure name None none = refl
drops_none around drop.Trigger name (Some (Table table)) none = refl
drops_none around drop.Trigger name (Some (Procedure procedure)) none = refl
drops_none around drop.Trigger name (Some (Trigger trigger)) none = unnamed (same_units trigger.name name) _ _ none
drops_none around drop.Trigger name None none = refl

-- it was
named : (same : Bool) (tree other : Doing (Result Effect Failure)) → same ≡ true → (if same then tree else other) ≡ tree
named true tree other name = refl
named false tree other name = absurd (let not_so : false ≡ true = name in cc)

no_found : {A : Type 0} → false ≡ true → A
no_found found = absurd (let not_so : false ≡ true = found in cc)

pub drops_one_table : (around : Around) (kind : DropKind) (name : List ℕ) (table : TableTree) → is_found kind name (Some (Table table)) ≡ true → drops_found around kind name (Some (Table table)) ≡ drops_table around table name
drops_one_table around drop.Table name table found = named (same_units table.name name) _ _ found
drops_one_table around drop.Procedure name table found = no_found found
drops_one_table around drop.Trigger name table found = no_found found

pub drops_procedure : (around : Around) (kind : DropKind) (name : List ℕ) (procedure : ProcedureTree) → is_found kind name (Some (Procedure procedure)) ≡ true → drops_found around kind name (Some (Procedure procedure)) ≡ drops_definition around name
drops_procedure around drop.Procedure name procedure found = named (same_units procedure.name name) _ _ found
drops_procedure around drop.Table name procedure found = no_found found
drops_procedure around drop.Trigger name procedure found = no_found found

pub drops_trigger : (around : Around) (kind : DropKind) (name : List ℕ) (trigger : TriggerTree) → is_found kind name (Some (Trigger trigger)) ≡ true → drops_found around kind name (Some (Trigger trigger)) ≡ drops_definition around name
drops_trigger around drop.Trigger name trigger found = named (same_units trigger.name name) _ _ found
drops_trigger around drop.Table name trigger found = no_found found
drops_trigger around drop.Procedure name trigger found = no_found found

module _ {before after : PortPast} (around : Around) (kind : DropKind) (name : List ℕ) (found : Option Definition) {p new : SessionProgress} {result : Result (Result Effect Failure) Memory} (yes : true ≡ is_found kind name found) where
  pub does_table : (table : TableTree) → found ≡ Some (Table table) → Did before after (drops_table around table name) p result new → Did before after (drops_found around kind name found) p result new
  does_table table is did = subst (λ (f : Option Definition). Did before after (drops_found around kind name f) p result new) (sym is)
      (subst (λ (tree : Doing (Result Effect Failure)). Did before after tree p result new) (sym (drops_one_table around kind name table (ap (is_found kind name) (sym is) ∙ sym yes))) did)

  pub does_procedure : (procedure : ProcedureTree) → found ≡ Some (Procedure procedure) → Did before after (drops_definition around name) p result new → Did before after (drops_found around kind name found) p result new
  does_procedure procedure is did = subst (λ (f : Option Definition). Did before after (drops_found around kind name f) p result new) (sym is)
      (subst (λ (tree : Doing (Result Effect Failure)). Did before after tree p result new) (sym (drops_procedure around kind name procedure (ap (is_found kind name) (sym is) ∙ sym yes))) did)

  pub does_trigger : (trigger : TriggerTree) → found ≡ Some (Trigger trigger) → Did before after (drops_definition around name) p result new → Did before after (drops_found around kind name found) p result new
  does_trigger trigger is did = subst (λ (f : Option Definition). Did before after (drops_found around kind name f) p result new) (sym is)
      (subst (λ (tree : Doing (Result Effect Failure)). Did before after tree p result new) (sym (drops_trigger around kind name trigger (ap (is_found kind name) (sym is) ∙ sym yes))) did)

-- memory is wanting before anything is asked
either : {past : PortPast} {p : SessionProgress} {result : Result (Result Effect Failure) Memory} (same : Bool) (tree other : Doing (Result Effect Failure)) → Did past past tree p result p → Did past past other p result p → Did past past (if same then tree else other) p result p
either true tree other one two = one
either false tree other one two = two

module _ {past : PortPast} {p : SessionProgress} where
  table_wanting : (around : Around) (table : TableTree) (name : List ℕ) → Did past past (drops_table around table name) p (Ok (Err (plain no_memory))) p
  unfolding drops_table reads_definitions
  table_wanting around table name = does_fail _ _ {failure = plain no_memory} (Err (plain no_memory)) refl refl (does_room false (does_over refl))

  definition_wanting : (around : Around) (name : List ℕ) → Did past past (drops_definition around name) p (Ok (Err (plain no_memory))) p
  unfolding drops_definition
  definition_wanting around name = does_fail _ _ {failure = plain no_memory} (Err (plain no_memory)) refl refl (does_room false (does_over refl))

  naming_wanting : (name : List ℕ) → Did past past (fails_naming {A = Effect} not_there name) p (Ok (Err (plain no_memory))) p
  naming_wanting name = does_room false (does_over refl)

  pub drops_wanting : (around : Around) (kind : DropKind) (name : List ℕ) (found : Option Definition) → Did past past (drops_found around kind name found) p (Ok (Err (plain no_memory))) p
  drops_wanting around drop.Table name (Some (Table table)) = either (same_units table.name name) _ _ (table_wanting around table name) (naming_wanting name)
  drops_wanting around drop.Procedure name (Some (Procedure procedure)) = either (same_units procedure.name name) _ _ (definition_wanting around name) (naming_wanting name)
  drops_wanting around drop.Trigger name (Some (Trigger trigger)) = either (same_units trigger.name name) _ _ (definition_wanting around name) (naming_wanting name)
  drops_wanting around drop.Table name (Some (Procedure procedure)) = naming_wanting name
  drops_wanting around drop.Table name (Some (Trigger trigger)) = naming_wanting name
  drops_wanting around drop.Procedure name (Some (Table table)) = naming_wanting name
  drops_wanting around drop.Procedure name (Some (Trigger trigger)) = naming_wanting name
  drops_wanting around drop.Trigger name (Some (Table table)) = naming_wanting name
  drops_wanting around drop.Trigger name (Some (Procedure procedure)) = naming_wanting name
  drops_wanting around drop.Table name None = naming_wanting name
  drops_wanting around drop.Procedure name None = naming_wanting name
  drops_wanting around drop.Trigger name None = naming_wanting name

-- ---- what refers to a table

pub referred : (name : List ℕ) (definitions : List Definition) → list_any (refers_from name) definitions ≡ is_referred name (tables_of definitions)
referred name [] = refl
referred name (Table table ∷ definitions) = ap (λ (b : Bool). (not (same_units table.name name) && refers name table) || b) (referred name definitions)
referred name (Procedure procedure ∷ definitions) = referred name definitions
referred name (Trigger trigger ∷ definitions) = referred name definitions

pub parent_so : (name : List ℕ) (definitions : List Definition) (failure : Failure) → true ≡ list_any (refers_from name) definitions → IsNamed is_parent name failure → IsOrMemory (unless_referred name (tables_of definitions)) (Err failure)
parent_so name definitions failure refers (inl same) = rw (sym (refers ∙ referred name definitions)) (inl (ap Err same))
parent_so name definitions failure refers (inr none) = inr (ap Err none)

pub free_so : (name : List ℕ) (definitions : List Definition) → false ≡ list_any (refers_from name) definitions → IsOrMemory (unless_referred name (tables_of definitions)) (Ok tt)
free_so name definitions free = rw (sym (free ∙ referred name definitions)) (inl refl)

-- ---- the triggers of a table

trigger_alone : (table : List ℕ) (definition : Definition) → option_to_list (trigger_of table definition) ≡ filter_map (trigger_of table) (definition ∷ [])
trigger_alone table definition = by_option (trigger_of table definition) refl
  where
    by_option : (o : Option (List ℕ)) → trigger_of table definition ≡ o → option_to_list o ≡ filter_map (trigger_of table) (definition ∷ [])
    by_option None is = rw is refl
    by_option (Some name) is = rw is refl

-- one that is, or is none
pub trigger_added : (table name own : List ℕ) (old new : List Planned) → true ≡ same_units own table → new ≡ old ++ definition_erased name ∷ []
    → new ≡ old ++ map definition_erased (option_to_list (if same_units own table then Some name else None))
trigger_added table name own old new same added = added ∙ ap (λ (own_table : Bool). old ++ map definition_erased (option_to_list (if own_table then Some name else None))) same

-- those among one definition more
pub triggers_more : (table : List ℕ) (definitions : List Definition) (i : ℕ) (definition : Definition) (old planned new : List Planned) → definition ≡ get_or definitions i definition → i < length definitions
    → planned ≡ old ++ map definition_erased (filter_map (trigger_of table) (take i definitions)) → new ≡ planned ++ map definition_erased (option_to_list (trigger_of table definition))
    → new ≡ old ++ map definition_erased (filter_map (trigger_of table) (take (i + 1) definitions))
triggers_more table definitions i definition old planned new is within so_far added =
    let before : List (List ℕ) = filter_map (trigger_of table) (take i definitions) in
    let one : List (List ℕ) = option_to_list (trigger_of table definition) in
    let next : take i definitions ++ definition ∷ [] ≡ take (i + 1) definitions = ap (λ (d : Definition). take i definitions ++ d ∷ []) is ∙ sym (take_more definitions i definition within) in
    let names : before ++ one ≡ filter_map (trigger_of table) (take (i + 1) definitions) =
    ap (λ (l : List (List ℕ)). before ++ l) (trigger_alone table definition) ∙ sym (filter_map-append (trigger_of table) (take i definitions) (definition ∷ [])) ∙ ap (filter_map (trigger_of table)) next in
    added ∙ ap (λ (l : List Planned). l ++ map definition_erased one) so_far ∙ append_assoc old (map definition_erased before) (map definition_erased one)
    ∙ ap (λ (l : List Planned). old ++ l) (sym (map-append definition_erased before one) ∙ ap (map definition_erased) names)

-- and behind all of them the table's own definition
pub all_erased : {A E : Type 0} (table : List ℕ) (definitions : List Definition) (i : ℕ) (old planned new : List Planned) (result : Result A E) → length definitions ≤ i
    → planned ≡ old ++ map definition_erased (filter_map (trigger_of table) (take i definitions)) → IfOk result (λ done. new ≡ planned ++ definition_erased table ∷ [])
    → IfOk result (λ done. new ≡ with_definitions definitions table old)
all_erased table definitions i old planned new (Ok done) past so_far added =
    added ∙ ap (λ (l : List Planned). l ++ definition_erased table ∷ []) (so_far ∙ ap (λ (ds : List Definition). old ++ map definition_erased (filter_map (trigger_of table) ds)) (take_all i definitions past))
    ∙ append_assoc old (map definition_erased (filter_map (trigger_of table) definitions)) (definition_erased table ∷ [])
all_erased table definitions i old planned new (Err memory) past so_far added = tt

-- a table that is dropped is read whole, whatever the variables are
pub does_whole : {before after : PortPast} (given : GivenRows) (level : Level) (vars : List Value) (shapes : List TableTree) (name : List ℕ) {p new : SessionProgress} {result : Result (Result (List Rows) Failure) Memory}
    → Did before after (reads_at given level vars shapes (bound.Write (whole name))) p result new → Did before after (reads_at given level [] shapes (bound.Write (whole name))) p result new
unfolding reads_at images_of
does_whole given level vars [] name did = did
does_whole given level vars (shape ∷ shapes) name did = did
