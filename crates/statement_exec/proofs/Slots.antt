-- Triggers that are taken out of the slots of definitions.
use Rattle.std.proofs.Common.{◌≡◌, ℕ, zero, suc, ◌+◌, ◌<◌, Bool, true, false, if◌then◌else◌, List, [], ◌∷◌, ◌++◌, drop, filter, get_or, length, map, filter_map, Option, Some, None, append-nil, refl, sym, ap, ◌∙◌, subst}
use Rattle.std.proofs.lemmas.List.{get_or_default}
use Rattle.std.specs.Prelude.{slice_get, slice_set}
use Rattle.tsql_tree.specs.declared.definition.Definition.{Definition}
use Rattle.tsql_tree.specs.declared.definition.Definition.TheVariants.{Table, Procedure, Trigger}
use Rattle.tsql_tree.specs.declared.definition.TableTree.{TableTree}
use Rattle.tsql_tree.specs.declared.definition.TriggerTree.{TriggerTree}
use Rattle.table_rows.specs.Definitions.{tables_of}
use Rattle.batch_meaning.specs.Raised.{Around, Fired}
use Rattle.batch_meaning.specs.Writes.{is_fired, is_within, trigger_in}
use Rattle.session_state.specs.Parts.{is_trigger_of}
use Rattle.session_state.proofs.Stepping.{next_of}
use Rattle.statement_exec.specs.Slots.{AreSlots, table_left}

pub slots_all : (definitions : List Definition) → AreSlots (map (λ of. Some of) definitions) definitions
slots_all [] = tt
slots_all (of ∷ definitions) = (refl, slots_all definitions)

pub slots_tables : (slots : List (Option Definition)) (definitions : List Definition) → AreSlots slots definitions → filter_map table_left slots ≡ tables_of definitions
slots_tables [] [] are = refl
slots_tables [] (of ∷ definitions) are = absurd are
slots_tables (slot ∷ slots) [] are = absurd are
slots_tables (Some (Table table) ∷ slots) (of ∷ definitions) are = ap (λ (tables : List TableTree). table ∷ tables) (slots_tables slots definitions are.1) ∙ ap (λ (d : Definition). tables_of (d ∷ definitions)) are.0
slots_tables (Some (Procedure procedure) ∷ slots) (of ∷ definitions) are = slots_tables slots definitions are.1 ∙ ap (λ (d : Definition). tables_of (d ∷ definitions)) are.0
slots_tables (Some (Trigger trigger) ∷ slots) (of ∷ definitions) are = slots_tables slots definitions are.1 ∙ ap (λ (d : Definition). tables_of (d ∷ definitions)) are.0
slots_tables (None ∷ slots) (Table table ∷ definitions) are = absurd are
slots_tables (None ∷ slots) (Procedure procedure ∷ definitions) are = absurd are
slots_tables (None ∷ slots) (Trigger trigger ∷ definitions) are = slots_tables slots definitions are

no_slot : {X A : Type 0} {x : X} → None ≡ Some x → A
no_slot is = absurd cc

-- a trigger in its slot is what is defined at its place
pub slot_defined : (slots : List (Option Definition)) (definitions : List Definition) (place : ℕ) (trigger : TriggerTree) → AreSlots slots definitions → slice_get slots place ≡ Some (Some (Trigger trigger)) → slice_get definitions place ≡ Some (Trigger trigger)
slot_defined [] definitions place trigger are is = no_slot is
slot_defined (slot ∷ slots) [] place trigger are is = absurd are
slot_defined (Some found ∷ slots) (of ∷ definitions) zero trigger are is = (let same : found ≡ Trigger trigger = cc in ap Some (sym are.0 ∙ same))
slot_defined (None ∷ slots) (of ∷ definitions) zero trigger are is = absurd cc
slot_defined (Some found ∷ slots) (of ∷ definitions) (suc place) trigger are is = slot_defined slots definitions place trigger are.1 is
slot_defined (None ∷ slots) (Table table ∷ definitions) (suc place) trigger are is = absurd are
slot_defined (None ∷ slots) (Procedure procedure ∷ definitions) (suc place) trigger are is = absurd are
slot_defined (None ∷ slots) (Trigger of ∷ definitions) (suc place) trigger are is = slot_defined slots definitions place trigger are is

-- and is taken out
slot_emptied : (of : Definition) (slots : List (Option Definition)) (definitions : List Definition) (trigger : TriggerTree) → of ≡ Trigger trigger → AreSlots slots definitions → AreSlots (None ∷ slots) (of ∷ definitions)
slot_emptied of slots definitions trigger is are = subst (λ (d : Definition). AreSlots (None ∷ slots) (d ∷ definitions)) (sym is) are

pub slot_taken : (slots : List (Option Definition)) (definitions : List Definition) (place : ℕ) (trigger : TriggerTree) → AreSlots slots definitions → slice_get slots place ≡ Some (Some (Trigger trigger)) → AreSlots (slice_set slots place None) definitions
slot_taken [] definitions place trigger are is = no_slot is
slot_taken (slot ∷ slots) [] place trigger are is = absurd are
slot_taken (Some found ∷ slots) (of ∷ definitions) zero trigger are is = (let same : found ≡ Trigger trigger = cc in slot_emptied of slots definitions trigger (sym are.0 ∙ same) are.1)
slot_taken (None ∷ slots) (of ∷ definitions) zero trigger are is = absurd cc
slot_taken (Some found ∷ slots) (of ∷ definitions) (suc place) trigger are is = (are.0, slot_taken slots definitions place trigger are.1 is)
slot_taken (None ∷ slots) (Table table ∷ definitions) (suc place) trigger are is = absurd are
slot_taken (None ∷ slots) (Procedure procedure ∷ definitions) (suc place) trigger are is = absurd are
slot_taken (None ∷ slots) (Trigger of ∷ definitions) (suc place) trigger are is = slot_taken slots definitions place trigger are is

-- ---- the triggers that are taken

module _ (around : Around) where
  abbrev pub fires_at : List Definition → List ℕ → List TriggerTree
  fires_at definitions places = filter (is_fired around) (filter_map (λ place. trigger_in (slice_get definitions place)) places)

  -- the next place has a trigger, which is fired or passed over
  pub fires_next : (definitions : List Definition) (places : List ℕ) (i : ℕ) (trigger : TriggerTree) → i < length places → slice_get definitions (get_or places i 0) ≡ Some (Trigger trigger)
      → fires_at definitions (drop i places) ≡ (if is_fired around trigger then trigger ∷ [] else []) ++ fires_at definitions (drop (i + 1) places)
  fires_next definitions places i trigger within defined = ap (fires_at definitions) (next_of places i (get_or places i 0) (get_or_default places i 0 (get_or places i 0) within) within) ∙ rw defined (by_test (is_fired around trigger))
    where
      by_test : (test : Bool) → (if test then trigger ∷ fires_at definitions (drop (i + 1) places) else fires_at definitions (drop (i + 1) places)) ≡ (if test then trigger ∷ [] else []) ++ fires_at definitions (drop (i + 1) places)
      by_test true = refl
      by_test false = refl

  -- it is none that is fired by its own statements
  pub fired_so : (trigger : TriggerTree) (fired : Option Fired) → is_trigger_of trigger.name fired around.procedure ≡ is_within around trigger fired
  fired_so trigger None = refl
  fired_so trigger (Some fired) = refl

  pub passed_over : (trigger : TriggerTree) (fires : List TriggerTree) → is_trigger_of trigger.name around.fired around.procedure ≡ true → fires ≡ fires ++ (if is_fired around trigger then trigger ∷ [] else [])
  passed_over trigger fires holds = (let within : is_within around trigger around.fired ≡ true = sym (fired_so trigger around.fired) ∙ holds in rw within (sym (append-nil fires)))

  pub is_added : (trigger : TriggerTree) (fires more : List TriggerTree) → is_trigger_of trigger.name around.fired around.procedure ≡ false → more ≡ fires ++ trigger ∷ [] → more ≡ fires ++ (if is_fired around trigger then trigger ∷ [] else [])
  is_added trigger fires more fails is = (let within : is_within around trigger around.fired ≡ false = sym (fired_so trigger around.fired) ∙ fails in rw within is)
