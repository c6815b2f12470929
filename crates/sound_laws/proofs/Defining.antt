-- Where a procedure or trigger is created, or not, what stands goes on: what is put defines it, and a trigger's table is there.
use Rattle.std.proofs.Common.{◌≡◌, ◌||◌, ℕ, not, Bool, true, false, if◌then◌else◌, List, [], ◌∷◌, Option, Some, None, Result, refl, subst}
use Rattle.std.specs.Cmp.Lexicographic.{bytes_decides}
use Rattle.value_types.specs.Units.{same_units}
use Rattle.tsql_tree.specs.declared.definition.Definition.{Definition}
use Rattle.tsql_tree.specs.declared.definition.Definition.TheVariants.{Table, Procedure, Trigger}
use Rattle.tsql_tree.specs.declared.definition.ProcedureTree.{ProcedureTree}
use Rattle.tsql_tree.specs.declared.definition.TriggerTree.{TriggerTree}
use Rattle.clause_binder.specs.Scope.{is_long}
use Rattle.table_rows.specs.Definitions.{defined_name, is_objects}
use Rattle.step_model.specs.Database.{Database}
use Rattle.step_model.specs.Exchange.{Exchange}
use Rattle.step_model.specs.Log.{Commit as Logged}
use Rattle.write_laws.specs.Reads.{at_place}
use Rattle.batch_meaning.specs.declared.failure.Failure.{Failure}
use Rattle.batch_meaning.specs.Asking.{fails, fails_naming, look_up, ◌>>=◌}
use Rattle.batch_meaning.specs.Changing.{object_present, unknown_table}
use Rattle.batch_meaning.specs.Doing.{Doing}
use Rattle.batch_meaning.specs.Selecting.{Effect, not_bound_so}
use Rattle.batch_meaning.specs.Values.{outside_limits}
use Rattle.batch_meaning.specs.Working.{own}
use Rattle.batch_meaning.specs.Writes.{creates, creates_definition, is_odd_list, puts_definition, where_table}
use Rattle.write_laws.specs.Indexed.{own_rows}
use Rattle.write_laws.specs.Keeping.{CanBeDefined, IsPut}
use Rattle.write_laws.specs.Sound.{HasTable}
use Rattle.write_laws.proofs.Indexed.{indexed_put}
use Rattle.write_laws.proofs.Owned.{firm_own}
use Rattle.write_laws.proofs.Puts.{firm_put}
use Rattle.statement_paths.specs.Paths.{definition_put}
use Rattle.statement_paths.proofs.Only.{AnyStep, only_naming}
use Rattle.text_laws.specs.Laws.{KeepsDefinition}
use Rattle.text_laws.specs.Placeless.{AreLike}
use Rattle.sound_laws.specs.Stands.{Brings, Carries, Intact, Stands}
use Rattle.sound_laws.specs.Tied.{Tied}
use Rattle.sound_laws.proofs.Bringing.{brings_mono}
use Rattle.sound_laws.proofs.Creating.{MayCreate, creates_bring}
use Rattle.sound_laws.proofs.Looked.{IsDefinedIf}
use Rattle.sound_laws.proofs.Preparing.{finds_bring}
use Rattle.sound_laws.proofs.Statements.{carries_room, own_carries}
use Rattle.sound_laws.proofs.Steps.{IsStill}
use Rattle.sound_laws.proofs.Trees.{StandsWith, WritesNothing, carries_still}

-- ---- what may be put

-- what may be defined is so whatever its places are, and beside own rows alone
can_like : (db : Database) (of own : Definition) → AreLike of own → CanBeDefined db of → CanBeDefined (own_rows db) own
can_like db (Procedure of) (Procedure own) like can = tt
can_like db (Trigger of) (Trigger own) like can = subst (HasTable db) like.table can
can_like db (Table of) own like can = absurd like
can_like db (Procedure of) (Table own) like can = absurd like
can_like db (Procedure of) (Trigger own) like can = absurd like
can_like db (Trigger of) (Table own) like can = absurd like
can_like db (Trigger of) (Procedure own) like can = absurd like

may_put : (db : Database) (of : Definition) (text : List ℕ) → KeepsDefinition of text → is_objects (defined_name of) ≡ false → CanBeDefined db of → Intact db → MayCreate (defined_name of) text db
may_put db of text keeps other can intact free =
    let put : IsPut (own_rows db) (defined_name of) text keeps.0 = record { free = free; defines = keeps.1; other = other; can = can_like db of keeps.0 keeps.2 can } in
    record {
      firm = firm_own db (definition_put (defined_name of) text ∷ []) (refl, tt) (firm_put (own_rows db) (defined_name of) text keeps.0 intact.firm put);
      indexed = indexed_put db (defined_name of) text keeps.0 intact.firm intact.indexed put;
    }

module _ (of : Definition) (text : List ℕ) (keeps : KeepsDefinition of text) (session : ℕ) (begin log : List Logged) (mine : List Exchange) (tied : Tied session begin log mine) where
  abbrev Made : Result Effect Failure → List Exchange → List Exchange → Type 0
  Made result = Stands log

  nothing_on : (F : Database → Type 0) (tree : Doing (Result Effect Failure)) → WritesNothing tree → Brings log mine (StandsWith log F) tree Made
  nothing_on F tree still = brings_mono log mine (Stands log) (StandsWith log F) tree Made Made (λ before later is from. from.0) (λ a before later is stands. stands) (carries_still tree still session begin log mine tied)

  -- within the limits, and of another name than that of `objects`
  puts_on : (F : Database → Type 0) (outside : Bool) (tree : Doing (Result Effect Failure)) → (is_objects (defined_name of) ≡ false → Brings log mine (StandsWith log F) tree Made) → Brings log mine (StandsWith log F) (puts_definition outside (defined_name of) tree) Made
  puts_on F true tree brings = nothing_on F (fails outside_limits) tt
  puts_on F false tree brings = by_name (is_objects (defined_name of)) refl
    where
      by_name : (b : Bool) → is_objects (defined_name of) ≡ b → Brings log mine (StandsWith log F) (if b then fails_naming object_present (defined_name of) else tree) Made
      by_name true is = nothing_on F (fails_naming object_present (defined_name of)) (only_naming AnyStep IsStill Effect object_present (defined_name of))
      by_name false is = brings is

  put_on : (F : Database → Type 0) → ((db : Database) → F db → CanBeDefined db of) → is_objects (defined_name of) ≡ false → Brings log mine (StandsWith log F) (creates (defined_name of) text) Made
  put_on F can other =
      brings_mono log mine (StandsWith log (MayCreate (defined_name of) text)) (StandsWith log F) (creates (defined_name of) text) Made Made
      (λ before later is from. (from.0, λ intact. may_put (at_place log before later) of text keeps other (can (at_place log before later) (from.1 intact)) (from.0 intact).now)) (λ a before later is stands. stands)
      (creates_bring session begin log mine tied (defined_name of) text)

-- ---- a procedure

procedure_carry : (procedure : ProcedureTree) (text : List ℕ) → KeepsDefinition (Procedure procedure) text → Carries (creates_definition (Procedure procedure) text)
unfolding creates_definition
procedure_carry procedure text keeps = carries_room (puts_definition outside procedure.name (own true (creates procedure.name text))) putting
  where
    outside : Bool
    outside = is_long procedure.name || is_odd_list procedure.parameters

    alone : is_objects procedure.name ≡ false → Carries (creates procedure.name text)
    alone other session begin log mine tied =
        brings_mono log mine (StandsWith log (λ db. Unit {0})) (Stands log) (creates procedure.name text) (λ (result : Result Effect Failure). Stands log) (λ (result : Result Effect Failure). Stands log) (λ before later is stands. (stands, λ intact. tt))
        (λ a before later is stands. stands) (put_on (Procedure procedure) text keeps session begin log mine tied (λ db. Unit {0}) (λ db known. tt) other)

    putting : Carries (puts_definition outside procedure.name (own true (creates procedure.name text)))
    putting session begin log mine tied =
        brings_mono log mine (StandsWith log (λ db. Unit {0})) (Stands log) (puts_definition outside procedure.name (own true (creates procedure.name text))) (λ (result : Result Effect Failure). Stands log) (λ (result : Result Effect Failure). Stands log)
        (λ before later is stands. (stands, λ intact. tt)) (λ a before later is stands. stands)
        (puts_on (Procedure procedure) text keeps session begin log mine tied (λ db. Unit {0}) outside (own true (creates procedure.name text))
        (λ other. brings_mono log mine (Stands log) (StandsWith log (λ db. Unit {0})) (own true (creates procedure.name text)) (λ (result : Result Effect Failure). Stands log) (λ (result : Result Effect Failure). Stands log) (λ before later is from. from.0)
        (λ a before later is stands. stands) (own_carries true (creates procedure.name text) (alone other) session begin log mine tied)))

-- ---- a trigger

none_known : (definition : Definition) → ◌≡◌ {A = Option (Option Definition)} None (Some (Some definition)) → ⊥
none_known definition is = absurd (let no : ◌≡◌ {A = Option (Option Definition)} None (Some (Some definition)) = is in cc)

module _ (trigger : TriggerTree) (text : List ℕ) (keeps : KeepsDefinition (Trigger trigger) text) where
  abbrev Putting : Doing (Result Effect Failure)
  Putting = puts_definition (is_long trigger.name) trigger.name (creates trigger.name text)

  module _ (session : ℕ) (begin log : List Logged) (mine : List Exchange) (tied : Tied session begin log mine) where
    abbrev Found : Option Definition → Database → Type 0
    Found found db = Unit {0} × IsDefinedIf db found

    table_on : (found : Option Definition) → Brings log mine (StandsWith log (Found found)) (where_table trigger.table Putting found) (λ (result : Result Effect Failure). Stands log)
    table_on (Some (Table table)) = by_name (same_units table.name trigger.table) refl
      where
        by_name : (b : Bool) → same_units table.name trigger.table ≡ b → Brings log mine (StandsWith log (Found (Some (Table table)))) (if b then Putting else fails_naming unknown_table trigger.table) (λ (result : Result Effect Failure). Stands log)
        by_name true is = puts_on (Trigger trigger) text keeps session begin log mine tied (Found (Some (Table table))) (is_long trigger.name) (creates trigger.name text)
            (put_on (Trigger trigger) text keeps session begin log mine tied (Found (Some (Table table))) (λ db known. (table, known.1, (bytes_decides table.name trigger.table).0 is)))
        by_name false is = nothing_on (Trigger trigger) text keeps session begin log mine tied (Found (Some (Table table))) (fails_naming unknown_table trigger.table) (only_naming AnyStep IsStill Effect unknown_table trigger.table)
    table_on found = nothing_on (Trigger trigger) text keeps session begin log mine tied (Found found) (fails_naming unknown_table trigger.table) (only_naming AnyStep IsStill Effect unknown_table trigger.table)

    looks_on : Brings log mine (Stands log) (look_up trigger.table >>= where_table trigger.table Putting) (λ (result : Result Effect Failure). Stands log)
    looks_on = brings_mono log mine (StandsWith log (λ db. Unit {0})) (Stands log) (look_up trigger.table >>= where_table trigger.table Putting) (λ (result : Result Effect Failure). Stands log) (λ (result : Result Effect Failure). Stands log)
        (λ before later is stands. (stands, λ intact. tt)) (λ a before later is stands. stands)
        (finds_bring session begin log mine tied (λ db. Unit {0}) None trigger.table none_known (where_table trigger.table Putting) table_on)

  trigger_carry : Carries (creates_definition (Trigger trigger) text)
  unfolding creates_definition
  trigger_carry = carries_room (own (not (is_objects trigger.table)) (look_up trigger.table >>= where_table trigger.table Putting)) (own_carries (not (is_objects trigger.table)) (look_up trigger.table >>= where_table trigger.table Putting) looks_on)

-- ---- either

pub defines_carry : (of : Definition) (text : List ℕ) → KeepsDefinition of text → Carries (creates_definition of text)
unfolding creates_definition
defines_carry (Table table) text keeps = carries_still (fails not_bound_so) tt
defines_carry (Procedure procedure) text keeps = procedure_carry procedure text keeps
defines_carry (Trigger trigger) text keeps = trigger_carry trigger text keeps
