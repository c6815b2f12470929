-- What CREATE PROCEDURE and CREATE TRIGGER have asked: a trigger's table is looked up within its transaction; a procedure's begins behind the tests.
use Rattle.std.proofs.Common.{◌≡◌, ◌⊎◌, inl, inr, ℕ, Bool, true, false, if◌then◌else◌, List, [], ◌∷◌, ◌++◌, Option, None, Some, Result, Ok, Err, refl, sym, ap, ◌∙◌, subst}
use Rattle.std.specs.Prelude.{not, ◌||◌}
use Rattle.value_types.specs.Units.{same_units}
use Rattle.tsql_tree.specs.declared.definition.Definition.{Definition}
use Rattle.tsql_tree.specs.declared.definition.Definition.TheVariants.{Table, Procedure, Trigger}
use Rattle.tsql_tree.specs.declared.definition.ProcedureTree.{ProcedureTree}
use Rattle.tsql_tree.specs.declared.definition.TriggerTree.{TriggerTree}
use Rattle.clause_binder.specs.Scope.{is_long}
use Rattle.table_rows.specs.Definitions.{defined_name, is_objects}
use Rattle.step_model.specs.declared.change.Planned.{Planned}
use Rattle.step_model.specs.Dialog.{IsQuiet}
use Rattle.step_model.specs.Exchange.{Exchange}
use Rattle.step_model.specs.Ranges.{no_memory}
use Rattle.statement_paths.specs.Asked.{AskOnly, IsFetch}
use Rattle.batch_meaning.specs.declared.failure.Failure.{Failure}
use Rattle.batch_meaning.specs.Asking.{◌>>=◌, fails, fails_naming, look_up, with_room}
use Rattle.batch_meaning.specs.Changing.{object_present, unknown_table}
use Rattle.batch_meaning.specs.Doing.{Doing, over, Held, Left}
use Rattle.batch_meaning.specs.Failures.{naming, plain}
use Rattle.batch_meaning.specs.Progress.{SessionProgress}
use Rattle.batch_meaning.specs.Raised.{around_batch}
use Rattle.batch_meaning.specs.Selecting.{Effect, no_effect, not_bound_so}
use Rattle.batch_meaning.specs.Values.{outside_limits}
use Rattle.batch_meaning.specs.Working.{own}
use Rattle.batch_meaning.specs.Writes.{creates, creates_definition, is_odd_list, puts_definition, where_table}
use Rattle.statement_paths.specs.Paths.{definition_put, IsFailed, IsFoundFor, IsLookedUp, IsPut, is_outside}
use Rattle.statement_paths.proofs.Only.{IsTouch, only_bind, only_if, only_naming}
use Rattle.statement_paths.proofs.Still.{Still, still_manner}
use Rattle.statement_paths.proofs.Apart.{bind_failed}
use Rattle.statement_paths.proofs.Looking.{look_apart, look_reads}
use Rattle.statement_paths.proofs.Working.{bind_reads, creates_apart, named_held, naming_never}
use Rattle.statement_paths.proofs.Failing.{bind_or, creates_failed, failed_more, named_failed, read_failed, reads_failed}
use Rattle.statement_paths.proofs.Works.{IsWorkStep, Works, creates_works, reads_work, unless_works, works_own}
use Rattle.statement_paths.proofs.Owned.{Behind, Owned, Refused, none_nil, own_held}
use Rattle.statement_paths.proofs.Statements.{HasCome, NoOp, WasLeft, look_silent, never_ok, own_comes, own_was_left, room_held, room_left, same_behind, silent_held}

abbrev IsErr : Result Effect Failure → Type 0
IsErr came = (failure : Failure) × (came ≡ Err failure)

-- ---- within the limits

-- nothing was done, or what stands behind both tests
abbrev Tested : Bool → List ℕ → Doing (Result Effect Failure) → SessionProgress → List Exchange → Result Effect Failure → SessionProgress → Type 0
Tested outside name tree p exchanges came new = ((exchanges ≡ []) × IsErr came × (new ≡ p)) ⊎ ((outside ≡ false) × (is_objects name ≡ false) × Held tree p exchanges came new)

puts_held : (outside : Bool) (name : List ℕ) (tree : Doing (Result Effect Failure)) (p new : SessionProgress) (exchanges : List Exchange) (came : Result Effect Failure) → Held (puts_definition outside name tree) p exchanges came new → Tested outside name tree p exchanges came new
unfolding Held
puts_held true name tree p new exchanges came held = inl (held.0, (plain outside_limits, held.1), held.2)
puts_held false name tree p new exchanges came held = by_test (is_objects name) refl held
  where
    by_enough : (enough : Bool) → Held {A = Result Effect Failure} (if enough then over (Err (naming object_present name)) else fails no_memory) p exchanges came new → Tested false name tree p exchanges came new
    by_enough true was = inl (was.0, (naming object_present name, was.1), was.2)
    by_enough false was = inl (was.0, (plain no_memory, was.1), was.2)

    by_test : (test : Bool) → is_objects name ≡ test → Held (if test then fails_naming object_present name else tree) p exchanges came new → Tested false name tree p exchanges came new
    by_test true so was = by_enough was.0 was.1
    by_test false so was = inr (refl, so, was)

puts_left : (outside : Bool) (name : List ℕ) (tree : Doing (Result Effect Failure)) (p new : SessionProgress) (exchanges : List Exchange) → Left (puts_definition outside name tree) p exchanges new
    → (exchanges ≡ []) ⊎ ((outside ≡ false) × (is_objects name ≡ false) × Left tree p exchanges new)
unfolding Left
puts_left true name tree p new exchanges left = inl left.0
puts_left false name tree p new exchanges left = by_test (is_objects name) refl left
  where
    by_enough : (enough : Bool) → Left {A = Result Effect Failure} (if enough then over (Err (naming object_present name)) else fails no_memory) p exchanges new → exchanges ≡ []
    by_enough true was = was.0
    by_enough false was = was.0

    by_test : (test : Bool) → is_objects name ≡ test → Left (if test then fails_naming object_present name else tree) p exchanges new → (exchanges ≡ []) ⊎ ((false ≡ false) × (is_objects name ≡ false) × Left tree p exchanges new)
    by_test true so was = inl (by_enough was.0 was.1)
    by_test false so was = inr (refl, so, was)

puts_work : (outside : Bool) (name : List ℕ) (tree : Doing (Result Effect Failure)) → Works tree → Works (puts_definition outside name tree)
puts_work true name tree works = tt
puts_work false name tree works = unless_works name tree works

never_both : (effect : Effect) (came : Result Effect Failure) → came ≡ Ok effect → IsErr came → ⊥
never_both effect came is other = let no : Ok effect ≡ Err other.0 = sym is ∙ other.1 in absurd (cc)

module _ (p : SessionProgress) (text : List ℕ) (of : Definition) where
  abbrev pub IsPutAs : Effect → List Exchange → Type 0
  IsPutAs effect exchanges = (planned : List Planned) × IsPut p of text planned exchanges × (effect ≡ no_effect)

  -- where nothing was done
  none_come : (came : Result Effect Failure) (exchanges : List Exchange) → exchanges ≡ [] → IsErr came → HasCome p IsPutAs true came exchanges
  none_come (Ok effect) exchanges none other = absurd (never_both effect (Ok effect) refl other)
  none_come (Err failure) exchanges none other = inl none

  -- it was created, within the limits
  put_as : (q new : SessionProgress) (looked worked exchanges : List Exchange) (effect : Effect) → exchanges ≡ looked ++ worked → IsFoundFor p.settings.manner of looked → is_outside of ≡ false → is_objects (defined_name of) ≡ false → Still p q
      → Held (creates (defined_name of) text) q worked (Ok effect) new → IsPutAs effect exchanges
  put_as q new looked worked exchanges effect parts looks inside another still held =
      let created = creates_apart around_batch p (defined_name of) text q new worked effect another still held in (
        definition_put (defined_name of) text ∷ [],
        record { looked = looked; worked = worked; parts = parts; looks = looks; inside = inside; works = record { mark = created.mark; parts = created.parts; another = another; plans = refl; tells = refl } },
        created.tells,
      )

-- ---- a procedure

module _ (p : SessionProgress) (text : List ℕ) (procedure : ProcedureTree) where
  abbrev Odd : Bool
  Odd = is_long procedure.name || is_odd_list procedure.parameters

  abbrev IsProcedure : Effect → List Exchange → Type 0
  IsProcedure effect exchanges = IsPutAs p text (Procedure procedure) effect exchanges

  abbrev Creating : Doing (Result Effect Failure)
  Creating = own true (creates procedure.name text)

  module _ (inside : Odd ≡ false) (another : is_objects procedure.name ≡ false) where
    put_done : (q new : SessionProgress) (exchanges : List Exchange) (effect : Effect) → Still p q → Held (creates procedure.name text) q exchanges (Ok effect) new → IsProcedure effect exchanges
    put_done q new exchanges effect still held = put_as p text (Procedure procedure) q new [] exchanges exchanges effect refl refl inside another still held

    put_failed : (q new : SessionProgress) (exchanges : List Exchange) (failure : Failure) → Still p q → Held (creates procedure.name text) q exchanges (Err failure) new → IsFailed p.settings.manner exchanges
    put_failed q new exchanges failure still held = creates_failed p procedure.name text q new exchanges failure still held

    creating_comes : (came : Result Effect Failure) (new : SessionProgress) (exchanges : List Exchange) → Held Creating p exchanges came new → HasCome p IsProcedure true came exchanges × Behind p new
    creating_comes came new exchanges held = own_comes p IsProcedure (creates procedure.name text) (creates_works procedure.name text) put_done put_failed true came new exchanges held

    creating_left : (new : SessionProgress) (exchanges : List Exchange) → Left Creating p exchanges new → WasLeft p IsProcedure true exchanges
    creating_left new exchanges left = own_was_left p IsProcedure (creates procedure.name text) (creates_works procedure.name text) put_done put_failed true new exchanges left

  procedure_comes : (came : Result Effect Failure) (new : SessionProgress) (exchanges : List Exchange) → Held (with_room (puts_definition Odd procedure.name Creating)) p exchanges came new → HasCome p IsProcedure true came exchanges × Behind p new
  procedure_comes came new exchanges held = room_held p IsProcedure (puts_definition Odd procedure.name Creating) came new exchanges true held (λ was. by_tests (puts_held Odd procedure.name Creating p new exchanges came was))
    where
      by_tests : Tested Odd procedure.name Creating p exchanges came new → HasCome p IsProcedure true came exchanges × Behind p new
      by_tests (inl none) = (none_come p text (Procedure procedure) came exchanges none.0 none.1, same_behind p IsProcedure new none.2)
      by_tests (inr on) = creating_comes on.0 on.1 came new exchanges on.2

  procedure_left : (new : SessionProgress) (exchanges : List Exchange) → Left (with_room (puts_definition Odd procedure.name Creating)) p exchanges new → WasLeft p IsProcedure true exchanges
  procedure_left new exchanges left = room_left p IsProcedure (puts_definition Odd procedure.name Creating) new exchanges true left (λ was. by_tests (puts_left Odd procedure.name Creating p new exchanges was))
    where
      by_tests : (exchanges ≡ []) ⊎ ((Odd ≡ false) × (is_objects procedure.name ≡ false) × Left Creating p exchanges new) → WasLeft p IsProcedure true exchanges
      by_tests (inl none) = inl (none_nil exchanges none)
      by_tests (inr on) = creating_left on.0 on.1 new exchanges on.2

-- ---- a trigger

module _ (p : SessionProgress) (text : List ℕ) (trigger : TriggerTree) where
  abbrev IsTrigger : Effect → List Exchange → Type 0
  IsTrigger effect exchanges = IsPutAs p text (Trigger trigger) effect exchanges

  abbrev Putting : Doing (Result Effect Failure)
  Putting = puts_definition (is_long trigger.name) trigger.name (creates trigger.name text)

  abbrev trigger_work : Doing (Result Effect Failure)
  trigger_work = look_up trigger.table >>= where_table trigger.table Putting

  table_work : (found : Option Definition) → Works (where_table trigger.table Putting found)
  table_work (Some (Table table)) =
      only_if IsWorkStep IsQuiet (same_units table.name trigger.table) Putting (fails_naming unknown_table trigger.table) (puts_work (is_long trigger.name) trigger.name (creates trigger.name text) (creates_works trigger.name text))
      (only_naming IsWorkStep IsQuiet Effect unknown_table trigger.table)
  table_work found = only_naming IsWorkStep IsQuiet Effect unknown_table trigger.table

  trigger_works : Works trigger_work
  trigger_works = only_bind IsWorkStep IsQuiet (look_up trigger.table) (where_table trigger.table Putting) (reads_work (look_up trigger.table) (look_reads trigger.table)) table_work

  -- where it succeeded it is no `objects` that was found
  found_for : (found : Option Definition) (looked : List Exchange) (q new : SessionProgress) (worked : List Exchange) (effect : Effect) (test : Bool) → is_objects trigger.table ≡ test → IsLookedUp p.settings.manner test trigger.table looked found
      → Held (where_table trigger.table Putting found) q worked (Ok effect) new → IsFoundFor p.settings.manner (Trigger trigger) looked × Held Putting q worked (Ok effect) new
  found_for (Some (Table table)) looked q new worked effect true is looks held = absurd (let no : Some (Table table) ≡ None = looks.1 in cc)
  found_for (Some (Table table)) looked q new worked effect false is looks held =
      let on = named_held unknown_table table.name trigger.table Putting q new worked effect held in ((is, (table, on.0, looks)), on.1)
  found_for found looked q new worked effect test is looks held = absurd (naming_never unknown_table trigger.table q new worked effect held)

  trigger_done : (q new : SessionProgress) (exchanges : List Exchange) (effect : Effect) → Still p q → Held trigger_work q exchanges (Ok effect) new → IsTrigger effect exchanges
  trigger_done q new exchanges effect still held =
      bind_reads around_batch p (look_up trigger.table) (where_table trigger.table Putting) q new exchanges effect (look_reads trigger.table) still held (λ looked worked found r parts first same rest.
      let on = found_for found looked r new worked effect (is_objects trigger.table) refl (look_apart p.settings.manner trigger.table q r looked found (still_manner p q still) first) rest in
      by_tests looked worked r parts same on.0 (puts_held (is_long trigger.name) trigger.name (creates trigger.name text) r new worked (Ok effect) on.1))
    where
      by_tests : (looked worked : List Exchange) (r : SessionProgress) → exchanges ≡ looked ++ worked → Still p r → IsFoundFor p.settings.manner (Trigger trigger) looked → Tested (is_long trigger.name) trigger.name (creates trigger.name text) r worked (Ok effect) new → IsTrigger effect exchanges
      by_tests looked worked r parts same looks (inl none) = absurd (never_both effect (Ok effect) refl none.1)
      by_tests looked worked r parts same looks (inr on) = put_as p text (Trigger trigger) r new looked worked exchanges effect parts looks on.0 on.1 same on.2

  nothing_failed : (exchanges : List Exchange) → exchanges ≡ [] → IsFailed p.settings.manner exchanges
  nothing_failed exchanges none = read_failed p.settings.manner exchanges (subst (AskOnly IsFetch) (sym none) tt)

  table_failed : (found : Option Definition) (q new : SessionProgress) (exchanges : List Exchange) (failure : Failure) → Still p q → Held (where_table trigger.table Putting found) q exchanges (Err failure) new → IsFailed p.settings.manner exchanges
  table_failed (Some (Table table)) q new exchanges failure still held =
      named_failed p.settings.manner unknown_table table.name trigger.table Putting q new exchanges failure held (λ was. by_tests (puts_held (is_long trigger.name) trigger.name (creates trigger.name text) q new exchanges (Err failure) was))
    where
      by_tests : Tested (is_long trigger.name) trigger.name (creates trigger.name text) q exchanges (Err failure) new → IsFailed p.settings.manner exchanges
      by_tests (inl none) = nothing_failed exchanges none.0
      by_tests (inr on) = creates_failed p trigger.name text q new exchanges failure still on.2
  table_failed found q new exchanges failure still held = reads_failed p.settings.manner (fails_naming {A = Effect} unknown_table trigger.table) q new exchanges (Err failure) (only_naming IsTouch IsFetch Effect unknown_table trigger.table) held

  trigger_failed : (q new : SessionProgress) (exchanges : List Exchange) (failure : Failure) → Still p q → Held trigger_work q exchanges (Err failure) new → IsFailed p.settings.manner exchanges
  trigger_failed q new exchanges failure still held =
      bind_or p (look_up trigger.table) (where_table trigger.table Putting) q new exchanges failure (look_reads trigger.table) still held (λ fetches. read_failed p.settings.manner exchanges fetches) (λ looked worked found r parts first fetches same rest.
      failed_more p.settings.manner exchanges looked worked parts fetches (table_failed found r new worked failure same rest))

  -- where its table is `objects` nothing is asked
  module _ (is : is_objects trigger.table ≡ true) where
    look_none : (q mid : SessionProgress) (looked : List Exchange) (found : Option Definition) → Held (look_up trigger.table) q looked (Ok found) mid → (looked ≡ []) × (found ≡ None)
    look_none q mid looked found held = subst (λ (test : Bool). IsLookedUp q.settings.manner test trigger.table looked found) is (look_apart q.settings.manner trigger.table q mid looked found refl held)

    look_fails : (q mid : SessionProgress) (looked : List Exchange) (failure : Failure) → Held (look_up trigger.table) q looked (Err failure) mid → looked ≡ []
    look_fails q mid looked failure held = silent_held (look_up trigger.table) q mid looked (Err failure) (look_silent trigger.table is) held

    trigger_none : (q new : SessionProgress) (exchanges : List Exchange) (failure : Failure) → Held trigger_work q exchanges (Err failure) new → exchanges ≡ []
    trigger_none q new exchanges failure held = by_failed (bind_failed (look_up trigger.table) (where_table trigger.table Putting) q new exchanges failure held)
      where
        by_found : (found : Option Definition) (mid : SessionProgress) (back : List Exchange) → found ≡ None → Held (where_table trigger.table Putting found) mid back (Err failure) new → back ≡ []
        by_found found mid back none rest = silent_held (fails_naming {A = Effect} unknown_table trigger.table) mid new back (Err failure) (only_naming IsTouch NoOp Effect unknown_table trigger.table)
            (subst (λ (o : Option Definition). Held (where_table trigger.table Putting o) mid back (Err failure) new) none rest)

        by_failed : Held (look_up trigger.table) q exchanges (Err failure) new
            ⊎ ((front back : List Exchange) × (found : Option Definition) × (mid : SessionProgress) × (exchanges ≡ front ++ back) × Held (look_up trigger.table) q front (Ok found) mid × Held (where_table trigger.table Putting found) mid back (Err failure) new) → exchanges ≡ []
        by_failed (inl first) = look_fails q new exchanges failure first
        by_failed (inr on) = let looked = look_none q on.3 on.0 on.2 on.5 in on.4 ∙ ap (λ (l : List Exchange). l ++ on.1) looked.0 ∙ by_found on.2 on.3 on.1 looked.1 on.6

    trigger_never : (q new : SessionProgress) (exchanges : List Exchange) (effect : Effect) → Still p q → Held trigger_work q exchanges (Ok effect) new → ⊥
    trigger_never q new exchanges effect still held = let looks = (trigger_done q new exchanges effect still held).1.looks in let no : false ≡ true = sym looks.0 ∙ is in absurd (cc)

  asks_table : (effect : Effect) (exchanges : List Exchange) → IsTrigger effect exchanges → not (is_objects trigger.table) ≡ true
  asks_table effect exchanges done = ap not done.1.looks.0

  asked_comes : (came : Result Effect Failure) (new : SessionProgress) (exchanges : List Exchange) → Held (own (not (is_objects trigger.table)) trigger_work) p exchanges came new → HasCome p IsTrigger true came exchanges × Behind p new
  asked_comes came new exchanges held = by_objects (is_objects trigger.table) refl held
    where
      nowhere : (is_objects trigger.table ≡ true) → (came : Result Effect Failure) → Refused p came exchanges new ⊎ Owned false p.is_open trigger_work p came exchanges new → HasCome p IsTrigger true came exchanges × Behind p new
      nowhere is (Ok effect) (inl refused) = absurd (never_ok p IsTrigger effect (plain no_memory) refused.failed)
      nowhere is (Err failure) (inl refused) = (inr (inl refused.asks), refused.leaves)
      nowhere is (Ok effect) (inr owned) = absurd (trigger_never is p owned.mid owned.worked effect refl owned.held)
      nowhere is (Err failure) (inr owned) = (inl (owned.around ∙ trigger_none is p owned.mid owned.worked failure owned.held), owned.leaves)

      by_objects : (test : Bool) → is_objects trigger.table ≡ test → Held (own (not test) trigger_work) p exchanges came new → HasCome p IsTrigger true came exchanges × Behind p new
      by_objects true is was = nowhere is came (own_held trigger_work (works_own trigger_work trigger_works) p new exchanges came false was)
      by_objects false is was = own_comes p IsTrigger trigger_work trigger_works trigger_done trigger_failed true came new exchanges was

  asked_left : (new : SessionProgress) (exchanges : List Exchange) → Left (own (not (is_objects trigger.table)) trigger_work) p exchanges new → WasLeft p IsTrigger true exchanges
  asked_left new exchanges left = by_objects (is_objects trigger.table) refl left
    where
      nowhere : (is_objects trigger.table ≡ true) → WasLeft p IsTrigger false exchanges → WasLeft p IsTrigger true exchanges
      nowhere is (inl calm) = inl calm
      nowhere is (inr on) = absurd (let no : false ≡ true = ap not (sym is) ∙ asks_table on.1 on.2 on.3 in cc)

      by_objects : (test : Bool) → is_objects trigger.table ≡ test → Left (own (not test) trigger_work) p exchanges new → WasLeft p IsTrigger true exchanges
      by_objects true is was = nowhere is (own_was_left p IsTrigger trigger_work trigger_works trigger_done trigger_failed false new exchanges was)
      by_objects false is was = own_was_left p IsTrigger trigger_work trigger_works trigger_done trigger_failed true new exchanges was

-- ---- each of them

-- a table's definition is none of these
unmade : (p new : SessionProgress) (text : List ℕ) (of : Definition) (came : Result Effect Failure) (exchanges : List Exchange) → Held (fails not_bound_so) p exchanges came new → HasCome p (IsPutAs p text of) true came exchanges × Behind p new
unfolding Held
unmade p new text of came exchanges held = (none_come p text of came exchanges held.0 (plain not_bound_so, held.1), same_behind p (IsPutAs p text of) new held.2)

pub definition_comes : (p : SessionProgress) (text : List ℕ) (of : Definition) (came : Result Effect Failure) (new : SessionProgress) (exchanges : List Exchange) → Held (creates_definition of text) p exchanges came new
    → HasCome p (IsPutAs p text of) true came exchanges × Behind p new
unfolding creates_definition
definition_comes p text (Table table) came new exchanges held = unmade p new text (Table table) came exchanges held
definition_comes p text (Procedure procedure) came new exchanges held = procedure_comes p text procedure came new exchanges held
definition_comes p text (Trigger trigger) came new exchanges held =
    room_held p (IsTrigger p text trigger) (own (not (is_objects trigger.table)) (trigger_work p text trigger)) came new exchanges true held (asked_comes p text trigger came new exchanges)

pub definition_left : (p : SessionProgress) (text : List ℕ) (of : Definition) (new : SessionProgress) (exchanges : List Exchange) → Left (creates_definition of text) p exchanges new → WasLeft p (IsPutAs p text of) true exchanges
unfolding creates_definition Left
definition_left p text (Table table) new exchanges left = inl (none_nil exchanges left.0)
definition_left p text (Procedure procedure) new exchanges left = procedure_left p text procedure new exchanges left
definition_left p text (Trigger trigger) new exchanges left =
    room_left p (IsTrigger p text trigger) (own (not (is_objects trigger.table)) (trigger_work p text trigger)) new exchanges true left (asked_left p text trigger new exchanges)
