-- What was looked up, and all that is defined, from what was asked for it.
use Rattle.std.proofs.Common.{◌≡◌, ◌⊎◌, inl, inr, ℕ, zero, suc, Bool, true, false, if◌then◌else◌, List, [], ◌∷◌, ◌++◌, Option, None, Some, Result, Ok, Err, refl, sym, ap, ◌∙◌, subst}
use Rattle.value_types.specs.declared.value.Value.{Value}
use Rattle.tsql_tree.specs.declared.definition.Definition.{Definition}
use Rattle.table_rows.specs.Definitions.{IsDefinitionIn, is_objects}
use Rattle.step_model.specs.declared.manner.Manner.{Manner}
use Rattle.step_model.specs.declared.op.Op.{Op}
use Rattle.step_model.specs.declared.range.Start.{Start}
use Rattle.step_model.specs.declared.range.Start.TheVariants.{First}
use Rattle.step_model.specs.declared.reply.Reply.{Reply}
use Rattle.step_model.specs.declared.reply.Reply.TheVariants as replies
use Rattle.step_model.specs.Exchange.{Exchange, CanReply}
use Rattle.dml_exec.specs.Reading.{behind_gone}
use Rattle.step_model.specs.Ranges.{range_limit}
use Rattle.statement_paths.specs.Asked.{IsFetch}
use Rattle.batch_meaning.specs.declared.failure.Failure.{Failure}
use Rattle.batch_meaning.specs.Progress.{SessionProgress, asked}
use Rattle.batch_meaning.specs.Doing.{over, asks, defines, Held}
use Rattle.batch_meaning.specs.Asking.{KnownNames, finds_by, unless_refused, with_room, known, definition_fetch, look_up, is_table, with_found, looks_up, objects_fetch, defined_by, defined_on, defined_from, reads_definitions}
use Rattle.statement_paths.specs.Paths.{IsAsked, IsFound, IsFoundBy, IsLookedUp, AreLookedUp, AddsBy, AreDefined}
use Rattle.statement_paths.proofs.Only.{IsTouch, only_bind, only_room, only_if}
use Rattle.statement_paths.proofs.Still.{Reads, reads_still, still_manner}
use Rattle.statement_paths.proofs.Apart.{asks_apart, bind_apart, room_apart}

pub ok_same : {A E : Type 0} (a b : A) → ◌≡◌ {A = Result A E} (Ok a) (Ok b) → a ≡ b
ok_same a b is = cc

-- ---- they fetch alone

known_reads : (name : List ℕ) (reply : Reply) → CanReply (definition_fetch name) reply → Reads (unless_refused known reply)
known_reads name (replies.Row key row at) can = λ enough. only_if IsTouch IsFetch enough _ (over (Err _)) (λ found. tt) tt
known_reads name replies.Memory can = tt
known_reads name (replies.TimedOut holder held wanted on) can = tt
known_reads name (replies.Victim cycle) can = tt
known_reads name reply can = tt

pub look_reads : (name : List ℕ) → Reads (look_up name)
unfolding look_up
look_reads name = only_if IsTouch IsFetch (is_objects name) (over (Ok None)) _ tt (only_room IsTouch IsFetch (asks (definition_fetch name) (unless_refused known)) (tt, known_reads name))

-- one that is known is not looked up
pub finds_read : (known : Option (Option Definition)) (name : List ℕ) → Reads (finds_by known name)
finds_read None name = look_reads name
finds_read (Some found) name = only_room IsTouch IsFetch (over (Ok found)) tt

pub looks_read : (known_names : KnownNames) (names : List (List ℕ)) (so_far : List Definition) → Reads (looks_up known_names so_far names)
unfolding looks_up
looks_read known_names [] so_far = tt
looks_read known_names (name ∷ names) so_far =
    only_bind IsTouch IsFetch (finds_by (known_names name) name) (λ found. if is_table found then with_room (looks_up known_names (with_found so_far found) names) else over (Ok so_far)) (finds_read (known_names name) name)
    (λ found. only_if IsTouch IsFetch (is_table found) _ (over (Ok so_far)) (only_room IsTouch IsFetch (looks_up known_names (with_found so_far found) names) (looks_read known_names names (with_found so_far found))) tt)

by_reads : (start : Start) (so_far : List Definition) (reply : Reply) → CanReply (objects_fetch start) reply → Reads (unless_refused (defined_by so_far) reply)
by_reads start so_far (replies.Row key row at) can = λ enough. only_if IsTouch IsFetch enough _ (over (Err _)) (λ found. only_room IsTouch IsFetch (over (Ok _)) tt) tt
by_reads start so_far replies.Memory can = tt
by_reads start so_far (replies.TimedOut holder held wanted on) can = tt
by_reads start so_far (replies.Victim cycle) can = tt
by_reads start so_far reply can = tt

defined_reads : (left : ℕ) (start : Start) (so_far : List Definition) → Reads (defined_from left start so_far)
unfolding defined_from
defined_reads zero start so_far = tt
defined_reads (suc left) start so_far = only_bind IsTouch IsFetch (asks (objects_fetch start) (unless_refused (defined_by so_far))) (defined_on (λ more key. defined_from left (behind_gone 1 key) more)) (tt, by_reads start so_far)
    (by_came (λ more key. defined_reads left (behind_gone 1 key) more))
  where
    by_came : ((more : List Definition) (key : List Value) → Reads (defined_from left (behind_gone 1 key) more)) → (came : List Definition × Option (List Value)) → Reads (defined_on (λ more key. defined_from left (behind_gone 1 key) more) came)
    by_came on (more, None) = tt
    by_came on (more, Some key) = on more key

pub definitions_read : Reads reads_definitions
unfolding reads_definitions
definitions_read = only_room IsTouch IsFetch (defined_from range_limit First []) (defined_reads range_limit First [])

module _ (manner : Manner) where
  in_manner : (op : Op) (x : Exchange) (p : SessionProgress) → p.settings.manner ≡ manner → IsAsked p.settings.manner op x → IsAsked manner op x
  in_manner op x p is asked = (asked.0, asked.1 ∙ is, asked.2)

  -- ---- look-ups

  found_by : (name : List ℕ) (reply : Reply) (p new : SessionProgress) (later : List Exchange) (found : Option Definition)
      → CanReply (definition_fetch name) reply → Held (unless_refused known reply) p later (Ok found) new → (later ≡ []) × IsFound reply found
  unfolding Held
  found_by name (replies.Row key row at) p new later found can held =
      let was = room_apart (defines (key, row) (λ one. over (Ok one))) p new later found held in
      (was.2.0, subst (λ (f : Option Definition). IsDefinitionIn (key, row) f) (sym (ok_same {E = Failure} found was.0 was.2.1)) was.1)
  found_by name (replies.Gone key at) p new later found can held = (held.0, ok_same {E = Failure} found None held.1)
  found_by name (replies.End at) p new later found can held = (held.0, ok_same {E = Failure} found None held.1)
  found_by name replies.Memory p new later found can held = absurd (let no : Ok found ≡ Err _ = held.1 in cc)
  found_by name (replies.TimedOut holder lock wanted on) p new later found can held = absurd (let no : Ok found ≡ Err _ = held.1 in cc)
  found_by name (replies.Victim cycle) p new later found can held = absurd (let no : Ok found ≡ Err _ = held.1 in cc)
  found_by name reply p new later found can held = absurd can

  pub look_apart : (name : List ℕ) (p new : SessionProgress) (exchanges : List Exchange) (found : Option Definition) → p.settings.manner ≡ manner → Held (look_up name) p exchanges (Ok found) new → IsLookedUp manner (is_objects name) name exchanges found
  unfolding look_up Held
  look_apart name p new exchanges found is held = by_test (is_objects name) held
    where
      by_test : (test : Bool) → Held (if test then over (Ok None) else with_room (asks (definition_fetch name) (unless_refused known))) p exchanges (Ok found) new → IsLookedUp manner test name exchanges found
      by_test true was = (was.0, ok_same {E = Failure} found None was.1)
      by_test false was =
          let on = asks_apart (definition_fetch name) (unless_refused known) p new exchanges (Ok found) (room_apart (asks (definition_fetch name) (unless_refused known)) p new exchanges found was) in
          let by = found_by name on.0.reply (asked (definition_fetch name) on.0.reply p) new on.1 found on.3.2 on.4 in
          (on.0, on.2 ∙ ap (λ (l : List Exchange). on.0 ∷ l) by.0, in_manner (definition_fetch name) on.0 p is on.3, by.1)

  pub finds_apart : (known : Option (Option Definition)) (name : List ℕ) (p new : SessionProgress) (exchanges : List Exchange) (found : Option Definition) → p.settings.manner ≡ manner → Held (finds_by known name) p exchanges (Ok found) new
      → IsFoundBy manner known name exchanges found
  unfolding Held
  finds_apart None name p new exchanges found is held = look_apart name p new exchanges found is held
  finds_apart (Some other) name p new exchanges found is held = let was = room_apart (over (Ok other)) p new exchanges found held in (was.0, ok_same {E = Failure} found other was.1)

  module _ (known_names : KnownNames) where
    -- behind what was found
    on_found : (so_far : List Definition) (found : Option Definition) (names : List (List ℕ)) (p new : SessionProgress) (later : List Exchange) (definitions : List Definition)
        → (Held (looks_up known_names (with_found so_far found) names) p later (Ok definitions) new → AreLookedUp manner known_names (with_found so_far found) names later definitions)
        → (test : Bool) → is_table found ≡ test → Held (if test then with_room (looks_up known_names (with_found so_far found) names) else over (Ok so_far)) p later (Ok definitions) new
        → ((is_table found ≡ true) × AreLookedUp manner known_names (with_found so_far found) names later definitions) ⊎ ((is_table found ≡ false) × (later ≡ []) × (definitions ≡ so_far))
    unfolding Held
    on_found so_far found names p new later definitions on true so held = inl (so, on (room_apart (looks_up known_names (with_found so_far found) names) p new later definitions held))
    on_found so_far found names p new later definitions on false so held = inr (so, held.0, ok_same {E = Failure} definitions so_far held.1)

    pub looks_apart : (names : List (List ℕ)) (so_far : List Definition) (p new : SessionProgress) (exchanges : List Exchange) (definitions : List Definition)
        → p.settings.manner ≡ manner → Held (looks_up known_names so_far names) p exchanges (Ok definitions) new → AreLookedUp manner known_names so_far names exchanges definitions
    unfolding looks_up Held
    looks_apart [] so_far p new exchanges definitions is held = (held.0, ok_same {E = Failure} definitions so_far held.1)
    looks_apart (name ∷ names) so_far p new exchanges definitions is held =
        let on = bind_apart (finds_by (known_names name) name) (λ found. if is_table found then with_room (looks_up known_names (with_found so_far found) names) else over (Ok so_far)) p new exchanges definitions held in (
          on.2,
          on.0,
          on.1,
          on.4,
          finds_apart (known_names name) name p on.3 on.0 on.2 is on.5,
          on_found so_far on.2 names on.3 new on.1 definitions
              (λ more. looks_apart names (with_found so_far on.2) on.3 new on.1 definitions (still_manner p on.3 (reads_still p (finds_by (known_names name) name) on.3 on.0 (Ok on.2) (finds_read (known_names name) name) on.5) ∙ is) more) (is_table on.2) refl on.6,
        )

  -- ---- all definitions

  adds_by : (GoesOn : Start → List Definition → Type 0) (Ends : List Definition → Type 0) (start : Start) (so_far : List Definition) (reply : Reply) (p new : SessionProgress) (later : List Exchange) (came : List Definition × Option (List Value))
      → ((more : List Definition) (key : List Value) → came ≡ (more, Some key) → GoesOn (behind_gone 1 key) more) → ((more : List Definition) → came ≡ (more, None) → Ends more)
      → CanReply (objects_fetch start) reply → Held (unless_refused (defined_by so_far) reply) p later (Ok came) new → (later ≡ []) × AddsBy GoesOn Ends so_far reply
  unfolding Held
  adds_by GoesOn Ends start so_far (replies.Row key row at) p new later came on end can held =
      let was = room_apart (defines (key, row) (λ found. with_room (over (Ok (with_found so_far found, Some key))))) p new later came held in
      let last = room_apart (over (Ok (with_found so_far was.0, Some key))) p new later came was.2 in
      (last.0, (was.0, was.1, on (with_found so_far was.0) key (ok_same {E = Failure} came (with_found so_far was.0, Some key) last.1)))
  adds_by GoesOn Ends start so_far (replies.Gone key at) p new later came on end can held = (held.0, on so_far key (ok_same {E = Failure} came (so_far, Some key) held.1))
  adds_by GoesOn Ends start so_far (replies.End at) p new later came on end can held = (held.0, end so_far (ok_same {E = Failure} came (so_far, None) held.1))
  adds_by GoesOn Ends start so_far replies.Memory p new later came on end can held = absurd (let no : Ok came ≡ Err _ = held.1 in cc)
  adds_by GoesOn Ends start so_far (replies.TimedOut holder lock wanted at) p new later came on end can held = absurd (let no : Ok came ≡ Err _ = held.1 in cc)
  adds_by GoesOn Ends start so_far (replies.Victim cycle) p new later came on end can held = absurd (let no : Ok came ≡ Err _ = held.1 in cc)
  adds_by GoesOn Ends start so_far reply p new later came on end can held = absurd can

  defined_apart : (left : ℕ) (start : Start) (so_far : List Definition) (p new : SessionProgress) (exchanges : List Exchange) (all : List Definition)
      → p.settings.manner ≡ manner → Held (defined_from left start so_far) p exchanges (Ok all) new → AreDefined manner start so_far exchanges all
  unfolding defined_from Held
  defined_apart zero start so_far p new exchanges all is held = absurd (let no : Ok all ≡ Err _ = held.1 in cc)
  defined_apart (suc left) start so_far p new exchanges all is held =
      let on = bind_apart (asks (objects_fetch start) (unless_refused (defined_by so_far))) (defined_on (λ more key. defined_from left (behind_gone 1 key) more)) p new exchanges all held in
      let same : on.3.settings.manner ≡ manner = still_manner p on.3 (reads_still p (asks (objects_fetch start) (unless_refused (defined_by so_far))) on.3 on.0 (Ok on.2) (tt, by_reads start so_far) on.5) ∙ is in
      let one = asks_apart (objects_fetch start) (unless_refused (defined_by so_far)) p on.3 on.0 (Ok on.2) on.5 in
      let by = adds_by (λ at more. AreDefined manner at more on.1 all) (λ more. (on.1 ≡ []) × (all ≡ more)) start so_far one.0.reply (asked (objects_fetch start) one.0.reply p) on.3 one.1 on.2
      (λ more key so. defined_apart left (behind_gone 1 key) more on.3 new on.1 all same (subst (λ (c : List Definition × Option (List Value)). Held (defined_on (λ more key. defined_from left (behind_gone 1 key) more) c) on.3 on.1 (Ok all) new) so on.6))
      (λ more so. ended more (subst (λ (c : List Definition × Option (List Value)). Held (defined_on (λ more key. defined_from left (behind_gone 1 key) more) c) on.3 on.1 (Ok all) new) so on.6))
      one.3.2 one.4 in
      subst (λ (l : List Exchange). AreDefined manner start so_far l all) (sym (on.4 ∙ ap (λ (l : List Exchange). l ++ on.1) (one.2 ∙ ap (λ (l : List Exchange). one.0 ∷ l) by.0))) (in_manner (objects_fetch start) one.0 p is one.3, by.1)
    where
      ended : {q : SessionProgress} {back : List Exchange} (more : List Definition) → (back ≡ []) × ◌≡◌ {A = Result (List Definition) Failure} (Ok all) (Ok more) × (new ≡ q) → (back ≡ []) × (all ≡ more)
      ended more was = (was.0, ok_same {E = Failure} all more was.1)

  pub definitions_apart : (p new : SessionProgress) (exchanges : List Exchange) (all : List Definition) → p.settings.manner ≡ manner → Held reads_definitions p exchanges (Ok all) new → AreDefined manner First [] exchanges all
  unfolding reads_definitions
  definitions_apart p new exchanges all is held = defined_apart range_limit First [] p new exchanges all is (room_apart (defined_from range_limit First []) p new exchanges all held)
