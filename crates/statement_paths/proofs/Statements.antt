-- A statement that is done with what it came to: what it has asked, by whether it succeeded, and what was left of it.
use Rattle.std.proofs.Common.{◌≡◌, ◌⊎◌, None, Some, inl, inr, ℕ, Bool, true, false, if◌then◌else◌, List, [], ◌∷◌, ◌++◌, Option, Result, Ok, Err, refl, sym, ap, ◌∙◌, subst, append-nil}
use Rattle.std.specs.Prelude.{not}
use Rattle.tsql_tree.specs.declared.definition.Definition.{Definition}
use Rattle.tsql_tree.specs.declared.definition.TableTree.{TableTree}
use Rattle.tsql_tree.specs.declared.statement.Statement.{Statement}
use Rattle.bound_tree.specs.declared.write.Bound.{Bound}
use Rattle.binder.specs.Names.{looked_up}
use Rattle.table_rows.specs.Definitions.{is_objects, tables_of}
use Rattle.step_model.specs.declared.manner.Manner.{Manner}
use Rattle.step_model.specs.declared.op.Op.{Op}
use Rattle.step_model.specs.declared.op.Op.TheVariants as ops
use Rattle.step_model.specs.declared.reply.Reply.TheVariants as replies
use Rattle.step_model.specs.Exchange.{Exchange}
use Rattle.step_model.specs.Ranges.{no_memory}
use Rattle.statement_paths.specs.Asked.{AskOnly, IsFetch}
use Rattle.batch_meaning.specs.declared.failure.Failure.{Failure}
use Rattle.batch_meaning.specs.Failures.{plain}
use Rattle.batch_meaning.specs.Raised.{Around}
use Rattle.batch_meaning.specs.Selecting.{bound_over}
use Rattle.batch_meaning.specs.Progress.{SessionProgress, asked}
use Rattle.batch_meaning.specs.Doing.{Doing, over, reads, asks, ◌then◌, Held, Left}
use Rattle.batch_meaning.specs.Asking.{KnownNames, fails, finds_by, on_ok, with_room, with_found, comes_to, definition_fetch, is_table, known, look_up, looks_up, unless_refused}
use Rattle.batch_meaning.specs.Working.{asks_any, asks_first, binds, known_by, own, prepares, within}
use Rattle.statement_paths.specs.Paths.{AreLookedUp, HasFailedIn, IsAround, IsBound, IsFailed, IsFoundBy, IsLookedUp, NoneCommits}
use Rattle.statement_paths.proofs.Only.{IsTouch, Only, held_asks, only_bind, only_comes, only_if, only_room}
use Rattle.statement_paths.proofs.Still.{Still, reads_still, still_manner, still_then}
use Rattle.statement_paths.proofs.Apart.{bind_apart, bind_failed, comes_apart}
use Rattle.statement_paths.proofs.Looking.{ok_same, looks_apart, looks_read}
use Rattle.statement_paths.proofs.Working.{bind_reads}
use Rattle.statement_paths.proofs.Failing.{failed_more, read_failed}
use Rattle.statement_paths.proofs.Works.{Works, Worked, binds_work, prepares_reads, reads_work, works_leave, works_own}
use Rattle.statement_paths.proofs.Owned.{Behind, Committed, Owned, Refused, entered, none_nil, own_held, own_left, worked_behind}

-- ---- where nothing is asked

abbrev pub NoOp : Op → Type 0
NoOp op = ⊥

pub silent_held : {A : Type 0} (tree : Doing A) (p new : SessionProgress) (exchanges : List Exchange) (a : A) → Only IsTouch NoOp tree → Held tree p exchanges a new → exchanges ≡ []
silent_held tree p new exchanges a silent held = by_asked exchanges (held_asks IsTouch NoOp tree p new exchanges a silent held)
  where
    by_asked : (exchanges : List Exchange) → AskOnly NoOp exchanges → exchanges ≡ []
    by_asked [] is = refl
    by_asked (x ∷ later) is = absurd is.0.0

module _ (around : Around) (p0 : SessionProgress) (statement : Statement) where
  -- ---- what a statement is bound to

  -- its names were looked up, over what was found it was bound, and behind that this was done
  pub record Bound_by (p : SessionProgress) (Rest : List TableTree → Bound → SessionProgress → List Exchange → Type 0) (exchanges : List Exchange) : Type 0 where
    pub definitions : List Definition
    pub of : Bound
    pub looked : List Exchange
    pub worked : List Exchange
    pub mid : SessionProgress
    pub parts : exchanges ≡ looked ++ worked
    pub fetches : AskOnly IsFetch looked
    pub still : Still p0 mid
    pub leaves : Worked p mid
    pub looks : AreLookedUp p0.settings.manner (known_by around statement) [] (looked_up statement) looked definitions
    pub binds : bound_over definitions p0.vars statement ≡ Ok of
    pub rest : Rest (tables_of definitions) of mid worked

  pub prepared : (p new : SessionProgress) (exchanges : List Exchange) (made : List TableTree × Bound) → Still p0 p → Held (prepares around statement) p exchanges (Ok made) new
      → (definitions : List Definition) × (of : Bound) × (made ≡ (tables_of definitions, of)) × AreLookedUp p0.settings.manner (known_by around statement) [] (looked_up statement) exchanges definitions × (bound_over definitions p0.vars statement ≡ Ok of)
  unfolding prepares Held ◌then◌
  prepared p new exchanges made still held =
      bind_reads around p0 (looks_up (known_by around statement) [] (looked_up statement)) _ p new exchanges made (looks_read (known_by around statement) (looked_up statement) []) still held (λ front back definitions q parts looked same rest.
      let on = bind_apart (comes_to (bound_over definitions q.vars statement)) (λ of. comes_to (Ok (tables_of definitions, of))) q new back made rest in
      let bind = comes_apart (bound_over definitions q.vars statement) q on.3 on.0 on.2 on.5 in
      let end = comes_apart (Ok (tables_of definitions, on.2)) on.3 new on.1 made on.6 in (
        definitions,
        on.2,
        sym (ok_same {E = Failure} (tables_of definitions, on.2) made end.1),
        subst (λ (l : List Exchange). AreLookedUp p0.settings.manner (known_by around statement) [] (looked_up statement) l definitions) (sym (parts ∙ ap (λ (l : List Exchange). front ++ l) (on.4 ∙ ap (λ (l : List Exchange). l ++ on.1) bind.0 ∙ end.0) ∙ append-nil front))
            (looks_apart p0.settings.manner (known_by around statement) (looked_up statement) [] p q front definitions (still_manner p0 p still) looked),
        subst (λ (s : SessionProgress). bound_over definitions s.vars statement ≡ Ok on.2) same bind.1,
      ))

  module _ {A : Type 0} (go : List TableTree → Bound → Doing (Result A Failure)) where
    bound_of : (p mid new : SessionProgress) (exchanges front back : List Exchange) (made : List TableTree × Bound) (came : Result A Failure) → Still p0 p → exchanges ≡ front ++ back → Held (prepares around statement) p front (Ok made) mid → Held (go made.0 made.1) mid back came new
        → Bound_by p (λ shapes of q worked. Held (go shapes of) q worked came new) exchanges
    bound_of p mid new exchanges front back made came still parts first rest =
        let is = prepared p mid front made still first in
        record {
          definitions = is.0;
          of = is.1;
          looked = front;
          worked = back;
          mid = mid;
          parts = parts;
          fetches = held_asks IsTouch IsFetch (prepares around statement) p mid front (Ok made) (prepares_reads around statement) first;
          leaves = works_leave p (prepares around statement) mid front (Ok made) (reads_work (prepares around statement) (prepares_reads around statement)) first;
          still = still_then p0 p mid still (reads_still p (prepares around statement) mid front (Ok made) (prepares_reads around statement) first);
          looks = is.3;
          binds = is.4;
          rest = subst (λ (m : List TableTree × Bound). Held (go m.0 m.1) mid back came new) is.2 rest;
        }

    pub binds_apart : (p new : SessionProgress) (exchanges : List Exchange) (a : A) → Still p0 p → Held (binds around statement go) p exchanges (Ok a) new → Bound_by p (λ shapes of q worked. Held (go shapes of) q worked (Ok a) new) exchanges
    unfolding binds
    binds_apart p new exchanges a still held =
        let on = bind_apart (prepares around statement) (λ made. go made.0 made.1) p new exchanges a held in bound_of p on.3 new exchanges on.0 on.1 on.2 (Ok a) still on.4 on.5 on.6

    pub binds_parts : (p new : SessionProgress) (exchanges : List Exchange) (failure : Failure) → Still p0 p → Held (binds around statement go) p exchanges (Err failure) new
        → Held (prepares around statement) p exchanges (Err failure) new ⊎ Bound_by p (λ shapes of q worked. Held (go shapes of) q worked (Err failure) new) exchanges
    unfolding binds
    binds_parts p new exchanges failure still held = by_failed (bind_failed (prepares around statement) (λ made. go made.0 made.1) p new exchanges failure held)
      where
        by_failed : Held (prepares around statement) p exchanges (Err failure) new ⊎ ((front back : List Exchange) × (made : List TableTree × Bound) × (mid : SessionProgress) × (exchanges ≡ front ++ back) × Held (prepares around statement) p front (Ok made) mid × Held (go made.0 made.1) mid back (Err failure) new)
            → Held (prepares around statement) p exchanges (Err failure) new ⊎ Bound_by p (λ shapes of q worked. Held (go shapes of) q worked (Err failure) new) exchanges
        by_failed (inl first) = inl first
        by_failed (inr on) = inr (bound_of p on.3 new exchanges on.0 on.1 on.2 (Err failure) still on.4 on.5 on.6)

    pub binds_failed : (p new : SessionProgress) (exchanges : List Exchange) (failure : Failure) → Still p0 p → Held (binds around statement go) p exchanges (Err failure) new
        → AskOnly IsFetch exchanges ⊎ Bound_by p (λ shapes of q worked. Held (go shapes of) q worked (Err failure) new) exchanges
    binds_failed p new exchanges failure still held = by_failed (binds_parts p new exchanges failure still held)
      where
        by_failed : Held (prepares around statement) p exchanges (Err failure) new ⊎ Bound_by p (λ shapes of q worked. Held (go shapes of) q worked (Err failure) new) exchanges
            → AskOnly IsFetch exchanges ⊎ Bound_by p (λ shapes of q worked. Held (go shapes of) q worked (Err failure) new) exchanges
        by_failed (inl first) = inl (held_asks IsTouch IsFetch (prepares around statement) p new exchanges (Err failure) (prepares_reads around statement) first)
        by_failed (inr on) = inr on

-- where its work begins
pub begun_still : (asks_some is_open : Bool) (p : SessionProgress) → Still p (entered asks_some is_open p)
begun_still true false p = refl
begun_still true true p = refl
begun_still false is_open p = refl

-- ---- the whole of it

module _ (p : SessionProgress) {A : Type 0} (Is : A → List Exchange → Type 0) where
  -- what it came to: this was asked, in the open transaction or in one of its own; or it failed
  abbrev pub HasCome : Bool → Result A Failure → List Exchange → Type 0
  HasCome asks_some (Ok a) exchanges = (worked : List Exchange) × Is a worked × IsAround asks_some p.is_open true p.settings.manner worked exchanges
  HasCome asks_some (Err failure) exchanges = HasFailedIn asks_some p exchanges

  -- or that where it was left, if it was committed
  abbrev pub WasLeft : Bool → List Exchange → Type 0
  WasLeft asks_some exchanges = NoneCommits exchanges ⊎ ((p.is_open ≡ false) × (a : A) × (worked : List Exchange) × Is a worked × IsAround asks_some false true p.settings.manner worked exchanges)

  pub never_ok : (a : A) (failure : Failure) → ◌≡◌ {A = Result A Failure} (Ok a) (Err failure) → ⊥
  never_ok a failure is = let no : Ok a ≡ Err failure = is in absurd (cc)

  pub same_behind : (new : SessionProgress) → new ≡ p → Behind p new
  same_behind new same = worked_behind p new (same ∙ ap (λ (q : SessionProgress). record p { vars = q.vars; cursors = q.cursors; touched = q.touched; txn = q.txn }) (sym same))

  unasked : (asks_some : Bool) (came : Result A Failure) (exchanges : List Exchange) → exchanges ≡ [] → came ≡ Err (plain no_memory) → HasCome asks_some came exchanges
  unasked asks_some (Ok a) exchanges none is = absurd (never_ok a (plain no_memory) is)
  unasked asks_some (Err other) exchanges none is = inl none

  pub room_held : (tree : Doing (Result A Failure)) (came : Result A Failure) (new : SessionProgress) (exchanges : List Exchange) (asks_some : Bool)
      → Held (with_room tree) p exchanges came new → (Held tree p exchanges came new → HasCome asks_some came exchanges × Behind p new) → HasCome asks_some came exchanges × Behind p new
  unfolding Held
  room_held tree came new exchanges asks_some held on = by_enough held.0 held.1
    where
      by_enough : (enough : Bool) → Held (if enough then tree else fails no_memory) p exchanges came new → HasCome asks_some came exchanges × Behind p new
      by_enough true was = on was
      by_enough false was = (unasked asks_some came exchanges was.0 was.1, same_behind new was.2)

  pub room_left : (tree : Doing (Result A Failure)) (new : SessionProgress) (exchanges : List Exchange) (asks_some : Bool) → Left (with_room tree) p exchanges new → (Left tree p exchanges new → WasLeft asks_some exchanges) → WasLeft asks_some exchanges
  unfolding Left
  room_left tree new exchanges asks_some left on = by_enough left.0 left.1
    where
      by_enough : (enough : Bool) → Left (if enough then tree else fails no_memory) p exchanges new → WasLeft asks_some exchanges
      by_enough true was = on was
      by_enough false was = inl (none_nil exchanges was.0)

  -- work in its transaction
  module _ (work : Doing (Result A Failure)) (works : Works work)
      (done : (q new : SessionProgress) (exchanges : List Exchange) (a : A) → Still p q → Held work q exchanges (Ok a) new → Is a exchanges)
      (failed : (q new : SessionProgress) (exchanges : List Exchange) (failure : Failure) → Still p q → Held work q exchanges (Err failure) new → IsFailed p.settings.manner exchanges) where
    owned_as : (asks_some : Bool) (came : Result A Failure) (new : SessionProgress) (exchanges : List Exchange) → Owned asks_some p.is_open work p came exchanges new → HasCome asks_some came exchanges
    owned_as asks_some (Ok a) new exchanges owned = (owned.worked, done (entered asks_some p.is_open p) owned.mid owned.worked a (begun_still asks_some p.is_open p) owned.held, owned.around)
    owned_as asks_some (Err failure) new exchanges owned =
        inr (inr (owned.worked, failed (entered asks_some p.is_open p) owned.mid owned.worked failure (begun_still asks_some p.is_open p) owned.held, owned.around))

    refused_as : (asks_some : Bool) (came : Result A Failure) (new : SessionProgress) (exchanges : List Exchange) → Refused p came exchanges new → HasCome asks_some came exchanges
    refused_as asks_some (Ok a) new exchanges refused = absurd (never_ok a (plain no_memory) refused.failed)
    refused_as asks_some (Err failure) new exchanges refused = inr (inl refused.asks)

    pub own_comes : (asks_some : Bool) (came : Result A Failure) (new : SessionProgress) (exchanges : List Exchange) → Held (own asks_some work) p exchanges came new → HasCome asks_some came exchanges × Behind p new
    own_comes asks_some came new exchanges held = by_ways (own_held work (works_own work works) p new exchanges came asks_some held)
      where
        by_ways : Refused p came exchanges new ⊎ Owned asks_some p.is_open work p came exchanges new → HasCome asks_some came exchanges × Behind p new
        by_ways (inl refused) = (refused_as asks_some came new exchanges refused, refused.leaves)
        by_ways (inr owned) = (owned_as asks_some came new exchanges owned, owned.leaves)

    pub own_was_left : (asks_some : Bool) (new : SessionProgress) (exchanges : List Exchange) → Left (own asks_some work) p exchanges new → WasLeft asks_some exchanges
    own_was_left asks_some new exchanges left = by_left (own_left work (works_own work works) p new asks_some exchanges left)
      where
        by_left : NoneCommits exchanges ⊎ ((asks_some ≡ true) × Committed work p exchanges) → WasLeft asks_some exchanges
        by_left (inl calm) = inl calm
        by_left (inr (asks_it, c)) =
            inr (c.shut, c.result, c.worked, done (asked ops.Begin replies.Began p) c.mid c.worked c.result refl c.held, subst (λ (a : Bool). IsAround a false true p.settings.manner c.worked exchanges) (sym asks_it) c.around)

    -- where there is room for it
    pub roomed_comes : (asks_some : Bool) (came : Result A Failure) (new : SessionProgress) (exchanges : List Exchange) → Held (with_room (own asks_some work)) p exchanges came new → HasCome asks_some came exchanges × Behind p new
    roomed_comes asks_some came new exchanges held = room_held (own asks_some work) came new exchanges asks_some held (own_comes asks_some came new exchanges)

    pub roomed_left : (asks_some : Bool) (new : SessionProgress) (exchanges : List Exchange) → Left (with_room (own asks_some work)) p exchanges new → WasLeft asks_some exchanges
    roomed_left asks_some new exchanges left = room_left (own asks_some work) new exchanges asks_some left (own_was_left asks_some new exchanges)

-- ---- bound statements

module _ (around : Around) (p : SessionProgress) (statement : Statement) {A : Type 0} (go : List TableTree → Bound → Doing (Result A Failure)) (IsBy : List TableTree → Bound → A → List Exchange → Type 0)
    (works : (shapes : List TableTree) (of : Bound) → Works (go shapes of))
    (done : (shapes : List TableTree) (of : Bound) (q new : SessionProgress) (exchanges : List Exchange) (a : A) → Still p q → Held (go shapes of) q exchanges (Ok a) new → IsBy shapes of a exchanges)
    (failed : (shapes : List TableTree) (of : Bound) (q new : SessionProgress) (exchanges : List Exchange) (failure : Failure) → Still p q → Held (go shapes of) q exchanges (Err failure) new → IsFailed p.settings.manner exchanges) where
  abbrev pub IsBoundAs : A → List Exchange → Type 0
  IsBoundAs a exchanges = IsBound around p statement (λ shapes of worked. IsBy shapes of a worked) exchanges

  pub bound_done : (q new : SessionProgress) (exchanges : List Exchange) (a : A) → Still p q → Held (binds around statement go) q exchanges (Ok a) new → IsBoundAs a exchanges
  bound_done q new exchanges a still held =
      let on = binds_apart around p statement go q new exchanges a still held in
      record { definitions = on.definitions; of = on.of; looked = on.looked; worked = on.worked; parts = on.parts; looks = on.looks; binds = on.binds; works = done (tables_of on.definitions) on.of on.mid new on.worked a on.still on.rest }

  pub bound_failed : (q new : SessionProgress) (exchanges : List Exchange) (failure : Failure) → Still p q → Held (binds around statement go) q exchanges (Err failure) new → IsFailed p.settings.manner exchanges
  bound_failed q new exchanges failure still held = by_failed (binds_failed around p statement go q new exchanges failure still held)
    where
      by_failed : AskOnly IsFetch exchanges ⊎ Bound_by around p statement q (λ shapes of r worked. Held (go shapes of) r worked (Err failure) new) exchanges → IsFailed p.settings.manner exchanges
      by_failed (inl fetches) = read_failed p.settings.manner exchanges fetches
      by_failed (inr on) = failed_more p.settings.manner exchanges on.looked on.worked on.parts on.fetches (failed (tables_of on.definitions) on.of on.mid new on.worked failure on.still on.rest)

  pub bound_comes : (came : Result A Failure) (new : SessionProgress) (exchanges : List Exchange) → Held (within around statement go) p exchanges came new → HasCome p IsBoundAs (asks_any (known_by around statement) (looked_up statement)) came exchanges × Behind p new
  unfolding within
  bound_comes came new exchanges held = roomed_comes p IsBoundAs (binds around statement go) (binds_work around statement go works) bound_done bound_failed (asks_any (known_by around statement) (looked_up statement)) came new exchanges held

  pub bound_left : (new : SessionProgress) (exchanges : List Exchange) → Left (within around statement go) p exchanges new → WasLeft p IsBoundAs (asks_any (known_by around statement) (looked_up statement)) exchanges
  unfolding within
  bound_left new exchanges left = roomed_left p IsBoundAs (binds around statement go) (binds_work around statement go works) bound_done bound_failed (asks_any (known_by around statement) (looked_up statement)) new exchanges left

-- ---- where nothing is looked up

if_none : {A : Type 0} (test : Bool) (first other : Doing A) → test ≡ true → Only IsTouch NoOp first → Only IsTouch NoOp (if test then first else other)
if_none test first other is silent = rw is silent

pub look_silent : (name : List ℕ) → is_objects name ≡ true → Only IsTouch NoOp (look_up name)
unfolding look_up
look_silent name is = if_none (is_objects name) (over (Ok None)) _ is tt

module _ (known_names : KnownNames) where
  abbrev Next : List Definition → List (List ℕ) → Option Definition → Doing (Result (List Definition) Failure)
  Next so_far names found = if is_table found then with_room (looks_up known_names (with_found so_far found) names) else over (Ok so_far)

  by_enough : (so_far : List Definition) (names : List (List ℕ)) (found : Option Definition) → Only IsTouch NoOp (Next so_far names found) → (enough : Bool) → Only IsTouch NoOp ((if enough then over (Ok found) else fails no_memory) then on_ok (Next so_far names))
  unfolding ◌then◌
  by_enough so_far names found silent true = silent
  by_enough so_far names found silent false = tt

  by_known : (so_far : List Definition) (names : List (List ℕ)) (name : List ℕ) (one : Option (Option Definition)) → asks_first one name (asks_any known_names names) ≡ false
      → (asks_any known_names names ≡ false → (more : List Definition) → Only IsTouch NoOp (looks_up known_names more names)) → Only IsTouch NoOp (finds_by one name then on_ok (Next so_far names))
  unfolding look_up ◌then◌
  by_known so_far names name None none rest = by_test (is_objects name) none
    where
      by_test : (test : Bool) → not test ≡ false → Only IsTouch NoOp ((if test then over (Ok None) else with_room (asks (definition_fetch name) (unless_refused known))) then on_ok (Next so_far names))
      by_test true so = tt
      by_test false so = absurd (let no : true ≡ false = so in cc)
  by_known so_far names name (Some None) none rest = by_enough so_far names None tt
  by_known so_far names name (Some (Some definition)) none rest =
      by_enough so_far names (Some definition)
      (only_if IsTouch NoOp (is_table (Some definition)) (with_room (looks_up known_names (with_found so_far (Some definition)) names)) (over (Ok so_far)) (only_room IsTouch NoOp (looks_up known_names (with_found so_far (Some definition)) names) (rest none (with_found so_far (Some definition)))) tt)

  looks_silent : (names : List (List ℕ)) (so_far : List Definition) → asks_any known_names names ≡ false → Only IsTouch NoOp (looks_up known_names so_far names)
  unfolding looks_up
  looks_silent [] so_far none = tt
  looks_silent (name ∷ names) so_far none = by_known so_far names name (known_names name) none (λ none more. looks_silent names more none)

  -- the name that is first was found so
  abbrev Goes : Manner → List Definition → List (List ℕ) → Option Definition → List Exchange → List Definition → Type 0
  Goes manner so_far names found later definitions = ((is_table found ≡ true) × AreLookedUp manner known_names (with_found so_far found) names later definitions) ⊎ ((is_table found ≡ false) × (later ≡ []) × (definitions ≡ so_far))

  pub looked_none : (manner : Manner) (names : List (List ℕ)) (so_far : List Definition) (looked : List Exchange) (definitions : List Definition) → asks_any known_names names ≡ false → AreLookedUp manner known_names so_far names looked definitions → looked ≡ []
  looked_none manner [] so_far looked definitions so looks = looks.0
  looked_none manner (name ∷ names) so_far looked definitions so looks = looks.3 ∙ by_one (known_names name) so looks.0 looks.1 looks.2 looks.4 looks.5 (λ more later so on. looked_none manner names more later definitions so on)
    where
      by_test : (test : Bool) → not test ≡ false → (found : Option Definition) (first later : List Exchange) → IsLookedUp manner test name first found → Goes manner so_far names found later definitions → first ++ later ≡ []
      by_test false so found first later at rest = absurd (let no : true ≡ false = so in cc)
      by_test true so found first later at (inl more) = absurd (let no : false ≡ true = sym (ap is_table at.1) ∙ more.0 in cc)
      by_test true so found first later at (inr last) = ap (λ (l : List Exchange). l ++ later) at.0 ∙ last.1

      by_one : (one : Option (Option Definition)) → asks_first one name (asks_any known_names names) ≡ false → (found : Option Definition) (first later : List Exchange) → IsFoundBy manner one name first found → Goes manner so_far names found later definitions
          → ((more : List Definition) (later : List Exchange) → asks_any known_names names ≡ false → AreLookedUp manner known_names more names later definitions → later ≡ []) → first ++ later ≡ []
      by_one None so found first later at rest goes = by_test (is_objects name) so found first later at rest
      by_one (Some None) so found first later at (inl more) goes = absurd (let no : false ≡ true = sym (ap is_table at.1) ∙ more.0 in cc)
      by_one (Some None) so found first later at (inr last) goes = ap (λ (l : List Exchange). l ++ later) at.0 ∙ last.1
      by_one (Some (Some definition)) so found first later at (inl more) goes = ap (λ (l : List Exchange). l ++ later) at.0 ∙ goes (with_found so_far found) later so more.1
      by_one (Some (Some definition)) so found first later at (inr last) goes = ap (λ (l : List Exchange). l ++ later) at.0 ∙ last.1

pub prepares_silent : (around : Around) (statement : Statement) → asks_any (known_by around statement) (looked_up statement) ≡ false → Only IsTouch NoOp (prepares around statement)
unfolding prepares
prepares_silent around statement none = only_bind IsTouch NoOp (looks_up (known_by around statement) [] (looked_up statement)) _ (looks_silent (known_by around statement) (looked_up statement) [] none) (λ definitions.
    only_bind IsTouch NoOp (reads λ p. comes_to (bound_over definitions p.vars statement)) _ (λ p. only_comes IsTouch NoOp (bound_over definitions p.vars statement)) (λ of. only_comes IsTouch NoOp (Ok (tables_of definitions, of))))
