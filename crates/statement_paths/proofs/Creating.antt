-- What CREATE TABLE has asked: its parents are looked up within its transaction; where it has none, that is begun behind the binding.
use Rattle.std.proofs.Common.{◌≡◌, ◌⊎◌, inl, inr, ℕ, Bool, true, false, if◌then◌else◌, List, [], ◌∷◌, ◌++◌, Result, Ok, Err, refl, sym, ap, ◌∙◌, subst}
use Rattle.tsql_tree.specs.declared.definition.Definition.{Definition}
use Rattle.tsql_tree.specs.declared.definition.TableTree.{TableTree}
use Rattle.tsql_tree.specs.declared.statement.Form.{Form-F}
use Rattle.tsql_tree.specs.declared.statement.Statement.{Statement}
use Rattle.bound_tree.specs.declared.write.Bound.{Bound}
use Rattle.binder.specs.Names.{looked_up}
use Rattle.table_rows.specs.Definitions.{is_objects}
use Rattle.step_model.specs.declared.change.Planned.{Planned}
use Rattle.step_model.specs.declared.manner.Manner.{Manner}
use Rattle.step_model.specs.declared.op.Op.TheVariants as ops
use Rattle.step_model.specs.declared.reply.Reply.TheVariants as replies
use Rattle.step_model.specs.Dialog.{IsQuiet}
use Rattle.step_model.specs.Exchange.{Exchange}
use Rattle.step_model.specs.Ranges.{no_memory}
use Rattle.statement_paths.specs.Asked.{AskOnly, IsFetch}
use Rattle.batch_meaning.specs.declared.failure.Failure.{Failure}
use Rattle.batch_meaning.specs.Changing.{object_present}
use Rattle.batch_meaning.specs.Failures.{plain}
use Rattle.batch_meaning.specs.Raised.{Around}
use Rattle.batch_meaning.specs.Selecting.{Effect, bound_over}
use Rattle.batch_meaning.specs.Progress.{SessionProgress, asked}
use Rattle.batch_meaning.specs.Doing.{Doing, over, Held, Left}
use Rattle.batch_meaning.specs.Asking.{fails_naming, on_ok}
use Rattle.batch_meaning.specs.Working.{asks_any, binds, known_by, own, prepares}
use Rattle.batch_meaning.specs.Writes.{creates, creates_table, unless_objects}
use Rattle.statement_paths.specs.Paths.{definition_put, replied, AreLookedUp, IsAround, IsCreated, IsDoneAs, IsFailed, NoneCommits}
use Rattle.statement_paths.proofs.Only.{AnyStep, IsTouch, NoCommit, only_naming}
use Rattle.statement_paths.proofs.Still.{Still, reads_still, still_then}
use Rattle.statement_paths.proofs.Apart.{Apart, held_left, left_apart}
use Rattle.statement_paths.proofs.Working.{creates_apart, naming_never}
use Rattle.statement_paths.proofs.Failing.{creates_failed, failed_more, read_failed}
use Rattle.statement_paths.proofs.Works.{IsWorkStep, Works, Worked, binds_work, creates_works, prepares_reads, reads_work, unless_works, works_leave, works_own}
use Rattle.statement_paths.proofs.Owned.{Behind, Committed, Owned, Refused, behind_worked, calm_left, entered, none_append, own_held, own_left, works_calm, worked_behind}
use Rattle.statement_paths.proofs.Statements.{Bound_by, HasCome, NoOp, WasLeft, begun_still, binds_apart, binds_failed, binds_parts, looked_none, never_ok, own_comes, own_was_left, prepared, prepares_silent, room_held, room_left, silent_held}

-- ---- names that are no object's

-- it is no object of that name
pub another_held : (name : List ℕ) (tree : Doing (Result Effect Failure)) (p new : SessionProgress) (exchanges : List Exchange) (effect : Effect) → Held (unless_objects name tree) p exchanges (Ok effect) new → (is_objects name ≡ false) × Held tree p exchanges (Ok effect) new
another_held name tree p new exchanges effect held = by_test (is_objects name) refl held
  where
    by_test : (test : Bool) → is_objects name ≡ test → Held (if test then fails_naming object_present name else tree) p exchanges (Ok effect) new → (is_objects name ≡ false) × Held tree p exchanges (Ok effect) new
    by_test true so was = absurd (naming_never object_present name p new exchanges effect was)
    by_test false so was = (so, was)

pub another_failed : {Goal : Type 0} (name : List ℕ) (tree : Doing (Result Effect Failure)) (p new : SessionProgress) (exchanges : List Exchange) (failure : Failure) → Held (unless_objects name tree) p exchanges (Err failure) new
    → (exchanges ≡ [] → Goal) → (Held tree p exchanges (Err failure) new → Goal) → Goal
another_failed {Goal = Goal} name tree p new exchanges failure held none on = by_test (is_objects name) held
  where
    by_test : (test : Bool) → Held (if test then fails_naming object_present name else tree) p exchanges (Err failure) new → Goal
    by_test true was = none (silent_held (fails_naming {A = Effect} object_present name) p new exchanges (Err failure) (only_naming IsTouch NoOp Effect object_present name) was)
    by_test false was = on was

-- ---- within its transaction

module _ (around : Around) (p0 : SessionProgress) (statement : Statement) (table : TableTree) (text : List ℕ) where
  abbrev name : List ℕ
  name = table.name

  abbrev pub putting : List TableTree → Bound → Doing (Result Effect Failure)
  putting shapes of = unless_objects name (creates name text)

  abbrev pub created_work : Doing (Result Effect Failure)
  created_work = binds around statement putting

  created_works : Works created_work
  created_works = binds_work around statement putting (λ shapes of. unless_works name (creates name text) (creates_works name text))

  done_as : (definitions : List Definition) (of : Bound) (looked worked exchanges : List Exchange) (effect : Effect) → exchanges ≡ looked ++ worked → AreLookedUp p0.settings.manner (known_by around statement) [] (looked_up statement) looked definitions → bound_over definitions p0.vars statement ≡ Ok of
      → IsCreated around p0 name text (definition_put name text ∷ []) effect worked → IsDoneAs around p0 (Form-F.CreateTable table text) statement (definition_put name text ∷ []) effect exchanges
  done_as definitions of looked worked exchanges effect parts looks binds created = record {
    definitions = definitions;
    of = of;
    looked = looked;
    worked = worked;
    parts = parts;
    looks = looks;
    binds = binds;
    works = created;
  }

  created_done : (p new : SessionProgress) (exchanges : List Exchange) (effect : Effect) → Still p0 p → Held created_work p exchanges (Ok effect) new → (planned : List Planned) × IsDoneAs around p0 (Form-F.CreateTable table text) statement planned effect exchanges
  created_done p new exchanges effect still held =
      let on = binds_apart around p0 statement putting p new exchanges effect still held in
      let was = another_held name (creates name text) on.mid new on.worked effect on.rest in
      (definition_put name text ∷ [], done_as on.definitions on.of on.looked on.worked exchanges effect on.parts on.looks on.binds (creates_apart around p0 name text on.mid new on.worked effect was.0 on.still was.1))

  created_failed : (p new : SessionProgress) (exchanges : List Exchange) (failure : Failure) → Still p0 p → Held created_work p exchanges (Err failure) new → IsFailed p0.settings.manner exchanges
  created_failed p new exchanges failure still held = by_failed (binds_failed around p0 statement putting p new exchanges failure still held)
    where
      by_failed : AskOnly IsFetch exchanges ⊎ Bound_by around p0 statement p (λ shapes of q worked. Held (putting shapes of) q worked (Err failure) new) exchanges → IsFailed p0.settings.manner exchanges
      by_failed (inl fetches) = read_failed p0.settings.manner exchanges fetches
      by_failed (inr on) = failed_more p0.settings.manner exchanges on.looked on.worked on.parts on.fetches
          (another_failed name (creates name text) on.mid new on.worked failure on.rest (λ none. read_failed p0.settings.manner on.worked (subst (AskOnly IsFetch) (sym none) tt)) (λ was. creates_failed p0 name text on.mid new on.worked failure on.still was))

module _ (around : Around) (statement : Statement) (p : SessionProgress) (table : TableTree) (text : List ℕ) where
  -- what it does, with what it planned
  abbrev pub Is : Effect → List Exchange → Type 0
  Is effect exchanges = (planned : List Planned) × IsDoneAs around p (Form-F.CreateTable table text) statement planned effect exchanges

  abbrev pub later_putting : List TableTree → Bound → Doing (Result Effect Failure)
  later_putting shapes of = unless_objects table.name (own true (creates table.name text))

  -- where the transaction is begun behind the binding
  module _ (none : asks_any (known_by around statement) (looked_up statement) ≡ false) where
    around_same : (mid : SessionProgress) (succeeded : Bool) (worked exchanges : List Exchange) → Worked p mid → IsAround true mid.is_open succeeded mid.settings.manner worked exchanges → IsAround true p.is_open succeeded p.settings.manner worked exchanges
    around_same mid succeeded worked exchanges leaves here =
        subst (λ (m : Manner). IsAround true p.is_open succeeded m worked exchanges) (ap (λ (q : SessionProgress). q.settings.manner) leaves) (subst (λ (b : Bool). IsAround true b succeeded mid.settings.manner worked exchanges) (ap (λ (q : SessionProgress). q.is_open) leaves) here)

    later_still : (mid : SessionProgress) → Still p mid → Still p (entered true mid.is_open mid)
    later_still mid still = still_then p mid (entered true mid.is_open mid) still (begun_still true mid.is_open mid)

    later_ok : (new : SessionProgress) (exchanges : List Exchange) (effect : Effect) → Held (binds around statement later_putting) p exchanges (Ok effect) new → HasCome p Is true (Ok effect) exchanges × Behind p new
    later_ok new exchanges effect held =
        let on = binds_apart around p statement later_putting p new exchanges effect refl held in
        let was = another_held table.name (own true (creates table.name text)) on.mid new on.worked effect on.rest in
        by_ways on was.0 (own_held (creates table.name text) (works_own (creates table.name text) (creates_works table.name text)) on.mid new on.worked (Ok effect) true was.1)
      where
        by_ways : (on : Bound_by around p statement p (λ shapes of q worked. Held (later_putting shapes of) q worked (Ok effect) new) exchanges) → is_objects table.name ≡ false
            → Refused {A = Effect} on.mid (Ok effect) on.worked new ⊎ Owned true on.mid.is_open (creates table.name text) on.mid (Ok effect) on.worked new → HasCome p Is true (Ok effect) exchanges × Behind p new
        by_ways on another (inl refused) = absurd (never_ok p Is effect (plain no_memory) refused.failed)
        by_ways on another (inr owned) =
            let silent : on.looked ≡ [] = looked_none (known_by around statement) p.settings.manner (looked_up statement) [] on.looked on.definitions none on.looks in
            let whole : exchanges ≡ on.worked = on.parts ∙ ap (λ (l : List Exchange). l ++ on.worked) silent in
            let created = creates_apart around p table.name text (entered true on.mid.is_open on.mid) owned.mid owned.worked effect another (later_still on.mid on.still) owned.held in (
              (
                owned.worked,
                (definition_put table.name text ∷ [], done_as around p statement table text on.definitions on.of on.looked owned.worked owned.worked effect (ap (λ (l : List Exchange). l ++ owned.worked) (sym silent)) on.looks on.binds created),
                subst (λ (l : List Exchange). IsAround true p.is_open true p.settings.manner owned.worked l) (sym whole) (around_same on.mid true owned.worked on.worked on.leaves owned.around),
              ),
              behind_worked p on.mid new on.leaves owned.leaves,
            )

    later_err : (new : SessionProgress) (exchanges : List Exchange) (failure : Failure) → Held (binds around statement later_putting) p exchanges (Err failure) new → HasCome p Is true (Err failure) exchanges × Behind p new
    later_err new exchanges failure held = by_failed (binds_parts around p statement later_putting p new exchanges failure refl held)
      where
        by_ways : (on : Bound_by around p statement p (λ shapes of q worked. Held (later_putting shapes of) q worked (Err failure) new) exchanges) → exchanges ≡ on.worked
            → Refused {A = Effect} on.mid (Err failure) on.worked new ⊎ Owned true on.mid.is_open (creates table.name text) on.mid (Err failure) on.worked new → HasCome p Is true (Err failure) exchanges × Behind p new
        by_ways on whole (inl refused) = (inr (inl (whole ∙ refused.asks ∙ ap (λ (m : Manner). replied m ops.Begin replies.Memory ∷ []) (ap (λ (q : SessionProgress). q.settings.manner) on.leaves))), behind_worked p on.mid new on.leaves refused.leaves)
        by_ways on whole (inr owned) = (
          inr (inr (
            owned.worked,
            creates_failed p table.name text (entered true on.mid.is_open on.mid) owned.mid owned.worked failure (later_still on.mid on.still) owned.held,
            subst (λ (l : List Exchange). IsAround true p.is_open false p.settings.manner owned.worked l) (sym whole) (around_same on.mid false owned.worked on.worked on.leaves owned.around),
          )),
          behind_worked p on.mid new on.leaves owned.leaves,
        )

        by_bound : (on : Bound_by around p statement p (λ shapes of q worked. Held (later_putting shapes of) q worked (Err failure) new) exchanges) → exchanges ≡ on.worked → HasCome p Is true (Err failure) exchanges × Behind p new
        by_bound on whole = by_test (is_objects table.name) on.rest
          where
            by_test : (test : Bool) → Held (if test then fails_naming object_present table.name else own true (creates table.name text)) on.mid on.worked (Err failure) new → HasCome p Is true (Err failure) exchanges × Behind p new
            by_test true was = (
              inl (whole ∙ silent_held (fails_naming {A = Effect} object_present table.name) on.mid new on.worked (Err failure) (only_naming IsTouch NoOp Effect object_present table.name) was),
              behind_worked p on.mid new on.leaves (worked_behind on.mid new (works_leave on.mid (fails_naming {A = Effect} object_present table.name) new on.worked (Err failure) (only_naming IsWorkStep IsQuiet Effect object_present table.name) was)),
            )
            by_test false was = by_ways on whole (own_held (creates table.name text) (works_own (creates table.name text) (creates_works table.name text)) on.mid new on.worked (Err failure) true was)

        by_failed : Held (prepares around statement) p exchanges (Err failure) new ⊎ Bound_by around p statement p (λ shapes of q worked. Held (later_putting shapes of) q worked (Err failure) new) exchanges → HasCome p Is true (Err failure) exchanges × Behind p new
        by_failed (inl first) = (inl (silent_held (prepares around statement) p new exchanges (Err failure) (prepares_silent around statement none) first), worked_behind p new (works_leave p (prepares around statement) new exchanges (Err failure) (reads_work (prepares around statement) (prepares_reads around statement)) first))
        by_failed (inr on) = by_bound on (on.parts ∙ ap (λ (l : List Exchange). l ++ on.worked) (looked_none (known_by around statement) p.settings.manner (looked_up statement) [] on.looked on.definitions none on.looks))

    later_come : (came : Result Effect Failure) (new : SessionProgress) (exchanges : List Exchange) → Held (binds around statement later_putting) p exchanges came new → HasCome p Is true came exchanges × Behind p new
    later_come (Ok effect) new exchanges held = later_ok new exchanges effect held
    later_come (Err failure) new exchanges held = later_err new exchanges failure held

    -- where it was left
    later_left : (new : SessionProgress) (exchanges : List Exchange) → Left (binds around statement later_putting) p exchanges new → WasLeft p Is true exchanges
    unfolding binds
    later_left new exchanges left = by_left (left_apart (prepares around statement) (on_ok (λ made. later_putting made.0 made.1)) p new exchanges left)
      where
        on_committed : (made : List TableTree × Bound) (mid : SessionProgress) (front back : List Exchange) → exchanges ≡ front ++ back → Held (prepares around statement) p front (Ok made) mid → NoneCommits front → is_objects table.name ≡ false
            → NoneCommits back ⊎ ((true ≡ true) × Committed (creates table.name text) mid back) → WasLeft p Is true exchanges
        on_committed made mid front back parts first calm another (inl none_later) = inl (subst NoneCommits (sym parts) (none_append front back calm none_later))
        on_committed made mid front back parts first calm another (inr (so, c)) =
            let silent : front ≡ [] = silent_held (prepares around statement) p mid front (Ok made) (prepares_silent around statement none) first in
            let whole : exchanges ≡ back = parts ∙ ap (λ (l : List Exchange). l ++ back) silent in
            let leaves : Worked p mid = works_leave p (prepares around statement) mid front (Ok made) (reads_work (prepares around statement) (prepares_reads around statement)) first in
            let still : Still p mid = reads_still p (prepares around statement) mid front (Ok made) (prepares_reads around statement) first in
            let was = prepared around p statement p mid front made refl first in
            let created = creates_apart around p table.name text (asked ops.Begin replies.Began mid) c.mid c.worked c.result another (still_then p mid (asked ops.Begin replies.Began mid) still refl) c.held in
            inr (
              sym (ap (λ (q : SessionProgress). q.is_open) leaves) ∙ c.shut,
              c.result,
              c.worked,
              (definition_put table.name text ∷ [], done_as around p statement table text was.0 was.1 front c.worked c.worked c.result (ap (λ (l : List Exchange). l ++ c.worked) (sym silent)) was.3 was.4 created),
              subst (λ (l : List Exchange). IsAround true false true p.settings.manner c.worked l) (sym whole) (subst (λ (m : Manner). IsAround true false true m c.worked back) (ap (λ (q : SessionProgress). q.settings.manner) leaves) c.around),
            )

        by_made : (came : Result (List TableTree × Bound) Failure) (mid : SessionProgress) (front back : List Exchange) → exchanges ≡ front ++ back → Held (prepares around statement) p front came mid → NoneCommits front → Left (on_ok (λ made. later_putting made.0 made.1) came) mid back new → WasLeft p Is true exchanges
        by_made (Err failure) mid front back parts first calm rest = inl (subst NoneCommits (sym parts) (none_append front back calm (calm_left {A = Result Effect Failure} (over (Err failure)) mid new back tt rest)))
        by_made (Ok made) mid front back parts first calm rest = by_test (is_objects table.name) refl rest
          where
            by_test : (test : Bool) → is_objects table.name ≡ test → Left (if test then fails_naming object_present table.name else own true (creates table.name text)) mid back new → WasLeft p Is true exchanges
            by_test true so was = inl (subst NoneCommits (sym parts) (none_append front back calm (calm_left (fails_naming {A = Effect} object_present table.name) mid new back (only_naming AnyStep NoCommit Effect object_present table.name) was)))
            by_test false so was = on_committed made mid front back parts first calm so (own_left (creates table.name text) (works_own (creates table.name text) (creates_works table.name text)) mid new true back was)

        first_calm : (q : SessionProgress) (front : List Exchange) → Left (prepares around statement) p front q → NoneCommits front
        first_calm q front here = calm_left (prepares around statement) p q front (works_calm (prepares around statement) (reads_work (prepares around statement) (prepares_reads around statement))) here

        by_left : Left (prepares around statement) p exchanges new ⊎ Apart (prepares around statement) p exchanges (λ came mid back. Left (on_ok (λ made. later_putting made.0 made.1) came) mid back new) → WasLeft p Is true exchanges
        by_left (inl here) = inl (first_calm new exchanges here)
        by_left (inr on) = by_made on.came on.mid on.front on.back on.parts on.held (first_calm on.mid on.front (held_left (prepares around statement) p on.mid on.front on.came on.held)) on.rest

  -- by whether its parents are looked up
  pub creates_come : (came : Result Effect Failure) (new : SessionProgress) (exchanges : List Exchange) → Held (creates_table around statement table.name text) p exchanges came new → HasCome p Is true came exchanges × Behind p new
  unfolding creates_table
  creates_come came new exchanges held = room_held p Is (if asks_any (known_by around statement) (looked_up statement) then own true (created_work around p statement table text) else binds around statement later_putting) came new exchanges true held (by_test (asks_any (known_by around statement) (looked_up statement)) refl)
    where
      by_test : (test : Bool) → asks_any (known_by around statement) (looked_up statement) ≡ test → Held (if test then own true (created_work around p statement table text) else binds around statement later_putting) p exchanges came new → HasCome p Is true came exchanges × Behind p new
      by_test true so was = own_comes p Is (created_work around p statement table text) (created_works around p statement table text) (created_done around p statement table text) (created_failed around p statement table text) true came new exchanges was
      by_test false so was = later_come so came new exchanges was

  pub creates_left : (new : SessionProgress) (exchanges : List Exchange) → Left (creates_table around statement table.name text) p exchanges new → WasLeft p Is true exchanges
  unfolding creates_table
  creates_left new exchanges left = room_left p Is (if asks_any (known_by around statement) (looked_up statement) then own true (created_work around p statement table text) else binds around statement later_putting) new exchanges true left (by_test (asks_any (known_by around statement) (looked_up statement)) refl)
    where
      by_test : (test : Bool) → asks_any (known_by around statement) (looked_up statement) ≡ test → Left (if test then own true (created_work around p statement table text) else binds around statement later_putting) p exchanges new → WasLeft p Is true exchanges
      by_test true so was = own_was_left p Is (created_work around p statement table text) (created_works around p statement table text) (created_done around p statement table text) (created_failed around p statement table text) true new exchanges was
      by_test false so was = later_left so new exchanges was
