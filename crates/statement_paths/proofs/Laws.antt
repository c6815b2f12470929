-- The laws, of the parts.
use Rattle.std.proofs.Common.{◌≡◌, ◌⊎◌, inl, inr, ℕ, ℤ, Bool, true, false, List, [], ◌∷◌, Result, Ok, Err, refl, sym, ◌∙◌, subst}
use Rattle.tsql_tree.specs.declared.definition.TableTree.{TableTree}
use Rattle.tsql_tree.specs.declared.statement.Form.{Form-F}
use Rattle.tsql_tree.specs.declared.statement.Statement.{Statement}
use Rattle.bound_tree.specs.declared.write.Bound.{Bound}
use Rattle.binder.specs.Names.{Layer, form_of, looked_up}
use Rattle.step_model.specs.declared.change.Planned.{Planned}
use Rattle.step_model.specs.Exchange.{Exchange}
use Rattle.batch_meaning.specs.declared.failure.Failure.{Failure}
use Rattle.batch_meaning.specs.declared.stop.Stop.{Stop}
use Rattle.batch_meaning.specs.Doing.{Held, Left}
use Rattle.batch_meaning.specs.Failures.{plain}
use Rattle.batch_meaning.specs.Meaning.{Meaning, fires}
use Rattle.batch_meaning.specs.Progress.{SessionProgress}
use Rattle.batch_meaning.specs.Raised.{Around}
use Rattle.batch_meaning.specs.Selecting.{Effect, not_bound_so}
use Rattle.batch_meaning.specs.Working.{asks_any, known_by, status_bound, statuses, works, works_bound}
use Rattle.batch_meaning.specs.Writes.{Written}
use Rattle.statement_paths.specs.Laws.{CallDone, CallFailed, ChangeDone, ChangeFailed, DefinitionDone, DefinitionFailed, DefinitionLeft, ReturnDone, ReturnFailed, WorkDone, WorkFailed, WorkLeft, WorkUnasked, WriteComes, WriteLeft, WriteUnasked}
use Rattle.statement_paths.specs.Paths.{HasChanged, HasDone, HasFailed, HasFailedIn, HasPut, IsAround, IsBound, IsDoneAs, IsFailed, IsFired, IsStatus, IsUnfired, IsWorked, NoneCommits, asks_for, asks_of, is_write, work_for}
use Rattle.statement_paths.proofs.Still.{Still}
use Rattle.statement_paths.proofs.Working.{status_read, statuses_apart, worked_apart}
use Rattle.statement_paths.proofs.Failing.{reads_failed, worked_failed}
use Rattle.statement_paths.proofs.Works.{reads_work, worked_works}
use Rattle.statement_paths.proofs.Owned.{Behind}
use Rattle.statement_paths.proofs.Statements.{HasCome, WasLeft, bound_comes, bound_left}
use Rattle.statement_paths.proofs.Creating.{creates_come, creates_left}
use Rattle.statement_paths.proofs.Naming.{IsDropped, calls_come, drops_come, drops_left}
use Rattle.statement_paths.proofs.Defining.{IsPutAs, definition_comes, definition_left}
use Rattle.statement_paths.proofs.Unasked.{changes_silent, work_silent}
use Rattle.statement_paths.proofs.Writes.{Asks, Fires, IsAlone, IsChangedAs, Ways, alone_as, alone_left, alone_of, asks_write, changed_as, changes_come, fired_as, writes_apart, writes_left}

-- ---- statements that are done with their effect

module _ (around : Around) (statement : Statement) (p : SessionProgress) where
  -- with what it planned
  abbrev pub DoneAs : Layer → Effect → List Exchange → Type 0
  DoneAs form effect exchanges = (planned : List Planned) × IsDoneAs around p form statement planned effect exchanges

  abbrev WorkedBy : Layer → List TableTree → Bound → Effect → List Exchange → Type 0
  WorkedBy form shapes of effect exchanges = (planned : List Planned) × IsWorked around p form shapes of planned effect exchanges

  abbrev IsWorkedAs : Layer → Effect → List Exchange → Type 0
  IsWorkedAs form effect exchanges = IsBound around p statement (λ shapes of worked. WorkedBy form shapes of effect worked) exchanges

  -- the same of another fact of what it came to
  come_as : {A : Type 0} (Is Other : A → List Exchange → Type 0) → ((a : A) (worked : List Exchange) → Is a worked → Other a worked) → (asks_some : Bool) (came : Result A Failure) (exchanges : List Exchange) → HasCome p Is asks_some came exchanges → HasCome p Other asks_some came exchanges
  come_as Is Other goes asks_some (Ok a) exchanges came = (came.0, goes a came.0 came.1, came.2)
  come_as Is Other goes asks_some (Err failure) exchanges came = came

  left_as : {A : Type 0} (Is Other : A → List Exchange → Type 0) → ((a : A) (worked : List Exchange) → Is a worked → Other a worked) → (asks_some : Bool) (exchanges : List Exchange) → WasLeft p Is asks_some exchanges → WasLeft p Other asks_some exchanges
  left_as Is Other goes asks_some exchanges (inl calm) = inl calm
  left_as Is Other goes asks_some exchanges (inr on) = inr (on.0, on.1, on.2, goes on.1 on.2 on.3, on.4)

  planned_as : (form : Layer) (effect : Effect) (exchanges : List Exchange) (is : IsWorkedAs form effect exchanges) → IsBound around p statement (λ shapes of worked. IsWorked around p form shapes of is.works.0 effect worked) exchanges
  planned_as form effect exchanges is = record { definitions = is.definitions; of = is.of; looked = is.looked; worked = is.worked; parts = is.parts; looks = is.looks; binds = is.binds; works = is.works.1 }

  -- DROP is none of these
  drop_never : {A : Type 0} (kind : _) (name : List ℕ) (effect : Effect) (exchanges : List Exchange) → IsWorkedAs (Form-F.Drop kind name) effect exchanges → A
  drop_never kind name effect exchanges is = let no : Err (plain not_bound_so) ≡ Ok effect = is.works.1.makes in absurd (cc)

  worked_as : (form : Layer) (effect : Effect) (exchanges : List Exchange) → IsWorkedAs form effect exchanges → DoneAs form effect exchanges
  worked_as (Form-F.Drop kind name) effect exchanges is = drop_never kind name effect exchanges is
  worked_as form effect exchanges is = (is.works.0, planned_as form effect exchanges is)

  dropped_as : (kind : _) (name : List ℕ) (effect : Effect) (exchanges : List Exchange) → IsDropped around p statement kind name effect exchanges → DoneAs (Form-F.Drop kind name) effect exchanges
  dropped_as kind name effect exchanges is = (is.works.0, record { found = is.found; of = is.of; looked = is.looked; worked = is.worked; parts = is.parts; looks = is.looks; binds = is.binds; works = is.works.1 })

  -- by what it is bound to
  works_come : (form : Layer) → form_of statement ≡ form → (came : Result Effect Failure) (new : SessionProgress) (exchanges : List Exchange) → Held (works around statement) p exchanges came new
      → HasCome p (DoneAs form) (asks_any (known_by around statement) (looked_up statement)) came exchanges × Behind p new
  unfolding works
  works_come form is came new exchanges held =
      let on = bound_comes around p statement (works_bound around (form_of statement)) (WorkedBy (form_of statement)) (worked_works around p (form_of statement)) (worked_apart around p (form_of statement)) (worked_failed around p (form_of statement)) came new exchanges held in
      (come_as (IsWorkedAs (form_of statement)) (DoneAs form) (λ effect worked done. subst (λ (f : Layer). DoneAs f effect worked) is (worked_as (form_of statement) effect worked done)) (asks_any (known_by around statement) (looked_up statement)) came exchanges on.0, on.1)

  works_left : (form : Layer) → form_of statement ≡ form → (new : SessionProgress) (exchanges : List Exchange) → Left (works around statement) p exchanges new → WasLeft p (DoneAs form) (asks_any (known_by around statement) (looked_up statement)) exchanges
  unfolding works
  works_left form is new exchanges left =
      left_as (IsWorkedAs (form_of statement)) (DoneAs form) (λ effect worked done. subst (λ (f : Layer). DoneAs f effect worked) is (worked_as (form_of statement) effect worked done)) (asks_any (known_by around statement) (looked_up statement)) exchanges
      (bound_left around p statement (works_bound around (form_of statement)) (WorkedBy (form_of statement)) (worked_works around p (form_of statement)) (worked_apart around p (form_of statement)) (worked_failed around p (form_of statement)) new exchanges left)

  form_comes : (form : Layer) → form_of statement ≡ form → (came : Result Effect Failure) (new : SessionProgress) (exchanges : List Exchange) → Held (work_for around statement form) p exchanges came new → HasCome p (DoneAs form) (asks_for around statement form) came exchanges × Behind p new
  form_comes (Form-F.CreateTable table text) is came new exchanges held = creates_come around statement p table text came new exchanges held
  form_comes (Form-F.Drop kind name) is came new exchanges held =
      let on = drops_come around p statement kind name came new exchanges held in (come_as (IsDropped around p statement kind name) (DoneAs (Form-F.Drop kind name)) (dropped_as kind name) (asks_any (known_by around statement) (name ∷ [])) came exchanges on.0, on.1)
  form_comes form is came new exchanges held = works_come form is came new exchanges held

  pub work_comes : (came : Result Effect Failure) (new : SessionProgress) (exchanges : List Exchange) → Held (work_for around statement (form_of statement)) p exchanges came new → HasCome p (DoneAs (form_of statement)) (asks_of around statement) came exchanges × Behind p new
  work_comes came new exchanges held = form_comes (form_of statement) refl came new exchanges held

  form_left : (form : Layer) → form_of statement ≡ form → (new : SessionProgress) (exchanges : List Exchange) → Left (work_for around statement form) p exchanges new → WasLeft p (DoneAs form) (asks_for around statement form) exchanges
  form_left (Form-F.CreateTable table text) is new exchanges left = creates_left around statement p table text new exchanges left
  form_left (Form-F.Drop kind name) is new exchanges left =
      left_as (IsDropped around p statement kind name) (DoneAs (Form-F.Drop kind name)) (dropped_as kind name) (asks_any (known_by around statement) (name ∷ [])) exchanges (drops_left around p statement kind name new exchanges left)
  form_left form is new exchanges left = works_left form is new exchanges left

pub work_done : WorkDone
work_done around statement old new exchanges effect held = let came = (work_comes around statement old (Ok effect) new exchanges held).0 in (came.1.0, (came.0, came.1.1, came.2))

pub work_failed : WorkFailed
work_failed around statement old new exchanges failure held = (work_comes around statement old (Err failure) new exchanges held).0

-- what was left has committed nothing, or all of it
committed_as : (p : SessionProgress) {A : Type 0} (Is : A → List Exchange → Type 0) (asks_some : Bool) (exchanges : List Exchange) (a : A) (worked : List Exchange) → p.is_open ≡ false → Is a worked → IsAround asks_some false true p.settings.manner worked exchanges
    → IsAround asks_some p.is_open true p.settings.manner worked exchanges
committed_as p Is asks_some exchanges a worked shut done here = subst (λ (b : Bool). IsAround asks_some b true p.settings.manner worked exchanges) (sym shut) here

pub work_was_left : WorkLeft
work_was_left around statement old new exchanges left = by_left (form_left around statement old (form_of statement) refl new exchanges left)
  where
    by_left : WasLeft old (DoneAs around statement old (form_of statement)) (asks_of around statement) exchanges → NoneCommits exchanges ⊎ ((old.is_open ≡ false) × (planned : List Planned) × (effect : Effect) × HasDone around old statement planned effect exchanges)
    by_left (inl calm) = inl calm
    by_left (inr on) = inr (on.0, on.3.0, on.1, (on.2, on.3.1, committed_as old (DoneAs around statement old (form_of statement)) (asks_of around statement) exchanges on.1 on.2 on.0 on.3 on.4))

pub work_unasked : WorkUnasked
work_unasked around statement old new exchanges came outside none held = work_silent around statement old new exchanges came outside none held

-- ---- INSERT, UPDATE and DELETE

module _ (around : Around) (statement : Statement) (p : SessionProgress) (is : is_write (form_of statement) ≡ true) where
  fails_as : (exchanges : List Exchange) → HasFailedIn (Asks around p statement) p exchanges → HasFailed around p statement exchanges
  fails_as exchanges failed = subst (λ (b : Bool). HasFailedIn b p exchanges) (sym (asks_write around p statement is)) failed

  around_as : (is_open : Bool) (worked exchanges : List Exchange) → IsAround (Asks around p statement) is_open true p.settings.manner worked exchanges → IsAround (asks_of around statement) is_open true p.settings.manner worked exchanges
  around_as is_open worked exchanges here = subst (λ (b : Bool). IsAround b is_open true p.settings.manner worked exchanges) (sym (asks_write around p statement is)) here

  change_done : (done : Written) (new : SessionProgress) (exchanges : List Exchange) → HasCome p (IsChangedAs around p statement) (Asks around p statement) (Ok done) exchanges → (planned : List Planned) × HasChanged around p statement planned done exchanges
  change_done done new exchanges came = let changed = changed_as around p statement done came.0 came.1 in (changed.0, (came.0, changed.1, around_as p.is_open came.0 exchanges came.2))

  alone_done : (done : Written) (exchanges : List Exchange) → done.fires ≡ [] → HasCome p (IsChangedAs around p statement) (Asks around p statement) (Ok done) exchanges → (planned : List Planned) × HasDone around p statement planned done.effect exchanges
  alone_done done exchanges none came =
      let changed = changed_as around p statement done came.0 came.1 in (changed.0, (came.0, alone_as around p statement is changed.0 done came.0 none changed.1, around_as p.is_open came.0 exchanges came.2))

  module _ (one : Statement → Meaning) (new : SessionProgress) (exchanges : List Exchange) where
    by_ways : (came : Result Effect Stop) → Ways around p statement one came new exchanges → IsUnfired around p statement came exchanges ⊎ IsFired around p statement (λ home done mid behind. Held (fires one around home done) mid behind came new) exchanges
    by_ways came (inl (failure, same, held)) = inl (subst (λ (c : Result Effect Stop). IsUnfired around p statement c exchanges) (sym same) (fails_as exchanges (changes_come around p statement (Err failure) new exchanges held).0))
    by_ways came (inr (inl (done, none, same, held))) =
        inl (subst (λ (c : Result Effect Stop). IsUnfired around p statement c exchanges) (sym same) (alone_done done exchanges none (changes_come around p statement (Ok done) new exchanges held).0))
    by_ways came (inr (inr fired)) = inr (fired_as around p statement is (λ home done mid behind. Held (fires one around home done) mid behind came new) exchanges fired)

    abbrev LeftAs : Type 0
    LeftAs = (NoneCommits exchanges ⊎ ((p.is_open ≡ false) × (planned : List Planned) × (effect : Effect) × HasDone around p statement planned effect exchanges)) ⊎ IsFired around p statement (λ home done mid behind. Left (fires one around home done) mid behind new) exchanges

    by_alone : WasLeft p (IsAlone around p statement) (Asks around p statement) exchanges → LeftAs
    by_alone (inl calm) = inl (inl calm)
    by_alone (inr on) =
        let changed = changed_as around p statement on.1 on.2 on.3.0 in
        inl (inr (
          on.0,
          changed.0,
          on.1.effect,
          (
            on.2,
            alone_as around p statement is changed.0 on.1 on.2 on.3.1 changed.1,
            around_as p.is_open on.2 exchanges (committed_as p (IsAlone around p statement) (Asks around p statement) exchanges on.1 on.2 on.0 on.3 on.4),
          ),
        ))

    by_left : Left (alone_of around p statement) p exchanges new ⊎ Fires around p statement (λ home done mid last. Left (fires one around home done) mid last new) exchanges → LeftAs
    by_left (inl alone) = by_alone (alone_left around p statement new exchanges alone)
    by_left (inr fired) = inr (fired_as around p statement is (λ home done mid behind. Left (fires one around home done) mid behind new) exchanges fired)

    -- where nothing is asked it fires none
    by_silent : Asks around p statement ≡ false → (came : Result Effect Stop) → Ways around p statement one came new exchanges → exchanges ≡ []
    by_silent none came (inl (failure, same, held)) = changes_silent around statement p new exchanges (Err failure) is none held
    by_silent none came (inr (inl (done, unfired, same, held))) = changes_silent around statement p new exchanges (Ok done) is none held
    by_silent none came (inr (inr fired)) =
        let on = fired_as around p statement is (λ home done mid behind. Held (fires one around home done) mid behind came new) exchanges fired in
        let no : true ≡ false = sym on.writes.asks ∙ asks_write around p statement is ∙ none in absurd (cc)

pub write_comes : WriteComes
write_comes one around statement old new exchanges came is held = by_ways around statement old is one new exchanges came (writes_apart around old statement one came new exchanges held)

pub write_left : WriteLeft
write_left one around statement old new exchanges is left = by_left around statement old is one new exchanges (writes_left around old statement one new exchanges left)

pub change_is_done : ChangeDone
change_is_done around statement old new exchanges done is held = change_done around statement old is done new exchanges (changes_come around old statement (Ok done) new exchanges held).0

pub change_has_failed : ChangeFailed
change_has_failed around statement old new exchanges failure is held = fails_as around statement old is exchanges (changes_come around old statement (Err failure) new exchanges held).0

pub write_unasked : WriteUnasked
write_unasked one around statement old new exchanges came is none held =
    by_silent around statement old is one new exchanges (sym (asks_write around old statement is) ∙ none) came (writes_apart around old statement one came new exchanges held)

-- ---- RETURN

module _ (around : Around) (statement : Statement) (p : SessionProgress) where
  abbrev pub StatusBy : List TableTree → Bound → ℤ → List Exchange → Type 0
  StatusBy shapes of status exchanges = IsStatus around p shapes of status exchanges

  abbrev pub IsReturning : ℤ → List Exchange → Type 0
  IsReturning status exchanges = IsBound around p statement (λ shapes of worked. StatusBy shapes of status worked) exchanges

  status_failed : (shapes : List TableTree) (of : Bound) (q new : SessionProgress) (exchanges : List Exchange) (failure : Failure) → Still p q → Held (status_bound around shapes of) q exchanges (Err failure) new → IsFailed p.settings.manner exchanges
  status_failed shapes of q new exchanges failure still held = reads_failed p.settings.manner (status_bound around shapes of) q new exchanges (Err failure) (status_read around p shapes of) held

  pub statuses_come : (came : Result ℤ Failure) (new : SessionProgress) (exchanges : List Exchange) → Held (statuses around statement) p exchanges came new → HasCome p IsReturning (asks_any (known_by around statement) (looked_up statement)) came exchanges × Behind p new
  unfolding statuses
  statuses_come came new exchanges held =
      bound_comes around p statement (status_bound around) StatusBy (λ shapes of. reads_work (status_bound around shapes of) (status_read around p shapes of)) (λ shapes of q new exchanges status still held. statuses_apart around p shapes of q new exchanges status still held) status_failed came new exchanges held

pub return_done : ReturnDone
return_done around statement old new exchanges status held = (statuses_come around statement old (Ok status) new exchanges held).0

pub return_failed : ReturnFailed
return_failed around statement old new exchanges failure held = (statuses_come around statement old (Err failure) new exchanges held).0

-- ---- EXEC

pub call_done : CallDone
call_done around statement status name arguments old new exchanges call held = (calls_come around old statement status name arguments (Ok call) new exchanges held).0

pub call_failed : CallFailed
call_failed around statement status name arguments old new exchanges failure held = (calls_come around old statement status name arguments (Err failure) new exchanges held).0

-- ---- CREATE PROCEDURE and CREATE TRIGGER

pub definition_done : DefinitionDone
definition_done of text old new exchanges effect held = let came = (definition_comes old text of (Ok effect) new exchanges held).0 in (came.1.0, (came.0, came.1.1, came.2), came.1.2)

pub definition_failed : DefinitionFailed
definition_failed of text old new exchanges failure held = (definition_comes old text of (Err failure) new exchanges held).0

pub definition_was_left : DefinitionLeft
definition_was_left of text old new exchanges left = by_left (definition_left old text of new exchanges left)
  where
    by_left : WasLeft old (IsPutAs old text of) true exchanges → NoneCommits exchanges ⊎ ((old.is_open ≡ false) × (planned : List Planned) × HasPut old of text planned exchanges)
    by_left (inl calm) = inl calm
    by_left (inr on) = inr (on.0, on.3.0, (on.2, on.3.1, committed_as old (IsPutAs old text of) true exchanges on.1 on.2 on.0 on.3 on.4))
