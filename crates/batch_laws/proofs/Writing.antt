-- A write, with its triggers or without; and what the work of a plain statement leaves of its session.
use Rattle.std.proofs.Common.{◌≡◌, ◌⊎◌, inl, inr, ℕ, ℤ, Bool, true, false, List, [], ◌∷◌, ◌++◌, Result, Ok, Err, sym, ◌∙◌, subst}
use Rattle.tsql_tree.specs.declared.definition.Definition.{Definition}
use Rattle.tsql_tree.specs.declared.statement.Statement.{Statement}
use Rattle.binder.specs.Names.{form_of}
use Rattle.step_model.specs.declared.change.Planned.{Planned}
use Rattle.step_model.specs.declared.op.Op.TheVariants as ops
use Rattle.step_model.specs.declared.reply.Reply.TheVariants as replies
use Rattle.step_model.specs.Exchange.{Exchange}
use Rattle.step_model.specs.Own.{Progress as Stand}
use Rattle.statement_paths.specs.Asked.{AskOnly, IsFetch}
use Rattle.batch_meaning.specs.declared.failure.Failure.{Failure}
use Rattle.batch_meaning.specs.declared.home.Home.{Home}
use Rattle.batch_meaning.specs.declared.stop.Stop.{Stop}
use Rattle.batch_meaning.specs.declared.stop.Stop.TheVariants.{Failed, Left as LeftSo}
use Rattle.batch_meaning.specs.Doing.{Held}
use Rattle.batch_meaning.specs.Meaning.{Meaning, fires, writes}
use Rattle.batch_meaning.specs.Progress.{SessionProgress}
use Rattle.batch_meaning.specs.Raised.{Around}
use Rattle.batch_meaning.specs.Selecting.{Effect}
use Rattle.batch_meaning.specs.Working.{statuses}
use Rattle.batch_meaning.specs.Writes.{Written, creates_definition}
use Rattle.statement_paths.specs.Paths.{IsEntered, IsFired, IsUnfired, asks_of, changes_of, is_write, work_of}
use Rattle.statement_paths.proofs.Defining.{definition_comes}
use Rattle.statement_paths.proofs.Laws.{change_has_failed, change_is_done, statuses_come, work_comes, write_unasked}
use Rattle.statement_paths.proofs.Writes.{Ways, alone_as, changes_come, fired_as, writes_apart as ways_apart}
use Rattle.batch_laws.specs.Committing.{Agrees}
use Rattle.batch_laws.specs.Laws.{FiredLeaves, UnfiredLeaves, WriteLeaves}
use Rattle.batch_laws.proofs.Idle.{Behind, changes_shut, definition_shut, is_behind, statuses_shut, work_shuts_of}
use Rattle.batch_laws.proofs.Leaving.{Wrote, wrote_changed, wrote_done}
use Rattle.batch_laws.proofs.Opened.{changes_inside, definition_inside, form_inside, statuses_inside}
use Rattle.batch_laws.proofs.Statements.{work_fails_as, work_leaves_as}
use Rattle.batch_laws.proofs.Variables.{change_vars}

-- ---- what work leaves of its session

pub work_behind : (around : Around) (statement : Statement) (p q : SessionProgress) (exchanges : List Exchange) (came : Result Effect Failure) → Held (work_of around statement) p exchanges came q → Behind p q
work_behind around statement p q exchanges came held =
    is_behind (work_of around statement) p q exchanges came (work_shuts_of around p statement) (form_inside around p statement (form_of statement)) (work_comes around statement p came q exchanges held).1 held

pub status_behind : (around : Around) (statement : Statement) (p q : SessionProgress) (exchanges : List Exchange) (came : Result ℤ Failure) → Held (statuses around statement) p exchanges came q → Behind p q
status_behind around statement p q exchanges came held =
    is_behind (statuses around statement) p q exchanges came (statuses_shut around p statement) (statuses_inside around p statement) (statuses_come around statement p came q exchanges held).1 held

change_behind : (around : Around) (statement : Statement) (p q : SessionProgress) (exchanges : List Exchange) (came : Result Written Failure) → Held (changes_of around statement) p exchanges came q → Behind p q
change_behind around statement p q exchanges came held =
    is_behind (changes_of around statement) p q exchanges came (changes_shut around p statement) (changes_inside around p statement) (changes_come around p statement came q exchanges held).1 held

pub put_behind : (of : Definition) (text : List ℕ) (p q : SessionProgress) (exchanges : List Exchange) (came : Result Effect Failure) → Held (creates_definition of text) p exchanges came q → Behind p q
put_behind of text p q exchanges came held = is_behind (creates_definition of text) p q exchanges came (definition_shut of text) (definition_inside of text) (definition_comes p text of came q exchanges held).1 held

-- ---- with triggers or without

-- what it came to without
abbrev pub Unfired : Result Written Failure → Result Effect Stop → Type 0
Unfired (Ok done) came = (done.fires ≡ []) × (came ≡ Ok done.effect)
Unfired (Err failure) came = came ≡ Err (Failed failure)

-- where it succeeded this holds
abbrev pub UnlessErr : Result Effect Stop → Type 0 → Type 0
UnlessErr (Ok effect) P = P
UnlessErr (Err stop) P = Unit {0}

module _ (one : Statement → Meaning) (around : Around) (statement : Statement) (p new : SessionProgress) (exchanges : List Exchange) (came : Result Effect Stop) (is : is_write (form_of statement) ≡ true) where
  abbrev pub Goes : Home → Written → SessionProgress → List Exchange → Type 0
  Goes home done mid behind = Held (fires one around home done) mid behind came new

  abbrev Alone : Type 0
  Alone = (changed : Result Written Failure) × Held (changes_of around statement) p exchanges changed new × Unfired changed came × IsUnfired around p statement came exchanges

  by_ways : Ways around p statement one came new exchanges → Alone ⊎ IsFired around p statement Goes exchanges
  by_ways (inl (failure, same, held)) = inl (Err failure, held, same, subst (λ (c : Result Effect Stop). IsUnfired around p statement c exchanges) (sym same) (change_has_failed around statement p new exchanges failure is held))
  by_ways (inr (inl (done, none, same, held))) =
      let changed = change_is_done around statement p new exchanges done is held in
      inl (Ok done, held, (none, same), subst (λ (c : Result Effect Stop). IsUnfired around p statement c exchanges) (sym same) (changed.0, (changed.1.0, alone_as around p statement is changed.0 done changed.1.0 none changed.1.1, changed.1.2)))
  by_ways (inr (inr fired)) = inr (fired_as around p statement is Goes exchanges fired)

  pub ways_held : Held (writes one around statement) p exchanges came new → Alone ⊎ IsFired around p statement Goes exchanges
  ways_held held = by_ways (ways_apart around p statement one came new exchanges held)

  pub writes_apart : Held (writes one around statement) p exchanges came new → ((changed : Result Written Failure) × Held (changes_of around statement) p exchanges changed new × Unfired changed came) ⊎ IsFired around p statement Goes exchanges
  writes_apart held = by_alone (ways_held held)
    where
      by_alone : Alone ⊎ IsFired around p statement Goes exchanges → ((changed : Result Written Failure) × Held (changes_of around statement) p exchanges changed new × Unfired changed came) ⊎ IsFired around p statement Goes exchanges
      by_alone (inl (changed, held, unfired, done)) = inl (changed, held, unfired)
      by_alone (inr fired) = inr fired

  vars_by : (changed : Result Written Failure) → Held (changes_of around statement) p exchanges changed new → Unfired changed came → UnlessErr came (new.vars ≡ p.vars)
  vars_by (Ok done) held (none, same) = subst (λ (c : Result Effect Stop). UnlessErr c (new.vars ≡ p.vars)) (sym same) (change_vars around statement p new exchanges done held)
  vars_by (Err failure) held same = subst (λ (c : Result Effect Stop). UnlessErr c (new.vars ≡ p.vars)) (sym same) tt

  pub write_apart : Held (writes one around statement) p exchanges came new → (IsUnfired around p statement came exchanges × Behind p new × UnlessErr came (new.vars ≡ p.vars)) ⊎ IsFired around p statement Goes exchanges
  write_apart held = by_alone (ways_held held)
    where
      by_alone : Alone ⊎ IsFired around p statement Goes exchanges → (IsUnfired around p statement came exchanges × Behind p new × UnlessErr came (new.vars ≡ p.vars)) ⊎ IsFired around p statement Goes exchanges
      by_alone (inl (changed, held, unfired, done)) = inl (done, change_behind around statement p new exchanges changed held, vars_by changed held unfired)
      by_alone (inr fired) = inr fired

  module _ (before : Stand) (agrees : Agrees p.is_open before) (held : Held (writes one around statement) p exchanges came new) where
    fetches : asks_of around statement ≡ false → AskOnly IsFetch exchanges
    fetches none = subst (AskOnly IsFetch) (sym (write_unasked one around statement p new exchanges came is none held)) tt

    unfired_leaves : (result : Result Effect Stop) → IsUnfired around p statement result exchanges → UnfiredLeaves around p statement result exchanges before
    unfired_leaves (Ok effect) done = (
      done.0,
      done.1,
      work_leaves_as before p.settings.manner (asks_of around statement) p.is_open agrees exchanges done.1.0 done.0 (λ stand. wrote_done stand around p statement done.0 effect done.1.0 done.1.1) fetches done.1.2,
    )
    unfired_leaves (Err (Failed failure)) failed = (failed, work_fails_as p before (asks_of around statement) agrees exchanges fetches failed)
    unfired_leaves (Err (LeftSo exit)) never = absurd never

    -- what it does before its triggers run
    entered_leaves : (is_open : Bool) → Agrees is_open before → (entered worked : List Exchange) (home : Home) (planned : List Planned) → IsEntered is_open p.settings.manner entered home → ((stand : Stand) → Wrote stand worked planned) → FiredLeaves before (entered ++ worked) planned
    entered_leaves true agree entered worked home planned enters wrote =
        let was = wrote before in
        subst (λ (l : List Exchange). FiredLeaves before (l ++ worked) planned) (sym enters.0) (was.is_open ∙ agree, was.own, was.commits)
    entered_leaves false agree entered worked home planned enters wrote =
        let was = wrote (record { is_open = true; own = []; marks = [] }) in
        subst (λ (l : List Exchange). FiredLeaves before (l ++ worked) planned) (sym enters.0) (subst (λ (s : Stand). FiredLeaves s (replied_begin ∷ worked) planned) (sym agree) (was.is_open, was.own, was.commits))
      where
        replied_begin : Exchange
        replied_begin = record { op = ops.Begin; manner = p.settings.manner; reply = replies.Began }

    fired_leaves : (fired : IsFired around p statement Goes exchanges) → FiredLeaves before fired.front fired.planned
    fired_leaves fired =
        subst (λ (l : List Exchange). FiredLeaves before l fired.planned) (sym fired.writes.parts)
        (entered_leaves p.is_open agrees fired.writes.entered fired.writes.worked fired.came fired.planned fired.writes.enters (λ stand. wrote_changed stand around p statement fired.planned fired.done fired.writes.worked fired.writes.changes))

    pub write_leaves_apart : (UnfiredLeaves around p statement came exchanges before × Behind p new × UnlessErr came (new.vars ≡ p.vars)) ⊎ IsFired around p statement Goes exchanges
    write_leaves_apart = by_apart (write_apart held)
      where
        by_apart : (IsUnfired around p statement came exchanges × Behind p new × UnlessErr came (new.vars ≡ p.vars)) ⊎ IsFired around p statement Goes exchanges
            → (UnfiredLeaves around p statement came exchanges before × Behind p new × UnlessErr came (new.vars ≡ p.vars)) ⊎ IsFired around p statement Goes exchanges
        by_apart (inl (done, behind, vars)) = inl (unfired_leaves came done, behind, vars)
        by_apart (inr fired) = inr fired

    pub write_has_left : UnfiredLeaves around p statement came exchanges before ⊎ ((fired : IsFired around p statement Goes exchanges) × FiredLeaves before fired.front fired.planned)
    write_has_left = by_apart (write_apart held)
      where
        by_apart : (IsUnfired around p statement came exchanges × Behind p new × UnlessErr came (new.vars ≡ p.vars)) ⊎ IsFired around p statement Goes exchanges
            → UnfiredLeaves around p statement came exchanges before ⊎ ((fired : IsFired around p statement Goes exchanges) × FiredLeaves before fired.front fired.planned)
        by_apart (inl (done, behind, vars)) = inl (unfired_leaves came done)
        by_apart (inr fired) = inr (fired, fired_leaves fired)

pub write_leaves : WriteLeaves
write_leaves one around statement old new exchanges came before is agrees held = write_has_left one around statement old new exchanges came is before agrees held
