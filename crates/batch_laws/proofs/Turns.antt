-- Statements one after another.
use Rattle.std.proofs.Common.{◌≡◌, ◌⊎◌, inl, inr, ℕ, ℤ, zero, suc, Bool, true, false, if◌then◌else◌, List, [], ◌∷◌, ◌++◌, Option, Result, Ok, Err, refl, sym, ap, ◌∙◌, subst, append_assoc}
use Rattle.std.specs.Prelude.{◌&&◌, ◌==◌}
use Rattle.tsql_tree.specs.declared.query.Expr.{Expr}
use Rattle.tsql_tree.specs.declared.statement.Form.{Form-F}
use Rattle.tsql_tree.specs.declared.statement.Statement.{Statement}
use Rattle.binder.specs.Names.{Layer, form_of}
use Rattle.step_model.specs.declared.change.Planned.{Planned}
use Rattle.step_model.specs.Exchange.{Exchange}
use Rattle.step_model.specs.Own.{Progress as Stand}
use Rattle.batch_meaning.specs.declared.exit.Exit.{Exit}
use Rattle.batch_meaning.specs.declared.exit.Exit.TheVariants.{On, Leave, Again, Return, Raise, RaiseUp, End}
use Rattle.batch_meaning.specs.declared.failure.Failure.{Failure}
use Rattle.batch_meaning.specs.declared.home.Home.{Home}
use Rattle.batch_meaning.specs.declared.raised.Raised.{Raised}
use Rattle.batch_meaning.specs.declared.stop.Stop.{Stop}
use Rattle.batch_meaning.specs.declared.stop.Stop.TheVariants.{Failed, Left}
use Rattle.batch_meaning.specs.Doing.{Doing, makes, over, ◌then◌, Held}
use Rattle.batch_meaning.specs.Failures.{plain}
use Rattle.batch_meaning.specs.Meaning.{Meaning, begun_unseen, concluded, concludes, does, doomed_write, each_of, fails_for, fires, goes_on, is_refused_doomed, line_of, mean_by, mean_form, mean_of, raises_at, spends, statements_spent, succeeds, writes, written}
use Rattle.batch_meaning.specs.Progress.{SessionProgress, counts, made}
use Rattle.batch_meaning.specs.Raised.{Around, raised_in}
use Rattle.batch_meaning.specs.Selecting.{Effect, no_effect}
use Rattle.batch_meaning.specs.Tokens.{command_of}
use Rattle.batch_meaning.specs.Unseen.{is_unseen}
use Rattle.batch_meaning.specs.Working.{statuses}
use Rattle.batch_meaning.specs.Writes.{Written}
use Rattle.statement_paths.specs.Paths.{HasDone, HasFailed, HasFailedIn, IsFired, asks_for, is_write, work_for, work_of}
use Rattle.statement_paths.proofs.Apart.{held_apart}
use Rattle.statement_paths.proofs.Laws.{return_done, return_failed}
use Rattle.batch_laws.specs.Committing.{is_plain, Agrees, DoneBy, Fires, IfOn, InTurn, IsBehind, Leaves, Stays}
use Rattle.batch_laws.specs.Laws.{EachInTurn, HasEnded, PlainEnds, StatementEnds, UnfiredLeaves}
use Rattle.batch_laws.proofs.Statements.{err_leaves, none_leaves, ok_leaves}
use Rattle.batch_laws.proofs.Idle.{Behind, IsShut, fails_shut, raises_shut, shut_idle, shut_stays, stays_then, succeeds_shut}
use Rattle.batch_laws.proofs.Variables.{status_vars, work_vars}
use Rattle.batch_laws.proofs.Ending.{Ended, err_ended, fail_as, ok_ended, raises_held}
use Rattle.batch_laws.proofs.Telling.{status_leaves}
use Rattle.batch_laws.proofs.Unseen.{seen_held}
use Rattle.batch_laws.proofs.Writing.{UnlessErr, status_behind, work_behind, write_leaves_apart}

-- ---- each in turn

module _ (one : Statement → Meaning) (around : Around) where
  abbrev Does : Statement → SessionProgress → List Exchange → Exit → SessionProgress → Type 0
  Does statement p front came mid = Held (one statement around) p front came mid

  turn_held : (statements : List Statement) (p new : SessionProgress) (exchanges : List Exchange) (exit : Exit) → Held (each_of one statements around) p exchanges exit new → InTurn Does statements p exchanges exit new
  unfolding each_of Held
  turn_held [] p new exchanges exit held = held
  turn_held (statement ∷ others) p new exchanges exit held =
      let on = held_apart (one statement around) (λ exit. goes_on (each_of one others around) exit) p new exchanges exit held in
      (on.came, on.mid, on.front, on.back, on.parts, on.held, by_came on.came on.mid on.back (λ q back rest. turn_held others q new back exit rest) on.rest)
    where
      by_came : (came : Exit) (mid : SessionProgress) (back : List Exchange) → ((q : SessionProgress) (back : List Exchange) → Held (each_of one others around) q back exit new → InTurn Does others q back exit new) → Held (goes_on (each_of one others around) came) mid back exit new
          → IfOn came (InTurn Does others mid back exit new) ((back ≡ []) × (exit ≡ came) × (new ≡ mid))
      by_came On mid back goes rest = goes mid back rest
      by_came Leave mid back goes rest = rest
      by_came Again mid back goes rest = rest
      by_came (Return status) mid back goes rest = rest
      by_came (Raise raised) mid back goes rest = rest
      by_came (RaiseUp raised) mid back goes rest = rest
      by_came End mid back goes rest = rest

pub each_in_turn : EachInTurn
each_in_turn one statements around old new exchanges exit held = turn_held one around statements old new exchanges exit held

-- ---- a plain statement

-- the forms that do `work_of`
abbrev pub is_done : Layer → Bool
is_done (Form-F.Return value) = false
is_done form = true

pub done_by : (around : Around) (p : SessionProgress) (statement : Statement) (form : Layer) → is_done form ≡ true → (planned : List Planned) (effect : Effect) (exchanges : List Exchange) → HasDone around p statement planned effect exchanges → DoneBy form around p statement On planned effect exchanges
done_by around p statement (Form-F.Return value) is planned effect exchanges done = absurd (let no : false ≡ true = is in cc)
done_by around p statement form is planned effect exchanges done = (done, refl)

pub write_done_by : (around : Around) (p : SessionProgress) (statement : Statement) (form : Layer) → is_write form ≡ true → (planned : List Planned) (effect : Effect) (exchanges : List Exchange) → HasDone around p statement planned effect exchanges → DoneBy form around p statement On planned effect exchanges
write_done_by around p statement (Form-F.Return value) is planned effect exchanges done = absurd (let no : false ≡ true = is in cc)
write_done_by around p statement form is planned effect exchanges done = (done, refl)

-- however it goes on
pub fires_so : (around : Around) (p : SessionProgress) (statement : Statement) (Goes : Home → Written → SessionProgress → List Exchange → Type 0) (exchanges : List Exchange) → IsFired around p statement Goes exchanges → Fires around p statement exchanges
fires_so around p statement Goes exchanges f =
    record { planned = f.planned; done = f.done; came = f.came; mid = f.mid; front = f.front; behind = f.behind; parts = f.parts; writes = f.writes; some = f.some; still = f.still; goes = tt }

pub fires_further : (around : Around) (p : SessionProgress) (statement : Statement) (front back exchanges : List Exchange) → exchanges ≡ front ++ back → Fires around p statement front → Fires around p statement exchanges
fires_further around p statement front back exchanges is f = record {
  planned = f.planned;
  done = f.done;
  came = f.came;
  mid = f.mid;
  front = f.front;
  behind = f.behind ++ back;
  parts = is ∙ ap (λ (l : List Exchange). l ++ back) f.parts ∙ append_assoc f.front f.behind back;
  writes = f.writes;
  some = f.some;
  still = f.still;
  goes = tt;
}

-- where nothing was done
pub here_behind : (p : SessionProgress) → Behind p p
here_behind p = record {
  near = record { within = record { serial = refl; opened = λ is. refl }; is_open = refl; is_own = λ is. refl; settings = refl; bytes = refl };
  tokens = refl;
  rows = refl;
  stays = record { settings = refl; serial = refl; cursors = refl; fetched = refl };
  idle = λ closed. closed;
}

module _ (around : Around) (statement : Statement) (p new : SessionProgress) (exchanges : List Exchange) (exit : Exit) (before : Stand) (agrees : Agrees p.is_open before) where
  -- how a plain statement has ended that fires no triggers
  pub record Finished : Type 0 where
    pub ended : Ended around statement p new exchanges exit before agrees
    pub stays : Stays p new
    pub idle : IsShut p → IsShut new

  abbrev pub FinishedOr : Type 0
  FinishedOr = Finished ⊎ Fires around p statement exchanges

  -- it succeeded
  ok_finished : (effect : Effect) (leaves : Exit) (front back : List Exchange) (mid : SessionProgress) → exchanges ≡ front ++ back → Behind p mid → mid.vars ≡ p.vars
      → ((planned : List Planned) × DoneBy (form_of statement) around p statement leaves planned effect front × Leaves p.is_open p.is_open before front planned) → Held (succeeds statement effect (over leaves)) mid back exit new → Finished
  ok_finished effect leaves front back mid parts behind vars done rest = record {
    ended = ok_ended around statement p new exchanges exit before agrees effect leaves front back mid parts behind vars done rest;
    stays = stays_then p mid new behind.stays (shut_stays (succeeds statement effect (over leaves)) mid new back exit (succeeds_shut statement effect leaves) rest);
    idle = λ closed. shut_idle (succeeds statement effect (over leaves)) mid new back exit (succeeds_shut statement effect leaves) rest (behind.idle closed);
  }

  -- it failed
  err_finished : (failure : Failure) (front back : List Exchange) (mid : SessionProgress) → exchanges ≡ front ++ back → Behind p mid → HasFailed around p statement front × Leaves p.is_open p.is_open before front [] → Held (fails_for around statement failure) mid back exit new
      → Finished
  err_finished failure front back mid parts behind failed rest = record {
    ended = err_ended around statement p new exchanges exit before agrees failure front back mid parts behind failed rest;
    stays = stays_then p mid new behind.stays (shut_stays (fails_for around statement failure) mid new back exit (fails_shut around statement failure) rest);
    idle = λ closed. shut_idle (fails_for around statement failure) mid new back exit (fails_shut around statement failure) rest (behind.idle closed);
  }

  -- its error strikes before it asks anything
  unasked_finished : (failure : Failure) → Held (fails_for around statement failure) p exchanges exit new → Finished
  unasked_finished failure held = err_finished failure [] exchanges p refl (here_behind p) (inl refl, none_leaves p.is_open before [] agrees refl) held

  -- ---- by its form

  -- one that is done with its effect
  does_finished : (form : Layer) → form_of statement ≡ form → is_done form ≡ true → Held (does around statement On (work_of around statement)) p exchanges exit new → Finished
  unfolding does concludes
  does_finished form is plain_one held =
      let on = held_apart (work_of around statement) (concluded around statement (λ effect. succeeds statement effect (over On))) p new exchanges exit held in
      by_came on.came on.mid on.front on.back on.parts on.held (work_behind around statement p on.mid on.front on.came on.held) on.rest
    where
      done_as : (form : Layer) → form_of statement ≡ form → is_done form ≡ true → (planned : List Planned) (effect : Effect) (front : List Exchange) → HasDone around p statement planned effect front → DoneBy (form_of statement) around p statement On planned effect front
      done_as form is plain_one planned effect front done = subst (λ (f : Layer). DoneBy f around p statement On planned effect front) (sym is) (done_by around p statement form plain_one planned effect front done)

      by_came : (came : Result Effect Failure) (mid : SessionProgress) (front back : List Exchange) → exchanges ≡ front ++ back → Held (work_of around statement) p front came mid → Behind p mid
          → Held (concluded around statement (λ effect. succeeds statement effect (over On)) came) mid back exit new → Finished
      by_came (Ok effect) mid front back parts worked behind rest =
          let done = ok_leaves around statement p mid front before agrees effect worked in
          ok_finished effect On front back mid parts behind (work_vars around statement p mid front effect worked) (done.0, done_as form is plain_one done.0 effect front done.1, done.2) rest
      by_came (Err failure) mid front back parts worked behind rest = err_finished failure front back mid parts behind (err_leaves around statement p mid front before agrees failure worked) rest

  -- RETURN
  returns_finished : (value : Option Expr) → form_of statement ≡ Form-F.Return value → Held (concludes around statement (λ status. succeeds statement no_effect (over (Return status))) (statuses around statement)) p exchanges exit new → Finished
  unfolding concludes
  returns_finished value is held =
      let on = held_apart (statuses around statement) (concluded around statement (λ status. succeeds statement no_effect (over (Return status)))) p new exchanges exit held in
      by_came on.came on.mid on.front on.back on.parts on.held (status_behind around statement p on.mid on.front on.came on.held) (status_leaves around statement p on.mid on.front on.came before agrees on.held) on.rest
    where
      by_came : (came : Result ℤ Failure) (mid : SessionProgress) (front back : List Exchange) → exchanges ≡ front ++ back → Held (statuses around statement) p front came mid → Behind p mid → Leaves p.is_open p.is_open before front []
          → Held (concluded around statement (λ status. succeeds statement no_effect (over (Return status))) came) mid back exit new → Finished
      by_came (Ok status) mid front back parts gave behind leaves rest =
          ok_finished no_effect (Return status) front back mid parts behind (status_vars around statement p mid front status gave)
          ([], subst (λ (f : Layer). DoneBy f around p statement (Return status) [] no_effect front) (sym is) (status, return_done around statement p mid front status gave, refl, refl, refl), leaves) rest
      by_came (Err failure) mid front back parts gave behind leaves rest =
          err_finished failure front back mid parts behind (subst (λ (b : Bool). HasFailedIn b p front) (ap (asks_for around statement) (sym is)) (return_failed around statement p mid front failure gave), leaves) rest

  -- a write
  writes_finished : (one : Statement → Meaning) (form : Layer) → form_of statement ≡ form → is_write form ≡ true → Held (writes one around statement then written around statement) p exchanges exit new → FinishedOr
  writes_finished one form is write held =
      let on = held_apart (writes one around statement) (written around statement) p new exchanges exit held in
      by_ways on.front on.back on.mid on.came on.parts (write_leaves_apart one around statement p on.mid on.front on.came (ap is_write is ∙ write) before agrees on.held) on.rest
    where
      done_as : (planned : List Planned) (effect : Effect) (front : List Exchange) → HasDone around p statement planned effect front → DoneBy (form_of statement) around p statement On planned effect front
      done_as planned effect front done = subst (λ (f : Layer). DoneBy f around p statement On planned effect front) (sym is) (write_done_by around p statement form write planned effect front done)

      by_came : (came : Result Effect Stop) (front back : List Exchange) (mid : SessionProgress) → exchanges ≡ front ++ back → UnfiredLeaves around p statement came front before → Behind p mid → UnlessErr came (mid.vars ≡ p.vars)
          → Held (written around statement came) mid back exit new → Finished
      by_came (Ok effect) front back mid parts leaves behind vars rest = ok_finished effect On front back mid parts behind vars (leaves.0, done_as leaves.0 effect front leaves.1, leaves.2) rest
      by_came (Err (Failed failure)) front back mid parts leaves behind vars rest = err_finished failure front back mid parts behind leaves rest
      by_came (Err (Left left)) front back mid parts leaves behind vars rest = absurd leaves

      by_ways : (front back : List Exchange) (mid : SessionProgress) (came : Result Effect Stop) → exchanges ≡ front ++ back
          → (UnfiredLeaves around p statement came front before × Behind p mid × UnlessErr came (mid.vars ≡ p.vars)) ⊎ IsFired around p statement (λ home done q behind. Held (fires one around home done) q behind came mid) front
          → Held (written around statement came) mid back exit new → FinishedOr
      by_ways front back mid came parts (inl unfired) rest = inl (by_came came front back mid parts unfired.0 unfired.1 unfired.2 rest)
      by_ways front back mid came parts (inr fired) rest = inr (fires_further around p statement front back exchanges parts (fires_so around p statement _ front fired))

  form_finished : (one : Statement → Meaning) (form : Layer) → form_of statement ≡ form → is_plain form ≡ true → Held (mean_form one around statement form) p exchanges exit new → FinishedOr
  unfolding mean_form
  form_finished one (Form-F.If test so otherwise) is plain_one held = absurd (let no : false ≡ true = plain_one in cc)
  form_finished one (Form-F.While test body) is plain_one held = absurd (let no : false ≡ true = plain_one in cc)
  form_finished one Form-F.Break is plain_one held = absurd (let no : false ≡ true = plain_one in cc)
  form_finished one Form-F.Continue is plain_one held = absurd (let no : false ≡ true = plain_one in cc)
  form_finished one (Form-F.Block body) is plain_one held = absurd (let no : false ≡ true = plain_one in cc)
  form_finished one (Form-F.TryCatch body handler) is plain_one held = absurd (let no : false ≡ true = plain_one in cc)
  form_finished one (Form-F.Print value) is plain_one held = absurd (let no : false ≡ true = plain_one in cc)
  form_finished one (Form-F.RaiseError value class state) is plain_one held = absurd (let no : false ≡ true = plain_one in cc)
  form_finished one (Form-F.Throw number value state) is plain_one held = absurd (let no : false ≡ true = plain_one in cc)
  form_finished one Form-F.ThrowAgain is plain_one held = absurd (let no : false ≡ true = plain_one in cc)
  form_finished one (Form-F.SetOption option) is plain_one held = absurd (let no : false ≡ true = plain_one in cc)
  form_finished one (Form-F.Execute status name arguments) is plain_one held = absurd (let no : false ≡ true = plain_one in cc)
  form_finished one (Form-F.BeginTransaction name) is plain_one held = absurd (let no : false ≡ true = plain_one in cc)
  form_finished one (Form-F.Commit name) is plain_one held = absurd (let no : false ≡ true = plain_one in cc)
  form_finished one (Form-F.Rollback name) is plain_one held = absurd (let no : false ≡ true = plain_one in cc)
  form_finished one (Form-F.Save name) is plain_one held = absurd (let no : false ≡ true = plain_one in cc)
  form_finished one (Form-F.DeclareCursor name select) is plain_one held = absurd (let no : false ≡ true = plain_one in cc)
  form_finished one (Form-F.OpenCursor name) is plain_one held = absurd (let no : false ≡ true = plain_one in cc)
  form_finished one (Form-F.Fetch name variables) is plain_one held = absurd (let no : false ≡ true = plain_one in cc)
  form_finished one (Form-F.CloseCursor name) is plain_one held = absurd (let no : false ≡ true = plain_one in cc)
  form_finished one (Form-F.Deallocate name) is plain_one held = absurd (let no : false ≡ true = plain_one in cc)
  form_finished one (Form-F.Use name) is plain_one held = absurd (let no : false ≡ true = plain_one in cc)
  form_finished one (Form-F.Return value) is plain_one held = inl (returns_finished value is held)
  form_finished one (Form-F.Insert table columns rows) is plain_one held = writes_finished one (Form-F.Insert table columns rows) is refl held
  form_finished one (Form-F.Update table sets filter) is plain_one held = writes_finished one (Form-F.Update table sets filter) is refl held
  form_finished one (Form-F.Delete table filter) is plain_one held = writes_finished one (Form-F.Delete table filter) is refl held
  form_finished one form is plain_one held = inl (does_finished form is refl (subst (λ (f : Layer). Held (does around statement On (work_for around statement f)) p exchanges exit new) (sym is) held))

  -- as it begins
  begun_finished : (one : Statement → Meaning) → is_plain (form_of statement) ≡ true → Held (mean_by one statement around) p exchanges exit new → FinishedOr
  unfolding mean_by Held
  begun_finished one plain_one held = by_doom (p.txn.doomed && is_refused_doomed (form_of statement)) held
    where
      by_doom : (refused : Bool) → Held (if refused then fails_for around statement (plain doomed_write) else mean_form one around statement (form_of statement)) p exchanges exit new → FinishedOr
      by_doom true was = inl (unasked_finished (plain doomed_write) was)
      by_doom false was = form_finished one (form_of statement) refl plain_one was

-- where none may begin any more
spent_finished : (around : Around) (statement : Statement) (old new : SessionProgress) (exchanges : List Exchange) (exit : Exit) (before : Stand) (agrees : Agrees old.is_open before) → Held (spends statement around) old exchanges exit new
    → Finished around statement (made counts old) new exchanges exit before agrees
spent_finished around statement old new exchanges exit before agrees held =
    let raised : Raised = raised_in around.procedure (line_of statement) (plain statements_spent) in
    let struck = (raises_held around (line_of statement) (command_of (form_of statement)) raised old new exchanges exit held).0 in
    let stays = shut_stays (raises_at around (line_of statement) (command_of (form_of statement)) raised) old new exchanges exit (raises_shut around (line_of statement) (command_of (form_of statement)) raised) held in
    let behind : IsBehind (made counts old) (made counts old) = record { within = record { serial = refl; opened = λ is. refl }; is_open = refl; is_own = λ is. refl; settings = refl; bytes = refl } in
    record {
      ended = (
        struck.tokens,
        [],
        struck.sent,
        inr (refl, (plain statements_spent, [], exchanges, made counts old, refl, inl refl, behind, struck.strikes)),
        fail_as (made counts old) new exchanges before [] exchanges (made counts old) behind refl (none_leaves old.is_open before [] agrees refl) struck.stays,
      );
      stays = record { settings = stays.settings; serial = stays.serial; cursors = stays.cursors; fetched = stays.fetched };
      idle = λ closed. shut_idle (raises_at around (line_of statement) (command_of (form_of statement)) raised) old new exchanges exit (raises_shut around (line_of statement) (command_of (form_of statement)) raised) held closed;
    }

pub mean_finished : (levels : ℕ) (around : Around) (statement : Statement) (old new : SessionProgress) (exchanges : List Exchange) (exit : Exit) (before : Stand) (agrees : Agrees old.is_open before) → is_plain (form_of statement) ≡ true
    → is_unseen old (form_of statement) ≡ false → Held (mean_of levels statement around) old exchanges exit new → FinishedOr around statement (made counts old) new exchanges exit before agrees
unfolding mean_of Held
mean_finished zero around statement old new exchanges exit before agrees plain_one seen held = inl (spent_finished around statement old new exchanges exit before agrees held)
mean_finished (suc levels) around statement old new exchanges exit before agrees plain_one seen held = by_left (old.statements_left == 0) held
  where
    Next : Doing Exit
    Next = mean_by (λ inner at. mean_of levels inner at) statement around

    by_left : (spent : Bool) → Held (if spent then spends statement around else makes counts (begun_unseen (λ q. is_unseen q (form_of statement)) (fails_for around statement) Next)) old exchanges exit new → FinishedOr around statement (made counts old) new exchanges exit before agrees
    by_left true was = inl (spent_finished around statement old new exchanges exit before agrees was)
    by_left false was = begun_finished around statement (made counts old) new exchanges exit before agrees (λ inner at. mean_of levels inner at) plain_one
        (seen_held (λ q. is_unseen q (form_of statement)) (fails_for around statement) Next (made counts old) new exchanges exit seen was)

has_ended : (around : Around) (statement : Statement) (p new : SessionProgress) (exchanges : List Exchange) (exit : Exit) (before : Stand) (agrees : Agrees p.is_open before) → FinishedOr around statement p new exchanges exit before agrees
    → HasEnded around p statement exit before exchanges new ⊎ Fires around p statement exchanges
has_ended around statement p new exchanges exit before agrees (inl finished) = inl (finished.ended, finished.stays)
has_ended around statement p new exchanges exit before agrees (inr fires) = inr fires

pub statement_ends : StatementEnds
statement_ends one around statement old new exchanges exit before plain_one agrees held = has_ended around statement old new exchanges exit before agrees (form_finished around statement old new exchanges exit before agrees one (form_of statement) refl plain_one held)

pub plain_ends : PlainEnds
plain_ends levels around statement old new exchanges exit before plain_one seen agrees held = has_ended around statement (made counts old) new exchanges exit before agrees (mean_finished levels around statement old new exchanges exit before agrees plain_one seen held)
