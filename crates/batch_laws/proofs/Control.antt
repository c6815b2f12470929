-- What a statement that may begin does, by its form.
use Rattle.std.proofs.Common.{◌≡◌, ◌⊎◌, inl, inr, ℕ, ℤ, zero, suc, pos, Bool, true, false, if◌then◌else◌, is_ok, List, [], ◌∷◌, ◌++◌, Option, None, Some, Result, Ok, Err, refl, sym, ap, ◌∙◌, subst, append-nil, arith}
use Rattle.std.proofs.lemmas.Bool.{ne_eqb}
use Rattle.std.specs.Prelude.{◌-◌, ◌&&◌, ◌==◌, nat_le, nat_lt}
use Rattle.tsql_tree.specs.declared.definition.TriggerTree.{TriggerTree}
use Rattle.tsql_tree.specs.declared.statement.Argument.{Argument}
use Rattle.tsql_tree.specs.declared.statement.Form.{Form-F}
use Rattle.tsql_tree.specs.declared.statement.Statement.{Statement}
use Rattle.session_vars.specs.declared.Variable.{Variable}
use Rattle.binder.specs.Names.{Layer, form_of}
use Rattle.error_table.specs.declared.action.Action.{Action}
use Rattle.step_model.specs.Exchange.{Exchange}
use Rattle.step_model.specs.Ranges.{no_memory}
use Rattle.tds_tokens.specs.declared.token.Token.{Token}
use Rattle.batch_meaning.specs.declared.exit.Exit.{Exit}
use Rattle.batch_meaning.specs.declared.exit.Exit.TheVariants.{On, Leave, Again, Return, Raise, RaiseUp, End}
use Rattle.batch_meaning.specs.declared.failure.Failure.{Failure}
use Rattle.batch_meaning.specs.declared.home.Home.{Home}
use Rattle.batch_meaning.specs.declared.raised.Raised.{Raised}
use Rattle.batch_meaning.specs.declared.settings.Settings.{Settings}
use Rattle.batch_meaning.specs.declared.stop.Stop.{Stop}
use Rattle.batch_meaning.specs.declared.stop.Stop.TheVariants.{Failed, Left}
use Rattle.batch_meaning.specs.Asking.{assigns_all, comes_to, fails}
use Rattle.batch_meaning.specs.Calls.{Call, call_vars, depth_limit, finds_call, given_back, too_deep}
use Rattle.batch_meaning.specs.Cursors.{closes_cursor, declares_cursor, fetches_cursor, opens_cursor, removes_cursor}
use Rattle.batch_meaning.specs.Databases.{uses_database}
use Rattle.batch_meaning.specs.Doing.{Doing, makes, over, reads, ◌then◌, Held}
use Rattle.batch_meaning.specs.Failures.{plain}
use Rattle.batch_meaning.specs.Firing.{closes_own, in_trigger, leaves_fired, relaxes_then, trigger_end, undone_to}
use Rattle.batch_meaning.specs.Meaning.{Meaning, begun_unseen, behind_unseen, branch, calls, counted, decides, does, doomed_write, each_of, effect_of, ends_call, ends_even, ends_uneven, fails_for, fires, gives_back, handled, is_even, is_refused_doomed, line_of, mean_by, mean_form, mean_of, raises, raises_again, raises_or_tells, returns_from, runs_body, runs_call, runs_fired, runs_trigger, runs_triggers, set_by, spends, statements_spent, succeeds, tells, tries, turned, turns, turns_again, uneven_end, uneven_tokens, unless_stopped, where_it_fits, writes, written}
use Rattle.batch_meaning.specs.Progress.{SessionProgress, assigns, counts, fires_from, made, sends, sets, size_of, stands_with, tells_error, tells_rows}
use Rattle.batch_meaning.specs.Raised.{Around, action_in, again, in_body, in_catch, in_try, info_token, is_caught_in, raised_in}
use Rattle.batch_meaning.specs.Selecting.{Effect, no_effect, result_full, sending}
use Rattle.batch_meaning.specs.Settings.{outside_profile, set_option}
use Rattle.batch_meaning.specs.Statements.{vars_of}
use Rattle.batch_meaning.specs.Tokens.{command_of, procedure_done}
use Rattle.batch_meaning.specs.Transactions.{begins_transaction, commits_transaction, rolls_back_transaction, saves_transaction}
use Rattle.batch_meaning.specs.Unseen.{is_unseen}
use Rattle.batch_meaning.specs.Values.{Assigned, is_message}
use Rattle.batch_meaning.specs.Working.{composes, relaxes, tests}
use Rattle.batch_meaning.specs.Writes.{Written}
use Rattle.statement_paths.specs.Paths.{IsFired, IsUnfired, is_write}
use Rattle.statement_paths.proofs.Apart.{held_apart}
use Rattle.batch_laws.specs.Committing.{assigned_all}
use Rattle.batch_laws.specs.Control.{AreRun, Calls, Composes, Controls, DoomedStrikes, EndsCall, FiresBy, FormControls, Gives, GivesBack, GoesOn, Handles, IsLeft, IsSeen, Loops, NamedDoes, Rethrows, Returns, RunsBody, RunsCall, RunsFired, RunsTriggers, Sends, SendsBy, Sets, SpentStrikes, StrikesAtOnce, Takes, TestStrikes, TurnsBy, UnlessFull, UnlessStopped, Writes, WritesTo, WrittenBy, comes_by, is_refused, told_uneven, uneven_raised, work_named}
use Rattle.batch_laws.specs.Laws.{GoesBy}
use Rattle.batch_laws.specs.Transactions.{Begins}
use Rattle.batch_laws.specs.Unseen.{UnseenBegins, UnseenGoes, to_begin}
use Rattle.batch_laws.proofs.Idle.{Behind}
use Rattle.batch_laws.proofs.Ending.{HasTold, StruckBy, caught_held, counted_raises_held, ended_held, fails_held, raises_held, succeeds_held}
use Rattle.batch_laws.proofs.Writing.{UnlessErr, write_apart}
use Rattle.batch_laws.proofs.Telling.{work_tells}
use Rattle.batch_laws.proofs.Unseen.{held_seen, seen_held, unseen_held, unseen_open}

-- ---- whether it begins

module _ (around : Around) (statement : Statement) (old new : SessionProgress) (exchanges : List Exchange) (exit : Exit) where
  spent_strikes_at : Held (spends statement around) old exchanges exit new → StrikesAtOnce around old old statement statements_spent exchanges exit new
  spent_strikes_at held = let struck = (raises_held around (line_of statement) (command_of (form_of statement)) (raised_in around.procedure (line_of statement) (plain statements_spent)) old new exchanges exit held).0 in (struck.tokens, struck.sent, struck.strikes)

  module _ (levels : ℕ) where
    abbrev pub one : Statement → Meaning
    one inner at = mean_of levels inner at

    -- it has begun
    begun_held : (old.statements_left == 0) ≡ false → Held (mean_of (suc levels) statement around) old exchanges exit new → Held (begun_unseen (λ q. is_unseen q (form_of statement)) (fails_for around statement) (mean_by one statement around)) (made counts old) exchanges exit new
    unfolding mean_of Held
    begun_held left held = by_left (old.statements_left == 0) left held
      where
        by_left : (spent : Bool) → spent ≡ false → Held (if spent then spends statement around else makes counts (begun_unseen (λ q. is_unseen q (form_of statement)) (fails_for around statement) (mean_by one statement around))) old exchanges exit new
            → Held (begun_unseen (λ q. is_unseen q (form_of statement)) (fails_for around statement) (mean_by one statement around)) (made counts old) exchanges exit new
        by_left true is was = absurd (let no : true ≡ false = is in cc)
        by_left false is was = was

    -- with no transaction that is begun unseen
    no_unseen_held : (old.statements_left == 0) ≡ false → IsSeen old statement → Held (mean_of (suc levels) statement around) old exchanges exit new → Held (mean_by one statement around) (made counts old) exchanges exit new
    no_unseen_held left seen held = seen_held (λ q. is_unseen q (form_of statement)) (fails_for around statement) (mean_by one statement around) (made counts old) new exchanges exit seen (begun_held left held)

    -- and does what its form means
    form_held : (old.statements_left == 0) ≡ false → IsSeen old statement → is_refused old statement ≡ false → Held (mean_of (suc levels) statement around) old exchanges exit new → Held (mean_form one around statement (form_of statement)) (made counts old) exchanges exit new
    unfolding mean_by Held
    form_held left seen allowed held = by_doom (old.txn.doomed && is_refused_doomed (form_of statement)) allowed (no_unseen_held left seen held)
      where
        by_doom : (refused : Bool) → refused ≡ false → Held (if refused then fails_for around statement (plain doomed_write) else mean_form one around statement (form_of statement)) (made counts old) exchanges exit new
            → Held (mean_form one around statement (form_of statement)) (made counts old) exchanges exit new
        by_doom true is was = absurd (let no : true ≡ false = is in cc)
        by_doom false is was = was

    doomed_held : (old.statements_left == 0) ≡ false → IsSeen old statement → is_refused old statement ≡ true → Held (mean_of (suc levels) statement around) old exchanges exit new → Held (fails_for around statement (plain doomed_write)) (made counts old) exchanges exit new
    unfolding mean_by Held
    doomed_held left seen refused held = by_doom (old.txn.doomed && is_refused_doomed (form_of statement)) refused (no_unseen_held left seen held)
      where
        by_doom : (refused : Bool) → refused ≡ true → Held (if refused then fails_for around statement (plain doomed_write) else mean_form one around statement (form_of statement)) (made counts old) exchanges exit new
            → Held (fails_for around statement (plain doomed_write)) (made counts old) exchanges exit new
        by_doom false is was = absurd (let no : false ≡ true = is in cc)
        by_doom true is was = was

pub spent_strikes : SpentStrikes
unfolding mean_of Held
spent_strikes zero around statement old new exchanges exit spent held = spent_strikes_at around statement old new exchanges exit held
spent_strikes (suc levels) around statement old new exchanges exit spent held = by_left (old.statements_left == 0) spent held
  where
    by_left : (left : Bool) → left ≡ true → Held (if left then spends statement around else makes counts (begun_unseen (λ q. is_unseen q (form_of statement)) (fails_for around statement) (mean_by (λ inner at. mean_of levels inner at) statement around))) old exchanges exit new → StrikesAtOnce around old old statement statements_spent exchanges exit new
    by_left true is was = spent_strikes_at around statement old new exchanges exit was
    by_left false is was = absurd (let no : false ≡ true = is in cc)

pub doomed_strikes : DoomedStrikes
doomed_strikes levels around statement old new exchanges exit left seen refused held =
    let struck = fails_held around statement (plain doomed_write) (made counts old) new exchanges exit (doomed_held around statement old new exchanges exit levels left seen refused held) in
    (struck.tokens, struck.sent, struck.strikes)

-- in a transaction that is open it does what it means, as it begins
pub mean_again : (levels : ℕ) (around : Around) (statement : Statement) (p new : SessionProgress) (exchanges : List Exchange) (exit : Exit) → p.is_open ≡ true → Held (mean_by (λ inner at. mean_of levels inner at) statement around) p exchanges exit new
    → Held (mean_of (suc levels) statement around) (to_begin p) exchanges exit new
unfolding mean_of Held
mean_again levels around statement p new exchanges exit begun held = by_left (suc p.statements_left == 0) (ne_eqb (suc p.statements_left) 0 (λ is. omega (arith, is)))
  where
    Next : Doing Exit
    Next = mean_by (λ inner at. mean_of levels inner at) statement around

    less : suc p.statements_left - 1 ≡ p.statements_left
    less = omega arith

    same : made counts (to_begin p) ≡ p
    same = ap (λ (n : ℕ). record p { statements_left = n }) less

    by_left : (spent : Bool) → spent ≡ false → Held (if spent then spends statement around else makes counts (begun_unseen (λ q. is_unseen q (form_of statement)) (fails_for around statement) Next)) (to_begin p) exchanges exit new
    by_left true is = absurd (let no : true ≡ false = is in cc)
    by_left false is = subst (λ (s : SessionProgress). Held (begun_unseen (λ q. is_unseen q (form_of statement)) (fails_for around statement) Next) s exchanges exit new) (sym same)
        (held_seen (λ q. is_unseen q (form_of statement)) (fails_for around statement) Next p new exchanges exit (unseen_open p (form_of statement) begun) held)

pub unseen_begins : UnseenBegins
unfolding Held
unseen_begins levels around statement old new exchanges exit left unseen held =
    let on = unseen_held (λ q. is_unseen q (form_of statement)) (fails_for around statement) Next (made counts old) new exchanges exit unseen (begun_held around statement old new exchanges exit levels left held) in
    (on.0, on.1, on.2, on.3, on.4, on.5, by_came on.3 on.0 on.1 on.2 on.5 on.6)
  where
    Next : Doing Exit
    Next = mean_by (λ inner at. mean_of levels inner at) statement around

    by_came : (came : Result Effect Failure) (front back : List Exchange) (mid : SessionProgress) → Begins (made counts old) None false came front mid → Held (behind_unseen (fails_for around statement) Next came) mid back exit new
        → UnseenGoes levels around statement came mid back exit new
    by_came (Ok effect) front back mid was goes =
        mean_again levels around statement (made (sends effect.tokens) mid) new back exit (ap (λ (s : SessionProgress). s.is_open) was.2) goes
    by_came (Err failure) front back mid was goes = let struck = fails_held around statement failure mid new back exit goes in (struck.tokens, struck.sent, struck.strikes)

-- ---- its own work

module _ (one : Statement → Meaning) (around : Around) (statement : Statement) (p new : SessionProgress) (exchanges : List Exchange) (exit : Exit) where
  abbrev Does : Doing (Result Effect Failure) → Type 0
  Does work = Held (does around statement On work) p exchanges exit new

  same_work : (work other : Doing (Result Effect Failure)) → Some other ≡ Some work → Does other → Does work
  same_work work other is held = let same : other ≡ work = cc in subst Does same held

  named_held : (form : Layer) (work : Doing (Result Effect Failure)) → work_named around statement form ≡ Some work → Held (mean_form one around statement form) p exchanges exit new → Does work
  unfolding mean_form
  named_held (Form-F.BeginTransaction name) work is held = same_work work (begins_transaction statement name) is held
  named_held (Form-F.Commit name) work is held = same_work work (commits_transaction name) is held
  named_held (Form-F.Rollback name) work is held = same_work work (rolls_back_transaction name) is held
  named_held (Form-F.Save name) work is held = same_work work (saves_transaction statement name) is held
  named_held (Form-F.DeclareCursor name select) work is held = same_work work (declares_cursor statement name select) is held
  named_held (Form-F.OpenCursor name) work is held = same_work work (opens_cursor around statement name) is held
  named_held (Form-F.Fetch name variables) work is held = same_work work (fetches_cursor statement name variables) is held
  named_held (Form-F.CloseCursor name) work is held = same_work work (closes_cursor statement name) is held
  named_held (Form-F.Deallocate name) work is held = same_work work (removes_cursor statement name) is held
  named_held (Form-F.Use name) work is held = same_work work (uses_database around statement name) is held
  named_held form work is held = absurd (let no : None ≡ Some work = is in cc)

pub named_does : NamedDoes
unfolding does
named_does levels around statement work old new exchanges exit left seen allowed is held =
    work_tells Effect around statement exit (λ effect. succeeds statement effect (over On)) work (made counts old) new exchanges
    (let did : Does (λ inner at. mean_of levels inner at) around statement (made counts old) new exchanges exit work = named_held (λ inner at. mean_of levels inner at) around statement (made counts old) new exchanges exit (form_of statement) work is
    (form_held around statement old new exchanges exit levels left seen allowed held) in did)

-- ---- statements that hold others

module _ (levels : ℕ) (around : Around) (statement : Statement) (p new : SessionProgress) (exchanges : List Exchange) (exit : Exit) where
  abbrev inner_one : Statement → Meaning
  inner_one inner at = mean_of levels inner at

  -- behind a test
  test_held : (go : Bool → Doing Exit) → Held (decides around statement go) p exchanges exit new
      → (front back : List Exchange) × (mid : SessionProgress) × (holds : Result Bool Failure) × (exchanges ≡ front ++ back) × Held (tests around statement) p front holds mid × GoesBy around mid statement (λ holds. makes (tells_error (pos 0)) (go holds)) exit holds back new
  unfolding decides
  test_held go held = work_tells Bool around statement exit (λ holds. makes (tells_error (pos 0)) (go holds)) (tests around statement) p new exchanges held

  takes_held : (so : Statement) (otherwise : Option Statement) (holds : Result Bool Failure) (mid : SessionProgress) (back : List Exchange) → GoesBy around mid statement (λ holds. makes (tells_error (pos 0)) (branch inner_one around so otherwise holds)) exit holds back new
      → Takes levels around statement so otherwise holds mid back exit new
  unfolding Held
  takes_held so otherwise (Ok true) mid back goes = goes
  takes_held so None (Ok false) mid back goes = goes
  takes_held so (Some other) (Ok false) mid back goes = goes
  takes_held so otherwise (Err failure) mid back goes = goes

  turns_by : (came : Exit) (q : SessionProgress) (later : List Exchange) → Held (turns_again (mean_of levels statement around) (turned came)) q later exit new → TurnsBy levels around statement came q later exit new
  unfolding Held
  turns_by On q later held = held
  turns_by Again q later held = held
  turns_by Leave q later held = held
  turns_by (Return status) q later held = held
  turns_by (Raise raised) q later held = held
  turns_by (RaiseUp raised) q later held = held
  turns_by End q later held = held

  loops_held : (body : Statement) (holds : Result Bool Failure) (mid : SessionProgress) (back : List Exchange) → GoesBy around mid statement (λ holds. makes (tells_error (pos 0)) (turns inner_one around statement body holds)) exit holds back new
      → Loops levels around statement body holds mid back exit new
  unfolding Held
  loops_held body (Ok true) mid back goes =
      let on = held_apart (mean_of levels body around) (λ came. turns_again (mean_of levels statement around) (turned came)) (made (tells_error (pos 0)) mid) new back exit goes in
      (on.came, on.mid, on.front, on.back, on.parts, on.held, turns_by on.came on.mid on.back on.rest)
  loops_held body (Ok false) mid back goes = goes
  loops_held body (Err failure) mid back goes = goes

  handles_held : (handler : List Statement) (came : Exit) (mid : SessionProgress) (back : List Exchange) → Held (handled (λ raised. each_of inner_one handler (in_catch raised around)) came) mid back exit new → Handles levels around statement handler came mid back exit new
  unfolding Held
  handles_held handler (Raise raised) mid back held = held
  handles_held handler On mid back held = held
  handles_held handler Leave mid back held = held
  handles_held handler Again mid back held = held
  handles_held handler (Return status) mid back held = held
  handles_held handler (RaiseUp raised) mid back held = held
  handles_held handler End mid back held = held

  -- ---- messages and errors of a batch's own

  -- by whether it is a message
  sends_by : (is : Bool) (raised : Raised) (mid : SessionProgress) (back : List Exchange) → Held (if is then succeeds statement (sending (if is then info_token raised ∷ [] else [])) (over On) else counted (form_of statement) 0 (raises around statement raised)) mid back exit new
      → SendsBy levels around statement is raised mid back exit new
  sends_by true raised mid back held = succeeds_held statement (sending (info_token raised ∷ [])) On exit mid new back held
  sends_by false raised mid back held = let struck = counted_raises_held around statement raised mid new back exit held in (struck.tokens, struck.sent, struck.strikes)

  sends_held : (came : Result Raised Failure) (mid : SessionProgress) (back : List Exchange) → GoesBy around mid statement (raises_or_tells around statement) exit came back new → Sends levels around statement came mid back exit new
  sends_held (Ok raised) mid back goes = sends_by (is_message raised) raised mid back goes
  sends_held (Err failure) mid back goes = goes

  composes_held : Held (tells around statement) p exchanges exit new → Composes levels around statement p exchanges exit new
  unfolding tells
  composes_held held =
      let on = work_tells Raised around statement exit (raises_or_tells around statement) (composes around statement) p new exchanges held in
      (on.0, on.1, on.2, on.3, on.4, on.5, sends_held on.3 on.2 on.1 on.6)

  -- an error of its own
  fails_now : (failure : Failure) (q : SessionProgress) → Held (fails_for around statement failure) q exchanges exit new → TestStrikes levels around statement q failure exchanges exit new
  fails_now failure q held = let struck = fails_held around statement failure q new exchanges exit held in (struck.tokens, struck.sent, struck.strikes)

  rethrows_held : (caught : Option Raised) → Held (raises_again around statement caught) p exchanges exit new → Rethrows levels around statement caught p exchanges exit new
  rethrows_held None held = fails_now (plain outside_profile) p held
  rethrows_held (Some raised) held = let struck = counted_raises_held around statement (again raised) p new exchanges exit held in (struck.tokens, struck.sent, struck.strikes)

  sets_held : (came : Result Settings Failure) → Held (set_by around statement came) p exchanges exit new → Sets levels around statement came p exchanges exit new
  unfolding Held
  sets_held (Ok settings) held = succeeds_held statement no_effect On exit (made (sets settings) p) new exchanges held
  sets_held (Err failure) held = fails_now failure p held

  -- ---- bodies

  body_held : (vars : List Variable) (settings : Settings → Settings) (body : List Statement) (at : Around) (p q : SessionProgress) (turn : List Exchange) (came : Exit × List Variable) → Held (runs_body inner_one vars settings body at) p turn came q
      → RunsBody levels around statement vars (settings p.settings) body at p turn came.0 came.1 q
  unfolding runs_body Held
  body_held vars settings body at p q turn came held =
      let on = held_apart (each_of inner_one body at) (λ left. reads λ inner. makes (stands_with p.vars) (makes (sets p.settings) (over (left, inner.vars)))) (made (sets (settings p.settings)) (made (stands_with vars) p)) q turn came held in
      let whole : on.front ≡ turn = sym (on.parts ∙ ap (λ (l : List Exchange). on.front ++ l) on.rest.0 ∙ append-nil on.front) in (
        on.mid,
        subst (λ (l : List Exchange). Held (each_of inner_one body at) (made (sets (settings p.settings)) (made (stands_with vars) p)) l came.0 on.mid) whole
            (subst (λ (left : Exit). Held (each_of inner_one body at) (made (sets (settings p.settings)) (made (stands_with vars) p)) on.front left on.mid) (sym (ap (λ (pair : Exit × List Variable). pair.0) on.rest.1)) on.held),
        ap (λ (pair : Exit × List Variable). pair.1) on.rest.1,
        on.rest.2,
      )

  left_held : (left : Exit) (q : SessionProgress) (later : List Exchange) → Held (makes (tells_rows 0) (over left)) q later exit new → IsLeft levels around statement q left later exit new
  unfolding Held
  left_held left q later held = held

  -- ---- EXEC

  fails_on : (failure : Failure) (q : SessionProgress) (later : List Exchange) → Held (fails_for around statement failure) q later exit new → TestStrikes levels around statement q failure later exit new
  fails_on failure q later held = let struck = fails_held around statement failure q new later exit held in (struck.tokens, struck.sent, struck.strikes)

  fits_held : (tokens : List Token) (next : Doing Exit) (Goes : Type 0) (q : SessionProgress) (later : List Exchange) → (Held next q later exit new → Goes) → Held (where_it_fits around statement tokens next) q later exit new
      → UnlessFull levels around statement (nat_lt q.bytes_left (size_of tokens)) Goes q later exit new
  unfolding Held
  fits_held tokens next Goes q later goes held = by_test (nat_lt q.bytes_left (size_of tokens)) held
    where
      by_test : (test : Bool) → Held (if test then fails_for around statement (plain result_full) else next) q later exit new → UnlessFull levels around statement test Goes q later exit new
      by_test true was = fails_on (plain result_full) q later was
      by_test false was = goes was

  even_held : (status : ℤ) (q : SessionProgress) (later : List Exchange) → Held (ends_even around statement status) q later exit new → EndsCall levels around statement true status q later exit new
  unfolding ends_even
  even_held status q later held = fits_held (procedure_done status) (succeeds statement (sending (procedure_done status)) (over On)) (GoesOn levels around statement q (sending (procedure_done status)) later exit new) q later
      (λ was. succeeds_held statement (sending (procedure_done status)) On exit q new later was) held

  uneven_struck : (status : ℤ) (q : SessionProgress) (later : List Exchange) (caught : Bool) (action : Action)
      → Held (makes (tells_rows 0) (makes (tells_error (uneven_raised levels around statement).number) (makes (sends (uneven_tokens caught action status (uneven_raised levels around statement))) (uneven_end caught action (uneven_raised levels around statement))))) q later exit new
      → StruckBy q caught action q.is_open (uneven_tokens caught action status (uneven_raised levels around statement)) (uneven_raised levels around statement) exit later new × (new.row_count ≡ 0)
  unfolding Held
  uneven_struck status q later true action held =
      let end = caught_held q (told true action) new later exit (uneven_tokens true action status (uneven_raised levels around statement)) (uneven_raised levels around statement) (has true action) action q.is_open held in
      (end.0, ap (λ (s : SessionProgress). s.row_count) end.1)
    where
      told : Bool → Action → SessionProgress
      told caught action = made (sends (uneven_tokens caught action status (uneven_raised levels around statement))) (made (tells_error (uneven_raised levels around statement).number) (made (tells_rows 0) q))

      has : (caught : Bool) (action : Action) → HasTold q (uneven_tokens caught action status (uneven_raised levels around statement)) (uneven_raised levels around statement).number (told caught action)
      has caught action = record { tokens = refl; error = refl; settings = refl; txn = refl; is_open = refl; is_own = refl }
  uneven_struck status q later false action held =
      let end = ended_held q (told false action) new later exit (uneven_tokens false action status (uneven_raised levels around statement)) (uneven_raised levels around statement) (has false action) action held in
      (end.0, ap (λ (s : SessionProgress). s.row_count) end.1)
    where
      told : Bool → Action → SessionProgress
      told caught action = made (sends (uneven_tokens caught action status (uneven_raised levels around statement))) (made (tells_error (uneven_raised levels around statement).number) (made (tells_rows 0) q))

      has : (caught : Bool) (action : Action) → HasTold q (uneven_tokens caught action status (uneven_raised levels around statement)) (uneven_raised levels around statement).number (told caught action)
      has caught action = record { tokens = refl; error = refl; settings = refl; txn = refl; is_open = refl; is_own = refl }

  uneven_held : (status : ℤ) (q : SessionProgress) (later : List Exchange) → Held (ends_uneven around statement status (uneven_raised levels around statement)) q later exit new → EndsCall levels around statement false status q later exit new
  unfolding ends_uneven Held
  uneven_held status q later held = fits_held (told_uneven levels around statement status q) _ _ q later (λ was.
      let struck = uneven_struck status q later (is_caught_in around (uneven_raised levels around statement)) (action_in around q.settings.xact_abort (uneven_raised levels around statement)) was in
      (struck.0.tokens, struck.0.sent, (struck.0.strikes, struck.0.error), struck.1)) held

  ends_call_held : (count : ℕ) (status : ℤ) (q : SessionProgress) (later : List Exchange) → Held (ends_call around statement count status) q later exit new → EndsCall levels around statement (is_even q count) status q later exit new
  unfolding Held
  ends_call_held count status q later held = by_count (is_even q count) held
    where
      by_count : (test : Bool) → Held (if test then ends_even around statement status else ends_uneven around statement status (uneven_raised levels around statement)) q later exit new → EndsCall levels around statement test status q later exit new
      by_count true was = even_held status q later was
      by_count false was = uneven_held status q later was

  assigns_on : (assigned : List Assigned) (next : Doing Exit) (q : SessionProgress) (later : List Exchange) → Held (assigns_all assigned next) q later exit new → Held next (assigned_all assigned q) later exit new
  unfolding assigns_all Held
  assigns_on [] next q later held = held
  assigns_on (one ∷ assigned) next q later held = assigns_on assigned next (made (assigns one.0 one.1) q) later held

  assigned_even : (count : ℕ) (assigned : List Assigned) (q : SessionProgress) → is_even (assigned_all assigned q) count ≡ is_even q count
  assigned_even count [] q = refl
  assigned_even count (one ∷ assigned) q = assigned_even count assigned (made (assigns one.0 one.1) q)

  module _ (variable : Option (List ℕ)) (arguments : List Argument) where
    given_held : (call : Call) (count : ℕ) (vars : List Variable) (status : ℤ) (q : SessionProgress) (later : List Exchange) → Held (gives_back around statement variable arguments call count vars status) q later exit new
        → Gives levels around statement variable arguments call count vars status q later exit new
    unfolding gives_back Held
    given_held call count vars status q later held =
        let on = work_tells (List Assigned) around statement exit (λ assigned. assigns_all assigned (ends_call around statement count status)) (reads λ s. comes_to (given_back s.vars variable arguments call status vars)) q new later held in
        by_given on.0 on.1 on.2 on.3 on.4 on.5 on.6
      where
        goes_by : (given : Result (List Assigned) Failure) (mid : SessionProgress) (back : List Exchange) → GoesBy around mid statement (λ assigned. assigns_all assigned (ends_call around statement count status)) exit given back new
            → GivesBack levels around statement count status given mid back exit new
        goes_by (Ok assigned) mid back goes =
            subst (λ (even : Bool). EndsCall levels around statement even status (assigned_all assigned mid) back exit new) (assigned_even count assigned mid)
            (ends_call_held count status (assigned_all assigned mid) back (assigns_on assigned (ends_call around statement count status) mid back goes))
        goes_by (Err failure) mid back goes = goes

        by_given : (front back : List Exchange) (mid : SessionProgress) (given : Result (List Assigned) Failure) → later ≡ front ++ back → Held (reads λ s. comes_to (given_back s.vars variable arguments call status vars)) q front given mid
            → GoesBy around mid statement (λ assigned. assigns_all assigned (ends_call around statement count status)) exit given back new → Gives levels around statement variable arguments call count vars status q later exit new
        by_given front back mid given parts came goes = by_room came.0 came.1
          where
            on_from : front ≡ [] → mid ≡ q → GivesBack levels around statement count status given q later exit new
            on_from none same = subst (λ (l : List Exchange). GivesBack levels around statement count status given q l exit new) (sym (parts ∙ ap (λ (l : List Exchange). l ++ back) none))
                (subst (λ (s : SessionProgress). GivesBack levels around statement count status given s back exit new) same (goes_by given mid back goes))

            by_room : (enough : Bool) → Held (if enough then over (given_back q.vars variable arguments call status vars) else fails no_memory) q front given mid → Gives levels around statement variable arguments call count vars status q later exit new
            by_room true was = (given, inl was.1, on_from was.0 was.2)
            by_room false was = (given, inr was.1, on_from was.0 was.2)

    returns_held : (call : Call) (count : ℕ) (vars : List Variable) (came : Exit) (q : SessionProgress) (later : List Exchange) → Held (returns_from around statement variable arguments call count vars came) q later exit new
        → Returns levels around statement variable arguments call count vars came q later exit new
    returns_held call count vars (Raise raised) q later held = left_held (Raise raised) q later held
    returns_held call count vars (RaiseUp raised) q later held = left_held (Raise raised) q later held
    returns_held call count vars End q later held = left_held End q later held
    returns_held call count vars (Return status) q later held = given_held call count vars status q later held
    returns_held call count vars On q later held = given_held call count vars (pos 0) q later held
    returns_held call count vars Leave q later held = given_held call count vars (pos 0) q later held
    returns_held call count vars Again q later held = given_held call count vars (pos 0) q later held

    runs_held : (found : Result Call Failure) (mid : SessionProgress) (back : List Exchange) → GoesBy around mid statement (runs_call inner_one around statement variable arguments) exit found back new
        → RunsCall levels around statement variable arguments found mid back exit new
    unfolding runs_call Held
    runs_held (Ok call) mid back goes =
        let on = held_apart (runs_body inner_one (call_vars call) (λ settings. settings) call.procedure.body (in_body call.procedure.name None around)) (λ came. returns_from around statement variable arguments call mid.txn.count came.1 came.0) mid new back exit goes in
        (on.came.0, on.came.1, on.mid, on.front, on.back, on.parts, body_held (call_vars call) (λ settings. settings) call.procedure.body (in_body call.procedure.name None around) mid on.mid on.front on.came on.held, returns_held call mid.txn.count on.came.1 on.came.0 on.mid on.back on.rest)
    runs_held (Err failure) mid back goes = goes

    calls_held : (name : List ℕ) → Held (calls inner_one around statement variable name arguments) p exchanges exit new → Calls levels around statement variable arguments name p exchanges exit new
    unfolding calls
    calls_held name held =
        let on = work_tells Call around statement exit (runs_call inner_one around statement variable arguments) (finds_call around statement variable name arguments) p new exchanges held in
        (on.0, on.1, on.2, on.3, on.4, on.5, runs_held on.3 on.2 on.1 on.6)

  -- ---- writes

  are_run : (w : Written) (triggers : List TriggerTree) (q r : SessionProgress) (turn : List Exchange) (came : Result (Unit {0}) Stop) → Held (runs_triggers inner_one around w triggers) q turn came r → AreRun levels around statement w triggers q turn came r
  unfolding runs_triggers runs_trigger Held
  are_run w [] q r turn came held = held
  are_run w (trigger ∷ triggers) q r turn came held =
      let on = held_apart (runs_trigger inner_one around w.fired trigger) (λ left. reads λ s. unless_stopped inner_one (runs_triggers inner_one around w triggers) (trigger_end left s)) q r turn came held in
      let ran = trigger_held on.front on.mid on.came on.held in
      (on.front, on.back, on.mid, on.came, ran.0, on.parts, ran.1, by_end on.mid on.back (trigger_end on.came on.mid) (λ was. are_run w triggers on.mid r on.back came was) on.rest)
    where
      trigger_held : (front : List Exchange) (mid : SessionProgress) (left : Exit) → Held (runs_trigger inner_one around w.fired trigger) q front left mid
          → (vars : List Variable) × RunsBody levels around statement (vars_of trigger.body) (in_trigger q.settings) trigger.body (in_body trigger.name (Some w.fired) around) q front left vars mid
      trigger_held front mid left was =
          let on = held_apart (runs_body inner_one (vars_of trigger.body) in_trigger trigger.body (in_body trigger.name (Some w.fired) around)) (λ came. over came.0) q mid front left was in
          let whole : on.front ≡ front = sym (on.parts ∙ ap (λ (l : List Exchange). on.front ++ l) on.rest.0 ∙ append-nil on.front) in
          let body = body_held (vars_of trigger.body) in_trigger trigger.body (in_body trigger.name (Some w.fired) around) q on.mid on.front on.came on.held in (
            on.came.1,
            subst (λ (s : SessionProgress). RunsBody levels around statement (vars_of trigger.body) (in_trigger q.settings) trigger.body (in_body trigger.name (Some w.fired) around) q front left on.came.1 s) (sym on.rest.2)
                (subst (λ (e : Exit). RunsBody levels around statement (vars_of trigger.body) (in_trigger q.settings) trigger.body (in_body trigger.name (Some w.fired) around) q front e on.came.1 on.mid) (sym on.rest.1)
                (subst (λ (l : List Exchange). RunsBody levels around statement (vars_of trigger.body) (in_trigger q.settings) trigger.body (in_body trigger.name (Some w.fired) around) q l on.came.0 on.came.1 on.mid) whole body)),
          )

      by_end : (mid : SessionProgress) (back : List Exchange) (end : Result (Unit {0}) Stop) → (Held (runs_triggers inner_one around w triggers) mid back came r → AreRun levels around statement w triggers mid back came r)
          → Held (unless_stopped inner_one (runs_triggers inner_one around w triggers) end) mid back came r → UnlessStopped levels around statement end (AreRun levels around statement w triggers mid back came r) mid back came r
      by_end mid back (Ok done) goes was = goes was
      by_end mid back (Err stop) goes was = was

  fired_held : (w : Written) (q r : SessionProgress) (turn : List Exchange) (came : Result (Unit {0}) Stop) → Held (runs_fired inner_one around w) q turn came r → RunsFired levels around statement (nat_le depth_limit around.depth) w q turn came r
  unfolding runs_fired Held
  fired_held w q r turn came held = by_depth (nat_le depth_limit around.depth) held
    where
      by_depth : (deep : Bool) → Held (if deep then over (Err (Failed (plain too_deep))) else runs_triggers inner_one around w w.fires) q turn came r → RunsFired levels around statement deep w q turn came r
      by_depth true was = was
      by_depth false was = are_run w w.fires q r turn came was

  effect_by : (effect : Effect) (came : Result (Unit {0}) Stop) → effect_of inner_one effect came ≡ comes_by levels around statement effect came
  effect_by effect (Ok done) = refl
  effect_by effect (Err stop) = refl

  triggers_held : (home : Home) (w : Written) (q r : SessionProgress) (turn : List Exchange) (result : Result Effect Stop) → Held (fires inner_one around home w) q turn result r → RunsTriggers levels around statement home w q turn result r
  unfolding fires Held
  triggers_held home w q r turn result held =
      let on = held_apart relaxes _ q r turn result held in
      (on.front, on.back, on.mid, on.rest.0, on.parts, on.held, by_room on.mid on.back on.rest.0 on.rest.1)
    where
      by_room : (mid : SessionProgress) (back : List Exchange) (enough : Bool)
          → Held (if enough then (reads λ s. makes (fires_from w.mark) (runs_fired inner_one around w then λ came. leaves_fired home w.mark s.stands (is_ok came) then λ done. over (effect_of inner_one w.effect came)))
          else (undone_to w.mark true (relaxes_then (closes_own home false)) then λ done. over (Err (Failed (plain no_memory))))) mid back result r → FiresBy levels around statement enough home w mid back result r
      by_room mid back true was =
          let run = held_apart (runs_fired inner_one around w) (λ came. leaves_fired home w.mark mid.stands (is_ok came) then λ done. over (effect_of inner_one w.effect came)) (made (fires_from w.mark) mid) r back result was in
          let end = held_apart (leaves_fired home w.mark mid.stands (is_ok run.came)) (λ done. over (effect_of inner_one w.effect run.came)) run.mid r run.back result run.rest in
          let whole : end.front ≡ run.back = sym (end.parts ∙ ap (λ (l : List Exchange). end.front ++ l) end.rest.0 ∙ append-nil end.front) in (
            run.front,
            run.back,
            run.mid,
            run.came,
            run.parts,
            fired_held w (made (fires_from w.mark) mid) run.mid run.front run.came run.held,
            subst (λ (s : SessionProgress). Held (leaves_fired home w.mark mid.stands (is_ok run.came)) run.mid run.back tt s) (sym end.rest.2)
                (subst (λ (l : List Exchange). Held (leaves_fired home w.mark mid.stands (is_ok run.came)) run.mid l tt end.mid) whole end.held),
            end.rest.1 ∙ effect_by w.effect run.came,
          )
      by_room mid back false was =
          let end = held_apart (undone_to w.mark true (relaxes_then (closes_own home false))) (λ done. over (Err (Failed (plain no_memory)))) mid r back result was in
          let whole : end.front ≡ back = sym (end.parts ∙ ap (λ (l : List Exchange). end.front ++ l) end.rest.0 ∙ append-nil end.front) in (
            subst (λ (s : SessionProgress). Held (undone_to w.mark true (relaxes_then (closes_own home false))) mid back tt s) (sym end.rest.2)
                (subst (λ (l : List Exchange). Held (undone_to w.mark true (relaxes_then (closes_own home false))) mid l tt end.mid) whole end.held),
            end.rest.1,
          )

  written_held : (result : Result Effect Stop) (mid : SessionProgress) (back : List Exchange) → Held (written around statement result) mid back exit new → WrittenBy levels around statement result mid back exit new
  written_held (Ok effect) mid back held = succeeds_held statement effect On exit mid new back held
  written_held (Err (Failed failure)) mid back held = fails_on failure mid back held
  written_held (Err (Left left)) mid back held = left_held left mid back held

  writes_held : is_write (form_of statement) ≡ true → Held (writes inner_one around statement then written around statement) p exchanges exit new → Writes levels around statement p exchanges exit new
  writes_held is held =
      let on = held_apart (writes inner_one around statement) (written around statement) p new exchanges exit held in
      (on.front, on.back, on.mid, on.came, on.parts, by_ways on.front on.mid on.came (write_apart inner_one around statement p on.mid on.front on.came is on.held), written_held on.came on.mid on.back on.rest)
    where
      by_ways : (front : List Exchange) (mid : SessionProgress) (result : Result Effect Stop)
          → (IsUnfired around p statement result front × Behind p mid × UnlessErr result (mid.vars ≡ p.vars)) ⊎ IsFired around p statement (λ home done q behind. Held (fires inner_one around home done) q behind result mid) front
          → WritesTo levels around statement p front result mid
      by_ways front mid result (inl unfired) = inl (unfired.0, unfired.1.near)
      by_ways front mid result (inr fired) = inr (record {
        planned = fired.planned;
        done = fired.done;
        came = fired.came;
        mid = fired.mid;
        front = fired.front;
        behind = fired.behind;
        parts = fired.parts;
        writes = fired.writes;
        some = fired.some;
        still = fired.still;
        goes = triggers_held fired.came fired.done fired.mid mid fired.behind result fired.goes;
      })

  controls_held : (form : Layer) → form_of statement ≡ form → Held (mean_form inner_one around statement form) p exchanges exit new → Controls levels around statement form p exchanges exit new
  unfolding mean_form tries Held
  controls_held (Form-F.If test so otherwise) is held =
      let on = test_held (branch inner_one around so otherwise) held in (on.0, on.1, on.2, on.3, on.4, on.5, takes_held so otherwise on.3 on.2 on.1 on.6)
  controls_held (Form-F.While test body) is held =
      let on = test_held (turns inner_one around statement body) held in (on.0, on.1, on.2, on.3, on.4, on.5, loops_held body on.3 on.2 on.1 on.6)
  controls_held (Form-F.TryCatch body handler) is held =
      let on = held_apart (each_of inner_one body (in_try around)) (λ came. handled (λ raised. each_of inner_one handler (in_catch raised around)) came) p new exchanges exit held in
      (on.front, on.back, on.mid, on.came, on.parts, on.held, handles_held handler on.came on.mid on.back on.rest)
  controls_held (Form-F.Block body) is held = held
  controls_held Form-F.Break is held = held
  controls_held Form-F.Continue is held = held
  controls_held (Form-F.Print value) is held = composes_held held
  controls_held (Form-F.RaiseError value class state) is held = composes_held held
  controls_held (Form-F.Throw number value state) is held = composes_held held
  controls_held Form-F.ThrowAgain is held = rethrows_held around.caught held
  controls_held (Form-F.SetOption option) is held = sets_held (set_option option p.settings) held
  controls_held (Form-F.Execute variable name arguments) is held = calls_held variable arguments name held
  controls_held (Form-F.Insert table columns rows) is held = writes_held (ap is_write is) held
  controls_held (Form-F.Update table assignments filter) is held = writes_held (ap is_write is) held
  controls_held (Form-F.Delete table filter) is held = writes_held (ap is_write is) held
  controls_held form is held = tt

pub form_controls : FormControls
form_controls levels around statement old new exchanges exit left seen allowed held =
    controls_held levels around statement (made counts old) new exchanges exit (form_of statement) refl (form_held around statement old new exchanges exit levels left seen allowed held)
