-- Own: what a statement that may begin does, by its form, in the words of the statements that it holds: BEGIN, COMMIT, ROLLBACK and SAVE
-- TRANSACTION and the statements on cursors do their own work; IF and WHILE go on by their test, and TRY by how its statements ended; EXEC runs the
-- statements of its procedure, and a write those of the triggers that it fires; PRINT, RAISERROR and THROW send their message, or it strikes, and SET
-- sets an option. The other forms are plain, and so is a write that fires none (`PlainEnds`). And what becomes of a statement that may not begin, or is
-- refused since its transaction is doomed.
use Rattle.std.specs.Prelude.{◌≡◌, ◌⊎◌, ℕ, ℤ, suc, pos, ◌==◌, ◌&&◌, nat_le, nat_lt, is_ok, if◌then◌else◌, Bool, true, false, List, [], ◌∷◌, ◌++◌, Option, None, Some, Result, Ok, Err}
use Rattle.tsql_tree.specs.declared.definition.TriggerTree.{TriggerTree}
use Rattle.tsql_tree.specs.declared.statement.Argument.{Argument}
use Rattle.tsql_tree.specs.declared.statement.Form.{Form-F}
use Rattle.tsql_tree.specs.declared.statement.Statement.{Statement}
use Rattle.session_vars.specs.declared.Variable.{Variable}
use Rattle.binder.specs.Names.{Layer, form_of}
use Rattle.step_model.specs.Exchange.{Exchange}
use Rattle.step_model.specs.Ranges.{no_memory}
use Rattle.tds_tokens.specs.declared.token.Token.{Token}
use Rattle.batch_meaning.specs.declared.exit.Exit.{Exit}
use Rattle.batch_meaning.specs.declared.exit.Exit.TheVariants.{On, Leave, Again, Return, Raise, RaiseUp, End}
use Rattle.batch_meaning.specs.declared.failure.Failure.{Failure}
use Rattle.batch_meaning.specs.declared.home.Home.{Home}
use Rattle.batch_meaning.specs.declared.raised.Raised.{Raised}
use Rattle.batch_meaning.specs.declared.settings.Settings.{Settings}
use Rattle.batch_meaning.specs.declared.stop.Stop.{Stop}
use Rattle.batch_meaning.specs.declared.stop.Stop.TheVariants.{Failed, Left}
use Rattle.batch_meaning.specs.Calls.{Call, call_vars, depth_limit, finds_call, given_back, too_deep, uneven}
use Rattle.batch_meaning.specs.Cursors.{closes_cursor, declares_cursor, fetches_cursor, opens_cursor, removes_cursor}
use Rattle.batch_meaning.specs.Databases.{uses_database}
use Rattle.batch_meaning.specs.Doing.{Doing, over, Held}
use Rattle.batch_meaning.specs.Failures.{plain}
use Rattle.batch_meaning.specs.Firing.{closes_own, in_trigger, leaves_fired, relaxes_then, trigger_end, undone_to}
use Rattle.batch_meaning.specs.Meaning.{doomed_write, is_even, is_refused_doomed, line_of, mean_of, meaning, statements_spent, succeeds, uneven_tokens}
use Rattle.batch_meaning.specs.Progress.{SessionProgress, counts, fires_from, made, sets, size_of, stands_with, tells_error, tells_rows}
use Rattle.batch_meaning.specs.Raised.{Around, action_in, again, in_body, in_catch, in_try, info_token, is_caught_in, raised_in}
use Rattle.batch_meaning.specs.Selecting.{Effect, no_effect, result_full, sending}
use Rattle.batch_meaning.specs.Settings.{outside_profile, set_option}
use Rattle.batch_meaning.specs.Statements.{vars_of}
use Rattle.batch_meaning.specs.Tokens.{procedure_done}
use Rattle.batch_meaning.specs.Transactions.{begins_transaction, commits_transaction, rolls_back_transaction, saves_transaction}
use Rattle.batch_meaning.specs.Unseen.{is_unseen}
use Rattle.batch_meaning.specs.Values.{Assigned, is_message}
use Rattle.batch_meaning.specs.Working.{composes, relaxes, tests}
use Rattle.batch_meaning.specs.Writes.{Written}
use Rattle.statement_paths.specs.Paths.{IsFired, IsUnfired}
use Rattle.batch_laws.specs.Committing.{IsBehind, Strikes, StrikesWith, assigned_all, behind_effect}
use Rattle.batch_laws.specs.Laws.{GoesBy}

-- ---- whether it begins

-- fewer statements of its batch have begun than may
abbrev pub MayBegin : SessionProgress → Type 0
MayBegin p = (p.statements_left == 0) ≡ false

-- it begins no transaction unseen
abbrev pub IsSeen : SessionProgress → Statement → Type 0
IsSeen p statement = is_unseen p (form_of statement) ≡ false

-- it is refused, since its transaction is doomed
abbrev pub is_refused : SessionProgress → Statement → Bool
is_refused p statement = p.txn.doomed && is_refused_doomed (form_of statement)

-- an error strikes before anything is asked; the session is given in which the statement has begun
abbrev pub StrikesAtOnce : Around → SessionProgress → SessionProgress → Statement → ℕ → List Exchange → Exit → SessionProgress → Type 0
StrikesAtOnce around begun old statement number exchanges exit new = (tokens : List Token) × (new.tokens ≡ old.tokens ++ tokens) × Strikes around begun statement (raised_in around.procedure (line_of statement) (plain number)) exit tokens exchanges new

-- where none may begin any more
abbrev pub SpentStrikes : Type 0
SpentStrikes = (levels : ℕ) (around : Around) (statement : Statement) (old new : SessionProgress) (exchanges : List Exchange) (exit : Exit) → (old.statements_left == 0) ≡ true → Held (mean_of levels statement around) old exchanges exit new
    → StrikesAtOnce around old old statement statements_spent exchanges exit new

abbrev pub DoomedStrikes : Type 0
DoomedStrikes = (levels : ℕ) (around : Around) (statement : Statement) (old new : SessionProgress) (exchanges : List Exchange) (exit : Exit) → MayBegin old → IsSeen old statement → is_refused old statement ≡ true → Held (mean_of (suc levels) statement around) old exchanges exit new
    → StrikesAtOnce around (made counts old) old statement doomed_write exchanges exit new

-- ---- its own work

-- what a statement on transactions or cursors does
abbrev pub work_named : Around → Statement → Layer → Option (Doing (Result Effect Failure))
work_named around statement (Form-F.BeginTransaction name) = Some (begins_transaction statement name)
work_named around statement (Form-F.Commit name) = Some (commits_transaction name)
work_named around statement (Form-F.Rollback name) = Some (rolls_back_transaction name)
work_named around statement (Form-F.Save name) = Some (saves_transaction statement name)
work_named around statement (Form-F.DeclareCursor name select) = Some (declares_cursor statement name select)
work_named around statement (Form-F.OpenCursor name) = Some (opens_cursor around statement name)
work_named around statement (Form-F.Fetch name variables) = Some (fetches_cursor statement name variables)
work_named around statement (Form-F.CloseCursor name) = Some (closes_cursor statement name)
work_named around statement (Form-F.Deallocate name) = Some (removes_cursor statement name)
work_named around statement (Form-F.Use name) = Some (uses_database around statement name)
work_named around statement form = None

-- that comes first, and then what it came to is told, and the next statement comes; or its error strikes
abbrev pub NamedDoes : Type 0
NamedDoes = (levels : ℕ) (around : Around) (statement : Statement) (work : Doing (Result Effect Failure)) (old new : SessionProgress) (exchanges : List Exchange) (exit : Exit) → MayBegin old → IsSeen old statement → is_refused old statement ≡ false
    → work_named around statement (form_of statement) ≡ Some work → Held (mean_of (suc levels) statement around) old exchanges exit new
    → (front back : List Exchange) × (mid : SessionProgress) × (result : Result Effect Failure) × (exchanges ≡ front ++ back) × Held work (made counts old) front result mid
    × GoesBy around mid statement (λ effect. succeeds statement effect (over On)) exit result back new

-- ---- statements that hold others

module _ (levels : ℕ) (around : Around) (statement : Statement) where
  -- behind a test that was done, @@ERROR is 0
  abbrev pub tested : SessionProgress → SessionProgress
  tested mid = made (tells_error (pos 0)) mid

  -- nothing more is done, and it goes on so
  abbrev pub Stops : SessionProgress → Exit → List Exchange → Exit → SessionProgress → Type 0
  Stops mid leaves back exit new = (back ≡ []) × (exit ≡ leaves) × (new ≡ mid)

  -- the error of what it does strikes
  abbrev pub TestStrikes : SessionProgress → Failure → List Exchange → Exit → SessionProgress → Type 0
  TestStrikes mid failure back exit new = (tokens : List Token) × (new.tokens ≡ mid.tokens ++ tokens) × Strikes around mid statement (raised_in around.procedure (line_of statement) failure) exit tokens back new

  -- IF, by its test: the first statement, or the other one, if there is one
  abbrev pub Takes : Statement → Option Statement → Result Bool Failure → SessionProgress → List Exchange → Exit → SessionProgress → Type 0
  Takes so otherwise (Ok true) mid back exit new = Held (mean_of levels so around) (tested mid) back exit new
  Takes so None (Ok false) mid back exit new = Stops (tested mid) On back exit new
  Takes so (Some other) (Ok false) mid back exit new = Held (mean_of levels other around) (tested mid) back exit new
  Takes so otherwise (Err failure) mid back exit new = TestStrikes mid failure back exit new

  -- WHILE behind a turn: the same again, or it is left
  abbrev pub TurnsBy : Exit → SessionProgress → List Exchange → Exit → SessionProgress → Type 0
  TurnsBy On q later exit new = Held (mean_of levels statement around) q later exit new
  TurnsBy Again q later exit new = Held (mean_of levels statement around) q later exit new
  TurnsBy Leave q later exit new = Stops q On later exit new
  TurnsBy (Return status) q later exit new = Stops q (Return status) later exit new
  TurnsBy (Raise raised) q later exit new = Stops q (Raise raised) later exit new
  TurnsBy (RaiseUp raised) q later exit new = Stops q (RaiseUp raised) later exit new
  TurnsBy End q later exit new = Stops q End later exit new

  -- WHILE, by its test: a turn of its body, or nothing
  abbrev pub Loops : Statement → Result Bool Failure → SessionProgress → List Exchange → Exit → SessionProgress → Type 0
  Loops body (Ok true) mid back exit new =
      (came : Exit) × (q : SessionProgress) × (turn later : List Exchange) × (back ≡ turn ++ later) × Held (mean_of levels body around) (tested mid) turn came q × TurnsBy came q later exit new
  Loops body (Ok false) mid back exit new = Stops (tested mid) On back exit new
  Loops body (Err failure) mid back exit new = TestStrikes mid failure back exit new

  -- TRY, by how its statements ended: an error that was caught runs those of CATCH; one that is on its way out of its procedure or trigger does not
  abbrev pub Handles : List Statement → Exit → SessionProgress → List Exchange → Exit → SessionProgress → Type 0
  Handles handler (Raise raised) mid back exit new = Held (meaning levels handler (in_catch raised around)) mid back exit new
  Handles handler On mid back exit new = Stops mid On back exit new
  Handles handler Leave mid back exit new = Stops mid Leave back exit new
  Handles handler Again mid back exit new = Stops mid Again back exit new
  Handles handler (Return status) mid back exit new = Stops mid (Return status) back exit new
  Handles handler (RaiseUp raised) mid back exit new = Stops mid (RaiseUp raised) back exit new
  Handles handler End mid back exit new = Stops mid End back exit new

  -- ---- messages and errors of a batch's own

  -- an error strikes, as it is
  abbrev pub StrikesNow : SessionProgress → Raised → List Exchange → Exit → SessionProgress → Type 0
  StrikesNow mid raised back exit new = (tokens : List Token) × (new.tokens ≡ mid.tokens ++ tokens) × Strikes around mid statement raised exit tokens back new

  -- it is done, with this effect, and the next statement comes
  abbrev pub GoesOn : SessionProgress → Effect → List Exchange → Exit → SessionProgress → Type 0
  GoesOn mid effect back exit new = (back ≡ []) × (exit ≡ On) × (new ≡ record (behind_effect (form_of statement) effect mid) { bytes_left = new.bytes_left })

  -- by whether it is a message: that is sent, and an error strikes
  abbrev pub SendsBy : Bool → Raised → SessionProgress → List Exchange → Exit → SessionProgress → Type 0
  SendsBy true raised mid back exit new = GoesOn mid (sending (info_token raised ∷ [])) back exit new
  SendsBy false raised mid back exit new = StrikesNow mid raised back exit new

  -- PRINT, RAISERROR and THROW, by what was made of the values of their expressions
  abbrev pub Sends : Result Raised Failure → SessionProgress → List Exchange → Exit → SessionProgress → Type 0
  Sends (Ok raised) mid back exit new = SendsBy (is_message raised) raised mid back exit new
  Sends (Err failure) mid back exit new = TestStrikes mid failure back exit new

  -- THROW without arguments, by the error of the CATCH around
  abbrev pub Rethrows : Option Raised → SessionProgress → List Exchange → Exit → SessionProgress → Type 0
  Rethrows None p exchanges exit new = TestStrikes p (plain outside_profile) exchanges exit new
  Rethrows (Some raised) p exchanges exit new = StrikesNow p (again raised) exchanges exit new

  -- SET of an option
  abbrev pub Sets : Result Settings Failure → SessionProgress → List Exchange → Exit → SessionProgress → Type 0
  Sets (Ok settings) p exchanges exit new = GoesOn (made (sets settings) p) no_effect exchanges exit new
  Sets (Err failure) p exchanges exit new = TestStrikes p failure exchanges exit new

  -- PRINT, RAISERROR or THROW
  abbrev pub Composes : SessionProgress → List Exchange → Exit → SessionProgress → Type 0
  Composes p exchanges exit new =
      (front back : List Exchange) × (mid : SessionProgress) × (came : Result Raised Failure) × (exchanges ≡ front ++ back) × Held (composes around statement) p front came mid × Sends came mid back exit new

  -- ---- bodies of procedures and triggers

  -- A body has run with variables and settings of its own, and those around it have come back: so it was left, and with these variables.
  abbrev pub RunsBody : List Variable → Settings → List Statement → Around → SessionProgress → List Exchange → Exit → List Variable → SessionProgress → Type 0
  RunsBody vars settings body at p exchanges came left_vars new = (inner : SessionProgress) × Held (meaning levels body at) (made (sets settings) (made (stands_with vars) p)) exchanges came inner
      × (left_vars ≡ inner.vars) × (new ≡ made (sets p.settings) (made (stands_with p.vars) inner))

  -- it is left so, and no rows are counted
  abbrev pub IsLeft : SessionProgress → Exit → List Exchange → Exit → SessionProgress → Type 0
  IsLeft q leaves later exit new = Stops (made (tells_rows 0) q) leaves later exit new

  -- ---- EXEC

  -- where the batch may not send these tokens any more, an error strikes
  abbrev pub UnlessFull : Bool → Type 0 → SessionProgress → List Exchange → Exit → SessionProgress → Type 0
  UnlessFull true Goes q later exit new = TestStrikes q (plain result_full) later exit new
  UnlessFull false Goes q later exit new = Goes

  abbrev pub is_full : List Token → SessionProgress → Bool
  is_full tokens q = nat_lt q.bytes_left (size_of tokens)

  -- the error of a procedure that has ended with another count of transactions than it began with
  abbrev pub uneven_raised : Raised
  uneven_raised = raised_in around.procedure (line_of statement) (plain uneven)

  abbrev pub told_uneven : ℤ → SessionProgress → List Token
  told_uneven status q = uneven_tokens (is_caught_in around uneven_raised) (action_in around q.settings.xact_abort uneven_raised) status uneven_raised

  -- the end of a procedure, by whether it has ended with as many: its status is told, and the next statement comes; or that error strikes, beside it
  abbrev pub EndsCall : Bool → ℤ → SessionProgress → List Exchange → Exit → SessionProgress → Type 0
  EndsCall true status q later exit new = UnlessFull (is_full (procedure_done status) q) (GoesOn q (sending (procedure_done status)) later exit new) q later exit new
  EndsCall false status q later exit new = UnlessFull (is_full (told_uneven status q) q)
      ((tokens : List Token) × (new.tokens ≡ q.tokens ++ tokens) × StrikesWith around q (told_uneven status q) uneven_raised exit tokens later new × (new.row_count ≡ 0)) q later exit new

  -- what it gives back is assigned first, or can't be
  abbrev pub GivesBack : ℕ → ℤ → Result (List Assigned) Failure → SessionProgress → List Exchange → Exit → SessionProgress → Type 0
  GivesBack count status (Ok assigned) q later exit new = EndsCall (is_even q count) status (assigned_all assigned q) later exit new
  GivesBack count status (Err failure) q later exit new = TestStrikes q failure later exit new

  module _ (variable : Option (List ℕ)) (arguments : List Argument) where
    -- with this status; memory may be wanting for it
    abbrev pub Gives : Call → ℕ → List Variable → ℤ → SessionProgress → List Exchange → Exit → SessionProgress → Type 0
    Gives call count vars status q later exit new = (given : Result (List Assigned) Failure) × ((given ≡ given_back q.vars variable arguments call status vars) ⊎ (given ≡ Err (plain no_memory))) × GivesBack count status given q later exit new

    -- by how the procedure was left: an error on its way, and the batch's end, leave the EXEC, too
    abbrev pub Returns : Call → ℕ → List Variable → Exit → SessionProgress → List Exchange → Exit → SessionProgress → Type 0
    Returns call count vars (Raise raised) q later exit new = IsLeft q (Raise raised) later exit new
    Returns call count vars (RaiseUp raised) q later exit new = IsLeft q (Raise raised) later exit new
    Returns call count vars End q later exit new = IsLeft q End later exit new
    Returns call count vars (Return status) q later exit new = Gives call count vars status q later exit new
    Returns call count vars came q later exit new = Gives call count vars (pos 0) q later exit new

    -- what was found is called
    abbrev pub RunsCall : Result Call Failure → SessionProgress → List Exchange → Exit → SessionProgress → Type 0
    RunsCall (Ok call) mid back exit new = (came : Exit) × (vars : List Variable) × (q : SessionProgress) × (turn later : List Exchange) × (back ≡ turn ++ later)
        × RunsBody (call_vars call) mid.settings call.procedure.body (in_body call.procedure.name None around) mid turn came vars q × Returns call mid.txn.count vars came q later exit new
    RunsCall (Err failure) mid back exit new = TestStrikes mid failure back exit new

    -- it is looked up, and the call is bound, before it runs
    abbrev pub Calls : List ℕ → SessionProgress → List Exchange → Exit → SessionProgress → Type 0
    Calls name p exchanges exit new = (front back : List Exchange) × (mid : SessionProgress) × (found : Result Call Failure) × (exchanges ≡ front ++ back)
        × Held (finds_call around statement variable name arguments) p front found mid × RunsCall found mid back exit new

  -- ---- writes

  -- where a trigger did not stop the statement this holds, and else nothing more is done
  abbrev pub UnlessStopped : Result (Unit {0}) Stop → Type 0 → SessionProgress → List Exchange → Result (Unit {0}) Stop → SessionProgress → Type 0
  UnlessStopped (Ok done) Goes mid back came new = Goes
  UnlessStopped (Err stop) Goes mid back came new = (back ≡ []) × (came ≡ Err stop) × (new ≡ mid)

  -- triggers have run one after another, up to one that stopped the statement; behind the last the batch may still send what the statement tells, or not
  abbrev pub AreRun : Written → List TriggerTree → SessionProgress → List Exchange → Result (Unit {0}) Stop → SessionProgress → Type 0
  AreRun w [] p exchanges came new = (exchanges ≡ []) × (came ≡ (if is_full w.effect.tokens p then Err (Failed (plain result_full)) else Ok tt)) × (new ≡ p)
  AreRun w (trigger ∷ triggers) p exchanges came new = (front back : List Exchange) × (mid : SessionProgress) × (left : Exit) × (vars : List Variable) × (exchanges ≡ front ++ back)
      × RunsBody (vars_of trigger.body) (in_trigger p.settings) trigger.body (in_body trigger.name (Some w.fired) around) p front left vars mid × UnlessStopped (trigger_end left mid) (AreRun w triggers mid back came new) mid back came new

  -- procedures and triggers may stand in one another so deep
  abbrev pub RunsFired : Bool → Written → SessionProgress → List Exchange → Result (Unit {0}) Stop → SessionProgress → Type 0
  RunsFired true w p exchanges came new = (exchanges ≡ []) × (came ≡ Err (Failed (plain too_deep))) × (new ≡ p)
  RunsFired false w p exchanges came new = AreRun w w.fires p exchanges came new

  -- what a statement comes to by how its triggers ended
  abbrev pub comes_by : Effect → Result (Unit {0}) Stop → Result Effect Stop
  comes_by effect (Ok done) = Ok effect
  comes_by effect (Err stop) = Err stop

  -- Its triggers ran in its transaction, by whether there was memory for that; behind them its transaction stands, or has ended, and it ends by that.
  abbrev pub FiresBy : Bool → Home → Written → SessionProgress → List Exchange → Result Effect Stop → SessionProgress → Type 0
  FiresBy true home w q exchanges result new = (turn later : List Exchange) × (r : SessionProgress) × (came : Result (Unit {0}) Stop) × (exchanges ≡ turn ++ later)
      × RunsFired (nat_le depth_limit around.depth) w (made (fires_from w.mark) q) turn came r × Held (leaves_fired home w.mark q.stands (is_ok came)) r later tt new × (result ≡ comes_by w.effect came)
  FiresBy false home w q exchanges result new = Held (undone_to w.mark true (relaxes_then (closes_own home false))) q exchanges tt new × (result ≡ Err (Failed (plain no_memory)))

  -- the locks of its own work have ended before
  abbrev pub RunsTriggers : Home → Written → SessionProgress → List Exchange → Result Effect Stop → SessionProgress → Type 0
  RunsTriggers home w p exchanges result new = (relaxed later : List Exchange) × (q : SessionProgress) × (enough : Bool) × (exchanges ≡ relaxed ++ later) × Held relaxes p relaxed tt q × FiresBy enough home w q later result new

  -- a write has done its work, in the open transaction or one of its own, which has ended where it fires no triggers; or these ran
  abbrev pub WritesTo : SessionProgress → List Exchange → Result Effect Stop → SessionProgress → Type 0
  WritesTo p exchanges result new = (IsUnfired around p statement result exchanges × IsBehind p new) ⊎ IsFired around p statement (λ home done mid later. RunsTriggers home done mid later result new) exchanges

  -- and goes on by what that came to; where a trigger was left, it is left so, too
  abbrev pub WrittenBy : Result Effect Stop → SessionProgress → List Exchange → Exit → SessionProgress → Type 0
  WrittenBy (Ok effect) mid back exit new = GoesOn mid effect back exit new
  WrittenBy (Err (Failed failure)) mid back exit new = TestStrikes mid failure back exit new
  WrittenBy (Err (Left left)) mid back exit new = IsLeft mid left back exit new

  abbrev pub Writes : SessionProgress → List Exchange → Exit → SessionProgress → Type 0
  Writes p exchanges exit new = (front back : List Exchange) × (mid : SessionProgress) × (result : Result Effect Stop) × (exchanges ≡ front ++ back) × WritesTo p front result mid × WrittenBy result mid back exit new

  -- what is done of such a statement behind its begin
  abbrev pub Controls : Layer → SessionProgress → List Exchange → Exit → SessionProgress → Type 0
  Controls (Form-F.If test so otherwise) p exchanges exit new =
      (front back : List Exchange) × (mid : SessionProgress) × (holds : Result Bool Failure) × (exchanges ≡ front ++ back) × Held (tests around statement) p front holds mid × Takes so otherwise holds mid back exit new
  Controls (Form-F.While test body) p exchanges exit new =
      (front back : List Exchange) × (mid : SessionProgress) × (holds : Result Bool Failure) × (exchanges ≡ front ++ back) × Held (tests around statement) p front holds mid × Loops body holds mid back exit new
  Controls (Form-F.TryCatch body handler) p exchanges exit new =
      (front back : List Exchange) × (mid : SessionProgress) × (came : Exit) × (exchanges ≡ front ++ back) × Held (meaning levels body (in_try around)) p front came mid × Handles handler came mid back exit new
  Controls (Form-F.Block body) p exchanges exit new = Held (meaning levels body around) p exchanges exit new
  Controls Form-F.Break p exchanges exit new = Stops (tested p) Leave exchanges exit new
  Controls Form-F.Continue p exchanges exit new = Stops (tested p) Again exchanges exit new
  Controls (Form-F.Print value) p exchanges exit new = Composes p exchanges exit new
  Controls (Form-F.RaiseError value class state) p exchanges exit new = Composes p exchanges exit new
  Controls (Form-F.Throw number value state) p exchanges exit new = Composes p exchanges exit new
  Controls Form-F.ThrowAgain p exchanges exit new = Rethrows around.caught p exchanges exit new
  Controls (Form-F.SetOption option) p exchanges exit new = Sets (set_option option p.settings) p exchanges exit new
  Controls (Form-F.Execute variable name arguments) p exchanges exit new = Calls variable arguments name p exchanges exit new
  Controls (Form-F.Insert table columns rows) p exchanges exit new = Writes p exchanges exit new
  Controls (Form-F.Update table assignments filter) p exchanges exit new = Writes p exchanges exit new
  Controls (Form-F.Delete table filter) p exchanges exit new = Writes p exchanges exit new
  Controls form p exchanges exit new = Unit {0}

abbrev pub FormControls : Type 0
FormControls = (levels : ℕ) (around : Around) (statement : Statement) (old new : SessionProgress) (exchanges : List Exchange) (exit : Exit) → MayBegin old → IsSeen old statement → is_refused old statement ≡ false → Held (mean_of (suc levels) statement around) old exchanges exit new
    → Controls levels around statement (form_of statement) (made counts old) exchanges exit new
