-- Own: what a batch means: its statements one after another, what each of them ends, and where an error goes. A statement's case is a
-- function of what stands around it, of how far the session has come and of the meaning of the statements that it holds. A meaning
-- is a tree; the code asks the port, and goes on by its replies.
use Rattle.std.specs.Prelude.{ℕ, zero, suc, ℤ, pos, ◌==◌, ◌&&◌, ◌||◌, Bool, true, false, nat_le, nat_lt, is_ok, if◌then◌else◌, List, [], ◌∷◌, Option, None, Some, Result, Ok, Err}
use Rattle.tsql_tree.specs.declared.definition.Definition.{Definition}
use Rattle.tsql_tree.specs.declared.definition.TriggerTree.{TriggerTree}
use Rattle.tsql_tree.specs.declared.option.SessionOption.{SessionOption}
use Rattle.tsql_tree.specs.declared.statement.Argument.{Argument}
use Rattle.tsql_tree.specs.declared.statement.Form.{Form-F}
use Rattle.tsql_tree.specs.declared.statement.Statement.{Statement, out-Statement}
use Rattle.binder.specs.Names.{Layer, form_of, looked_up}
use Rattle.error_table.specs.declared.action.Action.{Action}
use Rattle.error_table.specs.declared.action.Action.TheVariants as action
use Rattle.error_table.specs.declared.action.Caught.{Caught}
use Rattle.error_table.specs.declared.action.Caught.TheVariants.{LevelUp}
use Rattle.error_table.specs.Act.{base_caught}
use Rattle.step_model.specs.declared.op.Op.TheVariants as ops
use Rattle.step_model.specs.Ranges.{no_memory}
use Rattle.tds_tokens.specs.Numbers.{command_none}
use Rattle.tds_tokens.specs.declared.token.DoneKind.{DoneKind}
use Rattle.tds_tokens.specs.declared.token.Token.{Token}
use Rattle.batch_meaning.specs.declared.exit.Exit.{Exit}
use Rattle.batch_meaning.specs.declared.exit.Exit.TheVariants.{On, Leave, Again, Return, Raise, RaiseUp, End}
use Rattle.batch_meaning.specs.declared.failure.Failure.{Failure}
use Rattle.batch_meaning.specs.declared.form.ReadText.{ReadText}
use Rattle.batch_meaning.specs.declared.form.ReadText.TheVariants as text
use Rattle.batch_meaning.specs.declared.raised.Raised.{Raised}
use Rattle.batch_meaning.specs.declared.home.Home.{Home}
use Rattle.batch_meaning.specs.declared.settings.Settings.{Settings}
use Rattle.batch_meaning.specs.declared.stop.Stop.{Stop}
use Rattle.batch_meaning.specs.declared.stop.Stop.TheVariants.{Failed, Left}
use Rattle.batch_meaning.specs.Failures.{plain, naming}
use Rattle.batch_meaning.specs.Raised.{Around, Fired, action_in, again, around_batch, error_token, in_body, in_catch, in_try, is_caught_in, raised_at, raised_in}
use Rattle.batch_meaning.specs.Settings.{outside_profile, set_option}
use Rattle.batch_meaning.specs.Statements.{vars_of}
use Rattle.batch_meaning.specs.Tokens.{batch_done, command_of, done_kind, procedure_done, statement_failed, transaction_rolled_back}
use Rattle.batch_meaning.specs.Progress.{SessionProgress, begins, counts, dooms, fires_from, sends, sets, size_of, stands_with, statement_limit, tells_error, tells_rows}
use Rattle.batch_meaning.specs.Doing.{Doing, over, reads, makes, asks, room, ◌then◌}
use Rattle.batch_meaning.specs.Selecting.{Effect, messages, no_effect, result_full, sending}
use Rattle.batch_meaning.specs.Values.{is_message}
use Rattle.session_vars.specs.declared.Variable.{Variable}
use Rattle.batch_meaning.specs.Asking.{assigns_all, comes_to, where_ended, with_room}
use Rattle.batch_meaning.specs.Working.{asks_any, binds, composes, enters, known_by, leaves, relaxes, statuses, tests, works}
use Rattle.batch_meaning.specs.Writes.{Written, change_bound, creates_definition, creates_table, drops}
use Rattle.batch_meaning.specs.Calls.{Call, call_vars, depth_limit, finds_call, given_back, too_deep, uneven}
use Rattle.batch_meaning.specs.Firing.{closes_own, in_trigger, leaves_fired, relaxes_then, trigger_end, undone_to}
use Rattle.batch_meaning.specs.Cursors.{closes_cursor, declares_cursor, fetches_cursor, opens_cursor, removes_cursor}
use Rattle.batch_meaning.specs.Databases.{uses_database}
use Rattle.batch_meaning.specs.Transactions.{begins_outermost, begins_transaction, commits_transaction, next_serial, rolls_back_transaction, saves_transaction}
use Rattle.batch_meaning.specs.Unseen.{wants_begin, is_unseen}

abbrev pub Meaning : Type 0
Meaning = Around → Doing Exit

abbrev pub line_of : Statement → ℤ
line_of statement = pos (out-Statement statement).line

-- ---- errors

abbrev pub statements_spent : ℕ
statements_spent = 49001

abbrev pub doomed_at_end : ℕ
doomed_at_end = 3998

abbrev pub doomed_write : ℕ
doomed_write = 3930

-- an open transaction is rolled back, with all its BEGINs
unfoldable pub rolls_back_open : Doing (Unit {0})
rolls_back_open = reads λ p. if p.is_open then asks ops.Rollback (where_ended (over tt)) else over tt

abbrev pub told_unless_own : Bool → ℕ → Doing (Unit {0})
told_unless_own true serial = over tt
told_unless_own false serial = makes (sends (transaction_rolled_back serial ∷ [])) (over tt)

-- and that is told, unless it is a statement's own
unfoldable pub rolls_back_told : Doing (Unit {0})
rolls_back_told = reads λ p. if p.is_open then asks ops.Rollback (where_ended (told_unless_own p.is_own p.txn.serial)) else over tt

-- what is told of an error, by what it ends: the end of its statement where the batch goes on
abbrev pub told_tokens : DoneKind → Action → ℕ → Raised → List Token
told_tokens kind action.Statement command raised = error_token raised ∷ statement_failed kind command ∷ []
told_tokens kind action.Doom command raised = error_token raised ∷ statement_failed kind command ∷ []
told_tokens kind action.Batch command raised = error_token raised ∷ []
told_tokens kind action.BatchAndTransaction command raised = error_token raised ∷ []

-- what it ends
unfoldable pub ended_by : Action → Doing Exit
ended_by action.Statement = over On
ended_by action.Doom = over On
ended_by action.Batch = over End
ended_by action.BatchAndTransaction = rolls_back_told then λ _. over End

abbrev pub told_as : DoneKind → Action → ℕ → Raised → Doing Exit
told_as kind action command raised = makes (sends (told_tokens kind action command raised)) (ended_by action)

-- one that is caught only one level up leaves its procedure or trigger first
abbrev pub way_of : Caught → Raised → Exit
way_of LevelUp raised = RaiseUp raised
way_of other raised = Raise raised

-- one that is caught is not told; it dooms the transaction where it would end it
abbrev pub caught_as : Action → Raised → Doing Exit
caught_as action.Doom raised = makes dooms (over (way_of (base_caught raised.number raised.by) raised))
caught_as action raised = over (way_of (base_caught raised.number raised.by) raised)

-- where it is not caught, an error of more bytes than the batch may still send is one that says so
abbrev pub or_full : Around → SessionProgress → ℕ → ℤ → Raised → Raised
or_full around p command line raised = if is_caught_in around raised then raised
    else if nat_lt p.bytes_left (size_of (told_tokens (done_kind around) (action_in around p.settings.xact_abort raised) command raised)) then raised_in around.procedure line (plain result_full)
    else raised

-- where an error arises
abbrev pub strikes : Around → Bool → ℕ → Raised → Doing Exit
strikes around xact_abort command raised = makes (tells_error raised.number) (if is_caught_in around raised
    then caught_as (action_in around xact_abort raised) raised
    else told_as (done_kind around) (action_in around xact_abort raised) command raised)

-- in a statement of this line and command
unfoldable pub raises_at : Around → ℤ → ℕ → Raised → Doing Exit
raises_at around line command raised = reads λ p. strikes around p.settings.xact_abort command (or_full around p command line raised)

abbrev pub raises : Around → Statement → Raised → Doing Exit
raises around statement raised = raises_at around (line_of statement) (command_of (form_of statement)) raised

-- ---- the end of a statement

-- @@ROWCOUNT is left by IF, WHILE, BREAK, CONTINUE, DECLARE, blocks and TRY, and set by others
abbrev pub leaves_rows : Layer → Bool
leaves_rows (Form-F.If test so otherwise) = true
leaves_rows (Form-F.While test body) = true
leaves_rows Form-F.Break = true
leaves_rows Form-F.Continue = true
leaves_rows (Form-F.Block body) = true
leaves_rows (Form-F.TryCatch body handler) = true
leaves_rows (Form-F.Declare declarations) = true
leaves_rows (Form-F.DeclareCursor name select) = true
leaves_rows form = false

abbrev pub counted : Layer → ℕ → Doing Exit → Doing Exit
counted form rows next = if leaves_rows form then next else makes (tells_rows rows) next

-- it failed
unfoldable pub fails_for : Around → Statement → Failure → Doing Exit
fails_for around statement failure = counted (form_of statement) 0 (raises around statement (raised_in around.procedure (line_of statement) failure))

-- what there is to send
abbrev pub sends_some : List Token → Doing Exit → Doing Exit
sends_some [] next = next
sends_some (token ∷ tokens) next = makes (sends (token ∷ tokens)) next

-- it succeeded: what it assigns, counts and sends
unfoldable pub succeeds : Statement → Effect → Doing Exit → Doing Exit
succeeds statement effect next =
    assigns_all effect.sets (counted (form_of statement) effect.rows (makes (tells_error (pos 0)) (sends_some effect.tokens next)))

-- it goes on by what it came to
abbrev pub concluded : {A : Type 0} → Around → Statement → (A → Doing Exit) → Result A Failure → Doing Exit
concluded around statement go (Ok a) = go a
concluded around statement go (Err failure) = fails_for around statement failure

unfoldable pub concludes : {A : Type 0} → Around → Statement → (A → Doing Exit) → Doing (Result A Failure) → Doing Exit
concludes around statement go work = work then λ came. concluded around statement go came

-- a statement that is done with its effect
unfoldable pub does : Around → Statement → Exit → Doing (Result Effect Failure) → Doing Exit
does around statement exit work = concludes around statement (λ effect. succeeds statement effect (over exit)) work

-- a write by what it came to; where a trigger was left, it is left so, too
abbrev pub written : Around → Statement → Result Effect Stop → Doing Exit
written around statement (Ok effect) = succeeds statement effect (over On)
written around statement (Err (Failed failure)) = fails_for around statement failure
written around statement (Err (Left exit)) = makes (tells_rows 0) (over exit)

-- ---- the end of a call

-- what it sends fits into what the batch may still send
abbrev pub where_it_fits : Around → Statement → List Token → Doing Exit → Doing Exit
where_it_fits around statement tokens next = reads λ p. if nat_lt p.bytes_left (size_of tokens) then fails_for around statement (plain result_full) else next

-- with as many transactions as before
unfoldable pub ends_even : Around → Statement → ℤ → Doing Exit
ends_even around statement status = where_it_fits around statement (procedure_done status) (succeeds statement (sending (procedure_done status)) (over On))

-- With another count: an error of the EXEC, which stands in front of the procedure's end where the batch goes on, and has no DONE. One that is caught is not
-- told.
abbrev pub uneven_with : Bool → Action → List Token → Raised → List Token
uneven_with true action done raised = done
uneven_with false action.Statement done raised = error_token raised ∷ done
uneven_with false action.Doom done raised = error_token raised ∷ done
uneven_with false action.Batch done raised = error_token raised ∷ []
uneven_with false action.BatchAndTransaction done raised = error_token raised ∷ []

abbrev pub uneven_tokens : Bool → Action → ℤ → Raised → List Token
uneven_tokens caught action status raised = uneven_with caught action (procedure_done status) raised

abbrev pub uneven_end : Bool → Action → Raised → Doing Exit
uneven_end true action raised = caught_as action raised
uneven_end false action raised = ended_by action

abbrev pub ends_uneven_as : Around → Statement → ℤ → Raised → Bool → Action → Doing Exit
ends_uneven_as around statement status raised caught action = where_it_fits around statement (uneven_tokens caught action status raised)
    (makes (tells_rows 0) (makes (tells_error raised.number) (makes (sends (uneven_tokens caught action status raised)) (uneven_end caught action raised))))

unfoldable pub ends_uneven : Around → Statement → ℤ → Raised → Doing Exit
ends_uneven around statement status raised = reads λ p.
    ends_uneven_as around statement status raised (is_caught_in around raised) (action_in around p.settings.xact_abort raised)

-- with as many as before, or with the one that a statement of the procedure has begun unseen
abbrev pub is_even : SessionProgress → ℕ → Bool
is_even p count = (p.txn.count == count) || ((p.settings.implicit && (count == 0)) && (p.txn.count == 1))

abbrev pub ends_call : Around → Statement → ℕ → ℤ → Doing Exit
ends_call around statement count status = reads λ p. if is_even p count then ends_even around statement status
    else ends_uneven around statement status (raised_in around.procedure (line_of statement) (plain uneven))

-- what it gives back is assigned first
unfoldable pub gives_back : Around → Statement → Option (List ℕ) → List Argument → Call → ℕ → List Variable → ℤ → Doing Exit
gives_back around statement status arguments call count inner number =
    concludes around statement (λ sets. assigns_all sets (ends_call around statement count number)) (reads λ p. comes_to (given_back p.vars status arguments call number inner))

-- an error on its way, or the batch's end, leaves the call where it is, and no rows are counted
abbrev pub returns_from : Around → Statement → Option (List ℕ) → List Argument → Call → ℕ → List Variable → Exit → Doing Exit
returns_from around statement status arguments call count inner (Raise raised) = makes (tells_rows 0) (over (Raise raised))
returns_from around statement status arguments call count inner (RaiseUp raised) = makes (tells_rows 0) (over (Raise raised))
returns_from around statement status arguments call count inner End = makes (tells_rows 0) (over End)
returns_from around statement status arguments call count inner (Return number) = gives_back around statement status arguments call count inner number
returns_from around statement status arguments call count inner exit = gives_back around statement status arguments call count inner (pos 0)

-- ---- doomed transactions

-- in one that is doomed nothing is written, begun, saved or committed
abbrev pub is_refused_doomed : Layer → Bool
is_refused_doomed (Form-F.Insert table columns rows) = true
is_refused_doomed (Form-F.Update table assignments filter) = true
is_refused_doomed (Form-F.Delete table filter) = true
is_refused_doomed (Form-F.CreateTable table text) = true
is_refused_doomed (Form-F.Drop kind name) = true
is_refused_doomed (Form-F.BeginTransaction name) = true
is_refused_doomed (Form-F.Commit name) = true
is_refused_doomed (Form-F.Save name) = true
is_refused_doomed form = false

-- ---- messages and errors of a batch's own

-- what is no error is sent, and the batch goes on; what is one is raised
abbrev pub raises_or_tells : Around → Statement → Raised → Doing Exit
raises_or_tells around statement raised = if is_message raised then succeeds statement (sending (messages raised)) (over On)
    else counted (form_of statement) 0 (raises around statement raised)

unfoldable pub tells : Around → Statement → Doing Exit
tells around statement = concludes around statement (raises_or_tells around statement) (composes around statement)

-- the error of the CATCH around, if there is one
abbrev pub raises_again : Around → Statement → Option Raised → Doing Exit
raises_again around statement None = fails_for around statement (plain outside_profile)
raises_again around statement (Some raised) = counted (form_of statement) 0 (raises around statement (again raised))

-- ---- options

-- SET of an option
abbrev pub set_by : Around → Statement → Result Settings Failure → Doing Exit
set_by around statement (Ok settings) = makes (sets settings) (succeeds statement no_effect (over On))
set_by around statement (Err failure) = fails_for around statement failure

abbrev pub sets_option : Around → Statement → SessionOption → Doing Exit
sets_option around statement option = reads λ p. set_by around statement (set_option option p.settings)

-- ---- statements that hold statements

-- behind a statement the next comes, unless it left them
abbrev pub goes_on : Doing Exit → Exit → Doing Exit
goes_on next On = next
goes_on next exit = over exit

-- one after another
unfoldable pub each_of : (Statement → Meaning) → List Statement → Meaning
each_of one [] around = over On
each_of one (statement ∷ others) around = one statement around then λ exit. goes_on (each_of one others around) exit

-- how a loop is left behind a turn of it, if it is
abbrev pub turned : Exit → Option Exit
turned On = None
turned Again = None
turned Leave = Some On
turned exit = Some exit

abbrev pub turns_again : Doing Exit → Option Exit → Doing Exit
turns_again again None = again
turns_again again (Some exit) = over exit

-- an error on its way goes to CATCH
abbrev pub handled : (Raised → Doing Exit) → Exit → Doing Exit
handled handler (Raise raised) = handler raised
handled handler exit = over exit

-- a test says whether it is true, and sets @@ERROR
unfoldable pub decides : Around → Statement → (Bool → Doing Exit) → Doing Exit
decides around statement go = concludes around statement (λ holds. makes (tells_error (pos 0)) (go holds)) (tests around statement)

-- by the meaning of one of the statements that a statement holds
module _ (one : Statement → Meaning) where
  -- by its test
  abbrev pub branch : Around → Statement → Option Statement → Bool → Doing Exit
  branch around so otherwise true = one so around
  branch around so None false = over On
  branch around so (Some statement) false = one statement around

  -- each turn is a statement that begins: the WHILE again
  abbrev pub turns : Around → Statement → Statement → Bool → Doing Exit
  turns around statement body true = one body around then λ exit. turns_again (one statement around) (turned exit)
  turns around statement body false = over On

  -- an error of the first statements that is caught runs the others
  unfoldable pub tries : Around → List Statement → List Statement → Doing Exit
  tries around body handler = each_of one body (in_try around) then λ exit. handled (λ raised. each_of one handler (in_catch raised around)) exit

  -- A body runs with variables and settings of its own; those around it come back behind it, however it was left. It is told with which variables.
  unfoldable pub runs_body : List Variable → (Settings → Settings) → List Statement → Around → Doing (Exit × List Variable)
  runs_body vars settings body around = reads λ p. makes (stands_with vars) (makes (sets (settings p.settings)) (each_of one body around then λ exit.
      reads λ inner. makes (stands_with p.vars) (makes (sets p.settings) (over (exit, inner.vars)))))

  -- ---- EXEC

  unfoldable pub runs_call : Around → Statement → Option (List ℕ) → List Argument → Call → Doing Exit
  runs_call around statement status arguments call = reads λ p.
      runs_body (call_vars call) (λ settings. settings) call.procedure.body (in_body call.procedure.name None around) then λ came.
      returns_from around statement status arguments call p.txn.count came.1 came.0

  unfoldable pub calls : Around → Statement → Option (List ℕ) → List ℕ → List Argument → Doing Exit
  calls around statement status name arguments = concludes around statement (runs_call around statement status arguments) (finds_call around statement status name arguments)

  -- ---- triggers

  unfoldable pub runs_trigger : Around → Fired → TriggerTree → Doing Exit
  runs_trigger around fired trigger = runs_body (vars_of trigger.body) in_trigger trigger.body (in_body trigger.name (Some fired) around) then λ came. over came.0

  abbrev pub unless_stopped : Doing (Result (Unit {0}) Stop) → Result (Unit {0}) Stop → Doing (Result (Unit {0}) Stop)
  unless_stopped next (Ok done) = next
  unless_stopped next (Err stop) = over (Err stop)

  -- what they have sent leaves room for what the statement tells
  abbrev pub tells_behind : Effect → SessionProgress → Result (Unit {0}) Stop
  tells_behind effect p = if nat_lt p.bytes_left (size_of effect.tokens) then Err (Failed (plain result_full)) else Ok tt

  -- one after another; the first that stops them is the last
  unfoldable pub runs_triggers : Around → Written → List TriggerTree → Doing (Result (Unit {0}) Stop)
  runs_triggers around w [] = reads λ p. over (tells_behind w.effect p)
  runs_triggers around w (trigger ∷ triggers) = runs_trigger around w.fired trigger then λ exit.
      reads λ p. unless_stopped (runs_triggers around w triggers) (trigger_end exit p)

  unfoldable pub runs_fired : Around → Written → Doing (Result (Unit {0}) Stop)
  runs_fired around w = if nat_le depth_limit around.depth then over (Err (Failed (plain too_deep))) else runs_triggers around w w.fires

  abbrev pub effect_of : Effect → Result (Unit {0}) Stop → Result Effect Stop
  effect_of effect (Ok done) = Ok effect
  effect_of effect (Err stop) = Err stop

  -- Behind a write its locks end, and then its triggers run, before its own transaction ends.
  unfoldable pub fires : Around → Home → Written → Doing (Result Effect Stop)
  fires around home w = relaxes then λ done. room λ enough. if enough
      then (reads λ p. makes (fires_from w.mark) (runs_fired around w then λ came. leaves_fired home w.mark p.stands (is_ok came) then λ done. over (effect_of w.effect came)))
      else (undone_to w.mark true (relaxes_then (closes_own home false)) then λ done. over (Err (Failed (plain no_memory))))

  -- without triggers it is done
  abbrev pub written_with : Around → Home → Written → List TriggerTree → Doing (Result Effect Stop)
  written_with around home w [] = leaves home true then λ done. over (Ok w.effect)
  written_with around home w (trigger ∷ triggers) = fires around home w

  abbrev pub written_in : Around → Home → Result Written Failure → Doing (Result Effect Stop)
  written_in around home (Err failure) = leaves home false then λ done. over (Err (Failed failure))
  written_in around home (Ok w) = written_with around home w w.fires

  abbrev pub writes_in : Around → Statement → Result Home Failure → Doing (Result Effect Stop)
  writes_in around statement (Err failure) = over (Err (Failed failure))
  writes_in around statement (Ok home) = binds around statement (change_bound around) then written_in around home

  unfoldable pub writes : Around → Statement → Doing (Result Effect Stop)
  writes around statement = room λ enough. if enough
      then (enters (asks_any (known_by around statement) (looked_up statement)) then writes_in around statement)
      else over (Err (Failed (plain no_memory)))

  -- a case for each form
  unfoldable pub mean_form : Around → Statement → Layer → Doing Exit
  mean_form around statement (Form-F.If test so otherwise) = decides around statement (branch around so otherwise)
  mean_form around statement (Form-F.While test body) = decides around statement (turns around statement body)
  mean_form around statement Form-F.Break = makes (tells_error (pos 0)) (over Leave)
  mean_form around statement Form-F.Continue = makes (tells_error (pos 0)) (over Again)
  mean_form around statement (Form-F.Block body) = each_of one body around
  mean_form around statement (Form-F.TryCatch body handler) = tries around body handler
  mean_form around statement (Form-F.Print value) = tells around statement
  mean_form around statement (Form-F.RaiseError value class state) = tells around statement
  mean_form around statement (Form-F.Throw number value state) = tells around statement
  mean_form around statement Form-F.ThrowAgain = raises_again around statement around.caught
  -- RETURN leaves the batch, the procedure or the trigger
  mean_form around statement (Form-F.Return value) = concludes around statement (λ status. succeeds statement no_effect (over (Return status))) (statuses around statement)
  mean_form around statement (Form-F.SetOption option) = sets_option around statement option
  mean_form around statement (Form-F.BeginTransaction name) = does around statement On (begins_transaction statement name)
  mean_form around statement (Form-F.Commit name) = does around statement On (commits_transaction name)
  mean_form around statement (Form-F.Rollback name) = does around statement On (rolls_back_transaction name)
  mean_form around statement (Form-F.Save name) = does around statement On (saves_transaction statement name)
  mean_form around statement (Form-F.CreateTable table text) = does around statement On (creates_table around statement table.name text)
  mean_form around statement (Form-F.Drop kind name) = does around statement On (drops around statement kind name)
  mean_form around statement (Form-F.Insert table columns rows) = writes around statement then written around statement
  mean_form around statement (Form-F.Update table assignments filter) = writes around statement then written around statement
  mean_form around statement (Form-F.Delete table filter) = writes around statement then written around statement
  mean_form around statement (Form-F.Execute status name arguments) = calls around statement status name arguments
  mean_form around statement (Form-F.DeclareCursor name select) = does around statement On (declares_cursor statement name select)
  mean_form around statement (Form-F.OpenCursor name) = does around statement On (opens_cursor around statement name)
  mean_form around statement (Form-F.Fetch name variables) = does around statement On (fetches_cursor statement name variables)
  mean_form around statement (Form-F.CloseCursor name) = does around statement On (closes_cursor statement name)
  mean_form around statement (Form-F.Deallocate name) = does around statement On (removes_cursor statement name)
  mean_form around statement (Form-F.Use name) = does around statement On (uses_database around statement name)
  mean_form around statement form = does around statement On (works around statement)

  -- what is refused in a doomed transaction is, before it is bound or asks anything
  unfoldable pub mean_by : Statement → Meaning
  mean_by statement around = reads λ p. if p.txn.doomed && is_refused_doomed (form_of statement)
      then fails_for around statement (plain doomed_write)
      else mean_form around statement (form_of statement)

-- ---- what begins a transaction unseen

-- behind that BEGIN: it is told, and then this comes; or it fails so
abbrev pub behind_unseen : (Failure → Doing Exit) → Doing Exit → Result Effect Failure → Doing Exit
behind_unseen fails next (Ok effect) = makes (sends effect.tokens) next
behind_unseen fails next (Err failure) = fails failure

abbrev pub begins_first : (Failure → Doing Exit) → Doing Exit → SessionProgress → Doing Exit
begins_first fails next p = with_room (begins_outermost None (next_serial p.txn)) then behind_unseen fails next

-- where one is begun unseen, that comes first
unfoldable pub begun_unseen : (SessionProgress → Bool) → (Failure → Doing Exit) → Doing Exit → Doing Exit
begun_unseen wants fails next = reads λ p. if wants p then begins_first fails next p else next

-- ---- statements, as they begin

-- where no statement may begin any more
abbrev pub spends : Statement → Meaning
spends statement around = raises around statement (raised_in around.procedure (line_of statement) (plain statements_spent))

-- A statement counts as it begins. At a level so many may be open one in another; each of them has begun, so the last is never reached
-- where fewer are left.
unfoldable pub mean_of : ℕ → Statement → Meaning
mean_of zero statement around = spends statement around
mean_of (suc levels) statement around = reads λ p. if p.statements_left == 0 then spends statement around
    else makes counts (begun_unseen (λ q. is_unseen q (form_of statement)) (fails_for around statement) (mean_by (λ inner at. mean_of levels inner at) statement around))

abbrev pub meaning : ℕ → List Statement → Meaning
meaning levels statements around = each_of (λ inner at. mean_of levels inner at) statements around

-- ---- batches

-- an error ended the batch
abbrev pub has_failed : Exit → Bool
has_failed End = true
has_failed (Raise raised) = true
has_failed (RaiseUp raised) = true
has_failed exit = false

-- a transaction that is doomed at the end is rolled back, which is told at line 1, in front of a last token
abbrev pub rolls_back_doomed : Token → Doing (Unit {0})
rolls_back_doomed last = makes (sends (error_token (raised_at (pos 1) (plain doomed_at_end)) ∷ [])) (rolls_back_told then λ _. makes (sends (last ∷ [])) (over tt))

unfoldable pub ends_doomed : Doing (Unit {0})
ends_doomed = rolls_back_doomed (batch_done true)

-- the last token says whether an error ended what is over
abbrev pub tells_end : (Bool → Token) → Doing (Unit {0}) → Exit → Doing (Unit {0})
tells_end last doomed exit = reads λ p. if p.txn.doomed then doomed else makes (sends (last (has_failed exit) ∷ [])) (over tt)

-- however it ends, that is told
unfoldable pub ends : Exit → Doing (Unit {0})
ends exit = tells_end batch_done ends_doomed exit

-- ---- definitions

abbrev pub defined : ℤ → Result Effect Failure → Doing Exit
defined line (Ok effect) = makes (tells_rows 0) (makes (tells_error (pos 0)) (over On))
defined line (Err failure) = makes (tells_rows 0) (raises_at around_batch line command_none (raised_at line failure))

unfoldable pub puts_object : ℤ → Definition → List ℕ → Doing Exit
puts_object line of text = reads λ p. if p.txn.doomed then defined line (Err (plain doomed_write)) else (creates_definition of text then defined line)

-- the definition of a procedure or trigger is a batch of one statement, at this line
unfoldable pub defines_object : ℤ → Definition → List ℕ → Doing Exit
defines_object line of text = begun_unseen wants_begin (λ failure. defined line (Err failure)) (puts_object line of text)

-- ---- texts

-- a text that is refused has begun nothing: it ends its batch alone
abbrev pub runs_text : ReadText → Doing Exit
runs_text (text.Statements statements) = meaning statement_limit statements around_batch
runs_text (text.Defines line of units) = defines_object line of units
runs_text (text.Refused line code near) = makes (sends (error_token (raised_at line (naming code near)) ∷ [])) (over End)

abbrev pub vars_in_text : ReadText → List Variable
vars_in_text (text.Statements statements) = vars_of statements
vars_in_text (text.Defines line of units) = []
vars_in_text (text.Refused line code near) = []

-- a batch
unfoldable pub batch : ReadText → Doing (Unit {0})
batch read = makes (begins (vars_in_text read)) (runs_text read then ends)
