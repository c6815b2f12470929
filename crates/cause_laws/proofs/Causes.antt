-- An error of a lock has its cause: by induction on the levels of statements, over trees that tell it in no token while the engine has never replied so. The trees are such for
-- all that is looked for.
use Rattle.std.proofs.Common.{◌≡◌, refl, sym, subst, ℕ, zero, suc, ℤ, pos, List, [], ◌∷◌, Option, Some, None, Bool, true, false, Result, Ok, Err, cond, filter, is_ok, if◌then◌else◌, map, ◌==◌}
use Rattle.std.specs.Prelude.{◌&&◌, nat_le}
use Rattle.tsql_tree.specs.declared.definition.Definition.{Definition}
use Rattle.tsql_tree.specs.declared.definition.Definition.TheVariants.{Procedure}
use Rattle.tsql_tree.specs.declared.definition.ProcedureTree.{ProcedureTree}
use Rattle.bound_tree.specs.declared.write.Bound.{Bound}
use Rattle.tsql_tree.specs.declared.definition.TriggerTree.{TriggerTree}
use Rattle.tsql_tree.specs.declared.option.SessionOption.{SessionOption}
use Rattle.tsql_tree.specs.declared.statement.Argument.{Argument}
use Rattle.tsql_tree.specs.declared.statement.Form.{Form-F}
use Rattle.tsql_tree.specs.declared.statement.Statement.{Statement}
use Rattle.binder.specs.Names.{Layer, form_of, looked_up}
use Rattle.session_vars.specs.declared.Variable.{Variable}
use Rattle.error_table.specs.declared.action.Action.{Action}
use Rattle.error_table.specs.declared.action.Action.TheVariants as act
use Rattle.error_table.specs.declared.action.Caught.{Caught}
use Rattle.error_table.specs.declared.action.Caught.TheVariants.{Yes, LevelUp, No}
use Rattle.error_table.specs.Act.{base_caught}
use Rattle.step_model.specs.declared.op.Op.TheVariants as ops
use Rattle.step_model.specs.Ranges.{no_memory}
use Rattle.txn_rules.specs.State.{is_closed}
use Rattle.tds_tokens.specs.Numbers.{command_none}
use Rattle.tds_tokens.specs.declared.token.DoneKind.{DoneKind}
use Rattle.tds_tokens.specs.declared.token.Token.{Token}
use Rattle.batch_meaning.specs.declared.errand.Errand.{Errand}
use Rattle.batch_meaning.specs.declared.errand.Way.{Way}
use Rattle.batch_meaning.specs.declared.errand.Way.TheVariants as way
use Rattle.batch_meaning.specs.declared.exit.Exit.{Exit}
use Rattle.batch_meaning.specs.declared.exit.Exit.TheVariants.{On, Leave, Again, Return, Raise, RaiseUp, End}
use Rattle.batch_meaning.specs.declared.failure.Failure.{Failure}
use Rattle.batch_meaning.specs.declared.form.ReadText.{ReadText}
use Rattle.batch_meaning.specs.declared.form.ReadText.TheVariants as text
use Rattle.batch_meaning.specs.declared.home.Home.{Home}
use Rattle.batch_meaning.specs.declared.home.Home.TheVariants.{Nowhere, Open, Own}
use Rattle.batch_meaning.specs.declared.raised.Raised.{Raised}
use Rattle.batch_meaning.specs.declared.settings.Settings.{Settings}
use Rattle.batch_meaning.specs.declared.stop.Stop.{Stop}
use Rattle.batch_meaning.specs.declared.stop.Stop.TheVariants.{Failed, Left}
use Rattle.batch_meaning.specs.Asking.{assigns_all, comes_to, fails_naming, where_done, where_ended, with_room}
use Rattle.batch_meaning.specs.Calls.{Call, call_over, call_vars, depth_limit, finds_call, given_back, no_procedure, too_deep, uneven}
use Rattle.batch_meaning.specs.Cursors.{closes_cursor, declares_cursor, fetches_cursor, opens_cursor, removes_cursor}
use Rattle.batch_meaning.specs.Databases.{uses_database}
use Rattle.batch_meaning.specs.Doing.{Doing, asks, makes, over, reads, ◌then◌, Held}
use Rattle.batch_meaning.specs.Failures.{plain}
use Rattle.batch_meaning.specs.Firing.{closes_own, ended_in_trigger, doomed_in_trigger, has_mark, in_trigger, leaves_fired, relaxes_then, settles, trigger_end, undone_to}
use Rattle.batch_meaning.specs.Meaning.{Meaning, batch, begins_first, begun_unseen, behind_unseen, branch, calls, caught_as, concluded, concludes, counted, decides, defined, defines_object, does, doomed_write, each_of, effect_of, ended_by, ends, ends_call, ends_doomed, ends_even, ends_uneven, ends_uneven_as, fails_for, fires, gives_back, goes_on, handled, has_failed, is_even, is_refused_doomed, leaves_rows, line_of, mean_by, mean_form, mean_of, puts_object, raises, raises_again, raises_at, raises_or_tells, returns_from, rolls_back_told, runs_body, runs_call, runs_fired, runs_text, runs_trigger, runs_triggers, sends_some, set_by, sets_option, spends, statements_spent, strikes, succeeds, tells, told_as, told_tokens, told_unless_own, tries, turned, turns, turns_again, uneven_end, uneven_tokens, uneven_with, unless_stopped, vars_in_text, way_of, where_it_fits, writes, writes_in, written, written_in, written_with}
use Rattle.batch_meaning.specs.Rpc.{Placed, ReadsFor, behind_batch, binds_call, defined_in, ending, ends_exec, ends_rpc, ends_rpc_doomed, execs, fails_call, finds_named, finds_read, gives_call_back, goes_on_with, is_output, is_too_many, leaves_body, mismatch, no_statement, object_in, placed_in, return_value, returned, returns_uneven, rpc, rpc_arguments, rpc_statement, rpc_vars, runs_exec, runs_rpc, runs_sql, runs_way, skips_place, strikes_call, tells_returned, tells_unless, tells_well}
use Rattle.batch_meaning.specs.Progress.{SessionProgress, begins, counts, fired_from, fires_from, made, sends, statement_limit, tells_error, tells_rows}
use Rattle.batch_meaning.specs.Raised.{Around, again, action_in, around_batch, error_token, in_body, in_catch, in_try, is_caught_in, raised_at, raised_in}
use Rattle.batch_meaning.specs.Selecting.{Effect, bound_over, messages, no_effect, result_full, sending}
use Rattle.batch_meaning.specs.Settings.{outside_profile, set_option}
use Rattle.batch_meaning.specs.Statements.{vars_of}
use Rattle.batch_meaning.specs.Tokens.{batch_done, command_of, done_kind, procedure_done, rpc_done}
use Rattle.batch_meaning.specs.Transactions.{begins_outermost, begins_transaction, commits_transaction, next_serial, rolls_back_transaction, saves_transaction}
use Rattle.batch_meaning.specs.Unseen.{is_unseen, wants_begin}
use Rattle.batch_meaning.specs.Values.{Assigned, is_message, outside_limits}
use Rattle.batch_meaning.specs.Working.{asks_any, binds, composes, enters, known_by, leaves, relaxes, statuses, tests, works}
use Rattle.batch_meaning.specs.Writes.{Written, change_bound, creates_definition, creates_table, drops, is_odd_procedure}
use Rattle.cause_laws.specs.Causes as law
use Rattle.cause_laws.specs.Causes.{AssignedFails, BatchCauses, CallCauses, StatementCauses}
use Rattle.cause_laws.proofs.Usual.{no_want}
use Rattle.cause_laws.proofs.UsualValues.{Anything, RefusedUsual, UsualOr, assigned_usual, call_usual, option_usual, read_usual}
use Rattle.cause_laws.proofs.Watch.{CaughtBy, CaughtOther, Guard, IsOther, LeavesBy, LeavesOther, TellsBy, TellsNone, TellsOther, Watch}
use Rattle.cause_laws.proofs.Locks.{caught_other, leaves_other, lock_watch, told_none}
use Rattle.cause_laws.proofs.Clean.{Clean, OtherOr, clean_bind, clean_comes, clean_done, clean_ended, clean_enough, clean_if, clean_naming, clean_room, clean_test, clean_then, held_clean, usual_other}
use Rattle.cause_laws.proofs.CleanParts.{EffectOther, Effects, Plainly, RaisesOther, WrittenOther, clean_assigns, clean_binds, clean_bound, clean_call, clean_change, clean_closes, clean_composes, clean_drops, clean_enters, clean_leaves, clean_relaxes, clean_statuses, clean_tests, clean_works, messages_other}
use Rattle.cause_laws.proofs.CleanForms.{clean_begins, clean_commits, clean_create, clean_declares, clean_definition, clean_fetches, clean_opens, clean_outermost, clean_removes, clean_rolls, clean_saves, clean_shuts, clean_uses}

module _ (error : Guard) where
  -- a statement, or what comes of it
  abbrev pub Exits : Doing Exit → Type 0
  Exits tree = Clean error (LeavesOther error) tree

  -- ---- errors

  pub clean_told : Plainly error rolls_back_told
  unfolding rolls_back_told
  clean_told = λ p at. clean_if error Anything p.is_open (asks ops.Rollback (where_ended (told_unless_own p.is_own p.txn.serial))) (over tt) (λ reply says. clean_ended error Anything (told_unless_own p.is_own p.txn.serial) (by_own p.txn.serial p.is_own) reply) tt
    where
      by_own : (serial : ℕ) (is_own : Bool) → Plainly error (told_unless_own is_own serial)
      by_own serial true = tt
      by_own serial false = ((tt, tt), tt)

  clean_ends : (action : Action) → Exits (ended_by action)
  unfolding ended_by
  clean_ends act.Statement = tt
  clean_ends act.Doom = tt
  clean_ends act.Batch = tt
  clean_ends act.BatchAndTransaction = clean_then error Anything (LeavesOther error) rolls_back_told (λ done. over End) clean_told (λ done any. tt)

  told_other : (kind : DoneKind) (action : Action) (command : ℕ) (raised : Raised) → IsOther error raised.number → TellsNone error (told_tokens kind action command raised)
  told_other kind act.Statement command raised other = (other, (error.watch.failed, tt))
  told_other kind act.Doom command raised other = (other, (error.watch.failed, tt))
  told_other kind act.Batch command raised other = (other, tt)
  told_other kind act.BatchAndTransaction command raised other = (other, tt)

  way_other : (caught : Caught) (raised : Raised) → IsOther error raised.number → LeavesOther error (way_of caught raised)
  way_other LevelUp raised other = other
  way_other Yes raised other = other
  way_other No raised other = other

  clean_caught : (action : Action) (raised : Raised) → IsOther error raised.number → Exits (caught_as action raised)
  clean_caught act.Statement raised other = way_other (base_caught raised.number raised.by) raised other
  clean_caught act.Doom raised other = (tt, way_other (base_caught raised.number raised.by) raised other)
  clean_caught act.Batch raised other = way_other (base_caught raised.number raised.by) raised other
  clean_caught act.BatchAndTransaction raised other = way_other (base_caught raised.number raised.by) raised other

  clean_strikes : (around : Around) (xact_abort : Bool) (command : ℕ) (raised : Raised) → IsOther error raised.number → Exits (strikes around xact_abort command raised)
  clean_strikes around xact_abort command raised other = (
    tt,
    clean_if error (LeavesOther error) (is_caught_in around raised) (caught_as (action_in around xact_abort raised) raised) (told_as (done_kind around) (action_in around xact_abort raised) command raised) (clean_caught (action_in around xact_abort raised) raised other)
        (told_other (done_kind around) (action_in around xact_abort raised) command raised other, clean_ends (action_in around xact_abort raised)),
  )

  clean_at : (around : Around) (line : ℤ) (command : ℕ) (raised : Raised) → IsOther error raised.number → Exits (raises_at around line command raised)
  unfolding raises_at
  clean_at around line command raised other = clean_test error (LeavesOther error) (λ p. told_tokens (done_kind around) (action_in around p.settings.xact_abort raised) command raised)
      (λ full p. strikes around p.settings.xact_abort command (if is_caught_in around raised then raised else if full then raised_in around.procedure line (plain result_full) else raised)) (λ bytes q. refl)
      (λ q. clean_strikes around q.settings.xact_abort command (if is_caught_in around raised then raised else raised) (by_caught raised other (is_caught_in around raised)))
      (λ full q. clean_strikes around q.settings.xact_abort command (if is_caught_in around raised then raised else raised_in around.procedure line (plain result_full)) (by_caught (raised_in around.procedure line (plain result_full)) full (is_caught_in around raised)))
    where
      by_caught : (otherwise : Raised) → IsOther error otherwise.number → (caught : Bool) → IsOther error (if caught then raised else otherwise).number
      by_caught otherwise same true = other
      by_caught otherwise same false = same

  pub clean_raises : (around : Around) (statement : Statement) (raised : Raised) → IsOther error raised.number → Exits (raises around statement raised)
  clean_raises around statement raised other = clean_at around (line_of statement) (command_of (form_of statement)) raised other

  -- ---- the end of a statement

  clean_counted : (form : Layer) (rows : ℕ) (next : Doing Exit) → Exits next → Exits (counted form rows next)
  clean_counted form rows next clean = clean_if error (LeavesOther error) (leaves_rows form) next (makes (tells_rows rows) next) clean (tt, clean)

  pub clean_fails : (around : Around) (statement : Statement) (failure : Failure) → IsOther error failure.number → Exits (fails_for around statement failure)
  unfolding fails_for
  clean_fails around statement failure other = clean_counted (form_of statement) 0 (raises around statement (raised_in around.procedure (line_of statement) failure)) (clean_raises around statement (raised_in around.procedure (line_of statement) failure) other)

  clean_sends : (tokens : List Token) (next : Doing Exit) → TellsNone error tokens → Exits next → Exits (sends_some tokens next)
  clean_sends [] next none clean = clean
  clean_sends (token ∷ tokens) next none clean = (none, clean)

  pub clean_succeeds : (statement : Statement) (effect : Effect) (next : Doing Exit) → EffectOther error effect → Exits next → Exits (succeeds statement effect next)
  unfolding succeeds
  clean_succeeds statement effect next other clean = clean_assigns error (LeavesOther error) effect.sets (counted (form_of statement) effect.rows (makes (tells_error (pos 0)) (sends_some effect.tokens next)))
      (clean_counted (form_of statement) effect.rows (makes (tells_error (pos 0)) (sends_some effect.tokens next)) (tt, clean_sends effect.tokens next other clean))

  clean_concludes : {A : Type 0} (P : A → Type 0) (around : Around) (statement : Statement) (go : A → Doing Exit) (work : Doing (Result A Failure)) → Clean error (OtherOr error P) work → ((a : A) → P a → Exits (go a)) → Exits (concludes around statement go work)
  unfolding concludes
  clean_concludes {A = A} P around statement go work clean more = clean_then error (OtherOr error P) (LeavesOther error) work (λ came. concluded around statement go came) clean by_came
    where
      by_came : (came : Result A Failure) → OtherOr error P came → Exits (concluded around statement go came)
      by_came (Ok a) fine = more a fine
      by_came (Err failure) fine = clean_fails around statement failure fine

  clean_does : (around : Around) (statement : Statement) (work : Doing (Result Effect Failure)) → Effects error work → Exits (does around statement On work)
  unfolding does
  clean_does around statement work clean = clean_concludes (EffectOther error) around statement (λ effect. succeeds statement effect (over On)) work clean (λ effect other. clean_succeeds statement effect (over On) other tt)

  -- ---- behind a transaction that is begun unseen

  pub clean_unseen : (wants : SessionProgress → Bool) (fails : Failure → Doing Exit) (next : Doing Exit) → ((failure : Failure) → IsOther error failure.number → Exits (fails failure)) → Exits next → Exits (begun_unseen wants fails next)
  unfolding begun_unseen
  clean_unseen wants fails next failing clean = λ p at. clean_if error (LeavesOther error) (wants p) (begins_first fails next p) next
      (clean_then error (OtherOr error (EffectOther error)) (LeavesOther error) (with_room (begins_outermost None (next_serial p.txn))) (λ came. behind_unseen fails next came)
      (clean_room error (EffectOther error) (begins_outermost None (next_serial p.txn)) (clean_outermost error None (next_serial p.txn))) by_came) clean
    where
      by_came : (came : Result Effect Failure) → OtherOr error (EffectOther error) came → Exits (behind_unseen fails next came)
      by_came (Ok effect) other = (other, clean)
      by_came (Err failure) other = failing failure other

  -- ---- each kind of statement

  clean_tells : (around : Around) (statement : Statement) → Exits (tells around statement)
  unfolding tells
  clean_tells around statement = clean_concludes (RaisesOther error around statement) around statement (raises_or_tells around statement) (composes around statement) (clean_composes error around statement)
      (λ raised other. clean_if error (LeavesOther error) (is_message raised) (succeeds statement (sending (messages raised)) (over On)) (counted (form_of statement) 0 (raises around statement raised))
      (clean_succeeds statement (sending (messages raised)) (over On) (messages_other error raised) tt) (clean_counted (form_of statement) 0 (raises around statement raised) (clean_raises around statement raised other)))

  clean_again : (around : Around) (statement : Statement) (caught : Option Raised) → CaughtOther error caught → Exits (raises_again around statement caught)
  clean_again around statement None other = clean_fails around statement (plain outside_profile) (usual_other error (pos 49004) refl)
  clean_again around statement (Some raised) other = clean_counted (form_of statement) 0 (raises around statement (again raised)) (clean_raises around statement (again raised) other)

  clean_option : (around : Around) (statement : Statement) (option : SessionOption) → Exits (sets_option around statement option)
  clean_option around statement option = λ p at. by_settings (set_option option p.settings) (option_usual option p.settings)
    where
      by_settings : (came : Result Settings Failure) → UsualOr Anything came → Exits (set_by around statement came)
      by_settings (Ok settings) usual = (tt, clean_succeeds statement no_effect (over On) tt tt)
      by_settings (Err failure) usual = clean_fails around statement failure (usual_other error failure.number usual)

  clean_decides : (around : Around) (statement : Statement) (go : Bool → Doing Exit) → ((holds : Bool) → Exits (go holds)) → Exits (decides around statement go)
  unfolding decides
  clean_decides around statement go clean = clean_concludes {A = Bool} Anything around statement (λ holds. makes (tells_error (pos 0)) (go holds)) (tests around statement) (clean_tests error around statement) (λ holds any. (tt, clean holds))

  -- ---- the end of a call

  clean_where : (around : Around) (statement : Statement) (tokens : List Token) (next : Doing Exit) → Exits next → Exits (where_it_fits around statement tokens next)
  clean_where around statement tokens next clean = clean_test error (LeavesOther error) (λ p. tokens) (λ full p. if full then fails_for around statement (plain result_full) else next) (λ bytes q. refl)
      (λ q. clean) (λ other q. clean_fails around statement (plain result_full) other)

  uneven_other : (caught : Bool) (action : Action) (status : ℤ) (raised : Raised) → IsOther error raised.number → TellsNone error (uneven_tokens caught action status raised)
  uneven_other true action status raised other = (tt, (error.watch.more, tt))
  uneven_other false act.Statement status raised other = (other, (tt, (error.watch.more, tt)))
  uneven_other false act.Doom status raised other = (other, (tt, (error.watch.more, tt)))
  uneven_other false act.Batch status raised other = (other, tt)
  uneven_other false act.BatchAndTransaction status raised other = (other, tt)

  clean_uneven : (around : Around) (statement : Statement) (status : ℤ) (raised : Raised) (caught : Bool) (action : Action) → IsOther error raised.number → Exits (ends_uneven_as around statement status raised caught action)
  clean_uneven around statement status raised caught action other = clean_where around statement (uneven_tokens caught action status raised) _ (tt, (tt, (uneven_other caught action status raised other, by_caught caught)))
    where
      by_caught : (caught : Bool) → Exits (uneven_end caught action raised)
      by_caught true = clean_caught action raised other
      by_caught false = clean_ends action

  clean_ends_call : (around : Around) (statement : Statement) (count : ℕ) (status : ℤ) → Exits (ends_call around statement count status)
  unfolding ends_even ends_uneven
  clean_ends_call around statement count status = λ p at. clean_if error (LeavesOther error) (is_even p count) (ends_even around statement status) (ends_uneven around statement status raised)
      (clean_where around statement (procedure_done status) (succeeds statement (sending (procedure_done status)) (over On)) (clean_succeeds statement (sending (procedure_done status)) (over On) (tt, (error.watch.more, tt)) tt))
      (λ q at. clean_uneven around statement status raised (is_caught_in around raised) (action_in around q.settings.xact_abort raised) (usual_other error (pos 266) refl))
    where
      raised : Raised
      raised = raised_in around.procedure (line_of statement) (plain uneven)

  clean_gives_back : (around : Around) (statement : Statement) (variable : Option (List ℕ)) (arguments : List Argument) (call : Call) (count : ℕ) (vars : List Variable) (number : ℤ) → Exits (gives_back around statement variable arguments call count vars number)
  unfolding gives_back
  clean_gives_back around statement variable arguments call count vars number = clean_concludes {A = List Assigned} Anything around statement (λ assigned. assigns_all assigned (ends_call around statement count number)) (reads λ p. comes_to (given_back p.vars variable arguments call number vars))
      (λ p at. clean_comes error {A = List Assigned} Anything (given_back p.vars variable arguments call number vars) (assigned_usual p.vars _ _))
      (λ assigned any. clean_assigns error (LeavesOther error) assigned (ends_call around statement count number) (clean_ends_call around statement count number))

  pub clean_returns : (around : Around) (statement : Statement) (variable : Option (List ℕ)) (arguments : List Argument) (call : Call) (count : ℕ) (vars : List Variable) (came : Exit) → LeavesOther error came → Exits (returns_from around statement variable arguments call count vars came)
  clean_returns around statement variable arguments call count vars (Raise raised) other = (tt, other)
  clean_returns around statement variable arguments call count vars (RaiseUp raised) other = (tt, other)
  clean_returns around statement variable arguments call count vars End other = (tt, tt)
  clean_returns around statement variable arguments call count vars (Return number) other = clean_gives_back around statement variable arguments call count vars number
  clean_returns around statement variable arguments call count vars On other = clean_gives_back around statement variable arguments call count vars (pos 0)
  clean_returns around statement variable arguments call count vars Leave other = clean_gives_back around statement variable arguments call count vars (pos 0)
  clean_returns around statement variable arguments call count vars Again other = clean_gives_back around statement variable arguments call count vars (pos 0)

  -- ---- the end of a write that has fired triggers

  clean_closes_own : (home : Home) (succeeded : Bool) → Plainly error (closes_own home succeeded)
  clean_closes_own Own succeeded = clean_closes error succeeded
  clean_closes_own Open succeeded = tt
  clean_closes_own Nowhere succeeded = tt

  clean_undone : (mark : ℕ) (there : Bool) (next : Doing (Unit {0})) → Plainly error next → Plainly error (undone_to mark there (relaxes_then next))
  unfolding relaxes_then
  clean_undone mark true next clean = λ reply says. clean_done error Anything (asks ops.Relax (where_done next)) (λ other none. clean_done error Anything next clean other) reply
  clean_undone mark false next clean = λ reply says. clean_done error Anything next clean reply

  pub clean_leaving : (home : Home) (mark : ℕ) (stood succeeded : Bool) → Plainly error (leaves_fired home mark stood succeeded)
  unfolding leaves_fired
  clean_leaving home mark stood succeeded = λ p at. clean_then error Anything Anything (if p.stands then settles home mark succeeded p else over tt) (λ done. makes (fired_from mark stood) (over tt))
      (clean_if error Anything p.stands (settles home mark succeeded p) (over tt) (by_end succeeded p) tt) (λ done any. (tt, tt))
    where
      by_end : (succeeded : Bool) (p : SessionProgress) → Plainly error (settles home mark succeeded p)
      by_end true p = clean_leaves error home true
      by_end false p = clean_undone mark (has_mark mark p) (closes_own home false) (clean_closes_own home false)

  -- why a statement that fires triggers goes no further is another error
  abbrev StopOther : Stop → Type 0
  StopOther (Failed failure) = IsOther error failure.number
  StopOther (Left exit) = LeavesOther error exit

  abbrev StopsOr : {A : Type 0} → (A → Type 0) → Result A Stop → Type 0
  StopsOr P (Ok a) = P a
  StopsOr P (Err stop) = StopOther stop

  trigger_other : (exit : Exit) (p : SessionProgress) → LeavesOther error exit → StopsOr {A = Unit {0}} Anything (trigger_end exit p)
  trigger_other exit p other = by_exit exit other
    where
      by_tests : (closed doomed : Bool) → StopsOr {A = Unit {0}} Anything (if closed then Err (Failed (plain ended_in_trigger)) else if doomed then Err (Failed (plain doomed_in_trigger)) else Ok tt)
      by_tests true doomed = usual_other error (pos 3609) refl
      by_tests false true = usual_other error (pos 3616) refl
      by_tests false false = tt

      by_exit : (exit : Exit) → LeavesOther error exit → StopsOr {A = Unit {0}} Anything (trigger_end exit p)
      by_exit (Raise raised) is = is
      by_exit (RaiseUp raised) is = is
      by_exit End is = tt
      by_exit On is = by_tests (is_closed p.txn) p.txn.doomed
      by_exit Leave is = by_tests (is_closed p.txn) p.txn.doomed
      by_exit Again is = by_tests (is_closed p.txn) p.txn.doomed
      by_exit (Return status) is = by_tests (is_closed p.txn) p.txn.doomed

  -- ---- statements that hold statements

  -- where such errors are caught around them, among which are all others
  module _ (Such : Option Raised → Type 0) (others : (raised : Raised) → IsOther error raised.number → Such (Some raised))
      (one : Statement → Meaning) (each : (inner : Statement) (at : Around) → Such at.caught → Exits (one inner at)) where
    clean_on : (next : Doing Exit) → Exits next → (exit : Exit) → LeavesOther error exit → Exits (goes_on next exit)
    clean_on next clean On other = clean
    clean_on next clean Leave other = tt
    clean_on next clean Again other = tt
    clean_on next clean (Return status) other = tt
    clean_on next clean (Raise raised) other = other
    clean_on next clean (RaiseUp raised) other = other
    clean_on next clean End other = tt

    pub clean_all : (statements : List Statement) (around : Around) → Such around.caught → Exits (each_of one statements around)
    unfolding each_of
    clean_all [] around caught = tt
    clean_all (statement ∷ others) around caught = clean_then error (LeavesOther error) (LeavesOther error) (one statement around) (λ exit. goes_on (each_of one others around) exit) (each statement around caught) (clean_on (each_of one others around) (clean_all others around caught))

    clean_handled : (handler : List Statement) (around : Around) (exit : Exit) → LeavesOther error exit → Exits (handled (λ raised. each_of one handler (in_catch raised around)) exit)
    clean_handled handler around (Raise raised) other = clean_all handler (in_catch raised around) (others raised other)
    clean_handled handler around On other = tt
    clean_handled handler around Leave other = tt
    clean_handled handler around Again other = tt
    clean_handled handler around (Return status) other = tt
    clean_handled handler around (RaiseUp raised) other = other
    clean_handled handler around End other = tt

    -- how a body was left
    abbrev BodyOther : Exit × List Variable → Type 0
    BodyOther came = LeavesOther error came.0

    clean_body : (vars : List Variable) (settings : Settings → Settings) (body : List Statement) (around : Around) → Such around.caught → Clean error BodyOther (runs_body one vars settings body around)
    unfolding runs_body
    clean_body vars settings body around caught = λ p at. (tt, (tt, clean_then error (LeavesOther error) BodyOther (each_of one body around) _ (clean_all body around caught) (λ left other inner at. (tt, (tt, other)))))

    -- triggers, one after another
    clean_triggers : (around : Around) (w : Written) (triggers : List TriggerTree) → Such around.caught → Clean error (StopsOr {A = Unit {0}} Anything) (runs_triggers one around w triggers)
    unfolding runs_triggers runs_trigger
    clean_triggers around w [] caught = clean_test error (StopsOr {A = Unit {0}} Anything) (λ p. w.effect.tokens) (λ full p. over (if full then Err (Failed (plain result_full)) else Ok tt)) (λ bytes q. refl)
        (λ q. tt) (λ other q. other)
    clean_triggers around w (trigger ∷ triggers) caught = clean_then error (LeavesOther error) (StopsOr {A = Unit {0}} Anything) (runs_trigger one around w.fired trigger) _
        (clean_then error BodyOther (LeavesOther error) (runs_body one (vars_of trigger.body) in_trigger trigger.body (in_body trigger.name (Some w.fired) around)) (λ came. over came.0)
        (clean_body (vars_of trigger.body) in_trigger trigger.body (in_body trigger.name (Some w.fired) around) caught) (λ came other. other))
        (λ left other p at. by_end (clean_triggers around w triggers caught) (trigger_end left p) (trigger_other left p other))
      where
        by_end : Clean error (StopsOr {A = Unit {0}} Anything) (runs_triggers one around w triggers) → (end : Result (Unit {0}) Stop) → StopsOr {A = Unit {0}} Anything end → Clean error (StopsOr {A = Unit {0}} Anything) (unless_stopped one (runs_triggers one around w triggers) end)
        by_end clean (Ok done) other = clean
        by_end clean (Err stop) other = other

    clean_fired : (around : Around) (w : Written) → Such around.caught → Clean error (StopsOr {A = Unit {0}} Anything) (runs_fired one around w)
    unfolding runs_fired
    clean_fired around w caught = clean_if error (StopsOr {A = Unit {0}} Anything) (nat_le depth_limit around.depth) (over (Err (Failed (plain too_deep)))) (runs_triggers one around w w.fires) (usual_other error (pos 217) refl) (clean_triggers around w w.fires caught)

    clean_fires : (around : Around) (home : Home) (w : Written) → Such around.caught → EffectOther error w.effect → Clean error (StopsOr (EffectOther error)) (fires one around home w)
    unfolding fires
    clean_fires around home w caught other = clean_then error Anything (StopsOr (EffectOther error)) relaxes _ (clean_relaxes error) (λ done any. clean_enough error (StopsOr (EffectOther error)) _ _ goes wanting)
      where
        by_came : (came : Result (Unit {0}) Stop) → StopsOr {A = Unit {0}} Anything came → StopsOr (EffectOther error) (effect_of one w.effect came)
        by_came (Ok done) fine = other
        by_came (Err stop) fine = fine

        goes : Clean error (StopsOr (EffectOther error)) (reads λ p. makes (fires_from w.mark) (runs_fired one around w then λ came. leaves_fired home w.mark p.stands (is_ok came) then λ done. over (effect_of one w.effect came)))
        goes = λ p at. (
          tt,
          clean_then error (StopsOr {A = Unit {0}} Anything) (StopsOr (EffectOther error)) (runs_fired one around w) _ (clean_fired around w caught)
              (λ came fine. clean_then error Anything (StopsOr (EffectOther error)) (leaves_fired home w.mark p.stands (is_ok came)) (λ done. over (effect_of one w.effect came)) (clean_leaving home w.mark p.stands (is_ok came)) (λ done any. by_came came fine)),
        )

        wanting : IsOther error (pos no_memory) → Clean error (StopsOr (EffectOther error)) (undone_to w.mark true (relaxes_then (closes_own home false)) then λ done. over (Err (Failed (plain no_memory))))
        wanting other = clean_then error Anything (StopsOr (EffectOther error)) (undone_to w.mark true (relaxes_then (closes_own home false))) (λ done. over (Err (Failed (plain no_memory)))) (clean_undone w.mark true (closes_own home false) (clean_closes_own home false)) (λ done any. other)

    module _ (around : Around) (statement : Statement) (caught : Such around.caught) where
      clean_with : (home : Home) (w : Written) (triggers : List TriggerTree) → EffectOther error w.effect → Clean error (StopsOr (EffectOther error)) (written_with one around home w triggers)
      clean_with home w [] other = clean_then error Anything (StopsOr (EffectOther error)) (leaves home true) (λ done. over (Ok w.effect)) (clean_leaves error home true) (λ done any. other)
      clean_with home w (trigger ∷ triggers) other = clean_fires around home w caught other

      clean_written_in : (home : Home) (came : Result Written Failure) → OtherOr error (WrittenOther error around) came → Clean error (StopsOr (EffectOther error)) (written_in one around home came)
      clean_written_in home (Err failure) other = clean_then error Anything (StopsOr (EffectOther error)) (leaves home false) (λ done. over (Err (Failed failure))) (clean_leaves error home false) (λ done any. other)
      clean_written_in home (Ok w) other = clean_with home w w.fires other

      clean_writes : Clean error (StopsOr (EffectOther error)) (writes one around statement)
      unfolding writes
      clean_writes = clean_enough error (StopsOr (EffectOther error)) _ (over (Err (Failed (plain no_memory))))
          (clean_then error (OtherOr error {A = Home} Anything) (StopsOr (EffectOther error)) (enters (asks_any (known_by around statement) (looked_up statement))) (writes_in one around statement) (clean_enters error (asks_any (known_by around statement) (looked_up statement))) by_home)
          (λ other. other)
        where
          by_home : (home : Result Home Failure) → OtherOr error {A = Home} Anything home → Clean error (StopsOr (EffectOther error)) (writes_in one around statement home)
          by_home (Err failure) other = other
          by_home (Ok home) any = clean_then error (OtherOr error (WrittenOther error around)) (StopsOr (EffectOther error)) (binds around statement (change_bound around)) (written_in one around home) (clean_binds error (WrittenOther error around) around statement (change_bound around) (clean_change error around)) (clean_written_in home)

      clean_written : (came : Result Effect Stop) → StopsOr (EffectOther error) came → Exits (written around statement came)
      clean_written (Ok effect) other = clean_succeeds statement effect (over On) other tt
      clean_written (Err (Failed failure)) other = clean_fails around statement failure other
      clean_written (Err (Left exit)) other = (tt, other)

      clean_write : Exits (writes one around statement then written around statement)
      clean_write = clean_then error (StopsOr (EffectOther error)) (LeavesOther error) (writes one around statement) (written around statement) clean_writes clean_written

      clean_branch : (so : Statement) (otherwise : Option Statement) (holds : Bool) → Exits (branch one around so otherwise holds)
      clean_branch so otherwise true = each so around caught
      clean_branch so None false = tt
      clean_branch so (Some other) false = each other around caught

      clean_turned : (exit : Exit) → LeavesOther error exit → Exits (turns_again (one statement around) (turned exit))
      clean_turned On other = each statement around caught
      clean_turned Again other = each statement around caught
      clean_turned Leave other = tt
      clean_turned (Return status) other = tt
      clean_turned (Raise raised) other = other
      clean_turned (RaiseUp raised) other = other
      clean_turned End other = tt

      clean_turns : (body : Statement) (holds : Bool) → Exits (turns one around statement body holds)
      clean_turns body true = clean_then error (LeavesOther error) (LeavesOther error) (one body around) (λ exit. turns_again (one statement around) (turned exit)) (each body around caught) clean_turned
      clean_turns body false = tt

      clean_tries : (body handler : List Statement) → Exits (tries one around body handler)
      unfolding tries
      clean_tries body handler = clean_then error (LeavesOther error) (LeavesOther error) (each_of one body (in_try around)) (λ exit. handled (λ raised. each_of one handler (in_catch raised around)) exit) (clean_all body (in_try around) caught) (clean_handled handler around)

      clean_calls : (variable : Option (List ℕ)) (name : List ℕ) (arguments : List Argument) → Exits (calls one around statement variable name arguments)
      unfolding calls runs_call
      clean_calls variable name arguments = clean_concludes {A = Call} Anything around statement (runs_call one around statement variable arguments) (finds_call around statement variable name arguments) (clean_call error around statement variable name arguments)
          (λ call any p at. clean_then error BodyOther (LeavesOther error) (runs_body one (call_vars call) (λ settings. settings) call.procedure.body (in_body call.procedure.name None around)) _ (clean_body (call_vars call) (λ settings. settings) call.procedure.body (in_body call.procedure.name None around) caught)
          (λ came other. clean_returns around statement variable arguments call p.txn.count came.1 came.0 other))

      clean_form : (form : Layer) → (form ≡ Form-F.ThrowAgain → CaughtOther error around.caught) → Exits (mean_form one around statement form)
      unfolding mean_form
      clean_form (Form-F.If test so otherwise) thrown = clean_decides around statement (branch one around so otherwise) (clean_branch so otherwise)
      clean_form (Form-F.While test body) thrown = clean_decides around statement (turns one around statement body) (clean_turns body)
      clean_form Form-F.Break thrown = (tt, tt)
      clean_form Form-F.Continue thrown = (tt, tt)
      clean_form (Form-F.Block body) thrown = clean_all body around caught
      clean_form (Form-F.TryCatch body handler) thrown = clean_tries body handler
      clean_form (Form-F.Print value) thrown = clean_tells around statement
      clean_form (Form-F.RaiseError value class state) thrown = clean_tells around statement
      clean_form (Form-F.Throw number value state) thrown = clean_tells around statement
      clean_form Form-F.ThrowAgain thrown = clean_again around statement around.caught (thrown refl)
      clean_form (Form-F.Return value) thrown = clean_concludes {A = ℤ} Anything around statement (λ status. succeeds statement no_effect (over (Return status))) (statuses around statement) (clean_statuses error around statement) (λ status any. clean_succeeds statement no_effect (over (Return status)) tt tt)
      clean_form (Form-F.SetOption option) thrown = clean_option around statement option
      clean_form (Form-F.BeginTransaction name) thrown = clean_does around statement (begins_transaction statement name) (clean_begins error statement name)
      clean_form (Form-F.Commit name) thrown = clean_does around statement (commits_transaction name) (clean_commits error name)
      clean_form (Form-F.Rollback name) thrown = clean_does around statement (rolls_back_transaction name) (clean_rolls error name)
      clean_form (Form-F.Save name) thrown = clean_does around statement (saves_transaction statement name) (clean_saves error statement name)
      clean_form (Form-F.CreateTable table text) thrown = clean_does around statement (creates_table around statement table.name text) (clean_create error around statement table.name text)
      clean_form (Form-F.Drop kind name) thrown = clean_does around statement (drops around statement kind name) (clean_drops error around statement kind name)
      clean_form (Form-F.Insert table columns rows) thrown = clean_write
      clean_form (Form-F.Update table assignments filter) thrown = clean_write
      clean_form (Form-F.Delete table filter) thrown = clean_write
      clean_form (Form-F.Execute status name arguments) thrown = clean_calls status name arguments
      clean_form (Form-F.DeclareCursor name select) thrown = clean_does around statement (declares_cursor statement name select) (clean_declares error statement name select)
      clean_form (Form-F.OpenCursor name) thrown = clean_does around statement (opens_cursor around statement name) (clean_opens error around statement name)
      clean_form (Form-F.Fetch name variables) thrown = clean_does around statement (fetches_cursor statement name variables) (clean_fetches error statement name variables)
      clean_form (Form-F.CloseCursor name) thrown = clean_does around statement (closes_cursor statement name) (clean_shuts error statement name)
      clean_form (Form-F.Deallocate name) thrown = clean_does around statement (removes_cursor statement name) (clean_removes error statement name)
      clean_form (Form-F.Use name) thrown = clean_does around statement (uses_database around statement name) (clean_uses error around statement name)
      clean_form form thrown = clean_does around statement (works around statement) (clean_works error around statement)

      pub clean_by : (form_of statement ≡ Form-F.ThrowAgain → CaughtOther error around.caught) → Exits (mean_by one statement around)
      unfolding mean_by
      clean_by thrown = λ p at. clean_if error (LeavesOther error) (p.txn.doomed && is_refused_doomed (form_of statement)) (fails_for around statement (plain doomed_write)) (mean_form one around statement (form_of statement)) (clean_fails around statement (plain doomed_write) (usual_other error (pos 3930) refl)) (clean_form (form_of statement) thrown)

  -- ---- batches

  clean_defined : (line : ℤ) (came : Result Effect Failure) → OtherOr error (EffectOther error) came → Exits (defined line came)
  clean_defined line (Ok effect) other = (tt, (tt, tt))
  clean_defined line (Err failure) other = (tt, clean_at around_batch line command_none (raised_at line failure) other)

  clean_puts : (line : ℤ) (of : Definition) (units : List ℕ) → Exits (puts_object line of units)
  unfolding puts_object
  clean_puts line of units = λ p at. clean_if error (LeavesOther error) p.txn.doomed (defined line (Err (plain doomed_write))) (creates_definition of units then defined line) (clean_defined line (Err (plain doomed_write)) (usual_other error (pos 3930) refl))
      (clean_then error (OtherOr error (EffectOther error)) (LeavesOther error) (creates_definition of units) (defined line) (clean_definition error of units) (clean_defined line))

  pub clean_object : (line : ℤ) (of : Definition) (units : List ℕ) → Exits (defines_object line of units)
  unfolding defines_object
  clean_object line of units = clean_unseen (λ p. wants_begin p) (λ failure. defined line (Err failure)) (puts_object line of units) (λ failure other. clean_defined line (Err failure) other) (clean_puts line of units)

  pub clean_end : ((failed : Bool) → TellsOther error (batch_done failed)) → (exit : Exit) → Plainly error (ends exit)
  unfolding ends ends_doomed
  clean_end last exit = λ p at. clean_if error Anything p.txn.doomed ends_doomed (makes (sends (batch_done (has_failed exit) ∷ [])) (over tt))
      ((usual_other error (pos 3998) refl, tt), clean_then error Anything Anything rolls_back_told (λ done. makes (sends (batch_done true ∷ [])) (over tt)) clean_told (λ done any. ((last true, tt), tt)))
      ((last (has_failed exit), tt), tt)

  -- ---- calls by RPC

  clean_strikes_call : (xact_abort : Bool) (raised : Raised) → IsOther error raised.number → Exits (strikes_call xact_abort raised)
  clean_strikes_call xact_abort raised other = (tt, ((other, tt), clean_ends (ending (action_in around_batch xact_abort raised))))

  pub clean_fails_call : (failure : Failure) → IsOther error failure.number → Exits (fails_call failure)
  unfolding fails_call
  clean_fails_call failure other = (
    tt,
    clean_test error (LeavesOther error) (λ p. error_token (raised_at (pos 1) failure) ∷ []) (λ full p. strikes_call p.settings.xact_abort (if full then raised_at (pos 1) (plain result_full) else raised_at (pos 1) failure)) (λ bytes q. refl)
        (λ q. clean_strikes_call q.settings.xact_abort (raised_at (pos 1) failure) other) (λ full q. clean_strikes_call q.settings.xact_abort (raised_at (pos 1) (plain result_full)) full),
  )

  -- what comes to something goes on, or fails
  clean_goes : {A : Type 0} (P : A → Type 0) (go : A → Doing Exit) (work : Doing (Result A Failure)) → Clean error (OtherOr error P) work → ((a : A) → P a → Exits (go a)) → Exits (work then λ came. goes_on_with go came)
  clean_goes {A = A} P go work clean more = clean_then error (OtherOr error P) (LeavesOther error) work (λ came. goes_on_with go came) clean by_came
    where
      by_came : (came : Result A Failure) → OtherOr error P came → Exits (goes_on_with go came)
      by_came (Ok a) fine = more a fine
      by_came (Err failure) fine = clean_fails_call failure fine

  values_none : (vars : List Variable) (placed : List Placed) → TellsNone error (map (return_value vars) (filter is_output placed))
  values_none vars [] = tt
  values_none vars (one ∷ others) = by_output one.1.output (values_none vars others)
    where
      by_output : (b : Bool) → TellsNone error (map (return_value vars) (filter is_output others)) → TellsNone error (map (return_value vars) (cond b (one ∷ filter is_output others) (filter is_output others)))
      by_output true none = (tt, none)
      by_output false none = none

  clean_tells_returned : (number : ℤ) (tokens : List Token) (next : Doing Exit) → TellsNone error tokens → Exits next → Exits (tells_returned number tokens next)
  clean_tells_returned number tokens next none clean = clean_test error (LeavesOther error) (λ p. tokens) (λ full p. if full then fails_call (plain result_full) else makes (tells_rows 0) (makes (tells_error number) (makes (sends tokens) next))) (λ bytes q. refl)
      (λ q. (tt, (tt, (none, clean)))) (λ other q. clean_fails_call (plain result_full) other)

  uneven_none : (action : Action) (tokens : List Token) (raised : Raised) → TellsNone error tokens → IsOther error raised.number → TellsNone error (uneven_with false action tokens raised)
  uneven_none act.Statement tokens raised none other = (other, none)
  uneven_none act.Doom tokens raised none other = (other, none)
  uneven_none act.Batch tokens raised none other = (other, tt)
  uneven_none act.BatchAndTransaction tokens raised none other = (other, tt)

  clean_ends_exec : (call : Errand) (count : ℕ) (status : ℤ) → Exits (ends_exec call count status)
  unfolding ends_exec
  clean_ends_exec call count status = λ p at q also. clean_if error (LeavesOther error) (is_even q count) (tells_returned (pos 0) (returned call p.vars status) (over On)) (returns_uneven (returned call p.vars status) raised (action_in around_batch q.settings.xact_abort raised))
      (clean_tells_returned (pos 0) (returned call p.vars status) (over On) (tt, values_none p.vars (placed_in call)) tt)
      (clean_tells_returned raised.number _ (ended_by (action_in around_batch q.settings.xact_abort raised))
      (uneven_none (action_in around_batch q.settings.xact_abort raised) (returned call p.vars status) raised (tt, values_none p.vars (placed_in call)) (usual_other error (pos 266) refl)) (clean_ends (action_in around_batch q.settings.xact_abort raised)))
    where
      raised : Raised
      raised = raised_at (pos 1) (plain uneven)

  clean_gives_call_back : (call : Errand) (of : Call) (count : ℕ) (inner : List Variable) (status : ℤ) → Exits (gives_call_back call of count inner status)
  unfolding gives_call_back
  clean_gives_call_back call of count inner status = clean_goes {A = List Assigned} Anything (λ sets. assigns_all sets (ends_exec call count status)) (reads λ p. comes_to (given_back p.vars None (rpc_arguments call) of status inner))
      (λ p at. clean_comes error {A = List Assigned} Anything (given_back p.vars None (rpc_arguments call) of status inner) (assigned_usual p.vars _ _))
      (λ sets any. clean_assigns error (LeavesOther error) sets (ends_exec call count status) (clean_ends_exec call count status))

  pub clean_leaves_body : (call : Errand) (of : Call) (count : ℕ) (inner : List Variable) (exit : Exit) → Exits (leaves_body call of count inner exit)
  clean_leaves_body call of count inner (Raise raised) = (tt, tt)
  clean_leaves_body call of count inner (RaiseUp raised) = (tt, tt)
  clean_leaves_body call of count inner End = (tt, tt)
  clean_leaves_body call of count inner (Return status) = clean_gives_call_back call of count inner status
  clean_leaves_body call of count inner On = clean_gives_call_back call of count inner (pos 0)
  clean_leaves_body call of count inner Leave = clean_gives_call_back call of count inner (pos 0)
  clean_leaves_body call of count inner Again = clean_gives_call_back call of count inner (pos 0)

  pub clean_rpc_end : ((failed : Bool) → TellsOther error (rpc_done failed)) → (exit : Exit) → Plainly error (ends_rpc exit)
  unfolding ends_rpc ends_rpc_doomed
  clean_rpc_end last exit = λ p at. clean_if error Anything p.txn.doomed ends_rpc_doomed (makes (sends (rpc_done (has_failed exit) ∷ [])) (over tt))
      ((usual_other error (pos 3998) refl, tt), clean_then error Anything Anything rolls_back_told (λ done. makes (sends (rpc_done true ∷ [])) (over tt)) clean_told (λ done any. ((last true, tt), tt)))
      ((last (has_failed exit), tt), tt)

  pub clean_named : (call : Errand) (name : List ℕ) (object : Option (List ℕ)) → Clean error (OtherOr error {A = Call} Anything) (finds_named call name object)
  clean_named call name None = clean_naming error Call Anything no_procedure name refl
  clean_named call name (Some object) = clean_call error around_batch (rpc_statement object (rpc_arguments call)) None object (rpc_arguments call)

  pub clean_read : (call : Errand) (procedure : Option ProcedureTree) → Clean error (OtherOr error {A = Call} Anything) (finds_read call procedure)
  unfolding binds_call
  clean_read call None = usual_other error (pos 49012) refl
  clean_read call (Some procedure) = clean_if error (OtherOr error {A = Call} Anything) (is_odd_procedure procedure) (over (Err (plain outside_limits))) _ (usual_other error (pos 49007) refl) (clean_room error {A = Call} Anything _ (clean_bind error {A = Bound} {B = Call} Anything Anything (reads λ p. comes_to (bound_over [] p.vars (rpc_statement procedure.name (rpc_arguments call)))) _ (clean_bound error [] (rpc_statement procedure.name (rpc_arguments call)))
      (λ of some p at. clean_comes error {A = Call} Anything (call_over around_batch None procedure.name (rpc_arguments call) p.vars (Some (Procedure procedure))) (call_usual around_batch None procedure.name (rpc_arguments call) p.vars (Some (Procedure procedure))))))

  pub clean_well : (call : Errand) → Exits (tells_well call)
  clean_well call = λ p at. clean_tells_returned (pos 0) (returned call p.vars (pos 0)) (over On) (tt, values_none p.vars (placed_in call)) tt

  -- the EXEC of a call
  module _ (Such : Option Raised → Type 0) (others : (raised : Raised) → IsOther error raised.number → Such (Some raised)) (none : Such None)
      (one : Statement → Meaning) (each : (inner : Statement) (at : Around) → Such at.caught → Exits (one inner at)) where
    -- how a body was left, with its variables
    abbrev CameOther : Exit × List Variable → Type 0
    CameOther came = LeavesOther error came.0

    pub clean_exec : (call : Errand) (of : Call) → Exits (runs_exec one call of)
    unfolding runs_exec
    clean_exec call of = λ p at. clean_then error CameOther (LeavesOther error) (runs_body one (call_vars of) (λ settings. settings) of.procedure.body (in_body of.procedure.name None around_batch)) _
        (clean_body Such others one each (call_vars of) (λ settings. settings) of.procedure.body (in_body of.procedure.name None around_batch) none)
        (λ came other. clean_leaves_body call of p.txn.count came.1 came.0)

    pub clean_by_found : (call : Errand) (finds : Doing (Result Call Failure)) → Clean error (OtherOr error {A = Call} Anything) finds → Exits (execs one call finds)
    clean_by_found call finds clean = clean_goes {A = Call} Anything (runs_exec one call) finds clean (λ of any. clean_exec call of)

  -- ---- by what statements are

  module _ (means : (statement : Statement) (around : Around) → CaughtOther error around.caught → Exits (mean_of statement_limit statement around)) where
    pub clean_text : (read : ReadText) → RefusedUsual read → Exits (runs_text read)
    clean_text (text.Statements statements) usual = clean_all (CaughtOther error) (λ raised other. other) (λ inner at. mean_of statement_limit inner at) (λ inner at is. means inner at is) statements around_batch tt
    clean_text (text.Defines line of units) usual = clean_object line of units
    clean_text (text.Refused line code near) usual = ((usual_other error (pos code) usual, tt), tt)

    clean_execs : (call : Errand) (finds : Doing (Result Call Failure)) → Clean error (OtherOr error {A = Call} Anything) finds → Exits (execs (λ inner at. mean_of statement_limit inner at) call finds)
    clean_execs call finds clean = clean_by_found (CaughtOther error) (λ raised other. other) tt (λ inner at. mean_of statement_limit inner at) (λ inner at is. means inner at is) call finds clean

    clean_sql : (call : Errand) (read : ReadText) → RefusedUsual read → Exits (runs_sql (λ inner at. mean_of statement_limit inner at) call read)
    clean_sql call (text.Statements statements) usual = clean_execs call (finds_read call None) (clean_read call None)
    clean_sql call (text.Defines line of units) usual = clean_execs call (finds_read call (defined_in (text.Defines line of units))) (clean_read call (defined_in (text.Defines line of units)))
    clean_sql call (text.Refused line code near) usual = clean_text (text.Refused line code near) usual

    clean_unless : (call : Errand) (read : ReadText) → RefusedUsual read → Exits (tells_unless call read)
    clean_unless call (text.Statements statements) usual = clean_well call
    clean_unless call (text.Defines line of units) usual = clean_well call
    clean_unless call (text.Refused line code near) usual = clean_text (text.Refused line code near) usual

    clean_behind : (call : Errand) (exit : Exit) → LeavesOther error exit → Exits (behind_batch call exit)
    clean_behind call On other = clean_well call
    clean_behind call Leave other = tt
    clean_behind call Again other = tt
    clean_behind call (Return status) other = tt
    clean_behind call (Raise raised) other = other
    clean_behind call (RaiseUp raised) other = other
    clean_behind call End other = tt

    clean_way : (call : Errand) (read : ReadText) → RefusedUsual read → (of : Way) → Exits (runs_way (λ inner at. mean_of statement_limit inner at) call read of)
    clean_way call read usual (way.LooksUp name) = clean_execs call (finds_named call name (object_in read)) (clean_named call name (object_in read))
    clean_way call read usual (way.RunsRead own) = clean_sql call read usual
    clean_way call read usual way.RunsBatch = clean_then error (LeavesOther error) (LeavesOther error) (runs_text read) (behind_batch call) (clean_text read usual) (clean_behind call)
    clean_way call read usual way.Tells = clean_unless call read usual
    clean_way call read usual way.Unmatched = clean_fails_call mismatch (usual_other error (pos 49012) refl)
    clean_way call read usual (way.Unknown handle) = clean_execs call (fails_naming {A = Call} no_statement handle) (clean_naming error Call Anything no_statement handle refl)

    clean_rpc : (call : Errand) (read : ReadText) → RefusedUsual read → Exits (runs_rpc (λ inner at. mean_of statement_limit inner at) call read)
    unfolding runs_rpc
    clean_rpc call read usual = clean_if error (LeavesOther error) (is_too_many call) (fails_call (plain outside_limits)) _ (clean_fails_call (plain outside_limits) (usual_other error (pos 49007) refl))
        (clean_if error (LeavesOther error) (skips_place call) (fails_call mismatch) _ (clean_fails_call mismatch (usual_other error (pos 49012) refl)) (clean_way call read usual call.way))

-- what is read for a call is refused by a usual error, too
pub called_usual : (units : Option (List ℕ)) (read : ReadText) → ReadsFor units read → RefusedUsual read
called_usual None read is = subst RefusedUsual (sym is) tt
called_usual (Some units) read is = read_usual units read is

-- ---- the cycle

-- A statement of so many levels, where at most so many are left: one that begins leaves one less.
module _ (watch : Watch) where
  abbrev pub at_left : ℕ → Guard
  at_left left = record { watch = watch; left = left }

  pub clean_mean : (levels : ℕ) (statement : Statement) (around : Around) → CaughtBy watch around.caught → Exits (at_left levels) (mean_of levels statement around)
  unfolding mean_of raises_at
  clean_mean zero statement around caught = λ p at. clean_raises (at_left 0) around statement (raised_in around.procedure (line_of statement) (plain statements_spent)) (watch.none_left (LeavesBy watch) p _ at) p at
  clean_mean (suc levels) statement around caught = λ p at. by_left (λ inner so is. clean_mean levels inner so is) p (watch.spent (LeavesBy watch) (suc levels) p _ at) (p.statements_left == 0) refl
    where
      by_left : ((inner : Statement) (so : Around) → CaughtBy watch so.caught → Exits (at_left levels) (mean_of levels inner so)) → (p : SessionProgress) → ((p.statements_left == 0) ≡ true → watch.Other (pos statements_spent))
          → (none : Bool) → (p.statements_left == 0) ≡ none
          → Clean (at_left (suc levels)) (LeavesBy watch) (if none then spends statement around else makes counts (begun_unseen (λ q. is_unseen q (form_of statement)) (fails_for around statement) (mean_by (λ inner at. mean_of levels inner at) statement around)))
      by_left each p spent true is = clean_raises (at_left (suc levels)) around statement (raised_in around.procedure (line_of statement) (plain statements_spent)) (spent is)
      by_left each p spent false is = (
        tt,
        clean_unseen (at_left levels) (λ q. is_unseen q (form_of statement)) (fails_for around statement) (mean_by (λ inner at. mean_of levels inner at) statement around) (λ failure other. clean_fails (at_left levels) around statement failure other)
            (clean_by (at_left levels) (CaughtBy watch) (λ raised other. other) (λ inner at. mean_of levels inner at) each around statement caught (λ is. caught)),
      )

  -- ---- batches and calls, behind their beginning

  pub clean_body_of : (read : ReadText) → RefusedUsual read → Exits (at_left statement_limit) (runs_text read)
  clean_body_of read usual = clean_text (at_left statement_limit) (clean_mean statement_limit) read usual

  pub clean_call_of : (call : Errand) (read : ReadText) → RefusedUsual read → Exits (at_left statement_limit) (runs_rpc (λ inner at. mean_of statement_limit inner at) call read)
  clean_call_of call read usual = clean_rpc (at_left statement_limit) (clean_mean statement_limit) call read usual

  -- with their end
  pub clean_batch : ((failed : Bool) → TellsBy watch (batch_done failed)) → (read : ReadText) → RefusedUsual read → Plainly (at_left statement_limit) (runs_text read then ends)
  clean_batch last read usual = clean_then (at_left statement_limit) (LeavesBy watch) Anything (runs_text read) ends (clean_body_of read usual) (λ exit other. clean_end (at_left statement_limit) last exit)

  pub clean_whole_call : ((failed : Bool) → TellsBy watch (rpc_done failed)) → (call : Errand) (read : ReadText) → RefusedUsual read → Plainly (at_left statement_limit) (runs_rpc (λ inner at. mean_of statement_limit inner at) call read then ends_rpc)
  clean_whole_call last call read usual = clean_then (at_left statement_limit) (LeavesBy watch) Anything (runs_rpc (λ inner at. mean_of statement_limit inner at) call read) ends_rpc (clean_call_of call read usual)
      (λ exit other. clean_rpc_end (at_left statement_limit) last exit)

-- ---- the laws

pub statement_causes : StatementCauses
statement_causes error levels around statement old new exchanges exit caught none held =
    let came = held_clean (lock_watch error) (LeavesBy (lock_watch error)) levels (mean_of levels statement around) old new exchanges exit (λ enough. tt) (λ few q look. tt)
    (clean_mean (lock_watch error) levels statement around (caught_other error around.caught caught)) none held in
    (leaves_other error exit came.0, (came.1.0, came.1.1, told_none error came.1.0 came.1.2))

pub batch_causes : BatchCauses
unfolding batch Held
batch_causes error units read old new exchanges reads_so none held =
    let come = held_clean (lock_watch error) {A = Unit {0}} Anything statement_limit (runs_text read then ends) (made (begins (vars_in_text read)) old) new exchanges tt (λ enough. tt) (λ few q look. tt)
    (clean_batch (lock_watch error) (λ failed. tt) read (read_usual units read reads_so)) none held in
    subst (law.TellsNone error) (sym come.1.1) (told_none error come.1.0 come.1.2)

pub call_causes : CallCauses
unfolding rpc Held
call_causes error call read old new exchanges reads_so none held =
    let come = held_clean (lock_watch error) {A = Unit {0}} Anything statement_limit (runs_rpc (λ inner at. mean_of statement_limit inner at) call read then ends_rpc) (made counts (made (begins (rpc_vars call)) old)) new exchanges tt (λ enough. tt) (λ few q look. tt)
    (clean_whole_call (lock_watch error) (λ failed. tt) call read (called_usual call.text read reads_so)) none held in
    subst (law.TellsNone error) (sym come.1.1) (told_none error come.1.0 come.1.2)

pub assigned_fails : AssignedFails
assigned_fails vars names values failure is = no_want failure.number (subst (UsualOr {A = List Assigned} Anything) is (assigned_usual vars names values))
