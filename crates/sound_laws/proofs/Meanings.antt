-- So does each batch, and each call by RPC: by induction on the levels of its statements. The bodies of procedures and triggers are statements whose tables read back, too.
use Rattle.std.proofs.Common.{◌≡◌, ℕ, zero, suc, ℤ, ◌==◌, not, Bool, true, false, if◌then◌else◌, is_ok, List, [], ◌∷◌, Option, Some, None, Result, Ok, Err, refl, ap}
use Rattle.std.specs.Prelude.{◌&&◌, nat_le, nat_lt, pos}
use Rattle.std.specs.List.{AllByRecursion}
use Rattle.std.specs.Option.{ForSome}
use Rattle.tsql_tree.specs.declared.definition.Definition.{Definition}
use Rattle.tsql_tree.specs.declared.definition.Definition.TheVariants.{Table, Procedure, Trigger}
use Rattle.tsql_tree.specs.declared.definition.ProcedureTree.{ProcedureTree}
use Rattle.tsql_tree.specs.declared.definition.TriggerTree.{TriggerTree}
use Rattle.tsql_tree.specs.declared.option.SessionOption.{SessionOption}
use Rattle.tsql_tree.specs.declared.statement.Argument.{Argument}
use Rattle.tsql_tree.specs.declared.statement.Form.{Form-F}
use Rattle.tsql_tree.specs.declared.statement.Statement.{Statement}
use Rattle.bound_tree.specs.declared.write.Bound.{Bound}
use Rattle.binder.specs.Names.{Layer, form_of, looked_up}
use Rattle.binder.specs.Statements.{is_maybe_long}
use Rattle.error_table.specs.declared.action.Action.{Action}
use Rattle.error_table.specs.declared.action.Action.TheVariants as action
use Rattle.session_vars.specs.declared.Variable.{Variable}
use Rattle.step_model.specs.declared.op.Op.TheVariants as ops
use Rattle.step_model.specs.declared.reply.Reply.{Reply}
use Rattle.step_model.specs.declared.reply.Reply.TheVariants as replies
use Rattle.step_model.specs.Ranges.{no_memory}
use Rattle.txn_rules.specs.declared.state.BackKind.{BackKind}
use Rattle.txn_rules.specs.declared.state.BackKind.TheVariants.{Mark, Whole}
use Rattle.txn_rules.specs.State.{commit_answer, count_limit, is_closed, rollback_answer, save_refusal}
use Rattle.tds_tokens.specs.Numbers.{command_none}
use Rattle.tds_tokens.specs.declared.token.Token.{Token}
use Rattle.batch_meaning.specs.declared.errand.Errand.{Errand}
use Rattle.batch_meaning.specs.declared.errand.Way.{Way}
use Rattle.batch_meaning.specs.declared.errand.Way.TheVariants as way
use Rattle.batch_meaning.specs.declared.exit.Exit.{Exit}
use Rattle.batch_meaning.specs.declared.exit.Exit.TheVariants.{On, Leave, Again, Return, Raise, RaiseUp, End}
use Rattle.batch_meaning.specs.declared.failure.Failure.{Failure}
use Rattle.batch_meaning.specs.declared.form.ReadText.{ReadText}
use Rattle.batch_meaning.specs.declared.form.ReadText.TheVariants as text
use Rattle.batch_meaning.specs.declared.home.Home.{Home}
use Rattle.batch_meaning.specs.declared.home.Home.TheVariants.{Nowhere, Open, Own}
use Rattle.batch_meaning.specs.declared.raised.Raised.{Raised}
use Rattle.batch_meaning.specs.declared.settings.Settings.{Settings}
use Rattle.batch_meaning.specs.declared.stop.Stop.{Stop}
use Rattle.batch_meaning.specs.declared.stop.Stop.TheVariants.{Failed, Left}
use Rattle.batch_meaning.specs.Asking.{assigns_all, comes_to, fails, fails_naming, finds_by, marked, unless_refused, where_begun, where_ended, with_room, ◌>>=◌}
use Rattle.batch_meaning.specs.Calls.{Call, call_over, call_vars, depth_limit, finds_call, given_back, no_procedure, too_deep, uneven}
use Rattle.batch_meaning.specs.Cursors.{closes_cursor, declares_cursor, fetches_cursor, opens_cursor, removes_cursor}
use Rattle.batch_meaning.specs.Databases.{uses_database}
use Rattle.batch_meaning.specs.Doing.{Doing, asks, makes, over, reads, room, ◌then◌}
use Rattle.batch_meaning.specs.Failures.{naming, plain}
use Rattle.batch_meaning.specs.Firing.{closes_own, has_mark, in_trigger, leaves_fired, relaxes_then, settles, trigger_end, undone_to}
use Rattle.batch_meaning.specs.Meaning.{Meaning, batch, begins_first, begun_unseen, behind_unseen, branch, calls, caught_as, concluded, concludes, counted, decides, defined, defines_object, does, doomed_write, each_of, effect_of, ended_by, ends, ends_call, ends_doomed, ends_even, ends_uneven, ends_uneven_as, fails_for, fires, gives_back, goes_on, handled, is_even, is_refused_doomed, leaves_rows, mean_by, mean_form, mean_of, puts_object, raises, raises_again, raises_at, raises_or_tells, returns_from, rolls_back_open, rolls_back_told, runs_body, runs_call, runs_fired, runs_text, runs_trigger, runs_triggers, sends_some, set_by, sets_option, spends, strikes, succeeds, tells, tells_behind, told_as, told_unless_own, tries, turned, turns, turns_again, uneven_end, uneven_tokens, unless_stopped, where_it_fits, writes, writes_in, written, written_in, written_with}
use Rattle.batch_meaning.specs.Rpc.{behind_batch, binds_call, ending, ends_exec, ends_rpc, ends_rpc_doomed, error_or_full, execs, fails_call, finds_named, finds_read as finds_defined, gives_call_back, goes_on_with, is_too_many, leaves_body, mismatch, no_statement, object_in, returned, returns_uneven, rpc, rpc_arguments, rpc_statement, runs_exec, runs_rpc, runs_sql, runs_way, skips_place, tells_returned, tells_unless, tells_well}
use Rattle.batch_meaning.specs.Progress as step
use Rattle.batch_meaning.specs.Progress.{SessionProgress, size_of, statement_limit}
use Rattle.batch_meaning.specs.Raised.{Around, Fired, action_in, around_batch, in_body, in_catch, in_try, is_caught_in, raised_at}
use Rattle.batch_meaning.specs.Selecting.{Effect, bound_over, no_effect, result_full, sending}
use Rattle.batch_meaning.specs.Settings.{outside_profile, set_option}
use Rattle.batch_meaning.specs.Statements.{vars_of}
use Rattle.batch_meaning.specs.Tokens.{done_kind, procedure_done, transaction_begun, transaction_committed, transaction_rolled_back}
use Rattle.batch_meaning.specs.Transactions.{begins_outermost, begins_over, begins_transaction, commits_by, commits_transaction, goes_back, named_first, next_serial, nothing_open, rolls_back_to, rolls_back_transaction, rolls_back_whole, saves_transaction, saves_unless, unless_own}
use Rattle.batch_meaning.specs.Unseen.{is_unseen, wants_begin}
use Rattle.batch_meaning.specs.Values.{is_message, outside_limits}
use Rattle.batch_meaning.specs.Working.{asks_any, binds, composes, enters, known_by, leaves, own, relaxes, statuses, tests, works}
use Rattle.batch_meaning.specs.Writes.{Written, change_bound, creates_definition, creates_table, drops, is_odd_procedure}
use Rattle.statement_paths.proofs.Looking.{finds_read}
use Rattle.statement_paths.proofs.Only.{AnyStep, only_bind, only_comes, only_if, only_naming, only_room, only_then}
use Rattle.sound_laws.specs.Laws.{BatchSound, CallSound, RollbackSound, StatementSound}
use Rattle.sound_laws.specs.Runs.{ErrandReadsBack, Task, TaskReadsBack, tree_of}
use Rattle.sound_laws.specs.Runs.Task.{Runs, Calls}
use Rattle.sound_laws.specs.Stands.{Carries, Stands}
use Rattle.text_laws.specs.Laws.{BodyReadsBack, CallReadsBack, EachIn, Everywhere, ReadsBack, ReadsBackAs, TextReadsBack, Within}
use Rattle.sound_laws.proofs.Bringing.{brings_room, brings_then}
use Rattle.sound_laws.proofs.Cursors.{closes_still, declares_still, fetches_still, first_still, opens_still, own_still, removes_still, uses_still}
use Rattle.sound_laws.proofs.Defining.{defines_carry}
use Rattle.sound_laws.proofs.Statements.{begun_still, bytes_still, carries_if, carries_makes, carries_reads, carries_room, carries_then, change_carry, closes_still as own_closes_still, composes_carry, creates_carry, done_still, drops_carry, ended_still, enters_still, leaves_still, relaxes_still, statuses_carry, tests_carry, works_carry}
use Rattle.sound_laws.proofs.Steps.{IsStill}
use Rattle.sound_laws.proofs.Targets.{target_of}
use Rattle.sound_laws.proofs.Trees.{WritesNothing, carries_still, only_assigns, only_refused, reads_still}
use Rattle.sound_laws.proofs.Yields.{CallBack, FiresBack, TriggerBack, Well, Yields, brings_yields, call_back, call_yields, write_yields, yields_on, yields_room}

-- ---- BEGIN TRANSACTION, COMMIT, ROLLBACK and SAVE TRANSACTION

pub marked_still : {A : Type 0} (next : ℕ → Doing (Result A Failure)) → ((mark : ℕ) → WritesNothing (next mark)) → (reply : Reply) → WritesNothing (marked next reply)
marked_still next still (replies.Marked mark) = still mark
marked_still next still reply = tt

pub outermost_still : (name : Option (List ℕ)) (serial : ℕ) → WritesNothing (begins_outermost name serial)
unfolding begins_outermost
outermost_still name serial =
    bytes_still (transaction_begun serial ∷ []) (with_room (asks ops.Begin (unless_refused (where_begun Begun)))) (only_room AnyStep IsStill (asks ops.Begin (unless_refused (where_begun Begun)))
    (tt, λ reply can. only_refused IsStill (where_begun Begun) (begun_still Begun (tt, tt)) reply))
  where
    Begun : Doing (Result Effect Failure)
    Begun = makes (step.opens name) (over (Ok (sending (transaction_begun serial ∷ []))))

pub begins_still : (statement : Statement) (name : Option (List ℕ)) → WritesNothing (begins_transaction statement name)
unfolding begins_transaction
begins_still statement name = first_still statement (begins_over name)
    (λ p. only_if AnyStep IsStill (not p.is_open) (begins_outermost name (next_serial p.txn)) (if nat_le count_limit p.txn.count then fails outside_profile else makes (step.opens name) (over (Ok no_effect)))
    (outermost_still name (next_serial p.txn)) (only_if AnyStep IsStill (nat_le count_limit p.txn.count) (fails outside_profile) (makes (step.opens name) (over (Ok no_effect))) tt (tt, tt)))

pub named_still : (name : Option (List ℕ)) (go : SessionProgress → Doing (Result Effect Failure)) → ((p : SessionProgress) → WritesNothing (go p)) → WritesNothing (named_first name go)
named_still name go still = only_if AnyStep IsStill (is_maybe_long name) (fails outside_limits) (reads go) tt still

pub commits_still : (name : Option (List ℕ)) → WritesNothing (commits_transaction name)
unfolding commits_transaction
commits_still name = named_still name (λ p. commits_by p (commit_answer p.txn)) (λ p. by_answer p (commit_answer p.txn))
  where
    by_answer : (p : SessionProgress) (answer : Result Bool ℤ) → WritesNothing (commits_by p answer)
    by_answer p (Err number) = tt
    by_answer p (Ok false) = (tt, tt)
    by_answer p (Ok true) = bytes_still (unless_own p.is_own (transaction_committed p.txn.serial)) (asks ops.Commit (where_ended (over (Ok (sending (unless_own p.is_own (transaction_committed p.txn.serial)))))))
        (tt, λ reply can. ended_still (over (Ok (sending (unless_own p.is_own (transaction_committed p.txn.serial))))) tt reply)

pub whole_still : (p : SessionProgress) → WritesNothing (rolls_back_whole p)
unfolding rolls_back_whole
whole_still p = bytes_still (unless_own p.is_own (transaction_rolled_back p.txn.serial)) (asks ops.Rollback (where_ended (over (Ok (sending (unless_own p.is_own (transaction_rolled_back p.txn.serial)))))))
    (tt, λ reply can. ended_still (over (Ok (sending (unless_own p.is_own (transaction_rolled_back p.txn.serial))))) tt reply)

pub back_still : (name : List ℕ) (p : SessionProgress) (answer : Result BackKind ℤ) → WritesNothing (goes_back name p answer)
back_still name p (Err number) = only_room AnyStep IsStill (over (Err (record { number = number; name = Some name }))) tt
back_still name p (Ok Whole) = whole_still p
back_still name p (Ok (Mark mark)) = (tt, λ reply can. done_still (over (Ok no_effect)) tt reply)

pub to_still : (name : Option (List ℕ)) (p : SessionProgress) → WritesNothing (rolls_back_to name p)
to_still None p = only_if AnyStep IsStill (is_closed p.txn) (fails nothing_open) (rolls_back_whole p) tt (whole_still p)
to_still (Some name) p = back_still name p (rollback_answer name p.txn)

pub rolls_still : (name : Option (List ℕ)) → WritesNothing (rolls_back_transaction name)
unfolding rolls_back_transaction
rolls_still name = named_still name (rolls_back_to name) (to_still name)

pub saves_still : (statement : Statement) (name : List ℕ) → WritesNothing (saves_transaction statement name)
unfolding saves_transaction
saves_still statement name = first_still statement (λ p. saves_unless name (save_refusal p.txn)) (λ p. by_refusal (save_refusal p.txn))
  where
    Saved : ℕ → Doing (Result Effect Failure)
    Saved mark = with_room (makes (step.saves name mark) (over (Ok no_effect)))

    by_refusal : (refusal : Option ℤ) → WritesNothing (saves_unless name refusal)
    by_refusal (Some number) = tt
    by_refusal None = only_room AnyStep IsStill (asks ops.Mark (unless_refused (marked Saved)))
        (tt, λ reply can. only_refused IsStill (marked Saved) (marked_still Saved (λ mark. only_room AnyStep IsStill (makes (step.saves name mark) (over (Ok no_effect))) (tt, tt))) reply)

-- ---- errors, and how statements end

pub told_still : WritesNothing rolls_back_told
unfolding rolls_back_told
told_still = λ p. only_if AnyStep IsStill p.is_open (asks ops.Rollback (where_ended (told_unless_own p.is_own p.txn.serial))) (over tt) (tt, λ reply can. ended_still (told_unless_own p.is_own p.txn.serial) (told p.is_own p.txn.serial) reply) tt
  where
    told : (own : Bool) (serial : ℕ) → WritesNothing (told_unless_own own serial)
    told true serial = tt
    told false serial = (tt, tt)

pub open_still : WritesNothing rolls_back_open
unfolding rolls_back_open
open_still = λ p. only_if AnyStep IsStill p.is_open (asks ops.Rollback (where_ended (over tt))) (over tt) (tt, λ reply can. ended_still (over tt) tt reply) tt

pub ended_by_still : (what : Action) → WritesNothing (ended_by what)
unfolding ended_by
ended_by_still action.Statement = tt
ended_by_still action.Doom = tt
ended_by_still action.Batch = tt
ended_by_still action.BatchAndTransaction = only_then AnyStep IsStill rolls_back_told (λ done. over End) told_still (λ done. tt)

pub caught_still : (what : Action) (raised : Raised) → WritesNothing (caught_as what raised)
caught_still action.Doom raised = (tt, tt)
caught_still action.Statement raised = tt
caught_still action.Batch raised = tt
caught_still action.BatchAndTransaction raised = tt

pub strikes_still : (around : Around) (xact_abort : Bool) (command : ℕ) (raised : Raised) → WritesNothing (strikes around xact_abort command raised)
strikes_still around xact_abort command raised =
    (tt, only_if AnyStep IsStill (is_caught_in around raised) (caught_as What raised) (told_as (done_kind around) What command raised) (caught_still What raised) (tt, ended_by_still What))
  where
    What : Action
    What = action_in around xact_abort raised

pub raised_still : (around : Around) (line : ℤ) (command : ℕ) (raised : Raised) → WritesNothing (raises_at around line command raised)
unfolding raises_at
raised_still around line command raised = λ p. strikes_still around p.settings.xact_abort command _

pub raises_still : (around : Around) (statement : Statement) (raised : Raised) → WritesNothing (raises around statement raised)
raises_still around statement raised = raised_still around _ _ raised

pub counted_still : (form : Layer) (rows : ℕ) (next : Doing Exit) → WritesNothing next → WritesNothing (counted form rows next)
counted_still form rows next still = only_if AnyStep IsStill (leaves_rows form) next (makes (step.tells_rows rows) next) still (tt, still)

pub fails_still : (around : Around) (statement : Statement) (failure : Failure) → WritesNothing (fails_for around statement failure)
unfolding fails_for
fails_still around statement failure = counted_still (form_of statement) 0 (raises around statement _) (raises_still around statement _)

pub sends_still : (tokens : List Token) (next : Doing Exit) → WritesNothing next → WritesNothing (sends_some tokens next)
sends_still [] next still = still
sends_still (token ∷ tokens) next still = (tt, still)

pub succeeds_still : (statement : Statement) (effect : Effect) (next : Doing Exit) → WritesNothing next → WritesNothing (succeeds statement effect next)
unfolding succeeds
succeeds_still statement effect next still = only_assigns IsStill effect.sets (counted (form_of statement) effect.rows Last) (counted_still (form_of statement) effect.rows Last (tt, sends_still effect.tokens next still))
  where
    Last : Doing Exit
    Last = makes (step.tells_error (pos 0)) (sends_some effect.tokens next)

-- by what the work came to
concludes_carry : {A : Type 0} (around : Around) (statement : Statement) (go : A → Doing Exit) (work : Doing (Result A Failure)) → Carries work → ((a : A) → Carries (go a)) → Carries (concludes around statement go work)
unfolding concludes
concludes_carry {A} around statement go work first second = carries_then work (λ came. concluded around statement go came) first by_came
  where
    by_came : (came : Result A Failure) → Carries (concluded around statement go came)
    by_came (Ok a) = second a
    by_came (Err failure) = carries_still (fails_for around statement failure) (fails_still around statement failure)

does_carry : (around : Around) (statement : Statement) (exit : Exit) (work : Doing (Result Effect Failure)) → Carries work → Carries (does around statement exit work)
unfolding does
does_carry around statement exit work carries =
    concludes_carry around statement (λ effect. succeeds statement effect (over exit)) work carries (λ effect. carries_still (succeeds statement effect (over exit)) (succeeds_still statement effect (over exit) tt))

tells_carry : (around : Around) (statement : Statement) → Carries (tells around statement)
unfolding tells
tells_carry around statement = concludes_carry around statement (raises_or_tells around statement) (composes around statement) (composes_carry around statement)
    (λ raised. carries_still (raises_or_tells around statement raised) (only_if AnyStep IsStill (is_message raised) (succeeds statement _ (over On)) (counted (form_of statement) 0 (raises around statement raised))
    (succeeds_still statement _ (over On) tt) (counted_still (form_of statement) 0 (raises around statement raised) (raises_still around statement raised))))

pub again_still : (around : Around) (statement : Statement) (caught : Option Raised) → WritesNothing (raises_again around statement caught)
again_still around statement None = fails_still around statement (plain outside_profile)
again_still around statement (Some raised) = counted_still (form_of statement) 0 (raises around statement _) (raises_still around statement _)

pub option_still : (around : Around) (statement : Statement) (option : SessionOption) → WritesNothing (sets_option around statement option)
option_still around statement option = λ p. by_settings (set_option option p.settings)
  where
    by_settings : (came : Result Settings Failure) → WritesNothing (set_by around statement came)
    by_settings (Ok settings) = (tt, succeeds_still statement no_effect (over On) tt)
    by_settings (Err failure) = fails_still around statement failure

decides_carry : (around : Around) (statement : Statement) (go : Bool → Doing Exit) → ((holds : Bool) → Carries (go holds)) → Carries (decides around statement go)
unfolding decides
decides_carry around statement go carries = concludes_carry around statement (λ holds. makes (step.tells_error (pos 0)) (go holds)) (tests around statement) (tests_carry around statement)
    (λ holds. carries_makes (step.tells_error (pos 0)) (go holds) (carries holds))

-- ---- statements one after another

-- whatever stands around a statement
abbrev pub AllCarry : (Statement → Meaning) → Statement → Type 0
AllCarry one statement = (around : Around) → Carries (one statement around)

over_carries : {A : Type 0} (a : A) → Carries (over a)
over_carries a = carries_still (over a) tt

goes_carry : (next : Doing Exit) → Carries next → (exit : Exit) → Carries (goes_on next exit)
goes_carry next carries On = carries
goes_carry next carries Leave = over_carries Leave
goes_carry next carries Again = over_carries Again
goes_carry next carries (Return status) = over_carries (Return status)
goes_carry next carries (Raise raised) = over_carries (Raise raised)
goes_carry next carries (RaiseUp raised) = over_carries (RaiseUp raised)
goes_carry next carries End = over_carries End

each_carry : (one : Statement → Meaning) (statements : List Statement) (around : Around) → AllByRecursion (AllCarry one) statements → Carries (each_of one statements around)
unfolding each_of
each_carry one [] around all = over_carries On
each_carry one (statement ∷ others) around all =
    carries_then (one statement around) (λ exit. goes_on (each_of one others around) exit) (all.0 around) (goes_carry (each_of one others around) (each_carry one others around all.1))

handled_carry : (handler : Raised → Doing Exit) → ((raised : Raised) → Carries (handler raised)) → (exit : Exit) → Carries (handled handler exit)
handled_carry handler carries (Raise raised) = carries raised
handled_carry handler carries On = over_carries On
handled_carry handler carries Leave = over_carries Leave
handled_carry handler carries Again = over_carries Again
handled_carry handler carries (Return status) = over_carries (Return status)
handled_carry handler carries (RaiseUp raised) = over_carries (RaiseUp raised)
handled_carry handler carries End = over_carries End

turned_carry : (again : Doing Exit) → Carries again → (left : Option Exit) → Carries (turns_again again left)
turned_carry again carries None = carries
turned_carry again carries (Some exit) = over_carries exit

-- ---- trees of which more is known

carries_given : {A B : Type 0} (P : A → Type 0) (tree : Doing A) (go : A → Doing B) → Carries tree → Yields P tree → ((a : A) → P a → Carries (go a)) → Carries (tree then go)
carries_given {A} {B} P tree go first yields second session begin log mine tied =
    brings_then log mine (Stands log) tree (λ a before later. Stands log before later × P a) go (λ (b : B). Stands log) (brings_yields log mine (Stands log) tree (λ a. Stands log) P (first session begin log mine tied) yields)
    (λ a before part later p is agree from. second a from.1 session begin log mine tied before part later p is agree from.0)

carries_any : {A : Type 0} (next : Bool → Doing A) → ((enough : Bool) → Carries (next enough)) → Carries (room next)
carries_any {A} next each session begin log mine tied = brings_room log mine (Stands log) next (λ (a : A). Stands log) (λ enough. each enough session begin log mine tied)

-- ---- the end of a call

pub fits_still : (around : Around) (statement : Statement) (tokens : List Token) (next : Doing Exit) → WritesNothing next → WritesNothing (where_it_fits around statement tokens next)
fits_still around statement tokens next still = λ p. only_if AnyStep IsStill (nat_lt p.bytes_left (size_of tokens)) (fails_for around statement (plain result_full)) next (fails_still around statement (plain result_full)) still

pub even_still : (around : Around) (statement : Statement) (status : ℤ) → WritesNothing (ends_even around statement status)
unfolding ends_even
even_still around statement status = fits_still around statement (procedure_done status) (succeeds statement (sending (procedure_done status)) (over On)) (succeeds_still statement (sending (procedure_done status)) (over On) tt)

pub uneven_end_still : (caught : Bool) (what : Action) (raised : Raised) → WritesNothing (uneven_end caught what raised)
uneven_end_still true what raised = caught_still what raised
uneven_end_still false what raised = ended_by_still what

pub uneven_still : (around : Around) (statement : Statement) (status : ℤ) (raised : Raised) → WritesNothing (ends_uneven around statement status raised)
unfolding ends_uneven
uneven_still around statement status raised = λ p. by (is_caught_in around raised) (action_in around p.settings.xact_abort raised)
  where
    by : (caught : Bool) (what : Action) → WritesNothing (ends_uneven_as around statement status raised caught what)
    by caught what = fits_still around statement (uneven_tokens caught what status raised) _ (tt, (tt, (tt, uneven_end_still caught what raised)))

pub call_ends_still : (around : Around) (statement : Statement) (count : ℕ) (status : ℤ) → WritesNothing (ends_call around statement count status)
call_ends_still around statement count status = λ p. only_if AnyStep IsStill (is_even p count) (ends_even around statement status) _ (even_still around statement status) (uneven_still around statement status _)

pub back_given_still : (around : Around) (statement : Statement) (status : Option (List ℕ)) (arguments : List Argument) (call : Call) (count : ℕ) (inner : List Variable) (number : ℤ) → WritesNothing (gives_back around statement status arguments call count inner number)
unfolding gives_back concludes
back_given_still around statement status arguments call count inner number =
    only_then AnyStep IsStill (reads λ p. comes_to (given_back p.vars status arguments call number inner)) _ (λ p. only_comes AnyStep IsStill (given_back p.vars status arguments call number inner)) by_came
  where
    by_came : (came : Result (List _) Failure) → WritesNothing (concluded around statement (λ sets. assigns_all sets (ends_call around statement count number)) came)
    by_came (Ok sets) = only_assigns IsStill sets (ends_call around statement count number) (call_ends_still around statement count number)
    by_came (Err failure) = fails_still around statement failure

pub returns_still : (around : Around) (statement : Statement) (status : Option (List ℕ)) (arguments : List Argument) (call : Call) (count : ℕ) (inner : List Variable) (exit : Exit) → WritesNothing (returns_from around statement status arguments call count inner exit)
returns_still around statement status arguments call count inner (Raise raised) = (tt, tt)
returns_still around statement status arguments call count inner (RaiseUp raised) = (tt, tt)
returns_still around statement status arguments call count inner End = (tt, tt)
returns_still around statement status arguments call count inner (Return number) = back_given_still around statement status arguments call count inner number
returns_still around statement status arguments call count inner On = back_given_still around statement status arguments call count inner (pos 0)
returns_still around statement status arguments call count inner Leave = back_given_still around statement status arguments call count inner (pos 0)
returns_still around statement status arguments call count inner Again = back_given_still around statement status arguments call count inner (pos 0)

-- what is called is looked up
pub finds_call_still : (around : Around) (statement : Statement) (status : Option (List ℕ)) (name : List ℕ) (arguments : List Argument) → WritesNothing (finds_call around statement status name arguments)
unfolding finds_call
finds_call_still around statement status name arguments = only_room AnyStep IsStill (own (asks_any (known_by around statement) (name ∷ [])) Finding) (own_still (asks_any (known_by around statement) (name ∷ [])) Finding
    (only_bind AnyStep IsStill (finds_by (known_by around statement name) name) _ (reads_still (finds_by (known_by around statement name) name) (finds_read (known_by around statement name) name))
    (λ found. only_bind AnyStep IsStill Binding _ (λ p. only_comes AnyStep IsStill (bound_over [] p.vars statement)) (λ of p. only_comes AnyStep IsStill (call_over around status name arguments p.vars found)))))
  where
    Binding : Doing (Result Bound Failure)
    Binding = reads λ p. comes_to (bound_over [] p.vars statement)

    Finding : Doing (Result Call Failure)
    Finding = finds_by (known_by around statement name) name >>= λ found. Binding >>= λ of. reads λ p. comes_to (call_over around status name arguments p.vars found)

-- ---- the end of a write whose triggers have run

pub own_end_still : (home : Home) (succeeded : Bool) → WritesNothing (closes_own home succeeded)
own_end_still Own succeeded = own_closes_still succeeded
own_end_still Open succeeded = tt
own_end_still Nowhere succeeded = tt

pub undone_still : (mark : ℕ) (there : Bool) (next : Doing (Unit {0})) → WritesNothing next → WritesNothing (undone_to mark there next)
undone_still mark true next still = (tt, λ reply can. done_still next still reply)
undone_still mark false next still = still

pub then_relaxed_still : (next : Doing (Unit {0})) → WritesNothing next → WritesNothing (relaxes_then next)
unfolding relaxes_then
then_relaxed_still next still = (tt, λ reply can. done_still next still reply)

pub settles_still : (home : Home) (mark : ℕ) (succeeded : Bool) (p : SessionProgress) → WritesNothing (settles home mark succeeded p)
settles_still home mark true p = leaves_still home true
settles_still home mark false p = undone_still mark (has_mark mark p) (relaxes_then (closes_own home false)) (then_relaxed_still (closes_own home false) (own_end_still home false))

pub fired_left_still : (home : Home) (mark : ℕ) (stood succeeded : Bool) → WritesNothing (leaves_fired home mark stood succeeded)
unfolding leaves_fired
fired_left_still home mark stood succeeded = λ p. only_then AnyStep IsStill (if p.stands then settles home mark succeeded p else over tt) _
    (only_if AnyStep IsStill p.stands (settles home mark succeeded p) (over tt) (settles_still home mark succeeded p) tt) (λ done. (tt, tt))

-- ---- one statement, by those that it holds

module _ (one : Statement → Meaning) (around : Around) (statement : Statement) where
  branch_carry : (so : Statement) (otherwise : Option Statement) → AllCarry one so → ForSome otherwise (AllCarry one) → (holds : Bool) → Carries (branch one around so otherwise holds)
  branch_carry so otherwise first second true = first around
  branch_carry so None first second false = over_carries On
  branch_carry so (Some other) first second false = second other refl around

  turn_carry : (body : Statement) → AllCarry one body → AllCarry one statement → (holds : Bool) → Carries (turns one around statement body holds)
  turn_carry body inner self true = carries_then (one body around) (λ exit. turns_again (one statement around) (turned exit)) (inner around) (λ exit. turned_carry (one statement around) (self around) (turned exit))
  turn_carry body inner self false = over_carries On

  tries_carry : (body handler : List Statement) → AllByRecursion (AllCarry one) body → AllByRecursion (AllCarry one) handler → Carries (tries one around body handler)
  unfolding tries
  tries_carry body handler first second =
      carries_then (each_of one body (in_try around)) (λ exit. handled (λ raised. each_of one handler (in_catch raised around)) exit) (each_carry one body (in_try around) first)
      (handled_carry (λ raised. each_of one handler (in_catch raised around)) (λ raised. each_carry one handler (in_catch raised around) second))

  -- ---- bodies, by the meaning of any statement whose tables read back

  module _ (carry : (inner : Statement) → Everywhere ReadsBack inner → AllCarry one inner) where
    all_back : (body : List Statement) → AllByRecursion (Everywhere ReadsBack) body → AllByRecursion (AllCarry one) body
    all_back [] back = tt
    all_back (first ∷ rest) back = (carry first back.0, all_back rest back.1)

    body_carry : (vars : List Variable) (settings : Settings → Settings) (body : List Statement) (inside : Around) → AllByRecursion (Everywhere ReadsBack) body → Carries (runs_body one vars settings body inside)
    unfolding runs_body
    body_carry vars settings body inside back = carries_reads _ (λ p. carries_makes (step.stands_with vars) _ (carries_makes (step.sets (settings p.settings)) _
        (carries_then (each_of one body inside) _ (each_carry one body inside (all_back body back))
        (λ exit. carries_reads _ (λ inner. carries_makes (step.stands_with p.vars) _ (carries_makes (step.sets p.settings) _ (over_carries (exit, inner.vars))))))))

    -- EXEC
    run_carry : (status : Option (List ℕ)) (arguments : List Argument) (call : Call) → CallBack call → Carries (runs_call one around statement status arguments call)
    unfolding runs_call
    run_carry status arguments call back = carries_reads _ (λ p. carries_then (runs_body one (call_vars call) (λ settings. settings) call.procedure.body (in_body call.procedure.name None around)) _
        (body_carry (call_vars call) (λ settings. settings) call.procedure.body (in_body call.procedure.name None around) back)
        (λ came. carries_still (returns_from around statement status arguments call p.txn.count came.1 came.0) (returns_still around statement status arguments call p.txn.count came.1 came.0)))

    calls_carry : (status : Option (List ℕ)) (name : List ℕ) (arguments : List Argument) → Carries (calls one around statement status name arguments)
    unfolding calls concludes
    calls_carry status name arguments = carries_given (Well CallBack) (finds_call around statement status name arguments) _
        (carries_still (finds_call around statement status name arguments) (finds_call_still around statement status name arguments)) (call_yields around statement status name arguments) by_came
      where
        by_came : (came : Result Call Failure) → Well CallBack came → Carries (concluded around statement (runs_call one around statement status arguments) came)
        by_came (Ok call) back = run_carry status arguments call back
        by_came (Err failure) back = carries_still (fails_for around statement failure) (fails_still around statement failure)

    -- triggers
    trigger_carry : (fired : Fired) (trigger : TriggerTree) → TriggerBack trigger → Carries (runs_trigger one around fired trigger)
    unfolding runs_trigger
    trigger_carry fired trigger back = carries_then (runs_body one (vars_of trigger.body) in_trigger trigger.body (in_body trigger.name (Some fired) around)) _
        (body_carry (vars_of trigger.body) in_trigger trigger.body (in_body trigger.name (Some fired) around) back) (λ came. over_carries came.0)

    stopped_carry : (next : Doing (Result (Unit {0}) Stop)) (came : Result (Unit {0}) Stop) → Carries next → Carries (unless_stopped one next came)
    stopped_carry next (Ok done) carries = carries
    stopped_carry next (Err stop) carries = over_carries (Err stop)

    triggers_carry : (w : Written) (triggers : List TriggerTree) → AllByRecursion TriggerBack triggers → Carries (runs_triggers one around w triggers)
    unfolding runs_triggers
    triggers_carry w [] back = carries_reads _ (λ p. over_carries (tells_behind one w.effect p))
    triggers_carry w (trigger ∷ triggers) back = carries_then (runs_trigger one around w.fired trigger) _ (trigger_carry w.fired trigger back.0)
        (λ exit. carries_reads _ (λ p. stopped_carry (runs_triggers one around w triggers) (trigger_end exit p) (triggers_carry w triggers back.1)))

    fired_carry : (w : Written) → FiresBack w → Carries (runs_fired one around w)
    unfolding runs_fired
    fired_carry w back = carries_if (nat_le depth_limit around.depth) (over (Err (Failed (plain too_deep)))) (runs_triggers one around w w.fires) (over_carries (Err (Failed (plain too_deep)))) (triggers_carry w w.fires back)

    fires_carry : (home : Home) (w : Written) → FiresBack w → Carries (fires one around home w)
    unfolding fires
    fires_carry home w back = carries_then relaxes _ (carries_still relaxes relaxes_still) (λ done. carries_any _ by_room)
      where
        Firing : Doing (Result Effect Stop)
        Firing = reads λ p. makes (step.fires_from w.mark) (runs_fired one around w then λ came. leaves_fired home w.mark p.stands (is_ok came) then λ done. over (effect_of one w.effect came))

        Undoing : Doing (Result Effect Stop)
        Undoing = undone_to w.mark true (relaxes_then (closes_own home false)) then λ done. over (Err (Failed (plain no_memory)))

        firing : Carries Firing
        firing = carries_reads _ (λ p. carries_makes (step.fires_from w.mark) _ (carries_then (runs_fired one around w) _ (fired_carry w back)
            (λ came. carries_then (leaves_fired home w.mark p.stands (is_ok came)) _ (carries_still (leaves_fired home w.mark p.stands (is_ok came)) (fired_left_still home w.mark p.stands (is_ok came))) (λ done. over_carries (effect_of one w.effect came)))))

        undoing : Carries Undoing
        undoing = carries_then (undone_to w.mark true (relaxes_then (closes_own home false))) _
            (carries_still (undone_to w.mark true (relaxes_then (closes_own home false))) (undone_still w.mark true (relaxes_then (closes_own home false)) (then_relaxed_still (closes_own home false) (own_end_still home false))))
            (λ done. over_carries (Err (Failed (plain no_memory))))

        by_room : (enough : Bool) → Carries (if enough then Firing else Undoing)
        by_room true = firing
        by_room false = undoing

    -- a write
    with_carry : (home : Home) (w : Written) → FiresBack w → (triggers : List TriggerTree) → Carries (written_with one around home w triggers)
    with_carry home w back [] = carries_then (leaves home true) _ (carries_still (leaves home true) (leaves_still home true)) (λ done. over_carries (Ok w.effect))
    with_carry home w back (trigger ∷ triggers) = fires_carry home w back

    written_carry : (home : Home) (came : Result Written Failure) → Well FiresBack came → Carries (written_in one around home came)
    written_carry home (Ok w) back = with_carry home w back w.fires
    written_carry home (Err failure) back = carries_then (leaves home false) _ (carries_still (leaves home false) (leaves_still home false)) (λ done. over_carries (Err (Failed failure)))

    writes_carry : (table : List ℕ) → target_of (form_of statement) ≡ Some table → Carries (writes one around statement)
    unfolding writes
    writes_carry table of_form = carries_any _ by_room
      where
        by_home : (home : Result Home Failure) → Carries (writes_in one around statement home)
        by_home (Ok home) = carries_given (Well FiresBack) (binds around statement (change_bound around)) _ (change_carry around statement table of_form) (write_yields around statement) (written_carry home)
        by_home (Err failure) = over_carries (Err (Failed failure))

        by_room : (enough : Bool) → Carries (if enough then (enters (asks_any (known_by around statement) (looked_up statement)) then writes_in one around statement) else over (Err (Failed (plain no_memory))))
        by_room true = carries_then (enters (asks_any (known_by around statement) (looked_up statement))) _ (carries_still (enters (asks_any (known_by around statement) (looked_up statement))) (enters_still (asks_any (known_by around statement) (looked_up statement)))) by_home
        by_room false = over_carries (Err (Failed (plain no_memory)))

    write_carry : (table : List ℕ) → target_of (form_of statement) ≡ Some table → Carries (writes one around statement then written around statement)
    write_carry table of_form = carries_then (writes one around statement) (written around statement) (writes_carry table of_form) by_came
      where
        by_came : (came : Result Effect Stop) → Carries (written around statement came)
        by_came (Ok effect) = carries_still (succeeds statement effect (over On)) (succeeds_still statement effect (over On) tt)
        by_came (Err (Failed failure)) = carries_still (fails_for around statement failure) (fails_still around statement failure)
        by_came (Err (Left exit)) = carries_still (makes (step.tells_rows 0) (over exit)) (tt, tt)

  form_carry : (carry : (inner : Statement) → Everywhere ReadsBack inner → AllCarry one inner) (form : Layer) → form_of statement ≡ form → ReadsBackAs statement form → EachIn (AllCarry one) form → AllCarry one statement → Carries (mean_form one around statement form)
  unfolding mean_form
  form_carry carry (Form-F.If test so otherwise) is back each self = decides_carry around statement (branch one around so otherwise) (branch_carry so otherwise each.0 each.1)
  form_carry carry (Form-F.While test body) is back each self = decides_carry around statement (turns one around statement body) (turn_carry body each self)
  form_carry carry Form-F.Break is back each self = carries_still (makes (step.tells_error (pos 0)) (over Leave)) (tt, tt)
  form_carry carry Form-F.Continue is back each self = carries_still (makes (step.tells_error (pos 0)) (over Again)) (tt, tt)
  form_carry carry (Form-F.Block body) is back each self = each_carry one body around each
  form_carry carry (Form-F.TryCatch body handler) is back each self = tries_carry body handler each.0 each.1
  form_carry carry (Form-F.Print value) is back each self = tells_carry around statement
  form_carry carry (Form-F.RaiseError value class state) is back each self = tells_carry around statement
  form_carry carry (Form-F.Throw number value state) is back each self = tells_carry around statement
  form_carry carry Form-F.ThrowAgain is back each self = carries_still (raises_again around statement around.caught) (again_still around statement around.caught)
  form_carry carry (Form-F.Return value) is back each self = concludes_carry around statement (λ status. succeeds statement no_effect (over (Return status))) (statuses around statement) (statuses_carry around statement)
      (λ status. carries_still (succeeds statement no_effect (over (Return status))) (succeeds_still statement no_effect (over (Return status)) tt))
  form_carry carry (Form-F.SetOption option) is back each self = carries_still (sets_option around statement option) (option_still around statement option)
  form_carry carry (Form-F.BeginTransaction name) is back each self = does_carry around statement On (begins_transaction statement name) (carries_still (begins_transaction statement name) (begins_still statement name))
  form_carry carry (Form-F.Commit name) is back each self = does_carry around statement On (commits_transaction name) (carries_still (commits_transaction name) (commits_still name))
  form_carry carry (Form-F.Rollback name) is back each self = does_carry around statement On (rolls_back_transaction name) (carries_still (rolls_back_transaction name) (rolls_still name))
  form_carry carry (Form-F.Save name) is back each self = does_carry around statement On (saves_transaction statement name) (carries_still (saves_transaction statement name) (saves_still statement name))
  form_carry carry (Form-F.CreateTable table text) is back each self = does_carry around statement On (creates_table around statement table.name text) (creates_carry around statement table text is back)
  form_carry carry (Form-F.Drop kind name) is back each self = does_carry around statement On (drops around statement kind name) (drops_carry around statement kind name is)
  form_carry carry (Form-F.Insert table columns rows) is back each self = write_carry carry table (ap target_of is)
  form_carry carry (Form-F.Update table assignments filter) is back each self = write_carry carry table (ap target_of is)
  form_carry carry (Form-F.Delete table filter) is back each self = write_carry carry table (ap target_of is)
  form_carry carry (Form-F.Execute status name arguments) is back each self = calls_carry carry status name arguments
  form_carry carry (Form-F.DeclareCursor name select) is back each self = does_carry around statement On (declares_cursor statement name select) (carries_still (declares_cursor statement name select) (declares_still statement name select))
  form_carry carry (Form-F.OpenCursor name) is back each self = does_carry around statement On (opens_cursor around statement name) (carries_still (opens_cursor around statement name) (opens_still around statement name))
  form_carry carry (Form-F.Fetch name variables) is back each self = does_carry around statement On (fetches_cursor statement name variables) (carries_still (fetches_cursor statement name variables) (fetches_still statement name variables))
  form_carry carry (Form-F.CloseCursor name) is back each self = does_carry around statement On (closes_cursor statement name) (carries_still (closes_cursor statement name) (closes_still statement name))
  form_carry carry (Form-F.Deallocate name) is back each self = does_carry around statement On (removes_cursor statement name) (carries_still (removes_cursor statement name) (removes_still statement name))
  form_carry carry (Form-F.Use name) is back each self = does_carry around statement On (uses_database around statement name) (carries_still (uses_database around statement name) (uses_still around statement name))
  form_carry carry form is back each self = does_carry around statement On (works around statement) (works_carry around statement)

  by_carry : ((inner : Statement) → Everywhere ReadsBack inner → AllCarry one inner) → ReadsBack statement → EachIn (AllCarry one) (form_of statement) → AllCarry one statement → Carries (mean_by one statement around)
  unfolding mean_by
  by_carry carry back each self = carries_reads (λ p. if p.txn.doomed && is_refused_doomed (form_of statement) then fails_for around statement (plain doomed_write) else mean_form one around statement (form_of statement))
      (λ p. carries_if (p.txn.doomed && is_refused_doomed (form_of statement)) (fails_for around statement (plain doomed_write)) (mean_form one around statement (form_of statement))
      (carries_still (fails_for around statement (plain doomed_write)) (fails_still around statement (plain doomed_write)))
      (form_carry carry (form_of statement) refl back each self))

-- behind a transaction that is begun unseen
unseen_carry : (wants : SessionProgress → Bool) (fails : Failure → Doing Exit) (next : Doing Exit) → ((failure : Failure) → WritesNothing (fails failure)) → Carries next → Carries (begun_unseen wants fails next)
unfolding begun_unseen
unseen_carry wants fails next still carries = carries_reads (λ p. if wants p then begins_first fails next p else next)
    (λ p. carries_if (wants p) (begins_first fails next p) next
    (carries_then (with_room (begins_outermost None (next_serial p.txn))) (λ came. behind_unseen fails next came)
    (carries_room (begins_outermost None (next_serial p.txn)) (carries_still (begins_outermost None (next_serial p.txn)) (outermost_still None (next_serial p.txn)))) by_came) carries)
  where
    by_came : (came : Result Effect Failure) → Carries (behind_unseen fails next came)
    by_came (Ok effect) = carries_makes (step.sends effect.tokens) next carries
    by_came (Err failure) = carries_still (fails failure) (still failure)

-- ---- the cycle

all_every : {A : Type 0} (P : ℕ → A → Type 0) (Q : A → Type 0) (goes : (a : A) → ((levels : ℕ) → P levels a) → Q a) (xs : List A) → ((levels : ℕ) → AllByRecursion (P levels) xs) → AllByRecursion Q xs
all_every P Q goes [] all = tt
all_every P Q goes (x ∷ xs) all = (goes x (λ levels. (all levels).0), all_every P Q goes xs (λ levels. (all levels).1))

some_every : {A : Type 0} (P : ℕ → A → Type 0) (Q : A → Type 0) (goes : (a : A) → ((levels : ℕ) → P levels a) → Q a) (o : Option A) → ((levels : ℕ) → ForSome o (P levels)) → ForSome o Q
some_every P Q goes o all = λ x is. goes x (λ levels. all levels x is)

-- what holds of each statement that a form holds, at all levels
each_every : (P : ℕ → Statement → Type 0) (Q : Statement → Type 0) (goes : (inner : Statement) → ((levels : ℕ) → P levels inner) → Q inner) (form : Layer) → ((levels : ℕ) → EachIn (P levels) form) → EachIn Q form
each_every P Q goes (Form-F.If test so otherwise) each = (goes so (λ levels. (each levels).0), some_every P Q goes otherwise (λ levels. (each levels).1))
each_every P Q goes (Form-F.While test body) each = goes body each
each_every P Q goes (Form-F.Block body) each = all_every P Q goes body each
each_every P Q goes (Form-F.TryCatch body handler) each = (all_every P Q goes body (λ levels. (each levels).0), all_every P Q goes handler (λ levels. (each levels).1))
each_every P Q goes form each = tt

spends_carry : (statement : Statement) (around : Around) → Carries (spends statement around)
spends_carry statement around = carries_still (spends statement around) (raises_still around statement _)

pub mean_carry : (levels : ℕ) (statement : Statement) → Everywhere ReadsBack statement → AllCarry (λ inner at. mean_of levels inner at) statement
unfolding mean_of
mean_carry zero statement back around = spends_carry statement around
mean_carry (suc levels) statement back around =
    carries_reads (λ p. if p.statements_left == 0 then spends statement around else makes step.counts Begun)
    (λ p. carries_if (p.statements_left == 0) (spends statement around) (makes step.counts Begun) (spends_carry statement around)
    (carries_makes step.counts Begun
    (unseen_carry (λ q. is_unseen q (form_of statement)) (fails_for around statement) (mean_by (λ inner at. mean_of levels inner at) statement around) (λ failure. fails_still around statement failure)
    (by_carry (λ inner at. mean_of levels inner at) around statement (mean_carry levels) (back 1).0
    (each_every (λ levels inner. Within levels ReadsBack inner) (AllCarry (λ inner at. mean_of levels inner at)) (λ inner each. mean_carry levels inner each) (form_of statement) (λ levels. (back (suc levels)).1))
    (mean_carry levels statement back)))))
  where
    Begun : Doing Exit
    Begun = begun_unseen (λ q. is_unseen q (form_of statement)) (fails_for around statement) (mean_by (λ inner at. mean_of levels inner at) statement around)

all_carry : (levels : ℕ) (statements : List Statement) → AllByRecursion (Everywhere ReadsBack) statements → AllByRecursion (AllCarry (λ inner at. mean_of levels inner at)) statements
all_carry levels [] back = tt
all_carry levels (statement ∷ others) back = (mean_carry levels statement back.0, all_carry levels others back.1)

-- ---- batches

pub ends_still : (exit : Exit) → WritesNothing (ends exit)
unfolding ends ends_doomed
ends_still exit = λ p. only_if AnyStep IsStill p.txn.doomed ends_doomed (makes (step.sends _) (over tt))
    (tt, only_then AnyStep IsStill rolls_back_told (λ done. makes (step.sends _) (over tt)) told_still (λ done. (tt, tt))) (tt, tt)

pub defined_still : (line : ℤ) (came : Result Effect Failure) → WritesNothing (defined line came)
defined_still line (Ok effect) = (tt, (tt, tt))
defined_still line (Err failure) = (tt, raised_still around_batch line command_none _)

puts_carry : (line : ℤ) (of : Definition) (kept : List ℕ) → TextReadsBack (text.Defines line of kept) → Carries (puts_object line of kept)
unfolding puts_object
puts_carry line of kept back = carries_reads _ (λ p. carries_if p.txn.doomed (defined line (Err (plain doomed_write))) (creates_definition of kept then defined line) (carries_still (defined line (Err (plain doomed_write))) (defined_still line (Err (plain doomed_write))))
    (carries_then (creates_definition of kept) (defined line) (defines_carry of kept back) (λ came. carries_still (defined line came) (defined_still line came))))

object_carry : (line : ℤ) (of : Definition) (kept : List ℕ) → TextReadsBack (text.Defines line of kept) → Carries (defines_object line of kept)
unfolding defines_object
object_carry line of kept back = unseen_carry (λ p. wants_begin p) (λ failure. defined line (Err failure)) (puts_object line of kept) (λ failure. defined_still line (Err failure)) (puts_carry line of kept back)

text_carry : (read : ReadText) → TextReadsBack read → Carries (runs_text read)
text_carry (text.Statements statements) back = each_carry (λ inner at. mean_of statement_limit inner at) statements around_batch (all_carry statement_limit statements back)
text_carry (text.Defines line of kept) back = object_carry line of kept back
text_carry (text.Refused line code near) back = carries_still (runs_text (text.Refused line code near)) (tt, tt)

-- what a batch asks keeps what stands
pub batch_carry : (read : ReadText) → TextReadsBack read → Carries (batch read)
unfolding batch
batch_carry read back = carries_makes (step.begins _) (runs_text read then ends) (carries_then (runs_text read) ends (text_carry read back) (λ exit. carries_still (ends exit) (ends_still exit)))

-- ---- calls by RPC

pub fails_call_still : (failure : Failure) → WritesNothing (fails_call failure)
unfolding fails_call
fails_call_still failure = (tt, λ p. (tt, (tt, ended_by_still (ending (action_in around_batch p.settings.xact_abort (error_or_full p (raised_at (pos 1) failure)))))))

pub returned_still : (number : ℤ) (tokens : List Token) (next : Doing Exit) → WritesNothing next → WritesNothing (tells_returned number tokens next)
returned_still number tokens next still = λ p. only_if AnyStep IsStill (nat_lt p.bytes_left (size_of tokens)) (fails_call (plain result_full)) (makes (step.tells_rows 0) (makes (step.tells_error number) (makes (step.sends tokens) next)))
    (fails_call_still (plain result_full)) (tt, (tt, (tt, still)))

pub exec_ends_still : (call : Errand) (count : ℕ) (status : ℤ) → WritesNothing (ends_exec call count status)
unfolding ends_exec
exec_ends_still call count status = λ p q. only_if AnyStep IsStill (is_even q count) (tells_returned (pos 0) (returned call p.vars status) (over On)) (returns_uneven (returned call p.vars status) raised (action_in around_batch q.settings.xact_abort raised))
    (returned_still (pos 0) (returned call p.vars status) (over On) tt) (returned_still raised.number _ (ended_by (action_in around_batch q.settings.xact_abort raised)) (ended_by_still (action_in around_batch q.settings.xact_abort raised)))
  where
    raised : Raised
    raised = raised_at (pos 1) (plain uneven)

pub gives_call_still : (call : Errand) (of : Call) (count : ℕ) (inner : List Variable) (status : ℤ) → WritesNothing (gives_call_back call of count inner status)
unfolding gives_call_back
gives_call_still call of count inner status = only_then AnyStep IsStill (reads λ p. comes_to (given_back p.vars None (rpc_arguments call) of status inner)) _ (λ p. only_comes AnyStep IsStill (given_back p.vars None (rpc_arguments call) of status inner)) by_came
  where
    by_came : (came : Result (List _) Failure) → WritesNothing (goes_on_with (λ sets. assigns_all sets (ends_exec call count status)) came)
    by_came (Ok sets) = only_assigns IsStill sets (ends_exec call count status) (exec_ends_still call count status)
    by_came (Err failure) = fails_call_still failure

pub leaves_still_call : (call : Errand) (of : Call) (count : ℕ) (inner : List Variable) (exit : Exit) → WritesNothing (leaves_body call of count inner exit)
leaves_still_call call of count inner (Raise raised) = (tt, tt)
leaves_still_call call of count inner (RaiseUp raised) = (tt, tt)
leaves_still_call call of count inner End = (tt, tt)
leaves_still_call call of count inner (Return status) = gives_call_still call of count inner status
leaves_still_call call of count inner On = gives_call_still call of count inner (pos 0)
leaves_still_call call of count inner Leave = gives_call_still call of count inner (pos 0)
leaves_still_call call of count inner Again = gives_call_still call of count inner (pos 0)

module _ (call : Errand) where
  exec_carry : (of : Call) → CallBack of → Carries (runs_exec (λ inner at. mean_of statement_limit inner at) call of)
  unfolding runs_exec
  exec_carry of back = carries_reads _ (λ p. carries_then (runs_body (λ inner at. mean_of statement_limit inner at) (call_vars of) (λ settings. settings) of.procedure.body (in_body of.procedure.name None around_batch)) _
      (body_carry (λ inner at. mean_of statement_limit inner at) around_batch (rpc_statement of.procedure.name (rpc_arguments call)) (mean_carry statement_limit) (call_vars of) (λ settings. settings) of.procedure.body (in_body of.procedure.name None around_batch) back)
      (λ came. carries_still (leaves_body call of p.txn.count came.1 came.0) (leaves_still_call call of p.txn.count came.1 came.0)))

  execs_carry : (finds : Doing (Result Call Failure)) → Carries finds → Yields (Well CallBack) finds → Carries (execs (λ inner at. mean_of statement_limit inner at) call finds)
  execs_carry finds carries yields = carries_given (Well CallBack) finds _ carries yields by_came
    where
      by_came : (came : Result Call Failure) → Well CallBack came → Carries (goes_on_with (runs_exec (λ inner at. mean_of statement_limit inner at) call) came)
      by_came (Ok of) back = exec_carry of back
      by_came (Err failure) back = carries_still (fails_call failure) (fails_call_still failure)

  naming_carry : (number : ℕ) (name : List ℕ) → Carries (execs (λ inner at. mean_of statement_limit inner at) call (fails_naming number name))
  naming_carry number name = execs_carry (fails_naming number name) (carries_still (fails_naming {A = Call} number name) (only_naming AnyStep IsStill Call number name)) by_room
    where
      by_room : (enough : Bool) → Yields (Well CallBack) (if enough then over (Err (naming number name)) else fails no_memory)
      by_room true = tt
      by_room false = tt

  named_carry : (name : List ℕ) (object : Option (List ℕ)) → Carries (execs (λ inner at. mean_of statement_limit inner at) call (finds_named call name object))
  named_carry name None = naming_carry no_procedure name
  named_carry name (Some object) = execs_carry (finds_named call name (Some object))
      (carries_still (finds_call around_batch (rpc_statement object (rpc_arguments call)) None object (rpc_arguments call)) (finds_call_still around_batch (rpc_statement object (rpc_arguments call)) None object (rpc_arguments call)))
      (call_yields around_batch (rpc_statement object (rpc_arguments call)) None object (rpc_arguments call))

  pub binds_still : (procedure : ProcedureTree) → WritesNothing (finds_defined call (Some procedure))
  unfolding binds_call
  binds_still procedure = only_if AnyStep IsStill (is_odd_procedure procedure) (over (Err (plain outside_limits))) _ tt (only_room AnyStep IsStill _ (only_bind AnyStep IsStill (reads λ p. comes_to (bound_over [] p.vars (rpc_statement procedure.name (rpc_arguments call)))) _
      (λ p. only_comes AnyStep IsStill (bound_over [] p.vars (rpc_statement procedure.name (rpc_arguments call))))
      (λ of p. only_comes AnyStep IsStill (call_over around_batch None procedure.name (rpc_arguments call) p.vars (Some (Procedure procedure))))))

  binds_yield : (procedure : ProcedureTree) → BodyReadsBack (Procedure procedure) → Yields (Well CallBack) (finds_defined call (Some procedure))
  unfolding binds_call
  binds_yield procedure back = by_limits (is_odd_procedure procedure)
    where
      within : Yields (Well CallBack) (binds_call (rpc_statement procedure.name (rpc_arguments call)) (rpc_arguments call) procedure)
      within = yields_room CallBack _ (yields_on CallBack (reads λ p. comes_to (bound_over [] p.vars (rpc_statement procedure.name (rpc_arguments call)))) _
          (λ of p. yields_room CallBack (over (call_over around_batch None procedure.name (rpc_arguments call) p.vars (Some (Procedure procedure)))) (call_back around_batch None procedure.name (rpc_arguments call) p.vars (Some (Procedure procedure)) back)))

      by_limits : (odd : Bool) → Yields (Well CallBack) (if odd then over (Err (plain outside_limits)) else binds_call (rpc_statement procedure.name (rpc_arguments call)) (rpc_arguments call) procedure)
      by_limits true = tt
      by_limits false = within

  -- where no procedure was read
  unread_carry : Carries (execs (λ inner at. mean_of statement_limit inner at) call (finds_defined call None))
  unread_carry = execs_carry (finds_defined call None) (over_carries {A = Result Call Failure} (Err mismatch)) tt

  read_carry : (read : ReadText) → CallReadsBack read → Carries (runs_sql (λ inner at. mean_of statement_limit inner at) call read)
  read_carry (text.Statements statements) back = unread_carry
  read_carry (text.Defines line (Table table) kept) back = unread_carry
  read_carry (text.Defines line (Procedure procedure) kept) back = execs_carry (finds_defined call (Some procedure)) (carries_still (finds_defined call (Some procedure)) (binds_still procedure)) (binds_yield procedure back)
  read_carry (text.Defines line (Trigger trigger) kept) back = unread_carry
  read_carry (text.Refused line code near) back = carries_still (runs_text (text.Refused line code near)) (tt, tt)

  -- ---- where no procedure is run

  pub well_still : WritesNothing (tells_well call)
  well_still = λ p. returned_still (pos 0) (returned call p.vars (pos 0)) (over On) tt

  pub unless_still : (read : ReadText) → WritesNothing (tells_unless call read)
  unless_still (text.Statements statements) = well_still
  unless_still (text.Defines line of kept) = well_still
  unless_still (text.Refused line code near) = (tt, tt)

  pub behind_still : (exit : Exit) → WritesNothing (behind_batch call exit)
  behind_still On = well_still
  behind_still Leave = tt
  behind_still Again = tt
  behind_still (Return status) = tt
  behind_still (Raise raised) = tt
  behind_still (RaiseUp raised) = tt
  behind_still End = tt

  way_carry : (read : ReadText) (of : Way) → ErrandReadsBack of read → Carries (runs_way (λ inner at. mean_of statement_limit inner at) call read of)
  way_carry read (way.LooksUp name) back = named_carry name (object_in read)
  way_carry read (way.RunsRead many) back = read_carry read back
  way_carry read way.RunsBatch back = carries_then (runs_text read) (behind_batch call) (text_carry read back) (λ exit. carries_still (behind_batch call exit) (behind_still exit))
  way_carry read way.Tells back = carries_still (tells_unless call read) (unless_still read)
  way_carry read way.Unmatched back = carries_still (fails_call mismatch) (fails_call_still mismatch)
  way_carry read (way.Unknown handle) back = naming_carry no_statement handle

pub rpc_ends_still : (exit : Exit) → WritesNothing (ends_rpc exit)
unfolding ends_rpc ends_rpc_doomed
rpc_ends_still exit = λ p. only_if AnyStep IsStill p.txn.doomed ends_rpc_doomed (makes (step.sends _) (over tt))
    (tt, only_then AnyStep IsStill rolls_back_told (λ done. makes (step.sends _) (over tt)) told_still (λ done. (tt, tt))) (tt, tt)

-- what a call asks keeps what stands
pub call_carry : (call : Errand) (read : ReadText) → ErrandReadsBack call.way read → Carries (rpc call read)
unfolding rpc runs_rpc
call_carry call read back = carries_makes (step.begins _) _ (carries_makes step.counts _ (carries_then (runs_rpc (λ inner at. mean_of statement_limit inner at) call read) ends_rpc
    (carries_if (is_too_many call) (fails_call (plain outside_limits)) _ (carries_still (fails_call (plain outside_limits)) (fails_call_still (plain outside_limits)))
    (carries_if (skips_place call) (fails_call mismatch) _ (carries_still (fails_call mismatch) (fails_call_still mismatch)) (way_carry call read call.way back)))
    (λ exit. carries_still (ends_rpc exit) (rpc_ends_still exit))))

pub task_carry : (one : Task) → TaskReadsBack one → Carries (tree_of one)
task_carry (Runs read) back = batch_carry read back
task_carry (Calls call read) back = call_carry call read back

-- and so does a rollback behind it
pub open_carry : Carries rolls_back_open
open_carry = carries_still rolls_back_open open_still

-- ---- the laws

pub statement_sound : StatementSound
statement_sound levels statement around back = mean_carry levels statement back around

pub batch_sound : BatchSound
batch_sound = batch_carry

pub call_sound : CallSound
call_sound = call_carry

pub rollback_sound : RollbackSound
rollback_sound = open_carry
