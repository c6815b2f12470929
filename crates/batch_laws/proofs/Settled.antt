-- Between two statements a transaction is open exactly where BEGIN TRANSACTION has opened one: by induction on the levels of statements.
use Rattle.std.proofs.Common.{◌≡◌, ◌⊎◌, inl, inr, ℕ, zero, suc, ◌+◌, ◌-◌, ℤ, pos, ◌==◌, not, Bool, true, false, if◌then◌else◌, is_ok, List, [], ◌∷◌, Option, None, Some, Result, Ok, Err, refl, sym, ap, ◌∙◌, subst, arith}
use Rattle.std.specs.Prelude.{◌&&◌, ◌||◌, min, nat_le, nat_lt}
use Rattle.std.proofs.lemmas.Bool.{eqb-false, ne_eqb}
use Rattle.tsql_tree.specs.declared.definition.ProcedureTree.{ProcedureTree}
use Rattle.tsql_tree.specs.declared.definition.Definition.{Definition}
use Rattle.tsql_tree.specs.declared.definition.Definition.TheVariants.{Table, Procedure, Trigger}
use Rattle.tsql_tree.specs.declared.definition.TableTree.{TableTree}
use Rattle.tsql_tree.specs.declared.definition.TriggerTree.{TriggerTree}
use Rattle.tsql_tree.specs.declared.option.SessionOption.{SessionOption}
use Rattle.tsql_tree.specs.declared.statement.Argument.{Argument}
use Rattle.tsql_tree.specs.declared.statement.DropKind.{DropKind}
use Rattle.tsql_tree.specs.declared.statement.Form.{Form-F}
use Rattle.tsql_tree.specs.declared.statement.Statement.{Statement}
use Rattle.bound_tree.specs.declared.write.Bound.{Bound}
use Rattle.binder.specs.Names.{Layer, form_of, looked_up}
use Rattle.session_vars.specs.declared.Variable.{Variable}
use Rattle.table_rows.specs.Definitions.{is_objects}
use Rattle.clause_binder.specs.Scope.{is_long}
use Rattle.error_table.specs.declared.action.Action.{Action}
use Rattle.error_table.specs.declared.action.Action.TheVariants as act
use Rattle.error_table.specs.Act.{base_caught}
use Rattle.step_model.specs.declared.op.Op.{Op}
use Rattle.step_model.specs.declared.op.Op.TheVariants as ops
use Rattle.step_model.specs.declared.reply.Reply.{Reply}
use Rattle.step_model.specs.declared.reply.Reply.TheVariants as replies
use Rattle.step_model.specs.Dialog.{IsQuiet}
use Rattle.step_model.specs.Exchange.{CanReply, Exchange}
use Rattle.step_model.specs.Ranges.{no_memory}
use Rattle.session_cursors.specs.declared.fault.CursorFault.{CursorFault}
use Rattle.session_cursors.specs.Cursors as list
use Rattle.txn_rules.specs.declared.state.BackKind.{BackKind}
use Rattle.txn_rules.specs.declared.state.BackKind.TheVariants.{Mark, Whole}
use Rattle.txn_rules.specs.declared.state.TxnState.{TxnState}
use Rattle.txn_rules.specs.State.{after_begin, after_commit, after_end, after_fire, after_fired, after_save, commit_answer, is_closed, save_refusal, serial_limit}
use Rattle.tds_tokens.specs.Numbers.{command_none}
use Rattle.tds_tokens.specs.declared.token.Token.{Token}
use Rattle.batch_meaning.specs.declared.errand.Errand.{Errand}
use Rattle.batch_meaning.specs.declared.errand.Way.{Way}
use Rattle.batch_meaning.specs.declared.errand.Way.TheVariants as way
use Rattle.batch_meaning.specs.declared.exit.Exit.{Exit}
use Rattle.batch_meaning.specs.declared.exit.Exit.TheVariants.{On, Leave, Again, Return, Raise, RaiseUp, End}
use Rattle.batch_meaning.specs.declared.failure.Failure.{Failure}
use Rattle.batch_meaning.specs.declared.form.ReadText.{ReadText}
use Rattle.batch_meaning.specs.declared.form.ReadText.TheVariants as text
use Rattle.batch_meaning.specs.declared.home.Home.{Home}
use Rattle.batch_meaning.specs.declared.home.Home.TheVariants.{Nowhere, Open, Own}
use Rattle.batch_meaning.specs.declared.raised.Raised.{Raised}
use Rattle.batch_meaning.specs.declared.settings.Settings.{Settings}
use Rattle.batch_meaning.specs.declared.stop.Stop.{Stop}
use Rattle.batch_meaning.specs.declared.stop.Stop.TheVariants.{Failed, Left as LeftSo}
use Rattle.batch_meaning.specs.Asking.{assigns_all, comes_to, fails, fails_naming, on_ok, where_done, where_ended, with_room, ◌>>=◌}
use Rattle.batch_meaning.specs.Calls.{Call, call_over, call_vars, depth_limit, finds_call, given_back, no_procedure, too_deep, uneven}
use Rattle.batch_meaning.specs.Changing.{object_present}
use Rattle.batch_meaning.specs.Cursors.{answered, fails_for_cursor, opens_bound, opens_cursor, opens_kept, select_statement, closes_cursor, declares_cursor, fetches_cursor, removes_cursor}
use Rattle.batch_meaning.specs.Databases.{uses_database}
use Rattle.batch_meaning.specs.Doing.{Doing, asks, makes, over, reads, ◌then◌, Held}
use Rattle.batch_meaning.specs.Failures.{plain}
use Rattle.batch_meaning.specs.Firing.{closes_own, has_mark, in_trigger, leaves_fired, relaxes_then, settles, trigger_end, undone_to}
use Rattle.batch_meaning.specs.Meaning.{Meaning, batch, begun_unseen, behind_unseen, branch, calls, caught_as, concluded, concludes, counted, decides, defined, defines_object, does, doomed_write, each_of, effect_of, ended_by, ends, ends_call, ends_doomed, ends_even, ends_uneven, ends_uneven_as, fails_for, fires, gives_back, goes_on, handled, has_failed, is_even, is_refused_doomed, leaves_rows, line_of, mean_by, mean_form, mean_of, or_full, puts_object, raises, raises_again, raises_at, raises_or_tells, returns_from, rolls_back_doomed, rolls_back_told, runs_body, runs_call, runs_fired, runs_text, runs_trigger, runs_triggers, sends_some, set_by, sets_option, spends, strikes, succeeds, tells, tells_behind, tells_end, told_as, told_unless_own, tries, turned, turns, turns_again, uneven_end, uneven_tokens, unless_stopped, way_of, where_it_fits, writes, written}
use Rattle.batch_meaning.specs.Rpc.{behind_batch, binds_call, defined_in, ending, ends_exec, ends_rpc, ends_rpc_doomed, error_or_full, execs, fails_call, finds_named, finds_read, gives_call_back, goes_on_with, is_too_many, leaves_body, mismatch, no_statement, object_in, returned, returns_uneven, rpc, rpc_arguments, rpc_statement, runs_exec, runs_rpc, runs_sql, runs_way, skips_place, tells_returned, tells_unless, tells_well}
use Rattle.batch_meaning.specs.Progress.{SessionProgress, SessionStep, after_doom, asked, assigns, begins, closes_one, counts, declares, dooms, fetches, fills, fired_from, fires_from, made, opens, removes, saves, sends, sets, shuts, size_of, stands_with, statement_limit, tells_error, tells_fetch, tells_rows, touches}
use Rattle.batch_meaning.specs.Raised.{Around, action_in, around_batch, in_body, in_catch, in_try, is_caught_in, raised_at, raised_in}
use Rattle.batch_meaning.specs.Selecting.{Effect, bound_over, no_effect, not_bound_so, result_full, sending}
use Rattle.batch_meaning.specs.Settings.{outside_profile, set_option}
use Rattle.batch_meaning.specs.Statements.{vars_of}
use Rattle.batch_meaning.specs.Tokens.{batch_done, command_of, done_kind, procedure_done, rpc_done}
use Rattle.batch_meaning.specs.Transactions.{begins_transaction, bound_first, commits_transaction, rolls_back_transaction, saves_transaction}
use Rattle.batch_meaning.specs.Unseen.{is_unseen, wants_begin}
use Rattle.batch_meaning.specs.Values.{Assigned, is_message, outside_limits}
use Rattle.batch_meaning.specs.Working.{asks_any, binds, closes, composes, composes_bound, known_by, leaves, own, prepares, relaxes, status_bound, statuses, tests, tests_bound, within, works, works_bound}
use Rattle.batch_meaning.specs.Writes.{Written, change_bound, creates, creates_definition, creates_table, drops, is_odd_list, is_odd_procedure, unless_objects}
use Rattle.batch_meaning.proofs.Unseen.{unseen_shut, wanted_shut}
use Rattle.statement_paths.specs.Paths.{IsEntered, IsFired, changes_of, is_write}
use Rattle.statement_paths.proofs.Only.{AnyOp, Only, held_keeps, only_bind, only_comes, only_if, only_mono, only_naming}
use Rattle.statement_paths.proofs.Apart.{held_apart}
use Rattle.statement_paths.proofs.Cursors.{IsCursorStep, Silent, closes_silent, declares_silent, fetches_silent, looks_own, only_fault, opens_look, removes_silent, uses_silent}
use Rattle.statement_paths.proofs.Owned.{Owned, Refused, nothing_more, own_held}
use Rattle.statement_paths.proofs.Statements.{NoOp}
use Rattle.statement_paths.proofs.Working.{status_read}
use Rattle.statement_paths.proofs.Works.{IsOwnStep, Owns, Works, binds_work, change_works, creates_works, prepares_reads, reads_work, unless_works, worked_works, works_own}
use Rattle.batch_laws.specs.Settled.{BatchSettles, CallSettles, IsSteady, StatementSettles, SteadyIdle}
use Rattle.batch_laws.specs.Transactions.{back_for, Begins, Closes, RollsBack, Saves}
use Rattle.batch_laws.proofs.Idle.{IsShut, own_makes, shut_op}
use Rattle.batch_laws.proofs.Opened.{IsInside, inside_keeps, own_inside, owns_inside, quiet_inside}
use Rattle.batch_laws.proofs.Telling.{composes_read, tests_read}
use Rattle.batch_laws.proofs.Transactions.{back_held, begin_held, close_held, save_held}
use Rattle.batch_laws.proofs.Named.{calling_reads, dropping_works, trigger_works}
use Rattle.batch_laws.proofs.Unseen.{seen_held, unseen_held}
use Rattle.batch_laws.proofs.Writing.{Unfired, writes_apart}

-- ---- numbers

one_more : (n : ℕ) → (n + 1 == 0) ≡ false
one_more n = ne_eqb (n + 1) 0 (λ is. omega (arith, is))

one_less : (n : ℕ) → (n == 0) ≡ false → (n == 1) ≡ false → (n - 1 == 0) ≡ false
one_less n none one = ne_eqb (n - 1) 0 (by_number n none one)
  where
    by_number : (m : ℕ) → (m == 0) ≡ false → (m == 1) ≡ false → m - 1 ≡ 0 → ⊥
    by_number zero zero_not one_not is = eqb-false 0 0 zero_not refl
    by_number (suc zero) zero_not one_not is = eqb-false 1 1 one_not refl
    by_number (suc (suc m)) zero_not one_not is = omega (arith, is)

not_closed : (b : Bool) → not b ≡ false → b ≡ true
not_closed true is = refl
not_closed false is = absurd (let no : true ≡ false = is in cc)

-- ---- the state of a transaction

abbrev SteadyBy : Bool → TxnState → Type 0
SteadyBy is_open txn = (is_open ≡ not (is_closed txn)) × (is_closed txn ≡ true → txn.doomed ≡ false)

-- it is open
steady_open : (txn : TxnState) → is_closed txn ≡ false → SteadyBy true txn
steady_open txn is = (ap not (sym is), λ closed. absurd (let no : true ≡ false = sym closed ∙ is in cc))

begun_steady : (name : Option (List ℕ)) (txn : TxnState) → SteadyBy true (after_begin name txn)
begun_steady name txn = by_test (is_closed txn)
  where
    by_test : (closed : Bool) → SteadyBy true (if closed then record txn { count = 1; serial = min (txn.serial + 1) serial_limit; name = name } else record txn { count = txn.count + 1 })
    by_test true = steady_open (record txn { count = 1; serial = min (txn.serial + 1) serial_limit; name = name }) refl
    by_test false = steady_open (record txn { count = txn.count + 1 }) (one_more txn.count)

doom_steady : (is_open : Bool) (txn : TxnState) → SteadyBy is_open txn → SteadyBy is_open (after_doom txn)
doom_steady is_open txn steady = by_test (is_closed txn) refl
  where
    by_test : (closed : Bool) → is_closed txn ≡ closed → SteadyBy is_open (if closed then txn else record txn { doomed = true })
    by_test true is = steady
    by_test false is = (steady.0, λ closed. absurd (let no : true ≡ false = sym closed ∙ is in cc))

closes_steady : (is_open : Bool) (txn : TxnState) → commit_answer txn ≡ Ok false → SteadyBy is_open txn → SteadyBy is_open (after_commit txn)
closes_steady is_open txn answer steady = by_closed (is_closed txn) refl answer
  where
    by_last : (last : Bool) → is_closed txn ≡ false → (txn.count == 1) ≡ last → ◌≡◌ {A = Result Bool ℤ} (Ok last) (Ok false) → SteadyBy is_open (if last then after_end txn else record txn { count = txn.count - 1 })
    by_last true is one so = absurd (let no : Ok true ≡ Ok false = so in cc)
    by_last false is one so =
        let less : (txn.count - 1 == 0) ≡ false = one_less txn.count is one in
        (steady.0 ∙ ap not (is ∙ sym less), λ closed. absurd (let no : true ≡ false = sym closed ∙ less in cc))

    by_doomed : (doomed : Bool) → is_closed txn ≡ false → ◌≡◌ {A = Result Bool ℤ} (if doomed then Err (pos 3930) else Ok (txn.count == 1)) (Ok false) → SteadyBy is_open (if doomed then txn else if txn.count == 1 then after_end txn else record txn { count = txn.count - 1 })
    by_doomed true is so = steady
    by_doomed false is so = by_last (txn.count == 1) is refl so

    by_closed : (closed : Bool) → is_closed txn ≡ closed → ◌≡◌ {A = Result Bool ℤ} (if closed then Err (pos 3902) else if txn.doomed then Err (pos 3930) else Ok (txn.count == 1)) (Ok false)
        → SteadyBy is_open (if closed then txn else if txn.doomed then txn else if txn.count == 1 then after_end txn else record txn { count = txn.count - 1 })
    by_closed true is so = steady
    by_closed false is so = by_doomed txn.doomed is so

same_steady : (p new : SessionProgress) → new ≡ p → IsSteady p → IsSteady new
same_steady p new is steady = subst IsSteady (sym is) steady

-- ---- steps and operations

-- a step that neither counts nor opens
abbrev IsSteadyStep : SessionStep → Type 0
IsSteadyStep (opens name) = ⊥
IsSteadyStep closes_one = ⊥
IsSteadyStep (fires_from mark) = ⊥
IsSteadyStep (fired_from mark stood) = ⊥
IsSteadyStep step = Unit {0}

steady_step : (step : SessionStep) (p : SessionProgress) → IsSteadyStep step → IsSteady p → IsSteady (made step p)
steady_step dooms p is steady = doom_steady p.is_open p.txn steady
steady_step (opens name) p is steady = absurd is
steady_step closes_one p is steady = absurd is
steady_step (fires_from mark) p is steady = absurd is
steady_step (fired_from mark stood) p is steady = absurd is
steady_step (begins vars) p is steady = steady
steady_step counts p is steady = steady
steady_step touches p is steady = steady
steady_step (sends tokens) p is steady = steady
steady_step (tells_rows rows) p is steady = steady
steady_step (tells_error number) p is steady = steady
steady_step (assigns place value) p is steady = steady
steady_step (sets settings) p is steady = steady
steady_step (saves name mark) p is steady = steady
steady_step (declares name select) p is steady = steady
steady_step (fills name kinds rows) p is steady = steady
steady_step (fetches name) p is steady = steady
steady_step (shuts name) p is steady = steady
steady_step (removes name) p is steady = steady
steady_step (tells_fetch status) p is steady = steady
steady_step (stands_with vars) p is steady = steady

steady_op : (op : Op) (reply : Reply) (p : SessionProgress) → IsInside op → CanReply op reply → IsSteady p → IsSteady (asked op reply p)
steady_op (ops.Fetch table start stop hold part) (replies.Ended place) p is can steady = absurd can
steady_op (ops.Insert table key row) (replies.Ended place) p is can steady = absurd can
steady_op (ops.Replace table key row) (replies.Ended place) p is can steady = absurd can
steady_op (ops.Erase table key) (replies.Ended place) p is can steady = absurd can
steady_op ops.Mark (replies.Ended place) p is can steady = absurd can
steady_op (ops.BackTo mark) (replies.Ended place) p is can steady = absurd can
steady_op ops.Relax (replies.Ended place) p is can steady = absurd can
steady_op ops.Begin reply p is can steady = absurd is
steady_op ops.Commit reply p is can steady = absurd is
steady_op ops.Rollback reply p is can steady = absurd is
steady_op ops.Mark (replies.Marked mark) p is can steady = steady
steady_op (ops.BackTo mark) replies.Done p is can steady = steady
steady_op op reply p is can steady = steady

-- behind the end of a transaction none is open
ended_steady : (p : SessionProgress) (op : Op) (place : ℕ) → IsSteady (asked op (replies.Ended place) p)
ended_steady p op place = (refl, λ closed. refl)

-- ---- trees

-- the end of locks
abbrev IsRelax : Op → Type 0
IsRelax ops.Relax = Unit {0}
IsRelax op = ⊥

made_same : (step : SessionStep) (p new : SessionProgress) (exchanges : List Exchange) (done : Unit {0}) → Held (makes step (over tt)) p exchanges done new → new ≡ made step p
unfolding Held
made_same step p new exchanges done held = held.2

abbrev pub Settles : {A : Type 0} → Doing A → Type 0
Settles {A = A} tree = (p new : SessionProgress) (exchanges : List Exchange) (a : A) → IsSteady p → Held tree p exchanges a new → IsSteady new

calm_settles : {A : Type 0} (tree : Doing A) → Only IsSteadyStep IsInside tree → Settles tree
calm_settles tree only p new exchanges a steady held = held_keeps IsSteadyStep IsInside IsSteady steady_step steady_op tree p new exchanges a only held steady

over_settles : {A : Type 0} (a : A) → Settles (over a)
over_settles a = calm_settles (over a) tt

then_settles : {A B : Type 0} (tree : Doing A) (go : A → Doing B) → Settles tree → ((a : A) → Settles (go a)) → Settles (tree then go)
then_settles tree go first more p new exchanges b steady held =
    let on = held_apart tree go p new exchanges b held in more on.came on.mid new on.back b (first p on.mid on.front on.came steady on.held) on.rest

if_settles : {A : Type 0} (test : Bool) (first other : Doing A) → Settles first → Settles other → Settles (if test then first else other)
if_settles true first other one two = one
if_settles false first other one two = two

reads_settles : {A : Type 0} (look : SessionProgress → Doing A) → ((p : SessionProgress) → Settles (look p)) → Settles (reads look)
unfolding Held
reads_settles look each p new exchanges a steady held = each p p new exchanges a steady held

makes_settles : {A : Type 0} (step : SessionStep) (next : Doing A) → IsSteadyStep step → Settles next → Settles (makes step next)
unfolding Held
makes_settles step next is more p new exchanges a steady held = more (made step p) new exchanges a (steady_step step p is steady) held

bind_settles : {A B : Type 0} (tree : Doing (Result A Failure)) (go : A → Doing (Result B Failure)) → Settles tree → ((a : A) → Settles (go a)) → Settles (tree >>= go)
bind_settles {A = A} tree go first more = then_settles tree (on_ok go) first by_came
  where
    by_came : (came : Result A Failure) → Settles (on_ok go came)
    by_came (Ok a) = more a
    by_came (Err failure) = over_settles (Err failure)

room_settles : {A : Type 0} (tree : Doing (Result A Failure)) → Settles tree → Settles (with_room tree)
unfolding Held
room_settles tree more p new exchanges a steady held = if_settles held.0 tree (fails no_memory) more (over_settles (Err (plain no_memory))) p new exchanges a steady held.1

-- ---- in a transaction of its own

own_step : (step : SessionStep) (p : SessionProgress) → IsOwnStep step → IsShut p → IsShut (made step p)
own_step touches p is shut = shut
own_step (assigns place value) p is shut = shut
own_step (fills name kinds rows) p is shut = shut
own_step step p is shut = absurd is

own_settles : {A : Type 0} (asks_some : Bool) (work : Doing (Result A Failure)) → Owns work → Settles (own asks_some work)
own_settles {A = A} asks_some work owns p new exchanges came steady held = by_open p.is_open refl
  where
    by_ways : Refused p came exchanges new ⊎ Owned asks_some p.is_open work p came exchanges new → new.is_open ≡ p.is_open
    by_ways (inl refused) = ap (λ (q : SessionProgress). q.is_open) refused.leaves.0
    by_ways (inr owned) = ap (λ (q : SessionProgress). q.is_open) owned.leaves.0

    by_open : (is_open : Bool) → p.is_open ≡ is_open → IsSteady new
    by_open true is =
        let kept = inside_keeps p.txn (own asks_some work) p new exchanges came (own_inside work (owns_inside work owns) asks_some) held (is, refl) in (
          kept.0 ∙ sym is ∙ steady.0 ∙ ap (λ (t : TxnState). not (is_closed t)) (sym kept.1),
          λ closed. ap (λ (t : TxnState). t.doomed) kept.1 ∙ steady.1 (ap (λ (t : TxnState). is_closed t) (sym kept.1) ∙ closed),
        )
    by_open false is =
        let closed : is_closed p.txn ≡ true = not_closed (is_closed p.txn) (sym steady.0 ∙ is) in
        let shut : IsShut new = held_keeps IsOwnStep AnyOp IsShut own_step shut_op (own asks_some work) p new exchanges came
        (own_makes IsOwnStep asks_some work (only_mono IsOwnStep IsOwnStep IsQuiet AnyOp (λ step is. is) (λ op is. tt) work owns)) held (closed, steady.1 closed) in
        (by_ways (own_held work owns p new exchanges came asks_some held) ∙ is ∙ ap not (sym shut.0), λ now. shut.1)

within_settles : {A : Type 0} (around : Around) (statement : Statement) (go : List TableTree → Bound → Doing (Result A Failure)) → ((shapes : List TableTree) (of : Bound) → Owns (go shapes of)) → Settles (within around statement go)
unfolding within binds
within_settles around statement go owns = room_settles (own (asks_any (known_by around statement) (looked_up statement)) (binds around statement go)) (own_settles (asks_any (known_by around statement) (looked_up statement)) (binds around statement go)
    (only_bind IsOwnStep IsQuiet (prepares around statement) (λ made. go made.0 made.1) (works_own (prepares around statement) (reads_work (prepares around statement) (prepares_reads around statement))) (λ made. owns made.0 made.1)))

-- ---- works

quiet_settles : {A : Type 0} (tree : Doing A) → Works tree → Settles tree
quiet_settles tree works = calm_settles tree (only_mono IsOwnStep IsSteadyStep IsQuiet IsInside own_steady quiet_inside tree (works_own tree works))
  where
    own_steady : (step : SessionStep) → IsOwnStep step → IsSteadyStep step
    own_steady touches is = tt
    own_steady (assigns place value) is = tt
    own_steady (fills name kinds rows) is = tt
    own_steady step is = absurd is

objects_settle : (name : List ℕ) (tree : Doing (Result Effect Failure)) → Settles tree → Settles (unless_objects name tree)
objects_settle name tree settles = if_settles (is_objects name) (fails_naming object_present name) tree (calm_settles (fails_naming {A = Effect} object_present name) (only_naming IsSteadyStep IsInside Effect object_present name)) settles

module _ (around : Around) (p0 : SessionProgress) (statement : Statement) where
  works_settles : Settles (works around statement)
  unfolding works
  works_settles = within_settles around statement (works_bound around (form_of statement)) (λ shapes of. works_own (works_bound around (form_of statement) shapes of) (worked_works around p0 (form_of statement) shapes of))

  tests_settles : Settles (tests around statement)
  unfolding tests
  tests_settles = within_settles around statement (tests_bound around) (λ shapes of. works_own (tests_bound around shapes of) (reads_work (tests_bound around shapes of) (tests_read around p0 shapes of)))

  composes_settles : Settles (composes around statement)
  unfolding composes
  composes_settles = within_settles around statement (composes_bound around statement) (λ shapes of. works_own (composes_bound around statement shapes of) (reads_work (composes_bound around statement shapes of) (composes_read around p0 statement shapes of)))

  statuses_settle : Settles (statuses around statement)
  unfolding statuses
  statuses_settle = within_settles around statement (status_bound around) (λ shapes of. works_own (status_bound around shapes of) (reads_work (status_bound around shapes of) (status_read around p0 shapes of)))

  changes_settle : Settles (changes_of around statement)
  unfolding changes_of within
  changes_settle = within_settles around statement (change_bound around) (λ shapes of. works_own (change_bound around shapes of) (change_works around p0 shapes of))

  creates_settles : (name text : List ℕ) → Settles (creates_table around statement name text)
  unfolding creates_table binds
  creates_settles name text = room_settles (if asks_any (known_by around statement) (looked_up statement) then own true (binds around statement putting) else binds around statement later)
      (if_settles (asks_any (known_by around statement) (looked_up statement)) (own true (binds around statement putting)) (binds around statement later)
      (own_settles true (binds around statement putting) (works_own (binds around statement putting) (binds_work around statement putting (λ shapes of. unless_works name (creates name text) (creates_works name text)))))
      (bind_settles (prepares around statement) (λ made. later made.0 made.1) (quiet_settles (prepares around statement) (reads_work (prepares around statement) (prepares_reads around statement)))
      (λ made. objects_settle name (own true (creates name text)) (own_settles true (creates name text) (works_own (creates name text) (creates_works name text))))))
    where
      putting : List TableTree → Bound → Doing (Result Effect Failure)
      putting shapes of = unless_objects name (creates name text)

      later : List TableTree → Bound → Doing (Result Effect Failure)
      later shapes of = unless_objects name (own true (creates name text))

  drops_settle : (kind : DropKind) (name : List ℕ) → Settles (drops around statement kind name)
  unfolding drops
  drops_settle kind name = room_settles _ (own_settles (asks_any (known_by around statement) (name ∷ [])) _ (works_own _ (dropping_works around p0 statement kind name)))

  calls_settle : (status : Option (List ℕ)) (name : List ℕ) (arguments : List Argument) → Settles (finds_call around statement status name arguments)
  unfolding finds_call
  calls_settle status name arguments = room_settles _ (own_settles (asks_any (known_by around statement) (name ∷ [])) _ (works_own _ (reads_work _ (calling_reads around statement status name arguments))))

definition_settles : (of : Definition) (text : List ℕ) → Settles (creates_definition of text)
unfolding creates_definition
definition_settles (Table table) text = over_settles (Err (plain not_bound_so))
definition_settles (Procedure procedure) text = room_settles _ (if_settles (is_long procedure.name || is_odd_list procedure.parameters) (fails outside_limits) (unless_objects procedure.name (own true (creates procedure.name text))) (over_settles (Err (plain outside_limits)))
    (objects_settle procedure.name (own true (creates procedure.name text)) (own_settles true (creates procedure.name text) (works_own (creates procedure.name text) (creates_works procedure.name text)))))
definition_settles (Trigger trigger) text = room_settles _ (own_settles (not (is_objects trigger.table)) _ (works_own _ (trigger_works trigger text)))

-- ---- cursors

silent_settles : {A : Type 0} (tree : Doing A) → Silent tree → Settles tree
silent_settles tree silent = calm_settles tree (only_mono IsCursorStep IsSteadyStep NoOp IsInside cursor_steady none_inside tree silent)
  where
    cursor_steady : (step : SessionStep) → IsCursorStep step → IsSteadyStep step
    cursor_steady (declares name select) is = tt
    cursor_steady (fetches name) is = tt
    cursor_steady (shuts name) is = tt
    cursor_steady (removes name) is = tt
    cursor_steady (tells_fetch status) is = tt
    cursor_steady step is = absurd is

    none_inside : (op : Op) → NoOp op → IsInside op
    none_inside op none = absurd none

first_settles : (statement : Statement) (go : SessionProgress → Doing (Result Effect Failure)) → ((p : SessionProgress) → Settles (go p)) → Settles (bound_first statement go)
first_settles statement go each = bind_settles (reads λ p. comes_to (bound_over [] p.vars statement)) (λ of. with_room (reads go)) (calm_settles (reads λ p. comes_to (bound_over [] p.vars statement)) (λ p. only_comes IsSteadyStep IsInside (bound_over [] p.vars statement)))
    (λ of. room_settles (reads go) (reads_settles go each))

answered_settles : {A B : Type 0} (name : List ℕ) (go : A → Doing (Result B Failure)) (answer : Result A CursorFault) → ((a : A) → Settles (go a)) → Settles (answered name go answer)
answered_settles name go (Ok a) each = each a
answered_settles {B = B} name go (Err fault) each = calm_settles (fails_for_cursor {A = B} name fault) (only_fault IsSteadyStep IsInside B name fault)

opens_settles : (around : Around) (p0 : SessionProgress) (statement : Statement) (name : List ℕ) → Settles (opens_cursor around statement name)
unfolding opens_cursor
opens_settles around p0 statement name = first_settles statement (λ p. answered name (opens_kept around statement name p) (list.query_of name p.cursors)) (λ p.
    answered_settles name (opens_kept around statement name p) (list.query_of name p.cursors) (λ select.
    answered_settles name (λ done. within around (select_statement statement select) (opens_bound around name)) (list.fill_answer name p.cursors) (λ done.
    within_settles around (select_statement statement select) (opens_bound around name) (λ shapes of. looks_own (opens_bound around name shapes of) (opens_look around p0 name shapes of)))))

-- ---- transactions

module _ (p new : SessionProgress) (exchanges : List Exchange) (steady : IsSteady p) where
  begin_steady : (name : Option (List ℕ)) (is_open : Bool) (came : Result Effect Failure) → p.is_open ≡ is_open → Begins p name is_open came exchanges new → IsSteady new
  begin_steady name true (Ok effect) is begun = same_steady (made (opens name) p) new begun.2 (subst (λ (b : Bool). SteadyBy b (after_begin name p.txn)) (sym is) (begun_steady name p.txn))
  begin_steady name false (Ok effect) is begun = same_steady (made (opens name) (asked ops.Begin replies.Began p)) new begun.2 (begun_steady name p.txn)
  begin_steady name is_open (Err failure) is (inl refused) = same_steady p new refused.1 steady
  begin_steady name is_open (Err failure) is (inr full) = same_steady (asked ops.Begin replies.Memory p) new full.2 steady

  close_steady : (answer : Result Bool ℤ) (came : Result Effect Failure) → commit_answer p.txn ≡ answer → Closes p answer came exchanges new → IsSteady new
  close_steady (Ok true) (Ok effect) is closed = same_steady (asked ops.Commit (replies.Ended closed.1.0) p) new closed.1.2 (ended_steady p ops.Commit closed.1.0)
  close_steady (Ok false) (Ok effect) is closed = same_steady (made closes_one p) new closed.2 (closes_steady p.is_open p.txn is steady)
  close_steady (Err number) (Ok effect) is closed = absurd closed
  close_steady (Ok true) (Err failure) is denied = same_steady p new denied.0.1 steady
  close_steady (Ok false) (Err failure) is denied = same_steady p new denied.0.1 steady
  close_steady (Err number) (Err failure) is denied = same_steady p new denied.0.1 steady

  back_steady : (answer : Result BackKind ℤ) (came : Result Effect Failure) → RollsBack p answer came exchanges new → IsSteady new
  back_steady (Ok Whole) (Ok effect) rolled = same_steady (asked ops.Rollback (replies.Ended rolled.1.0) p) new rolled.1.2 (ended_steady p ops.Rollback rolled.1.0)
  back_steady (Ok (Mark mark)) (Ok effect) rolled = same_steady (asked (ops.BackTo mark) replies.Done p) new rolled.2 steady
  back_steady (Err number) (Ok effect) rolled = absurd rolled
  back_steady (Ok Whole) (Err failure) denied = same_steady p new denied.0.1 steady
  back_steady (Ok (Mark mark)) (Err failure) denied = same_steady p new denied.0.1 steady
  back_steady (Err number) (Err failure) refused = same_steady p new refused.1 steady

  save_steady : (name : List ℕ) (refusal : Option ℤ) (came : Result Effect Failure) → Saves p name refusal came exchanges new → IsSteady new
  save_steady name None (Ok effect) saved = same_steady (made (saves name saved.1.0) (asked ops.Mark (replies.Marked saved.1.0) p)) new saved.1.2 steady
  save_steady name (Some number) (Ok effect) saved = absurd saved
  save_steady name refusal (Err failure) (inl refused) = same_steady p new refused.1 steady
  save_steady name refusal (Err failure) (inr (inl full)) = same_steady (asked ops.Mark replies.Memory p) new full.1 steady
  save_steady name refusal (Err failure) (inr (inr nameless)) = same_steady (asked ops.Mark (replies.Marked nameless.0) p) new nameless.2 steady

begins_settles : (statement : Statement) (name : Option (List ℕ)) → Settles (begins_transaction statement name)
begins_settles statement name p new exchanges came steady held = begin_steady p new exchanges steady name p.is_open came refl (begin_held p new exchanges came statement name held)

commits_settles : (name : Option (List ℕ)) → Settles (commits_transaction name)
commits_settles name p new exchanges came steady held = close_steady p new exchanges steady (commit_answer p.txn) came refl (close_held p new exchanges came name held)

rolls_settles : (name : Option (List ℕ)) → Settles (rolls_back_transaction name)
rolls_settles name p new exchanges came steady held = back_steady p new exchanges steady (back_for name p.txn) came (back_held p new exchanges came name held)

saves_settles : (statement : Statement) (name : List ℕ) → Settles (saves_transaction statement name)
saves_settles statement name p new exchanges came steady held = save_steady p new exchanges steady name (save_refusal p.txn) came (save_held p new exchanges came statement name held)

-- ---- errors, and how statements end

-- what is rolled back is not doomed any more
rolled_sound : (p new : SessionProgress) (exchanges : List Exchange) (done : Unit {0}) → IsSteady p → Held rolls_back_told p exchanges done new → IsSteady new × (new.txn.doomed ≡ false)
unfolding rolls_back_told Held
rolled_sound p new exchanges done steady held = by_open p.is_open refl exchanges held
  where
    Told : Doing (Unit {0})
    Told = told_unless_own p.is_own p.txn.serial

    by_told : (is_own : Bool) (later : List Exchange) (q : SessionProgress) → IsSteady q × (q.txn.doomed ≡ false) → Held (told_unless_own is_own p.txn.serial) q later done new → IsSteady new × (new.txn.doomed ≡ false)
    by_told true later q sound so = subst (λ (s : SessionProgress). IsSteady s × (s.txn.doomed ≡ false)) (sym so.2) sound
    by_told false later q sound so = subst (λ (s : SessionProgress). IsSteady s × (s.txn.doomed ≡ false)) (sym so.2) sound

    by_reply : (x : Exchange) (later : List Exchange) (reply : Reply) → CanReply ops.Rollback reply → Held (where_ended Told reply) (asked ops.Rollback reply p) later done new → IsSteady new × (new.txn.doomed ≡ false)
    by_reply x later (replies.Ended place) can so = by_told p.is_own later (asked ops.Rollback (replies.Ended place) p) (ended_steady p ops.Rollback place, refl) so
    by_reply x later reply can so = absurd can

    by_open : (is_open : Bool) → p.is_open ≡ is_open → (xs : List Exchange) → Held (if is_open then asks ops.Rollback (where_ended Told) else over tt) p xs done new → IsSteady new × (new.txn.doomed ≡ false)
    by_open true is [] was = absurd was
    by_open true is (x ∷ later) was = by_reply x later x.reply was.2 was.3
    by_open false is xs was = (same_steady p new was.2 steady, ap (λ (q : SessionProgress). q.txn.doomed) was.2 ∙ steady.1 (not_closed (is_closed p.txn) (sym steady.0 ∙ is)))

told_settles : Settles rolls_back_told
told_settles p new exchanges done steady held = (rolled_sound p new exchanges done steady held).0

ended_settles : (action : Action) → Settles (ended_by action)
unfolding ended_by
ended_settles act.Statement = over_settles On
ended_settles act.Doom = over_settles On
ended_settles act.Batch = over_settles End
ended_settles act.BatchAndTransaction = then_settles rolls_back_told (λ done. over End) told_settles (λ done. over_settles End)

caught_settles : (action : Action) (raised : Raised) → Settles (caught_as action raised)
caught_settles act.Statement raised = over_settles (way_of (base_caught raised.number raised.by) raised)
caught_settles act.Doom raised = makes_settles dooms (over (way_of (base_caught raised.number raised.by) raised)) tt (over_settles (way_of (base_caught raised.number raised.by) raised))
caught_settles act.Batch raised = over_settles (way_of (base_caught raised.number raised.by) raised)
caught_settles act.BatchAndTransaction raised = over_settles (way_of (base_caught raised.number raised.by) raised)

strikes_settles : (around : Around) (xact_abort : Bool) (command : ℕ) (raised : Raised) → Settles (strikes around xact_abort command raised)
strikes_settles around xact_abort command raised = makes_settles (tells_error raised.number) (if is_caught_in around raised then caught_as (action_in around xact_abort raised) raised else told_as (done_kind around) (action_in around xact_abort raised) command raised) tt
    (if_settles (is_caught_in around raised) (caught_as (action_in around xact_abort raised) raised) (told_as (done_kind around) (action_in around xact_abort raised) command raised) (caught_settles (action_in around xact_abort raised) raised)
    (makes_settles (sends _) (ended_by (action_in around xact_abort raised)) tt (ended_settles (action_in around xact_abort raised))))

at_settles : (around : Around) (line : ℤ) (command : ℕ) (raised : Raised) → Settles (raises_at around line command raised)
unfolding raises_at
at_settles around line command raised = reads_settles (λ p. strikes around p.settings.xact_abort command (or_full around p command line raised)) (λ p. strikes_settles around p.settings.xact_abort command (or_full around p command line raised))

raises_settles : (around : Around) (statement : Statement) (raised : Raised) → Settles (raises around statement raised)
raises_settles around statement raised = at_settles around (line_of statement) (command_of (form_of statement)) raised

counted_settles : (form : Layer) (rows : ℕ) (next : Doing Exit) → Settles next → Settles (counted form rows next)
counted_settles form rows next more = if_settles (leaves_rows form) next (makes (tells_rows rows) next) more (makes_settles (tells_rows rows) next tt more)

fails_settles : (around : Around) (statement : Statement) (failure : Failure) → Settles (fails_for around statement failure)
unfolding fails_for
fails_settles around statement failure = counted_settles (form_of statement) 0 (raises around statement _) (raises_settles around statement _)

sets_settles : (assigned : List Assigned) (next : Doing Exit) → Settles next → Settles (assigns_all assigned next)
unfolding assigns_all
sets_settles [] next more = more
sets_settles (one ∷ assigned) next more = makes_settles (assigns one.0 one.1) (assigns_all assigned next) tt (sets_settles assigned next more)

sends_settles : (tokens : List Token) (exit : Exit) → Settles (sends_some tokens (over exit))
sends_settles [] exit = over_settles exit
sends_settles (token ∷ tokens) exit = makes_settles (sends (token ∷ tokens)) (over exit) tt (over_settles exit)

succeeds_settles : (statement : Statement) (effect : Effect) (exit : Exit) → Settles (succeeds statement effect (over exit))
unfolding succeeds
succeeds_settles statement effect exit = sets_settles effect.sets (counted (form_of statement) effect.rows Last) (counted_settles (form_of statement) effect.rows Last (makes_settles (tells_error (pos 0)) (sends_some effect.tokens (over exit)) tt (sends_settles effect.tokens exit)))
  where
    Last : Doing Exit
    Last = makes (tells_error (pos 0)) (sends_some effect.tokens (over exit))

concludes_settles : {A : Type 0} (around : Around) (statement : Statement) (go : A → Doing Exit) (work : Doing (Result A Failure)) → Settles work → ((a : A) → Settles (go a)) → Settles (concludes around statement go work)
unfolding concludes
concludes_settles {A = A} around statement go work first more = then_settles work (λ came. concluded around statement go came) first by_came
  where
    by_came : (came : Result A Failure) → Settles (concluded around statement go came)
    by_came (Ok a) = more a
    by_came (Err failure) = fails_settles around statement failure

does_settles : (around : Around) (statement : Statement) (exit : Exit) (work : Doing (Result Effect Failure)) → Settles work → Settles (does around statement exit work)
unfolding does
does_settles around statement exit work settles = concludes_settles around statement (λ effect. succeeds statement effect (over exit)) work settles (λ effect. succeeds_settles statement effect exit)

tells_settles : (around : Around) (p0 : SessionProgress) (statement : Statement) → Settles (tells around statement)
unfolding tells
tells_settles around p0 statement = concludes_settles around statement (raises_or_tells around statement) (composes around statement) (composes_settles around p0 statement)
    (λ raised. if_settles (is_message raised) (succeeds statement _ (over On)) (counted (form_of statement) 0 (raises around statement raised)) (succeeds_settles statement _ On)
    (counted_settles (form_of statement) 0 (raises around statement raised) (raises_settles around statement raised)))

again_settles : (around : Around) (statement : Statement) (caught : Option Raised) → Settles (raises_again around statement caught)
again_settles around statement None = fails_settles around statement (plain outside_profile)
again_settles around statement (Some raised) = counted_settles (form_of statement) 0 (raises around statement _) (raises_settles around statement _)

option_settles : (around : Around) (statement : Statement) (option : SessionOption) → Settles (sets_option around statement option)
option_settles around statement option = reads_settles (λ p. set_by around statement (set_option option p.settings)) (λ p. by_settings (set_option option p.settings))
  where
    by_settings : (came : Result Settings Failure) → Settles (set_by around statement came)
    by_settings (Ok settings) = makes_settles (sets settings) (succeeds statement no_effect (over On)) tt (succeeds_settles statement no_effect On)
    by_settings (Err failure) = fails_settles around statement failure

decides_settles : (around : Around) (p0 : SessionProgress) (statement : Statement) (go : Bool → Doing Exit) → ((holds : Bool) → Settles (go holds)) → Settles (decides around statement go)
unfolding decides
decides_settles around p0 statement go each = concludes_settles around statement (λ holds. makes (tells_error (pos 0)) (go holds)) (tests around statement) (tests_settles around p0 statement)
    (λ holds. makes_settles (tells_error (pos 0)) (go holds) tt (each holds))

-- ---- the end of a call

fits_settles : (around : Around) (statement : Statement) (tokens : List Token) (next : Doing Exit) → Settles next → Settles (where_it_fits around statement tokens next)
fits_settles around statement tokens next more = reads_settles _ (λ p. if_settles (nat_lt p.bytes_left (size_of tokens)) (fails_for around statement (plain result_full)) next (fails_settles around statement (plain result_full)) more)

uneven_settles : (around : Around) (statement : Statement) (status : ℤ) (raised : Raised) (caught : Bool) (action : Action) → Settles (ends_uneven_as around statement status raised caught action)
uneven_settles around statement status raised caught action = fits_settles around statement (uneven_tokens caught action status raised) _
    (makes_settles (tells_rows 0) _ tt (makes_settles (tells_error raised.number) _ tt (makes_settles (sends (uneven_tokens caught action status raised)) _ tt (by_caught caught))))
  where
    by_caught : (caught : Bool) → Settles (uneven_end caught action raised)
    by_caught true = caught_settles action raised
    by_caught false = ended_settles action

ends_settle : (around : Around) (statement : Statement) (count : ℕ) (status : ℤ) → Settles (ends_call around statement count status)
unfolding ends_even ends_uneven
ends_settle around statement count status = reads_settles _ (λ p. if_settles (is_even p count) (ends_even around statement status) (ends_uneven around statement status raised)
    (fits_settles around statement (procedure_done status) (succeeds statement (sending (procedure_done status)) (over On)) (succeeds_settles statement (sending (procedure_done status)) On))
    (reads_settles _ (λ q. uneven_settles around statement status raised (is_caught_in around raised) (action_in around q.settings.xact_abort raised))))
  where
    raised : Raised
    raised = raised_in around.procedure (line_of statement) (plain uneven)

-- ---- the end of a write that has fired triggers

-- where they begin to run a transaction is counted
fire_steady : (mark : ℕ) (txn : TxnState) → SteadyBy true (after_fire mark txn)
fire_steady mark txn = by_test (is_closed txn) refl
  where
    by_test : (closed : Bool) → is_closed txn ≡ closed → SteadyBy true (after_save [] mark (if closed then record txn { count = 1 } else txn))
    by_test true is = steady_open (after_save [] mark (record txn { count = 1 })) refl
    by_test false is = steady_open (after_save [] mark txn) is

fired_steady : (mark : ℕ) (stood : Bool) (p : SessionProgress) → IsSteady p → IsSteady (made (fired_from mark stood) p)
fired_steady mark stood p steady = by_test p.stands
  where
    by_test : (stands : Bool) → SteadyBy p.is_open (if stands then after_fired mark p.txn else p.txn)
    by_test true = steady
    by_test false = steady

relaxes_inside : Only IsSteadyStep IsRelax relaxes
unfolding relaxes
relaxes_inside = λ p. only_if IsSteadyStep IsRelax p.touched (asks ops.Relax (where_done nothing_more)) nothing_more (tt, by_reply) tt
  where
    by_reply : (reply : Reply) → CanReply ops.Relax reply → Only IsSteadyStep IsRelax (where_done nothing_more reply)
    by_reply replies.Done can = tt
    by_reply reply can = absurd can

relaxes_settles : Settles relaxes
relaxes_settles = calm_settles relaxes (only_mono IsSteadyStep IsSteadyStep IsRelax IsInside (λ step is. is) relax_inside relaxes relaxes_inside)
  where
    relax_inside : (op : Op) → IsRelax op → IsInside op
    relax_inside ops.Relax is = tt
    relax_inside op is = absurd is

-- the end of the locks leaves the transaction as it is
relaxed_same : (p new : SessionProgress) (exchanges : List Exchange) (done : Unit {0}) → Held relaxes p exchanges done new → (new.is_open ≡ p.is_open) × (new.txn ≡ p.txn)
unfolding relaxes Held
relaxed_same p new exchanges done held = by_test p.touched exchanges held
  where
    by_reply : (reply : Reply) (later : List Exchange) → CanReply ops.Relax reply → Held (where_done nothing_more reply) (asked ops.Relax reply p) later done new → (new.is_open ≡ p.is_open) × (new.txn ≡ p.txn)
    by_reply replies.Done later can so = (ap (λ (q : SessionProgress). q.is_open) so.2, ap (λ (q : SessionProgress). q.txn) so.2)
    by_reply reply later can so = absurd can

    by_test : (test : Bool) (xs : List Exchange) → Held (if test then asks ops.Relax (where_done nothing_more) else nothing_more) p xs done new → (new.is_open ≡ p.is_open) × (new.txn ≡ p.txn)
    by_test true [] was = absurd was
    by_test true (x ∷ later) was = by_reply x.reply later was.2 was.3
    by_test false xs was = (ap (λ (q : SessionProgress). q.is_open) was.2, ap (λ (q : SessionProgress). q.txn) was.2)

-- behind the end of a transaction of its own none is open
closes_end : (succeeded : Bool) (p new : SessionProgress) (exchanges : List Exchange) (done : Unit {0}) → Held (closes succeeded) p exchanges done new → IsSteady new
unfolding closes Held
closes_end true p new [] done held = absurd held
closes_end true p new (x ∷ later) done held = by_reply x.reply held.2 held.3
  where
    by_reply : (reply : Reply) → CanReply ops.Commit reply → Held (where_ended nothing_more reply) (asked ops.Commit reply p) later done new → IsSteady new
    by_reply (replies.Ended place) can so = same_steady (asked ops.Commit (replies.Ended place) p) new so.2 (ended_steady p ops.Commit place)
    by_reply reply can so = absurd can
closes_end false p new [] done held = absurd held
closes_end false p new (x ∷ later) done held = by_reply x.reply held.2 held.3
  where
    by_reply : (reply : Reply) → CanReply ops.Rollback reply → Held (where_ended nothing_more reply) (asked ops.Rollback reply p) later done new → IsSteady new
    by_reply (replies.Ended place) can so = same_steady (asked ops.Rollback (replies.Ended place) p) new so.2 (ended_steady p ops.Rollback place)
    by_reply reply can so = absurd can

closes_settles : (succeeded : Bool) → Settles (closes succeeded)
closes_settles succeeded p new exchanges done steady held = closes_end succeeded p new exchanges done held

leaves_settles : (home : Home) (succeeded : Bool) → Settles (leaves home succeeded)
unfolding leaves
leaves_settles Nowhere succeeded = over_settles tt
leaves_settles Open succeeded = relaxes_settles
leaves_settles Own succeeded = then_settles relaxes (λ done. closes succeeded) relaxes_settles (λ done. closes_settles succeeded)

closes_own_settles : (home : Home) (succeeded : Bool) → Settles (closes_own home succeeded)
closes_own_settles Own succeeded = closes_settles succeeded
closes_own_settles Open succeeded = over_settles tt
closes_own_settles Nowhere succeeded = over_settles tt

-- behind an operation that is done
done_settles : (op : Op) (next : Doing (Unit {0})) → IsInside op → Settles next → Settles (asks op (where_done next))
unfolding Held
done_settles op next inside more p new [] done steady held = absurd held
done_settles op next inside more p new (x ∷ later) done steady held = by_reply x.reply held.2 held.3
  where
    by_reply : (reply : Reply) → CanReply op reply → Held (where_done next reply) (asked op reply p) later done new → IsSteady new
    by_reply replies.Done can so = more (asked op replies.Done p) new later done (steady_op op replies.Done p inside can steady) so
    by_reply reply can so = absurd so

undone_settles : (mark : ℕ) (there : Bool) (next : Doing (Unit {0})) → Settles next → Settles (undone_to mark there (relaxes_then next))
unfolding relaxes_then
undone_settles mark true next more = done_settles (ops.BackTo mark) (asks ops.Relax (where_done next)) tt (done_settles ops.Relax next tt more)
undone_settles mark false next more = done_settles ops.Relax next tt more

leaving_settles : (home : Home) (mark : ℕ) (stood succeeded : Bool) → Settles (leaves_fired home mark stood succeeded)
unfolding leaves_fired
leaving_settles home mark stood succeeded = reads_settles _ (λ p. then_settles (if p.stands then settles home mark succeeded p else over tt) _ (if_settles p.stands (settles home mark succeeded p) (over tt) (by_end succeeded p) (over_settles tt)) (λ done. fired_settle))
  where
    by_end : (succeeded : Bool) (p : SessionProgress) → Settles (settles home mark succeeded p)
    by_end true p = leaves_settles home true
    by_end false p = undone_settles mark (has_mark mark p) (closes_own home false) (closes_own_settles home false)

    fired_settle : Settles (makes (fired_from mark stood) nothing_more)
    fired_settle p new exchanges done steady held = same_steady (made (fired_from mark stood) p) new (made_same (fired_from mark stood) p new exchanges done held) (fired_steady mark stood p steady)

-- a statement's own transaction that is undone has ended
undone_ends : (mark : ℕ) (p new : SessionProgress) (exchanges : List Exchange) (done : Unit {0}) → Held (undone_to mark true (relaxes_then (closes false))) p exchanges done new → IsSteady new
unfolding relaxes_then Held
undone_ends mark p new [] done held = absurd held
undone_ends mark p new (x ∷ later) done held = by_back x.reply held.2 held.3
  where
    by_relax : (q : SessionProgress) (later : List Exchange) → Held (asks ops.Relax (where_done (closes false))) q later done new → IsSteady new
    by_relax q [] so = absurd so
    by_relax q (y ∷ rest) so = by_done y.reply so.2 so.3
      where
        by_done : (reply : Reply) → CanReply ops.Relax reply → Held (where_done (closes false) reply) (asked ops.Relax reply q) rest done new → IsSteady new
        by_done replies.Done can now = closes_end false (asked ops.Relax replies.Done q) new rest done now
        by_done reply can now = absurd can

    by_back : (reply : Reply) → CanReply (ops.BackTo mark) reply → Held (where_done (asks ops.Relax (where_done (closes false))) reply) (asked (ops.BackTo mark) reply p) later done new → IsSteady new
    by_back replies.Done can so = by_relax (asked (ops.BackTo mark) replies.Done p) later so
    by_back reply can so = absurd can

-- ---- statements that hold statements

module _ (one : Statement → Meaning) (each : (inner : Statement) (at : Around) → Settles (one inner at)) (p0 : SessionProgress) where
  goes_settles : (next : Doing Exit) → Settles next → (exit : Exit) → Settles (goes_on next exit)
  goes_settles next more On = more
  goes_settles next more Leave = over_settles Leave
  goes_settles next more Again = over_settles Again
  goes_settles next more (Return status) = over_settles (Return status)
  goes_settles next more (Raise raised) = over_settles (Raise raised)
  goes_settles next more (RaiseUp raised) = over_settles (RaiseUp raised)
  goes_settles next more End = over_settles End

  pub all_settle : (statements : List Statement) (around : Around) → Settles (each_of one statements around)
  unfolding each_of
  all_settle [] around = over_settles On
  all_settle (statement ∷ others) around = then_settles (one statement around) (λ exit. goes_on (each_of one others around) exit) (each statement around) (goes_settles (each_of one others around) (all_settle others around))

  handled_settles : (handler : List Statement) (around : Around) (exit : Exit) → Settles (handled (λ raised. each_of one handler (in_catch raised around)) exit)
  handled_settles handler around (Raise raised) = all_settle handler (in_catch raised around)
  handled_settles handler around On = over_settles On
  handled_settles handler around Leave = over_settles Leave
  handled_settles handler around Again = over_settles Again
  handled_settles handler around (Return status) = over_settles (Return status)
  handled_settles handler around (RaiseUp raised) = over_settles (RaiseUp raised)
  handled_settles handler around End = over_settles End

  body_settles : (vars : List Variable) (settings : Settings → Settings) (body : List Statement) (around : Around) → Settles (runs_body one vars settings body around)
  unfolding runs_body
  body_settles vars settings body around = reads_settles _ (λ p. makes_settles (stands_with vars) _ tt (makes_settles (sets (settings p.settings)) _ tt (then_settles (each_of one body around) _ (all_settle body around)
      (λ left. reads_settles _ (λ inner. makes_settles (stands_with p.vars) _ tt (makes_settles (sets p.settings) (over (left, inner.vars)) tt (over_settles (left, inner.vars))))))))

  -- triggers, one after another
  triggers_settle : (around : Around) (w : Written) (triggers : List TriggerTree) → Settles (runs_triggers one around w triggers)
  unfolding runs_triggers runs_trigger
  triggers_settle around w [] = reads_settles _ (λ p. over_settles (tells_behind one w.effect p))
  triggers_settle around w (trigger ∷ triggers) = then_settles (runs_trigger one around w.fired trigger) _ (then_settles (runs_body one (vars_of trigger.body) in_trigger trigger.body (in_body trigger.name (Some w.fired) around)) (λ came. over came.0)
      (body_settles (vars_of trigger.body) in_trigger trigger.body (in_body trigger.name (Some w.fired) around)) (λ came. over_settles came.0)) (λ left. reads_settles _ (λ p. by_end (triggers_settle around w triggers) (trigger_end left p)))
    where
      by_end : Settles (runs_triggers one around w triggers) → (end : Result (Unit {0}) Stop) → Settles (unless_stopped one (runs_triggers one around w triggers) end)
      by_end more (Ok done) = more
      by_end more (Err stop) = over_settles (Err stop)

  fired_settles : (around : Around) (w : Written) → Settles (runs_fired one around w)
  unfolding runs_fired
  fired_settles around w = if_settles (nat_le depth_limit around.depth) (over (Err (Failed (plain too_deep)))) (runs_triggers one around w w.fires) (over_settles (Err (Failed (plain too_deep)))) (triggers_settle around w w.fires)

  -- a write that fires triggers begins them in its transaction, which is counted as open then
  fires_steady : (around : Around) (home : Home) (w : Written) (p mid new : SessionProgress) (exchanges : List Exchange) (came : Result Effect Stop) (entered : List Exchange) → IsSteady p → IsEntered p.is_open p.settings.manner entered home → mid ≡ record p { is_open = true; touched = mid.touched }
      → Held (fires one around home w) mid exchanges came new → IsSteady new
  unfolding fires Held
  fires_steady around home w p mid new exchanges came entered steady enters still held =
      let on = held_apart relaxes _ mid new exchanges came held in
      by_room on.mid (relaxed_same mid on.mid on.front on.came on.held) on.back on.rest.0 on.rest.1
    where
      stood : (q : SessionProgress) → (q.is_open ≡ mid.is_open) × (q.txn ≡ mid.txn) → (q.is_open ≡ true) × (q.txn ≡ p.txn)
      stood q same = (same.0 ∙ ap (λ (s : SessionProgress). s.is_open) still, same.1 ∙ ap (λ (s : SessionProgress). s.txn) still)

      by_home : (home : Home) (q : SessionProgress) (later : List Exchange) → (q.is_open ≡ true) × (q.txn ≡ p.txn) → (is_open : Bool) → p.is_open ≡ is_open → IsEntered is_open p.settings.manner entered home → (done : Unit {0}) (r : SessionProgress)
          → Held (undone_to w.mark true (relaxes_then (closes_own home false))) q later done r → IsSteady r
      by_home Own q later same is_open is begun done r was = undone_ends w.mark q r later done was
      by_home Open q later same true is begun done r was =
          undone_settles w.mark true (closes_own Open false) (over_settles tt) q r later done (subst (λ (b : Bool). SteadyBy b q.txn) (sym same.0) (subst (SteadyBy true) (sym same.1) (subst (λ (b : Bool). SteadyBy b p.txn) is steady))) was
      by_home Open q later same false is begun done r was = absurd (let no : Open ≡ Own = begun.1 in cc)
      by_home Nowhere q later same true is begun done r was = absurd (let no : Nowhere ≡ Open = begun.1 in cc)
      by_home Nowhere q later same false is begun done r was = absurd (let no : Nowhere ≡ Own = begun.1 in cc)

      by_room : (q : SessionProgress) → (q.is_open ≡ mid.is_open) × (q.txn ≡ mid.txn) → (later : List Exchange) (enough : Bool)
          → Held (if enough then (reads λ s. makes (fires_from w.mark) (runs_fired one around w then λ came. leaves_fired home w.mark s.stands (is_ok came) then λ done. over (effect_of one w.effect came)))
          else (undone_to w.mark true (relaxes_then (closes_own home false)) then λ done. over (Err (Failed (plain no_memory))))) q later came new → IsSteady new
      by_room q same later true was =
          then_settles (runs_fired one around w) _ (fired_settles around w) (λ ran. then_settles (leaves_fired home w.mark q.stands (is_ok ran)) _ (leaving_settles home w.mark q.stands (is_ok ran)) (λ done. over_settles (effect_of one w.effect ran)))
          (made (fires_from w.mark) q) new later came (subst (λ (b : Bool). SteadyBy b (after_fire w.mark q.txn)) (sym (stood q same).0) (fire_steady w.mark q.txn)) was
      by_room q same later false was =
          let end = held_apart (undone_to w.mark true (relaxes_then (closes_own home false))) _ q new later came was in
          same_steady end.mid new end.rest.2 (by_home home q end.front (stood q same) p.is_open refl enters end.came end.mid end.held)

  module _ (around : Around) (statement : Statement) where
    branch_settles : (so : Statement) (otherwise : Option Statement) (holds : Bool) → Settles (branch one around so otherwise holds)
    branch_settles so otherwise true = each so around
    branch_settles so None false = over_settles On
    branch_settles so (Some other) false = each other around

    again_or : (left : Option Exit) → Settles (turns_again (one statement around) left)
    again_or None = each statement around
    again_or (Some exit) = over_settles exit

    turns_settles : (body : Statement) (holds : Bool) → Settles (turns one around statement body holds)
    turns_settles body true = then_settles (one body around) (λ exit. turns_again (one statement around) (turned exit)) (each body around) (λ exit. again_or (turned exit))
    turns_settles body false = over_settles On

    tries_settles : (body handler : List Statement) → Settles (tries one around body handler)
    unfolding tries
    tries_settles body handler = then_settles (each_of one body (in_try around)) (λ exit. handled (λ raised. each_of one handler (in_catch raised around)) exit) (all_settle body (in_try around)) (handled_settles handler around)

    written_settles : (came : Result Effect Stop) → Settles (written around statement came)
    written_settles (Ok effect) = succeeds_settles statement effect On
    written_settles (Err (Failed failure)) = fails_settles around statement failure
    written_settles (Err (LeftSo exit)) = makes_settles (tells_rows 0) (over exit) tt (over_settles exit)

    writes_settle : is_write (form_of statement) ≡ true → Settles (writes one around statement then written around statement)
    writes_settle is = then_settles (writes one around statement) (written around statement) work_settles written_settles
      where
        by_ways : (p new : SessionProgress) (exchanges : List Exchange) (came : Result Effect Stop) → IsSteady p
            → ((changed : Result Written Failure) × Held (changes_of around statement) p exchanges changed new × Unfired changed came) ⊎ IsFired around p statement (λ home done mid behind. Held (fires one around home done) mid behind came new) exchanges → IsSteady new
        by_ways p new exchanges came steady (inl unfired) = changes_settle around p0 statement p new exchanges unfired.0 steady unfired.1
        by_ways p new exchanges came steady (inr fired) = fires_steady around fired.came fired.done p fired.mid new fired.behind came fired.writes.entered steady fired.writes.enters fired.still fired.goes

        work_settles : Settles (writes one around statement)
        work_settles p new exchanges came steady held = by_ways p new exchanges came steady (writes_apart one around statement p new exchanges came is held)

    gives_settles : (variable : Option (List ℕ)) (arguments : List Argument) (call : Call) (count : ℕ) (vars : List Variable) (number : ℤ) → Settles (gives_back around statement variable arguments call count vars number)
    unfolding gives_back
    gives_settles variable arguments call count vars number = concludes_settles around statement (λ assigned. assigns_all assigned (ends_call around statement count number)) (reads λ p. comes_to (given_back p.vars variable arguments call number vars))
        (calm_settles (reads λ p. comes_to (given_back p.vars variable arguments call number vars)) (λ p. only_comes IsSteadyStep IsInside (given_back p.vars variable arguments call number vars)))
        (λ assigned. sets_settles assigned (ends_call around statement count number) (ends_settle around statement count number))

    returns_settle : (variable : Option (List ℕ)) (arguments : List Argument) (call : Call) (count : ℕ) (vars : List Variable) (came : Exit) → Settles (returns_from around statement variable arguments call count vars came)
    returns_settle variable arguments call count vars (Raise raised) = makes_settles (tells_rows 0) (over (Raise raised)) tt (over_settles (Raise raised))
    returns_settle variable arguments call count vars (RaiseUp raised) = makes_settles (tells_rows 0) (over (Raise raised)) tt (over_settles (Raise raised))
    returns_settle variable arguments call count vars End = makes_settles (tells_rows 0) (over End) tt (over_settles End)
    returns_settle variable arguments call count vars (Return number) = gives_settles variable arguments call count vars number
    returns_settle variable arguments call count vars On = gives_settles variable arguments call count vars (pos 0)
    returns_settle variable arguments call count vars Leave = gives_settles variable arguments call count vars (pos 0)
    returns_settle variable arguments call count vars Again = gives_settles variable arguments call count vars (pos 0)

    exec_call_settles : (variable : Option (List ℕ)) (name : List ℕ) (arguments : List Argument) → Settles (calls one around statement variable name arguments)
    unfolding calls runs_call
    exec_call_settles variable name arguments = concludes_settles around statement (runs_call one around statement variable arguments) (finds_call around statement variable name arguments) (calls_settle around p0 statement variable name arguments)
        (λ call. reads_settles _ (λ p. then_settles (runs_body one (call_vars call) (λ settings. settings) call.procedure.body (in_body call.procedure.name None around)) _ (body_settles (call_vars call) (λ settings. settings) call.procedure.body (in_body call.procedure.name None around))
        (λ came. returns_settle variable arguments call p.txn.count came.1 came.0)))

    form_settles : (form : Layer) → form_of statement ≡ form → Settles (mean_form one around statement form)
    unfolding mean_form
    form_settles (Form-F.If test so otherwise) is = decides_settles around p0 statement (branch one around so otherwise) (branch_settles so otherwise)
    form_settles (Form-F.While test body) is = decides_settles around p0 statement (turns one around statement body) (turns_settles body)
    form_settles Form-F.Break is = makes_settles (tells_error (pos 0)) (over Leave) tt (over_settles Leave)
    form_settles Form-F.Continue is = makes_settles (tells_error (pos 0)) (over Again) tt (over_settles Again)
    form_settles (Form-F.Block body) is = all_settle body around
    form_settles (Form-F.TryCatch body handler) is = tries_settles body handler
    form_settles (Form-F.Print value) is = tells_settles around p0 statement
    form_settles (Form-F.RaiseError value class state) is = tells_settles around p0 statement
    form_settles (Form-F.Throw number value state) is = tells_settles around p0 statement
    form_settles Form-F.ThrowAgain is = again_settles around statement around.caught
    form_settles (Form-F.Return value) is = concludes_settles around statement (λ status. succeeds statement no_effect (over (Return status))) (statuses around statement) (statuses_settle around p0 statement) (λ status. succeeds_settles statement no_effect (Return status))
    form_settles (Form-F.SetOption option) is = option_settles around statement option
    form_settles (Form-F.BeginTransaction name) is = does_settles around statement On (begins_transaction statement name) (begins_settles statement name)
    form_settles (Form-F.Commit name) is = does_settles around statement On (commits_transaction name) (commits_settles name)
    form_settles (Form-F.Rollback name) is = does_settles around statement On (rolls_back_transaction name) (rolls_settles name)
    form_settles (Form-F.Save name) is = does_settles around statement On (saves_transaction statement name) (saves_settles statement name)
    form_settles (Form-F.CreateTable table text) is = does_settles around statement On (creates_table around statement table.name text) (creates_settles around p0 statement table.name text)
    form_settles (Form-F.Drop kind name) is = does_settles around statement On (drops around statement kind name) (drops_settle around p0 statement kind name)
    form_settles (Form-F.Insert table columns rows) is = writes_settle (ap is_write is)
    form_settles (Form-F.Update table assignments filter) is = writes_settle (ap is_write is)
    form_settles (Form-F.Delete table filter) is = writes_settle (ap is_write is)
    form_settles (Form-F.Execute status name arguments) is = exec_call_settles status name arguments
    form_settles (Form-F.DeclareCursor name select) is = does_settles around statement On (declares_cursor statement name select) (silent_settles (declares_cursor statement name select) (declares_silent statement name select))
    form_settles (Form-F.OpenCursor name) is = does_settles around statement On (opens_cursor around statement name) (opens_settles around p0 statement name)
    form_settles (Form-F.Fetch name variables) is = does_settles around statement On (fetches_cursor statement name variables) (silent_settles (fetches_cursor statement name variables) (fetches_silent statement name variables))
    form_settles (Form-F.CloseCursor name) is = does_settles around statement On (closes_cursor statement name) (silent_settles (closes_cursor statement name) (closes_silent statement name))
    form_settles (Form-F.Deallocate name) is = does_settles around statement On (removes_cursor statement name) (silent_settles (removes_cursor statement name) (removes_silent statement name))
    form_settles (Form-F.Use name) is = does_settles around statement On (uses_database around statement name) (silent_settles (uses_database around statement name) (uses_silent around statement name))
    form_settles form is = does_settles around statement On (works around statement) (works_settles around p0 statement)

    by_settles : Settles (mean_by one statement around)
    unfolding mean_by
    by_settles = reads_settles (λ p. if p.txn.doomed && is_refused_doomed (form_of statement) then fails_for around statement (plain doomed_write) else mean_form one around statement (form_of statement))
        (λ p. if_settles (p.txn.doomed && is_refused_doomed (form_of statement)) (fails_for around statement (plain doomed_write)) (mean_form one around statement (form_of statement))
        (fails_settles around statement (plain doomed_write)) (form_settles (form_of statement) refl))

-- behind a transaction that is begun unseen
begun_settles : (wants : SessionProgress → Bool) (fails : Failure → Doing Exit) (next : Doing Exit) → ((p : SessionProgress) → wants p ≡ true → p.is_open ≡ false) → ((failure : Failure) → Settles (fails failure)) → Settles next → Settles (begun_unseen wants fails next)
begun_settles wants fails next shut failing more p new exchanges exit steady held = by_test (wants p) refl
  where
    by_came : (came : Result Effect Failure) → Settles (behind_unseen fails next came)
    by_came (Ok effect) = makes_settles (sends effect.tokens) next tt more
    by_came (Err failure) = failing failure

    by_test : (unseen : Bool) → wants p ≡ unseen → IsSteady new
    by_test true is =
        let on = unseen_held wants fails next p new exchanges exit is held in
        by_came on.3 on.2 new on.1 exit (begin_steady p on.2 on.0 steady None false on.3 (shut p is) on.5) on.6
    by_test false is = more p new exchanges exit steady (seen_held wants fails next p new exchanges exit is held)

-- ---- the cycle

mean_settles : (levels : ℕ) (p0 : SessionProgress) (statement : Statement) (around : Around) → Settles (mean_of levels statement around)
unfolding mean_of
mean_settles zero p0 statement around = raises_settles around statement _
mean_settles (suc levels) p0 statement around =
    reads_settles (λ p. if p.statements_left == 0 then spends statement around else makes counts (begun_unseen (λ q. is_unseen q (form_of statement)) (fails_for around statement) Next))
    (λ p. if_settles (p.statements_left == 0) (spends statement around) (makes counts (begun_unseen (λ q. is_unseen q (form_of statement)) (fails_for around statement) Next)) (raises_settles around statement _)
    (makes_settles counts (begun_unseen (λ q. is_unseen q (form_of statement)) (fails_for around statement) Next) tt
    (begun_settles (λ q. is_unseen q (form_of statement)) (fails_for around statement) Next (λ p is. unseen_shut p (form_of statement) is) (λ failure. fails_settles around statement failure) (by_settles (λ inner at. mean_of levels inner at) (λ inner at. mean_settles levels p0 inner at) p0 around statement))))
  where
    Next : Doing Exit
    Next = mean_by (λ inner at. mean_of levels inner at) statement around

-- ---- batches

defined_settles : (line : ℤ) (came : Result Effect Failure) → Settles (defined line came)
defined_settles line (Ok effect) = makes_settles (tells_rows 0) _ tt (makes_settles (tells_error (pos 0)) (over On) tt (over_settles On))
defined_settles line (Err failure) = makes_settles (tells_rows 0) _ tt (at_settles around_batch line command_none _)

puts_settle : (line : ℤ) (of : Definition) (text : List ℕ) → Settles (puts_object line of text)
unfolding puts_object
puts_settle line of text = reads_settles _ (λ p. if_settles p.txn.doomed (defined line (Err (plain doomed_write))) (creates_definition of text then defined line) (defined_settles line (Err (plain doomed_write)))
    (then_settles (creates_definition of text) (defined line) (definition_settles of text) (defined_settles line)))

object_settles : (line : ℤ) (of : Definition) (text : List ℕ) → Settles (defines_object line of text)
unfolding defines_object
object_settles line of text = begun_settles (λ p. wants_begin p) (λ failure. defined line (Err failure)) (puts_object line of text) wanted_shut (λ failure. defined_settles line (Err failure)) (puts_settle line of text)

text_settles : (p0 : SessionProgress) (read : ReadText) → Settles (runs_text read)
text_settles p0 (text.Statements statements) = all_settle (λ inner at. mean_of statement_limit inner at) (λ inner at. mean_settles statement_limit p0 inner at) p0 statements around_batch
text_settles p0 (text.Defines line of units) = object_settles line of units
text_settles p0 (text.Refused line code near) = makes_settles (sends _) (over End) tt (over_settles End)

-- at an end, however it is told, none is doomed
end_sound : (last : Bool → Token) (exit : Exit) (p new : SessionProgress) (exchanges : List Exchange) (done : Unit {0}) → IsSteady p → Held (tells_end last (rolls_back_doomed (last true)) exit) p exchanges done new → IsSteady new × (new.txn.doomed ≡ false)
unfolding Held
end_sound last exit p new exchanges done steady held = by_doom p.txn.doomed refl held
  where
    by_doom : (doomed : Bool) → p.txn.doomed ≡ doomed → Held (if doomed then rolls_back_doomed (last true) else makes (sends (last (has_failed exit) ∷ [])) (over tt)) p exchanges done new → IsSteady new × (new.txn.doomed ≡ false)
    by_doom true is was =
        let on = held_apart rolls_back_told (λ done. makes (sends _) (over tt)) (made (sends _) p) new exchanges done was in
        let rolled = rolled_sound (made (sends _) p) on.mid on.front on.came steady on.held in
        (same_steady (made (sends _) on.mid) new on.rest.2 rolled.0, ap (λ (q : SessionProgress). q.txn.doomed) on.rest.2 ∙ rolled.1)
    by_doom false is was = (same_steady (made (sends _) p) new was.2 steady, ap (λ (q : SessionProgress). q.txn.doomed) was.2 ∙ is)

ends_sound : (exit : Exit) (p new : SessionProgress) (exchanges : List Exchange) (done : Unit {0}) → IsSteady p → Held (ends exit) p exchanges done new → IsSteady new × (new.txn.doomed ≡ false)
unfolding ends ends_doomed
ends_sound exit p new exchanges done steady held = end_sound batch_done exit p new exchanges done steady held

-- ---- calls by RPC

call_fails : (failure : Failure) → Settles (fails_call failure)
unfolding fails_call
call_fails failure = makes_settles (tells_rows 0) _ tt (reads_settles _ (λ p. makes_settles (tells_error _) _ tt (makes_settles (sends _) _ tt (ended_settles (ending (action_in around_batch p.settings.xact_abort (error_or_full p (raised_at (pos 1) failure))))))))

with_settles : {A : Type 0} (go : A → Doing Exit) (work : Doing (Result A Failure)) → Settles work → ((a : A) → Settles (go a)) → Settles (work then λ came. goes_on_with go came)
with_settles {A = A} go work first more = then_settles work (λ came. goes_on_with go came) first by_came
  where
    by_came : (came : Result A Failure) → Settles (goes_on_with go came)
    by_came (Ok a) = more a
    by_came (Err failure) = call_fails failure

returned_settles : (number : ℤ) (tokens : List Token) (next : Doing Exit) → Settles next → Settles (tells_returned number tokens next)
returned_settles number tokens next more = reads_settles _ (λ p. if_settles (nat_lt p.bytes_left (size_of tokens)) (fails_call (plain result_full)) (makes (tells_rows 0) (makes (tells_error number) (makes (sends tokens) next))) (call_fails (plain result_full))
    (makes_settles (tells_rows 0) _ tt (makes_settles (tells_error number) _ tt (makes_settles (sends tokens) next tt more))))

exec_ends : (call : Errand) (count : ℕ) (status : ℤ) → Settles (ends_exec call count status)
unfolding ends_exec
exec_ends call count status = reads_settles _ (λ p. reads_settles _ (λ q.
    if_settles (is_even q count) (tells_returned (pos 0) (returned call p.vars status) (over On)) (returns_uneven (returned call p.vars status) raised (action_in around_batch q.settings.xact_abort raised))
    (returned_settles (pos 0) (returned call p.vars status) (over On) (over_settles On))
    (returned_settles raised.number _ (ended_by (action_in around_batch q.settings.xact_abort raised)) (ended_settles (action_in around_batch q.settings.xact_abort raised)))))
  where
    raised : Raised
    raised = raised_at (pos 1) (plain uneven)

gives_call_settles : (call : Errand) (of : Call) (count : ℕ) (inner : List Variable) (status : ℤ) → Settles (gives_call_back call of count inner status)
unfolding gives_call_back
gives_call_settles call of count inner status = with_settles {A = List Assigned} (λ sets. assigns_all sets (ends_exec call count status)) (reads λ p. comes_to (given_back p.vars None (rpc_arguments call) of status inner))
    (calm_settles (reads λ p. comes_to (given_back p.vars None (rpc_arguments call) of status inner)) (λ p. only_comes IsSteadyStep IsInside (given_back p.vars None (rpc_arguments call) of status inner)))
    (λ assigned. sets_settles assigned (ends_exec call count status) (exec_ends call count status))

leaves_settle : (call : Errand) (of : Call) (count : ℕ) (inner : List Variable) (exit : Exit) → Settles (leaves_body call of count inner exit)
leaves_settle call of count inner (Raise raised) = makes_settles (tells_rows 0) (over End) tt (over_settles End)
leaves_settle call of count inner (RaiseUp raised) = makes_settles (tells_rows 0) (over End) tt (over_settles End)
leaves_settle call of count inner End = makes_settles (tells_rows 0) (over End) tt (over_settles End)
leaves_settle call of count inner (Return status) = gives_call_settles call of count inner status
leaves_settle call of count inner On = gives_call_settles call of count inner (pos 0)
leaves_settle call of count inner Leave = gives_call_settles call of count inner (pos 0)
leaves_settle call of count inner Again = gives_call_settles call of count inner (pos 0)

module _ (p0 : SessionProgress) (call : Errand) where
  exec_settles : (of : Call) → Settles (runs_exec (λ inner at. mean_of statement_limit inner at) call of)
  unfolding runs_exec
  exec_settles of = reads_settles _ (λ p. then_settles (runs_body (λ inner at. mean_of statement_limit inner at) (call_vars of) (λ settings. settings) of.procedure.body (in_body of.procedure.name None around_batch)) _
      (body_settles (λ inner at. mean_of statement_limit inner at) (λ inner at. mean_settles statement_limit p0 inner at) p0 (call_vars of) (λ settings. settings) of.procedure.body (in_body of.procedure.name None around_batch))
      (λ came. leaves_settle call of p.txn.count came.1 came.0))

  execs_settle : (finds : Doing (Result Call Failure)) → Settles finds → Settles (execs (λ inner at. mean_of statement_limit inner at) call finds)
  execs_settle finds settles = with_settles {A = Call} (runs_exec (λ inner at. mean_of statement_limit inner at) call) finds settles exec_settles

  naming_settles : (number : ℕ) (name : List ℕ) → Settles (fails_naming {A = Call} number name)
  naming_settles number name = calm_settles (fails_naming {A = Call} number name) (only_naming IsSteadyStep IsInside Call number name)

  named_settles : (name : List ℕ) (object : Option (List ℕ)) → Settles (finds_named call name object)
  named_settles name None = naming_settles no_procedure name
  named_settles name (Some object) = calls_settle around_batch p0 (rpc_statement object (rpc_arguments call)) None object (rpc_arguments call)

  read_settles : (procedure : Option ProcedureTree) → Settles (finds_read call procedure)
  unfolding binds_call
  read_settles None = over_settles {A = Result Call Failure} (Err mismatch)
  read_settles (Some procedure) = if_settles (is_odd_procedure procedure) (over (Err (plain outside_limits))) _ (over_settles (Err (plain outside_limits))) (room_settles _ (bind_settles (reads λ p. comes_to (bound_over [] p.vars (rpc_statement procedure.name (rpc_arguments call)))) _
      (calm_settles (reads λ p. comes_to (bound_over [] p.vars (rpc_statement procedure.name (rpc_arguments call)))) (λ p. only_comes IsSteadyStep IsInside (bound_over [] p.vars (rpc_statement procedure.name (rpc_arguments call)))))
      (λ of. calm_settles (reads λ p. comes_to (call_over around_batch None procedure.name (rpc_arguments call) p.vars (Some (Procedure procedure)))) (λ p. only_comes IsSteadyStep IsInside (call_over around_batch None procedure.name (rpc_arguments call) p.vars (Some (Procedure procedure)))))))

  sql_settles : (read : ReadText) → Settles (runs_sql (λ inner at. mean_of statement_limit inner at) call read)
  sql_settles (text.Statements statements) = execs_settle (finds_read call None) (read_settles None)
  sql_settles (text.Defines line of units) = execs_settle (finds_read call (defined_in (text.Defines line of units))) (read_settles (defined_in (text.Defines line of units)))
  sql_settles (text.Refused line code near) = text_settles p0 (text.Refused line code near)

  well_settles : Settles (tells_well call)
  well_settles = reads_settles _ (λ p. returned_settles (pos 0) (returned call p.vars (pos 0)) (over On) (over_settles On))

  unless_settles : (read : ReadText) → Settles (tells_unless call read)
  unless_settles (text.Statements statements) = well_settles
  unless_settles (text.Defines line of units) = well_settles
  unless_settles (text.Refused line code near) = text_settles p0 (text.Refused line code near)

  behind_settles : (exit : Exit) → Settles (behind_batch call exit)
  behind_settles On = well_settles
  behind_settles Leave = over_settles Leave
  behind_settles Again = over_settles Again
  behind_settles (Return status) = over_settles (Return status)
  behind_settles (Raise raised) = over_settles (Raise raised)
  behind_settles (RaiseUp raised) = over_settles (RaiseUp raised)
  behind_settles End = over_settles End

  way_settles : (read : ReadText) (of : Way) → Settles (runs_way (λ inner at. mean_of statement_limit inner at) call read of)
  way_settles read (way.LooksUp name) = execs_settle (finds_named call name (object_in read)) (named_settles name (object_in read))
  way_settles read (way.RunsRead own) = sql_settles read
  way_settles read way.RunsBatch = then_settles (runs_text read) (behind_batch call) (text_settles p0 read) behind_settles
  way_settles read way.Tells = unless_settles read
  way_settles read way.Unmatched = call_fails mismatch
  way_settles read (way.Unknown handle) = execs_settle (fails_naming {A = Call} no_statement handle) (naming_settles no_statement handle)

  rpc_settles : (read : ReadText) → Settles (runs_rpc (λ inner at. mean_of statement_limit inner at) call read)
  unfolding runs_rpc
  rpc_settles read = if_settles (is_too_many call) (fails_call (plain outside_limits)) _ (call_fails (plain outside_limits))
      (if_settles (skips_place call) (fails_call mismatch) _ (call_fails mismatch) (way_settles read call.way))

rpc_ends_sound : (exit : Exit) (p new : SessionProgress) (exchanges : List Exchange) (done : Unit {0}) → IsSteady p → Held (ends_rpc exit) p exchanges done new → IsSteady new × (new.txn.doomed ≡ false)
unfolding ends_rpc ends_rpc_doomed
rpc_ends_sound exit p new exchanges done steady held = end_sound rpc_done exit p new exchanges done steady held

-- ---- the laws

pub statement_settles : StatementSettles
statement_settles levels around statement old new exchanges exit steady held = mean_settles levels old statement around old new exchanges exit steady held

pub batch_settles : BatchSettles
unfolding batch Held
batch_settles read old new exchanges steady held =
    let on = held_apart (runs_text read) ends (made (begins _) old) new exchanges tt held in
    ends_sound on.came on.mid new on.back tt (text_settles old read (made (begins _) old) on.mid on.front on.came steady on.held) on.rest

pub call_settles : CallSettles
unfolding rpc Held
call_settles call read old new exchanges steady held =
    let on = held_apart (runs_rpc (λ inner at. mean_of statement_limit inner at) call read) ends_rpc (made counts (made (begins _) old)) new exchanges tt held in
    rpc_ends_sound on.came on.mid new on.back tt (rpc_settles old call read (made counts (made (begins _) old)) on.mid on.front on.came steady on.held) on.rest

pub steady_idle : SteadyIdle
steady_idle p steady shut = let closed : is_closed p.txn ≡ true = not_closed (is_closed p.txn) (sym steady.0 ∙ shut) in record { shut = shut; closed = closed; sound = steady.1 closed }
