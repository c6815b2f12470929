-- So does each statement, each batch and each call by RPC: by induction on the levels of its statements.
use Rattle.std.proofs.Common.{◌≡◌, ℕ, zero, suc, ℤ, ◌==◌, Bool, true, false, if◌then◌else◌, is_ok, List, [], ◌∷◌, Option, Some, None, Result, Ok, Err, refl, ap}
use Rattle.std.specs.Prelude.{◌&&◌, nat_le, pos}
use Rattle.tsql_tree.specs.declared.definition.Definition.{Definition}
use Rattle.tsql_tree.specs.declared.definition.Definition.TheVariants.{Table, Procedure, Trigger}
use Rattle.tsql_tree.specs.declared.definition.TriggerTree.{TriggerTree}
use Rattle.tsql_tree.specs.declared.statement.Argument.{Argument}
use Rattle.tsql_tree.specs.declared.statement.Form.{Form-F}
use Rattle.tsql_tree.specs.declared.statement.Statement.{Statement}
use Rattle.binder.specs.Names.{Layer, form_of, looked_up}
use Rattle.session_vars.specs.declared.Variable.{Variable}
use Rattle.step_model.specs.Ranges.{no_memory}
use Rattle.batch_meaning.specs.declared.errand.Errand.{Errand}
use Rattle.batch_meaning.specs.declared.errand.Way.{Way}
use Rattle.batch_meaning.specs.declared.errand.Way.TheVariants as way
use Rattle.batch_meaning.specs.declared.exit.Exit.{Exit}
use Rattle.batch_meaning.specs.declared.exit.Exit.TheVariants.{On, Leave, Again, Return, Raise, RaiseUp, End}
use Rattle.batch_meaning.specs.declared.failure.Failure.{Failure}
use Rattle.batch_meaning.specs.declared.form.ReadText.{ReadText}
use Rattle.batch_meaning.specs.declared.form.ReadText.TheVariants as text
use Rattle.batch_meaning.specs.declared.home.Home.{Home}
use Rattle.batch_meaning.specs.declared.raised.Raised.{Raised}
use Rattle.batch_meaning.specs.declared.settings.Settings.{Settings}
use Rattle.batch_meaning.specs.declared.stop.Stop.{Stop}
use Rattle.batch_meaning.specs.declared.stop.Stop.TheVariants.{Failed, Left}
use Rattle.batch_meaning.specs.Asking.{fails, fails_naming, with_room}
use Rattle.batch_meaning.specs.Calls.{Call, call_vars, depth_limit, finds_call, no_procedure, too_deep}
use Rattle.batch_meaning.specs.Cursors.{closes_cursor, declares_cursor, fetches_cursor, opens_cursor, removes_cursor}
use Rattle.batch_meaning.specs.Databases.{uses_database}
use Rattle.batch_meaning.specs.Doing.{Doing, makes, over, reads, ◌then◌}
use Rattle.batch_meaning.specs.Failures.{plain}
use Rattle.batch_meaning.specs.Firing.{closes_own, in_trigger, leaves_fired, relaxes_then, trigger_end, undone_to}
use Rattle.batch_meaning.specs.Meaning.{Meaning, batch, begins_first, begun_unseen, behind_unseen, branch, calls, concluded, concludes, counted, decides, defined, defines_object, does, doomed_write, each_of, effect_of, ends, fails_for, fires, goes_on, handled, is_refused_doomed, mean_by, mean_form, mean_of, puts_object, raises, raises_again, raises_or_tells, returns_from, runs_body, runs_call, runs_fired, runs_text, runs_trigger, runs_triggers, sets_option, spends, succeeds, tells, tries, turned, turns, turns_again, unless_stopped, writes, writes_in, written, written_in, written_with}
use Rattle.batch_meaning.specs.Rpc.{behind_batch, ends_rpc, execs, fails_call, finds_named, finds_read as finds_defined, goes_on_with, is_too_many, leaves_body, mismatch, no_statement, object_in, rpc, rpc_arguments, rpc_statement, runs_exec, runs_rpc, runs_sql, runs_way, skips_place, tells_unless}
use Rattle.batch_meaning.specs.Progress as step
use Rattle.batch_meaning.specs.Progress.{SessionProgress, statement_limit}
use Rattle.batch_meaning.specs.Raised.{Around, Fired, around_batch, in_body, in_catch, in_try}
use Rattle.batch_meaning.specs.Selecting.{Effect, no_effect}
use Rattle.batch_meaning.specs.Statements.{vars_of}
use Rattle.batch_meaning.specs.Transactions.{begins_outermost, begins_transaction, commits_transaction, next_serial, rolls_back_transaction, saves_transaction}
use Rattle.batch_meaning.specs.Unseen.{is_unseen, wants_begin}
use Rattle.batch_meaning.specs.Values.{is_message, outside_limits}
use Rattle.batch_meaning.specs.Working.{asks_any, binds, composes, enters, known_by, leaves, relaxes, statuses, tests, works}
use Rattle.batch_meaning.specs.Writes.{Written, change_bound, creates_definition, creates_table, drops}
use Rattle.step_model.specs.declared.manner.Manner.{Manner}
use Rattle.statement_paths.proofs.Only.{AnyStep, only_if, only_naming, only_room}
use Rattle.sound_laws.proofs.Cursors.{closes_still, declares_still, fetches_still, opens_still, removes_still, uses_still, within_still}
use Rattle.sound_laws.proofs.Meanings.{again_still, begins_still, behind_still, binds_still, commits_still, counted_still, defined_still, ends_still, fails_call_still, fails_still, finds_call_still, fired_left_still, leaves_still_call, option_still, outermost_still, own_end_still, raises_still, returns_still, rolls_still, rpc_ends_still, saves_still, succeeds_still, then_relaxed_still, undone_still, unless_still}
use Rattle.sound_laws.proofs.Statements.{composes_still, enters_still, leaves_still, relaxes_still, status_still, tests_still, work_still}
use Rattle.sound_laws.proofs.Steps.{IsStill}
use Rattle.sound_laws.proofs.Targets.{target_of}
use Rattle.sound_laws.proofs.Trees.{WritesNothing}
use Rattle.batch_meaning.specs.Working.{composes_bound, status_bound, tests_bound, works_bound}
use Rattle.sure_laws.proofs.Defining.{creates_surely, defines_surely, surely_if, surely_still, surely_then}
use Rattle.sure_laws.proofs.Dropping.{drops_surely}
use Rattle.sure_laws.proofs.Preparing.{change_surely}
use Rattle.sure_laws.proofs.Trees.{Surely as IsSurely}

module _ (manner : Manner) where
  -- whatever was asked before it
  abbrev Surely : {A : Type 0} → Doing A → Type 0
  Surely tree = IsSurely manner tree

  -- by what the work came to
  concludes_surely : {A : Type 0} (around : Around) (statement : Statement) (go : A → Doing Exit) (work : Doing (Result A Failure)) → Surely work → ((a : A) → Surely (go a)) → Surely (concludes around statement go work)
  unfolding concludes
  concludes_surely {A} around statement go work first second = surely_then manner work (λ came. concluded around statement go came) first by_came
    where
      by_came : (came : Result A Failure) → Surely (concluded around statement go came)
      by_came (Ok a) = second a
      by_came (Err failure) = surely_still manner (fails_for around statement failure) (fails_still around statement failure)

  does_surely : (around : Around) (statement : Statement) (exit : Exit) (work : Doing (Result Effect Failure)) → Surely work → Surely (does around statement exit work)
  unfolding does
  does_surely around statement exit work first =
      concludes_surely around statement (λ effect. succeeds statement effect (over exit)) work first (λ effect. surely_still manner (succeeds statement effect (over exit)) (succeeds_still statement effect (over exit) tt))

  still_does : (around : Around) (statement : Statement) (exit : Exit) (work : Doing (Result Effect Failure)) → WritesNothing work → Surely (does around statement exit work)
  still_does around statement exit work still = does_surely around statement exit work (surely_still manner work still)

  tells_surely : (around : Around) (statement : Statement) → Surely (tells around statement)
  unfolding tells composes
  tells_surely around statement = concludes_surely around statement (raises_or_tells around statement) (composes around statement)
      (surely_still manner (composes around statement) (within_still around statement (composes_bound around statement) (composes_still around statement)))
      (λ raised. surely_still manner (raises_or_tells around statement raised) (only_if AnyStep IsStill (is_message raised) (succeeds statement _ (over On)) (counted (form_of statement) 0 (raises around statement raised))
      (succeeds_still statement _ (over On) tt) (counted_still (form_of statement) 0 (raises around statement raised) (raises_still around statement raised))))

  decides_surely : (around : Around) (statement : Statement) (go : Bool → Doing Exit) → ((holds : Bool) → Surely (go holds)) → Surely (decides around statement go)
  unfolding decides tests
  decides_surely around statement go all = concludes_surely around statement (λ holds. makes (step.tells_error (pos 0)) (go holds)) (tests around statement)
      (surely_still manner (tests around statement) (within_still around statement (tests_bound around) (tests_still around))) (λ holds. all holds)

  -- ---- statements one after another

  -- each statement, whatever stands around it
  abbrev AllSurely : (Statement → Meaning) → Type 0
  AllSurely one = (statement : Statement) (around : Around) → Surely (one statement around)

  goes_surely : (next : Doing Exit) → Surely next → (exit : Exit) → Surely (goes_on next exit)
  goes_surely next sure On = sure
  goes_surely next sure Leave = λ before. tt
  goes_surely next sure Again = λ before. tt
  goes_surely next sure (Return status) = λ before. tt
  goes_surely next sure (Raise raised) = λ before. tt
  goes_surely next sure (RaiseUp raised) = λ before. tt
  goes_surely next sure End = λ before. tt

  each_surely : (one : Statement → Meaning) (statements : List Statement) (around : Around) → AllSurely one → Surely (each_of one statements around)
  unfolding each_of
  each_surely one [] around all = λ before. tt
  each_surely one (statement ∷ others) around all =
      surely_then manner (one statement around) (λ exit. goes_on (each_of one others around) exit) (all statement around) (goes_surely (each_of one others around) (each_surely one others around all))

  handled_surely : (handler : Raised → Doing Exit) → ((raised : Raised) → Surely (handler raised)) → (exit : Exit) → Surely (handled handler exit)
  handled_surely handler all (Raise raised) = all raised
  handled_surely handler all On = λ before. tt
  handled_surely handler all Leave = λ before. tt
  handled_surely handler all Again = λ before. tt
  handled_surely handler all (Return status) = λ before. tt
  handled_surely handler all (RaiseUp raised) = λ before. tt
  handled_surely handler all End = λ before. tt

  turned_surely : (again : Doing Exit) → Surely again → (left : Option Exit) → Surely (turns_again again left)
  turned_surely again sure None = sure
  turned_surely again sure (Some exit) = λ before. tt

  module _ (one : Statement → Meaning) (all : AllSurely one) (around : Around) (statement : Statement) where
    branch_surely : (so : Statement) (otherwise : Option Statement) (holds : Bool) → Surely (branch one around so otherwise holds)
    branch_surely so otherwise true = all so around
    branch_surely so None false = λ before. tt
    branch_surely so (Some other) false = all other around

    turn_surely : (body : Statement) (holds : Bool) → Surely (turns one around statement body holds)
    turn_surely body true = surely_then manner (one body around) (λ exit. turns_again (one statement around) (turned exit)) (all body around) (λ exit. turned_surely (one statement around) (all statement around) (turned exit))
    turn_surely body false = λ before. tt

    tries_surely : (body handler : List Statement) → Surely (tries one around body handler)
    unfolding tries
    tries_surely body handler =
        surely_then manner (each_of one body (in_try around)) (λ exit. handled (λ raised. each_of one handler (in_catch raised around)) exit) (each_surely one body (in_try around) all)
        (handled_surely (λ raised. each_of one handler (in_catch raised around)) (λ raised. each_surely one handler (in_catch raised around) all))

    body_surely : (vars : List Variable) (settings : Settings → Settings) (body : List Statement) (inside : Around) → Surely (runs_body one vars settings body inside)
    unfolding runs_body
    body_surely vars settings body inside = λ before p. surely_then manner (each_of one body inside) _ (each_surely one body inside all) (λ exit behind inner. tt) before

    -- EXEC
    run_surely : (status : Option (List ℕ)) (arguments : List Argument) (call : Call) → Surely (runs_call one around statement status arguments call)
    unfolding runs_call
    run_surely status arguments call = λ before p. surely_then manner (runs_body one (call_vars call) (λ settings. settings) call.procedure.body (in_body call.procedure.name None around)) _
        (body_surely (call_vars call) (λ settings. settings) call.procedure.body (in_body call.procedure.name None around))
        (λ came. surely_still manner (returns_from around statement status arguments call p.txn.count came.1 came.0) (returns_still around statement status arguments call p.txn.count came.1 came.0)) before

    calls_surely : (status : Option (List ℕ)) (name : List ℕ) (arguments : List Argument) → Surely (calls one around statement status name arguments)
    unfolding calls
    calls_surely status name arguments = concludes_surely around statement (runs_call one around statement status arguments) (finds_call around statement status name arguments)
        (surely_still manner (finds_call around statement status name arguments) (finds_call_still around statement status name arguments)) (λ call. run_surely status arguments call)

    -- triggers
    trigger_surely : (fired : Fired) (trigger : TriggerTree) → Surely (runs_trigger one around fired trigger)
    unfolding runs_trigger
    trigger_surely fired trigger = surely_then manner (runs_body one (vars_of trigger.body) in_trigger trigger.body (in_body trigger.name (Some fired) around)) _
        (body_surely (vars_of trigger.body) in_trigger trigger.body (in_body trigger.name (Some fired) around)) (λ came before. tt)

    stopped_surely : (next : Doing (Result (Unit {0}) Stop)) (came : Result (Unit {0}) Stop) → Surely next → Surely (unless_stopped one next came)
    stopped_surely next (Ok done) sure = sure
    stopped_surely next (Err stop) sure = λ before. tt

    triggers_surely : (w : Written) (triggers : List TriggerTree) → Surely (runs_triggers one around w triggers)
    unfolding runs_triggers
    triggers_surely w [] = λ before p. tt
    triggers_surely w (trigger ∷ triggers) = surely_then manner (runs_trigger one around w.fired trigger) _ (trigger_surely w.fired trigger)
        (λ exit before p. stopped_surely (runs_triggers one around w triggers) (trigger_end exit p) (triggers_surely w triggers) before)

    fired_surely : (w : Written) → Surely (runs_fired one around w)
    unfolding runs_fired
    fired_surely w = surely_if manner (nat_le depth_limit around.depth) (over (Err (Failed (plain too_deep)))) (runs_triggers one around w w.fires) (λ before. tt) (triggers_surely w w.fires)

    fires_surely : (home : Home) (w : Written) → Surely (fires one around home w)
    unfolding fires
    fires_surely home w = surely_then manner relaxes _ (surely_still manner relaxes relaxes_still) (λ done before enough. by_room enough before)
      where
        Firing : Doing (Result Effect Stop)
        Firing = reads λ p. makes (step.fires_from w.mark) (runs_fired one around w then λ came. leaves_fired home w.mark p.stands (is_ok came) then λ done. over (effect_of one w.effect came))

        Undoing : Doing (Result Effect Stop)
        Undoing = undone_to w.mark true (relaxes_then (closes_own home false)) then λ done. over (Err (Failed (plain no_memory)))

        firing : Surely Firing
        firing = λ before p. surely_then manner (runs_fired one around w) _ (fired_surely w)
            (λ came. surely_then manner (leaves_fired home w.mark p.stands (is_ok came)) _ (surely_still manner (leaves_fired home w.mark p.stands (is_ok came)) (fired_left_still home w.mark p.stands (is_ok came))) (λ done before. tt)) before

        undoing : Surely Undoing
        undoing = surely_then manner (undone_to w.mark true (relaxes_then (closes_own home false))) _
            (surely_still manner (undone_to w.mark true (relaxes_then (closes_own home false))) (undone_still w.mark true (relaxes_then (closes_own home false)) (then_relaxed_still (closes_own home false) (own_end_still home false))))
            (λ done before. tt)

        by_room : (enough : Bool) → Surely (if enough then Firing else Undoing)
        by_room true = firing
        by_room false = undoing

    -- a write
    with_surely : (home : Home) (w : Written) (triggers : List TriggerTree) → Surely (written_with one around home w triggers)
    with_surely home w [] = surely_then manner (leaves home true) _ (surely_still manner (leaves home true) (leaves_still home true)) (λ done before. tt)
    with_surely home w (trigger ∷ triggers) = fires_surely home w

    written_surely : (home : Home) (came : Result Written Failure) → Surely (written_in one around home came)
    written_surely home (Ok w) = with_surely home w w.fires
    written_surely home (Err failure) = surely_then manner (leaves home false) _ (surely_still manner (leaves home false) (leaves_still home false)) (λ done before. tt)

    writes_surely : (table : List ℕ) → target_of (form_of statement) ≡ Some table → Surely (writes one around statement)
    unfolding writes
    writes_surely table of_form = λ before enough. by_room enough before
      where
        by_home : (home : Result Home Failure) → Surely (writes_in one around statement home)
        by_home (Ok home) = surely_then manner (binds around statement (change_bound around)) _ (change_surely manner around statement table of_form) (written_surely home)
        by_home (Err failure) = λ before. tt

        by_room : (enough : Bool) → Surely (if enough then (enters (asks_any (known_by around statement) (looked_up statement)) then writes_in one around statement) else over (Err (Failed (plain no_memory))))
        by_room true = surely_then manner (enters (asks_any (known_by around statement) (looked_up statement))) _ (surely_still manner (enters (asks_any (known_by around statement) (looked_up statement))) (enters_still (asks_any (known_by around statement) (looked_up statement)))) by_home
        by_room false = λ before. tt

    write_surely : (table : List ℕ) → target_of (form_of statement) ≡ Some table → Surely (writes one around statement then written around statement)
    write_surely table of_form = surely_then manner (writes one around statement) (written around statement) (writes_surely table of_form) by_came
      where
        by_came : (came : Result Effect Stop) → Surely (written around statement came)
        by_came (Ok effect) = surely_still manner (succeeds statement effect (over On)) (succeeds_still statement effect (over On) tt)
        by_came (Err (Failed failure)) = surely_still manner (fails_for around statement failure) (fails_still around statement failure)
        by_came (Err (Left exit)) = λ before. tt

    form_surely : (form : Layer) → form_of statement ≡ form → Surely (mean_form one around statement form)
    unfolding mean_form statuses works
    form_surely (Form-F.If test so otherwise) is = decides_surely around statement (branch one around so otherwise) (branch_surely so otherwise)
    form_surely (Form-F.While test body) is = decides_surely around statement (turns one around statement body) (turn_surely body)
    form_surely Form-F.Break is = λ before. tt
    form_surely Form-F.Continue is = λ before. tt
    form_surely (Form-F.Block body) is = each_surely one body around all
    form_surely (Form-F.TryCatch body handler) is = tries_surely body handler
    form_surely (Form-F.Print value) is = tells_surely around statement
    form_surely (Form-F.RaiseError value class state) is = tells_surely around statement
    form_surely (Form-F.Throw number value state) is = tells_surely around statement
    form_surely Form-F.ThrowAgain is = surely_still manner (raises_again around statement around.caught) (again_still around statement around.caught)
    form_surely (Form-F.Return value) is = concludes_surely around statement (λ status. succeeds statement no_effect (over (Return status))) (statuses around statement)
        (surely_still manner (statuses around statement) (within_still around statement (status_bound around) (status_still around)))
        (λ status. surely_still manner (succeeds statement no_effect (over (Return status))) (succeeds_still statement no_effect (over (Return status)) tt))
    form_surely (Form-F.SetOption option) is = surely_still manner (sets_option around statement option) (option_still around statement option)
    form_surely (Form-F.BeginTransaction name) is = still_does around statement On (begins_transaction statement name) (begins_still statement name)
    form_surely (Form-F.Commit name) is = still_does around statement On (commits_transaction name) (commits_still name)
    form_surely (Form-F.Rollback name) is = still_does around statement On (rolls_back_transaction name) (rolls_still name)
    form_surely (Form-F.Save name) is = still_does around statement On (saves_transaction statement name) (saves_still statement name)
    form_surely (Form-F.CreateTable table text) is = does_surely around statement On (creates_table around statement table.name text) (creates_surely manner around statement table.name text)
    form_surely (Form-F.Drop kind name) is = does_surely around statement On (drops around statement kind name) (drops_surely manner around statement kind name is)
    form_surely (Form-F.Insert table columns rows) is = write_surely table (ap target_of is)
    form_surely (Form-F.Update table assignments filter) is = write_surely table (ap target_of is)
    form_surely (Form-F.Delete table filter) is = write_surely table (ap target_of is)
    form_surely (Form-F.Execute status name arguments) is = calls_surely status name arguments
    form_surely (Form-F.DeclareCursor name select) is = still_does around statement On (declares_cursor statement name select) (declares_still statement name select)
    form_surely (Form-F.OpenCursor name) is = still_does around statement On (opens_cursor around statement name) (opens_still around statement name)
    form_surely (Form-F.Fetch name variables) is = still_does around statement On (fetches_cursor statement name variables) (fetches_still statement name variables)
    form_surely (Form-F.CloseCursor name) is = still_does around statement On (closes_cursor statement name) (closes_still statement name)
    form_surely (Form-F.Deallocate name) is = still_does around statement On (removes_cursor statement name) (removes_still statement name)
    form_surely (Form-F.Use name) is = still_does around statement On (uses_database around statement name) (uses_still around statement name)
    form_surely form is = still_does around statement On (works around statement) (within_still around statement (works_bound around (form_of statement)) (work_still around (form_of statement)))

    by_surely : Surely (mean_by one statement around)
    unfolding mean_by
    by_surely = λ before p. surely_if manner (p.txn.doomed && is_refused_doomed (form_of statement)) (fails_for around statement (plain doomed_write)) (mean_form one around statement (form_of statement))
        (surely_still manner (fails_for around statement (plain doomed_write)) (fails_still around statement (plain doomed_write))) (form_surely (form_of statement) refl) before

  -- behind a transaction that is begun unseen
  unseen_surely : (wants : SessionProgress → Bool) (fails : Failure → Doing Exit) (next : Doing Exit) → ((failure : Failure) → WritesNothing (fails failure)) → Surely next → Surely (begun_unseen wants fails next)
  unfolding begun_unseen
  unseen_surely wants fails next still sure = λ before p. surely_if manner (wants p) (begins_first fails next p) next
      (surely_then manner (with_room (begins_outermost None (next_serial p.txn))) (λ came. behind_unseen fails next came)
      (surely_still manner (with_room (begins_outermost None (next_serial p.txn))) (only_room AnyStep IsStill (begins_outermost None (next_serial p.txn)) (outermost_still None (next_serial p.txn)))) by_came) sure before
    where
      by_came : (came : Result Effect Failure) → Surely (behind_unseen fails next came)
      by_came (Ok effect) = sure
      by_came (Err failure) = surely_still manner (fails failure) (still failure)

  spends_surely : (statement : Statement) (around : Around) → Surely (spends statement around)
  spends_surely statement around = surely_still manner (spends statement around) (raises_still around statement _)

  pub mean_surely : (levels : ℕ) → AllSurely (λ inner at. mean_of levels inner at)
  unfolding mean_of
  mean_surely zero statement around = spends_surely statement around
  mean_surely (suc levels) statement around = λ before p.
      surely_if manner (p.statements_left == 0) (spends statement around) (makes step.counts (begun_unseen (λ q. is_unseen q (form_of statement)) (fails_for around statement) (mean_by (λ inner at. mean_of levels inner at) statement around))) (spends_surely statement around)
      (unseen_surely (λ q. is_unseen q (form_of statement)) (fails_for around statement) (mean_by (λ inner at. mean_of levels inner at) statement around) (λ failure. fails_still around statement failure)
      (by_surely (λ inner at. mean_of levels inner at) (mean_surely levels) around statement)) before

  -- ---- batches

  puts_surely : (line : ℤ) (of : Definition) (kept : List ℕ) → Surely (puts_object line of kept)
  unfolding puts_object
  puts_surely line of kept = λ before p. surely_if manner p.txn.doomed (defined line (Err (plain doomed_write))) (creates_definition of kept then defined line) (surely_still manner (defined line (Err (plain doomed_write))) (defined_still line (Err (plain doomed_write))))
      (surely_then manner (creates_definition of kept) (defined line) (defines_surely manner of kept) (λ came. surely_still manner (defined line came) (defined_still line came))) before

  object_surely : (line : ℤ) (of : Definition) (kept : List ℕ) → Surely (defines_object line of kept)
  unfolding defines_object
  object_surely line of kept = unseen_surely (λ p. wants_begin p) (λ failure. defined line (Err failure)) (puts_object line of kept) (λ failure. defined_still line (Err failure)) (puts_surely line of kept)

  text_surely : (read : ReadText) → Surely (runs_text read)
  text_surely (text.Statements statements) = each_surely (λ inner at. mean_of statement_limit inner at) statements around_batch (mean_surely statement_limit)
  text_surely (text.Defines line of kept) = object_surely line of kept
  text_surely (text.Refused line code near) = λ before. tt

  pub batch_surely : (read : ReadText) → Surely (batch read)
  unfolding batch
  batch_surely read = surely_then manner (runs_text read) ends (text_surely read) (λ exit. surely_still manner (ends exit) (ends_still exit))

  -- ---- calls by RPC

  module _ (call : Errand) where
    exec_surely : (of : Call) → Surely (runs_exec (λ inner at. mean_of statement_limit inner at) call of)
    unfolding runs_exec
    exec_surely of = λ before p. surely_then manner (runs_body (λ inner at. mean_of statement_limit inner at) (call_vars of) (λ settings. settings) of.procedure.body (in_body of.procedure.name None around_batch)) _
        (body_surely (λ inner at. mean_of statement_limit inner at) (mean_surely statement_limit) around_batch (rpc_statement of.procedure.name (rpc_arguments call)) (call_vars of) (λ settings. settings) of.procedure.body (in_body of.procedure.name None around_batch))
        (λ came. surely_still manner (leaves_body call of p.txn.count came.1 came.0) (leaves_still_call call of p.txn.count came.1 came.0)) before

    execs_surely : (finds : Doing (Result Call Failure)) → WritesNothing finds → Surely (execs (λ inner at. mean_of statement_limit inner at) call finds)
    execs_surely finds still = surely_then manner finds _ (surely_still manner finds still) by_came
      where
        by_came : (came : Result Call Failure) → Surely (goes_on_with (runs_exec (λ inner at. mean_of statement_limit inner at) call) came)
        by_came (Ok of) = exec_surely of
        by_came (Err failure) = surely_still manner (fails_call failure) (fails_call_still failure)

    naming_surely : (number : ℕ) (name : List ℕ) → Surely (execs (λ inner at. mean_of statement_limit inner at) call (fails_naming number name))
    naming_surely number name = execs_surely (fails_naming number name) (only_naming AnyStep IsStill Call number name)

    named_surely : (name : List ℕ) (object : Option (List ℕ)) → Surely (execs (λ inner at. mean_of statement_limit inner at) call (finds_named call name object))
    named_surely name None = naming_surely no_procedure name
    named_surely name (Some object) = execs_surely (finds_named call name (Some object)) (finds_call_still around_batch (rpc_statement object (rpc_arguments call)) None object (rpc_arguments call))

    -- where no procedure was read
    unread_surely : Surely (execs (λ inner at. mean_of statement_limit inner at) call (finds_defined call None))
    unread_surely = execs_surely (finds_defined call None) tt

    read_surely : (read : ReadText) → Surely (runs_sql (λ inner at. mean_of statement_limit inner at) call read)
    read_surely (text.Statements statements) = unread_surely
    read_surely (text.Defines line (Table table) kept) = unread_surely
    read_surely (text.Defines line (Procedure procedure) kept) = execs_surely (finds_defined call (Some procedure)) (binds_still call procedure)
    read_surely (text.Defines line (Trigger trigger) kept) = unread_surely
    read_surely (text.Refused line code near) = λ before. tt

    way_surely : (read : ReadText) (of : Way) → Surely (runs_way (λ inner at. mean_of statement_limit inner at) call read of)
    way_surely read (way.LooksUp name) = named_surely name (object_in read)
    way_surely read (way.RunsRead many) = read_surely read
    way_surely read way.RunsBatch = surely_then manner (runs_text read) (behind_batch call) (text_surely read) (λ exit. surely_still manner (behind_batch call exit) (behind_still call exit))
    way_surely read way.Tells = surely_still manner (tells_unless call read) (unless_still call read)
    way_surely read way.Unmatched = surely_still manner (fails_call mismatch) (fails_call_still mismatch)
    way_surely read (way.Unknown handle) = naming_surely no_statement handle

  pub call_surely : (call : Errand) (read : ReadText) → Surely (rpc call read)
  unfolding rpc runs_rpc
  call_surely call read = surely_then manner (runs_rpc (λ inner at. mean_of statement_limit inner at) call read) ends_rpc
      (surely_if manner (is_too_many call) (fails_call (plain outside_limits)) _ (surely_still manner (fails_call (plain outside_limits)) (fails_call_still (plain outside_limits)))
      (surely_if manner (skips_place call) (fails_call mismatch) _ (surely_still manner (fails_call mismatch) (fails_call_still mismatch)) (way_surely call read call.way)))
      (λ exit. surely_still manner (ends_rpc exit) (rpc_ends_still exit))
