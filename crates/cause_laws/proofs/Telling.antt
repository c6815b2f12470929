-- Each statement shows the cause of the errors of locks that it and those that it runs tell: by induction on the levels of statements. One that runs others has told no error before
-- them, though it may have begun a transaction unseen, and asks for no lock behind them.
use Rattle.std.proofs.Common.{◌≡◌, ◌⊎◌, inl, inr, refl, sym, subst, ℕ, zero, suc, pos, List, [], ◌∷◌, ◌++◌, Option, Some, None, Bool, true, false, Result, Ok, Err, is_ok, if◌then◌else◌, ◌==◌}
use Rattle.std.specs.Prelude.{◌&&◌, nat_le, nat_lt}
use Rattle.tsql_tree.specs.declared.definition.TriggerTree.{TriggerTree}
use Rattle.tsql_tree.specs.declared.statement.Argument.{Argument}
use Rattle.tsql_tree.specs.declared.statement.Form.{Form-F}
use Rattle.tsql_tree.specs.declared.statement.Statement.{Statement}
use Rattle.bound_tree.specs.declared.write.BoundWrite.{BoundWrite}
use Rattle.binder.specs.Names.{Layer, form_of, looked_up}
use Rattle.session_vars.specs.declared.Variable.{Variable}
use Rattle.step_model.specs.declared.change.Planned.{Planned}
use Rattle.step_model.specs.Exchange.{Exchange}
use Rattle.step_model.specs.Ranges.{no_memory}
use Rattle.txn_rules.specs.State.{is_closed}
use Rattle.tds_tokens.specs.declared.token.Token.{Token}
use Rattle.batch_meaning.specs.declared.exit.Exit.{Exit}
use Rattle.batch_meaning.specs.declared.exit.Exit.TheVariants.{On, Leave, Again, Return, Raise, RaiseUp, End}
use Rattle.batch_meaning.specs.declared.failure.Failure.{Failure}
use Rattle.batch_meaning.specs.declared.home.Home.{Home}
use Rattle.batch_meaning.specs.declared.raised.Raised.{Raised}
use Rattle.batch_meaning.specs.declared.settings.Settings.{Settings}
use Rattle.batch_meaning.specs.declared.stop.Stop.{Stop}
use Rattle.batch_meaning.specs.declared.stop.Stop.TheVariants.{Failed, Left}
use Rattle.batch_meaning.specs.Asking.{with_room}
use Rattle.batch_meaning.specs.Calls.{Call, call_vars, depth_limit, finds_call, too_deep}
use Rattle.batch_meaning.specs.Changing.{told_by, write_command}
use Rattle.batch_meaning.specs.Doing.{Doing, makes, never, over, reads, room, ◌then◌, Held}
use Rattle.batch_meaning.specs.Failures.{plain}
use Rattle.batch_meaning.specs.Firing.{closes_own, ended_in_trigger, doomed_in_trigger, in_trigger, leaves_fired, relaxes_then, trigger_end, undone_to}
use Rattle.batch_meaning.specs.Meaning.{Meaning, begins_first, begun_unseen, behind_unseen, branch, calls, concluded, concludes, decides, doomed_write, each_of, effect_of, fails_for, fires, goes_on, handled, is_refused_doomed, line_of, mean_by, mean_form, mean_of, returns_from, runs_body, runs_call, runs_fired, runs_trigger, runs_triggers, spends, statements_spent, succeeds, tries, turned, turns, turns_again, unless_stopped, writes, writes_in, written, written_in, written_with}
use Rattle.batch_meaning.specs.Progress.{SessionProgress, SessionStep, counts, fires_from, sends, sets, size_of, stands_with, tells_error, tells_rows}
use Rattle.batch_meaning.specs.Raised.{Around, in_body, in_catch, in_try, raised_in}
use Rattle.batch_meaning.specs.Selecting.{Effect, result_full}
use Rattle.batch_meaning.specs.Statements.{vars_of}
use Rattle.batch_meaning.specs.Tokens.{done_kind}
use Rattle.batch_meaning.specs.Transactions.{begins_outermost, next_serial}
use Rattle.batch_meaning.specs.Unseen.{is_unseen}
use Rattle.batch_meaning.specs.Working.{asks_any, binds, enters, known_by, leaves, relaxes, tests}
use Rattle.batch_meaning.specs.Writes.{Written, change_bound}
use Rattle.statement_paths.proofs.Apart.{held_apart, held_then}
use Rattle.cause_laws.specs.Causes.{IsOther, LockError}
use Rattle.cause_laws.specs.Statements.{Leaves, Raises, Runs, alone, tree_by}
use Rattle.cause_laws.proofs.UsualValues.{Anything}
use Rattle.cause_laws.proofs.Watch.{TellsNone}
use Rattle.cause_laws.proofs.CleanParts.{done_other}
use Rattle.cause_laws.proofs.Causes.{clean_fails, clean_leaving, clean_raises, clean_returns, clean_succeeds}
use Rattle.cause_laws.proofs.Locks.{lock_other}
use Rattle.cause_laws.proofs.Silent.{IsSilent, OkIs, Silent, silent_binds, silent_call, silent_enters, silent_outermost, silent_relaxes, silent_room, silent_tests}
use Rattle.cause_laws.proofs.Alone.{runs_shown}
use Rattle.cause_laws.proofs.Unlocked.{unlocked_fails, unlocked_leaving, unlocked_raises, unlocked_returns, unlocked_succeeds}
use Rattle.cause_laws.proofs.Shown.{Carried, Found, Ours, Shown, Shows, View, at_zero, exits, found_behind, found_caught, plainly, shown_both, shown_then, shows_clean, shows_end, shows_makes, shows_more, shows_over, shows_reads, shows_silent, shows_then}

-- ---- views

-- how a body was left
abbrev pub bodies : View (Exit × List Variable)
bodies = record { Way = λ came raised. Leaves raised came.0; Fine = Anything }

module _ (error : LockError) where
  -- why a write that fires triggers goes no further
  abbrev StopWay : Stop → Raised → Type 0
  StopWay (Left exit) raised = Leaves raised exit
  StopWay (Failed failure) raised = ⊥

  abbrev StopFine : Stop → Type 0
  StopFine (Left exit) = Unit {0}
  StopFine (Failed failure) = IsOther error failure.number

  abbrev stops : {A : Type 0} → (A → Type 0) → View (Result A Stop)
  stops {A = A} P = record { Way = way; Fine = fine }
    where
      way : Result A Stop → Raised → Type 0
      way (Ok a) raised = ⊥
      way (Err stop) raised = StopWay stop raised

      fine : Result A Stop → Type 0
      fine (Ok a) = P a
      fine (Err stop) = StopFine stop

  -- an effect tells none
  abbrev Untold : Effect → Type 0
  Untold effect = TellsNone (at_zero error None (λ raised. ⊥)) effect.tokens

  -- ---- what runs no other statement, or shows what it tells

  -- by the meaning of the statements that it runs
  module _ (one : Statement → Meaning) where
    abbrev pub Splits : {A : Type 0} → Option Raised → (Raised → Type 0) → View A → ((Statement → Meaning) → Doing A) → Type 0
    Splits {A = A} caught Before view tree = (p new : SessionProgress) (exchanges : List Exchange) (a : A) → Held (tree one) p exchanges a new → Held (tree (λ inner at. never)) p exchanges a new ⊎ Shown error caught Before view (tree one) p exchanges a new

    module _ (caught : Option Raised) (Before : Raised → Type 0) where
      pub splits_same : {A : Type 0} (view : View A) (tree : Doing A) → Splits caught Before view (λ m. tree)
      splits_same view tree p new exchanges a held = inl held

      pub splits_shows : {A : Type 0} (view : View A) (tree : (Statement → Meaning) → Doing A) → Shows error caught Before view (tree one) → Splits caught Before view tree
      splits_shows view tree shows p new exchanges a held = inr (shows p new exchanges a held)

      -- behind what tells no error of a lock without its cause
      splits_then : {A B : Type 0} (P : A → Type 0) (view : View B) (work : Doing A) (go : (Statement → Meaning) → A → Doing B) → Shows error caught Before (plainly P) work → ((a : A) → P a → Splits caught Before view (λ m. go m a)) → Splits caught Before view (λ m. work then go m)
      splits_then {A = A} P view work go shows each p new exchanges b held =
          let on = held_apart work (go one) p new exchanges b held in
          let s1 = shows p on.mid on.front on.came on.held in
          by_rest on.front on.back on.came on.mid on.parts on.held on.rest s1 (each on.came s1.fine on.mid new on.back b on.rest)
        where
          by_rest : (front back : List Exchange) (came : A) (mid : SessionProgress) → exchanges ≡ front ++ back → Held work p front came mid → Held (go one came) mid back b new → Shown error caught Before (plainly P) work p front came mid
              → Held (go (λ inner at. never) came) mid back b new ⊎ Shown error caught Before view (go one came) mid back b new
              → Held (work then go (λ inner at. never)) p exchanges b new ⊎ Shown error caught Before view (work then go one) p exchanges b new
          by_rest front back came mid parts was rest s1 (inl by_itself) = inl (subst (λ (l : List Exchange). Held (work then go (λ inner at. never)) p l b new) (sym parts) (held_then work (go (λ inner at. never)) p mid new front back came b was by_itself))
          by_rest front back came mid parts was rest s1 (inr s2) = inr (subst (λ (l : List Exchange). Shown error caught Before view (work then go one) p l b new) (sym parts)
              (shown_then error caught Before (plainly P) view work (go one) p mid new front back came b was rest s1 (more s2)))
            where
              more : Shown error caught Before view (go one came) mid back b new → Shown error caught (Carried error (plainly P) came Before) view (go one came) mid back b new
              more s = record { sent = s.sent; tokens = s.tokens; told = s.told; fine = s.fine; left = λ raised way ours. by_left raised (s.left raised way ours) }
                where
                  by_left : (raised : Raised) → Found error caught (Raises raised) (go one came) mid back b new ⊎ Before raised → Found error caught (Raises raised) (go one came) mid back b new ⊎ Carried error (plainly P) came Before raised
                  by_left raised (inl found) = inl found
                  by_left raised (inr before) = inr (inr before)

      -- behind what sends nothing
      pub splits_behind : {A B : Type 0} (P : A → Type 0) (view : View B) (work : Doing A) (go : (Statement → Meaning) → A → Doing B) → Silent P work → ((a : A) → P a → Splits caught Before view (λ m. go m a)) → Splits caught Before view (λ m. work then go m)
      splits_behind P view work go silent each = splits_then P view work go (shows_silent error caught Before P work silent) each

      -- and in front of what runs no other
      splits_front : {A B : Type 0} (first : View A) (view : View B) (tree : (Statement → Meaning) → Doing A) (go : (Statement → Meaning) → A → Doing B) → ((a : A) → go one a ≡ go (λ inner at. never) a) → Splits caught Before first tree
          → ((a : A) → first.Fine a → Shows error caught (Carried error first a Before) view (go one a)) → Splits caught Before view (λ m. tree m then go m)
      splits_front {A = A} first view tree go same splits each p new exchanges b held =
          let on = held_apart (tree one) (go one) p new exchanges b held in by_first on.front on.back on.came on.mid on.parts on.held on.rest (splits p on.mid on.front on.came on.held)
        where
          by_first : (front back : List Exchange) (came : A) (mid : SessionProgress) → exchanges ≡ front ++ back → Held (tree one) p front came mid → Held (go one came) mid back b new
              → Held (tree (λ inner at. never)) p front came mid ⊎ Shown error caught Before first (tree one) p front came mid
              → Held (tree (λ inner at. never) then go (λ inner at. never)) p exchanges b new ⊎ Shown error caught Before view (tree one then go one) p exchanges b new
          by_first front back came mid parts was rest (inl by_itself) = inl (subst (λ (l : List Exchange). Held (tree (λ inner at. never) then go (λ inner at. never)) p l b new) (sym parts)
              (held_then (tree (λ inner at. never)) (go (λ inner at. never)) p mid new front back came b by_itself (subst (λ t. Held t mid back b new) (same came) rest)))
          by_first front back came mid parts was rest (inr s1) = inr (subst (λ (l : List Exchange). Shown error caught Before view (tree one then go one) p l b new) (sym parts)
              (shown_then error caught Before first view (tree one) (go one) p mid new front back came b was rest s1 (each came s1.fine mid new back b rest)))

      splits_reads : {A : Type 0} (view : View A) (look : (Statement → Meaning) → SessionProgress → Doing A) → ((q : SessionProgress) → Splits caught Before view (λ m. look m q)) → Splits caught Before view (λ m. reads (look m))
      unfolding ◌then◌
      splits_reads view look each = splits_behind {A = SessionProgress} Anything view (reads λ p. over p) look (λ p. tt) (λ q any. each q)

      splits_makes : {A : Type 0} (view : View A) (step : SessionStep) (next : (Statement → Meaning) → Doing A) → IsSilent step → Splits caught Before view next → Splits caught Before view (λ m. makes step (next m))
      unfolding ◌then◌
      splits_makes view step next silent splits = splits_behind {A = Unit {0}} Anything view (makes step (over tt)) (λ m done. next m) (silent, tt) (λ done any. splits)

      splits_sends : {A : Type 0} (view : View A) (tokens : List Token) (next : (Statement → Meaning) → Doing A) → TellsNone (at_zero error caught Before) tokens → Splits caught Before view next → Splits caught Before view (λ m. makes (sends tokens) (next m))
      unfolding ◌then◌
      splits_sends view tokens next none splits = splits_then {A = Unit {0}} Anything view (makes (sends tokens) (over tt)) (λ m done. next m)
          (shows_clean error caught Before {A = Unit {0}} Anything (plainly {A = Unit {0}} Anything) (makes (sends tokens) (over tt)) (λ done any. tt) (λ done any raised way ours. way) (none, tt) (tt, tt)) (λ done any. splits)

      splits_room : {A : Type 0} (view : View A) (go : (Statement → Meaning) → Bool → Doing A) → ((enough : Bool) → Splits caught Before view (λ m. go m enough)) → Splits caught Before view (λ m. room (go m))
      unfolding ◌then◌
      splits_room view go each = splits_behind {A = Bool} Anything view (room λ enough. over enough) go (λ enough. tt) (λ enough any. each enough)

      splits_if : {A : Type 0} (view : View A) (test : Bool) (first other : (Statement → Meaning) → Doing A) → Splits caught Before view first → Splits caught Before view other → Splits caught Before view (λ m. if test then first m else other m)
      splits_if view true first other one two = one
      splits_if view false first other one two = two

      -- behind a transaction that is begun unseen
      splits_unseen : (wants : SessionProgress → Bool) (fails : Failure → Doing Exit) (next : (Statement → Meaning) → Doing Exit) → Splits caught Before exits next → Splits caught Before exits (λ m. begun_unseen wants fails (next m))
      unfolding begun_unseen
      splits_unseen wants fails next splits = splits_reads exits (λ m p. if wants p then begins_first fails (next m) p else next m) (λ p. splits_if exits (wants p) (λ m. begins_first fails (next m) p) next
          (splits_behind (OkIs Untold) exits (with_room (begins_outermost None (next_serial p.txn))) (λ m came. behind_unseen fails (next m) came)
          (silent_room Untold (begins_outermost None (next_serial p.txn)) (silent_outermost Untold None (next_serial p.txn) (tt, tt))) by_came) splits)
        where
          by_came : (came : Result Effect Failure) → OkIs Untold came → Splits caught Before exits (λ m. behind_unseen fails (next m) came)
          by_came (Ok effect) untold = splits_sends exits effect.tokens next untold splits
          by_came (Err failure) any = splits_same exits (fails failure)

    -- ---- statements that hold statements

    module _ (each : (inner : Statement) (at : Around) (Before : Raised → Type 0) → Shows error at.caught Before exits (one inner at)) where
      shows_on : (caught : Option Raised) (Before : Raised → Type 0) (next : Doing Exit) → Shows error caught Before exits next → (exit : Exit) → Shows error caught (Carried error exits exit Before) exits (goes_on next exit)
      shows_on caught Before next shows On = shows_more error caught Before (Carried error exits On Before) exits next (λ raised before. inr before) shows
      shows_on caught Before next shows Leave = shows_over error caught (Carried error exits Leave Before) exits Leave tt (λ raised way. inl way)
      shows_on caught Before next shows Again = shows_over error caught (Carried error exits Again Before) exits Again tt (λ raised way. inl way)
      shows_on caught Before next shows (Return status) = shows_over error caught (Carried error exits (Return status) Before) exits (Return status) tt (λ raised way. inl way)
      shows_on caught Before next shows (Raise raised) = shows_over error caught (Carried error exits (Raise raised) Before) exits (Raise raised) tt (λ other way. inl way)
      shows_on caught Before next shows (RaiseUp raised) = shows_over error caught (Carried error exits (RaiseUp raised) Before) exits (RaiseUp raised) tt (λ other way. inl way)
      shows_on caught Before next shows End = shows_over error caught (Carried error exits End Before) exits End tt (λ raised way. inl way)

      pub shows_all : (statements : List Statement) (around : Around) (Before : Raised → Type 0) → Shows error around.caught Before exits (each_of one statements around)
      unfolding each_of
      shows_all [] around Before = shows_over error around.caught Before exits On tt (λ raised way. absurd way)
      shows_all (statement ∷ others) around Before = shows_then error around.caught Before exits exits (one statement around) (λ exit. goes_on (each_of one others around) exit) (each statement around Before)
          (λ exit any. shows_on around.caught Before (each_of one others around) (shows_all others around Before) exit)

      module _ (around : Around) (Before : Raised → Type 0) where
        -- TRY and CATCH
        shows_tries : (body handler : List Statement) → Shows error around.caught Before exits (tries one around body handler)
        unfolding tries
        shows_tries body handler p new exchanges b held =
            let on = held_apart tree catch p new exchanges b held in
            subst (λ (l : List Exchange). Shown error around.caught Before exits (tree then catch) p l b new) (sym on.parts)
            (by_came on.came on.front on.back on.mid on.held on.rest (shows_all body (in_try around) (λ raised. ⊥) p on.mid on.front on.came on.held))
          where
            tree : Doing Exit
            tree = each_of one body (in_try around)

            catch : Exit → Doing Exit
            catch exit = handled (λ raised. each_of one handler (in_catch raised around)) exit

            past : (came : Exit) (front back : List Exchange) (mid : SessionProgress) → Held tree p front came mid → Held (over came) mid back b new → Shown error around.caught (λ raised. ⊥) exits tree p front came mid → catch came ≡ over came
                → Shown error around.caught Before exits (tree then catch) p (front ++ back) b new
            past came front back mid was rest s1 same =
                let rest_so : Held (catch came) mid back b new = subst (λ (t : Doing Exit). Held t mid back b new) (sym same) rest in
                shown_both error tree catch p mid new front back came b was rest_so around.caught around.caught Before (Leaves_of came) exits exits (found_behind error tree catch p mid new front back came b was rest_so around.caught) by_left (less s1)
                (subst (λ (t : Doing Exit). Shown error around.caught (Leaves_of came) exits t mid back b new) (sym same) (shows_over error around.caught (Leaves_of came) exits came tt (λ raised way. way) mid new back b rest))
              where
                Leaves_of : Exit → Raised → Type 0
                Leaves_of exit raised = Leaves raised exit

                less : Shown error around.caught (λ raised. ⊥) exits tree p front came mid → Shown error around.caught Before exits tree p front came mid
                less s = record { sent = s.sent; tokens = s.tokens; told = s.told; fine = s.fine; left = λ raised way ours. by_one raised (s.left raised way ours) }
                  where
                    by_one : (raised : Raised) → Found error around.caught (Raises raised) tree p front came mid ⊎ ⊥ → Found error around.caught (Raises raised) tree p front came mid ⊎ Before raised
                    by_one raised (inl found) = inl found
                    by_one raised (inr none) = absurd none

                by_left : (raised : Raised) → Leaves raised came → Ours error raised.number → Found error around.caught (Raises raised) tree p front came mid ⊎ Before raised
                by_left raised way ours = (less s1).left raised way ours

            by_came : (came : Exit) (front back : List Exchange) (mid : SessionProgress) → Held tree p front came mid → Held (catch came) mid back b new → Shown error around.caught (λ raised. ⊥) exits tree p front came mid
                → Shown error around.caught Before exits (tree then catch) p (front ++ back) b new
            by_came (Raise raised) front back mid was rest s1 =
                shown_both error tree catch p mid new front back (Raise raised) b was rest around.caught (Some raised) Before Before exits exits (found_caught error tree catch p mid new front back (Raise raised) b was rest around.caught raised left) (λ other before ours. inr before) less
                (shows_all handler (in_catch raised around) Before mid new back b rest)
              where
                left : Ours error raised.number → Found error around.caught (Raises raised) tree p front (Raise raised) mid
                left ours = by_left (s1.left raised refl ours)
                  where
                    by_left : Found error around.caught (Raises raised) tree p front (Raise raised) mid ⊎ ⊥ → Found error around.caught (Raises raised) tree p front (Raise raised) mid
                    by_left (inl found) = found
                    by_left (inr none) = absurd none

                less : Shown error around.caught Before exits tree p front (Raise raised) mid
                less = record { sent = s1.sent; tokens = s1.tokens; told = s1.told; fine = s1.fine; left = λ other way ours. by_one other (s1.left other way ours) }
                  where
                    by_one : (other : Raised) → Found error around.caught (Raises other) tree p front (Raise raised) mid ⊎ ⊥ → Found error around.caught (Raises other) tree p front (Raise raised) mid ⊎ Before other
                    by_one other (inl found) = inl found
                    by_one other (inr none) = absurd none
            by_came On front back mid was rest s1 = past On front back mid was rest s1 refl
            by_came Leave front back mid was rest s1 = past Leave front back mid was rest s1 refl
            by_came Again front back mid was rest s1 = past Again front back mid was rest s1 refl
            by_came (Return status) front back mid was rest s1 = past (Return status) front back mid was rest s1 refl
            by_came (RaiseUp raised) front back mid was rest s1 = past (RaiseUp raised) front back mid was rest s1 refl
            by_came End front back mid was rest s1 = past End front back mid was rest s1 refl

        -- ---- bodies

        pub shows_body : (vars : List Variable) (settings : Settings → Settings) (body : List Statement) → Shows error around.caught Before bodies (runs_body one vars settings body around)
        unfolding runs_body
        shows_body vars settings body = shows_reads error around.caught Before bodies _ (λ p. shows_makes error around.caught Before bodies (stands_with vars) _ tt (shows_makes error around.caught Before bodies (sets (settings p.settings)) _ tt
            (shows_then error around.caught Before exits bodies (each_of one body around) _ (shows_all body around Before)
            (λ exit any. shows_reads error around.caught (Carried error exits exit Before) bodies _ (λ inner. shows_makes error around.caught (Carried error exits exit Before) bodies (stands_with p.vars) _ tt
            (shows_makes error around.caught (Carried error exits exit Before) bodies (sets p.settings) _ tt (shows_over error around.caught (Carried error exits exit Before) bodies (exit, inner.vars) tt (λ raised way. inl way))))))))

        -- ---- EXEC

        shows_returns : (statement : Statement) (status : Option (List ℕ)) (arguments : List Argument) (call : Call) (count : ℕ) (vars : List Variable) (exit : Exit) → Shows error around.caught (λ raised. Leaves raised exit ⊎ Before raised) exits (returns_from around statement status arguments call count vars exit)
        shows_returns statement status arguments call count vars (Raise raised) = shows_makes error around.caught (λ other. Leaves other (Raise raised) ⊎ Before other) exits (tells_rows 0) (over (Raise raised)) tt (shows_over error around.caught (λ other. Leaves other (Raise raised) ⊎ Before other) exits (Raise raised) tt (λ other way. inl way))
        shows_returns statement status arguments call count vars (RaiseUp raised) = shows_makes error around.caught (λ other. Leaves other (RaiseUp raised) ⊎ Before other) exits (tells_rows 0) (over (Raise raised)) tt (shows_over error around.caught (λ other. Leaves other (RaiseUp raised) ⊎ Before other) exits (Raise raised) tt (λ other way. inl way))
        shows_returns statement status arguments call count vars End = shows_makes error around.caught (λ other. Leaves other End ⊎ Before other) exits (tells_rows 0) (over End) tt (shows_over error around.caught (λ other. Leaves other End ⊎ Before other) exits End tt (λ other way. inl way))
        shows_returns statement status arguments call count vars On = shows_end error around.caught (λ other. Leaves other On ⊎ Before other) (returns_from around statement status arguments call count vars On) (clean_returns (at_zero error around.caught Before) around statement status arguments call count vars On tt) (unlocked_returns around statement status arguments call count vars On)
        shows_returns statement status arguments call count vars Leave = shows_end error around.caught (λ other. Leaves other Leave ⊎ Before other) (returns_from around statement status arguments call count vars Leave) (clean_returns (at_zero error around.caught Before) around statement status arguments call count vars Leave tt) (unlocked_returns around statement status arguments call count vars Leave)
        shows_returns statement status arguments call count vars Again = shows_end error around.caught (λ other. Leaves other Again ⊎ Before other) (returns_from around statement status arguments call count vars Again) (clean_returns (at_zero error around.caught Before) around statement status arguments call count vars Again tt) (unlocked_returns around statement status arguments call count vars Again)
        shows_returns statement status arguments call count vars (Return number) = shows_end error around.caught (λ other. Leaves other (Return number) ⊎ Before other) (returns_from around statement status arguments call count vars (Return number)) (clean_returns (at_zero error around.caught Before) around statement status arguments call count vars (Return number) tt) (unlocked_returns around statement status arguments call count vars (Return number))

      -- a call's body, in what stands around the EXEC
      shows_call : (around : Around) (Before : Raised → Type 0) (statement : Statement) (status : Option (List ℕ)) (arguments : List Argument) (call : Call) → Shows error around.caught Before exits (runs_call one around statement status arguments call)
      unfolding runs_call
      shows_call around Before statement status arguments call = shows_reads error around.caught Before exits _ (λ p. shows_then error around.caught Before bodies exits (runs_body one (call_vars call) (λ settings. settings) call.procedure.body (in_body call.procedure.name None around)) _
          (shows_body (in_body call.procedure.name None around) Before (call_vars call) (λ settings. settings) call.procedure.body) (λ came any. shows_returns around Before statement status arguments call p.txn.count came.1 came.0))

      module _ (around : Around) (Before : Raised → Type 0) where
        by_concluded : {A : Type 0} (statement : Statement) (go : (Statement → Meaning) → A → Doing Exit) (work : Doing (Result A Failure)) → Silent (OkIs {A = A} Anything) work → ((a : A) → Splits around.caught Before exits (λ m. go m a)) → Splits around.caught Before exits (λ m. concludes around statement (go m) work)
        unfolding concludes
        by_concluded {A = A} statement go work silent each_ok = splits_behind around.caught Before (OkIs {A = A} Anything) exits work (λ m came. concluded around statement (go m) came) silent by_came
          where
            by_came : (came : Result A Failure) → OkIs {A = A} Anything came → Splits around.caught Before exits (λ m. concluded around statement (go m) came)
            by_came (Ok a) is = each_ok a
            by_came (Err failure) is = splits_same around.caught Before exits (fails_for around statement failure)

        splits_calls : (statement : Statement) (status : Option (List ℕ)) (name : List ℕ) (arguments : List Argument) → Splits around.caught Before exits (λ m. calls m around statement status name arguments)
        unfolding calls
        splits_calls statement status name arguments = by_concluded {A = Call} statement (λ m call. runs_call m around statement status arguments call) (finds_call around statement status name arguments) (silent_call around statement status name arguments)
            (λ call. splits_shows around.caught Before exits (λ m. runs_call m around statement status arguments call) (shows_call around Before statement status arguments call))

        -- ---- IF and WHILE

        splits_decides : (statement : Statement) (go : (Statement → Meaning) → Bool → Doing Exit) → ((holds : Bool) → Splits around.caught Before exits (λ m. go m holds)) → Splits around.caught Before exits (λ m. decides around statement (go m))
        unfolding decides
        splits_decides statement go each_way = by_concluded {A = Bool} statement (λ m holds. makes (tells_error (pos 0)) (go m holds)) (tests around statement) (silent_tests around statement)
            (λ holds. splits_makes around.caught Before exits (tells_error (pos 0)) (λ m. go m holds) tt (each_way holds))

        splits_branch : (so : Statement) (otherwise : Option Statement) (holds : Bool) → Splits around.caught Before exits (λ m. branch m around so otherwise holds)
        splits_branch so otherwise true = splits_shows around.caught Before exits (λ m. m so around) (each so around Before)
        splits_branch so None false = splits_same around.caught Before exits (over On)
        splits_branch so (Some other) false = splits_shows around.caught Before exits (λ m. m other around) (each other around Before)

        shows_turned : (statement : Statement) (exit : Exit) → Shows error around.caught (Carried error exits exit Before) exits (turns_again (one statement around) (turned exit))
        shows_turned statement On = each statement around (Carried error exits On Before)
        shows_turned statement Again = each statement around (Carried error exits Again Before)
        shows_turned statement Leave = shows_over error around.caught (Carried error exits Leave Before) exits On tt (λ raised way. absurd way)
        shows_turned statement (Return status) = shows_over error around.caught (Carried error exits (Return status) Before) exits (Return status) tt (λ raised way. inl way)
        shows_turned statement (Raise raised) = shows_over error around.caught (Carried error exits (Raise raised) Before) exits (Raise raised) tt (λ other way. inl way)
        shows_turned statement (RaiseUp raised) = shows_over error around.caught (Carried error exits (RaiseUp raised) Before) exits (RaiseUp raised) tt (λ other way. inl way)
        shows_turned statement End = shows_over error around.caught (Carried error exits End Before) exits End tt (λ raised way. inl way)

        splits_turns : (statement body : Statement) (holds : Bool) → Splits around.caught Before exits (λ m. turns m around statement body holds)
        splits_turns statement body true = splits_shows around.caught Before exits (λ m. m body around then λ exit. turns_again (m statement around) (turned exit))
            (shows_then error around.caught Before exits exits (one body around) (λ exit. turns_again (one statement around) (turned exit)) (each body around Before) (λ exit any. shows_turned statement exit))
        splits_turns statement body false = splits_same around.caught Before exits (over On)

        -- ---- triggers

        abbrev Stops : {A : Type 0} → (A → Type 0) → View (Result A Stop)
        Stops P = stops P

        shows_trigger_end : (next : Doing (Result (Unit {0}) Stop)) → Shows error around.caught Before (Stops {A = Unit {0}} Anything) next → (p : SessionProgress) (exit : Exit) → Shows error around.caught (Carried error exits exit Before) (Stops {A = Unit {0}} Anything) (unless_stopped one next (trigger_end exit p))
        shows_trigger_end next shows p exit = by_exit exit
          where
            by_tests : (exit : Exit) (closed doomed : Bool) → Shows error around.caught (Carried error exits exit Before) (Stops {A = Unit {0}} Anything) (unless_stopped one next (if closed then Err (Failed (plain ended_in_trigger)) else if doomed then Err (Failed (plain doomed_in_trigger)) else Ok tt))
            by_tests exit true doomed = shows_over error around.caught (Carried error exits exit Before) (Stops {A = Unit {0}} Anything) (Err (Failed (plain ended_in_trigger))) (lock_other error (pos 3609) refl refl) (λ raised way. absurd way)
            by_tests exit false true = shows_over error around.caught (Carried error exits exit Before) (Stops {A = Unit {0}} Anything) (Err (Failed (plain doomed_in_trigger))) (lock_other error (pos 3616) refl refl) (λ raised way. absurd way)
            by_tests exit false false = shows_more error around.caught Before (Carried error exits exit Before) (Stops {A = Unit {0}} Anything) next (λ raised before. inr before) shows

            by_exit : (exit : Exit) → Shows error around.caught (Carried error exits exit Before) (Stops {A = Unit {0}} Anything) (unless_stopped one next (trigger_end exit p))
            by_exit (Raise raised) = shows_over error around.caught (Carried error exits (Raise raised) Before) (Stops {A = Unit {0}} Anything) (Err (Left (Raise raised))) tt (λ other way. inl way)
            by_exit (RaiseUp raised) = shows_over error around.caught (Carried error exits (RaiseUp raised) Before) (Stops {A = Unit {0}} Anything) (Err (Left (Raise raised))) tt (λ other way. inl way)
            by_exit End = shows_over error around.caught (Carried error exits End Before) (Stops {A = Unit {0}} Anything) (Err (Left End)) tt (λ other way. absurd way)
            by_exit On = by_tests On (is_closed p.txn) p.txn.doomed
            by_exit Leave = by_tests Leave (is_closed p.txn) p.txn.doomed
            by_exit Again = by_tests Again (is_closed p.txn) p.txn.doomed
            by_exit (Return status) = by_tests (Return status) (is_closed p.txn) p.txn.doomed

        shows_trigger : (w : Written) (trigger : TriggerTree) → Shows error around.caught Before exits (runs_trigger one around w.fired trigger)
        unfolding runs_trigger
        shows_trigger w trigger = shows_then error around.caught Before bodies exits (runs_body one (vars_of trigger.body) in_trigger trigger.body (in_body trigger.name (Some w.fired) around)) (λ came. over came.0)
            (shows_body (in_body trigger.name (Some w.fired) around) Before (vars_of trigger.body) in_trigger trigger.body) (λ came any. shows_over error around.caught (Carried error bodies came Before) exits came.0 tt (λ raised way. inl way))

        shows_triggers : (w : Written) (triggers : List TriggerTree) → Shows error around.caught Before (Stops {A = Unit {0}} Anything) (runs_triggers one around w triggers)
        unfolding runs_triggers
        shows_triggers w [] = shows_reads error around.caught Before (Stops {A = Unit {0}} Anything) _ (λ p. by_room (nat_lt p.bytes_left (size_of w.effect.tokens)))
          where
            by_room : (full : Bool) → Shows error around.caught Before (Stops {A = Unit {0}} Anything) (over (if full then Err (Failed (plain result_full)) else Ok tt))
            by_room true = shows_over error around.caught Before (Stops {A = Unit {0}} Anything) (Err (Failed (plain result_full))) (lock_other error (pos 49002) refl refl) (λ raised way. absurd way)
            by_room false = shows_over error around.caught Before (Stops {A = Unit {0}} Anything) (Ok tt) tt (λ raised way. absurd way)
        shows_triggers w (trigger ∷ triggers) = shows_then error around.caught Before exits (Stops {A = Unit {0}} Anything) (runs_trigger one around w.fired trigger) _ (shows_trigger w trigger)
            (λ exit any. shows_reads error around.caught (Carried error exits exit Before) (Stops {A = Unit {0}} Anything) _ (λ p. shows_trigger_end (runs_triggers one around w triggers) (shows_triggers w triggers) p exit))

        splits_fired : (w : Written) → Splits around.caught Before (Stops {A = Unit {0}} Anything) (λ m. runs_fired m around w)
        unfolding runs_fired
        splits_fired w = splits_if around.caught Before (Stops {A = Unit {0}} Anything) (nat_le depth_limit around.depth) (λ m. over (Err (Failed (plain too_deep)))) (λ m. runs_triggers m around w w.fires)
            (splits_same around.caught Before (Stops {A = Unit {0}} Anything) (over (Err (Failed (plain too_deep))))) (splits_shows around.caught Before (Stops {A = Unit {0}} Anything) (λ m. runs_triggers m around w w.fires) (shows_triggers w w.fires))

        -- behind them
        shows_settled : (Between : Raised → Type 0) (home : Home) (w : Written) (stood : Bool) (came : Result (Unit {0}) Stop) → Untold w.effect → (Stops {A = Unit {0}} Anything).Fine came
            → Shows error around.caught (Carried error (Stops {A = Unit {0}} Anything) came Between) (Stops Untold) (leaves_fired home w.mark stood (is_ok came) then λ done. over (effect_of one w.effect came))
        shows_settled Between home w stood came untold fine = shows_then error around.caught (Carried error (Stops {A = Unit {0}} Anything) came Between) (plainly {A = Unit {0}} Anything) (Stops Untold) (leaves_fired home w.mark stood (is_ok came)) (λ done. over (effect_of one w.effect came))
            (shows_clean error around.caught (Carried error (Stops {A = Unit {0}} Anything) came Between) {A = Unit {0}} Anything (plainly {A = Unit {0}} Anything) (leaves_fired home w.mark stood (is_ok came)) (λ done any. tt) (λ done any raised way ours. way) (clean_leaving (at_zero error around.caught Before) home w.mark stood (is_ok came)) (unlocked_leaving home w.mark stood (is_ok came)))
            (λ done any. by_came came fine)
          where
            by_came : (came : Result (Unit {0}) Stop) → (Stops {A = Unit {0}} Anything).Fine came → Shows error around.caught (λ raised. ⊥ ⊎ Carried error (Stops {A = Unit {0}} Anything) came Between raised) (Stops Untold) (over (effect_of one w.effect came))
            by_came (Ok done) fine = shows_over error around.caught _ (Stops Untold) (Ok w.effect) untold (λ raised way. absurd way)
            by_came (Err stop) fine = shows_over error around.caught _ (Stops Untold) (Err stop) fine (λ raised way. inr (inl way))

        splits_fires : (home : Home) (w : Written) → Untold w.effect → Splits around.caught Before (Stops Untold) (λ m. fires m around home w)
        unfolding fires
        splits_fires home w untold = splits_behind around.caught Before {A = Unit {0}} Anything (Stops Untold) relaxes (λ m done. room λ enough. if enough then goes m else wants) silent_relaxes
            (λ done any. splits_room around.caught Before (Stops Untold) (λ m enough. if enough then goes m else wants) by_enough)
          where
            settled : (Statement → Meaning) → Bool → Result (Unit {0}) Stop → Doing (Result Effect Stop)
            settled m stood came = leaves_fired home w.mark stood (is_ok came) then λ done. over (effect_of m w.effect came)

            fired : (Statement → Meaning) → SessionProgress → Doing (Result Effect Stop)
            fired m p = runs_fired m around w then settled m p.stands

            goes : (Statement → Meaning) → Doing (Result Effect Stop)
            goes m = reads λ p. makes (fires_from w.mark) (fired m p)

            wants : Doing (Result Effect Stop)
            wants = undone_to w.mark true (relaxes_then (closes_own home false)) then λ done. over (Err (Failed (plain no_memory)))

            same : (stood : Bool) (came : Result (Unit {0}) Stop) → settled one stood came ≡ settled (λ inner at. never) stood came
            same stood (Ok done) = refl
            same stood (Err stop) = refl

            by_enough : (enough : Bool) → Splits around.caught Before (Stops Untold) (λ m. if enough then goes m else wants)
            by_enough true = splits_reads around.caught Before (Stops Untold) (λ m p. makes (fires_from w.mark) (fired m p)) (λ p. splits_makes around.caught Before (Stops Untold) (fires_from w.mark) (λ m. fired m p) tt
                (splits_front around.caught Before (Stops {A = Unit {0}} Anything) (Stops Untold) (λ m. runs_fired m around w) (λ m came. settled m p.stands came) (same p.stands) (splits_fired w)
                (λ came fine. shows_settled Before home w p.stands came untold fine)))
            by_enough false = splits_same around.caught Before (Stops Untold) wants

        -- ---- writes

        splits_with : (home : Home) (w : Written) (triggers : List TriggerTree) → Untold w.effect → Splits around.caught Before (Stops Untold) (λ m. written_with m around home w triggers)
        splits_with home w [] untold = splits_same around.caught Before (Stops Untold) (leaves home true then λ done. over (Ok w.effect))
        splits_with home w (trigger ∷ triggers) untold = splits_fires home w untold

        -- what a write tells is a DONE
        done_untold : (p : SessionProgress) (write : BoundWrite) (planned : List Planned) → Untold (told_by (done_kind around) p.settings.no_count write planned)
        done_untold p write planned = (done_other (at_zero error around.caught Before) (done_kind around) p.settings.no_count (write_command write) _, tt)

        splits_writes : (statement : Statement) → Splits around.caught Before (Stops Untold) (λ m. writes m around statement)
        unfolding writes
        splits_writes statement = splits_room around.caught Before (Stops Untold)
            (λ m enough. if enough then (enters (asks_any (known_by around statement) (looked_up statement)) then writes_in m around statement) else over (Err (Failed (plain no_memory)))) by_enough
          where
            by_written : (home : Home) (came : Result Written Failure) → OkIs (λ w. Untold w.effect) came → Splits around.caught Before (Stops Untold) (λ m. written_in m around home came)
            by_written home (Err failure) is = splits_same around.caught Before (Stops Untold) (leaves home false then λ done. over (Err (Failed failure)))
            by_written home (Ok w) untold = splits_with home w w.fires untold

            by_home : (home : Result Home Failure) → OkIs {A = Home} Anything home → Splits around.caught Before (Stops Untold) (λ m. writes_in m around statement home)
            by_home (Err failure) any = splits_same around.caught Before (Stops Untold) (over (Err (Failed failure)))
            by_home (Ok home) any = splits_behind around.caught Before (OkIs λ w. Untold w.effect) (Stops Untold) (binds around statement (change_bound around)) (λ m. written_in m around home) (silent_binds Untold around done_untold statement) (by_written home)

            by_enough : (enough : Bool) → Splits around.caught Before (Stops Untold) (λ m. if enough then (enters (asks_any (known_by around statement) (looked_up statement)) then writes_in m around statement) else over (Err (Failed (plain no_memory))))
            by_enough true = splits_behind around.caught Before (OkIs {A = Home} Anything) (Stops Untold) (enters (asks_any (known_by around statement) (looked_up statement))) (λ m. writes_in m around statement) (silent_enters (asks_any (known_by around statement) (looked_up statement))) by_home
            by_enough false = splits_same around.caught Before (Stops Untold) (over (Err (Failed (plain no_memory))))

        shows_written : (statement : Statement) (came : Result Effect Stop) → (Stops Untold).Fine came → Shows error around.caught (Carried error (Stops Untold) came Before) exits (written around statement came)
        shows_written statement (Ok effect) untold = shows_end error around.caught _ (succeeds statement effect (over On)) (clean_succeeds (at_zero error around.caught Before) statement effect (over On) untold tt) (unlocked_succeeds statement effect (over On) tt)
        shows_written statement (Err (Failed failure)) other = shows_end error around.caught _ (fails_for around statement failure) (clean_fails (at_zero error around.caught Before) around statement failure other) (unlocked_fails around statement failure)
        shows_written statement (Err (Left exit)) other = shows_makes error around.caught _ exits (tells_rows 0) (over exit) tt (shows_over error around.caught _ exits exit tt (λ raised way. inl way))

        splits_write : (statement : Statement) → Splits around.caught Before exits (λ m. writes m around statement then written around statement)
        splits_write statement = splits_front around.caught Before (Stops Untold) exits (λ m. writes m around statement) (λ m. written around statement) (λ came. refl) (splits_writes statement) (shows_written statement)

        -- ---- each form

        splits_form : (statement : Statement) (form : Layer) → Splits around.caught Before exits (λ m. mean_form m around statement form)
        unfolding mean_form
        splits_form statement (Form-F.If test so otherwise) = splits_decides statement (λ m. branch m around so otherwise) (splits_branch so otherwise)
        splits_form statement (Form-F.While test body) = splits_decides statement (λ m. turns m around statement body) (splits_turns statement body)
        splits_form statement (Form-F.Block body) = splits_shows around.caught Before exits (λ m. each_of m body around) (shows_all body around Before)
        splits_form statement (Form-F.TryCatch body handler) = splits_shows around.caught Before exits (λ m. tries m around body handler) (shows_tries around Before body handler)
        splits_form statement (Form-F.Insert table columns rows) = splits_write statement
        splits_form statement (Form-F.Update table assignments filter) = splits_write statement
        splits_form statement (Form-F.Delete table filter) = splits_write statement
        splits_form statement (Form-F.Execute status name arguments) = splits_calls statement status name arguments
        splits_form statement Form-F.ThrowAgain = splits_same around.caught Before exits (mean_form one around statement Form-F.ThrowAgain)
        splits_form statement form = splits_same around.caught Before exits (mean_form one around statement form)

        splits_mean : (statement : Statement) → Splits around.caught Before exits (λ m. mean_by m statement around)
        unfolding mean_by
        splits_mean statement = splits_reads around.caught Before exits (λ m q. if q.txn.doomed && is_refused_doomed (form_of statement) then fails_for around statement (plain doomed_write) else mean_form m around statement (form_of statement))
            (λ q. splits_if around.caught Before exits (q.txn.doomed && is_refused_doomed (form_of statement)) (λ m. fails_for around statement (plain doomed_write)) (λ m. mean_form m around statement (form_of statement))
            (splits_same around.caught Before exits (fails_for around statement (plain doomed_write))) (splits_form statement (form_of statement)))

        pub splits_runs : (statement : Statement) → Splits around.caught Before exits (λ m. tree_by m (Runs statement around))
        splits_runs statement = splits_reads around.caught Before exits (λ m p. if p.statements_left == 0 then spends statement around else makes counts (begun m))
            (λ p. splits_if around.caught Before exits (p.statements_left == 0) (λ m. spends statement around) (λ m. makes counts (begun m)) (splits_same around.caught Before exits (spends statement around))
            (splits_makes around.caught Before exits counts begun tt
            (splits_unseen around.caught Before (λ q. is_unseen q (form_of statement)) (fails_for around statement) (λ m. mean_by m statement around) (splits_mean statement))))
          where
            begun : (Statement → Meaning) → Doing Exit
            begun m = begun_unseen (λ q. is_unseen q (form_of statement)) (fails_for around statement) (mean_by m statement around)

-- ---- the cycle

module _ (error : LockError) where
  pub shows_mean : (levels : ℕ) (statement : Statement) (around : Around) (Before : Raised → Type 0) → Shows error around.caught Before exits (mean_of levels statement around)
  unfolding mean_of
  shows_mean zero statement around Before p new exchanges exit held = shows_end error around.caught Before (spends statement around) (clean_raises (at_zero error around.caught Before) around statement (raised_in around.procedure (line_of statement) (plain statements_spent)) (lock_other error (pos 49001) refl refl))
      (unlocked_raises around statement (raised_in around.procedure (line_of statement) (plain statements_spent))) p new exchanges exit held
  shows_mean (suc levels) statement around Before p new exchanges exit held = by_split (splits_runs error (λ inner at. mean_of levels inner at) (λ inner at Earlier. shows_mean levels inner at Earlier) around Before statement p new exchanges exit held)
    where
      ShownSo : Type 0
      ShownSo = Shown error around.caught Before exits (tree_by (λ inner at. mean_of levels inner at) (Runs statement around)) p exchanges exit new

      by_split : Held (alone (Runs statement around)) p exchanges exit new ⊎ ShownSo → ShownSo
      by_split (inl by_itself) = runs_shown error levels around Before statement p new exchanges exit by_itself
      by_split (inr shown) = shown
