-- A batch and a call by RPC show the cause of each error of a lock that they tell: it is that of a statement which they run, of the definition that a batch is, or of the EXEC of the call.
use Rattle.std.proofs.Common.{◌≡◌, ◌⊎◌, append_assoc, inl, inr, refl, sym, ap, ◌∙◌, subst, ℕ, ℤ, pos, List, [], ◌∷◌, ◌++◌, Option, Some, None, Bool, true, false, Result, Ok, Err, if◌then◌else◌}
use Rattle.std.proofs.lemmas.List.{append_cancel_left}
use Rattle.tsql_tree.specs.declared.definition.Definition.TheVariants.{Procedure}
use Rattle.tsql_tree.specs.declared.definition.ProcedureTree.{ProcedureTree}
use Rattle.tsql_tree.specs.declared.statement.Statement.{Statement}
use Rattle.step_model.specs.Exchange.{Exchange}
use Rattle.tds_tokens.specs.declared.notice.Notice.{Notice}
use Rattle.tds_tokens.specs.declared.token.Token.{Token}
use Rattle.tds_tokens.specs.declared.token.Token.TheVariants.{Error}
use Rattle.batch_meaning.specs.declared.errand.Errand.{Errand}
use Rattle.batch_meaning.specs.declared.errand.Way.{Way}
use Rattle.batch_meaning.specs.declared.errand.Way.TheVariants as way
use Rattle.batch_meaning.specs.declared.exit.Exit.{Exit}
use Rattle.batch_meaning.specs.declared.exit.Exit.TheVariants.{On, Leave, Again, Return, Raise, RaiseUp, End}
use Rattle.batch_meaning.specs.declared.failure.Failure.{Failure}
use Rattle.batch_meaning.specs.declared.form.ReadText.{ReadText}
use Rattle.batch_meaning.specs.declared.form.ReadText.TheVariants as text
use Rattle.batch_meaning.specs.declared.raised.Raised.{Raised}
use Rattle.batch_meaning.specs.Asking.{comes_to, fails, fails_naming}
use Rattle.batch_meaning.specs.Calls.{Call, call_over, call_vars}
use Rattle.batch_meaning.specs.Doing.{Doing, makes, never, over, reads, ◌then◌, Held}
use Rattle.batch_meaning.specs.Failures.{plain}
use Rattle.batch_meaning.specs.Meaning.{Meaning, batch, ends, mean_of, runs_body, runs_text, vars_in_text}
use Rattle.batch_meaning.specs.Progress.{SessionProgress, SessionStep, begins, counts, made, statement_limit}
use Rattle.batch_meaning.specs.Raised.{Around, around_batch, in_body}
use Rattle.batch_meaning.specs.Rpc.{behind_batch, binds_call, defined_in, ends_rpc, execs, fails_call, finds_named, finds_read, goes_on_with, is_too_many, leaves_body, mismatch, no_statement, object_in, rpc, rpc_arguments, rpc_statement, rpc_vars, runs_exec, runs_rpc, runs_sql, runs_way, skips_place, tells_unless, tells_well}
use Rattle.batch_meaning.specs.Selecting.{bound_over}
use Rattle.batch_meaning.specs.Values.{outside_limits}
use Rattle.batch_meaning.specs.Writes.{is_odd_procedure}
use Rattle.statement_paths.proofs.Only.{AnyStep, only_bind, only_comes, only_if, only_naming, only_room}
use Rattle.cause_laws.specs.Causes.{CaughtOther, IsOther, LockError, number_of}
use Rattle.cause_laws.specs.Statements.{AllCaused, Answered, BatchTells, CallTells, Defines, End as Ends, Execs, Finds, HasCause, Leaves, Passes, Raises, Sends, StatementTells, alone}
use Rattle.cause_laws.proofs.UsualValues.{Anything, RefusedUsual, read_usual}
use Rattle.cause_laws.proofs.Watch.{Guard, LeavesOther}
use Rattle.cause_laws.proofs.Clean.{Clean, OtherOr, clean_naming, usual_other}
use Rattle.cause_laws.proofs.Causes.{called_usual, clean_by_found, clean_end, clean_fails_call, clean_leaves_body, clean_named, clean_object, clean_read, clean_rpc_end, clean_well}
use Rattle.cause_laws.proofs.Locks.{lock_other, lock_watch}
use Rattle.cause_laws.proofs.Silent.{OkIs, Silent, silent_call, silent_if}
use Rattle.cause_laws.proofs.Unlocked.{IsUnlocked, Unlocked, unlocked_ends, unlocked_fails_call, unlocked_leaves_body, unlocked_rpc_end, unlocked_well}
use Rattle.cause_laws.proofs.Shown.{AllFrom, Carried, Found, Shown, Shows, Told, View, all_at, at_zero, exits, plainly, shows_clean, shows_end, shows_more, shows_over, shows_reads, shows_then}
use Rattle.cause_laws.proofs.Alone.{anything, beginning, definite_shown}
use Rattle.cause_laws.proofs.Telling.{Splits, bodies, shows_all, shows_body, shows_mean, splits_behind, splits_same, splits_shows}

module _ (error : LockError) where
  -- what statements mean
  abbrev Means : Statement → Meaning
  Means inner at = mean_of statement_limit inner at

  each : (inner : Statement) (at : Around) (Before : Raised → Type 0) → Shows error at.caught Before exits (Means inner at)
  each inner at Before = shows_mean error statement_limit inner at Before

  module _ (Before : Raised → Type 0) where
    shows_if : {A : Type 0} (view : View A) (test : Bool) (first other : Doing A) → Shows error None Before view first → Shows error None Before view other → Shows error None Before view (if test then first else other)
    shows_if view true first other one two = one
    shows_if view false first other one two = two

    -- ---- texts

    shows_refused : (line : ℤ) (code : ℕ) (near : List ℕ) → RefusedUsual (text.Refused line code near) → Shows error None Before exits (runs_text (text.Refused line code near))
    shows_refused line code near usual = shows_end error None Before (runs_text (text.Refused line code near)) ((usual_other (at_zero error None Before) (pos code) usual, tt), tt) (tt, tt)

    shows_text : (read : ReadText) → RefusedUsual read → Shows error None Before exits (runs_text read)
    shows_text (text.Statements statements) usual = shows_all error (λ inner at. mean_of statement_limit inner at) each statements around_batch Before
    shows_text (text.Defines line of units) usual = λ p new exchanges exit held.
        definite_shown error statement_limit None Before (Defines line of units) 0 (clean_object (record { watch = anything; left = 0 }) line of units) (clean_object (beginning (lock_watch error)) line of units) p new exchanges exit held
    shows_text (text.Refused line code near) usual = shows_refused line code near usual

    -- ---- the EXEC of a call

    shows_exec : (call : Errand) (of : Call) → Shows error None Before exits (runs_exec (λ inner at. mean_of statement_limit inner at) call of)
    unfolding runs_exec
    shows_exec call of = shows_reads error None Before exits _ (λ p. shows_then error None Before bodies exits (runs_body (λ inner at. mean_of statement_limit inner at) (call_vars of) (λ settings. settings) of.procedure.body (in_body of.procedure.name None around_batch)) _
        (shows_body error (λ inner at. mean_of statement_limit inner at) each (in_body of.procedure.name None around_batch) Before (call_vars of) (λ settings. settings) of.procedure.body)
        (λ came any. shows_end error None _ (leaves_body call of p.txn.count came.1 came.0) (clean_leaves_body (at_zero error None Before) call of p.txn.count came.1 came.0) (unlocked_leaves_body call of p.txn.count came.1 came.0)))

    silent_named : (call : Errand) (name : List ℕ) (object : Option (List ℕ)) → Silent (OkIs {A = Call} Anything) (finds_named call name object)
    silent_named call name None = λ enough. silent_if (OkIs {A = Call} Anything) enough (over (Err _)) (fails _) tt tt
    silent_named call name (Some object) = silent_call around_batch (rpc_statement object (rpc_arguments call)) None object (rpc_arguments call)

    -- whose procedure is looked up
    shows_looked : (call : Errand) (name : List ℕ) (object : Option (List ℕ)) → Shows error None Before exits (execs (λ inner at. mean_of statement_limit inner at) call (finds_named call name object))
    shows_looked call name object p new exchanges exit held = by_split (splits p new exchanges exit held)
      where
        finds : Doing (Result Call Failure)
        finds = finds_named call name object

        by_found : (found : Result Call Failure) → OkIs {A = Call} Anything found → Splits error (λ inner at. mean_of statement_limit inner at) None Before exits (λ m. goes_on_with (runs_exec m call) found)
        by_found (Ok of) any = splits_shows error (λ inner at. mean_of statement_limit inner at) None Before exits (λ m. runs_exec m call of) (shows_exec call of)
        by_found (Err failure) any = splits_same error (λ inner at. mean_of statement_limit inner at) None Before exits (fails_call failure)

        splits : Splits error (λ inner at. mean_of statement_limit inner at) None Before exits (λ m. execs m call (finds_named call name object))
        splits = splits_behind error (λ inner at. mean_of statement_limit inner at) None Before (OkIs {A = Call} Anything) exits (finds_named call name object) (λ m found. goes_on_with (runs_exec m call) found) (silent_named call name object) by_found

        clean : (guard : Guard) → Clean guard (LeavesOther guard) (alone (Execs call name object))
        clean guard = clean_by_found guard (λ caught. Unit {0}) (λ raised other. tt) tt (λ inner at. never) (λ inner at is. tt) call (finds_named call name object) (clean_named guard call name object)

        by_split : Held (alone (Execs call name object)) p exchanges exit new ⊎ Shown error None Before exits (execs (λ inner at. mean_of statement_limit inner at) call (finds_named call name object)) p exchanges exit new
            → Shown error None Before exits (execs (λ inner at. mean_of statement_limit inner at) call (finds_named call name object)) p exchanges exit new
        by_split (inl by_itself) = definite_shown error statement_limit None Before (Execs call name object) 0 (clean (record { watch = anything; left = 0 })) (clean (beginning (lock_watch error))) p new exchanges exit by_itself
        by_split (inr shown) = shown

    -- or is found without a question
    shows_found : (call : Errand) (finds : Doing (Result Call Failure)) → Clean (at_zero error None Before) (OtherOr (at_zero error None Before) {A = Call} Anything) finds → Unlocked finds → Shows error None Before exits (execs (λ inner at. mean_of statement_limit inner at) call finds)
    shows_found call finds clean unlocked = shows_then error None Before (plainly (OtherOr (at_zero error None Before) {A = Call} Anything)) exits finds (λ found. goes_on_with (runs_exec (λ inner at. mean_of statement_limit inner at) call) found)
        (shows_clean error None Before (OtherOr (at_zero error None Before) {A = Call} Anything) (plainly (OtherOr (at_zero error None Before) {A = Call} Anything)) finds (λ found is. is) (λ found is raised way ours. way) clean unlocked) by_found
      where
        by_found : (found : Result Call Failure) → OtherOr (at_zero error None Before) {A = Call} Anything found → Shows error None (λ raised. ⊥ ⊎ Before raised) exits (goes_on_with (runs_exec (λ inner at. mean_of statement_limit inner at) call) found)
        by_found (Ok of) other = shows_more error None Before (λ raised. ⊥ ⊎ Before raised) exits (runs_exec (λ inner at. mean_of statement_limit inner at) call of) (λ raised before. inr before) (shows_exec call of)
        by_found (Err failure) other = shows_end error None (λ raised. ⊥ ⊎ Before raised) (fails_call failure) (clean_fails_call (at_zero error None Before) failure other) (unlocked_fails_call failure)

    unlocked_read : (call : Errand) (procedure : Option ProcedureTree) → Unlocked (finds_read call procedure)
    unfolding binds_call
    unlocked_read call None = tt
    unlocked_read call (Some procedure) = only_if AnyStep IsUnlocked (is_odd_procedure procedure) (over (Err (plain outside_limits))) _ tt (only_room AnyStep IsUnlocked _ (only_bind AnyStep IsUnlocked (reads λ p. comes_to (bound_over [] p.vars (rpc_statement procedure.name (rpc_arguments call)))) _
        (λ p. only_comes AnyStep IsUnlocked (bound_over [] p.vars (rpc_statement procedure.name (rpc_arguments call)))) (λ of p. only_comes AnyStep IsUnlocked (call_over around_batch None procedure.name (rpc_arguments call) p.vars (Some (Procedure procedure))))))

    shows_failing : (failure : Failure) → IsOther error failure.number → Shows error None Before exits (fails_call failure)
    shows_failing failure other = shows_end error None Before (fails_call failure) (clean_fails_call (at_zero error None Before) failure other) (unlocked_fails_call failure)

    shows_well : (call : Errand) → Shows error None Before exits (tells_well call)
    shows_well call = shows_end error None Before (tells_well call) (clean_well (at_zero error None Before) call) (unlocked_well call)

    -- ---- by the way of the call

    shows_sql : (call : Errand) (read : ReadText) → RefusedUsual read → Shows error None Before exits (runs_sql (λ inner at. mean_of statement_limit inner at) call read)
    shows_sql call (text.Statements statements) usual = shows_found call (finds_read call None) (clean_read (at_zero error None Before) call None) (unlocked_read call None)
    shows_sql call (text.Defines line of units) usual = shows_found call (finds_read call (defined_in (text.Defines line of units))) (clean_read (at_zero error None Before) call (defined_in (text.Defines line of units))) (unlocked_read call (defined_in (text.Defines line of units)))
    shows_sql call (text.Refused line code near) usual = shows_refused line code near usual

    shows_unless : (call : Errand) (read : ReadText) → RefusedUsual read → Shows error None Before exits (tells_unless call read)
    shows_unless call (text.Statements statements) usual = shows_well call
    shows_unless call (text.Defines line of units) usual = shows_well call
    shows_unless call (text.Refused line code near) usual = shows_refused line code near usual

  shows_behind : (Before : Raised → Type 0) (call : Errand) (exit : Exit) → Shows error None (Carried error exits exit Before) exits (behind_batch call exit)
  shows_behind Before call On = shows_well (Carried error exits On Before) call
  shows_behind Before call Leave = shows_over error None (Carried error exits Leave Before) exits Leave tt (λ raised left. inl left)
  shows_behind Before call Again = shows_over error None (Carried error exits Again Before) exits Again tt (λ raised left. inl left)
  shows_behind Before call (Return status) = shows_over error None (Carried error exits (Return status) Before) exits (Return status) tt (λ raised left. inl left)
  shows_behind Before call (Raise raised) = shows_over error None (Carried error exits (Raise raised) Before) exits (Raise raised) tt (λ other left. inl left)
  shows_behind Before call (RaiseUp raised) = shows_over error None (Carried error exits (RaiseUp raised) Before) exits (RaiseUp raised) tt (λ other left. inl left)
  shows_behind Before call End = shows_over error None (Carried error exits End Before) exits End tt (λ raised left. inl left)

  module _ (Before : Raised → Type 0) where
    shows_way : (call : Errand) (read : ReadText) → RefusedUsual read → (of : Way) → Shows error None Before exits (runs_way (λ inner at. mean_of statement_limit inner at) call read of)
    shows_way call read usual (way.LooksUp name) = shows_looked Before call name (object_in read)
    shows_way call read usual (way.RunsRead own) = shows_sql Before call read usual
    shows_way call read usual way.RunsBatch = shows_then error None Before exits exits (runs_text read) (behind_batch call) (shows_text Before read usual) (λ exit any. shows_behind Before call exit)
    shows_way call read usual way.Tells = shows_unless Before call read usual
    shows_way call read usual way.Unmatched = shows_failing Before mismatch (lock_other error (pos 49012) refl refl)
    shows_way call read usual (way.Unknown handle) = shows_found Before call (fails_naming {A = Call} no_statement handle) (clean_naming (at_zero error None Before) Call Anything no_statement handle refl) (only_naming AnyStep IsUnlocked Call no_statement handle)

    shows_rpc : (call : Errand) (read : ReadText) → RefusedUsual read → Shows error None Before exits (runs_rpc (λ inner at. mean_of statement_limit inner at) call read)
    unfolding runs_rpc
    shows_rpc call read usual = shows_if Before exits (is_too_many call) (fails_call (plain outside_limits)) _ (shows_failing Before (plain outside_limits) (lock_other error (pos 49007) refl refl))
        (shows_if Before exits (skips_place call) (fails_call mismatch) _ (shows_failing Before mismatch (lock_other error (pos 49012) refl refl)) (shows_way call read usual call.way))

  -- ---- the whole

  -- from nothing
  abbrev Nowhere : Raised → Type 0
  Nowhere raised = ⊥

  shows_ends : (caught : Raised → Type 0) (exit : Exit) → Shows error None caught (plainly {A = Unit {0}} Anything) (ends exit)
  shows_ends caught exit = shows_clean error None caught {A = Unit {0}} Anything (plainly {A = Unit {0}} Anything) (ends exit) (λ done any. tt) (λ done any raised left ours. left) (clean_end (at_zero error None caught) (λ failed. tt) exit) (unlocked_ends exit)

  shows_rpc_ends : (caught : Raised → Type 0) (exit : Exit) → Shows error None caught (plainly {A = Unit {0}} Anything) (ends_rpc exit)
  shows_rpc_ends caught exit = shows_clean error None caught {A = Unit {0}} Anything (plainly {A = Unit {0}} Anything) (ends_rpc exit) (λ done any. tt) (λ done any raised left ours. left) (clean_rpc_end (at_zero error None caught) (λ failed. tt) exit) (unlocked_rpc_end exit)

  shows_batch : (read : ReadText) → RefusedUsual read → Shows error None Nowhere (plainly {A = Unit {0}} Anything) (runs_text read then ends)
  shows_batch read usual = shows_then error None Nowhere exits (plainly {A = Unit {0}} Anything) (runs_text read) ends (shows_text Nowhere read usual) (λ exit any. shows_ends (Carried error exits exit Nowhere) exit)

  shows_call : (call : Errand) (read : ReadText) → RefusedUsual read → Shows error None Nowhere (plainly {A = Unit {0}} Anything) (runs_rpc (λ inner at. mean_of statement_limit inner at) call read then ends_rpc)
  shows_call call read usual = shows_then error None Nowhere exits (plainly {A = Unit {0}} Anything) (runs_rpc (λ inner at. mean_of statement_limit inner at) call read) ends_rpc (shows_rpc Nowhere call read usual) (λ exit any. shows_rpc_ends (Carried error exits exit Nowhere) exit)

  all_caused : {A : Type 0} (view : View A) (tree : Doing A) (p new : SessionProgress) (exchanges : List Exchange) (a : A) → p.tokens ≡ [] → Shown error None Nowhere view tree p exchanges a new → AllCaused error new.tokens tree p exchanges a new
  all_caused view tree p new exchanges a empty s front behind told is ours = by_found (all_at (Told error None tree p exchanges a new) [] front behind (Error told) sent ours)
    where
      same : s.sent ≡ front ++ Error told ∷ behind
      same = sym (s.tokens ∙ ap (λ (l : List Token). l ++ s.sent) empty) ∙ is

      sent : AllFrom (Told error None tree p exchanges a new) [] (front ++ Error told ∷ behind)
      sent = subst (λ (l : List Token). AllFrom (Told error None tree p exchanges a new) [] l) same (subst (λ (l : List Token). AllFrom (Told error None tree p exchanges a new) l s.sent) empty s.told)

      by_found : Found error None (Sends front told) tree p exchanges a new → HasCause error front told tree p exchanges a new
      by_found (times, inl found) = (times, found)
      by_found (times, inr (raised, caught, ours, found)) = absurd (let no : None ≡ Some raised = caught in cc)

  -- behind a step
  caused_makes : {A : Type 0} (step : SessionStep) (next : Doing A) (p new : SessionProgress) (exchanges : List Exchange) (a : A) (tokens : List Token) → AllCaused error tokens next (made step p) exchanges a new → AllCaused error tokens (makes step next) p exchanges a new
  unfolding Passes
  caused_makes step next p new exchanges a tokens all front behind told is ours = let found = all front behind told is ours in (found.0, inr found.1)

-- what is caught around is no error of a lock
module _ (error : LockError) (caught : Option Raised) (other : CaughtOther error caught) where
  alone_found : {A : Type 0} (To : Ends) (tree : Doing A) (p new : SessionProgress) (exchanges : List Exchange) (a : A) → Found error caught To tree p exchanges a new → (times : ℕ) × Finds times (Answered error) To a new tree p exchanges
  alone_found To tree p new exchanges a (times, inl found) = (times, found)
  alone_found To tree p new exchanges a (times, inr (raised, same, ours, found)) = absurd (subst (CaughtOther error) same other ours)

pub statement_tells : StatementTells
statement_tells error levels around statement old new exchanges exit other held = (told, left)
  where
    tree : Doing Exit
    tree = mean_of levels statement around

    shown : Shown error around.caught (λ raised. ⊥) exits tree old exchanges exit new
    shown = shows_mean error levels statement around (λ raised. ⊥) old new exchanges exit held

    told : (front behind : List Token) (told : Notice) → new.tokens ≡ (old.tokens ++ front) ++ Error told ∷ behind → told.number ≡ pos (number_of error) → HasCause error (old.tokens ++ front) told tree old exchanges exit new
    told front behind one is ours = alone_found error around.caught other (Sends (old.tokens ++ front) one) tree old new exchanges exit (all_at (Told error around.caught tree old exchanges exit new) old.tokens front behind (Error one) all ours)
      where
        same : shown.sent ≡ front ++ Error one ∷ behind
        same = append_cancel_left old.tokens shown.sent (front ++ Error one ∷ behind) (sym shown.tokens ∙ is ∙ append_assoc old.tokens front (Error one ∷ behind))

        all : AllFrom (Told error around.caught tree old exchanges exit new) old.tokens (front ++ Error one ∷ behind)
        all = subst (λ (l : List Token). AllFrom (Told error around.caught tree old exchanges exit new) old.tokens l) same shown.told

    left : (raised : Raised) → Leaves raised exit → raised.number ≡ pos (number_of error) → (times : ℕ) × Finds times (Answered error) (Raises raised) exit new tree old exchanges
    left raised way ours = by_left (shown.left raised way ours)
      where
        by_left : Found error around.caught (Raises raised) tree old exchanges exit new ⊎ ⊥ → (times : ℕ) × Finds times (Answered error) (Raises raised) exit new tree old exchanges
        by_left (inl found) = alone_found error around.caught other (Raises raised) tree old new exchanges exit found
        by_left (inr none) = absurd none

pub batch_tells : BatchTells
unfolding batch Held
batch_tells error units read old new exchanges reads_so held =
    caused_makes error (begins (vars_in_text read)) (runs_text read then ends) old new exchanges tt new.tokens
    (all_caused error (plainly {A = Unit {0}} Anything) (runs_text read then ends) (made (begins (vars_in_text read)) old) new exchanges tt refl (shows_batch error read (read_usual units read reads_so) (made (begins (vars_in_text read)) old) new exchanges tt held))

pub call_tells : CallTells
unfolding rpc Held
call_tells error call read old new exchanges reads_so held =
    let begun : SessionProgress = made (begins (rpc_vars call)) old in
    let tree : Doing (Unit {0}) = runs_rpc (λ inner at. mean_of statement_limit inner at) call read then ends_rpc in
    caused_makes error (begins (rpc_vars call)) (makes counts tree) old new exchanges tt new.tokens
    (caused_makes error counts tree begun new exchanges tt new.tokens
    (all_caused error (plainly {A = Unit {0}} Anything) tree (made counts begun) new exchanges tt refl (shows_call error call read (called_usual call.text read reads_so) (made counts begun) new exchanges tt held)))
