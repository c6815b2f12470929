-- Plain statements that were left in the middle.
use Rattle.std.proofs.Common.{◌≡◌, ◌⊎◌, inl, inr, ℕ, ℤ, zero, suc, Bool, true, false, if◌then◌else◌, List, [], ◌∷◌, ◌++◌, Option, Result, Ok, Err, refl, sym, ap, ◌∙◌, subst, append-nil}
use Rattle.std.specs.Prelude.{◌&&◌, ◌==◌}
use Rattle.tsql_tree.specs.declared.query.Expr.{Expr}
use Rattle.tsql_tree.specs.declared.statement.Form.{Form-F}
use Rattle.tsql_tree.specs.declared.statement.Statement.{Statement}
use Rattle.binder.specs.Names.{Layer, form_of, looked_up}
use Rattle.error_table.specs.declared.action.Action.{Action}
use Rattle.error_table.specs.declared.action.Action.TheVariants as act
use Rattle.step_model.specs.declared.change.Planned.{Planned}
use Rattle.step_model.specs.declared.manner.Manner.{Manner}
use Rattle.step_model.specs.declared.op.Op.{Op}
use Rattle.step_model.specs.declared.op.Op.TheVariants as ops
use Rattle.step_model.specs.declared.reply.Reply.{Reply}
use Rattle.step_model.specs.declared.reply.Reply.TheVariants as replies
use Rattle.step_model.specs.Exchange.{CanReply, Exchange}
use Rattle.step_model.specs.Fits.{commit_of, commits_from, commits_of, committed_by}
use Rattle.step_model.specs.Net.{Net}
use Rattle.step_model.specs.Own.{Progress as Stand, none_open, progress_after}
use Rattle.tds_tokens.specs.declared.token.Token.{Token}
use Rattle.statement_paths.specs.Asked.{AskOnly}
use Rattle.batch_meaning.specs.declared.exit.Exit.{Exit}
use Rattle.batch_meaning.specs.declared.exit.Exit.TheVariants.{On, Leave, Again, Return, Raise, RaiseUp, End}
use Rattle.batch_meaning.specs.declared.failure.Failure.{Failure}
use Rattle.batch_meaning.specs.declared.raised.Raised.{Raised}
use Rattle.batch_meaning.specs.declared.stop.Stop.{Stop}
use Rattle.batch_meaning.specs.declared.stop.Stop.TheVariants.{Failed, Left as LeftSo}
use Rattle.batch_meaning.specs.Asking.{assigns_all, where_ended}
use Rattle.batch_meaning.specs.Doing.{Doing, over, makes, asks, ◌then◌, Held, Left}
use Rattle.batch_meaning.specs.Failures.{plain}
use Rattle.batch_meaning.specs.Meaning.{Meaning, batch, begun_unseen, caught_as, concluded, concludes, does, doomed_write, each_of, ended_by, ends, ends_doomed, fails_for, fires, goes_on, has_failed, is_refused_doomed, leaves_rows, line_of, mean_by, mean_form, mean_of, meaning, or_full, raises, raises_at, rolls_back_told, sends_some, spends, strikes, succeeds, told_unless_own, writes, written}
use Rattle.batch_meaning.specs.Progress.{SessionProgress, begins, counts, made, sends, statement_limit, tells_rows}
use Rattle.batch_meaning.specs.Raised.{Around, action_in, around_batch, is_caught_in}
use Rattle.batch_meaning.specs.Selecting.{Effect, no_effect}
use Rattle.batch_meaning.specs.Statements.{vars_of}
use Rattle.batch_meaning.specs.Tokens.{batch_done, command_of}
use Rattle.batch_meaning.specs.Unseen.{is_unseen}
use Rattle.batch_meaning.specs.Values.{Assigned}
use Rattle.batch_meaning.specs.Working.{asks_any, known_by, status_bound, statuses}
use Rattle.statement_paths.specs.Paths.{HasDone, HasFailedIn, HasReturned, IsAround, IsFired, IsRelaxed, IsReturned, IsStatus, IsUnfired, NoneCommits, asks_of, is_write, replied, work_for, work_of}
use Rattle.statement_paths.proofs.Only.{AnyStep, NoCommit, Only, left_asks, only_if, only_then}
use Rattle.statement_paths.proofs.Apart.{Apart, held_left, left_apart}
use Rattle.statement_paths.proofs.Owned.{Calm, calm_left, none_append, nothing_more}
use Rattle.statement_paths.proofs.Statements.{NoOp}
use Rattle.statement_paths.proofs.Working.{status_read, statuses_apart}
use Rattle.statement_paths.proofs.Failing.{reads_failed}
use Rattle.statement_paths.proofs.Works.{reads_work}
use Rattle.statement_paths.proofs.Statements.{WasLeft, bound_left}
use Rattle.statement_paths.proofs.Laws.{return_done, return_failed, work_done, work_failed, work_was_left, write_comes, write_left}
use Rattle.batch_laws.specs.Committing.{is_plain, Agrees, ArePlain, Commits, DoneBy, Fires, IfOn, IsIdle, Leaves, LeftAt, LeftRuns, NoneFires}
use Rattle.batch_laws.specs.Laws.{LeftRun}
use Rattle.batch_laws.proofs.Batches.{Closed, fires_first, fires_here, fires_later, mean_closed, plain_run}
use Rattle.batch_laws.proofs.Leaving.{Wrote, commits_both, wrote_done, wrote_failed, wrote_returned}
use Rattle.batch_laws.proofs.Statements.{done_leaves}
use Rattle.batch_laws.proofs.Turns.{done_by, fires_further, fires_so, is_done, write_done_by}
use Rattle.batch_laws.proofs.Unseen.{seen_left, unseen_off}

-- ---- no commit

op_commits : (op : Op) (reply : Reply) (stand : Stand) → NoCommit op → committed_by op reply stand ≡ []
op_commits ops.Commit reply stand calm = absurd (calm refl)
op_commits ops.Begin reply stand calm = refl
op_commits (ops.Fetch table start stop hold part) reply stand calm = refl
op_commits (ops.Insert table key row) reply stand calm = refl
op_commits (ops.Replace table key row) reply stand calm = refl
op_commits (ops.Erase table key) reply stand calm = refl
op_commits ops.Mark reply stand calm = refl
op_commits (ops.BackTo mark) reply stand calm = refl
op_commits ops.Relax reply stand calm = refl
op_commits ops.Rollback reply stand calm = refl

none_commits : (exchanges : List Exchange) (stand : Stand) → NoneCommits exchanges → commits_from stand exchanges ≡ []
none_commits [] stand calm = refl
none_commits (x ∷ later) stand calm = ap (λ (c : Commits). c ++ commits_from (progress_after stand x.op x.reply) later) (op_commits x.op x.reply stand calm.0) ∙ none_commits later (progress_after stand x.op x.reply) calm.1

rolls_calm : Calm rolls_back_told
unfolding rolls_back_told
rolls_calm = λ p. only_if AnyStep NoCommit p.is_open (asks ops.Rollback (where_ended (told_unless_own p.is_own p.txn.serial))) nothing_more ((λ is. let no : ops.Rollback ≡ ops.Commit = is in cc), by_reply (told_unless_own p.is_own p.txn.serial) (told_calm p.is_own p.txn.serial)) tt
  where
    told_calm : (is_own : Bool) (serial : ℕ) → Calm (told_unless_own is_own serial)
    told_calm true serial = tt
    told_calm false serial = (tt, tt)

    by_reply : (told : Doing (Unit {0})) → Calm told → (reply : Reply) → CanReply ops.Rollback reply → Calm (where_ended told reply)
    by_reply told calm (replies.Ended place) can = calm
    by_reply told calm reply can = absurd can

ended_calm : (action : Action) → Calm (ended_by action)
unfolding ended_by
ended_calm act.Statement = tt
ended_calm act.Doom = tt
ended_calm act.Batch = tt
ended_calm act.BatchAndTransaction = only_then AnyStep NoCommit rolls_back_told (λ done. over _) rolls_calm (λ done. tt)

caught_calm : (action : Action) (raised : Raised) → Calm (caught_as action raised)
caught_calm act.Statement raised = tt
caught_calm act.Doom raised = (tt, tt)
caught_calm act.Batch raised = tt
caught_calm act.BatchAndTransaction raised = tt

pub raises_calm : (around : Around) (line : ℤ) (command : ℕ) (raised : Raised) → Calm (raises_at around line command raised)
unfolding raises_at
raises_calm around line command raised = λ p. struck_calm p.settings.xact_abort (or_full around p command line raised)
  where
    struck_calm : (xact_abort : Bool) (r : Raised) → Calm (strikes around xact_abort command r)
    struck_calm xact_abort r = (tt, only_if AnyStep NoCommit (is_caught_in around r) _ _ (caught_calm (action_in around xact_abort r) r) (tt, ended_calm (action_in around xact_abort r)))

pub spends_calm : (around : Around) (statement : Statement) → Calm (spends statement around)
spends_calm around statement = raises_calm around (line_of statement) (command_of (form_of statement)) _

pub fails_calm : (around : Around) (statement : Statement) (failure : Failure) → Calm (fails_for around statement failure)
unfolding fails_for
fails_calm around statement failure = only_if AnyStep NoCommit (leaves_rows (form_of statement)) (raises around statement _) (makes (tells_rows 0) (raises around statement _))
    (raises_calm around (line_of statement) (command_of (form_of statement)) _) (tt, raises_calm around (line_of statement) (command_of (form_of statement)) _)

-- ---- nothing asked

sets_quiet : (assigned : List Assigned) (next : Doing Exit) → Only AnyStep NoOp next → Only AnyStep NoOp (assigns_all assigned next)
unfolding assigns_all
sets_quiet [] next quiet = quiet
sets_quiet (one ∷ assigned) next quiet = (tt, sets_quiet assigned next quiet)

sends_quiet : (tokens : List Token) (exit : Exit) → Only AnyStep NoOp (sends_some tokens (over exit))
sends_quiet [] exit = tt
sends_quiet (token ∷ tokens) exit = (tt, tt)

pub succeeds_quiet : (statement : Statement) (effect : Effect) (exit : Exit) → Only AnyStep NoOp (succeeds statement effect (over exit))
unfolding succeeds
succeeds_quiet statement effect exit = sets_quiet effect.sets _ (only_if AnyStep NoOp (leaves_rows (form_of statement)) _ _ (tt, sends_quiet effect.tokens exit) (tt, (tt, sends_quiet effect.tokens exit)))

pub quiet_left : {A : Type 0} (tree : Doing A) (p new : SessionProgress) (exchanges : List Exchange) → Only AnyStep NoOp tree → Left tree p exchanges new → exchanges ≡ []
quiet_left tree p new exchanges quiet left = by_asked exchanges (left_asks AnyStep NoOp tree p new exchanges quiet left)
  where
    by_asked : (exchanges : List Exchange) → AskOnly NoOp exchanges → exchanges ≡ []
    by_asked [] is = refl
    by_asked (x ∷ later) is = absurd is.0.0

-- ---- what has failed commits nothing

pub relaxed_calm : (manner : Manner) (exchanges : List Exchange) → IsRelaxed manner exchanges → NoneCommits exchanges
relaxed_calm manner exchanges (inl is) = subst NoneCommits (sym is) tt
relaxed_calm manner exchanges (inr is) = subst NoneCommits (sym is) ((λ so. let no : ops.Relax ≡ ops.Commit = so in cc), tt)

around_calm : (asks_some is_open : Bool) (manner : Manner) (worked exchanges : List Exchange) → NoneCommits worked → IsAround asks_some is_open false manner worked exchanges → NoneCommits exchanges
around_calm false is_open manner worked exchanges calm here = subst NoneCommits (sym here) calm
around_calm true true manner worked exchanges calm here = subst NoneCommits (sym here.1) (none_append worked here.0 calm (relaxed_calm manner here.0 here.2))
around_calm true false manner worked exchanges calm here = subst NoneCommits (sym here.2)
    (none_append (replied manner ops.Begin replies.Began ∷ (worked ++ here.0)) (replied manner ops.Rollback (replies.Ended here.1) ∷ [])
    ((λ is. let no : ops.Begin ≡ ops.Commit = is in cc), none_append worked here.0 calm (relaxed_calm manner here.0 here.3)) ((λ is. let no : ops.Rollback ≡ ops.Commit = is in cc), tt))

failed_calm : (p : SessionProgress) (asks_some : Bool) (exchanges : List Exchange) → HasFailedIn asks_some p exchanges → NoneCommits exchanges
failed_calm p asks_some exchanges (inl nothing) = subst NoneCommits (sym nothing) tt
failed_calm p asks_some exchanges (inr (inl refused)) = subst NoneCommits (sym refused) ((λ is. let no : ops.Begin ≡ ops.Commit = is in cc), tt)
failed_calm p asks_some exchanges (inr (inr (worked, f, here))) = around_calm asks_some p.is_open p.settings.manner worked exchanges (wrote_failed none_open p.settings.manner worked f).calm here

-- ---- RETURN, which was left

pub return_left : (around : Around) (statement : Statement) (p new : SessionProgress) (exchanges : List Exchange) → Left (statuses around statement) p exchanges new → NoneCommits exchanges ⊎ ((p.is_open ≡ false) × (status : ℤ) × HasReturned around p statement status exchanges)
unfolding statuses
return_left around statement p new exchanges left = by_left (bound_left around p statement (status_bound around) (λ shapes of status worked. IsStatus around p shapes of status worked) (λ shapes of. reads_work (status_bound around shapes of) (status_read around p shapes of))
    (λ shapes of q r worked status still held. statuses_apart around p shapes of q r worked status still held) (λ shapes of q r worked failure still held. reads_failed p.settings.manner (status_bound around shapes of) q r worked (Err failure) (status_read around p shapes of) held) new exchanges left)
  where
    by_left : WasLeft p (λ (status : ℤ) worked. IsReturned around p statement status worked) (asks_any (known_by around statement) (looked_up statement)) exchanges → NoneCommits exchanges ⊎ ((p.is_open ≡ false) × (status : ℤ) × HasReturned around p statement status exchanges)
    by_left (inl calm) = inl calm
    by_left (inr on) = inr (on.0, on.1, (on.2, on.3, subst (λ (b : Bool). IsAround (asks_any (known_by around statement) (looked_up statement)) b true p.settings.manner on.2 exchanges) (sym on.0) on.4))

-- ---- what was done

-- around which work, that has planned this
pub record DoneParts (p : SessionProgress) (planned : List Planned) (exchanges : List Exchange) : Type 0 where
  pub asks : Bool
  pub worked : List Exchange
  pub wrote : (stand : Stand) → Wrote stand worked planned
  pub around : IsAround asks p.is_open true p.settings.manner worked exchanges

pub done_parts : (around : Around) (p : SessionProgress) (statement : Statement) (exit : Exit) (planned : List Planned) (effect : Effect) (exchanges : List Exchange) (form : Layer) → DoneBy form around p statement exit planned effect exchanges → DoneParts p planned exchanges
done_parts around p statement exit planned effect exchanges (Form-F.Return value) done = record {
  asks = asks_any (known_by around statement) (looked_up statement);
  worked = done.1.0;
  wrote = λ stand. subst (Wrote stand done.1.0) (sym done.3) (wrote_returned stand around p statement done.0 done.1.0 done.1.1);
  around = done.1.2;
}
done_parts around p statement exit planned effect exchanges form done =
    record { asks = asks_of around statement; worked = done.0.0; wrote = λ stand. wrote_done stand around p statement planned effect done.0.0 done.0.1; around = done.0.2 }

-- ---- a statement that was left

-- it has asked no commit, or it has done its work, and that is what is committed
abbrev pub Went : Around → SessionProgress → Statement → List Exchange → Type 0
Went around p statement exchanges = NoneCommits exchanges ⊎ ((exit : Exit) × (planned : List Planned) × (effect : Effect) × DoneBy (form_of statement) around p statement exit planned effect exchanges × (commits_of exchanges ≡ commit_of (Net planned)))

-- or it has fired triggers
abbrev pub WentOr : Around → SessionProgress → Statement → List Exchange → Type 0
WentOr around p statement exchanges = Went around p statement exchanges ⊎ Fires around p statement exchanges

shut_agrees : (is_open : Bool) → is_open ≡ false → Agrees is_open none_open
shut_agrees is_open shut = subst (λ (b : Bool). Agrees b none_open) (sym shut) refl

shut_commits : (is_open : Bool) (exchanges : List Exchange) (planned : List Planned) → is_open ≡ false → Leaves is_open is_open none_open exchanges planned → commits_of exchanges ≡ commit_of (Net planned)
shut_commits true exchanges planned shut leaves = absurd (let no : true ≡ false = shut in cc)
shut_commits false exchanges planned shut leaves = leaves.1

module _ (around : Around) (statement : Statement) (p : SessionProgress) (shut : p.is_open ≡ false) where
  -- what was done is committed in its own transaction, if it asked for one
  done_went : (exit : Exit) (planned : List Planned) (effect : Effect) (exchanges : List Exchange) → DoneBy (form_of statement) around p statement exit planned effect exchanges → Went around p statement exchanges
  done_went exit planned effect exchanges done = by_parts (done_parts around p statement exit planned effect exchanges (form_of statement) done)
    where
      by_asks : (asks : Bool) (worked : List Exchange) → ((stand : Stand) → Wrote stand worked planned) → IsAround asks p.is_open true p.settings.manner worked exchanges → Went around p statement exchanges
      by_asks true worked wrote here = inr (exit, planned, effect, done, shut_commits p.is_open exchanges planned shut (done_leaves none_open p.settings.manner exchanges worked planned wrote p.is_open (shut_agrees p.is_open shut) here))
      by_asks false worked wrote here = inl (subst NoneCommits (sym here) (wrote none_open).calm)

      by_parts : DoneParts p planned exchanges → Went around p statement exchanges
      by_parts parts = by_asks parts.asks parts.worked parts.wrote parts.around

  -- and behind it nothing more is asked
  told_went : (exit : Exit) (planned : List Planned) (effect : Effect) (leaves : Exit) (mid new : SessionProgress) (exchanges front back : List Exchange) → exchanges ≡ front ++ back → DoneBy (form_of statement) around p statement exit planned effect front → Left (succeeds statement effect (over leaves)) mid back new
      → Went around p statement exchanges
  told_went exit planned effect leaves mid new exchanges front back parts done rest =
      let none = quiet_left (succeeds statement effect (over leaves)) mid new back (succeeds_quiet statement effect leaves) rest in
      subst (Went around p statement) (sym (parts ∙ ap (λ (l : List Exchange). front ++ l) none ∙ append-nil front)) (done_went exit planned effect front done)

  -- where it failed
  failed_went : (failure : Failure) (asks_some : Bool) (mid new : SessionProgress) (exchanges front back : List Exchange) → exchanges ≡ front ++ back → HasFailedIn asks_some p front → Left (fails_for around statement failure) mid back new → Went around p statement exchanges
  failed_went failure asks_some mid new exchanges front back parts failed rest =
      inl (subst NoneCommits (sym parts) (none_append front back (failed_calm p asks_some front failed) (calm_left (fails_for around statement failure) mid new back (fails_calm around statement failure) rest)))

  -- one that is done with its effect
  does_went : (new : SessionProgress) (exchanges : List Exchange) (form : Layer) → form_of statement ≡ form → is_done form ≡ true → Left (does around statement On (work_of around statement)) p exchanges new → Went around p statement exchanges
  unfolding does concludes
  does_went new exchanges form is done_one left = by_left (left_apart (work_of around statement) (concluded around statement (λ effect. succeeds statement effect (over On))) p new exchanges left)
    where
      done_as : (planned : List Planned) (effect : Effect) (front : List Exchange) → HasDone around p statement planned effect front → DoneBy (form_of statement) around p statement On planned effect front
      done_as planned effect front done = subst (λ (f : Layer). DoneBy f around p statement On planned effect front) (sym is) (done_by around p statement form done_one planned effect front done)

      by_came : (front back : List Exchange) (mid : SessionProgress) (came : Result Effect Failure) → exchanges ≡ front ++ back → Held (work_of around statement) p front came mid
          → Left (concluded around statement (λ effect. succeeds statement effect (over On)) came) mid back new → Went around p statement exchanges
      by_came front back mid (Ok effect) parts held rest = let done = work_done around statement p mid front effect held in told_went On done.0 effect On mid new exchanges front back parts (done_as done.0 effect front done.1) rest
      by_came front back mid (Err failure) parts held rest = failed_went failure (asks_of around statement) mid new exchanges front back parts (work_failed around statement p mid front failure held) rest

      by_work : NoneCommits exchanges ⊎ ((p.is_open ≡ false) × (planned : List Planned) × (effect : Effect) × HasDone around p statement planned effect exchanges) → Went around p statement exchanges
      by_work (inl calm) = inl calm
      by_work (inr (now, planned, effect, done)) = done_went On planned effect exchanges (done_as planned effect exchanges done)

      by_left : Left (work_of around statement) p exchanges new ⊎ Apart (work_of around statement) p exchanges (λ came mid back. Left (concluded around statement (λ effect. succeeds statement effect (over On)) came) mid back new) → Went around p statement exchanges
      by_left (inl here) = by_work (work_was_left around statement p new exchanges here)
      by_left (inr on) = by_came on.front on.back on.mid on.came on.parts on.held on.rest

  -- RETURN
  returns_went : (new : SessionProgress) (exchanges : List Exchange) (value : Option Expr) → form_of statement ≡ Form-F.Return value → Left (concludes around statement (λ status. succeeds statement no_effect (over (Return status))) (statuses around statement)) p exchanges new → Went around p statement exchanges
  unfolding concludes
  returns_went new exchanges value is left = by_left (left_apart (statuses around statement) (concluded around statement (λ status. succeeds statement no_effect (over (Return status)))) p new exchanges left)
    where
      done_as : (status : ℤ) (front : List Exchange) → HasReturned around p statement status front → DoneBy (form_of statement) around p statement (Return status) [] no_effect front
      done_as status front done = subst (λ (f : Layer). DoneBy f around p statement (Return status) [] no_effect front) (sym is) (status, done, refl, refl, refl)

      by_came : (front back : List Exchange) (mid : SessionProgress) (came : Result ℤ Failure) → exchanges ≡ front ++ back → Held (statuses around statement) p front came mid
          → Left (concluded around statement (λ status. succeeds statement no_effect (over (Return status))) came) mid back new → Went around p statement exchanges
      by_came front back mid (Ok status) parts held rest = told_went (Return status) [] no_effect (Return status) mid new exchanges front back parts (done_as status front (return_done around statement p mid front status held)) rest
      by_came front back mid (Err failure) parts held rest = failed_went failure (asks_any (known_by around statement) (looked_up statement)) mid new exchanges front back parts (return_failed around statement p mid front failure held) rest

      by_work : NoneCommits exchanges ⊎ ((p.is_open ≡ false) × (status : ℤ) × HasReturned around p statement status exchanges) → Went around p statement exchanges
      by_work (inl calm) = inl calm
      by_work (inr (now, status, done)) = done_went (Return status) [] no_effect exchanges (done_as status exchanges done)

      by_left : Left (statuses around statement) p exchanges new ⊎ Apart (statuses around statement) p exchanges (λ came mid back. Left (concluded around statement (λ status. succeeds statement no_effect (over (Return status))) came) mid back new) → Went around p statement exchanges
      by_left (inl here) = by_work (return_left around statement p new exchanges here)
      by_left (inr on) = by_came on.front on.back on.mid on.came on.parts on.held on.rest

  -- a write
  writes_went : (one : Statement → Meaning) (new : SessionProgress) (exchanges : List Exchange) (form : Layer) → form_of statement ≡ form → is_write form ≡ true → Left (writes one around statement then written around statement) p exchanges new → WentOr around p statement exchanges
  writes_went one new exchanges form is write left = by_left (left_apart (writes one around statement) (written around statement) p new exchanges left)
    where
      done_as : (planned : List Planned) (effect : Effect) (front : List Exchange) → HasDone around p statement planned effect front → DoneBy (form_of statement) around p statement On planned effect front
      done_as planned effect front done = subst (λ (f : Layer). DoneBy f around p statement On planned effect front) (sym is) (write_done_by around p statement form write planned effect front done)

      by_came : (front back : List Exchange) (mid : SessionProgress) (came : Result Effect Stop) → exchanges ≡ front ++ back → IsUnfired around p statement came front → Left (written around statement came) mid back new → Went around p statement exchanges
      by_came front back mid (Ok effect) parts done rest = told_went On done.0 effect On mid new exchanges front back parts (done_as done.0 effect front done.1) rest
      by_came front back mid (Err (Failed failure)) parts failed rest = failed_went failure (asks_of around statement) mid new exchanges front back parts failed rest
      by_came front back mid (Err (LeftSo exit)) parts never rest = absurd never

      by_work : NoneCommits exchanges ⊎ ((p.is_open ≡ false) × (planned : List Planned) × (effect : Effect) × HasDone around p statement planned effect exchanges) → Went around p statement exchanges
      by_work (inl calm) = inl calm
      by_work (inr (now, planned, effect, done)) = done_went On planned effect exchanges (done_as planned effect exchanges done)

      by_ways : (front back : List Exchange) (mid : SessionProgress) (came : Result Effect Stop) → exchanges ≡ front ++ back
          → IsUnfired around p statement came front ⊎ IsFired around p statement (λ home done q behind. Held (fires one around home done) q behind came mid) front → Left (written around statement came) mid back new → WentOr around p statement exchanges
      by_ways front back mid came parts (inl unfired) rest = inl (by_came front back mid came parts unfired rest)
      by_ways front back mid came parts (inr fired) rest = inr (fires_further around p statement front back exchanges parts (fires_so around p statement _ front fired))

      by_here : (NoneCommits exchanges ⊎ ((p.is_open ≡ false) × (planned : List Planned) × (effect : Effect) × HasDone around p statement planned effect exchanges)) ⊎ IsFired around p statement (λ home done q behind. Left (fires one around home done) q behind new) exchanges
          → WentOr around p statement exchanges
      by_here (inl work) = inl (by_work work)
      by_here (inr fired) = inr (fires_so around p statement _ exchanges fired)

      by_left : Left (writes one around statement) p exchanges new ⊎ Apart (writes one around statement) p exchanges (λ came mid back. Left (written around statement came) mid back new) → WentOr around p statement exchanges
      by_left (inl here) = by_here (write_left one around statement p new exchanges (ap is_write is ∙ write) here)
      by_left (inr on) = by_ways on.front on.back on.mid on.came on.parts (write_comes one around statement p on.mid on.front on.came (ap is_write is ∙ write) on.held) on.rest

  form_went : (one : Statement → Meaning) (new : SessionProgress) (exchanges : List Exchange) (form : Layer) → form_of statement ≡ form → is_plain form ≡ true → Left (mean_form one around statement form) p exchanges new → WentOr around p statement exchanges
  unfolding mean_form
  form_went one new exchanges (Form-F.If test so otherwise) is plain_one left = absurd (let no : false ≡ true = plain_one in cc)
  form_went one new exchanges (Form-F.While test body) is plain_one left = absurd (let no : false ≡ true = plain_one in cc)
  form_went one new exchanges Form-F.Break is plain_one left = absurd (let no : false ≡ true = plain_one in cc)
  form_went one new exchanges Form-F.Continue is plain_one left = absurd (let no : false ≡ true = plain_one in cc)
  form_went one new exchanges (Form-F.Block body) is plain_one left = absurd (let no : false ≡ true = plain_one in cc)
  form_went one new exchanges (Form-F.TryCatch body handler) is plain_one left = absurd (let no : false ≡ true = plain_one in cc)
  form_went one new exchanges (Form-F.Print value) is plain_one left = absurd (let no : false ≡ true = plain_one in cc)
  form_went one new exchanges (Form-F.RaiseError value class state) is plain_one left = absurd (let no : false ≡ true = plain_one in cc)
  form_went one new exchanges (Form-F.Throw number value state) is plain_one left = absurd (let no : false ≡ true = plain_one in cc)
  form_went one new exchanges Form-F.ThrowAgain is plain_one left = absurd (let no : false ≡ true = plain_one in cc)
  form_went one new exchanges (Form-F.SetOption option) is plain_one left = absurd (let no : false ≡ true = plain_one in cc)
  form_went one new exchanges (Form-F.Execute status name arguments) is plain_one left = absurd (let no : false ≡ true = plain_one in cc)
  form_went one new exchanges (Form-F.BeginTransaction name) is plain_one left = absurd (let no : false ≡ true = plain_one in cc)
  form_went one new exchanges (Form-F.Commit name) is plain_one left = absurd (let no : false ≡ true = plain_one in cc)
  form_went one new exchanges (Form-F.Rollback name) is plain_one left = absurd (let no : false ≡ true = plain_one in cc)
  form_went one new exchanges (Form-F.Save name) is plain_one left = absurd (let no : false ≡ true = plain_one in cc)
  form_went one new exchanges (Form-F.DeclareCursor name select) is plain_one left = absurd (let no : false ≡ true = plain_one in cc)
  form_went one new exchanges (Form-F.OpenCursor name) is plain_one left = absurd (let no : false ≡ true = plain_one in cc)
  form_went one new exchanges (Form-F.Fetch name variables) is plain_one left = absurd (let no : false ≡ true = plain_one in cc)
  form_went one new exchanges (Form-F.CloseCursor name) is plain_one left = absurd (let no : false ≡ true = plain_one in cc)
  form_went one new exchanges (Form-F.Deallocate name) is plain_one left = absurd (let no : false ≡ true = plain_one in cc)
  form_went one new exchanges (Form-F.Use name) is plain_one left = absurd (let no : false ≡ true = plain_one in cc)
  form_went one new exchanges (Form-F.Return value) is plain_one left = inl (returns_went new exchanges value is left)
  form_went one new exchanges (Form-F.Insert table columns rows) is plain_one left = writes_went one new exchanges (Form-F.Insert table columns rows) is refl left
  form_went one new exchanges (Form-F.Update table sets filter) is plain_one left = writes_went one new exchanges (Form-F.Update table sets filter) is refl left
  form_went one new exchanges (Form-F.Delete table filter) is plain_one left = writes_went one new exchanges (Form-F.Delete table filter) is refl left
  form_went one new exchanges form is plain_one left = inl (does_went new exchanges form is refl (subst (λ (f : Layer). Left (does around statement On (work_for around statement f)) p exchanges new) (sym is) left))

pub mean_went : (levels : ℕ) (around : Around) (statement : Statement) (p new : SessionProgress) (exchanges : List Exchange) → is_plain (form_of statement) ≡ true → p.is_open ≡ false → p.settings.implicit ≡ false → Left (mean_of levels statement around) p exchanges new → WentOr around (made counts p) statement exchanges
unfolding mean_of mean_by Left
mean_went zero around statement p new exchanges is shut off left = inl (inl (calm_left (spends statement around) p new exchanges (spends_calm around statement) left))
mean_went (suc levels) around statement p new exchanges is shut off left = by_spent (p.statements_left == 0) left
  where
    Next : Doing Exit
    Next = mean_by (λ inner at. mean_of levels inner at) statement around

    by_doom : (refused : Bool) → Left (if refused then fails_for around statement (plain doomed_write) else mean_form (λ inner at. mean_of levels inner at) around statement (form_of statement)) (made counts p) exchanges new → WentOr around (made counts p) statement exchanges
    by_doom true was = inl (inl (calm_left (fails_for around statement (plain doomed_write)) (made counts p) new exchanges (fails_calm around statement (plain doomed_write)) was))
    by_doom false was = form_went around statement (made counts p) shut (λ inner at. mean_of levels inner at) new exchanges (form_of statement) refl is was

    by_count : ((exchanges ≡ []) × (new ≡ p)) ⊎ Left (begun_unseen (λ q. is_unseen q (form_of statement)) (fails_for around statement) Next) (made counts p) exchanges new → WentOr around (made counts p) statement exchanges
    by_count (inl here) = inl (inl (subst NoneCommits (sym here.0) tt))
    by_count (inr later) = by_doom ((made counts p).txn.doomed && is_refused_doomed (form_of statement)) (seen_left (λ q. is_unseen q (form_of statement)) (fails_for around statement) Next (made counts p) new exchanges (unseen_off p (form_of statement) off) later)

    by_spent : (spent : Bool) → Left (if spent then spends statement around else makes counts (begun_unseen (λ q. is_unseen q (form_of statement)) (fails_for around statement) Next)) p exchanges new → WentOr around (made counts p) statement exchanges
    by_spent true was = inl (inl (calm_left (spends statement around) p new exchanges (spends_calm around statement) was))
    by_spent false was = by_count was

left_at : (around : Around) (p : SessionProgress) (statement : Statement) (exchanges : List Exchange) → Went around p statement exchanges → LeftAt around p statement (commits_of exchanges) exchanges
left_at around p statement exchanges (inl calm) = inl (none_commits exchanges none_open calm)
left_at around p statement exchanges (inr done) = inr done

-- ---- one behind another

module _ (levels : ℕ) (around : Around) where
  abbrev one : Statement → Around → Doing Exit
  one inner at = mean_of levels inner at

  run_left : (statements : List Statement) (p new : SessionProgress) (exchanges : List Exchange) → ArePlain statements → IsIdle p → NoneFires around statements exchanges → Left (each_of one statements around) p exchanges new → LeftRuns around statements p (commits_of exchanges) exchanges
  unfolding each_of Left
  run_left [] p new exchanges plain_all idle calm left = (ap commits_of left.0, left.0)
  run_left (statement ∷ others) p new exchanges plain_all idle calm left =
      by_left (λ q back now none rest. run_left others q new back plain_all.1 now none rest) (left_apart (one statement around) (λ exit. goes_on (each_of one others around) exit) p new exchanges left)
    where
      behind_first : (front back : List Exchange) (mid : SessionProgress) (came : Exit) → exchanges ≡ front ++ back → Closed around statement p front came mid → IfOn came (LeftRuns around others mid (commits_of back) back) ((commits_of back ≡ []) × (back ≡ []))
          → LeftRuns around (statement ∷ others) p (commits_of exchanges) exchanges
      behind_first front back mid came parts first goes =
          inr (
            came,
            mid,
            first.sent,
            first.planned,
            commits_of back,
            front,
            back,
            ap commits_of parts ∙ commits_both none_open front back ∙ ap (λ (s : Stand). commits_of front ++ commits_from s back) first.none ∙ ap (λ (c : Commits). c ++ commits_of back) first.commits,
            parts,
            first.ended,
            first.stays,
            first.idle,
            goes,
          )

      by_came : (front back : List Exchange) (mid : SessionProgress) (came : Exit) → exchanges ≡ front ++ back → Closed around statement p front came mid
          → ((q : SessionProgress) → IsIdle q → Left (each_of one others around) q back new → LeftRuns around others q (commits_of back) back) → Left (goes_on (each_of one others around) came) mid back new
          → LeftRuns around (statement ∷ others) p (commits_of exchanges) exchanges
      by_came front back mid On parts first goes rest = behind_first front back mid On parts first (goes mid first.idle rest)
      by_came front back mid Leave parts first goes rest = behind_first front back mid Leave parts first (ap commits_of rest.0, rest.0)
      by_came front back mid Again parts first goes rest = behind_first front back mid Again parts first (ap commits_of rest.0, rest.0)
      by_came front back mid (Return status) parts first goes rest = behind_first front back mid (Return status) parts first (ap commits_of rest.0, rest.0)
      by_came front back mid (RaiseUp raised) parts first goes rest = behind_first front back mid (RaiseUp raised) parts first (ap commits_of rest.0, rest.0)
      by_came front back mid (Raise raised) parts first goes rest = behind_first front back mid (Raise raised) parts first (ap commits_of rest.0, rest.0)
      by_came front back mid End parts first goes rest = behind_first front back mid End parts first (ap commits_of rest.0, rest.0)

      by_went : WentOr around (made counts p) statement exchanges → LeftRuns around (statement ∷ others) p (commits_of exchanges) exchanges
      by_went (inl went) = inl (left_at around (made counts p) statement exchanges went)
      by_went (inr fires) = absurd (calm (fires_here around statement others p exchanges exchanges [] idle (sym (append-nil exchanges)) fires))

      by_left : ((q : SessionProgress) (back : List Exchange) → IsIdle q → NoneFires around others back → Left (each_of one others around) q back new → LeftRuns around others q (commits_of back) back)
          → Left (one statement around) p exchanges new ⊎ Apart (one statement around) p exchanges (λ came mid back. Left (goes_on (each_of one others around) came) mid back new) → LeftRuns around (statement ∷ others) p (commits_of exchanges) exchanges
      by_left goes (inl here) = by_went (mean_went levels around statement p new exchanges plain_all.0 idle.none.shut idle.seen here)
      by_left goes (inr on) =
          let first = mean_closed levels around statement p on.mid on.front on.came plain_all.0 idle (λ fires. calm (fires_here around statement others p exchanges on.front on.back idle on.parts fires)) on.held in
          by_came on.front on.back on.mid on.came on.parts first (λ q now rest. goes q on.back now (λ fires. calm (fires_later around statement others exchanges on.front on.back on.parts first.none fires)) rest) on.rest

-- ---- a batch

pub ends_quiet : (exit : Exit) (p new : SessionProgress) (exchanges : List Exchange) → p.txn.doomed ≡ false → Left (ends exit) p exchanges new → exchanges ≡ []
unfolding ends Left
ends_quiet exit p new exchanges sound left = by_doom p.txn.doomed sound left
  where
    by_doom : (doomed : Bool) → doomed ≡ false → Left (if doomed then ends_doomed else makes (sends (batch_done (has_failed exit) ∷ [])) nothing_more) p exchanges new → exchanges ≡ []
    by_doom true is was = absurd (let no : true ≡ false = is in cc)
    by_doom false is (inl here) = here.0
    by_doom false is (inr later) = later.0

none_left : (around : Around) (statements : List Statement) (p : SessionProgress) (exchanges : List Exchange) → exchanges ≡ [] → LeftRuns around statements p (commits_of exchanges) exchanges
none_left around [] p exchanges none = (ap commits_of none, none)
none_left around (statement ∷ others) p exchanges none = inl (inl (ap commits_of none))

pub left_run : LeftRun
unfolding batch Left
left_run statements old new exchanges plain_all idle calm left = by_begins left
  where
    begun : SessionProgress
    begun = made (begins (vars_of statements)) old

    now : IsIdle begun
    now = record { none = record { shut = idle.none.shut; closed = idle.none.closed; sound = idle.none.sound }; seen = idle.seen }

    by_apart : Left (meaning statement_limit statements around_batch) begun exchanges new ⊎ Apart (meaning statement_limit statements around_batch) begun exchanges (λ exit mid back. Left (ends exit) mid back new)
        → LeftRuns around_batch statements begun (commits_of exchanges) exchanges
    by_apart (inl here) = run_left statement_limit around_batch statements begun new exchanges plain_all now calm here
    by_apart (inr on) =
        let quiet : NoneFires around_batch statements on.front = λ fires. calm (fires_first around_batch statements exchanges on.front on.back on.parts fires) in
        let ran = plain_run statement_limit around_batch statements begun on.mid on.front on.came plain_all now quiet on.held in
        let whole : on.front ≡ exchanges = sym (on.parts ∙ ap (λ (l : List Exchange). on.front ++ l) (ends_quiet on.came on.mid new on.back ran.2.none.sound on.rest) ∙ append-nil on.front) in
        subst (λ (l : List Exchange). LeftRuns around_batch statements begun (commits_of l) l) whole
        (run_left statement_limit around_batch statements begun on.mid on.front plain_all now quiet (held_left (meaning statement_limit statements around_batch) begun on.mid on.front on.came on.held))

    by_begins : ((exchanges ≡ []) × (new ≡ old)) ⊎ Left (meaning statement_limit statements around_batch then ends) begun exchanges new → LeftRuns around_batch statements begun (commits_of exchanges) exchanges
    by_begins (inl here) = none_left around_batch statements begun exchanges here.0
    by_begins (inr later) = by_apart (left_apart (meaning statement_limit statements around_batch) ends begun new exchanges later)
