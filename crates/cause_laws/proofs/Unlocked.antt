-- What a statement does behind those that it has run asks for no lock: it ends transactions and locks alone. So no reply to that is the cause of an error of a lock.
use Rattle.std.proofs.Common.{◌≡◌, refl, ℕ, ℤ, pos, List, [], ◌∷◌, Option, None, Bool, true, false, Result, Ok, Err, if◌then◌else◌}
use Rattle.std.specs.Prelude.{nat_lt}
use Rattle.tsql_tree.specs.declared.statement.Argument.{Argument}
use Rattle.tsql_tree.specs.declared.statement.Statement.{Statement}
use Rattle.binder.specs.Names.{Layer, form_of}
use Rattle.error_table.specs.declared.action.Action.{Action}
use Rattle.error_table.specs.declared.action.Action.TheVariants as act
use Rattle.session_vars.specs.declared.Variable.{Variable}
use Rattle.step_model.specs.declared.op.Op.{Op}
use Rattle.step_model.specs.declared.op.Op.TheVariants as ops
use Rattle.step_model.specs.declared.reply.Reply.{Reply}
use Rattle.step_model.specs.declared.reply.Reply.TheVariants as replies
use Rattle.step_model.specs.Exchange.{CanReply, Exchange}
use Rattle.tds_tokens.specs.declared.token.Token.{Token}
use Rattle.batch_meaning.specs.declared.errand.Errand.{Errand}
use Rattle.batch_meaning.specs.declared.exit.Exit.{Exit}
use Rattle.batch_meaning.specs.declared.exit.Exit.TheVariants.{On, Leave, Again, Return, Raise, RaiseUp, End}
use Rattle.batch_meaning.specs.declared.failure.Failure.{Failure}
use Rattle.batch_meaning.specs.declared.home.Home.{Home}
use Rattle.batch_meaning.specs.declared.home.Home.TheVariants.{Nowhere, Open, Own}
use Rattle.batch_meaning.specs.declared.raised.Raised.{Raised}
use Rattle.batch_meaning.specs.Asking.{assigns_all, comes_to, where_done, where_ended}
use Rattle.batch_meaning.specs.Calls.{Call, given_back, uneven}
use Rattle.batch_meaning.specs.Doing.{Doing, asks, makes, over, reads, ◌then◌}
use Rattle.batch_meaning.specs.Failures.{plain}
use Rattle.batch_meaning.specs.Firing.{closes_own, has_mark, leaves_fired, relaxes_then, settles, undone_to}
use Rattle.batch_meaning.specs.Meaning.{caught_as, concluded, concludes, counted, ended_by, ends, ends_call, ends_doomed, ends_even, ends_uneven, ends_uneven_as, fails_for, gives_back, has_failed, is_even, leaves_rows, line_of, raises, raises_at, returns_from, rolls_back_told, sends_some, strikes, succeeds, told_as, told_unless_own, uneven_end, uneven_tokens, where_it_fits}
use Rattle.batch_meaning.specs.Progress.{SessionProgress, fired_from, sends, size_of, tells_error, tells_rows}
use Rattle.batch_meaning.specs.Raised.{Around, action_in, around_batch, is_caught_in, raised_at, raised_in}
use Rattle.batch_meaning.specs.Rpc.{ending, ends_exec, ends_rpc, ends_rpc_doomed, error_or_full, fails_call, gives_call_back, goes_on_with, leaves_body, returned, returns_uneven, rpc_arguments, strikes_call, tells_returned, tells_well}
use Rattle.batch_meaning.specs.Selecting.{Effect, result_full, sending}
use Rattle.batch_meaning.specs.Tokens.{batch_done, done_kind, procedure_done, rpc_done}
use Rattle.batch_meaning.specs.Values.{Assigned}
use Rattle.batch_meaning.specs.Working.{closes, leaves, relaxes}
use Rattle.statement_paths.specs.Asked.{AskOnly}
use Rattle.statement_paths.proofs.Only.{AnyStep, Only, only_comes, only_if, only_then}
use Rattle.cause_laws.specs.Causes.{Deadlock, LockError, LockTimeout, NeverAnswered, is_answer}

-- ---- operations

abbrev pub IsUnlocked : Op → Type 0
IsUnlocked (ops.BackTo mark) = Unit {0}
IsUnlocked ops.Relax = Unit {0}
IsUnlocked ops.Commit = Unit {0}
IsUnlocked ops.Rollback = Unit {0}
IsUnlocked op = ⊥

abbrev pub Unlocked : {A : Type 0} → Doing A → Type 0
Unlocked tree = Only AnyStep IsUnlocked tree

no_victim : (op : Op) → IsUnlocked op → (reply : Reply) → CanReply op reply → (error : LockError) → is_answer error reply ≡ false
no_victim op unlocked (replies.Victim cycle) can error = by_op op unlocked can
  where
    by_op : (op : Op) → IsUnlocked op → CanReply op (replies.Victim cycle) → is_answer error (replies.Victim cycle) ≡ false
    by_op (ops.BackTo mark) is can = absurd can
    by_op ops.Relax is can = absurd can
    by_op ops.Commit is can = absurd can
    by_op ops.Rollback is can = absurd can
    by_op op is can = absurd is
no_victim op unlocked (replies.TimedOut holder held wanted on) can error = by_op op unlocked can
  where
    by_op : (op : Op) → IsUnlocked op → CanReply op (replies.TimedOut holder held wanted on) → is_answer error (replies.TimedOut holder held wanted on) ≡ false
    by_op (ops.BackTo mark) is can = absurd can
    by_op ops.Relax is can = absurd can
    by_op ops.Commit is can = absurd can
    by_op ops.Rollback is can = absurd can
    by_op op is can = absurd is
no_victim op unlocked reply can Deadlock = refl
no_victim op unlocked reply can LockTimeout = refl

pub never_answered : (error : LockError) (exchanges : List Exchange) → AskOnly IsUnlocked exchanges → NeverAnswered error exchanges
never_answered error [] only = tt
never_answered error (x ∷ later) only = (no_victim x.op only.0.0 x.reply only.0.1 error, never_answered error later only.1)

-- ---- parts

unlocked_if : {A : Type 0} (test : Bool) (first other : Doing A) → Unlocked first → Unlocked other → Unlocked (if test then first else other)
unlocked_if test first other one two = only_if AnyStep IsUnlocked test first other one two

unlocked_done : {A : Type 0} (next : Doing A) → Unlocked next → (reply : Reply) → Unlocked (where_done next reply)
unlocked_done next unlocked replies.Done = unlocked
unlocked_done next unlocked reply = tt

unlocked_ended : {A : Type 0} (next : Doing A) → Unlocked next → (reply : Reply) → Unlocked (where_ended next reply)
unlocked_ended next unlocked (replies.Ended place) = unlocked
unlocked_ended next unlocked reply = tt

unlocked_told : Unlocked rolls_back_told
unfolding rolls_back_told
unlocked_told = λ p. unlocked_if p.is_open (asks ops.Rollback (where_ended (told_unless_own p.is_own p.txn.serial))) (over tt) (tt, λ reply can. unlocked_ended (told_unless_own p.is_own p.txn.serial) (by_own p.is_own p.txn.serial) reply) tt
  where
    by_own : (is_own : Bool) (serial : ℕ) → Unlocked (told_unless_own is_own serial)
    by_own true serial = tt
    by_own false serial = (tt, tt)

unlocked_ended_by : (action : Action) → Unlocked (ended_by action)
unfolding ended_by
unlocked_ended_by act.Statement = tt
unlocked_ended_by act.Doom = tt
unlocked_ended_by act.Batch = tt
unlocked_ended_by act.BatchAndTransaction = only_then AnyStep IsUnlocked rolls_back_told (λ done. over End) unlocked_told (λ done. tt)

unlocked_caught : (action : Action) (raised : Raised) → Unlocked (caught_as action raised)
unlocked_caught act.Statement raised = tt
unlocked_caught act.Doom raised = (tt, tt)
unlocked_caught act.Batch raised = tt
unlocked_caught act.BatchAndTransaction raised = tt

unlocked_strikes : (around : Around) (xact_abort : Bool) (command : ℕ) (raised : Raised) → Unlocked (strikes around xact_abort command raised)
unlocked_strikes around xact_abort command raised = (
  tt,
  unlocked_if (is_caught_in around raised) (caught_as (action_in around xact_abort raised) raised) (told_as (done_kind around) (action_in around xact_abort raised) command raised)
      (unlocked_caught (action_in around xact_abort raised) raised) (tt, unlocked_ended_by (action_in around xact_abort raised)),
)

unlocked_at : (around : Around) (line : ℤ) (command : ℕ) (raised : Raised) → Unlocked (raises_at around line command raised)
unfolding raises_at
unlocked_at around line command raised = λ p. unlocked_strikes around p.settings.xact_abort command _

pub unlocked_raises : (around : Around) (statement : Statement) (raised : Raised) → Unlocked (raises around statement raised)
unlocked_raises around statement raised = unlocked_at around _ _ raised

unlocked_counted : (form : Layer) (rows : ℕ) (next : Doing Exit) → Unlocked next → Unlocked (counted form rows next)
unlocked_counted form rows next unlocked = unlocked_if (leaves_rows form) next (makes (tells_rows rows) next) unlocked (tt, unlocked)

pub unlocked_fails : (around : Around) (statement : Statement) (failure : Failure) → Unlocked (fails_for around statement failure)
unfolding fails_for
unlocked_fails around statement failure = unlocked_counted (form_of statement) 0 (raises around statement (raised_in around.procedure (line_of statement) failure)) (unlocked_raises around statement (raised_in around.procedure (line_of statement) failure))

unlocked_sends : (tokens : List Token) (next : Doing Exit) → Unlocked next → Unlocked (sends_some tokens next)
unlocked_sends [] next unlocked = unlocked
unlocked_sends (token ∷ tokens) next unlocked = (tt, unlocked)

unlocked_assigns : {A : Type 0} (sets : List Assigned) (next : Doing A) → Unlocked next → Unlocked (assigns_all sets next)
unfolding assigns_all
unlocked_assigns [] next unlocked = unlocked
unlocked_assigns (one ∷ rest) next unlocked = (tt, unlocked_assigns rest next unlocked)

pub unlocked_succeeds : (statement : Statement) (effect : Effect) (next : Doing Exit) → Unlocked next → Unlocked (succeeds statement effect next)
unfolding succeeds
unlocked_succeeds statement effect next unlocked = unlocked_assigns effect.sets (counted (form_of statement) effect.rows (makes (tells_error (pos 0)) (sends_some effect.tokens next)))
    (unlocked_counted (form_of statement) effect.rows (makes (tells_error (pos 0)) (sends_some effect.tokens next)) (tt, unlocked_sends effect.tokens next unlocked))

-- ---- the end of a call

unlocked_where : (around : Around) (statement : Statement) (tokens : List Token) (next : Doing Exit) → Unlocked next → Unlocked (where_it_fits around statement tokens next)
unlocked_where around statement tokens next unlocked = λ p. unlocked_if (nat_lt p.bytes_left (size_of tokens)) (fails_for around statement (plain result_full)) next (unlocked_fails around statement (plain result_full)) unlocked

unlocked_uneven : (around : Around) (statement : Statement) (status : ℤ) (raised : Raised) (caught : Bool) (action : Action) → Unlocked (ends_uneven_as around statement status raised caught action)
unlocked_uneven around statement status raised caught action = unlocked_where around statement (uneven_tokens caught action status raised) _ (tt, (tt, (tt, by_caught caught)))
  where
    by_caught : (caught : Bool) → Unlocked (uneven_end caught action raised)
    by_caught true = unlocked_caught action raised
    by_caught false = unlocked_ended_by action

unlocked_ends_call : (around : Around) (statement : Statement) (count : ℕ) (status : ℤ) → Unlocked (ends_call around statement count status)
unfolding ends_even ends_uneven
unlocked_ends_call around statement count status = λ p. unlocked_if (is_even p count) (ends_even around statement status) (ends_uneven around statement status raised)
    (unlocked_where around statement (procedure_done status) (succeeds statement (sending (procedure_done status)) (over On)) (unlocked_succeeds statement (sending (procedure_done status)) (over On) tt))
    (λ q. unlocked_uneven around statement status raised (is_caught_in around raised) (action_in around q.settings.xact_abort raised))
  where
    raised : Raised
    raised = raised_in around.procedure (line_of statement) (plain uneven)

unlocked_gives_back : (around : Around) (statement : Statement) (variable : Option (List ℕ)) (arguments : List Argument) (call : Call) (count : ℕ) (vars : List Variable) (number : ℤ) → Unlocked (gives_back around statement variable arguments call count vars number)
unfolding gives_back concludes
unlocked_gives_back around statement variable arguments call count vars number = only_then AnyStep IsUnlocked (reads λ p. comes_to (given_back p.vars variable arguments call number vars)) (λ came. concluded around statement go came)
    (λ p. only_comes AnyStep IsUnlocked (given_back p.vars variable arguments call number vars)) by_came
  where
    go : List Assigned → Doing Exit
    go sets = assigns_all sets (ends_call around statement count number)

    by_came : (came : Result (List Assigned) Failure) → Unlocked (concluded around statement go came)
    by_came (Ok sets) = unlocked_assigns sets (ends_call around statement count number) (unlocked_ends_call around statement count number)
    by_came (Err failure) = unlocked_fails around statement failure

pub unlocked_returns : (around : Around) (statement : Statement) (variable : Option (List ℕ)) (arguments : List Argument) (call : Call) (count : ℕ) (vars : List Variable) (came : Exit) → Unlocked (returns_from around statement variable arguments call count vars came)
unlocked_returns around statement variable arguments call count vars (Raise raised) = (tt, tt)
unlocked_returns around statement variable arguments call count vars (RaiseUp raised) = (tt, tt)
unlocked_returns around statement variable arguments call count vars End = (tt, tt)
unlocked_returns around statement variable arguments call count vars (Return number) = unlocked_gives_back around statement variable arguments call count vars number
unlocked_returns around statement variable arguments call count vars On = unlocked_gives_back around statement variable arguments call count vars (pos 0)
unlocked_returns around statement variable arguments call count vars Leave = unlocked_gives_back around statement variable arguments call count vars (pos 0)
unlocked_returns around statement variable arguments call count vars Again = unlocked_gives_back around statement variable arguments call count vars (pos 0)

-- ---- the end of a write

unlocked_relaxes : Unlocked relaxes
unfolding relaxes
unlocked_relaxes = λ p. unlocked_if p.touched (asks ops.Relax (where_done (over tt))) (over tt) (tt, λ reply can. unlocked_done (over tt) tt reply) tt

unlocked_closes : (succeeded : Bool) → Unlocked (closes succeeded)
unfolding closes
unlocked_closes true = (tt, λ reply can. unlocked_ended (over tt) tt reply)
unlocked_closes false = (tt, λ reply can. unlocked_ended (over tt) tt reply)

unlocked_leaves : (home : Home) (succeeded : Bool) → Unlocked (leaves home succeeded)
unfolding leaves
unlocked_leaves Nowhere succeeded = tt
unlocked_leaves Open succeeded = unlocked_relaxes
unlocked_leaves Own succeeded = only_then AnyStep IsUnlocked relaxes (λ done. closes succeeded) unlocked_relaxes (λ done. unlocked_closes succeeded)

unlocked_own : (home : Home) (succeeded : Bool) → Unlocked (closes_own home succeeded)
unlocked_own Own succeeded = unlocked_closes succeeded
unlocked_own Open succeeded = tt
unlocked_own Nowhere succeeded = tt

unlocked_undone : (mark : ℕ) (there : Bool) (next : Doing (Unit {0})) → Unlocked next → Unlocked (undone_to mark there (relaxes_then next))
unfolding relaxes_then
unlocked_undone mark true next unlocked = (tt, λ reply can. unlocked_done (asks ops.Relax (where_done next)) (tt, λ other able. unlocked_done next unlocked other) reply)
unlocked_undone mark false next unlocked = (tt, λ reply can. unlocked_done next unlocked reply)

pub unlocked_leaving : (home : Home) (mark : ℕ) (stood succeeded : Bool) → Unlocked (leaves_fired home mark stood succeeded)
unfolding leaves_fired
unlocked_leaving home mark stood succeeded = λ p. only_then AnyStep IsUnlocked (if p.stands then settles home mark succeeded p else over tt) (λ done. makes (fired_from mark stood) (over tt))
    (unlocked_if p.stands (settles home mark succeeded p) (over tt) (by_end succeeded p) tt) (λ done. (tt, tt))
  where
    by_end : (succeeded : Bool) (p : SessionProgress) → Unlocked (settles home mark succeeded p)
    by_end true p = unlocked_leaves home true
    by_end false p = unlocked_undone mark (has_mark mark p) (closes_own home false) (unlocked_own home false)

-- ---- the end of a batch

pub unlocked_ends : (exit : Exit) → Unlocked (ends exit)
unfolding ends ends_doomed
unlocked_ends exit = λ p. unlocked_if p.txn.doomed ends_doomed (makes (sends (batch_done (has_failed exit) ∷ [])) (over tt))
    (tt, only_then AnyStep IsUnlocked rolls_back_told (λ done. makes (sends (batch_done true ∷ [])) (over tt)) unlocked_told (λ done. (tt, tt))) (tt, tt)

-- ---- the end of a call by RPC

unlocked_strikes_call : (xact_abort : Bool) (raised : Raised) → Unlocked (strikes_call xact_abort raised)
unlocked_strikes_call xact_abort raised = (tt, (tt, unlocked_ended_by (ending (action_in around_batch xact_abort raised))))

pub unlocked_fails_call : (failure : Failure) → Unlocked (fails_call failure)
unfolding fails_call
unlocked_fails_call failure = (tt, λ p. unlocked_strikes_call p.settings.xact_abort (error_or_full p (raised_at (pos 1) failure)))

unlocked_returned : (number : ℤ) (tokens : List Token) (next : Doing Exit) → Unlocked next → Unlocked (tells_returned number tokens next)
unlocked_returned number tokens next unlocked = λ p. unlocked_if (nat_lt p.bytes_left (size_of tokens)) (fails_call (plain result_full)) (makes (tells_rows 0) (makes (tells_error number) (makes (sends tokens) next)))
    (unlocked_fails_call (plain result_full)) (tt, (tt, (tt, unlocked)))

unlocked_ends_exec : (call : Errand) (count : ℕ) (status : ℤ) → Unlocked (ends_exec call count status)
unfolding ends_exec
unlocked_ends_exec call count status = λ p q. unlocked_if (is_even q count) (tells_returned (pos 0) (returned call p.vars status) (over On)) (returns_uneven (returned call p.vars status) raised (action_in around_batch q.settings.xact_abort raised))
    (unlocked_returned (pos 0) (returned call p.vars status) (over On) tt)
    (unlocked_returned raised.number _ (ended_by (action_in around_batch q.settings.xact_abort raised)) (unlocked_ended_by (action_in around_batch q.settings.xact_abort raised)))
  where
    raised : Raised
    raised = raised_at (pos 1) (plain uneven)

unlocked_gives_call_back : (call : Errand) (of : Call) (count : ℕ) (inner : List Variable) (status : ℤ) → Unlocked (gives_call_back call of count inner status)
unfolding gives_call_back
unlocked_gives_call_back call of count inner status = only_then AnyStep IsUnlocked (reads λ p. comes_to (given_back p.vars None (rpc_arguments call) of status inner)) (λ came. goes_on_with go came)
    (λ p. only_comes AnyStep IsUnlocked (given_back p.vars None (rpc_arguments call) of status inner)) by_came
  where
    go : List Assigned → Doing Exit
    go sets = assigns_all sets (ends_exec call count status)

    by_came : (came : Result (List Assigned) Failure) → Unlocked (goes_on_with go came)
    by_came (Ok sets) = unlocked_assigns sets (ends_exec call count status) (unlocked_ends_exec call count status)
    by_came (Err failure) = unlocked_fails_call failure

pub unlocked_leaves_body : (call : Errand) (of : Call) (count : ℕ) (inner : List Variable) (exit : Exit) → Unlocked (leaves_body call of count inner exit)
unlocked_leaves_body call of count inner (Raise raised) = (tt, tt)
unlocked_leaves_body call of count inner (RaiseUp raised) = (tt, tt)
unlocked_leaves_body call of count inner End = (tt, tt)
unlocked_leaves_body call of count inner (Return status) = unlocked_gives_call_back call of count inner status
unlocked_leaves_body call of count inner On = unlocked_gives_call_back call of count inner (pos 0)
unlocked_leaves_body call of count inner Leave = unlocked_gives_call_back call of count inner (pos 0)
unlocked_leaves_body call of count inner Again = unlocked_gives_call_back call of count inner (pos 0)

pub unlocked_well : (call : Errand) → Unlocked (tells_well call)
unlocked_well call = λ p. unlocked_returned (pos 0) (returned call p.vars (pos 0)) (over On) tt

pub unlocked_rpc_end : (exit : Exit) → Unlocked (ends_rpc exit)
unfolding ends_rpc ends_rpc_doomed
unlocked_rpc_end exit = λ p. unlocked_if p.txn.doomed ends_rpc_doomed (makes (sends (rpc_done (has_failed exit) ∷ [])) (over tt))
    (tt, only_then AnyStep IsUnlocked rolls_back_told (λ done. makes (sends (rpc_done true ∷ [])) (over tt)) unlocked_told (λ done. (tt, tt))) (tt, tt)
