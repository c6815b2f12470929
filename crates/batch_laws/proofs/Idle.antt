-- Plain statements open no transaction of BEGIN TRANSACTION, so where there is none there is none behind them; and all that SET has set
-- stays, and so do the cursors.
use Rattle.std.proofs.Common.{◌≡◌, ℕ, ℤ, Bool, true, false, if◌then◌else◌, is_ok, List, [], ◌∷◌, Result, Ok, refl, sym, ap, ◌∙◌, subst}
use Rattle.std.specs.Prelude.{◌||◌, not}
use Rattle.tsql_tree.specs.declared.definition.Definition.{Definition}
use Rattle.tsql_tree.specs.declared.definition.Definition.TheVariants.{Table, Procedure, Trigger}
use Rattle.tsql_tree.specs.declared.definition.TableTree.{TableTree}
use Rattle.tsql_tree.specs.declared.statement.DropKind.{DropKind}
use Rattle.tsql_tree.specs.declared.statement.Form.{Form-F}
use Rattle.tsql_tree.specs.declared.statement.Statement.{Statement}
use Rattle.bound_tree.specs.declared.write.Bound.{Bound}
use Rattle.binder.specs.Names.{Layer, form_of, looked_up}
use Rattle.error_table.specs.declared.action.Action.{Action}
use Rattle.error_table.specs.declared.action.Action.TheVariants as act
use Rattle.step_model.specs.declared.op.Op.{Op}
use Rattle.step_model.specs.declared.op.Op.TheVariants as ops
use Rattle.step_model.specs.declared.reply.Reply.{Reply}
use Rattle.step_model.specs.declared.reply.Reply.TheVariants as replies
use Rattle.step_model.specs.Dialog.{IsQuiet}
use Rattle.step_model.specs.Exchange.{CanReply, Exchange}
use Rattle.txn_rules.specs.declared.state.TxnState.{TxnState}
use Rattle.txn_rules.specs.State.{is_closed}
use Rattle.tds_tokens.specs.declared.token.Token.{Token}
use Rattle.batch_meaning.specs.declared.exit.Exit.{Exit}
use Rattle.batch_meaning.specs.declared.failure.Failure.{Failure}
use Rattle.batch_meaning.specs.declared.home.Home.{Home}
use Rattle.batch_meaning.specs.declared.home.Home.TheVariants.{Nowhere, Open, Own}
use Rattle.batch_meaning.specs.declared.raised.Raised.{Raised}
use Rattle.table_rows.specs.Definitions.{is_objects}
use Rattle.batch_meaning.specs.Changing.{object_present}
use Rattle.clause_binder.specs.Scope.{is_long}
use Rattle.batch_meaning.specs.Asking.{assigns_all, fails, fails_naming, unless_refused, where_begun, where_done, where_ended}
use Rattle.batch_meaning.specs.Doing.{Doing, over, makes, asks, ◌then◌, Held}
use Rattle.batch_meaning.specs.Meaning.{caught_as, counted, ended_by, fails_for, leaves_rows, line_of, or_full, raises, raises_at, rolls_back_told, sends_some, strikes, succeeds, told_unless_own}
use Rattle.batch_meaning.specs.Progress.{SessionProgress, SessionStep, after_doom, assigns, begins, closes_one, counts, declares, dooms, fetches, fills, fired_from, fires_from, made, opens, removes, saves, sends, sets, shuts, stands_with, tells_error, tells_fetch, tells_rows, touches, asked}
use Rattle.batch_meaning.specs.Raised.{Around, action_in, is_caught_in}
use Rattle.batch_meaning.specs.Selecting.{Effect}
use Rattle.batch_meaning.specs.Tokens.{command_of}
use Rattle.batch_meaning.specs.Values.{Assigned, outside_limits}
use Rattle.batch_meaning.specs.Working.{asks_any, binds, closes, enters, known_by, leaves, own, prepares, relaxes, status_bound, statuses, within, works, works_bound}
use Rattle.batch_meaning.specs.Writes.{change_bound, creates, creates_definition, creates_table, drops, is_odd_list, puts_definition, unless_objects}
use Rattle.statement_paths.specs.Paths.{changes_of, work_for, work_of}
use Rattle.statement_paths.proofs.Only.{AnyOp, Only, held_keeps, only_bind, only_if, only_mono, only_naming, only_room, only_then}
use Rattle.statement_paths.proofs.Owned.{Behind as IsLeft, nothing_more}
use Rattle.statement_paths.proofs.Working.{status_read}
use Rattle.statement_paths.proofs.Works.{IsWorkStep, Works, binds_work, change_works, creates_works, prepares_reads, reads_work, unless_works, worked_works}
use Rattle.batch_laws.specs.Committing.{IsBehind, Stays}
use Rattle.batch_laws.proofs.Named.{dropping_works, trigger_works}
use Rattle.batch_laws.proofs.Opened.{Inside, stays_in}

-- no transaction is opened by BEGIN TRANSACTION, or counted by COMMIT; SET sets nothing, and no cursor is changed
abbrev pub IsPlainStep : SessionStep → Type 0
IsPlainStep (opens name) = ⊥
IsPlainStep closes_one = ⊥
IsPlainStep (sets settings) = ⊥
IsPlainStep (declares name select) = ⊥
IsPlainStep (fills name kinds rows) = ⊥
IsPlainStep (fetches name) = ⊥
IsPlainStep (shuts name) = ⊥
IsPlainStep (removes name) = ⊥
IsPlainStep (tells_fetch status) = ⊥
IsPlainStep (stands_with vars) = ⊥
IsPlainStep (fires_from mark) = ⊥
IsPlainStep (fired_from mark stood) = ⊥
IsPlainStep step = Unit {0}

-- a tree that makes such steps alone
abbrev pub Shut : {A : Type 0} → Doing A → Type 0
Shut tree = Only IsPlainStep AnyOp tree

work_shuts : (step : SessionStep) → IsWorkStep step → IsPlainStep step
work_shuts touches is = tt
work_shuts (assigns place value) is = tt
work_shuts step is = absurd is

works_shut : {A : Type 0} (tree : Doing A) → Works tree → Shut tree
works_shut tree works = only_mono IsWorkStep IsPlainStep IsQuiet AnyOp work_shuts (λ op is. tt) tree works

-- ---- around the work nothing is made

module _ (Steps : SessionStep → Type 0) where
  abbrev Makes : {A : Type 0} → Doing A → Type 0
  Makes tree = Only Steps AnyOp tree

  relaxes_make : Makes relaxes
  unfolding relaxes
  relaxes_make = λ p. only_if Steps AnyOp p.touched (asks ops.Relax (where_done nothing_more)) nothing_more (tt, by_reply) tt
    where
      by_reply : (reply : Reply) → CanReply ops.Relax reply → Makes (where_done nothing_more reply)
      by_reply replies.Done can = tt
      by_reply reply can = absurd can

  closes_make : (succeeded : Bool) → Makes (closes succeeded)
  unfolding closes
  closes_make true = (tt, by_reply)
    where
      by_reply : (reply : Reply) → CanReply ops.Commit reply → Makes (where_ended nothing_more reply)
      by_reply (replies.Ended place) can = tt
      by_reply reply can = absurd can
  closes_make false = (tt, by_reply)
    where
      by_reply : (reply : Reply) → CanReply ops.Rollback reply → Makes (where_ended nothing_more reply)
      by_reply (replies.Ended place) can = tt
      by_reply reply can = absurd can

  pub leaves_make : (home : Home) (succeeded : Bool) → Makes (leaves home succeeded)
  unfolding leaves
  leaves_make Nowhere succeeded = tt
  leaves_make Open succeeded = relaxes_make
  leaves_make Own succeeded = only_then Steps AnyOp relaxes (λ done. closes succeeded) relaxes_make (λ done. closes_make succeeded)

  pub enters_make : (asks_some : Bool) → Makes (enters asks_some)
  unfolding enters
  enters_make false = tt
  enters_make true = λ p. only_if Steps AnyOp p.is_open (over (Ok Open)) (asks ops.Begin (unless_refused (where_begun (over (Ok Own))))) tt (tt, by_reply)
    where
      by_reply : (reply : Reply) → CanReply ops.Begin reply → Makes {A = Result Home Failure} (unless_refused (where_begun (over (Ok Own))) reply)
      by_reply replies.Began can = tt
      by_reply replies.Memory can = tt
      by_reply reply can = absurd can

  pub own_makes : {A : Type 0} (asks_some : Bool) (work : Doing (Result A Failure)) → Makes work → Makes (own asks_some work)
  unfolding own
  own_makes asks_some work makes_them = only_bind Steps AnyOp (enters asks_some) _ (enters_make asks_some)
      (λ home. only_then Steps AnyOp work (λ came. leaves home (is_ok came) then λ done. over came) makes_them (λ came. only_then Steps AnyOp (leaves home (is_ok came)) (λ done. over came) (leaves_make home (is_ok came)) (λ done. tt)))

own_shuts : {A : Type 0} (asks_some : Bool) (work : Doing (Result A Failure)) → Shut work → Shut (own asks_some work)
own_shuts asks_some work shut = own_makes IsPlainStep asks_some work shut

binds_shut : {A : Type 0} (around : Around) (statement : Statement) (go : List TableTree → Bound → Doing (Result A Failure)) → ((shapes : List TableTree) (of : Bound) → Shut (go shapes of)) → Shut (binds around statement go)
unfolding binds
binds_shut around statement go shut = only_bind IsPlainStep AnyOp (prepares around statement) (λ made. go made.0 made.1) (works_shut (prepares around statement) (reads_work (prepares around statement) (prepares_reads around statement))) (λ made. shut made.0 made.1)

objects_shut : (name : List ℕ) (tree : Doing (Result Effect Failure)) → Shut tree → Shut (unless_objects name tree)
objects_shut name tree shut = only_if IsPlainStep AnyOp (is_objects name) (fails_naming object_present name) tree (only_naming IsPlainStep AnyOp Effect object_present name) shut

-- ---- every statement that is done with its effect

module _ (around : Around) (p0 : SessionProgress) (statement : Statement) where
  abbrev asks_some : Bool
  asks_some = asks_any (known_by around statement) (looked_up statement)

  within_shut : {A : Type 0} (go : List TableTree → Bound → Doing (Result A Failure)) → ((shapes : List TableTree) (of : Bound) → Works (go shapes of)) → Shut (within around statement go)
  unfolding within
  within_shut go works = only_room IsPlainStep AnyOp (own asks_some (binds around statement go)) (own_shuts asks_some (binds around statement go) (works_shut (binds around statement go) (binds_work around statement go works)))

  works_of_shut : Shut (works around statement)
  unfolding works
  works_of_shut = within_shut (works_bound around (form_of statement)) (worked_works around p0 (form_of statement))

  pub statuses_shut : Shut (statuses around statement)
  unfolding statuses
  statuses_shut = within_shut (status_bound around) (λ shapes of. reads_work (status_bound around shapes of) (status_read around p0 shapes of))

  pub changes_shut : Shut (changes_of around statement)
  unfolding changes_of within
  changes_shut = within_shut (change_bound around) (change_works around p0)

  creates_shut : (name text : List ℕ) → Shut (creates_table around statement name text)
  unfolding creates_table
  creates_shut name text =
      only_room IsPlainStep AnyOp _ (only_if IsPlainStep AnyOp asks_some (own true first) second (own_shuts true first (works_shut first (binds_work around statement putting (λ shapes of. unless_works name (creates name text) (creates_works name text))))) second_shut)
    where
      putting : List TableTree → Bound → Doing (Result Effect Failure)
      putting shapes of = unless_objects name (creates name text)

      first : Doing (Result Effect Failure)
      first = binds around statement putting

      later : List TableTree → Bound → Doing (Result Effect Failure)
      later shapes of = unless_objects name (own true (creates name text))

      second : Doing (Result Effect Failure)
      second = binds around statement later

      second_shut : Shut second
      second_shut = binds_shut around statement later (λ shapes of. objects_shut name (own true (creates name text)) (own_shuts true (creates name text) (works_shut (creates name text) (creates_works name text))))

  drops_shut : (kind : DropKind) (name : List ℕ) → Shut (drops around statement kind name)
  unfolding drops
  drops_shut kind name = only_room IsPlainStep AnyOp _ (own_shuts (asks_any (known_by around statement) (name ∷ [])) _ (works_shut _ (dropping_works around p0 statement kind name)))

  form_shuts : (form : Layer) → Shut (work_for around statement form)
  form_shuts (Form-F.CreateTable table text) = creates_shut table.name text
  form_shuts (Form-F.Drop kind name) = drops_shut kind name
  form_shuts form = works_of_shut

  pub work_shuts_of : Shut (work_of around statement)
  work_shuts_of = form_shuts (form_of statement)

pub definition_shut : (of : Definition) (text : List ℕ) → Shut (creates_definition of text)
unfolding creates_definition
definition_shut (Table table) text = tt
definition_shut (Procedure procedure) text = only_room IsPlainStep AnyOp _ (puts_shut (is_long procedure.name || is_odd_list procedure.parameters) procedure.name (own true (creates procedure.name text)) (own_shuts true (creates procedure.name text) (works_shut (creates procedure.name text) (creates_works procedure.name text))))
  where
    puts_shut : (outside : Bool) (name : List ℕ) (tree : Doing (Result Effect Failure)) → Shut tree → Shut (puts_definition outside name tree)
    puts_shut outside name tree shut = only_if IsPlainStep AnyOp outside (fails outside_limits) (unless_objects name tree) tt (objects_shut name tree shut)
definition_shut (Trigger trigger) text = only_room IsPlainStep AnyOp _ (own_shuts (not (is_objects trigger.table)) _ (works_shut _ (trigger_works trigger text)))

-- ---- how it ends

rolls_shut : Shut rolls_back_told
unfolding rolls_back_told
rolls_shut = λ p. only_if IsPlainStep AnyOp p.is_open (asks ops.Rollback (where_ended (told_unless_own p.is_own p.txn.serial))) nothing_more (tt, by_reply (told_unless_own p.is_own p.txn.serial) (told_shut p.is_own p.txn.serial)) tt
  where
    told_shut : (is_own : Bool) (serial : ℕ) → Shut (told_unless_own is_own serial)
    told_shut true serial = tt
    told_shut false serial = (tt, tt)

    by_reply : (told : Doing (Unit {0})) → Shut told → (reply : Reply) → CanReply ops.Rollback reply → Shut (where_ended told reply)
    by_reply told shut (replies.Ended place) can = shut
    by_reply told shut reply can = absurd can

ended_shut : (action : Action) → Shut (ended_by action)
unfolding ended_by
ended_shut act.Statement = tt
ended_shut act.Doom = tt
ended_shut act.Batch = tt
ended_shut act.BatchAndTransaction = only_then IsPlainStep AnyOp rolls_back_told (λ done. over _) rolls_shut (λ done. tt)

caught_shut : (action : Action) (raised : Raised) → Shut (caught_as action raised)
caught_shut act.Statement raised = tt
caught_shut act.Doom raised = (tt, tt)
caught_shut act.Batch raised = tt
caught_shut act.BatchAndTransaction raised = tt

pub raises_shut : (around : Around) (line : ℤ) (command : ℕ) (raised : Raised) → Shut (raises_at around line command raised)
unfolding raises_at
raises_shut around line command raised = λ p. struck_shut p.settings.xact_abort (or_full around p command line raised)
  where
    struck_shut : (xact_abort : Bool) (r : Raised) → Shut (strikes around xact_abort command r)
    struck_shut xact_abort r = (tt, only_if IsPlainStep AnyOp (is_caught_in around r) _ _ (caught_shut (action_in around xact_abort r) r) (tt, ended_shut (action_in around xact_abort r)))

counted_shut : (form : Layer) (rows : ℕ) (next : Doing Exit) → Shut next → Shut (counted form rows next)
counted_shut form rows next shut = only_if IsPlainStep AnyOp (leaves_rows form) next (makes (tells_rows rows) next) shut (tt, shut)

pub fails_shut : (around : Around) (statement : Statement) (failure : Failure) → Shut (fails_for around statement failure)
unfolding fails_for
fails_shut around statement failure = counted_shut (form_of statement) 0 (raises around statement _) (raises_shut around (line_of statement) (command_of (form_of statement)) _)

sets_shut : (assigned : List Assigned) (next : Doing Exit) → Shut next → Shut (assigns_all assigned next)
unfolding assigns_all
sets_shut [] next shut = shut
sets_shut (one ∷ assigned) next shut = (tt, sets_shut assigned next shut)

sends_shut : (tokens : List Token) (exit : Exit) → Shut (sends_some tokens (over exit))
sends_shut [] exit = tt
sends_shut (token ∷ tokens) exit = (tt, tt)

pub succeeds_shut : (statement : Statement) (effect : Effect) (exit : Exit) → Shut (succeeds statement effect (over exit))
unfolding succeeds
succeeds_shut statement effect exit = sets_shut effect.sets _ (counted_shut (form_of statement) effect.rows _ (tt, sends_shut effect.tokens exit))

-- ---- what stays so

abbrev pub IsShut : SessionProgress → Type 0
IsShut p = (is_closed p.txn ≡ true) × (p.txn.doomed ≡ false)

doom_none : (txn : TxnState) → is_closed txn ≡ true → (if is_closed txn then txn else record txn { doomed = true }) ≡ txn
doom_none txn is = rw is refl

by_step : (step : SessionStep) (p : SessionProgress) → IsPlainStep step → IsShut p → IsShut (made step p)
by_step (begins vars) p is shut = shut
by_step counts p is shut = shut
by_step touches p is shut = shut
by_step (sends tokens) p is shut = shut
by_step (tells_rows rows) p is shut = shut
by_step (tells_error number) p is shut = shut
by_step (assigns place value) p is shut = shut
by_step (saves name mark) p is shut = shut
by_step dooms p is shut = subst (λ (t : TxnState). (is_closed t ≡ true) × (t.doomed ≡ false)) (sym (doom_none p.txn shut.0)) shut
by_step step p is shut = absurd is

pub shut_op : (op : Op) (reply : Reply) (p : SessionProgress) → AnyOp op → CanReply op reply → IsShut p → IsShut (asked op reply p)
shut_op op (replies.Ended place) p is can shut = (refl, refl)
shut_op (ops.BackTo mark) replies.Done p is can shut = shut
shut_op (ops.BackTo mark) reply p is can shut = shut
shut_op op reply p is can shut = shut

-- ---- the number of the transaction stays

serial_dooms : (txn : TxnState) → (after_doom txn).serial ≡ txn.serial
serial_dooms txn = by_test (is_closed txn)
  where
    by_test : (closed : Bool) → (if closed then txn else record txn { doomed = true }).serial ≡ txn.serial
    by_test true = refl
    by_test false = refl

module _ (number : ℕ) where
  abbrev IsNumber : SessionProgress → Type 0
  IsNumber p = p.txn.serial ≡ number

  number_step : (step : SessionStep) (p : SessionProgress) → IsPlainStep step → IsNumber p → IsNumber (made step p)
  number_step (begins vars) p is same = same
  number_step counts p is same = same
  number_step touches p is same = same
  number_step (sends tokens) p is same = same
  number_step (tells_rows rows) p is same = same
  number_step (tells_error error) p is same = same
  number_step (assigns place value) p is same = same
  number_step (saves name mark) p is same = same
  number_step dooms p is same = serial_dooms p.txn ∙ same
  number_step step p is same = absurd is

  number_op : (op : Op) (reply : Reply) (p : SessionProgress) → AnyOp op → CanReply op reply → IsNumber p → IsNumber (asked op reply p)
  number_op op (replies.Ended place) p is can same = same
  number_op (ops.BackTo mark) replies.Done p is can same = same
  number_op (ops.BackTo mark) reply p is can same = same
  number_op op reply p is can same = same

-- ---- all that SET has set stays, and so do the cursors

module _ (p : SessionProgress) where
  abbrev IsKept : SessionProgress → Type 0
  IsKept q = (q.settings ≡ p.settings) × (q.cursors ≡ p.cursors) × (q.fetch_status ≡ p.fetch_status)

  kept_step : (step : SessionStep) (q : SessionProgress) → IsPlainStep step → IsKept q → IsKept (made step q)
  kept_step (begins vars) q is same = same
  kept_step counts q is same = same
  kept_step touches q is same = same
  kept_step (sends tokens) q is same = same
  kept_step (tells_rows rows) q is same = same
  kept_step (tells_error error) q is same = same
  kept_step (assigns place value) q is same = same
  kept_step (saves name mark) q is same = same
  kept_step dooms q is same = same
  kept_step step q is same = absurd is

  kept_op : (op : Op) (reply : Reply) (q : SessionProgress) → AnyOp op → CanReply op reply → IsKept q → IsKept (asked op reply q)
  kept_op op reply q is can same = same

pub shut_stays : {A : Type 0} (tree : Doing A) (p new : SessionProgress) (exchanges : List Exchange) (a : A) → Shut tree → Held tree p exchanges a new → Stays p new
shut_stays tree p new exchanges a shut held =
    let kept = held_keeps IsPlainStep AnyOp (IsKept p) (kept_step p) (kept_op p) tree p new exchanges a shut held (refl, refl, refl) in
    record {
      settings = kept.0;
      serial = held_keeps IsPlainStep AnyOp (IsNumber p.txn.serial) (number_step p.txn.serial) (number_op p.txn.serial) tree p new exchanges a shut held refl;
      cursors = kept.1;
      fetched = kept.2;
    }

pub shut_idle : {A : Type 0} (tree : Doing A) (p new : SessionProgress) (exchanges : List Exchange) (a : A) → Shut tree → Held tree p exchanges a new → IsShut p → IsShut new
shut_idle tree p new exchanges a shut held closed = held_keeps IsPlainStep AnyOp IsShut by_step shut_op tree p new exchanges a shut held closed

-- one behind another
pub stays_then : (p q r : SessionProgress) → Stays p q → Stays q r → Stays p r
stays_then p q r first later = record { settings = later.settings ∙ first.settings; serial = later.serial ∙ first.serial; cursors = later.cursors ∙ first.cursors; fetched = later.fetched ∙ first.fetched }

-- ---- behind the work of a plain statement

-- what of its session is as it was
pub record Behind (p q : SessionProgress) : Type 0 where
  pub near : IsBehind p q
  pub tokens : q.tokens ≡ p.tokens
  pub rows : q.row_count ≡ p.row_count
  pub stays : Stays p q
  pub idle : IsShut p → IsShut q

pub is_behind : {A : Type 0} (tree : Doing A) (p q : SessionProgress) (exchanges : List Exchange) (a : A) → Shut tree → Inside tree → IsLeft p q → Held tree p exchanges a q → Behind p q
is_behind tree p q exchanges a shut inside worked held =
    let stays = shut_stays tree p q exchanges a shut held in
    record {
      near = record {
        within = record { serial = stays.serial; opened = λ is. stays_in tree p q exchanges a inside is held };
        is_open = ap (λ (s : SessionProgress). s.is_open) worked.0;
        is_own = λ is. (worked.1 is).0;
        settings = stays.settings;
        bytes = ap (λ (s : SessionProgress). s.bytes_left) worked.0;
      };
      tokens = ap (λ (s : SessionProgress). s.tokens) worked.0;
      rows = ap (λ (s : SessionProgress). s.row_count) worked.0;
      stays = stays;
      idle = shut_idle tree p q exchanges a shut held;
    }
