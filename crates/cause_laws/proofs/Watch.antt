-- What is looked for in the tokens of a session: which numbers an error may have, and which status the end of a statement, where replies, the answers to questions for
-- room and the count of statements are such. The laws of causes look for the error of a lock; laws above look for other errors.
use Rattle.std.proofs.Common.{◌≡◌, ℕ, pred, ◌+◌, ℤ, pos, List, Option, None, Some, Bool, true, false, ◌==◌, length, Result, Err}
use Rattle.std.specs.Prelude.{nat_le, nat_lt}
use Rattle.std.specs.List.{AllByRecursion}
use Rattle.lock_modes.specs.declared.Pair.{Pair}
use Rattle.tsql_tree.specs.declared.definition.Definition.{Definition}
use Rattle.tsql_tree.specs.declared.definition.TableTree.{TableTree}
use Rattle.bound_tree.specs.declared.query.BoundQuery.{BoundQuery}
use Rattle.value_types.specs.declared.value.Value.{Value}
use Rattle.step_model.specs.declared.op.Op.{Op}
use Rattle.step_model.specs.declared.edge.Cycle.{Cycle}
use Rattle.step_model.specs.declared.reply.Reply.{Reply}
use Rattle.step_model.specs.declared.reply.Reply.TheVariants as replies
use Rattle.step_model.specs.declared.resource.Resource.{Resource}
use Rattle.step_model.specs.Exchange.{Exchange}
use Rattle.step_model.specs.Ranges.{Rows, deadlock, lock_timeout, no_memory}
use Rattle.tds_tokens.specs.Numbers.{done_more, done_error, done_count}
use Rattle.tds_tokens.specs.declared.token.Token.{Token}
use Rattle.tds_tokens.specs.declared.token.Token.TheVariants.{Error, Finished}
use Rattle.batch_meaning.specs.declared.exit.Exit.{Exit}
use Rattle.batch_meaning.specs.declared.exit.Exit.TheVariants.{Raise, RaiseUp}
use Rattle.batch_meaning.specs.declared.failure.Failure.{Failure}
use Rattle.batch_meaning.specs.declared.raised.Raised.{Raised}
use Rattle.batch_meaning.specs.Asking.{◌>>=◌, comes_to}
use Rattle.batch_meaning.specs.Doing.{Doing, asks, defines, makes, never, over, reads, room, ◌then◌}
use Rattle.batch_meaning.specs.Meaning.{statements_spent}
use Rattle.batch_meaning.specs.Progress.{SessionProgress, SessionStep, begins, sends, size_of}
use Rattle.batch_meaning.specs.Raised.{Around}
use Rattle.batch_meaning.specs.Selecting.{Effect, result_full, result_of, row_limit}
use Rattle.batch_meaning.specs.Tokens.{done_kind}
use Rattle.batch_meaning.specs.Working.{if_it_fits, selects}
use Rattle.cause_laws.proofs.Usual.{IsUsual}

-- a token is no ERROR of another number, and no DONE of another status
abbrev pub TellsSo : (ℤ → Type 0) → (ℕ → Type 0) → Token → Type 0
TellsSo Other Goes (Error told) = Other told.number
TellsSo Other Goes (Finished kind status command rows) = Goes status
TellsSo Other Goes token = Unit {0}

-- a step that sends none; no batch begins
abbrev pub StepSo : (ℤ → Type 0) → (ℕ → Type 0) → SessionStep → Type 0
StepSo Other Goes (sends tokens) = AllByRecursion (TellsSo Other Goes) tokens
StepSo Other Goes (begins vars) = ⊥
StepSo Other Goes step = Unit {0}

-- the answer of a query is sent
abbrev pub sends_rows : Around → BoundQuery → Rows → Doing (Result Effect Failure)
sends_rows around query rows = (reads λ p. comes_to (result_of (done_kind around) p.settings.no_count query rows)) >>= if_it_fits

-- What may be told, replied, answered and left, and that an error which may not be told has no cause among these. A cause that is in no reply is asked of the place of a run at
-- which its test stands (`At`), with what is known of the tree by which it would go on otherwise (`Fine`).
pub record Watch : Type 1 where
  -- the number of an error, and the status of a DONE
  pub Other : ℤ → Type 0
  pub Goes : ℕ → Type 0
  -- a reply, and the answer to a question for room
  pub Says : Reply → Type 0
  pub May : Bool → Type 0
  -- what is known of a tree that comes to something of which this holds; and that one reads how far the session has come, with at most so many statements left
  pub Fine : {A : Type 0} → (A → Type 0) → Doing A → Type 0
  pub At : {A : Type 0} → (A → Type 0) → ℕ → SessionProgress → (SessionProgress → Doing A) → Type 0
  pub usual : (number : ℤ) → IsUsual number → Other number
  pub wants : May false → Other (pos no_memory)
  pub lacks : May false → Says replies.Memory
  pub memory : Says replies.Memory → Other (pos no_memory)
  pub missing : Says replies.Missing → Other (pos no_memory)
  pub victim : (cycle : Cycle) → Says (replies.Victim cycle) → Other (pos deadlock)
  pub timed : (holder : ℕ) (held wanted : Pair) (on : Resource) → Says (replies.TimedOut holder held wanted on) → Other (pos lock_timeout)
  pub more : Goes done_more
  pub counted : Goes (done_more + done_count)
  pub failed : Goes (done_more + done_error)
  -- of statements
  pub spent : {A : Type 0} (P : A → Type 0) (left : ℕ) (p : SessionProgress) (look : SessionProgress → Doing A) → At P left p look → (p.statements_left == 0) ≡ true → Other (pos statements_spent)
  pub none_left : {A : Type 0} (P : A → Type 0) (p : SessionProgress) (look : SessionProgress → Doing A) → At P 0 p look → Other (pos statements_spent)
  pub fewer : {A : Type 0} (P : A → Type 0) (left : ℕ) (p : SessionProgress) (look : SessionProgress → Doing A) → At P (pred left) p look → At P left p look
  -- of the result limit: where it is looked whether tokens may be sent, which do not hang on what is left; and where a SELECT begins
  pub full : {A : Type 0} (P : A → Type 0) (left : ℕ) (p : SessionProgress) (tokens : SessionProgress → List Token) (go : Bool → SessionProgress → Doing A)
      → ((bytes : ℕ) (q : SessionProgress) → tokens (record q { bytes_left = bytes }) ≡ tokens q) → ((q : SessionProgress) → Fine P (go false q))
      → At P left p (λ q. go (nat_lt q.bytes_left (size_of (tokens q))) q) → Other (pos result_full)
  pub many : (P : Result Effect Failure → Type 0) (around : Around) (shapes : List TableTree) (query : BoundQuery) (left : ℕ) (p : SessionProgress)
      (look : SessionProgress → Doing (Result Effect Failure)) → reads look ≡ selects around shapes query → ((failure : Failure) → Other failure.number → P (Err failure))
      → ((rows : Rows) → nat_le (length rows) row_limit ≡ true → Fine P (sends_rows around query rows)) → At P left p look → Other (pos result_full)
  -- what is known of trees, and of a place where another tree is behind
  pub fine_over : {A : Type 0} (P : A → Type 0) (a : A) → P a → Fine P (over a)
  pub fine_reads : {A : Type 0} (P : A → Type 0) (left : ℕ) (look : SessionProgress → Doing A) → ((p : SessionProgress) → At P left p look → Fine P (look p)) → Fine P (reads look)
  pub fine_makes : {A : Type 0} (P : A → Type 0) (step : SessionStep) (next : Doing A) → StepSo Other Goes step → Fine P next → Fine P (makes step next)
  pub fine_defines : {A : Type 0} (P : A → Type 0) (entry : List Value × List Value) (go : Option Definition → Doing A) → ((found : Option Definition) → Fine P (go found)) → Fine P (defines entry go)
  pub fine_asks : {A : Type 0} (P : A → Type 0) (op : Op) (go : Reply → Doing A) → ((reply : Reply) → Says reply → Fine P (go reply)) → Fine P (asks op go)
  pub fine_room : {A : Type 0} (P : A → Type 0) (go : Bool → Doing A) → ((enough : Bool) → May enough → Fine P (go enough)) → Fine P (room go)
  pub fine_never : {A : Type 0} (P : A → Type 0) → Fine P never
  pub behind : {A B : Type 0} (P : A → Type 0) (Q : B → Type 0) (left : ℕ) (p : SessionProgress) (look : SessionProgress → Doing A) (go : A → Doing B)
      → ((a : A) → P a → Fine Q (go a)) → At Q left p (λ q. look q then go) → At P left p look

-- at a place of a tree where at most so many statements are left
pub record Guard : Type 1 where
  pub watch : Watch
  pub left : ℕ

-- ---- what is told

abbrev pub TellsBy : Watch → Token → Type 0
TellsBy watch = TellsSo watch.Other watch.Goes

abbrev pub LeavesBy : Watch → Exit → Type 0
LeavesBy watch (Raise raised) = watch.Other raised.number
LeavesBy watch (RaiseUp raised) = watch.Other raised.number
LeavesBy watch exit = Unit {0}

abbrev pub CaughtBy : Watch → Option Raised → Type 0
CaughtBy watch None = Unit {0}
CaughtBy watch (Some raised) = watch.Other raised.number

-- no reply of the exchanges is another
abbrev pub SaysAll : Watch → List Exchange → Type 0
SaysAll watch exchanges = AllByRecursion (λ x. watch.Says x.reply) exchanges

-- ---- the same, at a place

abbrev pub IsOther : Guard → ℤ → Type 0
IsOther error = error.watch.Other

abbrev pub Says : Guard → Reply → Type 0
Says error = error.watch.Says

abbrev pub TellsOther : Guard → Token → Type 0
TellsOther error = TellsBy error.watch

abbrev pub TellsNone : Guard → List Token → Type 0
TellsNone error tokens = AllByRecursion (TellsBy error.watch) tokens

abbrev pub LeavesOther : Guard → Exit → Type 0
LeavesOther error = LeavesBy error.watch

abbrev pub CaughtOther : Guard → Option Raised → Type 0
CaughtOther error = CaughtBy error.watch
