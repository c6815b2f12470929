-- A dialog that is held by a session whose transaction is open, and which has asked something. Where it doesn't go back to a mark it changes nothing of
-- how far the session has come.
use Rattle.std.proofs.Common.{arith, ◌≡◌, ◌||◌, not, nat_eq, ℕ, zero, suc, ℤ, Bool, true, false, if◌then◌else◌, List, [], ◌∷◌, ◌++◌, Option, None, Some, Result, Ok, Err, IfOk, refl, sym, ap, ◌∙◌, subst}
use Rattle.std.proofs.lemmas.List.Folds.{list_any-append}
use Rattle.std.specs.List.{list_any}
use Rattle.std.specs.Prelude.{is_some}
use Rattle.value_types.specs.declared.memory.Memory.{Memory}
use Rattle.value_types.specs.declared.value.Value.{Value}
use Rattle.lock_modes.specs.declared.KeyPart.TheVariants.{S, U}
use Rattle.value_types.specs.declared.table_name.TableName.{TableName}
use Rattle.step_model.specs.declared.change.Deed.{Deed}
use Rattle.step_model.specs.declared.change.Deed.TheVariants as deed
use Rattle.step_model.specs.declared.change.Planned.{Planned}
use Rattle.step_model.specs.declared.manner.Manner.{Manner}
use Rattle.step_model.specs.declared.op.Hold.TheVariants as hold
use Rattle.step_model.specs.declared.op.Op.{Op}
use Rattle.step_model.specs.declared.op.Op.TheVariants as ops
use Rattle.step_model.specs.declared.range.KeyRange.{KeyRange}
use Rattle.step_model.specs.declared.range.Start.{Start}
use Rattle.step_model.specs.declared.range.Start.TheVariants.{At}
use Rattle.step_model.specs.declared.range.Stop.TheVariants.{Within}
use Rattle.step_model.specs.declared.reply.Reply.{Reply}
use Rattle.step_model.specs.declared.reply.Reply.TheVariants as replies
use Rattle.step_model.specs.Exchange.{Exchange, CanReply, Standing}
use Rattle.step_model.specs.Port.{PortPast, standing_after, standing_from}
use Rattle.step_model.specs.Dialog as said
use Rattle.step_model.specs.Dialog.{IsQuiet, Dialog, Asks}
use Rattle.step_model.specs.Own.{is_own}
use Rattle.step_model.specs.Ranges.{Keeps, Rows, range_limit}
use Rattle.step_model.proofs.Dialogs.{held_stays}
use Rattle.step_model.proofs.Pasts.{goes_further}
use Rattle.txn_rules.specs.declared.state.TxnState.{TxnState}
use Rattle.tsql_tree.specs.declared.definition.TableTree.{TableTree}
use Rattle.bound_tree.specs.declared.write.Bound.{Bound}
use Rattle.dml_exec.specs.declared.refusal.Level.{Level}
use Rattle.dml_exec.specs.declared.refusal.Refusal.{Refusal}
use Rattle.dml_exec.specs.declared.refusal.Refusal.TheVariants as refusal
use Rattle.dml_exec.specs.Asking.{on_ok, with_room, with_room_if}
use Rattle.dml_exec.specs.Reading.{GivenRows, TableRead, fetches_any, is_one_key, is_read_fetched, unless_given, fetch_of, fetches, fits, from, images_from, images_of, is_short, key_width, read_by, reads_of, reads_on, reads_range, reads_table, rows_from, rows_in, table_fetch}
use Rattle.dml_exec.proofs.ReadTables.{reads_fetched}
use Rattle.dml_exec.specs.declared.written.Attempt.{Attempt}
use Rattle.dml_exec.specs.declared.written.Written.{Written}
use Rattle.dml_exec.specs.declared.written.Written.TheVariants as written
use Rattle.dml_exec.specs.Planning.{as_found, is_asked}
use Rattle.dml_exec.specs.Writing.{asks_deed, asks_key, asks_keys, attempts, behind_keys, broken_by, checks_all, checks_one, checks_range, done_by, ends, halted, marked, no_room, outcome, present, row_told, rows_checked, told, where_done, works, writes_all, writes_one}
use Rattle.dml_exec.proofs.Halts.{by_outcome}
use Rattle.constraint_check.specs.declared.check_read.CheckRead.{CheckRead}
use Rattle.constraint_check.specs.Judged.{judge}
use Rattle.table_rows.specs.Rows.{part_shape, shape_of}
use Rattle.constraint_check.specs.Reads.{reads_for}
use Rattle.batch_meaning.specs.declared.failure.Failure.{Failure}
use Rattle.batch_meaning.specs.Failures.{plain}
use Rattle.batch_meaning.specs.Progress.{SessionProgress, Ready, touches, made, asked, asked_all, touched_after, is_open_after, txn_after, unless_ended}
use Rattle.batch_meaning.specs.Doing.{Doing, over, Held, Left, Came, Did}
use Rattle.batch_meaning.specs.Asking.{◌gives◌, applies, holds, number_of, touches_if, unless_broken}
use Rattle.batch_meaning.proofs.Composed.{does_makes, does_over}
use Rattle.session_state.specs.Parts.{cut_to}
use Rattle.statement_exec.specs.Selected.{IsLive, mark_back, taken_back, touched_if}
use Rattle.session_state.proofs.Readiness.{ready_said}

-- the mark that was just set is live
pub mark_last : (mark : ℕ) (marks : List ℕ) → list_any (λ live. nat_eq live mark) (marks ++ mark ∷ []) ≡ true
mark_last mark marks = grind (arith, list_any-append)

-- ---- operations that go on

-- an operation of a dialog that is no way back to a mark
abbrev pub IsForward : Op → Type 0
IsForward (ops.Fetch table start stop hold part) = Unit {0}
IsForward (ops.Insert table key row) = Unit {0}
IsForward (ops.Replace table key row) = Unit {0}
IsForward (ops.Erase table key) = Unit {0}
IsForward ops.Mark = Unit {0}
IsForward op = ⊥

touched_stays : (op : Op) (touched : Bool) → IsForward op → touched ≡ true → touched_after touched op ≡ touched
touched_stays (ops.Fetch table start stop hold part) touched forward was = sym was
touched_stays (ops.Insert table key row) touched forward was = sym was
touched_stays (ops.Replace table key row) touched forward was = sym was
touched_stays (ops.Erase table key) touched forward was = sym was
touched_stays ops.Mark touched forward was = refl
touched_stays op touched forward was = absurd forward

txn_stays : (op : Op) (reply : Reply) (txn : TxnState) → IsForward op → CanReply op reply → txn_after txn op reply ≡ txn
txn_stays (ops.Fetch table start stop hold part) (replies.Ended place) txn forward can = absurd can
txn_stays (ops.Insert table key row) (replies.Ended place) txn forward can = absurd can
txn_stays (ops.Replace table key row) (replies.Ended place) txn forward can = absurd can
txn_stays (ops.Erase table key) (replies.Ended place) txn forward can = absurd can
txn_stays ops.Mark (replies.Ended place) txn forward can = absurd can
txn_stays (ops.BackTo mark) reply txn forward can = absurd forward
txn_stays ops.Begin reply txn forward can = absurd forward
txn_stays ops.Relax reply txn forward can = absurd forward
txn_stays ops.Commit reply txn forward can = absurd forward
txn_stays ops.Rollback reply txn forward can = absurd forward
txn_stays op reply txn forward can = refl

ended_stays : (op : Op) (reply : Reply) (before : Bool) → IsForward op → CanReply op reply → unless_ended before reply ≡ before
ended_stays (ops.Fetch table start stop hold part) (replies.Ended place) before forward can = absurd can
ended_stays (ops.Insert table key row) (replies.Ended place) before forward can = absurd can
ended_stays (ops.Replace table key row) (replies.Ended place) before forward can = absurd can
ended_stays (ops.Erase table key) (replies.Ended place) before forward can = absurd can
ended_stays ops.Mark (replies.Ended place) before forward can = absurd can
ended_stays (ops.BackTo mark) reply before forward can = absurd forward
ended_stays ops.Begin reply before forward can = absurd forward
ended_stays ops.Relax reply before forward can = absurd forward
ended_stays ops.Commit reply before forward can = absurd forward
ended_stays ops.Rollback reply before forward can = absurd forward
ended_stays op reply before forward can = refl

open_stays : (op : Op) (reply : Reply) (p : SessionProgress) → IsQuiet op → CanReply op reply → is_open_after p.is_open op reply ≡ p.is_open
unfolding said.Held
open_stays op reply p quiet can = held_stays p.settings.manner (said.asks op quiet said.over) (record { op = op; manner = p.settings.manner; reply = reply } ∷ []) reply (record { is_open = p.is_open; marks = [] }) (refl, refl, can, (refl, refl))

-- a quiet operation, behind another one
quiet_same : (op : Op) (reply : Reply) (p : SessionProgress) → IsQuiet op → IsForward op → CanReply op reply → p.touched ≡ true → asked op reply p ≡ p
quiet_same op reply p quiet forward can touched =
    ap (λ (b : Bool). record p { is_open = b; is_own = unless_ended p.is_own reply; stands = unless_ended p.stands reply; touched = touched_after p.touched op; txn = txn_after p.txn op reply }) (open_stays op reply p quiet can)
    ∙ ap (λ (b : Bool). record p { is_own = b; stands = unless_ended p.stands reply; touched = touched_after p.touched op; txn = txn_after p.txn op reply }) (ended_stays op reply p.is_own forward can)
    ∙ ap (λ (b : Bool). record p { stands = b; touched = touched_after p.touched op; txn = txn_after p.txn op reply }) (ended_stays op reply p.stands forward can)
    ∙ ap (λ (b : Bool). record p { touched = b; txn = txn_after p.txn op reply }) (touched_stays op p.touched forward touched)
    ∙ ap (λ (t : TxnState). record p { txn = t }) (txn_stays op reply p.txn forward can)

-- ---- dialogs

held_gives : {A B : Type 0} (dialog : Dialog A) (go : A → Doing B) (p new : SessionProgress) (first second : List Exchange) (a : A) (b : B)
    → said.Held p.settings.manner dialog first a → Held (go a) (asked_all first p) second b new → Held (dialog gives go) p (first ++ second) b new
unfolding said.Held Held ◌gives◌
held_gives (said.over c) go p new first second a b held more =
    let at : Held (go a) p second b new = subst (λ (f : List Exchange). Held (go a) (asked_all f p) second b new) held.0 more in
    subst (λ (f : List Exchange). Held (go c) p (f ++ second) b new) (sym held.0) (subst (λ x. Held (go x) p second b new) held.1 at)
held_gives (said.asks op quiet next) go p new [] second a b held more = absurd held
held_gives (said.asks op quiet next) go p new (x ∷ first) second a b held more =
    (held.0, held.1, held.2, held_gives (next x.reply) go (asked op x.reply p) new first second a b held.3 (subst (λ (o : Op). Held (go a) (asked_all first (asked o x.reply p)) second b new) held.0 more))
held_gives (said.room next) go p new first second a b held more = (held.0, held_gives (next held.0) go p new first second a b held.1 more)
held_gives said.never go p new first second a b held more = absurd held

left_gives : {A B : Type 0} (dialog : Dialog A) (go : A → Doing B) (p new : SessionProgress) (first second : List Exchange) (a : A)
    → said.Held p.settings.manner dialog first a → Left (go a) (asked_all first p) second new → Left (dialog gives go) p (first ++ second) new
unfolding said.Held Left ◌gives◌
left_gives (said.over c) go p new first second a held more =
    let at : Left (go a) p second new = subst (λ (f : List Exchange). Left (go a) (asked_all f p) second new) held.0 more in
    subst (λ (f : List Exchange). Left (go c) p (f ++ second) new) (sym held.0) (subst (λ x. Left (go x) p second new) held.1 at)
left_gives (said.asks op quiet next) go p new [] second a held more = absurd held
left_gives (said.asks op quiet next) go p new (x ∷ first) second a held more =
    (held.0, held.1, held.2, left_gives (next x.reply) go (asked op x.reply p) new first second a held.3 (subst (λ (o : Op). Left (go a) (asked_all first (asked o x.reply p)) second new) held.0 more))
left_gives (said.room next) go p new first second a held more = (held.0, left_gives (next held.0) go p new first second a held.1 more)
left_gives said.never go p new first second a held more = absurd held

came_gives : {A B : Type 0} (dialog : Dialog A) (go : A → Doing B) (p new : SessionProgress) (first second : List Exchange) (a : A) (result : Result B Memory)
    → said.Held p.settings.manner dialog first a → Came (go a) (asked_all first p) second result new → Came (dialog gives go) p (first ++ second) result new
came_gives dialog go p new first second a (Ok b) held came = held_gives dialog go p new first second a b held came
came_gives dialog go p new first second a (Err memory) held came = left_gives dialog go p new first second a held came

-- a dialog is held in the session's manner, and behind it another thing is done
pub does_gives : {before mid after : PortPast} {A B : Type 0} (dialog : Dialog A) (go : A → Doing B) {p new : SessionProgress} {a : A} {result : Result B Memory}
    → (asks : Asks before mid p.settings.manner dialog a) → Did mid after (go a) (asked_all asks.exchanges p) result new → Did before after (dialog gives go) p result new
does_gives {before = before} {mid = mid} {after = after} dialog go {p = p} {new = new} {a = a} {result = result} asks more = record {
  exchanges = asks.exchanges ++ more.exchanges;
  past = goes_further before mid after asks.exchanges more.exchanges asks.past more.past;
  came = came_gives dialog go p new asks.exchanges more.exchanges a result asks.held more.came;
}

-- ---- dialogs that go on

-- it never goes back to a mark
unfoldable pub GoesOnly : {A : Type 0} → Dialog A → Type 0
GoesOnly (said.over a) = Unit {0}
GoesOnly (said.asks op quiet go) = IsForward op × ((reply : Reply) → GoesOnly (go reply))
GoesOnly (said.room go) = (enough : Bool) → GoesOnly (go enough)
GoesOnly said.never = Unit {0}

-- it changes nothing of a session that has asked something
pub only_same : {A : Type 0} (dialog : Dialog A) (p : SessionProgress) (exchanges : List Exchange) (a : A) → GoesOnly dialog → p.touched ≡ true → said.Held p.settings.manner dialog exchanges a → asked_all exchanges p ≡ p
unfolding said.Held GoesOnly
only_same (said.over c) p exchanges a only touched held = ap (λ (f : List Exchange). asked_all f p) held.0
only_same (said.asks op quiet next) p [] a only touched held = absurd held
only_same (said.asks op quiet next) p (x ∷ later) a only touched held =
    let same : asked x.op x.reply p ≡ p = ap (λ (o : Op). asked o x.reply p) held.0 ∙ quiet_same op x.reply p quiet only.0 held.2 touched in
    ap (asked_all later) same ∙ only_same (next x.reply) p later a (only.1 x.reply) touched held.3
only_same (said.room next) p exchanges a only touched held = only_same (next held.0) p exchanges a (only held.0) touched held.1
only_same said.never p exchanges a only touched held = absurd held

-- such a dialog is held
pub does_holds : {before mid after : PortPast} {A B : Type 0} (dialog : Dialog A) (go : A → Doing B) {p q new : SessionProgress} {a : A} {result : Result B Memory}
    → GoesOnly dialog → q ≡ made touches p → Asks before mid q.settings.manner dialog a → Did mid after (go a) q result new → Did before after (holds dialog go) p result new
does_holds {mid = mid} {after = after} dialog go {q = q} {new = new} {a = a} {result = result} only same asks more =
    does_makes same (does_gives dialog go asks (subst (λ (x : SessionProgress). Did mid after (go a) x result new) (sym (only_same dialog q asks.exchanges a only (ap (λ (r : SessionProgress). r.touched) same) asks.held)) more))

-- ---- the reads of a statement go on

module _ {A B : Type 0} where
  only_then : (dialog : Dialog A) (go : A → Dialog B) → GoesOnly dialog → ((a : A) → GoesOnly (go a)) → GoesOnly (said.◌then◌ dialog go)
  unfolding GoesOnly said.◌then◌
  only_then (said.over a) go only more = more a
  only_then (said.asks op quiet next) go only more = (only.0, λ reply. only_then (next reply) go (only.1 reply) more)
  only_then (said.room next) go only more = λ enough. only_then (next enough) go (only enough) more
  only_then said.never go only more = tt

only_either : {A : Type 0} (first other : Dialog A) → GoesOnly first → GoesOnly other → (enough : Bool) → GoesOnly (if enough then first else other)
only_either first other one two true = one
only_either first other one two false = two

only_over : {A : Type 0} (a : A) → GoesOnly (said.over a)
unfolding GoesOnly
only_over a = tt

only_room : {A E : Type 0} (why : E) (dialog : Dialog (Result A E)) → GoesOnly dialog → GoesOnly (with_room why dialog)
unfolding GoesOnly
only_room why dialog only = only_either dialog (said.over (Err why)) only tt

only_room_if : {A E : Type 0} (wants : Bool) (why : E) (dialog : Dialog (Result A E)) → GoesOnly dialog → GoesOnly (with_room_if wants why dialog)
only_room_if true why dialog only = only_room why dialog only
only_room_if false why dialog only = only

-- behind a part that may fail
only_on : {A B E : Type 0} (go : A → Dialog (Result B E)) → ((a : A) → GoesOnly (go a)) → (came : Result A E) → GoesOnly (on_ok go came)
only_on go only (Ok a) = only a
only_on go only (Err e) = only_over (Err e)

only_reply : (width : ℕ) (keeps : Keeps) (so_far : Rows) (reply : Reply) → GoesOnly (read_by width keeps so_far reply)
unfolding GoesOnly
only_reply width keeps so_far (replies.Row key row at) = only_room refusal.Memory _ tt
only_reply width keeps so_far (replies.Gone key at) = only_room_if (is_short width key) refusal.Memory _ tt
only_reply width keeps so_far reply = tt

only_fetch : (width : ℕ) (keeps : Keeps) (op : Op) (so_far : Rows) → GoesOnly (fetches width keeps op so_far)
unfolding GoesOnly
only_fetch width keeps (ops.Fetch table start stop hold part) so_far = (tt, only_reply width keeps so_far)
only_fetch width keeps op so_far = tt

behind_range : (width : ℕ) (keeps : Keeps) (left : ℕ) (op : Op) → ((more : Rows) (start : Start) → GoesOnly (rows_from width keeps left (from start op) more))
    → (came : Result (Rows × Option Start) Refusal) → GoesOnly (on_ok (reads_on (λ more start. rows_from width keeps left (from start op) more)) came)
behind_range width keeps left op only (Err why) = only_over _
behind_range width keeps left op only (Ok (more, None)) = only_over _
behind_range width keeps left op only (Ok (more, Some start)) = only more start

only_range : (width : ℕ) (keeps : Keeps) (left : ℕ) (op : Op) (so_far : Rows) → GoesOnly (rows_from width keeps left op so_far)
unfolding rows_from
only_range width keeps zero op so_far = only_over _
only_range width keeps (suc left) op so_far = only_then (fetches width keeps op so_far) (on_ok (reads_on (λ more start. rows_from width keeps left (from start op) more))) (only_fetch width keeps op so_far) (behind_range width keeps left op (λ more start. only_range width keeps left (from start op) more))

only_rows : (shape : Option TableTree) (part : ℕ) (one : Bool) (op : Op) → GoesOnly (rows_in shape part one op)
unfolding rows_in
only_rows shape part true op = only_then (fetches (key_width shape part) (fits shape part) op []) (on_ok (λ came. said.over (Ok came.0))) (only_fetch (key_width shape part) (fits shape part) op []) (only_on (λ came. said.over (Ok came.0)) (λ came. only_over _))
only_rows shape part false op = only_range (key_width shape part) (fits shape part) range_limit op []

only_given : (rows : Option Rows) (fetched : Dialog (Result Rows Refusal)) → GoesOnly fetched → GoesOnly (unless_given rows fetched)
only_given None fetched only = only
only_given (Some rows) fetched only = only_room refusal.Memory _ (only_over _)

only_table : (given : GivenRows) (shapes : List TableTree) (level : Level) (read : TableRead) → GoesOnly (reads_table given shapes level read)
unfolding reads_table
only_table given shapes level read = only_given (given read.0.table) _ (only_rows (shape_of read.0.table shapes) 0 (is_one_key (key_width (shape_of read.0.table shapes) 0) read.0.start read.0.stop) (table_fetch level read))

only_images : (given : GivenRows) (shapes : List TableTree) (level : Level) (images : List Rows) (reads : List TableRead) → GoesOnly (images_from given shapes level images reads)
unfolding images_from
only_images given shapes level images [] = only_over _
only_images given shapes level images (read ∷ reads) = only_then (reads_table given shapes level read) (on_ok (λ rows. with_room refusal.Memory (images_from given shapes level (images ++ rows ∷ []) reads))) (only_table given shapes level read)
    (only_on (λ rows. with_room refusal.Memory (images_from given shapes level (images ++ rows ∷ []) reads)) (λ rows. only_room refusal.Memory _ (only_images given shapes level (images ++ rows ∷ []) reads)))

only_reads : (given : GivenRows) (shapes : List TableTree) (level : Level) (vars : List Value) (of : Bound) → GoesOnly (images_of given shapes level vars of)
unfolding images_of
only_reads given shapes level vars of = only_room refusal.Memory _ (only_images given shapes level [] (reads_of vars shapes of))

-- ---- where all are given nothing is asked

unfoldable AsksNone : {A : Type 0} → Dialog A → Type 0
AsksNone (said.over a) = Unit {0}
AsksNone (said.asks op quiet go) = ⊥
AsksNone (said.room go) = (enough : Bool) → AsksNone (go enough)
AsksNone said.never = Unit {0}

unasked : {A : Type 0} (manner : Manner) (dialog : Dialog A) (exchanges : List Exchange) (a : A) → AsksNone dialog → said.Held manner dialog exchanges a → exchanges ≡ []
unfolding said.Held AsksNone
unasked manner (said.over c) exchanges a none held = held.0
unasked manner (said.asks op quiet next) exchanges a none held = absurd none
unasked manner (said.room next) exchanges a none held = unasked manner (next held.0) exchanges a (none held.0) held.1
unasked manner said.never exchanges a none held = absurd held

none_over : {A : Type 0} (a : A) → AsksNone (said.over a)
unfolding AsksNone
none_over a = tt

none_either : {A : Type 0} (first other : Dialog A) → AsksNone first → AsksNone other → (enough : Bool) → AsksNone (if enough then first else other)
none_either first other one two true = one
none_either first other one two false = two

none_room : {A E : Type 0} (why : E) (dialog : Dialog (Result A E)) → AsksNone dialog → AsksNone (with_room why dialog)
unfolding AsksNone
none_room why dialog none = none_either dialog (said.over (Err why)) none tt

module _ {A B : Type 0} where
  none_then : (dialog : Dialog A) (go : A → Dialog B) → AsksNone dialog → ((a : A) → AsksNone (go a)) → AsksNone (said.◌then◌ dialog go)
  unfolding AsksNone said.◌then◌
  none_then (said.over a) go none more = more a
  none_then (said.asks op quiet next) go none more = absurd none
  none_then (said.room next) go none more = λ enough. none_then (next enough) go (none enough) more
  none_then said.never go none more = tt

none_on : {A B E : Type 0} (go : A → Dialog (Result B E)) → ((a : A) → AsksNone (go a)) → (came : Result A E) → AsksNone (on_ok go came)
none_on go none (Ok a) = none a
none_on go none (Err e) = none_over (Err e)

none_table : (given : GivenRows) (shapes : List TableTree) (level : Level) (read : TableRead) → is_read_fetched given read ≡ false → AsksNone (reads_table given shapes level read)
unfolding reads_table
none_table given shapes level read same = by_given (given read.0.table) same
  where
    by_given : (rows : Option Rows) → not (is_some rows) ≡ false → AsksNone (unless_given rows (reads_range (shape_of read.0.table shapes) level read))
    by_given None no_rows = absurd (let not_so : true ≡ false = no_rows in cc)
    by_given (Some rows) has = none_room refusal.Memory _ (none_over _)

either_none : (first rest : Bool) → (first || rest) ≡ false → (first ≡ false) × (rest ≡ false)
either_none true rest same = absurd (let not_so : true ≡ false = same in cc)
either_none false rest same = (refl, same)

none_images : (given : GivenRows) (shapes : List TableTree) (level : Level) (images : List Rows) (reads : List TableRead) → list_any (is_read_fetched given) reads ≡ false → AsksNone (images_from given shapes level images reads)
unfolding images_from
none_images given shapes level images [] same = none_over _
none_images given shapes level images (read ∷ reads) same =
    let both = either_none (is_read_fetched given read) (list_any (is_read_fetched given) reads) same in
    none_then (reads_table given shapes level read) (on_ok (λ rows. with_room refusal.Memory (images_from given shapes level (images ++ rows ∷ []) reads))) (none_table given shapes level read both.0)
    (none_on (λ rows. with_room refusal.Memory (images_from given shapes level (images ++ rows ∷ []) reads)) (λ rows. none_room refusal.Memory _ (none_images given shapes level (images ++ rows ∷ []) reads both.1)))

none_reads : (given : GivenRows) (shapes : List TableTree) (level : Level) (vars : List Value) (of : Bound) → fetches_any given of ≡ false → AsksNone (images_of given shapes level vars of)
unfolding images_of
none_reads given shapes level vars of same = none_room refusal.Memory _ (none_images given shapes level [] (reads_of vars shapes of) (reads_fetched given vars shapes of ∙ same))

-- what a statement reads is read, and behind it another thing is done
pub does_images : {before mid after : PortPast} {B : Type 0} (given : GivenRows) (shapes : List TableTree) (level : Level) (vars : List Value) (of : Bound) (go : Result (List Rows) Refusal → Doing B) {p q new : SessionProgress} {a : Result (List Rows) Refusal} {result : Result B Memory}
    → q ≡ touched_if (fetches_any given of) p → Asks before mid q.settings.manner (images_of given shapes level vars of) a → Did mid after (go a) q result new
    → Did before after (touches_if (fetches_any given of) (images_of given shapes level vars of gives go)) p result new
does_images {before = before} {mid = mid} {after = after} given shapes level vars of go {p = p} {q = q} {new = new} {a = a} {result = result} same asks more = by_fetch (fetches_any given of) refl same
  where
    by_fetch : (test : Bool) → fetches_any given of ≡ test → q ≡ touched_if test p → Did before after (touches_if test (images_of given shapes level vars of gives go)) p result new
    by_fetch true fetched is = does_holds (images_of given shapes level vars of) go (only_reads given shapes level vars of) is asks more
    by_fetch false unfetched is =
        let none : asks.exchanges ≡ [] = unasked q.settings.manner (images_of given shapes level vars of) asks.exchanges a (none_reads given shapes level vars of unfetched) asks.held in
        subst (λ (x : SessionProgress). Did before after (images_of given shapes level vars of gives go) x result new) is
        (does_gives (images_of given shapes level vars of) go asks (subst (λ (f : List Exchange). Did mid after (go a) (asked_all f q) result new) (sym none) more))

-- ---- and the changes of a write, with what checks them

only_deed : (table : TableName) (key : List Value) (deed : Deed) → GoesOnly (asks_deed table key deed)
unfolding GoesOnly said.tries
only_deed table key deed.Erase = only_either (said.asks (ops.Erase table key) tt said.over) (said.over replies.Memory) (tt, λ reply. tt) tt
only_deed table key (deed.Replace row) = only_either (said.asks (ops.Replace table key row) tt said.over) (said.over replies.Memory) (tt, λ reply. tt) tt
only_deed table key (deed.Insert row) = only_either (said.asks (ops.Insert table key row) tt said.over) (said.over replies.Memory) (tt, λ reply. tt) tt

only_done : (shapes : List TableTree) (change : Planned) (reply : Reply) → GoesOnly (done_by shapes change reply)
unfolding GoesOnly
only_done shapes change replies.Exists = only_either {A = Result (Unit {0}) _} (with_room no_room (said.over (Err (present shapes change.table change.key)))) (said.over (Ok tt)) (only_room no_room _ tt) tt (is_own change)
only_done shapes change reply = tt

only_write : (shapes : List TableTree) (change : Planned) → GoesOnly (writes_one shapes change)
unfolding writes_one
only_write shapes change = only_then (asks_deed change.table change.key change.deed) (done_by shapes change) (only_deed change.table change.key change.deed) (only_done shapes change)

only_writes : (shapes : List TableTree) (changes : List Planned) → GoesOnly (writes_all shapes changes)
unfolding writes_all
only_writes shapes [] = only_over _
only_writes shapes (change ∷ changes) = only_then (writes_one shapes change) (on_ok (λ done. writes_all shapes changes)) (only_write shapes change) (only_on (λ done. writes_all shapes changes) (λ done. only_writes shapes changes))

only_halted : (came : Result Rows Refusal) → GoesOnly (halted came)
only_halted (Ok rows) = only_over _
only_halted (Err why) = only_over _

only_checked : (shapes : List TableTree) (range : KeyRange) → GoesOnly (rows_checked shapes range)
unfolding rows_checked
only_checked shapes range = only_room no_room _ (only_then (checks_range (part_shape range.table shapes) range) halted
    (only_rows (part_shape range.table shapes) range.table.part (is_one_key (key_width (part_shape range.table shapes) range.table.part) range.start range.stop) (fetch_of range hold.Range S)) only_halted)

only_broken : (read : CheckRead) (judged : Option ℤ) → GoesOnly (broken_by read judged)
only_broken read None = only_over _
only_broken read (Some number) = only_room no_room _ (only_over _)

only_check : (shapes : List TableTree) (read : CheckRead) → GoesOnly (checks_one shapes read)
unfolding checks_one
only_check shapes read = only_then (rows_checked shapes read.range) (on_ok (λ found. broken_by read (judge read found))) (only_checked shapes read.range) (only_on (λ found. broken_by read (judge read found)) (λ found. only_broken read (judge read found)))

only_checks : (shapes : List TableTree) (reads : List CheckRead) → GoesOnly (checks_all shapes reads)
unfolding checks_all
only_checks shapes [] = only_over _
only_checks shapes (read ∷ reads) = only_then (checks_one shapes read) (on_ok (λ done. checks_all shapes reads)) (only_check shapes read) (only_on (λ done. checks_all shapes reads) (λ done. only_checks shapes reads))

only_works : (shapes : List TableTree) (changes : List Planned) (found : List Bool) → GoesOnly (works shapes changes found)
unfolding works
only_works shapes changes found = only_then (writes_all shapes (as_found changes found)) (on_ok (λ done. with_room no_room (checks_all shapes (reads_for changes shapes)))) (only_writes shapes (as_found changes found))
    (only_on (λ done. with_room no_room (checks_all shapes (reads_for changes shapes))) (λ done. only_room no_room _ (only_checks shapes (reads_for changes shapes))))

-- ---- and index rows that are asked for

only_told : (reply : Reply) → GoesOnly (row_told reply)
unfolding GoesOnly
only_told (replies.Row key row at) = tt
only_told (replies.Gone key at) = tt
only_told (replies.End at) = tt
only_told replies.Memory = tt
only_told (replies.TimedOut holder held asked on) = tt
only_told (replies.Victim cycle) = tt
only_told reply = tt

only_key : (table : TableName) (key : List Value) → GoesOnly (asks_key table key)
unfolding GoesOnly asks_key said.tries
only_key table key = only_either (said.asks (ops.Fetch table (At key) (Within key) hold.Range U) tt row_told) (row_told replies.Memory) (tt, only_told) tt

only_keys : (changes : List Planned) (so_far : List Bool) → GoesOnly (asks_keys changes so_far)
unfolding asks_keys
only_keys [] so_far = only_over _
only_keys (change ∷ changes) so_far =
    only_either (said.◌then◌ (asks_key change.table change.key) (on_ok (λ there. with_room refusal.Memory (asks_keys changes (so_far ++ there ∷ []))))) (asks_keys changes so_far)
    (only_then (asks_key change.table change.key) (on_ok (λ there. with_room refusal.Memory (asks_keys changes (so_far ++ there ∷ [])))) (only_key change.table change.key)
    (only_on (λ there. with_room refusal.Memory (asks_keys changes (so_far ++ there ∷ []))) (λ there. only_room refusal.Memory (asks_keys changes (so_far ++ there ∷ [])) (only_keys changes (so_far ++ there ∷ [])))))
    (only_keys changes so_far) (is_asked change)

-- ---- a write that is taken back to its mark

-- what came first, and what came behind it
record Parts {A B : Type 0} (manner : Manner) (dialog : Dialog A) (go : A → Dialog B) (exchanges : List Exchange) (b : B) : Type 0 where
  front : List Exchange
  back : List Exchange
  a : A
  is : exchanges ≡ front ++ back
  first : said.Held manner dialog front a
  second : said.Held manner (go a) back b

parts : {A B : Type 0} (manner : Manner) (dialog : Dialog A) (go : A → Dialog B) (exchanges : List Exchange) (b : B) → said.Held manner (said.◌then◌ dialog go) exchanges b → Parts manner dialog go exchanges b
unfolding said.Held said.◌then◌
parts manner (said.over a) go exchanges b held = record { front = []; back = exchanges; a = a; is = refl; first = (refl, refl); second = held }
parts manner (said.asks op quiet next) go [] b held = absurd held
parts manner (said.asks op quiet next) go (x ∷ later) b held =
    let rest = parts manner (next x.reply) go later b held.3 in
    record { front = x ∷ rest.front; back = rest.back; a = rest.a; is = ap (λ (l : List Exchange). x ∷ l) rest.is; first = (held.0, held.1, held.2, rest.first); second = rest.second }
parts manner (said.room next) go exchanges b held =
    let rest = parts manner (next held.0) go exchanges b held.1 in
    record { front = rest.front; back = rest.back; a = rest.a; is = rest.is; first = (held.0, rest.first); second = rest.second }
parts manner said.never go exchanges b held = absurd held

asked_all-append : (first second : List Exchange) (p : SessionProgress) → asked_all (first ++ second) p ≡ asked_all second (asked_all first p)
asked_all-append [] second p = refl
asked_all-append (x ∷ first) second p = asked_all-append first second (asked x.op x.reply p)

-- behind the way back
back_done : (mark : ℕ) (came : Result Written Refusal) (p : SessionProgress) (reply : Reply) (later : List Exchange) (attempt : Attempt) → mark_back (Some mark) came ≡ Some mark
    → said.Held p.settings.manner (where_done (said.over (told (Some mark) came)) reply) later attempt → asked_all later (asked (ops.BackTo mark) reply p) ≡ cut_to (taken_back attempt) p
unfolding said.Held
back_done mark came p replies.Done later attempt back held =
    ap (λ (l : List Exchange). asked_all l (asked (ops.BackTo mark) replies.Done p)) held.0 ∙ sym (ap (λ (m : Option ℕ). cut_to m p) back) ∙ sym (ap (λ (t : Attempt). cut_to (taken_back t) p) held.1)
back_done mark came p reply later attempt back held = absurd held

back_asked : (mark : ℕ) (came : Result Written Refusal) (p : SessionProgress) (exchanges : List Exchange) (attempt : Attempt) → mark_back (Some mark) came ≡ Some mark
    → said.Held p.settings.manner (said.asks (ops.BackTo mark) tt (where_done (said.over (told (Some mark) came)))) exchanges attempt → asked_all exchanges p ≡ cut_to (taken_back attempt) p
unfolding said.Held
back_asked mark came p [] attempt back held = absurd held
back_asked mark came p (x ∷ later) attempt back held = ap (λ (o : Op). asked_all later (asked o x.reply p)) held.0 ∙ back_done mark came p x.reply later attempt back held.3

-- by what it comes to behind the changes
ended_cut : {H : Type 0} (mark : ℕ) (ends_by : Result (Unit {0}) H → Dialog Attempt) (told_by : H → Result Written Refusal)
    → ((done : Unit {0}) → ends_by (Ok done) ≡ said.over (told (Some mark) (Ok (written.Done mark)))) → ((why : H) → ends_by (Err why) ≡ said.asks (ops.BackTo mark) tt (where_done (said.over (told (Some mark) (told_by why)))))
    → ((why : H) → mark_back (Some mark) (told_by why) ≡ Some mark) → (came : Result (Unit {0}) H) (p : SessionProgress) (exchanges : List Exchange) (attempt : Attempt) → said.Held p.settings.manner (ends_by came) exchanges attempt
    → asked_all exchanges p ≡ cut_to (taken_back attempt) p
unfolding said.Held
ended_cut mark ends_by told_by done back went (Ok fine) p exchanges attempt held =
    let is : said.Held p.settings.manner (said.over (told (Some mark) (Ok (written.Done mark)))) exchanges attempt = subst (λ (d : Dialog Attempt). said.Held p.settings.manner d exchanges attempt) (done fine) held in
    ap (λ (l : List Exchange). asked_all l p) is.0 ∙ sym (ap (λ (t : Attempt). cut_to (taken_back t) p) is.1)
ended_cut mark ends_by told_by done back went (Err why) p exchanges attempt held =
    back_asked mark (told_by why) p exchanges attempt (went why) (subst (λ (d : Dialog Attempt). said.Held p.settings.manner d exchanges attempt) (back why) held)

marked_cut : (shapes : List TableTree) (changes : List Planned) (found : List Bool) (p : SessionProgress) (reply : Reply) (exchanges : List Exchange) (attempt : Attempt) → p.touched ≡ true
    → said.Held p.settings.manner (marked shapes changes found reply) exchanges attempt → asked_all exchanges p ≡ cut_to (taken_back attempt) p
unfolding said.Held
marked_cut shapes changes found p (replies.Marked mark) exchanges attempt touched held =
    let both = parts p.settings.manner (works shapes changes found) (ends mark) exchanges attempt held in
    ap (λ (l : List Exchange). asked_all l p) both.is ∙ asked_all-append both.front both.back p
    ∙ ap (asked_all both.back) (only_same (works shapes changes found) p both.front both.a (only_works shapes changes found) touched both.first)
    ∙ ended_cut mark (ends mark) outcome (λ done. refl) (λ why. refl) (by_outcome (λ r. mark_back (Some mark) r ≡ Some mark) (λ number name. refl) (λ refused. refl)) both.a p both.back attempt both.second
marked_cut shapes changes found p replies.Memory exchanges attempt touched held = ap (λ (l : List Exchange). asked_all l p) held.0 ∙ sym (ap (λ (t : Attempt). cut_to (taken_back t) p) held.1)
marked_cut shapes changes found p reply exchanges attempt touched held = absurd held

-- behind the answers on index rows
found_cut : (shapes : List TableTree) (changes : List Planned) (p : SessionProgress) (came : Result (List Bool) Refusal) (exchanges : List Exchange) (attempt : Attempt) → p.touched ≡ true
    → said.Held p.settings.manner (behind_keys shapes changes came) exchanges attempt → asked_all exchanges p ≡ cut_to (taken_back attempt) p
unfolding said.Held
found_cut shapes changes p (Ok found) [] attempt touched held = absurd held
found_cut shapes changes p (Ok found) (x ∷ later) attempt touched held =
    let same : asked x.op x.reply p ≡ p = ap (λ (o : Op). asked o x.reply p) held.0 ∙ quiet_same ops.Mark x.reply p tt tt held.2 touched in
    ap (asked_all later) same ∙ marked_cut shapes changes found p x.reply later attempt touched held.3
found_cut shapes changes p (Err why) exchanges attempt touched held = ap (λ (l : List Exchange). asked_all l p) held.0 ∙ sym (ap (λ (t : Attempt). cut_to (taken_back t) p) held.1)

-- it changes nothing but the savepoints behind the mark to which it was taken back
pub writes_cut : (shapes : List TableTree) (changes : List Planned) (p : SessionProgress) (exchanges : List Exchange) (attempt : Attempt) → p.touched ≡ true
    → said.Held p.settings.manner (attempts shapes changes) exchanges attempt → asked_all exchanges p ≡ cut_to (taken_back attempt) p
unfolding attempts
writes_cut shapes changes p exchanges attempt touched held =
    let both = parts p.settings.manner (asks_keys changes []) (behind_keys shapes changes) exchanges attempt held in
    ap (λ (l : List Exchange). asked_all l p) both.is ∙ asked_all-append both.front both.back p
    ∙ ap (asked_all both.back) (only_same (asks_keys changes []) p both.front both.a (only_keys changes []) touched both.first)
    ∙ found_cut shapes changes p both.a both.back attempt touched both.second

-- changes were asked
pub does_applies : {before after : PortPast} (shapes : List TableTree) (changes : List Planned) {p q new : SessionProgress} {attempt : Attempt} {result : Result ℕ Failure} → q ≡ made touches p
    → Asks before after q.settings.manner (attempts shapes changes) attempt → unless_broken attempt.came ≡ over result → new ≡ cut_to (taken_back attempt) q → Did before after (applies shapes changes) p (Ok result) new
unfolding applies
does_applies {after = after} shapes changes {p = p} {q = q} {new = new} {attempt = attempt} {result = result} same asks broken cut =
    let touched : q.touched ≡ true = ap (λ (r : SessionProgress). r.touched) same in
    let is : new ≡ asked_all asks.exchanges q = cut ∙ sym (writes_cut shapes changes q asks.exchanges attempt touched asks.held) in
    does_makes same (does_gives (attempts shapes changes) (λ t. unless_broken t.came) asks
    (subst (λ (tree : Doing (Result ℕ Failure)). Did after after tree (asked_all asks.exchanges q) (Ok result) new) (sym broken) (does_over is)))

-- ---- the mark of what was done is live

live_stays : (op : Op) (reply : Reply) (mark : ℕ) (standing : Standing) → IsForward op → CanReply op reply → list_any (λ live. nat_eq live mark) standing.marks ≡ true → list_any (λ live. nat_eq live mark) (standing_after standing op reply).marks ≡ true
live_stays (ops.Fetch table start stop hold part) (replies.Ended place) mark standing forward can live = absurd can
live_stays (ops.Insert table key row) (replies.Ended place) mark standing forward can live = absurd can
live_stays (ops.Replace table key row) (replies.Ended place) mark standing forward can live = absurd can
live_stays (ops.Erase table key) (replies.Ended place) mark standing forward can live = absurd can
live_stays ops.Mark (replies.Ended place) mark standing forward can live = absurd can
live_stays ops.Mark (replies.Marked new) mark standing forward can live = grind (arith, list_any-append, live)
live_stays (ops.BackTo back) reply mark standing forward can live = absurd forward
live_stays ops.Begin reply mark standing forward can live = absurd forward
live_stays ops.Relax reply mark standing forward can live = absurd forward
live_stays ops.Commit reply mark standing forward can live = absurd forward
live_stays ops.Rollback reply mark standing forward can live = absurd forward
live_stays op reply mark standing forward can live = live

only_live : {A : Type 0} (manner : Manner) (dialog : Dialog A) (exchanges : List Exchange) (a : A) (mark : ℕ) (standing : Standing) → GoesOnly dialog → said.Held manner dialog exchanges a
    → list_any (λ live. nat_eq live mark) standing.marks ≡ true → list_any (λ live. nat_eq live mark) (standing_from standing exchanges).marks ≡ true
unfolding said.Held GoesOnly
only_live manner (said.over c) exchanges a mark standing only held live = rw held.0 live
only_live manner (said.asks op quiet next) [] a mark standing only held live = absurd held
only_live manner (said.asks op quiet next) (x ∷ later) a mark standing only held live =
    only_live manner (next x.reply) later a mark (standing_after standing x.op x.reply) (only.1 x.reply) held.3
    (subst (λ (o : Op). list_any (λ live. nat_eq live mark) (standing_after standing o x.reply).marks ≡ true) (sym held.0) (live_stays op x.reply mark standing only.0 held.2 live))
only_live manner (said.room next) exchanges a mark standing only held live = only_live manner (next held.0) exchanges a mark standing (only held.0) held.1 live
only_live manner said.never exchanges a mark standing only held live = absurd held

standing_behind : (front back : List Exchange) (standing : Standing) → standing_from standing (front ++ back) ≡ standing_from (standing_from standing front) back
standing_behind [] back standing = refl
standing_behind (x ∷ front) back standing = standing_behind front back (standing_after standing x.op x.reply)

-- where the changes are done, behind their mark
done_same : (a b : ℕ) → ◌≡◌ {A = Result Written Refusal} (Ok (written.Done a)) (Ok (written.Done b)) → a ≡ b
done_same a b same = cc

live_ended : {H : Type 0} (manner : Manner) (mark done : ℕ) (ends_by : Result (Unit {0}) H → Dialog Attempt) (told_by : H → Result Written Refusal)
    → ((fine : Unit {0}) → ends_by (Ok fine) ≡ said.over (told (Some mark) (Ok (written.Done mark)))) → ((why : H) → ends_by (Err why) ≡ said.asks (ops.BackTo mark) tt (where_done (said.over (told (Some mark) (told_by why)))))
    → ((why : H) → told_by why ≡ Ok (written.Done done) → ⊥) → (came : Result (Unit {0}) H) (back : List Exchange) (attempt : Attempt) (standing : Standing) → said.Held manner (ends_by came) back attempt → attempt.came ≡ Ok (written.Done done)
    → list_any (λ live. nat_eq live mark) standing.marks ≡ true → list_any (λ live. nat_eq live done) (standing_from standing back).marks ≡ true
unfolding said.Held
live_ended manner mark done ends_by told_by fine went undone (Ok well) back attempt standing held is live =
    let over_so : said.Held manner (said.over (told (Some mark) (Ok (written.Done mark)))) back attempt = subst (λ (d : Dialog Attempt). said.Held manner d back attempt) (fine well) held in
    let same : mark ≡ done = done_same mark done (sym (ap (λ (t : Attempt). t.came) over_so.1) ∙ is) in
    subst (λ (m : ℕ). list_any (λ live. nat_eq live m) (standing_from standing back).marks ≡ true) same (rw over_so.0 live)
live_ended manner mark done ends_by told_by fine went undone (Err why) back attempt standing held is live = absurd (no_asks back (subst (λ (d : Dialog Attempt). said.Held manner d back attempt) (went why) held))
  where
    no_done : (reply : Reply) (later : List Exchange) → said.Held manner (where_done (said.over (told (Some mark) (told_by why))) reply) later attempt → ⊥
    no_done replies.Done later was = undone why (sym (ap (λ (t : Attempt). t.came) was.1) ∙ is)
    no_done reply later was = absurd was

    no_asks : (asked : List Exchange) → said.Held manner (said.asks (ops.BackTo mark) tt (where_done (said.over (told (Some mark) (told_by why))))) asked attempt → ⊥
    no_asks [] was = absurd was
    no_asks (x ∷ later) was = no_done x.reply later was.3

pub writes_live : {before after : PortPast} {manner : Manner} (shapes : List TableTree) (changes : List Planned) {attempt : Attempt} (mark : ℕ) → Asks before after manner (attempts shapes changes) attempt → attempt.came ≡ Ok (written.Done mark) → IsLive mark after
unfolding said.Held attempts
writes_live {before = before} {manner = manner} shapes changes {attempt = attempt} mark asks is = rw asks.past.standing (by_keys asks.exchanges asks.held)
  where
    by_reply : (found : List Bool) (standing : Standing) (reply : Reply) (later : List Exchange) → said.Held manner (marked shapes changes found reply) later attempt → list_any (λ live. nat_eq live mark) (standing_from (standing_after standing ops.Mark reply) later).marks ≡ true
    by_reply found standing (replies.Marked made) later held =
        let both = parts manner (works shapes changes found) (ends made) later attempt held in
        let marked_so = standing_after standing ops.Mark (replies.Marked made) in
        rw both.is (rw (standing_behind both.front both.back marked_so)
        (live_ended manner made mark (ends made) outcome (λ done. refl) (λ why. refl) (by_outcome (λ r. r ≡ Ok (written.Done mark) → ⊥) (λ number name no_done. cc) (λ refused no_done. cc)) both.a both.back attempt (standing_from marked_so both.front) both.second is
        (only_live manner (works shapes changes found) both.front both.a made marked_so (only_works shapes changes found) both.first (mark_last made standing.marks))))
    by_reply found standing replies.Memory later held = absurd (let wanting : attempt.came ≡ Err refusal.Memory = ap (λ (t : Attempt). t.came) held.1 in let no_done : ◌≡◌ {A = Result Written Refusal} (Err refusal.Memory) (Ok (written.Done mark)) = sym wanting ∙ is in cc)
    by_reply found standing reply later held = absurd held

    by_came : (came : Result (List Bool) Refusal) (standing : Standing) (exchanges : List Exchange) → said.Held manner (behind_keys shapes changes came) exchanges attempt → list_any (λ live. nat_eq live mark) (standing_from standing exchanges).marks ≡ true
    by_came (Ok found) standing [] held = absurd held
    by_came (Ok found) standing (x ∷ later) held = rw held.0 (by_reply found standing x.reply later held.3)
    by_came (Err why) standing exchanges held = absurd (let wanting : attempt.came ≡ Err why = ap (λ (t : Attempt). t.came) held.1 in let no_done : ◌≡◌ {A = Result Written Refusal} (Err why) (Ok (written.Done mark)) = sym wanting ∙ is in cc)

    by_keys : (exchanges : List Exchange) → said.Held manner (said.◌then◌ (asks_keys changes []) (behind_keys shapes changes)) exchanges attempt → list_any (λ live. nat_eq live mark) (standing_from before.standing exchanges).marks ≡ true
    by_keys exchanges held =
        let both = parts manner (asks_keys changes []) (behind_keys shapes changes) exchanges attempt held in
        rw both.is (rw (standing_behind both.front both.back before.standing) (by_came both.a (standing_from before.standing both.front) both.back both.second))

value_of : Doing (Result ℕ Failure) → Result ℕ Failure
value_of (over result) = result
value_of other = Ok 0

over_value : {a b : Result ℕ Failure} → ◌≡◌ {A = Doing (Result ℕ Failure)} (over a) (over b) → a ≡ b
unfolding value_of
over_value is = ap value_of is

ok_value : Result ℕ Failure → ℕ
ok_value (Ok mark) = mark
ok_value (Err failure) = 0

over_same : {a b : ℕ} → ◌≡◌ {A = Doing (Result ℕ Failure)} (over (Ok a)) (over (Ok b)) → a ≡ b
unfolding ok_value
over_same is = ap ok_value (over_value is)

-- a write that is done gives such a mark
broken_mark : (came : Result Written Refusal) (mark : ℕ) → unless_broken came ≡ over (Ok mark) → came ≡ Ok (written.Done mark)
broken_mark (Ok (written.Done made)) mark is = ap (λ (m : ℕ). Ok (written.Done m)) (over_same is)
broken_mark (Ok (written.Refused number name)) mark is = absurd (let no : ◌≡◌ {A = Result ℕ Failure} (Err (record { number = number; name = Some name })) (Ok mark) = over_value is in cc)
broken_mark (Err why) mark is = absurd (let no : ◌≡◌ {A = Result ℕ Failure} (Err (plain (number_of why))) (Ok mark) = over_value is in cc)

pub applied_live : {before after : PortPast} {manner : Manner} (shapes : List TableTree) (changes : List Planned) {attempt : Attempt} (result : Result ℕ Failure) → Asks before after manner (attempts shapes changes) attempt → unless_broken attempt.came ≡ over result
    → IfOk result (λ mark. IsLive mark after)
applied_live shapes changes {attempt = attempt} (Ok mark) asks is = writes_live shapes changes mark asks (broken_mark attempt.came mark is)
applied_live shapes changes (Err failure) asks is = tt

-- a session that asks is ready
pub ready_touched : {past : PortPast} {p q : SessionProgress} → q ≡ made touches p → Ready p past → Ready q past
ready_touched {past = past} same ready = subst (λ (x : SessionProgress). Ready x past) (sym same) (record { agree = ready.agree; live = ready.live; priority = ready.priority; counted = ready.counted; idle = ready.idle })

-- and is so behind a write
pub ready_applied : {before after : PortPast} (shapes : List TableTree) (changes : List Planned) {q new : SessionProgress} {attempt : Attempt} → Ready q before → q.touched ≡ true
    → Asks before after q.settings.manner (attempts shapes changes) attempt → new ≡ cut_to (taken_back attempt) q → Ready new after
ready_applied {after = after} shapes changes {q = q} {new = new} {attempt = attempt} ready touched asks cut =
    subst (λ (p : SessionProgress). Ready p after) (writes_cut shapes changes q asks.exchanges attempt touched asks.held ∙ sym cut) (ready_said (attempts shapes changes) ready asks)
