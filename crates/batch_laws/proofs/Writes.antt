-- What is read leaves the transaction as it was; the changes of a write stay whole or not at all.
use Rattle.std.proofs.Common.{◌≡◌, inl, inr, ℕ, zero, suc, Bool, true, false, if◌then◌else◌, List, [], ◌∷◌, ◌++◌, Option, Some, None, Result, Ok, Err, refl, sym, ap, ◌∙◌, subst, append_assoc, append-nil, eq-eqb}
use Rattle.std.specs.Prelude.{◌==◌, ◌||◌, ℤ}
use Rattle.std.specs.List.{list_any}
use Rattle.value_types.specs.declared.table_name.TableName.{TableName}
use Rattle.value_types.specs.declared.value.Value.{Value}
use Rattle.tsql_tree.specs.declared.definition.TableTree.{TableTree}
use Rattle.lock_modes.specs.declared.KeyPart.{KeyPart}
use Rattle.lock_modes.specs.declared.KeyPart.TheVariants.{U}
use Rattle.step_model.specs.declared.change.Deed.{Deed}
use Rattle.step_model.specs.declared.change.Deed.TheVariants as deed
use Rattle.step_model.specs.declared.change.Planned.{Planned}
use Rattle.step_model.specs.declared.op.Hold.{Hold}
use Rattle.step_model.specs.declared.op.Hold.TheVariants.{Range}
use Rattle.step_model.specs.declared.op.Op.{Op}
use Rattle.step_model.specs.declared.op.Op.TheVariants as ops
use Rattle.step_model.specs.declared.range.KeyRange.{KeyRange}
use Rattle.step_model.specs.declared.range.Start.{Start}
use Rattle.step_model.specs.declared.range.Start.TheVariants.{At}
use Rattle.step_model.specs.declared.range.Stop.{Stop}
use Rattle.step_model.specs.declared.range.Stop.TheVariants.{Within}
use Rattle.step_model.specs.declared.reply.Reply.{Reply}
use Rattle.step_model.specs.declared.reply.Reply.TheVariants as replies
use Rattle.step_model.specs.Dialog.{Dialog, IsQuiet, over, asks, tries, ◌then◌}
use Rattle.step_model.specs.Own.{Progress as Stand, MarkedAt, is_insert, is_own, own_at}
use Rattle.step_model.specs.Ranges.{Rows, Keeps, range_limit}
use Rattle.constraint_check.specs.declared.check_read.CheckRead.{CheckRead}
use Rattle.table_rows.specs.Rows.{part_shape}
use Rattle.constraint_check.specs.Reads.{reads_for}
use Rattle.constraint_check.specs.Judged.{judge}
use Rattle.dml_exec.specs.declared.refusal.Refusal.{Refusal}
use Rattle.dml_exec.specs.declared.refusal.Refusal.TheVariants.{Memory}
use Rattle.dml_exec.specs.declared.written.Attempt.{Attempt}
use Rattle.dml_exec.specs.declared.written.Written.{Written}
use Rattle.dml_exec.specs.Asking.{on_ok, ◌>>=◌, with_room, with_room_if}
use Rattle.dml_exec.specs.Reading.{behind_gone, fits, fetches, from, is_short, key_width, reads_on, rows_from, rows_in}
use Rattle.dml_exec.specs.Planning.{as_found, is_asked}
use Rattle.dml_exec.specs.Writing.{no_room, present, done_by, asks_deed, writes_one, writes_all, halted, rows_checked, broken_by, checks_one, checks_all, checks_range, row_told, asks_key, asks_keys, works, ends, marked, behind_keys, attempts, writes}
use Rattle.dml_exec.proofs.Halts.{by_outcome}
use Rattle.batch_laws.specs.Committing.{ArePut, AreWritesOf}
use Rattle.batch_laws.specs.Laws.{WritesWhole}
use Rattle.batch_laws.proofs.Dialogs.{Goes, goes_held, goes_mono, goes_bind, goes_if}

-- ---- what only reads

-- it leaves the transaction as it was
abbrev pub Reads : {A : Type 0} → Dialog A → Type 0
Reads {A = A} dialog = (stand : Stand) → Goes dialog stand (λ (a : A) s. s ≡ stand)

reads_then : {A B : Type 0} (dialog : Dialog A) (go : A → Dialog B) → Reads dialog → ((a : A) → Reads (go a)) → Reads (dialog then go)
reads_then {A = A} {B = B} dialog go reads after stand = goes_bind dialog go stand (λ (a : A) s. s ≡ stand) (λ (b : B) s. s ≡ stand) (reads stand)
    (λ a s same. subst (λ (x : Stand). Goes (go a) s (λ (b : B) t. t ≡ x)) same (after a s))

reads_bind : {A B E : Type 0} (dialog : Dialog (Result A E)) (go : A → Dialog (Result B E)) → Reads dialog → ((a : A) → Reads (go a)) → Reads (dialog >>= go)
reads_bind {A = A} {B = B} {E = E} dialog go reads after = reads_then dialog (on_ok go) reads by_came
  where
    by_came : (came : Result A E) → Reads (on_ok {B = B} go came)
    by_came (Ok a) = after a
    by_came (Err e) = λ stand. refl

reads_room : {A E : Type 0} (wanting : E) (dialog : Dialog (Result A E)) → Reads dialog → Reads (with_room wanting dialog)
reads_room {A = A} {E = E} wanting dialog reads stand = λ enough. goes_if enough dialog (over (Err wanting)) stand (λ (a : Result A E) s. s ≡ stand) (λ is. reads stand) (λ is. refl)

-- where memory is wanting in some case alone
goes_room_if : {A E : Type 0} (wants : Bool) (wanting : E) (dialog : Dialog (Result A E)) (stand : Stand) (After : Result A E → Stand → Type 0)
    → Goes dialog stand After → After (Err wanting) stand → Goes (with_room_if wants wanting dialog) stand After
goes_room_if true wanting dialog stand After goes failed = λ enough. goes_if enough dialog (over (Err wanting)) stand After (λ is. goes) (λ is. failed)
goes_room_if false wanting dialog stand After goes failed = goes

-- one fetch
reads_fetch : (width : ℕ) (keeps : Keeps) (table : TableName) (start : Start) (stop : Stop) (hold : Hold) (part : KeyPart) (so_far : Rows) → Reads (fetches width keeps (ops.Fetch table start stop hold part) so_far)
reads_fetch width keeps table start stop hold part so_far stand = by_reply
  where
    same : record stand { own = stand.own ++ [] } ≡ stand
    same = ap (λ (l : List Planned). record stand { own = l }) (append-nil stand.own)

    by_reply : Goes (fetches width keeps (ops.Fetch table start stop hold part) so_far) stand (λ (a : Result (Rows × Option Start) Refusal) s. s ≡ stand)
    by_reply (replies.Row key row at) can = λ enough. goes_if enough _ _ _ (λ (a : Result (Rows × Option Start) Refusal) s. s ≡ stand) (λ is. same) (λ is. same)
    by_reply (replies.Gone key at) can =
        goes_room_if (is_short width key) Memory (over (Ok (so_far, Some (behind_gone width key)))) (record stand { own = stand.own ++ [] }) (λ (a : Result (Rows × Option Start) Refusal) s. s ≡ stand) same same
    by_reply (replies.End at) can = same
    by_reply replies.Memory can = same
    by_reply (replies.TimedOut holder held asked on) can = same
    by_reply (replies.Victim cycle) can = same
    by_reply reply can = tt

-- any fetch
reads_one : (width : ℕ) (keeps : Keeps) (fetch : Op) (so_far : Rows) → Reads (fetches width keeps fetch so_far)
reads_one width keeps (ops.Fetch table start stop hold part) so_far = reads_fetch width keeps table start stop hold part so_far
reads_one width keeps op so_far = λ stand. tt

-- behind a key
reads_behind : (next : Rows → Start → Dialog (Result Rows Refusal)) → ((more : Rows) (start : Start) → Reads (next more start)) → (came : Rows × Option Start) → Reads (reads_on next came)
reads_behind next reads (more, None) = λ stand. refl
reads_behind next reads (more, Some start) = reads more start

-- the rest of a range
reads_from : (width : ℕ) (keeps : Keeps) (left : ℕ) (fetch : Op) (so_far : Rows) → Reads (rows_from width keeps left fetch so_far)
unfolding rows_from
reads_from width keeps zero fetch so_far = λ stand. refl
reads_from width keeps (suc left) fetch so_far =
    reads_bind (fetches width keeps fetch so_far) (reads_on (λ more start. rows_from width keeps left (from start fetch) more)) (reads_one width keeps fetch so_far)
    (reads_behind (λ more start. rows_from width keeps left (from start fetch) more) (λ more start. reads_from width keeps left (from start fetch) more))

reads_rows : (shape : Option TableTree) (part : ℕ) (one : Bool) (fetch : Op) → Reads (rows_in shape part one fetch)
unfolding rows_in
reads_rows shape part true fetch = reads_bind (fetches (key_width shape part) (fits shape part) fetch []) (λ came. over (Ok came.0)) (reads_one (key_width shape part) (fits shape part) fetch []) (λ came stand. refl)
reads_rows shape part false fetch = reads_from (key_width shape part) (fits shape part) range_limit fetch []

-- ---- checks

reads_checked : (shapes : List TableTree) (range : KeyRange) → Reads (rows_checked shapes range)
unfolding rows_checked
reads_checked shapes range = reads_room no_room _ (reads_then (checks_range (part_shape range.table shapes) range) halted (reads_rows _ _ _ _) by_came)
  where
    by_came : (came : Result Rows Refusal) → Reads (halted came)
    by_came (Ok rows) = λ stand. refl
    by_came (Err refusal) = λ stand. refl

reads_broken : (read : CheckRead) (judged : Option ℤ) → Reads (broken_by read judged)
reads_broken read None = λ stand. refl
reads_broken read (Some number) = reads_room no_room _ (λ stand. refl)

reads_checks : (shapes : List TableTree) (reads : List CheckRead) → Reads (checks_all shapes reads)
unfolding checks_all checks_one
reads_checks shapes [] = λ stand. refl
reads_checks shapes (read ∷ reads) = reads_bind (checks_one shapes read) (λ done. checks_all shapes reads)
    (reads_bind (rows_checked shapes read.range) (λ found. broken_by read (judge read found)) (reads_checked shapes read.range) (λ found. reads_broken read (judge read found)))
    (λ done. reads_checks shapes reads)

-- ---- changes

-- what a reply says that was written
abbrev Adds : Planned → Reply → List Planned
Adds change replies.Done = change ∷ []
Adds change reply = []

-- a row is there for an insertion alone
abbrev IfThere : Planned → Reply → Type 0
IfThere change replies.Exists = is_insert change.deed ≡ true
IfThere change reply = Unit {0}

-- a change was asked: where it is done it stands behind the others
abbrev Asked : Planned → Stand → Reply → Stand → Type 0
Asked change stand reply s = (s.marks ≡ stand.marks) × (s.own ≡ stand.own ++ Adds change reply) × IfThere change reply

-- a change is asked, where there is memory to ask it
tried : (op : Op) (quiet : IsQuiet op) (change : Planned) (stand : Stand) → Goes (asks op quiet over) stand (Asked change stand) → Goes (tries op quiet over) stand (Asked change stand)
unfolding tries
tried op quiet change stand goes = λ enough. goes_if enough (asks op quiet over) (over replies.Memory) stand (Asked change stand) (λ is. goes) (λ is. (refl, sym (append-nil stand.own), tt))

deed_asked : (table : TableName) (key : List Value) (deed : Deed) (stand : Stand) → Goes (asks_deed table key deed) stand (Asked (record { table = table; key = key; deed = deed }) stand)
deed_asked table key deed.Erase stand = tried (ops.Erase table key) tt (record { table = table; key = key; deed = deed.Erase }) stand by_reply
  where
    by_reply : Goes (asks (ops.Erase table key) tt over) stand (Asked (record { table = table; key = key; deed = deed.Erase }) stand)
    by_reply replies.Done can = (refl, refl, tt)
    by_reply replies.Exists can = absurd can
    by_reply (replies.Ended place) can = absurd can
    by_reply reply can = (refl, refl, tt)
deed_asked table key (deed.Replace row) stand = tried (ops.Replace table key row) tt (record { table = table; key = key; deed = deed.Replace row }) stand by_reply
  where
    by_reply : Goes (asks (ops.Replace table key row) tt over) stand (Asked (record { table = table; key = key; deed = deed.Replace row }) stand)
    by_reply replies.Done can = (refl, refl, tt)
    by_reply replies.Exists can = absurd can
    by_reply (replies.Ended place) can = absurd can
    by_reply reply can = (refl, refl, tt)
deed_asked table key (deed.Insert row) stand = tried (ops.Insert table key row) tt (record { table = table; key = key; deed = deed.Insert row }) stand by_reply
  where
    by_reply : Goes (asks (ops.Insert table key row) tt over) stand (Asked (record { table = table; key = key; deed = deed.Insert row }) stand)
    by_reply replies.Done can = (refl, refl, tt)
    by_reply replies.Exists can = (refl, refl, refl)
    by_reply (replies.Ended place) can = absurd can
    by_reply reply can = (refl, refl, tt)

-- changes were made behind what was written, but for those where a row was there, or not all of them; the marks are as they were
abbrev Made : {E : Type 0} → List Planned → Stand → Result (Unit {0}) E → Stand → Type 0
Made changes stand (Ok done) s = (s.marks ≡ stand.marks) × ((more : List Planned) × AreWritesOf changes more × (s.own ≡ stand.own ++ more))
Made changes stand (Err why) s = s.marks ≡ stand.marks

one_made : (shapes : List TableTree) (change : Planned) (stand : Stand) → Goes (writes_one shapes change) stand (Made (change ∷ []) stand)
unfolding writes_one
one_made shapes change stand = goes_bind (asks_deed change.table change.key change.deed) (done_by shapes change) stand (Asked change stand) (Made (change ∷ []) stand) (deed_asked change.table change.key change.deed stand) by_reply
  where
    by_reply : (reply : Reply) (s : Stand) → Asked change stand reply s → Goes (done_by shapes change reply) s (Made (change ∷ []) stand)
    by_reply replies.Done s is = (is.0, (change ∷ [], inl ([], refl, refl), is.1))
    by_reply replies.Exists s is = by_own (is_own change) refl
      where
        by_own : (own : Bool) → is_own change ≡ own → Goes {A = Result (Unit {0}) _} (if own then with_room no_room (over (Err (present shapes change.table change.key))) else over (Ok tt)) s (Made (change ∷ []) stand)
        by_own true same = λ enough. goes_if enough _ _ _ (Made (change ∷ []) stand) (λ room. is.0) (λ none. is.0)
        by_own false same = (is.0, ([], inr (same, is.2, refl), is.1))
    by_reply replies.Missing s is = is.0
    by_reply replies.Memory s is = is.0
    by_reply (replies.TimedOut holder held asked on) s is = is.0
    by_reply (replies.Victim cycle) s is = is.0
    by_reply reply s is = tt

-- one change behind another
writes_more : (change : Planned) (changes first others : List Planned) → AreWritesOf (change ∷ []) first → AreWritesOf changes others → AreWritesOf (change ∷ changes) (first ++ others)
writes_more change changes first others (inl one) are = inl (others, ap (λ (l : List Planned). l ++ others) (one.1 ∙ ap (λ (l : List Planned). change ∷ l) one.2), are)
writes_more change changes first others (inr left) are = inr (left.0, left.1, subst (AreWritesOf changes) (sym (ap (λ (l : List Planned). l ++ others) left.2)) are)

more_made : {E : Type 0} (change : Planned) (changes : List Planned) (stand s : Stand) → Made {E = E} (change ∷ []) stand (Ok tt) s → (came : Result (Unit {0}) E) (t : Stand) → Made changes s came t → Made (change ∷ changes) stand came t
more_made change changes stand s was (Ok done) t is =
    let first : List Planned = was.1.0 in
    let others : List Planned = is.1.0 in
    (is.0 ∙ was.0, (first ++ others, writes_more change changes first others was.1.1 is.1.1, is.1.2 ∙ ap (λ (l : List Planned). l ++ others) was.1.2 ∙ append_assoc stand.own first others))
more_made change changes stand s was (Err why) t is = is ∙ was.0

others_made : (shapes : List TableTree) (change : Planned) (changes : List Planned) (stand : Stand) → ((s : Stand) → Goes (writes_all shapes changes) s (Made changes s))
    → (came : Result (Unit {0}) _) (s : Stand) → Made (change ∷ []) stand came s → Goes (on_ok (λ done. writes_all shapes changes) came) s (Made (change ∷ changes) stand)
others_made shapes change changes stand others (Ok done) s was = goes_mono (writes_all shapes changes) s (Made changes s) (Made (change ∷ changes) stand) (more_made change changes stand s was) (others s)
others_made shapes change changes stand others (Err why) s was = was

all_made : (shapes : List TableTree) (changes : List Planned) (stand : Stand) → Goes (writes_all shapes changes) stand (Made changes stand)
unfolding writes_all
all_made shapes [] stand = (refl, ([], refl, sym (append-nil stand.own)))
all_made shapes (change ∷ changes) stand = goes_bind (writes_one shapes change) (on_ok (λ done. writes_all shapes changes)) stand (Made (change ∷ []) stand) (Made (change ∷ changes) stand) (one_made shapes change stand)
    (others_made shapes change changes stand (λ s. all_made shapes changes s))

-- what only reads, behind them
still_made : {E : Type 0} (changes : List Planned) (stand s : Stand) → Made {E = E} changes stand (Ok tt) s → (came : Result (Unit {0}) E) (t : Stand) → t ≡ s → Made changes stand came t
still_made changes stand s was (Ok done) t same = (ap (λ (x : Stand). x.marks) same ∙ was.0, (was.1.0, was.1.1, ap (λ (x : Stand). x.own) same ∙ was.1.2))
still_made changes stand s was (Err why) t same = ap (λ (x : Stand). x.marks) same ∙ was.0

read_made : {E : Type 0} (changes : List Planned) (stand : Stand) (dialog : Dialog (Result (Unit {0}) E)) → Reads dialog → (came : Result (Unit {0}) E) (s : Stand) → Made changes stand came s → Goes (on_ok (λ done. dialog) came) s (Made changes stand)
read_made {E = E} changes stand dialog reads (Ok done) s was = goes_mono dialog s (λ (a : Result (Unit {0}) E) t. t ≡ s) (Made changes stand) (still_made changes stand s was) (reads s)
read_made changes stand dialog reads (Err why) s was = was

works_made : (shapes : List TableTree) (changes : List Planned) (found : List Bool) (stand : Stand) → Goes (works shapes changes found) stand (Made (as_found changes found) stand)
unfolding works
works_made shapes changes found stand =
    goes_bind (writes_all shapes (as_found changes found)) (on_ok (λ done. with_room no_room (checks_all shapes (reads_for changes shapes)))) stand (Made (as_found changes found) stand) (Made (as_found changes found) stand) (all_made shapes (as_found changes found) stand)
    (read_made (as_found changes found) stand (with_room no_room (checks_all shapes (reads_for changes shapes))) (reads_room no_room (checks_all shapes (reads_for changes shapes)) (reads_checks shapes (reads_for changes shapes))))

-- ---- the mark

any_last : (mark : ℕ) (own : List Planned) (marks : List MarkedAt) → list_any (λ (other : MarkedAt). other.mark == mark) (marks ++ record { mark = mark; own = own } ∷ []) ≡ true
any_last mark own [] = rw (eq-eqb mark mark refl) refl
any_last mark own (first ∷ marks) = by_test (first.mark == mark) (any_last mark own marks)
  where
    rest : Bool
    rest = list_any (λ (other : MarkedAt). other.mark == mark) (marks ++ record { mark = mark; own = own } ∷ [])

    by_test : (test : Bool) → rest ≡ true → test || rest ≡ true
    by_test true is = refl
    by_test false is = is

-- the writes at a mark that was made last
pub own_last : (mark : ℕ) (own : List Planned) (marks : List MarkedAt) → own_at mark (marks ++ record { mark = mark; own = own } ∷ []) ≡ own
own_last mark own [] = rw (eq-eqb mark mark refl) refl
own_last mark own (first ∷ marks) = rw (any_last mark own marks) (own_last mark own marks)

-- ---- index rows that are asked for

reads_key : (table : TableName) (key : List Value) → Reads (asks_key table key)
unfolding asks_key tries
reads_key table key stand =
    λ enough. goes_if enough (asks (ops.Fetch table (At key) (Within key) Range U) tt row_told) (row_told replies.Memory) stand (λ (a : Result Bool Refusal) s. s ≡ stand) (λ is. by_reply) (λ is. refl)
  where
    same : record stand { own = stand.own ++ [] } ≡ stand
    same = ap (λ (l : List Planned). record stand { own = l }) (append-nil stand.own)

    by_reply : Goes (asks (ops.Fetch table (At key) (Within key) Range U) tt row_told) stand (λ (a : Result Bool Refusal) s. s ≡ stand)
    by_reply (replies.Row other row at) can = same
    by_reply (replies.Gone other at) can = same
    by_reply (replies.End at) can = same
    by_reply replies.Memory can = same
    by_reply (replies.TimedOut holder held asked on) can = same
    by_reply (replies.Victim cycle) can = same
    by_reply reply can = tt

reads_keys : (changes : List Planned) (so_far : List Bool) → Reads (asks_keys changes so_far)
unfolding asks_keys
reads_keys [] so_far = λ stand. refl
reads_keys (change ∷ changes) so_far = by_asked (is_asked change) (reads_keys changes)
  where
    by_asked : (asked : Bool) → ((so_far : List Bool) → Reads (asks_keys changes so_far))
        → Reads (if asked then (asks_key change.table change.key >>= λ there. with_room Memory (asks_keys changes (so_far ++ there ∷ []))) else asks_keys changes so_far)
    by_asked true rest =
        reads_bind (asks_key change.table change.key) (λ there. with_room Memory (asks_keys changes (so_far ++ there ∷ []))) (reads_key change.table change.key)
        (λ there. reads_room Memory (asks_keys changes (so_far ++ there ∷ [])) (rest (so_far ++ there ∷ [])))
    by_asked false rest = rest so_far

-- ---- the whole

-- the changes stand behind what was written, as index rows were found, or it is as it was
abbrev pub Whole : List Planned → Stand → Result Written Refusal → Stand → Type 0
Whole plan stand result s = (more : List Planned) × ArePut result plan more × (s.own ≡ stand.own ++ more)

abbrev pub WholeAttempt : List Planned → Stand → Attempt → Stand → Type 0
WholeAttempt plan stand attempt s = Whole plan stand attempt.came s

module _ (shapes : List TableTree) (plan : List Planned) (stand : Stand) where
  abbrev set : ℕ → Stand
  set mark = record stand { marks = stand.marks ++ record { mark = mark; own = stand.own } ∷ [] }

  as_before : (mark : ℕ) (why : _) (s : Stand) → s.marks ≡ (set mark).marks → Goes (ends mark (Err why)) s (WholeAttempt plan stand)
  as_before mark why s was replies.Done can =
      by_outcome (λ (r : Result Written Refusal). (more : List Planned) × ArePut r plan more × (own_at mark s.marks ≡ stand.own ++ more)) (λ number name. ([], refl, back)) (λ refusal. ([], refl, back)) why
    where
      back : own_at mark s.marks ≡ stand.own ++ []
      back = ap (own_at mark) was ∙ own_last mark stand.own stand.marks ∙ sym (append-nil stand.own)
  as_before mark why s was (replies.Ended place) can = absurd can
  as_before mark why s was reply can = tt

  by_came : (found : List Bool) (mark : ℕ) (came : Result (Unit {0}) _) (s : Stand) → Made (as_found plan found) (set mark) came s → Goes (ends mark came) s (WholeAttempt plan stand)
  by_came found mark (Ok done) s was = (was.1.0, (found, was.1.1), was.1.2)
  by_came found mark (Err why) s was = as_before mark why s was

  by_reply : (found : List Bool) → Goes (asks ops.Mark tt (marked shapes plan found)) stand (WholeAttempt plan stand)
  by_reply found (replies.Marked mark) can =
      goes_bind (works shapes plan found) (ends mark) (set mark) (Made (as_found plan found) (set mark)) (WholeAttempt plan stand) (works_made shapes plan found (set mark)) (by_came found mark)
  by_reply found replies.Memory can = ([], refl, refl)
  by_reply found reply can = tt

  behind : (came : Result (List Bool) Refusal) → Goes (behind_keys shapes plan came) stand (WholeAttempt plan stand)
  behind (Ok found) = by_reply found
  behind (Err refusal) = ([], refl, sym (append-nil stand.own))

  attempts_go : Goes (attempts shapes plan) stand (WholeAttempt plan stand)
  unfolding attempts
  attempts_go = goes_bind (asks_keys plan []) (behind_keys shapes plan) stand (λ (came : Result (List Bool) Refusal) s. s ≡ stand) (WholeAttempt plan stand) (reads_keys plan [] stand)
      (λ came s same. subst (λ (t : Stand). Goes (behind_keys shapes plan came) t (WholeAttempt plan stand)) (sym same) (behind came))

  writes_go : Goes (writes shapes plan) stand (Whole plan stand)
  unfolding writes
  writes_go = goes_bind (attempts shapes plan) (λ attempt. over attempt.came) stand (WholeAttempt plan stand) (Whole plan stand) attempts_go (λ attempt s is. is)

-- The changes of a write stay whole or not at all.
pub writes_whole : WritesWhole
writes_whole shapes plan manner exchanges result before held = goes_held manner (writes shapes plan) before (Whole plan before) exchanges result (writes_go shapes plan before) held
