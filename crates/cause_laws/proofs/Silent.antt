-- Parts of statements that send nothing, whatever is replied: what a statement does before it runs others is such, but for the word of a transaction that it has begun unseen.
use Rattle.std.proofs.Common.{◌≡◌, refl, sym, ap, ◌∙◌, subst, ℕ, List, [], ◌∷◌, Option, Bool, true, false, Result, Ok, Err, is_ok, if◌then◌else◌}
use Rattle.std.specs.Prelude.{nat_lt}
use Rattle.tsql_tree.specs.declared.definition.Definition.{Definition}
use Rattle.tsql_tree.specs.declared.definition.TableTree.{TableTree}
use Rattle.tsql_tree.specs.declared.statement.Argument.{Argument}
use Rattle.tsql_tree.specs.declared.statement.Statement.{Statement}
use Rattle.bound_tree.specs.declared.write.Bound.{Bound}
use Rattle.bound_tree.specs.declared.write.Bound.TheVariants as bound
use Rattle.bound_tree.specs.declared.write.BoundWrite.{BoundWrite}
use Rattle.table_rows.specs.Definitions.{tables_of}
use Rattle.table_rows.specs.Rows.{shape_of}
use Rattle.dml_exec.specs.declared.refusal.Refusal.{Refusal}
use Rattle.dml_exec.specs.declared.written.Written.{Written as Came}
use Rattle.dml_exec.specs.declared.written.Written.TheVariants as written
use Rattle.dml_exec.specs.Planning.{table_written}
use Rattle.dml_exec.specs.Writing.{attempts}
use Rattle.binder.specs.Names.{looked_up}
use Rattle.tsql_tree.specs.declared.definition.TriggerTree.{TriggerTree}
use Rattle.step_model.specs.declared.change.Planned.{Planned}
use Rattle.step_model.specs.declared.op.Op.{Op}
use Rattle.step_model.specs.declared.op.Op.TheVariants as ops
use Rattle.step_model.specs.declared.reply.Reply.{Reply}
use Rattle.step_model.specs.declared.reply.Reply.TheVariants as replies
use Rattle.step_model.specs.Dialog as said
use Rattle.step_model.specs.Dialog.{Dialog}
use Rattle.step_model.specs.Exchange.{CanReply, Exchange}
use Rattle.step_model.specs.Ranges.{Rows}
use Rattle.batch_meaning.specs.declared.failure.Failure.{Failure}
use Rattle.batch_meaning.specs.declared.home.Home.{Home}
use Rattle.batch_meaning.specs.declared.home.Home.TheVariants.{Nowhere, Open, Own}
use Rattle.batch_meaning.specs.Asking.{applies, comes_to, fails, finds_by, on_ok, reads_definitions, reads_images, unless_broken, unless_refused, where_begun, where_done, where_ended, with_room, ◌>>=◌, ◌gives◌}
use Rattle.batch_meaning.specs.Calls.{Call, call_over, finds_call}
use Rattle.batch_meaning.specs.Changing.{told_by, planned_over}
use Rattle.batch_meaning.specs.Doing.{Doing, asks, defines, makes, never, over, reads, room, ◌then◌, Held}
use Rattle.batch_meaning.specs.Progress.{SessionProgress, SessionStep, asked, begins, first_progress, made, opens, sends, size_of, touches}
use Rattle.batch_meaning.specs.Raised.{Around, Fired}
use Rattle.batch_meaning.specs.Selecting.{Effect, bound_over, result_full, sending}
use Rattle.batch_meaning.specs.Tokens.{done_kind, transaction_begun}
use Rattle.batch_meaning.specs.Transactions.{begins_outermost}
use Rattle.batch_meaning.specs.Working.{asks_any, binds, closes, enters, given_in, known_by, leaves, own, prepares, relaxes, tests, tests_bound, values_bound, if_it_fits, within}
use Rattle.batch_meaning.specs.Writes.{Written, change_bound, changes, fired_by, fires_of, shape_or}
use Rattle.statement_paths.proofs.Looking.{definitions_read, finds_read}
use Rattle.statement_paths.proofs.Only.{IsTouch, Only}
use Rattle.statement_paths.proofs.Still.{Reads}
use Rattle.statement_paths.proofs.Working.{images_read, values_read}
use Rattle.statement_paths.proofs.Works.{prepares_reads}
use Rattle.cause_laws.proofs.UsualValues.{Anything}

-- ---- trees

abbrev pub IsSilent : SessionStep → Type 0
IsSilent (sends tokens) = ⊥
IsSilent (begins vars) = ⊥
IsSilent step = Unit {0}

-- it sends nothing, and comes to something of which this holds, whatever is replied
abbrev pub Silent : {A : Type 0} → (A → Type 0) → Doing A → Type 0
Silent P (over a) = P a
Silent P (reads look) = (p : SessionProgress) → Silent P (look p)
Silent P (makes step next) = IsSilent step × Silent P next
Silent P (defines entry go) = (found : Option Definition) → Silent P (go found)
Silent P (asks op go) = (reply : Reply) → CanReply op reply → Silent P (go reply)
Silent P (room go) = (enough : Bool) → Silent P (go enough)
Silent P never = Unit {0}

silent_step : (step : SessionStep) (p : SessionProgress) → IsSilent step → (made step p).tokens ≡ p.tokens
silent_step (sends tokens) p silent = absurd silent
silent_step (begins vars) p silent = absurd silent
silent_step step p silent = refl

pub held_silent : {A : Type 0} (P : A → Type 0) (tree : Doing A) (p new : SessionProgress) (exchanges : List Exchange) (a : A) → Silent P tree → Held tree p exchanges a new → P a × (new.tokens ≡ p.tokens)
unfolding Held
held_silent P (over c) p new exchanges a silent held = (subst P (sym held.1) silent, ap (λ (q : SessionProgress). q.tokens) held.2)
held_silent P (reads look) p new exchanges a silent held = held_silent P (look p) p new exchanges a (silent p) held
held_silent P (makes step next) p new exchanges a silent held =
    let more = held_silent P next (made step p) new exchanges a silent.1 held in (more.0, more.1 ∙ silent_step step p silent.0)
held_silent P (defines entry go) p new exchanges a silent held = held_silent P (go held.0) p new exchanges a (silent held.0) held.2
held_silent P (asks op go) p new [] a silent held = absurd held
held_silent P (asks op go) p new (x ∷ later) a silent held =
    held_silent P (go x.reply) (asked op x.reply p) new later a (silent x.reply held.2) held.3
held_silent P (room go) p new exchanges a silent held = held_silent P (go held.0) p new exchanges a (silent held.0) held.1
held_silent P never p new exchanges a silent held = absurd held

-- ---- one tree behind another

pub silent_then : {A B : Type 0} (P : A → Type 0) (Q : B → Type 0) (tree : Doing A) (go : A → Doing B) → Silent P tree → ((a : A) → P a → Silent Q (go a)) → Silent Q (tree then go)
unfolding ◌then◌
silent_then P Q (over a) go silent more = more a silent
silent_then P Q (reads look) go silent more = λ p. silent_then P Q (look p) go (silent p) more
silent_then P Q (makes step next) go silent more = (silent.0, silent_then P Q next go silent.1 more)
silent_then P Q (defines entry next) go silent more = λ found. silent_then P Q (next found) go (silent found) more
silent_then P Q (asks op next) go silent more = λ reply can. silent_then P Q (next reply) go (silent reply can) more
silent_then P Q (room next) go silent more = λ enough. silent_then P Q (next enough) go (silent enough) more
silent_then P Q never go silent more = tt

pub silent_if : {A : Type 0} (P : A → Type 0) (test : Bool) (first other : Doing A) → Silent P first → Silent P other → Silent P (if test then first else other)
silent_if P true first other one two = one
silent_if P false first other one two = two

-- something of which this holds, or a failure
abbrev pub OkIs : {A : Type 0} → (A → Type 0) → Result A Failure → Type 0
OkIs P (Ok a) = P a
OkIs P (Err failure) = Unit {0}

pub silent_bind : {A B : Type 0} (P : A → Type 0) (Q : B → Type 0) (tree : Doing (Result A Failure)) (go : A → Doing (Result B Failure)) → Silent (OkIs P) tree → ((a : A) → P a → Silent (OkIs Q) (go a)) → Silent (OkIs Q) (tree >>= go)
silent_bind {A = A} {B = B} P Q tree go silent more = silent_then (OkIs P) (OkIs Q) tree (on_ok go) silent by_came
  where
    by_came : (came : Result A Failure) → OkIs P came → Silent (OkIs Q) (on_ok go came)
    by_came (Ok a) is = more a is
    by_came (Err failure) is = tt

pub silent_room : {A : Type 0} (P : A → Type 0) (tree : Doing (Result A Failure)) → Silent (OkIs P) tree → Silent (OkIs P) (with_room tree)
silent_room P tree silent = λ enough. silent_if (OkIs P) enough tree (fails _) silent tt

pub silent_comes : {A : Type 0} (P : A → Type 0) (came : Result A Failure) → OkIs P came → Silent (OkIs P) (comes_to came)
silent_comes P came is = silent_room P (over came) is

ok_any : {A : Type 0} (came : Result A Failure) → OkIs {A = A} Anything came
ok_any (Ok a) = tt
ok_any (Err failure) = tt

-- what reads alone, and what works
silent_only : {A : Type 0} (Steps : SessionStep → Type 0) (Ops : Op → Type 0) → ((step : SessionStep) → Steps step → IsSilent step) → (tree : Doing (Result A Failure)) → Only Steps Ops tree → Silent (OkIs {A = A} Anything) tree
silent_only {A = A} Steps Ops such tree only = by_tree tree only
  where
    by_tree : (tree : Doing (Result A Failure)) → Only Steps Ops tree → Silent (OkIs {A = A} Anything) tree
    by_tree (over came) only = ok_any came
    by_tree (reads look) only = λ p. by_tree (look p) (only p)
    by_tree (makes step next) only = (such step only.0, by_tree next only.1)
    by_tree (defines entry go) only = λ found. by_tree (go found) (only found)
    by_tree (asks op go) only = λ reply can. by_tree (go reply) (only.1 reply can)
    by_tree (room go) only = λ enough. by_tree (go enough) (only enough)
    by_tree never only = tt

touch_silent : (step : SessionStep) → IsTouch step → IsSilent step
touch_silent touches is = tt
touch_silent step is = absurd is

silent_reads : {A : Type 0} (tree : Doing (Result A Failure)) → Reads tree → Silent (OkIs {A = A} Anything) tree
silent_reads tree only = silent_only _ _ touch_silent tree only

-- dialogs
silent_gives : {A B : Type 0} (P : B → Type 0) (dialog : Dialog A) (go : A → Doing B) → ((a : A) → Silent P (go a)) → Silent P (dialog gives go)
unfolding ◌gives◌
silent_gives P (said.over a) go more = more a
silent_gives P (said.asks op quiet next) go more = λ reply can. silent_gives P (next reply) go more
silent_gives P (said.room next) go more = λ enough. silent_gives P (next enough) go more
silent_gives P said.never go more = tt

silent_applies : (shapes : List TableTree) (planned : List Planned) → Silent (OkIs {A = ℕ} Anything) (applies shapes planned)
unfolding applies
silent_applies shapes planned = (tt, silent_gives (OkIs {A = ℕ} Anything) (attempts shapes planned) (λ attempt. unless_broken attempt.came) (λ attempt. by_came attempt.came))
  where
    by_came : (came : Result Came Refusal) → Silent (OkIs {A = ℕ} Anything) (unless_broken came)
    by_came (Ok (written.Done mark)) = tt
    by_came (Ok (written.Refused number name)) = tt
    by_came (Err why) = tt

-- ---- its own transaction

silent_done : {A : Type 0} (P : A → Type 0) (next : Doing A) → Silent P next → (reply : Reply) → Silent P (where_done next reply)
silent_done P next silent replies.Done = silent
silent_done P next silent reply = tt

silent_ended : {A : Type 0} (P : A → Type 0) (next : Doing A) → Silent P next → (reply : Reply) → Silent P (where_ended next reply)
silent_ended P next silent (replies.Ended place) = silent
silent_ended P next silent reply = tt

pub silent_relaxes : Silent Anything relaxes
unfolding relaxes
silent_relaxes = λ p. silent_if Anything p.touched (asks ops.Relax (where_done (over tt))) (over tt) (λ reply can. silent_done Anything (over tt) tt reply) tt

silent_closes : (succeeded : Bool) → Silent Anything (closes succeeded)
unfolding closes
silent_closes true = λ reply can. silent_ended Anything (over tt) tt reply
silent_closes false = λ reply can. silent_ended Anything (over tt) tt reply

silent_leaves : (home : Home) (succeeded : Bool) → Silent Anything (leaves home succeeded)
unfolding leaves
silent_leaves Nowhere succeeded = tt
silent_leaves Open succeeded = silent_relaxes
silent_leaves Own succeeded = silent_then Anything Anything relaxes (λ done. closes succeeded) silent_relaxes (λ done any. silent_closes succeeded)

pub silent_enters : (asking : Bool) → Silent (OkIs {A = Home} Anything) (enters asking)
unfolding enters
silent_enters false = tt
silent_enters true = λ p. silent_if (OkIs {A = Home} Anything) p.is_open (over (Ok Open)) (asks ops.Begin (unless_refused (where_begun (over (Ok Own))))) tt (λ reply can. by_reply reply)
  where
    by_reply : (reply : Reply) → Silent (OkIs {A = Home} Anything) (unless_refused (where_begun (over (Ok Own))) reply)
    by_reply replies.Memory = tt
    by_reply (replies.TimedOut holder held wanted on) = tt
    by_reply (replies.Victim cycle) = tt
    by_reply replies.Began = tt
    by_reply reply = tt

silent_own : {A : Type 0} (asking : Bool) (work : Doing (Result A Failure)) → Silent (OkIs {A = A} Anything) work → Silent (OkIs {A = A} Anything) (own asking work)
unfolding own
silent_own {A = A} asking work silent = silent_bind {A = Home} {B = A} Anything Anything (enters asking) (λ home. work then λ came. leaves home (is_ok came) then λ done. over came) (silent_enters asking)
    (λ home any. silent_then (OkIs {A = A} Anything) (OkIs {A = A} Anything) work (λ came. leaves home (is_ok came) then λ done. over came) silent
    (λ came is. silent_then Anything (OkIs {A = A} Anything) (leaves home (is_ok came)) (λ done. over came) (silent_leaves home (is_ok came)) (λ done some. is)))

-- ---- a transaction that is begun unseen

-- what it tells is a word of that alone
pub silent_outermost : (P : Effect → Type 0) (name : Option (List ℕ)) (serial : ℕ) → P (sending (transaction_begun serial ∷ [])) → Silent (OkIs P) (begins_outermost name serial)
unfolding begins_outermost
silent_outermost P name serial is = λ p. silent_if (OkIs P) (nat_lt p.bytes_left (size_of (transaction_begun serial ∷ []))) (fails result_full) (with_room (asks ops.Begin (unless_refused (where_begun begun)))) tt
    (silent_room P (asks ops.Begin (unless_refused (where_begun begun))) (λ reply can. by_reply reply))
  where
    begun : Doing (Result Effect Failure)
    begun = makes (opens name) (over (Ok (sending (transaction_begun serial ∷ []))))

    by_reply : (reply : Reply) → Silent (OkIs P) (unless_refused (where_begun begun) reply)
    by_reply replies.Memory = tt
    by_reply (replies.TimedOut holder held wanted on) = tt
    by_reply (replies.Victim cycle) = tt
    by_reply replies.Began = (tt, is)
    by_reply reply = tt

-- ---- before IF, WHILE and EXEC run others

pub silent_tests : (around : Around) (statement : Statement) → Silent (OkIs {A = Bool} Anything) (tests around statement)
unfolding tests tests_bound within binds
silent_tests around statement = silent_room {A = Bool} Anything _ (silent_own {A = Bool} (asks_any (known_by around statement) (looked_up statement)) _
    (silent_bind {A = List TableTree × Bound} {B = Bool} Anything Anything (prepares around statement) _ (silent_reads (prepares around statement) (prepares_reads around statement))
    (λ made any. silent_bind {A = Rows} {B = Bool} Anything Anything (values_bound around made.0 made.1) _ (silent_reads (values_bound around made.0 made.1) (values_read around first_progress made.0 made.1)) (λ rows some. tt))))

pub silent_call : (around : Around) (statement : Statement) (status : Option (List ℕ)) (name : List ℕ) (arguments : List Argument) → Silent (OkIs {A = Call} Anything) (finds_call around statement status name arguments)
unfolding finds_call
silent_call around statement status name arguments = silent_room {A = Call} Anything _ (silent_own {A = Call} (asks_any (known_by around statement) (name ∷ [])) _
    (silent_bind {A = Option Definition} {B = Call} Anything Anything (finds_by (known_by around statement name) name) _ (silent_reads (finds_by (known_by around statement name) name) (finds_read (known_by around statement name) name))
    (λ found any. silent_bind {A = Bound} {B = Call} Anything Anything (reads λ p. comes_to (bound_over [] p.vars statement)) _ (λ p. silent_comes {A = Bound} Anything (bound_over [] p.vars statement) (ok_any (bound_over [] p.vars statement)))
    (λ of some p. silent_comes {A = Call} Anything (call_over around status name arguments p.vars found) (ok_any (call_over around status name arguments p.vars found))))))

-- ---- before a write fires triggers

-- what it tells is a DONE alone
module _ (Other : Effect → Type 0) (around : Around) (told_other : (p : SessionProgress) (write : BoundWrite) (planned : List Planned) → Other (told_by (done_kind around) p.settings.no_count write planned)) where
  abbrev pub WrittenSuch : Written → Type 0
  WrittenSuch w = Other w.effect

  silent_changes : (shape : TableTree) (shapes : List TableTree) (write : BoundWrite) → Silent (OkIs WrittenSuch) (changes around shape shapes write)
  unfolding changes if_it_fits
  silent_changes shape shapes write =
      silent_bind {A = List Definition} Anything WrittenSuch reads_definitions _ (silent_reads reads_definitions definitions_read) (λ definitions any.
      silent_bind {A = List Rows} Anything WrittenSuch (reads_images (given_in around.fired) (shape ∷ shapes) (bound.Write write)) _ (silent_reads (reads_images (given_in around.fired) (shape ∷ shapes) (bound.Write write)) (images_read (given_in around.fired) (shape ∷ shapes) (bound.Write write))) (λ images any.
      silent_bind {A = List Planned} Anything WrittenSuch (reads λ p. comes_to (planned_over around p (shape ∷ shapes) write images)) _ (λ p. silent_comes {A = List Planned} Anything (planned_over around p (shape ∷ shapes) write images) (ok_any (planned_over around p (shape ∷ shapes) write images))) (λ planned any.
      silent_bind Other WrittenSuch (reads λ p. comes_to (Ok (told_by (done_kind around) p.settings.no_count write planned))) _ (λ p. silent_comes Other (Ok (told_by (done_kind around) p.settings.no_count write planned)) (told_other p write planned)) (λ effect other.
      silent_bind Other WrittenSuch (reads λ p. if nat_lt p.bytes_left (size_of effect.tokens) then fails result_full else over (Ok effect)) _ (λ p. silent_if (OkIs Other) (nat_lt p.bytes_left (size_of effect.tokens)) (fails result_full) (over (Ok effect)) tt other) (λ fitting fits.
      silent_bind {A = List TriggerTree} Anything WrittenSuch (comes_to (Ok (fires_of around definitions write))) _ (silent_comes {A = List TriggerTree} Anything (Ok (fires_of around definitions write)) tt) (λ fires any.
      silent_bind {A = Fired} Anything WrittenSuch (comes_to (Ok (fired_by (shape_or shape (shape_of (table_written write) (shape ∷ shapes))) write images planned))) _ (silent_comes {A = Fired} Anything (Ok (fired_by (shape_or shape (shape_of (table_written write) (shape ∷ shapes))) write images planned)) tt) (λ fired any.
      silent_bind {A = ℕ} Anything WrittenSuch (with_room (applies (tables_of definitions) planned)) _ (silent_room {A = ℕ} Anything (applies (tables_of definitions) planned) (silent_applies (tables_of definitions) planned)) (λ mark any. fits))))))))

  silent_change : (shapes : List TableTree) (of : Bound) → Silent (OkIs WrittenSuch) (change_bound around shapes of)
  silent_change [] of = tt
  silent_change (shape ∷ shapes) (bound.Write write) = silent_changes shape shapes write
  silent_change (shape ∷ shapes) (bound.Query query) = tt
  silent_change (shape ∷ shapes) (bound.Assign query places) = tt
  silent_change (shape ∷ shapes) bound.Plain = tt

  pub silent_binds : (statement : Statement) → Silent (OkIs WrittenSuch) (binds around statement (change_bound around))
  unfolding binds
  silent_binds statement = silent_bind {A = List TableTree × Bound} Anything WrittenSuch (prepares around statement) (λ made. change_bound around made.0 made.1) (silent_reads (prepares around statement) (prepares_reads around statement)) (λ made any. silent_change made.0 made.1)
