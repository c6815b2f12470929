-- What a statement asks begins no statement: so many may still begin behind it as before.
use Rattle.std.proofs.Common.{◌≡◌, ℕ, zero, suc, ℤ, Bool, true, false, if◌then◌else◌, is_ok, inl, inr, List, [], ◌∷◌, Option, None, Some, Result, Ok, Err, refl, ap, ◌∙◌}
use Rattle.value_types.specs.declared.memory.Memory.{Memory}
use Rattle.value_types.specs.declared.value.Value.{Value}
use Rattle.tsql_tree.specs.declared.definition.Definition.{Definition}
use Rattle.tsql_tree.specs.declared.definition.Definition.TheVariants.{Table, Procedure, Trigger}
use Rattle.tsql_tree.specs.declared.definition.TableTree.{TableTree}
use Rattle.tsql_tree.specs.declared.query.Select.{Select}
use Rattle.tsql_tree.specs.declared.statement.DropKind.{DropKind}
use Rattle.tsql_tree.specs.declared.statement.DropKind.TheVariants as drop
use Rattle.tsql_tree.specs.declared.statement.Form.{Form-F}
use Rattle.tsql_tree.specs.declared.statement.Statement.{Statement}
use Rattle.bound_tree.specs.declared.query.BoundQuery.{BoundQuery}
use Rattle.bound_tree.specs.declared.write.Bound.{Bound}
use Rattle.bound_tree.specs.declared.write.Bound.TheVariants as bound
use Rattle.bound_tree.specs.declared.write.BoundWrite.{BoundWrite}
use Rattle.binder.specs.Names.{Layer, form_of, looked_up}
use Rattle.binder.specs.Statements.{is_maybe_long}
use Rattle.table_rows.specs.Definitions.{is_objects}
use Rattle.step_model.specs.declared.change.Planned.{Planned}
use Rattle.step_model.specs.declared.op.Op.{Op}
use Rattle.step_model.specs.declared.range.Start.{Start}
use Rattle.step_model.specs.declared.reply.Reply.{Reply}
use Rattle.step_model.specs.declared.reply.Reply.TheVariants as replies
use Rattle.step_model.specs.Dialog as said
use Rattle.step_model.specs.Dialog.{Dialog}
use Rattle.step_model.specs.Exchange.{Exchange}
use Rattle.step_model.specs.Port.{PortPast}
use Rattle.dml_exec.specs.Reading.{GivenRows}
use Rattle.dml_exec.specs.declared.refusal.Level.{Level}
use Rattle.dml_exec.specs.declared.refusal.Refusal.{Refusal}
use Rattle.dml_exec.specs.declared.written.Written.{Written}
use Rattle.dml_exec.specs.declared.written.Written.TheVariants as written
use Rattle.session_cursors.specs.declared.fault.CursorFault.{CursorFault}
use Rattle.session_cursors.specs.declared.fault.CursorFault.TheVariants.{NoSuch, Present, AlreadyFilled, NotFilled}
use Rattle.session_cursors.specs.declared.fault.CursorFault.TheVariants.{Memory as CursorMemory}
use Rattle.session_cursors.specs.Cursors as list
use Rattle.txn_rules.specs.declared.state.BackKind.{BackKind}
use Rattle.txn_rules.specs.declared.state.BackKind.TheVariants.{Mark, Whole}
use Rattle.tds_tokens.specs.declared.token.Token.{Token}
use Rattle.batch_meaning.specs.declared.failure.Failure.{Failure}
use Rattle.batch_meaning.specs.declared.home.Home.{Home}
use Rattle.batch_meaning.specs.declared.home.Home.TheVariants.{Nowhere, Open, Own}
use Rattle.batch_meaning.specs.declared.raised.Raised.{Raised}
use Rattle.batch_meaning.specs.Raised.{Around}
use Rattle.batch_meaning.specs.Values.{Assigned}
use Rattle.batch_meaning.specs.Selecting.{Effect}
use Rattle.batch_meaning.specs.Progress.{SessionProgress, SessionStep, begins, counts, made, values_of}
use Rattle.batch_meaning.specs.Doing.{Doing, over, reads, makes, defines, asks, room, never, ◌then◌, Held, Left, Did}
use Rattle.batch_meaning.specs.Asking.{KnownNames, ◌>>=◌, ◌gives◌, applies, assigns_all, defined_by, defined_from, defined_on, fails_naming, finds_by, holds, if_bytes_left, is_table, known, look_up, looks_up, marked, on_ok, reads_at, reads_definitions, reads_images, takes_back, touches_if, unless_broken, unless_refused, unless_stopped, where_begun, where_done, where_ended, with_found, with_room}
use Rattle.batch_meaning.specs.Working.{answers, assigns_rows, asks_any, binds, closes, composes, composes_bound, computes, enters, given_in, if_it_fits, known_by, leaves, own, prepares, relaxes, select_bound, selects, selects_into, status_bound, statuses, tests, tests_bound, values_bound, within, works, works_bound}
use Rattle.batch_meaning.specs.Writes.{change_bound, changes, creates, creates_definition, creates_table, drops, drops_definition, drops_found, drops_table, inserted, puts_definition, unless_objects, where_table}
use Rattle.batch_meaning.specs.Cursors.{answered, fails_for_cursor, fills_with, opens_bound, opens_cursor, opens_kept}
use Rattle.batch_meaning.specs.Transactions.{begins_outermost, begins_over, begins_transaction, bound_first, commits_by, commits_transaction, goes_back, named_first, rolls_back_to, rolls_back_transaction, rolls_back_whole, saves_transaction, saves_unless}

-- a step that leaves how many statements may begin
abbrev pub IsPlain : SessionStep → Type 0
IsPlain (begins vars) = ⊥
IsPlain counts = ⊥
IsPlain step = Unit {0}

-- all steps of it are
unfoldable pub BeginsNone : {A : Type 0} → Doing A → Type 0
BeginsNone (over a) = Unit {0}
BeginsNone (reads look) = (p : SessionProgress) → BeginsNone (look p)
BeginsNone (makes step next) = IsPlain step × BeginsNone next
BeginsNone (defines entry go) = (found : Option Definition) → BeginsNone (go found)
BeginsNone (asks op go) = (reply : Reply) → BeginsNone (go reply)
BeginsNone (room go) = (enough : Bool) → BeginsNone (go enough)
BeginsNone never = Unit {0}

-- ---- what was done

pub step_left : (step : SessionStep) (p : SessionProgress) → IsPlain step → (made step p).statements_left ≡ p.statements_left
step_left (begins vars) p plain = absurd plain
step_left counts p plain = absurd plain
step_left step p plain = refl

pub held_none : {A : Type 0} (tree : Doing A) (p new : SessionProgress) (exchanges : List Exchange) (result : A) → BeginsNone tree → Held tree p exchanges result new → new.statements_left ≡ p.statements_left
unfolding Held BeginsNone
held_none (over a) p new exchanges result none held = ap (λ (q : SessionProgress). q.statements_left) held.2
held_none (reads look) p new exchanges result none held = held_none (look p) p new exchanges result (none p) held
held_none (makes step next) p new exchanges result none held = held_none next (made step p) new exchanges result none.1 held ∙ step_left step p none.0
held_none (defines entry go) p new exchanges result none held = held_none (go held.0) p new exchanges result (none held.0) held.2
held_none (asks op go) p new [] result none held = absurd held
held_none (asks op go) p new (x ∷ later) result none held = held_none (go x.reply) _ new later result (none x.reply) held.3
held_none (room go) p new exchanges result none held = held_none (go held.0) p new exchanges result (none held.0) held.1
held_none never p new exchanges result none held = absurd held

pub left_none : {A : Type 0} (tree : Doing A) (p new : SessionProgress) (exchanges : List Exchange) → BeginsNone tree → Left tree p exchanges new → new.statements_left ≡ p.statements_left
unfolding Left BeginsNone
left_none (over a) p new exchanges none left = ap (λ (q : SessionProgress). q.statements_left) left.1
left_none (reads look) p new exchanges none left = left_none (look p) p new exchanges (none p) left
left_none (makes step next) p new exchanges none (inl here) = ap (λ (q : SessionProgress). q.statements_left) here.1
left_none (makes step next) p new exchanges none (inr later) = left_none next (made step p) new exchanges none.1 later ∙ step_left step p none.0
left_none (defines entry go) p new exchanges none (inl here) = ap (λ (q : SessionProgress). q.statements_left) here.1
left_none (defines entry go) p new exchanges none (inr later) = left_none (go later.0) p new exchanges (none later.0) later.2
left_none (asks op go) p new [] none left = ap (λ (q : SessionProgress). q.statements_left) left
left_none (asks op go) p new (x ∷ later) none left = left_none (go x.reply) _ new later (none x.reply) left.3
left_none (room go) p new exchanges none left = left_none (go left.0) p new exchanges (none left.0) left.1
left_none never p new exchanges none left = ap (λ (q : SessionProgress). q.statements_left) left.1

pub did_none : {before after : PortPast} {A : Type 0} (tree : Doing A) {p new : SessionProgress} {result : Result A Memory} → BeginsNone tree → Did before after tree p result new → new.statements_left ≡ p.statements_left
did_none tree {p = p} {new = new} {result = Ok a} none did = held_none tree p new did.exchanges a none did.came
did_none tree {p = p} {new = new} {result = Err memory} none did = left_none tree p new did.exchanges none did.came

-- ---- from its parts

pub none_over : {A : Type 0} (a : A) → BeginsNone (over a)
unfolding BeginsNone
none_over a = tt

pub none_never : (A : Type 0) → BeginsNone {A = A} never
unfolding BeginsNone
none_never A = tt

pub none_reads : {A : Type 0} (look : SessionProgress → Doing A) → ((p : SessionProgress) → BeginsNone (look p)) → BeginsNone (reads look)
unfolding BeginsNone
none_reads look none = none

pub none_makes : {A : Type 0} (step : SessionStep) (next : Doing A) → IsPlain step → BeginsNone next → BeginsNone (makes step next)
unfolding BeginsNone
none_makes step next plain none = (plain, none)

pub none_defines : {A : Type 0} (entry : List Value × List Value) (go : Option Definition → Doing A) → ((found : Option Definition) → BeginsNone (go found)) → BeginsNone (defines entry go)
unfolding BeginsNone
none_defines entry go none = none

pub none_asks : {A : Type 0} (op : Op) (go : Reply → Doing A) → ((reply : Reply) → BeginsNone (go reply)) → BeginsNone (asks op go)
unfolding BeginsNone
none_asks op go none = none

pub none_if : {A : Type 0} (test : Bool) (first other : Doing A) → BeginsNone first → BeginsNone other → BeginsNone (if test then first else other)
none_if true first other one two = one
none_if false first other one two = two

pub none_room : {A : Type 0} (go : Bool → Doing A) → ((enough : Bool) → BeginsNone (go enough)) → BeginsNone (room go)
unfolding BeginsNone
none_room go none = none

pub none_roomed : {A : Type 0} (tree : Doing (Result A Failure)) → BeginsNone tree → BeginsNone (with_room tree)
none_roomed tree none = none_room _ (λ enough. none_if enough tree _ none (none_over _))

pub none_then : {A B : Type 0} (tree : Doing A) (go : A → Doing B) → BeginsNone tree → ((a : A) → BeginsNone (go a)) → BeginsNone (tree then go)
unfolding BeginsNone ◌then◌
none_then (over a) go none more = more a
none_then (reads look) go none more = λ p. none_then (look p) go (none p) more
none_then (makes step next) go none more = (none.0, none_then next go none.1 more)
none_then (defines entry next) go none more = λ found. none_then (next found) go (none found) more
none_then (asks op next) go none more = λ reply. none_then (next reply) go (none reply) more
none_then (room next) go none more = λ enough. none_then (next enough) go (none enough) more
none_then never go none more = tt

pub none_on : {A B : Type 0} (go : A → Doing (Result B Failure)) → ((a : A) → BeginsNone (go a)) → (came : Result A Failure) → BeginsNone (on_ok go came)
none_on go none (Ok a) = none a
none_on go none (Err failure) = none_over (Err failure)

pub none_bind : {A B : Type 0} (tree : Doing (Result A Failure)) (go : A → Doing (Result B Failure)) → BeginsNone tree → ((a : A) → BeginsNone (go a)) → BeginsNone (tree >>= go)
none_bind tree go none more = none_then tree (on_ok go) none (none_on go more)

pub none_gives : {A B : Type 0} (dialog : Dialog A) (go : A → Doing B) → ((a : A) → BeginsNone (go a)) → BeginsNone (dialog gives go)
unfolding BeginsNone ◌gives◌
none_gives (said.over a) go more = more a
none_gives (said.asks op quiet next) go more = λ reply. none_gives (next reply) go more
none_gives (said.room next) go more = λ enough. none_gives (next enough) go more
none_gives said.never go more = tt

pub none_holds : {A B : Type 0} (dialog : Dialog A) (go : A → Doing B) → ((a : A) → BeginsNone (go a)) → BeginsNone (holds dialog go)
none_holds dialog go more = none_makes _ _ tt (none_gives dialog go more)

-- ---- replies

module _ {A : Type 0} where
  pub none_refused : (go : Reply → Doing (Result A Failure)) → ((reply : Reply) → BeginsNone (go reply)) → (reply : Reply) → BeginsNone (unless_refused go reply)
  none_refused go none replies.Memory = none_over _
  none_refused go none (replies.TimedOut holder held wanted on) = none_over _
  none_refused go none (replies.Victim cycle) = none_over _
  none_refused go none reply = none reply

  pub none_done : (next : Doing A) → BeginsNone next → (reply : Reply) → BeginsNone (where_done next reply)
  none_done next none replies.Done = none
  none_done next none reply = none_never _

  pub none_ended : (next : Doing A) → BeginsNone next → (reply : Reply) → BeginsNone (where_ended next reply)
  none_ended next none (replies.Ended place) = none
  none_ended next none reply = none_never _

  pub none_begun : (next : Doing (Result A Failure)) → BeginsNone next → (reply : Reply) → BeginsNone (where_begun next reply)
  none_begun next none replies.Began = none
  none_begun next none reply = none_never _

  pub none_marked : (next : ℕ → Doing (Result A Failure)) → ((mark : ℕ) → BeginsNone (next mark)) → (reply : Reply) → BeginsNone (marked next reply)
  none_marked next none (replies.Marked mark) = none mark
  none_marked next none reply = none_never _

  pub none_afforded : (tokens : List Token) (next : Doing (Result A Failure)) → BeginsNone next → BeginsNone (if_bytes_left tokens next)
  none_afforded tokens next none = none_reads _ (λ p. none_if _ _ next (none_over _) none)

  pub none_assigns : (sets : List Assigned) (next : Doing A) → BeginsNone next → BeginsNone (assigns_all sets next)
  unfolding assigns_all
  none_assigns [] next none = none
  none_assigns (one ∷ rest) next none = none_makes _ _ tt (none_assigns rest next none)

pub none_naming : (A : Type 0) (number : ℕ) (name : List ℕ) → BeginsNone (fails_naming {A = A} number name)
none_naming A number name = none_room _ (λ enough. none_if enough _ _ (none_over _) (none_over _))

-- what wants memory for its result, by the progress
pub none_comes : {A : Type 0} (of : SessionProgress → Result A Failure) → BeginsNone (reads λ p. with_room (over (of p)))
none_comes of = none_reads _ (λ p. none_roomed _ (none_over _))

pub none_made : {A : Type 0} (result : Result A Failure) → BeginsNone (with_room (over result))
none_made result = none_roomed _ (none_over _)

-- ---- look-ups

pub none_known : (reply : Reply) → BeginsNone (known reply)
none_known (replies.Row key row at) = none_roomed _ (none_defines (key, row) _ (λ found. none_over _))
none_known (replies.Gone key at) = none_over _
none_known (replies.End at) = none_over _
none_known reply = none_never _

pub none_look_up : (name : List ℕ) → BeginsNone (look_up name)
unfolding look_up
none_look_up name = none_if (is_objects name) _ _ (none_over _) (none_roomed _ (none_asks _ _ (none_refused known none_known)))

pub none_finds_by : (known : Option (Option Definition)) (name : List ℕ) → BeginsNone (finds_by known name)
none_finds_by None name = none_look_up name
none_finds_by (Some found) name = none_made _

pub none_looks_up : (known_names : KnownNames) (definitions : List Definition) (names : List (List ℕ)) → BeginsNone (looks_up known_names definitions names)
unfolding looks_up
none_looks_up known_names definitions [] = none_over _
none_looks_up known_names definitions (name ∷ names) = none_bind (finds_by (known_names name) name) _ (none_finds_by (known_names name) name) (λ found. none_if (is_table found) _ _ (none_roomed _ (none_looks_up known_names (with_found definitions found) names)) (none_over _))

pub none_defined_by : (so_far : List Definition) (reply : Reply) → BeginsNone (defined_by so_far reply)
none_defined_by so_far (replies.Row key row at) = none_roomed _ (none_defines (key, row) _ (λ found. none_made _))
none_defined_by so_far (replies.Gone key at) = none_over _
none_defined_by so_far (replies.End at) = none_over _
none_defined_by so_far reply = none_never _

pub none_defined_on : (next : List Definition → List Value → Doing (Result (List Definition) Failure)) → ((more : List Definition) (key : List Value) → BeginsNone (next more key)) → (came : List Definition × Option (List Value)) → BeginsNone (defined_on next came)
none_defined_on next none (so_far, None) = none_over _
none_defined_on next none (so_far, Some key) = none so_far key

pub none_defined_from : (left : ℕ) (start : Start) (so_far : List Definition) → BeginsNone (defined_from left start so_far)
unfolding defined_from
none_defined_from zero start so_far = none_over _
none_defined_from (suc left) start so_far = none_bind (asks _ (unless_refused (defined_by so_far))) _ (none_asks _ _ (none_refused (defined_by so_far) (none_defined_by so_far))) (none_defined_on _ (λ more key. none_defined_from left _ more))

pub none_definitions : BeginsNone reads_definitions
unfolding reads_definitions
none_definitions = none_roomed _ (none_defined_from _ _ [])

-- ---- dialogs

pub none_stopped : {A : Type 0} (came : Result A Refusal) → BeginsNone (unless_stopped came)
none_stopped (Ok a) = none_over _
none_stopped (Err why) = none_over _

pub none_broken : (came : Result Written Refusal) → BeginsNone (unless_broken came)
none_broken (Ok (written.Done mark)) = none_over _
none_broken (Ok (written.Refused number name)) = none_over _
none_broken (Err why) = none_over _

pub none_touches : {A : Type 0} (test : Bool) (tree : Doing A) → BeginsNone tree → BeginsNone (touches_if test tree)
none_touches true tree none = none_makes _ _ tt none
none_touches false tree none = none

pub none_reads_at : (given : GivenRows) (level : Level) (vars : List Value) (shapes : List TableTree) (of : Bound) → BeginsNone (reads_at given level vars shapes of)
unfolding reads_at
none_reads_at given level vars [] of = none_over _
none_reads_at given level vars (shape ∷ shapes) of = none_touches _ _ (none_gives _ unless_stopped none_stopped)

pub none_images : (given : GivenRows) (shapes : List TableTree) (of : Bound) → BeginsNone (reads_images given shapes of)
unfolding reads_images
none_images given shapes of = none_reads _ (λ p. none_reads_at given p.settings.level (values_of p.vars) shapes of)

pub none_applies : (shapes : List TableTree) (changes : List Planned) → BeginsNone (applies shapes changes)
unfolding applies
none_applies shapes changes = none_holds _ _ (λ attempt. none_broken attempt.came)

-- ---- own transactions

pub none_relaxes : BeginsNone relaxes
unfolding relaxes
none_relaxes = none_reads _ (λ p. none_if p.touched _ _ (none_asks _ _ (none_done _ (none_over tt))) (none_over tt))

pub none_closes : (succeeded : Bool) → BeginsNone (closes succeeded)
unfolding closes
none_closes true = none_asks _ _ (none_ended _ (none_over tt))
none_closes false = none_asks _ _ (none_ended _ (none_over tt))

pub none_enters : (asks_any : Bool) → BeginsNone (enters asks_any)
unfolding enters
none_enters true = none_reads _ (λ p. none_if p.is_open _ _ (none_over _) (none_asks _ _ (none_refused _ (none_begun _ (none_over _)))))
none_enters false = none_over _

pub none_leaves : (home : Home) (succeeded : Bool) → BeginsNone (leaves home succeeded)
unfolding leaves
none_leaves Nowhere succeeded = none_over tt
none_leaves Open succeeded = none_relaxes
none_leaves Own succeeded = none_then relaxes _ none_relaxes (λ done. none_closes succeeded)

pub none_own : {A : Type 0} (asks_any : Bool) (work : Doing (Result A Failure)) → BeginsNone work → BeginsNone (own asks_any work)
unfolding own
none_own asks_any work none = none_bind (enters asks_any) _ (none_enters asks_any) (λ home. none_then work _ none (λ came. none_then (leaves home (is_ok came)) _ (none_leaves home (is_ok came)) (λ done. none_over came)))

pub none_prepares : (around : Around) (statement : Statement) → BeginsNone (prepares around statement)
unfolding prepares
none_prepares around statement = none_bind (looks_up (known_by around statement) [] (looked_up statement)) _ (none_looks_up (known_by around statement) [] (looked_up statement)) (λ definitions. none_bind _ _ (none_comes _) (λ of. none_made _))

pub none_binds : {A : Type 0} (around : Around) (statement : Statement) (go : List TableTree → Bound → Doing (Result A Failure)) → ((shapes : List TableTree) (of : Bound) → BeginsNone (go shapes of)) → BeginsNone (binds around statement go)
unfolding binds
none_binds around statement go none = none_bind (prepares around statement) _ (none_prepares around statement) (λ made. none made.0 made.1)

pub none_within : {A : Type 0} (around : Around) (statement : Statement) (go : List TableTree → Bound → Doing (Result A Failure)) → ((shapes : List TableTree) (of : Bound) → BeginsNone (go shapes of)) → BeginsNone (within around statement go)
unfolding within
none_within around statement go none = none_roomed _ (none_own _ _ (none_binds around statement go none))

-- ---- statements

pub none_fits : (effect : Effect) → BeginsNone (if_it_fits effect)
unfolding if_it_fits
none_fits effect = none_afforded _ _ (none_over _)

pub none_rows : (count : ℕ) (assigned : List Assigned × Option Failure) → BeginsNone (assigns_rows count assigned)
none_rows count (sets, None) = none_over _
none_rows count (sets, Some failure) = none_assigns sets _ (none_over _)

module _ (around : Around) where
  pub none_answers : (shapes : List TableTree) (query : BoundQuery) → BeginsNone (answers around shapes query)
  unfolding answers
  none_answers shapes query = none_bind (reads_images (given_in around.fired) shapes (bound.Query query)) _ (none_images (given_in around.fired) shapes (bound.Query query)) (λ images. none_comes _)

  pub none_selects : (shapes : List TableTree) (query : BoundQuery) → BeginsNone (selects around shapes query)
  unfolding selects
  none_selects shapes query = none_bind (answers around shapes query) _ (none_answers shapes query) (λ rows. none_bind _ _ (none_comes _) none_fits)

  pub none_selects_into : (shapes : List TableTree) (query : BoundQuery) (places : List ℕ) → BeginsNone (selects_into around shapes query places)
  unfolding selects_into
  none_selects_into shapes query places = none_bind (answers around shapes query) _ (none_answers shapes query) (λ rows. none_reads _ (λ p. none_roomed _ (none_rows _ _)))

  pub none_select : (shapes : List TableTree) (of : Bound) → BeginsNone (select_bound around shapes of)
  none_select shapes (bound.Query query) = none_selects shapes query
  none_select shapes (bound.Assign query places) = none_selects_into shapes query places
  none_select shapes bound.Plain = none_over _
  none_select shapes (bound.Write write) = none_over _

  pub none_values : (shapes : List TableTree) (of : Bound) → BeginsNone (values_bound around shapes of)
  none_values shapes (bound.Query query) = none_answers shapes query
  none_values shapes bound.Plain = none_over _
  none_values shapes (bound.Write write) = none_over _
  none_values shapes (bound.Assign query places) = none_over _

  pub none_computes : (form : Layer) (shapes : List TableTree) (of : Bound) → BeginsNone (computes around form shapes of)
  unfolding computes
  none_computes form shapes of = none_bind (values_bound around shapes of) _ (none_values shapes of) (λ rows. none_comes _)

  pub none_tested : (shapes : List TableTree) (of : Bound) → BeginsNone (tests_bound around shapes of)
  unfolding tests_bound
  none_tested shapes of = none_bind (values_bound around shapes of) _ (none_values shapes of) (λ rows. none_over _)

  pub none_composed : (statement : Statement) (shapes : List TableTree) (of : Bound) → BeginsNone (composes_bound around statement shapes of)
  unfolding composes_bound
  none_composed statement shapes of = none_bind (values_bound around shapes of) _ (none_values shapes of) (λ rows. none_bind _ _ (none_made _) (λ raised. none_roomed _ (none_afforded _ _ (none_over _))))

  pub none_status : (shapes : List TableTree) (of : Bound) → BeginsNone (status_bound around shapes of)
  unfolding status_bound
  none_status shapes of = none_bind (values_bound around shapes of) _ (none_values shapes of) (λ rows. none_made _)

  pub none_changes : (shape : TableTree) (shapes : List TableTree) (write : BoundWrite) → BeginsNone (changes around shape shapes write)
  unfolding changes
  none_changes shape shapes write = none_bind reads_definitions _ none_definitions (λ definitions. none_bind (reads_images (given_in around.fired) (shape ∷ shapes) (bound.Write write)) _ (none_images (given_in around.fired) (shape ∷ shapes) (bound.Write write)) (λ images. none_bind _ _ (none_comes _)
      (λ planned. none_bind _ _ (none_comes _) (λ effect. none_bind _ _ (none_fits effect) (λ fitting. none_bind _ _ (none_made _) (λ fires. none_bind _ _ (none_made _) (λ fired. none_bind _ _ (none_roomed _ (none_applies _ planned)) (λ mark. none_over _))))))))

  pub none_change : (shapes : List TableTree) (of : Bound) → BeginsNone (change_bound around shapes of)
  none_change [] of = none_over _
  none_change (shape ∷ shapes) (bound.Write write) = none_changes shape shapes write
  none_change (shape ∷ shapes) (bound.Query query) = none_over _
  none_change (shape ∷ shapes) (bound.Assign query places) = none_over _
  none_change (shape ∷ shapes) bound.Plain = none_over _

  pub none_drops_table : (shape : TableTree) (name : List ℕ) → BeginsNone (drops_table around shape name)
  unfolding drops_table
  none_drops_table shape name = none_bind reads_definitions _ none_definitions (λ definitions. none_bind _ _ (none_made _) (λ free. none_bind _ _ (none_roomed _ (none_reads_at _ _ _ (shape ∷ []) _))
      (λ images. none_bind _ _ (none_comes _) (λ planned. none_bind _ _ (none_applies [] planned) (λ put. none_over _)))))

  pub none_drops_definition : (name : List ℕ) → BeginsNone (drops_definition around name)
  unfolding drops_definition
  none_drops_definition name = none_bind _ _ (none_roomed _ (none_applies [] _)) (λ put. none_over _)

  pub none_drops_found : (kind : DropKind) (name : List ℕ) (found : Option Definition) → BeginsNone (drops_found around kind name found)
  none_drops_found drop.Table name (Some (Table table)) = none_if _ (drops_table around table name) _ (none_drops_table table name) (none_naming _ _ name)
  none_drops_found drop.Procedure name (Some (Procedure procedure)) = none_if _ (drops_definition around name) _ (none_drops_definition name) (none_naming _ _ name)
  none_drops_found drop.Trigger name (Some (Trigger trigger)) = none_if _ (drops_definition around name) _ (none_drops_definition name) (none_naming _ _ name)
  none_drops_found kind name found = none_naming _ _ name

  pub none_drops : (statement : Statement) (kind : DropKind) (name : List ℕ) → BeginsNone (drops around statement kind name)
  unfolding drops
  none_drops statement kind name = none_roomed _ (none_own _ _ (none_bind (finds_by (known_by around statement name) name) _ (none_finds_by (known_by around statement name) name) (λ found. none_bind _ _ (none_comes _) (λ of. none_drops_found kind name found))))

  pub none_worked : (form : Layer) (shapes : List TableTree) (of : Bound) → BeginsNone (works_bound around form shapes of)
  none_worked (Form-F.Select select) shapes of = none_select shapes of
  none_worked form shapes of = none_computes form shapes of

-- ---- CREATE

pub none_back : (mark : ℕ) (failure : Failure) → BeginsNone (takes_back mark failure)
unfolding takes_back
none_back mark failure = none_asks _ _ (none_done _ (none_over _))

pub none_inserted : (mark : ℕ) (name : List ℕ) (reply : Reply) → BeginsNone (inserted mark name reply)
none_inserted mark name replies.Done = none_over _
none_inserted mark name replies.Exists = none_room _ (λ enough. none_back mark _)
none_inserted mark name replies.Memory = none_back mark _
none_inserted mark name (replies.TimedOut holder held wanted on) = none_back mark _
none_inserted mark name (replies.Victim cycle) = none_back mark _
none_inserted mark name reply = none_never _

pub none_creates : (name text : List ℕ) → BeginsNone (creates name text)
unfolding creates
none_creates name text = none_bind _ _ (none_roomed _ (none_asks _ _ (none_refused _ (none_marked _ (λ mark. none_asks _ _ (none_inserted mark name)))))) (λ put. none_over _)

pub none_objects : {A : Type 0} (name : List ℕ) (tree : Doing (Result A Failure)) → BeginsNone tree → BeginsNone (unless_objects name tree)
none_objects name tree none = none_if (is_objects name) _ tree (none_naming _ _ name) none

pub none_table : (around : Around) (statement : Statement) (name text : List ℕ) → BeginsNone (creates_table around statement name text)
unfolding creates_table
none_table around statement name text = none_roomed _ (none_if (asks_any (known_by around statement) (looked_up statement)) _ _ (none_own true _ (none_binds around statement _ (λ shapes of. none_objects name _ (none_creates name text))))
    (none_binds around statement _ (λ shapes of. none_objects name _ (none_own true _ (none_creates name text)))))

pub none_puts : (outside : Bool) (name : List ℕ) (tree : Doing (Result Effect Failure)) → BeginsNone tree → BeginsNone (puts_definition outside name tree)
none_puts outside name tree none = none_if outside _ _ (none_over _) (none_objects name tree none)

pub none_where_table : (name : List ℕ) (tree : Doing (Result Effect Failure)) → BeginsNone tree → (found : Option Definition) → BeginsNone (where_table name tree found)
none_where_table name tree none (Some (Table table)) = none_if _ tree _ none (none_naming _ _ name)
none_where_table name tree none found = none_naming _ _ name

pub none_definition : (of : Definition) (text : List ℕ) → BeginsNone (creates_definition of text)
unfolding creates_definition
none_definition (Table table) text = none_over _
none_definition (Procedure procedure) text = none_roomed _ (none_puts _ procedure.name _ (none_own true _ (none_creates procedure.name text)))
none_definition (Trigger trigger) text = none_roomed _ (none_own _ _ (none_bind (look_up trigger.table) _ (none_look_up trigger.table) (none_where_table trigger.table _ (none_puts _ trigger.name _ (none_creates trigger.name text)))))

-- ---- statements on transactions

pub none_first : (statement : Statement) (go : SessionProgress → Doing (Result Effect Failure)) → ((p : SessionProgress) → BeginsNone (go p)) → BeginsNone (bound_first statement go)
none_first statement go none = none_bind _ _ (none_comes _) (λ of. none_roomed _ (none_reads go none))

pub none_named : (name : Option (List ℕ)) (go : SessionProgress → Doing (Result Effect Failure)) → ((p : SessionProgress) → BeginsNone (go p)) → BeginsNone (named_first name go)
none_named name go none = none_if (is_maybe_long name) _ _ (none_over _) (none_reads go none)

pub none_begins : (name : Option (List ℕ)) (p : SessionProgress) → BeginsNone (begins_over name p)
unfolding begins_outermost
none_begins name p = none_if _ _ _ (none_afforded _ _ (none_roomed _ (none_asks _ _ (none_refused _ (none_begun _ (none_makes _ _ tt (none_over _))))))) (none_if _ _ _ (none_over _) (none_makes _ _ tt (none_over _)))

pub none_commits : (p : SessionProgress) (answer : Result Bool ℤ) → BeginsNone (commits_by p answer)
none_commits p (Err number) = none_over _
none_commits p (Ok false) = none_makes _ _ tt (none_over _)
none_commits p (Ok true) = none_afforded _ _ (none_asks _ _ (none_ended _ (none_over _)))

pub none_whole : (p : SessionProgress) → BeginsNone (rolls_back_whole p)
unfolding rolls_back_whole
none_whole p = none_afforded _ _ (none_asks _ _ (none_ended _ (none_over _)))

pub none_goes_back : (name : List ℕ) (p : SessionProgress) (answer : Result BackKind ℤ) → BeginsNone (goes_back name p answer)
none_goes_back name p (Err number) = none_made _
none_goes_back name p (Ok Whole) = none_whole p
none_goes_back name p (Ok (Mark mark)) = none_asks _ _ (none_done _ (none_over _))

pub none_rolls : (name : Option (List ℕ)) (p : SessionProgress) → BeginsNone (rolls_back_to name p)
none_rolls None p = none_if _ _ _ (none_over _) (none_whole p)
none_rolls (Some name) p = none_goes_back name p _

pub none_saves : (name : List ℕ) (refused : Option ℤ) → BeginsNone (saves_unless name refused)
none_saves name (Some number) = none_over _
none_saves name None = none_roomed _ (none_asks _ _ (none_refused _ (none_marked _ (λ mark. none_roomed _ (none_makes _ _ tt (none_over _))))))

-- ---- OPEN

pub none_cursor : (A : Type 0) (name : List ℕ) (fault : CursorFault) → BeginsNone (fails_for_cursor {A = A} name fault)
none_cursor A name Present = none_naming A _ name
none_cursor A name NoSuch = none_naming A _ name
none_cursor A name AlreadyFilled = none_over _
none_cursor A name NotFilled = none_over _
none_cursor A name CursorMemory = none_over _

pub none_answered : (A B : Type 0) (name : List ℕ) (go : A → Doing (Result B Failure)) (meant : Result A CursorFault) → ((a : A) → BeginsNone (go a)) → BeginsNone (answered name go meant)
none_answered A B name go (Ok a) none = none a
none_answered A B name go (Err fault) none = none_cursor B name fault

pub none_fills : (around : Around) (name : List ℕ) (shapes : List TableTree) (of : Bound) → BeginsNone (opens_bound around name shapes of)
unfolding fills_with
none_fills around name shapes (bound.Query query) = none_bind (answers around shapes query) _ (none_answers around shapes query) (λ rows. none_roomed _ (none_makes _ _ tt (none_over _)))
none_fills around name shapes (bound.Assign query places) = none_over _
none_fills around name shapes bound.Plain = none_over _
none_fills around name shapes (bound.Write write) = none_over _

pub none_opens : (around : Around) (statement : Statement) (name : List ℕ) (p : SessionProgress) → BeginsNone (answered name (opens_kept around statement name p) (list.query_of name p.cursors))
none_opens around statement name p = none_answered Select Effect name _ (list.query_of name p.cursors) (λ select. none_answered (Unit {0}) Effect name _ (list.fill_answer name p.cursors) (λ done. none_within around _ _ (none_fills around name)))

-- ---- each kind of work

module _ {before after : PortPast} {p new : SessionProgress} where
  pub tests_left : (around : Around) (statement : Statement) {result : Result (Result Bool Failure) Memory} → Did before after (tests around statement) p result new → new.statements_left ≡ p.statements_left
  unfolding tests
  tests_left around statement did = did_none _ (none_within around statement _ (none_tested around)) did

  pub composes_left : (around : Around) (statement : Statement) {result : Result (Result Raised Failure) Memory} → Did before after (composes around statement) p result new → new.statements_left ≡ p.statements_left
  unfolding composes
  composes_left around statement did = did_none _ (none_within around statement _ (none_composed around statement)) did

  pub works_left : (around : Around) (statement : Statement) {result : Result (Result Effect Failure) Memory} → Did before after (works around statement) p result new → new.statements_left ≡ p.statements_left
  unfolding works
  works_left around statement did = did_none _ (none_within around statement _ (none_worked around (form_of statement))) did

  pub table_left : (around : Around) (statement : Statement) (name text : List ℕ) {result : Result (Result Effect Failure) Memory} → Did before after (creates_table around statement name text) p result new → new.statements_left ≡ p.statements_left
  table_left around statement name text did = did_none _ (none_table around statement name text) did

  pub statuses_left : (around : Around) (statement : Statement) {result : Result (Result ℤ Failure) Memory} → Did before after (statuses around statement) p result new → new.statements_left ≡ p.statements_left
  unfolding statuses
  statuses_left around statement did = did_none _ (none_within around statement _ (none_status around)) did

  pub drops_left : (around : Around) (statement : Statement) (kind : DropKind) (name : List ℕ) {result : Result (Result Effect Failure) Memory} → Did before after (drops around statement kind name) p result new → new.statements_left ≡ p.statements_left
  drops_left around statement kind name did = did_none _ (none_drops around statement kind name) did

  pub definition_left : (of : Definition) (text : List ℕ) {result : Result (Result Effect Failure) Memory} → Did before after (creates_definition of text) p result new → new.statements_left ≡ p.statements_left
  definition_left of text did = did_none _ (none_definition of text) did

  pub begins_left : (statement : Statement) (name : Option (List ℕ)) {result : Result (Result Effect Failure) Memory} → Did before after (begins_transaction statement name) p result new → new.statements_left ≡ p.statements_left
  unfolding begins_transaction
  begins_left statement name did = did_none _ (none_first statement _ (none_begins name)) did

  pub commits_left : (name : Option (List ℕ)) {result : Result (Result Effect Failure) Memory} → Did before after (commits_transaction name) p result new → new.statements_left ≡ p.statements_left
  unfolding commits_transaction
  commits_left name did = did_none _ (none_named name _ (λ q. none_commits q _)) did

  pub rolls_left : (name : Option (List ℕ)) {result : Result (Result Effect Failure) Memory} → Did before after (rolls_back_transaction name) p result new → new.statements_left ≡ p.statements_left
  unfolding rolls_back_transaction
  rolls_left name did = did_none _ (none_named name _ (λ q. none_rolls name q)) did

  pub saves_left : (statement : Statement) (name : List ℕ) {result : Result (Result Effect Failure) Memory} → Did before after (saves_transaction statement name) p result new → new.statements_left ≡ p.statements_left
  unfolding saves_transaction
  saves_left statement name did = did_none _ (none_first statement _ (λ q. none_saves name _)) did

  pub opens_left : (around : Around) (statement : Statement) (name : List ℕ) {result : Result (Result Effect Failure) Memory} → Did before after (opens_cursor around statement name) p result new → new.statements_left ≡ p.statements_left
  unfolding opens_cursor
  opens_left around statement name did = did_none _ (none_first statement _ (none_opens around statement name)) did
