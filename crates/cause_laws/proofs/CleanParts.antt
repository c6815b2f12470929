-- The parts of statements: whatever a statement looks up, binds, reads and writes, and what it does by its form, tells an error that is looked for in no token and
-- fails by another one.
use Rattle.std.proofs.Common.{◌≡◌, refl, sym, ◌∙◌, ℕ, zero, suc, ℤ, pos, List, [], ◌∷◌, length, Option, Some, None, Bool, true, false, Result, Ok, Err, is_ok, if◌then◌else◌}
use Rattle.std.specs.Prelude.{nat_le}
use Rattle.value_types.specs.Units.{same_units}
use Rattle.value_types.specs.declared.value.Value.{Value}
use Rattle.tsql_tree.specs.declared.definition.Definition.{Definition}
use Rattle.tsql_tree.specs.declared.definition.Definition.TheVariants.{Table, Procedure, Trigger}
use Rattle.tsql_tree.specs.declared.definition.TableTree.{TableTree}
use Rattle.tsql_tree.specs.declared.statement.Argument.{Argument}
use Rattle.tsql_tree.specs.declared.statement.DropKind.{DropKind}
use Rattle.tsql_tree.specs.declared.statement.DropKind.TheVariants as kinds
use Rattle.tsql_tree.specs.declared.statement.Form.{Form-F}
use Rattle.tsql_tree.specs.declared.statement.Statement.{Statement, out-Statement}
use Rattle.bound_tree.specs.declared.query.BoundQuery.{BoundQuery}
use Rattle.bound_tree.specs.declared.write.Bound.{Bound}
use Rattle.bound_tree.specs.declared.write.Bound.TheVariants as bound
use Rattle.bound_tree.specs.declared.write.BoundWrite.{BoundWrite}
use Rattle.binder.specs.Names.{Layer, form_of, looked_up}
use Rattle.session_vars.specs.declared.Variable.{Variable}
use Rattle.table_rows.specs.Definitions.{is_objects, tables_of}
use Rattle.table_rows.specs.Rows.{shape_of}
use Rattle.step_model.specs.declared.change.Planned.{Planned}
use Rattle.step_model.specs.declared.op.Op.TheVariants as ops
use Rattle.step_model.specs.declared.range.Start.{Start}
use Rattle.step_model.specs.declared.range.Start.TheVariants.{First}
use Rattle.step_model.specs.declared.reply.Reply.{Reply}
use Rattle.step_model.specs.declared.reply.Reply.TheVariants as replies
use Rattle.step_model.specs.Ranges.{Rows, range_limit}
use Rattle.dml_exec.specs.declared.refusal.Level.{Level}
use Rattle.dml_exec.specs.declared.refusal.Level.TheVariants as level
use Rattle.dml_exec.specs.declared.refusal.Refusal.{Refusal}
use Rattle.dml_exec.specs.declared.written.Written.{Written as Came}
use Rattle.dml_exec.specs.declared.written.Written.TheVariants as written
use Rattle.dml_exec.specs.Planning.{table_written}
use Rattle.dml_exec.specs.Reading.{GivenRows, behind_gone, fetches_any, images_of, none_given}
use Rattle.dml_exec.specs.Writing.{attempts}
use Rattle.tds_tokens.specs.declared.columns.ColumnInfo.{ColumnInfo}
use Rattle.tds_tokens.specs.declared.token.DoneKind.{DoneKind}
use Rattle.tds_tokens.specs.declared.token.Token.{Token}
use Rattle.tds_tokens.specs.Numbers.{command_select}
use Rattle.batch_meaning.specs.declared.failure.Failure.{Failure}
use Rattle.batch_meaning.specs.declared.home.Home.{Home}
use Rattle.batch_meaning.specs.declared.home.Home.TheVariants.{Nowhere, Open, Own}
use Rattle.batch_meaning.specs.declared.raised.Raised.{Raised}
use Rattle.batch_meaning.specs.Asking.{KnownNames, applies, assigns_all, comes_to, defined_by, defined_from, defined_on, definition_fetch, fails, fails_naming, finds_by, if_bytes_left, is_table, known, look_up, looks_up, objects_fetch, reads_at, reads_definitions, reads_images, touches_if, unless_broken, unless_refused, unless_stopped, where_begun, where_done, with_found, with_room, ◌gives◌}
use Rattle.batch_meaning.specs.Calls.{Call, call_over, finds_call}
use Rattle.batch_meaning.specs.Changing.{definition_erased, dropped, not_there, planned_over, told_by, unless_referred, whole, write_command}
use Rattle.batch_meaning.specs.Doing.{Doing, asks, defines, over, reads, ◌then◌}
use Rattle.batch_meaning.specs.Failures.{plain}
use Rattle.batch_meaning.specs.Progress.{values_of}
use Rattle.batch_meaning.specs.Raised.{Around, info_token}
use Rattle.batch_meaning.specs.Selecting.{Effect, answer_in, bound_over, columns_of, made_of, messages, no_effect, raised_by, result_full, result_of, row_limit}
use Rattle.batch_meaning.specs.Tokens.{done_kind, result_tokens, row_tokens, statement_done}
use Rattle.batch_meaning.specs.Values.{Assigned, assigned_to, first_row, given_names, is_message, rows_assigned, status_of}
use Rattle.batch_meaning.specs.Working.{answers, asks_any, assigns_rows, binds, closes, composes, composes_bound, computes, enters, given_in, if_it_fits, known_by, leaves, own, prepares, relaxes, select_bound, selects, selects_into, status_bound, statuses, tests, tests_bound, values_bound, within, works, works_bound}
use Rattle.batch_meaning.specs.Writes.{Written, change_bound, changes, drops, drops_definition, drops_found, drops_table, fired_by, fires_of, shape_or}
use Rattle.cause_laws.proofs.UsualValues.{Anything, RaisesUsual, UsualOr, UsualRest, answer_usual, assigned_usual, bound_usual, call_usual, dropped_usual, planned_usual, raised_usual, referred_usual, rows_usual, status_usual}
use Rattle.cause_laws.proofs.Watch.{Guard, IsOther, TellsNone, TellsOther, sends_rows}
use Rattle.cause_laws.proofs.Clean.{Clean, FineOr, OtherOr, all_both, clean_begun, clean_bind, clean_comes, clean_done, clean_ended, clean_fine, clean_gives, clean_if, clean_naming, clean_refused, clean_room, clean_test, clean_then, usual_other}
use Rattle.cause_laws.proofs.CleanDialogs.{OtherAttempt, OtherRefusal, OtherWritten, clean_attempts, clean_images}

module _ (error : Guard) where
  -- a part that may fail, of which nothing is said where it doesn't
  abbrev pub Parts : {A : Type 0} → Doing (Result A Failure) → Type 0
  Parts {A = A} tree = Clean error (OtherOr error {A = A} Anything) tree

  -- a statement's work, whose effect tells the error in no token
  abbrev pub EffectOther : Effect → Type 0
  EffectOther effect = TellsNone error effect.tokens

  abbrev pub Effects : Doing (Result Effect Failure) → Type 0
  Effects tree = Clean error (OtherOr error EffectOther) tree

  -- what comes to nothing
  abbrev pub Plainly : Doing (Unit {0}) → Type 0
  Plainly tree = Clean error Anything tree

  -- ---- own transactions

  pub clean_relaxes : Plainly relaxes
  unfolding relaxes
  clean_relaxes = λ p at. clean_if error Anything p.touched (asks ops.Relax (where_done (over tt))) (over tt) (λ reply says. clean_done error Anything (over tt) tt reply) tt

  pub clean_closes : (succeeded : Bool) → Plainly (closes succeeded)
  unfolding closes
  clean_closes true = λ reply says. clean_ended error Anything (over tt) tt reply
  clean_closes false = λ reply says. clean_ended error Anything (over tt) tt reply

  pub clean_enters : (asking : Bool) → Parts (enters asking)
  unfolding enters
  clean_enters false = tt
  clean_enters true = λ p at. clean_if error (OtherOr error {A = Home} Anything) p.is_open (over (Ok Open)) (asks ops.Begin (unless_refused (where_begun (over (Ok Own))))) tt
      (clean_refused error {A = Home} Anything (where_begun (over (Ok Own))) (λ reply says. clean_begun error {A = Home} Anything (over (Ok Own)) tt reply))

  pub clean_leaves : (home : Home) (succeeded : Bool) → Plainly (leaves home succeeded)
  unfolding leaves
  clean_leaves Nowhere succeeded = tt
  clean_leaves Open succeeded = clean_relaxes
  clean_leaves Own succeeded = clean_then error Anything Anything relaxes (λ done. closes succeeded) clean_relaxes (λ done any. clean_closes succeeded)

  pub clean_own : {A : Type 0} (P : A → Type 0) (asking : Bool) (work : Doing (Result A Failure)) → Clean error (OtherOr error P) work → Clean error (OtherOr error P) (own asking work)
  unfolding own
  clean_own P asking work clean = clean_bind error {A = Home} Anything P (enters asking) (λ home. work then λ came. leaves home (is_ok came) then λ done. over came) (clean_enters asking)
      (λ home any. clean_then error (OtherOr error P) (OtherOr error P) work (λ came. leaves home (is_ok came) then λ done. over came) clean
      (λ came fine. clean_then error Anything (OtherOr error P) (leaves home (is_ok came)) (λ done. over came) (clean_leaves home (is_ok came)) (λ done some. fine)))

  -- ---- look-ups

  pub clean_look : (name : List ℕ) → Parts (look_up name)
  unfolding look_up
  clean_look name = clean_if error (OtherOr error {A = Option Definition} Anything) (is_objects name) (over (Ok None)) (with_room (asks (definition_fetch name) (unless_refused known))) tt
      (clean_room error {A = Option Definition} Anything (asks (definition_fetch name) (unless_refused known)) (clean_refused error {A = Option Definition} Anything known (λ reply says. by_reply reply)))
    where
      by_reply : (reply : Reply) → Parts (known reply)
      by_reply (replies.Row key row at) = clean_room error {A = Option Definition} Anything (defines (key, row) (λ found. over (Ok found))) (λ found. tt)
      by_reply (replies.Gone key at) = tt
      by_reply (replies.End at) = tt
      by_reply reply = tt

  pub clean_finds : (found : Option (Option Definition)) (name : List ℕ) → Parts (finds_by found name)
  clean_finds None name = clean_look name
  clean_finds (Some found) name = clean_room error {A = Option Definition} Anything (over (Ok found)) tt

  clean_looks : (names : KnownNames) (definitions : List Definition) (all : List (List ℕ)) → Parts (looks_up names definitions all)
  unfolding looks_up
  clean_looks names definitions [] = tt
  clean_looks names definitions (name ∷ others) = clean_bind error {A = Option Definition} {B = List Definition} Anything Anything (finds_by (names name) name) (λ found. if is_table found then with_room (looks_up names (with_found definitions found) others) else over (Ok definitions)) (clean_finds (names name) name)
      (λ found any. clean_if error (OtherOr error {A = List Definition} Anything) (is_table found) (with_room (looks_up names (with_found definitions found) others)) (over (Ok definitions))
      (clean_room error {A = List Definition} Anything (looks_up names (with_found definitions found) others) (clean_looks names (with_found definitions found) others)) tt)

  clean_defined : (left : ℕ) (start : Start) (so_far : List Definition) → Parts (defined_from left start so_far)
  unfolding defined_from
  clean_defined zero start so_far = usual_other error (pos 49003) refl
  clean_defined (suc left) start so_far = clean_bind error {A = List Definition × Option (List Value)} {B = List Definition} Anything Anything (asks (objects_fetch start) (unless_refused (defined_by so_far))) (defined_on (λ more key. defined_from left (behind_gone 1 key) more))
      (clean_refused error {A = List Definition × Option (List Value)} Anything (defined_by so_far) (λ reply says. by_reply reply)) (λ came any. by_came (λ more key. clean_defined left (behind_gone 1 key) more) came)
    where
      by_reply : (reply : Reply) → Parts (defined_by so_far reply)
      by_reply (replies.Row key row at) = clean_room error {A = List Definition × Option (List Value)} Anything (defines (key, row) (λ found. with_room (over (Ok (with_found so_far found, Some key)))))
          (λ found. clean_room error {A = List Definition × Option (List Value)} Anything (over (Ok (with_found so_far found, Some key))) tt)
      by_reply (replies.Gone key at) = tt
      by_reply (replies.End at) = tt
      by_reply reply = tt

      by_came : ((more : List Definition) (key : List Value) → Parts (defined_from left (behind_gone 1 key) more)) → (came : List Definition × Option (List Value)) → Parts (defined_on (λ more key. defined_from left (behind_gone 1 key) more) came)
      by_came next (more, None) = tt
      by_came next (more, Some key) = next more key

  clean_definitions : Parts reads_definitions
  unfolding reads_definitions
  clean_definitions = clean_room error {A = List Definition} Anything (defined_from range_limit First []) (clean_defined range_limit First [])

  -- ---- tables that are read, and changes

  clean_reads_at : (given : GivenRows) (at : Level) (vars : List Value) (shapes : List TableTree) (of : Bound) → Parts (reads_at given at vars shapes of)
  unfolding reads_at
  clean_reads_at given at vars [] of = tt
  clean_reads_at given at vars (shape ∷ shapes) of = by_touch (fetches_any given of)
    where
      by_came : (came : Result (List Rows) Refusal) → FineOr error (OtherRefusal error) came → Parts (unless_stopped came)
      by_came (Ok images) fine = tt
      by_came (Err why) fine = fine

      goes : Parts (images_of given (shape ∷ shapes) at vars of gives unless_stopped)
      goes = clean_gives error (FineOr error (OtherRefusal error)) (OtherOr error {A = List Rows} Anything) (images_of given (shape ∷ shapes) at vars of) unless_stopped (clean_images error given (shape ∷ shapes) at vars of) by_came

      by_touch : (b : Bool) → Parts (touches_if b (images_of given (shape ∷ shapes) at vars of gives unless_stopped))
      by_touch true = (tt, goes)
      by_touch false = goes

  clean_reads : (given : GivenRows) (shapes : List TableTree) (of : Bound) → Parts (reads_images given shapes of)
  unfolding reads_images
  clean_reads given shapes of = λ p at. clean_reads_at given p.settings.level (values_of p.vars) shapes of

  clean_applies : (shapes : List TableTree) (planned : List Planned) → Parts (applies shapes planned)
  unfolding applies
  clean_applies shapes planned = (tt, clean_gives error (OtherAttempt error) (OtherOr error {A = ℕ} Anything) (attempts shapes planned) (λ attempt. unless_broken attempt.came) (clean_attempts error shapes planned) (λ attempt fine. by_came attempt.came fine))
    where
      by_came : (came : Result Came Refusal) → OtherWritten error came → Parts (unless_broken came)
      by_came (Ok (written.Done mark)) fine = tt
      by_came (Ok (written.Refused number name)) fine = fine
      by_came (Err why) fine = fine

  -- ---- bound statements

  clean_prepares : (around : Around) (statement : Statement) → Parts (prepares around statement)
  unfolding prepares
  clean_prepares around statement = clean_bind error {A = List Definition} {B = List TableTree × Bound} Anything Anything (looks_up (known_by around statement) [] (looked_up statement)) _ (clean_looks (known_by around statement) [] (looked_up statement))
      (λ definitions any. clean_bind error {A = Bound} {B = List TableTree × Bound} Anything Anything (reads λ p. comes_to (bound_over definitions p.vars statement)) _ (λ p at. clean_comes error Anything (bound_over definitions p.vars statement) (bound_usual definitions p.vars statement))
      (λ of some. clean_comes error {A = List TableTree × Bound} Anything (Ok (tables_of definitions, of)) tt))

  pub clean_binds : {A : Type 0} (P : A → Type 0) (around : Around) (statement : Statement) (go : List TableTree → Bound → Doing (Result A Failure)) → ((shapes : List TableTree) (of : Bound) → Clean error (OtherOr error P) (go shapes of)) → Clean error (OtherOr error P) (binds around statement go)
  unfolding binds
  clean_binds P around statement go clean = clean_bind error {A = List TableTree × Bound} Anything P (prepares around statement) (λ made. go made.0 made.1) (clean_prepares around statement) (λ made any. clean made.0 made.1)

  pub clean_within : {A : Type 0} (P : A → Type 0) (around : Around) (statement : Statement) (go : List TableTree → Bound → Doing (Result A Failure)) → ((shapes : List TableTree) (of : Bound) → Clean error (OtherOr error P) (go shapes of)) → Clean error (OtherOr error P) (within around statement go)
  unfolding within
  clean_within P around statement go clean = clean_room error P (own (asks_any (known_by around statement) (looked_up statement)) (binds around statement go))
      (clean_own P (asks_any (known_by around statement) (looked_up statement)) (binds around statement go) (clean_binds P around statement go clean))

  -- what is bound first may fail alone
  pub clean_bound : (definitions : List Definition) (statement : Statement) → Parts (reads λ p. comes_to (bound_over definitions p.vars statement))
  clean_bound definitions statement = λ p at. clean_comes error Anything (bound_over definitions p.vars statement) (bound_usual definitions p.vars statement)

  -- ---- tokens

  pub done_other : (kind : DoneKind) (no_count : Bool) (command rows : ℕ) → TellsOther error (statement_done kind no_count command rows)
  done_other kind true command rows = error.watch.more
  done_other kind false command rows = error.watch.counted

  rows_other : (rows : Rows) → TellsNone error (row_tokens rows)
  rows_other [] = tt
  rows_other (row ∷ rows) = (tt, rows_other rows)

  result_other : (kind : DoneKind) (no_count : Bool) (columns : List ColumnInfo) (rows : Rows) → TellsNone error (result_tokens kind no_count columns rows)
  result_other kind no_count columns rows = (tt, all_both (TellsOther error) (row_tokens rows) (statement_done kind no_count command_select (length rows) ∷ []) (rows_other rows) (done_other kind no_count command_select (length rows), tt))

  pub messages_other : (raised : Raised) → TellsNone error (messages raised)
  messages_other raised = by_test (is_message raised)
    where
      by_test : (b : Bool) → TellsNone error (if b then info_token raised ∷ [] else [])
      by_test true = (tt, tt)
      by_test false = tt

  pub clean_left : {A : Type 0} (P : A → Type 0) (tokens : List Token) (next : Doing (Result A Failure)) → Clean error (OtherOr error P) next → Clean error (OtherOr error P) (if_bytes_left tokens next)
  clean_left P tokens next clean = clean_test error (OtherOr error P) (λ p. tokens) (λ full p. if full then fails result_full else next) (λ bytes q. refl) (λ q. clean) (λ other q. other)

  clean_fits : (effect : Effect) → EffectOther effect → Effects (if_it_fits effect)
  unfolding if_it_fits
  clean_fits effect other = clean_left EffectOther effect.tokens (over (Ok effect)) other

  pub clean_assigns : {A : Type 0} (P : A → Type 0) (sets : List Assigned) (next : Doing A) → Clean error P next → Clean error P (assigns_all sets next)
  unfolding assigns_all
  clean_assigns P [] next clean = clean
  clean_assigns P (one ∷ rest) next clean = (tt, clean_assigns P rest next clean)

  -- ---- each statement that is done with its effect

  module _ (around : Around) where
    pub clean_answers : (shapes : List TableTree) (query : BoundQuery) → Parts (answers around shapes query)
    unfolding answers
    clean_answers shapes query = clean_bind error {A = List Rows} {B = Rows} Anything Anything (reads_images (given_in around.fired) shapes (bound.Query query)) _ (clean_reads (given_in around.fired) shapes (bound.Query query))
        (λ images any p at. clean_comes error Anything (answer_in around p query images) (answer_usual around p query images))

    -- where a result has more rows than it may, 49002 is another number
    clean_rows : (query : BoundQuery) (rows : Rows) → (nat_le (length rows) row_limit ≡ false → IsOther error (pos result_full)) → Effects (sends_rows around query rows)
    clean_rows query rows many = clean_bind error EffectOther EffectOther (reads λ p. comes_to (result_of (done_kind around) p.settings.no_count query rows)) if_it_fits
        (λ p at. clean_room error EffectOther (over (result_of (done_kind around) p.settings.no_count query rows)) (by_limit p.settings.no_count (nat_le (length rows) row_limit) refl)) clean_fits
      where
        by_limit : (no_count : Bool) (b : Bool) → nat_le (length rows) row_limit ≡ b → OtherOr error EffectOther (if b then Ok (record { sets = []; rows = length rows; tokens = result_tokens (done_kind around) no_count (columns_of query) rows }) else Err (plain result_full))
        by_limit no_count true is = result_other (done_kind around) no_count (columns_of query) rows
        by_limit no_count false is = many is

    few_fine : (query : BoundQuery) (rows : Rows) → nat_le (length rows) row_limit ≡ true → error.watch.Fine (OtherOr error EffectOther) (sends_rows around query rows)
    few_fine query rows few = clean_fine error.watch (OtherOr error EffectOther) error.left (sends_rows around query rows)
        (clean_rows query rows (λ more. absurd (let no : true ≡ false = sym few ∙ more in cc)))

    selects_other : (shapes : List TableTree) (query : BoundQuery) → IsOther error (pos result_full) → Effects (selects around shapes query)
    unfolding selects
    selects_other shapes query other = clean_bind error {A = Rows} Anything EffectOther (answers around shapes query) _ (clean_answers shapes query)
        (λ rows any. clean_rows query rows (λ more. other))

    clean_selects : (shapes : List TableTree) (query : BoundQuery) → Effects (selects around shapes query)
    unfolding selects answers reads_images ◌then◌
    clean_selects shapes query = λ p at. selects_other shapes query
        (error.watch.many (OtherOr error EffectOther) around shapes query error.left p _ refl (λ failure other. other) (few_fine query) at) p at

    clean_into : (shapes : List TableTree) (query : BoundQuery) (places : List ℕ) → Effects (selects_into around shapes query places)
    unfolding selects_into
    clean_into shapes query places = clean_bind error {A = Rows} Anything EffectOther (answers around shapes query) _ (clean_answers shapes query)
        (λ rows any p at. clean_room error EffectOther (assigns_rows (length rows) (rows_assigned p.vars places [] rows)) (by_rows (length rows) p.vars (rows_assigned p.vars places [] rows) (rows_usual p.vars places [] rows)))
      where
        by_rows : (count : ℕ) (vars : List Variable) (came : List Assigned × Option Failure) → UsualRest vars came → Effects (assigns_rows count came)
        by_rows count vars (sets, None) usual = tt
        by_rows count vars (sets, Some failure) usual = clean_assigns (OtherOr error EffectOther) sets (over (Err failure)) (usual_other error failure.number usual)

    clean_select : (shapes : List TableTree) (of : Bound) → Effects (select_bound around shapes of)
    clean_select shapes (bound.Query query) = clean_selects shapes query
    clean_select shapes (bound.Assign query places) = clean_into shapes query places
    clean_select shapes bound.Plain = usual_other error (pos 49007) refl
    clean_select shapes (bound.Write write) = usual_other error (pos 49007) refl

    clean_values : (shapes : List TableTree) (of : Bound) → Parts (values_bound around shapes of)
    clean_values shapes (bound.Query query) = clean_answers shapes query
    clean_values shapes bound.Plain = tt
    clean_values shapes (bound.Write write) = usual_other error (pos 49007) refl
    clean_values shapes (bound.Assign query places) = usual_other error (pos 49007) refl

    clean_computes : (form : Layer) (shapes : List TableTree) (of : Bound) → Effects (computes around form shapes of)
    unfolding computes
    clean_computes form shapes of = clean_bind error {A = Rows} Anything EffectOther (values_bound around shapes of) _ (clean_values shapes of)
        (λ rows any p at. clean_room error EffectOther (over (made_of form p.vars (first_row rows))) (by_form p.vars (first_row rows) form))
      where
        by_sets : (sets : Result (List Assigned) Failure) → UsualOr Anything sets → OtherOr error EffectOther (Rattle.batch_meaning.specs.Values.◌>>=◌ sets (λ done. Ok (Rattle.batch_meaning.specs.Selecting.assigning done)))
        by_sets (Ok sets) usual = tt
        by_sets (Err failure) usual = usual_other error failure.number usual

        by_form : (vars : List Variable) (values : List Value) (form : Layer) → OtherOr error EffectOther (made_of form vars values)
        by_form vars values (Form-F.Declare declarations) = by_sets (assigned_to vars (given_names declarations) values) (assigned_usual vars (given_names declarations) values)
        by_form vars values (Form-F.SetVariable name value) = by_sets (assigned_to vars (name ∷ []) values) (assigned_usual vars (name ∷ []) values)
        by_form vars values form = usual_other error (pos 49007) refl

    clean_worked : (form : Layer) (shapes : List TableTree) (of : Bound) → Effects (works_bound around form shapes of)
    clean_worked (Form-F.Select select) shapes of = clean_select shapes of
    clean_worked form shapes of = clean_computes form shapes of

    -- ---- by the statement

    module _ (statement : Statement) where
      pub clean_works : Effects (works around statement)
      unfolding works
      clean_works = clean_within EffectOther around statement (works_bound around (form_of statement)) (clean_worked (form_of statement))

      pub clean_tests : Parts (tests around statement)
      unfolding tests tests_bound
      clean_tests = clean_within {A = Bool} Anything around statement (tests_bound around) (λ shapes of. clean_bind error {A = Rows} {B = Bool} Anything Anything (values_bound around shapes of) _ (clean_values shapes of) (λ rows any. tt))

      abbrev pub RaisesOther : Raised → Type 0
      RaisesOther raised = IsOther error raised.number

      pub clean_composes : Clean error (OtherOr error RaisesOther) (composes around statement)
      unfolding composes composes_bound
      clean_composes = clean_within RaisesOther around statement (composes_bound around statement)
          (λ shapes of. clean_bind error {A = Rows} Anything RaisesOther (values_bound around shapes of) _ (clean_values shapes of)
          (λ rows any. clean_bind error RaisesOther RaisesOther (comes_to (raised_by (form_of statement) around.procedure (pos (out-Statement statement).line) (first_row rows))) _
          (clean_room error RaisesOther (over (raised_by (form_of statement) around.procedure (pos (out-Statement statement).line) (first_row rows))) (by_raised (raised_by (form_of statement) around.procedure (pos (out-Statement statement).line) (first_row rows)) (raised_usual around.procedure (pos (out-Statement statement).line) (form_of statement) (first_row rows))))
          (λ raised fine. clean_room error RaisesOther (if_bytes_left (messages raised) (over (Ok raised))) (clean_left RaisesOther (messages raised) (over (Ok raised)) fine))))
        where
          by_raised : (came : Result Raised Failure) → UsualOr RaisesUsual came → OtherOr error RaisesOther came
          by_raised (Ok raised) usual = usual_other error raised.number usual
          by_raised (Err failure) usual = usual_other error failure.number usual

      pub clean_statuses : Parts (statuses around statement)
      unfolding statuses status_bound
      clean_statuses = clean_within {A = ℤ} Anything around statement (status_bound around) (λ shapes of. clean_bind error {A = Rows} {B = ℤ} Anything Anything (values_bound around shapes of) _ (clean_values shapes of)
          (λ rows any. clean_comes error {A = ℤ} Anything (status_of (first_row rows)) (status_usual (first_row rows))))

      -- ---- EXEC

      pub clean_call : (status : Option (List ℕ)) (name : List ℕ) (arguments : List Argument) → Parts (finds_call around statement status name arguments)
      unfolding finds_call
      clean_call status name arguments = clean_room error {A = Call} Anything _ (clean_own {A = Call} Anything (asks_any (known_by around statement) (name ∷ [])) _
          (clean_bind error {A = Option Definition} {B = Call} Anything Anything (finds_by (known_by around statement name) name) _ (clean_finds (known_by around statement name) name)
          (λ found any. clean_bind error {A = Bound} {B = Call} Anything Anything (reads λ p. comes_to (bound_over [] p.vars statement)) _ (clean_bound [] statement)
          (λ of some p at. clean_comes error {A = Call} Anything (call_over around status name arguments p.vars found) (call_usual around status name arguments p.vars found)))))

    -- ---- INSERT, UPDATE and DELETE

    abbrev pub WrittenOther : Written → Type 0
    WrittenOther w = EffectOther w.effect

    clean_changes : (shape : TableTree) (shapes : List TableTree) (write : BoundWrite) → Clean error (OtherOr error WrittenOther) (changes around shape shapes write)
    unfolding changes
    clean_changes shape shapes write =
        clean_bind error {A = List Definition} Anything WrittenOther reads_definitions _ clean_definitions (λ definitions any.
        clean_bind error {A = List Rows} Anything WrittenOther (reads_images (given_in around.fired) (shape ∷ shapes) (bound.Write write)) _ (clean_reads (given_in around.fired) (shape ∷ shapes) (bound.Write write)) (λ images any.
        clean_bind error {A = List Planned} Anything WrittenOther (reads λ p. comes_to (planned_over around p (shape ∷ shapes) write images)) _ (λ p at. clean_comes error {A = List Planned} Anything (planned_over around p (shape ∷ shapes) write images) (planned_usual around p (shape ∷ shapes) write images)) (λ planned any.
        clean_bind error EffectOther WrittenOther (reads λ p. comes_to (Ok (told_by (done_kind around) p.settings.no_count write planned))) _ (λ p at. clean_room error EffectOther (over (Ok (told_by (done_kind around) p.settings.no_count write planned))) (done_other (done_kind around) p.settings.no_count (write_command write) _, tt)) (λ effect other.
        clean_bind error EffectOther WrittenOther (if_it_fits effect) _ (clean_fits effect other) (λ fitting fits.
        clean_bind error Anything WrittenOther (comes_to (Ok (fires_of around definitions write))) _ (clean_comes error Anything (Ok (fires_of around definitions write)) tt) (λ fires any.
        clean_bind error Anything WrittenOther (comes_to (Ok (fired_by (shape_or shape (shape_of (table_written write) (shape ∷ shapes))) write images planned))) _ (clean_comes error Anything (Ok (fired_by (shape_or shape (shape_of (table_written write) (shape ∷ shapes))) write images planned)) tt) (λ fired any.
        clean_bind error {A = ℕ} Anything WrittenOther (with_room (applies (tables_of definitions) planned)) _ (clean_room error {A = ℕ} Anything (applies (tables_of definitions) planned) (clean_applies (tables_of definitions) planned)) (λ mark any. fits))))))))

    pub clean_change : (shapes : List TableTree) (of : Bound) → Clean error (OtherOr error WrittenOther) (change_bound around shapes of)
    clean_change [] of = usual_other error (pos 49007) refl
    clean_change (shape ∷ shapes) (bound.Write write) = clean_changes shape shapes write
    clean_change (shape ∷ shapes) (bound.Query query) = usual_other error (pos 49007) refl
    clean_change (shape ∷ shapes) (bound.Assign query places) = usual_other error (pos 49007) refl
    clean_change (shape ∷ shapes) bound.Plain = usual_other error (pos 49007) refl

    -- ---- DROP

    clean_dropped : (shape : TableTree) (name : List ℕ) → Effects (drops_table around shape name)
    unfolding drops_table
    clean_dropped shape name =
        clean_bind error {A = List Definition} Anything EffectOther reads_definitions _ clean_definitions (λ definitions any.
        clean_bind error {A = Unit {0}} Anything EffectOther (comes_to (unless_referred name (tables_of definitions))) _ (clean_comes error Anything (unless_referred name (tables_of definitions)) (referred_usual name (tables_of definitions))) (λ free any.
        clean_bind error {A = List Rows} Anything EffectOther (with_room (reads_at none_given level.Serializable [] (shape ∷ []) (bound.Write (whole name)))) _ (clean_room error {A = List Rows} Anything (reads_at none_given level.Serializable [] (shape ∷ []) (bound.Write (whole name))) (clean_reads_at none_given level.Serializable [] (shape ∷ []) (bound.Write (whole name)))) (λ images any.
        clean_bind error {A = List Planned} Anything EffectOther (reads λ p. comes_to (dropped around p definitions shape name images)) _ (λ p at. clean_comes error {A = List Planned} Anything (dropped around p definitions shape name images) (dropped_usual around p definitions shape name images)) (λ planned any.
        clean_bind error {A = ℕ} Anything EffectOther (applies [] planned) (λ put. over (Ok no_effect)) (clean_applies [] planned) (λ put any. tt)))))

    clean_erased : (name : List ℕ) → Effects (drops_definition around name)
    unfolding drops_definition
    clean_erased name = clean_bind error {A = ℕ} Anything EffectOther (with_room (applies [] (definition_erased name ∷ []))) (λ put. over (Ok no_effect)) (clean_room error {A = ℕ} Anything (applies [] (definition_erased name ∷ [])) (clean_applies [] (definition_erased name ∷ []))) (λ put any. tt)

    not_found : (name : List ℕ) → Effects (fails_naming not_there name)
    not_found name = clean_naming error Effect EffectOther not_there name refl

    clean_found : (kind : DropKind) (name : List ℕ) (found : Option Definition) → Effects (drops_found around kind name found)
    clean_found kinds.Table name (Some (Table table)) = clean_if error (OtherOr error EffectOther) (same_units table.name name) (drops_table around table name) (fails_naming not_there name) (clean_dropped table name) (not_found name)
    clean_found kinds.Procedure name (Some (Procedure procedure)) = clean_if error (OtherOr error EffectOther) (same_units procedure.name name) (drops_definition around name) (fails_naming not_there name) (clean_erased name) (not_found name)
    clean_found kinds.Trigger name (Some (Trigger trigger)) = clean_if error (OtherOr error EffectOther) (same_units trigger.name name) (drops_definition around name) (fails_naming not_there name) (clean_erased name) (not_found name)
    clean_found kind name found = not_found name

    pub clean_drops : (statement : Statement) (kind : DropKind) (name : List ℕ) → Effects (drops around statement kind name)
    unfolding drops
    clean_drops statement kind name = clean_room error EffectOther _ (clean_own EffectOther (asks_any (known_by around statement) (name ∷ [])) _
        (clean_bind error {A = Option Definition} Anything EffectOther (finds_by (known_by around statement name) name) _ (clean_finds (known_by around statement name) name)
        (λ found any. clean_bind error {A = Bound} Anything EffectOther (reads λ p. comes_to (bound_over [] p.vars statement)) _ (clean_bound [] statement) (λ of some. clean_found kind name found))))
