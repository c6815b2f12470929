-- What CREATE puts into `objects`, and the statements on transactions and cursors, tell an error that is looked for in no token and fail by another one.
use Rattle.std.proofs.Common.{refl, ℕ, ℤ, pos, List, [], ◌∷◌, length, Option, Some, None, Bool, true, false, Result, Ok, Err, not, if◌then◌else◌, ◌==◌}
use Rattle.std.specs.Prelude.{◌||◌, nat_le}
use Rattle.value_types.specs.Units.{same_units}
use Rattle.value_types.specs.declared.value.Value.{Value}
use Rattle.tsql_tree.specs.declared.definition.Definition.{Definition}
use Rattle.tsql_tree.specs.declared.definition.Definition.TheVariants.{Table, Procedure, Trigger}
use Rattle.tsql_tree.specs.declared.definition.TableTree.{TableTree}
use Rattle.tsql_tree.specs.declared.query.Select.{Select}
use Rattle.tsql_tree.specs.declared.statement.Statement.{Statement, out-Statement}
use Rattle.bound_tree.specs.declared.write.Bound.{Bound}
use Rattle.bound_tree.specs.declared.write.Bound.TheVariants as bound
use Rattle.binder.specs.Names.{looked_up}
use Rattle.binder.specs.Statements.{is_maybe_long}
use Rattle.clause_binder.specs.Scope.{is_long}
use Rattle.session_cursors.specs.declared.cursor.Cursor.{Cursor}
use Rattle.session_cursors.specs.declared.fault.CursorFault.{CursorFault}
use Rattle.session_cursors.specs.declared.fault.CursorFault.TheVariants.{NoSuch, Present, AlreadyFilled, NotFilled, Memory}
use Rattle.session_cursors.specs.Answers.{AnswerLeft}
use Rattle.session_cursors.specs.Cursors as list
use Rattle.txn_rules.specs.declared.state.BackKind.{BackKind}
use Rattle.txn_rules.specs.declared.state.BackKind.TheVariants.{Mark, Whole}
use Rattle.txn_rules.specs.State.{commit_answer, count_limit, is_closed, rollback_answer, save_refusal}
use Rattle.table_rows.specs.Definitions.{is_objects}
use Rattle.step_model.specs.declared.op.Op.TheVariants as ops
use Rattle.step_model.specs.declared.reply.Reply.{Reply}
use Rattle.step_model.specs.declared.reply.Reply.TheVariants as replies
use Rattle.step_model.specs.Ranges.{Rows, no_memory}
use Rattle.tds_tokens.specs.declared.token.Token.{Token}
use Rattle.batch_meaning.specs.declared.failure.Failure.{Failure}
use Rattle.batch_meaning.specs.Asking.{comes_to, fails, fails_naming, look_up, marked, takes_back, unless_refused, where_begun, with_room}
use Rattle.batch_meaning.specs.Changing.{created, object_present, unknown_table}
use Rattle.batch_meaning.specs.Cursors.{already_there, answered, assigns_row, closes_cursor, declares_cursor, fails_for_cursor, fetches_cursor, fetches_into, fetches_row, fills_with, kinds_of, no_such_cursor, opens_bound, opens_cursor, opens_kept, other_count, removes_cursor, select_statement}
use Rattle.batch_meaning.specs.Databases.{context_tokens, is_database, no_database, tells_context, uses_database, uses_named}
use Rattle.batch_meaning.specs.Doing.{Doing, asks, makes, over, reads, ◌then◌}
use Rattle.batch_meaning.specs.Failures.{naming, plain}
use Rattle.batch_meaning.specs.Progress.{SessionProgress, declares, fetches, fills, opens, removes, saves, shuts}
use Rattle.batch_meaning.specs.Raised.{Around}
use Rattle.batch_meaning.specs.Selecting.{Effect, bound_over, no_effect, sending}
use Rattle.batch_meaning.specs.Settings.{outside_profile}
use Rattle.batch_meaning.specs.Tokens.{transaction_begun, transaction_committed, transaction_rolled_back}
use Rattle.batch_meaning.specs.Transactions.{begins_outermost, begins_over, begins_transaction, bound_first, commits_by, commits_transaction, goes_back, named_first, next_serial, nothing_open, rolls_back_to, rolls_back_transaction, rolls_back_whole, saves_transaction, saves_unless, unless_own}
use Rattle.batch_meaning.specs.Values.{Assigned, assigned_to, outside_limits}
use Rattle.batch_meaning.specs.Working.{answers, asks_any, known_by, own, within}
use Rattle.batch_meaning.specs.Writes.{creates, creates_definition, creates_table, inserted, is_odd_list, puts_definition, unless_objects, where_table}
use Rattle.cause_laws.proofs.Usual.{UsualIf}
use Rattle.cause_laws.proofs.UsualValues.{Anything, AnswersUsual, UsualOr, assigned_usual, commit_usual, rollback_usual, save_usual}
use Rattle.cause_laws.proofs.Watch.{Guard, IsOther, Says, TellsNone, TellsOther}
use Rattle.cause_laws.proofs.Clean.{Clean, OtherOr, clean_begun, clean_bind, clean_done, clean_ended, clean_if, clean_marked, clean_naming, clean_refused, clean_room, usual_other, wants_other}
use Rattle.cause_laws.proofs.CleanParts.{EffectOther, Effects, Parts, clean_answers, clean_binds, clean_bound, clean_left, clean_look, clean_own, clean_within}

-- ---- faults of cursors

-- an answer, or a fault that is none of memory
abbrev IsFault : CursorFault → Type 0
IsFault Memory = ⊥
IsFault fault = Unit {0}

abbrev IsKnown : {A : Type 0} → Result A CursorFault → Type 0
IsKnown (Ok a) = Unit {0}
IsKnown (Err fault) = IsFault fault

known_in : {A : Type 0} (give : Cursor Select → Result A CursorFault) (found : Option (Cursor Select)) → ((cursor : Cursor Select) → IsKnown (give cursor)) → IsKnown (list.given_in give found)
known_in give None known = tt
known_in give (Some cursor) known = known cursor

known_given : {A : Type 0} (give : AnswerLeft → A) (left : Option AnswerLeft) → IsKnown (list.given_by give left)
known_given give None = tt
known_given give (Some left) = tt

known_on : (left : Option AnswerLeft) → IsKnown (list.fill_on left)
known_on None = tt
known_on (Some left) = tt

known_unless : (found : Option (Cursor Select)) → IsKnown (list.unless_present found)
known_unless None = tt
known_unless (Some cursor) = tt

module _ (error : Guard) where
  -- ---- CREATE

  clean_back : (mark : ℕ) (failure : Failure) → IsOther error failure.number → Parts error (takes_back mark failure)
  unfolding takes_back
  clean_back mark failure other = λ reply says. clean_done error (OtherOr error {A = Unit {0}} Anything) (over (Err failure)) other reply

  clean_inserted : (mark : ℕ) (name : List ℕ) (reply : Reply) → Says error reply → Parts error (inserted mark name reply)
  clean_inserted mark name replies.Done says = tt
  clean_inserted mark name replies.Exists says = λ enough may. clean_back mark (if enough then naming object_present name else plain no_memory) (by_room enough may)
    where
      by_room : (b : Bool) → error.watch.May b → IsOther error (if b then naming object_present name else plain no_memory).number
      by_room true may = usual_other error (pos 2714) refl
      by_room false may = wants_other error may
  clean_inserted mark name replies.Memory says = clean_back mark (plain no_memory) (error.watch.memory says)
  clean_inserted mark name (replies.TimedOut holder held wanted on) says = clean_back mark _ (error.watch.timed holder held wanted on says)
  clean_inserted mark name (replies.Victim cycle) says = clean_back mark _ (error.watch.victim cycle says)
  clean_inserted mark name reply says = tt

  clean_creates : (name text : List ℕ) → Effects error (creates name text)
  unfolding creates
  clean_creates name text = clean_bind error {A = Unit {0}} Anything (EffectOther error) (with_room (asks ops.Mark (unless_refused (marked λ mark. asks (created name text) (inserted mark name))))) (λ put. over (Ok no_effect))
      (clean_room error {A = Unit {0}} Anything (asks ops.Mark (unless_refused (marked λ mark. asks (created name text) (inserted mark name))))
      (clean_refused error {A = Unit {0}} Anything (marked λ mark. asks (created name text) (inserted mark name)) (λ reply says. clean_marked error {A = Unit {0}} Anything (λ mark. asks (created name text) (inserted mark name)) (λ mark. clean_inserted mark name) reply)))
      (λ put any. tt)

  clean_objects : (name : List ℕ) (tree : Doing (Result Effect Failure)) → Effects error tree → Effects error (unless_objects name tree)
  clean_objects name tree clean = clean_if error (OtherOr error (EffectOther error)) (is_objects name) (fails_naming object_present name) tree (clean_naming error Effect (EffectOther error) object_present name refl) clean

  pub clean_create : (around : Around) (statement : Statement) (name text : List ℕ) → Effects error (creates_table around statement name text)
  unfolding creates_table
  clean_create around statement name text = clean_room error (EffectOther error) _ (clean_if error (OtherOr error (EffectOther error)) (asks_any (known_by around statement) (looked_up statement)) _ _
      (clean_own error (EffectOther error) true _ (clean_binds error (EffectOther error) around statement (λ shapes of. unless_objects name (creates name text)) (λ shapes of. clean_objects name (creates name text) (clean_creates name text))))
      (clean_binds error (EffectOther error) around statement (λ shapes of. unless_objects name (own true (creates name text))) (λ shapes of. clean_objects name (own true (creates name text)) (clean_own error (EffectOther error) true (creates name text) (clean_creates name text)))))

  clean_puts : (outside : Bool) (name : List ℕ) (tree : Doing (Result Effect Failure)) → Effects error tree → Effects error (puts_definition outside name tree)
  clean_puts outside name tree clean = clean_if error (OtherOr error (EffectOther error)) outside (fails outside_limits) (unless_objects name tree) (usual_other error (pos 49007) refl) (clean_objects name tree clean)

  pub clean_definition : (of : Definition) (text : List ℕ) → Effects error (creates_definition of text)
  unfolding creates_definition
  clean_definition (Table table) text = usual_other error (pos 49007) refl
  clean_definition (Procedure procedure) text = clean_room error (EffectOther error) _ (clean_puts (is_long procedure.name || is_odd_list procedure.parameters) procedure.name (own true (creates procedure.name text)) (clean_own error (EffectOther error) true (creates procedure.name text) (clean_creates procedure.name text)))
  clean_definition (Trigger trigger) text = clean_room error (EffectOther error) _ (clean_own error (EffectOther error) (not (is_objects trigger.table)) _ (clean_bind error {A = Option Definition} Anything (EffectOther error) (look_up trigger.table) (where_table trigger.table putting) (clean_look error trigger.table) (λ found any. by_found found)))
    where
      putting : Doing (Result Effect Failure)
      putting = puts_definition (is_long trigger.name) trigger.name (creates trigger.name text)

      missing : Effects error (fails_naming unknown_table trigger.table)
      missing = clean_naming error Effect (EffectOther error) unknown_table trigger.table refl

      by_found : (found : Option Definition) → Effects error (where_table trigger.table putting found)
      by_found (Some (Table table)) = clean_if error (OtherOr error (EffectOther error)) (same_units table.name trigger.table) putting (fails_naming unknown_table trigger.table) (clean_puts (is_long trigger.name) trigger.name (creates trigger.name text) (clean_creates trigger.name text)) missing
      by_found (Some (Procedure procedure)) = missing
      by_found (Some (Trigger other)) = missing
      by_found None = missing

  -- ---- transactions

  clean_first : (statement : Statement) (go : SessionProgress → Doing (Result Effect Failure)) → ((p : SessionProgress) → Effects error (go p)) → Effects error (bound_first statement go)
  clean_first statement go clean = clean_bind error {A = Bound} Anything (EffectOther error) (reads λ p. comes_to (bound_over [] p.vars statement)) (λ of. with_room (reads go)) (clean_bound error [] statement) (λ of any. clean_room error (EffectOther error) (reads go) (λ p at. clean p))

  pub clean_outermost : (name : Option (List ℕ)) (serial : ℕ) → Effects error (begins_outermost name serial)
  unfolding begins_outermost
  clean_outermost name serial = clean_left error (EffectOther error) (transaction_begun serial ∷ []) _ (clean_room error (EffectOther error) _ (clean_refused error (EffectOther error) (where_begun (makes (opens name) (over (Ok (sending (transaction_begun serial ∷ []))))))
      (λ reply says. clean_begun error (EffectOther error) (makes (opens name) (over (Ok (sending (transaction_begun serial ∷ []))))) (tt, (tt, tt)) reply)))

  pub clean_begins : (statement : Statement) (name : Option (List ℕ)) → Effects error (begins_transaction statement name)
  unfolding begins_transaction
  clean_begins statement name = clean_first statement (begins_over name) (λ p. clean_if error (OtherOr error (EffectOther error)) (not p.is_open) (begins_outermost name (next_serial p.txn)) _ (clean_outermost name (next_serial p.txn))
      (clean_if error (OtherOr error (EffectOther error)) (nat_le count_limit p.txn.count) (fails outside_profile) (makes (opens name) (over (Ok no_effect))) (usual_other error (pos 49004) refl) (tt, tt)))

  own_other : (is_own : Bool) (token : Token) → TellsOther error token → TellsNone error (unless_own is_own token)
  own_other true token other = tt
  own_other false token other = (other, tt)

  clean_named : (name : Option (List ℕ)) (go : SessionProgress → Doing (Result Effect Failure)) → ((p : SessionProgress) → Effects error (go p)) → Effects error (named_first name go)
  clean_named name go clean = clean_if error (OtherOr error (EffectOther error)) (is_maybe_long name) (fails outside_limits) (reads go) (usual_other error (pos 49007) refl) (λ p at. clean p)

  pub clean_commits : (name : Option (List ℕ)) → Effects error (commits_transaction name)
  unfolding commits_transaction
  clean_commits name = clean_named name (λ p. commits_by p (commit_answer p.txn)) (λ p. by_answer p (commit_answer p.txn) (commit_usual p.txn))
    where
      by_answer : (p : SessionProgress) (answer : Result Bool ℤ) → AnswersUsual answer → Effects error (commits_by p answer)
      by_answer p (Err number) usual = usual_other error number usual
      by_answer p (Ok false) usual = (tt, tt)
      by_answer p (Ok true) usual = clean_left error (EffectOther error) (unless_own p.is_own (transaction_committed p.txn.serial)) _
          (λ reply says. clean_ended error (OtherOr error (EffectOther error)) (over (Ok (sending (unless_own p.is_own (transaction_committed p.txn.serial))))) (own_other p.is_own (transaction_committed p.txn.serial) tt) reply)

  clean_whole : (p : SessionProgress) → Effects error (rolls_back_whole p)
  unfolding rolls_back_whole
  clean_whole p = clean_left error (EffectOther error) (unless_own p.is_own (transaction_rolled_back p.txn.serial)) _
      (λ reply says. clean_ended error (OtherOr error (EffectOther error)) (over (Ok (sending (unless_own p.is_own (transaction_rolled_back p.txn.serial))))) (own_other p.is_own (transaction_rolled_back p.txn.serial) tt) reply)

  pub clean_rolls : (name : Option (List ℕ)) → Effects error (rolls_back_transaction name)
  unfolding rolls_back_transaction
  clean_rolls name = clean_named name (rolls_back_to name) (by_name name)
    where
      by_answer : (called : List ℕ) (p : SessionProgress) (answer : Result BackKind ℤ) → AnswersUsual answer → Effects error (goes_back called p answer)
      by_answer called p (Err number) usual = clean_room error (EffectOther error) (over (Err (record { number = number; name = Some called }))) (usual_other error number usual)
      by_answer called p (Ok Whole) usual = clean_whole p
      by_answer called p (Ok (Mark mark)) usual = λ reply says. clean_done error (OtherOr error (EffectOther error)) (over (Ok no_effect)) tt reply

      by_name : (name : Option (List ℕ)) (p : SessionProgress) → Effects error (rolls_back_to name p)
      by_name None p = clean_if error (OtherOr error (EffectOther error)) (is_closed p.txn) (fails nothing_open) (rolls_back_whole p) (usual_other error (pos 3903) refl) (clean_whole p)
      by_name (Some called) p = by_answer called p (rollback_answer called p.txn) (rollback_usual called p.txn)

  pub clean_saves : (statement : Statement) (name : List ℕ) → Effects error (saves_transaction statement name)
  unfolding saves_transaction
  clean_saves statement name = clean_first statement (λ p. saves_unless name (save_refusal p.txn)) (λ p. by_refusal (save_refusal p.txn) (save_usual p.txn))
    where
      by_refusal : (refusal : Option ℤ) → UsualIf refusal → Effects error (saves_unless name refusal)
      by_refusal (Some number) usual = usual_other error number usual
      by_refusal None usual = clean_room error (EffectOther error) _ (clean_refused error (EffectOther error) (marked λ mark. with_room (makes (saves name mark) (over (Ok no_effect))))
          (λ reply says. clean_marked error (EffectOther error) (λ mark. with_room (makes (saves name mark) (over (Ok no_effect)))) (λ mark. clean_room error (EffectOther error) (makes (saves name mark) (over (Ok no_effect))) (tt, tt)) reply))

  -- ---- cursors

  clean_fault : {B : Type 0} (P : B → Type 0) (name : List ℕ) (fault : CursorFault) → IsFault fault → Clean error (OtherOr error P) (fails_for_cursor {A = B} name fault)
  clean_fault {B = B} P name Present known = clean_naming error B P already_there name refl
  clean_fault {B = B} P name NoSuch known = clean_naming error B P no_such_cursor name refl
  clean_fault P name AlreadyFilled known = usual_other error (pos 16905) refl
  clean_fault P name NotFilled known = usual_other error (pos 16917) refl
  clean_fault P name Memory known = absurd known

  clean_answered : {A : Type 0} (name : List ℕ) (go : A → Doing (Result Effect Failure)) (answer : Result A CursorFault) → IsKnown answer → ((a : A) → Effects error (go a)) → Effects error (answered name go answer)
  clean_answered name go (Ok a) known clean = clean a
  clean_answered name go (Err fault) known clean = clean_fault (EffectOther error) name fault known

  pub clean_declares : (statement : Statement) (name : List ℕ) (select : Select) → Effects error (declares_cursor statement name select)
  unfolding declares_cursor
  clean_declares statement name select = clean_first statement _ (λ p. clean_answered name (λ done. makes (declares name select) (over (Ok no_effect))) (list.declare_answer name p.cursors) (known_unless (list.cursor_of name p.cursors)) (λ done. (tt, tt)))

  clean_filled : (around : Around) (name : List ℕ) (shapes : List TableTree) (of : Bound) → Effects error (opens_bound around name shapes of)
  unfolding fills_with
  clean_filled around name shapes (bound.Query query) = clean_bind error {A = Rows} Anything (EffectOther error) (answers around shapes query) _ (clean_answers error around shapes query) (λ rows any. clean_room error (EffectOther error) (makes (fills name (kinds_of query) rows) (over (Ok no_effect))) (tt, tt))
  clean_filled around name shapes (bound.Assign query places) = usual_other error (pos 49007) refl
  clean_filled around name shapes (bound.Write write) = usual_other error (pos 49007) refl
  clean_filled around name shapes bound.Plain = usual_other error (pos 49007) refl

  pub clean_opens : (around : Around) (statement : Statement) (name : List ℕ) → Effects error (opens_cursor around statement name)
  unfolding opens_cursor
  clean_opens around statement name = clean_first statement (λ p. answered name (opens_kept around statement name p) (list.query_of name p.cursors)) (λ p. clean_answered name (opens_kept around statement name p) (list.query_of name p.cursors) (known_in (λ cursor. Ok cursor.query) (list.cursor_of name p.cursors) (λ cursor. tt))
      (λ select. clean_answered name (λ done. within around (select_statement statement select) (opens_bound around name)) (list.fill_answer name p.cursors) (known_in (λ cursor. list.fill_on cursor.answer) (list.cursor_of name p.cursors) (λ cursor. known_on cursor.answer)) (λ done. clean_within error (EffectOther error) around (select_statement statement select) (opens_bound around name) (clean_filled around name))))

  clean_row : (p : SessionProgress) (name : List ℕ) (variables : List (List ℕ)) (row : Option (List Value)) → Effects error (fetches_row p name variables row)
  clean_row p name variables None = (tt, tt)
  clean_row p name variables (Some row) = clean_room error (EffectOther error) (makes (fetches name) (assigns_row (assigned_to p.vars variables row))) (tt, by_sets (assigned_to p.vars variables row) (assigned_usual p.vars variables row))
    where
      by_sets : (sets : Result (List Assigned) Failure) → UsualOr Anything sets → Effects error (assigns_row sets)
      by_sets (Ok sets) usual = (tt, tt)
      by_sets (Err failure) usual = usual_other error failure.number usual

  pub clean_fetches : (statement : Statement) (name : List ℕ) (variables : List (List ℕ)) → Effects error (fetches_cursor statement name variables)
  unfolding fetches_cursor
  clean_fetches statement name variables = clean_first statement (λ p. answered name (fetches_into p name variables) (list.kinds_of name p.cursors)) (λ p. clean_answered name (fetches_into p name variables) (list.kinds_of name p.cursors) (known_in (λ cursor. list.given_by (λ left. left.kinds) cursor.answer) (list.cursor_of name p.cursors) (λ cursor. known_given (λ left. left.kinds) cursor.answer))
      (λ kinds. clean_if error (OtherOr error (EffectOther error)) (length variables == length kinds) _ (fails other_count)
      (clean_answered name (fetches_row p name variables) (list.next_of name p.cursors) (known_in (λ cursor. list.given_by list.first_row cursor.answer) (list.cursor_of name p.cursors) (λ cursor. known_given list.first_row cursor.answer)) (clean_row p name variables)) (usual_other error (pos 49012) refl)))

  pub clean_shuts : (statement : Statement) (name : List ℕ) → Effects error (closes_cursor statement name)
  unfolding closes_cursor
  clean_shuts statement name = clean_first statement _ (λ p. clean_answered name (λ done. makes (shuts name) (over (Ok no_effect))) (list.close_answer name p.cursors) (known_in {A = Unit {0}} (λ cursor. list.given_by (λ left. tt) cursor.answer) (list.cursor_of name p.cursors) (λ cursor. known_given {A = Unit {0}} (λ left. tt) cursor.answer)) (λ done. (tt, tt)))

  pub clean_removes : (statement : Statement) (name : List ℕ) → Effects error (removes_cursor statement name)
  unfolding removes_cursor
  clean_removes statement name = clean_first statement _ (λ p. clean_answered name (λ done. makes (removes name) (over (Ok no_effect))) (list.remove_answer name p.cursors) (known_in {A = Unit {0}} (λ cursor. Ok tt) (list.cursor_of name p.cursors) (λ cursor. tt)) (λ done. (tt, tt)))

  -- ---- USE

  pub clean_uses : (around : Around) (statement : Statement) (name : List ℕ) → Effects error (uses_database around statement name)
  unfolding uses_database
  clean_uses around statement name = clean_first statement (λ p. uses_named around statement name) (λ p.
      clean_if error (OtherOr error (EffectOther error)) (is_database name) (tells_context (context_tokens around.procedure (pos (out-Statement statement).line))) (fails_naming no_database name)
      (clean_left error (EffectOther error) (context_tokens around.procedure (pos (out-Statement statement).line)) _ (tt, (tt, tt)))
      (clean_naming error Effect (EffectOther error) no_database name refl))
