-- BEGIN TRANSACTION, COMMIT, ROLLBACK and SAVE TRANSACTION.
use Rattle.std.proofs.Common.{◌≡◌, ◌≢◌, ◌⊎◌, inl, inr, ℕ, ◌==◌, ℤ, pos, Bool, true, false, if◌then◌else◌, List, [], ◌∷◌, Option, None, Some, Result, Ok, Err, refl, sym, ap, ◌∙◌, subst, append-nil}
use Rattle.std.specs.Ordering.{int_eq}
use Rattle.std.specs.Prelude.{nat_le, nat_lt, not}
use Rattle.tsql_tree.specs.declared.statement.Statement.{Statement}
use Rattle.binder.specs.Statements.{is_maybe_long}
use Rattle.bound_tree.specs.declared.write.Bound.{Bound}
use Rattle.step_model.specs.declared.op.Op.TheVariants as ops
use Rattle.step_model.specs.declared.reply.Reply.{Reply}
use Rattle.step_model.specs.declared.reply.Reply.TheVariants as replies
use Rattle.step_model.specs.Exchange.{CanReply, Exchange}
use Rattle.step_model.specs.Fits.{commit_of, commits_from}
use Rattle.step_model.specs.Net.{Net}
use Rattle.step_model.specs.Own.{Progress as Stand, progress_from}
use Rattle.step_model.specs.Ranges.{no_memory}
use Rattle.txn_rules.specs.declared.state.BackKind.{BackKind}
use Rattle.txn_rules.specs.declared.state.BackKind.TheVariants.{Mark, Whole}
use Rattle.txn_rules.specs.declared.state.TxnState.{TxnState}
use Rattle.txn_rules.specs.State.{commit_answer, count_limit, is_closed, rollback_answer, save_refusal}
use Rattle.tds_tokens.specs.declared.token.Token.{Token}
use Rattle.batch_meaning.specs.declared.failure.Failure.{Failure}
use Rattle.batch_meaning.specs.Asking.{fails, if_bytes_left, marked, on_ok, unless_refused, where_begun, where_done, where_ended, with_room}
use Rattle.batch_meaning.specs.Doing.{Doing, over, reads, makes, asks, ◌then◌, Held}
use Rattle.batch_meaning.specs.Failures.{plain}
use Rattle.batch_meaning.specs.Progress.{SessionProgress, asked, opens, saves, size_of}
use Rattle.batch_meaning.specs.Selecting.{Effect, bound_over, no_effect, result_full, sending}
use Rattle.batch_meaning.specs.Settings.{outside_profile}
use Rattle.batch_meaning.specs.Tokens.{transaction_begun, transaction_committed, transaction_rolled_back}
use Rattle.batch_meaning.specs.Values.{outside_limits}
use Rattle.batch_meaning.specs.Transactions.{begins_outermost, begins_over, begins_transaction, bound_first, commits_by, commits_transaction, goes_back, named_first, next_serial, nothing_open, rolls_back_to, rolls_back_transaction, rolls_back_whole, saves_transaction, saves_unless, unless_own}
use Rattle.statement_paths.specs.Paths.{replied}
use Rattle.statement_paths.proofs.Dialogs.{is_replied}
use Rattle.batch_laws.specs.Committing.{Agrees}
use Rattle.batch_laws.specs.Transactions.{back_for, BeginLeaves, Begins, Closes, CommitLeaves, CommitsBy, LeavesAll, LeavesBack, RollbackLeaves, RollsBack, SaveLeaves, Saves}

-- ---- numbers that are no want of memory

no_want : (number : ℤ) → int_eq number (pos no_memory) ≡ false → number ≢ pos no_memory
no_want number other same = absurd (let no : true ≡ false = sym (ap (λ (n : ℤ). int_eq n (pos no_memory)) same) ∙ other in cc)

-- those by which COMMIT is refused
commit_other : (txn : TxnState) (number : ℤ) → commit_answer txn ≡ Err number → number ≢ pos no_memory
commit_other txn number is = by_closed (is_closed txn) is
  where
    by_number : (from : ℕ) → int_eq (pos from) (pos no_memory) ≡ false → pos from ≡ number → number ≢ pos no_memory
    by_number from other same = subst (λ (n : ℤ). n ≢ pos no_memory) same (no_want (pos from) other)

    by_doom : (doomed : Bool) → (if doomed then Err (pos 3930) else Ok (txn.count == 1)) ≡ Err number → number ≢ pos no_memory
    by_doom true same = by_number 3930 refl (let so : pos 3930 ≡ number = cc in so)
    by_doom false same = absurd cc

    by_closed : (closed : Bool) → (if closed then Err (pos 3902) else if txn.doomed then Err (pos 3930) else Ok (txn.count == 1)) ≡ Err number → number ≢ pos no_memory
    by_closed true same = by_number 3902 refl (let so : pos 3902 ≡ number = cc in so)
    by_closed false same = by_doom txn.doomed same

module _ (p new : SessionProgress) (exchanges : List Exchange) (came : Result Effect Failure) where
  abbrev pub Failed : Type 0
  Failed = (failure : Failure) × (came ≡ Err failure) × (exchanges ≡ []) × (new ≡ p)

  -- the same, and memory was not wanting
  abbrev Denied : Type 0
  Denied = (failure : Failure) × (came ≡ Err failure) × (exchanges ≡ []) × (new ≡ p) × (failure.number ≢ pos no_memory)

  failed_so : Denied → Failed
  failed_so denied = (denied.0, denied.1, denied.2, denied.3)

  denied_by : (number : ℕ) → int_eq (pos number) (pos no_memory) ≡ false → (exchanges ≡ []) × (came ≡ Err (plain number)) × (new ≡ p) → Denied
  denied_by number other was = (plain number, was.1, was.0, was.2, no_want (pos number) other)

  -- ---- its parts

  pub room_or : (tree : Doing (Result Effect Failure)) → Held (with_room tree) p exchanges came new → Failed ⊎ Held tree p exchanges came new
  unfolding Held
  room_or tree held = by_enough held.0 held.1
    where
      by_enough : (enough : Bool) → Held (if enough then tree else fails no_memory) p exchanges came new → Failed ⊎ Held tree p exchanges came new
      by_enough true was = inr was
      by_enough false was = inl (plain no_memory, was.1, was.0, was.2)

  bytes_or : (tokens : List Token) (tree : Doing (Result Effect Failure)) → Held (if_bytes_left tokens tree) p exchanges came new → Denied ⊎ Held tree p exchanges came new
  unfolding Held
  bytes_or tokens tree held = by_test (nat_lt p.bytes_left (size_of tokens)) held
    where
      by_test : (test : Bool) → Held (if test then fails result_full else tree) p exchanges came new → Denied ⊎ Held tree p exchanges came new
      by_test true was = inl (denied_by result_full refl was)
      by_test false was = inr was

  -- it is bound first
  pub first_or : (statement : Statement) (go : SessionProgress → Doing (Result Effect Failure)) → Held (bound_first statement go) p exchanges came new → Failed ⊎ Held (go p) p exchanges came new
  unfolding Held ◌then◌
  first_or statement go held = by_enough held.0 held.1
    where
      by_bound : (of : Result Bound Failure) → Held (on_ok (λ of. with_room (reads go)) of) p exchanges came new → Failed ⊎ Held (go p) p exchanges came new
      by_bound (Ok of) was = by_room (room_or (reads go) was)
        where
          by_room : Failed ⊎ Held (reads go) p exchanges came new → Failed ⊎ Held (go p) p exchanges came new
          by_room (inl failed) = inl failed
          by_room (inr here) = inr here
      by_bound (Err failure) was = inl (failure, was.1, was.0, was.2)

      by_enough : (enough : Bool) → Held ((if enough then over (bound_over [] p.vars statement) else fails no_memory) then on_ok (λ of. with_room (reads go))) p exchanges came new → Failed ⊎ Held (go p) p exchanges came new
      by_enough true was = by_bound (bound_over [] p.vars statement) was
      by_enough false was = inl (plain no_memory, was.1, was.0, was.2)

  -- or its name is looked at
  named_or : (name : Option (List ℕ)) (go : SessionProgress → Doing (Result Effect Failure)) → Held (named_first name go) p exchanges came new → Denied ⊎ Held (go p) p exchanges came new
  unfolding Held
  named_or name go held = by_name (is_maybe_long name) held
    where
      by_name : (test : Bool) → Held (if test then fails outside_limits else reads go) p exchanges came new → Denied ⊎ Held (go p) p exchanges came new
      by_name true was = inl (denied_by outside_limits refl was)
      by_name false was = inr was

  -- ---- BEGIN TRANSACTION

  begin_refused : (name : Option (List ℕ)) (is_open : Bool) → Failed → Begins p name is_open came exchanges new
  begin_refused name is_open failed = subst (λ (r : Result Effect Failure). Begins p name is_open r exchanges new) (sym failed.1) (by_open is_open)
    where
      by_open : (is_open : Bool) → Begins p name is_open (Err failed.0) exchanges new
      by_open true = inl (failed.2, failed.3)
      by_open false = inl (failed.2, failed.3)

  begin_asks : (name : Option (List ℕ)) → Held (asks ops.Begin (unless_refused (where_begun (makes (opens name) (over (Ok (sending (transaction_begun (next_serial p.txn) ∷ [])))))))) p exchanges came new → Begins p name false came exchanges new
  unfolding Held
  begin_asks name held = by_list exchanges refl held
    where
      by_list : (xs : List Exchange) → exchanges ≡ xs → Held (asks ops.Begin (unless_refused (where_begun (makes (opens name) (over (Ok (sending (transaction_begun (next_serial p.txn) ∷ [])))))))) p xs came new → Begins p name false came exchanges new
      by_list [] is was = absurd was
      by_list (x ∷ later) is was = by_reply x.reply refl was.2 was.3
        where
          by_reply : (reply : Reply) → x.reply ≡ reply → CanReply ops.Begin reply → Held (unless_refused (where_begun (makes (opens name) (over (Ok (sending (transaction_begun (next_serial p.txn) ∷ [])))))) reply) (asked ops.Begin reply p) later came new → Begins p name false came exchanges new
          by_reply replies.Began told can so = subst (λ (r : Result Effect Failure). Begins p name false r exchanges new) (sym so.1)
              (is ∙ ap (λ (y : Exchange). y ∷ later) (is_replied x p.settings.manner ops.Begin replies.Began was.0 was.1 told) ∙ ap (λ (l : List Exchange). replied p.settings.manner ops.Begin replies.Began ∷ l) so.0, refl, so.2)
          by_reply replies.Memory told can so = subst (λ (r : Result Effect Failure). Begins p name false r exchanges new) (sym so.1)
              (inr (refl, is ∙ ap (λ (y : Exchange). y ∷ later) (is_replied x p.settings.manner ops.Begin replies.Memory was.0 was.1 told) ∙ ap (λ (l : List Exchange). replied p.settings.manner ops.Begin replies.Memory ∷ l) so.0, so.2))
          by_reply reply told can so = absurd can

  outermost_over : (name : Option (List ℕ)) → Held (begins_outermost name (next_serial p.txn)) p exchanges came new → Begins p name false came exchanges new
  unfolding begins_outermost Held
  outermost_over name held = by_bytes (bytes_or _ _ held)
    where
      by_room : Failed ⊎ Held (asks ops.Begin (unless_refused (where_begun (makes (opens name) (over (Ok (sending (transaction_begun (next_serial p.txn) ∷ [])))))))) p exchanges came new → Begins p name false came exchanges new
      by_room (inl failed) = begin_refused name false failed
      by_room (inr here) = begin_asks name here

      by_bytes : Denied ⊎ Held (with_room (asks ops.Begin (unless_refused (where_begun (makes (opens name) (over (Ok (sending (transaction_begun (next_serial p.txn) ∷ []))))))))) p exchanges came new → Begins p name false came exchanges new
      by_bytes (inl denied) = begin_refused name false (failed_so denied)
      by_bytes (inr here) = by_room (room_or _ here)

  -- one that is begun unseen wants memory first
  pub outermost_held : (name : Option (List ℕ)) → Held (with_room (begins_outermost name (next_serial p.txn))) p exchanges came new → Begins p name false came exchanges new
  outermost_held name held = by_room (room_or (begins_outermost name (next_serial p.txn)) held)
    where
      by_room : Failed ⊎ Held (begins_outermost name (next_serial p.txn)) p exchanges came new → Begins p name false came exchanges new
      by_room (inl failed) = begin_refused name false failed
      by_room (inr here) = outermost_over name here

  begin_over : (name : Option (List ℕ)) → Held (begins_over name p) p exchanges came new → Begins p name p.is_open came exchanges new
  unfolding Held
  begin_over name held = by_open p.is_open held
    where
      by_count : (test : Bool) → Held (if test then fails outside_profile else makes (opens name) (over (Ok no_effect))) p exchanges came new → Begins p name true came exchanges new
      by_count true was = begin_refused name true (plain outside_profile, was.1, was.0, was.2)
      by_count false was = subst (λ (r : Result Effect Failure). Begins p name true r exchanges new) (sym was.1) (was.0, refl, was.2)

      by_open : (is_open : Bool) → Held (if not is_open then begins_outermost name (next_serial p.txn) else if nat_le count_limit p.txn.count then fails outside_profile else makes (opens name) (over (Ok no_effect))) p exchanges came new → Begins p name is_open came exchanges new
      by_open true was = by_count (nat_le count_limit p.txn.count) was
      by_open false was = outermost_over name was

  pub begin_held : (statement : Statement) (name : Option (List ℕ)) → Held (begins_transaction statement name) p exchanges came new → Begins p name p.is_open came exchanges new
  unfolding begins_transaction
  begin_held statement name held = by_first (first_or statement (begins_over name) held)
    where
      by_first : Failed ⊎ Held (begins_over name p) p exchanges came new → Begins p name p.is_open came exchanges new
      by_first (inl failed) = begin_refused name p.is_open failed
      by_first (inr here) = begin_over name here

  -- ---- COMMIT

  close_denied : (answer : Result Bool ℤ) → Denied → Closes p answer came exchanges new
  close_denied answer denied = subst (λ (r : Result Effect Failure). Closes p answer r exchanges new) (sym denied.1) (by_answer answer)
    where
      by_answer : (answer : Result Bool ℤ) → Closes p answer (Err denied.0) exchanges new
      by_answer (Ok true) = ((denied.2, denied.3), denied.4)
      by_answer (Ok false) = ((denied.2, denied.3), denied.4)
      by_answer (Err number) = ((denied.2, denied.3), denied.4)

  close_asks : Held (asks ops.Commit (where_ended (over (Ok (sending (unless_own p.is_own (transaction_committed p.txn.serial))))))) p exchanges came new → Closes p (Ok true) came exchanges new
  unfolding Held
  close_asks held = by_list exchanges refl held
    where
      by_list : (xs : List Exchange) → exchanges ≡ xs → Held (asks ops.Commit (where_ended (over (Ok (sending (unless_own p.is_own (transaction_committed p.txn.serial))))))) p xs came new → Closes p (Ok true) came exchanges new
      by_list [] is was = absurd was
      by_list (x ∷ later) is was = by_reply x.reply refl was.2 was.3
        where
          by_reply : (reply : Reply) → x.reply ≡ reply → CanReply ops.Commit reply → Held {A = Result Effect Failure} (where_ended (over (Ok (sending (unless_own p.is_own (transaction_committed p.txn.serial))))) reply) (asked ops.Commit reply p) later came new → Closes p (Ok true) came exchanges new
          by_reply (replies.Ended place) told can so = subst (λ (r : Result Effect Failure). Closes p (Ok true) r exchanges new) (sym so.1)
              (refl, (place, is ∙ ap (λ (y : Exchange). y ∷ later) (is_replied x p.settings.manner ops.Commit (replies.Ended place) was.0 was.1 told) ∙ ap (λ (l : List Exchange). replied p.settings.manner ops.Commit (replies.Ended place) ∷ l) so.0, so.2))
          by_reply reply told can so = absurd can

  close_by : (answer : Result Bool ℤ) → ((number : ℤ) → answer ≡ Err number → number ≢ pos no_memory) → Held (commits_by p answer) p exchanges came new → Closes p answer came exchanges new
  unfolding Held
  close_by (Err number) other held = close_denied (Err number) (record { number = number; name = None }, held.1, held.0, held.2, other number refl)
  close_by (Ok false) other held = subst (λ (r : Result Effect Failure). Closes p (Ok false) r exchanges new) (sym held.1) (held.0, refl, held.2)
  close_by (Ok true) other held = by_bytes (bytes_or _ _ held)
    where
      by_bytes : Denied ⊎ Held (asks ops.Commit (where_ended (over (Ok (sending (unless_own p.is_own (transaction_committed p.txn.serial))))))) p exchanges came new → Closes p (Ok true) came exchanges new
      by_bytes (inl denied) = close_denied (Ok true) denied
      by_bytes (inr here) = close_asks here

  pub close_held : (name : Option (List ℕ)) → Held (commits_transaction name) p exchanges came new → Closes p (commit_answer p.txn) came exchanges new
  unfolding commits_transaction
  close_held name held = by_first (named_or name (λ q. commits_by q (commit_answer q.txn)) held)
    where
      by_first : Denied ⊎ Held (commits_by p (commit_answer p.txn)) p exchanges came new → Closes p (commit_answer p.txn) came exchanges new
      by_first (inl denied) = close_denied (commit_answer p.txn) denied
      by_first (inr here) = close_by (commit_answer p.txn) (commit_other p.txn) here

  -- ---- ROLLBACK

  back_refused : (number : ℤ) → Failed → RollsBack p (Err number) came exchanges new
  back_refused number failed = subst (λ (r : Result Effect Failure). RollsBack p (Err number) r exchanges new) (sym failed.1) (failed.2, failed.3)

  back_denied : (answer : Result BackKind ℤ) → Denied → RollsBack p answer came exchanges new
  back_denied answer denied = subst (λ (r : Result Effect Failure). RollsBack p answer r exchanges new) (sym denied.1) (by_answer answer)
    where
      by_answer : (answer : Result BackKind ℤ) → RollsBack p answer (Err denied.0) exchanges new
      by_answer (Ok Whole) = ((denied.2, denied.3), denied.4)
      by_answer (Ok (Mark mark)) = ((denied.2, denied.3), denied.4)
      by_answer (Err number) = (denied.2, denied.3)

  whole_asks : Held (asks ops.Rollback (where_ended (over (Ok (sending (unless_own p.is_own (transaction_rolled_back p.txn.serial))))))) p exchanges came new → RollsBack p (Ok Whole) came exchanges new
  unfolding Held
  whole_asks held = by_list exchanges refl held
    where
      by_list : (xs : List Exchange) → exchanges ≡ xs → Held (asks ops.Rollback (where_ended (over (Ok (sending (unless_own p.is_own (transaction_rolled_back p.txn.serial))))))) p xs came new → RollsBack p (Ok Whole) came exchanges new
      by_list [] is was = absurd was
      by_list (x ∷ later) is was = by_reply x.reply refl was.2 was.3
        where
          by_reply : (reply : Reply) → x.reply ≡ reply → CanReply ops.Rollback reply → Held {A = Result Effect Failure} (where_ended (over (Ok (sending (unless_own p.is_own (transaction_rolled_back p.txn.serial))))) reply) (asked ops.Rollback reply p) later came new → RollsBack p (Ok Whole) came exchanges new
          by_reply (replies.Ended place) told can so = subst (λ (r : Result Effect Failure). RollsBack p (Ok Whole) r exchanges new) (sym so.1)
              (refl, (place, is ∙ ap (λ (y : Exchange). y ∷ later) (is_replied x p.settings.manner ops.Rollback (replies.Ended place) was.0 was.1 told) ∙ ap (λ (l : List Exchange). replied p.settings.manner ops.Rollback (replies.Ended place) ∷ l) so.0, so.2))
          by_reply reply told can so = absurd can

  whole_back : Held (rolls_back_whole p) p exchanges came new → RollsBack p (Ok Whole) came exchanges new
  unfolding rolls_back_whole
  whole_back held = by_bytes (bytes_or _ _ held)
    where
      by_bytes : Denied ⊎ Held (asks ops.Rollback (where_ended (over (Ok (sending (unless_own p.is_own (transaction_rolled_back p.txn.serial))))))) p exchanges came new → RollsBack p (Ok Whole) came exchanges new
      by_bytes (inl denied) = back_denied (Ok Whole) denied
      by_bytes (inr here) = whole_asks here

  mark_back : (mark : ℕ) → Held (asks (ops.BackTo mark) (where_done (over (Ok no_effect)))) p exchanges came new → RollsBack p (Ok (Mark mark)) came exchanges new
  unfolding Held
  mark_back mark held = by_list exchanges refl held
    where
      by_list : (xs : List Exchange) → exchanges ≡ xs → Held (asks (ops.BackTo mark) (where_done (over (Ok no_effect)))) p xs came new → RollsBack p (Ok (Mark mark)) came exchanges new
      by_list [] is was = absurd was
      by_list (x ∷ later) is was = by_reply x.reply refl was.2 was.3
        where
          by_reply : (reply : Reply) → x.reply ≡ reply → CanReply (ops.BackTo mark) reply → Held {A = Result Effect Failure} (where_done (over (Ok no_effect)) reply) (asked (ops.BackTo mark) reply p) later came new → RollsBack p (Ok (Mark mark)) came exchanges new
          by_reply replies.Done told can so = subst (λ (r : Result Effect Failure). RollsBack p (Ok (Mark mark)) r exchanges new) (sym so.1)
              (is ∙ ap (λ (y : Exchange). y ∷ later) (is_replied x p.settings.manner (ops.BackTo mark) replies.Done was.0 was.1 told) ∙ ap (λ (l : List Exchange). replied p.settings.manner (ops.BackTo mark) replies.Done ∷ l) so.0, refl, so.2)
          by_reply reply told can so = absurd can

  back_by : (name : List ℕ) (answer : Result BackKind ℤ) → Held (goes_back name p answer) p exchanges came new → RollsBack p answer came exchanges new
  unfolding Held
  back_by name (Ok Whole) held = whole_back held
  back_by name (Ok (Mark mark)) held = mark_back mark held
  back_by name (Err number) held = by_room (room_or _ held)
    where
      by_room : Failed ⊎ Held (over (Err (record { number = number; name = Some name }))) p exchanges came new → RollsBack p (Err number) came exchanges new
      by_room (inl failed) = back_refused number failed
      by_room (inr here) = back_refused number (record { number = number; name = Some name }, here.1, here.0, here.2)

  back_to : (name : Option (List ℕ)) → Held (rolls_back_to name p) p exchanges came new → RollsBack p (back_for name p.txn) came exchanges new
  unfolding Held
  back_to None held = by_closed (is_closed p.txn) held
    where
      by_closed : (closed : Bool) → Held (if closed then fails nothing_open else rolls_back_whole p) p exchanges came new → RollsBack p (if closed then Err (pos nothing_open) else Ok Whole) came exchanges new
      by_closed true was = back_refused (pos nothing_open) (plain nothing_open, was.1, was.0, was.2)
      by_closed false was = whole_back was
  back_to (Some name) held = back_by name (rollback_answer name p.txn) held

  pub back_held : (name : Option (List ℕ)) → Held (rolls_back_transaction name) p exchanges came new → RollsBack p (back_for name p.txn) came exchanges new
  unfolding rolls_back_transaction
  back_held name held = by_first (named_or name (rolls_back_to name) held)
    where
      by_first : Denied ⊎ Held (rolls_back_to name p) p exchanges came new → RollsBack p (back_for name p.txn) came exchanges new
      by_first (inl denied) = back_denied (back_for name p.txn) denied
      by_first (inr here) = back_to name here

  -- ---- SAVE TRANSACTION

  save_refused : (name : List ℕ) (refusal : Option ℤ) → Failed → Saves p name refusal came exchanges new
  save_refused name refusal failed = subst (λ (r : Result Effect Failure). Saves p name refusal r exchanges new) (sym failed.1) (by_refusal refusal)
    where
      by_refusal : (refusal : Option ℤ) → Saves p name refusal (Err failed.0) exchanges new
      by_refusal None = inl (failed.2, failed.3)
      by_refusal (Some number) = inl (failed.2, failed.3)

  save_asks : (name : List ℕ) → Held (asks ops.Mark (unless_refused (marked λ mark. with_room (makes (saves name mark) (over (Ok no_effect)))))) p exchanges came new → Saves p name None came exchanges new
  unfolding Held
  save_asks name held = by_list exchanges refl held
    where
      by_list : (xs : List Exchange) → exchanges ≡ xs → Held (asks ops.Mark (unless_refused (marked λ mark. with_room (makes (saves name mark) (over (Ok no_effect)))))) p xs came new → Saves p name None came exchanges new
      by_list [] is was = absurd was
      by_list (x ∷ later) is was = by_reply x.reply refl was.2 was.3
        where
          by_room : (mark : ℕ) → x.reply ≡ replies.Marked mark → (enough : Bool) → Held (if enough then makes (saves name mark) (over (Ok no_effect)) else fails no_memory) (asked ops.Mark (replies.Marked mark) p) later came new → Saves p name None came exchanges new
          by_room mark told true so = subst (λ (r : Result Effect Failure). Saves p name None r exchanges new) (sym so.1)
              (refl, (mark, is ∙ ap (λ (y : Exchange). y ∷ later) (is_replied x p.settings.manner ops.Mark (replies.Marked mark) was.0 was.1 told) ∙ ap (λ (l : List Exchange). replied p.settings.manner ops.Mark (replies.Marked mark) ∷ l) so.0, so.2))
          by_room mark told false so = subst (λ (r : Result Effect Failure). Saves p name None r exchanges new) (sym so.1)
              (inr (inr (mark, is ∙ ap (λ (y : Exchange). y ∷ later) (is_replied x p.settings.manner ops.Mark (replies.Marked mark) was.0 was.1 told) ∙ ap (λ (l : List Exchange). replied p.settings.manner ops.Mark (replies.Marked mark) ∷ l) so.0, so.2)))

          by_reply : (reply : Reply) → x.reply ≡ reply → CanReply ops.Mark reply → Held (unless_refused (marked λ mark. with_room (makes (saves name mark) (over (Ok no_effect)))) reply) (asked ops.Mark reply p) later came new → Saves p name None came exchanges new
          by_reply (replies.Marked mark) told can so = by_room mark told so.0 so.1
          by_reply replies.Memory told can so = subst (λ (r : Result Effect Failure). Saves p name None r exchanges new) (sym so.1)
              (inr (inl (is ∙ ap (λ (y : Exchange). y ∷ later) (is_replied x p.settings.manner ops.Mark replies.Memory was.0 was.1 told) ∙ ap (λ (l : List Exchange). replied p.settings.manner ops.Mark replies.Memory ∷ l) so.0, so.2)))
          by_reply reply told can so = absurd can

  save_by : (name : List ℕ) (refusal : Option ℤ) → Held (saves_unless name refusal) p exchanges came new → Saves p name refusal came exchanges new
  unfolding Held
  save_by name (Some number) held = save_refused name (Some number) (record { number = number; name = None }, held.1, held.0, held.2)
  save_by name None held = by_room (room_or _ held)
    where
      by_room : Failed ⊎ Held (asks ops.Mark (unless_refused (marked λ mark. with_room (makes (saves name mark) (over (Ok no_effect)))))) p exchanges came new → Saves p name None came exchanges new
      by_room (inl failed) = save_refused name None failed
      by_room (inr here) = save_asks name here

  pub save_held : (statement : Statement) (name : List ℕ) → Held (saves_transaction statement name) p exchanges came new → Saves p name (save_refusal p.txn) came exchanges new
  unfolding saves_transaction
  save_held statement name held = by_first (first_or statement (λ q. saves_unless name (save_refusal q.txn)) held)
    where
      by_first : Failed ⊎ Held (saves_unless name (save_refusal p.txn)) p exchanges came new → Saves p name (save_refusal p.txn) came exchanges new
      by_first (inl failed) = save_refused name (save_refusal p.txn) failed
      by_first (inr here) = save_by name (save_refusal p.txn) here

-- ---- what they leave

none_all : (before : Stand) (exchanges : List Exchange) → exchanges ≡ [] → LeavesAll before exchanges
none_all before exchanges none = subst (LeavesAll before) (sym none) (refl, refl)

none_same : (before : Stand) (exchanges : List Exchange) → exchanges ≡ [] → (progress_from before exchanges ≡ before) × (commits_from before exchanges ≡ [])
none_same before exchanges none = subst (λ (l : List Exchange). (progress_from before l ≡ before) × (commits_from before l ≡ [])) (sym none) (refl, refl)

begin_all : (p new : SessionProgress) (exchanges : List Exchange) (name : Option (List ℕ)) (came : Result Effect Failure) (before : Stand) (is_open : Bool) → Agrees is_open before → Begins p name is_open came exchanges new → LeavesAll before exchanges
begin_all p new exchanges name (Ok effect) before true agrees begun = none_all before exchanges begun.0
begin_all p new exchanges name (Ok effect) before false agrees begun = subst (LeavesAll before) (sym begun.0) (sym (ap (λ (s : Stand). s.own) agrees), refl)
begin_all p new exchanges name (Err failure) before true agrees (inl refused) = none_all before exchanges refused.0
begin_all p new exchanges name (Err failure) before true agrees (inr refused) = absurd (let no : true ≡ false = refused.0 in cc)
begin_all p new exchanges name (Err failure) before false agrees (inl refused) = none_all before exchanges refused.0
begin_all p new exchanges name (Err failure) before false agrees (inr refused) = subst (LeavesAll before) (sym refused.1) (append-nil before.own, refl)

pub begin_leaves : BeginLeaves
begin_leaves statement name old new exchanges came before agrees held = let begun = begin_held old new exchanges came statement name held in (begun, begin_all old new exchanges name came before old.is_open agrees begun)

close_commits : (p new : SessionProgress) (exchanges : List Exchange) (answer : Result Bool ℤ) (came : Result Effect Failure) (before : Stand) → Closes p answer came exchanges new → CommitsBy answer came before exchanges
close_commits p new exchanges (Ok true) (Ok effect) before closed = subst (CommitsBy (Ok true) (Ok effect) before) (sym closed.1.1) (refl, append-nil (commit_of (Net before.own)))
close_commits p new exchanges (Ok false) (Ok effect) before closed = none_same before exchanges closed.0
close_commits p new exchanges (Err number) (Ok effect) before closed = absurd closed
close_commits p new exchanges (Ok true) (Err failure) before denied = none_same before exchanges denied.0.0
close_commits p new exchanges (Ok false) (Err failure) before denied = none_same before exchanges denied.0.0
close_commits p new exchanges (Err number) (Err failure) before denied = none_same before exchanges denied.0.0

pub commit_leaves : CommitLeaves
commit_leaves name old new exchanges came before held = let closed = close_held old new exchanges came name held in (closed, close_commits old new exchanges (commit_answer old.txn) came before closed)

back_leaves : (p new : SessionProgress) (exchanges : List Exchange) (answer : Result BackKind ℤ) (came : Result Effect Failure) (before : Stand) → RollsBack p answer came exchanges new → LeavesBack answer came before exchanges
back_leaves p new exchanges (Ok Whole) (Ok effect) before back = subst (LeavesBack (Ok Whole) (Ok effect) before) (sym back.1.1) (refl, refl)
back_leaves p new exchanges (Ok (Mark mark)) (Ok effect) before back = subst (LeavesBack (Ok (Mark mark)) (Ok effect) before) (sym back.0) (refl, refl, refl)
back_leaves p new exchanges (Err number) (Ok effect) before back = absurd back
back_leaves p new exchanges (Ok Whole) (Err failure) before denied = none_same before exchanges denied.0.0
back_leaves p new exchanges (Ok (Mark mark)) (Err failure) before denied = none_same before exchanges denied.0.0
back_leaves p new exchanges (Err number) (Err failure) before refused = none_same before exchanges refused.0

pub rollback_leaves : RollbackLeaves
rollback_leaves name old new exchanges came before held = let back = back_held old new exchanges came name held in (back, back_leaves old new exchanges (back_for name old.txn) came before back)

save_all : (p new : SessionProgress) (exchanges : List Exchange) (name : List ℕ) (refusal : Option ℤ) (came : Result Effect Failure) (before : Stand) → Saves p name refusal came exchanges new → LeavesAll before exchanges
save_all p new exchanges name None (Ok effect) before saved = subst (LeavesAll before) (sym saved.1.1) (refl, refl)
save_all p new exchanges name (Some number) (Ok effect) before saved = absurd saved
save_all p new exchanges name None (Err failure) before (inl refused) = none_all before exchanges refused.0
save_all p new exchanges name None (Err failure) before (inr (inl wanting)) = subst (LeavesAll before) (sym wanting.0) (append-nil before.own, refl)
save_all p new exchanges name None (Err failure) before (inr (inr nameless)) = subst (LeavesAll before) (sym nameless.1) (refl, refl)
save_all p new exchanges name (Some number) (Err failure) before (inl refused) = none_all before exchanges refused.0
save_all p new exchanges name (Some number) (Err failure) before (inr (inl wanting)) = subst (LeavesAll before) (sym wanting.0) (append-nil before.own, refl)
save_all p new exchanges name (Some number) (Err failure) before (inr (inr nameless)) = subst (LeavesAll before) (sym nameless.1) (refl, refl)

pub save_leaves : SaveLeaves
save_leaves statement name old new exchanges came before held = let saved = save_held old new exchanges came statement name held in (saved, save_all old new exchanges name (save_refusal old.txn) came before saved)
