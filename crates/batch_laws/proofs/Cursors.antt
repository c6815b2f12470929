-- The statements on cursors.
use Rattle.std.proofs.Common.{◌≡◌, ◌⊎◌, inl, inr, ℕ, ◌==◌, Bool, true, false, if◌then◌else◌, List, [], length, Option, None, Some, Result, Ok, Err, refl, sym, subst, is_ok, ap, ◌∙◌, ◌++◌}
use Rattle.value_types.specs.declared.sql_type.SqlType.{SqlType}
use Rattle.value_types.specs.declared.value.Value.{Value}
use Rattle.tsql_tree.specs.declared.query.Select.{Select}
use Rattle.tsql_tree.specs.declared.statement.Statement.{Statement}
use Rattle.step_model.specs.Exchange.{Exchange, CanReply}
use Rattle.step_model.specs.Own.{Progress as Stand}
use Rattle.step_model.specs.Ranges.{no_memory, Rows}
use Rattle.session_cursors.specs.declared.fault.CursorFault.{CursorFault}
use Rattle.session_cursors.specs.declared.fault.CursorFault.TheVariants.{NoSuch, Present, AlreadyFilled, NotFilled, Memory}
use Rattle.session_cursors.specs.Cursors as list
use Rattle.batch_meaning.specs.declared.failure.Failure.{Failure}
use Rattle.batch_meaning.specs.Raised.{Around}
use Rattle.batch_meaning.specs.Failures.{naming, plain}
use Rattle.batch_meaning.specs.Asking.{fails, fails_naming, with_room, ◌>>=◌}
use Rattle.batch_meaning.specs.Cursors.{already_open, already_there, answered, assigns_row, closes_cursor, declares_cursor, fails_for_cursor, fetches_cursor, fetches_into, fetches_row, no_such_cursor, not_open, opens_bound, opens_cursor, opens_kept, other_count, removes_cursor, select_statement, fills_with, kinds_of}
use Rattle.batch_meaning.specs.Doing.{Doing, makes, over, Held, ◌then◌}
use Rattle.batch_meaning.specs.Progress.{SessionProgress, SessionStep, declares, fetches, made, removes, shuts, asked, fills, touches}
use Rattle.batch_meaning.specs.Selecting.{Effect, no_effect}
use Rattle.batch_meaning.specs.Transactions.{bound_first}
use Rattle.batch_meaning.specs.Values.{Assigned, assigned_to}
use Rattle.batch_meaning.specs.Working.{within, answers, asks_any, binds, enters, leaves, own, prepares, known_by}
use Rattle.statement_paths.proofs.Cursors.{opens_look, IsLookStep, only_opens}
use Rattle.batch_laws.specs.Committing.{Agrees, Leaves}
use Rattle.batch_laws.specs.Cursors.{CloseMoves, DeclareMoves, FetchMoves, Fetches, OpenLeaves, RemoveMoves, Steps, OpenMoves}
use Rattle.batch_laws.proofs.Statements.{none_leaves}
use Rattle.batch_laws.proofs.Telling.{within_leaves, binds_look}
use Rattle.batch_laws.proofs.Transactions.{Failed, first_or, room_or}
use Rattle.tsql_tree.specs.declared.definition.TableTree.{TableTree}
use Rattle.bound_tree.specs.declared.query.BoundQuery.{BoundQuery}
use Rattle.bound_tree.specs.declared.write.Bound.{Bound}
use Rattle.bound_tree.specs.declared.write.Bound.TheVariants as bound
use Rattle.binder.specs.Names.{looked_up}
use Rattle.step_model.specs.declared.op.Op.{Op}
use Rattle.step_model.specs.declared.reply.Reply.{Reply}
use Rattle.batch_meaning.specs.declared.home.Home.{Home}
use Rattle.statement_paths.proofs.Only.{AnyOp, IsTouch, Only, held_keeps, only_mono, only_room}
use Rattle.statement_paths.proofs.Apart.{bind_failed, held_apart}
use Rattle.statement_paths.proofs.Still.{Reads}
use Rattle.statement_paths.proofs.Working.{answers_read}
use Rattle.statement_paths.proofs.Works.{prepares_reads}
use Rattle.statement_paths.specs.Asked.{IsFetch}
use Rattle.batch_laws.proofs.Idle.{enters_make, leaves_make, own_makes}

module _ (p new : SessionProgress) (exchanges : List Exchange) (came : Result Effect Failure) where
  -- ---- what a cursor is refused for

  naming_fails : (number : ℕ) (name : List ℕ) → Held (fails_naming number name) p exchanges came new → Failed p new exchanges came
  unfolding Held
  naming_fails number name held = by_enough held.0 held.1
    where
      by_enough : (enough : Bool) → Held {A = Result Effect Failure} (if enough then over (Err (naming number name)) else fails no_memory) p exchanges came new → Failed p new exchanges came
      by_enough true was = (naming number name, was.1, was.0, was.2)
      by_enough false was = (plain no_memory, was.1, was.0, was.2)

  fault_fails : (name : List ℕ) (fault : CursorFault) → Held (fails_for_cursor name fault) p exchanges came new → Failed p new exchanges came
  unfolding Held
  fault_fails name Present held = naming_fails already_there name held
  fault_fails name NoSuch held = naming_fails no_such_cursor name held
  fault_fails name AlreadyFilled held = (plain already_open, held.1, held.0, held.2)
  fault_fails name NotFilled held = (plain not_open, held.1, held.0, held.2)
  fault_fails name Memory held = (plain 701, held.1, held.0, held.2)

  -- ---- DECLARE, CLOSE and DEALLOCATE

  abbrev Stepped : SessionStep → Result (Unit {0}) CursorFault → Type 0
  Stepped step answer = (exchanges ≡ []) × Steps p step answer came new

  step_refused : (step : SessionStep) (answer : Result (Unit {0}) CursorFault) → Failed p new exchanges came → Stepped step answer
  step_refused step answer failed = (failed.2, subst (λ (r : Result Effect Failure). Steps p step answer r new) (sym failed.1) (by_answer answer))
    where
      by_answer : (answer : Result (Unit {0}) CursorFault) → Steps p step answer (Err failed.0) new
      by_answer (Ok done) = failed.3
      by_answer (Err fault) = failed.3

  step_held : (statement : Statement) (name : List ℕ) (step : SessionStep) (answer : SessionProgress → Result (Unit {0}) CursorFault) → Held (bound_first statement λ q. answered name (λ done. makes step (over (Ok no_effect))) (answer q)) p exchanges came new → Stepped step (answer p)
  unfolding Held
  step_held statement name step answer held = by_first (first_or p new exchanges came statement (λ q. answered name (λ done. makes step (over (Ok no_effect))) (answer q)) held)
    where
      by_answer : (it : Result (Unit {0}) CursorFault) → Held (answered name (λ done. makes step (over (Ok no_effect))) it) p exchanges came new → Stepped step it
      by_answer (Ok done) was = (was.0, subst (λ (r : Result Effect Failure). Steps p step (Ok done) r new) (sym was.1) (refl, was.2))
      by_answer (Err fault) was = step_refused step (Err fault) (fault_fails name fault was)

      by_first : Failed p new exchanges came ⊎ Held (answered name (λ done. makes step (over (Ok no_effect))) (answer p)) p exchanges came new → Stepped step (answer p)
      by_first (inl failed) = step_refused step (answer p) failed
      by_first (inr here) = by_answer (answer p) here

  -- ---- FETCH

  module _ (name : List ℕ) (variables : List (List ℕ)) where
    abbrev Fetched : Result (Option (List Value)) CursorFault → Type 0
    Fetched next = (exchanges ≡ []) × Fetches p name variables next came new

    fetch_refused : (next : Result (Option (List Value)) CursorFault) → Failed p new exchanges came → Fetched next
    fetch_refused next failed = (failed.2, subst (λ (r : Result Effect Failure). Fetches p name variables next r new) (sym failed.1) (by_next next))
      where
        by_next : (next : Result (Option (List Value)) CursorFault) → Fetches p name variables next (Err failed.0) new
        by_next (Ok None) = failed.3
        by_next (Ok (Some row)) = inl failed.3
        by_next (Err fault) = failed.3

    -- a row that is fetched
    row_held : (next : Option (List Value)) → Held (fetches_row p name variables next) p exchanges came new → Fetched (Ok next)
    unfolding Held
    row_held None held = (held.0, subst (λ (r : Result Effect Failure). Fetches p name variables (Ok None) r new) (sym held.1) (refl, held.2))
    row_held (Some row) held = by_room (room_or p new exchanges came (makes (fetches name) (assigns_row (assigned_to p.vars variables row))) held)
      where
        by_sets : (it : Result (List Assigned) Failure) → assigned_to p.vars variables row ≡ it → Held (assigns_row it) (made (fetches name) p) exchanges came new → Fetched (Ok (Some row))
        by_sets (Ok sets) is was = (was.0, subst (λ (r : Result Effect Failure). Fetches p name variables (Ok (Some row)) r new) (sym was.1) (sets, is, refl, was.2))
        by_sets (Err failure) is was = (was.0, subst (λ (r : Result Effect Failure). Fetches p name variables (Ok (Some row)) r new) (sym was.1) (inr (is, was.2)))

        by_room : Failed p new exchanges came ⊎ Held (makes (fetches name) (assigns_row (assigned_to p.vars variables row))) p exchanges came new → Fetched (Ok (Some row))
        by_room (inl failed) = fetch_refused (Ok (Some row)) failed
        by_room (inr here) = by_sets (assigned_to p.vars variables row) refl here

    next_held : (next : Result (Option (List Value)) CursorFault) → Held (answered name (fetches_row p name variables) next) p exchanges came new → Fetched next
    next_held (Ok next) held = row_held next held
    next_held (Err fault) held = fetch_refused (Err fault) (fault_fails name fault held)

    fetch_held : (statement : Statement) → Held (fetches_cursor statement name variables) p exchanges came new → Fetched (list.next_of name p.cursors)
    unfolding fetches_cursor Held
    fetch_held statement held = by_first (first_or p new exchanges came statement (λ q. answered name (fetches_into q name variables) (list.kinds_of name q.cursors)) held)
      where
        by_count : (test : Bool) → Held (if test then answered name (fetches_row p name variables) (list.next_of name p.cursors) else fails other_count) p exchanges came new → Fetched (list.next_of name p.cursors)
        by_count true was = next_held (list.next_of name p.cursors) was
        by_count false was = fetch_refused (list.next_of name p.cursors) (plain other_count, was.1, was.0, was.2)

        by_kinds : (it : Result (List SqlType) CursorFault) → Held (answered name (fetches_into p name variables) it) p exchanges came new → Fetched (list.next_of name p.cursors)
        by_kinds (Ok kinds) was = by_count (length variables == length kinds) was
        by_kinds (Err fault) was = fetch_refused (list.next_of name p.cursors) (fault_fails name fault was)

        by_first : Failed p new exchanges came ⊎ Held (answered name (fetches_into p name variables) (list.kinds_of name p.cursors)) p exchanges came new → Fetched (list.next_of name p.cursors)
        by_first (inl failed) = fetch_refused (list.next_of name p.cursors) failed
        by_first (inr here) = by_kinds (list.kinds_of name p.cursors) here

pub declare_moves : DeclareMoves
unfolding declares_cursor
declare_moves statement name select old new exchanges came held = step_held old new exchanges came statement name (declares name select) (λ q. list.declare_answer name q.cursors) held

pub close_moves : CloseMoves
unfolding closes_cursor
close_moves statement name old new exchanges came held = step_held old new exchanges came statement name (shuts name) (λ q. list.close_answer name q.cursors) held

pub remove_moves : RemoveMoves
unfolding removes_cursor
remove_moves statement name old new exchanges came held = step_held old new exchanges came statement name (removes name) (λ q. list.remove_answer name q.cursors) held

pub fetch_moves : FetchMoves
fetch_moves statement name variables old new exchanges came held = fetch_held old new exchanges came name variables statement held

-- ---- OPEN

module _ (around : Around) (statement : Statement) (name : List ℕ) (p new : SessionProgress) (exchanges : List Exchange) (came : Result Effect Failure) (before : Stand) (agrees : Agrees p.is_open before) where
  abbrev LeavesIt : Type 0
  LeavesIt = Leaves p.is_open p.is_open before exchanges []

  refused_leaves : Failed p new exchanges came → LeavesIt
  refused_leaves failed = none_leaves p.is_open before exchanges agrees failed.2

  kept_leaves : (select : Select) (answer : Result (Unit {0}) CursorFault) → Held (answered name (λ done. within around (select_statement statement select) (opens_bound around name)) answer) p exchanges came new → LeavesIt
  kept_leaves select (Ok done) held = within_leaves around (select_statement statement select) (opens_bound around name) (opens_look around p name) p new exchanges came before agrees held
  kept_leaves select (Err fault) held = refused_leaves (fault_fails p new exchanges came name fault held)

  query_leaves : (answer : Result Select CursorFault) → Held (answered name (opens_kept around statement name p) answer) p exchanges came new → LeavesIt
  query_leaves (Ok select) held = kept_leaves select (list.fill_answer name p.cursors) held
  query_leaves (Err fault) held = refused_leaves (fault_fails p new exchanges came name fault held)

  first_leaves : Failed p new exchanges came ⊎ Held (answered name (opens_kept around statement name p) (list.query_of name p.cursors)) p exchanges came new → LeavesIt
  first_leaves (inl failed) = refused_leaves failed
  first_leaves (inr here) = query_leaves (list.query_of name p.cursors) here

pub open_leaves : OpenLeaves
unfolding opens_cursor
open_leaves around statement name old new exchanges came before agrees held =
    first_leaves around statement name old new exchanges came before agrees (first_or old new exchanges came statement (λ q. answered name (opens_kept around statement name q) (list.query_of name q.cursors)) held)

-- where it failed the cursors are as they were
abbrev Spares : {A : Type 0} → Doing (Result A Failure) → Type 0
Spares {A = A} tree = (p new : SessionProgress) (exchanges : List Exchange) (failure : Failure) → Held tree p exchanges (Err failure) new → new.cursors ≡ p.cursors

touch_spares : (p : SessionProgress) (step : SessionStep) (q : SessionProgress) → IsTouch step → q.cursors ≡ p.cursors → (made step q).cursors ≡ p.cursors
touch_spares p touches q is same = same
touch_spares p step q is same = absurd is

touched_same : {A : Type 0} (tree : Doing A) (p new : SessionProgress) (exchanges : List Exchange) (a : A) → Only IsTouch AnyOp tree → Held tree p exchanges a new → new.cursors ≡ p.cursors
touched_same tree p new exchanges a only held = held_keeps IsTouch AnyOp (λ (q : SessionProgress). q.cursors ≡ p.cursors) (touch_spares p) (λ op reply q is can same. same) tree p new exchanges a only held refl

reads_same : {A : Type 0} (tree : Doing A) → Reads tree → Only IsTouch AnyOp tree
reads_same tree only = only_mono IsTouch IsTouch IsFetch AnyOp (λ step is. is) (λ op is. tt) tree only

bind_spares : {A B : Type 0} (tree : Doing (Result A Failure)) (go : A → Doing (Result B Failure)) → Only IsTouch AnyOp tree → ((a : A) → Spares (go a)) → Spares (tree >>= go)
bind_spares {A = A} {B = B} tree go only more p new exchanges failure held = by_failed (bind_failed tree go p new exchanges failure held)
  where
    by_failed : Held tree p exchanges (Err failure) new ⊎ ((front back : List Exchange) × (a : A) × (mid : SessionProgress) × (exchanges ≡ front ++ back) × Held tree p front (Ok a) mid × Held (go a) mid back (Err failure) new) → new.cursors ≡ p.cursors
    by_failed (inl first) = touched_same tree p new exchanges (Err failure) only first
    by_failed (inr on) = more on.2 on.3 new on.1 failure on.6 ∙ touched_same tree p on.3 on.0 (Ok on.2) only on.5

room_spares : {A : Type 0} (tree : Doing (Result A Failure)) → Spares tree → Spares (with_room tree)
unfolding Held
room_spares tree spares p new exchanges failure held = by_enough held.0 held.1
  where
    by_enough : (enough : Bool) → Held (if enough then tree else fails no_memory) p exchanges (Err failure) new → new.cursors ≡ p.cursors
    by_enough true was = spares p new exchanges failure was
    by_enough false was = ap (λ (q : SessionProgress). q.cursors) was.2

home_spares : {A : Type 0} (work : Doing (Result A Failure)) → Spares work → (home : Home) → Spares (work then λ came. leaves home (is_ok came) then λ done. over came)
unfolding Held
home_spares {A = A} work spares home p new exchanges failure held =
    let on = held_apart work (λ came. leaves home (is_ok came) then λ done. over came) p new exchanges (Err failure) held in
    let last = held_apart (leaves home (is_ok on.came)) (λ done. over on.came) on.mid new on.back (Err failure) on.rest in
    ap (λ (q : SessionProgress). q.cursors) last.rest.2 ∙ touched_same (leaves home (is_ok on.came)) on.mid last.mid last.front last.came (leaves_make IsTouch home (is_ok on.came)) last.held
    ∙ spares p on.mid on.front failure (subst (λ (r : Result A Failure). Held work p on.front r on.mid) (sym last.rest.1) on.held)

own_spares : {A : Type 0} (asks_some : Bool) (work : Doing (Result A Failure)) → Spares work → Spares (own asks_some work)
unfolding own
own_spares asks_some work spares = bind_spares (enters asks_some) (λ home. work then λ came. leaves home (is_ok came) then λ done. over came) (enters_make IsTouch asks_some) (home_spares work spares)

module _ (around : Around) (p0 : SessionProgress) (name : List ℕ) where
  fills_spare : (shapes : List TableTree) (query : BoundQuery) → Spares (fills_with around name shapes query)
  unfolding fills_with Held
  fills_spare shapes query = bind_spares (answers around shapes query) (λ rows. with_room (makes (fills name (kinds_of query) rows) (over (Ok no_effect)))) (reads_same (answers around shapes query) (answers_read around p0 shapes query))
      (λ rows. room_spares (makes (fills name (kinds_of query) rows) (over (Ok no_effect))) (filled_never query rows))
    where
      filled_never : (query : BoundQuery) (rows : Rows) → Spares (makes (fills name (kinds_of query) rows) (over (Ok no_effect)))
      filled_never query rows p new exchanges failure held = absurd (let no : Err failure ≡ Ok no_effect = held.1 in cc)

  bound_spares : (shapes : List TableTree) (of : Bound) → Spares (opens_bound around name shapes of)
  unfolding Held
  bound_spares shapes (bound.Query query) p new exchanges failure held = fills_spare shapes query p new exchanges failure held
  bound_spares shapes (bound.Assign query places) p new exchanges failure held = ap (λ (q : SessionProgress). q.cursors) held.2
  bound_spares shapes (bound.Write write) p new exchanges failure held = ap (λ (q : SessionProgress). q.cursors) held.2
  bound_spares shapes bound.Plain p new exchanges failure held = ap (λ (q : SessionProgress). q.cursors) held.2

  within_spares : (select : Statement) → Spares (within around select (opens_bound around name))
  unfolding within binds
  within_spares select = room_spares (own (asks_any (known_by around select) (looked_up select)) (binds around select (opens_bound around name))) (own_spares (asks_any (known_by around select) (looked_up select)) (binds around select (opens_bound around name))
      (bind_spares (prepares around select) (λ made. opens_bound around name made.0 made.1) (reads_same (prepares around select) (prepares_reads around select)) (λ made. bound_spares made.0 made.1)))

  -- what it makes of the session
  within_makes : (select : Statement) → Only IsLookStep AnyOp (within around select (opens_bound around name))
  unfolding within
  within_makes select = only_room IsLookStep AnyOp (own (asks_any (known_by around select) (looked_up select)) work)
      (own_makes IsLookStep (asks_any (known_by around select) (looked_up select)) work (only_mono IsLookStep IsLookStep IsFetch AnyOp (λ step is. is) (λ op is. tt) work (binds_look around select (opens_bound around name) (opens_look around p0 name))))
    where
      work : Doing (Result Effect Failure)
      work = binds around select (opens_bound around name)

-- all else is as it was
abbrev IsSpared : SessionProgress → SessionProgress → Type 0
IsSpared p q = q ≡ record p { cursors = q.cursors; is_open = q.is_open; is_own = q.is_own; stands = q.stands; touched = q.touched; txn = q.txn }

spared_step : (p : SessionProgress) (step : SessionStep) (q : SessionProgress) → IsLookStep step → IsSpared p q → IsSpared p (made step q)
spared_step p touches q is same = ap (λ (s : SessionProgress). record s { touched = true }) same
spared_step p (fills name kinds rows) q is same = ap (λ (s : SessionProgress). record s { cursors = (made (fills name kinds rows) q).cursors }) same
spared_step p step q is same = absurd is

spared_op : (p : SessionProgress) (op : Op) (reply : Reply) (q : SessionProgress) → AnyOp op → CanReply op reply → IsSpared p q → IsSpared p (asked op reply q)
spared_op p op reply q is can same = ap (λ (s : SessionProgress). record s { is_open = (asked op reply q).is_open; is_own = (asked op reply q).is_own; stands = (asked op reply q).stands; touched = (asked op reply q).touched; txn = (asked op reply q).txn }) same

module _ (around : Around) (statement : Statement) (name : List ℕ) (p new : SessionProgress) (exchanges : List Exchange) where
  open_spared : (came : Result Effect Failure) → Held (opens_cursor around statement name) p exchanges came new → IsSpared p new
  open_spared came held = held_keeps IsLookStep AnyOp (IsSpared p) (spared_step p) (spared_op p) (opens_cursor around statement name) p new exchanges came
      (only_opens IsLookStep AnyOp around statement name (λ select. within_makes around p name (select_statement statement select))) held refl

  open_spares : (failure : Failure) → Held (opens_cursor around statement name) p exchanges (Err failure) new → new.cursors ≡ p.cursors
  unfolding opens_cursor
  open_spares failure held = by_first (first_or p new exchanges (Err failure) statement (λ q. answered name (opens_kept around statement name q) (list.query_of name q.cursors)) held)
    where
      by_failed : Failed p new exchanges (Err failure) → new.cursors ≡ p.cursors
      by_failed failed = ap (λ (q : SessionProgress). q.cursors) failed.3

      by_answer : (select : Select) (answer : Result (Unit {0}) CursorFault) → Held (answered name (λ done. within around (select_statement statement select) (opens_bound around name)) answer) p exchanges (Err failure) new → new.cursors ≡ p.cursors
      by_answer select (Ok done) was = within_spares around p name (select_statement statement select) p new exchanges failure was
      by_answer select (Err fault) was = by_failed (fault_fails p new exchanges (Err failure) name fault was)

      by_query : (answer : Result Select CursorFault) → Held (answered name (opens_kept around statement name p) answer) p exchanges (Err failure) new → new.cursors ≡ p.cursors
      by_query (Ok select) was = by_answer select (list.fill_answer name p.cursors) was
      by_query (Err fault) was = by_failed (fault_fails p new exchanges (Err failure) name fault was)

      by_first : Failed p new exchanges (Err failure) ⊎ Held (answered name (opens_kept around statement name p) (list.query_of name p.cursors)) p exchanges (Err failure) new → new.cursors ≡ p.cursors
      by_first (inl failed) = by_failed failed
      by_first (inr here) = by_query (list.query_of name p.cursors) here

pub open_moves : OpenMoves
open_moves around statement name old new exchanges (Ok effect) held = open_spared around statement name old new exchanges (Ok effect) held
open_moves around statement name old new exchanges (Err failure) held =
    open_spared around statement name old new exchanges (Err failure) held ∙ ap (λ cursors. record old { cursors = cursors; is_open = new.is_open; is_own = new.is_own; stands = new.stands; touched = new.touched; txn = new.txn }) (open_spares around statement name old new exchanges failure held)
