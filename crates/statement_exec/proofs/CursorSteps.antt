-- The statements on cursors: what is answered of a cursor, what a refusal leaves, and the rows that a cursor is given.
use Rattle.std.proofs.Common.{◌≡◌, ◌≢◌, ℕ, pos, ◌==◌, inl, inr, Bool, true, false, if◌then◌else◌, cond, All, List, [], ◌∷◌, length, Option, None, Some, Result, Ok, Err, refl, sym, ap, subst}
use Rattle.std.specs.Prelude.{find}
use Rattle.std.specs.Result.{IsErr, IsErrAnd}
use Rattle.std.proofs.lemmas.List.Elements.{All-cons, All-nil}
use Rattle.value_types.specs.declared.memory.Memory.{Memory}
use Rattle.value_types.specs.declared.sql_type.SqlType.{SqlType}
use Rattle.value_types.specs.declared.value.Value.{Value}
use Rattle.tsql_tree.specs.declared.query.Select.{Select}
use Rattle.tsql_tree.specs.declared.statement.Statement.{Statement}
use Rattle.tsql_tree.specs.declared.definition.TableTree.{TableTree}
use Rattle.bound_tree.specs.declared.query.BoundQuery.{BoundQuery}
use Rattle.bound_tree.specs.declared.write.Bound.{Bound}
use Rattle.bound_tree.specs.declared.write.Bound.TheVariants as bound
use Rattle.query_laws.specs.Laws.{AreExactly, RowsOf}
use Rattle.session_cursors.specs.declared.cursor.Cursor.{Cursor}
use Rattle.session_cursors.specs.declared.fault.CursorFault.{CursorFault}
use Rattle.session_cursors.specs.declared.fault.CursorFault.TheVariants.{NoSuch, Present, AlreadyFilled, NotFilled}
use Rattle.session_cursors.specs.declared.fault.CursorFault.TheVariants.{Memory as CursorMemory}
use Rattle.session_cursors.specs.Answers.{AnswerLeft, HasKinds}
use Rattle.session_cursors.specs.Cursors as list
use Rattle.session_cursors.specs.Faults.{Gives}
use Rattle.step_model.specs.Port.{PortPast}
use Rattle.step_model.specs.Ranges.{Rows}
use Rattle.batch_meaning.specs.declared.failure.Failure.{Failure}
use Rattle.batch_meaning.specs.Failures.{plain}
use Rattle.batch_meaning.specs.Raised.{Around}
use Rattle.batch_meaning.specs.Selecting.{Effect, bound_over}
use Rattle.batch_meaning.specs.Progress.{SessionProgress, fetches, made, removes, shuts}
use Rattle.batch_meaning.specs.Doing.{Doing, Did, Held, makes, reads, ◌then◌}
use Rattle.batch_meaning.specs.Asking.{fails, fails_naming, on_ok, with_room}
use Rattle.batch_meaning.specs.Transactions.{bound_first}
use Rattle.batch_meaning.specs.Values.{Assigned, outside_limits}
use Rattle.batch_meaning.specs.Cursors.{already_there, answered, assigns_row, fails_for_cursor, fetches_into, fetches_row, no_such_cursor, opens_bound, opens_kept, other_count, select_statement}
use Rattle.batch_meaning.specs.Working.{within}
use Rattle.statement_exec.specs.Selected.{BoundSo, IsBoundFirst}
use Rattle.statement_exec.specs.CursorAnswers.{IsCounted, IsKept, IsOfCursor, IsRefused, counted_as, kept_as}
use Rattle.session_state.specs.Parts.{IsNamed, IsOrMemory, Stepped}
use Rattle.statement_exec.proofs.Parts.{does_made}
use Rattle.session_state.proofs.Stepping.{does_stepped, meant_ok, stepped_made, stepped_makes, stepped_no, stepped_reads, stepped_room, stepped_yes}
use Rattle.statement_exec.proofs.BoundFirst.{bound_on, does_go}

-- ---- a refusal leaves the cursors

-- of a cursor that is not open nothing is given
not_open : (A : Type 0) (give : AnswerLeft → A) (fault : CursorFault) (answer : Option AnswerLeft) → list.given_by give answer ≡ Err fault → answer ≡ None
not_open A give fault None is = refl
not_open A give fault (Some left) is = absurd cc

module _ {Q : Type 0} (name : List ℕ) where
  with_same : (becomes : Cursor Q → Cursor Q) (cursors : List (Cursor Q)) → ((cursor : Cursor Q) → list.cursor_of name cursors ≡ Some cursor → becomes cursor ≡ cursor) → list.with_cursor becomes name cursors ≡ cursors
  with_same becomes [] same = refl
  with_same becomes (cursor ∷ rest) same =
      elim (list.is_named name cursor) as (λ b. ((c : Cursor Q) → cond b (Some cursor) (find (list.is_named name) rest) ≡ Some c → becomes c ≡ c) → cond b (becomes cursor ∷ rest) (cursor ∷ list.with_cursor becomes name rest) ≡ cursor ∷ rest) [
        | true ↦ λ so. ap (λ (c : Cursor Q). c ∷ rest) (so cursor refl)
        | false ↦ λ so. ap (λ (others : List (Cursor Q)). cursor ∷ others) (with_same becomes rest so)
      ] same

  pub closed_same : (cursors : List (Cursor Q)) (fault : CursorFault) → list.close_answer name cursors ≡ Err fault → list.closed name cursors ≡ cursors
  closed_same cursors fault is = with_same list.shut cursors (λ cursor found. ap (λ (a : Option AnswerLeft). record cursor { answer = a }) (sym (not_open (Unit {0}) (λ left. tt) fault cursor.answer (rw found at is))))

  pub removed_same : (cursors : List (Cursor Q)) (fault : CursorFault) → list.remove_answer name cursors ≡ Err fault → list.removed name cursors ≡ cursors
  removed_same [] fault is = refl
  removed_same (cursor ∷ rest) fault is =
      elim (list.is_named name cursor) as (λ b. list.given_in {A = Unit {0}} (λ (c : Cursor Q). Ok tt) (cond b (Some cursor) (find (list.is_named name) rest)) ≡ Err fault → cond b rest (cursor ∷ list.removed name rest) ≡ cursor ∷ rest) [
        | true ↦ λ so. absurd (let other = so in cc)
        | false ↦ λ so. ap (λ (others : List (Cursor Q)). cursor ∷ others) (removed_same rest fault so)
      ] is

-- ---- what is answered of a cursor

-- it is refused
pub stepped_naming : {A : Type 0} (number : ℕ) (name : List ℕ) (failure : Failure) {p : SessionProgress} → IsNamed number name failure → Stepped (fails_naming {A = A} number name) p (Ok (Err failure)) p
stepped_naming number name failure (inl same) = stepped_room true (stepped_made (ap Err same))
stepped_naming number name failure (inr none) = stepped_room false (stepped_made (ap Err none))

stepped_refused : {A : Type 0} (name : List ℕ) (fault : CursorFault) (failure : Failure) {p : SessionProgress} → IsRefused name fault failure → Stepped (fails_for_cursor {A = A} name fault) p (Ok (Err failure)) p
stepped_refused name Present failure is = stepped_naming already_there name failure is
stepped_refused name NoSuch failure is = stepped_naming no_such_cursor name failure is
stepped_refused name AlreadyFilled failure is = stepped_made (ap Err is)
stepped_refused name NotFilled failure is = stepped_made (ap Err is)
stepped_refused name CursorMemory failure is = stepped_made (ap Err is)

module _ {A B : Type 0} (name : List ℕ) (go : A → Doing (Result B Failure)) where
  -- it goes on by what is answered
  pub stepped_answered : (meant : Result A CursorFault) (a : A) {p new : SessionProgress} {result : Result (Result B Failure) Memory} → meant ≡ Ok a → Stepped (go a) p result new → Stepped (answered name go meant) p result new
  stepped_answered meant a {p = p} {new = new} {result = result} is was = subst (λ (m : Result A CursorFault). Stepped (answered name go m) p result new) (sym is) was

  -- or is refused
  pub stepped_fault : (meant : Result A CursorFault) (fault : CursorFault) (failure : Failure) {p : SessionProgress} → meant ≡ Err fault → IsRefused name fault failure → Stepped (answered name go meant) p (Ok (Err failure)) p
  stepped_fault meant fault failure {p = p} is refused = subst (λ (m : Result A CursorFault). Stepped (answered name go m) p (Ok (Err failure)) p) (sym is) (stepped_refused name fault failure refused)

  -- or does not
  pub stepped_unanswered : (meant : Result A CursorFault) (failure : Failure) {p : SessionProgress} → IsOfCursor name meant (Err failure) → Stepped (with_room (answered name go meant)) p (Ok (Err failure)) p
  stepped_unanswered (Ok a) failure is = stepped_room false (stepped_made (ap Err is))
  stepped_unanswered (Err fault) failure (inl is) = stepped_room true (stepped_refused name fault failure is)
  stepped_unanswered (Err fault) failure (inr none) = stepped_room false (stepped_made (ap Err none))

-- why a call on the cursors is refused
pub given_refused : {A : Type 0} (name : List ℕ) (fault : CursorFault) (answer : Result A CursorFault) (failure : Failure) → Gives {A = A} (Err fault) answer → IsRefused name fault failure → IsOfCursor name answer (Err failure)
given_refused {A = A} name NoSuch answer failure gives is = subst (λ (m : Result A CursorFault). IsOfCursor name m (Err failure)) (sym gives) (inl is)
given_refused {A = A} name Present answer failure gives is = subst (λ (m : Result A CursorFault). IsOfCursor name m (Err failure)) (sym gives) (inl is)
given_refused {A = A} name AlreadyFilled answer failure gives is = subst (λ (m : Result A CursorFault). IsOfCursor name m (Err failure)) (sym gives) (inl is)
given_refused {A = A} name NotFilled answer failure gives is = subst (λ (m : Result A CursorFault). IsOfCursor name m (Err failure)) (sym gives) (inl is)
given_refused name CursorMemory (Ok a) failure gives is = is
given_refused name CursorMemory (Err fault) failure gives is = inr is

-- ---- behind the binding

module _ (statement : Statement) (go : SessionProgress → Doing (Result Effect Failure)) where
  -- it goes on
  pub answered_on : {past after : PortPast} {p new : SessionProgress} {result : Result Effect Failure} → IsBoundFirst p statement (Ok tt) → Did past after (with_room (go p)) p (Ok result) new → Did past after (bound_first statement go) p (Ok result) new
  answered_on {p = p} bound did = bound_on statement go bound (does_go (go p) go refl did)

  stepped_go : {p new : SessionProgress} {result : Result Effect Failure} → Stepped (with_room (go p)) p (Ok result) new → Stepped (with_room (reads go)) p (Ok result) new
  unfolding Held
  stepped_go {p = p} {new = new} {result = result} was = by_room was.came.0 was.came.1
    where
      by_room : (enough : Bool) → Held (if enough then go p else fails 701) p [] result new → Stepped (with_room (reads go)) p (Ok result) new
      by_room true held = stepped_room true (stepped_reads (record { came = held }))
      by_room false held = stepped_room false (record { came = held })

  pub stepped_on : {p new : SessionProgress} {result : Result Effect Failure} → IsBoundFirst p statement (Ok tt) → Stepped (with_room (go p)) p (Ok result) new → Stepped (bound_first statement go) p (Ok result) new
  unfolding ◌then◌
  stepped_on {p = p} {new = new} {result = result} is was = by_bound (bound_over [] p.vars statement) refl is
    where
      by_bound : (bound : Result Bound Failure) → bound_over [] p.vars statement ≡ bound → BoundSo bound (Ok tt) → Stepped (bound_first statement go) p (Ok result) new
      by_bound (Ok of) same so = stepped_reads (stepped_room true (subst (λ (b : Result Bound Failure). Stepped (on_ok (λ of. with_room (reads go)) b) p (Ok result) new) (sym same) (stepped_go was)))
      by_bound (Err failure) same (inl never) = absurd cc
      by_bound (Err failure) same (inr never) = absurd cc

  -- or is not bound
  stepped_not : (failure : Failure) {p : SessionProgress} → IsBoundFirst p statement (Err failure) → Stepped (bound_first statement go) p (Ok (Err failure)) p
  unfolding ◌then◌
  stepped_not failure {p = p} is = by_bound (bound_over [] p.vars statement) refl is
    where
      wanting : failure ≡ plain 701 → Stepped (bound_first statement go) p (Ok (Err failure)) p
      wanting none = stepped_reads (stepped_room false (stepped_made (ap Err none)))

      by_bound : (bound : Result Bound Failure) → bound_over [] p.vars statement ≡ bound → BoundSo bound (Err failure) → Stepped (bound_first statement go) p (Ok (Err failure)) p
      by_bound (Ok of) same (inl never) = absurd cc
      by_bound (Ok of) same (inr none) = wanting (let is : failure ≡ plain 701 = cc in is)
      by_bound (Err why) same (inl so) =
          let is : failure ≡ why = cc in
          stepped_reads (stepped_room true (subst (λ (b : Result Bound Failure). Stepped (on_ok (λ of. with_room (reads go)) b) p (Ok (Err failure)) p) (sym same) (stepped_made (ap Err is))))
      by_bound (Err why) same (inr none) = wanting (let is : failure ≡ plain 701 = cc in is)

  pub stepped_unbound : (failure : Failure) (result : Result Effect Failure) {p : SessionProgress} → IsErr result → IsErrAnd result (λ x. x ≡ failure) → IsBoundFirst p statement (Err failure) → Stepped (bound_first statement go) p (Ok result) p
  stepped_unbound failure (Ok effect) err same is = absurd (let never : false ≡ true = err in cc)
  stepped_unbound failure (Err x) {p = p} err same is = subst (λ (f : Failure). Stepped {A = Result Effect Failure} (bound_first statement go) p (Ok (Err f)) p) (sym same) (stepped_not failure is)

-- ---- OPEN

module _ (around : Around) (statement : Statement) (name : List ℕ) where
  -- the select of a cursor that is not open
  pub opens_on : {past after : PortPast} (select : Statement) {p new : SessionProgress} {result : Result Effect Failure} → IsKept statement name p.cursors (Ok select)
      → Did past after (within around select (opens_bound around name)) p (Ok result) new → Did past after (answered name (opens_kept around statement name p) (list.query_of name p.cursors)) p (Ok result) new
  opens_on {past = past} {after = after} select {p = p} {new = new} {result = result} is did = by_query (list.query_of name p.cursors) (list.fill_answer name p.cursors) refl is
    where
      by_query : (query : Result Select CursorFault) (fill : Result (Unit {0}) CursorFault) → list.fill_answer name p.cursors ≡ fill → IsOfCursor name (kept_as statement query fill) (Ok select)
          → Did past after (answered name (opens_kept around statement name p) query) p (Ok result) new
      by_query (Err fault) fill same kept = absurd kept
      by_query (Ok of) (Err fault) same kept = absurd kept
      by_query (Ok of) (Ok done) same kept =
          subst (λ (f : Result (Unit {0}) CursorFault). Did past after (answered name (λ done. within around (select_statement statement of) (opens_bound around name)) f) p (Ok result) new) (sym same)
          (subst (λ (s : Statement). Did past after (within around s (opens_bound around name)) p (Ok result) new) kept did)

  -- there is none
  opens_not : (failure : Failure) {p : SessionProgress} → IsKept statement name p.cursors (Err failure) → Stepped (with_room (answered name (opens_kept around statement name p) (list.query_of name p.cursors))) p (Ok (Err failure)) p
  opens_not failure {p = p} is = by_query (list.query_of name p.cursors) (list.fill_answer name p.cursors) refl is
    where
      by_query : (query : Result Select CursorFault) (fill : Result (Unit {0}) CursorFault) → list.fill_answer name p.cursors ≡ fill → IsOfCursor name (kept_as statement query fill) (Err failure)
          → Stepped (with_room (answered name (opens_kept around statement name p) query)) p (Ok (Err failure)) p
      by_query (Err fault) fill same kept = stepped_unanswered name (opens_kept around statement name p) (Err fault) failure kept
      by_query (Ok of) (Ok done) same kept = stepped_room false (stepped_made (ap Err kept))
      by_query (Ok of) (Err fault) same (inr none) = stepped_room false (stepped_made (ap Err none))
      by_query (Ok of) (Err fault) same (inl refused) =
          stepped_room true (stepped_fault name (λ done. within around (select_statement statement of) (opens_bound around name)) (list.fill_answer name p.cursors) fault failure same refused)

  -- or it failed
  pub opens_fails : {past : PortPast} (failure : Failure) (result : Result Effect Failure) {p : SessionProgress} → IsErr result → IsErrAnd result (λ x. x ≡ failure) → IsKept statement name p.cursors (Err failure)
      → Did past past (with_room (answered name (opens_kept around statement name p) (list.query_of name p.cursors))) p (Ok result) p
  opens_fails failure (Ok effect) err same is = absurd (let never : false ≡ true = err in cc)
  opens_fails {past = past} failure (Err x) {p = p} err same is =
      subst (λ (f : Failure). Did {A = Result Effect Failure} past past (with_room (answered name (opens_kept around statement name p) (list.query_of name p.cursors))) p (Ok (Err f)) p) (sym same) (does_stepped (opens_not failure is))

-- a select that assigns variables is none of a cursor
pub opens_other : {past : PortPast} (around : Around) (name : List ℕ) (shapes : List TableTree) (of : Bound) {p : SessionProgress} {result : Result Effect Failure} → ((query : BoundQuery) → of ≢ bound.Query query) → result ≡ Err (plain outside_limits)
    → Did past past (opens_bound around name shapes of) p (Ok result) p
opens_other around name shapes (bound.Query query) other is = absurd (other query refl)
opens_other around name shapes (bound.Assign query places) other is = does_made is
opens_other around name shapes (bound.Write write) other is = does_made is
opens_other around name shapes bound.Plain other is = does_made is

-- ---- steps that change nothing

pub shuts_same : (name : List ℕ) (fault : CursorFault) (p : SessionProgress) → list.close_answer name p.cursors ≡ Err fault → made (shuts name) p ≡ p
shuts_same name fault p is = ap (λ (cursors : List (Cursor Select)). record p { cursors = cursors }) (closed_same name p.cursors fault is)

pub removes_same : (name : List ℕ) (fault : CursorFault) (p : SessionProgress) → list.remove_answer name p.cursors ≡ Err fault → made (removes name) p ≡ p
removes_same name fault p is = ap (λ (cursors : List (Cursor Select)). record p { cursors = cursors }) (removed_same name p.cursors fault is)

-- what is refused leaves the session
pub stepped_kept : {A : Type 0} {tree : Doing A} {p new : SessionProgress} {result : Result A Memory} → new ≡ p → Stepped tree p result p → Stepped tree p result new
stepped_kept {tree = tree} {p = p} {result = result} same was = subst (λ (q : SessionProgress). Stepped tree p result q) (sym same) was

-- ---- FETCH

module _ (p : SessionProgress) (name : List ℕ) (variables : List (List ℕ)) where
  -- the cursor has so many columns
  pub fetches_on : (kinds : Result (List SqlType) CursorFault) {q new : SessionProgress} {result : Result Effect Failure} → IsCounted name (length variables) kinds (Ok tt)
      → Stepped (answered name (fetches_row p name variables) (list.next_of name p.cursors)) q (Ok result) new → Stepped (answered name (fetches_into p name variables) kinds) q (Ok result) new
  fetches_on (Ok kinds) is was = stepped_yes (length variables == length kinds) _ _ (by_count (length variables == length kinds) is) was
    where
      by_count : (same : Bool) → Ok tt ≡ counted_as same → same ≡ true
      by_count true so = refl
      by_count false so = absurd cc
  fetches_on (Err fault) is was = absurd is

  -- it has others, or is not open
  fetches_not : (kinds : Result (List SqlType) CursorFault) (failure : Failure) {q : SessionProgress} → IsCounted name (length variables) kinds (Err failure) → Stepped (answered name (fetches_into p name variables) kinds) q (Ok (Err failure)) q
  fetches_not (Ok kinds) failure is = stepped_no (length variables == length kinds) _ _ (by_count (length variables == length kinds) is).0 (stepped_made (ap Err (by_count (length variables == length kinds) is).1))
    where
      by_count : (same : Bool) → Err failure ≡ counted_as same → (same ≡ false) × (failure ≡ plain other_count)
      by_count true so = absurd cc
      by_count false so = (refl, (let is : failure ≡ plain other_count = cc in is))
  fetches_not (Err fault) failure is = stepped_refused name fault failure is

  pub fetches_fails : (kinds : Result (List SqlType) CursorFault) (failure : Failure) (result : Result Effect Failure) {q : SessionProgress} → IsErr result → IsErrAnd result (λ x. x ≡ failure) → IsCounted name (length variables) kinds (Err failure)
      → Stepped (answered name (fetches_into p name variables) kinds) q (Ok result) q
  fetches_fails kinds failure (Ok effect) err same is = absurd (let never : false ≡ true = err in cc)
  fetches_fails kinds failure (Err x) {q = q} err same is = subst (λ (f : Failure). Stepped {A = Result Effect Failure} (answered name (fetches_into p name variables) kinds) q (Ok (Err f)) q) (sym same) (fetches_not kinds failure is)

-- the row that comes next is passed
module _ (name : List ℕ) (meant : Result (List Assigned) Failure) {p q : SessionProgress} where
  -- it is assigned
  pub passes_row : (sets : List Assigned) {new : SessionProgress} {result : Result Effect Failure} → IsOrMemory meant (Ok sets) → q ≡ made (fetches name) p → Stepped (assigns_row (Ok sets)) q (Ok result) new
      → Stepped (with_room (makes (fetches name) (assigns_row meant))) p (Ok result) new
  passes_row sets {new = new} {result = result} is moved was =
      stepped_room true (stepped_makes moved (subst (λ (m : Result (List Assigned) Failure). Stepped (assigns_row m) q (Ok result) new) (sym (meant_ok meant sets is)) was))

  -- or a value of it can't be assigned
  pub passes_failed : (failure : Failure) → failure.number ≢ pos 701 → IsOrMemory meant (Err failure) → q ≡ made (fetches name) p → Stepped (with_room (makes (fetches name) (assigns_row meant))) p (Ok (Err failure)) q
  passes_failed failure other (inl same) moved =
      stepped_room true (stepped_makes moved (subst (λ (m : Result (List Assigned) Failure). Stepped (assigns_row m) q (Ok (Err failure)) q) same (stepped_made refl)))
  passes_failed failure other (inr none) moved =
      let is : failure ≡ plain 701 = cc in
      absurd (other (ap (λ (f : Failure). f.number) is))

-- memory was wanting for what it assigns
pub passes_none : (name : List ℕ) (meant : Result (List Assigned) Failure) (failure : Failure) {p : SessionProgress} → failure ≡ plain 701 → Stepped (with_room (makes (fetches name) (assigns_row meant))) p (Ok (Err failure)) p
passes_none name meant failure none = stepped_room false (stepped_made (ap Err none))

-- ---- the rows of a cursor

row_kinds : (kinds : List SqlType) (row : List Value) → AreExactly kinds row → HasKinds kinds row
row_kinds [] [] are = tt
row_kinds [] (value ∷ row) are = absurd are
row_kinds (kind ∷ kinds) [] are = absurd are
row_kinds (kind ∷ kinds) (value ∷ row) are = (are.0, row_kinds kinds row are.1)

pub rows_kinds : (kinds : List SqlType) (rows : Rows) → RowsOf kinds rows → All (HasKinds kinds) rows
rows_kinds kinds [] are = All-nil (HasKinds kinds)
rows_kinds kinds (row ∷ rows) are = All-cons (HasKinds kinds) row rows (row_kinds kinds row are.0) (rows_kinds kinds rows are.1)
