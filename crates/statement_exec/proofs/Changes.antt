-- What is planned and asked by a statement that changes something, where a part of it may fail.
use Rattle.std.proofs.Common.{arith, ◌≡◌, ℕ, suc, eqb-true, inl, inr, true, false, if◌then◌else◌, length, List, [], ◌∷◌, Result, Ok, Err, refl, sym, ap, ◌∙◌, subst}
use Rattle.std.specs.Prelude.{nat_eq, IsTrue}
use Rattle.std.specs.List.{list_any}
use Rattle.value_types.specs.declared.memory.Memory.{Memory}
use Rattle.tsql_tree.specs.declared.definition.Definition.{Definition}
use Rattle.tsql_tree.specs.declared.definition.TableTree.{TableTree}
use Rattle.bound_tree.specs.declared.expr.BoundTest.{BoundTest}
use Rattle.bound_tree.specs.declared.write.Bound.{Bound}
use Rattle.bound_tree.specs.declared.write.Bound.TheVariants as bound
use Rattle.bound_tree.specs.declared.write.BoundWrite.{BoundWrite}
use Rattle.typed_nodes.specs.declared.fault.BindFault.{BindFault}
use Rattle.typed_nodes.specs.declared.fault.BindFault.TheVariants as bind_fault
use Rattle.typed_nodes.specs.Refusals.{Outcome, Fails}
use Rattle.step_model.specs.declared.change.Planned.{Planned}
use Rattle.step_model.specs.declared.op.Op.{Op}
use Rattle.step_model.specs.declared.op.Op.TheVariants.{Insert, Mark}
use Rattle.step_model.specs.declared.reply.Reply.TheVariants as replies
use Rattle.step_model.specs.Exchange.{MayCome, Standing}
use Rattle.step_model.specs.Port.{PortPast, standing_after}
use Rattle.step_model.specs.Ranges.{Rows, no_memory}
use Rattle.batch_meaning.specs.declared.failure.Failure.{Failure}
use Rattle.batch_meaning.specs.Failures.{plain, naming}
use Rattle.batch_meaning.specs.Raised.{Around}
use Rattle.batch_meaning.specs.Changing.{planned_with, dropped_as}
use Rattle.batch_meaning.specs.Asking.{fails}
use Rattle.batch_meaning.specs.Selecting.{bound_as, not_bound_so}
use Rattle.batch_meaning.specs.Writes.{Written, change_bound, changes}
use Rattle.batch_meaning.specs.Progress.{SessionProgress}
use Rattle.batch_meaning.specs.Doing.{Doing, room, Did}
use Rattle.batch_meaning.proofs.Composed.{does_over, does_room}
use Rattle.statement_exec.specs.Selected.{IsInsertion}
use Rattle.statement_exec.proofs.Holding.{mark_last}
use Rattle.session_state.specs.Parts.{IsNamed, IsOrMemory, IsUnbound}

-- ---- planning

-- a table's CHECKs can't be bound
pub checks_unbound : (around : Around) (p : SessionProgress) (shape : TableTree) (of : BoundWrite) (images : List Rows) (fault : BindFault) (failure : Failure) (checks : Outcome (List BoundTest))
    → Fails fault checks → IsUnbound fault failure → IsOrMemory (planned_with around p shape of images (bound_as checks)) (Err failure)
checks_unbound around p shape of images (bind_fault.Number number name) failure checks fails is =
    inl (ap Err is ∙ sym (ap (λ (c : Outcome (List BoundTest)). planned_with around p shape of images (bound_as c)) fails))
checks_unbound around p shape of images bind_fault.Memory failure checks fails is = inr (ap Err is)

-- a table is dropped by what was planned for its rows, or memory was wanting
pub dropped_or : (definitions : List Definition) (name : List ℕ) (meant planned result : Result (List Planned) Failure) → IsOrMemory meant planned → IsOrMemory (dropped_as definitions name planned) result → IsOrMemory (dropped_as definitions name meant) result
dropped_or definitions name meant planned result (inl same) is = subst (λ (r : Result (List Planned) Failure). IsOrMemory (dropped_as definitions name r) result) same is
dropped_or definitions name meant planned result (inr none) (inl same) = inr (same ∙ ap (dropped_as definitions name) none)
dropped_or definitions name meant planned result (inr none) (inr wanting) = inr wanting

-- ---- errors that name something

-- what is done behind the error, for which memory may be wanting
pub does_named : {before after : PortPast} {A : Type 0} (go : Failure → Doing A) (number : ℕ) (name : List ℕ) (failure : Failure) {p new : SessionProgress} {result : Result A Memory}
    → IsNamed number name failure → Did before after (go failure) p result new → Did before after (room (λ enough. go (if enough then naming number name else plain no_memory))) p result new
does_named {before = before} {after = after} go number name failure {p = p} {new = new} {result = result} (inl same) does = does_room true (subst (λ (f : Failure). Did before after (go f) p result new) same does)
does_named {before = before} {after = after} go number name failure {p = p} {new = new} {result = result} (inr none) does = does_room false (subst (λ (f : Failure). Did before after (go f) p result new) none does)

-- ---- an insertion behind a mark

pub mark_live : (before after : Standing) (mark : ℕ) → after ≡ standing_after before Mark (replies.Marked mark) → IsTrue (list_any (λ live. nat_eq live mark) after.marks)
mark_live before after mark stands = rw stands (mark_last mark before.marks)

-- an insertion may come where a transaction is open
pub insertion_may : (standing : Standing) (op : Op) → IsInsertion op → standing.is_open ≡ true → MayCome standing op
insertion_may standing (Insert table key row) is begun = begun
insertion_may standing op is begun = absurd is

-- ---- what a write is bound to

-- by which it changes something
pub does_changing : {before after : PortPast} (around : Around) (shapes : List TableTree) (of : Bound) (write : BoundWrite) {p new : SessionProgress} {result : Result (Result Written Failure) Memory} → false ≡ nat_eq (length shapes) 0 → of ≡ bound.Write write
    → ((shape : TableTree) (others : List TableTree) → shapes ≡ shape ∷ others → Did before after (changes around shape others write) p result new) → Did before after (change_bound around shapes of) p result new
does_changing around [] of write some is did = absurd (let no : false ≡ true = some in cc)
does_changing {before = before} {after = after} around (shape ∷ shapes) of write {p = p} {new = new} {result = result} some is did = subst (λ (b : Bound). Did before after (change_bound around (shape ∷ shapes) b) p result new) (sym is) (did shape shapes refl)

-- where no table is named
pub does_nameless : {past : PortPast} (around : Around) (shapes : List TableTree) (of : Bound) {failure : Failure} {p : SessionProgress} → true ≡ nat_eq (length shapes) 0 → failure ≡ plain not_bound_so → Did past past (change_bound around shapes of) p (Ok (Err failure)) p
does_nameless {past = past} around [] of {p = p} none is = subst (λ (f : Failure). Did past past (fails {A = Written} not_bound_so) p (Ok (Err f)) p) (sym is) (does_over refl)
does_nameless around (shape ∷ shapes) of none is = absurd (let no : suc (length shapes) ≡ 0 = eqb-true (suc (length shapes)) 0 (sym none) in omega arith)

-- what is no write
pub does_unchanging : {past : PortPast} (around : Around) (shapes : List TableTree) (of : Bound) {failure : Failure} {p : SessionProgress} → ((write : BoundWrite) → of ≡ bound.Write write → ⊥) → failure ≡ plain not_bound_so
    → Did past past (change_bound around shapes of) p (Ok (Err failure)) p
does_unchanging {past = past} around shapes of {failure = failure} {p = p} none is = subst (λ (f : Failure). Did past past (change_bound around shapes of) p (Ok (Err f)) p) (sym is) (by_bound shapes of none)
  where
    by_bound : (named : List TableTree) (b : Bound) → ((write : BoundWrite) → b ≡ bound.Write write → ⊥) → Did past past (change_bound around named b) p (Ok (Err (plain not_bound_so))) p
    by_bound [] b not = does_over refl
    by_bound (shape ∷ shapes) (bound.Write write) not = absurd (not write refl)
    by_bound (shape ∷ shapes) (bound.Query query) not = does_over refl
    by_bound (shape ∷ shapes) (bound.Assign query places) not = does_over refl
    by_bound (shape ∷ shapes) bound.Plain not = does_over refl
