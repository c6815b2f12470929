-- A statement that is bound before it asks, and what comes behind its binding.
use Rattle.std.proofs.Common.{◌≡◌, Bool, true, false, if◌then◌else◌, inl, inr, [], Result, Ok, Err, refl, sym, subst}
use Rattle.tsql_tree.specs.declared.statement.Statement.{Statement}
use Rattle.bound_tree.specs.declared.write.Bound.{Bound}
use Rattle.step_model.specs.Port.{PortPast}
use Rattle.batch_meaning.specs.declared.failure.Failure.{Failure}
use Rattle.batch_meaning.specs.Failures.{plain}
use Rattle.batch_meaning.specs.Selecting.{Effect, bound_over}
use Rattle.batch_meaning.specs.Progress.{SessionProgress}
use Rattle.batch_meaning.specs.Doing.{Doing, over, reads, Held, Did}
use Rattle.batch_meaning.specs.Asking.{◌>>=◌, fails, on_ok, with_room}
use Rattle.batch_meaning.specs.Transactions.{bound_first}
use Rattle.batch_meaning.proofs.Composed.{does_over, does_reads, does_room, does_then}
use Rattle.statement_exec.specs.Selected.{BoundSo, IsBoundFirst}
use Rattle.std.specs.Result.{IsErr, IsErrAnd}

-- ---- bound first

pub bound_on : {past after : PortPast} (statement : Statement) (go : SessionProgress → Doing (Result Effect Failure)) {p new : SessionProgress} {result : Result Effect Failure}
    → IsBoundFirst p statement (Ok tt) → Did past after (with_room (reads go)) p (Ok result) new → Did past after (bound_first statement go) p (Ok result) new
bound_on {past = past} {after = after} statement go {p = p} {new = new} {result = result} is did = by_bound (bound_over [] p.vars statement) refl is
  where
    by_bound : (bound : Result Bound Failure) → bound_over [] p.vars statement ≡ bound → BoundSo bound (Ok tt) → Did past after ((reads λ q. with_room (over (bound_over [] q.vars statement))) >>= (λ of. with_room (reads go))) p (Ok result) new
    by_bound (Ok of) same so = does_then (reads λ q. with_room (over (bound_over [] q.vars statement))) (on_ok (λ of. with_room (reads go))) {a = Ok of} (does_reads (does_room true (rw same (does_over refl)))) did
    by_bound (Err failure) same (inl never) = absurd cc
    by_bound (Err failure) same (inr never) = absurd cc

bound_not : {past : PortPast} (statement : Statement) (go : SessionProgress → Doing (Result Effect Failure)) {p : SessionProgress} {failure : Failure}
    → IsBoundFirst p statement (Err failure) → Did past past (bound_first statement go) p (Ok (Err failure)) p
bound_not {past = past} statement go {p = p} {failure = failure} is = by_bound (bound_over [] p.vars statement) refl is
  where
    tree : Doing (Result Effect Failure)
    tree = (reads λ q. with_room (over (bound_over [] q.vars statement))) >>= (λ of. with_room (reads go))

    wanting : failure ≡ plain 701 → Did past past tree p (Ok (Err failure)) p
    wanting none = subst (λ (f : Failure). Did past past tree p (Ok (Err f)) p) (sym none) (does_then (reads λ q. with_room (over (bound_over [] q.vars statement))) (on_ok (λ of. with_room (reads go))) {a = Err (plain 701)} (does_reads (does_room false (does_over refl))) (does_over refl))

    by_bound : (bound : Result Bound Failure) → bound_over [] p.vars statement ≡ bound → BoundSo bound (Err failure) → Did past past tree p (Ok (Err failure)) p
    by_bound (Ok of) same (inl never) = absurd cc
    by_bound (Ok of) same (inr none) = wanting (let is : failure ≡ plain 701 = cc in is)
    by_bound (Err why) same (inl so) = let is : why ≡ failure = cc in subst (λ (f : Failure). Did past past tree p (Ok (Err f)) p) is (does_then (reads λ q. with_room (over (bound_over [] q.vars statement))) (on_ok (λ of. with_room (reads go))) {a = Err why} (does_reads (does_room true (rw same (does_over refl)))) (does_over refl))
    by_bound (Err why) same (inr none) = wanting (let is : failure ≡ plain 701 = cc in is)

-- it is not bound
pub bound_fails : {past : PortPast} (statement : Statement) (go : SessionProgress → Doing (Result Effect Failure)) {p : SessionProgress} (failure : Failure) (result : Result Effect Failure) → IsErr result → IsErrAnd result (λ x. x ≡ failure)
    → IsBoundFirst p statement (Err failure) → Did past past (bound_first statement go) p (Ok result) p
bound_fails statement go failure (Ok effect) err same is = absurd (let never : false ≡ true = err in cc)
bound_fails {past = past} statement go {p = p} failure (Err x) err same is = subst (λ (f : Failure). Did {A = Result Effect Failure} past past (bound_first statement go) p (Ok (Err f)) p) (sym same) (bound_not statement go is)

-- ---- room

-- another thing is done where there is room
does_roomed : {before after : PortPast} {A : Type 0} (tree other : Doing (Result A Failure)) {p new : SessionProgress} {result : Result A Failure}
    → ((r : Result A Failure) → Did before after tree p (Ok r) new → Did before after other p (Ok r) new) → Did before after (with_room tree) p (Ok result) new → Did before after (with_room other) p (Ok result) new
unfolding Held
does_roomed {before = before} {after = after} tree other {p = p} {new = new} {result = result} goes did = by_room did.came.0 did.came.1
  where
    by_room : (enough : Bool) → Held (if enough then tree else fails 701) p did.exchanges result new → Did before after (with_room other) p (Ok result) new
    by_room true held = does_room true (goes result (record { exchanges = did.exchanges; past = did.past; came = held }))
    by_room false held = does_room false (record { exchanges = did.exchanges; past = did.past; came = held })

-- ---- what comes behind the binding

-- it goes on so, by how far the session has come
pub does_go : {before after : PortPast} {A : Type 0} (tree : Doing (Result A Failure)) (go : SessionProgress → Doing (Result A Failure)) {p new : SessionProgress} {result : Result A Failure} → go p ≡ tree
    → Did before after (with_room tree) p (Ok result) new → Did before after (with_room (reads go)) p (Ok result) new
does_go {before = before} {after = after} {A = A} tree go {p = p} {new = new} same did = does_roomed tree (reads go) (λ r was. does_reads (subst (λ (t : Doing (Result A Failure)). Did before after t p (Ok r) new) (sym same) was)) did
