-- The statements on transactions: what is open when they ask.
use Rattle.std.proofs.Common.{◌≡◌, ℕ, ℤ, pos, Bool, true, false, if◌then◌else◌, nat_eq, inl, inr, List, [], ◌∷◌, Option, None, Some, Result, Ok, Err, refl, sym, ap, ◌∙◌, subst}
use Rattle.std.specs.Prelude.{nat_le, nat_lt, IfOk, IsTrue}
use Rattle.std.specs.List.{list_any}
use Rattle.std.proofs.lemmas.List.Elements.{All-head, All-tail}
use Rattle.value_types.specs.declared.memory.Memory.{Memory}
use Rattle.value_types.specs.Units.{same_units}
use Rattle.step_model.specs.Port.{PortPast}
use Rattle.txn_rules.specs.declared.savepoints.Savepoint.{Savepoint}
use Rattle.txn_rules.specs.declared.state.BackKind.{BackKind}
use Rattle.txn_rules.specs.declared.state.BackKind.TheVariants.{Mark, Whole}
use Rattle.txn_rules.specs.declared.state.TxnState.{TxnState}
use Rattle.txn_rules.specs.Savepoints.{mark_behind, mark_of}
use Rattle.txn_rules.specs.State.{back_to, commit_answer, count_limit, is_called, is_closed, rollback_answer}
use Rattle.binder.specs.Statements.{is_maybe_long}
use Rattle.tds_tokens.specs.declared.token.Token.{Token}
use Rattle.batch_meaning.specs.declared.failure.Failure.{Failure}
use Rattle.batch_meaning.specs.Failures.{plain}
use Rattle.batch_meaning.specs.Selecting.{Effect, no_effect, result_full}
use Rattle.batch_meaning.specs.Settings.{outside_profile}
use Rattle.batch_meaning.specs.Progress.{SessionProgress, AreLive, Ready, opens, size_of}
use Rattle.batch_meaning.specs.Doing.{Doing, over, makes, Did}
use Rattle.batch_meaning.specs.Asking.{fails, if_bytes_left}
use Rattle.batch_meaning.specs.Transactions.{begins_outermost, begins_over, commits_by, commits_transaction, fails_of, goes_back, named_first, next_serial, nothing_open, rolls_back_to, rolls_back_transaction, rolls_back_whole}
use Rattle.batch_meaning.proofs.Composed.{does_no, does_over, does_reads, does_room}
use Rattle.batch_exec.specs.Running.{IsAffordable, IsNumbered}

-- ---- what is open

module _ {past : PortPast} (p : SessionProgress) (ready : Ready p past) where
  -- a ROLLBACK to a name that is not refused
  pub named_open : (name : List ℕ) (kind : BackKind) → rollback_answer name p.txn ≡ Ok kind → p.is_open ≡ true
  named_open name kind is = by_closed (is_closed p.txn) refl
    where
      by_closed : (closed : Bool) → is_closed p.txn ≡ closed → p.is_open ≡ true
      by_closed true shut = absurd (let no : rollback_answer name p.txn ≡ Err (pos 3903) = rw shut refl in cc)
      by_closed false shut = ready.counted shut

-- the mark of a savepoint is live
found_live : (name : List ℕ) (marks : List ℕ) (mark : ℕ) (so_far : Option ℕ) (saves : List Savepoint)
    → ((m : ℕ) → so_far ≡ Some m → IsTrue (list_any (λ live. nat_eq live m) marks)) → AreLive saves marks → mark_behind so_far name saves ≡ Some mark → IsTrue (list_any (λ live. nat_eq live mark) marks)
found_live name marks mark so_far [] known live is = known mark is
found_live name marks mark so_far (savepoint ∷ saves) known live is =
    found_live name marks mark (if same_units savepoint.name name then Some savepoint.mark else so_far) saves (by_name (same_units savepoint.name name)) (All-tail (λ (s : Savepoint). IsTrue (list_any (λ live. nat_eq live s.mark) marks)) savepoint saves live) is
  where
    by_name : (same : Bool) (m : ℕ) → (if same then Some savepoint.mark else so_far) ≡ Some m → IsTrue (list_any (λ live. nat_eq live m) marks)
    by_name true m is = subst (λ (n : ℕ). IsTrue (list_any (λ live. nat_eq live n) marks)) (let same : savepoint.mark ≡ m = cc in same) (All-head (λ (s : Savepoint). IsTrue (list_any (λ live. nat_eq live s.mark) marks)) savepoint saves live)
    by_name false m is = known m is

-- ---- what is sent

-- tokens that the batch may still send, and what is sent then
pub does_afforded : {past after : PortPast} {A : Type 0} (tokens : List Token) (made : Result (List Token) Memory) (next : Doing (Result A Failure)) {sent : List Token} {p new : SessionProgress} {result : Result (Result A Failure) Memory}
    → IfOk made (λ these. these ≡ tokens) → IsAffordable p made (Ok sent) → (sent ≡ tokens → Did past after next p result new) → Did past after (if_bytes_left tokens next) p result new
does_afforded {past = past} {after = after} {A = A} tokens (Ok these) next {sent = sent} {p = p} {new = new} {result = result} are is go =
    does_reads (by_test (nat_lt p.bytes_left (size_of tokens)) (subst (λ (t : List Token). Ok sent ≡ (if nat_lt p.bytes_left (size_of t) then Err (plain result_full) else Ok t)) are is))
  where
    by_test : (full : Bool) → Ok sent ≡ (if full then Err (plain result_full) else Ok tokens) → Did past after (if full then fails {A = A} result_full else next) p result new
    by_test true full = absurd cc
    by_test false same = go (let so : sent ≡ tokens = cc in so)
does_afforded tokens (Err memory) next are is go = absurd cc

-- ---- the name of one that ends a transaction

-- it is looked at, and it goes on
named_on : {past after : PortPast} (name : Option (List ℕ)) (go : SessionProgress → Doing (Result Effect Failure)) (tree : Doing (Result Effect Failure)) {p new : SessionProgress} {result : Result Effect Failure}
    → is_maybe_long name ≡ false → go p ≡ tree → Did past after tree p (Ok result) new → Did past after (named_first name go) p (Ok result) new
named_on {past = past} {after = after} name go tree {p = p} {new = new} {result = result} short is did =
    does_no (is_maybe_long name) _ _ short (does_reads (subst (λ (t : Doing (Result Effect Failure)). Did past after t p (Ok result) new) (sym is) did))

-- ---- BEGIN TRANSACTION

pub begins_closed : (name : Option (List ℕ)) (p : SessionProgress) → p.is_open ≡ false → begins_over name p ≡ begins_outermost name (next_serial p.txn)
begins_closed name p shut = rw shut refl

pub begins_most : (name : Option (List ℕ)) (p : SessionProgress) → p.is_open ≡ true → nat_le count_limit p.txn.count ≡ true → begins_over name p ≡ fails outside_profile
begins_most name p begun most = rw (begun, most) refl

pub begins_inner : (name : Option (List ℕ)) (p : SessionProgress) → p.is_open ≡ true → nat_le count_limit p.txn.count ≡ false → begins_over name p ≡ makes (opens name) (over (Ok no_effect))
begins_inner name p begun most = rw (begun, most) refl

-- ---- COMMIT

-- it is committed by this answer
pub commits_on : {past after : PortPast} (name : Option (List ℕ)) (answer : Result Bool ℤ) {p new : SessionProgress} {result : Result Effect Failure}
    → is_maybe_long name ≡ false → commit_answer p.txn ≡ answer → Did past after (commits_by p answer) p (Ok result) new → Did past after (commits_transaction name) p (Ok result) new
unfolding commits_transaction
commits_on name answer {p = p} short is did = named_on name (λ q. commits_by q (commit_answer q.txn)) (commits_by p answer) short (ap (commits_by p) is) did

-- ---- ROLLBACK

rolls_named : (given : Option (List ℕ)) (name : List ℕ) (p : SessionProgress) → given ≡ Some name → rolls_back_to given p ≡ goes_back name p (rollback_answer name p.txn)
rolls_named given name p is = rw is refl

rolls_closed : (given : Option (List ℕ)) (p : SessionProgress) → given ≡ None → is_closed p.txn ≡ true → rolls_back_to given p ≡ fails nothing_open
rolls_closed given p is shut = rw (is, shut) refl

rolls_open : (given : Option (List ℕ)) (p : SessionProgress) → given ≡ None → is_closed p.txn ≡ false → rolls_back_to given p ≡ rolls_back_whole p
rolls_open given p is shut = rw (is, shut) refl

module _ {past after : PortPast} (given : Option (List ℕ)) {p new : SessionProgress} {result : Result Effect Failure} (short : is_maybe_long given ≡ false) where
  -- to a name
  pub rolls_to : (name : List ℕ) → given ≡ Some name → Did past after (goes_back name p (rollback_answer name p.txn)) p (Ok result) new → Did past after (rolls_back_transaction given) p (Ok result) new
  unfolding rolls_back_transaction
  rolls_to name is did = named_on given (rolls_back_to given) (goes_back name p (rollback_answer name p.txn)) short (rolls_named given name p is) did

  -- where nothing is open
  pub rolls_none : given ≡ None → is_closed p.txn ≡ true → Did past after (fails nothing_open) p (Ok result) new → Did past after (rolls_back_transaction given) p (Ok result) new
  unfolding rolls_back_transaction
  rolls_none is shut did = named_on given (rolls_back_to given) (fails nothing_open) short (rolls_closed given p is shut) did

  -- whole
  pub rolls_all : given ≡ None → is_closed p.txn ≡ false → Did past after (rolls_back_whole p) p (Ok result) new → Did past after (rolls_back_transaction given) p (Ok result) new
  unfolding rolls_back_transaction
  rolls_all is begun did = named_on given (rolls_back_to given) (rolls_back_whole p) short (rolls_open given p is begun) did

-- a mark to which a name goes back is live
pub named_live : (name : List ℕ) (txn : TxnState) (marks : List ℕ) (mark : ℕ) → AreLive txn.saves marks → rollback_answer name txn ≡ Ok (Mark mark) → IsTrue (list_any (λ live. nat_eq live mark) marks)
named_live name txn marks mark live is = by_closed (is_closed txn) is
  where
    by_doom : (doomed : Bool) (m : ℕ) → mark_of name txn.saves ≡ Some m → (if doomed then Err (pos 3931) else Ok (Mark m)) ≡ Ok (Mark mark) → IsTrue (list_any (λ live. nat_eq live mark) marks)
    by_doom true m found same = absurd cc
    by_doom false m found same = found_live name marks mark None txn.saves (λ n none. absurd cc) live (let so : m ≡ mark = cc in found ∙ ap Some so)

    by_name : (called : Bool) → (if called then Ok Whole else Err (pos 6401)) ≡ Ok (Mark mark) → IsTrue (list_any (λ live. nat_eq live mark) marks)
    by_name true same = absurd cc
    by_name false same = absurd cc

    by_found : (found : Option ℕ) → mark_of name txn.saves ≡ found → back_to name txn found ≡ Ok (Mark mark) → IsTrue (list_any (λ live. nat_eq live mark) marks)
    by_found None none same = by_name (is_called name txn.name) same
    by_found (Some m) found same = by_doom txn.doomed m found same

    by_closed : (closed : Bool) → (if closed then Err (pos 3903) else back_to name txn (mark_of name txn.saves)) ≡ Ok (Mark mark) → IsTrue (list_any (λ live. nat_eq live mark) marks)
    by_closed true same = absurd cc
    by_closed false same = by_found (mark_of name txn.saves) refl same

-- an error that names the transaction or savepoint, or memory was wanting for it
pub does_numbered : {past : PortPast} {A : Type 0} (number : ℤ) (name : List ℕ) (failure : Failure) {p : SessionProgress} → IsNumbered number name failure → Did past past (fails_of {A = A} number name) p (Ok (Err failure)) p
does_numbered {past = past} {A = A} number name failure {p = p} (inl same) = subst (λ (f : Failure). Did past past (fails_of {A = A} number name) p (Ok (Err f)) p) (sym same) (does_room true (does_over refl))
does_numbered {past = past} {A = A} number name failure {p = p} (inr none) = subst (λ (f : Failure). Did past past (fails_of {A = A} number name) p (Ok (Err f)) p) (sym none) (does_room false (does_over refl))
