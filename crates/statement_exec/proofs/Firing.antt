-- A write up to where its triggers run.
use Rattle.std.proofs.Common.{◌≡◌, suc, Bool, true, false, if◌then◌else◌, List, [], ◌∷◌, ◌++◌, length, nat_eq, Result, Ok, Err, refl, sym, subst, append_assoc, eqb-true, arith}
use Rattle.std.specs.Result.{IsErr, IsErrAnd}
use Rattle.tsql_tree.specs.declared.definition.TriggerTree.{TriggerTree}
use Rattle.tsql_tree.specs.declared.statement.Statement.{Statement}
use Rattle.step_model.specs.Exchange.{Exchange}
use Rattle.step_model.specs.Port.{PortPast}
use Rattle.step_model.proofs.Pasts.{goes_further}
use Rattle.batch_meaning.specs.declared.failure.Failure.{Failure}
use Rattle.batch_meaning.specs.declared.home.Home.{Home}
use Rattle.batch_meaning.specs.declared.stop.Stop.{Stop}
use Rattle.batch_meaning.specs.declared.stop.Stop.TheVariants.{Failed}
use Rattle.batch_meaning.specs.Failures.{plain}
use Rattle.step_model.specs.Ranges.{no_memory}
use Rattle.batch_meaning.specs.Raised.{Around}
use Rattle.batch_meaning.specs.Selecting.{Effect}
use Rattle.batch_meaning.specs.Progress.{SessionProgress}
use Rattle.batch_meaning.specs.Doing.{Came, Did, Doing, Leads, over, room, ◌then◌}
use Rattle.binder.specs.Names.{looked_up}
use Rattle.batch_meaning.specs.Meaning.{Meaning, fires, writes, writes_in, written_with}
use Rattle.batch_meaning.specs.Working.{asks_any, enters, known_by, leaves}
use Rattle.batch_meaning.specs.Writes.{Written}
use Rattle.batch_meaning.proofs.Composed.{does_over, does_room, does_then, leads_here, leads_room, leads_then}
use Rattle.statement_exec.specs.declared.changing.Change.{Change}
use Rattle.statement_exec.specs.declared.changing.Change.TheVariants.{Done, Fires}
use Rattle.statement_exec.specs.Changed.{HasWritten}

-- what is left leads further
leads_on : {before mid after : PortPast} {A : Type 0} {whole rest other : Doing A} {old q new : SessionProgress} → Leads before mid whole old rest q → Leads mid after rest q other new → Leads before after whole old other new
leads_on {before = before} {mid = mid} {after = after} {whole = whole} {old = old} first second = record {
  front = first.front ++ second.front;
  past = goes_further before mid after first.front second.front first.past second.past;
  goes = λ later result end came. subst (λ (x : List Exchange). Came whole old x result end) (sym (append_assoc first.front second.front later))
      (first.goes (second.front ++ later) result end (second.goes later result end came));
}

module _ {before mid : PortPast} (after : PortPast) (one : Statement → Meaning) (around : Around) where
  -- behind another part
  pub written_then : {A : Type 0} (tree : Doing A) (go : A → Doing (Result Effect Stop)) {p q : SessionProgress} {a : A} (result : Result Change Failure) (new : SessionProgress)
      → Did before mid tree p (Ok a) q → HasWritten mid after (go a) one around q result new → HasWritten before after (tree then go) one around p result new
  written_then tree go (Ok (Done effect)) new first second = does_then tree go first second
  written_then tree go (Ok (Fires home w)) new first second = leads_on (leads_then tree go leads_here first) second
  written_then tree go (Err failure) new first second = does_then tree go first second

module _ (before after : PortPast) (one : Statement → Meaning) (around : Around) where
  -- where there is room
  written_room : (go : Bool → Doing (Result Effect Stop)) (p : SessionProgress) (result : Result Change Failure) (new : SessionProgress)
      → HasWritten before after (go true) one around p result new → HasWritten before after (room go) one around p result new
  written_room go p (Ok (Done effect)) new was = does_room true was
  written_room go p (Ok (Fires home w)) new was = leads_on (leads_room true go leads_here) was
  written_room go p (Err failure) new was = does_room true was

  -- the names that it looks up are there
  pub written_named : (statement : Statement) (p : SessionProgress) (result : Result Change Failure) (new : SessionProgress)
      → HasWritten before after (enters (asks_any (known_by around statement) (looked_up statement)) then writes_in one around statement) one around p result new → HasWritten before after (writes one around statement) one around p result new
  unfolding writes
  written_named statement p result new was = written_room (λ enough. if enough then (enters (asks_any (known_by around statement) (looked_up statement)) then writes_in one around statement) else over (Err (Failed (plain no_memory)))) p result new was

module _ {before after : PortPast} (one : Statement → Meaning) (around : Around) where
  -- it failed
  pub written_fails : (tree : Doing (Result Effect Stop)) {p new : SessionProgress} {failure : Failure} (result : Result Change Failure) → IsErr result → IsErrAnd result (λ x. x ≡ failure)
      → Did before after tree p (Ok (Err (Failed failure))) new → HasWritten before after tree one around p result new
  written_fails tree (Ok change) err same did = absurd (let no : false ≡ true = err in cc)
  written_fails tree {p = p} {new = new} (Err x) err same did = subst (λ (f : Failure). Did before after tree p (Ok (Err (Failed f))) new) (sym same) did

-- what is told of it
abbrev told : Effect → Doing (Result Effect Stop)
told effect = over (Ok effect)

-- it fires none
pub written_done : {before after : PortPast} (one : Statement → Meaning) (around : Around) (home : Home) (w : Written) (triggers : List TriggerTree) {effect : Effect} {p new : SessionProgress} → true ≡ nat_eq (length triggers) 0 → effect ≡ w.effect
    → Did before after (leaves home true) p (Ok tt) new → Did before after (written_with one around home w triggers) p (Ok (Ok effect)) new
written_done {before = before} {after = after} one around home w [] {p = p} {new = new} none same did =
    subst (λ (e : Effect). Did before after (leaves home true then λ done. told w.effect) p (Ok (Ok e)) new) (sym same) (does_then (leaves home true) (λ done. told w.effect) did (does_over refl))
written_done one around home w (trigger ∷ triggers) none same did = absurd (let no : suc (length triggers) ≡ 0 = eqb-true (suc (length triggers)) 0 (sym none) in omega arith)

-- it fires some
pub written_fires : {now : PortPast} (one : Statement → Meaning) (around : Around) (home : Home) (w : Written) (triggers : List TriggerTree) {p : SessionProgress} → false ≡ nat_eq (length triggers) 0
    → Leads now now (written_with one around home w triggers) p (fires one around home w) p
written_fires one around home w [] some = absurd (let no : false ≡ true = some in cc)
written_fires one around home w (trigger ∷ triggers) some = leads_here

-- memory was wanting
abbrev pub wanting : Doing (Result Effect Stop)
wanting = over (Err (Failed (plain no_memory)))

pub written_failed : {past : PortPast} {failure : Failure} {p : SessionProgress} → failure ≡ plain no_memory → Did past past wanting p (Ok (Err (Failed failure))) p
written_failed {past = past} {p = p} is = subst (λ (f : Failure). Did past past wanting p (Ok (Err (Failed f))) p) (sym is) (does_over refl)
