-- A transaction that is begun unseen: what is left to do behind it.
use Rattle.std.proofs.Common.{◌≡◌, ℕ, Bool, true, false, List, ◌++◌, append_assoc, Option, None, Result, Ok, Err, refl, sym, subst}
use Rattle.std.specs.Result.{IsErr}
use Rattle.value_types.specs.declared.memory.Memory.{Memory}
use Rattle.step_model.specs.Exchange.{Exchange}
use Rattle.step_model.specs.Port.{PortPast}
use Rattle.step_model.proofs.Pasts.{goes_further}
use Rattle.batch_meaning.specs.declared.exit.Exit.{Exit}
use Rattle.batch_meaning.specs.declared.failure.Failure.{Failure}
use Rattle.batch_meaning.specs.Asking.{with_room}
use Rattle.batch_meaning.specs.Doing.{Doing, makes, Came, Did, Leads}
use Rattle.batch_meaning.specs.Meaning.{begins_first, begun_unseen, behind_unseen}
use Rattle.batch_meaning.specs.Progress.{SessionProgress, made, sends}
use Rattle.batch_meaning.specs.Selecting.{Effect}
use Rattle.batch_meaning.specs.Transactions.{begins_outermost, next_serial}
use Rattle.batch_meaning.proofs.Composed.{does_out, leads_here, leads_makes, leads_no, leads_reads, leads_then, leads_to, leads_yes}
use Rattle.statement_exec.proofs.Beginning.{did_none, none_afforded, none_asks, none_begun, none_makes, none_over, none_refused, none_roomed}
use Rattle.batch_exec.specs.Running.{LeadsBehind, LeadsOn}

-- it begins no statement
pub outermost_left : {before after : PortPast} (name : Option (List ℕ)) (serial : ℕ) {p new : SessionProgress} {result : Result (Result Effect Failure) Memory} → Did before after (with_room (begins_outermost name serial)) p result new → new.statements_left ≡ p.statements_left
unfolding begins_outermost
outermost_left name serial did = did_none _ (none_roomed _ (none_afforded _ _ (none_roomed _ (none_asks _ _ (none_refused _ (none_begun _ (none_makes _ _ tt (none_over _)))))))) did

-- ---- where memory was wanting

pub did_out : {before after : PortPast} {tree : Doing Exit} {p new : SessionProgress} {memory : Memory} (result : Result Exit Memory) → IsErr result → Did before after tree p (Err memory) new → Did before after tree p result new
did_out (Ok exit) err did = absurd (let no : false ≡ true = err in cc)
did_out (Err memory) err did = record { exchanges = did.exchanges; past = did.past; came = did.came }

pub on_left : {before after : PortPast} {whole : Doing Exit} (rest : Doing Exit) {p new : SessionProgress} {memory : Memory} (result : Result (Option Exit) Memory) → IsErr result → Did before after whole p (Err memory) new → LeadsOn before after whole rest p result new
on_left rest (Ok exit) err did = absurd (let no : false ≡ true = err in cc)
on_left rest (Err memory) err did = record { exchanges = did.exchanges; past = did.past; came = did.came }

-- ---- behind the BEGIN

module _ {before mid : PortPast} (fails : Failure → Doing Exit) (next : Doing Exit) {p q : SessionProgress} where
  begun_tells : (effect : Effect) → Did before mid (with_room (begins_outermost None (next_serial p.txn))) p (Ok (Ok effect)) q → Leads before mid (begins_first fails next p) p (makes (sends effect.tokens) next) q
  begun_tells effect did = leads_then (with_room (begins_outermost None (next_serial p.txn))) (λ came. behind_unseen fails next came) leads_here did

  -- one is begun, and told
  pub begun_on : (effect : Effect) {r : SessionProgress} → Did before mid (with_room (begins_outermost None (next_serial p.txn))) p (Ok (Ok effect)) q → r ≡ made (sends effect.tokens) q → Leads before mid (begins_first fails next p) p next r
  begun_on effect did same = leads_makes same (begun_tells effect did)

  -- memory was wanting to tell it
  pub begun_left : (effect : Effect) {new : SessionProgress} (result : Result (Option Failure) Memory) → IsErr result → new ≡ q → Did before mid (with_room (begins_outermost None (next_serial p.txn))) p (Ok (Ok effect)) q → LeadsBehind before mid fails next p result new
  begun_left effect (Ok failed) err same did = absurd (let no : false ≡ true = err in cc)
  begun_left effect (Err memory) err same did = leads_to (begun_tells effect did) (does_out (Err memory) refl same)

  -- it failed
  pub begun_failed : (failure : Failure) → Did before mid (with_room (begins_outermost None (next_serial p.txn))) p (Ok (Err failure)) q → Leads before mid (begins_first fails next p) p (fails failure) q
  begun_failed failure did = leads_then (with_room (begins_outermost None (next_serial p.txn))) (λ came. behind_unseen fails next came) leads_here did

-- ---- whether there is one

-- what leads on leads on
pub leads_both : {before mid after : PortPast} {whole middle rest : Doing Exit} {old q new : SessionProgress} → Leads before mid whole old middle q → Leads mid after middle q rest new → Leads before after whole old rest new
leads_both {before = before} {mid = mid} {after = after} {whole = whole} {old = old} first second = record {
  front = first.front ++ second.front;
  past = goes_further before mid after first.front second.front first.past second.past;
  goes = λ later result new came. subst (λ (x : List Exchange). Came whole old x result new) (sym (append_assoc first.front second.front later)) (first.goes (second.front ++ later) result new (second.goes later result new came));
}

module _ {before : PortPast} (wants : SessionProgress → Bool) (fails : Failure → Doing Exit) (next : Doing Exit) {p : SessionProgress} where
  -- none is begun
  pub seen_on : false ≡ wants p → Leads before before (begun_unseen wants fails next) p next p
  unfolding begun_unseen
  seen_on seen = leads_no _ _ _ (sym seen) (leads_reads leads_here)

  -- one is
  pub unseen_on : true ≡ wants p → Leads before before (begun_unseen wants fails next) p (begins_first fails next p) p
  unfolding begun_unseen
  unseen_on unseen = leads_yes _ _ _ (sym unseen) (leads_reads leads_here)
