-- `objects`, which a session reads over its port, fetch by fetch.
use Rattle.std.proofs.Common.{◌≡◌, ℕ, zero, suc, ◌-◌, ◌<◌, true, false, List, [], Option, None, Some, Result, Ok, Err, refl, sym, ap, subst, arith}
use Rattle.std.specs.Result.{IsErr, IsErrAnd}
use Rattle.std.specs.declared.alloc.Global.{Global}
use Rattle.std.specs.declared.vec.Vec.{Vec}
use Rattle.value_types.specs.declared.value.Value.{Value}
use Rattle.step_model.specs.declared.op.Op.{Op}
use Rattle.step_model.specs.declared.range.Start.{Start}
use Rattle.step_model.specs.declared.range.Start.TheVariants.{First}
use Rattle.step_model.specs.Port.{PortPast}
use Rattle.step_model.specs.Ranges.{range_limit, range_full}
use Rattle.tsql_tree.specs.declared.definition.Definition.{Definition}
use Rattle.dml_exec.specs.Asking.{seen}
use Rattle.dml_exec.specs.Reading.{behind_gone}
use Rattle.batch_meaning.specs.Progress.{SessionProgress}
use Rattle.batch_meaning.specs.Doing.{Doing, asks, Did, Leads}
use Rattle.batch_meaning.specs.Asking.{on_ok, unless_refused, objects_fetch, defined_by, defined_on, defined_from}
use Rattle.batch_meaning.specs.declared.failure.Failure.{Failure}
use Rattle.batch_meaning.specs.Failures.{plain}
use Rattle.batch_meaning.proofs.Composed.{does_over, does_fail, leads_here, leads_to, leads_then}
use Rattle.statement_exec.specs.Fetched.{fetch_behind, ReadsObjects}

abbrev pub whole : Doing (Result (List Definition) Failure)
whole = defined_from range_limit First []

-- these definitions were read, and so many keys may still be looked at; what is left leads to the whole
pub record Reading (before now : PortPast) (old : SessionProgress) (left : ℕ) (fetch : Op) (definitions : List Definition) (mid : SessionProgress) : Type 0 where
  pub start : Start
  pub fetches : fetch ≡ objects_fetch start
  pub leads : Leads before now whole old (defined_from left start definitions) mid

pub reading_begun : (now : PortPast) (old : SessionProgress) → Reading now now old range_limit (objects_fetch First) [] old
reading_begun now old = record { start = First; fetches = refl; leads = leads_here }

module _ {before now : PortPast} {old mid : SessionProgress} where
  -- a fetch more was asked
  reading_asked : {next : PortPast} (left : ℕ) {fetch : Op} {definitions more : List Definition} {key : Option (List Value)} {q : SessionProgress} → 0 < left → (reading : Reading before now old left fetch definitions mid)
      → Did now next (asks fetch (unless_refused (defined_by definitions))) mid (Ok (Ok (more, key))) q
      → Leads before next whole old (defined_on (λ m k. defined_from (left - 1) (behind_gone 1 k) m) (more, key)) q
  unfolding defined_from
  reading_asked zero some reading did = absurd (omega arith)
  reading_asked {next = next} (suc left) {fetch = fetch} {definitions = definitions} {more = more} {key = key} {q = q} some reading did =
      let fewer : suc left - 1 ≡ left = omega arith in
      subst (λ n. Leads before next whole old (defined_on (λ m k. defined_from n (behind_gone 1 k) m) (more, key)) q) (sym fewer)
      (leads_then (asks (objects_fetch reading.start) (unless_refused (defined_by definitions))) (on_ok (defined_on (λ m k. defined_from left (behind_gone 1 k) m))) reading.leads
      (subst (λ (op : Op). Did now next (asks op (unless_refused (defined_by definitions))) mid (Ok (Ok (more, key))) q) reading.fetches did))

  -- it was answered by a key
  pub reading_next : {next : PortPast} (left : ℕ) {fetch : Op} {definitions more : List Definition} {key : List Value} {q : SessionProgress} → 0 < left → (reading : Reading before now old left fetch definitions mid)
      → Did now next (asks fetch (unless_refused (defined_by definitions))) mid (Ok (Ok (more, Some key))) q → Reading before next old (left - 1) (fetch_behind fetch key) more q
  reading_next left {key = key} some reading did = record { start = behind_gone 1 key; fetches = ap (λ op. fetch_behind op key) reading.fetches; leads = reading_asked left some reading did }

  -- it was answered by the end
  pub reading_ended : {next : PortPast} (left : ℕ) {fetch : Op} {definitions more : List Definition} {q : SessionProgress} → 0 < left → (reading : Reading before now old left fetch definitions mid)
      → Did now next (asks fetch (unless_refused (defined_by definitions))) mid (Ok (Ok (more, None))) q → Did before next whole old (Ok (Ok more)) q
  reading_ended left some reading did = leads_to (reading_asked left some reading did) (does_over refl)

  -- it failed
  pub reading_left : {next : PortPast} (left : ℕ) {fetch : Op} {definitions : List Definition} {failure : Failure} {q : SessionProgress} (result : Result (List Definition) Failure) → IsErr result → IsErrAnd result (λ x. x ≡ failure) → 0 < left → (reading : Reading before now old left fetch definitions mid)
      → Did now next (asks fetch (unless_refused (defined_by definitions))) mid (Ok (Err failure)) q → Did before next whole old (Ok result) q
  unfolding defined_from
  reading_left zero result err same some reading did = absurd (omega arith)
  reading_left {next = next} (suc left) {definitions = definitions} {failure = failure} {q = q} result err same some reading did = leads_to reading.leads
      (does_fail (asks (objects_fetch reading.start) (unless_refused (defined_by definitions))) (defined_on (λ m k. defined_from left (behind_gone 1 k) m)) result err same
      (subst (λ (op : Op). Did now next (asks op (unless_refused (defined_by definitions))) mid (Ok (Err failure)) q) reading.fetches did))

  -- the same of a list in a vector
  pub reading_failed : {next : PortPast} (left : ℕ) {fetch : Op} {definitions : List Definition} {failure : Failure} {q : SessionProgress} (result : Result (Vec Definition Global) Failure) → IsErr result → IsErrAnd result (λ x. x ≡ failure) → 0 < left → (reading : Reading before now old left fetch definitions mid)
      → Did now next (asks fetch (unless_refused (defined_by definitions))) mid (Ok (Err failure)) q → Did before next whole old (Ok (seen result)) q
  reading_failed left (Ok v) err same some reading did = absurd (let no : false ≡ true = err in cc)
  reading_failed left (Err x) err same some reading did = reading_left left (Err x) err same some reading did

  -- no key more is looked at
  pub reading_limited : {left : ℕ} {fetch : Op} {definitions : List Definition} → Reading before now old left fetch definitions mid → left ≡ 0 → Did before now whole old (Ok (Err (plain range_full))) mid
  unfolding defined_from
  reading_limited {definitions = definitions} reading none = leads_to (subst (λ n. Leads before now whole old (defined_from n reading.start definitions) mid) none reading.leads) (does_over refl)

-- such a fetch is one of `objects`
pub reads_objects : {start : Start} {fetch : Op} → fetch ≡ objects_fetch start → ReadsObjects fetch
reads_objects is = subst ReadsObjects (sym is) refl
