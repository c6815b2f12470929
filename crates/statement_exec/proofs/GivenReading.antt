-- A session that reads for a statement: where a table is fetched, the statement's end has to relax it.
use Rattle.std.proofs.Common.{◌≡◌, Bool, true, false, refl, sym, ap, ◌∙◌, subst}
use Rattle.step_model.specs.Exchange.{IsPriority, Standing}
use Rattle.step_model.specs.Port.{PortPast}
use Rattle.dml_exec.specs.Asking.{MayWork}
use Rattle.batch_meaning.specs.Progress.{AreLive, Ready, SessionProgress}
use Rattle.statement_exec.specs.Selected.{touched_if}
use Rattle.statement_exec.proofs.Holding.{ready_touched}

-- a table may be fetched where a transaction is open for that
pub may_read : {past : PortPast} {p q : SessionProgress} (fetched : Bool) → Ready p past → q ≡ touched_if fetched p → (fetched ≡ true → p.is_open ≡ true) → fetched ≡ true → MayWork past q.settings.manner
may_read {p = p} fetched ready same begun is = record {
  begun = sym ready.agree ∙ begun is;
  priority = subst (λ (s : SessionProgress). IsPriority s.settings.manner.priority) (sym same) (by_test fetched);
}
  where
    by_test : (test : Bool) → IsPriority (touched_if test p).settings.manner.priority
    by_test true = ready.priority
    by_test false = ready.priority

-- the session is ready behind what leaves its transaction as it stands
ready_standing : {before after : PortPast} {p : SessionProgress} → Ready p before → after.standing ≡ before.standing → Ready p after
ready_standing {p = p} ready same = record {
  agree = ready.agree ∙ sym (ap (λ (s : Standing). s.is_open) same);
  live = subst (λ (s : Standing). AreLive p.txn.saves s.marks) (sym same) ready.live;
  priority = ready.priority;
  counted = ready.counted;
  idle = ready.idle;
}

pub ready_read : {before after : PortPast} {p q : SessionProgress} (fetched : Bool) → Ready p before → q ≡ touched_if fetched p → after.standing ≡ before.standing → Ready q after
ready_read {after = after} {p = p} fetched ready is same = subst (λ (s : SessionProgress). Ready s after) (sym is) (by_test fetched)
  where
    by_test : (test : Bool) → Ready (touched_if test p) after
    by_test true = ready_standing (ready_touched refl ready) same
    by_test false = ready_standing ready same

-- nothing else of the session changes
pub touched_open : (p : SessionProgress) {q : SessionProgress} (fetched : Bool) → q ≡ touched_if fetched p → q.is_open ≡ p.is_open
touched_open p fetched is = ap (λ (s : SessionProgress). s.is_open) is ∙ by_test fetched
  where
    by_test : (test : Bool) → (touched_if test p).is_open ≡ p.is_open
    by_test true = refl
    by_test false = refl

pub touched_vars : (p : SessionProgress) {q : SessionProgress} (fetched : Bool) → q ≡ touched_if fetched p → q.vars ≡ p.vars
touched_vars p fetched is = ap (λ (s : SessionProgress). s.vars) is ∙ by_test fetched
  where
    by_test : (test : Bool) → (touched_if test p).vars ≡ p.vars
    by_test true = refl
    by_test false = refl
