-- The statements of procedures and triggers, run behind the statement that calls or fires them.
use Rattle.std.proofs.Common.{◌≡◌, ℕ, List, [], ◌∷◌, Result, Ok, Err, refl, sym, ap, ◌∙◌, subst}
use Rattle.std.specs.Prelude.{IfOk}
use Rattle.value_types.specs.declared.memory.Memory.{Memory}
use Rattle.tsql_tree.specs.declared.definition.TriggerTree.{TriggerTree}
use Rattle.tsql_tree.specs.declared.statement.Statement.{Statement}
use Rattle.step_model.specs.Port.{PortPast}
use Rattle.batch_meaning.specs.declared.exit.Exit.{Exit}
use Rattle.batch_meaning.specs.declared.stop.Stop.{Stop}
use Rattle.batch_meaning.specs.Raised.{Around}
use Rattle.batch_meaning.specs.Progress.{SessionProgress, fires_from, made}
use Rattle.batch_meaning.specs.Selecting.{Effect}
use Rattle.batch_meaning.specs.Doing.{Did, Doing, Leads, over, reads, ◌then◌}
use Rattle.batch_meaning.specs.Firing.{trigger_end}
use Rattle.batch_meaning.specs.Meaning.{Meaning, effect_of, runs_trigger, runs_triggers, tells_behind, unless_stopped}
use Rattle.batch_meaning.specs.Working.{relaxes}
use Rattle.batch_meaning.specs.Writes.{Written}
use Rattle.batch_meaning.proofs.Composed.{does_over, does_reads, leads_reads}
use Rattle.batch_exec.proofs.Fired.{relaxes_left}

-- behind the locks of a write so many statements may begin as before
pub fires_left : {before after : PortPast} (mark : ℕ) {p m q : SessionProgress} {result : Result (Unit {0}) Memory} → Did before after relaxes p result m → q ≡ made (fires_from mark) m → q.statements_left ≡ p.statements_left
fires_left mark did same = ap (λ (x : SessionProgress). x.statements_left) same ∙ relaxes_left did

-- what is told of a write assigns nothing, behind its triggers neither
pub told_none : (one : Statement → Meaning) (effect : Effect) (came : Result (Unit {0}) Stop) (result : Result Effect Stop) → result ≡ effect_of one effect came → effect.sets ≡ [] → IfOk result (λ (e : Effect). e.sets ≡ [])
told_none one effect (Ok done) result is none = subst (λ (r : Result Effect Stop). IfOk r (λ (e : Effect). e.sets ≡ [])) (sym is) none
told_none one effect (Err stop) result is none = subst (λ (r : Result Effect Stop). IfOk r (λ (e : Effect). e.sets ≡ [])) (sym is) tt

module _ (one : Statement → Meaning) (around : Around) (w : Written) where
  -- the next trigger, and what comes behind it
  abbrev pub behind_trigger : List TriggerTree → Exit → Doing (Result (Unit {0}) Stop)
  behind_trigger triggers exit = reads λ p. unless_stopped one (runs_triggers one around w triggers) (trigger_end exit p)

  pub next_trigger : {before now : PortPast} {whole : Doing (Result (Unit {0}) Stop)} {old mid : SessionProgress} (rest : List TriggerTree) (trigger : TriggerTree) (others : List TriggerTree) → rest ≡ trigger ∷ others
      → Leads before now whole old (runs_triggers one around w rest) mid → Leads before now whole old (runs_trigger one around w.fired trigger then behind_trigger others) mid
  unfolding runs_triggers
  next_trigger rest trigger others is leads = rw is at leads

  -- it stops them
  pub trigger_stopped : {now : PortPast} (others : List TriggerTree) (exit : Exit) (stop : Stop) {p : SessionProgress} → Err stop ≡ trigger_end exit p → Did now now (behind_trigger others exit) p (Ok (Err stop)) p
  trigger_stopped {now = now} others exit stop {p = p} is = does_reads (subst (λ (r : Result (Unit {0}) Stop). Did now now (unless_stopped one (runs_triggers one around w others) r) p (Ok (Err stop)) p) is (does_over refl))

  -- or the others come
  pub trigger_on : {before now : PortPast} {whole : Doing (Result (Unit {0}) Stop)} {old p : SessionProgress} (others : List TriggerTree) (exit : Exit) → Ok tt ≡ trigger_end exit p → Leads before now whole old (behind_trigger others exit) p → Leads before now whole old (runs_triggers one around w others) p
  trigger_on {before = before} {now = now} {whole = whole} {old = old} {p = p} others exit is leads = subst (λ (r : Result (Unit {0}) Stop). Leads before now whole old (unless_stopped one (runs_triggers one around w others) r) p) (sym is) (leads_reads leads)

  -- none is left
  pub triggers_done : {now : PortPast} (rest : List TriggerTree) {p : SessionProgress} {came : Result (Unit {0}) Stop} → rest ≡ [] → came ≡ tells_behind one w.effect p → Did now now (runs_triggers one around w rest) p (Ok came) p
  unfolding runs_triggers
  triggers_done {now = now} rest {p = p} none is = rw none (does_reads (subst (λ (r : Result (Unit {0}) Stop). Did now now (over (tells_behind one w.effect p)) p (Ok r) p) (sym is) (does_over refl)))
