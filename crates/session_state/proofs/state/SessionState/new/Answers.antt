use Rattle.std.proofs.Common.{◌≡◌, true, false, ap, arith, sym, ◌∙◌}
use Rattle.txn_rules.specs.declared.state.TxnState.{TxnState}
use Rattle.txn_rules.specs.State.{is_closed}
use Rattle.session_state.proofs.Fitting.{fits_as, fit_none}
use Rattle.session_state.proofs.state.SessionState.new.Goals as goal

pub invariant_of-result : goal.invariant_of-result
invariant_of-result c = (fits_as _ _ c.new.ensures.items fit_none, (let none : c.new-4.result.count ≡ 0 = ap (λ (t : TxnState). t.count) c.new-4.ensures in omega arith), omega arith, λ same. same, λ counted own. absurd (let no : true ≡ false = sym (ap is_closed c.new-4.ensures) ∙ counted in cc))
