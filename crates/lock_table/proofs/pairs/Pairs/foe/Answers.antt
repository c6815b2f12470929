use Rattle.std.proofs.Common.{◌≡◌, ◌≢◌, ◌≤◌, length, true, refl, rules, arith}
use Rattle.std.proofs.lemmas.List.{get_or_past}
use Rattle.lock_modes.specs.Agreement.{pairs_agree}
use Rattle.lock_modes.specs.Modes.{none}
use Rattle.lock_table.specs.Table.{pair_at}
use Rattle.lock_table.proofs.Numbers.{one_more, below_or_past}
use Rattle.lock_table.proofs.pairs.Pairs.foe.Goals as goal
use Rattle.lock_table.proofs.pairs.Pairs.foe.Goals.{then-other-session+else-not-agree, else-other-session}

pub loop-other-preserved : goal.loop-other-preserved
loop-other-preserved c = one_more (λ k. k ≢ c.args.session → pairs_agree (pair_at k c.args.self.now) c.args.asked ≡ true) c.loop-other.other c.loop-other.invariant
    (elim c.if-other-session.branch [
      | then-other-session+else-not-agree w ↦ λ differ. search rules
      | else-other-session w ↦ λ differ. absurd (differ (search rules))
    ])

pub returns-clause-free : goal.returns-clause-free
returns-clause-free c none_found other differ =
    below_or_past (pairs_agree (pair_at other c.args.self.now) c.args.asked ≡ true) other c.loop-other.other
    (λ below. c.loop-other.invariant other below differ)
    (λ past.
    let long : length c.self.inside.by_session ≤ other = omega (arith, past, c.self.invariant, c.loop-other-test.false) in
    rw (← c.self.view_is, get_or_past c.self.inside.by_session other none long) refl)
