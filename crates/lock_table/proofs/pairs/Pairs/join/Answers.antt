use Rattle.std.proofs.Common.{◌≡◌, ◌≤◌, length, refl, sym, ap, ◌∙◌, arith}
use Rattle.std.proofs.lemmas.List.{get_or_past}
use Rattle.lock_modes.specs.Join.{join_pairs}
use Rattle.lock_modes.specs.Modes.{none}
use Rattle.lock_table.specs.Table.{pair_at}
use Rattle.lock_table.proofs.Joins.{join_none}
use Rattle.lock_table.proofs.Numbers.{joined_more, others_stay, below_or_past}
use Rattle.lock_table.proofs.pairs.Pairs.join.Goals as goal

pub loop-session-preserved : goal.loop-session-preserved
loop-session-preserved c = record {
  done = joined_more c.loop-session.session c.args.self.now c.loop-session.self c.add.new.self c.others.inside.by_session _ refl c.add.ensures c.loop-session.invariant.done c.loop-session.invariant.left;
  left = others_stay c.loop-session.session c.args.self.now c.loop-session.self c.add.new.self _ c.add.ensures c.loop-session.invariant.left;
}

pub returns : goal.returns
returns c who = rw (← c.others.view_is)
    (below_or_past (pair_at who c.loop-session.self ≡ join_pairs (pair_at who c.args.self.now) (pair_at who c.others.inside.by_session)) who c.loop-session.session
    (c.loop-session.invariant.done who)
    (λ past.
    let long : length c.others.inside.by_session ≤ who = omega (arith, past, c.others.invariant, c.loop-session-test.false) in
    c.loop-session.invariant.left who past ∙ sym (ap (join_pairs (pair_at who c.args.self.now)) (get_or_past c.others.inside.by_session who none long) ∙ join_none (pair_at who c.args.self.now))))
