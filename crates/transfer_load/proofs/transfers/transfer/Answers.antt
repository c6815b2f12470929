use Rattle.std.proofs.Common.{◌≡◌, ℕ, ◌*◌, List, length, ap, ◌∙◌, sym, subst, arith, option_map, vec_items}
use Rattle.transfer_load.specs.Connections.{AreDone, Connection}
use Rattle.transfer_load.proofs.AllClosed.{transferred_all}
use Rattle.transfer_load.proofs.OnlyServing.{only_some}
use Rattle.transfer_load.proofs.transfers.transfer.Goals as goal

pub returns-then-tally-gt0-clause-full : goal.returns-then-tally-gt0-clause-full
returns-then-tally-gt0-clause-full g c = c.serve_hall-tally.ensures.full 64 c.requires.full

pub returns-in_ok-counts-in-Some-clause-full : goal.returns-in_ok-counts-in-Some-clause-full
returns-in_ok-counts-in-Some-clause-full g c = c.serve_hall-tally.ensures.full 64 c.requires.full

pub returns-in_err-counts-in-Some-clause-full : goal.returns-in_err-counts-in-Some-clause-full
returns-in_err-counts-in-Some-clause-full g c = c.serve_hall-tally.ensures.full 64 c.requires.full

pub returns-in_default-clause-full : goal.returns-in_default-clause-full
returns-in_default-clause-full g c = c.serve_hall-tally.ensures.full 64 c.requires.full

pub returns-in_ok-counts-in-Some-clause-transferred : goal.returns-in_ok-counts-in-Some-clause-transferred
returns-in_ok-counts-in-Some-clause-transferred g c =
    let counted = c.in_ok-counts-in-Some.ensures in
    let many : length c.in-Some.connections.items ≡ c.args.workers = omega (arith, c.if-len-workers.true, c.len.ensures) in
    let done : AreDone c.args.transfers 0 c.in-Some.connections.items counted.0 = subst (λ (s : List Connection). AreDone c.args.transfers 0 s counted.0) c.deref.ensures.value counted.1 in
    let plenty : c.serve_hall-tally.result.starved ≡ 0 = omega (arith, c.if-tally-gt0.false) in (
      counted.0,
      transferred_all c.args.config.now c.args.workers c.args.transfers c.args.house.now.seats c.serve_hall-tally.new.self.seats c.serve_hall-tally.result _ _ c.in-Some.connections.items counted.0 c.requires.bare
          (omega (arith, c.requires.workers.0)) (omega (arith, c.requires.workers.1, c.requires.full.all)) c.requires.transfers
          c.serve_hall-tally.ensures.worked (ap (λ s. s.told) c.new-hall.ensures) (sym c.into_connections.ensures ∙ ap (option_map vec_items) c.in-Some.is) plenty c.serve_hall-tally.ensures.others many done,
      counted.2,
      counted.3,
      counted.4 ∙ ap (λ (n : ℕ). n * c.args.transfers) (ap length c.deref.ensures.value ∙ many),
    )

pub returns-then-tally-gt0-clause-only : goal.returns-then-tally-gt0-clause-only
returns-then-tally-gt0-clause-only g c = let served = c.serve_hall-tally in only_some c.args.workers c.args.house.now served.new.self served.ensures.worked.each served.ensures.desk served.ensures.worked.follow served.ensures.others

pub returns-in_ok-counts-in-Some-clause-only : goal.returns-in_ok-counts-in-Some-clause-only
returns-in_ok-counts-in-Some-clause-only g c = let served = c.serve_hall-tally in only_some c.args.workers c.args.house.now served.new.self served.ensures.worked.each served.ensures.desk served.ensures.worked.follow served.ensures.others

pub returns-in_err-counts-in-Some-clause-only : goal.returns-in_err-counts-in-Some-clause-only
returns-in_err-counts-in-Some-clause-only g c = let served = c.serve_hall-tally in only_some c.args.workers c.args.house.now served.new.self served.ensures.worked.each served.ensures.desk served.ensures.worked.follow served.ensures.others

pub returns-in_default-clause-only : goal.returns-in_default-clause-only
returns-in_default-clause-only g c = let served = c.serve_hall-tally in only_some c.args.workers c.args.house.now served.new.self served.ensures.worked.each served.ensures.desk served.ensures.worked.follow served.ensures.others
