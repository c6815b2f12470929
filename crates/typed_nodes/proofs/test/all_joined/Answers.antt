use Rattle.std.proofs.Common.{◌≡◌, [], sym, ◌∙◌}
use Rattle.typed_nodes.specs.Tests.{all_joined}
use Rattle.typed_nodes.proofs.Joined.{ends, next_round, nothing_to_come}
use Rattle.typed_nodes.proofs.test.all_joined.Goals as goal

pub returns-in_default : goal.returns-in_default
returns-in_default c =
    let empty : c.loop-round.rest.items ≡ [] = sym c.into_iter-tests.ensures.rest ∙ nothing_to_come c.into_iter-tests.result c.in_default.ensures.cases.0 in
    let end = ends c.args.by c.loop-round._round c.len-round-end.result c.loop-round.first c.loop-round.rest.items (all_joined c.args.by c.args.first c.args.rest.items) c.loop-round.invariant empty in
    cc end

pub loop-round-preserved : goal.loop-round-preserved
loop-round-preserved c =
    next_round c.args.by c.loop-round._round c.len-round-end.result c.loop-round.first c.in-Some.second c.in_ok-first.first c.loop-round.rest.items _ c.in_ok-rest.rest.items _
    c.loop-round.invariant c.loop-round-test.true (sym c.into_iter-tests.ensures.rest ∙ c.in-Some.ensures.cases.0) c.in_ok-first.ensures c.in_ok-rest.ensures
