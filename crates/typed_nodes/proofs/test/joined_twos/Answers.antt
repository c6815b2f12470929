use Rattle.std.proofs.Common.{rules}
use Rattle.typed_nodes.proofs.Joined.{all_in_pairs, all_yielded, one_left, one_waits, pair_joined}
use Rattle.typed_nodes.proofs.test.joined_twos.Goals as goal

pub loop-test-preserved-in-None-waiting : goal.loop-test-preserved-in-None-waiting
loop-test-preserved-in-None-waiting c =
    one_waits c.args.by c.loop-test.yielded c.loop-test.done.items c.loop-test.waiting c.in-Some.test c.loop-test.invariant c.in-None-waiting.is

pub loop-test-preserved : goal.loop-test-preserved
loop-test-preserved c =
    rw c.in_ok-push-in-Some-waiting.ensures.items
    (pair_joined c.args.by c.loop-test.yielded c.loop-test.done.items c.loop-test.waiting c.in-Some-waiting.before c.in-Some.test c.in_ok-joined-in-Some-waiting.field-0 c.loop-test.invariant c.in-Some-waiting.is c.in_ok-joined-in-Some-waiting.ensures)

pub returns-in-None-waiting-2 : goal.returns-in-None-waiting-2
returns-in-None-waiting-2 c =
    let all = all_yielded c.into_iter-test-iterator.result c.args.tests c.loop-test.test-iterator c.next.new.self c.loop-test.yielded c.next.result (search rules) c.loop-test.yielded_by c.in-None.is c.next.ensures.steps in
    let done = all_in_pairs c.args.by c.loop-test.yielded c.loop-test.done.items c.loop-test.waiting c.loop-test.invariant c.in-None-waiting-2.is in
    rw (← all) (cc done)

pub returns-in_ok-push-in-Some-waiting-2 : goal.returns-in_ok-push-in-Some-waiting-2
returns-in_ok-push-in-Some-waiting-2 c =
    let all = all_yielded c.into_iter-test-iterator.result c.args.tests c.loop-test.test-iterator c.next.new.self c.loop-test.yielded c.next.result (search rules) c.loop-test.yielded_by c.in-None.is c.next.ensures.steps in
    let done = one_left c.args.by c.loop-test.yielded c.loop-test.done.items c.loop-test.waiting c.in-Some-waiting-2.last c.loop-test.invariant c.in-Some-waiting-2.is in
    rw (← all, c.in_ok-push-in-Some-waiting-2.ensures.items) (cc done)
