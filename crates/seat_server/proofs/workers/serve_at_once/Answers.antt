use Rattle.std.proofs.Common.{rules, ◌≡◌, length, subst}
use Rattle.std.specs.Prelude.{slice_index_or}
use Rattle.seat_server.specs.Posts.{SomeMayClose, Works}
use Rattle.seat_server.proofs.Dismissing.{lent_zip}
use Rattle.seat_server.proofs.workers.serve_at_once.Goals as goal

pub returns : goal.returns
returns g c =
    let D = g.D.Door in
    let I = g.D.Line.Source in
    let O = g.D.Line.Sink in
    let olds = c.args.workers.now.items in
    let news = c.for_each_mut.new.s in
    let long : length news ≡ length c.as_mut_slice.result.now = search rules in
    lent_zip (Works D.faults D.is_out D.has_closed I.left I.given I.faults O.written O.faults D.finished D.told c.args.config.now c.args.desk.now.desk (SomeMayClose D.may_close)) olds c.as_mut_slice.result.now news c.args.workers.now.len
    c.as_mut_slice.ensures.value long c.args.workers.now.ok.0
    (λ k d below. let changed = (c.for_each_mut.ensures k d below).1 in
    let works : Works D.faults D.is_out D.has_closed I.left I.given I.faults O.written O.faults D.finished D.told c.args.config.now c.args.desk.now.desk (SomeMayClose D.may_close) changed.argument.now changed.after_call.now = search rules in
    subst (λ new. Works D.faults D.is_out D.has_closed I.left I.given I.faults O.written O.faults D.finished D.told c.args.config.now c.args.desk.now.desk (SomeMayClose D.may_close) (slice_index_or c.as_mut_slice.result.now k d) new) changed.left
    (subst (λ old. Works D.faults D.is_out D.has_closed I.left I.given I.faults O.written O.faults D.finished D.told c.args.config.now c.args.desk.now.desk (SomeMayClose D.may_close) old changed.after_call.now) changed.argument_is works))
