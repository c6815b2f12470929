use Rattle.std.proofs.Common.{◌≡◌, sym, ◌∙◌, subst, true, List, Ok, rules, map-id}
use Rattle.std.proofs.lemmas.Iterator.Adapters.{YieldsList-from_vec}
use Rattle.std.proofs.lemmas.Iterator.Consumers.{YieldsList-end, YieldsList-so_far, YieldsList-turn}
use Rattle.std.proofs.lemmas.Result.{err_from_is_err_and}
use Rattle.join_rows.specs.Joined.{Row}
use Rattle.group_rows.specs.Equals.{firsts}
use Rattle.group_rows.proofs.Gathering.{same_second}
use Rattle.query_eval.specs.Found.{setting_at}
use Rattle.query_eval.specs.Phases.{with_items}
use Rattle.query_eval.proofs.Fewer.{fewer_given, fewer_more, fewer_stop, gives}
use Rattle.query_eval.proofs.phases.fewer_pairs.Goals as goal

pub returns-in_err-values : goal.returns-in_err-values
returns-in_err-values c =
    let p = err_from_is_err_and c.from_residual-in_err-values.result c.from_residual-in_err-values.ensures.1 in
    let all = YieldsList-from_vec {s = c.into_iter-row-iterator.result} c.args.rows.items (search rules) (search rules) in
    let so = sym (map-id c.loop-row.yielded) ∙ YieldsList-so_far all c.loop-row.yielded c.loop-row.row-iterator c.loop-row.yielded_by in
    let turn = YieldsList-turn all c.loop-row.yielded c.loop-row.row-iterator c.loop-row.yielded_by c.next.result c.next.new.self c.in-Some.row c.in-Some.is c.next.ensures.steps in
    rw (p.1, p.2)
    (fewer_stop (setting_at c.args.context.now) c.args.items.now c.args.rows.items c.loop-row.yielded c.loop-row.pairs.items c.in-Some.row so turn.0 turn.1 c.loop-row.invariant
    c.in_err-values.field-0.0 c.in_err-values.ensures)

pub loop-row-preserved : goal.loop-row-preserved
loop-row-preserved c =
    fewer_more (gives (setting_at c.args.context.now) c.args.items.now c.args.rows.items) c.loop-row.yielded c.loop-row.pairs.items _ c.in-Some.row c.in_ok-values.values c.loop-row.invariant
    c.in_ok-values.ensures c.in_ok-push_pair.ensures

pub returns : goal.returns
returns c =
    let all = YieldsList-from_vec {s = c.into_iter-row-iterator.result} c.args.rows.items (search rules) (search rules) in
    let end = YieldsList-end all c.loop-row.yielded c.loop-row.row-iterator c.loop-row.yielded_by c.next.result c.next.new.self c.in-None.is c.next.ensures.steps in
    let whole : c.loop-row.yielded ≡ c.args.rows.items = sym (map-id c.loop-row.yielded) ∙ end.0 in
    subst (λ (l : List Row). with_items (setting_at c.args.context.now) true c.args.items.now l ≡ Ok (firsts same_second c.loop-row.pairs.items)) whole
    (fewer_given (setting_at c.args.context.now) c.args.items.now c.loop-row.yielded c.loop-row.pairs.items c.loop-row.invariant)
