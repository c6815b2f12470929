use Rattle.std.proofs.Common.{rules, is_lt}
use Rattle.std.proofs.lemmas.Fn.{always_returns_same}
use Rattle.std.proofs.lemmas.Result.{on_ok_weaker}
use Rattle.group_rows.specs.Ordered.{by_key}
use Rattle.group_rows.proofs.Keys.{by_key_ranks}
use Rattle.group_rows.proofs.Sorting.{in_order_is}
use Rattle.group_rows.proofs.in_order.sort_by_key.Goals as goal

pub returns : goal.returns
returns c =
    let downs = c.args.down.now in
    on_ok_weaker c.sort_by.result
    (λ sorted. in_order_is (by_key downs) (by_key_ranks downs) c.args.pairs.now.items c.sort_by.new.self.items
    (sorted (λ a b. is_lt (by_key downs a b)) (by_key_ranks downs) (always_returns_same _ _ _ (λ a r f k. search rules)))
    (c.sort_by.ensures.stable (λ a b. is_lt (by_key downs a b)) (by_key_ranks downs) (always_returns_same _ _ _ (λ a r f k. search rules))))
    c.sort_by.ensures.sorted
