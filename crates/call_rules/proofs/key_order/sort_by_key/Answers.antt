use Rattle.std.proofs.Common.{rules, is_lt}
use Rattle.std.proofs.lemmas.Fn.{always_returns_same}
use Rattle.std.proofs.lemmas.List.Sorted.{ranks_by}
use Rattle.std.proofs.lemmas.Result.{on_ok_weaker}
use Rattle.value_types.specs.Order.{key_cmp}
use Rattle.value_types.specs.OrderLaws.{key_cmp_total}
use Rattle.group_rows.proofs.Sorting.{in_order_is}
use Rattle.call_rules.proofs.key_order.sort_by_key.Goals as goal

pub returns : goal.returns
returns g c =
    on_ok_weaker c.sort_by.result
    (λ sorted. in_order_is (λ a b. key_cmp a.0 b.0) (ranks_by key_cmp_total (λ pair. pair.0)) c.args.pairs.now.items c.sort_by.new.self.items
    (sorted (λ a b. is_lt (key_cmp a.0 b.0)) (ranks_by key_cmp_total (λ pair. pair.0)) (always_returns_same _ _ _ (λ a r f k. search rules)))
    (c.sort_by.ensures.stable (λ a b. is_lt (key_cmp a.0 b.0)) (ranks_by key_cmp_total (λ pair. pair.0)) (always_returns_same _ _ _ (λ a r f k. search rules))))
    c.sort_by.ensures.sorted
