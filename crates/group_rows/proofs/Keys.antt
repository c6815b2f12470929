-- The order of keys as the code finds it, column by column, and that it is an order.
use Rattle.std.proofs.Common.{◌≡◌, ℕ, ◌+◌, ◌<◌, Bool, true, false, List, [], ◌∷◌, length, get_or, drop, refl, sym, ap, ◌∙◌, arith}
use Rattle.std.proofs.lemmas.List.{drop_more, drop-drop, get_or-drop}
use Rattle.std.specs.Cmp.{IsTotalOrder, IsStrictWeakOrder, on_total, then_total}
use Rattle.std.specs.Ordering.{is_lt, is_ne, ordering_reverse, ordering_then}
use Rattle.std.specs.declared.cmp.Ordering.{Ordering}
use Rattle.std.specs.declared.cmp.Ordering.TheVariants.{Equal}
use Rattle.std.proofs.lemmas.List.Sorted.{ranks_by}
use Rattle.value_types.specs.declared.value.Value.{Value}
use Rattle.value_types.specs.declared.value.Value.TheVariants.{Null}
use Rattle.value_types.specs.Order.{value_order}
use Rattle.value_types.specs.OrderLaws.{value_order_total}
use Rattle.value_types.proofs.TextOrder.{decided, undecided}
use Rattle.bound_tree.specs.Setting.{value_at}
use Rattle.group_rows.specs.Ordered.{by_key, directed, order_by}
use Rattle.group_rows.specs.Totals.{comes_before}

-- ---- column by column

-- the keys from a column on go by that column first
order_by-next : (downs : List Bool) (i : ℕ) (d : Bool) (a b : List Value) → i < length downs → order_by (drop i downs) (drop i a) (drop i b) ≡ ordering_then (directed (get_or downs i d) (value_order (value_at a i) (value_at b i))) (order_by (drop (i + 1) downs) (drop (i + 1) a) (drop (i + 1) b))
order_by-next downs i d a b below =
    let down = get_or downs i d in
    let column : (xs : List Value) → value_at (drop i xs) 0 ≡ value_at xs i = λ xs. get_or-drop i xs 0 Null ∙ ap (value_at xs) (omega arith) in
    ap (λ ds. order_by ds (drop i a) (drop i b)) (drop_more downs i d below)
    ∙ ap (λ v. ordering_then (directed down (value_order v (value_at (drop i b) 0))) (order_by (drop (i + 1) downs) (drop 1 (drop i a)) (drop 1 (drop i b)))) (column a)
    ∙ ap (λ v. ordering_then (directed down (value_order (value_at a i) v)) (order_by (drop (i + 1) downs) (drop 1 (drop i a)) (drop 1 (drop i b)))) (column b)
    ∙ ap (λ l. ordering_then (directed down (value_order (value_at a i) (value_at b i))) (order_by (drop (i + 1) downs) l (drop 1 (drop i b)))) (drop-drop 1 i a)
    ∙ ap (λ l. ordering_then (directed down (value_order (value_at a i) (value_at b i))) (order_by (drop (i + 1) downs) (drop (i + 1) a) l)) (drop-drop 1 i b)

module _ (downs : List Bool) (i : ℕ) (d : Bool) (a b : List Value) (below : i < length downs) (so_far : order_by downs a b ≡ order_by (drop i downs) (drop i a) (drop i b)) (first : Ordering) (found : first ≡ directed (get_or downs i d) (value_order (value_at a i) (value_at b i))) where
  whole : order_by downs a b ≡ ordering_then first (order_by (drop (i + 1) downs) (drop (i + 1) a) (drop (i + 1) b))
  whole = so_far ∙ order_by-next downs i d a b below ∙ ap (λ (o : Ordering). ordering_then o (order_by (drop (i + 1) downs) (drop (i + 1) a) (drop (i + 1) b))) (sym found)

  -- a column that tells the keys apart decides
  pub column-decides : is_ne first ≡ true → first ≡ order_by downs a b
  column-decides differs = decided first _ _ whole differs

  -- and one that doesn't leaves it to those behind it
  pub column-ties : is_ne first ≡ false → order_by downs a b ≡ order_by (drop (i + 1) downs) (drop (i + 1) a) (drop (i + 1) b)
  column-ties same = undecided first _ _ whole same

-- ---- an order

ties_all : {K : Type 0} → IsTotalOrder {K = K} (λ x y. Equal)
ties_all = record { antisymm = λ x y. refl; trans = λ x y z p q. p; congr = λ x y z p. refl }

pub directed_total : {K : Type 0} {R : K → K → Ordering} (down : Bool) → IsTotalOrder R → IsTotalOrder (λ x y. directed down (R x y))
directed_total true laws = record {
  antisymm = λ x y. ap ordering_reverse (laws.antisymm x y);
  trans = λ x y z p q. sym (laws.antisymm z x) ∙ laws.trans z y x (laws.antisymm z y ∙ q) (laws.antisymm y x ∙ p);
  congr = λ x y z p. ap ordering_reverse (laws.congr x y z (laws.antisymm x y ∙ ap ordering_reverse (laws.antisymm y x ∙ p)));
}
directed_total false laws = laws

pub order_by_total : (downs : List Bool) → IsTotalOrder (order_by downs)
order_by_total [] = ties_all
order_by_total (down ∷ downs) =
    then_total (on_total (λ (a : List Value). value_at a 0) (directed_total down value_order_total)) (on_total (λ (a : List Value). drop 1 a) (order_by_total downs))

pub by_key_ranks : (downs : List Bool) → IsStrictWeakOrder (λ x y. is_lt (by_key downs x y))
by_key_ranks downs = ranks_by (order_by_total downs) (λ pair. pair.0)

pub comes_before_ranks : (down : Bool) → IsStrictWeakOrder (comes_before down)
comes_before_ranks down = ranks_by (directed_total down value_order_total) (λ value. value)
