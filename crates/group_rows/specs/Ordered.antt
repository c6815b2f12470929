-- Transact-SQL reference, "ORDER BY clause": rows in the order of their keys; where keys tie, rows stay as
-- they were. NULL is the lowest value. The code sorts in place; here each row is put before the first that
-- does not come before it.
use Rattle.std.specs.Prelude.{Bool, if◌then◌else◌, List, [], ◌∷◌, map, drop}
use Rattle.std.specs.List.{zip}
use Rattle.std.specs.Ordering.{is_lt, ordering_reverse, ordering_then}
use Rattle.std.specs.declared.cmp.Ordering.{Ordering}
use Rattle.std.specs.declared.cmp.Ordering.TheVariants.{Equal}
use Rattle.value_types.specs.declared.value.Value.{Value}
use Rattle.value_types.specs.Order.{value_order}
use Rattle.bound_tree.specs.Setting.{value_at}

-- an order, turned round where it goes down
abbrev pub directed : Bool → Ordering → Ordering
directed down order = if down then ordering_reverse order else order

-- the order of two keys: column by column, each up or down; a value that is missing is NULL
abbrev pub order_by : List Bool → List Value → List Value → Ordering
order_by [] a b = Equal
order_by (down ∷ downs) a b =
    ordering_then (directed down (value_order (value_at a 0) (value_at b 0))) (order_by downs (drop 1 a) (drop 1 b))

module _ {X : Type 0} (order : X → X → Ordering) where
  -- put before the first that does not come before it
  abbrev pub put : X → List X → List X
  put x [] = x ∷ []
  put x (y ∷ ys) = if is_lt (order y x) then y ∷ put x ys else x ∷ y ∷ ys

  -- in order, those that tie as they were
  abbrev pub in_order : List X → List X
  in_order [] = []
  in_order (x ∷ xs) = put x (in_order xs)

-- a key and its row, in the order of the key
abbrev pub by_key : List Bool → List Value × List Value → List Value × List Value → Ordering
by_key downs a b = order_by downs a.0 b.0

-- the rows in the order of their keys
abbrev pub ordered : List (List Value) → List (List Value) → List Bool → List (List Value)
ordered rows keys downs = map (λ pair. pair.1) (in_order (by_key downs) (zip keys rows))
