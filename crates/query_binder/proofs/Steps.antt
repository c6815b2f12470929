-- One more part of a list that is bound one after another.
use Rattle.std.proofs.Common.{◌≡◌, ℕ, ◌+◌, ◌<◌, List, [], ◌∷◌, ◌++◌, length, map, get_or, drop, Bool, Ok, refl, rules, add-one, drop-cons}
use Rattle.session_vars.specs.declared.Variable.{Variable}
use Rattle.tsql_tree.specs.declared.definition.Definition.{Definition}
use Rattle.bound_tree.specs.declared.query.BoundOrder.{BoundOrder}
use Rattle.bound_tree.specs.declared.query.OrderKey.{OrderKey}
use Rattle.typed_nodes.specs.declared.fault.BindFault.{BindFault}
use Rattle.typed_nodes.specs.Refusals.{Fails}
use Rattle.clause_binder.specs.declared.from.JoinedTables.{JoinedTables}
use Rattle.clause_binder.specs.declared.named.NamedItems.{NamedItems}
use Rattle.clause_binder.specs.declared.progress.Progress.{Progress}
use Rattle.clause_binder.specs.Progress.{Context}
use Rattle.tsql_tree.specs.declared.query.Expr.{the_lemmas}
use Rattle.tsql_tree.specs.declared.query.OrderItem.{OrderItem}
use Rattle.clause_binder.proofs.Failing.{fails_after}
use Rattle.clause_binder.specs.Bind as bind
use Rattle.clause_binder.specs.Clauses.{ExprRead, ItemRead, JoinRead, OrderRead, item, items_onto, join_onto, joins_onto, key_of, order_onto}

-- the next part of a list
next : {X Y : Type 0} (f : X → Y) (xs : List X) (i : ℕ) (d x : X) → i < length xs → x ≡ get_or xs i d
    → map f (drop i xs) ≡ f x ∷ map f (drop (i + 1) xs)
next f xs i d x within is = rw add-one (rw (drop-cons xs i d) (rw (← is) refl))

pub next_item : {X : Type 0} (vars : List Variable) (f : X → ItemRead) (xs : List X) (i : ℕ) (d x : X) (before now : NamedItems) (at : Context) (done behind : Progress)
    → i < length xs → x ≡ get_or xs i d → item vars (f x) before at done ≡ Ok (now, behind)
    → items_onto vars now (map f (drop (i + 1) xs)) at behind ≡ items_onto vars before (map f (drop i xs)) at done
next_item vars f xs i d x before now at done behind within is gives =
    rw (next f xs i d x within is) (rw gives refl)

pub next_key : {X : Type 0} (distinct : Bool) (items : NamedItems) (f : X → OrderRead) (xs : List X) (i : ℕ) (d x : X) (e : ExprRead) (down : Bool)
    (before now : List BoundOrder) (key : OrderKey) (at : Context) (done behind : Progress)
    → i < length xs → x ≡ get_or xs i d → f x ≡ record { expr = e; descending = down } → key_of distinct items e at done ≡ Ok (key, behind)
    → now ≡ before ++ record { key = key; descending = down } ∷ []
    → order_onto distinct items now (map f (drop (i + 1) xs)) at behind ≡ order_onto distinct items before (map f (drop i xs)) at done
next_key distinct items f xs i d x e down before now key at done behind within is read gives pushed =
    rw (next f xs i d x within is) (rw read (rw gives (rw pushed refl)))

pub failed_key : {X : Type 0} (distinct : Bool) (items : NamedItems) (f : X → OrderRead) (xs : List X) (i : ℕ) (d x : X) (e : ExprRead) (down : Bool)
    (before : List BoundOrder) (fault : BindFault) (at : Context) (done : Progress)
    → i < length xs → x ≡ get_or xs i d → f x ≡ record { expr = e; descending = down } → Fails fault (key_of distinct items e at done)
    → Fails fault (order_onto distinct items before (map f (drop i xs)) at done)
failed_key distinct items f xs i d x e down before fault at done within is read fails =
    rw (next f xs i d x within is) (rw read (fails_after fault (key_of distinct items e at done)
    (λ r. order_onto distinct items (before ++ record { key = r.0; descending = down } ∷ []) (map f (drop (i + 1) xs)) at r.1) fails))

pub order_is : (definitions : List Definition) (vars : List Variable) (by : OrderItem)
    → bind.order_of definitions vars by ≡ record { expr = bind.expr_of definitions vars by.expr; descending = by.descending }
order_is definitions vars by = search (rules, the_lemmas)

pub next_join : {X : Type 0} (definitions : List Definition) (f : X → JoinRead) (xs : List X) (i : ℕ) (d x : X) (before now : JoinedTables) (done behind : Progress)
    → i < length xs → x ≡ get_or xs i d → join_onto definitions before (f x) done ≡ Ok (now, behind)
    → joins_onto definitions now (map f (drop (i + 1) xs)) behind ≡ joins_onto definitions before (map f (drop i xs)) done
next_join definitions f xs i d x before now done behind within is gives =
    rw (next f xs i d x within is) (rw gives refl)
