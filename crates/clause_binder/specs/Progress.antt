-- Own: what is bound one after another, in the order of the errors. What is gathered on the way: the inner queries
-- of a clause, the aggregates of a query, how many inner queries a statement has in all, and whether something is
-- outside a limit, which is refused in the end.
use Rattle.std.specs.Prelude.{ℕ, Bool, true, false, ◌||◌, nat_lt, List, [], ◌∷◌, ◌++◌, map, Option, Some, None, Ok}
use Rattle.bound_tree.specs.declared.expr.BoundExpr.{BoundExpr}
use Rattle.typed_nodes.specs.declared.facts.Facts.{Facts}
use Rattle.typed_nodes.specs.Facts.{max_depth}
use Rattle.typed_nodes.specs.Refusals.{Outcome, after}
use Rattle.clause_binder.specs.Scope.{TableSource, behind}
use Rattle.clause_binder.specs.declared.inside.Inside.{Inside}
use Rattle.clause_binder.specs.declared.progress.Progress.{Progress}

-- where an expression stands: the tables whose columns it may name, the expressions that are grouped, at which place
-- of the row aggregates begin where they may stand, and whether nothing but the row may be named, as in a CHECK
pub record Context : Type 0 where
  pub sources : List TableSource
  pub groups : List BoundExpr
  pub sums_from : Option ℕ
  pub row_alone : Bool

-- a clause over these tables, in which no aggregate may stand
abbrev pub plain : List TableSource → Context
plain sources = record { sources = sources; groups = []; sums_from = None; row_alone = false }

abbrev pub begin_at : ℕ → Progress
begin_at first = record { first = first; inner = []; sums = []; count = 0; beyond = false }

-- something is outside a limit, where that holds
abbrev pub beyond_where : Bool → Progress → Progress
beyond_where holds done = record done { beyond = done.beyond || holds }

abbrev pub is_deep : Facts → Bool
is_deep facts = nat_lt max_depth facts.depth

-- what is bound where, after what is gathered before
abbrev pub Binding : Type 0 → Type 0
Binding A = Context → Progress → Outcome (A × Progress)

abbrev pub pure : {A : Type 0} → A → Binding A
pure x at done = Ok (x, done)

-- one after another
abbrev pub and_then : {A B : Type 0} → Binding A → (A → Binding B) → Binding B
and_then first next at done = after (first at done) (λ r. next r.0 at r.1)

abbrev pub given : {A : Type 0} → Outcome A → Binding A
given outcome at done = after outcome (λ x. Ok (x, done))

-- each of a list, behind those that are bound
abbrev pub each_onto : {A : Type 0} → List A → List (Binding A) → Binding (List A)
each_onto before [] = pure before
each_onto before (a ∷ rest) = and_then a (λ x. each_onto (before ++ x ∷ []) rest)

abbrev pub each : {A : Type 0} → List (Binding A) → Binding (List A)
each bindings = each_onto [] bindings

abbrev pub maybe : {A : Type 0} → Option (Binding A) → Binding (Option A)
maybe None = pure None
maybe (Some a) = and_then a (λ x. pure (Some x))

-- ---- what stands in a part of a text, apart from what stands in its inner queries

abbrev pub nothing : Inside
nothing = record { inners = 0; summed = false }

abbrev pub an_inner_query : Inside
an_inner_query = record { inners = 1; summed = false }

abbrev pub an_aggregate : Inside
an_aggregate = record { inners = 0; summed = true }

-- of two parts; the inner queries that no tree can name are counted as one
abbrev pub both : Inside → Inside → Inside
both a b = record { inners = behind a.inners b.inners; summed = a.summed || b.summed }

-- of parts behind another
abbrev pub all_onto : Inside → List Inside → Inside
all_onto before [] = before
all_onto before (a ∷ rest) = all_onto (both before a) rest

-- ---- what is read of a part of a text

-- what stands in it, and what it is bound to
pub record Read (A : Type 0) : Type 0 where
  pub inside : Inside
  pub bind : Binding A

-- a part in which no other stands
abbrev pub just : {A : Type 0} → Binding A → Read A
just bind = record { inside = nothing; bind = bind }

-- something is made of what a part is bound to
abbrev pub over : {A B : Type 0} → Read A → (Binding A → Binding B) → Read B
over a make = record { inside = a.inside; bind = make a.bind }

-- two parts, the first of the text first
abbrev pub two : {A B C : Type 0} → Read A → Read B → (A → B → Binding C) → Read C
two a b make = record { inside = both a.inside b.inside; bind = and_then a.bind (λ x. and_then b.bind (make x)) }

-- three parts
abbrev pub three : {A B C D : Type 0} → Read A → Read B → Read C → (A → B → C → Binding D) → Read D
three a b c make = record { inside = both a.inside (both b.inside c.inside); bind = and_then a.bind (λ x. and_then b.bind (λ y. and_then c.bind (make x y))) }

abbrev pub inside_of : {A : Type 0} → Read A → Inside
inside_of a = a.inside

abbrev pub bind_of : {A : Type 0} → Read A → Binding A
bind_of a = a.bind

-- parts one after another
abbrev pub each_read : {A : Type 0} → List (Read A) → Read (List A)
each_read parts = record { inside = all_onto nothing (map inside_of parts); bind = each (map bind_of parts) }

-- a part that may be missing
abbrev pub or_read : {A : Type 0} → Read A → Option (Read A) → Read A
or_read other None = other
or_read other (Some a) = a
