-- Transact-SQL reference, "Comparison operators" and "Logical operators": what a comparison says, which is
-- unknown beside NULL, and tests joined, of which what doesn't decide is not evaluated.
use Rattle.std.specs.Prelude.{Bool, true, false, nat_eq, if◌then◌else◌, List, [], ◌∷◌, Option, Some, None, Ok}
use Rattle.std.specs.declared.cmp.Ordering.{Ordering}
use Rattle.std.specs.declared.cmp.Ordering.TheVariants as order
use Rattle.value_types.specs.declared.value.Value.{Value}
use Rattle.value_types.specs.Order.{comparison, kind_rank}
use Rattle.bound_tree.specs.declared.expr.CompareOp.{CompareOp}
use Rattle.bound_tree.specs.declared.expr.CompareOp.TheVariants.{Equal, NotEqual, Less, LessEqual, Greater, GreaterEqual}
use Rattle.bound_tree.specs.declared.truth.Truth.{Truth}
use Rattle.bound_tree.specs.declared.truth.Truth.TheVariants.{False, Unknown, True}
use Rattle.bound_tree.specs.Truths.{is_false, is_true, truth_of, and, or}
use Rattle.bound_tree.specs.Outcomes.{Outcome, after}

-- ---- comparisons

-- how two values compare; where one is NULL, or they are of two kinds, they don't
abbrev pub order_of : Value → Value → Option Ordering
order_of a b = if nat_eq (kind_rank a) (kind_rank b) then comparison a b else None

-- whether an order is one that the comparison allows
abbrev pub allows : CompareOp → Ordering → Bool
allows Equal order.Less = false
allows Equal order.Equal = true
allows Equal order.Greater = false
allows NotEqual order.Less = true
allows NotEqual order.Equal = false
allows NotEqual order.Greater = true
allows Less order.Less = true
allows Less order.Equal = false
allows Less order.Greater = false
allows LessEqual order.Less = true
allows LessEqual order.Equal = true
allows LessEqual order.Greater = false
allows Greater order.Less = false
allows Greater order.Equal = false
allows Greater order.Greater = true
allows GreaterEqual order.Less = false
allows GreaterEqual order.Equal = true
allows GreaterEqual order.Greater = true

abbrev pub order_truth : CompareOp → Option Ordering → Truth
order_truth op None = Unknown
order_truth op (Some order) = truth_of (allows op order)

abbrev pub compared : CompareOp → Outcome Value → Outcome Value → Outcome Truth
compared op a b = after a (λ x. after b (λ y. Ok (order_truth op (order_of x y))))

-- ---- tests joined

-- AND and OR of a truth and what is evaluated where that doesn't decide
abbrev pub and_then : Truth → Outcome Truth → Outcome Truth
and_then a b = if is_false a then Ok False else after b (λ y. Ok (and a y))

abbrev pub or_then : Truth → Outcome Truth → Outcome Truth
or_then a b = if is_true a then Ok True else after b (λ y. Ok (or a y))

abbrev pub both : Outcome Truth → Outcome Truth → Outcome Truth
both a b = after a (λ x. and_then x b)

abbrev pub either : Outcome Truth → Outcome Truth → Outcome Truth
either a b = after a (λ x. or_then x b)

-- a truth, and then OR of several
abbrev pub any_onto : Truth → List (Outcome Truth) → Outcome Truth
any_onto so_far [] = Ok so_far
any_onto so_far (test ∷ rest) = after (or_then so_far test) (λ x. any_onto x rest)

-- OR of several, from the left
abbrev pub any_of : List (Outcome Truth) → Outcome Truth
any_of tests = any_onto False tests
