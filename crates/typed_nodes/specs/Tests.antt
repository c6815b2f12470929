-- Transact-SQL reference, "Search condition" and "Predicates": a test over parts that are bound. A pair is
-- compared in the higher of its two types; AND and OR of many are bound as a tree of twos.
use Rattle.std.specs.Prelude.{ℕ, zero, suc, Bool, nat_le, if◌then◌else◌, List, [], ◌∷◌, length, map}
use Rattle.value_types.specs.declared.sql_type.SqlType.{SqlType}
use Rattle.bound_tree.specs.declared.expr.CompareOp.{CompareOp}
use Rattle.bound_tree.specs.declared.expr.BoundTest.{BoundTest}
use Rattle.bound_tree.specs.declared.expr.BoundTest.TheVariants as test
use Rattle.typed_nodes.specs.declared.facts.Facts.{Facts}
use Rattle.typed_nodes.specs.declared.expr.TypedExpr.{TypedExpr}
use Rattle.typed_nodes.specs.declared.test.TypedTest.{TypedTest}
use Rattle.typed_nodes.specs.declared.test.Junction.{Junction}
use Rattle.typed_nodes.specs.declared.test.Junction.TheVariants.{And, Or}
use Rattle.typed_nodes.specs.Facts.{beside, max_depth, test_above}
use Rattle.typed_nodes.specs.Nodes.{converted, facts_onto, null, pair_kind, side_kind, side_of}

-- what is too deep is left out
abbrev pub kept_test : ℕ → BoundTest → BoundTest
kept_test depth of = if nat_le depth max_depth then of else test.IsNull null

-- a test over its parts
abbrev pub test_node : Facts → BoundTest → TypedTest
test_node parts of = record { test = kept_test (test_above parts).depth of; facts = test_above parts }

-- of NOT
abbrev pub not_test : TypedTest → TypedTest
not_test a = test_node a.facts (test.Not a.test)

-- where NOT stands
abbrev pub negated_where : Bool → TypedTest → TypedTest
negated_where negated a = if negated then not_test a else a

abbrev pub compare_to : CompareOp → SqlType → TypedExpr → TypedExpr → TypedTest
compare_to op pair a b = test_node (beside a.facts b.facts) (test.Compare op (converted pair a) (converted pair b))

abbrev pub compare_test : CompareOp → TypedExpr → TypedExpr → TypedTest
compare_test op a b = compare_to op (pair_kind a.facts.kind b.facts.kind) a b

abbrev pub is_null_test : TypedExpr → TypedTest
is_null_test a = test_node a.facts (test.IsNull a.expr)

abbrev pub between_test : TypedExpr → TypedExpr → TypedExpr → TypedTest
between_test a low high = test_node (beside a.facts (beside low.facts high.facts))
    (test.Between (side_kind a.facts.kind) a.expr (side_of a.facts.kind low) (side_of a.facts.kind high))

abbrev pub in_list_test : TypedExpr → List TypedExpr → TypedTest
in_list_test a items = test_node (facts_onto a.facts items)
    (test.InList (side_kind a.facts.kind) a.expr (map (side_of a.facts.kind) items))

-- IN over the inner query of this place, whose column is of this type
abbrev pub in_query_test : TypedExpr → SqlType → ℕ → TypedTest
in_query_test a column place = test_node a.facts (test.InQuery (side_kind a.facts.kind) a.expr column place)

-- ---- AND and OR

abbrev pub junction : Junction → BoundTest → BoundTest → BoundTest
junction And a b = test.And a b
junction Or a b = test.Or a b

abbrev pub joined_test : Junction → TypedTest → TypedTest → TypedTest
joined_test by a b = test_node (beside a.facts b.facts) (junction by a.test b.test)

-- neighbors joined by twos
abbrev pub joined_twos : Junction → List TypedTest → List TypedTest
joined_twos by [] = []
joined_twos by (a ∷ []) = a ∷ []
joined_twos by (a ∷ b ∷ rest) = joined_test by a b ∷ joined_twos by rest

-- so often, or until one is left
abbrev pub joined_rounds : Junction → ℕ → TypedTest → List TypedTest → TypedTest
joined_rounds by zero first rest = first
joined_rounds by (suc rounds) first [] = first
joined_rounds by (suc rounds) first (second ∷ rest) = joined_rounds by rounds (joined_test by first second) (joined_twos by rest)

-- all of them: there are fewer rounds than tests
abbrev pub all_joined : Junction → TypedTest → List TypedTest → TypedTest
all_joined by first rest = joined_rounds by (length rest) first rest
