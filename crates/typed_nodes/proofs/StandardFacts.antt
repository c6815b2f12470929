-- Worked rows of the rules of types, on nodes over a few parts.
use Rattle.std.proofs.Common.{◌≡◌, refl, ℕ, pos, negsuc, Ok, Err, [], ◌∷◌, Some, None}
use Rattle.value_types.specs.declared.sql_type.SqlType.{SqlType}
use Rattle.value_types.specs.declared.sql_type.SqlType.TheVariants.{Bit as BitType, TinyInt, SmallInt, Int, BigInt, NText}
use Rattle.value_types.specs.declared.value.Value.TheVariants.{Null, Whole}
use Rattle.bound_tree.specs.declared.expr.BoundExpr.{BoundExpr}
use Rattle.bound_tree.specs.declared.expr.BoundExpr.TheVariants as bound
use Rattle.bound_tree.specs.declared.expr.BoundTest.{BoundTest}
use Rattle.bound_tree.specs.declared.expr.BoundTest.TheVariants as test
use Rattle.bound_tree.specs.declared.expr.InfixOp.TheVariants.{Add, Subtract}
use Rattle.bound_tree.specs.declared.expr.CompareOp.TheVariants.{Equal}
use Rattle.typed_nodes.specs.declared.expr.TypedExpr.{TypedExpr}
use Rattle.typed_nodes.specs.declared.test.TypedTest.{TypedTest}
use Rattle.typed_nodes.specs.declared.test.Junction.TheVariants.{And}
use Rattle.typed_nodes.specs.Nodes as nodes
use Rattle.typed_nodes.specs.Nodes.{lone_null}
use Rattle.typed_nodes.specs.Tests as tests

-- the column of this place and type
abbrev cell : ℕ → SqlType → TypedExpr
cell place kind = nodes.leaf kind (bound.Cell place)

-- an expression of this type, as deep
abbrev made : ℕ → SqlType → BoundExpr → TypedExpr
made depth kind expr = record { expr = expr; facts = record { kind = Some kind; depth = depth; loose = None } }

abbrev made_test : ℕ → BoundTest → TypedTest
made_test depth of = record { test = of; facts = record { kind = None; depth = depth; loose = None } }

abbrev null : BoundExpr
null = bound.Constant Null

-- ---- arithmetic

bits_are_ints : nodes.infix_expr Add (cell 0 BitType) (cell 1 BitType)
    ≡ Ok (made 2 Int (bound.Infix Add Int (bound.Convert BitType Int (bound.Cell 0)) (bound.Convert BitType Int (bound.Cell 1))))
bits_are_ints = refl

text_beside_number : nodes.infix_expr Subtract (cell 0 (NText 3)) (cell 1 TinyInt)
    ≡ Ok (made 2 TinyInt (bound.Infix Subtract TinyInt (bound.Convert (NText 3) TinyInt (bound.Cell 0)) (bound.Cell 1)))
text_beside_number = refl

texts_are_joined : nodes.infix_expr Add (cell 0 (NText 3000)) (cell 1 (NText 2000))
    ≡ Ok (made 2 (NText 4000) (bound.Infix Add (NText 4000) (bound.Cell 0) (bound.Cell 1)))
texts_are_joined = refl

null_beside_text : nodes.infix_expr Add (cell 0 (NText 1)) lone_null ≡ Ok (made 2 (NText 2) (bound.Infix Add (NText 2) (bound.Cell 0) null))
null_beside_text = refl

nulls_are_ints : nodes.infix_expr Subtract lone_null lone_null ≡ Ok (made 2 Int (bound.Infix Subtract Int null null))
nulls_are_ints = refl

no_minus_of_texts : nodes.infix_expr Subtract (cell 0 (NText 1)) (cell 1 (NText 1)) ≡ Err (pos 49008, [])
no_minus_of_texts = refl

no_minus_of_text_and_null : nodes.infix_expr Subtract lone_null (cell 1 (NText 1)) ≡ Err (pos 49008, [])
no_minus_of_text_and_null = refl

negative_of_tiny : nodes.negative_expr (cell 0 TinyInt) ≡ Ok (made 2 SmallInt (bound.Negate SmallInt (bound.Cell 0)))
negative_of_tiny = refl

negative_of_bit : nodes.negative_expr (cell 0 BitType) ≡ Ok (made 2 Int (bound.Negate Int (bound.Convert BitType Int (bound.Cell 0))))
negative_of_bit = refl

no_negative_of_text : nodes.negative_expr (cell 0 (NText 1)) ≡ Err (pos 49008, [])
no_negative_of_text = refl

-- ---- literals

least_int : nodes.number_expr (negsuc 2147483647) ≡ made 1 BigInt (bound.Constant (Whole (negsuc 2147483647)))
least_int = refl

next_to_least_int : nodes.number_expr (negsuc 2147483646) ≡ made 1 Int (bound.Constant (Whole (negsuc 2147483646)))
next_to_least_int = refl

-- ---- functions

length_of_number : nodes.length_expr (cell 0 Int) ≡ made 2 Int (bound.Length (bound.Convert Int (NText 20) (bound.Cell 0)))
length_of_number = refl

isnull_of_first : nodes.is_null_expr (cell 0 Int) (cell 1 BigInt)
    ≡ made 2 Int (bound.Coalesce (bound.Cell 0 ∷ bound.Convert BigInt Int (bound.Cell 1) ∷ []))
isnull_of_first = refl

isnull_of_null : nodes.is_null_expr lone_null (cell 1 (NText 5)) ≡ made 2 (NText 5) (bound.Coalesce (null ∷ bound.Cell 1 ∷ []))
isnull_of_null = refl

isnull_of_shorter : nodes.is_null_expr (cell 0 (NText 2)) (cell 1 (NText 5))
    ≡ made 2 (NText 2) (bound.Coalesce (bound.Cell 0 ∷ bound.Convert (NText 5) (NText 2) (bound.Cell 1) ∷ []))
isnull_of_shorter = refl

coalesce_of_highest : nodes.coalesce_expr (cell 0 TinyInt ∷ lone_null ∷ cell 1 BigInt ∷ [])
    ≡ made 2 BigInt (bound.Coalesce (bound.Convert TinyInt BigInt (bound.Cell 0) ∷ null ∷ bound.Cell 1 ∷ []))
coalesce_of_highest = refl

nullif_of_first : nodes.null_if_expr (cell 0 (NText 3)) (cell 1 Int)
    ≡ made 2 (NText 3) (bound.NullIf (NText 3) (bound.Cell 0) (record { pair = Int; expr = bound.Cell 1 }))
nullif_of_first = refl

cast_of_null : nodes.cast_expr (NText 7) lone_null ≡ made 2 (NText 7) (bound.Convert Int (NText 7) null)
cast_of_null = refl

cast_to_no_size : nodes.cast_expr (NText 4001) (cell 0 Int) ≡ made 1001 (NText 4001) null
cast_to_no_size = refl

-- ---- tests

text_and_null : tests.compare_test Equal (cell 0 (NText 1)) lone_null ≡ made_test 2 (test.Compare Equal (bound.Cell 0) null)
text_and_null = refl

in_by_pairs : tests.in_list_test (cell 0 (NText 1)) (cell 1 (NText 3) ∷ cell 2 Int ∷ [])
    ≡ made_test 2 (test.InList (NText 1) (bound.Cell 0) (record { pair = NText 3; expr = bound.Cell 1 } ∷ record { pair = Int; expr = bound.Cell 2 } ∷ []))
in_by_pairs = refl

five_joined : tests.all_joined And (made_test 1 (test.Exists 0)) (made_test 1 (test.Exists 1) ∷ made_test 1 (test.Exists 2) ∷ made_test 1 (test.Exists 3) ∷ made_test 1 (test.Exists 4) ∷ [])
    ≡ made_test 4 (test.And (test.And (test.And (test.Exists 0) (test.Exists 1)) (test.And (test.Exists 2) (test.Exists 3))) (test.Exists 4))
five_joined = refl

-- ---- depth

as_deep_as_may_be : nodes.cast_expr Int (made 999 Int (bound.Cell 0)) ≡ made 1000 Int (bound.Convert Int Int (bound.Cell 0))
as_deep_as_may_be = refl

too_deep : nodes.cast_expr Int (made 1000 Int (bound.Cell 0)) ≡ made 1001 Int null
too_deep = refl

too_deep_for_good : tests.is_null_test (made 1001 Int null) ≡ made_test 1001 (test.IsNull null)
too_deep_for_good = refl
