-- Transact-SQL reference, "Expressions": a node over parts that are bound. Parts of two types are converted
-- to the higher; a lone NULL takes the type of what it stands beside. What is too deep is left out, and the
-- statement is refused in the end.
use Rattle.std.specs.Prelude.{ℕ, ◌+◌, ℤ, min, max, Bool, true, false, ◌&&◌, nat_le, nat_abs, if◌then◌else◌, List, [], ◌∷◌, length, map, Option, Some, None, unwrap_or, Ok}
use Rattle.value_types.specs.declared.sql_type.SqlType.{SqlType}
use Rattle.value_types.specs.declared.sql_type.SqlType.TheVariants.{TinyInt, SmallInt, Int, BigInt, Bit as BitType, NText}
use Rattle.value_types.specs.declared.value.Value.TheVariants.{Null, Whole, Text}
use Rattle.value_types.specs.Types.{text_limit}
use Rattle.convert_rules.specs.Conversion.{is_text}
use Rattle.bound_tree.specs.declared.expr.InfixOp.{InfixOp}
use Rattle.bound_tree.specs.declared.expr.BoundExpr.{BoundExpr}
use Rattle.bound_tree.specs.declared.expr.BoundExpr.TheVariants as bound
use Rattle.bound_tree.specs.declared.expr.BoundArm.{BoundArm}
use Rattle.bound_tree.specs.declared.expr.BoundSide.{BoundSide}
use Rattle.bound_tree.specs.Kinds.{same_kind, text_size}
use Rattle.bound_tree.specs.Typed.{is_add}
use Rattle.typed_nodes.specs.declared.facts.Facts.{Facts}
use Rattle.typed_nodes.specs.declared.expr.TypedExpr.{TypedExpr}
use Rattle.typed_nodes.specs.declared.expr.TypedArm.{TypedArm}
use Rattle.typed_nodes.specs.Refusals.{Outcome, after, operand_not_allowed, unnamed}
use Rattle.typed_nodes.specs.Facts.{above, alone, beside, highest_of, max_depth, no_facts, or_int, outside}

-- ---- nodes

abbrev pub null : BoundExpr
null = bound.Constant Null

-- what is too deep is left out
abbrev pub kept : ℕ → BoundExpr → BoundExpr
kept depth expr = if nat_le depth max_depth then expr else null

abbrev pub with_facts : Facts → BoundExpr → TypedExpr
with_facts facts expr = record { expr = kept facts.depth expr; facts = facts }

-- an expression without parts
abbrev pub leaf : SqlType → BoundExpr → TypedExpr
leaf kind expr = with_facts (alone (Some kind)) expr

-- a node of this type over its parts
abbrev pub node : Facts → SqlType → BoundExpr → TypedExpr
node parts kind expr = with_facts (above parts kind) expr

-- ---- literals

-- a number within INT is an INT, else a BIGINT; the signs before it are no part of it (own)
abbrev pub number_kind : ℤ → SqlType
number_kind number = if nat_le (nat_abs number) 2147483647 then Int else BigInt

abbrev pub number_expr : ℤ → TypedExpr
number_expr number = leaf (number_kind number) (bound.Constant (Whole number))

abbrev pub lone_null : TypedExpr
lone_null = with_facts (alone None) null

-- the empty text has the type of one unit; more units than a type has are outside the limits (own)
abbrev pub text_kind : ℕ → SqlType
text_kind size = NText (max 1 (min text_limit size))

abbrev pub text_expr : List ℕ → TypedExpr
text_expr units = if nat_le (length units) text_limit then leaf (text_kind (length units)) (bound.Constant (Text units))
    else with_facts (outside (alone (Some (text_kind (length units))))) null

-- ---- conversions

-- of two texts the longer holds the other as it is
abbrev pub is_within : SqlType → SqlType → Bool
is_within from to = if is_text from && is_text to then nat_le (unwrap_or (text_size from) 0) (unwrap_or (text_size to) 0) else same_kind from to

abbrev pub converted_from : Option SqlType → SqlType → BoundExpr → BoundExpr
converted_from None to expr = expr
converted_from (Some from) to expr = if is_within from to then expr else bound.Convert from to expr

-- an operand as one of a type; a lone NULL is of each. The node that is added counts for no depth.
abbrev pub converted : SqlType → TypedExpr → BoundExpr
converted to a = converted_from a.facts.kind to a.expr

-- ---- CAST

-- whether there is such a type: a text has from 1 to 4,000 units
abbrev pub is_size : ℕ → Bool
is_size size = nat_le 1 size && nat_le size text_limit

abbrev pub is_kind : SqlType → Bool
is_kind (NText size) = is_size size
is_kind TinyInt = true
is_kind SmallInt = true
is_kind Int = true
is_kind BigInt = true
is_kind BitType = true

abbrev pub limited : SqlType → Facts → Facts
limited to facts = if is_kind to then facts else outside facts

-- CAST: its conversion stands in the text, so it counts
abbrev pub cast_expr : SqlType → TypedExpr → TypedExpr
cast_expr to a = with_facts (limited to (above a.facts to)) (bound.Convert (or_int a.facts.kind) to a.expr)

-- ---- arithmetic

-- a bit becomes an INT first (own)
abbrev pub number_kind_of : Option SqlType → Option SqlType
number_kind_of (Some BitType) = Some Int
number_kind_of (Some TinyInt) = Some TinyInt
number_kind_of (Some SmallInt) = Some SmallInt
number_kind_of (Some Int) = Some Int
number_kind_of (Some BigInt) = Some BigInt
number_kind_of (Some (NText size)) = Some (NText size)
number_kind_of None = None

abbrev pub is_bit : Option SqlType → Bool
is_bit (Some BitType) = true
is_bit (Some TinyInt) = false
is_bit (Some SmallInt) = false
is_bit (Some Int) = false
is_bit (Some BigInt) = false
is_bit (Some (NText size)) = false
is_bit None = false

abbrev pub as_number : TypedExpr → TypedExpr
as_number a = if is_bit a.facts.kind then record { expr = bound.Convert BitType Int a.expr; facts = record a.facts { kind = Some Int } } else a

-- how many units an operand has; a lone NULL beside a text has as many as that
abbrev pub size_beside : Option SqlType → Option SqlType → ℕ
size_beside None (Some kind) = unwrap_or (text_size kind) 0
size_beside None None = 0
size_beside (Some kind) b = unwrap_or (text_size kind) 0

-- two texts joined have the units of both, up to the limit
abbrev pub joined_kind : Option SqlType → Option SqlType → SqlType
joined_kind a b = NText (min text_limit (size_beside a b + size_beside b a))

-- the type of a result whose operands have this higher type: texts are joined, and nothing else
abbrev pub infix_kind : InfixOp → SqlType → Option SqlType → Option SqlType → Outcome SqlType
infix_kind op higher a b = if is_text higher then (if is_add op then Ok (joined_kind a b) else unnamed operand_not_allowed) else Ok higher

abbrev pub infix_to : InfixOp → SqlType → TypedExpr → TypedExpr → Outcome TypedExpr
infix_to op to a b = after (infix_kind op to a.facts.kind b.facts.kind)
    (λ kind. Ok (node (beside a.facts b.facts) kind (bound.Infix op kind (converted to a) (converted to b))))

abbrev pub infix_of_numbers : InfixOp → TypedExpr → TypedExpr → Outcome TypedExpr
infix_of_numbers op a b = infix_to op (or_int (highest_of a.facts.kind b.facts.kind)) a b

abbrev pub infix_expr : InfixOp → TypedExpr → TypedExpr → Outcome TypedExpr
infix_expr op a b = infix_of_numbers op (as_number a) (as_number b)

-- the type of a negative: of a TINYINT it is SMALLINT, and a text has none
abbrev pub negative_kind : SqlType → Option SqlType
negative_kind TinyInt = Some SmallInt
negative_kind SmallInt = Some SmallInt
negative_kind Int = Some Int
negative_kind BigInt = Some BigInt
negative_kind BitType = None
negative_kind (NText size) = None

abbrev pub negative_to : Option SqlType → TypedExpr → Outcome TypedExpr
negative_to None a = unnamed operand_not_allowed
negative_to (Some kind) a = Ok (node a.facts kind (bound.Negate kind a.expr))

abbrev pub negative_of_number : TypedExpr → Outcome TypedExpr
negative_of_number a = negative_to (negative_kind (or_int a.facts.kind)) a

abbrev pub negative_expr : TypedExpr → Outcome TypedExpr
negative_expr a = negative_of_number (as_number a)

-- ---- functions

-- the type in which LEN takes what is no text: no number has more digits
abbrev pub digits_kind : SqlType
digits_kind = NText 20

abbrev pub text_from : Option SqlType → BoundExpr → BoundExpr
text_from None expr = expr
text_from (Some kind) expr = if is_text kind then expr else bound.Convert kind digits_kind expr

abbrev pub length_expr : TypedExpr → TypedExpr
length_expr a = node a.facts Int (bound.Length (text_from a.facts.kind a.expr))

-- ISNULL: of the first operand's type, or of the second's where the first is a lone NULL
abbrev pub is_null_kind : Option SqlType → Option SqlType → SqlType
is_null_kind (Some kind) b = kind
is_null_kind None b = or_int b

abbrev pub is_null_to : SqlType → TypedExpr → TypedExpr → TypedExpr
is_null_to to a b = node (beside a.facts b.facts) to (bound.Coalesce (converted to a ∷ converted to b ∷ []))

abbrev pub is_null_expr : TypedExpr → TypedExpr → TypedExpr
is_null_expr a b = is_null_to (is_null_kind a.facts.kind b.facts.kind) a b

-- of each of a list of expressions, behind what is known of those before them
abbrev pub facts_onto : Facts → List TypedExpr → Facts
facts_onto done [] = done
facts_onto done (a ∷ rest) = facts_onto (beside done a.facts) rest

abbrev pub coalesce_to : Facts → List TypedExpr → TypedExpr
coalesce_to parts items = node parts (or_int parts.kind) (bound.Coalesce (map (converted (or_int parts.kind)) items))

-- COALESCE: of the highest type
abbrev pub coalesce_expr : List TypedExpr → TypedExpr
coalesce_expr items = coalesce_to (facts_onto no_facts items) items

-- of an arm: of its test, which has no type, and of what it gives
abbrev pub arm_facts : TypedArm → Facts
arm_facts arm = beside arm.test.facts arm.gives.facts

abbrev pub arms_facts_onto : Facts → List TypedArm → Facts
arms_facts_onto done [] = done
arms_facts_onto done (arm ∷ rest) = arms_facts_onto (beside done (arm_facts arm)) rest

abbrev pub arm_to : SqlType → TypedArm → BoundArm
arm_to to arm = record { test = arm.test.test; gives = converted to arm.gives }

abbrev pub case_to : Facts → List TypedArm → TypedExpr → TypedExpr
case_to parts arms other = node parts (or_int parts.kind) (bound.Case (map (arm_to (or_int parts.kind)) arms) (converted (or_int parts.kind) other))

-- CASE: of the highest type of what its arms and ELSE give
abbrev pub case_expr : List TypedArm → TypedExpr → TypedExpr
case_expr arms other = case_to (beside (arms_facts_onto no_facts arms) other.facts) arms other

-- ---- pairs

-- the type in which two expressions are compared
abbrev pub pair_kind : Option SqlType → Option SqlType → SqlType
pair_kind a b = or_int (highest_of a b)

-- the type that a first side is said to have; a lone NULL is brought to each pair's type, so the lowest serves
abbrev pub side_kind : Option SqlType → SqlType
side_kind None = NText 1
side_kind (Some kind) = kind

abbrev pub side_to : SqlType → TypedExpr → BoundSide
side_to pair b = record { pair = pair; expr = converted pair b }

-- the other side of a pair
abbrev pub side_of : Option SqlType → TypedExpr → BoundSide
side_of first b = side_to (pair_kind first b.facts.kind) b

-- NULLIF: of the first operand's type, which is the second's where the first is a lone NULL
abbrev pub null_if_expr : TypedExpr → TypedExpr → TypedExpr
null_if_expr a b = node (beside a.facts b.facts) (is_null_kind a.facts.kind b.facts.kind)
    (bound.NullIf (is_null_kind a.facts.kind b.facts.kind) a.expr (side_of a.facts.kind b))
