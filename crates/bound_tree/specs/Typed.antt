-- Transact-SQL reference, "Data types" and "Data type precedence": which trees are well formed over the
-- types of what they read. Each place that a tree names is there, and the parts of each node have the
-- types that the node says, of which a lone NULL has any. Sizes of texts alone may differ where texts are
-- compared or one of several is given: a longer type would change no value. What a well-formed tree gives
-- is of its type. Which type a text of the language wants, and where it wants conversions, binding says.
use Rattle.std.specs.Prelude.{ℕ, ◌+◌, min, max, nat_abs, Bool, true, false, ◌&&◌, nat_le, is_some, if◌then◌else◌, List, [], ◌∷◌, length, All, slice_get, Option, Some, None, Ok, Err}
use Rattle.std.specs.List.{list_all}
use Rattle.value_types.specs.declared.sql_type.SqlType.{SqlType}
use Rattle.value_types.specs.declared.sql_type.SqlType.TheVariants.{TinyInt, SmallInt, Int, BigInt, Bit as BitType, NText}
use Rattle.value_types.specs.declared.value.Value.{Value}
use Rattle.value_types.specs.declared.value.Value.TheVariants.{Null, Whole, Bit, Text}
use Rattle.value_types.specs.Types.{IsOf, is_in_range, text_limit}
use Rattle.convert_rules.specs.Conversion.{is_text}
use Rattle.bound_tree.specs.declared.expr.InfixOp.{InfixOp}
use Rattle.bound_tree.specs.declared.expr.InfixOp.TheVariants.{Add, Subtract, Multiply, Divide, Remainder}
use Rattle.bound_tree.specs.declared.expr.BoundExpr.{BoundExpr}
use Rattle.bound_tree.specs.declared.expr.BoundTest.{BoundTest}
use Rattle.bound_tree.specs.declared.expr.BoundArm.{BoundArm}
use Rattle.bound_tree.specs.declared.expr.BoundSide.{BoundSide}
use Rattle.bound_tree.specs.declared.expr.BoundExpr.TheOpen.{BoundExpr-F, BoundTest-F, BoundArm-F, BoundSide-F}
use Rattle.bound_tree.specs.declared.expr.BoundExpr.TheFolds.{fold-BoundExpr, fold-BoundTest, fold-BoundArm, fold-BoundSide}
use Rattle.bound_tree.specs.Kinds.{are_alike, longer, rank, same_kind, text_size}
use Rattle.bound_tree.specs.Outcomes.{Outcome}
use Rattle.bound_tree.specs.Setting.{Setting, system_place}

-- ---- types

-- what is found of a tree: that it is not well formed, that it is a lone NULL, or its type
pub data Found : Type 0 where
  unformed : Found
  lone_null : Found
  typed : SqlType → Found

abbrev pub is_found : Found → Bool
is_found unformed = false
is_found lone_null = true
is_found (typed kind) = true

-- it is of this type
abbrev pub is_as : Found → SqlType → Bool
is_as unformed kind = false
is_as lone_null kind = true
is_as (typed of) kind = same_kind of kind

-- it is of this type, or both are texts
abbrev pub is_like : Found → SqlType → Bool
is_like unformed kind = false
is_like lone_null kind = true
is_like (typed of) kind = are_alike of kind

-- it is of this type, where that holds
abbrev pub found_where : Bool → SqlType → Found
found_where holds kind = if holds then typed kind else unformed

-- of one type, or of the longer of two types of texts; a lone NULL is of the other's type
abbrev pub common : Found → Found → Found
common unformed b = unformed
common lone_null b = b
common (typed a) unformed = unformed
common (typed a) lone_null = typed a
common (typed a) (typed b) = found_where (are_alike a b) (longer a b)

-- where there are lone NULLs alone the type is INT (own)
abbrev pub or_int : Found → Found
or_int unformed = unformed
or_int lone_null = typed Int
or_int (typed kind) = typed kind

-- ---- nodes

-- A literal within INT is an INT, else a BIGINT. The sign before a literal is no part of it, so
-- -2147483648 is the negative of a BIGINT.
abbrev pub literal_found : Value → Found
literal_found Null = lone_null
literal_found (Whole number) = if nat_le (nat_abs number) 2147483647 then typed Int else found_where (is_in_range BigInt number) BigInt
literal_found (Bit bit) = typed BitType
literal_found (Text units) = typed (NText (max 1 (length units)))

-- the type that is found at a place
abbrev pub found_at : Option SqlType → Found
found_at None = unformed
found_at (Some kind) = typed kind

-- the type of an inner query's one column
abbrev pub column_kind : Option (List SqlType) → Option SqlType
column_kind None = None
column_kind (Some []) = None
column_kind (Some (kind ∷ [])) = Some kind
column_kind (Some (kind ∷ other ∷ rest)) = None

-- the type of a negative: of TINYINT it is SMALLINT
abbrev pub negated : Found → Found
negated unformed = unformed
negated lone_null = typed Int
negated (typed TinyInt) = typed SmallInt
negated (typed SmallInt) = typed SmallInt
negated (typed Int) = typed Int
negated (typed BigInt) = typed BigInt
negated (typed BitType) = unformed
negated (typed (NText size)) = unformed

abbrev pub is_add : InfixOp → Bool
is_add Add = true
is_add Subtract = false
is_add Multiply = false
is_add Divide = false
is_add Remainder = false

-- whole numbers
abbrev pub is_whole : SqlType → Bool
is_whole kind = nat_le (rank TinyInt) (rank kind)

-- a lone NULL takes the type of what it stands beside
abbrev pub beside : Found → Found → Found
beside unformed b = unformed
beside lone_null b = b
beside (typed kind) b = typed kind

-- how many units a text may have; what is no text has no size
abbrev pub found_size : Found → Option ℕ
found_size unformed = None
found_size lone_null = None
found_size (typed kind) = text_size kind

-- texts of these sizes joined are of this type
abbrev pub joins : Option ℕ → Option ℕ → SqlType → Bool
joins None b kind = false
joins (Some n) None kind = false
joins (Some n) (Some m) kind = same_kind (NText (min text_limit (n + m))) kind

abbrev pub infix_fits : InfixOp → SqlType → Found → Found → Bool
infix_fits op kind a b = if is_text kind then is_add op && joins (found_size (beside a b)) (found_size (beside b a)) kind
    else is_whole kind && is_as (or_int (common a b)) kind

-- a text, or a lone NULL
abbrev pub is_as_text : Found → Bool
is_as_text unformed = false
is_as_text lone_null = true
is_as_text (typed kind) = is_text kind

abbrev pub common_of : List Found → Found
common_of [] = lone_null
common_of (a ∷ rest) = common a (common_of rest)

-- what is found of an arm: whether its test is well formed, and of what it gives
abbrev pub ArmFound : Type 0
ArmFound = Bool × Found

abbrev pub arms_found : List ArmFound → Found → Found
arms_found [] other = other
arms_found (arm ∷ rest) other = if arm.0 then common arm.1 (arms_found rest other) else unformed

-- what is found of the other side of a comparison: the type of the pair, and of the side
abbrev pub SideFound : Type 0
SideFound = SqlType × Found

-- the pair is compared in a type that is no lower than the first side's, and the other side has it
abbrev pub is_side : SqlType → SideFound → Bool
is_side kind side = nat_le (rank kind) (rank side.0) && is_like side.1 side.0

-- the inner query has one column, of this type
abbrev pub is_column : SqlType → Option SqlType → Bool
is_column kind None = false
is_column kind (Some of) = same_kind of kind

-- ---- trees

-- the types of the row's cells, of the variables, of the values of the session, and of the columns of each
-- inner query. A list is empty where a tree may not name such, as in a CHECK.
pub record SettingTypes : Type 0 where
  pub row : List SqlType
  pub vars : List SqlType
  pub system : List SqlType
  pub inner : List (List SqlType)

-- the types of a row alone, as a CHECK is well formed over them
abbrev pub row_types : List SqlType → SettingTypes
row_types kinds = record { row = kinds; vars = []; system = []; inner = [] }

-- the types of the values of the session, in their order
abbrev pub system_kinds : List SqlType
system_kinds = Int ∷ Int ∷ Int ∷ Int ∷ SmallInt ∷ Int ∷ Int ∷ Int ∷ Int ∷ NText 4000 ∷ NText 128 ∷ []

module _ (types : SettingTypes) where
  abbrev pub expr_step : BoundExpr-F Found Bool ArmFound SideFound → Found
  expr_step (BoundExpr-F.Constant x) = literal_found x
  expr_step (BoundExpr-F.Cell place) = found_at (slice_get types.row place)
  expr_step (BoundExpr-F.Variable place) = found_at (slice_get types.vars place)
  expr_step (BoundExpr-F.System of) = found_at (slice_get types.system (system_place of))
  expr_step (BoundExpr-F.Negate kind a) = found_where (is_as (negated a) kind) kind
  expr_step (BoundExpr-F.Infix op kind a b) = found_where (infix_fits op kind a b) kind
  expr_step (BoundExpr-F.Convert from to a) = found_where (is_as a from) to
  expr_step (BoundExpr-F.Case arms other) = or_int (arms_found arms other)
  expr_step (BoundExpr-F.Coalesce items) = or_int (common_of items)
  expr_step (BoundExpr-F.NullIf kind a side) = found_where (is_as a kind && is_side kind side) kind
  expr_step (BoundExpr-F.Length a) = found_where (is_as_text a) Int
  expr_step (BoundExpr-F.Scalar place) = found_at (column_kind (slice_get types.inner place))

  abbrev pub test_step : BoundTest-F Found Bool ArmFound SideFound → Bool
  test_step (BoundTest-F.Compare op a b) = is_found (common a b)
  test_step (BoundTest-F.IsNull a) = is_found a
  test_step (BoundTest-F.Between kind a low high) = is_as a kind && (is_side kind low && is_side kind high)
  test_step (BoundTest-F.InList kind a sides) = is_as a kind && list_all (is_side kind) sides
  test_step (BoundTest-F.InQuery kind a other place) = is_as a kind && is_column other (column_kind (slice_get types.inner place))
  test_step (BoundTest-F.Exists place) = is_some (slice_get types.inner place)
  test_step (BoundTest-F.And a b) = a && b
  test_step (BoundTest-F.Or a b) = a && b
  test_step (BoundTest-F.Not a) = a

  abbrev pub arm_step : BoundArm-F Found Bool ArmFound SideFound → ArmFound
  arm_step arm = (arm.test, arm.gives)

  abbrev pub side_step : BoundSide-F Found Bool ArmFound SideFound → SideFound
  side_step side = (side.pair, side.expr)

  -- what is found of an expression
  abbrev pub found_of : BoundExpr → Found
  found_of = fold-BoundExpr Found Bool ArmFound SideFound expr_step test_step arm_step side_step

  -- the expression is well formed and of this type; a lone NULL is of each
  abbrev pub is_formed : BoundExpr → SqlType → Bool
  is_formed expr kind = is_as (found_of expr) kind

  -- the test is well formed
  abbrev pub is_formed_test : BoundTest → Bool
  is_formed_test = fold-BoundTest Found Bool ArmFound SideFound expr_step test_step arm_step side_step

  abbrev pub arm_found : BoundArm → ArmFound
  arm_found = fold-BoundArm Found Bool ArmFound SideFound expr_step test_step arm_step side_step

  abbrev pub side_found : BoundSide → SideFound
  side_found = fold-BoundSide Found Bool ArmFound SideFound expr_step test_step arm_step side_step

-- ---- values

-- a value for each type at least, the first of them NULL or of the types
abbrev pub AreOf : List SqlType → List Value → Type 0
AreOf [] values = Unit {0}
AreOf (kind ∷ kinds) [] = ⊥
AreOf (kind ∷ kinds) (x ∷ values) = IsOf kind x × AreOf kinds values

-- a table for each list of types at least, the first of them with rows of the types
abbrev pub TablesOf : List (List SqlType) → List (List (List Value)) → Type 0
TablesOf [] tables = Unit {0}
TablesOf (kinds ∷ rest) [] = ⊥
TablesOf (kinds ∷ rest) (rows ∷ tables) = All (AreOf kinds) rows × TablesOf rest tables

-- what is read is of these types; there may be more than they say
pub record Fits (types : SettingTypes) (setting : Setting) : Type 0 where
  pub row : AreOf types.row setting.row
  pub vars : AreOf types.vars setting.vars
  pub system : AreOf types.system setting.system
  pub inner : TablesOf types.inner setting.inner

-- a value that is given is of the type
abbrev pub GivesOf : SqlType → Outcome Value → Type 0
GivesOf kind (Ok x) = IsOf kind x
GivesOf kind (Err number) = Unit {0}
