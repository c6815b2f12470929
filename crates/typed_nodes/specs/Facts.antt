-- Transact-SQL reference, "Data type precedence": what is known of an expression beside its tree. Its type,
-- which a lone NULL has not; how deep its tree is; and the first of its columns that is not grouped. Of
-- several expressions the type is the highest, the depth the greatest, the column the first.
use Rattle.std.specs.Prelude.{ℕ, suc, max, min, Option, Some, None}
use Rattle.value_types.specs.declared.sql_type.SqlType.{SqlType}
use Rattle.value_types.specs.declared.sql_type.SqlType.TheVariants.{Int}
use Rattle.bound_tree.specs.Kinds.{higher}
use Rattle.typed_nodes.specs.declared.facts.Facts.{Facts}

-- ---- depth

-- how deep an expression or a test may be (own)
abbrev pub max_depth : ℕ
max_depth = 1000

-- the depth of what is deeper, and of what is outside another limit; it is refused in the end
abbrev pub too_deep : ℕ
too_deep = 1001

abbrev pub deeper : ℕ → ℕ
deeper depth = min too_deep (suc depth)

-- ---- types

abbrev pub highest_of : Option SqlType → Option SqlType → Option SqlType
highest_of None b = b
highest_of (Some a) None = Some a
highest_of (Some a) (Some b) = Some (higher a b)

-- where there are lone NULLs alone the type is INT (own)
abbrev pub or_int : Option SqlType → SqlType
or_int None = Int
or_int (Some kind) = kind

-- ---- facts

abbrev pub first_of : Option ℕ → Option ℕ → Option ℕ
first_of None b = b
first_of (Some a) b = Some a

-- of no expression
abbrev pub no_facts : Facts
no_facts = record { kind = None; depth = 0; loose = None }

-- of two expressions, one behind the other
abbrev pub beside : Facts → Facts → Facts
beside a b = record { kind = highest_of a.kind b.kind; depth = max a.depth b.depth; loose = first_of a.loose b.loose }

-- of what has no parts
abbrev pub alone : Option SqlType → Facts
alone kind = record { kind = kind; depth = 1; loose = None }

-- of a node of this type above its parts
abbrev pub above : Facts → SqlType → Facts
above parts kind = record { kind = Some kind; depth = deeper parts.depth; loose = parts.loose }

-- of a test above its parts, which has no type
abbrev pub test_above : Facts → Facts
test_above parts = record { kind = None; depth = deeper parts.depth; loose = parts.loose }

-- of what is outside a limit
abbrev pub outside : Facts → Facts
outside facts = record facts { depth = too_deep }
