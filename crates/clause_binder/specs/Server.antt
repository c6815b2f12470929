-- Transact-SQL reference, "@@VERSION", "@@SERVERNAME", "@@MAX_PRECISION", "SCHEMA_NAME", "DB_NAME" and "USER_NAME": what the server says of
-- itself, of the types that SQL Server gives it. It is always the same, so each is bound as a CAST of a literal.
use Rattle.std.specs.Prelude.{ℕ, ℤ, pos, List, codes}
use Rattle.value_types.specs.declared.sql_type.SqlType.TheVariants.{TinyInt, NText}
use Rattle.typed_nodes.specs.declared.expr.TypedExpr.{TypedExpr}
use Rattle.typed_nodes.specs.Nodes.{cast_expr, number_expr, text_expr}

-- own: the form in which drivers look for four numbers, which are those of LOGINACK's release
abbrev pub version_text : List ℕ
version_text = codes "Microsoft SQL Server protocol, tsqld - 15.0.0.0"

-- own: the name that the server gives itself
abbrev pub server_name : List ℕ
server_name = codes "tsqld"

-- own: there is one database, with one schema and one user
abbrev pub database_name : List ℕ
database_name = codes "main"

abbrev pub schema_name : List ℕ
schema_name = codes "dbo"

abbrev pub user_name : List ℕ
user_name = codes "dbo"

-- the most digits of a decimal
abbrev pub most_digits : ℤ
most_digits = pos 38

-- how many units their types have
abbrev pub version_size : ℕ
version_size = 300

abbrev pub name_size : ℕ
name_size = 128

-- what the server says, as a text of a type of this size
abbrev pub server_text : ℕ → List ℕ → TypedExpr
server_text size text = cast_expr (NText size) (text_expr text)

-- @@MAX_PRECISION
abbrev pub max_precision : TypedExpr
max_precision = cast_expr TinyInt (number_expr most_digits)
