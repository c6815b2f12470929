-- Transact-SQL reference, reserved keywords, and the words of its statements: which words the grammar
-- knows, each by its capitals, and the kind of each lexeme. Words are compared without case, names
-- with case; a quoted name is never a word. That THROW, UNION, EXCEPT, INTERSECT, RIGHT and FULL are
-- reserved is own (the forms that the last five begin are left out).
use Rattle.std.specs.Prelude.{ℕ, ◌-◌, ◌&&◌, Bool, true, false, nat_le, List, [], ◌∷◌, ◌++◌, map, codes, if◌then◌else◌}
use Rattle.value_types.specs.Units.{same_units}
use Rattle.tsql_lexer.specs.declared.lexeme.Lexeme.{Lexeme}
use Rattle.tsql_lexer.specs.declared.lexeme.Lexeme.TheVariants as x
use Rattle.tsql_tree.specs.declared.option.FixedOption.TheVariants as o
use Rattle.tsql_grammar.specs.declared.kind.Kind.{Kind}
use Rattle.tsql_grammar.specs.declared.kind.Kind.TheVariants as k
use Rattle.tsql_grammar.specs.declared.kind.Function.TheVariants as f
use Rattle.tsql_grammar.specs.declared.kind.Word.TheVariants as v
use Rattle.tsql_grammar.specs.declared.kind.Reserved.TheVariants as w

-- reserved words
abbrev pub reserved_spellings : List (List ℕ × Kind)
reserved_spellings =
    (codes "AND", k.Reserved w.And)
    ∷ (codes "AS", k.Reserved w.As)
    ∷ (codes "ASC", k.Reserved w.Asc)
    ∷ (codes "BEGIN", k.Reserved w.Begin)
    ∷ (codes "BETWEEN", k.Reserved w.Between)
    ∷ (codes "BREAK", k.Reserved w.Break)
    ∷ (codes "BY", k.Reserved w.By)
    ∷ (codes "CASE", k.Reserved w.Case)
    ∷ (codes "CHECK", k.Reserved w.Check)
    ∷ (codes "CLOSE", k.Reserved w.Close)
    ∷ (codes "COALESCE", k.Reserved w.Coalesce)
    ∷ (codes "COMMIT", k.Reserved w.Commit)
    ∷ (codes "CONSTRAINT", k.Reserved w.Constraint)
    ∷ (codes "CONTINUE", k.Reserved w.Continue)
    ∷ (codes "CREATE", k.Reserved w.Create)
    ∷ (codes "CROSS", k.Reserved w.Cross)
    ∷ (codes "CURSOR", k.Reserved w.Cursor)
    ∷ (codes "DEALLOCATE", k.Reserved w.Deallocate)
    ∷ (codes "DECLARE", k.Reserved w.Declare)
    ∷ (codes "DELETE", k.Reserved w.Delete)
    ∷ (codes "DESC", k.Reserved w.Desc)
    ∷ (codes "DISTINCT", k.Reserved w.Distinct)
    ∷ (codes "DROP", k.Reserved w.Drop)
    ∷ (codes "ELSE", k.Reserved w.Else)
    ∷ (codes "END", k.Reserved w.End)
    ∷ (codes "EXEC", k.Reserved w.Execute)
    ∷ (codes "EXECUTE", k.Reserved w.Execute)
    ∷ (codes "EXISTS", k.Reserved w.Exists)
    ∷ (codes "FETCH", k.Reserved w.Fetch)
    ∷ (codes "FOR", k.Reserved w.For)
    ∷ (codes "FOREIGN", k.Reserved w.Foreign)
    ∷ (codes "FROM", k.Reserved w.From)
    ∷ (codes "GROUP", k.Reserved w.Group)
    ∷ (codes "HAVING", k.Reserved w.Having)
    ∷ (codes "IF", k.Reserved w.If)
    ∷ (codes "IN", k.Reserved w.In)
    ∷ (codes "INNER", k.Reserved w.Inner)
    ∷ (codes "INSERT", k.Reserved w.Insert)
    ∷ (codes "INTO", k.Reserved w.Into)
    ∷ (codes "IS", k.Reserved w.Is)
    ∷ (codes "JOIN", k.Reserved w.Join)
    ∷ (codes "KEY", k.Reserved w.Key)
    ∷ (codes "LEFT", k.Reserved w.Left)
    ∷ (codes "NOT", k.Reserved w.Not)
    ∷ (codes "NULL", k.Reserved w.Null)
    ∷ (codes "NULLIF", k.Reserved w.NullIf)
    ∷ (codes "ON", k.Reserved w.On)
    ∷ (codes "OPEN", k.Reserved w.Open)
    ∷ (codes "OR", k.Reserved w.Or)
    ∷ (codes "ORDER", k.Reserved w.Order)
    ∷ (codes "OUTER", k.Reserved w.Outer)
    ∷ (codes "PRIMARY", k.Reserved w.Primary)
    ∷ (codes "PRINT", k.Reserved w.Print)
    ∷ (codes "PROC", k.Reserved w.Procedure)
    ∷ (codes "PROCEDURE", k.Reserved w.Procedure)
    ∷ (codes "RAISERROR", k.Reserved w.RaiseError)
    ∷ (codes "REFERENCES", k.Reserved w.References)
    ∷ (codes "RETURN", k.Reserved w.Return)
    ∷ (codes "ROLLBACK", k.Reserved w.Rollback)
    ∷ (codes "SAVE", k.Reserved w.Save)
    ∷ (codes "SELECT", k.Reserved w.Select)
    ∷ (codes "SET", k.Reserved w.Set)
    ∷ (codes "TABLE", k.Reserved w.Table)
    ∷ (codes "THEN", k.Reserved w.Then)
    ∷ (codes "THROW", k.Reserved w.Throw)
    ∷ (codes "TOP", k.Reserved w.Top)
    ∷ (codes "TRAN", k.Reserved w.Tran)
    ∷ (codes "TRANSACTION", k.Reserved w.Transaction)
    ∷ (codes "TRIGGER", k.Reserved w.Trigger)
    ∷ (codes "UNIQUE", k.Reserved w.Unique)
    ∷ (codes "UPDATE", k.Reserved w.Update)
    ∷ (codes "USE", k.Reserved w.Use)
    ∷ (codes "VALUES", k.Reserved w.Values)
    ∷ (codes "WHEN", k.Reserved w.When)
    ∷ (codes "WHERE", k.Reserved w.Where)
    ∷ (codes "WHILE", k.Reserved w.While)
    ∷ (codes "UNION", k.Reserved w.LeftOut)
    ∷ (codes "EXCEPT", k.Reserved w.LeftOut)
    ∷ (codes "INTERSECT", k.Reserved w.LeftOut)
    ∷ (codes "RIGHT", k.Reserved w.LeftOut)
    ∷ (codes "FULL", k.Reserved w.LeftOut)
    ∷ []

-- words of statements, names elsewhere
abbrev pub word_spellings : List (List ℕ × Kind)
word_spellings =
    (codes "OUT", k.Word v.Output)
    ∷ (codes "OUTPUT", k.Word v.Output)
    ∷ (codes "TINYINT", k.Word v.TinyInt)
    ∷ (codes "SMALLINT", k.Word v.SmallInt)
    ∷ (codes "INT", k.Word v.Int)
    ∷ (codes "INTEGER", k.Word v.Int)
    ∷ (codes "BIGINT", k.Word v.BigInt)
    ∷ (codes "BIT", k.Word v.Bit)
    ∷ (codes "NVARCHAR", k.Word v.NVarChar)
    ∷ (codes "AFTER", k.Word v.After)
    ∷ (codes "TRY", k.Word v.Try)
    ∷ (codes "CATCH", k.Word v.Catch)
    ∷ (codes "XACT_ABORT", k.Word v.XactAbort)
    ∷ (codes "NOCOUNT", k.Word v.NoCount)
    ∷ (codes "IMPLICIT_TRANSACTIONS", k.Word v.ImplicitTransactions)
    ∷ (codes "OFF", k.Word v.Off)
    ∷ (codes "ISOLATION", k.Word v.Isolation)
    ∷ (codes "LEVEL", k.Word v.Level)
    ∷ (codes "LOCK_TIMEOUT", k.Word v.LockTimeout)
    ∷ (codes "TEXTSIZE", k.Word v.TextSize)
    ∷ (codes "DEADLOCK_PRIORITY", k.Word v.DeadlockPriority)
    ∷ (codes "LOW", k.Word v.Low)
    ∷ (codes "NORMAL", k.Word v.Normal)
    ∷ (codes "HIGH", k.Word v.High)
    ∷ (codes "READ", k.Word v.Read)
    ∷ (codes "COMMITTED", k.Word v.Committed)
    ∷ (codes "UNCOMMITTED", k.Word v.Uncommitted)
    ∷ (codes "REPEATABLE", k.Word v.Repeatable)
    ∷ (codes "SNAPSHOT", k.Word v.Snapshot)
    ∷ (codes "SERIALIZABLE", k.Word v.Serializable)
    ∷ (codes "LOCAL", k.Word v.Local)
    ∷ (codes "GLOBAL", k.Word v.Global)
    ∷ (codes "STATIC", k.Word v.Static)
    ∷ (codes "READ_ONLY", k.Word v.ReadOnly)
    ∷ (codes "NEXT", k.Word v.Next)
    ∷ (codes "DATEFIRST", k.Word v.DateFirst)
    ∷ (codes "DATEFORMAT", k.Word v.DateFormat)
    ∷ (codes "LANGUAGE", k.Word v.Language)
    ∷ (codes "ROWCOUNT", k.Word v.RowCount)
    ∷ []

-- functions, names where no parenthesis follows
abbrev pub function_spellings : List (List ℕ × Kind)
function_spellings =
    (codes "CAST", k.Function f.Cast)
    ∷ (codes "ISNULL", k.Function f.IsNull)
    ∷ (codes "LEN", k.Function f.Len)
    ∷ (codes "COUNT", k.Function f.Count)
    ∷ (codes "SUM", k.Function f.Sum)
    ∷ (codes "AVG", k.Function f.Avg)
    ∷ (codes "MIN", k.Function f.Min)
    ∷ (codes "MAX", k.Function f.Max)
    ∷ (codes "XACT_STATE", k.Function f.XactState)
    ∷ (codes "ERROR_NUMBER", k.Function f.ErrorNumber)
    ∷ (codes "ERROR_SEVERITY", k.Function f.ErrorSeverity)
    ∷ (codes "ERROR_STATE", k.Function f.ErrorState)
    ∷ (codes "ERROR_LINE", k.Function f.ErrorLine)
    ∷ (codes "ERROR_MESSAGE", k.Function f.ErrorMessage)
    ∷ (codes "ERROR_PROCEDURE", k.Function f.ErrorProcedure)
    ∷ (codes "SCHEMA_NAME", k.Function f.SchemaName)
    ∷ (codes "DB_NAME", k.Function f.DatabaseName)
    ∷ (codes "USER_NAME", k.Function f.UserName)
    ∷ []

-- options that are ON or OFF, names elsewhere
abbrev pub option_spellings : List (List ℕ × Kind)
option_spellings =
    (codes "ANSI_NULLS", k.Fixed o.AnsiNulls)
    ∷ (codes "ANSI_NULL_DFLT_ON", k.Fixed o.AnsiNullDefaultOn)
    ∷ (codes "ANSI_PADDING", k.Fixed o.AnsiPadding)
    ∷ (codes "ANSI_WARNINGS", k.Fixed o.AnsiWarnings)
    ∷ (codes "ARITHABORT", k.Fixed o.ArithAbort)
    ∷ (codes "CONCAT_NULL_YIELDS_NULL", k.Fixed o.ConcatNullYieldsNull)
    ∷ (codes "QUOTED_IDENTIFIER", k.Fixed o.QuotedIdentifier)
    ∷ (codes "CURSOR_CLOSE_ON_COMMIT", k.Fixed o.CursorCloseOnCommit)
    ∷ (codes "FMTONLY", k.Fixed o.FormatOnly)
    ∷ (codes "NUMERIC_ROUNDABORT", k.Fixed o.NumericRoundAbort)
    ∷ []

abbrev pub spellings : List (List ℕ × Kind)
spellings = reserved_spellings ++ word_spellings ++ function_spellings ++ option_spellings

-- names of the session's values, and of what the server says of itself
abbrev pub system_spellings : List (List ℕ × Kind)
system_spellings =
    (codes "@@TRANCOUNT", k.TranCount)
    ∷ (codes "@@ERROR", k.Error)
    ∷ (codes "@@ROWCOUNT", k.RowCount)
    ∷ (codes "@@FETCH_STATUS", k.FetchStatus)
    ∷ (codes "@@VERSION", k.Version)
    ∷ (codes "@@SERVERNAME", k.ServerName)
    ∷ (codes "@@MAX_PRECISION", k.MaxPrecision)
    ∷ []

-- the capital of a unit, if it is one of the letters a to z
abbrev pub capital : ℕ → ℕ
capital unit = if nat_le 97 unit && nat_le unit 122 then unit - 32 else unit

-- a name is one of these words, whatever its case
abbrev pub is_one_of : List (List ℕ) → List ℕ → Bool
is_one_of [] name = false
is_one_of (word ∷ more) name = if same_units word (map capital name) then true else is_one_of more name

-- the orders of day, month and year
abbrev pub date_orders : List (List ℕ)
date_orders = codes "MDY" ∷ codes "DMY" ∷ codes "YMD" ∷ codes "YDM" ∷ codes "MYD" ∷ codes "DYM" ∷ []

unfoldable pub is_date_order : List ℕ → Bool
is_date_order name = is_one_of date_orders name

-- the names of the one language
abbrev pub languages : List (List ℕ)
languages = codes "US_ENGLISH" ∷ codes "ENGLISH" ∷ []

unfoldable pub is_language : List ℕ → Bool
is_language name = is_one_of languages name

-- the kind that a list gives to a word, or the one for all others
abbrev pub look_up : List (List ℕ × Kind) → List ℕ → Kind → Kind
look_up [] word other = other
look_up (row ∷ more) word other = if same_units row.0 word then row.1 else look_up more word other

-- a name is the name `dbo`, or it is nothing else
abbrev pub name_kind : List ℕ → Kind
name_kind name = if same_units (codes "dbo") name then k.Dbo else k.Name

-- the kind of a word, and of a system name
unfoldable pub word_kind : List ℕ → Kind
word_kind u = look_up spellings (map capital u) (name_kind u)

unfoldable pub system_kind : List ℕ → Kind
system_kind u = look_up system_spellings (map capital u) k.OtherSystem

abbrev pub kind_of : Lexeme → Kind
kind_of (x.Word u) = word_kind u
kind_of (x.Quoted u) = name_kind u
kind_of (x.Variable u) = k.Variable
kind_of (x.SystemName u) = system_kind u
kind_of (x.Number n) = k.Number
kind_of (x.Text u) = k.Text
kind_of (x.Sign a) = k.Sign a
