-- Own: the kinds of lexemes in one order, and when two are the same. Code compares kinds.
use Rattle.std.specs.Prelude.{ℕ, ◌+◌, ◌==◌, Bool, false, ◌||◌, List, [], ◌∷◌, ◌++◌, map}
use Rattle.tsql_lexer.specs.declared.lexeme.Sign.{Sign}
use Rattle.tsql_lexer.specs.declared.lexeme.Sign.TheVariants as s
use Rattle.tsql_tree.specs.declared.option.FixedOption.{FixedOption}
use Rattle.tsql_tree.specs.declared.option.FixedOption.TheVariants as o
use Rattle.tsql_grammar.specs.declared.kind.Kind.{Kind}
use Rattle.tsql_grammar.specs.declared.kind.Kind.TheVariants as k
use Rattle.tsql_grammar.specs.declared.kind.Function.{Function}
use Rattle.tsql_grammar.specs.declared.kind.Function.TheVariants as f
use Rattle.tsql_grammar.specs.declared.kind.Word.{Word}
use Rattle.tsql_grammar.specs.declared.kind.Word.TheVariants as v
use Rattle.tsql_grammar.specs.declared.kind.Reserved.{Reserved}
use Rattle.tsql_grammar.specs.declared.kind.Reserved.TheVariants as w

-- all signs, options, functions and words, in the order of their types
abbrev pub signs : List Sign
signs =
    s.Open ∷ s.Close ∷ s.Comma ∷ s.Dot ∷ s.Semicolon ∷ s.Plus ∷ s.Minus ∷ s.Star ∷ s.Slash ∷ s.Percent ∷
    s.Equal ∷ s.NotEqual ∷ s.Less ∷ s.LessEqual ∷ s.Greater ∷ s.GreaterEqual ∷ []

abbrev pub fixed_options : List FixedOption
fixed_options =
    o.AnsiNulls ∷ o.AnsiNullDefaultOn ∷ o.AnsiPadding ∷ o.AnsiWarnings ∷ o.ArithAbort ∷
    o.ConcatNullYieldsNull ∷ o.QuotedIdentifier ∷ o.CursorCloseOnCommit ∷ o.FormatOnly ∷ o.NumericRoundAbort ∷ []

abbrev pub functions : List Function
functions =
    f.Cast ∷ f.IsNull ∷ f.Len ∷ f.Count ∷ f.Sum ∷ f.Avg ∷ f.Min ∷ f.Max ∷ f.XactState ∷ f.ErrorNumber ∷
    f.ErrorSeverity ∷ f.ErrorState ∷ f.ErrorLine ∷ f.ErrorMessage ∷ f.ErrorProcedure ∷ f.SchemaName ∷
    f.DatabaseName ∷ f.UserName ∷ []

abbrev pub words : List Word
words =
    v.Output ∷ v.TinyInt ∷ v.SmallInt ∷ v.Int ∷ v.BigInt ∷ v.Bit ∷ v.NVarChar ∷ v.After ∷ v.Try ∷
    v.Catch ∷ v.XactAbort ∷ v.NoCount ∷ v.ImplicitTransactions ∷ v.Off ∷ v.Isolation ∷ v.Level ∷
    v.LockTimeout ∷ v.TextSize ∷ v.DeadlockPriority ∷ v.Low ∷ v.Normal ∷ v.High ∷ v.Read ∷ v.Committed ∷
    v.Uncommitted ∷ v.Repeatable ∷ v.Snapshot ∷ v.Serializable ∷ v.Local ∷ v.Global ∷ v.Static ∷
    v.ReadOnly ∷ v.Next ∷ v.DateFirst ∷ v.DateFormat ∷ v.Language ∷ v.RowCount ∷ []

abbrev pub reserved_words : List Reserved
reserved_words =
    w.And ∷ w.As ∷ w.Asc ∷ w.Begin ∷ w.Between ∷ w.Break ∷ w.By ∷ w.Case ∷ w.Check ∷ w.Close ∷
    w.Coalesce ∷ w.Commit ∷ w.Constraint ∷ w.Continue ∷ w.Create ∷ w.Cross ∷ w.Cursor ∷ w.Deallocate ∷
    w.Declare ∷ w.Delete ∷ w.Desc ∷ w.Distinct ∷ w.Drop ∷ w.Else ∷ w.End ∷ w.Execute ∷ w.Exists ∷
    w.Fetch ∷ w.For ∷ w.Foreign ∷ w.From ∷ w.Group ∷ w.Having ∷ w.If ∷ w.In ∷ w.Inner ∷ w.Insert ∷
    w.Into ∷ w.Is ∷ w.Join ∷ w.Key ∷ w.Left ∷ w.Not ∷ w.Null ∷ w.NullIf ∷ w.On ∷ w.Open ∷ w.Or ∷ w.Order
    ∷ w.Outer ∷ w.Primary ∷ w.Print ∷ w.Procedure ∷ w.RaiseError ∷ w.References ∷ w.Return ∷ w.Rollback
    ∷ w.Save ∷ w.Select ∷ w.Set ∷ w.Table ∷ w.Then ∷ w.Throw ∷ w.Top ∷ w.Tran ∷ w.Transaction ∷
    w.Trigger ∷ w.Unique ∷ w.Update ∷ w.Use ∷ w.Values ∷ w.When ∷ w.Where ∷ w.While ∷ w.LeftOut ∷ []

-- the place of each in its list
abbrev pub sign_place : Sign → ℕ
sign_place s.Open = 0
sign_place s.Close = 1
sign_place s.Comma = 2
sign_place s.Dot = 3
sign_place s.Semicolon = 4
sign_place s.Plus = 5
sign_place s.Minus = 6
sign_place s.Star = 7
sign_place s.Slash = 8
sign_place s.Percent = 9
sign_place s.Equal = 10
sign_place s.NotEqual = 11
sign_place s.Less = 12
sign_place s.LessEqual = 13
sign_place s.Greater = 14
sign_place s.GreaterEqual = 15

abbrev pub option_place : FixedOption → ℕ
option_place o.AnsiNulls = 0
option_place o.AnsiNullDefaultOn = 1
option_place o.AnsiPadding = 2
option_place o.AnsiWarnings = 3
option_place o.ArithAbort = 4
option_place o.ConcatNullYieldsNull = 5
option_place o.QuotedIdentifier = 6
option_place o.CursorCloseOnCommit = 7
option_place o.FormatOnly = 8
option_place o.NumericRoundAbort = 9

abbrev pub function_place : Function → ℕ
function_place f.Cast = 0
function_place f.IsNull = 1
function_place f.Len = 2
function_place f.Count = 3
function_place f.Sum = 4
function_place f.Avg = 5
function_place f.Min = 6
function_place f.Max = 7
function_place f.XactState = 8
function_place f.ErrorNumber = 9
function_place f.ErrorSeverity = 10
function_place f.ErrorState = 11
function_place f.ErrorLine = 12
function_place f.ErrorMessage = 13
function_place f.ErrorProcedure = 14
function_place f.SchemaName = 15
function_place f.DatabaseName = 16
function_place f.UserName = 17

abbrev pub word_place : Word → ℕ
word_place v.Output = 0
word_place v.TinyInt = 1
word_place v.SmallInt = 2
word_place v.Int = 3
word_place v.BigInt = 4
word_place v.Bit = 5
word_place v.NVarChar = 6
word_place v.After = 7
word_place v.Try = 8
word_place v.Catch = 9
word_place v.XactAbort = 10
word_place v.NoCount = 11
word_place v.ImplicitTransactions = 12
word_place v.Off = 13
word_place v.Isolation = 14
word_place v.Level = 15
word_place v.LockTimeout = 16
word_place v.TextSize = 17
word_place v.DeadlockPriority = 18
word_place v.Low = 19
word_place v.Normal = 20
word_place v.High = 21
word_place v.Read = 22
word_place v.Committed = 23
word_place v.Uncommitted = 24
word_place v.Repeatable = 25
word_place v.Snapshot = 26
word_place v.Serializable = 27
word_place v.Local = 28
word_place v.Global = 29
word_place v.Static = 30
word_place v.ReadOnly = 31
word_place v.Next = 32
word_place v.DateFirst = 33
word_place v.DateFormat = 34
word_place v.Language = 35
word_place v.RowCount = 36

abbrev pub reserved_place : Reserved → ℕ
reserved_place w.And = 0
reserved_place w.As = 1
reserved_place w.Asc = 2
reserved_place w.Begin = 3
reserved_place w.Between = 4
reserved_place w.Break = 5
reserved_place w.By = 6
reserved_place w.Case = 7
reserved_place w.Check = 8
reserved_place w.Close = 9
reserved_place w.Coalesce = 10
reserved_place w.Commit = 11
reserved_place w.Constraint = 12
reserved_place w.Continue = 13
reserved_place w.Create = 14
reserved_place w.Cross = 15
reserved_place w.Cursor = 16
reserved_place w.Deallocate = 17
reserved_place w.Declare = 18
reserved_place w.Delete = 19
reserved_place w.Desc = 20
reserved_place w.Distinct = 21
reserved_place w.Drop = 22
reserved_place w.Else = 23
reserved_place w.End = 24
reserved_place w.Execute = 25
reserved_place w.Exists = 26
reserved_place w.Fetch = 27
reserved_place w.For = 28
reserved_place w.Foreign = 29
reserved_place w.From = 30
reserved_place w.Group = 31
reserved_place w.Having = 32
reserved_place w.If = 33
reserved_place w.In = 34
reserved_place w.Inner = 35
reserved_place w.Insert = 36
reserved_place w.Into = 37
reserved_place w.Is = 38
reserved_place w.Join = 39
reserved_place w.Key = 40
reserved_place w.Left = 41
reserved_place w.Not = 42
reserved_place w.Null = 43
reserved_place w.NullIf = 44
reserved_place w.On = 45
reserved_place w.Open = 46
reserved_place w.Or = 47
reserved_place w.Order = 48
reserved_place w.Outer = 49
reserved_place w.Primary = 50
reserved_place w.Print = 51
reserved_place w.Procedure = 52
reserved_place w.RaiseError = 53
reserved_place w.References = 54
reserved_place w.Return = 55
reserved_place w.Rollback = 56
reserved_place w.Save = 57
reserved_place w.Select = 58
reserved_place w.Set = 59
reserved_place w.Table = 60
reserved_place w.Then = 61
reserved_place w.Throw = 62
reserved_place w.Top = 63
reserved_place w.Tran = 64
reserved_place w.Transaction = 65
reserved_place w.Trigger = 66
reserved_place w.Unique = 67
reserved_place w.Update = 68
reserved_place w.Use = 69
reserved_place w.Values = 70
reserved_place w.When = 71
reserved_place w.Where = 72
reserved_place w.While = 73
reserved_place w.LeftOut = 74

-- all kinds
abbrev pub kinds : List Kind
kinds =
    k.Number ∷ k.Text ∷ k.Variable ∷ k.Name ∷ k.Dbo ∷ k.OtherSystem ∷ k.TranCount ∷ k.Error ∷ k.RowCount ∷ k.FetchStatus ∷
    k.Version ∷ k.ServerName ∷ k.MaxPrecision ∷ k.BeforeElse ∷ []
    ++ map k.Sign signs ++ map k.Fixed fixed_options ++ map k.Function functions ++ map k.Word words ++ map k.Reserved reserved_words

-- the place of a kind among all kinds
abbrev pub kind_place : Kind → ℕ
kind_place k.Number = 0
kind_place k.Text = 1
kind_place k.Variable = 2
kind_place k.Name = 3
kind_place k.Dbo = 4
kind_place k.OtherSystem = 5
kind_place k.TranCount = 6
kind_place k.Error = 7
kind_place k.RowCount = 8
kind_place k.FetchStatus = 9
kind_place k.Version = 10
kind_place k.ServerName = 11
kind_place k.MaxPrecision = 12
kind_place k.BeforeElse = 13
kind_place (k.Sign x) = 14 + sign_place x
kind_place (k.Fixed x) = 30 + option_place x
kind_place (k.Function x) = 40 + function_place x
kind_place (k.Word x) = 58 + word_place x
kind_place (k.Reserved x) = 95 + reserved_place x

-- two kinds are one
abbrev pub same_kind : Kind → Kind → Bool
same_kind a b = kind_place a == kind_place b

-- the kind is one of these
abbrev pub one_of : List Kind → Kind → Bool
one_of [] b = false
one_of (a ∷ more) b = same_kind a b || one_of more b
