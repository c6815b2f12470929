-- Own: what one lexeme ahead tells of each rule, by its class: FIRST, what a text of the rule may go
-- on with and be one still, and which rules may be empty. The grammar's laws hold where these are
-- right, which proofs/RuleTests.antt tries for every kind.
use Rattle.std.specs.Prelude.{zero, suc, Bool, true, false, ◌||◌, List, [], ◌∷◌, ◌++◌, map, if◌then◌else◌}
use Rattle.tsql_lexer.specs.declared.lexeme.Sign.{Sign}
use Rattle.tsql_lexer.specs.declared.lexeme.Sign.TheVariants as s
use Rattle.tsql_grammar.specs.declared.kind.Kind.{Kind}
use Rattle.tsql_grammar.specs.declared.kind.Kind.TheVariants as k
use Rattle.tsql_grammar.specs.declared.kind.Word.{Word}
use Rattle.tsql_grammar.specs.declared.kind.Word.TheVariants as v
use Rattle.tsql_grammar.specs.declared.kind.Reserved.{Reserved}
use Rattle.tsql_grammar.specs.declared.kind.Reserved.TheVariants as w
use Rattle.tsql_grammar.specs.declared.rule.Around.{Around}
use Rattle.tsql_grammar.specs.declared.rule.Class.{Class}
use Rattle.tsql_grammar.specs.declared.rule.Class.TheVariants as c
use Rattle.tsql_grammar.specs.declared.rule.Rule.{Rule}
use Rattle.tsql_grammar.specs.declared.rule.Rule.TheVariants as r
use Rattle.tsql_grammar.specs.Kinds.{fixed_options}
use Rattle.tsql_grammar.specs.Terminals.{admits}
use Rattle.tsql_grammar.specs.Productions.{outside}

abbrev pub the_sign : Sign → Class
the_sign a = c.One (k.Sign a)

abbrev pub the_word : Word → Class
the_word a = c.One (k.Word a)

abbrev pub the_reserved : Reserved → Class
the_reserved a = c.One (k.Reserved a)

abbrev pub fixed_classes : List Class
fixed_classes = map (λ a. c.One (k.Fixed a)) fixed_options

-- what a statement but CREATE TABLE begins with
abbrev pub begins_statement : Around → List Class
begins_statement a =
    map the_reserved (w.Begin ∷ w.Close ∷ w.Commit ∷ w.Deallocate ∷ w.Declare ∷ w.Delete ∷ w.Drop
    ∷ w.Execute ∷ w.Fetch ∷ w.If ∷ w.Insert ∷ w.Open ∷ w.Print ∷ w.RaiseError ∷ w.Return ∷
    w.Rollback ∷ w.Save ∷ w.Select ∷ w.Set ∷ w.Throw ∷ w.Update ∷ w.Use ∷ w.While ∷ [])
    ++ (if a.in_while then the_reserved w.Break ∷ the_reserved w.Continue ∷ [] else [])

-- what operands and expressions begin with
abbrev pub begins_other : List Class
begins_other =
    c.One k.Number ∷ c.One k.Text ∷ c.One k.TranCount ∷ c.One k.Error ∷ c.One k.RowCount ∷ c.One
    k.FetchStatus ∷ c.One k.Version ∷ c.One k.ServerName ∷ c.One k.MaxPrecision ∷ the_reserved w.Case ∷
    the_reserved w.Coalesce ∷ the_reserved w.Null ∷ the_reserved w.NullIf ∷ []

abbrev pub begins_simple : List Class
begins_simple = c.Name ∷ c.One k.Variable ∷ begins_other

abbrev pub adds : List Class
adds = the_sign s.Plus ∷ the_sign s.Minus ∷ []

abbrev pub multiplies : List Class
multiplies = the_sign s.Star ∷ the_sign s.Slash ∷ the_sign s.Percent ∷ []

abbrev pub compares : List Class
compares =
    the_sign s.Equal ∷ the_sign s.NotEqual ∷ the_sign s.Less ∷ the_sign s.LessEqual ∷ the_sign
    s.Greater ∷ the_sign s.GreaterEqual ∷ []

abbrev pub begins_expr : List Class
begins_expr = the_sign s.Open ∷ adds ++ begins_simple

abbrev pub joins_tables : List Class
joins_tables =
    the_sign s.Comma ∷ the_reserved w.Join ∷ the_reserved w.Inner ∷ the_reserved w.Left ∷
    the_reserved w.Cross ∷ []

-- what an expression goes on with: arguments, the second name of a column, a further operand
abbrev pub further_expr : List Class
further_expr = the_sign s.Open ∷ the_sign s.Dot ∷ adds ++ multiplies

abbrev pub further_test : List Class
further_test = the_reserved w.And ∷ the_reserved w.Or ∷ further_expr

abbrev pub further_item : List Class
further_item = c.Name ∷ the_reserved w.As ∷ further_expr

abbrev pub further_items : List Class
further_items = the_sign s.Comma ∷ further_item

abbrev pub further_select : List Class
further_select =
    the_sign s.Equal ∷ map the_reserved (w.And ∷ w.Asc ∷ w.Cross ∷ w.Desc ∷ w.From ∷ w.Group ∷
    w.Having ∷ w.Inner ∷ w.Join ∷ w.Left ∷ w.Or ∷ w.Order ∷ w.Where ∷ []) ++ further_items

abbrev pub further_statement : List Class
further_statement =
    c.One k.Variable ∷ the_reserved w.Tran ∷ the_reserved w.Transaction ∷ further_select ++
    begins_other

-- the classes of the lexemes that a text of a rule may begin with
abbrev pub first_classes : Rule → List Class
first_classes r.Batch = the_reserved w.Create ∷ c.Semicolon ∷ begins_statement outside
first_classes r.AfterFirstCreate = map the_reserved (w.Procedure ∷ w.Table ∷ w.Trigger ∷ [])
first_classes r.Definition = the_reserved w.Create ∷ []
first_classes r.AfterCreate = map the_reserved (w.Procedure ∷ w.Table ∷ w.Trigger ∷ [])
first_classes r.Procedure = the_reserved w.Procedure ∷ []
first_classes r.Trigger = the_reserved w.Trigger ∷ []
first_classes r.TriggerTime = the_word v.After ∷ the_reserved w.For ∷ []
first_classes r.Event = map the_reserved (w.Delete ∷ w.Insert ∷ w.Update ∷ [])
first_classes r.MoreEvents = the_sign s.Comma ∷ []
first_classes r.Params = c.One k.Variable ∷ []
first_classes r.Param = c.One k.Variable ∷ []
first_classes r.MoreParams = the_sign s.Comma ∷ []
first_classes r.Output = the_word v.Output ∷ []
first_classes r.Object = c.Name ∷ []
first_classes r.AfterDbo = the_sign s.Dot ∷ []
first_classes r.Type =
    map the_word (v.TinyInt ∷ v.SmallInt ∷ v.Int ∷ v.BigInt ∷ v.Bit ∷ v.NVarChar ∷ [])
first_classes r.Names = c.Name ∷ []
first_classes r.MoreNames = the_sign s.Comma ∷ []
first_classes (r.Body a) = the_reserved w.Create ∷ c.Semicolon ∷ begins_statement a
first_classes (r.Statement a) = the_reserved w.Create ∷ begins_statement a
first_classes (r.OtherStatement a) = begins_statement a
first_classes r.Semicolons = c.Semicolon ∷ []
first_classes r.OptionalSemicolon = c.Semicolon ∷ []
first_classes (r.AfterBegin a) =
    the_reserved w.Tran ∷ the_reserved w.Transaction ∷ the_word v.Try ∷ c.Semicolon ∷
    the_reserved w.Create ∷ begins_statement a
first_classes (r.Else a) = c.One k.BeforeElse ∷ the_reserved w.Else ∷ []
first_classes (r.ThrowArguments a) = begins_expr
first_classes r.OptionalExpr = begins_expr
first_classes r.Into = the_reserved w.Into ∷ []
first_classes r.AfterInsertTable =
    the_sign s.Open ∷ the_reserved w.Select ∷ the_reserved w.Values ∷ []
first_classes r.InsertRows = the_reserved w.Select ∷ the_reserved w.Values ∷ []
first_classes r.ValueRow = the_sign s.Open ∷ []
first_classes r.MoreValueRows = the_sign s.Comma ∷ []
first_classes r.Assignment = c.Name ∷ []
first_classes r.MoreAssignments = the_sign s.Comma ∷ []
first_classes r.DeleteFrom = the_reserved w.From ∷ []
first_classes r.DropKind = map the_reserved (w.Procedure ∷ w.Table ∷ w.Trigger ∷ [])
first_classes r.Table = the_reserved w.Table ∷ []
first_classes r.Element =
    c.Name ∷ map the_reserved (w.Check ∷ w.Constraint ∷ w.Foreign ∷ w.Primary ∷ w.Unique ∷ [])
first_classes r.MoreElements = the_sign s.Comma ∷ []
first_classes r.ColumnTraits =
    map the_reserved (w.Check ∷ w.Constraint ∷ w.Not ∷ w.Null ∷ w.Primary ∷ w.References ∷
    w.Unique ∷ [])
first_classes r.ColumnConstraint =
    map the_reserved (w.Check ∷ w.Primary ∷ w.References ∷ w.Unique ∷ [])
first_classes r.ReferencedColumn = the_sign s.Open ∷ []
first_classes r.TableConstraint = map the_reserved (w.Check ∷ w.Foreign ∷ w.Primary ∷ w.Unique ∷ [])
first_classes r.AfterDeclare = c.Name ∷ c.One k.Variable ∷ []
first_classes r.Declaration = c.One k.Variable ∷ []
first_classes r.MoreDeclarations = the_sign s.Comma ∷ []
first_classes r.OptionalAs = the_reserved w.As ∷ []
first_classes r.Initial = the_sign s.Equal ∷ []
first_classes r.CursorScope = the_word v.Local ∷ the_word v.Global ∷ []
first_classes r.CursorStatic = the_word v.Static ∷ []
first_classes r.CursorReadOnly = the_word v.ReadOnly ∷ []
first_classes r.AfterSet =
    c.One k.Variable ∷ the_reserved w.Transaction ∷ map the_word (v.XactAbort ∷ v.NoCount ∷
    v.ImplicitTransactions ∷ v.LockTimeout ∷ v.TextSize ∷ v.DeadlockPriority ∷ v.DateFirst ∷
    v.RowCount ∷ v.DateFormat ∷ v.Language ∷ []) ++ fixed_classes
first_classes r.OnOff = the_word v.Off ∷ the_reserved w.On ∷ []
first_classes r.Level = map the_word (v.Read ∷ v.Repeatable ∷ v.Snapshot ∷ v.Serializable ∷ [])
first_classes r.AfterRead = the_word v.Committed ∷ the_word v.Uncommitted ∷ []
first_classes r.SignedNumber = c.One k.Number ∷ the_sign s.Minus ∷ []
first_classes r.Priority =
    c.One k.Number ∷ the_sign s.Minus ∷ map the_word (v.Low ∷ v.Normal ∷ v.High ∷ [])
first_classes r.OptionName = c.Name ∷ c.One k.Text ∷ []
first_classes r.TransactionWord = the_reserved w.Tran ∷ the_reserved w.Transaction ∷ []
first_classes r.TransactionEnd = the_reserved w.Tran ∷ the_reserved w.Transaction ∷ []
first_classes r.OptionalName = c.Name ∷ []
first_classes r.Next = the_word v.Next ∷ []
first_classes r.Variables = c.One k.Variable ∷ []
first_classes r.MoreVariables = the_sign s.Comma ∷ []
first_classes r.AfterExecute = c.Name ∷ c.One k.Variable ∷ []
first_classes r.Arguments =
    c.One k.Number ∷ c.One k.Text ∷ c.One k.Variable ∷ the_sign s.Minus ∷ the_reserved w.Null ∷
    []
first_classes r.MoreArguments = the_sign s.Comma ∷ []
first_classes r.Argument =
    c.One k.Number ∷ c.One k.Text ∷ c.One k.Variable ∷ the_sign s.Minus ∷ the_reserved w.Null ∷
    []
first_classes r.AfterArgumentVariable = the_sign s.Equal ∷ the_word v.Output ∷ []
first_classes r.ArgumentValue =
    c.One k.Number ∷ c.One k.Text ∷ c.One k.Variable ∷ the_sign s.Minus ∷ the_reserved w.Null ∷
    []
first_classes r.Constant =
    c.One k.Number ∷ c.One k.Text ∷ the_sign s.Minus ∷ the_reserved w.Null ∷ []
first_classes r.Select =
    the_sign s.Star ∷ the_reserved w.Distinct ∷ the_reserved w.Top ∷ begins_expr
first_classes r.Distinct = the_reserved w.Distinct ∷ []
first_classes r.Top = the_reserved w.Top ∷ []
first_classes r.TopNumber = c.One k.Number ∷ the_sign s.Open ∷ []
first_classes r.Items = the_sign s.Star ∷ begins_expr
first_classes r.AfterFirstVariable =
    c.Name ∷ the_sign s.Comma ∷ the_sign s.Equal ∷ the_reserved w.As ∷ multiplies ++ adds
first_classes r.MoreAssigns = the_sign s.Comma ∷ []
first_classes r.Item = the_sign s.Star ∷ begins_expr
first_classes r.MoreItems = the_sign s.Comma ∷ []
first_classes r.NamedItem = c.Name ∷ []
first_classes r.AfterItemName = c.Name ∷ the_sign s.Dot ∷ the_reserved w.As ∷ multiplies ++ adds
first_classes r.AfterItemDot = c.Name ∷ the_sign s.Star ∷ []
first_classes (r.AfterItemFunction a) = further_item
first_classes r.OtherItem = the_sign s.Open ∷ begins_other ++ adds
first_classes r.AfterItemOperand = c.Name ∷ the_reserved w.As ∷ multiplies ++ adds
first_classes r.Alias = c.Name ∷ the_reserved w.As ∷ []
first_classes r.From = the_reserved w.From ∷ []
first_classes r.TableRef = c.Name ∷ []
first_classes r.Joins = joins_tables
first_classes r.Outer = the_reserved w.Outer ∷ []
first_classes r.Where = the_reserved w.Where ∷ []
first_classes r.GroupBy = the_reserved w.Group ∷ []
first_classes r.Having = the_reserved w.Having ∷ []
first_classes r.OrderBy = the_reserved w.Order ∷ []
first_classes r.OrderItem = begins_expr
first_classes r.MoreOrderItems = the_sign s.Comma ∷ []
first_classes r.Direction = the_reserved w.Asc ∷ the_reserved w.Desc ∷ []
first_classes r.Test = the_reserved w.Exists ∷ the_reserved w.Not ∷ begins_expr
first_classes r.MoreOrs = the_reserved w.Or ∷ []
first_classes r.AndTest = the_reserved w.Exists ∷ the_reserved w.Not ∷ begins_expr
first_classes r.MoreAnds = the_reserved w.And ∷ []
first_classes r.NotTest = the_reserved w.Exists ∷ the_reserved w.Not ∷ begins_expr
first_classes r.MoreNots = the_reserved w.Not ∷ []
first_classes r.Basic = the_reserved w.Exists ∷ begins_expr
first_classes (r.Opened n) = map the_reserved (w.Exists ∷ w.Not ∷ w.Select ∷ []) ++ begins_expr
first_classes (r.Operand zero) =
    map the_reserved (w.Between ∷ w.In ∷ w.Is ∷ w.Not ∷ []) ++ compares ++ multiplies ++ adds
first_classes (r.Operand (suc n)) =
    the_sign s.Close ∷ map the_reserved (w.Between ∷ w.In ∷ w.Is ∷ w.Not ∷ []) ++ compares ++
    multiplies ++ adds
first_classes (r.Compared zero) =
    map the_reserved (w.Between ∷ w.In ∷ w.Is ∷ w.Not ∷ []) ++ compares
first_classes (r.Compared (suc n)) =
    the_sign s.Close ∷ map the_reserved (w.Between ∷ w.In ∷ w.Is ∷ w.Not ∷ []) ++ compares
first_classes (r.Tested zero) = []
first_classes (r.Tested (suc n)) = the_sign s.Close ∷ the_reserved w.And ∷ the_reserved w.Or ∷ []
first_classes r.Comparison = map the_reserved (w.Between ∷ w.In ∷ w.Is ∷ w.Not ∷ []) ++ compares
first_classes r.CompareSign = compares
first_classes r.OptionalNot = the_reserved w.Not ∷ []
first_classes r.Membership = the_reserved w.Between ∷ the_reserved w.In ∷ []
first_classes r.InList = the_reserved w.Select ∷ begins_expr
first_classes r.Expr = begins_expr
first_classes r.MoreTerms = adds
first_classes r.AddSign = adds
first_classes r.Product = begins_expr
first_classes r.MoreFactors = multiplies
first_classes r.MultiplySign = multiplies
first_classes r.Unary = begins_expr
first_classes r.MoreSigns = adds
first_classes r.Primary = the_sign s.Open ∷ begins_simple
first_classes r.SimplePrimary = begins_simple
first_classes r.OtherPrimary = begins_other
first_classes r.Enclosed = the_reserved w.Select ∷ begins_expr
first_classes r.NamedPrimary = c.Name ∷ []
first_classes r.AfterName = the_sign s.Dot ∷ []
first_classes (r.AfterFunction a) = the_sign s.Open ∷ the_sign s.Dot ∷ []
first_classes (r.FunctionArguments a) = the_sign s.Open ∷ []
first_classes r.CountArguments = the_sign s.Star ∷ the_reserved w.Distinct ∷ begins_expr
first_classes r.Arm = the_reserved w.When ∷ []
first_classes r.MoreArms = the_reserved w.When ∷ []
first_classes r.CaseElse = the_reserved w.Else ∷ []
first_classes r.Exprs = begins_expr
first_classes r.MoreExprs = the_sign s.Comma ∷ []

-- the classes of the lexemes that a text of a rule may go on with, and be one still
abbrev pub further_classes : Rule → List Class
further_classes r.Batch =
    the_reserved w.Create ∷ c.Semicolon ∷ begins_statement outside ++ further_statement
further_classes r.AfterFirstCreate =
    the_reserved w.Create ∷ c.Semicolon ∷ begins_statement outside ++ further_statement
further_classes r.Definition =
    the_reserved w.Create ∷ c.Semicolon ∷ begins_statement outside ++ further_statement
further_classes r.AfterCreate =
    the_reserved w.Create ∷ c.Semicolon ∷ begins_statement outside ++ further_statement
further_classes r.Procedure =
    the_reserved w.Create ∷ c.Semicolon ∷ begins_statement outside ++ further_statement
further_classes r.Trigger =
    the_reserved w.Create ∷ c.Semicolon ∷ begins_statement outside ++ further_statement
further_classes r.TriggerTime = []
further_classes r.Event = []
further_classes r.MoreEvents = the_sign s.Comma ∷ []
further_classes r.Params = c.One k.Variable ∷ the_sign s.Comma ∷ the_word v.Output ∷ []
further_classes r.Param = the_word v.Output ∷ []
further_classes r.MoreParams = the_sign s.Comma ∷ the_word v.Output ∷ []
further_classes r.Output = the_word v.Output ∷ []
further_classes r.Object = the_sign s.Dot ∷ []
further_classes r.AfterDbo = the_sign s.Dot ∷ []
further_classes r.Type = []
further_classes r.Names = the_sign s.Comma ∷ []
further_classes r.MoreNames = the_sign s.Comma ∷ []
further_classes (r.Body a) =
    the_reserved w.Create ∷ c.Semicolon ∷ begins_statement a ++ further_statement
further_classes (r.Statement a) = further_statement
further_classes (r.OtherStatement a) = further_statement
further_classes r.Semicolons = c.Semicolon ∷ []
further_classes r.OptionalSemicolon = c.Semicolon ∷ []
further_classes (r.AfterBegin a) = c.Name ∷ []
further_classes (r.Else a) = further_statement
further_classes (r.ThrowArguments a) = begins_expr ++ further_expr
further_classes r.OptionalExpr = the_sign s.Dot ∷ begins_expr ++ multiplies
further_classes r.Into = the_reserved w.Into ∷ []
further_classes r.AfterInsertTable = further_select
further_classes r.InsertRows = further_select
further_classes r.ValueRow = []
further_classes r.MoreValueRows = the_sign s.Comma ∷ []
further_classes r.Assignment = further_expr
further_classes r.MoreAssignments = the_sign s.Comma ∷ further_expr
further_classes r.DeleteFrom = the_reserved w.From ∷ []
further_classes r.DropKind = []
further_classes r.Table = []
further_classes r.Element =
    the_sign s.Open ∷ the_sign s.Dot ∷ map the_reserved (w.Check ∷ w.Constraint ∷ w.Not ∷ w.Null
    ∷ w.Primary ∷ w.References ∷ w.Unique ∷ [])
further_classes r.MoreElements =
    map the_reserved (w.Check ∷ w.Constraint ∷ w.Not ∷ w.Null ∷ w.Primary ∷ w.References ∷
    w.Unique ∷ []) ++ map the_sign (s.Open ∷ s.Comma ∷ s.Dot ∷ [])
further_classes r.ColumnTraits =
    the_sign s.Open ∷ the_sign s.Dot ∷ map the_reserved (w.Check ∷ w.Constraint ∷ w.Not ∷ w.Null
    ∷ w.Primary ∷ w.References ∷ w.Unique ∷ [])
further_classes r.ColumnConstraint = the_sign s.Open ∷ the_sign s.Dot ∷ []
further_classes r.ReferencedColumn = the_sign s.Open ∷ []
further_classes r.TableConstraint = []
further_classes r.AfterDeclare = further_select
further_classes r.Declaration = the_sign s.Equal ∷ further_expr
further_classes r.MoreDeclarations = the_sign s.Comma ∷ the_sign s.Equal ∷ further_expr
further_classes r.OptionalAs = the_reserved w.As ∷ []
further_classes r.Initial = the_sign s.Equal ∷ further_expr
further_classes r.CursorScope = the_word v.Local ∷ the_word v.Global ∷ []
further_classes r.CursorStatic = the_word v.Static ∷ []
further_classes r.CursorReadOnly = the_word v.ReadOnly ∷ []
further_classes r.AfterSet = further_expr
further_classes r.OnOff = []
further_classes r.Level = []
further_classes r.AfterRead = []
further_classes r.SignedNumber = []
further_classes r.Priority = []
further_classes r.OptionName = []
further_classes r.TransactionWord = []
further_classes r.TransactionEnd = c.Name ∷ the_reserved w.Tran ∷ the_reserved w.Transaction ∷ []
further_classes r.OptionalName = c.Name ∷ []
further_classes r.Next = the_word v.Next ∷ []
further_classes r.Variables = the_sign s.Comma ∷ []
further_classes r.MoreVariables = the_sign s.Comma ∷ []
further_classes r.AfterExecute =
    c.One k.Number ∷ c.One k.Text ∷ c.One k.Variable ∷ the_word v.Output ∷ the_reserved w.Null ∷
    map the_sign (s.Comma ∷ s.Dot ∷ s.Minus ∷ s.Equal ∷ [])
further_classes r.Arguments =
    c.One k.Number ∷ c.One k.Text ∷ c.One k.Variable ∷ the_word v.Output ∷ the_reserved w.Null ∷
    map the_sign (s.Comma ∷ s.Minus ∷ s.Equal ∷ [])
further_classes r.MoreArguments = the_sign s.Comma ∷ the_sign s.Equal ∷ the_word v.Output ∷ []
further_classes r.Argument = the_sign s.Equal ∷ the_word v.Output ∷ []
further_classes r.AfterArgumentVariable = the_sign s.Equal ∷ the_word v.Output ∷ []
further_classes r.ArgumentValue = []
further_classes r.Constant = []
further_classes r.Select = further_select
further_classes r.Distinct = the_reserved w.Distinct ∷ []
further_classes r.Top = the_reserved w.Top ∷ []
further_classes r.TopNumber = []
further_classes r.Items = the_sign s.Equal ∷ further_items
further_classes r.AfterFirstVariable = the_sign s.Equal ∷ further_items
further_classes r.MoreAssigns = the_sign s.Comma ∷ further_expr
further_classes r.Item = further_item
further_classes r.MoreItems = further_items
further_classes r.NamedItem = further_item
further_classes r.AfterItemName = further_item
further_classes r.AfterItemDot = further_item
further_classes (r.AfterItemFunction a) = further_item
further_classes r.OtherItem = further_item
further_classes r.AfterItemOperand = further_item
further_classes r.Alias = c.Name ∷ the_reserved w.As ∷ []
further_classes r.From =
    map the_reserved (w.And ∷ w.Cross ∷ w.From ∷ w.Inner ∷ w.Join ∷ w.Left ∷ w.Or ∷ []) ++
    further_items
further_classes r.TableRef = c.Name ∷ the_sign s.Dot ∷ the_reserved w.As ∷ []
further_classes r.Joins =
    map the_reserved (w.And ∷ w.Cross ∷ w.Inner ∷ w.Join ∷ w.Left ∷ w.Or ∷ []) ++ further_items
further_classes r.Outer = the_reserved w.Outer ∷ []
further_classes r.Where = the_reserved w.Where ∷ further_test
further_classes r.GroupBy = the_sign s.Comma ∷ the_reserved w.Group ∷ further_expr
further_classes r.Having = the_reserved w.Having ∷ further_test
further_classes r.OrderBy =
    the_sign s.Comma ∷ map the_reserved (w.Asc ∷ w.Desc ∷ w.Order ∷ []) ++ further_expr
further_classes r.OrderItem = the_reserved w.Asc ∷ the_reserved w.Desc ∷ further_expr
further_classes r.MoreOrderItems =
    the_sign s.Comma ∷ the_reserved w.Asc ∷ the_reserved w.Desc ∷ further_expr
further_classes r.Direction = the_reserved w.Asc ∷ the_reserved w.Desc ∷ []
further_classes r.Test = further_test
further_classes r.MoreOrs = further_test
further_classes r.AndTest = the_reserved w.And ∷ further_expr
further_classes r.MoreAnds = the_reserved w.And ∷ further_expr
further_classes r.NotTest = further_expr
further_classes r.MoreNots = the_reserved w.Not ∷ []
further_classes r.Basic = further_expr
further_classes (r.Opened n) = further_expr
further_classes (r.Operand n) = further_expr
further_classes (r.Compared n) = further_expr
further_classes (r.Tested n) = []
further_classes r.Comparison = further_expr
further_classes r.CompareSign = []
further_classes r.OptionalNot = the_reserved w.Not ∷ []
further_classes r.Membership = further_expr
further_classes r.InList = further_select
further_classes r.Expr = further_expr
further_classes r.MoreTerms = further_expr
further_classes r.AddSign = []
further_classes r.Product = the_sign s.Open ∷ the_sign s.Dot ∷ multiplies
further_classes r.MoreFactors = the_sign s.Open ∷ the_sign s.Dot ∷ multiplies
further_classes r.MultiplySign = []
further_classes r.Unary = the_sign s.Open ∷ the_sign s.Dot ∷ []
further_classes r.MoreSigns = adds
further_classes r.Primary = the_sign s.Open ∷ the_sign s.Dot ∷ []
further_classes r.SimplePrimary = the_sign s.Open ∷ the_sign s.Dot ∷ []
further_classes r.OtherPrimary = []
further_classes r.Enclosed = further_select
further_classes r.NamedPrimary = the_sign s.Open ∷ the_sign s.Dot ∷ []
further_classes r.AfterName = the_sign s.Dot ∷ []
further_classes (r.AfterFunction a) = the_sign s.Open ∷ the_sign s.Dot ∷ []
further_classes (r.FunctionArguments a) = []
further_classes r.CountArguments = further_expr
further_classes r.Arm = further_expr
further_classes r.MoreArms = the_reserved w.When ∷ further_expr
further_classes r.CaseElse = the_reserved w.Else ∷ further_expr
further_classes r.Exprs = the_sign s.Comma ∷ further_expr
further_classes r.MoreExprs = the_sign s.Comma ∷ further_expr

-- the empty text is of the rule
abbrev pub nullable : Rule → Bool
nullable r.Batch = true
nullable r.MoreEvents = true
nullable r.Params = true
nullable r.MoreParams = true
nullable r.Output = true
nullable r.AfterDbo = true
nullable r.MoreNames = true
nullable (r.Body a) = true
nullable r.Semicolons = true
nullable r.OptionalSemicolon = true
nullable (r.Else a) = true
nullable (r.ThrowArguments a) = a.in_catch
nullable r.OptionalExpr = true
nullable r.Into = true
nullable r.MoreValueRows = true
nullable r.MoreAssignments = true
nullable r.DeleteFrom = true
nullable r.MoreElements = true
nullable r.ColumnTraits = true
nullable r.ReferencedColumn = true
nullable r.MoreDeclarations = true
nullable r.OptionalAs = true
nullable r.Initial = true
nullable r.CursorScope = true
nullable r.CursorStatic = true
nullable r.CursorReadOnly = true
nullable r.TransactionEnd = true
nullable r.OptionalName = true
nullable r.Next = true
nullable r.MoreVariables = true
nullable r.Arguments = true
nullable r.MoreArguments = true
nullable r.AfterArgumentVariable = true
nullable r.Distinct = true
nullable r.Top = true
nullable r.AfterFirstVariable = true
nullable r.MoreAssigns = true
nullable r.MoreItems = true
nullable r.AfterItemName = true
nullable (r.AfterItemFunction a) = true
nullable r.AfterItemOperand = true
nullable r.Alias = true
nullable r.From = true
nullable r.Joins = true
nullable r.Outer = true
nullable r.Where = true
nullable r.GroupBy = true
nullable r.Having = true
nullable r.OrderBy = true
nullable r.MoreOrderItems = true
nullable r.Direction = true
nullable r.MoreOrs = true
nullable r.MoreAnds = true
nullable r.MoreNots = true
nullable (r.Tested zero) = true
nullable r.OptionalNot = true
nullable r.MoreTerms = true
nullable r.MoreFactors = true
nullable r.MoreSigns = true
nullable r.AfterName = true
nullable (r.AfterFunction a) = true
nullable r.MoreArms = true
nullable r.CaseElse = true
nullable r.MoreExprs = true
nullable _ = false

-- the kind is of one of the classes
abbrev pub of_any : List Class → Kind → Bool
of_any [] a = false
of_any (b ∷ more) a = admits b a || of_any more a

abbrev pub first : Rule → Kind → Bool
first a = of_any (first_classes a)

abbrev pub further : Rule → Kind → Bool
further a = of_any (further_classes a)

-- ELSE belongs to the nearest open IF
abbrev pub nearest : Rule → Bool
nearest (r.Else a) = true
nearest _ = false

-- the classes of what begins an ELSE
abbrev pub binding : Class → Bool
binding (c.One (k.Reserved w.Else)) = true
binding (c.One k.BeforeElse) = true
binding _ = false
