-- Transact-SQL reference, statement by statement, as far as this server reads it: the grammar, each
-- production with the tree that it stands for. The rules stand in the order of docs/LANGUAGE.md,
-- each below the production of that page that it is of. Where several productions begin alike, the
-- beginning stands once and the rest is a rule of its own, named After..; a list is its first member
-- and a rule More.. that takes a comma and a further one. Code has no such table: it reads by a
-- stack, and then by descent.
use Rattle.std.specs.Prelude.{ℕ, zero, suc, Bool, true, false, List, [], ◌∷◌, map, Option, Some, None, ℤ, neg_ℤ, if◌then◌else◌}
use Rattle.value_types.specs.declared.sql_type.SqlType.{SqlType}
use Rattle.value_types.specs.declared.sql_type.SqlType.TheVariants as kind
use Rattle.value_types.specs.declared.value.Value.TheVariants as value
use Rattle.tsql_lexer.specs.declared.lexeme.Sign.{Sign}
use Rattle.tsql_lexer.specs.declared.lexeme.Sign.TheVariants as s
use Rattle.tsql_tree.specs.declared.definition.Definition.{Definition}
use Rattle.tsql_tree.specs.declared.definition.Definition.TheVariants as definition
use Rattle.tsql_tree.specs.declared.definition.Event.{Event}
use Rattle.tsql_tree.specs.declared.definition.Event.TheVariants as event
use Rattle.tsql_tree.specs.declared.definition.Parameter.{Parameter}
use Rattle.tsql_tree.specs.declared.definition.TableTree.{TableTree}
use Rattle.tsql_tree.specs.declared.option.IsolationLevel.{IsolationLevel}
use Rattle.tsql_tree.specs.declared.option.IsolationLevel.TheVariants as level
use Rattle.tsql_tree.specs.declared.option.PriorityWord.{PriorityWord}
use Rattle.tsql_tree.specs.declared.option.PriorityWord.TheVariants as priority
use Rattle.tsql_tree.specs.declared.option.SessionOption.TheVariants as option
use Rattle.tsql_tree.specs.declared.query.AddSign.{AddSign}
use Rattle.tsql_tree.specs.declared.query.AddSign.TheVariants as add
use Rattle.tsql_tree.specs.declared.query.Aggregate.TheVariants as aggregate
use Rattle.tsql_tree.specs.declared.query.Arm.{Arm, roll-Arm}
use Rattle.tsql_tree.specs.declared.query.CompareSign.{CompareSign}
use Rattle.tsql_tree.specs.declared.query.CompareSign.TheVariants as compare
use Rattle.tsql_tree.specs.declared.query.Expr.{Expr}
use Rattle.tsql_tree.specs.declared.query.Expr.TheVariants as expr
use Rattle.tsql_tree.specs.declared.query.Factor.{Factor, roll-Factor}
use Rattle.tsql_tree.specs.declared.query.FromClause.{FromClause, roll-FromClause}
use Rattle.tsql_tree.specs.declared.query.Item.{Item}
use Rattle.tsql_tree.specs.declared.query.Item.TheVariants as item
use Rattle.tsql_tree.specs.declared.query.Join.{Join}
use Rattle.tsql_tree.specs.declared.query.Join.TheVariants as joined
use Rattle.tsql_tree.specs.declared.query.MultiplySign.{MultiplySign}
use Rattle.tsql_tree.specs.declared.query.MultiplySign.TheVariants as multiply
use Rattle.tsql_tree.specs.declared.query.OrderItem.{OrderItem, roll-OrderItem}
use Rattle.tsql_tree.specs.declared.query.Select.{Select, roll-Select}
use Rattle.tsql_tree.specs.declared.query.SystemWord.TheVariants as system
use Rattle.tsql_tree.specs.declared.query.TableRef.{TableRef}
use Rattle.tsql_tree.specs.declared.query.Term.{Term, roll-Term}
use Rattle.tsql_tree.specs.declared.query.Test.{Test}
use Rattle.tsql_tree.specs.declared.query.Test.TheVariants as test
use Rattle.tsql_tree.specs.declared.statement.Argument.{Argument}
use Rattle.tsql_tree.specs.declared.statement.ArgumentValue.{ArgumentValue}
use Rattle.tsql_tree.specs.declared.statement.ArgumentValue.TheVariants as argument
use Rattle.tsql_tree.specs.declared.statement.Assignment.{Assignment}
use Rattle.tsql_tree.specs.declared.statement.Batch.{Batch}
use Rattle.tsql_tree.specs.declared.statement.Batch.TheVariants as batch
use Rattle.tsql_tree.specs.declared.statement.Declaration.{Declaration}
use Rattle.tsql_tree.specs.declared.statement.DropKind.{DropKind}
use Rattle.tsql_tree.specs.declared.statement.DropKind.TheVariants as drops
use Rattle.tsql_tree.specs.declared.statement.Form.{Form}
use Rattle.tsql_tree.specs.declared.statement.Form.TheVariants as form
use Rattle.tsql_tree.specs.declared.statement.InsertRows.{InsertRows}
use Rattle.tsql_tree.specs.declared.statement.InsertRows.TheVariants as rows
use Rattle.tsql_tree.specs.declared.statement.Statement.{Statement}
use Rattle.tsql_grammar.specs.declared.kind.Kind.TheVariants as k
use Rattle.tsql_grammar.specs.declared.kind.Function.{Function}
use Rattle.tsql_grammar.specs.declared.kind.Function.TheVariants as f
use Rattle.tsql_grammar.specs.declared.kind.Word.{Word}
use Rattle.tsql_grammar.specs.declared.kind.Word.TheVariants as v
use Rattle.tsql_grammar.specs.declared.kind.Reserved.{Reserved}
use Rattle.tsql_grammar.specs.declared.kind.Reserved.TheVariants as w
use Rattle.tsql_grammar.specs.declared.rule.Around.{Around}
use Rattle.tsql_grammar.specs.declared.rule.Class.{Class}
use Rattle.tsql_grammar.specs.declared.rule.Class.TheVariants as c
use Rattle.tsql_grammar.specs.declared.rule.Mark.{Mark}
use Rattle.tsql_grammar.specs.declared.rule.Mark.TheVariants.{Enter, Leave, Uses, Declares}
use Rattle.tsql_grammar.specs.declared.rule.Rule.{Rule}
use Rattle.tsql_grammar.specs.declared.rule.Rule.TheVariants as r
use Rattle.tsql_grammar.specs.Kinds.{functions, fixed_options}
use Rattle.tsql_grammar.specs.Terminals.{Terminal, units, number, line, size}
use Rattle.tsql_grammar.specs.Words.{is_date_order, is_language}
use Rattle.tsql_grammar.specs.Trees.{with_signs, product, sum, all_of, any_of, with_nots, statement, slice, Draft, empty_draft, add_column, add_key, add_unique, add_check, add_foreign, Traits, no_traits, constrained}
use Rattle.grammar_laws.specs.Grammar.{Symbol}
use Rattle.grammar_laws.specs.Grammar.Symbol.{lexeme, rule, mark}
use Rattle.grammar_laws.specs.Alternatives.{Alternative, Builds, built}

abbrev pub Symbols : Type 0
Symbols = List (Symbol Class Rule Mark)

-- a sign, a reserved word, another word, a lexeme of a kind
abbrev pub sign : Sign → Symbol Class Rule Mark
sign a = lexeme (c.One (k.Sign a))

abbrev pub reserved : Reserved → Symbol Class Rule Mark
reserved a = lexeme (c.One (k.Reserved a))

abbrev pub word : Word → Symbol Class Rule Mark
word a = lexeme (c.One (k.Word a))

abbrev pub variable : Symbol Class Rule Mark
variable = lexeme (c.One k.Variable)

abbrev pub numeral : Symbol Class Rule Mark
numeral = lexeme (c.One k.Number)

abbrev pub name : Symbol Class Rule Mark
name = lexeme c.Name

-- what a text of each rule stands for
abbrev pub Tree : Rule → Type 0
-- a batch, by where its last lexeme ends
Tree r.Batch = ℕ → Batch
Tree r.AfterFirstCreate = Terminal → ℕ → Batch
Tree r.Definition = Definition
Tree r.AfterCreate = Definition
Tree r.Procedure = Definition
Tree r.Trigger = Definition
Tree r.TriggerTime = Unit {0}
Tree r.Event = Event
Tree r.MoreEvents = List Event
Tree r.Params = List Parameter
Tree r.Param = Parameter
Tree r.MoreParams = List Parameter
Tree r.Output = Bool
Tree r.Object = List ℕ
Tree r.AfterDbo = List ℕ → List ℕ
Tree r.Type = SqlType
Tree r.Names = List (List ℕ)
Tree r.MoreNames = List (List ℕ)
Tree (r.Body a) = List Statement
Tree (r.Statement a) = Statement
Tree (r.OtherStatement a) = Statement
Tree r.Semicolons = Unit {0}
Tree r.OptionalSemicolon = Unit {0}
Tree (r.AfterBegin a) = Form
Tree (r.Else a) = Option Statement
Tree (r.ThrowArguments a) = Form
Tree r.OptionalExpr = Option Expr
Tree r.Into = Unit {0}
Tree r.AfterInsertTable = List ℕ → Form
Tree r.InsertRows = InsertRows
Tree r.ValueRow = List Expr
Tree r.MoreValueRows = List (List Expr)
Tree r.Assignment = Assignment
Tree r.MoreAssignments = List Assignment
Tree r.DeleteFrom = Unit {0}
Tree r.DropKind = DropKind
-- a table, and where its last lexeme ends
Tree r.Table = TableTree × ℕ
Tree r.Element = Draft → Draft
Tree r.MoreElements = Draft → Draft
Tree r.ColumnTraits = Traits
Tree r.ColumnConstraint = Option (List ℕ) → List ℕ → Draft → Draft
Tree r.ReferencedColumn = List (List ℕ)
Tree r.TableConstraint = Option (List ℕ) → Draft → Draft
Tree r.AfterDeclare = Form
Tree r.Declaration = Declaration
Tree r.MoreDeclarations = List Declaration
Tree r.OptionalAs = Unit {0}
Tree r.Initial = Option Expr
Tree r.CursorScope = Unit {0}
Tree r.CursorStatic = Unit {0}
Tree r.CursorReadOnly = Unit {0}
Tree r.AfterSet = Form
Tree r.OnOff = Bool
Tree r.Level = IsolationLevel
Tree r.AfterRead = IsolationLevel
Tree r.SignedNumber = ℤ
Tree r.Priority = PriorityWord
Tree r.OptionName = List ℕ
Tree r.TransactionWord = Unit {0}
Tree r.TransactionEnd = Option (List ℕ)
Tree r.OptionalName = Option (List ℕ)
Tree r.Next = Unit {0}
Tree r.Variables = List (List ℕ)
Tree r.MoreVariables = List (List ℕ)
Tree r.AfterExecute = Form
Tree r.Arguments = List Argument
Tree r.MoreArguments = List Argument
Tree r.Argument = Argument
Tree r.AfterArgumentVariable = List ℕ → Argument
Tree r.ArgumentValue = ArgumentValue
Tree r.Constant = ArgumentValue
Tree r.Select = Select
Tree r.Distinct = Bool
Tree r.Top = Option ℤ
Tree r.TopNumber = ℤ
Tree r.Items = List Item
Tree r.AfterFirstVariable = List ℕ → List Item
Tree r.MoreAssigns = List Item
Tree r.Item = Item
Tree r.MoreItems = List Item
Tree r.NamedItem = Item
Tree r.AfterItemName = List ℕ → Item
Tree r.AfterItemDot = List ℕ → Item
Tree (r.AfterItemFunction a) = List ℕ → Item
Tree r.OtherItem = Item
Tree r.AfterItemOperand = Expr → Item
Tree r.Alias = Option (List ℕ)
Tree r.From = Option FromClause
Tree r.TableRef = TableRef
Tree r.Joins = List Join
Tree r.Outer = Unit {0}
Tree r.Where = Option Test
Tree r.GroupBy = List Expr
Tree r.Having = Option Test
Tree r.OrderBy = List OrderItem
Tree r.OrderItem = OrderItem
Tree r.MoreOrderItems = List OrderItem
Tree r.Direction = Bool
Tree r.Test = Test
Tree r.MoreOrs = List Test
Tree r.AndTest = Test
Tree r.MoreAnds = List Test
Tree r.NotTest = Test
Tree r.MoreNots = ℕ
Tree r.Basic = Test
Tree (r.Opened n) = Test
Tree (r.Operand n) = Expr → Test
Tree (r.Compared n) = Expr → Test
Tree (r.Tested n) = Test → Test
Tree r.Comparison = Expr → Test
Tree r.CompareSign = CompareSign
Tree r.OptionalNot = Bool
Tree r.Membership = Expr → Bool → Test
Tree r.InList = Expr → Bool → Test
Tree r.Expr = Expr
Tree r.MoreTerms = List Term
Tree r.AddSign = AddSign
Tree r.Product = Expr
Tree r.MoreFactors = List Factor
Tree r.MultiplySign = MultiplySign
Tree r.Unary = Expr
Tree r.MoreSigns = List AddSign
Tree r.Primary = Expr
Tree r.SimplePrimary = Expr
Tree r.OtherPrimary = Expr
Tree r.Enclosed = Expr
Tree r.NamedPrimary = Expr
Tree r.AfterName = List ℕ → Expr
Tree (r.AfterFunction a) = List ℕ → Expr
Tree (r.FunctionArguments a) = Expr
Tree r.CountArguments = Expr
Tree r.Arm = Arm
Tree r.MoreArms = List Arm
Tree r.CaseElse = Option Expr
Tree r.Exprs = List Expr
Tree r.MoreExprs = List Expr

abbrev pub Production : Rule → Type 0
Production a = Alternative Terminal Class Mark Tree a

abbrev pub way : {a : Rule} (is : Symbols) → Builds Terminal Tree is (Tree a) → Production a
way {a = a} is b = record { symbols = is; build = built Terminal Tree is (Tree a) b }

-- a word that may stand or not
abbrev pub optional : {a : Rule} → Symbol Class Rule Mark → Tree a → Tree a → List (Production a)
optional {a = a} symbol given missing = record { symbols = symbol ∷ []; build = λ x. given } ∷ record { symbols = []; build = λ x. missing } ∷ []

-- where a WHILE stands around, and where a CATCH does
abbrev pub outside : Around
outside = record { in_while = false; in_catch = false }

abbrev pub within_while : Around → Around
within_while a = record a { in_while = true }

abbrev pub within_catch : Around → Around
within_catch a = record a { in_catch = true }

-- The arguments of a function, with their parentheses.
abbrev pub function_arguments : (a : Function) → List (Production (r.FunctionArguments a))
-- CAST "(" expr AS type ")"
function_arguments f.Cast =
    way (sign s.Open ∷ mark Enter ∷ rule r.Expr ∷ reserved w.As ∷ rule r.Type ∷ sign s.Close ∷ mark Leave ∷ []) (λ _ operand _ kind _. expr.Cast operand kind) ∷ []
-- ISNULL "(" expr "," expr ")"
function_arguments f.IsNull =
    way (sign s.Open ∷ mark Enter ∷ rule r.Expr ∷ sign s.Comma ∷ rule r.Expr ∷ sign s.Close ∷ mark Leave ∷ []) (λ _ first _ second _. expr.IsNull first second) ∷ []
-- LEN "(" expr ")"
function_arguments f.Len =
    way (sign s.Open ∷ mark Enter ∷ rule r.Expr ∷ sign s.Close ∷ mark Leave ∷ []) (λ _ operand _. expr.Length operand) ∷ []
-- COUNT "(" "*" ")" | COUNT "(" [DISTINCT] expr ")"
function_arguments f.Count =
    way (sign s.Open ∷ mark Enter ∷ rule r.CountArguments ∷ sign s.Close ∷ mark Leave ∷ []) (λ _ counted _. counted) ∷ []
-- (SUM|AVG|MIN|MAX) "(" [DISTINCT] expr ")"
function_arguments f.Sum =
    way (sign s.Open ∷ mark Enter ∷ rule r.Distinct ∷ rule r.Expr ∷ sign s.Close ∷ mark Leave ∷ []) (λ _ distinct operand _. expr.Aggregate aggregate.Sum distinct operand) ∷ []
function_arguments f.Avg =
    way (sign s.Open ∷ mark Enter ∷ rule r.Distinct ∷ rule r.Expr ∷ sign s.Close ∷ mark Leave ∷ []) (λ _ distinct operand _. expr.Aggregate aggregate.Avg distinct operand) ∷ []
function_arguments f.Min =
    way (sign s.Open ∷ mark Enter ∷ rule r.Distinct ∷ rule r.Expr ∷ sign s.Close ∷ mark Leave ∷ []) (λ _ distinct operand _. expr.Aggregate aggregate.Min distinct operand) ∷ []
function_arguments f.Max =
    way (sign s.Open ∷ mark Enter ∷ rule r.Distinct ∷ rule r.Expr ∷ sign s.Close ∷ mark Leave ∷ []) (λ _ distinct operand _. expr.Aggregate aggregate.Max distinct operand) ∷ []
-- XACT_STATE "(" ")" | (ERROR_NUMBER|..) "(" ")" | (SCHEMA_NAME|DB_NAME|USER_NAME) "(" ")"
function_arguments f.XactState = way (sign s.Open ∷ mark Enter ∷ sign s.Close ∷ mark Leave ∷ []) (λ _ _. expr.System system.XactState) ∷ []
function_arguments f.ErrorNumber = way (sign s.Open ∷ mark Enter ∷ sign s.Close ∷ mark Leave ∷ []) (λ _ _. expr.System system.ErrorNumber) ∷ []
function_arguments f.ErrorSeverity = way (sign s.Open ∷ mark Enter ∷ sign s.Close ∷ mark Leave ∷ []) (λ _ _. expr.System system.ErrorSeverity) ∷ []
function_arguments f.ErrorState = way (sign s.Open ∷ mark Enter ∷ sign s.Close ∷ mark Leave ∷ []) (λ _ _. expr.System system.ErrorState) ∷ []
function_arguments f.ErrorLine = way (sign s.Open ∷ mark Enter ∷ sign s.Close ∷ mark Leave ∷ []) (λ _ _. expr.System system.ErrorLine) ∷ []
function_arguments f.ErrorMessage = way (sign s.Open ∷ mark Enter ∷ sign s.Close ∷ mark Leave ∷ []) (λ _ _. expr.System system.ErrorMessage) ∷ []
function_arguments f.ErrorProcedure = way (sign s.Open ∷ mark Enter ∷ sign s.Close ∷ mark Leave ∷ []) (λ _ _. expr.System system.ErrorProcedure) ∷ []
function_arguments f.SchemaName = way (sign s.Open ∷ mark Enter ∷ sign s.Close ∷ mark Leave ∷ []) (λ _ _. expr.System system.SchemaName) ∷ []
function_arguments f.DatabaseName = way (sign s.Open ∷ mark Enter ∷ sign s.Close ∷ mark Leave ∷ []) (λ _ _. expr.System system.DatabaseName) ∷ []
function_arguments f.UserName = way (sign s.Open ∷ mark Enter ∷ sign s.Close ∷ mark Leave ∷ []) (λ _ _. expr.System system.UserName) ∷ []

-- The productions of each rule, for the batch's text, which the trees of definitions keep a part of.
abbrev pub productions : List ℕ → (a : Rule) → List (Production a)
-- batch = definition | body
productions text r.Batch =
    way (reserved w.Create ∷ rule r.AfterFirstCreate ∷ []) (λ create after. after create)
    ∷ way (lexeme c.Semicolon ∷ rule (r.Body outside) ∷ []) (λ _ body ends. batch.Body body)
    ∷ way (rule (r.OtherStatement outside) ∷ rule (r.Body outside) ∷ []) (λ first body ends. batch.Body (first ∷ body))
    ∷ way [] (λ ends. batch.Body []) ∷ []
productions text r.AfterFirstCreate =
    way (rule r.Procedure ∷ []) (λ procedure create ends. batch.Definition (line create) procedure (slice text create.spanned.start ends))
    ∷ way (rule r.Trigger ∷ []) (λ trigger create ends. batch.Definition (line create) trigger (slice text create.spanned.start ends))
    ∷ way (rule r.Table ∷ rule (r.Body outside) ∷ [])
    (λ table body create ends. batch.Body (statement create (form.CreateTable table.0 (slice text create.spanned.start table.1)) ∷ body)) ∷ []
-- body = { ";" | statement }
productions text (r.Body a) =
    way (lexeme c.Semicolon ∷ rule (r.Body a) ∷ []) (λ _ body. body)
    ∷ way (rule (r.Statement a) ∷ rule (r.Body a) ∷ []) (λ first body. first ∷ body)
    ∷ way [] [] ∷ []
-- definition = CREATE (PROCEDURE|PROC) object [list(param)] AS body
--            | CREATE TRIGGER object ON object (AFTER|FOR) list(INSERT|UPDATE|DELETE) AS body
-- and a table, where it is the text of one definition
productions text r.Definition = way (reserved w.Create ∷ rule r.AfterCreate ∷ []) (λ _ after. after) ∷ []
productions text r.AfterCreate =
    way (rule r.Procedure ∷ []) (λ procedure. procedure)
    ∷ way (rule r.Trigger ∷ []) (λ trigger. trigger)
    ∷ way (rule r.Table ∷ []) (λ table. definition.Table table.0) ∷ []
productions text r.Procedure =
    way (reserved w.Procedure ∷ rule r.Object ∷ rule r.Params ∷ reserved w.As ∷ rule (r.Body outside) ∷ [])
    (λ _ name parameters _ body. definition.Procedure (record { name = name; parameters = parameters; body = body })) ∷ []
productions text r.Trigger =
    way (reserved w.Trigger ∷ rule r.Object ∷ reserved w.On ∷ rule r.Object ∷ rule r.TriggerTime ∷ rule r.Event ∷ rule r.MoreEvents ∷ reserved w.As ∷ rule (r.Body outside) ∷ [])
    (λ _ name _ table _ first more _ body. definition.Trigger (record { name = name; table = table; events = first ∷ more; body = body })) ∷ []
productions text r.TriggerTime = way (word v.After ∷ []) (λ _. tt) ∷ way (reserved w.For ∷ []) (λ _. tt) ∷ []
productions text r.Event =
    way (reserved w.Insert ∷ []) (λ _. event.Insert) ∷ way (reserved w.Update ∷ []) (λ _. event.Update) ∷ way (reserved w.Delete ∷ []) (λ _. event.Delete) ∷ []
productions text r.MoreEvents = way (sign s.Comma ∷ rule r.Event ∷ rule r.MoreEvents ∷ []) (λ _ first more. first ∷ more) ∷ way [] [] ∷ []
-- param = variable type [OUTPUT|OUT]
productions text r.Params = way (rule r.Param ∷ rule r.MoreParams ∷ []) (λ first more. first ∷ more) ∷ way [] [] ∷ []
productions text r.MoreParams = way (sign s.Comma ∷ rule r.Param ∷ rule r.MoreParams ∷ []) (λ _ first more. first ∷ more) ∷ way [] [] ∷ []
productions text r.Param =
    way (variable ∷ mark Declares ∷ rule r.Type ∷ rule r.Output ∷ []) (λ name kind output. record { name = units name; kind = kind; output = output }) ∷ []
productions text r.Output = optional (word v.Output) true false
-- object = [name "."] name; the first name is dbo
productions text r.Object =
    way (lexeme c.OtherName ∷ []) (λ name. units name)
    ∷ way (lexeme (c.One k.Dbo) ∷ rule r.AfterDbo ∷ []) (λ dbo after. after (units dbo)) ∷ []
productions text r.AfterDbo = way (sign s.Dot ∷ name ∷ []) (λ _ name dbo. units name) ∷ way [] (λ dbo. dbo) ∷ []
-- type = TINYINT|SMALLINT|INT|INTEGER|BIGINT|BIT|NVARCHAR "(" number ")"
productions text r.Type =
    way (word v.TinyInt ∷ []) (λ _. kind.TinyInt) ∷ way (word v.SmallInt ∷ []) (λ _. kind.SmallInt) ∷ way (word v.Int ∷ []) (λ _. kind.Int)
    ∷ way (word v.BigInt ∷ []) (λ _. kind.BigInt) ∷ way (word v.Bit ∷ []) (λ _. kind.Bit)
    ∷ way (word v.NVarChar ∷ sign s.Open ∷ numeral ∷ sign s.Close ∷ []) (λ _ _ n _. kind.NText (size n)) ∷ []
productions text r.Names = way (name ∷ rule r.MoreNames ∷ []) (λ first more. units first ∷ more) ∷ []
productions text r.MoreNames = way (sign s.Comma ∷ name ∷ rule r.MoreNames ∷ []) (λ _ first more. units first ∷ more) ∷ way [] [] ∷ []
-- statement = select | insert | update | delete | table | drop | control | session | transaction
--           | cursor | call
productions text (r.Statement a) =
    way (reserved w.Create ∷ rule r.Table ∷ []) (λ create table. statement create (form.CreateTable table.0 (slice text create.spanned.start table.1)))
    ∷ way (rule (r.OtherStatement a) ∷ []) (λ other. other) ∷ []
productions text (r.OtherStatement a) =
    way (reserved w.Select ∷ rule r.Select ∷ []) (λ at select. statement at (form.Select select))
    -- insert = INSERT [INTO] object ["(" list(name) ")"] (VALUES list("(" list(expr) ")") | select)
    ∷ way (reserved w.Insert ∷ rule r.Into ∷ rule r.Object ∷ rule r.AfterInsertTable ∷ []) (λ at _ table after. statement at (after table))
    -- update = UPDATE object SET list(name "=" expr) [WHERE test]
    ∷ way (reserved w.Update ∷ rule r.Object ∷ reserved w.Set ∷ rule r.Assignment ∷ rule r.MoreAssignments ∷ rule r.Where ∷ [])
    (λ at table _ first more filter. statement at (form.Update table (first ∷ more) filter))
    -- delete = DELETE [FROM] object [WHERE test]
    ∷ way (reserved w.Delete ∷ rule r.DeleteFrom ∷ rule r.Object ∷ rule r.Where ∷ []) (λ at _ table filter. statement at (form.Delete table filter))
    -- drop = DROP (TABLE|PROCEDURE|PROC|TRIGGER) object
    ∷ way (reserved w.Drop ∷ rule r.DropKind ∷ rule r.Object ∷ []) (λ at kind name. statement at (form.Drop kind name))
    -- control = IF test statement [[";"] ELSE statement] | WHILE test statement | BREAK | CONTINUE
    --         | BEGIN {";"} statement body END | BEGIN TRY body END TRY [";"] BEGIN CATCH body END CATCH
    --         | PRINT expr | RAISERROR "(" expr "," expr "," expr ")" | RETURN [expr]
    --         | THROW [expr "," expr "," expr]
    ∷ way (reserved w.If ∷ mark Enter ∷ rule r.Test ∷ rule (r.Statement a) ∷ rule (r.Else a) ∷ mark Leave ∷ [])
    (λ at test does other. statement at (form.If test does other))
    ∷ way (reserved w.While ∷ mark Enter ∷ rule r.Test ∷ rule (r.Statement (within_while a)) ∷ mark Leave ∷ []) (λ at test does. statement at (form.While test does))
    ∷ way (reserved w.Begin ∷ rule (r.AfterBegin a) ∷ []) (λ at after. statement at after)
    ∷ way (reserved w.Print ∷ rule r.Expr ∷ []) (λ at text. statement at (form.Print text))
    ∷ way (reserved w.RaiseError ∷ sign s.Open ∷ rule r.Expr ∷ sign s.Comma ∷ rule r.Expr ∷ sign s.Comma ∷ rule r.Expr ∷ sign s.Close ∷ [])
    (λ at _ text _ severity _ state _. statement at (form.RaiseError text severity state))
    ∷ way (reserved w.Return ∷ rule r.OptionalExpr ∷ []) (λ at value. statement at (form.Return value))
    ∷ way (reserved w.Throw ∷ rule (r.ThrowArguments a) ∷ []) (λ at thrown. statement at thrown)
    -- session = DECLARE list(variable [AS] type ["=" expr]) | SET variable "=" expr | SET option
    ∷ way (reserved w.Declare ∷ rule r.AfterDeclare ∷ []) (λ at after. statement at after)
    ∷ way (reserved w.Set ∷ rule r.AfterSet ∷ []) (λ at after. statement at after)
    -- transaction = BEGIN (TRAN|TRANSACTION) [name] | COMMIT [(TRAN|TRANSACTION) [name]]
    --             | ROLLBACK [(TRAN|TRANSACTION) [name]] | SAVE (TRAN|TRANSACTION) name
    ∷ way (reserved w.Commit ∷ rule r.TransactionEnd ∷ []) (λ at name. statement at (form.Commit name))
    ∷ way (reserved w.Rollback ∷ rule r.TransactionEnd ∷ []) (λ at name. statement at (form.Rollback name))
    ∷ way (reserved w.Save ∷ rule r.TransactionWord ∷ name ∷ []) (λ at _ name. statement at (form.Save (units name)))
    -- cursor = DECLARE name CURSOR [LOCAL|GLOBAL] [STATIC] [READ_ONLY] FOR select | OPEN name
    --        | FETCH [NEXT] FROM name INTO list(variable) | CLOSE name | DEALLOCATE name
    ∷ way (reserved w.Open ∷ name ∷ []) (λ at name. statement at (form.OpenCursor (units name)))
    ∷ way (reserved w.Fetch ∷ rule r.Next ∷ reserved w.From ∷ name ∷ reserved w.Into ∷ rule r.Variables ∷ [])
    (λ at _ _ name _ variables. statement at (form.Fetch (units name) variables))
    ∷ way (reserved w.Close ∷ name ∷ []) (λ at name. statement at (form.CloseCursor (units name)))
    ∷ way (reserved w.Deallocate ∷ name ∷ []) (λ at name. statement at (form.Deallocate (units name)))
    -- use = USE name
    ∷ way (reserved w.Use ∷ name ∷ []) (λ at name. statement at (form.Use (units name)))
    -- call = (EXEC|EXECUTE) [variable "="] object [list([variable "="] argument)]
    ∷ way (reserved w.Execute ∷ rule r.AfterExecute ∷ []) (λ at after. statement at after)
    -- BREAK and CONTINUE stand only inside a WHILE
    ∷ (if a.in_while
    then way (reserved w.Break ∷ []) (λ at. statement at form.Break) ∷ way (reserved w.Continue ∷ []) (λ at. statement at form.Continue) ∷ []
    else [])
productions text r.Into = optional (reserved w.Into) tt tt
productions text r.AfterInsertTable =
    way (sign s.Open ∷ rule r.Names ∷ sign s.Close ∷ rule r.InsertRows ∷ []) (λ _ columns _ given table. form.Insert table columns given)
    ∷ way (rule r.InsertRows ∷ []) (λ given table. form.Insert table [] given) ∷ []
productions text r.InsertRows =
    way (reserved w.Values ∷ rule r.ValueRow ∷ rule r.MoreValueRows ∷ []) (λ _ first more. rows.Values (first ∷ more))
    ∷ way (reserved w.Select ∷ rule r.Select ∷ []) (λ _ select. rows.Query select) ∷ []
productions text r.ValueRow = way (sign s.Open ∷ rule r.Exprs ∷ sign s.Close ∷ []) (λ _ values _. values) ∷ []
productions text r.MoreValueRows = way (sign s.Comma ∷ rule r.ValueRow ∷ rule r.MoreValueRows ∷ []) (λ _ first more. first ∷ more) ∷ way [] [] ∷ []
productions text r.Assignment = way (name ∷ sign s.Equal ∷ rule r.Expr ∷ []) (λ name _ value. record { name = units name; value = value }) ∷ []
productions text r.MoreAssignments = way (sign s.Comma ∷ rule r.Assignment ∷ rule r.MoreAssignments ∷ []) (λ _ first more. first ∷ more) ∷ way [] [] ∷ []
productions text r.DeleteFrom = optional (reserved w.From) tt tt
productions text r.DropKind =
    way (reserved w.Table ∷ []) (λ _. drops.Table) ∷ way (reserved w.Procedure ∷ []) (λ _. drops.Procedure) ∷ way (reserved w.Trigger ∷ []) (λ _. drops.Trigger) ∷ []
productions text r.Semicolons = way (lexeme c.Semicolon ∷ rule r.Semicolons ∷ []) (λ _ more. tt) ∷ way [] tt ∷ []
productions text r.OptionalSemicolon = optional (lexeme c.Semicolon) tt tt
productions text (r.AfterBegin a) =
    way (rule r.TransactionWord ∷ rule r.OptionalName ∷ []) (λ _ name. form.BeginTransaction name)
    ∷ way (mark Enter ∷ word v.Try ∷ rule (r.Body a) ∷ reserved w.End ∷ mark Leave ∷ word v.Try ∷ rule r.OptionalSemicolon
    ∷ reserved w.Begin ∷ mark Enter ∷ word v.Catch ∷ rule (r.Body (within_catch a)) ∷ reserved w.End ∷ mark Leave ∷ word v.Catch ∷ [])
    (λ _ tried _ _ _ _ _ caught _ _. form.TryCatch tried caught)
    ∷ way (mark Enter ∷ rule r.Semicolons ∷ rule (r.Statement a) ∷ rule (r.Body a) ∷ reserved w.End ∷ mark Leave ∷ [])
    (λ _ first body _. form.Block (first ∷ body)) ∷ []
-- ELSE belongs to the nearest open IF: nothing is taken only where no ELSE comes
productions text (r.Else a) =
    way (reserved w.Else ∷ rule (r.Statement a) ∷ []) (λ _ other. Some other)
    ∷ way (lexeme (c.One k.BeforeElse) ∷ reserved w.Else ∷ rule (r.Statement a) ∷ []) (λ _ _ other. Some other)
    ∷ way [] None ∷ []
-- THROW without arguments stands only inside a CATCH
productions text (r.ThrowArguments a) =
    way (rule r.Expr ∷ sign s.Comma ∷ rule r.Expr ∷ sign s.Comma ∷ rule r.Expr ∷ []) (λ number _ text _ state. form.Throw number text state)
    ∷ (if a.in_catch then way [] form.ThrowAgain ∷ [] else [])
productions text r.OptionalExpr = way (rule r.Expr ∷ []) (λ value. Some value) ∷ way [] None ∷ []
-- table = CREATE TABLE object "(" list(column | constraint) ")"
productions text r.Table =
    way (reserved w.Table ∷ rule r.Object ∷ sign s.Open ∷ rule r.Element ∷ rule r.MoreElements ∷ sign s.Close ∷ [])
    (λ _ name _ first more close. ((more (first (empty_draft name))).table, close.spanned.end)) ∷ []
productions text r.MoreElements = way (sign s.Comma ∷ rule r.Element ∷ rule r.MoreElements ∷ []) (λ _ first more d. more (first d)) ∷ way [] (λ d. d) ∷ []
-- column = name type { NULL | NOT NULL | [CONSTRAINT name] own }
-- constraint = [CONSTRAINT name] (PRIMARY KEY "(" list(name) ")" | UNIQUE "(" list(name) ")"
--            | CHECK "(" test ")" | FOREIGN KEY "(" list(name) ")" REFERENCES object "(" list(name) ")")
productions text r.Element =
    way (name ∷ rule r.Type ∷ rule r.ColumnTraits ∷ [])
    (λ name kind traits d. traits.add (units name) (add_column (record { name = units name; kind = kind; required = traits.required }) d))
    ∷ way (reserved w.Constraint ∷ name ∷ rule r.TableConstraint ∷ []) (λ _ name constraint. constraint (Some (units name)))
    ∷ way (rule r.TableConstraint ∷ []) (λ constraint. constraint None) ∷ []
productions text r.ColumnTraits =
    way (reserved w.Null ∷ rule r.ColumnTraits ∷ []) (λ _ more. more)
    ∷ way (reserved w.Not ∷ reserved w.Null ∷ rule r.ColumnTraits ∷ []) (λ _ _ more. record more { required = true })
    ∷ way (reserved w.Constraint ∷ name ∷ rule r.ColumnConstraint ∷ rule r.ColumnTraits ∷ []) (λ _ name first more. constrained (first (Some (units name))) more)
    ∷ way (rule r.ColumnConstraint ∷ rule r.ColumnTraits ∷ []) (λ first more. constrained (first None) more)
    ∷ way [] no_traits ∷ []
-- own = PRIMARY KEY | UNIQUE | CHECK "(" test ")" | REFERENCES object ["(" name ")"]
productions text r.ColumnConstraint =
    way (reserved w.Primary ∷ reserved w.Key ∷ []) (λ _ _ name column. add_key (column ∷ []) name)
    ∷ way (reserved w.Unique ∷ []) (λ _ name column. add_unique (column ∷ []) name)
    ∷ way (reserved w.Check ∷ sign s.Open ∷ rule r.Test ∷ sign s.Close ∷ []) (λ _ _ test _ name column. add_check test name)
    ∷ way (reserved w.References ∷ rule r.Object ∷ rule r.ReferencedColumn ∷ []) (λ _ parent columns name column. add_foreign (column ∷ []) parent columns name) ∷ []
productions text r.ReferencedColumn = way (sign s.Open ∷ name ∷ sign s.Close ∷ []) (λ _ name _. units name ∷ []) ∷ way [] [] ∷ []
productions text r.TableConstraint =
    way (reserved w.Primary ∷ reserved w.Key ∷ sign s.Open ∷ rule r.Names ∷ sign s.Close ∷ []) (λ _ _ _ columns _. add_key columns)
    ∷ way (reserved w.Unique ∷ sign s.Open ∷ rule r.Names ∷ sign s.Close ∷ []) (λ _ _ columns _. add_unique columns)
    ∷ way (reserved w.Check ∷ sign s.Open ∷ rule r.Test ∷ sign s.Close ∷ []) (λ _ _ test _. add_check test)
    ∷ way (reserved w.Foreign ∷ reserved w.Key ∷ sign s.Open ∷ rule r.Names ∷ sign s.Close ∷ reserved w.References ∷ rule r.Object ∷ sign s.Open ∷ rule r.Names ∷ sign s.Close ∷ [])
    (λ _ _ _ columns _ _ parent _ parent_columns _. add_foreign columns parent parent_columns) ∷ []
-- DECLARE of variables, and of a cursor
productions text r.AfterDeclare =
    way (rule r.Declaration ∷ rule r.MoreDeclarations ∷ []) (λ first more. form.Declare (first ∷ more))
    ∷ way (name ∷ reserved w.Cursor ∷ rule r.CursorScope ∷ rule r.CursorStatic ∷ rule r.CursorReadOnly ∷ reserved w.For ∷ reserved w.Select ∷ rule r.Select ∷ [])
    (λ name _ _ _ _ _ _ select. form.DeclareCursor (units name) select) ∷ []
productions text r.Declaration =
    way (variable ∷ mark Declares ∷ rule r.OptionalAs ∷ rule r.Type ∷ rule r.Initial ∷ [])
    (λ name _ kind initial. record { name = units name; kind = kind; initial = initial }) ∷ []
productions text r.MoreDeclarations = way (sign s.Comma ∷ rule r.Declaration ∷ rule r.MoreDeclarations ∷ []) (λ _ first more. first ∷ more) ∷ way [] [] ∷ []
productions text r.OptionalAs = optional (reserved w.As) tt tt
productions text r.Initial = way (sign s.Equal ∷ rule r.Expr ∷ []) (λ _ value. Some value) ∷ way [] None ∷ []
productions text r.CursorScope = way (word v.Local ∷ []) (λ _. tt) ∷ way (word v.Global ∷ []) (λ _. tt) ∷ way [] tt ∷ []
productions text r.CursorStatic = optional (word v.Static) tt tt
productions text r.CursorReadOnly = optional (word v.ReadOnly) tt tt
productions text r.Next = optional (word v.Next) tt tt
productions text r.Variables = way (variable ∷ mark Uses ∷ rule r.MoreVariables ∷ []) (λ first more. units first ∷ more) ∷ []
productions text r.MoreVariables = way (sign s.Comma ∷ variable ∷ mark Uses ∷ rule r.MoreVariables ∷ []) (λ _ first more. units first ∷ more) ∷ way [] [] ∷ []
-- option = (XACT_ABORT|NOCOUNT|IMPLICIT_TRANSACTIONS|fixed) (ON|OFF)
--        | TRANSACTION ISOLATION LEVEL level | LOCK_TIMEOUT ["-"] number | TEXTSIZE ["-"] number
--        | DEADLOCK_PRIORITY (LOW|NORMAL|HIGH|["-"] number)
--        | DATEFIRST ["-"] number | ROWCOUNT ["-"] number | (DATEFORMAT|LANGUAGE) (name|text)
productions text r.AfterSet =
    way (variable ∷ mark Uses ∷ sign s.Equal ∷ rule r.Expr ∷ []) (λ name _ value. form.SetVariable (units name) value)
    ∷ way (word v.XactAbort ∷ rule r.OnOff ∷ []) (λ _ on. form.SetOption (option.XactAbort on))
    ∷ way (word v.NoCount ∷ rule r.OnOff ∷ []) (λ _ on. form.SetOption (option.NoCount on))
    ∷ way (word v.ImplicitTransactions ∷ rule r.OnOff ∷ []) (λ _ on. form.SetOption (option.ImplicitTransactions on))
    ∷ way (reserved w.Transaction ∷ word v.Isolation ∷ word v.Level ∷ rule r.Level ∷ []) (λ _ _ _ level. form.SetOption (option.Isolation level))
    ∷ way (word v.LockTimeout ∷ rule r.SignedNumber ∷ []) (λ _ n. form.SetOption (option.LockTimeout n))
    ∷ way (word v.TextSize ∷ rule r.SignedNumber ∷ []) (λ _ n. form.SetOption (option.TextSize n))
    ∷ way (word v.DeadlockPriority ∷ rule r.Priority ∷ []) (λ _ priority. form.SetOption (option.DeadlockPriority priority))
    ∷ way (word v.DateFirst ∷ rule r.SignedNumber ∷ []) (λ _ n. form.SetOption (option.DateFirst n))
    ∷ way (word v.RowCount ∷ rule r.SignedNumber ∷ []) (λ _ n. form.SetOption (option.RowCount n))
    ∷ way (word v.DateFormat ∷ rule r.OptionName ∷ []) (λ _ name. form.SetOption (option.DateFormat (is_date_order name)))
    ∷ way (word v.Language ∷ rule r.OptionName ∷ []) (λ _ name. form.SetOption (option.Language (is_language name)))
    -- fixed = ANSI_NULLS|ANSI_NULL_DFLT_ON|ANSI_PADDING|ANSI_WARNINGS|ARITHABORT
    --       | CONCAT_NULL_YIELDS_NULL|QUOTED_IDENTIFIER
    --       | CURSOR_CLOSE_ON_COMMIT|FMTONLY|NUMERIC_ROUNDABORT (own)
    ∷ map (λ fixed. way (lexeme (c.One (k.Fixed fixed)) ∷ rule r.OnOff ∷ []) (λ _ on. form.SetOption (option.Fixed fixed on))) fixed_options
productions text r.OnOff = way (reserved w.On ∷ []) (λ _. true) ∷ way (word v.Off ∷ []) (λ _. false) ∷ []
-- level = READ COMMITTED | READ UNCOMMITTED | REPEATABLE READ | SNAPSHOT | SERIALIZABLE
productions text r.Level =
    way (word v.Read ∷ rule r.AfterRead ∷ []) (λ _ level. level)
    ∷ way (word v.Repeatable ∷ word v.Read ∷ []) (λ _ _. level.RepeatableRead)
    ∷ way (word v.Snapshot ∷ []) (λ _. level.Snapshot)
    ∷ way (word v.Serializable ∷ []) (λ _. level.Serializable) ∷ []
productions text r.AfterRead = way (word v.Committed ∷ []) (λ _. level.ReadCommitted) ∷ way (word v.Uncommitted ∷ []) (λ _. level.ReadUncommitted) ∷ []
productions text r.SignedNumber = way (numeral ∷ []) (λ n. number n) ∷ way (sign s.Minus ∷ numeral ∷ []) (λ _ n. neg_ℤ (number n)) ∷ []
productions text r.Priority =
    way (word v.Low ∷ []) (λ _. priority.Low) ∷ way (word v.Normal ∷ []) (λ _. priority.Normal) ∷ way (word v.High ∷ []) (λ _. priority.High)
    ∷ way (rule r.SignedNumber ∷ []) (λ n. priority.Number n) ∷ []
productions text r.OptionName = way (name ∷ []) (λ name. units name) ∷ way (lexeme (c.One k.Text) ∷ []) (λ text. units text) ∷ []
productions text r.TransactionWord = way (reserved w.Tran ∷ []) (λ _. tt) ∷ way (reserved w.Transaction ∷ []) (λ _. tt) ∷ []
productions text r.TransactionEnd = way (rule r.TransactionWord ∷ rule r.OptionalName ∷ []) (λ _ name. name) ∷ way [] None ∷ []
productions text r.OptionalName = way (name ∷ []) (λ name. Some (units name)) ∷ way [] None ∷ []
-- EXEC, and argument = (["-"] number | text | NULL | variable) [OUTPUT|OUT]; the name of a parameter
-- is no use of a variable
productions text r.AfterExecute =
    way (variable ∷ mark Uses ∷ sign s.Equal ∷ rule r.Object ∷ rule r.Arguments ∷ []) (λ status _ name arguments. form.Execute (Some (units status)) name arguments)
    ∷ way (rule r.Object ∷ rule r.Arguments ∷ []) (λ name arguments. form.Execute None name arguments) ∷ []
productions text r.Arguments = way (rule r.Argument ∷ rule r.MoreArguments ∷ []) (λ first more. first ∷ more) ∷ way [] [] ∷ []
productions text r.MoreArguments = way (sign s.Comma ∷ rule r.Argument ∷ rule r.MoreArguments ∷ []) (λ _ first more. first ∷ more) ∷ way [] [] ∷ []
productions text r.Argument =
    way (variable ∷ rule r.AfterArgumentVariable ∷ []) (λ name after. after (units name))
    ∷ way (rule r.Constant ∷ rule r.Output ∷ []) (λ constant output. record { name = None; value = constant; output = output }) ∷ []
productions text r.AfterArgumentVariable =
    way (sign s.Equal ∷ rule r.ArgumentValue ∷ rule r.Output ∷ []) (λ _ given output name. record { name = Some name; value = given; output = output })
    ∷ way (mark Uses ∷ rule r.Output ∷ []) (λ output name. record { name = None; value = argument.Variable name; output = output }) ∷ []
productions text r.ArgumentValue = way (variable ∷ mark Uses ∷ []) (λ name. argument.Variable (units name)) ∷ way (rule r.Constant ∷ []) (λ constant. constant) ∷ []
productions text r.Constant =
    way (rule r.SignedNumber ∷ []) (λ n. argument.Constant (value.Whole n))
    ∷ way (lexeme (c.One k.Text) ∷ []) (λ text. argument.Constant (value.Text (units text)))
    ∷ way (reserved w.Null ∷ []) (λ _. argument.Constant value.Null) ∷ []
-- select = SELECT [DISTINCT] [TOP (number | "(" number ")")] list(item) [FROM from] [WHERE test]
--          [GROUP BY list(expr)] [HAVING test] [ORDER BY list(expr [ASC|DESC])]
productions text r.Select =
    way (rule r.Distinct ∷ rule r.Top ∷ rule r.Items ∷ rule r.From ∷ rule r.Where ∷ rule r.GroupBy ∷ rule r.Having ∷ rule r.OrderBy ∷ [])
    (λ distinct top items from filter groups having order. roll-Select (record {
      distinct = distinct;
      top = top;
      items = items;
      from = from;
      filter = filter;
      groups = groups;
      having = having;
      order = order;
    })) ∷ []
productions text r.Distinct = optional (reserved w.Distinct) true false
productions text r.Top = way (reserved w.Top ∷ rule r.TopNumber ∷ []) (λ _ n. Some n) ∷ way [] None ∷ []
productions text r.TopNumber = way (numeral ∷ []) (λ n. number n) ∷ way (sign s.Open ∷ numeral ∷ sign s.Close ∷ []) (λ _ n _. number n) ∷ []
-- item = "*" | name "." "*" | variable "=" expr | expr [[AS] name]
-- Items of the form variable "=" expr and others do not mix, so the first item tells the form of all.
productions text r.Items =
    way (variable ∷ mark Uses ∷ rule r.AfterFirstVariable ∷ []) (λ name after. after (units name))
    ∷ way (sign s.Star ∷ rule r.MoreItems ∷ []) (λ _ more. item.All ∷ more)
    ∷ way (rule r.NamedItem ∷ rule r.MoreItems ∷ []) (λ first more. first ∷ more)
    ∷ way (rule r.OtherItem ∷ rule r.MoreItems ∷ []) (λ first more. first ∷ more) ∷ []
productions text r.AfterFirstVariable =
    way (sign s.Equal ∷ rule r.Expr ∷ rule r.MoreAssigns ∷ []) (λ _ value more name. item.Assign name value ∷ more)
    ∷ way (rule r.AfterItemOperand ∷ rule r.MoreItems ∷ []) (λ after more name. after (expr.Variable name) ∷ more) ∷ []
productions text r.MoreAssigns =
    way (sign s.Comma ∷ variable ∷ mark Uses ∷ sign s.Equal ∷ rule r.Expr ∷ rule r.MoreAssigns ∷ []) (λ _ name _ value more. item.Assign (units name) value ∷ more)
    ∷ way [] [] ∷ []
productions text r.MoreItems = way (sign s.Comma ∷ rule r.Item ∷ rule r.MoreItems ∷ []) (λ _ first more. first ∷ more) ∷ way [] [] ∷ []
productions text r.Item =
    way (variable ∷ mark Uses ∷ rule r.AfterItemOperand ∷ []) (λ name after. after (expr.Variable (units name)))
    ∷ way (sign s.Star ∷ []) (λ _. item.All)
    ∷ way (rule r.NamedItem ∷ []) (λ named. named)
    ∷ way (rule r.OtherItem ∷ []) (λ other. other) ∷ []
productions text r.NamedItem =
    way (lexeme c.PlainName ∷ rule r.AfterItemName ∷ []) (λ name after. after (units name))
    ∷ map (λ a. way (lexeme (c.One (k.Function a)) ∷ rule (r.AfterItemFunction a) ∷ []) (λ name after. after (units name))) functions
productions text r.AfterItemName =
    way (sign s.Dot ∷ rule r.AfterItemDot ∷ []) (λ _ after. after)
    ∷ way (rule r.AfterItemOperand ∷ []) (λ after name. after (expr.Column None name)) ∷ []
productions text r.AfterItemDot =
    way (sign s.Star ∷ []) (λ _ table. item.AllOf table)
    ∷ way (name ∷ rule r.AfterItemOperand ∷ []) (λ name after table. after (expr.Column (Some table) (units name))) ∷ []
productions text (r.AfterItemFunction a) =
    way (rule (r.FunctionArguments a) ∷ rule r.AfterItemOperand ∷ []) (λ call after name. after call)
    ∷ way (rule r.AfterItemName ∷ []) (λ after. after) ∷ []
productions text r.OtherItem =
    way (rule r.OtherPrimary ∷ rule r.AfterItemOperand ∷ []) (λ operand after. after operand)
    ∷ way (sign s.Open ∷ mark Enter ∷ rule r.Enclosed ∷ sign s.Close ∷ mark Leave ∷ rule r.AfterItemOperand ∷ []) (λ _ operand _ after. after operand)
    ∷ way (rule r.AddSign ∷ rule r.MoreSigns ∷ rule r.Primary ∷ rule r.AfterItemOperand ∷ []) (λ first more operand after. after (with_signs (first ∷ more) operand)) ∷ []
productions text r.AfterItemOperand =
    way (rule r.MoreFactors ∷ rule r.MoreTerms ∷ rule r.Alias ∷ []) (λ factors terms alias first. item.Value (sum (product first factors) terms) alias) ∷ []
productions text r.Alias =
    way (reserved w.As ∷ name ∷ []) (λ _ name. Some (units name)) ∷ way (name ∷ []) (λ name. Some (units name)) ∷ way [] None ∷ []
-- from = ref { "," ref | [INNER] JOIN ref ON test | LEFT [OUTER] JOIN ref ON test | CROSS JOIN ref }
-- ref = object [[AS] name]
productions text r.From =
    way (reserved w.From ∷ rule r.TableRef ∷ rule r.Joins ∷ []) (λ _ first joins. Some (roll-FromClause (record { first = first; joins = joins }))) ∷ way [] None ∷ []
productions text r.TableRef = way (rule r.Object ∷ rule r.Alias ∷ []) (λ name alias. record { name = name; alias = alias }) ∷ []
productions text r.Joins =
    way (sign s.Comma ∷ rule r.TableRef ∷ rule r.Joins ∷ []) (λ _ table more. joined.Comma table ∷ more)
    ∷ way (reserved w.Join ∷ rule r.TableRef ∷ reserved w.On ∷ rule r.Test ∷ rule r.Joins ∷ []) (λ _ table _ on more. joined.Inner table on ∷ more)
    ∷ way (reserved w.Inner ∷ reserved w.Join ∷ rule r.TableRef ∷ reserved w.On ∷ rule r.Test ∷ rule r.Joins ∷ []) (λ _ _ table _ on more. joined.Inner table on ∷ more)
    ∷ way (reserved w.Left ∷ rule r.Outer ∷ reserved w.Join ∷ rule r.TableRef ∷ reserved w.On ∷ rule r.Test ∷ rule r.Joins ∷ [])
    (λ _ _ _ table _ on more. joined.Left table on ∷ more)
    ∷ way (reserved w.Cross ∷ reserved w.Join ∷ rule r.TableRef ∷ rule r.Joins ∷ []) (λ _ _ table more. joined.Cross table ∷ more)
    ∷ way [] [] ∷ []
productions text r.Outer = optional (reserved w.Outer) tt tt
productions text r.Where = way (reserved w.Where ∷ rule r.Test ∷ []) (λ _ test. Some test) ∷ way [] None ∷ []
productions text r.GroupBy = way (reserved w.Group ∷ reserved w.By ∷ rule r.Exprs ∷ []) (λ _ _ exprs. exprs) ∷ way [] [] ∷ []
productions text r.Having = way (reserved w.Having ∷ rule r.Test ∷ []) (λ _ test. Some test) ∷ way [] None ∷ []
productions text r.OrderBy = way (reserved w.Order ∷ reserved w.By ∷ rule r.OrderItem ∷ rule r.MoreOrderItems ∷ []) (λ _ _ first more. first ∷ more) ∷ way [] [] ∷ []
productions text r.OrderItem = way (rule r.Expr ∷ rule r.Direction ∷ []) (λ of descending. roll-OrderItem (record { expr = of; descending = descending })) ∷ []
productions text r.MoreOrderItems = way (sign s.Comma ∷ rule r.OrderItem ∷ rule r.MoreOrderItems ∷ []) (λ _ first more. first ∷ more) ∷ way [] [] ∷ []
productions text r.Direction = way (reserved w.Asc ∷ []) (λ _. false) ∷ way (reserved w.Desc ∷ []) (λ _. true) ∷ way [] false ∷ []
-- test = and-tests joined by OR; and-test = not-tests joined by AND; not-test = {NOT} basic
productions text r.Test = way (rule r.AndTest ∷ rule r.MoreOrs ∷ []) any_of ∷ []
productions text r.MoreOrs = way (reserved w.Or ∷ rule r.AndTest ∷ rule r.MoreOrs ∷ []) (λ _ first more. first ∷ more) ∷ way [] [] ∷ []
productions text r.AndTest = way (rule r.NotTest ∷ rule r.MoreAnds ∷ []) all_of ∷ []
productions text r.MoreAnds = way (reserved w.And ∷ rule r.NotTest ∷ rule r.MoreAnds ∷ []) (λ _ first more. first ∷ more) ∷ way [] [] ∷ []
productions text r.NotTest =
    way (reserved w.Not ∷ rule r.MoreNots ∷ rule r.Basic ∷ []) (λ _ more inner. with_nots (suc more) inner)
    ∷ way (rule r.Basic ∷ []) (λ inner. inner) ∷ []
productions text r.MoreNots = way (reserved w.Not ∷ rule r.MoreNots ∷ []) (λ _ more. suc more) ∷ way [] 0 ∷ []
-- basic = "(" test ")" | EXISTS "(" select ")" | expr compare expr | expr IS [NOT] NULL
--       | expr [NOT] BETWEEN expr AND expr | expr [NOT] IN "(" (select | list(expr)) ")"
-- A parenthesis at its front may open a test or an expression, and what it opens shows only later. So
-- Basic's parentheses are counted while it is open what they enclose: Opened n stands behind one with n
-- others open before it, Operand n behind an operand's first part in n parentheses, Compared n behind
-- the left expression in n, Tested n behind a test in n.
productions text r.Basic =
    way (reserved w.Exists ∷ mark Enter ∷ sign s.Open ∷ reserved w.Select ∷ rule r.Select ∷ sign s.Close ∷ mark Leave ∷ []) (λ _ _ _ select _. test.Exists select)
    ∷ way (sign s.Open ∷ mark Enter ∷ rule (r.Opened 0) ∷ []) (λ _ opened. opened)
    ∷ way (rule r.SimplePrimary ∷ rule (r.Operand 0) ∷ []) (λ operand after. after operand)
    ∷ way (rule r.AddSign ∷ rule r.MoreSigns ∷ rule r.Primary ∷ rule (r.Operand 0) ∷ []) (λ first more operand after. after (with_signs (first ∷ more) operand)) ∷ []
productions text (r.Opened n) =
    way (sign s.Open ∷ mark Enter ∷ rule (r.Opened (suc n)) ∷ []) (λ _ opened. opened)
    ∷ way (rule r.SimplePrimary ∷ rule (r.Operand (suc n)) ∷ []) (λ operand after. after operand)
    ∷ way (rule r.AddSign ∷ rule r.MoreSigns ∷ rule r.Primary ∷ rule (r.Operand (suc n)) ∷ []) (λ first more operand after. after (with_signs (first ∷ more) operand))
    ∷ way (reserved w.Select ∷ rule r.Select ∷ sign s.Close ∷ mark Leave ∷ rule (r.Operand n) ∷ []) (λ _ select _ after. after (expr.Query select))
    ∷ way (reserved w.Not ∷ rule r.MoreNots ∷ rule r.Basic ∷ rule r.MoreAnds ∷ rule r.MoreOrs ∷ sign s.Close ∷ mark Leave ∷ rule (r.Tested n) ∷ [])
    (λ _ more inner ands ors _ after. after (test.Parens (any_of (all_of (with_nots (suc more) inner) ands) ors)))
    ∷ way (reserved w.Exists ∷ mark Enter ∷ sign s.Open ∷ reserved w.Select ∷ rule r.Select ∷ sign s.Close ∷ mark Leave ∷ rule r.MoreAnds ∷ rule r.MoreOrs ∷ sign s.Close ∷ mark Leave ∷ rule (r.Tested n) ∷ [])
    (λ _ _ _ select _ ands ors _ after. after (test.Parens (any_of (all_of (test.Exists select) ands) ors))) ∷ []
productions text (r.Operand n) = way (rule r.MoreFactors ∷ rule r.MoreTerms ∷ rule (r.Compared n) ∷ []) (λ factors terms after first. after (sum (product first factors) terms)) ∷ []
productions text (r.Compared zero) = way (rule r.Comparison ∷ []) (λ comparison. comparison) ∷ []
productions text (r.Compared (suc n)) =
    way (sign s.Close ∷ mark Leave ∷ rule (r.Operand n) ∷ []) (λ _ after inner. after (expr.Parens inner))
    ∷ way (rule r.Comparison ∷ rule r.MoreAnds ∷ rule r.MoreOrs ∷ sign s.Close ∷ mark Leave ∷ rule (r.Tested n) ∷ [])
    (λ comparison ands ors _ after left. after (test.Parens (any_of (all_of (comparison left) ands) ors))) ∷ []
productions text (r.Tested zero) = way [] (λ inner. inner) ∷ []
productions text (r.Tested (suc n)) =
    way (rule r.MoreAnds ∷ rule r.MoreOrs ∷ sign s.Close ∷ mark Leave ∷ rule (r.Tested n) ∷ []) (λ ands ors _ after inner. after (test.Parens (any_of (all_of inner ands) ors))) ∷ []
productions text r.Comparison =
    way (rule r.CompareSign ∷ rule r.Expr ∷ []) (λ sign right left. test.Compare left sign right)
    ∷ way (reserved w.Is ∷ rule r.OptionalNot ∷ reserved w.Null ∷ []) (λ _ negated _ left. test.IsNull left negated)
    ∷ way (reserved w.Not ∷ rule r.Membership ∷ []) (λ _ membership left. membership left true)
    ∷ way (rule r.Membership ∷ []) (λ membership left. membership left false) ∷ []
productions text r.OptionalNot = optional (reserved w.Not) true false
productions text r.Membership =
    way (reserved w.Between ∷ rule r.Expr ∷ reserved w.And ∷ rule r.Expr ∷ []) (λ _ low _ high left negated. test.Between left negated low high)
    ∷ way (reserved w.In ∷ sign s.Open ∷ mark Enter ∷ rule r.InList ∷ sign s.Close ∷ mark Leave ∷ []) (λ _ _ within _. within) ∷ []
productions text r.InList =
    way (reserved w.Select ∷ rule r.Select ∷ []) (λ _ select left negated. test.InQuery left negated select)
    ∷ way (rule r.Exprs ∷ []) (λ exprs left negated. test.InList left negated exprs) ∷ []
-- compare = "=" | "<>" | "!=" | "<" | "<=" | ">" | ">="
productions text r.CompareSign =
    way (sign s.Equal ∷ []) (λ _. compare.Equal) ∷ way (sign s.NotEqual ∷ []) (λ _. compare.NotEqual)
    ∷ way (sign s.Less ∷ []) (λ _. compare.Less) ∷ way (sign s.LessEqual ∷ []) (λ _. compare.LessEqual)
    ∷ way (sign s.Greater ∷ []) (λ _. compare.Greater) ∷ way (sign s.GreaterEqual ∷ []) (λ _. compare.GreaterEqual) ∷ []
-- expr = products joined by + and - from the left
productions text r.Expr = way (rule r.Product ∷ rule r.MoreTerms ∷ []) sum ∷ []
productions text r.MoreTerms =
    way (rule r.AddSign ∷ rule r.Product ∷ rule r.MoreTerms ∷ []) (λ sign operand more. roll-Term (record { sign = sign; operand = operand }) ∷ more) ∷ way [] [] ∷ []
productions text r.AddSign = way (sign s.Plus ∷ []) (λ _. add.Plus) ∷ way (sign s.Minus ∷ []) (λ _. add.Minus) ∷ []
-- product = unaries joined by * / % from the left; unary = {"+"|"-"} primary
productions text r.Product = way (rule r.Unary ∷ rule r.MoreFactors ∷ []) product ∷ []
productions text r.MoreFactors =
    way (rule r.MultiplySign ∷ rule r.Unary ∷ rule r.MoreFactors ∷ []) (λ sign operand more. roll-Factor (record { sign = sign; operand = operand }) ∷ more) ∷ way [] [] ∷ []
productions text r.MultiplySign =
    way (sign s.Star ∷ []) (λ _. multiply.Times) ∷ way (sign s.Slash ∷ []) (λ _. multiply.Divide) ∷ way (sign s.Percent ∷ []) (λ _. multiply.Remainder) ∷ []
productions text r.Unary =
    way (rule r.AddSign ∷ rule r.MoreSigns ∷ rule r.Primary ∷ []) (λ first more operand. with_signs (first ∷ more) operand)
    ∷ way (rule r.Primary ∷ []) (λ operand. operand) ∷ []
productions text r.MoreSigns = way (rule r.AddSign ∷ rule r.MoreSigns ∷ []) (λ first more. first ∷ more) ∷ way [] [] ∷ []
-- primary = number | text | NULL | variable | system | [name "."] name | "(" expr ")" | "(" select ")"
--         | CASE {WHEN test THEN expr} [ELSE expr] END | CAST "(" expr AS type ")"
--         | ISNULL|NULLIF "(" expr "," expr ")" | COALESCE "(" list(expr) ")" | LEN "(" expr ")"
--         | COUNT "(" "*" ")" | (COUNT|SUM|AVG|MIN|MAX) "(" [DISTINCT] expr ")"
-- system = @@TRANCOUNT|@@ERROR|@@ROWCOUNT|@@FETCH_STATUS|XACT_STATE "(" ")"
--        | (ERROR_NUMBER|ERROR_SEVERITY|ERROR_STATE|ERROR_LINE|ERROR_MESSAGE|ERROR_PROCEDURE) "(" ")"
--        | @@VERSION|@@SERVERNAME|@@MAX_PRECISION|(SCHEMA_NAME|DB_NAME|USER_NAME) "(" ")"
productions text r.Primary =
    way (sign s.Open ∷ mark Enter ∷ rule r.Enclosed ∷ sign s.Close ∷ mark Leave ∷ []) (λ _ operand _. operand)
    ∷ way (rule r.SimplePrimary ∷ []) (λ operand. operand) ∷ []
productions text r.Enclosed = way (reserved w.Select ∷ rule r.Select ∷ []) (λ _ select. expr.Query select) ∷ way (rule r.Expr ∷ []) (λ inner. expr.Parens inner) ∷ []
productions text r.SimplePrimary =
    way (variable ∷ mark Uses ∷ []) (λ name. expr.Variable (units name))
    ∷ way (rule r.NamedPrimary ∷ []) (λ named. named)
    ∷ way (rule r.OtherPrimary ∷ []) (λ other. other) ∷ []
productions text r.OtherPrimary =
    way (numeral ∷ []) (λ n. expr.Number (number n))
    ∷ way (lexeme (c.One k.Text) ∷ []) (λ text. expr.Text (units text))
    ∷ way (reserved w.Null ∷ []) (λ _. expr.Null)
    ∷ way (lexeme (c.One k.TranCount) ∷ []) (λ _. expr.System system.TranCount)
    ∷ way (lexeme (c.One k.Error) ∷ []) (λ _. expr.System system.Error)
    ∷ way (lexeme (c.One k.RowCount) ∷ []) (λ _. expr.System system.RowCount)
    ∷ way (lexeme (c.One k.FetchStatus) ∷ []) (λ _. expr.System system.FetchStatus)
    ∷ way (lexeme (c.One k.Version) ∷ []) (λ _. expr.System system.Version)
    ∷ way (lexeme (c.One k.ServerName) ∷ []) (λ _. expr.System system.ServerName)
    ∷ way (lexeme (c.One k.MaxPrecision) ∷ []) (λ _. expr.System system.MaxPrecision)
    ∷ way (reserved w.Case ∷ mark Enter ∷ rule r.Arm ∷ rule r.MoreArms ∷ rule r.CaseElse ∷ reserved w.End ∷ mark Leave ∷ []) (λ _ first more other _. expr.Case (first ∷ more) other)
    ∷ way (reserved w.NullIf ∷ sign s.Open ∷ mark Enter ∷ rule r.Expr ∷ sign s.Comma ∷ rule r.Expr ∷ sign s.Close ∷ mark Leave ∷ []) (λ _ _ first _ second _. expr.NullIf first second)
    ∷ way (reserved w.Coalesce ∷ sign s.Open ∷ mark Enter ∷ rule r.Exprs ∷ sign s.Close ∷ mark Leave ∷ []) (λ _ _ exprs _. expr.Coalesce exprs) ∷ []
productions text r.NamedPrimary =
    way (lexeme c.PlainName ∷ rule r.AfterName ∷ []) (λ name after. after (units name))
    ∷ map (λ a. way (lexeme (c.One (k.Function a)) ∷ rule (r.AfterFunction a) ∷ []) (λ name after. after (units name))) functions
productions text r.AfterName = way (sign s.Dot ∷ name ∷ []) (λ _ name table. expr.Column (Some table) (units name)) ∷ way [] (λ name. expr.Column None name) ∷ []
productions text (r.AfterFunction a) = way (rule (r.FunctionArguments a) ∷ []) (λ call name. call) ∷ way (rule r.AfterName ∷ []) (λ after. after) ∷ []
productions text (r.FunctionArguments a) = function_arguments a
productions text r.CountArguments =
    way (sign s.Star ∷ []) (λ _. expr.CountRows) ∷ way (rule r.Distinct ∷ rule r.Expr ∷ []) (λ distinct operand. expr.Aggregate aggregate.Count distinct operand) ∷ []
productions text r.Arm = way (reserved w.When ∷ rule r.Test ∷ reserved w.Then ∷ rule r.Expr ∷ []) (λ _ test _ gives. roll-Arm (record { test = test; gives = gives })) ∷ []
productions text r.MoreArms = way (rule r.Arm ∷ rule r.MoreArms ∷ []) (λ first more. first ∷ more) ∷ way [] [] ∷ []
productions text r.CaseElse = way (reserved w.Else ∷ rule r.Expr ∷ []) (λ _ other. Some other) ∷ way [] None ∷ []
productions text r.Exprs = way (rule r.Expr ∷ rule r.MoreExprs ∷ []) (λ first more. first ∷ more) ∷ []
productions text r.MoreExprs = way (sign s.Comma ∷ rule r.Expr ∷ rule r.MoreExprs ∷ []) (λ _ first more. first ∷ more) ∷ way [] [] ∷ []
