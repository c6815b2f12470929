-- The grammar is predictive, productive and ranked, so the laws of grammars hold of it.
use Rattle.std.specs.Prelude.{◌≡◌, ℕ, zero, suc, ◌+◌, ◌*◌, ◌==◌, Bool, true, false, not, List, [], ◌∷◌, Option, Some, None, pos, codes, if◌then◌else◌, refl}
use Rattle.std.proofs.Common.{ap, sym, ◌∙◌, arith, inl, inr}
use Rattle.std.proofs.lemmas.Bool.Decides.{nat_tests}
use Rattle.tsql_lexer.specs.declared.lexeme.Lexeme.{Lexeme}
use Rattle.tsql_lexer.specs.declared.lexeme.Lexeme.TheVariants as x
use Rattle.tsql_lexer.specs.declared.lexeme.Sign.TheVariants as s
use Rattle.tsql_tree.specs.declared.option.FixedOption.TheVariants as o
use Rattle.tsql_grammar.specs.declared.kind.Kind.{Kind}
use Rattle.tsql_grammar.specs.declared.kind.Kind.TheVariants as k
use Rattle.tsql_grammar.specs.declared.kind.Function.TheVariants as f
use Rattle.tsql_grammar.specs.declared.kind.Word.TheVariants as v
use Rattle.tsql_grammar.specs.declared.kind.Reserved.TheVariants as w
use Rattle.tsql_grammar.specs.declared.rule.Around.{Around}
use Rattle.tsql_grammar.specs.declared.rule.Class.{Class}
use Rattle.tsql_grammar.specs.declared.rule.Class.TheVariants as c
use Rattle.tsql_grammar.specs.declared.rule.Mark.{Mark}
use Rattle.tsql_grammar.specs.declared.rule.Rule.{Rule}
use Rattle.tsql_grammar.specs.declared.rule.Rule.TheVariants as r
use Rattle.tsql_grammar.specs.Kinds.{kinds, kind_place, same_kind}
use Rattle.tsql_grammar.specs.Words.{word_kind, system_kind, spellings}
use Rattle.tsql_grammar.specs.Terminals.{Terminal, kind, admits}
use Rattle.tsql_grammar.specs.Lookahead.{binding, first}
use Rattle.tsql_grammar.specs.Noted.{Noted}
use Rattle.tsql_grammar.specs.Language.{language, top}
use Rattle.tsql_grammar.proofs.RuleTests.{ok}
use Rattle.grammar_laws.specs.Grammar.{Grammar}
use Rattle.grammar_laws.specs.Lookahead.{Lookahead}
use Rattle.grammar_laws.specs.Alternatives.{AlternativeOf, symbols_of, grammar_of, lookahead_of, may_take}
use Rattle.grammar_laws.specs.Predictive.{IsPredictive, IsProductive, IsRanked, total}
use Rattle.grammar_laws.proofs.Booleans.{implies, implied}
use Rattle.grammar_laws.proofs.KindTests as tests

-- the members of a list by their places
abbrev nth : List Kind → ℕ → Option Kind
nth [] n = None
nth (a ∷ more) zero = Some a
nth (a ∷ more) (suc n) = nth more n

at_place : (a : Kind) → nth kinds (kind_place a) ≡ Some a
at_place (k.Sign s.Open) = refl
at_place (k.Sign _) = refl
at_place (k.Fixed o.AnsiNulls) = refl
at_place (k.Fixed _) = refl
at_place (k.Function f.Cast) = refl
at_place (k.Function _) = refl
at_place (k.Word v.Output) = refl
at_place (k.Word _) = refl
at_place (k.Reserved w.And) = refl
at_place (k.Reserved _) = refl
at_place _ = refl

has_nth : (xs : List Kind) (n : ℕ) (a : Kind) → nth xs n ≡ Some a → tests.Has xs a
has_nth [] n a e = cc
has_nth (b ∷ more) zero a e = let same : b ≡ a = cc in inl same
has_nth (b ∷ more) (suc n) a e = inr (has_nth more n a e)

-- every kind is among the kinds
pub known : (a : Kind) → tests.Has kinds a
known a = has_nth kinds (kind_place a) a (at_place a)

equal : (m n : ℕ) → (m == n) ≡ true → m ≡ n
equal m n e = grind (arith, nat_tests)

-- kinds that are the same are one
pub same_so : (a b : Kind) → same_kind a b ≡ true → a ≡ b
same_so a b e =
    let places : Some a ≡ Some b = sym (at_place a) ∙ ap (nth kinds) (equal (kind_place a) (kind_place b) e) ∙ at_place b in
    cc

module _ (text : List ℕ) where
  abbrev pub G : Grammar Terminal Class Rule Mark Noted
  G = grammar_of (language text)

  abbrev pub A : Lookahead Terminal Class Rule G.Production
  A = lookahead_of (language text)

  pub predictive : IsPredictive G A
  predictive = tests.predictive (language text) kinds k.Number known (ok text)

-- a spelling of a kind
abbrev first_spelling : List (List ℕ × Kind) → Kind → List ℕ
first_spelling [] a = []
first_spelling (row ∷ more) a = if same_kind row.1 a then row.0 else first_spelling more a

abbrev example : Kind → Lexeme
example k.Number = x.Number (pos 1)
example k.Text = x.Text []
example k.Variable = x.Variable (codes "@a")
example k.Name = x.Word (codes "a")
example k.Dbo = x.Word (codes "dbo")
example k.OtherSystem = x.SystemName (codes "@@a")
example k.TranCount = x.SystemName (codes "@@TRANCOUNT")
example k.Error = x.SystemName (codes "@@ERROR")
example k.RowCount = x.SystemName (codes "@@ROWCOUNT")
example k.FetchStatus = x.SystemName (codes "@@FETCH_STATUS")
example k.Version = x.SystemName (codes "@@VERSION")
example k.ServerName = x.SystemName (codes "@@SERVERNAME")
example k.MaxPrecision = x.SystemName (codes "@@MAX_PRECISION")
example k.BeforeElse = x.Sign s.Semicolon
example (k.Sign a) = x.Sign a
example a = x.Word (first_spelling spellings a)

abbrev terminal : Kind → Terminal
terminal a = record { spanned = record { lexeme = example a; start = 0; end = 0; line = 1 }; before_else = same_kind a k.BeforeElse }

-- each kind has a lexeme
examples_ok : tests.each (λ a. same_kind a (kind (terminal a))) kinds ≡ true
unfolding word_kind system_kind
examples_ok = refl

abbrev sample : Class → Terminal
sample (c.One a) = terminal a
sample c.Name = terminal k.Name
sample c.OtherName = terminal k.Name
sample c.PlainName = terminal k.Name
sample c.Semicolon = terminal (k.Sign s.Semicolon)

sample_admitted : (a : Class) → admits a (kind (sample a)) ≡ true
unfolding word_kind
sample_admitted (c.One a) = tests.each_so (λ a. same_kind a (kind (terminal a))) kinds a (known a) examples_ok
sample_admitted c.Name = refl
sample_admitted c.OtherName = refl
sample_admitted c.PlainName = refl
sample_admitted c.Semicolon = refl

-- what begins an ELSE is binding
else_ok : (a : Around) → tests.each (λ a'. implies (not (binding (c.One a'))) (not (first (r.Else a) (kind (terminal a'))))) kinds ≡ true
unfolding word_kind system_kind
else_ok a = refl

not_binding : (b : Bool) → b ≡ false → not b ≡ true
not_binding b e = rw e

sample_no_else : (a : Around) (b : Class) → binding b ≡ false → not (first (r.Else a) (kind (sample b))) ≡ true
unfolding word_kind
sample_no_else a (c.One a') e =
    implied _ _ (tests.each_so (λ a'. implies (not (binding (c.One a'))) (not (first (r.Else a) (kind (terminal a'))))) kinds a' (known a') (else_ok a)) (not_binding _ e)
sample_no_else a c.Name e = refl
sample_no_else a c.OtherName e = refl
sample_no_else a c.PlainName e = refl
sample_no_else a c.Semicolon e = refl

-- a shortest alternative of each rule
abbrev shortest : (text : List ℕ) (a : Rule) → AlternativeOf (language text) a
shortest text r.Batch = Some (Some (Some None))
shortest text r.MoreEvents = Some None
shortest text r.Params = Some None
shortest text r.MoreParams = Some None
shortest text r.Output = Some None
shortest text r.AfterDbo = Some None
shortest text r.MoreNames = Some None
shortest text (r.Body a) = Some (Some None)
shortest text (r.Statement a) = Some None
shortest text (r.OtherStatement a) = Some (Some (Some (Some (Some (Some (Some (Some (Some (Some (Some (Some (Some (Some (Some (Some (Some None))))))))))))))))
shortest text r.Semicolons = Some None
shortest text r.OptionalSemicolon = Some None
shortest text (r.Else a) = Some (Some None)
shortest text r.OptionalExpr = Some None
shortest text r.Into = Some None
shortest text r.AfterInsertTable = Some None
shortest text r.InsertRows = Some None
shortest text r.MoreValueRows = Some None
shortest text r.MoreAssignments = Some None
shortest text r.DeleteFrom = Some None
shortest text r.MoreElements = Some None
shortest text r.ColumnTraits = Some (Some (Some (Some None)))
shortest text r.ColumnConstraint = Some None
shortest text r.ReferencedColumn = Some None
shortest text r.TableConstraint = Some None
shortest text r.MoreDeclarations = Some None
shortest text r.OptionalAs = Some None
shortest text r.Initial = Some None
shortest text r.CursorScope = Some (Some None)
shortest text r.CursorStatic = Some None
shortest text r.CursorReadOnly = Some None
shortest text r.AfterSet = Some None
shortest text r.Level = Some (Some None)
shortest text r.TransactionEnd = Some None
shortest text r.OptionalName = Some None
shortest text r.Next = Some None
shortest text r.MoreVariables = Some None
shortest text r.AfterExecute = Some None
shortest text r.Arguments = Some None
shortest text r.MoreArguments = Some None
shortest text r.Argument = Some None
shortest text r.AfterArgumentVariable = Some None
shortest text r.Constant = Some None
shortest text r.Distinct = Some None
shortest text r.Top = Some None
shortest text r.Items = Some None
shortest text r.AfterFirstVariable = Some None
shortest text r.MoreAssigns = Some None
shortest text r.Item = Some None
shortest text r.MoreItems = Some None
shortest text (r.AfterItemFunction a) = Some None
shortest text r.Alias = Some (Some None)
shortest text r.From = Some None
shortest text r.Joins = Some (Some (Some (Some (Some None))))
shortest text r.Outer = Some None
shortest text r.Where = Some None
shortest text r.GroupBy = Some None
shortest text r.Having = Some None
shortest text r.OrderBy = Some None
shortest text r.MoreOrderItems = Some None
shortest text r.Direction = Some (Some None)
shortest text r.MoreOrs = Some None
shortest text r.MoreAnds = Some None
shortest text r.NotTest = Some None
shortest text r.MoreNots = Some None
shortest text r.Basic = Some (Some None)
shortest text (r.Opened n) = Some None
shortest text (r.Compared zero) = None
shortest text (r.Compared (suc n)) = None
shortest text (r.Tested zero) = None
shortest text (r.Tested (suc n)) = None
shortest text r.Comparison = Some None
shortest text r.OptionalNot = Some None
shortest text r.Membership = Some None
shortest text r.InList = Some None
shortest text r.MoreTerms = Some None
shortest text r.MoreFactors = Some None
shortest text r.Unary = Some None
shortest text r.MoreSigns = Some None
shortest text r.Primary = Some None
shortest text r.Enclosed = Some None
shortest text r.AfterName = Some None
shortest text (r.AfterFunction a) = Some None
shortest text r.MoreArms = Some None
shortest text r.CaseElse = Some None
shortest text r.MoreExprs = Some None
shortest text (r.FunctionArguments f.Cast) = None
shortest text (r.FunctionArguments _) = None
shortest text _ = None

-- the length of the text that the shortest alternatives give
abbrev size : Rule → ℕ
size r.Batch = 1
size r.AfterFirstCreate = 8
size r.Definition = 10
size r.AfterCreate = 8
size r.Procedure = 7
size r.Trigger = 14
size r.TriggerTime = 2
size r.Event = 2
size r.MoreEvents = 1
size r.Params = 1
size r.Param = 6
size r.MoreParams = 1
size r.Output = 1
size r.Object = 2
size r.AfterDbo = 1
size r.Type = 2
size r.Names = 3
size r.MoreNames = 1
size (r.Body a) = 1
size (r.Statement a) = 4
size (r.OtherStatement a) = 3
size r.Semicolons = 1
size r.OptionalSemicolon = 1
size (r.AfterBegin a) = 4
size (r.Else a) = 1
size (r.ThrowArguments a) = 30
size r.OptionalExpr = 1
size r.Into = 1
size r.AfterInsertTable = 14
size r.InsertRows = 13
size r.ValueRow = 14
size r.MoreValueRows = 1
size r.Assignment = 12
size r.MoreAssignments = 1
size r.DeleteFrom = 1
size r.DropKind = 2
size r.Table = 12
size r.Element = 5
size r.MoreElements = 1
size r.ColumnTraits = 1
size r.ColumnConstraint = 2
size r.ReferencedColumn = 1
size r.TableConstraint = 7
size r.AfterDeclare = 9
size r.Declaration = 7
size r.MoreDeclarations = 1
size r.OptionalAs = 1
size r.Initial = 1
size r.CursorScope = 1
size r.CursorStatic = 1
size r.CursorReadOnly = 1
size r.AfterSet = 4
size r.OnOff = 2
size r.Level = 2
size r.AfterRead = 2
size r.SignedNumber = 2
size r.Priority = 2
size r.OptionName = 2
size r.TransactionWord = 2
size r.TransactionEnd = 1
size r.OptionalName = 1
size r.Next = 1
size r.Variables = 4
size r.MoreVariables = 1
size r.AfterExecute = 4
size r.Arguments = 1
size r.MoreArguments = 1
size r.Argument = 4
size r.AfterArgumentVariable = 3
size r.ArgumentValue = 3
size r.Constant = 2
size r.Select = 11
size r.Distinct = 1
size r.Top = 1
size r.TopNumber = 2
size r.Items = 3
size r.AfterFirstVariable = 6
size r.MoreAssigns = 1
size r.Item = 2
size r.MoreItems = 1
size r.NamedItem = 6
size r.AfterItemName = 4
size r.AfterItemDot = 2
size (r.AfterItemFunction a) = 5
size r.OtherItem = 7
size r.AfterItemOperand = 4
size r.Alias = 1
size r.From = 1
size r.TableRef = 4
size r.Joins = 1
size r.Outer = 1
size r.Where = 1
size r.GroupBy = 1
size r.Having = 1
size r.OrderBy = 1
size r.OrderItem = 11
size r.MoreOrderItems = 1
size r.Direction = 1
size r.Test = 17
size r.MoreOrs = 1
size r.AndTest = 15
size r.MoreAnds = 1
size r.NotTest = 13
size r.MoreNots = 1
size r.Basic = 12
size (r.Opened n) = 18 + 6 * n
size (r.Operand n) = 8 + 6 * n
size (r.Compared n) = 5 + 6 * n
size (r.Tested n) = 1 + 5 * n
size r.Comparison = 4
size r.CompareSign = 2
size r.OptionalNot = 1
size r.Membership = 18
size r.InList = 12
size r.Expr = 9
size r.MoreTerms = 1
size r.AddSign = 2
size r.Product = 7
size r.MoreFactors = 1
size r.MultiplySign = 2
size r.Unary = 5
size r.MoreSigns = 1
size r.Primary = 4
size r.SimplePrimary = 3
size r.OtherPrimary = 2
size r.Enclosed = 10
size r.NamedPrimary = 3
size r.AfterName = 1
size (r.AfterFunction a) = 2
size (r.FunctionArguments f.Cast) = 17
size (r.FunctionArguments f.IsNull) = 24
size (r.FunctionArguments f.Len) = 14
size (r.FunctionArguments f.Count) = 7
size (r.FunctionArguments f.Sum) = 15
size (r.FunctionArguments f.Avg) = 15
size (r.FunctionArguments f.Min) = 15
size (r.FunctionArguments f.Max) = 15
size (r.FunctionArguments f.XactState) = 5
size (r.FunctionArguments f.ErrorNumber) = 5
size (r.FunctionArguments f.ErrorSeverity) = 5
size (r.FunctionArguments f.ErrorState) = 5
size (r.FunctionArguments f.ErrorLine) = 5
size (r.FunctionArguments f.ErrorMessage) = 5
size (r.FunctionArguments f.ErrorProcedure) = 5
size (r.FunctionArguments f.SchemaName) = 5
size (r.FunctionArguments f.DatabaseName) = 5
size (r.FunctionArguments f.UserName) = 5
size r.CountArguments = 2
size r.Arm = 29
size r.MoreArms = 1
size r.CaseElse = 1
size r.Exprs = 11
size r.MoreExprs = 1

size_is : (text : List ℕ) (a : Rule) → size a ≡ suc (total size (symbols_of (language text) a (shortest text a)))
size_is text (r.Opened n) = omega arith
size_is text (r.Operand n) = omega arith
size_is text (r.Compared zero) = omega arith
size_is text (r.Compared (suc n)) = omega arith
size_is text (r.Tested zero) = omega arith
size_is text (r.Tested (suc n)) = omega arith
size_is text (r.FunctionArguments f.Cast) = refl
size_is text (r.FunctionArguments _) = refl
size_is text r.Batch = refl
size_is text _ = refl

unbound : (text : List ℕ) (a : Rule) → tests.unbound (language text) (symbols_of (language text) a (shortest text a)) ≡ true
unbound text (r.Opened n) = refl
unbound text (r.Operand n) = refl
unbound text (r.Compared zero) = refl
unbound text (r.Compared (suc n)) = refl
unbound text (r.Tested zero) = refl
unbound text (r.Tested (suc n)) = refl
unbound text (r.FunctionArguments f.Cast) = refl
unbound text (r.FunctionArguments _) = refl
unbound text r.Batch = refl
unbound text _ = refl

allowed : (text : List ℕ) (a : Rule) (b : Class) → binding b ≡ false → may_take (language text) a (shortest text a) (Some (kind (sample b))) ≡ true
unfolding word_kind
allowed text (r.Else a) b e = sample_no_else a b e
allowed text r.Batch b e = refl
allowed text _ b e = refl

pub productive : (text : List ℕ) → IsProductive (grammar_of (language text)) (lookahead_of (language text))
productive text = record {
  sample = sample;
  sample_admitted = sample_admitted;
  shortest = shortest text;
  size = size;
  size_is = size_is text;
  unbound = λ a. tests.unbound_so (language text) (symbols_of (language text) a (shortest text a)) (unbound text a);
  allowed = allowed text;
  allowed_last = λ a. refl;
}

-- the rank of each rule: above those that may stand before its first lexeme
abbrev pub rank : Rule → ℕ
rank r.Batch = 2
rank r.AfterFirstCreate = 2
rank r.AfterCreate = 2
rank r.Params = 2
rank (r.Body a) = 3
rank (r.Statement a) = 2
rank (r.AfterBegin a) = 3
rank (r.ThrowArguments a) = 7
rank r.OptionalExpr = 7
rank r.AfterInsertTable = 2
rank r.Element = 2
rank r.ColumnTraits = 2
rank r.AfterDeclare = 2
rank r.Priority = 2
rank r.TransactionEnd = 2
rank r.AfterExecute = 2
rank r.Arguments = 4
rank r.Argument = 3
rank r.AfterArgumentVariable = 2
rank r.ArgumentValue = 3
rank r.Constant = 2
rank r.Select = 4
rank r.Items = 3
rank r.AfterFirstVariable = 4
rank r.Item = 3
rank r.AfterItemName = 4
rank (r.AfterItemFunction a) = 5
rank r.OtherItem = 2
rank r.AfterItemOperand = 3
rank r.TableRef = 2
rank r.OrderItem = 7
rank r.Test = 6
rank r.AndTest = 5
rank r.NotTest = 4
rank r.Basic = 3
rank (r.Opened n) = 3
rank (r.Operand n) = 4
rank (r.Compared n) = 3
rank (r.Tested n) = 2
rank r.Comparison = 2
rank r.InList = 8
rank r.Expr = 6
rank r.MoreTerms = 2
rank r.Product = 5
rank r.MoreFactors = 2
rank r.Unary = 4
rank r.MoreSigns = 2
rank r.Primary = 3
rank r.SimplePrimary = 2
rank r.Enclosed = 7
rank (r.AfterFunction a) = 2
rank r.CountArguments = 7
rank r.MoreArms = 2
rank r.Exprs = 7
rank _ = 1

abbrev IsRankOk : List ℕ → Rule → Type 0
IsRankOk text a = tests.rank_ok (language text) rank top a ≡ true

statement_rank : (text : List ℕ) (x y : Bool) → IsRankOk text (r.OtherStatement (record { in_while = x; in_catch = y }))
statement_rank text true y = refl
statement_rank text false y = refl

throw_rank : (text : List ℕ) (x y : Bool) → IsRankOk text (r.ThrowArguments (record { in_while = x; in_catch = y }))
throw_rank text x true = refl
throw_rank text x false = refl

rank_ok : (text : List ℕ) (a : Rule) → IsRankOk text a
rank_ok text (r.OtherStatement a) = statement_rank text a.in_while a.in_catch
rank_ok text (r.ThrowArguments a) = throw_rank text a.in_while a.in_catch
rank_ok text (r.Compared zero) = refl
rank_ok text (r.Compared (suc n)) = refl
rank_ok text (r.Tested zero) = refl
rank_ok text (r.Tested (suc n)) = refl
rank_ok text (r.FunctionArguments f.Cast) = refl
rank_ok text (r.FunctionArguments _) = refl
rank_ok text r.Batch = refl
rank_ok text _ = refl

pub ranked : (text : List ℕ) → IsRanked (grammar_of (language text)) (lookahead_of (language text)) rank top
ranked text = tests.ranked (language text) rank top (rank_ok text)
