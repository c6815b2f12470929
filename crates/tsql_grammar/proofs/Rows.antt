-- Texts and the trees that they are read as.
use Rattle.std.specs.Prelude.{◌≡◌, ℕ, true, false, List, [], ◌∷◌, map, Some, None, pos, codes, refl}
use Rattle.tsql_lexer.specs.declared.lexeme.Lexeme.{Lexeme}
use Rattle.tsql_lexer.specs.declared.lexeme.Lexeme.TheVariants as x
use Rattle.tsql_lexer.specs.declared.lexeme.Sign.{Sign}
use Rattle.tsql_lexer.specs.declared.lexeme.Sign.TheVariants as s
use Rattle.tsql_lexer.specs.declared.lexeme.Spanned.{Spanned}
use Rattle.tsql_tree.specs.declared.query.AddSign.TheVariants as add
use Rattle.tsql_tree.specs.declared.query.CompareSign.TheVariants as compare
use Rattle.tsql_tree.specs.declared.query.Expr.{Expr}
use Rattle.tsql_tree.specs.declared.query.Expr.TheVariants as expr
use Rattle.tsql_tree.specs.declared.query.Factor.{roll-Factor}
use Rattle.tsql_tree.specs.declared.query.MultiplySign.TheVariants as multiply
use Rattle.tsql_tree.specs.declared.query.SystemWord.TheVariants as system
use Rattle.tsql_tree.specs.declared.query.Term.{roll-Term}
use Rattle.tsql_tree.specs.declared.query.Test.TheVariants as test
use Rattle.tsql_tree.specs.declared.statement.Form.TheVariants as form
use Rattle.tsql_tree.specs.declared.statement.Statement.{roll-Statement}
use Rattle.tsql_grammar.specs.declared.rule.Rule.{Rule}
use Rattle.tsql_grammar.specs.declared.rule.Rule.TheVariants as r
use Rattle.tsql_grammar.specs.Language.{read_rule}
use Rattle.tsql_grammar.specs.Productions.{Tree}
use Rattle.tsql_grammar.specs.Terminals.{terminals}
use Rattle.tsql_grammar.specs.Words.{system_kind, word_kind}
use Rattle.grammar_laws.specs.Descent.{read}

-- lexemes that stand in line 1
abbrev text : List Lexeme → List Spanned
text lexemes = map (λ l. record { lexeme = l; start = 0; end = 0; line = 1 }) lexemes

abbrev IsRead : (a : Rule) → List Lexeme → Tree a → Type 0
IsRead a lexemes tree = read_rule [] a (terminals (text lexemes)) ≡ Some (tree, [])

abbrev number : ℕ → Lexeme
number n = x.Number (pos n)

abbrev sign : Sign → Lexeme
sign a = x.Sign a

abbrev one : Expr
one = expr.Number (pos 1)

-- 1 + 2 * 3 - 4: a chain of three, whose second is a product
sums : IsRead r.Expr (number 1 ∷ sign s.Plus ∷ number 2 ∷ sign s.Star ∷ number 3 ∷ sign s.Minus ∷ number 4 ∷ [])
    (expr.Sum one (roll-Term (record { sign = add.Plus; operand = expr.Product (expr.Number (pos 2)) (roll-Factor (record { sign = multiply.Times; operand = expr.Number (pos 3) }) ∷ []) })
    ∷ roll-Term (record { sign = add.Minus; operand = expr.Number (pos 4) }) ∷ []))
unfolding read word_kind
sums = refl

-- - - 1
signs : IsRead r.Expr (sign s.Minus ∷ sign s.Minus ∷ number 1 ∷ []) (expr.Signed (add.Minus ∷ add.Minus ∷ []) one)
unfolding read word_kind
signs = refl

-- len ( dbo . len )
functions : IsRead r.Expr (x.Word (codes "len") ∷ sign s.Open ∷ x.Word (codes "dbo") ∷ sign s.Dot ∷ x.Word (codes "len") ∷ sign s.Close ∷ [])
    (expr.Length (expr.Column (Some (codes "dbo")) (codes "len")))
unfolding read word_kind
functions = refl

-- schema_name ( ), and the column of that name
named_or_called : IsRead r.Expr (x.Word (codes "schema_name") ∷ sign s.Open ∷ sign s.Close ∷ []) (expr.System system.SchemaName)
unfolding read word_kind
named_or_called = refl

called_alone : IsRead r.Expr (x.Word (codes "schema_name") ∷ []) (expr.Column None (codes "schema_name"))
unfolding read word_kind
called_alone = refl

-- @@Version
versions : IsRead r.Expr (x.SystemName (codes "@@Version") ∷ []) (expr.System system.Version)
unfolding read system_kind
versions = refl

-- ( ( 1 ) = 1 ): the outer parentheses enclose a test, the inner ones an expression
parentheses : IsRead r.Test (sign s.Open ∷ sign s.Open ∷ number 1 ∷ sign s.Close ∷ sign s.Equal ∷ number 1 ∷ sign s.Close ∷ [])
    (test.Parens (test.Compare (expr.Parens one) compare.Equal one))
unfolding read word_kind
parentheses = refl

-- not not 1 = 1 or 1 <> 1 and 1 is not null
connectives : IsRead r.Test (x.Word (codes "not") ∷ x.Word (codes "NOT") ∷ number 1 ∷ sign s.Equal ∷ number 1 ∷ x.Word (codes "Or") ∷ number 1 ∷ sign s.NotEqual ∷ number 1
    ∷ x.Word (codes "and") ∷ number 1 ∷ x.Word (codes "is") ∷ x.Word (codes "not") ∷ x.Word (codes "null") ∷ [])
    (test.Or (test.Not 2 (test.Compare one compare.Equal one)) (test.And (test.Compare one compare.NotEqual one) (test.IsNull one true ∷ []) ∷ []))
unfolding read word_kind
connectives = refl

-- if 1 = 1 if 1 = 1 break ; else continue: ELSE belongs to the inner IF
nearest_else : IsRead (r.Statement (record { in_while = true; in_catch = false }))
    (x.Word (codes "if") ∷ number 1 ∷ sign s.Equal ∷ number 1 ∷ x.Word (codes "if") ∷ number 1 ∷ sign s.Equal ∷ number 1 ∷ x.Word (codes "break") ∷ sign s.Semicolon ∷ x.Word (codes "else") ∷ x.Word (codes "continue") ∷ [])
    (roll-Statement (record {
      line = 1;
      form = form.If (test.Compare one compare.Equal one)
          (roll-Statement (record {
            line = 1;
            form = form.If (test.Compare one compare.Equal one)
                (roll-Statement (record { line = 1; form = form.Break })) (Some (roll-Statement (record { line = 1; form = form.Continue })));
          })) None;
    }))
unfolding read word_kind
nearest_else = refl
