-- What tests and expressions come to before the commonest operands, each step by computing.
use Rattle.std.specs.Prelude.{[], ◌∷◌, refl}
use Rattle.tsql_lexer.specs.declared.lexeme.Sign.TheVariants as s
use Rattle.tsql_grammar.specs.declared.kind.Kind.TheVariants as k
use Rattle.tsql_grammar.specs.declared.kind.Reserved.TheVariants as w
use Rattle.tsql_grammar.specs.declared.rule.Class.TheVariants as c
use Rattle.tsql_grammar.specs.declared.rule.Mark.TheVariants.{Enter, Leave, Uses}
use Rattle.tsql_grammar.specs.declared.rule.Rule.TheVariants as r
use Rattle.tsql_recognizer.specs.Stack.{ComesTo}
use Rattle.grammar_laws.specs.Grammar.Symbol.{lexeme, rule, mark}

pub expr_number : ComesTo k.Number r.Expr (lexeme (c.One k.Number) ∷ rule r.MoreFactors ∷ rule r.MoreTerms ∷ [])
expr_number = (5, (_, refl, (_, refl, (_, refl, (_, refl, (_, refl, (_, refl, refl)))))))

pub expr_text : ComesTo k.Text r.Expr (lexeme (c.One k.Text) ∷ rule r.MoreFactors ∷ rule r.MoreTerms ∷ [])
expr_text = (5, (_, refl, (_, refl, (_, refl, (_, refl, (_, refl, (_, refl, refl)))))))

pub expr_null : ComesTo (k.Reserved w.Null) r.Expr (lexeme (c.One (k.Reserved w.Null)) ∷ rule r.MoreFactors ∷ rule r.MoreTerms ∷ [])
expr_null = (5, (_, refl, (_, refl, (_, refl, (_, refl, (_, refl, (_, refl, refl)))))))

pub expr_name : ComesTo k.Name r.Expr (lexeme c.PlainName ∷ rule r.AfterName ∷ rule r.MoreFactors ∷ rule r.MoreTerms ∷ [])
expr_name = (5, (_, refl, (_, refl, (_, refl, (_, refl, (_, refl, (_, refl, refl)))))))

pub expr_variable : ComesTo k.Variable r.Expr (lexeme (c.One k.Variable) ∷ mark Uses ∷ rule r.MoreFactors ∷ rule r.MoreTerms ∷ [])
expr_variable = (4, (_, refl, (_, refl, (_, refl, (_, refl, (_, refl, refl))))))

pub expr_open : ComesTo (k.Sign s.Open) r.Expr (lexeme (c.One (k.Sign s.Open)) ∷ mark Enter ∷ rule r.Enclosed ∷ lexeme (c.One (k.Sign s.Close)) ∷ mark Leave ∷ rule r.MoreFactors ∷ rule r.MoreTerms ∷ [])
expr_open = (3, (_, refl, (_, refl, (_, refl, (_, refl, refl)))))

pub product_number : ComesTo k.Number r.Product (lexeme (c.One k.Number) ∷ rule r.MoreFactors ∷ [])
product_number = (4, (_, refl, (_, refl, (_, refl, (_, refl, (_, refl, refl))))))

pub product_text : ComesTo k.Text r.Product (lexeme (c.One k.Text) ∷ rule r.MoreFactors ∷ [])
product_text = (4, (_, refl, (_, refl, (_, refl, (_, refl, (_, refl, refl))))))

pub product_null : ComesTo (k.Reserved w.Null) r.Product (lexeme (c.One (k.Reserved w.Null)) ∷ rule r.MoreFactors ∷ [])
product_null = (4, (_, refl, (_, refl, (_, refl, (_, refl, (_, refl, refl))))))

pub product_name : ComesTo k.Name r.Product (lexeme c.PlainName ∷ rule r.AfterName ∷ rule r.MoreFactors ∷ [])
product_name = (4, (_, refl, (_, refl, (_, refl, (_, refl, (_, refl, refl))))))

pub product_variable : ComesTo k.Variable r.Product (lexeme (c.One k.Variable) ∷ mark Uses ∷ rule r.MoreFactors ∷ [])
product_variable = (3, (_, refl, (_, refl, (_, refl, (_, refl, refl)))))

pub product_open : ComesTo (k.Sign s.Open) r.Product (lexeme (c.One (k.Sign s.Open)) ∷ mark Enter ∷ rule r.Enclosed ∷ lexeme (c.One (k.Sign s.Close)) ∷ mark Leave ∷ rule r.MoreFactors ∷ [])
product_open = (2, (_, refl, (_, refl, (_, refl, refl))))

pub unary_number : ComesTo k.Number r.Unary (lexeme (c.One k.Number) ∷ [])
unary_number = (3, (_, refl, (_, refl, (_, refl, (_, refl, refl)))))

pub unary_text : ComesTo k.Text r.Unary (lexeme (c.One k.Text) ∷ [])
unary_text = (3, (_, refl, (_, refl, (_, refl, (_, refl, refl)))))

pub unary_null : ComesTo (k.Reserved w.Null) r.Unary (lexeme (c.One (k.Reserved w.Null)) ∷ [])
unary_null = (3, (_, refl, (_, refl, (_, refl, (_, refl, refl)))))

pub unary_name : ComesTo k.Name r.Unary (lexeme c.PlainName ∷ rule r.AfterName ∷ [])
unary_name = (3, (_, refl, (_, refl, (_, refl, (_, refl, refl)))))

pub unary_variable : ComesTo k.Variable r.Unary (lexeme (c.One k.Variable) ∷ mark Uses ∷ [])
unary_variable = (2, (_, refl, (_, refl, (_, refl, refl))))

pub unary_open : ComesTo (k.Sign s.Open) r.Unary (lexeme (c.One (k.Sign s.Open)) ∷ mark Enter ∷ rule r.Enclosed ∷ lexeme (c.One (k.Sign s.Close)) ∷ mark Leave ∷ [])
unary_open = (1, (_, refl, (_, refl, refl)))

pub test_number : ComesTo k.Number r.Test (lexeme (c.One k.Number) ∷ rule (r.Operand 0) ∷ rule r.MoreAnds ∷ rule r.MoreOrs ∷ [])
test_number = (5, (_, refl, (_, refl, (_, refl, (_, refl, (_, refl, (_, refl, refl)))))))

pub test_text : ComesTo k.Text r.Test (lexeme (c.One k.Text) ∷ rule (r.Operand 0) ∷ rule r.MoreAnds ∷ rule r.MoreOrs ∷ [])
test_text = (5, (_, refl, (_, refl, (_, refl, (_, refl, (_, refl, (_, refl, refl)))))))

pub test_null : ComesTo (k.Reserved w.Null) r.Test (lexeme (c.One (k.Reserved w.Null)) ∷ rule (r.Operand 0) ∷ rule r.MoreAnds ∷ rule r.MoreOrs ∷ [])
test_null = (5, (_, refl, (_, refl, (_, refl, (_, refl, (_, refl, (_, refl, refl)))))))

pub test_name : ComesTo k.Name r.Test (lexeme c.PlainName ∷ rule r.AfterName ∷ rule (r.Operand 0) ∷ rule r.MoreAnds ∷ rule r.MoreOrs ∷ [])
test_name = (5, (_, refl, (_, refl, (_, refl, (_, refl, (_, refl, (_, refl, refl)))))))

pub test_variable : ComesTo k.Variable r.Test (lexeme (c.One k.Variable) ∷ mark Uses ∷ rule (r.Operand 0) ∷ rule r.MoreAnds ∷ rule r.MoreOrs ∷ [])
test_variable = (4, (_, refl, (_, refl, (_, refl, (_, refl, (_, refl, refl))))))

pub test_open : ComesTo (k.Sign s.Open) r.Test (lexeme (c.One (k.Sign s.Open)) ∷ mark Enter ∷ rule (r.Opened 0) ∷ rule r.MoreAnds ∷ rule r.MoreOrs ∷ [])
test_open = (3, (_, refl, (_, refl, (_, refl, (_, refl, refl)))))

pub simple_primary_number : ComesTo k.Number r.SimplePrimary (lexeme (c.One k.Number) ∷ [])
simple_primary_number = (1, (_, refl, (_, refl, refl)))

pub simple_primary_text : ComesTo k.Text r.SimplePrimary (lexeme (c.One k.Text) ∷ [])
simple_primary_text = (1, (_, refl, (_, refl, refl)))

pub simple_primary_null : ComesTo (k.Reserved w.Null) r.SimplePrimary (lexeme (c.One (k.Reserved w.Null)) ∷ [])
simple_primary_null = (1, (_, refl, (_, refl, refl)))

pub simple_primary_name : ComesTo k.Name r.SimplePrimary (lexeme c.PlainName ∷ rule r.AfterName ∷ [])
simple_primary_name = (1, (_, refl, (_, refl, refl)))

pub simple_primary_variable : ComesTo k.Variable r.SimplePrimary (lexeme (c.One k.Variable) ∷ mark Uses ∷ [])
simple_primary_variable = (0, (_, refl, refl))

pub expr_case : ComesTo (k.Reserved w.Case) r.Expr (lexeme (c.One (k.Reserved w.Case)) ∷ mark Enter ∷ rule r.Arm ∷ rule r.MoreArms ∷ rule r.CaseElse ∷ lexeme (c.One (k.Reserved w.End)) ∷ mark Leave ∷ rule r.MoreFactors ∷ rule r.MoreTerms ∷ [])
expr_case = (5, (_, refl, (_, refl, (_, refl, (_, refl, (_, refl, (_, refl, refl)))))))

pub product_case : ComesTo (k.Reserved w.Case) r.Product (lexeme (c.One (k.Reserved w.Case)) ∷ mark Enter ∷ rule r.Arm ∷ rule r.MoreArms ∷ rule r.CaseElse ∷ lexeme (c.One (k.Reserved w.End)) ∷ mark Leave ∷ rule r.MoreFactors ∷ [])
product_case = (4, (_, refl, (_, refl, (_, refl, (_, refl, (_, refl, refl))))))

pub unary_case : ComesTo (k.Reserved w.Case) r.Unary (lexeme (c.One (k.Reserved w.Case)) ∷ mark Enter ∷ rule r.Arm ∷ rule r.MoreArms ∷ rule r.CaseElse ∷ lexeme (c.One (k.Reserved w.End)) ∷ mark Leave ∷ [])
unary_case = (3, (_, refl, (_, refl, (_, refl, (_, refl, refl)))))

pub test_case : ComesTo (k.Reserved w.Case) r.Test (lexeme (c.One (k.Reserved w.Case)) ∷ mark Enter ∷ rule r.Arm ∷ rule r.MoreArms ∷ rule r.CaseElse ∷ lexeme (c.One (k.Reserved w.End)) ∷ mark Leave ∷ rule (r.Operand 0) ∷ rule r.MoreAnds ∷ rule r.MoreOrs ∷ [])
test_case = (5, (_, refl, (_, refl, (_, refl, (_, refl, (_, refl, (_, refl, refl)))))))

pub enclosed_number : ComesTo k.Number r.Enclosed (lexeme (c.One k.Number) ∷ rule r.MoreFactors ∷ rule r.MoreTerms ∷ [])
enclosed_number = (6, (_, refl, (_, refl, (_, refl, (_, refl, (_, refl, (_, refl, (_, refl, refl))))))))

pub enclosed_text : ComesTo k.Text r.Enclosed (lexeme (c.One k.Text) ∷ rule r.MoreFactors ∷ rule r.MoreTerms ∷ [])
enclosed_text = (6, (_, refl, (_, refl, (_, refl, (_, refl, (_, refl, (_, refl, (_, refl, refl))))))))

pub enclosed_null : ComesTo (k.Reserved w.Null) r.Enclosed (lexeme (c.One (k.Reserved w.Null)) ∷ rule r.MoreFactors ∷ rule r.MoreTerms ∷ [])
enclosed_null = (6, (_, refl, (_, refl, (_, refl, (_, refl, (_, refl, (_, refl, (_, refl, refl))))))))

pub enclosed_name : ComesTo k.Name r.Enclosed (lexeme c.PlainName ∷ rule r.AfterName ∷ rule r.MoreFactors ∷ rule r.MoreTerms ∷ [])
enclosed_name = (6, (_, refl, (_, refl, (_, refl, (_, refl, (_, refl, (_, refl, (_, refl, refl))))))))

pub enclosed_variable : ComesTo k.Variable r.Enclosed (lexeme (c.One k.Variable) ∷ mark Uses ∷ rule r.MoreFactors ∷ rule r.MoreTerms ∷ [])
enclosed_variable = (5, (_, refl, (_, refl, (_, refl, (_, refl, (_, refl, (_, refl, refl)))))))

pub enclosed_open : ComesTo (k.Sign s.Open) r.Enclosed (lexeme (c.One (k.Sign s.Open)) ∷ mark Enter ∷ rule r.Enclosed ∷ lexeme (c.One (k.Sign s.Close)) ∷ mark Leave ∷ rule r.MoreFactors ∷ rule r.MoreTerms ∷ [])
enclosed_open = (4, (_, refl, (_, refl, (_, refl, (_, refl, (_, refl, refl))))))

pub enclosed_case : ComesTo (k.Reserved w.Case) r.Enclosed (lexeme (c.One (k.Reserved w.Case)) ∷ mark Enter ∷ rule r.Arm ∷ rule r.MoreArms ∷ rule r.CaseElse ∷ lexeme (c.One (k.Reserved w.End)) ∷ mark Leave ∷ rule r.MoreFactors ∷ rule r.MoreTerms ∷ [])
enclosed_case = (6, (_, refl, (_, refl, (_, refl, (_, refl, (_, refl, (_, refl, (_, refl, refl))))))))

pub more_terms_plus : ComesTo (k.Sign s.Plus) r.MoreTerms (lexeme (c.One (k.Sign s.Plus)) ∷ rule r.Product ∷ rule r.MoreTerms ∷ [])
more_terms_plus = (1, (_, refl, (_, refl, refl)))

pub more_terms_minus : ComesTo (k.Sign s.Minus) r.MoreTerms (lexeme (c.One (k.Sign s.Minus)) ∷ rule r.Product ∷ rule r.MoreTerms ∷ [])
more_terms_minus = (1, (_, refl, (_, refl, refl)))

pub more_factors_star : ComesTo (k.Sign s.Star) r.MoreFactors (lexeme (c.One (k.Sign s.Star)) ∷ rule r.Unary ∷ rule r.MoreFactors ∷ [])
more_factors_star = (1, (_, refl, (_, refl, refl)))

pub more_factors_slash : ComesTo (k.Sign s.Slash) r.MoreFactors (lexeme (c.One (k.Sign s.Slash)) ∷ rule r.Unary ∷ rule r.MoreFactors ∷ [])
more_factors_slash = (1, (_, refl, (_, refl, refl)))

pub more_factors_percent : ComesTo (k.Sign s.Percent) r.MoreFactors (lexeme (c.One (k.Sign s.Percent)) ∷ rule r.Unary ∷ rule r.MoreFactors ∷ [])
more_factors_percent = (1, (_, refl, (_, refl, refl)))

pub comparison_equal : ComesTo (k.Sign s.Equal) r.Comparison (lexeme (c.One (k.Sign s.Equal)) ∷ rule r.Expr ∷ [])
comparison_equal = (1, (_, refl, (_, refl, refl)))

pub comparison_not_equal : ComesTo (k.Sign s.NotEqual) r.Comparison (lexeme (c.One (k.Sign s.NotEqual)) ∷ rule r.Expr ∷ [])
comparison_not_equal = (1, (_, refl, (_, refl, refl)))

pub comparison_less : ComesTo (k.Sign s.Less) r.Comparison (lexeme (c.One (k.Sign s.Less)) ∷ rule r.Expr ∷ [])
comparison_less = (1, (_, refl, (_, refl, refl)))

pub comparison_less_equal : ComesTo (k.Sign s.LessEqual) r.Comparison (lexeme (c.One (k.Sign s.LessEqual)) ∷ rule r.Expr ∷ [])
comparison_less_equal = (1, (_, refl, (_, refl, refl)))

pub comparison_greater : ComesTo (k.Sign s.Greater) r.Comparison (lexeme (c.One (k.Sign s.Greater)) ∷ rule r.Expr ∷ [])
comparison_greater = (1, (_, refl, (_, refl, refl)))

pub comparison_greater_equal : ComesTo (k.Sign s.GreaterEqual) r.Comparison (lexeme (c.One (k.Sign s.GreaterEqual)) ∷ rule r.Expr ∷ [])
comparison_greater_equal = (1, (_, refl, (_, refl, refl)))

pub comparison_in : ComesTo (k.Reserved w.In) r.Comparison (lexeme (c.One (k.Reserved w.In)) ∷ lexeme (c.One (k.Sign s.Open)) ∷ mark Enter ∷ rule r.InList ∷ lexeme (c.One (k.Sign s.Close)) ∷ mark Leave ∷ [])
comparison_in = (1, (_, refl, (_, refl, refl)))
