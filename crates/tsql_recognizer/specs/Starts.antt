-- Own: what the commonest rules begin with, kind by kind, so that no list is gone through.
use Rattle.std.specs.Prelude.{Bool, true, false}
use Rattle.tsql_lexer.specs.declared.lexeme.Sign.TheVariants as s
use Rattle.tsql_grammar.specs.declared.kind.Kind.{Kind}
use Rattle.tsql_grammar.specs.declared.kind.Kind.TheVariants as k
use Rattle.tsql_grammar.specs.declared.kind.Reserved.TheVariants as w

abbrev pub begins_add : Kind → Bool
begins_add (k.Sign s.Plus) = true
begins_add (k.Sign s.Minus) = true
begins_add _ = false

abbrev pub begins_multiply : Kind → Bool
begins_multiply (k.Sign s.Star) = true
begins_multiply (k.Sign s.Slash) = true
begins_multiply (k.Sign s.Percent) = true
begins_multiply _ = false

abbrev pub begins_compare : Kind → Bool
begins_compare (k.Sign s.Equal) = true
begins_compare (k.Sign s.NotEqual) = true
begins_compare (k.Sign s.Less) = true
begins_compare (k.Sign s.LessEqual) = true
begins_compare (k.Sign s.Greater) = true
begins_compare (k.Sign s.GreaterEqual) = true
begins_compare _ = false

abbrev pub begins_other : Kind → Bool
begins_other k.Number = true
begins_other k.Text = true
begins_other k.TranCount = true
begins_other k.Error = true
begins_other k.RowCount = true
begins_other k.FetchStatus = true
begins_other k.Version = true
begins_other k.ServerName = true
begins_other k.MaxPrecision = true
begins_other (k.Reserved w.Case) = true
begins_other (k.Reserved w.Coalesce) = true
begins_other (k.Reserved w.Null) = true
begins_other (k.Reserved w.NullIf) = true
begins_other _ = false

abbrev pub begins_simple : Kind → Bool
begins_simple k.Name = true
begins_simple k.Dbo = true
begins_simple k.Variable = true
begins_simple (k.Fixed a) = true
begins_simple (k.Function a) = true
begins_simple (k.Word a) = true
begins_simple a = begins_other a

abbrev pub begins_primary : Kind → Bool
begins_primary (k.Sign s.Open) = true
begins_primary a = begins_simple a

abbrev pub begins_expr : Kind → Bool
begins_expr (k.Sign s.Plus) = true
begins_expr (k.Sign s.Minus) = true
begins_expr a = begins_primary a

abbrev pub begins_basic : Kind → Bool
begins_basic (k.Reserved w.Exists) = true
begins_basic a = begins_expr a

abbrev pub begins_test : Kind → Bool
begins_test (k.Reserved w.Not) = true
begins_test a = begins_basic a

abbrev pub begins_membership : Kind → Bool
begins_membership (k.Reserved w.Between) = true
begins_membership (k.Reserved w.In) = true
begins_membership _ = false

abbrev pub begins_comparison : Kind → Bool
begins_comparison (k.Reserved w.Is) = true
begins_comparison (k.Reserved w.Not) = true
begins_comparison (k.Reserved w.Between) = true
begins_comparison (k.Reserved w.In) = true
begins_comparison a = begins_compare a
