-- The rules by which no variable is declared and no statement is read, but for a table: their productions are made of such
-- rules, none is ever disallowed, and none looks at the text.
use Rattle.std.specs.Prelude.{◌≡◌, ℕ, zero, suc, Bool, true, false, ◌&&◌, List, [], ◌∷◌, Option, Some, None, refl}
use Rattle.tsql_grammar.specs.declared.kind.Function.{Function}
use Rattle.tsql_grammar.specs.declared.kind.Function.TheVariants as f
use Rattle.tsql_grammar.specs.declared.kind.Kind.{Kind}
use Rattle.tsql_grammar.specs.declared.rule.Mark.{Mark}
use Rattle.tsql_grammar.specs.declared.rule.Mark.TheVariants.{Declares}
use Rattle.tsql_grammar.specs.declared.rule.Rule.{Rule}
use Rattle.tsql_grammar.specs.declared.rule.Rule.TheVariants as r
use Rattle.tsql_grammar.specs.Language.{language}
use Rattle.tsql_grammar.specs.Lookahead.{nearest}
use Rattle.tsql_grammar.specs.PlainText.{plain_language}
use Rattle.tsql_grammar.specs.Productions.{Symbols, productions}
use Rattle.tsql_grammar.proofs.RuleTests.{around}
use Rattle.grammar_laws.specs.Grammar.Symbol.{lexeme, rule, mark}
use Rattle.grammar_laws.specs.Alternatives.{IndexOf, at, may_take, kind_of}
use Rattle.grammar_laws.proofs.Booleans.{implies, implied, and_true}
use Rattle.grammar_laws.proofs.Cuts.{EachRule, IsFree}
use Rattle.grammar_laws.proofs.KindTests.{each_index, each_index_so}

abbrev pub calm : Rule → Bool
calm r.Batch = false
calm r.AfterFirstCreate = false
calm r.Definition = false
calm r.AfterCreate = false
calm r.Procedure = false
calm r.Trigger = false
calm r.Params = false
calm r.Param = false
calm r.MoreParams = false
calm (r.Body a) = false
calm (r.Statement a) = false
calm (r.OtherStatement a) = false
calm (r.AfterBegin a) = false
calm (r.Else a) = false
calm r.Table = false
calm r.AfterDeclare = false
calm r.Declaration = false
calm r.MoreDeclarations = false
calm _ = true

-- such a rule, or a table
abbrev pub own : Rule → Bool
own r.Table = true
own q = calm q

pub not_so : false ≡ true → ⊥
not_so e = cc

pub calm_own : (q : Rule) → calm q ≡ true → own q ≡ true
calm_own r.Table e = absurd (not_so e)
calm_own _ e = e

abbrev pub calm_mark : Mark → Bool
calm_mark Declares = false
calm_mark _ = true

abbrev pub calm_symbols : Symbols → Bool
calm_symbols [] = true
calm_symbols (lexeme c ∷ is) = calm_symbols is
calm_symbols (rule q ∷ is) = calm q && calm_symbols is
calm_symbols (mark m ∷ is) = calm_mark m && calm_symbols is

abbrev rule_ok : List ℕ → Rule → Bool
rule_ok text q = implies (own q) (each_index (productions text q) (λ p. calm_symbols (at (productions text q) p).symbols))

throw_ok : (text : List ℕ) (x y : Bool) → rule_ok text (r.ThrowArguments (around x y)) ≡ true
throw_ok text x true = refl
throw_ok text x false = refl

arguments_ok : (text : List ℕ) (a : Function) → rule_ok text (r.FunctionArguments a) ≡ true
arguments_ok text f.Cast = refl
arguments_ok text _ = refl

compared_ok : (text : List ℕ) (n : ℕ) → rule_ok text (r.Compared n) ≡ true
compared_ok text zero = refl
compared_ok text (suc n) = refl

tested_ok : (text : List ℕ) (n : ℕ) → rule_ok text (r.Tested n) ≡ true
tested_ok text zero = refl
tested_ok text (suc n) = refl

ok : (text : List ℕ) (q : Rule) → rule_ok text q ≡ true
ok text (r.ThrowArguments a) = throw_ok text a.in_while a.in_catch
ok text (r.FunctionArguments a) = arguments_ok text a
ok text (r.Compared n) = compared_ok text n
ok text (r.Tested n) = tested_ok text n
ok text _ = refl

-- the productions of such a rule are made of calm ones
pub calm_at : (text : List ℕ) (q : Rule) (p : IndexOf (productions text q)) → own q ≡ true → calm_symbols (at (productions text q) p).symbols ≡ true
calm_at text q p e = each_index_so (productions text q) (λ p. calm_symbols (at (productions text q) p).symbols) (implied (own q) _ (ok text q) e) p

-- none of them looks at the text
pub productions_same : (text other : List ℕ) (q : Rule) → own q ≡ true → productions text q ≡ productions other q
productions_same text other r.AfterFirstCreate e = absurd (not_so e)
productions_same text other (r.Statement a) e = absurd (not_so e)
productions_same text other (r.Compared zero) e = refl
productions_same text other (r.Compared (suc n)) e = refl
productions_same text other (r.Tested zero) e = refl
productions_same text other (r.Tested (suc n)) e = refl
productions_same text other _ e = refl

-- ---- none is disallowed

abbrev pub Own : Rule → Type 0
Own q = own q ≡ true

each_own : (text : List ℕ) (is : Symbols) → calm_symbols is ≡ true → EachRule (plain_language text) Own is
each_own text [] e = tt
each_own text (lexeme c ∷ is) e = each_own text is e
each_own text (mark m ∷ is) e = each_own text is (and_true (calm_mark m) (calm_symbols is) e).1
each_own text (rule q ∷ is) e = let both = and_true (calm q) (calm_symbols is) e in (calm_own q both.0, each_own text is both.1)

not_nearest : (q : Rule) → own q ≡ true → nearest q ≡ false
not_nearest (r.Else a) e = absurd (not_so e)
not_nearest _ e = refl

pub free : (text : List ℕ) → IsFree (plain_language text) Own
free text = record {
  closed = λ q p e. each_own text (at (productions text q) p).symbols (calm_at text q p e);
  allowed = λ q p l e. allowed q p (kind_of (language text) l) e;
}
  where
    allowed : (q : Rule) (p : IndexOf (productions text q)) (k : Option Kind) → own q ≡ true → may_take (language text) q p k ≡ true
    allowed q p None e = refl
    allowed q p (Some k) e = rw (not_nearest q e) refl
