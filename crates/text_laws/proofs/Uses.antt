-- The rules of a table: in their productions each variable is a use of it, and nothing else is a use or a declaration of one.
use Rattle.std.specs.Prelude.{◌≡◌, ℕ, zero, suc, Bool, true, false, ◌&&◌, List, [], ◌∷◌, refl}
use Rattle.std.proofs.Common.{sym, subst, inl, inr}
use Rattle.tsql_grammar.specs.declared.kind.Function.{Function}
use Rattle.tsql_grammar.specs.declared.kind.Function.TheVariants as f
use Rattle.tsql_grammar.specs.declared.kind.Kind.{Kind}
use Rattle.tsql_grammar.specs.declared.kind.Kind.TheVariants as k
use Rattle.tsql_grammar.specs.declared.rule.Class.{Class}
use Rattle.tsql_grammar.specs.declared.rule.Class.TheVariants as c
use Rattle.tsql_grammar.specs.declared.rule.Mark.TheVariants.{Enter, Leave, Uses, Declares}
use Rattle.tsql_grammar.specs.declared.rule.Rule.{Rule}
use Rattle.tsql_grammar.specs.declared.rule.Rule.TheVariants as r
use Rattle.tsql_grammar.specs.Kinds.{same_kind}
use Rattle.tsql_grammar.specs.PlainText.{plainly_admits}
use Rattle.tsql_grammar.specs.Productions.{Symbols, productions}
use Rattle.tsql_grammar.proofs.Instance.{same_so}
use Rattle.tsql_grammar.proofs.RuleTests.{around}
use Rattle.grammar_laws.specs.Grammar.Symbol.{lexeme, rule, mark}
use Rattle.grammar_laws.specs.Alternatives.{IndexOf, at}
use Rattle.grammar_laws.proofs.Booleans.{implies, implied, or_true, and_true}
use Rattle.grammar_laws.proofs.KindTests.{each_index, each_index_so}
use Rattle.text_laws.proofs.Calm.{calm, own, calm_own, not_so}
use Rattle.text_laws.proofs.Variables.{variable_kind, variable_class}

-- the calm rules but those of EXECUTE, where a variable may name a parameter
abbrev pub inner : Rule → Bool
inner r.AfterExecute = false
inner r.Arguments = false
inner r.MoreArguments = false
inner r.Argument = false
inner r.AfterArgumentVariable = false
inner r.ArgumentValue = false
inner q = calm q

-- such a rule, or a table
abbrev pub tabled : Rule → Bool
tabled r.Table = true
tabled q = inner q

pub inner_calm : (q : Rule) → inner q ≡ true → calm q ≡ true
inner_calm r.AfterExecute e = absurd (not_so e)
inner_calm r.Arguments e = absurd (not_so e)
inner_calm r.MoreArguments e = absurd (not_so e)
inner_calm r.Argument e = absurd (not_so e)
inner_calm r.AfterArgumentVariable e = absurd (not_so e)
inner_calm r.ArgumentValue e = absurd (not_so e)
inner_calm _ e = e

pub inner_tabled : (q : Rule) → inner q ≡ true → tabled q ≡ true
inner_tabled r.Table e = absurd (not_so e)
inner_tabled _ e = e

pub inner_own : (q : Rule) → inner q ≡ true → own q ≡ true
inner_own q e = calm_own q (inner_calm q e)

-- such symbols, directly behind a variable or not
abbrev pub paired : Bool → Symbols → Bool
paired true (mark Uses ∷ is) = paired false is
paired true _ = false
paired false [] = true
paired false (lexeme a ∷ is) = paired (variable_class a) is
paired false (rule q ∷ is) = inner q && paired false is
paired false (mark Enter ∷ is) = paired false is
paired false (mark Leave ∷ is) = paired false is
paired false (mark Uses ∷ is) = false
paired false (mark Declares ∷ is) = false

abbrev rule_paired : List ℕ → Rule → Bool
rule_paired text q = implies (tabled q) (each_index (productions text q) (λ p. paired false (at (productions text q) p).symbols))

throw_paired : (text : List ℕ) (x y : Bool) → rule_paired text (r.ThrowArguments (around x y)) ≡ true
throw_paired text x true = refl
throw_paired text x false = refl

arguments_paired : (text : List ℕ) (a : Function) → rule_paired text (r.FunctionArguments a) ≡ true
arguments_paired text f.Cast = refl
arguments_paired text _ = refl

compared_paired : (text : List ℕ) (n : ℕ) → rule_paired text (r.Compared n) ≡ true
compared_paired text zero = refl
compared_paired text (suc n) = refl

tested_paired : (text : List ℕ) (n : ℕ) → rule_paired text (r.Tested n) ≡ true
tested_paired text zero = refl
tested_paired text (suc n) = refl

all_paired : (text : List ℕ) (q : Rule) → rule_paired text q ≡ true
all_paired text (r.ThrowArguments a) = throw_paired text a.in_while a.in_catch
all_paired text (r.FunctionArguments a) = arguments_paired text a
all_paired text (r.Compared n) = compared_paired text n
all_paired text (r.Tested n) = tested_paired text n
all_paired text _ = refl

pub paired_at : (text : List ℕ) (q : Rule) (p : IndexOf (productions text q)) → tabled q ≡ true → paired false (at (productions text q) p).symbols ≡ true
paired_at text q p e = each_index_so (productions text q) (λ p. paired false (at (productions text q) p).symbols) (implied (tabled q) _ (all_paired text q) e) p

-- ---- classes

-- what is no variable is of no class of variables
pub no_variable : (a : Class) (b : Kind) → plainly_admits a b ≡ true → variable_kind b ≡ false → variable_class a ≡ false
no_variable (c.One k.Variable) b e none = elim (or_true (same_kind k.Variable b) _ e) [
  | inl g ↦ absurd (not_so (sym (subst (λ (z : Kind). variable_kind z ≡ false) (sym (same_so k.Variable b g)) none)))
  | inr g ↦ absurd (not_so (and_true _ false g).1)
]
no_variable (c.One _) b e none = refl
no_variable c.Name b e none = refl
no_variable c.OtherName b e none = refl
no_variable c.PlainName b e none = refl
no_variable c.Semicolon b e none = refl
