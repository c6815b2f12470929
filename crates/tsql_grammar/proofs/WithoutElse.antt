-- Rules below which no ELSE stands: what can be cut into the pieces of their productions reads.
use Rattle.std.specs.Prelude.{◌≡◌, ℕ, zero, suc, Bool, true, false, ◌&&◌, List, [], ◌∷◌, Option, Some, None, refl}
use Rattle.tsql_grammar.specs.declared.kind.Function.{Function}
use Rattle.tsql_grammar.specs.declared.kind.Function.TheVariants as f
use Rattle.tsql_grammar.specs.declared.rule.Rule.{Rule}
use Rattle.tsql_grammar.specs.declared.rule.Rule.TheVariants as r
use Rattle.tsql_grammar.specs.Language.{language, ReadsAs, IsCut}
use Rattle.tsql_grammar.specs.Noted.{Noted}
use Rattle.tsql_grammar.specs.Productions.{Symbols, Tree, productions}
use Rattle.tsql_grammar.specs.Terminals.{Terminal}
use Rattle.tsql_grammar.proofs.Instance.{G}
use Rattle.tsql_grammar.proofs.RuleTests.{around}
use Rattle.grammar_laws.specs.Grammar.Symbol.{lexeme, rule, mark}
use Rattle.grammar_laws.specs.Alternatives.{at, AlternativeOf, symbols_of, may_take, kind_of}
use Rattle.grammar_laws.proofs.Booleans.{implies, implied, and_true}
use Rattle.grammar_laws.proofs.Cuts.{EachRule, IsFree, pastes}
use Rattle.grammar_laws.proofs.KindTests.{each_index, each_index_so}

-- an ELSE of IF stands below none of the rule's productions
abbrev pub has_no_else : Rule → Bool
has_no_else r.Batch = false
has_no_else r.AfterFirstCreate = false
has_no_else r.Definition = false
has_no_else r.AfterCreate = false
has_no_else r.Procedure = false
has_no_else r.Trigger = false
has_no_else (r.Body a) = false
has_no_else (r.Statement a) = false
has_no_else (r.OtherStatement a) = false
has_no_else (r.AfterBegin a) = false
has_no_else (r.Else a) = false
has_no_else _ = true

abbrev pub have_no_else : Symbols → Bool
have_no_else [] = true
have_no_else (lexeme c ∷ is) = have_no_else is
have_no_else (rule a ∷ is) = has_no_else a && have_no_else is
have_no_else (mark m ∷ is) = have_no_else is

pub each_without_else : (text : List ℕ) (is : Symbols) → have_no_else is ≡ true → EachRule (G text) (λ a. has_no_else a ≡ true) is
each_without_else text [] e = tt
each_without_else text (lexeme c ∷ is) e = each_without_else text is e
each_without_else text (rule a ∷ is) e = let both = and_true (has_no_else a) (have_no_else is) e in (both.0, each_without_else text is both.1)
each_without_else text (mark m ∷ is) e = each_without_else text is e

abbrev closes : List ℕ → Rule → Bool
closes text a = each_index (productions text a) (λ p. implies (has_no_else a) (have_no_else (at (productions text a) p).symbols))

statements_close : (text : List ℕ) (x y : Bool) → closes text (r.OtherStatement (around x y)) ≡ true
statements_close text true y = refl
statements_close text false y = refl

throws_close : (text : List ℕ) (x y : Bool) → closes text (r.ThrowArguments (around x y)) ≡ true
throws_close text x true = refl
throws_close text x false = refl

compared_closes : (text : List ℕ) (n : ℕ) → closes text (r.Compared n) ≡ true
compared_closes text zero = refl
compared_closes text (suc n) = refl

tested_closes : (text : List ℕ) (n : ℕ) → closes text (r.Tested n) ≡ true
tested_closes text zero = refl
tested_closes text (suc n) = refl

arguments_close : (text : List ℕ) (a : Function) → closes text (r.FunctionArguments a) ≡ true
arguments_close text f.Cast = refl
arguments_close text _ = refl

closes_so : (text : List ℕ) (a : Rule) → closes text a ≡ true
closes_so text (r.OtherStatement a) = statements_close text a.in_while a.in_catch
closes_so text (r.ThrowArguments a) = throws_close text a.in_while a.in_catch
closes_so text (r.Compared n) = compared_closes text n
closes_so text (r.Tested n) = tested_closes text n
closes_so text (r.FunctionArguments a) = arguments_close text a
closes_so text _ = refl

no_nearest : (text : List ℕ) (a : Rule) (p : AlternativeOf (language text) a) (l : Option Terminal) → has_no_else a ≡ true → may_take (language text) a p (kind_of (language text) l) ≡ true
no_nearest text a p None e = refl
no_nearest text (r.Else a) p (Some l) e = absurd (cc)
no_nearest text _ p (Some l) e = refl

without_else : (text : List ℕ) → IsFree (G text) (λ a. has_no_else a ≡ true)
without_else text = record {
  closed = λ a p e. each_without_else text (symbols_of (language text) a p)
      (implied _ _ (each_index_so (productions text a) (λ p. implies (has_no_else a) (have_no_else (at (productions text a) p).symbols)) (closes_so text a) p) e);
  allowed = λ a p l e. no_nearest text a p l e;
}

pub whole_of_pieces : (text : List ℕ) (a : Rule) (w : List Terminal) (x : Tree a) (s t : Noted) → has_no_else a ≡ true → IsCut text a w x s t → ReadsAs text a w x s t
whole_of_pieces text a w x s t e d = pastes (G text) (λ a. has_no_else a ≡ true) (without_else text) a w x s t e d
