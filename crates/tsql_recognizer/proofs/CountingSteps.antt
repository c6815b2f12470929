-- What the rules that count come to before the commonest lexemes.
use Rattle.std.specs.Prelude.{◌≡◌, ℕ, zero, suc, Bool, true, false, ◌||◌, ◌&&◌, [], ◌∷◌, ◌++◌, Some, None, if◌then◌else◌, refl}
use Rattle.std.proofs.Common.{ap, sym, ◌∙◌, subst}
use Rattle.tsql_lexer.specs.declared.lexeme.Sign.TheVariants as s
use Rattle.tsql_grammar.specs.declared.kind.Kind.{Kind}
use Rattle.tsql_grammar.specs.declared.kind.Kind.TheVariants as kind
use Rattle.tsql_grammar.specs.declared.rule.Mark.TheVariants.{Enter, Leave}
use Rattle.tsql_grammar.specs.declared.rule.Rule.TheVariants as r
use Rattle.tsql_grammar.specs.Lookahead.{first, the_sign}
use Rattle.tsql_grammar.specs.Productions.{Symbols, sign}
use Rattle.tsql_grammar.specs.Terminals.{admits}
use Rattle.tsql_recognizer.specs.declared.step.Step.TheVariants as step
use Rattle.tsql_recognizer.specs.Stack.{or_empty, symbols_of_rule, Develops}
use Rattle.tsql_recognizer.proofs.Leading.{develops_one}
use Rattle.grammar_laws.specs.Grammar.Symbol.{rule, mark}

module _ (k : Kind) (old new : Symbols) where
  -- behind a parenthesis
  pub opened_open : k ≡ kind.Sign s.Open → (n more : ℕ) → more ≡ suc n → new ≡ rule (r.Opened more) ∷ old → Develops k (r.Opened n) step.Enters old new
  opened_open e n more f g = subst (λ z. Develops z (r.Opened n) step.Enters old new) (sym e)
      (0, _, (_, refl, refl), (_, refl, ap (λ z. sign s.Open ∷ mark Enter ∷ z) (ap (λ m. rule (r.Opened m) ∷ old) (sym f) ∙ sym g)))

  -- before a parenthesis that closes
  pub operand_close : k ≡ kind.Sign s.Close → (n less : ℕ) → n ≡ suc less → new ≡ rule (r.Operand less) ∷ old → Develops k (r.Operand n) step.Leaves old new
  operand_close e n less f g = subst (λ z. Develops z (r.Operand n) step.Leaves old new) (sym e) (subst (λ m. Develops (kind.Sign s.Close) (r.Operand m) step.Leaves old new) (sym f)
      (3, _, (_, refl, (_, refl, (_, refl, (_, refl, refl)))), (_, refl, ap (λ z. sign s.Close ∷ mark Leave ∷ z) (sym g))))

  pub compared_close : k ≡ kind.Sign s.Close → (n less : ℕ) → n ≡ suc less → new ≡ rule (r.Operand less) ∷ old → Develops k (r.Compared n) step.Leaves old new
  compared_close e n less f g = subst (λ z. Develops z (r.Compared n) step.Leaves old new) (sym e) (subst (λ m. Develops (kind.Sign s.Close) (r.Compared m) step.Leaves old new) (sym f)
      (0, _, (_, refl, refl), (_, refl, ap (λ z. sign s.Close ∷ mark Leave ∷ z) (sym g))))

  pub tested_close : k ≡ kind.Sign s.Close → (n less : ℕ) → n ≡ suc less → new ≡ rule (r.Tested less) ∷ old → Develops k (r.Tested n) step.Leaves old new
  tested_close e n less f g = subst (λ z. Develops z (r.Tested n) step.Leaves old new) (sym e) (subst (λ m. Develops (kind.Sign s.Close) (r.Tested m) step.Leaves old new) (sym f)
      (2, _, (_, refl, (_, refl, (_, refl, refl))), (_, refl, ap (λ z. sign s.Close ∷ mark Leave ∷ z) (sym g))))

  -- in no parenthesis nothing follows a test
  pub tested_alone : (n : ℕ) → n ≡ 0 → new ≡ old → Develops k (r.Tested n) step.Opens old new
  tested_alone n f g = subst (λ m. Develops k (r.Tested m) step.Opens old new) (sym f) (develops_one k (r.Tested 0) [] old new refl g)

  -- before what joins an operand with others, or a test with it
  pub operand_joined : (n : ℕ) → (first r.MoreFactors k || first r.MoreTerms k || first r.Comparison k) ≡ true
      → new ≡ (rule r.MoreFactors ∷ rule r.MoreTerms ∷ rule (r.Compared n) ∷ []) ++ old → Develops k (r.Operand n) step.Opens old new
  operand_joined n h g = develops_one k (r.Operand n) (rule r.MoreFactors ∷ rule r.MoreTerms ∷ rule (r.Compared n) ∷ []) old new (picked (first r.MoreFactors k) (first r.MoreTerms k) (first r.Comparison k) (first (r.Compared n) k) h (λ e. compared_too n e)) g
    where
      compared_too : (m : ℕ) → first r.Comparison k ≡ true → first (r.Compared m) k ≡ true
      compared_too zero e = e
      compared_too (suc m) e = either (admits (the_sign s.Close) k) (first r.Comparison k) e
        where
          either : (a b : Bool) → b ≡ true → (a || b) ≡ true
          either true b e = refl
          either false b e = e

      picked : (a b c d : Bool) → (a || b || c) ≡ true → (c ≡ true → d ≡ true)
          → or_empty (if (a || (true && (b || (true && (d || (false && false)))))) then Some (rule r.MoreFactors ∷ rule r.MoreTerms ∷ rule (r.Compared n) ∷ []) else None) (symbols_of_rule (r.Operand n))
          ≡ Some (rule r.MoreFactors ∷ rule r.MoreTerms ∷ rule (r.Compared n) ∷ [])
      picked true b c d h i = refl
      picked false true c d h i = refl
      picked false false true true h i = refl
      picked false false true false h i = absurd (let it = i refl in cc)
      picked false false false d h i = absurd (cc)

  -- before a comparison
  pub compared_alone : (n : ℕ) → n ≡ 0 → first r.Comparison k ≡ true → new ≡ rule r.Comparison ∷ old → Develops k (r.Compared n) step.Opens old new
  compared_alone n f h g = subst (λ m. Develops k (r.Compared m) step.Opens old new) (sym f) (develops_one k (r.Compared 0) (rule r.Comparison ∷ []) old new (picked (first r.Comparison k) h) g)
    where
      picked : (a : Bool) → a ≡ true → or_empty (if (a || (false && false)) then Some (rule r.Comparison ∷ []) else None) (symbols_of_rule (r.Compared 0)) ≡ Some (rule r.Comparison ∷ [])
      picked true h = refl
      picked false h = absurd (cc)
