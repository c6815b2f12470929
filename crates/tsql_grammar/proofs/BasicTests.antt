-- A test without connectives reads where it is written as one, and only there.
use Rattle.std.specs.Prelude.{◌≡◌, ℕ, true, List, [], ◌++◌, refl}
use Rattle.std.proofs.Common.{sym, ◌∙◌, subst, append-nil}
use Rattle.tsql_tree.specs.declared.query.Test.{Test}
use Rattle.tsql_grammar.specs.declared.rule.Rule.{Rule}
use Rattle.tsql_grammar.specs.declared.rule.Rule.TheVariants as r
use Rattle.tsql_grammar.specs.BasicTest.{basic, IsWritten}
use Rattle.tsql_grammar.specs.Language.{ReadsAs, IsCut}
use Rattle.tsql_grammar.specs.Noted.{Noted}
use Rattle.tsql_grammar.specs.Productions.{Tree}
use Rattle.tsql_grammar.specs.Terminals.{Terminal}
use Rattle.tsql_grammar.proofs.FromOperands.{Then}
use Rattle.tsql_grammar.proofs.WithoutElse.{has_no_else, have_no_else, each_without_else, whole_of_pieces}
use Rattle.tsql_grammar.proofs.Instance.{G}
use Rattle.tsql_grammar.proofs.Readings.{pieces}
use Rattle.tsql_grammar.proofs.NoneOpen.{counted, plain}
use Rattle.tsql_grammar.proofs.TestForms.{joined, spelled}
use Rattle.grammar_laws.specs.Alternatives.{IndexOf, at}
use Rattle.grammar_laws.specs.BySymbols.{OfSymbols, IsOf}
use Rattle.grammar_laws.proofs.Cuts.{EachRule, lift_each}
use Rattle.grammar_laws.proofs.KindTests.{each_index_so}
use Rattle.grammar_laws.proofs.Pieces.{SymbolsThen, cut_symbols, of_symbols}
use Rattle.grammar_laws.proofs.Pieces as laws

module _ (text : List ℕ) where
  -- it is the whole text, with this tree and these notes
  abbrev Whole : {A : Type 0} → A → Noted → A → List Terminal → Noted → Type 0
  Whole v t x u m = (x ≡ v) × (u ≡ []) × (m ≡ t)

  all_of_it : (a : Rule) (w : List Terminal) (x : Tree a) (s t : Noted) → Then text a w s (Whole x t) → IsCut text a w x s t
  all_of_it a w x s t (v, u, rest, m, e, o, (e1, e2, e3)) =
      let same : u ≡ w = sym (e ∙ (λ i. u ++ e2 i) ∙ append-nil u) in
      subst (λ (z : List Terminal). IsOf (G text) a z x s t) same (subst (λ (z : Tree a). IsOf (G text) a u z s t) e1 (subst (λ (z : Noted). IsOf (G text) a u v s z) e3 o))

  begins_it : (a : Rule) (w : List Terminal) (x : Tree a) (s t : Noted) → IsCut text a w x s t → Then text a w s (Whole x t)
  begins_it a w x s t d = (x, w, [], t, sym (append-nil w), d, (refl, refl, refl))

  -- no ELSE stands below what the productions are made of
  no_else : (p : IndexOf basic) → EachRule (G text) (λ a. has_no_else a ≡ true) (at basic p).symbols
  no_else p = each_without_else text (at basic p).symbols (each_index_so basic (λ p. have_no_else (at basic p).symbols) refl p)

  pub written : (w : List Terminal) (x : Test) (s t : Noted) → ReadsAs text r.Basic w x s t → IsWritten text basic w x s t
  written w x s t d =
      let (p, d) = spelled text w s (Whole x t) (plain text w s (Whole x t) (begins_it r.Basic w x s t (pieces text r.Basic w x s t d))) in
      let (vs, u, rest, m, e, o, (e1, e2, e3)) = cut_symbols (G text) (IsOf (G text)) (laws.Then (G text)) (λ a w s K d. d) (at basic p).symbols w s _ d in
      let same : u ≡ w = sym (e ∙ (λ i. u ++ e2 i) ∙ append-nil u) in
      let cut : OfSymbols (G text) (IsOf (G text)) (at basic p).symbols w vs s t =
      subst (λ (z : List Terminal). OfSymbols (G text) (IsOf (G text)) (at basic p).symbols z vs s t) same
      (subst (λ (z : Noted). OfSymbols (G text) (IsOf (G text)) (at basic p).symbols u vs s z) e3 o) in
      (p, vs, sym e1, lift_each (G text) (λ a. has_no_else a ≡ true) (IsOf (G text)) (ReadsAs text) (λ a w v s t y d. whole_of_pieces text a w v s t y d) (at basic p).symbols w vs s t (no_else p) cut)

  pub read : (w : List Terminal) (x : Test) (s t : Noted) → IsWritten text basic w x s t → ReadsAs text r.Basic w x s t
  read w x s t (p, vs, e, d) =
      let d = of_symbols (G text) (ReadsAs text) (laws.Then (G text)) (λ a u v s m rest K d k. (v, u, rest, m, refl, pieces text a u v s m d, k))
      (at basic p).symbols w vs s t [] (λ vs. Whole x t ((at basic p).build vs)) d (sym e, refl, refl) in
      let d = counted text (w ++ []) s (Whole x t) (joined text (w ++ []) s (Whole x t) (p, d)) in
      whole_of_pieces text r.Basic w x s t refl (subst (λ (z : List Terminal). IsCut text r.Basic z x s t) (append-nil w) (all_of_it r.Basic (w ++ []) x s t d))
