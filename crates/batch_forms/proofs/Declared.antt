-- Declarations, lexeme by lexeme.
use Rattle.std.proofs.Common.{◌≡◌, ℕ, ◌+◌, ◌<◌, ◌≤◌, Bool, List, [], ◌∷◌, ◌++◌, append_assoc, drop, get_or, length, refl, sym, ap, ◌∙◌}
use Rattle.std.proofs.lemmas.List.{drop_all, drop_more}
use Rattle.tsql_lexer.specs.declared.lexeme.Spanned.{Spanned}
use Rattle.tsql_grammar.specs.Trees.{slice}
use Rattle.batch_meaning.specs.Drivers.{declared_from, is_open, or_own, stands_for}

-- what a lexeme adds
abbrev pub part_of : List ℕ → ℕ → Bool → Spanned → List ℕ
part_of text at opened l = slice text at l.start ++ or_own (slice text l.start l.end) (stands_for opened l.lexeme)

part_first : (text : List ℕ) (at : ℕ) (opened : Bool) (l : Spanned) (rest : List Spanned)
    → declared_from text at opened (l ∷ rest) ≡ part_of text at opened l ++ declared_from text l.end (is_open l.lexeme) rest
unfolding declared_from
part_first text at opened l rest = refl

part_last : (text : List ℕ) (at : ℕ) (opened : Bool) → declared_from text at opened [] ≡ drop at text
unfolding declared_from
part_last text at opened = refl

module _ (text all now : List ℕ) (at index : ℕ) (opened : Bool) (lexemes : List Spanned) (goes : now ++ declared_from text at opened (drop index lexemes) ≡ all) where
  pub declared_more : (new : List ℕ) (l : Spanned) (opens : Bool) → index < length lexemes → l ≡ get_or lexemes index l → new ≡ now ++ part_of text at opened l → opens ≡ is_open l.lexeme
      → new ++ declared_from text l.end opens (drop (index + 1) lexemes) ≡ all
  declared_more new l opens within is added so =
      let rest : List Spanned = drop (index + 1) lexemes in
      let behind : List ℕ = declared_from text l.end (is_open l.lexeme) rest in
      let next : drop index lexemes ≡ l ∷ rest = drop_more lexemes index l within ∙ ap (λ (x : Spanned). x ∷ rest) (sym is) in
      ap (λ (opens : Bool). new ++ declared_from text l.end opens rest) so ∙ ap (λ (front : List ℕ). front ++ behind) added ∙ append_assoc now (part_of text at opened l) behind
      ∙ ap (λ (read : List ℕ). now ++ read) (sym (part_first text at opened l rest) ∙ ap (declared_from text at opened) (sym next)) ∙ goes

  pub declared_all : (new behind : List ℕ) → length lexemes ≤ index → behind ≡ drop at text → new ≡ now ++ behind → new ≡ all
  declared_all new behind past is added =
      added ∙ ap (λ (rest : List ℕ). now ++ rest) (is ∙ sym (ap (declared_from text at opened) (drop_all index lexemes past) ∙ part_last text at opened)) ∙ goes
