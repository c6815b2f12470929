-- How far the recognizer came in a whole list of lexemes.
use Rattle.std.specs.Prelude.{◌≡◌, ℕ, suc, ◌+◌, ◌<◌, ◌^◌, true, false, List, [], ◌∷◌, ◌++◌, take, drop, length, refl}
use Rattle.std.proofs.Common.{arith, append_assoc, append-nil, ap, sym, ◌∙◌, subst}
use Rattle.std.proofs.lemmas.List.{length-append}
use Rattle.tsql_lexer.specs.declared.lexeme.Spanned.{Spanned}
use Rattle.tsql_grammar.specs.declared.kind.Kind.{Kind}
use Rattle.tsql_grammar.specs.declared.rule.Rule.{Rule}
use Rattle.tsql_grammar.specs.Noted.{Noted}
use Rattle.tsql_grammar.specs.Language.{ReadsAs}
use Rattle.tsql_grammar.specs.Productions.{Symbols, Tree}
use Rattle.tsql_grammar.specs.Terminals.{Terminal, terminals, kind, units}
use Rattle.tsql_recognizer.specs.declared.notes.Notes.{Notes}
use Rattle.tsql_recognizer.specs.declared.recognizer.Verdict.TheVariants.{Stops, Reads}
use Rattle.tsql_recognizer.specs.Notes.{seen, HasNames, Goes}
use Rattle.tsql_recognizer.specs.Steps.{ExpectsIn, StopsBehind}
use Rattle.tsql_recognizer.specs.Verdict.{IsVerdict}
use Rattle.tsql_recognizer.proofs.Feeding.{FedAs, FinishedAs}
use Rattle.tsql_recognizer.proofs.Steps.{begun}
use Rattle.grammar_laws.specs.Grammar.Symbol.{rule}

pub length-terminals : (w : List Spanned) → length (terminals w) ≡ length w
length-terminals [] = refl
length-terminals (l ∷ w) = ap suc (length-terminals w)

take_past : (past w : List Terminal) → take (length past) (past ++ w) ≡ past
take_past [] w = refl
take_past (l ∷ past) w = ap (λ z. l ∷ z) (take_past past w)

drop_past : (past w : List Terminal) → drop (length past) (past ++ w) ≡ w
drop_past [] w = refl
drop_past (l ∷ past) w = drop_past past w

module _ (a : Rule) (w : List Terminal) (s0 : Noted) where
  -- behind so many lexemes the symbols are expected, whatever the batch's text is
  pub record Reached (is : Symbols) (rest : List Terminal) (n : Notes) : Type 0 where
    names : List (List ℕ)
    named : HasNames n.declared names
    past : List Terminal
    whole : past ++ rest ≡ w
    place : length past ≡ n.place
    expects : (text : List ℕ) → ExpectsIn text (rule a ∷ []) s0 past is rest (seen n names)

  -- one lexeme more
  pub reached_more : (is new : Symbols) (l : Terminal) (k : Kind) (held : List ℕ) (rest : List Terminal) (n m : Notes) → Reached is (l ∷ rest) n
      → kind l ≡ k → units l ≡ held → Goes (FedAs is k held true new) n m → m.place ≡ n.place + 1 → Reached new rest m
  reached_more is new l k held rest n m x same holds g e =
      let y = g x.names x.named in
      record {
        names = y.0;
        named = y.1;
        past = x.past ++ l ∷ [];
        whole = append_assoc x.past (l ∷ []) rest ∙ x.whole;
        place = omega (arith, length-append x.past (l ∷ []), x.place, e);
        expects = λ text. y.2 l same holds text (rule a ∷ []) s0 x.past rest (x.expects text);
      }

  -- there is room for one lexeme more to be counted
  pub reached_room : (is : Symbols) (l : Terminal) (rest : List Terminal) (n : Notes) (count : ℕ) → Reached is (l ∷ rest) n
      → length w ≡ count → count < 2 ^ 64 → n.place + 1 < 2 ^ 64
  reached_room is l rest n count x e small =
      let all : length x.past + suc (length rest) ≡ length w = sym (length-append x.past (l ∷ rest)) ∙ ap length x.whole in
      omega (arith, all, x.place, e, small)

  -- the text stops behind what was read
  stops_at : (past rest : List Terminal) (at : ℕ) → past ++ rest ≡ w → length past ≡ at → ((text : List ℕ) → StopsBehind text (rule a ∷ []) s0 past rest) → IsVerdict a w s0 (Stops at)
  stops_at past rest at e n stops =
      subst (λ (k : ℕ). IsVerdict a w s0 (Stops k)) n (subst (λ (z : List Terminal). IsVerdict a z s0 (Stops (length past))) e
      (λ text. (omega (arith, length-append past rest), both text)))
    where
      both : (text : List ℕ) → StopsBehind text (rule a ∷ []) s0 (take (length past) (past ++ rest)) (drop (length past) (past ++ rest))
      both text =
          subst (λ (z : List Terminal). StopsBehind text (rule a ∷ []) s0 z (drop (length past) (past ++ rest))) (sym (take_past past rest))
          (subst (λ (z : List Terminal). StopsBehind text (rule a ∷ []) s0 past z) (sym (drop_past past rest)) (stops text))

  pub reached_stop : (is new : Symbols) (l : Terminal) (k : Kind) (held : List ℕ) (rest : List Terminal) (n m : Notes) → Reached is (l ∷ rest) n
      → kind l ≡ k → units l ≡ held → Goes (FedAs is k held false new) n m → m.place ≡ n.place → IsVerdict a w s0 (Stops m.place)
  reached_stop is new l k held rest n m x same holds g e =
      let y = g x.names x.named in
      stops_at x.past (l ∷ rest) m.place x.whole (x.place ∙ sym e) (λ text. y.2 l same holds text (rule a ∷ []) s0 x.past rest (x.expects text))

  -- the end was reached, and the whole is a text
  pub reached_all : (is : Symbols) (n m : Notes) → Reached is [] n → Goes (FinishedAs is true) n m → IsVerdict a w s0 (Reads m.fault)
  reached_all is n m x g =
      let y = g x.names x.named in (
        seen m y.0,
        refl,
        λ text.
            let f = y.2 text (rule a ∷ []) s0 x.past (x.expects text) in
            subst (λ (z : List Terminal). (tree : Tree a) × ReadsAs text a z tree s0 (seen m y.0)) (sym (append-nil x.past) ∙ x.whole) (f.1.0, (f.0, f.2)),
      )

  pub reached_end : (is : Symbols) (n m : Notes) (at : ℕ) → Reached is [] n → Goes (FinishedAs is false) n m → at ≡ length w → IsVerdict a w s0 (Stops at)
  reached_end is n m at x g e =
      let y = g x.names x.named in
      stops_at x.past [] at x.whole (ap length (sym (append-nil x.past) ∙ x.whole) ∙ sym e) (λ text. y.2 text (rule a ∷ []) s0 x.past (x.expects text))

  -- in the beginning
  pub reached_none : (n : Notes) → HasNames n.declared [] → seen n [] ≡ s0 → n.place ≡ 0 → Reached (rule a ∷ []) w n
  reached_none n h e p = record {
    names = [];
    named = h;
    past = [];
    whole = refl;
    place = sym p;
    expects = λ text. subst (λ (t : Noted). ExpectsIn text (rule a ∷ []) s0 [] (rule a ∷ []) w t) (sym e) (begun text a s0 w);
  }
