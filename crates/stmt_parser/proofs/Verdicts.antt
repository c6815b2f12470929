-- What the recognizer's verdict means for a whole text.
use Rattle.std.specs.Prelude.{◌≡◌, ◌≤◌, ℕ, zero, suc, ℤ, false, true, List, [], ◌∷◌, ◌++◌, length, take, drop, Option, Some, None, refl}
use Rattle.std.proofs.Common.{ap, sym, ◌∙◌, subst, arith, inl, inr, append_assoc, append-nil}
use Rattle.std.proofs.Math.Seq.{take-length}
use Rattle.tsql_lexer.specs.declared.fault.Flaw.{Flaw}
use Rattle.std.specs.List.{slice_get}
use Rattle.tsql_lexer.specs.declared.lexeme.Spanned.{Spanned}
use Rattle.tsql_lexer.specs.Reading.{lexing_of}
use Rattle.tsql_grammar.specs.declared.noted.TextFault.{TextFault}
use Rattle.tsql_grammar.specs.declared.rule.Rule.{Rule}
use Rattle.tsql_grammar.specs.Noted.{Noted, start}
use Rattle.tsql_grammar.specs.PlainText.{IsPlainText, may_end_before_else}
use Rattle.tsql_grammar.specs.Productions.{Tree}
use Rattle.tsql_grammar.specs.Terminals.{terminals}
use Rattle.tsql_grammar.proofs.PlainTexts.{kinds_read, plain_stops}
use Rattle.grammar_laws.specs.Grammar.{next}
use Rattle.tsql_recognizer.specs.declared.recognizer.Verdict.TheVariants.{Stops, Reads}
use Rattle.tsql_recognizer.specs.Verdict.{IsVerdict}
use Rattle.tsql_grammar.specs.declared.fault.ParseFault.TheVariants as fault
use Rattle.stmt_parser.specs.Judging.{IsJudged}
use Rattle.tsql_grammar.specs.Parsed.{lexemes_of, flaw_of, Stands, StopsText, line_by, near_by, line_in, near_in, shown_of, number_of, syntax_error, IsFault}

-- one lexeme more
abbrev One : List Spanned → ℕ → Type 0
One w n = (x : Spanned) × (take (suc n) w ≡ take n w ++ x ∷ []) × (next (drop n w) ≡ Some x)

one_more : (w : List Spanned) (n : ℕ) → suc n ≤ length w → One w n
one_more [] n h = absurd (omega arith)
one_more (x ∷ w) zero h = (x, refl, refl)
one_more (x ∷ w) (suc n) h =
    let lower : suc n ≤ length w = omega arith in
    let m = one_more w n lower in
    (m.0, ap (λ (z : List Spanned). x ∷ z) m.1, m.2)

cut : (w : List Spanned) (n : ℕ) → take n w ++ drop n w ≡ w
cut w zero = refl
cut [] (suc n) = refl
cut (x ∷ w) (suc n) = ap (λ (z : List Spanned). x ∷ z) (cut w n)

-- a text stands for a tree, so it matches
matches : (a : Rule) (text : List ℕ) (tree : Tree a) (f : Option (TextFault × ℕ)) → Stands a text tree f → (t : Noted) × IsPlainText text a (lexemes_of text) (start true) t
matches a text tree f s = let r = s.reads in (r.0, (r.1.0, (tree, tt), r.1.1))

pub stops_so : (a : Rule) (text : List ℕ) (at : ℕ) → may_end_before_else a ≡ false → IsVerdict a (terminals (lexemes_of text)) (start true) (Stops at) → StopsText a text at
stops_so a text at e d =
    let p = plain_stops text a (lexemes_of text) (start true) at e (d text) in
    record {
      within = p.0;
      begins = p.1.viable;
      further = λ h b.
          let m = one_more (lexemes_of text) at h in
          let same : take (suc at) (lexemes_of text) ++ b.0 ≡ take at (lexemes_of text) ++ m.0 ∷ b.0 =
          ap (λ (z : List Spanned). z ++ b.0) m.1 ∙ append_assoc (take at (lexemes_of text)) (m.0 ∷ []) b.0 in
          p.1.further (m.0 ∷ b.0) b.1 (sym m.2) (subst (λ (z : List Spanned). IsPlainText text a z (start true) b.1) same b.2);
      unread = λ tree f s.
          let m = matches a text tree f s in
          p.1.further (drop at (lexemes_of text)) m.0 refl (subst (λ (z : List Spanned). IsPlainText text a z (start true) m.0) (sym (cut (lexemes_of text) at)) m.1);
    }

-- all lexemes are a text of the rule, and behind them stands a flaw
pub flaw_stops : (a : Rule) (text : List ℕ) (flaw : Flaw) (f : Option (TextFault × ℕ)) → flaw_of text ≡ Some flaw → IsVerdict a (terminals (lexemes_of text)) (start true) (Reads f) → StopsText a text (length (lexemes_of text))
flaw_stops a text flaw f e d =
    let r = d.2 text in
    let plain = kinds_read text a (lexemes_of text) r.0 (start true) d.0 r.1 in
    let same : take (length (lexemes_of text)) (lexemes_of text) ++ [] ≡ lexemes_of text = append-nil _ ∙ take-length (lexemes_of text) in
    record {
      within = omega arith;
      begins = ([], d.0, subst (λ (z : List Spanned). IsPlainText text a z (start true) d.0) (sym same) (plain.0, (r.0, tt), plain.1));
      further = λ h b. absurd (omega arith);
      unread = λ tree g s. let both : Some flaw ≡ None = sym e ∙ s.flawless in absurd (cc);
    }

pub reads_so : (a : Rule) (text : List ℕ) (f : Option (TextFault × ℕ)) → flaw_of text ≡ None → IsVerdict a (terminals (lexemes_of text)) (start true) (Reads f) → (tree : Tree a) × Stands a text tree f
reads_so a text f e d =
    let r = d.2 text in
    (r.0, record { flawless = e; reads = (d.0, kinds_read text a (lexemes_of text) r.0 (start true) d.0 r.1, d.1) })

pub unread_so : (a : Rule) (text : List ℕ) (at : ℕ) (number : ℤ) (line : ℕ) (near : List ℕ) → StopsText a text at → number ≡ syntax_error → line ≡ line_in text at → near ≡ near_in text at
    → IsFault a text (fault.Refused number line near)
unread_so a text at number line near s n l u = inl (record { at = at; stops = s; number_is = n; line_is = l; near_is = u })

pub wrong_so : (a : Rule) (text : List ℕ) (f : TextFault) (at : ℕ) (number : ℤ) (line : ℕ) (near : List ℕ) → (tree : Tree a) × Stands a text tree (Some (f, at)) → number ≡ number_of f → line ≡ line_in text at
    → near ≡ shown_of f text at → IsFault a text (fault.Refused number line near)
wrong_so a text f at number line near s n l u = inr (record { tree = s.0; fault = f; at = at; stands = s.1; number_is = n; line_is = l; near_is = u })

-- ---- the same of the lexemes and the flaw that the lexer gave

pub lexemes_same : (text : List ℕ) (w : List Spanned) (flaw : Option Flaw) → (w, flaw) ≡ lexing_of text → w ≡ lexemes_of text
lexemes_same text w flaw e = ap (λ (x : List Spanned × Option Flaw). x.0) e

pub flaw_same : (text : List ℕ) (w : List Spanned) (flaw : Option Flaw) → (w, flaw) ≡ lexing_of text → flaw ≡ flaw_of text
flaw_same text w flaw e = ap (λ (x : List Spanned × Option Flaw). x.1) e

pub stops_given : (a : Rule) (text : List ℕ) (w : List Spanned) (flaw : Option Flaw) (at : ℕ) → (w, flaw) ≡ lexing_of text → may_end_before_else a ≡ false → IsJudged a w (Stops at) → StopsText a text at
unfolding IsJudged
stops_given a text w flaw at e m d = stops_so a text at m (subst (λ (x : List Spanned). IsVerdict a (terminals x) (start true) (Stops at)) (lexemes_same text w flaw e) d)

pub flaw_given : (a : Rule) (text : List ℕ) (w : List Spanned) (o : Option Flaw) (flaw : Flaw) (f : Option (TextFault × ℕ)) (n : ℕ) → (w, o) ≡ lexing_of text → o ≡ Some flaw → n ≡ length w → IsJudged a w (Reads f)
    → StopsText a text n
unfolding IsJudged
flaw_given a text w o flaw f n e h l d =
    let same = lexemes_same text w o e in
    subst (λ (m : ℕ). StopsText a text m) (sym (l ∙ ap (length {A = Spanned}) same))
    (flaw_stops a text flaw f (sym (flaw_same text w o e) ∙ h) (subst (λ (x : List Spanned). IsVerdict a (terminals x) (start true) (Reads f)) same d))

pub reads_given : (a : Rule) (text : List ℕ) (w : List Spanned) (o : Option Flaw) (f g : Option (TextFault × ℕ)) → (w, o) ≡ lexing_of text → o ≡ None → f ≡ g → IsJudged a w (Reads f) → (tree : Tree a) × Stands a text tree g
unfolding IsJudged
reads_given a text w o f g e h same d =
    subst (λ (x : Option (TextFault × ℕ)). (tree : Tree a) × Stands a text tree x) same
    (reads_so a text f (sym (flaw_same text w o e) ∙ h) (subst (λ (x : List Spanned). IsVerdict a (terminals x) (start true) (Reads f)) (lexemes_same text w o e) d))

pub line_given : (text : List ℕ) (w : List Spanned) (flaw : Option Flaw) (at line : ℕ) → (w, flaw) ≡ lexing_of text → line ≡ line_by text flaw (slice_get w at) → line ≡ line_in text at
line_given text w flaw at line e l = l ∙ ap (λ (x : List Spanned × Option Flaw). line_by text x.1 (slice_get x.0 at)) e

pub near_given : (text : List ℕ) (w : List Spanned) (flaw : Option Flaw) (at : ℕ) (near : List ℕ) → (w, flaw) ≡ lexing_of text → near ≡ near_by text flaw (slice_get w at) → near ≡ near_in text at
near_given text w flaw at near e l = l ∙ ap (λ (x : List Spanned × Option Flaw). near_by text x.1 (slice_get x.0 at)) e

pub unread_given : (a : Rule) (text : List ℕ) (w : List Spanned) (flaw : Option Flaw) (at : ℕ) (line : ℕ) (near : List ℕ) → (w, flaw) ≡ lexing_of text → StopsText a text at
    → line ≡ line_by text flaw (slice_get w at) → near ≡ near_by text flaw (slice_get w at) → IsFault a text (fault.Refused syntax_error line near)
unread_given a text w flaw at line near e s l u = unread_so a text at syntax_error line near s refl (line_given text w flaw at line e l) (near_given text w flaw at near e u)

pub wrong_given : (a : Rule) (text : List ℕ) (w : List Spanned) (flaw : Option Flaw) (f : TextFault) (at : ℕ) (line : ℕ) (near : List ℕ) → (w, flaw) ≡ lexing_of text
    → (tree : Tree a) × Stands a text tree (Some (f, at)) → line ≡ line_by text flaw (slice_get w at) → near ≡ shown_of f text at → IsFault a text (fault.Refused (number_of f) line near)
wrong_given a text w flaw f at line near e s l u = wrong_so a text f at (number_of f) line near s refl (line_given text w flaw at line e l) u
