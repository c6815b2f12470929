-- The longest run of lexemes, from what the recognizer says of them.
use Rattle.std.specs.Prelude.{◌≡◌, ◌≤◌, ◌+◌, ℕ, suc, zero, false, List, [], ◌∷◌, ◌++◌, length, take, drop, Option, Some, None, Ok, Err, refl}
use Rattle.std.proofs.Common.{ap, sym, ◌∙◌, subst, arith, append-nil, append_assoc}
use Rattle.std.proofs.Math.Seq.{take-length}
use Rattle.std.proofs.lemmas.List.{take-append-drop}
use Rattle.tsql_lexer.specs.declared.lexeme.Spanned.{Spanned}
use Rattle.tsql_grammar.specs.declared.noted.TextFault.{TextFault}
use Rattle.tsql_grammar.specs.declared.rule.Rule.{Rule}
use Rattle.tsql_grammar.specs.Language.{language, ReadsAs, StopsIn}
use Rattle.tsql_grammar.specs.Noted.{Noted, start}
use Rattle.tsql_grammar.specs.Productions.{Tree}
use Rattle.tsql_grammar.specs.Terminals.{Terminal, terminals}
use Rattle.grammar_laws.specs.Grammar.{Matches, next}
use Rattle.grammar_laws.specs.Grammar.Symbol.{rule}
use Rattle.grammar_laws.specs.Alternatives.{grammar_of}
use Rattle.tsql_recognizer.specs.Verdict.{IsVerdict}
use Rattle.tsql_recognizer.specs.declared.recognizer.Verdict.TheVariants as verdict
use Rattle.tsql_grammar.specs.declared.fault.ParseFault.{ParseFault}
use Rattle.tsql_grammar.specs.declared.fault.ParseFault.TheVariants as parse_fault
use Rattle.query_parser.specs.declared.run.Run.{Run}
use Rattle.query_parser.specs.declared.run.Run.TheVariants as run
use Rattle.query_parser.specs.Parsed.{IsLongest, ReadsWith, IsRun, run_with, IsSaid, IsParsed}

pub terminals_length : (text : List Spanned) → length (terminals text) ≡ length text
terminals_length [] = refl
terminals_length (l ∷ text) = ap suc (terminals_length text)

matched : (a : Rule) (w : List Terminal) (tree : Tree a) (t : Noted) → ReadsAs [] a w tree (start false) t → Matches (grammar_of (language [])) (rule a ∷ []) w (start false) t
matched a w tree t e = (e.0, (tree, tt), e.1)

-- what stops is no text of the rule
pub none_reads : (a : Rule) (w : List Terminal) (n : ℕ) → StopsIn [] a w (start false) n → (tree : Tree a) (t : Noted) → ReadsAs [] a w tree (start false) t → ⊥
none_reads a w n e tree t reads =
    e.1.further (drop n w) t refl
    (subst (λ (v : List Terminal). Matches (grammar_of (language [])) (rule a ∷ []) v (start false) t) (sym (take-append-drop n w)) (matched a w tree t reads))

pub longest_whole : (a : Rule) (w : List Terminal) (tree : Tree a) (t : Noted) → ReadsAs [] a w tree (start false) t → IsLongest a w (length w)
longest_whole a w tree t reads = record {
  within = omega arith;
  begins = ([], t, subst (λ (v : List Terminal). Matches (grammar_of (language [])) (rule a ∷ []) v (start false) t) (sym (append-nil (take (length w) w) ∙ take-length w)) (matched a w tree t reads));
  further = λ e. absurd (omega (arith, e));
}

one_more : (w : List Terminal) (n : ℕ) → suc n ≤ length w → (x : Terminal) × (rest : List Terminal) × (drop n w ≡ x ∷ rest) × (take (suc n) w ≡ take n w ++ x ∷ [])
one_more [] n e = absurd (omega (arith, e))
one_more (x ∷ w) zero e = (x, w, refl, refl)
one_more (x ∷ w) (suc n) e =
    let inner = one_more w n (omega (arith, e)) in
    (inner.0, inner.1, inner.2, ap (λ (l : List Terminal). x ∷ l) inner.3)

pub longest_stops : (a : Rule) (w : List Terminal) (n : ℕ) → StopsIn [] a w (start false) n → IsLongest a w n
longest_stops a w n e = record {
  within = e.0;
  begins = e.1.viable;
  further = λ within begun.
      let more = one_more w n within in
      e.1.further (more.0 ∷ begun.0) begun.1 (ap next (sym more.2))
      (subst (λ (v : List Terminal). Matches (grammar_of (language [])) (rule a ∷ []) v (start false) begun.1)
      (ap (λ (l : List Terminal). l ++ begun.0) more.3 ∙ append_assoc (take n w) (more.0 ∷ []) begun.0) begun.2);
}

with_fault : (a : Rule) (text : List Spanned) (n : ℕ) (fault : Option (TextFault × ℕ)) → IsLongest a (terminals text) n
    → (tree : Tree a) × ReadsWith a (take n text) tree fault → IsRun a text (run_with n fault)
unfolding run_with
with_fault a text n None longest reads = (longest, reads.0, reads.1)
with_fault a text n (Some (fault, place)) longest reads = (longest, reads.0, fault, reads.1)

pub run_whole : (a : Rule) (text : List Spanned) (fault : Option (TextFault × ℕ)) → IsVerdict a (terminals text) (start false) (verdict.Reads fault)
    → IsRun a text (run_with (length text) fault)
run_whole a text fault (t, same, reads) =
    with_fault a text (length text) fault
    (subst (λ (n : ℕ). IsLongest a (terminals text) n) (terminals_length text) (longest_whole a (terminals text) (reads []).0 t (reads []).1))
    (subst (λ (part : List Spanned). (tree : Tree a) × ReadsWith a part tree fault) (sym (take-length text)) ((reads []).0, (t, (reads []).1, same)))

pub run_part : (a : Rule) (text : List Spanned) (n : ℕ) (fault : Option (TextFault × ℕ)) → IsVerdict a (terminals text) (start false) (verdict.Stops n)
    → IsVerdict a (terminals (take n text)) (start false) (verdict.Reads fault) → IsRun a text (run_with n fault)
run_part a text n fault stops (t, same, reads) = with_fault a text n fault (longest_stops a (terminals text) n (stops [])) ((reads []).0, (t, (reads []).1, same))

pub run_none : (a : Rule) (text : List Spanned) (n m : ℕ) → IsVerdict a (terminals text) (start false) (verdict.Stops n)
    → IsVerdict a (terminals (take n text)) (start false) (verdict.Stops m) → IsRun a text (run.Stops n)
run_none a text n m stops none = (longest_stops a (terminals text) n (stops []), none_reads a (terminals (take n text)) m (none []))

pub within_run : (a : Rule) (text : List Spanned) (n : ℕ) → IsVerdict a (terminals text) (start false) (verdict.Stops n) → n ≤ length text
within_run a text n stops = subst (λ (m : ℕ). n ≤ m) (terminals_length text) (stops []).0

-- a run that reads is within its text, and its lexemes are a text of the rule
pub run_within : (a : Rule) (text : List Spanned) (n : ℕ) → IsRun a text (run.Reads n) → n ≤ length text
run_within a text n is = subst (λ (m : ℕ). n ≤ m) (terminals_length text) is.0.within

pub run_reads : (a : Rule) (text part : List Spanned) (n : ℕ) → part ≡ take n text → IsRun a text (run.Reads n)
    → (tree : Tree a) × ReadsWith a part tree None
run_reads a text part n same is =
    subst (λ (l : List Spanned). (tree : Tree a) × ReadsWith a l tree None) (sym same) (is.1, is.2)

-- what is parsed, and what is said of a run that gives no tree
pub parsed : (a : Rule) (text part : List Spanned) (at n after : ℕ) (tree : Tree a) → IsRun a (drop at text) (run.Reads n) → after ≡ at + n
    → part ≡ take n (drop at text) → ReadsWith a part tree None → IsParsed a text at (Ok (tree, after))
parsed a text part at n after tree is e same reads =
    (n, e, is.0, subst (λ (l : List Spanned). ReadsWith a l tree None) same reads)

pub refused : (a : Rule) (text : List Spanned) (at : ℕ) (found : Run) (e : ParseFault) → IsRun a (drop at text) found → IsSaid text at found e
    → IsParsed a text at (Err e)
refused a text at found (parse_fault.Refused number line near) is said = (found, is, said)
refused a text at found parse_fault.Memory is said = tt
