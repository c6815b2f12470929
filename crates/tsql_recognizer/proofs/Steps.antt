-- What each step of the recognizer keeps.
use Rattle.std.specs.Prelude.{◌≡◌, ℕ, Bool, true, false, List, [], ◌∷◌, ◌++◌, map, Option, Some, None, ◌<◌, refl}
use Rattle.std.proofs.Common.{ap, sym, ◌∙◌, subst}
use Rattle.std.proofs.lemmas.List.{reverse-append}
use Rattle.tsql_grammar.specs.declared.kind.Kind.{Kind}
use Rattle.tsql_grammar.specs.declared.rule.Class.{Class}
use Rattle.tsql_grammar.specs.declared.rule.Mark.{Mark}
use Rattle.tsql_grammar.specs.declared.rule.Rule.{Rule}
use Rattle.tsql_grammar.specs.Language.{language}
use Rattle.tsql_grammar.specs.Noted.{Noted, see, note}
use Rattle.tsql_grammar.specs.Productions.{Symbols, productions}
use Rattle.tsql_grammar.specs.Terminals.{Terminal, kind, admits}
use Rattle.tsql_grammar.proofs.Instance.{G, A, predictive, productive}
use Rattle.tsql_recognizer.specs.declared.symbol.Symbol.{Symbol as CodeSymbol}
use Rattle.tsql_recognizer.specs.Stack.{symbol_of, expected, pick, symbols_of_rule, Opens}
use Rattle.tsql_recognizer.specs.Steps.{ExpectsIn, Keeps, Fed, Finished}
use Rattle.tsql_recognizer.proofs.Picks.{symbols_at, picks}
use Rattle.tsql_recognizer.proofs.Weights.{lead, opens_lower}
use Rattle.grammar_laws.specs.Alternatives.{AlternativeOf, symbols_of, choose, kind_of}
use Rattle.grammar_laws.specs.Grammar.{next}
use Rattle.grammar_laws.specs.Grammar.Symbol.{lexeme, rule, mark}
use Rattle.grammar_laws.proofs.Expected as law

-- the kind of the lexeme that comes next
abbrev ahead : List Terminal → Option Kind
ahead rest = kind_of (language []) (next rest)

-- the production that was chosen, whose symbols stand in the rule's place
chosen_of : (text : List ℕ) (a : Rule) (k : Option Kind) (o : Option (AlternativeOf (language text) a)) (old new : Symbols)
    → choose (language text) a k ≡ o → Opens (symbols_at a (productions text a) o) true old new
    → (p : AlternativeOf (language text) a) × (choose (language text) a k ≡ Some p) × (new ≡ symbols_of (language text) a p ++ old)
chosen_of text a k None old new e came = absurd (cc)
chosen_of text a k (Some p) old new e came = (p, e, came.1)

none_chosen : (text : List ℕ) (a : Rule) (k : Option Kind) (o : Option (AlternativeOf (language text) a)) (old new : Symbols)
    → choose (language text) a k ≡ o → Opens (symbols_at a (productions text a) o) false old new → choose (language text) a k ≡ None
none_chosen text a k None old new e came = e
none_chosen text a k (Some p) old new e came = absurd (let it = came.0 in cc)

-- what came of opening a rule, by the grammar's choice
by_choice : (text : List ℕ) (a : Rule) (k : Option Kind) (found : Bool) (old new : Symbols) → Opens (pick (symbols_of_rule a) k) found old new
    → Opens (symbols_at a (productions text a) (choose (language text) a k)) found old new
by_choice text a k found old new came = subst (λ z. Opens z found old new) (picks text a k) came

pub came_lower : (a : Rule) (k : Option Kind) (old new : Symbols) → Opens (pick (symbols_of_rule a) k) true old new → lead new < lead (rule a ∷ old)
came_lower a k old new came =
    let p = chosen_of [] a k (choose (language []) a k) old new refl (by_choice [] a k true old new came) in
    subst (λ z. lead z < lead (rule a ∷ old)) (sym p.2) (opens_lower [] a p.0 old)

pub keeps_open : (old : Symbols) (s : Noted) (rest : List Terminal) (a : Rule) (is new : Symbols) (t : Noted) → Keeps old s rest (rule a ∷ is) t
    → Opens (pick (symbols_of_rule a) (ahead rest)) true is new → Keeps old s rest new t
keeps_open old s rest a is new t k came text start s0 past x =
    let o = ahead rest in
    let p = chosen_of text a o (choose (language text) a o) is new refl (by_choice text a o true is new came) in
    subst (λ z. ExpectsIn text start s0 past z rest t) (sym p.2)
    (law.opened (G text) (A text) (predictive text) start s0 past a p.0 is rest t p.1 (k text start s0 past x))

pub keeps_note : (old : Symbols) (s : Noted) (rest : List Terminal) (m : Mark) (is : Symbols) (t : Noted) → Keeps old s rest (mark m ∷ is) t → Keeps old s rest is (note t m)
keeps_note old s rest m is t k text start s0 past x = law.noted (G text) (A text) start s0 past m is rest t (k text start s0 past x)

pub fed_lexeme : (old : Symbols) (s : Noted) (l : Terminal) (c : Class) (is : Symbols) (t : Noted) → ((rest : List Terminal) → Keeps old s (l ∷ rest) (lexeme c ∷ is) t)
    → admits c (kind l) ≡ true → Fed old s l true is (see t l)
fed_lexeme old s l c is t k e text start s0 past rest x =
    law.took (G text) (A text) (productive text) start s0 past c is l rest t e (k rest text start s0 past x)

pub fed_note : (old : Symbols) (s : Noted) (l : Terminal) (m : Mark) (is : Symbols) (t : Noted) → Fed old s l true (mark m ∷ is) t → Fed old s l true is (note t m)
fed_note old s l m is t f text start s0 past rest x = law.noted (G text) (A text) start s0 (past ++ l ∷ []) m is rest t (f text start s0 past rest x)

pub stops_lexeme : (old : Symbols) (s : Noted) (l : Terminal) (c : Class) (is new : Symbols) (t u : Noted) → ((rest : List Terminal) → Keeps old s (l ∷ rest) (lexeme c ∷ is) t)
    → admits c (kind l) ≡ false → Fed old s l false new u
stops_lexeme old s l c is new t u k e text start s0 past rest x =
    law.stops_at_lexeme (G text) (A text) start s0 past c is l rest t e (k rest text start s0 past x)

pub stops_rule : (old : Symbols) (s : Noted) (l : Terminal) (a : Rule) (is new after : Symbols) (t u : Noted) → ((rest : List Terminal) → Keeps old s (l ∷ rest) (rule a ∷ is) t)
    → Opens (pick (symbols_of_rule a) (Some (kind l))) false is new → Fed old s l false after u
stops_rule old s l a is new after t u k came text start s0 past rest x =
    let o : Option Kind = Some (kind l) in
    law.stops_at_rule (G text) (A text) (predictive text) start s0 past a is (l ∷ rest) t
    (none_chosen text a o (choose (language text) a o) is new refl (by_choice text a o false is new came)) (k rest text start s0 past x)

pub stops_all : (old : Symbols) (s : Noted) (l : Terminal) (new : Symbols) (t u : Noted) → ((rest : List Terminal) → Keeps old s (l ∷ rest) [] t) → Fed old s l false new u
stops_all old s l new t u k text start s0 past rest x = law.stops_behind_all (G text) (A text) start s0 past l rest t (k rest text start s0 past x)

pub finished_all : (old : Symbols) (s t : Noted) → Keeps old s [] [] t → Finished old s true t
finished_all old s t k text start s0 past x = law.whole (G text) (A text) start s0 past t (k text start s0 past x)

pub unfinished_lexeme : (old : Symbols) (s : Noted) (c : Class) (is : Symbols) (t u : Noted) → Keeps old s [] (lexeme c ∷ is) t → Finished old s false u
unfinished_lexeme old s c is t u k text start s0 past x = law.stops_at_end (G text) (A text) start s0 past c is t (k text start s0 past x)

pub unfinished_rule : (old : Symbols) (s : Noted) (a : Rule) (is new : Symbols) (t u : Noted) → Keeps old s [] (rule a ∷ is) t
    → Opens (pick (symbols_of_rule a) None) false is new → Finished old s false u
unfinished_rule old s a is new t u k came text start s0 past x =
    law.stops_at_rule (G text) (A text) (predictive text) start s0 past a is [] t
    (none_chosen text a None (choose (language text) a None) is new refl (by_choice text a None false is new came)) (k text start s0 past x)

pub begun : (text : List ℕ) (a : Rule) (s : Noted) (rest : List Terminal) → ExpectsIn text (rule a ∷ []) s [] (rule a ∷ []) rest s
begun text a s rest = law.begun (G text) (A text) (productive text) a s rest

-- the top of the stack is its last
pub on_top : (old new : List CodeSymbol) (a : CodeSymbol) → old ≡ new ++ a ∷ [] → expected old ≡ symbol_of a ∷ expected new
on_top old new a e = ap expected e ∙ ap (map symbol_of) (reverse-append new (a ∷ []))
