-- What a turn of the recognizer's loops means, whichever list the set of names stands for.
use Rattle.std.specs.Prelude.{◌≡◌, ℕ, Bool, true, false, List, [], ◌∷◌, Some, None}
use Rattle.std.proofs.Common.{ap, sym, ◌∙◌, subst}
use Rattle.tsql_grammar.specs.declared.kind.Kind.{Kind}
use Rattle.tsql_grammar.specs.declared.rule.Class.{Class}
use Rattle.tsql_grammar.specs.declared.rule.Mark.{Mark}
use Rattle.tsql_grammar.specs.declared.rule.Rule.{Rule}
use Rattle.tsql_grammar.specs.Noted.{Noted, see, note}
use Rattle.tsql_grammar.specs.Productions.{Symbols}
use Rattle.tsql_grammar.specs.Terminals.{Terminal, kind, units, admits}
use Rattle.tsql_recognizer.specs.declared.notes.Notes.{Notes}
use Rattle.tsql_recognizer.specs.Notes.{Goes}
use Rattle.tsql_recognizer.specs.Stack.{pick, symbols_of_rule, Opens}
use Rattle.tsql_recognizer.specs.Steps.{Keeps, Fed, Finished}
use Rattle.tsql_recognizer.proofs.Noting.{goes_then, goes_map}
use Rattle.tsql_recognizer.proofs.Steps as step
use Rattle.grammar_laws.specs.Grammar.Symbol.{lexeme, rule, mark}

-- what was expected before a lexeme of the kind is expected so still
abbrev pub KeepsBefore : Symbols → Kind → Symbols → Noted → Noted → Type 0
KeepsBefore old k is s t = (l : Terminal) → kind l ≡ k → (rest : List Terminal) → Keeps old s (l ∷ rest) is t

-- what came of a lexeme of the kind that holds these units
abbrev pub FedAs : Symbols → Kind → List ℕ → Bool → Symbols → Noted → Noted → Type 0
FedAs old k held taken new s t = (l : Terminal) → kind l ≡ k → units l ≡ held → Fed old s l taken new t

abbrev pub FinishedAs : Symbols → Bool → Noted → Noted → Type 0
FinishedAs old whole s t = Finished old s whole t

abbrev pub KeepsAtEnd : Symbols → Symbols → Noted → Noted → Type 0
KeepsAtEnd old is s t = Keeps old s [] is t

module _ (old : Symbols) (k : Kind) (held : List ℕ) (a b : Notes) (top is : Symbols) where
  pub feeds_open : (x : Rule) (new : Symbols) → top ≡ rule x ∷ is → Opens (pick (symbols_of_rule x) (Some k)) true is new
      → Goes (KeepsBefore old k top) a b → Goes (KeepsBefore old k new) a b
  feeds_open x new e came g = goes_map (KeepsBefore old k top) (KeepsBefore old k new) a b
      (λ s t kept l same rest. step.keeps_open old s (l ∷ rest) x is new t (subst (λ z. Keeps old s (l ∷ rest) z t) e (kept l same rest))
      (subst (λ z. Opens (pick (symbols_of_rule x) (Some z)) true is new) (sym same) came)) g

  pub feeds_note : (m : Mark) (c : Notes) → top ≡ mark m ∷ is → Goes (λ s t. t ≡ note s m) b c
      → Goes (KeepsBefore old k top) a b → Goes (KeepsBefore old k is) a c
  feeds_note m c e noted g = goes_then (KeepsBefore old k top) (λ s t. t ≡ note s m) (KeepsBefore old k is) a b c
      (λ s t u kept same l here rest. subst (λ z. Keeps old s (l ∷ rest) is z) (sym same)
      (step.keeps_note old s (l ∷ rest) m is t (subst (λ z. Keeps old s (l ∷ rest) z t) e (kept l here rest)))) g noted

  pub feeds_lexeme : (x : Class) (c : Notes) → top ≡ lexeme x ∷ is → admits x k ≡ true → Goes (λ s t. (l : Terminal) → units l ≡ held → t ≡ see s l) b c
      → Goes (KeepsBefore old k top) a b → Goes (FedAs old k held true is) a c
  feeds_lexeme x c e fits sees g = goes_then (KeepsBefore old k top) (λ s t. (l : Terminal) → units l ≡ held → t ≡ see s l) (FedAs old k held true is) a b c
      (λ s t u kept seen l here holds. subst (λ z. Fed old s l true is z) (sym (seen l holds))
      (step.fed_lexeme old s l x is t (λ rest. subst (λ z. Keeps old s (l ∷ rest) z t) e (kept l here rest)) (ap (admits x) here ∙ fits))) g sees

  pub stops_lexeme : (x : Class) (new : Symbols) → top ≡ lexeme x ∷ is → admits x k ≡ false
      → Goes (KeepsBefore old k top) a b → Goes (FedAs old k held false new) a b
  stops_lexeme x new e fits g = goes_map (KeepsBefore old k top) (FedAs old k held false new) a b
      (λ s t kept l here holds. step.stops_lexeme old s l x is new t t (λ rest. subst (λ z. Keeps old s (l ∷ rest) z t) e (kept l here rest)) (ap (admits x) here ∙ fits)) g

  pub stops_rule : (x : Rule) (new after : Symbols) → top ≡ rule x ∷ is → Opens (pick (symbols_of_rule x) (Some k)) false is new
      → Goes (KeepsBefore old k top) a b → Goes (FedAs old k held false after) a b
  stops_rule x new after e came g = goes_map (KeepsBefore old k top) (FedAs old k held false after) a b
      (λ s t kept l here holds. step.stops_rule old s l x is new after t t (λ rest. subst (λ z. Keeps old s (l ∷ rest) z t) e (kept l here rest))
      (subst (λ z. Opens (pick (symbols_of_rule x) (Some z)) false is new) (sym here) came)) g

  pub stops_all : (new : Symbols) → top ≡ [] → Goes (KeepsBefore old k top) a b → Goes (FedAs old k held false new) a b
  stops_all new e g = goes_map (KeepsBefore old k top) (FedAs old k held false new) a b
      (λ s t kept l here holds. step.stops_all old s l new t t (λ rest. subst (λ z. Keeps old s (l ∷ rest) z t) e (kept l here rest))) g

-- a mark behind a lexeme that was taken
pub fed_note : (old : Symbols) (k : Kind) (held : List ℕ) (a b c : Notes) (m : Mark) (is : Symbols) → Goes (λ s t. t ≡ note s m) b c
    → Goes (FedAs old k held true (mark m ∷ is)) a b → Goes (FedAs old k held true is) a c
fed_note old k held a b c m is noted g = goes_then (FedAs old k held true (mark m ∷ is)) (λ s t. t ≡ note s m) (FedAs old k held true is) a b c
    (λ s t u fed same l here holds. subst (λ z. Fed old s l true is z) (sym same) (step.fed_note old s l m is t (fed l here holds))) g noted

module _ (old : Symbols) (a b : Notes) (top is : Symbols) where
  pub ends_open : (x : Rule) (new : Symbols) → top ≡ rule x ∷ is → Opens (pick (symbols_of_rule x) None) true is new
      → Goes (KeepsAtEnd old top) a b → Goes (KeepsAtEnd old new) a b
  ends_open x new e came g = goes_map (KeepsAtEnd old top) (KeepsAtEnd old new) a b
      (λ s t kept. step.keeps_open old s [] x is new t (subst (λ z. Keeps old s [] z t) e kept) came) g

  pub ends_note : (m : Mark) (c : Notes) → top ≡ mark m ∷ is → Goes (λ s t. t ≡ note s m) b c
      → Goes (KeepsAtEnd old top) a b → Goes (KeepsAtEnd old is) a c
  ends_note m c e noted g = goes_then (KeepsAtEnd old top) (λ s t. t ≡ note s m) (KeepsAtEnd old is) a b c
      (λ s t u kept same. subst (λ z. Keeps old s [] is z) (sym same) (step.keeps_note old s [] m is t (subst (λ z. Keeps old s [] z t) e kept))) g noted

  pub ends_all : top ≡ [] → Goes (KeepsAtEnd old top) a b → Goes (FinishedAs old true) a b
  ends_all e g = goes_map (KeepsAtEnd old top) (FinishedAs old true) a b (λ s t kept. step.finished_all old s t (subst (λ z. Keeps old s [] z t) e kept)) g

  pub ends_lexeme : (x : Class) → top ≡ lexeme x ∷ is → Goes (KeepsAtEnd old top) a b → Goes (FinishedAs old false) a b
  ends_lexeme x e g = goes_map (KeepsAtEnd old top) (FinishedAs old false) a b
      (λ s t kept. step.unfinished_lexeme old s x is t t (subst (λ z. Keeps old s [] z t) e kept)) g

  pub ends_rule : (x : Rule) (new : Symbols) → top ≡ rule x ∷ is → Opens (pick (symbols_of_rule x) None) false is new
      → Goes (KeepsAtEnd old top) a b → Goes (FinishedAs old false) a b
  ends_rule x new e came g = goes_map (KeepsAtEnd old top) (FinishedAs old false) a b
      (λ s t kept. step.unfinished_rule old s x is new t t (subst (λ z. Keeps old s [] z t) e kept) came) g
