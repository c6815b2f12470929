-- Rules opened one after another before a lexeme of a kind.
use Rattle.std.specs.Prelude.{◌≡◌, ℕ, zero, suc, ◌<◌, Bool, true, false, not, ◌||◌, if◌then◌else◌, List, [], ◌∷◌, ◌++◌, Option, Some, None, IfSome, Result, Ok, Err, IfOk, refl}
use Rattle.std.proofs.Common.{append_assoc, ap, sym, ◌∙◌, subst, arith, Bor}
use Rattle.std.specs.declared.alloc.AllocError.{AllocError}
use Rattle.tsql_grammar.specs.declared.kind.Kind.{Kind}
use Rattle.tsql_grammar.specs.declared.rule.Class.{Class}
use Rattle.tsql_grammar.specs.declared.rule.Mark.TheVariants.{Enter, Leave}
use Rattle.tsql_grammar.specs.declared.rule.Rule.{Rule}
use Rattle.tsql_grammar.specs.Noted.{see, note}
use Rattle.tsql_grammar.specs.Terminals.{Terminal, units, admits}
use Rattle.tsql_grammar.specs.Productions.{Symbols}
use Rattle.tsql_recognizer.specs.declared.symbol.Symbol.{Symbol as CodeSymbol}
use Rattle.tsql_recognizer.specs.declared.notes.Notes.{Notes}
use Rattle.tsql_recognizer.specs.Notes.{Goes}
use Rattle.tsql_recognizer.specs.Stack.{shown, first_empty, or_empty, pick, symbols_of_rule, Opens, Leads, ComesTo, Opened, Develops, Shows, Follows}
use Rattle.tsql_recognizer.specs.declared.step.Step.{Step}
use Rattle.tsql_recognizer.specs.declared.step.Step.TheVariants as step
use Rattle.tsql_recognizer.proofs.Feeding.{KeepsBefore, FedAs, feeds_open, feeds_lexeme, fed_note}
use Rattle.tsql_recognizer.proofs.Steps.{came_lower}
use Rattle.tsql_recognizer.proofs.Weights.{lead}
use Rattle.grammar_laws.specs.Grammar.Symbol.{lexeme, rule, mark}

-- the same above further symbols
leads_above : (n : ℕ) (k : Kind) (old new more : Symbols) → Leads n k old new → Leads n k (old ++ more) (new ++ more)
leads_above zero k old new more e = ap (λ z. z ++ more) e
leads_above (suc n) k [] new more x = absurd x
leads_above (suc n) k (lexeme c ∷ is) new more x = absurd x
leads_above (suc n) k (mark m ∷ is) new more x = absurd x
leads_above (suc n) k (rule a ∷ is) new more x =
    (x.0, x.1, subst (λ (z : Symbols). Leads n k z (new ++ more)) (append_assoc x.0 is more) (leads_above n k (x.0 ++ is) new more x.2))

-- what shows that a rule was opened
pub develops_opened : (k : Kind) (a : Rule) (it : Step) (old new : Symbols) → Opened k a it old new → Develops k a it old new
develops_opened k a step.Stops old new x = absurd x.3
develops_opened k a step.Opens old new x = x
develops_opened k a step.Takes old new x = x
develops_opened k a step.Enters old new x = x
develops_opened k a step.Leaves old new x = x

pub develops_above : (k : Kind) (a : Rule) (it : Step) (is old new : Symbols) → ComesTo k a is → Shows k it (is ++ old) new → Develops k a it old new
develops_above k a it is old new x shows = develops_opened k a it old new (x.0, is ++ old, leads_above (suc x.0) k (rule a ∷ []) is old x.1, shows)

-- the same, where the rule is the first of a production that is chosen
pub develops_within : (k : Kind) (a b : Rule) (it : Step) (is more old new : Symbols) → pick (symbols_of_rule a) (Some k) ≡ Some (rule b ∷ more)
    → ComesTo k b is → Shows k it (is ++ (more ++ old)) new → Develops k a it old new
develops_within k a b it is more old new e x shows = develops_opened k a it old new
    (suc x.0, is ++ (more ++ old), (rule b ∷ more, e, leads_above (suc x.0) k (rule b ∷ []) is (more ++ old) x.1), shows)

-- one production that is chosen, and put in the rule's place
pub develops_one : (k : Kind) (a : Rule) (is old new : Symbols) → pick (symbols_of_rule a) (Some k) ≡ Some is → new ≡ is ++ old → Develops k a step.Opens old new
develops_one k a is old new e f = (0, is ++ old, (is, e, refl), sym f)

-- one production that is chosen
pub comes_one : (k : Kind) (a : Rule) (found : Option (Bor (List CodeSymbol))) → IfSome found (λ it. Some (shown it) ≡ pick (symbols_of_rule a) (Some k))
    → IfSome found (λ it. ComesTo k a (shown it))
comes_one k a None h = h
comes_one k a (Some it) h = (0, (shown it, sym h, append_none (shown it)))
  where
    append_none : (is : Symbols) → is ≡ is ++ []
    append_none [] = refl
    append_none (i ∷ is) = ap (λ z. i ∷ z) (append_none is)

-- what came of opening a rule by its productions
pub opens_develop : (k : Kind) (a : Rule) (found : Bool) (old new : Symbols) → found ≡ true → Opens (pick (symbols_of_rule a) (Some k)) found old new → Develops k a step.Opens old new
opens_develop k a found old new b h = go (pick (symbols_of_rule a) (Some k)) refl h
  where
    go : (o : Option Symbols) → pick (symbols_of_rule a) (Some k) ≡ o → Opens o found old new → Develops k a step.Opens old new
    go None e h = absurd (cc)
    go (Some is) e h = develops_one k a is old new e h.1

pub opens_stop : (k : Kind) (a : Rule) (found : Bool) (old new : Symbols) → found ≡ false → Opens (pick (symbols_of_rule a) (Some k)) found old new → Develops k a step.Stops old new
opens_stop k a found old new b h = go (pick (symbols_of_rule a) (Some k)) refl h
  where
    go : (o : Option Symbols) → pick (symbols_of_rule a) (Some k) ≡ o → Opens o found old new → Develops k a step.Stops old new
    go None e h = e
    go (Some is) e h = absurd (let it = h.0 in cc)

opens_so : (k : Kind) (a : Rule) (is old : Symbols) → pick (symbols_of_rule a) (Some k) ≡ Some is → Opens (pick (symbols_of_rule a) (Some k)) true old (is ++ old)
opens_so k a is old e = subst (λ o. Opens o true old (is ++ old)) (sym e) (refl, refl)

pub leads_lower : (n : ℕ) (k : Kind) (old new : Symbols) → Leads (suc n) k old new → lead new < lead old
leads_lower n k [] new x = absurd x
leads_lower n k (lexeme c ∷ is) new x = absurd x
leads_lower n k (mark m ∷ is) new x = absurd x
leads_lower zero k (rule a ∷ is) new x = subst (λ z. lead z < lead (rule a ∷ is)) (sym x.2) (came_lower a (Some k) is (x.0 ++ is) (opens_so k a x.0 is x.1))
leads_lower (suc n) k (rule a ∷ is) new x =
    let one = came_lower a (Some k) is (x.0 ++ is) (opens_so k a x.0 is x.1) in
    let more = leads_lower n k (x.0 ++ is) new x.2 in omega (arith, one, more)

pub leads_keep : (old : Symbols) (k : Kind) (held : List ℕ) (a b : Notes) (n : ℕ) (top new : Symbols) → Leads n k top new
    → Goes (KeepsBefore old k top) a b → Goes (KeepsBefore old k new) a b
leads_keep old k held a b zero top new e g = subst (λ (z : Symbols). Goes (KeepsBefore old k z) a b) (sym e) g
leads_keep old k held a b (suc n) [] new x g = absurd x
leads_keep old k held a b (suc n) (lexeme c ∷ is) new x g = absurd x
leads_keep old k held a b (suc n) (mark m ∷ is) new x g = absurd x
leads_keep old k held a b (suc n) (rule r ∷ is) new x g =
    leads_keep old k held a b n (x.0 ++ is) new x.2 (feeds_open old k held a b (rule r ∷ is) is r (x.0 ++ is) refl (opens_so k r x.0 is x.1) g)

pub none_opens : (k : Kind) (a : Rule) (is new : Symbols) → Develops k a step.Stops is new → Opens (pick (symbols_of_rule a) (Some k)) false is new
none_opens k a is new e = subst (λ o. Opens o false is new) (sym e) refl

-- what is expected before the step leaves so much of it
opened_keep : (old : Symbols) (k : Kind) (held : List ℕ) (a b : Notes) (x : Rule) (it : Step) (is top new : Symbols) → top ≡ rule x ∷ is
    → (came : Opened k x it is new) → Goes (KeepsBefore old k top) a b → Goes (KeepsBefore old k came.1) a b
opened_keep old k held a b x it is top new e came g =
    leads_keep old k held a b (suc came.0) (rule x ∷ is) came.1 came.2 (subst (λ (z : Symbols). Goes (KeepsBefore old k z) a b) e g)

pub develops_keep : (old : Symbols) (k : Kind) (held : List ℕ) (a b : Notes) (x : Rule) (is top new : Symbols) → top ≡ rule x ∷ is → Develops k x step.Opens is new
    → Goes (KeepsBefore old k top) a b → Goes (KeepsBefore old k new) a b
develops_keep old k held a b x is top new e came g =
    subst (λ (z : Symbols). Goes (KeepsBefore old k z) a b) came.3 (opened_keep old k held a b x step.Opens is top new e came g)

pub develops_lower : (k : Kind) (x : Rule) (is new : Symbols) → Develops k x step.Opens is new → lead new < lead (rule x ∷ is)
develops_lower k x is new came = subst (λ (z : Symbols). lead z < lead (rule x ∷ is)) came.3 (leads_lower came.0 k (rule x ∷ is) came.1 came.2)

module _ (old : Symbols) (k : Kind) (held : List ℕ) (a b c : Notes) (x : Rule) (is top new : Symbols) where
  -- the lexeme is taken
  pub develops_take : top ≡ rule x ∷ is → Develops k x step.Takes is new → Goes (λ s t. (l : Terminal) → units l ≡ held → t ≡ see s l) b c
      → Goes (KeepsBefore old k top) a b → Goes (FedAs old k held true new) a c
  develops_take e came sees g =
      feeds_lexeme old k held a b came.1 new came.3.0 c came.3.2 came.3.1 sees (opened_keep old k held a b x step.Takes is top new e came g)

  -- it is taken, and a mark is noted
  pub develops_enter : (d : Notes) → top ≡ rule x ∷ is → Develops k x step.Enters is new → Goes (λ s t. (l : Terminal) → units l ≡ held → t ≡ see s l) b c
      → Goes (λ s t. t ≡ note s Enter) c d → Goes (KeepsBefore old k top) a b → Goes (FedAs old k held true new) a d
  develops_enter d e came sees noted g = fed_note old k held a c d Enter new noted
      (feeds_lexeme old k held a b came.1 (mark Enter ∷ new) came.3.0 c came.3.2 came.3.1 sees (opened_keep old k held a b x step.Enters is top new e came g))

  pub develops_leave : (d : Notes) → top ≡ rule x ∷ is → Develops k x step.Leaves is new → Goes (λ s t. (l : Terminal) → units l ≡ held → t ≡ see s l) b c
      → Goes (λ s t. t ≡ note s Leave) c d → Goes (KeepsBefore old k top) a b → Goes (FedAs old k held true new) a d
  develops_leave d e came sees noted g = fed_note old k held a c d Leave new noted
      (feeds_lexeme old k held a b came.1 (mark Leave ∷ new) came.3.0 c came.3.2 came.3.1 sees (opened_keep old k held a b x step.Leaves is top new e came g))

-- a lexeme that is taken, and what stands behind it
pub shows_behind : (k : Kind) (c : Class) (it : Step) (top behind new : Symbols) → admits c k ≡ true → top ≡ lexeme c ∷ behind → Follows it behind new → Shows k it top new
shows_behind k c step.Stops top behind new fits e x = absurd x
shows_behind k c step.Opens top behind new fits e x = absurd x
shows_behind k c step.Takes top behind new fits e x = (c, fits, e ∙ ap (λ z. lexeme c ∷ z) x)
shows_behind k c step.Enters top behind new fits e x = (c, fits, e ∙ ap (λ z. lexeme c ∷ z) x)
shows_behind k c step.Leaves top behind new fits e x = (c, fits, e ∙ ap (λ z. lexeme c ∷ z) x)

-- what a rule comes to, at a rule that is known
pub comes_at : (a b : Rule) → a ≡ b → (k : Kind) (found : Option (Bor (List CodeSymbol))) → IfSome found (λ it. ComesTo k b (shown it)) → IfSome found (λ it. ComesTo k a (shown it))
comes_at a b e k found h = subst (λ c. IfSome found (λ it. ComesTo k c (shown it))) (sym e) h

pub comes_one_at : (a b : Rule) → a ≡ b → (k : Kind) (found : Option (Bor (List CodeSymbol))) → IfSome found (λ it. Some (shown it) ≡ pick (symbols_of_rule b) (Some k))
    → IfSome found (λ it. ComesTo k a (shown it))
comes_one_at a b e k found h = comes_at a b e k found (comes_one k b found h)

-- the same before a kind that is known
pub comes_before : (k l : Kind) → k ≡ l → (a : Rule) (is : Symbols) → ComesTo l a is → ComesTo k a is
comes_before k l e a is x = subst (λ z. ComesTo z a is) (sym e) x

-- a rule that comes to nothing
pub falls_at : (a b : Rule) → a ≡ b → (k : Kind) → pick (symbols_of_rule b) (Some k) ≡ Some [] → ComesTo k a []
falls_at a b e k h = subst (λ c. ComesTo k c []) (sym e) (0, ([], h, refl))

pub not_true : (b : Bool) → not b ≡ true → b ≡ false
not_true true e = absurd (cc)
not_true false e = refl

pub falls_lexeme : (b : Bool) (is : Symbols) (ways : List Symbols) → b ≡ false → first_empty ways ≡ Some [] → or_empty (if b then Some is else None) ways ≡ Some []
falls_lexeme true is ways e f = absurd (cc)
falls_lexeme false is ways e f = f

pub falls_rule : (b : Bool) (is : Symbols) (ways : List Symbols) → b ≡ false → first_empty ways ≡ Some [] → or_empty (if (b || false) then Some is else None) ways ≡ Some []
falls_rule true is ways e f = absurd (cc)
falls_rule false is ways e f = f

-- what was put in a rule's place
pub puts_develop : (k : Kind) (a : Rule) (is old new : Symbols) (result : Result Step AllocError) → ComesTo k a is → IfOk result (λ it. Shows k it (is ++ old) new)
    → IfOk result (λ it. Develops k a it old new)
puts_develop k a is old new (Ok it) x h = develops_above k a it is old new x h
puts_develop k a is old new (Err e) x h = h

pub puts_within : (k : Kind) (a b : Rule) (is more old mid new : Symbols) (result : Result Step AllocError) → pick (symbols_of_rule a) (Some k) ≡ Some (rule b ∷ more)
    → ComesTo k b is → mid ≡ more ++ old → IfOk result (λ it. Shows k it (is ++ mid) new) → IfOk result (λ it. Develops k a it old new)
puts_within k a b is more old mid new (Ok it) e x f h = develops_within k a b it is more old new e x (subst (λ (z : Symbols). Shows k it (is ++ z) new) f h)
puts_within k a b is more old mid new (Err e) g x f h = h
