-- Own: what readers by descent give: the tree of a rule and the lexemes behind it, as the grammar
-- has them. Code goes along the lexemes with a cursor, and its lists are loops.
use Rattle.std.specs.Prelude.{◌≡◌, ℕ, ℤ, Bool, true, false, List, [], ◌∷◌, ◌++◌, Option, Some, None, Result, Ok, Err, if◌then◌else◌}
use Rattle.std.proofs.Common.{Bor}
use Rattle.tsql_lexer.specs.declared.lexeme.Spanned.{Spanned}
use Rattle.tsql_grammar.specs.declared.kind.Kind.{Kind}
use Rattle.tsql_grammar.specs.declared.kind.Kind.TheVariants as k
use Rattle.tsql_grammar.specs.declared.kind.Reserved.TheVariants as word
use Rattle.tsql_grammar.specs.declared.rule.Class.{Class}
use Rattle.tsql_grammar.specs.declared.rule.Class.TheVariants as c
use Rattle.tsql_grammar.specs.declared.rule.Rule.{Rule}
use Rattle.tsql_grammar.specs.Kinds.{same_kind}
use Rattle.tsql_grammar.specs.Lookahead.{of_any}
use Rattle.tsql_grammar.specs.Words.{kind_of}
use Rattle.tsql_grammar.specs.Terminals.{Terminal, kind, admits, units, number}
use Rattle.tsql_grammar.specs.Productions.{Tree}
use Rattle.tsql_grammar.specs.Language.{read_rule}
use Rattle.lexeme_reader.specs.declared.fault.ReadFault.{ReadFault}
use Rattle.lexeme_reader.specs.declared.fault.ReadFault.TheVariants.{NoRoom, Refused}

-- something that is read, with the lexemes behind it, or nothing
abbrev pub Outcome : Type 0 → Type 0
Outcome A = Option (A × List Terminal)

-- what is read of a rule, where trees may keep parts of the batch's text, and where they keep none
unfoldable pub read_in : List ℕ → (a : Rule) → List Terminal → Outcome (Tree a)
read_in text a w = read_rule text a w

abbrev pub read : (a : Rule) → List Terminal → Outcome (Tree a)
read a w = read_in [] a w

-- The reader gave what is read and left the lexemes behind it; it refused where nothing is read.
-- Where it had no room, it may give neither.
abbrev pub Gives : {A : Type 0} → Outcome A → Result A ReadFault → List Terminal → Type 0
Gives outcome (Ok a) rest = outcome ≡ Some (a, rest)
Gives outcome (Err e) rest = e ≡ Refused → outcome ≡ None

-- the kind of the lexeme that comes next
abbrev pub ahead : List Terminal → Option Kind
ahead [] = None
ahead (t ∷ w) = Some (kind t)

-- one lexeme of the class
unfoldable pub expect : Class → List Terminal → Outcome Terminal
expect c [] = None
expect c (t ∷ w) = if admits c (kind t) then Some (t, w) else None

-- whether the next lexeme is of one of the classes
unfoldable pub sees_any : List Class → List Terminal → Bool
sees_any classes [] = false
sees_any classes (t ∷ w) = of_any classes (kind t)

abbrev pub has_else : List Terminal → Bool
has_else [] = false
has_else (t ∷ w) = same_kind (kind_of t.spanned.lexeme) (k.Reserved word.Else)

-- a lexeme before others as the grammar takes it
abbrev pub before : Spanned → List Terminal → Terminal
before s rest = record { spanned = s; before_else = has_else rest }

-- The lexeme was taken, if one of the class came next.
abbrev pub Takes : Class → List Terminal → Option (Bor Spanned) → List Terminal → Type 0
Takes class old None new = (expect class old ≡ None) × (new ≡ old)
Takes class old (Some s) new = expect class old ≡ Some (before s.now new, new)

-- The same, with nothing of the lexeme, with its units, or with its number; or one had to come and none did.
abbrev pub Accepts : Class → List Terminal → Bool → List Terminal → Type 0
Accepts class old true new = (t : Terminal) × (expect class old ≡ Some (t, new))
Accepts class old false new = (expect class old ≡ None) × (new ≡ old)

abbrev pub Wants : Class → List Terminal → Result (Unit {0}) ReadFault → List Terminal → Type 0
Wants class old (Ok a) new = (t : Terminal) × (expect class old ≡ Some (t, new))
Wants class old (Err e) new = e ≡ Refused → expect class old ≡ None

abbrev pub TakesUnits : Class → List Terminal → Result (Option (List ℕ)) ReadFault → List Terminal → Type 0
TakesUnits class old (Ok None) new = (expect class old ≡ None) × (new ≡ old)
TakesUnits class old (Ok (Some u)) new = (t : Terminal) × (expect class old ≡ Some (t, new)) × (u ≡ units t)
TakesUnits class old (Err e) new = e ≡ NoRoom

abbrev pub WantsUnits : Class → List Terminal → Result (List ℕ) ReadFault → List Terminal → Type 0
WantsUnits class old (Ok u) new = (t : Terminal) × (expect class old ≡ Some (t, new)) × (u ≡ units t)
WantsUnits class old (Err e) new = e ≡ Refused → expect class old ≡ None

abbrev pub TakesNumber : List Terminal → Option ℤ → List Terminal → Type 0
TakesNumber old None new = (expect (c.One k.Number) old ≡ None) × (new ≡ old)
TakesNumber old (Some n) new = (t : Terminal) × (expect (c.One k.Number) old ≡ Some (t, new)) × (n ≡ number t)

abbrev pub WantsNumber : List Terminal → Result ℤ ReadFault → List Terminal → Type 0
WantsNumber old (Ok n) new = (t : Terminal) × (expect (c.One k.Number) old ≡ Some (t, new)) × (n ≡ number t)
WantsNumber old (Err e) new = e ≡ Refused → expect (c.One k.Number) old ≡ None

-- what is read goes on into what follows; nothing follows where nothing is read
infixl 10 ◌>>=◌
abbrev pub ◌>>=◌ : {A B : Type 0} → Option A → (A → Option B) → Option B
None >>= f = None
(Some a) >>= f = f a

-- the first way that begins so is taken, and the others where it does not
abbrev pub when : {A B : Type 0} → Option A → (A → Option B) → Option B → Option B
when None f other = other
when (Some a) f other = f a

-- what stands for a function of what was read before, at it
abbrev pub applied : {A B : Type 0} → A → Outcome (A → B) → Outcome B
applied x outcome = outcome >>= λ y. Some (y.0 x, y.1)

-- a list that is read behind the members that were read before
abbrev pub front : {A : Type 0} → List A → Outcome (List A) → Outcome (List A)
front done outcome = outcome >>= λ y. Some (done ++ y.0, y.1)
