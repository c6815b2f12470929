-- Own: what the next lexeme tells, the tables FIRST, FOLLOW and "may be empty" of predictive reading
-- [Aho, Lam, Sethi and Ullman, Compilers, 4.4.2]. The sets are given with the table, not computed;
-- Predictive.antt says when they are right.
use Rattle.std.specs.Prelude.{◌≡◌, Bool, true, false, ◌||◌, ◌&&◌, List, [], ◌∷◌, Option}
use Rattle.grammar_laws.specs.Grammar.{Symbol, Grammar}
use Rattle.grammar_laws.specs.Grammar.Symbol.{lexeme, rule, mark}

-- What one lexeme ahead tells of each rule.
pub record Lookahead (Lexeme Class Rule : Type 0) (Production : Rule → Type 0) : Type 0 where
  -- the lexeme may begin a text of the rule
  pub first : Rule → Lexeme → Bool
  -- the lexeme may stand behind a text of the rule
  pub follow : Rule → Lexeme → Bool
  -- the empty text is of the rule
  pub nullable : Rule → Bool
  -- which production is taken before the lexeme, or at the end of the text
  pub choose : (r : Rule) → Option Lexeme → Option (Production r)
  -- lexemes that belong to the nearest rule that takes them, as ELSE to the nearest open IF: only
  -- before these a production may be disallowed
  pub binding : Class → Bool

module _ {Class Rule Mark : Type 0} (nullable : Rule → Bool) where
  -- the empty text may be of the symbols, by what is told of the rules
  abbrev pub empties_by : List (Symbol Class Rule Mark) → Bool
  empties_by [] = true
  empties_by (lexeme c ∷ is) = false
  empties_by (rule r ∷ is) = nullable r && empties_by is
  empties_by (mark m ∷ is) = empties_by is

module _ {Seen Class Rule Mark : Type 0} (admits : Class → Seen → Bool) (first : Rule → Seen → Bool) (nullable : Rule → Bool) where
  -- what is seen of a lexeme may begin a text of the symbols, by what is told of the rules
  abbrev pub begins_by : List (Symbol Class Rule Mark) → Seen → Bool
  begins_by [] l = false
  begins_by (lexeme c ∷ is) l = admits c l
  begins_by (rule r ∷ is) l = first r l || (nullable r && begins_by is l)
  begins_by (mark m ∷ is) l = begins_by is l

module _ {Lexeme Class Rule Mark State : Type 0} (g : Grammar Lexeme Class Rule Mark State) (a : Lookahead Lexeme Class Rule g.Production) where
  -- the lexeme may begin a text of the symbols
  abbrev pub begins : List (Symbol Class Rule Mark) → Lexeme → Bool
  begins is l = begins_by g.admits a.first a.nullable is l

  -- the empty text may be of the symbols
  abbrev pub empties : List (Symbol Class Rule Mark) → Bool
  empties is = empties_by a.nullable is

  -- behind each rule of the symbols stand its followers alone
  abbrev pub KeepsFollow : List (Symbol Class Rule Mark) → Type 0
  KeepsFollow [] = Unit {0}
  KeepsFollow (lexeme c ∷ is) = KeepsFollow is
  KeepsFollow (mark m ∷ is) = KeepsFollow is
  KeepsFollow (rule r ∷ is) = ((l : Lexeme) → begins is l ≡ true → a.follow r l ≡ true) × KeepsFollow is

  -- the same in a production of the rule q, behind which stand the followers of q
  abbrev pub KeepsFollowIn : Rule → List (Symbol Class Rule Mark) → Type 0
  KeepsFollowIn q [] = Unit {0}
  KeepsFollowIn q (lexeme c ∷ is) = KeepsFollowIn q is
  KeepsFollowIn q (mark m ∷ is) = KeepsFollowIn q is
  KeepsFollowIn q (rule r ∷ is) =
      ((l : Lexeme) → begins is l ≡ true → a.follow r l ≡ true)
      × (empties is ≡ true → (l : Lexeme) → a.follow q l ≡ true → a.follow r l ≡ true) × KeepsFollowIn q is

  -- no symbol is a binding lexeme
  abbrev pub HasNoBinding : List (Symbol Class Rule Mark) → Type 0
  HasNoBinding [] = Unit {0}
  HasNoBinding (lexeme c ∷ is) = (a.binding c ≡ false) × HasNoBinding is
  HasNoBinding (rule r ∷ is) = HasNoBinding is
  HasNoBinding (mark m ∷ is) = HasNoBinding is

  -- binding lexemes stand only among the first symbols, before any rule or mark
  abbrev pub BindsAtFront : List (Symbol Class Rule Mark) → Type 0
  BindsAtFront [] = Unit {0}
  BindsAtFront (lexeme c ∷ is) = BindsAtFront is
  BindsAtFront (rule r ∷ is) = HasNoBinding is
  BindsAtFront (mark m ∷ is) = HasNoBinding is
