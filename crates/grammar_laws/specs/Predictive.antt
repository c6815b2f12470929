-- Own: what the laws ask of a table. A grammar is predictive where one lexeme ahead chooses the
-- production (LL(1) but for the productions that are disallowed) [Aho, Lam, Sethi and Ullman,
-- Compilers, 4.4.3], and productive where each rule has a text. Each field is a test that is finite
-- for a table whose lexemes have finitely many kinds.
use Rattle.std.specs.Prelude.{◌≡◌, ℕ, suc, ◌+◌, ◌<◌, ◌≤◌, max, Bool, true, false, List, [], ◌∷◌, Option, Some, None}
use Rattle.grammar_laws.specs.Grammar.{Symbol, Grammar}
use Rattle.grammar_laws.specs.Grammar.Symbol.{lexeme, rule, mark}
use Rattle.grammar_laws.specs.Lookahead.{Lookahead, begins, empties, KeepsFollowIn, HasNoBinding, BindsAtFront}

module _ {Class Rule Mark : Type 0} where
  -- how many lexemes and notes the symbols take, where each rule takes what is said of it
  abbrev pub total : (Rule → ℕ) → List (Symbol Class Rule Mark) → ℕ
  total size [] = 0
  total size (lexeme c ∷ is) = suc (total size is)
  total size (mark m ∷ is) = suc (total size is)
  total size (rule r ∷ is) = size r + total size is

abbrev pub only_if : Bool → ℕ → ℕ
only_if true n = n
only_if false n = 0

module _ {Class Rule Mark : Type 0} (nullable : Rule → Bool) (rank : Rule → ℕ) where
  -- the greatest rank among the rules before the first lexeme
  abbrev pub reach : List (Symbol Class Rule Mark) → ℕ
  reach [] = 0
  reach (lexeme c ∷ is) = 0
  reach (mark m ∷ is) = reach is
  reach (rule q ∷ is) = max (rank q) (only_if (nullable q) (reach is))

module _ {Lexeme Class Rule Mark State : Type 0} (g : Grammar Lexeme Class Rule Mark State) (a : Lookahead Lexeme Class Rule g.Production) where
  -- one lexeme ahead chooses the production
  pub record IsPredictive : Type 0 where
    -- what begins a production begins its rule, and chooses the production where that is allowed
    pub starts : (r : Rule) (p : g.Production r) (l : Lexeme) → begins g a (g.symbols r p) l ≡ true
        → (a.first r l ≡ true) × (g.allows r p (Some l) ≡ true → a.choose r (Some l) ≡ Some p)
    -- a production that may be empty is chosen before each follower
    pub skips : (r : Rule) (p : g.Production r) (l : Lexeme) → empties g a (g.symbols r p) ≡ true → g.allows r p (Some l) ≡ true
        → a.follow r l ≡ true → a.choose r (Some l) ≡ Some p
    -- and at the end of the text
    pub ends : (r : Rule) (p : g.Production r) → empties g a (g.symbols r p) ≡ true → (a.nullable r ≡ true) × (a.choose r None ≡ Some p)
    -- what is chosen is allowed
    pub allowed : (r : Rule) (p : g.Production r) (l : Option Lexeme) → a.choose r l ≡ Some p → g.allows r p l ≡ true
    -- binding lexemes stand at the front of a production
    pub binds : (r : Rule) (p : g.Production r) → BindsAtFront g a (g.symbols r p)
    -- behind each rule of a production stand its followers alone
    pub follows : (r : Rule) (p : g.Production r) → KeepsFollowIn g a r (g.symbols r p)

  -- each rule has a text, which its shortest productions give
  pub record IsProductive : Type 0 where
    -- a lexeme of each class
    pub sample : Class → Lexeme
    pub sample_admitted : (c : Class) → g.admits c (sample c) ≡ true
    pub shortest : (r : Rule) → g.Production r
    -- the length of the text that they give, notes and rules counted
    pub size : Rule → ℕ
    pub size_is : (r : Rule) → size r ≡ suc (total size (g.symbols r (shortest r)))
    pub unbound : (r : Rule) → HasNoBinding g a (g.symbols r (shortest r))
    -- they are allowed before what is not binding, and at the end
    pub allowed : (r : Rule) (c : Class) → a.binding c ≡ false → g.allows r (shortest r) (Some (sample c)) ≡ true
    pub allowed_last : (r : Rule) → g.allows r (shortest r) None ≡ true

  -- no rule comes to itself before a lexeme: a rule's rank is above the ranks of those that may stand
  -- before the first lexeme of its productions (there is no left recursion)
  pub record IsRanked (rank : Rule → ℕ) (top : ℕ) : Type 0 where
    pub positive : (r : Rule) → 0 < rank r
    pub small : (r : Rule) → rank r ≤ top
    pub lower : (r : Rule) (p : g.Production r) → reach a.nullable rank (g.symbols r p) < rank r
    pub empty : (r : Rule) (p : g.Production r) → empties g a (g.symbols r p) ≡ true → a.nullable r ≡ true
