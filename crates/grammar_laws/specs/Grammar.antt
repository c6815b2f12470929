-- Own: a context-free grammar as a table, whose productions say what they stand for, and which texts
-- are of it. [Aho, Lam, Sethi and Ullman, Compilers, 4.2: leftmost derivations.] A text is of a list
-- of symbols where a leftmost derivation from them gives it: the definition rewrites the symbols in
-- place, so that no text is ever cut in two. Code reads with a stack, or by descent.
use Rattle.std.specs.Prelude.{◌≡◌, ℕ, zero, suc, Bool, true, List, [], ◌∷◌, ◌++◌, Option, Some, None}

-- one symbol of a production: a lexeme of a class (a terminal), what another rule gives (a
-- nonterminal), or a mark, at which something is noted and no lexeme is taken
pub data Symbol (Class Rule Mark : Type 0) : Type 0 where
  lexeme : Class → Symbol Class Rule Mark
  rule : Rule → Symbol Class Rule Mark
  mark : Mark → Symbol Class Rule Mark

-- the lexeme that comes next, if there is one
abbrev pub next : {A : Type 0} → List A → Option A
next [] = None
next (a ∷ w) = Some a

module _ {Class Rule Mark : Type 0} (Lexeme : Type 0) (Tree : Rule → Type 0) where
  -- what the symbols stand for, in the order of the text: a lexeme for itself, a rule for its value
  abbrev pub Trees : List (Symbol Class Rule Mark) → Type 0
  Trees [] = Unit {0}
  Trees (lexeme c ∷ symbols) = Lexeme × Trees symbols
  Trees (rule r ∷ symbols) = Tree r × Trees symbols
  Trees (mark m ∷ symbols) = Trees symbols

  -- the values of two lists of symbols, one behind the other
  abbrev pub join : (a b : List (Symbol Class Rule Mark)) → Trees a → Trees b → Trees (a ++ b)
  join [] b x y = y
  join (lexeme c ∷ symbols) b x y = (x.0, join symbols b x.1 y)
  join (rule r ∷ symbols) b x y = (x.0, join symbols b x.1 y)
  join (mark m ∷ symbols) b x y = join symbols b x y

-- A grammar: which lexemes are of a class, the productions of each rule with their symbols and what
-- they stand for, and what is noted of a text on the way.
pub record Grammar (Lexeme Class Rule Mark State : Type 0) : Type 1 where
  -- whether the lexeme is of the class
  pub admits : Class → Lexeme → Bool
  -- what is noted behind a lexeme, and at a mark
  pub see : State → Lexeme → State
  pub note : State → Mark → State
  -- what a text of the rule stands for
  pub Tree : Rule → Type 0
  -- the productions of a rule
  pub Production : Rule → Type 0
  pub symbols : (r : Rule) → Production r → List (Symbol Class Rule Mark)
  pub build : (r : Rule) (p : Production r) → Trees Lexeme Tree (symbols r p) → Tree r
  -- before which next lexeme a production may be taken: how an ambiguity of the rules is decided
  pub allows : (r : Rule) → Production r → Option Lexeme → Bool

module _ {Lexeme Class Rule Mark State : Type 0} (g : Grammar Lexeme Class Rule Mark State) where
  -- The text is of the symbols, which stand for the values, and what was noted leads from state s to
  -- t, in h steps at most: a lexeme of the class is taken, something is noted at a mark, or a rule is
  -- replaced by the symbols of one of its productions.
  abbrev pub Derives : ℕ → (symbols : List (Symbol Class Rule Mark)) → List Lexeme → Trees Lexeme g.Tree symbols → State → State → Type 0
  Derives h [] [] vs s t = t ≡ s
  Derives h [] (l ∷ w) vs s t = ⊥
  Derives zero (i ∷ is) w vs s t = ⊥
  Derives (suc h) (lexeme c ∷ is) [] vs s t = ⊥
  Derives (suc h) (lexeme c ∷ is) (l ∷ w) vs s t = (g.admits c l ≡ true) × (vs.0 ≡ l) × Derives h is w vs.1 (g.see s l) t
  Derives (suc h) (mark m ∷ is) w vs s t = Derives h is w vs (g.note s m) t
  Derives (suc h) (rule r ∷ is) w vs s t =
      (p : g.Production r) × (xs : Trees Lexeme g.Tree (g.symbols r p)) × (vs.0 ≡ g.build r p xs) × (g.allows r p (next w) ≡ true)
      × Derives h (g.symbols r p ++ is) w (join Lexeme g.Tree (g.symbols r p) is xs vs.1) s t

  -- The text is of the symbols and stands for the values, and what is noted leads from s to t.
  abbrev pub Reads : (symbols : List (Symbol Class Rule Mark)) → List Lexeme → Trees Lexeme g.Tree symbols → State → State → Type 0
  Reads is w vs s t = (h : ℕ) × Derives h is w vs s t

  -- The text is of the symbols, whatever it stands for.
  abbrev pub Matches : List (Symbol Class Rule Mark) → List Lexeme → State → State → Type 0
  Matches is w s t = (h : ℕ) × (vs : Trees Lexeme g.Tree is) × Derives h is w vs s t
