-- Own: reading by descent, one function a rule [Aho, Lam, Sethi and Ullman, Compilers, 4.4.1]: the
-- value of a rule, and the rest of the text behind it. Nothing is noted, and no production is tried
-- twice: the next lexeme chooses it. The number bounds how deep the functions call one another.
use Rattle.std.specs.Prelude.{ℕ, zero, suc, List, [], ◌∷◌, Option, Some, None, if◌then◌else◌}
use Rattle.grammar_laws.specs.Grammar.{Symbol, Trees, Grammar, next}
use Rattle.grammar_laws.specs.Grammar.Symbol.{lexeme, rule, mark}
use Rattle.grammar_laws.specs.Lookahead.{Lookahead}

-- what is read goes into what follows; nothing follows where nothing is read
infixl 10 ◌>>=◌
abbrev pub ◌>>=◌ : {A B : Type 0} → Option A → (A → Option B) → Option B
None >>= f = None
(Some a) >>= f = f a

module _ {Lexeme Class Rule Mark State : Type 0} (g : Grammar Lexeme Class Rule Mark State) (a : Lookahead Lexeme Class Rule g.Production) where
  -- a value of each rule, and the rest of the text
  abbrev pub Reader : Type 0
  Reader = (r : Rule) → List Lexeme → Option (g.Tree r × List Lexeme)

  -- one lexeme of the class
  abbrev pub expect : Class → List Lexeme → Option (Lexeme × List Lexeme)
  expect c [] = None
  expect c (l ∷ w) = if g.admits c l then Some (l, w) else None

  -- the symbols one after another, and then what is done with their values
  abbrev pub read_all : {B : Type 0} → Reader → (is : List (Symbol Class Rule Mark)) → List Lexeme → (Trees Lexeme g.Tree is → List Lexeme → Option B) → Option B
  read_all f [] w k = k tt w
  read_all f (lexeme c ∷ is) w k = expect c w >>= λ x. read_all f is x.1 (λ v rest. k (x.0, v) rest)
  read_all f (mark m ∷ is) w k = read_all f is w k
  read_all f (rule r ∷ is) w k = f r w >>= λ x. read_all f is x.1 (λ v rest. k (x.0, v) rest)

  -- the symbols of the production that was chosen
  abbrev pub read_by : Reader → (r : Rule) → List Lexeme → Option (g.Production r) → Option (g.Tree r × List Lexeme)
  read_by f r w None = None
  read_by f r w (Some p) = read_all f (g.symbols r p) w (λ v rest. Some (g.build r p v, rest))

  unfoldable pub read : ℕ → Reader
  read zero r w = None
  read (suc n) r w = read_by (read n) r w (a.choose r (next w))
