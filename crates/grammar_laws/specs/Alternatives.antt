-- Own: a grammar written down as lists, the alternatives of each rule. What the next lexeme tells
-- depends on its kind alone, and there are finitely many kinds, so all that the laws ask can be
-- tried out. The sets FIRST and "may be empty" are given with the rules, and so are the kinds with
-- which a text of the rule may go on, which are fewer than FOLLOW and need no look at other rules.
use Rattle.std.specs.Prelude.{Bool, true, not, ◌&&◌, List, [], ◌∷◌, Option, Some, None, if◌then◌else◌}
use Rattle.grammar_laws.specs.Grammar.{Symbol, Trees, Grammar}
use Rattle.grammar_laws.specs.Grammar.Symbol.{lexeme, rule, mark}
use Rattle.grammar_laws.specs.Lookahead.{Lookahead, begins_by, empties_by}

module _ {Rule : Type 0} (Lexeme Class Mark : Type 0) (Tree : Rule → Type 0) where
  -- one production of a rule: its symbols, and what it stands for
  pub record Alternative (r : Rule) : Type 0 where
    pub symbols : List (Symbol Class Rule Mark)
    pub build : Trees Lexeme Tree symbols → Tree r

module _ {Class Rule Mark : Type 0} (Lexeme : Type 0) (Tree : Rule → Type 0) where
  -- what a production stands for, as a function of its lexemes and trees one after another
  abbrev pub Builds : List (Symbol Class Rule Mark) → Type 0 → Type 0
  Builds [] T = T
  Builds (lexeme c ∷ is) T = Lexeme → Builds is T
  Builds (rule r ∷ is) T = Tree r → Builds is T
  Builds (mark m ∷ is) T = Builds is T

  abbrev pub built : (is : List (Symbol Class Rule Mark)) (T : Type 0) → Builds is T → Trees Lexeme Tree is → T
  built [] T b v = b
  built (lexeme c ∷ is) T b v = built is T (b v.0) v.1
  built (rule r ∷ is) T b v = built is T (b v.0) v.1
  built (mark m ∷ is) T b v = built is T b v

  -- a production from its symbols and such a function
  abbrev pub way : {r : Rule} (is : List (Symbol Class Rule Mark)) → Builds is (Tree r) → Alternative Lexeme Class Mark Tree r
  way {r = r} is b = record { symbols = is; build = built is (Tree r) b }

-- an index into a list: its first member, or one behind it
abbrev pub IndexOf : {A : Type 0} → List A → Type 0
IndexOf [] = ⊥
IndexOf (x ∷ xs) = Option (IndexOf xs)

abbrev pub at : {A : Type 0} (xs : List A) → IndexOf xs → A
at [] i = absurd i
at (x ∷ xs) None = x
at (x ∷ xs) (Some i) = at xs i

abbrev pub behind : {A : Type 0} (x : A) (xs : List A) → Option (IndexOf xs) → Option (IndexOf (x ∷ xs))
behind x xs None = None
behind x xs (Some i) = Some (Some i)

-- the index of the first member of which this holds
abbrev pub first_where : {A : Type 0} → (A → Bool) → (xs : List A) → Option (IndexOf xs)
first_where f [] = None
first_where f (x ∷ xs) = if f x then Some None else behind x xs (first_where f xs)

abbrev pub or_else : {A : Type 0} → Option A → Option A → Option A
or_else None b = b
or_else (Some a) b = Some a

-- A grammar as alternatives, and what one kind ahead tells of each rule.
pub record KindGrammar (Lexeme Class Rule Mark State Kind : Type 0) : Type 1 where
  pub kind : Lexeme → Kind
  pub admits : Class → Kind → Bool
  pub see : State → Lexeme → State
  pub note : State → Mark → State
  pub Tree : Rule → Type 0
  pub alternatives : (r : Rule) → List (Alternative Lexeme Class Mark Tree r)
  -- the kind may begin a text of the rule
  pub first : Rule → Kind → Bool
  -- a whole text of the rule may go on with the kind, and be one still
  pub further : Rule → Kind → Bool
  -- the empty text is of the rule
  pub nullable : Rule → Bool
  -- the rule may be left out only where nothing comes that can begin it, as ELSE, which belongs to
  -- the nearest open IF
  pub nearest : Rule → Bool
  -- the classes of what may begin such a rule
  pub binding : Class → Bool

module _ {Lexeme Class Rule Mark State Kind : Type 0} (t : KindGrammar Lexeme Class Rule Mark State Kind) where
  abbrev Symbols : Type 0
  Symbols = List (Symbol Class Rule Mark)

  abbrev pub may_begin : Symbols → Kind → Bool
  may_begin is k = begins_by t.admits t.first t.nullable is k

  abbrev pub may_be_empty : Symbols → Bool
  may_be_empty is = empties_by t.nullable is

  -- the kind may stand behind a text of the rule: one that may go on with it has to
  abbrev pub follow : Rule → Kind → Bool
  follow r k = not (t.further r k)

  abbrev pub kind_of : Option Lexeme → Option Kind
  kind_of None = None
  kind_of (Some l) = Some (t.kind l)

  abbrev pub AlternativeOf : Rule → Type 0
  AlternativeOf r = IndexOf (t.alternatives r)

  abbrev pub symbols_of : (r : Rule) → AlternativeOf r → Symbols
  symbols_of r p = (at (t.alternatives r) p).symbols

  -- before which kind an alternative may be taken
  abbrev pub may_take : (r : Rule) → AlternativeOf r → Option Kind → Bool
  may_take r p None = true
  may_take r p (Some k) = not (t.nearest r && (may_be_empty (symbols_of r p) && t.first r k))

  -- the first alternative that the kind may begin, else the first that may be empty
  abbrev pub choose : (r : Rule) → Option Kind → Option (AlternativeOf r)
  choose r None = first_where (λ alternative. may_be_empty alternative.symbols) (t.alternatives r)
  choose r (Some k) = or_else (first_where (λ alternative. may_begin alternative.symbols k) (t.alternatives r)) (first_where (λ alternative. may_be_empty alternative.symbols) (t.alternatives r))

  -- the grammar of the alternatives
  abbrev pub grammar_of : Grammar Lexeme Class Rule Mark State
  grammar_of = record {
    admits = λ c l. t.admits c (t.kind l);
    see = t.see;
    note = t.note;
    Tree = t.Tree;
    Production = AlternativeOf;
    symbols = symbols_of;
    build = λ r p. (at (t.alternatives r) p).build;
    allows = λ r p l. may_take r p (kind_of l);
  }

  -- what a lexeme ahead tells, by its kind
  abbrev pub lookahead_of : Lookahead Lexeme Class Rule grammar_of.Production
  lookahead_of = record {
    first = λ r l. t.first r (t.kind l);
    follow = λ r l. follow r (t.kind l);
    nullable = t.nullable;
    choose = λ r l. choose r (kind_of l);
    binding = t.binding;
  }
