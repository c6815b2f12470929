-- Own: the grammar of Transact-SQL, put together: which texts are of a rule, and what they stand for.
use Rattle.std.specs.Prelude.{ℕ, ◌+◌, ◌*◌, ◌≤◌, List, [], ◌∷◌, length, take, drop, Option}
use Rattle.tsql_grammar.specs.declared.kind.Kind.{Kind}
use Rattle.tsql_grammar.specs.declared.rule.Class.{Class}
use Rattle.tsql_grammar.specs.declared.rule.Mark.{Mark}
use Rattle.tsql_grammar.specs.declared.rule.Rule.{Rule}
use Rattle.tsql_grammar.specs.Terminals.{Terminal, kind, admits}
use Rattle.tsql_grammar.specs.Productions.{Tree, productions}
use Rattle.tsql_grammar.specs.Lookahead.{first, further, nullable, nearest, binding}
use Rattle.tsql_grammar.specs.Noted.{Noted, see, note}
use Rattle.grammar_laws.specs.Grammar.{Reads}
use Rattle.grammar_laws.specs.Grammar.Symbol.{rule}
use Rattle.grammar_laws.specs.BySymbols.{IsOf}
use Rattle.grammar_laws.specs.Prefix.{StopsAt}
use Rattle.grammar_laws.specs.Alternatives.{KindGrammar, grammar_of, lookahead_of}
use Rattle.grammar_laws.specs.Descent.{read}

-- the grammar, for a batch's text
abbrev pub language : List ℕ → KindGrammar Terminal Class Rule Mark Noted Kind
language text = record {
  kind = kind;
  admits = admits;
  see = see;
  note = note;
  Tree = Tree;
  alternatives = productions text;
  first = first;
  further = further;
  nullable = nullable;
  nearest = nearest;
  binding = binding;
}

-- The lexemes are a text of the rule and stand for the tree, and what is noted leads from s to t.
abbrev pub ReadsAs : List ℕ → (a : Rule) → List Terminal → Tree a → Noted → Noted → Type 0
ReadsAs text a w tree s t = Reads (grammar_of (language text)) (rule a ∷ []) w (tree, tt) s t

-- The same, cut into the pieces of a production.
abbrev pub IsCut : List ℕ → (a : Rule) → List Terminal → Tree a → Noted → Noted → Type 0
IsCut text a w tree s t = IsOf (grammar_of (language text)) a w tree s t

-- The first lexemes, so many of them, are the longest part that begins a text of the rule, and the
-- whole is none.
abbrev pub StopsIn : List ℕ → Rule → List Terminal → Noted → ℕ → Type 0
StopsIn text a w s at = (at ≤ length w) × StopsAt (grammar_of (language text)) (rule a ∷ []) s (take at w) (drop at w)

-- no rule comes to itself in so many steps without a lexeme
abbrev pub top : ℕ
top = 10

-- what reading by descent gives: the tree, and the lexemes behind it
abbrev pub read_rule : List ℕ → (a : Rule) → List Terminal → Option (Tree a × List Terminal)
read_rule text a w = read (grammar_of (language text)) (lookahead_of (language text)) (top * length w + top) a w
