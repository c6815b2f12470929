-- Own: the symbols of the code as those of the grammar, and which of a rule's productions one lexeme
-- ahead chooses, by its symbols.
use Rattle.std.specs.Prelude.{◌≡◌, ℕ, zero, suc, Bool, true, false, List, [], ◌∷◌, ◌++◌, map, reverse, Option, Some, None, if◌then◌else◌}
use Rattle.std.proofs.Common.{Bor}
use Rattle.tsql_grammar.specs.declared.kind.Kind.{Kind}
use Rattle.tsql_grammar.specs.declared.rule.Class.{Class}
use Rattle.tsql_grammar.specs.declared.rule.Mark.{Mark}
use Rattle.tsql_grammar.specs.declared.rule.Mark.TheVariants.{Enter, Leave}
use Rattle.tsql_grammar.specs.declared.rule.Rule.{Rule}
use Rattle.tsql_grammar.specs.declared.rule.Rule.TheVariants as r
use Rattle.tsql_recognizer.specs.declared.symbol.Symbol.{Symbol as CodeSymbol}
use Rattle.tsql_recognizer.specs.declared.symbol.Symbol.TheVariants as code
use Rattle.tsql_recognizer.specs.declared.step.Step.{Step}
use Rattle.tsql_recognizer.specs.declared.step.Step.TheVariants as step
use Rattle.tsql_grammar.specs.Productions.{Symbols, productions}
use Rattle.tsql_grammar.specs.Terminals.{admits}
use Rattle.tsql_grammar.specs.Lookahead.{first, nullable}
use Rattle.grammar_laws.specs.Grammar.{Symbol}
use Rattle.grammar_laws.specs.Grammar.Symbol.{lexeme, rule, mark}
use Rattle.grammar_laws.specs.Lookahead.{begins_by, empties_by}

abbrev pub symbol_of : CodeSymbol → Symbol Class Rule Mark
symbol_of (code.Lexeme a) = lexeme a
symbol_of (code.Rule a) = rule a
symbol_of (code.Mark a) = mark a

-- the symbols of a production as the code has it, and of one that was found
abbrev pub shown : Bor (List CodeSymbol) → Symbols
shown production = map symbol_of production.now

abbrev pub found_symbols : Option (Bor (List CodeSymbol)) → Option Symbols
found_symbols None = None
found_symbols (Some production) = Some (shown production)

-- the symbols of a stack, whose top is the last of the list
abbrev pub expected : List CodeSymbol → Symbols
expected stack = map symbol_of (reverse stack)

-- the first list of symbols that the kind may begin
abbrev pub first_begun : List Symbols → Kind → Option Symbols
first_begun [] a = None
first_begun (is ∷ more) a = if begins_by admits first nullable is a then Some is else first_begun more a

-- the first that may be empty
abbrev pub first_empty : List Symbols → Option Symbols
first_empty [] = None
first_empty (is ∷ more) = if empties_by nullable is then Some is else first_empty more

abbrev pub or_empty : Option Symbols → List Symbols → Option Symbols
or_empty None ways = first_empty ways
or_empty (Some is) ways = Some is

-- what one lexeme ahead chooses
abbrev pub pick : List Symbols → Option Kind → Option Symbols
pick ways None = first_empty ways
pick ways (Some a) = or_empty (first_begun ways a) ways

-- the productions of a rule, by their symbols
abbrev pub symbols_of_rule : Rule → List Symbols
symbols_of_rule a = map (λ p. p.symbols) (productions [] a)

-- What came of opening a rule: no production is chosen, or its symbols are expected in the rule's place.
abbrev pub Opens : Option Symbols → Bool → Symbols → Symbols → Type 0
Opens None found old new = found ≡ false
Opens (Some is) found old new = (found ≡ true) × (new ≡ is ++ old)

-- so many rules are opened, one after another, each as the kind chooses
abbrev pub Leads : ℕ → Kind → Symbols → Symbols → Type 0
Leads zero k old new = new ≡ old
Leads (suc n) k [] new = ⊥
Leads (suc n) k (lexeme c ∷ is) new = ⊥
Leads (suc n) k (mark m ∷ is) new = ⊥
Leads (suc n) k (rule a ∷ is) new = (chosen : Symbols) × (pick (symbols_of_rule a) (Some k) ≡ Some chosen) × Leads n k (chosen ++ is) new

-- What a rule comes to before a lexeme of the kind, at least one step on.
abbrev pub ComesTo : Kind → Rule → Symbols → Type 0
ComesTo k a new = (n : ℕ) × Leads (suc n) k (rule a ∷ []) new

-- What stands behind a lexeme that is taken: what is left, or that behind what is noted at once.
abbrev pub Follows : Step → Symbols → Symbols → Type 0
Follows step.Stops behind new = ⊥
Follows step.Opens behind new = ⊥
Follows step.Takes behind new = behind ≡ new
Follows step.Enters behind new = behind ≡ mark Enter ∷ new
Follows step.Leaves behind new = behind ≡ mark Leave ∷ new

-- What a step leaves of what is expected: all of it, or what stands behind a lexeme of the kind.
abbrev pub Shows : Kind → Step → Symbols → Symbols → Type 0
Shows k step.Stops top new = ⊥
Shows k step.Opens top new = top ≡ new
Shows k step.Takes top new = (c : Class) × (admits c k ≡ true) × (top ≡ lexeme c ∷ new)
Shows k step.Enters top new = (c : Class) × (admits c k ≡ true) × (top ≡ lexeme c ∷ mark Enter ∷ new)
Shows k step.Leaves top new = (c : Class) × (admits c k ≡ true) × (top ≡ lexeme c ∷ mark Leave ∷ new)

-- It is opened, at least one step on, and so much is left.
abbrev pub Opened : Kind → Rule → Step → Symbols → Symbols → Type 0
Opened k a it old new = (n : ℕ) × (top : Symbols) × Leads (suc n) k (rule a ∷ old) top × Shows k it top new

-- What became of a rule before a lexeme of the kind: no production is chosen, or it is opened, at least one step
-- on, and so much is left.
abbrev pub Develops : Kind → Rule → Step → Symbols → Symbols → Type 0
Develops k a step.Stops old new = pick (symbols_of_rule a) (Some k) ≡ None
Develops k a step.Opens old new = Opened k a step.Opens old new
Develops k a step.Takes old new = Opened k a step.Takes old new
Develops k a step.Enters old new = Opened k a step.Enters old new
Develops k a step.Leaves old new = Opened k a step.Leaves old new

-- rules without a parameter
abbrev pub is_plain : Rule → Bool
is_plain (r.Body a) = false
is_plain (r.Statement a) = false
is_plain (r.OtherStatement a) = false
is_plain (r.AfterBegin a) = false
is_plain (r.Else a) = false
is_plain (r.ThrowArguments a) = false
is_plain (r.AfterItemFunction a) = false
is_plain (r.Opened n) = false
is_plain (r.Operand n) = false
is_plain (r.Compared n) = false
is_plain (r.Tested n) = false
is_plain (r.AfterFunction a) = false
is_plain (r.FunctionArguments a) = false
is_plain _ = true
