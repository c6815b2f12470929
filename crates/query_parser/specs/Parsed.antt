-- Own: what parsing a select, a test or an expression from a lexeme on gives: the tree of the longest
-- run of lexemes that begins some text of the rule, or why it gives none. The definitions speak of all
-- texts of the rule; code reads with a stack, and then by descent.
use Rattle.std.specs.Prelude.{◌≡◌, ◌≤◌, ◌+◌, ℕ, suc, Bool, true, false, List, [], ◌∷◌, ◌++◌, length, take, drop, Option, Some, None, Result, Ok, Err, ℤ, pos}
use Rattle.std.specs.Fmt.{signed_decimal}
use Rattle.std.specs.List.{slice_get}
use Rattle.tsql_lexer.specs.declared.lexeme.Lexeme.{Lexeme}
use Rattle.tsql_lexer.specs.declared.lexeme.Lexeme.TheVariants as x
use Rattle.tsql_lexer.specs.declared.lexeme.Spanned.{Spanned}
use Rattle.tsql_lexer.specs.Signs.{sign_spellings}
use Rattle.tsql_grammar.specs.declared.noted.TextFault.{TextFault}
use Rattle.tsql_grammar.specs.declared.kind.Kind.TheVariants as k
use Rattle.tsql_grammar.specs.declared.kind.Reserved.TheVariants as word
use Rattle.tsql_grammar.specs.declared.rule.Rule.{Rule}
use Rattle.tsql_grammar.specs.declared.rule.Rule.TheVariants as r
use Rattle.tsql_grammar.specs.Language.{language, ReadsAs}
use Rattle.tsql_grammar.specs.Noted.{Noted, start}
use Rattle.tsql_grammar.specs.Productions.{Tree}
use Rattle.tsql_grammar.specs.Terminals.{Terminal, terminals}
use Rattle.tsql_grammar.specs.Kinds.{same_kind}
use Rattle.tsql_grammar.specs.Words.{kind_of}
use Rattle.grammar_laws.specs.Grammar.{Matches}
use Rattle.grammar_laws.specs.Grammar.Symbol.{rule}
use Rattle.grammar_laws.specs.Alternatives.{grammar_of}
use Rattle.tsql_grammar.specs.declared.fault.ParseFault.{ParseFault}
use Rattle.tsql_grammar.specs.declared.fault.ParseFault.TheVariants as fault
use Rattle.query_parser.specs.declared.run.Run.{Run}
use Rattle.query_parser.specs.declared.run.Run.TheVariants as run

-- The lexemes begin some text of the rule. Variables are not judged.
abbrev pub Begins : Rule → List Terminal → Type 0
Begins a past = (w : List Terminal) × (t : Noted) × Matches (grammar_of (language [])) (rule a ∷ []) (past ++ w) (start false) t

-- Of the lexemes the first, so many of them, are the longest part that begins a text of the rule.
pub record IsLongest (a : Rule) (w : List Terminal) (n : ℕ) : Type 0 where
  pub within : n ≤ length w
  pub begins : Begins a (take n w)
  pub further : suc n ≤ length w → Begins a (take (suc n) w) → ⊥

-- The lexemes are a text of the rule, which stands for the tree, and this is the first thing in it that
-- is wrong: where variables are not judged, it nests too deep.
abbrev pub ReadsWith : (a : Rule) → List Spanned → Tree a → Option (TextFault × ℕ) → Type 0
ReadsWith a text tree fault = (t : Noted) × ReadsAs [] a (terminals text) tree (start false) t × (t.fault ≡ fault)

-- What the longest run is: a text of the rule, one that nests too deep at a lexeme of it, or none.
abbrev pub IsRun : Rule → List Spanned → Run → Type 0
IsRun a text (run.Reads n) = IsLongest a (terminals text) n × (tree : Tree a) × ReadsWith a (take n text) tree None
IsRun a text (run.TooDeep n place) = IsLongest a (terminals text) n × (tree : Tree a) × (fault : TextFault) × ReadsWith a (take n text) tree (Some (fault, place))
IsRun a text (run.Stops n) = IsLongest a (terminals text) n × ((tree : Tree a) (t : Noted) → ReadsAs [] a (terminals (take n text)) tree (start false) t → ⊥)

-- the run of so many lexemes, by what is wrong in it
unfoldable pub run_with : ℕ → Option (TextFault × ℕ) → Run
run_with n None = run.Reads n
run_with n (Some (fault, place)) = run.TooDeep n place

-- the numbers of the errors
abbrev pub syntax_error : ℤ
syntax_error = pos 102

abbrev pub too_deep : ℤ
too_deep = pos 49009

-- what a lexeme holds, as it is shown: a sign by its first spelling
abbrev pub first_of : List (List ℕ) → List ℕ
first_of [] = []
first_of (spelling ∷ more) = spelling

abbrev pub shown : Lexeme → List ℕ
shown (x.Word u) = u
shown (x.Quoted u) = u
shown (x.Variable u) = u
shown (x.SystemName u) = u
shown (x.Text u) = u
shown (x.Number n) = signed_decimal n
shown (x.Sign a) = first_of (sign_spellings a)

-- the line of the lexeme at a place; past the last lexeme it is that one's, or 1
abbrev pub line_of : ℕ → Option Spanned → ℕ
line_of last None = last
line_of last (Some l) = l.line

abbrev pub last_line : ℕ → List Spanned → ℕ
last_line line [] = line
last_line line (l ∷ text) = last_line l.line text

abbrev pub line_at : List Spanned → ℕ → ℕ
line_at text at = line_of (last_line 1 text) (slice_get text at)

-- what the lexeme at a place holds; past the last there is nothing
abbrev pub near_of : Option Spanned → List ℕ
near_of None = []
near_of (Some l) = shown l.lexeme

abbrev pub near_at : List Spanned → ℕ → List ℕ
near_at text at = near_of (slice_get text at)

-- what is said of a run from a place on that gives no tree
abbrev pub IsRefusal : List Spanned → ℕ → Run → ℤ → ℕ → List ℕ → Type 0
IsRefusal text at (run.Reads n) number line near = ⊥
IsRefusal text at (run.TooDeep n place) number line near = (number ≡ too_deep) × (line ≡ line_at text (at + place)) × (near ≡ [])
IsRefusal text at (run.Stops n) number line near = (number ≡ syntax_error) × (line ≡ line_at text (at + n)) × (near ≡ near_at text (at + n))

abbrev pub IsSaid : List Spanned → ℕ → Run → ParseFault → Type 0
IsSaid text at found (fault.Refused number line near) = IsRefusal text at found number line near
IsSaid text at found fault.Memory = Unit {0}

-- What parsing from the lexeme at a place on gives: the tree and the place behind its run; or why there
-- is none. Where memory was wanting, nothing is said.
abbrev pub IsFault : Rule → List Spanned → ℕ → ParseFault → Type 0
IsFault a text at (fault.Refused number line near) = (found : Run) × IsRun a (drop at text) found × IsRefusal text at found number line near
IsFault a text at fault.Memory = Unit {0}

abbrev pub IsParsed : (a : Rule) → List Spanned → ℕ → Result (Tree a × ℕ) ParseFault → Type 0
IsParsed a text at (Ok parsed) = (n : ℕ) × (parsed.1 ≡ at + n) × IsLongest a (terminals (drop at text)) n × ReadsWith a (take n (drop at text)) parsed.0 None
IsParsed a text at (Err e) = IsFault a text at e

-- A select is SELECT and a text of its rule: the same behind that word, which has to come first.
abbrev pub begins_select : Option Spanned → Bool
begins_select None = false
begins_select (Some l) = same_kind (kind_of l.lexeme) (k.Reserved word.Select)

abbrev pub IsUnbegun : List Spanned → ℕ → ParseFault → Type 0
IsUnbegun text at (fault.Refused number line near) = (number ≡ syntax_error) × (line ≡ line_at text at) × (near ≡ near_at text at)
IsUnbegun text at fault.Memory = Unit {0}

abbrev pub IsSelectBehind : List Spanned → ℕ → Bool → Result (Tree r.Select × ℕ) ParseFault → Type 0
IsSelectBehind text at true result = IsParsed r.Select text (at + 1) result
IsSelectBehind text at false (Ok parsed) = ⊥
IsSelectBehind text at false (Err e) = IsUnbegun text at e

abbrev pub IsParsedSelect : List Spanned → ℕ → Result (Tree r.Select × ℕ) ParseFault → Type 0
IsParsedSelect text at result = IsSelectBehind text at (begins_select (slice_get text at)) result
